use Rattle.std.proofs.Common.{Ok, subst}
use Rattle.ixp_rows.specs.Dumps.{RegistryAnswer, version_in}
use Rattle.ixp_cli_plain.proofs.Fating.{not_fated}
use Rattle.ixp_cli_plain.proofs.fate.fate.Goals as goal

pub returns-clause-refusal : goal.returns-clause-refusal
returns-clause-refusal c =
    not_fated c.args.input.now c.in-Ok.registry c.in-Ok-route_of.route c.in-Err-fate_in.why
    (subst (λ t. RegistryAnswer (version_in t) t (Ok c.in-Ok.registry)) c.dump_part.ensures.part c.in-Ok.ensures.registry) c.in-Ok-route_of.ensures.route c.in-Err-fate_in.ensures.refusal
