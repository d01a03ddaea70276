use Rattle.std.proofs.Common.{subst}
use Rattle.std.specs.Option.{option_map}
use Rattle.ixp_compile_laws.specs.Texts.{IsTextOf}
use Rattle.ixp_cli_plain.proofs.Generating.{generated_is}
use Rattle.ixp_cli_plain.proofs.generation.router_text.Goals as goal

pub returns-in-Ok-Some-clause-output : goal.returns-in-Ok-Some-clause-output
returns-in-Ok-Some-clause-output c =
    generated_is c.in_ok-registry.registry c.args.router c.args.input.now c.in-Ok-Some.text.items c.in_ok-registry.ensures.registry
    (subst (λ o. IsTextOf c.in_ok-registry.registry c.args.router (option_map (λ v. v.items) o)) c.in-Ok-Some.field-0-is c.in-Ok-Some.ensures)
