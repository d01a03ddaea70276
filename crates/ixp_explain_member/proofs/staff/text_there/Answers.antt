use Rattle.std.proofs.Common.{subst}
use Rattle.std.specs.Option.{option_map}
use Rattle.ixp_compile_laws.specs.Texts.{IsTextOf}
use Rattle.ixp_explain_member.proofs.Explaining.{text_is, text_found}
use Rattle.ixp_explain_member.proofs.staff.text_there.Goals as goal

pub returns-in-Ok-Some : goal.returns-in-Ok-Some
returns-in-Ok-Some c =
    text_is c.args.registry.now c.args.handle.now c.in-Ok-Some.text.items c.args.router.now c.requires.there
    (subst (λ o. IsTextOf c.args.registry.now c.args.handle.now (option_map (λ v. v.items) o)) c.in-Ok-Some.field-0-is c.in-Ok-Some.ensures)

pub unreachable-requires : goal.unreachable-requires
unreachable-requires c =
    text_found c.args.registry.now c.args.handle.now c.args.router.now c.requires.there
    (subst (λ o. IsTextOf c.args.registry.now c.args.handle.now (option_map (λ v. v.items) o)) c.in-Ok-None.field-0-is c.in-Ok-None.ensures)
