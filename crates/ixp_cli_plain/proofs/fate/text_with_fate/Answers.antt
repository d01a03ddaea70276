use Rattle.std.proofs.Common.{◌∙◌, subst}
use Rattle.std.specs.Option.{option_map}
use Rattle.ixp_compile_laws.specs.Texts.{IsTextOf}
use Rattle.ixp_cli_plain.proofs.Fating.{a_fate, text_is}
use Rattle.ixp_cli_plain.proofs.fate.text_with_fate.Goals as goal

pub fate_by-requires-clause-text : goal.fate_by-requires-clause-text
fate_by-requires-clause-text c =
    c.as_slice.ensures.value
    ∙ text_is c.args.registry.now c.args.route.now.router c.in-Some.text.items c.args.router.now c.requires.there
    (subst (λ o. IsTextOf c.args.registry.now c.args.route.now.router (option_map (λ v. v.items) o)) c.in-Some.is c.in_ok-text.ensures)

pub returns : goal.returns
returns c =
    a_fate c.args.registry.now c.args.route.now c.args.router.now c.in-Some.text.items c.print_fate.new.out.items c.in_ok-fate.fate c.requires.valid c.requires.there c.requires.sender
    (text_is c.args.registry.now c.args.route.now.router c.in-Some.text.items c.args.router.now c.requires.there
    (subst (λ o. IsTextOf c.args.registry.now c.args.route.now.router (option_map (λ v. v.items) o)) c.in-Some.is c.in_ok-text.ensures))
    c.in_ok-fate.ensures c.in_ok-print_fate.ensures.ok
