use Rattle.std.proofs.Common.{◌≡◌, ◌++◌, List, ℕ, Some, rules, ap, ◌∙◌}
use Rattle.ixp_print.specs.Texts.{config_text}
use Rattle.ixp_registry.specs.Sessions.{session_at}
use Rattle.ixp_compile.specs.declared.inputs.Inputs.{Inputs}
use Rattle.ixp_compile.specs.Generated.{session_part}
use Rattle.ixp_policy.specs.Views.{session_of}
use Rattle.ixp_compile_text.proofs.SessionTexts.{text_of_session}
use Rattle.ixp_compile_text.proofs.texts.put_session.Goals as goal

pub returns-clause-part : goal.returns-clause-part
returns-clause-part c =
    let r = c.args.registry.now in
    let q = c.args.router.now in
    let s = session_of c.in-Some.session in
    let is : session_at r q c.args.interface.now ≡ Some s = search rules in
    c.in_ok-put_fragment.ensures
    ∙ ap (λ (t : List ℕ). c.args.out.now.items ++ t)
    (ap (λ (x : Inputs). config_text (session_part x)) c.inputs_in_rows-i.ensures ∙ text_of_session r q c.args.interface.now s is)
