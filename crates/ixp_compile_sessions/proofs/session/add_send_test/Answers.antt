use Rattle.std.proofs.Common.{codes, [], ◌∷◌, ap, ◌∙◌}
use Rattle.ixp_lang.specs.Trees.{call, exprs, negation}
use Rattle.ixp_compile.specs.declared.inputs.Inputs.{Inputs}
use Rattle.ixp_compile.specs.Pieces.{int}
use Rattle.ixp_compile_pieces.proofs.Bodies.{rejected}
use Rattle.ixp_compile_sessions.proofs.session.add_send_test.Goals as goal

pub returns : goal.returns
returns c =
    rejected _ _ _ _
    (c.in_ok-test.ensures
    ∙ ap negation (c.in_ok-sends.ensures ∙ ap (λ (i : Inputs). call (codes "ixp_sends") (exprs (int i.asn.0 ∷ []))) c.i.view_is))
    c.in_ok-add_reject_if.ensures
