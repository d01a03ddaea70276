use Rattle.std.proofs.Common.{ap, ◌∙◌}
use Rattle.ixp_compile.specs.declared.inputs.Inputs.{Inputs}
use Rattle.ixp_compile.specs.Fragment.{receive_name}
use Rattle.ixp_compile.specs.MemberRules.{receive_body}
use Rattle.ixp_compile_pieces.specs.Items.{receive_item}
use Rattle.ixp_compile_pieces.proofs.Bodies.{function_made}
use Rattle.ixp_compile_sessions.proofs.session.add_receive.Goals as goal

pub returns : goal.returns
unfolding receive_item
returns c =
    function_made _ _ _ _ _ _ _ (c.in_ok-name.ensures ∙ ap (λ (i : Inputs). receive_name i.interface) c.i.view_is)
    (c.in_ok-body.ensures ∙ ap (λ (i : Inputs). receive_body i.family i.rules) c.i.view_is)
    c.in_ok-add_function.ensures
