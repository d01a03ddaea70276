use Rattle.std.proofs.Common.{ap, ◌∙◌}
use Rattle.ixp_compile.specs.declared.inputs.Inputs.{Inputs}
use Rattle.ixp_compile.specs.Fragment.{down_name}
use Rattle.ixp_compile_pieces.specs.Items.{down_item}
use Rattle.ixp_compile_pieces.proofs.Bodies.{filter_made}
use Rattle.ixp_compile_sessions.proofs.session.add_down.Goals as goal

pub returns : goal.returns
unfolding down_item
returns c =
    filter_made _ _ _ _ _ _ (c.in_ok-name.ensures ∙ ap (λ (i : Inputs). down_name i.interface) c.i.view_is) c.in_ok-body.ensures
    c.in_ok-add_filter.ensures
