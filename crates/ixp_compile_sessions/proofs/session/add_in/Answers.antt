use Rattle.std.proofs.Common.{ap, ◌∙◌}
use Rattle.ixp_compile.specs.declared.inputs.Inputs.{Inputs}
use Rattle.ixp_compile.specs.Fragment.{in_name}
use Rattle.ixp_compile_pieces.specs.Items.{in_item}
use Rattle.ixp_compile_pieces.proofs.Bodies.{filter_made}
use Rattle.ixp_compile_sessions.proofs.session.add_in.Goals as goal

pub returns : goal.returns
unfolding in_item
returns c =
    λ irr blackholes same.
    filter_made _ _ _ _ _ _ (c.in_ok-name.ensures ∙ ap (λ (i : Inputs). in_name i.interface) c.i.view_is) same c.in_ok-add_filter.ensures
