use Rattle.std.proofs.Common.{ap₂, ◌∙◌}
use Rattle.ixp_compile.specs.Fragment.{in_body}
use Rattle.ixp_compile_pieces.proofs.WholeParts.{part_is}
use Rattle.ixp_compile_sessions.proofs.session.add_fragment.Goals as goal

pub returns : goal.returns
returns c =
    part_is c.args.i.now c.args.irr c.args.blackholes _ _ _ _ _ c.in_ok-add_table.ensures c.in_ok-add_member_sets.ensures
    (c.in_ok-add_filters.ensures c.args.irr c.args.blackholes
    (c.in_ok-body.ensures ∙ ap₂ (λ ts us. in_body c.args.i.now ts us) c.as_slice-allowed.ensures c.as_slice-covered.ensures))
    c.in_ok-add_protocols.ensures
