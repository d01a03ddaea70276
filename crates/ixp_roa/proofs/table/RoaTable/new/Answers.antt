use Rattle.std.proofs.Common.{sym, ap, ◌∙◌}
use Rattle.std.specs.List.{list_any}
use Rattle.ixp_roa.specs.Climbs.{at_places}
use Rattle.ixp_roa.proofs.SameRows.{same_any}
use Rattle.ixp_roa.proofs.table.RoaTable.new.Goals as goal

pub invariant_of-result : goal.invariant_of-result
invariant_of-result c test =
    let same = same_any test c.args.rows.now c.in_ok-ordered.ordered c.in_ok-ordered.ensures.keeps c.in_ok-ordered.ensures.adds_none in
    ap (λ rows. list_any test (at_places rows c.in_ok-places.places.items)) c.in_ok-index.ensures ∙ (ap (list_any test) c.in_ok-places.ensures ∙ (same ∙ ap (list_any test) (sym c.in_ok-index.ensures)))
