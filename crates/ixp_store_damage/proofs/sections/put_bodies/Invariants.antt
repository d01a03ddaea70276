use Rattle.std.proofs.Common.{◌≡◌, ◌++◌, drop, flat_map}
use Rattle.ixp_store_damage.specs.Loading.{row_text}
use Rattle.ixp_store_damage.specs.Placing.{placed_entry}
use Rattle.ixp_store_damage.proofs.sections.put_bodies.Given as goal

abbrev pub invariant-loop-placed : goal.invariant-loop-placed
invariant-loop-placed g l = l.out.items ++ flat_map (λ p. row_text g.R.Lined.row_kind (placed_entry p)) (drop l.placed-index l.rows) ≡ l.fn.out.items ++ flat_map (λ p. row_text g.R.Lined.row_kind (placed_entry p)) l.rows
