use Rattle.std.proofs.Common.{◌≡◌, ℕ, ◌==◌, filter, take}
use Rattle.ixp_ixf.specs.Rows.{rows_of}
use Rattle.ixp_ixf.proofs.index.Index.of.Given as goal

abbrev pub invariant-loop-row : goal.invariant-loop-row
invariant-loop-row g l = (n : ℕ) → rows_of l.index n ≡ filter (λ row. g.T.Owned.owner row == n) (take l.row-index l.rows)
