use Rattle.std.proofs.Common.{◌≡◌, ◌++◌, drop, Bool, true, false, List, ℕ}
use Rattle.ixp_num_tables.specs.Joined.{joined, more_joined}
use Rattle.ixp_num_tables.proofs.text.write_joined.Given as goal

-- what is left, after others or none
abbrev pub rest_of : {A : Type 0} → Bool → List ℕ → (A → List ℕ) → List A → List ℕ
rest_of true between text xs = joined between text xs
rest_of false between text xs = more_joined between text xs

abbrev pub invariant-loop-item : goal.invariant-loop-item
invariant-loop-item g l =
    let shown = g.W.Writes.text_of in
    l.text.items ++ rest_of l.is_first l.between shown (drop l.item-index l.items) ≡ l.fn.text.items ++ joined l.between shown l.items
