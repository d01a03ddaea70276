use Rattle.std.proofs.Common.{◌≡◌, ◌++◌, drop, Bool, true, false, List, ℕ, codes}
use Rattle.ixp_num_tables.specs.Joined.{joined, more_joined}
use Rattle.ixp_ixf.specs.Rows.{shown}
use Rattle.ixp_ixf.proofs.lists.put_shown.Given as goal

-- what is left, after others or none
abbrev pub rest_of : {A : Type 0} → Bool → (A → List ℕ) → List A → List ℕ
rest_of true text xs = joined (codes ",") text xs
rest_of false text xs = more_joined (codes ",") text xs

abbrev pub invariant-loop-item : goal.invariant-loop-item
invariant-loop-item g l =
    let text = g.S.Shows.text_of l.shows in
    l.out.items ++ rest_of l.is_first text (shown (drop l.item-index l.items))
    ≡ l.fn.out.items ++ joined (codes ",") text (shown l.items)
