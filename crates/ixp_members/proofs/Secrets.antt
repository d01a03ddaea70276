-- Secrets of other lengths differ.
use Rattle.std.proofs.Common.{◌≡◌, Bool, true, false, ℕ, List, length, refl, ap}
use Rattle.ixp_num_tables.specs.Tables.{same}
use Rattle.ixp_num_tables.proofs.Counts.{same_is}

pub lengths_differ : (a b : List ℕ) → (length a ≡ length b → ⊥) → same a b ≡ false
lengths_differ a b differ = by_test (same a b) refl
  where
    by_test : (t : Bool) → same a b ≡ t → t ≡ false
    by_test true is = absurd (differ (ap length (same_is a b is)))
    by_test false is = refl
