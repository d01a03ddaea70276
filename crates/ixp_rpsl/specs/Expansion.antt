-- Which sets a set leads to.
use Rattle.std.specs.Prelude.{◌-◌, ◌++◌, ◌&&◌, ◌||◌, ◌==◌, ℕ, Bool, true, false, not, List, [], ◌∷◌, Option, Some, None, if◌then◌else◌, nat_le, IsTrue}
use Rattle.std.specs.List.{list_any, list_all, slice_get}
use Rattle.std.specs.Str.{bytes_eq}
use Rattle.ixp_rpsl.specs.declared.objects.Item.{Item}
use Rattle.ixp_rpsl.specs.declared.objects.Item.TheVariants as item
use Rattle.ixp_rpsl.specs.declared.objects.SetRow.{SetRow}
use Rattle.ixp_rpsl.specs.declared.objects.Reach.{Reach}

-- the sets among items, in order
abbrev pub sets_in : List Item → List (List ℕ)
sets_in [] = []
sets_in (item.As n ∷ is) = sets_in is
sets_in (item.Set n ∷ is) = n ∷ sets_in is

-- the sets among the members of the objects of this name, in order
abbrev pub member_sets : List SetRow → List ℕ → List (List ℕ)
member_sets [] n = []
member_sets (r ∷ rs) n = if bytes_eq r.name n then sets_in r.members ++ member_sets rs n else member_sets rs n

abbrev pub is_among : List (List ℕ) → List ℕ → Bool
is_among names n = list_any (λ m. bytes_eq m n) names

abbrev pub has_name : List Reach → List ℕ → Bool
has_name c n = list_any (λ r. bytes_eq r.set n) c

-- the sets that a finite chain of members leads to from the root
pub data Leads (rows : List SetRow) (root : List ℕ) : List ℕ → Type 0 where
  Root : Leads rows root root
  Member : (n m : List ℕ) → Leads rows root n → IsTrue (is_among (member_sets rows n) m) → Leads rows root m

-- X has the root, and with each set the sets among its members
abbrev pub Closed : List SetRow → List ℕ → (List ℕ → Type 0) → Type 0
Closed rows root X = X root × ((n m : List ℕ) → X n → IsTrue (is_among (member_sets rows n) m) → X m)

-- the one at this place names the set
abbrev pub names_set : List SetRow → List ℕ → Option Reach → Bool
names_set rows m None = false
names_set rows m (Some r) = is_among (member_sets rows r.set) m

abbrev pub is_named : List SetRow → List Reach → ℕ → List ℕ → Bool
is_named rows before by m = nat_le 1 by && names_set rows m (slice_get before (by - 1))

-- each one is named by the one at its `by`, which stands before it, and is new
abbrev pub follows : List SetRow → List Reach → List Reach → Bool
follows rows before [] = true
follows rows before (r ∷ rs) =
    is_named rows before r.by r.set && not (has_name before r.set) && follows rows (before ++ r ∷ []) rs

abbrev pub starts : List SetRow → List ℕ → List Reach → Bool
starts rows root [] = false
starts rows root (r ∷ rs) = bytes_eq r.set root && r.by == 0 && follows rows (r ∷ []) rs

abbrev pub is_closed : List SetRow → List Reach → Bool
is_closed rows c = list_all (λ row. not (has_name c row.name)
    || list_all (has_name c) (sets_in row.members)) rows

abbrev pub is_chain : List SetRow → List ℕ → List Reach → Bool
is_chain rows root c = starts rows root c && is_closed rows c
