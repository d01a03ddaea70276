-- The order in which the sets of an expansion stand.
use Rattle.std.specs.Prelude.{◌≡◌, ◌+◌, ◌-◌, ◌<◌, ◌++◌, ◌⊎◌, ℕ, Bool, true, false, List, [], ◌∷◌, Option, Some, None, Result, Ok, Err, drop, if◌then◌else◌}
use Rattle.std.specs.List.{AllByRecursion, list_any, position_or_len, slice_get}
use Rattle.std.specs.Str.{bytes_eq}
use Rattle.ixp_num_tables.specs.Sums.{Pairs}
use Rattle.ixp_rpsl.specs.Expansion.{member_sets, has_name, is_chain, is_named}
use Rattle.ixp_rpsl.specs.declared.fault.RpslFault.{RpslFault}
use Rattle.ixp_rpsl.specs.declared.fault.RpslFault.TheVariants as fault
use Rattle.ixp_rpsl.specs.declared.objects.Reach.{Reach}
use Rattle.ixp_rpsl.specs.declared.objects.SetRow.{SetRow}

-- `by` is the least place of a set that names this one
abbrev pub IsNearest : List SetRow → List Reach → Reach → Type 0
IsNearest rows c r = (is_named rows c r.by r.set ≡ true)
    × ((k : ℕ) → k < r.by → is_named rows c k r.set ≡ false)

-- the sets among the members of the one at a place
abbrev pub members_at : List SetRow → Option Reach → List (List ℕ)
members_at rows None = []
members_at rows (Some r) = member_sets rows r.set

-- where a set stands first among the members of the one at its `by`
abbrev pub place_in : List SetRow → List Reach → Reach → ℕ
place_in rows c r = position_or_len (λ m. bytes_eq m r.set) (members_at rows (slice_get c (r.by - 1)))

-- the `by` of the one is less, or it is the same and the one stands earlier there
abbrev pub StandsBefore : List SetRow → List Reach → Reach → Reach → Type 0
StandsBefore rows c r s = (r.by < s.by) ⊎ ((r.by ≡ s.by) × (place_in rows c r < place_in rows c s))

-- an object has this name
abbrev pub has_object : List SetRow → List ℕ → Bool
has_object rows name = list_any (λ row. bytes_eq row.name name) rows

-- What expanding a set answers: a chain in which each set but the first has the least `by`, in the order of
-- `by` and then of the first places; or that no object has its name.
abbrev pub ExpandAnswer : List SetRow → List ℕ → Result (List Reach) RpslFault → Type 0
ExpandAnswer rows root (Ok c) =
    (has_object rows root ≡ true) × (is_chain rows root c ≡ true)
    × AllByRecursion (IsNearest rows c) (drop 1 c) × Pairs (StandsBefore rows c) (drop 1 c)
ExpandAnswer rows root (Err fault.NoSet) = has_object rows root ≡ false
ExpandAnswer rows root (Err (fault.Line n)) = ⊥
ExpandAnswer rows root (Err (fault.TooMany have)) = ⊥
ExpandAnswer rows root (Err fault.NoMemory) = Unit {0}

-- What follows tells how an expansion is made. Nobody has to believe it, since `ExpandAnswer` is proved of
-- it.

abbrev pub named_by : ℕ → List (List ℕ) → List Reach
named_by place [] = []
named_by place (n ∷ ns) = record { set = n; by = place } ∷ named_by place ns

-- what the sets of a list name, one set after another, with the places of those sets
abbrev pub mentions : List SetRow → ℕ → List Reach → List Reach
mentions rows place [] = []
mentions rows place (r ∷ rs) = named_by place (member_sets rows r.set) ++ mentions rows (place + 1) rs

-- those of the second list whose name is new are added, one after another
abbrev pub adds : List Reach → List Reach → List Reach
adds c [] = c
adds c (x ∷ xs) = adds (if has_name c x.set then c else c ++ x ∷ []) xs

-- the root, and then what the sets of the list name, each where it is named first
abbrev pub IsBreadthFirst : List SetRow → List ℕ → List Reach → Type 0
IsBreadthFirst rows root c = c ≡ adds [] (record { set = root; by = 0 } ∷ mentions rows 1 c)
