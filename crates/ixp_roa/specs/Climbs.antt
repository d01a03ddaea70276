-- How ROAs in the order of their keys lead from a net to those that cover it. Nobody has to believe this: an
-- answer's contract is `validity` alone.
use Rattle.std.specs.Prelude.{◌≡◌, ◌<◌, ◌≤◌, ℕ, Bool, true, false, List, length, ◌&&◌, ◌==◌, nat_le, not, slice_index, take, drop, if◌then◌else◌}
use Rattle.std.specs.List.{slice_index_or, flat_map}
use Rattle.std.specs.Ordering.{is_lt}
use Rattle.ixp_num.specs.declared.family.Family.{Family}
use Rattle.ixp_num.specs.declared.family.Family.TheVariants.{V4}
use Rattle.ixp_num.specs.declared.prefix.Prefix.{Prefix}
use Rattle.ixp_num.specs.declared.roa.Roa.{Roa}
use Rattle.ixp_num.specs.Families.{same_family}
use Rattle.ixp_num.specs.Prefixes.{covers}
use Rattle.ixp_num_sorted.specs.Keys.{roa_key}
use Rattle.ixp_num_tables.specs.Tables.{order}

-- the test of `is_matched`: the ROA covers the prefix, is long enough, and has the origin, which isn't AS 0
abbrev pub is_match : Roa → Prefix → ℕ → Bool
is_match r net origin = covers r.prefix net && nat_le net.len r.max && r.asn.0 == origin && not (origin == 0)

-- the prefix begins no later than the net: IPv4 first, then by number
abbrev pub begins_upto : Family → ℕ → Family → ℕ → Bool
begins_upto f v g w = if same_family f g then nat_le v w else same_family f V4

abbrev pub is_upto : Prefix → Prefix → Bool
is_upto p q = begins_upto p.family p.value q.family q.value

-- the row at this place
abbrev pub StandsAt : List Roa → ℕ → Roa → Type 0
StandsAt rows i r = (i < length rows) × (r ≡ slice_index_or rows i r)

-- no row has a key below that of an earlier one
abbrev pub AreInOrder : List Roa → Type 0
AreInOrder rows = (i j : ℕ) (d : Roa) → i ≤ j → j < length rows
    → is_lt (order (roa_key (slice_index_or rows j d)) (roa_key (slice_index_or rows i d))) ≡ false

-- no row that covers the net stands from this place on to that one
abbrev pub NoneFrom : List Roa → Prefix → ℕ → ℕ → Type 0
NoneFrom rows net at end = (j : ℕ) (s : Roa) → StandsAt rows j s → j < end → covers s.prefix net ≡ true
    → j < at

-- the rows before this place begin no later than the net, and the others later
abbrev pub IsPlace : List Roa → Prefix → ℕ → Type 0
IsPlace rows net n =
    (n ≤ length rows) × ((j : ℕ) (s : Roa) → StandsAt rows j s → j < n → is_upto s.prefix net ≡ true)
    × ((j : ℕ) (s : Roa) → StandsAt rows j s → n ≤ j → is_upto s.prefix net ≡ false)

-- A row's link isn't behind it, and no row that covers it stands from there on to it. The first rows may have
-- links alone.
abbrev pub AreLinked : List Roa → List ℕ → Type 0
AreLinked rows links =
    (length links ≤ length rows)
    × ((i : ℕ) (r : Roa) → i < length links → StandsAt rows i r
    → (slice_index links i ≤ i) × NoneFrom rows r.prefix (slice_index links i) i)

-- the rows at these places
abbrev pub at_places : List Roa → List ℕ → List Roa
at_places rows places = flat_map (λ i. take 1 (drop i rows)) places
