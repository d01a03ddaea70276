-- Where the first row stands that breaks a sentence. Places are the numbers of lines in a dump, the first
-- line being 1.
use Rattle.std.specs.Prelude.{ℕ, suc, Bool, List, [], ◌∷◌, ◌++◌, length, ◌+◌, Option, Some, None, nat_le, min, if◌then◌else◌, option_map}
use Rattle.std.specs.List.{position}
use Rattle.ixp_num_tables.specs.Tables.{same}

-- the first row that breaks it, where the first row of the list stands at `start`
abbrev pub first : {R : Type 0} → ℕ → (R → Bool) → List R → Option ℕ
first start breaks rows = option_map (λ i. start + i) (position breaks rows)

-- the same, where a row is looked at with those before it
abbrev pub first_with_earlier_from : {R : Type 0} → List R → ℕ → (List R → R → Bool) → List R → Option ℕ
first_with_earlier_from earlier start breaks [] = None
first_with_earlier_from earlier start breaks (r ∷ rs) =
    if breaks earlier r then Some start else first_with_earlier_from (earlier ++ r ∷ []) (start + 1) breaks rs

abbrev pub first_with_earlier : {R : Type 0} → ℕ → (List R → R → Bool) → List R → Option ℕ
first_with_earlier = first_with_earlier_from []

-- the same, where a row is looked at with the one before it, if there is one
abbrev pub first_beside_from : {R : Type 0} → Option R → ℕ → (Option R → R → Bool) → List R → Option ℕ
first_beside_from last start breaks [] = None
first_beside_from last start breaks (r ∷ rs) =
    if breaks last r then Some start else first_beside_from (Some r) (start + 1) breaks rs

abbrev pub first_beside : {R : Type 0} → ℕ → (Option R → R → Bool) → List R → Option ℕ
first_beside = first_beside_from None

-- how often a key stands in a list
abbrev pub times : List ℕ → List (List ℕ) → ℕ
times key [] = 0
times key (k ∷ ks) = if same key k then suc (times key ks) else times key ks

-- the first row whose key stands more than `most` times in the rows up to it
abbrev pub first_beyond_from : List (List ℕ) → ℕ → ℕ → List (List ℕ) → Option ℕ
first_beyond_from earlier most start [] = None
first_beyond_from earlier most start (k ∷ ks) =
    if nat_le most (times k earlier) then Some start else first_beyond_from (k ∷ earlier) most (start + 1) ks

abbrev pub first_beyond : ℕ → ℕ → List (List ℕ) → Option ℕ
first_beyond = first_beyond_from []

-- the first row with which there are more than `most`
abbrev pub first_over : {R : Type 0} → ℕ → ℕ → List R → Option ℕ
first_over most start rows = if nat_le (length rows) most then None else Some (start + most)

-- the first row with which the sum of the rows' weights is more than `most`
abbrev pub first_heavy_from : {R : Type 0} → ℕ → (R → ℕ) → ℕ → ℕ → List R → Option ℕ
first_heavy_from sum weight most start [] = None
first_heavy_from sum weight most start (r ∷ rs) =
    if nat_le (sum + weight r) most then first_heavy_from (sum + weight r) weight most (start + 1) rs
    else Some start

abbrev pub first_heavy : {R : Type 0} → (R → ℕ) → ℕ → ℕ → List R → Option ℕ
first_heavy = first_heavy_from 0

-- the earlier of two places, where there is one
abbrev pub earlier_of : Option ℕ → Option ℕ → Option ℕ
earlier_of None place = place
earlier_of (Some a) None = Some a
earlier_of (Some a) (Some b) = Some (min a b)

-- the earliest of the places
abbrev pub earliest : List (Option ℕ) → Option ℕ
earliest [] = None
earliest (place ∷ places) = earlier_of place (earliest places)
