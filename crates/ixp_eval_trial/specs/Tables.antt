-- The tables that lines of ROAs make.
use Rattle.std.specs.Prelude.{◌≡◌, ℕ, List, [], ◌∷◌, ◌++◌, if◌then◌else◌}
use Rattle.ixp_num.specs.declared.roa.Roa.{Roa}
use Rattle.ixp_lang.specs.Meaning.{same_name, roas_named}

-- the ROAs of a table's lines, in their order
abbrev pub rows_named : List ℕ → List (List ℕ × Roa) → List Roa
rows_named n [] = []
rows_named n (p ∷ ps) = if same_name p.0 n then p.1 ∷ rows_named n ps else rows_named n ps

-- the table of each name has the ROAs of its lines
abbrev pub AreTables : List (List ℕ × Roa) → List (List ℕ × List Roa) → Type 0
AreTables roas tables = (n : List ℕ) → roas_named tables n ≡ rows_named n roas

-- these tables, and one more of these ROAs where there are any
abbrev pub with_table : List (List ℕ × List Roa) → List ℕ → List Roa → List (List ℕ × List Roa)
with_table tables n [] = tables
with_table tables n (roa ∷ roas) = tables ++ (n, roa ∷ roas) ∷ []
