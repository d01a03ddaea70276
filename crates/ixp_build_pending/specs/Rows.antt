-- How what is pending is held. Nobody needs to believe this: what it means is said by look-up.
use Rattle.std.specs.Prelude.{ℕ, ◌==◌, nat_lt, not, Bool, List, [], ◌∷◌, ◌++◌, map, Option, Some, None, IsSome}
use Rattle.ixp_num_tables.specs.Tables.{find, put}
use Rattle.ixp_build_pending.specs.declared.name.TextName.{TextName}
use Rattle.ixp_build_pending.specs.declared.rows.PendingText.{PendingText}
use Rattle.ixp_build_pending.specs.declared.touch.Touch.{Touch}
use Rattle.ixp_build_pending.specs.Names.{header_of, part_of, row_key, text_key}

abbrev pub is_pending : PendingText → Bool
is_pending r = not (r.count == 0)

abbrev pub is_later : ℕ → PendingText → Bool
is_later upto r = nat_lt upto r.count

-- there is a row for the text
abbrev pub HasText : List PendingText → TextName → Type 0
HasText rows t = IsSome (find row_key (text_key t) rows)

-- the rows have one with this row's key
abbrev pub HasRow : List PendingText → PendingText → Type 0
HasRow rows r = HasText rows r.text

-- rows are put in, one after the other
abbrev pub all_put : List PendingText → List PendingText → List PendingText
all_put [] rows = rows
all_put (r ∷ rs) rows = all_put rs (put row_key r rows)

abbrev pub header_row : ℕ → List ℕ → PendingText
header_row c h = record { text = header_of h; count = c }

abbrev pub part_row : ℕ → List ℕ × ℕ → PendingText
part_row c k = record { text = part_of k.0 k.1; count = c }

-- the rows that note a touch
abbrev pub rows_of : ℕ → Touch → List PendingText
rows_of c t = map (header_row c) t.headers ++ map (part_row c) t.sessions

-- the header of a row, and the session
abbrev pub header_named : List ℕ → Option ℕ → Option (List ℕ)
header_named h None = Some h
header_named h (Some n) = None

abbrev pub part_named : List ℕ → Option ℕ → Option (List ℕ × ℕ)
part_named h None = None
part_named h (Some n) = Some (h, n)

abbrev pub header_in : PendingText → Option (List ℕ)
header_in r = header_named r.text.router r.text.session

abbrev pub part_in : PendingText → Option (List ℕ × ℕ)
part_in r = part_named r.text.router r.text.session
