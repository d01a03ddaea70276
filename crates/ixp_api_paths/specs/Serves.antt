-- A router that serves a table.
use Rattle.std.specs.Prelude.{◌≡◌, ◌⊎◌, ◌<◌, ℕ, List, [], ◌∷◌, ◌++◌, length, get_or, Bool, true, false, cond, not, Option, Some, None, Result, Ok, Err, ◌==◌, ◌||◌, ◌&&◌}
use Rattle.matchit.specs.Rows.{RowsOf, param_token}
use Rattle.matchit.specs.Seek.{slash}
use Rattle.matchit.specs.Router.{RouteOf}
use Rattle.matchit.specs.Route.{Scan}
use Rattle.matchit.specs.declared.error.InsertError.{InsertError}
use Rattle.ixp_api_paths.specs.declared.table.Part.{Part}
use Rattle.ixp_api_paths.specs.declared.table.Part.TheVariants as part
use Rattle.ixp_api_paths.specs.declared.table.Entry.{Entry}
use Rattle.ixp_api_paths.specs.Paths.{word_text, is_end}
use Rattle.ixp_api_paths.specs.Table.{no_entry}
use Rattle.ixp_api_paths.specs.Fits.{plain, is_empty}

abbrev pub part_tokens : Part → List ℕ
part_tokens (part.Is w) = word_text w
part_tokens part.Row = param_token ∷ []
part_tokens part.Place = param_token ∷ []
part_tokens part.Family = param_token ∷ []
part_tokens part.List = param_token ∷ []
part_tokens part.Router = param_token ∷ []
part_tokens part.End = []

-- the router's pattern of these parts
abbrev pub pattern_of : List Part → List ℕ
pattern_of [] = []
pattern_of (p ∷ ps) = cond (is_end p) (pattern_of ps) (slash ∷ (part_tokens p ++ pattern_of ps))

abbrev pub pattern_at : List Entry → ℕ → List ℕ
pattern_at table i = pattern_of (get_or table i no_entry).parts

-- each row is the table's, with its place as its value
abbrev pub OnlyTable : List Entry → RowsOf (RouteOf ℕ) → Type 0
OnlyTable table [] = Unit {0}
OnlyTable table ((t, r) ∷ rs) = (r.value < length table) × (t ≡ pattern_at table r.value) × OnlyTable table rs

abbrev pub Has : List Entry → ℕ → RowsOf (RouteOf ℕ) → Type 0
Has table i [] = ⊥
Has table i ((t, r) ∷ rs) = (t ≡ pattern_at table i) ⊎ Has table i rs

abbrev pub HasBelow : List Entry → ℕ → RowsOf (RouteOf ℕ) → Type 0
HasBelow table n rs = (i : ℕ) → i < n → Has table i rs

-- each row is the table's, and each entry has one
pub record Serves (table : List Entry) (rs : RowsOf (RouteOf ℕ)) : Type 0 where
  pub only : OnlyTable table rs
  pub all : HasBelow table (length table) rs

abbrev pub pattern_in : Result Scan InsertError → Option (List ℕ)
pattern_in (Ok s) = Some s.pattern
pattern_in (Err e) = None

-- the table's patterns hold parts, and their parameters fill segments
abbrev pub all_plain : List Entry → Bool
all_plain [] = true
all_plain (e ∷ es) = (not (is_empty (pattern_of e.parts)) && plain (pattern_of e.parts)) && all_plain es

-- no path fits both patterns
abbrev pub parted : List ℕ → List ℕ → Bool
parted [] [] = false
parted [] (y ∷ u) = true
parted (x ∷ t) [] = true
parted (x ∷ t) (y ∷ u) = cond (x == y) (parted t u) (not (x == param_token || y == param_token))

abbrev pub parted_from : Entry → List Entry → Bool
parted_from e [] = true
parted_from e (f ∷ fs) = (parted (pattern_of e.parts) (pattern_of f.parts)
    && parted (pattern_of f.parts) (pattern_of e.parts)) && parted_from e fs

abbrev pub all_parted : List Entry → Bool
all_parted [] = true
all_parted (e ∷ es) = parted_from e es && all_parted es
