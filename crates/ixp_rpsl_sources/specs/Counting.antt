-- Which sets count, and what their members are.
use Rattle.std.specs.Prelude.{◌≡◌, ℕ, ◌==◌, ◌&&◌, ◌||◌, ◌++◌, nat_lt, Bool, true, false, List, [], ◌∷◌, Option, Some, None, codes, if◌then◌else◌}
use Rattle.std.specs.List.{list_any, slice_get}
use Rattle.std.specs.Option.{unwrap_or}
use Rattle.std.specs.Str.{bytes_eq}
use Rattle.ixp_num.specs.Names.{is_name}
use Rattle.ixp_rpsl.specs.Expansion.{is_among}
use Rattle.ixp_rpsl.specs.declared.objects.Item.{Item}
use Rattle.ixp_rpsl.specs.declared.objects.Item.TheVariants as item
use Rattle.ixp_rpsl.specs.declared.objects.Objects.{Objects}
use Rattle.ixp_rpsl.specs.declared.objects.SetRow.{SetRow}
use Rattle.ixp_rpsl_sources.specs.Names.{with_source}
use Rattle.ixp_rpsl_sources.specs.Said.{Said, TextSays}
use Rattle.ixp_rpsl_sources.specs.declared.counting.Counted.{Counted}
use Rattle.ixp_rpsl_sources.specs.declared.objects.Claim.{Claim}
use Rattle.ixp_rpsl_sources.specs.declared.objects.SetObject.{SetObject}

-- an object's own name with its source
abbrev pub sourced_name : List (List ℕ) → SetObject → List ℕ
sourced_name sources o = with_source (unwrap_or (slice_get sources o.place) []) o.name

abbrev pub if_name : List ℕ → List (List ℕ)
if_name t = if is_name t then t ∷ [] else []

-- the names of an object: its own, and that with its source, if it isn't too long
abbrev pub names_of : List (List ℕ) → SetObject → List (List ℕ)
names_of sources o = o.name ∷ if_name (sourced_name sources o)

-- the later one only where its source comes earlier
abbrev pub better : SetObject → Option SetObject → Option SetObject
better o None = Some o
better o (Some p) = if nat_lt p.place o.place then Some p else Some o

-- Of the objects of a name that of the source which comes first counts; of several of one source the first.
abbrev pub best : List (List ℕ) → List SetObject → List ℕ → Option SetObject
best sources [] name = None
best sources (o ∷ os) name =
    if is_among (names_of sources o) name then better o (best sources os name) else best sources os name

abbrev pub begins_at : Option SetObject → ℕ → Bool
begins_at None line = false
begins_at (Some o) line = o.line == line

-- the object that counts under a name begins at this line
abbrev pub counts : List (List ℕ) → List SetObject → List ℕ → ℕ → Bool
counts sources sets name line = begins_at (best sources sets name) line

-- Members by reference (RFC 2622 section 5.1): a set lists a maintainer of the object, or `ANY`.
abbrev pub admits : List (List ℕ) → List (List ℕ) → Bool
admits by_ref maintainers = is_among by_ref (codes "ANY") || list_any (is_among by_ref) maintainers

-- the object of a claim counts: a set's where it counts under its own name
abbrev pub claimant_counts : List (List ℕ) → List SetObject → Claim → Item → Bool
claimant_counts sources sets c (item.As a) = true
claimant_counts sources sets c (item.Set name) = counts sources sets name c.line

-- the member of a claim, for each time that it names the set
abbrev pub named_times : Item → List (List ℕ) → List ℕ → List Item
named_times member [] name = []
named_times member (n ∷ ns) name =
    if bytes_eq n name then member ∷ named_times member ns name else named_times member ns name

abbrev pub claimed : List (List ℕ) → List SetObject → SetObject → List Claim → List Item
claimed sources sets o [] = []
claimed sources sets o (c ∷ cs) =
    if claimant_counts sources sets c c.member && admits o.by_ref c.maintainers
    then named_times c.member c.sets o.name ++ claimed sources sets o cs else claimed sources sets o cs

abbrev pub all_members : List (List ℕ) → Said → SetObject → List Item
all_members sources said o = o.members ++ claimed sources said.sets o said.claims

-- the object under those of these names under which it counts
abbrev pub rows_under : List (List ℕ) → Said → SetObject → List (List ℕ) → List SetRow
rows_under sources said o [] = []
rows_under sources said o (n ∷ ns) = if counts sources said.sets n o.line
    then record { name = n; members = all_members sources said o } ∷ rows_under sources said o ns
    else rows_under sources said o ns

-- the sets that count, those of the last object first
abbrev pub rows : List (List ℕ) → Said → List SetObject → List SetRow
rows sources said [] = []
rows sources said (o ∷ os) = rows sources said os ++ rows_under sources said o (names_of sources o)

-- what counts, as objects of one registry
abbrev pub counted : List (List ℕ) → Said → Objects
counted sources said = record { routes = said.routes; sets = rows sources said said.sets }

-- What reading a text gives: what counts, and the lines at which something is passed by.
abbrev pub Reads : List (List ℕ) → List ℕ → Counted → Type 0
Reads sources t c = (said : Said) × TextSays sources t said × (c.objects ≡ counted sources said)
    × (c.passed ≡ said.passed)
