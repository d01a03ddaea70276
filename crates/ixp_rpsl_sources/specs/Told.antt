-- What functions tell that take what is said. Nobody has to believe this: what a text says is in Said.antt,
-- and which sets count in Counting.antt.
use Rattle.std.specs.Prelude.{◌≡◌, ◌+◌, ◌++◌, ◌==◌, ◌&&◌, ◌||◌, nat_lt, ℕ, Bool, true, false, codes, List, [], ◌∷◌, Option, Some, None, Vec, if◌then◌else◌}
use Rattle.std.specs.BTreeMap.{BTreeMap, get_by}
use Rattle.std.specs.Option.{is_some, option_map, unwrap_or}
use Rattle.std.specs.List.{list_any, slice_get}
use Rattle.std.specs.Str.{bytes_eq}
use Rattle.std.specs.declared.alloc.Global.{Global}
use Rattle.ixp_rpsl.specs.Lines.{Line}
use Rattle.ixp_rpsl.specs.Attributes.{past_object}
use Rattle.ixp_rpsl.specs.Expansion.{is_among}
use Rattle.ixp_rpsl.specs.Lookups.{sought}
use Rattle.ixp_rpsl.specs.Objects.{objects}
use Rattle.ixp_rpsl.specs.declared.objects.Item.{Item}
use Rattle.ixp_rpsl.specs.declared.objects.Item.TheVariants as item
use Rattle.ixp_rpsl.specs.declared.objects.SetRow.{SetRow}
use Rattle.ixp_rpsl_sources.specs.Counting.{best, names_of, rows}
use Rattle.ixp_rpsl_sources.specs.Said.{AllSay, ObjectSays, Said, joined}
use Rattle.ixp_rpsl_sources.specs.declared.best.Best.{Best}
use Rattle.ixp_rpsl_sources.specs.declared.gleaned.Gleaned.{Gleaned}
use Rattle.ixp_rpsl_sources.specs.declared.objects.Claim.{Claim}
use Rattle.ixp_rpsl_sources.specs.declared.objects.SetObject.{SetObject}

abbrev pub said_in : Gleaned → Said
said_in g = record { routes = g.routes; sets = g.sets.items; claims = g.claims; passed = g.passed }

-- what an object says is found beside what was, and what is behind it is ahead
abbrev pub Finds : List (List ℕ) → Line → List Line → List Line → Said → Said → Type 0
Finds sources l ls rest old new = (one : Said) × ObjectSays sources l ls one × (new ≡ joined old one)
    × (rest ≡ past_object ls)

-- what objects say is found beside what was, up to these lines, whatever is found there
abbrev pub Passes : List (List ℕ) → List Line → List Line → Said → Said → Type 0
Passes sources ls rest old new =
    (others : Said) → AllSay sources (objects false rest) others
    → (all : Said) × AllSay sources (objects false ls) all × (joined new others ≡ joined old all)

-- what is kept of an object
abbrev pub best_of : SetObject → Best
best_of o = record { place = o.place; line = o.line }

-- a table has under each name the object that counts
abbrev pub KeepsBest : List (List ℕ) → List SetObject → BTreeMap (Vec ℕ Global) Best → Type 0
KeepsBest sources sets index =
    (q : List ℕ) → get_by (sought q) index ≡ option_map best_of (best sources sets q)

-- the places, from one on, of claims that name a set, for each time that they do
abbrev pub place_times : ℕ → List (List ℕ) → List ℕ → List ℕ
place_times place [] name = []
place_times place (n ∷ ns) name =
    if bytes_eq n name then place ∷ place_times place ns name else place_times place ns name

abbrev pub places_from : ℕ → List Claim → List ℕ → List ℕ
places_from place [] name = []
places_from place (c ∷ cs) name = place_times place c.sets name ++ places_from (place + 1) cs name

abbrev pub places_at : BTreeMap (Vec ℕ Global) (List ℕ) → List ℕ → List ℕ
places_at index name = unwrap_or (get_by (sought name) index) []

-- what is kept, in the place of the object
abbrev pub begins_at : Option Best → ℕ → Bool
begins_at None line = false
begins_at (Some b) line = b.line == line

abbrev pub better_of : Best → Option Best → Best
better_of o None = o
better_of o (Some p) = if nat_lt p.place o.place then p else o

-- what is kept under a name, where this was, once objects are kept from the last on
abbrev pub kept_onto : List (List ℕ) → List SetObject → Option Best → List ℕ → Option Best
kept_onto sources [] kept q = kept
kept_onto sources (o ∷ os) kept q = if is_among (names_of sources o) q
    then Some (better_of (best_of o) (kept_onto sources os kept q)) else kept_onto sources os kept q

-- what the tables say of claims, as Counting.antt says it of objects
abbrev pub claimant_kept : BTreeMap (Vec ℕ Global) Best → Claim → Item → Bool
claimant_kept index c (item.As a) = true
claimant_kept index c (item.Set name) = begins_at (get_by (sought name) index) c.line

abbrev pub admits_by : BTreeMap (Vec ℕ Global) (Unit {0}) → List (List ℕ) → Bool
admits_by words maintainers = is_some (get_by (sought (codes "ANY")) words)
    || list_any (λ m. is_some (get_by (sought m) words)) maintainers

abbrev pub claimed_one : BTreeMap (Vec ℕ Global) Best → BTreeMap (Vec ℕ Global) (Unit {0}) → Option Claim
    → List Item
claimed_one index words None = []
claimed_one index words (Some c) =
    if claimant_kept index c c.member && admits_by words c.maintainers then c.member ∷ [] else []

abbrev pub claimed_at : BTreeMap (Vec ℕ Global) Best → BTreeMap (Vec ℕ Global) (Unit {0}) → List Claim
    → List ℕ → List Item
claimed_at index words claims [] = []
claimed_at index words claims (p ∷ ps) =
    claimed_one index words (slice_get claims p) ++ claimed_at index words claims ps

-- the rows of these members under those of these names under which a table has the line
abbrev pub rows_kept : BTreeMap (Vec ℕ Global) Best → ℕ → List Item → List (List ℕ) → List SetRow
rows_kept index line members [] = []
rows_kept index line members (n ∷ ns) = if begins_at (get_by (sought n) index) line
    then record { name = n; members = members } ∷ rows_kept index line members ns
    else rows_kept index line members ns

abbrev pub rows_named : List Item → Option (List ℕ) → List SetRow
rows_named members None = []
rows_named members (Some n) = record { name = n; members = members } ∷ []

-- members by reference are added by words that are those of the set
abbrev pub PutsClaimed : BTreeMap (Vec ℕ Global) Best → List (List ℕ) → List Claim → List ℕ → List Item
    → List Item → Type 0
PutsClaimed index by_ref claims places old new = (words : BTreeMap (Vec ℕ Global) (Unit {0}))
    × ((q : List ℕ) → is_some (get_by (sought q) words) ≡ is_among by_ref q)
    × (new ≡ old ++ claimed_at index words claims places)

-- an object counts under one of its names
abbrev pub counts_at : BTreeMap (Vec ℕ Global) Best → ℕ → List (List ℕ) → Bool
counts_at index line names = list_any (λ n. begins_at (get_by (sought n) index) line) names

-- the rows of an object are added, with members by reference where it counts
abbrev pub PutsRows : List (List ℕ) → BTreeMap (Vec ℕ Global) Best → BTreeMap (Vec ℕ Global) (List ℕ)
    → List Claim → SetObject → List SetRow → List SetRow → Type 0
PutsRows sources index places claims o old new = (members : List Item)
    × (counts_at index o.line (names_of sources o) ≡ true
    → PutsClaimed index o.by_ref claims (places_at places o.name) o.members members)
    × (new ≡ old ++ rows_kept index o.line members (names_of sources o))

-- the sets that count, whatever routes there are and whatever is passed by
abbrev pub IsRows : List (List ℕ) → List SetObject → List Claim → List SetRow → Type 0
IsRows sources sets claims found = (said : Said) → said.sets ≡ sets → said.claims ≡ claims
    → found ≡ rows sources said sets
