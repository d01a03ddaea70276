-- What objects of listed sources say, and at which lines something is passed by (RFC 2622 sections 3 to 6,
-- RFC 4012 section 3).
use Rattle.std.specs.Prelude.{◌≡◌, ℕ, ◌==◌, ◌&&◌, ◌++◌, Bool, true, false, List, [], ◌∷◌, Option, Some, None, Result, Ok, Err, codes, if◌then◌else◌}
use Rattle.std.specs.Option.{is_some}
use Rattle.ixp_num.specs.declared.asn.Asn.{Asn}
use Rattle.ixp_num.specs.declared.prefix.Prefix.{Prefix}
use Rattle.ixp_rpsl.specs.Lines.{Line, lines_in}
use Rattle.ixp_rpsl.specs.Attributes.{attributes, bad_line, is_word, named, whole_value}
use Rattle.ixp_rpsl.specs.Objects.{kind_of, objects, route_of}
use Rattle.ixp_rpsl.specs.Values.{SaysPrefix, as_number, set_name, trimmed}
use Rattle.ixp_rpsl.specs.declared.entries.Kind.{Kind}
use Rattle.ixp_rpsl.specs.declared.entries.Kind.TheVariants as kind
use Rattle.ixp_rpsl.specs.declared.objects.Item.{Item}
use Rattle.ixp_rpsl.specs.declared.objects.Item.TheVariants as item
use Rattle.ixp_rpsl_sources.specs.Parts.{members_in, names_in, strangers_in, words_in}
use Rattle.ixp_rpsl_sources.specs.Sources.{standing_of}
use Rattle.ixp_rpsl_sources.specs.declared.objects.Claim.{Claim}
use Rattle.ixp_rpsl_sources.specs.declared.objects.SetObject.{SetObject}
use Rattle.ixp_rpsl_sources.specs.declared.objects.Wanted.{Wanted}
use Rattle.ixp_rpsl_sources.specs.declared.objects.Wanted.TheVariants as wanted
use Rattle.ixp_rpsl_sources.specs.declared.standing.Standing.{Standing}
use Rattle.ixp_rpsl_sources.specs.declared.standing.Standing.TheVariants.{Nowhere, Elsewhere, At}

-- What is said: routes, sets, who claims to be a member of which sets; and the lines at which something is
-- passed by. Each in the order of the text.
pub record Said : Type 0 where
  pub routes : List (Prefix × Asn)
  pub sets : List SetObject
  pub claims : List Claim
  pub passed : List ℕ

abbrev pub nothing : Said
nothing = record { routes = []; sets = []; claims = []; passed = [] }

abbrev pub joined : Said → Said → Said
joined a b = record {
  routes = a.routes ++ b.routes;
  sets = a.sets ++ b.sets;
  claims = a.claims ++ b.claims;
  passed = a.passed ++ b.passed;
}

-- something is passed by at a line
abbrev pub passed_at : ℕ → Said
passed_at line = record { routes = []; sets = []; claims = []; passed = line ∷ [] }

-- The kinds of objects that are wanted.
abbrev pub wanted_kind : Kind → Wanted
wanted_kind (kind.Route family) = wanted.Route family
wanted_kind kind.Set = wanted.Set
wanted_kind kind.Other = wanted.Other

abbrev pub wanted_of : List ℕ → Wanted
wanted_of name = if is_word (codes "aut-num") name then wanted.Number else wanted_kind (kind_of name)

-- Who claims to be a member: of the sets that `member-of` names, by the maintainers of `mnt-by`.
abbrev pub claim_of : ℕ → Item → List Line → Claim
claim_of first member ls = record {
  line = first;
  member = member;
  sets = names_in (attributes (codes "member-of") ls);
  maintainers = words_in (attributes (codes "mnt-by") ls);
}

abbrev pub route_said : ℕ → Result (Prefix × Asn) ℕ → Said
route_said first (Ok r) = record { routes = r ∷ []; sets = []; claims = []; passed = [] }
route_said first (Err n) = passed_at first

abbrev pub number_said : ℕ → Option Asn → List Line → Said
number_said first None ls = passed_at first
number_said first (Some a) ls =
    record { routes = []; sets = []; claims = claim_of first (item.As a) ls ∷ []; passed = [] }

-- a set of the source at a place, its members, and the lines of members that are none
abbrev pub set_object : ℕ → ℕ → List ℕ → List Line → SetObject
set_object first place name ls = record {
  line = first;
  place = place;
  name = name;
  members = members_in (attributes (codes "members") ls);
  by_ref = words_in (attributes (codes "mbrs-by-ref") ls);
}

abbrev pub set_said : ℕ → ℕ → Option (List ℕ) → List Line → Said
set_said first place None ls = passed_at first
set_said first place (Some name) ls = record {
  routes = [];
  sets = set_object first place name ls ∷ [];
  claims = claim_of first (item.Set name) ls ∷ [];
  passed = strangers_in (attributes (codes "members") ls);
}

-- What an object of a wanted kind says, where `key` is the value of its first attribute and these are the
-- lines behind that line. One that isn't of its form is passed by at its first line.
abbrev pub WantedSays : Wanted → ℕ → ℕ → List ℕ → List Line → Said → Type 0
WantedSays (wanted.Route family) place first key ls said = (net : Option Prefix) × SaysPrefix family key net
    × (said ≡ route_said first (route_of first net (attributes (codes "origin") ls)))
WantedSays wanted.Set place first key ls said = said ≡ set_said first place (set_name key) ls
WantedSays wanted.Number place first key ls said = said ≡ number_said first (as_number key) ls
WantedSays wanted.Other place first key ls said = said ≡ nothing

-- an object without a source is passed by at its first line, if it is of a wanted kind
abbrev pub unsourced : Wanted → ℕ → Said
unsourced (wanted.Route family) first = passed_at first
unsourced wanted.Set first = passed_at first
unsourced wanted.Number first = passed_at first
unsourced wanted.Other first = nothing

abbrev pub PlacedSays : Standing → Wanted → ℕ → List ℕ → List Line → Said → Type 0
PlacedSays Nowhere kind first key ls said = said ≡ unsourced kind first
PlacedSays Elsewhere kind first key ls said = said ≡ nothing
PlacedSays (At place) kind first key ls said = WantedSays kind place first key ls said

-- each line has a name or goes on with a value, but for the first, which has a name
abbrev pub FormedSays : Standing → Option (List ℕ × List ℕ) → Bool → ℕ → List Line → Said → Type 0
FormedSays standing None is_bad first ls said = said ≡ passed_at first
FormedSays standing (Some p) true first ls said = said ≡ passed_at first
FormedSays standing (Some p) false first ls said =
    PlacedSays standing (wanted_of p.0) first (trimmed (whole_value p.1 ls)) ls said

-- an object of a source that isn't in the list says nothing
abbrev pub StandingSays : Standing → Option (List ℕ × List ℕ) → Bool → ℕ → List Line → Said → Type 0
StandingSays Elsewhere name is_bad first ls said = said ≡ nothing
StandingSays Nowhere name is_bad first ls said = FormedSays Nowhere name is_bad first ls said
StandingSays (At place) name is_bad first ls said = FormedSays (At place) name is_bad first ls said

-- what the object says that begins with a line and goes on with those behind it, up to an empty line
abbrev pub ObjectSays : List (List ℕ) → Line → List Line → Said → Type 0
ObjectSays sources l ls said = StandingSays (standing_of sources (attributes (codes "source") ls))
    (named l.bytes) (is_some (bad_line ls)) l.number ls said

-- what objects say, one after another
abbrev pub AllSay : List (List ℕ) → List (Line × List Line) → Said → Type 0
AllSay sources [] said = said ≡ nothing
AllSay sources (o ∷ os) said = (one others : Said) × ObjectSays sources o.0 o.1 one
    × AllSay sources os others
    × (said ≡ joined one others)

-- a text without the byte order mark at its begin, if it has one
abbrev pub unmarked : List ℕ → List ℕ
unmarked [] = []
unmarked (a ∷ []) = a ∷ []
unmarked (a ∷ b ∷ []) = a ∷ b ∷ []
unmarked (a ∷ b ∷ c ∷ t) = if a == 239 && b == 187 && c == 191 then t else a ∷ b ∷ c ∷ t

abbrev pub TextSays : List (List ℕ) → List ℕ → Said → Type 0
TextSays sources t said = AllSay sources (objects false (lines_in (unmarked t))) said
