-- What objects say (RFC 2622 sections 4 and 5, RFC 4012 section 3).
use Rattle.std.specs.Prelude.{◌≡◌, ℕ, ◌++◌, Bool, true, false, List, [], ◌∷◌, Option, Some, None, Result, Ok, Err, codes, if◌then◌else◌}
use Rattle.ixp_num.specs.declared.asn.Asn.{Asn}
use Rattle.ixp_num.specs.declared.family.Family.TheVariants.{V4, V6}
use Rattle.ixp_num.specs.declared.prefix.Prefix.{Prefix}
use Rattle.ixp_rpsl.specs.Lines.{Line, lines_in}
use Rattle.ixp_rpsl.specs.Attributes.{attributes, bad_line, earlier, is_empty, is_word, named, whole_value}
use Rattle.ixp_rpsl.specs.Values.{SaysPrefix, as_number, items_of, set_name, trimmed}
use Rattle.ixp_rpsl.specs.declared.attributes.Attribute.{Attribute}
use Rattle.ixp_rpsl.specs.declared.entries.Kind.{Kind}
use Rattle.ixp_rpsl.specs.declared.entries.Kind.TheVariants as kind
use Rattle.ixp_rpsl.specs.declared.fault.RpslFault.{RpslFault}
use Rattle.ixp_rpsl.specs.declared.fault.RpslFault.TheVariants as fault
use Rattle.ixp_rpsl.specs.declared.found.Found.{Found}
use Rattle.ixp_rpsl.specs.declared.objects.Item.{Item}
use Rattle.ixp_rpsl.specs.declared.objects.Objects.{Objects}
use Rattle.ixp_rpsl.specs.declared.objects.SetRow.{SetRow}

-- An object's kind is its first name.
abbrev pub kind_of : List ℕ → Kind
kind_of name =
    if is_word (codes "route") name then kind.Route V4
    else if is_word (codes "route6") name then kind.Route V6
    else if is_word (codes "as-set") name then kind.Set
    else kind.Other

-- The route of a prefix and the values of `origin`, or the first line that isn't of its form: a route has a
-- prefix and one origin, and one that lacks either is faulty at its first line.
abbrev pub first_origin : Prefix → ℕ → Option Asn → List Attribute → Result (Prefix × Asn) ℕ
first_origin p line None others = Err line
first_origin p line (Some a) [] = Ok (p, a)
first_origin p line (Some a) (second ∷ others) = Err second.line

abbrev pub route_of : ℕ → Option Prefix → List Attribute → Result (Prefix × Asn) ℕ
route_of first None origins = Err first
route_of first (Some p) [] = Err first
route_of first (Some p) (origin ∷ others) =
    first_origin p origin.line (as_number (trimmed origin.value)) others

abbrev pub more_members : ℕ → Option (List Item) → Result (List Item) ℕ → Result (List Item) ℕ
more_members line None others = Err line
more_members line (Some items) (Err n) = Err n
more_members line (Some items) (Ok others) = Ok (items ++ others)

-- the members that the values of `members` list, or the first line of a value that doesn't
abbrev pub members_of : List Attribute → Result (List Item) ℕ
members_of [] = Ok []
members_of (a ∷ more) = more_members a.line (items_of a.value) (members_of more)

abbrev pub named_set : ℕ → Option (List ℕ) → Result (List Item) ℕ → Result SetRow ℕ
named_set first None members = Err first
named_set first (Some name) (Err n) = Err n
named_set first (Some name) (Ok members) = Ok (record { name = name; members = members })

-- the set of a name and the values of `members`, or the first line that isn't of its form
abbrev pub set_of : ℕ → List ℕ → List Attribute → Result SetRow ℕ
set_of first key values = named_set first (set_name key) (members_of values)

-- What is found: routes and sets, and the least line that isn't of its form.
abbrev pub at_fault : Option ℕ → Found
at_fault line = record { routes = []; sets = []; fault = line }

abbrev pub joined : Found → Found → Found
joined a b = record {
  routes = a.routes ++ b.routes;
  sets = a.sets ++ b.sets;
  fault = earlier a.fault b.fault;
}

abbrev pub found_route : Result (Prefix × Asn) ℕ → Found
found_route (Ok r) = record { routes = r ∷ []; sets = []; fault = None }
found_route (Err n) = at_fault (Some n)

abbrev pub found_set : Result SetRow ℕ → Found
found_set (Ok s) = record { routes = []; sets = s ∷ []; fault = None }
found_set (Err n) = at_fault (Some n)

-- What an object of a kind says, where `key` is the value of its first attribute and these are the lines
-- behind that line.
abbrev pub KindSays : Kind → ℕ → List ℕ → List Line → Found → Type 0
KindSays (kind.Route family) first key ls found = (net : Option Prefix) × SaysPrefix family key net
    × (found ≡ found_route (route_of first net (attributes (codes "origin") ls)))
KindSays kind.Set first key ls found = found ≡ found_set (set_of first key (attributes (codes "members") ls))
KindSays kind.Other first key ls found = found ≡ at_fault None

-- An object is faulty also at each of its lines that neither has a name nor goes on with a value, its first
-- line if that has no name.
abbrev pub NamedSays : Option (List ℕ × List ℕ) → ℕ → List Line → Found → Type 0
NamedSays None first ls found = found ≡ at_fault (earlier (Some first) (bad_line ls))
NamedSays (Some p) first ls found = (said : Found)
    × KindSays (kind_of p.0) first (trimmed (whole_value p.1 ls)) ls said
    × (found ≡ joined (at_fault (bad_line ls)) said)

-- what the object says that begins with a line and goes on with those behind it, up to an empty line
abbrev pub ObjectSays : Line → List Line → Found → Type 0
ObjectSays l ls found = NamedSays (named l.bytes) l.number ls found

-- The first line of each object, and the lines behind it: objects are parted by empty lines.
abbrev pub objects : Bool → List Line → List (Line × List Line)
objects within [] = []
objects within (l ∷ ls) = if is_empty l.bytes then objects false ls else if within then objects true ls
    else (l, ls) ∷ objects true ls

-- what objects say, one after another
abbrev pub AllSay : List (Line × List Line) → Found → Type 0
AllSay [] found = found ≡ at_fault None
AllSay (o ∷ os) found = (one others : Found) × ObjectSays o.0 o.1 one × AllSay os others
    × (found ≡ joined one others)

abbrev pub TextSays : List ℕ → Found → Type 0
TextSays t found = AllSay (objects false (lines_in t)) found

-- what reading a text answers: its routes and sets, or the least line that isn't of its form
abbrev pub ReadAnswer : List ℕ → Result Objects RpslFault → Type 0
ReadAnswer t (Ok o) = (found : Found) × TextSays t found × (found.fault ≡ None) × (o.routes ≡ found.routes)
    × (o.sets ≡ found.sets)
ReadAnswer t (Err (fault.Line n)) = (found : Found) × TextSays t found × (found.fault ≡ Some n)
ReadAnswer t (Err fault.NoSet) = ⊥
ReadAnswer t (Err (fault.TooMany have)) = ⊥
ReadAnswer t (Err fault.NoMemory) = Unit {0}
