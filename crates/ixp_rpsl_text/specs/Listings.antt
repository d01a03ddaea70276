-- What whois data give as the listing of a set's expansion.
use Rattle.std.specs.Prelude.{◌≡◌, ◌⊎◌, ℕ, List, Result, Ok, Err}
use Rattle.ixp_num.specs.declared.asn.Asn.{Asn}
use Rattle.ixp_num.specs.declared.family.Family.{Family}
use Rattle.ixp_num.specs.declared.prefix.Prefix.{Prefix}
use Rattle.ixp_num_sorted.specs.Keys.{asn_key, prefix_key}
use Rattle.ixp_rpsl.specs.Breadth.{ExpandAnswer}
use Rattle.ixp_rpsl.specs.Objects.{ReadAnswer}
use Rattle.ixp_rpsl.specs.Origins.{SortedAnswer, origins_in, prefixes_in}
use Rattle.ixp_rpsl.specs.declared.fault.RpslFault.{RpslFault}
use Rattle.ixp_rpsl.specs.declared.fault.RpslFault.TheVariants as rpsl
use Rattle.ixp_rpsl.specs.declared.objects.Objects.{Objects}
use Rattle.ixp_rpsl.specs.declared.objects.Reach.{Reach}
use Rattle.ixp_rpsl_text.specs.declared.fault.ExpandCause.{ExpandCause}
use Rattle.ixp_rpsl_text.specs.declared.fault.ExpandCause.TheVariants as cause
use Rattle.ixp_rpsl_text.specs.declared.fault.ExpandFault.{ExpandFault}
use Rattle.ixp_rpsl_text.specs.declared.fault.ExpandFault.TheVariants as fault
use Rattle.ixp_rpsl_text.specs.declared.listing.Listing.{Listing}
use Rattle.ixp_rpsl_text.specs.declared.listing.Listing.TheVariants.{Sets, Origins, Prefixes}
use Rattle.ixp_rpsl_text.specs.Texts.{origins_text, prefixes_text, sets_text}

-- the AS numbers among the members of the sets of an expansion, in order and each once; or too many of them
abbrev pub OriginsAnswer : Objects → List Reach → Result (List Asn) RpslFault → Type 0
OriginsAnswer o c = SortedAnswer asn_key (origins_in o.sets c)

-- the prefixes of the family that these originate, in order and each once; or too many of them
abbrev pub PrefixesAnswer : Objects → Family → List Asn → Result (List Prefix) RpslFault → Type 0
PrefixesAnswer o family origins = SortedAnswer prefix_key (prefixes_in o.routes origins family)

-- the text of a listing
abbrev pub IsListing : Objects → List Reach → Family → Listing → List ℕ → Type 0
IsListing o c family Sets text = text ≡ sets_text c
IsListing o c family Origins text =
    (origins : List Asn) × OriginsAnswer o c (Ok origins) × (text ≡ origins_text origins)
IsListing o c family Prefixes text =
    (origins : List Asn) × OriginsAnswer o c (Ok origins) × (prefixes : List Prefix)
    × PrefixesAnswer o family origins (Ok prefixes)
    × (text ≡ prefixes_text prefixes)

-- a listing has too many items; of prefixes the AS numbers are counted first
abbrev pub HasTooMany : Objects → List Reach → Family → Listing → ℕ → Type 0
HasTooMany o c family Sets have = ⊥
HasTooMany o c family Origins have = OriginsAnswer o c (Err (rpsl.TooMany have))
HasTooMany o c family Prefixes have =
    OriginsAnswer o c (Err (rpsl.TooMany have))
    ⊎ ((origins : List Asn) × OriginsAnswer o c (Ok origins)
    × PrefixesAnswer o family origins (Err (rpsl.TooMany have)))

-- the input says these objects, of which this is the expansion of the set
abbrev pub IsExpanded : List ℕ → List ℕ → Objects → List Reach → Type 0
IsExpanded input root o c = ReadAnswer input (Ok o) × ExpandAnswer o.sets root (Ok c)

-- what is written of an input
abbrev pub Expands : List ℕ → List ℕ → Family → Listing → List ℕ → Type 0
Expands input root family listing text =
    (o : Objects) × (c : List Reach) × IsExpanded input root o c × IsListing o c family listing text

-- why nothing is
abbrev pub ExpandsNot : List ℕ → List ℕ → Family → Listing → ExpandCause → Type 0
ExpandsNot input root family listing (cause.Line n) = ReadAnswer input (Err (rpsl.Line n))
ExpandsNot input root family listing (cause.NoSet set) =
    (set ≡ root) × ((o : Objects) × ReadAnswer input (Ok o) × ExpandAnswer o.sets root (Err rpsl.NoSet))
ExpandsNot input root family listing (cause.TooMany have) =
    (o : Objects) × (c : List Reach) × IsExpanded input root o c × HasTooMany o c family listing have

-- there is such a cause, or memory ran out
abbrev pub Refused : (ExpandCause → Type 0) → ExpandFault → Type 0
Refused why (fault.Bad cause) = why cause
Refused why fault.NoMemory = Unit {0}
