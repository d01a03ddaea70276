-- What a set or an AS number expands to.
use Rattle.std.specs.Prelude.{◌≡◌, ◌⊎◌, List, [], ◌∷◌, Result, Ok, Err}
use Rattle.ixp_num.specs.declared.asn.Asn.{Asn}
use Rattle.ixp_num.specs.declared.family.Family.{Family}
use Rattle.ixp_num.specs.declared.prefix.Prefix.{Prefix}
use Rattle.ixp_num_sorted.specs.Keys.{asn_key, prefix_key}
use Rattle.ixp_rpsl.specs.Breadth.{ExpandAnswer}
use Rattle.ixp_rpsl.specs.Origins.{SortedAnswer, origins_in, prefixes_in}
use Rattle.ixp_rpsl.specs.declared.fault.RpslFault.{RpslFault}
use Rattle.ixp_rpsl.specs.declared.fault.RpslFault.TheVariants as fault
use Rattle.ixp_rpsl.specs.declared.objects.Item.{Item}
use Rattle.ixp_rpsl.specs.declared.objects.Item.TheVariants as item
use Rattle.ixp_rpsl.specs.declared.objects.Objects.{Objects}
use Rattle.ixp_rpsl.specs.declared.objects.Reach.{Reach}

-- the sets that it leads to: none, of an AS number
abbrev pub SetsAnswer : Objects → Item → Result (List Reach) RpslFault → Type 0
SetsAnswer o (item.As a) (Ok c) = c ≡ []
SetsAnswer o (item.As a) (Err fault.NoMemory) = Unit {0}
SetsAnswer o (item.As a) (Err (fault.Line n)) = ⊥
SetsAnswer o (item.As a) (Err fault.NoSet) = ⊥
SetsAnswer o (item.As a) (Err (fault.TooMany have)) = ⊥
SetsAnswer o (item.Set name) result = ExpandAnswer o.sets name result

-- the AS numbers among the members of these: of an AS number itself
abbrev pub origins_to : Objects → Item → List Reach → List Asn
origins_to o (item.As a) c = a ∷ []
origins_to o (item.Set name) c = origins_in o.sets c

abbrev pub OriginsAnswer : Objects → Item → Result (List Asn) RpslFault → Type 0
OriginsAnswer o root (Err fault.NoSet) = SetsAnswer o root (Err fault.NoSet)
OriginsAnswer o root (Err fault.NoMemory) = Unit {0}
OriginsAnswer o root (Err (fault.Line n)) = ⊥
OriginsAnswer o root (Err (fault.TooMany have)) = (c : List Reach) × SetsAnswer o root (Ok c)
    × SortedAnswer asn_key (origins_to o root c) (Err (fault.TooMany have))
OriginsAnswer o root (Ok origins) = (c : List Reach) × SetsAnswer o root (Ok c)
    × SortedAnswer asn_key (origins_to o root c) (Ok origins)

-- the prefixes of a family that these originate
abbrev pub PrefixesAnswer : Objects → Item → Family → Result (List Prefix) RpslFault → Type 0
PrefixesAnswer o root family (Err fault.NoSet) = SetsAnswer o root (Err fault.NoSet)
PrefixesAnswer o root family (Err fault.NoMemory) = Unit {0}
PrefixesAnswer o root family (Err (fault.Line n)) = ⊥
PrefixesAnswer o root family (Err (fault.TooMany have)) =
    OriginsAnswer o root (Err (fault.TooMany have))
    ⊎ ((origins : List Asn) × OriginsAnswer o root (Ok origins)
    × SortedAnswer prefix_key (prefixes_in o.routes origins family) (Err (fault.TooMany have)))
PrefixesAnswer o root family (Ok prefixes) = (origins : List Asn) × OriginsAnswer o root (Ok origins)
    × SortedAnswer prefix_key (prefixes_in o.routes origins family) (Ok prefixes)
