-- Which AS numbers and prefixes the sets of an expansion stand for.
use Rattle.std.specs.Prelude.{◌≡◌, ◌<◌, ◌≤◌, ◌++◌, ◌==◌, ◌&&◌, ℕ, Bool, List, [], ◌∷◌, Result, Ok, Err, length, if◌then◌else◌}
use Rattle.std.specs.List.{list_any}
use Rattle.ixp_num.specs.Families.{same_family}
use Rattle.ixp_num.specs.declared.asn.Asn.{Asn}
use Rattle.ixp_num.specs.declared.family.Family.{Family}
use Rattle.ixp_num.specs.declared.prefix.Prefix.{Prefix}
use Rattle.ixp_num_sorted.specs.Sorted.{IsInOrder}
use Rattle.ixp_rpsl.specs.Expansion.{has_name}
use Rattle.ixp_rpsl.specs.declared.fault.RpslFault.{RpslFault}
use Rattle.ixp_rpsl.specs.declared.fault.RpslFault.TheVariants as fault
use Rattle.ixp_rpsl.specs.declared.objects.Item.{Item}
use Rattle.ixp_rpsl.specs.declared.objects.Item.TheVariants as item
use Rattle.ixp_rpsl.specs.declared.objects.Reach.{Reach}
use Rattle.ixp_rpsl.specs.declared.objects.SetRow.{SetRow}

-- the AS numbers among items
abbrev pub numbers_in : List Item → List Asn
numbers_in [] = []
numbers_in (item.As n ∷ is) = n ∷ numbers_in is
numbers_in (item.Set name ∷ is) = numbers_in is

-- the AS numbers among the members of the objects whose sets are in a list
abbrev pub origins_in : List SetRow → List Reach → List Asn
origins_in [] c = []
origins_in (r ∷ rs) c = if has_name c r.name then numbers_in r.members ++ origins_in rs c else origins_in rs c

abbrev pub is_origin : List Asn → Asn → Bool
is_origin origins a = list_any (λ o. a.0 == o.0) origins

-- the prefixes of a family whose routes have one of these origins
abbrev pub prefixes_in : List (Prefix × Asn) → List Asn → Family → List Prefix
prefixes_in [] origins family = []
prefixes_in (r ∷ rs) origins family = if same_family r.0.family family && is_origin origins r.1
    then r.0 ∷ prefixes_in rs origins family else prefixes_in rs origins family

-- these items in the order of their keys and each once, if there are at most 300,000
abbrev pub SortedAnswer : {A : Type 0} → (A → List ℕ) → List A → Result (List A) RpslFault → Type 0
SortedAnswer {A} key items (Ok sorted) = IsInOrder key items sorted × (length sorted ≤ 300000)
SortedAnswer {A} key items (Err (fault.TooMany have)) =
    (sorted : List A) × IsInOrder key items sorted × (have ≡ length sorted) × (300000 < have)
SortedAnswer {A} key items (Err (fault.Line n)) = ⊥
SortedAnswer {A} key items (Err fault.NoSet) = ⊥
SortedAnswer {A} key items (Err fault.NoMemory) = Unit {0}
