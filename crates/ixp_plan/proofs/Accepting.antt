-- What is accepted keeps the rules on addresses.
use Rattle.std.proofs.Common.{◌≡◌, ℕ, suc, ◌+◌, ◌≤◌, Bool, true, false, ◌&&◌, ◌||◌, ◌==◌, List, [], ◌∷◌, ◌++◌, map, flat_map, Option, Some, None, refl, sym, ap, ◌∙◌, subst, arith, if◌then◌else◌}
use Rattle.std.specs.List.{list_any}
use Rattle.std.proofs.Math.Bool.{or-false}
use Rattle.std.proofs.lemmas.Bool.{or_parts}
use Rattle.std.proofs.lemmas.List.{map-append}
use Rattle.std.proofs.lemmas.List.Folds.{list_any-append}
use Rattle.std.proofs.lemmas.Grind.{flat_map-append}
use Rattle.ixp_num.specs.declared.family.Family.{Family}
use Rattle.ixp_num.specs.declared.family.Family.TheVariants.{V4, V6}
use Rattle.ixp_num.specs.declared.addr.Addr.{Addr}
use Rattle.ixp_num.specs.Families.{same_family}
use Rattle.ixp_registry.specs.declared.network.IfAddr.{IfAddr}
use Rattle.ixp_registry.specs.declared.network.Interface.{Interface}
use Rattle.ixp_registry.specs.declared.network.AddressRow.{AddressRow}
use Rattle.ixp_registry.specs.Keys.{interface_key}
use Rattle.ixp_registry.specs.Lookups.{has_addr}
use Rattle.ixp_num.specs.Prefixes.{same_addr}
use Rattle.ixp_registry.specs.Places.{times}
use Rattle.ixp_num_tables.specs.Tables.{same}
use Rattle.ixp_registry.specs.Registries.{bare, address_rows, addresses_of}
use Rattle.ixp_registry.specs.Words.{addr_numbers}
use Rattle.ixp_registry.specs.Valid.{IsIn}
use Rattle.ixp_num_tables.proofs.Counts.{same_is}
use Rattle.ixp_plan.specs.Setting.{addressed}
use Rattle.ixp_plan.proofs.Takings.{by_interfaces}
use Rattle.ixp_plan.proofs.Times.{times_both, never}

abbrev pub new_row : IfAddr → Interface → AddressRow
new_row x i = record { interface = i.number; address = x }

-- a test of the addresses of some interfaces with one among them
pub any_parts : (p : AddressRow → Bool) (before : List Interface) (i : Interface) (behind : List Interface) →
    list_any p (flat_map addresses_of (before ++ i ∷ behind)) ≡ (list_any p (flat_map addresses_of before) || (list_any p (addresses_of i) || list_any p (flat_map addresses_of behind)))
any_parts p before i behind =
    ap (list_any p) (flat_map-append addresses_of before (i ∷ behind))
    ∙ (list_any-append p (flat_map addresses_of before) (addresses_of i ++ flat_map addresses_of behind)
    ∙ ap (λ b. list_any p (flat_map addresses_of before) || b) (list_any-append p (addresses_of i) (flat_map addresses_of behind)))

own_parts : (p : AddressRow → Bool) (i : Interface) → list_any p (addresses_of i) ≡ false → (list_any p (address_rows i.number i.v4) ≡ false) × (list_any p (address_rows i.number i.v6) ≡ false)
own_parts p i e = or_parts (list_any p (address_rows i.number i.v4)) (list_any p (address_rows i.number i.v6)) (sym (list_any-append p (address_rows i.number i.v4) (address_rows i.number i.v6)) ∙ e)

pub none_of_both : (a b : Bool) → a ≡ false → b ≡ false → (a || b) ≡ false
none_of_both false false x y = refl
none_of_both false true x y = y
none_of_both true b x y = x

own_kept : (p : AddressRow → Bool) (f : Family) (x : IfAddr) (i : Interface) → list_any p (addresses_of i) ≡ false → p (new_row x i) ≡ false → list_any p (addresses_of (addressed f x i)) ≡ false
own_kept p V4 x i old new = none_of_both (p (new_row x i)) (list_any p (address_rows i.number i.v6)) new (own_parts p i old).1
own_kept p V6 x i old new =
    list_any-append p (address_rows i.number i.v4) (new_row x i ∷ [])
    ∙ none_of_both (list_any p (address_rows i.number i.v4)) (p (new_row x i) || false) (own_parts p i old).0 (or-false (p (new_row x i)) ∙ new)

-- what none of the addresses passes, nor the new one, none passes afterwards
pub any_kept : (p : AddressRow → Bool) (f : Family) (x : IfAddr) (before : List Interface) (i : Interface) (behind : List Interface) →
    list_any p (flat_map addresses_of (before ++ i ∷ behind)) ≡ false → p (new_row x i) ≡ false → list_any p (flat_map addresses_of (before ++ addressed f x i ∷ behind)) ≡ false
any_kept p f x before i behind old new =
    let parts = or_parts (list_any p (flat_map addresses_of before)) (list_any p (addresses_of i) || list_any p (flat_map addresses_of behind)) (sym (any_parts p before i behind) ∙ old) in
    let own = or_parts (list_any p (addresses_of i)) (list_any p (flat_map addresses_of behind)) parts.1 in
    any_parts p before (addressed f x i) behind
    ∙ none_of_both (list_any p (flat_map addresses_of before)) (list_any p (addresses_of (addressed f x i)) || list_any p (flat_map addresses_of behind)) parts.0
    (none_of_both (list_any p (addresses_of (addressed f x i))) (list_any p (flat_map addresses_of behind)) (own_kept p f x i own.0 new) own.1)

-- without its addresses an interface is as before
bare_kept : (f : Family) (x : IfAddr) (i : Interface) → bare (addressed f x i) ≡ bare i
bare_kept V4 x i = refl
bare_kept V6 x i = refl

pub bares_kept : (f : Family) (x : IfAddr) (before : List Interface) (i : Interface) (behind : List Interface) → map bare (before ++ addressed f x i ∷ behind) ≡ map bare (before ++ i ∷ behind)
bares_kept f x [] i behind = ap (λ b. b ∷ map bare behind) (bare_kept f x i)
bares_kept f x (j ∷ before) i behind = ap (λ bs. bare j ∷ bs) (bares_kept f x before i behind)

pub key_kept : (f : Family) (x : IfAddr) (i : Interface) → interface_key (addressed f x i) ≡ interface_key i
key_kept V4 x i = refl
key_kept V6 x i = refl

abbrev pub row_numbers : AddressRow → List ℕ
row_numbers a = addr_numbers a.address.addr

abbrev pub met : List ℕ → List AddressRow → ℕ
met q rows = times q (map row_numbers rows)

met_both : (q : List ℕ) (xs ys : List AddressRow) → met q (xs ++ ys) ≡ met q xs + met q ys
met_both q xs ys = ap (times q) (map-append row_numbers xs ys) ∙ times_both q (map row_numbers xs) (map row_numbers ys)

pub met_parts : (q : List ℕ) (before : List Interface) (i : Interface) (behind : List Interface) →
    met q (flat_map addresses_of (before ++ i ∷ behind)) ≡ met q (flat_map addresses_of before) + (met q (addresses_of i) + met q (flat_map addresses_of behind))
met_parts q before i behind =
    ap (met q) (flat_map-append addresses_of before (i ∷ behind))
    ∙ (met_both q (flat_map addresses_of before) (addresses_of i ++ flat_map addresses_of behind)
    ∙ ap (λ n. met q (flat_map addresses_of before) + n) (met_both q (addresses_of i) (flat_map addresses_of behind)))

-- the interface's other address
abbrev pub other_column : Family → Interface → Option IfAddr
other_column V4 i = i.v6
other_column V6 i = i.v4

abbrev pub one_if : Bool → ℕ
one_if b = if b then 1 else 0

-- how often a key is met among the interface's addresses: as often as in the other one, and once more where it is the new one's
pub met_own : (q : List ℕ) (f : Family) (x : IfAddr) (i : Interface) → met q (addresses_of (addressed f x i)) ≡ met q (address_rows i.number (other_column f i)) + one_if (same q (addr_numbers x.addr))
met_own q V4 x i = by_test (same q (addr_numbers x.addr)) where
  by_test : (b : Bool) → (if b then suc (met q (address_rows i.number i.v6)) else met q (address_rows i.number i.v6)) ≡ met q (address_rows i.number i.v6) + one_if b
  by_test true = omega arith
  by_test false = omega arith
met_own q V6 x i = met_both q (address_rows i.number i.v4) (new_row x i ∷ []) ∙ ap (λ n. met q (address_rows i.number i.v4) + n) (by_test (same q (addr_numbers x.addr))) where
  by_test : (b : Bool) → (if b then suc 0 else 0) ≡ one_if b
  by_test true = refl
  by_test false = refl

pub met_other : (q : List ℕ) (f : Family) (i : Interface) → met q (address_rows i.number (other_column f i)) ≤ met q (addresses_of i)
met_other q V4 i = let both : met q (addresses_of i) ≡ met q (address_rows i.number i.v4) + met q (address_rows i.number i.v6) = met_both q (address_rows i.number i.v4) (address_rows i.number i.v6) in omega arith
met_other q V6 i = let both : met q (addresses_of i) ≡ met q (address_rows i.number i.v4) + met q (address_rows i.number i.v6) = met_both q (address_rows i.number i.v4) (address_rows i.number i.v6) in omega arith

-- the numbers of an address of another family are others
other_family : (a : Addr) (n : ℕ) (g : Family) (o : Option IfAddr) → IsIn g o → same_family g a.family ≡ false → met (addr_numbers a) (address_rows n o) ≡ 0
other_family a n g None in_it apart = refl
other_family a n g (Some y) in_it apart =
    never (λ (r : AddressRow). r.address.addr) a (record { interface = n; address = y } ∷ [])
    (or-false (same_addr y.addr a) ∙ ap (λ b. b && y.addr.value == a.value) (ap (λ h. same_family h a.family) in_it ∙ apart))

pub other_none : (a : Addr) (f : Family) (i : Interface) → a.family ≡ f → IsIn V4 i.v4 × IsIn V6 i.v6 → met (addr_numbers a) (address_rows i.number (other_column f i)) ≡ 0
other_none a V4 i family columns = other_family a i.number V6 i.v6 columns.1 (ap (same_family V6) family)
other_none a V6 i family columns = other_family a i.number V4 i.v4 columns.0 (ap (same_family V4) family)

-- where the new address is nobody else's no key is met twice
pub met_once : (q : List ℕ) (f : Family) (x : IfAddr) (before : List Interface) (i : Interface) (behind : List Interface) (rest : ℕ) → x.addr.family ≡ f → IsIn V4 i.v4 × IsIn V6 i.v6
    → list_any (has_addr x.addr) before ≡ false → list_any (has_addr x.addr) behind ≡ false → ((q ≡ addr_numbers x.addr) → rest ≡ 0) → met q (flat_map addresses_of (before ++ i ∷ behind)) + rest ≤ 1
    → met q (flat_map addresses_of (before ++ addressed f x i ∷ behind)) + rest ≤ 1
met_once q f x before i behind rest family columns none_before none_behind none_rest old = by_test (same q (addr_numbers x.addr)) refl where
  was : met q (flat_map addresses_of (before ++ i ∷ behind)) ≡ met q (flat_map addresses_of before) + (met q (addresses_of i) + met q (flat_map addresses_of behind))
  was = met_parts q before i behind

  now : met q (flat_map addresses_of (before ++ addressed f x i ∷ behind)) ≡ met q (flat_map addresses_of before) + (met q (addresses_of (addressed f x i)) + met q (flat_map addresses_of behind))
  now = met_parts q before (addressed f x i) behind

  own : met q (addresses_of (addressed f x i)) ≡ met q (address_rows i.number (other_column f i)) + one_if (same q (addr_numbers x.addr))
  own = met_own q f x i

  clear : (is : List Interface) → list_any (has_addr x.addr) is ≡ false → met (addr_numbers x.addr) (flat_map addresses_of is) ≡ 0
  clear is none = never (λ (r : AddressRow). r.address.addr) x.addr (flat_map addresses_of is) (by_interfaces x.addr is ∙ none)

  by_test : (b : Bool) → same q (addr_numbers x.addr) ≡ b → met q (flat_map addresses_of (before ++ addressed f x i ∷ behind)) + rest ≤ 1
  by_test false h =
      let less : met q (address_rows i.number (other_column f i)) ≤ met q (addresses_of i) = met_other q f i in
      let one : one_if (same q (addr_numbers x.addr)) ≡ 0 = ap one_if h in
      omega (arith, was, now, own)
  by_test true h =
      let it : q ≡ addr_numbers x.addr = same_is q (addr_numbers x.addr) h in
      let a : met q (flat_map addresses_of before) ≡ 0 = subst (λ (k : List ℕ). met k (flat_map addresses_of before) ≡ 0) (sym it) (clear before none_before) in
      let b : met q (flat_map addresses_of behind) ≡ 0 = subst (λ (k : List ℕ). met k (flat_map addresses_of behind) ≡ 0) (sym it) (clear behind none_behind) in
      let c : met q (address_rows i.number (other_column f i)) ≡ 0 = subst (λ (k : List ℕ). met k (address_rows i.number (other_column f i)) ≡ 0) (sym it) (other_none x.addr f i family columns) in
      let one : one_if (same q (addr_numbers x.addr)) ≡ 1 = ap one_if h in
      let d : rest ≡ 0 = none_rest it in
      omega (arith, was, now, own)
