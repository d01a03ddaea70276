-- Rows of interfaces and of lists that ascend do so themselves.
use Rattle.std.proofs.Common.{◌≡◌, ℕ, suc, ◌<◌, ◌⊎◌, arith, inl, inr, List, [], ◌∷◌, ◌++◌, map, flat_map, Option, Some, None, refl, sym, ◌∙◌, subst}
use Rattle.std.specs.List.{AllByRecursion}
use Rattle.std.specs.declared.cmp.Ordering.{Ordering}
use Rattle.std.specs.declared.cmp.Ordering.TheVariants.{Less, Equal}
use Rattle.ixp_num.specs.AddressForms.{version_of}
use Rattle.ixp_num.specs.declared.family.Family.{Family}
use Rattle.ixp_num.specs.declared.family.Family.TheVariants.{V4, V6}
use Rattle.ixp_num.specs.declared.asn.Asn.{Asn}
use Rattle.ixp_num.specs.declared.prefix.Prefix.{Prefix}
use Rattle.ixp_num_tables.specs.Tables.{order, Ascends}
use Rattle.ixp_registry.specs.declared.network.IfAddr.{IfAddr}
use Rattle.ixp_registry.specs.declared.network.Interface.{Interface}
use Rattle.ixp_registry.specs.declared.network.AddressRow.{AddressRow}
use Rattle.ixp_registry.specs.declared.lists.IrrList.{IrrList}
use Rattle.ixp_registry.specs.declared.lists.OriginList.{OriginList}
use Rattle.ixp_registry.specs.declared.lists.MemberPrefix.{MemberPrefix}
use Rattle.ixp_registry.specs.declared.lists.MemberOrigin.{MemberOrigin}
use Rattle.ixp_registry.specs.Keys.{address_key, interface_row_key, interface_key, irr_key, origins_key, member_prefix_key, member_origin_key, rules_key, rule_key}
use Rattle.ixp_num_sorted.specs.Keys.{prefix_key, asn_key}
use Rattle.ixp_registry.specs.declared.rules.MemberRule.{MemberRule}
use Rattle.ixp_registry.specs.declared.rules.RuleList.{RuleList}
use Rattle.ixp_registry.specs.Registries.{bare, addresses_of, address_rows, prefixes_of, origins_of, rules_in}
use Rattle.ixp_registry.specs.Valid.{IsIn, ArePlaced, ValidRuleList}
use Rattle.ixp_registry_laws.specs.WellFormed.{IsPrefixList, IsOriginList}
use Rattle.ixp_num_tables.proofs.FirstNumbers.{key_up, same_first, less_first}
use Rattle.ixp_rows.proofs.Gathered.{all_joined}

never_less : {X : Type 0} → order [] [] ≡ Less → X
never_less e = absurd (let h : ◌≡◌ {A = Ordering} Equal Less = e in cc)

-- Each list has rows of its own, which ascend, and of two lists the rows compare as the lists do.
module _ {L R : Type 0} (list_key : L → List ℕ) (key : R → List ℕ) (rows_in : L → List R) (Of : L → R → Type 0)
    (apart : (l m : L) (r s : R) → Of l r → Of m s → order (list_key l) (list_key m) ≡ Less → order (key r) (key s) ≡ Less) where
  abbrev pub Stands : L → Type 0
  Stands l = Ascends key (rows_in l) × AllByRecursion (Of l) (rows_in l)

  below_rows : (l m : L) (r : R) → Of l r → order (list_key l) (list_key m) ≡ Less → (ss : List R) → AllByRecursion (Of m) ss → AllByRecursion (λ s. order (key r) (key s) ≡ Less) ss
  below_rows l m r of less [] all = tt
  below_rows l m r of less (s ∷ ss) all = (apart l m r s of all.0 less, below_rows l m r of less ss all.1)

  below_lists : (l : L) (r : R) → Of l r → (ms : List L) → AllByRecursion (λ m. order (list_key l) (list_key m) ≡ Less) ms → AllByRecursion Stands ms
      → AllByRecursion (λ s. order (key r) (key s) ≡ Less) (flat_map rows_in ms)
  below_lists l r of [] below stand = tt
  below_lists l r of (m ∷ ms) below stand =
      all_joined (λ s. order (key r) (key s) ≡ Less) (rows_in m) (flat_map rows_in ms) (below_rows l m r of below.0 (rows_in m) stand.0.1)
      (below_lists l r of ms below.1 stand.1)

  rows_up : (l : L) (rs : List R) → Ascends key rs → AllByRecursion (Of l) rs → (ms : List L) → AllByRecursion (λ m. order (list_key l) (list_key m) ≡ Less) ms → AllByRecursion Stands ms
      → Ascends key (flat_map rows_in ms) → Ascends key (rs ++ flat_map rows_in ms)
  rows_up l [] up of ms below stand behind = behind
  rows_up l (r ∷ rs) up of ms below stand behind = (
    all_joined (λ s. order (key r) (key s) ≡ Less) rs (flat_map rows_in ms) up.0 (below_lists l r of.0 ms below stand),
    rows_up l rs up.1 of.1 ms below stand behind,
  )

  pub flat_up : (ls : List L) → Ascends list_key ls → AllByRecursion Stands ls → Ascends key (flat_map rows_in ls)
  flat_up [] up stand = tt
  flat_up (l ∷ ls) up stand = rows_up l (rows_in l) stand.0.0 stand.0.1 ls up.0 stand.1 (flat_up ls up.1 stand.1)

-- Interfaces
pub bare_up : (is : List Interface) → Ascends interface_key is → Ascends interface_row_key (map bare is)
bare_up [] up = tt
bare_up (i ∷ is) up = (each is up.0, bare_up is up.1)
  where
    each : (js : List Interface) → AllByRecursion (λ s. order (interface_key i) (interface_key s) ≡ Less) js → AllByRecursion (λ s. order (interface_row_key (bare i)) (interface_row_key s) ≡ Less) (map bare js)
    each [] all = tt
    each (j ∷ js) all = (all.0, each js all.1)

-- Addresses
abbrev AddressOf : Interface → AddressRow → Type 0
AddressOf i a = a.interface ≡ i.number

one_up : (m n : ℕ) (a b : List ℕ) → order (m ∷ []) (n ∷ []) ≡ Less → order (m ∷ a) (n ∷ b) ≡ Less
one_up m n a b e = by_cases (key_up m n [] [] e)
  where
    by_cases : (m < n) ⊎ ((m ≡ n) × (order [] [] ≡ Less)) → order (m ∷ a) (n ∷ b) ≡ Less
    by_cases (inl lt) = less_first m n a b lt
    by_cases (inr both) = never_less both.1

addresses_apart : (i j : Interface) (a b : AddressRow) → AddressOf i a → AddressOf j b → order (interface_key i) (interface_key j) ≡ Less → order (address_key a) (address_key b) ≡ Less
addresses_apart i j a b of_i of_j e =
    rw (of_i, of_j) (one_up i.number j.number (version_of a.address.addr.family ∷ []) (version_of b.address.addr.family ∷ []) e)

four_six : (f g : Family) → f ≡ V4 → g ≡ V6 → order (version_of f ∷ []) (version_of g ∷ []) ≡ Less
four_six f g four six =
    subst (λ x. order (version_of x ∷ []) (version_of g ∷ []) ≡ Less) (sym four) (subst (λ x. order (4 ∷ []) (version_of x ∷ []) ≡ Less) (sym six) refl)

two_addresses : (n : ℕ) (v4 v6 : Option IfAddr) → IsIn V4 v4 → IsIn V6 v6 → Ascends address_key (address_rows n v4 ++ address_rows n v6)
two_addresses n None None four six = tt
two_addresses n None (Some b) four six = (tt, tt)
two_addresses n (Some a) None four six = (tt, tt)
two_addresses n (Some a) (Some b) four six =
    ((same_first n (version_of a.addr.family ∷ []) (version_of b.addr.family ∷ []) ∙ four_six a.addr.family b.addr.family four six, tt), (tt, tt))

its_addresses : (i : Interface) (v4 v6 : Option IfAddr) → AllByRecursion (AddressOf i) (address_rows i.number v4 ++ address_rows i.number v6)
its_addresses i None None = tt
its_addresses i None (Some b) = (refl, tt)
its_addresses i (Some a) None = (refl, tt)
its_addresses i (Some a) (Some b) = (refl, (refl, tt))

abbrev InterfaceStands : Interface → Type 0
InterfaceStands = Stands interface_key address_key addresses_of AddressOf addresses_apart

pub addresses_up : (is : List Interface) → Ascends interface_key is → AllByRecursion (λ i. IsIn V4 i.v4 × IsIn V6 i.v6) is → Ascends address_key (flat_map addresses_of is)
addresses_up is up families = flat_up interface_key address_key addresses_of AddressOf addresses_apart is up (each is families)
  where
    each : (is : List Interface) → AllByRecursion (λ i. IsIn V4 i.v4 × IsIn V6 i.v6) is → AllByRecursion InterfaceStands is
    each [] all = tt
    each (i ∷ is) all = ((two_addresses i.number i.v4 i.v6 all.0.0 all.0.1, its_addresses i i.v4 i.v6), each is all.1)

-- keys that begin with a list's
two_up : (m v n w : ℕ) (a b : List ℕ) → order (m ∷ v ∷ []) (n ∷ w ∷ []) ≡ Less → order (m ∷ v ∷ a) (n ∷ w ∷ b) ≡ Less
two_up m v n w a b e = by_first (key_up m n (v ∷ []) (w ∷ []) e)
  where
    by_second : m ≡ n → (v < w) ⊎ ((v ≡ w) × (order [] [] ≡ Less)) → order (m ∷ v ∷ a) (n ∷ w ∷ b) ≡ Less
    by_second same (inl lt) = subst (λ x. order (m ∷ v ∷ a) (x ∷ w ∷ b) ≡ Less) same (same_first m (v ∷ a) (w ∷ b) ∙ less_first v w a b lt)
    by_second same (inr both) = never_less both.1

    by_first : (m < n) ⊎ ((m ≡ n) × (order (v ∷ []) (w ∷ []) ≡ Less)) → order (m ∷ v ∷ a) (n ∷ w ∷ b) ≡ Less
    by_first (inl lt) = less_first m n (v ∷ a) (w ∷ b) lt
    by_first (inr both) = by_second both.0 (key_up v w [] [] both.1)

-- Prefixes
abbrev PrefixOf : IrrList → MemberPrefix → Type 0
PrefixOf l r = (r.member ≡ l.member) × (r.prefix.family ≡ l.family)

prefixes_apart : (l m : IrrList) (r s : MemberPrefix) → PrefixOf l r → PrefixOf m s → order (irr_key l) (irr_key m) ≡ Less → order (member_prefix_key r) (member_prefix_key s) ≡ Less
prefixes_apart l m r s of_l of_m e =
    rw (of_l.0, of_l.1, of_m.0, of_m.1)
    (two_up l.member (version_of l.family) m.member (version_of m.family) (r.prefix.value ∷ r.prefix.len ∷ []) (s.prefix.value ∷ s.prefix.len ∷ []) e)

prefix_rows_up : (n : ℕ) (ps : List Prefix) → Ascends prefix_key ps → Ascends member_prefix_key (map (λ p. record { member = n; prefix = p }) ps)
prefix_rows_up n [] up = tt
prefix_rows_up n (p ∷ ps) up = (each ps up.0, prefix_rows_up n ps up.1)
  where
    each : (qs : List Prefix) → AllByRecursion (λ q. order (prefix_key p) (prefix_key q) ≡ Less) qs
        → AllByRecursion (λ s. order (n ∷ prefix_key p) (member_prefix_key s) ≡ Less) (map (λ p. record { member = n; prefix = p }) qs)
    each [] all = tt
    each (q ∷ qs) all = (same_first n (prefix_key p) (prefix_key q) ∙ all.0, each qs all.1)

its_prefixes : (l : IrrList) (ps : List Prefix) → AllByRecursion (λ p. p.family ≡ l.family) ps → AllByRecursion (PrefixOf l) (map (λ p. record { member = l.member; prefix = p }) ps)
its_prefixes l [] all = tt
its_prefixes l (p ∷ ps) all = ((refl, all.0), its_prefixes l ps all.1)

abbrev PrefixesStand : IrrList → Type 0
PrefixesStand = Stands irr_key member_prefix_key prefixes_of PrefixOf prefixes_apart

pub prefixes_up : (ls : List IrrList) → Ascends irr_key ls → AllByRecursion IsPrefixList ls → Ascends member_prefix_key (flat_map prefixes_of ls)
prefixes_up ls up lists = flat_up irr_key member_prefix_key prefixes_of PrefixOf prefixes_apart ls up (each ls lists)
  where
    each : (ls : List IrrList) → AllByRecursion IsPrefixList ls → AllByRecursion PrefixesStand ls
    each [] all = tt
    each (l ∷ ls) all = ((prefix_rows_up l.member l.prefixes all.0.1, its_prefixes l l.prefixes all.0.2), each ls all.1)

-- Origins
abbrev OriginOf : OriginList → MemberOrigin → Type 0
OriginOf l r = (r.member ≡ l.member) × (r.family ≡ l.family)

origins_apart : (l m : OriginList) (r s : MemberOrigin) → OriginOf l r → OriginOf m s → order (origins_key l) (origins_key m) ≡ Less → order (member_origin_key r) (member_origin_key s) ≡ Less
origins_apart l m r s of_l of_m e =
    rw (of_l.0, of_l.1, of_m.0, of_m.1) (two_up l.member (version_of l.family) m.member (version_of m.family) (asn_key r.asn) (asn_key s.asn) e)

origin_rows_up : (n : ℕ) (f : Family) (asns : List Asn) → Ascends asn_key asns → Ascends member_origin_key (map (λ a. record { member = n; family = f; asn = a }) asns)
origin_rows_up n f [] up = tt
origin_rows_up n f (a ∷ asns) up = (each asns up.0, origin_rows_up n f asns up.1)
  where
    each : (bs : List Asn) → AllByRecursion (λ b. order (asn_key a) (asn_key b) ≡ Less) bs
        → AllByRecursion (λ s. order (n ∷ version_of f ∷ asn_key a) (member_origin_key s) ≡ Less) (map (λ a. record { member = n; family = f; asn = a }) bs)
    each [] all = tt
    each (b ∷ bs) all = (
      same_first n (version_of f ∷ asn_key a) (version_of f ∷ asn_key b) ∙ (same_first (version_of f) (asn_key a) (asn_key b) ∙ all.0),
      each bs all.1,
    )

its_origins : (l : OriginList) (asns : List Asn) → AllByRecursion (OriginOf l) (map (λ a. record { member = l.member; family = l.family; asn = a }) asns)
its_origins l [] = tt
its_origins l (a ∷ asns) = ((refl, refl), its_origins l asns)

abbrev OriginsStand : OriginList → Type 0
OriginsStand = Stands origins_key member_origin_key origins_of OriginOf origins_apart

pub origins_up : (ls : List OriginList) → Ascends origins_key ls → AllByRecursion IsOriginList ls → Ascends member_origin_key (flat_map origins_of ls)
origins_up ls up lists = flat_up origins_key member_origin_key origins_of OriginOf origins_apart ls up (each ls lists)
  where
    each : (ls : List OriginList) → AllByRecursion IsOriginList ls → AllByRecursion OriginsStand ls
    each [] all = tt
    each (l ∷ ls) all = ((origin_rows_up l.member l.family l.asns all.0.1, its_origins l l.asns), each ls all.1)

-- Rules
abbrev RuleOf : RuleList → MemberRule → Type 0
RuleOf l x = x.member ≡ l.member

rules_apart : (l m : RuleList) (x y : MemberRule) → RuleOf l x → RuleOf m y → order (rules_key l) (rules_key m) ≡ Less → order (rule_key x) (rule_key y) ≡ Less
rules_apart l m x y of_l of_m e = rw (of_l, of_m) (one_up l.member m.member (x.place ∷ []) (y.place ∷ []) e)

place_above : (m a b : ℕ) → a < b → order (m ∷ a ∷ []) (m ∷ b ∷ []) ≡ Less
place_above m a b lt = same_first m (a ∷ []) (b ∷ []) ∙ less_first a b [] [] lt

-- the rules behind one are above it
placed_above : (m a n : ℕ) (xs : List MemberRule) → a < n → AllByRecursion (λ x. x.member ≡ m) xs → ArePlaced n xs → AllByRecursion (λ x. order (m ∷ a ∷ []) (rule_key x) ≡ Less) xs
placed_above m a n [] lt own placed = tt
placed_above m a n (x ∷ xs) lt own placed =
    (rw (own.0, placed.0) (place_above m a n lt), placed_above m a (suc n) xs (omega (arith, lt)) own.1 placed.1)

placed_up : (m n : ℕ) (xs : List MemberRule) → AllByRecursion (λ x. x.member ≡ m) xs → ArePlaced n xs → Ascends rule_key xs
placed_up m n [] own placed = tt
placed_up m n (x ∷ xs) own placed =
    (rw (own.0, placed.0) (placed_above m n (suc n) xs (omega arith) own.1 placed.1), placed_up m (suc n) xs own.1 placed.1)

abbrev RulesStand : RuleList → Type 0
RulesStand = Stands rules_key rule_key rules_in RuleOf rules_apart

pub rules_up : (ls : List RuleList) → Ascends rules_key ls → AllByRecursion ValidRuleList ls → Ascends rule_key (flat_map rules_in ls)
rules_up ls up lists = flat_up rules_key rule_key rules_in RuleOf rules_apart ls up (each ls lists)
  where
    each : (ls : List RuleList) → AllByRecursion ValidRuleList ls → AllByRecursion RulesStand ls
    each [] all = tt
    each (l ∷ ls) all = ((placed_up l.member 1 l.rules all.0.member all.0.places, all.0.member), each ls all.1)
