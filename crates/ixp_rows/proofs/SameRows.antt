-- Two valid registries of the same rows are one.
use Rattle.std.proofs.Common.{◌≡◌, ◌≢◌, ℕ, List, [], ◌∷◌, ◌++◌, map, flat_map, Option, Some, None, refl, sym, ap, ◌∙◌, subst}
use Rattle.std.specs.List.{AllByRecursion}
use Rattle.std.specs.declared.cmp.Ordering.TheVariants.{Less, Equal}
use Rattle.ixp_num.specs.declared.family.Family.{Family}
use Rattle.ixp_num.specs.declared.family.Family.TheVariants.{V4, V6}
use Rattle.ixp_num.specs.declared.asn.Asn.{Asn}
use Rattle.ixp_num.specs.declared.prefix.Prefix.{Prefix}
use Rattle.ixp_num.specs.AddressForms.{version_of}
use Rattle.ixp_num.proofs.SameParts.{family_same}
use Rattle.ixp_num_tables.specs.Tables.{order, Ascends}
use Rattle.ixp_num_tables.proofs.AllItems.{all_both, all_true, mapped_all, flat_all}
use Rattle.ixp_num_tables.proofs.Orders.{all_weaker, order_same}
use Rattle.ixp_registry.specs.declared.site.Site.{Site}
use Rattle.ixp_registry.specs.declared.members.Member.{Member}
use Rattle.ixp_registry.specs.declared.members.Contact.{Contact}
use Rattle.ixp_registry.specs.declared.members.ApiKey.{ApiKey}
use Rattle.ixp_registry.specs.declared.network.Switch.{Switch}
use Rattle.ixp_registry.specs.declared.network.Port.{Port}
use Rattle.ixp_registry.specs.declared.network.Vlan.{Vlan}
use Rattle.ixp_registry.specs.declared.network.IfAddr.{IfAddr}
use Rattle.ixp_registry.specs.declared.network.Interface.{Interface}
use Rattle.ixp_registry.specs.declared.network.InterfaceRow.{InterfaceRow}
use Rattle.ixp_registry.specs.declared.network.AddressRow.{AddressRow}
use Rattle.ixp_registry.specs.declared.router.Router.{Router}
use Rattle.ixp_registry.specs.declared.lists.IrrList.{IrrList}
use Rattle.ixp_registry.specs.declared.lists.OriginList.{OriginList}
use Rattle.ixp_registry.specs.declared.lists.MemberPrefix.{MemberPrefix}
use Rattle.ixp_registry.specs.declared.lists.MemberOrigin.{MemberOrigin}
use Rattle.ixp_registry.specs.declared.lists.PublicLists.{PublicLists}
use Rattle.ixp_registry.specs.declared.rules.MemberRule.{MemberRule}
use Rattle.ixp_registry.specs.declared.rules.RuleList.{RuleList}
use Rattle.ixp_registry.specs.declared.registry.Registry.{Registry}
use Rattle.ixp_registry.specs.Keys.{interface_key, irr_key, origins_key, rules_key}
use Rattle.ixp_registry.specs.Registries.{rows_of, bare, address_rows, addresses_of, prefixes_of, origins_of, rules_in}
use Rattle.ixp_registry.specs.Valid.{Valid, IsIn}
use Rattle.ixp_registry_laws.specs.WellFormed.{HasColumns, IsPrefixList, IsOriginList, IsRuleList}
use Rattle.ixp_registry_laws.proofs.ToRules.{well_formed}

module _ {X : Type 0} where
  head_same : (x y : X) (xs ys : List X) → x ∷ xs ≡ y ∷ ys → x ≡ y
  head_same x y xs ys e = cc

  tail_same : (x y : X) (xs ys : List X) → x ∷ xs ≡ y ∷ ys → xs ≡ ys
  tail_same x y xs ys e = cc

  -- two lists in which rows of a kind stand in front and none of it behind have the same fronts where they are the same
  span_same : (P : X → Type 0) (xs ys us vs : List X) → xs ++ us ≡ ys ++ vs → AllByRecursion P xs → AllByRecursion P ys → AllByRecursion (λ x. P x → ⊥) us → AllByRecursion (λ x. P x → ⊥) vs → (xs ≡ ys) × (us ≡ vs)
  span_same P [] [] us vs e a b c d = (refl, e)
  span_same P [] (y ∷ ys) [] vs e a b c d = absurd (let bad : ⊥ = cc in bad)
  span_same P [] (y ∷ ys) (u ∷ us) vs e a b c d = absurd (c.0 (subst P (sym (head_same u y us (ys ++ vs) e)) b.0))
  span_same P (x ∷ xs) [] us [] e a b c d = absurd (let bad : ⊥ = cc in bad)
  span_same P (x ∷ xs) [] us (v ∷ vs) e a b c d = absurd (d.0 (subst P (head_same x v (xs ++ us) vs e) a.0))
  span_same P (x ∷ xs) (y ∷ ys) us vs e a b c d =
      let h = head_same x y (xs ++ us) (ys ++ vs) e in
      let rest = span_same P xs ys us vs (tail_same x y (xs ++ us) (ys ++ vs) e) a.1 b.1 c d in
      (ap (λ z. z ∷ xs) h ∙ ap (λ zs. y ∷ zs) rest.0, rest.1)

-- what stands in groups is grouped in one way
module _ {L X : Type 0} (rows : L → List X) (g : L → List ℕ) (f : X → List ℕ) (P : L → Type 0) (rebuilt : (l k : L) → P l → P k → g l ≡ g k → rows l ≡ rows k → l ≡ k) where
  record Of (l : L) : Type 0 where
    some : rows l ≢ []
    own : AllByRecursion (λ x. f x ≡ g l) (rows l)
    fact : P l

  others : (k : List ℕ) (ls : List L) → AllByRecursion (λ l. order k (g l) ≡ Less) ls → AllByRecursion Of ls → AllByRecursion (λ x. f x ≡ k → ⊥) (flat_map rows ls)
  others k ls above of =
      flat_all (λ x. f x ≡ k → ⊥) rows ls
      (all_weaker (λ l. (order k (g l) ≡ Less) × Of l) (λ l. AllByRecursion (λ x. f x ≡ k → ⊥) (rows l))
      (λ l both. all_weaker (λ x. f x ≡ g l) (λ x. f x ≡ k → ⊥) (λ x is at. clash (g l) (sym at ∙ is) both.0) (rows l) both.1.own) ls (all_both (λ l. order k (g l) ≡ Less) Of ls above of))
    where
      clash : (q : List ℕ) → k ≡ q → order k q ≡ Less → ⊥
      clash q e less = let same : order k q ≡ Equal = subst (λ (x : List ℕ). order k x ≡ Equal) e (order_same k) in let bad : ⊥ = cc in bad

  keys_same : (xs ys us vs : List X) (a b : List ℕ) → xs ≢ [] → ys ≢ [] → xs ++ us ≡ ys ++ vs → AllByRecursion (λ x. f x ≡ a) xs → AllByRecursion (λ x. f x ≡ b) ys → a ≡ b
  keys_same [] ys us vs a b some more e p q = absurd (some refl)
  keys_same (x ∷ xs) [] us vs a b some more e p q = absurd (more refl)
  keys_same (x ∷ xs) (y ∷ ys) us vs a b some more e p q = sym p.0 ∙ (ap f (head_same x y (xs ++ us) (ys ++ vs) e) ∙ q.0)

  none_empty : (xs us : List X) → xs ≢ [] → xs ++ us ≡ [] → ⊥
  none_empty [] us some e = some refl
  none_empty (x ∷ xs) us some e = let bad : ⊥ = cc in bad

  lists_same : (ls ks : List L) → Ascends g ls → Ascends g ks → AllByRecursion Of ls → AllByRecursion Of ks → flat_map rows ls ≡ flat_map rows ks → ls ≡ ks
  lists_same [] [] up down a b e = refl
  lists_same [] (k ∷ ks) up down a b e = absurd (none_empty (rows k) (flat_map rows ks) b.0.some (sym e))
  lists_same (l ∷ ls) [] up down a b e = absurd (none_empty (rows l) (flat_map rows ls) a.0.some e)
  lists_same (l ∷ ls) (k ∷ ks) up down a b e =
      let key : g l ≡ g k = keys_same (rows l) (rows k) (flat_map rows ls) (flat_map rows ks) (g l) (g k) a.0.some b.0.some e a.0.own b.0.own in
      let parts = span_same (λ x. f x ≡ g l) (rows l) (rows k) (flat_map rows ls) (flat_map rows ks) e a.0.own
      (subst (λ q. AllByRecursion (λ x. f x ≡ q) (rows k)) (sym key) b.0.own) (others (g l) ls up.0 a.1)
      (subst (λ q. AllByRecursion (λ x. f x ≡ q → ⊥) (flat_map rows ks)) (sym key) (others (g k) ks down.0 b.1)) in
      ap (λ z. z ∷ ls) (rebuilt l k a.0.fact b.0.fact key parts.0) ∙ ap (λ zs. k ∷ zs) (lists_same ls ks up.1 down.1 a.1 b.1 parts.1)

map_some : {X Y : Type 0} (f : X → Y) (xs : List X) → xs ≢ [] → map f xs ≢ []
map_some f [] some = absurd (some refl)
map_some f (x ∷ xs) some = λ e. let bad : ⊥ = cc in bad

one_number : (m n : ℕ) (a b : List ℕ) → m ∷ a ≡ n ∷ b → m ≡ n
one_number m n a b e = cc

second_number : (m n v w : ℕ) (a b : List ℕ) → m ∷ v ∷ a ≡ n ∷ w ∷ b → v ≡ w
second_number m n v w a b e = cc

-- prefix lists
irr_with : ℕ → Family → List Prefix → IrrList
irr_with m f ps = record { member = m; family = f; prefixes = ps }

irr_whole : (l : IrrList) → irr_with l.member l.family l.prefixes ≡ l
unfolding irr_with
irr_whole l = refl

prefixes_back : (n : ℕ) (ps : List Prefix) → map (λ r. r.prefix) (map (λ p. let row : MemberPrefix = record { member = n; prefix = p } in row) ps) ≡ ps
prefixes_back n [] = refl
prefixes_back n (p ∷ ps) = ap (λ qs. p ∷ qs) (prefixes_back n ps)

irr_rebuilt : (l k : IrrList) → IsPrefixList l → IsPrefixList k → irr_key l ≡ irr_key k → prefixes_of l ≡ prefixes_of k → l ≡ k
irr_rebuilt l k a b key rows =
    let member = one_number l.member k.member (version_of l.family ∷ []) (version_of k.family ∷ []) key in
    let family = family_same l.family k.family (second_number l.member k.member (version_of l.family) (version_of k.family) [] [] key) in
    let prefixes : l.prefixes ≡ k.prefixes = sym (prefixes_back l.member l.prefixes) ∙ (ap (map (λ (r : MemberPrefix). r.prefix)) rows ∙ prefixes_back k.member k.prefixes) in
    let parts : irr_with l.member l.family l.prefixes ≡ irr_with k.member k.family k.prefixes = cc in
    sym (irr_whole l) ∙ (parts ∙ irr_whole k)

irr_of : (l : IrrList) → IsPrefixList l → Of prefixes_of irr_key (λ p. p.member ∷ version_of p.prefix.family ∷ []) IsPrefixList irr_rebuilt l
irr_of l is = record {
  some = map_some (λ p. record { member = l.member; prefix = p }) l.prefixes is.0;
  own = mapped_all (λ p. p.member ∷ version_of p.prefix.family ∷ [] ≡ irr_key l) (λ p. record { member = l.member; prefix = p }) l.prefixes
      (all_weaker (λ p. p.family ≡ l.family) (λ p. l.member ∷ version_of p.family ∷ [] ≡ irr_key l) (λ p e. ap (λ q. l.member ∷ version_of q ∷ []) e) l.prefixes is.2);
  fact = is;
}

-- origin lists
origins_with : ℕ → Family → List Asn → OriginList
origins_with m f xs = record { member = m; family = f; asns = xs }

origins_whole : (l : OriginList) → origins_with l.member l.family l.asns ≡ l
unfolding origins_with
origins_whole l = refl

asns_back : (n : ℕ) (f : Family) (xs : List Asn) → map (λ r. r.asn) (map (λ a. let row : MemberOrigin = record { member = n; family = f; asn = a } in row) xs) ≡ xs
asns_back n f [] = refl
asns_back n f (x ∷ xs) = ap (λ ys. x ∷ ys) (asns_back n f xs)

origins_rebuilt : (l k : OriginList) → IsOriginList l → IsOriginList k → origins_key l ≡ origins_key k → origins_of l ≡ origins_of k → l ≡ k
origins_rebuilt l k a b key rows =
    let member = one_number l.member k.member (version_of l.family ∷ []) (version_of k.family ∷ []) key in
    let family = family_same l.family k.family (second_number l.member k.member (version_of l.family) (version_of k.family) [] [] key) in
    let asns : l.asns ≡ k.asns = sym (asns_back l.member l.family l.asns) ∙ (ap (map (λ (r : MemberOrigin). r.asn)) rows ∙ asns_back k.member k.family k.asns) in
    let parts : origins_with l.member l.family l.asns ≡ origins_with k.member k.family k.asns = cc in
    sym (origins_whole l) ∙ (parts ∙ origins_whole k)

origins_of_list : (l : OriginList) → IsOriginList l → Of origins_of origins_key (λ o. o.member ∷ version_of o.family ∷ []) IsOriginList origins_rebuilt l
origins_of_list l is = record {
  some = map_some (λ a. record { member = l.member; family = l.family; asn = a }) l.asns is.0;
  own = mapped_all (λ o. o.member ∷ version_of o.family ∷ [] ≡ origins_key l) (λ a. record { member = l.member; family = l.family; asn = a }) l.asns (all_true (λ a. origins_key l ≡ origins_key l) (λ a. refl) l.asns);
  fact = is;
}

-- rules
rules_with : ℕ → List MemberRule → RuleList
rules_with m xs = record { member = m; rules = xs }

rules_whole : (l : RuleList) → rules_with l.member l.rules ≡ l
unfolding rules_with
rules_whole l = refl

rules_rebuilt : (l k : RuleList) → IsRuleList l → IsRuleList k → rules_key l ≡ rules_key k → rules_in l ≡ rules_in k → l ≡ k
rules_rebuilt l k a b key rows =
    let member = one_number l.member k.member [] [] key in
    let parts : rules_with l.member l.rules ≡ rules_with k.member k.rules = cc in
    sym (rules_whole l) ∙ (parts ∙ rules_whole k)

rules_of_list : (l : RuleList) → IsRuleList l → Of rules_in rules_key (λ x. x.member ∷ []) IsRuleList rules_rebuilt l
rules_of_list l is = record {
  some = is.0;
  own = all_weaker (λ x. x.member ≡ l.member) (λ x. x.member ∷ [] ≡ rules_key l) (λ x e. ap (λ n. n ∷ []) e) l.rules is.1;
  fact = is;
}

-- interfaces
interface_with : ℕ → ℕ → ℕ → ℕ → Option IfAddr → Option IfAddr → Interface
interface_with n m p v four six = record { number = n; member = m; port = p; vlan = v; v4 = four; v6 = six }

interface_whole : (i : Interface) → interface_with i.number i.member i.port i.vlan i.v4 i.v6 ≡ i
unfolding interface_with
interface_whole i = refl

abbrev first_address : List AddressRow → Option IfAddr
first_address [] = None
first_address (a ∷ rows) = Some a.address

address_back : (n : ℕ) (x : Option IfAddr) → first_address (address_rows n x) ≡ x
address_back n None = refl
address_back n (Some a) = refl

column_is : (n : ℕ) (f : Family) (x : Option IfAddr) → IsIn f x → AllByRecursion (λ a. a.address.addr.family ≡ f) (address_rows n x)
column_is n f None is = tt
column_is n f (Some a) is = (is, tt)

six_not_four : (n : ℕ) (x : Option IfAddr) → IsIn V6 x → AllByRecursion (λ a. a.address.addr.family ≡ V4 → ⊥) (address_rows n x)
six_not_four n x is = all_weaker (λ a. a.address.addr.family ≡ V6) (λ a. a.address.addr.family ≡ V4 → ⊥) (λ a six four. let bad : ⊥ = cc in bad) (address_rows n x) (column_is n V6 x is)

columns_same : (m n : ℕ) (a b c d : Option IfAddr) → IsIn V4 a → IsIn V6 b → IsIn V4 c → IsIn V6 d → address_rows m a ++ address_rows m b ≡ address_rows n c ++ address_rows n d → (a ≡ c) × (b ≡ d)
columns_same m n a b c d p q r s e =
    let parts = span_same (λ x. x.address.addr.family ≡ V4) (address_rows m a) (address_rows n c) (address_rows m b) (address_rows n d) e (column_is m V4 a p) (column_is n V4 c r) (six_not_four m b q) (six_not_four n d s) in
    (sym (address_back m a) ∙ (ap first_address parts.0 ∙ address_back n c), sym (address_back m b) ∙ (ap first_address parts.1 ∙ address_back n d))

numbered : (n : ℕ) (x y : Option IfAddr) → AllByRecursion (λ a. a.interface ≡ n) (address_rows n x ++ address_rows n y)
numbered n None None = tt
numbered n None (Some y) = (refl, tt)
numbered n (Some x) None = (refl, tt)
numbered n (Some x) (Some y) = (refl, (refl, tt))

numbers_clash : (m n : ℕ) → m ≡ n → order (m ∷ []) (n ∷ []) ≡ Less → ⊥
numbers_clash m n e less = let same : order (m ∷ []) (n ∷ []) ≡ Equal = subst (λ (x : ℕ). order (m ∷ []) (x ∷ []) ≡ Equal) e (order_same (m ∷ [])) in let bad : ⊥ = cc in bad

other_interfaces : (n : ℕ) (is : List Interface) → AllByRecursion (λ i. order (n ∷ []) (interface_key i) ≡ Less) is → AllByRecursion (λ a. a.interface ≡ n → ⊥) (flat_map addresses_of is)
other_interfaces n is above =
    flat_all (λ a. a.interface ≡ n → ⊥) addresses_of is
    (all_weaker (λ i. order (n ∷ []) (interface_key i) ≡ Less) (λ i. AllByRecursion (λ a. a.interface ≡ n → ⊥) (addresses_of i))
    (λ i less. all_weaker (λ a. a.interface ≡ i.number) (λ a. a.interface ≡ n → ⊥) (λ a own at. numbers_clash n i.number (sym at ∙ own) less) (addresses_of i) (numbered i.number i.v4 i.v6)) is above)

interfaces_same : (is js : List Interface) → Ascends interface_key is → Ascends interface_key js → AllByRecursion HasColumns is → AllByRecursion HasColumns js → map bare is ≡ map bare js → flat_map addresses_of is ≡ flat_map addresses_of js → is ≡ js
interfaces_same [] [] up down a b rows addresses = refl
interfaces_same [] (j ∷ js) up down a b rows addresses = absurd (let bad : ⊥ = cc in bad)
interfaces_same (i ∷ is) [] up down a b rows addresses = absurd (let bad : ⊥ = cc in bad)
interfaces_same (i ∷ is) (j ∷ js) up down a b rows addresses =
    let row = head_same (bare i) (bare j) (map bare is) (map bare js) rows in
    let number : i.number ≡ j.number = ap (λ (x : InterfaceRow). x.number) row in
    let member : i.member ≡ j.member = ap (λ (x : InterfaceRow). x.member) row in
    let port : i.port ≡ j.port = ap (λ (x : InterfaceRow). x.port) row in
    let vlan : i.vlan ≡ j.vlan = ap (λ (x : InterfaceRow). x.vlan) row in
    let parts = span_same (λ x. x.interface ≡ i.number) (addresses_of i) (addresses_of j) (flat_map addresses_of is) (flat_map addresses_of js) addresses (numbered i.number i.v4 i.v6)
    (subst (λ (n : ℕ). AllByRecursion (λ x. x.interface ≡ n) (addresses_of j)) (sym number) (numbered j.number j.v4 j.v6)) (other_interfaces i.number is up.0)
    (subst (λ (n : ℕ). AllByRecursion (λ x. x.interface ≡ n → ⊥) (flat_map addresses_of js)) (sym number) (other_interfaces j.number js down.0)) in
    let columns = columns_same i.number j.number i.v4 i.v6 j.v4 j.v6 a.0.0 a.0.1 b.0.0 b.0.1 parts.0 in
    let four = columns.0 in
    let six = columns.1 in
    let whole : interface_with i.number i.member i.port i.vlan i.v4 i.v6 ≡ interface_with j.number j.member j.port j.vlan j.v4 j.v6 = cc in
    ap (λ z. z ∷ is) (sym (interface_whole i) ∙ (whole ∙ interface_whole j))
    ∙ ap (λ zs. j ∷ zs) (interfaces_same is js up.1 down.1 a.1 b.1 (tail_same (bare i) (bare j) (map bare is) (map bare js) rows) parts.1)

-- registries
registry_with : Site → List Member → List Contact → List ApiKey → List Switch → List Port → List Vlan → List Interface → List Router → List IrrList → List OriginList → List RuleList → PublicLists → Registry
registry_with site members contacts keys switches ports vlans interfaces routers irr origins rules public = record {
  site = site;
  members = members;
  contacts = contacts;
  keys = keys;
  switches = switches;
  ports = ports;
  vlans = vlans;
  interfaces = interfaces;
  routers = routers;
  irr = irr;
  origins = origins;
  rules = rules;
  public = public;
}

registry_whole : (r : Registry) → registry_with r.site r.members r.contacts r.keys r.switches r.ports r.vlans r.interfaces r.routers r.irr r.origins r.rules r.public ≡ r
unfolding registry_with
registry_whole r = refl

pub rows_tell : (r s : Registry) → Valid r → Valid s → rows_of r ≡ rows_of s → r ≡ s
rows_tell r s v u e =
    let a = well_formed r v in
    let b = well_formed s u in
    let site : r.site ≡ s.site = ap (λ w. w.site) e in
    let members : r.members ≡ s.members = ap (λ w. w.members) e in
    let contacts : r.contacts ≡ s.contacts = ap (λ w. w.contacts) e in
    let keys : r.keys ≡ s.keys = ap (λ w. w.keys) e in
    let switches : r.switches ≡ s.switches = ap (λ w. w.switches) e in
    let ports : r.ports ≡ s.ports = ap (λ w. w.ports) e in
    let vlans : r.vlans ≡ s.vlans = ap (λ w. w.vlans) e in
    let interfaces : r.interfaces ≡ s.interfaces = interfaces_same r.interfaces s.interfaces a.ordered.interfaces b.ordered.interfaces a.listed.interfaces b.listed.interfaces (ap (λ w. w.interfaces) e) (ap (λ w. w.addresses) e) in
    let routers : r.routers ≡ s.routers = ap (λ w. w.routers) e in
    let irr : r.irr ≡ s.irr = lists_same prefixes_of irr_key (λ p. p.member ∷ version_of p.prefix.family ∷ []) IsPrefixList irr_rebuilt r.irr s.irr a.ordered.irr b.ordered.irr
    (all_weaker IsPrefixList (Of prefixes_of irr_key (λ p. p.member ∷ version_of p.prefix.family ∷ []) IsPrefixList irr_rebuilt) irr_of r.irr a.listed.irr)
    (all_weaker IsPrefixList (Of prefixes_of irr_key (λ p. p.member ∷ version_of p.prefix.family ∷ []) IsPrefixList irr_rebuilt) irr_of s.irr b.listed.irr) (ap (λ w. w.prefixes) e) in
    let origins : r.origins ≡ s.origins = lists_same origins_of origins_key (λ o. o.member ∷ version_of o.family ∷ []) IsOriginList origins_rebuilt r.origins s.origins a.ordered.origins b.ordered.origins
    (all_weaker IsOriginList (Of origins_of origins_key (λ o. o.member ∷ version_of o.family ∷ []) IsOriginList origins_rebuilt) origins_of_list r.origins a.listed.origins)
    (all_weaker IsOriginList (Of origins_of origins_key (λ o. o.member ∷ version_of o.family ∷ []) IsOriginList origins_rebuilt) origins_of_list s.origins b.listed.origins) (ap (λ w. w.origins) e) in
    let rules : r.rules ≡ s.rules = lists_same rules_in rules_key (λ x. x.member ∷ []) IsRuleList rules_rebuilt r.rules s.rules a.ordered.rules b.ordered.rules
    (all_weaker IsRuleList (Of rules_in rules_key (λ x. x.member ∷ []) IsRuleList rules_rebuilt) rules_of_list r.rules a.listed.rules)
    (all_weaker IsRuleList (Of rules_in rules_key (λ x. x.member ∷ []) IsRuleList rules_rebuilt) rules_of_list s.rules b.listed.rules) (ap (λ w. w.rules) e) in
    let public : r.public ≡ s.public = ap (λ w. w.public) e in
    let parts : registry_with r.site r.members r.contacts r.keys r.switches r.ports r.vlans r.interfaces r.routers r.irr r.origins r.rules r.public ≡ registry_with s.site s.members s.contacts s.keys s.switches s.ports s.vlans s.interfaces s.routers s.irr s.origins s.rules s.public = cc in
    sym (registry_whole r) ∙ (parts ∙ registry_whole s)
