-- Edits of route servers.
use Rattle.std.proofs.Common.{◌≡◌, ℕ, ◌≤◌, ◌+◌, ◌*◌, Bool, true, false, not, ◌||◌, ◌&&◌, ◌==◌, nat_le, List, [], ◌∷◌, length, Option, Some, None, refl, sym, ap, subst, arith, if◌then◌else◌}
use Rattle.std.specs.declared.cmp.Ordering.{Ordering}
use Rattle.std.specs.declared.cmp.Ordering.TheVariants.{Less, Equal, Greater}
use Rattle.std.specs.Ordering.{match_ordering}
use Rattle.std.specs.List.{AllByRecursion, list_any}
use Rattle.std.specs.Option.{is_some}
use Rattle.std.proofs.lemmas.Bool.{or_parts, and_parts}
use Rattle.std.proofs.lemmas.Nat.{mul-le}
use Rattle.ixp_num.specs.declared.addr.Addr.{Addr}
use Rattle.ixp_num.specs.declared.family.Family.{Family}
use Rattle.ixp_num.specs.Families.{same_family}
use Rattle.ixp_num.specs.Prefixes.{same_addr}
use Rattle.ixp_num_tables.specs.Tables.{order, Ascends, find, put, without, if_there, same}
use Rattle.ixp_num_tables.specs.Sums.{one_if, total, Pairs}
use Rattle.ixp_num_tables.proofs.Orders.{all_weaker, order_equal}
use Rattle.ixp_num_tables.proofs.AllItems.{all_both, all_true, none_any}
use Rattle.ixp_num_tables.proofs.PairLaws.{pairs_put, pairs_without}
use Rattle.ixp_num_tables.proofs.TableLaws.{all_put, all_without, Ascends-put, Ascends-without, find-key}
use Rattle.ixp_num_tables.proofs.SumLaws.{total_put_new, total_put_same, total_fewer, total_none, total_least}
use Rattle.ixp_num_tables.proofs.Counts.{length_put, length_same, length_fewer, same_is}
use Rattle.ixp_num_tables.proofs.Looking.{all_found}
use Rattle.ixp_registry.specs.declared.kind.Kind.TheVariants.{Interfaces, Vlans, Routers}
use Rattle.ixp_registry.specs.declared.lists.IrrList.{IrrList}
use Rattle.ixp_registry.specs.declared.members.Member.{Member}
use Rattle.ixp_registry.specs.declared.network.IfAddr.{IfAddr}
use Rattle.ixp_registry.specs.declared.network.Interface.{Interface}
use Rattle.ixp_registry.specs.declared.router.Router.{Router}
use Rattle.ixp_registry.specs.declared.registry.Registry.{Registry}
use Rattle.ixp_registry.specs.declared.refusal.Refusal.TheVariants.{BadText, AsnReserved, Family as OtherFamily, Outside, Taken, BadRule}
use Rattle.ixp_registry.specs.declared.refusal.RowKey.TheVariants.{Number, Handle}
use Rattle.ixp_registry.specs.declared.refusal.TextField.TheVariants.{Handle as HandleText}
use Rattle.ixp_registry.specs.Alphabets.{is_handle}
use Rattle.ixp_registry.specs.Keys.{vlan_key, router_key}
use Rattle.ixp_registry.specs.Lookups.{has_addr, has_blackhole, is_host_in, is_member_connected, prefix_in}
use Rattle.ixp_registry.specs.Valid.{Valid, ValidRouter, NamesOfRouter, holds, answers}
use Rattle.ixp_registry.specs.Weight.{weight, interface_weight, column_weight, address_weight, vlan_weight, list_length}
use Rattle.ixp_registry.specs.Widths.{IsNumber}
use Rattle.ixp_registry.specs.Words.{addr_numbers, has_bounds, is_reserved, router_weight}
use Rattle.ixp_plan.specs.Holders.{answers_at, uses}
use Rattle.ixp_registry_laws.proofs.Truths.{holds as true_where, neither}
use Rattle.ixp_machine_edits.specs.declared.edit.RouterSettings.{RouterSettings}
use Rattle.ixp_machine_edits.specs.Edits.{SettingsFit}
use Rattle.ixp_machine_edits.specs.Tests.{first_refused}
use Rattle.ixp_machine_edits.specs.Routers.{is_no_router_asn, blackhole_has_family, blackhole_is_host, holds_blackhole, is_beyond_bounds, with_router, add_router_tests, with_settings, set_routers, settings_tests, set_router_tests, without_router}
use Rattle.ixp_machine_edits.proofs.Passing.{no_refusal, passed, holds as allowed, is_there, there, nobody_has, has_room, is_light, changed_there}
use Rattle.ixp_registry.proofs.HandleNames.{handle_is_name}
use Rattle.ixp_machine_edits.proofs.Numbers.{never}
use Rattle.ixp_machine_edits.proofs.Addresses.{holds_none}
use Rattle.ixp_machine_edits.proofs.Frames.{Shared, routers_on}

-- a router that is put in, where no other has its address as blackhole address, nor the other way round
router_put : (r : Registry) (q : Router) → ValidRouter q → NamesOfRouter r.members r.vlans r.interfaces q
    → AllByRecursion (λ p. (order (router_key p) (router_key q) ≡ Equal → ⊥) → (has_blackhole q p.addr || has_blackhole p q.addr) ≡ false) r.routers → length (put router_key q r.routers) ≤ 16 → Shared r.interfaces (put router_key q r.routers)
    → weight r.members r.interfaces (put router_key q r.routers) r.irr ≤ 8000000 → Valid r → Valid (record r { routers = put router_key q r.routers })
router_put r q own names apart few shared light s =
    let qs = r.routers in
    routers_on r (put router_key q qs)
    (record {
      order = Ascends-put router_key q qs s.routers.order;
      each = all_put router_key ValidRouter q qs own s.routers.each;
      named = all_put router_key (NamesOfRouter r.members r.vlans r.interfaces) q qs names s.routers.named;
      apart = pairs_put router_key (λ p q. (has_blackhole q p.addr || has_blackhole p q.addr) ≡ false) q qs s.routers.order
          (all_weaker (λ p. (order (router_key p) (router_key q) ≡ Equal → ⊥) → (has_blackhole q p.addr || has_blackhole p q.addr) ≡ false)
          (λ p. (order (router_key p) (router_key q) ≡ Equal → ⊥) → ((has_blackhole q p.addr || has_blackhole p q.addr) ≡ false) × ((has_blackhole p q.addr || has_blackhole q p.addr) ≡ false))
          (λ p x far. let both = or_parts (has_blackhole q p.addr) (has_blackhole p q.addr) (x far) in (x far, neither (has_blackhole p q.addr) (has_blackhole q p.addr) both.1 both.0)) qs apart) s.routers.apart;
      few = few;
      addresses = shared;
    })
    light s

added_shared : (r : Registry) (q : Router) → AllByRecursion (λ i. has_addr q.addr i ≡ false) r.interfaces → AllByRecursion (λ p. same_addr p.addr q.addr ≡ false) r.routers → Valid r → Shared r.interfaces (put router_key q r.routers)
added_shared r q no_interface no_router s k = by_test (same k (addr_numbers q.addr)) refl where
  by_test : (b : Bool) → same k (addr_numbers q.addr) ≡ b → total (holds k) r.interfaces + total (answers k) (put router_key q r.routers) ≤ 1
  by_test false e =
      let c = total_put_new router_key (answers k) q r.routers s.routers.order in
      let z : one_if (same k (addr_numbers q.addr)) ≡ 0 = ap one_if e in
      let was = s.routers.addresses k in
      omega (arith, c, z, was)
  by_test true e =
      let kq = addr_numbers q.addr in
      let c = total_put_new router_key (answers kq) q r.routers s.routers.order in
      let o : one_if (same k kq) ≡ 1 = ap one_if e in
      let o' : answers kq q ≡ 1 = subst (λ (x : List ℕ). one_if (same x kq) ≡ 1) (same_is k kq e) o in
      let a : total (answers kq) r.routers ≡ 0 = never (λ p. p.addr) q.addr r.routers no_router in
      let b : total (holds kq) r.interfaces ≡ 0 =
      total_none (holds kq) r.interfaces (all_weaker (λ i. has_addr q.addr i ≡ false) (λ i. holds kq i ≡ 0) (λ i y. holds_none q.addr i y) r.interfaces no_interface) in
      let all : total (holds kq) r.interfaces + total (answers kq) (put router_key q r.routers) ≤ 1 = omega (arith, c, o', a, b) in
      subst (λ (x : List ℕ). total (holds x) r.interfaces + total (answers x) (put router_key q r.routers) ≤ 1) (sym (same_is k kq e)) all

-- what X15 says of a router that passes
record Bounded (q : Router) : Type 0 where
  bounds : has_bounds q ≡ true
  communities : nat_le q.max_comms 1000 ≡ true
  blackhole : (is_some q.blackhole && q.asn.0 == 65535) ≡ false

bounded : (q : Router) → is_beyond_bounds q ≡ false → Bounded q
bounded q e =
    let good = true_where (has_bounds q && nat_le q.max_comms 1000 && not (is_some q.blackhole && q.asn.0 == 65535)) e in
    let parts = and_parts (has_bounds q && nat_le q.max_comms 1000) (not (is_some q.blackhole && q.asn.0 == 65535)) good in
    let front = and_parts (has_bounds q) (nat_le q.max_comms 1000) parts.0 in
    record { bounds = front.0; communities = front.1; blackhole = not_true (is_some q.blackhole && q.asn.0 == 65535) parts.1 }
  where
    not_true : (b : Bool) → not b ≡ true → b ≡ false
    not_true false e = refl
    not_true true e = absurd (let bad : ⊥ = cc in bad)

lawful_blackhole : (o : Option Addr) (f : Family) (asn : ℕ) → if_there o true (λ b. same_family b.family f) ≡ true → (is_some o && asn == 65535) ≡ false → if_there o true (λ b. same_family b.family f && not (asn == 65535)) ≡ true
lawful_blackhole None f asn x y = refl
lawful_blackhole (Some b) f asn x y = both (same_family b.family f) (asn == 65535) x y where
  both : (a c : Bool) → a ≡ true → c ≡ false → (a && not c) ≡ true
  both true false x y = refl
  both true true x y = absurd (let bad : ⊥ = cc in bad)
  both false c x y = x

pub router_added : (r : Registry) (q : Router) → IsNumber q.vlan × IsNumber q.asn.0 × IsNumber q.id × IsNumber q.low × IsNumber q.high × IsNumber q.max_comms → Valid r → first_refused (add_router_tests r q) ≡ None → Valid (record r { routers = with_router q r.routers })
router_added r q fits s ok =
    let t = no_refusal (add_router_tests r q) ok in
    let handle = allowed (is_handle q.handle) (BadText HandleText) t.1.0 in
    let asns = or_parts (is_reserved q.asn.0) (list_any (λ m. m.asn.0 == q.asn.0) r.members) (passed (is_no_router_asn r q.asn.0) (AsnReserved q.asn) t.1.1.0) in
    let families = and_parts (same_family q.addr.family q.family && is_some (prefix_in r.vlans q.vlan q.family)) (blackhole_has_family q)
    (allowed (same_family q.addr.family q.family && is_some (prefix_in r.vlans q.vlan q.family) && blackhole_has_family q) (OtherFamily q.family) t.1.1.1.0) in
    let placed = and_parts (is_host_in r.vlans q.vlan q.family q.addr) (blackhole_is_host r q) (allowed (is_host_in r.vlans q.vlan q.family q.addr && blackhole_is_host r q) (Outside q.vlan) t.1.1.1.1.0) in
    let no_interface = nobody_has Interfaces (λ i. Number i.number) (has_addr q.addr) r.interfaces t.1.1.1.1.1.0 in
    let no_router = nobody_has Routers (λ p. Handle p.handle) (uses q.addr) r.routers t.1.1.1.1.1.1.0 in
    let free = nobody_has Interfaces (λ i. Number i.number) (holds_blackhole q) r.interfaces t.1.1.1.1.1.1.1.0 in
    let far = nobody_has Routers (λ p. Handle p.handle) (λ p. has_blackhole q p.addr) r.routers t.1.1.1.1.1.1.1.1.0 in
    let b = bounded q (passed (is_beyond_bounds q) (BadRule 0) t.1.1.1.1.1.1.1.1.1.1.1.0) in
    let few = has_room Routers (length r.routers) 16 t.1.1.1.1.1.1.1.1.1.1.1.1.0 in
    let grown = length_put router_key q r.routers s.routers.order in
    router_put r q
    (record {
      fits = (handle_is_name q.handle handle, fits.0, fits.1, fits.2, fits.3, fits.4, fits.5);
      handle = handle;
      asn = asns.0;
      bounds = b.bounds;
      communities = b.communities;
      blackhole = lawful_blackhole q.blackhole q.family q.asn.0 families.1 b.blackhole;
      other = passed (has_blackhole q q.addr) (Taken Routers (Handle q.handle)) t.1.1.1.1.1.1.1.1.1.0;
    })
    (record { asn = none_any (λ m. m.asn.0 == q.asn.0) r.members asns.1; vlan = is_there (find vlan_key (q.vlan ∷ []) r.vlans) Vlans (Number q.vlan) t.0; host = placed.0; blackhole = placed.1; free = free })
    (all_weaker (λ p. (uses q.addr p ≡ false) × (has_blackhole q p.addr ≡ false)) (λ p. (order (router_key p) (router_key q) ≡ Equal → ⊥) → (has_blackhole q p.addr || has_blackhole p q.addr) ≡ false)
    (λ p x apart. neither (has_blackhole q p.addr) (has_blackhole p q.addr) x.1 (or_parts (answers_at q.addr p) (has_blackhole p q.addr) x.0).1) r.routers
    (all_both (λ p. uses q.addr p ≡ false) (λ p. has_blackhole q p.addr ≡ false) r.routers no_router far))
    (omega (arith, few, grown))
    (added_shared r q no_interface (all_weaker (λ p. uses q.addr p ≡ false) (λ p. same_addr p.addr q.addr ≡ false) (λ p x. (or_parts (answers_at q.addr p) (has_blackhole p q.addr) x).0) r.routers no_router) s)
    (is_light (weight r.members r.interfaces (with_router q r.routers) r.irr) t.1.1.1.1.1.1.1.1.1.1.1.1.1.0) s

-- each two rows are apart, so each other row is apart from the one that is found
module _ {R : Type 0} (key : R → List ℕ) where
  pairs_step : (P : R → R → Type 0) → ((a b : R) → P a b → P b a) → (k : List ℕ) (p s : R) (rs : List R) (o : Ordering) → order (key s) k ≡ o → AllByRecursion (P s) rs
      → (find key k rs ≡ Some p → AllByRecursion (λ t. (order (key t) k ≡ Equal → ⊥) → P t p) rs) → match_ordering o (find key k rs) (Some s) (find key k rs) ≡ Some p → AllByRecursion (λ t. (order (key t) k ≡ Equal → ⊥) → P t p) (s ∷ rs)
  pairs_step P turn k p s rs Less e ps again at = (λ far. all_found key (P s) k p rs ps at, again at)
  pairs_step P turn k p s rs Equal e ps again at =
      let is : s ≡ p = cc in
      (λ far. absurd (far e), all_weaker (P s) (λ t. (order (key t) k ≡ Equal → ⊥) → P t p) (λ t x far. subst (λ (y : R). P t y) is (turn s t x)) rs ps)
  pairs_step P turn k p s rs Greater e ps again at = (λ far. all_found key (P s) k p rs ps at, again at)

  pairs_found : (P : R → R → Type 0) → ((a b : R) → P a b → P b a) → (k : List ℕ) (p : R) (rs : List R) → Pairs P rs → find key k rs ≡ Some p → AllByRecursion (λ t. (order (key t) k ≡ Equal → ⊥) → P t p) rs
  pairs_found P turn k p [] pairs at = tt
  pairs_found P turn k p (s ∷ rs) pairs at = pairs_step P turn k p s rs (order (key s) k) refl pairs.0 (pairs_found P turn k p rs pairs.1) at

abbrev Apart : Router → Router → Type 0
Apart p q = (has_blackhole q p.addr || has_blackhole p q.addr) ≡ false

apart_back : (p q : Router) → Apart p q → Apart q p
apart_back p q x = let both = or_parts (has_blackhole q p.addr) (has_blackhole p q.addr) x in neither (has_blackhole p q.addr) (has_blackhole q p.addr) both.1 both.0

settings_put : (r : Registry) (x : RouterSettings) (p : Router) (after : List Router) → SettingsFit x → find router_key p.handle r.routers ≡ Some p → AllByRecursion (λ t. t ≡ None) (settings_tests r after (with_settings x p))
    → weight r.members r.interfaces (put router_key (with_settings x p) r.routers) r.irr ≤ 8000000 → Valid r → Valid (record r { routers = put router_key (with_settings x p) r.routers })
settings_put r x p after fits here t light s =
    let q : Router = with_settings x p in
    let asns = or_parts (is_reserved q.asn.0) (list_any (λ m. m.asn.0 == q.asn.0) r.members) (passed (is_no_router_asn r q.asn.0) (AsnReserved q.asn) t.0) in
    let family = allowed (blackhole_has_family q) (OtherFamily q.family) t.1.0 in
    let free = nobody_has Interfaces (λ i. Number i.number) (holds_blackhole q) r.interfaces t.1.1.1.0 in
    let far = nobody_has Routers (λ p. Handle p.handle) (λ p. has_blackhole q p.addr) r.routers t.1.1.1.1.0 in
    let b = bounded q (passed (is_beyond_bounds q) (BadRule 0) t.1.1.1.1.1.0) in
    let own : ValidRouter p = all_found router_key ValidRouter p.handle p r.routers s.routers.each here in
    let names : NamesOfRouter r.members r.vlans r.interfaces p = all_found router_key (NamesOfRouter r.members r.vlans r.interfaces) p.handle p r.routers s.routers.named here in
    let grown = length_same router_key q p r.routers s.routers.order here in
    let few = s.routers.few in
    router_put r q
    (record {
      fits = (own.fits.0, own.fits.1, fits.0, fits.1, fits.2, fits.3, fits.4);
      handle = own.handle;
      asn = asns.0;
      bounds = b.bounds;
      communities = b.communities;
      blackhole = lawful_blackhole q.blackhole q.family q.asn.0 family b.blackhole;
      other = all_found router_key (λ t. has_blackhole q t.addr ≡ false) p.handle p r.routers far here;
    })
    (record { asn = none_any (λ m. m.asn.0 == q.asn.0) r.members asns.1; vlan = names.vlan; host = names.host; blackhole = allowed (blackhole_is_host r q) (Outside q.vlan) t.1.1.0; free = free })
    (all_weaker (λ t. ((order (router_key t) p.handle ≡ Equal → ⊥) → Apart t p) × (has_blackhole q t.addr ≡ false)) (λ t. (order (router_key t) (router_key q) ≡ Equal → ⊥) → (has_blackhole q t.addr || has_blackhole t q.addr) ≡ false)
    (λ t x apart. neither (has_blackhole q t.addr) (has_blackhole t p.addr) x.1 (or_parts (has_blackhole p t.addr) (has_blackhole t p.addr) (x.0 apart)).1) r.routers
    (all_both (λ t. (order (router_key t) p.handle ≡ Equal → ⊥) → Apart t p) (λ t. has_blackhole q t.addr ≡ false) r.routers (pairs_found router_key Apart apart_back p.handle p r.routers s.routers.apart here) far))
    (omega (arith, grown, few))
    (λ k. let e : answers k q ≡ answers k p = refl in let c = total_put_same router_key (answers k) q p r.routers s.routers.order here (omega (arith, e)) in let was = s.routers.addresses k in omega (arith, c, was))
    light s

pub router_set : (r : Registry) (handle : List ℕ) (x : RouterSettings) → SettingsFit x → Valid r → first_refused (set_router_tests r handle x) ≡ None → Valid (record r { routers = set_routers handle x r.routers })
router_set r handle x fits s ok =
    let qs = r.routers in
    let after = set_routers handle x qs in
    let at = there (find router_key handle qs) Routers (Handle handle) (λ q. settings_tests r after (with_settings x q)) ok in
    let p = at.0 in
    let t = no_refusal (settings_tests r after (with_settings x p)) at.2 in
    let e : after ≡ put router_key (with_settings x p) qs = changed_there router_key handle (with_settings x) qs p at.1 in
    let key : p.handle ≡ handle = order_equal p.handle handle (find-key router_key handle p qs at.1) in
    let here : find router_key p.handle qs ≡ Some p = subst (λ (k : List ℕ). find router_key k qs ≡ Some p) (sym key) at.1 in
    let light = is_light (weight r.members r.interfaces after r.irr) t.1.1.1.1.1.1.0 in
    subst (λ (ps : List Router). Valid (record r { routers = ps })) (sym e)
    (settings_put r x p after fits here t (subst (λ (ps : List Router). weight r.members r.interfaces ps r.irr ≤ 8000000) e light) s)

-- with fewer routers the weight isn't greater
cond_least : (b : Bool) (x y : ℕ) → x ≤ y → (if b then x else 0) ≤ (if b then y else 0)
cond_least true x y le = le
cond_least false x y le = omega arith

address_least : (h : List ℕ) (qs : List Router) (ls : List IrrList) (member vlan : ℕ) (a : IfAddr) → Ascends router_key qs → address_weight (without router_key h qs) ls member vlan a ≤ address_weight qs ls member vlan a
address_least h qs ls member vlan a up =
    let fewer : vlan_weight (without router_key h qs) vlan a.addr.family ≤ vlan_weight qs vlan a.addr.family =
    total_fewer router_key (λ q. if q.vlan == vlan && same_family q.family a.addr.family then router_weight q else 0) h qs up in
    let l = list_length ls member a.addr.family in
    cond_least (a.rs && a.irr) (vlan_weight (without router_key h qs) vlan a.addr.family * l) (vlan_weight qs vlan a.addr.family * l)
    (mul-le (vlan_weight (without router_key h qs) vlan a.addr.family) l (vlan_weight qs vlan a.addr.family) l fewer (omega arith))

column_least : (h : List ℕ) (qs : List Router) (ls : List IrrList) (member vlan : ℕ) (o : Option IfAddr) → Ascends router_key qs → column_weight (without router_key h qs) ls member vlan o ≤ column_weight qs ls member vlan o
column_least h qs ls member vlan None up = omega arith
column_least h qs ls member vlan (Some a) up = address_least h qs ls member vlan a up

interface_least : (ms : List Member) (h : List ℕ) (qs : List Router) (ls : List IrrList) (i : Interface) → Ascends router_key qs → interface_weight ms (without router_key h qs) ls i ≤ interface_weight ms qs ls i
interface_least ms h qs ls i up =
    let a = column_least h qs ls i.member i.vlan i.v4 up in
    let b = column_least h qs ls i.member i.vlan i.v6 up in
    cond_least (is_member_connected ms i.member) (column_weight (without router_key h qs) ls i.member i.vlan i.v4 + column_weight (without router_key h qs) ls i.member i.vlan i.v6)
    (column_weight qs ls i.member i.vlan i.v4 + column_weight qs ls i.member i.vlan i.v6) (omega (arith, a, b))

pub router_dropped : (r : Registry) (handle : List ℕ) → Valid r → Valid (record r { routers = without_router handle r.routers })
router_dropped r handle s =
    let qs = r.routers in
    let up = s.routers.order in
    let ps = without router_key handle qs in
    let fewer = length_fewer router_key handle qs up in
    let few = s.routers.few in
    let less : weight r.members r.interfaces ps r.irr ≤ weight r.members r.interfaces qs r.irr =
    total_least (interface_weight r.members ps r.irr) (interface_weight r.members qs r.irr) r.interfaces
    (all_true (λ i. interface_weight r.members ps r.irr i ≤ interface_weight r.members qs r.irr i) (λ i. interface_least r.members handle qs r.irr i up) r.interfaces) in
    let was = s.light in
    routers_on r ps
    (record {
      order = Ascends-without router_key handle qs up;
      each = all_without router_key ValidRouter handle qs s.routers.each;
      named = all_without router_key (NamesOfRouter r.members r.vlans r.interfaces) handle qs s.routers.named;
      apart = pairs_without router_key Apart handle qs s.routers.apart;
      few = omega (arith, fewer, few);
      addresses = λ k. let f = total_fewer router_key (answers k) handle qs up in let one = s.routers.addresses k in omega (arith, f, one);
    })
    (omega (arith, less, was)) s
