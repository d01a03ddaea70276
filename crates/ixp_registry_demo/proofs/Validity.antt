-- The demo exchange is valid, table by table.
use Rattle.std.proofs.Common.{◌≡◌, ◌≢◌, ℕ, ◌+◌, ◌<◌, ◌≤◌, ◌||◌, ◌==◌, Bool, true, false, List, [], ◌∷◌, length, codes, Option, Some, refl, sym, ap, ◌∙◌, subst, arith, eq-eqb, lit<, lit≤}
use Rattle.std.specs.List.{AllByRecursion}
use Rattle.std.specs.Option.{is_some}
use Rattle.std.proofs.lemmas.Bool.{and_from, ne_eqb}
use Rattle.std.proofs.lemmas.List.FromFn.{length-map-range_with_len}
use Rattle.ixp_num.specs.declared.family.Family.TheVariants.{V4}
use Rattle.ixp_num_tables.specs.Tables.{Ascends, find, same, if_there}
use Rattle.ixp_num_tables.specs.Sums.{total, count, one_if}
use Rattle.ixp_num_tables.proofs.Counts.{same_is, none_counted}
use Rattle.ixp_num_tables.proofs.FirstNumbers.{less_first}
use Rattle.ixp_num_tables.proofs.SumLaws.{total_const, total_same}
use Rattle.ixp_registry.specs.declared.members.Member.{Member}
use Rattle.ixp_registry.specs.declared.network.Interface.{Interface}
use Rattle.ixp_registry.specs.declared.network.Port.{Port}
use Rattle.ixp_registry.specs.declared.lists.IrrList.{IrrList}
use Rattle.ixp_registry.specs.Alphabets.{is_label, is_macro}
use Rattle.ixp_registry.specs.Keys.{member_key, port_key, interface_key, irr_key, origins_key}
use Rattle.ixp_registry.specs.Lookups.{has_member, has_switch, is_left, is_connected, is_member_connected, has_addr}
use Rattle.ixp_registry.specs.Valid.{Valid, ValidMember, ValidMembers, ValidKey, ValidKeys, ValidSwitches, ValidPort, ValidPorts, ValidVlan, ValidVlans, ValidInterface, NamesOfInterface, ValidInterfaces, ValidRouter, NamesOfRouter, ValidRouters, ValidIrrList, ValidIrr, ValidOriginList, ValidOrigins, holds}
use Rattle.ixp_registry.specs.Weight.{weight, interface_weight, list_length}
use Rattle.ixp_registry.specs.Words.{is_reserved, addr_numbers, owner_numbers}
use Rattle.ixp_registry_demo.specs.Demo.{demo, each, name, host, demo_member, demo_port, demo_interface, demo_prefixes, demo_origins, staff_key, demo_switch, lan, demo_router}
use Rattle.ixp_registry_demo.proofs.Numbering.{all_numbered, rising, found_at, once, seldom}
use Rattle.ixp_registry_demo.proofs.Places.{host_value, nets_rise, hosts_rise, lan_host}
use Rattle.ixp_registry_demo.proofs.Texts.{name_bytes, name_label, text_bytes, text_label, text_note}

not_zero : (k : ℕ) → 1 ≤ k → (k == 0) ≡ false
not_zero k some = ne_eqb k 0 (λ e. let bad : ⊥ = omega arith in bad)

none_of : (a b c : Bool) → a ≡ false → b ≡ false → c ≡ false → (a || b || c) ≡ false
none_of false false false e f g = refl
none_of true b c e f g = cc
none_of false true c e f g = cc
none_of false false true e f g = cc

-- members

free_asn : (k : ℕ) → k ≤ 4000 → is_reserved (100000 + k) ≡ false
free_asn k few =
    let a = 100000 + k in
    none_of (a == 0) (a == 23456) (a == 4294967295) (ne_eqb a 0 (λ e. let bad : ⊥ = omega arith in bad)) (ne_eqb a 23456 (λ e. let bad : ⊥ = omega arith in bad))
    (ne_eqb a 4294967295 (λ e. let bad : ⊥ = omega arith in bad))

valid_member : (k : ℕ) → 1 ≤ k → k ≤ 4000 → ValidMember (demo_member k)
valid_member k some few = record {
  fits = (omega arith, omega arith, tt, name_bytes 109 k (lit< tt) few);
  number = not_zero k some;
  texts = and_from (is_macro []) (is_label (name 109 k)) refl (name_label 109 k (lit< tt) few);
  asn = free_asn k few;
}

members_rise : (n : ℕ) → Ascends member_key (each demo_member n)
members_rise n = rising demo_member member_key 1 n (λ j k low less high. less_first j k [] [] less)

valid_members : (n : ℕ) → n ≤ 4000 → ValidMembers (each demo_member n)
valid_members n few = record {
  order = members_rise n;
  each = all_numbered demo_member ValidMember 1 n (λ k low high. valid_member k low (omega arith));
  asns = once (λ m. m.asn.0 ∷ []) (each demo_member n)
      (rising demo_member (λ m. m.asn.0 ∷ []) 1 n (λ j k low less high. less_first (100000 + j) (100000 + k) [] [] (omega arith)));
  few = let e = length-map-range_with_len demo_member 1 n in omega (arith, e);
}

member_found : (n k : ℕ) → 1 ≤ k → k < 1 + n → find member_key (k ∷ []) (each demo_member n) ≡ Some (demo_member k)
member_found n k low high = found_at demo_member member_key 1 n k (members_rise n) low high

member_there : (n k : ℕ) → 1 ≤ k → k < 1 + n → has_member (each demo_member n) k ≡ true
member_there n k low high = ap is_some (member_found n k low high)

-- keys, switches and VLANs

valid_key : ValidKey staff_key
valid_key = record { fits = (lit< tt, lit< tt); number = refl; secret = refl; staff = refl }

valid_keys : (ms : List Member) → ValidKeys ms (staff_key ∷ [])
valid_keys ms = record {
  order = (tt, tt);
  each = (valid_key, tt);
  owners = (refl, tt);
  secrets = once (λ k. k.secret) (staff_key ∷ []) (tt, tt);
  few = seldom (λ k. owner_numbers k.owner) 8 (staff_key ∷ []) (lit≤ tt) (tt, tt);
}

valid_switches : ValidSwitches (demo_switch ∷ [])
valid_switches = record {
  order = (tt, tt);
  each = (record { fits = (lit< tt, text_bytes (codes "sw1") refl); number = refl; name = text_label (codes "sw1") refl refl }, tt);
  few = lit≤ tt;
}

valid_lan : ValidVlan lan
valid_lan = record {
  fits = (lit< tt, lit< tt, text_bytes (codes "lan") refl);
  number = refl;
  name = text_label (codes "lan") refl refl;
  bounds = refl;
  families = refl;
  apart = refl;
}

valid_vlans : ValidVlans (lan ∷ [])
valid_vlans = record { order = (tt, tt); each = (valid_lan, tt); apart = (tt, tt); few = lit≤ tt }

-- ports

valid_port : (k : ℕ) → 1 ≤ k → k ≤ 4000 → ValidPort (demo_port k)
valid_port k some few = record {
  fits = (omega arith, lit< tt, lit< tt, omega arith, name_bytes 112 k (lit< tt) few);
  number = ap (λ b. b || false) (not_zero k some);
  name = name_label 112 k (lit< tt) few;
}

or_right : (a b : Bool) → b ≡ true → (a || b) ≡ true
or_right true b e = refl
or_right false b e = e

ports_rise : (n : ℕ) → Ascends port_key (each demo_port n)
ports_rise n = rising demo_port port_key 1 n (λ j k low less high. less_first j k [] [] less)

valid_ports : (n : ℕ) → n ≤ 4000 → ValidPorts (each demo_member n) (demo_switch ∷ []) (each demo_port n)
valid_ports n few = record {
  order = ports_rise n;
  each = all_numbered demo_port ValidPort 1 n (λ k low high. valid_port k low (omega arith));
  switches = all_numbered demo_port (λ p. has_switch (demo_switch ∷ []) p.switch ≡ true) 1 n (λ k low high. refl);
  members = all_numbered demo_port (λ p. (p.member == 0 || has_member (each demo_member n) p.member) ≡ true) 1 n
      (λ k low high. or_right (k == 0) (has_member (each demo_member n) k) (member_there n k low high));
  few = let e = length-map-range_with_len demo_port 1 n in omega (arith, e);
}

port_found : (n k : ℕ) → 1 ≤ k → k < 1 + n → find port_key (k ∷ []) (each demo_port n) ≡ Some (demo_port k)
port_found n k low high = found_at demo_port port_key 1 n k (ports_rise n) low high

-- interfaces

valid_interface : (k : ℕ) → 1 ≤ k → k ≤ 4000 → ValidInterface (demo_interface k)
valid_interface k some few = record {
  fits = (omega arith, omega arith, omega arith, lit< tt, lit< tt, tt);
  number = not_zero k some;
  columns = (refl, tt);
  secrets = (refl, tt);
}

names_of_interface : (n k : ℕ) → n ≤ 4000 → 1 ≤ k → k < 1 + n → NamesOfInterface (each demo_member n) (each demo_port n) (lan ∷ []) (demo_interface k)
names_of_interface n k few low high = record {
  member = member_there n k low high;
  stays = ap (λ (o : Option Member). if_there o false (λ m. is_left m.status)) (member_found n k low high);
  port = ap (λ (o : Option Port). if_there o false (λ p. p.member == k)) (port_found n k low high) ∙ eq-eqb k k refl;
  vlan = refl;
  hosts = (lan_host (171966464 + k) (omega arith) (omega arith), tt);
}

valid_interfaces : (n : ℕ) → n ≤ 4000 → ValidInterfaces (each demo_member n) (each demo_port n) (lan ∷ []) (each demo_interface n)
valid_interfaces n few = record {
  order = rising demo_interface interface_key 1 n (λ j k low less high. less_first j k [] [] less);
  each = all_numbered demo_interface ValidInterface 1 n (λ k low high. valid_interface k low (omega arith));
  named = all_numbered demo_interface (NamesOfInterface (each demo_member n) (each demo_port n) (lan ∷ [])) 1 n (λ k low high. names_of_interface n k few low high);
  few = let e = length-map-range_with_len demo_interface 1 n in omega (arith, e);
  per_member = seldom (λ i. i.member ∷ []) 16 (each demo_interface n) (lit≤ tt)
      (rising demo_interface (λ i. i.member ∷ []) 1 n (λ j k low less high. less_first j k [] [] less));
}

-- the router, and addresses

valid_router : ValidRouter demo_router
valid_router = record {
  fits = (refl, lit< tt, lit< tt, lit< tt, lit< tt, lit< tt, lit< tt);
  handle = refl;
  asn = refl;
  bounds = refl;
  communities = refl;
  blackhole = refl;
  other = refl;
}

names_of_router : (n : ℕ) → n ≤ 4000 → NamesOfRouter (each demo_member n) (lan ∷ []) (each demo_interface n) demo_router
names_of_router n few = record {
  asn = all_numbered demo_member (λ m. (m.asn.0 == 65500) ≡ false) 1 n (λ k low high. ne_eqb (100000 + k) 65500 (λ e. let bad : ⊥ = omega arith in bad));
  vlan = refl;
  host = lan_host 184483841 (lit< tt) (lit< tt);
  blackhole = refl;
  free = all_numbered demo_interface (λ i. if_there demo_router.blackhole false (λ b. has_addr b i) ≡ false) 1 n (λ k low high. refl);
}

-- the numbers of an interface's IPv4 address
numbers : Interface → List ℕ
numbers i = if_there i.v4 [] (λ a. addr_numbers a.addr)

second : List ℕ → ℕ
second [] = 0
second (a ∷ []) = 0
second (a ∷ b ∷ t) = b

router_apart : (j : ℕ) (b : Bool) → j ≤ 4000 → same (addr_numbers demo_router.addr) (addr_numbers (host j).addr) ≡ b → b ≡ false
unfolding second
router_apart j false few e = refl
router_apart j true few e =
    let one : 184483841 ≡ (host j).addr.value = ap second (same_is (addr_numbers demo_router.addr) (addr_numbers (host j).addr) e) in
    let v = host_value j few in
    absurd (let bad : ⊥ = omega (arith, one, v) in bad)

held : (n : ℕ) (k : List ℕ) → total (holds k) (each demo_interface n) ≡ count (λ i. same k (numbers i)) (each demo_interface n)
unfolding numbers
held n k = total_same (holds k) (λ i. one_if (same k (numbers i))) (each demo_interface n)
    (all_numbered demo_interface (λ i. holds k i ≡ one_if (same k (numbers i))) 1 n (λ j low high. omega arith))

hosts_ascend : (n : ℕ) → n ≤ 4000 → Ascends numbers (each demo_interface n)
unfolding numbers
hosts_ascend n few = rising demo_interface numbers 1 n (λ j k low less high. hosts_rise j k less (omega arith))

one_holder : (n : ℕ) (k : List ℕ) (b : Bool) → n ≤ 4000 → same k (addr_numbers demo_router.addr) ≡ b → count (λ i. same k (numbers i)) (each demo_interface n) + one_if b ≤ 1
unfolding numbers
one_holder n k false few e = let h = once numbers (each demo_interface n) (hosts_ascend n few) k in omega (arith, h)
one_holder n k true few e =
    let is : k ≡ addr_numbers demo_router.addr = same_is k (addr_numbers demo_router.addr) e in
    let apart : AllByRecursion (λ i. same (addr_numbers demo_router.addr) (numbers i) ≡ false) (each demo_interface n) =
    all_numbered demo_interface (λ i. same (addr_numbers demo_router.addr) (numbers i) ≡ false) 1 n (λ j low high. router_apart j (same (addr_numbers demo_router.addr) (addr_numbers (host j).addr)) (omega arith) refl) in
    let none : count (λ i. same (addr_numbers demo_router.addr) (numbers i)) (each demo_interface n) ≡ 0 = none_counted (λ i. same (addr_numbers demo_router.addr) (numbers i)) (each demo_interface n) apart in
    let none' : count (λ i. same k (numbers i)) (each demo_interface n) ≡ 0 = subst (λ q. count (λ i. same q (numbers i)) (each demo_interface n) ≡ 0) (sym is) none in
    omega (arith, none')

valid_routers : (n : ℕ) → n ≤ 4000 → ValidRouters (each demo_member n) (lan ∷ []) (each demo_interface n) (demo_router ∷ [])
valid_routers n few = record {
  order = (tt, tt);
  each = (valid_router, tt);
  named = (names_of_router n few, tt);
  apart = (tt, tt);
  few = lit≤ tt;
  addresses = λ k.
      let h = one_holder n k (same k (addr_numbers demo_router.addr)) few refl in
      let e = held n k in
      omega (arith, h, e);
}

-- the lists

some_prefixes : (k : ℕ) → (demo_prefixes k).prefixes ≢ []
some_prefixes k e = cc

valid_irr_list : (k : ℕ) → k ≤ 4000 → ValidIrrList (demo_prefixes k)
valid_irr_list k few =
    let rise : (i j : ℕ) → i < j → j < 4 → _ = λ i j less place. nets_rise k i j few less place in
    record {
      fits = omega arith;
      some = some_prefixes k;
      order = (
        (rise 0 1 (lit< tt) (lit< tt), (rise 0 2 (lit< tt) (lit< tt), (rise 0 3 (lit< tt) (lit< tt), tt))),
        ((rise 1 2 (lit< tt) (lit< tt), (rise 1 3 (lit< tt) (lit< tt), tt)), ((rise 2 3 (lit< tt) (lit< tt), tt), (tt, tt))),
      );
      family = (refl, (refl, (refl, (refl, tt))));
      few = lit≤ tt;
    }

prefixes_rise : (n : ℕ) → Ascends irr_key (each demo_prefixes n)
prefixes_rise n = rising demo_prefixes irr_key 1 n (λ j k low less high. less_first j k (4 ∷ []) (4 ∷ []) less)

valid_irr : (n : ℕ) → n ≤ 4000 → ValidIrr (each demo_member n) (each demo_prefixes n)
valid_irr n few = record {
  order = prefixes_rise n;
  each = all_numbered demo_prefixes ValidIrrList 1 n (λ k low high. valid_irr_list k (omega arith));
  members = all_numbered demo_prefixes (λ l. has_member (each demo_member n) l.member ≡ true) 1 n (λ k low high. member_there n k low high);
  few =
      let c = total_const (λ l. length l.prefixes) 4 (each demo_prefixes n) (all_numbered demo_prefixes (λ l. length l.prefixes ≡ 4) 1 n (λ k low high. refl)) in
      let e = length-map-range_with_len demo_prefixes 1 n in
      omega (arith, c, e);
}

some_origins : (k : ℕ) → (demo_origins k).asns ≢ []
some_origins k e = cc

valid_origin_list : (k : ℕ) → k ≤ 4000 → ValidOriginList (demo_origins k)
valid_origin_list k few = record { fits = (omega arith, (omega arith, tt)); some = some_origins k; order = (tt, tt); few = lit≤ tt }

valid_origins : (n : ℕ) → n ≤ 4000 → ValidOrigins (each demo_member n) (each demo_origins n)
valid_origins n few = record {
  order = rising demo_origins origins_key 1 n (λ j k low less high. less_first j k (4 ∷ []) (4 ∷ []) less);
  each = all_numbered demo_origins ValidOriginList 1 n (λ k low high. valid_origin_list k (omega arith));
  members = all_numbered demo_origins (λ l. has_member (each demo_member n) l.member ≡ true) 1 n (λ k low high. member_there n k low high);
}

-- the weight: each session reads the four prefixes of its member

session_weight : (n k : ℕ) → 1 ≤ k → k < 1 + n → interface_weight (each demo_member n) (demo_router ∷ []) (each demo_prefixes n) (demo_interface k) ≡ 4
session_weight n k low high =
    let connected : is_member_connected (each demo_member n) k ≡ true = ap (λ (o : Option Member). if_there o false (λ m. is_connected m.status)) (member_found n k low high) in
    let four : list_length (each demo_prefixes n) k V4 ≡ 4 =
    ap (λ (o : Option IrrList). if_there o 0 (λ l. length l.prefixes)) (found_at demo_prefixes irr_key 1 n k (prefixes_rise n) low high) in
    rw (connected, four) refl

light : (n : ℕ) → n ≤ 4000 → weight (each demo_member n) (each demo_interface n) (demo_router ∷ []) (each demo_prefixes n) ≤ 8000000
light n few =
    let w = interface_weight (each demo_member n) (demo_router ∷ []) (each demo_prefixes n) in
    let c = total_const w 4 (each demo_interface n) (all_numbered demo_interface (λ i. w i ≡ 4) 1 n (λ k low high. session_weight n k low high)) in
    let e = length-map-range_with_len demo_interface 1 n in
    omega (arith, c, e)

zero_below : (n : ℕ) → 0 ≤ n
zero_below n = omega arith

pub valid_demo : (n : ℕ) → n ≤ 4000 → Valid (demo n)
valid_demo n few = record {
  site = record { fits = (lit< tt, lit< tt, text_bytes (codes "DEMO") refl); shortname = text_note (codes "DEMO") refl refl };
  members = valid_members n few;
  contacts = record { order = tt; each = tt; members = tt; few = λ k. zero_below 16 };
  keys = valid_keys (each demo_member n);
  switches = valid_switches;
  ports = valid_ports n few;
  vlans = valid_vlans;
  interfaces = valid_interfaces n few;
  routers = valid_routers n few;
  irr = valid_irr n few;
  origins = valid_origins n few;
  rules = record { order = tt; each = tt; members = tt };
  public = record {
    bogons = tt;
    bogon_as = tt;
    transit = tt;
    roas = tt;
    fits = (tt, tt, tt);
    patterns = tt;
    ranges = tt;
    lengths = tt;
    few = (zero_below 10000, zero_below 10000, zero_below 10000, zero_below 1000000);
  };
  light = light n few;
}
