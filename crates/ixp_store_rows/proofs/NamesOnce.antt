-- Each row that a store holds of a valid state has a name of its own.
use Rattle.std.proofs.Common.{◌≡◌, ℕ, ◌<◌, ◌≤◌, ◌^◌, ◌+◌, ◌==◌, Bool, true, false, nat_le, if◌then◌else◌, List, [], ◌∷◌, ◌++◌, append-nil, append_assoc, map, flat_map, decimal, Option, Some, None, refl, sym, ap, ◌∙◌, subst, arith}
use Rattle.std.specs.declared.cmp.Ordering.{Ordering}
use Rattle.std.specs.declared.cmp.Ordering.TheVariants.{Less, Equal, Greater}
use Rattle.std.specs.Option.{is_some}
use Rattle.std.specs.Ordering.{match_ordering}
use Rattle.std.specs.List.{AllByRecursion}
use Rattle.std.proofs.lemmas.Bool.{and_parts, leb-true}
use Rattle.ixp_num.specs.AddressForms.{version_of}
use Rattle.ixp_num.specs.declared.family.Family.{Family}
use Rattle.ixp_num.specs.declared.family.Family.TheVariants.{V4, V6}
use Rattle.ixp_io.specs.declared.keeper.RowName.{RowName}
use Rattle.ixp_registry.specs.declared.lists.IrrList.{IrrList}
use Rattle.ixp_registry.specs.declared.lists.OriginList.{OriginList}
use Rattle.ixp_registry.specs.declared.lists.PublicLists.{PublicLists}
use Rattle.ixp_registry.specs.declared.members.Member.{Member}
use Rattle.ixp_registry.specs.declared.members.Owner.{Owner}
use Rattle.ixp_registry.specs.declared.members.Owner.TheVariants.{Staff, Member as Of}
use Rattle.ixp_registry.specs.declared.registry.Registry.{Registry}
use Rattle.ixp_registry.specs.declared.kind.Kind.TheVariants.{Members, Contacts, Keys, Switches, Ports, Vlans, Interfaces, Addresses, Routers, Prefixes, Origins, Rules, Bogons, BogonAs, Transit, Roas}
use Rattle.ixp_registry.specs.Keys.{member_key, contact_key, api_key_key, switch_key, port_key, vlan_key, interface_key, address_key, router_key, irr_key, origins_key, rule_key}
use Rattle.ixp_num_sorted.specs.Keys.{pattern_key, asn_key, range_key, roa_key}
use Rattle.ixp_registry.specs.Lookups.{has_owner, has_member}
use Rattle.ixp_registry.specs.Registries.{rows_of, bare, addresses_of, rules_in}
use Rattle.ixp_registry.specs.Valid.{Valid, ValidMember, ValidInterface, ValidIrrList, ValidOriginList, IsIn}
use Rattle.ixp_registry.specs.Widths.{owner_number, IsNumber}
use Rattle.ixp_registry.specs.Words.{is_staff_number, owner_numbers}
use Rattle.ixp_rows_lines.specs.declared.version.Version.TheVariants.{Two}
use Rattle.ixp_rows_lines.specs.Fields.{Number, Octet, Handle, ANumber, AnOctet, AHandle, ANet, ABounds}
use Rattle.ixp_rows_lines.specs.Lines.{Line, IsLine, net_field, bounds_field, site_line, member_line, contact_line, key_line, switch_line, port_line, vlan_line, interface_line, address_line, router_line, rule_line, bogon_line, bogon_as_line, transit_line, roa_line}
use Rattle.ixp_rows.proofs.Ascending.{addresses_up, rules_up}
use Rattle.ixp_rows.proofs.Parts.{OfEach, of_rows}
use Rattle.ixp_rows.proofs.ValidLines.{valid_lines}
use Rattle.ixp_num_tables.specs.Tables.{order, find}
use Rattle.ixp_num_tables.specs.Sums.{Pairs}
use Rattle.ixp_num_tables.proofs.AllItems.{all_both, all_true, all_mapped, mapped_all}
use Rattle.ixp_num_tables.proofs.Orders.{all_weaker, head_same, order_same}
use Rattle.ixp_machine_steps.specs.declared.kept.KeptNumber.{KeptNumber}
use Rattle.ixp_machine_steps.specs.declared.kept.KeptOwner.{KeptOwner}
use Rattle.ixp_machine_steps.specs.declared.state.State.{State}
use Rattle.ixp_machine_steps.specs.Kept.{kept_key, kept_owner_key, ValidKept}
use Rattle.ixp_machine_steps.specs.States.{ValidState}
use Rattle.ixp_store_rows.specs.Names.{Entry, fields_row, line_row, irr_row, origins_row, floor_row, floor_rows, kept_row, kept_rows, version_row, count_row}
use Rattle.ixp_store_rows.specs.States.{address_rows, rule_rows, people_rows, port_rows, interface_rows, list_rows, bogon_rows, origin_rows, registry_rows, stored_rows}
use Rattle.ixp_store_rows.proofs.KeyTexts.{owner_text_told, kept_told}
use Rattle.ixp_store_rows.proofs.Apart.{Differ, Within, joined, one, rows_within, flat_apart, pairs_from}

abbrev LinesOf : Registry → Type 0
LinesOf r = OfEach (IsLine Two) Two (rows_of r)

lines_of : (r : Registry) → Valid r → LinesOf r
lines_of r v = of_rows (IsLine Two) Two (rows_of r) (valid_lines r v)

-- one row for each item of each list
pub flat_mapped : {X Y : Type 0} (row : Y → Entry) (items : X → List Y) (xs : List X) → flat_map (λ x. map row (items x)) xs ≡ map row (flat_map items xs)
flat_mapped row items [] = refl
flat_mapped {X} {Y} row items (x ∷ xs) = ap (λ t. map row (items x) ++ t) (flat_mapped row items xs) ∙ sym (by_items (items x))
  where
    by_items : (ys : List Y) → map row (ys ++ flat_map items xs) ≡ map row ys ++ map row (flat_map items xs)
    by_items [] = refl
    by_items (y ∷ ys) = ap (λ t. row y ∷ t) (by_items ys)

few_versions : (f : Family) → version_of f < 2 ^ 32
few_versions V4 = omega arith
few_versions V6 = omega arith

people_within : (r : Registry) → Valid r → Within 1 5 (people_rows r)
unfolding fields_row
people_within r v =
    let lines = lines_of r v in
    joined 1 2 5 (line_row (site_line r.site) ∷ []) _ (omega arith) (omega arith) (one (line_row (site_line r.site)) 1 refl)
    (joined 2 3 5 (map (λ m. line_row (member_line m)) r.members) _ (omega arith) (omega arith)
    (rows_within 2 (ANumber ∷ []) (tt, tt) (λ m. Number m.number ∷ []) member_key (λ m. refl) (λ m. line_row (member_line m)) (λ m. refl) (λ m. refl) r.members v.members.order
    (all_weaker (λ m. IsLine Two (member_line m)) _ (λ m a. (a.0, tt)) r.members lines.members))
    (joined 3 4 5 (map (λ c. line_row (contact_line c)) r.contacts) _ (omega arith) (omega arith)
    (rows_within 3 (ANumber ∷ ANumber ∷ []) (tt, (tt, tt)) (λ c. Number c.member ∷ Number c.place ∷ []) contact_key (λ c. refl) (λ c. line_row (contact_line c)) (λ c. refl) (λ c. refl) r.contacts v.contacts.order
    (all_weaker (λ c. IsLine Two (contact_line c)) _ (λ c a. (a.0, (a.1.0, tt))) r.contacts lines.contacts))
    (rows_within 4 (ANumber ∷ []) (tt, tt) (λ k. Number k.number ∷ []) api_key_key (λ k. refl) (λ k. line_row (key_line k)) (λ k. refl) (λ k. refl) r.keys v.keys.order
    (all_weaker (λ k. IsLine Two (key_line k)) _ (λ k a. (a.0, tt)) r.keys lines.keys))))

ports_within : (r : Registry) → Valid r → Within 5 8 (port_rows r)
unfolding fields_row
ports_within r v =
    let lines = lines_of r v in
    joined 5 6 8 (map (λ s. line_row (switch_line s)) r.switches) _ (omega arith) (omega arith)
    (rows_within 5 (ANumber ∷ []) (tt, tt) (λ s. Number s.number ∷ []) switch_key (λ s. refl) (λ s. line_row (switch_line s)) (λ s. refl) (λ s. refl) r.switches v.switches.order
    (all_weaker (λ s. IsLine Two (switch_line s)) _ (λ s a. (a.0, tt)) r.switches lines.switches))
    (joined 6 7 8 (map (λ p. line_row (port_line p)) r.ports) _ (omega arith) (omega arith)
    (rows_within 6 (ANumber ∷ []) (tt, tt) (λ p. Number p.number ∷ []) port_key (λ p. refl) (λ p. line_row (port_line p)) (λ p. refl) (λ p. refl) r.ports v.ports.order
    (all_weaker (λ p. IsLine Two (port_line p)) _ (λ p a. (a.0, tt)) r.ports lines.ports))
    (rows_within 7 (ANumber ∷ []) (tt, tt) (λ x. Number x.number ∷ []) vlan_key (λ x. refl) (λ x. line_row (vlan_line x)) (λ x. refl) (λ x. refl) r.vlans v.vlans.order
    (all_weaker (λ x. IsLine Two (vlan_line x)) _ (λ x a. (a.0, tt)) r.vlans lines.vlans)))

interfaces_within : (r : Registry) → Valid r → Within 8 11 (interface_rows r)
unfolding fields_row
interfaces_within r v =
    let lines = lines_of r v in
    joined 8 9 11 (map (λ i. line_row (interface_line (bare i))) r.interfaces) _ (omega arith) (omega arith)
    (rows_within 8 (ANumber ∷ []) (tt, tt) (λ i. Number i.number ∷ []) interface_key (λ i. refl) (λ i. line_row (interface_line (bare i))) (λ i. refl) (λ i. refl) r.interfaces v.interfaces.order
    (all_weaker ValidInterface _ (λ i a. (a.fits.0, tt)) r.interfaces v.interfaces.each))
    (joined 9 10 11 (flat_map address_rows r.interfaces) _ (omega arith) (omega arith)
    (subst (Within 9 10) (sym (flat_mapped (λ a. line_row (address_line a)) addresses_of r.interfaces))
    (rows_within 9 (ANumber ∷ ANumber ∷ []) (tt, (tt, tt)) (λ a. Number a.interface ∷ Number (version_of a.address.addr.family) ∷ []) address_key (λ a. refl) (λ a. line_row (address_line a)) (λ a. refl) (λ a. refl)
    (flat_map addresses_of r.interfaces) (addresses_up r.interfaces v.interfaces.order (all_weaker ValidInterface (λ i. IsIn V4 i.v4 × IsIn V6 i.v6) (λ i a. a.columns) r.interfaces v.interfaces.each))
    (all_weaker (λ a. IsLine Two (address_line a)) _ (λ a b. (b.0, (few_versions a.address.addr.family, tt))) (flat_map addresses_of r.interfaces) lines.addresses)))
    (rows_within 10 (AHandle ∷ []) (tt, tt) (λ q. Handle q.handle ∷ []) router_key (λ q. append-nil q.handle) (λ q. line_row (router_line Two q)) (λ q. refl) (λ q. refl) r.routers v.routers.order
    (all_weaker (λ q. IsLine Two (router_line Two q)) _ (λ q a. (a.0, tt)) r.routers lines.routers)))

lists_within : (r : Registry) → Valid r → Within 11 14 (list_rows r)
unfolding fields_row
lists_within r v =
    let lines = lines_of r v in
    joined 11 12 14 (map irr_row r.irr) _ (omega arith) (omega arith)
    (rows_within 11 (ANumber ∷ ANumber ∷ []) (tt, (tt, tt)) (λ l. Number l.member ∷ Number (version_of l.family) ∷ []) irr_key (λ l. refl) irr_row (λ l. refl) (λ l. refl) r.irr v.irr.order
    (all_weaker ValidIrrList _ (λ l a. (a.fits, (few_versions l.family, tt))) r.irr v.irr.each))
    (joined 12 13 14 (map origins_row r.origins) _ (omega arith) (omega arith)
    (rows_within 12 (ANumber ∷ ANumber ∷ []) (tt, (tt, tt)) (λ l. Number l.member ∷ Number (version_of l.family) ∷ []) origins_key (λ l. refl) origins_row (λ l. refl) (λ l. refl) r.origins v.origins.order
    (all_weaker ValidOriginList _ (λ l a. (a.fits.0, (few_versions l.family, tt))) r.origins v.origins.each))
    (subst (Within 13 14) (sym (flat_mapped (λ x. line_row (rule_line x)) rules_in r.rules))
    (rows_within 13 (ANumber ∷ ANumber ∷ []) (tt, (tt, tt)) (λ x. Number x.member ∷ Number x.place ∷ []) rule_key (λ x. refl) (λ x. line_row (rule_line x)) (λ x. refl) (λ x. refl) (flat_map rules_in r.rules)
    (rules_up r.rules v.rules.order v.rules.each) (all_weaker (λ x. IsLine Two (rule_line x)) _ (λ x a. (a.0, (a.1.0, tt))) (flat_map rules_in r.rules) lines.rules))))

bogons_within : (r : Registry) → Valid r → Within 14 16 (bogon_rows r.public)
unfolding fields_row
bogons_within r v =
    let lines = lines_of r v in
    joined 14 15 16 (map (λ b. line_row (bogon_line b)) r.public.bogons) _ (omega arith) (omega arith)
    (rows_within 14 (ABounds ∷ []) (tt, tt) (λ b. bounds_field b ∷ []) pattern_key (λ b. refl) (λ b. line_row (bogon_line b)) (λ b. refl) (λ b. refl) r.public.bogons v.public.bogons
    (all_weaker (λ b. IsLine Two (bogon_line b)) _ (λ b a. (a.0, tt)) r.public.bogons lines.bogons))
    (rows_within 15 (ANumber ∷ ANumber ∷ []) (tt, (tt, tt)) (λ x. Number x.0.0 ∷ Number x.1.0 ∷ []) range_key (λ x. refl) (λ x. line_row (bogon_as_line x)) (λ x. refl) (λ x. refl) r.public.bogon_as v.public.bogon_as
    (all_weaker (λ x. IsLine Two (bogon_as_line x)) _ (λ x a. (a.0, (a.1.0, tt))) r.public.bogon_as lines.bogon_as))

origins_within : (r : Registry) → Valid r → Within 16 18 (origin_rows r.public)
unfolding fields_row
origins_within r v =
    let lines = lines_of r v in
    joined 16 17 18 (map (λ a. line_row (transit_line a)) r.public.transit) _ (omega arith) (omega arith)
    (rows_within 16 (ANumber ∷ []) (tt, tt) (λ a. Number a.0 ∷ []) asn_key (λ a. refl) (λ a. line_row (transit_line a)) (λ a. refl) (λ a. refl) r.public.transit v.public.transit
    (all_weaker (λ a. IsLine Two (transit_line a)) _ (λ a b. (b.0, tt)) r.public.transit lines.transit))
    (rows_within 17 (ANet ∷ AnOctet ∷ ANumber ∷ []) (tt, (tt, (tt, tt))) (λ x. net_field x.prefix ∷ Octet x.max ∷ Number x.asn.0 ∷ []) roa_key (λ x. refl) (λ x. line_row (roa_line x)) (λ x. refl) (λ x. refl)
    r.public.roas v.public.roas (all_weaker (λ x. IsLine Two (roa_line x)) _ (λ x a. (a.0, (a.1.0, (a.1.1.0, tt)))) r.public.roas lines.roas))

-- the rows of a valid registry
pub registry_within : (r : Registry) → Valid r → Within 1 18 (registry_rows r)
registry_within r v =
    joined 1 5 18 (people_rows r) _ (omega arith) (omega arith) (people_within r v)
    (joined 5 8 18 (port_rows r) _ (omega arith) (omega arith) (ports_within r v)
    (joined 8 11 18 (interface_rows r) _ (omega arith) (omega arith) (interfaces_within r v)
    (joined 11 14 18 (list_rows r) _ (omega arith) (omega arith) (lists_within r v)
    (joined 14 16 18 (bogon_rows r.public) _ (omega arith) (omega arith) (bogons_within r v) (origins_within r v)))))

-- Owners that may have something kept have numbers of 32 bits.
member_small : (n : ℕ) (ms : List Member) → AllByRecursion ValidMember ms → has_member ms n ≡ true → n < 2 ^ 32
member_small n [] all e = absurd (let bad : false ≡ true = e in cc)
member_small n (m ∷ ms) all e = by_order (order (member_key m) (n ∷ [])) refl (member_small n ms all.1) e
  where
    by_order : (o : Ordering) → order (member_key m) (n ∷ []) ≡ o → (has_member ms n ≡ true → n < 2 ^ 32)
        → is_some (match_ordering o (find member_key (n ∷ []) ms) (Some m) (find member_key (n ∷ []) ms)) ≡ true → n < 2 ^ 32
    by_order Less is more e = more e
    by_order Equal is more e = subst (λ x. x < 2 ^ 32) (head_same m.number n [] [] is) all.0.fits.0
    by_order Greater is more e = more e

owner_small : (ms : List Member) → AllByRecursion ValidMember ms → (o : Owner) → is_staff_number o ≡ true → has_owner ms o ≡ true → owner_number o < 2 ^ 32
owner_small ms all (Staff n) staff has = let few = leb-true n 16 (and_parts (nat_le 1 n) (nat_le n 16) staff).1 in omega (arith, few)
owner_small ms all (Of n) staff has = member_small n ms all has

abbrev IsSmall : KeptOwner → Type 0
IsSmall o = owner_number o.owner < 2 ^ 32

pub owners_small : (s : State) → ValidState s → AllByRecursion IsSmall s.kept
owners_small s v =
    all_weaker (λ o. (is_staff_number o.owner ≡ true) × (has_owner s.registry.members o.owner ≡ true)) IsSmall (λ o both. owner_small s.registry.members v.registry.members.each o.owner both.0 both.1) s.kept
    (all_both (λ o. is_staff_number o.owner ≡ true) (λ o. has_owner s.registry.members o.owner ≡ true) s.kept v.staff v.owners)

abbrev Far : KeptOwner → KeptOwner → Type 0
Far o p = order (kept_owner_key o) (kept_owner_key p) ≡ Less

never_same : (a b : List ℕ) → order a b ≡ Less → a ≡ b → ⊥
never_same a b less e =
    let tie : order a b ≡ Equal = subst (λ k. order a k ≡ Equal) e (order_same a) in
    let bad : ◌≡◌ {A = Ordering} Equal Less = sym tie ∙ less in
    cc

-- Floors
floors_differ : (o p : KeptOwner) → IsSmall o → IsSmall p → Far o p → (floor_row o).0 ≡ (floor_row p).0 → ⊥
floors_differ o p small fits far e = never_same _ _ far (owner_text_told o.owner p.owner small fits (ap (λ (n : RowName). n.key) e))

floors_across : (o p : KeptOwner) → IsSmall o → IsSmall p → Far o p → AllByRecursion (λ e. AllByRecursion (Differ e) (floor_rows p)) (floor_rows o)
floors_across o p small fits far = by_floors (o.floor == 0) (p.floor == 0)
  where
    by_floors : (a b : Bool) → AllByRecursion (λ e. AllByRecursion (Differ e) (if b then [] else floor_row p ∷ [])) (if a then [] else floor_row o ∷ [])
    by_floors true b = tt
    by_floors false true = (tt, tt)
    by_floors false false = ((floors_differ o p small fits far, tt), tt)

floor_alone : (o : KeptOwner) → Pairs Differ (floor_rows o)
floor_alone o = by_floor (o.floor == 0)
  where
    by_floor : (b : Bool) → Pairs Differ (if b then [] else floor_row o ∷ [])
    by_floor true = tt
    by_floor false = (tt, tt)

floor_kind : (o : KeptOwner) → AllByRecursion (λ e. e.0.kind ≡ 18) (floor_rows o)
floor_kind o = by_floor (o.floor == 0)
  where
    by_floor : (b : Bool) → AllByRecursion (λ e. e.0.kind ≡ 18) (if b then [] else floor_row o ∷ [])
    by_floor true = tt
    by_floor false = (refl, tt)

-- Kept numbers
numbers_differ : (o p : KeptOwner) (j k : KeptNumber) → IsSmall o → IsSmall p → (kept_row o.owner j).0 ≡ (kept_row p.owner k).0 → (kept_owner_key o ≡ kept_owner_key p) × (j.number ≡ k.number)
numbers_differ o p j k small fits e =
    let first = j.small in
    let second = k.small in
    kept_told o.owner p.owner j.number k.number small fits (omega (arith, first)) (omega (arith, second)) (ap (λ (n : RowName). n.key) e)

kept_across : (o p : KeptOwner) → IsSmall o → IsSmall p → Far o p → AllByRecursion (λ e. AllByRecursion (Differ e) (kept_rows p)) (kept_rows o)
kept_across o p small fits far =
    mapped_all (λ e. AllByRecursion (Differ e) (kept_rows p)) (kept_row o.owner) o.numbers
    (all_true (λ j. AllByRecursion (Differ (kept_row o.owner j)) (kept_rows p))
    (λ j. mapped_all (Differ (kept_row o.owner j)) (kept_row p.owner) p.numbers (all_true (λ k. Differ (kept_row o.owner j) (kept_row p.owner k)) (λ k e. never_same _ _ far (numbers_differ o p j k small fits e).0) p.numbers)) o.numbers)

kept_alone : (o : KeptOwner) → IsSmall o → (ks : List KeptNumber) → Pairs (λ j k. order (kept_key j) (kept_key k) ≡ Less) ks → Pairs Differ (map (kept_row o.owner) ks)
kept_alone o small [] up = tt
kept_alone o small (j ∷ ks) up = (
  mapped_all (Differ (kept_row o.owner j)) (kept_row o.owner) ks
      (all_weaker (λ k. order (kept_key j) (kept_key k) ≡ Less) (λ k. Differ (kept_row o.owner j) (kept_row o.owner k))
      (λ k less e. never_same _ _ less (ap (λ n. n ∷ []) (numbers_differ o o j k small small e).1)) ks up.0),
  kept_alone o small ks up.1,
)

kept_kind : (o : KeptOwner) → AllByRecursion (λ e. e.0.kind ≡ 19) (kept_rows o)
kept_kind o = mapped_all (λ e. e.0.kind ≡ 19) (kept_row o.owner) o.numbers (all_true (λ k. (kept_row o.owner k).0.kind ≡ 19) (λ k. refl) o.numbers)

-- rows of owners are of one kind
of_kind : (kind : ℕ) (f : KeptOwner → List Entry) → ((o : KeptOwner) → AllByRecursion (λ e. e.0.kind ≡ kind) (f o)) → (os : List KeptOwner) → Pairs Differ (flat_map f os) → Within kind (kind + 1) (flat_map f os)
of_kind kind f each os apart = record {
  above = all_weaker (λ e. e.0.kind ≡ kind) (λ e. kind ≤ e.0.kind) (λ e h. omega (arith, h)) (flat_map f os) (all os);
  below = all_weaker (λ e. e.0.kind ≡ kind) (λ e. e.0.kind < kind + 1) (λ e h. omega (arith, h)) (flat_map f os) (all os);
  apart = apart;
}
  where
    all : (ps : List KeptOwner) → AllByRecursion (λ e. e.0.kind ≡ kind) (flat_map f ps)
    all [] = tt
    all (p ∷ ps) = joined_all (f p) (each p) (all ps)
      where
        joined_all : (xs : List Entry) → AllByRecursion (λ e. e.0.kind ≡ kind) xs → AllByRecursion (λ e. e.0.kind ≡ kind) (flat_map f ps) → AllByRecursion (λ e. e.0.kind ≡ kind) (xs ++ flat_map f ps)
        joined_all [] here there = there
        joined_all (x ∷ xs) here there = (here.0, joined_all xs here.1 there)

floors_within : (s : State) → ValidState s → Within 18 19 (flat_map floor_rows s.kept)
floors_within s v =
    of_kind 18 floor_rows floor_kind s.kept
    (flat_apart floor_rows Far IsSmall floors_across s.kept (pairs_from kept_owner_key s.kept v.order) (owners_small s v) (all_true (λ o. Pairs Differ (floor_rows o)) floor_alone s.kept))

kept_within : (s : State) → ValidState s → Within 19 20 (flat_map kept_rows s.kept)
kept_within s v =
    of_kind 19 kept_rows kept_kind s.kept
    (flat_apart kept_rows Far IsSmall kept_across s.kept (pairs_from kept_owner_key s.kept v.order) (owners_small s v)
    (all_weaker (λ o. IsSmall o × ValidKept s.accepted o) (λ o. Pairs Differ (kept_rows o)) (λ o both. kept_alone o both.0 o.numbers (pairs_from kept_key o.numbers both.1.order)) s.kept
    (all_both IsSmall (ValidKept s.accepted) s.kept (owners_small s v) v.each)))

-- all rows of a valid state
pub stored_within : (s : State) → ValidState s → Within 0 21 (stored_rows s)
stored_within s v =
    joined 0 1 21 (version_row ∷ []) _ (omega arith) (omega arith) (one version_row 0 refl)
    (joined 1 18 21 (registry_rows s.registry) _ (omega arith) (omega arith) (registry_within s.registry v.registry)
    (joined 18 19 21 (flat_map floor_rows s.kept) _ (omega arith) (omega arith) (floors_within s v)
    (joined 19 20 21 (flat_map kept_rows s.kept) (count_row s.accepted ∷ []) (omega arith) (omega arith) (kept_within s v) (one (count_row s.accepted) 20 refl))))

-- no two rows of a valid state have one name
pub names_once : (s : State) → ValidState s → Pairs Differ (stored_rows s)
names_once s v = (stored_within s v).apart
