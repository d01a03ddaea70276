-- The rows that a store has of a valid registry are right rows, and right rows that are its dump are these.
use Rattle.std.proofs.Common.{◌≡◌, ◌≢◌, ℕ, ◌==◌, Bool, true, false, if◌then◌else◌, List, [], ◌∷◌, ◌++◌, map, flat_map, take, inl, refl, sym, ap, ◌∙◌, subst}
use Rattle.std.specs.List.{AllByRecursion, IsDistinct}
use Rattle.std.specs.List.Sorted.{IsPermutation}
use Rattle.std.specs.Ordering.{is_lt}
use Rattle.std.specs.declared.cmp.Ordering.TheVariants.{Less}
use Rattle.std.proofs.lemmas.Grind.{flat_map-append}
use Rattle.std.proofs.lemmas.List.Sorted.{IsPermutation-refl}
use Rattle.std.proofs.lemmas.Map.Keys.{IsDistinct-cons}
use Rattle.ixp_io.specs.declared.keeper.RowName.{RowName}
use Rattle.ixp_io.specs.Tables.{name_bytes}
use Rattle.ixp_num.specs.AddressForms.{version_of}
use Rattle.ixp_num.specs.declared.asn.Asn.{Asn}
use Rattle.ixp_num.specs.declared.prefix.Prefix.{Prefix}
use Rattle.ixp_num_tables.specs.Sums.{Pairs}
use Rattle.ixp_num_tables.specs.Tables.{order, same, Ascends}
use Rattle.ixp_num_tables.proofs.AllItems.{all_flat, all_right}
use Rattle.ixp_num_tables.proofs.Counts.{same_is}
use Rattle.ixp_num_tables.proofs.Orders.{all_weaker, turned}
use Rattle.ixp_num_tables.proofs.Places.{Ascends_before, Ascends_behind}
use Rattle.ixp_registry.specs.declared.kind.Kind.{Kind}
use Rattle.ixp_registry.specs.declared.kind.Kind.TheVariants.{Sites, Members, Contacts, Keys, Switches, Ports, Vlans, Interfaces, Addresses, Routers, Prefixes, Origins, Rules, Bogons, BogonAs, Transit, Roas}
use Rattle.ixp_registry.specs.declared.lists.IrrList.{IrrList}
use Rattle.ixp_registry.specs.declared.lists.MemberOrigin.{MemberOrigin}
use Rattle.ixp_registry.specs.declared.lists.MemberPrefix.{MemberPrefix}
use Rattle.ixp_registry.specs.declared.lists.OriginList.{OriginList}
use Rattle.ixp_registry.specs.declared.registry.Registry.{Registry}
use Rattle.ixp_registry.specs.Keys.{member_prefix_key, member_origin_key}
use Rattle.ixp_registry.specs.Registries.{rows_of, bare, addresses_of, prefixes_of, origins_of, rules_in}
use Rattle.ixp_registry.specs.Valid.{Valid, ValidIrrList, ValidOriginList}
use Rattle.ixp_rows_lines.specs.declared.version.Version.TheVariants.{Two}
use Rattle.ixp_rows_lines.specs.Fields.{Field, AllFit}
use Rattle.ixp_rows_lines.specs.Lines.{IsLine, form_of, place_of, text_of, version_again, site_line, member_line, contact_line, key_line, switch_line, port_line, vlan_line, interface_line, address_line, router_line, prefix_line, origin_line, rule_line, bogon_line, bogon_as_line, transit_line, roa_line}
use Rattle.ixp_rows.specs.Answers.{AllAscend, IsDump}
use Rattle.ixp_rows.specs.Printing.{kind_lines, all_kinds}
use Rattle.ixp_rows.specs.Reading.{key_in, head_text}
use Rattle.ixp_rows.specs.Texts.{dump_text}
use Rattle.ixp_rows.proofs.OneAnswer.{one_dump}
use Rattle.ixp_rows.proofs.Parts.{OfEach, of_rows}
use Rattle.ixp_rows.proofs.ValidLines.{valid_ascends, valid_lines}
use Rattle.ixp_store_rows.specs.Names.{Entry, fields_row, line_row, irr_row, origins_row, name_of}
use Rattle.ixp_store_rows.specs.States.{registry_rows}
use Rattle.ixp_store_rows.proofs.Apart.{Differ}
use Rattle.ixp_store_rows.proofs.NamesOnce.{registry_within}
use Rattle.ixp_store_damage.specs.Damages.{IsLineRow, IsListRow, IsRowOf, HasName, entries_text, entries_dump, entry_text}
use Rattle.ixp_store_damage.specs.Loading.{kind_rows, kind_entries, line_key, line_end, row_text}
use Rattle.ixp_store_words.specs.Opening.{entry_name}
use Rattle.ixp_store_damage.specs.Placing.{AreSections}
use Rattle.ixp_store_words.specs.Sorting.{Rises, Same, distinct_by}
use Rattle.ixp_store_damage.specs.Walking.{TellsRegistry, is_listed}
use Rattle.ixp_store_damage.proofs.BrokenLines.{dump_made}
use Rattle.ixp_store_damage.proofs.DumpOfRows.{AreRight, is_dump, dump_lines, all_follow}
use Rattle.ixp_store_damage.proofs.KindLines.{kind_stands, prefixes_some, origins_some}
use Rattle.ixp_store_damage.proofs.KindLines as kinds
use Rattle.ixp_store_damage.proofs.RowLines.{first_of, rest_of, never_none, has_whole}
use Rattle.ixp_store_load.proofs.RowsAgain.{SameRowsOf, same_rows}
use Rattle.ixp_store_damage.proofs.RowsByKind.{all_rows, by_kinds, picked}
use Rattle.ixp_store_words.proofs.Sorting.{same_moved, same_back, same_over, pairs_filter}
use Rattle.ixp_store_damage.proofs.Walks.{row_kind}

plain_right : {R : Type 0} (kind : Kind) (fields : R → List Field) (xs : List R) → AllByRecursion (λ x. AllFit (form_of Two kind) (fields x)) xs → AllByRecursion (IsLineRow kind) (map (λ x. fields_row kind (fields x)) xs)
plain_right kind fields [] all = tt
plain_right kind fields (x ∷ xs) all = ((fields x, all.0, refl), plain_right kind fields xs all.1)

mapped_text : {R : Type 0} (kind : Kind) (fields : R → List Field) (xs : List R) → flat_map (λ x. text_of kind (fields x)) xs ≡ flat_map (text_of kind) (map fields xs)
mapped_text kind fields [] = refl
mapped_text kind fields (x ∷ xs) = ap (λ t. text_of kind (fields x) ++ t) (mapped_text kind fields xs)

mapped_up : {R : Type 0} (fields : R → List Field) (key : R → List ℕ) (other : List Field → List ℕ) → ((x : R) → other (fields x) ≡ key x) → (xs : List R) → Ascends key xs → Ascends other (map fields xs)
mapped_up {R} fields key other keyed [] up = tt
mapped_up {R} fields key other keyed (x ∷ xs) up = (each xs up.0, mapped_up fields key other keyed xs up.1)
  where
    each : (ys : List R) → AllByRecursion (λ y. order (key x) (key y) ≡ Less) ys → AllByRecursion (λ z. order (other (fields x)) (other z) ≡ Less) (map fields ys)
    each [] less = tt
    each (y ∷ ys) less = (ap (λ k. order k (other (fields y))) (keyed x) ∙ (ap (order (key x)) (keyed y) ∙ less.0), each ys less.1)

some_fields : {R : Type 0} (fields : R → List Field) (xs : List R) → xs ≢ [] → map fields xs ≢ []
some_fields fields [] some = absurd (some refl)
some_fields fields (x ∷ xs) some = never_none (fields x) (map fields xs)

-- members' lists
abbrev prefix_fields : MemberPrefix → List Field
prefix_fields p = (prefix_line p).fields

abbrev origin_fields : MemberOrigin → List Field
origin_fields o = (origin_line o).fields

irr_right : (l : IrrList) → ValidIrrList l → AllByRecursion (λ p. IsLine Two (prefix_line p)) (prefixes_of l) → Ascends member_prefix_key (prefixes_of l) → IsListRow Prefixes (irr_row l)
irr_right l v fit up = record {
  member = l.member;
  family = l.family;
  lines = map prefix_fields (prefixes_of l);
  small = v.fits;
  some = some_fields prefix_fields (prefixes_of l) (prefixes_some l v.some);
  each = each l.prefixes v.family fit;
  rising = mapped_up prefix_fields member_prefix_key (key_in Prefixes) (λ p. refl) (prefixes_of l) up;
  row = λ i. ((irr_row l).0, mapped_text Prefixes prefix_fields (prefixes_of l) i);
}
  where
    each : (ps : List Prefix) → AllByRecursion (λ p. p.family ≡ l.family) ps → AllByRecursion (λ p. IsLine Two (prefix_line p)) (map (λ p. record { member = l.member; prefix = p }) ps)
        → AllByRecursion (λ fields. AllFit (form_of Two Prefixes) fields × (take 2 (key_in Prefixes fields) ≡ l.member ∷ version_of l.family ∷ [])) (map prefix_fields (map (λ p. record { member = l.member; prefix = p }) ps))
    each [] own fit = tt
    each (p ∷ ps) own fit = ((fit.0, ap (λ f. l.member ∷ version_of f ∷ []) own.0), each ps own.1 fit.1)

origins_right : (l : OriginList) → ValidOriginList l → AllByRecursion (λ o. IsLine Two (origin_line o)) (origins_of l) → Ascends member_origin_key (origins_of l) → IsListRow Origins (origins_row l)
origins_right l v fit up = record {
  member = l.member;
  family = l.family;
  lines = map origin_fields (origins_of l);
  small = v.fits.0;
  some = some_fields origin_fields (origins_of l) (origins_some l v.some);
  each = each l.asns fit;
  rising = mapped_up origin_fields member_origin_key (key_in Origins) (λ o. ap (λ n. o.member ∷ n ∷ o.asn.0 ∷ []) (version_again o.family)) (origins_of l) up;
  row = λ i. ((origins_row l).0, mapped_text Origins origin_fields (origins_of l) i);
}
  where
    each : (xs : List Asn) → AllByRecursion (λ o. IsLine Two (origin_line o)) (map (λ a. record { member = l.member; family = l.family; asn = a }) xs)
        → AllByRecursion (λ fields. AllFit (form_of Two Origins) fields × (take 2 (key_in Origins fields) ≡ l.member ∷ version_of l.family ∷ [])) (map origin_fields (map (λ a. record { member = l.member; family = l.family; asn = a }) xs))
    each [] fit = tt
    each (x ∷ xs) fit = ((fit.0, ap (λ n. l.member ∷ n ∷ []) (version_again l.family)), each xs fit.1)

lists_right : {L R : Type 0} (kind : Kind) (entry : L → Entry) (items : L → List R) (key : R → List ℕ) (P : R → Type 0) (V : L → Type 0) → ((l : L) → V l → AllByRecursion P (items l) → Ascends key (items l) → IsListRow kind (entry l))
    → (ls : List L) → AllByRecursion V ls → AllByRecursion P (flat_map items ls) → Ascends key (flat_map items ls) → AllByRecursion (IsListRow kind) (map entry ls)
lists_right kind entry items key P V one [] v fit up = tt
lists_right kind entry items key P V one (l ∷ ls) v fit up = (
  one l v.0 (all_flat P items (l ∷ ls) fit).0 (Ascends_before key (items l) (flat_map items ls) up),
  lists_right kind entry items key P V one ls v.1 (all_right P (items l) (flat_map items ls) fit) (Ascends_behind key (items l) (flat_map items ls) up),
)

-- names that differ
same_name_bytes : (a b : RowName) → name_bytes a ≡ name_bytes b → a ≡ b
same_name_bytes a b e =
    let kind = first_of a.kind b.kind a.key b.key e in
    let key = rest_of a.kind b.kind a.key b.key e in
    (λ i. record { kind = kind i; key = key i })

differ_distinct : (es : List Entry) → Pairs Differ es → IsDistinct (distinct_by entry_name) es
unfolding IsDistinct
differ_distinct [] apart = tt
differ_distinct (e ∷ es) apart = IsDistinct-cons (distinct_by entry_name) e es (all_weaker (Differ e) (λ f. same (entry_name e) (entry_name f) ≡ false) (λ f other. by_test f other (same (entry_name e) (entry_name f)) refl) es apart.0) (differ_distinct es apart.1)
  where
    by_test : (f : Entry) → Differ e f → (b : Bool) → same (entry_name e) (entry_name f) ≡ b → same (entry_name e) (entry_name f) ≡ false
    by_test f other false is = is
    by_test f other true is = absurd (other (same_name_bytes e.0 f.0 (same_is (entry_name e) (entry_name f) is)))

rises_up : {X : Type 0} (key : X → List ℕ) (xs : List X) → Ascends key xs → Rises key xs
rises_up key [] up = tt
rises_up key (x ∷ xs) up = (
  all_weaker (λ y. order (key x) (key y) ≡ Less) (λ y. is_lt (order (key y) (key x)) ≡ false) (λ y less. ap is_lt (turned (key x) (key y) Less less)) xs up.0,
  rises_up key xs up.1,
)

-- what a row is in a dump
ends_same : (kind : Kind) → (if is_listed kind then [] else 10 ∷ []) ≡ line_end kind
ends_same Prefixes = refl
ends_same Origins = refl
ends_same kind = refl

texts_same : (kind : Kind) (es : List Entry) → AllByRecursion (IsRowOf kind) es → flat_map entry_text es ≡ flat_map (row_text kind) es
texts_same kind [] all = refl
texts_same kind (e ∷ es) all =
    let one : entry_text e ≡ row_text kind e = ap (λ b. e.1 ++ (if b then [] else 10 ∷ [])) (has_whole kind e (row_kind kind e all.0)) ∙ ap (λ t. e.1 ++ t) (ends_same kind) in
    ap (λ t. t ++ flat_map entry_text es) one ∙ ap (λ t. row_text kind e ++ t) (texts_same kind es all.1)

module _ (r : Registry) (v : Valid r) where
  abbrev fit : OfEach (IsLine Two) Two (rows_of r)
  fit = of_rows (IsLine Two) Two (rows_of r) (valid_lines r v)

  abbrev up : AllAscend (rows_of r)
  up = valid_ascends r v

  pub entries_right : (kind : Kind) → AllByRecursion (IsRowOf kind) (kind_entries r kind)
  entries_right Sites = ((((site_line r.site).fields), fit.site, refl), tt)
  entries_right Members = plain_right Members (λ m. (member_line m).fields) r.members fit.members
  entries_right Contacts = plain_right Contacts (λ c. (contact_line c).fields) r.contacts fit.contacts
  entries_right Keys = plain_right Keys (λ k. (key_line k).fields) r.keys fit.keys
  entries_right Switches = plain_right Switches (λ s. (switch_line s).fields) r.switches fit.switches
  entries_right Ports = plain_right Ports (λ p. (port_line p).fields) r.ports fit.ports
  entries_right Vlans = plain_right Vlans (λ x. (vlan_line x).fields) r.vlans fit.vlans
  entries_right Interfaces = plain_right Interfaces (λ i. (interface_line i).fields) (map bare r.interfaces) fit.interfaces
  entries_right Addresses = plain_right Addresses (λ a. (address_line a).fields) (flat_map addresses_of r.interfaces) fit.addresses
  entries_right Routers = plain_right Routers (λ q. (router_line Two q).fields) r.routers fit.routers
  entries_right Prefixes = lists_right Prefixes irr_row prefixes_of member_prefix_key (λ p. IsLine Two (prefix_line p)) ValidIrrList irr_right r.irr v.irr.each fit.prefixes up.prefixes
  entries_right Origins = lists_right Origins origins_row origins_of member_origin_key (λ o. IsLine Two (origin_line o)) ValidOriginList origins_right r.origins v.origins.each fit.origins up.origins
  entries_right Rules = plain_right Rules (λ x. (rule_line x).fields) (flat_map rules_in r.rules) fit.rules
  entries_right Bogons = plain_right Bogons (λ b. (bogon_line b).fields) r.public.bogons fit.bogons
  entries_right BogonAs = plain_right BogonAs (λ x. (bogon_as_line x).fields) r.public.bogon_as fit.bogon_as
  entries_right Transit = plain_right Transit (λ a. (transit_line a).fields) r.public.transit fit.transit
  entries_right Roas = plain_right Roas (λ x. (roa_line x).fields) r.public.roas fit.roas

  registry_kind : (kind : Kind) → kind_rows (place_of kind) (registry_rows r) ≡ kind_entries r kind
  registry_kind kind = ap (kind_rows (place_of kind)) (all_rows r) ∙ (by_kinds r kind all_kinds ∙ picked r kind)

  first_row : HasName (registry_rows r) (name_of Sites [])
  unfolding fields_row
  first_row = ((line_row (site_line r.site)).1, inl refl)

  rows_right : AreRight (registry_rows r)
  rows_right = record {
    rows = λ kind. subst (AllByRecursion (IsRowOf kind)) (sym (registry_kind kind)) (entries_right kind);
    apart = λ kind. differ_distinct (kind_rows (place_of kind) (registry_rows r)) (pairs_filter Differ (λ e. e.0.kind == place_of kind) (registry_rows r) (registry_within r v).apart);
    site = first_row;
  }

  abbrev ordered : List Kind → List Entry
  ordered ks = flat_map (kind_entries r) ks

  sections : (ks : List Kind) → AreSections (registry_rows r) ks (ordered ks)
  sections [] = refl
  sections (kind ∷ ks) = (
    kind_entries r kind,
    ordered ks,
    record {
      moved = subst (λ l. IsPermutation l (kind_entries r kind)) (sym (registry_kind kind)) (IsPermutation-refl (kind_entries r kind));
      rises = rises_up (line_key kind) (kind_entries r kind) (kind_stands r v kind).order;
    },
    sections ks,
    refl,
  )

  ordered_text : (ks : List Kind) → entries_text (ordered ks) ≡ flat_map (kind_lines Two (rows_of r)) ks
  ordered_text [] = refl
  ordered_text (kind ∷ ks) =
      flat_map-append entry_text (kind_entries r kind) (ordered ks)
      ∙ (ap (λ t. t ++ entries_text (ordered ks)) (texts_same kind (kind_entries r kind) (entries_right kind) ∙ (kind_stands r v kind).spelt)
      ∙ ap (λ t. kind_lines Two (rows_of r) kind ++ t) (ordered_text ks))

  ordered_dump : entries_dump (ordered all_kinds) ≡ dump_text Two (rows_of r)
  ordered_dump =
      let t : List ℕ = head_text Two ++ entries_text (ordered all_kinds) in
      sym (dump_made t (ordered all_kinds) refl) ∙ kinds.dump_made r v t (ap (λ x. head_text Two ++ x) (ordered_text all_kinds))

pick : (P : Kind → Type 0) → AllByRecursion P all_kinds → (kind : Kind) → P kind
pick P all Sites = all.0
pick P all Members = all.1.0
pick P all Contacts = all.1.1.0
pick P all Keys = all.1.1.1.0
pick P all Switches = all.1.1.1.1.0
pick P all Ports = all.1.1.1.1.1.0
pick P all Vlans = all.1.1.1.1.1.1.0
pick P all Interfaces = all.1.1.1.1.1.1.1.0
pick P all Addresses = all.1.1.1.1.1.1.1.1.0
pick P all Routers = all.1.1.1.1.1.1.1.1.1.0
pick P all Prefixes = all.1.1.1.1.1.1.1.1.1.1.0
pick P all Origins = all.1.1.1.1.1.1.1.1.1.1.1.0
pick P all Rules = all.1.1.1.1.1.1.1.1.1.1.1.1.0
pick P all Bogons = all.1.1.1.1.1.1.1.1.1.1.1.1.1.0
pick P all BogonAs = all.1.1.1.1.1.1.1.1.1.1.1.1.1.1.0
pick P all Transit = all.1.1.1.1.1.1.1.1.1.1.1.1.1.1.1.0
pick P all Roas = all.1.1.1.1.1.1.1.1.1.1.1.1.1.1.1.1.0

-- the rows of each kind are those of the registry that they tell
pub registry_same : (es : List Entry) → AreRight es → (t : TellsRegistry es) → (kind : Kind) → Same (kind_rows (place_of kind) es) (kind_entries t.registry kind)
registry_same es right t kind =
    let r = t.registry in
    let v = t.valid in
    let fs = registry_rows r in
    let too = rows_right r v in
    let lines =
    one_dump Two (entries_dump t.ordered) (dump_lines es right t.ordered t.are) (dump_lines fs too (ordered r v all_kinds) (sections r v all_kinds)) (is_dump es right t.ordered t.are)
    (subst (IsDump Two (dump_lines fs too (ordered r v all_kinds) (sections r v all_kinds))) (ordered_dump r v ∙ sym t.text) (is_dump fs too (ordered r v all_kinds) (sections r v all_kinds))) in
    let own = pick (SameRowsOf es fs right too) (same_rows es fs right too 0 all_kinds (all_follow es right) t.ordered (ordered r v all_kinds) t.are (sections r v all_kinds) lines) kind in
    subst (Same (kind_rows (place_of kind) es)) (registry_kind r v kind)
    (same_over (kind_rows (place_of kind) es) own.0 (kind_rows (place_of kind) fs) (same_moved (kind_rows (place_of kind) es) own.0 own.1) (same_back (kind_rows (place_of kind) fs) own.0 (same_moved (kind_rows (place_of kind) fs) own.0 own.2)))
