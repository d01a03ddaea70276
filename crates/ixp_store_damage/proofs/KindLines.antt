-- The rows that a store has of a valid registry are the lines of its dump, kind by kind.
use Rattle.std.proofs.Common.{◌≡◌, ◌≢◌, Bool, IsSome, Option, Some, None, Result, Ok, Err, ℕ, ◌-◌, List, [], ◌∷◌, ◌++◌, append-nil, append_assoc, map, flat_map, refl, sym, ap, ◌∙◌, subst, arith}
use Rattle.std.specs.List.{AllByRecursion}
use Rattle.ixp_num_tables.specs.Sums.{Pairs}
use Rattle.ixp_num_tables.specs.Tables.{Ascends}
use Rattle.ixp_num_tables.proofs.Orders.{all_weaker}
use Rattle.ixp_registry.specs.declared.kind.Kind.{Kind}
use Rattle.ixp_registry.specs.declared.kind.Kind.TheVariants.{Sites, Members, Contacts, Keys, Switches, Ports, Vlans, Interfaces, Addresses, Routers, Prefixes, Origins, Rules, Bogons, BogonAs, Transit, Roas}
use Rattle.ixp_registry.specs.declared.lists.IrrList.{IrrList}
use Rattle.ixp_registry.specs.declared.lists.MemberOrigin.{MemberOrigin}
use Rattle.ixp_registry.specs.declared.lists.MemberPrefix.{MemberPrefix}
use Rattle.ixp_registry.specs.declared.lists.OriginList.{OriginList}
use Rattle.ixp_registry.specs.declared.registry.Registry.{Registry}
use Rattle.ixp_registry.specs.Keys.{member_key, contact_key, api_key_key, switch_key, port_key, vlan_key, interface_row_key, address_key, router_key, member_prefix_key, member_origin_key, rule_key}
use Rattle.ixp_num_sorted.specs.Keys.{pattern_key, asn_key, range_key, roa_key}
use Rattle.ixp_registry.specs.Registries.{rows_of, bare, addresses_of, prefixes_of, origins_of, rules_in}
use Rattle.ixp_registry.specs.Valid.{Valid, ValidIrrList, ValidOriginList}
use Rattle.ixp_rows_lines.specs.declared.version.Version.TheVariants.{Two}
use Rattle.ixp_rows_lines.specs.Lines.{IsLine, place_of, version_again, site_line, member_line, contact_line, key_line, switch_line, port_line, vlan_line, interface_line, address_line, router_line, prefix_line, origin_line, rule_line, bogon_line, bogon_as_line, transit_line, roa_line}
use Rattle.ixp_rows.specs.declared.fault.DumpFault.{DumpFault}
use Rattle.ixp_rows.specs.declared.fault.DumpFault.TheVariants.{NoMemory}
use Rattle.ixp_rows.specs.Answers.{AllAscend}
use Rattle.ixp_rows.specs.Dumps.{RegistryAnswer}
use Rattle.ixp_rows.specs.Printing.{kind_lines, kind_count, all_kinds}
use Rattle.ixp_rows.specs.Reading.{breaks, head_text, end_text, sum}
use Rattle.ixp_rows.specs.Texts.{lines_text, rows_count, dump_text}
use Rattle.ixp_rows.proofs.LinesAgain.{breaks_append}
use Rattle.ixp_rows.proofs.OneRegistry.{one_registry}
use Rattle.ixp_rows.proofs.Parts.{OfEach, of_rows}
use Rattle.ixp_rows.proofs.Printed.{all_counted, all_lines}
use Rattle.ixp_rows.proofs.ValidLines.{read_again, valid_ascends, valid_lines}
use Rattle.ixp_store_rows.specs.Names.{Entry, irr_row, origins_row}
use Rattle.ixp_store_damage.specs.Loading.{kind_rows, kind_entries, line_said, line_key, row_text, Added, AreLines, KindAdded}
use Rattle.ixp_store_words.specs.Sorting.{Same}
use Rattle.ixp_store_damage.proofs.SectionLines.{plain_lines, list_lines}

-- a list of a member has items
some_mapped : {A B : Type 0} (f : A → B) (xs : List A) → xs ≢ [] → map f xs ≢ []
some_mapped f [] some e = some refl
some_mapped {A} {B} f (x ∷ xs) some e = absurd (let h : ◌≡◌ {A = List B} (f x ∷ map f xs) [] = e in cc)

pub prefixes_some : (l : IrrList) → l.prefixes ≢ [] → prefixes_of l ≢ []
prefixes_some l = some_mapped {B = MemberPrefix} (λ p. record { member = l.member; prefix = p }) l.prefixes

pub origins_some : (l : OriginList) → l.asns ≢ [] → origins_of l ≢ []
origins_some l = some_mapped {B = MemberOrigin} (λ a. record { member = l.member; family = l.family; asn = a }) l.asns

module _ (r : Registry) (v : Valid r) where
  abbrev fit : OfEach (IsLine Two) Two (rows_of r)
  fit = of_rows (IsLine Two) Two (rows_of r) (valid_lines r v)

  abbrev up : AllAscend (rows_of r)
  up = valid_ascends r v

  pub kind_stands : (kind : Kind) → AreLines kind (kind_entries r kind) (kind_lines Two (rows_of r) kind) (kind_count (rows_of r) kind)
  kind_stands Sites =
      subst (λ t. AreLines Sites (kind_entries r Sites) t 1) (append-nil (kind_lines Two (rows_of r) Sites))
      (plain_lines Sites (λ s. (site_line s).fields) (λ s. []) (λ s. refl) refl (r.site ∷ []) (fit.site, tt) (tt, tt))
  kind_stands Members = plain_lines Members (λ m. (member_line m).fields) member_key (λ m. refl) refl r.members fit.members up.members
  kind_stands Contacts = plain_lines Contacts (λ c. (contact_line c).fields) contact_key (λ c. refl) refl r.contacts fit.contacts up.contacts
  kind_stands Keys = plain_lines Keys (λ k. (key_line k).fields) api_key_key (λ k. refl) refl r.keys fit.keys up.keys
  kind_stands Switches = plain_lines Switches (λ s. (switch_line s).fields) switch_key (λ s. refl) refl r.switches fit.switches up.switches
  kind_stands Ports = plain_lines Ports (λ p. (port_line p).fields) port_key (λ p. refl) refl r.ports fit.ports up.ports
  kind_stands Vlans = plain_lines Vlans (λ x. (vlan_line x).fields) vlan_key (λ x. refl) refl r.vlans fit.vlans up.vlans
  kind_stands Interfaces = plain_lines Interfaces (λ i. (interface_line i).fields) interface_row_key (λ i. refl) refl (map bare r.interfaces) fit.interfaces up.interfaces
  kind_stands Addresses = plain_lines Addresses (λ a. (address_line a).fields) address_key (λ a. refl) refl (flat_map addresses_of r.interfaces) fit.addresses up.addresses
  kind_stands Routers = plain_lines Routers (λ q. (router_line Two q).fields) router_key (λ q. append-nil q.handle) refl r.routers fit.routers up.routers
  kind_stands Prefixes =
      list_lines Prefixes (λ p. (prefix_line p).fields) member_prefix_key (λ p. refl) refl prefixes_of irr_row (λ l. refl) r.irr
      (all_weaker ValidIrrList (λ l. prefixes_of l ≢ []) (λ l a. prefixes_some l a.some) r.irr v.irr.each) fit.prefixes up.prefixes
  kind_stands Origins =
      list_lines Origins (λ o. (origin_line o).fields) member_origin_key (λ o. ap (λ n. o.member ∷ n ∷ o.asn.0 ∷ []) (version_again o.family)) refl origins_of origins_row (λ l. refl) r.origins
      (all_weaker ValidOriginList (λ l. origins_of l ≢ []) (λ l a. origins_some l a.some) r.origins v.origins.each) fit.origins up.origins
  kind_stands Rules = plain_lines Rules (λ x. (rule_line x).fields) rule_key (λ x. refl) refl (flat_map rules_in r.rules) fit.rules up.rules
  kind_stands Bogons = plain_lines Bogons (λ b. (bogon_line b).fields) pattern_key (λ b. refl) refl r.public.bogons fit.bogons up.bogons
  kind_stands BogonAs = plain_lines BogonAs (λ x. (bogon_as_line x).fields) range_key (λ x. refl) refl r.public.bogon_as fit.bogon_as up.bogon_as
  kind_stands Transit = plain_lines Transit (λ a. (transit_line a).fields) asn_key (λ a. refl) refl r.public.transit fit.transit up.transit
  kind_stands Roas = plain_lines Roas (λ x. (roa_line x).fields) roa_key (λ x. refl) refl r.public.roas fit.roas up.roas

  lines_counted : (kinds : List Kind) → breaks (flat_map (kind_lines Two (rows_of r)) kinds) ≡ sum (map (kind_count (rows_of r)) kinds)
  lines_counted [] = refl
  lines_counted (k ∷ ks) =
      let one = (kind_stands k).counted in
      let others = lines_counted ks in
      breaks_append (kind_lines Two (rows_of r) k) (flat_map (kind_lines Two (rows_of r)) ks) ∙ omega (arith, one, others)

  -- the head, the lines kind by kind, and the end with their number are the dump
  pub dump_made : (t : List ℕ) → t ≡ head_text Two ++ flat_map (kind_lines Two (rows_of r)) all_kinds → t ++ end_text (breaks t - 1) ≡ dump_text Two (rows_of r)
  dump_made t e =
      let lines = lines_counted all_kinds in
      let counted = all_counted (rows_of r) in
      let head : breaks (head_text Two) ≡ 1 = refl in
      let joined = breaks_append (head_text Two) (flat_map (kind_lines Two (rows_of r)) all_kinds) in
      let all = ap breaks e in
      let number : breaks t - 1 ≡ rows_count (rows_of r) = omega (arith, lines, counted, head, joined, all) in
      ap (λ n. t ++ end_text n) number ∙ (ap (λ x. x ++ end_text (rows_count (rows_of r))) (e ∙ ap (λ x. head_text Two ++ x) (all_lines Two (rows_of r)))
      ∙ append_assoc (head_text Two) (lines_text Two (rows_of r)) (end_text (rows_count (rows_of r))))

-- what adds them adds the lines of the kind
pub kind_added :
    {E : Type 0} (kind : Kind) (es : List Entry) (result : Result Bool E) (old new : List ℕ)
    → ((xs : List Entry) → Same (kind_rows (place_of kind) es) xs → Pairs (λ a b. a ≢ b) es → Ascends (line_key kind) xs → AllByRecursion (λ e. IsSome (line_said kind e)) xs → Added result old new (flat_map (row_text kind) xs))
    → KindAdded es result old new kind
kind_added kind es result old new section = λ r v are.
    let stands = kind_stands r v kind in
    subst (Added result old new) stands.spelt (section (kind_entries r kind) (are.each kind) are.apart stands.order stands.said)

-- what reading the dump of a valid registry answers
abbrev told : Result Registry DumpFault → Option Registry
told (Ok r) = Some r
told (Err fault) = None

read_told : (t : List ℕ) (x : Result Registry DumpFault) → x ≢ Err NoMemory → RegistryAnswer Two t x → (r : Registry) → Valid r → t ≡ dump_text Two (rows_of r) → told x ≡ Some r
read_told t x memory answer r v e =
    ap told (one_registry Two t x (Ok r) memory (λ bad. absurd (let h : ◌≡◌ {A = Result Registry DumpFault} (Ok r) (Err NoMemory) = bad in cc)) answer (subst (λ u. RegistryAnswer Two u (Ok r)) (sym e) (read_again r v)))

pub registry_read : (t : List ℕ) (x : Registry) → RegistryAnswer Two t (Ok x) → (r : Registry) → Valid r → t ≡ dump_text Two (rows_of r) → Some x ≡ Some r
registry_read t x answer = read_told t (Ok x) (λ bad. absurd (let h : ◌≡◌ {A = Result Registry DumpFault} (Ok x) (Err NoMemory) = bad in cc)) answer

pub never_unread : (t : List ℕ) (fault : DumpFault) → fault ≢ NoMemory → RegistryAnswer Two t (Err fault) → (r : Registry) → Valid r → t ≡ dump_text Two (rows_of r) → ◌≡◌ {A = Option Registry} None (Some r)
never_unread t fault memory answer = read_told t (Err fault) (λ bad. absurd (memory (same_fault bad))) answer
  where
    fault_in : Result Registry DumpFault → DumpFault
    fault_in (Ok r) = NoMemory
    fault_in (Err f) = f

    same_fault : ◌≡◌ {A = Result Registry DumpFault} (Err fault) (Err NoMemory) → fault ≡ NoMemory
    same_fault e = ap fault_in e
