-- What holds of all lines of rows, and what holds of the rows kind by kind.
use Rattle.std.proofs.Common.{◌≡◌, ℕ, List, [], ◌∷◌, ◌++◌, map, refl, sym, ap, ◌∙◌}
use Rattle.std.specs.List.{AllByRecursion}
use Rattle.std.specs.declared.cmp.Ordering.TheVariants.{Less}
use Rattle.ixp_num_tables.specs.Tables.{order, Ascends}
use Rattle.ixp_num_tables.proofs.Places.{Ascends_before, Ascends_behind}
use Rattle.ixp_registry.specs.Keys.{member_key, contact_key, api_key_key, switch_key, port_key, vlan_key, interface_row_key, address_key, router_key, member_prefix_key, member_origin_key, rule_key}
use Rattle.ixp_num_sorted.specs.Keys.{pattern_key, asn_key, range_key, roa_key}
use Rattle.ixp_registry.specs.declared.rows.Rows.{Rows}
use Rattle.ixp_registry.specs.declared.kind.Kind.{Kind}
use Rattle.ixp_registry.specs.declared.kind.Kind.TheVariants.{Members, Contacts, Keys, Switches, Ports, Vlans, Interfaces, Addresses, Routers, Prefixes, Origins, Rules, Bogons, BogonAs, Transit, Roas}
use Rattle.ixp_rows_lines.specs.declared.version.Version.{Version}
use Rattle.ixp_rows_lines.specs.Lines.{Line, place_of, key_of, site_line, member_line, contact_line, key_line, switch_line, port_line, vlan_line, interface_line, address_line, router_line, prefix_line, origin_line, rule_line, bogon_line, bogon_as_line, transit_line, roa_line}
use Rattle.ixp_rows.specs.Answers.{row_lines, AllAscend}
use Rattle.ixp_rows.proofs.Gathered.{all_behind, all_joined}
use Rattle.ixp_rows.proofs.PrintedDumps.{router_keyed, origin_keyed}
use Rattle.ixp_rows.proofs.Standing.{heads_same}

module _ (P : Line → Type 0) where
  all_front : (xs ys : List Line) → AllByRecursion P (xs ++ ys) → AllByRecursion P xs
  all_front [] ys all = tt
  all_front (x ∷ xs) ys all = (all.0, all_front xs ys all.1)

  abbrev pub OfAll : {R : Type 0} → (R → Line) → List R → Type 0
  OfAll line rows = AllByRecursion (λ row. P (line row)) rows

  to_lines : {R : Type 0} (line : R → Line) (rows : List R) → OfAll line rows → AllByRecursion P (map line rows)
  to_lines line [] all = tt
  to_lines line (row ∷ rows) all = (all.0, to_lines line rows all.1)

  to_rows : {R : Type 0} (line : R → Line) (rows : List R) → AllByRecursion P (map line rows) → OfAll line rows
  to_rows line [] all = tt
  to_rows line (row ∷ rows) all = (all.0, to_rows line rows all.1)

  join : {R : Type 0} (line : R → Line) (rows : List R) (ys : List Line) → OfAll line rows → AllByRecursion P ys → AllByRecursion P (map line rows ++ ys)
  join line rows ys here there = all_joined P (map line rows) ys (to_lines line rows here) there

  front : {R : Type 0} (line : R → Line) (rows : List R) (ys : List Line) → AllByRecursion P (map line rows ++ ys) → OfAll line rows
  front line rows ys all = to_rows line rows (all_front (map line rows) ys all)

  -- it holds of the lines of all rows
  pub record OfEach (version : Version) (w : Rows) : Type 0 where
    pub site : P (site_line w.site)
    pub members : OfAll member_line w.members
    pub contacts : OfAll contact_line w.contacts
    pub keys : OfAll key_line w.keys
    pub switches : OfAll switch_line w.switches
    pub ports : OfAll port_line w.ports
    pub vlans : OfAll vlan_line w.vlans
    pub interfaces : OfAll interface_line w.interfaces
    pub addresses : OfAll address_line w.addresses
    pub routers : OfAll (router_line version) w.routers
    pub prefixes : OfAll prefix_line w.prefixes
    pub origins : OfAll origin_line w.origins
    pub rules : OfAll rule_line w.rules
    pub bogons : OfAll bogon_line w.public.bogons
    pub bogon_as : OfAll bogon_as_line w.public.bogon_as
    pub transit : OfAll transit_line w.public.transit
    pub roas : OfAll roa_line w.public.roas

  pub of_lines : (version : Version) (w : Rows) → OfEach version w → AllByRecursion P (row_lines version w)
  unfolding row_lines
  of_lines version w each = (
    each.site,
    (join member_line w.members _ each.members
        (join contact_line w.contacts _ each.contacts
        (join key_line w.keys _ each.keys
        (join switch_line w.switches _ each.switches
        (join port_line w.ports _ each.ports
        (join vlan_line w.vlans _ each.vlans
        (join interface_line w.interfaces _ each.interfaces
        (join address_line w.addresses _ each.addresses
        (join (router_line version) w.routers _ each.routers
        (join prefix_line w.prefixes _ each.prefixes
        (join origin_line w.origins _ each.origins
        (join rule_line w.rules _ each.rules
        (join bogon_line w.public.bogons _ each.bogons
        (join bogon_as_line w.public.bogon_as _ each.bogon_as
        (join transit_line w.public.transit _ each.transit (to_lines roa_line w.public.roas each.roas)))))))))))))))),
  )

  pub of_rows : (version : Version) (w : Rows) → AllByRecursion P (row_lines version w) → OfEach version w
  unfolding row_lines
  of_rows version w all =
      let members = all.1 in
      let contacts = all_behind P (map member_line w.members) _ members in
      let keys = all_behind P (map contact_line w.contacts) _ contacts in
      let switches = all_behind P (map key_line w.keys) _ keys in
      let ports = all_behind P (map switch_line w.switches) _ switches in
      let vlans = all_behind P (map port_line w.ports) _ ports in
      let interfaces = all_behind P (map vlan_line w.vlans) _ vlans in
      let addresses = all_behind P (map interface_line w.interfaces) _ interfaces in
      let routers = all_behind P (map address_line w.addresses) _ addresses in
      let prefixes = all_behind P (map (router_line version) w.routers) _ routers in
      let origins = all_behind P (map prefix_line w.prefixes) _ prefixes in
      let rules = all_behind P (map origin_line w.origins) _ origins in
      let bogons = all_behind P (map rule_line w.rules) _ rules in
      let bogon_as = all_behind P (map bogon_line w.public.bogons) _ bogons in
      let transit = all_behind P (map bogon_as_line w.public.bogon_as) _ bogon_as in
      let roas = all_behind P (map transit_line w.public.transit) _ transit in
      record {
        site = all.0;
        members = front member_line w.members _ members;
        contacts = front contact_line w.contacts _ contacts;
        keys = front key_line w.keys _ keys;
        switches = front switch_line w.switches _ switches;
        ports = front port_line w.ports _ ports;
        vlans = front vlan_line w.vlans _ vlans;
        interfaces = front interface_line w.interfaces _ interfaces;
        addresses = front address_line w.addresses _ addresses;
        routers = front (router_line version) w.routers _ routers;
        prefixes = front prefix_line w.prefixes _ prefixes;
        origins = front origin_line w.origins _ origins;
        rules = front rule_line w.rules _ rules;
        bogons = front bogon_line w.public.bogons _ bogons;
        bogon_as = front bogon_as_line w.public.bogon_as _ bogon_as;
        transit = front transit_line w.public.transit _ transit;
        roas = to_rows roa_line w.public.roas roas;
      }

-- lines that ascend are of rows that ascend, kind by kind
module _ {R : Type 0} (kind : Kind) (line : R → Line) (key : R → List ℕ) (keyed : (row : R) → key_of (line row) ≡ place_of kind ∷ key row) where
  below_rows : (row : R) (rows : List R) → AllByRecursion (λ l. order (key_of (line row)) (key_of l) ≡ Less) (map line rows) → AllByRecursion (λ s. order (key row) (key s) ≡ Less) rows
  below_rows row [] all = tt
  below_rows row (s ∷ rows) all = (
    sym (ap (λ k. order k (key_of (line s))) (keyed row) ∙ (ap (λ k. order (place_of kind ∷ key row) k) (keyed s) ∙ heads_same (place_of kind) (key row) (key s))) ∙ all.0,
    below_rows row rows all.1,
  )

  rows_ascend : (rows : List R) → Ascends key_of (map line rows) → Ascends key rows
  rows_ascend [] up = tt
  rows_ascend (row ∷ rows) up = (below_rows row rows up.0, rows_ascend rows up.1)

  front_ascends : (rows : List R) (ys : List Line) → Ascends key_of (map line rows ++ ys) → Ascends key rows
  front_ascends rows ys up = rows_ascend rows (Ascends_before key_of (map line rows) ys up)

pub all_ascend : (version : Version) (w : Rows) → Ascends key_of (row_lines version w) → AllAscend w
unfolding row_lines
all_ascend version w up =
    let members = up.1 in
    let contacts = Ascends_behind key_of (map member_line w.members) _ members in
    let keys = Ascends_behind key_of (map contact_line w.contacts) _ contacts in
    let switches = Ascends_behind key_of (map key_line w.keys) _ keys in
    let ports = Ascends_behind key_of (map switch_line w.switches) _ switches in
    let vlans = Ascends_behind key_of (map port_line w.ports) _ ports in
    let interfaces = Ascends_behind key_of (map vlan_line w.vlans) _ vlans in
    let addresses = Ascends_behind key_of (map interface_line w.interfaces) _ interfaces in
    let routers = Ascends_behind key_of (map address_line w.addresses) _ addresses in
    let prefixes = Ascends_behind key_of (map (router_line version) w.routers) _ routers in
    let origins = Ascends_behind key_of (map prefix_line w.prefixes) _ prefixes in
    let rules = Ascends_behind key_of (map origin_line w.origins) _ origins in
    let bogons = Ascends_behind key_of (map rule_line w.rules) _ rules in
    let bogon_as = Ascends_behind key_of (map bogon_line w.public.bogons) _ bogons in
    let transit = Ascends_behind key_of (map bogon_as_line w.public.bogon_as) _ bogon_as in
    let roas = Ascends_behind key_of (map transit_line w.public.transit) _ transit in
    record {
      members = front_ascends Members member_line member_key (λ row. refl) w.members _ members;
      contacts = front_ascends Contacts contact_line contact_key (λ row. refl) w.contacts _ contacts;
      keys = front_ascends Keys key_line api_key_key (λ row. refl) w.keys _ keys;
      switches = front_ascends Switches switch_line switch_key (λ row. refl) w.switches _ switches;
      ports = front_ascends Ports port_line port_key (λ row. refl) w.ports _ ports;
      vlans = front_ascends Vlans vlan_line vlan_key (λ row. refl) w.vlans _ vlans;
      interfaces = front_ascends Interfaces interface_line interface_row_key (λ row. refl) w.interfaces _ interfaces;
      addresses = front_ascends Addresses address_line address_key (λ row. refl) w.addresses _ addresses;
      routers = front_ascends Routers (router_line version) router_key (router_keyed version) w.routers _ routers;
      prefixes = front_ascends Prefixes prefix_line member_prefix_key (λ row. refl) w.prefixes _ prefixes;
      origins = front_ascends Origins origin_line member_origin_key origin_keyed w.origins _ origins;
      rules = front_ascends Rules rule_line rule_key (λ row. refl) w.rules _ rules;
      bogons = front_ascends Bogons bogon_line pattern_key (λ row. refl) w.public.bogons _ bogons;
      bogon_as = front_ascends BogonAs bogon_as_line range_key (λ row. refl) w.public.bogon_as _ bogon_as;
      transit = front_ascends Transit transit_line asn_key (λ row. refl) w.public.transit _ transit;
      roas = rows_ascend Roas roa_line roa_key (λ row. refl) w.public.roas roas;
    }
