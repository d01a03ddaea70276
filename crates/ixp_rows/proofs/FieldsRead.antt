-- What a dump's lines say fits the fields of a registry.
use Rattle.std.proofs.Common.{◌≡◌, ◌≢◌, ℕ, ◌<◌, ◌^◌, List, [], ◌∷◌, ◌++◌, map, codes, Option, Some, None, IfSome, refl, sym, subst, arith}
use Rattle.std.specs.List.{AllByRecursion}
use Rattle.ixp_num.specs.declared.asn.Asn.{Asn}
use Rattle.ixp_num.specs.declared.prefix.Prefix.{Prefix}
use Rattle.ixp_num_tables.proofs.AllItems.{all_mapped, all_flat, zip}
use Rattle.ixp_num_tables.proofs.Orders.{all_weaker}
use Rattle.ixp_registry.specs.declared.network.IfAddr.{IfAddr}
use Rattle.ixp_registry.specs.declared.router.Router.{Router}
use Rattle.ixp_registry.specs.declared.lists.IrrList.{IrrList}
use Rattle.ixp_registry.specs.declared.lists.OriginList.{OriginList}
use Rattle.ixp_registry.specs.declared.lists.MemberPrefix.{MemberPrefix}
use Rattle.ixp_registry.specs.declared.lists.MemberOrigin.{MemberOrigin}
use Rattle.ixp_registry.specs.declared.rules.MemberRule.{MemberRule}
use Rattle.ixp_registry.specs.declared.rules.RuleList.{RuleList}
use Rattle.ixp_registry.specs.declared.registry.Registry.{Registry}
use Rattle.ixp_registry.specs.Registries.{rows_of, bare, address_rows, addresses_of, prefixes_of, origins_of, rules_in}
use Rattle.ixp_registry.specs.Widths.{IsNumber, MemberFits, ContactFits, KeyFits, SwitchFits, PortFits, VlanFits, AddressFits, RouterFits, RuleFits, AsnFits, RangeFits, RoaFits}
use Rattle.ixp_registry_laws.specs.WellFormed.{FieldsFit, HasLists}
use Rattle.ixp_rows_lines.specs.declared.version.Version.{Version}
use Rattle.ixp_rows_lines.specs.declared.version.Version.TheVariants.{One, Two}
use Rattle.ixp_rows_lines.specs.Fields.{Fits, Or, ANumber}
use Rattle.ixp_rows_lines.specs.Lines.{IsLine, IsOfVersion, field_or, asn_field, member_line, contact_line, key_line, switch_line, port_line, vlan_line, interface_line, address_line, router_line, prefix_line, origin_line, rule_line, bogon_as_line, transit_line, roa_line}
use Rattle.ixp_rows.specs.Answers.{row_lines}
use Rattle.ixp_rows.proofs.Parts.{of_rows}

zero_fits : (n : ℕ) → n ≡ 0 → n < 2 ^ 32
zero_fits n e = subst (λ (m : ℕ). m < 2 ^ 32) (sym e) (omega arith)

router_fits : (version : Version) (q : Router) → IsLine version (router_line version q) → IsOfVersion version q → RouterFits q
router_fits One q is of = (is.0, is.1.0, is.1.1.1.1.0, is.1.1.1.1.1.0, is.1.1.1.1.1.1.0, is.1.1.1.1.1.1.1.0, zero_fits q.max_comms of.1)
router_fits Two q is of = (is.0, is.1.0, is.1.1.1.1.0, is.1.1.1.1.1.0, is.1.1.1.1.1.1.0, is.1.1.1.1.1.1.1.0, is.1.1.1.1.1.1.1.1.1.1.0)

peer_fits : (o : Option Asn) → Fits (Or (codes "*") ANumber) (field_or (codes "*") asn_field o) → IfSome o (λ p. IsNumber p.0)
peer_fits None is = tt
peer_fits (Some p) is = is

addresses_fit : (n : ℕ) (x y : Option IfAddr) → AllByRecursion (λ a. IsNumber a.address.max_prefix) (address_rows n x ++ address_rows n y) → IfSome x AddressFits × IfSome y AddressFits
addresses_fit n None None all = (tt, tt)
addresses_fit n None (Some y) all = (tt, all.0)
addresses_fit n (Some x) None all = (all.0, tt)
addresses_fit n (Some x) (Some y) all = (all.0, all.1.0)

irr_fits : (l : IrrList) (ps : List Prefix) → ps ≢ [] → AllByRecursion (λ p. IsNumber p.member) (map (λ p. let row : MemberPrefix = record { member = l.member; prefix = p } in row) ps) → IsNumber l.member
irr_fits l [] some all = absurd (some refl)
irr_fits l (p ∷ ps) some all = all.0

origins_fit : (l : OriginList) (xs : List Asn) → AllByRecursion (λ o. IsNumber o.member × IsNumber o.asn.0) (map (λ a. let row : MemberOrigin = record { member = l.member; family = l.family; asn = a } in row) xs) → AllByRecursion AsnFits xs
origins_fit l [] all = tt
origins_fit l (x ∷ xs) all = (all.0.1, origins_fit l xs all.1)

origins_number : (l : OriginList) (xs : List Asn) → xs ≢ [] → AllByRecursion (λ o. IsNumber o.member × IsNumber o.asn.0) (map (λ a. let row : MemberOrigin = record { member = l.member; family = l.family; asn = a } in row) xs) → IsNumber l.member
origins_number l [] some all = absurd (some refl)
origins_number l (x ∷ xs) some all = all.0.0

rules_number : (l : RuleList) (xs : List MemberRule) → xs ≢ [] → AllByRecursion (λ x. x.member ≡ l.member) xs → AllByRecursion RuleFits xs → IsNumber l.member
rules_number l [] some own all = absurd (some refl)
rules_number l (x ∷ xs) some own all = subst IsNumber own.0 all.0.0

pub fields_fit : (version : Version) (r : Registry) → AllByRecursion (IsLine version) (row_lines version (rows_of r)) → AllByRecursion (IsOfVersion version) r.routers → HasLists r → FieldsFit r
fields_fit version r all of lists =
    let each = of_rows (IsLine version) version (rows_of r) all in
    record {
      site = (each.site.0, each.site.1.0, each.site.1.1.0);
      members = all_weaker (λ m. IsLine version (member_line m)) MemberFits (λ m is. (is.0, is.1.0, is.1.1.1.0, is.1.1.1.1.0)) r.members each.members;
      contacts = all_weaker (λ c. IsLine version (contact_line c)) ContactFits (λ c is. (is.0, is.1.0, is.1.1.0, is.1.1.1.0, is.1.1.1.1.0)) r.contacts each.contacts;
      keys = all_weaker (λ k. IsLine version (key_line k)) KeyFits (λ k is. (is.0, is.1.1.0)) r.keys each.keys;
      switches = all_weaker (λ s. IsLine version (switch_line s)) SwitchFits (λ s is. (is.0, is.1.0)) r.switches each.switches;
      ports = all_weaker (λ p. IsLine version (port_line p)) PortFits (λ p is. (is.0, is.1.0, is.1.1.0, is.1.1.1.0, is.1.1.1.1.0)) r.ports each.ports;
      vlans = all_weaker (λ v. IsLine version (vlan_line v)) VlanFits (λ v is. (is.0, is.1.0, is.1.1.1.1.0)) r.vlans each.vlans;
      interfaces =
          zip r.interfaces (all_mapped (λ i. IsLine version (interface_line i)) bare r.interfaces each.interfaces) (all_flat (λ a. IsLine version (address_line a)) addresses_of r.interfaces each.addresses)
          (λ i is rows.
          let both = addresses_fit i.number i.v4 i.v6 (all_weaker (λ a. IsLine version (address_line a)) (λ a. IsNumber a.address.max_prefix) (λ a line. line.1.1.0) (addresses_of i) rows) in
          (is.0, is.1.0, is.1.1.0, is.1.1.1.0, both.0, both.1));
      routers = zip r.routers each.routers of (λ q is told. router_fits version q is told);
      irr =
          zip r.irr lists.irr (all_flat (λ p. IsLine version (prefix_line p)) prefixes_of r.irr each.prefixes)
          (λ l is rows. irr_fits l l.prefixes is.0 (all_weaker (λ p. IsLine version (prefix_line p)) (λ p. IsNumber p.member) (λ p line. line.0) (prefixes_of l) rows));
      origins =
          zip r.origins lists.origins (all_flat (λ o. IsLine version (origin_line o)) origins_of r.origins each.origins)
          (λ l is rows.
          let fit = all_weaker (λ o. IsLine version (origin_line o)) (λ o. IsNumber o.member × IsNumber o.asn.0) (λ o line. (line.0, line.1.1.0)) (origins_of l) rows in
          (origins_number l l.asns is.0 fit, origins_fit l l.asns fit));
      rules =
          zip r.rules lists.rules (all_flat (λ x. IsLine version (rule_line x)) rules_in r.rules each.rules)
          (λ l is rows.
          let fit = all_weaker (λ x. IsLine version (rule_line x)) RuleFits (λ x line. (line.0, line.1.0, peer_fits x.peer line.1.1.1.0)) l.rules rows in
          (rules_number l l.rules is.0 is.1 fit, fit));
      bogon_as = all_weaker (λ x. IsLine version (bogon_as_line x)) RangeFits (λ x is. (is.0, is.1.0)) r.public.bogon_as each.bogon_as;
      transit = all_weaker (λ x. IsLine version (transit_line x)) AsnFits (λ x is. is.0) r.public.transit each.transit;
      roas = all_weaker (λ x. IsLine version (roa_line x)) RoaFits (λ x is. is.1.1.0) r.public.roas each.roas;
    }
