-- The rows of a valid registry ascend and have lines of the format.
use Rattle.std.proofs.Common.{◌≡◌, ℕ, ◌<◌, ◌≤◌, ◌^◌, true, nat_le, ◌++◌, Option, Some, None, IfSome, Ok, refl, arith}
use Rattle.std.specs.List.{AllByRecursion}
use Rattle.std.proofs.lemmas.Bool.{and_parts, leb-true}
use Rattle.ixp_num.specs.declared.family.Family.{Family}
use Rattle.ixp_num.specs.declared.family.Family.TheVariants.{V4, V6}
use Rattle.ixp_num.specs.declared.pattern.Pattern.{Pattern}
use Rattle.ixp_num.specs.declared.roa.Roa.{Roa}
use Rattle.ixp_num.specs.Families.{bits_of}
use Rattle.ixp_num_tables.specs.Tables.{if_there}
use Rattle.ixp_num_tables.proofs.AllItems.{all_both, all_true, mapped_all, flat_all, zip}
use Rattle.ixp_num_tables.proofs.Orders.{all_weaker}
use Rattle.ixp_registry.specs.declared.network.IfAddr.{IfAddr}
use Rattle.ixp_registry.specs.declared.network.Interface.{Interface}
use Rattle.ixp_registry.specs.declared.rules.MemberRule.{MemberRule}
use Rattle.ixp_registry.specs.declared.registry.Registry.{Registry}
use Rattle.ixp_registry.specs.Alphabets.{is_session_secret}
use Rattle.ixp_registry.specs.Registries.{rows_of, bare, address_rows, addresses_of, prefixes_of, origins_of, rules_in}
use Rattle.ixp_registry.specs.Valid.{Valid, ValidMember, ValidContact, ValidKey, ValidSwitch, ValidPort, ValidVlan, ValidInterface, ValidRouter, ValidIrrList, ValidOriginList, ValidRuleList, IsIn}
use Rattle.ixp_registry.specs.Widths.{IsNumber, AddressFits, RuleFits, AsnFits, RangeFits}
use Rattle.ixp_registry.specs.Words.{is_action_of, is_lawful, pattern_has_bounds, roa_has_bounds}
use Rattle.ixp_registry_laws.specs.WellFormed.{IsPrefixList, IsOriginList}
use Rattle.ixp_registry_laws.proofs.Bare.{own_addresses}
use Rattle.ixp_rows_lines.specs.declared.version.Version.TheVariants.{Two}
use Rattle.ixp_rows_lines.specs.Lines.{IsLine, member_line, contact_line, key_line, switch_line, port_line, vlan_line, interface_line, address_line, router_line, prefix_line, origin_line, rule_line, bogon_line, bogon_as_line, transit_line}
use Rattle.ixp_rows_lines.proofs.Lawful.{site_lawful, member_lawful, contact_lawful, key_lawful, switch_lawful, port_lawful, vlan_lawful, interface_lawful, address_lawful, router_lawful, prefix_lawful, origin_lawful, rule_lawful, bogon_lawful, bogon_as_lawful, transit_lawful, roa_lawful}
use Rattle.ixp_rows.specs.Answers.{row_lines, AllAscend}
use Rattle.ixp_rows.specs.Dumps.{RegistryAnswer}
use Rattle.ixp_rows.specs.Texts.{dump_text}
use Rattle.ixp_rows.proofs.Ascending.{bare_up, addresses_up, prefixes_up, origins_up, rules_up}
use Rattle.ixp_rows.proofs.Parts.{of_lines}
use Rattle.ixp_rows.proofs.PrintedDumps.{printed_answer}
use Rattle.ixp_rows.proofs.RowsTold.{all_rows}
use Rattle.ixp_rows.proofs.Spellable.{key_secret, session_secret, action_is}

few_bits : (f : Family) → bits_of f ≤ 128
few_bits V4 = omega arith
few_bits V6 = omega arith

pattern_fits : (p : Pattern) → pattern_has_bounds p ≡ true → (p.low < 2 ^ 8) × (p.high < 2 ^ 8)
pattern_fits p e =
    let parts = and_parts (nat_le p.low p.high) (nat_le p.high (bits_of p.prefix.family)) e in
    let low = leb-true p.low p.high parts.0 in
    let high = leb-true p.high (bits_of p.prefix.family) parts.1 in
    let few = few_bits p.prefix.family in
    (omega (arith, low, high, few), omega (arith, high, few))

roa_fits : (r : Roa) → roa_has_bounds r ≡ true → r.max < 2 ^ 8
roa_fits r e =
    let parts = and_parts (nat_le r.prefix.len r.max) (nat_le r.max (bits_of r.prefix.family)) e in
    let high = leb-true r.max (bits_of r.prefix.family) parts.1 in
    let few = few_bits r.prefix.family in
    omega (arith, high, few)

widths : (n : ℕ) (x y : Option IfAddr) → IfSome x AddressFits → IfSome y AddressFits → AllByRecursion (λ a. IsNumber a.address.max_prefix) (address_rows n x ++ address_rows n y)
widths n None None a b = tt
widths n None (Some y) a b = (b, tt)
widths n (Some x) None a b = (a, tt)
widths n (Some x) (Some y) a b = (a, (b, tt))

address_lines : (i : Interface) → ValidInterface i → AllByRecursion (λ a. IsLine Two (address_line a)) (addresses_of i)
address_lines i v =
    own_addresses (λ a. IsNumber a.address.max_prefix × (is_session_secret a.address.secret ≡ true)) (λ a. IsLine Two (address_line a)) i
    (λ x both. address_lawful Two (record { interface = i.number; address = x }) v.fits.0 both.0 (session_secret x.secret both.1))
    (all_both (λ a. IsNumber a.address.max_prefix) (λ a. is_session_secret a.address.secret ≡ true) (addresses_of i) (widths i.number i.v4 i.v6 v.fits.4 v.fits.5) v.secrets)

rule_line_is : (x : MemberRule) → RuleFits x → is_lawful x ≡ true → IsLine Two (rule_line x)
rule_line_is x fits lawful = rule_lawful Two x fits.0 fits.1 fits.2 (action_is x.way x.action (and_parts (is_action_of x.way x.action) (if_there x.peer true (λ p. nat_le 1 p.0)) lawful).0)

pub valid_lines : (r : Registry) → Valid r → AllByRecursion (IsLine Two) (row_lines Two (rows_of r))
valid_lines r v =
    of_lines (IsLine Two) Two (rows_of r) (record {
      site = site_lawful Two r.site v.site.fits.0 v.site.fits.1 v.site.fits.2;
      members = all_weaker ValidMember (λ m. IsLine Two (member_line m)) (λ m a. member_lawful Two m a.fits.0 a.fits.1 a.fits.2 a.fits.3) r.members v.members.each;
      contacts = all_weaker ValidContact (λ c. IsLine Two (contact_line c)) (λ c a. contact_lawful Two c a.fits.0 a.fits.1 a.fits.2 a.fits.3 a.fits.4) r.contacts v.contacts.each;
      keys = all_weaker ValidKey (λ k. IsLine Two (key_line k)) (λ k a. key_lawful Two k a.fits.0 a.fits.1 (key_secret k.secret a.secret)) r.keys v.keys.each;
      switches = all_weaker ValidSwitch (λ s. IsLine Two (switch_line s)) (λ s a. switch_lawful Two s a.fits.0 a.fits.1) r.switches v.switches.each;
      ports = all_weaker ValidPort (λ p. IsLine Two (port_line p)) (λ p a. port_lawful Two p a.fits.0 a.fits.1 a.fits.2 a.fits.3 a.fits.4) r.ports v.ports.each;
      vlans = all_weaker ValidVlan (λ x. IsLine Two (vlan_line x)) (λ x a. vlan_lawful Two x a.fits.0 a.fits.1 a.fits.2) r.vlans v.vlans.each;
      interfaces = mapped_all (λ i. IsLine Two (interface_line i)) bare r.interfaces (all_weaker ValidInterface (λ i. IsLine Two (interface_line (bare i))) (λ i a. interface_lawful Two (bare i) a.fits.0 a.fits.1 a.fits.2 a.fits.3) r.interfaces v.interfaces.each);
      addresses = flat_all (λ a. IsLine Two (address_line a)) addresses_of r.interfaces (all_weaker ValidInterface (λ i. AllByRecursion (λ a. IsLine Two (address_line a)) (addresses_of i)) address_lines r.interfaces v.interfaces.each);
      routers = all_weaker ValidRouter (λ q. IsLine Two (router_line Two q)) (λ q a. router_lawful Two q (record { handle = a.fits.0; vlan = a.fits.1; asn = a.fits.2; id = a.fits.3; low = a.fits.4; high = a.fits.5; max_comms = a.fits.6 })) r.routers v.routers.each;
      prefixes = flat_all (λ p. IsLine Two (prefix_line p)) prefixes_of r.irr (all_weaker ValidIrrList (λ l. AllByRecursion (λ p. IsLine Two (prefix_line p)) (prefixes_of l))
          (λ l a. mapped_all (λ p. IsLine Two (prefix_line p)) (λ p. record { member = l.member; prefix = p }) l.prefixes (all_true (λ p. IsLine Two (prefix_line (record { member = l.member; prefix = p }))) (λ p. prefix_lawful Two (record { member = l.member; prefix = p }) a.fits) l.prefixes)) r.irr v.irr.each);
      origins = flat_all (λ o. IsLine Two (origin_line o)) origins_of r.origins (all_weaker ValidOriginList (λ l. AllByRecursion (λ o. IsLine Two (origin_line o)) (origins_of l))
          (λ l a. mapped_all (λ o. IsLine Two (origin_line o)) (λ x. record { member = l.member; family = l.family; asn = x }) l.asns (all_weaker AsnFits (λ x. IsLine Two (origin_line (record { member = l.member; family = l.family; asn = x }))) (λ x b. origin_lawful Two (record { member = l.member; family = l.family; asn = x }) a.fits.0 b) l.asns a.fits.1)) r.origins v.origins.each);
      rules = flat_all (λ x. IsLine Two (rule_line x)) rules_in r.rules (all_weaker ValidRuleList (λ l. AllByRecursion (λ x. IsLine Two (rule_line x)) l.rules) (λ l a. zip l.rules a.fits.1 a.lawful rule_line_is) r.rules v.rules.each);
      bogons = all_weaker (λ b. pattern_has_bounds b ≡ true) (λ b. IsLine Two (bogon_line b)) (λ b e. let both = pattern_fits b e in bogon_lawful Two b both.0 both.1) r.public.bogons v.public.patterns;
      bogon_as = all_weaker RangeFits (λ x. IsLine Two (bogon_as_line x)) (λ x a. bogon_as_lawful Two x a.0 a.1) r.public.bogon_as v.public.fits.0;
      transit = all_weaker AsnFits (λ x. IsLine Two (transit_line x)) (λ x a. transit_lawful Two x a) r.public.transit v.public.fits.1;
      roas = zip r.public.roas v.public.lengths v.public.fits.2 (λ x e a. roa_lawful Two x (roa_fits x e) a);
    })

pub valid_ascends : (r : Registry) → Valid r → AllAscend (rows_of r)
valid_ascends r v = record {
  members = v.members.order;
  contacts = v.contacts.order;
  keys = v.keys.order;
  switches = v.switches.order;
  ports = v.ports.order;
  vlans = v.vlans.order;
  interfaces = bare_up r.interfaces v.interfaces.order;
  addresses = addresses_up r.interfaces v.interfaces.order (all_weaker ValidInterface (λ i. IsIn V4 i.v4 × IsIn V6 i.v6) (λ i a. a.columns) r.interfaces v.interfaces.each);
  routers = v.routers.order;
  prefixes = prefixes_up r.irr v.irr.order (all_weaker ValidIrrList IsPrefixList (λ l a. (a.some, a.order, a.family)) r.irr v.irr.each);
  origins = origins_up r.origins v.origins.order (all_weaker ValidOriginList IsOriginList (λ l a. (a.some, a.order)) r.origins v.origins.each);
  rules = rules_up r.rules v.rules.order v.rules.each;
  bogons = v.public.bogons;
  bogon_as = v.public.bogon_as;
  transit = v.public.transit;
  roas = v.public.roas;
}

-- the dump of a valid registry is read as this registry
pub read_again : (r : Registry) → Valid r → RegistryAnswer Two (dump_text Two (rows_of r)) (Ok r)
read_again r v = (printed_answer Two (rows_of r) (valid_ascends r v) (valid_lines r v) (all_rows r.routers), refl, v)
