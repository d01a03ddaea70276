-- The rules that the rows of a registry keep. Each sentence is about the rows of one kind, and says where the
-- first one stands that breaks it; None where all keep it.
use Rattle.std.specs.Prelude.{ℕ, Bool, List, [], ◌∷◌, ◌++◌, ◌+◌, ◌&&◌, ◌||◌, ◌==◌, not, true, nat_le, Option, Some, None, if◌then◌else◌, map}
use Rattle.std.specs.List.{list_any, list_all}
use Rattle.ixp_num.specs.AddressForms.{version_of}
use Rattle.ixp_num.specs.declared.family.Family.{Family}
use Rattle.ixp_num.specs.declared.family.Family.TheVariants.{V4, V6}
use Rattle.ixp_num.specs.declared.addr.Addr.{Addr}
use Rattle.ixp_num.specs.Families.{same_family}
use Rattle.ixp_num_tables.specs.Tables.{find, if_there}
use Rattle.ixp_num_tables.specs.Sums.{total}
use Rattle.ixp_registry.specs.declared.network.AddressRow.{AddressRow}
use Rattle.ixp_registry.specs.declared.router.Router.{Router}
use Rattle.ixp_registry.specs.declared.rules.MemberRule.{MemberRule}
use Rattle.ixp_registry.specs.declared.rows.Rows.{Rows}
use Rattle.ixp_registry.specs.Keys.{interface_row_key}
use Rattle.ixp_registry.specs.Alphabets.{is_label, is_note, is_macro, is_session_secret, is_key_secret, is_handle}
use Rattle.ixp_registry.specs.Places.{first, first_with_earlier, first_beside, first_beyond, first_over, first_heavy, earliest}
use Rattle.ixp_registry.specs.Lookups.{has_member, has_switch, has_port, has_vlan, has_interface, has_owner, is_port_of, is_member_connected, has_left, listed, vlan_prefixes, is_host_in, is_host_at, has_blackhole}
use Rattle.ixp_num.specs.Prefixes.{same_addr}
use Rattle.ixp_registry.specs.Words.{is_reserved, is_vlan_length, overlaps_any, is_of, addr_numbers, owner_numbers, is_staff_number, is_lawful, has_bounds, pattern_has_bounds, range_ascends, roa_has_bounds}
use Rattle.ixp_registry.specs.Weight.{vlan_weight}
use Rattle.ixp_registry.specs.Lines.{site_at, members_at, contacts_at, keys_at, switches_at, ports_at, vlans_at, interfaces_at, addresses_at, routers_at, prefixes_at, origins_at, rules_at, bogons_at, bogon_as_at, transit_at, roas_at}

-- 1. Numbers, a port's speed and a contact's place are at least 1, and no two members have one AS number.
-- (That keys are unique is part of what a table of rows is.)
abbrev pub members_are_numbered : Rows → Option ℕ
members_are_numbered w = first members_at (λ m. m.number == 0) w.members

abbrev pub member_asns_differ : Rows → Option ℕ
member_asns_differ w = first_beyond 1 members_at (map (λ m. m.asn.0 ∷ []) w.members)

abbrev pub contacts_are_placed : Rows → Option ℕ
contacts_are_placed w = first (contacts_at w) (λ c. c.place == 0) w.contacts

abbrev pub keys_are_numbered : Rows → Option ℕ
keys_are_numbered w = first (keys_at w) (λ k. k.number == 0) w.keys

abbrev pub switches_are_numbered : Rows → Option ℕ
switches_are_numbered w = first (switches_at w) (λ s. s.number == 0) w.switches

abbrev pub ports_are_numbered : Rows → Option ℕ
ports_are_numbered w = first (ports_at w) (λ p. p.number == 0 || p.speed == 0) w.ports

abbrev pub vlans_are_numbered : Rows → Option ℕ
vlans_are_numbered w = first (vlans_at w) (λ v. v.number == 0) w.vlans

abbrev pub interfaces_are_numbered : Rows → Option ℕ
interfaces_are_numbered w = first (interfaces_at w) (λ i. i.number == 0) w.interfaces

abbrev pub rule_1_sentences : Rows → List (Option ℕ)
rule_1_sentences w =
    members_are_numbered w ∷ member_asns_differ w ∷ contacts_are_placed w ∷ keys_are_numbered w
    ∷ switches_are_numbered w
    ∷ ports_are_numbered w ∷ vlans_are_numbered w ∷ interfaces_are_numbered w ∷ []

abbrev pub rule_1 : Rows → Option ℕ
rule_1 w = earliest (rule_1_sentences w)

-- 2. Each row that is named is there.
abbrev pub contacts_have_members : Rows → Option ℕ
contacts_have_members w = first (contacts_at w) (λ c. not (has_member w.members c.member)) w.contacts

abbrev pub keys_have_owners : Rows → Option ℕ
keys_have_owners w = first (keys_at w) (λ k. not (has_owner w.members k.owner)) w.keys

-- a port of member 0 is free
abbrev pub ports_have_switches : Rows → Option ℕ
ports_have_switches w =
    first (ports_at w) (λ p. not (has_switch w.switches p.switch
    && (p.member == 0 || has_member w.members p.member))) w.ports

abbrev pub interfaces_have_ports : Rows → Option ℕ
interfaces_have_ports w =
    first (interfaces_at w) (λ i. not (has_member w.members i.member && has_port w.ports i.port
    && has_vlan w.vlans i.vlan)) w.interfaces

abbrev pub addresses_have_interfaces : Rows → Option ℕ
addresses_have_interfaces w =
    first (addresses_at w) (λ a. not (has_interface w.interfaces a.interface)) w.addresses

abbrev pub routers_have_vlans : Rows → Option ℕ
routers_have_vlans w = first (routers_at w) (λ r. not (has_vlan w.vlans r.vlan)) w.routers

abbrev pub prefixes_have_members : Rows → Option ℕ
prefixes_have_members w = first (prefixes_at w) (λ p. not (has_member w.members p.member)) w.prefixes

abbrev pub origins_have_members : Rows → Option ℕ
origins_have_members w = first (origins_at w) (λ o. not (has_member w.members o.member)) w.origins

abbrev pub rules_have_members : Rows → Option ℕ
rules_have_members w = first (rules_at w) (λ r. not (has_member w.members r.member)) w.rules

abbrev pub rule_2_sentences : Rows → List (Option ℕ)
rule_2_sentences w =
    contacts_have_members w ∷ keys_have_owners w ∷ ports_have_switches w ∷ interfaces_have_ports w
    ∷ addresses_have_interfaces w
    ∷ routers_have_vlans w ∷ prefixes_have_members w ∷ origins_have_members w ∷ rules_have_members w ∷ []

abbrev pub rule_2 : Rows → Option ℕ
rule_2 w = earliest (rule_2_sentences w)

-- 3. Texts have their alphabet and length.
abbrev pub site_has_texts : Rows → Option ℕ
site_has_texts w = first site_at (λ s. not (is_note s.shortname)) (w.site ∷ [])

abbrev pub members_have_texts : Rows → Option ℕ
members_have_texts w = first members_at (λ m. not (is_macro m.as_macro && is_label m.name)) w.members

abbrev pub contacts_have_texts : Rows → Option ℕ
contacts_have_texts w = first (contacts_at w)
    (λ c. not (is_note c.role && is_note c.mail && is_label c.name)) w.contacts

abbrev pub keys_have_texts : Rows → Option ℕ
keys_have_texts w = first (keys_at w) (λ k. not (is_key_secret k.secret)) w.keys

abbrev pub switches_have_texts : Rows → Option ℕ
switches_have_texts w = first (switches_at w) (λ s. not (is_label s.name)) w.switches

abbrev pub ports_have_texts : Rows → Option ℕ
ports_have_texts w = first (ports_at w) (λ p. not (is_label p.name)) w.ports

abbrev pub vlans_have_texts : Rows → Option ℕ
vlans_have_texts w = first (vlans_at w) (λ v. not (is_label v.name)) w.vlans

abbrev pub addresses_have_texts : Rows → Option ℕ
addresses_have_texts w = first (addresses_at w) (λ a. not (is_session_secret a.address.secret)) w.addresses

abbrev pub routers_have_texts : Rows → Option ℕ
routers_have_texts w = first (routers_at w) (λ r. not (is_handle r.handle)) w.routers

abbrev pub rule_3_sentences : Rows → List (Option ℕ)
rule_3_sentences w =
    site_has_texts w ∷ members_have_texts w ∷ contacts_have_texts w ∷ keys_have_texts w
    ∷ switches_have_texts w
    ∷ ports_have_texts w ∷ vlans_have_texts w ∷ addresses_have_texts w ∷ routers_have_texts w ∷ []

abbrev pub rule_3 : Rows → Option ℕ
rule_3 w = earliest (rule_3_sentences w)

-- 4. No member and no router has a reserved AS number: 0 (RFC 7607), AS_TRANS (RFC 6793), or the last one
-- (RFC 7300). No router has a member's.
abbrev pub members_have_asns : Rows → Option ℕ
members_have_asns w = first members_at (λ m. is_reserved m.asn.0) w.members

abbrev pub routers_have_asns : Rows → Option ℕ
routers_have_asns w =
    first (routers_at w) (λ r. is_reserved r.asn.0 || list_any (λ m. m.asn.0 == r.asn.0) w.members) w.routers

abbrev pub rule_4_sentences : Rows → List (Option ℕ)
rule_4_sentences w = members_have_asns w ∷ routers_have_asns w ∷ []

abbrev pub rule_4 : Rows → Option ℕ
rule_4 w = earliest (rule_4_sentences w)

-- 5. VLAN prefixes don't overlap, their lengths are 8 to 30 (IPv4) and 32 to 126 (IPv6), and tags are 1 to
-- 4094.
abbrev pub vlans_lie_apart : Rows → Option ℕ
vlans_lie_apart w =
    first_with_earlier (vlans_at w)
    (λ earlier v. list_any (λ u. list_any (overlaps_any (vlan_prefixes u)) (vlan_prefixes v)) earlier
    || list_any (overlaps_any (listed v.v4)) (listed v.v6))
    w.vlans

abbrev pub vlans_have_bounds : Rows → Option ℕ
vlans_have_bounds w =
    first (vlans_at w) (λ v. not (list_all is_vlan_length (vlan_prefixes v) && nat_le 1 v.tag
    && nat_le v.tag 4094)) w.vlans

abbrev pub rule_5_sentences : Rows → List (Option ℕ)
rule_5_sentences w = vlans_lie_apart w ∷ vlans_have_bounds w ∷ []

abbrev pub rule_5 : Rows → Option ℕ
rule_5 w = earliest (rule_5_sentences w)

-- 6. An address is inside its VLAN's prefix of the family and isn't the first of it; in IPv4 it isn't the
-- last either.
abbrev pub addresses_are_hosts : Rows → Option ℕ
addresses_are_hosts w = first (addresses_at w)
    (λ a. not (is_host_at w.vlans w.interfaces a.interface a.address.addr)) w.addresses

abbrev pub routers_are_hosts : Rows → Option ℕ
routers_are_hosts w = first (routers_at w) (λ r. not (is_host_in w.vlans r.vlan r.family r.addr)) w.routers

abbrev pub rule_6_sentences : Rows → List (Option ℕ)
rule_6_sentences w = addresses_are_hosts w ∷ routers_are_hosts w ∷ []

abbrev pub rule_6 : Rows → Option ℕ
rule_6 w = earliest (rule_6_sentences w)

-- 7. No two interfaces or routers share an address, and no two API keys a secret.
abbrev pub secrets_differ : Rows → Option ℕ
secrets_differ w = first_beyond 1 (keys_at w) (map (λ k. k.secret) w.keys)

-- the routers' lines follow those of addresses
abbrev pub addresses_differ : Rows → Option ℕ
addresses_differ w =
    first_beyond 1 (addresses_at w)
    (map (λ a. addr_numbers a.address.addr) w.addresses ++ map (λ r. addr_numbers r.addr) w.routers)

abbrev pub rule_7_sentences : Rows → List (Option ℕ)
rule_7_sentences w = secrets_differ w ∷ addresses_differ w ∷ []

abbrev pub rule_7 : Rows → Option ℕ
rule_7 w = earliest (rule_7_sentences w)

-- 8. An interface's port belongs to its member.
abbrev pub ports_are_the_members : Rows → Option ℕ
ports_are_the_members w = first (interfaces_at w) (λ i. not (is_port_of w.ports i.port i.member)) w.interfaces

abbrev pub rule_8 : Rows → Option ℕ
rule_8 = ports_are_the_members

-- 9. A router's bounds are lengths of its family, the low one not above the high one.
abbrev pub routers_have_bounds : Rows → Option ℕ
routers_have_bounds w = first (routers_at w) (λ r. not (has_bounds r)) w.routers

abbrev pub rule_9 : Rows → Option ℕ
rule_9 = routers_have_bounds

-- 10. A VLAN's prefixes are of their family. (That lists ascend, without doubles, is what tables of rows
-- are.)
abbrev pub vlans_have_families : Rows → Option ℕ
vlans_have_families w = first (vlans_at w) (λ v. not (is_of V4 v.v4 && is_of V6 v.v6)) w.vlans

abbrev pub rule_10 : Rows → Option ℕ
rule_10 = vlans_have_families

-- 11. A member's rules have the places 1 to n and lawful actions, and a rule's peer is any or at least 1.
abbrev pub place_after : Option MemberRule → ℕ → ℕ
place_after None member = 1
place_after (Some last) member = if last.member == member then last.place + 1 else 1

abbrev pub rules_follow : Rows → Option ℕ
rules_follow w = first_beside (rules_at w) (λ last r. not (r.place == place_after last r.member)) w.rules

abbrev pub rules_are_lawful : Rows → Option ℕ
rules_are_lawful w = first (rules_at w) (λ r. not (is_lawful r)) w.rules

abbrev pub rule_11_sentences : Rows → List (Option ℕ)
rule_11_sentences w = rules_follow w ∷ rules_are_lawful w ∷ []

abbrev pub rule_11 : Rows → Option ℕ
rule_11 w = earliest (rule_11_sentences w)

-- 12. Bounds of bogon patterns, ranges of AS numbers and ROAs ascend, within the family.
abbrev pub bogons_have_bounds : Rows → Option ℕ
bogons_have_bounds w = first (bogons_at w) (λ b. not (pattern_has_bounds b)) w.public.bogons

abbrev pub bogon_as_have_bounds : Rows → Option ℕ
bogon_as_have_bounds w = first (bogon_as_at w) (λ r. not (range_ascends r)) w.public.bogon_as

abbrev pub roas_have_bounds : Rows → Option ℕ
roas_have_bounds w = first (roas_at w) (λ r. not (roa_has_bounds r)) w.public.roas

abbrev pub rule_12_sentences : Rows → List (Option ℕ)
rule_12_sentences w = bogons_have_bounds w ∷ bogon_as_have_bounds w ∷ roas_have_bounds w ∷ []

abbrev pub rule_12 : Rows → Option ℕ
rule_12 w = earliest (rule_12_sentences w)

-- 13. The limits.
abbrev pub owner_limits : Rows → List (Option ℕ)
owner_limits w =
    first_over 4000 members_at w.members ∷ first (keys_at w) (λ k. not (is_staff_number k.owner)) w.keys
    ∷ first_beyond 8 (keys_at w) (map (λ k. owner_numbers k.owner) w.keys)
    ∷ first_beyond 16 (contacts_at w) (map (λ c. c.member ∷ []) w.contacts) ∷ []

abbrev pub owners_are_few : Rows → Option ℕ
owners_are_few w = earliest (owner_limits w)

abbrev pub network_limits : Rows → List (Option ℕ)
network_limits w =
    first_over 256 (switches_at w) w.switches ∷ first_over 16384 (ports_at w) w.ports
    ∷ first_over 64 (vlans_at w) w.vlans
    ∷ first_over 8000 (interfaces_at w) w.interfaces
    ∷ first_beyond 16 (interfaces_at w) (map (λ i. i.member ∷ []) w.interfaces)
    ∷ first_over 16 (routers_at w) w.routers ∷ []

abbrev pub network_is_small : Rows → Option ℕ
network_is_small w = earliest (network_limits w)

abbrev pub list_limits : Rows → List (Option ℕ)
list_limits w =
    first_over 4000000 (prefixes_at w) w.prefixes
    ∷ first_beyond 300000 (prefixes_at w) (map (λ p. p.member ∷ version_of p.prefix.family ∷ []) w.prefixes)
    ∷ first_beyond 300000 (origins_at w) (map (λ o. o.member ∷ version_of o.family ∷ []) w.origins)
    ∷ first_beyond 64 (rules_at w) (map (λ r. r.member ∷ []) w.rules) ∷ []

abbrev pub lists_are_short : Rows → Option ℕ
lists_are_short w = earliest (list_limits w)

abbrev pub public_limits : Rows → List (Option ℕ)
public_limits w =
    first_over 10000 (bogons_at w) w.public.bogons ∷ first_over 10000 (bogon_as_at w) w.public.bogon_as
    ∷ first_over 10000 (transit_at w) w.public.transit ∷ first_over 1000000 (roas_at w) w.public.roas ∷ []

abbrev pub public_lists_are_short : Rows → Option ℕ
public_lists_are_short w = earliest (public_limits w)

-- what the sessions of an address make of one row of the member's list of the family: it has sessions where
-- it is for the route servers and its member, which is connected, is this one, and the list counts where the
-- address is held to it
abbrev pub row_weight : Rows → ℕ → Family → AddressRow → ℕ
row_weight w member family a =
    if_there (find interface_row_key (a.interface ∷ []) w.interfaces) 0
    (λ i. if i.member == member && same_family a.address.addr.family family && a.address.rs && a.address.irr
    && is_member_connected w.members member
    then vlan_weight w.routers i.vlan family else 0)

-- how often a row of the member's list of the family stands in the routers' sessions
abbrev pub list_weight : Rows → ℕ → Family → ℕ
list_weight w member family = total (row_weight w member family) w.addresses

abbrev pub sessions_are_light : Rows → Option ℕ
sessions_are_light w = first_heavy (λ p. list_weight w p.member p.prefix.family) 8000000
    (prefixes_at w) w.prefixes

abbrev pub rule_13_sentences : Rows → List (Option ℕ)
rule_13_sentences w =
    owners_are_few w ∷ network_is_small w ∷ lists_are_short w ∷ public_lists_are_short w
    ∷ sessions_are_light w ∷ []

abbrev pub rule_13 : Rows → Option ℕ
rule_13 w = earliest (rule_13_sentences w)

-- 14. A member that has left has no interface.
abbrev pub interfaces_have_no_left_member : Rows → Option ℕ
interfaces_have_no_left_member w = first (interfaces_at w) (λ i. has_left w.members i.member) w.interfaces

abbrev pub rule_14 : Rows → Option ℕ
rule_14 = interfaces_have_no_left_member

-- 15. A router's blackhole address (RFC 7999) is of its family, lies in its VLAN as an address of its own
-- might, and is no interface's or router's address; routers may share one. A router of AS 65535 has none,
-- since its BLACKHOLE community would be the well-known one. It bounds the communities of a route by at most
-- 1,000.
abbrev pub is_assigned : List AddressRow → Addr → Bool
is_assigned xs a = list_any (λ x. same_addr x.address.addr a) xs

-- the address is no router's up to this one, and no earlier router has this one's address for its blackhole
abbrev pub blackholes_meet : List Router → Router → Bool
blackholes_meet earlier r =
    list_any (λ q. has_blackhole r q.addr || has_blackhole q r.addr) earlier || has_blackhole r r.addr

abbrev pub blackholes_lie_apart : Rows → Option ℕ
blackholes_lie_apart w = first_with_earlier (routers_at w) blackholes_meet w.routers

abbrev pub may_be_blackhole : Rows → Router → Addr → Bool
may_be_blackhole w r b =
    same_family b.family r.family && is_host_in w.vlans r.vlan r.family b && not (is_assigned w.addresses b)
    && not (r.asn.0 == 65535)

abbrev pub routers_have_blackholes : Rows → Option ℕ
routers_have_blackholes w =
    first (routers_at w) (λ r. not (if_there r.blackhole true (may_be_blackhole w r)
    && nat_le r.max_comms 1000)) w.routers

abbrev pub rule_15_sentences : Rows → List (Option ℕ)
rule_15_sentences w = blackholes_lie_apart w ∷ routers_have_blackholes w ∷ []

abbrev pub rule_15 : Rows → Option ℕ
rule_15 w = earliest (rule_15_sentences w)

-- the rules in their order
abbrev pub rules : Rows → List (Option ℕ)
rules w =
    rule_1 w ∷ rule_2 w ∷ rule_3 w ∷ rule_4 w ∷ rule_5 w ∷ rule_6 w ∷ rule_7 w ∷ rule_8 w ∷ rule_9 w
    ∷ rule_10 w ∷ rule_11 w
    ∷ rule_12 w ∷ rule_13 w ∷ rule_14 w ∷ rule_15 w ∷ []
