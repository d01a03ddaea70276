-- What an accepted edit does, and why an edit is refused.
use Rattle.std.specs.Prelude.{◌≡◌, [], ◌∷◌, Option, IfSome}
use Rattle.std.specs.List.{AllByRecursion}
use Rattle.ixp_num_tables.specs.Tables.{Ascends, find}
use Rattle.ixp_num_sorted.specs.Keys.{prefix_key, pattern_key, range_key, asn_key, roa_key}
use Rattle.ixp_registry.specs.declared.refusal.Refusal.{Refusal}
use Rattle.ixp_registry.specs.declared.registry.Registry.{Registry}
use Rattle.ixp_registry.specs.Widths.{IsNumber, AreBytes, owner_number, AddressFits, AsnFits, RangeFits, RoaFits}
use Rattle.ixp_machine_edits.specs.declared.edit.Edit.{Edit}
use Rattle.ixp_machine_edits.specs.declared.edit.Edit.TheVariants.{AddMember, RenameMember, MoveStatus, SetMacro, PutContact, DropContact, AddKey, DropKey, AddSwitch, DropSwitch, AddPort, AssignPort, FreePort, DropPort, AddVlan, DropVlan, AddInterface, SetAddress, DropInterface, AddRouter, SetRouter, DropRouter, PutIrr, PutOrigins, SetRules, PutPublic}
use Rattle.ixp_registry.specs.Keys.{member_key, port_key, interface_key, router_key}
use Rattle.ixp_registry_change.specs.declared.change.PublicList.{PublicList}
use Rattle.ixp_registry_change.specs.declared.change.RegistryChange.{RegistryChange}
use Rattle.ixp_registry_change.specs.declared.change.RegistryChange.TheVariants as of
use Rattle.ixp_registry_change.specs.declared.change.TableChange.TheVariants.{Put, Take}
use Rattle.ixp_registry_change.specs.Changes.{changed_row, row_or_none, with_public}
use Rattle.ixp_registry_change.specs.declared.change.PublicList.TheVariants.{Bogons, BogonAs, Transit, Roas}
use Rattle.ixp_machine_edits.specs.declared.edit.RouterSettings.{RouterSettings}
use Rattle.ixp_machine_edits.specs.declared.edit.NewRule.{NewRule}
use Rattle.ixp_machine_edits.specs.Tests.{Tests, first_refused}
use Rattle.ixp_machine_edits.specs.Members.{new_member, with_member, add_member_tests, renamed, rename_member_tests, with_status, move_status_tests, with_macro, set_macro_tests, new_contact, with_contact, put_contact_tests, without_contact, drop_contact_tests}
use Rattle.ixp_machine_edits.specs.ApiKeys.{with_key, add_key_tests, without_key, drop_key_tests}
use Rattle.ixp_machine_edits.specs.Ports.{with_switch, add_switch_tests, without_switch, drop_switch_tests, new_port, with_port, add_port_tests, assigned, assign_port_tests, freed, idle_port_tests, without_port}
use Rattle.ixp_machine_edits.specs.Interfaces.{new_vlan, with_vlan, add_vlan_tests, without_vlan, drop_vlan_tests, new_interface, with_interface, add_interface_tests, addressed, with_address, set_address_tests, without_interface, drop_interface_tests}
use Rattle.ixp_machine_edits.specs.Routers.{new_router, with_router, add_router_tests, with_settings, set_routers, set_router_tests, without_router, drop_router_tests}
use Rattle.ixp_machine_edits.specs.Lists.{with_prefixes, put_irr_tests, with_origins, put_origins_tests, placed, with_rules, set_rules_tests, put_public_tests}

-- The registry after an edit that is accepted: one table changes, and all others stay.
abbrev pub next : Registry → Edit → Registry
next r (AddMember number asn name) = record r { members = with_member number asn name r.members }
next r (RenameMember member name) = record r { members = renamed member name r.members }
next r (MoveStatus member to) = record r { members = with_status member to r.members }
next r (SetMacro member as_macro) = record r { members = with_macro member as_macro r.members }
next r (PutContact member place name mail role) =
    record r { contacts = with_contact member place name mail role r.contacts }
next r (DropContact member place) = record r { contacts = without_contact member place r.contacts }
next r (AddKey number secret owner) = record r { keys = with_key number secret owner r.keys }
next r (DropKey key) = record r { keys = without_key key r.keys }
next r (AddSwitch number name) = record r { switches = with_switch number name r.switches }
next r (DropSwitch switch) = record r { switches = without_switch switch r.switches }
next r (AddPort number switch name speed) = record r { ports = with_port number switch name speed r.ports }
next r (AssignPort port member) = record r { ports = assigned port member r.ports }
next r (FreePort port) = record r { ports = freed port r.ports }
next r (DropPort port) = record r { ports = without_port port r.ports }
next r (AddVlan number name tag v4 v6) =
    record r { vlans = with_vlan (new_vlan number name tag v4 v6) r.vlans }
next r (DropVlan vlan) = record r { vlans = without_vlan vlan r.vlans }
next r (AddInterface number member port vlan) =
    record r { interfaces = with_interface number member port vlan r.interfaces }
next r (SetAddress interface family address) =
    record r { interfaces = with_address interface family address r.interfaces }
next r (DropInterface interface) = record r { interfaces = without_interface interface r.interfaces }
next r (AddRouter handle vlan family address settings) =
    record r { routers = with_router (new_router handle vlan family address settings) r.routers }
next r (SetRouter handle settings) = record r { routers = set_routers handle settings r.routers }
next r (DropRouter handle) = record r { routers = without_router handle r.routers }
next r (PutIrr member family prefixes) = record r { irr = with_prefixes member family prefixes r.irr }
next r (PutOrigins member family asns) = record r { origins = with_origins member family asns r.origins }
next r (SetRules member rules) = record r { rules = with_rules member rules r.rules }
next r (PutPublic list) = record r { public = with_public list r.public }

-- What an accepted edit comes to: the one table of the registry that changes, and its row.
abbrev pub change : Registry → Edit → RegistryChange
change r (AddMember number asn name) = of.Members (Put (new_member number asn name))
change r (RenameMember member name) =
    of.Members (changed_row (λ m. record m { name = name }) (find member_key (member ∷ []) r.members))
change r (MoveStatus member to) =
    of.Members (changed_row (λ m. record m { status = to }) (find member_key (member ∷ []) r.members))
change r (SetMacro member as_macro) =
    of.Members (changed_row (λ m. record m { as_macro = as_macro }) (find member_key (member ∷ []) r.members))
change r (PutContact member place name mail role) =
    of.Contacts (Put (new_contact member place name mail role))
change r (DropContact member place) = of.Contacts (Take (member, place))
change r (AddKey number secret owner) =
    of.Keys (Put (record { number = number; owner = owner; secret = secret }))
change r (DropKey key) = of.Keys (Take key)
change r (AddSwitch number name) = of.Switches (Put (record { number = number; name = name }))
change r (DropSwitch switch) = of.Switches (Take switch)
change r (AddPort number switch name speed) = of.Ports (Put (new_port number switch name speed))
change r (AssignPort port member) =
    of.Ports (changed_row (λ p. record p { member = member }) (find port_key (port ∷ []) r.ports))
change r (FreePort port) =
    of.Ports (changed_row (λ p. record p { member = 0 }) (find port_key (port ∷ []) r.ports))
change r (DropPort port) = of.Ports (Take port)
change r (AddVlan number name tag v4 v6) = of.Vlans (Put (new_vlan number name tag v4 v6))
change r (DropVlan vlan) = of.Vlans (Take vlan)
change r (AddInterface number member port vlan) = of.Interfaces (Put (new_interface number member port vlan))
change r (SetAddress interface family address) =
    of.Interfaces (changed_row (addressed family address) (find interface_key (interface ∷ []) r.interfaces))
change r (DropInterface interface) = of.Interfaces (Take interface)
change r (AddRouter handle vlan family address settings) =
    of.Routers (Put (new_router handle vlan family address settings))
change r (SetRouter handle settings) =
    of.Routers (changed_row (with_settings settings) (find router_key handle r.routers))
change r (DropRouter handle) = of.Routers (Take handle)
change r (PutIrr member family prefixes) = of.Irr (row_or_none
    (record { member = member; family = family; prefixes = prefixes }) (member, family) prefixes)
change r (PutOrigins member family asns) =
    of.Origins (row_or_none (record { member = member; family = family; asns = asns }) (member, family) asns)
change r (SetRules member rules) =
    of.Rules (row_or_none (record { member = member; rules = placed member 1 rules }) member rules)
change r (PutPublic list) = of.Public list

-- What each test of an edit says, in the order of their codes, X4 to X16.
abbrev pub tests : Registry → Edit → Tests
tests r (AddMember number asn name) = add_member_tests r number asn name
tests r (RenameMember member name) = rename_member_tests r member name
tests r (MoveStatus member to) = move_status_tests r member to
tests r (SetMacro member as_macro) = set_macro_tests r member as_macro
tests r (PutContact member place name mail role) = put_contact_tests r member place name mail role
tests r (DropContact member place) = drop_contact_tests r member place
tests r (AddKey number secret owner) = add_key_tests r number secret owner
tests r (DropKey key) = drop_key_tests r key
tests r (AddSwitch number name) = add_switch_tests r number name
tests r (DropSwitch switch) = drop_switch_tests r switch
tests r (AddPort number switch name speed) = add_port_tests r number switch name speed
tests r (AssignPort port member) = assign_port_tests r port member
tests r (FreePort port) = idle_port_tests r port
tests r (DropPort port) = idle_port_tests r port
tests r (AddVlan number name tag v4 v6) = add_vlan_tests r (new_vlan number name tag v4 v6)
tests r (DropVlan vlan) = drop_vlan_tests r vlan
tests r (AddInterface number member port vlan) = add_interface_tests r number member port vlan
tests r (SetAddress interface family address) = set_address_tests r interface family address
tests r (DropInterface interface) = drop_interface_tests r interface
tests r (AddRouter handle vlan family address settings) =
    add_router_tests r (new_router handle vlan family address settings)
tests r (SetRouter handle settings) = set_router_tests r handle settings
tests r (DropRouter handle) = drop_router_tests r handle
tests r (PutIrr member family prefixes) = put_irr_tests r member family prefixes
tests r (PutOrigins member family asns) = put_origins_tests r member family asns
tests r (SetRules member rules) = set_rules_tests r member rules
tests r (PutPublic list) = put_public_tests list

-- The refusal of an edit by what it says: the lowest code that stands.
abbrev pub refusal : Registry → Edit → Option Refusal
refusal r e = first_refused (tests r e)

abbrev pub SettingsFit : RouterSettings → Type 0
SettingsFit s = AsnFits s.asn × IsNumber s.id × IsNumber s.low × IsNumber s.high × IsNumber s.max_comms

abbrev pub NewRuleFits : NewRule → Type 0
NewRuleFits x = IfSome x.peer (λ p. IsNumber p.0)

abbrev pub IsPublicList : PublicList → Type 0
IsPublicList (Bogons xs) = Ascends pattern_key xs
IsPublicList (BogonAs xs) = Ascends range_key xs × AllByRecursion RangeFits xs
IsPublicList (Transit xs) = Ascends asn_key xs × AllByRecursion AsnFits xs
IsPublicList (Roas xs) = Ascends roa_key xs × AllByRecursion RoaFits xs

-- What the type of an edit keeps: numbers of 32 bits, bytes, lists that ascend; and the prefixes of a list
-- are of its family.
abbrev pub IsLawful : Edit → Type 0
IsLawful (AddMember number asn name) = IsNumber number × AsnFits asn × AreBytes name
IsLawful (RenameMember member name) = AreBytes name
IsLawful (MoveStatus member to) = Unit {0}
IsLawful (SetMacro member as_macro) = AreBytes as_macro
IsLawful (PutContact member place name mail role) =
    IsNumber member × IsNumber place × AreBytes role × AreBytes mail × AreBytes name
IsLawful (DropContact member place) = Unit {0}
IsLawful (AddKey number secret owner) = IsNumber number × IsNumber (owner_number owner)
IsLawful (DropKey key) = Unit {0}
IsLawful (AddSwitch number name) = IsNumber number × AreBytes name
IsLawful (DropSwitch switch) = Unit {0}
IsLawful (AddPort number switch name speed) =
    IsNumber number × IsNumber switch × IsNumber speed × AreBytes name
IsLawful (AssignPort port member) = IsNumber member
IsLawful (FreePort port) = Unit {0}
IsLawful (DropPort port) = Unit {0}
IsLawful (AddVlan number name tag v4 v6) = IsNumber number × IsNumber tag × AreBytes name
IsLawful (DropVlan vlan) = Unit {0}
IsLawful (AddInterface number member port vlan) =
    IsNumber number × IsNumber member × IsNumber port × IsNumber vlan
IsLawful (SetAddress interface family address) = AddressFits address
IsLawful (DropInterface interface) = Unit {0}
IsLawful (AddRouter handle vlan family address settings) = IsNumber vlan × SettingsFit settings
IsLawful (SetRouter handle settings) = SettingsFit settings
IsLawful (DropRouter handle) = Unit {0}
IsLawful (PutIrr member family prefixes) =
    IsNumber member × Ascends prefix_key prefixes × AllByRecursion (λ p. p.family ≡ family) prefixes
IsLawful (PutOrigins member family asns) =
    IsNumber member × Ascends asn_key asns × AllByRecursion AsnFits asns
IsLawful (SetRules member rules) = IsNumber member × AllByRecursion NewRuleFits rules
IsLawful (PutPublic list) = IsPublicList list
