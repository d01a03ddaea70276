-- Each kind of edits keeps a registry valid.
use Rattle.std.proofs.Common.{◌≡◌, None}
use Rattle.ixp_registry.specs.declared.registry.Registry.{Registry}
use Rattle.ixp_registry.specs.Valid.{Valid}
use Rattle.ixp_machine_edits.specs.declared.edit.Edit.{Edit}
use Rattle.ixp_machine_edits.specs.declared.edit.Edit.TheVariants.{AddMember, RenameMember, MoveStatus, SetMacro, PutContact, DropContact, AddKey, DropKey, AddSwitch, DropSwitch, AddPort, AssignPort, FreePort, DropPort, AddVlan, DropVlan, AddInterface, SetAddress, DropInterface, AddRouter, SetRouter, DropRouter, PutIrr, PutOrigins, SetRules, PutPublic}
use Rattle.ixp_machine_edits.specs.Edits.{next, refusal, IsLawful}
use Rattle.ixp_machine_edits.specs.Interfaces.{new_vlan}
use Rattle.ixp_machine_edits.specs.Routers.{new_router}
use Rattle.ixp_machine_edits.proofs.MemberEdits.{member_added, member_renamed, status_moved, macro_set}
use Rattle.ixp_machine_edits.proofs.ContactEdits.{contact_put, contact_dropped}
use Rattle.ixp_machine_edits.proofs.KeyEdits.{key_added, key_dropped}
use Rattle.ixp_machine_edits.proofs.PortEdits.{switch_added, switch_dropped, port_added, port_assigned, port_freed, port_dropped}
use Rattle.ixp_machine_edits.proofs.VlanEdits.{vlan_added, vlan_dropped}
use Rattle.ixp_machine_edits.proofs.InterfaceEdits.{interface_added, interface_dropped}
use Rattle.ixp_machine_edits.proofs.AddressEdits.{address_set}
use Rattle.ixp_machine_edits.proofs.RouterEdits.{router_added, router_set, router_dropped}
use Rattle.ixp_machine_edits.proofs.ListEdits.{irr_put, origins_put, rules_set, public_put}

pub still_valid : (r : Registry) (e : Edit) → Valid r → IsLawful e → refusal r e ≡ None → Valid (next r e)
still_valid r (AddMember number asn name) s fits ok = member_added r number asn name fits s ok
still_valid r (RenameMember member name) s fits ok = member_renamed r member name fits s ok
still_valid r (MoveStatus member to) s fits ok = status_moved r member to s ok
still_valid r (SetMacro member as_macro) s fits ok = macro_set r member as_macro fits s ok
still_valid r (PutContact member place name mail role) s fits ok = contact_put r member place name mail role fits s ok
still_valid r (DropContact member place) s fits ok = contact_dropped r member place s
still_valid r (AddKey number secret owner) s fits ok = key_added r number secret owner fits s ok
still_valid r (DropKey key) s fits ok = key_dropped r key s
still_valid r (AddSwitch number name) s fits ok = switch_added r number name fits s ok
still_valid r (DropSwitch switch) s fits ok = switch_dropped r switch s ok
still_valid r (AddPort number switch name speed) s fits ok = port_added r number switch name speed fits s ok
still_valid r (AssignPort port member) s fits ok = port_assigned r port member fits s ok
still_valid r (FreePort port) s fits ok = port_freed r port s ok
still_valid r (DropPort port) s fits ok = port_dropped r port s ok
still_valid r (AddVlan number name tag v4 v6) s fits ok = vlan_added r (new_vlan number name tag v4 v6) fits s ok
still_valid r (DropVlan vlan) s fits ok = vlan_dropped r vlan s ok
still_valid r (AddInterface number member port vlan) s fits ok = interface_added r number member port vlan fits s ok
still_valid r (SetAddress interface family address) s fits ok = address_set r interface family address fits s ok
still_valid r (DropInterface interface) s fits ok = interface_dropped r interface s
still_valid r (AddRouter handle vlan family address x) s fits ok = router_added r (new_router handle vlan family address x) (fits.0, fits.1.0, fits.1.1, fits.1.2, fits.1.3, fits.1.4) s ok
still_valid r (SetRouter handle x) s fits ok = router_set r handle x fits s ok
still_valid r (DropRouter handle) s fits ok = router_dropped r handle s
still_valid r (PutIrr member family prefixes) s fits ok = irr_put r member family prefixes fits s ok
still_valid r (PutOrigins member family asns) s fits ok = origins_put r member family asns fits s ok
still_valid r (SetRules member rules) s fits ok = rules_set r member rules fits s ok
still_valid r (PutPublic list) s fits ok = public_put r list fits s ok
