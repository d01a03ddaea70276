-- What a body says, kind by kind: the fields are tested in the order in which they stand here, and the first
-- that isn't of its kind is the fault. Further fields don't matter.
use Rattle.std.specs.Prelude.{◌≡◌, ℕ, List, Option, Some, None, Result, Ok, Err}
use Rattle.serde_json.specs.Data.{Data}
use Rattle.ixp_num.specs.declared.addr.Addr.{Addr}
use Rattle.ixp_num.specs.declared.prefix.Prefix.{Prefix}
use Rattle.ixp_registry.specs.declared.members.Owner.{Owner}
use Rattle.ixp_registry.specs.declared.members.Owner.TheVariants as owner
use Rattle.ixp_machine_edits.specs.declared.edit.Edit.{Edit}
use Rattle.ixp_machine_edits.specs.declared.edit.Edit.TheVariants as edit
use Rattle.ixp_machine_edits.specs.declared.edit.RouterSettings.{RouterSettings}
use Rattle.ixp_api_json.specs.declared.field.Field.TheVariants as field
use Rattle.ixp_api_json.specs.declared.pointer.CallFault.{CallFault}
use Rattle.ixp_api_json.specs.declared.pointer.CallFault.TheVariants.{NoPath}
use Rattle.ixp_api_json.specs.declared.pointer.Pointer.TheVariants.{At}
use Rattle.ixp_api_json.specs.declared.words.OwnerKind.{OwnerKind}
use Rattle.ixp_api_json.specs.declared.words.OwnerKind.TheVariants as kind
use Rattle.ixp_api_paths.specs.declared.table.Args.{Args}
use Rattle.ixp_api_bodies.specs.Answers.{must, read_then}
use Rattle.ixp_api_bodies.specs.Values.{number, text, flag, status_in, owner_kind_in, family_in, number_or_zero, AddressIn, IdentifierIn, PrefixOrNull, AddressOrNothing}

abbrev pub Said : Type 0
Said = Result Edit CallFault

-- ---- members

abbrev pub add_member : Data → Said
add_member d =
    read_then (number field.Number d) (λ n.
    read_then (number field.Asn d) (λ asn.
    read_then (text field.Name d) (λ name.
    Ok (edit.AddMember n (record { 0 = asn }) name))))

abbrev pub rename_member : Args → Data → Said
rename_member args d = read_then (text field.Name d) (λ name. Ok (edit.RenameMember args.row name))

abbrev pub move_status : Args → Data → Said
move_status args d = read_then (must (At field.To) (status_in field.To d))
    (λ to. Ok (edit.MoveStatus args.row to))

abbrev pub set_macro : Args → Data → Said
set_macro args d = read_then (text field.Macro d) (λ as_macro. Ok (edit.SetMacro args.row as_macro))

abbrev pub put_contact : Args → Data → Said
put_contact args d =
    read_then (text field.Name d) (λ name.
    read_then (text field.Mail d) (λ mail.
    read_then (text field.Role d) (λ role.
    Ok (edit.PutContact args.row args.place name mail role))))

abbrev pub owner_of : OwnerKind → ℕ → Owner
owner_of kind.Staff n = owner.Staff n
owner_of kind.Member n = owner.Member n

abbrev pub add_key : Data → Said
add_key d =
    read_then (number field.Number d) (λ n.
    read_then (text field.Secret d) (λ secret.
    read_then (must (At field.Kind) (owner_kind_in field.Kind d)) (λ k.
    read_then (number field.Owner d) (λ o.
    Ok (edit.AddKey n secret (owner_of k o))))))

-- ---- the network

abbrev pub add_switch : Data → Said
add_switch d =
    read_then (number field.Number d) (λ n.
    read_then (text field.Name d) (λ name.
    Ok (edit.AddSwitch n name)))

abbrev pub add_port : Data → Said
add_port d =
    read_then (number field.Number d) (λ n.
    read_then (number field.Switch d) (λ switch.
    read_then (text field.Name d) (λ name.
    read_then (number field.Speed d) (λ speed.
    Ok (edit.AddPort n switch name speed)))))

abbrev pub assign_port : Args → Data → Said
assign_port args d = read_then (number field.Member d) (λ member. Ok (edit.AssignPort args.row member))

abbrev pub add_vlan : Option (Option Prefix) → Option (Option Prefix) → Data → Said
add_vlan v4 v6 d =
    read_then (number field.Number d) (λ n.
    read_then (text field.Name d) (λ name.
    read_then (number field.Tag d) (λ tag.
    read_then (must (At field.V4) v4) (λ four.
    read_then (must (At field.V6) v6) (λ six.
    Ok (edit.AddVlan n name tag four six))))))

abbrev pub AddVlan : Data → Said → Type 0
AddVlan d r = (v4 v6 : Option (Option Prefix)) × PrefixOrNull field.V4 d v4 × PrefixOrNull field.V6 d v6
    × (r ≡ add_vlan v4 v6 d)

abbrev pub add_interface : Data → Said
add_interface d =
    read_then (number field.Number d) (λ n.
    read_then (number field.Member d) (λ member.
    read_then (number field.Port d) (λ port.
    read_then (number field.Vlan d) (λ vlan.
    Ok (edit.AddInterface n member port vlan)))))

abbrev pub set_address : Args → Option Addr → Data → Said
set_address args address d =
    read_then (must (At field.Address) address) (λ a.
    read_then (text field.Secret d) (λ secret.
    read_then (number field.MaxPrefix d) (λ max_prefix.
    read_then (flag field.Rs d) (λ rs.
    read_then (flag field.Irr d) (λ irr.
    read_then (flag field.More d) (λ more.
    Ok (edit.SetAddress args.row args.family
    (record { addr = a; max_prefix = max_prefix; rs = rs; irr = irr; more = more; secret = secret }))))))))

abbrev pub SetAddress : Args → Data → Said → Type 0
SetAddress args d r = (a : Option Addr) × AddressIn field.Address d a × (r ≡ set_address args a d)

-- ---- routers

abbrev pub settings : Option ℕ → Option (Option Addr) → Data → Result RouterSettings CallFault
settings id blackhole d =
    read_then (number field.Asn d) (λ asn.
    read_then (must (At field.Id) id) (λ i.
    read_then (number field.Low d) (λ low.
    read_then (number field.High d) (λ high.
    read_then (flag field.Rpki d) (λ rpki.
    read_then (must (At field.Blackhole) blackhole) (λ b.
    read_then (must (At field.MaxComms) (number_or_zero field.MaxComms d)) (λ max_comms.
    Ok (record { asn = record { 0 = asn }; id = i; low = low; high = high; rpki = rpki; blackhole = b; max_comms = max_comms }))))))))

-- the settings of a router; `blackhole` and `max_comms` may be left out
abbrev pub Settings : Data → Result RouterSettings CallFault → Type 0
Settings d r = (id : Option ℕ) × (blackhole : Option (Option Addr)) × IdentifierIn field.Id d id
    × AddressOrNothing field.Blackhole d blackhole × (r ≡ settings id blackhole d)

abbrev pub add_router : Option Addr → Result RouterSettings CallFault → Data → Said
add_router address s d =
    read_then (text field.Handle d) (λ handle.
    read_then (number field.Vlan d) (λ vlan.
    read_then (must (At field.Family) (family_in field.Family d)) (λ family.
    read_then (must (At field.Address) address) (λ a.
    read_then s (λ router_settings.
    Ok (edit.AddRouter handle vlan family a router_settings))))))

abbrev pub AddRouter : Data → Said → Type 0
AddRouter d r = (a : Option Addr) × (s : Result RouterSettings CallFault) × AddressIn field.Address d a
    × Settings d s × (r ≡ add_router a s d)

-- the router that the path names
abbrev pub handle_in : Option (List ℕ) → Result (List ℕ) CallFault
handle_in None = Err NoPath
handle_in (Some handle) = Ok handle

abbrev pub set_router : Args → Result RouterSettings CallFault → Said
set_router args s =
    read_then (handle_in args.router) (λ handle.
    read_then s (λ router_settings.
    Ok (edit.SetRouter handle router_settings)))

abbrev pub SetRouter : Args → Data → Said → Type 0
SetRouter args d r = (s : Result RouterSettings CallFault) × Settings d s × (r ≡ set_router args s)

abbrev pub drop_router : Args → Said
drop_router args = read_then (handle_in args.router) (λ handle. Ok (edit.DropRouter handle))
