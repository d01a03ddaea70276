-- Which edit a body says, of each kind of edits.
use Rattle.std.specs.Prelude.{◌≡◌, ℕ, List, Ok}
use Rattle.serde_json.specs.Data.{Data}
use Rattle.ixp_registry.specs.declared.edit_kind.EditKind.{EditKind}
use Rattle.ixp_registry.specs.declared.edit_kind.EditKind.TheVariants as kind
use Rattle.ixp_machine_edits.specs.declared.edit.Edit.TheVariants as edit
use Rattle.ixp_api_paths.specs.declared.table.Args.{Args}
use Rattle.ixp_api_bodies.specs.Answers.{ThenSays}
use Rattle.ixp_api_bodies.specs.Values.{object_of, objects_of}
use Rattle.ixp_api_bodies.specs.Edits.{Said, add_member, rename_member, move_status, set_macro, put_contact, add_key, add_switch, add_port, assign_port, AddVlan, add_interface, SetAddress, AddRouter, SetRouter, drop_router}
use Rattle.ixp_api_bodies.specs.Rules.{SetRules}
use Rattle.ixp_api_bodies.specs.Lists.{PutIrr, PutOrigins, PutPublic}

-- what is said of the object that the body is
abbrev pub Object : List ℕ → (Data → Said → Type 0) → Said → Type 0
Object body Says r = ThenSays (object_of body) Says r

-- The edit that the body says, with what stands in the path, or what is wrong with it. Where an edit has no
-- body, none is read.
abbrev pub SaysEdit : EditKind → Args → List ℕ → Said → Type 0
SaysEdit kind.AddMember args body r = Object body (λ d x. x ≡ add_member d) r
SaysEdit kind.RenameMember args body r = Object body (λ d x. x ≡ rename_member args d) r
SaysEdit kind.MoveStatus args body r = Object body (λ d x. x ≡ move_status args d) r
SaysEdit kind.SetMacro args body r = Object body (λ d x. x ≡ set_macro args d) r
SaysEdit kind.PutContact args body r = Object body (λ d x. x ≡ put_contact args d) r
SaysEdit kind.DropContact args body r = r ≡ Ok (edit.DropContact args.row args.place)
SaysEdit kind.AddKey args body r = Object body (λ d x. x ≡ add_key d) r
SaysEdit kind.DropKey args body r = r ≡ Ok (edit.DropKey args.row)
SaysEdit kind.AddSwitch args body r = Object body (λ d x. x ≡ add_switch d) r
SaysEdit kind.DropSwitch args body r = r ≡ Ok (edit.DropSwitch args.row)
SaysEdit kind.AddPort args body r = Object body (λ d x. x ≡ add_port d) r
SaysEdit kind.AssignPort args body r = Object body (λ d x. x ≡ assign_port args d) r
SaysEdit kind.FreePort args body r = r ≡ Ok (edit.FreePort args.row)
SaysEdit kind.DropPort args body r = r ≡ Ok (edit.DropPort args.row)
SaysEdit kind.AddVlan args body r = Object body (λ d x. AddVlan d x) r
SaysEdit kind.DropVlan args body r = r ≡ Ok (edit.DropVlan args.row)
SaysEdit kind.AddInterface args body r = Object body (λ d x. x ≡ add_interface d) r
SaysEdit kind.SetAddress args body r = Object body (λ d x. SetAddress args d x) r
SaysEdit kind.DropInterface args body r = r ≡ Ok (edit.DropInterface args.row)
SaysEdit kind.AddRouter args body r = Object body (λ d x. AddRouter d x) r
SaysEdit kind.SetRouter args body r = Object body (λ d x. SetRouter args d x) r
SaysEdit kind.DropRouter args body r = r ≡ drop_router args
SaysEdit kind.PutIrr args body r = PutIrr args body r
SaysEdit kind.PutOrigins args body r = PutOrigins args body r
SaysEdit kind.SetRules args body r = ThenSays (objects_of body) (λ d x. SetRules args d x) r
SaysEdit kind.PutPublic args body r = PutPublic args body r
