-- Bodies that are lists, one item a line, or CSV.
use Rattle.std.specs.Prelude.{◌≡◌, ℕ, List, Result, Ok, Err}
use Rattle.ixp_num.specs.declared.asn.Asn.{Asn}
use Rattle.ixp_num.specs.declared.pattern.Pattern.{Pattern}
use Rattle.ixp_num.specs.declared.prefix.Prefix.{Prefix}
use Rattle.ixp_num.specs.declared.roa.Roa.{Roa}
use Rattle.ixp_num_sorted.specs.Keys.{prefix_key, pattern_key, asn_key, range_key}
use Rattle.ixp_irr.specs.declared.fault.ListFault.{ListFault}
use Rattle.ixp_irr.specs.declared.fault.ListFault.TheVariants as list_fault
use Rattle.ixp_irr.specs.Items.{IsPatternText, IsAsnText, IsRangeText, Says, SaysPrefixOf}
use Rattle.ixp_irr.specs.Lists.{ListAnswer}
use Rattle.ixp_roa.specs.declared.fault.RoaFault.{RoaFault}
use Rattle.ixp_roa.specs.declared.fault.RoaFault.TheVariants as roa_fault
use Rattle.ixp_roa.specs.CsvRoas.{CsvAnswer}
use Rattle.ixp_machine_edits.specs.declared.edit.Edit.{Edit}
use Rattle.ixp_machine_edits.specs.declared.edit.Edit.TheVariants as edit
use Rattle.ixp_registry_change.specs.declared.change.PublicList.TheVariants as public
use Rattle.ixp_api_json.specs.declared.pointer.CallFault.{CallFault}
use Rattle.ixp_api_json.specs.declared.pointer.CallFault.TheVariants.{BadBody, NoMemory}
use Rattle.ixp_api_json.specs.declared.pointer.Pointer.TheVariants.{Line, Lines}
use Rattle.ixp_api_paths.specs.declared.table.Args.{Args}
use Rattle.ixp_api_paths.specs.declared.table.ListName.{ListName}
use Rattle.ixp_api_paths.specs.declared.table.ListName.TheVariants as list
use Rattle.ixp_api_bodies.specs.Edits.{Said}

-- the line of a list that is wrong, or how many items there are
abbrev pub list_fault_of : ListFault → CallFault
list_fault_of (list_fault.Line n) = BadBody (Line n)
list_fault_of (list_fault.Family n) = BadBody (Line n)
list_fault_of (list_fault.TooLong have) = BadBody (Lines have)
list_fault_of list_fault.NoMemory = NoMemory

abbrev pub roa_fault_of : RoaFault → CallFault
roa_fault_of (roa_fault.Row n) = BadBody (Line n)
roa_fault_of (roa_fault.MaxLength n) = BadBody (Line n)
roa_fault_of (roa_fault.TooMany have) = BadBody (Lines have)
roa_fault_of roa_fault.NoMemory = NoMemory

abbrev pub made : {A E : Type 0} → (E → CallFault) → (A → Edit) → Result A E → Said
made fault make (Ok x) = Ok (make x)
made fault make (Err e) = Err (fault e)

abbrev pub PutIrr : Args → List ℕ → Said → Type 0
PutIrr args body r =
    (x : Result (List Prefix) ListFault) × ListAnswer (SaysPrefixOf args.family) prefix_key body x
    × (r ≡ made list_fault_of (edit.PutIrr args.row args.family) x)

abbrev pub PutOrigins : Args → List ℕ → Said → Type 0
PutOrigins args body r =
    (x : Result (List Asn) ListFault) × ListAnswer (Says IsAsnText) asn_key body x
    × (r ≡ made list_fault_of (edit.PutOrigins args.row args.family) x)

abbrev pub PutBogons : List ℕ → Said → Type 0
PutBogons body r =
    (x : Result (List Pattern) ListFault) × ListAnswer (Says IsPatternText) pattern_key body x
    × (r ≡ made list_fault_of (λ items. edit.PutPublic (public.Bogons items)) x)

abbrev pub PutBogonAs : List ℕ → Said → Type 0
PutBogonAs body r =
    (x : Result (List (Asn × Asn)) ListFault) × ListAnswer (Says IsRangeText) range_key body x
    × (r ≡ made list_fault_of (λ items. edit.PutPublic (public.BogonAs items)) x)

abbrev pub PutTransit : List ℕ → Said → Type 0
PutTransit body r =
    (x : Result (List Asn) ListFault) × ListAnswer (Says IsAsnText) asn_key body x
    × (r ≡ made list_fault_of (λ items. edit.PutPublic (public.Transit items)) x)

abbrev pub PutRoas : List ℕ → Said → Type 0
PutRoas body r =
    (x : Result (List Roa) RoaFault) × CsvAnswer body x
    × (r ≡ made roa_fault_of (λ items. edit.PutPublic (public.Roas items)) x)

abbrev pub PutPublicList : ListName → List ℕ → Said → Type 0
PutPublicList list.Bogons body r = PutBogons body r
PutPublicList list.BogonAs body r = PutBogonAs body r
PutPublicList list.Transit body r = PutTransit body r
PutPublicList list.Roas body r = PutRoas body r

abbrev pub PutPublic : Args → List ℕ → Said → Type 0
PutPublic args body r = PutPublicList args.list body r
