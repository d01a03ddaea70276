-- What an edit that is accepted is about is a subject of its kind.
use Rattle.std.proofs.Common.{◌≡◌, ◌⊎◌, inl, inr, ℕ, ◌==◌, ◌||◌, not, true, List, [], ◌∷◌, Some, None, refl, subst}
use Rattle.std.specs.List.{AllByRecursion}
use Rattle.ixp_num.specs.AddressForms.{version_of}
use Rattle.ixp_num.specs.declared.family.Family.{Family}
use Rattle.ixp_num.specs.declared.family.Family.TheVariants.{V4, V6}
use Rattle.ixp_num_tables.specs.Tables.{find}
use Rattle.ixp_num_tables.proofs.Looking.{all_found}
use Rattle.ixp_num_tables.proofs.Orders.{order_equal}
use Rattle.ixp_num_tables.proofs.TableLaws.{find-key}
use Rattle.ixp_registry.specs.declared.kind.Kind.{Kind}
use Rattle.ixp_registry.specs.declared.kind.Kind.TheVariants.{Members, Contacts, Keys, Switches, Ports, Vlans, Interfaces, Routers}
use Rattle.ixp_registry.specs.declared.network.Port.{Port}
use Rattle.ixp_registry.specs.declared.refusal.Refusal.TheVariants.{BadText, PortTaken}
use Rattle.ixp_registry.specs.declared.refusal.RowKey.{RowKey}
use Rattle.ixp_registry.specs.declared.refusal.RowKey.TheVariants.{Number, Pair, Handle}
use Rattle.ixp_registry.specs.declared.refusal.TextField.TheVariants.{Handle as HandleText}
use Rattle.ixp_registry.specs.declared.registry.Registry.{Registry}
use Rattle.ixp_registry.specs.Alphabets.{is_handle}
use Rattle.ixp_registry.specs.Keys.{member_key, contact_key, api_key_key, switch_key, port_key, vlan_key, interface_key, router_key}
use Rattle.ixp_registry.specs.Valid.{Valid, ValidMember, ValidContact, ValidKey, ValidSwitch, ValidPort, ValidVlan, ValidInterface, ValidRouter}
use Rattle.ixp_registry.specs.Widths.{IsNumber}
use Rattle.ixp_machine_edits.specs.declared.edit.Edit.{Edit}
use Rattle.ixp_machine_edits.specs.declared.edit.Edit.TheVariants.{RenameMember, MoveStatus, SetMacro, PutContact, DropContact, DropKey, DropSwitch, AssignPort, FreePort, DropPort, DropVlan, SetAddress, DropInterface, AddRouter, SetRouter, DropRouter, PutIrr, PutOrigins, PutPublic}
use Rattle.ixp_machine_edits.specs.Edits.{IsLawful, refusal, tests}
use Rattle.ixp_machine_edits.specs.Tests.{Tests, refused, unless_there, of_there}
use Rattle.ixp_machine_edits.proofs.Passing.{no_refusal, after_first, holds, is_there, there, found}
use Rattle.ixp_machine_steps.specs.Subjects.{kind_of, subject_of}
use Rattle.ixp_store_words.specs.Storing.{form_of, HasForm}

-- a row that is there has the key, and what all rows have
module _ {R : Type 0} (key : R → List ℕ) (P : R → Type 0) where
  abbrev HasRow : List ℕ → Type 0
  HasRow k = (x : R) × P x × (key x ≡ k)

  has_row : (k : List ℕ) (rs : List R) (x : R) → AllByRecursion P rs → find key k rs ≡ Some x → HasRow k
  has_row k rs x all e = (x, all_found key P k x rs all e, order_equal (key x) k (find-key key k x rs e))

  row_there : (k : List ℕ) (rs : List R) (table : Kind) (name : RowKey) → AllByRecursion P rs → unless_there (find key k rs) table name ≡ None → HasRow k
  row_there k rs table name all e = let x = found (find key k rs) (is_there (find key k rs) table name e) in has_row k rs x.0 all x.1

-- a row with one number
one_number : (m n : ℕ) → ◌≡◌ {A = List ℕ} (m ∷ []) (n ∷ []) → IsNumber m → IsNumber n
one_number m n e fits = let is : m ≡ n = cc in subst IsNumber is fits

member_fits : (n : ℕ) → HasRow member_key ValidMember (n ∷ []) → IsNumber n
member_fits n row = one_number row.0.number n row.2 row.1.fits.0

contact_fits : (m n : ℕ) → HasRow contact_key ValidContact (m ∷ n ∷ []) → IsNumber m × IsNumber n
contact_fits m n row =
    let e : ◌≡◌ {A = List ℕ} (row.0.member ∷ row.0.place ∷ []) (m ∷ n ∷ []) = row.2 in
    let first : row.0.member ≡ m = cc in
    let second : row.0.place ≡ n = cc in
    (subst IsNumber first row.1.fits.0, subst IsNumber second row.1.fits.1)

key_fits : (n : ℕ) → HasRow api_key_key ValidKey (n ∷ []) → IsNumber n
key_fits n row = one_number row.0.number n row.2 row.1.fits.0

switch_fits : (n : ℕ) → HasRow switch_key ValidSwitch (n ∷ []) → IsNumber n
switch_fits n row = one_number row.0.number n row.2 row.1.fits.0

port_fits : (n : ℕ) → HasRow port_key ValidPort (n ∷ []) → IsNumber n
port_fits n row = one_number row.0.number n row.2 row.1.fits.0

vlan_fits : (n : ℕ) → HasRow vlan_key ValidVlan (n ∷ []) → IsNumber n
vlan_fits n row = one_number row.0.number n row.2 row.1.fits.0

interface_fits : (n : ℕ) → HasRow interface_key ValidInterface (n ∷ []) → IsNumber n
interface_fits n row = one_number row.0.number n row.2 row.1.fits.0

router_fits : (h : List ℕ) → HasRow router_key ValidRouter h → is_handle h ≡ true
router_fits h row = subst (λ t. is_handle t ≡ true) row.2 row.1.handle

version_is : (f : Family) → (version_of f ≡ 4) ⊎ (version_of f ≡ 6)
version_is V4 = inl refl
version_is V6 = inr refl

pub has_subject : (r : Registry) (e : Edit) → Valid r → IsLawful e → refusal r e ≡ None → HasForm (form_of (kind_of e)) (subject_of e)
has_subject r (RenameMember member name) v lawful none = member_fits member (row_there member_key ValidMember (member ∷ []) r.members Members (Number member) v.members.each (no_refusal (tests r (RenameMember member name)) none).0)
has_subject r (MoveStatus member to) v lawful none =
    let x = there (find member_key (member ∷ []) r.members) Members (Number member) _ none in
    member_fits member (has_row member_key ValidMember (member ∷ []) r.members x.0 v.members.each x.1)
has_subject r (SetMacro member as_macro) v lawful none = member_fits member (row_there member_key ValidMember (member ∷ []) r.members Members (Number member) v.members.each (no_refusal (tests r (SetMacro member as_macro)) none).0)
has_subject r (PutContact member place name mail role) v lawful none = (lawful.0, lawful.1)
has_subject r (DropContact member place) v lawful none =
    contact_fits member place (row_there contact_key ValidContact (member ∷ place ∷ []) r.contacts Contacts (Pair member place) v.contacts.each (no_refusal (tests r (DropContact member place)) none).1.0)
has_subject r (DropKey key) v lawful none = key_fits key (row_there api_key_key ValidKey (key ∷ []) r.keys Keys (Number key) v.keys.each (no_refusal (tests r (DropKey key)) none).0)
has_subject r (DropSwitch switch) v lawful none = switch_fits switch (row_there switch_key ValidSwitch (switch ∷ []) r.switches Switches (Number switch) v.switches.each (no_refusal (tests r (DropSwitch switch)) none).0)
has_subject r (AssignPort port member) v lawful none =
    let later : Port → Tests = λ p. refused (not (p.member == 0 || p.member == member)) (PortTaken (Some p.member)) ∷ [] in
    let second = (after_first (unless_there (find member_key (member ∷ []) r.members) Members (Number member)) (of_there (find port_key (port ∷ []) r.ports) Ports (Number port) later) none).1 in
    let x = there (find port_key (port ∷ []) r.ports) Ports (Number port) later second in
    port_fits port (has_row port_key ValidPort (port ∷ []) r.ports x.0 v.ports.each x.1)
has_subject r (FreePort port) v lawful none = port_fits port (row_there port_key ValidPort (port ∷ []) r.ports Ports (Number port) v.ports.each (no_refusal (tests r (FreePort port)) none).0)
has_subject r (DropPort port) v lawful none = port_fits port (row_there port_key ValidPort (port ∷ []) r.ports Ports (Number port) v.ports.each (no_refusal (tests r (DropPort port)) none).0)
has_subject r (DropVlan vlan) v lawful none = vlan_fits vlan (row_there vlan_key ValidVlan (vlan ∷ []) r.vlans Vlans (Number vlan) v.vlans.each (no_refusal (tests r (DropVlan vlan)) none).0)
has_subject r (SetAddress interface family address) v lawful none =
    (interface_fits interface (row_there interface_key ValidInterface (interface ∷ []) r.interfaces Interfaces (Number interface) v.interfaces.each (no_refusal (tests r (SetAddress interface family address)) none).0), version_is family)
has_subject r (DropInterface interface) v lawful none =
    interface_fits interface (row_there interface_key ValidInterface (interface ∷ []) r.interfaces Interfaces (Number interface) v.interfaces.each (no_refusal (tests r (DropInterface interface)) none).0)
has_subject r (AddRouter handle vlan family address settings) v lawful none = holds (is_handle handle) (BadText HandleText) (no_refusal (tests r (AddRouter handle vlan family address settings)) none).1.0
has_subject r (SetRouter handle settings) v lawful none =
    let x = there (find router_key handle r.routers) Routers (Handle handle) _ none in
    router_fits handle (has_row router_key ValidRouter handle r.routers x.0 v.routers.each x.1)
has_subject r (DropRouter handle) v lawful none = router_fits handle (row_there router_key ValidRouter handle r.routers Routers (Handle handle) v.routers.each (no_refusal (tests r (DropRouter handle)) none).0)
has_subject r (PutIrr member family prefixes) v lawful none = (lawful.0, version_is family)
has_subject r (PutOrigins member family asns) v lawful none = (lawful.0, version_is family)
has_subject r (PutPublic list) v lawful none = tt
has_subject r e v lawful none = lawful.0
