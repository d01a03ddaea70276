-- Edits of contacts.
use Rattle.std.proofs.Common.{◌≡◌, ℕ, ◌<◌, true, ◌&&◌, ◌==◌, List, [], ◌∷◌, Option, Some, None, refl, sym, ap, arith}
use Rattle.std.proofs.lemmas.Bool.{and_from}
use Rattle.ixp_num_tables.specs.Tables.{find, put, without, if_there}
use Rattle.ixp_num_tables.specs.Sums.{Often}
use Rattle.ixp_num_tables.proofs.Orders.{order_equal}
use Rattle.ixp_num_tables.proofs.TableLaws.{all_put, all_without, Ascends-put, Ascends-without, find-key}
use Rattle.ixp_num_tables.proofs.Counts.{often_put, often_same, often_fewer}
use Rattle.ixp_registry.specs.declared.kind.Kind.TheVariants.{Members, Contacts}
use Rattle.ixp_registry.specs.declared.members.Contact.{Contact}
use Rattle.ixp_registry.specs.declared.registry.Registry.{Registry}
use Rattle.ixp_registry.specs.declared.refusal.Refusal.TheVariants.{BadText, BadRule}
use Rattle.ixp_registry.specs.declared.refusal.RowKey.TheVariants.{Number}
use Rattle.ixp_registry.specs.declared.refusal.TextField.TheVariants.{Name, Mail, Role}
use Rattle.ixp_registry.specs.Alphabets.{is_label, is_note}
use Rattle.ixp_registry.specs.Keys.{member_key, contact_key}
use Rattle.ixp_registry.specs.Lookups.{has_member}
use Rattle.ixp_registry.specs.Valid.{Valid, ValidContact}
use Rattle.ixp_registry.specs.Widths.{IsNumber, AreBytes}
use Rattle.ixp_machine_edits.specs.Tests.{first_refused, full}
use Rattle.ixp_machine_edits.specs.Members.{new_contact, with_contact, contacts_of, put_contact_tests, without_contact}
use Rattle.ixp_machine_edits.proofs.Passing.{no_refusal, passed, holds, is_there, has_room}
use Rattle.ixp_machine_edits.proofs.Numbers.{counted}
use Rattle.ixp_machine_edits.proofs.Frames.{contacts_on}

-- a member still has at most 16 contacts
still_few : (r : Registry) (c : Contact) (o : Option Contact) → find contact_key (contact_key c) r.contacts ≡ o → Valid r → if_there o (full Contacts (contacts_of c.member r.contacts) 16) (λ c. None) ≡ None → Often 16 (λ d. d.member ∷ []) (put contact_key c r.contacts)
still_few r c None e s room =
    let few : contacts_of c.member r.contacts < 16 = has_room Contacts (contacts_of c.member r.contacts) 16 room in
    let same_count = counted (λ (d : Contact). d.member) c.member r.contacts in
    often_put contact_key 16 (λ d. d.member ∷ []) c r.contacts s.contacts.order (omega (arith, few, same_count)) s.contacts.few
still_few r c (Some old) e s room =
    let key : contact_key old ≡ contact_key c = order_equal (contact_key old) (contact_key c) (find-key contact_key (contact_key c) old r.contacts e) in
    let m : old.member ≡ c.member = cc in
    often_same contact_key 16 (λ d. d.member ∷ []) c old r.contacts s.contacts.order e (ap (λ n. n ∷ []) (sym m)) s.contacts.few

pub contact_put : (r : Registry) (member place : ℕ) (name mail role : List ℕ) → IsNumber member × IsNumber place × AreBytes role × AreBytes mail × AreBytes name → Valid r → first_refused (put_contact_tests r member place name mail role) ≡ None
    → Valid (record r { contacts = with_contact member place name mail role r.contacts })
contact_put r member place name mail role fits s ok =
    let cs = r.contacts in
    let c : Contact = new_contact member place name mail role in
    let t = no_refusal (put_contact_tests r member place name mail role) ok in
    let notes = and_from (is_note role) (is_note mail) (holds (is_note role) (BadText Role) t.1.1.1.0) (holds (is_note mail) (BadText Mail) t.1.1.0) in
    contacts_on r (put contact_key c cs)
    (record {
      order = Ascends-put contact_key c cs s.contacts.order;
      each = all_put contact_key ValidContact c cs
          (record {
            fits = fits;
            place = passed (place == 0) (BadRule 0) t.1.1.1.1.0;
            texts = and_from (is_note role && is_note mail) (is_label name) notes (holds (is_label name) (BadText Name) t.1.0);
          }) s.contacts.each;
      members = all_put contact_key (λ c. has_member r.members c.member ≡ true) c cs (is_there (find member_key (member ∷ []) r.members) Members (Number member) t.0) s.contacts.members;
      few = still_few r c (find contact_key (member ∷ place ∷ []) cs) refl s t.1.1.1.1.1.0;
    }) s

pub contact_dropped : (r : Registry) (member place : ℕ) → Valid r → Valid (record r { contacts = without_contact member place r.contacts })
contact_dropped r member place s =
    let cs = r.contacts in
    let k = member ∷ place ∷ [] in
    contacts_on r (without contact_key k cs)
    (record {
      order = Ascends-without contact_key k cs s.contacts.order;
      each = all_without contact_key ValidContact k cs s.contacts.each;
      members = all_without contact_key (λ c. has_member r.members c.member ≡ true) k cs s.contacts.members;
      few = often_fewer contact_key 16 (λ d. d.member ∷ []) k cs s.contacts.order s.contacts.few;
    }) s
