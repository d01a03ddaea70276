-- The weight after an edit and the one before.
use Rattle.std.proofs.Common.{◌≡◌, ℕ, ◌+◌, ◌-◌, Bool, true, false, ◌&&◌, ◌==◌, List, [], ◌∷◌, length, Option, Some, None, refl, sym, ap, ◌∙◌, subst, arith, if◌then◌else◌}
use Rattle.std.proofs.lemmas.Bool.{eqb-true, eqb-false}
use Rattle.ixp_num.specs.declared.family.Family.{Family}
use Rattle.ixp_num.specs.declared.prefix.Prefix.{Prefix}
use Rattle.ixp_num.specs.AddressForms.{version_of}
use Rattle.ixp_num.specs.Families.{same_family}
use Rattle.ixp_num_tables.specs.Tables.{Ascends, find, put, without, if_there}
use Rattle.ixp_num_tables.specs.Sums.{total}
use Rattle.ixp_num_tables.proofs.AllItems.{all_true}
use Rattle.ixp_num_tables.proofs.SumLaws.{total_same, total_put, total_without}
use Rattle.ixp_num_tables.proofs.TableLaws.{find-key, find-equal-key}
use Rattle.ixp_registry.specs.declared.lists.IrrList.{IrrList}
use Rattle.ixp_registry.specs.declared.members.Member.{Member}
use Rattle.ixp_registry.specs.declared.members.Status.{Status}
use Rattle.ixp_registry.specs.declared.network.IfAddr.{IfAddr}
use Rattle.ixp_registry.specs.declared.network.Interface.{Interface}
use Rattle.ixp_registry.specs.declared.router.Router.{Router}
use Rattle.ixp_registry.specs.declared.registry.Registry.{Registry}
use Rattle.ixp_registry.specs.Keys.{member_key, interface_key, router_key, irr_key}
use Rattle.ixp_registry.specs.Lookups.{is_connected, is_member_connected}
use Rattle.ixp_registry.specs.Weight.{weight, interface_weight, vlan_weight, list_length}
use Rattle.ixp_registry.specs.Words.{router_weight}
use Rattle.ixp_machine_edits.specs.Interfaces.{addressed, with_address}
use Rattle.ixp_machine_edits.specs.Lists.{with_prefixes, prefixes_in}
use Rattle.ixp_machine_edits.specs.Members.{with_status}
use Rattle.ixp_machine_edits.specs.declared.edit.RouterSettings.{RouterSettings}
use Rattle.ixp_machine_edits.specs.Routers.{with_settings, with_router, set_routers, without_router}
use Rattle.ixp_machine_edits.proofs.Passing.{changed_there}
use Rattle.ixp_machine_refusals.specs.declared.change.Change.{Change}
use Rattle.ixp_machine_refusals.specs.declared.change.Change.TheVariants.{Nothing, Status as OfStatus, Length, Routers}
use Rattle.ixp_machine_refusals.specs.declared.change.NewRouters.{NewRouters}
use Rattle.ixp_machine_refusals.specs.declared.parts.Part.{Part}
use Rattle.ixp_machine_refusals.specs.declared.parts.Part.TheVariants.{OfMember, InVlan}
use Rattle.ixp_machine_refusals.specs.Changes.{connected_by, vlan_weight_by, list_length_by, weight_by}
use Rattle.ixp_machine_refusals.specs.ByTable.{HasLength, InPlace}
use Rattle.ixp_registry_change.specs.declared.change.TableChange.TheVariants.{Put}
use Rattle.ixp_machine_refusals.specs.Parts.{is_in, part_weight}
use Rattle.ixp_machine_refusals.proofs.Lookings.{connected_then, length_then, routers_more, routers_put, routers_set, routers_less}
use Rattle.ixp_machine_refusals.proofs.Shifts.{shift, same_both}

-- what interfaces weigh after the edit is what they weigh with the change, and out of the part it is what they weigh now
pub by_part : (r : Registry) (c : Change) (p : Part) (w : Interface → ℕ) → ((i : Interface) → w i ≡ weight_by r c i) → ((i : Interface) → is_in p i ≡ false → weight_by r Nothing i ≡ weight_by r c i)
    → total w r.interfaces + part_weight r Nothing p r.interfaces ≡ weight r.members r.interfaces r.routers r.irr + part_weight r c p r.interfaces
by_part r c p w now out =
    ap (λ n. n + part_weight r Nothing p r.interfaces) (total_same w (weight_by r c) r.interfaces (all_true (λ i. w i ≡ weight_by r c i) now r.interfaces))
    ∙ shift (is_in p) (weight_by r Nothing) (weight_by r c) r.interfaces out

turned : (m n : ℕ) → (m == n) ≡ false → (n == m) ≡ false
turned m n h = by_test (n == m) refl where
  by_test : (b : Bool) → (n == m) ≡ b → b ≡ false
  by_test false e = refl
  by_test true e = absurd (eqb-false m n h (sym (eqb-true n m e)))

-- where a member is connected or not instead
pub members_after : (r : Registry) (ms : List Member) (member : ℕ) (connected : Bool)
    → ((n : ℕ) → is_member_connected ms n ≡ (if member == n then connected else is_member_connected r.members n))
    → (let c : Change = OfStatus (record { member = member; connected = connected }) in
    weight ms r.interfaces r.routers r.irr + part_weight r Nothing (OfMember member) r.interfaces ≡ weight r.members r.interfaces r.routers r.irr + part_weight r c (OfMember member) r.interfaces)
members_after r ms member connected now =
    let c : Change = OfStatus (record { member = member; connected = connected }) in
    by_part r c (OfMember member) (interface_weight ms r.routers r.irr)
    (λ i. same_both (is_member_connected ms i.member) (connected_by r.members c i.member) (vlan_weight r.routers i.vlan) (vlan_weight r.routers i.vlan) (list_length r.irr i.member) (list_length r.irr i.member) i.v4 i.v6
    (now i.member) (λ f. refl) (λ f. refl))
    (λ i far. same_both (is_member_connected r.members i.member) (connected_by r.members c i.member) (vlan_weight r.routers i.vlan) (vlan_weight r.routers i.vlan) (list_length r.irr i.member) (list_length r.irr i.member) i.v4 i.v6
    (sym (ap (λ b. if b then connected else is_member_connected r.members i.member) (turned i.member member far))) (λ f. refl) (λ f. refl))

pub status_after : (r : Registry) (member : ℕ) (to : Status) (m : Member) → find member_key (member ∷ []) r.members ≡ Some m
    → (let c : Change = OfStatus (record { member = member; connected = is_connected to }) in
    weight (with_status member to r.members) r.interfaces r.routers r.irr + part_weight r Nothing (OfMember member) r.interfaces ≡ weight r.members r.interfaces r.routers r.irr + part_weight r c (OfMember member) r.interfaces)
status_after r member to m found =
    members_after r (with_status member to r.members) member (is_connected to) (λ n. connected_then member to m r.members n found)

-- where a list is as long instead
pub lists_after : (r : Registry) (ls : List IrrList) (member : ℕ) (family : Family) (count : ℕ) → HasLength r.irr member family count ls
    → (let c : Change = Length (record { member = member; family = family; length = count }) in
    weight r.members r.interfaces r.routers ls + part_weight r Nothing (OfMember member) r.interfaces ≡ weight r.members r.interfaces r.routers r.irr + part_weight r c (OfMember member) r.interfaces)
lists_after r ls member family count now =
    let c : Change = Length (record { member = member; family = family; length = count }) in
    by_part r c (OfMember member) (interface_weight r.members r.routers ls)
    (λ i. same_both (is_member_connected r.members i.member) (is_member_connected r.members i.member) (vlan_weight r.routers i.vlan) (vlan_weight r.routers i.vlan) (list_length ls i.member) (list_length_by r.irr c i.member) i.v4 i.v6
    refl (λ f. refl) (λ f. now i.member f))
    (λ i far. same_both (is_member_connected r.members i.member) (is_member_connected r.members i.member) (vlan_weight r.routers i.vlan) (vlan_weight r.routers i.vlan) (list_length r.irr i.member) (list_length_by r.irr c i.member) i.v4 i.v6
    refl (λ f. refl) (λ f. sym (ap (λ b. if b && same_family family f then count else list_length r.irr i.member f) (turned i.member member far))))

pub list_after : (r : Registry) (member : ℕ) (family : Family) (ps : List Prefix)
    → (let c : Change = Length (record { member = member; family = family; length = length ps }) in
    weight r.members r.interfaces r.routers (with_prefixes member family ps r.irr) + part_weight r Nothing (OfMember member) r.interfaces ≡ weight r.members r.interfaces r.routers r.irr + part_weight r c (OfMember member) r.interfaces)
list_after r member family ps = lists_after r (with_prefixes member family ps r.irr) member family (length ps) (λ n f. length_then member family ps r.irr n f)

pub routers_after : (r : Registry) (qs : List Router) (new : NewRouters) → ((vlan : ℕ) (f : Family) → vlan_weight qs vlan f ≡ vlan_weight_by r.routers (Routers new) vlan f)
    → weight r.members r.interfaces qs r.irr + part_weight r Nothing (InVlan new.vlan) r.interfaces ≡ weight r.members r.interfaces r.routers r.irr + part_weight r (Routers new) (InVlan new.vlan) r.interfaces
routers_after r qs new now =
    by_part r (Routers new) (InVlan new.vlan) (interface_weight r.members qs r.irr)
    (λ i. same_both (is_member_connected r.members i.member) (is_member_connected r.members i.member) (vlan_weight qs i.vlan) (vlan_weight_by r.routers (Routers new) i.vlan) (list_length r.irr i.member) (list_length r.irr i.member) i.v4 i.v6
    refl (now i.vlan) (λ f. refl))
    (λ i far. same_both (is_member_connected r.members i.member) (is_member_connected r.members i.member) (vlan_weight r.routers i.vlan) (vlan_weight_by r.routers (Routers new) i.vlan) (list_length r.irr i.member) (list_length r.irr i.member) i.v4 i.v6
    refl (λ f. sym (ap (λ b. if b && same_family new.family f then vlan_weight r.routers i.vlan f + new.more - new.less else vlan_weight r.routers i.vlan f) (turned i.vlan new.vlan far))) (λ f. refl))

-- an interface is changed
pub address_after : (r : Registry) (n : ℕ) (f : Family) (x : IfAddr) (i : Interface) → Ascends interface_key r.interfaces → find interface_key (n ∷ []) r.interfaces ≡ Some i
    → weight r.members (with_address n f x r.interfaces) r.routers r.irr + interface_weight r.members r.routers r.irr i ≡ weight r.members r.interfaces r.routers r.irr + interface_weight r.members r.routers r.irr (addressed f x i)
address_after r n f x i up there =
    let w = interface_weight r.members r.routers r.irr in
    let is = r.interfaces in
    let here : find interface_key (i.number ∷ []) is ≡ Some i = find-equal-key interface_key (i.number ∷ []) (n ∷ []) is (find-key interface_key (n ∷ []) i is there) ∙ there in
    ap (λ js. total w js + w i) (changed_there interface_key (n ∷ []) (addressed f x) is i there)
    ∙ subst (λ (o : Option Interface). total w (put interface_key (addressed f x i) is) + if_there o 0 w ≡ total w is + w (addressed f x i)) here (total_put interface_key w (addressed f x i) is up)

-- routers: what there would be, by the change
pub router_after : (r : Registry) (q : Router) → Ascends router_key r.routers → find router_key q.handle r.routers ≡ None
    → (let new : NewRouters = record { vlan = q.vlan; family = q.family; more = router_weight q; less = 0 } in
    weight r.members r.interfaces (with_router q r.routers) r.irr + part_weight r Nothing (InVlan q.vlan) r.interfaces ≡ weight r.members r.interfaces r.routers r.irr + part_weight r (Routers new) (InVlan q.vlan) r.interfaces)
router_after r q up new = routers_after r (with_router q r.routers) (record { vlan = q.vlan; family = q.family; more = router_weight q; less = 0 }) (λ vlan f. routers_more q r.routers vlan f up new)

pub settings_after : (r : Registry) (handle : List ℕ) (p : Router) (x : RouterSettings) → Ascends router_key r.routers → find router_key handle r.routers ≡ Some p
    → (let new : NewRouters = record { vlan = p.vlan; family = p.family; more = router_weight (with_settings x p); less = router_weight p } in
    weight r.members r.interfaces (set_routers handle x r.routers) r.irr + part_weight r Nothing (InVlan p.vlan) r.interfaces ≡ weight r.members r.interfaces r.routers r.irr + part_weight r (Routers new) (InVlan p.vlan) r.interfaces)
settings_after r handle p x up found =
    let q : Router = with_settings x p in
    let here : find router_key p.handle r.routers ≡ Some p = find-equal-key router_key p.handle handle r.routers (find-key router_key handle p r.routers found) ∙ found in
    routers_after r (set_routers handle x r.routers) (record { vlan = p.vlan; family = p.family; more = router_weight q; less = router_weight p })
    (λ vlan f. ap (λ qs. vlan_weight qs vlan f) (changed_there router_key handle (with_settings x) r.routers p found) ∙ routers_set p q r.routers vlan f up here refl refl)

pub gone_after : (r : Registry) (handle : List ℕ) (p : Router) → Ascends router_key r.routers → find router_key handle r.routers ≡ Some p
    → (let new : NewRouters = record { vlan = p.vlan; family = p.family; more = 0; less = router_weight p } in
    weight r.members r.interfaces (without_router handle r.routers) r.irr + part_weight r Nothing (InVlan p.vlan) r.interfaces ≡ weight r.members r.interfaces r.routers r.irr + part_weight r (Routers new) (InVlan p.vlan) r.interfaces)
gone_after r handle p up found = routers_after r (without_router handle r.routers) (record { vlan = p.vlan; family = p.family; more = 0; less = router_weight p }) (λ vlan f. routers_less p handle r.routers vlan f up found)

-- how many prefixes all lists have
pub prefixes_put : (r : Registry) (l : IrrList) → Ascends irr_key r.irr → prefixes_in (put irr_key l r.irr) + list_length r.irr l.member l.family ≡ prefixes_in r.irr + length l.prefixes
prefixes_put r l up = total_put irr_key (λ l. length l.prefixes) l r.irr up

pub prefixes_gone : (r : Registry) (member : ℕ) (family : Family) → Ascends irr_key r.irr → prefixes_in (without irr_key (member ∷ version_of family ∷ []) r.irr) + list_length r.irr member family ≡ prefixes_in r.irr
prefixes_gone r member family up = total_without irr_key (λ l. length l.prefixes) (member ∷ version_of family ∷ []) r.irr up

pub prefixes_after : (r : Registry) (member : ℕ) (family : Family) (ps : List Prefix) → Ascends irr_key r.irr → prefixes_in (with_prefixes member family ps r.irr) + list_length r.irr member family ≡ prefixes_in r.irr + length ps
prefixes_after r member family [] up = let e = prefixes_gone r member family up in omega (arith, e)
prefixes_after r member family (p ∷ ps) up = prefixes_put r (record { member = member; family = family; prefixes = p ∷ ps }) up

-- interfaces, by the row that is put in or taken out
pub interface_put : (r : Registry) (i : Interface) → Ascends interface_key r.interfaces
    → weight r.members (put interface_key i r.interfaces) r.routers r.irr + if_there (find interface_key (i.number ∷ []) r.interfaces) 0 (interface_weight r.members r.routers r.irr)
    ≡ weight r.members r.interfaces r.routers r.irr + interface_weight r.members r.routers r.irr i
interface_put r i up = total_put interface_key (interface_weight r.members r.routers r.irr) i r.interfaces up

pub interface_gone : (r : Registry) (n : ℕ) → Ascends interface_key r.interfaces
    → weight r.members (without interface_key (n ∷ []) r.interfaces) r.routers r.irr + if_there (find interface_key (n ∷ []) r.interfaces) 0 (interface_weight r.members r.routers r.irr)
    ≡ weight r.members r.interfaces r.routers r.irr
interface_gone r n up = total_without interface_key (interface_weight r.members r.routers r.irr) (n ∷ []) r.interfaces up

-- a router, by the row that is put in
pub router_put : (r : Registry) (q : Router) → Ascends router_key r.routers → InPlace r.routers (Put q)
    → (let new : NewRouters = record { vlan = q.vlan; family = q.family; more = router_weight q; less = if_there (find router_key q.handle r.routers) 0 router_weight } in
    weight r.members r.interfaces (put router_key q r.routers) r.irr + part_weight r Nothing (InVlan q.vlan) r.interfaces ≡ weight r.members r.interfaces r.routers r.irr + part_weight r (Routers new) (InVlan q.vlan) r.interfaces)
router_put r q up place =
    routers_after r (put router_key q r.routers) (record { vlan = q.vlan; family = q.family; more = router_weight q; less = if_there (find router_key q.handle r.routers) 0 router_weight })
    (λ vlan f. routers_put q r.routers vlan f up place)
