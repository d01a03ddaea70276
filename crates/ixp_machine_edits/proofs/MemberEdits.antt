-- Edits of members.
use Rattle.std.proofs.Common.{◌≡◌, ℕ, ◌≤◌, ◌<◌, ◌+◌, Bool, true, false, not, ◌||◌, ◌&&◌, ◌==◌, List, [], ◌∷◌, length, Option, Some, None, find as first_with, refl, sym, ap, ◌∙◌, subst, arith, if◌then◌else◌}
use Rattle.std.specs.declared.cmp.Ordering.TheVariants.{Equal}
use Rattle.std.specs.List.{AllByRecursion, list_any}
use Rattle.std.specs.Option.{is_some}
use Rattle.std.proofs.lemmas.Bool.{or_parts, and_parts, and_from}
use Rattle.ixp_num.specs.declared.asn.Asn.{Asn}
use Rattle.ixp_num_tables.specs.Tables.{order, find, put, if_there, same}
use Rattle.ixp_num_tables.specs.Sums.{count}
use Rattle.ixp_num_tables.proofs.Orders.{all_weaker, head_same}
use Rattle.ixp_num_tables.proofs.TableLaws.{all_put, Ascends-put, find-key, find-equal-key}
use Rattle.ixp_num_tables.proofs.AllItems.{all_both, all_true, none_any}
use Rattle.ixp_num_tables.proofs.SumLaws.{total_least}
use Rattle.ixp_num_tables.proofs.Counts.{length_put, length_same, often_put, often_same, none_counted, same_itself}
use Rattle.ixp_num_tables.proofs.Looking.{look_put, look_kept, all_found}
use Rattle.ixp_registry.specs.declared.kind.Kind.TheVariants.{Members, Interfaces}
use Rattle.ixp_registry.specs.declared.lists.IrrList.{IrrList}
use Rattle.ixp_registry.specs.declared.members.Member.{Member}
use Rattle.ixp_registry.specs.declared.members.Status.{Status}
use Rattle.ixp_registry.specs.declared.network.Interface.{Interface}
use Rattle.ixp_registry.specs.declared.router.Router.{Router}
use Rattle.ixp_registry.specs.declared.registry.Registry.{Registry}
use Rattle.ixp_registry.specs.declared.refusal.Refusal.TheVariants.{BadText, AsnReserved, StatusMove, BadRule}
use Rattle.ixp_registry.specs.declared.refusal.RowKey.TheVariants.{Number}
use Rattle.ixp_registry.specs.declared.refusal.TextField.TheVariants.{Name, Macro}
use Rattle.ixp_registry.specs.Alphabets.{is_label, is_macro}
use Rattle.ixp_registry.specs.Keys.{member_key}
use Rattle.ixp_registry.specs.Lookups.{is_left, is_connected, has_left, is_member_connected}
use Rattle.ixp_registry.specs.Valid.{Valid, ValidMember, NamesOfInterface, NamesOfRouter}
use Rattle.ixp_registry.specs.Weight.{weight, interface_weight, column_weight}
use Rattle.ixp_registry.specs.Widths.{IsNumber, AreBytes, AsnFits}
use Rattle.ixp_registry.specs.Words.{is_reserved}
use Rattle.ixp_members.specs.Statuses.{may_move}
use Rattle.ixp_machine_edits.specs.Tests.{first_refused, refused, in_use_by, too_heavy}
use Rattle.ixp_machine_edits.specs.Members.{new_member, with_member, add_member_tests, renamed, rename_member_tests, with_status, move_status_tests, with_macro, set_macro_tests}
use Rattle.ixp_machine_edits.proofs.Passing.{no_refusal, passed, holds, is_there, there, found, nobody_is, nobody_uses, has_room, is_light, changed_there}
use Rattle.ixp_machine_edits.proofs.Numbers.{one_number, counted}
use Rattle.ixp_machine_edits.proofs.Frames.{members_on}

-- where no other member is connected than before, the weight isn't greater
cond_least : (a b : Bool) (x : ℕ) → (a ≡ false → b ≡ false) → (if b then x else 0) ≤ (if a then x else 0)
cond_least true true x f = omega arith
cond_least true false x f = omega arith
cond_least false b x f = rw (f refl) (omega arith)

still_light : (ms ns : List Member) (is : List Interface) (qs : List Router) (ls : List IrrList) → ((n : ℕ) → is_member_connected ms n ≡ false → is_member_connected ns n ≡ false)
    → weight ms is qs ls ≤ 8000000 → weight ns is qs ls ≤ 8000000
still_light ms ns is qs ls less was =
    let le : weight ns is qs ls ≤ weight ms is qs ls =
    total_least (interface_weight ns qs ls) (interface_weight ms qs ls) is
    (all_true (λ i. interface_weight ns qs ls i ≤ interface_weight ms qs ls i)
    (λ i. cond_least (is_member_connected ms i.member) (is_member_connected ns i.member) (column_weight qs ls i.member i.vlan i.v4 + column_weight qs ls i.member i.vlan i.v6) (less i.member)) is)
    in
    omega (arith, le, was)

abbrev left_row : Option Member → Bool
left_row o = if_there o false (λ m. is_left m.status)

abbrev connected_row : Option Member → Bool
connected_row o = if_there o false (λ m. is_connected m.status)

pub member_added : (r : Registry) (number : ℕ) (asn : Asn) (name : List ℕ) → IsNumber number × AsnFits asn × AreBytes name → Valid r → first_refused (add_member_tests r number asn name) ≡ None → Valid (record r { members = with_member number asn name r.members })
member_added r number asn name fits s ok =
    let ms = r.members in
    let m : Member = new_member number asn name in
    let ns = put member_key m ms in
    let t = no_refusal (add_member_tests r number asn name) ok in
    let label : is_label name ≡ true = holds (is_label name) (BadText Name) t.0 in
    let asns = or_parts (is_reserved asn.0) (list_any (λ q. asn.0 == q.asn.0) r.routers) (passed (is_reserved asn.0 || list_any (λ q. asn.0 == q.asn.0) r.routers) (AsnReserved asn) t.1.0) in
    let other = nobody_is (λ m. Number m.number) (λ m. m.asn.0 == asn.0) ms t.1.1.1.0 in
    let zero : (number == 0) ≡ false = passed (number == 0) (BadRule 0) t.1.1.1.1.0 in
    let few : length ms < 4000 = has_room Members (length ms) 4000 t.1.1.1.1.1.0 in
    let grown = length_put member_key m ms s.members.order in
    let none : count (λ m. same (asn.0 ∷ []) (m.asn.0 ∷ [])) ms ≡ 0 = counted (λ m. m.asn.0) asn.0 ms ∙ none_counted (λ m. m.asn.0 == asn.0) ms other in
    members_on r ns
    (λ n. look_put member_key is_some true m (n ∷ []) ms (λ e was. refl))
    (record {
      order = Ascends-put member_key m ms s.members.order;
      each = all_put member_key ValidMember m ms (record { fits = (fits.0, fits.1, tt, fits.2); number = zero; texts = and_from (is_macro []) (is_label name) refl label; asn = asns.0 }) s.members.each;
      asns = often_put member_key 1 (λ m. m.asn.0 ∷ []) m ms s.members.order (omega (arith, none)) s.members.asns;
      few = omega (arith, few, grown);
    })
    (record {
      order = s.interfaces.order;
      each = s.interfaces.each;
      named = all_weaker (NamesOfInterface ms r.ports r.vlans) (NamesOfInterface ns r.ports r.vlans)
          (λ i x. record {
            member = look_put member_key is_some true m (i.member ∷ []) ms (λ e was. refl) x.member;
            stays = look_put member_key left_row false m (i.member ∷ []) ms (λ e was. refl) x.stays;
            port = x.port;
            vlan = x.vlan;
            hosts = x.hosts;
          }) r.interfaces s.interfaces.named;
      few = s.interfaces.few;
      per_member = s.interfaces.per_member;
    })
    (record {
      order = s.routers.order;
      each = s.routers.each;
      named = all_weaker (λ q. NamesOfRouter ms r.vlans r.interfaces q × ((asn.0 == q.asn.0) ≡ false)) (NamesOfRouter ns r.vlans r.interfaces)
          (λ q x. record {
            asn = all_put member_key (λ m. (m.asn.0 == q.asn.0) ≡ false) m ms x.1 x.0.asn;
            vlan = x.0.vlan;
            host = x.0.host;
            blackhole = x.0.blackhole;
            free = x.0.free;
          }) r.routers (all_both (NamesOfRouter ms r.vlans r.interfaces) (λ q. (asn.0 == q.asn.0) ≡ false) r.routers s.routers.named (none_any (λ q. asn.0 == q.asn.0) r.routers asns.1));
      apart = s.routers.apart;
      few = s.routers.few;
      addresses = s.routers.addresses;
    })
    (still_light ms ns r.interfaces r.routers r.irr (λ n was. look_put member_key connected_row false m (n ∷ []) ms (λ e w. refl) was) s.light)
    s

-- a member is replaced by one that has its number and its AS number
member_set : (r : Registry) (n : ℕ) (m m' : Member) → find member_key (n ∷ []) r.members ≡ Some m → m'.number ≡ m.number → m.asn ≡ m'.asn → ValidMember m' → AllByRecursion (λ i. has_left (put member_key m' r.members) i.member ≡ false) r.interfaces
    → weight (put member_key m' r.members) r.interfaces r.routers r.irr ≤ 8000000 → Valid r → Valid (record r { members = put member_key m' r.members })
member_set r n m m' at number asn each stay light s =
    let ms = r.members in
    let ns = put member_key m' ms in
    let key : order (m.number ∷ []) (n ∷ []) ≡ Equal = find-key member_key (n ∷ []) m ms at in
    let here : find member_key (m.number ∷ []) ms ≡ Some m = find-equal-key member_key (m.number ∷ []) (n ∷ []) ms key ∙ at in
    let here' : find member_key (m'.number ∷ []) ms ≡ Some m = ap (λ k. find member_key (k ∷ []) ms) number ∙ here in
    let grown = length_same member_key m' m ms s.members.order here' in
    let few = s.members.few in
    members_on r ns
    (λ n. look_put member_key is_some true m' (n ∷ []) ms (λ e was. refl))
    (record {
      order = Ascends-put member_key m' ms s.members.order;
      each = all_put member_key ValidMember m' ms each s.members.each;
      asns = often_same member_key 1 (λ m. m.asn.0 ∷ []) m' m ms s.members.order here' (ap (λ a. a.0 ∷ []) (sym asn)) s.members.asns;
      few = omega (arith, few, grown);
    })
    (record {
      order = s.interfaces.order;
      each = s.interfaces.each;
      named = all_weaker (λ i. NamesOfInterface ms r.ports r.vlans i × (has_left ns i.member ≡ false)) (NamesOfInterface ns r.ports r.vlans)
          (λ i x. record {
            member = look_put member_key is_some true m' (i.member ∷ []) ms (λ e was. refl) x.0.member;
            stays = x.1;
            port = x.0.port;
            vlan = x.0.vlan;
            hosts = x.0.hosts;
          }) r.interfaces (all_both (NamesOfInterface ms r.ports r.vlans) (λ i. has_left ns i.member ≡ false) r.interfaces s.interfaces.named stay);
      few = s.interfaces.few;
      per_member = s.interfaces.per_member;
    })
    (record {
      order = s.routers.order;
      each = s.routers.each;
      named = all_weaker (NamesOfRouter ms r.vlans r.interfaces) (NamesOfRouter ns r.vlans r.interfaces)
          (λ q x. record {
            asn = all_put member_key (λ m. (m.asn.0 == q.asn.0) ≡ false) m' ms (subst (λ (a : Asn). (a.0 == q.asn.0) ≡ false) asn (all_found member_key (λ m. (m.asn.0 == q.asn.0) ≡ false) (n ∷ []) m ms x.asn at)) x.asn;
            vlan = x.vlan;
            host = x.host;
            blackhole = x.blackhole;
            free = x.free;
          }) r.routers s.routers.named;
      apart = s.routers.apart;
      few = s.routers.few;
      addresses = s.routers.addresses;
    })
    light
    s

-- the same where it has its status too
member_kept : (r : Registry) (n : ℕ) (m m' : Member) → find member_key (n ∷ []) r.members ≡ Some m → m'.number ≡ m.number → m.asn ≡ m'.asn → m'.status ≡ m.status → ValidMember m' → Valid r → Valid (record r { members = put member_key m' r.members })
member_kept r n m m' at number asn status each s =
    let ms = r.members in
    let key : order (m.number ∷ []) (n ∷ []) ≡ Equal = find-key member_key (n ∷ []) m ms at in
    let here : find member_key (m'.number ∷ []) ms ≡ Some m = ap (λ k. find member_key (k ∷ []) ms) number ∙ (find-equal-key member_key (m.number ∷ []) (n ∷ []) ms key ∙ at) in
    let left : left_row (Some m') ≡ left_row (find member_key (m'.number ∷ []) ms) = ap is_left status ∙ ap left_row (sym here) in
    let connected : connected_row (Some m') ≡ connected_row (find member_key (m'.number ∷ []) ms) = ap is_connected status ∙ ap connected_row (sym here) in
    member_set r n m m' at number asn each
    (all_weaker (NamesOfInterface ms r.ports r.vlans) (λ i. has_left (put member_key m' ms) i.member ≡ false) (λ i x. look_kept member_key left_row m' ms (i.member ∷ []) left ∙ x.stays) r.interfaces s.interfaces.named)
    (still_light ms (put member_key m' ms) r.interfaces r.routers r.irr (λ k was. look_kept member_key connected_row m' ms (k ∷ []) connected ∙ was) s.light)
    s

pub member_renamed : (r : Registry) (n : ℕ) (name : List ℕ) → AreBytes name → Valid r → first_refused (rename_member_tests r n name) ≡ None → Valid (record r { members = renamed n name r.members })
member_renamed r n name fits s ok =
    let t = no_refusal (rename_member_tests r n name) ok in
    let at = found (find member_key (n ∷ []) r.members) (is_there (find member_key (n ∷ []) r.members) Members (Number n) t.0) in
    let m = at.0 in
    let was : ValidMember m = all_found member_key ValidMember (n ∷ []) m r.members s.members.each at.1 in
    let texts = and_parts (is_macro m.as_macro) (is_label m.name) was.texts in
    subst (λ (ns : List Member). Valid (record r { members = ns })) (sym (changed_there member_key (n ∷ []) (λ m. record m { name = name }) r.members m at.1))
    (member_kept r n m (record m { name = name }) at.1 refl refl refl
    (record {
      fits = (was.fits.0, was.fits.1, was.fits.2, fits);
      number = was.number;
      texts = and_from (is_macro m.as_macro) (is_label name) texts.0 (holds (is_label name) (BadText Name) t.1.0);
      asn = was.asn;
    }) s)

pub macro_set : (r : Registry) (n : ℕ) (as_macro : List ℕ) → AreBytes as_macro → Valid r → first_refused (set_macro_tests r n as_macro) ≡ None → Valid (record r { members = with_macro n as_macro r.members })
macro_set r n as_macro fits s ok =
    let t = no_refusal (set_macro_tests r n as_macro) ok in
    let at = found (find member_key (n ∷ []) r.members) (is_there (find member_key (n ∷ []) r.members) Members (Number n) t.0) in
    let m = at.0 in
    let was : ValidMember m = all_found member_key ValidMember (n ∷ []) m r.members s.members.each at.1 in
    let texts = and_parts (is_macro m.as_macro) (is_label m.name) was.texts in
    subst (λ (ns : List Member). Valid (record r { members = ns })) (sym (changed_there member_key (n ∷ []) (λ m. record m { as_macro = as_macro }) r.members m at.1))
    (member_kept r n m (record m { as_macro = as_macro }) at.1 refl refl refl
    (record {
      fits = (was.fits.0, was.fits.1, fits, was.fits.3);
      number = was.number;
      texts = and_from (is_macro as_macro) (is_label m.name) (holds (is_macro as_macro) (BadText Macro) t.1.0) texts.1;
      asn = was.asn;
    }) s)

and_off : (a b : Bool) → (a && b) ≡ false → b ≡ true → a ≡ false
and_off false b e h = refl
and_off true b e h = sym h ∙ e

same_number : (m n : ℕ) → m ≡ n → (n == m) ≡ true
same_number m n e = let i : same (m ∷ []) (n ∷ []) ≡ true = subst (λ (k : ℕ). same (m ∷ []) (k ∷ []) ≡ true) e (same_itself (m ∷ [])) in sym (one_number m n) ∙ i

pub status_moved : (r : Registry) (n : ℕ) (to : Status) → Valid r → first_refused (move_status_tests r n to) ≡ None → Valid (record r { members = with_status n to r.members })
status_moved r n to s ok =
    let ms = r.members in
    let rest = λ (m : Member). refused (not (may_move m.status to)) (StatusMove m.status to)
    ∷ in_use_by Interfaces (λ i. Number i.number) (first_with (λ i. is_left to && i.member == n) r.interfaces)
    ∷ too_heavy (weight (with_status n to ms) r.interfaces r.routers r.irr) ∷ [] in
    let at = there (find member_key (n ∷ []) ms) Members (Number n) rest ok in
    let m = at.0 in
    let m' : Member = record m { status = to } in
    let t = no_refusal (rest m) at.2 in
    let e : with_status n to ms ≡ put member_key m' ms = changed_there member_key (n ∷ []) (λ m. record m { status = to }) ms m at.1 in
    let free = nobody_uses Interfaces (λ i. Number i.number) (λ i. is_left to && i.member == n) r.interfaces t.1.0 in
    let light = is_light (weight (with_status n to ms) r.interfaces r.routers r.irr) t.1.1.0 in
    let was : ValidMember m = all_found member_key ValidMember (n ∷ []) m ms s.members.each at.1 in
    let key : m.number ≡ n = head_same m.number n [] [] (find-key member_key (n ∷ []) m ms at.1) in
    subst (λ (ns : List Member). Valid (record r { members = ns })) (sym e)
    (member_set r n m m' at.1 refl refl (record { fits = was.fits; number = was.number; texts = was.texts; asn = was.asn })
    (all_weaker (λ i. NamesOfInterface ms r.ports r.vlans i × ((is_left to && i.member == n) ≡ false)) (λ i. has_left (put member_key m' ms) i.member ≡ false)
    (λ i x. look_put member_key left_row false m' (i.member ∷ []) ms (λ same was. and_off (is_left to) (i.member == n) x.1 (same_number n i.member (sym key ∙ head_same m.number i.member [] [] same))) x.0.stays)
    r.interfaces (all_both (NamesOfInterface ms r.ports r.vlans) (λ i. (is_left to && i.member == n) ≡ false) r.interfaces s.interfaces.named free))
    (subst (λ (ns : List Member). weight ns r.interfaces r.routers r.irr ≤ 8000000) e light) s)
