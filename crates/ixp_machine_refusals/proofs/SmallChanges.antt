-- The change of an edit that isn't refused is one whose weight can be counted.
use Rattle.std.proofs.Common.{◌≡◌, ◌≤◌, ℕ, List, [], ◌∷◌, length, Option, Some, None, refl, sym, ap, ◌∙◌, subst}
use Rattle.ixp_num.specs.declared.family.Family.{Family}
use Rattle.ixp_num.specs.declared.prefix.Prefix.{Prefix}
use Rattle.ixp_num_tables.specs.Tables.{find}
use Rattle.ixp_num_tables.proofs.TableLaws.{find-key, find-equal-key}
use Rattle.ixp_registry.specs.declared.kind.Kind.TheVariants.{Prefixes}
use Rattle.ixp_registry.specs.declared.lists.IrrList.{IrrList}
use Rattle.ixp_registry.specs.declared.refusal.RowKey.TheVariants.{Handle}
use Rattle.ixp_registry.specs.declared.registry.Registry.{Registry}
use Rattle.ixp_registry.specs.declared.router.Router.{Router}
use Rattle.ixp_registry.specs.Keys.{router_key}
use Rattle.ixp_registry_change.specs.Changes.{changed_row, row_or_none}
use Rattle.ixp_machine_edits.specs.declared.edit.Edit.{Edit}
use Rattle.ixp_machine_edits.specs.declared.edit.Edit.TheVariants.{AddRouter, SetRouter, PutIrr}
use Rattle.ixp_machine_edits.specs.declared.edit.RouterSettings.{RouterSettings}
use Rattle.ixp_machine_edits.specs.Edits.{change, refusal}
use Rattle.ixp_machine_edits.specs.Lists.{put_irr_tests}
use Rattle.ixp_machine_edits.specs.Routers.{add_router_tests, new_router, with_settings}
use Rattle.ixp_machine_edits.proofs.Passing.{no_refusal, is_new, is_within}
use Rattle.ixp_machine_refusals.specs.ByTable.{FewPrefixes, InPlace, IsSmallChange}

-- two rows that are found with one key are one
one_row : (o : Option Router) (p q : Router) → o ≡ Some q → o ≡ Some p → p ≡ q
one_row o p q is found = let e : ◌≡◌ {A = Option Router} (Some q) (Some p) = sym is ∙ found in cc

settings_stay : (qs : List Router) (handle : List ℕ) (s : RouterSettings) (o : Option Router) → find router_key handle qs ≡ o
    → InPlace qs (changed_row (with_settings s) o)
settings_stay qs handle s None e = tt
settings_stay qs handle s (Some q) e = λ p found.
    let here : find router_key q.handle qs ≡ Some q =
    find-equal-key router_key q.handle handle qs (find-key router_key handle q qs e) ∙ e in
    let same : p ≡ q = one_row (find router_key q.handle qs) p q here found in
    (ap (λ (z : Router). z.vlan) same, ap (λ (z : Router). z.family) same)

few : (member : ℕ) (family : Family) (ps xs : List Prefix) → length ps ≤ 300000
    → FewPrefixes (row_or_none (record { member = member; family = family; prefixes = ps }) (member, family) xs)
few member family ps [] small = tt
few member family ps (x ∷ xs) small = small

pub small_change : (r : Registry) (e : Edit) → refusal r e ≡ None → IsSmallChange r (change r e)
small_change r (AddRouter handle vlan family address s) ok = λ p found.
    let t = no_refusal (add_router_tests r (new_router handle vlan family address s)) ok in
    let new : find router_key handle r.routers ≡ None = is_new (λ p. Handle p.handle) (find router_key handle r.routers) t.1.1.1.1.1.1.1.1.1.1.0 in
    absurd (let bad : ⊥ = cc in bad)
small_change r (SetRouter handle s) ok = settings_stay r.routers handle s (find router_key handle r.routers) refl
small_change r (PutIrr member family ps) ok =
    let t = no_refusal (put_irr_tests r member family ps) ok in
    few member family ps ps (is_within Prefixes (length ps) 300000 t.1.0)
small_change r e ok = tt
