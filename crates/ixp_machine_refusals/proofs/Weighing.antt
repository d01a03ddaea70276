-- Members who weigh as before.
use Rattle.std.proofs.Common.{◌≡◌, ℕ, ◌+◌, Bool, false, List, [], ◌∷◌, Option, sym, ap, if◌then◌else◌}
use Rattle.ixp_num_tables.specs.Tables.{put, if_there}
use Rattle.ixp_num_tables.proofs.AllItems.{all_true}
use Rattle.ixp_num_tables.proofs.Looking.{look_kept}
use Rattle.ixp_num_tables.proofs.SumLaws.{total_same}
use Rattle.ixp_registry.specs.declared.lists.IrrList.{IrrList}
use Rattle.ixp_registry.specs.declared.members.Member.{Member}
use Rattle.ixp_registry.specs.declared.network.Interface.{Interface}
use Rattle.ixp_registry.specs.declared.router.Router.{Router}
use Rattle.ixp_registry.specs.declared.registry.Registry.{Registry}
use Rattle.ixp_registry.specs.Keys.{member_key}
use Rattle.ixp_registry.specs.Lookups.{is_connected, is_member_connected}
use Rattle.ixp_registry.specs.Weight.{weight, interface_weight, column_weight}

abbrev connected_row : Option Member → Bool
connected_row o = if_there o false (λ m. is_connected m.status)

-- where the same members are connected
same_weights : (ms ns : List Member) (is : List Interface) (qs : List Router) (ls : List IrrList) → ((n : ℕ) → is_member_connected ns n ≡ is_member_connected ms n) → weight ns is qs ls ≡ weight ms is qs ls
same_weights ms ns is qs ls same =
    total_same (interface_weight ns qs ls) (interface_weight ms qs ls) is
    (all_true (λ i. interface_weight ns qs ls i ≡ interface_weight ms qs ls i)
    (λ i. ap (λ b. if b then column_weight qs ls i.member i.vlan i.v4 + column_weight qs ls i.member i.vlan i.v6 else 0) (same i.member)) is)

-- where a member's row leaves it connected or not, as it was
pub member_weighs_same : (r : Registry) (m : Member) → is_member_connected r.members m.number ≡ is_connected m.status
    → weight (put member_key m r.members) r.interfaces r.routers r.irr ≡ weight r.members r.interfaces r.routers r.irr
member_weighs_same r m same =
    same_weights r.members (put member_key m r.members) r.interfaces r.routers r.irr
    (λ n. look_kept member_key connected_row m r.members (n ∷ []) (sym same))
