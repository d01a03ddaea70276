use Rattle.std.proofs.Common.{◌≡◌, drop, map}
use Rattle.ixp_lang.specs.Views.{item_view}
use Rattle.ixp_lang.specs.Walks.{session_named, bgp_sessions}
use Rattle.ixp_eval.proofs.walks.session_named.Given as goal

abbrev pub invariant-items : goal.invariant-items
invariant-items l = session_named (bgp_sessions (map item_view (drop l.item-index l.items))) l.name ≡ session_named (bgp_sessions (map item_view l.items)) l.name
