use Rattle.std.proofs.Common.{◌≡◌, drop, map}
use Rattle.ixp_lang.specs.Views.{item_view}
use Rattle.ixp_eval.specs.Indexed.{items_of}
use Rattle.ixp_lang.specs.Walks.{sent_to, bgp_sessions}
use Rattle.ixp_eval.specs.Views.{environment_of}
use Rattle.ixp_eval.proofs.Going.{carried}
use Rattle.ixp_eval.proofs.walks.sent_to.Given as goal

abbrev pub invariant-items : goal.invariant-items
invariant-items l =
    carried l.sent (sent_to (environment_of l.env) (items_of l.index) l.sender l.primary (bgp_sessions (map item_view (drop l.item-index l.item-items))) l.route)
    ≡ sent_to (environment_of l.env) (items_of l.index) l.sender l.primary (bgp_sessions (items_of l.index)) l.route
