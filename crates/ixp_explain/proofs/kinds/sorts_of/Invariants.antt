use Rattle.std.proofs.Common.{◌≡◌, [], drop, map}
use Rattle.ixp_lang.specs.Views.{item_view, config_view}
use Rattle.ixp_explain.specs.Kinds.{sorts_after}
use Rattle.ixp_explain.proofs.kinds.sorts_of.Given as goal

abbrev pub invariant-items : goal.invariant-items
invariant-items l = sorts_after l.sorts (map item_view (drop l.item-index l.item-items)) ≡ sorts_after [] (config_view l.config)
