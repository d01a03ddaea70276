use Rattle.std.proofs.Common.{◌≡◌, ◌++◌, drop, map}
use Rattle.ixp_lang.specs.Views.{item_view}
use Rattle.ixp_print.specs.Texts.{config_text}
use Rattle.ixp_print.proofs.item.put_config.Given as goal

abbrev pub invariant-each : goal.invariant-each
invariant-each l = l.out.items ++ config_text (map item_view (drop l.item-index l.config.items.items)) ≡ l.fn.out.items ++ config_text (map item_view l.config.items.items)
