-- What the program makes, as trees.
use Rattle.std.specs.Prelude.{List, map}
use Rattle.ixp_lang.specs.declared.item.Item.{Item}
use Rattle.ixp_lang.specs.Trees.{ItemTree}
use Rattle.ixp_lang.specs.Views.{item_view}

-- the trees of items
abbrev pub items_view : List Item → List ItemTree
items_view = map item_view
