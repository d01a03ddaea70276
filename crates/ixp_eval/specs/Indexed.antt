-- The items of an index.
use Rattle.std.specs.Prelude.{ℕ, Bool, false, List, map, take, Option, Some, None}
use Rattle.ixp_lang.specs.Meaning.{same_name}
use Rattle.ixp_lang.specs.declared.item.Ty.{Ty}
use Rattle.ixp_lang.specs.Trees.{ExprTree, StmtTrees, ItemTree, define_item, function_item, filter_item}
use Rattle.ixp_lang.specs.Views.{item_view}
use Rattle.ixp_eval.specs.declared.search.Before.{Before}
use Rattle.ixp_eval.specs.declared.index.Index.{Index}
use Rattle.ixp_eval.specs.declared.search.Sort.{Sort}
use Rattle.ixp_eval.specs.declared.search.Sort.TheVariants.{Define, Filter, Function}

abbrev pub items_of : Index → List ItemTree
items_of index = map item_view index.items.now

-- the items before the place
abbrev pub items_before : Before → List ItemTree
items_before b = take b.count (items_of b.index.now)

-- the item is of the sort and has the name
abbrev pub is_of : Sort → List ℕ → ItemTree → Bool
is_of Define n (define_item m e) = same_name m n
is_of Filter n (filter_item m ss) = same_name m n
is_of Function n (function_item m ps ss) = same_name m n
is_of sort n i = false

-- the parameters and the body of a function, the value of a define, the body of a filter
abbrev pub function_parts : ItemTree → Option (List (Ty × List ℕ) × StmtTrees)
function_parts (function_item m ps ss) = Some (ps, ss)
function_parts i = None

abbrev pub define_part : ItemTree → Option ExprTree
define_part (define_item m e) = Some e
define_part i = None

abbrev pub filter_part : ItemTree → Option StmtTrees
filter_part (filter_item m ss) = Some ss
filter_part i = None
