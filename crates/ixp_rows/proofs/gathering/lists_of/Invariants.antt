use Rattle.std.proofs.Common.{◌≡◌, ◌++◌, length, flat_map}
use Rattle.std.specs.List.{AllByRecursion}
use Rattle.ixp_num_tables.specs.Tables.{Ascends}
use Rattle.ixp_rows.proofs.Listed.{GroupsBelow}
use Rattle.ixp_rows.proofs.gathering.lists_of.Given as goal

abbrev pub invariant-lists : goal.invariant-lists
invariant-lists g l = record {
  rows : flat_map g.R.Listed.rows_in l.lists.items ++ l.left ≡ l.rows;
  up : Ascends g.R.Row.key_of l.left;
  ascends : Ascends g.R.List.Row.key_of l.lists.items;
  stand : AllByRecursion g.R.Listed.IsList l.lists.items;
  below : GroupsBelow g.R.Row.key_of g.R.Listed.group g.R.Listed.item g.R.Listed.made g.R.List.Row.key_of g.R.Listed.rows_in g.R.Listed.IsList l.lists.items l.left;
}

abbrev pub decreases-lists : goal.decreases-lists
decreases-lists g l = length l.left
