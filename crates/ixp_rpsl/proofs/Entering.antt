-- What the values of `members` list.
use Rattle.std.proofs.Common.{ℕ, ◌++◌, List, Result, Ok, Err}
use Rattle.ixp_rpsl.specs.declared.objects.Item.{Item}

-- items before those of a list
abbrev pub with_items : List Item → Result (List Item) ℕ → Result (List Item) ℕ
with_items before (Ok items) = Ok (before ++ items)
with_items before (Err n) = Err n
