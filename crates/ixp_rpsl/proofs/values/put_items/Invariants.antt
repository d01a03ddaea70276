use Rattle.std.proofs.Common.{◌+◌, Bool, List, length}
use Rattle.std.specs.Option.{option_map, unwrap_or}
use Rattle.ixp_rpsl.specs.Values.{items_in, items_of}
use Rattle.ixp_rpsl.specs.Puts.{Puts, parts_of}
use Rattle.ixp_rpsl.specs.declared.objects.Item.{Item}
use Rattle.ixp_rpsl.proofs.values.put_items.Given as goal

abbrev pub invariant-parts : goal.invariant-parts
invariant-parts l =
    (fine : Bool) (new : List Item) → Puts (items_in (parts_of 44 (option_map (λ r. r.now) l.left))) fine l.items new → Puts (items_of l.fn.value) fine l.fn.items new

abbrev pub decreases-parts : goal.decreases-parts
decreases-parts l = unwrap_or (option_map (λ r. length r.now + 1) l.left) 0
