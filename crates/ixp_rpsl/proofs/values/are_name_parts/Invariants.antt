use Rattle.std.proofs.Common.{◌≡◌, ◌+◌, ◌==◌, ◌&&◌, ◌||◌, length}
use Rattle.std.specs.List.{list_all, list_any, slice_split}
use Rattle.std.specs.Option.{option_map, unwrap_or}
use Rattle.ixp_rpsl.specs.Values.{is_name_part, is_set_part}
use Rattle.ixp_rpsl.specs.Puts.{parts_of}
use Rattle.ixp_rpsl.proofs.values.are_name_parts.Given as goal

abbrev pub invariant-parts : goal.invariant-parts
invariant-parts l =
    let left = parts_of 58 (option_map (λ r. r.now) l.left) in
    let all = slice_split (λ b. b == 58) l.fn.t in
    (list_all is_name_part left && (l.has_set || list_any is_set_part left)) ≡ (list_all is_name_part all && list_any is_set_part all)

abbrev pub decreases-parts : goal.decreases-parts
decreases-parts l = unwrap_or (option_map (λ r. length r.now + 1) l.left) 0
