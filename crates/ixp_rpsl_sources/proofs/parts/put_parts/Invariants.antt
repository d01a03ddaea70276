use Rattle.std.proofs.Common.{◌≡◌, ◌+◌, ◌++◌, ◌==◌, length}
use Rattle.std.specs.List.{slice_split}
use Rattle.std.specs.Option.{option_map, unwrap_or}
use Rattle.ixp_rpsl.specs.Puts.{parts_of}
use Rattle.ixp_rpsl_sources.specs.Parts.{in_parts}
use Rattle.ixp_rpsl_sources.proofs.parts.put_parts.Given as goal

abbrev pub invariant-parts : goal.invariant-parts
invariant-parts g l =
    let says = g.S.Says.says in
    l.out ++ in_parts says l.fn.value.line (parts_of 44 (option_map (λ r. r.now) l.left)) ≡ l.fn.out ++ in_parts says l.fn.value.line (slice_split (λ b. b == 44) l.fn.value.value)

abbrev pub decreases-parts : goal.decreases-parts
decreases-parts g l = unwrap_or (option_map (λ r. length r.now + 1) l.left) 0
