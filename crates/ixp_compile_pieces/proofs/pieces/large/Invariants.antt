use Rattle.std.proofs.Common.{◌≡◌, ℕ, map, take}
use Rattle.ixp_compile_pieces.proofs.pieces.large.Given as goal

abbrev pub invariant-each : goal.invariant-each
invariant-each l = l.triples ≡ map (λ (a : ℕ). (l.rs.0, a, l.last)) (take l.action-index l.actions)
