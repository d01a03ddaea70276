use Rattle.std.proofs.Common.{◌≡◌, ◌++◌, map, option_map, length}
use Rattle.ixp_compile.specs.Generated.{inputs}
use Rattle.ixp_registry.specs.Sessions.{session}
use Rattle.ixp_compile_text.proofs.parts.inputs_among.Given as goal

abbrev pub invariant-each : goal.invariant-each
invariant-each l =
    l.found.items ++ map (λ n. (n, option_map (inputs l.registry l.router) (session l.registry l.router n))) l.left
    ≡ map (λ n. (n, option_map (inputs l.registry l.router) (session l.registry l.router n))) l.interfaces

abbrev pub decreases-each : goal.decreases-each
decreases-each l = length l.left
