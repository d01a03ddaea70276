use Rattle.std.proofs.Common.{◌≡◌, ◌++◌, length}
use Rattle.ixp_compile_text.specs.Sessions.{sessions_text}
use Rattle.ixp_compile_text.proofs.texts.put_sessions.Given as goal

abbrev pub invariant-each : goal.invariant-each
invariant-each l =
    l.out.items ++ sessions_text l.registry l.router l.left ≡ l.fn.out.items ++ sessions_text l.registry l.router l.registry.interfaces

abbrev pub decreases-each : goal.decreases-each
decreases-each l = length l.left
