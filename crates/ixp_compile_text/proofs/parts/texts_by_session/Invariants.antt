use Rattle.std.proofs.Common.{◌≡◌, ◌++◌, filter_map, length}
use Rattle.ixp_compile_text.specs.Parts.{session_text_at, texts_by_session}
use Rattle.ixp_compile_text.proofs.parts.texts_by_session.Given as goal

abbrev pub invariant-each : goal.invariant-each
invariant-each l = l.made.items ++ filter_map (session_text_at l.registry l.router) l.left ≡ texts_by_session l.registry l.router

abbrev pub decreases-each : goal.decreases-each
decreases-each l = length l.left
