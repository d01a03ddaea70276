use Rattle.std.proofs.Common.{◌≡◌, ◌++◌, length}
use Rattle.ixp_lang.specs.Views.{stmts_view}
use Rattle.ixp_compile.specs.MemberRules.{advertise_rules}
use Rattle.ixp_compile_sessions.proofs.member_rules.add_advertise_rules.Given as goal

abbrev pub invariant-each : goal.invariant-each
invariant-each l =
    stmts_view l.body.items ++ advertise_rules l.rs.0 l.family l.left ≡ stmts_view l.fn.body.items ++ advertise_rules l.rs.0 l.family l.rules

abbrev pub decreases-each : goal.decreases-each
decreases-each l = length l.left
