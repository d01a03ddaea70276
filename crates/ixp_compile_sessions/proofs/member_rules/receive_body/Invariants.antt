use Rattle.std.proofs.Common.{◌≡◌, ◌++◌, drop, map, filter}
use Rattle.ixp_lang.specs.Views.{stmts_view}
use Rattle.ixp_compile.specs.MemberRules.{is_receive, receive_rule}
use Rattle.ixp_compile_sessions.proofs.member_rules.receive_body.Given as goal

abbrev pub invariant-each : goal.invariant-each
invariant-each l =
    stmts_view l.body.items ++ map receive_rule (filter (is_receive l.family) (drop l.rule-index l.rules))
    ≡ map receive_rule (filter (is_receive l.family) l.rules)
