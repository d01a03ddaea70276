use Rattle.std.proofs.Common.{rules, ◌≡◌, ◌≢◌, Some}
use Rattle.ixp_lang.specs.Views.{config_view}
use Rattle.ixp_lang.specs.Walks.{bgp_sessions, session_named}
use Rattle.ixp_cli_plain.proofs.Evaluating.{of_one_family, of_other_family}
use Rattle.ixp_cli_plain.proofs.eval.is_of_other_family.Goals as goal

pub returns-then-eq : goal.returns-then-eq
returns-then-eq c =
    let named : session_named (bgp_sessions (config_view c.args.config.now)) c.args.trial.now.session ≡ Some c.in-Some.session.now = search rules in
    let same : c.in-Some.session.now.family ≡ c.args.trial.now.route.net.family = search rules in
    of_one_family (config_view c.args.config.now) c.args.trial.now c.in-Some.session.now named same

pub returns-else-eq : goal.returns-else-eq
returns-else-eq c =
    let named : session_named (bgp_sessions (config_view c.args.config.now)) c.args.trial.now.session ≡ Some c.in-Some.session.now = search rules in
    let other : c.in-Some.session.now.family ≢ c.args.trial.now.route.net.family = search rules in
    of_other_family (config_view c.args.config.now) c.args.trial.now c.in-Some.session.now named other
