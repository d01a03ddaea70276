use Rattle.std.proofs.Common.{rules, ◌≡◌, ◌≢◌, inr, refl, sym}
use Rattle.ixp_cli_plain.proofs.fate.astray.Goals as goal

pub returns-then-eq : goal.returns-then-eq
returns-then-eq c =
    let same : c.args.route.now.route.net.family ≡ c.args.router.now.family = search rules in
    record { sender = _; is_sender = sym c.in-Some.ensures; is_of_family = same }

pub returns-else-eq : goal.returns-else-eq
returns-else-eq c =
    let other : c.args.route.now.route.net.family ≢ c.args.router.now.family = search rules in
    inr (_, sym c.in-Some.ensures, other, refl)
