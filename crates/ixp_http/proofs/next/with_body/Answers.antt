use Rattle.std.proofs.Common.{arith}
use Rattle.std.proofs.lemmas.Grind.{common_steps}
use Rattle.ixp_http.proofs.Bodies.{body_came, body_cut}
use Rattle.ixp_http.proofs.next.with_body.Goals as goal

pub returns-then-not-branch-clause-answers : goal.returns-then-not-branch-clause-answers
returns-then-not-branch-clause-answers g c =
    let ended = c.in_ok-fill_body.ensures.ended (grind arith) in
    body_cut _ _ c.args.head c.args.at c.args.size _ _ c.in_ok-fill_body.ensures.together ended.1 (omega (arith, c.in_ok-fill_body.ensures.grows)) ended.0

pub returns-clause-answers : goal.returns-clause-answers
returns-clause-answers g c =
    body_came _ _ c.args.head c.args.at c.args.size _ _ _ _ c.in_ok-fill_body.ensures.together (c.in_ok-fill_body.ensures.came (grind arith))
    (grind (arith, common_steps, c.in_ok-request.ensures, c.in_ok-body.ensures, c.as_slice.ensures)) (c.in_ok-skip.ensures.ok)
