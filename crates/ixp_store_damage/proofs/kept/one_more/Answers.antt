use Rattle.std.proofs.Common.{suc, ◌≤◌, arith}
use Rattle.ixp_store_damage.proofs.KeptWalks.{ends_to, run_more}
use Rattle.ixp_store_damage.proofs.kept.one_more.Goals as goal

pub returns-then-count-lt-MOST_KEPT : goal.returns-then-count-lt-MOST_KEPT
returns-then-count-lt-MOST_KEPT c = λ before run small.
    let ends = c.count_for-count.ensures before run small in
    let less : suc c.count_for-count.result ≤ 1024 = omega (arith, c.if-count-lt-MOST_KEPT.true) in
    ((λ full. ends.1 (ends_to c.args.owner (suc c.count_for-count.result) 1024 before less full)), (λ k. run_more c.args.owner c.count_for-count.result before small ends k))

pub returns-else-count-lt-MOST_KEPT : goal.returns-else-count-lt-MOST_KEPT
returns-else-count-lt-MOST_KEPT c = λ before run small.
    let ends = c.count_for-count.ensures before run small in
    ends_to c.args.owner 1024 c.count_for-count.result before c.if-count-lt-MOST_KEPT.false ends.0
