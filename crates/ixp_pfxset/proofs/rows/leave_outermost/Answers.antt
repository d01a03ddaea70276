use Rattle.std.proofs.Common.{◌≡◌, ◌<◌, true, false, not, length, sym, ap, ◌∙◌, arith}
use Rattle.std.proofs.lemmas.List.Filters.{FiltersInPlace-all, FiltersInPlace-more_no, FiltersInPlace-more_set}
use Rattle.ixp_num.specs.declared.prefix.Prefix.{Prefix}
use Rattle.ixp_pfxset.specs.Plain.{is_under, is_within}
use Rattle.ixp_pfxset.proofs.Standing.{skipped, still_there, taken, tells}
use Rattle.ixp_pfxset.proofs.rows.leave_outermost.Goals as goal
use Rattle.ixp_pfxset.proofs.rows.leave_outermost.Goals.{then-not-is_under, else-not-is_under}

pub each-preserved : goal.each-preserved
each-preserved c =
    let list = c.args.list.now.items in
    let now = c.each.list.items in
    let i = c.each.i in
    let r = c.index.result.now in
    let so_far = c.each.invariant.0 in
    let last = c.each.invariant.1 in
    let less = c.each-test.true in
    let whole = so_far.long in
    let inside : i < length now = omega arith in
    let short : i < length list = omega arith in
    let at = still_there list now i r so_far.rest c.index.ensures in
    let keep = λ (x : Prefix). not (is_within list x) in
    let same = tells list c.requires i r short at c.each.last last in
    elim c.if-not-is_under.branch [
      | then-not-is_under w ↦
          (let apart : is_under c.each.last r ≡ false = sym c.is_under.ensures ∙ w.if-not-is_under.true in
          let kept : keep r ≡ true = ap not (same ∙ apart) in
          rw (w.list-is, w.left-is, w.last-is) (FiltersInPlace-more_set so_far inside kept c.index.ensures, taken list c.requires i r short at c.each.last last apart))
      | else-not-is_under w ↦
          (let under : is_under c.each.last r ≡ true = sym c.is_under.ensures ∙ w.if-not-is_under.false in
          let left : keep r ≡ false = ap not (same ∙ under) in
          rw (w.list-is, w.left-is, w.last-is) (FiltersInPlace-more_no so_far inside left c.index.ensures, skipped list c.requires i r short at c.each.last last under))
    ]

pub returns : goal.returns
returns c =
    let so_far = c.each.invariant.0 in
    let over = c.each-test.false in
    c.truncate.ensures.items ∙ FiltersInPlace-all so_far (omega arith)
