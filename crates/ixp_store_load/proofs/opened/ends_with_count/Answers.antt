use Rattle.std.proofs.Common.{rules, ◌≡◌, true, false, sym, ◌∙◌}
use Rattle.std.specs.Option.{is_none}
use Rattle.ixp_rows.proofs.Gathered.{no_rows}
use Rattle.ixp_store_damage.proofs.FaultsTold.{no_count, stray_told, other_count, wrong_count, told_behind, all_right}
use Rattle.ixp_store_load.proofs.opened.ends_with_count.Goals as goal

pub returns-in_default-clause-told : goal.returns-in_default-clause-told
returns-in_default-clause-told c = λ es r counted. no_count es c.args.left.now r c.missing.result (no_rows c.args.left.now c.in_default.ensures.cases) c.missing.ensures

pub returns-then-row-lt-COUNT-clause-told : goal.returns-then-row-lt-COUNT-clause-told
returns-then-row-lt-COUNT-clause-told c = λ es r counted.
    stray_told es c.args.left.now r c.in-Some.row.now c.in-Some.others.now c.in-Some.ensures.cases.0 c.damaged.result c.if-row-lt-COUNT.true c.damaged.ensures

pub returns-then-not-is_count-clause-told : goal.returns-then-not-is_count-clause-told
returns-then-not-is_count-clause-told c = λ es r counted.
    other_count es c.args.left.now r c.in-Some.row.now c.in-Some.others.now c.in-Some.ensures.cases.0 c.missing-then-not-is_count.result c.if-row-lt-COUNT.false (sym c.is_count.ensures ∙ c.if-not-is_count.true) c.missing-then-not-is_count.ensures

pub returns-then-is_none-clause-told : goal.returns-then-is_none-clause-told
returns-then-is_none-clause-told c = λ es r counted.
    let none : is_none c.args.count ≡ true = search rules in
    wrong_count es c.args.left.now r c.in-Some.row.now c.in-Some.others.now c.in-Some.ensures.cases.0 c.damaged-then-is_none.result c.args.count (sym c.is_count.ensures ∙ c.if-not-is_count.false) counted none c.damaged-then-is_none.ensures

pub returns-in-Some-split_first-clause-told : goal.returns-in-Some-split_first-clause-told
returns-in-Some-split_first-clause-told c = λ es r counted.
    let some : is_none c.args.count ≡ false = search rules in
    told_behind es c.args.left.now r c.in-Some.row.now c.in-Some.others.now c.in-Some.ensures.cases.0 c.damaged-in-Some-split_first.result c.args.count (sym c.is_count.ensures ∙ c.if-not-is_count.false) counted some
    c.in-Some-split_first.other.now c.in-Some-split_first.field-0-1.now c.in-Some-split_first.ensures.cases.0 c.damaged-in-Some-split_first.ensures

pub returns-in-None-clause-right : goal.returns-in-None-clause-right
returns-in-None-clause-right c = λ es r counted ok.
    let some : is_none c.args.count ≡ false = search rules in
    all_right es c.args.left.now r c.in-Some.row.now c.in-Some.others.now c.in-Some.ensures.cases.0 c.args.count (sym c.is_count.ensures ∙ c.if-not-is_count.false) counted some (no_rows c.in-Some.others.now c.in-None.ensures.cases)
