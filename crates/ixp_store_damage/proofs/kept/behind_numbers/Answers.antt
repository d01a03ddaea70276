use Rattle.std.proofs.Common.{map, ap, sym, refl, subst}
use Rattle.ixp_io.specs.Tables.{row_entry}
use Rattle.ixp_rows.proofs.Gathered.{no_rows}
use Rattle.ixp_store_damage.specs.Walking.{KeptNoted, Reached}
use Rattle.ixp_store_damage.proofs.BrokenLines.{first_told}
use Rattle.ixp_store_damage.proofs.KeptWalks.{all_floors, kept_start, kept_next, kept_wrong, kept_end, kept_done}
use Rattle.ixp_store_damage.proofs.kept.behind_numbers.Goals as goal

pub rows-init : goal.rows-init
rows-init c = λ es is counted n. kept_start es (map row_entry c.args.first.now) c.args.floors.now _ refl n

pub returns-then-row-ne-KEPT-clause-reached : goal.returns-then-row-ne-KEPT-clause-reached
returns-then-row-ne-KEPT-clause-reached c = λ es is counted n.
    let first = ap (map row_entry) c.in-Some.ensures.cases.0 in
    subst (Reached 20 20 es) (sym first)
    (kept_end es (row_entry c.in-Some.row.now) (map row_entry c.in-Some.others.now) c.args.floors.now c.rows.run (subst (λ l. KeptNoted es l c.args.floors.now c.rows.run) first (c.rows.invariant es is counted n)) c.if-row-ne-KEPT.true)

pub returns-in-None-clause-told : goal.returns-in-None-clause-told
returns-in-None-clause-told c = λ es is counted n.
    let first = ap (map row_entry) c.in-Some.ensures.cases.0 in
    let noted = subst (λ l. KeptNoted es l c.args.floors.now c.rows.run) first (c.rows.invariant es is counted n) in
    let floors = all_floors es (row_entry c.in-Some.row.now) (map row_entry c.in-Some.others.now) c.args.floors.now c.rows.run noted c.if-row-ne-KEPT.false in
    let wrong = rw c.in-None.is at (c.in_ok-next.ensures es noted.at.before is noted.at.up floors counted noted.run_is) in
    first_told es c.in-Some.row.now.name c.damaged.result c.damaged.ensures (kept_wrong es (row_entry c.in-Some.row.now) (map row_entry c.in-Some.others.now) c.args.floors.now c.rows.run noted c.if-row-ne-KEPT.false wrong)

pub rows-preserved : goal.rows-preserved
rows-preserved c = λ es is counted n.
    let first = ap (map row_entry) c.in-Some.ensures.cases.0 in
    let noted = subst (λ l. KeptNoted es l c.args.floors.now c.rows.run) first (c.rows.invariant es is counted n) in
    let floors = all_floors es (row_entry c.in-Some.row.now) (map row_entry c.in-Some.others.now) c.args.floors.now c.rows.run noted c.if-row-ne-KEPT.false in
    let follows = rw c.in-Some-2.is at (c.in_ok-next.ensures es noted.at.before is noted.at.up floors counted noted.run_is) in
    kept_next es (row_entry c.in-Some.row.now) (map row_entry c.in-Some.others.now) c.args.floors.now c.rows.run c.in-Some-2.next noted c.if-row-ne-KEPT.false follows

pub returns-clause-reached : goal.returns-clause-reached
returns-clause-reached c = λ es is counted n.
    let none = no_rows c.rows.left.now c.in_default.ensures.cases in
    subst (λ l. Reached 20 20 es (map row_entry l)) (sym none)
    (kept_done es c.args.floors.now c.rows.run (subst (λ l. KeptNoted es (map row_entry l) c.args.floors.now c.rows.run) none (c.rows.invariant es is counted n)))
