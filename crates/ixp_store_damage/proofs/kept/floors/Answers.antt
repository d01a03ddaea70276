use Rattle.std.proofs.Common.{map, ap, sym, subst}
use Rattle.ixp_io.specs.Tables.{row_entry}
use Rattle.ixp_rows.proofs.Gathered.{no_rows}
use Rattle.ixp_num_tables.specs.Tables.{Ascends}
use Rattle.ixp_store_damage.specs.Damages.{IsFloorRow, IsOwner}
use Rattle.ixp_store_words.specs.Opening.{entry_name}
use Rattle.ixp_store_damage.specs.Walking.{FloorsNoted}
use Rattle.ixp_store_damage.proofs.BrokenLines.{first_told}
use Rattle.ixp_store_damage.proofs.KeptWalks.{floors_start, floors_next, floor_wrong, floors_end, floors_done}
use Rattle.ixp_store_damage.proofs.kept.floors.Goals as goal

pub rows-init : goal.rows-init
rows-init c = λ es is r. floors_start es (map row_entry c.args.first.now) c.new-kept.result c.new-kept.ensures r

pub returns-then-row-ne-FLOORS-clause-noted : goal.returns-then-row-ne-FLOORS-clause-noted
returns-then-row-ne-FLOORS-clause-noted c = λ es is r.
    let first = ap (map row_entry) c.in-Some.ensures.cases.0 in
    subst (λ l. FloorsNoted 19 es l c.rows.kept) (sym first)
    (floors_end es (row_entry c.in-Some.row.now) (map row_entry c.in-Some.others.now) c.rows.kept (subst (λ l. FloorsNoted 18 es l c.rows.kept) first (c.rows.invariant es is r)) c.if-row-ne-FLOORS.true)

pub returns-in-None-clause-told : goal.returns-in-None-clause-told
returns-in-None-clause-told c = λ es is r.
    let first = ap (map row_entry) c.in-Some.ensures.cases.0 in
    let noted = subst (λ l. FloorsNoted 18 es l c.rows.kept) first (c.rows.invariant es is r) in
    let up = subst (Ascends entry_name) is r.up in
    let wrong = rw c.in-None.is at (c.in_ok-owner.ensures up) in
    first_told es c.in-Some.row.now.name c.damaged.result c.damaged.ensures
    (floor_wrong es (row_entry c.in-Some.row.now) (map row_entry c.in-Some.others.now) c.rows.kept noted c.if-row-ne-FLOORS.false (λ row. wrong (subst (λ l. IsFloorRow l (row_entry c.in-Some.row.now)) is row)))

pub rows-preserved : goal.rows-preserved
rows-preserved c = λ es is r.
    let first = ap (map row_entry) c.in-Some.ensures.cases.0 in
    let noted = subst (λ l. FloorsNoted 18 es l c.rows.kept) first (c.rows.invariant es is r) in
    let up = subst (Ascends entry_name) is r.up in
    let says = rw c.in-Some-2.is at (c.in_ok-owner.ensures up) in
    subst (FloorsNoted 18 es (map row_entry c.in-Some.others.now)) (sym c.in_ok-put-in-Some-2.ensures.ok)
    (floors_next es (row_entry c.in-Some.row.now) (map row_entry c.in-Some.others.now) c.rows.kept c.in-Some-2.owner noted c.if-row-ne-FLOORS.false (says.0, subst (λ l. IsOwner l c.in-Some-2.owner.owner) (sym is) says.1))

pub returns-clause-noted : goal.returns-clause-noted
returns-clause-noted c = λ es is r.
    let none = no_rows c.rows.left.now c.in_default.ensures.cases in
    subst (λ l. FloorsNoted 19 es (map row_entry l) c.rows.kept) (sym none) (floors_done es c.rows.kept (subst (λ l. FloorsNoted 18 es (map row_entry l) c.rows.kept) none (c.rows.invariant es is r)))
