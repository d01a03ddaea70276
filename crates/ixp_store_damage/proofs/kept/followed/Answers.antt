use Rattle.std.proofs.Common.{◌≡◌, ◌≤◌, true, false, arith, sym, ◌∙◌, subst}
use Rattle.ixp_io.specs.Tables.{row_entry}
use Rattle.ixp_num_tables.specs.Tables.{Ascends}
use Rattle.ixp_store_damage.specs.Damages.{IsOwner}
use Rattle.ixp_store_words.specs.Gathering.{floor_at}
use Rattle.ixp_store_words.specs.Opening.{entry_name}
use Rattle.ixp_store_damage.proofs.KeptWalks.{below_floor, not_counted, follows}
use Rattle.ixp_store_damage.proofs.kept.followed.Goals as goal

pub returns-then-floor_in-number : goal.returns-then-floor_in-number
returns-then-floor_in-number c = λ es before is up are counted run.
    below_floor es before up c.args.floors.now are c.args.count counted (row_entry c.args.row.now) c.in-Some.owner c.in-Some.number (rw c.in-Some.is at c.in_ok-owner.ensures)
    (λ le. omega (arith, le, c.floor_in.ensures, c.if-floor_in-number.true))

pub returns-then-not-is_counted : goal.returns-then-not-is_counted
returns-then-not-is_counted c = λ es before is up are counted run.
    not_counted es before up c.args.floors.now are c.args.count counted (row_entry c.args.row.now) c.in-Some.owner c.in-Some.number (rw c.in-Some.is at c.in_ok-owner.ensures)
    (λ place. absurd (let bad : true ≡ false = sym (c.is_counted.ensures.1 place) ∙ c.if-not-is_counted.true in cc))

pub returns : goal.returns
returns c = λ es before is up are counted run.
    let known = (c.in_ok-is_owner.ensures (subst (Ascends entry_name) is up)).0 c.if-not-branch.false in
    let above : floor_at c.args.floors.now c.in-Some.owner ≤ c.in-Some.number.number = omega (arith, c.floor_in.ensures, c.if-floor_in-number.false) in
    follows es before up c.args.floors.now are c.args.count counted (row_entry c.args.row.now) c.in-Some.owner c.in-Some.number (rw c.in-Some.is at c.in_ok-owner.ensures)
    (subst (λ l. IsOwner l c.in-Some.owner) (sym is) known) above (c.is_counted.ensures.0 c.if-not-is_counted.false) c.one_more.result (c.one_more.ensures before run)
