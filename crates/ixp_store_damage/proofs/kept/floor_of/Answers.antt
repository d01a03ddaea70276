use Rattle.std.proofs.Common.{◌≡◌, true, false, decimal, sym, ap, ◌∙◌}
use Rattle.ixp_io.specs.Tables.{row_entry}
use Rattle.ixp_rows_lines.proofs.Spelling.{none_some}
use Rattle.ixp_store_rows.specs.Names.{floor_name}
use Rattle.ixp_store_rows.specs.States.{set_row}
use Rattle.ixp_store_damage.proofs.KeptWalks.{said_floor, never_said, beyond_floors}
use Rattle.ixp_store_damage.proofs.kept.floor_of.Goals as goal

pub returns-in_default : goal.returns-in_default
returns-in_default c = λ w floor says. none_some (w, floor) (sym c.in_default.is ∙ said_floor (row_entry c.args.row.now) c.floor_said.result c.floor_said.ensures w floor says)

pub returns-then-floor-eq0 : goal.returns-then-floor-eq0
returns-then-floor-eq0 c = λ w floor says.
    let same = never_said (row_entry c.args.row.now) c.floor_said.result c.in-Some.owner w c.in-Some.floor floor c.in-Some.is (said_floor (row_entry c.args.row.now) c.floor_said.result c.floor_said.ensures w floor says) in
    beyond_floors c.in-Some.floor floor c.then-floor-eq0.either same.1 says.least says.most

pub returns-else-sets : goal.returns-else-sets
returns-else-sets c = λ w floor says.
    let same = never_said (row_entry c.args.row.now) c.floor_said.result c.in-Some.owner w c.in-Some.floor floor c.in-Some.is (said_floor (row_entry c.args.row.now) c.floor_said.result c.floor_said.ensures w floor says) in
    let change : c.in_ok-change.change ≡ set_row (row_entry c.args.row.now) = c.in_ok-change.ensures ∙ ((λ i. set_row (floor_name (same.0 i), decimal (same.1 i))) ∙ ap set_row (sym says.row)) in
    let bad : true ≡ false = sym (c.sets.ensures.1 change) ∙ c.if-sets.false in
    absurd cc
