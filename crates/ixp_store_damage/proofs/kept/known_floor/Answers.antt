use Rattle.std.proofs.Common.{◌≡◌, true, false, map, sym, ◌∙◌}
use Rattle.ixp_io.specs.Tables.{row_entry}
use Rattle.ixp_store_damage.proofs.KeptWalks.{owner_unknown}
use Rattle.ixp_store_damage.proofs.kept.known_floor.Goals as goal

pub returns-else-branch : goal.returns-else-branch
returns-else-branch c = λ up.
    owner_unknown (map row_entry c.args.rows.now) c.in-Some.kept (row_entry c.args.row.now) (rw c.in-Some.is at c.in_ok-kept.ensures)
    (λ is. absurd (let bad : true ≡ false = sym ((c.in_ok-is_owner.ensures up).1 is) ∙ c.if-branch.false in cc))
