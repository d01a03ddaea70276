use Rattle.std.proofs.Common.{map, refl}
use Rattle.ixp_io.specs.Tables.{row_entry}
use Rattle.ixp_store_load.proofs.RightStates.{some_state}
use Rattle.ixp_store_load.proofs.opened.damage_of.Goals as goal

pub returns-in-Ok : goal.returns-in-Ok
returns-in-Ok c = λ up none. absurd (some_state (map row_entry c.args.rows.now) up (c.in-Ok.ensures.right up refl) (c.in-Ok.ensures.sound up refl) none)
