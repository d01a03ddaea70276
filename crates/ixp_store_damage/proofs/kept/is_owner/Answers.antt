use Rattle.std.proofs.Common.{IsTrue, IfOk, ◌↔◌, map, sym, subst}
use Rattle.ixp_io.specs.Tables.{row_entry}
use Rattle.ixp_store_damage.specs.Damages.{IsOwner}
use Rattle.ixp_store_damage.proofs.kept.is_owner.Goals as goal

pub returns-in-Member : goal.returns-in-Member
returns-in-Member c = λ up. subst (λ o. IfOk c.has_member.result (λ is. IsTrue is ↔ IsOwner (map row_entry c.args.rows.now) o)) (sym c.in-Member.is) (c.has_member.ensures up)
