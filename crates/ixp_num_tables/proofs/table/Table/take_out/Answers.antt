use Rattle.std.proofs.Common.{◌≡◌, ap, sym, subst, ◌∙◌}
use Rattle.ixp_num_tables.specs.Tables.{Ascends, without, place}
use Rattle.ixp_num_tables.proofs.Places.{without_here, without_gap}
use Rattle.ixp_num_tables.proofs.TableLaws.{Ascends-without}
use Rattle.ixp_num_tables.proofs.table.Table.take_out.Given.{Over}
use Rattle.ixp_num_tables.proofs.table.Table.take_out.Goals as goal

-- the rows with the row taken out
now_out : (g : Over) (c : goal.After-drop-row g) → c.remove-row.new.self.items ≡ without g.R.Row.key_of (g.R.Row.named c.args.key.now) c.self.inside.rows.items
now_out g c =
    c.remove-row.ensures.items
    ∙ without_here g.R.Row.key_of (g.R.Row.named c.args.key.now) c.self.inside.rows.items c.in-Ok.at c.self.invariant
    (c.in-Ok.ensures.place ∙ ap (place g.R.Row.key_of (g.R.Row.named c.args.key.now)) c.as_slice.ensures.value)

pub invariant_of-self : goal.invariant_of-self
invariant_of-self g c = subst (Ascends g.R.Row.key_of) (sym (now_out g c)) (Ascends-without g.R.Row.key_of (g.R.Row.named c.args.key.now) c.self.inside.rows.items c.self.invariant)

pub returns-in-Ok : goal.returns-in-Ok
returns-in-Ok g c = now_out g c ∙ ap (without g.R.Row.key_of (g.R.Row.named c.args.key.now)) c.self.view_is

pub returns-in_default : goal.returns-in_default
returns-in_default g c =
    sym c.self.view_is
    ∙ (without_gap g.R.Row.key_of (g.R.Row.named c.args.key.now) c.self.inside.rows.items c.in_default.field-0 c.self.invariant
    (c.in_default.ensures.place ∙ ap (place g.R.Row.key_of (g.R.Row.named c.args.key.now)) c.as_slice.ensures.value)
    ∙ ap (without g.R.Row.key_of (g.R.Row.named c.args.key.now)) c.self.view_is)
