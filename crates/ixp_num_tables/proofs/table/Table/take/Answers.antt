use Rattle.std.proofs.Common.{◌≡◌, ◌<◌, length, ap, sym, subst, ◌∙◌}
use Rattle.ixp_num_tables.specs.Tables.{Ascends, find, without, place}
use Rattle.ixp_num_tables.proofs.Places.{find_here, find_gap, without_here, without_gap}
use Rattle.ixp_num_tables.proofs.TableLaws.{Ascends-without}
use Rattle.ixp_num_tables.proofs.table.Table.take.Given.{Over}
use Rattle.ixp_num_tables.proofs.table.Table.take.Goals as goal

-- the rows with the row taken out
now_out : (g : Over) (c : goal.After-remove g) → c.remove.new.self.items ≡ without g.R.Row.key_of (g.R.Row.named c.args.key.now) c.self.inside.rows.items
now_out g c =
    c.remove.ensures.items
    ∙ without_here g.R.Row.key_of (g.R.Row.named c.args.key.now) c.self.inside.rows.items c.in-Ok.at c.self.invariant
    (c.in-Ok.ensures.place ∙ ap (place g.R.Row.key_of (g.R.Row.named c.args.key.now)) c.as_slice.ensures.value)

pub invariant_of-self : goal.invariant_of-self
invariant_of-self g c = subst (Ascends g.R.Row.key_of) (sym (now_out g c)) (Ascends-without g.R.Row.key_of (g.R.Row.named c.args.key.now) c.self.inside.rows.items c.self.invariant)

pub returns-in-Ok-clause-row : goal.returns-in-Ok-clause-row
returns-in-Ok-clause-row g c =
    find_here g.R.Row.key_of (g.R.Row.named c.args.key.now) c.self.inside.rows.items c.in-Ok.at c.remove.result c.self.invariant
    (c.in-Ok.ensures.place ∙ ap (place g.R.Row.key_of (g.R.Row.named c.args.key.now)) c.as_slice.ensures.value)
    (subst (λ rows. c.in-Ok.at < length rows) c.as_slice.ensures.value c.in-Ok.ensures.here) c.remove.ensures.value
    ∙ ap (find g.R.Row.key_of (g.R.Row.named c.args.key.now)) c.self.view_is

pub returns-in-Ok-clause-rest : goal.returns-in-Ok-clause-rest
returns-in-Ok-clause-rest g c = now_out g c ∙ ap (without g.R.Row.key_of (g.R.Row.named c.args.key.now)) c.self.view_is

pub returns-in-Err-clause-row : goal.returns-in-Err-clause-row
returns-in-Err-clause-row g c =
    find_gap g.R.Row.key_of (g.R.Row.named c.args.key.now) c.self.inside.rows.items c.in-Err.field-0 c.self.invariant
    (c.in-Err.ensures.place ∙ ap (place g.R.Row.key_of (g.R.Row.named c.args.key.now)) c.as_slice.ensures.value)
    ∙ ap (find g.R.Row.key_of (g.R.Row.named c.args.key.now)) c.self.view_is

pub returns-in-Err-clause-rest : goal.returns-in-Err-clause-rest
returns-in-Err-clause-rest g c =
    sym c.self.view_is
    ∙ (without_gap g.R.Row.key_of (g.R.Row.named c.args.key.now) c.self.inside.rows.items c.in-Err.field-0 c.self.invariant
    (c.in-Err.ensures.place ∙ ap (place g.R.Row.key_of (g.R.Row.named c.args.key.now)) c.as_slice.ensures.value)
    ∙ ap (without g.R.Row.key_of (g.R.Row.named c.args.key.now)) c.self.view_is)
