use Rattle.std.proofs.Common.{◌≡◌, set, ap, sym, subst, ◌∙◌}
use Rattle.ixp_num_tables.specs.Tables.{Ascends, put, place}
use Rattle.ixp_num_tables.proofs.Places.{put_here, put_gap}
use Rattle.ixp_num_tables.proofs.TableLaws.{Ascends-put}
use Rattle.ixp_num_tables.proofs.table.Table.put.Given.{Over}
use Rattle.ixp_num_tables.proofs.table.Table.put.Goals as goal

-- the rows with the row put in
now_here : (g : Over) (c : goal.After-drop-index_mut g) → set c.self.inside.rows.items c.in-Ok.at c.args.row ≡ put g.R.Row.key_of c.args.row c.self.inside.rows.items
now_here g c = put_here g.R.Row.key_of c.args.row c.self.inside.rows.items c.in-Ok.at (c.in-Ok.ensures.place ∙ ap (place g.R.Row.key_of (g.R.Row.key_of c.args.row)) c.as_slice.ensures.value)

now_gap : (g : Over) (c : goal.In_ok-insert-in-Err g) → c.insert.new.self.items ≡ put g.R.Row.key_of c.args.row c.self.inside.rows.items
now_gap g c = c.in_ok-insert-in-Err.ensures.items ∙ put_gap g.R.Row.key_of c.args.row c.self.inside.rows.items c.in-Err.at (c.in-Err.ensures.place ∙ ap (place g.R.Row.key_of (g.R.Row.key_of c.args.row)) c.as_slice.ensures.value)

pub invariant_of-self : goal.invariant_of-self
invariant_of-self g c = subst (Ascends g.R.Row.key_of) (sym (now_here g c)) (Ascends-put g.R.Row.key_of c.args.row c.self.inside.rows.items c.self.invariant)

pub invariant_of-self-in-Continue-1 : goal.invariant_of-self-in-Continue-1
invariant_of-self-in-Continue-1 g c = subst (Ascends g.R.Row.key_of) (sym (now_gap g c)) (Ascends-put g.R.Row.key_of c.args.row c.self.inside.rows.items c.self.invariant)

pub returns-in-Ok-clause-ok : goal.returns-in-Ok-clause-ok
returns-in-Ok-clause-ok g c = now_here g c ∙ ap (put g.R.Row.key_of c.args.row) c.self.view_is

pub returns-in_ok-insert-in-Err-clause-ok : goal.returns-in_ok-insert-in-Err-clause-ok
returns-in_ok-insert-in-Err-clause-ok g c = now_gap g c ∙ ap (put g.R.Row.key_of c.args.row) c.self.view_is
