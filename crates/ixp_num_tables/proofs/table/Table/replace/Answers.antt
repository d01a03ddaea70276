use Rattle.std.proofs.Common.{◌≡◌, set, ap, sym, subst, ◌∙◌, IsSome}
use Rattle.ixp_num_tables.specs.Tables.{Ascends, find, put, place}
use Rattle.ixp_num_tables.proofs.Places.{put_here, find_gap}
use Rattle.ixp_num_tables.proofs.TableLaws.{Ascends-put}
use Rattle.ixp_num_tables.proofs.table.Table.replace.Given.{Over}
use Rattle.ixp_num_tables.proofs.table.Table.replace.Goals as goal

-- the rows with the row put in
now_here : (g : Over) (c : goal.After-drop-index_mut g) → set c.self.inside.rows.items c.in-Ok.at c.args.row ≡ put g.R.Row.key_of c.args.row c.self.inside.rows.items
now_here g c = put_here g.R.Row.key_of c.args.row c.self.inside.rows.items c.in-Ok.at (c.in-Ok.ensures.place ∙ ap (place g.R.Row.key_of (g.R.Row.key_of c.args.row)) c.as_slice.ensures.value)

pub invariant_of-self : goal.invariant_of-self
invariant_of-self g c = subst (Ascends g.R.Row.key_of) (sym (now_here g c)) (Ascends-put g.R.Row.key_of c.args.row c.self.inside.rows.items c.self.invariant)

pub returns-in-Ok : goal.returns-in-Ok
returns-in-Ok g c = now_here g c ∙ ap (put g.R.Row.key_of c.args.row) c.self.view_is

-- a row that is there is found
pub returns-in_default : goal.returns-in_default
returns-in_default g c =
    let none =
    find_gap g.R.Row.key_of (g.R.Row.key_of c.args.row) c.self.inside.rows.items c.in_default.field-0 c.self.invariant
    (c.in_default.ensures.place ∙ ap (place g.R.Row.key_of (g.R.Row.key_of c.args.row)) c.as_slice.ensures.value)
    ∙ ap (find g.R.Row.key_of (g.R.Row.key_of c.args.row)) c.self.view_is in
    let there = subst IsSome (sym none) c.requires in
    cc
