use Rattle.std.proofs.Common.{rules, ◌≡◌, ℕ, List, None, sym, ap, ◌∙◌}
use Rattle.ixp_num_tables.specs.Tables.{find, put, without}
use Rattle.ixp_num_tables.proofs.TableLaws.{without-put}
use Rattle.ixp_machine_effects.proofs.making.put_row.Goals as goal

pub returns-clause-err : goal.returns-clause-err
returns-clause-err g c =
    let row = c.args.row in
    let rows = c.args.table.now in
    let key : g.R.Row.named c.in_ok-key.key ≡ g.R.Row.key_of row = search rules in
    let none : find g.R.Row.key_of (g.R.Row.named c.in_ok-key.key) rows ≡ None = search rules in
    let now : c.put.new.self ≡ put g.R.Row.key_of row rows = search rules in
    let absent : find g.R.Row.key_of (g.R.Row.key_of row) rows ≡ None = ap (λ k. find g.R.Row.key_of k rows) (sym key) ∙ none in
    c.take_out.ensures
    ∙ (ap (λ k. without g.R.Row.key_of k c.put.new.self) key
    ∙ (ap (without g.R.Row.key_of (g.R.Row.key_of row)) now ∙ without-put g.R.Row.key_of row rows absent))
