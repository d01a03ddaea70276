use Rattle.std.proofs.Common.{rules, ◌≡◌, IsTrue, ◌↔◌, map, subst, sym}
use Rattle.std.proofs.lemmas.Fn.{always_returns_same}
use Rattle.ixp_io.specs.declared.keeper.Row.{Row}
use Rattle.ixp_io.specs.Tables.{name_bytes, row_entry}
use Rattle.ixp_num_tables.specs.Tables.{order}
use Rattle.ixp_store_damage.specs.Damages.{HasName}
use Rattle.ixp_store_damage.proofs.Searching.{name_found}
use Rattle.ixp_store_damage.proofs.kept.has_name.Goals as goal

pub returns : goal.returns
returns c = λ up.
    let facts = c.binary_search_by.ensures in
    let beside = λ (row : Row). order (name_bytes row.name) (name_bytes c.args.name.now) in
    let found = facts.position beside (always_returns_same _ (λ a r. r ≡ beside a.0.now) _ (λ a r f' k. search rules)) in
    subst (λ b. IsTrue b ↔ HasName (map row_entry c.args.rows.now) c.args.name.now) (sym c.is_ok.ensures.value) (name_found c.args.name.now c.args.rows.now _ facts.bound found up)
