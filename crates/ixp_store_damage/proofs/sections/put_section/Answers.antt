use Rattle.std.proofs.Common.{◌≡◌, ◌++◌, false, true, IsSome, map, refl, ap, ◌∙◌, subst}
use Rattle.ixp_io.specs.Tables.{row_entry}
use Rattle.ixp_rows_lines.specs.declared.version.Version.TheVariants.{Two}
use Rattle.ixp_rows_lines.specs.Lines.{place_of}
use Rattle.ixp_store_damage.specs.Loading.{kind_rows, line_said}
use Rattle.ixp_store_damage.proofs.Placing.{in_order}
use Rattle.ixp_store_words.proofs.Sorting.{all_has, has_all}
use Rattle.ixp_store_damage.proofs.sections.put_section.Goals as goal

pub returns-in-None : goal.returns-in-None
returns-in-None g c = record {
  complete = λ es same apart up said.
      let each = has_all (λ e. IsSome (line_said g.R.Lined.row_kind e)) (kind_rows (place_of g.R.Lined.row_kind) (map row_entry c.args.rows.now)) (λ x has. all_has (λ e. IsSome (line_said g.R.Lined.row_kind e)) es said x (same.to x has)) in
      let bad : false ≡ true = subst IsSome c.in-None.is (c.in_ok-placed_rows.ensures.complete each) in
      absurd cc;
}

pub returns-in_ok-put_bodies-in-Some : goal.returns-in_ok-put_bodies-in-Some
returns-in_ok-put_bodies-in-Some g c = record {
  complete = λ es same apart up said.
      let are = rw c.in-Some.is at c.in_ok-placed_rows.ensures.rows in
      let lines = rw c.in-Some.is at c.in_ok-placed_rows.ensures.said in
      let texts =
      in_order g.R.Lined.row_kind (place_of g.R.Lined.row_kind) (g.R.Lined.fields Two) g.R.Lined.key (g.met.R.Lined.keyed Two) c.in-Some.placed.items c.sort_placed.new.rows.items (map row_entry c.args.rows.now) es are lines
      c.sort_placed.ensures.moved c.sort_placed.ensures.rises same apart up in
      (refl, (rw c.as_slice.ensures.value at c.in_ok-put_bodies-in-Some.ensures) ∙ ap (λ t. c.args.out.now.items ++ t) texts);
}
