use Rattle.std.proofs.Common.{◌≡◌, false, true, IsSome, map, refl, subst}
use Rattle.std.specs.List.Sorted.{IsPermutation}
use Rattle.std.proofs.lemmas.List.Sorted.{IsPermutation-map}
use Rattle.ixp_rows_lines.specs.declared.version.Version.TheVariants.{Two}
use Rattle.ixp_store_damage.specs.Placing.{placed_entry}
use Rattle.ixp_store_damage.proofs.Placing.{sorted_rises}
use Rattle.ixp_store_damage.proofs.sections.add_section.Goals as goal

pub returns-in-None : goal.returns-in-None
returns-in-None g c = λ all. absurd (let bad : false ≡ true = subst IsSome c.in-None.is (c.in_ok-placed_rows.ensures.complete all) in cc)

pub returns-in_ok-add_rows-in-Some : goal.returns-in_ok-add_rows-in-Some
returns-in_ok-add_rows-in-Some g c = λ all.
    let are = rw c.in-Some.is at c.in_ok-placed_rows.ensures.rows in
    let lines = rw c.in-Some.is at c.in_ok-placed_rows.ensures.said in (
      refl,
      (
        map placed_entry c.sort_placed.new.rows.items,
        record {
          moved = subst (λ l. IsPermutation l (map placed_entry c.sort_placed.new.rows.items)) are (IsPermutation-map placed_entry c.in-Some.placed.items c.sort_placed.new.rows.items c.sort_placed.ensures.moved);
          rises = sorted_rises g.R.Lined.row_kind (g.R.Lined.fields Two) g.R.Lined.key (g.met.R.Lined.keyed Two) c.in-Some.placed.items c.sort_placed.new.rows.items lines c.sort_placed.ensures.moved c.sort_placed.ensures.rises;
        },
        rw c.as_slice.ensures.value at c.in_ok-add_rows-in-Some.ensures,
      ),
    )
