use Rattle.std.proofs.Common.{rules, ◌≡◌, ◌∷◌, IsSome, option_map, sym, ap, ◌∙◌, subst}
use Rattle.ixp_rows_lines.specs.declared.version.Version.TheVariants.{Two}
use Rattle.ixp_rows_lines.specs.Lines.{place_of}
use Rattle.ixp_store_damage.proofs.Placing.{one_said}
use Rattle.ixp_store_damage.proofs.sections.placed_rows.Goals as goal

pub returns-in-None-clause-complete : goal.returns-in-None-clause-complete
returns-in-None-clause-complete g c = λ all.
    let none = sym c.in_ok-line.ensures ∙ ap (option_map (g.R.Lined.fields Two)) c.in-None.is in
    let first : c.rows.left.now ≡ c.in-Some.row.now ∷ c.in-Some.others.now = search rules in
    let kind : c.in-Some.row.now.name.kind ≡ place_of g.R.Lined.row_kind = search rules in
    subst IsSome none (one_said g.R.Lined.row_kind _ c.rows.placed.items c.in-Some.row.now c.rows.left.now c.in-Some.others.now _ first kind c.rows.invariant.rows all)
