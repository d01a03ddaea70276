use Rattle.std.proofs.Common.{rules, ◌≡◌, ◌∷◌, ◌++◌, [], true, false, sym}
use Rattle.ixp_io.specs.Tables.{row_entry}
use Rattle.ixp_rows_lines.specs.declared.version.Version.TheVariants.{Two}
use Rattle.ixp_store_damage.proofs.LineRows.{no_line, row_found}
use Rattle.ixp_store_damage.proofs.decode.is_row.Goals as goal

pub returns-in_default : goal.returns-in_default
returns-in_default g c =
    let text : c.as_slice-2.result.now ≡ c.args.row.now.body ++ 10 ∷ [] = search rules in
    let none = sym (rw c.in_default.is at c.in_ok-typed.ensures.reads) in (
      (λ bad. absurd (let wrong : false ≡ true = bad in cc)),
      (λ is. absurd (no_line g.R.Lined.row_kind (row_entry c.args.row.now) c.as_slice-2.result.now text none is)),
    )

pub returns : goal.returns
returns g c =
    let text : c.as_slice-2.result.now ≡ c.args.row.now.body ++ 10 ∷ [] = search rules in
    let at = sym (rw c.in-Some.is at c.in_ok-typed.ensures.reads) in
    let same = row_found g.R.Lined.row_kind (row_entry c.args.row.now) c.as_slice-2.result.now text (g.R.Lined.fields Two c.in-Some.typed) c.in-Some.field-0-1.now at c.in_ok-change.change c.in_ok-change.ensures in
    ((λ yes. same.0 (c.sets.ensures.0 yes)), (λ is. c.sets.ensures.1 (same.1 is)))
