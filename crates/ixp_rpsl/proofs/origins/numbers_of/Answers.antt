use Rattle.std.proofs.Common.{◌≡◌, ◌∷◌, ◌++◌, true, false, sym, ap, ◌∙◌}
use Rattle.ixp_rpsl.specs.Expansion.{has_name}
use Rattle.ixp_rpsl.specs.Origins.{numbers_in, origins_in}
use Rattle.ixp_rpsl.proofs.Marking.{row_in, row_out}
use Rattle.ixp_rpsl.proofs.origins.numbers_of.Goals as goal

pub rows-preserved-in_ok-put_numbers : goal.rows-preserved-in_ok-put_numbers
rows-preserved-in_ok-put_numbers c =
    let left : c.rows.left.now ≡ c.in-Some.row.now ∷ c.in-Some.others.now = c.in-Some.ensures.cases.0 in
    let there : has_name c.args.c.now c.in-Some.row.now.name ≡ true = sym (c.in_ok-names.ensures c.in-Some.row.now.name) ∙ (sym c.is_marked.ensures ∙ c.if-is_marked.true) in
    ap (λ v. v ++ origins_in c.in-Some.others.now c.args.c.now) (c.in_ok-put_numbers.ensures ∙ ap (λ m. c.rows.numbers.items ++ numbers_in m) c.as_slice.ensures)
    ∙ (row_in c.in-Some.row.now c.in-Some.others.now c.args.c.now c.rows.numbers.items there ∙ (ap (λ l. c.rows.numbers.items ++ origins_in l c.args.c.now) (sym left) ∙ c.rows.invariant))

pub rows-preserved : goal.rows-preserved
rows-preserved c =
    let left : c.rows.left.now ≡ c.in-Some.row.now ∷ c.in-Some.others.now = c.in-Some.ensures.cases.0 in
    let absent : has_name c.args.c.now c.in-Some.row.now.name ≡ false = sym (c.in_ok-names.ensures c.in-Some.row.now.name) ∙ (sym c.is_marked.ensures ∙ c.if-is_marked.false) in
    row_out c.in-Some.row.now c.in-Some.others.now c.args.c.now c.rows.numbers.items absent ∙ (ap (λ l. c.rows.numbers.items ++ origins_in l c.args.c.now) (sym left) ∙ c.rows.invariant)
