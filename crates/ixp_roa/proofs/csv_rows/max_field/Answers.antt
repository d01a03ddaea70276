use Rattle.std.proofs.Common.{◌≡◌, [], Ok, ap, sym, ◌∙◌, rules, length}
use Rattle.std.proofs.lemmas.List.{nil_from_length}
use Rattle.std.proofs.lemmas.Bool.{eqb-true}
use Rattle.ixp_roa.proofs.CsvFields.{max_some, max_none_behind, max_none_there}
use Rattle.ixp_roa.proofs.csv_rows.max_field.Goals as goal

pub returns-then-is_empty-2 : goal.returns-then-is_empty-2
returns-then-is_empty-2 c =
    let some : ¬ (c.args.field.now ≡ []) = λ e. search rules in
    let none : c.in-Ok.rest.now ≡ [] = nil_from_length c.in-Ok.rest.now (eqb-true (length c.in-Ok.rest.now) 0 (sym c.is_empty-in-Ok.ensures ∙ c.if-is_empty-2.true)) in
    max_some c.args.field.now c.args.net.now c.in-Ok.number some (c.in-Ok.ensures ∙ ap (λ r. Ok (c.in-Ok.number, r)) none)

pub returns-else-is_empty-2 : goal.returns-else-is_empty-2
returns-else-is_empty-2 c =
    let some : ¬ (c.args.field.now ≡ []) = λ e. search rules in
    let behind : ¬ (c.in-Ok.rest.now ≡ []) = λ e. search rules in
    max_none_behind c.args.field.now c.args.net.now c.in-Ok.number c.in-Ok.rest.now some c.in-Ok.ensures behind

pub returns-in-Err : goal.returns-in-Err
returns-in-Err c =
    let some : ¬ (c.args.field.now ≡ []) = λ e. search rules in
    max_none_there c.args.field.now c.args.net.now c.in-Err.field-0 some c.in-Err.ensures
