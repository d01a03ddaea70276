use Rattle.std.proofs.Common.{◌≡◌, ◌∙◌, ℕ, List, [], sym, subst, ap, if◌then◌else◌}
use Rattle.ixp_lang.specs.Meaning.{same_name}
use Rattle.ixp_lang.specs.Values.{values_of}
use Rattle.ixp_eval_trial.specs.Tables.{with_table}
use Rattle.ixp_eval_trial.proofs.Tabling.{AreSoFar, next_line}
use Rattle.ixp_eval_trial.proofs.tables.tables_of.Goals as goal

pub each-preserved : goal.each-preserved
each-preserved c =
    let before = subst (λ l. AreSoFar c.args.roas.now l c.each.tables (values_of c.each.groups)) c.in-Some.ensures.cases.0 c.each.invariant in
    let name = c.as_bytes.ensures.bytes in
    let less : (n : List ℕ) → values_of c.take-rows.new.self n ≡ (if same_name c.in-Some.field-0-0.now.0 n then [] else values_of c.each.groups n) =
    λ n. c.take-rows.ensures.others n ∙ ap (λ m. if same_name m n then [] else values_of c.each.groups n) name
    in
    subst (λ ts. AreSoFar c.args.roas.now c.in-Some.others.now ts (values_of c.take-rows.new.self)) (sym (c.in_ok-add_table.ensures ∙ ap (with_table c.each.tables c.in-Some.field-0-0.now.0) c.as_slice.ensures.value))
    (next_line c.args.roas.now c.in-Some.field-0-0.now c.in-Some.others.now c.each.tables (values_of c.each.groups) (values_of c.take-rows.new.self) c.take-rows.result.items
    (c.take-rows.ensures.values ∙ ap (values_of c.each.groups) name) less before)
