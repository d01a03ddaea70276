use Rattle.std.proofs.Common.{◌≡◌, ◌∙◌, [], Ok, ap, arith, length}
use Rattle.std.proofs.lemmas.List.{nil_from_length}
use Rattle.ixp_eval_trial.proofs.Numbers.{there, above, more_behind, missing}
use Rattle.ixp_eval_trial.proofs.number.number_up_to.Goals as goal

pub returns-then-number-most : goal.returns-then-number-most
returns-then-number-most c =
    let few = c.in-Ok-default-empty.len_below in
    let none : c.in-Ok-default-empty.field-0-1.now ≡ [] = nil_from_length c.in-Ok-default-empty.field-0-1.now (omega arith) in
    there c.args.most c.args.field.now c.in-Ok-default-empty.number c.requires (c.in-Ok-default-empty.ensures ∙ ap (λ r. Ok (c.in-Ok-default-empty.number, r)) none) c.if-number-most.true

pub returns-else-number-most : goal.returns-else-number-most
returns-else-number-most c =
    let few = c.in-Ok-default-empty.len_below in
    let none : c.in-Ok-default-empty.field-0-1.now ≡ [] = nil_from_length c.in-Ok-default-empty.field-0-1.now (omega arith) in
    above c.args.most c.args.field.now c.in-Ok-default-empty.number c.requires (c.in-Ok-default-empty.ensures ∙ ap (λ r. Ok (c.in-Ok-default-empty.number, r)) none) c.if-number-most.false

pub returns-in-Ok-default-len1-up : goal.returns-in-Ok-default-len1-up
returns-in-Ok-default-len1-up c =
    more_behind c.args.most c.args.field.now c.in-Ok-default-len1-up.field-0-1.now c.in-Ok-default-len1-up.field-0-0 c.requires c.in-Ok-default-len1-up.ensures
    (λ e. let some = c.in-Ok-default-len1-up.len_at_least in let size = ap length e in omega arith)

pub returns-in-Err : goal.returns-in-Err
returns-in-Err c = missing c.args.most c.args.field.now c.in-Err.field-0 c.requires c.in-Err.ensures
