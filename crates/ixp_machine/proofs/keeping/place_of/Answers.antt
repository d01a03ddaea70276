use Rattle.std.proofs.Common.{rules, ◌≡◌, ◌+◌, ◌∷◌, [], List, length, Err, refl, sym, ap, ◌∙◌}
use Rattle.std.specs.declared.cmp.Ordering.TheVariants.{Greater}
use Rattle.ixp_registry.specs.Words.{owner_numbers}
use Rattle.ixp_num_tables.specs.Tables.{order, place}
use Rattle.ixp_num_tables.proofs.Places.{onward, find_gap, place_greater}
use Rattle.ixp_machine_steps.specs.declared.kept.KeptOwner.{KeptOwner}
use Rattle.ixp_machine_steps.specs.Kept.{kept_owner_key}
use Rattle.ixp_machine.proofs.keeping.place_of.Goals as goal

no_rows : (rows : List KeptOwner) → length rows ≡ 0 → rows ≡ []
no_rows [] e = refl
no_rows (r ∷ rs) e = absurd (let bad : ⊥ = cc in bad)

pub returns-in-Greater-clause-none : goal.returns-in-Greater-clause-none
returns-in-Greater-clause-none c =
    let k = owner_numbers c.args.owner in
    let rows = c.args.rows.now in
    let above : order (kept_owner_key c.in-Some.row.now) k ≡ Greater = search rules in
    let here : place kept_owner_key k c.each.left.now ≡ Err 0 =
    ap (place kept_owner_key k) c.in-Some.ensures.cases.0 ∙ place_greater kept_owner_key k [] c.in-Some.row.now c.in-Some.others.now above in
    sym (find_gap kept_owner_key k rows (c.each.before + 0) c.requires (sym (c.each.invariant.goes_on ∙ ap (onward c.each.before) here)))

pub returns-clause-none : goal.returns-clause-none
returns-clause-none c =
    let k = owner_numbers c.args.owner in
    let rows = c.args.rows.now in
    let none : c.each.left.now ≡ [] = no_rows c.each.left.now c.in_default.ensures.cases in
    let here : place kept_owner_key k c.each.left.now ≡ Err 0 = ap (place kept_owner_key k) none in
    sym (find_gap kept_owner_key k rows (c.each.before + 0) c.requires (sym (c.each.invariant.goes_on ∙ ap (onward c.each.before) here)))
