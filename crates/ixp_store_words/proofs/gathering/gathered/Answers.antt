use Rattle.std.proofs.Common.{rules, ◌≡◌, true, false, List, [], ◌∷◌, Some, map, sym, ap, ◌∙◌, subst}
use Rattle.ixp_io.specs.declared.keeper.Row.{Row}
use Rattle.ixp_io.specs.Tables.{row_entry}
use Rattle.ixp_rows.proofs.Gathered.{no_rows}
use Rattle.ixp_machine_steps.specs.declared.kept.KeptOwner.{KeptOwner}
use Rattle.ixp_store_words.specs.Gathering.{IsGathered, all_in}
use Rattle.ixp_store_words.proofs.Gathered.{at_first, row_noted, all_gathered}
use Rattle.ixp_store_words.proofs.gathering.gathered.Goals as goal

pub rows-init : goal.rows-init
rows-init c = λ s v stores all. subst (λ (ks : List KeptOwner). IsGathered s ks (map row_entry c.args.rows.now)) (sym c.new.ensures) (at_first s v (map row_entry c.args.rows.now) all)

pub returns-then-not-branch : goal.returns-then-not-branch
returns-then-not-branch c = λ s v stores all.
    let first : c.rows.left.now ≡ c.in-Some.row.now ∷ c.in-Some.others.now = search rules in
    let g = subst (λ (rs : List Row). IsGathered s (all_in c.rows.gathered) (map row_entry rs)) first (c.rows.invariant s v stores all) in
    let noted = row_noted s v (all_in c.rows.gathered) (row_entry c.in-Some.row.now) (map row_entry c.in-Some.others.now) g stores c.in_ok-note_row.field-0 (all_in c.note_row.new.gathered) c.in_ok-note_row.ensures in
    absurd (let bad : true ≡ false = sym noted.0 ∙ c.if-not-branch.true in cc)

pub rows-preserved : goal.rows-preserved
rows-preserved c = λ s v stores all.
    let first : c.rows.left.now ≡ c.in-Some.row.now ∷ c.in-Some.others.now = search rules in
    let g = subst (λ (rs : List Row). IsGathered s (all_in c.rows.gathered) (map row_entry rs)) first (c.rows.invariant s v stores all) in
    (row_noted s v (all_in c.rows.gathered) (row_entry c.in-Some.row.now) (map row_entry c.in-Some.others.now) g stores c.in_ok-note_row.field-0 (all_in c.note_row.new.gathered) c.in_ok-note_row.ensures).1

pub returns : goal.returns
returns c = λ s v stores all.
    let none : c.rows.left.now ≡ [] = no_rows c.rows.left.now c.in_default.ensures.cases in
    ap (λ ks. Some ks) (c.in_ok-together.ensures ∙ all_gathered s v (all_in c.rows.gathered) (subst (λ (rs : List Row). IsGathered s (all_in c.rows.gathered) (map row_entry rs)) none (c.rows.invariant s v stores all)) stores)
