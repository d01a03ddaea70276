use Rattle.std.proofs.Common.{◌≡◌, ◌++◌, true, false, map, sym, ap, ◌∙◌, subst}
use Rattle.ixp_io.specs.Tables.{row_entry}
use Rattle.ixp_rows.specs.Printing.{all_kinds}
use Rattle.ixp_store_damage.specs.Placing.{AreSections, ref_entry}
use Rattle.ixp_store_damage.proofs.DumpOfRows.{all_right, all_said}
use Rattle.ixp_store_damage.proofs.breaking.sound_registry.Goals as goal

pub returns-then-branch-clause-sound : goal.returns-then-branch-clause-sound
returns-then-branch-clause-sound c = λ up right.
    let added = (c.in_ok-add_kinds.ensures (all_said (map row_entry c.args.rows.now) (all_right (map row_entry c.args.rows.now) up right))).1 in
    let ordered = ap (map ref_entry) c.as_slice.ensures.value ∙ (added.2 ∙ ap (λ l. map ref_entry l ++ added.0) c.new-ordered.ensures.items) in
    c.are_sound.ensures.sound (map row_entry c.args.rows.now) (subst (AreSections (map row_entry c.args.rows.now) all_kinds) (sym ordered) added.1)

pub returns-then-branch-clause-broken : goal.returns-then-branch-clause-broken
returns-then-branch-clause-broken c = λ up right.
    let added = (c.in_ok-add_kinds.ensures (all_said (map row_entry c.args.rows.now) (all_right (map row_entry c.args.rows.now) up right))).1 in
    let ordered = ap (map ref_entry) c.as_slice.ensures.value ∙ (added.2 ∙ ap (λ l. map ref_entry l ++ added.0) c.new-ordered.ensures.items) in
    c.are_sound.ensures.broken (map row_entry c.args.rows.now) up right (subst (AreSections (map row_entry c.args.rows.now) all_kinds) (sym ordered) added.1)

pub returns-clause-broken : goal.returns-clause-broken
returns-clause-broken c = λ up right.
    let added = c.in_ok-add_kinds.ensures (all_said (map row_entry c.args.rows.now) (all_right (map row_entry c.args.rows.now) up right)) in
    absurd (let bad : true ≡ false = sym added.0 ∙ c.if-branch.false in cc)
