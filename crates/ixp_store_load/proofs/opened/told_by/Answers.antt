use Rattle.std.proofs.Common.{◌≡◌, List, Option, Some, None, ℕ, map, sym, ◌∙◌}
use Rattle.ixp_io.specs.Tables.{row_entry}
use Rattle.ixp_rows_lines.proofs.Spelling.{some_is}
use Rattle.ixp_registry.specs.declared.registry.Registry.{Registry}
use Rattle.ixp_machine_steps.specs.declared.kept.KeptOwner.{KeptOwner}
use Rattle.ixp_store_damage.proofs.WholeStates.{registry_rows_are, one_count}
use Rattle.ixp_store_load.proofs.opened.told_by.Goals as goal

pub returns-in_default-clause-complete : goal.returns-in_default-clause-complete
returns-in_default-clause-complete c = λ s v stores all.
    absurd (let h : ◌≡◌ {A = Option Registry} None (Some s.registry) = sym c.in_default.is ∙ c.in_ok-registry.ensures.complete s.registry v.registry (registry_rows_are s (map row_entry c.args.rows.now) all) in cc)

pub returns-in_default-count_in-clause-complete : goal.returns-in_default-count_in-clause-complete
returns-in_default-count_in-clause-complete c = λ s v stores all.
    absurd (let h : ◌≡◌ {A = Option ℕ} None (Some s.accepted) = sym c.in_default-count_in.is ∙ c.count_in.ensures s.accepted stores.accepted (one_count s v (map row_entry c.args.rows.now) all) in cc)

pub returns-in_default-2-clause-complete : goal.returns-in_default-2-clause-complete
returns-in_default-2-clause-complete c = λ s v stores all.
    let accepted = some_is _ _ (sym c.in-Some-count_in.is ∙ c.count_in.ensures s.accepted stores.accepted (one_count s v (map row_entry c.args.rows.now) all)) in
    absurd (let h : ◌≡◌ {A = Option (List KeptOwner)} None (Some s.kept) = sym c.in_default-2.is ∙ c.in_ok-kept.ensures.complete s v stores accepted all in cc)

pub returns-clause-complete : goal.returns-clause-complete
returns-clause-complete c = λ s v stores all.
    let es = map row_entry c.args.rows.now in
    let registry = some_is _ _ (sym c.in-Some.is ∙ c.in_ok-registry.ensures.complete s.registry v.registry (registry_rows_are s es all)) in
    let accepted = some_is _ _ (sym c.in-Some-count_in.is ∙ c.count_in.ensures s.accepted stores.accepted (one_count s v es all)) in
    let kept = some_is _ _ (sym c.in-Some-2.is ∙ c.in_ok-kept.ensures.complete s v stores accepted all) in
    c.joined.ensures.complete s v registry kept accepted
