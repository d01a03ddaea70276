use Rattle.std.proofs.Common.{◌≡◌, Err, map, subst, ◌∙◌}
use Rattle.ixp_rows_lines.specs.declared.version.Version.TheVariants.{Two}
use Rattle.ixp_rows.specs.declared.fault.DumpFault.{DumpFault}
use Rattle.ixp_rows.specs.declared.fault.DumpFault.TheVariants.{BadLine, Order, Twice, NoMemory}
use Rattle.ixp_rows.specs.Dumps.{RegistryAnswer}
use Rattle.ixp_store_damage.specs.Placing.{ref_entry}
use Rattle.ixp_store_damage.proofs.DumpOfRows.{all_right, no_fault_told, rule_broken, registry_tells}
use Rattle.ixp_store_damage.proofs.breaking.are_sound.Goals as goal

pub returns-in-Err-Invalid-clause-broken : goal.returns-in-Err-Invalid-clause-broken
returns-in-Err-Invalid-clause-broken c = λ es up right are.
    let f = c.in-Err-Invalid in
    rule_broken es (map ref_entry c.args.rows.now) c.as_slice.result.now f.rule f.line c.broken.result up right are (c.as_slice.ensures.value ∙ c.in_ok-text.ensures) (subst (λ fault. RegistryAnswer Two c.as_slice.result.now (Err fault)) f.field-0-is f.ensures) c.broken.ensures

pub returns-in-Ok-clause-sound : goal.returns-in-Ok-clause-sound
returns-in-Ok-clause-sound c = λ es are done. registry_tells es (map ref_entry c.args.rows.now) c.as_slice.result.now c.in-Ok.field-0 are (c.as_slice.ensures.value ∙ c.in_ok-text.ensures) c.in-Ok.ensures

pub returns-in-Err-BadLine-clause-broken : goal.returns-in-Err-BadLine-clause-broken
returns-in-Err-BadLine-clause-broken c = λ es up right are.
    let f = c.in-Err-BadLine in
    absurd (no_fault_told es (all_right es up right) (map ref_entry c.args.rows.now) are c.as_slice.result.now (BadLine f.field-0-0) (λ bad. absurd (let h : ◌≡◌ {A = DumpFault} (BadLine f.field-0-0) NoMemory = bad in cc))
    (c.as_slice.ensures.value ∙ c.in_ok-text.ensures) (subst (λ fault. RegistryAnswer Two c.as_slice.result.now (Err fault)) f.field-0-is f.ensures))

pub returns-in-Err-Order-clause-broken : goal.returns-in-Err-Order-clause-broken
returns-in-Err-Order-clause-broken c = λ es up right are.
    let f = c.in-Err-Order in
    absurd (no_fault_told es (all_right es up right) (map ref_entry c.args.rows.now) are c.as_slice.result.now (Order f.field-0-0) (λ bad. absurd (let h : ◌≡◌ {A = DumpFault} (Order f.field-0-0) NoMemory = bad in cc))
    (c.as_slice.ensures.value ∙ c.in_ok-text.ensures) (subst (λ fault. RegistryAnswer Two c.as_slice.result.now (Err fault)) f.field-0-is f.ensures))

pub returns-clause-broken : goal.returns-clause-broken
returns-clause-broken c = λ es up right are.
    let f = c.in-Err-Twice in
    absurd (no_fault_told es (all_right es up right) (map ref_entry c.args.rows.now) are c.as_slice.result.now (Twice f.field-0-0) (λ bad. absurd (let h : ◌≡◌ {A = DumpFault} (Twice f.field-0-0) NoMemory = bad in cc))
    (c.as_slice.ensures.value ∙ c.in_ok-text.ensures) (subst (λ fault. RegistryAnswer Two c.as_slice.result.now (Err fault)) f.field-0-is f.ensures))
