use Rattle.std.proofs.Common.{◌≡◌, sym, ◌∙◌}
use Rattle.ixp_rows.specs.declared.fault.DumpFault.{DumpFault}
use Rattle.ixp_rows.specs.declared.fault.DumpFault.TheVariants.{BadLine, Order, Twice, Invalid, NoMemory}
use Rattle.ixp_store_damage.proofs.KindLines.{registry_read, never_unread}
use Rattle.ixp_store_damage.proofs.dumped.registry_in.Goals as goal

pub returns-in-Ok-clause-complete : goal.returns-in-Ok-clause-complete
returns-in-Ok-clause-complete c = registry_read c.args.text.now c.in-Ok.registry c.in-Ok.ensures

pub returns-in-Err-BadLine-clause-complete : goal.returns-in-Err-BadLine-clause-complete
returns-in-Err-BadLine-clause-complete c =
    let f = c.in-Err-BadLine in
    never_unread c.args.text.now f.field-0 (λ bad. absurd (let h : ◌≡◌ {A = DumpFault} (BadLine f.field-0-0) NoMemory = sym f.field-0-is ∙ bad in cc)) f.ensures

pub returns-in-Err-Order-clause-complete : goal.returns-in-Err-Order-clause-complete
returns-in-Err-Order-clause-complete c =
    let f = c.in-Err-Order in
    never_unread c.args.text.now f.field-0 (λ bad. absurd (let h : ◌≡◌ {A = DumpFault} (Order f.field-0-0) NoMemory = sym f.field-0-is ∙ bad in cc)) f.ensures

pub returns-in-Err-Twice-clause-complete : goal.returns-in-Err-Twice-clause-complete
returns-in-Err-Twice-clause-complete c =
    let f = c.in-Err-Twice in
    never_unread c.args.text.now f.field-0 (λ bad. absurd (let h : ◌≡◌ {A = DumpFault} (Twice f.field-0-0) NoMemory = sym f.field-0-is ∙ bad in cc)) f.ensures

pub returns-in-Err-Invalid-clause-complete : goal.returns-in-Err-Invalid-clause-complete
returns-in-Err-Invalid-clause-complete c =
    let f = c.in-Err-Invalid in
    never_unread c.args.text.now f.field-0 (λ bad. absurd (let h : ◌≡◌ {A = DumpFault} (Invalid f.field-0-0 f.field-0-1) NoMemory = sym f.field-0-is ∙ bad in cc)) f.ensures
