use Rattle.std.proofs.Common.{subst}
use Rattle.ixp_explain.specs.Answers.{Tells}
use Rattle.ixp_explain.specs.Explained.{own_explained}
use Rattle.ixp_compile.specs.Generated.{roa_tables}
use Rattle.ixp_compile_laws.specs.Right.{Part}
use Rattle.ixp_explain_member.specs.Rows.{TellsRows}
use Rattle.ixp_explain_member.proofs.Answering.{answer_told}
use Rattle.ixp_explain_member.proofs.Reports.{tells}
use Rattle.ixp_explain_member.proofs.laws.members_are_told_the_rules.Goals as goal

pub returns-clause-report : goal.returns-clause-report
returns-clause-report c = λ r handle router n s route peers answer valid there its family answers.
    let e : TellsRows r router n s = tells r valid handle router there n s its in
    subst (Tells answer) (e.is_report route peers family) (answer_told (Part r router s) (λ items. own_explained items (roa_tables r) n route peers) answer e.items e.is_spelt answers)

pub returns-clause-apart : goal.returns-clause-apart
returns-clause-apart c = λ r handle router n s route peers answer valid there its apart answers.
    let e : TellsRows r router n s = tells r valid handle router there n s its in
    subst (Tells answer) (e.is_apart route peers apart) (answer_told (Part r router s) (λ items. own_explained items (roa_tables r) n route peers) answer e.items e.is_spelt answers)
