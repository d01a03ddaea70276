use Rattle.std.proofs.Common.{subst}
use Rattle.ixp_explain.specs.Answers.{Tells}
use Rattle.ixp_explain.specs.Explained.{explained}
use Rattle.ixp_compile.specs.Generated.{roa_tables}
use Rattle.ixp_compile_laws.specs.Right.{Gen}
use Rattle.ixp_explain_member.specs.Rows.{ExplainsRows}
use Rattle.ixp_explain_member.proofs.Answering.{answer_told}
use Rattle.ixp_explain_member.proofs.Reports.{explains}
use Rattle.ixp_explain_member.proofs.laws.staff_are_told_the_rules.Goals as goal

pub returns-clause-report : goal.returns-clause-report
returns-clause-report c = λ r handle router n s route answer valid there its family answers.
    let e : ExplainsRows r router n s = explains r valid handle router there n s its in
    subst (Tells answer) (e.is_report route family) (answer_told (Gen r router) (λ items. explained items (roa_tables r) n route) answer e.items e.is_spelt answers)

pub returns-clause-apart : goal.returns-clause-apart
returns-clause-apart c = λ r handle router n s route answer valid there its apart answers.
    let e : ExplainsRows r router n s = explains r valid handle router there n s its in
    subst (Tells answer) (e.is_apart route apart) (answer_told (Gen r router) (λ items. explained items (roa_tables r) n route) answer e.items e.is_spelt answers)
