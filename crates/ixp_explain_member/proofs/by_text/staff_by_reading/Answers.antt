use Rattle.std.proofs.Common.{List, [], ◌∷◌, Some, MatchResult, Result, ◌≡◌, ap, sym, ◌∙◌, subst, arith}
use Rattle.ixp_num.specs.declared.family.Family.TheVariants.{V4, V6}
use Rattle.ixp_num.specs.declared.roa.Roa.{Roa}
use Rattle.ixp_lang.specs.Texts.{fate_text}
use Rattle.ixp_registry.specs.Sessions.{session}
use Rattle.ixp_policy.specs.Fates.{fate_of}
use Rattle.ixp_compile.specs.Pieces.{roas}
use Rattle.ixp_explain.specs.Answers.{in_bytes}
use Rattle.ixp_explain.specs.declared.report.ExplainFault.{ExplainFault}
use Rattle.ixp_explain.specs.declared.report.ExplainFault.TheVariants.{NoMemory}
use Rattle.ixp_explain_member.specs.declared.explanation.Explanation.{Explanation}
use Rattle.ixp_explain_member.specs.Explanations.{told_by}
use Rattle.ixp_explain_member.proofs.ByText.{staff_answered}
use Rattle.ixp_explain_member.proofs.by_text.staff_by_reading.Goals as goal

pub returns : goal.returns
returns c = λ r handle router valid there is_text is_roas.
    subst (λ (o : Result Explanation ExplainFault). MatchResult o (λ e. e ≡ told_by (λ s. fate_text (fate_of r router c.args.route.now s) (Some router.asn)) router c.args.route.now (session r router c.args.interface)) (λ f. f ≡ NoMemory))
    (sym c.told_text.ensures)
    (staff_answered r handle router c.args.interface c.args.route.now valid there (omega arith) c.args.reading.now c.as_slice.result.now (in_bytes c.fate_text.result) is_text
    (c.as_slice.ensures ∙ (c.in_ok-tables.ensures ∙ ap (λ (x : List Roa). (roas V4, x) ∷ (roas V6, x) ∷ []) is_roas))
    c.fate_text.ensures)
