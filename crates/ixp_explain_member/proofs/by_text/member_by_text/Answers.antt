use Rattle.std.proofs.Common.{List, [], ◌∷◌, Ok, Err, Some, MatchResult, Result, ◌≡◌, ap, sym, ◌∙◌, subst}
use Rattle.ixp_num.specs.declared.family.Family.TheVariants.{V4, V6}
use Rattle.ixp_num.specs.declared.roa.Roa.{Roa}
use Rattle.ixp_compile.specs.Pieces.{roas}
use Rattle.ixp_explain.specs.declared.report.ExplainFault.{ExplainFault}
use Rattle.ixp_explain.specs.declared.report.ExplainFault.TheVariants.{NoMemory}
use Rattle.ixp_explain.specs.Texts.{own_text}
use Rattle.ixp_explain_member.specs.declared.explanation.Explanation.{Explanation}
use Rattle.ixp_explain_member.specs.declared.explanation.Explanation.TheVariants.{Text}
use Rattle.ixp_explain_member.specs.Explanations.{told_by}
use Rattle.ixp_explain_member.specs.Rows.{own_report_by_rows}
use Rattle.ixp_explain_member.proofs.ByText.{member_answered}
use Rattle.ixp_explain_member.proofs.by_text.member_by_text.Goals as goal

pub returns-in-Ok : goal.returns-in-Ok
returns-in-Ok c = λ r handle router s valid there its is_text is_roas.
    ap Text c.in_ok-own_text-in-Ok.ensures
    ∙ member_answered r handle router c.args.interface c.args.route.now valid there c.args.peers.now s its c.args.text.now c.as_slice.result.now (Ok c.in-Ok.report) is_text
    (c.as_slice.ensures ∙ (c.in_ok-tables.ensures ∙ ap (λ (x : List Roa). (roas V4, x) ∷ (roas V6, x) ∷ []) is_roas))
    c.in-Ok.ensures

pub returns : goal.returns
returns c = λ r handle router s valid there its is_text is_roas.
    subst (λ (o : Result Explanation ExplainFault). MatchResult o (λ e. e ≡ told_by (λ t. own_text (own_report_by_rows r router t c.args.route.now c.args.peers.now)) router c.args.route.now (Some s)) (λ f. f ≡ NoMemory))
    (sym c.untold.ensures)
    (member_answered r handle router c.args.interface c.args.route.now valid there c.args.peers.now s its c.args.text.now c.as_slice.result.now (Err c.in-Err.fault) is_text
    (c.as_slice.ensures ∙ (c.in_ok-tables.ensures ∙ ap (λ (x : List Roa). (roas V4, x) ∷ (roas V6, x) ∷ []) is_roas))
    c.in-Err.ensures)
