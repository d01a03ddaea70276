use Rattle.std.proofs.Common.{◌≡◌, ◌∙◌, Some, IfOk, subst}
use Rattle.ixp_explain.specs.Texts.{own_text}
use Rattle.ixp_explain_member.specs.Explanations.{told_by}
use Rattle.ixp_explain_member.specs.Rows.{own_report_by_rows}
use Rattle.ixp_desk_history.specs.Turns.{registry_of}
use Rattle.ixp_desk_explain.proofs.Places.{own_valid}
use Rattle.ixp_desk_explain.proofs.explaining.told_own.Goals as goal

pub returns : goal.returns
returns c log x legal =
    let call = c.args.call.now in
    let r = registry_of x.first x.before in
    c.outcome_of.ensures
    (told_by (λ s. own_text (own_report_by_rows r x.own.router s call.asked.route call.asked.peers)) x.own.router call.asked.route (Some x.own.sender))
    (subst (λ ps. IfOk c.member_told.result (λ e. e ≡ told_by (λ s. own_text (own_report_by_rows r x.own.router s call.asked.route ps)) x.own.router call.asked.route (Some x.own.sender)))
    c.as_slice-2.ensures
    (c.member_told.ensures r call.router x.own.router x.own.sender (own_valid log call.router call.interface c.args.text.now legal x) x.own.is_there x.own.is_sender (c.as_slice.ensures ∙ x.own.bytes) x.own.roas))
