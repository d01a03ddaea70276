use Rattle.std.proofs.Common.{[], ◌∙◌}
use Rattle.ixp_explain.specs.Texts.{own_text}
use Rattle.ixp_explain_member.specs.Rows.{own_report_by_rows}
use Rattle.ixp_desk_history.specs.Turns.{registry_of}
use Rattle.ixp_desk_explain.proofs.Families.{family_if}
use Rattle.ixp_desk_explain.proofs.Places.{own_valid}
use Rattle.ixp_desk_explain.proofs.holding.family_for.Goals as goal

pub returns : goal.returns
returns c log handle x legal =
    let r = registry_of x.first x.before in
    family_if c.args.routes.now (own_text (own_report_by_rows r x.own.router x.own.sender c.in-Some.route.now [])) x.own.router c.in-Some.route.now c.member_told-told.result c.family_told.result
    (c.member_told-told.ensures r handle x.own.router x.own.sender (own_valid log handle c.args.interface c.args.text.now legal x) x.own.is_there x.own.is_sender (c.as_slice.ensures ∙ x.own.bytes) x.own.roas) c.family_told.ensures
