use Rattle.std.proofs.Common.{◌∙◌, Some}
use Rattle.ixp_lang.specs.Texts.{fate_text}
use Rattle.ixp_policy.specs.Fates.{fate_of}
use Rattle.ixp_registry.specs.Sessions.{session}
use Rattle.ixp_explain_member.specs.Explanations.{told_by}
use Rattle.ixp_desk_history.proofs.ShownRight.{version_valid}
use Rattle.ixp_desk_explain.proofs.explaining.told.Goals as goal

pub returns : goal.returns
returns g c before now p =
    let call = c.args.call.now in
    c.outcome_of.ensures
    (told_by (λ s. fate_text (fate_of p.registry p.router call.asked.route s) (Some p.router.asn)) p.router call.asked.route (session p.registry p.router call.interface))
    (c.staff_told.ensures p.registry call.router p.router (version_valid p.first p.turns c.args.text.now.built p.registry p.legal p.version) p.is_there (c.get.ensures ∙ (c.in-Ok.ensures ∙ p.bytes)) p.roas)
