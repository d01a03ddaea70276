use Rattle.std.proofs.Common.{◌∙◌, Some}
use Rattle.ixp_lang.specs.Texts.{fate_text}
use Rattle.ixp_policy.specs.Fates.{fate_of}
use Rattle.ixp_registry.specs.Sessions.{session}
use Rattle.ixp_explain_member.specs.Explanations.{told_by}
use Rattle.ixp_desk_history.proofs.ShownRight.{version_valid}
use Rattle.ixp_desk_explain.proofs.fates.told_fate.Goals as goal

pub returns : goal.returns
returns g c before now p =
    c.fate_outcome.ensures
    (told_by (λ s. fate_text (fate_of p.registry p.router c.args.route.now s) (Some p.router.asn)) p.router c.args.route.now (session p.registry p.router c.args.interface))
    (c.staff_told.ensures p.registry c.args.router.now p.router (version_valid p.first p.turns c.args.text.now.built p.registry p.legal p.version) p.is_there (c.get.ensures ∙ (c.in-Ok.ensures ∙ p.bytes)) p.roas)
