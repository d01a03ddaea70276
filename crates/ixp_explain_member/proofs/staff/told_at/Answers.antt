use Rattle.std.proofs.Common.{Some, sym, ◌∙◌}
use Rattle.ixp_lang.specs.Texts.{fate_text}
use Rattle.ixp_policy.specs.Fates.{fate_of}
use Rattle.ixp_registry.specs.Sessions.{session}
use Rattle.ixp_explain_member.proofs.Explaining.{told_no_session, told_family}
use Rattle.ixp_explain_member.proofs.staff.told_at.Goals as goal

pub returns-then-not-has_session : goal.returns-then-not-has_session
returns-then-not-has_session c =
    told_no_session (λ s. fate_text (fate_of c.args.registry.now c.args.router.now c.args.route.now s) (Some c.args.router.now.asn)) c.args.router.now c.args.route.now
    (session c.args.registry.now c.args.router.now c.args.interface) (sym c.has_session.ensures ∙ c.if-not-has_session.true)

pub returns-then-not-is_of_family : goal.returns-then-not-is_of_family
returns-then-not-is_of_family c =
    told_family (λ s. fate_text (fate_of c.args.registry.now c.args.router.now c.args.route.now s) (Some c.args.router.now.asn)) c.args.router.now c.args.route.now
    (session c.args.registry.now c.args.router.now c.args.interface) (sym c.has_session.ensures ∙ c.if-not-has_session.false) (sym c.is_of_family.ensures ∙ c.if-not-is_of_family.true)

pub returns-in-Ok : goal.returns-in-Ok
returns-in-Ok c = c.in-Ok.ensures c.args.registry.now c.args.handle.now c.args.router.now c.requires.valid c.requires.there (c.as_slice.ensures.value ∙ c.in_ok-text.ensures) c.requires.roas

pub unexplained-requires : goal.unexplained-requires
unexplained-requires c = c.in-Err.ensures c.args.registry.now c.args.handle.now c.args.router.now c.requires.valid c.requires.there (c.as_slice.ensures.value ∙ c.in_ok-text.ensures) c.requires.roas
