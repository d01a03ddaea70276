use Rattle.std.proofs.Common.{◌≡◌, Option, Some, sym, ◌∙◌, subst}
use Rattle.ixp_explain.specs.Texts.{own_text}
use Rattle.ixp_explain_member.specs.Explanations.{told_by}
use Rattle.ixp_explain_member.specs.Rows.{own_report_by_rows}
use Rattle.ixp_registry.specs.Sessions.{Session, session}
use Rattle.ixp_explain_member.proofs.Explaining.{the_session, told_no_session, told_family}
use Rattle.ixp_explain_member.proofs.member.told_at.Goals as goal

pub returns-then-not-has_session : goal.returns-then-not-has_session
returns-then-not-has_session c =
    told_no_session (λ s. own_text (own_report_by_rows c.args.registry.now c.args.router.now s c.args.route.now c.args.peers.now)) c.args.router.now c.args.route.now
    (session c.args.registry.now c.args.router.now c.args.interface) (sym c.has_session.ensures ∙ c.if-not-has_session.true)

pub returns-then-not-is_of_family : goal.returns-then-not-is_of_family
returns-then-not-is_of_family c =
    told_family (λ s. own_text (own_report_by_rows c.args.registry.now c.args.router.now s c.args.route.now c.args.peers.now)) c.args.router.now c.args.route.now
    (session c.args.registry.now c.args.router.now c.args.interface) (sym c.has_session.ensures ∙ c.if-not-has_session.false) (sym c.is_of_family.ensures ∙ c.if-not-is_of_family.true)

pub returns-in-Ok : goal.returns-in-Ok
returns-in-Ok c =
    let its : (s : Session) × (session c.args.registry.now c.args.router.now c.args.interface ≡ Some s) = the_session _ (sym c.has_session.ensures ∙ c.if-not-has_session.false) in
    subst
    (λ (o : Option Session). c.in-Ok.told ≡ told_by (λ s. own_text (own_report_by_rows c.args.registry.now c.args.router.now s c.args.route.now c.args.peers.now)) c.args.router.now c.args.route.now o)
    (sym its.1)
    (c.in-Ok.ensures c.args.registry.now c.args.handle.now c.args.router.now its.0 c.requires.valid c.requires.there its.1 (c.as_slice.ensures.value ∙ c.in_ok-text.ensures its.0 its.1) c.requires.roas)

pub unexplained-requires : goal.unexplained-requires
unexplained-requires c =
    let its : (s : Session) × (session c.args.registry.now c.args.router.now c.args.interface ≡ Some s) = the_session _ (sym c.has_session.ensures ∙ c.if-not-has_session.false) in
    c.in-Err.ensures c.args.registry.now c.args.handle.now c.args.router.now its.0 c.requires.valid c.requires.there its.1 (c.as_slice.ensures.value ∙ c.in_ok-text.ensures its.0 its.1) c.requires.roas
