use Rattle.std.proofs.Common.{rules, ◌≡◌, [], ◌∷◌, ◌++◌, map, filter, sym, ap, ◌∙◌}
use Rattle.ixp_registry.specs.Sessions.{is_session}
use Rattle.ixp_policy.specs.Fates.{is_other, sent_at}
use Rattle.ixp_policy.specs.Views.{session_of}
use Rattle.ixp_policy.proofs.Others.{one_more}
use Rattle.ixp_policy.proofs.fates.sent_to_others.Goals as goal

pub interfaces-preserved-in_ok-push : goal.interfaces-preserved-in_ok-push
interfaces-preserved-in_ok-push c =
    let f = sent_at c.args.registry.now c.args.router.now (session_of c.args.sender.now) c.args.route.now in
    let g = is_other (session_of c.args.sender.now) in
    let h = is_session c.args.registry.now c.args.router.now in
    let left : c.interfaces.left.now ≡ c.in-Some.interface.now ∷ c.in-Some.rest.now = search rules in
    ap (λ xs. xs ++ map f (filter g (filter h c.in-Some.rest.now))) c.in_ok-push.ensures.ok
    ∙ ap (λ y. (c.interfaces.sent ++ y ∷ []) ++ map f (filter g (filter h c.in-Some.rest.now))) c.in_ok-sent_to.ensures
    ∙ one_more f g h c.in-Some.interface.now c.in-Some.rest.now c.interfaces.sent (sym c.is_other.ensures ∙ c.if-is_other.true)
    ∙ ap (λ is. c.interfaces.sent ++ map f (filter g (filter h is))) (sym left)
    ∙ c.interfaces.invariant
