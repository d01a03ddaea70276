use Rattle.std.proofs.Common.{rules, ◌≡◌, sym, subst}
use Rattle.ixp_rtr.specs.declared.cache.RtrCache.{RtrCache}
use Rattle.ixp_desk_rtr.specs.Roas.{HoldsRoas, IsUpdated}
use Rattle.ixp_desk_rtr.proofs.Fresh.{already_seen, holds_stay, stays_seen}
use Rattle.ixp_desk_rtr.proofs.cache.RoaCache.refresh.Goals as goal

pub invariant_of-self : goal.invariant_of-self
invariant_of-self g c =
    holds_stay c.self.inside.seat.2 c.roas_now.new.seat.2 c.self.inside.built c.self.inside.cache.present c.roas_now.ensures.grows.legal c.roas_now.ensures.grows.begins c.self.invariant

pub returns-in_err-built-clause-updated : goal.returns-in_err-built-clause-updated
returns-in_err-built-clause-updated g c = stays_seen c.args.self.now c.self.inside.cache c.self.inside.seat c.self.view_is

pub invariant_of-self-then-built-self : goal.invariant_of-self-then-built-self
invariant_of-self-then-built-self g c =
    holds_stay c.self.inside.seat.2 c.roas_now.new.seat.2 c.self.inside.built c.self.inside.cache.present c.roas_now.ensures.grows.legal c.roas_now.ensures.grows.begins c.self.invariant

pub returns-then-built-self-clause-updated : goal.returns-then-built-self-clause-updated
returns-then-built-self-clause-updated g c = stays_seen c.args.self.now c.self.inside.cache c.self.inside.seat c.self.view_is

pub returns-then-built-self-clause-ok : goal.returns-then-built-self-clause-ok
returns-then-built-self-clause-ok g c =
    let same : c.in_ok-built.built ≡ c.self.inside.built = search rules in
    already_seen c.args.self.now c.self.inside.built c.in_ok-built.built c.in_ok-built.table c.self.inside.cache c.self.inside.seat c.roas_now.new.seat c.self.view_is same c.roas_now.ensures.grows.legal
    c.roas_now.ensures.grows.begins c.self.invariant c.in_ok-built.ensures.ok

pub invariant_of-self-in_err-roas : goal.invariant_of-self-in_err-roas
invariant_of-self-in_err-roas g c =
    holds_stay c.self.inside.seat.2 c.roas_now.new.seat.2 c.self.inside.built c.self.inside.cache.present c.roas_now.ensures.grows.legal c.roas_now.ensures.grows.begins c.self.invariant

pub returns-in_err-roas-clause-updated : goal.returns-in_err-roas-clause-updated
returns-in_err-roas-clause-updated g c = stays_seen c.args.self.now c.self.inside.cache c.self.inside.seat c.self.view_is

pub invariant_of-self-in_err-update : goal.invariant_of-self-in_err-update
invariant_of-self-in_err-update g c =
    subst (λ (x : RtrCache). HoldsRoas c.roas_now.new.seat.2 c.self.inside.built x.present) (sym c.in_err-update.ensures.err)
    (holds_stay c.self.inside.seat.2 c.roas_now.new.seat.2 c.self.inside.built c.self.inside.cache.present c.roas_now.ensures.grows.legal c.roas_now.ensures.grows.begins c.self.invariant)

pub returns-in_err-update-clause-updated : goal.returns-in_err-update-clause-updated
returns-in_err-update-clause-updated g c =
    subst (λ (x : RtrCache). IsUpdated c.args.self.now.0 x) (sym c.in_err-update.ensures.err) (stays_seen c.args.self.now c.self.inside.cache c.self.inside.seat c.self.view_is)
