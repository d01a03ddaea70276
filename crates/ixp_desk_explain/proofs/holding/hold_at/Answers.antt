use Rattle.std.proofs.Common.{length, Err, refl, ap, ◌∙◌, subst}
use Rattle.ixp_glass_holds.specs.declared.fault.HoldFault.TheVariants.{NoMemory}
use Rattle.ixp_desk_explain.specs.Glass.{IsFamilyFor, hold_outcome}
use Rattle.ixp_desk_explain.proofs.Families.{makes_for}
use Rattle.ixp_desk_explain.proofs.holding.hold_at.Goals as goal

pub returns-in_default-clause-holds : goal.returns-in_default-clause-holds
returns-in_default-clause-holds g c log x legal = (Err NoMemory, refl, refl)

pub returns-clause-holds : goal.returns-clause-holds
returns-clause-holds g c log x legal =
    let family = subst (λ rs. IsFamilyFor rs x.own.router c.in-Ok.family) c.as_slice.ensures (c.in-Ok.ensures log c.args.router.now x legal) in (
      c.hold.result,
      makes_for c.args.routes x.own.router c.in-Ok.family c.args.router.now c.args.interface c.hold.result c.args.seat.now c.hold.new.seat family c.hold.ensures.makes,
      c.hold_outcome.ensures ∙ ap (λ rs. hold_outcome (length rs) c.hold.result) c.as_slice-2.ensures,
    )
