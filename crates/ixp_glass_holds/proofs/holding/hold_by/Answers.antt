use Rattle.std.proofs.Common.{Some, Option, sym, subst}
use Rattle.ixp_glass_holds.specs.declared.fault.HoldFault.{HoldFault}
use Rattle.ixp_glass_holds.specs.Calls.{IsRefused, Log}
use Rattle.ixp_glass_holds.proofs.Histories.{told}
use Rattle.ixp_glass_holds.proofs.holding.hold_by.Goals as goal

pub returns-in-Some-clause-makes : goal.returns-in-Some-clause-makes
returns-in-Some-clause-makes g c =
    let fault = subst (λ (x : Option HoldFault). IsRefused c.args.pen.now c.args.family c.args.hold.now x) c.in-Some.is c.refused.ensures in
    let seen = subst (λ (l : Log). IsRefused l c.args.family c.args.hold.now (Some c.in-Some.fault)) (sym c.in_ok-teach.ensures.ok) fault in
    told c.args.seat.now c.teach.new.seat c.args.family c.args.hold.now c.in-Some.fault c.is_legal-in-Some.ensures seen
