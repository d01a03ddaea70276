-- A worker's turn.
use Rattle.std.proofs.Common.{◌≡◌, ◌≢◌, ◌≤◌, ◌<◌, ℕ, Result, Ok, Err, IfOk, ap, sym, ◌∙◌, subst, arith}
use mathlib.Core.List.{IsPrefix}
use Rattle.ixp_board.specs.Histories.{IsLegal}
use Rattle.ixp_build.specs.declared.making.Made.{Made}
use Rattle.ixp_build.specs.declared.orders.Order.{Order}
use Rattle.ixp_build.specs.Orders.{made_from}
use Rattle.ixp_desk_history.specs.Legal.{Legal}
use Rattle.ixp_desk_history.specs.Turns.{built_after, state_of}
use Rattle.ixp_desk_history.proofs.ShownRight.{shown_right}
use Rattle.ixp_desk_lock.specs.declared.fault.TurnFault.{TurnFault}
use Rattle.ixp_desk_lock.specs.declared.installing.Put.{Put}
use Rattle.ixp_desk_lock.specs.declared.installing.Put.TheVariants as put
use Rattle.ixp_desk_lock.specs.declared.installing.Taken.{Taken}
use Rattle.ixp_desk_lock.specs.declared.installing.Taken.TheVariants as taken
use Rattle.ixp_desk_lock.specs.Calls.{Grows, Installs, Takes}
use Rattle.ixp_desk_lock.specs.Facts.{HasAccepted, HasBuilt, IsOrdered, Log}
use Rattle.ixp_desk_lock.specs.Sights.{Looks, Sight}
use Rattle.ixp_desk_lock.proofs.OwnTurns.{over_from}
use Rattle.ixp_desk_lock.proofs.PublishLaws.{must_low}
use Rattle.ixp_desk.specs.declared.working.WorkTurn.{WorkTurn}
use Rattle.ixp_desk.specs.declared.working.WorkTurn.TheVariants.{Built, Nothing, Late}
use Rattle.ixp_desk.specs.Works.{Finishes, Works}
use Rattle.ixp_desk.proofs.Views.{of_all}

module _ (log : Log) (o : Order) (is : IsOrdered log (made_from o)) where
  from_is : o.from ≡ built_after is.first is.turns
  from_is = ap (λ (m : Made). m.from) is.made.made

  upto_is : o.upto ≡ (state_of is.first is.turns).accepted
  upto_is = ap (λ (m : Made). m.upto) is.made.made

  -- the order was taken of the version that was shown, for the present one
  built_at : HasBuilt log o.from
  built_at = of_all log is.first is.turns is.is (λ f ts. built_after f ts ≡ o.from) (sym from_is)

  accepted_at : HasAccepted log o.upto
  accepted_at = of_all log is.first is.turns is.is (λ f ts. (state_of f ts).accepted ≡ o.upto) (sym upto_is)

  rises : IsLegal Legal log → o.from ≤ o.upto
  rises legal =
      let low = (shown_right is.first is.turns (of_all log legal.first legal.turns legal.entries_are Legal legal.legal_turns is.first is.turns is.is)).low in
      let one = from_is in
      let two = upto_is in
      omega (arith, low, one, two)

less : (a b : ℕ) → a ≤ b → a ≢ b → a < b
less a b le ne = omega (arith, le, ne)

-- texts were made of an order, and installed or not
pub works_so : (o : Order) (w : WorkTurn) (s u t : Sight) → Looks s u → IsLegal Legal s.2 → IsLegal Legal u.2 → Takes (taken.Ordered o) s u → IsPrefix u.2 t.2 → Finishes (made_from o) w u t → Works w s t
works_so o (Built upto) s u t l old new takes begins f =
    let is = takes.3 in
    let end : upto ≡ o.upto = f.0 in (
      o.from,
      subst (λ n. o.from < n) (sym end) (less o.from o.upto (rises u.2 o is new) takes.2),
      over_from o.from upto s u t l f.1,
      λ k has. let low = must_low s.2 u.2 k o.upto old new l.2 has (accepted_at u.2 o is) in omega (arith, low, end),
    )
works_so o (Nothing built) s u t l old new takes begins f = absurd f
works_so o (Late current asked) s u t l old new takes begins f =
    let is = takes.3 in
    ((f.0.0 ∙ l.1, f.0.1), f.2, f.3, (u.2, l.2, begins, subst (λ n. HasBuilt u.2 n) (sym f.1) (built_at u.2 o is)))

-- the same of what a worker was given to do
pub works_if : (o : Order) (x : Taken) (r : Result WorkTurn TurnFault) (s u t : Sight) → x ≡ taken.Ordered o → u.0 ≡ s.0 → IsPrefix s.2 u.2 → IsLegal Legal s.2 → IsLegal Legal u.2 → Takes x s u → Grows u t
    → IfOk r (λ w. Finishes (made_from o) w u t) → IfOk r (λ w. Works w s t)
works_if o x (Ok w) s u t is number seen old new takes grows f =
    let t' : Takes (taken.Ordered o) s u = subst (λ y. Takes y s u) is takes in
    works_so o w s u t (number, t'.0.0, seen) old new t' grows.begins f
works_if o x (Err fault) s u t is number seen old new takes grows f = tt

-- an installation that was made
pub finish_built : (m : Made) (o : Order) (x : Put) (n : ℕ) (s t : Sight) → m ≡ made_from o → x ≡ put.Built n → Installs m x s t → Finishes (made_from o) (Built n) s t
finish_built m o x n s t is at did = subst (λ m. Finishes m (Built n) s t) is (subst (λ x. Installs m x s t) at did)
