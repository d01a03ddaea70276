use Rattle.std.proofs.Common.{◌≡◌, ◌+◌, ℕ, List, [], ◌∷◌, ◌++◌, length, All, ap, sym, ◌∙◌, subst, arith}
use Rattle.ixp_desk_lock.specs.Facts.{Log}
use Rattle.ixp_desk_lock.specs.Sights.{Sight}
use Rattle.ixp_desk.specs.Openings.{AreSeats}
use Rattle.ixp_desk.proofs.Seating.{fronts, lasts, longer, seated}
use Rattle.ixp_desk.proofs.sharing.numbered.Goals as goal

pub each-preserved : goal.each-preserved
each-preserved g c =
    let left : length c.each.left.items ≡ length c.pop.new.self.items + 1 = ap length c.in-Some.ensures.items ∙ longer c.pop.new.self.items c.in-Some.seat in
    let now : length c.push_reserved.new.self.items ≡ length c.each.seats.items + 1 = ap length c.push_reserved.ensures.items ∙ longer c.each.seats.items c.new.result in (
      c.push_reserved.ensures.capacity ∙ c.each.invariant.0,
      omega (arith, c.in-Some.ensures.len, c.push_reserved.ensures.len, c.each.invariant.1),
      omega (arith, c.push_reserved.ensures.len, c.each.invariant.2),
      omega (arith, now, c.each.invariant.3),
      omega (arith, left, now, c.each.invariant.4),
      λ log all.
          let before = c.each.invariant.5 log all in
          let rest : All (λ s. s ≡ log) (c.pop.new.self.items ++ c.in-Some.seat ∷ []) = subst (All (λ s. s ≡ log)) c.in-Some.ensures.items before.0 in
          let number : c.new.result.0 ≡ 0 + length c.each.seats.items = ap (λ (s : Sight). s.0) c.new.ensures ∙ omega (arith, c.each.invariant.3) in (
            fronts (λ s. s ≡ log) c.pop.new.self.items c.in-Some.seat rest,
            subst (AreSeats 0 log) (sym c.push_reserved.ensures.items)
                (seated 0 log c.each.seats.items c.new.result before.1 number (ap (λ (s : Sight). s.1) c.new.ensures)
                (ap (λ (s : Sight). s.2) c.new.ensures ∙ lasts (λ s. s ≡ log) c.pop.new.self.items c.in-Some.seat rest)),
          ),
    )
