-- A turn more.
use Rattle.std.proofs.Common.{◌≡◌, ◌≤◌, List, [], ◌∷◌, ◌++◌, length, refl}
use Rattle.ixp_glass_holds.specs.declared.hold.Hold.{Hold}
use Rattle.ixp_glass_holds.specs.declared.hold.TheConstants.{MOST_SESSIONS}
use Rattle.ixp_glass_holds.specs.Holds.{AreHoldable, GoesOn, held_from, with_hold}

pub held_snoc : (rows turns : List Hold) (h : Hold) → held_from rows (turns ++ h ∷ []) ≡ with_hold h (held_from rows turns)
held_snoc rows [] h = refl
held_snoc rows (g ∷ turns) h = held_snoc (with_hold g rows) turns h

pub goes_snoc : (rows turns : List Hold) (h : Hold) → GoesOn rows turns → AreHoldable h.routes → length (with_hold h (held_from rows turns)) ≤ MOST_SESSIONS
    → GoesOn rows (turns ++ h ∷ [])
goes_snoc rows [] h goes routes few = (routes, few, tt)
goes_snoc rows (g ∷ turns) h goes routes few = (goes.0, goes.1, goes_snoc (with_hold g rows) turns h goes.2 routes few)
