-- What names a session, and in which order sessions stand.
use Rattle.std.specs.Prelude.{ℕ, List, ◌∷◌}
use Rattle.ixp_glass_holds.specs.declared.hold.SessionKey.{SessionKey}
use Rattle.ixp_glass_holds.specs.declared.hold.Hold.{Hold}

-- the router's session at the interface
abbrev pub session_of : List ℕ → ℕ → SessionKey
session_of router interface = record { interface = interface; router = router }

-- by the interfaces' numbers, then by the handles
abbrev pub session_key : SessionKey → List ℕ
session_key s = s.interface ∷ s.router

abbrev pub hold_key : Hold → List ℕ
hold_key h = session_key h.session
