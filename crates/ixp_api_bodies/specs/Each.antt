-- Lists whose items are read one after the other.
use Rattle.std.specs.Prelude.{◌≡◌, ℕ, ◌+◌, List, [], ◌∷◌, ◌++◌, Result, Ok, Err}
use Rattle.serde_json.specs.Data.{Data, Items, no_items, item}
use Rattle.ixp_api_json.specs.declared.pointer.CallFault.{CallFault}
use Rattle.ixp_api_bodies.specs.Answers.{read_then, ThenSays}

module _ {A : Type 0} (Says : ℕ → Data → Result A CallFault → Type 0) where
  -- the items, of each of which this is said at its place, or the fault of the first that is none
  abbrev pub Each : ℕ → Items → Result (List A) CallFault → Type 0
  Each place no_items r = r ≡ Ok []
  Each place (item d ds) r =
      (first : Result A CallFault) × Says place d first
      × ThenSays first (λ x rest. (xs : Result (List A) CallFault) × Each (place + 1) ds xs
      × (rest ≡ read_then xs (λ more. Ok (x ∷ more)))) r

-- ---- for private clauses

-- these items before the others
abbrev pub behind : {A : Type 0} → List A → Result (List A) CallFault → Result (List A) CallFault
behind xs (Ok ys) = Ok (xs ++ ys)
behind xs (Err e) = Err e
