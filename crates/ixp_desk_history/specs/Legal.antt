-- Which histories are legal.
use Rattle.std.specs.Prelude.{◌≡◌, ◌≤◌, ◌<◌, ◌^◌, ◌-◌, ℕ, ⊤, List, [], ◌∷◌, ◌++◌}
use Rattle.ixp_io.specs.Faults.{Rose}
use Rattle.ixp_registry.specs.declared.registry.Registry.{Registry}
use Rattle.ixp_machine_edits.specs.Edits.{IsLawful}
use Rattle.ixp_machine_steps.specs.States.{ValidState}
use Rattle.ixp_machine_steps.specs.Steps.{verdict}
use Rattle.ixp_machine.specs.Decisions.{Says}
use Rattle.ixp_build.specs.declared.bundle.Bundle.{Bundle}
use Rattle.ixp_build.specs.Bundles.{IsOf, built_of, made_of}
use Rattle.ixp_desk_history.specs.declared.turn.First.{First}
use Rattle.ixp_desk_history.specs.declared.turn.Turn.{Turn}
use Rattle.ixp_desk_history.specs.declared.turn.Event.{Event}
use Rattle.ixp_desk_history.specs.declared.turn.Event.TheVariants.{Edit, Question, Install, Fault}
use Rattle.ixp_desk_history.specs.Answers.{IsAnswered}
use Rattle.ixp_desk_history.specs.Turns.{state_of, registry_of, faults_of, built_after, turns_by, shown_after, IsVersion}
use Rattle.ixp_desk_history.specs.Touches.{MadeBy}

-- The event may come after the turns: an edit is decided, and a question answered, by the state at its place.
-- Texts that are installed are of no older version than those before, and the store's count of faults rises
-- with each.
abbrev pub MayCome : First → List Turn → Event → Type 0
MayCome f ts (Edit e d) =
    IsLawful e.value.edit × ((state_of f ts).accepted < 2 ^ 64 - 1)
    × Says e.value.number (verdict (state_of f ts) e.value) d.value
MayCome f ts (Question q a) = IsAnswered (state_of f ts) q a.value
MayCome f ts (Install upto) = (built_after f ts ≤ upto) × (upto ≤ (state_of f ts).accepted)
MayCome f ts (Fault count) = Rose (faults_of f ts) count

-- how many texts the installation made: those touched since the last version that was installed, or as many
-- as before where there is no later one
pub record ShowsMade (f : First) (ts : List Turn) (upto made : ℕ) : Type 0 where
  pub later : built_after f ts < upto → MadeBy f ts (built_after f ts) upto made
  pub same : upto ≡ built_after f ts → made ≡ made_of (shown_after f ts).bundle

-- The texts that are shown after the event: after an installation all texts of its version, and else those
-- that were shown.
abbrev pub ShowsTexts : First → List Turn → Event → Bundle → Type 0
ShowsTexts f ts (Install upto) b =
    (built_of b ≡ upto) × ((r : Registry) × IsVersion f ts upto r × IsOf b r)
    × ShowsMade f ts upto (made_of b)
ShowsTexts f ts (Edit e d) b = b ≡ (shown_after f ts).bundle
ShowsTexts f ts (Question q a) b = b ≡ (shown_after f ts).bundle
ShowsTexts f ts (Fault count) b = b ≡ (shown_after f ts).bundle

-- The turn may follow these turns. Each seat numbers its turns from 0.
pub record MayFollow (f : First) (ts : List Turn) (t : Turn) : Type 0 where
  pub number : t.number ≡ turns_by t.seat ts
  pub event : MayCome f ts t.event
  pub accepted : t.view.accepted ≡ (state_of f (ts ++ t ∷ [])).accepted
  pub keys : t.view.keys ≡ (registry_of f (ts ++ t ∷ [])).keys
  pub texts : ShowsTexts f ts t.event t.view.bundle

-- what a history may begin with: a valid state, of which readers see all texts
pub record MayBegin (f : First) : Type 0 where
  pub valid : ValidState f.state
  pub accepted : f.view.accepted ≡ f.state.accepted
  pub keys : f.view.keys ≡ f.state.registry.keys
  pub texts : IsOf f.view.bundle f.state.registry
  pub built : built_of f.view.bundle ≡ f.state.accepted
  pub made : made_of f.view.bundle ≡ 0

-- each turn may follow those before it
abbrev pub GoesOn : First → List Turn → List Turn → Type 0
GoesOn f before [] = ⊤
GoesOn f before (t ∷ ts) = MayFollow f before t × GoesOn f (before ++ t ∷ []) ts

pub record Legal (f : First) (ts : List Turn) : Type 0 where
  pub begins : MayBegin f
  pub goes : GoesOn f [] ts

-- What is shown is right: the count and the keys of the state, and all texts of the version that was
-- installed last.
pub record IsRight (f : First) (ts : List Turn) : Type 0 where
  pub accepted : (shown_after f ts).accepted ≡ (state_of f ts).accepted
  pub keys : (shown_after f ts).keys ≡ (registry_of f ts).keys
  pub built : built_of (shown_after f ts).bundle ≡ built_after f ts
  pub low : built_after f ts ≤ (state_of f ts).accepted
  pub texts : (r : Registry) × IsVersion f ts (built_after f ts) r × IsOf (shown_after f ts).bundle r
