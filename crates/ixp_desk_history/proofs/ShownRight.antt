-- What readers see of a legal history.
use Rattle.std.proofs.Common.{◌≡◌, ℕ, ◌+◌, ◌≤◌, List, [], ◌∷◌, ◌++◌, refl, ap, sym, ◌∙◌, subst, arith, append_assoc}
use Rattle.std.proofs.lemmas.List.{append-nil}
use Rattle.ixp_registry.specs.declared.registry.Registry.{Registry}
use Rattle.ixp_registry.specs.Valid.{Valid}
use Rattle.ixp_machine_steps.specs.declared.state.State.{State}
use Rattle.ixp_machine_steps.specs.Runs.{run}
use Rattle.ixp_build.specs.declared.bundle.Bundle.{Bundle}
use Rattle.ixp_build.specs.Bundles.{IsOf, built_of}
use Rattle.ixp_desk_history.specs.declared.turn.First.{First}
use Rattle.ixp_desk_history.specs.declared.turn.Shown.{Shown}
use Rattle.ixp_desk_history.specs.declared.turn.Turn.{Turn}
use Rattle.ixp_desk_history.specs.declared.turn.Event.{Event}
use Rattle.ixp_desk_history.specs.declared.turn.Event.TheVariants.{Edit, Question, Install, Fault}
use Rattle.ixp_desk_history.specs.Turns.{entry_in, state_of, registry_of, built_in, built_after, shown_after, IsVersion}
use Rattle.ixp_desk_history.specs.Legal.{MayCome, ShowsTexts, MayFollow, MayBegin, GoesOn, Legal, IsRight}
use Rattle.ixp_desk_history.proofs.Snocs.{built_snoc, shown_snoc, state_snoc}
use Rattle.ixp_desk_history.proofs.Steady.{counts_rise}
use Rattle.ixp_desk_history.proofs.Versions.{legal_before, present, state_both, state_valid, version_stays}

-- what is shown after the turns, of this view
record IsRightOf (f : First) (ts : List Turn) (v : Shown) : Type 0 where
  accepted : v.accepted ≡ (state_of f ts).accepted
  keys : v.keys ≡ (registry_of f ts).keys
  built : built_of v.bundle ≡ built_after f ts
  low : built_after f ts ≤ (state_of f ts).accepted
  texts : (r : Registry) × IsVersion f ts (built_after f ts) r × IsOf v.bundle r

-- the texts that are shown after an event
TextsAt : First → List Turn → ℕ → Bundle → Type 0
TextsAt f ts built b = (built_of b ≡ built) × (built ≤ (state_of f ts).accepted) × ((r : Registry) × IsVersion f ts built r × IsOf b r)

by_event : (f : First) (ts : List Turn) (v : Event) (b : Bundle) → IsRightOf f ts (shown_after f ts) → MayCome f ts v → ShowsTexts f ts v b → TextsAt f ts (built_in (built_after f ts) v) b
unfolding TextsAt
by_event f ts (Edit e d) b is may shows = (ap built_of shows ∙ is.built, is.low, (is.texts.0, is.texts.1, subst (λ c. IsOf c is.texts.0) (sym shows) is.texts.2))
by_event f ts (Question q a) b is may shows = (ap built_of shows ∙ is.built, is.low, (is.texts.0, is.texts.1, subst (λ c. IsOf c is.texts.0) (sym shows) is.texts.2))
by_event f ts (Fault count) b is may shows = (ap built_of shows ∙ is.built, is.low, (is.texts.0, is.texts.1, subst (λ c. IsOf c is.texts.0) (sym shows) is.texts.2))
by_event f ts (Install upto) b is may shows = (shows.0, may.1, shows.1)

right_after : (f : First) (ts : List Turn) (t : Turn) → IsRightOf f ts (shown_after f ts) → MayFollow f ts t → IsRightOf f (ts ++ t ∷ []) (shown_after f (ts ++ t ∷ []))
unfolding TextsAt
right_after f ts t is may =
    let at = by_event f ts t.event t.view.bundle is may.event may.texts in
    let built : built_after f (ts ++ t ∷ []) ≡ built_in (built_after f ts) t.event = built_snoc f.state.accepted ts t in
    let rises : (state_of f ts).accepted ≤ (state_of f (ts ++ t ∷ [])).accepted
    = subst (λ (s : State). (state_of f ts).accepted ≤ s.accepted) (sym (state_snoc f ts t)) (counts_rise (state_of f ts) (entry_in t.event)) in
    let low = at.1 in
    subst (IsRightOf f (ts ++ t ∷ [])) (sym (shown_snoc f ts t)) (record {
      accepted = may.accepted;
      keys = may.keys;
      built = at.0 ∙ sym built;
      low = omega (arith, built, rises, low);
      texts = (at.2.0, subst (λ k. IsVersion f (ts ++ t ∷ []) k at.2.0) (sym built) (version_stays f ts (t ∷ []) (built_in (built_after f ts) t.event) at.2.0 at.2.1), at.2.2);
    })

right_from : (f : First) (before ts : List Turn) → IsRightOf f before (shown_after f before) → GoesOn f before ts → IsRightOf f (before ++ ts) (shown_after f (before ++ ts))
right_from f before [] is goes = subst (λ ts. IsRightOf f ts (shown_after f ts)) (sym (append-nil before)) is
right_from f before (t ∷ ts) is goes =
    subst (λ ts. IsRightOf f ts (shown_after f ts)) (append_assoc before (t ∷ []) ts)
    (right_from f (before ++ t ∷ []) ts (right_after f before t is goes.0) goes.1)

right_first : (f : First) → MayBegin f → IsRightOf f [] f.view
right_first f begins = record {
  accepted = begins.accepted;
  keys = begins.keys;
  built = begins.built;
  low = omega arith;
  texts = (f.state.registry, present f [], begins.texts);
}

-- what is shown of a legal history is right
pub shown_right : (f : First) (ts : List Turn) → Legal f ts → IsRight f ts
shown_right f ts legal =
    let is = right_from f [] ts (right_first f legal.begins) legal.goes in
    record { accepted = is.accepted; keys = is.keys; built = is.built; low = is.low; texts = is.texts }

-- each version of a legal history is valid
pub version_valid : (f : First) (ts : List Turn) (k : ℕ) (r : Registry) → Legal f ts → IsVersion f ts k r → Valid r
version_valid f ts k r legal v =
    subst Valid (sym v.registry) (state_valid f v.before (legal_before f v.before v.rest (subst (Legal f) v.is legal))).registry
