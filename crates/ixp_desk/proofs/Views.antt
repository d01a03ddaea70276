-- What is known of a history by a view of it.
use Rattle.std.proofs.Common.{◌≡◌, ◌≤◌, ℕ, List, Option, None, Ok, refl, ap, sym, ◌∙◌, subst}
use mathlib.Core.List.{IsPrefix}
use Rattle.ixp_members.specs.Owners.{owner_in, owner_of}
use Rattle.ixp_board.specs.Histories.{entries, IsLegal, IsViewOf}
use Rattle.ixp_board.proofs.Entries.{same_first, same_turns}
use Rattle.ixp_build.specs.Bundles.{built_of}
use Rattle.ixp_desk_history.specs.declared.turn.First.{First}
use Rattle.ixp_desk_history.specs.declared.turn.Shown.{Shown}
use Rattle.ixp_desk_history.specs.declared.turn.Text.{Text}
use Rattle.ixp_desk_history.specs.declared.turn.Turn.{Turn}
use Rattle.ixp_desk_history.specs.Legal.{IsRight, Legal}
use Rattle.ixp_desk_history.specs.Turns.{built_after, registry_of, shown_after, state_of}
use Rattle.ixp_desk_history.proofs.ShownRight.{shown_right}
use Rattle.ixp_desk_lock.specs.Facts.{HasAccepted, HasBuilt, Log}
use Rattle.ixp_desk_lock.specs.Published.{IsLow, Reads, ReadsAt}
use Rattle.ixp_desk_lock.proofs.PublishLaws.{must_low, shown_if}
use Rattle.ixp_desk.specs.Publications.{IsReader, reader_of}

-- what holds of a first state and turns of a history holds of whichever it has
pub of_all : (log : Log) (f : First) (ts : List Turn) → log ≡ entries f ts → (P : First → List Turn → Type 0) → P f ts → (g : First) (us : List Turn) → log ≡ entries g us → P g us
of_all log f ts is P has g us at =
    let same : entries f ts ≡ entries g us = sym is ∙ at in
    subst (λ (x : First). P x us) (same_first f g ts us same) (subst (P f) (same_turns f g ts us same) has)

module _ (log : Log) (v : Shown) (view : IsViewOf Legal shown_after log v) where
  right : IsRight view.first view.turns
  right = shown_right view.first view.turns view.legal_turns

  of_view : (P : First → List Turn → Type 0) → P view.first view.turns → (f : First) (ts : List Turn) → log ≡ entries f ts → P f ts
  of_view = of_all log view.first view.turns view.entries_are

  pub accepted_seen : HasAccepted log v.accepted
  accepted_seen = of_view (λ f ts. (state_of f ts).accepted ≡ v.accepted) (sym (ap (λ (w : Shown). w.accepted) view.view_is ∙ right.accepted))

  pub reader_seen : (secret : List ℕ) → IsReader log secret (reader_of (owner_in v.keys secret))
  reader_seen secret = of_view (λ f ts. reader_of (owner_of (registry_of f ts) secret) ≡ reader_of (owner_in v.keys secret))
      (ap (λ ks. reader_of (owner_in ks secret)) (sym (ap (λ (w : Shown). w.keys) view.view_is ∙ right.keys)))

  built_seen : HasBuilt log (built_of v.bundle)
  built_seen = of_view (λ f ts. built_after f ts ≡ built_of v.bundle) (sym (ap (λ (w : Shown). built_of w.bundle) view.view_is ∙ right.built))

  -- the text that is shown, of a version with so many edits
  pub text_seen : (must : ℕ) (h : List ℕ) (o : Option Text) → must ≤ built_of v.bundle → Reads v h o → ReadsAt log must h o
  text_seen must h o late reads = shown_if (log, None) log None v h (Ok o) refl view reads must (λ f ts is. subst (λ k. must ≤ k) (sym (built_seen f ts is)) late)

-- the edits that were seen before are no more than those that are seen now
pub low_seen : (before now : Log) (must : ℕ) → IsLegal Legal before → IsLegal Legal now → IsPrefix before now → HasAccepted before must → IsLow now must
low_seen before now must one two p has =
    let n = (state_of two.first two.turns).accepted in
    let its : HasAccepted now n = of_all now two.first two.turns two.entries_are (λ f ts. (state_of f ts).accepted ≡ n) refl in
    (n, its, must_low before now must n one two p has its)
