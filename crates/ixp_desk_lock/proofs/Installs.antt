-- Texts that are installed.
use Rattle.std.proofs.Common.{◌≡◌, ◌≤◌, ℕ, List, [], ◌∷◌, ◌++◌, map, Option, None, Result, Ok, Err, IfOk, OnOk, refl, ap, sym, ◌∙◌, subst, arith}
use mathlib.Core.List.{IsPrefix}
use Rattle.ixp_board.specs.declared.entry.Entry.{Entry}
use Rattle.ixp_board.specs.declared.entry.Entry.TheVariants as entry
use Rattle.ixp_board.specs.Histories.{entries, turns_of, with_turn, IsLegal, IsViewOf}
use Rattle.ixp_board.proofs.Beginnings.{begins_self}
use Rattle.ixp_board.proofs.Entries.{entries-with_turn, same_first, same_turns, turns_of-entries}
use Rattle.ixp_machine_steps.specs.declared.state.State.{State}
use Rattle.ixp_machine_steps.specs.Runs.{run}
use Rattle.ixp_build_pending.specs.declared.pending.Pending.{Pending}
use Rattle.ixp_build_pending.specs.Pendings.{IsLater}
use Rattle.ixp_build.specs.declared.making.Made.{Made}
use Rattle.ixp_build.specs.Bundles.{built_of}
use Rattle.ixp_build.specs.Orders.{installed, made_from, order_of}
use Rattle.ixp_desk_history.specs.declared.turn.Event.{Event}
use Rattle.ixp_desk_history.specs.declared.turn.Event.TheVariants.{Install}
use Rattle.ixp_desk_history.specs.declared.turn.First.{First}
use Rattle.ixp_desk_history.specs.declared.turn.Shown.{Shown}
use Rattle.ixp_desk_history.specs.declared.turn.Turn.{Turn}
use Rattle.ixp_desk_history.specs.Turns.{entry_in, entries_of, state_of, built_after, built_in, shown_after, turns_by}
use Rattle.ixp_desk_history.specs.Legal.{Legal, MayCome, MayFollow, ShowsTexts}
use Rattle.ixp_desk_history.specs.Orders.{IsMadeAt}
use Rattle.ixp_desk_history.specs.Touches.{Pends}
use Rattle.ixp_desk_history.proofs.Installing.{install_pends, install_right}
use Rattle.ixp_desk_history.proofs.ShownRight.{shown_right}
use Rattle.ixp_desk_history.proofs.Snocs.{built_snoc, legal_snoc, shown_snoc, state_snoc}
use Rattle.ixp_desk_history.proofs.Steady.{counts_rise}
use Rattle.ixp_desk_history.proofs.Versions.{legal_before, state_both}
use Rattle.std.specs.declared.alloc.AllocError.{AllocError}
use Rattle.ixp_desk_lock.specs.declared.owed.Owed.{Owed}
use Rattle.ixp_desk_lock.specs.Facts.{Log, Folds, HasAccepted, HasBuilt, IsOrdered, ShowsInstalled, WasOrdered, turn_in, reach_in}
use Rattle.ixp_desk_lock.specs.Publishing.{CatchesUp, IsInstallation, Level}
use Rattle.ixp_desk_lock.specs.Sights.{Sight}
use Rattle.ixp_desk_lock.proofs.Owing.{has_accepted, log_is, number_at, shown_is, unowed}

turns_of-more : (F : Type 0) {O : Type 0} (xs : List O) (rest : List (Entry F O)) → turns_of (map entry.Turn xs ++ rest) ≡ xs ++ turns_of rest
turns_of-more F [] rest = refl
turns_of-more F (x ∷ xs) rest = ap (λ l. x ∷ l) (turns_of-more F xs rest)

-- a beginning of a history has its first state and its first turns
pub prefix_turns : (a b : First) (xs ys : List Turn) → IsPrefix (entries a xs) (entries b ys) → (a ≡ b) × IsPrefix xs ys
prefix_turns a b xs ys p =
    let whole : entries a xs ++ p.0 ≡ entries b ys = p.1 in
    (cc (whole), (turns_of p.0, sym (turns_of-more First xs p.0) ∙ (ap turns_of whole ∙ turns_of-entries b ys)))

-- the texts that an event shows
shows_at : (f : First) (ts : List Turn) (v : Event) (upto : ℕ) (t : Turn) → v ≡ Install upto → ShowsTexts f ts (Install upto) t.view.bundle → ShowsTexts f ts v t.view.bundle
shows_at f ts v upto t is shows = subst (λ w. ShowsTexts f ts w t.view.bundle) (sym is) shows

install_follows : (f : First) (at more : List Turn) (t : Turn) (m : Made) (old : Shown) → Legal f (at ++ more) → old ≡ shown_after f (at ++ more) → IsMadeAt f at m
    → built_of old.bundle ≡ m.from → t.number ≡ turns_by t.seat (at ++ more) → t.event ≡ Install m.upto → ShowsInstalled old m t.view
    → MayFollow f (at ++ more) t × (built_after f (at ++ more) ≤ m.upto)
install_follows f at more t m old legal shown o from number event shows =
    let right = shown_right f (at ++ more) legal in
    let was = shown_right f at (legal_before f at more legal) in
    let upto : m.upto ≡ (state_of f at).accepted = ap (λ (x : Made). x.upto) o.made in
    let same : built_after f (at ++ more) ≡ built_after f at
    = sym right.built ∙ (ap (λ (w : Shown). built_of w.bundle) (sym shown) ∙ (from ∙ ap (λ (x : Made). x.from) o.made)) in
    let low : built_after f at ≤ (state_of f at).accepted = was.low in
    let rises : (state_of f at).accepted ≤ (state_of f (at ++ more)).accepted
    = subst (λ (s : State). (state_of f at).accepted ≤ s.accepted) (sym (state_both f at more)) (counts_rise (state_of f at) (entries_of more)) in
    let stays : state_of f ((at ++ more) ++ t ∷ []) ≡ state_of f (at ++ more)
    = state_snoc f (at ++ more) t ∙ ap (λ v. run (state_of f (at ++ more)) (entry_in v)) event in
    let bounds : (built_after f (at ++ more) ≤ m.upto) × (m.upto ≤ (state_of f (at ++ more)).accepted) = (omega (arith, same, low, upto), omega (arith, rises, upto)) in
    let texts : ShowsTexts f (at ++ more) (Install m.upto) (installed (shown_after f (at ++ more)).bundle m)
    = subst (λ k. ShowsTexts f (at ++ more) (Install k) (installed (shown_after f (at ++ more)).bundle m)) (sym upto) (install_right f at more m legal o same) in (
      record {
        number = number;
        event = subst (MayCome f (at ++ more)) (sym event) bounds;
        accepted = shows.accepted ∙ (ap (λ (w : Shown). w.accepted) shown ∙ (right.accepted ∙ ap (λ (x : State). x.accepted) (sym stays)));
        keys = shows.keys ∙ (ap (λ (w : Shown). w.keys) shown ∙ (right.keys ∙ ap (λ (x : State). x.registry.keys) (sym stays)));
        texts = shows_at f (at ++ more) t.event m.upto t event
            (subst (ShowsTexts f (at ++ more) (Install m.upto)) (sym (shows.bundle ∙ ap (λ (w : Shown). installed w.bundle m) shown)) texts);
      },
      bounds.0,
    )

-- the turn may be put, and what is so then but for what is pending
record MayInstall (log : Log) (s : State) (p : Pending) (t : Turn) (upto : ℕ) : Type 0 where
  first : First
  turns : List Turn
  is : log ≡ entries first turns
  legal : Legal first (turns ++ t ∷ [])
  state : s ≡ state_of first (turns ++ t ∷ [])
  low : built_after first turns ≤ upto
  pends : Pends first turns p

may_install : (log at : Log) (s : State) (p : Pending) (t : Turn) (m : Made) (old : Shown) → Folds log None None s p
    → IsViewOf Legal shown_after log old → IsPrefix at log → IsOrdered at m → built_of old.bundle ≡ m.from → t.number ≡ turns_by t.seat (turns_of log)
    → t.event ≡ Install m.upto → ShowsInstalled old m t.view → MayInstall log s p t m.upto
may_install log at s p t m old g view prefix o from number event shows =
    let parts = prefix_turns o.first g.first o.turns g.turns (subst (λ l. IsPrefix l (entries g.first g.turns)) o.is (subst (λ l. IsPrefix at l) g.is prefix)) in
    let more = parts.1.0 in
    let split : o.turns ++ more ≡ g.turns = parts.1.1 in
    let legal : Legal g.first (o.turns ++ more) = subst (Legal g.first) (sym split) g.legal in
    let shown : old ≡ shown_after g.first (o.turns ++ more) = shown_is log old g.first g.turns view g.is ∙ ap (shown_after g.first) (sym split) in
    let at_number : t.number ≡ turns_by t.seat (o.turns ++ more)
    = number ∙ (ap (λ (l : Log). turns_by t.seat (turns_of l)) g.is ∙ (ap (turns_by t.seat) (turns_of-entries g.first g.turns) ∙ ap (turns_by t.seat) (sym split))) in
    let may = install_follows g.first o.turns more t m old legal shown (subst (λ f. IsMadeAt f o.turns m) parts.0 o.made) from at_number event shows in
    let may_now : MayFollow g.first g.turns t = subst (λ l. MayFollow g.first l t) split may.0 in
    record {
      first = g.first;
      turns = g.turns;
      is = g.is;
      legal = legal_snoc g.first g.turns t g.legal may_now;
      state = g.state ∙ sym (state_snoc g.first g.turns t ∙ ap (λ v. run (state_of g.first g.turns) (entry_in v)) event);
      low = subst (λ l. built_after g.first l ≤ m.upto) split may.1;
      pends = g.pends;
    }

installed_legal : (log : Log) (s : State) (p : Pending) (t : Turn) (upto : ℕ) → MayInstall log s p t upto → IsLegal Legal (with_turn log t)
installed_legal log s p t upto m = record {
  first = m.first;
  turns = m.turns ++ t ∷ [];
  entries_are = ap (λ l. with_turn l t) m.is ∙ entries-with_turn m.first m.turns t;
  legal_turns = m.legal;
}

installed_folds : (log : Log) (s : State) (p q : Pending) (t : Turn) (upto : ℕ) → MayInstall log s p t upto → t.event ≡ Install upto → IsLater upto p q → Folds (with_turn log t) None None s q
installed_folds log s p q t upto m event later = record {
  first = m.first;
  turns = m.turns ++ t ∷ [];
  is = ap (λ l. with_turn l t) m.is ∙ entries-with_turn m.first m.turns t;
  legal = m.legal;
  state = m.state;
  reaches = tt;
  pends = install_pends m.first m.turns t p q upto event m.low m.pends later;
}

pub legal_of : (log : Log) (s : State) (p : Pending) → Folds log None None s p → IsLegal Legal log
legal_of log s p f = record { first = f.first; turns = f.turns; entries_are = f.is; legal_turns = f.legal }

-- the order that is taken now
pub ordered_now : (log : Log) (s : State) (p : Pending) (old : Shown) (m : Made) → Folds log None None s p → IsViewOf Legal shown_after log old → CatchesUp s p old m → IsOrdered log m
ordered_now log s p old m g shown c =
    let built : built_of old.bundle ≡ built_after g.first g.turns
    = ap (λ (w : Shown). built_of w.bundle) (shown_is log old g.first g.turns shown g.is) ∙ (shown_right g.first g.turns g.legal).built in
    record {
      first = g.first;
      turns = g.turns;
      is = g.is;
      made = record {
        pending = p;
        pends = g.pends;
        texts = c.texts;
        listed = c.listed;
        made = c.made ∙ (ap (λ (b : ℕ). made_from (order_of b s.accepted s.registry c.texts)) built
            ∙ ap (λ (x : State). made_from (order_of (built_after g.first g.turns) x.accepted x.registry c.texts)) g.state);
      };
    }

-- the version that is shown
built_is : (log : Log) (s : State) (p : Pending) (old : Shown) → Folds log None None s p → IsViewOf Legal shown_after log old → HasBuilt log (built_of old.bundle)
built_is log s p old g shown f ts is =
    let now = shown_is log old f ts shown is in
    let same : entries g.first g.turns ≡ entries f ts = sym g.is ∙ is in
    let legal : Legal f ts = subst (λ (h : First). Legal h ts) (same_first g.first f g.turns ts same) (subst (Legal g.first) (same_turns g.first f g.turns ts same) g.legal) in
    sym (shown_right f ts legal).built ∙ ap (λ (w : Shown). built_of w.bundle) (sym now)

module _ (v : Log × Option Turn) (log : Log) (owed : Option Owed) (s : State) (p : Pending) (old : Shown) (view : ◌≡◌ {A = Log × Option Turn} (log, turn_in owed) v) (none : v.1 ≡ None)
    (folds : Folds log (turn_in owed) (reach_in owed) s p) (shown : IsViewOf Legal shown_after log old) where
  -- the version that is shown, and the texts that are made of it now
  pub built_now : HasBuilt v.0 (built_of old.bundle)
  built_now = subst (λ (l : Log). HasBuilt l (built_of old.bundle)) (sym (log_is v log (turn_in owed) view)) (built_is log s p old (unowed v log owed s p view none folds) shown)

  pub made_ordered : (r : Result Made AllocError) → IfOk r (CatchesUp s p old) → IfOk r (IsOrdered v.0)
  made_ordered (Ok m) c = subst (λ (l : Log). IsOrdered l m) (sym (log_is v log (turn_in owed) view)) (ordered_now log s p old m (unowed v log owed s p view none folds) shown c)
  made_ordered (Err fault) c = tt

  pub made_from_built : (r : Result Made AllocError) → IfOk r (CatchesUp s p old) → IfOk r (λ m. HasBuilt v.0 m.from)
  made_from_built (Ok m) c = subst (HasBuilt v.0) (sym (ap (λ (x : Made). x.from) c.made)) built_now
  made_from_built (Err fault) c = tt

  pub made_upto : (r : Result Made AllocError) → IfOk r (CatchesUp s p old) → IfOk r (λ m. HasAccepted v.0 m.upto)
  made_upto (Ok m) c = subst (HasAccepted v.0) (sym (ap (λ (x : Made). x.upto) c.made)) (has_accepted v log owed s p view none folds)
  made_upto (Err fault) c = tt

-- what is ordered now was ordered at a beginning
pub ordered_here : (log : Log) (m : Made) → IsOrdered log m → WasOrdered log m
ordered_here log m is = (log, begins_self log, is)

-- the turn that was prepared is an installation
pub installation_if : (v : Log × Option Turn) (log : Log) (owed : Option Turn) (seat : Sight) (m : Made) (old : Shown) (number count : ℕ) (r : Result Turn AllocError) → ◌≡◌ {A = Log × Option Turn} (log, owed) v
    → IsViewOf Legal shown_after log old → number ≡ seat.0 → count ≡ seat.1 → WasOrdered v.0 m → HasBuilt v.0 m.from → IfOk r (λ t. t.seat ≡ number) → IfOk r (λ t. t.number ≡ count)
    → IfOk r (λ t. t.event ≡ Install m.upto) → IfOk r (λ t. ShowsInstalled old m t.view) → IfOk r (IsInstallation v.0 m seat)
installation_if v log owed seat m old number count (Ok t) view shown number_is count_is ordered from its at event shows = record {
  seat = its ∙ number_is;
  number = at ∙ count_is;
  event = event;
  ordered = ordered;
  from = from;
  shown = old;
  is_shown = subst (λ (l : Log). IsViewOf Legal shown_after l old) (sym (log_is v log owed view)) shown;
  shows = shows;
}
installation_if v log owed seat m old number count (Err fault) view shown number_is count_is ordered from its at event shows = tt

module _ (v : Log × Option Turn) (log : Log) (owed : Option Owed) (seat : Sight) (s : State) (p : Pending) (t : Turn) (m : Made) (upto : ℕ)
    (view : ◌≡◌ {A = Log × Option Turn} (log, turn_in owed) v) (level : Level v seat) (folds : Folds log (turn_in owed) (reach_in owed) s p)
    (i : IsInstallation v.0 m seat t) (upto_is : m.upto ≡ upto) where
  now : MayInstall log s p t m.upto
  now =
      let g = unowed v log owed s p view level.none folds in
      let here = log_is v log (turn_in owed) view in
      let at = subst (λ (l : Log). WasOrdered l m) here i.ordered in
      let shown = subst (λ (l : Log). IsViewOf Legal shown_after l i.shown) here i.is_shown in
      let built = built_is log s p i.shown g shown g.first g.turns g.is in
      let its = i.from g.first g.turns (here ∙ g.is) in
      may_install log at.0 s p t m i.shown g shown at.1 at.2 (sym built ∙ its) (number_at v log (turn_in owed) seat t view level i.seat i.number) i.event i.shows

  -- the texts may be installed
  pub legal_put : IsLegal Legal (with_turn log t)
  legal_put = installed_legal log s p t m.upto now

  -- the facts once they are
  pub folds_put : (q : Pending) → IsLater upto p q → Folds (with_turn log t) None None s q
  folds_put q later = installed_folds log s p q t m.upto now i.event (subst (λ n. IsLater n p q) (sym upto_is) later)

  -- the version that is shown then, and the view
  pub built_put : HasBuilt (with_turn log t) upto
  built_put f ts is =
      let same : entries now.first (now.turns ++ t ∷ []) ≡ entries f ts
      = sym (ap (λ l. with_turn l t) now.is ∙ entries-with_turn now.first now.turns t) ∙ is in
      sym (ap (λ (g : First). built_after g (now.turns ++ t ∷ [])) (same_first now.first f (now.turns ++ t ∷ []) ts same) ∙ ap (built_after f) (same_turns now.first f (now.turns ++ t ∷ []) ts same))
      ∙ (built_snoc now.first.state.accepted now.turns t ∙ (ap (built_in (built_after now.first now.turns)) i.event ∙ upto_is))

  pub view_put : IsViewOf Legal shown_after (with_turn log t) t.view
  view_put = record {
    first = now.first;
    turns = now.turns ++ t ∷ [];
    entries_are = ap (λ l. with_turn l t) now.is ∙ entries-with_turn now.first now.turns t;
    legal_turns = now.legal;
    view_is = sym (shown_snoc now.first now.turns t);
  }

-- the version that was installed is that of the accepted edits
pub upto_if : (r : Result ℕ AllocError) (old new : Log) (n : ℕ) → IfOk r (λ k. k ≡ n) → HasAccepted old n → OnOk r ((k : ℕ) → HasAccepted old k → HasAccepted new k) → IfOk r (HasAccepted new)
upto_if (Ok k) old new n is has goes = goes k (subst (HasAccepted old) (sym is) has)
upto_if (Err fault) old new n is has goes = tt
