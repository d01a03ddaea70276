-- The ROAs that a seat's history shows.
use Rattle.std.proofs.Common.{◌≡◌, ◌≤◌, ◌+◌, ◌⊎◌, inl, inr, ℕ, List, [], ◌∷◌, ◌++◌, length, map, Ok, Err, refl, ap, sym, ◌∙◌, subst, arith, append_assoc}
use Rattle.std.proofs.lemmas.List.{append-nil}
use mathlib.Core.List.{IsPrefix}
use Rattle.ixp_num.specs.declared.roa.Roa.{Roa}
use Rattle.ixp_board.specs.declared.entry.Entry.TheVariants as entry
use Rattle.ixp_board.specs.Histories.{turns_of, IsLegal, IsViewOf}
use Rattle.ixp_board.proofs.Beginnings.{begins_self, begins_through}
use Rattle.ixp_board.proofs.Entries.{turns_of-entries, turns_of-map}
use Rattle.ixp_build.specs.Bundles.{built_of}
use Rattle.ixp_desk_history.specs.declared.turn.Event.{Event}
use Rattle.ixp_desk_history.specs.declared.turn.Event.TheVariants.{Edit, Question, Install, Fault}
use Rattle.ixp_desk_history.specs.declared.turn.First.{First}
use Rattle.ixp_desk_history.specs.declared.turn.Shown.{Shown}
use Rattle.ixp_desk_history.specs.declared.turn.Turn.{Turn}
use Rattle.ixp_desk_history.specs.Legal.{GoesOn, Legal, MayCome}
use Rattle.ixp_desk_history.specs.Turns.{built_after, built_in, shown_after, IsVersion}
use Rattle.ixp_desk_history.proofs.ShownRight.{shown_right}
use Rattle.ixp_desk_history.proofs.Snocs.{built_snoc}
use Rattle.ixp_desk_history.proofs.Versions.{goes_parts}
use Rattle.ixp_desk_lock.specs.declared.fault.TurnFault.{TurnFault}
use Rattle.ixp_desk_lock.specs.declared.fault.TurnFault.TheVariants as turn
use Rattle.ixp_desk_lock.specs.Calls.{Catches, One, Own, turned}
use Rattle.ixp_desk_lock.specs.Facts.{HasAccepted, HasBuilt, Log}
use Rattle.ixp_desk_lock.specs.Published.{IsInstall}
use Rattle.ixp_desk_lock.specs.Sights.{Looks, Sight}
use Rattle.ixp_desk_lock.proofs.OwnTurns.{own_from}
use Rattle.ixp_desk_lock.proofs.PublishLaws.{installs_one, must_low, one_count}
use Rattle.ixp_desk.proofs.Views.{of_all}
use Rattle.ixp_desk_rtr.specs.Roas.{AreRoasAt, GivesRoas, RoasFault}

-- By a view of the history.

module _ (log : Log) (v : Shown) (view : IsViewOf Legal shown_after log v) where
  built_at : built_of v.bundle ≡ built_after view.first view.turns
  built_at = ap (λ (w : Shown). built_of w.bundle) view.view_is ∙ (shown_right view.first view.turns view.legal_turns).built

  pub built_shown : HasBuilt log (built_of v.bundle)
  built_shown = of_all log view.first view.turns view.entries_are (λ f ts. built_after f ts ≡ built_of v.bundle) (sym built_at)

  pub roas_shown : AreRoasAt log (built_of v.bundle) v.bundle.roas
  roas_shown =
      let right = shown_right view.first view.turns view.legal_turns in
      let r = right.texts.0 in
      record {
        first = view.first;
        turns = view.turns;
        is = view.entries_are;
        legal = view.legal_turns;
        registry = r;
        version = subst (λ k. IsVersion view.first view.turns k r) (sym built_at) right.texts.1;
        roas_are = ap (λ (w : Shown). w.bundle.roas) view.view_is ∙ right.texts.2.roas refl;
      }

-- An installation shows no older version, and none that is shown later is older.

rises_by : (f : First) (ts : List Turn) (v : Event) → MayCome f ts v → built_after f ts ≤ built_in (built_after f ts) v
rises_by f ts (Edit e d) may = omega arith
rises_by f ts (Question q a) may = omega arith
rises_by f ts (Install upto) may = may.0
rises_by f ts (Fault count) may = omega arith

rises_once : (f : First) (ts : List Turn) (t : Turn) → MayCome f ts t.event → built_after f ts ≤ built_after f (ts ++ t ∷ [])
rises_once f ts t may = subst (λ n. built_after f ts ≤ n) (sym (built_snoc f.state.accepted ts t)) (rises_by f ts t.event may)

rises : (f : First) (before ts : List Turn) → GoesOn f before ts → built_after f before ≤ built_after f (before ++ ts)
rises f before [] goes = subst (λ us. built_after f before ≤ built_after f us) (sym (append-nil before)) (omega arith)
rises f before (t ∷ ts) goes =
    let one = rises_once f before t goes.0.event in
    let more = rises f (before ++ t ∷ []) ts goes.1 in
    subst (λ us. built_after f before ≤ built_after f us) (append_assoc before (t ∷ []) ts) (omega (arith, one, more))

turns_both : (a b : Log) → turns_of (a ++ b) ≡ turns_of a ++ turns_of b
turns_both [] b = refl
turns_both (entry.First f ∷ a) b = turns_both a b
turns_both (entry.Turn t ∷ a) b = ap (λ (ts : List Turn). t ∷ ts) (turns_both a b)
turns_both (entry.Nothing ∷ a) b = turns_both a b

module _ (upto n : ℕ) (log : Log) (legal : IsLegal Legal log) (built : HasBuilt log n) where
  by_turns : (us ts after : List Turn) → legal.turns ≡ us ++ (ts ++ after) → One (λ v. v ≡ Install upto) (map (λ (x : Turn). x.event) ts) → upto ≤ n
  by_turns us [] after split does = absurd does
  by_turns us (x ∷ y ∷ ts) after split does = absurd does
  by_turns us (x ∷ []) after split does =
      let f = legal.first in
      let whole : Legal f (us ++ x ∷ after) = subst (Legal f) split legal.legal_turns in
      let goes = (goes_parts f [] us (x ∷ after) whole.goes).1 in
      let more = rises f (us ++ x ∷ []) after goes.1 in
      let here : built_after f (us ++ x ∷ []) ≡ upto = built_snoc f.state.accepted us x ∙ ap (built_in (built_after f us)) does in
      let end : built_after f ((us ++ x ∷ []) ++ after) ≡ n = ap (built_after f) (append_assoc us (x ∷ []) after ∙ sym split) ∙ built f legal.turns legal.entries_are in
      omega (arith, more, here, end)

installed_shown : (upto n : ℕ) (s t : Sight) → IsLegal Legal t.2 → Own (One (λ v. v ≡ Install upto)) s t → HasBuilt t.2 n → upto ≤ n
installed_shown upto n s t legal own built =
    let both : List Turn = own.turns ++ own.after in
    let split : legal.turns ≡ turns_of own.before ++ both
    = sym (turns_of-entries legal.first legal.turns)
    ∙ (ap turns_of (sym legal.entries_are ∙ own.now) ∙ (turns_both own.before (turned both) ∙ ap (λ (xs : List Turn). turns_of own.before ++ xs) (turns_of-map First both))) in
    by_turns upto n t.2 legal built (turns_of own.before) own.turns own.after split own.does

-- What is given.

-- what is shown suffices
pub shown_gives : (k must : ℕ) (roas : List Roa) (s t : Sight) → IsLegal Legal s.2 → IsLegal Legal t.2 → Looks s t → HasAccepted t.2 must → must ≤ k → AreRoasAt t.2 k roas → GivesRoas k roas s t
shown_gives k must roas s t old new l has few at = record {
  at = at;
  looked = t.2;
  later = l.2;
  begins = begins_self t.2;
  contains = λ n its. let one = one_count t.2 new.first new.turns n must new.entries_are its has in omega (arith, one, few);
  contains_seen = λ n its. let low = must_low s.2 t.2 n must old new l.2 its has in omega (arith, low, few);
  turns = inl l.1;
}

own_as : (One' Two' : List Event → Type 0) (s t : Sight) → ((vs : List Event) → One' vs → Two' vs) → Own One' s t → Own Two' s t
own_as One' Two' s t turns own = record {
  before = own.before;
  turns = own.turns;
  after = own.after;
  seen = own.seen;
  now = own.now;
  others = own.others;
  mine = own.mine;
  count = own.count;
  all = own.all;
  does = turns (map (λ (x : Turn). x.event) own.turns) own.does;
}

-- texts were installed
pub caught_gives : (k upto : ℕ) (roas : List Roa) (s u t : Sight) → IsLegal Legal s.2 → IsLegal Legal u.2 → IsLegal Legal t.2 → Looks s u → IsPrefix u.2 t.2 → Catches (Ok upto) u t → HasBuilt t.2 k → AreRoasAt t.2 k roas
    → GivesRoas k roas s t
caught_gives k upto roas s u t old mid new l begins caught built at =
    let shown = installed_shown upto k u t new caught.0 built in
    record {
      at = at;
      looked = u.2;
      later = l.2;
      begins = begins;
      contains = λ n its. let low = must_low u.2 t.2 n upto mid new begins its caught.1 in omega (arith, low, shown);
      contains_seen = λ n its. let low = must_low s.2 t.2 n upto old new (begins_through s.2 u.2 t.2 l.2 begins) its caught.1 in omega (arith, low, shown);
      turns = inr (own_from (One IsInstall) s u t l (own_as (One (λ v. v ≡ Install upto)) (One IsInstall) u t (installs_one upto) caught.0));
    }

-- Faults.

pub look_short : (s t : Sight) → Looks s t → RoasFault turn.NoMemory s t
look_short s t l = let same = l.1 in (omega (arith, same), omega (arith, same))

one_long : (P : Event → Type 0) (ts : List Turn) → One P (map (λ (x : Turn). x.event) ts) → length ts ≡ 1
one_long P [] is = absurd is
one_long P (t ∷ []) is = refl
one_long P (t ∷ u ∷ ts) is = absurd is

pub caught_short : (upto : ℕ) (s u t : Sight) → Looks s u → Catches (Ok upto) u t → RoasFault turn.NoMemory s t
caught_short upto s u t l caught =
    let same = l.1 in
    let count = caught.0.count in
    let long = one_long (λ v. v ≡ Install upto) caught.0.turns caught.0.does in
    (omega (arith, same, count, long), omega (arith, same, count, long))

pub caught_fault : (x : TurnFault) (s u t : Sight) → Looks s u → Catches (Err x) u t → RoasFault x s t
caught_fault (turn.SeatCount a b) s u t l says = record { stays = says.stays ∙ l.1; its = says.its ∙ l.1; turns = says.turns; differ = says.differ }
caught_fault (turn.Ended n) s u t l says = record { stays = says.stays ∙ l.1; all = says.all; its = says.its ∙ l.1; last = says.last }
caught_fault turn.NoMemory s u t l says = let same = says ∙ l.1 in (omega (arith, same), omega (arith, same))
