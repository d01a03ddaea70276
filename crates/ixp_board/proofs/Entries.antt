-- Laws of histories.
use Rattle.std.proofs.Common.{◌≡◌, ℕ, ◌+◌, ◌≤◌, nat_lt, Bool, true, false, MatchBool, List, [], ◌∷◌, ◌++◌, map, length, refl, ap, sym, ◌∙◌, arith}
use Rattle.std.proofs.lemmas.Bool.Decides.{nat_tests}
use mathlib.Core.List.{IsPrefix}
use Rattle.ixp_board.specs.declared.entry.Entry.{Entry}
use Rattle.ixp_board.specs.declared.entry.Entry.TheVariants.{First, Turn, Nothing}
use Rattle.ixp_board.specs.Histories.{entries, turns_of, with_turn, IsLegal, IsViewOf}
use Rattle.ixp_board.proofs.Beginnings.{begins_longer, begins_whole}

-- the turns of a history are those that it was made of
pub turns_of-map : (F : Type 0) {O : Type 0} (turns : List O) → turns_of {F = F} (map Turn turns) ≡ turns
turns_of-map F [] = refl
turns_of-map F (turn ∷ turns) = ap (λ rest. turn ∷ rest) (turns_of-map F turns)

pub turns_of-entries : {F O : Type 0} (first : F) (turns : List O) → turns_of (entries first turns) ≡ turns
turns_of-entries {F} first turns = turns_of-map F turns

pub turns_of-with_turn : {F O : Type 0} (log : List (Entry F O)) (turn : O) → turns_of (with_turn log turn) ≡ turns_of log ++ turn ∷ []
turns_of-with_turn [] turn = refl
turns_of-with_turn (First first ∷ log) turn = turns_of-with_turn log turn
turns_of-with_turn (Turn other ∷ log) turn = ap (λ rest. other ∷ rest) (turns_of-with_turn log turn)
turns_of-with_turn (Nothing ∷ log) turn = turns_of-with_turn log turn

-- these turns as entries
abbrev turned : (F : Type 0) {O : Type 0} → List O → List (Entry F O)
turned F turns = map Turn turns

map-with_turn : (F : Type 0) {O : Type 0} (turns : List O) (turn : O) → turned F turns ++ Turn turn ∷ [] ≡ turned F (turns ++ turn ∷ [])
map-with_turn F [] turn = refl
map-with_turn F (other ∷ turns) turn = ap (λ rest. Turn other ∷ rest) (map-with_turn F turns turn)

-- a turn more in the history is one more in its list of turns
pub entries-with_turn : {F O : Type 0} (first : F) (turns : List O) (turn : O) → with_turn (entries first turns) turn ≡ entries first (turns ++ turn ∷ [])
entries-with_turn {F} first turns turn = ap (λ rest. First first ∷ rest) (map-with_turn F turns turn)

-- a history has one first state and one list of turns
pub same_first : {F O : Type 0} (first other : F) (turns others : List O) → entries first turns ≡ entries other others → first ≡ other
same_first first other turns others same = cc (same)

pub same_turns : {F O : Type 0} (first other : F) (turns others : List O) → entries first turns ≡ entries other others → turns ≡ others
same_turns first other turns others same = sym (turns_of-entries first turns) ∙ (ap turns_of same ∙ turns_of-entries other others)

length-map_turn : (F : Type 0) {O : Type 0} (turns : List O) → length (turned F turns) ≡ length turns
length-map_turn F [] = refl
length-map_turn F (turn ∷ turns) = omega (arith, length-map_turn F turns)

-- a legal history has one entry more than turns
pub length-legal : {F O : Type 0} (legal : F → List O → Type 0) (log : List (Entry F O)) → IsLegal legal log → length log ≡ length (turns_of log) + 1
length-legal {F} legal log is =
    let turns = ap length (ap turns_of is.entries_are ∙ turns_of-entries is.first is.turns) in
    let whole = ap length is.entries_are in
    omega (arith, turns, whole, length-map_turn F is.turns)

-- of two legal beginnings of one history, the one with no more turns begins the other
pub fewer_begin : {F O : Type 0} (legal : F → List O → Type 0) (xs ys zs : List (Entry F O)) → IsLegal legal xs → IsLegal legal ys
    → IsPrefix xs zs → IsPrefix ys zs → length (turns_of xs) ≤ length (turns_of ys) → IsPrefix xs ys
fewer_begin legal xs ys zs one two p q fits =
    begins_longer xs ys zs p q (omega (arith, length-legal legal xs one, length-legal legal ys two))

-- a legal beginning with all turns of a legal history is the whole
pub all_are_whole : {F O : Type 0} (legal : F → List O → Type 0) (xs ys : List (Entry F O)) → IsLegal legal xs → IsLegal legal ys
    → IsPrefix xs ys → length (turns_of ys) ≤ length (turns_of xs) → xs ≡ ys
all_are_whole legal xs ys one two p fits =
    begins_whole xs ys p (omega (arith, length-legal legal xs one, length-legal legal ys two))

by_less : (P Q : Type 0) (a b : ℕ) (less : Bool) → nat_lt a b ≡ less → (a ≤ b → P) → (b ≤ a → Q) → MatchBool less P Q
by_less P Q a b true is one other = one (grind (arith, nat_tests))
by_less P Q a b false is one other = other (grind (arith, nat_tests))

-- of two legal beginnings of one history, the one with fewer turns begins the other
pub begin_by_turns : {F O : Type 0} (legal : F → List O → Type 0) (xs ys zs : List (Entry F O)) (a b : ℕ) → a ≡ length (turns_of xs) → b ≡ length (turns_of ys)
    → IsLegal legal xs → IsLegal legal ys → IsPrefix xs zs → IsPrefix ys zs → MatchBool (nat_lt a b) (IsPrefix xs ys) (IsPrefix ys xs)
begin_by_turns legal xs ys zs a b a_is b_is one two p q =
    by_less (IsPrefix xs ys) (IsPrefix ys xs) a b (nat_lt a b) refl
    (λ fits. fewer_begin legal xs ys zs one two p q (omega arith))
    (λ fits. fewer_begin legal ys xs zs two one q p (omega arith))

module _ {F O V : Type 0} (legal : F → List O → Type 0) (fold : F → List O → V) (log : List (Entry F O)) (view : V) (turn : O) where
  -- the turns of the view stay legal with the turn, where the history does
  stays_legal : (is : IsViewOf legal fold log view) → IsLegal legal (with_turn log turn) → legal is.first (is.turns ++ turn ∷ [])
  stays_legal is stays =
      let more = is.turns ++ turn ∷ [] in
      let whole : entries is.first more ≡ entries stays.first stays.turns =
      sym (entries-with_turn is.first is.turns turn) ∙ (ap (λ l. with_turn l turn) (sym is.entries_are) ∙ stays.entries_are) in
      rw (same_first is.first stays.first more stays.turns whole, same_turns is.first stays.first more stays.turns whole) stays.legal_turns

  -- a step can be made from the view
  pub may_step : IsViewOf legal fold log view → IsLegal legal (with_turn log turn)
      → (first : F) × (turns : List O) × (view ≡ fold first turns) × legal first turns × legal first (turns ++ turn ∷ [])
  may_step is stays = (is.first, is.turns, is.view_is, is.legal_turns, stays_legal is stays)

  -- what the step gives is the view of the history with the turn
  pub stepped : (next : V) → IsViewOf legal fold log view → IsLegal legal (with_turn log turn)
      → ((first : F) (turns : List O) → view ≡ fold first turns → legal first turns → legal first (turns ++ turn ∷ []) → next ≡ fold first (turns ++ turn ∷ []))
      → IsViewOf legal fold (with_turn log turn) next
  stepped next is stays gives = record {
    first = is.first;
    turns = is.turns ++ turn ∷ [];
    entries_are = ap (λ l. with_turn l turn) is.entries_are ∙ entries-with_turn is.first is.turns turn;
    legal_turns = stays_legal is stays;
    view_is = gives is.first is.turns is.view_is is.legal_turns (stays_legal is stays);
  }

-- the history of a first state alone, and its view
pub first_view : {F O V : Type 0} (legal : F → List O → Type 0) (fold : F → List O → V) (first : F) (view : V) → legal first [] → view ≡ fold first []
    → IsViewOf legal fold (entries first []) view
first_view legal fold first view is view_is = record { first = first; turns = []; entries_are = refl; legal_turns = is; view_is = view_is }
