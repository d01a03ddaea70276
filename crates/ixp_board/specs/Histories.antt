-- Histories: a first state, and the turns that were made since, the oldest first.
use Rattle.std.specs.Prelude.{◌≡◌, List, [], ◌∷◌, ◌++◌, map}
use Rattle.ixp_board.specs.declared.entry.Entry.{Entry}
use Rattle.ixp_board.specs.declared.entry.Entry.TheVariants.{First, Turn, Nothing}

-- the history that begins with a state and has these turns
abbrev pub entries : {F O : Type 0} → F → List O → List (Entry F O)
entries first turns = First first ∷ map Turn turns

-- the turns of a history
abbrev pub turns_of : {F O : Type 0} → List (Entry F O) → List O
turns_of [] = []
turns_of (First first ∷ log) = turns_of log
turns_of (Turn turn ∷ log) = turn ∷ turns_of log
turns_of (Nothing ∷ log) = turns_of log

-- the history with one turn more
abbrev pub with_turn : {F O : Type 0} → List (Entry F O) → O → List (Entry F O)
with_turn log turn = log ++ Turn turn ∷ []

module _ {F O : Type 0} (legal : F → List O → Type 0) where
  -- it is the history of a first state and turns that are legal
  pub record IsLegal (log : List (Entry F O)) : Type 0 where
    pub first : F
    pub turns : List O
    pub entries_are : log ≡ entries first turns
    pub legal_turns : legal first turns

  -- it is a legal history, and the view is the fold of its turns
  pub record IsViewOf {V : Type 0} (fold : F → List O → V) (log : List (Entry F O)) (view : V) : Type 0 where
    pub first : F
    pub turns : List O
    pub entries_are : log ≡ entries first turns
    pub legal_turns : legal first turns
    pub view_is : view ≡ fold first turns
