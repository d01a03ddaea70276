-- Which edits of a history touched texts, and what is pending of it.
use Rattle.std.specs.Prelude.{◌≡◌, ℕ, ◌+◌, nat_lt, Bool, List, [], ◌∷◌, ◌++◌, length, if◌then◌else◌}
use Rattle.ixp_machine_edits.specs.Edits.{change, next}
use Rattle.ixp_machine_steps.specs.declared.state.Entry.{Entry}
use Rattle.ixp_machine_steps.specs.declared.state.State.{State}
use Rattle.ixp_machine_steps.specs.Steps.{Verdict, Accepted, Repeated, Reused, Refused, verdict, step}
use Rattle.ixp_build_pending.specs.declared.pending.Pending.{Pending}
use Rattle.ixp_build_pending.specs.declared.touch.Touch.{Touch}
use Rattle.ixp_build_pending.specs.Pendings.{ListsOnce, header_count, later_count, lists_header, lists_session, session_count}
use Rattle.ixp_build_touches.specs.Touched.{touch}
use Rattle.ixp_desk_history.specs.declared.turn.First.{First}
use Rattle.ixp_desk_history.specs.declared.turn.Turn.{Turn}
use Rattle.ixp_desk_history.specs.Turns.{entries_of, state_of, built_after}

abbrev pub if_accepted_else : {X : Type 0} → Verdict → X → X → X
if_accepted_else Accepted new old = new
if_accepted_else Repeated new old = old
if_accepted_else (Reused kind subject) new old = old
if_accepted_else (Refused x) new old = old

-- A text is told here by which touches list it.

-- the header of the router with the handle
abbrev pub header : List ℕ → Touch → Bool
header h t = lists_header t h

-- the part of its session at the interface with the number
abbrev pub part : List ℕ → ℕ → Touch → Bool
part h n t = lists_session t h n

-- the ROAs
abbrev pub roas : Touch → Bool
roas t = t.roas

-- the count of the last edit that touched the text, if the one before this request was n
abbrev pub touched_by : (Touch → Bool) → State → Entry → ℕ → ℕ
touched_by is_text s e n =
    if_accepted_else (verdict s e) (if is_text
    (touch s.registry (next s.registry e.edit) (change s.registry e.edit)) then s.accepted + 1 else n) n

abbrev pub last_from : (Touch → Bool) → State → ℕ → List Entry → ℕ
last_from is_text s n [] = n
last_from is_text s n (e ∷ es) = last_from is_text (step s e) (touched_by is_text s e n) es

-- the count of the last edit that touched the text; 0 where none did
abbrev pub last_touch : First → List Turn → (Touch → Bool) → ℕ
last_touch f ts is_text = last_from is_text f.state 0 (entries_of ts)

-- what is pending is what edits touched since the last installation, each text with the count of the last
-- such edit
pub record Pends (f : First) (ts : List Turn) (p : Pending) : Type 0 where
  pub headers : (h : List ℕ) → header_count p h ≡ later_count (built_after f ts) (last_touch f ts (header h))
  pub sessions : (h : List ℕ) (n : ℕ)
      → session_count p h n ≡ later_count (built_after f ts) (last_touch f ts (part h n))
  pub roas_are : p.roas ≡ later_count (built_after f ts) (last_touch f ts roas)

-- the number of texts that edits touched after the version `built`, up to the version `upto`: they can be
-- listed, each once
pub record MadeBy (f : First) (ts : List Turn) (built upto made : ℕ) : Type 0 where
  pub before : List Turn
  pub rest : List Turn
  pub is : ts ≡ before ++ rest
  pub count : (state_of f before).accepted ≡ upto
  pub texts : Touch
  pub once : ListsOnce texts
  pub headers : (h : List ℕ) → lists_header texts h ≡ nat_lt built (last_touch f before (header h))
  pub sessions : (h : List ℕ) (n : ℕ)
      → lists_session texts h n ≡ nat_lt built (last_touch f before (part h n))
  pub made_is : made ≡ length texts.headers + length texts.sessions
