-- What a caller is given of an answer.
use Rattle.std.specs.Prelude.{◌≡◌, ℕ, List, Result, Ok, Err}
use Rattle.ixp_board.specs.Histories.{entries}
use Rattle.ixp_num.specs.declared.roa.Roa.{Roa}
use Rattle.ixp_machine_steps.specs.declared.state.State.{State}
use Rattle.ixp_desk_history.specs.declared.turn.First.{First}
use Rattle.ixp_desk_history.specs.declared.turn.Turn.{Turn}
use Rattle.ixp_desk_history.specs.Answers.{HasNoSession, IsAnswered, IsOwnText}
use Rattle.ixp_desk_history.specs.Turns.{registry_of}
use Rattle.ixp_desk_lock.specs.Facts.{IsStateAt, Log}
use Rattle.ixp_machine.specs.declared.question.Answer.{Answer}
use Rattle.ixp_desk_history.specs.declared.turn.Answered.{Answered}
use Rattle.ixp_desk_history.specs.declared.turn.Answered.TheVariants as answered
use Rattle.ixp_desk_history.specs.declared.turn.Asked.{Asked}
use Rattle.ixp_desk_history.specs.declared.turn.Text.{Text}
use Rattle.ixp_desk_lock.specs.declared.fault.AskFault.{AskFault}
use Rattle.ixp_desk_lock.specs.declared.fault.AskFault.TheVariants as ask

abbrev pub answer_given : Answered → Result Answer AskFault
answer_given (answered.Answer a) = Ok a
answer_given (answered.Refused x) = Err (ask.Refused x)
answer_given answered.NoSession = Err ask.NoSession
answer_given (answered.Text t) = Err ask.NoMemory
answer_given (answered.Place p) = Err ask.NoMemory

abbrev pub text_given : Answered → Result Text AskFault
text_given (answered.Text t) = Ok t
text_given (answered.Refused x) = Err (ask.Refused x)
text_given answered.NoSession = Err ask.NoSession
text_given (answered.Answer a) = Err ask.NoMemory
text_given (answered.Place p) = Err ask.NoMemory

-- what is answered of a session's own text, where it isn't refused
abbrev pub IsOwnAnswer : State → List ℕ → ℕ → Answered → Type 0
IsOwnAnswer s router n (answered.Text t) = IsOwnText s router n t
IsOwnAnswer s router n answered.NoSession = HasNoSession s.registry router n
IsOwnAnswer s router n a = ⊥

-- the ROAs are those of the registry after this history
abbrev pub HasRoas : Log → List Roa → Type 0
HasRoas log roas = (f : First) (ts : List Turn) → log ≡ entries f ts → roas ≡ (registry_of f ts).public.roas

-- the question is answered so of the state after this history
abbrev pub IsAnsweredAt : Log → Asked → Answered → Type 0
IsAnsweredAt log q a = (s : State) × IsStateAt log s × IsAnswered s q a
