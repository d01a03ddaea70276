-- How requests are answered.
use Rattle.std.specs.Prelude.{◌≡◌, Bool, true, false, Result, Ok, Err, List, [], ◌∷◌}
use Rattle.ixp_http.specs.declared.request.Request.{Request}
use Rattle.ixp_api_json.specs.declared.pointer.CallFault.{CallFault}
use Rattle.ixp_api_bodies.specs.Answers.{is_memory}
use Rattle.ixp_api_replies.specs.declared.outcome.Outcome.{Outcome}
use Rattle.ixp_api_replies.specs.declared.outcome.Outcome.TheVariants as outcome
use Rattle.ixp_api.specs.Calls.{SaysCall}
use Rattle.ixp_api.specs.declared.call.Call.{Call}

-- memory was wanting
abbrev pub wants_memory : Outcome → Bool
wants_memory outcome.NoMemory = true
wants_memory (outcome.Called fault) = is_memory fault
wants_memory (outcome.Done number) = false
wants_memory (outcome.Answered answer) = false
wants_memory (outcome.Text text) = false
wants_memory (outcome.Head status) = false
wants_memory (outcome.Refused refusal) = false
wants_memory outcome.KeeperFault = false
wants_memory (outcome.SeenUnknown number) = false
wants_memory outcome.NoRouter = false
wants_memory outcome.NoSession = false
wants_memory (outcome.SeatCount seat kept) = false
wants_memory (outcome.Ended count) = false
wants_memory (outcome.Held number) = false
wants_memory (outcome.TooManyHeld have limit) = false
wants_memory (outcome.HeldFamily place) = false
wants_memory outcome.NotHeld = false

-- A call is answered by a turn of the desk. What is no call is answered by what is wrong with it, and the
-- desk stays as it was.
abbrev pub Turned : {D : Type 0} → (D → Call → Outcome → D → Type 0) → D → Result Call CallFault → Outcome → D
    → Type 0
Turned turn d (Ok call) o e = turn d call o e
Turned turn d (Err fault) o e = (o ≡ outcome.Called fault) × (e ≡ d)

-- the request is answered so, and the desk is another one then
abbrev pub Answers : {D : Type 0} → (D → Call → Outcome → D → Type 0) → D → Request → Outcome → D → Type 0
Answers turn d request o e = (said : Result Call CallFault) × SaysCall request said × Turned turn d said o e

-- a request, and how it ended
pub record Exchange : Type 0 where
  pub request : Request
  pub outcome : Outcome

-- the request is answered, and the link goes on: it doesn't ask to close, and memory sufficed
abbrev pub Goes : {D : Type 0} → (D → Call → Outcome → D → Type 0) → D → Exchange → D → Type 0
Goes turn d x e = (x.request.closes ≡ false) × (wants_memory x.outcome ≡ false)
    × Answers turn d x.request x.outcome e

-- the requests are answered one after the other, and the link goes on after each
abbrev pub GoesOn : {D : Type 0} → (D → Call → Outcome → D → Type 0) → D → List Exchange → D → Type 0
GoesOn turn d [] e = e ≡ d
GoesOn {D = D} turn d (x ∷ xs) e = (mid : D) × Goes turn d x mid × GoesOn turn mid xs e
