-- No call is answered by the head of a reply, which stands for a message that is no request.
use Rattle.std.proofs.Common.{◌≡◌, ◌≢◌, ◌⊎◌, inl, inr, ℕ, Bool, true, false, true≢false, List, Option, Some, None, Result, Ok, Err, refl, sym, ap, ◌∙◌, if◌then◌else◌}
use Rattle.ixp_lang.specs.declared.route.Route.{Route}
use Rattle.ixp_registry.specs.declared.refusal.Refusal as registry
use Rattle.ixp_machine_steps.specs.declared.state.State.{State}
use Rattle.ixp_machine.specs.declared.decision.Reply.{Reply}
use Rattle.ixp_machine.specs.declared.question.Answer.{Answer}
use Rattle.ixp_explain_member.specs.declared.explanation.Explanation.{Explanation}
use Rattle.ixp_explain_member.specs.declared.explanation.Explanation.TheVariants as explanation
use Rattle.ixp_glass_holds.specs.declared.fault.HoldFault.{HoldFault}
use Rattle.ixp_glass_holds.specs.declared.fault.HoldFault.TheVariants as hold
use Rattle.ixp_glass_holds.specs.Calls.{Log as HoldLog}
use Rattle.ixp_desk_history.specs.declared.turn.Text.{Text as Handed}
use Rattle.ixp_desk_history.specs.Answers.{IsOwnText}
use Rattle.ixp_desk_lock.specs.declared.fault.AskFault.{AskFault}
use Rattle.ixp_desk_lock.specs.declared.fault.AskFault.TheVariants as ask
use Rattle.ixp_desk_lock.specs.declared.fault.PubFault.{PubFault}
use Rattle.ixp_desk_lock.specs.declared.fault.PubFault.TheVariants as pub_fault
use Rattle.ixp_desk_lock.specs.declared.fault.SubmitFault.{SubmitFault}
use Rattle.ixp_desk_lock.specs.declared.fault.SubmitFault.TheVariants as submit
use Rattle.ixp_desk_lock.specs.Facts.{Log}
use Rattle.ixp_desk_lock.specs.Sights.{Sight}
use Rattle.ixp_desk.specs.Publications.{IsPublished}
use Rattle.ixp_desk_explain.specs.Explanations.{Explains, ExplainsElse, OrNoMemory, OwnTold, explanation_outcome, fault_outcome, is_denied, own_fault}
use Rattle.ixp_desk_explain.specs.Glass.{FateBy, HoldsBy, HoldsElse, IsFateShown, PlaceBy, Shows, ShowsBy, Sights, are_of, fate_outcome, held_say, hold_outcome, is_unknown, place_says, session_fault}
use Rattle.ixp_api_replies.specs.declared.outcome.Outcome.{Outcome}
use Rattle.ixp_api_replies.specs.declared.outcome.Outcome.TheVariants.{Done, Answered, Text, Called, Head, Refused, KeeperFault, SeenUnknown, NoRouter, NoSession, SeatCount, Ended, Held, TooManyHeld, HeldFamily, NotHeld, NoMemory}
use Rattle.ixp_api.specs.declared.call.Call.{Call}
use Rattle.ixp_api.specs.declared.call.Call.TheVariants.{Edit, Ask, Published, Explain, Hold, Glass, GlassPlace}
use Rattle.ixp_api.specs.declared.call.ExplainCall.{ExplainCall}
use Rattle.ixp_desk_link.specs.Turns.{LinkTurn, answer_outcome, edit_outcome, text_outcome}

abbrev is_head : Outcome → Bool
is_head (Done number) = false
is_head (Answered answer) = false
is_head (Text text) = false
is_head (Called fault) = false
is_head (Head status) = true
is_head (Refused refusal) = false
is_head KeeperFault = false
is_head (SeenUnknown number) = false
is_head NoRouter = false
is_head NoSession = false
is_head (SeatCount seat kept) = false
is_head (Ended count) = false
is_head (Held number) = false
is_head (TooManyHeld have limit) = false
is_head (HeldFamily place) = false
is_head NotHeld = false
is_head NoMemory = false

of_edit : (r : Result Reply SubmitFault) → is_head (edit_outcome r) ≡ false
of_edit (Ok reply) = refl
of_edit (Err (submit.Refused x)) = refl
of_edit (Err submit.KeeperFault) = refl
of_edit (Err (submit.SeatCount a b)) = refl
of_edit (Err (submit.Ended n)) = refl
of_edit (Err submit.NoMemory) = refl

of_answer : (r : Result Answer AskFault) → is_head (answer_outcome r) ≡ false
of_answer (Ok a) = refl
of_answer (Err (ask.Refused x)) = refl
of_answer (Err ask.NoSession) = refl
of_answer (Err (ask.SeatCount a b)) = refl
of_answer (Err (ask.Ended n)) = refl
of_answer (Err ask.NoMemory) = refl

of_fault : (x : PubFault) → is_head (fault_outcome x) ≡ false
of_fault (pub_fault.Refused x) = refl
of_fault (pub_fault.SeenUnknown n) = refl
of_fault pub_fault.NoRouter = refl
of_fault (pub_fault.SeatCount a b) = refl
of_fault (pub_fault.Ended n) = refl
of_fault pub_fault.NoMemory = refl

of_text : (r : Result Handed PubFault) → is_head (text_outcome r) ≡ false
of_text (Ok text) = refl
of_text (Err x) = of_fault x

of_own : (x : AskFault) → is_head (own_fault x) ≡ false
of_own (ask.Refused x) = refl
of_own ask.NoSession = refl
of_own (ask.SeatCount a b) = refl
of_own (ask.Ended n) = refl
of_own ask.NoMemory = refl

of_explanation : (e : Explanation) → is_head (explanation_outcome e) ≡ false
of_explanation (explanation.Text text) = refl
of_explanation (explanation.Refused x) = refl
of_explanation explanation.NoRouter = refl
of_explanation explanation.NoSession = refl

-- Explanations.

-- what is this outcome, or out of memory
or_memory : (says o : Outcome) → is_head says ≡ false → OrNoMemory says o → is_head o ≡ false
or_memory says o apart (inl is) = ap is_head is ∙ apart
or_memory says o apart (inr is) = ap is_head is

of_own_told : (call : ExplainCall) (r : Result Handed AskFault) (o : Outcome) (log : Log) → OwnTold call r o log → is_head o ≡ false
of_own_told call (Ok text) o log t = or_memory _ o (of_explanation _) t.1
of_own_told call (Err x) o log t = ap is_head t ∙ of_own x

of_else : (denied : Bool) (call : ExplainCall) (x : PubFault) (o : Outcome) (u t : Sight) → ExplainsElse denied call x o u t → is_head o ≡ false
of_else true call x o u t e = of_own_told call e.0 o t.2 e.2
of_else false call x o u t e = ap is_head e.1 ∙ of_fault x

of_explains : (call : ExplainCall) (r : Result Handed PubFault) (o : Outcome) (s u t : Sight) → Explains call r o s u t → is_head o ≡ false
of_explains call (Ok text) o s u t e = or_memory _ o (of_explanation _) e.1.1
of_explains call (Err x) o s u t e = of_else (is_denied x) call x o u t e

-- The looking glass.

by_unknown : (b : Bool) (x : AskFault) → is_head (if b then NoSession else own_fault x) ≡ false
by_unknown true x = refl
by_unknown false x = of_own x

of_session : (x : AskFault) → is_head (session_fault x) ≡ false
of_session x = by_unknown (is_unknown x) x

of_hold : (number : ℕ) (r : Result (Unit {0}) HoldFault) → is_head (hold_outcome number r) ≡ false
of_hold number (Ok done) = refl
of_hold number (Err (hold.TooMany have limit)) = refl
of_hold number (Err (hold.Family place)) = refl
of_hold number (Err hold.NoMemory) = refl

of_holds_by : (handle : List ℕ) (n : ℕ) (routes : List Route) (r : Result Handed AskFault) (o : Outcome) (log : Log) (g h : HoldLog) → HoldsBy handle n routes r o log g h → is_head o ≡ false
of_holds_by handle n routes (Ok text) o log g h e = ap is_head e.1.2 ∙ of_hold _ e.1.0
of_holds_by handle n routes (Err x) o log g h e = ap is_head e.1 ∙ of_session x

of_holds : (secret handle : List ℕ) (n : ℕ) (routes : List Route) (r : Result Handed PubFault) (o : Outcome) (s : Sights) (u : Sight) (t : Sights) → HoldsElse secret handle n routes r o s u t → is_head o ≡ false
of_holds secret handle n routes (Ok text) o s u t e = of_holds_by handle n routes e.0 o t.0.2 s.1 t.1 e.2
of_holds secret handle n routes (Err x) o s u t e = ap is_head e.1 ∙ of_fault x

by_family : (b : Bool) (text : List ℕ) (x : registry.Refusal) → is_head (if b then Text text else Refused x) ≡ false
by_family true text x = refl
by_family false text x = refl

of_held : {st : State} {handle : List ℕ} {n : ℕ} {text : Handed} (held : Option (List Route)) (x : IsOwnText st handle n text) → is_head (held_say held x) ≡ false
of_held None x = refl
of_held (Some routes) x = by_family (are_of x.router.family routes) _ _

of_shows : {st : State} {handle : List ℕ} {n : ℕ} {text : Handed} (held : Option (List Route)) (log : HoldLog) (x : IsOwnText st handle n text) (o : Outcome) → Shows held log x o → is_head o ≡ false
of_shows held log x o (inl e) = ap is_head e.1 ∙ of_held held x
of_shows held log x o (inr is) = ap is_head is

of_shows_by : (held : Option (List Route)) (handle : List ℕ) (n : ℕ) (r : Result Handed AskFault) (o : Outcome) (log : Log) (holds : HoldLog) → ShowsBy held handle n r o log holds → is_head o ≡ false
of_shows_by held handle n (Ok text) o log holds e = of_shows held holds e.0.own o e.1
of_shows_by held handle n (Err x) o log holds e = ap is_head e ∙ of_own x

of_fate : (built : ℕ) (e : Explanation) → is_head (fate_outcome built e) ≡ false
of_fate built (explanation.Text text) = refl
of_fate built (explanation.Refused x) = refl
of_fate built explanation.NoRouter = refl
of_fate built explanation.NoSession = refl

of_place : {before now : Log} {handle : List ℕ} {text : Handed} (n : ℕ) (p : IsPublished before now handle text) (o : Option Route) → is_head (place_says n p o) ≡ false
of_place n p None = refl
of_place n p (Some route) = of_fate _ _

of_fate_shown : {before now : Log} {handle : List ℕ} {text : Handed} (n place : ℕ) (log : HoldLog) (p : IsPublished before now handle text) (o : Outcome) → IsFateShown n place log p o → is_head o ≡ false
of_fate_shown n place log p o (inl e) = ap is_head e.2 ∙ of_place n p _
of_fate_shown n place log p o (inr is) = ap is_head is

of_fate_by : {before now : Log} {handle : List ℕ} {text : Handed} (n place : ℕ) (p : IsPublished before now handle text) (r : Result Handed AskFault) (o : Outcome) (g h : HoldLog) → FateBy n place p r o g h → is_head o ≡ false
of_fate_by n place p (Ok own) o g h e = of_fate_shown n place h p o e
of_fate_by n place p (Err x) o g h e = ap is_head e.1 ∙ of_session x

of_place_by : (secret handle : List ℕ) (n place : ℕ) (r : Result Handed PubFault) (o : Outcome) (s : Sights) (u : Sight) (t : Sights) → PlaceBy secret handle n place r o s u t → is_head o ≡ false
of_place_by secret handle n place (Ok text) o s u t e = of_fate_by n place e.0 e.1.0 o s.1 t.1 e.1.2
of_place_by secret handle n place (Err x) o s u t e = ap is_head e.1 ∙ of_fault x

-- All calls.

no_head : (d : Sights × Option ℕ) (call : Call) (o : Outcome) (e : Sights × Option ℕ) → LinkTurn d call o e → is_head o ≡ false
no_head d (Edit entry) o e t = ap is_head t.1.1 ∙ of_edit t.1.0
no_head d (Ask secret q) o e t = ap is_head t.1.2.1 ∙ of_answer t.1.2.0
no_head d (Published secret handle seen) o e t = ap is_head t.1.1 ∙ of_text t.1.0
no_head d (Explain call) o e t = of_explains call t.1.3.0 o d.0.0 t.1.0 e.0.0 t.1.3.2
no_head d (Hold secret handle n routes) o e t = of_holds secret handle n routes t.2.3.0 o d.0 t.2.0 e.0 t.2.3.2
no_head d (Glass secret handle n) o e t = of_shows_by t.2.0 handle n t.2.1.0 o e.0.0.2 e.0.1 t.2.1.2
no_head d (GlassPlace secret handle n place) o e t = of_place_by secret handle n place t.2.3.0 o d.0 t.2.0 e.0 t.2.3.2

pub never_head : (d : Sights × Option ℕ) (call : Call) (o : Outcome) (e : Sights × Option ℕ) → LinkTurn d call o e → (status : ℕ) → o ≢ Head status
never_head d call o e t status is = true≢false (sym (ap is_head is) ∙ no_head d call o e t)
