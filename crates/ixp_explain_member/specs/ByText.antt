-- What is answered to what a text tells, where nothing else is at hand.
use Rattle.std.specs.Prelude.{ℕ, List, Result, Ok, Err}
use Rattle.ixp_registry.specs.declared.refusal.Refusal.TheVariants as refusal
use Rattle.ixp_explain.specs.declared.report.ExplainFault.{ExplainFault}
use Rattle.ixp_explain.specs.declared.report.ExplainFault.TheVariants as fault
use Rattle.ixp_explain_member.specs.declared.explanation.Explanation.{Explanation}
use Rattle.ixp_explain_member.specs.declared.explanation.Explanation.TheVariants.{NoSession, Refused, Text}

-- Where a text says nothing of a route: the walk of a generated text has a fault only where the session isn't
-- there. Of the others such a text has none.
abbrev pub untold : ExplainFault → Result Explanation ExplainFault
untold (fault.Family family) = Ok (Refused (refusal.Family family))
untold (fault.Fault f) = Ok NoSession
untold (fault.Unread f) = Err (fault.Unread f)
untold (fault.Shape name) = Err (fault.Shape name)
untold fault.NoMemory = Err fault.NoMemory

-- what is told, as a text, or why nothing is
abbrev pub answered : {A : Type 0} → (A → List ℕ) → Result A ExplainFault → Result Explanation ExplainFault
answered text (Ok x) = Ok (Text (text x))
answered text (Err f) = untold f
