use Rattle.ixp_machine.proofs.OwnQuestions.{refusal_apart, answer_apart, export_apart}
use Rattle.ixp_machine.proofs.laws.members_ask_of_their_own.Goals as goal

pub returns-clause-refusal : goal.returns-clause-refusal
returns-clause-refusal c = refusal_apart

pub returns-clause-answer : goal.returns-clause-answer
returns-clause-answer c = answer_apart

pub returns-clause-export : goal.returns-clause-export
returns-clause-export c = export_apart
