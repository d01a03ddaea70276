-- A text that spells a configuration is answered by it alone.
use Rattle.std.proofs.Common.{ℕ, List, Result, Ok, Err, subst}
use Rattle.ixp_lang.specs.Trees.{ItemTree}
use Rattle.ixp_read.specs.declared.fault.ReadFault.{ReadFault}
use Rattle.ixp_read.specs.Answers.{IsTold, SpellsText}
use Rattle.ixp_read.proofs.AnswerLaws.{one_spelling, spelt_is_answered}
use Rattle.ixp_explain.specs.declared.report.ExplainFault.{ExplainFault}
use Rattle.ixp_explain.specs.declared.report.ExplainFault.TheVariants as told
use Rattle.ixp_explain.specs.Answers.{Answers, Spelt, Tells}
use Rattle.ixp_explain.specs.Explained.{Trouble}

by_its_tree : {A : Type 0} (text : List ℕ) (outcome : List ItemTree → Result A Trouble) (answer : Result A ExplainFault) (items : List ItemTree) → SpellsText text items → Spelt text outcome answer
    → Tells answer (outcome items)
by_its_tree text outcome answer items spelt (other, again, tells) =
    subst (λ (is : List ItemTree). Tells answer (outcome is)) (one_spelling text other items again spelt) tells

pub answer_told : {A : Type 0} (text : List ℕ) (outcome : List ItemTree → Result A Trouble) (answer : Result A ExplainFault) (items : List ItemTree) → SpellsText text items → Answers text outcome answer
    → Tells answer (outcome items)
answer_told text outcome (Ok x) items spelt answers = by_its_tree text outcome (Ok x) items spelt answers
answer_told text outcome (Err told.NoMemory) items spelt answers = tt
answer_told text outcome (Err (told.Unread f)) items spelt answers =
    subst (λ (g : ReadFault). IsTold (Err g)) (spelt_is_answered text items f spelt answers.1) answers.0
answer_told text outcome (Err (told.Family family)) items spelt answers = by_its_tree text outcome (Err (told.Family family)) items spelt answers
answer_told text outcome (Err (told.Fault f)) items spelt answers = by_its_tree text outcome (Err (told.Fault f)) items spelt answers
answer_told text outcome (Err (told.Shape name)) items spelt answers = by_its_tree text outcome (Err (told.Shape name)) items spelt answers
