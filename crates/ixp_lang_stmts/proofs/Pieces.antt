-- The pieces of the grammar of statements, by names.
use Rattle.std.proofs.Common.{ℕ, Bool, true, List, [], ◌∷◌, codes}
use Rattle.ixp_lang.specs.Trees.{StmtTree, stmts, if_then, case_of, ExprTree}
use Rattle.ixp_lang.specs.declared.stmt.Label.{Label}
use Rattle.ixp_lang_tokens.specs.declared.token.Mark.TheVariants as mark
use Rattle.ixp_lang_tokens.specs.Grammars.{Grammar, Step, onward, done, gives, sequence, choice, unless}
use Rattle.ixp_lang_tokens.specs.Pieces.{the_mark, the_word}
use Rattle.ixp_lang_stmts.specs.Statements.{Frame, place_in, Returned, Said, said, Statements, with_statement, statements_of, block_end, Deeper, is_case_else, is_if_else, branch_form, else_form, if_form, Arms, with_arm, arms, arms_form, case_end, Subject, case_form, labels_form, test_end, subject_end, plain_form}

-- one more statement, or none
abbrev pub said_one : Statements → Bool → Said (List StmtTree) → Grammar (Step (Said (List StmtTree)) (Said (List StmtTree)))
said_one statement in_arm before = sequence (statement in_arm before.returned) (λ one. gives (onward (with_statement before one)))

abbrev pub one_more : Statements → Bool → Said (List StmtTree) → Grammar (Step (Said (List StmtTree)) (Said (List StmtTree)))
one_more statement in_arm before = choice (said_one statement in_arm before) (gives (done before))

-- one more arm, or none
abbrev pub labelled : Statements → Arms → List Label → Grammar (Step Arms Arms)
labelled statement before labels = sequence (statements_of statement true before.returned) (λ body. gives (onward (with_arm before labels body)))

abbrev pub one_arm : Statements → Bool → ℕ → Arms → Grammar (Step Arms Arms)
one_arm statement is_of_states place before = sequence (labels_form is_of_states place) (λ labels. labelled statement before labels)

abbrev pub next_arm : Statements → Bool → ℕ → Arms → Grammar (Step Arms Arms)
next_arm statement is_of_states place before = choice (one_arm statement is_of_states place before) (gives (done before))

-- what follows the `else` of a `case`
abbrev pub else_arm : Statements → Returned → Unit {0} → Grammar (Said (List StmtTree))
else_arm statement returned x = sequence (the_mark mark.Colon) (λ y. block_end statement returned)

-- a `case` behind its arms
abbrev pub finished : Statements → Subject → Arms → Grammar (Said StmtTree)
finished statement subject some_arms = sequence (case_end statement some_arms.returned) (λ other. gives (said other.returned (case_of subject.on (arms some_arms.it) (stmts other.it))))

-- and behind what it is about
abbrev pub armed : Statements → Returned → ℕ → Subject → Grammar (Said StmtTree)
armed statement returned place subject = sequence (arms_form statement subject.is_of_states place returned) (finished statement subject)

-- and behind its keyword
abbrev pub subjected : Frame → ℕ → Statements → Returned → ℕ → Unit {0} → Grammar (Said StmtTree)
subjected frame levels statement returned place x = sequence (subject_end (place_in frame place) levels) (armed statement returned place)

-- a branch that is one statement, and one that is a block's
abbrev pub alone : Statements → Bool → Returned → Grammar (Said (List StmtTree))
alone statement in_arm returned = sequence (statement in_arm returned) (λ one. gives (said one.returned (one.it ∷ [])))

abbrev pub braced : Statements → Returned → Grammar (Said (List StmtTree))
braced statement returned = sequence (the_mark mark.BlockOpen) (λ x. block_end statement returned)

-- an `else` and what follows it
abbrev pub taken_else : {A : Type 0} → Grammar A → Grammar A
taken_else f = sequence (the_word (codes "else")) (λ x. f)

-- or none
abbrev pub or_else : {A : Type 0} → Bool → Grammar A → A → Grammar A
or_else in_arm f v = choice (unless (is_case_else in_arm) (taken_else f)) (unless (is_if_else in_arm) (gives v))

-- what follows the `else` of an `if`
abbrev pub else_do : Frame → Deeper → Bool → ExprTree → Said (List StmtTree) → Grammar (Said StmtTree)
else_do frame inner in_arm test then_do =
    sequence (branch_form frame inner in_arm then_do.returned) (λ other. gives (said other.returned (if_then test (stmts then_do.it) (stmts other.it))))

-- an `if` without one
abbrev pub without : ExprTree → Said (List StmtTree) → Said StmtTree
without test then_do = said then_do.returned (if_then test (stmts then_do.it) (stmts []))

-- an `if` behind `then`
abbrev pub then_text : Frame → Deeper → Bool → Returned → ExprTree → Grammar (Said StmtTree)
then_text frame inner in_arm returned test = sequence (branch_form frame inner in_arm returned) (λ then_do. else_form frame inner in_arm test then_do)

-- and behind its keyword
abbrev pub tested : Frame → ℕ → Deeper → Bool → Returned → ℕ → Unit {0} → Grammar (Said StmtTree)
tested frame levels inner in_arm returned statement x = sequence (test_end (place_in frame statement) levels) (then_text frame inner in_arm returned)

-- the last kinds of statements
abbrev pub case_or_plain : Frame → ℕ → Deeper → Returned → Grammar (Said StmtTree)
case_or_plain frame levels inner returned = choice (case_form frame inner returned) (plain_form frame levels returned)

abbrev pub if_or_others : Frame → ℕ → Deeper → Bool → Returned → Grammar (Said StmtTree)
if_or_others frame levels inner in_arm returned = choice (if_form frame levels inner in_arm returned) (case_or_plain frame levels inner returned)
