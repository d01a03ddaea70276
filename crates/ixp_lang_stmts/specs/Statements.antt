-- Statements (BIRD 2 User's Guide, chapter "Filters", control structures), with the types of what they hold.
use Rattle.std.specs.Prelude.{ℕ, zero, suc, Bool, true, false, ◌&&◌, ◌||◌, not, List, [], ◌∷◌, ◌++◌, codes, Option, Some, None, if◌then◌else◌}
use Rattle.std.specs.Option.{option_or}
use Rattle.ixp_lang.specs.Trees.{StmtTree, stmts, ArmTrees, arms_end, arms_more, block, if_then, case_of, return_value, accept, reject, call_statement, set_next_hop, prepend, add_pair, delete_pairs, add_triple, delete_triples, ExprTree, exprs}
use Rattle.ixp_lang.specs.declared.stmt.Label.{Label}
use Rattle.ixp_lang.specs.declared.stmt.Label.TheVariants.{Range as Between, State as IsState}
use Rattle.ixp_lang_tokens.specs.declared.fault.Cause.{Cause}
use Rattle.ixp_lang_tokens.specs.declared.fault.Cause.TheVariants.{Unknown, Deep}
use Rattle.ixp_lang_tokens.specs.declared.token.Kind.{Kind}
use Rattle.ixp_lang_tokens.specs.declared.token.Mark.TheVariants.{Semicolon, Dot, Range, Colon, Open, Close, BlockOpen, BlockClose, Equal}
use Rattle.ixp_lang_tokens.specs.Grammars.{Grammar, gives, takes, sequence, choice, rounds, checks, bars, unless, here, Step, onward, done}
use Rattle.ixp_lang_tokens.specs.Pieces.{the_mark, is_mark, the_word, is_word, same_word, is_next, behind, a_name, a_number}
use Rattle.ixp_lang_exprs.specs.declared.wanted.Expected.TheVariants.{Value, NumberOrState}
use Rattle.ixp_lang_exprs.specs.declared.wanted.Wanted.{Wanted}
use Rattle.ixp_lang_exprs.specs.declared.types.ValueType.{ValueType}
use Rattle.ixp_lang_exprs.specs.declared.types.ValueType.TheVariants.{Int, Bool as Truth, Ip, Pair, Triple, State, PairSet, TripleSet}
use Rattle.ixp_lang_exprs.specs.declared.env.Signature.{Signature}
use Rattle.ixp_lang_exprs.specs.declared.context.Scope.{Scope}
use Rattle.ixp_lang_exprs.specs.declared.context.Scope.TheVariants as scope
use Rattle.ixp_lang_exprs.specs.Types.{same_type, is_expected}
use Rattle.ixp_lang_exprs.specs.Names.{Names, function_of}
use Rattle.ixp_lang_exprs.specs.Lists.{never, ended, listed}
use Rattle.ixp_lang_exprs.specs.Sets.{if_missing, unless_so}
use Rattle.ixp_lang_exprs.specs.Operands.{Operand, misfit_at, settled, fits, one_type}
use Rattle.ixp_lang_exprs.specs.Expressions.{Place, arguments, enclosed, expression_form, state_in, word_in}

-- The function or filter whose statements are read: what names stand for in it, and which of the two it is.
pub record Frame : Type 0 where
  pub names : Names
  pub scope : Scope

-- where the expressions of a statement stand at whose first token so many are left
abbrev pub place_in : Frame → ℕ → Place
place_in frame statement = record { names = frame.names; scope = frame.scope; statement = statement }

-- a value is returned in functions alone
abbrev pub may_return : Scope → Bool
may_return (scope.Function number) = true
may_return _ = false

-- What a function returns, as far as it is read: the type that was written or that of the first `return`, and
-- whether there was one.
pub record Returned : Type 0 where
  pub ty : Option ValueType
  pub is_met : Bool

-- a `return` of such a value fits what was written or returned before
abbrev pub may_meet : Returned → ValueType → Bool
may_meet returned ty = is_expected (Value returned.ty) ty

abbrev pub met : ValueType → Returned
met ty = record { ty = Some ty; is_met = true }

-- What statements say: themselves, and what was returned until then.
pub record Said (A : Type 0) : Type 0 where
  pub it : A
  pub returned : Returned

abbrev pub said : {A : Type 0} → Returned → A → Said A
said returned it = record { it = it; returned = returned }

-- Statements that hold no others, in which the statement's place is known.

-- an expression of the type, and the semicolon
abbrev pub value_end : Place → ℕ → ValueType → Grammar ExprTree
value_end at levels wanted =
    sequence (expression_form at levels (one_type wanted at.statement)) (λ value.
    sequence (the_mark Semicolon) (λ tt. checks (fits value wanted at.statement) (gives value.tree)))

-- an expression of the type in parentheses, which are no level, and the semicolon
abbrev pub enclosed_end : Place → ℕ → ValueType → Grammar ExprTree
enclosed_end at levels wanted =
    sequence (the_mark Open) (λ tt.
    sequence (expression_form at levels (one_type wanted at.statement)) (λ value.
    sequence (the_mark Close) (λ tt. checks (fits value wanted at.statement) (ended Semicolon value.tree))))

abbrev pub params_of : Option Signature → List ValueType
params_of (Some signature) = signature.params
params_of None = []

-- the arguments of a call, in parentheses that are no level, and the semicolon
abbrev pub call_end : Place → ℕ → List ℕ → Grammar StmtTree
call_end at levels name =
    sequence (the_mark Open) (λ tt.
    sequence (enclosed at (expression_form at levels)
    (arguments (params_of (function_of (at.names name)))) at.statement) (λ parts.
    ended Semicolon (call_statement name (exprs parts.trees))))

abbrev pub call_form : Place → ℕ → Grammar StmtTree
call_form at levels =
    sequence a_name (λ name. checks (if_missing (function_of (at.names name)) (Unknown, at.statement))
    (call_end at levels name))

-- what is wanted of a returned value
abbrev pub returned_wanted : Returned → ℕ → Wanted
returned_wanted returned place = record { expected = Value returned.ty; place = place }

-- what follows `return`
abbrev pub return_end : Place → ℕ → Returned → Grammar (Said StmtTree)
return_end at levels returned =
    sequence (expression_form at levels (returned_wanted returned at.statement)) (λ value.
    sequence (the_mark Semicolon) (λ tt.
    checks (option_or (settled value) (unless_so (may_meet returned value.ty) (misfit_at at.statement)))
    (gives (said (met value.ty) (return_value value.tree)))))

abbrev pub return_form : Place → ℕ → Returned → Grammar (Said StmtTree)
return_form at levels returned =
    sequence (the_word (codes "return")) (λ tt. checks
    (unless_so (may_return at.scope) (misfit_at at.statement)) (return_end at levels returned))

-- what follows `bgp_next_hop`
abbrev pub next_hop_end : Place → ℕ → Grammar StmtTree
next_hop_end at levels = sequence (the_mark Equal)
    (λ tt. sequence (value_end at levels Ip) (λ value. gives (set_next_hop value)))

-- what follows `bgp_path`
abbrev pub prepend_end : Place → ℕ → Grammar StmtTree
prepend_end at levels =
    sequence (the_mark Dot) (λ tt.
    sequence (the_word (codes "prepend"))
    (λ tt. sequence (enclosed_end at levels Int) (λ value. gives (prepend value))))

-- `.add(..)` of one and `.delete(..)` of a set, behind the list's name
abbrev pub change_end : Place → ℕ → ValueType → (ExprTree → StmtTree) → ValueType → (ExprTree → StmtTree)
    → Grammar StmtTree
change_end at levels one add many delete =
    sequence (the_mark Dot) (λ tt.
    choice
    (sequence (the_word (codes "add")) (λ tt. sequence (enclosed_end at levels one)
    (λ value. gives (add value))))
    (sequence (the_word (codes "delete"))
    (λ tt. sequence (enclosed_end at levels many) (λ value. gives (delete value)))))

abbrev pub pairs_end : Place → ℕ → Grammar StmtTree
pairs_end at levels = change_end at levels Pair add_pair PairSet delete_pairs

abbrev pub triples_end : Place → ℕ → Grammar StmtTree
triples_end at levels = change_end at levels Triple add_triple TripleSet delete_triples

abbrev pub verdict_form : List ℕ → StmtTree → Grammar StmtTree
verdict_form word verdict = sequence (the_word word) (λ tt. ended Semicolon verdict)

-- a statement that returns nothing
unfoldable pub change_form : Place → ℕ → Grammar StmtTree
change_form at levels =
    choice (call_form at levels)
    (choice (sequence (the_word (codes "bgp_next_hop")) (λ tt. next_hop_end at levels))
    (choice (sequence (the_word (codes "bgp_path")) (λ tt. prepend_end at levels))
    (choice (sequence (the_word (codes "bgp_community")) (λ tt. pairs_end at levels))
    (choice (sequence (the_word (codes "bgp_large_community")) (λ tt. triples_end at levels))
    (choice (verdict_form (codes "accept") accept)
    (verdict_form (codes "reject") reject))))))

abbrev pub plain_form : Frame → ℕ → Returned → Grammar (Said StmtTree)
plain_form frame levels returned =
    here (λ statement.
    choice (return_form (place_in frame statement) levels returned)
    (sequence (change_form (place_in frame statement) levels) (λ change. gives (said returned change))))

-- Labels of a `case`: numbers and ranges, or states.

abbrev pub number_label : Bool → ℕ → Grammar Label
number_label is_of_states place =
    sequence a_number (λ low.
    checks (unless_so (not is_of_states) (misfit_at place))
    (choice (sequence (the_mark Range) (λ tt. sequence a_number (λ high. gives (Between low high))))
    (gives (Between low low))))

abbrev pub state_label : Bool → ℕ → Grammar Label
state_label is_of_states place =
    sequence (takes (word_in state_in)) (λ state. checks (unless_so is_of_states (misfit_at place))
    (gives (IsState state)))

abbrev pub label_form : Bool → ℕ → Grammar Label
label_form is_of_states place = choice (number_label is_of_states place) (state_label is_of_states place)

abbrev pub labels_form : Bool → ℕ → Grammar (List Label)
labels_form is_of_states place =
    sequence (listed (λ before. label_form is_of_states place)) (λ labels. ended Colon labels)

abbrev pub is_state : ValueType → Bool
is_state ty = same_type ty State

-- a `case` is about a number or a state
abbrev pub no_case : ValueType → ℕ → Option (Cause × ℕ)
no_case ty place = unless_so (same_type ty Int || same_type ty State) (misfit_at place)

-- Statements that hold others, over the statements of a level.

-- The statement of a level: in an arm of a `case` or not, and what was returned before it.
abbrev pub Statements : Type 1
Statements = Bool → Returned → Grammar (Said StmtTree)

abbrev pub with_statement : Said (List StmtTree) → Said StmtTree → Said (List StmtTree)
with_statement before one = said one.returned (before.it ++ one.it ∷ [])

-- one statement more behind those before it, if there is one
abbrev pub statement_round : Statements → Bool → Said (List StmtTree)
    → Grammar (Step (Said (List StmtTree)) (Said (List StmtTree)))
statement_round statement in_arm before =
    choice (sequence (statement in_arm before.returned) (λ one. gives (onward (with_statement before one))))
    (gives (done before))

-- as many statements as there are
abbrev pub statements_of : Statements → Bool → Returned → Grammar (Said (List StmtTree))
statements_of statement in_arm returned = rounds (statement_round statement in_arm) (said returned [])

-- the statements of a block and its end
abbrev pub block_end : Statements → Returned → Grammar (Said (List StmtTree))
block_end statement returned =
    sequence (statements_of statement false returned) (λ body. ended BlockClose body)

-- the statements one level deeper, if a level is left
pub data Deeper : Type 1 where
  nothing : Deeper
  deeper : ℕ → Statements → Deeper

abbrev pub is_block : List Kind → Bool
is_block = is_next (is_mark BlockOpen)

abbrev pub is_else : List Kind → Bool
is_else = is_next (is_word (codes "else"))

abbrev pub is_there : Option (List Kind) → (List Kind → Bool) → Bool
is_there (Some tokens) test = test tokens
is_there None test = false

-- an `else` with a colon behind it, which in an arm is the `case`'s
abbrev pub is_case_else : Bool → List Kind → Bool
is_case_else in_arm tokens =
    in_arm && is_there (behind (is_word (codes "else")) tokens) (is_next (is_mark Colon))

-- an `else` that is the nearest `if`'s
abbrev pub is_if_else : Bool → List Kind → Bool
is_if_else in_arm tokens = is_else tokens && not (is_case_else in_arm tokens)

abbrev pub block_form : Deeper → Returned → Grammar (Said StmtTree)
block_form (deeper levels statement) returned =
    sequence (the_mark BlockOpen) (λ tt. sequence (block_end statement returned)
    (λ body. gives (said body.returned (block (stmts body.it)))))
block_form nothing returned = bars is_block Deep never

-- the words with which a statement begins that holds others or returns
abbrev pub begins_control : List ℕ → Bool
begins_control word = same_word word (codes "if") || same_word word (codes "case") || same_word word (codes "return")

-- or that changes the route
abbrev pub begins_change : List ℕ → Bool
begins_change word =
    same_word word (codes "bgp_next_hop") || same_word word (codes "bgp_path")
    || same_word word (codes "bgp_community") || same_word word (codes "bgp_large_community")

abbrev pub is_verdict : List ℕ → Bool
is_verdict word = same_word word (codes "accept") || same_word word (codes "reject")

-- the words with which a statement begins
abbrev pub begins_statement : List ℕ → Bool
begins_statement word = begins_control word || begins_change word || is_verdict word

abbrev pub statement_word : List ℕ → Option (List ℕ)
statement_word word = if begins_statement word then Some word else None

abbrev pub deep_word : Scope → List ℕ → ℕ → Cause × ℕ
deep_word s word place = if same_word word (codes "return") && not (may_return s) then misfit_at place
    else (Deep, place)

-- no branch stands here, one level too deep; what begins no statement is refused as such
abbrev pub no_branch : {A : Type 0} → Frame → Grammar A
no_branch frame =
    bars is_block Deep
    (choice
    (here (λ place. sequence a_name (λ name. checks (option_or
    (if_missing (function_of (frame.names name)) (Unknown, place)) (Some (Deep, place))) never)))
    (here (λ place. sequence (takes (word_in statement_word))
    (λ word. checks (Some (deep_word frame.scope word place)) never))))

-- a branch of an `if`: a block's statements, or one statement
abbrev pub branch_form : Frame → Deeper → Bool → Returned → Grammar (Said (List StmtTree))
branch_form frame (deeper levels statement) in_arm returned =
    choice (sequence (the_mark BlockOpen) (λ tt. block_end statement returned))
    (unless is_block (sequence (statement in_arm returned) (λ one. gives (said one.returned (one.it ∷ [])))))
branch_form frame nothing in_arm returned = no_branch frame

-- what an `if` does else; the `else` belongs to the nearest `if`
abbrev pub else_form : Frame → Deeper → Bool → ExprTree → Said (List StmtTree) → Grammar (Said StmtTree)
else_form frame inner in_arm test then_do =
    choice
    (unless (is_case_else in_arm)
    (sequence (the_word (codes "else")) (λ tt.
    sequence (branch_form frame inner in_arm then_do.returned) (λ else_do.
    gives (said else_do.returned (if_then test (stmts then_do.it) (stmts else_do.it)))))))
    (unless (is_if_else in_arm) (gives (said then_do.returned (if_then test (stmts then_do.it) (stmts [])))))

-- the test of an `if`, and `then`
abbrev pub test_end : Place → ℕ → Grammar ExprTree
test_end at levels =
    sequence (expression_form at levels (one_type Truth at.statement)) (λ test.
    sequence (the_word (codes "then")) (λ tt. checks (fits test Truth at.statement) (gives test.tree)))

-- what follows `if`
abbrev pub if_end : Place → Frame → ℕ → Deeper → Bool → Returned → Grammar (Said StmtTree)
if_end at frame levels inner in_arm returned =
    sequence (test_end at levels) (λ test.
    sequence (branch_form frame inner in_arm returned) (λ then_do. else_form frame inner in_arm test then_do))

abbrev pub if_form : Frame → ℕ → Deeper → Bool → Returned → Grammar (Said StmtTree)
if_form frame levels inner in_arm returned =
    here (λ statement. sequence (the_word (codes "if"))
    (λ tt. if_end (place_in frame statement) frame levels inner in_arm returned))

-- the arms of a `case` so far, from the first one on
abbrev pub Arms : Type 0
Arms = Said (List (List Label × List StmtTree))

abbrev pub with_arm : Arms → List Label → Said (List StmtTree) → Arms
with_arm before labels body = said body.returned (before.it ++ (labels, body.it) ∷ [])

abbrev pub arms : List (List Label × List StmtTree) → ArmTrees
arms [] = arms_end
arms (a ∷ others) = arms_more a.0 (stmts a.1) (arms others)

-- one arm more behind those before it, if there is one
abbrev pub arm_round : Statements → Bool → ℕ → Arms → Grammar (Step Arms Arms)
arm_round statement is_of_states place before =
    choice
    (sequence (labels_form is_of_states place) (λ labels.
    sequence (statements_of statement true before.returned)
    (λ body. gives (onward (with_arm before labels body)))))
    (gives (done before))

abbrev pub arms_form : Statements → Bool → ℕ → Returned → Grammar Arms
arms_form statement is_of_states place returned =
    rounds (arm_round statement is_of_states place) (said returned [])

-- what a `case` does where no arm has the value, and its end
abbrev pub case_end : Statements → Returned → Grammar (Said (List StmtTree))
case_end statement returned =
    choice (sequence (the_word (codes "else"))
    (λ tt. sequence (the_mark Colon) (λ tt. block_end statement returned)))
    (ended BlockClose (said returned []))

-- what a `case` is about: its tree, and whether it is a state
pub record Subject : Type 0 where
  pub on : ExprTree
  pub is_of_states : Bool

abbrev pub subject_of : Operand → Subject
subject_of operand = record { on = operand.tree; is_of_states = is_state operand.ty }

-- what is wanted there
abbrev pub subject_wanted : ℕ → Wanted
subject_wanted place = record { expected = NumberOrState; place = place }

-- what a `case` is about, and the brace
abbrev pub subject_end : Place → ℕ → Grammar Subject
subject_end at levels =
    sequence (expression_form at levels (subject_wanted at.statement)) (λ on.
    sequence (the_mark BlockOpen) (λ tt. checks (option_or (settled on) (no_case on.ty at.statement))
    (gives (subject_of on))))

-- what follows `case`
abbrev pub case_body : Place → ℕ → Statements → Returned → Grammar (Said StmtTree)
case_body at levels statement returned =
    sequence (subject_end at levels) (λ subject.
    sequence (arms_form statement subject.is_of_states at.statement returned) (λ some_arms.
    sequence (case_end statement some_arms.returned) (λ other.
    gives (said other.returned (case_of subject.on (arms some_arms.it) (stmts other.it))))))

-- a `case`, which is a level; its expression is in it
abbrev pub case_form : Frame → Deeper → Returned → Grammar (Said StmtTree)
case_form frame (deeper levels statement) returned =
    here (λ place. sequence (the_word (codes "case")) (λ tt. case_body (place_in frame place) levels statement returned))
case_form frame nothing returned = bars (is_next (is_word (codes "case"))) Deep never

unfoldable pub statement_with : Frame → ℕ → Deeper → Statements
statement_with frame levels inner in_arm returned =
    choice (block_form inner returned)
    (choice (if_form frame levels inner in_arm returned)
    (choice (case_form frame inner returned)
    (plain_form frame levels returned)))

-- a statement, with so many levels below it at most
abbrev pub statement_form : Frame → ℕ → Statements
statement_form frame zero = statement_with frame zero nothing
statement_form frame (suc levels) =
    statement_with frame (suc levels) (deeper levels (statement_form frame levels))

-- the statements one level deeper, where so many levels are left
abbrev pub below : Frame → ℕ → Deeper
below frame zero = nothing
below frame (suc levels) = deeper levels (statement_form frame levels)

-- the statements of a block with so many levels in it, and its end
abbrev pub body_form : Frame → ℕ → Returned → Grammar (Said (List StmtTree))
body_form frame levels returned = block_end (statement_form frame levels) returned
