-- What the program's own values say, in the words of the grammar.
use Rattle.std.specs.Prelude.{◌≡◌, ℕ, Bool, true, false, ◌&&◌, List, [], map, codes, Option, Some, None, Vec, Ok, Err, if◌then◌else◌}
use Rattle.std.specs.declared.alloc.Global.{Global}
use Rattle.ixp_lang.specs.Trees.{StmtTree}
use Rattle.ixp_lang.specs.Views.{expr_view, stmts_view}
use Rattle.ixp_lang.specs.declared.stmt.Stmt.{Stmt}
use Rattle.ixp_lang.specs.declared.stmt.Label.{Label}
use Rattle.ixp_lang.specs.declared.stmt.Label.TheVariants.{Range as Between}
use Rattle.ixp_lang_tokens.specs.declared.fault.Fault.{Fault}
use Rattle.ixp_lang_tokens.specs.declared.fault.Fault.TheVariants.{NoMemory, Stop}
use Rattle.ixp_lang_tokens.specs.declared.token.Kind.{Kind}
use Rattle.ixp_lang_tokens.specs.declared.token.Kind.TheVariants as kind
use Rattle.ixp_lang_tokens.specs.declared.token.Mark.TheVariants.{Range, Colon, BlockOpen}
use Rattle.ixp_lang_tokens.specs.Grammars.{Grammar, gives, sequence, choice}
use Rattle.ixp_lang_tokens.specs.Reading.{Read, read}
use Rattle.ixp_lang_tokens.specs.Pieces.{the_mark, a_number, same_mark, is_mark, is_word, is_next, behind}
use Rattle.ixp_lang_exprs.specs.declared.types.ValueType.{ValueType}
use Rattle.ixp_lang_exprs.specs.Names.{names_of}
use Rattle.ixp_lang_stmts.specs.Statements.{Frame, Returned, Said, said, Deeper, Subject, begins_statement, branch_form, is_state}
use Rattle.ixp_lang_stmts.specs.declared.label.Case.{Case}
use Rattle.ixp_lang_stmts.specs.declared.stmt.Subject.{Subject as HeldSubject}
use Rattle.ixp_lang_stmts.specs.declared.body.Frame.{Frame as Held}
use Rattle.ixp_lang_stmts.specs.declared.body.Returned.{Returned as HeldReturned}

-- the label that begins with this number
abbrev pub range_end : ℕ → Grammar Label
range_end low = choice (sequence (the_mark Range)
    (λ tt. sequence a_number (λ high. gives (Between low high)))) (gives (Between low low))

-- a `case` at the place about a value of this type
abbrev pub case_for : ValueType → ℕ → Case
case_for ty place = record { is_of_states = is_state ty; place = place }

-- the function or filter that is read
abbrev pub frame_of : Held → Frame
frame_of frame = record { names = names_of frame.env.now; scope = frame.scope }

-- what it returns, as far as it is read
abbrev pub returned_of : HeldReturned → Returned
returned_of r = record { ty = r.ty; is_met = r.is_met }

-- the fault is what reading answers
abbrev pub Stops : {A : Type 0} → Fault → Read A → Type 0
Stops NoMemory r = ⊥
Stops (Stop cause left) r = r ≡ Err (cause, left)

-- a token with which a statement begins
abbrev pub begins_with : Kind → Bool
begins_with (kind.Mark m) = same_mark m BlockOpen
begins_with (kind.Name name) = true
begins_with (kind.Word word) = begins_statement word
begins_with _ = false

-- what follows an `else`, but one that is the `case`'s
abbrev pub unless_colon : Bool → Option (List Kind) → Option (List Kind)
unless_colon in_arm None = None
unless_colon in_arm (Some tokens) = if in_arm && is_next (is_mark Colon) tokens then None else Some tokens

abbrev pub behind_else : Bool → List Kind → Option (List Kind)
behind_else in_arm tokens = unless_colon in_arm (behind (is_word (codes "else")) tokens)

-- what is read of what an `if` does else, where this follows its `else`
abbrev pub else_read : Frame → Deeper → Bool → Returned → List Kind → Option (List Kind)
    → Read (Said (List StmtTree))
else_read frame inner in_arm returned tokens None = Ok (said returned [], tokens)
else_read frame inner in_arm returned tokens (Some others) =
    read (branch_form frame inner in_arm returned) others

-- what a `case` is about
abbrev pub subject_view : HeldSubject → Subject
subject_view subject = record { on = expr_view subject.on; is_of_states = subject.case.is_of_states }

-- the arms of a `case`
abbrev pub arms_list : List (List Label × Vec Stmt Global) → List (List Label × List StmtTree)
arms_list = map (λ a. (a.0, stmts_view a.1.items))
