-- Where the reading of statements halts, it does whatever is behind the token that is there; and outside of arms what they say doesn't
-- depend on it either.
use Rattle.std.proofs.Common.{◌≡◌, ℕ, zero, suc, Bool, true, false, not, ◌&&◌, ◌||◌, List, [], ◌∷◌, ◌++◌, codes, Option, refl, sym, ap, ◌∙◌, if◌then◌else◌}
use Rattle.std.specs.Option.{is_some}
use Rattle.ixp_lang.specs.Trees.{StmtTree, stmts, block, if_then, case_of, ExprTree}
use Rattle.ixp_lang.specs.declared.stmt.Label.{Label}
use Rattle.ixp_lang_tokens.specs.declared.fault.Cause.TheVariants.{Unexpected}
use Rattle.ixp_lang_tokens.specs.declared.token.Kind.{Kind}
use Rattle.ixp_lang_tokens.specs.declared.token.Mark.{Mark}
use Rattle.ixp_lang_tokens.specs.declared.token.Mark.TheVariants as mark
use Rattle.ixp_lang_tokens.specs.Grammars.{Grammar, onward, done, gives, sequence, choice, unless}
use Rattle.ixp_lang_tokens.specs.Pieces.{is_mark, is_word, if_so, the_mark, the_word}
use Rattle.ixp_lang_tokens.specs.Syntax.{Spot, spot, Halt, Scan, said, halted, stopped, begins_at, scan}
use Rattle.ixp_lang_tokens.proofs.Clear.{IsOfFirst, IsSeen, Clear}
use Rattle.ixp_lang_tokens.proofs.ClearLooks.{clear_gives, clear_then, first_test as first_asks}
use Rattle.ixp_lang_tokens.proofs.Fronts.{Front, marked, keyword, are_apart, starts_apart}
use Rattle.ixp_lang_tokens.proofs.Looks.{Look, token_look}
use Rattle.ixp_lang_tokens.proofs.Seen.{first_alone, clear_first, first_seen, Like}
use Rattle.ixp_lang_tokens.proofs.Stops.{opens, not_true}
use Rattle.ixp_lang_tokens.proofs.Alike.{BeginsAlike, begins_alike, same_first, Alike, stops, alike, sequence_alike, choice_alike, test_alike}
use Rattle.ixp_lang_tokens.proofs.Quiet.{Quiet, Steady, steady, quiet_of, turn_alike, Passes, gives_passes, token_passes, choice_passes, gives_behind, sequence_quiet, sequence_steady, sequence_full, choice_quiet, here_quiet, here_steady, test_quiet, EndsAtFork, rounds_quiet, rounds_steady}
use Rattle.ixp_lang_exprs.specs.Lists.{ended}
use Rattle.ixp_lang_exprs.proofs.ClearLists.{clear_ended}
use Rattle.ixp_lang_exprs.proofs.Sure.{Barred, Sure, behind_else, sure_of, next_word}
use Rattle.ixp_lang_stmts.specs.Statements.{Frame, place_in, Returned, Said, said as saying, Statements, with_statement, statements_of, block_end, Deeper, nothing, deeper, is_block, is_case_else, is_if_else, block_form, no_branch, branch_form, else_form, if_form, Arms, with_arm, arms, arms_form, case_end, Subject, case_form, statement_with, statement_form, body_form, labels_form, test_end, subject_end, plain_form}
use Rattle.ixp_lang_stmts.proofs.Pieces.{said_one, one_more, labelled, one_arm, next_arm, else_arm, alone, braced, taken_else, or_else, else_do, without, then_text, tested, finished, armed, subjected, case_or_plain, if_or_others}
use Rattle.ixp_lang_stmts.proofs.SureStatements.{else_word, IsSureStatement, IsSureBelow, sure_statements, sure_arms, sure_case_end, sure_branch, sure_statement, case_else_seen, first_labels, first_test as clear_test, first_subject, first_plain, first_no_branch}

-- the keyword's class
abbrev is_the_else : Kind → Option (Unit {0})
is_the_else token = if_so (is_word (codes "else") token)

gives_steady : {A : Type 0} (v : A) → Steady (gives v)
gives_steady v = steady (gives v) tt

gives_quiet : {A : Type 0} (v : A) → Quiet (gives v)
gives_quiet v = quiet_of (gives v) (gives_steady v)

ended_steady : {A : Type 0} (m : Mark) (v : A) → Steady (ended m v)
ended_steady m v = steady (ended m v) (clear_ended {T = IsOfFirst} m v).clear

word_steady : (w : List ℕ) → Steady (the_word w)
word_steady w = steady (the_word w) tt

mark_steady : (m : Mark) → Steady (the_mark m)
mark_steady m = steady (the_mark m) tt

choice_begins : {A : Type 0} (f g : Grammar A) → BeginsAlike first_alone f → BeginsAlike first_alone g → BeginsAlike first_alone (choice f g)
choice_begins f g bf bg p k r s h = ap (λ b. b || begins_at g (spot p (k ∷ r))) (bf p k r s h) ∙ ap (λ b. begins_at f (spot p (k ∷ s)) || b) (bg p k r s h)

clear_begins : {A : Type 0} (f : Grammar A) → Clear f → BeginsAlike first_alone f
clear_begins f clear = begins_alike first_alone f (clear_first f clear)

-- A statement of a level.
pub record IsQuietStatement (statement : Statements) : Type 1 where
  pub begins : (in_arm : Bool) (returned : Returned) → BeginsAlike first_alone (statement in_arm returned)
  pub stops : (in_arm : Bool) (returned : Returned) → Quiet (statement in_arm returned)
  pub says : (returned : Returned) → Steady (statement false returned)

no_start : {A : Type 0} {g : Grammar A} {l : Look} {ss : List Front} → Barred g l ss → are_apart l.starts else_word ≡ true → (p : ℕ) (k : Kind) (r : List Kind) → is_word (codes "else") k ≡ true → begins_at g (spot p (k ∷ r)) ≡ false
no_start {A} {g} {l} sure apart p k r fork =
    not_true (begins_at g (spot p (k ∷ r))) (λ e. starts_apart l.starts else_word (k ∷ r) apart (sure.opens (k ∷ r) (opens g (spot p (k ∷ r)) e)) (next_word (codes "else") (k ∷ r) fork))

if_left : {A : Type 0} (b : Bool) (s t : Scan A) → b ≡ false → (if b then s else t) ≡ t
if_left b s t e = ap (λ x. if x then s else t) e

module _ (statement : Statements) (ks : IsSureStatement statement) (kq : IsQuietStatement statement) where
  said_one_quiet : (in_arm : Bool) (before : Said (List StmtTree)) → Quiet (said_one statement in_arm before)
  said_one_quiet in_arm before =
      sequence_quiet behind_else (statement in_arm before.returned) (λ one. gives (onward (with_statement before one))) (alike behind_else (statement in_arm before.returned) (ks in_arm before.returned).clear)
      (kq.stops in_arm before.returned) (λ one. gives_quiet _) (λ one. gives_passes behind_else _)

  one_more_quiet : (in_arm : Bool) (before : Said (List StmtTree)) → Quiet (one_more statement in_arm before)
  one_more_quiet in_arm before = choice_quiet (said_one statement in_arm before) (gives (done before)) (kq.begins in_arm before.returned) (said_one_quiet in_arm before) (gives_quiet _)

  one_more_ends : (in_arm : Bool) → EndsAtFork behind_else (one_more statement in_arm)
  one_more_ends in_arm before p k r fork = (before, if_left (begins_at (said_one statement in_arm before) (spot p (k ∷ r))) _ _ (no_start (ks in_arm before.returned) refl p k r fork))

  statements_quiet : (in_arm : Bool) (returned : Returned) → Quiet (statements_of statement in_arm returned)
  statements_quiet in_arm returned =
      let clear = (sure_statements statement ks in_arm returned).clear in
      rounds_quiet behind_else (one_more statement in_arm) clear.0 clear.1 (one_more_quiet in_arm) (one_more_ends in_arm) (saying returned [])

  statements_steady : (returned : Returned) → Steady (statements_of statement false returned)
  statements_steady returned =
      let clear = (sure_statements statement ks false returned).clear in
      rounds_steady (IsSeen behind_else) (one_more statement false) clear.0 clear.1
      (λ before.
      choice_alike first_alone (said_one statement false before) (gives (done before)) (kq.begins false before.returned)
      (sequence_alike first_alone (statement false before.returned) (λ one. gives (onward (with_statement before one))) (kq.says before.returned) (λ one. gives_steady _)) (gives_steady _))
      (saying returned [])

  block_steady : (returned : Returned) → Steady (block_end statement returned)
  block_steady returned = sequence_alike first_alone (statements_of statement false returned) (λ body. ended mark.BlockClose body) (statements_steady returned) (λ body. ended_steady mark.BlockClose body)

  -- Arms.

  labelled_quiet : (is_of_states : Bool) (place : ℕ) (before : Arms) (labels : List Label) → Quiet (labelled statement before labels)
  labelled_quiet is_of_states place before labels =
      sequence_quiet behind_else (statements_of statement true before.returned) (λ body. gives (onward (with_arm before labels body)))
      (alike behind_else (statements_of statement true before.returned) (sure_statements statement ks true before.returned).clear) (statements_quiet true before.returned) (λ body. gives_quiet _) (λ body. gives_passes behind_else _)

  next_arm_quiet : (is_of_states : Bool) (place : ℕ) (before : Arms) → Quiet (next_arm statement is_of_states place before)
  next_arm_quiet is_of_states place before =
      let labels = first_labels is_of_states place in
      choice_quiet (one_arm statement is_of_states place before) (gives (done before)) (clear_begins (labels_form is_of_states place) labels.clear)
      (sequence_steady (labels_form is_of_states place) (labelled statement before) (steady (labels_form is_of_states place) labels.clear) (labelled_quiet is_of_states place before))
      (gives_quiet _)

  next_arm_ends : (is_of_states : Bool) (place : ℕ) → EndsAtFork behind_else (next_arm statement is_of_states place)
  next_arm_ends is_of_states place before p k r fork = (before, if_left (begins_at (one_arm statement is_of_states place before) (spot p (k ∷ r))) _ _ (no_start (sure_of (first_labels is_of_states place)) refl p k r fork))

  arms_quiet : (is_of_states : Bool) (place : ℕ) (returned : Returned) → Quiet (arms_form statement is_of_states place returned)
  arms_quiet is_of_states place returned =
      let clear = (sure_arms statement ks is_of_states place returned).clear in
      rounds_quiet behind_else (next_arm statement is_of_states place) clear.0 clear.1 (next_arm_quiet is_of_states place) (next_arm_ends is_of_states place) (saying returned [])

  -- The end of a `case`.

  else_arm_steady : (returned : Returned) (x : Unit {0}) → Steady (else_arm statement returned x)
  else_arm_steady returned x = sequence_alike first_alone (the_mark mark.Colon) (λ y. block_end statement returned) (mark_steady mark.Colon) (λ y. block_steady returned)

  case_end_steady : (returned : Returned) → Steady (case_end statement returned)
  case_end_steady returned =
      choice_alike first_alone (sequence (the_word (codes "else")) (else_arm statement returned)) (ended mark.BlockClose (saying returned [])) (λ p k r s h. refl)
      (sequence_alike first_alone (the_word (codes "else")) (else_arm statement returned) (word_steady (codes "else")) (else_arm_steady returned)) (ended_steady mark.BlockClose _)

  case_end_passes : (returned : Returned) → Passes behind_else (case_end statement returned)
  case_end_passes returned p k r c fork =
      choice_passes (sequence (the_word (codes "else")) (else_arm statement returned)) (ended mark.BlockClose (saying returned [])) p k r c (ap (λ b. is_some (if_so b)) fork)
      (token_passes is_the_else (else_arm statement returned) (λ x. quiet_of (else_arm statement returned x) (else_arm_steady returned x)) p k r c tt (ap if_so fork))

abbrev IsQuietBelow : Deeper → Type 1
IsQuietBelow nothing = Unit {1}
IsQuietBelow (deeper levels statement) = IsQuietStatement statement

block_text_steady : (inner : Deeper) → IsSureBelow inner → IsQuietBelow inner → (returned : Returned) → Steady (block_form inner returned)
block_text_steady nothing ki kq returned = steady (block_form nothing returned) (first_asks (is_mark mark.BlockOpen), tt)
block_text_steady (deeper levels statement) ki kq returned =
    sequence_alike first_alone (the_mark mark.BlockOpen) (λ x. sequence (block_end statement returned) (λ body. gives (saying body.returned (block (stmts body.it))))) (mark_steady mark.BlockOpen)
    (λ x. sequence_alike first_alone (block_end statement returned) (λ body. gives (saying body.returned (block (stmts body.it)))) (block_steady statement ki kq returned) (λ body. gives_steady _))

block_text_begins : (inner : Deeper) (returned : Returned) → BeginsAlike first_alone (block_form inner returned)
block_text_begins nothing returned p k r s h = refl
block_text_begins (deeper levels statement) returned p k r s h = refl

-- Branches.

braced_steady : (statement : Statements) → IsSureStatement statement → IsQuietStatement statement → (returned : Returned) → Steady (braced statement returned)
braced_steady statement ks kq returned =
    sequence_alike first_alone (the_mark mark.BlockOpen) (λ x. block_end statement returned) (mark_steady mark.BlockOpen) (λ x. block_steady statement ks kq returned)

branch_quiet : (frame : Frame) (inner : Deeper) → IsSureBelow inner → IsQuietBelow inner → (in_arm : Bool) (returned : Returned) → Quiet (branch_form frame inner in_arm returned)
branch_quiet frame nothing ki kq in_arm returned = quiet_of (no_branch frame) (steady (no_branch frame) (first_no_branch {A = Said (List StmtTree)} frame).clear)
branch_quiet frame (deeper levels statement) ki kq in_arm returned =
    choice_quiet (braced statement returned) (unless is_block (alone statement in_arm returned)) (λ p k r s h. refl) (quiet_of (braced statement returned) (braced_steady statement ki kq returned))
    (test_quiet (alone statement in_arm returned) (unless is_block (alone statement in_arm returned)) is_block Unexpected (first_asks (is_mark mark.BlockOpen))
    (sequence_quiet behind_else (statement in_arm returned) (λ one. gives (saying one.returned (one.it ∷ []))) (alike behind_else (statement in_arm returned) (ki in_arm returned).clear) (kq.stops in_arm returned)
    (λ one. gives_quiet _) (λ one. gives_passes behind_else _)) (λ x. refl))

branch_steady : (frame : Frame) (inner : Deeper) → IsSureBelow inner → IsQuietBelow inner → (returned : Returned) → Steady (branch_form frame inner false returned)
branch_steady frame nothing ki kq returned = steady (no_branch frame) (first_no_branch {A = Said (List StmtTree)} frame).clear
branch_steady frame (deeper levels statement) ki kq returned =
    choice_alike first_alone (braced statement returned) (unless is_block (alone statement false returned)) (λ p k r s h. refl) (braced_steady statement ki kq returned)
    (test_alike first_alone (alone statement false returned) (unless is_block (alone statement false returned)) is_block Unexpected (first_seen first_alone is_block (first_asks (is_mark mark.BlockOpen)))
    (sequence_alike first_alone (statement false returned) (λ one. gives (saying one.returned (one.it ∷ []))) (kq.says returned) (λ one. gives_steady _)) (λ x. refl))

-- What an `if` does else.

-- what is read by the two tests of an `else`
abbrev by_tests : {A : Type 0} → Bool → Bool → Scan A → Scan A → Scan A → Scan A
by_tests is_there is_case stop one none = if not is_case && is_some (if_so is_there) then (if is_case then stop else one) else (if is_there && not is_case then stop else none)

tests_are : {A : Type 0} (a b c d : Bool) (s t u : Scan A) → a ≡ c → b ≡ d → by_tests a b s t u ≡ by_tests c d s t u
tests_are a b c d s t u e h = ap (λ x. by_tests x b s t u) e ∙ ap (λ x. by_tests c x s t u) h

-- a stop that is a step behind the place
by_tests_stop : {A : Type 0} (a b : Bool) (s t u : Scan A) (v : A) (x : Spot) (c : Halt) (rest : List Kind) → u ≡ said v x → by_tests a b s t u ≡ halted c rest → (a ≡ true) × (b ≡ false) × (t ≡ halted c rest)
by_tests_stop true true s t u v x c rest is e = let no = sym is ∙ e in absurd cc
by_tests_stop true false s t u v x c rest is e = (refl, refl, e)
by_tests_stop false true s t u v x c rest is e = let no = sym is ∙ e in absurd cc
by_tests_stop false false s t u v x c rest is e = let no = sym is ∙ e in absurd cc

no_end_else : {A : Type 0} (in_arm : Bool) (f : Grammar A) (v : A) (p : ℕ) (c : Halt) (rest : List Kind)
    → ¬ (scan (choice (unless (is_case_else in_arm) (sequence (the_word (codes "else")) (λ x. f))) (unless (is_if_else in_arm) (gives v))) (spot p []) ≡ halted c rest)
no_end_else true f v p c rest e = cc
no_end_else false f v p c rest e = cc

head_is : (k : Kind) (r : List Kind) (j : Kind) (s : List Kind) → (k ∷ r) ≡ j ∷ s → k ≡ j
head_is k r j s e = cc

tail_is : (k : Kind) (r : List Kind) (j : Kind) (s : List Kind) → (k ∷ r) ≡ j ∷ s → r ≡ s
tail_is k r j s e = cc

pub or_else_stops : {A : Type 0} (in_arm : Bool) (f : Grammar A) (v : A) (p : ℕ) (k : Kind) (r : List Kind) (c : Halt) (rest : List Kind) → scan (or_else in_arm f v) (spot p (k ∷ r)) ≡ halted c rest
    → (is_word (codes "else") k ≡ true) × (is_case_else in_arm (k ∷ r) ≡ false) × (scan (taken_else f) (spot p (k ∷ r)) ≡ halted c rest)
or_else_stops in_arm f v p k r c rest e = by_tests_stop (is_word (codes "else") k) (is_case_else in_arm (k ∷ r)) (stopped Unexpected (k ∷ r)) (scan (taken_else f) (spot p (k ∷ r))) (said v (spot p (k ∷ r))) v (spot p (k ∷ r)) c rest refl e

module _ {A : Type 0} (in_arm : Bool) (f : Grammar A) (quiet : Quiet f) (v : A) where
  taken_quiet : Quiet (taken_else f)
  taken_quiet = sequence_steady (the_word (codes "else")) (λ x. f) (word_steady (codes "else")) (λ x. quiet)

  pub or_else_passes : Passes behind_else (or_else in_arm f v)
  or_else_passes p k r c fork e = token_passes is_the_else (λ x. f) (λ x. quiet) p k r c tt (ap if_so fork) ((or_else_stops in_arm f v p k r c (k ∷ r) e).2)

  case_again : (k : Kind) (r s : List Kind) → Like first_alone r s → is_case_else in_arm (k ∷ s) ≡ is_case_else in_arm (k ∷ r)
  case_again k r s same = sym ((case_else_seen in_arm).1 k r s (λ fork. turn_alike behind_else r s same))

  or_else_again : (p : ℕ) (k : Kind) (r : List Kind) (c : Halt) (rest : List Kind) → is_word (codes "else") k ≡ true → is_case_else in_arm (k ∷ r) ≡ false → scan (taken_else f) (spot p (k ∷ r)) ≡ halted c rest
      → (m : Alike first_alone (taken_else f) p (k ∷ r) (stops c) rest) → (taken : List Kind) → m.taken ≡ taken → Alike first_alone (or_else in_arm f v) p (k ∷ r) (stops c) rest
  or_else_again p k r c rest fork free at m [] none =
      let same : k ∷ r ≡ rest = m.parts ∙ ap (λ x. x ++ rest) none in
      absurd (token_passes is_the_else (λ x. f) (λ x. quiet) p k r c tt (ap if_so fork) (at ∙ ap (halted c) (sym same)))
  or_else_again p k r c rest fork free at m (j ∷ js) some = record {
    taken = k ∷ js;
    parts = ap (λ x. k ∷ x) (tail_is k r j (js ++ rest) (m.parts ∙ ap (λ x. x ++ rest) some));
    again = λ other same.
        let first : k ≡ j = head_is k r j (js ++ rest) (m.parts ∙ ap (λ x. x ++ rest) some) in
        let last : r ≡ js ++ rest = tail_is k r j (js ++ rest) (m.parts ∙ ap (λ x. x ++ rest) some) in
        let like : Like first_alone r (js ++ other) = same_first first_alone js rest other r last same in
        tests_are (is_word (codes "else") k) (is_case_else in_arm (k ∷ (js ++ other))) true false _ (scan (taken_else f) (spot p (k ∷ (js ++ other)))) _ fork (case_again k r (js ++ other) like ∙ free)
        ∙ ap (λ x. scan (taken_else f) (spot p (x ∷ (js ++ other)))) first ∙ ap (λ x. scan (taken_else f) (spot p (x ++ other))) (sym some) ∙ m.again other same;
  }

  pub or_else_quiet : Quiet (or_else in_arm f v)
  or_else_quiet p [] c rest e = absurd (no_end_else in_arm f v p c rest e)
  or_else_quiet p (k ∷ r) c rest e =
      let found = or_else_stops in_arm f v p k r c rest e in
      let m = taken_quiet p (k ∷ r) c rest found.2 in
      or_else_again p k r c rest found.0 found.1 found.2 m m.taken refl

or_else_steady : {A : Type 0} (f : Grammar A) (v : A) → Steady f → Steady (or_else false f v)
or_else_steady f v steady_f =
    choice_alike first_alone (unless (is_case_else false) (taken_else f)) (unless (is_if_else false) (gives v)) (λ p k r s h. refl)
    (test_alike first_alone (taken_else f) (unless (is_case_else false) (taken_else f)) (is_case_else false) Unexpected (refl, λ k x y h. refl)
    (sequence_alike first_alone (the_word (codes "else")) (λ x. f) (word_steady (codes "else")) (λ x. steady_f)) (λ x. refl))
    (test_alike first_alone (gives v) (unless (is_if_else false) (gives v)) (is_if_else false) Unexpected (refl, λ k x y h. refl) (gives_steady v) (λ x. refl))

else_do_quiet : (frame : Frame) (inner : Deeper) → IsSureBelow inner → IsQuietBelow inner → (in_arm : Bool) (test : ExprTree) (then_do : Said (List StmtTree)) → Quiet (else_do frame inner in_arm test then_do)
else_do_quiet frame inner ki kq in_arm test then_do =
    sequence_quiet behind_else (branch_form frame inner in_arm then_do.returned) (λ other. gives (saying other.returned (if_then test (stmts then_do.it) (stmts other.it))))
    (alike behind_else (branch_form frame inner in_arm then_do.returned) (sure_branch frame inner ki in_arm then_do.returned).clear) (branch_quiet frame inner ki kq in_arm then_do.returned)
    (λ other. gives_quiet _) (λ other. gives_passes behind_else _)

else_do_steady : (frame : Frame) (inner : Deeper) → IsSureBelow inner → IsQuietBelow inner → (test : ExprTree) (then_do : Said (List StmtTree)) → Steady (else_do frame inner false test then_do)
else_do_steady frame inner ki kq test then_do =
    sequence_alike first_alone (branch_form frame inner false then_do.returned) (λ other. gives (saying other.returned (if_then test (stmts then_do.it) (stmts other.it)))) (branch_steady frame inner ki kq then_do.returned)
    (λ other. gives_steady _)

-- Statements that hold others.

then_quiet : (frame : Frame) (inner : Deeper) → IsSureBelow inner → IsQuietBelow inner → (in_arm : Bool) (returned : Returned) (test : ExprTree) → Quiet (then_text frame inner in_arm returned test)
then_quiet frame inner ki kq in_arm returned test =
    sequence_quiet behind_else (branch_form frame inner in_arm returned) (λ then_do. else_form frame inner in_arm test then_do)
    (alike behind_else (branch_form frame inner in_arm returned) (sure_branch frame inner ki in_arm returned).clear) (branch_quiet frame inner ki kq in_arm returned)
    (λ then_do. or_else_quiet in_arm (else_do frame inner in_arm test then_do) (else_do_quiet frame inner ki kq in_arm test then_do) (without test then_do))
    (λ then_do. or_else_passes in_arm (else_do frame inner in_arm test then_do) (else_do_quiet frame inner ki kq in_arm test then_do) (without test then_do))

then_steady : (frame : Frame) (inner : Deeper) → IsSureBelow inner → IsQuietBelow inner → (returned : Returned) (test : ExprTree) → Steady (then_text frame inner false returned test)
then_steady frame inner ki kq returned test =
    sequence_alike first_alone (branch_form frame inner false returned) (λ then_do. else_form frame inner false test then_do) (branch_steady frame inner ki kq returned)
    (λ then_do. or_else_steady (else_do frame inner false test then_do) (without test then_do) (else_do_steady frame inner ki kq test then_do))

test_steady : (frame : Frame) (levels statement : ℕ) → Steady (test_end (place_in frame statement) levels)
test_steady frame levels statement = steady (test_end (place_in frame statement) levels) (clear_test (place_in frame statement) levels).clear

if_quiet : (frame : Frame) (levels : ℕ) (inner : Deeper) → IsSureBelow inner → IsQuietBelow inner → (in_arm : Bool) (returned : Returned) → Quiet (if_form frame levels inner in_arm returned)
if_quiet frame levels inner ki kq in_arm returned =
    here_quiet (λ statement. sequence (the_word (codes "if")) (tested frame levels inner in_arm returned statement)) (λ statement.
    sequence_steady (the_word (codes "if")) (tested frame levels inner in_arm returned statement) (word_steady (codes "if")) (λ x.
    sequence_steady (test_end (place_in frame statement) levels) (then_text frame inner in_arm returned) (test_steady frame levels statement) (then_quiet frame inner ki kq in_arm returned)))

if_steady : (frame : Frame) (levels : ℕ) (inner : Deeper) → IsSureBelow inner → IsQuietBelow inner → (returned : Returned) → Steady (if_form frame levels inner false returned)
if_steady frame levels inner ki kq returned =
    here_steady (λ statement. sequence (the_word (codes "if")) (tested frame levels inner false returned statement)) (λ statement.
    sequence_alike first_alone (the_word (codes "if")) (tested frame levels inner false returned statement) (word_steady (codes "if")) (λ x.
    sequence_alike first_alone (test_end (place_in frame statement) levels) (then_text frame inner false returned) (test_steady frame levels statement) (then_steady frame inner ki kq returned)))

module _ (frame : Frame) (levels : ℕ) (statement : Statements) (ks : IsSureStatement statement) (kq : IsQuietStatement statement) (returned : Returned) where
  finished_steady : (subject : Subject) (some_arms : Arms) → Steady (finished statement subject some_arms)
  finished_steady subject some_arms =
      sequence_alike first_alone (case_end statement some_arms.returned) (λ other. gives (saying other.returned (case_of subject.on (arms some_arms.it) (stmts other.it)))) (case_end_steady statement ks kq some_arms.returned)
      (λ other. gives_steady _)

  finished_sure : (subject : Subject) (some_arms : Arms) → Sure (finished statement subject some_arms) (token_look (keyword (codes "else") ∷ marked mark.BlockClose ∷ []))
  finished_sure subject some_arms = clear_then (sure_case_end statement ks some_arms.returned) (λ other. clear_gives _)

  armed_steady : (place : ℕ) (subject : Subject) → Steady (armed statement returned place subject)
  armed_steady place subject =
      sequence_full behind_else (arms_form statement subject.is_of_states place returned) (finished statement subject)
      (alike behind_else (arms_form statement subject.is_of_states place returned) (sure_arms statement ks subject.is_of_states place returned).clear)
      (arms_quiet statement ks kq subject.is_of_states place returned) (finished_steady subject)
      (λ some_arms. gives_behind behind_else (case_end statement some_arms.returned) _ (case_end_passes statement ks kq some_arms.returned))
      (λ some_arms. (finished_sure subject some_arms).clear) (λ some_arms. (finished_sure subject some_arms).full refl)

  case_steady : Steady (case_form frame (deeper levels statement) returned)
  case_steady =
      here_steady (λ place. sequence (the_word (codes "case")) (subjected frame levels statement returned place)) (λ place.
      sequence_alike first_alone (the_word (codes "case")) (subjected frame levels statement returned place) (word_steady (codes "case")) (λ x.
      sequence_alike first_alone (subject_end (place_in frame place) levels) (armed statement returned place)
      (steady (subject_end (place_in frame place) levels) (first_subject (place_in frame place) levels).clear) (armed_steady place)))

case_text_steady : (frame : Frame) (inner : Deeper) → IsSureBelow inner → IsQuietBelow inner → (returned : Returned) → Steady (case_form frame inner returned)
case_text_steady frame nothing ki kq returned = steady (case_form frame nothing returned) (first_asks (is_word (codes "case")), tt)
case_text_steady frame (deeper levels statement) ki kq returned = case_steady frame levels statement ki kq returned

case_text_begins : (frame : Frame) (inner : Deeper) (returned : Returned) → BeginsAlike first_alone (case_form frame inner returned)
case_text_begins frame nothing returned p k r s h = refl
case_text_begins frame (deeper levels statement) returned p k r s h = refl

plain_clear : (frame : Frame) (levels : ℕ) (returned : Returned) → Clear (plain_form frame levels returned)
plain_clear frame levels returned = (first_plain frame levels returned).clear

module _ (frame : Frame) (levels : ℕ) (inner : Deeper) (ki : IsSureBelow inner) (kq : IsQuietBelow inner) where
  with_begins : (in_arm : Bool) (returned : Returned) → BeginsAlike first_alone (statement_with frame levels inner in_arm returned)
  unfolding statement_with
  with_begins in_arm returned =
      choice_begins (block_form inner returned) (if_or_others frame levels inner in_arm returned) (block_text_begins inner returned)
      (choice_begins (if_form frame levels inner in_arm returned) (case_or_plain frame levels inner returned) (λ p k r s h. refl)
      (choice_begins (case_form frame inner returned) (plain_form frame levels returned) (case_text_begins frame inner returned) (clear_begins (plain_form frame levels returned) (plain_clear frame levels returned))))

  with_quiet : (in_arm : Bool) (returned : Returned) → Quiet (statement_with frame levels inner in_arm returned)
  unfolding statement_with
  with_quiet in_arm returned =
      choice_quiet (block_form inner returned) (if_or_others frame levels inner in_arm returned) (block_text_begins inner returned) (quiet_of (block_form inner returned) (block_text_steady inner ki kq returned))
      (choice_quiet (if_form frame levels inner in_arm returned) (case_or_plain frame levels inner returned) (λ p k r s h. refl) (if_quiet frame levels inner ki kq in_arm returned)
      (choice_quiet (case_form frame inner returned) (plain_form frame levels returned) (case_text_begins frame inner returned) (quiet_of (case_form frame inner returned) (case_text_steady frame inner ki kq returned))
      (quiet_of (plain_form frame levels returned) (steady (plain_form frame levels returned) (plain_clear frame levels returned)))))

  with_steady : (returned : Returned) → Steady (statement_with frame levels inner false returned)
  unfolding statement_with
  with_steady returned =
      choice_alike first_alone (block_form inner returned) (if_or_others frame levels inner false returned) (block_text_begins inner returned) (block_text_steady inner ki kq returned)
      (choice_alike first_alone (if_form frame levels inner false returned) (case_or_plain frame levels inner returned) (λ p k r s h. refl) (if_steady frame levels inner ki kq returned)
      (choice_alike first_alone (case_form frame inner returned) (plain_form frame levels returned) (case_text_begins frame inner returned) (case_text_steady frame inner ki kq returned)
      (steady (plain_form frame levels returned) (plain_clear frame levels returned))))

  with_all : IsQuietStatement (statement_with frame levels inner)
  with_all = record { begins = with_begins; stops = with_quiet; says = with_steady }

quiet_statement : (frame : Frame) (levels : ℕ) → IsQuietStatement (statement_form frame levels)
quiet_statement frame zero = with_all frame zero nothing tt tt
quiet_statement frame (suc levels) = with_all frame (suc levels) (deeper levels (statement_form frame levels)) (sure_statement frame levels) (quiet_statement frame levels)

-- a body says the same, and stops in the same place, whatever is behind the token that is next
pub body_steady : (frame : Frame) (levels : ℕ) (returned : Returned) → Steady (body_form frame levels returned)
body_steady frame levels returned = block_steady (statement_form frame levels) (sure_statement frame levels) (quiet_statement frame levels) returned
