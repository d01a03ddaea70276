-- What may stand behind statements in the place of what does, and a text of each.
use Rattle.std.proofs.Common.{◌≡◌, ℕ, zero, suc, ◌<◌, inl, inr, Bool, true, false, List, [], ◌∷◌, ◌++◌, codes, length, Option, refl, sym, ap, ◌∙◌, subst, arith}
use Rattle.ixp_lang.specs.Trees.{StmtTree, stmts, block, ExprTree}
use Rattle.ixp_lang_tokens.specs.declared.fault.Cause.{Cause}
use Rattle.ixp_lang_tokens.specs.declared.fault.Cause.TheVariants.{Deep}
use Rattle.ixp_lang_tokens.specs.declared.token.Kind.{Kind}
use Rattle.ixp_lang_tokens.specs.declared.token.Kind.TheVariants as kind
use Rattle.ixp_lang_tokens.specs.declared.token.Mark.{Mark}
use Rattle.ixp_lang_tokens.specs.declared.token.Mark.TheVariants as mark
use Rattle.ixp_lang_tokens.specs.Grammars.{Grammar, onward, done, gives, takes, sequence, choice, rounds, checks, bars, unless}
use Rattle.ixp_lang_tokens.specs.Pieces.{is_mark, is_word, if_so, the_mark, the_word, is_next}
use Rattle.ixp_lang_tokens.specs.Syntax.{Spot, spot, Fine}
use Rattle.ixp_lang_tokens.proofs.Clear.{IsOfFirst, Sight, IsSeen}
use Rattle.ixp_lang_tokens.proofs.ClearLooks.{ClearlyBy, clear_gives, clear_mark, clear_then, clear_sequence, clear_bars, first_test as first_asks}
use Rattle.ixp_lang_tokens.proofs.Fronts.{Front, marked, keyword, Starts}
use Rattle.ixp_lang_tokens.proofs.Known.{next_mark}
use Rattle.ixp_lang_tokens.proofs.Looks.{Look, token_look}
use Rattle.ixp_lang_tokens.proofs.Seen.{first_alone, Like}
use Rattle.ixp_lang_tokens.proofs.Sizes.{fewer}
use Rattle.ixp_lang_tokens.proofs.Exchanges.{Swap, Exchanges, whatever, exchanges_all, clearly_exchanges, Meets, meets_all, sequence_exchanges, choice_exchanges, unless_exchanges, here_exchanges, rounds_exchanges, gives_meets, Opens, like_two, Forks, opens_meets, full_meets}
use Rattle.ixp_lang_exprs.specs.Lists.{never, ended}
use Rattle.ixp_lang_exprs.proofs.ClearLists.{clear_never, clear_ended}
use Rattle.ixp_lang_exprs.proofs.Sure.{Barred, First, behind_else, clear_word, next_word}
use Rattle.ixp_lang_stmts.specs.Statements.{Frame, place_in, Returned, Said, said, Statements, with_statement, statements_of, block_end, Deeper, nothing, deeper, is_block, is_case_else, is_if_else, block_form, no_branch, branch_form, else_form, if_form, Arms, with_arm, arms_form, case_end, Subject, case_form, statement_with, statement_form, labels_form, test_end, subject_end, plain_form}
use Rattle.ixp_lang_stmts.proofs.Pieces.{said_one, one_more, labelled, one_arm, next_arm, else_arm, alone, braced, taken_else, or_else, else_do, without, then_text, tested, finished, armed, subjected, case_or_plain, if_or_others}
use Rattle.ixp_lang_stmts.proofs.SureStatements.{statement_starts, else_word, IsSureStatement, IsSureBelow, sure_more, sure_more_arms, sure_block_end, sure_branch, sure_statement, case_else_seen, if_else_seen, first_labels, first_test, first_subject, first_plain, first_no_branch}

-- in an arm tests look behind an `else`
abbrev pub sight_of : Bool → Sight
sight_of true = behind_else
sight_of false = first_alone

-- what is to stand there is no `else` that is an `if`'s, or both are alike
abbrev pub Open : Bool → Swap
Open in_arm = Opens (sight_of in_arm) (is_if_else in_arm)

pub forks_are : (in_arm : Bool) → Forks (sight_of in_arm) else_word
forks_are true k r fork = next_word (codes "else") (k ∷ r) fork
forks_are false k r fork = absurd cc

pub case_seen : (in_arm : Bool) → IsSeen (sight_of in_arm) (is_case_else in_arm)
case_seen true = case_else_seen true
case_seen false = (refl, λ k x y h. refl)

if_seen : (in_arm : Bool) → IsSeen (sight_of in_arm) (is_if_else in_arm)
if_seen true = if_else_seen true
if_seen false = (refl, λ k x y h. refl)

pub open_end : (in_arm : Bool) (rest : List Kind) → Open in_arm rest []
open_end in_arm rest = inl refl

pub open_brace : (in_arm : Bool) (rest : List Kind) → Open in_arm rest (kind.Mark mark.BlockClose ∷ [])
open_brace in_arm rest = inl refl

gives_exchanges : {A : Type 0} (R : Swap) (v : A) → Exchanges R (gives v)
gives_exchanges R v = exchanges_all R (gives v) (clearly_exchanges (clear_gives v))

ended_exchanges : {A : Type 0} (m : Mark) (v : A) → Exchanges whatever (ended m v)
ended_exchanges m v = clearly_exchanges (clear_ended m v)

word_exchanges : (w : List ℕ) → Exchanges whatever (the_word w)
word_exchanges w = clearly_exchanges (clear_word w)

mark_exchanges : (m : Mark) → Exchanges whatever (the_mark m)
mark_exchanges m = clearly_exchanges (clear_mark m)

-- behind what is exchanged freely
pub free_first : {A B : Type 0} (R : Swap) (f : Grammar B) (g : B → Grammar A) → Exchanges whatever f → ((b : B) → Exchanges R (g b)) → Exchanges R (sequence f g)
free_first R f g hf hg = sequence_exchanges R whatever f g hf hg (λ b. meets_all R (g b))

-- before a value that takes nothing
pub before_gives : {A B : Type 0} (R : Swap) (f : Grammar B) (v : B → A) → Exchanges R f → Exchanges R (sequence f (λ b. gives (v b)))
before_gives R f v hf = sequence_exchanges R R f (λ b. gives (v b)) hf (λ b. gives_exchanges R (v b)) (λ b. gives_meets R (v b))

pub before_checks : {A B : Type 0} (R : Swap) (f : Grammar B) (o : B → Option (Cause × ℕ)) (v : B → A) → Exchanges R f → Exchanges R (sequence f (λ b. checks (o b) (gives (v b))))
before_checks R f o v hf = sequence_exchanges R R f (λ b. checks (o b) (gives (v b))) hf (λ b. gives_exchanges R (v b)) (λ b. gives_meets R (v b))

abbrev pub IsExchanged : Statements → Type 0
IsExchanged statement = (in_arm : Bool) (returned : Returned) → Exchanges (Open in_arm) (statement in_arm returned)

module _ (statement : Statements) (ks : IsSureStatement statement) (ke : IsExchanged statement) where
  pub one_more_exchanges : (in_arm : Bool) (before : Said (List StmtTree)) → Exchanges (Open in_arm) (one_more statement in_arm before)
  one_more_exchanges in_arm before =
      choice_exchanges (Open in_arm) (said_one statement in_arm before) (gives (done before))
      (before_gives (Open in_arm) (statement in_arm before.returned) (λ one. onward (with_statement before one)) (ke in_arm before.returned)) (gives_exchanges (Open in_arm) (done before))

  pub more_exchanges : (in_arm : Bool) (before : Said (List StmtTree)) → Exchanges (Open in_arm) (rounds (one_more statement in_arm) before)
  more_exchanges in_arm before =
      rounds_exchanges (Open in_arm) (one_more statement in_arm) (one_more_exchanges in_arm)
      (λ s. opens_meets (sight_of in_arm) (is_if_else in_arm) else_word (forks_are in_arm) (sure_more statement ks in_arm s) refl) before

  pub block_exchanges : (returned : Returned) → Exchanges whatever (block_end statement returned)
  block_exchanges returned =
      sequence_exchanges whatever (Open false) (statements_of statement false returned) (λ body. ended mark.BlockClose body) (more_exchanges false (said returned [])) (λ body. ended_exchanges mark.BlockClose body)
      (λ body. full_meets (sight_of false) (is_if_else false) else_word (forks_are false) (clear_ended {T = IsOfFirst} mark.BlockClose body) refl refl)

  pub next_arm_exchanges : (is_of_states : Bool) (place : ℕ) (before : Arms) → Exchanges (Open true) (next_arm statement is_of_states place before)
  next_arm_exchanges is_of_states place before =
      choice_exchanges (Open true) (one_arm statement is_of_states place before) (gives (done before))
      (free_first (Open true) (labels_form is_of_states place) (labelled statement before) (clearly_exchanges (first_labels is_of_states place)) (λ labels.
      before_gives (Open true) (statements_of statement true before.returned) (λ body. onward (with_arm before labels body)) (more_exchanges true (said before.returned []))))
      (gives_exchanges (Open true) (done before))

  pub more_arms_exchange : (is_of_states : Bool) (place : ℕ) (before : Arms) → Exchanges (Open true) (rounds (next_arm statement is_of_states place) before)
  more_arms_exchange is_of_states place before =
      rounds_exchanges (Open true) (next_arm statement is_of_states place) (next_arm_exchanges is_of_states place)
      (λ s. opens_meets (sight_of true) (is_if_else true) else_word (forks_are true) (sure_more_arms statement ks is_of_states place s) refl) before

  else_arm_exchanges : (returned : Returned) (x : Unit {0}) → Exchanges whatever (else_arm statement returned x)
  else_arm_exchanges returned x = free_first whatever (the_mark mark.Colon) (λ y. block_end statement returned) (mark_exchanges mark.Colon) (λ y. block_exchanges returned)

  pub case_end_exchanges : (returned : Returned) → Exchanges whatever (case_end statement returned)
  case_end_exchanges returned =
      choice_exchanges whatever (sequence (the_word (codes "else")) (else_arm statement returned)) (ended mark.BlockClose (said returned []))
      (free_first whatever (the_word (codes "else")) (else_arm statement returned) (word_exchanges (codes "else")) (else_arm_exchanges returned)) (ended_exchanges mark.BlockClose (said returned []))

-- A token, and behind it another one.

taken_less : {A : Type 0} (class : Kind → Option A) (a : A) (m : ℕ) (ts : List Kind) (z : Spot) → Fine (takes class) a (spot m ts) z → length z.1 < length ts
taken_less class a m [] z fine = absurd fine
taken_less class a m (k ∷ ts) z (is, same) = let e : length ts ≡ length z.1 = ap (λ (x : Spot). length x.1) same in omega arith

two_meet : {T : (List Kind → Bool) → Type 0} {A B : Type 0} (R : Swap) (sight : Sight) (t : List Kind → Bool) (class : Kind → Option A) (g : A → Grammar B) {l : Look} {ss : List Front} → ((a : A) → ClearlyBy T (g a) l ss) → l.full ≡ true
    → Meets R (Opens sight t) (sequence (takes class) g)
two_meet {T} R sight t class g known full v m q [] rest other (a, z, one, two) r =
    let less : length rest < length z.1 = fewer T (g a) (known a).clear v z (spot q rest) two ((known a).full full v) in
    let first : length z.1 < length rest = taken_less class a m rest z one in
    absurd (omega arith)
two_meet {T} R sight t class g known full v m q (k ∷ []) rest other (a, z, one, two) r =
    let less : length rest < length z.1 = fewer T (g a) (known a).clear v z (spot q rest) two ((known a).full full v) in
    let first : length z.1 < length (k ∷ rest) = taken_less class a m (k ∷ rest) z one in
    absurd (omega arith)
two_meet {T} R sight t class g known full v m q (k ∷ j ∷ js) rest other fine r = inr (like_two sight k j js rest other)

choice_meets : {A : Type 0} (R S : Swap) (f g : Grammar A) → Meets R S f → Meets R S g → Meets R S (choice f g)
choice_meets R S f g hf hg v m q mid rest other (inl fine) r = hf v m q mid rest other fine r
choice_meets R S f g hf hg v m q mid rest other (inr fine) r = hg v m q mid rest other fine r

gives_meet : {A B : Type 0} (R S : Swap) (f : Grammar B) (v : B → A) → Meets R S f → Meets R S (sequence f (λ b. gives (v b)))
gives_meet R S f v h w m q mid rest other (b, z, one, (is, same)) r = h b m q mid rest other (subst (λ x. Fine f b (spot m (mid ++ rest)) x) same one) r

unless_meets : {A : Type 0} (R S : Swap) (t : List Kind → Bool) (f : Grammar A) → Meets R S f → Meets R S (unless t f)
unless_meets R S t f h v m q mid rest other (free, fine) r = h v m q mid rest other fine r

-- the keyword's class
abbrev pub is_the_else : Kind → Option (Unit {0})
is_the_else token = if_so (is_word (codes "else") token)

module _ (statement : Statements) (ks : IsSureStatement statement) (ke : IsExchanged statement) where
  case_end_meets : (returned : Returned) → Meets whatever (Open true) (case_end statement returned)
  case_end_meets returned =
      choice_meets whatever (Open true) (sequence (the_word (codes "else")) (else_arm statement returned)) (ended mark.BlockClose (said returned []))
      (two_meet whatever (sight_of true) (is_if_else true) is_the_else (else_arm statement returned) (λ x. clear_then (clear_mark mark.Colon) (λ y. sure_block_end statement ks returned)) refl)
      (full_meets (sight_of true) (is_if_else true) else_word (forks_are true) (clear_ended {T = IsOfFirst} mark.BlockClose (said returned [])) refl refl)

  pub finished_exchanges : (subject : Subject) (some_arms : Arms) → Exchanges whatever (finished statement subject some_arms)
  finished_exchanges subject some_arms = before_gives whatever (case_end statement some_arms.returned) _ (case_end_exchanges statement ks ke some_arms.returned)

  pub armed_exchanges : (returned : Returned) (place : ℕ) (subject : Subject) → Exchanges whatever (armed statement returned place subject)
  armed_exchanges returned place subject =
      sequence_exchanges whatever (Open true) (arms_form statement subject.is_of_states place returned) (finished statement subject) (more_arms_exchange statement ks ke subject.is_of_states place (said returned []))
      (finished_exchanges subject) (λ some_arms. gives_meet whatever (Open true) (case_end statement some_arms.returned) _ (case_end_meets some_arms.returned))

  case_exchanges : (frame : Frame) (levels : ℕ) (returned : Returned) → Exchanges whatever (case_form frame (deeper levels statement) returned)
  case_exchanges frame levels returned =
      here_exchanges whatever (λ place. sequence (the_word (codes "case")) (subjected frame levels statement returned place)) (λ place.
      free_first whatever (the_word (codes "case")) (subjected frame levels statement returned place) (word_exchanges (codes "case")) (λ x.
      free_first whatever (subject_end (place_in frame place) levels) (armed statement returned place) (clearly_exchanges (first_subject (place_in frame place) levels)) (armed_exchanges returned place)))

abbrev pub IsExchangedBelow : Deeper → Type 0
IsExchangedBelow nothing = Unit {0}
IsExchangedBelow (deeper levels statement) = IsExchanged statement

first_deep : {A : Type 0} (test : Kind → Bool) (fs : List Front) → ((ts : List Kind) → is_next test ts ≡ true → Starts fs ts) → First (bars (is_next test) Deep (never {A = A})) (token_look (fs ++ []))
first_deep test fs barred = clear_bars (is_next test) Deep fs barred (clear_never (token_look []) []) (first_asks test)

case_text_exchanges : (frame : Frame) (inner : Deeper) → IsSureBelow inner → IsExchangedBelow inner → (returned : Returned) → Exchanges whatever (case_form frame inner returned)
case_text_exchanges frame nothing ki ke returned = clearly_exchanges (first_deep (is_word (codes "case")) (keyword (codes "case") ∷ []) (next_word (codes "case")))
case_text_exchanges frame (deeper levels statement) ki ke returned = case_exchanges statement ki ke frame levels returned

block_text_exchanges : (inner : Deeper) → IsSureBelow inner → IsExchangedBelow inner → (returned : Returned) → Exchanges whatever (block_form inner returned)
block_text_exchanges nothing ki ke returned = clearly_exchanges (first_deep (is_mark mark.BlockOpen) (marked mark.BlockOpen ∷ []) (next_mark mark.BlockOpen))
block_text_exchanges (deeper levels statement) ki ke returned =
    free_first whatever (the_mark mark.BlockOpen) (λ x. sequence (block_end statement returned) (λ body. gives (said body.returned (block (stmts body.it))))) (mark_exchanges mark.BlockOpen)
    (λ x. before_gives whatever (block_end statement returned) (λ body. said body.returned (block (stmts body.it))) (block_exchanges statement ki ke returned))

-- a test of the first token in front of what takes one
first_again : {T : (List Kind → Bool) → Type 0} {A : Type 0} (t : List Kind → Bool) → IsOfFirst t → (f : Grammar A) {l : Look} {ss : List Front} → ClearlyBy T f l ss → l.full ≡ true → (v : A) (p : ℕ) (front rest : List Kind) (q : ℕ) (other : List Kind)
    → Fine f v (spot p (front ++ rest)) (spot q rest) → t (front ++ rest) ≡ false → t (front ++ other) ≡ false
first_again {T} t first f known full v p [] rest q other fine free =
    let less : length rest < length rest = fewer T f known.clear v (spot p rest) (spot q rest) fine (known.full full v) in
    absurd (omega arith)
first_again t first f known full v p (k ∷ ks) rest q other fine free = first.1 k (ks ++ other) (ks ++ rest) ∙ free

sure_alone : (statement : Statements) → IsSureStatement statement → (in_arm : Bool) (returned : Returned) → Barred (alone statement in_arm returned) (token_look statement_starts) else_word
sure_alone statement ks in_arm returned = clear_sequence (ks in_arm returned) (λ one. clear_gives _) refl

pub branch_exchanges : (frame : Frame) (inner : Deeper) → IsSureBelow inner → IsExchangedBelow inner → (in_arm : Bool) (returned : Returned) → Exchanges (Open in_arm) (branch_form frame inner in_arm returned)
branch_exchanges frame nothing ki ke in_arm returned = exchanges_all (Open in_arm) (no_branch frame) (clearly_exchanges (first_no_branch {A = Said (List StmtTree)} frame))
branch_exchanges frame (deeper levels statement) ki ke in_arm returned =
    choice_exchanges (Open in_arm) (braced statement returned) (unless is_block (alone statement in_arm returned))
    (exchanges_all (Open in_arm) (braced statement returned) (free_first whatever (the_mark mark.BlockOpen) (λ x. block_end statement returned) (mark_exchanges mark.BlockOpen) (λ x. block_exchanges statement ki ke returned)))
    (unless_exchanges (Open in_arm) is_block (alone statement in_arm returned)
    (λ v p front rest q other fine r free. first_again is_block (first_asks (is_mark mark.BlockOpen)) (alone statement in_arm returned) (sure_alone statement ki in_arm returned) refl v p front rest q other fine free)
    (before_gives (Open in_arm) (statement in_arm returned) (λ one. said one.returned (one.it ∷ [])) (ke in_arm returned)))

-- What an `if` does else.

like_seen : (sight : Sight) (t : List Kind → Bool) → IsSeen sight t → (r s : List Kind) → Like sight r s → t r ≡ false → t s ≡ false
like_seen sight t seen r s same free =
    ap t same.second ∙ sym (seen.1 same.token same.first_rest same.second_rest same.next) ∙ sym (ap t same.first) ∙ free

module _ {A : Type 0} (in_arm : Bool) (f : Grammar A) {l : Look} {ss : List Front} (known : Barred f l ss) (full : l.full ≡ true) (h : Exchanges (Open in_arm) f) (v : A) where
  taken_meets : Meets (Open in_arm) (Open in_arm) (taken_else f)
  taken_meets = two_meet (Open in_arm) (sight_of in_arm) (is_if_else in_arm) is_the_else (λ x. f) (λ x. known) full

  -- two tokens in front
  taken_like : (w : A) (p : ℕ) (front rest : List Kind) (q : ℕ) (other : List Kind) → Fine (taken_else f) w (spot p (front ++ rest)) (spot q rest) → Like (sight_of in_arm) (front ++ rest) (front ++ other)
  taken_like w p front rest q other fine = by_either (two_meet whatever (sight_of in_arm) (λ ts. true) is_the_else (λ x. f) (λ x. known) full w p q front rest other fine tt)
    where
      by_either : Opens (sight_of in_arm) (λ ts. true) (front ++ rest) (front ++ other) → Like (sight_of in_arm) (front ++ rest) (front ++ other)
      by_either (inl e) = absurd cc
      by_either (inr like) = like

  open_again : (rest other : List Kind) → Open in_arm rest other → is_if_else in_arm rest ≡ false → is_if_else in_arm other ≡ false
  open_again rest other (inl e) free = e
  open_again rest other (inr like) free = like_seen (sight_of in_arm) (is_if_else in_arm) (if_seen in_arm) rest other like free

  none_again : (w : A) (p : ℕ) (front rest : List Kind) (q : ℕ) (other : List Kind) → Fine (gives v) w (spot p (front ++ rest)) (spot q rest) → Open in_arm rest other → is_if_else in_arm (front ++ rest) ≡ false → is_if_else in_arm (front ++ other) ≡ false
  none_again w p front rest q other fine r free = open_again (front ++ rest) (front ++ other) (gives_meets (Open in_arm) v w p q front rest other fine r) free

  pub or_else_exchanges : Exchanges (Open in_arm) (or_else in_arm f v)
  or_else_exchanges =
      choice_exchanges (Open in_arm) (unless (is_case_else in_arm) (taken_else f)) (unless (is_if_else in_arm) (gives v))
      (unless_exchanges (Open in_arm) (is_case_else in_arm) (taken_else f)
      (λ w p front rest q other fine r free. like_seen (sight_of in_arm) (is_case_else in_arm) (case_seen in_arm) (front ++ rest) (front ++ other) (taken_like w p front rest q other fine) free)
      (free_first (Open in_arm) (the_word (codes "else")) (λ x. f) (word_exchanges (codes "else")) (λ x. h)))
      (unless_exchanges (Open in_arm) (is_if_else in_arm) (gives v) none_again (gives_exchanges (Open in_arm) v))

  pub or_else_meets : Meets (Open in_arm) (Open in_arm) (or_else in_arm f v)
  or_else_meets =
      choice_meets (Open in_arm) (Open in_arm) (unless (is_case_else in_arm) (taken_else f)) (unless (is_if_else in_arm) (gives v))
      (unless_meets (Open in_arm) (Open in_arm) (is_case_else in_arm) (taken_else f) taken_meets) (unless_meets (Open in_arm) (Open in_arm) (is_if_else in_arm) (gives v) (gives_meets (Open in_arm) v))

module _ (frame : Frame) (inner : Deeper) (ki : IsSureBelow inner) (ke : IsExchangedBelow inner) (in_arm : Bool) where
  pub sure_else_do : (test : ExprTree) (then_do : Said (List StmtTree)) → Barred (else_do frame inner in_arm test then_do) (token_look statement_starts) else_word
  sure_else_do test then_do = clear_sequence (sure_branch frame inner ki in_arm then_do.returned) (λ other. clear_gives _) refl

  else_do_exchanges : (test : ExprTree) (then_do : Said (List StmtTree)) → Exchanges (Open in_arm) (else_do frame inner in_arm test then_do)
  else_do_exchanges test then_do = before_gives (Open in_arm) (branch_form frame inner in_arm then_do.returned) _ (branch_exchanges frame inner ki ke in_arm then_do.returned)

  pub then_exchanges : (returned : Returned) (test : ExprTree) → Exchanges (Open in_arm) (then_text frame inner in_arm returned test)
  then_exchanges returned test =
      sequence_exchanges (Open in_arm) (Open in_arm) (branch_form frame inner in_arm returned) (λ then_do. else_form frame inner in_arm test then_do) (branch_exchanges frame inner ki ke in_arm returned)
      (λ then_do. or_else_exchanges in_arm (else_do frame inner in_arm test then_do) (sure_else_do test then_do) refl (else_do_exchanges test then_do) (without test then_do))
      (λ then_do. or_else_meets in_arm (else_do frame inner in_arm test then_do) (sure_else_do test then_do) refl (else_do_exchanges test then_do) (without test then_do))

  if_exchanges : (levels : ℕ) (returned : Returned) → Exchanges (Open in_arm) (if_form frame levels inner in_arm returned)
  if_exchanges levels returned =
      here_exchanges (Open in_arm) (λ statement. sequence (the_word (codes "if")) (tested frame levels inner in_arm returned statement)) (λ statement.
      free_first (Open in_arm) (the_word (codes "if")) (tested frame levels inner in_arm returned statement) (word_exchanges (codes "if")) (λ x.
      free_first (Open in_arm) (test_end (place_in frame statement) levels) (then_text frame inner in_arm returned) (clearly_exchanges (first_test (place_in frame statement) levels)) (then_exchanges returned)))

  with_exchanges : (levels : ℕ) (returned : Returned) → Exchanges (Open in_arm) (statement_with frame levels inner in_arm returned)
  unfolding statement_with
  with_exchanges levels returned =
      choice_exchanges (Open in_arm) (block_form inner returned) (if_or_others frame levels inner in_arm returned) (exchanges_all (Open in_arm) (block_form inner returned) (block_text_exchanges inner ki ke returned))
      (choice_exchanges (Open in_arm) (if_form frame levels inner in_arm returned) (case_or_plain frame levels inner returned) (if_exchanges levels returned)
      (choice_exchanges (Open in_arm) (case_form frame inner returned) (plain_form frame levels returned) (exchanges_all (Open in_arm) (case_form frame inner returned) (case_text_exchanges frame inner ki ke returned))
      (exchanges_all (Open in_arm) (plain_form frame levels returned) (clearly_exchanges (first_plain frame levels returned)))))

pub statement_exchanges : (frame : Frame) (levels : ℕ) → IsExchanged (statement_form frame levels)
statement_exchanges frame zero in_arm returned = with_exchanges frame nothing tt tt in_arm zero returned
statement_exchanges frame (suc levels) in_arm returned =
    with_exchanges frame (deeper levels (statement_form frame levels)) (sure_statement frame levels) (statement_exchanges frame levels) in_arm (suc levels) returned
