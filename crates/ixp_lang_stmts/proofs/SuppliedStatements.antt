-- Statements, and what they are with more levels: where a reading stops, what is before the place is the front of one of these.
use Rattle.std.proofs.Common.{◌≡◌, ℕ, zero, suc, pred, ◌<◌, inl, inr, Bool, true, false, not, ◌&&◌, ◌||◌, List, [], ◌∷◌, ◌++◌, codes, length, Option, Some, None, refl, sym, ap, ◌∙◌, subst, arith, if◌then◌else◌}
use Rattle.std.specs.Option.{is_some}
use Rattle.ixp_lang.specs.Trees.{StmtTree, stmts, block, if_then, case_of, ExprTree}
use Rattle.ixp_lang.specs.declared.stmt.Label.{Label}
use Rattle.ixp_lang_tokens.specs.declared.fault.Cause.{Cause}
use Rattle.ixp_lang_tokens.specs.declared.fault.Cause.TheVariants.{Unexpected, Unknown, Deep}
use Rattle.ixp_lang_tokens.specs.declared.token.Kind.{Kind}
use Rattle.ixp_lang_tokens.specs.declared.token.Kind.TheVariants as kind
use Rattle.ixp_lang_tokens.specs.declared.token.Mark.{Mark}
use Rattle.ixp_lang_tokens.specs.declared.token.Mark.TheVariants as mark
use Rattle.ixp_lang_tokens.specs.Grammars.{Grammar, Step, onward, done, gives, takes, sequence, rounds, unless}
use Rattle.ixp_lang_tokens.specs.Pieces.{is_mark, is_word, same_word, name_in, if_so, the_mark, the_word, is_next}
use Rattle.ixp_lang_tokens.specs.Syntax.{Spot, spot, Fine, by_syntax, Scan, stopped, refused, and_then, scanned, unless_refused, begins_at, scan}
use Rattle.ixp_lang_tokens.proofs.Clear.{IsOfFirst, IsSeen}
use Rattle.ixp_lang_tokens.proofs.ClearLooks.{first_test as first_asks}
use Rattle.ixp_lang_tokens.proofs.Fronts.{Front, marked, are_apart, starts_apart}
use Rattle.ixp_lang_tokens.proofs.Known.{next_mark}
use Rattle.ixp_lang_tokens.proofs.Looks.{Look}
use Rattle.ixp_lang_tokens.proofs.Sizes.{fewer}
use Rattle.ixp_lang_tokens.proofs.Stops.{not_true, Leading, not_begun}
use Rattle.ixp_lang_tokens.proofs.Viable.{HasText, CanEnd, goes_where_follows, IsEnd, Supplied, supplied_gives, supplied_sequence, supplied_choice, supplied_rounds, supplied_unless, supplied_here, supplied_end}
use Rattle.ixp_lang_tokens.proofs.Whole.{Whole, supply_sequence, text_free, left_text, passes_on}
use Rattle.ixp_lang_tokens.proofs.Exchanges.{Exchanges, whatever, like_two, opens_follow, begins_with, ends_by, ends_all, supplied_and_gives, text_then, clearly_exchanges}
use Rattle.ixp_lang_exprs.specs.Names.{function_of}
use Rattle.ixp_lang_exprs.specs.Lists.{never, ended}
use Rattle.ixp_lang_exprs.specs.Sets.{if_missing}
use Rattle.std.specs.Option.{option_or as or_fault}
use Rattle.ixp_lang_exprs.specs.Expressions.{word_in}
use Rattle.ixp_lang_exprs.specs.declared.env.Signature.{Signature}
use Rattle.ixp_lang_exprs.proofs.ClearLists.{clear_ended}
use Rattle.ixp_lang_exprs.proofs.Sure.{Barred, behind_else}
use Rattle.ixp_lang_exprs.proofs.WholeLists.{whole_mark, whole_word, whole_ended, supplied_deep, supplied_level}
use Rattle.ixp_lang_stmts.specs.Statements.{Frame, place_in, Returned, Said, said, Statements, with_statement, statements_of, block_end, Deeper, nothing, deeper, is_block, is_there, is_case_else, is_if_else, block_form, statement_word, deep_word, no_branch, branch_form, else_form, if_form, Arms, with_arm, arms, arms_form, case_end, Subject, case_form, statement_with, statement_form, body_form, change_form, plain_form}
use Rattle.ixp_lang_stmts.proofs.Pieces.{said_one, one_more, labelled, one_arm, next_arm, else_arm, alone, braced, taken_else, or_else, else_do, without, then_text, tested, finished, armed, subjected, case_or_plain, if_or_others}
use Rattle.ixp_lang_stmts.proofs.SureStatements.{else_word, IsSureStatement, IsSureBelow, sure_more, sure_more_arms, sure_statement}
use Rattle.ixp_lang_stmts.proofs.QuietStatements.{or_else_stops}
use Rattle.ixp_lang_stmts.proofs.ExchangeStatements.{sight_of, Open, forks_are, open_end, open_brace, IsExchanged, IsExchangedBelow, one_more_exchanges, more_exchanges, block_exchanges, next_arm_exchanges, more_arms_exchange, case_end_exchanges, branch_exchanges, sure_else_do, statement_exchanges}
use Rattle.ixp_lang_stmts.proofs.WholeParts.{whole_plain, whole_test, whole_subject, whole_labels}

-- behind what is known at a glance
pub supply_first : {A B : Type 0} {f h : Grammar B} {l : Look} (g i : B → Grammar A) → Whole f h l [] → ((b : B) → Supplied A (g b) (i b)) → ((b : B) → HasText (i b)) → Supplied A (sequence f g) (sequence h i)
supply_first {A} {B} {f} {h} {l} g i w sg text = supply_sequence f h g i w.clearly.clear w.supplied sg (λ b. text_free h (i b) l w.clearly (text b) b)

pub text_first : {A B : Type 0} {f h : Grammar B} {l : Look} (i : B → Grammar A) → Whole f h l [] → ((b : B) → HasText (i b)) → HasText (sequence h i)
text_first {A} {B} {f} {h} i w text = text_then h i w.text (λ b. ends_all h (i b) (clearly_exchanges w.clearly) (text b) b)

-- Which tokens tests ask for.

so_from : (b : Bool) (x : Unit {0}) → if_so b ≡ Some x → b ≡ true
so_from true x e = refl
so_from false x e = absurd cc

takes_next : (test : Kind → Bool) (x : Unit {0}) (m : ℕ) (ts : List Kind) (z : Spot) → Fine (takes (λ token. if_so (test token))) x (spot m ts) z → is_next test ts ≡ true
takes_next test x m [] z fine = absurd fine
takes_next test x m (k ∷ ts) z (is, same) = so_from (test k) x is

no_if_by : (a : Bool) (ts : List Kind) (test : List Kind → Bool) → test ts ≡ true → (a && not (true && is_there (if a then Some ts else None) test)) ≡ false
no_if_by true ts test e = ap not e
no_if_by false ts test e = refl

mark_no_word : (m : Mark) (w : List ℕ) (k : Kind) → is_mark m k ≡ true → is_word w k ≡ false
mark_no_word m w (kind.Mark found) e = refl
mark_no_word m w k e = absurd cc

and_first : (a b : Bool) → a ≡ false → (a && b) ≡ false
and_first false b e = refl
and_first true b e = absurd cc

there_not : (b : Bool) (ts : List Kind) (test : List Kind → Bool) → test ts ≡ false → is_there (if b then Some ts else None) test ≡ false
there_not true ts test e = e
there_not false ts test e = refl

there_is : (b : Bool) (ts : List Kind) (test : List Kind → Bool) → b ≡ true → is_there (if b then Some ts else None) test ≡ false → test ts ≡ false
there_is true ts test e h = h
there_is false ts test e h = absurd cc

-- what ends a `case` begins with no `else` of an `if`
case_end_opens : (statement : Statements) (returned : Returned) (b : Said (List StmtTree)) (m : ℕ) (ts : List Kind) (z : Spot) → Fine (case_end statement returned) b (spot m ts) z → is_if_else true ts ≡ false
case_end_opens statement returned b m [] z fine = refl
case_end_opens statement returned b m (k ∷ ts) z (inl (x, z1, (is, same), (y, z2, two, last))) =
    no_if_by (is_word (codes "else") k) ts (is_next (is_mark mark.Colon)) (takes_next (is_mark mark.Colon) y (pred m) ts z2 (subst (λ (w : Spot). Fine (the_mark mark.Colon) y w z2) (sym same) two))
case_end_opens statement returned b m (k ∷ ts) z (inr (x, z1, (is, same), last)) = and_first (is_word (codes "else") k) _ (mark_no_word mark.BlockClose (codes "else") k (so_from (is_mark mark.BlockClose k) x is))

module _ (lower upper : Statements) (ks : IsSureStatement upper) (ke : IsExchanged upper) (su : (in_arm : Bool) (returned : Returned) → Supplied (Said StmtTree) (lower in_arm returned) (upper in_arm returned)) where
  one_more_supplied : (in_arm : Bool) (before : Said (List StmtTree)) → Supplied (Step (Said (List StmtTree)) (Said (List StmtTree))) (one_more lower in_arm before) (one_more upper in_arm before)
  one_more_supplied in_arm before =
      supplied_choice (said_one lower in_arm before) (gives (done before)) (said_one upper in_arm before) (gives (done before))
      (supplied_and_gives (Open in_arm) (lower in_arm before.returned) (upper in_arm before.returned) (λ one. onward (with_statement before one)) (su in_arm before.returned) (ke in_arm before.returned) (open_end in_arm))
      (supplied_gives (done before))

  more_supplied : (in_arm : Bool) (before : Said (List StmtTree)) → Supplied (Said (List StmtTree)) (rounds (one_more lower in_arm) before) (rounds (one_more upper in_arm) before)
  more_supplied in_arm before =
      supplied_rounds (one_more lower in_arm) (one_more upper in_arm) before (λ t. Unit {0}) tt (λ t i. one_more_supplied in_arm t) (λ t u x y i fine. tt)
      (λ t u i j.
      ends_by (Open in_arm) (one_more upper in_arm t) (rounds (one_more upper in_arm) u) (one_more_exchanges upper ks ke in_arm t) (λ m rest. (u, [], m, (zero, inr (refl, refl)), open_end in_arm rest)) (onward u))
      (λ t u i j.
      opens_follow (sight_of in_arm) (is_if_else in_arm) else_word (forks_are in_arm) (sure_more upper ks in_arm u) refl (one_more upper in_arm t) (onward u) (one_more_exchanges upper ks ke in_arm t))

  block_can_end : (returned : Returned) (b : Said (List StmtTree)) → CanEnd (statements_of upper false returned) b (ended mark.BlockClose b)
  block_can_end returned b =
      ends_by (Open false) (statements_of upper false returned) (ended mark.BlockClose b) (more_exchanges upper ks ke false (said returned []))
      (λ m rest. (b, kind.Mark mark.BlockClose ∷ [], pred m, (tt, spot (pred m) [], (refl, refl), (refl, refl)), open_brace false rest)) b

  block_supplied : (returned : Returned) → Supplied (Said (List StmtTree)) (block_end lower returned) (block_end upper returned)
  block_supplied returned =
      supplied_sequence (statements_of lower false returned) (statements_of upper false returned) (λ body. ended mark.BlockClose body) (λ body. ended mark.BlockClose body) (λ b. Unit {0})
      (more_supplied false (said returned [])) (λ b x y p. tt) (λ b j. (whole_ended mark.BlockClose b).supplied) (λ b j. block_can_end returned b)
      (λ b j.
      goes_where_follows (statements_of upper false returned) b (ended mark.BlockClose b) (ended mark.BlockClose b)
      (opens_follow (sight_of false) (is_if_else false) else_word (forks_are false) (clear_ended {T = IsOfFirst} mark.BlockClose b) refl (statements_of upper false returned) b
      (more_exchanges upper ks ke false (said returned []))))

  block_has_text : (returned : Returned) → HasText (block_end upper returned)
  block_has_text returned =
      text_then (statements_of upper false returned) (λ body. ended mark.BlockClose body) (λ p. (said returned [], [], p, (zero, inr (refl, refl)))) (block_can_end returned)

  -- Arms.

  labelled_supplied : (before : Arms) (labels : List Label) → Supplied (Step Arms Arms) (labelled lower before labels) (labelled upper before labels)
  labelled_supplied before labels =
      supplied_and_gives (Open true) (statements_of lower true before.returned) (statements_of upper true before.returned) (λ body. onward (with_arm before labels body)) (more_supplied true (said before.returned []))
      (more_exchanges upper ks ke true (said before.returned [])) (open_end true)

  labelled_has_text : (before : Arms) (labels : List Label) → HasText (labelled upper before labels)
  labelled_has_text before labels p = (onward (with_arm before labels (said before.returned [])), [], p, (said before.returned [], spot p [], (zero, inr (refl, refl)), (refl, refl)))

  next_arm_supplied : (is_of_states : Bool) (place : ℕ) (before : Arms) → Supplied (Step Arms Arms) (next_arm lower is_of_states place before) (next_arm upper is_of_states place before)
  next_arm_supplied is_of_states place before =
      supplied_choice (one_arm lower is_of_states place before) (gives (done before)) (one_arm upper is_of_states place before) (gives (done before))
      (supply_first (labelled lower before) (labelled upper before) (whole_labels is_of_states place) (labelled_supplied before) (labelled_has_text before)) (supplied_gives (done before))

  arms_supplied : (is_of_states : Bool) (place : ℕ) (before : Arms) → Supplied Arms (rounds (next_arm lower is_of_states place) before) (rounds (next_arm upper is_of_states place) before)
  arms_supplied is_of_states place before =
      supplied_rounds (next_arm lower is_of_states place) (next_arm upper is_of_states place) before (λ t. Unit {0}) tt (λ t i. next_arm_supplied is_of_states place t) (λ t u x y i fine. tt)
      (λ t u i j.
      ends_by (Open true) (next_arm upper is_of_states place t) (rounds (next_arm upper is_of_states place) u) (next_arm_exchanges upper ks ke is_of_states place t)
      (λ m rest. (u, [], m, (zero, inr (refl, refl)), open_end true rest)) (onward u))
      (λ t u i j.
      opens_follow (sight_of true) (is_if_else true) else_word (forks_are true) (sure_more_arms upper ks is_of_states place u) refl (next_arm upper is_of_states place t) (onward u)
      (next_arm_exchanges upper ks ke is_of_states place t))

  -- A `case`.

  else_arm_supplied : (returned : Returned) (x : Unit {0}) → Supplied (Said (List StmtTree)) (else_arm lower returned x) (else_arm upper returned x)
  else_arm_supplied returned x = supply_first (λ y. block_end lower returned) (λ y. block_end upper returned) (whole_mark mark.Colon) (λ y. block_supplied returned) (λ y. block_has_text returned)

  else_arm_has_text : (returned : Returned) (x : Unit {0}) → HasText (else_arm upper returned x)
  else_arm_has_text returned x = text_first (λ y. block_end upper returned) (whole_mark mark.Colon) (λ y. block_has_text returned)

  case_end_supplied : (returned : Returned) → Supplied (Said (List StmtTree)) (case_end lower returned) (case_end upper returned)
  case_end_supplied returned =
      supplied_choice (sequence (the_word (codes "else")) (else_arm lower returned)) (ended mark.BlockClose (said returned [])) (sequence (the_word (codes "else")) (else_arm upper returned)) (ended mark.BlockClose (said returned []))
      (supply_first (else_arm lower returned) (else_arm upper returned) (whole_word (codes "else")) (else_arm_supplied returned) (else_arm_has_text returned)) (whole_ended mark.BlockClose (said returned [])).supplied

  finished_supplied : (subject : Subject) (some_arms : Arms) → Supplied (Said StmtTree) (finished lower subject some_arms) (finished upper subject some_arms)
  finished_supplied subject some_arms =
      supplied_and_gives whatever (case_end lower some_arms.returned) (case_end upper some_arms.returned) (λ other. said other.returned (case_of subject.on (arms some_arms.it) (stmts other.it))) (case_end_supplied some_arms.returned)
      (case_end_exchanges upper ks ke some_arms.returned) (λ rest. tt)

  finished_opens : (subject : Subject) (some_arms : Arms) (v : Said StmtTree) (m : ℕ) (ts : List Kind) (y : Spot) → Fine (finished upper subject some_arms) v (spot m ts) y → is_if_else true ts ≡ false
  finished_opens subject some_arms v m ts y (b, z, one, last) = case_end_opens upper some_arms.returned b m ts z one

  finished_can_end : (subject : Subject) (place : ℕ) (returned : Returned) (some_arms : Arms) → CanEnd (arms_form upper subject.is_of_states place returned) some_arms (finished upper subject some_arms)
  finished_can_end subject place returned some_arms =
      ends_by (Open true) (arms_form upper subject.is_of_states place returned) (finished upper subject some_arms) (more_arms_exchange upper ks ke subject.is_of_states place (said returned []))
      (λ m rest. (
        said some_arms.returned (case_of subject.on (arms some_arms.it) (stmts [])),
        kind.Mark mark.BlockClose ∷ [],
        pred m,
        (said some_arms.returned [], spot (pred m) [], inr (tt, spot (pred m) [], (refl, refl), (refl, refl)), (refl, refl)),
        open_brace true rest,
      )) some_arms

  armed_supplied : (returned : Returned) (place : ℕ) (subject : Subject) → Supplied (Said StmtTree) (armed lower returned place subject) (armed upper returned place subject)
  armed_supplied returned place subject =
      supplied_sequence (arms_form lower subject.is_of_states place returned) (arms_form upper subject.is_of_states place returned) (finished lower subject) (finished upper subject) (λ b. Unit {0})
      (arms_supplied subject.is_of_states place (said returned [])) (λ b x y p. tt) (λ b j. finished_supplied subject b) (λ b j. finished_can_end subject place returned b)
      (λ b j p front taken rest more m c v q some one at last.
      more_arms_exchange upper ks ke subject.is_of_states place (said returned []) b p front (taken ++ rest) m (taken ++ more) one (inl (finished_opens subject b v m (taken ++ more) (spot q []) last)))

  armed_has_text : (returned : Returned) (place : ℕ) (subject : Subject) → HasText (armed upper returned place subject)
  armed_has_text returned place subject =
      text_then (arms_form upper subject.is_of_states place returned) (finished upper subject) (λ p. (said returned [], [], p, (zero, inr (refl, refl)))) (finished_can_end subject place returned)

  case_supplied : (frame : Frame) (levels more : ℕ) → levels < more → (returned : Returned) → Supplied (Said StmtTree) (case_form frame (deeper levels lower) returned) (case_form frame (deeper more upper) returned)
  case_supplied frame levels more less returned =
      supplied_here (λ place. sequence (the_word (codes "case")) (subjected frame levels lower returned place)) (λ place. sequence (the_word (codes "case")) (subjected frame more upper returned place)) (λ place.
      supply_first (subjected frame levels lower returned place) (subjected frame more upper returned place) (whole_word (codes "case")) (λ x.
      supply_first (armed lower returned place) (armed upper returned place) (whole_subject levels more less (place_in frame place)) (armed_supplied returned place) (armed_has_text returned place))
      (λ x. text_first (armed upper returned place) (whole_subject levels more less (place_in frame place)) (armed_has_text returned place)))

  -- Blocks and branches.

  block_text_supplied : (levels more : ℕ) (returned : Returned) → Supplied (Said StmtTree) (block_form (deeper levels lower) returned) (block_form (deeper more upper) returned)
  block_text_supplied levels more returned =
      supply_first (λ x. sequence (block_end lower returned) (λ body. gives (said body.returned (block (stmts body.it))))) (λ x. sequence (block_end upper returned) (λ body. gives (said body.returned (block (stmts body.it)))))
      (whole_mark mark.BlockOpen)
      (λ x.
      supplied_and_gives whatever (block_end lower returned) (block_end upper returned) (λ body. said body.returned (block (stmts body.it))) (block_supplied returned) (block_exchanges upper ks ke returned) (λ rest. tt))
      (λ x.
      text_then (block_end upper returned) (λ body. gives (said body.returned (block (stmts body.it)))) (block_has_text returned)
      (λ b. ends_all (block_end upper returned) (gives (said b.returned (block (stmts b.it)))) (block_exchanges upper ks ke returned) (λ p. (said b.returned (block (stmts b.it)), [], p, (refl, refl))) b))

  branch_supplied : (frame : Frame) (levels more : ℕ) (in_arm : Bool) (returned : Returned) → Supplied (Said (List StmtTree)) (branch_form frame (deeper levels lower) in_arm returned) (branch_form frame (deeper more upper) in_arm returned)
  branch_supplied frame levels more in_arm returned =
      supplied_choice (braced lower returned) (unless is_block (alone lower in_arm returned)) (braced upper returned) (unless is_block (alone upper in_arm returned))
      (supply_first (λ x. block_end lower returned) (λ x. block_end upper returned) (whole_mark mark.BlockOpen) (λ x. block_supplied returned) (λ x. block_has_text returned))
      (supplied_unless is_block (alone lower in_arm returned) (alone upper in_arm returned)
      (supplied_and_gives (Open in_arm) (lower in_arm returned) (upper in_arm returned) (λ one. said one.returned (one.it ∷ [])) (su in_arm returned) (ke in_arm returned) (open_end in_arm))
      (passes_on is_block (alone lower in_arm returned) (alone upper in_arm returned) (first_asks (is_mark mark.BlockOpen))))

-- where the statements of a level have texts
upper_block_text : (upper : Statements) → IsSureStatement upper → IsExchanged upper → (returned : Returned) → HasText (block_end upper returned)
upper_block_text upper ks ke returned =
    text_then (statements_of upper false returned) (λ body. ended mark.BlockClose body) (λ p. (said returned [], [], p, (zero, inr (refl, refl))))
    (λ b.
    ends_by (Open false) (statements_of upper false returned) (ended mark.BlockClose b) (more_exchanges upper ks ke false (said returned []))
    (λ m rest. (b, kind.Mark mark.BlockClose ∷ [], pred m, (tt, spot (pred m) [], (refl, refl), (refl, refl)), open_brace false rest)) b)

branch_has_text : (frame : Frame) (more : ℕ) (upper : Statements) → IsSureStatement upper → IsExchanged upper → (in_arm : Bool) (returned : Returned) → HasText (branch_form frame (deeper more upper) in_arm returned)
branch_has_text frame more upper ks ke in_arm returned =
    left_text (braced upper returned) (unless is_block (alone upper in_arm returned)) (text_first (λ x. block_end upper returned) (whole_mark mark.BlockOpen) (λ x. upper_block_text upper ks ke returned))

-- What an `if` does else.

-- two tokens in a row, or one that is no `else` of a `case` in either
else_opens : {A : Type 0} (in_arm : Bool) (f h : Grammar A) (v : A) (taken rest more : List Kind) (m : ℕ) (c : Cause) (w : A) (q : ℕ) → 0 < length taken → scan (or_else in_arm f v) (spot m (taken ++ rest)) ≡ stopped c rest
    → Fine (or_else in_arm h v) w (spot m (taken ++ more)) (spot q []) → Open in_arm (taken ++ rest) (taken ++ more)
else_opens in_arm f h v [] rest more m c w q some at fine = absurd (omega arith)
else_opens in_arm f h v (k ∷ j ∷ js) rest more m c w q some at fine = inr (like_two (sight_of in_arm) k j js rest more)
else_opens in_arm f h v (k ∷ []) rest more m c w q some at (inr (free, (is, same))) = absurd (no_rest more (ap (λ (x : Spot). x.1) same))
  where
    no_rest : (more : List Kind) → k ∷ more ≡ [] → ⊥
    no_rest more e = cc
else_opens {A} in_arm f h v (k ∷ []) rest more m c w q some at (inl (free, fine)) =
    inr (record { token = k; first_rest = rest; second_rest = more; first = refl; second = refl; next = λ fork. same_turn in_arm ((or_else_stops in_arm f v m k rest (by_syntax c) rest at).0) ((or_else_stops in_arm f v m k rest (by_syntax c) rest at).1) free })
  where
    same_turn : (a : Bool) → is_word (codes "else") k ≡ true → is_case_else a (k ∷ rest) ≡ false → is_case_else a (k ∷ more) ≡ false → (sight_of a).turn rest ≡ (sight_of a).turn more
    same_turn false there e i = refl
    same_turn true there e i =
        there_is (is_word (codes "else") k) rest (is_next (is_mark mark.Colon)) there e ∙ sym (there_is (is_word (codes "else") k) more (is_next (is_mark mark.Colon)) there i)

-- an `else` that is taken has no colon behind it
taken_no_case : {A : Type 0} (in_arm : Bool) (h : Grammar A) {l : Look} {ss : List Front} → Barred h l ss → l.full ≡ true → are_apart l.starts (marked mark.Colon ∷ []) ≡ true → (w : A) (p : ℕ) (ts : List Kind) (y : Spot) → Fine (taken_else h) w (spot p ts) y
    → is_case_else in_arm ts ≡ false
taken_no_case false h known full apart w p ts y fine = refl
taken_no_case true h known full apart w p [] y fine = refl
taken_no_case true h {l} known full apart w p (k ∷ ts) y (x, z, (is, same), two) =
    let last : Fine h w (spot (pred p) ts) y = subst (λ (z : Spot). Fine h w z y) (sym same) two in
    let less : length y.1 < length ts = fewer (IsSeen behind_else) h known.clear w (spot (pred p) ts) y last (known.full full w) in
    let starts = begins_with known w (spot (pred p) ts) y last less in
    there_not (is_word (codes "else") k) ts (is_next (is_mark mark.Colon))
    (not_true (is_next (is_mark mark.Colon) ts) (λ e. starts_apart l.starts (marked mark.Colon ∷ []) ts apart starts (next_mark mark.Colon ts e)))

-- the value behind an `else`, or none
module _ {A : Type 0} (in_arm : Bool) (f h : Grammar A) (sf : Supplied A f h) (text : HasText h) {l : Look} {ss : List Front} (known : Barred h l ss) (full : l.full ≡ true) (apart : are_apart l.starts (marked mark.Colon ∷ []) ≡ true) (v : A) where
  or_else_supplied : Supplied A (or_else in_arm f v) (or_else in_arm h v)
  or_else_supplied =
      supplied_choice (unless (is_case_else in_arm) (taken_else f)) (unless (is_if_else in_arm) (gives v)) (unless (is_case_else in_arm) (taken_else h)) (unless (is_if_else in_arm) (gives v))
      (supplied_unless (is_case_else in_arm) (taken_else f) (taken_else h) (supply_first (λ x. f) (λ x. h) (whole_word (codes "else")) (λ x. sf) (λ x. text))
      (λ p taken rest more c w q some free at fine. taken_no_case in_arm h known full apart w p (taken ++ more) (spot q []) fine))
      (supplied_unless (is_if_else in_arm) (gives v) (gives v) (supplied_gives v) (λ p taken rest more c w q some free at fine. absurd cc))

-- An `if`.
module _ (frame : Frame) (inner outer : Deeper) (ki : IsSureBelow outer) (ke : IsExchangedBelow outer) (in_arm : Bool)
    (branches : (returned : Returned) → Supplied (Said (List StmtTree)) (branch_form frame inner in_arm returned) (branch_form frame outer in_arm returned)) (text : (returned : Returned) → HasText (branch_form frame outer in_arm returned)) where
  else_do_supplied : (test : ExprTree) (then_do : Said (List StmtTree)) → Supplied (Said StmtTree) (else_do frame inner in_arm test then_do) (else_do frame outer in_arm test then_do)
  else_do_supplied test then_do =
      supplied_and_gives (Open in_arm) (branch_form frame inner in_arm then_do.returned) (branch_form frame outer in_arm then_do.returned) (λ other. said other.returned (if_then test (stmts then_do.it) (stmts other.it)))
      (branches then_do.returned) (branch_exchanges frame outer ki ke in_arm then_do.returned) (open_end in_arm)

  else_do_has_text : (test : ExprTree) (then_do : Said (List StmtTree)) → HasText (else_do frame outer in_arm test then_do)
  else_do_has_text test then_do =
      text_then (branch_form frame outer in_arm then_do.returned) (λ other. gives (said other.returned (if_then test (stmts then_do.it) (stmts other.it)))) (text then_do.returned)
      (λ b.
      ends_by (Open in_arm) (branch_form frame outer in_arm then_do.returned) (gives (said b.returned (if_then test (stmts then_do.it) (stmts b.it)))) (branch_exchanges frame outer ki ke in_arm then_do.returned)
      (λ m rest. (said b.returned (if_then test (stmts then_do.it) (stmts b.it)), [], m, (refl, refl), open_end in_arm rest)) b)

  else_supplied : (test : ExprTree) (then_do : Said (List StmtTree)) → Supplied (Said StmtTree) (else_form frame inner in_arm test then_do) (else_form frame outer in_arm test then_do)
  else_supplied test then_do =
      or_else_supplied in_arm (else_do frame inner in_arm test then_do) (else_do frame outer in_arm test then_do) (else_do_supplied test then_do) (else_do_has_text test then_do)
      (sure_else_do frame outer ki ke in_arm test then_do) refl refl (without test then_do)

  else_can_end : (test : ExprTree) (returned : Returned) (then_do : Said (List StmtTree)) → CanEnd (branch_form frame outer in_arm returned) then_do (else_form frame outer in_arm test then_do)
  else_can_end test returned then_do =
      ends_by (Open in_arm) (branch_form frame outer in_arm returned) (else_form frame outer in_arm test then_do) (branch_exchanges frame outer ki ke in_arm returned)
      (λ m rest. (without test then_do, [], m, inr (refl, (refl, refl)), open_end in_arm rest)) then_do

  then_supplied : (returned : Returned) (test : ExprTree) → Supplied (Said StmtTree) (then_text frame inner in_arm returned test) (then_text frame outer in_arm returned test)
  then_supplied returned test =
      supplied_sequence (branch_form frame inner in_arm returned) (branch_form frame outer in_arm returned) (λ then_do. else_form frame inner in_arm test then_do) (λ then_do. else_form frame outer in_arm test then_do) (λ b. Unit {0})
      (branches returned) (λ b x y p. tt) (λ b j. else_supplied test b) (λ b j. else_can_end test returned b)
      (λ b j p front taken rest more m c v q some one at last.
      branch_exchanges frame outer ki ke in_arm returned b p front (taken ++ rest) m (taken ++ more) one
      (else_opens in_arm (else_do frame inner in_arm test b) (else_do frame outer in_arm test b) (without test b) taken rest more m c v q some at last))

  then_has_text : (returned : Returned) (test : ExprTree) → HasText (then_text frame outer in_arm returned test)
  then_has_text returned test = text_then (branch_form frame outer in_arm returned) (λ then_do. else_form frame outer in_arm test then_do) (text returned) (else_can_end test returned)

  if_supplied : (levels more : ℕ) → levels < more → (returned : Returned) → Supplied (Said StmtTree) (if_form frame levels inner in_arm returned) (if_form frame more outer in_arm returned)
  if_supplied levels more less returned =
      supplied_here (λ statement. sequence (the_word (codes "if")) (tested frame levels inner in_arm returned statement)) (λ statement. sequence (the_word (codes "if")) (tested frame more outer in_arm returned statement)) (λ statement.
      supply_first (tested frame levels inner in_arm returned statement) (tested frame more outer in_arm returned statement) (whole_word (codes "if")) (λ x.
      supply_first (then_text frame inner in_arm returned) (then_text frame outer in_arm returned) (whole_test levels more less (place_in frame statement)) (then_supplied returned) (then_has_text returned))
      (λ x. text_first (then_text frame outer in_arm returned) (whole_test levels more less (place_in frame statement)) (then_has_text returned)))

-- No branch, one level too deep, against one.

-- what a statement begins with
abbrev begins_one : Kind → Bool
begins_one k =
    is_some (if_so (is_mark mark.BlockOpen k))
    || (is_some (if_so (is_word (codes "if") k))
    || (is_some (if_so (is_word (codes "case") k))
    || (is_some (if_so (is_word (codes "return") k))
    || (is_some (name_in k)
    || (is_some (if_so (is_word (codes "bgp_next_hop") k))
    || (is_some (if_so (is_word (codes "bgp_path") k))
    || (is_some (if_so (is_word (codes "bgp_community") k))
    || (is_some (if_so (is_word (codes "bgp_large_community") k)) || (is_some (if_so (is_word (codes "accept") k)) || is_some (if_so (is_word (codes "reject") k)))))))))))

-- how the statements of a level begin, and that they do
pub record Begun (statement : Statements) : Type 1 where
  pub begins : (in_arm : Bool) (returned : Returned) (x : Spot) → begins_at (statement in_arm returned) x ≡ is_next begins_one x.1
  pub leads : (in_arm : Bool) (returned : Returned) → Leading (statement in_arm returned)

or_none : (b : Bool) → (b || false) ≡ is_some (if_so b)
or_none true = refl
or_none false = refl

block_begins : (inner : Deeper) (returned : Returned) (p : ℕ) (k : Kind) (ts : List Kind) → begins_at (block_form inner returned) (spot p (k ∷ ts)) ≡ is_some (if_so (is_mark mark.BlockOpen k))
block_begins nothing returned p k ts = or_none (is_mark mark.BlockOpen k)
block_begins (deeper levels statement) returned p k ts = refl

case_begins : (frame : Frame) (inner : Deeper) (returned : Returned) (p : ℕ) (k : Kind) (ts : List Kind) → begins_at (case_form frame inner returned) (spot p (k ∷ ts)) ≡ is_some (if_so (is_word (codes "case") k))
case_begins frame nothing returned p k ts = or_none (is_word (codes "case") k)
case_begins frame (deeper levels statement) returned p k ts = refl

block_leads : (inner : Deeper) (returned : Returned) → Leading (block_form inner returned)
block_leads nothing returned = tt
block_leads (deeper levels statement) returned = tt

case_leads : (frame : Frame) (inner : Deeper) (returned : Returned) → Leading (case_form frame inner returned)
case_leads frame nothing returned = tt
case_leads frame (deeper levels statement) returned = λ n. tt

block_no_end : (inner : Deeper) (returned : Returned) (p : ℕ) → begins_at (block_form inner returned) (spot p []) ≡ false
block_no_end nothing returned p = refl
block_no_end (deeper levels statement) returned p = refl

case_no_end : (frame : Frame) (inner : Deeper) (returned : Returned) (p : ℕ) → begins_at (case_form frame inner returned) (spot p []) ≡ false
case_no_end frame nothing returned p = refl
case_no_end frame (deeper levels statement) returned p = refl

ors : (a b c d e f : Bool) → a ≡ d → c ≡ f → (a || (b || (c || e))) ≡ (d || (b || (f || e)))
ors a b c d e f h i = ap (λ x. x || (b || (c || e))) h ∙ ap (λ x. d || (b || (x || e))) i

with_begins : (frame : Frame) (levels : ℕ) (inner : Deeper) (in_arm : Bool) (returned : Returned) (x : Spot) → begins_at (statement_with frame levels inner in_arm returned) x ≡ is_next begins_one x.1
unfolding statement_with change_form
with_begins frame levels inner in_arm returned (p, []) =
    ors (begins_at (block_form inner returned) (spot p [])) false (begins_at (case_form frame inner returned) (spot p [])) false false false (block_no_end inner returned p) (case_no_end frame inner returned p)
with_begins frame levels inner in_arm returned (p, k ∷ ts) =
    ors (begins_at (block_form inner returned) (spot p (k ∷ ts))) _ (begins_at (case_form frame inner returned) (spot p (k ∷ ts))) _ _ _ (block_begins inner returned p k ts) (case_begins frame inner returned p k ts)

with_leads : (frame : Frame) (levels : ℕ) (inner : Deeper) (in_arm : Bool) (returned : Returned) → Leading (statement_with frame levels inner in_arm returned)
unfolding statement_with change_form
with_leads frame levels inner in_arm returned = (block_leads inner returned, (λ n. tt, (case_leads frame inner returned, λ n. (tt, (tt, (tt, (tt, (tt, (tt, (tt, tt))))))))))

statement_begun : (frame : Frame) (levels : ℕ) → Begun (statement_form frame levels)
statement_begun frame zero = record { begins = with_begins frame zero nothing; leads = with_leads frame zero nothing }
statement_begun frame (suc levels) =
    record { begins = with_begins frame (suc levels) (deeper levels (statement_form frame levels)); leads = with_leads frame (suc levels) (deeper levels (statement_form frame levels)) }

-- the nine words, one behind the other
nine_words : {A : Type 0} (w : A) (a b c d e f g h i : Bool) → is_some (if (a || b || c) || (d || e || f || g) || (h || i) then Some w else None)
    ≡ (is_some (if_so a) || (is_some (if_so b) || (is_some (if_so c) || (false || (is_some (if_so d) || (is_some (if_so e) || (is_some (if_so f) || (is_some (if_so g) || (is_some (if_so h) || is_some (if_so i))))))))))
nine_words w true b c d e f g h i = refl
nine_words w false true c d e f g h i = refl
nine_words w false false true d e f g h i = refl
nine_words w false false false true e f g h i = refl
nine_words w false false false false true f g h i = refl
nine_words w false false false false false true g h i = refl
nine_words w false false false false false false true h i = refl
nine_words w false false false false false false false true i = refl
nine_words w false false false false false false false false true = refl
nine_words w false false false false false false false false false = refl

brace_begins : (b : Bool) → (b || (false || false)) ≡ (is_some (if_so b) || (not b && (is_some (if_so b) || false)))
brace_begins true = refl
brace_begins false = refl

-- what is too deep begins as what isn't
too_deep_begins : (k : Kind) → (is_mark mark.BlockOpen k || (is_some (name_in k) || is_some (word_in statement_word k))) ≡ (is_some (if_so (is_mark mark.BlockOpen k)) || (not (is_mark mark.BlockOpen k) && begins_one k))
too_deep_begins (kind.Mark m) = brace_begins (is_mark mark.BlockOpen (kind.Mark m))
too_deep_begins (kind.Word w) =
    nine_words w (same_word w (codes "if")) (same_word w (codes "case")) (same_word w (codes "return")) (same_word w (codes "bgp_next_hop")) (same_word w (codes "bgp_path")) (same_word w (codes "bgp_community")) (same_word w (codes "bgp_large_community"))
    (same_word w (codes "accept")) (same_word w (codes "reject"))
too_deep_begins (kind.Name n) = refl
too_deep_begins (kind.Number n) = refl
too_deep_begins (kind.Addr a) = refl
too_deep_begins (kind.Prefix p) = refl
too_deep_begins (kind.Text t) = refl
too_deep_begins kind.BadByte = refl
too_deep_begins kind.BadNumber = refl

module _ (frame : Frame) (more : ℕ) (upper : Statements) (begun : Begun upper) (in_arm : Bool) (returned : Returned) where
  abbrev deep : Grammar (Said (List StmtTree))
  deep = no_branch frame

  abbrev branch : Grammar (Said (List StmtTree))
  branch = branch_form frame (deeper more upper) in_arm returned

  deep_begins : (x : Spot) → begins_at deep x ≡ begins_at branch x
  deep_begins (p, []) = sym (begun.begins in_arm returned (spot p []))
  deep_begins (p, k ∷ ts) =
      too_deep_begins k ∙ ap (λ b. is_some (if_so (is_mark mark.BlockOpen k)) || (not (is_mark mark.BlockOpen k) && b)) (sym (begun.begins in_arm returned (spot p (k ∷ ts))))

  -- what isn't begun stops where it is
  branch_stops : (x : Spot) → begins_at branch x ≡ false → scan branch x ≡ stopped Unexpected x.1
  branch_stops x e = not_begun branch (tt, begun.leads in_arm returned) x e

  refused_name : (found : Option Signature) (p : ℕ) (ts : List Kind) (s : Scan (Said (List StmtTree))) → unless_refused (or_fault (if_missing found (Unknown, p)) (Some (Deep, p))) ts s ≡ refused ts
  refused_name (Some signature) p ts s = refl
  refused_name None p ts s = refl

  word_ends : (w : List ℕ) (p : ℕ) (ts : List Kind) (o : Option (List ℕ)) → statement_word w ≡ o → IsEnd deep branch (spot p (kind.Word w ∷ ts))
  word_ends w p ts (Some v) e = inr (inl (ts, ap (λ x. scan_word x) e))
    where
      scan_word : Option (List ℕ) → Scan (Said (List StmtTree))
      scan_word o = and_then (scanned o p (kind.Word w) ts) (λ word y. unless_refused (Some (deep_word frame.scope word p)) y.1 (scan never y))
  word_ends w p ts None e =
      inr (inr (Unexpected, ap (λ x. scan_word x) e, branch_stops (spot p (kind.Word w ∷ ts)) (sym (deep_begins (spot p (kind.Word w ∷ ts))) ∙ ap is_some e)))
    where
      scan_word : Option (List ℕ) → Scan (Said (List StmtTree))
      scan_word o = and_then (scanned o p (kind.Word w) ts) (λ word y. unless_refused (Some (deep_word frame.scope word p)) y.1 (scan never y))

  mark_ends : (m : Mark) (p : ℕ) (ts : List Kind) (b : Bool) → is_mark mark.BlockOpen (kind.Mark m) ≡ b → IsEnd deep branch (spot p (kind.Mark m ∷ ts))
  mark_ends m p ts true e = inl (ap (λ b. if b then stopped Deep (kind.Mark m ∷ ts) else stopped Unexpected (kind.Mark m ∷ ts)) e)
  mark_ends m p ts false e =
      inr (inr (
        Unexpected,
        ap (λ b. if b then stopped Deep (kind.Mark m ∷ ts) else stopped Unexpected (kind.Mark m ∷ ts)) e,
        branch_stops (spot p (kind.Mark m ∷ ts)) (sym (deep_begins (spot p (kind.Mark m ∷ ts))) ∙ ap (λ b. b || (false || false)) e),
      ))

  other_ends : (x : Spot) → scan deep x ≡ stopped Unexpected x.1 → begins_at deep x ≡ false → IsEnd deep branch x
  other_ends x at e = inr (inr (Unexpected, at, branch_stops x (sym (deep_begins x) ∙ e)))

  deep_ends : (x : Spot) → IsEnd deep branch x
  deep_ends (p, []) = other_ends (spot p []) refl refl
  deep_ends (p, kind.Mark m ∷ ts) = mark_ends m p ts (is_mark mark.BlockOpen (kind.Mark m)) refl
  deep_ends (p, kind.Word w ∷ ts) = word_ends w p ts (statement_word w) refl
  deep_ends (p, kind.Name n ∷ ts) = inr (inl (ts, refused_name (function_of (frame.names n)) p ts _))
  deep_ends (p, kind.Number n ∷ ts) = other_ends (spot p (kind.Number n ∷ ts)) refl refl
  deep_ends (p, kind.Addr a ∷ ts) = other_ends (spot p (kind.Addr a ∷ ts)) refl refl
  deep_ends (p, kind.Prefix a ∷ ts) = other_ends (spot p (kind.Prefix a ∷ ts)) refl refl
  deep_ends (p, kind.Text t ∷ ts) = other_ends (spot p (kind.Text t ∷ ts)) refl refl
  deep_ends (p, kind.BadByte ∷ ts) = other_ends (spot p (kind.BadByte ∷ ts)) refl refl
  deep_ends (p, kind.BadNumber ∷ ts) = other_ends (spot p (kind.BadNumber ∷ ts)) refl refl

  deep_supplied : Supplied (Said (List StmtTree)) deep branch
  deep_supplied = supplied_end deep branch deep_begins deep_ends

-- Statements of levels, and of more.

-- what the statements one level deeper are with more levels
pub data Above (frame : Frame) : Deeper → Deeper → Type 1 where
  first_level : (more : ℕ) (upper : Statements) → IsSureStatement upper → IsExchanged upper → Begun upper → Above frame nothing (deeper more upper)
  next_level : (levels more : ℕ) (lower upper : Statements) → levels < more → IsSureStatement upper → IsExchanged upper
      → ((in_arm : Bool) (returned : Returned) → Supplied (Said StmtTree) (lower in_arm returned) (upper in_arm returned)) → Above frame (deeper levels lower) (deeper more upper)

block_above : (frame : Frame) (inner outer : Deeper) → Above frame inner outer → (returned : Returned) → Supplied (Said StmtTree) (block_form inner returned) (block_form outer returned)
block_above frame _ _ (first_level more upper ks ke begun) returned = supplied_level mark.BlockOpen (λ x. sequence (block_end upper returned) (λ body. gives (said body.returned (block (stmts body.it)))))
block_above frame _ _ (next_level levels more lower upper less ks ke su) returned = block_text_supplied lower upper ks ke su levels more returned

case_above : (frame : Frame) (inner outer : Deeper) → Above frame inner outer → (returned : Returned) → Supplied (Said StmtTree) (case_form frame inner returned) (case_form frame outer returned)
case_above frame _ _ (first_level more upper ks ke begun) returned = supplied_deep (is_word (codes "case")) (λ place. subjected frame more upper returned place)
case_above frame _ _ (next_level levels more lower upper less ks ke su) returned = case_supplied lower upper ks ke su frame levels more less returned

if_above : (frame : Frame) (inner outer : Deeper) → Above frame inner outer → (in_arm : Bool) (levels more : ℕ) → levels < more → (returned : Returned) → Supplied (Said StmtTree) (if_form frame levels inner in_arm returned) (if_form frame more outer in_arm returned)
if_above frame _ _ (first_level above upper ks ke begun) in_arm levels more less returned =
    if_supplied frame nothing (deeper above upper) ks ke in_arm (λ other. deep_supplied frame above upper begun in_arm other) (λ other. branch_has_text frame above upper ks ke in_arm other) levels more less returned
if_above frame _ _ (next_level below above lower upper smaller ks ke su) in_arm levels more less returned =
    if_supplied frame (deeper below lower) (deeper above upper) ks ke in_arm (λ other. branch_supplied lower upper ks ke su frame below above in_arm other) (λ other. branch_has_text frame above upper ks ke in_arm other) levels more less returned

with_above : (frame : Frame) (inner outer : Deeper) → Above frame inner outer → (in_arm : Bool) (levels more : ℕ) → levels < more → (returned : Returned)
    → Supplied (Said StmtTree) (statement_with frame levels inner in_arm returned) (statement_with frame more outer in_arm returned)
unfolding statement_with
with_above frame inner outer above in_arm levels more less returned =
    supplied_choice (block_form inner returned) (if_or_others frame levels inner in_arm returned) (block_form outer returned) (if_or_others frame more outer in_arm returned) (block_above frame inner outer above returned)
    (supplied_choice (if_form frame levels inner in_arm returned) (case_or_plain frame levels inner returned) (if_form frame more outer in_arm returned) (case_or_plain frame more outer returned)
    (if_above frame inner outer above in_arm levels more less returned)
    (supplied_choice (case_form frame inner returned) (plain_form frame levels returned) (case_form frame outer returned) (plain_form frame more returned) (case_above frame inner outer above returned)
    (whole_plain levels more less frame returned).supplied))

statement_supplied : (frame : Frame) (levels more : ℕ) → levels < more → (in_arm : Bool) (returned : Returned) → Supplied (Said StmtTree) (statement_form frame levels in_arm returned) (statement_form frame more in_arm returned)
statement_supplied frame levels zero less in_arm returned = absurd (omega arith)
statement_supplied frame zero (suc more) less in_arm returned =
    with_above frame nothing (deeper more (statement_form frame more)) (first_level more (statement_form frame more) (sure_statement frame more) (statement_exchanges frame more) (statement_begun frame more)) in_arm zero (suc more)
    less returned
statement_supplied frame (suc levels) (suc more) less in_arm returned =
    let fewer_levels : levels < more = omega arith in
    with_above frame (deeper levels (statement_form frame levels)) (deeper more (statement_form frame more))
    (next_level levels more (statement_form frame levels) (statement_form frame more) fewer_levels (sure_statement frame more) (statement_exchanges frame more) (statement_supplied frame levels more fewer_levels)) in_arm (suc levels) (suc more)
    less returned

-- Bodies.

pub body_supplied : (frame : Frame) (levels more : ℕ) → levels < more → (returned : Returned) → Supplied (Said (List StmtTree)) (body_form frame levels returned) (body_form frame more returned)
body_supplied frame levels more less returned =
    block_supplied (statement_form frame levels) (statement_form frame more) (sure_statement frame more) (statement_exchanges frame more) (statement_supplied frame levels more less) returned

pub body_exchanges : (frame : Frame) (levels : ℕ) (returned : Returned) → Exchanges whatever (body_form frame levels returned)
body_exchanges frame levels returned = block_exchanges (statement_form frame levels) (sure_statement frame levels) (statement_exchanges frame levels) returned

pub body_has_text : (frame : Frame) (levels : ℕ) (returned : Returned) → HasText (body_form frame levels returned)
body_has_text frame levels returned = upper_block_text (statement_form frame levels) (sure_statement frame levels) (statement_exchanges frame levels) returned
