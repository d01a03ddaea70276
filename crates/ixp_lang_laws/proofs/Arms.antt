-- `case`, from the statements one level deeper.
use Rattle.std.proofs.Common.{◌≡◌, ℕ, zero, suc, inl, inr, Bool, true, false, ◌==◌, List, [], ◌∷◌, ◌++◌, None, refl, sym, ap, ◌∙◌, subst, if◌then◌else◌, append_assoc, append-nil}
use Rattle.ixp_num.specs.declared.roa.Validity.{Validity}
use Rattle.ixp_num.specs.declared.roa.Validity.TheVariants.{Valid, Invalid, Unknown}
use Rattle.ixp_lang_tokens.specs.declared.token.Kind.{Kind}
use Rattle.ixp_lang_tokens.specs.declared.token.Mark.TheVariants as mark
use Rattle.ixp_lang_tokens.specs.Grammars.{Grammar, gives, sequence, choice, Step, onward, done, Rounds, Took}
use Rattle.ixp_lang.specs.declared.stmt.Label.{Label}
use Rattle.ixp_lang.specs.declared.stmt.Label.TheVariants.{Range as Between, State as IsState}
use Rattle.ixp_lang.specs.Trees.{StmtTree, StmtTrees, stmts, stmts_end, stmts_more}
use Rattle.ixp_lang_exprs.specs.declared.context.Scope.{Scope}
use Rattle.ixp_lang_exprs.specs.Names.{Names}
use Rattle.ixp_lang_exprs.specs.Operands.{settled}
use Rattle.ixp_lang_stmts.specs.Statements.{Returned, Said, said, Statements, deeper, statements_of, block_end, is_if_else, labels_form, Arms, with_arm, arms, arms_form, case_end, Subject, subject_wanted, subject_end, no_case, case_form, Frame}
use Rattle.ixp_print.specs.Texts.{state_text}
use Rattle.ixp_lang_laws.specs.Canonical.{number, sign, word, list_of, expr_tokens}
use Rattle.ixp_lang_laws.specs.CanonicalItems.{label_tokens, stmt_tokens, stmts_tokens, arms_tokens, other_tokens}
use Rattle.ixp_lang_laws.proofs.Basics.{Within, sound, both_none, none_settled, is_so, so_again}
use Rattle.ixp_lang_laws.proofs.Parentheses.{at}
use Rattle.ixp_lang_laws.proofs.Expressions.{expression_again}
use Rattle.ixp_lang_laws.proofs.Cases.{labels_again}
use Rattle.ixp_lang_laws.proofs.Statements.{kept, StatementAgain, statements_again, block_again, empty_block}

-- The labels of one arm, and what it does.
abbrev Arm : Type 0
Arm = List Label × List StmtTree

-- What follows an arm is no `else` of an `if`.

free_range : (same : Bool) (low : ℕ) (one two : List Kind) → is_if_else true (if same then number low one else number low two) ≡ false
free_range true low one two = refl
free_range false low one two = refl

free_state : (s : Validity) (rest : List Kind) → is_if_else true (word (state_text s) rest) ≡ false
free_state Valid rest = refl
free_state Invalid rest = refl
free_state Unknown rest = refl

pub free_labels : (ls : List Label) (rest : List Kind) → is_if_else true (list_of label_tokens ls (sign mark.Colon rest)) ≡ false
free_labels [] rest = refl
free_labels (Between low high ∷ ls) rest = free_range (low == high) low _ _
free_labels (IsState s ∷ ls) rest = free_state s _

free_arms : (new : List Arm) (others : List Kind) → is_if_else true others ≡ false → is_if_else true (arms_tokens (arms new) others) ≡ false
free_arms [] others free = free
free_arms (a ∷ new) others free = free_labels a.0 _

pub free_other : (ss : StmtTrees) (others : List Kind) → is_if_else true (other_tokens ss (sign mark.BlockClose others)) ≡ false
free_other stmts_end others = refl
free_other (stmts_more s ss) others = refl

module _ (names : Names) (scope : Scope) (w : Bool) (statement canonical : Statements) (again : StatementAgain names scope w statement canonical) where
  abbrev kept_arms : Arms → Arms
  kept_arms a = said (kept w a.returned) a.it

  abbrev kept_body : Said (List StmtTree) → Said (List StmtTree)
  kept_body body = said (kept w body.returned) body.it

  abbrev arm : Statements → Bool → ℕ → Arms → Grammar (Step Arms Arms)
  arm st states place before =
      choice
      (sequence (labels_form states place) (λ labels. sequence (statements_of st true before.returned) (λ body. gives (onward (with_arm before labels body)))))
      (gives (done before))

  abbrev ArmRounds : Statements → Bool → ℕ → ℕ → Arms → Arms → List Kind → List Kind → Type 0
  ArmRounds st states place = Rounds (λ s. Took (arm st states place s))

  abbrev ArmsAgain : Bool → Arms → Arms → Type 0
  ArmsAgain states before after =
      (new : List Arm) × (after.it ≡ before.it ++ new)
      × ((elsewhere : ℕ) (others : List Kind) → is_if_else true others ≡ false → (j : ℕ) × ArmRounds canonical states elsewhere j (kept_arms before) (kept_arms after) (arms_tokens (arms new) others) others)

  last_arm : (states : Bool) (place : ℕ) (before after : Arms) (ts rest : List Kind) → Took (arm statement states place before) (done after) ts rest → ArmsAgain states before after
  last_arm states place before after ts rest (inl (ls, a, labels, (body, b, took, (is, same)))) = absurd (let e : ◌≡◌ {A = Step Arms Arms} (done after) (onward (with_arm before ls body)) = is in let f : ⊥ = cc in f)
  last_arm states place before after ts rest (inr (is, same)) =
      let e : ◌≡◌ {A = Step Arms Arms} (done after) (done before) = is in
      let h : before ≡ after = cc in
      subst (λ z. ArmsAgain states before z) h ([], sym (append-nil before.it), λ elsewhere others free. (0, inr (refl, refl)))

  next_arm : (states : Bool) (place : ℕ) (before next after : Arms) (ts rest : List Kind) → Took (arm statement states place before) (onward next) ts rest → ArmsAgain states next after → ArmsAgain states before after
  next_arm states place before next after ts rest (inr (is, same)) behind = absurd (let e : ◌≡◌ {A = Step Arms Arms} (onward next) (done before) = is in let f : ⊥ = cc in f)
  next_arm states place before next after ts rest (inl (ls, a, labels, (body, b, took, (is, same)))) behind =
      let e : ◌≡◌ {A = Step Arms Arms} (onward next) (onward (with_arm before ls body)) = is in
      let h : next ≡ with_arm before ls body = cc in
      go (subst (λ z. ArmsAgain states z after) h behind)
    where
      go : ArmsAgain states (with_arm before ls body) after → ArmsAgain states before after
      go (new, all, spells) = (
        (ls, body.it) ∷ new,
        all ∙ append_assoc before.it ((ls, body.it) ∷ []) new,
        λ elsewhere others free.
            (let more = spells elsewhere others free in (
              suc more.0,
              (
                kept_arms (with_arm before ls body),
                arms_tokens (arms new) others,
                inl (
                  ls,
                  _,
                  labels_again states place ls ts a labels elsewhere (stmts_tokens (stmts body.it) (arms_tokens (arms new) others)),
                  (
                    kept_body body,
                    _,
                    statements_again names scope w statement canonical again true before.returned body a b took true (arms_tokens (arms new) others) (free_arms new others free),
                    (refl, refl),
                  ),
                ),
                more.1,
              ),
            )),
      )

  some_arms : (states : Bool) (place k : ℕ) (before after : Arms) (ts rest : List Kind) → ArmRounds statement states place k before after ts rest → ArmsAgain states before after
  some_arms states place zero before after ts rest took = last_arm states place before after ts rest took
  some_arms states place (suc k) before after ts rest (next, mid, took, more) = next_arm states place before next after ts mid took (some_arms states place k next after mid rest more)

  -- all arms
  arms_again : (states : Bool) (place : ℕ) (r : Returned) (all : Arms) (ts rest : List Kind) → Took (arms_form statement states place r) all ts rest
      → (elsewhere : ℕ) (others : List Kind) → is_if_else true others ≡ false → Took (arms_form canonical states elsewhere (kept w r)) (kept_arms all) (arms_tokens (arms all.it) others) others
  arms_again states place r all ts rest (k, took) elsewhere others free =
      by_arms (some_arms states place k (said r []) all ts rest took)
    where
      by_arms : ArmsAgain states (said r []) all → Took (arms_form canonical states elsewhere (kept w r)) (kept_arms all) (arms_tokens (arms all.it) others) others
      by_arms (new, is, spells) = subst (λ xs. Took (arms_form canonical states elsewhere (kept w r)) (kept_arms all) (arms_tokens (arms xs) others) others) (sym is) (spells elsewhere others free)

  -- What is done where no arm has the value.

  EndAgain : Returned → Said (List StmtTree) → List StmtTree → List Kind → Type 0
  EndAgain r body ss others = Took (case_end canonical (kept w r)) (kept_body body) (other_tokens (stmts ss) (sign mark.BlockClose others)) others

  end_spells : (r : Returned) (body : Said (List StmtTree)) (ss : List StmtTree) → body.it ≡ ss → (body.it ≡ [] → body.returned ≡ r)
      → ((others : List Kind) → Took (block_end canonical (kept w r)) (kept_body body) (stmts_tokens (stmts body.it) (sign mark.BlockClose others)) others) → (others : List Kind) → EndAgain r body ss others
  unfolding EndAgain
  end_spells r body [] all empty spells others =
      inr (tt, _, (refl, refl), (ap (λ z. said (kept w z) body.it) (empty all) ∙ ap (λ xs. said (kept w r) xs) all, refl))
  end_spells r body (st ∷ ss) all empty spells others =
      inl (tt, _, (refl, refl), (tt, _, (refl, refl), subst (λ xs. Took (block_end canonical (kept w r)) (kept_body body) (stmts_tokens (stmts xs) (sign mark.BlockClose others)) others) all (spells others)))

  end_again : (r : Returned) (body : Said (List StmtTree)) (ts rest : List Kind) → Took (case_end statement r) body ts rest → (others : List Kind)
      → Took (case_end canonical (kept w r)) (kept_body body) (other_tokens (stmts body.it) (sign mark.BlockClose others)) others
  unfolding EndAgain
  end_again r body ts rest (inl (x, a, word_, (y, b, colon, took))) others =
      end_spells r body body.it refl (empty_block names scope w statement canonical again r body b rest took) (block_again names scope w statement canonical again r body b rest took) others
  end_again r body ts rest (inr (x, a, close, (is, same))) others =
      subst (λ z. Took (case_end canonical (kept w r)) (kept_body z) (other_tokens (stmts z.it) (sign mark.BlockClose others)) others) (sym is) (inr (tt, _, (refl, refl), (refl, refl)))

  abbrev frame : Frame
  frame = record { names = names; scope = scope }

  -- what a `case` is about, and the brace
  subject_again : (n s : ℕ) (subject : Subject) (ts rest : List Kind) → Took (subject_end (at names scope s) n) subject ts rest
      → (m : ℕ) → Within n m → (s' : ℕ) (others : List Kind) → Took (subject_end (at names scope s') m) subject (expr_tokens subject.on (sign mark.BlockOpen others)) others
  subject_again n s subject ts rest (on, a, took, (x, b, open_, (fit, (is, same)))) m v s' others =
      let h : (settled on ≡ None) × (no_case on.ty s ≡ None) = both_none (settled on) _ fit in
      subst (λ (z : Subject). Took (subject_end (at names scope s') m) z (expr_tokens z.on (sign mark.BlockOpen others)) others) (sym is)
      (let whole = (expression_again names scope n s (subject_wanted s) on ts a took (none_settled on.misfit h.0) m v).whole in
      (sound on.tree on.ty whole.0, _, whole.1 s' (subject_wanted s') (is_so _ _ h.1) (sign mark.BlockOpen others) (refl, refl), (tt, _, (refl, refl), (so_again _ _ (is_so _ _ h.1), (refl, refl)))))

  pub case_again : (n m : ℕ) → Within n m → (r : Returned) (one : Said StmtTree) (ts rest : List Kind) → Took (case_form frame (deeper n statement) r) one ts rest → (others : List Kind)
      → Took (case_form frame (deeper m canonical) (kept w r)) (said (kept w one.returned) one.it) (stmt_tokens one.it others) others
  case_again n m v r one ts rest (x, a, word_, (subject, b, about, (all, c, took, (other, d, end, (is, same))))) others =
      subst (λ (z : Said StmtTree). Took (case_form frame (deeper m canonical) (kept w r)) (said (kept w z.returned) z.it) (stmt_tokens z.it others) others) (sym is) (
        tt,
        _,
        (refl, refl),
        (
          subject,
          _,
          subject_again n _ subject a b about m v _ (arms_tokens (arms all.it) (other_tokens (stmts other.it) (sign mark.BlockClose others))),
          (
            kept_arms all,
            _,
            arms_again subject.is_of_states _ r all b c took _ (other_tokens (stmts other.it) (sign mark.BlockClose others)) (free_other (stmts other.it) others),
            (kept_body other, _, end_again all.returned other c d end others, (refl, refl)),
          ),
        ),
      )
