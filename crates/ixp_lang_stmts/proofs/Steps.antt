-- The steps of the readers of statements.
use Rattle.std.proofs.Common.{◌≡◌, ℕ, zero, suc, ◌-◌, Bool, true, false, ◌&&◌, not, List, [], ◌∷◌, ◌++◌, codes, length, Option, Some, None, Ok, Err, refl, sym, ap, ◌∙◌, subst, is_some, arith, Vec, if◌then◌else◌}
use Rattle.std.specs.declared.alloc.Global.{Global}
use Rattle.ixp_lang.specs.Trees.{StmtTree, ExprTree, stmts, arms_more, if_then, block, case_of}
use Rattle.ixp_lang.specs.Views.{expr_view, stmt_view, stmts_view, stmt_step, arms_view}
use Rattle.ixp_lang.specs.declared.expr.Expr.{Expr}
use Rattle.ixp_lang.specs.declared.stmt.Stmt.{Stmt, Block, If}
use Rattle.ixp_lang.specs.declared.stmt.Stmt.TheVariants.{rolls-Block, rolls-If}
use Rattle.ixp_lang.specs.declared.stmt.Stmt.TheOpen.{Stmt-F}
use Rattle.ixp_lang.specs.declared.stmt.Stmt.TheFolds.{fold-roll-Stmt}
use Rattle.ixp_lang.specs.declared.stmt.Label.{Label}
use Rattle.ixp_lang_tokens.specs.declared.fault.Cause.TheVariants.{Deep, Unexpected}
use Rattle.ixp_lang_tokens.specs.declared.fault.Fault.{Fault}
use Rattle.ixp_lang_tokens.specs.declared.fault.Fault.TheVariants.{NoMemory, Stop}
use Rattle.ixp_lang_tokens.specs.declared.token.Kind.{Kind}
use Rattle.ixp_lang_tokens.specs.declared.token.Mark.TheVariants as mark
use Rattle.ixp_lang_tokens.specs.Grammars.{Grammar, gives, sequence, choice, unless, onward, done, Step}
use Rattle.ixp_lang_tokens.specs.Reading.{Read, read, begins, taken, stop, ◌>>=◌, Gives}
use Rattle.ixp_lang_tokens.specs.Pieces.{is_mark, is_word, is_next, behind, if_so}
use Rattle.ixp_lang_stmts.specs.Statements.{Frame, Returned, Said, said, Deeper, nothing, deeper, place_in, is_block, is_there, branch_form, no_branch, else_form, if_form, if_end, case_form, case_body, plain_form, statement_with, statement_form, below, body_form, statement_round, with_statement, arm_round, with_arm, case_end, Statements, arms, Arms, statements_of, labels_form, label_form}
use Rattle.ixp_lang_stmts.specs.Views.{Stops, begins_with, unless_colon, behind_else, else_read, arms_list}
use Rattle.ixp_lang_stmts.proofs.Begins.{begins_same}
use Rattle.ixp_lang_stmts.proofs.Choices.{known, unknown, taken_first, taken_second, deep_known, deep_unknown, not_next}

-- Levels.

pub one_more : (d : ℕ) → (d ≡ 0 → ⊥) → d ≡ suc (d - 1)
one_more zero more = absurd (more refl)
one_more (suc d) more = omega arith

-- the statement of a block
abbrev pub block_read : Said (List StmtTree) × List Kind → Read (Said StmtTree)
block_read a = Ok (said a.0.returned (block (stmts a.0.it)), a.1)

-- the branch that is one statement
abbrev pub branch_read : Said StmtTree × List Kind → Read (Said (List StmtTree))
branch_read a = Ok (said a.0.returned (a.0.it ∷ []), a.1)

module _ (frame : Frame) (in_arm : Bool) (r : Returned) (ts : List Kind) where
  pub block_known : (d b : ℕ) (rest : List Kind) → d ≡ suc b → behind (is_mark mark.BlockOpen) ts ≡ Some rest → read (statement_form frame d in_arm r) ts ≡ (read (body_form frame b r) rest >>= block_read)
  unfolding statement_with
  block_known d b rest same e =
      ap (λ x. read (statement_form frame x in_arm r) ts) same
      ∙ known (is_mark mark.BlockOpen) (sequence (body_form frame b r) (λ body. gives (said body.returned (block (stmts body.it)))))
      (choice (if_form frame (suc b) (deeper b (statement_form frame b)) in_arm r) (choice (case_form frame (deeper b (statement_form frame b)) r) (plain_form frame (suc b) r))) ts rest e

  pub block_deep : (d : ℕ) (rest : List Kind) → d ≡ 0 → behind (is_mark mark.BlockOpen) ts ≡ Some rest → read (statement_form frame d in_arm r) ts ≡ Err (Deep, length ts)
  unfolding statement_with
  block_deep d rest none e =
      ap (λ x. read (statement_form frame x in_arm r) ts) none
      ∙ deep_known (is_mark mark.BlockOpen) (choice (if_form frame 0 nothing in_arm r) (choice (case_form frame nothing r) (plain_form frame 0 r))) ts rest e

  -- what is no block
  abbrev others : ℕ → Grammar (Said StmtTree)
  others d = choice (if_form frame d (below frame d) in_arm r) (choice (case_form frame (below frame d) r) (plain_form frame d r))

  no_block : (d : ℕ) → behind (is_mark mark.BlockOpen) ts ≡ None → read (statement_form frame d in_arm r) ts ≡ read (others d) ts
  unfolding statement_with
  no_block zero e = deep_unknown (is_mark mark.BlockOpen) (others zero) ts e
  no_block (suc b) e = unknown (is_mark mark.BlockOpen) (sequence (body_form frame b r) (λ body. gives (said body.returned (block (stmts body.it))))) (others (suc b)) ts e

  pub if_known : (d : ℕ) (rest : List Kind) → behind (is_mark mark.BlockOpen) ts ≡ None → behind (is_word (codes "if")) ts ≡ Some rest
      → read (statement_form frame d in_arm r) ts ≡ read (if_end (place_in frame (length ts)) frame d (below frame d) in_arm r) rest
  if_known d rest e p =
      no_block d e ∙ known (is_word (codes "if")) (if_end (place_in frame (length ts)) frame d (below frame d) in_arm r) (choice (case_form frame (below frame d) r) (plain_form frame d r)) ts rest p

  -- nor an `if`
  no_if : (d : ℕ) → behind (is_mark mark.BlockOpen) ts ≡ None → behind (is_word (codes "if")) ts ≡ None
      → read (statement_form frame d in_arm r) ts ≡ read (choice (case_form frame (below frame d) r) (plain_form frame d r)) ts
  no_if d e p =
      no_block d e ∙ unknown (is_word (codes "if")) (if_end (place_in frame (length ts)) frame d (below frame d) in_arm r) (choice (case_form frame (below frame d) r) (plain_form frame d r)) ts p

  pub case_known : (d b : ℕ) (rest : List Kind) → d ≡ suc b → behind (is_mark mark.BlockOpen) ts ≡ None → behind (is_word (codes "if")) ts ≡ None → behind (is_word (codes "case")) ts ≡ Some rest
      → read (statement_form frame d in_arm r) ts ≡ read (case_body (place_in frame (length ts)) b (statement_form frame b) r) rest
  case_known d b rest same e p q =
      no_if d e p ∙ ap (λ x. read (choice (case_form frame (below frame x) r) (plain_form frame x r)) ts) same
      ∙ known (is_word (codes "case")) (case_body (place_in frame (length ts)) b (statement_form frame b) r) (plain_form frame (suc b) r) ts rest q

  pub case_deep : (d : ℕ) (rest : List Kind) → d ≡ 0 → behind (is_mark mark.BlockOpen) ts ≡ None → behind (is_word (codes "if")) ts ≡ None → behind (is_word (codes "case")) ts ≡ Some rest
      → read (statement_form frame d in_arm r) ts ≡ Err (Deep, length ts)
  case_deep d rest none e p q =
      no_if d e p ∙ ap (λ x. read (choice (case_form frame (below frame x) r) (plain_form frame x r)) ts) none
      ∙ deep_known (is_word (codes "case")) (plain_form frame 0 r) ts rest q

  no_case_by : (d : ℕ) → behind (is_word (codes "case")) ts ≡ None → read (choice (case_form frame (below frame d) r) (plain_form frame d r)) ts ≡ read (plain_form frame d r) ts
  no_case_by zero q = deep_unknown (is_word (codes "case")) (plain_form frame 0 r) ts q
  no_case_by (suc b) q = unknown (is_word (codes "case")) (case_body (place_in frame (length ts)) b (statement_form frame b) r) (plain_form frame (suc b) r) ts q

  pub plain_known : (d : ℕ) → behind (is_mark mark.BlockOpen) ts ≡ None → behind (is_word (codes "if")) ts ≡ None → behind (is_word (codes "case")) ts ≡ None
      → read (statement_form frame d in_arm r) ts ≡ read (plain_form frame d r) ts
  plain_known d e p q = no_if d e p ∙ no_case_by d q

  -- Branches.

  abbrev single : ℕ → Grammar (Said (List StmtTree))
  single b = unless is_block (sequence (statement_form frame b in_arm r) (λ one. gives (said one.returned (one.it ∷ []))))

  pub branch_block : (d b : ℕ) (rest : List Kind) → d ≡ suc b → behind (is_mark mark.BlockOpen) ts ≡ Some rest → read (branch_form frame (below frame d) in_arm r) ts ≡ read (body_form frame b r) rest
  branch_block d b rest same e =
      ap (λ x. read (branch_form frame (below frame x) in_arm r) ts) same
      ∙ known (is_mark mark.BlockOpen) (body_form frame b r) (single b) ts rest e

  pub branch_one : (d b : ℕ) → d ≡ suc b → behind (is_mark mark.BlockOpen) ts ≡ None → read (branch_form frame (below frame d) in_arm r) ts ≡ (read (statement_form frame b in_arm r) ts >>= branch_read)
  branch_one d b same e =
      ap (λ x. read (branch_form frame (below frame x) in_arm r) ts) same
      ∙ unknown (is_mark mark.BlockOpen) (body_form frame b r) (single b) ts e
      ∙ ap (λ t. if t then stop Unexpected ts else (read (statement_form frame b in_arm r) ts >>= branch_read)) (not_next (is_mark mark.BlockOpen) ts e)

stopped : {A : Type 0} (fault : Fault) (r : Read A) → Stops fault r → Gives {X = A × List Kind} (λ x. x) (Err fault) r
stopped NoMemory r h = absurd h
stopped (Stop cause left) r h = h

pub branch_deep : (frame : Frame) (in_arm : Bool) (r : Returned) (ts : List Kind) (d : ℕ) (fault : Fault) → d ≡ 0 → Stops fault (read (no_branch {A = Said (List StmtTree)} frame) ts)
    → Gives {X = Said (List StmtTree) × List Kind} (λ x. x) (Err fault) (read (branch_form frame (below frame d) in_arm r) ts)
branch_deep frame in_arm r ts d fault none h =
    subst (λ x. Gives {X = Said (List StmtTree) × List Kind} (λ x. x) (Err fault) (read (branch_form frame (below frame x) in_arm r) ts)) (sym none) (stopped fault _ h)

-- What an `if` does else.

inside : {A : Type 0} (t : Bool) (ts : List Kind) (s u v w : Read A) (h : Option (List Kind) → Read A) → h None ≡ v → h (Some ts) ≡ w
    → (if not t && true then (if t then s else w) else (if not t then u else v)) ≡ h (if t then None else Some ts)
inside true ts s u v w h p q = sym p
inside false ts s u v w h p q = sym q

abbrev colon : List Kind → Bool
colon = is_next (is_mark mark.Colon)

else_by : {A : Type 0} (b in_arm : Bool) (ts : List Kind) (s u v : Read A) (f : Unit {0} × List Kind → Read A) (h : Option (List Kind) → Read A) → h None ≡ v → h (Some ts) ≡ f (tt, ts)
    → (if not (in_arm && is_there (if b then Some ts else None) colon) && is_some (if_so b) then (if in_arm && is_there (if b then Some ts else None) colon then s else (taken (if_so b) ts >>= f))
    else (if b && not (in_arm && is_there (if b then Some ts else None) colon) then u else v))
    ≡ h (unless_colon in_arm (if b then Some ts else None))
else_by true true ts s u v f h p q = inside (colon ts) ts s u v (f (tt, ts)) h p q
else_by true false ts s u v f h p q = sym q
else_by false true ts s u v f h p q = sym p
else_by false false ts s u v f h p q = sym p

abbrev pub if_read : ExprTree → List StmtTree → Said (List StmtTree) × List Kind → Read (Said StmtTree)
if_read test chosen a = Ok (said a.0.returned (if_then test (stmts chosen) (stmts a.0.it)), a.1)

pub else_parts : (frame : Frame) (inner : Deeper) (in_arm : Bool) (test : ExprTree) (chosen : Said (List StmtTree)) (ts : List Kind)
    → read (else_form frame inner in_arm test chosen) ts ≡ (else_read frame inner in_arm chosen.returned ts (behind_else in_arm ts) >>= if_read test chosen.it)
else_parts frame inner true test chosen [] = refl
else_parts frame inner false test chosen [] = refl
else_parts frame inner in_arm test chosen (k ∷ ts) =
    else_by (is_word (codes "else") k) in_arm ts _ _ _ (λ a. read (branch_form frame inner in_arm chosen.returned) a.1 >>= if_read test chosen.it)
    (λ o. else_read frame inner in_arm chosen.returned (k ∷ ts) o >>= if_read test chosen.it) refl refl

-- Rounds.

pub views_more : (xs : List Stmt) (s : Stmt) → stmts_view (xs ++ s ∷ []) ≡ stmts_view xs ++ stmt_view s ∷ []
views_more [] s = refl
views_more (x ∷ xs) s = ap (λ ys. stmt_view x ∷ ys) (views_more xs s)

pub arms_more_view : (xs : List (List Label × Vec Stmt Global)) (a : List Label × Vec Stmt Global) → arms_list (xs ++ a ∷ []) ≡ arms_list xs ++ (a.0, stmts_view a.1.items) ∷ []
arms_more_view [] a = refl
arms_more_view (x ∷ xs) a = ap (λ ys. (x.0, stmts_view x.1.items) ∷ ys) (arms_more_view xs a)

pub view-Block : (body : Vec Stmt Global) → stmt_view (Block body) ≡ block (stmts (stmts_view body.items))
view-Block body = ap stmt_view (sym (rolls-Block body)) ∙ fold-roll-Stmt StmtTree stmt_step (Stmt-F.Block body)

pub view-If : (test : Expr) (chosen others : Vec Stmt Global) → stmt_view (If test chosen others) ≡ if_then (expr_view test) (stmts (stmts_view chosen.items)) (stmts (stmts_view others.items))
view-If test chosen others = ap stmt_view (sym (rolls-If test chosen others)) ∙ fold-roll-Stmt StmtTree stmt_step (Stmt-F.If test chosen others)

pub arms_same : (xs : List (List Label × Vec Stmt Global)) → arms (arms_list xs) ≡ arms_view xs
arms_same [] = refl
arms_same (a ∷ xs) = ap (arms_more a.0 (stmts (stmts_view a.1.items))) (arms_same xs)

abbrev pub one_read : Said (List StmtTree) → Said StmtTree × List Kind → Read (Step (Said (List StmtTree)) (Said (List StmtTree)))
one_read before a = Ok (onward (with_statement before a.0), a.1)

module _ (frame : Frame) (d : ℕ) (in_arm : Bool) (before : Said (List StmtTree)) (ts : List Kind) where
  pub round_more : is_next begins_with ts ≡ true → read (statement_round (statement_form frame d) in_arm before) ts ≡ (read (statement_form frame d in_arm before.returned) ts >>= one_read before)
  round_more e =
      taken_first (sequence (statement_form frame d in_arm before.returned) (λ one. gives (onward (with_statement before one)))) (gives (done before)) ts
      (begins_same frame d in_arm before.returned ts ∙ e)

  pub round_ends : is_next begins_with ts ≡ false → read (statement_round (statement_form frame d) in_arm before) ts ≡ Ok (done before, ts)
  round_ends e =
      taken_second (sequence (statement_form frame d in_arm before.returned) (λ one. gives (onward (with_statement before one)))) (gives (done before)) ts
      (begins_same frame d in_arm before.returned ts ∙ e)

abbrev pub arm_read : Arms → List Label → Said (List StmtTree) × List Kind → Read (Step Arms Arms)
arm_read before labels a = Ok (onward (with_arm before labels a.0), a.1)

-- the arm behind its labels
abbrev pub labelled_read : Frame → ℕ → Arms → List Label × List Kind → Read (Step Arms Arms)
labelled_read frame d before a = read (statements_of (statement_form frame d) true before.returned) a.1 >>= arm_read before a.0

module _ (frame : Frame) (d : ℕ) (is_of_states : Bool) (place : ℕ) (before : Arms) (ts : List Kind) where
  pub arm_more : begins (label_form true 0) ts ≡ true → read (arm_round (statement_form frame d) is_of_states place before) ts ≡ (read (labels_form is_of_states place) ts >>= labelled_read frame d before)
  arm_more e =
      taken_first
      (sequence (labels_form is_of_states place) (λ labels. sequence (statements_of (statement_form frame d) true before.returned) (λ body. gives (onward (with_arm before labels body)))))
      (gives (done before)) ts e

  pub arms_end_here : begins (label_form true 0) ts ≡ false → read (arm_round (statement_form frame d) is_of_states place before) ts ≡ Ok (done before, ts)
  arms_end_here e =
      taken_second
      (sequence (labels_form is_of_states place) (λ labels. sequence (statements_of (statement_form frame d) true before.returned) (λ body. gives (onward (with_arm before labels body)))))
      (gives (done before)) ts e

-- A `case`, behind what it is about and behind its arms.

abbrev pub case_read : ExprTree → List (List Label × List StmtTree) → Said (List StmtTree) × List Kind → Read (Said StmtTree)
case_read on some_arms a = Ok (said a.0.returned (case_of on (arms some_arms) (stmts a.0.it)), a.1)

abbrev pub arms_read : Statements → ExprTree → Arms × List Kind → Read (Said StmtTree)
arms_read statement on a = read (case_end statement a.0.returned) a.1 >>= case_read on a.0.it
