-- The steps of the readers of operands, comparisons and chains.
use Rattle.std.proofs.Common.{◌≡◌, ℕ, zero, suc, Bool, true, false, List, [], ◌∷◌, length, Option, Some, None, Result, Ok, Err, refl, sym, ap, ◌∙◌, subst, is_some, if◌then◌else◌}
use Rattle.std.specs.Option.{option_or}
use Rattle.ixp_lang_tokens.specs.declared.fault.Cause.{Cause}
use Rattle.ixp_lang_tokens.specs.declared.fault.Cause.TheVariants.{Deep}
use Rattle.ixp_lang_tokens.specs.declared.fault.Fault.{Fault}
use Rattle.ixp_lang_tokens.specs.declared.fault.Fault.TheVariants.{NoMemory, Stop}
use Rattle.ixp_lang_tokens.specs.declared.token.Kind.{Kind}
use Rattle.ixp_lang_tokens.specs.declared.token.Mark.TheVariants as mark
use Rattle.ixp_lang_tokens.specs.Grammars.{Grammar, takes, sequence, choice, checks, gives, rounds}
use Rattle.ixp_lang_tokens.specs.Reading.{Read, read, read_rounds, checked, ◌>>=◌, Gives}
use Rattle.ixp_lang_tokens.specs.Pieces.{the_mark, is_mark, behind, if_so}
use Rattle.ixp_lang.specs.declared.expr.Op.{Op}
use Rattle.ixp_lang_exprs.specs.Answers.{Refuses, Leads, Passes}
use Rattle.ixp_lang_exprs.specs.Lists.{first_in}
use Rattle.ixp_lang_exprs.specs.declared.wanted.Wanted.{Wanted}
use Rattle.ixp_lang_exprs.specs.Operands.{Operand, fits, fits_left, anything, in_vain, no_truth, refused_now, compared_operand}
use Rattle.ixp_lang_exprs.specs.Expressions.{Place, unary_form, comparison_of, expression_of, operator_in, chain_of, chain_part, begun_with}
use Rattle.ixp_lang_exprs.specs.Joints.{joint_in, joint_mark, other_mark, joined_by}
use Rattle.ixp_lang_exprs.specs.declared.operator.Joint.{Joint}
use Rattle.ixp_lang_exprs.specs.declared.operator.Joint.TheVariants as joint
use Rattle.ixp_lang_exprs.specs.declared.types.ValueType.TheVariants.{Bool as Truth}
use Rattle.ixp_lang.specs.Trees.{conjunction, disjunction}
use Rattle.ixp_lang_exprs.proofs.Firsts.{first_known, first_unknown}
use Rattle.ixp_lang_exprs.proofs.Levels.{not_last}

-- a fault of a test is the whole's
pub refused : {A : Type 0} (fault : Fault) (o : Option (Cause × ℕ)) (r : Read A) → Refuses (Err fault) o → Gives {X = A × List Kind} (λ x. x) (Err fault) (checked o r)
refused NoMemory o r h = absurd h
refused (Stop cause left) o r h = ap (λ x. checked x r) h

-- what leads to a fault gives it
pub leads_to : {X A : Type 0} (next : X → Read A) (fault : Fault) (r : Read A) → Leads next (Err fault) r → Gives {X = A × List Kind} (λ x. x) (Err fault) r
leads_to next NoMemory r h = tt
leads_to next (Stop cause left) r h = h

-- what hinders a making is the whole's
pub hindered : {X M A : Type 0} (view : X → M) (made : M) (fault : Fault) (o : Option (Cause × ℕ)) (r : Read A) → Passes view (Err fault) o made → Gives {X = A × List Kind} (λ x. x) (Err fault) (checked o r)
hindered view made NoMemory o r h = tt
hindered view made (Stop cause left) o r h = ap (λ x. checked x r) h

pub not_at_last : (at : Place) (d : ℕ) (wanted : Wanted) (ts rest : List Kind) → d ≡ 0 → behind (is_mark mark.Not) ts ≡ Some rest → read (unary_form at d wanted) ts ≡ Err (Deep, length ts)
not_at_last at d wanted ts rest none e = ap (λ x. read (unary_form at x wanted) ts) none ∙ not_last at wanted ts rest e

-- what is read where one thing is wanted, for another name of it
pub at_wanted : {A : Type 0} (g : Wanted → Grammar A) (ts : List Kind) (P : Read A → Type 0) {v w : Wanted} → v ≡ w → P (read (g v) ts) → P (read (g w) ts)
at_wanted g ts P e p = subst (λ w. P (read (g w) ts)) e p

module _ (unary : Wanted → Grammar Operand) (wanted : Wanted) where
  -- what is read of the operand on the right, whose operator is at the place
  abbrev pub right_read : Op → Operand → ℕ → Operand × List Kind → Read Operand
  right_read op left place a = read (checks (refused_now op left a.0 place) (gives (compared_operand op left a.0 place))) a.1

  -- the tests of the operand on the left, whose operator is at the place
  abbrev pub left_fault : Op → Operand → ℕ → Option (Cause × ℕ)
  left_fault op left place = option_or (fits_left op left place) (no_truth wanted)

  abbrev pub right_form : Operand → ℕ → Op → Grammar Operand
  right_form left place op = checks (left_fault op left place) (sequence (unary anything) (λ right. checks (refused_now op left right place) (gives (compared_operand op left right place))))

  abbrev pub after_left : Operand → ℕ → Grammar Operand
  after_left left place = choice (sequence (takes operator_in) (right_form left place)) (gives left)

  -- the operand on the left, and what is behind it
  abbrev pub left_read : Operand × List Kind → Read Operand
  left_read a = checked (in_vain wanted a.0) (read (after_left a.0 (length a.1)) a.1)

  pub in_vain_known : (ts rest : List Kind) (left : Operand) → read (unary wanted) ts ≡ Ok (left, rest) → read (comparison_of unary wanted) ts ≡ checked (in_vain wanted left) (read (after_left left (length rest)) rest)
  in_vain_known ts rest left p = ap (λ r. r >>= left_read) p

  passed : (ts rest : List Kind) (left : Operand) → read (unary wanted) ts ≡ Ok (left, rest) → in_vain wanted left ≡ None → read (comparison_of unary wanted) ts ≡ read (after_left left (length rest)) rest
  passed ts rest left p none = in_vain_known ts rest left p ∙ ap (λ o. checked o (read (after_left left (length rest)) rest)) none

  pub operator_known : (ts rest others : List Kind) (left : Operand) (op : Op) (place : ℕ) → place ≡ length rest → read (unary wanted) ts ≡ Ok (left, rest) → in_vain wanted left ≡ None → first_in operator_in rest ≡ Some (op, others)
      → read (comparison_of unary wanted) ts ≡ checked (left_fault op left place) (read (unary anything) others >>= right_read op left place)
  operator_known ts rest others left op place same p none q =
      passed ts rest left p none ∙ first_known operator_in (right_form left (length rest)) (gives left) rest op others q
      ∙ ap (λ n. checked (left_fault op left n) (read (unary anything) others >>= right_read op left n)) (sym same)

  pub operator_unknown : (ts rest : List Kind) (left : Operand) → read (unary wanted) ts ≡ Ok (left, rest) → in_vain wanted left ≡ None → first_in operator_in rest ≡ None → read (comparison_of unary wanted) ts ≡ Ok (left, rest)
  operator_unknown ts rest left p none q = passed ts rest left p none ∙ first_unknown operator_in (right_form left (length rest)) (gives left) rest q

and_by : (a b : Bool) (q r s : Read Operand) → (if a then Some joint.And else (if b then Some joint.Or else None)) ≡ Some joint.And → (if is_some (if_so a) then q else (if is_some (if_so b) then r else s)) ≡ q
and_by true b q r s e = refl
and_by false true q r s e = absurd cc
and_by false false q r s e = absurd cc

or_by : (a b : Bool) (q r s : Read Operand) → (if a then Some joint.And else (if b then Some joint.Or else None)) ≡ Some joint.Or → (if is_some (if_so a) then q else (if is_some (if_so b) then r else s)) ≡ r
or_by true b q r s e = absurd cc
or_by false true q r s e = refl
or_by false false q r s e = absurd cc

neither_by : (a b : Bool) (q r s : Read Operand) → (if a then Some joint.And else (if b then Some joint.Or else None)) ≡ None → (if is_some (if_so a) then q else (if is_some (if_so b) then r else s)) ≡ s
neither_by true b q r s e = absurd cc
neither_by false true q r s e = absurd cc
neither_by false false q r s e = refl

-- what follows the joint that is next
pub joint_next : (u : Wanted → Grammar Operand) (first : Operand) (place : ℕ) (ts : List Kind) (j : Joint) → joint_in ts ≡ Some j
    → read (choice (chain_of u mark.And mark.Or conjunction first place) (choice (chain_of u mark.Or mark.And disjunction first place) (gives first))) ts
    ≡ read (chain_of u (joint_mark j) (other_mark j) (joined_by j) first place) ts
joint_next u first place [] j e = absurd cc
joint_next u first place (k ∷ ts) joint.And e =
    and_by (is_mark mark.And k) (is_mark mark.Or k) (read (chain_of u mark.And mark.Or conjunction first place) (k ∷ ts)) (read (chain_of u mark.Or mark.And disjunction first place) (k ∷ ts)) (Ok (first, k ∷ ts)) e
joint_next u first place (k ∷ ts) joint.Or e =
    or_by (is_mark mark.And k) (is_mark mark.Or k) (read (chain_of u mark.And mark.Or conjunction first place) (k ∷ ts)) (read (chain_of u mark.Or mark.And disjunction first place) (k ∷ ts)) (Ok (first, k ∷ ts)) e

pub no_joint : (u : Wanted → Grammar Operand) (first : Operand) (place : ℕ) (ts : List Kind) → joint_in ts ≡ None
    → read (choice (chain_of u mark.And mark.Or conjunction first place) (choice (chain_of u mark.Or mark.And disjunction first place) (gives first))) ts ≡ Ok (first, ts)
no_joint u first place [] e = refl
no_joint u first place (k ∷ ts) e =
    neither_by (is_mark mark.And k) (is_mark mark.Or k) (read (chain_of u mark.And mark.Or conjunction first place) (k ∷ ts)) (read (chain_of u mark.Or mark.And disjunction first place) (k ∷ ts)) (Ok (first, k ∷ ts)) e

-- the rounds of the chain, once its joint is read and its first part fits
pub chain_begins : (u : Wanted → Grammar Operand) (j : Joint) (first : Operand) (place : ℕ) (ts left : List Kind) → read (the_mark (joint_mark j)) ts ≡ Ok (tt, left) → fits first Truth place ≡ None
    → read (chain_of u (joint_mark j) (other_mark j) (joined_by j) first place) ts
    ≡ read_rounds (length left) (λ c ts. read (chain_part u (joint_mark j) (other_mark j) (joined_by j) c) ts) (begun_with first place) left
chain_begins u j first place ts left p q =
    ap (λ r. r >>= λ a. read (checks (fits first Truth place) (rounds (chain_part u (joint_mark j) (other_mark j) (joined_by j)) (begun_with first place))) a.1) p
    ∙ ap (λ o. checked o (read (rounds (chain_part u (joint_mark j) (other_mark j) (joined_by j)) (begun_with first place)) left)) q

pub expression_joint : (u : Wanted → Grammar Operand) (w : Wanted) (ts rest : List Kind) (first : Operand) (j : Joint) (place : ℕ) → place ≡ length rest → read (comparison_of u w) ts ≡ Ok (first, rest) → joint_in rest ≡ Some j
    → read (expression_of u w) ts ≡ read (chain_of u (joint_mark j) (other_mark j) (joined_by j) first place) rest
expression_joint u w ts rest first j place same p q =
    ap (λ r. r >>= λ a. read (choice (chain_of u mark.And mark.Or conjunction a.0 (length a.1)) (choice (chain_of u mark.Or mark.And disjunction a.0 (length a.1)) (gives a.0))) a.1) p
    ∙ joint_next u first (length rest) rest j q ∙ ap (λ n. read (chain_of u (joint_mark j) (other_mark j) (joined_by j) first n) rest) (sym same)

pub expression_alone : (u : Wanted → Grammar Operand) (w : Wanted) (ts rest : List Kind) (first : Operand) → read (comparison_of u w) ts ≡ Ok (first, rest) → joint_in rest ≡ None → read (expression_of u w) ts ≡ Ok (first, rest)
expression_alone u w ts rest first p q =
    ap (λ r. r >>= λ a. read (choice (chain_of u mark.And mark.Or conjunction a.0 (length a.1)) (choice (chain_of u mark.Or mark.And disjunction a.0 (length a.1)) (gives a.0))) a.1) p
    ∙ no_joint u first (length rest) rest q
