-- The first step of what stands in parentheses, of a chain, and of what a want of memory ends.
use Rattle.std.proofs.Common.{◌≡◌, ◌<◌, ◌+◌, ℕ, Bool, true, false, List, [], ◌∷◌, length, Option, Some, None, Ok, Err, refl, sym, ap, subst, is_some, if◌then◌else◌, arith}
use Rattle.ixp_lang_tokens.specs.declared.fault.Cause.{Cause}
use Rattle.ixp_lang_tokens.specs.declared.fault.Fault.{Fault}
use Rattle.ixp_lang_tokens.specs.declared.fault.Fault.TheVariants.{NoMemory, Stop}
use Rattle.ixp_lang_tokens.specs.declared.token.Kind.{Kind}
use Rattle.ixp_lang_tokens.specs.declared.token.Mark.TheVariants as mark
use Rattle.ixp_lang_tokens.specs.Grammars.{Grammar, choice, gives, checks, rounds}
use Rattle.ixp_lang_tokens.specs.Reading.{Read, read, read_rounds, checked, taken, ◌>>=◌, Gives}
use Rattle.ixp_lang_tokens.specs.Pieces.{the_mark, is_mark, if_so}
use Rattle.ixp_lang_exprs.specs.Answers.{Makes, Begun}
use Rattle.ixp_lang_exprs.specs.declared.group.Shape.{Shape as HeldShape}
use Rattle.ixp_lang_exprs.specs.declared.group.Shape.TheVariants.{Plain, Call, RoaCheck}
use Rattle.ixp_lang_exprs.specs.declared.operator.Joint.{Joint}
use Rattle.ixp_lang_exprs.specs.declared.types.ValueType.TheVariants.{Bool as Truth}
use Rattle.ixp_lang_exprs.specs.declared.wanted.Wanted.{Wanted}
use Rattle.ixp_lang_exprs.specs.Operands.{Operand, fits, misfit_at}
use Rattle.ixp_lang_exprs.specs.Expressions.{Place, Shape, plain, arguments, roa_values, Parts, no_parts, part_form, some_parts, enclosed, chain_of, chain_part, begun_with}
use Rattle.ixp_lang_exprs.specs.Groups.{partless, limit}
use Rattle.ixp_lang_exprs.specs.Joints.{joint_mark, other_mark, joined_by}
use Rattle.ixp_lang.specs.Trees.{conjunction, disjunction}
use Rattle.ixp_lang_exprs.proofs.Firsts.{some_is}

closed_by : (b : Bool) (fault : Cause × ℕ) (ts : List Kind) (q r : Read Parts) → ◌≡◌ {A = Option (Read Parts)} (if b then Some (Err fault) else None) (Some r)
    → (if is_some (if_so b) then (taken (if_so b) ts >>= λ a. Err fault) else q) ≡ r
closed_by true fault ts q r e = some_is (Err fault) r e
closed_by false fault ts q r e = absurd cc

open_by : (b : Bool) (fault : Cause × ℕ) (p q : Read Parts) → ◌≡◌ {A = Option (Read Parts)} (if b then Some (Err fault) else None) None
    → (if is_some (if_so b) then p else q) ≡ q
open_by true fault p q e = absurd cc
open_by false fault p q e = refl

module _ (at : Place) (expression : Wanted → Grammar Operand) where
  -- what is told of a group that may have no part is what is read
  pub told_whole : (shape : Shape) (place : ℕ) (ts : List Kind) (r : Read Parts) → partless at shape place ts ≡ Some r → read (enclosed at expression shape place) ts ≡ r
  told_whole (arguments []) place ts r e = some_is (read (enclosed at expression (arguments []) place) ts) r e
  told_whole (arguments (p ∷ ps)) place [] r e = absurd cc
  told_whole (arguments (p ∷ ps)) place (k ∷ ts) r e =
      closed_by (is_mark mark.Close k) (misfit_at place) ts (read (some_parts expression (arguments (p ∷ ps)) place) (k ∷ ts)) r e
  told_whole plain place ts r e = absurd cc
  told_whole roa_values place ts r e = absurd cc

  pub told_fault : {X : Type 0} (view : X → Parts × List Kind) (shape : Shape) (place : ℕ) (ts : List Kind) (fault : Fault) → Begun view (Err fault) (partless at shape place ts)
      → Gives {X = Parts × List Kind} (λ x. x) (Err fault) (read (enclosed at expression shape place) ts)
  told_fault view shape place ts NoMemory h = tt
  told_fault view shape place ts (Stop cause left) h = told_whole shape place ts (Err (cause, left)) h

  -- and where nothing is told, its parts are read
  pub untold : (shape : Shape) (place : ℕ) (ts : List Kind) → partless at shape place ts ≡ None
      → read (enclosed at expression shape place) ts ≡ read_rounds (length ts) (λ s ts. read (part_form expression shape place s) ts) (no_parts (length ts)) ts
  untold (arguments []) place ts e = absurd cc
  untold (arguments (p ∷ ps)) place [] e = refl
  untold (arguments (p ∷ ps)) place (k ∷ ts) e =
      open_by (is_mark mark.Close k) (misfit_at place) _ (read (some_parts expression (arguments (p ∷ ps)) place) (k ∷ ts)) e
  untold plain place ts e = refl
  untold roa_values place ts e = refl

room_at : (shape : HeldShape) → 0 + 1 < limit shape 0
room_at Plain = omega arith
room_at (Call signature) = omega arith
room_at RoaCheck = omega arith

-- there is room for a first part
pub room_first : {A : Type 0} (shape : HeldShape) (xs : List A) → xs ≡ [] → length xs + 1 < limit shape (length xs)
room_first shape xs e = subst (λ ys. length ys + 1 < limit shape (length ys)) (sym e) (room_at shape)

-- only want of memory hinders a making
pub unmade : {X M A : Type 0} (view : X → M) (m : M) (fault : Fault) (r : Read A) → Makes view (Err fault) m → Gives {X = A × List Kind} (λ x. x) (Err fault) r
unmade view m NoMemory r h = tt
unmade view m (Stop cause left) r h = absurd h

-- behind the joint of a chain its first part is tested
pub chain_tests : (u : Wanted → Grammar Operand) (j : Joint) (first : Operand) (place : ℕ) (ts left : List Kind) → read (the_mark (joint_mark j)) ts ≡ Ok (tt, left)
    → read (chain_of u (joint_mark j) (other_mark j) (joined_by j) first place) ts
    ≡ checked (fits first Truth place) (read (rounds (chain_part u (joint_mark j) (other_mark j) (joined_by j)) (begun_with first place)) left)
chain_tests u j first place ts left p =
    ap (λ r. r >>= λ a. read (checks (fits first Truth place) (rounds (chain_part u (joint_mark j) (other_mark j) (joined_by j)) (begun_with first place))) a.1) p

-- what follows the first comparison
abbrev pub after_first : (Wanted → Grammar Operand) → Operand → ℕ → Grammar Operand
after_first u first place =
    choice (chain_of u mark.And mark.Or conjunction first place)
    (choice (chain_of u mark.Or mark.And disjunction first place)
    (gives first))
