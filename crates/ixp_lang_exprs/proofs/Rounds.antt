-- Rounds, one after the other, with a bound on their number.
use Rattle.std.proofs.Common.{◌≡◌, ℕ, zero, suc, ◌<◌, ◌≤◌, ◌-◌, ◌+◌, List, [], ◌∷◌, length, Result, Ok, Err, refl, sym, ap, ◌∙◌, arith, subst}
use Rattle.ixp_lang_tokens.specs.declared.token.Kind.{Kind}
use Rattle.ixp_lang_tokens.specs.declared.fault.Cause.{Cause}
use Rattle.ixp_lang_tokens.specs.declared.fault.Cause.TheVariants.{Unexpected}
use Rattle.ixp_lang_tokens.specs.declared.fault.Fault.{Fault}
use Rattle.ixp_lang_tokens.specs.declared.fault.Fault.TheVariants.{NoMemory, Stop}
use Rattle.ixp_lang_tokens.specs.Grammars.{Step, onward, done}
use Rattle.ixp_lang_tokens.specs.Reading.{Read, ◌>>=◌, stop, stepped, read_rounds, Gives}

module _ {S A : Type 0} (round : S → List Kind → Read (Step S A)) where
  -- the round that is the last
  pub ends : (k : ℕ) (s : S) (ts rest : List Kind) (v : A) → round s ts ≡ Ok (done v, rest) → read_rounds k round s ts ≡ Ok (v, rest)
  ends zero s ts rest v e = ap (λ r. r >>= stepped (λ t others. stop Unexpected others)) e
  ends (suc k) s ts rest v e = ap (λ r. r >>= stepped (read_rounds k round)) e

  -- a fault in a round
  pub fails : (k : ℕ) (s : S) (ts : List Kind) (fault : Cause × ℕ) → round s ts ≡ Err fault → read_rounds k round s ts ≡ Err fault
  fails zero s ts fault e = ap (λ r. r >>= stepped (λ t others. stop Unexpected others)) e
  fails (suc k) s ts fault e = ap (λ r. r >>= stepped (read_rounds k round)) e

  -- what a round leaves is read on, with a bound that is enough: the round took a token
  pub record GoesOn (k n : ℕ) (s t : S) (ts rest : List Kind) : Type 0 where
    pub bound : ℕ
    pub enough : n ≤ bound
    pub same : read_rounds bound round t rest ≡ read_rounds k round s ts

  pub goes_on : (k m n : ℕ) (s t : S) (ts rest : List Kind) → m ≤ k → n < m → round s ts ≡ Ok (onward t, rest) → GoesOn k n s t ts rest
  goes_on zero m n s t ts rest enough less e = absurd (omega arith)
  goes_on (suc k) m n s t ts rest enough less e = record { bound = k; enough = omega arith; same = sym (ap (λ r. r >>= stepped (read_rounds k round)) e) }

-- A fault is passed on.
pub passed_on : {A B : Type 0} (fault : Fault) (r : Read A) (f : A × List Kind → Read B)
    → Gives {X = A × List Kind} (λ x. x) (Err fault) r → Gives {X = B × List Kind} (λ x. x) (Err fault) (r >>= f)
passed_on NoMemory r f g = tt
passed_on (Stop cause left) r f g = ap (λ x. x >>= f) g

-- a fault in a round is the whole's
pub round_fails : {S A : Type 0} (round : S → List Kind → Read (Step S A))
    (k : ℕ) (s : S) (ts : List Kind) (whole : Read A) → read_rounds k round s ts ≡ whole
    → (fault : Fault) → Gives {X = Step S A × List Kind} (λ x. x) (Err fault) (round s ts) → Gives {X = A × List Kind} (λ x. x) (Err fault) whole
round_fails round k s ts whole same NoMemory g = tt
round_fails round k s ts whole same (Stop cause left) g = sym same ∙ fails round k s ts (cause, left) g
