-- Of two alternatives, one of which begins with a token of a class, that token decides.
use Rattle.std.proofs.Common.{◌≡◌, ℕ, suc, Bool, true, false, List, [], ◌∷◌, length, Option, Some, None, option_map, refl, sym, ap, ◌∙◌, if◌then◌else◌, is_some, Result}
use Rattle.ixp_lang_tokens.specs.declared.fault.Fault.{Fault}
use Rattle.ixp_lang_tokens.specs.declared.token.Kind.{Kind}
use Rattle.ixp_lang_tokens.specs.declared.token.Token.{Token}
use Rattle.ixp_lang_tokens.specs.Grammars.{Grammar, takes, sequence, choice}
use Rattle.ixp_lang_tokens.specs.Reading.{Read, read, taken, kinds, ◌>>=◌}
use Rattle.ixp_lang_exprs.specs.Lists.{first_in}

pub kinds_length : (tokens : List Token) → length (kinds tokens) ≡ length tokens
kinds_length [] = refl
kinds_length (t ∷ ts) = ap suc (kinds_length ts)

pub some_is : {A : Type 0} (x y : A) → ◌≡◌ {A = Option A} (Some x) (Some y) → x ≡ y
some_is x y e = cc

known_by : {A B : Type 0} (o : Option B) (ts rest : List Kind) (b : B) (f : B × List Kind → Read A) (r : Read A) → option_map {U = B × List Kind} (λ a. (a, ts)) o ≡ Some (b, rest)
    → (if is_some o then (taken o ts >>= f) else r) ≡ f (b, rest)
known_by (Some a) ts rest b f r e = ap f (some_is (a, ts) (b, rest) e)
known_by None ts rest b f r e = absurd cc

unknown_by : {A B : Type 0} (o : Option B) (ts : List Kind) (q r : Read A) → option_map {U = B × List Kind} (λ a. (a, ts)) o ≡ None → (if is_some o then q else r) ≡ r
unknown_by (Some a) ts q r e = absurd cc
unknown_by None ts q r e = refl

module _ {A B : Type 0} (class : Kind → Option B) (f : B → Grammar A) (g : Grammar A) where
  pub first_known : (ts : List Kind) (b : B) (rest : List Kind) → first_in class ts ≡ Some (b, rest) → read (choice (sequence (takes class) f) g) ts ≡ read (f b) rest
  first_known [] b rest e = absurd cc
  first_known (k ∷ ts) b rest e = known_by (class k) ts rest b (λ a. read (f a.0) a.1) (read g (k ∷ ts)) e

  pub first_unknown : (ts : List Kind) → first_in class ts ≡ None → read (choice (sequence (takes class) f) g) ts ≡ read g ts
  first_unknown [] e = refl
  first_unknown (k ∷ ts) e = unknown_by (class k) ts (taken (class k) ts >>= λ a. read (f a.0) a.1) (read g (k ∷ ts)) e
