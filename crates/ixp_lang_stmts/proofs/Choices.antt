-- Of two alternatives, one of which begins with a mark or a keyword, that token decides.
use Rattle.std.proofs.Common.{◌≡◌, ℕ, suc, Bool, true, false, ◌||◌, List, [], ◌∷◌, length, Option, Some, None, Err, refl, ap, is_some, if◌then◌else◌}
use Rattle.ixp_lang_tokens.specs.declared.fault.Cause.TheVariants.{Deep}
use Rattle.ixp_lang_tokens.specs.declared.token.Kind.{Kind}
use Rattle.ixp_lang_tokens.specs.Grammars.{Grammar, takes, sequence, choice, bars}
use Rattle.ixp_lang_tokens.specs.Reading.{Read, read, begins, taken, ◌>>=◌}
use Rattle.ixp_lang_tokens.specs.Pieces.{is_next, behind, if_so}
use Rattle.ixp_lang_exprs.specs.Lists.{never}

some_is : {A : Type 0} (x y : A) → ◌≡◌ {A = Option A} (Some x) (Some y) → x ≡ y
some_is x y e = cc

known_by : {A : Type 0} (b : Bool) (ts rest : List Kind) (f : List Kind → Read A) (r : Read A) → (if b then Some ts else None) ≡ Some rest
    → (if is_some (if_so b) then (taken (if_so b) ts >>= λ a. f a.1) else r) ≡ f rest
known_by true ts rest f r e = ap f (some_is ts rest e)
known_by false ts rest f r e = absurd cc

unknown_by : {A : Type 0} (b : Bool) (ts : List Kind) (q r : Read A) → ◌≡◌ {A = Option (List Kind)} (if b then Some ts else None) None → (if is_some (if_so b) then q else r) ≡ r
unknown_by true ts q r e = absurd cc
unknown_by false ts q r e = refl

deep_by : {A : Type 0} (b : Bool) (ts rest : List Kind) (n : ℕ) (q r : Read A) → (if b then Some ts else None) ≡ Some rest → (if b || false then (if b then Err (Deep, n) else q) else r) ≡ Err (Deep, n)
deep_by true ts rest n q r e = refl
deep_by false ts rest n q r e = absurd cc

flat_by : {A : Type 0} (b : Bool) (ts : List Kind) (q r : Read A) → ◌≡◌ {A = Option (List Kind)} (if b then Some ts else None) None → (if b || false then q else r) ≡ r
flat_by true ts q r e = absurd cc
flat_by false ts q r e = refl

not_by : (b : Bool) (ts : List Kind) → ◌≡◌ {A = Option (List Kind)} (if b then Some ts else None) None → b ≡ false
not_by true ts e = absurd cc
not_by false ts e = refl

pub not_next : (test : Kind → Bool) (ts : List Kind) → behind test ts ≡ None → is_next test ts ≡ false
not_next test [] e = refl
not_next test (k ∷ ts) e = not_by (test k) ts e

abbrev pub begun : {A : Type 0} → (Kind → Bool) → Grammar A → Grammar A
begun test f = sequence (takes (λ token. if_so (test token))) (λ x. f)

module _ {A : Type 0} (test : Kind → Bool) (f g : Grammar A) where
  pub known : (ts rest : List Kind) → behind test ts ≡ Some rest → read (choice (begun test f) g) ts ≡ read f rest
  known [] rest e = absurd cc
  known (k ∷ ts) rest e = known_by (test k) ts rest (λ r. read f r) (read g (k ∷ ts)) e

  pub unknown : (ts : List Kind) → behind test ts ≡ None → read (choice (begun test f) g) ts ≡ read g ts
  unknown [] e = refl
  unknown (k ∷ ts) e = unknown_by (test k) ts (read (begun test f) (k ∷ ts)) (read g (k ∷ ts)) e

-- the first of two begins, or doesn't
pub taken_first : {A : Type 0} (f g : Grammar A) (ts : List Kind) → begins f ts ≡ true → read (choice f g) ts ≡ read f ts
taken_first f g ts e = ap (λ b. if b then read f ts else read g ts) e

pub taken_second : {A : Type 0} (f g : Grammar A) (ts : List Kind) → begins f ts ≡ false → read (choice f g) ts ≡ read g ts
taken_second f g ts e = ap (λ b. if b then read f ts else read g ts) e

-- or one that is a level too deep
module _ {A : Type 0} (test : Kind → Bool) (g : Grammar A) where
  abbrev too_deep : Grammar A
  too_deep = choice (bars (is_next test) Deep never) g

  pub deep_known : (ts rest : List Kind) → behind test ts ≡ Some rest → read too_deep ts ≡ Err (Deep, length ts)
  deep_known [] rest e = absurd cc
  deep_known (k ∷ ts) rest e = deep_by (test k) ts rest (suc (length ts)) (read (never {A = A}) (k ∷ ts)) (read g (k ∷ ts)) e

  pub deep_unknown : (ts : List Kind) → behind test ts ≡ None → read too_deep ts ≡ read g ts
  deep_unknown [] e = refl
  deep_unknown (k ∷ ts) e = flat_by (test k) ts (if test k then Err (Deep, suc (length ts)) else read (never {A = A}) (k ∷ ts)) (read g (k ∷ ts)) e
