-- Grammars over tokens, as data: which tokens stand at the front of a text, and what they say.
--
-- A grammar of `A` says a value of `A` of each of its texts. `sequence` hands the value of the first part on
-- to the second, so that what may follow can depend on what was said: on a name's type, say. What a text must
-- be like, `Took`, knows nothing of how a text is read.
use Rattle.std.specs.Prelude.{◌≡◌, ◌⊎◌, ℕ, zero, suc, Bool, false, List, [], ◌∷◌, length, Option, Some, None}
use Rattle.ixp_lang_tokens.specs.declared.fault.Cause.{Cause}
use Rattle.ixp_lang_tokens.specs.declared.token.Kind.{Kind}

-- a round goes on, or is the last one
pub data Step (S A : Type 0) : Type 0 where
  onward : S → Step S A
  done : A → Step S A

pub data Grammar : Type 0 → Type 1 where
  -- no token: this is said
  gives : {A : Type 0} → A → Grammar A
  -- one token of a class
  takes : {A : Type 0} → (Kind → Option A) → Grammar A
  -- one text, and behind it another
  sequence : {A B : Type 0} → Grammar A → (A → Grammar B) → Grammar B
  -- a text of one or of the other
  choice : {A : Type 0} → Grammar A → Grammar A → Grammar A
  -- rounds one after the other, from a state on, up to the one that is the last
  rounds : {S A : Type 0} → (S → Grammar (Step S A)) → S → Grammar A
  -- only where there is no fault; else the fault, and how many tokens are left at its place
  checks : {A : Type 0} → Option (Cause × ℕ) → Grammar A → Grammar A
  -- only where no such tokens are next; else a fault at the first of them
  bars : {A : Type 0} → (List Kind → Bool) → Cause → Grammar A → Grammar A
  -- only where no such tokens are next
  unless : {A : Type 0} → (List Kind → Bool) → Grammar A → Grammar A
  -- the grammar may speak of how many tokens are left
  here : {A : Type 0} → (ℕ → Grammar A) → Grammar A

-- n rounds that go on, and one that is the last
abbrev pub Rounds : {S A : Type 0} → (S → Step S A → List Kind → List Kind → Type 0) → ℕ → S → A → List Kind
    → List Kind → Type 0
Rounds R zero s v tokens rest = R s (done v) tokens rest
Rounds {S} R (suc n) s v tokens rest =
    (t : S) × (mid : List Kind) × R s (onward t) tokens mid × Rounds R n t v mid rest

-- A text of the grammar that says v stands at the front of the tokens, and the rest is behind it.
abbrev pub Took : {A : Type 0} → Grammar A → A → List Kind → List Kind → Type 0
Took (gives w) v tokens rest = (v ≡ w) × (tokens ≡ rest)
Took (takes class) v [] rest = ⊥
Took (takes class) v (token ∷ tokens) rest = (class token ≡ Some v) × (tokens ≡ rest)
Took (sequence {A = B} f g) v tokens rest =
    (b : B) × (mid : List Kind) × Took f b tokens mid × Took (g b) v mid rest
Took (choice f g) v tokens rest = Took f v tokens rest ⊎ Took g v tokens rest
Took (rounds f s) v tokens rest = (n : ℕ) × Rounds (λ t. Took (f t)) n s v tokens rest
Took (checks fault f) v tokens rest = (fault ≡ None) × Took f v tokens rest
Took (bars next cause f) v tokens rest = (next tokens ≡ false) × Took f v tokens rest
Took (unless next f) v tokens rest = (next tokens ≡ false) × Took f v tokens rest
Took (here f) v tokens rest = Took (f (length tokens)) v tokens rest
