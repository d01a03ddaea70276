-- Syntax alone: what a grammar asks of tokens, but for what it checks of what they say (types, names, the
-- ranges of numbers).
use Rattle.std.specs.Prelude.{◌≡◌, ◌⊎◌, ℕ, zero, suc, pred, Bool, false, ◌||◌, ◌&&◌, not, List, [], ◌∷◌, ◌++◌, length, Option, Some, None, if◌then◌else◌}
use Rattle.std.specs.Option.{is_some}
use Rattle.ixp_lang_tokens.specs.declared.fault.Cause.{Cause}
use Rattle.ixp_lang_tokens.specs.declared.fault.Cause.TheVariants.{Unexpected}
use Rattle.ixp_lang_tokens.specs.declared.token.Kind.{Kind}
use Rattle.ixp_lang_tokens.specs.Grammars.{Step, onward, done, Grammar, gives, takes, sequence, choice, rounds, checks, bars, unless, here}

-- A place: its number, and the tokens from there on. In a text it is how many these are; in one that is only
-- thought to go on otherwise, places keep the numbers that they have in the text. Token by token it goes
-- down, to 0.
abbrev pub Spot : Type 0
Spot = ℕ × List Kind

abbrev pub spot : ℕ → List Kind → Spot
spot number tokens = (number, tokens)

-- n rounds that go on, and one that is the last
abbrev pub FineRounds : {S A : Type 0} → (S → Step S A → Spot → Spot → Type 0) → ℕ → S → A → Spot → Spot
    → Type 0
FineRounds R zero s v x y = R s (done v) x y
FineRounds {S} R (suc n) s v x y = (t : S) × (z : Spot) × R s (onward t) x z × FineRounds R n t v z y

-- Such tokens stand from the first place up to the second one, and say v as far as syntax goes.
abbrev pub Fine : {A : Type 0} → Grammar A → A → Spot → Spot → Type 0
Fine (gives w) v x y = (v ≡ w) × (x ≡ y)
Fine (takes class) v (p, []) y = ⊥
Fine (takes class) v (p, token ∷ tokens) y = (class token ≡ Some v) × (spot (pred p) tokens ≡ y)
Fine (sequence {A = B} f g) v x y = (b : B) × (z : Spot) × Fine f b x z × Fine (g b) v z y
Fine (choice f g) v x y = Fine f v x y ⊎ Fine g v x y
Fine (rounds f s) v x y = (n : ℕ) × FineRounds (λ t. Fine (f t)) n s v x y
Fine (checks fault f) v x y = Fine f v x y
Fine (bars next cause f) v x y = (next x.1 ≡ false) × Fine f v x y
Fine (unless next f) v x y = (next x.1 ≡ false) × Fine f v x y
Fine (here f) v x y = Fine (f x.0) v x y

-- Such tokens stand there, and each check passes too: the same as `Took`, but that the places of a text that
-- is only thought to go on otherwise keep the numbers that they have in the text.
abbrev pub Lawful : {A : Type 0} → Grammar A → A → Spot → Spot → Type 0
Lawful (gives w) v x y = (v ≡ w) × (x ≡ y)
Lawful (takes class) v (p, []) y = ⊥
Lawful (takes class) v (p, token ∷ tokens) y = (class token ≡ Some v) × (spot (pred p) tokens ≡ y)
Lawful (sequence {A = B} f g) v x y = (b : B) × (z : Spot) × Lawful f b x z × Lawful (g b) v z y
Lawful (choice f g) v x y = Lawful f v x y ⊎ Lawful g v x y
Lawful (rounds f s) v x y = (n : ℕ) × FineRounds (λ t. Lawful (f t)) n s v x y
Lawful (checks fault f) v x y = (fault ≡ None) × Lawful f v x y
Lawful (bars next cause f) v x y = (next x.1 ≡ false) × Lawful f v x y
Lawful (unless next f) v x y = (next x.1 ≡ false) × Lawful f v x y
Lawful (here f) v x y = Lawful (f x.0) v x y

-- Why a reading halts: syntax stops it for a cause, or a check refuses it.
pub data Halt : Type 0 where
  by_syntax : Cause → Halt
  by_check : Halt

-- How a reading ends: it says a value, or halts where these tokens are next.
pub data Scan (A : Type 0) : Type 0 where
  said : A → Spot → Scan A
  halted : Halt → List Kind → Scan A

abbrev pub stopped : {A : Type 0} → Cause → List Kind → Scan A
stopped cause rest = halted (by_syntax cause) rest

abbrev pub refused : {A : Type 0} → List Kind → Scan A
refused rest = halted by_check rest

abbrev pub and_then : {A B : Type 0} → Scan A → (A → Spot → Scan B) → Scan B
and_then (said a x) f = f a x
and_then (halted why rest) f = halted why rest

abbrev pub begins_at : {A : Type 0} → Grammar A → Spot → Bool
begins_at (gives v) x = false
begins_at (takes class) (p, []) = false
begins_at (takes class) (p, token ∷ tokens) = is_some (class token)
begins_at (sequence f g) x = begins_at f x
begins_at (choice f g) x = begins_at f x || begins_at g x
begins_at (rounds f s) x = begins_at (f s) x
begins_at (checks fault f) x = begins_at f x
begins_at (bars next cause f) x = next x.1 || begins_at f x
begins_at (unless next f) x = not (next x.1) && begins_at f x
begins_at (here f) x = begins_at (f x.0) x

abbrev pub scanned : {A : Type 0} → Option A → ℕ → Kind → List Kind → Scan A
scanned (Some v) p token tokens = said v (spot (pred p) tokens)
scanned None p token tokens = stopped Unexpected (token ∷ tokens)

abbrev pub stepping : {S A : Type 0} → (S → Spot → Scan A) → Step S A → Spot → Scan A
stepping go (onward t) x = go t x
stepping go (done v) x = said v x

abbrev pub scan_rounds : {S A : Type 0} → ℕ → (S → Spot → Scan (Step S A)) → S → Spot → Scan A
scan_rounds zero round s x = and_then (round s x) (stepping (λ t y. stopped Unexpected y.1))
scan_rounds (suc n) round s x = and_then (round s x) (stepping (scan_rounds n round))

abbrev pub unless_refused : {A : Type 0} → Option (Cause × ℕ) → List Kind → Scan A → Scan A
unless_refused None rest s = s
unless_refused (Some fault) rest s = refused rest

-- the reading, by what ends it
abbrev pub scan : {A : Type 0} → Grammar A → Spot → Scan A
scan (gives v) x = said v x
scan (takes class) (p, []) = stopped Unexpected []
scan (takes class) (p, token ∷ tokens) = scanned (class token) p token tokens
scan (sequence f g) x = and_then (scan f x) (λ a y. scan (g a) y)
scan (choice f g) x = if begins_at f x then scan f x else scan g x
scan (rounds f s) x = scan_rounds (length x.1) (λ t y. scan (f t) y) s x
scan (checks fault f) x = unless_refused fault x.1 (scan f x)
scan (bars next cause f) x = if next x.1 then stopped cause x.1 else scan f x
scan (unless next f) x = if next x.1 then stopped Unexpected x.1 else scan f x
scan (here f) x = scan (f x.0) x

-- a fine text, whose first place has this number
abbrev pub IsFineText : {A : Type 0} → Grammar A → ℕ → List Kind → Type 0
IsFineText {A} g number tokens = (v : A) × (last : ℕ) × Fine g v (spot number tokens) (spot last [])

-- a lawful text, whose first place has this number
abbrev pub IsLawfulText : {A : Type 0} → Grammar A → ℕ → List Kind → Type 0
IsLawfulText {A} g number tokens = (v : A) × (last : ℕ) × Lawful g v (spot number tokens) (spot last [])

-- With so many tokens left no text goes on: what is before the place is the front of a text of `Longer`, and
-- with the token that stands there, or without one where none is left, it is none of a text of `Text`. Mostly
-- both are the same texts.
pub record StopsAt (Longer Text : List Kind → Type 0) (tokens : List Kind) (left : ℕ) : Type 0 where
  pub front : List Kind
  pub rest : List Kind
  pub parts : tokens ≡ front ++ rest
  pub left_is : left ≡ length rest
  pub begins : (more : List Kind) × Longer (front ++ more)
  pub no_more : (token : Kind) (others more : List Kind) → rest ≡ token ∷ others
      → ¬ (Text (front ++ token ∷ more))
  pub not_in : ¬ (Text tokens)

-- A check refuses a reading where `rest` is next. What is before that place is, with the token that stands
-- there, the front of no lawful text, whatever is behind it; and the tokens are none themselves.
pub record RefusedAt {A : Type 0} (g : Grammar A) (tokens : List Kind) : Type 0 where
  pub front : List Kind
  pub rest : List Kind
  pub parts : tokens ≡ front ++ rest
  pub refuses : scan g (spot (length tokens) tokens) ≡ refused rest
  pub no_more : (token : Kind) (others more : List Kind) → rest ≡ token ∷ others
      → ¬ (IsLawfulText g (length tokens) (front ++ token ∷ more))
  pub not_in : ¬ (IsLawfulText g (length tokens) tokens)
