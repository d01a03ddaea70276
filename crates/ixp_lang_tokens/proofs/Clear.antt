-- Grammars that a first token decides, whatever is checked and however places are numbered.
use Rattle.std.proofs.Common.{◌≡◌, ℕ, ◌⊎◌, Bool, true, false, List, [], ◌∷◌}
use Rattle.std.specs.Option.{is_some}
use Rattle.ixp_lang_tokens.specs.declared.token.Kind.{Kind}
use Rattle.ixp_lang_tokens.specs.Grammars.{onward, done, Grammar, gives, takes, sequence, choice, rounds, checks, bars, unless, here}
use Rattle.ixp_lang_tokens.proofs.Parted.{Leads}

-- before these tokens it may take none and say this
abbrev pub MayEmpty : {A : Type 0} → Grammar A → A → List Kind → Type 0
MayEmpty (gives w) v ts = v ≡ w
MayEmpty (takes c) v ts = ⊥
MayEmpty (sequence {A = B} f g) v ts = (b : B) × MayEmpty f b ts × MayEmpty (g b) v ts
MayEmpty (choice f g) v ts = MayEmpty f v ts ⊎ MayEmpty g v ts
MayEmpty (rounds f s) v ts = MayEmpty (f s) (done v) ts
MayEmpty (checks o f) v ts = MayEmpty f v ts
MayEmpty (bars p c f) v ts = MayEmpty f v ts
MayEmpty (unless p f) v ts = (p ts ≡ false) × MayEmpty f v ts
MayEmpty (here f) v ts = (n : ℕ) × MayEmpty (f n) v ts

-- a text of it may begin with these tokens, as far as its first one tells
abbrev pub MayBegin : {A : Type 0} → Grammar A → List Kind → Type 0
MayBegin (gives w) ts = ⊥
MayBegin (takes c) [] = ⊥
MayBegin (takes c) (k ∷ ts) = is_some (c k) ≡ true
MayBegin (sequence {A = B} f g) ts = MayBegin f ts ⊎ ((b : B) × MayEmpty f b ts × MayBegin (g b) ts)
MayBegin (choice f g) ts = MayBegin f ts ⊎ MayBegin g ts
MayBegin (rounds f s) ts = MayBegin (f s) ts
MayBegin (checks o f) ts = MayBegin f ts
MayBegin (bars p c f) ts = (p ts ≡ false) × MayBegin f ts
MayBegin (unless p f) ts = (p ts ≡ false) × MayBegin f ts
MayBegin (here f) ts = (n : ℕ) × MayBegin (f n) ts

-- it is chosen at these tokens
abbrev pub MayOpen : {A : Type 0} → Grammar A → List Kind → Type 0
MayOpen (gives w) ts = ⊥
MayOpen (takes c) [] = ⊥
MayOpen (takes c) (k ∷ ts) = is_some (c k) ≡ true
MayOpen (sequence f g) ts = MayOpen f ts
MayOpen (choice f g) ts = MayOpen f ts ⊎ MayOpen g ts
MayOpen (rounds f s) ts = MayOpen (f s) ts
MayOpen (checks o f) ts = MayOpen f ts
MayOpen (bars p c f) ts = (p ts ≡ true) ⊎ MayOpen f ts
MayOpen (unless p f) ts = (p ts ≡ false) × MayOpen f ts
MayOpen (here f) ts = (n : ℕ) × MayOpen (f n) ts

-- behind a text that says this, these tokens might go on with it
abbrev pub GoesOn : {A : Type 0} → Grammar A → A → List Kind → Type 0
GoesOn (gives w) v rest = ⊥
GoesOn (takes c) v rest = ⊥
GoesOn (sequence {A = B} f g) v rest = (b : B) × (GoesOn (g b) v rest ⊎ (MayEmpty (g b) v rest × GoesOn f b rest))
GoesOn (choice f g) v rest = GoesOn f v rest ⊎ GoesOn g v rest ⊎ (MayEmpty g v rest × MayOpen f rest)
GoesOn (rounds {S = S} f s) v rest = (t : S) × (GoesOn (f t) (done v) rest ⊎ ((u : S) × MayEmpty (f u) (done v) rest × GoesOn (f t) (onward u) rest))
GoesOn (checks o f) v rest = GoesOn f v rest
GoesOn (bars p c f) v rest = GoesOn f v rest
GoesOn (unless p f) v rest = GoesOn f v rest
GoesOn (here f) v rest = (n : ℕ) × GoesOn (f n) v rest

-- a text that says this may not stand before these tokens: a test at its end is of them
abbrev pub Spoils : {A : Type 0} → Grammar A → A → List Kind → Type 0
Spoils (gives w) v rest = ⊥
Spoils (takes c) v rest = ⊥
Spoils (sequence {A = B} f g) v rest = (b : B) × (Spoils (g b) v rest ⊎ (MayEmpty (g b) v rest × Spoils f b rest))
Spoils (choice f g) v rest = Spoils f v rest ⊎ Spoils g v rest
Spoils (rounds {S = S} f s) v rest = (t : S) × (Spoils (f t) (done v) rest ⊎ ((u : S) × MayEmpty (f u) (done v) rest × Spoils (f t) (onward u) rest))
Spoils (checks o f) v rest = Spoils f v rest
Spoils (bars p c f) v rest = Spoils f v rest ⊎ (MayEmpty f v rest × (p rest ≡ true))
Spoils (unless p f) v rest = Spoils f v rest ⊎ (MayEmpty f v rest × (p rest ≡ true))
Spoils (here f) v rest = (n : ℕ) × Spoils (f n) v rest

-- a test of the first token alone, which the end fails
abbrev pub IsOfFirst : (List Kind → Bool) → Type 0
IsOfFirst p = (p [] ≡ false) × ((k : Kind) (x y : List Kind) → p (k ∷ x) ≡ p (k ∷ y))

-- What tests look at: the first token, and behind a fork the turn that is next, as far as its first token tells.
pub record Sight : Type 0 where
  pub fork : Kind → Bool
  pub turn : List Kind → Bool
  pub steady : (k : Kind) (x y : List Kind) → turn (k ∷ x) ≡ turn (k ∷ y)

-- a test of what is seen, which the end fails
abbrev pub IsSeen : Sight → (List Kind → Bool) → Type 0
IsSeen sight p = (p [] ≡ false) × ((k : Kind) (x y : List Kind) → (sight.fork k ≡ true → sight.turn x ≡ sight.turn y) → p (k ∷ x) ≡ p (k ∷ y))

-- each test being such a one
abbrev pub ClearBy : ((List Kind → Bool) → Type 0) → {A : Type 0} → Grammar A → Type 0
ClearBy T (gives w) = Unit {0}
ClearBy T (takes c) = Unit {0}
ClearBy T (sequence {A = B} f g) = ClearBy T f × ((b : B) → ClearBy T (g b)) × ((b : B) (rest : List Kind) → MayBegin (g b) rest → ¬ (GoesOn f b rest))
ClearBy T (choice f g) = Leads f × ClearBy T f × ClearBy T g × ((ts : List Kind) → MayOpen f ts → ¬ (MayBegin g ts))
ClearBy T (rounds {S = S} f s) =
    ((t : S) → ClearBy T (f t)) × ((t u : S) (ts : List Kind) → ¬ (MayEmpty (f t) (onward u) ts)) × ((t u : S) (rest : List Kind) → MayBegin (f u) rest → ¬ (GoesOn (f t) (onward u) rest))
ClearBy T (checks o f) = ClearBy T f
ClearBy T (bars p c f) = T p × ClearBy T f
ClearBy T (unless p f) = T p × ClearBy T f
ClearBy T (here f) = (n : ℕ) → ClearBy T (f n)

-- each test asks the first token alone
abbrev pub Clear : {A : Type 0} → Grammar A → Type 0
Clear f = ClearBy IsOfFirst f
