-- Grammars that a first token decides: what is of one is read, and read in one way.
use Rattle.std.proofs.Common.{◌≡◌, ℕ, ◌⊎◌, true, false, List, [], ◌∷◌, length}
use Rattle.std.specs.Option.{is_some}
use Rattle.ixp_lang_tokens.specs.declared.token.Kind.{Kind}
use Rattle.ixp_lang_tokens.specs.Grammars.{onward, done, Grammar, gives, takes, sequence, choice, rounds, checks, bars, unless, here}
use Rattle.ixp_lang_tokens.specs.Reading.{begins}

-- before these tokens it may take none and say this
abbrev pub Empty : {A : Type 0} → Grammar A → A → List Kind → Type 0
Empty (gives w) v ts = v ≡ w
Empty (takes c) v ts = ⊥
Empty (sequence {A = B} f g) v ts = (b : B) × Empty f b ts × Empty (g b) v ts
Empty (choice f g) v ts = Empty f v ts ⊎ Empty g v ts
Empty (rounds f s) v ts = Empty (f s) (done v) ts
Empty (checks o f) v ts = Empty f v ts
Empty (bars p c f) v ts = Empty f v ts
Empty (unless p f) v ts = (p ts ≡ false) × Empty f v ts
Empty (here f) v ts = Empty (f (length ts)) v ts

-- a text of it may begin with these tokens, as far as its first one tells
abbrev pub Begins : {A : Type 0} → Grammar A → List Kind → Type 0
Begins (gives w) ts = ⊥
Begins (takes c) [] = ⊥
Begins (takes c) (k ∷ ts) = is_some (c k) ≡ true
Begins (sequence {A = B} f g) ts = Begins f ts ⊎ ((b : B) × Empty f b ts × Begins (g b) ts)
Begins (choice f g) ts = Begins f ts ⊎ Begins g ts
Begins (rounds f s) ts = Begins (f s) ts
Begins (checks o f) ts = Begins f ts
Begins (bars p c f) ts = (p ts ≡ false) × Begins f ts
Begins (unless p f) ts = (p ts ≡ false) × Begins f ts
Begins (here f) ts = Begins (f (length ts)) ts

-- behind a text that says this, these tokens might go on with it
abbrev pub Extends : {A : Type 0} → Grammar A → A → List Kind → Type 0
Extends (gives w) v rest = ⊥
Extends (takes c) v rest = ⊥
Extends (sequence {A = B} f g) v rest = (b : B) × (Extends (g b) v rest ⊎ (Empty (g b) v rest × Extends f b rest))
Extends (choice f g) v rest = Extends f v rest ⊎ Extends g v rest ⊎ (Empty g v rest × (begins f rest ≡ true))
Extends (rounds {S = S} f s) v rest = (t : S) × (Extends (f t) (done v) rest ⊎ ((u : S) × Empty (f u) (done v) rest × Extends (f t) (onward u) rest))
Extends (checks o f) v rest = Extends f v rest
Extends (bars p c f) v rest = Extends f v rest
Extends (unless p f) v rest = Extends f v rest
Extends (here f) v rest = (n : ℕ) × Extends (f n) v rest

-- each of its texts has a first token, by which `begins` knows it
abbrev pub Leads : {A : Type 0} → Grammar A → Type 0
Leads (gives w) = ⊥
Leads (takes c) = Unit {0}
Leads (sequence f g) = Leads f
Leads (choice f g) = Leads f × Leads g
Leads (rounds f s) = Leads (f s)
Leads (checks o f) = Leads f
Leads (bars p c f) = Leads f
Leads (unless p f) = Leads f
Leads (here f) = (n : ℕ) → Leads (f n)

-- the next token tells which alternative it is, and whether a text goes on
abbrev pub Parted : {A : Type 0} → Grammar A → Type 0
Parted (gives w) = Unit {0}
Parted (takes c) = Unit {0}
Parted (sequence {A = B} f g) = Parted f × ((b : B) → Parted (g b)) × ((b : B) (rest : List Kind) → Begins (g b) rest → ¬ (Extends f b rest))
Parted (choice f g) = Leads f × Parted f × Parted g × ((ts : List Kind) → begins f ts ≡ true → ¬ (Begins g ts))
Parted (rounds {S = S} f s) = ((t : S) → Parted (f t)) × ((t u : S) (ts : List Kind) → ¬ (Empty (f t) (onward u) ts)) × ((t u : S) (rest : List Kind) → Begins (f u) rest → ¬ (Extends (f t) (onward u) rest))
Parted (checks o f) = Parted f
Parted (bars p c f) = Parted f
Parted (unless p f) = Parted f
Parted (here f) = (n : ℕ) → Parted (f n)
