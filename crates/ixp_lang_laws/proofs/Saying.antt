-- What a grammar says is such as is wanted: how this is known of a grammar by its parts.
use Rattle.std.proofs.Common.{◌≡◌, ◌⊎◌, ℕ, zero, suc, inl, inr, Bool, true, false, List, [], ◌∷◌, ◌++◌, Option, Some, None, refl, sym, subst}
use Rattle.ixp_lang_tokens.specs.declared.fault.Cause.{Cause}
use Rattle.ixp_lang_tokens.specs.declared.token.Kind.{Kind}
use Rattle.ixp_lang_tokens.specs.declared.token.Mark.{Mark}
use Rattle.ixp_lang_tokens.specs.declared.token.Mark.TheVariants.{Comma}
use Rattle.ixp_lang_tokens.specs.Grammars.{Step, onward, done, Grammar, gives, takes, sequence, choice, rounds, checks, bars, unless, here, Rounds, Took}
use Rattle.ixp_lang_tokens.specs.Pieces.{the_mark, the_word, a_name, a_number}
use Rattle.ixp_lang_exprs.specs.Lists.{never, only, ended, listed}
use Rattle.ixp_lang_laws.specs.Sound.{some_of}

-- what is said is so, whatever the tokens
pub record Says {A : Type 0} (g : Grammar A) (P : A → Type 0) : Type 0 where
  pub says : (v : A) (tokens rest : List Kind) → Took g v tokens rest → P v

-- nothing needs to be known of it
abbrev pub Any : {A : Type 0} → A → Type 0
Any v = Unit {0}

pub says_gives : {A : Type 0} {v : A} {P : A → Type 0} → P v → Says (gives v) P
says_gives {A} {v} {P} p = record { says = λ w tokens rest took. subst P (sym took.0) p }

takes_say : {A : Type 0} (c : Kind → Option A) (P : A → Type 0) → ((k : Kind) (v : A) → c k ≡ Some v → P v) → (v : A) (tokens rest : List Kind) → Took (takes c) v tokens rest → P v
takes_say c P h v [] rest took = absurd took
takes_say c P h v (k ∷ ks) rest (is, same) = h k v is

pub says_takes : {A : Type 0} {c : Kind → Option A} {P : A → Type 0} → ((k : Kind) (v : A) → c k ≡ Some v → P v) → Says (takes c) P
says_takes {A} {c} {P} h = record { says = takes_say c P h }

-- a token of which nothing needs to be known
pub says_token : {A : Type 0} (c : Kind → Option A) → Says (takes c) Any
says_token c = says_takes (λ k v is. tt)

pub says_sequence : {A B : Type 0} {f : Grammar B} {g : B → Grammar A} {Q : B → Type 0} {P : A → Type 0} → Says f Q → ((b : B) → Q b → Says (g b) P) → Says (sequence f g) P
says_sequence {A} {B} {f} {g} {Q} {P} kf kg = record { says = λ v tokens rest took. (kg took.0 (kf.says took.0 tokens took.1 took.2)).says v took.1 rest took.3 }

-- a first part of which nothing needs to be known
pub says_then : {A B : Type 0} {f : Grammar B} {g : B → Grammar A} {P : A → Type 0} → Says f Any → ((b : B) → Says (g b) P) → Says (sequence f g) P
says_then kf kg = says_sequence kf (λ b any. kg b)

either_says : {A : Type 0} (f g : Grammar A) (P : A → Type 0) → Says f P → Says g P → (v : A) (tokens rest : List Kind) → Took f v tokens rest ⊎ Took g v tokens rest → P v
either_says f g P kf kg v tokens rest (inl took) = kf.says v tokens rest took
either_says f g P kf kg v tokens rest (inr took) = kg.says v tokens rest took

pub says_choice : {A : Type 0} {f g : Grammar A} {P : A → Type 0} → Says f P → Says g P → Says (choice f g) P
says_choice {A} {f} {g} {P} kf kg = record { says = either_says f g P kf kg }

-- where there is no fault
pub says_checks : {A : Type 0} {fault : Option (Cause × ℕ)} {f : Grammar A} {P : A → Type 0} → (fault ≡ None → Says f P) → Says (checks fault f) P
says_checks kf = record { says = λ v tokens rest took. (kf took.0).says v tokens rest took.1 }

pub says_bars : {A : Type 0} {next : List Kind → Bool} {cause : Cause} {f : Grammar A} {P : A → Type 0} → Says f P → Says (bars next cause f) P
says_bars kf = record { says = λ v tokens rest took. kf.says v tokens rest took.1 }

pub says_unless : {A : Type 0} {next : List Kind → Bool} {f : Grammar A} {P : A → Type 0} → Says f P → Says (unless next f) P
says_unless kf = record { says = λ v tokens rest took. kf.says v tokens rest took.1 }

pub says_here : {A : Type 0} {f : ℕ → Grammar A} {P : A → Type 0} → ((n : ℕ) → Says (f n) P) → Says (here f) P
says_here kf = record { says = λ v tokens rest took. (kf _).says v tokens rest took }

-- Rounds.

-- the next state is so, or what is said at the end
abbrev pub Next : {S A : Type 0} → (S → Type 0) → (A → Type 0) → Step S A → Type 0
Next I P (onward t) = I t
Next I P (done v) = P v

rounds_say : {S A : Type 0} (f : S → Grammar (Step S A)) (I : S → Type 0) (P : A → Type 0) → ((s : S) → I s → Says (f s) (Next I P))
    → (n : ℕ) (s : S) → I s → (v : A) (tokens rest : List Kind) → Rounds (λ t. Took (f t)) n s v tokens rest → P v
rounds_say f I P kf zero s i v tokens rest took = (kf s i).says (done v) tokens rest took
rounds_say f I P kf (suc n) s i v tokens rest (t, mid, took, more) =
    rounds_say f I P kf n t ((kf s i).says (onward t) tokens mid took) v mid rest more

pub says_rounds : {S A : Type 0} {f : S → Grammar (Step S A)} {s : S} {P : A → Type 0} (I : S → Type 0) → I s → ((t : S) → I t → Says (f t) (Next I P)) → Says (rounds f s) P
says_rounds {S} {A} {f} {s} {P} I i kf = record { says = λ v tokens rest took. rounds_say f I P kf took.0 s i v tokens rest took.1 }

-- Grammars that others are made of.

pub says_mark : (m : Mark) → Says (the_mark m) Any
says_mark m = says_token _

pub says_word : (w : List ℕ) → Says (the_word w) Any
says_word w = says_token _

pub says_name : Says a_name Any
says_name = says_token _

pub says_number : Says a_number Any
says_number = says_token _

pub says_never : {A : Type 0} {P : A → Type 0} → Says never P
says_never {A} {P} = says_takes (λ k v is. absurd cc)

pub says_only : {A : Type 0} {f : Grammar A} {P : A → Type 0} (b : Bool) → Says f P → Says (only b f) P
says_only true kf = kf
says_only false kf = says_never

pub says_ended : {A : Type 0} {v : A} {P : A → Type 0} (m : Mark) → P v → Says (ended m v) P
says_ended m p = says_then (says_mark m) (λ x. says_gives p)

-- Lists.

abbrev pub AreAll : {A : Type 0} → (A → Type 0) → List A → Type 0
AreAll P [] = Unit {0}
AreAll P (x ∷ xs) = P x × AreAll P xs

pub all_more : {A : Type 0} (P : A → Type 0) (xs : List A) (x : A) → AreAll P xs → P x → AreAll P (xs ++ x ∷ [])
all_more P [] x all one = (one, tt)
all_more P (y ∷ xs) x (first, all) one = (first, all_more P xs x all one)

pub some_more : {A : Type 0} (xs : List A) (x : A) → some_of (xs ++ x ∷ []) ≡ true
some_more [] x = refl
some_more (y ∷ xs) x = refl

-- one or more, each of them so
abbrev pub AreSome : {A : Type 0} → (A → Type 0) → List A → Type 0
AreSome P xs = (some_of xs ≡ true) × AreAll P xs

pub says_listed : {A : Type 0} {item : List A → Grammar A} {P : A → Type 0} → ((before : List A) → Says (item before) P) → Says (listed item) (AreSome P)
says_listed {A} {item} {P} k =
    says_rounds (AreAll P) tt (λ before all. says_sequence (k before) (λ x one. says_choice (says_ended Comma (all_more P before x all one)) (says_gives (some_more before x, all_more P before x all one))))
