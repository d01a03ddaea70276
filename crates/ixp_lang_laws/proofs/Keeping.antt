-- What written tokens say is such as is written again: how this is known of a grammar by its parts.
use Rattle.std.proofs.Common.{◌≡◌, ◌⊎◌, ℕ, zero, suc, inl, inr, Bool, true, false, List, [], ◌∷◌, ◌++◌, Option, Some, sym, subst}
use Rattle.ixp_lang_tokens.specs.declared.fault.Cause.{Cause}
use Rattle.ixp_lang_tokens.specs.declared.token.Kind.{Kind}
use Rattle.ixp_lang_tokens.specs.declared.token.Kind.TheVariants as kind
use Rattle.ixp_lang_tokens.specs.declared.token.Mark.{Mark}
use Rattle.ixp_lang_tokens.specs.declared.token.Mark.TheVariants as mark
use Rattle.ixp_lang_tokens.specs.Grammars.{Step, onward, done, Grammar, gives, takes, sequence, choice, rounds, checks, bars, unless, here, Rounds, Took}
use Rattle.ixp_lang_tokens.specs.Pieces.{the_mark, the_word, a_name, name_in, a_number, number_in}
use Rattle.ixp_lang_exprs.specs.Lists.{never, only, ended, listed}
use Rattle.ixp_lang_laws.specs.Canonical.{Before, sign, wrapped, more_of, list_of}
use Rattle.ixp_lang_laws.specs.Printed.{IsWritten, AreWritten}

-- of written tokens, what they say is so, and those behind are written
pub record Keeps {A : Type 0} (g : Grammar A) (P : A → Type 0) : Type 0 where
  pub keeps : (v : A) (tokens rest : List Kind) → AreWritten tokens → Took g v tokens rest → P v × AreWritten rest

-- nothing needs to be known of it
abbrev pub Any : {A : Type 0} → A → Type 0
Any v = Unit {0}

pub keeps_gives : {A : Type 0} {v : A} {P : A → Type 0} → P v → Keeps (gives v) P
keeps_gives {A} {v} {P} p = record { keeps = λ w tokens rest written took. (subst P (sym took.0) p, subst AreWritten took.1 written) }

takes_keep : {A : Type 0} (c : Kind → Option A) (P : A → Type 0) → ((k : Kind) (v : A) → IsWritten k → c k ≡ Some v → P v) → (v : A) (tokens rest : List Kind) → AreWritten tokens → Took (takes c) v tokens rest → P v × AreWritten rest
takes_keep c P h v [] rest written took = absurd took
takes_keep c P h v (k ∷ ks) rest (one, more) (is, same) = (h k v one is, subst AreWritten same more)

pub keeps_takes : {A : Type 0} {c : Kind → Option A} {P : A → Type 0} → ((k : Kind) (v : A) → IsWritten k → c k ≡ Some v → P v) → Keeps (takes c) P
keeps_takes {A} {c} {P} h = record { keeps = takes_keep c P h }

-- a token of which nothing needs to be known
pub keeps_token : {A : Type 0} (c : Kind → Option A) → Keeps (takes c) Any
keeps_token c = keeps_takes (λ k v written is. tt)

pub keeps_sequence : {A B : Type 0} {f : Grammar B} {g : B → Grammar A} {Q : B → Type 0} {P : A → Type 0} → Keeps f Q → ((b : B) → Q b → Keeps (g b) P) → Keeps (sequence f g) P
keeps_sequence {A} {B} {f} {g} {Q} {P} kf kg = record { keeps = λ v tokens rest written took. behind v rest took.0 took.1 took.3 (kf.keeps took.0 tokens took.1 written took.2) }
  where
    behind : (v : A) (rest : List Kind) (b : B) (mid : List Kind) → Took (g b) v mid rest → Q b × AreWritten mid → P v × AreWritten rest
    behind v rest b mid took (so, written) = (kg b so).keeps v mid rest written took

-- a first part of which nothing needs to be known
pub keeps_then : {A B : Type 0} {f : Grammar B} {g : B → Grammar A} {P : A → Type 0} → Keeps f Any → ((b : B) → Keeps (g b) P) → Keeps (sequence f g) P
keeps_then kf kg = keeps_sequence kf (λ b any. kg b)

either_keeps : {A : Type 0} (f g : Grammar A) (P : A → Type 0) → Keeps f P → Keeps g P → (v : A) (tokens rest : List Kind) → AreWritten tokens → Took f v tokens rest ⊎ Took g v tokens rest → P v × AreWritten rest
either_keeps f g P kf kg v tokens rest written (inl took) = kf.keeps v tokens rest written took
either_keeps f g P kf kg v tokens rest written (inr took) = kg.keeps v tokens rest written took

pub keeps_choice : {A : Type 0} {f g : Grammar A} {P : A → Type 0} → Keeps f P → Keeps g P → Keeps (choice f g) P
keeps_choice {A} {f} {g} {P} kf kg = record { keeps = either_keeps f g P kf kg }

pub keeps_checks : {A : Type 0} {fault : Option (Cause × ℕ)} {f : Grammar A} {P : A → Type 0} → Keeps f P → Keeps (checks fault f) P
keeps_checks kf = record { keeps = λ v tokens rest written took. kf.keeps v tokens rest written took.1 }

pub keeps_bars : {A : Type 0} {next : List Kind → Bool} {cause : Cause} {f : Grammar A} {P : A → Type 0} → Keeps f P → Keeps (bars next cause f) P
keeps_bars kf = record { keeps = λ v tokens rest written took. kf.keeps v tokens rest written took.1 }

pub keeps_unless : {A : Type 0} {next : List Kind → Bool} {f : Grammar A} {P : A → Type 0} → Keeps f P → Keeps (unless next f) P
keeps_unless kf = record { keeps = λ v tokens rest written took. kf.keeps v tokens rest written took.1 }

pub keeps_here : {A : Type 0} {f : ℕ → Grammar A} {P : A → Type 0} → ((n : ℕ) → Keeps (f n) P) → Keeps (here f) P
keeps_here kf = record { keeps = λ v tokens rest written took. (kf _).keeps v tokens rest written took }

pub keeps_weaker : {A : Type 0} {f : Grammar A} {P Q : A → Type 0} → ((v : A) → P v → Q v) → Keeps f P → Keeps f Q
keeps_weaker h kf = record { keeps = λ v tokens rest written took. (let both = kf.keeps v tokens rest written took in (h v both.0, both.1)) }

-- Rounds.

-- the next state is so, or what is said at the end
abbrev pub Kept : {S A : Type 0} → (S → Type 0) → (A → Type 0) → Step S A → Type 0
Kept I P (onward t) = I t
Kept I P (done v) = P v

rounds_keep : {S A : Type 0} (f : S → Grammar (Step S A)) (I : S → Type 0) (P : A → Type 0) → ((s : S) → I s → Keeps (f s) (Kept I P))
    → (n : ℕ) (s : S) → I s → (v : A) (tokens rest : List Kind) → AreWritten tokens → Rounds (λ t. Took (f t)) n s v tokens rest → P v × AreWritten rest
rounds_keep f I P kf zero s i v tokens rest written took = (kf s i).keeps (done v) tokens rest written took
rounds_keep f I P kf (suc n) s i v tokens rest written (t, mid, took, more) =
    let next = (kf s i).keeps (onward t) tokens mid written took in
    rounds_keep f I P kf n t next.0 v mid rest next.1 more

pub keeps_rounds : {S A : Type 0} {f : S → Grammar (Step S A)} {s : S} {P : A → Type 0} (I : S → Type 0) → I s → ((t : S) → I t → Keeps (f t) (Kept I P)) → Keeps (rounds f s) P
keeps_rounds {S} {A} {f} {s} {P} I i kf = record { keeps = λ v tokens rest written took. rounds_keep f I P kf took.0 s i v tokens rest written took.1 }

-- Grammars that others are made of.

pub keeps_mark : (m : Mark) → Keeps (the_mark m) Any
keeps_mark m = keeps_token _

pub keeps_word : (w : List ℕ) → Keeps (the_word w) Any
keeps_word w = keeps_token _

pub keeps_never : {A : Type 0} {P : A → Type 0} → Keeps never P
keeps_never {A} {P} = keeps_takes (λ k v written is. absurd cc)

pub keeps_only : {A : Type 0} {f : Grammar A} {P : A → Type 0} (b : Bool) → Keeps f P → Keeps (only b f) P
keeps_only true kf = kf
keeps_only false kf = keeps_never

pub keeps_ended : {A : Type 0} {v : A} {P : A → Type 0} (m : Mark) → P v → Keeps (ended m v) P
keeps_ended m p = keeps_then (keeps_mark m) (λ x. keeps_gives p)

abbrev pub IsNumber : ℕ → Type 0
IsNumber n = IsWritten (kind.Number n)

abbrev pub IsName : List ℕ → Type 0
IsName n = IsWritten (kind.Name n)

same_number : (k : Kind) (n : ℕ) → IsWritten k → number_in k ≡ Some n → IsNumber n
same_number (kind.Number m) n written e = (let h : m ≡ n = cc in subst IsNumber h written)
same_number _ n written e = absurd cc

same_name : (k : Kind) (n : List ℕ) → IsWritten k → name_in k ≡ Some n → IsName n
same_name (kind.Name m) n written e = (let h : m ≡ n = cc in subst IsName h written)
same_name _ n written e = absurd cc

pub keeps_number : Keeps a_number IsNumber
keeps_number = keeps_takes same_number

pub keeps_name : Keeps a_name IsName
keeps_name = keeps_takes same_name

-- Lists.

abbrev pub AreAll : {A : Type 0} → (A → Type 0) → List A → Type 0
AreAll P [] = Unit {0}
AreAll P (x ∷ xs) = P x × AreAll P xs

pub all_more : {A : Type 0} (P : A → Type 0) (xs : List A) (x : A) → AreAll P xs → P x → AreAll P (xs ++ x ∷ [])
all_more P [] x all one = (one, tt)
all_more P (y ∷ xs) x (first, all) one = (first, all_more P xs x all one)

pub keeps_listed : {A : Type 0} {item : List A → Grammar A} {P : A → Type 0} → ((before : List A) → Keeps (item before) P) → Keeps (listed item) (AreAll P)
keeps_listed {A} {item} {P} k = keeps_rounds (AreAll P) tt (λ before all. keeps_sequence (k before) (λ x one. keeps_choice (keeps_ended mark.Comma (all_more P before x all one)) (keeps_gives (all_more P before x all one))))

-- Tokens that are written before others.

abbrev pub Writes : Before → Type 0
Writes f = (rest : List Kind) → AreWritten rest → AreWritten (f rest)

pub wrapped_writes : (b : Bool) (f : Before) → Writes f → Writes (wrapped b f)
wrapped_writes true f writes rest written = (tt, writes (sign mark.Close rest) (tt, written))
wrapped_writes false f writes rest written = writes rest written

more_write : {A : Type 0} (f : A → Before) (xs : List A) → AreAll (λ x. Writes (f x)) xs → Writes (more_of f xs)
more_write f [] all rest written = written
more_write f (x ∷ xs) (first, all) rest written = (tt, first (more_of f xs rest) (more_write f xs all rest written))

pub list_writes : {A : Type 0} (f : A → Before) (xs : List A) → AreAll (λ x. Writes (f x)) xs → Writes (list_of f xs)
list_writes f [] all rest written = written
list_writes f (x ∷ xs) (first, all) rest written = first (more_of f xs rest) (more_write f xs all rest written)
