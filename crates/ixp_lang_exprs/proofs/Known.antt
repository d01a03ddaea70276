-- What is known of grammars that others are made of.
use Rattle.std.proofs.Common.{◌≡◌, inl, inr, Bool, true, false, List, [], ◌∷◌, ◌++◌, refl}
use Rattle.ixp_lang_tokens.specs.declared.token.Kind.{Kind}
use Rattle.ixp_lang_tokens.specs.declared.token.Mark.{Mark}
use Rattle.ixp_lang_tokens.specs.declared.token.Mark.TheVariants.{Comma}
use Rattle.ixp_lang_tokens.specs.Grammars.{Grammar, gives, sequence, choice, Step, onward, done}
use Rattle.ixp_lang_tokens.specs.Reading.{begins}
use Rattle.ixp_lang_tokens.proofs.Parted.{Empty, Begins, Extends}
use Rattle.ixp_lang_tokens.proofs.Fronts.{Front, marked, Starts, are_apart}
use Rattle.ixp_lang_tokens.proofs.Looks.{Look, full_look, token_look, Known, known_gives, known_sequence, known_then, known_choice, known_bars, known_rounds}
use Rattle.ixp_lang_tokens.proofs.Known.{known_mark, next_mark}
use Rattle.ixp_lang_exprs.specs.Lists.{never, only, ended, listed, deepened}

never_begins : (A : Type 0) (fs : List Front) (ts : List Kind) → Begins (never {A = A}) ts → Starts fs ts
never_begins A fs [] p = absurd p
never_begins A fs (k ∷ ts) p = absurd cc

never_opens : (A : Type 0) (fs : List Front) (ts : List Kind) → begins (never {A = A}) ts ≡ true → Starts fs ts
never_opens A fs [] p = absurd cc
never_opens A fs (k ∷ ts) p = absurd cc

-- no text looks as one likes
pub known_never : {A : Type 0} (l : Look) → Known (never {A = A}) l
known_never {A} l = record {
  parted = tt;
  leads = λ e. tt;
  full = λ e v ts p. p;
  starts = never_begins A l.starts;
  opens = never_opens A l.starts;
  ends = λ v rest p. absurd p;
}

pub known_only : {A : Type 0} {f : Grammar A} {l : Look} (b : Bool) → Known f l → Known (only b f) l
known_only true k = k
known_only {A} {f} {l} false k = known_never l

pub known_ended : {A : Type 0} (m : Mark) (v : A) → Known (ended m v) (token_look (marked m ∷ []))
known_ended m v = known_then (known_mark m) (λ x. known_gives v)

pub known_deepened : {A : Type 0} {f : Grammar A} {l : Look} (b : Bool) (m : Mark) → Known f l → Known (deepened b m f) (full_look (marked m ∷ []) l.ends)
known_deepened true m k = known_then (known_mark m) (λ x. k)
known_deepened {A} {f} {l} false m k = known_bars (marked m ∷ []) (next_mark m) (known_never (full_look [] l.ends))

-- Lists.

ended_full : {A : Type 0} (m : Mark) (v w : A) (ts : List Kind) → ¬ (Empty (ended m v) w ts)
ended_full m v w ts (x, empty, same) = empty

pub ended_ends : {A : Type 0} (m : Mark) (v w : A) (rest : List Kind) → ¬ (Extends (ended m v) w rest)
ended_ends m v w rest (x, inl p) = p
ended_ends m v w rest (x, inr (empty, p)) = p

-- a comma and one more, or the last one
abbrev comma_or_end : {A : Type 0} → List A → Grammar (Step (List A) (List A))
comma_or_end items = choice (ended Comma (onward items)) (gives (done items))

onward_full : {A : Type 0} (xs ys : List A) (ts : List Kind) → ¬ (Empty (comma_or_end xs) (onward ys) ts)
onward_full xs ys ts (inl empty) = ended_full Comma (onward xs) (onward ys) ts empty
onward_full xs ys ts (inr same) = cc

onward_ends : {A : Type 0} (xs ys : List A) (rest : List Kind) → ¬ (Extends (comma_or_end xs) (onward ys) rest)
onward_ends xs ys rest (inl p) = ended_ends Comma (onward xs) (onward ys) rest p
onward_ends xs ys rest (inr (inl p)) = p
onward_ends xs ys rest (inr (inr (same, p))) = cc

pub none_apart : (fs : List Front) → are_apart fs [] ≡ true
none_apart [] = refl
none_apart (f ∷ fs) = none_apart fs

module _ {A : Type 0} (item : List A → Grammar A) (fs es : List Front) (k : (items : List A) → Known (item items) (full_look fs es)) where
  abbrev round : List A → Grammar (Step (List A) (List A))
  round items = sequence (item items) (λ x. comma_or_end (items ++ x ∷ []))

  round_full : (t u : List A) (ts : List Kind) → ¬ (Empty (round t) (onward u) ts)
  round_full t u ts (x, empty, more) = (k t).full refl x ts empty

  round_onward : (t u : List A) (rest : List Kind) → Extends (round t) (onward u) rest → Starts [] rest
  round_onward t u rest (x, inl p) = absurd (onward_ends (t ++ x ∷ []) u rest p)
  round_onward t u rest (x, inr (empty, p)) = absurd (onward_full (t ++ x ∷ []) u rest empty)

  known_round : are_apart (marked Comma ∷ []) es ≡ true → (t : List A) → Known (round t) (full_look fs (marked Comma ∷ es))
  known_round apart t = known_sequence (k t) (λ x. known_choice (known_ended Comma (onward (t ++ x ∷ []))) (known_gives (done (t ++ x ∷ []))) refl refl) apart

  pub known_listed : are_apart (marked Comma ∷ []) es ≡ true → Known (listed item) (full_look fs (marked Comma ∷ es))
  known_listed apart =
      known_rounds round (full_look fs (marked Comma ∷ es)) [] (marked Comma ∷ es) (known_round apart) [] round_full round_onward (λ t v rest p. (known_round apart t).ends (done v) rest p) (none_apart fs)
