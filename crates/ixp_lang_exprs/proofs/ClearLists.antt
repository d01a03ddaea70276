-- What is known of grammars that others are made of, where tests ask the first token alone.
use Rattle.std.proofs.Common.{◌≡◌, inl, inr, Bool, true, false, List, [], ◌∷◌, ◌++◌, refl}
use Rattle.ixp_lang_tokens.specs.declared.fault.Cause.TheVariants.{Deep}
use Rattle.ixp_lang_tokens.specs.declared.token.Kind.{Kind}
use Rattle.ixp_lang_tokens.specs.declared.token.Mark.{Mark}
use Rattle.ixp_lang_tokens.specs.declared.token.Mark.TheVariants.{Comma}
use Rattle.ixp_lang_tokens.specs.Grammars.{Grammar, gives, sequence, choice, Step, onward, done}
use Rattle.ixp_lang_tokens.specs.Pieces.{is_mark, is_next}
use Rattle.ixp_lang_tokens.proofs.Clear.{MayEmpty, MayBegin, MayOpen, GoesOn}
use Rattle.ixp_lang_tokens.proofs.Fronts.{Front, marked, Starts, are_apart}
use Rattle.ixp_lang_tokens.proofs.Looks.{Look, full_look, token_look}
use Rattle.ixp_lang_tokens.proofs.ClearLooks.{ClearlyBy, Clearly, clear_gives, clear_mark, clear_sequence, clear_then, clear_choice, clear_bars, clear_rounds, first_test}
use Rattle.ixp_lang_tokens.proofs.Known.{next_mark}
use Rattle.ixp_lang_exprs.specs.Lists.{never, only, ended, listed, deepened}
use Rattle.ixp_lang_exprs.proofs.Known.{none_apart}

never_begins : (A : Type 0) (fs : List Front) (ts : List Kind) → MayBegin (never {A = A}) ts → Starts fs ts
never_begins A fs [] p = absurd p
never_begins A fs (k ∷ ts) p = absurd cc

never_opens : (A : Type 0) (fs : List Front) (ts : List Kind) → MayOpen (never {A = A}) ts → Starts fs ts
never_opens A fs [] p = absurd p
never_opens A fs (k ∷ ts) p = absurd cc

pub clear_never : {T : (List Kind → Bool) → Type 0} {A : Type 0} (l : Look) (ss : List Front) → ClearlyBy T (never {A = A}) l ss
clear_never {T} {A} l ss = record {
  clear = tt;
  leads = λ e. tt;
  full = λ e v ts p. p;
  starts = never_begins A l.starts;
  opens = never_opens A l.starts;
  ends = λ v rest p. absurd p;
  spoils = λ v rest p. absurd p;
}

pub clear_only : {T : (List Kind → Bool) → Type 0} {A : Type 0} {f : Grammar A} {l : Look} {ss : List Front} (b : Bool) → ClearlyBy T f l ss → ClearlyBy T (only b f) l ss
clear_only true k = k
clear_only {T} {A} {f} {l} {ss} false k = clear_never l ss

pub clear_ended : {T : (List Kind → Bool) → Type 0} {A : Type 0} (m : Mark) (v : A) → ClearlyBy T (ended m v) (token_look (marked m ∷ [])) []
clear_ended m v = clear_then (clear_mark m) (λ x. clear_gives v)

pub clear_deepened : {A : Type 0} {f : Grammar A} {l : Look} {ss : List Front} (b : Bool) (m : Mark) → Clearly f l ss → Clearly (deepened b m f) (full_look (marked m ∷ []) l.ends) ss
clear_deepened true m k = clear_then (clear_mark m) (λ x. k)
clear_deepened {A} {f} {l} {ss} false m k = clear_bars (is_next (is_mark m)) Deep (marked m ∷ []) (next_mark m) (clear_never (full_look [] l.ends) ss) (first_test (is_mark m))

-- Lists.

ended_full : {A : Type 0} (m : Mark) (v w : A) (ts : List Kind) → ¬ (MayEmpty (ended m v) w ts)
ended_full m v w ts (x, empty, same) = empty

ended_ends : {A : Type 0} (m : Mark) (v w : A) (rest : List Kind) → ¬ (GoesOn (ended m v) w rest)
ended_ends m v w rest (x, inl p) = p
ended_ends m v w rest (x, inr (empty, p)) = p

-- a comma and one more, or the last one
abbrev comma_or_end : {A : Type 0} → List A → Grammar (Step (List A) (List A))
comma_or_end items = choice (ended Comma (onward items)) (gives (done items))

onward_full : {A : Type 0} (xs ys : List A) (ts : List Kind) → ¬ (MayEmpty (comma_or_end xs) (onward ys) ts)
onward_full xs ys ts (inl empty) = ended_full Comma (onward xs) (onward ys) ts empty
onward_full xs ys ts (inr same) = cc

onward_ends : {A : Type 0} (xs ys : List A) (rest : List Kind) → ¬ (GoesOn (comma_or_end xs) (onward ys) rest)
onward_ends xs ys rest (inl p) = ended_ends Comma (onward xs) (onward ys) rest p
onward_ends xs ys rest (inr (inl p)) = p
onward_ends xs ys rest (inr (inr (same, p))) = cc

module _ {T : (List Kind → Bool) → Type 0} {A : Type 0} (item : List A → Grammar A) (fs es ss : List Front) (k : (items : List A) → ClearlyBy T (item items) (full_look fs es) ss) where
  abbrev round : List A → Grammar (Step (List A) (List A))
  round items = sequence (item items) (λ x. comma_or_end (items ++ x ∷ []))

  round_full : (t u : List A) (ts : List Kind) → ¬ (MayEmpty (round t) (onward u) ts)
  round_full t u ts (x, empty, more) = (k t).full refl x ts empty

  round_onward : (t u : List A) (rest : List Kind) → GoesOn (round t) (onward u) rest → Starts [] rest
  round_onward t u rest (x, inl p) = absurd (onward_ends (t ++ x ∷ []) u rest p)
  round_onward t u rest (x, inr (empty, p)) = absurd (onward_full (t ++ x ∷ []) u rest empty)

  clear_round : are_apart (marked Comma ∷ []) es ≡ true → (t : List A) → ClearlyBy T (round t) (full_look fs (marked Comma ∷ es)) ss
  clear_round apart t = clear_sequence (k t) (λ x. clear_choice (clear_ended Comma (onward (t ++ x ∷ []))) (clear_gives (done (t ++ x ∷ []))) refl refl) apart

  pub clear_listed : are_apart (marked Comma ∷ []) es ≡ true → ClearlyBy T (listed item) (full_look fs (marked Comma ∷ es)) ss
  clear_listed apart =
      clear_rounds round (full_look fs (marked Comma ∷ es)) [] (marked Comma ∷ es) ss (clear_round apart) [] round_full round_onward (λ t v rest p. (clear_round apart t).ends (done v) rest p) (none_apart fs)
