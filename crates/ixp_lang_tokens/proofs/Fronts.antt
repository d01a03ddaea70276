-- Which token stands first: a mark, a keyword, or any one of a sort. Tests of several are told apart by comparing lists.
use Rattle.std.proofs.Common.{◌≡◌, ℕ, Bool, true, false, not, ◌&&◌, ◌||◌, ◌==◌, List, [], ◌∷◌, ◌++◌, refl, sym, ◌∙◌, subst}
use Rattle.std.specs.Cmp.Lexicographic.{told_text}
use Rattle.std.proofs.lemmas.Bool.{eqb-true, eq-eqb, eqb-false, and_parts}
use Rattle.std.proofs.lemmas.Cmp.{nat_list_eq_equiv}
use Rattle.ixp_lang_tokens.specs.declared.token.Kind.{Kind}
use Rattle.ixp_lang_tokens.specs.declared.token.Kind.TheVariants as kind
use Rattle.ixp_lang_tokens.specs.declared.token.Mark.{Mark}
use Rattle.ixp_lang_tokens.specs.Pieces.{rank, same_word, is_word, is_next}

pub data Front : Type 0 where
  marked : Mark → Front
  keyword : List ℕ → Front
  word : Front
  name : Front
  number : Front
  addr : Front
  prefix : Front
  text : Front

-- sorts of tokens are told apart by number: each mark is a sort
abbrev pub sort : Kind → ℕ
sort (kind.Mark m) = rank m
sort (kind.Word w) = 27
sort (kind.Name n) = 28
sort (kind.Number n) = 29
sort (kind.Addr a) = 30
sort (kind.Prefix p) = 31
sort (kind.Text t) = 32
sort kind.BadByte = 33
sort kind.BadNumber = 34

abbrev pub sort_of : Front → ℕ
sort_of (marked m) = rank m
sort_of (keyword w) = 27
sort_of word = 27
sort_of name = 28
sort_of number = 29
sort_of addr = 30
sort_of prefix = 31
sort_of text = 32

abbrev pub is_front : Front → Kind → Bool
is_front (keyword w) token = is_word w token
is_front f token = sort token == sort_of f

abbrev pub one_of : List Front → Kind → Bool
one_of [] token = false
one_of (f ∷ fs) token = is_front f token || one_of fs token

-- one of these is the first of the tokens
abbrev pub Starts : List Front → List Kind → Type 0
Starts fs ts = is_next (one_of fs) ts ≡ true

abbrev pub are_other_words : Front → Front → Bool
are_other_words (keyword a) (keyword b) = not (same_word a b)
are_other_words _ _ = false

-- no token is of both
abbrev pub is_apart : Front → Front → Bool
is_apart f g = not (sort_of f == sort_of g) || are_other_words f g

abbrev pub is_apart_from : Front → List Front → Bool
is_apart_from f [] = true
is_apart_from f (g ∷ gs) = is_apart f g && is_apart_from f gs

abbrev pub are_apart : List Front → List Front → Bool
are_apart [] gs = true
are_apart (f ∷ fs) gs = is_apart_from f gs && are_apart fs gs

-- each token of the first is one of the second
abbrev pub is_within : Front → Front → Bool
is_within (keyword a) (keyword b) = same_word a b
is_within f (keyword b) = false
is_within f g = sort_of f == sort_of g

abbrev pub is_among : Front → List Front → Bool
is_among f [] = false
is_among f (g ∷ gs) = is_within f g || is_among f gs

abbrev pub are_among : List Front → List Front → Bool
are_among [] gs = true
are_among (f ∷ fs) gs = is_among f gs && are_among fs gs

pub same_is : (a b : List ℕ) → same_word a b ≡ true → a ≡ b
same_is a b e = told_text a b true (sym e)

pub is_same : (a b : List ℕ) → a ≡ b → same_word a b ≡ true
is_same a b e = subst (λ x. same_word a x ≡ true) e (nat_list_eq_equiv.refl a)

pub or_elim : {C : Type 0} (a b : Bool) → (a || b) ≡ true → (a ≡ true → C) → (b ≡ true → C) → C
or_elim true b e f g = f refl
or_elim false b e f g = g e

pub or_left : (a b : Bool) → a ≡ true → (a || b) ≡ true
or_left true b e = refl
or_left false b e = absurd cc

pub or_right : (a b : Bool) → b ≡ true → (a || b) ≡ true
or_right true b e = refl
or_right false b e = e

sort_is : (f : Front) (k : Kind) → is_front f k ≡ true → sort k ≡ sort_of f
sort_is (keyword w) (kind.Word found) e = refl
sort_is (keyword w) k e = absurd cc
sort_is f k e = eqb-true (sort k) (sort_of f) e

words_apart : (f g : Front) (k : Kind) → are_other_words f g ≡ true → is_front f k ≡ true → is_front g k ≡ true → ⊥
words_apart (keyword a) (keyword b) (kind.Word w) apart p q = by_words (same_word a b) (is_same a b (sym (same_is w a p) ∙ same_is w b q)) apart
  where
    by_words : (same : Bool) → same ≡ true → not same ≡ true → ⊥
    by_words true e h = cc
    by_words false e h = cc
words_apart f g k apart p q = cc

front_apart : (f g : Front) (k : Kind) → is_apart f g ≡ true → is_front f k ≡ true → is_front g k ≡ true → ⊥
front_apart f g k apart p q = by_sorts (sort_of f == sort_of g) refl apart
  where
    by_sorts : (same : Bool) → (sort_of f == sort_of g) ≡ same → (not same || are_other_words f g) ≡ true → ⊥
    by_sorts true e h = words_apart f g k h p q
    by_sorts false e h = eqb-false (sort_of f) (sort_of g) e (sym (sort_is f k p) ∙ sort_is g k q)

front_apart_from : (f : Front) (gs : List Front) (k : Kind) → is_apart_from f gs ≡ true → is_front f k ≡ true → one_of gs k ≡ true → ⊥
front_apart_from f [] k apart p q = cc
front_apart_from f (g ∷ gs) k apart p q =
    let both = and_parts (is_apart f g) (is_apart_from f gs) apart in
    or_elim (is_front g k) (one_of gs k) q (front_apart f g k both.0 p) (front_apart_from f gs k both.1 p)

fronts_apart : (fs gs : List Front) (k : Kind) → are_apart fs gs ≡ true → one_of fs k ≡ true → one_of gs k ≡ true → ⊥
fronts_apart [] gs k apart p q = cc
fronts_apart (f ∷ fs) gs k apart p q =
    let both = and_parts (is_apart_from f gs) (are_apart fs gs) apart in
    or_elim (is_front f k) (one_of fs k) p (λ first. front_apart_from f gs k both.0 first q) (λ later. fronts_apart fs gs k both.1 later q)

front_within : (f g : Front) (k : Kind) → is_within f g ≡ true → is_front f k ≡ true → is_front g k ≡ true
front_within (keyword a) (keyword b) (kind.Word w) within p = is_same w b (same_is w a p ∙ same_is a b within)
front_within (keyword a) (keyword b) k within p = absurd cc
front_within f (keyword b) k within p = absurd cc
front_within f g k within p = eq-eqb (sort k) (sort_of g) (sort_is f k p ∙ eqb-true (sort_of f) (sort_of g) within)

front_among : (f : Front) (gs : List Front) (k : Kind) → is_among f gs ≡ true → is_front f k ≡ true → one_of gs k ≡ true
front_among f [] k among p = absurd cc
front_among f (g ∷ gs) k among p =
    or_elim (is_within f g) (is_among f gs) among
    (λ first. or_left (is_front g k) (one_of gs k) (front_within f g k first p))
    (λ later. or_right (is_front g k) (one_of gs k) (front_among f gs k later p))

fronts_among : (fs gs : List Front) (k : Kind) → are_among fs gs ≡ true → one_of fs k ≡ true → one_of gs k ≡ true
fronts_among [] gs k among p = absurd cc
fronts_among (f ∷ fs) gs k among p =
    let both = and_parts (is_among f gs) (are_among fs gs) among in
    or_elim (is_front f k) (one_of fs k) p (front_among f gs k both.0) (fronts_among fs gs k both.1)

pub starts_apart : (fs gs : List Front) (ts : List Kind) → are_apart fs gs ≡ true → Starts fs ts → Starts gs ts → ⊥
starts_apart fs gs [] apart p q = cc
starts_apart fs gs (k ∷ ts) apart p q = fronts_apart fs gs k apart p q

pub starts_among : (fs gs : List Front) (ts : List Kind) → are_among fs gs ≡ true → Starts fs ts → Starts gs ts
starts_among fs gs [] among p = absurd cc
starts_among fs gs (k ∷ ts) among p = fronts_among fs gs k among p

pub fronts_left : (fs gs : List Front) (k : Kind) → one_of fs k ≡ true → one_of (fs ++ gs) k ≡ true
fronts_left [] gs k p = absurd cc
fronts_left (f ∷ fs) gs k p =
    or_elim (is_front f k) (one_of fs k) p (or_left (is_front f k) (one_of (fs ++ gs) k)) (λ later. or_right (is_front f k) (one_of (fs ++ gs) k) (fronts_left fs gs k later))

pub fronts_right : (fs gs : List Front) (k : Kind) → one_of gs k ≡ true → one_of (fs ++ gs) k ≡ true
fronts_right [] gs k p = p
fronts_right (f ∷ fs) gs k p = or_right (is_front f k) (one_of (fs ++ gs) k) (fronts_right fs gs k p)

pub starts_left : (fs gs : List Front) (ts : List Kind) → Starts fs ts → Starts (fs ++ gs) ts
starts_left fs gs [] p = absurd cc
starts_left fs gs (k ∷ ts) p = fronts_left fs gs k p

pub starts_right : (fs gs : List Front) (ts : List Kind) → Starts gs ts → Starts (fs ++ gs) ts
starts_right fs gs [] p = absurd cc
starts_right fs gs (k ∷ ts) p = fronts_right fs gs k p

-- no token is one of none
pub starts_never : (ts : List Kind) → ¬ (Starts [] ts)
starts_never [] p = cc
starts_never (k ∷ ts) p = cc
