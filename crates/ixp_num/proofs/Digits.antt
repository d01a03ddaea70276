-- Digits, and the decimal number at the front of a text.
use Rattle.std.proofs.Common.{◌≡◌, ◌≢◌, ℕ, ◌+◌, ◌-◌, ◌*◌, ◌≤◌, ◌⊎◌, inl, inr, true, false, List, [], ◌∷◌, ◌++◌, length, min, nat_le, ◌==◌, Ok, Err, refl, sym, ap, ◌∙◌, arith, le-leb, leb-true, ne_eqb, eq-eqb}
use Rattle.std.specs.List.{AllByRecursion}
use Rattle.std.proofs.lemmas.Bool.{cases_Bool, and_parts, and_from, cond-true, cond-false, false_from_ne_true, both_ways, cases_eq}
use Rattle.ixp_num.specs.Forms.{IsDigit, value_after, IsDecimal}
use Rattle.ixp_num.specs.Reading.{is_digit, cap, digits_after, number_at, mark_at}

abbrev pub pair : {A B : Type 0} → A → B → A × B
pair a b = (a, b)

pub digit_true : (c : ℕ) → is_digit c ≡ true → IsDigit c
digit_true c e =
    let parts = and_parts (nat_le 48 c) (nat_le c 57) e in
    (leb-true 48 c parts.0, leb-true c 57 parts.1)

pub digit_again : (c : ℕ) → IsDigit c → is_digit c ≡ true
digit_again c d = and_from (nat_le 48 c) (nat_le c 57) (le-leb 48 c d.0) (le-leb c 57 d.1)

pub digit_false : (c : ℕ) → is_digit c ≡ false → ¬ (IsDigit c)
digit_false c e d = both_ways (is_digit c) e (digit_again c d)

pub no_digit : (c : ℕ) → ¬ (IsDigit c) → is_digit c ≡ false
no_digit c no_d = false_from_ne_true (is_digit c) (λ e. no_d (digit_true c e))

-- the list doesn't begin with such a byte
abbrev pub Ends : (ℕ → Type 0) → List ℕ → Type 0
Ends P [] = Unit {0}
Ends P (c ∷ cs) = ¬ (P c)

pub same_head : (P : ℕ → Type 0) (front : List ℕ) (c : ℕ) (y more : List ℕ) → Ends P (front ++ c ∷ y) → Ends P (front ++ c ∷ more)
same_head P [] c y more ends = ends
same_head P (d ∷ ds) c y more ends = ends

-- the digits at the front
pub record Digits (t : List ℕ) : Type 0 where
  pub front : List ℕ
  pub rest : List ℕ
  pub parts : t ≡ front ++ rest
  pub digits : AllByRecursion IsDigit front
  pub ends : Ends IsDigit rest

digits_step : (c : ℕ) (cs : List ℕ) → (is_digit c ≡ true) ⊎ (is_digit c ≡ false) → Digits cs → Digits (c ∷ cs)
digits_step c cs (inl e) d = record { front = c ∷ d.front; rest = d.rest; parts = ap (λ x. c ∷ x) d.parts; digits = (digit_true c e, d.digits); ends = d.ends }
digits_step c cs (inr e) d = record { front = []; rest = c ∷ cs; parts = refl; digits = tt; ends = digit_false c e }

pub digits_split : (t : List ℕ) → Digits t
digits_split [] = record { front = []; rest = []; parts = refl; digits = tt; ends = tt }
digits_split (c ∷ cs) = digits_step c cs (cases_Bool (is_digit c)) (digits_split cs)

cap_step : (n d : ℕ) → min cap (min cap n * 10 + d) ≡ min cap (n * 10 + d)
cap_step n d = omega arith

pub cap_value : (n : ℕ) (ds : List ℕ) → min cap (value_after (min cap n) ds) ≡ min cap (value_after n ds)
cap_value n [] = omega arith
cap_value n (d ∷ ds) =
    sym (cap_value (min cap n * 10 + (d - 48)) ds)
    ∙ ap (λ m. min cap (value_after m ds)) (cap_step n (d - 48))
    ∙ cap_value (n * 10 + (d - 48)) ds

pub digits_again : (n : ℕ) (front rest : List ℕ) → n ≤ cap → AllByRecursion IsDigit front → Ends IsDigit rest → digits_after n (front ++ rest) ≡ (min cap (value_after n front), rest)
digits_again n [] [] low d ends = let e : n ≡ min cap n = omega arith in ap (λ m. pair m []) e
digits_again n [] (c ∷ cs) low d ends =
    let e : n ≡ min cap n = omega arith in
    cond-false (is_digit c) _ _ (no_digit c ends) ∙ ap (λ m. pair m (c ∷ cs)) e
digits_again n (c ∷ cs) rest low d ends =
    let small : min cap (n * 10 + (c - 48)) ≤ cap = omega arith in
    cond-true (is_digit c) _ _ (digit_again c d.0)
    ∙ digits_again (min cap (n * 10 + (c - 48))) cs rest small d.1 ends
    ∙ ap (λ m. pair m rest) (cap_value (n * 10 + (c - 48)) cs)

-- nothing in `rest` can belong to the number
abbrev pub Closed : List ℕ → List ℕ → Type 0
Closed front rest = (front ≡ 48 ∷ []) ⊎ Ends IsDigit rest

number_digits : (c : ℕ) (cs rest : List ℕ) → c ≢ 48 → IsDigit c → AllByRecursion IsDigit cs → Ends IsDigit rest → number_at (c ∷ (cs ++ rest)) ≡ Ok (min cap (value_after 0 (c ∷ cs)), rest)
unfolding number_at
number_digits c cs rest ne d ds ends =
    let small : c - 48 ≤ cap = omega arith in
    let same : c - 48 ≡ 0 * 10 + (c - 48) = omega arith in
    cond-false (c == 48) _ _ (ne_eqb c 48 ne)
    ∙ cond-true (is_digit c) _ _ (digit_again c d)
    ∙ ap Ok (digits_again (c - 48) cs rest small ds ends)
    ∙ ap (λ m. Ok (pair (min cap (value_after m cs)) rest)) same

number_zero : (rest : List ℕ) → number_at (48 ∷ rest) ≡ Ok (0, rest)
unfolding number_at
number_zero rest = refl

number_begun : (c : ℕ) (cs rest : List ℕ) (n : ℕ) → (c ≡ 48) ⊎ (c ≢ 48) → IsDecimal (c ∷ cs) n → Closed (c ∷ cs) rest → number_at (c ∷ (cs ++ rest)) ≡ Ok (min cap n, rest)
number_begun c cs rest n (inl zero) spelt closed =
    let none = spelt.1 zero in
    let value : 0 ≡ min cap n = ap (λ x. min cap (value_after 0 x)) (ap (λ x. 48 ∷ x) (sym none) ∙ ap (λ x. x ∷ cs) (sym zero)) ∙ ap (min cap) (sym spelt.3) in
    ap (λ x. number_at (x ∷ (cs ++ rest))) zero ∙ ap (λ x. number_at (48 ∷ (x ++ rest))) none ∙ number_zero rest ∙ ap (λ m. Ok (pair m rest)) value
number_begun c cs rest n (inr ne) spelt (inl only) = absurd (ne cc)
number_begun c cs rest n (inr ne) spelt (inr ends) =
    number_digits c cs rest ne spelt.0 spelt.2 ends ∙ ap (λ m. Ok (pair (min cap m) rest)) (sym spelt.3)

pub number_again : (front rest : List ℕ) (n : ℕ) → IsDecimal front n → Closed front rest → number_at (front ++ rest) ≡ Ok (min cap n, rest)
number_again [] rest n spelt closed = absurd spelt
number_again (c ∷ cs) rest n spelt closed = number_begun c cs rest n (cases_eq c 48) spelt closed

-- the decimal number at the front
pub record Numbered (t : List ℕ) : Type 0 where
  pub front : List ℕ
  pub rest : List ℕ
  pub n : ℕ
  pub parts : t ≡ front ++ rest
  pub spelt : IsDecimal front n
  pub closed : Closed front rest

number_step : (c : ℕ) (cs : List ℕ) → (c ≡ 48) ⊎ (c ≢ 48) → (is_digit c ≡ true) ⊎ (is_digit c ≡ false) → Numbered (c ∷ cs) ⊎ Ends IsDigit (c ∷ cs)
number_step c cs (inl zero) digit = inl (record {
  front = c ∷ [];
  rest = cs;
  n = value_after 0 (c ∷ []);
  parts = refl;
  spelt = ((omega arith, omega arith), (λ e. refl), tt, refl);
  closed = inl (ap (λ x. x ∷ []) zero);
})
number_step c cs (inr ne) (inl e) = let d = digits_split cs in inl (record {
  front = c ∷ d.front;
  rest = d.rest;
  n = value_after 0 (c ∷ d.front);
  parts = ap (λ x. c ∷ x) d.parts;
  spelt = (digit_true c e, (λ z. absurd (ne z)), d.digits, refl);
  closed = inr d.ends;
})
number_step c cs (inr ne) (inr e) = inr (digit_false c e)

pub number_split : (t : List ℕ) → Numbered t ⊎ Ends IsDigit t
number_split [] = inr tt
number_split (c ∷ cs) = number_step c cs (cases_eq c 48) (cases_Bool (is_digit c))

pub number_missing : (t : List ℕ) → Ends IsDigit t → number_at t ≡ Err (length t)
unfolding number_at
number_missing [] ends = refl
number_missing (c ∷ cs) ends =
    let ne : c ≢ 48 = λ e. ends (omega arith, omega arith) in
    cond-false (c == 48) _ _ (ne_eqb c 48 ne) ∙ cond-false (is_digit c) _ _ (no_digit c ends)

pub decimal_begins : (front rest : List ℕ) (n : ℕ) → IsDecimal front n → ¬ (Ends IsDigit (front ++ rest))
decimal_begins [] rest n spelt ends = spelt
decimal_begins (c ∷ cs) rest n spelt ends = ends spelt.0

pub mark_again : (b : ℕ) (rest : List ℕ) → mark_at b (b ∷ rest) ≡ Ok rest
unfolding mark_at
mark_again b rest = cond-true (b == b) _ _ (eq-eqb b b refl)

-- the byte stands at the front, or it doesn't
abbrev pub Marked : ℕ → List ℕ → Type 0
Marked b t = ((rest : List ℕ) × (t ≡ b ∷ rest)) ⊎ Ends (λ c. c ≡ b) t

mark_step : (b c : ℕ) (cs : List ℕ) → (c ≡ b) ⊎ (c ≢ b) → Marked b (c ∷ cs)
mark_step b c cs (inl e) = inl (cs, ap (λ x. x ∷ cs) e)
mark_step b c cs (inr ne) = inr ne

pub mark_split : (b : ℕ) (t : List ℕ) → Marked b t
mark_split b [] = inr tt
mark_split b (c ∷ cs) = mark_step b c cs (cases_eq c b)

pub mark_missing : (b : ℕ) (t : List ℕ) → Ends (λ c. c ≡ b) t → mark_at b t ≡ Err (length t)
unfolding mark_at
mark_missing b [] ends = refl
mark_missing b (c ∷ cs) ends = cond-false (c == b) _ _ (ne_eqb c b ends)
