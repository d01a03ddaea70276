-- A number that is told to be above its bound, whatever follows it, stands there and is.
use Rattle.std.proofs.Common.{◌≡◌, ℕ, suc, ◌+◌, ◌<◌, ◌≤◌, ◌⊎◌, inl, inr, Bool, true, false, not, ◌&&◌, ◌||◌, ◌==◌, nat_lt, List, [], ◌∷◌, ◌++◌, length, min, Option, Some, None, Result, Ok, Err, unwrap_or, refl, sym, ap, ◌∙◌, subst, arith, append_assoc, length-append, if◌then◌else◌}
use Rattle.std.proofs.lemmas.Bool.{and_parts, or_cases, eqb-true, ltb-true}
use Rattle.std.proofs.Math.Nat.{min-le_right}
use Rattle.ixp_num.specs.Forms.{IsDigit}
use Rattle.ixp_num.specs.Reading.{cap, is_digit, number_at}
use Rattle.ixp_num.proofs.Digits.{Numbered, Ends, number_again, number_split, number_missing}
use Rattle.ixp_lang.specs.RouteReading.{begins_with, is_above, first_above, bits_in, halt_place}
use Rattle.ixp_lang.specs.RouteTexts.{EndsIn, BeginsIn, NumberAbove}

-- the byte stands before what follows, or nothing but a blank does
abbrev Before : ℕ → List ℕ → Type 0
Before b front = EndsIn b front ⊎ (b ≡ 32)

beside : (b x : ℕ) (front : List ℕ) → (b == x) ≡ true → ¬ (x ≡ 32) → Before b front → EndsIn x front
beside b x front e other (inl ends) = subst (λ y. EndsIn y front) (eqb-true b x e) ends
beside b x front e other (inr blank) = absurd (other (sym (eqb-true b x e) ∙ blank))

begun : (x : ℕ) (rest : List ℕ) → begins_with x rest ≡ true → BeginsIn x rest
begun x [] e = absurd cc
begun x (c ∷ cs) e = (cs, ap (λ y. y ∷ cs) (eqb-true c x e))

dot_above : (b n m : ℕ) (front rest : List ℕ) → m ≤ n → Before b front → ((b == 46 || begins_with 46 rest) && nat_lt 255 m) ≡ true → (255 < n) × (EndsIn 46 front ⊎ BeginsIn 46 rest)
dot_above b n m front rest less ends e =
    let parts : ((b == 46 || begins_with 46 rest) ≡ true) × (nat_lt 255 m ≡ true) = and_parts (b == 46 || begins_with 46 rest) (nat_lt 255 m) e in
    let great : 255 < m = ltb-true 255 m parts.1 in (
      omega (arith, great, less),
      elim (or_cases (b == 46) (begins_with 46 rest) parts.0) [
        | inl h ↦ inl (beside b 46 front h (λ x. cc) ends)
        | inr h ↦ inr (begun 46 rest h)
      ],
    )

slash_above : (bits b n m : ℕ) (front : List ℕ) → m ≤ n → Before b front → (b == 47 && nat_lt bits m) ≡ true → (bits < n) × EndsIn 47 front
slash_above bits b n m front less ends e =
    let parts : ((b == 47) ≡ true) × (nat_lt bits m ≡ true) = and_parts (b == 47) (nat_lt bits m) e in
    let great : bits < m = ltb-true bits m parts.1 in
    (omega (arith, great, less), beside b 47 front parts.0 (λ x. cc) ends)

number_above : (bits b n m : ℕ) (front rest : List ℕ) → m ≤ n → Before b front → is_above bits b (Ok (m, rest)) ≡ true → ((255 < n) × (EndsIn 46 front ⊎ BeginsIn 46 rest)) ⊎ ((bits < n) × EndsIn 47 front)
number_above bits b n m front rest less ends e =
    elim (or_cases ((b == 46 || begins_with 46 rest) && nat_lt 255 m) (b == 47 && nat_lt bits m) e) [
      | inl h ↦ inl (dot_above b n m front rest less ends h)
      | inr h ↦ inr (slash_above bits b n m front less ends h)
    ]

here_above : (bits b : ℕ) (front t : List ℕ) → Before b front → is_above bits b (number_at t) ≡ true → Numbered t ⊎ Ends IsDigit t → NumberAbove bits (front ++ t) (length front)
here_above bits b front t ends e (inr missing) = let none : is_above bits b (Err (length t)) ≡ true = ap (is_above bits b) (sym (number_missing t missing)) ∙ e in absurd cc
here_above bits b front t ends e (inl x) = record {
  before = front;
  number = x.front;
  behind = x.rest;
  value = x.n;
  whole = ap (λ r. front ++ r) x.parts;
  here = refl;
  is_number = x.spelt;
  above =
      number_above bits b x.n (min cap x.n) front x.rest (min-le_right cap x.n) ends
      (ap (is_above bits b) (sym (ap number_at x.parts ∙ number_again x.front x.rest x.n x.spelt x.closed)) ∙ e);
}

found_by : (bits b p : ℕ) (front : List ℕ) (c : ℕ) (cs : List ℕ) (is_here : Bool) → Before b front → (not (is_digit b) && is_above bits b (number_at (c ∷ cs))) ≡ is_here
    → (if is_here then Some (length front) else first_above bits c (length front + 1) cs) ≡ Some p
    → (first_above bits c (length (front ++ c ∷ [])) cs ≡ Some p → NumberAbove bits ((front ++ c ∷ []) ++ cs) p) → NumberAbove bits (front ++ c ∷ cs) p
found_by bits b p front c cs true ends h e later =
    let place : length front ≡ p = cc in
    subst (NumberAbove bits (front ++ c ∷ cs)) place (here_above bits b front (c ∷ cs) ends (and_parts (not (is_digit b)) (is_above bits b (number_at (c ∷ cs))) h).1 (number_split (c ∷ cs)))
found_by bits b p front c cs false ends h e later =
    let long : length front + 1 ≡ length (front ++ c ∷ []) = sym (length-append front (c ∷ [])) in
    subst (λ t. NumberAbove bits t p) (append_assoc front (c ∷ []) cs) (later (ap (λ n. first_above bits c n cs) (sym long) ∙ e))

first_is_above : (bits b p : ℕ) (front t : List ℕ) → Before b front → first_above bits b (length front) t ≡ Some p → NumberAbove bits (front ++ t) p
first_is_above bits b p front [] ends e = absurd cc
first_is_above bits b p front (c ∷ cs) ends e =
    found_by bits b p front c cs (not (is_digit b) && is_above bits b (number_at (c ∷ cs))) ends refl e (first_is_above bits c p (front ++ c ∷ []) cs (inl (front, refl)))

halt_by : (bits at : ℕ) (front : List ℕ) (o : Option ℕ) → first_above bits 32 0 front ≡ o → (unwrap_or o at ≡ at) ⊎ NumberAbove bits front (unwrap_or o at)
halt_by bits at front None e = inl refl
halt_by bits at front (Some p) e = inr (first_is_above bits 32 p [] front (inr refl) e)

-- an address halts where none goes on, or at a number before that is above its bound
pub halts : (front : List ℕ) (at : ℕ) → (halt_place front at ≡ at) ⊎ NumberAbove (bits_in front) front (halt_place front at)
halts front at = halt_by (bits_in front) at front (first_above (bits_in front) 32 0 front) refl
