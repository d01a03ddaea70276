-- What is printed is of the form, and says its value.
use Rattle.std.proofs.Common.{◌≡◌, ℕ, ◌+◌, ◌-◌, ◌*◌, ◌<◌, ◌≤◌, ◌/◌, ◌%◌, ◌^◌, List, [], ◌∷◌, ◌++◌, length, min, nat_le, decimal, Err, refl, sym, ap, ◌∙◌, subst, arith, le-leb}
use Rattle.std.specs.List.{AllByRecursion}
use Rattle.std.proofs.lemmas.Fmt.{decimal_by_steps}
use Rattle.std.proofs.lemmas.Bool.{cond-true}
use Rattle.ixp_num.specs.Forms.{Form, Mark, Decimal, IsDigit, value_after, IsDecimal, Said, Spelt}
use Rattle.ixp_num.specs.AddressForms.{dotted_form}

value_append : (n : ℕ) (ds : List ℕ) (d : ℕ) → value_after n (ds ++ d ∷ []) ≡ value_after n ds * 10 + (d - 48)
value_append n [] d = refl
value_append n (x ∷ xs) d = value_append (n * 10 + (x - 48)) xs d

digits_append : (ds : List ℕ) (d : ℕ) → AllByRecursion IsDigit ds → IsDigit d → AllByRecursion IsDigit (ds ++ d ∷ [])
digits_append [] d all digit = (digit, tt)
digits_append (x ∷ xs) d all digit = (all.0, digits_append xs d all.1 digit)

one_digit : (n : ℕ) → n < 10 → IsDecimal ((48 + n) ∷ []) n
one_digit n low = ((omega arith, omega arith), (λ e. refl), tt, omega arith)

more_digits : (n : ℕ) (ds : List ℕ) → 10 ≤ n → IsDecimal ds (n / 10) → IsDecimal (ds ++ (48 + n % 10) ∷ []) n
more_digits n [] high number = absurd number
more_digits n (d ∷ ds) high (digit, alone, digits, value) = (
  digit,
  (λ zero.
      let none = alone zero in
      let nothing : value_after 0 (d ∷ ds) ≡ 0 = ap (λ x. value_after 0 (d ∷ x)) none ∙ (let e : 0 * 10 + (d - 48) ≡ 0 = omega arith in e) in
      absurd (omega arith)),
  digits_append ds (48 + n % 10) digits (omega arith, omega arith),
  (let whole = value_append (0 * 10 + (d - 48)) ds (48 + n % 10) in
      let back : n ≡ value_after 0 (d ∷ ds) * 10 + (48 + n % 10 - 48) = omega arith in
      back ∙ sym whole),
)

pub decimal_spelt : (n : ℕ) → n < 2 ^ 64 → IsDecimal (decimal n) n
decimal_spelt = decimal_by_steps (λ n ds. IsDecimal ds n) one_digit more_digits

-- a number within its bound, printed before a text of what follows
pub number_spelt : (bound n : ℕ) (form : ℕ → Form) (said : Said) (rest : List ℕ) → n ≤ bound → n < 2 ^ 64 → Spelt (form n) said rest → Spelt (Decimal bound form) said (decimal n ++ rest)
number_spelt bound n form said rest low fits spelt =
    let same : n ≡ min n bound = omega arith in
    (decimal n, rest, n, said, refl, decimal_spelt n fits, subst (λ m. Spelt (form m) said rest) same spelt, sym (cond-true (nat_le n bound) said (Err (length (decimal n ++ rest))) (le-leb n bound low)))

pub dotted_spelt : (base a b c d : ℕ) (form : ℕ → Form) (said : Said) (rest : List ℕ) → a < 256 → b < 256 → c < 256 → d < 256 → Spelt (form (base + (((a * 256 + b) * 256 + c) * 256 + d))) said rest
    → Spelt (dotted_form base form) said (decimal a ++ 46 ∷ (decimal b ++ 46 ∷ (decimal c ++ 46 ∷ (decimal d ++ rest))))
dotted_spelt base a b c d form said rest la lb lc ld spelt =
    number_spelt 255 a (λ a. Mark 46 (Decimal 255 (λ b. Mark 46 (Decimal 255 (λ c. Mark 46 (Decimal 255 (λ d. form (base + (((a * 256 + b) * 256 + c) * 256 + d))))))))) said _ (omega arith) (omega arith) (
      _,
      refl,
      number_spelt 255 b (λ b. Mark 46 (Decimal 255 (λ c. Mark 46 (Decimal 255 (λ d. form (base + (((a * 256 + b) * 256 + c) * 256 + d))))))) said _ (omega arith) (omega arith) (
        _,
        refl,
        number_spelt 255 c (λ c. Mark 46 (Decimal 255 (λ d. form (base + (((a * 256 + b) * 256 + c) * 256 + d))))) said _ (omega arith) (omega arith)
            (_, refl, number_spelt 255 d (λ d. form (base + (((a * 256 + b) * 256 + c) * 256 + d))) said rest (omega arith) (omega arith) spelt),
      ),
    )
