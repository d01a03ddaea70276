-- A number that is printed in decimal is read as what it was.
use Rattle.std.proofs.Common.{◌≡◌, ℕ, zero, suc, ◌+◌, ◌-◌, ◌*◌, ◌/◌, ◌%◌, ◌<◌, ◌≤◌, ◌^◌, true, false, List, [], ◌∷◌, ◌++◌, length, get_or, decimal, Option, Some, None, option_and_then, ◌==◌, nat_le, refl, ap, ◌∙◌, arith}
use Rattle.std.specs.Char.{is_ascii_digit}
use Rattle.std.proofs.lemmas.Fmt.{decimal_by_steps, decimal_nonempty, first_decimal, decimal_digit}
use Rattle.std.proofs.lemmas.Bool.Decides.{nat_tests}
use Rattle.ixp_num_tables.specs.Decimals.{next_digit, number_from, number_upto}

digit_behind : (most n d : ℕ) → d < 10 → n * 10 + d ≤ most → next_digit most n (48 + d) ≡ Some (n * 10 + d)
digit_behind most n d small fits =
    let same : (48 + d) - 48 ≡ d = omega arith in
    let digit : is_ascii_digit (48 + d) ≡ true = grind (arith, nat_tests) in
    let low : nat_le (n * 10 + d) most ≡ true = grind (arith, nat_tests) in
    rw (same, digit, low) refl

from_append : (most k : ℕ) (ds : List ℕ) (d : ℕ) → number_from most k (ds ++ d ∷ []) ≡ option_and_then (λ m. number_from most m (d ∷ [])) (number_from most k ds)
from_append most k [] d = refl
from_append most k (c ∷ cs) d = by (next_digit most k c) (λ m. from_append most m cs d)
  where
    by : (o : Option ℕ) → ((m : ℕ) → number_from most m (cs ++ d ∷ []) ≡ option_and_then (λ n. number_from most n (d ∷ [])) (number_from most m cs))
        → option_and_then (λ m. number_from most m (cs ++ d ∷ [])) o ≡ option_and_then (λ m. number_from most m (d ∷ [])) (option_and_then (λ m. number_from most m cs) o)
    by None later = refl
    by (Some m) later = later m

from_printed : (most n : ℕ) → n < 2 ^ 64 → n ≤ most → number_from most 0 (decimal n) ≡ Some n
from_printed most = decimal_by_steps (λ n ds. n ≤ most → number_from most 0 ds ≡ Some n) one more
  where
    one : (n : ℕ) → n < 10 → n ≤ most → number_from most 0 ((48 + n) ∷ []) ≡ Some n
    one n small fits =
        let whole : 0 * 10 + n ≡ n = omega arith in
        ap (option_and_then (λ m. Some m)) (digit_behind most 0 n small (omega (arith, whole))) ∙ ap Some whole

    more : (n : ℕ) (ds : List ℕ) → 10 ≤ n → (n / 10 ≤ most → number_from most 0 ds ≡ Some (n / 10)) → n ≤ most → number_from most 0 (ds ++ (48 + n % 10) ∷ []) ≡ Some n
    more n ds large before fits =
        let front = before (omega arith) in
        let whole : n / 10 * 10 + n % 10 ≡ n = omega arith in
        from_append most 0 ds (48 + n % 10)
        ∙ (ap (option_and_then (λ m. number_from most m ((48 + n % 10) ∷ []))) front
        ∙ (ap (option_and_then (λ m. Some m)) (digit_behind most (n / 10) (n % 10) (omega arith) (omega arith)) ∙ ap Some whole))

upto_from : (most n : ℕ) (ds : List ℕ) → 0 < length ds → (1 < length ds → 48 < get_or ds 0 0) → number_from most 0 ds ≡ Some n → number_upto most ds ≡ Some n
upto_from most n [] some first reads = absurd (omega arith)
upto_from most n (b ∷ []) some first reads = reads
upto_from most n (b ∷ c ∷ rest) some first reads =
    let high = first (omega arith) in
    let other : (b == 48) ≡ false = grind (arith, nat_tests) in
    rw other reads

pub printed : (most n : ℕ) → n < 2 ^ 64 → n ≤ most → number_upto most (decimal n) ≡ Some n
printed most n small fits = upto_from most n (decimal n) (decimal_nonempty n small) (λ long. by long) (from_printed most n small fits)
  where
    by : 1 < length (decimal n) → 48 < get_or (decimal n) 0 0
    by long = at n small long
      where
        at : (m : ℕ) → m < 2 ^ 64 → 1 < length (decimal m) → 48 < get_or (decimal m) 0 0
        at zero s l = absurd (let e : length (decimal 0) ≡ 1 = ap length (decimal_digit 0 (omega arith)) in omega arith)
        at (suc m) s l = first_decimal (suc m) (omega arith) s
