-- Decimal numbers of at most so much.
use Rattle.std.proofs.Common.{◌≡◌, ◌<◌, ◌≤◌, ◌^◌, ◌⊎◌, inl, inr, ℕ, min, List, [], ◌++◌, length, Result, Ok, Err, sym, ap, ◌∙◌, subst, arith, append-nil}
use Rattle.ixp_num.specs.Forms.{IsDigit, IsDecimal}
use Rattle.ixp_num.specs.Reading.{cap, number_at}
use Rattle.ixp_num.proofs.Digits.{Ends, Numbered, number_again, number_split, number_missing}
use Rattle.ixp_eval_trial.specs.Readings.{IsUpTo}

abbrev said : ℕ → Result (ℕ × List ℕ) ℕ
said m = Ok (m, [])

-- what is told of a field, where it has such a number
told_again : (most : ℕ) (t : List ℕ) (n : ℕ) → most < 2 ^ 32 → IsUpTo most t n → number_at t ≡ Ok (n, [])
told_again most t n few (is, low) =
    let least : min cap n ≡ n = omega (arith, few, low) in
    ap number_at (sym (append-nil t)) ∙ number_again t [] n is (inr tt) ∙ ap (λ m. said m) least

numbered_same : (m n : ℕ) (xs ys : List ℕ) → ◌≡◌ {A = Result (ℕ × List ℕ) ℕ} (Ok (m, xs)) (Ok (n, ys)) → (m ≡ n) × (xs ≡ ys)
numbered_same m n xs ys e =
    let same : ◌≡◌ {A = ℕ × List ℕ} (m, xs) (n, ys) = cc in
    (ap (λ (p : ℕ × List ℕ). p.0) same, ap (λ (p : ℕ × List ℕ). p.1) same)

pub missing : (most : ℕ) (t : List ℕ) (left : ℕ) → most < 2 ^ 32 → number_at t ≡ Err left → (n : ℕ) → ¬ (IsUpTo most t n)
missing most t left few e n is = let same : ◌≡◌ {A = Result (ℕ × List ℕ) ℕ} (Err left) (Ok (n, [])) = sym e ∙ told_again most t n few is in absurd cc

pub more_behind : (most : ℕ) (t rest : List ℕ) (m : ℕ) → most < 2 ^ 32 → number_at t ≡ Ok (m, rest) → ¬ (rest ≡ []) → (n : ℕ) → ¬ (IsUpTo most t n)
more_behind most t rest m few e some n is = some (numbered_same m n rest [] (sym e ∙ told_again most t n few is)).1

pub above : (most : ℕ) (t : List ℕ) (m : ℕ) → most < 2 ^ 32 → number_at t ≡ Ok (m, []) → most < m → (n : ℕ) → ¬ (IsUpTo most t n)
above most t m few e great n is = let same = (numbered_same m n [] [] (sym e ∙ told_again most t n few is)).0 in let low = is.1 in absurd (omega (arith, great))

numbered : (most : ℕ) (t : List ℕ) (m : ℕ) → most < 2 ^ 32 → Numbered t ⊎ Ends IsDigit t → number_at t ≡ Ok (m, []) → m ≤ most → IsUpTo most t m
numbered most t m few (inl x) e low =
    let there : ◌≡◌ {A = Result (ℕ × List ℕ) ℕ} (Ok (min cap x.n, x.rest)) (Ok (m, [])) = sym (ap number_at x.parts ∙ number_again x.front x.rest x.n x.spelt x.closed) ∙ e in
    let value : min cap x.n ≡ m = (numbered_same (min cap x.n) m x.rest [] there).0 in
    let same : x.n ≡ m = omega (arith, few, low) in
    let none : x.rest ≡ [] = (numbered_same (min cap x.n) m x.rest [] there).1 in
    let whole : x.front ≡ t = sym (append-nil x.front) ∙ (ap (λ r. x.front ++ r) (sym none) ∙ sym x.parts) in
    (subst (λ f. IsDecimal f m) whole (subst (λ n. IsDecimal x.front n) same x.spelt), low)
numbered most t m few (inr ends) e low = absurd (let there : ◌≡◌ {A = Result (ℕ × List ℕ) ℕ} (Err (length t)) (Ok (m, [])) = sym (number_missing t ends) ∙ e in let h : ⊥ = cc in h)

pub there : (most : ℕ) (t : List ℕ) (m : ℕ) → most < 2 ^ 32 → number_at t ≡ Ok (m, []) → m ≤ most → IsUpTo most t m
there most t m few e low = numbered most t m few (number_split t) e low
