-- Numbers with the same first bits.
use Rattle.std.proofs.Common.{◌≡◌, ◌≤◌, ◌<◌, ◌+◌, ◌-◌, ◌*◌, ◌/◌, ◌%◌, ◌^◌, ◌⊎◌, inl, inr, ℕ, sym, ap, ◌∙◌, subst, arith}
use Rattle.std.proofs.Math.Nat.{mul-mod_left}
use Rattle.std.proofs.lemmas.Bool.{cases_lt}
use Rattle.std.proofs.lemmas.Nat.{div-add-mod', mod_below, pow_pos, pow-add, le-div, div_below}

pub whole : (v w : ℕ) → v % w ≡ 0 → v / w * w ≡ v
whole v w none = let split = div-add-mod' v w in omega arith

-- between a number and one with its first bits all have these
pub bits_between : (v x y w : ℕ) → 0 < w → v % w ≡ 0 → y / w ≡ v / w → v ≤ x → x ≤ y → x / w ≡ v / w
bits_between v x y w some none bits low high =
    let start : v / w * w ≡ v = whole v w none in
    let split : y / w * w + y % w ≡ y = div-add-mod' y w in
    let moved : v / w * w + y % w ≡ y = subst (λ k. k * w + y % w ≡ y) bits split in
    let rest : y % w < w = mod_below y w some in
    let more : (v / w + 1) * w ≡ v / w * w + w = omega arith in
    let below : x < (v / w + 1) * w = omega arith in
    let up : v / w ≤ x / w = le-div (v / w) x w some (omega arith) in
    let down : x / w < v / w + 1 = div_below x w (v / w + 1) some below in
    omega arith

-- a multiple of a greater power is one of a smaller one
pub fewer : (x b l m : ℕ) → l ≤ b → m ≤ l → x % 2 ^ (b - m) ≡ 0 → x % 2 ^ (b - l) ≡ 0
fewer x b l m short le none =
    let k : ℕ = x / 2 ^ (b - m) in
    let sum : b - m ≡ (l - m) + (b - l) = omega arith in
    let power : 2 ^ (b - m) ≡ 2 ^ (l - m) * 2 ^ (b - l) = ap (λ n. 2 ^ n) sum ∙ pow-add 2 (l - m) (b - l) in
    let is : k * 2 ^ (b - m) ≡ x = whole x (2 ^ (b - m)) none in
    let moved : k * (2 ^ (l - m) * 2 ^ (b - l)) ≡ x = subst (λ p. k * p ≡ x) power is in
    let parted : k * 2 ^ (l - m) * 2 ^ (b - l) ≡ x = omega (arith, moved) in
    subst (λ n. n % 2 ^ (b - l) ≡ 0) parted (mul-mod_left (k * 2 ^ (l - m)) (2 ^ (b - l)))

abbrev pub Inside : ℕ → ℕ → ℕ → ℕ → ℕ → Type 0
Inside b l m v x = (l ≤ m) × (x / 2 ^ (b - l) ≡ v / 2 ^ (b - l))

pub inside : (b l m v x y : ℕ) → l ≤ b → v % 2 ^ (b - l) ≡ 0 → x % 2 ^ (b - m) ≡ 0 → y / 2 ^ (b - l) ≡ v / 2 ^ (b - l) → v ≤ x → x ≤ y → (v ≡ x → l ≤ m) → Inside b l m v x
inside b l m v x y short none_v none_x bits low high first = (by (cases_lt m l), same) where
  same : x / 2 ^ (b - l) ≡ v / 2 ^ (b - l)
  same = bits_between v x y (2 ^ (b - l)) (pow_pos (b - l)) none_v bits low high

  by : (m < l) ⊎ (l ≤ m) → l ≤ m
  by (inr le) = le
  by (inl less) =
      let none : x % 2 ^ (b - l) ≡ 0 = fewer x b l m short (omega arith) none_x in
      let one : x / 2 ^ (b - l) * 2 ^ (b - l) ≡ x = whole x (2 ^ (b - l)) none in
      let two : v / 2 ^ (b - l) * 2 ^ (b - l) ≡ v = whole v (2 ^ (b - l)) none_v in
      first (sym two ∙ (ap (λ k. k * 2 ^ (b - l)) (sym same) ∙ one))
