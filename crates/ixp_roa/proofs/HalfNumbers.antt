-- Numbers in two halves of 64 bits.
use Rattle.std.proofs.Common.{◌≡◌, ◌<◌, ◌+◌, ◌*◌, ◌%◌, ◌^◌, ℕ, ap, ◌∙◌, arith}
use Rattle.ixp_num.specs.Families.{bits_of}
use Rattle.ixp_num.specs.declared.family.Family.{Family}
use Rattle.ixp_num.specs.declared.family.Family.TheVariants.{V4, V6}

small : (f : Family) (v : ℕ) → v < 2 ^ bits_of f → v < 2 ^ 128
small V4 v less = let h : v < 2 ^ 32 = less in omega arith
small V6 v less = less

put_together : (u l : ℕ) → u * 2 ^ 64 + l < 2 ^ 128 → u * 2 ^ 64 % 2 ^ 128 + l ≡ u * 2 ^ 64 + l
put_together u l less = omega arith

-- the halves put together again
pub whole_number : (f : Family) (u l a b : ℕ) → a ≡ u → b ≡ l → u * 2 ^ 64 + l < 2 ^ bits_of f → a * 2 ^ 64 % 2 ^ 128 + b ≡ u * 2 ^ 64 + l
whole_number f u l a b upper lower fits =
    ap (λ x. x * 2 ^ 64 % 2 ^ 128 + b) upper ∙ (ap (λ y. u * 2 ^ 64 % 2 ^ 128 + y) lower ∙ put_together u l (small f (u * 2 ^ 64 + l) fits))
