-- The addresses of a prefix stand one behind the other.
use Rattle.std.proofs.Common.{◌≡◌, ℕ, ◌+◌, ◌-◌, ◌*◌, ◌/◌, ◌%◌, ◌^◌, ◌<◌, ◌≤◌, true, false, ◌==◌, ◌⊎◌, inl, inr, refl, sym, subst, arith, eq-eqb}
use Rattle.std.proofs.Math.Nat.{div-mul-le_self, mul-div-le, div-add-mod}
use Rattle.std.proofs.lemmas.Nat.{le-div, pow_pos}
use Rattle.std.proofs.lemmas.Bool.{and_parts, and_from, eqb-true, cases_lt}
use Rattle.ixp_num.specs.declared.family.Family.{Family}
use Rattle.ixp_num.specs.declared.family.Family.TheVariants.{V4, V6}
use Rattle.ixp_num.specs.declared.addr.Addr.{Addr}
use Rattle.ixp_num.specs.declared.prefix.Prefix.{Prefix}
use Rattle.ixp_num.specs.Families.{bits_of, same_family}
use Rattle.ixp_num.specs.Prefixes.{contains}

pub family_itself : (f : Family) → same_family f f ≡ true
family_itself V4 = refl
family_itself V6 = refl

pub one_family : (f g : Family) → same_family f g ≡ true → f ≡ g
one_family V4 V4 e = refl
one_family V4 V6 e = absurd (let h : ⊥ = cc in h)
one_family V6 V4 e = absurd (let h : ⊥ = cc in h)
one_family V6 V6 e = refl

div_grows : (x y k : ℕ) → 0 < k → x ≤ y → x / k ≤ y / k
div_grows x y k some le = let low : x / k * k ≤ x = div-mul-le_self x k in le-div (x / k) y k some (omega arith)

between : (x y z k q : ℕ) → 0 < k → x ≤ y → y ≤ z → x / k ≡ q → z / k ≡ q → y / k ≡ q
between x y z k q some low high at_low at_high =
    let a : x / k ≤ y / k = div_grows x y k some low in
    let b : y / k ≤ z / k = div_grows y z k some high in
    omega arith

abbrev step : Prefix → ℕ
step p = 2 ^ (bits_of p.family - p.len)

-- what it is to lie in a prefix
pub parts_of : (p : Prefix) (a : Addr) → contains p a ≡ true → (same_family p.family a.family ≡ true) × (a.value / step p ≡ p.value / step p)
parts_of p a e =
    let parts = and_parts (same_family p.family a.family) (a.value / step p == p.value / step p) e in
    (parts.0, eqb-true (a.value / step p) (p.value / step p) parts.1)

pub inside : (p : Prefix) (a : Addr) → same_family p.family a.family ≡ true → a.value / step p ≡ p.value / step p → contains p a ≡ true
inside p a family first = and_from (same_family p.family a.family) (a.value / step p == p.value / step p) family (eq-eqb (a.value / step p) (p.value / step p) first)

-- no address of the prefix is below its own number
pub first_least : (p : Prefix) (a : Addr) → contains p a ≡ true → p.value ≤ a.value
first_least p a e =
    let s = step p in
    let same : a.value / s ≡ p.value / s = (parts_of p a e).1 in
    let low : s * (a.value / s) ≤ a.value = mul-div-le a.value s in
    let parts : s * (p.value / s) + p.value % s ≡ p.value = div-add-mod p.value s in
    let bits : p.value % s ≡ 0 = p.no_host_bits in
    let moved : s * (p.value / s) ≤ a.value = subst (λ (q : ℕ). s * q ≤ a.value) same low in
    omega arith

-- an address of the prefix's family behind which another of the prefix stands is in the prefix where one before it is
pub in_between : (p : Prefix) (a n b : Addr) → contains p a ≡ true → contains p b ≡ true → a.value ≤ n.value → n.value ≤ b.value → n.family ≡ a.family → contains p n ≡ true
in_between p a n b at bt low high family =
    let x = parts_of p a at in
    let y = parts_of p b bt in
    inside p n (subst (λ f. same_family p.family f ≡ true) (sym family) x.0) (between a.value n.value b.value (step p) (p.value / step p) (pow_pos (bits_of p.family - p.len)) low high x.1 y.1)

-- behind an address of the prefix there is none where the next one isn't in it
pub none_behind : (p : Prefix) (a n b : Addr) → contains p a ≡ true → n.family ≡ a.family → n.value ≡ a.value + 1 → contains p n ≡ false → contains p b ≡ true → b.value ≤ a.value
none_behind p a n b at family next out bt = by_order (cases_lt a.value b.value) where
  by_order : (a.value < b.value) ⊎ (b.value ≤ a.value) → b.value ≤ a.value
  by_order (inl above) =
      let in_it : contains p n ≡ true = in_between p a n b at bt (omega arith) (omega arith) family in
      absurd (let h : ⊥ = cc in h)
  by_order (inr below) = below
