-- Prefixes that cover others: parts of the test, and the prefix of a given length.
use Rattle.std.proofs.Common.{◌≡◌, ◌≤◌, ◌<◌, ◌+◌, ◌-◌, ◌*◌, ◌/◌, ◌%◌, ◌^◌, ℕ, true, ◌&&◌, ◌==◌, min, refl, sym, ap, ◌∙◌, subst, arith, eq-eqb}
use Rattle.std.specs.Prelude.{nat_le}
use Rattle.std.proofs.Math.Nat.{le_trans, le_refl, min-eq_left}
use Rattle.std.proofs.lemmas.Bool.{and_parts, and_from, eqb-true, leb-true, le-leb}
use Rattle.std.proofs.lemmas.Nat.{shr-shr, shl-shr, shr_split}
use Rattle.ixp_num.specs.Families.{bits_of, same_family}
use Rattle.ixp_num.specs.Prefixes.{covers, first_bits, IsParent, same_prefix}
use Rattle.ixp_num.specs.declared.family.Family.{Family}
use Rattle.ixp_num.specs.declared.family.Family.TheVariants.{V4, V6}
use Rattle.ixp_num.specs.declared.prefix.Prefix.{Prefix}
use Rattle.ixp_num.proofs.OneAnswer.{prefix_same}
use Rattle.ixp_pfxset.specs.BlockList.{front}

pub family_itself : (f : Family) → same_family f f ≡ true
family_itself V4 = refl
family_itself V6 = refl

pub one_family : (f g : Family) → same_family f g ≡ true → f ≡ g
one_family V4 V4 e = refl
one_family V4 V6 e = absurd (let h : ⊥ = cc in h)
one_family V6 V4 e = absurd (let h : ⊥ = cc in h)
one_family V6 V6 e = refl

pub families_meet : (f g : Family) → f ≡ g → same_family f g ≡ true
families_meet f g e = subst (λ g. same_family f g ≡ true) e (family_itself f)

-- of two numbers with the same first `n` bits the first `m` are the same, too
pub fewer_bits : (f : Family) (m n v u : ℕ) → m ≤ n → n ≤ bits_of f → first_bits f n v ≡ first_bits f n u → first_bits f m v ≡ first_bits f m u
fewer_bits f m n v u le short same =
    let b : ℕ = bits_of f in
    let sum : (b - n) + (n - m) ≡ b - m = omega arith in
    let one : v / 2 ^ (b - n) / 2 ^ (n - m) ≡ v / 2 ^ (b - m) = shr-shr v (b - n) (n - m) ∙ ap (λ k. v / 2 ^ k) sum in
    let two : u / 2 ^ (b - n) / 2 ^ (n - m) ≡ u / 2 ^ (b - m) = shr-shr u (b - n) (n - m) ∙ ap (λ k. u / 2 ^ k) sum in
    sym one ∙ (ap (λ x. x / 2 ^ (n - m)) same ∙ two)

-- `q` lies in `p`
pub record Lies (p q : Prefix) : Type 0 where
  pub family : p.family ≡ q.family
  pub len : p.len ≤ q.len
  pub bits : first_bits p.family p.len q.value ≡ first_bits p.family p.len p.value

pub covers_says : (p q : Prefix) → covers p q ≡ true → Lies p q
covers_says p q e =
    let all = and_parts (same_family p.family q.family && nat_le p.len q.len) (first_bits p.family p.len q.value == first_bits p.family p.len p.value) e in
    let two = and_parts (same_family p.family q.family) (nat_le p.len q.len) all.0 in
    record { family = one_family p.family q.family two.0; len = leb-true p.len q.len two.1; bits = eqb-true _ _ all.1 }

pub covers_from : (p q : Prefix) → Lies p q → covers p q ≡ true
covers_from p q l =
    and_from (same_family p.family q.family && nat_le p.len q.len) (first_bits p.family p.len q.value == first_bits p.family p.len p.value)
    (and_from (same_family p.family q.family) (nat_le p.len q.len) (families_meet p.family q.family l.family) (le-leb p.len q.len l.len))
    (eq-eqb _ _ l.bits)

pub covers_itself : (p : Prefix) → covers p p ≡ true
covers_itself p = covers_from p p (record { family = refl; len = le_refl p.len; bits = refl })

pub covers_chain : (p q r : Prefix) → covers p q ≡ true → covers q r ≡ true → covers p r ≡ true
covers_chain p q r pq qr =
    let a = covers_says p q pq in
    let b = covers_says q r qr in
    let at_p : first_bits p.family q.len r.value ≡ first_bits p.family q.len q.value = subst (λ f. first_bits f q.len r.value ≡ first_bits f q.len q.value) (sym a.family) b.bits in
    let short : q.len ≤ bits_of p.family = subst (λ f. q.len ≤ bits_of f) (sym a.family) q.short in
    covers_from p r (record { family = a.family ∙ b.family; len = le_trans a.len b.len; bits = fewer_bits p.family p.len q.len r.value q.value a.len short at_p ∙ a.bits })

-- of two prefixes that cover a third one, the shorter covers the longer
pub covers_between : (p q r : Prefix) → covers p r ≡ true → covers q r ≡ true → p.len ≤ q.len → covers p q ≡ true
covers_between p q r pr qr le =
    let a = covers_says p r pr in
    let b = covers_says q r qr in
    let family : p.family ≡ q.family = a.family ∙ sym b.family in
    let at_p : first_bits p.family q.len r.value ≡ first_bits p.family q.len q.value = subst (λ f. first_bits f q.len r.value ≡ first_bits f q.len q.value) (sym family) b.bits in
    let short : q.len ≤ bits_of p.family = subst (λ f. q.len ≤ bits_of f) (sym family) q.short in
    covers_from p q (record { family = family; len = le; bits = sym (fewer_bits p.family p.len q.len r.value q.value le short at_p) ∙ a.bits })

-- a prefix is its family, its length and its bits
pub one_prefix : (p q : Prefix) → p.family ≡ q.family → p.len ≡ q.len → p.value ≡ q.value → p ≡ q
one_prefix p q family len value = prefix_same p q 0 0 0 0 (cc)

-- no host bits: the number is its first bits, moved
pub moved_bits : (p : Prefix) → first_bits p.family p.len p.value * 2 ^ (bits_of p.family - p.len) ≡ p.value
moved_bits p =
    let split : p.value / 2 ^ (bits_of p.family - p.len) * 2 ^ (bits_of p.family - p.len) + p.value % 2 ^ (bits_of p.family - p.len) ≡ p.value = shr_split p.value (bits_of p.family - p.len) in
    let none : p.value % 2 ^ (bits_of p.family - p.len) ≡ 0 = p.no_host_bits in
    omega arith

pub same_bits : (p q : Prefix) → p.family ≡ q.family → p.len ≡ q.len → first_bits p.family p.len p.value ≡ first_bits q.family q.len q.value → p ≡ q
same_bits p q family len bits =
    let a = moved_bits p in
    let b = moved_bits q in
    let h : bits_of p.family - p.len ≡ bits_of q.family - q.len = cc in
    one_prefix p q family len (sym a ∙ (ap (λ x. x * 2 ^ (bits_of p.family - p.len)) bits ∙ (ap (λ k. first_bits q.family q.len q.value * 2 ^ k) h ∙ b)))

-- a prefix that covers one of its length is that one
pub covers_equal : (p q : Prefix) → covers p q ≡ true → p.len ≡ q.len → p ≡ q
covers_equal p q e len =
    let l = covers_says p q e in
    let bits : first_bits p.family p.len p.value ≡ first_bits q.family q.len q.value = sym l.bits ∙ (ap (λ f. first_bits f p.len q.value) l.family ∙ ap (λ n. first_bits q.family n q.value) len) in
    same_bits p q l.family len bits

pub same_says : (p q : Prefix) → same_prefix p q ≡ true → p ≡ q
same_says p q e =
    let all = and_parts (same_family p.family q.family && p.value == q.value) (p.len == q.len) e in
    let two = and_parts (same_family p.family q.family) (p.value == q.value) all.0 in
    one_prefix p q (one_family p.family q.family two.0) (eqb-true p.len q.len all.1) (eqb-true p.value q.value two.1)

pub same_itself : (p : Prefix) → same_prefix p p ≡ true
same_itself p =
    and_from (same_family p.family p.family && p.value == p.value) (p.len == p.len)
    (and_from (same_family p.family p.family) (p.value == p.value) (family_itself p.family) (eq-eqb p.value p.value refl))
    (eq-eqb p.len p.len refl)

-- the prefix of length `n` that covers another
pub front_len : (p : Prefix) (n : ℕ) → n ≤ p.len → (front p n).len ≡ n
front_len p n le = min-eq_left le

pub front_bits : (p : Prefix) (n : ℕ) → first_bits p.family (front p n).len (front p n).value ≡ first_bits p.family (front p n).len p.value
front_bits p n = shl-shr (first_bits p.family (min n p.len) p.value) (bits_of p.family - min n p.len)

pub front_covers : (p : Prefix) (n : ℕ) → covers (front p n) p ≡ true
front_covers p n = covers_from (front p n) p (record { family = refl; len = Rattle.std.proofs.Math.Nat.min-le_right n p.len; bits = sym (front_bits p n) })

-- the one prefix of its length that covers another is at its front
pub front_is : (p q : Prefix) → covers p q ≡ true → p ≡ front q p.len
front_is p q e =
    let len : (front q p.len).len ≡ p.len = front_len q p.len (covers_says p q e).len in
    covers_equal p (front q p.len) (covers_between p (front q p.len) q e (front_covers q p.len) (omega (arith, len))) (sym len)

pub front_parent : (p : Prefix) → 0 < p.len → IsParent p (front p (p.len - 1))
front_parent p some =
    let len : (front p (p.len - 1)).len ≡ p.len - 1 = front_len p (p.len - 1) (omega arith) in
    (omega (arith, len), front_covers p (p.len - 1))

pub parent_is : (p q : Prefix) → IsParent p q → q ≡ front p (p.len - 1)
parent_is p q parent =
    let len : q.len ≡ p.len - 1 = let e : q.len + 1 ≡ p.len = parent.0 in omega arith in
    front_is q p parent.1 ∙ ap (front p) len
