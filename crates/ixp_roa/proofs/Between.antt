-- What covers a net covers all that stands between both.
use Rattle.std.proofs.Common.{◌≡◌, ◌≤◌, ◌<◌, ◌+◌, ◌-◌, ◌*◌, ◌/◌, ◌%◌, ◌^◌, ◌⊎◌, inl, inr, ℕ, true, false, cond, ◌&&◌, ◌==◌, nat_le, refl, sym, ap, ◌∙◌, subst, arith, eq-eqb}
use Rattle.std.specs.declared.cmp.Ordering.{Ordering}
use Rattle.std.specs.declared.cmp.Ordering.TheVariants.{Less, Equal, Greater}
use Rattle.std.specs.Ordering.{nat_cmp, ordering_then, is_lt}
use Rattle.std.specs.Cmp.{ranked}
use Rattle.std.proofs.lemmas.Bool.{and_parts, and_from, eqb-true, leb-true, le-leb}
use Rattle.std.proofs.lemmas.Nat.{div-add-mod'}
use Rattle.ixp_num.specs.AddressForms.{version_of}
use Rattle.ixp_num.specs.Families.{bits_of, same_family}
use Rattle.ixp_num.specs.Prefixes.{covers, first_bits}
use Rattle.ixp_num.specs.declared.family.Family.{Family}
use Rattle.ixp_num.specs.declared.family.Family.TheVariants.{V4, V6}
use Rattle.ixp_num.specs.declared.prefix.Prefix.{Prefix}
use Rattle.ixp_num.specs.declared.roa.Roa.{Roa}
use Rattle.ixp_num.proofs.FirstBits.{inside, whole}
use Rattle.ixp_num_sorted.specs.Keys.{roa_key}
use Rattle.ixp_num_tables.specs.Tables.{order}
use Rattle.ixp_roa.specs.Climbs.{begins_upto, is_upto}

-- families

family_itself : (f : Family) → same_family f f ≡ true
family_itself V4 = refl
family_itself V6 = refl

one_family : (f g : Family) → same_family f g ≡ true → f ≡ g
one_family V4 V4 e = refl
one_family V4 V6 e = absurd (let h : ⊥ = cc in h)
one_family V6 V4 e = absurd (let h : ⊥ = cc in h)
one_family V6 V6 e = refl

upto_there : (f g : Family) (v w : ℕ) → f ≡ g → v ≤ w → begins_upto f v g w ≡ true
upto_there f g v w same le = subst (λ g. begins_upto f v g w ≡ true) same (ap (λ b. cond b (nat_le v w) (same_family f V4)) (family_itself f) ∙ le-leb v w le)

upto_says : (f g : Family) (v w : ℕ) → f ≡ g → begins_upto f v g w ≡ true → v ≤ w
upto_says f g v w same upto =
    let there : begins_upto f v f w ≡ true = subst (λ g. begins_upto f v g w ≡ true) (sym same) upto in
    leb-true v w (sym (ap (λ b. cond b (nat_le v w) (same_family f V4)) (family_itself f)) ∙ there)

-- the order of rows

-- a prefix stands before another
abbrev pub IsBefore : Prefix → Prefix → Type 0
IsBefore p q = ((p.family ≡ q.family) × (p.value ≤ q.value) × (p.value ≡ q.value → p.len ≤ q.len)) ⊎ ((p.family ≡ V4) × (q.family ≡ V6))

then_not : (o p : Ordering) → is_lt (ordering_then o p) ≡ false → (o ≡ Greater) ⊎ ((o ≡ Equal) × (is_lt p ≡ false))
then_not Less p e = absurd (let h : ⊥ = cc in h)
then_not Equal p e = inr (refl, e)
then_not Greater p e = inl refl

greater : (x y : ℕ) → nat_cmp x y ≡ Greater → y < x
greater x y e = ranked x y Greater (sym e)

equal_to : (x y : ℕ) → nat_cmp x y ≡ Equal → x ≡ y
equal_to x y e = ranked x y Equal (sym e)

families_before : (f g : Family) → version_of f < version_of g → (f ≡ V4) × (g ≡ V6)
families_before V4 V4 less = absurd (let h : ⊥ = omega arith in h)
families_before V4 V6 less = (refl, refl)
families_before V6 V4 less = absurd (let h : ⊥ = omega arith in h)
families_before V6 V6 less = absurd (let h : ⊥ = omega arith in h)

families_equal : (f g : Family) → version_of f ≡ version_of g → f ≡ g
families_equal V4 V4 e = refl
families_equal V4 V6 e = absurd (let h : ⊥ = omega arith in h)
families_equal V6 V4 e = absurd (let h : ⊥ = omega arith in h)
families_equal V6 V6 e = refl

lengths : (m n : ℕ) (rest : Ordering) → is_lt (ordering_then (nat_cmp n m) rest) ≡ false → m ≤ n
lengths m n rest e = by (then_not (nat_cmp n m) rest e) where
  by : (nat_cmp n m ≡ Greater) ⊎ ((nat_cmp n m ≡ Equal) × (is_lt rest ≡ false)) → m ≤ n
  by (inl more) = let lt = greater n m more in omega arith
  by (inr equal) = let same = equal_to n m equal.0 in omega arith

values : (v w m n : ℕ) (rest : Ordering) → is_lt (ordering_then (nat_cmp w v) (ordering_then (nat_cmp n m) rest)) ≡ false → (v ≤ w) × (v ≡ w → m ≤ n)
values v w m n rest e = by (then_not (nat_cmp w v) (ordering_then (nat_cmp n m) rest) e) where
  by : (nat_cmp w v ≡ Greater) ⊎ ((nat_cmp w v ≡ Equal) × (is_lt (ordering_then (nat_cmp n m) rest) ≡ false)) → (v ≤ w) × (v ≡ w → m ≤ n)
  by (inl more) = let lt = greater w v more in (omega arith, λ same. absurd (let h : ⊥ = omega arith in h))
  by (inr equal) = let same = equal_to w v equal.0 in (omega arith, λ x. lengths m n rest equal.1)

pub rows_before : (r s : Roa) → is_lt (order (roa_key s) (roa_key r)) ≡ false → IsBefore r.prefix s.prefix
rows_before r s e = by (then_not (nat_cmp (version_of s.prefix.family) (version_of r.prefix.family)) rest e) where
  last : Ordering
  last = ordering_then (nat_cmp s.max r.max) (ordering_then (nat_cmp s.asn.0 r.asn.0) Equal)

  rest : Ordering
  rest = ordering_then (nat_cmp s.prefix.value r.prefix.value) (ordering_then (nat_cmp s.prefix.len r.prefix.len) last)

  by : (nat_cmp (version_of s.prefix.family) (version_of r.prefix.family) ≡ Greater) ⊎ ((nat_cmp (version_of s.prefix.family) (version_of r.prefix.family) ≡ Equal) × (is_lt rest ≡ false)) → IsBefore r.prefix s.prefix
  by (inl more) = inr (families_before r.prefix.family s.prefix.family (greater (version_of s.prefix.family) (version_of r.prefix.family) more))
  by (inr equal) =
      let both = values r.prefix.value s.prefix.value r.prefix.len s.prefix.len last equal.1 in
      inl (families_equal r.prefix.family s.prefix.family (sym (equal_to (version_of s.prefix.family) (version_of r.prefix.family) equal.0)), both.0, both.1)

-- what stands before a prefix that begins no later than the net begins no later, either
upto_back_of : (f g h : Family) (u v w : ℕ) → ((f ≡ g) × (u ≤ v)) ⊎ ((f ≡ V4) × (g ≡ V6)) → begins_upto g v h w ≡ true → begins_upto f u h w ≡ true
upto_back_of V4 V4 V4 u v w (inl both) upto = le-leb u w (let a = leb-true v w upto in let b = both.1 in omega arith)
upto_back_of V4 V4 V6 u v w (inl both) upto = refl
upto_back_of V6 V6 V4 u v w (inl both) upto = absurd (let h : ⊥ = cc in h)
upto_back_of V6 V6 V6 u v w (inl both) upto = le-leb u w (let a = leb-true v w upto in let b = both.1 in omega arith)
upto_back_of V4 V6 h u v w (inl both) upto = absurd (let same = both.0 in let h : ⊥ = cc in h)
upto_back_of V6 V4 h u v w (inl both) upto = absurd (let same = both.0 in let h : ⊥ = cc in h)
upto_back_of V4 V6 V4 u v w (inr both) upto = absurd (let h : ⊥ = cc in h)
upto_back_of V4 V6 V6 u v w (inr both) upto = refl
upto_back_of V4 V4 h u v w (inr both) upto = absurd (let same = both.1 in let h : ⊥ = cc in h)
upto_back_of V6 g h u v w (inr both) upto = absurd (let same = both.0 in let h : ⊥ = cc in h)

pub upto_back : (p q n : Prefix) → IsBefore p q → is_upto q n ≡ true → is_upto p n ≡ true
upto_back p q n (inl is) upto = upto_back_of p.family q.family n.family p.value q.value n.value (inl (is.0, is.1)) upto
upto_back p q n (inr is) upto = upto_back_of p.family q.family n.family p.value q.value n.value (inr is) upto

upto_before_of : (f g : Family) (u v : ℕ) → ((f ≡ g) × (u ≤ v)) ⊎ ((f ≡ V4) × (g ≡ V6)) → begins_upto f u g v ≡ true
upto_before_of f g u v (inl both) = upto_there f g u v both.0 both.1
upto_before_of V4 V6 u v (inr both) = refl
upto_before_of V4 V4 u v (inr both) = absurd (let same = both.1 in let h : ⊥ = cc in h)
upto_before_of V6 g u v (inr both) = absurd (let same = both.0 in let h : ⊥ = cc in h)

pub upto_before : (p q : Prefix) → IsBefore p q → is_upto p q ≡ true
upto_before p q (inl is) = upto_before_of p.family q.family p.value q.value (inl (is.0, is.1))
upto_before p q (inr is) = upto_before_of p.family q.family p.value q.value (inr is)

-- covering

-- `q` lies in `p`
pub record Lies (p q : Prefix) : Type 0 where
  pub family : p.family ≡ q.family
  pub len : p.len ≤ q.len
  pub bits : first_bits p.family p.len q.value ≡ first_bits p.family p.len p.value

covers_says : (p q : Prefix) → covers p q ≡ true → Lies p q
covers_says p q e =
    let all = and_parts (same_family p.family q.family && nat_le p.len q.len) (first_bits p.family p.len q.value == first_bits p.family p.len p.value) e in
    let two = and_parts (same_family p.family q.family) (nat_le p.len q.len) all.0 in
    record { family = one_family p.family q.family two.0; len = leb-true p.len q.len two.1; bits = eqb-true _ _ all.1 }

covers_from : (p q : Prefix) → Lies p q → covers p q ≡ true
covers_from p q l =
    and_from (same_family p.family q.family && nat_le p.len q.len) (first_bits p.family p.len q.value == first_bits p.family p.len p.value)
    (and_from (same_family p.family q.family) (nat_le p.len q.len) (subst (λ g. same_family p.family g ≡ true) l.family (family_itself p.family)) (le-leb p.len q.len l.len))
    (eq-eqb _ _ l.bits)

-- what covers a net begins no later
pub upto_covering : (p n : Prefix) → covers p n ≡ true → is_upto p n ≡ true
upto_covering p n over =
    let lies = covers_says p n over in
    let w : ℕ = 2 ^ (bits_of p.family - p.len) in
    let start : p.value / w * w ≡ p.value = whole p.value w p.no_host_bits in
    let split : n.value / w * w + n.value % w ≡ n.value = div-add-mod' n.value w in
    let moved : p.value / w * w + n.value % w ≡ n.value = subst (λ k. k * w + n.value % w ≡ n.value) lies.bits split in
    upto_there p.family n.family p.value n.value lies.family (omega arith)

-- a prefix covers all that stand between it and a net that it covers
pub between : (p q n : Prefix) → IsBefore p q → is_upto q n ≡ true → covers p n ≡ true → covers p q ≡ true
between p q n (inl is) upto over =
    let lies = covers_says p n over in
    let high : q.value ≤ n.value = upto_says q.family n.family q.value n.value (sym is.0 ∙ lies.family) upto in
    let none : q.value % 2 ^ (bits_of p.family - q.len) ≡ 0 = subst (λ f. q.value % 2 ^ (bits_of f - q.len) ≡ 0) (sym is.0) q.no_host_bits in
    let both = inside (bits_of p.family) p.len q.len p.value q.value n.value p.short p.no_host_bits none lies.bits is.1 high is.2 in
    covers_from p q (record { family = is.0; len = both.0; bits = both.1 })
between p q n (inr is) upto over = absurd (across q.family n.family q.value n.value is.1 (sym (covers_says p n over).family ∙ is.0) upto) where
  across : (f g : Family) (v w : ℕ) → f ≡ V6 → g ≡ V4 → begins_upto f v g w ≡ true → ⊥
  across f g v w six four e =
      let there : begins_upto V6 v g w ≡ true = subst (λ f. begins_upto f v g w ≡ true) six e in
      let here : begins_upto V6 v V4 w ≡ true = subst (λ g. begins_upto V6 v g w ≡ true) four there in
      let bad : ⊥ = cc in bad
