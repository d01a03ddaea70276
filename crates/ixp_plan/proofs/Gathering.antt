-- Putting addresses in, one after the other.
use Rattle.std.proofs.Common.{◌≡◌, Bool, true, false, ◌&&◌, ◌||◌, ◌==◌, List, [], ◌∷◌, refl, sym, ap, ◌∙◌, subst, arith, eq-eqb}
use Rattle.std.specs.Option.{is_some}
use Rattle.std.specs.declared.cmp.Ordering.TheVariants.{Equal}
use Rattle.std.proofs.Math.Bool.{or-true, and-false}
use Rattle.std.proofs.lemmas.Bool.{and_parts, and_from, eqb-true}
use Rattle.ixp_num.specs.declared.family.Family.{Family}
use Rattle.ixp_num.specs.declared.family.Family.TheVariants.{V4, V6}
use Rattle.ixp_num.specs.declared.addr.Addr.{Addr}
use Rattle.ixp_num.specs.declared.prefix.Prefix.{Prefix}
use Rattle.ixp_num.specs.AddressForms.{version_of}
use Rattle.ixp_num.specs.Families.{same_family}
use Rattle.ixp_num.specs.Prefixes.{contains, first_bits, same_addr}
use Rattle.ixp_num_tables.specs.Tables.{order, put}
use Rattle.ixp_num_tables.proofs.Orders.{order_same, head_same, tail_same}
use Rattle.ixp_num_tables.proofs.TableLaws.{find-put-same-key, find-put-other}
use Rattle.ixp_registry.specs.Words.{addr_numbers}
use Rattle.ixp_plan.specs.declared.uses.UsedAddr.{UsedAddr}
use Rattle.ixp_plan.specs.Uses.{used_key, is_in}
use Rattle.ixp_plan.proofs.Prefixes.{one_family}

-- what is put in first and then
pub put_both : (c x y h : Bool) → (c && y || (c && x || h)) ≡ (c && (x || y) || h)
put_both false x y h = refl
put_both true false y h = refl
put_both true true y h = or-true y

-- the addresses have the same numbers
keys_alike : (x a : Addr) → same_addr x a ≡ true → addr_numbers x ≡ addr_numbers a
keys_alike x a e =
    let parts = and_parts (same_family x.family a.family) (x.value == a.value) e in
    ap (λ f. version_of f ∷ x.value ∷ []) (one_family x.family a.family parts.0) ∙ ap (λ v. version_of a.family ∷ v ∷ []) (eqb-true x.value a.value parts.1)

versions_apart : (f g : Family) → version_of f ≡ version_of g → same_family f g ≡ true
versions_apart V4 V4 e = refl
versions_apart V4 V6 e = absurd (omega arith)
versions_apart V6 V4 e = absurd (omega arith)
versions_apart V6 V6 e = refl

alike_keys : (x a : Addr) → order (addr_numbers x) (addr_numbers a) ≡ Equal → same_addr x a ≡ true
alike_keys x a e =
    let family : version_of x.family ≡ version_of a.family = head_same (version_of x.family) (version_of a.family) (x.value ∷ []) (a.value ∷ []) e in
    let rest : order (x.value ∷ []) (a.value ∷ []) ≡ Equal = tail_same (version_of x.family) (version_of a.family) (x.value ∷ []) (a.value ∷ []) e in
    let value : x.value ≡ a.value = head_same x.value a.value [] [] rest in
    and_from (same_family x.family a.family) (x.value == a.value) (versions_apart x.family a.family family) (eq-eqb x.value a.value value)

-- what is in where an address was put in
pub in_put : (u : UsedAddr) (us : List UsedAddr) (a : Addr) → is_in a (put used_key u us) ≡ (same_addr u.addr a || is_in a us)
in_put u us a = by_test (same_addr u.addr a) refl where
  by_test : (s : Bool) → same_addr u.addr a ≡ s → is_in a (put used_key u us) ≡ (s || is_in a us)
  by_test true e =
      ap is_some (find-put-same-key used_key (addr_numbers a) u us (subst (λ k. order (addr_numbers u.addr) k ≡ Equal) (keys_alike u.addr a e) (order_same (addr_numbers u.addr))))
  by_test false e = ap is_some (find-put-other used_key (addr_numbers a) u us (λ same. let other : same_addr u.addr a ≡ true = alike_keys u.addr a same in let h : ⊥ = cc in h))

contained_alike : (p : Prefix) (x a : Addr) → same_addr x a ≡ true → contains p x ≡ contains p a
contained_alike p x a e =
    let parts = and_parts (same_family x.family a.family) (x.value == a.value) e in
    ap (λ f. same_family p.family f && first_bits p.family p.len x.value == first_bits p.family p.len p.value) (one_family x.family a.family parts.0)
    ∙ ap (λ v. same_family p.family a.family && first_bits p.family p.len v == first_bits p.family p.len p.value) (eqb-true x.value a.value parts.1)

-- the same of an address of the prefix
pub in_put_inside : (p : Prefix) (u : UsedAddr) (us : List UsedAddr) (a : Addr) → contains p u.addr ≡ true → is_in a (put used_key u us) ≡ (contains p a && same_addr u.addr a || is_in a us)
in_put_inside p u us a inside = in_put u us a ∙ ap (λ b. b || is_in a us) (by_test (same_addr u.addr a) refl) where
  by_test : (s : Bool) → same_addr u.addr a ≡ s → s ≡ (contains p a && s)
  by_test true e = sym (ap (λ b. b && true) (sym (contained_alike p u.addr a e) ∙ inside))
  by_test false e = sym (and-false (contains p a))

-- and of one that isn't in the prefix
pub out_of : (p : Prefix) (x : Addr) (us : List UsedAddr) (a : Addr) → contains p x ≡ false → is_in a us ≡ (contains p a && same_addr x a || is_in a us)
out_of p x us a out = ap (λ b. b || is_in a us) (by_test (same_addr x a) refl) where
  by_test : (s : Bool) → same_addr x a ≡ s → false ≡ (contains p a && s)
  by_test true e = sym (ap (λ b. b && true) (sym (contained_alike p x a e) ∙ out))
  by_test false e = sym (and-false (contains p a))
