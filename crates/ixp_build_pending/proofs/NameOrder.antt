-- How the names of texts compare.
use Rattle.std.proofs.Common.{rules, ◌≡◌, ℕ, List, [], ◌∷◌, ◌++◌, length, refl, sym, ap, ◌∙◌, subst, arith}
use Rattle.std.specs.declared.cmp.Ordering.{Ordering}
use Rattle.std.specs.declared.cmp.Ordering.TheVariants.{Less, Equal, Greater}
use Rattle.std.specs.Ordering.{nat_cmp, ordering_then}
use Rattle.ixp_num_tables.specs.Tables.{order}
use Rattle.ixp_build_pending.specs.declared.name.TextName.{TextName}
use Rattle.ixp_build_pending.specs.Names.{part_number, text_key}

then_equal : (o : Ordering) → ordering_then o Equal ≡ o
then_equal Less = refl
then_equal Equal = refl
then_equal Greater = refl

then_then : (a b c : Ordering) → ordering_then a (ordering_then b c) ≡ ordering_then (ordering_then a b) c
then_then Less b c = refl
then_then Equal b c = refl
then_then Greater b c = refl

-- of lists as long as each other, what follows decides where they are the same
tails : (x y : List ℕ) (p q : ℕ) → length x ≡ length y → order (x ++ p ∷ []) (y ++ q ∷ []) ≡ ordering_then (order x y) (nat_cmp p q)
tails [] [] p q e = then_equal (nat_cmp p q)
tails [] (b ∷ y) p q e = absurd (let bad : ⊥ = omega (arith, e) in bad)
tails (a ∷ x) [] p q e = absurd (let bad : ⊥ = omega (arith, e) in bad)
tails (a ∷ x) (b ∷ y) p q e =
    let same : length x ≡ length y = omega (arith, e) in
    ap (ordering_then (nat_cmp a b)) (tails x y p q same) ∙ then_then (nat_cmp a b) (order x y) (nat_cmp p q)

-- handles of other lengths decide
pub by_length : (a b : TextName) (o : Ordering) → o ≡ nat_cmp (length a.router) (length b.router) → (o ≡ Equal → ⊥) → o ≡ order (text_key a) (text_key b)
by_length a b Less is other = rw (sym is) refl
by_length a b Equal is other = absurd (other refl)
by_length a b Greater is other = rw (sym is) refl

-- else handles that differ do

as_long : (m n : ℕ) → Equal ≡ nat_cmp m n → m ≡ n
as_long m n e = search rules

in_parts : (a b : TextName) → Equal ≡ nat_cmp (length a.router) (length b.router)
    → order (text_key a) (text_key b) ≡ ordering_then (order a.router b.router) (nat_cmp (part_number a.session) (part_number b.session))
in_parts a b e =
    ap (λ o. ordering_then o (order (a.router ++ part_number a.session ∷ []) (b.router ++ part_number b.session ∷ []))) (sym e)
    ∙ tails a.router b.router (part_number a.session) (part_number b.session) (as_long (length a.router) (length b.router) e)

pub by_bytes : (a b : TextName) (o : Ordering) → Equal ≡ nat_cmp (length a.router) (length b.router) → o ≡ order a.router b.router → (o ≡ Equal → ⊥) → o ≡ order (text_key a) (text_key b)
by_bytes a b o e is other = by_order o is other ∙ sym (in_parts a b e)
  where
    by_order : (o : Ordering) → o ≡ order a.router b.router → (o ≡ Equal → ⊥) → o ≡ ordering_then (order a.router b.router) (nat_cmp (part_number a.session) (part_number b.session))
    by_order Less is other = rw (sym is) refl
    by_order Equal is other = absurd (other refl)
    by_order Greater is other = rw (sym is) refl

-- and then the parts
pub by_parts : (a b : TextName) (o : Ordering) → Equal ≡ nat_cmp (length a.router) (length b.router) → Equal ≡ order a.router b.router
    → o ≡ nat_cmp (part_number a.session) (part_number b.session) → o ≡ order (text_key a) (text_key b)
by_parts a b o e f is = is ∙ (ap (λ x. ordering_then x (nat_cmp (part_number a.session) (part_number b.session))) f ∙ sym (in_parts a b e))
