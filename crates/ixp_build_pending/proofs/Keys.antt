-- A text's key names it and no other one.
use Rattle.std.proofs.Common.{◌≡◌, ℕ, suc, Bool, true, false, ◌==◌, ◌&&◌, List, [], ◌∷◌, ◌++◌, length, Option, Some, None, refl, sym, ap, ◌∙◌, subst, arith}
use Rattle.std.specs.declared.cmp.Ordering.{Ordering}
use Rattle.std.specs.declared.cmp.Ordering.TheVariants.{Less, Equal, Greater}
use Rattle.std.proofs.lemmas.Bool.{and_parts, eqb-true, eq-eqb}
use Rattle.ixp_num_tables.specs.Tables.{order, same}
use Rattle.ixp_num_tables.proofs.Counts.{same_is, same_itself, same_key}
use Rattle.ixp_num_tables.proofs.Orders.{order_same}
use Rattle.ixp_build_pending.specs.declared.name.TextName.{TextName}
use Rattle.ixp_build_pending.specs.Names.{header_of, part_number, part_of, text_key}
use Rattle.ixp_build_pending.specs.Pendings.{is_key}

-- two tests that hold of each other are the same
pub both_ways : (a b : Bool) → (a ≡ true → b ≡ true) → (b ≡ true → a ≡ true) → a ≡ b
both_ways true b to back = sym (to refl)
both_ways false true to back = back refl
both_ways false false to back = refl

-- a test that never holds
pub never : (a : Bool) → (a ≡ true → ⊥) → a ≡ false
never true wrong = absurd (wrong refl)
never false wrong = refl

snoc_same : (g h : List ℕ) (p q : ℕ) → length g ≡ length h → g ++ p ∷ [] ≡ h ++ q ∷ [] → (g ≡ h) × (p ≡ q)
snoc_same [] [] p q e is = (refl, let same : p ≡ q = cc in same)
snoc_same [] (y ∷ h) p q e is = absurd (let bad : ⊥ = omega (arith, e) in bad)
snoc_same (x ∷ g) [] p q e is = absurd (let bad : ⊥ = omega (arith, e) in bad)
snoc_same (x ∷ g) (y ∷ h) p q e is =
    let first : x ≡ y = cc in
    let rest : g ++ p ∷ [] ≡ h ++ q ∷ [] = cc in
    let more = snoc_same g h p q (omega (arith, e)) rest in
    ((λ i. first i ∷ more.0 i), more.1)

pub keys_same : (a b : TextName) → text_key a ≡ text_key b → (a.router ≡ b.router) × (part_number a.session ≡ part_number b.session)
keys_same a b is =
    let long : length a.router ≡ length b.router = cc in
    let rest : a.router ++ part_number a.session ∷ [] ≡ b.router ++ part_number b.session ∷ [] = cc in
    snoc_same a.router b.router (part_number a.session) (part_number b.session) long rest

-- whether a name is a header's, or a part's

pub is_header : (g h : List ℕ) → same (text_key (header_of g)) (text_key (header_of h)) ≡ same g h
is_header g h =
    both_ways (same (text_key (header_of g)) (text_key (header_of h))) (same g h)
    (λ e. subst (λ z. same g z ≡ true) (keys_same (header_of g) (header_of h) (same_is (text_key (header_of g)) (text_key (header_of h)) e)).0 (same_itself g))
    (λ e. subst (λ z. same (text_key (header_of g)) (text_key (header_of z)) ≡ true) (same_is g h e) (same_itself (text_key (header_of g))))

pub no_header : (g h : List ℕ) (n : ℕ) → same (text_key (part_of g n)) (text_key (header_of h)) ≡ false
no_header g h n =
    never (same (text_key (part_of g n)) (text_key (header_of h)))
    (λ e. let parts : suc n ≡ 0 = (keys_same (part_of g n) (header_of h) (same_is (text_key (part_of g n)) (text_key (header_of h)) e)).1 in omega (arith, parts))

pub no_part : (g h : List ℕ) (n : ℕ) → same (text_key (header_of g)) (text_key (part_of h n)) ≡ false
no_part g h n =
    never (same (text_key (header_of g)) (text_key (part_of h n)))
    (λ e. let parts : 0 ≡ suc n = (keys_same (header_of g) (part_of h n) (same_is (text_key (header_of g)) (text_key (part_of h n)) e)).1 in omega (arith, parts))

both_true : (a b : Bool) → a ≡ true → b ≡ true → (a && b) ≡ true
both_true a b e f = rw (e, f) refl

pub is_part : (g h : List ℕ) (m n : ℕ) → same (text_key (part_of g m)) (text_key (part_of h n)) ≡ is_key h n (g, m)
is_part g h m n =
    both_ways (same (text_key (part_of g m)) (text_key (part_of h n))) (is_key h n (g, m)) to back
  where
    to : same (text_key (part_of g m)) (text_key (part_of h n)) ≡ true → (same g h && m == n) ≡ true
    to e =
        let parts = keys_same (part_of g m) (part_of h n) (same_is (text_key (part_of g m)) (text_key (part_of h n)) e) in
        let number : m ≡ n = let sucs : suc m ≡ suc n = parts.1 in omega (arith, sucs) in
        both_true (same g h) (m == n) (subst (λ z. same g z ≡ true) parts.0 (same_itself g)) (eq-eqb m n number)

    back : (same g h && m == n) ≡ true → same (text_key (part_of g m)) (text_key (part_of h n)) ≡ true
    back e =
        let parts = and_parts (same g h) (m == n) e in
        subst (λ z. same (text_key (part_of g m)) (text_key (part_of z n)) ≡ true) (same_is g h parts.0)
        (subst (λ z. same (text_key (part_of g m)) (text_key (part_of g z)) ≡ true) (eqb-true m n parts.1) (same_itself (text_key (part_of g m))))

-- what an order says of two keys
pub order_is : (a b : List ℕ) (o : Ordering) → order a b ≡ o → (o ≡ Equal → same a b ≡ true) × ((o ≡ Equal → ⊥) → same a b ≡ false)
order_is a b o e = ((λ is. same_key a b (e ∙ is)), (λ other. never (same a b) (λ t. other (sym e ∙ subst (λ z. order a z ≡ Equal) (same_is a b t) (order_same a)))))
