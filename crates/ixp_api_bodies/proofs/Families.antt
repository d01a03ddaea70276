-- The prefixes of a list that was read are of its family.
use Rattle.std.proofs.Common.{◌≡◌, ℕ, zero, suc, List, [], ◌∷◌, Bool, true, Ok, refl, subst, arith}
use Rattle.std.specs.List.{Contains, list_all, filter}
use Rattle.std.specs.Str.Lines.{lines}
use Rattle.ixp_num.specs.declared.family.Family.{Family}
use Rattle.ixp_num.specs.declared.family.Family.TheVariants.{V4, V6}
use Rattle.ixp_num.specs.declared.prefix.Prefix.{Prefix}
use Rattle.ixp_num.specs.Families.{same_family}
use Rattle.ixp_num_sorted.specs.Keys.{prefix_key}
use Rattle.ixp_irr.specs.Items.{SaysPrefixOf}
use Rattle.ixp_irr.specs.Lists.{AreItems, ListAnswer, counts}

itself : (f g : Family) → f ≡ g → same_family f g ≡ true
itself V4 V4 e = refl
itself V6 V6 e = refl
itself V4 V6 e = cc
itself V6 V4 e = cc

read-one : (family : Family) (all : List (List ℕ)) (items : List Prefix) → AreItems (SaysPrefixOf family) all items
    → (p : Prefix) → Contains items p → same_family p.family family ≡ true
read-one family [] [] are p (k, inside, at) = absurd (omega arith)
read-one family [] (x ∷ xs) are p here = elim are [ ]
read-one family (line ∷ more) [] are p here = elim are [ ]
read-one family (line ∷ more) (x ∷ xs) are p (zero, inside, at) =
    subst (λ (q : Prefix). same_family q.family family ≡ true) at (itself x.family family are.0.1)
read-one family (line ∷ more) (x ∷ xs) are p (suc k, inside, at) = read-one family more xs are.1 p (k, omega arith, at)

all-pass : {A : Type 0} (test : A → Bool) (xs : List A) → ((x : A) → Contains xs x → test x ≡ true) → list_all test xs ≡ true
all-pass test [] h = refl
all-pass test (x ∷ xs) h =
    let one : test x ≡ true = h x (0, omega arith, refl) in
    let rest : list_all test xs ≡ true = all-pass test xs (λ y (k, inside, at). h y (suc k, omega arith, at)) in
    rw (one, rest) refl

pub read-family : (family : Family) (t : List ℕ) (xs : List Prefix) → ListAnswer (SaysPrefixOf family) prefix_key t (Ok xs)
    → list_all (λ p. same_family p.family family) xs ≡ true
read-family family t xs (items, are, order, few) =
    all-pass (λ p. same_family p.family family) xs (λ p here. read-one family (filter counts (lines t)) items are p (order.adds_none p here))
