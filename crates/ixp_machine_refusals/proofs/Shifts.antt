-- How a sum changes where only some of the rows weigh otherwise.
use Rattle.std.proofs.Common.{◌≡◌, ℕ, ◌+◌, ◌*◌, Bool, true, false, ◌&&◌, List, [], ◌∷◌, Option, Some, None, refl, ap, ◌∙◌, arith, if◌then◌else◌}
use Rattle.ixp_num.specs.declared.family.Family.{Family}
use Rattle.ixp_num_tables.specs.Tables.{if_there}
use Rattle.ixp_num_tables.specs.Sums.{total}
use Rattle.ixp_registry.specs.declared.network.IfAddr.{IfAddr}

shift_one : (b : Bool) (f g F G F' G' : ℕ) → (b ≡ false → f ≡ g) → G + F' ≡ F + G' → g + G + ((if b then f else 0) + F') ≡ f + F + ((if b then g else 0) + G')
shift_one true f g F G F' G' same rest = omega (arith, rest)
shift_one false f g F G F' G' same rest = let e = same refl in omega (arith, rest, e)

-- rows that don't pass the test weigh the same
pub shift : {X : Type 0} (p : X → Bool) (f g : X → ℕ) (xs : List X) → ((x : X) → p x ≡ false → f x ≡ g x) → total g xs + total (λ x. if p x then f x else 0) xs ≡ total f xs + total (λ x. if p x then g x else 0) xs
shift p f g [] same = refl
shift p f g (x ∷ xs) same = shift_one (p x) (f x) (g x) (total f xs) (total g xs) (total (λ x. if p x then f x else 0) xs) (total (λ x. if p x then g x else 0) xs) (same x) (shift p f g xs same)

-- what the columns of an interface read
abbrev pub read_by : (Family → ℕ) → (Family → ℕ) → Option IfAddr → ℕ
read_by v l o = if_there o 0 (λ a. if a.rs && a.irr then v a.addr.family * l a.addr.family else 0)

abbrev pub both_read : Bool → (Family → ℕ) → (Family → ℕ) → Option IfAddr → Option IfAddr → ℕ
both_read c v l a b = if c then read_by v l a + read_by v l b else 0

same_read : (v v' l l' : Family → ℕ) (o : Option IfAddr) → ((f : Family) → v f ≡ v' f) → ((f : Family) → l f ≡ l' f) → read_by v l o ≡ read_by v' l' o
same_read v v' l l' None x y = refl
same_read v v' l l' (Some a) x y =
    let f = a.addr.family in
    ap (λ n. if a.rs && a.irr then n * l f else 0) (x f) ∙ ap (λ n. if a.rs && a.irr then v' f * n else 0) (y f)

pub same_both : (c c' : Bool) (v v' l l' : Family → ℕ) (a b : Option IfAddr) → c ≡ c' → ((f : Family) → v f ≡ v' f) → ((f : Family) → l f ≡ l' f) → both_read c v l a b ≡ both_read c' v' l' a b
same_both c c' v v' l l' a b e x y =
    ap (λ d. both_read d v l a b) e
    ∙ (ap (λ n. if c' then n + read_by v l b else 0) (same_read v v' l l' a x y)
    ∙ ap (λ n. if c' then read_by v' l' a + n else 0) (same_read v v' l l' b x y))
