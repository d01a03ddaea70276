-- Rows whose names differ, kind by kind.
use Rattle.std.proofs.Common.{◌≡◌, ◌≢◌, ℕ, ◌+◌, ◌<◌, ◌≤◌, List, [], ◌∷◌, ◌++◌, map, flat_map, refl, sym, ap, ◌∙◌, subst, arith}
use Rattle.std.specs.declared.cmp.Ordering.{Ordering}
use Rattle.std.specs.declared.cmp.Ordering.TheVariants.{Less, Equal}
use Rattle.std.specs.List.{AllByRecursion}
use Rattle.ixp_io.specs.declared.keeper.RowName.{RowName}
use Rattle.ixp_num_tables.specs.Tables.{order, Ascends}
use Rattle.ixp_num_tables.specs.Sums.{Pairs}
use Rattle.ixp_num_tables.proofs.AllItems.{all_true, all_joined, zip}
use Rattle.ixp_num_tables.proofs.Orders.{all_weaker, order_same}
use Rattle.ixp_rows_lines.specs.Fields.{Field, Piece, AllFit}
use Rattle.ixp_rows_lines.specs.Lines.{field_key}
use Rattle.ixp_rows_lines.proofs.Unbroken.{IsClear}
use Rattle.ixp_store_rows.specs.Names.{Entry, key_text}
use Rattle.ixp_store_rows.proofs.KeyTexts.{key_told}

-- two rows have different names
abbrev pub Differ : Entry → Entry → Type 0
Differ a b = a.0 ≢ b.0

-- rows of the kinds from `low` to below `high`, no two with one name
pub record Within (low high : ℕ) (es : List Entry) : Type 0 where
  pub above : AllByRecursion (λ e. low ≤ e.0.kind) es
  pub below : AllByRecursion (λ e. e.0.kind < high) es
  pub apart : Pairs Differ es

pub pairs_joined : (xs ys : List Entry) → Pairs Differ xs → Pairs Differ ys → AllByRecursion (λ e. AllByRecursion (Differ e) ys) xs → Pairs Differ (xs ++ ys)
pairs_joined [] ys here there across = there
pairs_joined (x ∷ xs) ys here there across = (all_joined (Differ x) xs ys here.0 across.0, pairs_joined xs ys here.1 there across.1)

-- rows of lower kinds before rows of higher ones
pub joined : (low mid high : ℕ) (xs ys : List Entry) → low ≤ mid → mid ≤ high → Within low mid xs → Within mid high ys → Within low high (xs ++ ys)
joined low mid high xs ys up more here there = record {
  above = all_joined (λ e. low ≤ e.0.kind) xs ys here.above (all_weaker (λ e. mid ≤ e.0.kind) (λ e. low ≤ e.0.kind) (λ e h. omega (arith, h, up)) ys there.above);
  below = all_joined (λ e. e.0.kind < high) xs ys (all_weaker (λ e. e.0.kind < mid) (λ e. e.0.kind < high) (λ e h. omega (arith, h, more)) xs here.below) there.below;
  apart = pairs_joined xs ys here.apart there.apart
      (all_weaker (λ e. e.0.kind < mid) (λ e. AllByRecursion (Differ e) ys) (λ e h. all_weaker (λ f. mid ≤ f.0.kind) (Differ e) (λ f g. kinds_differ e f h g) ys there.above) xs here.below);
}
  where
    kinds_differ : (e f : Entry) → e.0.kind < mid → mid ≤ f.0.kind → e.0 ≡ f.0 → ⊥
    kinds_differ e f h g is = let same : e.0.kind ≡ f.0.kind = ap (λ (n : RowName). n.kind) is in omega (arith, h, g, same)

-- one row
pub one : (e : Entry) (kind : ℕ) → e.0.kind ≡ kind → Within kind (kind + 1) (e ∷ [])
one e kind is = record { above = (omega (arith, is), tt); below = (omega (arith, is), tt); apart = (tt, tt) }

-- rows that ascend by keys that their names tell
module _ {R : Type 0} (kind : ℕ) (form : List Piece) (clear : AllByRecursion IsClear form) (fields : R → List Field) (key : R → List ℕ) (keyed : (r : R) → flat_map field_key (fields r) ≡ key r) (row : R → Entry)
    (kind_is : (r : R) → (row r).0.kind ≡ kind) (key_is : (r : R) → (row r).0.key ≡ key_text (fields r)) where
  differ : (r s : R) → AllFit form (fields r) → AllFit form (fields s) → order (key r) (key s) ≡ Less → (row r).0 ≡ (row s).0 → ⊥
  differ r s a b less e =
      let texts : key_text (fields r) ≡ key_text (fields s) = sym (key_is r) ∙ (ap (λ (n : RowName). n.key) e ∙ key_is s) in
      let same : fields r ≡ fields s = key_told form (fields r) (fields s) clear a b texts in
      let keys : key r ≡ key s = sym (keyed r) ∙ (ap (flat_map field_key) same ∙ keyed s) in
      let tie : order (key r) (key s) ≡ Equal = subst (λ k. order (key r) k ≡ Equal) keys (order_same (key r)) in
      let bad : ◌≡◌ {A = Ordering} Equal Less = sym tie ∙ less in
      cc

  differ_all : (r : R) → AllFit form (fields r) → (rs : List R) → AllByRecursion (λ s. order (key r) (key s) ≡ Less) rs → AllByRecursion (λ s. AllFit form (fields s)) rs → AllByRecursion (Differ (row r)) (map row rs)
  differ_all r a [] up fit = tt
  differ_all r a (s ∷ rs) up fit = (differ r s a fit.0 up.0, differ_all r a rs up.1 fit.1)

  apart_rows : (rs : List R) → Ascends key rs → AllByRecursion (λ s. AllFit form (fields s)) rs → Pairs Differ (map row rs)
  apart_rows [] up fit = tt
  apart_rows (r ∷ rs) up fit = (differ_all r fit.0 rs up.0 fit.1, apart_rows rs up.1 fit.1)

  kinds : (rs : List R) → AllByRecursion (λ e. e.0.kind ≡ kind) (map row rs)
  kinds [] = tt
  kinds (r ∷ rs) = (kind_is r, kinds rs)

  pub rows_within : (rs : List R) → Ascends key rs → AllByRecursion (λ s. AllFit form (fields s)) rs → Within kind (kind + 1) (map row rs)
  rows_within rs up fit = record {
    above = all_weaker (λ e. e.0.kind ≡ kind) (λ e. kind ≤ e.0.kind) (λ e h. omega (arith, h)) (map row rs) (kinds rs);
    below = all_weaker (λ e. e.0.kind ≡ kind) (λ e. e.0.kind < kind + 1) (λ e h. omega (arith, h)) (map row rs) (kinds rs);
    apart = apart_rows rs up fit;
  }

-- rows that each item of a list has, far from those of other items
module _ {X : Type 0} (f : X → List Entry) (Far : X → X → Type 0) (Is : X → Type 0) (cross : (x y : X) → Is x → Is y → Far x y → AllByRecursion (λ e. AllByRecursion (Differ e) (f y)) (f x)) where
  across : (x : X) → Is x → (ys : List X) → AllByRecursion Is ys → AllByRecursion (Far x) ys → AllByRecursion (λ e. AllByRecursion (Differ e) (flat_map f ys)) (f x)
  across x is [] all far = all_true (λ e. AllByRecursion (Differ e) []) (λ e. tt) (f x)
  across x is (y ∷ ys) all far = zip (f x) (cross x y is all.0 far.0) (across x is ys all.1 far.1) (λ e a b. all_joined (Differ e) (f y) (flat_map f ys) a b)

  pub flat_apart : (xs : List X) → Pairs Far xs → AllByRecursion Is xs → AllByRecursion (λ x. Pairs Differ (f x)) xs → Pairs Differ (flat_map f xs)
  flat_apart [] far all own = tt
  flat_apart (x ∷ xs) far all own = pairs_joined (f x) (flat_map f xs) own.0 (flat_apart xs far.1 all.1 own.1) (across x all.0 xs all.1 far.0)

pub pairs_from : {R : Type 0} (key : R → List ℕ) (rs : List R) → Ascends key rs → Pairs (λ r s. order (key r) (key s) ≡ Less) rs
pairs_from key [] up = tt
pairs_from key (r ∷ rs) up = (up.0, pairs_from key rs up.1)
