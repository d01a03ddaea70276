-- Keys are in a total order, in which equal keys are the same list.
use Rattle.std.proofs.Common.{◌≡◌, ℕ, List, [], ◌∷◌, true, sym, ap, ◌∙◌, subst}
use Rattle.std.specs.declared.cmp.Ordering.{Ordering}
use Rattle.std.specs.declared.cmp.Ordering.TheVariants.{Less, Equal}
use Rattle.std.specs.Ordering.{ordering_reverse, is_eq}
use Rattle.std.specs.Cmp.Lexicographic.{told_text}
use Rattle.std.specs.Str.{bytes_eq}
use Rattle.std.specs.List.{AllByRecursion}
use Rattle.std.proofs.lemmas.Cmp.{nat_list_cmp_total, tied_itself}
use Rattle.std.proofs.lemmas.Map.Text.{is_eq-slice_cmp}
use Rattle.ixp_num_tables.specs.Tables.{order}

-- the other way round
pub turned : (a b : List ℕ) (o : Ordering) → order a b ≡ o → order b a ≡ ordering_reverse o
turned a b o e = nat_list_cmp_total.antisymm b a ∙ ap ordering_reverse e

pub chained : (a b c : List ℕ) → order a b ≡ Less → order b c ≡ Less → order a c ≡ Less
chained a b c = nat_list_cmp_total.trans a b c

pub order_same : (a : List ℕ) → order a a ≡ Equal
order_same a = tied_itself nat_list_cmp_total a

-- equal keys compare alike with every key
pub as_equal : (a b c : List ℕ) → order a b ≡ Equal → order a c ≡ order b c
as_equal a b c = nat_list_cmp_total.congr a b c

pub as_equal_right : (a b c : List ℕ) → order a b ≡ Equal → order c a ≡ order c b
as_equal_right a b c e = nat_list_cmp_total.antisymm c a ∙ (ap ordering_reverse (as_equal a b c e) ∙ sym (nat_list_cmp_total.antisymm c b))

-- keys that compare `Equal` are the same key
pub order_equal : (a b : List ℕ) → order a b ≡ Equal → a ≡ b
order_equal a b e =
    let same : true ≡ bytes_eq a b = ap is_eq (sym e) ∙ is_eq-slice_cmp a b in
    told_text a b true same

-- of two keys that begin with a number and are the same, the numbers are the same and so are the rests
pub head_same : (m n : ℕ) (a b : List ℕ) → order (m ∷ a) (n ∷ b) ≡ Equal → m ≡ n
head_same m n a b e = let same = order_equal (m ∷ a) (n ∷ b) e in cc

pub tail_same : (m n : ℕ) (a b : List ℕ) → order (m ∷ a) (n ∷ b) ≡ Equal → order a b ≡ Equal
tail_same m n a b e =
    let same = order_equal (m ∷ a) (n ∷ b) e in
    let rest : a ≡ b = cc in
    subst (λ x. order a x ≡ Equal) rest (order_same a)

module _ {X : Type 0} where
  -- what follows from a fact on every item
  pub all_weaker : (P Q : X → Type 0) → ((x : X) → P x → Q x) → (xs : List X) → AllByRecursion P xs → AllByRecursion Q xs
  all_weaker P Q step [] all = tt
  all_weaker P Q step (x ∷ xs) all = (step x all.0, all_weaker P Q step xs all.1)
