-- Patterns in order: the list that ascends, and that there is one such list of given members.
use Rattle.std.proofs.Common.{◌≡◌, ℕ, true, List, [], ◌∷◌, ◌⊎◌, inl, inr, refl, sym, ap, ◌∙◌, subst, arith}
use Rattle.std.specs.declared.cmp.Ordering.{Ordering}
use Rattle.std.specs.declared.cmp.Ordering.TheVariants.{Less, Equal, Greater}
use Rattle.std.specs.Ordering.{nat_cmp, match_ordering, ordering_reverse, is_eq}
use Rattle.std.specs.Cmp.{IsTotalOrder}
use Rattle.std.specs.Cmp.Lexicographic.{slice_cmp, told_text}
use Rattle.std.specs.Str.{bytes_eq}
use Rattle.std.specs.List.{Contains, AllByRecursion}
use Rattle.std.specs.List.Sorted.{IsStrictlySortedBy}
use Rattle.std.proofs.lemmas.Cmp.{nat_list_cmp_total, on_total, tied_itself}
use Rattle.std.proofs.lemmas.Map.Text.{is_eq-slice_cmp}
use Rattle.ixp_num.specs.AddressForms.{version_of}
use Rattle.ixp_num.specs.declared.family.Family.{Family}
use Rattle.ixp_num.specs.declared.family.Family.TheVariants.{V4, V6}
use Rattle.ixp_num.specs.declared.pattern.Pattern.{Pattern}
use Rattle.ixp_num.specs.declared.prefix.Prefix.{Prefix}
use Rattle.ixp_num_sorted.specs.Keys.{pattern_key}
use Rattle.ixp_pfxset.specs.BlockList.{pattern_order, put_in, in_order}
use Rattle.ixp_pfxset.proofs.Covering.{one_prefix}
use Rattle.ixp_pfxset.proofs.Members.{first_in, later_in, in_cases, none_in}

-- a strict order's lists
module _ {K : Type 0} {R : K → K → Ordering} (o : IsTotalOrder R) where
  pub all_of : (P : K → Type 0) (x : K) (xs : List K) → AllByRecursion P xs → Contains xs x → P x
  all_of P x [] all here = absurd (none_in x here)
  all_of P x (y ∷ ys) all here = by (in_cases y x ys here) (λ later. all_of P x ys all.1 later) where
    by : (y ≡ x) ⊎ Contains ys x → (Contains ys x → P x) → P x
    by (inl same) rest = subst P same all.0
    by (inr later) rest = rest later

  never_below_itself : (x : K) → R x x ≡ Less → ⊥
  never_below_itself x less = let tie = tied_itself o x in cc

  heads : (x y : K) → (y ≡ x) ⊎ (R y x ≡ Less) → (x ≡ y) ⊎ (R x y ≡ Less) → x ≡ y
  heads x y (inl same) b = sym same
  heads x y (inr less) (inl same) = same
  heads x y (inr less) (inr more) = absurd (never_below_itself x (o.trans x y x more less))

  either : (x y : K) (ys : List K) → AllByRecursion (λ z. R y z ≡ Less) ys → (y ≡ x) ⊎ Contains ys x → (y ≡ x) ⊎ (R y x ≡ Less)
  either x y ys all (inl same) = inl same
  either x y ys all (inr later) = inr (all_of (λ z. R y z ≡ Less) x ys all later)

  -- a member of the one list behind the head is behind the other's
  behind : (x y z : K) (ys : List K) → R x z ≡ Less → x ≡ y → (y ≡ z) ⊎ Contains ys z → Contains ys z
  behind x y z ys less same (inl is) = absurd (never_below_itself x (subst (λ w. R x w ≡ Less) (sym (same ∙ is)) less))
  behind x y z ys less same (inr later) = later

  pub one_list : (xs ys : List K) → IsStrictlySortedBy R xs → IsStrictlySortedBy R ys → ((z : K) → Contains xs z → Contains ys z) → ((z : K) → Contains ys z → Contains xs z) → xs ≡ ys
  unfolding IsStrictlySortedBy
  one_list [] [] up down there back = refl
  one_list [] (y ∷ ys) up down there back = absurd (none_in y (back y (first_in y ys)))
  one_list (x ∷ xs) [] up down there back = absurd (none_in x (there x (first_in x xs)))
  one_list (x ∷ xs) (y ∷ ys) up down there back =
      let same : x ≡ y = heads x y (either x y ys down.0 (in_cases y x ys (there x (first_in x xs)))) (either y x xs up.0 (in_cases x y xs (back y (first_in y ys)))) in
      let rest : xs ≡ ys = one_list xs ys up.1 down.1
      (λ z in_xs. behind x y z ys (all_of (λ w. R x w ≡ Less) z xs up.0 in_xs) same (in_cases y z ys (there z (later_in x z xs in_xs))))
      (λ z in_ys. behind y x z xs (all_of (λ w. R y w ≡ Less) z ys down.0 in_ys) (sym same) (in_cases x z xs (back z (later_in y z ys in_ys)))) in
      ap (λ w. w ∷ xs) same ∙ ap (λ ws. y ∷ ws) rest

  pub all_weaker : (P Q : K → Type 0) → ((x : K) → P x → Q x) → (xs : List K) → AllByRecursion P xs → AllByRecursion Q xs
  all_weaker P Q step [] all = tt
  all_weaker P Q step (x ∷ xs) all = (step x all.0, all_weaker P Q step xs all.1)

-- patterns with one key are one
version_tells : (f g : Family) → version_of f ≡ version_of g → f ≡ g
version_tells V4 V4 e = refl
version_tells V4 V6 e = absurd (omega arith)
version_tells V6 V4 e = absurd (omega arith)
version_tells V6 V6 e = refl

abbrev pattern_with : Prefix → ℕ → ℕ → Pattern
pattern_with p low high = record { prefix = p; low = low; high = high }

pub one_pattern : (s t : Pattern) → s.prefix ≡ t.prefix → s.low ≡ t.low → s.high ≡ t.high → s ≡ t
one_pattern s t prefix low high =
    ap (λ p. pattern_with p s.low s.high) prefix ∙ (ap (λ n. pattern_with t.prefix n s.high) low ∙ ap (pattern_with t.prefix t.low) high)

equal_keys : (a b : List ℕ) → slice_cmp nat_cmp a b ≡ Equal → a ≡ b
equal_keys a b e =
    let same : true ≡ bytes_eq a b = ap is_eq (sym e) ∙ is_eq-slice_cmp a b in
    told_text a b true same

pub equal_patterns : (s t : Pattern) → pattern_order s t ≡ Equal → s ≡ t
equal_patterns s t e =
    let same : pattern_key s ≡ pattern_key t = equal_keys (pattern_key s) (pattern_key t) e in
    let version : version_of s.prefix.family ≡ version_of t.prefix.family = cc in
    let value : s.prefix.value ≡ t.prefix.value = cc in
    let len : s.prefix.len ≡ t.prefix.len = cc in
    let low : s.low ≡ t.low = cc in
    let high : s.high ≡ t.high = cc in
    one_pattern s t (one_prefix s.prefix t.prefix (version_tells s.prefix.family t.prefix.family version) len value) low high

pub pattern_total : IsTotalOrder pattern_order
pattern_total = on_total pattern_key nat_list_cmp_total

-- a pattern that is put in is there, with the ones that were
put_step : (t s : Pattern) (ss : List Pattern) (x : Pattern) (o : Ordering) → Contains (match_ordering o (s ∷ put_in t ss) (s ∷ ss) (t ∷ s ∷ ss)) x
    → (Contains (put_in t ss) x → (t ≡ x) ⊎ Contains ss x) → (t ≡ x) ⊎ Contains (s ∷ ss) x
put_step t s ss x Less here rest = by (in_cases s x (put_in t ss) here) where
  wider : (t ≡ x) ⊎ Contains ss x → (t ≡ x) ⊎ Contains (s ∷ ss) x
  wider (inl same) = inl same
  wider (inr later) = inr (later_in s x ss later)

  by : (s ≡ x) ⊎ Contains (put_in t ss) x → (t ≡ x) ⊎ Contains (s ∷ ss) x
  by (inl same) = inr (subst (Contains (s ∷ ss)) same (first_in s ss))
  by (inr later) = wider (rest later)
put_step t s ss x Equal here rest = inr here
put_step t s ss x Greater here rest = in_cases t x (s ∷ ss) here

from_put : (t : Pattern) (ss : List Pattern) (x : Pattern) → Contains (put_in t ss) x → (t ≡ x) ⊎ Contains ss x
from_put t [] x here = in_cases t x [] here
from_put t (s ∷ ss) x here = put_step t s ss x (pattern_order s t) here (from_put t ss x)

there_step : (t s : Pattern) (ss : List Pattern) (o : Ordering) → pattern_order s t ≡ o → Contains (put_in t ss) t → Contains (match_ordering o (s ∷ put_in t ss) (s ∷ ss) (t ∷ s ∷ ss)) t
there_step t s ss Less e rest = later_in s t (put_in t ss) rest
there_step t s ss Equal e rest = subst (Contains (s ∷ ss)) (equal_patterns s t e) (first_in s ss)
there_step t s ss Greater e rest = first_in t (s ∷ ss)

put_there : (t : Pattern) (ss : List Pattern) → Contains (put_in t ss) t
put_there t [] = first_in t []
put_there t (s ∷ ss) = there_step t s ss (pattern_order s t) refl (put_there t ss)

still_step : (t s : Pattern) (ss : List Pattern) (x : Pattern) (o : Ordering) → (s ≡ x) ⊎ Contains ss x → (Contains ss x → Contains (put_in t ss) x) → Contains (match_ordering o (s ∷ put_in t ss) (s ∷ ss) (t ∷ s ∷ ss)) x
still_step t s ss x Less (inl same) rest = subst (Contains (s ∷ put_in t ss)) same (first_in s (put_in t ss))
still_step t s ss x Less (inr later) rest = later_in s x (put_in t ss) (rest later)
still_step t s ss x Equal (inl same) rest = subst (Contains (s ∷ ss)) same (first_in s ss)
still_step t s ss x Equal (inr later) rest = later_in s x ss later
still_step t s ss x Greater (inl same) rest = later_in t x (s ∷ ss) (subst (Contains (s ∷ ss)) same (first_in s ss))
still_step t s ss x Greater (inr later) rest = later_in t x (s ∷ ss) (later_in s x ss later)

put_still : (t : Pattern) (ss : List Pattern) (x : Pattern) → Contains ss x → Contains (put_in t ss) x
put_still t [] x here = absurd (none_in x here)
put_still t (s ∷ ss) x here = still_step t s ss x (pattern_order s t) (in_cases s x ss here) (put_still t ss x)

-- putting in keeps the order
all_put_step : (P : Pattern → Type 0) (t s : Pattern) (ss : List Pattern) (o : Ordering) → P t → P s → AllByRecursion P ss → AllByRecursion P (put_in t ss) → AllByRecursion P (match_ordering o (s ∷ put_in t ss) (s ∷ ss) (t ∷ s ∷ ss))
all_put_step P t s ss Less pt ps rest after = (ps, after)
all_put_step P t s ss Equal pt ps rest after = (ps, rest)
all_put_step P t s ss Greater pt ps rest after = (pt, (ps, rest))

all_put : (P : Pattern → Type 0) (t : Pattern) (ss : List Pattern) → P t → AllByRecursion P ss → AllByRecursion P (put_in t ss)
all_put P t [] pt all = (pt, tt)
all_put P t (s ∷ ss) pt all = all_put_step P t s ss (pattern_order s t) pt all.0 all.1 (all_put P t ss pt all.1)

turned : (s t : Pattern) → pattern_order s t ≡ Greater → pattern_order t s ≡ Less
turned s t e = pattern_total.antisymm t s ∙ ap ordering_reverse e

put_ascends_step : (t s : Pattern) (ss : List Pattern) (o : Ordering) → pattern_order s t ≡ o → AllByRecursion (λ u. pattern_order s u ≡ Less) ss → IsStrictlySortedBy pattern_order ss → IsStrictlySortedBy pattern_order (put_in t ss)
    → IsStrictlySortedBy pattern_order (match_ordering o (s ∷ put_in t ss) (s ∷ ss) (t ∷ s ∷ ss))
unfolding IsStrictlySortedBy
put_ascends_step t s ss Less e above up after = (all_put (λ u. pattern_order s u ≡ Less) t ss e above, after)
put_ascends_step t s ss Equal e above up after = (above, up)
put_ascends_step t s ss Greater e above up after =
    let below = turned s t e in
    ((below, all_weaker pattern_total (λ u. pattern_order s u ≡ Less) (λ u. pattern_order t u ≡ Less) (λ u less. pattern_total.trans t s u below less) ss above), (above, up))

put_ascends : (t : Pattern) (ss : List Pattern) → IsStrictlySortedBy pattern_order ss → IsStrictlySortedBy pattern_order (put_in t ss)
unfolding IsStrictlySortedBy
put_ascends t [] up = (tt, tt)
put_ascends t (s ∷ ss) up = put_ascends_step t s ss (pattern_order s t) refl up.0 up.1 (put_ascends t ss up.1)

pub ordered_ascends : (ts : List Pattern) → IsStrictlySortedBy pattern_order (in_order ts)
unfolding IsStrictlySortedBy
ordered_ascends [] = tt
ordered_ascends (t ∷ ts) = put_ascends t (in_order ts) (ordered_ascends ts)

pub from_ordered : (x : Pattern) (ts : List Pattern) → Contains (in_order ts) x → Contains ts x
from_ordered x [] here = here
from_ordered x (t ∷ ts) here = by (from_put t (in_order ts) x here) (from_ordered x ts) where
  by : (t ≡ x) ⊎ Contains (in_order ts) x → (Contains (in_order ts) x → Contains ts x) → Contains (t ∷ ts) x
  by (inl same) rest = subst (Contains (t ∷ ts)) same (first_in t ts)
  by (inr later) rest = later_in t x ts (rest later)

pub to_ordered : (x : Pattern) (ts : List Pattern) → Contains ts x → Contains (in_order ts) x
to_ordered x [] here = here
to_ordered x (t ∷ ts) here = by (in_cases t x ts here) (to_ordered x ts) where
  by : (t ≡ x) ⊎ Contains ts x → (Contains ts x → Contains (in_order ts) x) → Contains (in_order (t ∷ ts)) x
  by (inl same) rest = subst (Contains (in_order (t ∷ ts))) same (put_there t (in_order ts))
  by (inr later) rest = put_still t (in_order ts) x (rest later)
