-- Prefixes in order: what covers one stands before it, and covers all that stand between both.
use Rattle.std.proofs.Common.{◌≡◌, ◌≤◌, ◌<◌, ◌+◌, ◌-◌, ◌%◌, ◌^◌, ◌⊎◌, inl, inr, ℕ, zero, suc, Bool, true, false, List, ◌&&◌, nat_lt, length, drop, get_or, Option, Some, None, refl, sym, ap, ◌∙◌, subst, arith}
use Rattle.std.specs.declared.cmp.Ordering.{Ordering}
use Rattle.std.specs.declared.cmp.Ordering.TheVariants.{Less, Equal, Greater}
use Rattle.std.specs.Ordering.{nat_cmp, ordering_then, is_lt}
use Rattle.std.specs.Cmp.{ranked}
use Rattle.std.specs.List.{Contains}
use Rattle.std.specs.List.Sorted.{IsSorted, IsSortedBy}
use Rattle.std.proofs.lemmas.Bool.{and_parts, and_from, ltb-true, lt-ltb, cases_lt, false_from_ne_true, both_ways}
use Rattle.std.proofs.lemmas.Cmp.{nat_list_cmp_total}
use Rattle.std.proofs.lemmas.List.{get_or_default, get_or-drop}
use Rattle.std.proofs.lemmas.List.Sorted.{ranks_by, sorted_far}
use Rattle.ixp_num.specs.AddressForms.{version_of}
use Rattle.ixp_num.specs.Families.{bits_of}
use Rattle.ixp_num.specs.Prefixes.{covers}
use Rattle.ixp_num.specs.declared.family.Family.{Family}
use Rattle.ixp_num.specs.declared.family.Family.TheVariants.{V4, V6}
use Rattle.ixp_num.specs.declared.prefix.Prefix.{Prefix}
use Rattle.ixp_num.proofs.FirstBits.{inside}
use Rattle.ixp_num.specs.contracts.prefix_order.PrefixOrd.TheImpl as prefix_ord
use Rattle.ixp_num_sorted.specs.Keys.{prefix_key}
use Rattle.ixp_num_sorted.specs.Told.{prefix_ordered}
use Rattle.ixp_num_tables.specs.Tables.{order}
use Rattle.ixp_pfxset.specs.Plain.{is_under, is_within}
use Rattle.ixp_pfxset.proofs.Covering.{covers_says, covers_from, covers_chain, covers_equal}
use Rattle.ixp_pfxset.proofs.Parting.{covered_value}
use Rattle.ixp_pfxset.proofs.Within.{within_says, within_from}

-- order

-- a prefix stands no later than another
abbrev pub IsUpto : Prefix → Prefix → Type 0
IsUpto p q = ((p.family ≡ q.family) × (p.value ≤ q.value) × (p.value ≡ q.value → p.len ≤ q.len)) ⊎ ((p.family ≡ V4) × (q.family ≡ V6))

pub then_not : (o r : Ordering) → is_lt (ordering_then o r) ≡ false → (o ≡ Greater) ⊎ ((o ≡ Equal) × (is_lt r ≡ false))
then_not Less r e = absurd (let h : ⊥ = cc in h)
then_not Equal r e = inr (refl, e)
then_not Greater r e = inl refl

pub greater : (x y : ℕ) → nat_cmp x y ≡ Greater → y < x
greater x y e = ranked x y Greater (sym e)

pub equal_to : (x y : ℕ) → nat_cmp x y ≡ Equal → x ≡ y
equal_to x y e = ranked x y Equal (sym e)

families_before : (f g : Family) → version_of f < version_of g → (f ≡ V4) × (g ≡ V6)
families_before V4 V4 less = absurd (let h : ⊥ = omega arith in h)
families_before V4 V6 less = (refl, refl)
families_before V6 V4 less = absurd (let h : ⊥ = omega arith in h)
families_before V6 V6 less = absurd (let h : ⊥ = omega arith in h)

families_equal : (f g : Family) → version_of f ≡ version_of g → f ≡ g
families_equal V4 V4 e = refl
families_equal V4 V6 e = absurd (let h : ⊥ = omega arith in h)
families_equal V6 V4 e = absurd (let h : ⊥ = omega arith in h)
families_equal V6 V6 e = refl

lengths : (m n : ℕ) → is_lt (ordering_then (nat_cmp n m) Equal) ≡ false → m ≤ n
lengths m n e = by (then_not (nat_cmp n m) Equal e) where
  by : (nat_cmp n m ≡ Greater) ⊎ ((nat_cmp n m ≡ Equal) × (is_lt Equal ≡ false)) → m ≤ n
  by (inl less) = let lt = greater n m less in omega arith
  by (inr equal) = let same = equal_to n m equal.0 in omega arith

values : (v w m n : ℕ) → is_lt (ordering_then (nat_cmp w v) (ordering_then (nat_cmp n m) Equal)) ≡ false → (v ≤ w) × (v ≡ w → m ≤ n)
values v w m n e = by (then_not (nat_cmp w v) (ordering_then (nat_cmp n m) Equal) e) where
  by : (nat_cmp w v ≡ Greater) ⊎ ((nat_cmp w v ≡ Equal) × (is_lt (ordering_then (nat_cmp n m) Equal) ≡ false)) → (v ≤ w) × (v ≡ w → m ≤ n)
  by (inl less) = let lt = greater w v less in (omega arith, λ same. absurd (let h : ⊥ = omega arith in h))
  by (inr equal) = let same = equal_to w v equal.0 in (omega arith, λ x. lengths m n equal.1)

upto_keys : (p q : Prefix) → is_lt (order (prefix_key q) (prefix_key p)) ≡ false → IsUpto p q
upto_keys p q e = by (then_not (nat_cmp (version_of q.family) (version_of p.family)) rest e) where
  rest : Ordering
  rest = ordering_then (nat_cmp q.value p.value) (ordering_then (nat_cmp q.len p.len) Equal)

  by : (nat_cmp (version_of q.family) (version_of p.family) ≡ Greater) ⊎ ((nat_cmp (version_of q.family) (version_of p.family) ≡ Equal) × (is_lt rest ≡ false)) → IsUpto p q
  by (inl less) = inr (families_before p.family q.family (greater (version_of q.family) (version_of p.family) less))
  by (inr equal) =
      let both = values p.value q.value p.len q.len equal.1 in
      inl (sym (families_equal q.family p.family (equal_to (version_of q.family) (version_of p.family) equal.0)), both.0, both.1)

pub upto_at : (list : List Prefix) (i j : ℕ) (d : Prefix) → IsSorted (prefix_ord.ghosts).cmp list → i ≤ j → j < length list → IsUpto (get_or list i d) (get_or list j d)
upto_at list i j d sorted le less = upto_keys (get_or list i d) (get_or list j d) (sorted_far (λ (x y : Prefix). is_lt (order (prefix_key x) (prefix_key y))) (ranks_by nat_list_cmp_total prefix_key) list keys i j d le less) where
  keys : IsSortedBy (λ (x y : Prefix). is_lt (order (prefix_key x) (prefix_key y))) list
  keys k e low high = ap is_lt (sym (prefix_ordered (get_or list (k + 1) e) (get_or list k e))) ∙ sorted k e low high

-- covering

-- a prefix covers all that stand between it and one that it covers
between : (p q n : Prefix) → IsUpto p q → IsUpto q n → covers p n ≡ true → covers p q ≡ true
between p q n (inl one) (inl two) over =
    let lies = covers_says p n over in
    let none : q.value % 2 ^ (bits_of p.family - q.len) ≡ 0 = subst (λ f. q.value % 2 ^ (bits_of f - q.len) ≡ 0) (sym one.0) q.no_host_bits in
    let both = inside (bits_of p.family) p.len q.len p.value q.value n.value p.short p.no_host_bits none lies.bits one.1 two.1 one.2 in
    covers_from p q (record { family = one.0; len = both.0; bits = both.1 })
between p q n (inl one) (inr two) over = absurd (let a = (covers_says p n over).family in let b = two.0 in let c = two.1 in let d = one.0 in let h : ⊥ = apart p.family q.family n.family d a b c in h) where
  apart : (f g h : Family) → f ≡ g → f ≡ h → g ≡ V4 → h ≡ V6 → ⊥
  apart f g h fg fh four six = let same : V4 ≡ V6 = sym four ∙ (sym fg ∙ (fh ∙ six)) in let bad : ⊥ = cc in bad
between p q n (inr one) (inl two) over = absurd (apart p.family q.family n.family (covers_says p n over).family one.0 one.1 two.0) where
  apart : (f g h : Family) → f ≡ h → f ≡ V4 → g ≡ V6 → g ≡ h → ⊥
  apart f g h fh four six gh = let same : V4 ≡ V6 = sym four ∙ (fh ∙ (sym gh ∙ six)) in let bad : ⊥ = cc in bad
between p q n (inr one) (inr two) over = absurd (let same : V4 ≡ V6 = sym two.0 ∙ one.1 in let bad : ⊥ = cc in bad)

-- what stands no earlier than another one can't be longer and cover it
no_cover_after : (p q : Prefix) → IsUpto p q → q.len < p.len → covers q p ≡ true → ⊥
no_cover_after p q (inl is) less over =
    let low = (covered_value q p over).0 in
    let same : p.value ≡ q.value = let le = is.1 in omega arith in
    let le = is.2 same in
    omega arith
no_cover_after p q (inr is) less over = let same : V6 ≡ V4 = sym is.1 ∙ ((covers_says q p over).family ∙ is.0) in let bad : ⊥ = cc in bad

-- a list that is the same from a place on has the same row there
pub still_there : (xs ys : List Prefix) (i : ℕ) (r : Prefix) → drop i ys ≡ drop i xs → r ≡ get_or ys i r → get_or xs i r ≡ r
still_there xs ys i r rest here =
    let none : i + 0 ≡ i = omega arith in
    ap (λ k. get_or xs k r) (sym none) ∙ (sym (get_or-drop i xs 0 r) ∙ (ap (λ zs. get_or zs 0 r) (sym rest) ∙ (get_or-drop i ys 0 r ∙ (ap (λ k. get_or ys k r) none ∙ sym here))))

-- the last prefix that was taken

-- the row before this place that no shorter one covers, if there is one, behind which each row lies in a shorter one
abbrev pub IsLast : List Prefix → ℕ → Option Prefix → Type 0
IsLast list i None = i ≡ 0
IsLast list i (Some p) = (k : ℕ) × (k < i) × (get_or list k p ≡ p) × (is_within list p ≡ false) × ((j : ℕ) (d : Prefix) → k < j → j < i → is_within list (get_or list j d) ≡ true)

abbrev HasOuter : List Prefix → Prefix → Type 0
HasOuter list r = (p : Prefix) × Contains list p × (p.len < r.len) × (covers p r ≡ true) × (is_within list p ≡ false)

-- of the rows that cover a prefix one lies in no shorter one
outer_cover : (list : List Prefix) (n : ℕ) (q r : Prefix) → q.len ≤ n → Contains list q → q.len < r.len → covers q r ≡ true → HasOuter list r
outer_cover list zero q r le there less over = (q, there, less, over, false_from_ne_true (is_within list q) (λ e. let some = within_says list q e in let shorter = some.2 in let h : ⊥ = omega arith in h))
outer_cover list (suc n) q r le there less over = on (is_within list q) refl (λ p inside shorter cover. outer_cover list n p r (omega arith) inside (omega arith) (covers_chain p q r cover over)) where
  on : (b : Bool) → is_within list q ≡ b → ((p : Prefix) → Contains list p → p.len < q.len → covers p q ≡ true → HasOuter list r) → HasOuter list r
  on false e next = (q, there, less, over, e)
  on true e next = let some = within_says list q e in next some.0 some.1 some.2 some.3

module _ (list : List Prefix) (sorted : IsSorted (prefix_ord.ghosts).cmp list) (i : ℕ) (r : Prefix) (short : i < length list) (at : get_or list i r ≡ r) where
  here : (d : Prefix) → get_or list i d ≡ r
  here d = get_or_default list i d r short ∙ at

  -- an outermost cover of the row at this place stands before it
  before : (m : ℕ) (p : Prefix) → m < length list → get_or list m p ≡ p → p.len < r.len → covers p r ≡ true → m < i
  before m p inside is less over = by (cases_lt m i) where
    by : (m < i) ⊎ (i ≤ m) → m < i
    by (inl lt) = lt
    by (inr le) =
        let far : IsUpto (get_or list i p) (get_or list m p) = upto_at list i m p sorted le inside in
        absurd (no_cover_after r p (subst (λ (x : Prefix). IsUpto r x) is (subst (λ (x : Prefix). IsUpto x (get_or list m p)) (here p) far)) less over)

  same_as_last : (x p : Prefix) (k m : ℕ) → IsLast list i (Some x) → m < length list → get_or list m p ≡ p → p.len < r.len → covers p r ≡ true → is_within list p ≡ false → p ≡ x
  same_as_last x p k' m (k, low, is_x, kept, between_) inside is less over outer = by (cases_lt m k) where
    lt_i : m < i
    lt_i = before m p inside is less over

    at_x : (d : Prefix) → get_or list k d ≡ x
    at_x d = get_or_default list k d x (omega arith) ∙ is_x

    apart : m < k → p ≡ x
    apart lt =
        let first : IsUpto p x = subst (λ (y : Prefix). IsUpto p y) (at_x p) (subst (λ (y : Prefix). IsUpto y (get_or list k p)) is (upto_at list m k p sorted (omega arith) (omega arith))) in
        let second : IsUpto x r = subst (λ (y : Prefix). IsUpto x y) (here x) (subst (λ (y : Prefix). IsUpto y (get_or list i x)) is_x (upto_at list k i x sorted (omega arith) short)) in
        let inner : covers p x ≡ true = between p x r first second over in
        let le : p.len ≤ x.len = (covers_says p x inner).len in
        equal inner le (cases_lt p.len x.len) where
          equal : covers p x ≡ true → p.len ≤ x.len → (p.len < x.len) ⊎ (x.len ≤ p.len) → p ≡ x
          equal inner le (inl lt_len) = absurd (both_ways (is_within list x) kept (within_from list p x (m, inside, is) lt_len inner))
          equal inner le (inr ge) = covers_equal p x inner (omega arith)

    later : (k < m) ⊎ (m ≤ k) → k ≤ m → p ≡ x
    later (inl lt) ge = absurd (both_ways (is_within list p) outer (subst (λ (y : Prefix). is_within list y ≡ true) is (between_ m p lt lt_i)))
    later (inr le) ge = let one : m ≡ k = omega arith in sym is ∙ (ap (λ n. get_or list n p) one ∙ at_x p)

    by : (m < k) ⊎ (k ≤ m) → p ≡ x
    by (inl lt) = apart lt
    by (inr ge) = later (cases_lt k m) ge

  under_there : (last : Option Prefix) → IsLast list i last → is_within list r ≡ true → is_under last r ≡ true
  under_there last is e = by last is where
    outer : HasOuter list r
    outer = let some = within_says list r e in outer_cover list some.0.len some.0 r (omega arith) some.1 some.2 some.3

    by : (last : Option Prefix) → IsLast list i last → is_under last r ≡ true
    by None none = absurd (let lt = before outer.1.0 outer.0 outer.1.1 outer.1.2 outer.2 outer.3 in let h : ⊥ = omega arith in h)
    by (Some x) last_ =
        let one : outer.0 ≡ x = same_as_last x outer.0 0 outer.1.0 last_ outer.1.1 outer.1.2 outer.2 outer.3 outer.4 in
        subst (λ (y : Prefix). (nat_lt y.len r.len && covers y r) ≡ true) one (and_from (nat_lt outer.0.len r.len) (covers outer.0 r) (lt-ltb outer.0.len r.len outer.2) outer.3)

  under_back : (last : Option Prefix) → IsLast list i last → is_under last r ≡ true → is_within list r ≡ true
  under_back None none e = absurd (let h : ⊥ = cc in h)
  under_back (Some x) (k, low, is_x, kept, between_) e =
      let two = and_parts (nat_lt x.len r.len) (covers x r) e in
      within_from list x r (k, omega arith, is_x) (ltb-true x.len r.len two.0) two.1

  alike : (a b : Bool) → (a ≡ true → b ≡ true) → (b ≡ true → a ≡ true) → a ≡ b
  alike true b there back = sym (there refl)
  alike false true there back = back refl
  alike false false there back = refl

  -- the last prefix that was taken tells whether a shorter one covers the row
  pub tells : (last : Option Prefix) → IsLast list i last → is_within list r ≡ is_under last r
  tells last is = alike (is_within list r) (is_under last r) (under_there last is) (under_back last is)

  pub taken : (last : Option Prefix) → IsLast list i last → is_under last r ≡ false → IsLast list (i + 1) (Some r)
  taken last is e = (i, omega arith, at, tells last is ∙ e, λ j d low high. absurd (omega arith))

  pub skipped : (last : Option Prefix) → IsLast list i last → is_under last r ≡ true → IsLast list (i + 1) last
  skipped None none e = absurd (let h : ⊥ = cc in h)
  skipped (Some x) (k, low, is_x, kept, between_) e = (k, omega arith, is_x, kept, λ j d from to. by j d from to (cases_lt j i)) where
    by : (j : ℕ) (d : Prefix) → k < j → j < i + 1 → (j < i) ⊎ (i ≤ j) → is_within list (get_or list j d) ≡ true
    by j d from to (inl lt) = between_ j d from lt
    by j d from to (inr ge) =
        let same : i ≡ j = omega arith in
        subst (λ n. is_within list (get_or list n d) ≡ true) same (subst (λ (y : Prefix). is_within list y ≡ true) (sym (here d)) (under_back (Some x) (k, low, is_x, kept, between_) e))
