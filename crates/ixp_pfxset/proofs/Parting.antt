-- Rows of one length, parted by their next bit: what is full in a half, and which patterns lie there.
use Rattle.std.proofs.Common.{◌≡◌, ◌≤◌, ◌<◌, ◌+◌, ◌-◌, ◌*◌, ◌/◌, ◌%◌, ◌^◌, ℕ, Bool, true, false, not, ◌&&◌, ◌==◌, ◌↔◌, List, [], ◌∷◌, ◌++◌, ◌⊎◌, inl, inr, length, get_or, take, drop, ltb, refl, sym, ap, ◌∙◌, subst, arith}
use Rattle.std.specs.List.{All, AllWithin as AllFrom, Contains}
use Rattle.std.proofs.lemmas.Bool.{and_parts, and_from, eqb-true, ltb-true, ltb-false, not-true, not_from_false, false_from_ne_true, cases_lt}
use Rattle.std.proofs.lemmas.List.{get_or-take, get_or-drop, length-drop, length-take}
use Rattle.std.proofs.lemmas.List.Elements.{All-contains, Contains-append_left, Contains-append_right, Contains-append_cases}
use Rattle.std.proofs.lemmas.Nat.{pow_pos, mod_below, div-add-mod'}
use Rattle.ixp_num.specs.Families.{bits_of}
use Rattle.ixp_num.specs.Prefixes.{covers, IsParent}
use Rattle.ixp_num.specs.declared.pattern.Pattern.{Pattern}
use Rattle.ixp_num.specs.declared.prefix.Prefix.{Prefix}
use Rattle.ixp_pfxset.specs.Plain.{Fills, IsTop}
use Rattle.ixp_pfxset.specs.Trie.{AllWithin, IsMerged, IsMergedBelow}
use Rattle.ixp_pfxset.proofs.Covering.{covers_says, covers_itself, covers_chain, covers_between, covers_equal, moved_bits, parent_is}
use Rattle.ixp_pfxset.proofs.Filling.{number, part, part_covered}
use Rattle.ixp_pfxset.proofs.Halves.{both_halves, apart_halves, fills_half, fills_halves}
use Rattle.ixp_pfxset.proofs.Members.{first_in, none_in}
use Rattle.ixp_pfxset.proofs.Orders.{one_pattern}

-- the front of a list and what is behind it
pub below_part : (xs : List Prefix) (i m : ℕ) → i ≤ length xs → AllFrom (λ y. ltb y.value m ≡ true) xs 0 i → All (λ r. r.value < m) (take i xs)
below_part xs i m le each k d inside =
    let size : length (take i xs) ≤ i = omega (arith, length-take i xs) in
    let at : get_or (take i xs) k d ≡ get_or xs k d = get_or-take i xs k d (omega arith) in
    subst (λ (r : Prefix). r.value < m) (sym at) (ltb-true (get_or xs k d).value m (each k d (omega arith) (omega arith)))

pub above_part : (xs : List Prefix) (i m : ℕ) → AllFrom (λ y. ltb y.value m ≡ false) xs i (length xs) → All (λ r. m ≤ r.value) (drop i xs)
above_part xs i m each k d inside =
    let size : length (drop i xs) ≡ length xs - i = length-drop i xs in
    let at : get_or (drop i xs) k d ≡ get_or xs (i + k) d = get_or-drop i xs k d in
    subst (λ (r : Prefix). m ≤ r.value) (sym at) (ltb-false (get_or xs (i + k) d).value m (each (i + k) d (omega arith) (omega arith)))

-- the numbers of what a prefix covers
pub covered_value : (p q : Prefix) → covers p q ≡ true → (p.value ≤ q.value) × (q.value < p.value + 2 ^ (bits_of p.family - p.len))
covered_value p q over =
    let w : ℕ = 2 ^ (bits_of p.family - p.len) in
    let whole : number p * w ≡ p.value = moved_bits p in
    let bits : q.value / w ≡ number p = (covers_says p q over).bits in
    let parts : q.value / w * w + q.value % w ≡ q.value = div-add-mod' q.value w in
    let moved : number p * w + q.value % w ≡ q.value = subst (λ x. x * w + q.value % w ≡ q.value) bits parts in
    let small : q.value % w < w = mod_below q.value w (pow_pos (bits_of p.family - p.len)) in
    (omega arith, omega arith)

-- a list of rows within `n`, parted where the second half of `n` begins
pub record IsParted (list a b : List Prefix) (l : ℕ) (n first second : Prefix) : Type 0 where
  pub at : IsParent first n
  pub bt : IsParent second n
  pub begins : first.value ≡ n.value
  pub step : second.value ≡ n.value + 2 ^ (bits_of n.family - (n.len + 1))
  pub longer : n.len < l
  pub within : AllWithin list l n
  pub both : list ≡ a ++ b
  pub below : All (λ r. r.value < second.value) a
  pub above : All (λ r. second.value ≤ r.value) b

module _ (list a b : List Prefix) (l : ℕ) (n first second : Prefix) (is : IsParted list a b l n first second) where
  less : first.value < second.value
  less = let x = is.begins in let y = is.step in omega (arith, pow_pos (bits_of n.family - (n.len + 1)))

  half_len : first.len ≡ n.len + 1
  half_len = sym is.at.0

  second_len : second.len ≡ n.len + 1
  second_len = sym is.bt.0

  in_part : (q : Prefix) → Contains list q → Contains a q ⊎ Contains b q
  in_part q there = Contains-append_cases a b q (subst (λ xs. Contains xs q) is.both there)

  from_a : (q : Prefix) → Contains a q → Contains list q
  from_a q there = subst (λ xs. Contains xs q) (sym is.both) (Contains-append_left a b q there)

  from_b : (q : Prefix) → Contains b q → Contains list q
  from_b q there = subst (λ xs. Contains xs q) (sym is.both) (Contains-append_right a b q there)

  in_half : (q : Prefix) → covers n q ≡ true → n.len < q.len → (covers first q ≡ true) ⊎ (covers second q ≡ true)
  in_half q over longer =
      both_halves (λ x. (covers first x ≡ true) ⊎ (covers second x ≡ true)) q.len n first second is.at is.bt (apart_halves n first second is.at is.bt less) (let e = half_len in omega (arith, e))
      (λ x len o. inl o) (λ x len o. inr o) q refl over

  value_first : (q : Prefix) → covers first q ≡ true → q.value < second.value
  value_first q over =
      let top : q.value < first.value + 2 ^ (bits_of first.family - first.len) = (covered_value first q over).1 in
      let width : bits_of first.family - first.len ≡ bits_of n.family - (n.len + 1) = ap (λ f. bits_of f - first.len) (sym (covers_says n first is.at.1).family) ∙ ap (λ k. bits_of n.family - k) half_len in
      let moved : q.value < first.value + 2 ^ (bits_of n.family - (n.len + 1)) = subst (λ k. q.value < first.value + 2 ^ k) width top in
      let x = is.begins in
      let y = is.step in
      omega arith

  value_second : (q : Prefix) → covers second q ≡ true → second.value ≤ q.value
  value_second q over = (covered_value second q over).0

  value_a : (q : Prefix) → Contains a q → q.value < second.value
  value_a q there = All-contains (λ r. r.value < second.value) a q is.below there

  value_b : (q : Prefix) → Contains b q → second.value ≤ q.value
  value_b q there = All-contains (λ r. second.value ≤ r.value) b q is.above there

  -- the parts lie in the halves
  pub a_within : AllWithin a l first
  a_within q there = (at_list.0, by (in_half q at_list.1 longer)) where
    at_list : (q.len ≡ l) × (covers n q ≡ true)
    at_list = is.within q (from_a q there)

    longer : n.len < q.len
    longer = let e = at_list.0 in let m = is.longer in omega arith

    by : (covers first q ≡ true) ⊎ (covers second q ≡ true) → covers first q ≡ true
    by (inl over) = over
    by (inr over) = absurd (let x = value_second q over in let y = value_a q there in let h : ⊥ = omega arith in h)

  pub b_within : AllWithin b l second
  b_within q there = (at_list.0, by (in_half q at_list.1 longer)) where
    at_list : (q.len ≡ l) × (covers n q ≡ true)
    at_list = is.within q (from_b q there)

    longer : n.len < q.len
    longer = let e = at_list.0 in let m = is.longer in omega arith

    by : (covers first q ≡ true) ⊎ (covers second q ≡ true) → covers second q ≡ true
    by (inl over) = absurd (let x = value_first q over in let y = value_b q there in let h : ⊥ = omega arith in h)
    by (inr over) = over

  -- what lies in a half is full by its part alone
  fills_a : (x : Prefix) → covers first x ≡ true → Fills list l x → Fills a l x
  fills_a x over fills q len below = by (in_part q (fills q len below)) where
    by : Contains a q ⊎ Contains b q → Contains a q
    by (inl there) = there
    by (inr there) = absurd (let v = value_first q (covers_chain first x q over below) in let w = value_b q there in let h : ⊥ = omega arith in h)

  fills_b : (x : Prefix) → covers second x ≡ true → Fills list l x → Fills b l x
  fills_b x over fills q len below = by (in_part q (fills q len below)) where
    by : Contains a q ⊎ Contains b q → Contains b q
    by (inl there) = absurd (let v = value_second q (covers_chain second x q over below) in let w = value_a q there in let h : ⊥ = omega arith in h)
    by (inr there) = there

  a_fills : (x : Prefix) → Fills a l x → Fills list l x
  a_fills x fills q len below = from_a q (fills q len below)

  b_fills : (x : Prefix) → Fills b l x → Fills list l x
  b_fills x fills q len below = from_b q (fills q len below)

  le_l : first.len ≤ l
  le_l = let e = half_len in let m = is.longer in omega arith

  pub both_full : Fills a l first → Fills b l second → Fills list l n
  both_full fa fb = fills_halves list l n first second is.at is.bt less le_l (a_fills first fa) (b_fills second fb)

  pub full_first : Fills list l n → Fills a l first
  full_first fills = fills_a first (covers_itself first) (fills_half list l n first is.at fills)

  pub full_second : Fills list l n → Fills b l second
  full_second fills = fills_b second (covers_itself second) (fills_half list l n second is.bt fills)

  -- tops within a half are those of its part
  top_a : (x : Prefix) → covers first x ≡ true → first.len < x.len → IsTop list l x → IsTop a l x
  top_a x over longer top = (fills_a x over top.0, λ p parent fills. top.1 p parent (a_fills p fills))

  a_top : (x : Prefix) → covers first x ≡ true → first.len < x.len → IsTop a l x → IsTop list l x
  a_top x over longer top = (
    a_fills x top.0,
    λ p parent fills.
        let len : p.len + 1 ≡ x.len = parent.0 in
        top.1 p parent (fills_a p (covers_between first p x over parent.1 (omega arith)) fills),
  )

  top_b : (x : Prefix) → covers second x ≡ true → second.len < x.len → IsTop list l x → IsTop b l x
  top_b x over longer top = (fills_b x over top.0, λ p parent fills. top.1 p parent (b_fills p fills))

  b_top : (x : Prefix) → covers second x ≡ true → second.len < x.len → IsTop b l x → IsTop list l x
  b_top x over longer top = (
    b_fills x top.0,
    λ p parent fills.
        let len : p.len + 1 ≡ x.len = parent.0 in
        top.1 p parent (fills_b p (covers_between second p x over parent.1 (omega arith)) fills),
  )

  -- a half is a top where it is full and the other isn't
  first_top : Fills a l first → (Fills b l second → ⊥) → IsTop list l first
  first_top fa none = (a_fills first fa, λ p parent fills. none (full_second (subst (Fills list l) (parent_is first p parent ∙ sym (parent_is first n is.at)) fills)))

  second_top : Fills b l second → (Fills a l first → ⊥) → IsTop list l second
  second_top fb none = (b_fills second fb, λ p parent fills. none (full_first (subst (Fills list l) (parent_is second p parent ∙ sym (parent_is second n is.bt)) fills)))

  top_first : IsTop list l first → Fills a l first × (Fills b l second → ⊥)
  top_first top = (fills_a first (covers_itself first) top.0, λ fb. top.1 n is.at (both_full (fills_a first (covers_itself first) top.0) fb))

  top_second : IsTop list l second → Fills b l second × (Fills a l first → ⊥)
  top_second top = (fills_b second (covers_itself second) top.0, λ fa. top.1 n is.bt (both_full fa (fills_b second (covers_itself second) top.0)))

  module _ (most : ℕ) (la lb : Bool) (fa : (la ≡ true) ↔ Fills a l first) (fb : (lb ≡ true) ↔ Fills b l second) where
    abbrev half_pattern : Prefix → Pattern
    half_pattern p = record { prefix = p; low = l; high = most }

    -- the patterns of a half: those within it, and it itself
    abbrev InFirst : Pattern → Type 0
    InFirst t = IsMergedBelow a l most first t ⊎ (((la && not lb) ≡ true) × (t ≡ half_pattern first))

    abbrev InSecond : Pattern → Type 0
    InSecond t = IsMergedBelow b l most second t ⊎ (((lb && not la) ≡ true) × (t ≡ half_pattern second))

    merged_first : (t : Pattern) → InFirst t → IsMergedBelow list l most n t
    merged_first t (inl m) = record {
      over = covers_chain n first t.prefix is.at.1 m.over;
      longer = let e = half_len in let w = m.longer in omega arith;
      merged = record { low = m.merged.low; high = m.merged.high; short = m.merged.short; top = a_top t.prefix m.over m.longer m.merged.top };
    }
    merged_first t (inr half) = subst (IsMergedBelow list l most n) (sym half.1) (record {
      over = is.at.1;
      longer = let e = half_len in omega arith;
      merged = record {
        low = refl;
        high = refl;
        short = le_l;
        top =
            let parts = and_parts la (not lb) half.0 in
            first_top (fa.0 parts.0) (λ full. let y = fb.1 full in let x = not-true lb parts.1 in let h : ⊥ = cc in h);
      };
    })

    merged_second : (t : Pattern) → InSecond t → IsMergedBelow list l most n t
    merged_second t (inl m) = record {
      over = covers_chain n second t.prefix is.bt.1 m.over;
      longer = let e = second_len in let w = m.longer in omega arith;
      merged = record { low = m.merged.low; high = m.merged.high; short = m.merged.short; top = b_top t.prefix m.over m.longer m.merged.top };
    }
    merged_second t (inr half) = subst (IsMergedBelow list l most n) (sym half.1) (record {
      over = is.bt.1;
      longer = let e = second_len in omega arith;
      merged = record {
        low = refl;
        high = refl;
        short = (let e = second_len in let w = is.longer in omega arith);
        top =
            let parts = and_parts lb (not la) half.0 in
            second_top (fb.0 parts.0) (λ full. let y = fa.1 full in let x = not-true la parts.1 in let h : ⊥ = cc in h);
      };
    })

    alone : (x y : Bool) (P Q : Type 0) → ((x ≡ true) ↔ P) → ((y ≡ true) ↔ Q) → P → (Q → ⊥) → (x && not y) ≡ true
    alone x y P Q fx fy p none = and_from x (not y) (fx.1 p) (not_from_false y (false_from_ne_true y (λ e. none (fy.0 e))))

    to_first : (t : Pattern) → covers first t.prefix ≡ true → IsMerged list l most t → (first.len < t.prefix.len) ⊎ (t.prefix.len ≤ first.len) → InFirst t
    to_first t over m (inl longer) = inl (record { over = over; longer = longer; merged = record { low = m.low; high = m.high; short = m.short; top = top_a t.prefix over longer m.top } })
    to_first t over m (inr le) =
        let low : first.len ≤ t.prefix.len = (covers_says first t.prefix over).len in
        let same : first ≡ t.prefix = covers_equal first t.prefix over (omega arith) in
        let parts = top_first (subst (IsTop list l) (sym same) m.top) in
        inr (alone la lb (Fills a l first) (Fills b l second) fa fb parts.0 parts.1, one_pattern t (half_pattern first) (sym same) m.low m.high)

    to_second : (t : Pattern) → covers second t.prefix ≡ true → IsMerged list l most t → (second.len < t.prefix.len) ⊎ (t.prefix.len ≤ second.len) → InSecond t
    to_second t over m (inl longer) = inl (record { over = over; longer = longer; merged = record { low = m.low; high = m.high; short = m.short; top = top_b t.prefix over longer m.top } })
    to_second t over m (inr le) =
        let low : second.len ≤ t.prefix.len = (covers_says second t.prefix over).len in
        let same : second ≡ t.prefix = covers_equal second t.prefix over (omega arith) in
        let parts = top_second (subst (IsTop list l) (sym same) m.top) in
        inr (alone lb la (Fills b l second) (Fills a l first) fb fa parts.0 parts.1, one_pattern t (half_pattern second) (sym same) m.low m.high)

    merged_cases : (t : Pattern) → IsMergedBelow list l most n t → InFirst t ⊎ InSecond t
    merged_cases t m = by (in_half t.prefix m.over m.longer) where
      by : (covers first t.prefix ≡ true) ⊎ (covers second t.prefix ≡ true) → InFirst t ⊎ InSecond t
      by (inl over) = inl (to_first t over m.merged (cases_lt first.len t.prefix.len))
      by (inr over) = inr (to_second t over m.merged (cases_lt second.len t.prefix.len))

    -- the four additions together
    pub all_added : (p q r s w : List Pattern)
        → ((t : Pattern) → Contains q t ↔ (Contains p t ⊎ IsMergedBelow a l most first t))
        → ((t : Pattern) → Contains r t ↔ (Contains q t ⊎ IsMergedBelow b l most second t))
        → ((t : Pattern) → Contains s t ↔ (Contains r t ⊎ (((la && not lb) ≡ true) × (t ≡ half_pattern first))))
        → ((t : Pattern) → Contains w t ↔ (Contains s t ⊎ (((lb && not la) ≡ true) × (t ≡ half_pattern second))))
        → (t : Pattern) → Contains w t ↔ (Contains p t ⊎ IsMergedBelow list l most n t)
    all_added p q r s w one two three four t = (there, back) where
      from_q : Contains p t ⊎ IsMergedBelow a l most first t → Contains p t ⊎ IsMergedBelow list l most n t
      from_q (inl first_) = inl first_
      from_q (inr m) = inr (merged_first t (inl m))

      from_r : Contains q t ⊎ IsMergedBelow b l most second t → Contains p t ⊎ IsMergedBelow list l most n t
      from_r (inl before) = from_q ((one t).0 before)
      from_r (inr m) = inr (merged_second t (inl m))

      from_s : Contains r t ⊎ (((la && not lb) ≡ true) × (t ≡ half_pattern first)) → Contains p t ⊎ IsMergedBelow list l most n t
      from_s (inl before) = from_r ((two t).0 before)
      from_s (inr half) = inr (merged_first t (inr half))

      from_w : Contains s t ⊎ (((lb && not la) ≡ true) × (t ≡ half_pattern second)) → Contains p t ⊎ IsMergedBelow list l most n t
      from_w (inl before) = from_s ((three t).0 before)
      from_w (inr half) = inr (merged_second t (inr half))

      there : Contains w t → Contains p t ⊎ IsMergedBelow list l most n t
      there here = from_w ((four t).0 here)

      up_s : Contains s t → Contains w t
      up_s before = (four t).1 (inl before)

      up_r : Contains r t → Contains w t
      up_r before = up_s ((three t).1 (inl before))

      up_q : Contains q t → Contains w t
      up_q before = up_r ((two t).1 (inl before))

      by : InFirst t ⊎ InSecond t → Contains w t
      by (inl (inl m)) = up_q ((one t).1 (inr m))
      by (inl (inr half)) = up_s ((three t).1 (inr half))
      by (inr (inl m)) = up_r ((two t).1 (inr m))
      by (inr (inr half)) = (four t).1 (inr half)

      back : Contains p t ⊎ IsMergedBelow list l most n t → Contains w t
      back (inl first_) = up_q ((one t).1 (inl first_))
      back (inr m) = by (merged_cases t m)

-- with no rows nothing is full, and at its own length a prefix that is a row is
pub none_full : (l : ℕ) (n : Prefix) (list : List Prefix) → list ≡ [] → n.len ≤ l → l ≤ bits_of n.family → Fills list l n → ⊥
none_full l n list none le short fills =
    let q : Prefix = part n l 0 short le (pow_pos (l - n.len)) in
    none_in q (subst (λ xs. Contains xs q) none (fills q refl (part_covered n l 0 short le (pow_pos (l - n.len)))))

pub none_merged : (l most : ℕ) (n : Prefix) (list : List Prefix) (t : Pattern) → list ≡ [] → l ≤ bits_of n.family → IsMergedBelow list l most n t → ⊥
none_merged l most n list t none short m = none_full l t.prefix list none m.merged.short (subst (λ f. l ≤ bits_of f) (covers_says n t.prefix m.over).family short) m.merged.top.0

pub own_row : (l : ℕ) (n q : Prefix) (list : List Prefix) → AllWithin list l n → n.len ≡ l → Contains list q → Fills list l n
own_row l n q list within len there x at over =
    let row = within q there in
    let one : n ≡ q = covers_equal n q row.1 (len ∙ sym row.0) in
    let two : n ≡ x = covers_equal n x over (len ∙ sym at) in
    subst (Contains list) (sym one ∙ two) there

pub no_items : (xs : List Prefix) → (length xs == 0) ≡ true → xs ≡ []
no_items [] e = refl
no_items (x ∷ xs) e = absurd (let none : length (x ∷ xs) ≡ 0 = eqb-true (length (x ∷ xs)) 0 e in let h : ⊥ = omega arith in h)

pub some_item : (xs : List Prefix) → (length xs == 0) ≡ false → (x : Prefix) × Contains xs x
some_item [] e = absurd (let h : ⊥ = cc in h)
some_item (x ∷ xs) e = (x, first_in x xs)

pub none_added : (l most : ℕ) (n : Prefix) (list : List Prefix) (ts : List Pattern) (t : Pattern) → list ≡ [] → l ≤ bits_of n.family → Contains ts t ↔ (Contains ts t ⊎ IsMergedBelow list l most n t)
none_added l most n list ts t none short = ((λ there. inl there), by) where
  by : Contains ts t ⊎ IsMergedBelow list l most n t → Contains ts t
  by (inl there) = there
  by (inr m) = absurd (none_merged l most n list t none short m)
