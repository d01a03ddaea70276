-- The router's answer on rows whose parameters fill their segments' ends.
use Rattle.std.proofs.Common.{◌≡◌, ◌⊎◌, inl, inr, ℕ, zero, suc, ◌-◌, ◌<◌, List, [], ◌∷◌, length, drop, Option, Some, None, Bool, true, false, cond, refl, sym, ap, ◌∙◌, arith, nat_eq, ◌==◌, ◌||◌, ◌&&◌, ltb}
use Rattle.std.proofs.lemmas.Bool.Decides.{nat_tests}
use Rattle.matchit.specs.Rows.{RowsOf, param_token, catch_all_token}
use Rattle.matchit.specs.Seek.{slash, own, step, or_else, seek, first, param_step, has_slash, segment, cuts, longest_from, longest_suffix, with_suffix}
use Rattle.ixp_api_paths.specs.Fits.{is_empty, on_head, fits, ends_segment, plain, AllPlain, AllEnd, Tells, wander}

head-plain : (x : ℕ) (t : List ℕ) → plain (x ∷ t) ≡ true → plain t ≡ true
head-plain x t h = grind arith

head-ends : (x : ℕ) (t : List ℕ) → plain (x ∷ t) ≡ true → (x == param_token) ≡ true → ends_segment t ≡ true
head-ends x t h e = grind (arith, nat_tests)

head-catch : (x : ℕ) (t : List ℕ) → plain (x ∷ t) ≡ true → (x == catch_all_token) ≡ false
head-catch x t h = grind (arith, nat_tests)

-- the rows that go on with a slash
end-segment : (x : ℕ) (t : List ℕ) → (x == slash) ≡ true → segment (x ∷ t) ≡ slash ∷ []
end-segment x t e =
    let f : x ≡ slash = grind (arith, nat_tests) in
    rw e (ap (λ y. y ∷ []) f)

-- where a segment ends
segment-some : (p : List ℕ) → has_slash p ≡ true → 0 < length (segment p)
segment-some [] h = cc
segment-some (c ∷ q) h =
    elim (c == slash) as (λ v. 0 < length (cond v (c ∷ []) (c ∷ segment q))) [
      | true ↦ omega arith
      | false ↦ omega arith
    ]

last-slash : (b : ℕ) (p : List ℕ) → has_slash p ≡ true → drop (length (segment p)) (b ∷ segment p) ≡ slash ∷ []
last-slash b [] h = cc
last-slash b (c ∷ q) h = by (c == slash) refl h (λ g. last-slash c q g)
  where
    by : (v : Bool) → (c == slash) ≡ v → cond v true (has_slash q) ≡ true → (has_slash q ≡ true → drop (length (segment q)) (c ∷ segment q) ≡ slash ∷ [])
        → drop (length (cond v (c ∷ []) (c ∷ segment q))) (b ∷ cond v (c ∷ []) (c ∷ segment q)) ≡ slash ∷ []
    by true e g ih = let f : c ≡ slash = grind (arith, nat_tests) in ap (λ y. y ∷ []) f
    by false e g ih = ih g

last-other : (b : ℕ) (p : List ℕ) → (b == slash) ≡ false → has_slash p ≡ false → (x : ℕ) × (drop (length (segment p)) (b ∷ segment p) ≡ x ∷ []) × ((x == slash) ≡ false)
last-other b [] n h = (b, refl, n)
last-other b (c ∷ q) n h = by (c == slash) refl h (λ m g. last-other c q m g)
  where
    by : (v : Bool) → (c == slash) ≡ v → cond v true (has_slash q) ≡ false
        → ((c == slash) ≡ false → has_slash q ≡ false → (x : ℕ) × (drop (length (segment q)) (c ∷ segment q) ≡ x ∷ []) × ((x == slash) ≡ false))
        → (x : ℕ) × (drop (length (cond v (c ∷ []) (c ∷ segment q))) (b ∷ cond v (c ∷ []) (c ∷ segment q)) ≡ x ∷ []) × ((x == slash) ≡ false)
    by true e g ih = cc
    by false e g ih = ih e g

one_less : (n : ℕ) → suc n - 1 ≡ n
one_less n = omega arith

cut-yes : (b : ℕ) (p : List ℕ) → has_slash p ≡ true → cuts (b ∷ segment p) (slash ∷ []) ≡ true
cut-yes b p h =
    let s = segment-some p h in
    let l : ltb 1 (suc (length (segment p))) ≡ true = grind (arith, nat_tests) in
    rw (l, one_less (length (segment p)), last-slash b p h) refl

cut-no : (b : ℕ) (p : List ℕ) → (b == slash) ≡ false → has_slash p ≡ false → cuts (b ∷ segment p) (slash ∷ []) ≡ false
cut-no b p n h =
    let (x, e, m) = last-other b p n h in
    let f : nat_eq slash x ≡ false = grind (arith, nat_tests) in
    rw (one_less (length (segment p)), e, f) (elim (ltb 1 (suc (length (segment p)))) as (λ v. (v && false) ≡ false) [ true ↦ refl | false ↦ refl ])

abbrev Walks : Type 0 → List ℕ → Type 0
Walks K p =
    ((rs : RowsOf K) → AllPlain rs → seek 0 rs p ≡ wander false rs p)
    × ((rs : RowsOf K) → AllEnd rs → AllPlain rs → has_slash p ≡ true → seek (length (segment p) - 1) (with_suffix (slash ∷ []) rs) p ≡ wander true rs p)

module _ {K : Type 0} where
  own-tells : (rs : RowsOf K) → Tells is_empty rs (own rs)
  own-tells [] = tt
  own-tells (([], k) ∷ rs) = inl (refl, refl)
  own-tells ((x ∷ t, k) ∷ rs) = past (own rs) (own-tells rs)
    where
      past : (o : Option K) → Tells is_empty rs o → Tells is_empty ((x ∷ t, k) ∷ rs) o
      past None h = (refl, h)
      past (Some j) h = inr h

  none-tells : (rs : RowsOf K) → Tells (λ t. false) rs None
  none-tells [] = tt
  none-tells ((t, k) ∷ rs) = (refl, none-tells rs)

  -- a row that the answer doesn't come from
  over : (f : List ℕ → Bool) (t : List ℕ) (k : K) (rs : RowsOf K) (o : Option K) → f t ≡ false → Tells f rs o → Tells f ((t, k) ∷ rs) o
  over f t k rs None e h = (e, h)
  over f t k rs (Some j) e h = inr h

  step-tells : (c : ℕ) (f : List ℕ → Bool) (rs : RowsOf K) (o : Option K) → Tells f (step c rs) o → Tells (on_head c f) rs o
  step-tells c f [] o h = h
  step-tells c f (([], k) ∷ rs) o h = over (on_head c f) [] k rs o refl (step-tells c f rs o h)
  step-tells c f ((x ∷ t, k) ∷ rs) o h = by (x == c) refl o h (λ p g. step-tells c f rs p g)
    where
      by : (v : Bool) → (x == c) ≡ v → (p : Option K) → Tells f (cond v ((t, k) ∷ step c rs) (step c rs)) p
          → ((q : Option K) → Tells f (step c rs) q → Tells (on_head c f) rs q) → Tells (on_head c f) ((x ∷ t, k) ∷ rs) p
      by true e None g ih = rw e (g.0, ih None g.1)
      by true e (Some j) (inl g) ih = rw e (inl g)
      by true e (Some j) (inr g) ih = inr (ih (Some j) g)
      by false e p g ih = over (on_head c f) (x ∷ t) k rs p (rw e refl) (ih p g)

  or-tells : (f g : List ℕ → Bool) (rs : RowsOf K) (a b : Option K) → Tells f rs a → Tells g rs b → Tells (λ t. f t || g t) rs (or_else a b)
  or-tells f g [] None b h i = i
  or-tells f g [] (Some j) b h i = h
  or-tells f g ((t, k) ∷ rs) None None h i = (rw (h.0, i.0) refl, or-tells f g rs None None h.1 i.1)
  or-tells f g ((t, k) ∷ rs) None (Some j) h (inl i) = inl (rw (h.0, i.0) refl, i.1)
  or-tells f g ((t, k) ∷ rs) None (Some j) h (inr i) = inr (or-tells f g rs None (Some j) h.1 i)
  or-tells f g ((t, k) ∷ rs) (Some j) b (inl h) i = inl (rw h.0 refl, h.1)
  or-tells f g ((t, k) ∷ rs) (Some j) b (inr h) i = inr (some-tells f g rs j h)
    where
      some-tells : (f g : List ℕ → Bool) (r : RowsOf K) (j : K) → Tells f r (Some j) → Tells (λ u. f u || g u) r (Some j)
      some-tells f g [] j h = h
      some-tells f g ((u, m) ∷ r) j (inl h) = inl (rw h.0 refl, h.1)
      some-tells f g ((u, m) ∷ r) j (inr h) = inr (some-tells f g r j h)

  -- what the walk answers
  pub wander-tells : (p : List ℕ) (inside : Bool) (rs : RowsOf K) → Tells (λ t. fits inside t p) rs (wander inside rs p)
  wander-tells [] true rs = own-tells rs
  wander-tells [] false rs = own-tells rs
  wander-tells (c ∷ q) true rs =
      elim (c == slash) as (λ v. Tells (λ t. cond v (on_head slash (λ u. fits false u q) t) (fits true t q)) rs (cond v (wander false (step slash rs) q) (wander true rs q))) [
        | true ↦ step-tells slash (λ u. fits false u q) rs _ (wander-tells q false (step slash rs))
        | false ↦ wander-tells q true rs
      ]
  wander-tells (c ∷ q) false rs =
      or-tells (on_head c (λ u. fits false u q)) _ rs _ _
      (step-tells c (λ u. fits false u q) rs _ (wander-tells q false (step c rs)))
      (elim (c == slash) as (λ v. Tells (λ t. cond v false (on_head param_token (λ u. fits true u q) t)) rs (cond v None (wander true (step param_token rs) q))) [
        | true ↦ none-tells rs
        | false ↦ step-tells param_token (λ u. fits true u q) rs _ (wander-tells q true (step param_token rs))
      ])

  -- the router's walk is this one
  param_step-empty : (p : List ℕ) → (param_step {K = K} [] p).1 ≡ []
  unfolding param_step
  param_step-empty p =
      elim (has_slash p) as (λ v. (cond {A = ℕ × RowsOf K} v (0, []) (length p, [])).1 ≡ []) [
        | true ↦ refl
        | false ↦ refl
      ]

  seek-empty : (k : ℕ) (p : List ℕ) → seek {K = K} k [] p ≡ None
  unfolding seek
  seek-empty k [] = refl
  seek-empty (suc k) (b ∷ p) = seek-empty k p
  seek-empty zero (b ∷ p) = simp (seek-empty 0 p, param_step-empty (b ∷ p), seek-empty (((param_step {K = K} [] (b ∷ p)).0) - 1) p)

  seek-all : (rs : RowsOf K) (p : List ℕ) → seek (length p) rs p ≡ own rs
  unfolding seek
  seek-all rs [] = refl
  seek-all rs (b ∷ p) = seek-all rs p

  wander-all : (rs : RowsOf K) (p : List ℕ) → has_slash p ≡ false → wander true rs p ≡ own rs
  wander-all rs [] h = refl
  wander-all rs (c ∷ q) h = by (c == slash) h (λ g. wander-all rs q g)
    where
      by : (v : Bool) → cond v true (has_slash q) ≡ false → (has_slash q ≡ false → wander true rs q ≡ own rs)
          → cond v (wander false (step slash rs) q) (wander true rs q) ≡ own rs
      by true g ih = cc
      by false g ih = ih g

  or_else-none : (a : Option K) → or_else a None ≡ a
  or_else-none None = refl
  or_else-none (Some k) = refl

  step-plain : (c : ℕ) (rs : RowsOf K) → AllPlain rs → AllPlain (step c rs)
  step-plain c [] h = tt
  step-plain c (([], k) ∷ rs) h = step-plain c rs h.1
  step-plain c ((x ∷ t, k) ∷ rs) h =
      elim (x == c) as (λ v. AllPlain (cond v ((t, k) ∷ step c rs) (step c rs))) [
        | true ↦ (head-plain x t h.0, step-plain c rs h.1)
        | false ↦ step-plain c rs h.1
      ]

  step-ends : (rs : RowsOf K) → AllPlain rs → AllEnd (step param_token rs)
  step-ends [] h = tt
  step-ends (([], k) ∷ rs) h = step-ends rs h.1
  step-ends ((x ∷ t, k) ∷ rs) h = by (x == param_token) refl (step-ends rs h.1)
    where
      by : (v : Bool) → (x == param_token) ≡ v → AllEnd (step param_token rs) → AllEnd (cond v ((t, k) ∷ step param_token rs) (step param_token rs))
      by true e ih = (head-ends x t h.0 e, ih)
      by false e ih = ih

  step-catch : (rs : RowsOf K) → AllPlain rs → step catch_all_token rs ≡ []
  step-catch [] h = refl
  step-catch (([], k) ∷ rs) h = step-catch rs h.1
  step-catch ((x ∷ t, k) ∷ rs) h = rw (head-catch x t h.0) (step-catch rs h.1)

  w-slash : (rs : RowsOf K) → AllEnd rs → step slash (with_suffix (slash ∷ []) rs) ≡ step slash rs
  w-slash [] h = refl
  w-slash (([], k) ∷ rs) h = w-slash rs h.1
  w-slash ((x ∷ t, k) ∷ rs) h = rw (end-segment x t h.0, h.0) (ap (λ z. (t, k) ∷ z) (w-slash rs h.1))

  w-other : (c : ℕ) → (slash == c) ≡ false → (rs : RowsOf K) → AllEnd rs → step c (with_suffix (slash ∷ []) rs) ≡ []
  w-other c n [] h = refl
  w-other c n (([], k) ∷ rs) h = w-other c n rs h.1
  w-other c n ((x ∷ t, k) ∷ rs) h =
      let f : x ≡ slash = grind (arith, nat_tests, h.0) in
      let g : (x == c) ≡ false = rw f n in
      rw (end-segment x t h.0, g) (w-other c n rs h.1)

  -- the longest suffix
  longest-kept : (seg : List ℕ) (rs : RowsOf K) → AllEnd rs → longest_from seg (slash ∷ []) rs ≡ slash ∷ []
  longest-kept seg [] h = refl
  longest-kept seg (([], k) ∷ rs) h = longest-kept seg rs h.1
  longest-kept seg ((x ∷ t, k) ∷ rs) h = rw (end-segment x t h.0) (longest-kept seg rs h.1)

  longest-no : (seg : List ℕ) (rs : RowsOf K) → cuts seg (slash ∷ []) ≡ false → AllEnd rs → longest_suffix seg rs ≡ []
  longest-no seg [] n h = refl
  longest-no seg (([], k) ∷ rs) n h = longest-no seg rs n h.1
  longest-no seg ((x ∷ t, k) ∷ rs) n h = rw (end-segment x t h.0, n) (longest-no seg rs n h.1)

  longest-yes : (seg : List ℕ) (rs : RowsOf K) → cuts seg (slash ∷ []) ≡ true → AllEnd rs
      → (longest_suffix seg rs ≡ slash ∷ []) ⊎ ((longest_suffix seg rs ≡ []) × (with_suffix (slash ∷ []) rs ≡ []))
  longest-yes seg [] y h = inr (refl, refl)
  longest-yes seg (([], k) ∷ rs) y h = longest-yes seg rs y h.1
  longest-yes seg ((x ∷ t, k) ∷ rs) y h = inl (rw (end-segment x t h.0, y) (longest-kept seg rs h.1))

  -- a parameter's step, by what the longest suffix is
  ps-cut : (rs : RowsOf K) (p : List ℕ) → longest_suffix (segment p) rs ≡ slash ∷ [] → param_step rs p ≡ (length (segment p) - 1, with_suffix (slash ∷ []) rs)
  unfolding param_step
  ps-cut rs p e = rw e refl

  ps-stop : (rs : RowsOf K) (p : List ℕ) → longest_suffix (segment p) rs ≡ [] → has_slash p ≡ true → param_step rs p ≡ (0, [])
  unfolding param_step
  ps-stop rs p e h = rw (e, h) refl

  ps-all : (rs : RowsOf K) (p : List ℕ) → longest_suffix (segment p) rs ≡ [] → has_slash p ≡ false → param_step rs p ≡ (length p, rs)
  unfolding param_step
  ps-all rs p e h = rw (e, h) refl

  ps-root : (rs : RowsOf K) (b : ℕ) (p : List ℕ) → (b == slash) ≡ true → AllEnd rs → param_step rs (b ∷ p) ≡ (0, [])
  ps-root rs b p e h =
      let n : longest_suffix (segment (b ∷ p)) rs ≡ [] = rw e (longest-no (b ∷ []) rs refl h) in
      let y : has_slash (b ∷ p) ≡ true = rw e refl in
      ps-stop rs (b ∷ p) n y

  after : (rs : RowsOf K) (b : ℕ) (p : List ℕ) → AllEnd rs → (b == slash) ≡ false
      → (has_slash p ≡ true → seek (length (segment p) - 1) (with_suffix (slash ∷ []) rs) p ≡ wander true rs p)
      → seek ((param_step rs (b ∷ p)).0 - 1) (param_step rs (b ∷ p)).1 p ≡ wander true rs p
  after rs b p h n q = by (has_slash p) refl
    where
      by : (v : Bool) → has_slash p ≡ v → seek ((param_step rs (b ∷ p)).0 - 1) (param_step rs (b ∷ p)).1 p ≡ wander true rs p
      by false e =
          let s : segment (b ∷ p) ≡ b ∷ segment p = rw n refl in
          let l : longest_suffix (segment (b ∷ p)) rs ≡ [] = rw s (longest-no (b ∷ segment p) rs (cut-no b p n e) h) in
          let y : has_slash (b ∷ p) ≡ false = rw n e in
          rw (ps-all rs (b ∷ p) l y, one_less (length p)) (seek-all rs p ∙ sym (wander-all rs p e))
      by true e =
          let s : segment (b ∷ p) ≡ b ∷ segment p = rw n refl in
          let y : has_slash (b ∷ p) ≡ true = rw n e in
          elim (longest-yes (b ∷ segment p) rs (cut-yes b p e) h) [
            | inl l ↦
                let m : longest_suffix (segment (b ∷ p)) rs ≡ slash ∷ [] = rw s l in
                rw (ps-cut rs (b ∷ p) m, s, one_less (length (segment p))) (q e)
            | inr l ↦
                let m : longest_suffix (segment (b ∷ p)) rs ≡ [] = rw s l.0 in
                rw (ps-stop rs (b ∷ p) m y) (seek-empty (0 - 1) p ∙ sym (seek-empty (length (segment p) - 1) p) ∙ rw l.1 at (q e))
          ]

  outside : (c : ℕ) (q : List ℕ) → Walks K q → (rs : RowsOf K) → AllPlain rs → seek 0 rs (c ∷ q) ≡ wander false rs (c ∷ q)
  unfolding seek
  outside c q ih rs h =
      rw (ih.0 (step c rs) (step-plain c rs h), step-catch rs h, or_else-none) (ap (or_else (wander false (step c rs) q)) (by (c == slash) refl))
    where
      by : (v : Bool) → (c == slash) ≡ v → seek ((param_step (step param_token rs) (c ∷ q)).0 - 1) (param_step (step param_token rs) (c ∷ q)).1 q ≡ cond v None (wander true (step param_token rs) q)
      by true e = rw (ps-root (step param_token rs) c q e (step-ends rs h)) (seek-empty (0 - 1) q)
      by false e = after (step param_token rs) c q (step-ends rs h) e (ih.1 (step param_token rs) (step-ends rs h) (step-plain param_token rs h))

  at-slash : (q : List ℕ) → Walks K q → (rs : RowsOf K) → AllEnd rs → AllPlain rs → seek 0 (with_suffix (slash ∷ []) rs) (slash ∷ q) ≡ wander false (step slash rs) q
  unfolding seek
  at-slash q ih rs h g =
      rw (w-slash rs h, w-other param_token refl rs h, w-other catch_all_token refl rs h, param_step-empty (slash ∷ q), seek-empty _ q, or_else-none) (ih.0 (step slash rs) (step-plain slash rs g))

  within : (c : ℕ) (q : List ℕ) → Walks K q → (rs : RowsOf K) → AllEnd rs → AllPlain rs → has_slash (c ∷ q) ≡ true
      → seek (length (segment (c ∷ q)) - 1) (with_suffix (slash ∷ []) rs) (c ∷ q) ≡ wander true rs (c ∷ q)
  unfolding seek
  within c q ih rs h g y = by (c == slash) refl y
    where
      by : (v : Bool) → (c == slash) ≡ v → cond v true (has_slash q) ≡ true
          → seek (length (cond v (c ∷ []) (c ∷ segment q)) - 1) (with_suffix (slash ∷ []) rs) (c ∷ q) ≡ cond v (wander false (step slash rs) q) (wander true rs q)
      by true e y2 =
          let f : c ≡ slash = grind (arith, nat_tests) in
          rw f (at-slash q ih rs h g)
      by false e y2 =
          let s = segment-some q y2 in
          let n : suc (length (segment q)) - 1 ≡ suc (length (segment q) - 1) = omega arith in
          rw n (ih.1 rs h g y2)

walks : (K : Type 0) (p : List ℕ) → Walks K p
unfolding seek
walks K [] = (λ rs h. refl, λ rs h g y. cc)
walks K (c ∷ q) = let ih = walks K q in (outside c q ih, within c q ih)

-- the router's answer is a row that fits the path, and there is none only where no row fits
pub first-tells : {K : Type 0} (rs : RowsOf K) (p : List ℕ) → AllPlain rs → Tells (λ t. fits false t p) rs (first rs p)
first-tells rs p h = rw ((walks _ p).0 rs h) (wander-tells p false rs)
