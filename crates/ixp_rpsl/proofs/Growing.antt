-- What adding sets keeps.
use Rattle.std.proofs.Common.{◌≡◌, ◌+◌, ◌-◌, ◌++◌, ◌&&◌, ◌||◌, ◌==◌, ◌≤◌, ◌<◌, ◌⊎◌, inl, inr, ℕ, Bool, true, false, not, List, [], ◌∷◌, Some, None, refl, sym, ap, ◌∙◌, subst, if◌then◌else◌, IsTrue, bytes_eq, nat_le, suc, zero, length, take, append_assoc, arith}
use Rattle.std.proofs.lemmas.List.{append-nil, length-append}
use Rattle.std.specs.List.{list_all, slice_get, AllByRecursion}
use Rattle.std.proofs.lemmas.Bool.{and_parts, and_from, or_cases, or_left, or_right, le-leb}
use Rattle.std.proofs.lemmas.List.Folds.{list_any-append}
use Rattle.ixp_rpsl.specs.declared.objects.SetRow.{SetRow}
use Rattle.ixp_rpsl.specs.declared.objects.Reach.{Reach}
use Rattle.ixp_rpsl.specs.Expansion.{sets_in, member_sets, is_among, has_name, names_set, is_named, follows, starts, is_closed, is_chain}
use Rattle.ixp_rpsl.specs.Breadth.{named_by, mentions, adds, IsBreadthFirst}
use Rattle.ixp_rpsl.proofs.Chains.{never, name_itself, one_name, more_member}

pub adds_more : (c xs ys : List Reach) → adds c (xs ++ ys) ≡ adds (adds c xs) ys
adds_more c [] ys = refl
adds_more c (x ∷ xs) ys = adds_more (if has_name c x.set then c else c ++ x ∷ []) xs ys

-- a name that is there stays, and each name that is added is there
stays : (c xs : List Reach) (m : List ℕ) → has_name c m ≡ true → has_name (adds c xs) m ≡ true
stays c [] m e = e
stays c (x ∷ xs) m e = stays (if has_name c x.set then c else c ++ x ∷ []) xs m (by_new (has_name c x.set))
  where
    by_new : (b : Bool) → has_name (if b then c else c ++ x ∷ []) m ≡ true
    by_new true = e
    by_new false = list_any-append (λ r. bytes_eq r.set m) c (x ∷ []) ∙ or_left (has_name c m) (has_name (x ∷ []) m) e

is_added : (c xs : List Reach) (m : List ℕ) → has_name xs m ≡ true → has_name (adds c xs) m ≡ true
is_added c [] m e = never e
is_added c (x ∷ xs) m e = by_part (or_cases (bytes_eq x.set m) (has_name xs m) e) (is_added (if has_name c x.set then c else c ++ x ∷ []) xs m)
  where
    by_new : (b : Bool) → has_name c x.set ≡ b → bytes_eq x.set m ≡ true → has_name (if b then c else c ++ x ∷ []) m ≡ true
    by_new true there same = subst (λ n. has_name c n ≡ true) (one_name x.set m same) there
    by_new false there same = list_any-append (λ r. bytes_eq r.set m) c (x ∷ []) ∙ or_right (has_name c m) (has_name (x ∷ []) m) (or_left (bytes_eq x.set m) false same)

    by_part : (bytes_eq x.set m ≡ true) ⊎ (has_name xs m ≡ true) → (has_name xs m ≡ true → has_name (adds (if has_name c x.set then c else c ++ x ∷ []) xs) m ≡ true)
        → has_name (adds (if has_name c x.set then c else c ++ x ∷ []) xs) m ≡ true
    by_part (inl here) more = stays (if has_name c x.set then c else c ++ x ∷ []) xs m (by_new (has_name c x.set) refl here)
    by_part (inr there) more = more there

-- what is named by a longer list
still_named : (rows : List SetRow) (c d : List Reach) (k : ℕ) (m : List ℕ) → names_set rows m (slice_get c k) ≡ true → names_set rows m (slice_get (c ++ d) k) ≡ true
still_named rows [] d k m e = never e
still_named rows (r ∷ c) d zero m e = e
still_named rows (r ∷ c) d (suc k) m e = still_named rows c d k m e

named_later : (rows : List SetRow) (c d : List Reach) (by : ℕ) (m : List ℕ) → is_named rows c by m ≡ true → is_named rows (c ++ d) by m ≡ true
named_later rows c d by m e =
    let parts = and_parts (nat_le 1 by) (names_set rows m (slice_get c (by - 1))) e in
    and_from (nat_le 1 by) (names_set rows m (slice_get (c ++ d) (by - 1))) parts.0 (still_named rows c d (by - 1) m parts.1)

-- one more behind a list that follows
follows_more : (rows : List SetRow) (before c : List Reach) (x : Reach) → follows rows before c ≡ true → is_named rows (before ++ c) x.by x.set ≡ true → has_name (before ++ c) x.set ≡ false
    → follows rows before (c ++ x ∷ []) ≡ true
follows_more rows before [] x e named fresh =
    let n : is_named rows before x.by x.set ≡ true = subst (λ l. is_named rows l x.by x.set ≡ true) (append-nil before) named in
    let f : has_name before x.set ≡ false = subst (λ l. has_name l x.set ≡ false) (append-nil before) fresh in
    and_from (is_named rows before x.by x.set && not (has_name before x.set)) true (and_from (is_named rows before x.by x.set) (not (has_name before x.set)) n (ap not f)) refl
follows_more rows before (r ∷ c) x e named fresh =
    let parts = and_parts (is_named rows before r.by r.set && not (has_name before r.set)) (follows rows (before ++ r ∷ []) c) e in
    let split : before ++ r ∷ c ≡ (before ++ r ∷ []) ++ c = sym (append_assoc before (r ∷ []) c) in
    and_from (is_named rows before r.by r.set && not (has_name before r.set)) (follows rows (before ++ r ∷ []) (c ++ x ∷ [])) parts.0
    (follows_more rows (before ++ r ∷ []) c x parts.1 (subst (λ l. is_named rows l x.by x.set ≡ true) split named) (subst (λ l. has_name l x.set ≡ false) split fresh))

starts_more : (rows : List SetRow) (root : List ℕ) (c : List Reach) (x : Reach) → starts rows root c ≡ true → is_named rows c x.by x.set ≡ true → has_name c x.set ≡ false → starts rows root (c ++ x ∷ []) ≡ true
starts_more rows root [] x e named fresh = never e
starts_more rows root (r ∷ c) x e named fresh =
    let parts = and_parts (bytes_eq r.set root && r.by == 0) (follows rows (r ∷ []) c) e in
    and_from (bytes_eq r.set root && r.by == 0) (follows rows (r ∷ []) (c ++ x ∷ [])) parts.0 (follows_more rows (r ∷ []) c x parts.1 named fresh)

starts_added : (rows : List SetRow) (root : List ℕ) (c xs : List Reach) → starts rows root c ≡ true → AllByRecursion (λ x. is_named rows c x.by x.set ≡ true) xs → starts rows root (adds c xs) ≡ true
starts_added rows root c [] e all = e
starts_added rows root c (x ∷ xs) e all = starts_added rows root (if has_name c x.set then c else c ++ x ∷ []) xs (one (has_name c x.set) refl) (rest (has_name c x.set) xs all.1)
  where
    one : (b : Bool) → has_name c x.set ≡ b → starts rows root (if b then c else c ++ x ∷ []) ≡ true
    one true there = e
    one false there = starts_more rows root c x e all.0 there

    rest : (b : Bool) (xs : List Reach) → AllByRecursion (λ x. is_named rows c x.by x.set ≡ true) xs → AllByRecursion (λ y. is_named rows (if b then c else c ++ x ∷ []) y.by y.set ≡ true) xs
    rest b [] all = tt
    rest true (y ∷ ys) all = (all.0, rest true ys all.1)
    rest false (y ∷ ys) all = (named_later rows c (x ∷ []) y.by y.set all.0, rest false ys all.1)

all_named : (rows : List SetRow) (c : List Reach) (by : ℕ) (ns : List (List ℕ)) → ((m : List ℕ) → is_among ns m ≡ true → is_named rows c by m ≡ true)
    → AllByRecursion (λ x. is_named rows c x.by x.set ≡ true) (named_by by ns)
all_named rows c by [] f = tt
all_named rows c by (n ∷ ns) f = (f n (or_left (bytes_eq n n) (is_among ns n) (name_itself n)), all_named rows c by ns (λ m is. f m (or_right (bytes_eq n m) (is_among ns m) is)))

-- the members of each set are mentioned
names_there : (place : ℕ) (ns : List (List ℕ)) (m : List ℕ) → has_name (named_by place ns) m ≡ is_among ns m
names_there place [] m = refl
names_there place (n ∷ ns) m = ap (λ b. bytes_eq n m || b) (names_there place ns m)

mentioned : (rows : List SetRow) (place : ℕ) (c : List Reach) (n m : List ℕ) → has_name c n ≡ true → is_among (member_sets rows n) m ≡ true → has_name (mentions rows place c) m ≡ true
mentioned rows place [] n m e is = never e
mentioned rows place (r ∷ c) n m e is =
    list_any-append (λ x. bytes_eq x.set m) (named_by place (member_sets rows r.set)) (mentions rows (place + 1) c)
    ∙ by_part (or_cases (bytes_eq r.set n) (has_name c n) e) (λ there. mentioned rows (place + 1) c n m there is)
  where
    by_part : (bytes_eq r.set n ≡ true) ⊎ (has_name c n ≡ true) → (has_name c n ≡ true → has_name (mentions rows (place + 1) c) m ≡ true)
        → (has_name (named_by place (member_sets rows r.set)) m || has_name (mentions rows (place + 1) c) m) ≡ true
    by_part (inl here) more =
        or_left (has_name (named_by place (member_sets rows r.set)) m) (has_name (mentions rows (place + 1) c) m)
        (names_there place (member_sets rows r.set) m ∙ subst (λ k. is_among (member_sets rows k) m ≡ true) (sym (one_name r.set n here)) is)
    by_part (inr there) more = or_right (has_name (named_by place (member_sets rows r.set)) m) (has_name (mentions rows (place + 1) c) m) (more there)

all_pass : (p : List ℕ → Bool) (xs : List (List ℕ)) → ((m : List ℕ) → is_among xs m ≡ true → p m ≡ true) → list_all p xs ≡ true
all_pass p [] f = refl
all_pass p (x ∷ xs) f = and_from (p x) (list_all p xs) (f x (or_left (bytes_eq x x) (is_among xs x) (name_itself x))) (all_pass p xs (λ m is. f m (or_right (bytes_eq x m) (is_among xs m) is)))

closed_from : (c : List Reach) (rows : List SetRow) → ((n m : List ℕ) → has_name c n ≡ true → is_among (member_sets rows n) m ≡ true → has_name c m ≡ true) → is_closed rows c ≡ true
closed_from c [] f = refl
closed_from c (r ∷ rows) f =
    and_from (not (has_name c r.name) || list_all (has_name c) (sets_in r.members)) (is_closed rows c) (first (has_name c r.name) refl)
    (closed_from c rows (λ n m is member. f n m is (more_member r rows n m ∙ or_right (bytes_eq r.name n && is_among (sets_in r.members) m) (is_among (member_sets rows n) m) member)))
  where
    first : (b : Bool) → has_name c r.name ≡ b → (not b || list_all (has_name c) (sets_in r.members)) ≡ true
    first false e = refl
    first true e = all_pass (has_name c) (sets_in r.members) (λ m is. f r.name m e
        (more_member r rows r.name m ∙ or_left (bytes_eq r.name r.name && is_among (sets_in r.members) m) (is_among (member_sets rows r.name) m) (and_from (bytes_eq r.name r.name) (is_among (sets_in r.members) m) (name_itself r.name) is)))

breadth_closed : (rows : List SetRow) (root : List ℕ) (c : List Reach) → IsBreadthFirst rows root c → is_closed rows c ≡ true
breadth_closed rows root c e = closed_from c rows (λ n m is member.
    subst (λ l. has_name l m ≡ true) (sym e)
    (is_added [] (record { set = root; by = 0 } ∷ mentions rows 1 c) m (or_right (bytes_eq root m) (has_name (mentions rows 1 c) m) (mentioned rows 1 c n m is member))))

-- adding only appends
pub grows : (c xs : List Reach) → (d : List Reach) × (adds c xs ≡ c ++ d)
grows c [] = ([], sym (append-nil c))
grows c (x ∷ xs) = by_new (has_name c x.set) (grows (if has_name c x.set then c else c ++ x ∷ []) xs)
  where
    by_new : (b : Bool) → ((d : List Reach) × (adds (if b then c else c ++ x ∷ []) xs ≡ (if b then c else c ++ x ∷ []) ++ d)) → (d : List Reach) × (adds (if b then c else c ++ x ∷ []) xs ≡ c ++ d)
    by_new true more = more
    by_new false more = (x ∷ more.0, more.1 ∙ append_assoc c (x ∷ []) more.0)

at_place : (c : List Reach) (at : ℕ) → at < length c → (r : Reach) × (slice_get c at ≡ Some r)
at_place [] at h = absurd (let f : ⊥ = omega arith in f)
at_place (r ∷ c) zero h = (r, refl)
at_place (r ∷ c) (suc at) h = at_place c at (omega arith)

nothing_there : {X : Type 0} {P : Type 0} (r : X) → None ≡ Some r → P
nothing_there r e = absurd (let h : ⊥ = cc in h)

take_kept : (c d : List Reach) (at : ℕ) (r : Reach) → slice_get c at ≡ Some r → take (suc at) (c ++ d) ≡ take at c ++ r ∷ []
take_kept [] d at r e = nothing_there r e
take_kept (q ∷ c) d zero r e = let h : q ≡ r = cc in ap (λ x. x ∷ []) h
take_kept (q ∷ c) d (suc at) r e = ap (λ l. q ∷ l) (take_kept c d at r e)

mentions_more : (rows : List SetRow) (place : ℕ) (c : List Reach) (at : ℕ) (r : Reach) → slice_get c at ≡ Some r
    → mentions rows place (take at c ++ r ∷ []) ≡ mentions rows place (take at c) ++ named_by (place + at) (member_sets rows r.set)
mentions_more rows place [] at r e = nothing_there r e
mentions_more rows place (q ∷ c) zero r e =
    let same : place ≡ place + 0 = omega arith in
    append-nil (named_by place (member_sets rows r.set)) ∙ ap (λ k. named_by k (member_sets rows r.set)) same
mentions_more rows place (q ∷ c) (suc at) r e =
    let sum : place + 1 + at ≡ place + suc at = omega arith in
    ap (λ l. named_by place (member_sets rows q.set) ++ l) (mentions_more rows (place + 1) c at r e)
    ∙ (sym (append_assoc (named_by place (member_sets rows q.set)) (mentions rows (place + 1) (take at c)) (named_by (place + 1 + at) (member_sets rows r.set)))
    ∙ ap (λ n. named_by place (member_sets rows q.set) ++ mentions rows (place + 1) (take at c) ++ named_by n (member_sets rows r.set)) sum)

pub visited : (rows : List SetRow) (root : List ℕ) (sets : List ℕ → List (List ℕ)) (c n : List Reach) (at : ℕ) → ((q : List ℕ) → sets q ≡ member_sets rows q) → at < length c
    → starts rows root c ≡ true → c ≡ adds [] (record { set = root; by = 0 } ∷ mentions rows 1 (take at c))
    → ((r : Reach) → slice_get c at ≡ Some r → n ≡ adds c (named_by (at + 1) (sets r.set)))
    → (at + 1 ≤ length n) × (starts rows root n ≡ true) × (n ≡ adds [] (record { set = root; by = 0 } ∷ mentions rows 1 (take (at + 1) n)))
visited rows root sets c n at index within begun met says =
    let here = at_place c at within in
    let r : Reach = here.0 in
    let news : List Reach = named_by (at + 1) (member_sets rows r.set) in
    let now : n ≡ adds c news = says r here.1 ∙ ap (λ l. adds c (named_by (at + 1) l)) (index r.set) in
    let more = grows c news in
    let longer : n ≡ c ++ more.0 = now ∙ more.1 in
    let len : length n ≡ length c + length more.0 = ap length longer ∙ length-append c more.0 in
    let next : suc at ≡ at + 1 = omega arith in
    let front : take (at + 1) n ≡ take at c ++ r ∷ [] = subst (λ k. take k n ≡ take at c ++ r ∷ []) next (ap (take (suc at)) longer ∙ take_kept c more.0 at r here.1) in
    let first : List Reach = record { set = root; by = 0 } ∷ mentions rows 1 (take at c) in
    let place : 1 + at ≡ at + 1 = omega arith in
    let back : at + 1 - 1 ≡ at = omega arith in
    let said : mentions rows 1 (take (at + 1) n) ≡ mentions rows 1 (take at c) ++ news =
    ap (mentions rows 1) front ∙ (mentions_more rows 1 c at r here.1 ∙ ap (λ k. mentions rows 1 (take at c) ++ named_by k (member_sets rows r.set)) place) in (
      omega (arith, len, within),
      subst (λ l. starts rows root l ≡ true) (sym now) (starts_added rows root c news begun (all_named rows c (at + 1) (member_sets rows r.set)
          (λ m is. and_from (nat_le 1 (at + 1)) (names_set rows m (slice_get c (at + 1 - 1))) (le-leb 1 (at + 1) (omega arith))
          (subst (λ k. names_set rows m (slice_get c k) ≡ true) (sym back) (subst (λ o. names_set rows m o ≡ true) (sym here.1) is))))),
      now ∙ (ap (λ l. adds l news) met ∙ (sym (adds_more [] first news) ∙ ap (λ l. adds [] (record { set = root; by = 0 } ∷ l)) (sym said))),
    )

pub finished : (rows : List SetRow) (root : List ℕ) (c : List Reach) (at : ℕ) → length c ≤ at → starts rows root c ≡ true
    → c ≡ adds [] (record { set = root; by = 0 } ∷ mentions rows 1 (take at c)) → IsTrue (is_chain rows root c) × IsBreadthFirst rows root c
finished rows root c at all begun met =
    let whole : IsBreadthFirst rows root c = subst (λ l. c ≡ adds [] (record { set = root; by = 0 } ∷ mentions rows 1 l)) (take_all at c all) met in
    (and_from (starts rows root c) (is_closed rows c) begun (breadth_closed rows root c whole), whole)
  where
    take_all : (k : ℕ) (l : List Reach) → length l ≤ k → take k l ≡ l
    take_all zero [] h = refl
    take_all (suc k) [] h = refl
    take_all zero (x ∷ l) h = absurd (let f : ⊥ = omega arith in f)
    take_all (suc k) (x ∷ l) h = ap (λ m. x ∷ m) (take_all k l (omega arith))
