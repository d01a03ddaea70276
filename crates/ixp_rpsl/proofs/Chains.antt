-- The names of a chain are the least closed set.
use Rattle.std.proofs.Common.{◌≡◌, ◌-◌, ◌++◌, ◌&&◌, ◌||◌, ℕ, Bool, true, false, not, List, [], ◌∷◌, refl, sym, ap, ◌∙◌, subst, if◌then◌else◌, IsTrue, bytes_eq, nat_le, zero, suc, ◌==◌, ◌⊎◌, inl, inr, ◌↔◌}
use Rattle.std.specs.List.{list_all, slice_get, AllByRecursion}
use Rattle.std.proofs.lemmas.Slice.Eq.{bytes_eq-Decides}
use Rattle.std.proofs.lemmas.Bool.{and_parts, or_cases}
use Rattle.std.proofs.lemmas.List.Folds.{list_any-append}
use Rattle.ixp_rpsl.specs.declared.objects.SetRow.{SetRow}
use Rattle.ixp_rpsl.specs.declared.objects.Reach.{Reach}
use Rattle.ixp_rpsl.specs.Expansion.{sets_in, member_sets, is_among, has_name, Leads, Root, Member, Closed, names_set, is_named, follows, starts, is_closed, is_chain}

pub one_name : (a b : List ℕ) → bytes_eq a b ≡ true → a ≡ b
one_name a b e = (bytes_eq-Decides a b).0 e

pub name_itself : (a : List ℕ) → bytes_eq a a ≡ true
name_itself a = (bytes_eq-Decides a a).1 refl

pub never : {P : Type 0} → false ≡ true → P
never e = absurd (let h : ⊥ = cc in h)

-- what holds of the names of a list holds of each among them
each_name : (X : List ℕ → Type 0) (c : List Reach) → AllByRecursion (λ r. X r.set) c → (n : List ℕ) → has_name c n ≡ true → X n
each_name X [] all n e = never e
each_name X (r ∷ rs) all n e = by_part (or_cases (bytes_eq r.set n) (has_name rs n) e) (each_name X rs all.1 n)
  where
    by_part : (bytes_eq r.set n ≡ true) ⊎ (has_name rs n ≡ true) → (has_name rs n ≡ true → X n) → X n
    by_part (inl here) more = subst X (one_name r.set n here) all.0
    by_part (inr there) more = more there

all_more : (X : List ℕ → Type 0) (c : List Reach) (r : Reach) → AllByRecursion (λ r. X r.set) c → X r.set → AllByRecursion (λ r. X r.set) (c ++ r ∷ [])
all_more X [] r all x = (x, tt)
all_more X (q ∷ c) r all x = (all.0, all_more X c r all.1 x)

-- the one at a place that names a set is in X, so the set is
named_in : (rows : List SetRow) (root : List ℕ) (X : List ℕ → Type 0) → Closed rows root X → (c : List Reach) (k : ℕ) (m : List ℕ) → AllByRecursion (λ r. X r.set) c
    → names_set rows m (slice_get c k) ≡ true → X m
named_in rows root X closed [] k m all e = never e
named_in rows root X closed (r ∷ c) zero m all e = closed.1 r.set m all.0 e
named_in rows root X closed (r ∷ c) (suc k) m all e = named_in rows root X closed c k m all.1 e

following_in : (rows : List SetRow) (root : List ℕ) (X : List ℕ → Type 0) → Closed rows root X → (before c : List Reach) → AllByRecursion (λ r. X r.set) before
    → follows rows before c ≡ true → AllByRecursion (λ r. X r.set) c
following_in rows root X closed before [] all e = tt
following_in rows root X closed before (r ∷ c) all e =
    let outer = and_parts (is_named rows before r.by r.set && not (has_name before r.set)) (follows rows (before ++ r ∷ []) c) e in
    let inner = and_parts (is_named rows before r.by r.set) (not (has_name before r.set)) outer.0 in
    let x : X r.set = named_in rows root X closed before (r.by - 1) r.set all (and_parts (nat_le 1 r.by) (names_set rows r.set (slice_get before (r.by - 1))) inner.0).1 in
    (x, following_in rows root X closed (before ++ r ∷ []) c (all_more X before r all x) outer.1)

chain_in : (rows : List SetRow) (root : List ℕ) (X : List ℕ → Type 0) → Closed rows root X → (c : List Reach) → starts rows root c ≡ true → AllByRecursion (λ r. X r.set) c
chain_in rows root X closed [] e = tt
chain_in rows root X closed (r ∷ c) e =
    let outer = and_parts (bytes_eq r.set root && r.by == 0) (follows rows (r ∷ []) c) e in
    let x : X r.set = subst X (sym (one_name r.set root (and_parts (bytes_eq r.set root) (r.by == 0) outer.0).0)) closed.0 in
    (x, following_in rows root X closed (r ∷ []) c (x, tt) outer.1)

-- each of a list passes a test that all pass
each_passes : (p : List ℕ → Bool) (xs : List (List ℕ)) (m : List ℕ) → list_all p xs ≡ true → is_among xs m ≡ true → p m ≡ true
each_passes p [] m all e = never e
each_passes p (x ∷ xs) m all e = by_part (or_cases (bytes_eq x m) (is_among xs m) e) (each_passes p xs m (and_parts (p x) (list_all p xs) all).1)
  where
    by_part : (bytes_eq x m ≡ true) ⊎ (is_among xs m ≡ true) → (is_among xs m ≡ true → p m ≡ true) → p m ≡ true
    by_part (inl here) more = subst (λ y. p y ≡ true) (one_name x m here) (and_parts (p x) (list_all p xs) all).0
    by_part (inr there) more = more there

-- a member of a set, by the first object and the others
pub more_member : (r : SetRow) (rows : List SetRow) (n m : List ℕ)
    → is_among (member_sets (r ∷ rows) n) m ≡ ((bytes_eq r.name n && is_among (sets_in r.members) m) || is_among (member_sets rows n) m)
more_member r rows n m = by_name (bytes_eq r.name n)
  where
    by_name : (b : Bool) → is_among (if b then sets_in r.members ++ member_sets rows n else member_sets rows n) m ≡ ((b && is_among (sets_in r.members) m) || is_among (member_sets rows n) m)
    by_name true = list_any-append (λ x. bytes_eq x m) (sets_in r.members) (member_sets rows n)
    by_name false = refl

is_kept : (c : List Reach) (rows : List SetRow) (n m : List ℕ) → is_closed rows c ≡ true → has_name c n ≡ true → is_among (member_sets rows n) m ≡ true → has_name c m ≡ true
is_kept c [] n m closed is e = never e
is_kept c (r ∷ rows) n m closed is e =
    let parts = and_parts (not (has_name c r.name) || list_all (has_name c) (sets_in r.members)) (is_closed rows c) closed in
    by_part parts.0 (or_cases (bytes_eq r.name n && is_among (sets_in r.members) m) (is_among (member_sets rows n) m) (sym (more_member r rows n m) ∙ e)) (is_kept c rows n m parts.1 is)
  where
    all_kept : (b : Bool) → b ≡ true → (not b || list_all (has_name c) (sets_in r.members)) ≡ true → list_all (has_name c) (sets_in r.members) ≡ true
    all_kept true h f = f
    all_kept false h f = never h

    by_part : (not (has_name c r.name) || list_all (has_name c) (sets_in r.members)) ≡ true
        → ((bytes_eq r.name n && is_among (sets_in r.members) m) ≡ true) ⊎ (is_among (member_sets rows n) m ≡ true) → (is_among (member_sets rows n) m ≡ true → has_name c m ≡ true) → has_name c m ≡ true
    by_part first (inl here) more =
        let two = and_parts (bytes_eq r.name n) (is_among (sets_in r.members) m) here in
        each_passes (has_name c) (sets_in r.members) m (all_kept (has_name c r.name) (subst (λ x. has_name c x ≡ true) (sym (one_name r.name n two.0)) is) first) two.1
    by_part first (inr there) more = more there

root_there : (rows : List SetRow) (root : List ℕ) (c : List Reach) → starts rows root c ≡ true → has_name c root ≡ true
root_there rows root [] e = never e
root_there rows root (r ∷ c) e =
    let same : bytes_eq r.set root ≡ true = (and_parts (bytes_eq r.set root) (r.by == 0) (and_parts (bytes_eq r.set root && r.by == 0) (follows rows (r ∷ []) c) e).0).0 in
    ap (λ b. b || has_name c root) same

led_to : (rows : List SetRow) (root : List ℕ) (c : List Reach) → starts rows root c ≡ true → is_closed rows c ≡ true → (n : List ℕ) → Leads rows root n → has_name c n ≡ true
led_to rows root c starts closed n Root = root_there rows root c starts
led_to rows root c starts closed n (Member k m before is) = is_kept c rows k m closed (led_to rows root c starts closed k before) is

pub chain_is_least : (rows : List SetRow) (root : List ℕ) (c : List Reach) → IsTrue (is_chain rows root c) → (n : List ℕ) → IsTrue (has_name c n) ↔ Leads rows root n
chain_is_least rows root c e n =
    let parts = and_parts (starts rows root c) (is_closed rows c) e in (
      λ is. each_name (Leads rows root) c (chain_in rows root (Leads rows root) (Root, λ k m is member. Member k m is member) c parts.0) n is,
      led_to rows root c parts.0 parts.1 n,
    )
