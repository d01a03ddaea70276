-- What is listed, and what stays.
use Rattle.std.proofs.Common.{rules, ◌≡◌, ◌≤◌, ℕ, ◌<◌, Bool, true, false, ◌||◌, ◌==◌, ◌+◌, not, nat_lt, List, [], ◌∷◌, filter, filter_map, Option, Some, None, refl, sym, ap, ◌∙◌, subst, if◌then◌else◌, arith}
use Rattle.std.specs.declared.cmp.Ordering.{Ordering}
use Rattle.std.specs.declared.cmp.Ordering.TheVariants.{Less, Equal, Greater}
use Rattle.std.specs.Ordering.{match_ordering}
use Rattle.std.specs.List.{AllByRecursion, list_any}
use Rattle.std.specs.Option.{is_some}
use Rattle.std.proofs.lemmas.Bool.{eqb-true}
use Rattle.ixp_num_tables.specs.Sums.{count, one_if}
use Rattle.ixp_num_tables.specs.Tables.{Ascends, find, if_there, order, same}
use Rattle.ixp_num_tables.proofs.Counts.{same_is, same_itself}
use Rattle.ixp_num_tables.proofs.Looking.{all_found}
use Rattle.ixp_num_tables.proofs.Orders.{order_same}
use Rattle.ixp_build_pending.specs.declared.name.TextName.{TextName}
use Rattle.ixp_build_pending.specs.declared.pending.Pending.{Pending}
use Rattle.ixp_build_pending.specs.declared.rows.PendingText.{PendingText}
use Rattle.ixp_build_pending.specs.declared.touch.Touch.{Touch}
use Rattle.ixp_build_pending.specs.Names.{header_of, part_of, row_key, text_key}
use Rattle.ixp_build_pending.specs.Pendings.{IsLater, IsListed, IsNothing, is_key, later_count, lists_header, lists_session, text_count}
use Rattle.ixp_build_pending.specs.Rows.{header_in, header_named, is_later, is_pending, part_in, part_named}
use Rattle.ixp_build_pending.proofs.Filters.{find_kept, kept_or_none}
use Rattle.ixp_build_pending.proofs.Keys.{is_header, is_part, never, no_header, no_part, order_is}
use Rattle.ixp_build_pending.proofs.Noting.{is_of}

-- What is named of rows, by rows.

-- how often what is named of a row passes a test
abbrev counted_in : {X : Type 0} → (X → Bool) → Option X → ℕ
counted_in t None = 0
counted_in t (Some x) = one_if (t x)

module _ {X : Type 0} (t : X → Bool) (f : PendingText → Option X) (k : TextName) where
  abbrev Tells : PendingText → Type 0
  Tells r = counted_in t (f r) ≡ one_if (is_of k r)

  counted_step : (r : PendingText) (o : Option X) (rs : List PendingText) → f r ≡ o → counted_in t o ≡ one_if (is_of k r) → count t (filter_map f rs) ≡ count (is_of k) rs
      → count t (filter_map f (r ∷ rs)) ≡ count (is_of k) (r ∷ rs)
  counted_step r None rs e tells rest = rw e (let none : 0 ≡ one_if (is_of k r) = tells in omega (arith, none, rest))
  counted_step r (Some x) rs e tells rest = rw e (ap (λ n. n + count t (filter_map f rs)) tells ∙ ap (λ n. one_if (is_of k r) + n) rest)

  counted : ((r : PendingText) → Tells r) → (rs : List PendingText) → count t (filter_map f rs) ≡ count (is_of k) rs
  counted tells [] = refl
  counted tells (r ∷ rs) = counted_step r (f r) rs refl (tells r) (counted tells rs)

-- a test that one passes is counted
any_counted : {X : Type 0} (t : X → Bool) (xs : List X) → list_any t xs ≡ not (count t xs == 0)
any_counted t [] = refl
any_counted t (x ∷ xs) = by_test (t x) (any_counted t xs)
  where
    by_test : (b : Bool) → list_any t xs ≡ not (count t xs == 0) → (b || list_any t xs) ≡ not ((one_if b + count t xs) == 0)
    by_test true rest = sym (ap not (never ((1 + count t xs) == 0) (λ e. let bad : 1 + count t xs ≡ 0 = eqb-true (1 + count t xs) 0 e in omega (arith, bad))))
    by_test false rest = rest ∙ ap (λ n. not (n == 0)) (let same : count t xs ≡ 0 + count t xs = omega arith in same)

header_tells : (h : List ℕ) (r : PendingText) → counted_in (λ g. same g h) (header_in r) ≡ one_if (is_of (header_of h) r)
header_tells h r = by_session r.text.session refl
  where
    by_session : (o : Option ℕ) → r.text.session ≡ o → counted_in (λ g. same g h) (header_named r.text.router r.text.session) ≡ one_if (same (text_key r.text) (text_key (header_of h)))
    by_session None e = rw e (ap one_if (sym (is_header r.text.router h)))
    by_session (Some n) e = rw e (ap one_if (sym (no_header r.text.router h n)))

part_tells : (h : List ℕ) (n : ℕ) (r : PendingText) → counted_in (is_key h n) (part_in r) ≡ one_if (is_of (part_of h n) r)
part_tells h n r = by_session r.text.session refl
  where
    by_session : (o : Option ℕ) → r.text.session ≡ o → counted_in (is_key h n) (part_named r.text.router r.text.session) ≡ one_if (same (text_key r.text) (text_key (part_of h n)))
    by_session None e = rw e (ap one_if (sym (no_part r.text.router h n)))
    by_session (Some m) e = rw e (ap one_if (sym (is_part r.text.router h m n)))

-- A text has one row at most.

none_above : (k : TextName) (rs : List PendingText) → AllByRecursion (λ s. is_of k s ≡ false) rs → count (is_of k) rs ≡ 0
none_above k [] all = refl
none_above k (s ∷ rs) all = let rest = none_above k rs all.1 in rw all.0 (omega (arith, rest))

others : (k : TextName) (r : PendingText) (rs : List PendingText) → is_of k r ≡ true → AllByRecursion (λ s. order (row_key r) (row_key s) ≡ Less) rs → AllByRecursion (λ s. is_of k s ≡ false) rs
others k r [] is all = tt
others k r (s ∷ rs) is all = (never (is_of k s) (λ too. clash too), others k r rs is all.1)
  where
    clash : is_of k s ≡ true → ⊥
    clash too =
        let equal : row_key r ≡ row_key s = same_is (row_key r) (text_key k) is ∙ sym (same_is (row_key s) (text_key k) too) in
        let tie : order (row_key r) (row_key s) ≡ Equal = subst (λ z. order (row_key r) z ≡ Equal) equal (order_same (row_key r)) in
        let less : order (row_key r) (row_key s) ≡ Less = all.0 in
        let bad : ⊥ = cc in
        bad

abbrev there : Option PendingText → ℕ
there o = if_there o 0 (λ r. 1)

found_once : (k : TextName) (rs : List PendingText) → Ascends row_key rs → count (is_of k) rs ≡ there (find row_key (text_key k) rs)
found_once k [] up = refl
found_once k (r ∷ rs) up = by_order (order (row_key r) (text_key k)) refl (found_once k rs up.1)
  where
    more : is_of k r ≡ false → count (is_of k) rs ≡ there (find row_key (text_key k) rs) → one_if (is_of k r) + count (is_of k) rs ≡ there (find row_key (text_key k) rs)
    more e rest = rw e (omega (arith, rest))

    by_order : (o : Ordering) → order (row_key r) (text_key k) ≡ o → count (is_of k) rs ≡ there (find row_key (text_key k) rs) → one_if (is_of k r) + count (is_of k) rs ≡ there (match_ordering o (find row_key (text_key k) rs) (Some r) (find row_key (text_key k) rs))
    by_order Less e rest = more ((order_is (row_key r) (text_key k) Less e).1 (λ same. let bad : ⊥ = cc in bad)) rest
    by_order Equal e rest =
        let is = (order_is (row_key r) (text_key k) Equal e).0 refl in
        rw (is, none_above k rs (others k r rs is up.0)) refl
    by_order Greater e rest = more ((order_is (row_key r) (text_key k) Greater e).1 (λ same. let bad : ⊥ = cc in bad)) rest

at_most : (o : Option PendingText) → there o ≤ 1
at_most None = omega arith
at_most (Some r) = omega arith

-- a row that is there is pending
there_pending : (k : TextName) (rs : List PendingText) → AllByRecursion (λ r. is_pending r ≡ true) rs → not (there (find row_key (text_key k) rs) == 0) ≡ not (text_count rs k == 0)
there_pending k rs all = by_found (find row_key (text_key k) rs) refl
  where
    by_found : (o : Option PendingText) → find row_key (text_key k) rs ≡ o → not (there o == 0) ≡ not (if_there o 0 (λ r. r.count) == 0)
    by_found None e = refl
    by_found (Some r) e = sym (all_found row_key (λ r. is_pending r ≡ true) (text_key k) r rs all e)

pub listed_by : (p : Pending) (t : Touch) → Ascends row_key p.texts → AllByRecursion (λ r. is_pending r ≡ true) p.texts
    → t.headers ≡ filter_map header_in p.texts → t.sessions ≡ filter_map part_in p.texts → t.roas ≡ not (p.roas == 0) → IsListed p t
listed_by p t up all headers sessions roas = record {
  headers = λ h.
      ap (list_any (λ g. same g h)) headers
      ∙ (any_counted (λ g. same g h) (filter_map header_in p.texts)
      ∙ (ap (λ n. not (n == 0)) (of_header h) ∙ there_pending (header_of h) p.texts all));
  sessions = λ h n.
      ap (list_any (is_key h n)) sessions
      ∙ (any_counted (is_key h n) (filter_map part_in p.texts)
      ∙ (ap (λ m. not (m == 0)) (of_part h n) ∙ there_pending (part_of h n) p.texts all));
  roas = roas;
  once = (
    (λ k. subst (λ n. n ≤ 1) (sym (turned k t.headers ∙ (ap (count (λ g. same g k)) headers ∙ of_header k))) (at_most (find row_key (text_key (header_of k)) p.texts))),
    (λ h n. subst (λ m. m ≤ 1) (sym (ap (count (is_key h n)) sessions ∙ of_part h n)) (at_most (find row_key (text_key (part_of h n)) p.texts))),
  );
} where
  of_header : (h : List ℕ) → count (λ g. same g h) (filter_map header_in p.texts) ≡ there (find row_key (text_key (header_of h)) p.texts)
  of_header h = counted (λ g. same g h) header_in (header_of h) (header_tells h) p.texts ∙ found_once (header_of h) p.texts up

  of_part : (h : List ℕ) (n : ℕ) → count (is_key h n) (filter_map part_in p.texts) ≡ there (find row_key (text_key (part_of h n)) p.texts)
  of_part h n = counted (is_key h n) part_in (part_of h n) (part_tells h n) p.texts ∙ found_once (part_of h n) p.texts up

  same_turned : (a b : List ℕ) → same a b ≡ same b a
  same_turned a b = by_test (same a b) (same b a) refl refl
    where
      by_test : (c d : Bool) → same a b ≡ c → same b a ≡ d → c ≡ d
      by_test true true e f = refl
      by_test false false e f = refl
      by_test true false e f = let is = same_is a b e in let bad : same b b ≡ false = subst (λ z. same b z ≡ false) is f in let no : true ≡ false = sym (same_itself b) ∙ bad in no
      by_test false true e f = let is = same_is b a f in let bad : same a a ≡ false = subst (λ z. same a z ≡ false) is e in let no : true ≡ false = sym (same_itself a) ∙ bad in sym no

  turned : (k : List ℕ) (hs : List (List ℕ)) → count (λ h. same k h) hs ≡ count (λ h. same h k) hs
  turned k [] = refl
  turned k (h ∷ hs) = ap (λ b. one_if b + count (λ h. same k h) hs) (same_turned k h) ∙ ap (λ n. one_if (same h k) + n) (turned k hs)

-- What stays.

zero_stays : (b : Bool) → ◌≡◌ {A = ℕ} 0 (if b then 0 else 0)
zero_stays true = refl
zero_stays false = refl

later_by_row : (upto : ℕ) (o : Option PendingText) → if_there (kept_or_none (is_later upto) o) 0 (λ r. r.count) ≡ later_count upto (if_there o 0 (λ r. r.count))
later_by_row upto None = zero_stays (nat_lt upto 0)
later_by_row upto (Some r) = by_test (nat_lt upto r.count)
  where
    by_test : (b : Bool) → if_there (if b then Some r else None) 0 (λ s. s.count) ≡ (if b then r.count else 0)
    by_test true = refl
    by_test false = refl

pub not_later : (upto n : ℕ) → n ≤ upto → 0 ≡ later_count upto n
not_later upto n few = ap (λ b. if b then n else 0) (sym (never (nat_lt upto n) (λ more. let bad : upto < n = search rules in omega (arith, few, bad))))

pub still_later : (upto n : ℕ) → upto < n → n ≡ later_count upto n
still_later upto n more = by_test (nat_lt upto n) refl
  where
    by_test : (b : Bool) → nat_lt upto n ≡ b → n ≡ (if b then n else 0)
    by_test true e = refl
    by_test false e = let bad : n ≤ upto = search rules in absurd (let no : ⊥ = omega (arith, more, bad) in no)

pub later_by : (upto : ℕ) (p q : Pending) → Ascends row_key p.texts → q.texts ≡ filter (is_later upto) p.texts → q.roas ≡ later_count upto p.roas → IsLater upto p q
later_by upto p q up texts roas = record {
  headers = λ h. counts (header_of h);
  sessions = λ h n. counts (part_of h n);
  roas = roas;
} where
  counts : (k : TextName) → text_count q.texts k ≡ later_count upto (text_count p.texts k)
  counts k =
      ap (λ (rs : List PendingText). text_count rs k) texts
      ∙ (ap (λ (o : Option PendingText). if_there o 0 (λ r. r.count)) (find_kept (is_later upto) (text_key k) p.texts up)
      ∙ later_by_row upto (find row_key (text_key k) p.texts))

-- no text and no ROAs are pending
pub nothing_pending : (p : Pending) → p.texts ≡ [] → p.roas ≡ 0 → IsNothing p
nothing_pending p none zero = record {
  headers = λ h. ap (λ (rows : List PendingText). text_count rows (header_of h)) none;
  sessions = λ h n. ap (λ (rows : List PendingText). text_count rows (part_of h n)) none;
  roas = zero;
}
