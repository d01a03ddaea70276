-- What is noted has its count.
use Rattle.std.proofs.Common.{◌≡◌, ℕ, ◌<◌, Bool, true, false, ◌||◌, ◌==◌, not, List, [], ◌∷◌, ◌++◌, map, Option, Some, None, refl, sym, ap, ◌∙◌, subst, if◌then◌else◌, arith}
use Rattle.std.specs.declared.cmp.Ordering.{Ordering}
use Rattle.std.specs.declared.cmp.Ordering.TheVariants.{Less, Equal, Greater}
use Rattle.std.specs.List.{AllByRecursion, list_any}
use Rattle.std.proofs.lemmas.Bool.{eqb-true}
use Rattle.std.proofs.lemmas.List.Folds.{list_any-append}
use Rattle.ixp_num_tables.specs.Tables.{find, if_there, order, put, same}
use Rattle.ixp_num_tables.proofs.AllItems.{all_joined, all_true, mapped_all}
use Rattle.ixp_num_tables.proofs.TableLaws.{find-put-other, find-put-same-key}
use Rattle.ixp_build_pending.specs.declared.name.TextName.{TextName}
use Rattle.ixp_build_pending.specs.declared.pending.Pending.{Pending}
use Rattle.ixp_build_pending.specs.declared.rows.PendingText.{PendingText}
use Rattle.ixp_build_pending.specs.declared.touch.Touch.{Touch}
use Rattle.ixp_build_pending.specs.Names.{header_of, part_of, row_key, text_key}
use Rattle.ixp_build_pending.specs.Pendings.{IsNoted, is_key, lists_header, lists_session, text_count}
use Rattle.ixp_build_pending.specs.Rows.{all_put, header_row, is_pending, part_row, rows_of}
use Rattle.ixp_build_pending.proofs.Keys.{is_header, is_part, never, no_header, no_part, order_is}

-- whether a row is the text's
abbrev pub is_of : TextName → PendingText → Bool
is_of t r = same (row_key r) (text_key t)

put_count : (r : PendingText) (rows : List PendingText) (t : TextName) → text_count (put row_key r rows) t ≡ (if is_of t r then r.count else text_count rows t)
put_count r rows t = by_order (order (row_key r) (text_key t)) refl
  where
    other : is_of t r ≡ false → (order (row_key r) (text_key t) ≡ Equal → ⊥) → text_count (put row_key r rows) t ≡ (if is_of t r then r.count else text_count rows t)
    other e far = rw e (ap (λ (o : Option PendingText). if_there o 0 (λ s. s.count)) (find-put-other row_key (text_key t) r rows far))

    by_order : (o : Ordering) → order (row_key r) (text_key t) ≡ o → text_count (put row_key r rows) t ≡ (if is_of t r then r.count else text_count rows t)
    by_order Less e =
        let far : order (row_key r) (text_key t) ≡ Equal → ⊥ = λ same. let bad : ⊥ = cc in bad in
        other ((order_is (row_key r) (text_key t) Less e).1 (λ same. let bad : ⊥ = cc in bad)) far
    by_order Equal e =
        rw ((order_is (row_key r) (text_key t) Equal e).0 refl) (ap (λ (o : Option PendingText). if_there o 0 (λ s. s.count)) (find-put-same-key row_key (text_key t) r rows e))
    by_order Greater e =
        let far : order (row_key r) (text_key t) ≡ Equal → ⊥ = λ same. let bad : ⊥ = cc in bad in
        other ((order_is (row_key r) (text_key t) Greater e).1 (λ same. let bad : ⊥ = cc in bad)) far

either : (a b : Bool) (c n : ℕ) → (if b then c else (if a then c else n)) ≡ (if a || b then c else n)
either true true c n = refl
either true false c n = refl
either false b c n = refl

pub all_counted : (c : ℕ) (fresh rows : List PendingText) (t : TextName) → AllByRecursion (λ r. r.count ≡ c) fresh
    → text_count (all_put fresh rows) t ≡ (if list_any (is_of t) fresh then c else text_count rows t)
all_counted c [] rows t all = refl
all_counted c (r ∷ fresh) rows t all =
    all_counted c fresh (put row_key r rows) t all.1
    ∙ (ap (λ (n : ℕ). if list_any (is_of t) fresh then c else n) (put_count r rows t ∙ ap (λ (n : ℕ). if is_of t r then n else text_count rows t) all.0)
    ∙ either (is_of t r) (list_any (is_of t) fresh) c (text_count rows t))

-- Which texts the rows of a touch are of.

headers_any : (c : ℕ) (h : List ℕ) (hs : List (List ℕ)) → list_any (is_of (header_of h)) (map (header_row c) hs) ≡ list_any (λ g. same g h) hs
headers_any c h [] = refl
headers_any c h (g ∷ hs) = ap (λ b. b || list_any (is_of (header_of h)) (map (header_row c) hs)) (is_header g h) ∙ ap (λ b. same g h || b) (headers_any c h hs)

no_headers : (c : ℕ) (h : List ℕ) (ks : List (List ℕ × ℕ)) → list_any (is_of (header_of h)) (map (part_row c) ks) ≡ false
no_headers c h [] = refl
no_headers c h (k ∷ ks) = ap (λ b. b || list_any (is_of (header_of h)) (map (part_row c) ks)) (no_header k.0 h k.1) ∙ no_headers c h ks

parts_any : (c : ℕ) (h : List ℕ) (n : ℕ) (ks : List (List ℕ × ℕ)) → list_any (is_of (part_of h n)) (map (part_row c) ks) ≡ list_any (is_key h n) ks
parts_any c h n [] = refl
parts_any c h n (k ∷ ks) = ap (λ b. b || list_any (is_of (part_of h n)) (map (part_row c) ks)) (is_part k.0 h k.1 n) ∙ ap (λ b. is_key h n k || b) (parts_any c h n ks)

no_parts : (c : ℕ) (h : List ℕ) (n : ℕ) (hs : List (List ℕ)) → list_any (is_of (part_of h n)) (map (header_row c) hs) ≡ false
no_parts c h n [] = refl
no_parts c h n (g ∷ hs) = ap (λ b. b || list_any (is_of (part_of h n)) (map (header_row c) hs)) (no_part g h n) ∙ no_parts c h n hs

or_none : (a : Bool) → (a || false) ≡ a
or_none true = refl
or_none false = refl

header_rows : (c : ℕ) (t : Touch) (h : List ℕ) → list_any (is_of (header_of h)) (rows_of c t) ≡ lists_header t h
header_rows c t h =
    list_any-append (is_of (header_of h)) (map (header_row c) t.headers) (map (part_row c) t.sessions)
    ∙ (ap (λ b. list_any (is_of (header_of h)) (map (header_row c) t.headers) || b) (no_headers c h t.sessions)
    ∙ (or_none (list_any (is_of (header_of h)) (map (header_row c) t.headers)) ∙ headers_any c h t.headers))

part_rows : (c : ℕ) (t : Touch) (h : List ℕ) (n : ℕ) → list_any (is_of (part_of h n)) (rows_of c t) ≡ lists_session t h n
part_rows c t h n =
    list_any-append (is_of (part_of h n)) (map (header_row c) t.headers) (map (part_row c) t.sessions)
    ∙ (ap (λ b. b || list_any (is_of (part_of h n)) (map (part_row c) t.sessions)) (no_parts c h n t.headers) ∙ parts_any c h n t.sessions)

rows_have : (P : PendingText → Type 0) (c : ℕ) (t : Touch) → ((k : TextName) → P (record { text = k; count = c })) → AllByRecursion P (rows_of c t)
rows_have P c t each =
    all_joined P (map (header_row c) t.headers) (map (part_row c) t.sessions)
    (mapped_all P (header_row c) t.headers (all_true (λ h. P (header_row c h)) (λ h. each (header_of h)) t.headers))
    (mapped_all P (part_row c) t.sessions (all_true (λ k. P (part_row c k)) (λ k. each (part_of k.0 k.1)) t.sessions))

some_pending : (c : ℕ) → 0 < c → not (c == 0) ≡ true
some_pending c some = ap not (never (c == 0) (λ e. let zero : c ≡ 0 = eqb-true c 0 e in omega (arith, zero, some)))

pub rows_pending : (c : ℕ) (t : Touch) → 0 < c → AllByRecursion (λ r. is_pending r ≡ true) (rows_of c t)
rows_pending c t some = rows_have (λ r. is_pending r ≡ true) c t (λ k. some_pending c some)

pub noted_by : (c : ℕ) (t : Touch) (p q : Pending) → q.texts ≡ all_put (rows_of c t) p.texts → q.roas ≡ (if t.roas then c else p.roas) → IsNoted c t p q
noted_by c t p q texts roas = record {
  headers = λ h. counted (header_of h) ∙ ap (λ b. if b then c else text_count p.texts (header_of h)) (header_rows c t h);
  sessions = λ h n. counted (part_of h n) ∙ ap (λ b. if b then c else text_count p.texts (part_of h n)) (part_rows c t h n);
  roas = roas;
} where
  counted : (k : TextName) → text_count q.texts k ≡ (if list_any (is_of k) (rows_of c t) then c else text_count p.texts k)
  counted k = ap (λ (rs : List PendingText). text_count rs k) texts ∙ all_counted c (rows_of c t) p.texts k (rows_have (λ r. r.count ≡ c) c t (λ x. refl))
