-- Bytes without the end of a line end no head.
use Rattle.std.proofs.Common.{◌≡◌, ◌≤◌, ◌<◌, ◌+◌, ◌-◌, ℕ, suc, Bool, true, false, nat_lt, nat_le, if◌then◌else◌, ◌==◌, ◌&&◌, ◌||◌, Option, None, Some, List, [], ◌∷◌, ◌++◌, length, take, drop, refl, sym, ap, ◌∙◌, append_assoc, arith}
use Rattle.std.proofs.lemmas.List.{take-append-drop, drop-append-le, take-append-le}
use Rattle.std.proofs.lemmas.Grind.{common_steps}
use Rattle.std.proofs.lemmas.Bool.Decides.{nat_tests}
use Rattle.ixp_http.specs.declared.head.Start.{Start}
use Rattle.ixp_http.specs.declared.head.Start.TheVariants.{Over, Between, Inside, Headed}
use Rattle.ixp_http.specs.Answers.{Grows, HoldsOneRead, IsQuiet}
use Rattle.ixp_http.specs.Heads.{chunk, begins_with, line_end, blank_len, end_after, one_more, head_len, line_feeds, head_limit, start_lined, start_after, start_front, start_within, start_of, is_open}
use Rattle.ixp_http.proofs.Grammar.{line_feeds-append}
use Rattle.ixp_http.proofs.Starts.{IsLined, headed, placed, blank_fits, blank_more, head_some}

parts : (b : ℕ) (bytes : List ℕ) → line_feeds (b ∷ bytes) ≡ 0 → ((b == 10) ≡ false) × (line_feeds bytes ≡ 0)
parts b bytes e = by (b == 10) refl e
  where
    by : (t : Bool) → (b == 10) ≡ t → (if t then line_feeds bytes + 1 else line_feeds bytes) ≡ 0
        → ((b == 10) ≡ false) × (line_feeds bytes ≡ 0)
    by true is e = absurd (let bad : ⊥ = omega (arith, e) in bad)
    by false is e = (is, e)

begins_quiet : (more : List ℕ) → line_feeds more ≡ 0 → begins_with 10 more ≡ false
begins_quiet [] q = refl
begins_quiet (c ∷ more) q = (parts c more q).0

and_right : (a b : Bool) → b ≡ false → (a && b) ≡ false
and_right true b e = e
and_right false b e = refl

abbrev ends : Bool → Bool → Option ℕ
ends feed return = if feed then Some 1 else (if return then Some 2 else None)

no_end : (feed return : Bool) → feed ≡ false → return ≡ false → ends feed return ≡ None
no_end true return f r = absurd (cc)
no_end false true f r = absurd (cc)
no_end false false f r = refl

line_end_quiet : (xs more : List ℕ) → line_feeds more ≡ 0 → line_end xs ≡ None → line_end (xs ++ more) ≡ None
line_end_quiet [] [] q e = refl
line_end_quiet [] (c ∷ more) q e =
    let is = parts c more q in
    no_end (c == 10) (c == 13 && begins_with 10 more) is.0 (and_right (c == 13) (begins_with 10 more) (begins_quiet more is.1))
line_end_quiet (b ∷ []) more q e = by (b == 10) refl e
  where
    by : (t : Bool) → (b == 10) ≡ t → ends t (b == 13 && false) ≡ None → ends (b == 10) (b == 13 && begins_with 10 more) ≡ None
    by true is e = absurd (cc)
    by false is e = no_end (b == 10) (b == 13 && begins_with 10 more) is (and_right (b == 13) (begins_with 10 more) (begins_quiet more q))
line_end_quiet (b ∷ c ∷ xs) more q e = e

quiet_none : (more : List ℕ) → line_feeds more ≡ 0 → head_len more ≡ None
quiet_none [] q = refl
quiet_none (b ∷ more) q =
    let is = parts b more q in
    ap (λ (t : Bool). one_more (if t then line_end more else None) (head_len more)) is.0 ∙ ap (one_more None) (quiet_none more is.1)

head_quiet : (xs more : List ℕ) → line_feeds more ≡ 0 → head_len xs ≡ None → head_len (xs ++ more) ≡ None
head_quiet [] more q e = quiet_none more q
head_quiet (b ∷ xs) more q e = by (end_after b xs) refl (head_len xs) refl e (head_quiet xs more q)
  where
    after : (t : Bool) → (if t then line_end xs else None) ≡ None → (if t then line_end (xs ++ more) else None) ≡ None
    after true e = line_end_quiet xs more q e
    after false e = refl

    by : (o : Option ℕ) → end_after b xs ≡ o → (l : Option ℕ) → head_len xs ≡ l → one_more o l ≡ None
        → (head_len xs ≡ None → head_len (xs ++ more) ≡ None)
        → one_more (end_after b (xs ++ more)) (head_len (xs ++ more)) ≡ None
    by (Some m) io l il e ih = absurd (cc)
    by None io (Some k) il e ih = absurd (cc)
    by None io None il e ih =
        ap (λ (o : Option ℕ). one_more o (head_len (xs ++ more))) (after (b == 10) io) ∙ ap (one_more None) (ih il)

abbrev is_blank : ℕ → List ℕ → Bool
is_blank b rest = b == 10 || (b == 13 && begins_with 10 rest)

not_blank : (b : ℕ) (rest : List ℕ) → (b == 10) ≡ false → begins_with 10 rest ≡ false → is_blank b rest ≡ false
not_blank b rest feed begins = by (b == 10) (b == 13 && begins_with 10 rest) feed (and_right (b == 13) (begins_with 10 rest) begins)
  where
    by : (s t : Bool) → s ≡ false → t ≡ false → (s || t) ≡ false
    by true t e f = absurd (cc)
    by false true e f = absurd (cc)
    by false false e f = refl

blank_quiet : (xs more : List ℕ) → line_feeds more ≡ 0 → blank_len (xs ++ more) ≡ blank_len xs
blank_quiet [] [] q = refl
blank_quiet [] (b ∷ more) q =
    let is = parts b more q in
    ap (λ (t : Bool). if t then suc (blank_len more) else 0) (not_blank b more is.0 (begins_quiet more is.1))
blank_quiet (b ∷ []) more q =
    ap (λ (t : Bool). if b == 10 || (b == 13 && t) then suc (blank_len more) else 0) (begins_quiet more q)
    ∙ ap (λ (k : ℕ). if b == 10 || (b == 13 && false) then suc k else 0) (blank_quiet [] more q)
blank_quiet (b ∷ c ∷ xs) more q =
    ap (λ (k : ℕ). if b == 10 || (b == 13 && (c == 10)) then suc k else 0) (blank_quiet (c ∷ xs) more q)

-- the empty lines that end before the last byte stand there without what follows, too
blank_less : (xs more : List ℕ) → blank_len (xs ++ more) < length xs → blank_len xs ≡ blank_len (xs ++ more)
blank_less [] more few = absurd (let bad : ⊥ = omega (arith, few) in bad)
blank_less (b ∷ []) more few = by (b == 10) (b == 13) (begins_with 10 more) few
  where
    by : (s t u : Bool) → (if s || (t && u) then suc (blank_len more) else 0) < 1
        → (if s || (t && false) then 1 else 0) ≡ (if s || (t && u) then suc (blank_len more) else 0)
    by true t u few = absurd (let bad : ⊥ = omega (arith, few) in bad)
    by false true true few = absurd (let bad : ⊥ = omega (arith, few) in bad)
    by false true false few = refl
    by false false u few = refl
blank_less (b ∷ c ∷ xs) more few = by (b == 10 || (b == 13 && (c == 10))) few (blank_less (c ∷ xs) more)
  where
    by : (t : Bool) → (if t then suc (blank_len (c ∷ (xs ++ more))) else 0) < suc (suc (length xs))
        → (blank_len (c ∷ (xs ++ more)) < suc (length xs) → blank_len (c ∷ xs) ≡ blank_len (c ∷ (xs ++ more)))
        → (if t then suc (blank_len (c ∷ xs)) else 0) ≡ (if t then suc (blank_len (c ∷ (xs ++ more))) else 0)
    by true few ih = ap suc (ih (omega (arith, few)))
    by false few ih = refl

drop_over : (xs ys : List ℕ) → drop (length xs) (xs ++ ys) ≡ ys
drop_over [] ys = refl
drop_over (x ∷ xs) ys = drop_over xs ys

take_all : (n : ℕ) (xs : List ℕ) → length xs ≤ n → take n xs ≡ xs
take_all n xs le = grind (arith, common_steps)

-- what was read so far has no end of a line
abbrev pub SoFar : List ℕ → List ℕ → Type 0
SoFar held now = (more : List ℕ) × (line_feeds more ≡ 0) × (now ≡ held ++ more)

none_of : (k : ℕ) (b : Bool) → b ≡ nat_lt 0 k → b ≡ false → k ≡ 0
none_of k b is none = grind (arith, nat_tests)

-- what an answer on the last bytes of a buffer says
pub no_feeds : (new bytes : List ℕ) (n m : ℕ) (b : Bool) → bytes ≡ new → n ≡ m
    → b ≡ nat_lt 0 (line_feeds (take (length bytes - n) (drop n bytes))) → b ≡ false
    → line_feeds (take (length new - m) (drop m new)) ≡ 0
no_feeds new bytes n m b p q is none =
    none_of (line_feeds (take (length new - m) (drop m new))) b
    (is ∙ ap (λ (t : List ℕ). nat_lt 0 (line_feeds (take (length t - n) (drop n t)))) p
    ∙ ap (λ (k : ℕ). nat_lt 0 (line_feeds (take (length new - k) (drop k new)))) q) none

-- one more read brings none
pub quiet_more : (held now new : List ℕ) → SoFar held now → Grows now new
    → line_feeds (take (length new - length now) (drop (length now) new)) ≡ 0 → SoFar held new
quiet_more held now new (more, q, is) (last, grown) none =
    let ends : drop (length now) new ≡ last = ap (drop (length now)) grown ∙ drop_over now last in
    let size : length last ≤ length new - length now = grind (arith, common_steps) in
    let all : take (length new - length now) (drop (length now) new) ≡ last =
    ap (take (length new - length now)) ends ∙ take_all (length new - length now) last size in
    let few : line_feeds last ≡ 0 = sym (ap line_feeds all) ∙ none in
    (more ++ last, line_feeds-append more last ∙ omega (arith, q, few), grown ∙ ap (λ (t : List ℕ). t ++ last) is ∙ append_assoc held more last)

-- the last read
pub quiet_last : (held now new : List ℕ) → SoFar held now → Grows now new → length new ≤ length now + chunk → IsQuiet held new
quiet_last held now new (more, q, is) (last, grown) few =
    (more, last, q, grind (arith, common_steps), grown ∙ ap (λ (t : List ℕ). t ++ last) is)

-- no head ends in bytes that may go on
open_none : (full : Bool) (front : List ℕ) → is_open (start_front full front) ≡ true → (full ≡ false) × (head_len (drop (blank_len front) front) ≡ None)
open_none full front e = by full (head_len (drop (blank_len front) front)) refl e
  where
    closed : (long : Bool) (from n : ℕ) → is_open (start_lined long from n) ≡ true → ⊥
    closed true from n e = cc
    closed false from n e = cc

    by : (full : Bool) (o : Option ℕ) → head_len (drop (blank_len front) front) ≡ o
        → is_open (start_after full (blank_len front) (drop (blank_len front) front) o) ≡ true
        → (full ≡ false) × (head_len (drop (blank_len front) front) ≡ None)
    by full (Some n) io e = absurd (closed _ _ _ e)
    by true None io e = absurd (let bad : ⊥ = cc in bad)
    by false None io e = (refl, io)

none_within : (limit : ℕ) (xs : List ℕ) → is_open (start_within limit xs) ≡ true → head_len (drop (blank_len xs) xs) ≡ None
none_within limit xs e =
    let found = open_none (nat_le limit (length xs)) (take limit xs) e in
    let short : length xs ≤ limit = grind (arith, nat_tests, found.0) in
    let whole : take limit xs ≡ xs = grind (arith, common_steps) in
    sym (ap (λ (t : List ℕ). head_len (drop (blank_len t) t)) whole) ∙ found.1

-- What stands at the front of all bytes, of which the first may go on and those after them have no end of a line:
-- a head of them ends behind both.
pub head_behind : (xs more last : List ℕ) (from n : ℕ) → is_open (start_of xs) ≡ true → line_feeds more ≡ 0
    → start_of ((xs ++ more) ++ last) ≡ Headed from n → length (xs ++ more) < from + n
head_behind xs more last from n going q e = by (nat_lt (length (xs ++ more)) (from + n)) refl
  where
    contradicts : from + n ≤ length (xs ++ more) → ⊥
    contradicts within =
        let ys : List ℕ = xs ++ more in
        let all : List ℕ = ys ++ last in
        let is : IsLined (take head_limit all) from n false = headed (nat_le head_limit (length all)) (take head_limit all) from n e in
        let at = placed all from n e in
        let size : n ≡ 0 → ⊥ = head_some (drop from (take head_limit all)) n is.head in
        let some : 0 < n = grind (arith, size) in
        let there : head_len (drop (blank_len (take head_limit all)) (take head_limit all)) ≡ Some n =
        ap (λ (k : ℕ). head_len (drop k (take head_limit all))) is.blank ∙ is.head in
        let blank_all : blank_len all ≡ from =
        sym (ap blank_len (take-append-drop head_limit all)) ∙ blank_more (take head_limit all) (drop head_limit all) n there ∙ is.blank in
        let blank_ys : blank_len ys ≡ from = blank_less ys last (omega (arith, blank_all, within, some)) ∙ blank_all in
        let blank_xs : blank_len xs ≡ from = sym (blank_quiet xs more q) ∙ blank_ys in
        let low : from ≤ length ys = omega (arith, within) in
        let behind : drop from all ≡ drop from ys ++ last = drop-append-le from ys last low in
        let room : n ≤ length (drop from ys) = grind (arith, common_steps) in
        let front : take n (drop from all) ≡ take n (drop from ys) = ap (take n) behind ∙ take-append-le n (drop from ys) last room in
        let long : length (take n (drop from all)) ≡ n = grind (arith, common_steps, at.fits) in
        let whole : take n (drop from all) ++ drop n (drop from ys) ≡ drop from ys =
        ap (λ (t : List ℕ). t ++ drop n (drop from ys)) front ∙ take-append-drop n (drop from ys) in
        let headed_ys : head_len (drop from ys) ≡ Some n = sym (ap head_len whole) ∙ at.cut (drop n (drop from ys)) ∙ ap Some long in
        let fits : from ≤ length xs = omega (arith, blank_fits xs, blank_xs) in
        let parted : drop from ys ≡ drop from xs ++ more = drop-append-le from xs more fits in
        let none : head_len (drop from xs) ≡ None =
        sym (ap (λ (k : ℕ). head_len (drop k xs)) blank_xs) ∙ none_within head_limit xs going in
        let quiet : head_len (drop from ys) ≡ None = ap head_len parted ∙ head_quiet (drop from xs) more q none in
        let bad : Some n ≡ None = sym headed_ys ∙ quiet in
        let never : ⊥ = cc in
        never

    by : (t : Bool) → nat_lt (length (xs ++ more)) (from + n) ≡ t → length (xs ++ more) < from + n
    by true is = grind (arith, nat_tests)
    by false is = absurd (contradicts (grind (arith, nat_tests)))

pub small_holds : (xs : List ℕ) (s : Start) → length xs ≤ chunk → HoldsOneRead s xs
small_holds xs Over few = tt
small_holds xs Between few = tt
small_holds xs Inside few = tt
small_holds xs (Headed from n) few = omega (arith, few)

-- where more was to be read, no more than one read's bytes are held behind the head
pub one_read : (xs new : List ℕ) → is_open (start_of xs) ≡ true → IsQuiet xs new → HoldsOneRead (start_of new) new
one_read xs new going (more, last, q, few, is) = by (start_of new) refl
  where
    by : (s : Start) → start_of new ≡ s → HoldsOneRead s new
    by Over e = tt
    by Between e = tt
    by Inside e = tt
    by (Headed from n) e =
        let behind = head_behind xs more last from n going q (sym (ap start_of is) ∙ e) in
        let size : length new ≡ length (xs ++ more) + length last = grind (arith, common_steps) in
        omega (arith, behind, size, few)
