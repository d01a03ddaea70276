-- What is answered by what stands first.
use Rattle.std.proofs.Common.{◌≡◌, ◌≤◌, ◌<◌, ◌+◌, ◌-◌, ℕ, Bool, true, false, if◌then◌else◌, nat_le, Option, Some, MatchOption, Result, List, [], ◌++◌, length, take, drop, refl, sym, ap, ◌∙◌, subst, arith, length-append, length-drop, append-nil}
use mathlib.Core.Logic.{inl}
use Rattle.std.proofs.lemmas.List.{take-append-le, drop-append-le, drop-drop}
use Rattle.std.proofs.lemmas.Bool.Decides.{nat_tests}
use Rattle.ixp_io.specs.Told.{Told, WhereTold, IsDone}
use Rattle.httparse.specs.Grammar.{HasNoRequest}
use Rattle.ixp_http.specs.declared.next.Next.{Next}
use Rattle.ixp_http.specs.declared.next.HttpFault.{HttpFault}
use Rattle.ixp_http.specs.declared.head.Start.{Start}
use Rattle.ixp_http.specs.declared.head.Start.TheVariants.{Headed}
use Rattle.ixp_http.specs.declared.fields.Need.{Need}
use Rattle.ixp_http.specs.declared.fields.Need.TheVariants.{Body, Refused}
use Rattle.ixp_http.specs.declared.request.Head.{Head}
use Rattle.ixp_http.specs.declared.request.Request.{Request}
use Rattle.ixp_http.specs.Heads.{start_of}
use Rattle.ixp_http.specs.Fields.{need_of}
use Rattle.ixp_http.specs.Messages.{Reading, message, bad, cut, Begins, First, IsHead, request_of, with_need}
use Rattle.ixp_http.specs.Answers.{Together, Tells, IsHeaded, IsBodied}
use Rattle.ixp_http.proofs.Together.{together_none, told_by, told_with, tells_after, where_any, where_by}

if_true : {A : Type 0} (t : Bool) (x y : A) → t ≡ true → (if t then x else y) ≡ x
if_true true x y e = refl
if_true false x y e = absurd (cc)

if_false : {A : Type 0} (t : Bool) (x y : A) → t ≡ false → (if t then x else y) ≡ y
if_false true x y e = absurd (cc)
if_false false x y e = refl

-- ---- the body

whole_body : (head : Head) (at size : ℕ) (full m bytes : List ℕ) → bytes ≡ full ++ m → at + size ≤ length full
    → message (request_of head (take size (drop at full))) (drop (at + size) full ++ m) ≡ with_need head (Body size) (drop at bytes)
whole_body head at size full m bytes is fits =
    let before : at ≤ length full = omega arith in
    let inside : size ≤ length (drop at full) = omega (arith, length-drop at full) in
    let rest : drop at bytes ≡ drop at full ++ m = ap (drop at) is ∙ drop-append-le at full m before in
    let there : nat_le size (length (drop at full ++ m)) ≡ true = reached (length (drop at full)) (length m) (length (drop at full ++ m)) inside (length-append (drop at full) m) in
    let behind : drop size (drop at full ++ m) ≡ drop (at + size) full ++ m =
    drop-append-le size (drop at full) m inside ∙ ap (λ (t : List ℕ). t ++ m) (drop-drop size at full) in
    sym (
    ap (with_need head (Body size)) rest
    ∙ if_true (nat_le size (length (drop at full ++ m))) (message (request_of head (take size (drop at full ++ m))) (drop size (drop at full ++ m))) cut there
    ∙ ap (λ (t : List ℕ). message (request_of head t) (drop size (drop at full ++ m))) (take-append-le size (drop at full) m inside)
    ∙ ap (message (request_of head (take size (drop at full)))) behind
    )
  where
    reached : (a b c : ℕ) → size ≤ a → c ≡ a + b → nat_le size c ≡ true
    reached a b c p e = grind (arith, nat_tests)

short_body : (head : Head) (at size : ℕ) (full m bytes : List ℕ) → bytes ≡ full ++ m → m ≡ [] → at ≤ length full → length full < at + size
    → cut ≡ with_need head (Body size) (drop at bytes)
short_body head at size full m bytes is none before short =
    let all : bytes ≡ full = is ∙ ap (λ (t : List ℕ). full ++ t) none ∙ append-nil full in
    let size_of : length (drop at bytes) ≡ length full - at = ap (λ (t : List ℕ). length (drop at t)) all ∙ length-drop at full in
    let missing : nat_le size (length (drop at bytes)) ≡ false = below (length (drop at bytes)) (omega arith) in
    sym (if_false (nat_le size (length (drop at bytes))) (message (request_of head (take size (drop at bytes))) (drop size (drop at bytes))) cut missing)
  where
    below : (k : ℕ) → k < size → nat_le size k ≡ false
    below k p = grind (arith, nat_tests)

-- the body has come
pub body_came : (a b : Option (List ℕ)) (head : Head) (at size : ℕ) (held full holds : List ℕ) (r : Request)
    → Together a b held full → at + size ≤ length full → r ≡ request_of head (take size (drop at full)) → holds ≡ drop (at + size) full
    → Told a b (λ left rest. IsBodied head at size (held ++ left) (message r (holds ++ rest)))
body_came a b head at size held full holds r p fits is keeps =
    told_by a b (λ left rest. held ++ left ≡ full ++ rest) (λ left rest. IsBodied head at size (held ++ left) (message r (holds ++ rest))) p
    λ left rest e. ap (λ (q : Request). message q (holds ++ rest)) is
    ∙ ap (λ (t : List ℕ). message (request_of head (take size (drop at full))) (t ++ rest)) keeps
    ∙ whole_body head at size full rest (held ++ left) e fits

-- the input ended before
pub body_cut : (a b : Option (List ℕ)) (head : Head) (at size : ℕ) (held full : List ℕ)
    → Together a b held full → IsDone b → at ≤ length full → length full < at + size
    → Told a b (λ left rest. IsBodied head at size (held ++ left) cut)
body_cut a b head at size held full p done before short =
    told_with a b (λ left rest. held ++ left ≡ full ++ rest) (λ left rest. IsBodied head at size (held ++ left) cut) (λ rest. rest ≡ []) p done
    λ left rest e none. short_body head at size full rest (held ++ left) e none before short

-- ---- the head

-- a part of what is held stays, whatever is left
kept_part : (held left : List ℕ) (from n : ℕ) → from + n ≤ length held → take n (drop from (held ++ left)) ≡ take n (drop from held)
kept_part held left from n fits =
    let before : from ≤ length held = omega arith in
    let inside : n ≤ length (drop from held) = omega (arith, length-drop from held) in
    ap (take n) (drop-append-le from held left before) ∙ take-append-le n (drop from held) left inside

pub head_bodied : (a b : Option (List ℕ)) (held holds : List ℕ) (from n size : ℕ) (head : Head) (r : Result Next HttpFault) → from + n ≤ length held
    → IsHead (take n (drop from held)) head → need_of head.fields ≡ Body size
    → Tells (λ bytes x. IsBodied head (from + n) size bytes x) a b held holds r → Tells (λ bytes x. IsHeaded from n bytes x) a b held holds r
head_bodied a b held holds from n size head r fits is need t =
    tells_after (λ bytes x. IsBodied head (from + n) size bytes x) (λ bytes x. IsHeaded from n bytes x) a a b held held holds r (together_none a held)
    (where_any a _ λ rest v e. inl (
      head,
      subst (λ (t : List ℕ). IsHead t head) (sym (kept_part held rest from n fits)) is,
      e ∙ ap (λ (need : Need). with_need head need (drop (from + n) (held ++ rest))) (sym need),
    )) t

pub head_refused : (a : Option (List ℕ)) (held : List ℕ) (from n status : ℕ) (head : Head) → from + n ≤ length held
    → IsHead (take n (drop from held)) head → need_of head.fields ≡ Refused status
    → Told a a (λ left rest. IsHeaded from n (held ++ left) (bad status))
head_refused a held from n status head fits is need =
    told_by a a (λ left rest. held ++ left ≡ held ++ rest) (λ left rest. IsHeaded from n (held ++ left) (bad status)) (together_none a held)
    λ left rest e. inl (
      head,
      subst (λ (t : List ℕ). IsHead t head) (sym (kept_part held left from n fits)) is,
      ap (λ (need : Need). with_need head need (drop (from + n) (held ++ left))) (sym need),
    )

-- ---- what stands first

pub first_plain : (a b : Option (List ℕ)) (held full : List ℕ) (s : Start) (x : Reading) → Together a b held full
    → WhereTold b (λ rest. start_of (full ++ rest) ≡ s) → ((bytes : List ℕ) → Begins bytes s x)
    → Told a b (λ left rest. First (held ++ left) x)
first_plain a b held full s x p settled begins =
    told_with a b (λ left rest. held ++ left ≡ full ++ rest) (λ left rest. First (held ++ left) x) (λ rest. start_of (full ++ rest) ≡ s) p settled
    λ left rest e is. subst (λ (t : Start). Begins (held ++ left) t x) (sym (ap start_of e ∙ is)) (begins (held ++ left))

pub first_headed : (a b c : Option (List ℕ)) (held full holds : List ℕ) (from n : ℕ) (r : Result Next HttpFault) → Together a b held full
    → WhereTold b (λ rest. start_of (full ++ rest) ≡ Headed from n)
    → Tells (λ bytes x. IsHeaded from n bytes x) b c full holds r → Tells (λ bytes x. First bytes x) a c held holds r
first_headed a b c held full holds from n r p settled t =
    tells_after (λ bytes x. IsHeaded from n bytes x) (λ bytes x. First bytes x) a b c held full holds r p
    (where_by b (λ rest. start_of (full ++ rest) ≡ Headed from n) _ settled
    λ rest e v x. subst (λ (s : Start). Begins (full ++ rest) s v) (sym e) x) t

-- ---- what was found

pub found_is : (o : Option Head) (head : Head) (bytes other : List ℕ) → o ≡ Some head → other ≡ bytes
    → MatchOption o (HasNoRequest other) (IsHead other) → IsHead bytes head
found_is o head bytes other is same p =
    subst (λ (t : List ℕ). IsHead t head) same (subst (λ (q : Option Head). MatchOption q (HasNoRequest other) (IsHead other)) is p)
