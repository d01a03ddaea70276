-- A router that serves a table answers as the table does.
use Rattle.std.proofs.Common.{◌≡◌, ◌≢◌, ◌⊎◌, inl, inr, ℕ, zero, suc, ◌+◌, ◌<◌, List, [], ◌∷◌, ◌++◌, length, get_or, Option, Some, None, Result, Ok, Err, Bool, true, false, cond, not, refl, sym, ap, subst, ◌∙◌, arith, ◌==◌, ◌||◌, ◌&&◌}
use Rattle.std.proofs.lemmas.Bool.Decides.{nat_tests}
use Rattle.std.proofs.lemmas.Option.{option_and_then_some}
use Rattle.std.specs.Cmp.Lexicographic.{bytes_decides}
use Rattle.matchit.specs.Rows.{RowsOf, param_token, comes_before}
use Rattle.matchit.specs.Seek.{slash, first}
use Rattle.matchit.specs.Order.{placed}
use Rattle.matchit.specs.Router.{RouteOf, InsertsRead, route_from}
use Rattle.matchit.specs.Route.{Scan}
use Rattle.matchit.specs.declared.error.InsertError.{InsertError}
use Rattle.ixp_registry.specs.Widths.{AreBytes}
use Rattle.ixp_api_paths.specs.declared.table.Part.{Part}
use Rattle.ixp_api_paths.specs.declared.table.Part.TheVariants as part
use Rattle.ixp_api_paths.specs.declared.table.Args.{Args}
use Rattle.ixp_api_paths.specs.declared.table.Entry.{Entry}
use Rattle.ixp_api_paths.specs.Paths.{same_bytes, word_text, front, behind, behind_root, is_end, take_part, read, no_args, find, on_read}
use Rattle.ixp_api_paths.specs.Fits.{is_empty, on_head, fits, plain, AllPlain, Tells}
use Rattle.ixp_api_paths.specs.Serves.{part_tokens, pattern_of, pattern_at, OnlyTable, Has, HasBelow, pattern_in, all_plain, parted, parted_from, all_parted}
use Rattle.ixp_api_paths.specs.Table.{no_entry, found, read_entry, Named}
use Rattle.ixp_api_paths.specs.declared.table.TheConstants.{TABLE}
use Rattle.ixp_api_paths.proofs.Seek.{first-tells}

-- a part that reads something isn't the end
no-end : (p : Part) (a x : Args) (t : List ℕ) → take_part p a t ≡ Some x → is_end p ≡ false
no-end (part.Is w) a x t e = refl
no-end part.Row a x t e = refl
no-end part.Place a x t e = refl
no-end part.Family a x t e = refl
no-end part.List a x t e = refl
no-end part.Router a x t e = refl
no-end part.End a x t e = cc

-- what a pattern reads, the router's pattern fits
abbrev tail : Option (List ℕ) → List ℕ
tail None = []
tail (Some r) = slash ∷ r

front-tail : (text : List ℕ) → text ≡ front text ++ tail (behind text)
front-tail [] = refl
front-tail (b ∷ rest) = by (b == slash) refl (front-tail rest)
  where
    by : (v : Bool) → (b == slash) ≡ v → rest ≡ front rest ++ tail (behind rest) → b ∷ rest ≡ cond v [] (b ∷ front rest) ++ tail (cond v (Some rest) (behind rest))
    by true e ih = let f : b ≡ slash = grind (arith, nat_tests) in ap (λ z. z ∷ rest) f
    by false e ih = ap (λ z. b ∷ z) ih

same : (x : ℕ) → (x == x) ≡ true
same x = grind (arith, nat_tests)

or-false : (b : Bool) → (b || false) ≡ true → b ≡ true
or-false true e = refl
or-false false e = e

or-true : (b : Bool) → (b || true) ≡ true
or-true true = refl
or-true false = refl

fits-literal : (w pat r : List ℕ) → fits false pat r ≡ true → fits false (w ++ pat) (w ++ r) ≡ true
fits-literal [] pat r h = h
fits-literal (x ∷ w) pat r h = rw (same x, fits-literal w pat r h) refl

fits-inside : (pat q : List ℕ) → fits false pat (tail (behind q)) ≡ true → fits true pat q ≡ true
fits-inside pat [] h = h
fits-inside pat (c ∷ q) h = by (c == slash) h (λ g. fits-inside pat q g)
  where
    by : (v : Bool) → fits false pat (tail (cond v (Some q) (behind q))) ≡ true → (fits false pat (tail (behind q)) ≡ true → fits true pat q ≡ true)
        → cond v (on_head slash (λ u. fits false u q) pat) (fits true pat q) ≡ true
    by true g ih = or-false _ g
    by false g ih = ih g

fits-param : (pat text : List ℕ) → (front text ≡ [] → ⊥) → fits false pat (tail (behind text)) ≡ true → fits false (param_token ∷ pat) text ≡ true
fits-param pat [] n h = absurd (n refl)
fits-param pat (c ∷ q) n h = by (c == slash) n h
  where
    by : (v : Bool) → (cond v [] (c ∷ front q) ≡ [] → ⊥) → fits false pat (tail (cond v (Some q) (behind q))) ≡ true
        → (on_head c (λ u. fits false u q) (param_token ∷ pat) || cond v false (fits true pat q)) ≡ true
    by true m g = absurd (m refl)
    by false m g = rw (fits-inside pat q g) (or-true _)

part-fits : (p : Part) (a x : Args) (pat text : List ℕ) → take_part p a (front text) ≡ Some x → fits false pat (tail (behind text)) ≡ true
    → fits false (part_tokens p ++ pat) text ≡ true
part-fits (part.Is w) a x pat text e h = by (same_bytes (front text) (word_text w)) refl e
  where
    by : (v : Bool) → same_bytes (front text) (word_text w) ≡ v → cond v (Some a) None ≡ Some x → fits false (word_text w ++ pat) text ≡ true
    by true f e2 =
        let g : front text ≡ word_text w = (bytes_decides (front text) (word_text w)).0 f in
        let t : text ≡ word_text w ++ tail (behind text) = front-tail text ∙ ap (λ z. z ++ tail (behind text)) g in
        subst (λ (z : List ℕ). fits false (word_text w ++ pat) z ≡ true) (sym t) (fits-literal (word_text w) pat (tail (behind text)) h)
    by false f e2 = cc
part-fits part.Row a x pat text e h = fits-param pat text (λ f. let g = rw f at e in cc) h
part-fits part.Place a x pat text e h = fits-param pat text (λ f. let g = rw f at e in cc) h
part-fits part.Family a x pat text e h = fits-param pat text (λ f. let g = rw f at e in cc) h
part-fits part.List a x pat text e h = fits-param pat text (λ f. let g = rw f at e in cc) h
part-fits part.Router a x pat text e h = fits-param pat text (λ f. let g = rw f at e in cc) h
part-fits part.End a x pat text e h = cc

read-none : (ps : List Part) (a x : Args) → read a ps None ≡ Some x → pattern_of ps ≡ []
read-none [] a x e = refl
read-none (p ∷ ps) a x e = by (is_end p) e (λ f. read-none ps a x f)
  where
    by : (v : Bool) → cond v (read a ps None) None ≡ Some x → (read a ps None ≡ Some x → pattern_of ps ≡ []) → cond v (pattern_of ps) (slash ∷ (part_tokens p ++ pattern_of ps)) ≡ []
    by true f ih = ih f
    by false f ih = cc

read-fits : (ps : List Part) (a x : Args) (text : Option (List ℕ)) → read a ps text ≡ Some x → fits false (pattern_of ps) (tail text) ≡ true
read-fits ps a x None e = rw (read-none ps a x e) refl
read-fits [] a x (Some text) e = cc
read-fits (p ∷ ps) a x (Some text) e =
    option_and_then_some _ _ _ e (λ b eb rb.
    rw (no-end p a b (front text) eb, part-fits p a b (pattern_of ps) text eb (read-fits ps b x (behind text) rb)) refl)

root-tail : (path r : List ℕ) → behind_root path ≡ Some r → path ≡ slash ∷ r
root-tail [] r e = cc
root-tail (b ∷ rest) r e = by (b == slash) refl e
  where
    by : (v : Bool) → (b == slash) ≡ v → cond v (Some rest) None ≡ Some r → b ∷ rest ≡ slash ∷ r
    by true f g =
        let h : b ≡ slash = grind (arith, nat_tests) in
        let i : rest ≡ r = cc in
        cc
    by false f g = cc

entry-fits : (ps : List Part) (x : Args) (path : List ℕ) → (pattern_of ps ≡ [] → ⊥) → read no_args ps (behind_root path) ≡ Some x → fits false (pattern_of ps) path ≡ true
entry-fits ps x path n e = by (behind_root path) refl
  where
    by : (o : Option (List ℕ)) → behind_root path ≡ o → fits false (pattern_of ps) path ≡ true
    by None f = absurd (n (read-none ps no_args x (rw f at e)))
    by (Some r) f = rw (root-tail path r f) (read-fits ps no_args x (Some r) (rw f at e))

-- no path fits two patterns that are parted
abbrev Bytes : List ℕ → Type 0
Bytes p = (i : ℕ) → get_or p i 0 < 256

rest-bytes : (c : ℕ) (q : List ℕ) → Bytes (c ∷ q) → Bytes q
rest-bytes c q h = λ i. h (suc i)

and-left : (a b : Bool) → (a && b) ≡ true → a ≡ true
and-left true b e = refl
and-left false b e = e

and-right : (a b : Bool) → (a && b) ≡ true → b ≡ true
and-right true b e = e
and-right false b e = cc

either : (a b : Bool) → (a || b) ≡ true → (a ≡ true) ⊎ (b ≡ true)
either true b e = inl refl
either false b e = inr e

head-cases : (x c : ℕ) (t q : List ℕ) → fits false (x ∷ t) (c ∷ q) ≡ true → ((x ≡ c) × (fits false t q ≡ true)) ⊎ ((x ≡ param_token) × (fits true t q ≡ true))
head-cases x c t q e = elim (either _ _ e) [
  | inl g ↦ inl (literal (x == c) refl g)
  | inr g ↦ inr (param (c == slash) (x == param_token) refl g)
]
  where
    literal : (u : Bool) → (x == c) ≡ u → cond u (fits false t q) false ≡ true → (x ≡ c) × (fits false t q ≡ true)
    literal true a g = let f : x ≡ c = grind (arith, nat_tests) in (f, g)
    literal false a g = cc

    param : (v w : Bool) → (x == param_token) ≡ w → cond v false (cond w (fits true t q) false) ≡ true → (x ≡ param_token) × (fits true t q ≡ true)
    param true w d g = cc
    param false true d g = let f : x ≡ param_token = grind (arith, nat_tests) in (f, g)
    param false false d g = cc

parted-same : (x y : ℕ) (t u : List ℕ) → x ≡ y → parted (x ∷ t) (y ∷ u) ≡ true → parted t u ≡ true
parted-same x y t u e h = let f : (x == y) ≡ true = grind (arith, nat_tests) in rw f at h

parted-left : (x y : ℕ) (t u : List ℕ) → x < 256 → y ≡ param_token → parted (x ∷ t) (y ∷ u) ≡ true → ⊥
parted-left x y t u l e h =
    let f : (x == y) ≡ false = grind (arith, nat_tests) in
    let g : (x == param_token) ≡ false = grind (arith, nat_tests) in
    let i : (y == param_token) ≡ true = grind (arith, nat_tests) in
    let j = rw (f, g, i) at h in
    cc

parted-right : (x y : ℕ) (t u : List ℕ) → x ≡ param_token → y < 256 → parted (x ∷ t) (y ∷ u) ≡ true → ⊥
parted-right x y t u e l h =
    let f : (x == y) ≡ false = grind (arith, nat_tests) in
    let i : (x == param_token) ≡ true = grind (arith, nat_tests) in
    let j = rw (f, i) at h in
    cc

slash-head : (f : List ℕ → Bool) (x : ℕ) (t : List ℕ) → on_head slash f (x ∷ t) ≡ true → (x ≡ slash) × (f t ≡ true)
slash-head f x t e = by (x == slash) refl e
  where
    by : (v : Bool) → (x == slash) ≡ v → cond v (f t) false ≡ true → (x ≡ slash) × (f t ≡ true)
    by true a g = let h : x ≡ slash = grind (arith, nat_tests) in (h, g)
    by false a g = cc

pub no-both : (p : List ℕ) (inside : Bool) (t u : List ℕ) → parted t u ≡ true → Bytes p → fits inside t p ≡ true → fits inside u p ≡ true → ⊥
no-both [] inside [] [] d b e f = cc
no-both [] inside [] (y ∷ u) d b e f = cc
no-both [] inside (x ∷ t) u d b e f = cc
no-both (c ∷ q) true t u d b e f = by (c == slash) t u d e f (λ m w g h i. no-both q m w g h (rest-bytes c q b) i)
  where
    by : (v : Bool) (t2 u2 : List ℕ) → parted t2 u2 ≡ true → cond v (on_head slash (λ w. fits false w q) t2) (fits true t2 q) ≡ true
        → cond v (on_head slash (λ w. fits false w q) u2) (fits true u2 q) ≡ true
        → ((m : Bool) (w g : List ℕ) → parted w g ≡ true → fits m w q ≡ true → fits m g q ≡ true → ⊥) → ⊥
    by true [] u2 d2 e2 f2 ih = cc
    by true (x ∷ t2) [] d2 e2 f2 ih = cc
    by true (x ∷ t2) (y ∷ u2) d2 e2 f2 ih =
        let h = slash-head (λ w. fits false w q) x t2 e2 in
        let k = slash-head (λ w. fits false w q) y u2 f2 in
        let s : x ≡ y = h.0 ∙ sym k.0 in
        ih false t2 u2 (parted-same x y t2 u2 s d2) h.1 k.1
    by false t2 u2 d2 e2 f2 ih = ih true t2 u2 d2 e2 f2
no-both (c ∷ q) false [] u d b e f = grind arith
no-both (c ∷ q) false (x ∷ t) [] d b e f = grind arith
no-both (c ∷ q) false (x ∷ t) (y ∷ u) d b e f =
    let l : c < 256 = b 0 in
    elim (head-cases x c t q e) [
      | inl g ↦ elim (head-cases y c u q f) [
        | inl h ↦ no-both q false t u (parted-same x y t u (g.0 ∙ sym h.0) d) (rest-bytes c q b) g.1 h.1
        | inr h ↦ parted-left x y t u (subst (λ (z : ℕ). z < 256) (sym g.0) l) h.0 d
      ]
      | inr g ↦ elim (head-cases y c u q f) [
        | inl h ↦ parted-right x y t u g.0 (subst (λ (z : ℕ). z < 256) (sym h.0) l) d
        | inr h ↦ no-both q true t u (parted-same x y t u (g.0 ∙ sym h.0) d) (rest-bytes c q b) g.1 h.1
      ]
    ]

-- two places of a table
from-at : (e : Entry) (es : List Entry) (i : ℕ) → parted_from e es ≡ true → i < length es
    → (parted (pattern_of e.parts) (pattern_at es i) ≡ true) × (parted (pattern_at es i) (pattern_of e.parts) ≡ true)
from-at e [] i c l = elim l [ ]
from-at e (f ∷ es) zero c l = (grind arith, grind arith)
from-at e (f ∷ es) (suc i) c l =
    let r : parted_from e es ≡ true = grind arith in
    from-at e es i r (omega arith)

two-parted : (es : List Entry) (i j : ℕ) → all_parted es ≡ true → i < length es → j < length es → i ≢ j → parted (pattern_at es i) (pattern_at es j) ≡ true
two-parted [] i j c l m n = elim l [ ]
two-parted (e ∷ es) zero zero c l m n = absurd (n refl)
two-parted (e ∷ es) zero (suc j) c l m n =
    let r : parted_from e es ≡ true = grind arith in
    (from-at e es j r (omega arith)).0
two-parted (e ∷ es) (suc i) zero c l m n =
    let r : parted_from e es ≡ true = grind arith in
    (from-at e es i r (omega arith)).1
two-parted (e ∷ es) (suc i) (suc j) c l m n =
    let r : all_parted es ≡ true = grind arith in
    two-parted es i j r (omega arith) (omega arith) (λ q. n (ap suc q))

-- what the table finds
find-none : (es : List Entry) (path : List ℕ) → ((i : ℕ) → i < length es → read no_args (get_or es i no_entry).parts (behind_root path) ≡ None) → find es path ≡ None
find-none [] path h = refl
find-none (e ∷ es) path h = rw (h 0 (omega arith)) (find-none es path (λ i l. h (suc i) (omega arith)))

find-one : (es : List Entry) (path : List ℕ) (i : ℕ) → i < length es
    → ((j : ℕ) → j < length es → j ≢ i → read no_args (get_or es j no_entry).parts (behind_root path) ≡ None)
    → find es path ≡ on_read (get_or es i no_entry) (read no_args (get_or es i no_entry).parts (behind_root path)) None
find-one [] path i l h = elim l [ ]
find-one (e ∷ es) path zero l h =
    rw (find-none es path (λ j m. h (suc j) (omega arith) (λ q. absurd (omega arith)))) refl
find-one (e ∷ es) path (suc i) l h =
    let n : read no_args e.parts (behind_root path) ≡ None = h 0 (omega arith) (λ q. absurd (omega arith)) in
    rw n (find-one es path i (omega arith) (λ j m k. h (suc j) (omega arith) (λ q. k (omega arith))))

-- the rows
plain-at : (es : List Entry) (i : ℕ) → all_plain es ≡ true → i < length es → plain (pattern_at es i) ≡ true
plain-at [] i c l = elim l [ ]
plain-at (e ∷ es) zero c l = and-right _ _ (and-left _ _ c)
plain-at (e ∷ es) (suc i) c l =
    let r : all_plain es ≡ true = and-right _ _ c in
    plain-at es i r (omega arith)

rows-plain : (es : List Entry) (rs : RowsOf (RouteOf ℕ)) → all_plain es ≡ true → OnlyTable es rs → AllPlain rs
rows-plain es [] c h = tt
rows-plain es ((t, r) ∷ rs) c h = (rw h.1 (plain-at es r.value c h.0), rows-plain es rs c h.2)

tells-none : (es : List Entry) (f : List ℕ → Bool) (rs : RowsOf (RouteOf ℕ)) (i : ℕ) → Tells f rs None → Has es i rs → f (pattern_at es i) ≡ false
tells-none es f [] i t h = elim h [ ]
tells-none es f ((t, r) ∷ rs) i g (inl h) = rw (← h) g.0
tells-none es f ((t, r) ∷ rs) i g (inr h) = tells-none es f rs i g.1 h

tells-some : (es : List Entry) (f : List ℕ → Bool) (rs : RowsOf (RouteOf ℕ)) (k : RouteOf ℕ) → Tells f rs (Some k) → OnlyTable es rs
    → (k.value < length es) × (f (pattern_at es k.value) ≡ true)
tells-some es f [] k t h = elim t [ ]
tells-some es f ((t, r) ∷ rs) k (inl g) h = rw (← g.1) (h.0, rw (← h.1) g.0)
tells-some es f ((t, r) ∷ rs) k (inr g) h = tells-some es f rs k g h.2

some-at : (es : List Entry) (i : ℕ) → all_plain es ≡ true → i < length es → pattern_at es i ≡ [] → ⊥
some-at [] i c l = elim l [ ]
some-at (e ∷ es) zero c l =
    let r : not (is_empty (pattern_of e.parts)) ≡ true = and-left _ _ (and-left _ _ c) in
    λ q. let g = rw q at r in cc
some-at (e ∷ es) (suc i) c l =
    let r : all_plain es ≡ true = and-right _ _ c in
    some-at es i r (omega arith)

-- an entry whose pattern doesn't fit reads nothing
unfit : (es : List Entry) (i : ℕ) (path : List ℕ) → all_plain es ≡ true → i < length es → (fits false (pattern_at es i) path ≡ true → ⊥)
    → read no_args (get_or es i no_entry).parts (behind_root path) ≡ None
unfit es i path c l n = by (read no_args (get_or es i no_entry).parts (behind_root path)) refl
  where
    by : (o : Option Args) → read no_args (get_or es i no_entry).parts (behind_root path) ≡ o → read no_args (get_or es i no_entry).parts (behind_root path) ≡ None
    by None e = e
    by (Some x) e = absurd (n (entry-fits (get_or es i no_entry).parts x path (some-at es i c l) e))

-- what the router's answer says of the table's
named-none : (es : List Entry) (rs : RowsOf (RouteOf ℕ)) (path : List ℕ) → all_plain es ≡ true → OnlyTable es rs → HasBelow es (length es) rs
    → first rs path ≡ None → find es path ≡ None
named-none es rs path c o h e =
    let t = first-tells rs path (rows-plain es rs c o) in
    let u : Tells (λ t2. fits false t2 path) rs None = rw e at t in
    find-none es path (λ i l. unfit es i path c l (λ f. let g = tells-none es (λ t2. fits false t2 path) rs i u (h i l) in cc))

named-some : (es : List Entry) (rs : RowsOf (RouteOf ℕ)) (path : List ℕ) (k : RouteOf ℕ) → all_plain es ≡ true → all_parted es ≡ true → OnlyTable es rs → Bytes path
    → first rs path ≡ Some k
    → (k.value < length es) × (find es path ≡ on_read (get_or es k.value no_entry) (read no_args (get_or es k.value no_entry).parts (behind_root path)) None)
named-some es rs path k c d o b e =
    let t = first-tells rs path (rows-plain es rs c o) in
    let u : Tells (λ t2. fits false t2 path) rs (Some k) = rw e at t in
    let s = tells-some es (λ t2. fits false t2 path) rs k u o in
    (s.0, find-one es path k.value s.0 (λ j l n. unfit es j path c l (λ f. no-both path false (pattern_at es j) (pattern_at es k.value) (two-parted es j k.value d l s.0 n) b f s.1)))

pub served-none : (rs : RowsOf (RouteOf ℕ)) (path : List ℕ) → OnlyTable TABLE rs → HasBelow TABLE (length TABLE) rs → first rs path ≡ None → Named path None
unfolding found
served-none rs path o h e = named-none TABLE rs path refl o h e

pub served-some : (rs : RowsOf (RouteOf ℕ)) (path : List ℕ) (k : RouteOf ℕ) → OnlyTable TABLE rs → Bytes path → first rs path ≡ Some k → Named path (Some k.value)
unfolding found read_entry
served-some rs path k o b e = named-some TABLE rs path k refl refl o b e

-- what an entry reads, the table finds
at-one : (es : List Entry) (i : ℕ) (x : Args) (path : List ℕ) → all_plain es ≡ true → all_parted es ≡ true → i < length es → Bytes path
    → read no_args (get_or es i no_entry).parts (behind_root path) ≡ Some x → find es path ≡ Some (get_or es i no_entry, x)
at-one es i x path c d l b e =
    let f : fits false (pattern_at es i) path ≡ true = entry-fits (get_or es i no_entry).parts x path (some-at es i c l) e in
    let g = find-one es path i l (λ j m n. unfit es j path c m (λ h. no-both path false (pattern_at es j) (pattern_at es i) (two-parted es j i d m l n) b h f)) in
    rw e at g

bytes-of : (p : List ℕ) → AreBytes p → Bytes p
bytes-of [] h i = omega arith
bytes-of (c ∷ q) h zero = h.0
bytes-of (c ∷ q) h (suc i) = bytes-of q h.1 i

pub found-at : (i : ℕ) (x : Args) (path : List ℕ) → i < length TABLE → AreBytes path
    → read no_args (get_or TABLE i no_entry).parts (behind_root path) ≡ Some x → found path ≡ Some (get_or TABLE i no_entry, x)
unfolding found
found-at i x path l b e = at-one TABLE i x path refl refl l (bytes-of path b) e

-- the rows that `insert` leaves
placed-only : (es : List Entry) (t : List ℕ) (r : RouteOf ℕ) (rs : RowsOf (RouteOf ℕ)) → r.value < length es → t ≡ pattern_at es r.value → OnlyTable es rs → OnlyTable es (placed (t, r) rs)
placed-only es t r [] l e h = (l, e, tt)
placed-only es t r ((u, k) ∷ rs) l e h =
    elim (comes_before t u) as (λ v. OnlyTable es (cond v ((t, r) ∷ (u, k) ∷ rs) ((u, k) ∷ placed (t, r) rs))) [
      | true ↦ (l, e, h)
      | false ↦ (h.0, h.1, placed-only es t r rs l e h.2)
    ]

placed-old : (es : List Entry) (i : ℕ) (t : List ℕ) (r : RouteOf ℕ) (rs : RowsOf (RouteOf ℕ)) → Has es i rs → Has es i (placed (t, r) rs)
placed-old es i t r [] h = elim h [ ]
placed-old es i t r ((u, k) ∷ rs) h = by (comes_before t u) h (λ g. placed-old es i t r rs g)
  where
    by : (v : Bool) → (u ≡ pattern_at es i) ⊎ Has es i rs → (Has es i rs → Has es i (placed (t, r) rs)) → Has es i (cond v ((t, r) ∷ (u, k) ∷ rs) ((u, k) ∷ placed (t, r) rs))
    by true g ih = inr g
    by false (inl g) ih = inl g
    by false (inr g) ih = inr (ih g)

placed-new : (es : List Entry) (i : ℕ) (t : List ℕ) (r : RouteOf ℕ) (rs : RowsOf (RouteOf ℕ)) → t ≡ pattern_at es i → Has es i (placed (t, r) rs)
placed-new es i t r [] e = inl e
placed-new es i t r ((u, k) ∷ rs) e =
    elim (comes_before t u) as (λ v. Has es i (cond v ((t, r) ∷ (u, k) ∷ rs) ((u, k) ∷ placed (t, r) rs))) [
      | true ↦ inl e
      | false ↦ inr (placed-new es i t r rs e)
    ]

pub insert-keeps : (es : List Entry) (o : Result Scan InsertError) (i : ℕ) (old new : RowsOf (RouteOf ℕ)) (u : Unit {0}) → pattern_in o ≡ Some (pattern_at es i) → i < length es
    → InsertsRead o i old new (Ok u) → OnlyTable es old → HasBelow es i old → OnlyTable es new × HasBelow es (i + 1) new
insert-keeps es (Err x) i old new u p l n h g = cc
insert-keeps es (Ok s) i old new u p l n h g =
    let e : s.pattern ≡ pattern_at es i = cc in
    rw n.1 (
      placed-only es s.pattern (route_from s i) old l e h,
      λ j m. by j m (j == i) refl e,
    )
  where
    by : (j : ℕ) → j < i + 1 → (v : Bool) → (j == i) ≡ v → s.pattern ≡ pattern_at es i → Has es j (placed (s.pattern, route_from s i) old)
    by j m true q e =
        let f : i ≡ j = grind (arith, nat_tests) in
        placed-new es j s.pattern (route_from s i) old (subst (λ (z : ℕ). s.pattern ≡ pattern_at es z) f e)
    by j m false q e =
        let f : j < i = grind (arith, nat_tests) in
        placed-old es j s.pattern (route_from s i) old (g j f)
