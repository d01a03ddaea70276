-- The table has each kind of call once, at its method and its path.
use Rattle.std.proofs.Common.{◌≡◌, ◌⊎◌, inl, inr, ℕ, zero, suc, ◌<◌, List, [], ◌∷◌, length, get_or, Option, Some, None, Bool, true, false, cond, not, refl, sym, ap, subst, ◌∙◌, arith, codes, ◌==◌, ◌&&◌, ltb, is_some, if◌then◌else◌, option_and_then}
use Rattle.std.proofs.lemmas.Bool.Decides.{nat_tests}
use Rattle.std.proofs.lemmas.Option.{some_pair_parts}
use Rattle.std.specs.Cmp.Lexicographic.{bytes_decides}
use Rattle.ixp_registry.specs.Widths.{AreBytes}
use Rattle.ixp_registry.specs.declared.edit_kind.EditKind.{EditKind}
use Rattle.ixp_registry.specs.declared.edit_kind.EditKind.TheVariants as edit
use Rattle.ixp_api_paths.specs.declared.table.Word.{Word}
use Rattle.ixp_api_paths.specs.declared.table.Word.TheVariants as word
use Rattle.ixp_api_paths.specs.declared.table.Part.{Part}
use Rattle.ixp_api_paths.specs.declared.table.Part.TheVariants as part
use Rattle.ixp_api_paths.specs.declared.table.Args.{Args}
use Rattle.ixp_api_paths.specs.declared.table.Entry.{Entry}
use Rattle.ixp_api_paths.specs.declared.table.Kind.{Kind}
use Rattle.ixp_api_paths.specs.declared.table.Kind.TheVariants as kind
use Rattle.ixp_api_paths.specs.declared.table.Question.{Question}
use Rattle.ixp_api_paths.specs.declared.table.Question.TheVariants as question
use Rattle.ixp_api_paths.specs.declared.table.TheConstants.{TABLE}
use Rattle.ixp_api_paths.specs.declared.served.Found.TheVariants.{NoPath, Call}
use Rattle.ixp_api_paths.specs.Paths.{same_bytes, word_text, front, behind, behind_root, is_end, take_part, read, no_args, find, on_read, kind_at, call_of, found_of}
use Rattle.ixp_api_paths.specs.Table.{no_entry, found, look}
use Rattle.ixp_api_paths.specs.Kinds.{address_of, onto_first, segments, read_segment, read_segments, read_by, IsCallOf, IsNoPath, CallsAreByKind, PathsAreByKind}
use Rattle.ixp_api_paths.proofs.Serve.{found-at}

and-left : (a b : Bool) → (a && b) ≡ true → a ≡ true
and-left true b e = refl
and-left false b e = e

and-right : (a b : Bool) → (a && b) ≡ true → b ≡ true
and-right true b e = e
and-right false b e = cc

-- the segment of a template that a part of the table is
abbrev segment_of : Part → List ℕ
segment_of (part.Is w) = word_text w
segment_of part.Row = codes "{row}"
segment_of part.Place = codes "{place}"
segment_of part.Family = codes "{family}"
segment_of part.List = codes "{list}"
segment_of part.Router = codes "{router}"
segment_of part.End = []

abbrev segments_of : List Part → List (List ℕ)
segments_of [] = []
segments_of (p ∷ ps) = cond (is_end p) (segments_of ps) (segment_of p ∷ segments_of ps)

-- behind the first end there is no other part
abbrev only_ends : List Part → Bool
only_ends [] = true
only_ends (p ∷ ps) = is_end p && only_ends ps

abbrev ended : List Part → Bool
ended [] = true
ended (p ∷ ps) = cond (is_end p) (only_ends ps) (ended ps)

abbrev begins : List Part → Bool
begins [] = false
begins (p ∷ ps) = not (is_end p)

abbrev same_segments : List (List ℕ) → List (List ℕ) → Bool
same_segments [] [] = true
same_segments [] (y ∷ ys) = false
same_segments (x ∷ xs) [] = false
same_segments (x ∷ xs) (y ∷ ys) = same_bytes x y && same_segments xs ys

same-segments : (xs ys : List (List ℕ)) → same_segments xs ys ≡ true → xs ≡ ys
same-segments [] [] e = refl
same-segments [] (y ∷ ys) e = cc
same-segments (x ∷ xs) [] e = cc
same-segments (x ∷ xs) (y ∷ ys) e =
    let f : x ≡ y = (bytes_decides x y).0 (and-left _ _ e) in
    let g : xs ≡ ys = same-segments xs ys (and-right _ _ e) in
    cc

-- what a row has for a method is a kind of that method and of the row's path
abbrev is_of : List ℕ → List Part → Option Kind → Bool
is_of method ps None = true
is_of method ps (Some k) = same_bytes method (address_of k).method && same_segments (segments (address_of k).path) ([] ∷ segments_of ps)

abbrev or_kind : Option Kind → Option Kind → Option Kind
or_kind None other = other
or_kind (Some k) other = Some k

abbrev some_kind : Entry → Option Kind
some_kind e = or_kind e.get (or_kind e.post (or_kind e.put e.delete))

abbrev kinds_right : Entry → Bool
kinds_right e =
    is_of (codes "GET") e.parts e.get && (is_of (codes "POST") e.parts e.post && (is_of (codes "PUT") e.parts e.put && is_of (codes "DELETE") e.parts e.delete))

abbrev row_right : Entry → Bool
row_right e = begins e.parts && (ended e.parts && (is_some (some_kind e) && kinds_right e))

abbrev rows_right : List Entry → Bool
rows_right [] = true
rows_right (e ∷ es) = row_right e && rows_right es

record Right (e : Entry) : Type 0 where
  begun : begins e.parts ≡ true
  done : ended e.parts ≡ true
  used : is_some (some_kind e) ≡ true
  by_get : is_of (codes "GET") e.parts e.get ≡ true
  by_post : is_of (codes "POST") e.parts e.post ≡ true
  by_put : is_of (codes "PUT") e.parts e.put ≡ true
  by_delete : is_of (codes "DELETE") e.parts e.delete ≡ true

right : (e : Entry) → row_right e ≡ true → Right e
right e c =
    let d = and-right _ _ c in
    let f = and-right _ _ d in
    let g = and-right _ _ f in
    let h = and-right _ _ g in
    let i = and-right _ _ h in
    record {
      begun = and-left _ _ c;
      done = and-left _ _ d;
      used = and-left _ _ f;
      by_get = and-left _ _ g;
      by_post = and-left _ _ h;
      by_put = and-left _ _ i;
      by_delete = and-right _ _ i;
    }

-- the kind is one of the method, and its path is the row's
abbrev Fit : List ℕ → Entry → Kind → Type 0
Fit method e k = (method ≡ (address_of k).method) × (segments (address_of k).path ≡ [] ∷ segments_of e.parts)

is-of : (method : List ℕ) (e : Entry) (o : Option Kind) (k : Kind) → is_of method e.parts o ≡ true → o ≡ Some k → Fit method e k
is-of method e None k c q = cc
is-of method e (Some j) k c q =
    let s : j ≡ k = cc in
    let f : method ≡ (address_of j).method = (bytes_decides method (address_of j).method).0 (and-left _ _ c) in
    let g : segments (address_of j).path ≡ [] ∷ segments_of e.parts = same-segments _ _ (and-right _ _ c) in
    subst (λ (z : Kind). Fit method e z) s (f, g)

if-cases : (b : Bool) (x y : Option Kind) (k : Kind) → (if b then x else y) ≡ Some k → ((b ≡ true) × (x ≡ Some k)) ⊎ ((b ≡ false) × (y ≡ Some k))
if-cases true x y k e = inl (refl, e)
if-cases false x y k e = inr (refl, e)

same-method : (method word : List ℕ) (e : Entry) (k : Kind) → same_bytes method word ≡ true → Fit word e k → Fit method e k
same-method method word e k q f =
    let s : method ≡ word = (bytes_decides method word).0 q in
    subst (λ (z : List ℕ). Fit z e k) (sym s) f

-- what a method calls for, but for the first methods
abbrev by_delete : List ℕ → Entry → Option Kind
by_delete method e = if same_bytes method (codes "DELETE") then e.delete else None

abbrev by_put : List ℕ → Entry → Option Kind
by_put method e = if same_bytes method (codes "PUT") then e.put else by_delete method e

abbrev by_post : List ℕ → Entry → Option Kind
by_post method e = if same_bytes method (codes "POST") then e.post else by_put method e

kind-fits : (method : List ℕ) (e : Entry) (k : Kind) → Right e → kind_at method e ≡ Some k → Fit method e k
kind-fits method e k r q =
    elim (if-cases (same_bytes method (codes "GET")) e.get (by_post method e) k q) [
      | inl a ↦ same-method method (codes "GET") e k a.0 (is-of (codes "GET") e e.get k r.by_get a.1)
      | inr a ↦ elim (if-cases (same_bytes method (codes "POST")) e.post (by_put method e) k a.1) [
        | inl b ↦ same-method method (codes "POST") e k b.0 (is-of (codes "POST") e e.post k r.by_post b.1)
        | inr b ↦ elim (if-cases (same_bytes method (codes "PUT")) e.put (by_delete method e) k b.1) [
          | inl c ↦ same-method method (codes "PUT") e k c.0 (is-of (codes "PUT") e e.put k r.by_put c.1)
          | inr c ↦ elim (if-cases (same_bytes method (codes "DELETE")) e.delete None k c.1) [
            | inl d ↦ same-method method (codes "DELETE") e k d.0 (is-of (codes "DELETE") e e.delete k r.by_delete d.1)
            | inr d ↦ cc
          ]
        ]
      ]
    ]

-- each row is of some kind
or-cases : (x y : Option Kind) (k : Kind) → or_kind x y ≡ Some k → (x ≡ Some k) ⊎ (y ≡ Some k)
or-cases None y k e = inr e
or-cases (Some j) y k e = inl e

some-fits : (e : Entry) (k : Kind) → Right e → some_kind e ≡ Some k → segments (address_of k).path ≡ [] ∷ segments_of e.parts
some-fits e k r q =
    elim (or-cases e.get (or_kind e.post (or_kind e.put e.delete)) k q) [
      | inl a ↦ (is-of (codes "GET") e e.get k r.by_get a).1
      | inr a ↦ elim (or-cases e.post (or_kind e.put e.delete) k a) [
        | inl b ↦ (is-of (codes "POST") e e.post k r.by_post b).1
        | inr b ↦ elim (or-cases e.put e.delete k b) [
          | inl c ↦ (is-of (codes "PUT") e e.put k r.by_put c).1
          | inr c ↦ (is-of (codes "DELETE") e e.delete k r.by_delete c).1
        ]
      ]
    ]

-- a part of the table reads what its segment does
word-reads : (w : Word) (a : Args) (t : List ℕ) → read_segment (word_text w) a t ≡ cond (same_bytes t (word_text w)) (Some a) None
word-reads word.Members a t = refl
word-reads word.Name a t = refl
word-reads word.Status a t = refl
word-reads word.Macro a t = refl
word-reads word.Contacts a t = refl
word-reads word.Irr a t = refl
word-reads word.Origins a t = refl
word-reads word.Rules a t = refl
word-reads word.Keys a t = refl
word-reads word.Switches a t = refl
word-reads word.Ports a t = refl
word-reads word.Member a t = refl
word-reads word.Vlans a t = refl
word-reads word.Use a t = refl
word-reads word.Interfaces a t = refl
word-reads word.Routers a t = refl
word-reads word.Config a t = refl
word-reads word.Explain a t = refl
word-reads word.Ixf a t = refl
word-reads word.Dump a t = refl
word-reads word.Public a t = refl
word-reads word.Glass a t = refl
word-reads word.Bogons a t = refl
word-reads word.BogonAs a t = refl
word-reads word.Transit a t = refl
word-reads word.Roas a t = refl

part-reads : (p : Part) (a : Args) (t : List ℕ) → is_end p ≡ false → take_part p a t ≡ read_segment (segment_of p) a t
part-reads (part.Is w) a t n = sym (word-reads w a t)
part-reads part.Row a t n = refl
part-reads part.Place a t n = refl
part-reads part.Family a t n = refl
part-reads part.List a t n = refl
part-reads part.Router a t n = refl
part-reads part.End a t n = cc

end-reads : (p : Part) (a : Args) (t : List ℕ) → is_end p ≡ true → take_part p a t ≡ None
end-reads (part.Is w) a t n = cc
end-reads part.Row a t n = cc
end-reads part.Place a t n = cc
end-reads part.Family a t n = cc
end-reads part.List a t n = cc
end-reads part.Router a t n = cc
end-reads part.End a t n = refl

-- the segments behind a first slash
abbrev rest_segments : Option (List ℕ) → List (List ℕ)
rest_segments None = []
rest_segments (Some t) = segments t

first-segment : (t : List ℕ) → segments t ≡ front t ∷ rest_segments (behind t)
first-segment [] = refl
first-segment (b ∷ r) = by (b == 47) (first-segment r)
  where
    by : (v : Bool) → segments r ≡ front r ∷ rest_segments (behind r)
        → cond v ([] ∷ segments r) (onto_first b (segments r)) ≡ cond v [] (b ∷ front r) ∷ rest_segments (cond v (Some r) (behind r))
    by true h = refl
    by false h = rw h refl

only-none : (ps : List Part) → only_ends ps ≡ true → segments_of ps ≡ []
only-none [] e = refl
only-none (p ∷ ps) e =
    let f : is_end p ≡ true = and-left _ _ e in
    rw f (only-none ps (and-right _ _ e))

only-ended : (ps : List Part) → only_ends ps ≡ true → ended ps ≡ true
only-ended [] e = refl
only-ended (p ∷ ps) e =
    let f : is_end p ≡ true = and-left _ _ e in
    rw f (and-right _ _ e)

then-same : (f g : Args → Option Args) (o : Option Args) → ((x : Args) → f x ≡ g x) → option_and_then f o ≡ option_and_then g o
then-same f g None h = refl
then-same f g (Some x) h = h x

reads : (ps : List Part) (a : Args) (o : Option (List ℕ)) → ended ps ≡ true → read a ps o ≡ read_segments a (segments_of ps) (rest_segments o)
reads [] a None e = refl
reads [] a (Some t) e = rw (first-segment t) refl
reads (p ∷ ps) a None e = by (is_end p) e (λ f. reads ps a None f)
  where
    by : (v : Bool) → cond v (only_ends ps) (ended ps) ≡ true → (ended ps ≡ true → read a ps None ≡ read_segments a (segments_of ps) [])
        → cond v (read a ps None) None ≡ read_segments a (cond v (segments_of ps) (segment_of p ∷ segments_of ps)) []
    by true f ih = ih (only-ended ps f)
    by false f ih = refl
reads (p ∷ ps) a (Some t) e = by (is_end p) refl e (λ x f. reads ps x (behind t) f)
  where
    by : (v : Bool) → is_end p ≡ v → cond v (only_ends ps) (ended ps) ≡ true
        → ((x : Args) → ended ps ≡ true → read x ps (behind t) ≡ read_segments x (segments_of ps) (rest_segments (behind t)))
        → option_and_then (λ more. read more ps (behind t)) (take_part p a (front t)) ≡ read_segments a (cond v (segments_of ps) (segment_of p ∷ segments_of ps)) (segments t)
    by true q f ih = rw (end-reads p a (front t) q, only-none ps f, first-segment t) refl
    by false q f ih = rw (part-reads p a (front t) q, first-segment t) (then-same _ _ (read_segment (segment_of p) a (front t)) (λ x. ih x f))

begun-none : (ps : List Part) (a : Args) → begins ps ≡ true → read a ps None ≡ None
begun-none [] a e = cc
begun-none (p ∷ ps) a e = by (is_end p) e
  where
    by : (v : Bool) → not v ≡ true → cond v (read a ps None) None ≡ None
    by true f = cc
    by false f = refl

root-reads : (ps : List Part) (path : List ℕ) → begins ps ≡ true → ended ps ≡ true → read no_args ps (behind_root path) ≡ read_segments no_args ([] ∷ segments_of ps) (segments path)
root-reads ps [] n e = reads ps no_args None e
root-reads ps (b ∷ r) n e = by (b == 47)
  where
    by : (v : Bool) → read no_args ps (cond v (Some r) None) ≡ read_segments no_args ([] ∷ segments_of ps) (cond v ([] ∷ segments r) (onto_first b (segments r)))
    by true = reads ps no_args (Some r) e
    by false = rw (begun-none ps no_args n, first-segment r) refl

row-reads : (e : Entry) (k : Kind) (path : List ℕ) → Right e → segments (address_of k).path ≡ [] ∷ segments_of e.parts
    → read_by (address_of k).path path ≡ read no_args e.parts (behind_root path)
row-reads e k path r q = rw q (sym (root-reads e.parts path r.begun r.done))

-- rows of a table
row-at : (es : List Entry) (i : ℕ) → rows_right es ≡ true → i < length es → row_right (get_or es i no_entry) ≡ true
row-at [] i c l = elim l [ ]
row-at (e ∷ es) zero c l = and-left _ _ c
row-at (e ∷ es) (suc i) c l = row-at es i (and-right _ _ c) (omega arith)

none-at : (es : List Entry) (path : List ℕ) (i : ℕ) → find es path ≡ None → i < length es → read no_args (get_or es i no_entry).parts (behind_root path) ≡ None
none-at [] path i q l = elim l [ ]
none-at (e ∷ es) path i q l = by (read no_args e.parts (behind_root path)) refl q (λ j g m. none-at es path j g m) i l
  where
    by : (o : Option Args) → read no_args e.parts (behind_root path) ≡ o → on_read e o (find es path) ≡ None
        → ((j : ℕ) → find es path ≡ None → j < length es → read no_args (get_or es j no_entry).parts (behind_root path) ≡ None)
        → (j : ℕ) → j < length (e ∷ es) → read no_args (get_or (e ∷ es) j no_entry).parts (behind_root path) ≡ None
    by None f g ih zero m = f
    by None f g ih (suc j) m = ih j g (omega arith)
    by (Some x) f g ih j m = cc

find-row : (es : List Entry) (path : List ℕ) (e : Entry) (x : Args) → rows_right es ≡ true → find es path ≡ Some (e, x)
    → (row_right e ≡ true) × (read no_args e.parts (behind_root path) ≡ Some x)
find-row [] path e x c q = cc
find-row (f ∷ es) path e x c q = by (read no_args f.parts (behind_root path)) refl q (λ g. find-row es path e x (and-right _ _ c) g)
  where
    by : (o : Option Args) → read no_args f.parts (behind_root path) ≡ o → on_read f o (find es path) ≡ Some (e, x)
        → (find es path ≡ Some (e, x) → (row_right e ≡ true) × (read no_args e.parts (behind_root path) ≡ Some x))
        → (row_right e ≡ true) × (read no_args e.parts (behind_root path) ≡ Some x)
    by None g h ih = ih h
    by (Some y) g h ih =
        let s = some_pair_parts f e y x h in
        let t : read no_args f.parts (behind_root path) ≡ Some x = g ∙ ap Some s.1 in
        subst (λ (z : Entry). (row_right z ≡ true) × (read no_args z.parts (behind_root path) ≡ Some x)) s.0 (and-left _ _ c, t)

-- the rows of the table
table-right : rows_right TABLE ≡ true
table-right = refl

found-row : (path : List ℕ) (e : Entry) (x : Args) → found path ≡ Some (e, x) → Right e × (read no_args e.parts (behind_root path) ≡ Some x)
unfolding found
found-row path e x q = let r = find-row TABLE path e x table-right q in (right e r.0, r.1)

found-none : (path : List ℕ) (i : ℕ) → found path ≡ None → i < length TABLE → read no_args (get_or TABLE i no_entry).parts (behind_root path) ≡ None
unfolding found
found-none path i q l = none-at TABLE path i q l

-- whether a row of the table has the path
abbrev has_path : List ℕ → Entry → Bool
has_path path e = same_segments (segments path) ([] ∷ segments_of e.parts)

-- how many rows stand before the one that has it
abbrev rows_before : List ℕ → List Entry → ℕ
rows_before path [] = 0
rows_before path (e ∷ es) = if has_path path e then 0 else suc (rows_before path es)

-- the place of a kind's row
abbrev place_of : Kind → ℕ
place_of k = rows_before (address_of k).path TABLE

abbrev Stands : Kind → Type 0
Stands k = (ltb (place_of k) (length TABLE) ≡ true) × (kind_at (address_of k).method (get_or TABLE (place_of k) no_entry) ≡ Some k)

edit-stands : (e : EditKind) → Stands (kind.Edit e)
edit-stands edit.AddMember = (refl, refl)
edit-stands e = (refl, refl)

question-stands : (q : Question) → Stands (kind.Ask q)
question-stands question.Member = (refl, refl)
question-stands q = (refl, refl)

stands : (k : Kind) → Stands k
stands (kind.Edit e) = edit-stands e
stands (kind.Ask q) = question-stands q
stands k = (refl, refl)

-- the row of a kind
abbrev Row : Kind → Type 0
Row k = (place_of k < length TABLE) × Right (get_or TABLE (place_of k) no_entry) × (segments (address_of k).path ≡ [] ∷ segments_of (get_or TABLE (place_of k) no_entry).parts)

row-of : (k : Kind) → Row k
row-of k =
    let s = stands k in
    let l : place_of k < length TABLE = grind (arith, nat_tests, s.0) in
    let r : Right (get_or TABLE (place_of k) no_entry) = right (get_or TABLE (place_of k) no_entry) (row-at TABLE (place_of k) table-right l) in
    (l, r, (kind-fits (address_of k).method (get_or TABLE (place_of k) no_entry) k r s.1).1)

-- what the table names
look-call : (method path : List ℕ) (k : Kind) (a : Args) → look method path ≡ Call k a → IsCallOf method path k a
look-call method path k a q = by (found path) refl q
  where
    at : (e : Entry) (x : Args) → found path ≡ Some (e, x) → (o : Option Kind) → kind_at method e ≡ o → call_of x o ≡ Call k a → IsCallOf method path k a
    at e x f None h i = cc
    at e x f (Some j) h i =
        let s : j ≡ k = cc in
        let t : x ≡ a = cc in
        let r = found-row path e x f in
        let g = kind-fits method e j r.0 h in
        let c : IsCallOf method path j x = (g.0, row-reads e j path r.0 g.1 ∙ r.1) in
        subst (λ (z : Kind). IsCallOf method path z a) s (subst (λ (z : Args). IsCallOf method path j z) t c)

    by : (o : Option (Entry × Args)) → found path ≡ o → found_of method o ≡ Call k a → IsCallOf method path k a
    by None f g = cc
    by (Some (e, x)) f g = at e x f (kind_at method e) refl g

call-look : (method path : List ℕ) (k : Kind) (a : Args) → AreBytes path → IsCallOf method path k a → look method path ≡ Call k a
call-look method path k a b c =
    let (l, r, q) = row-of k in
    let s = stands k in
    let g : read no_args (get_or TABLE (place_of k) no_entry).parts (behind_root path) ≡ Some a = sym (row-reads (get_or TABLE (place_of k) no_entry) k path r q) ∙ c.1 in
    let f = found-at (place_of k) a path l b g in
    rw (f, c.0, s.1) refl

no-path : (method path : List ℕ) → look method path ≡ NoPath → IsNoPath path
no-path method path q = by (found path) refl q
  where
    at : (x : Args) (o : Option Kind) → call_of x o ≡ NoPath → IsNoPath path
    at x None h = cc
    at x (Some j) h = cc

    by : (o : Option (Entry × Args)) → found path ≡ o → found_of method o ≡ NoPath → IsNoPath path
    by None f g = λ k. let (l, r, e) = row-of k in row-reads (get_or TABLE (place_of k) no_entry) k path r e ∙ found-none path (place_of k) f l
    by (Some (e, x)) f g = at x (kind_at method e) g

path-none : (method path : List ℕ) → IsNoPath path → look method path ≡ NoPath
path-none method path n = by (found path) refl
  where
    at : (e : Entry) (x : Args) → found path ≡ Some (e, x) → (o : Option Kind) → some_kind e ≡ o → found_of method (Some (e, x)) ≡ NoPath
    at e x f None h = let r = found-row path e x f in let u = rw h at r.0.used in cc
    at e x f (Some k) h =
        let r = found-row path e x f in
        let g = row-reads e k path r.0 (some-fits e k r.0 h) ∙ r.1 in
        let m = n k in
        cc

    by : (o : Option (Entry × Args)) → found path ≡ o → found_of method o ≡ NoPath
    by None f = refl
    by (Some (e, x)) f = at e x f (some_kind e) refl

pub calls_by_kind : CallsAreByKind
calls_by_kind method path k a b = (λ q. look-call method path k a q, λ c. call-look method path k a b c)

pub paths_by_kind : PathsAreByKind
paths_by_kind method path = (λ q. no-path method path q, λ n. path-none method path n)
