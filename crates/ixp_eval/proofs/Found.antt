-- What a name finds: the last item before that is of the sort and has the name.
use Rattle.std.proofs.Common.{◌≡◌, ℕ, zero, suc, Bool, true, false, List, [], ◌∷◌, take, reverse, Option, Some, None, refl, sym, ap, ◌∙◌, subst}
use Rattle.std.specs.List.{slice_get}
use Rattle.std.proofs.lemmas.Bool.{cond-true, cond-false}
use Rattle.ixp_lang.specs.declared.item.Ty.{Ty}
use Rattle.ixp_lang.specs.Meaning.{same_name, filter_of, function_of}
use Rattle.ixp_lang.specs.Trees.{ExprTree, StmtTrees, ItemTree, router_id_item, table_item, define_item, function_item, filter_item, device_item, pipe_item, bgp_item}
use Rattle.ixp_eval.specs.declared.search.Before.{Before}
use Rattle.ixp_eval.specs.declared.search.Sort.TheVariants.{Define, Filter, Function}
use Rattle.ixp_eval.specs.Frames.{define_of}
use Rattle.ixp_eval.specs.Indexed.{define_part, filter_part, function_parts, is_of, items_before, items_of}
use Rattle.ixp_eval.specs.Places.{last_place}
use Rattle.ixp_eval.specs.Views.{backwards}
use Rattle.ixp_eval.proofs.Placing.{FoundAt, found_at}

within_take : {X : Type 0} (c p : ℕ) (xs : List X) (x : X) → slice_get (take c xs) p ≡ Some x → slice_get xs p ≡ Some x
within_take zero p xs x h = absurd cc
within_take (suc c) p [] x h = h
within_take (suc c) zero (y ∷ ys) x h = h
within_take (suc c) (suc p) (y ∷ ys) x h = within_take c p ys x h

take_take : {X : Type 0} (c p : ℕ) (xs : List X) (x : X) → slice_get (take c xs) p ≡ Some x → take p (take c xs) ≡ take p xs
take_take zero p xs x h = absurd cc
take_take (suc c) zero xs x h = refl
take_take (suc c) (suc p) [] x h = refl
take_take (suc c) (suc p) (y ∷ ys) x h = ap (λ l. y ∷ l) (take_take c p ys x h)

-- one way to look for a name, from the last item back
module _ {P R : Type 0} (look : List ItemTree → Option R) (test : ItemTree → Bool) (parts : ItemTree → Option P) (whole : List ItemTree → P → R) (nothing : look [] ≡ None)
    (skips : (i : ItemTree) (is : List ItemTree) → test i ≡ false → look (i ∷ is) ≡ look is)
    (hits : (i : ItemTree) (is : List ItemTree) (q : P) → test i ≡ true → parts i ≡ Some q → look (i ∷ is) ≡ Some (whole is q))
    (has : (i : ItemTree) → test i ≡ true → parts i ≡ None → ⊥) (b : Before) where
  found : (o : Option ℕ) → last_place test 0 None (items_before b) ≡ o → FoundAt look test skips (items_before b) o (backwards b)
  found o e = subst (λ p. FoundAt look test skips (items_before b) p (backwards b)) e (found_at look test skips (items_before b))

  pub no_place : last_place test 0 None (items_before b) ≡ None → look (backwards b) ≡ None
  no_place e = found None e ∙ nothing

  same_item : (p : ℕ) (i j : ItemTree) → slice_get (items_of b.index.now) p ≡ Some i → slice_get (items_before b) p ≡ Some j → j ≡ i
  same_item p i j here there =
      let one : ◌≡◌ {A = Option ItemTree} (Some j) (Some i) = sym (within_take b.count p (items_of b.index.now) j there) ∙ here in
      cc

  pub no_item : (p : ℕ) → last_place test 0 None (items_before b) ≡ Some p → slice_get (items_of b.index.now) p ≡ None → {A : Type 0} → A
  no_item p e gone =
      let f = found (Some p) e in
      let bad : ◌≡◌ {A = Option ItemTree} (Some f.0) None = sym (within_take b.count p (items_of b.index.now) f.0 f.1) ∙ gone in
      absurd cc

  pub no_part : (p : ℕ) (i : ItemTree) → last_place test 0 None (items_before b) ≡ Some p → slice_get (items_of b.index.now) p ≡ Some i → parts i ≡ None → {A : Type 0} → A
  no_part p i e here none =
      let f = found (Some p) e in
      let same = same_item p i f.0 here f.1 in
      absurd (has i (subst (λ j. test j ≡ true) same f.2) none)

  pub is_found : (p : ℕ) (i : ItemTree) (q : P) → last_place test 0 None (items_before b) ≡ Some p → slice_get (items_of b.index.now) p ≡ Some i → parts i ≡ Some q
      → look (backwards b) ≡ Some (whole (reverse (take p (items_of b.index.now))) q)
  is_found p i q e here some =
      let f = found (Some p) e in
      let same = same_item p i f.0 here f.1 in
      f.3 ∙ hits f.0 (reverse (take p (items_before b))) q f.2 (ap parts same ∙ some)
      ∙ ap (λ t. Some (whole (reverse t) q)) (take_take b.count p (items_of b.index.now) f.0 f.1)

-- functions

function_skips : (n : List ℕ) (i : ItemTree) (is : List ItemTree) → is_of Function n i ≡ false → function_of (i ∷ is) n ≡ function_of is n
function_skips n (router_id_item a) is h = refl
function_skips n (table_item k m) is h = refl
function_skips n (define_item m e) is h = refl
function_skips n (function_item m ps ss) is h = cond-false (same_name m n) _ _ h
function_skips n (filter_item m ss) is h = refl
function_skips n (device_item m) is h = refl
function_skips n (pipe_item p) is h = refl
function_skips n (bgp_item b) is h = refl

abbrev hit_function : List ItemTree → Option (List (Ty × List ℕ) × StmtTrees) → Option (List ItemTree × List (Ty × List ℕ) × StmtTrees)
hit_function is None = None
hit_function is (Some q) = Some (is, q.0, q.1)

function_hits : (n : List ℕ) (i : ItemTree) (is : List ItemTree) (q : List (Ty × List ℕ) × StmtTrees) → is_of Function n i ≡ true → function_parts i ≡ Some q → function_of (i ∷ is) n ≡ Some (is, q.0, q.1)
function_hits n (router_id_item a) is q h parts = absurd cc
function_hits n (table_item k m) is q h parts = absurd cc
function_hits n (define_item m e) is q h parts = absurd cc
function_hits n (function_item m ps ss) is q h parts = cond-true (same_name m n) _ _ h ∙ ap (λ (o : Option (List (Ty × List ℕ) × StmtTrees)). hit_function is o) parts
function_hits n (filter_item m ss) is q h parts = absurd cc
function_hits n (device_item m) is q h parts = absurd cc
function_hits n (pipe_item p) is q h parts = absurd cc
function_hits n (bgp_item b) is q h parts = absurd cc

function_has : (n : List ℕ) (i : ItemTree) → is_of Function n i ≡ true → function_parts i ≡ None → ⊥
function_has n (router_id_item a) h none = cc
function_has n (table_item k m) h none = cc
function_has n (define_item m e) h none = cc
function_has n (function_item m ps ss) h none = cc
function_has n (filter_item m ss) h none = cc
function_has n (device_item m) h none = cc
function_has n (pipe_item p) h none = cc
function_has n (bgp_item b) h none = cc

module _ (n : List ℕ) (b : Before) where
  pub no_function_place : last_place (is_of Function n) 0 None (items_before b) ≡ None → function_of (backwards b) n ≡ None
  no_function_place = no_place (λ is. function_of is n) (is_of Function n) function_parts (λ is q. (is, q.0, q.1)) refl (function_skips n) (function_hits n) (function_has n) b

  pub no_function_item : (p : ℕ) → last_place (is_of Function n) 0 None (items_before b) ≡ Some p → slice_get (items_of b.index.now) p ≡ None → {A : Type 0} → A
  no_function_item = no_item (λ is. function_of is n) (is_of Function n) function_parts (λ is q. (is, q.0, q.1)) refl (function_skips n) (function_hits n) (function_has n) b

  pub no_function_part : (p : ℕ) (i : ItemTree) → last_place (is_of Function n) 0 None (items_before b) ≡ Some p → slice_get (items_of b.index.now) p ≡ Some i → function_parts i ≡ None → {A : Type 0} → A
  no_function_part = no_part (λ is. function_of is n) (is_of Function n) function_parts (λ is q. (is, q.0, q.1)) refl (function_skips n) (function_hits n) (function_has n) b

  pub function_is_found : (p : ℕ) (i : ItemTree) (q : List (Ty × List ℕ) × StmtTrees) → last_place (is_of Function n) 0 None (items_before b) ≡ Some p → slice_get (items_of b.index.now) p ≡ Some i → function_parts i ≡ Some q
      → function_of (backwards b) n ≡ Some (reverse (take p (items_of b.index.now)), q.0, q.1)
  function_is_found = is_found (λ is. function_of is n) (is_of Function n) function_parts (λ is q. (is, q.0, q.1)) refl (function_skips n) (function_hits n) (function_has n) b

-- defines

define_skips : (n : List ℕ) (i : ItemTree) (is : List ItemTree) → is_of Define n i ≡ false → define_of (i ∷ is) n ≡ define_of is n
define_skips n (router_id_item a) is h = refl
define_skips n (table_item k m) is h = refl
define_skips n (define_item m e) is h = cond-false (same_name m n) _ _ h
define_skips n (function_item m ps ss) is h = refl
define_skips n (filter_item m ss) is h = refl
define_skips n (device_item m) is h = refl
define_skips n (pipe_item p) is h = refl
define_skips n (bgp_item b) is h = refl

abbrev hit_define : List ItemTree → Option (ExprTree) → Option (List ItemTree × ExprTree)
hit_define is None = None
hit_define is (Some q) = Some (is, q)

define_hits : (n : List ℕ) (i : ItemTree) (is : List ItemTree) (q : ExprTree) → is_of Define n i ≡ true → define_part i ≡ Some q → define_of (i ∷ is) n ≡ Some (is, q)
define_hits n (router_id_item a) is q h parts = absurd cc
define_hits n (table_item k m) is q h parts = absurd cc
define_hits n (define_item m e) is q h parts = cond-true (same_name m n) _ _ h ∙ ap (λ (o : Option (ExprTree)). hit_define is o) parts
define_hits n (function_item m ps ss) is q h parts = absurd cc
define_hits n (filter_item m ss) is q h parts = absurd cc
define_hits n (device_item m) is q h parts = absurd cc
define_hits n (pipe_item p) is q h parts = absurd cc
define_hits n (bgp_item b) is q h parts = absurd cc

define_has : (n : List ℕ) (i : ItemTree) → is_of Define n i ≡ true → define_part i ≡ None → ⊥
define_has n (router_id_item a) h none = cc
define_has n (table_item k m) h none = cc
define_has n (define_item m e) h none = cc
define_has n (function_item m ps ss) h none = cc
define_has n (filter_item m ss) h none = cc
define_has n (device_item m) h none = cc
define_has n (pipe_item p) h none = cc
define_has n (bgp_item b) h none = cc

module _ (n : List ℕ) (b : Before) where
  pub no_define_place : last_place (is_of Define n) 0 None (items_before b) ≡ None → define_of (backwards b) n ≡ None
  no_define_place = no_place (λ is. define_of is n) (is_of Define n) define_part (λ is q. (is, q)) refl (define_skips n) (define_hits n) (define_has n) b

  pub no_define_item : (p : ℕ) → last_place (is_of Define n) 0 None (items_before b) ≡ Some p → slice_get (items_of b.index.now) p ≡ None → {A : Type 0} → A
  no_define_item = no_item (λ is. define_of is n) (is_of Define n) define_part (λ is q. (is, q)) refl (define_skips n) (define_hits n) (define_has n) b

  pub no_define_part : (p : ℕ) (i : ItemTree) → last_place (is_of Define n) 0 None (items_before b) ≡ Some p → slice_get (items_of b.index.now) p ≡ Some i → define_part i ≡ None → {A : Type 0} → A
  no_define_part = no_part (λ is. define_of is n) (is_of Define n) define_part (λ is q. (is, q)) refl (define_skips n) (define_hits n) (define_has n) b

  pub define_is_found : (p : ℕ) (i : ItemTree) (q : ExprTree) → last_place (is_of Define n) 0 None (items_before b) ≡ Some p → slice_get (items_of b.index.now) p ≡ Some i → define_part i ≡ Some q
      → define_of (backwards b) n ≡ Some (reverse (take p (items_of b.index.now)), q)
  define_is_found = is_found (λ is. define_of is n) (is_of Define n) define_part (λ is q. (is, q)) refl (define_skips n) (define_hits n) (define_has n) b

-- filters

filter_skips : (n : List ℕ) (i : ItemTree) (is : List ItemTree) → is_of Filter n i ≡ false → filter_of (i ∷ is) n ≡ filter_of is n
filter_skips n (router_id_item a) is h = refl
filter_skips n (table_item k m) is h = refl
filter_skips n (define_item m e) is h = refl
filter_skips n (function_item m ps ss) is h = refl
filter_skips n (filter_item m ss) is h = cond-false (same_name m n) _ _ h
filter_skips n (device_item m) is h = refl
filter_skips n (pipe_item p) is h = refl
filter_skips n (bgp_item b) is h = refl

abbrev hit_filter : List ItemTree → Option (StmtTrees) → Option (List ItemTree × StmtTrees)
hit_filter is None = None
hit_filter is (Some q) = Some (is, q)

filter_hits : (n : List ℕ) (i : ItemTree) (is : List ItemTree) (q : StmtTrees) → is_of Filter n i ≡ true → filter_part i ≡ Some q → filter_of (i ∷ is) n ≡ Some (is, q)
filter_hits n (router_id_item a) is q h parts = absurd cc
filter_hits n (table_item k m) is q h parts = absurd cc
filter_hits n (define_item m e) is q h parts = absurd cc
filter_hits n (function_item m ps ss) is q h parts = absurd cc
filter_hits n (filter_item m ss) is q h parts = cond-true (same_name m n) _ _ h ∙ ap (λ (o : Option (StmtTrees)). hit_filter is o) parts
filter_hits n (device_item m) is q h parts = absurd cc
filter_hits n (pipe_item p) is q h parts = absurd cc
filter_hits n (bgp_item b) is q h parts = absurd cc

filter_has : (n : List ℕ) (i : ItemTree) → is_of Filter n i ≡ true → filter_part i ≡ None → ⊥
filter_has n (router_id_item a) h none = cc
filter_has n (table_item k m) h none = cc
filter_has n (define_item m e) h none = cc
filter_has n (function_item m ps ss) h none = cc
filter_has n (filter_item m ss) h none = cc
filter_has n (device_item m) h none = cc
filter_has n (pipe_item p) h none = cc
filter_has n (bgp_item b) h none = cc

module _ (n : List ℕ) (b : Before) where
  pub no_filter_place : last_place (is_of Filter n) 0 None (items_before b) ≡ None → filter_of (backwards b) n ≡ None
  no_filter_place = no_place (λ is. filter_of is n) (is_of Filter n) filter_part (λ is q. (is, q)) refl (filter_skips n) (filter_hits n) (filter_has n) b

  pub no_filter_item : (p : ℕ) → last_place (is_of Filter n) 0 None (items_before b) ≡ Some p → slice_get (items_of b.index.now) p ≡ None → {A : Type 0} → A
  no_filter_item = no_item (λ is. filter_of is n) (is_of Filter n) filter_part (λ is q. (is, q)) refl (filter_skips n) (filter_hits n) (filter_has n) b

  pub no_filter_part : (p : ℕ) (i : ItemTree) → last_place (is_of Filter n) 0 None (items_before b) ≡ Some p → slice_get (items_of b.index.now) p ≡ Some i → filter_part i ≡ None → {A : Type 0} → A
  no_filter_part = no_part (λ is. filter_of is n) (is_of Filter n) filter_part (λ is q. (is, q)) refl (filter_skips n) (filter_hits n) (filter_has n) b

  pub filter_is_found : (p : ℕ) (i : ItemTree) (q : StmtTrees) → last_place (is_of Filter n) 0 None (items_before b) ≡ Some p → slice_get (items_of b.index.now) p ≡ Some i → filter_part i ≡ Some q
      → filter_of (backwards b) n ≡ Some (reverse (take p (items_of b.index.now)), q)
  filter_is_found = is_found (λ is. filter_of is n) (is_of Filter n) filter_part (λ is q. (is, q)) refl (filter_skips n) (filter_hits n) (filter_has n) b
