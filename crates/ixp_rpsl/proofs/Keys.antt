-- What a table has under each name once one is changed.
use Rattle.std.proofs.Common.{◌≡◌, ℕ, Bool, true, false, List, Option, Some, Vec, BTreeMap, refl, sym, ap, ◌∙◌, subst, if◌then◌else◌, bytes_eq, nat_cmp, is_eq, Global, Ordering, [], ◌∷◌, ◌++◌, ◌||◌, append_assoc}
use Rattle.std.specs.Cmp.Lexicographic.{slice_cmp, bytes_decides, nat_list_cmp_total, nat_list_eq_equiv}
use Rattle.std.specs.Cmp.{eq_by_cmp_equiv}
use Rattle.std.specs.Ordering.{eq_by_cmp}
use Rattle.std.specs.BTreeMap.{get_by, UpdatesBy, is_at}
use Rattle.std.specs.Map.{lookup, IsKeyTest, AreApart, KeepsOthers}
use Rattle.std.proofs.lemmas.Map.Text.{is_eq-slice_cmp}
use Rattle.std.specs.Option.{unwrap_or, is_some}
use Rattle.std.proofs.lemmas.List.Folds.{list_any-append}
use Rattle.ixp_rpsl.specs.Expansion.{has_name}
use Rattle.ixp_rpsl.specs.Breadth.{adds}
use Rattle.ixp_rpsl.specs.declared.objects.Reach.{Reach}
use Rattle.ixp_rpsl.specs.Lookups.{sought, sets_at}

abbrev pub in_order : Vec ℕ Global → Vec ℕ Global → Ordering
in_order a b = slice_cmp nat_cmp a.items b.items

others : {V : Type 0} (old new : List (Vec ℕ Global × V)) (name : List ℕ) → KeepsOthers (eq_by_cmp in_order) (is_at (sought name)) old new
    → (other : Vec ℕ Global → Bool) → IsKeyTest (eq_by_cmp in_order) other → AreApart (is_at (sought name)) other → lookup other new ≡ lookup other old
unfolding KeepsOthers
others old new name h = h

apart : (name q key : List ℕ) → bytes_eq name q ≡ false → is_eq (slice_cmp nat_cmp name key) ≡ true → is_eq (slice_cmp nat_cmp q key) ≡ false
apart name q key other here =
    is_eq-slice_cmp q key ∙ nat_list_eq_equiv.symm q key ∙ sym (nat_list_eq_equiv.congr name key q (sym (is_eq-slice_cmp name key) ∙ here)) ∙ other

pub changed : {V : Type 0} (m n : BTreeMap (Vec ℕ Global) V) (name : List ℕ) (what : Option V) → UpdatesBy in_order (sought name) m n what
    → (q : List ℕ) → get_by (sought q) n ≡ (if bytes_eq name q then what else get_by (sought q) m)
changed {V = V} m n name what h q = by_test (bytes_eq name q) refl
  where
    by_test : (b : Bool) → bytes_eq name q ≡ b → get_by (sought q) n ≡ (if b then what else get_by (sought q) m)
    by_test true e = subst (λ l. get_by (sought l) n ≡ what) ((bytes_decides name q).0 e) h.1
    by_test false e = others {V = V} m.entries n.entries name h.3 (is_at (sought q)) (λ x y. (eq_by_cmp_equiv nat_list_cmp_total).congr q x.items y.items) (λ k. apart name q k.items e)

by_if : {X Y : Type 0} (f : X → Y) (b : Bool) (x z : X) → f (if b then x else z) ≡ (if b then f x else f z)
by_if f true x z = refl
by_if f false x z = refl

-- what is kept under each name once the one of a name is changed
pub sets_changed : (m n : BTreeMap (Vec ℕ Global) (List (List ℕ))) (name : List ℕ) (what : Option (List (List ℕ))) → UpdatesBy in_order (sought name) m n what
    → (q : List ℕ) → sets_at n q ≡ (if bytes_eq name q then unwrap_or what [] else sets_at m q)
sets_changed m n name what h q = ap (λ o. unwrap_or o []) (changed m n name what h q) ∙ by_if (λ o. unwrap_or o []) (bytes_eq name q) what (get_by (sought q) m)

-- where one list is put in the place of another
pub put_back : (old mid new : List ℕ → List (List ℕ)) (name : List ℕ) (more : List (List ℕ)) → ((q : List ℕ) → mid q ≡ (if bytes_eq name q then [] else old q))
    → ((q : List ℕ) → new q ≡ (if bytes_eq name q then old name ++ more else mid q)) → (q : List ℕ) → new q ≡ (if bytes_eq name q then old q ++ more else old q)
put_back old mid new name more f g q = g q ∙ by_test (bytes_eq name q) refl
  where
    by_test : (b : Bool) → bytes_eq name q ≡ b → (if b then old name ++ more else mid q) ≡ (if b then old q ++ more else old q)
    by_test true e = ap (λ l. old l ++ more) ((bytes_decides name q).0 e)
    by_test false e = f q ∙ ap (λ b. if b then [] else old q) e

-- one more object
pub row_more : (b : Bool) (old sets behind : List (List ℕ)) → (if b then old ++ sets else old) ++ behind ≡ old ++ (if b then sets ++ behind else behind)
row_more true old sets behind = append_assoc old sets behind
row_more false old sets behind = refl

-- one more name is marked
pub marked : (m n : BTreeMap (Vec ℕ Global) (Unit {0})) (c : List Reach) (name : List ℕ) (by : ℕ) → UpdatesBy in_order (sought name) m n (Some tt)
    → ((q : List ℕ) → is_some (get_by (sought q) m) ≡ has_name c q) → (q : List ℕ) → is_some (get_by (sought q) n) ≡ has_name (c ++ record { set = name; by = by } ∷ []) q
marked m n c name by h agrees q =
    let x : Reach = record { set = name; by = by } in
    ap is_some (changed m n name (Some tt) h q) ∙ (by_if is_some (bytes_eq name q) (Some tt) (get_by (sought q) m)
    ∙ (ap (λ b. if bytes_eq name q then true else b) (agrees q) ∙ (by_test (has_name c q) (bytes_eq name q) ∙ sym (list_any-append (λ r. bytes_eq r.set q) c (x ∷ [])))))
  where
    by_test : (a b : Bool) → (if b then true else a) ≡ (a || (b || false))
    by_test true true = refl
    by_test true false = refl
    by_test false true = refl
    by_test false false = refl

-- a name is added where it isn't marked
pub added_once : (c : List Reach) (x : Reach) (b : Bool) → has_name c x.set ≡ b → adds c (x ∷ []) ≡ (if b then c else c ++ x ∷ [])
added_once c x b e = ap (λ b. if b then c else c ++ x ∷ []) e
