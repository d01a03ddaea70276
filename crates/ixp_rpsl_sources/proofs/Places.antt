-- What tables have under each name once one is changed.
use Rattle.std.proofs.Common.{◌≡◌, ℕ, ◌++◌, ◌||◌, Bool, true, false, List, [], ◌∷◌, Option, Some, Vec, BTreeMap, Global, bytes_eq, if◌then◌else◌, refl, ap, ◌∙◌, append_assoc}
use Rattle.std.specs.BTreeMap.{UpdatesBy, get_by}
use Rattle.std.specs.Option.{is_some, unwrap_or}
use Rattle.std.specs.Cmp.Lexicographic.{bytes_decides}
use Rattle.ixp_rpsl.specs.Expansion.{is_among}
use Rattle.ixp_rpsl.specs.Lookups.{sought}
use Rattle.ixp_rpsl.proofs.Keys.{changed, in_order}
use Rattle.ixp_rpsl_sources.specs.Told.{places_at}

by_if : {X Y : Type 0} (f : X → Y) (b : Bool) (x z : X) → f (if b then x else z) ≡ (if b then f x else f z)
by_if f true x z = refl
by_if f false x z = refl

pub places_changed : (m n : BTreeMap (Vec ℕ Global) (List ℕ)) (name : List ℕ) (what : Option (List ℕ)) → UpdatesBy in_order (sought name) m n what
    → (q : List ℕ) → places_at n q ≡ (if bytes_eq name q then unwrap_or what [] else places_at m q)
places_changed m n name what h q = ap (λ o. unwrap_or o []) (changed m n name what h q) ∙ by_if (λ o. unwrap_or o []) (bytes_eq name q) what (get_by (sought q) m)

-- where one list is put in the place of another
pub put_back : (old mid new : List ℕ → List ℕ) (name more : List ℕ) → ((q : List ℕ) → mid q ≡ (if bytes_eq name q then [] else old q))
    → ((q : List ℕ) → new q ≡ (if bytes_eq name q then old name ++ more else mid q)) → (q : List ℕ) → new q ≡ (if bytes_eq name q then old q ++ more else old q)
put_back old mid new name more f g q = g q ∙ by_test (bytes_eq name q) refl
  where
    by_test : (b : Bool) → bytes_eq name q ≡ b → (if b then old name ++ more else mid q) ≡ (if b then old q ++ more else old q)
    by_test true e = ap (λ l. old l ++ more) ((bytes_decides name q).0 e)
    by_test false e = f q ∙ ap (λ b. if b then [] else old q) e

-- one more place
pub place_more : (b : Bool) (place : ℕ) (old behind : List ℕ) → (if b then old ++ place ∷ [] else old) ++ behind ≡ old ++ (if b then place ∷ behind else behind)
place_more true place old behind = append_assoc old (place ∷ []) behind
place_more false place old behind = refl

test_of : {X : Type 0} (b : Bool) (x : X) (o : Option X) (rest : Bool) → (is_some (if b then Some x else o) || rest) ≡ (is_some o || (b || rest))
test_of false x o rest = refl
test_of true x o rest = by (is_some o) where
  by : (a : Bool) → true ≡ (a || true)
  by true = refl
  by false = refl

-- one more word is marked
pub word_marked : (m n : BTreeMap (Vec ℕ Global) (Unit {0})) (w : List ℕ) (ws : List (List ℕ)) → UpdatesBy in_order (sought w) m n (Some tt)
    → (q : List ℕ) → (is_some (get_by (sought q) n) || is_among ws q) ≡ (is_some (get_by (sought q) m) || is_among (w ∷ ws) q)
word_marked m n w ws h q = ap (λ o. is_some o || is_among ws q) (changed m n w (Some tt) h q) ∙ test_of (bytes_eq w q) tt (get_by (sought q) m) (is_among ws q)
