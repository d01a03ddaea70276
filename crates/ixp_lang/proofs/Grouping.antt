-- A map after one name's values were set.
use Rattle.std.proofs.Common.{◌≡◌, ◌⊎◌, inl, inr, ℕ, Bool, true, false, if◌then◌else◌, List, [], ◌∷◌, ◌++◌, Option, Bor, nat_cmp, bytes_eq, refl, sym, ap, ◌∙◌}
use Rattle.std.proofs.lemmas.Bool.{cases_Bool, cond-true, cond-false}
use Rattle.std.specs.Cmp.Lexicographic.{same_text, slice_cmp}
use Rattle.ixp_lang.specs.Meaning.{same_name}
use Rattle.ixp_lang.proofs.SameNames.{same_bytes}
use Rattle.std.specs.BTreeMap.{BTreeMap, UpdatesBy, get_by}
use Rattle.std.specs.declared.cmp.Ordering.{Ordering}
use Rattle.std.specs.Global.{Vec}
use Rattle.std.proofs.lemmas.Map.Text.{btree_map_updates_str}
use Rattle.ixp_lang.specs.Values.{values_in, values_or_none}

pub same_is : (m n : List ℕ) → same_name m n ≡ true → m ≡ n
same_is m n e = same_text m n (sym (same_bytes m n ∙ e))

abbrev by_names : Bor (List ℕ) → Bor (List ℕ) → Ordering
by_names x y = slice_cmp nat_cmp x.now y.now

-- the values of each name, after those of one name were set
pub values_after : {T : Type 0} (m n : BTreeMap (Bor (List ℕ)) (Vec T)) (name : List ℕ) (values : Option (Vec T)) → UpdatesBy by_names (λ key. slice_cmp nat_cmp name key.now) m n values
    → (q : List ℕ) → values_in n q ≡ (if same_name name q then values_or_none values else values_in m q)
values_after m n name values h q = ap values_or_none (btree_map_updates_str name m n values h q) ∙ by_test (bytes_eq name q) ∙ ap (λ b. if b then values_or_none values else values_in m q) (same_bytes name q) where
  by_test : (b : Bool) → values_or_none (if b then values else get_by (λ key. slice_cmp nat_cmp q key.now) m) ≡ (if b then values_or_none values else values_in m q)
  by_test true = refl
  by_test false = refl

-- a value more at the end of those of one name
pub value_added : {T : Type 0} (old less new : List ℕ → List T) (name : List ℕ) (values more : List T) (value : T) → values ≡ old name → more ≡ values ++ value ∷ []
    → ((q : List ℕ) → less q ≡ (if same_name name q then [] else old q)) → ((q : List ℕ) → new q ≡ (if same_name name q then more else less q))
    → (q : List ℕ) → new q ≡ (if same_name name q then old q ++ value ∷ [] else old q)
value_added old less new name values more value had added taken put q = by_case (cases_Bool (same_name name q)) where
  by_case : (same_name name q ≡ true) ⊎ (same_name name q ≡ false) → new q ≡ (if same_name name q then old q ++ value ∷ [] else old q)
  by_case (inl is) = put q ∙ cond-true (same_name name q) _ _ is ∙ added ∙ ap (λ r. r ++ value ∷ []) (had ∙ ap old (same_is name q is)) ∙ sym (cond-true (same_name name q) _ _ is)
  by_case (inr other) = put q ∙ cond-false (same_name name q) _ _ other ∙ taken q ∙ cond-false (same_name name q) _ _ other ∙ sym (cond-false (same_name name q) _ _ other)
