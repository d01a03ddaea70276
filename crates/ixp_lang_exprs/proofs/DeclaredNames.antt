-- What stands under each name once one is declared.
use Rattle.std.proofs.Common.{◌≡◌, ℕ, Bool, true, false, List, Option, Some, None, Vec, BTreeMap, refl, sym, ap, ◌∙◌, subst, if◌then◌else◌, bytes_eq, nat_cmp, is_eq, Global, Ordering}
use Rattle.std.specs.Cmp.Lexicographic.{slice_cmp, bytes_decides, nat_list_cmp_total, nat_list_eq_equiv}
use Rattle.std.specs.Cmp.{eq_by_cmp_equiv}
use Rattle.std.specs.Ordering.{eq_by_cmp}
use Rattle.std.specs.BTreeMap.{get_by, UpdatesBy, is_at}
use Rattle.std.specs.Map.{lookup, IsKeyTest, AreApart, KeepsOthers}
use Rattle.std.proofs.lemmas.Map.Text.{is_eq-slice_cmp}
use Rattle.ixp_lang_exprs.specs.declared.env.Declared.{Declared}

abbrev pub in_order : Vec ℕ Global → Vec ℕ Global → Ordering
in_order a b = slice_cmp nat_cmp a.items b.items

abbrev pub sought : List ℕ → Vec ℕ Global → Ordering
sought name key = slice_cmp nat_cmp name key.items

others : (old new : List (Vec ℕ Global × Declared)) (name : List ℕ) → KeepsOthers (eq_by_cmp in_order) (is_at (sought name)) old new
    → (other : Vec ℕ Global → Bool) → IsKeyTest (eq_by_cmp in_order) other → AreApart (is_at (sought name)) other → lookup other new ≡ lookup other old
unfolding KeepsOthers
others old new name h = h

apart : (name q key : List ℕ) → bytes_eq name q ≡ false → is_eq (slice_cmp nat_cmp name key) ≡ true → is_eq (slice_cmp nat_cmp q key) ≡ false
apart name q key other here =
    is_eq-slice_cmp q key ∙ nat_list_eq_equiv.symm q key ∙ sym (nat_list_eq_equiv.congr name key q (sym (is_eq-slice_cmp name key) ∙ here)) ∙ other

pub declared_name : (m n : BTreeMap (Vec ℕ Global) Declared) (name : List ℕ) (what : Declared) → UpdatesBy in_order (sought name) m n (Some what)
    → (q : List ℕ) → get_by (sought q) n ≡ (if bytes_eq name q then Some what else get_by (sought q) m)
declared_name m n name what h q = by_test (bytes_eq name q) refl
  where
    by_test : (b : Bool) → bytes_eq name q ≡ b → get_by (sought q) n ≡ (if b then Some what else get_by (sought q) m)
    by_test true e = subst (λ l. get_by (sought l) n ≡ Some what) ((bytes_decides name q).0 e) h.1
    by_test false e = others m.entries n.entries name h.3 (is_at (sought q)) (λ x y. (eq_by_cmp_equiv nat_list_cmp_total).congr q x.items y.items) (λ k. apart name q k.items e)
