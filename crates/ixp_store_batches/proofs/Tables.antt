-- What becomes of the rows of a table by a change of it.
use Rattle.std.proofs.Common.{◌≡◌, ℕ, List, [], ◌∷◌, ◌++◌, map, flat_map, Option, Some, None, refl, sym, ap, subst, ◌∙◌}
use Rattle.std.specs.declared.cmp.Ordering.{Ordering}
use Rattle.std.specs.declared.cmp.Ordering.TheVariants.{Less, Equal, Greater}
use Rattle.std.specs.Ordering.{match_ordering}
use Rattle.std.specs.List.{AllByRecursion}
use Rattle.ixp_num_tables.specs.Tables.{order, Ascends, find, put, without}
use Rattle.ixp_num_tables.proofs.Places.{find_above, above_greater, above_equal, without_above}
use Rattle.ixp_registry_change.specs.declared.change.TableChange.{TableChange}
use Rattle.ixp_registry_change.specs.declared.change.TableChange.TheVariants.{Keep, Put, Take}
use Rattle.ixp_registry_change.specs.Changes.{changed_rows}
use Rattle.ixp_store_rows.specs.Names.{Entry}
use Rattle.ixp_store_batches.specs.Batches.{old_row, new_row, entries_of}
use Rattle.ixp_store_batches.proofs.Scripts.{Script, done, unchanged, in_front, before, replaced}

module _ {R : Type 0} (key : R → List ℕ) (f : R → List Entry) where
  -- a row is put in: what it replaces, if anything, becomes what it is
  pub script_put :
      (r : R) (rs : List R) (old new : List Entry) → Ascends key rs → Script (entries_of f (find key (key r) rs)) (f r) old new
      → Script (flat_map f rs) (flat_map f (put key r rs)) old new
  script_put r [] old new up s = before [] (f r) old new [] s
  script_put r (x ∷ rs) old new up s = by_order (script_put r rs old new up.1) (order (key x) (key r)) refl
    where
      by_order : (Script (entries_of f (find key (key r) rs)) (f r) old new → Script (flat_map f rs) (flat_map f (put key r rs)) old new) → (o : Ordering) → order (key x) (key r) ≡ o → Script (flat_map f (x ∷ rs)) (flat_map f (put key r (x ∷ rs))) old new
      by_order more Less is =
          let found : find key (key r) (x ∷ rs) ≡ find key (key r) rs = ap (λ o. match_ordering o (find key (key r) rs) (Some x) (find key (key r) rs)) is in
          let here : put key r (x ∷ rs) ≡ x ∷ put key r rs = ap (λ o. match_ordering o (x ∷ put key r rs) (r ∷ rs) (r ∷ x ∷ rs)) is in
          let inner : Script (entries_of f (find key (key r) rs)) (f r) old new = subst (λ (o : Option R). Script (entries_of f o) (f r) old new) found s in
          subst (λ (l : List R). Script (flat_map f (x ∷ rs)) (flat_map f l) old new) (sym here)
          (in_front (f x) (flat_map f rs) (flat_map f (put key r rs)) old new (more inner))
      by_order more Equal is =
          let found : find key (key r) (x ∷ rs) ≡ Some x = ap (λ o. match_ordering o (find key (key r) rs) (Some x) (find key (key r) rs)) is in
          let here : put key r (x ∷ rs) ≡ r ∷ rs = ap (λ o. match_ordering o (x ∷ put key r rs) (r ∷ rs) (r ∷ x ∷ rs)) is in
          let inner : Script (f x) (f r) old new = subst (λ (o : Option R). Script (entries_of f o) (f r) old new) found s in
          subst (λ (l : List R). Script (flat_map f (x ∷ rs)) (flat_map f l) old new) (sym here) (before (f x) (f r) old new (flat_map f rs) inner)
      by_order more Greater is =
          let found : find key (key r) (x ∷ rs) ≡ None =
          ap (λ o. match_ordering o (find key (key r) rs) (Some x) (find key (key r) rs)) is ∙ find_above key (key r) rs (above_greater key x (key r) rs is up.0) in
          let here : put key r (x ∷ rs) ≡ r ∷ x ∷ rs = ap (λ o. match_ordering o (x ∷ put key r rs) (r ∷ rs) (r ∷ x ∷ rs)) is in
          let inner : Script [] (f r) old new = subst (λ (o : Option R). Script (entries_of f o) (f r) old new) found s in
          subst (λ (l : List R). Script (flat_map f (x ∷ rs)) (flat_map f l) old new) (sym here) (before [] (f r) old new (flat_map f (x ∷ rs)) inner)

  -- a row is taken out
  pub script_without : (k : List ℕ) (rs : List R) → Ascends key rs → Script (flat_map f rs) (flat_map f (without key k rs)) (entries_of f (find key k rs)) []
  script_without k [] up = done
  script_without k (x ∷ rs) up = by_order (in_front (f x) (flat_map f rs) (flat_map f (without key k rs)) (entries_of f (find key k rs)) [] (script_without k rs up.1)) (order (key x) k) refl
    where
      Goal : List R → Option R → Type 0
      Goal l o = Script (flat_map f (x ∷ rs)) (flat_map f l) (entries_of f o) []

      by_order : Script (flat_map f (x ∷ rs)) (flat_map f (x ∷ without key k rs)) (entries_of f (find key k rs)) [] → (o : Ordering) → order (key x) k ≡ o → Goal (without key k (x ∷ rs)) (find key k (x ∷ rs))
      by_order other Less is =
          subst (λ (o : Ordering). Goal (match_ordering o (x ∷ without key k rs) (without key k rs) (x ∷ without key k rs)) (match_ordering o (find key k rs) (Some x) (find key k rs))) (sym is) other
      by_order other Greater is =
          subst (λ (o : Ordering). Goal (match_ordering o (x ∷ without key k rs) (without key k rs) (x ∷ without key k rs)) (match_ordering o (find key k rs) (Some x) (find key k rs))) (sym is) other
      by_order other Equal is =
          subst (λ (o : Ordering). Goal (match_ordering o (x ∷ without key k rs) (without key k rs) (x ∷ without key k rs)) (match_ordering o (find key k rs) (Some x) (find key k rs))) (sym is)
          (subst (λ (l : List R). Goal l (Some x)) (sym (without_above key k rs (above_equal key x k rs is up.0)))
          (before (f x) [] (f x) [] (flat_map f rs) (replaced (f x) [])))

  pub script_change :
      {K : Type 0} → (named : K → List ℕ) (c : TableChange R K) (rs : List R) → Ascends key rs
      → Script (flat_map f rs) (flat_map f (changed_rows key named c rs)) (entries_of f (old_row key named c rs)) (entries_of f (new_row c))
  script_change named Keep rs up = unchanged (flat_map f rs)
  script_change named (Put r) rs up =
      script_put r rs (entries_of f (find key (key r) rs)) (f r) up (replaced (entries_of f (find key (key r) rs)) (f r))
  script_change named (Take k) rs up = script_without (named k) rs up

-- one row of a store for each row of a table
map_flat : {R : Type 0} (g : R → Entry) (rs : List R) → flat_map (λ r. g r ∷ []) rs ≡ map g rs
map_flat g [] = refl
map_flat g (r ∷ rs) = ap (λ es. g r ∷ es) (map_flat g rs)

pub script_of_map :
    {R : Type 0} (g : R → Entry) (xs ys : List R) (old new : List Entry) → Script (flat_map (λ r. g r ∷ []) xs) (flat_map (λ r. g r ∷ []) ys) old new
    → Script (map g xs) (map g ys) old new
script_of_map g xs ys old new s =
    subst (λ es. Script es (map g ys) old new) (map_flat g xs) (subst (λ es. Script (flat_map (λ r. g r ∷ []) xs) es old new) (map_flat g ys) s)

pub script_change_one :
    {R K : Type 0} (key : R → List ℕ) (g : R → Entry) (named : K → List ℕ) (c : TableChange R K) (rs : List R) → Ascends key rs
    → Script (map g rs) (map g (changed_rows key named c rs)) (entries_of (λ r. g r ∷ []) (old_row key named c rs)) (entries_of (λ r. g r ∷ []) (new_row c))
script_change_one key g named c rs up =
    script_of_map g rs (changed_rows key named c rs) (entries_of (λ r. g r ∷ []) (old_row key named c rs)) (entries_of (λ r. g r ∷ []) (new_row c))
    (script_change key (λ r. g r ∷ []) named c rs up)
