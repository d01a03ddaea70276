-- What a search by name finds among rows that ascend.
use Rattle.std.proofs.Common.{◌≡◌, ◌≢◌, ◌↔◌, ◌⊎◌, inl, inr, ℕ, zero, suc, ◌<◌, ◌≤◌, true, false, List, [], ◌∷◌, length, map, get_or, Result, Ok, Err, refl, sym, ap, ◌∙◌, subst, arith}
use Rattle.std.specs.List.{AllByRecursion, AllWithin}
use Rattle.std.specs.List.Sorted.{IsBinarySearchResult, IsSearchInRange}
use Rattle.std.specs.Ordering.{ordering_index}
use Rattle.std.specs.Result.{is_ok}
use Rattle.std.specs.declared.cmp.Ordering.{Ordering}
use Rattle.std.specs.declared.cmp.Ordering.TheVariants.{Less, Equal, Greater}
use Rattle.ixp_io.specs.declared.keeper.Row.{Row}
use Rattle.ixp_io.specs.declared.keeper.RowName.{RowName}
use Rattle.ixp_io.specs.Tables.{name_bytes, row_entry}
use Rattle.ixp_num_tables.specs.Tables.{order, Ascends}
use Rattle.ixp_num_tables.proofs.Orders.{as_equal_right, chained, order_equal, order_same}
use Rattle.ixp_store_rows.specs.Names.{Entry}
use Rattle.ixp_store_damage.specs.Damages.{HasName}
use Rattle.ixp_store_words.specs.Opening.{entry_name}
use Rattle.ixp_store_words.specs.Sorting.{Has}
use Rattle.ixp_store_damage.proofs.Walks.{either_way}

less_equal : ◌≡◌ {A = Ordering} Less Equal → ⊥
less_equal e = cc

greater_equal : ◌≡◌ {A = Ordering} Greater Equal → ⊥
greater_equal e = cc

-- two names, the first below the second, beside a third one
beside : (a b k : List ℕ) → order a b ≡ Less → ordering_index (order a k) ≤ ordering_index (order b k)
beside a b k less = by_order (order a k) (order b k) refl refl
  where
    never : (o : Ordering) → order a k ≡ o → o ≢ Less → order b k ≡ Less → ⊥
    never o e other below = other (sym e ∙ chained a b k less below)

    by_order : (o p : Ordering) → order a k ≡ o → order b k ≡ p → ordering_index o ≤ ordering_index p
    by_order Less p e f = omega arith
    by_order Equal Less e f = absurd (never Equal e (λ bad. less_equal (sym bad)) f)
    by_order Equal Equal e f = omega arith
    by_order Equal Greater e f = omega arith
    by_order Greater Less e f = absurd (never Greater e (λ bad. absurd (let same : ◌≡◌ {A = Ordering} Greater Less = bad in cc)) f)
    by_order Greater Equal e f = absurd (let same : ◌≡◌ {A = Ordering} Less Greater = sym less ∙ (as_equal_right b k a f ∙ e) in cc)
    by_order Greater Greater e f = omega arith

all_at : (P : Entry → Type 0) (rows : List Row) → AllByRecursion P (map row_entry rows) → (j : ℕ) (d : Row) → j < length rows → P (row_entry (get_or rows j d))
all_at P [] all j d lt = absurd (omega (arith, lt))
all_at P (x ∷ xs) all zero d lt = all.0
all_at P (x ∷ xs) all (suc j) d lt = all_at P xs all.1 j d (omega (arith, lt))

module _ (name : RowName) where
  abbrev cmp : Row → Ordering
  cmp row = order (name_bytes row.name) (name_bytes name)

  rise : (rows : List Row) → Ascends entry_name (map row_entry rows) → (i j : ℕ) (d : Row) → i ≤ j → j < length rows → ordering_index (cmp (get_or rows i d)) ≤ ordering_index (cmp (get_or rows j d))
  rise [] up i j d le lt = absurd (omega (arith, lt))
  rise (x ∷ xs) up zero zero d le lt = omega arith
  rise (x ∷ xs) up zero (suc j) d le lt =
      beside (name_bytes x.name) (name_bytes (get_or xs j d).name) (name_bytes name) (all_at (λ e. order (name_bytes x.name) (name_bytes e.0) ≡ Less) xs up.0 j d (omega (arith, lt)))
  rise (x ∷ xs) up (suc i) zero d le lt = absurd (omega (arith, le))
  rise (x ∷ xs) up (suc i) (suc j) d le lt = rise xs up.1 i j d (omega (arith, le)) (omega (arith, lt))

  same_name : (x : Row) → cmp x ≡ Equal → x.name ≡ name
  same_name x e =
      let bytes = order_equal (name_bytes x.name) (name_bytes name) e in
      let kind : x.name.kind ≡ name.kind = cc in
      let key : x.name.key ≡ name.key = cc in
      (λ i. record { kind = kind i; key = key i })

  there : (rows : List Row) (i : ℕ) → i < length rows → ((d : Row) → cmp (get_or rows i d) ≡ Equal) → HasName (map row_entry rows) name
  there [] i lt equal = absurd (omega (arith, lt))
  there (x ∷ xs) zero lt equal = let is = same_name x (equal x) in (x.body, inl (λ i. (sym is i, x.body)))
  there (x ∷ xs) (suc i) lt equal = let h = there xs i (omega (arith, lt)) equal in (h.0, inr h.1)

  not_there : (rows : List Row) → ((j : ℕ) (d : Row) → j < length rows → cmp (get_or rows j d) ≢ Equal) → (body : List ℕ) → Has (map row_entry rows) (name, body) → ⊥
  not_there [] other body has = has
  not_there (x ∷ xs) other body (inl e) = other 0 x (omega arith) (subst (λ n. order (name_bytes n) (name_bytes name) ≡ Equal) (ap (λ (y : Entry). y.0) e) (order_same (name_bytes name)))
  not_there (x ∷ xs) other body (inr has) = not_there xs (λ j d lt. other (suc j) d (omega (arith, lt))) body has

  pub name_found : (rows : List Row) (r : Result ℕ ℕ) → IsSearchInRange r (length rows) → IsBinarySearchResult cmp rows r → Ascends entry_name (map row_entry rows) → (is_ok r ≡ true) ↔ HasName (map row_entry rows) name
  name_found rows (Ok i) within equal up = ((λ ok. there rows i within equal), (λ has. refl))
  name_found rows (Err i) within parted up = ((λ ok. absurd (let bad : false ≡ true = ok in cc)), (λ has. absurd (not_there rows other has.0 has.1)))
    where
      both : AllWithin (λ y. cmp y ≡ Less) rows 0 i × AllWithin (λ y. cmp y ≡ Greater) rows i (length rows)
      both = parted (rise rows up)

      other : (j : ℕ) (d : Row) → j < length rows → cmp (get_or rows j d) ≢ Equal
      other j d lt = by_way (either_way i j)
        where
          by_way : (j < i) ⊎ (i ≤ j) → cmp (get_or rows j d) ≢ Equal
          by_way (inl low) e = less_equal (sym (both.0 j d (omega arith) low) ∙ e)
          by_way (inr high) e = greater_equal (sym (both.1 j d high lt) ∙ e)
