-- Right rows that are the dump of a registry are the rows of that registry.
use Rattle.std.proofs.Common.{◌≡◌, ◌≢◌, ℕ, suc, ◌<◌, Bool, true, false, List, [], ◌∷◌, ◌++◌, map, flat_map, take, refl, sym, ap, ◌∙◌, subst, arith}
use Rattle.std.specs.List.{AllByRecursion, IsDistinct}
use Rattle.std.specs.List.Sorted.{IsPermutation}
use Rattle.std.proofs.lemmas.Map.Keys.{IsDistinct-head, IsDistinct-tail}
use Rattle.ixp_num.specs.AddressForms.{version_of}
use Rattle.ixp_io.specs.declared.keeper.RowName.{RowName}
use Rattle.ixp_io.specs.Tables.{name_bytes}
use Rattle.ixp_num_tables.specs.Tables.{same}
use Rattle.ixp_num_tables.proofs.AllItems.{all_joined}
use Rattle.ixp_num_tables.proofs.Counts.{same_itself}
use Rattle.ixp_num_tables.proofs.Orders.{all_weaker}
use Rattle.ixp_registry.specs.declared.kind.Kind.{Kind}
use Rattle.ixp_rows_lines.specs.declared.version.Version.TheVariants.{Two}
use Rattle.ixp_rows_lines.specs.Fields.{Field, Number, AllFit}
use Rattle.ixp_rows_lines.specs.Lines.{Line, form_of, place_of, text_of}
use Rattle.ixp_rows.specs.Reading.{key_in}
use Rattle.ixp_store_rows.specs.Names.{Entry, fields_row, name_fields, name_of, version_name}
use Rattle.ixp_store_damage.specs.Damages.{IsRowOf}
use Rattle.ixp_store_damage.specs.Loading.{kind_rows}
use Rattle.ixp_store_words.specs.Opening.{entry_name}
use Rattle.ixp_store_damage.specs.Placing.{AreSections}
use Rattle.ixp_store_words.specs.Sorting.{distinct_by}
use Rattle.ixp_store_damage.specs.Walking.{is_listed}
use Rattle.ixp_store_damage.proofs.DumpOfRows.{AreRight, all_lines, line_in, lines_own, lines_made, own_right, own_apart, Follow, made_above}
use Rattle.ixp_store_damage.proofs.RowLines.{lines_of, lines_in, never_none, lines_are, begins_with}
use Rattle.ixp_store_damage.proofs.Walks.{row_plain, row_listed}

-- two lists in which items of a sort stand in front and none of it behind have the same fronts where they are the same
module _ {X : Type 0} where
  head_is : (x y : X) (xs ys : List X) → x ∷ xs ≡ y ∷ ys → x ≡ y
  head_is x y xs ys e = cc

  tail_is : (x y : X) (xs ys : List X) → x ∷ xs ≡ y ∷ ys → xs ≡ ys
  tail_is x y xs ys e = cc

  fronts_same : (P : X → Type 0) (xs ys us vs : List X) → xs ++ us ≡ ys ++ vs → AllByRecursion P xs → AllByRecursion P ys → AllByRecursion (λ x. P x → ⊥) us → AllByRecursion (λ x. P x → ⊥) vs → (xs ≡ ys) × (us ≡ vs)
  fronts_same P [] [] us vs e a b c d = (refl, e)
  fronts_same P [] (y ∷ ys) [] vs e a b c d = absurd (never_none y (ys ++ vs) (sym e))
  fronts_same P [] (y ∷ ys) (u ∷ us) vs e a b c d = absurd (c.0 (subst P (sym (head_is u y us (ys ++ vs) e)) b.0))
  fronts_same P (x ∷ xs) [] us [] e a b c d = absurd (never_none x (xs ++ us) e)
  fronts_same P (x ∷ xs) [] us (v ∷ vs) e a b c d = absurd (d.0 (subst P (head_is x v (xs ++ us) vs e) a.0))
  fronts_same P (x ∷ xs) (y ∷ ys) us vs e a b c d =
      let first = head_is x y (xs ++ us) (ys ++ vs) e in
      let more = fronts_same P xs ys us vs (tail_is x y (xs ++ us) (ys ++ vs) e) a.1 b.1 c d in
      ((λ i. first i ∷ more.0 i), more.1)

-- which row a line is in
module _ (kind : Kind) where
  abbrev by_numbers : List ℕ → RowName
  by_numbers [] = version_name
  by_numbers (m ∷ []) = version_name
  by_numbers (m ∷ v ∷ more) = name_of kind (Number m ∷ Number v ∷ [])

  abbrev named_by : Bool → List Field → RowName
  named_by true fields = by_numbers (key_in kind fields)
  named_by false fields = name_of kind (name_fields kind fields)

  abbrev named : List Field → RowName
  named fields = named_by (is_listed kind) fields

  lines_named : (e : Entry) (is : IsRowOf kind e) → AllByRecursion (λ fields. named fields ≡ e.0) (lines_in kind e is)
  unfolding fields_row
  lines_named e is = by_form (is_listed kind) refl
    where
      by_form : (b : Bool) (at : is_listed kind ≡ b) → AllByRecursion (λ fields. named_by b fields ≡ e.0) (lines_of kind b at e is)
      by_form true at =
          let l = row_listed kind e at is in
          all_weaker (λ fields. AllFit (form_of Two kind) fields × (take 2 (key_in kind fields) ≡ l.member ∷ version_of l.family ∷ [])) (λ fields. by_numbers (key_in kind fields) ≡ e.0)
          (λ fields both. ap by_numbers (begins_with l.member (version_of l.family) (key_in kind fields) both.1).is ∙ ap (λ (x : Entry). x.0) (sym l.row)) l.lines l.each
      by_form false at = (ap (λ (x : Entry). x.0) (sym (row_plain kind e at is).2), tt)

  rebuilt : (e f : Entry) (a : IsRowOf kind e) (b : IsRowOf kind f) → e.0 ≡ f.0 → lines_in kind e a ≡ lines_in kind f b → e ≡ f
  rebuilt e f a b name lines = by_form (is_listed kind) refl lines
    where
      by_form : (listed : Bool) (at : is_listed kind ≡ listed) → lines_of kind listed at e a ≡ lines_of kind listed at f b → e ≡ f
      by_form true at same =
          let body : e.1 ≡ f.1 = ap (λ (x : Entry). x.1) (row_listed kind e at a).row ∙ (ap (flat_map (text_of kind)) same ∙ ap (λ (x : Entry). x.1) (sym (row_listed kind f at b).row)) in
          (λ i. (name i, body i))
      by_form false at same = (row_plain kind e at a).2 ∙ (ap (fields_row kind) (head_is (row_plain kind e at a).0 (row_plain kind f at b).0 [] [] same) ∙ sym (row_plain kind f at b).2)

  other_names : (e : Entry) (es : List Entry) (all : AllByRecursion (IsRowOf kind) es) → AllByRecursion (λ f. same (entry_name e) (entry_name f) ≡ false) es → AllByRecursion (λ fields. named fields ≡ e.0 → ⊥) (all_lines kind es all)
  other_names e [] all apart = tt
  other_names e (f ∷ fs) all apart =
      all_joined (λ fields. named fields ≡ e.0 → ⊥) (lines_in kind f all.0) (all_lines kind fs all.1)
      (all_weaker (λ fields. named fields ≡ f.0) (λ fields. named fields ≡ e.0 → ⊥) (λ fields is at. never (sym at ∙ is)) (lines_in kind f all.0) (lines_named f all.0)) (other_names e fs all.1 apart.1)
    where
      never : e.0 ≡ f.0 → ⊥
      never is = let bad : true ≡ false = sym (same_itself (entry_name e)) ∙ (ap (λ n. same (entry_name e) (name_bytes n)) is ∙ apart.0) in cc

  same_name : (e f : Entry) (a : IsRowOf kind e) (b : IsRowOf kind f) (us vs : List (List Field)) → lines_in kind e a ++ us ≡ lines_in kind f b ++ vs → e.0 ≡ f.0
  same_name e f a b us vs same = by_lines (lines_in kind e a) (lines_in kind f b) (lines_are kind e a).some (lines_are kind f b).some (lines_named e a) (lines_named f b) same
    where
      by_lines : (xs ys : List (List Field)) → xs ≢ [] → ys ≢ [] → AllByRecursion (λ fields. named fields ≡ e.0) xs → AllByRecursion (λ fields. named fields ≡ f.0) ys → xs ++ us ≡ ys ++ vs → e.0 ≡ f.0
      by_lines [] ys some more p q same = absurd (some refl)
      by_lines (x ∷ xs) [] some more p q same = absurd (more refl)
      by_lines (x ∷ xs) (y ∷ ys) some more p q same = sym p.0 ∙ (ap named (head_is x y (xs ++ us) (ys ++ vs) same) ∙ q.0)

  none_joined : {X : Type 0} (xs ys : List X) → xs ≢ [] → xs ++ ys ≡ [] → ⊥
  none_joined [] ys some e = some refl
  none_joined (x ∷ xs) ys some e = never_none x (xs ++ ys) e

  -- rows of the same lines are the same
  pub rows_again : (xs ys : List Entry) (a : AllByRecursion (IsRowOf kind) xs) (b : AllByRecursion (IsRowOf kind) ys) → IsDistinct (distinct_by entry_name) xs → IsDistinct (distinct_by entry_name) ys → all_lines kind xs a ≡ all_lines kind ys b
      → xs ≡ ys
  rows_again [] [] a b apart other lines = refl
  rows_again [] (y ∷ ys) a b apart other lines = absurd (none_joined (lines_in kind y b.0) (all_lines kind ys b.1) (lines_are kind y b.0).some (sym lines))
  rows_again (x ∷ xs) [] a b apart other lines = absurd (none_joined (lines_in kind x a.0) (all_lines kind xs a.1) (lines_are kind x a.0).some lines)
  rows_again (x ∷ xs) (y ∷ ys) a b apart other lines =
      let name = same_name x y a.0 b.0 (all_lines kind xs a.1) (all_lines kind ys b.1) lines in
      let parts =
      fronts_same (λ fields. named fields ≡ x.0) (lines_in kind x a.0) (lines_in kind y b.0) (all_lines kind xs a.1) (all_lines kind ys b.1) lines (lines_named x a.0)
      (subst (λ n. AllByRecursion (λ fields. named fields ≡ n) (lines_in kind y b.0)) (sym name) (lines_named y b.0)) (other_names x xs a.1 (IsDistinct-head (distinct_by entry_name) x xs apart))
      (subst (λ n. AllByRecursion (λ fields. named fields ≡ n → ⊥) (all_lines kind ys b.1)) (sym name) (other_names y ys b.1 (IsDistinct-head (distinct_by entry_name) y ys other))) in
      let first = rebuilt x y a.0 b.0 name parts.0 in
      let more = rows_again xs ys a.1 b.1 (IsDistinct-tail (distinct_by entry_name) x xs apart) (IsDistinct-tail (distinct_by entry_name) y ys other) parts.1 in
      (λ i. first i ∷ more i)

-- of the same lines, kind by kind, the rows of each kind are the same
module _ (es fs : List Entry) (right : AreRight es) (too : AreRight fs) where
  fields_back : (kind : Kind) (ls ms : List (List Field)) → map (line_in kind) ls ≡ map (line_in kind) ms → ls ≡ ms
  fields_back kind [] [] e = refl
  fields_back kind [] (m ∷ ms) e = absurd (never_none (line_in kind m) (map (line_in kind) ms) (sym e))
  fields_back kind (l ∷ ls) [] e = absurd (never_none (line_in kind l) (map (line_in kind) ls) e)
  fields_back kind (l ∷ ls) (m ∷ ms) e =
      let first = ap (λ (x : Line). x.fields) (head_is (line_in kind l) (line_in kind m) (map (line_in kind) ls) (map (line_in kind) ms) e) in
      let more = fields_back kind ls ms (tail_is (line_in kind l) (line_in kind m) (map (line_in kind) ls) (map (line_in kind) ms) e) in
      (λ i. first i ∷ more i)

  all_of : (kind : Kind) (ls : List (List Field)) → AllByRecursion (λ (l : Line). place_of l.kind ≡ place_of kind) (map (line_in kind) ls)
  all_of kind [] = tt
  all_of kind (l ∷ ls) = (refl, all_of kind ls)

  abbrev pub SameRowsOf : Kind → Type 0
  SameRowsOf kind = (own : List Entry) × IsPermutation (kind_rows (place_of kind) es) own × IsPermutation (kind_rows (place_of kind) fs) own

  pub same_rows : (n : ℕ) (kinds : List Kind) → Follow es right n kinds → (xs ys : List Entry) (a : AreSections es kinds xs) (b : AreSections fs kinds ys) → lines_made es right kinds xs a ≡ lines_made fs too kinds ys b
      → AllByRecursion SameRowsOf kinds
  same_rows n [] follow xs ys a b lines = tt
  same_rows n (kind ∷ kinds) follow xs ys a b lines =
      let at = follow.0 in
      let here = map (line_in kind) (lines_own es right kind a.0 a.2) in
      let there = map (line_in kind) (lines_own fs too kind b.0 b.2) in
      let parts =
      fronts_same (λ (l : Line). place_of l.kind ≡ place_of kind) here there (lines_made es right kinds a.1 a.3) (lines_made fs too kinds b.1 b.3) lines (all_of kind (lines_own es right kind a.0 a.2)) (all_of kind (lines_own fs too kind b.0 b.2))
      (all_weaker (λ (l : Line). suc n < place_of l.kind) (λ (l : Line). place_of l.kind ≡ place_of kind → ⊥) (λ l lt is. omega (arith, lt, is, at)) (lines_made es right kinds a.1 a.3) (made_above es right (suc n) kinds follow.1 a.1 a.3))
      (all_weaker (λ (l : Line). suc n < place_of l.kind) (λ (l : Line). place_of l.kind ≡ place_of kind → ⊥) (λ l lt is. omega (arith, lt, is, at)) (lines_made fs too kinds b.1 b.3) (made_above fs too (suc n) kinds follow.1 b.1 b.3)) in
      let rows : a.0 ≡ b.0 =
      rows_again kind a.0 b.0 (own_right es right kind a.0 a.2) (own_right fs too kind b.0 b.2) (own_apart es right kind a.0 a.2) (own_apart fs too kind b.0 b.2)
      (fields_back kind (lines_own es right kind a.0 a.2) (lines_own fs too kind b.0 b.2) parts.0) in
      ((b.0, subst (IsPermutation (kind_rows (place_of kind) es)) rows (a.2).moved, (b.2).moved), same_rows (suc n) kinds follow.1 a.1 b.1 a.3 b.3 parts.1)
