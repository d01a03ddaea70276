-- How rows are gone through in the order of their names.
use Rattle.std.proofs.Common.{◌≡◌, ◌≢◌, ◌⊎◌, inl, inr, ℕ, suc, ◌<◌, ◌≤◌, nat_lt, Bool, true, false, List, [], ◌∷◌, ◌++◌, append-nil, append_assoc, refl, sym, ap, ◌∙◌, subst, arith}
use Rattle.std.specs.List.{AllByRecursion}
use Rattle.std.specs.declared.cmp.Ordering.{Ordering}
use Rattle.std.specs.declared.cmp.Ordering.TheVariants.{Less, Equal}
use Rattle.std.proofs.lemmas.Bool.{ltb-true, ltb-false}
use Rattle.ixp_io.specs.declared.keeper.RowName.{RowName}
use Rattle.ixp_io.specs.Tables.{name_bytes}
use Rattle.ixp_num_tables.specs.Tables.{order, Ascends}
use Rattle.ixp_num_tables.proofs.AllItems.{all_right}
use Rattle.ixp_num_tables.proofs.FirstNumbers.{key_up, less_first}
use Rattle.ixp_num_tables.proofs.Orders.{all_weaker, order_same}
use Rattle.ixp_registry.specs.declared.kind.Kind.{Kind}
use Rattle.ixp_registry.specs.declared.kind.Kind.TheVariants.{Sites, Prefixes, Origins}
use Rattle.ixp_rows_lines.specs.Lines.{place_of}
use Rattle.ixp_rows.proofs.LinesAgain.{one_kind, place_some, place_most}
use Rattle.ixp_store_rows.specs.Names.{Entry, name_of, fields_row, version_name, count_name}
use Rattle.ixp_store_damage.specs.Damages.{IsLineRow, IsListRow, IsRowOf, HasName, IsRow, AreRows, Below, IsNeeded, IsFirstWrong}
use Rattle.ixp_store_words.specs.Opening.{entry_name}
use Rattle.ixp_store_words.specs.Sorting.{Has}
use Rattle.ixp_store_damage.specs.Walking.{Front, Reached, is_listed}
use Rattle.ixp_store_words.proofs.Gathered.{has_left}
use Rattle.ixp_store_words.proofs.Sorting.{all_has}

-- Names in their order
pub never_same : (name : RowName) → Below name name → ⊥
never_same name e = let bad : ◌≡◌ {A = Ordering} Equal Less = sym (order_same (name_bytes name)) ∙ e in cc

pub kind_up : (a b : RowName) → Below a b → a.kind ≤ b.kind
kind_up a b e = by_first (key_up a.kind b.kind a.key b.key e)
  where
    by_first : (a.kind < b.kind) ⊎ ((a.kind ≡ b.kind) × (order a.key b.key ≡ Less)) → a.kind ≤ b.kind
    by_first (inl lt) = omega (arith, lt)
    by_first (inr (is, less)) = omega (arith, is)

pub below_kind : (a b : RowName) → a.kind < b.kind → Below a b
below_kind a b lt = less_first a.kind b.kind a.key b.key lt

pub below_front : (front : List Entry) (e : Entry) (rest : List Entry) → Ascends entry_name (front ++ e ∷ rest) → AllByRecursion (λ x. Below x.0 e.0) front
below_front [] e rest up = tt
below_front (x ∷ xs) e rest up = ((all_right (λ y. Below x.0 y.0) xs (e ∷ rest) up.0).0, below_front xs e rest up.1)

pub above_rest : (front : List Entry) (e : Entry) (rest : List Entry) → Ascends entry_name (front ++ e ∷ rest) → AllByRecursion (λ x. Below e.0 x.0) rest
above_rest [] e rest up = up.0
above_rest (x ∷ xs) e rest up = above_rest xs e rest up.1

-- rows of one name are one row
pub one_entry : (es : List Entry) → Ascends entry_name es → (x y : Entry) → Has es x → Has es y → x.0 ≡ y.0 → x ≡ y
one_entry [] up x y hx hy e = absurd hx
one_entry (z ∷ zs) up x y (inl p) (inl q) e = p ∙ sym q
one_entry (z ∷ zs) up x y (inl p) (inr hy) e =
    absurd (never_same y.0 (subst (λ n. Below n y.0) (sym (ap (λ (w : Entry). w.0) p) ∙ e) (all_has (λ w. Below z.0 w.0) zs up.0 y hy)))
one_entry (z ∷ zs) up x y (inr hx) (inl q) e =
    absurd (never_same x.0 (subst (λ n. Below n x.0) (sym (ap (λ (w : Entry). w.0) q) ∙ sym e) (all_has (λ w. Below z.0 w.0) zs up.0 x hx)))
one_entry (z ∷ zs) up x y (inr hx) (inr hy) e = one_entry zs up.1 x y hx hy e

-- Lists with one item more
pub all_more : {X : Type 0} (P : X → Type 0) (xs : List X) (x : X) → AllByRecursion P xs → P x → AllByRecursion P (xs ++ x ∷ [])
all_more P [] x all is = (is, tt)
all_more P (y ∷ ys) x all is = (all.0, all_more P ys x all.1 is)

pub rows_more : (es before rows : List Entry) (e : Entry) → AreRows es before rows → IsRow es (before ++ rows) e → AreRows es before (rows ++ e ∷ [])
rows_more es before [] e all is = (subst (λ b. IsRow es b e) (append-nil before) is, tt)
rows_more es before (x ∷ xs) e all is = (all.0, rows_more es (before ++ x ∷ []) xs e all.1 (subst (λ b. IsRow es b e) (sym (append_assoc before (x ∷ []) xs)) is))

pub name_more : (es more : List Entry) (name : RowName) → HasName es name → HasName (es ++ more) name
name_more es more name h = (h.0, has_left es more (name, h.0) h.1)

-- Where rows of a kind end
pub either_way : (n k : ℕ) → (k < n) ⊎ (n ≤ k)
either_way n k = by_test (nat_lt k n) refl
  where
    by_test : (b : Bool) → nat_lt k n ≡ b → (k < n) ⊎ (n ≤ k)
    by_test true e = inl (ltb-true k n e)
    by_test false e = inr (ltb-false k n e)

pub front_past : (n : ℕ) (e : Entry) (rest : List Entry) → Front n (e ∷ rest) → e.0.kind ≢ n → Front (suc n) (e ∷ rest)
front_past n e rest (inl low) other = inl low
front_past n e rest (inr high) other = by_way (either_way (suc n) e.0.kind)
  where
    by_way : (e.0.kind < suc n) ⊎ (suc n ≤ e.0.kind) → Front (suc n) (e ∷ rest)
    by_way (inl lt) = absurd (other (omega (arith, lt, high)))
    by_way (inr le) = inr le

pub front_next : (n : ℕ) (e : Entry) (rest : List Entry) → AllByRecursion (λ x. Below e.0 x.0) rest → e.0.kind ≡ n → Front n rest
front_next n e [] above is = tt
front_next n e (f ∷ fs) above is = inr (let up = kind_up e.0 f.0 above.0 in omega (arith, up, is))

module _ (low front : ℕ) (es : List Entry) where
  pub parts_up : (e : Entry) (rest : List Entry) (r : Reached low front es (e ∷ rest)) → Ascends entry_name (r.before ++ e ∷ rest)
  parts_up e rest r = subst (Ascends entry_name) r.parts r.up

  -- one row more
  abbrev pub reached_next : (e : Entry) (rest : List Entry) (r : Reached low front es (e ∷ rest)) → IsRow es r.before e → e.0.kind ≡ front → front < low → Reached low front es rest
  reached_next e rest r is kind lt = record {
    before = r.before ++ e ∷ [];
    parts = r.parts ∙ sym (append_assoc r.before (e ∷ []) rest);
    rows = rows_more es [] r.before e r.rows is;
    up = r.up;
    version = name_more r.before (e ∷ []) version_name r.version;
    site = name_more r.before (e ∷ []) (name_of Sites []) r.site;
    lower = all_more (λ x. x.0.kind < low) r.before e r.lower (omega (arith, kind, lt));
    next = front_next front e rest (above_rest r.before e rest (parts_up e rest r)) kind;
  }

  abbrev pub reached_up : (left : List Entry) (low' front' : ℕ) → Reached low front es left → low ≤ low' → Front front' left → Reached low' front' es left
  reached_up left low' front' r le next = record {
    before = r.before;
    parts = r.parts;
    rows = r.rows;
    up = r.up;
    version = r.version;
    site = r.site;
    lower = all_weaker (λ x. x.0.kind < low) (λ x. x.0.kind < low') (λ x lt. omega (arith, lt, le)) r.before r.lower;
    next = next;
  }

  -- the first that is wrong
  pub wrong_here : (e : Entry) (rest : List Entry) (r : Reached low front es (e ∷ rest)) → (Below count_name e.0 → HasName r.before count_name) → ¬ (IsRow es r.before e) → IsFirstWrong es e.0
  wrong_here e rest r count wrong = record {
    before = r.before;
    after = e ∷ rest;
    parts = r.parts;
    rows = r.rows;
    needed = λ other needs less. by_need other needs less;
    wrong = inl (refl, wrong);
  }
    where
      by_need : (other : RowName) → IsNeeded other → Below other e.0 → HasName r.before other
      by_need other (inl is) less = subst (HasName r.before) (sym is) r.version
      by_need other (inr (inl is)) less = subst (HasName r.before) (sym is) r.site
      by_need other (inr (inr is)) less = subst (HasName r.before) (sym is) (count (subst (λ n. Below n e.0) is less))

  pub wrong_below : (e : Entry) (rest : List Entry) (r : Reached low front es (e ∷ rest)) → e.0.kind < 20 → ¬ (IsRow es r.before e) → IsFirstWrong es e.0
  wrong_below e rest r lt wrong = wrong_here e rest r (λ less. absurd (let up = kind_up count_name e.0 less in omega (arith, up, lt))) wrong

-- Rows of lines
pub line_kind : (kind : Kind) (e : Entry) → IsLineRow kind e → e.0.kind ≡ place_of kind
unfolding fields_row
line_kind kind e is = ap (λ (x : Entry). x.0.kind) is.2

pub row_kind : (kind : Kind) (e : Entry) → IsRowOf kind e → e.0.kind ≡ place_of kind
row_kind Prefixes e is = ap (λ (x : Entry). x.0.kind) is.row
row_kind Origins e is = ap (λ (x : Entry). x.0.kind) is.row
row_kind kind e is = line_kind kind e is

pub plain_row : (kind : Kind) (e : Entry) → is_listed kind ≡ false → IsLineRow kind e → IsRowOf kind e
plain_row Prefixes e plain is = absurd (let bad : true ≡ false = plain in cc)
plain_row Origins e plain is = absurd (let bad : true ≡ false = plain in cc)
plain_row kind e plain is = is

pub row_plain : (kind : Kind) (e : Entry) → is_listed kind ≡ false → IsRowOf kind e → IsLineRow kind e
row_plain Prefixes e plain is = absurd (let bad : true ≡ false = plain in cc)
row_plain Origins e plain is = absurd (let bad : true ≡ false = plain in cc)
row_plain kind e plain is = is

pub listed_row : (kind : Kind) (e : Entry) → is_listed kind ≡ true → IsListRow kind e → IsRowOf kind e
listed_row Prefixes e listed is = is
listed_row Origins e listed is = is
listed_row kind e listed is = absurd (let bad : false ≡ true = listed in cc)

pub row_listed : (kind : Kind) (e : Entry) → is_listed kind ≡ true → IsRowOf kind e → IsListRow kind e
row_listed Prefixes e listed is = is
row_listed Origins e listed is = is
row_listed kind e listed is = absurd (let bad : false ≡ true = listed in cc)

-- a row of a kind's number that is none of the kind is none at all
pub not_row : (kind : Kind) (es before : List Entry) (e : Entry) → e.0.kind ≡ place_of kind → ¬ (IsRowOf kind e) → ¬ (IsRow es before e)
not_row kind es before e at wrong (inl is) =
    let zero : e.0.kind ≡ 0 = ap (λ (x : Entry). x.0.kind) is in
    let some = place_some kind in
    omega (arith, zero, some, at)
not_row kind es before e at wrong (inr (inl (other, is))) = wrong (subst (λ k. IsRowOf k e) (one_kind other kind (sym (row_kind other e is) ∙ at)) is)
not_row kind es before e at wrong (inr (inr (inl is))) =
    let kind_is : e.0.kind ≡ 18 = ap (λ (x : Entry). x.0.kind) (is.2).row in
    let most = place_most kind in
    omega (arith, kind_is, most, at)
not_row kind es before e at wrong (inr (inr (inr (inl is)))) =
    let kind_is : e.0.kind ≡ 19 = ap (λ (x : Entry). x.0.kind) (is.says).row in
    let most = place_most kind in
    omega (arith, kind_is, most, at)
not_row kind es before e at wrong (inr (inr (inr (inr is)))) =
    let kind_is : e.0.kind ≡ 20 = ap (λ (x : Entry). x.0.kind) is.2 in
    let most = place_most kind in
    omega (arith, kind_is, most, at)

-- a row that is one of the kind, and one that isn't
module _ (kind : Kind) (es : List Entry) where
  abbrev At : List Entry → Type 0
  At left = Reached (suc (place_of kind)) (place_of kind) es left

  pub row_next : (e : Entry) (rest : List Entry) → At (e ∷ rest) → e.0.kind ≡ place_of kind → IsRowOf kind e → At rest
  row_next e rest r at is = reached_next (suc (place_of kind)) (place_of kind) es e rest r (inr (inl (kind, is))) at (omega arith)

  pub row_wrong : (e : Entry) (rest : List Entry) → At (e ∷ rest) → e.0.kind ≡ place_of kind → ¬ (IsRowOf kind e) → IsFirstWrong es e.0
  row_wrong e rest r at wrong =
      wrong_below (suc (place_of kind)) (place_of kind) es e rest r (let most = place_most kind in omega (arith, at, most)) (not_row kind es r.before e at wrong)

  pub row_start : (left : List Entry) → Reached (place_of kind) (place_of kind) es left → At left
  row_start left r = reached_up (place_of kind) (place_of kind) es left (suc (place_of kind)) (place_of kind) r (omega arith) r.next

  pub row_end : (e : Entry) (rest : List Entry) → At (e ∷ rest) → e.0.kind ≢ place_of kind → Reached (suc (place_of kind)) (suc (place_of kind)) es (e ∷ rest)
  row_end e rest r other = reached_up (suc (place_of kind)) (place_of kind) es (e ∷ rest) (suc (place_of kind)) (suc (place_of kind)) r (omega arith) (front_past (place_of kind) e rest r.next other)

  pub none_end : At [] → Reached (suc (place_of kind)) (suc (place_of kind)) es []
  none_end r = reached_up (suc (place_of kind)) (place_of kind) es [] (suc (place_of kind)) (suc (place_of kind)) r (omega arith) tt
