-- The rows that each store has: the first, the second and the last.
use Rattle.std.proofs.Common.{◌≡◌, ◌⊎◌, inl, inr, ℕ, suc, ◌<◌, ◌≤◌, ◌^◌, ◌==◌, ◌&&◌, Bool, true, false, List, [], ◌∷◌, ◌++◌, append-nil, append_assoc, length, codes, Option, None, refl, sym, ap, ◌∙◌, subst, arith}
use Rattle.std.specs.List.{AllByRecursion}
use Rattle.std.specs.declared.cmp.Ordering.{Ordering}
use Rattle.std.specs.declared.cmp.Ordering.TheVariants.{Less, Equal, Greater}
use Rattle.std.proofs.lemmas.Bool.{and_parts, eqb-true, eq-eqb}
use Rattle.ixp_io.specs.declared.keeper.Row.{Row}
use Rattle.ixp_io.specs.declared.keeper.RowName.{RowName}
use Rattle.ixp_io.specs.Tables.{name_bytes, row_entry}
use Rattle.ixp_num_tables.specs.Tables.{order, Ascends}
use Rattle.ixp_num_tables.proofs.FirstNumbers.{key_up, less_first, same_first}
use Rattle.ixp_num_tables.proofs.Orders.{all_weaker, chained}
use Rattle.ixp_registry.specs.declared.kind.Kind.TheVariants.{Sites}
use Rattle.ixp_rows.proofs.LinesAgain.{place_some, place_most}
use Rattle.ixp_store_rows.specs.Names.{Entry, fields_row, name_of, version_name, version_row, count_name, count_row}
use Rattle.ixp_store_damage.specs.Damages.{IsLineRow, HasName, IsRow, IsCountRow, AreRows, Below, IsNeeded, IsFirstWrong, AreAllRight}
use Rattle.ixp_store_words.specs.Opening.{entry_name, is_count, is_version}
use Rattle.ixp_store_words.specs.Sorting.{Has}
use Rattle.ixp_store_damage.specs.Walking.{Reached, Front, IsCounted, is_site}
use Rattle.ixp_store_words.proofs.Gathered.{has_right}
use Rattle.ixp_store_words.proofs.Sorting.{all_has}
use Rattle.ixp_store_damage.proofs.Walks.{never_same, kind_up, below_kind, below_front, above_rest, one_entry, name_more, either_way, parts_up, row_kind, rows_more, wrong_here, wrong_below, not_row}

-- Names that are their kind alone
abbrev bare : ℕ → RowName
bare kind = record { kind = kind; key = [] }

no_bytes : (t : List ℕ) → length t ≡ 0 → t ≡ []
no_bytes [] e = refl
no_bytes (c ∷ cs) e = absurd (omega (arith, e))

abbrev is_bare : ℕ → RowName → Bool
is_bare kind name = name.kind == kind && length name.key == 0

bare_is : (kind : ℕ) (name : RowName) → is_bare kind name ≡ true → name ≡ bare kind
bare_is kind name e =
    let parts = and_parts (name.kind == kind) (length name.key == 0) e in
    let at = eqb-true name.kind kind parts.0 in
    let key = no_bytes name.key (eqb-true (length name.key) 0 parts.1) in
    (λ i. record { kind = at i; key = key i })

above_bare : (kind : ℕ) (name : RowName) → kind ≤ name.kind → is_bare kind name ≡ false → Below (bare kind) name
above_bare kind name le other = by_way (either_way (suc kind) name.kind)
  where
    by_key : (key : List ℕ) → (name.kind == kind && length key == 0) ≡ false → name.kind ≡ kind → order (kind ∷ []) (name.kind ∷ key) ≡ Less
    by_key [] e same = absurd (let bad : true ≡ false = sym (ap (λ b. b && true) (eq-eqb name.kind kind same)) ∙ e in cc)
    by_key (c ∷ cs) e same = subst (λ k. order (kind ∷ []) (k ∷ c ∷ cs) ≡ Less) (sym same) (same_first kind [] (c ∷ cs))

    by_way : (name.kind < suc kind) ⊎ (suc kind ≤ name.kind) → Below (bare kind) name
    by_way (inl lt) = by_key name.key other (omega (arith, lt, le))
    by_way (inr more) = less_first kind name.kind [] name.key (omega (arith, more))

never_below : (kind : ℕ) (name : RowName) → kind ≤ name.kind → Below name (bare kind) → ⊥
never_below kind name le e = by_first (key_up name.kind kind name.key [] e)
  where
    by_key : (key : List ℕ) → order key [] ≡ Less → ⊥
    by_key [] e = let bad : ◌≡◌ {A = Ordering} Equal Less = e in cc
    by_key (c ∷ cs) e = let bad : ◌≡◌ {A = Ordering} Greater Less = e in cc

    by_first : (name.kind < kind) ⊎ ((name.kind ≡ kind) × (order name.key [] ≡ Less)) → ⊥
    by_first (inl lt) = omega (arith, lt, le)
    by_first (inr (at, less)) = by_key name.key less

all_above : (name : RowName) (e : Entry) (rest : List Entry) → Below name e.0 → AllByRecursion (λ x. Below e.0 x.0) rest → AllByRecursion (λ x. Below name x.0) (e ∷ rest)
all_above name e rest less above =
    (less, all_weaker (λ x. Below e.0 x.0) (λ x. Below name x.0) (λ x more. chained (name_bytes name) (name_bytes e.0) (name_bytes x.0) less more) rest above)

-- a row with a name that is its kind alone, of a needed row
not_version : (es before : List Entry) (e : Entry) → e.0.kind ≡ 0 → ¬ (e ≡ version_row) → ¬ (IsRow es before e)
not_version es before e at wrong (inl is) = wrong is
not_version es before e at wrong (inr (inl (kind, is))) = let of_kind = row_kind kind e is in let some = place_some kind in omega (arith, of_kind, some, at)
not_version es before e at wrong (inr (inr (inl is))) = let kind_is : e.0.kind ≡ 18 = ap (λ (x : Entry). x.0.kind) (is.2).row in omega (arith, kind_is, at)
not_version es before e at wrong (inr (inr (inr (inl is)))) = let kind_is : e.0.kind ≡ 19 = ap (λ (x : Entry). x.0.kind) (is.says).row in omega (arith, kind_is, at)
not_version es before e at wrong (inr (inr (inr (inr is)))) = let kind_is : e.0.kind ≡ 20 = ap (λ (x : Entry). x.0.kind) is.2 in omega (arith, kind_is, at)

not_count : (es before : List Entry) (e : Entry) → 20 ≤ e.0.kind → ¬ (IsCountRow e) → ¬ (IsRow es before e)
not_count es before e at wrong (inl is) = let zero : e.0.kind ≡ 0 = ap (λ (x : Entry). x.0.kind) is in omega (arith, zero, at)
not_count es before e at wrong (inr (inl (kind, is))) = let of_kind = row_kind kind e is in let most = place_most kind in omega (arith, of_kind, most, at)
not_count es before e at wrong (inr (inr (inl is))) = let kind_is : e.0.kind ≡ 18 = ap (λ (x : Entry). x.0.kind) (is.2).row in omega (arith, kind_is, at)
not_count es before e at wrong (inr (inr (inr (inl is)))) = let kind_is : e.0.kind ≡ 19 = ap (λ (x : Entry). x.0.kind) (is.says).row in omega (arith, kind_is, at)
not_count es before e at wrong (inr (inr (inr (inr is)))) = wrong is

-- The version
pub version_is : (row : Row) → is_version row ≡ true → row.body ≡ codes "2" → row_entry row ≡ version_row
version_is row at body = let name = bare_is 0 row.name at in (λ i. (name i, body i))

nothing_below : (other : RowName) → Below other version_name → HasName [] other
nothing_below other less = absurd (never_below 0 other (omega arith) less)

pub version_missing : IsFirstWrong [] version_name
version_missing = record { before = []; after = []; parts = refl; rows = tt; needed = λ other needs less. nothing_below other less; wrong = inr (record { needed = inl refl; above = tt; below = tt }) }

pub version_before : (row : Row) (rest : List Entry) → Ascends entry_name (row_entry row ∷ rest) → is_version row ≡ false → IsFirstWrong (row_entry row ∷ rest) version_name
version_before row rest up other = record {
  before = [];
  after = row_entry row ∷ rest;
  parts = refl;
  rows = tt;
  needed = λ other needs less. nothing_below other less;
  wrong = inr (record { needed = inl refl; above = tt; below = all_above version_name (row_entry row) rest (above_bare 0 row.name (omega arith) other) up.0 });
}

pub version_wrong : (row : Row) (rest : List Entry) → is_version row ≡ true → ¬ (row.body ≡ codes "2") → IsFirstWrong (row_entry row ∷ rest) row.name
version_wrong row rest at body = record {
  before = [];
  after = row_entry row ∷ rest;
  parts = refl;
  rows = tt;
  needed = λ other needs less. nothing_below other (subst (Below other) name less);
  wrong = inl (refl, not_version (row_entry row ∷ rest) [] (row_entry row) (ap (λ (n : RowName). n.kind) name) (λ is. body (ap (λ (x : Entry). x.1) is)));
}
  where
    name : row.name ≡ version_name
    name = bare_is 0 row.name at

-- The site
module _ (es rest : List Entry) (is : es ≡ version_row ∷ rest) (up : Ascends entry_name es) where
  all_up : Ascends entry_name (version_row ∷ rest)
  all_up = subst (Ascends entry_name) is up

  version_there : HasName (version_row ∷ []) version_name
  version_there = (codes "2", inl refl)

  version_right : AreRows es [] (version_row ∷ [])
  version_right = (inl refl, tt)

  -- names up to the site's have that of the version alone below them
  needs_version : (name : RowName) → name.kind ≤ 1 → (Below (bare 1) name → ⊥) → (other : RowName) → IsNeeded other → Below other name → HasName (version_row ∷ []) other
  needs_version name low never other (inl e) less = subst (HasName (version_row ∷ [])) (sym e) version_there
  needs_version name low never other (inr (inl e)) less = absurd (never (subst (λ n. Below n name) e less))
  needs_version name low never other (inr (inr e)) less = absurd (let high = kind_up count_name name (subst (λ n. Below n name) e less) in omega (arith, high, low))

  site_missing : AllByRecursion (λ x. Below (bare 1) x.0) rest → IsFirstWrong es (bare 1)
  site_missing above = record {
    before = version_row ∷ [];
    after = rest;
    parts = is;
    rows = version_right;
    needed = needs_version (bare 1) (omega arith) (never_same (bare 1));
    wrong = inr (record { needed = inr (inl refl); above = (below_kind version_name (bare 1) (omega arith), tt); below = above });
  }

  pub site_not_there : rest ≡ [] → IsFirstWrong es (bare 1)
  site_not_there none = site_missing (subst (AllByRecursion (λ x. Below (bare 1) x.0)) (sym none) tt)

  module _ (row : Row) (others : List Entry) (first : rest ≡ row_entry row ∷ others) where
    here : Ascends entry_name (version_row ∷ row_entry row ∷ others)
    here = subst (λ l. Ascends entry_name (version_row ∷ l)) first all_up

    parts : es ≡ version_row ∷ row_entry row ∷ others
    parts = is ∙ ap (λ l. version_row ∷ l) first

    wrong_row : row.name.kind ≤ 1 → (Below (bare 1) row.name → ⊥) → ¬ (IsRow es (version_row ∷ []) (row_entry row)) → IsFirstWrong es row.name
    wrong_row low never wrong = record {
      before = version_row ∷ [];
      after = row_entry row ∷ others;
      parts = parts;
      rows = version_right;
      needed = needs_version row.name low never;
      wrong = inl (refl, wrong);
    }

    pub before_site : row.name.kind < 1 → IsFirstWrong es row.name
    before_site low =
        wrong_row (omega (arith, low)) (λ less. let up = kind_up (bare 1) row.name less in omega (arith, up, low))
        (not_version es (version_row ∷ []) (row_entry row) (omega (arith, low)) (λ e. never_same row.name (subst (λ n. Below n row.name) (sym (ap (λ (x : Entry). x.0) e)) here.0.0)))

    pub site_before : 1 ≤ row.name.kind → is_site row ≡ false → IsFirstWrong es (bare 1)
    site_before low other = site_missing (subst (AllByRecursion (λ x. Below (bare 1) x.0)) (sym first) (all_above (bare 1) (row_entry row) others (above_bare 1 row.name low other) here.1.0))

    module _ (at : is_site row ≡ true) where
      name : row.name ≡ bare 1
      name = bare_is 1 row.name at

      kind : row.name.kind ≡ 1
      kind = ap (λ (n : RowName). n.kind) name

      pub site_wrong : ¬ (IsLineRow Sites (row_entry row)) → IsFirstWrong es row.name
      site_wrong wrong =
          wrong_row (omega (arith, kind)) (λ less. never_same (bare 1) (subst (Below (bare 1)) name less)) (not_row Sites es (version_row ∷ []) (row_entry row) kind wrong)

      next : (l : List Entry) → AllByRecursion (λ x. Below row.name x.0) l → Front 2 l
      next [] above = tt
      next (f ∷ fs) above = by_way (either_way 2 f.0.kind)
        where
          by_way : (f.0.kind < 2) ⊎ (2 ≤ f.0.kind) → Front 2 (f ∷ fs)
          by_way (inl lt) = inl lt
          by_way (inr le) = inr le

      pub site_right : IsLineRow Sites (row_entry row) → Reached 2 2 es others
      site_right line = record {
        before = version_row ∷ row_entry row ∷ [];
        parts = parts;
        rows = (inl refl, (inr (inl (Sites, line)), tt));
        up = up;
        version = (codes "2", inl refl);
        site = (row.body, inr (inl (λ i. (sym name i, row.body))));
        lower = (omega arith, (omega (arith, kind), tt));
        next = next others here.1.0;
      }

-- The count
module _ (es : List Entry) where
  low_below : (before : List Entry) → AllByRecursion (λ x. x.0.kind < 20) before → AllByRecursion (λ x. Below x.0 count_name) before
  low_below before low = all_weaker (λ x. x.0.kind < 20) (λ x. Below x.0 count_name) (λ x lt. below_kind x.0 count_name lt) before low

  needs_others : (left : List Entry) (r : Reached 20 20 es left) (other : RowName) → IsNeeded other → Below other count_name → HasName r.before other
  needs_others left r other (inl e) less = subst (HasName r.before) (sym e) r.version
  needs_others left r other (inr (inl e)) less = subst (HasName r.before) (sym e) r.site
  needs_others left r other (inr (inr e)) less = absurd (never_same count_name (subst (λ n. Below n count_name) e less))

  count_missing : (left : List Entry) (r : Reached 20 20 es left) → AllByRecursion (λ x. Below count_name x.0) left → IsFirstWrong es count_name
  count_missing left r above = record {
    before = r.before;
    after = left;
    parts = r.parts;
    rows = r.rows;
    needed = needs_others left r;
    wrong = inr (record { needed = inr (inr refl); above = low_below r.before r.lower; below = above });
  }

  pub count_not_there : Reached 20 20 es [] → IsFirstWrong es count_name
  count_not_there r = count_missing [] r tt

  module _ (row : Row) (others : List Entry) (r : Reached 20 20 es (row_entry row ∷ others)) where
    whole : Ascends entry_name (r.before ++ row_entry row ∷ others)
    whole = parts_up 20 20 es (row_entry row) others r

    behind : AllByRecursion (λ x. Below row.name x.0) others
    behind = above_rest r.before (row_entry row) others whole

    in_front : AllByRecursion (λ x. Below x.0 row.name) r.before
    in_front = below_front r.before (row_entry row) others whole

    -- a name that stands before isn't the row's
    apart : (name : RowName) → HasName r.before name → row.name ≡ name → ⊥
    apart name h e = never_same row.name (subst (λ n. Below n row.name) (sym e) (all_has (λ x. Below x.0 row.name) r.before in_front (name, h.0) h.1))

    site_name : (e : Entry) → IsLineRow Sites e → e.0 ≡ name_of Sites []
    unfolding fields_row
    site_name e is = ap (λ (x : Entry). x.0) is.2

    pub stray_row : row.name.kind < 20 → IsFirstWrong es row.name
    stray_row low = wrong_below 20 20 es (row_entry row) others r low by_next
      where
        by_kind : row.name.kind < 2 → ¬ (IsRow es r.before (row_entry row))
        by_kind lt = by_way (either_way 1 row.name.kind)
          where
            by_way : (row.name.kind < 1) ⊎ (1 ≤ row.name.kind) → ¬ (IsRow es r.before (row_entry row))
            by_way (inl zero) = not_version es r.before (row_entry row) (omega (arith, zero)) (λ e. apart version_name r.version (ap (λ (x : Entry). x.0) e))
            by_way (inr one) = not_row Sites es r.before (row_entry row) (omega (arith, one, lt)) (λ line. apart (name_of Sites []) r.site (site_name (row_entry row) line))

        by_front : Front 20 (row_entry row ∷ others) → ¬ (IsRow es r.before (row_entry row))
        by_front (inl lt) = by_kind lt
        by_front (inr le) = absurd (omega (arith, le, low))

        by_next : ¬ (IsRow es r.before (row_entry row))
        by_next = by_front r.next

    pub count_before : 20 ≤ row.name.kind → is_count row ≡ false → IsFirstWrong es count_name
    count_before high other = count_missing (row_entry row ∷ others) r (all_above count_name (row_entry row) others (above_bare 20 row.name high other) behind)

    module _ (at : is_count row ≡ true) where
      named : row.name ≡ count_name
      named = bare_is 20 row.name at

      of_kind : row.name.kind ≡ 20
      of_kind = ap (λ (n : RowName). n.kind) named

      row_in : Has es (row_entry row)
      row_in = subst (λ l. Has l (row_entry row)) (sym r.parts) (has_right r.before (row_entry row ∷ others) (row_entry row) (inl refl))

      pub count_wrong : (count : Option ℕ) → IsCounted es count → count ≡ None → IsFirstWrong es row.name
      count_wrong count counted none =
          wrong_here 20 20 es (row_entry row) others r (λ less. absurd (never_same count_name (subst (Below count_name) named less)))
          (not_count es r.before (row_entry row) (omega (arith, of_kind)) (λ is. subst (IsCounted es) none counted is.0 is.1 (subst (Has es) is.2 row_in)))

      row_is : (n : ℕ) → Has es (count_row n) → row_entry row ≡ count_row n
      row_is n has = one_entry es r.up (row_entry row) (count_row n) row_in has named

      module _ (n : ℕ) (fits : n < 2 ^ 64) (has : Has es (count_row n)) where
        abbrev upto : List Entry
        upto = r.before ++ row_entry row ∷ []

        upto_parts : es ≡ upto ++ others
        upto_parts = r.parts ∙ sym (append_assoc r.before (row_entry row ∷ []) others)

        upto_rows : AreRows es [] upto
        upto_rows = rows_more es [] r.before (row_entry row) r.rows (inr (inr (inr (inr (n, fits, row_is n has)))))

        all_there : (other : RowName) → IsNeeded other → HasName upto other
        all_there other (inl e) = subst (HasName upto) (sym e) (name_more r.before (row_entry row ∷ []) version_name r.version)
        all_there other (inr (inl e)) = subst (HasName upto) (sym e) (name_more r.before (row_entry row ∷ []) (name_of Sites []) r.site)
        all_there other (inr (inr e)) = subst (HasName upto) (sym e) (row.body, has_right r.before (row_entry row ∷ []) (count_name, row.body) (inl (λ i. (sym named i, row.body))))

        pub behind_count : (e : Entry) (rest : List Entry) → others ≡ e ∷ rest → IsFirstWrong es e.0
        behind_count e rest first = record {
          before = upto;
          after = e ∷ rest;
          parts = upto_parts ∙ ap (λ l. upto ++ l) first;
          rows = upto_rows;
          needed = λ other needs less. all_there other needs;
          wrong = inl (refl, not_count es upto e (let up = kind_up row.name e.0 above in omega (arith, up, of_kind)) (λ is. never_same row.name (subst (Below row.name) (ap (λ (x : Entry). x.0) is.2 ∙ sym named) above)));
        }
          where
            above : Below row.name e.0
            above = (subst (AllByRecursion (λ x. Below row.name x.0)) first behind).0

        pub count_right : others ≡ [] → AreAllRight es
        count_right none = record { rows = subst (AreRows es []) (sym all) upto_rows; needed = λ other needs. subst (λ l. HasName l other) (sym all) (all_there other needs) }
          where
            all : es ≡ upto
            all = upto_parts ∙ (ap (λ l. upto ++ l) none ∙ append-nil upto)
