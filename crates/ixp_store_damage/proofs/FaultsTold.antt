-- What the fault tells at each step of a walk through rows.
use Rattle.std.proofs.Common.{◌≡◌, ◌≢◌, ℕ, suc, ◌<◌, ◌≤◌, true, false, List, [], ◌∷◌, codes, map, Option, Some, None, refl, sym, ap, subst}
use Rattle.std.specs.Option.{is_none}
use Rattle.ixp_io.specs.declared.keeper.Row.{Row}
use Rattle.ixp_io.specs.Tables.{row_entry}
use Rattle.ixp_num_tables.specs.Tables.{Ascends}
use Rattle.ixp_registry.specs.declared.kind.Kind.{Kind}
use Rattle.ixp_registry.specs.declared.kind.Kind.TheVariants.{Sites}
use Rattle.ixp_rows_lines.specs.Lines.{place_of}
use Rattle.ixp_store_rows.specs.Names.{Entry, name_of, version_name, version_row, count_name}
use Rattle.ixp_store_words.specs.declared.fault.NoState.{NoState}
use Rattle.ixp_store_damage.specs.Damages.{IsLineRow, IsListRow, IsRowOf, IsFirstWrong, AreAllRight}
use Rattle.ixp_store_words.specs.Opening.{entry_name, is_count, is_version}
use Rattle.ixp_store_damage.specs.Walking.{IsCounted, IsRowFault, Reached, TellsFirst, is_listed, is_site}
use Rattle.ixp_store_damage.proofs.BrokenLines.{first_told}
use Rattle.ixp_store_damage.proofs.Ends.{version_missing, version_before, version_wrong, site_not_there, before_site, site_before, site_wrong, site_right, count_not_there, stray_row, count_before, count_wrong, behind_count, count_right}
use Rattle.ixp_store_damage.proofs.Walks.{listed_row, none_end, plain_row, row_end, row_listed, row_next, row_plain, row_wrong}

-- The version's row
pub no_version : (rows : List Row) (fault : NoState) → rows ≡ [] → IsRowFault version_name fault → TellsFirst (map row_entry rows) fault
no_version rows fault none is = first_told (map row_entry rows) version_name fault is (subst (λ rs. IsFirstWrong (map row_entry rs) version_name) (sym none) version_missing)

pub other_version : (rows others : List Row) (row : Row) (fault : NoState) → rows ≡ row ∷ others → is_version row ≡ false → IsRowFault version_name fault → Ascends entry_name (map row_entry rows) → TellsFirst (map row_entry rows) fault
other_version rows others row fault first other is up =
    first_told (map row_entry rows) version_name fault is
    (subst (λ rs. IsFirstWrong (map row_entry rs) version_name) (sym first) (version_before row (map row_entry others) (subst (λ rs. Ascends entry_name (map row_entry rs)) first up) other))

pub wrong_version : (rows others : List Row) (row : Row) (fault : NoState) → rows ≡ row ∷ others → is_version row ≡ true → ¬ (row.body ≡ codes "2") → IsRowFault row.name fault → TellsFirst (map row_entry rows) fault
wrong_version rows others row fault first at body is =
    first_told (map row_entry rows) row.name fault is (subst (λ rs. IsFirstWrong (map row_entry rs) row.name) (sym first) (version_wrong row (map row_entry others) at body))

-- The site's row
module _ (es : List Entry) (rows : List Row) (is : es ≡ version_row ∷ map row_entry rows) (up : Ascends entry_name es) (fault : NoState) where
  pub no_site : rows ≡ [] → IsRowFault (name_of Sites []) fault → TellsFirst es fault
  no_site none told = first_told es (name_of Sites []) fault told (site_not_there es (map row_entry rows) is up (ap (map row_entry) none))

  module _ (row : Row) (others : List Row) (first : rows ≡ row ∷ others) where
    begins : map row_entry rows ≡ row_entry row ∷ map row_entry others
    begins = ap (map row_entry) first

    pub second_version : row.name.kind < 1 → IsRowFault row.name fault → TellsFirst es fault
    second_version low told = first_told es row.name fault told (before_site es (map row_entry rows) is up row (map row_entry others) begins low)

    pub other_site : 1 ≤ row.name.kind → is_site row ≡ false → IsRowFault (name_of Sites []) fault → TellsFirst es fault
    other_site high other told = first_told es (name_of Sites []) fault told (site_before es (map row_entry rows) is up row (map row_entry others) begins high other)

    pub wrong_site : is_site row ≡ true → ¬ (IsLineRow Sites (row_entry row)) → IsRowFault row.name fault → TellsFirst es fault
    wrong_site at wrong told = first_told es row.name fault told (site_wrong es (map row_entry rows) is up row (map row_entry others) begins at wrong)

pub behind_site :
    (es : List Entry) (rows : List Row) → es ≡ version_row ∷ map row_entry rows → Ascends entry_name es → (row : Row) (others : List Row) → rows ≡ row ∷ others → is_site row ≡ true → IsLineRow Sites (row_entry row)
    → Reached 2 2 es (map row_entry others)
behind_site es rows is up row others first at line = site_right es (map row_entry rows) is up row (map row_entry others) (ap (map row_entry) first) at line

-- Rows of a kind
module _ (kind : Kind) (es : List Entry) where
  abbrev At : List Row → Type 0
  At left = Reached (suc (place_of kind)) (place_of kind) es (map row_entry left)

  abbrev Past : List Row → Type 0
  Past left = Reached (suc (place_of kind)) (suc (place_of kind)) es (map row_entry left)

  pub kind_done : (left : List Row) → left ≡ [] → At left → Past left
  kind_done left none at = subst Past (sym none) (none_end kind es (subst At none at))

  module _ (left others : List Row) (row : Row) (first : left ≡ row ∷ others) where
    here : At left → Reached (suc (place_of kind)) (place_of kind) es (row_entry row ∷ map row_entry others)
    here at = subst At first at

    pub kind_next : row.name.kind ≡ place_of kind → IsRowOf kind (row_entry row) → At left → At others
    kind_next is of at = row_next kind es (row_entry row) (map row_entry others) (here at) is of

    pub kind_past : row.name.kind ≢ place_of kind → At left → Past left
    kind_past other at = subst Past (sym first) (row_end kind es (row_entry row) (map row_entry others) (here at) other)

    pub kind_wrong : (fault : NoState) → row.name.kind ≡ place_of kind → ¬ (IsRowOf kind (row_entry row)) → IsRowFault row.name fault → At left → TellsFirst es fault
    kind_wrong fault is wrong told at = first_told es row.name fault told (row_wrong kind es (row_entry row) (map row_entry others) (here at) is wrong)

    pub line_next : is_listed kind ≡ false → row.name.kind ≡ place_of kind → IsLineRow kind (row_entry row) → At left → At others
    line_next plain is of = kind_next is (plain_row kind (row_entry row) plain of)

    pub line_wrong : (fault : NoState) → is_listed kind ≡ false → row.name.kind ≡ place_of kind → ¬ (IsLineRow kind (row_entry row)) → IsRowFault row.name fault → At left → TellsFirst es fault
    line_wrong fault plain is wrong = kind_wrong fault is (λ of. wrong (row_plain kind (row_entry row) plain of))

    pub list_next : is_listed kind ≡ true → row.name.kind ≡ place_of kind → IsListRow kind (row_entry row) → At left → At others
    list_next listed is of = kind_next is (listed_row kind (row_entry row) listed of)

    pub list_wrong : (fault : NoState) → is_listed kind ≡ true → row.name.kind ≡ place_of kind → ¬ (IsListRow kind (row_entry row)) → IsRowFault row.name fault → At left → TellsFirst es fault
    list_wrong fault listed is wrong = kind_wrong fault is (λ of. wrong (row_listed kind (row_entry row) listed of))

-- The count's row
module _ (es : List Entry) (left : List Row) (r : Reached 20 20 es (map row_entry left)) where
  pub no_count : (fault : NoState) → left ≡ [] → IsRowFault count_name fault → TellsFirst es fault
  no_count fault none told = first_told es count_name fault told (count_not_there es (subst (λ l. Reached 20 20 es (map row_entry l)) none r))

  module _ (row : Row) (others : List Row) (first : left ≡ row ∷ others) where
    at_row : Reached 20 20 es (row_entry row ∷ map row_entry others)
    at_row = subst (λ l. Reached 20 20 es (map row_entry l)) first r

    pub stray_told : (fault : NoState) → row.name.kind < 20 → IsRowFault row.name fault → TellsFirst es fault
    stray_told fault low told = first_told es row.name fault told (stray_row es row (map row_entry others) at_row low)

    pub other_count : (fault : NoState) → 20 ≤ row.name.kind → is_count row ≡ false → IsRowFault count_name fault → TellsFirst es fault
    other_count fault high other told = first_told es count_name fault told (count_before es row (map row_entry others) at_row high other)

    pub wrong_count : (fault : NoState) (count : Option ℕ) → is_count row ≡ true → IsCounted es count → is_none count ≡ true → IsRowFault row.name fault → TellsFirst es fault
    wrong_count fault None at counted none told = first_told es row.name fault told (count_wrong es row (map row_entry others) at_row at None counted refl)
    wrong_count fault (Some n) at counted none told = absurd (let bad : false ≡ true = none in cc)

    pub told_behind : (fault : NoState) (count : Option ℕ) → is_count row ≡ true → IsCounted es count → is_none count ≡ false → (other : Row) (rest : List Row) → others ≡ other ∷ rest → IsRowFault other.name fault → TellsFirst es fault
    told_behind fault None at counted some other rest next told = absurd (let bad : true ≡ false = some in cc)
    told_behind fault (Some n) at counted some other rest next told =
        first_told es other.name fault told (behind_count es row (map row_entry others) at_row at n counted.0 counted.1 (row_entry other) (map row_entry rest) (ap (map row_entry) next))

    pub all_right : (count : Option ℕ) → is_count row ≡ true → IsCounted es count → is_none count ≡ false → others ≡ [] → AreAllRight es
    all_right None at counted some none = absurd (let bad : true ≡ false = some in cc)
    all_right (Some n) at counted some none = count_right es row (map row_entry others) at_row at n counted.0 counted.1 (ap (map row_entry) none)
