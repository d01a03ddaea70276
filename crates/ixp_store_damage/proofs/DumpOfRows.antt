-- The rows of lines of right rows, kind by kind in the order of their lines, are a dump.
use Rattle.std.proofs.Common.{◌≡◌, ◌≢◌, ℕ, suc, ◌+◌, ◌<◌, ◌≤◌, ◌==◌, false, IsSome, List, [], ◌∷◌, ◌++◌, length, map, flat_map, Some, Ok, Err, inl, inr, refl, sym, ap, ◌∙◌, subst, arith}
use Rattle.std.specs.List.{AllByRecursion, IsDistinct}
use Rattle.std.specs.Ordering.{is_lt}
use Rattle.std.specs.declared.cmp.Ordering.TheVariants.{Less}
use Rattle.std.proofs.lemmas.Bool.{eqb-true}
use Rattle.std.proofs.lemmas.Grind.{flat_map-append}
use Rattle.std.proofs.lemmas.List.Elements.{All-from_recursion, recursion_from_All}
use Rattle.std.proofs.lemmas.List.Sorted.{All-permutation, IsPermutation-sym}
use Rattle.std.proofs.lemmas.Map.Keys.{IsDistinct-IsPermutation, IsDistinct-head, IsDistinct-tail}
use Rattle.ixp_num_tables.specs.Tables.{order, same, Ascends}
use Rattle.ixp_num_tables.proofs.AllItems.{all_both, all_joined, all_true}
use Rattle.ixp_num_tables.proofs.FirstNumbers.{less_first, same_first}
use Rattle.ixp_num_tables.proofs.Orders.{all_weaker}
use Rattle.ixp_registry.specs.declared.kind.Kind.{Kind}
use Rattle.ixp_registry.specs.declared.kind.Kind.TheVariants.{Sites}
use Rattle.ixp_rows_lines.specs.declared.version.Version.TheVariants.{Two}
use Rattle.ixp_rows_lines.specs.Fields.{Field, AllFit}
use Rattle.ixp_rows_lines.specs.Lines.{Line, IsLine, form_of, place_of, text_of, line_text, key_of}
use Rattle.ixp_rows.specs.declared.fault.DumpFault.{DumpFault}
use Rattle.ixp_rows.specs.declared.fault.DumpFault.TheVariants.{Invalid, NoMemory}
use Rattle.ixp_registry.specs.declared.registry.Registry.{Registry}
use Rattle.ixp_registry.specs.Registries.{breach}
use Rattle.ixp_rows.specs.Answers.{SiteFirst, IsDump, DumpAnswer, row_lines}
use Rattle.ixp_rows.specs.Dumps.{RegistryAnswer}
use Rattle.ixp_rows.specs.Printing.{all_kinds}
use Rattle.ixp_rows.specs.Reading.{breaks, key_in, head_text, end_text}
use Rattle.ixp_rows.proofs.LinesAgain.{one_kind, place_some, place_most, lines_breaks}
use Rattle.ixp_rows.proofs.OneAnswer.{one_dump, no_fault}
use Rattle.ixp_store_rows.specs.Names.{Entry, name_of}
use Rattle.ixp_store_words.specs.declared.fault.Damage.TheVariants.{Row, Rule}
use Rattle.ixp_store_words.specs.declared.fault.NoState.{NoState}
use Rattle.ixp_store_words.specs.declared.fault.NoState.TheVariants as state
use Rattle.ixp_store_damage.specs.Damages.{IsRowOf, IsRow, AreRows, AreAllRight, HasName, KindByKind, entries_text, entries_dump, entry_text}
use Rattle.ixp_store_damage.specs.Loading.{kind_rows, line_said, line_key}
use Rattle.ixp_store_words.specs.Opening.{entry_name}
use Rattle.ixp_store_damage.specs.Placing.{IsSection, AreSections, AllSaid}
use Rattle.ixp_store_words.specs.Sorting.{Has, Rises, distinct_by}
use Rattle.ixp_store_damage.specs.Walking.{TellsLine, TellsRegistry, TellsRule}
use Rattle.ixp_store_damage.proofs.BreachLines.{breach_stands, lines_counted}
use Rattle.ixp_store_damage.proofs.RowLines.{lines_in, first_in, never_none, lines_are, rows_below}
use Rattle.ixp_store_words.proofs.Sorting.{all_has, has_all, filter_has, has_filter, flips, keys_apart, moved_has, pairs_filter}
use Rattle.ixp_store_damage.proofs.Walks.{row_kind}
use Rattle.ixp_store_damage.proofs.WholeStates.{up_apart}

ascends_joined : {X : Type 0} (key : X → List ℕ) (xs ys : List X) → Ascends key xs → Ascends key ys → AllByRecursion (λ x. AllByRecursion (λ y. order (key x) (key y) ≡ Less) ys) xs → Ascends key (xs ++ ys)
ascends_joined key [] ys up rise less = rise
ascends_joined key (x ∷ xs) ys up rise less = (all_joined (λ y. order (key x) (key y) ≡ Less) xs ys up.0 less.0, ascends_joined key xs ys up.1 rise less.1)

-- The lines of rows of a kind
module _ (kind : Kind) where
  abbrev pub all_lines : (own : List Entry) → AllByRecursion (IsRowOf kind) own → List (List Field)
  all_lines [] all = []
  all_lines (e ∷ es) all = lines_in kind e all.0 ++ all_lines es all.1

  abbrev Fit : List Field → Type 0
  Fit fields = AllFit (form_of Two kind) fields

  abbrev Lower : List Field → List Field → Type 0
  Lower x y = order (key_in kind x) (key_in kind y) ≡ Less

  pub each_fits : (own : List Entry) (all : AllByRecursion (IsRowOf kind) own) → AllByRecursion Fit (all_lines own all)
  each_fits [] all = tt
  each_fits (e ∷ es) all = all_joined Fit (lines_in kind e all.0) (all_lines es all.1) (lines_are kind e all.0).each (each_fits es all.1)

  pub lines_spelt : (own : List Entry) (all : AllByRecursion (IsRowOf kind) own) → entries_text own ≡ flat_map (text_of kind) (all_lines own all)
  lines_spelt [] all = refl
  lines_spelt (e ∷ es) all =
      ap (λ t. t ++ entries_text es) (lines_are kind e all.0).spelt
      ∙ (ap (λ t. flat_map (text_of kind) (lines_in kind e all.0) ++ t) (lines_spelt es all.1) ∙ sym (flat_map-append (text_of kind) (lines_in kind e all.0) (all_lines es all.1)))

  below_rest : (e : Entry) (is : IsRowOf kind e) (es : List Entry) (all : AllByRecursion (IsRowOf kind) es) → AllByRecursion (λ f. same (entry_name e) (entry_name f) ≡ false) es
      → AllByRecursion (λ f. is_lt (order (line_key kind f) (line_key kind e)) ≡ false) es → AllByRecursion (λ x. AllByRecursion (Lower x) (all_lines es all)) (lines_in kind e is)
  below_rest e is [] all apart low = all_true (λ x. AllByRecursion (Lower x) []) (λ x. tt) (lines_in kind e is)
  below_rest e is (f ∷ fs) all apart low =
      let here = rows_below kind e f is all.0 apart.0 low.0 in
      let there = below_rest e is fs all.1 apart.1 low.1 in
      let both = all_both (λ x. AllByRecursion (Lower x) (lines_in kind f all.0)) (λ x. AllByRecursion (Lower x) (all_lines fs all.1)) (lines_in kind e is) here there in
      all_weaker (λ x. AllByRecursion (Lower x) (lines_in kind f all.0) × AllByRecursion (Lower x) (all_lines fs all.1)) (λ x. AllByRecursion (Lower x) (lines_in kind f all.0 ++ all_lines fs all.1))
      (λ x two. all_joined (Lower x) (lines_in kind f all.0) (all_lines fs all.1) two.0 two.1) (lines_in kind e is) both

  pub lines_rise : (own : List Entry) (all : AllByRecursion (IsRowOf kind) own) → IsDistinct (distinct_by entry_name) own → Rises (line_key kind) own → Ascends (key_in kind) (all_lines own all)
  lines_rise [] all apart rises = tt
  lines_rise (e ∷ es) all apart rises =
      ascends_joined (key_in kind) (lines_in kind e all.0) (all_lines es all.1) (lines_are kind e all.0).rising (lines_rise es all.1 (IsDistinct-tail (distinct_by entry_name) e es apart) rises.1)
      (below_rest e all.0 es all.1 (IsDistinct-head (distinct_by entry_name) e es apart) rises.0)

  some_joined : {X : Type 0} (xs ys : List X) → xs ≢ [] → xs ++ ys ≢ []
  some_joined [] ys some = absurd (some refl)
  some_joined (x ∷ xs) ys some = never_none x (xs ++ ys)

  pub some_lines : (own : List Entry) (all : AllByRecursion (IsRowOf kind) own) → own ≢ [] → all_lines own all ≢ []
  some_lines [] all some = absurd (some refl)
  some_lines (e ∷ es) all some = some_joined (lines_in kind e all.0) (all_lines es all.1) (lines_are kind e all.0).some

  -- the rows of a kind among right rows
  row_of : (es before : List Entry) (e : Entry) → IsRow es before e → e.0.kind ≡ place_of kind → IsRowOf kind e
  row_of es before e (inl is) at =
      let zero : e.0.kind ≡ 0 = ap (λ (x : Entry). x.0.kind) is in
      let some = place_some kind in
      absurd (omega (arith, zero, some, at))
  row_of es before e (inr (inl (other, is))) at = subst (λ k. IsRowOf k e) (one_kind other kind (sym (row_kind other e is) ∙ at)) is
  row_of es before e (inr (inr (inl is))) at =
      let kind_is : e.0.kind ≡ 18 = ap (λ (x : Entry). x.0.kind) (is.2).row in
      let most = place_most kind in
      absurd (omega (arith, kind_is, most, at))
  row_of es before e (inr (inr (inr (inl is)))) at =
      let kind_is : e.0.kind ≡ 19 = ap (λ (x : Entry). x.0.kind) (is.says).row in
      let most = place_most kind in
      absurd (omega (arith, kind_is, most, at))
  row_of es before e (inr (inr (inr (inr is)))) at =
      let kind_is : e.0.kind ≡ 20 = ap (λ (x : Entry). x.0.kind) is.2 in
      let most = place_most kind in
      absurd (omega (arith, kind_is, most, at))

  rows_of : (all before es : List Entry) → AreRows all before es → AllByRecursion (λ e. e.0.kind ≡ place_of kind → IsRowOf kind e) es
  rows_of all before [] are = tt
  rows_of all before (e ∷ es) are = (row_of all before e are.0, rows_of all (before ++ e ∷ []) es are.1)

  pub kind_right : (es : List Entry) → AreRows es [] es → AllByRecursion (IsRowOf kind) (kind_rows (place_of kind) es)
  kind_right es are =
      has_all (IsRowOf kind) (kind_rows (place_of kind) es)
      (λ x has. let both = filter_has (λ e. e.0.kind == place_of kind) es x has in all_has (λ e. e.0.kind ≡ place_of kind → IsRowOf kind e) es (rows_of es [] es are) x both.0 (eqb-true x.0.kind (place_of kind) both.1))

  one_said : (e : Entry) → IsRowOf kind e → IsSome (line_said kind e)
  one_said e is = by_lines (lines_in kind e is) (lines_are kind e is).some (lines_are kind e is).said
    where
      by_lines : (ls : List (List Field)) → ls ≢ [] → line_said kind e ≡ first_in ls → IsSome (line_said kind e)
      by_lines [] some said = absurd (some refl)
      by_lines (l ∷ ls) some said = subst IsSome (sym said) refl

-- Rows that are right, in the order of their names
abbrev pub line_in : Kind → List Field → Line
line_in kind fields = record { kind = kind; fields = fields }

-- the rows of each kind are rows of it, no two with one name, and the site's is there
pub record AreRight (es : List Entry) : Type 0 where
  pub rows : (kind : Kind) → AllByRecursion (IsRowOf kind) (kind_rows (place_of kind) es)
  pub apart : (kind : Kind) → IsDistinct (distinct_by entry_name) (kind_rows (place_of kind) es)
  pub site : HasName es (name_of Sites [])

pub all_right : (es : List Entry) → Ascends entry_name es → AreAllRight es → AreRight es
all_right es up right = record {
  rows = λ kind. kind_right kind es right.rows;
  apart = λ kind.
      keys_apart entry_name es up (kind_rows (place_of kind) es) (pairs_filter (λ a b. a ≢ b) (λ e. e.0.kind == place_of kind) es (up_apart es up)) (λ x has. (filter_has (λ e. e.0.kind == place_of kind) es x has).0);
  site = right.needed (name_of Sites []) (inr (inl refl));
}

module _ (es : List Entry) (right : AreRight es) where
  pub all_said : (kind : Kind) → AllSaid es kind
  all_said kind = all_weaker (IsRowOf kind) (λ e. IsSome (line_said kind e)) (one_said kind) (kind_rows (place_of kind) es) (right.rows kind)

  pub own_right : (kind : Kind) (own : List Entry) → IsSection es kind own → AllByRecursion (IsRowOf kind) own
  own_right kind own s =
      recursion_from_All (IsRowOf kind) own
      (All-permutation (IsRowOf kind) (kind_rows (place_of kind) es) own s.moved (All-from_recursion (IsRowOf kind) (kind_rows (place_of kind) es) (right.rows kind)))

  pub own_apart : (kind : Kind) (own : List Entry) → IsSection es kind own → IsDistinct (distinct_by entry_name) own
  own_apart kind own s = IsDistinct-IsPermutation (distinct_by entry_name) (flips entry_name) (kind_rows (place_of kind) es) own s.moved (right.apart kind)

  abbrev pub lines_own : (kind : Kind) (own : List Entry) → IsSection es kind own → List (List Field)
  lines_own kind own s = all_lines kind own (own_right kind own s)

  own_rises : (kind : Kind) (own : List Entry) (s : IsSection es kind own) → Ascends (key_in kind) (lines_own kind own s)
  own_rises kind own s = lines_rise kind own (own_right kind own s) (own_apart kind own s) s.rises

  -- the lines, kind by kind
  abbrev pub lines_made : (kinds : List Kind) (ordered : List Entry) → AreSections es kinds ordered → List Line
  lines_made [] ordered are = []
  lines_made (kind ∷ kinds) ordered are = map (line_in kind) (lines_own kind are.0 are.2) ++ lines_made kinds are.1 are.3

  lines_fit : (kind : Kind) (ls : List (List Field)) → AllByRecursion (λ fields. AllFit (form_of Two kind) fields) ls → AllByRecursion (IsLine Two) (map (line_in kind) ls)
  lines_fit kind [] all = tt
  lines_fit kind (l ∷ ls) all = (all.0, lines_fit kind ls all.1)

  made_fit : (kinds : List Kind) (ordered : List Entry) (are : AreSections es kinds ordered) → AllByRecursion (IsLine Two) (lines_made kinds ordered are)
  made_fit [] ordered are = tt
  made_fit (kind ∷ kinds) ordered are =
      all_joined (IsLine Two) (map (line_in kind) (lines_own kind are.0 are.2)) (lines_made kinds are.1 are.3) (lines_fit kind (lines_own kind are.0 are.2) (each_fits kind are.0 (own_right kind are.0 are.2)))
      (made_fit kinds are.1 are.3)

  texts_of : (kind : Kind) (ls : List (List Field)) → flat_map line_text (map (line_in kind) ls) ≡ flat_map (text_of kind) ls
  texts_of kind [] = refl
  texts_of kind (l ∷ ls) = ap (λ t. text_of kind l ++ t) (texts_of kind ls)

  entries_joined : (xs ys : List Entry) → entries_text (xs ++ ys) ≡ entries_text xs ++ entries_text ys
  entries_joined xs ys = flat_map-append entry_text xs ys

  made_spelt : (kinds : List Kind) (ordered : List Entry) (are : AreSections es kinds ordered) → entries_text ordered ≡ flat_map line_text (lines_made kinds ordered are)
  made_spelt [] ordered are = ap entries_text are
  made_spelt (kind ∷ kinds) ordered are =
      let ls = lines_own kind are.0 are.2 in
      let here : entries_text are.0 ≡ flat_map line_text (map (line_in kind) ls) = lines_spelt kind are.0 (own_right kind are.0 are.2) ∙ sym (texts_of kind ls) in
      ap entries_text are.4
      ∙ (entries_joined are.0 are.1
      ∙ (ap (λ t. t ++ entries_text are.1) here
      ∙ (ap (λ t. flat_map line_text (map (line_in kind) ls) ++ t) (made_spelt kinds are.1 are.3) ∙ sym (flat_map-append line_text (map (line_in kind) ls) (lines_made kinds are.1 are.3)))))

  -- kinds whose numbers follow one another
  abbrev pub Follow : ℕ → List Kind → Type 0
  Follow n [] = Unit {0}
  Follow n (kind ∷ kinds) = (place_of kind ≡ suc n) × Follow (suc n) kinds

  abbrev pub Above : ℕ → Line → Type 0
  Above n line = n < place_of line.kind

  of_kind : (kind : Kind) (n : ℕ) → n < place_of kind → (ls : List (List Field)) → AllByRecursion (Above n) (map (line_in kind) ls)
  of_kind kind n lt [] = tt
  of_kind kind n lt (l ∷ ls) = (lt, of_kind kind n lt ls)

  pub made_above : (n : ℕ) (kinds : List Kind) → Follow n kinds → (ordered : List Entry) (are : AreSections es kinds ordered) → AllByRecursion (Above n) (lines_made kinds ordered are)
  made_above n [] follow ordered are = tt
  made_above n (kind ∷ kinds) follow ordered are =
      let at = follow.0 in
      all_joined (Above n) (map (line_in kind) (lines_own kind are.0 are.2)) (lines_made kinds are.1 are.3) (of_kind kind n (omega (arith, at)) (lines_own kind are.0 are.2))
      (all_weaker (Above (suc n)) (Above n) (λ l lt. omega (arith, lt)) (lines_made kinds are.1 are.3) (made_above (suc n) kinds follow.1 are.1 are.3))

  mapped_rise : (kind : Kind) (ls : List (List Field)) → Ascends (key_in kind) ls → Ascends key_of (map (line_in kind) ls)
  mapped_rise kind [] rises = tt
  mapped_rise kind (l ∷ ls) rises = (each ls rises.0, mapped_rise kind ls rises.1)
    where
      each : (ms : List (List Field)) → AllByRecursion (λ m. order (key_in kind l) (key_in kind m) ≡ Less) ms → AllByRecursion (λ x. order (key_of (line_in kind l)) (key_of x) ≡ Less) (map (line_in kind) ms)
      each [] less = tt
      each (m ∷ ms) less = (same_first (place_of kind) (key_in kind l) (key_in kind m) ∙ less.0, each ms less.1)

  higher : (kind : Kind) (n : ℕ) → place_of kind ≡ n → (ls : List (List Field)) (more : List Line) → AllByRecursion (Above n) more
      → AllByRecursion (λ x. AllByRecursion (λ y. order (key_of x) (key_of y) ≡ Less) more) (map (line_in kind) ls)
  higher kind n at [] more above = tt
  higher kind n at (l ∷ ls) more above = (
    all_weaker (Above n) (λ y. order (key_of (line_in kind l)) (key_of y) ≡ Less) (λ y lt. less_first (place_of kind) (place_of y.kind) (key_in kind l) (key_in y.kind y.fields) (omega (arith, lt, at))) more above,
    higher kind n at ls more above,
  )

  made_rise : (n : ℕ) (kinds : List Kind) → Follow n kinds → (ordered : List Entry) (are : AreSections es kinds ordered) → Ascends key_of (lines_made kinds ordered are)
  made_rise n [] follow ordered are = tt
  made_rise n (kind ∷ kinds) follow ordered are =
      let ls = lines_own kind are.0 are.2 in
      ascends_joined key_of (map (line_in kind) ls) (lines_made kinds are.1 are.3) (mapped_rise kind ls (own_rises kind are.0 are.2)) (made_rise (suc n) kinds follow.1 are.1 are.3)
      (higher kind (suc n) follow.0 ls (lines_made kinds are.1 are.3) (made_above (suc n) kinds follow.1 are.1 are.3))

  pub all_follow : Follow 0 all_kinds
  all_follow = (refl, (refl, (refl, (refl, (refl, (refl, (refl, (refl, (refl, (refl, (refl, (refl, (refl, (refl, (refl, (refl, (refl, tt)))))))))))))))))

  -- the site's line is the first
  own_some : (own : List Entry) → IsSection es Sites own → own ≢ []
  own_some own s none =
      let site = right.site in
      let there : Has (kind_rows 1 es) (name_of Sites [], site.0) = has_filter (λ e. e.0.kind == 1) es (name_of Sites [], site.0) site.1 refl in
      subst (λ l. Has l (name_of Sites [], site.0)) none (moved_has own (kind_rows 1 es) (IsPermutation-sym (kind_rows 1 es) own s.moved) (name_of Sites [], site.0) there)

  first_site : (ls : List (List Field)) (more : List Line) → ls ≢ [] → SiteFirst (map (line_in Sites) ls ++ more) × (0 < length (map (line_in Sites) ls ++ more))
  first_site [] more some = absurd (some refl)
  first_site (l ∷ ls) more some = (refl, omega arith)

  module _ (ordered : List Entry) (are : AreSections es all_kinds ordered) where
    abbrev pub dump_lines : List Line
    dump_lines = lines_made all_kinds ordered are

    begins_right : SiteFirst dump_lines × (0 < length dump_lines)
    begins_right = first_site (lines_own Sites are.0 are.2) _ (some_lines Sites are.0 (own_right Sites are.0 are.2) (own_some are.0 are.2))

    pub some_dump : 0 < length dump_lines
    some_dump = begins_right.1

    pub as_many : breaks (entries_text ordered) ≡ length dump_lines
    as_many = ap breaks (made_spelt all_kinds ordered are) ∙ lines_breaks Two dump_lines (made_fit all_kinds ordered are)

    pub is_dump : IsDump Two dump_lines (entries_dump ordered)
    is_dump = record {
      parts = ap (λ t. head_text Two ++ (t ++ end_text (breaks (entries_text ordered)))) (made_spelt all_kinds ordered are)
          ∙ ap (λ n. head_text Two ++ (flat_map line_text dump_lines ++ end_text n)) as_many;
      each = made_fit all_kinds ordered are;
      ascends = made_rise 0 all_kinds all_follow ordered are;
      site = begins_right.0;
    }

    -- a text that is the dump has no fault, and a rule is broken at one of its lines
    pub no_fault_told : (t : List ℕ) (fault : DumpFault) → fault ≢ NoMemory → t ≡ entries_dump ordered → DumpAnswer Two t (Err fault) → ⊥
    no_fault_told t fault some text answer = no_fault Two t dump_lines fault some some_dump (subst (IsDump Two dump_lines) (sym text) is_dump) answer

    pub line_within : (t : List ℕ) (rule line : ℕ) → t ≡ entries_dump ordered → RegistryAnswer Two t (Err (Invalid rule line)) → (2 ≤ line) × (line < breaks (entries_text ordered) + 2)
    line_within t rule line text answer =
        let within = breach_stands answer.0 (record { rule = rule; line = line }) answer.2 in
        let same : length (row_lines Two answer.0) ≡ length dump_lines = ap length (one_dump Two t (row_lines Two answer.0) dump_lines answer.1.0 (subst (IsDump Two dump_lines) (sym text) is_dump)) in
        let counted = lines_counted answer.0 in
        let many = as_many in
        let low = within.0 in
        let high = within.1 in
        (low, omega (arith, high, same, counted, many))

pub by_kind : (es : List Entry) (kinds : List Kind) (ordered : List Entry) → AreSections es kinds ordered → KindByKind es kinds ordered
by_kind es [] ordered are = are
by_kind es (kind ∷ kinds) ordered are = (are.0, are.1, (are.2).moved, by_kind es kinds are.1 are.3, are.4)

-- What faults tell
pub rule_broken :
    (es ordered : List Entry) (t : List ℕ) (rule line : ℕ) (fault : NoState) → Ascends entry_name es → AreAllRight es → AreSections es all_kinds ordered → t ≡ entries_dump ordered → RegistryAnswer Two t (Err (Invalid rule line))
    → (2 ≤ line → line < breaks (entries_text ordered) + 2 → TellsLine ordered line rule fault) → TellsRule es fault
rule_broken es ordered t rule line (state.Damaged name Row) up right are text answer tells = let within = line_within es (all_right es up right) ordered are t rule line text answer in tells within.0 within.1
rule_broken es ordered t rule line (state.Damaged name (Rule told)) up right are text answer tells =
    let within = line_within es (all_right es up right) ordered are t rule line text answer in
    let at = tells within.0 within.1 in
    record {
      ordered = ordered;
      kinds = by_kind es all_kinds ordered are;
      rows = answer.0;
      dump = subst (λ u. IsDump Two (row_lines Two answer.0) u) text answer.1.0;
      line = line;
      broken = subst (λ r. breach answer.0 ≡ Some (record { rule = r; line = line })) at.1 answer.2;
      at = at.0;
    }
rule_broken es ordered t rule line state.NoMemory up right are text answer tells = tt

-- Rows that tell a registry
pub registry_tells : (es ordered : List Entry) (t : List ℕ) (r : Registry) → AreSections es all_kinds ordered → t ≡ entries_dump ordered → RegistryAnswer Two t (Ok r) → TellsRegistry es
registry_tells es ordered t r are text answer = record { ordered = ordered; are = are; registry = r; valid = answer.2; text = sym text ∙ answer.1 }
