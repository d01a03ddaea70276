-- The tables that lines of ROAs make.
use Rattle.std.proofs.Common.{◌≡◌, ◌⊎◌, inl, inr, ℕ, true, false, if◌then◌else◌, List, [], ◌∷◌, ◌++◌, Some, None, append_assoc, refl, sym, ap, ◌∙◌}
use Rattle.std.proofs.lemmas.Bool.{cases_Bool, cond-true, cond-false}
use Rattle.ixp_num.specs.declared.roa.Roa.{Roa}
use Rattle.ixp_lang.specs.Meaning.{same_name, find_named, roas_named, roas_or_none}
use Rattle.ixp_lang.proofs.Grouping.{same_is}
use Rattle.ixp_eval_trial.specs.Tables.{rows_named, with_table, AreTables}

-- the first of the name in a list that is one longer
found_more : {A : Type 0} (ts : List (List ℕ × A)) (x : List ℕ × A) (n : List ℕ) (found : A) → find_named ts n ≡ Some found → find_named (ts ++ x ∷ []) n ≡ Some found
found_more [] x n found e = absurd cc
found_more (t ∷ ts) x n found e = by_case (cases_Bool (same_name t.0 n)) (found_more ts x n found) where
  by_case : (same_name t.0 n ≡ true) ⊎ (same_name t.0 n ≡ false) → (find_named ts n ≡ Some found → find_named (ts ++ x ∷ []) n ≡ Some found) → find_named (t ∷ (ts ++ x ∷ [])) n ≡ Some found
  by_case (inl is) more = cond-true (same_name t.0 n) _ _ is ∙ sym (cond-true (same_name t.0 n) _ _ is) ∙ e
  by_case (inr other) more = cond-false (same_name t.0 n) _ _ other ∙ more (sym (cond-false (same_name t.0 n) _ _ other) ∙ e)

missing_more : {A : Type 0} (ts : List (List ℕ × A)) (x : List ℕ × A) (n : List ℕ) → find_named ts n ≡ None → find_named (ts ++ x ∷ []) n ≡ (if same_name x.0 n then Some x.1 else None)
missing_more [] x n e = refl
missing_more (t ∷ ts) x n e = by_case (cases_Bool (same_name t.0 n)) (missing_more ts x n) where
  by_case : (same_name t.0 n ≡ true) ⊎ (same_name t.0 n ≡ false) → (find_named ts n ≡ None → find_named (ts ++ x ∷ []) n ≡ (if same_name x.0 n then Some x.1 else None)) → find_named (t ∷ (ts ++ x ∷ [])) n ≡ (if same_name x.0 n then Some x.1 else None)
  by_case (inl is) more = absurd (let some = sym (cond-true (same_name t.0 n) (Some t.1) (find_named ts n) is) ∙ e in cc)
  by_case (inr other) more = cond-false (same_name t.0 n) _ _ other ∙ more (sym (cond-false (same_name t.0 n) _ _ other) ∙ e)

-- one line more is grouped
pub line_grouped : (old new : List ℕ → List Roa) (p : List ℕ × Roa) (left roas : List (List ℕ × Roa)) → ((q : List ℕ) → old q ++ rows_named q (p ∷ left) ≡ rows_named q roas)
    → ((q : List ℕ) → new q ≡ (if same_name p.0 q then old q ++ p.1 ∷ [] else old q)) → (q : List ℕ) → new q ++ rows_named q left ≡ rows_named q roas
line_grouped old new p left roas before added q = by_case (cases_Bool (same_name p.0 q)) where
  by_case : (same_name p.0 q ≡ true) ⊎ (same_name p.0 q ≡ false) → new q ++ rows_named q left ≡ rows_named q roas
  by_case (inl is) =
      ap (λ r. r ++ rows_named q left) (added q ∙ cond-true (same_name p.0 q) _ _ is) ∙ append_assoc (old q) (p.1 ∷ []) (rows_named q left)
      ∙ ap (λ r. old q ++ r) (sym (cond-true (same_name p.0 q) (p.1 ∷ rows_named q left) (rows_named q left) is)) ∙ before q
  by_case (inr other) =
      ap (λ r. r ++ rows_named q left) (added q ∙ cond-false (same_name p.0 q) _ _ other)
      ∙ ap (λ r. old q ++ r) (sym (cond-false (same_name p.0 q) (p.1 ∷ rows_named q left) (rows_named q left) other)) ∙ before q

-- a name has its table already, or none, and then its lines are all among those that are left, and its ROAs are grouped
pub data HasTable (roas left : List (List ℕ × Roa)) (tables : List (List ℕ × List Roa)) (groups : List ℕ → List Roa) (n : List ℕ) : Type 0 where
  made : find_named tables n ≡ Some (rows_named n roas) → HasTable roas left tables groups n
  missing : find_named tables n ≡ None → rows_named n left ≡ rows_named n roas → groups n ≡ rows_named n roas → HasTable roas left tables groups n

abbrev pub AreSoFar : List (List ℕ × Roa) → List (List ℕ × Roa) → List (List ℕ × List Roa) → (List ℕ → List Roa) → Type 0
AreSoFar roas left tables groups = (n : List ℕ) → HasTable roas left tables groups n

pub none_so_far : (roas : List (List ℕ × Roa)) (groups : List ℕ → List Roa) → ((n : List ℕ) → groups n ≡ rows_named n roas) → AreSoFar roas roas [] groups
none_so_far roas groups are n = missing refl refl (are n)

-- the groups after those of one line's name were taken out
module _ (roas : List (List ℕ × Roa)) (p : List ℕ × Roa) (left : List (List ℕ × Roa)) (tables : List (List ℕ × List Roa)) (groups less : List ℕ → List Roa) (rows : List Roa)
    (had : rows ≡ groups p.0) (taken : (n : List ℕ) → less n ≡ (if same_name p.0 n then [] else groups n)) where
  made_now : (n : List ℕ) → HasTable roas (p ∷ left) tables groups n → (same_name p.0 n ≡ true) ⊎ (same_name p.0 n ≡ false) → HasTable roas left (tables ++ (p.0, rows) ∷ []) less n
  made_now n (made is) case = made (found_more tables (p.0, rows) n (rows_named n roas) is)
  made_now n (missing is all of) (inl same) =
      made (missing_more tables (p.0, rows) n is ∙ cond-true (same_name p.0 n) _ _ same ∙ ap Some (had ∙ ap groups (same_is p.0 n same) ∙ of))
  made_now n (missing is all of) (inr other) =
      missing (missing_more tables (p.0, rows) n is ∙ cond-false (same_name p.0 n) _ _ other) (sym (cond-false (same_name p.0 n) _ _ other) ∙ all)
      (taken n ∙ cond-false (same_name p.0 n) _ _ other ∙ of)

  -- a table more, of a name that had none
  pub table_more : AreSoFar roas (p ∷ left) tables groups → AreSoFar roas left (tables ++ (p.0, rows) ∷ []) less
  table_more are n = made_now n (are n) (cases_Bool (same_name p.0 n))

  kept_now : (n : List ℕ) → rows ≡ [] → HasTable roas (p ∷ left) tables groups n → (same_name p.0 n ≡ true) ⊎ (same_name p.0 n ≡ false) → HasTable roas left tables less n
  kept_now n none (made is) case = made is
  kept_now n none (missing is all of) (inl same) =
      absurd (
      let here : p.1 ∷ rows_named n left ≡ [] =
      sym (cond-true (same_name p.0 n) (p.1 ∷ rows_named n left) (rows_named n left) same) ∙ all ∙ sym of ∙ ap groups (sym (same_is p.0 n same)) ∙ sym had ∙ none in
      cc)
  kept_now n none (missing is all of) (inr other) =
      missing is (sym (cond-false (same_name p.0 n) _ _ other) ∙ all) (taken n ∙ cond-false (same_name p.0 n) _ _ other ∙ of)

  -- the line's name has its table
  pub table_kept : rows ≡ [] → AreSoFar roas (p ∷ left) tables groups → AreSoFar roas left tables less
  table_kept none are n = kept_now n none (are n) (cases_Bool (same_name p.0 n))

-- the next line's name gets its table, if it has none
pub next_line : (roas : List (List ℕ × Roa)) (p : List ℕ × Roa) (left : List (List ℕ × Roa)) (tables : List (List ℕ × List Roa)) (groups less : List ℕ → List Roa) (rows : List Roa)
    → rows ≡ groups p.0 → ((n : List ℕ) → less n ≡ (if same_name p.0 n then [] else groups n)) → AreSoFar roas (p ∷ left) tables groups → AreSoFar roas left (with_table tables p.0 rows) less
next_line roas p left tables groups less [] had taken are = table_kept roas p left tables groups less [] had taken refl are
next_line roas p left tables groups less (r ∷ rows) had taken are = table_more roas p left tables groups less (r ∷ rows) had taken are

pub all_tables : (roas : List (List ℕ × Roa)) (tables : List (List ℕ × List Roa)) (groups : List ℕ → List Roa) → AreSoFar roas [] tables groups → AreTables roas tables
all_tables roas tables groups are n = told (are n) where
  told : HasTable roas [] tables groups n → roas_named tables n ≡ rows_named n roas
  told (made is) = ap roas_or_none is
  told (missing is all of) = ap roas_or_none is ∙ all
