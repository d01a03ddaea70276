-- Rows of a text, one after the other, and that each text has rows to its end.
use Rattle.std.proofs.Common.{◌≡◌, ◌≤◌, ◌+◌, ℕ, zero, suc, Bool, true, false, cond, List, [], ◌∷◌, ◌++◌, length, Option, Some, None, Ok, Err, refl, sym, ap, ◌∙◌, subst, arith, append_assoc, ◌==◌, ◌&&◌}
use Rattle.csv.specs.Machine.{Read, next_record, step, is_end, ends_at_end, fields_after, field_after}
use Rattle.csv.specs.Reading.{AreRecords, Reached, default_config, strip_bom}
use Rattle.csv.specs.declared.parser.Config.{Config}
use Rattle.csv.specs.declared.parser.State.{State}
use Rattle.csv.specs.declared.parser.State.TheVariants as st
use Rattle.ixp_num.specs.declared.roa.Roa.{Roa}
use Rattle.ixp_roa.specs.declared.fault.Misfit.{Misfit}
use Rattle.ixp_roa.specs.declared.fault.RoaFault.{RoaFault}
use Rattle.ixp_roa.specs.declared.fault.RoaFault.TheVariants as fault
use Rattle.ixp_roa.specs.CsvRoas.{AreRead, AreRoas, FirstMisfit, RowAnswer, RowTaken, TextAnswer, header_rows, is_header, under_header}
use Rattle.ixp_roa.proofs.CsvRows.{AreRoas-length, AreRoas-push}

-- the records of a text to its end

module _ (cfg : Config) where
  -- a record leaves no more bytes than there were
  no_longer : (s : State) (fields : List (List ℕ)) (field : List ℕ) (y : List ℕ) (p : Read) → next_record cfg s fields field y ≡ Some p → length p.2 ≤ length y
  unfolding next_record
  no_longer s fields field [] p e = by (ends_at_end s) e where
    by : (b : Bool) → cond b (Some (fields ++ (field ∷ []), st.StartRecord, [])) None ≡ Some p → length p.2 ≤ 0
    by true e = let same : [] ≡ p.2 = cc in subst (λ (r : List ℕ). length r ≤ 0) same (omega arith)
    by false e = absurd (let h : ⊥ = cc in h)
  no_longer s fields field (c ∷ rest) p e = on (is_end (step cfg s c).1) e (no_longer (step cfg s c).0 (fields_after (step cfg s c).1 fields field) (field_after (step cfg s c).1 c field) rest p) where
    on : (b : Bool) → cond b (Some (fields_after (step cfg s c).1 fields field, (step cfg s c).0, rest)) (next_record cfg (step cfg s c).0 (fields_after (step cfg s c).1 fields field) (field_after (step cfg s c).1 c field) rest) ≡ Some p
        → (next_record cfg (step cfg s c).0 (fields_after (step cfg s c).1 fields field) (field_after (step cfg s c).1 c field) rest ≡ Some p → length p.2 ≤ length rest) → length p.2 ≤ suc (length rest)
    on true e later = let same : rest ≡ p.2 = cc in subst (λ (r : List ℕ). length r ≤ suc (length rest)) same (omega arith)
    on false e later = let le = later e in omega arith

  shorter : (s : State) (c : ℕ) (rest : List ℕ) (p : Read) → next_record cfg s [] [] (c ∷ rest) ≡ Some p → length p.2 ≤ length rest
  unfolding next_record
  shorter s c rest p e = on (is_end (step cfg s c).1) e where
    on : (b : Bool) → cond b (Some (fields_after (step cfg s c).1 [] [], (step cfg s c).0, rest)) (next_record cfg (step cfg s c).0 (fields_after (step cfg s c).1 [] []) (field_after (step cfg s c).1 c []) rest) ≡ Some p → length p.2 ≤ length rest
    on true e = let same : rest ≡ p.2 = cc in subst (λ (r : List ℕ). length r ≤ length rest) same (omega arith)
    on false e = no_longer (step cfg s c).0 (fields_after (step cfg s c).1 [] []) (field_after (step cfg s c).1 c []) rest p e

  abbrev HasRows : State → List ℕ → Type 0
  HasRows s y = (rows : List (List (List ℕ))) × AreRecords cfg s y rows

  no_more : (s : State) (y : List ℕ) → next_record cfg s [] [] y ≡ None → HasRows s y
  unfolding Reached
  no_more s y e = ([], (s, y, (refl, refl), e))

  one_more : (s : State) (y : List ℕ) (p : Read) → next_record cfg s [] [] y ≡ Some p → HasRows p.1 p.2 → HasRows s y
  unfolding Reached
  one_more s y p e (rows, (s2, ys, reached, none)) = (p.0 ∷ rows, (s2, ys, (p, e, refl, reached), none))

  onward : (s : State) (y : List ℕ) (o : Option Read) → next_record cfg s [] [] y ≡ o → ((p : Read) → next_record cfg s [] [] y ≡ Some p → HasRows p.1 p.2) → HasRows s y
  onward s y None e later = no_more s y e
  onward s y (Some p) e later = one_more s y p e (later p e)

  at_end : (s : State) → HasRows s []
  unfolding next_record
  at_end s = by (ends_at_end s) refl where
    by : (b : Bool) → ends_at_end s ≡ b → HasRows s []
    by true e = one_more s [] (([] ∷ []), st.StartRecord, []) (ap (λ b. cond b (Some (([] ∷ []), st.StartRecord, [])) None) e) (no_more st.StartRecord [] refl)
    by false e = no_more s [] (ap (λ b. cond b (Some (([] ∷ []), st.StartRecord, [])) None) e)

  to_end : (n : ℕ) (s : State) (y : List ℕ) → length y ≤ n → HasRows s y
  to_end n s [] short = at_end s
  to_end zero s (c ∷ rest) short = absurd (let h : ⊥ = omega arith in h)
  to_end (suc n) s (c ∷ rest) short = onward s (c ∷ rest) (next_record cfg s [] [] (c ∷ rest)) refl (λ p e. to_end n p.1 p.2 (let le = shorter s c rest p e in omega arith))

  joined : (s s1 : State) (xs y : List ℕ) (rows more : List (List (List ℕ))) → Reached cfg s xs rows s1 y → AreRecords cfg s1 y more → AreRecords cfg s xs (rows ++ more)
  unfolding Reached
  joined s s1 xs y [] more reached are = subst (λ a. AreRecords cfg a xs more) (sym reached.0) (subst (λ b. AreRecords cfg s1 b more) (sym reached.1) are)
  joined s s1 xs y (r ∷ rows) more (p, e, same, reached) are = let (s2, ys, later, none) = joined p.1 s1 p.2 y rows more reached are in (s2, ys, (p, e, same, later), none)

  pub completed : (s s1 : State) (xs y : List ℕ) (rows : List (List (List ℕ))) (r : List (List ℕ)) → Reached cfg s xs (rows ++ r ∷ []) s1 y → (more : List (List (List ℕ))) × AreRecords cfg s xs (rows ++ r ∷ more)
  completed s s1 xs y rows r reached =
      let end = to_end (length y) s1 y (omega arith) in
      (end.0, subst (AreRecords cfg s xs) (append_assoc rows (r ∷ []) end.0) (joined s s1 xs y (rows ++ r ∷ []) end.0 reached end.1))

-- one more row

no_roas : (roas : List Roa) → AreRoas [] roas → length roas ≡ 0
no_roas [] are = refl
no_roas (r ∷ rs) are = absurd are

-- a row that is no header stands behind the others
pub behind : (rows : List (List (List ℕ))) (row : List (List ℕ)) (rest : List (List (List ℕ))) (before : ℕ) (roas : List Roa) → AreRead rows before roas → (before + length roas == 0 && is_header row) ≡ false
    → (under_header (rows ++ row ∷ rest) ≡ under_header rows ++ row ∷ rest) × (header_rows (rows ++ row ∷ rest) ≡ header_rows rows)
behind [] row rest before roas are e =
    let none = no_roas roas are.0 in
    let zero_ : before + length roas ≡ 0 = let b = are.1 in omega arith in
    let plain : is_header row ≡ false = sym (ap (λ n. n == 0 && is_header row) zero_) ∙ e in
    (ap (λ b. cond b rest (row ∷ rest)) plain, ap (λ b. cond b 1 0) plain)
behind (x ∷ xs) row rest before roas are e = (by (is_header x), refl) where
  by : (b : Bool) → cond b (xs ++ row ∷ rest) (x ∷ (xs ++ row ∷ rest)) ≡ cond b xs (x ∷ xs) ++ row ∷ rest
  by true = refl
  by false = refl

pub one_roa : (rows : List (List (List ℕ))) (row : List (List ℕ)) (before : ℕ) (roas : List Roa) (r : Roa) → AreRead rows before roas → (before + length roas == 0 && is_header row) ≡ false → RowAnswer row (Ok r) → AreRead (rows ++ row ∷ []) before (roas ++ r ∷ [])
one_roa rows row before roas r are e is =
    let both = behind rows row [] before roas are e in
    (subst (λ x. AreRoas x (roas ++ r ∷ [])) (sym both.0) (AreRoas-push (under_header rows) roas row r are.0 is), are.1 ∙ sym both.1, are.2)

pub misfit_at : (rows : List (List (List ℕ))) (row : List (List ℕ)) (before : ℕ) (roas : List Roa) (why : Misfit) (n : ℕ) → AreRead rows before roas → (before + length roas == 0 && is_header row) ≡ false → RowAnswer row (Err why)
    → n ≡ before + length roas + 1 → (rest : List (List (List ℕ))) → FirstMisfit (rows ++ row ∷ rest) why n
misfit_at rows row before roas why n are e is at rest =
    let both = behind rows row rest before roas are e in
    let size = AreRoas-length (under_header rows) roas are.0 in
    let head = both.1 in
    let count = are.1 in
    (roas, under_header rows, row, rest, both.0, are.0, is, omega arith)

-- what was reached when a row is misread, whatever it is told as
pub misread : (t : List ℕ) (rows : List (List (List ℕ))) (row : List (List ℕ)) (roas : List Roa) (f : RoaFault) (s : State) (y : List ℕ) → Reached default_config st.StartRecord (strip_bom t) (rows ++ row ∷ []) s y → RowTaken rows row roas (Err f) → TextAnswer t (Err f)
misread t rows row roas (fault.Row n) s y reached taken =
    let whole = completed default_config st.StartRecord s (strip_bom t) y rows row reached in
    (rows ++ row ∷ whole.0, whole.1, taken whole.0)
misread t rows row roas (fault.MaxLength n) s y reached taken =
    let whole = completed default_config st.StartRecord s (strip_bom t) y rows row reached in
    (rows ++ row ∷ whole.0, whole.1, taken whole.0)
misread t rows row roas (fault.TooMany n) s y reached taken = taken
misread t rows row roas fault.NoMemory s y reached taken = tt
