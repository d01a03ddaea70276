-- Rows that follow one another.
use Rattle.std.proofs.Common.{◌≡◌, ℕ, zero, suc, ◌-◌, ◌<◌, List, [], ◌∷◌, ◌++◌, length, map, Option, Some, None, option_map, IfSome, slice_get, Result, Ok, Err, refl, sym, ap, ◌∙◌, arith, append_assoc, append-nil}
use Rattle.std.specs.List.{AllByRecursion}
use Rattle.std.specs.Ordering.{match_ordering}
use Rattle.std.specs.declared.cmp.Ordering.{Ordering}
use Rattle.std.specs.declared.cmp.Ordering.TheVariants.{Less, Equal, Greater}
use Rattle.ixp_num_tables.specs.Tables.{order}
use Rattle.ixp_registry.specs.declared.kind.Kind.{Kind}
use Rattle.ixp_rows_lines.specs.declared.version.Version.{Version}
use Rattle.ixp_rows_lines.specs.Fields.{Field}
use Rattle.ixp_rows.specs.declared.misread.Misread.{Misread}
use Rattle.ixp_rows.specs.declared.misread.Misread.TheVariants.{Bad, Order, Twice, NoMemory}
use Rattle.ixp_rows.specs.Reading.{Fails, ◌>>=◌, key_in, last_key, LastBelow, misplaced, unless, begun, line_at, behind_row, more_with, rows_from}

-- the rows read so far, and then what is read on
abbrev pub with_rows : List (List Field) → Result (List (List Field) × List ℕ) Misread → Result (List (List Field) × List ℕ) Misread
with_rows xs r = r >>= λ s. Ok (xs ++ s.0, s.1)

more_rows : (xs : List (List Field)) (fs : List Field) (r : Result (List (List Field) × List ℕ) Misread) → with_rows xs (r >>= λ s. Ok (fs ∷ s.0, s.1)) ≡ with_rows (xs ++ fs ∷ []) r
more_rows xs fs (Err f) = refl
more_rows xs fs (Ok s) = ap (λ ys. Ok (ys, s.1)) (sym (append_assoc xs (fs ∷ []) s.0))

-- what holds of all rows, and of one more
pub all_and : {R : Type 0} (P : R → Type 0) (rows : List R) (row : R) → AllByRecursion P rows → P row → AllByRecursion P (rows ++ row ∷ [])
all_and P [] row all here = (here, tt)
all_and P (r ∷ rows) row all here = (all.0, all_and P rows row all.1 here)

pub last_of : {R : Type 0} (rows : List R) (row : R) → slice_get (rows ++ row ∷ []) (length (rows ++ row ∷ []) - 1) ≡ Some row
last_of [] row = refl
last_of (r ∷ []) row = refl
last_of (r ∷ s ∷ rows) row =
    let e : length ((r ∷ s ∷ rows) ++ row ∷ []) - 1 ≡ suc (length ((s ∷ rows) ++ row ∷ []) - 1) = omega arith in
    rw e (last_of (s ∷ rows) row)

mapped : {R : Type 0} (F : R → List Field) (rows : List R) (row : R) → map F (rows ++ row ∷ []) ≡ map F rows ++ F row ∷ []
mapped F [] row = refl
mapped F (r ∷ rows) row = ap (λ ys. F r ∷ ys) (mapped F rows row)

module _ {R : Type 0} (F : R → List Field) (K : R → List ℕ) (v : Version) (kind : Kind) (whole : Result (List (List Field) × List ℕ) Misread) where
  -- the rows so far, with what is read from here on, are all that is read
  abbrev pub Reads : List R → List ℕ → Type 0
  Reads rows rest = (k : ℕ) × (length rest < k) × (with_rows (map F rows) (rows_from k v kind (last_key K rows) rest) ≡ whole)

  abbrev read_row : R → List ℕ → List Field × List ℕ
  read_row row after = (F row, after)

  going : (rows : List R) (rest : List ℕ) (m : ℕ) → with_rows (map F rows) (rows_from (suc m) v kind (last_key K rows) rest) ≡ whole
      → (o : Option (List Field × List ℕ)) → line_at v kind rest ≡ Some o
      → with_rows (map F rows) (more_with (rows_from m v kind) kind (last_key K rows) rest o) ≡ whole
  unfolding rows_from
  going rows rest m e o at = ap (λ r. with_rows (map F rows) (begun (length rest) r >>= λ p. more_with (rows_from m v kind) kind (last_key K rows) rest p)) (sym at) ∙ e

  stepped : (rows : List R) (row : R) (rest after : List ℕ) (k : ℕ) → length rest < k → with_rows (map F rows) (rows_from k v kind (last_key K rows) rest) ≡ whole
      → ((r : R) → key_in kind (F r) ≡ K r) → line_at v kind rest ≡ Some (Some (F row, after)) → length after < length rest
      → misplaced (length rest) (last_key K rows) (K row) ≡ None → Reads (rows ++ row ∷ []) after
  stepped rows row rest after zero less e keyed at shorter fits = absurd (omega (arith, less))
  stepped rows row rest after (suc m) less e keyed at shorter fits = (
    m,
    omega (arith, less, shorter),
    (rw (mapped F rows row, last_of rows row, sym (keyed row))
        (sym (more_rows (map F rows) (F row) (rows_from m v kind (Some (key_in kind (F row))) after))
        ∙ (ap (λ x. with_rows (map F rows) (unless x (read_row row after) >>= behind_row (rows_from m v kind) kind))
        (sym (ap (misplaced (length rest) (last_key K rows)) (keyed row) ∙ fits))
        ∙ going rows rest m e (Some (F row, after)) at))),
  )

  pub step : (rows : List R) (row : R) (rest after : List ℕ) → Reads rows rest → ((r : R) → key_in kind (F r) ≡ K r)
      → line_at v kind rest ≡ Some (Some (F row, after)) → length after < length rest → misplaced (length rest) (last_key K rows) (K row) ≡ None
      → Reads (rows ++ row ∷ []) after
  step rows row rest after reads keyed at shorter fits = stepped rows row rest after reads.0 reads.1 reads.2 keyed at shorter fits

  stopped : (rows : List R) (rest : List ℕ) (k : ℕ) → length rest < k → with_rows (map F rows) (rows_from k v kind (last_key K rows) rest) ≡ whole
      → line_at v kind rest ≡ Some None → whole ≡ Ok (map F rows, rest)
  stopped rows rest zero less e at = absurd (omega (arith, less))
  stopped rows rest (suc m) less e at = sym (going rows rest m e None at) ∙ ap (λ ys. Ok (ys, rest)) (append-nil (map F rows))

  pub stop : (rows : List R) (rest : List ℕ) → Reads rows rest → line_at v kind rest ≡ Some None → whole ≡ Ok (map F rows, rest)
  stop rows rest reads at = stopped rows rest reads.0 reads.1 reads.2 at

  failed : (rows : List R) (rest : List ℕ) (k : ℕ) → length rest < k → with_rows (map F rows) (rows_from k v kind (last_key K rows) rest) ≡ whole
      → line_at v kind rest ≡ None → whole ≡ Err (Bad (length rest))
  unfolding rows_from
  failed rows rest zero less e at = absurd (omega (arith, less))
  failed rows rest (suc m) less e at = sym e ∙ ap (λ r. with_rows (map F rows) (begun (length rest) r >>= λ p. more_with (rows_from m v kind) kind (last_key K rows) rest p)) at

  pub fail : (rows : List R) (rest : List ℕ) → Reads rows rest → line_at v kind rest ≡ None → whole ≡ Err (Bad (length rest))
  fail rows rest reads at = failed rows rest reads.0 reads.1 reads.2 at

  clashed : (rows : List R) (row : R) (rest after : List ℕ) (f : Misread) (k : ℕ) → length rest < k → with_rows (map F rows) (rows_from k v kind (last_key K rows) rest) ≡ whole
      → ((r : R) → key_in kind (F r) ≡ K r) → line_at v kind rest ≡ Some (Some (F row, after)) → misplaced (length rest) (last_key K rows) (K row) ≡ Some f → whole ≡ Err f
  clashed rows row rest after f zero less e keyed at fault = absurd (omega (arith, less))
  clashed rows row rest after f (suc m) less e keyed at fault =
      sym (going rows rest m e (Some (F row, after)) at)
      ∙ ap (λ x. with_rows (map F rows) (unless x (read_row row after) >>= behind_row (rows_from m v kind) kind))
      (ap (misplaced (length rest) (last_key K rows)) (keyed row) ∙ fault)

  pub clash : (rows : List R) (row : R) (rest after : List ℕ) (f : Misread) → Reads rows rest
      → ((r : R) → key_in kind (F r) ≡ K r) → line_at v kind rest ≡ Some (Some (F row, after)) → misplaced (length rest) (last_key K rows) (K row) ≡ Some f → whole ≡ Err f
  clash rows row rest after f reads keyed at fault = clashed rows row rest after f reads.0 reads.1 reads.2 keyed at fault

  pub fails : (f : Misread) → whole ≡ Err f → Fails f whole
  fails (Bad left) e = e
  fails (Order left) e = e
  fails (Twice left) e = e
  fails NoMemory e = tt

  -- a row that may follow is above the last
  pub above : (rows : List R) (row : R) (left : ℕ) → misplaced left (last_key K rows) (K row) ≡ None → LastBelow K rows row
  above rows row left fits = by_last (slice_get rows (length rows - 1)) fits
    where
      by_last : (o : Option R) → misplaced left (option_map K o) (K row) ≡ None → IfSome o (λ last. order (K last) (K row) ≡ Less)
      by_last None fits = tt
      by_last (Some last) fits = by_order (order (K last) (K row)) refl fits
        where
          by_order : (o : Ordering) → order (K last) (K row) ≡ o → match_ordering o None (Some (Twice left)) (Some (Order left)) ≡ None → order (K last) (K row) ≡ Less
          by_order Less e fits = e
          by_order Equal e fits = absurd cc
          by_order Greater e fits = absurd cc
