-- Filters of rows in order.
use Rattle.std.proofs.Common.{◌≡◌, ℕ, Bool, true, false, List, [], ◌∷◌, Option, Some, None, filter, refl, sym, ap, ◌∙◌, subst, if◌then◌else◌}
use Rattle.std.specs.declared.cmp.Ordering.{Ordering}
use Rattle.std.specs.declared.cmp.Ordering.TheVariants.{Less, Equal, Greater}
use Rattle.std.specs.Ordering.{match_ordering}
use Rattle.std.specs.List.{AllByRecursion}
use Rattle.ixp_num_tables.specs.Tables.{Ascends, find, order, put}
use Rattle.ixp_num_tables.proofs.Places.{above_equal, above_greater, find_above}
use Rattle.ixp_num_tables.proofs.TableLaws.{Ascends-put}
use Rattle.ixp_build_pending.specs.declared.rows.PendingText.{PendingText}
use Rattle.ixp_build_pending.specs.Names.{row_key}
use Rattle.ixp_build_pending.specs.Rows.{all_put, is_later, is_pending}

module _ (test : PendingText → Bool) where
  pub all_filtered : (P : PendingText → Type 0) (rs : List PendingText) → AllByRecursion P rs → AllByRecursion P (filter test rs)
  all_filtered P [] all = tt
  all_filtered P (r ∷ rs) all = by_test (test r) (all_filtered P rs all.1)
    where
      by_test : (b : Bool) → AllByRecursion P (filter test rs) → AllByRecursion P (if b then r ∷ filter test rs else filter test rs)
      by_test true rest = (all.0, rest)
      by_test false rest = rest

  pub ascends_kept : (rs : List PendingText) → Ascends row_key rs → Ascends row_key (filter test rs)
  ascends_kept [] up = tt
  ascends_kept (r ∷ rs) up = by_test (test r) (all_filtered (λ s. order (row_key r) (row_key s) ≡ Less) rs up.0) (ascends_kept rs up.1)
    where
      by_test : (b : Bool) → AllByRecursion (λ s. order (row_key r) (row_key s) ≡ Less) (filter test rs) → Ascends row_key (filter test rs) → Ascends row_key (if b then r ∷ filter test rs else filter test rs)
      by_test true above rest = (above, rest)
      by_test false above rest = rest

  pub all_passed : (rs : List PendingText) → AllByRecursion (λ r. test r ≡ true) (filter test rs)
  all_passed [] = tt
  all_passed (r ∷ rs) = by_test (test r) refl (all_passed rs)
    where
      by_test : (b : Bool) → test r ≡ b → AllByRecursion (λ r. test r ≡ true) (filter test rs) → AllByRecursion (λ r. test r ≡ true) (if b then r ∷ filter test rs else filter test rs)
      by_test true e rest = (e, rest)
      by_test false e rest = rest

  first_put : (r : PendingText) (rs : List PendingText) → AllByRecursion (λ s. order (row_key s) (row_key r) ≡ Greater) rs → put row_key r rs ≡ r ∷ rs
  first_put r [] all = refl
  first_put r (s ∷ rs) all = rw all.0 refl

  put_step : (r s : PendingText) (rs : List PendingText) (o : Ordering) (b : Bool) → order (row_key s) (row_key r) ≡ o → test s ≡ b → test r ≡ true
      → AllByRecursion (λ t. order (row_key s) (row_key t) ≡ Less) rs → filter test (put row_key r rs) ≡ put row_key r (filter test rs)
      → filter test (match_ordering o (s ∷ put row_key r rs) (r ∷ rs) (r ∷ s ∷ rs)) ≡ put row_key r (if b then s ∷ filter test rs else filter test rs)
  put_step r s rs Less true e f new above rest = rw (e, f) (ap (λ (z : List PendingText). s ∷ z) rest)
  put_step r s rs Less false e f new above rest = rw f rest
  put_step r s rs Equal true e f new above rest = rw (e, new) refl
  put_step r s rs Equal false e f new above rest =
      rw new (sym (first_put r (filter test rs) (all_filtered (λ t. order (row_key t) (row_key r) ≡ Greater) rs (above_equal row_key s (row_key r) rs e above))))
  put_step r s rs Greater true e f new above rest = rw (e, new, f) refl
  put_step r s rs Greater false e f new above rest =
      rw (new, f) (sym (first_put r (filter test rs) (all_filtered (λ t. order (row_key t) (row_key r) ≡ Greater) rs (above_greater row_key s (row_key r) rs e above))))

  -- a row that passes is put in before or after the test
  pub put_kept : (r : PendingText) (rs : List PendingText) → Ascends row_key rs → test r ≡ true → filter test (put row_key r rs) ≡ put row_key r (filter test rs)
  put_kept r [] up new = rw new refl
  put_kept r (s ∷ rs) up new = put_step r s rs (order (row_key s) (row_key r)) (test s) refl refl new up.0 (put_kept r rs up.1 new)

  pub puts_kept : (fresh rs : List PendingText) → Ascends row_key rs → AllByRecursion (λ r. test r ≡ true) fresh → filter test (all_put fresh rs) ≡ all_put fresh (filter test rs)
  puts_kept [] rs up new = refl
  puts_kept (r ∷ fresh) rs up new =
      puts_kept fresh (put row_key r rs) (Ascends-put row_key r rs up) new.1 ∙ ap (all_put fresh) (put_kept r rs up new.0)

  -- what a look-up finds after it
  abbrev pub kept_or_none : Option PendingText → Option PendingText
  kept_or_none None = None
  kept_or_none (Some r) = if test r then Some r else None

  find_step : (k : List ℕ) (r : PendingText) (rs : List PendingText) (o : Ordering) (b : Bool) → order (row_key r) k ≡ o → test r ≡ b
      → AllByRecursion (λ t. order (row_key r) (row_key t) ≡ Less) rs → find row_key k (filter test rs) ≡ kept_or_none (find row_key k rs)
      → find row_key k (if b then r ∷ filter test rs else filter test rs) ≡ kept_or_none (match_ordering o (find row_key k rs) (Some r) (find row_key k rs))
  find_step k r rs Less true e f above rest = rw e rest
  find_step k r rs Less false e f above rest = rest
  find_step k r rs Equal true e f above rest = rw (e, f) refl
  find_step k r rs Equal false e f above rest =
      find_above row_key k (filter test rs) (all_filtered (λ t. order (row_key t) k ≡ Greater) rs (above_equal row_key r k rs e above))
      ∙ sym (ap (λ c. if c then Some r else None) f)
  find_step k r rs Greater true e f above rest = rw e rest
  find_step k r rs Greater false e f above rest = rest

  pub find_kept : (k : List ℕ) (rs : List PendingText) → Ascends row_key rs → find row_key k (filter test rs) ≡ kept_or_none (find row_key k rs)
  find_kept k [] up = refl
  find_kept k (r ∷ rs) up = find_step k r rs (order (row_key r) k) (test r) refl refl up.0 (find_kept k rs up.1)

-- two tests, in either order
pub twice : (p q : PendingText → Bool) (rs : List PendingText) → filter p (filter q rs) ≡ filter q (filter p rs)
twice p q [] = refl
twice p q (r ∷ rs) = by_tests (p r) (q r) refl refl (twice p q rs)
  where
    by_tests : (a b : Bool) → p r ≡ a → q r ≡ b → filter p (filter q rs) ≡ filter q (filter p rs) → filter p (filter q (r ∷ rs)) ≡ filter q (filter p (r ∷ rs))
    by_tests true true e f rest = rw (f, e, f) (ap (λ (z : List PendingText). r ∷ z) rest)
    by_tests true false e f rest = rw (f, e, f) rest
    by_tests false true e f rest = rw (f, e) rest
    by_tests false false e f rest = rw (f, e) rest

pub ascends_filtered : (rs : List PendingText) → Ascends row_key rs → Ascends row_key (filter is_pending rs)
ascends_filtered rs up = ascends_kept is_pending rs up

pub all_pass : (rs : List PendingText) → AllByRecursion (λ r. is_pending r ≡ true) (filter is_pending rs)
all_pass rs = all_passed is_pending rs
