-- What a call of the store leaves of its last commit.
use Rattle.std.proofs.Common.{◌≡◌, ◌≤◌, ℕ, IsTrue, List, Result, Ok, Err, IfErr, OnOk, refl, ap, ◌∙◌, subst, arith}
use Rattle.sqlite_value.specs.Order.{Row}
use Rattle.sqlite_trees.specs.declared.error.StoreError.{StoreError}
use Rattle.sqlite_trees.specs.View.{View, IsClean, IsFailure, IsRolledBack, OnlyWrites, Moves, with_cursor, doubt}
use Rattle.ixp_keeper_sql.specs.Written.{KeepsLast}

-- nothing was done
pub unchanged : (v : View) → KeepsLast v v
unchanged v = record { clean = omega arith; last = λ clean up. (up, refl) }

-- one after the other
pub joined : (a b c : View) → KeepsLast a b → KeepsLast b c → KeepsLast a c
joined a b c first second =
    let here = first.clean in
    let there = second.clean in
    record { clean = omega (arith, here, there); last = λ clean up. let later = second.last clean up in let before = first.last (omega (arith, there, clean)) later.0 in (before.0, later.1 ∙ before.1) }

-- where only trees and cursors differ
writes : (old new : View) → doubt old.is_clean ≤ doubt new.is_clean → (IsClean new → OnlyWrites old new) → KeepsLast old new
writes old new clean only = record {
  clean = clean;
  last = λ is up. let same = only is in (subst (λ b. IsTrue b) (ap (λ (v : View). v.is_open) same) up, ap (λ (v : View). v.committed) same);
}

fails : (old new : View) (e : StoreError) → doubt old.is_clean ≤ doubt new.is_clean → IsFailure old new e → KeepsLast old new
fails old new e clean failure = record { clean = clean; last = λ is up. (failure.kept.was_open up, failure.kept.committed up) }

module _ {X : Type 0} where
  -- a write
  pub written : (r : Result X StoreError) (old new : View) → OnOk r (IsClean new → OnlyWrites old new) → IfErr r (IsFailure old new) → doubt old.is_clean ≤ doubt new.is_clean → KeepsLast old new
  written (Ok x) old new ok err clean = writes old new clean ok
  written (Err e) old new ok err clean = fails old new e clean err

  -- a cursor that is placed
  pub placed : (r : Result X StoreError) (old new : View) (cursor : ℕ) (left : List Row) → OnOk r (IsClean new → new ≡ with_cursor old cursor left) → IfErr r (IsFailure old new) → doubt old.is_clean ≤ doubt new.is_clean → KeepsLast old new
  placed (Ok x) old new cursor left ok err clean = record {
    clean = clean;
    last = λ is up. let same = ok is in (subst (λ b. IsTrue b) (ap (λ (v : View). v.is_open) same) up, ap (λ (v : View). v.committed) same);
  }
  placed (Err e) old new cursor left ok err clean = fails old new e clean err

  -- a cursor that moves
  pub moved : (r : Result X StoreError) (old new : View) (cursor : ℕ) → OnOk r (IsClean new → Moves old new cursor) → IfErr r (IsFailure old new) → doubt old.is_clean ≤ doubt new.is_clean → KeepsLast old new
  moved (Ok x) old new cursor ok err clean = record {
    clean = clean;
    last = λ is up. let same = (ok is).same in (subst (λ b. IsTrue b) (ap (λ (v : View). v.is_open) same) up, ap (λ (v : View). v.committed) same);
  }
  moved (Err e) old new cursor ok err clean = fails old new e clean err

  -- a row that is looked up
  pub looked : (r : Result X StoreError) (old new : View) → OnOk r (IsClean new → new ≡ old) → IfErr r (IsFailure old new) → doubt old.is_clean ≤ doubt new.is_clean → KeepsLast old new
  looked (Ok x) old new ok err clean = record {
    clean = clean;
    last = λ is up. let same = ok is in (subst (λ b. IsTrue b) (ap (λ (v : View). v.is_open) same) up, ap (λ (v : View). v.committed) same);
  }
  looked (Err e) old new ok err clean = fails old new e clean err

-- a rollback
pub undone : (old new : View) → IsRolledBack old new → doubt old.is_clean ≤ doubt new.is_clean → KeepsLast old new
undone old new back clean = record { clean = clean; last = λ is up. ((back.kept is).was_open up, (back.kept is).committed up) }
