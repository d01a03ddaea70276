-- No two paths of the table clash, so the router takes each of them where it has memory.
use Rattle.std.proofs.Common.{◌≡◌, inl, inr, ℕ, zero, suc, ◌+◌, ◌<◌, List, [], ◌∷◌, length, Option, Some, None, Result, Ok, Err, Bool, true, false, cond, not, refl, arith, ◌&&◌}
use Rattle.matchit.specs.Rows.{RowsOf, comes_before}
use Rattle.matchit.specs.Order.{placed}
use Rattle.matchit.specs.Conflict.{conflicts}
use Rattle.matchit.specs.Router.{RouteOf, InsertsRead, Refused, route_from, nearest, nearest_from}
use Rattle.matchit.specs.Route.{Scan}
use Rattle.matchit.specs.declared.error.InsertError.{InsertError}
use Rattle.matchit.specs.declared.error.InsertError.TheVariants.{Conflict, InvalidParam, InvalidParamSegment, InvalidCatchAll, OutOfMemory}
use Rattle.ixp_api_paths.specs.declared.table.Entry.{Entry}
use Rattle.ixp_api_paths.specs.declared.table.TheConstants.{TABLE}
use Rattle.ixp_api_paths.specs.Serves.{pattern_of, pattern_at, OnlyTable, pattern_in}

-- no later pattern clashes with this one
abbrev clear_from : List ℕ → List Entry → Bool
clear_from p [] = true
clear_from p (f ∷ fs) = not (conflicts (pattern_of f.parts) p) && clear_from p fs

abbrev all_clear : List Entry → Bool
all_clear [] = true
all_clear (e ∷ es) = clear_from (pattern_of e.parts) es && all_clear es

and-left : (a b : Bool) → (a && b) ≡ true → a ≡ true
and-left true b e = refl
and-left false b e = e

and-right : (a b : Bool) → (a && b) ≡ true → b ≡ true
and-right true b e = e
and-right false b e = cc

not-true : (a : Bool) → not a ≡ true → a ≡ false
not-true true e = cc
not-true false e = refl

from-clear : (p : List ℕ) (es : List Entry) (i : ℕ) → clear_from p es ≡ true → i < length es → conflicts (pattern_at es i) p ≡ false
from-clear p [] i c l = elim l [ ]
from-clear p (f ∷ fs) zero c l = not-true _ (and-left _ _ c)
from-clear p (f ∷ fs) (suc i) c l = from-clear p fs i (and-right _ _ c) (omega arith)

two-clear : (es : List Entry) (i j : ℕ) → all_clear es ≡ true → i < length es → j < i → conflicts (pattern_at es i) (pattern_at es j) ≡ false
two-clear [] i j c l m = elim l [ ]
two-clear (e ∷ es) zero j c l m = elim m [ ]
two-clear (e ∷ es) (suc i) zero c l m = from-clear (pattern_of e.parts) es i (and-left _ _ c) (omega arith)
two-clear (e ∷ es) (suc i) (suc j) c l m = two-clear es i j (and-right _ _ c) (omega arith) (omega arith)

-- the rows are of entries before this one
abbrev pub AllBelow : ℕ → RowsOf (RouteOf ℕ) → Type 0
AllBelow n [] = Unit {0}
AllBelow n ((t, r) ∷ rs) = (r.value < n) × AllBelow n rs

later-below : (n : ℕ) (rs : RowsOf (RouteOf ℕ)) → AllBelow n rs → AllBelow (n + 1) rs
later-below n [] h = tt
later-below n ((t, r) ∷ rs) h = (omega (arith, h.0), later-below n rs h.1)

placed-below : (n : ℕ) (t : List ℕ) (r : RouteOf ℕ) (rs : RowsOf (RouteOf ℕ)) → r.value < n → AllBelow n rs → AllBelow n (placed (t, r) rs)
placed-below n t r [] l h = (l, tt)
placed-below n t r ((u, k) ∷ rs) l h =
    elim (comes_before t u) as (λ v. AllBelow n (cond v ((t, r) ∷ (u, k) ∷ rs) ((u, k) ∷ placed (t, r) rs))) [
      | true ↦ (l, h)
      | false ↦ (h.0, placed-below n t r rs l h.1)
    ]

none-near : (es : List Entry) (i : ℕ) (b : Option (RouteOf ℕ) × ℕ) (rs : RowsOf (RouteOf ℕ)) → all_clear es ≡ true → i < length es → OnlyTable es rs → AllBelow i rs
    → nearest_from (pattern_at es i) b rs ≡ b.0
none-near es i b [] c l o h = refl
none-near es i b ((t, r) ∷ rs) c l o h =
    let e : conflicts (pattern_at es i) t ≡ false = rw o.1 (two-clear es i r.value c l h.0) in
    rw e (none-near es i b rs c l o.2 h.1)

refused : (p : List ℕ) (rs : RowsOf (RouteOf ℕ)) (e : InsertError) → nearest p rs ≡ None → Refused p rs e → e ≡ OutOfMemory
refused p rs (Conflict with) n h = let (r, f, g) = h in cc
refused p rs OutOfMemory n h = refl
refused p rs InvalidParamSegment n h = absurd h
refused p rs InvalidParam n h = absurd h
refused p rs InvalidCatchAll n h = absurd h

-- why `insert` fails
fails : (es : List Entry) (o : Result Scan InsertError) (i : ℕ) (old new : RowsOf (RouteOf ℕ)) (e : InsertError) → all_clear es ≡ true → pattern_in o ≡ Some (pattern_at es i) → i < length es
    → InsertsRead o i old new (Err e) → OnlyTable es old → AllBelow i old → e ≡ OutOfMemory
fails es (Err x) i old new e c p l n h g = cc
fails es (Ok s) i old new e c p l n h g =
    let f : s.pattern ≡ pattern_at es i = cc in
    refused s.pattern old e (rw f (none-near es i (None, 0) old c l h g)) n.1

pub insert-fails : (o : Result Scan InsertError) (i : ℕ) (old new : RowsOf (RouteOf ℕ)) (e : InsertError) → pattern_in o ≡ Some (pattern_at TABLE i) → i < length TABLE
    → InsertsRead o i old new (Err e) → OnlyTable TABLE old → AllBelow i old → e ≡ OutOfMemory
insert-fails o i old new e p l n h g = fails TABLE o i old new e refl p l n h g

pub insert-below : (o : Result Scan InsertError) (i : ℕ) (old new : RowsOf (RouteOf ℕ)) (u : Unit {0}) → InsertsRead o i old new (Ok u) → AllBelow i old → AllBelow (i + 1) new
insert-below (Err x) i old new u n h = elim n.1 [ inl q ↦ cc | inr q ↦ cc ]
insert-below (Ok s) i old new u n h = rw n.1 (placed-below (i + 1) s.pattern (route_from s i) old (omega arith) (later-below i old h))
