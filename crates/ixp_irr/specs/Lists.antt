-- Which items a text lists.
use Rattle.std.specs.Prelude.{◌≡◌, ◌==◌, ◌+◌, ◌<◌, ◌≤◌, ℕ, Bool, true, false, not, List, [], ◌∷◌, ◌++◌, length, Result, Ok, Err}
use Rattle.std.specs.Global.{Vec}
use Rattle.std.specs.List.{filter}
use Rattle.std.specs.Str.Lines.{lines}
use Rattle.ixp_num_sorted.specs.Sorted.{IsInOrder}
use Rattle.ixp_irr.specs.declared.fault.ListFault.{ListFault}
use Rattle.ixp_irr.specs.declared.fault.ListFault.TheVariants as fault
use Rattle.ixp_irr.specs.declared.fault.Misfit.{Misfit}
use Rattle.ixp_irr.specs.declared.fault.Misfit.TheVariants as misfit

-- A line counts unless it is empty or a comment, which begins with `#`.
abbrev pub counts : List ℕ → Bool
counts [] = false
counts (c ∷ cs) = not (c == 35)

-- `says` tells of a line which item it is, or why it is none.
module _ {A : Type 0} (says : List ℕ → Result A Misfit → Type 0) where
  -- each of the lines is one of the items, in their order
  abbrev pub AreItems : List (List ℕ) → List A → Type 0
  AreItems [] [] = Unit {0}
  AreItems [] (x ∷ xs) = ⊥
  AreItems (line ∷ more) [] = ⊥
  AreItems (line ∷ more) (x ∷ xs) = says line (Ok x) × AreItems more xs

  -- the items of the lines that count
  abbrev pub Lists : List (List ℕ) → List A → Type 0
  Lists all items = AreItems (filter counts all) items

  -- line n, counted from 1, is the first that counts and is no item
  abbrev pub IsFirstFault : List (List ℕ) → Misfit → ℕ → Type 0
  IsFirstFault all why n =
      (before after : List (List ℕ)) × (line : List ℕ) × (items : List A)
      × (all ≡ before ++ line ∷ after) × Lists before items × (counts line ≡ true) × says line (Err why)
      × (n ≡ length before + 1)

  -- What a text of lines that end at a line feed, or a carriage return and a line feed, is: the list of its
  -- items in the order of their keys and each once; or its first faulty line; or, where there is none, too
  -- many items.
  abbrev pub ListAnswer : (A → List ℕ) → List ℕ → Result (List A) ListFault → Type 0
  ListAnswer key t (Ok list) =
      (items : List A) × Lists (lines t) items × IsInOrder key items list × (length list ≤ 300000)
  ListAnswer key t (Err (fault.Line n)) = IsFirstFault (lines t) misfit.Form n
  ListAnswer key t (Err (fault.Family n)) = IsFirstFault (lines t) misfit.Family n
  ListAnswer key t (Err (fault.TooLong have)) = (items list : List A) × Lists (lines t) items
      × IsInOrder key items list × (have ≡ length list) × (300000 < have)
  ListAnswer key t (Err fault.NoMemory) = Unit {0}

  -- the same before the items are put in order and counted
  abbrev pub LinesAnswer : List (List ℕ) → Result (Vec A) ListFault → Type 0
  LinesAnswer all (Ok items) = Lists all items.items
  LinesAnswer all (Err (fault.Line n)) = IsFirstFault all misfit.Form n
  LinesAnswer all (Err (fault.Family n)) = IsFirstFault all misfit.Family n
  LinesAnswer all (Err (fault.TooLong have)) = ⊥
  LinesAnswer all (Err fault.NoMemory) = Unit {0}
