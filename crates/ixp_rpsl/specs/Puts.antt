-- What is added to the members of a set. Nobody has to believe this: what a set's object says is in
-- Objects.antt.
use Rattle.std.specs.Prelude.{◌≡◌, ℕ, ◌++◌, ◌==◌, Bool, true, false, List, [], Option, Some, None}
use Rattle.std.specs.List.{slice_split}
use Rattle.ixp_rpsl.specs.declared.objects.Item.{Item}

-- these items are added where there are some, and what was there stays before them
abbrev pub Puts : Option (List Item) → Bool → List Item → List Item → Type 0
Puts None fine old new = fine ≡ false
Puts (Some items) fine old new = (fine ≡ true) × (new ≡ old ++ items)

-- the parts of what is left, if something is
abbrev pub parts_of : ℕ → Option (List ℕ) → List (List ℕ)
parts_of mark None = []
parts_of mark (Some t) = slice_split (λ b. b == mark) t
