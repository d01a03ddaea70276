-- Rows of a store with the lines that their bodies begin with. Nobody needs to believe these: they serve
-- proofs.
use Rattle.std.specs.Prelude.{◌≡◌, ◌++◌, List, [], ◌∷◌, Result, IfOk, IsSome, IsTrue, Bool}
use Rattle.std.specs.List.{AllByRecursion}
use Rattle.std.specs.List.Sorted.{IsPermutation}
use Rattle.ixp_io.specs.declared.keeper.Row.{Row}
use Rattle.ixp_io.specs.Tables.{row_entry}
use Rattle.ixp_rows_lines.specs.Lines.{place_of}
use Rattle.ixp_registry.specs.declared.kind.Kind.{Kind}
use Rattle.ixp_store_rows.specs.Names.{Entry}
use Rattle.ixp_store_damage.specs.declared.sections.Placed.{Placed}
use Rattle.ixp_store_damage.specs.Loading.{kind_rows, line_key, line_said}
use Rattle.ixp_store_words.specs.Sorting.{Rises}
use denote.Ref.{Bor}

-- the row
abbrev pub placed_entry : {R : Type 0} → Placed R → Entry
placed_entry p = row_entry p.row.now

abbrev pub ref_entry : Bor Row → Entry
ref_entry r = row_entry r.now

-- the rows of a kind, in the order of their lines
pub record IsSection (es : List Entry) (kind : Kind) (own : List Entry) : Type 0 where
  pub moved : IsPermutation (kind_rows (place_of kind) es) own
  pub rises : Rises (line_key kind) own

-- kind by kind
abbrev pub AreSections : List Entry → List Kind → List Entry → Type 0
AreSections es [] ordered = ordered ≡ []
AreSections es (kind ∷ kinds) ordered = (own : List Entry) × (others : List Entry) × IsSection es kind own
    × AreSections es kinds others × (ordered ≡ own ++ others)

-- each row of the kind begins with a line of it
abbrev pub AllSaid : List Entry → Kind → Type 0
AllSaid es kind = AllByRecursion (λ e. IsSome (line_said kind e)) (kind_rows (place_of kind) es)

-- the rows of a kind were added in the order of their lines, where each of them begins with one
abbrev pub Adds : {E : Type 0} → Kind → List Entry → Result Bool E → List Entry → List Entry → Type 0
Adds kind es result old new = AllSaid es kind
    → IfOk result (λ done. IsTrue done × ((own : List Entry) × IsSection es kind own × (new ≡ old ++ own)))

abbrev pub AddsKinds : {E : Type 0} → List Kind → List Entry → Result Bool E → List Entry → List Entry
    → Type 0
AddsKinds kinds es result old new = ((kind : Kind) → AllSaid es kind)
    → IfOk result (λ done. IsTrue done × ((own : List Entry) × AreSections es kinds own × (new ≡ old ++ own)))
