-- Rows of a kind that were read as lines, and put into the order of these.
use Rattle.std.proofs.Common.{◌≡◌, ◌≢◌, ℕ, ◌==◌, IsSome, cond, List, [], ◌∷◌, ◌++◌, map, flat_map, Some, refl, sym, ap, ◌∙◌, subst, false}
use Rattle.std.specs.List.{AllByRecursion}
use Rattle.std.specs.List.Sorted.{IsPermutation}
use Rattle.std.specs.Ordering.{is_lt}
use Rattle.std.proofs.lemmas.Bool.{eq-eqb}
use Rattle.std.proofs.lemmas.List.Elements.{All-from_recursion, recursion_from_All}
use Rattle.std.proofs.lemmas.List.Sorted.{All-permutation, IsPermutation-map}
use Rattle.ixp_io.specs.declared.keeper.Row.{Row}
use Rattle.ixp_io.specs.Tables.{row_entry}
use Rattle.ixp_num_tables.specs.Sums.{Pairs}
use Rattle.ixp_num_tables.specs.Tables.{order, Ascends}
use Rattle.ixp_num_tables.proofs.AllItems.{all_right}
use Rattle.ixp_num_tables.proofs.Orders.{all_weaker}
use Rattle.ixp_registry.specs.declared.kind.Kind.{Kind}
use Rattle.ixp_rows_lines.specs.Fields.{Field}
use Rattle.ixp_rows.specs.Reading.{key_in}
use Rattle.ixp_store_rows.specs.Names.{Entry}
use Rattle.ixp_store_damage.specs.declared.sections.Placed.{Placed}
use Rattle.ixp_store_damage.specs.Loading.{kind_rows, line_said, line_key, key_said, row_text}
use Rattle.ixp_store_damage.specs.Placing.{placed_entry}
use Rattle.ixp_store_words.specs.Sorting.{Rises, Same}
use Rattle.ixp_store_damage.proofs.RowsByKind.{other_kind}
use Rattle.ixp_store_words.proofs.Sorting.{one_order, pairs_filter}

pub with_first : (k : ℕ) (row : Entry) (others : List Entry) → row.0.kind ≡ k → kind_rows k (row ∷ others) ≡ row ∷ kind_rows k others
with_first k row others is = ap (λ b. cond b (row ∷ kind_rows k others) (kind_rows k others)) (eq-eqb row.0.kind k is)

pub without_first : (k : ℕ) (row : Entry) (others : List Entry) → row.0.kind ≢ k → kind_rows k (row ∷ others) ≡ kind_rows k others
without_first k row others other = ap (λ b. cond b (row ∷ kind_rows k others) (kind_rows k others)) (other_kind row.0.kind k other)

module _ {R : Type 0} where
  -- where each of them begins with a line, this one does
  pub one_said : (kind : Kind) (k : ℕ) (done : List (Placed R)) (row : Row) (left others : List Row) (whole : List Entry) → left ≡ row ∷ others → row.name.kind ≡ k
      → map placed_entry done ++ kind_rows k (map row_entry left) ≡ whole → AllByRecursion (λ e. IsSome (line_said kind e)) whole → IsSome (line_said kind (row_entry row))
  one_said kind k done row left others whole first is e all =
      let parted : map placed_entry done ++ (row_entry row ∷ kind_rows k (map row_entry others)) ≡ whole =
      ap (λ l. map placed_entry done ++ l) (sym (with_first k (row_entry row) (map row_entry others) is)) ∙ (ap (λ l. map placed_entry done ++ kind_rows k (map row_entry l)) (sym first) ∙ e) in
      (all_right (λ x. IsSome (line_said kind x)) (map placed_entry done) (row_entry row ∷ kind_rows k (map row_entry others)) (subst (AllByRecursion (λ x. IsSome (line_said kind x))) (sym parted) all)).0

rises_mapped : {X Y : Type 0} (f : X → Y) (key : X → List ℕ) (other : Y → List ℕ) (xs : List X) → AllByRecursion (λ x. other (f x) ≡ key x) xs → Rises key xs → Rises other (map f xs)
rises_mapped f key other [] all rises = tt
rises_mapped f key other (x ∷ xs) all rises = (each xs all.1 rises.0, rises_mapped f key other xs all.1 rises.1)
  where
    each : (ys : List _) → AllByRecursion (λ y. other (f y) ≡ key y) ys → AllByRecursion (λ y. is_lt (order (key y) (key x)) ≡ false) ys → AllByRecursion (λ z. is_lt (order (other z) (other (f x))) ≡ false) (map f ys)
    each [] same low = tt
    each (y ∷ ys) same low = (ap (λ k. is_lt (order k (other (f x)))) same.0 ∙ (ap (λ k. is_lt (order (key y) k)) all.0 ∙ low.0), each ys same.1 low.1)

flat_after : {X Y : Type 0} (f : X → Y) (g : Y → List ℕ) (xs : List X) → flat_map (λ x. g (f x)) xs ≡ flat_map g (map f xs)
flat_after f g [] = refl
flat_after f g (x ∷ xs) = ap (λ t. g (f x) ++ t) (flat_after f g xs)

-- rows of a kind that were put into the order of their lines
pub sorted_rises :
    {R : Type 0} (kind : Kind) (fields : R → List Field) (key : R → List ℕ) (keyed : (x : R) → key_in kind (fields x) ≡ key x) (placed sorted : List (Placed R))
    → AllByRecursion (λ p. line_said kind (placed_entry p) ≡ Some (fields p.line)) placed → IsPermutation placed sorted → Rises (λ p. key p.line) sorted → Rises (line_key kind) (map placed_entry sorted)
sorted_rises kind fields key keyed placed sorted said moved rises =
    let said_too : AllByRecursion (λ p. line_said kind (placed_entry p) ≡ Some (fields p.line)) sorted =
    recursion_from_All (λ p. line_said kind (placed_entry p) ≡ Some (fields p.line)) sorted (All-permutation (λ p. line_said kind (placed_entry p) ≡ Some (fields p.line)) placed sorted moved (All-from_recursion (λ p. line_said kind (placed_entry p) ≡ Some (fields p.line)) placed said)) in
    let keys : AllByRecursion (λ p. line_key kind (placed_entry p) ≡ key p.line) sorted =
    all_weaker (λ p. line_said kind (placed_entry p) ≡ Some (fields p.line)) (λ p. line_key kind (placed_entry p) ≡ key p.line) (λ p e. ap (key_said kind) e ∙ keyed p.line) sorted said_too in
    rises_mapped placed_entry (λ p. key p.line) (line_key kind) sorted keys rises

pub in_order :
    {R : Type 0} (kind : Kind) (k : ℕ) (fields : R → List Field) (key : R → List ℕ) (keyed : (x : R) → key_in kind (fields x) ≡ key x) (placed sorted : List (Placed R)) (whole es : List Entry)
    → map placed_entry placed ≡ kind_rows k whole → AllByRecursion (λ p. line_said kind (placed_entry p) ≡ Some (fields p.line)) placed → IsPermutation placed sorted → Rises (λ p. key p.line) sorted
    → Same (kind_rows k whole) es → Pairs (λ a b. a ≢ b) whole → Ascends (line_key kind) es → flat_map (λ p. row_text kind (placed_entry p)) sorted ≡ flat_map (row_text kind) es
in_order kind k fields key keyed placed sorted whole es are said moved rises same apart up =
    let ordered : map placed_entry sorted ≡ es =
    one_order (line_key kind) (kind_rows k whole) (map placed_entry sorted) es (subst (λ l. IsPermutation l (map placed_entry sorted)) are (IsPermutation-map placed_entry placed sorted moved))
    (sorted_rises kind fields key keyed placed sorted said moved rises) (pairs_filter (λ a b. a ≢ b) (λ e. e.0.kind == k) whole apart) up same in
    flat_after placed_entry (row_text kind) sorted ∙ ap (flat_map (row_text kind)) ordered
