-- Items of a list that are read one after the other.
use Rattle.std.proofs.Common.{◌≡◌, Bool, nat_le, if◌then◌else◌, ◌<◌, ◌≤◌, ℕ, suc, ◌+◌, true, false, length, List, [], ◌∷◌, ◌++◌, Option, Some, None, Result, Ok, Err, refl, sym, ap, ◌∙◌}
use Rattle.std.proofs.lemmas.Bool.{lt-leb, le-leb}
use Rattle.std.proofs.lemmas.List.{append-nil}
use Rattle.serde_json.specs.Data.{Data, Items, no_items, item}
use Rattle.serde_json.specs.View.{items_view}
use Rattle.serde_json.specs.declared.value.Value.{Value}
use Rattle.ixp_api_json.specs.declared.field.Field.{Field}
use Rattle.ixp_api_json.specs.declared.pointer.CallFault.{CallFault}
use Rattle.ixp_api_json.specs.declared.pointer.CallFault.TheVariants.{BadBody}
use Rattle.ixp_api_json.specs.declared.pointer.Pointer.TheVariants.{At, Item}
use Rattle.ixp_api_bodies.specs.Answers.{must, read_then}
use Rattle.ixp_api_bodies.specs.Asked.{items_from, list_upto, count}
use Rattle.ixp_api_bodies.specs.Each.{behind}
use Rattle.ixp_api_bodies.proofs.Listed.{one_more}

-- as many values as there are
pub counted : (xs : List Value) → count (items_view xs) ≡ length xs
counted [] = refl
counted (x ∷ xs) = ap suc (counted xs)

module _ {A : Type 0} (at : Data → Option A) (f : Field) where
  -- an item is read, and the rest follows
  pub read_more : (place : ℕ) (d : Data) (left ds : Items) (xs : List A) (x : A) (all : Result (List A) CallFault) → left ≡ item d ds → at d ≡ Some x
      → behind xs (items_from at f place left) ≡ all → behind (xs ++ x ∷ []) (items_from at f (place + 1) ds) ≡ all
  read_more place d left ds xs x all e is so_far =
      sym (one_more xs x (items_from at f (place + 1) ds))
      ∙ (ap (λ o. behind xs (read_then (must (Item f place) o) (λ y. read_then (items_from at f (place + 1) ds) (λ more. Ok (y ∷ more))))) (sym is)
      ∙ (ap (λ z. behind xs (items_from at f place z)) (sym e) ∙ so_far))

  -- an item is none
  pub read_fault : (place : ℕ) (d : Data) (left ds : Items) (xs : List A) (all : Result (List A) CallFault) → left ≡ item d ds → at d ≡ None
      → behind xs (items_from at f place left) ≡ all → ◌≡◌ {A = Result (List A) CallFault} (Err (BadBody (Item f place))) all
  read_fault place d left ds xs all e is so_far =
      ap (λ o. behind xs (read_then (must (Item f place) o) (λ y. read_then (items_from at f (place + 1) ds) (λ more. Ok (y ∷ more))))) (sym is)
      ∙ (ap (λ z. behind xs (items_from at f place z)) (sym e) ∙ so_far)

  -- all items are read
  pub read_all : (place : ℕ) (left : Items) (xs : List A) (all : Result (List A) CallFault) → left ≡ no_items → behind xs (items_from at f place left) ≡ all
      → ◌≡◌ {A = Result (List A) CallFault} (Ok xs) all
  read_all place left xs all e so_far = ap Ok (sym (append-nil xs)) ∙ (ap (λ z. behind xs (items_from at f place z)) (sym e) ∙ so_far)

  by_length : (most : ℕ) (values : List Value) (b : Bool) → nat_le (length values) most ≡ b
      → list_upto at most f (items_view values) ≡ (if b then items_from at f 0 (items_view values) else Err (BadBody (At f)))
  by_length most values b is =
      ap (λ n. if nat_le n most then items_from at f 0 (items_view values) else Err (BadBody (At f))) (counted values)
      ∙ ap (λ x. if x then items_from at f 0 (items_view values) else Err (BadBody (At f))) is

  -- more items than there may be, and no more
  pub too_many : (most : ℕ) (values : List Value) → most < length values → ◌≡◌ {A = Result (List A) CallFault} (Err (BadBody (At f))) (list_upto at most f (items_view values))
  too_many most values over = sym (by_length most values false (lt-leb (length values) most over))

  pub not_many : (most : ℕ) (values : List Value) → length values ≤ most → items_from at f 0 (items_view values) ≡ list_upto at most f (items_view values)
  not_many most values few = sym (by_length most values true (le-leb (length values) most few))
