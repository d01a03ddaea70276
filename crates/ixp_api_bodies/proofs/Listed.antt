-- Items that are read one after the other.
use Rattle.std.proofs.Common.{◌≡◌, ◌<◌, ◌≤◌, ℕ, ◌+◌, length, get_or, drop, add-one, drop-cons, List, [], ◌∷◌, ◌++◌, Result, Ok, Err, refl, sym, ap, subst, append_assoc}
use Rattle.std.proofs.lemmas.List.{append-nil, drop_all}
use Rattle.serde_json.specs.Data.{Data, Items, no_items, item}
use Rattle.serde_json.specs.View.{view, items_view}
use Rattle.serde_json.specs.declared.value.Value.{Value}
use Rattle.ixp_api_json.specs.declared.pointer.CallFault.{CallFault}
use Rattle.ixp_api_bodies.specs.Answers.{read_then}
use Rattle.ixp_api_bodies.specs.Each.{Each, behind}

-- what is left begins with an item
pub next_value : (values : List Value) (i : ℕ) (x : Value) → i < length values → x ≡ get_or values i x
    → items_view (drop i values) ≡ item (view x) (items_view (drop (i + 1) values))
next_value values i x inside at = rw (add-one, drop-cons values i x, ← at) refl

pub none_left : (values : List Value) (i : ℕ) → length values ≤ i → items_view (drop i values) ≡ no_items
none_left values i over = rw (drop_all i values over) refl

-- an item more before the others
pub one_more : {A : Type 0} → (xs : List A) (x : A) (r : Result (List A) CallFault) → behind xs (read_then r (λ more. Ok (x ∷ more))) ≡ behind (xs ++ x ∷ []) r
one_more xs x (Ok ys) = ap Ok (sym (append_assoc xs (x ∷ []) ys))
one_more xs x (Err e) = refl

module _ {A : Type 0} (Says : ℕ → Data → Result A CallFault → Type 0) where
  abbrev pub SoFar : ℕ → Items → Items → List A → Type 0
  SoFar place left all xs = (r : Result (List A) CallFault) → Each Says place left r → Each Says 0 all (behind xs r)

  -- an item is read, and the rest follows
  pub read_more : (place : ℕ) (d : Data) (left ds all : Items) (xs : List A) (x : A) → left ≡ item d ds → Says place d (Ok x)
      → SoFar place left all xs → SoFar (place + 1) ds all (xs ++ x ∷ [])
  read_more place d left ds all xs x e is so_far r rest =
      subst (Each Says 0 all) (one_more xs x r)
      (so_far (read_then r (λ more. Ok (x ∷ more)))
      (subst (λ (z : Items). Each Says place z (read_then r (λ more. Ok (x ∷ more)))) (sym e) (Ok x, is, (r, rest, refl))))

  -- an item is none
  pub read_fault : (place : ℕ) (d : Data) (left ds all : Items) (xs : List A) (f : CallFault) → left ≡ item d ds → Says place d (Err f)
      → SoFar place left all xs → Each Says 0 all (Err f)
  read_fault place d left ds all xs f e is so_far = so_far (Err f) (subst (λ (z : Items). Each Says place z (Err f)) (sym e) (Err f, is, refl))

  -- all items are read
  pub read_all : (place : ℕ) (left all : Items) (xs : List A) → left ≡ no_items → SoFar place left all xs → Each Says 0 all (Ok xs)
  read_all place left all xs e so_far =
      subst (Each Says 0 all) (ap Ok (append-nil xs)) (so_far (Ok []) (subst (λ (z : Items). Each Says place z (Ok [])) (sym e) refl))
