-- An interface of a table, and what stands before and behind it.
use Rattle.std.proofs.Common.{◌≡◌, ℕ, Bool, true, false, ◌&&◌, ◌||◌, ◌==◌, not, List, [], ◌∷◌, ◌++◌, Some, None, refl, sym, ap, ◌∙◌, subst}
use Rattle.std.specs.List.{list_any, AllByRecursion}
use Rattle.std.specs.declared.cmp.Ordering.{Ordering}
use Rattle.std.specs.declared.cmp.Ordering.TheVariants.{Less, Equal, Greater}
use Rattle.std.specs.Ordering.{match_ordering}
use Rattle.std.proofs.lemmas.Bool.{eqb-true, or_parts}
use Rattle.ixp_num.specs.declared.addr.Addr.{Addr}
use Rattle.ixp_num_tables.specs.Tables.{order, Ascends, find, put}
use Rattle.ixp_num_tables.proofs.Orders.{order_same, as_equal_right}
use Rattle.ixp_num_tables.proofs.Places.{above_equal, above_greater, find_above}
use Rattle.ixp_registry.specs.declared.network.Interface.{Interface}
use Rattle.ixp_registry.specs.Keys.{interface_key}
use Rattle.ixp_registry.specs.Lookups.{has_addr}

pub record Split (rs : List Interface) (k : List ℕ) (i : Interface) : Type 0 where
  pub before : List Interface
  pub behind : List Interface
  pub parted : rs ≡ before ++ i ∷ behind
  pub replaced : (j : Interface) → order (interface_key j) k ≡ Equal → put interface_key j rs ≡ before ++ j ∷ behind
  pub below : AllByRecursion (λ s. order (interface_key s) k ≡ Less) before
  pub above : AllByRecursion (λ s. order (interface_key s) k ≡ Greater) behind

pub splits : (rs : List Interface) (k : List ℕ) (i : Interface) → Ascends interface_key rs → find interface_key k rs ≡ Some i → Split rs k i
splits [] k i up e = absurd (let bad : ⊥ = cc in bad)
splits (r ∷ rs) k i up e = by_order (splits rs k i up.1) (order (interface_key r) k) refl e where
  put_at : (o : Ordering) → order (interface_key r) k ≡ o → (j : Interface) → order (interface_key j) k ≡ Equal → put interface_key j (r ∷ rs) ≡ match_ordering o (r ∷ put interface_key j rs) (j ∷ rs) (j ∷ r ∷ rs)
  put_at o at j same = ap (λ o. match_ordering o (r ∷ put interface_key j rs) (j ∷ rs) (j ∷ r ∷ rs)) (as_equal_right (interface_key j) k (interface_key r) same ∙ at)

  by_order : (find interface_key k rs ≡ Some i → Split rs k i) → (o : Ordering) → order (interface_key r) k ≡ o → match_ordering o (find interface_key k rs) (Some r) (find interface_key k rs) ≡ Some i → Split (r ∷ rs) k i
  by_order again Less at e =
      let rest : Split rs k i = again e in
      record {
        before = r ∷ rest.before;
        behind = rest.behind;
        parted = ap (λ xs. r ∷ xs) rest.parted;
        replaced = λ j same. put_at Less at j same ∙ ap (λ xs. r ∷ xs) (rest.replaced j same);
        below = (at, rest.below);
        above = rest.above;
      }
  by_order again Equal at e =
      let here : r ≡ i = cc in
      record {
        before = [];
        behind = rs;
        parted = ap (λ x. x ∷ rs) here;
        replaced = λ j same. put_at Equal at j same;
        below = tt;
        above = above_equal interface_key r k rs at up.0;
      }
  by_order again Greater at e =
      let none : find interface_key k rs ≡ None = find_above interface_key k rs (above_greater interface_key r k rs at up.0) in
      absurd (let bad : ⊥ = cc in bad)

-- keys that differ are of different numbers
differs : (m n : ℕ) (o : Ordering) → order (m ∷ []) (n ∷ []) ≡ o → ¬ (o ≡ Equal) → (m == n) ≡ false
differs m n o e other = by_test (m == n) refl where
  by_test : (b : Bool) → (m == n) ≡ b → b ≡ false
  by_test false h = refl
  by_test true h = absurd (other (sym e ∙ subst (λ (x : ℕ). order (m ∷ []) (x ∷ []) ≡ Equal) (eqb-true m n h) (order_same (m ∷ []))))

pub all_below : (n : ℕ) (rs : List Interface) → AllByRecursion (λ s. order (interface_key s) (n ∷ []) ≡ Less) rs → AllByRecursion (λ s. (s.number == n) ≡ false) rs
all_below n [] all = tt
all_below n (r ∷ rs) all = (differs r.number n Less all.0 (λ e. let bad : ⊥ = cc in bad), all_below n rs all.1)

pub all_above : (n : ℕ) (rs : List Interface) → AllByRecursion (λ s. order (interface_key s) (n ∷ []) ≡ Greater) rs → AllByRecursion (λ s. (s.number == n) ≡ false) rs
all_above n [] all = tt
all_above n (r ∷ rs) all = (differs r.number n Greater all.0 (λ e. let bad : ⊥ = cc in bad), all_above n rs all.1)

-- among interfaces of other numbers no other has the address, so none has
pub none_has : (a : Addr) (n : ℕ) (rs : List Interface) → AllByRecursion (λ s. (s.number == n) ≡ false) rs → list_any (λ j. not (j.number == n) && has_addr a j) rs ≡ false → list_any (has_addr a) rs ≡ false
none_has a n [] all e = refl
none_has a n (r ∷ rs) all e =
    let parts = or_parts (not (r.number == n) && has_addr a r) (list_any (λ j. not (j.number == n) && has_addr a j) rs) e in
    let here : has_addr a r ≡ false = sym (ap (λ b. not b && has_addr a r) all.0) ∙ parts.0 in
    ap (λ b. b || list_any (has_addr a) rs) here ∙ none_has a n rs all.1 parts.1
