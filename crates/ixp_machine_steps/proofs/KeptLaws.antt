-- Keeping a number keeps what stands of an owner's numbers, and what was used stays used.
use Rattle.std.proofs.Common.{◌≡◌, ℕ, ◌+◌, ◌≤◌, ◌<◌, ◌⊎◌, inl, inr, Bool, true, false, nat_le, List, [], ◌∷◌, length, refl, sym, ap, ◌∙◌, subst, arith, if◌then◌else◌}
use Rattle.std.specs.declared.cmp.Ordering.{Ordering}
use Rattle.std.specs.declared.cmp.Ordering.TheVariants.{Less, Equal, Greater}
use Rattle.std.specs.Ordering.{nat_cmp, match_ordering, ordering_then, MatchOrdering}
use Rattle.std.specs.Cmp.{ranks}
use Rattle.std.specs.List.{AllByRecursion}
use Rattle.std.specs.Option.{is_some}
use Rattle.std.proofs.lemmas.Bool.{leb-true, leb-false}
use Rattle.ixp_num_tables.specs.Tables.{order, Ascends, find, put, without}
use Rattle.ixp_num_tables.proofs.Orders.{all_weaker, order_same, head_same}
use Rattle.ixp_num_tables.proofs.Places.{above_equal, find_above}
use Rattle.ixp_num_tables.proofs.TableLaws.{all_put, Ascends-put, without-absent, find-put-same-key}
use Rattle.ixp_num_tables.proofs.Looking.{look_put, look_without}
use Rattle.ixp_num_tables.proofs.Counts.{length_put}
use Rattle.ixp_machine_steps.specs.declared.kept.KeptNumber.{KeptNumber}
use Rattle.ixp_machine_steps.specs.declared.kept.KeptOwner.{KeptOwner}
use Rattle.ixp_machine_steps.specs.Kept.{kept_key, without_least, noted, ValidKept, IsSpent}

less_is : (m n : ℕ) → order (m ∷ []) (n ∷ []) ≡ Less → m < n
less_is m n e = by_order (nat_cmp m n) (ranks m n) e where
  by_order : (o : Ordering) → MatchOrdering o (m < n) (m ≡ n) (n < m) → ordering_then o Equal ≡ Less → m < n
  by_order Less h e = h
  by_order Equal h e = absurd (let bad : ⊥ = cc in bad)
  by_order Greater h e = absurd (let bad : ⊥ = cc in bad)

first_out : (k : KeptNumber) (ks : List KeptNumber) → Ascends kept_key (k ∷ ks) → without kept_key (kept_key k) (k ∷ ks) ≡ ks
first_out k ks up =
    ap (λ o. match_ordering o (k ∷ without kept_key (kept_key k) ks) (without kept_key (kept_key k) ks) (k ∷ without kept_key (kept_key k) ks)) (order_same (kept_key k))
    ∙ without-absent kept_key (kept_key k) ks (find_above kept_key (kept_key k) ks (above_equal kept_key k (kept_key k) ks (order_same (kept_key k)) up.0))

least_out : (a : ℕ) (o : KeptOwner) (ns : List KeptNumber) → Ascends kept_key ns → AllByRecursion (λ k. 0 < k.number) ns → AllByRecursion (λ k. k.place ≤ a) ns → length ns ≤ 1025 → 1024 < length ns → ValidKept a (without_least o ns)
least_out a o [] up counted places few many = absurd (omega arith)
least_out a o (k ∷ ks) up counted places few many =
    let small = k.small in
    subst (λ (xs : List KeptNumber). ValidKept a (record o { floor = k.number + 1; numbers = xs })) (sym (first_out k ks up))
    (record {
      order = up.1;
      above = all_weaker (λ t. order (kept_key k) (kept_key t) ≡ Less) (λ t. k.number + 1 ≤ t.number) (λ t e. let h = less_is k.number t.number e in omega (arith, h)) ks up.0;
      counted = counted.1;
      few = omega (arith, few);
      floor = omega (arith, small);
      places = places.1;
    })

-- keeping a number that isn't below the floor keeps what stands
pub noted_valid : (a : ℕ) (k : KeptNumber) (o : KeptOwner) → ValidKept a o → o.floor ≤ k.number → 0 < k.number → k.place ≤ a + 1 → ValidKept (a + 1) (noted k o)
noted_valid a k o s le positive place = by_room (nat_le (length (put kept_key k o.numbers)) 1024) refl where
  places : AllByRecursion (λ t. t.place ≤ a + 1) (put kept_key k o.numbers)
  places = all_put kept_key (λ t. t.place ≤ a + 1) k o.numbers place (all_weaker (λ t. t.place ≤ a) (λ t. t.place ≤ a + 1) (λ t e. omega (arith, e)) o.numbers s.places)

  by_room : (b : Bool) → nat_le (length (put kept_key k o.numbers)) 1024 ≡ b → ValidKept (a + 1) (if b then record o { numbers = put kept_key k o.numbers } else without_least o (put kept_key k o.numbers))
  by_room true e = record {
    order = Ascends-put kept_key k o.numbers s.order;
    above = all_put kept_key (λ t. o.floor ≤ t.number) k o.numbers le s.above;
    counted = all_put kept_key (λ t. 0 < t.number) k o.numbers positive s.counted;
    few = leb-true (length (put kept_key k o.numbers)) 1024 e;
    floor = s.floor;
    places = places;
  }
  by_room false e =
      let grown = length_put kept_key k o.numbers s.order in
      let few = s.few in
      least_out (a + 1) o (put kept_key k o.numbers) (Ascends-put kept_key k o.numbers s.order) (all_put kept_key (λ t. 0 < t.number) k o.numbers positive s.counted) places (omega (arith, grown, few)) (leb-false (length (put kept_key k o.numbers)) 1024 e)

least_spent : (n : ℕ) (o : KeptOwner) (ns : List KeptNumber) → AllByRecursion (λ k. o.floor ≤ k.number) ns → (is_some (find kept_key (n ∷ []) ns) ≡ true) ⊎ (n < o.floor) → IsSpent n (without_least o ns)
least_spent n o [] above (inl e) = absurd (let bad : ⊥ = cc in bad)
least_spent n o [] above (inr lt) = inr lt
least_spent n o (k ∷ ks) above (inr lt) = inr (let a = above.0 in omega (arith, a, lt))
least_spent n o (k ∷ ks) above (inl e) = by_order (order (n ∷ []) (kept_key k)) refl where
  apart : (order (n ∷ []) (kept_key k) ≡ Equal → ⊥) → IsSpent n (without_least o (k ∷ ks))
  apart far = inl (look_without kept_key is_some true (n ∷ []) (kept_key k) (k ∷ ks) far e)

  by_order : (p : Ordering) → order (n ∷ []) (kept_key k) ≡ p → IsSpent n (without_least o (k ∷ ks))
  by_order Less h = apart (λ eq. let bad : ⊥ = cc in bad)
  by_order Equal h = inr (let is = head_same n k.number [] [] h in omega (arith, is))
  by_order Greater h = apart (λ eq. let bad : ⊥ = cc in bad)

spent_either : (a n : ℕ) (k : KeptNumber) (o : KeptOwner) → ValidKept a o → o.floor ≤ k.number → (is_some (find kept_key (n ∷ []) (put kept_key k o.numbers)) ≡ true) ⊎ (n < o.floor) → IsSpent n (noted k o)
spent_either a n k o s le used = by_room (nat_le (length (put kept_key k o.numbers)) 1024) where
  by_room : (b : Bool) → IsSpent n (if b then record o { numbers = put kept_key k o.numbers } else without_least o (put kept_key k o.numbers))
  by_room true = used
  by_room false = least_spent n o (put kept_key k o.numbers) (all_put kept_key (λ t. o.floor ≤ t.number) k o.numbers le s.above) used

-- what was used stays used, and the number that is kept is
pub spent_kept : (a n : ℕ) (k : KeptNumber) (o : KeptOwner) → ValidKept a o → o.floor ≤ k.number → IsSpent n o → IsSpent n (noted k o)
spent_kept a n k o s le (inl e) = spent_either a n k o s le (inl (look_put kept_key is_some true k (n ∷ []) o.numbers (λ same was. refl) e))
spent_kept a n k o s le (inr lt) = spent_either a n k o s le (inr lt)

pub spent_now : (a : ℕ) (k : KeptNumber) (o : KeptOwner) → ValidKept a o → o.floor ≤ k.number → IsSpent k.number (noted k o)
spent_now a k o s le = spent_either a k.number k o s le (inl (ap is_some (find-put-same-key kept_key (k.number ∷ []) k o.numbers (order_same (k.number ∷ [])))))
