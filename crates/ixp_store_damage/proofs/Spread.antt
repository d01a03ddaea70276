-- How many rows a table has whose rows name rows of another one.
use Rattle.std.proofs.Common.{◌≡◌, ◌≢◌, inl, inr, ℕ, suc, zero, ◌+◌, ◌*◌, ◌≤◌, Bool, true, false, ◌==◌, nat_le, List, [], ◌∷◌, ◌++◌, map, flat_map, length, length-append, Option, Some, None, refl, sym, ap, ◌∙◌, subst, arith}
use Rattle.std.specs.declared.cmp.Ordering.TheVariants.{Equal}
use Rattle.std.specs.List.{AllByRecursion}
use Rattle.std.specs.Option.{is_some}
use Rattle.std.proofs.lemmas.Bool.{and_parts, leb-true, eqb-true, eq-eqb}
use Rattle.ixp_num.specs.AddressForms.{version_of}
use Rattle.ixp_num.specs.declared.family.Family.{Family}
use Rattle.ixp_num.specs.declared.family.Family.TheVariants.{V4, V6}
use Rattle.ixp_num_tables.specs.Tables.{order, Ascends, find, if_there, same}
use Rattle.ixp_num_tables.specs.Sums.{total, count, one_if, Often}
use Rattle.ixp_num_tables.proofs.AllItems.{all_true}
use Rattle.ixp_num_tables.proofs.Counts.{same_is, same_itself, length_sum}
use Rattle.ixp_num_tables.proofs.Looking.{all_found}
use Rattle.ixp_num_tables.proofs.Orders.{all_weaker, order_same, order_equal}
use Rattle.ixp_num_tables.proofs.SumLaws.{total_least, total_const, exchanged, total_at}
use Rattle.ixp_num_tables.proofs.TableLaws.{find-key}
use Rattle.ixp_registry.specs.declared.members.Member.{Member}
use Rattle.ixp_registry.specs.declared.members.Owner.{Owner}
use Rattle.ixp_registry.specs.declared.members.Owner.TheVariants.{Staff, Member as Of}
use Rattle.ixp_registry.specs.Keys.{member_key}
use Rattle.ixp_registry.specs.Lookups.{has_member, has_owner}
use Rattle.ixp_registry.specs.Words.{is_staff_number, owner_numbers}
use Rattle.ixp_store_words.specs.Sorting.{Has}

-- Lengths
module _ {X Y : Type 0} where
  pub length_mapped : (f : X → Y) (xs : List X) → length (map f xs) ≡ length xs
  length_mapped f [] = refl
  length_mapped f (x ∷ xs) = let e = length_mapped f xs in omega (arith, e)

  pub length_flat : (most : ℕ) (f : X → List Y) (xs : List X) → AllByRecursion (λ x. length (f x) ≤ most) xs → length (flat_map f xs) ≤ length xs * most
  length_flat most f [] all = omega arith
  length_flat most f (x ∷ xs) all =
      let e = length_flat most f xs all.1 in
      let h = all.0 in
      let j = length-append (f x) (flat_map f xs) in
      let m : (1 + length xs) * most ≡ most + length xs * most = omega arith in
      omega (arith, e, h, j, m)

-- a key that is among others is counted
counted : (ks : List (List ℕ)) (x : List ℕ) → Has ks x → 1 ≤ count (λ k. same k x) ks
counted [] x has = absurd has
counted (k ∷ ks) x (inl e) =
    let one : one_if (same k x) ≡ 1 = ap one_if (ap (same k) e ∙ same_itself k) in
    omega (arith, one)
counted (k ∷ ks) x (inr has) = let e = counted ks x has in omega (arith, e)

-- rows that name some of these keys, each so often at most
pub spread : {C : Type 0} (most : ℕ) (f : C → List ℕ) (cs : List C) (ks : List (List ℕ)) → AllByRecursion (λ c. Has ks (f c)) cs → Often most f cs → length cs ≤ length ks * most
spread {C = C} most f cs ks there often =
    let ones = length_sum cs in
    let least : total (λ (c : C). 1) cs ≤ total (λ (c : C). total (λ k. one_if (same k (f c))) ks) cs =
    total_least (λ (c : C). 1) (λ c. total (λ k. one_if (same k (f c))) ks) cs (all_weaker (λ c. Has ks (f c)) (λ c. 1 ≤ total (λ k. one_if (same k (f c))) ks) (λ c has. counted ks (f c) has) cs there) in
    let turned = exchanged (λ (c : C) k. one_if (same k (f c))) cs ks in
    let most_of : total (λ k. total (λ c. one_if (same k (f c))) cs) ks ≤ total (λ (k : List ℕ). most) ks =
    total_least (λ k. total (λ c. one_if (same k (f c))) cs) (λ (k : List ℕ). most) ks (all_true (λ k. total (λ c. one_if (same k (f c))) cs ≤ most) often ks) in
    let all = total_const (λ (k : List ℕ). most) most ks (all_true (λ (k : List ℕ). most ≡ most) (λ k. refl) ks) in
    omega (arith, ones, least, turned, most_of, all)

-- a key of its own stands once
pub once : {R : Type 0} (key : R → List ℕ) (rs : List R) → Ascends key rs → Often 1 key rs
once {R = R} key rs up k = by_row (find key k rs) (total_at key k (λ r. one_if (same k (key r))) rs up other)
  where
    by_bool : (r : R) (b : Bool) → same k (key r) ≡ b → (order (key r) k ≡ Equal → ⊥) → one_if b ≡ 0
    by_bool r true e apart = absurd (apart (subst (λ q. order (key r) q ≡ Equal) (sym (same_is k (key r) e)) (order_same (key r))))
    by_bool r false e apart = refl

    other : (r : R) → (order (key r) k ≡ Equal → ⊥) → one_if (same k (key r)) ≡ 0
    other r apart = by_bool r (same k (key r)) refl apart

    one_most : (b : Bool) → one_if b ≤ 1
    one_most true = omega arith
    one_most false = omega arith

    by_row : (o : Option R) → count (λ r. same k (key r)) rs ≡ if_there o 0 (λ r. one_if (same k (key r))) → count (λ r. same k (key r)) rs ≤ 1
    by_row None e = omega (arith, e)
    by_row (Some r) e = let most = one_most (same k (key r)) in omega (arith, e, most)

-- Keys of members, of owners, and of members' lists
mapped_has : {X Y : Type 0} (f : X → Y) (xs : List X) → AllByRecursion (λ x. Has (map f xs) (f x)) xs
mapped_has f [] = tt
mapped_has f (x ∷ xs) = (inl refl, all_weaker (λ y. Has (map f xs) (f y)) (λ y. Has (map f (x ∷ xs)) (f y)) (λ y has. inr has) xs (mapped_has f xs))

pub member_there : (ms : List Member) (n : ℕ) → has_member ms n ≡ true → Has (map member_key ms) (n ∷ [])
member_there ms n e = by_row (find member_key (n ∷ []) ms) refl e
  where
    by_row : (o : Option Member) → find member_key (n ∷ []) ms ≡ o → is_some o ≡ true → Has (map member_key ms) (n ∷ [])
    by_row None f h = absurd (let bad : false ≡ true = h in cc)
    by_row (Some m) f h =
        subst (Has (map member_key ms)) (order_equal (member_key m) (n ∷ []) (find-key member_key (n ∷ []) m ms f))
        (all_found member_key (λ x. Has (map member_key ms) (member_key x)) (n ∷ []) m ms (mapped_has member_key ms) f)

-- both versions of a member's key
abbrev pub versions : List ℕ → List (List ℕ)
versions k = (k ++ 4 ∷ []) ∷ (k ++ 6 ∷ []) ∷ []

pub version_there : (ks : List (List ℕ)) (n : ℕ) (family : Family) → Has ks (n ∷ []) → Has (flat_map versions ks) (n ∷ version_of family ∷ [])
version_there [] n family has = absurd has
version_there (k ∷ ks) n V4 (inl e) = inl (ap (λ q. q ++ 4 ∷ []) e)
version_there (k ∷ ks) n V6 (inl e) = inr (inl (ap (λ q. q ++ 6 ∷ []) e))
version_there (k ∷ ks) n family (inr has) = inr (inr (version_there ks n family has))

pub versions_long : (ks : List (List ℕ)) → length (flat_map versions ks) ≡ length ks * 2
versions_long [] = refl
versions_long (k ∷ ks) = let e = versions_long ks in omega (arith, e)

-- owners: staff 1 to 16, and members
abbrev staff_keys : List (List ℕ)
staff_keys = map (λ n. 0 ∷ n ∷ []) (1 ∷ 2 ∷ 3 ∷ 4 ∷ 5 ∷ 6 ∷ 7 ∷ 8 ∷ 9 ∷ 10 ∷ 11 ∷ 12 ∷ 13 ∷ 14 ∷ 15 ∷ 16 ∷ [])

abbrev pub owner_keys : List Member → List (List ℕ)
owner_keys ms = staff_keys ++ map (λ k. 1 ∷ k) (map member_key ms)

has_any : (n : ℕ) (ns : List ℕ) → Has ns n → Has (map (λ m. 0 ∷ m ∷ []) ns) (0 ∷ n ∷ [])
has_any n [] has = absurd has
has_any n (m ∷ ms) (inl e) = inl (ap (λ x. 0 ∷ x ∷ []) e)
has_any n (m ∷ ms) (inr has) = inr (has_any n ms has)

-- a number from here on, of so many
abbrev from : ℕ → ℕ → List ℕ
from zero low = []
from (suc room) low = low ∷ from room (1 + low)

has_from : (room low n : ℕ) → low ≤ n → n + 1 ≤ low + room → Has (from room low) n
has_from zero low n least most = absurd (omega (arith, least, most))
has_from (suc room) low n least most = by_test (n == low) refl (λ apart. has_from room (1 + low) n (omega (arith, least, apart)) (omega (arith, most)))
  where
    by_test : (b : Bool) → (n == low) ≡ b → (n ≢ low → Has (from room (1 + low)) n) → Has (low ∷ from room (1 + low)) n
    by_test true e more = inl (eqb-true n low e)
    by_test false e more = inr (more (λ is. let bad : false ≡ true = sym e ∙ eq-eqb n low is in let no : ⊥ = cc in no))

staff_there : (n : ℕ) → is_staff_number (Staff n) ≡ true → Has staff_keys (0 ∷ n ∷ [])
staff_there n e =
    let parts = and_parts (nat_le 1 n) (nat_le n 16) e in
    let least = leb-true 1 n parts.0 in
    let most = leb-true n 16 parts.1 in
    has_any n (from 16 1) (has_from 16 1 n least (omega (arith, most)))

joined_left : {X : Type 0} (xs ys : List X) (x : X) → Has xs x → Has (xs ++ ys) x
joined_left [] ys x has = absurd has
joined_left (z ∷ zs) ys x (inl e) = inl e
joined_left (z ∷ zs) ys x (inr has) = inr (joined_left zs ys x has)

joined_right : {X : Type 0} (xs ys : List X) (x : X) → Has ys x → Has (xs ++ ys) x
joined_right [] ys x has = has
joined_right (z ∷ zs) ys x has = inr (joined_right zs ys x has)

with_one : (ks : List (List ℕ)) (k : List ℕ) → Has ks k → Has (map (λ q. 1 ∷ q) ks) (1 ∷ k)
with_one [] k has = absurd has
with_one (q ∷ qs) k (inl e) = inl (ap (λ x. 1 ∷ x) e)
with_one (q ∷ qs) k (inr has) = inr (with_one qs k has)

pub owner_there : (ms : List Member) (o : Owner) → is_staff_number o ≡ true → has_owner ms o ≡ true → Has (owner_keys ms) (owner_numbers o)
owner_there ms (Staff n) staff has = joined_left staff_keys (map (λ k. 1 ∷ k) (map member_key ms)) (0 ∷ n ∷ []) (staff_there n staff)
owner_there ms (Of n) staff has = joined_right staff_keys (map (λ k. 1 ∷ k) (map member_key ms)) (1 ∷ n ∷ []) (with_one (map member_key ms) (n ∷ []) (member_there ms n has))

pub owners_long : (ms : List Member) → length (owner_keys ms) ≡ 16 + length ms
owners_long ms =
    let a = length-append staff_keys (map (λ k. 1 ∷ k) (map member_key ms)) in
    let b = length_mapped (λ k. 1 ∷ k) (map member_key ms) in
    let c = length_mapped member_key ms in
    omega (arith, a, b, c)
