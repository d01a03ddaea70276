-- Rows that stand in the lists of members: how many each list has, whose they are, and their places.
use Rattle.std.proofs.Common.{◌≡◌, ◌≢◌, ℕ, suc, ◌+◌, ◌≤◌, Bool, true, false, ◌==◌, List, [], ◌∷◌, ◌++◌, length, map, flat_map, Option, Some, None, refl, sym, ap, ◌∙◌, subst, arith, if◌then◌else◌}
use Rattle.std.specs.declared.cmp.Ordering.TheVariants.{Less, Equal}
use Rattle.std.specs.List.{AllByRecursion}
use Rattle.std.proofs.lemmas.Bool.{eqb-true}
use Rattle.ixp_num_tables.specs.Tables.{order, Ascends, find, if_there, same}
use Rattle.ixp_num_tables.specs.Sums.{total, count, one_if, Often}
use Rattle.ixp_num_tables.proofs.Counts.{same_is, same_itself, length_sum}
use Rattle.ixp_num_tables.proofs.Looking.{all_found}
use Rattle.ixp_num_tables.proofs.Orders.{all_weaker, order_same}
use Rattle.ixp_num_tables.proofs.SumLaws.{total_flat, total_same, total_at}
use Rattle.ixp_registry.specs.declared.lists.IrrList.{IrrList}
use Rattle.ixp_registry.specs.declared.lists.MemberPrefix.{MemberPrefix}
use Rattle.ixp_registry.specs.declared.rules.MemberRule.{MemberRule}
use Rattle.ixp_registry.specs.declared.rules.RuleList.{RuleList}
use Rattle.ixp_registry.specs.Keys.{rules_key}
use Rattle.ixp_registry.specs.Registries.{prefixes_of, rules_in}
use Rattle.ixp_registry.specs.Rules.{place_after}
use Rattle.ixp_registry.specs.Valid.{ArePlaced}
use Rattle.ixp_registry_laws.specs.WellFormed.{IsRuleList}
use Rattle.ixp_registry_laws.proofs.LineForms.{Follow}

pub length_flat : {L X : Type 0} (rows : L → List X) (ls : List L) → length (flat_map rows ls) ≡ total (λ l. length (rows l)) ls
length_flat rows ls =
    let a = length_sum (flat_map rows ls) in
    let b = total_flat (λ x. 1) rows ls in
    let c = total_same (λ l. total (λ x. 1) (rows l)) (λ l. length (rows l)) ls (each ls) in
    omega (arith, a, b, c)
  where
    each : (ks : List _) → AllByRecursion (λ l. total (λ x. 1) (rows l) ≡ length (rows l)) ks
    each [] = tt
    each (l ∷ ks) = (sym (length_sum (rows l)), each ks)

pub length_map : {X Y : Type 0} (f : X → Y) (xs : List X) → length (map f xs) ≡ length xs
length_map f [] = refl
length_map f (x ∷ xs) = ap suc (length_map f xs)

pub lengths_same : (ls : List IrrList) → total (λ l. length (prefixes_of l)) ls ≡ total (λ l. length l.prefixes) ls
lengths_same [] = refl
lengths_same (l ∷ ls) = let e = length_map (λ p. let row : MemberPrefix = record { member = l.member; prefix = p } in row) l.prefixes in let rest = lengths_same ls in omega (arith, e, rest)

-- how many rows have the key, where all have one key
alike_counted : {X : Type 0} (f : X → List ℕ) (k g : List ℕ) (xs : List X) → AllByRecursion (λ x. f x ≡ g) xs → count (λ x. same k (f x)) xs ≡ (if same k g then length xs else 0)
alike_counted f k g xs all = by_test (same k g) refl xs all where
  by_test : (b : Bool) → same k g ≡ b → (ys : List _) → AllByRecursion (λ x. f x ≡ g) ys → count (λ x. same k (f x)) ys ≡ (if b then length ys else 0)
  by_test true h [] all = refl
  by_test false h [] all = refl
  by_test true h (y ∷ ys) all =
      let here : one_if (same k (f y)) ≡ 1 = ap (λ q. one_if (same k q)) all.0 ∙ ap one_if h in
      let rest = by_test true h ys all.1 in
      omega (arith, here, rest)
  by_test false h (y ∷ ys) all =
      let here : one_if (same k (f y)) ≡ 0 = ap (λ q. one_if (same k q)) all.0 ∙ ap one_if h in
      let rest = by_test false h ys all.1 in
      omega (arith, here, rest)

module _ {L X : Type 0} (rows : L → List X) (g : L → List ℕ) (f : X → List ℕ) where
  counted : (k : List ℕ) (ls : List L) → AllByRecursion (λ l. AllByRecursion (λ x. f x ≡ g l) (rows l)) ls
      → count (λ x. same k (f x)) (flat_map rows ls) ≡ total (λ l. if same k (g l) then length (rows l) else 0) ls
  counted k ls all =
      total_flat (λ x. one_if (same k (f x))) rows ls
      ∙ total_same (λ l. count (λ x. same k (f x)) (rows l)) (λ l. if same k (g l) then length (rows l) else 0) ls
      (all_weaker (λ l. AllByRecursion (λ x. f x ≡ g l) (rows l)) (λ l. count (λ x. same k (f x)) (rows l) ≡ (if same k (g l) then length (rows l) else 0)) (λ l a. alike_counted f k (g l) (rows l) a) ls all)

  -- no list is longer than a key may stand
  each_short : (most : ℕ) (ls : List L) → ((k : List ℕ) → total (λ l. if same k (g l) then length (rows l) else 0) ls ≤ most) → AllByRecursion (λ l. length (rows l) ≤ most) ls
  each_short most [] often = tt
  each_short most (l ∷ ls) often = (
    let own : (if same (g l) (g l) then length (rows l) else 0) ≡ length (rows l) = ap (λ b. if b then length (rows l) else 0) (same_itself (g l)) in
        let all = often (g l) in
        omega (arith, own, all),
    each_short most ls (λ k. let all = often k in omega (arith, all)),
  )

  pub listed_few : (most : ℕ) (ls : List L) → AllByRecursion (λ l. AllByRecursion (λ x. f x ≡ g l) (rows l)) ls → Often most f (flat_map rows ls) → AllByRecursion (λ l. length (rows l) ≤ most) ls
  listed_few most ls alike often = each_short most ls (λ k. let e = counted k ls alike in let o = often k in omega (arith, e, o))

  -- and where no list is longer, no key stands more often
  pub few_listed : (most : ℕ) (ls : List L) → Ascends g ls → AllByRecursion (λ l. AllByRecursion (λ x. f x ≡ g l) (rows l)) ls → AllByRecursion (λ l. length (rows l) ≤ most) ls → Often most f (flat_map rows ls)
  few_listed most ls up alike short k =
      let w : L → ℕ = λ l. if same k (g l) then length (rows l) else 0 in
      let e = counted k ls alike in
      let at = total_at g k w ls up (λ l far. other l far (same k (g l)) refl) in
      let least : if_there (find g k ls) 0 w ≤ most = by_found (find g k ls) refl in
      omega (arith, e, at, least)
    where
      other : (l : L) → (order (g l) k ≡ Equal → ⊥) → (b : Bool) → same k (g l) ≡ b → (if b then length (rows l) else 0) ≡ 0
      other l far true h = absurd (far (subst (λ (q : List ℕ). order (g l) q ≡ Equal) (sym (same_is k (g l) h)) (order_same (g l))))
      other l far false h = refl

      chosen : (n : ℕ) (b : Bool) → n ≤ most → (if b then n else 0) ≤ most
      chosen n true le = le
      chosen n false le = omega (arith, le)

      by_found : (o : Option L) → find g k ls ≡ o → if_there o 0 (λ l. if same k (g l) then length (rows l) else 0) ≤ most
      by_found None e = omega arith
      by_found (Some l) e = chosen (length (rows l)) (same k (g l)) (all_found g (λ l. length (rows l) ≤ most) k l ls short e)

-- Rules: each list has the places 1, 2 and so on, where each rule has the place after the one before it.
abbrev last_of : Option MemberRule → List MemberRule → Option MemberRule
last_of last [] = last
last_of last (x ∷ xs) = last_of (Some x) xs

placed_next : (x : MemberRule) (m n : ℕ) → x.member ≡ m → x.place ≡ n → place_after (Some x) m ≡ suc n
placed_next x m n member place = by_test (x.member == m) refl where
  by_test : (b : Bool) → (x.member == m) ≡ b → (if b then x.place + 1 else 1) ≡ suc n
  by_test true h = omega (arith, place)
  by_test false h = absurd (let bad : ⊥ = grind arith in bad)

follow_in : (last : Option MemberRule) (m n : ℕ) (xs rest : List MemberRule) → place_after last m ≡ n → AllByRecursion (λ x. x.member ≡ m) xs → Follow last (xs ++ rest) → ArePlaced n xs × Follow (last_of last xs) rest
follow_in last m n [] rest at own follow = (tt, follow)
follow_in last m n (x ∷ xs) rest at own follow =
    let place : x.place ≡ n = eqb-true x.place (place_after last x.member) follow.0 ∙ (ap (place_after last) own.0 ∙ at) in
    let behind = follow_in (Some x) m (suc n) xs rest (placed_next x m n own.0 place) own.1 follow.1 in
    ((place, behind.0), behind.1)

equal_itself : (n : ℕ) → (n == n) ≡ true
equal_itself n = by_test (n == n) refl where
  by_test : (b : Bool) → (n == n) ≡ b → b ≡ true
  by_test true h = refl
  by_test false h = absurd (let bad : ⊥ = grind arith in bad)

in_follow : (last : Option MemberRule) (m n : ℕ) (xs rest : List MemberRule) → place_after last m ≡ n → AllByRecursion (λ x. x.member ≡ m) xs → ArePlaced n xs → Follow (last_of last xs) rest → Follow last (xs ++ rest)
in_follow last m n [] rest at own placed follow = follow
in_follow last m n (x ∷ xs) rest at own placed follow =
    let is : place_after last x.member ≡ x.place = ap (place_after last) own.0 ∙ (at ∙ sym placed.0) in (
      subst (λ (p : ℕ). (x.place == p) ≡ true) (sym is) (equal_itself x.place),
      in_follow (Some x) m (suc n) xs rest (placed_next x m n own.0 placed.0) own.1 placed.1 follow,
    )

-- behind the rules of one member another one's begin at 1
other_member : (last : Option MemberRule) (m z : ℕ) (xs : List MemberRule) → xs ≢ [] → AllByRecursion (λ x. x.member ≡ m) xs → (m == z) ≡ false → place_after (last_of last xs) z ≡ 1
other_member last m z [] some own far = absurd (some refl)
other_member last m z (x ∷ []) some own far =
    let e : (x.member == z) ≡ false = ap (λ (n : ℕ). n == z) own.0 ∙ far in
    ap (λ b. if b then x.place + 1 else 1) e
other_member last m z (x ∷ y ∷ xs) some own far = other_member (Some x) m z (y ∷ xs) (λ e. let bad : ⊥ = cc in bad) own.1 far

numbers_apart : (m z : ℕ) → order (m ∷ []) (z ∷ []) ≡ Less → (m == z) ≡ false
numbers_apart m z less = by_test (m == z) refl where
  by_test : (b : Bool) → (m == z) ≡ b → b ≡ false
  by_test false h = refl
  by_test true h =
      let same : order (m ∷ []) (z ∷ []) ≡ Equal = subst (λ (n : ℕ). order (m ∷ []) (n ∷ []) ≡ Equal) (eqb-true m z h) (order_same (m ∷ [])) in
      absurd (let bad : ⊥ = cc in bad)

far_behind : (last : Option MemberRule) (l : RuleList) (ls : List RuleList) → IsRuleList l → AllByRecursion (λ k. order (rules_key l) (rules_key k) ≡ Less) ls → AllByRecursion (λ k. place_after (last_of last l.rules) k.member ≡ 1) ls
far_behind last l ls is = all_weaker (λ k. order (rules_key l) (rules_key k) ≡ Less) (λ k. place_after (last_of last l.rules) k.member ≡ 1) (λ k less. other_member last l.member k.member l.rules is.0 is.1 (numbers_apart l.member k.member less)) ls

pub follow_placed : (last : Option MemberRule) (ls : List RuleList) → Ascends rules_key ls → AllByRecursion IsRuleList ls → AllByRecursion (λ l. place_after last l.member ≡ 1) ls → Follow last (flat_map rules_in ls) → AllByRecursion (λ l. ArePlaced 1 l.rules) ls
follow_placed last [] up are far follow = tt
follow_placed last (l ∷ ls) up are far follow =
    let parts = follow_in last l.member 1 l.rules (flat_map rules_in ls) far.0 are.0.1 follow in
    (parts.0, follow_placed (last_of last l.rules) ls up.1 are.1 (far_behind last l ls are.0 up.0) parts.1)

pub placed_follow : (last : Option MemberRule) (ls : List RuleList) → Ascends rules_key ls → AllByRecursion IsRuleList ls → AllByRecursion (λ l. place_after last l.member ≡ 1) ls → AllByRecursion (λ l. ArePlaced 1 l.rules) ls → Follow last (flat_map rules_in ls)
placed_follow last [] up are far placed = tt
placed_follow last (l ∷ ls) up are far placed =
    in_follow last l.member 1 l.rules (flat_map rules_in ls) far.0 are.0.1 placed.0
    (placed_follow (last_of last l.rules) ls up.1 are.1 (far_behind last l ls are.0 up.0) placed.1)
