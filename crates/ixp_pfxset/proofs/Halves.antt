-- The two halves of a prefix: what they are, and that what lies in a prefix lies in one of them.
use Rattle.std.proofs.Common.{◌≡◌, ◌≢◌, ◌≤◌, ◌<◌, ◌+◌, ◌-◌, ◌*◌, ◌/◌, ◌%◌, ◌^◌, ℕ, suc, Bool, true, false, not, List, ◌⊎◌, inl, inr, ◌↔◌, sym, ap, ◌∙◌, subst, arith}
use Rattle.std.specs.List.{Contains}
use Rattle.std.proofs.lemmas.Bool.{cases_eq, not-true, not_from_false, false_from_ne_true}
use Rattle.ixp_num.specs.Families.{bits_of, IsPrefix}
use Rattle.ixp_num.specs.Prefixes.{covers, first_bits, IsParent}
use Rattle.ixp_num.specs.declared.family.Family.{Family}
use Rattle.ixp_num.specs.declared.family.Family.TheVariants.{V4, V6}
use Rattle.ixp_num.specs.declared.prefix.Prefix.{Prefix}
use Rattle.ixp_pfxset.specs.BlockList.{front}
use Rattle.ixp_pfxset.specs.Plain.{Fills, IsTop}
use Rattle.ixp_pfxset.proofs.Covering.{covers_says, covers_itself, covers_chain, covers_between, covers_equal, moved_bits, same_bits, front_len, front_covers, parent_is}
use Rattle.ixp_pfxset.proofs.Filling.{number, shorter_bits, part, part_covered, place_in}

-- the bits of a prefix that is one bit longer
half_of : (p a : Prefix) → covers p a ≡ true → a.len ≡ p.len + 1 → number a / 2 ≡ number p
half_of p a over len =
    let is = covers_says p a over in
    let one : a.len - p.len ≡ 1 = omega arith in
    let fewer : first_bits a.family a.len a.value / 2 ^ (a.len - p.len) ≡ first_bits a.family p.len a.value = shorter_bits a.family p.len a.len a.value is.len a.short in
    let two : first_bits a.family a.len a.value / 2 ^ 1 ≡ first_bits a.family p.len a.value = subst (λ k. first_bits a.family a.len a.value / 2 ^ k ≡ first_bits a.family p.len a.value) one fewer in
    two ∙ (ap (λ f. first_bits f p.len a.value) (sym is.family) ∙ is.bits)

third : (c a b m : ℕ) → c / 2 ≡ m → a / 2 ≡ m → b / 2 ≡ m → (c ≡ a → ⊥) → a ≢ b → c ≡ b
third c a b m x y z other apart = omega arith

-- what holds of all prefixes of a length in both halves holds of all in the whole
pub both_halves : (P : Prefix → Type 0) (l : ℕ) (p a b : Prefix) → IsParent a p → IsParent b p → number a ≢ number b → a.len ≤ l
    → ((q : Prefix) → q.len ≡ l → covers a q ≡ true → P q) → ((q : Prefix) → q.len ≡ l → covers b q ≡ true → P q) → (q : Prefix) → q.len ≡ l → covers p q ≡ true → P q
both_halves P l p a b at bt apart le in_a in_b q len over = by (cases_eq (number c) (number a)) where
  len_a : p.len + 1 ≡ a.len
  len_a = at.0

  len_b : p.len + 1 ≡ b.len
  len_b = bt.0

  c : Prefix
  c = front q (p.len + 1)

  len_c : (front q (p.len + 1)).len ≡ p.len + 1
  len_c = let e = len_a in front_len q (p.len + 1) (omega arith)

  over_c : covers p (front q (p.len + 1)) ≡ true
  over_c = let e = len_c in covers_between p (front q (p.len + 1)) q over (front_covers q (p.len + 1)) (omega (arith, e))

  by : (number (front q (p.len + 1)) ≡ number a) ⊎ (number (front q (p.len + 1)) ≡ number a → ⊥) → P q
  by (inl same) =
      let is : front q (p.len + 1) ≡ a = same_bits (front q (p.len + 1)) a (sym (covers_says p (front q (p.len + 1)) over_c).family ∙ (covers_says p a at.1).family) (len_c ∙ len_a) same in
      in_a q len (subst (λ x. covers x q ≡ true) is (front_covers q (p.len + 1)))
  by (inr other) =
      let same : number (front q (p.len + 1)) ≡ number b = third (number (front q (p.len + 1))) (number a) (number b) (number p) (half_of p (front q (p.len + 1)) over_c len_c) (half_of p a at.1 (sym len_a)) (half_of p b bt.1 (sym len_b)) other apart in
      let is : front q (p.len + 1) ≡ b = same_bits (front q (p.len + 1)) b (sym (covers_says p (front q (p.len + 1)) over_c).family ∙ (covers_says p b bt.1).family) (len_c ∙ len_b) same in
      in_b q len (subst (λ x. covers x q ≡ true) is (front_covers q (p.len + 1)))

-- the numbers of the halves
doubled : (m p v i : ℕ) → m * (2 * p) ≡ v → v + i * p ≡ (m * 2 + i) * p
doubled m p v i e = omega arith

pub half_value : (n : Prefix) (i : ℕ) → n.len < bits_of n.family → n.value + i * 2 ^ (bits_of n.family - (n.len + 1)) ≡ place_in n (n.len + 1) i * 2 ^ (bits_of n.family - (n.len + 1))
half_value n i less =
    let h : ℕ = bits_of n.family - (n.len + 1) in
    let one : (n.len + 1) - n.len ≡ 1 = omega arith in
    let step : bits_of n.family - n.len ≡ suc h = omega arith in
    let twice : 2 ^ suc h ≡ 2 * 2 ^ h = omega arith in
    let whole : number n * 2 ^ (bits_of n.family - n.len) ≡ n.value = moved_bits n in
    let whole_twice : number n * (2 * 2 ^ h) ≡ n.value = subst (λ x. number n * x ≡ n.value) (ap (λ k. 2 ^ k) step ∙ twice) whole in
    doubled (number n) (2 ^ h) n.value i whole_twice ∙ ap (λ k. (number n * 2 ^ k + i) * 2 ^ h) (sym one)

pub half_is_prefix : (n : Prefix) (i : ℕ) → i < 2 → n.len < bits_of n.family → IsPrefix n.family (n.value + i * 2 ^ (bits_of n.family - (n.len + 1))) (n.len + 1)
half_is_prefix n i small less =
    let h : ℕ = bits_of n.family - (n.len + 1) in
    let one : 2 ^ ((n.len + 1) - n.len) ≡ 2 = ap (λ k. 2 ^ k) (let e : (n.len + 1) - n.len ≡ 1 = omega arith in e) in
    let q : Prefix = part n (n.len + 1) i (omega arith) (omega arith) (subst (λ x. i < x) (sym one) small) in
    let same : place_in n (n.len + 1) i * 2 ^ h ≡ n.value + i * 2 ^ h = sym (half_value n i less) in
    (omega arith, subst (λ v. v < 2 ^ bits_of n.family) same q.fits, subst (λ v. v % 2 ^ h ≡ 0) same q.no_host_bits)

pub half_bits : (n : Prefix) (i : ℕ) → i < 2 → n.len < bits_of n.family → first_bits n.family n.len (n.value + i * 2 ^ (bits_of n.family - (n.len + 1))) ≡ number n
half_bits n i small less =
    let h : ℕ = bits_of n.family - (n.len + 1) in
    let one : 2 ^ ((n.len + 1) - n.len) ≡ 2 = ap (λ k. 2 ^ k) (let e : (n.len + 1) - n.len ≡ 1 = omega arith in e) in
    let over = part_covered n (n.len + 1) i (omega arith) (omega arith) (subst (λ x. i < x) (sym one) small) in
    let bits : first_bits n.family n.len (place_in n (n.len + 1) i * 2 ^ h) ≡ number n = (covers_says n (part n (n.len + 1) i (omega arith) (omega arith) (subst (λ x. i < x) (sym one) small)) over).bits in
    subst (λ v. first_bits n.family n.len v ≡ number n) (sym (half_value n i less)) bits

-- a list that has all in both halves has all, and the other way round
pub apart_halves : (p a b : Prefix) → IsParent a p → IsParent b p → a.value < b.value → number a ≢ number b
apart_halves p a b at bt less same =
    let family : a.family ≡ b.family = sym (covers_says p a at.1).family ∙ (covers_says p b bt.1).family in
    let is : a ≡ b = same_bits a b family (sym at.0 ∙ bt.0) same in
    let value : a.value ≡ b.value = ap (λ (x : Prefix). x.value) is in
    omega arith

module _ (list : List Prefix) (l : ℕ) where
  pub fills_itself : (n : Prefix) → n.len ≡ l → Contains list n ↔ Fills list l n
  fills_itself n len = (
    (λ there q at over. subst (Contains list) (covers_equal n q over (len ∙ sym at)) there),
    (λ fills. fills n len (covers_itself n)),
  )

  pub fills_halves : (p a b : Prefix) → IsParent a p → IsParent b p → a.value < b.value → a.len ≤ l → Fills list l a → Fills list l b → Fills list l p
  fills_halves p a b at bt less le in_a in_b = both_halves (Contains list) l p a b at bt (apart_halves p a b at bt less) le in_a in_b

  pub fills_half : (p a : Prefix) → IsParent a p → Fills list l p → Fills list l a
  fills_half p a at fills = λ q len over. fills q len (covers_chain p a q at.1 over)

pub first_is_prefix : (n : Prefix) → n.len < bits_of n.family → IsPrefix n.family n.value (n.len + 1)
first_is_prefix n less =
    let same : n.value + 0 * 2 ^ (bits_of n.family - (n.len + 1)) ≡ n.value = omega arith in
    subst (λ v. IsPrefix n.family v (n.len + 1)) same (half_is_prefix n 0 (omega arith) less)

module _ (n : Prefix) (step : ℕ) (is : step ≡ 2 ^ (bits_of n.family - (n.len + 1))) (less : n.len < bits_of n.family) where
  once : n.value + 1 * 2 ^ (bits_of n.family - (n.len + 1)) ≡ n.value + step
  once = omega arith

  pub second_is_prefix : IsPrefix n.family (n.value + step) (n.len + 1)
  second_is_prefix = subst (λ v. IsPrefix n.family v (n.len + 1)) once (half_is_prefix n 1 (omega arith) less)

  pub second_bits : first_bits n.family n.len (n.value + step) ≡ number n
  second_bits = subst (λ v. first_bits n.family n.len v ≡ number n) once (half_bits n 1 (omega arith) less)

pub fits_128 : (f : Family) (v : ℕ) → v < 2 ^ bits_of f → v < 2 ^ 128
fits_128 V4 v h = omega arith
fits_128 V6 v h = h

-- a prefix whose parent isn't full is a top
pub top_at_parent : (list : List Prefix) (l : ℕ) (n p : Prefix) (r : Bool) → IsParent n p → Fills list l n → ((r ≡ true) ↔ Fills list l p) → (not r ≡ true) ↔ IsTop list l n
top_at_parent list l n p r parent fills decides = (
  (λ e. (
    fills,
    λ x over full.
        let same : x ≡ p = parent_is n x over ∙ sym (parent_is n p parent) in
        let yes_ : r ≡ true = decides.1 (subst (Fills list l) same full) in
        let no_ : r ≡ false = not-true r e in
        let h : ⊥ = cc in h,
  )),
  (λ top. not_from_false r (false_from_ne_true r (λ e. top.1 p parent (decides.0 e)))),
)
