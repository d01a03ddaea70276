-- Full prefixes: the test decides what is full, and what lies in a full prefix is full.
use Rattle.std.proofs.Common.{◌≡◌, ◌≤◌, ◌<◌, ◌+◌, ◌-◌, ◌*◌, ◌/◌, ◌%◌, ◌^◌, ℕ, Bool, true, ◌&&◌, ◌==◌, List, refl, sym, ap, ◌∙◌, subst, arith, eq-eqb}
use Rattle.std.specs.Prelude.{nat_le}
use Rattle.std.specs.Bool.{Decides}
use Rattle.std.proofs.Math.Nat.{mul-mod_left}
use Rattle.std.proofs.lemmas.Bool.{and_parts, and_from, eqb-true, leb-true, le-leb}
use Rattle.std.proofs.lemmas.Bool.Decides.{Decides-below_and}
use Rattle.std.proofs.lemmas.Nat.{shr-shr, shl-shr, shl_below, shr_below, mul-add-lt, pow-add, pow_pos, div-mul-add, div-add-mod', mod_below}
use Rattle.ixp_num.specs.Families.{bits_of, same_family}
use Rattle.ixp_num.specs.Prefixes.{covers, first_bits}
use Rattle.ixp_num.specs.declared.family.Family.{Family}
use Rattle.ixp_num.specs.declared.prefix.Prefix.{Prefix}
use Rattle.ixp_pfxset.specs.Blocks.{IsNew, IsFull}
use Rattle.ixp_pfxset.specs.BlockList.{is_new, has_new, all_below, is_full}
use Rattle.ixp_pfxset.specs.declared.mode.Mode.{Mode}
use Rattle.ixp_pfxset.proofs.Covering.{one_family, families_meet, covers_says, covers_from, covers_chain, same_bits}
use Rattle.ixp_pfxset.proofs.Members.{passing, passed}
use Rattle.ixp_pfxset.proofs.Allowing.{new_row, decides_new}

-- the bits of a prefix, as a number
abbrev pub number : Prefix → ℕ
number p = first_bits p.family p.len p.value

pub number_small : (p : Prefix) → number p < 2 ^ p.len
number_small p =
    let sum : p.len + (bits_of p.family - p.len) ≡ bits_of p.family = let s = p.short in omega arith in
    shr_below p.value p.len (bits_of p.family - p.len) (subst (λ b. p.value < 2 ^ b) (sym sum) p.fits)

pub shorter_bits : (f : Family) (m n v : ℕ) → m ≤ n → n ≤ bits_of f → first_bits f n v / 2 ^ (n - m) ≡ first_bits f m v
shorter_bits f m n v le short =
    let sum : (bits_of f - n) + (n - m) ≡ bits_of f - m = omega arith in
    shr-shr v (bits_of f - n) (n - m) ∙ ap (λ k. v / 2 ^ k) sum

-- the prefix of a length that has these bits
abbrev pub of_bits : (f : Family) (l c : ℕ) → l ≤ bits_of f → c < 2 ^ l → Prefix
of_bits f l c short small = record {
  family = f;
  value = c * 2 ^ (bits_of f - l);
  len = l;
  short = short;
  fits = subst (λ b. c * 2 ^ (bits_of f - l) < 2 ^ b) (let sum : l + (bits_of f - l) ≡ bits_of f = omega arith in sum) (shl_below c l (bits_of f - l) small);
  no_host_bits = mul-mod_left c (2 ^ (bits_of f - l));
}

pub of_bits_number : (f : Family) (l c : ℕ) (short : l ≤ bits_of f) (small : c < 2 ^ l) → number (of_bits f l c short small) ≡ c
of_bits_number f l c short small = shl-shr c (bits_of f - l)

-- the bits of the prefixes of length `l` that lie in `n`
abbrev pub place_in : Prefix → ℕ → ℕ → ℕ
place_in n l i = number n * 2 ^ (l - n.len) + i

pub place_small : (n : Prefix) (l i : ℕ) → n.len ≤ l → i < 2 ^ (l - n.len) → place_in n l i < 2 ^ l
place_small n l i le small =
    let below : number n * 2 ^ (l - n.len) + i < 2 ^ (l - n.len) * 2 ^ n.len = mul-add-lt (number n) (2 ^ (l - n.len)) i (2 ^ n.len) (number_small n) small in
    let sum : (l - n.len) + n.len ≡ l = omega arith in
    subst (λ x. place_in n l i < x) (sym (pow-add 2 (l - n.len) n.len) ∙ ap (λ k. 2 ^ k) sum) below

-- the one of these prefixes that has place `i`
abbrev pub part : (n : Prefix) (l i : ℕ) → l ≤ bits_of n.family → n.len ≤ l → i < 2 ^ (l - n.len) → Prefix
part n l i short le small = of_bits n.family l (place_in n l i) short (place_small n l i le small)

pub part_covered : (n : Prefix) (l i : ℕ) (short : l ≤ bits_of n.family) (le : n.len ≤ l) (small : i < 2 ^ (l - n.len)) → covers n (part n l i short le small) ≡ true
part_covered n l i short le small =
    let v : ℕ = place_in n l i * 2 ^ (bits_of n.family - l) in
    let fewer : first_bits n.family l v / 2 ^ (l - n.len) ≡ first_bits n.family n.len v = shorter_bits n.family n.len l v le short in
    let own : first_bits n.family l v ≡ place_in n l i = shl-shr (place_in n l i) (bits_of n.family - l) in
    let bits : first_bits n.family n.len v ≡ number n = sym fewer ∙ (ap (λ x. x / 2 ^ (l - n.len)) own ∙ div-mul-add (number n) (2 ^ (l - n.len)) i small) in
    covers_from n (part n l i short le small) (record { family = refl; len = le; bits = bits })

-- each prefix of length `l` that lies in `n` has a place there
pub place_of : (n q : Prefix) (l : ℕ) → l ≤ bits_of n.family → q.len ≡ l → covers n q ≡ true → (i : ℕ) × (i < 2 ^ (l - n.len)) × (place_in n l i ≡ first_bits n.family l q.value)
place_of n q l short len over =
    let is = covers_says n q over in
    let c : ℕ = first_bits n.family l q.value in
    let w : ℕ = 2 ^ (l - n.len) in
    let le : n.len ≤ l = subst (λ x. n.len ≤ x) len is.len in
    let high : c / w ≡ number n = shorter_bits n.family n.len l q.value le short ∙ is.bits in
    let parts : c / w * w + c % w ≡ c = div-add-mod' c w in
    (c % w, mod_below c w (pow_pos (l - n.len)), subst (λ x. x * w + c % w ≡ c) high parts)

module _ (rows : List Prefix) (mode : Mode) (high : ℕ) where
  -- what the search among the rows finds
  pub record IsNewAt (f : Family) (l c : ℕ) (r : Prefix) : Type 0 where
    pub family : f ≡ r.family
    pub len : r.len ≡ l
    pub bits : first_bits f l r.value ≡ c
    pub new : IsNew rows mode high r

  has_new_says : (f : Family) (l c : ℕ) → has_new rows mode high f l c ≡ true → (r : Prefix) × IsNewAt f l c r
  has_new_says f l c e =
      let test = λ (r : Prefix). same_family f r.family && r.len == l && first_bits f l r.value == c && is_new rows mode high r in
      let some = passing test rows e in
      let r : Prefix = some.0 in
      let a = and_parts (same_family f r.family && r.len == l && first_bits f l r.value == c) (is_new rows mode high r) some.2 in
      let b = and_parts (same_family f r.family && r.len == l) (first_bits f l r.value == c) a.0 in
      let d = and_parts (same_family f r.family) (r.len == l) b.0 in
      (r, record { family = one_family f r.family d.0; len = eqb-true r.len l d.1; bits = eqb-true (first_bits f l r.value) c b.1; new = (decides_new rows high mode r).0 a.1 })

  has_new_from : (f : Family) (l c : ℕ) (r : Prefix) → IsNewAt f l c r → has_new rows mode high f l c ≡ true
  has_new_from f l c r is =
      let test = λ (r : Prefix). same_family f r.family && r.len == l && first_bits f l r.value == c && is_new rows mode high r in
      passed test rows r (new_row rows high mode r is.new)
      (and_from (same_family f r.family && r.len == l && first_bits f l r.value == c) (is_new rows mode high r)
      (and_from (same_family f r.family && r.len == l) (first_bits f l r.value == c)
      (and_from (same_family f r.family) (r.len == l) (families_meet f r.family is.family) (eq-eqb r.len l is.len))
      (eq-eqb (first_bits f l r.value) c is.bits))
      ((decides_new rows high mode r).1 is.new))

  abbrev at_each : ℕ → Prefix → ℕ → Bool
  at_each l n i = has_new rows mode high n.family l (place_in n l i)

  decides_each : (l : ℕ) (n : Prefix) → Decides (all_below (2 ^ (l - n.len)) (at_each l n)) ((i : ℕ) → i < 2 ^ (l - n.len) → at_each l n i ≡ true)
  decides_each l n = Decides-below_and (at_each l n) (λ i. at_each l n i ≡ true) (λ k. all_below k (at_each l n)) (λ i. (λ e. e, λ e. e)) refl (λ k. refl) (2 ^ (l - n.len))

  full_says : (l : ℕ) (n : Prefix) → is_full rows mode high l n ≡ true → IsFull rows mode high l n
  full_says l n e =
      let a = and_parts (nat_le n.len l && nat_le l (bits_of n.family)) (all_below (2 ^ (l - n.len)) (at_each l n)) e in
      let b = and_parts (nat_le n.len l) (nat_le l (bits_of n.family)) a.0 in
      let short : l ≤ bits_of n.family = leb-true l (bits_of n.family) b.1 in (
        short,
        leb-true n.len l b.0,
        λ q len over.
            let place = place_of n q l short len over in
            let found = has_new_says n.family l (place_in n l place.0) ((decides_each l n).0 a.1 place.0 place.1) in
            let r : Prefix = found.0 in
            let is = found.1 in
            let bits : first_bits n.family l r.value ≡ first_bits n.family l q.value = is.bits ∙ place.2 in
            let family : n.family ≡ q.family = (covers_says n q over).family in
            let at_r : number r ≡ first_bits n.family l r.value = ap (λ f. first_bits f r.len r.value) (sym is.family) ∙ ap (λ k. first_bits n.family k r.value) is.len in
            let at_q : number q ≡ first_bits n.family l q.value = ap (λ f. first_bits f q.len q.value) (sym family) ∙ ap (λ k. first_bits n.family k q.value) len in
            let same : r ≡ q = same_bits r q (sym is.family ∙ family) (is.len ∙ sym len) (at_r ∙ (bits ∙ sym at_q)) in
            subst (IsNew rows mode high) same is.new,
      )

  full_from : (l : ℕ) (n : Prefix) → IsFull rows mode high l n → is_full rows mode high l n ≡ true
  full_from l n full =
      and_from (nat_le n.len l && nat_le l (bits_of n.family)) (all_below (2 ^ (l - n.len)) (at_each l n))
      (and_from (nat_le n.len l) (nat_le l (bits_of n.family)) (le-leb n.len l full.1) (le-leb l (bits_of n.family) full.0))
      ((decides_each l n).1 (λ i small.
      let q : Prefix = part n l i full.0 full.1 small in
      has_new_from n.family l (place_in n l i) q (record {
        family = refl;
        len = refl;
        bits = of_bits_number n.family l (place_in n l i) full.0 (place_small n l i full.1 small);
        new = full.2 q refl (part_covered n l i full.0 full.1 small);
      })))

  pub decides_full : (l : ℕ) (n : Prefix) → Decides (is_full rows mode high l n) (IsFull rows mode high l n)
  decides_full l n = (full_says l n, full_from l n)

  -- what lies in a full prefix is full
  pub full_below : (l : ℕ) (n m : Prefix) → IsFull rows mode high l n → covers n m ≡ true → m.len ≤ l → IsFull rows mode high l m
  full_below l n m full over le =
      (subst (λ f. l ≤ bits_of f) (covers_says n m over).family full.0, le, λ q len below. full.2 q len (covers_chain n m q over below))

  -- the first prefix of length `l` in a full one
  pub first_part : (l : ℕ) (n : Prefix) → IsFull rows mode high l n → (q : Prefix) × (q.len ≡ l) × (covers n q ≡ true)
  first_part l n full = (part n l 0 full.0 full.1 (pow_pos (l - n.len)), refl, part_covered n l 0 full.0 full.1 (pow_pos (l - n.len)))
