-- A row that is alone: it fills nothing that is shorter, and its own pattern is the only one.
use Rattle.std.proofs.Common.{◌≡◌, ◌≤◌, ◌<◌, ◌+◌, ◌-◌, ◌*◌, ◌^◌, ℕ, suc, true, ◌↔◌, List, [], ◌∷◌, ◌⊎◌, inl, inr, length, get_or, refl, sym, ap, ◌∙◌, subst, arith}
use Rattle.std.specs.List.{Contains}
use Rattle.std.proofs.lemmas.Bool.{cases_lt}
use Rattle.std.proofs.lemmas.Nat.{pow_pos}
use Rattle.ixp_num.specs.Families.{bits_of}
use Rattle.ixp_num.specs.Prefixes.{covers, IsParent}
use Rattle.ixp_num.specs.declared.pattern.Pattern.{Pattern}
use Rattle.ixp_num.specs.declared.prefix.Prefix.{Prefix}
use Rattle.ixp_pfxset.specs.Plain.{Fills}
use Rattle.ixp_pfxset.specs.Trie.{IsMergedBelow}
use Rattle.ixp_pfxset.proofs.Covering.{covers_says, covers_itself, covers_equal}
use Rattle.ixp_pfxset.proofs.Filling.{number, of_bits_number, part, part_covered, place_in, place_small}
use Rattle.ixp_pfxset.proofs.Members.{first_in, in_cases, none_in}
use Rattle.ixp_pfxset.proofs.Orders.{one_pattern}

pub the_one : (r q : Prefix) → Contains (r ∷ []) q → r ≡ q
the_one r q there = by (in_cases r q [] there) where
  by : (r ≡ q) ⊎ Contains [] q → r ≡ q
  by (inl same) = same
  by (inr later) = absurd (none_in q later)

-- a list of one item
pub one_item : (xs : List Prefix) (r : Prefix) → length xs ≡ 1 → r ≡ get_or xs 0 r → xs ≡ r ∷ []
one_item [] r len is = absurd (let h : ⊥ = omega arith in h)
one_item (x ∷ []) r len is = ap (λ y. y ∷ []) (sym is)
one_item (x ∷ y ∷ xs) r len is = absurd (let h : ⊥ = omega arith in h)

-- two prefixes of the length lie in one that is shorter
pub not_filled : (r n : Prefix) (l : ℕ) → n.len < l → l ≤ bits_of n.family → Fills (r ∷ []) l n → ⊥
not_filled r n l less short fills = omega (arith, bits) where
  le : n.len ≤ l
  le = omega arith

  wide : 1 < 2 ^ (l - n.len)
  wide =
      let h : ℕ = (l - n.len) - 1 in
      let one : l - n.len ≡ suc h = omega arith in
      let twice : 2 ^ suc h ≡ 2 * 2 ^ h = omega arith in
      let some : 0 < 2 ^ h = pow_pos h in
      subst (λ k. 1 < 2 ^ k) (sym one) (omega (arith, some, twice))

  none : 0 < 2 ^ (l - n.len)
  none = omega (arith, wide)

  zeroth : Prefix
  zeroth = part n l 0 short le none

  next : Prefix
  next = part n l 1 short le wide

  is_zeroth : r ≡ part n l 0 short le none
  is_zeroth = the_one r (part n l 0 short le none) (fills (part n l 0 short le none) refl (part_covered n l 0 short le none))

  is_next : r ≡ part n l 1 short le wide
  is_next = the_one r (part n l 1 short le wide) (fills (part n l 1 short le wide) refl (part_covered n l 1 short le wide))

  bits : place_in n l 0 ≡ place_in n l 1
  bits =
      sym (of_bits_number n.family l (place_in n l 0) short (place_small n l 0 le none))
      ∙ ap number (sym is_zeroth ∙ is_next)
      ∙ of_bits_number n.family l (place_in n l 1) short (place_small n l 1 le wide)

module _ (r n : Prefix) (l most : ℕ) (len : r.len ≡ l) (over : covers n r ≡ true) (less : n.len < l) (short : l ≤ bits_of n.family) where
  abbrev own : Pattern
  own = record { prefix = r; low = l; high = most }

  row_fills : Fills (r ∷ []) l r
  row_fills q at_len inside = subst (Contains (r ∷ [])) (covers_equal r q inside (len ∙ sym at_len)) (first_in r [])

  parent_open : (p : Prefix) → IsParent r p → Fills (r ∷ []) l p → ⊥
  parent_open p parent =
      let step : p.len + 1 ≡ r.len = parent.0 in
      let fits : r.len ≤ bits_of r.family = r.short in
      not_filled r p l (omega (arith, step, len)) (subst (λ f. l ≤ bits_of f) (sym (covers_says p r parent.1).family) (subst (λ k. k ≤ bits_of r.family) len fits))

  pub own_merged : IsMergedBelow (r ∷ []) l most n (record { prefix = r; low = l; high = most })
  own_merged = record {
    over = over;
    longer = omega (arith, less, len);
    merged = record { low = refl; high = refl; short = omega (arith, len); top = (row_fills, parent_open) };
  }

  pub only_own : (t : Pattern) → IsMergedBelow (r ∷ []) l most n t → t ≡ record { prefix = r; low = l; high = most }
  only_own t m = by (cases_lt t.prefix.len l) where
    by : (t.prefix.len < l) ⊎ (l ≤ t.prefix.len) → t ≡ record { prefix = r; low = l; high = most }
    by (inl shorter) = absurd (not_filled r t.prefix l shorter (subst (λ f. l ≤ bits_of f) (covers_says n t.prefix m.over).family short) m.merged.top.0)
    by (inr longer) =
        let most_len : t.prefix.len ≤ l = m.merged.short in
        let same : r ≡ t.prefix = the_one r t.prefix (m.merged.top.0 t.prefix (omega arith) (covers_itself t.prefix)) in
        one_pattern t own (sym same) m.merged.low m.merged.high

  -- what is added
  pub row_added : (p q : List Pattern) → ((t : Pattern) → Contains q t ↔ (Contains p t ⊎ (t ≡ record { prefix = r; low = l; high = most })))
      → (t : Pattern) → Contains q t ↔ (Contains p t ⊎ IsMergedBelow (r ∷ []) l most n t)
  row_added p q adds t = (λ there. to ((adds t).0 there), λ there. (adds t).1 (from there)) where
    to : Contains p t ⊎ (t ≡ own) → Contains p t ⊎ IsMergedBelow (r ∷ []) l most n t
    to (inl before) = inl before
    to (inr same) = inr (subst (IsMergedBelow (r ∷ []) l most n) (sym same) own_merged)

    from : Contains p t ⊎ IsMergedBelow (r ∷ []) l most n t → Contains p t ⊎ (t ≡ own)
    from (inl before) = inl before
    from (inr m) = inr (only_own t m)
