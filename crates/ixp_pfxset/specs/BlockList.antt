-- The merged set as a list: the patterns at the front of rows that pass a test, in order. `blocks_are` says
-- that its members are the patterns of `Blocks.antt`.
use Rattle.std.specs.Prelude.{ℕ, zero, suc, Bool, true, not, List, [], ◌∷◌, ◌&&◌, ◌||◌, ◌==◌, ◌+◌, ◌-◌, ◌*◌, ◌^◌, min, nat_le}
use Rattle.std.specs.List.{list_any, filter, flat_map}
use Rattle.std.specs.declared.cmp.Ordering.{Ordering}
use Rattle.std.specs.Ordering.{match_ordering}
use Rattle.std.proofs.Math.Nat.{le_trans, min-le_right, mul-mod_left, div-mul-le_self, suc-le-suc_iff}
use Rattle.ixp_num.specs.Families.{bits_of, same_family}
use Rattle.ixp_num.specs.Prefixes.{first_bits}
use Rattle.ixp_num.specs.declared.family.Family.{Family}
use Rattle.ixp_num.specs.declared.pattern.Pattern.{Pattern}
use Rattle.ixp_num.specs.declared.prefix.Prefix.{Prefix}
use Rattle.ixp_num_tables.specs.Tables.{order}
use Rattle.ixp_num_sorted.specs.Keys.{pattern_key}
use Rattle.ixp_pfxset.specs.Blocks.{is_allowed, upper_bound}
use Rattle.ixp_pfxset.specs.declared.mode.Mode.{Mode}
use Rattle.ixp_pfxset.specs.declared.mode.Mode.TheVariants.{Exact, More}

-- by the patterns' keys
abbrev pub pattern_order : Pattern → Pattern → Ordering
pattern_order s t = order (pattern_key s) (pattern_key t)

-- the prefix of length `n` that covers `p`; `p` itself where it isn't longer
abbrev pub front : Prefix → ℕ → Prefix
front p n = record {
  family = p.family;
  value = first_bits p.family (min n p.len) p.value * 2 ^ (bits_of p.family - min n p.len);
  len = min n p.len;
  short = le_trans (min-le_right n p.len) p.short;
  fits = le_trans (suc-le-suc_iff.1 (div-mul-le_self p.value (2 ^ (bits_of p.family - min n p.len)))) p.fits;
  no_host_bits = mul-mod_left (first_bits p.family (min n p.len) p.value)
      (2 ^ (bits_of p.family - min n p.len));
}

-- the test of `IsNew`
abbrev pub is_new : List Prefix → Mode → ℕ → Prefix → Bool
is_new rows Exact high q = is_allowed rows Exact high q
is_new rows More high q = is_allowed rows More high q
    && (q.len == 0 || not (is_allowed rows More high (front q (q.len - 1))))

-- some row is new, and its bits are these
abbrev pub has_new : List Prefix → Mode → ℕ → Family → ℕ → ℕ → Bool
has_new rows mode high family len bits = list_any (λ r. same_family family r.family && r.len == len
    && first_bits family len r.value == bits && is_new rows mode high r) rows

-- the test holds of all numbers below `n`
abbrev pub all_below : ℕ → (ℕ → Bool) → Bool
all_below zero test = true
all_below (suc n) test = test n && all_below n test

-- the test of `IsFull`: each of the prefixes of length `l` that lie in `n` is a new row
abbrev pub is_full : List Prefix → Mode → ℕ → ℕ → Prefix → Bool
is_full rows mode high l n =
    nat_le n.len l && nat_le l (bits_of n.family)
    && all_below (2 ^ (l - n.len)) (λ i. has_new rows mode high n.family l
    (first_bits n.family n.len n.value * 2 ^ (l - n.len) + i))

-- the test of `IsBlock`, but for the upper bound
abbrev pub is_block : List Prefix → Mode → ℕ → Pattern → Bool
is_block rows mode high t =
    is_full rows mode high t.low t.prefix
    && (t.prefix.len == 0 || not (is_full rows mode high t.low (front t.prefix (t.prefix.len - 1))))

-- the pattern of the row's first `n` bits for prefixes of the row's length
abbrev pub front_pattern : Mode → ℕ → Prefix → ℕ → Pattern
front_pattern mode high r n = record { prefix = front r n; low = r.len; high = upper_bound mode high r.len }

-- those of the row's first `n` bits and fewer
abbrev pub front_patterns : Mode → ℕ → Prefix → ℕ → List Pattern
front_patterns mode high r zero = front_pattern mode high r zero ∷ []
front_patterns mode high r (suc n) = front_pattern mode high r (suc n) ∷ front_patterns mode high r n

-- the patterns with this one in its place, where it isn't there already
abbrev pub put_in : Pattern → List Pattern → List Pattern
put_in t [] = t ∷ []
put_in t (s ∷ ss) = match_ordering (pattern_order s t) (s ∷ put_in t ss) (s ∷ ss) (t ∷ s ∷ ss)

abbrev pub in_order : List Pattern → List Pattern
in_order [] = []
in_order (t ∷ ts) = put_in t (in_order ts)

-- the merged set of the rows
unfoldable pub blocks : List Prefix → Mode → ℕ → List Pattern
blocks rows mode high =
    in_order (filter (is_block rows mode high) (flat_map (λ r. front_patterns mode high r r.len) rows))
