-- Which addresses and prefixes lie in a prefix, and which prefixes a pattern matches.
use Rattle.std.specs.Prelude.{◌≡◌, ◌+◌, true, ℕ, Bool, List, ◌&&◌, ◌==◌, ◌-◌, ◌/◌, ◌^◌, nat_le, min}
use Rattle.std.specs.List.{list_any}
use Rattle.ixp_num.specs.declared.family.Family.{Family}
use Rattle.ixp_num.specs.declared.addr.Addr.{Addr}
use Rattle.ixp_num.specs.declared.prefix.Prefix.{Prefix}
use Rattle.ixp_num.specs.declared.pattern.Pattern.{Pattern}
use Rattle.ixp_num.specs.Families.{bits_of, same_family}

-- one and the same address
abbrev pub same_addr : Addr → Addr → Bool
same_addr a b = same_family a.family b.family && a.value == b.value

-- one and the same prefix
abbrev pub same_prefix : Prefix → Prefix → Bool
same_prefix p q = same_family p.family q.family && p.value == q.value && p.len == q.len

-- the first `n` bits of an address of the family, as a number
abbrev pub first_bits : Family → ℕ → ℕ → ℕ
first_bits family n value = value / 2 ^ (bits_of family - n)

-- `p` covers `q`: they have one family, `p` isn't longer, and its bits are the first ones of `q` (RFC 6811
-- section 2)
abbrev pub covers : Prefix → Prefix → Bool
covers p q = same_family p.family q.family && nat_le p.len q.len && first_bits p.family p.len q.value == first_bits p.family p.len p.value

-- the address lies in the prefix
abbrev pub contains : Prefix → Addr → Bool
contains p a = same_family p.family a.family && first_bits p.family p.len a.value == first_bits p.family p.len p.value

-- `q` is the prefix that covers `p` and is one bit shorter
abbrev pub IsParent : Prefix → Prefix → Type 0
IsParent p q = (q.len + 1 ≡ p.len) × (covers q p ≡ true)

-- the prefix agrees with the pattern's as far as both go, and has a length within its bounds (BIRD 2 User's
-- Guide, data types, prefix sets)
abbrev pub matches : Pattern → Prefix → Bool
matches t q =
    same_family t.prefix.family q.family
    && first_bits q.family (min t.prefix.len q.len) q.value == first_bits q.family (min t.prefix.len q.len) t.prefix.value
    && nat_le t.low q.len && nat_le q.len t.high

-- some pattern of the set matches the prefix
abbrev pub is_in_set : List Pattern → Prefix → Bool
is_in_set ts q = list_any (λ t. matches t q) ts
