-- Which prefixes a list of rows allows, and the patterns of its merged set.
use Rattle.std.specs.Prelude.{◌≡◌, ◌≤◌, ℕ, Bool, true, false, List, ◌&&◌, nat_le}
use Rattle.std.specs.List.{list_any}
use Rattle.ixp_num.specs.Families.{bits_of}
use Rattle.ixp_num.specs.Prefixes.{same_prefix, covers, IsParent}
use Rattle.ixp_num.specs.declared.pattern.Pattern.{Pattern}
use Rattle.ixp_num.specs.declared.prefix.Prefix.{Prefix}
use Rattle.ixp_pfxset.specs.declared.mode.Mode.{Mode}
use Rattle.ixp_pfxset.specs.declared.mode.Mode.TheVariants.{Exact, More}

-- Whether the rows allow the prefix. No prefix longer than `high` is allowed, and rows longer than `high`
-- don't count. In `Exact` the rows themselves are allowed, in `More` what a row covers (RFC 6811 section 2).
abbrev pub is_allowed : List Prefix → Mode → ℕ → Prefix → Bool
is_allowed rows Exact high q = nat_le q.len high && list_any (λ p. same_prefix p q) rows
is_allowed rows More high q = nat_le q.len high && list_any (λ p. nat_le p.len high && covers p q) rows

-- The prefix is allowed, and in `More` not because its parent is: that isn't allowed, if there is one.
abbrev pub IsNew : List Prefix → Mode → ℕ → Prefix → Type 0
IsNew rows Exact high q = is_allowed rows Exact high q ≡ true
IsNew rows More high q = (is_allowed rows More high q ≡ true)
    × ((p : Prefix) → IsParent q p → is_allowed rows More high p ≡ false)

-- The family has prefixes of length `l`, and all of them that lie in `n` are new.
abbrev pub IsFull : List Prefix → Mode → ℕ → ℕ → Prefix → Type 0
IsFull rows mode high l n = (l ≤ bits_of n.family) × (n.len ≤ l)
    × ((q : Prefix) → q.len ≡ l → covers n q ≡ true → IsNew rows mode high q)

-- the upper bound of a pattern whose lower one is `low`
abbrev pub upper_bound : Mode → ℕ → ℕ → ℕ
upper_bound Exact high low = low
upper_bound More high low = high

-- The pattern is one of the merged set: its prefix is full at its lower bound, and its parent, if there is
-- one, isn't. It goes on to its lower bound alone in `Exact`, in `More` as far as prefixes may go.
abbrev pub IsBlock : List Prefix → Mode → ℕ → Pattern → Type 0
IsBlock rows mode high t =
    IsFull rows mode high t.low t.prefix
    × ((p : Prefix) → IsParent t.prefix p → ¬ (IsFull rows mode high t.low p))
    × (t.high ≡ upper_bound mode high t.low)
