-- What the merging of rows of one length asks of them, prefix by prefix.
use Rattle.std.specs.Prelude.{◌≡◌, ◌≤◌, ◌<◌, ℕ, min, true, List}
use Rattle.std.specs.List.{Contains}
use Rattle.ixp_num.specs.Families.{bits_of}
use Rattle.ixp_num.specs.Prefixes.{covers}
use Rattle.ixp_num.specs.declared.family.Family.{Family}
use Rattle.ixp_num.specs.declared.pattern.Pattern.{Pattern}
use Rattle.ixp_num.specs.declared.prefix.Prefix.{Prefix}
use Rattle.ixp_pfxset.specs.Blocks.{upper_bound}
use Rattle.ixp_pfxset.specs.Plain.{IsTop}
use Rattle.ixp_pfxset.specs.declared.mode.Mode.{Mode}

-- all rows have the length and lie in `n`
abbrev pub AllWithin : List Prefix → ℕ → Prefix → Type 0
AllWithin list l n = (q : Prefix) → Contains list q → (q.len ≡ l) × (covers n q ≡ true)

-- a pattern for prefixes of length `l`, whose prefix is full, its parent not
pub record IsMerged (list : List Prefix) (l most : ℕ) (t : Pattern) : Type 0 where
  pub low : t.low ≡ l
  pub high : t.high ≡ most
  pub short : t.prefix.len ≤ l
  pub top : IsTop list l t.prefix

-- such a one whose prefix lies in `n` and is longer
pub record IsMergedBelow (list : List Prefix) (l most : ℕ) (n : Prefix) (t : Pattern) : Type 0 where
  pub over : covers n t.prefix ≡ true
  pub longer : n.len < t.prefix.len
  pub merged : IsMerged list l most t

-- such a one of the family, for the length that its lower bound says
pub record IsOfFamily (list : List Prefix) (mode : Mode) (high : ℕ) (family : Family)
    (t : Pattern) : Type 0 where
  pub of_family : t.prefix.family ≡ family
  pub within : t.low ≤ min high (bits_of family)
  pub merged : IsMerged list t.low (upper_bound mode high t.low) t
