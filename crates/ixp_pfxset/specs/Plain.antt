-- What the plain computation of the merged set asks of a list of new prefixes.
use Rattle.std.specs.Prelude.{◌≡◌, ◌≤◌, ℕ, Bool, true, false, ◌&&◌, nat_lt, List, Option, Some, None}
use Rattle.std.specs.List.{Contains, list_any}
use Rattle.ixp_num.specs.Prefixes.{covers, IsParent}
use Rattle.ixp_num.specs.declared.pattern.Pattern.{Pattern}
use Rattle.ixp_num.specs.declared.prefix.Prefix.{Prefix}

-- a shorter prefix of the list covers this one
abbrev pub is_within : List Prefix → Prefix → Bool
is_within list q = list_any (λ p. nat_lt p.len q.len && covers p q) list

-- the other prefix, if there is one, is shorter and covers this one
abbrev pub is_under : Option Prefix → Prefix → Bool
is_under None q = false
is_under (Some p) q = nat_lt p.len q.len && covers p q

-- the list has all prefixes of length `l` that lie in `n`
abbrev pub Fills : List Prefix → ℕ → Prefix → Type 0
Fills list l n = (q : Prefix) → q.len ≡ l → covers n q ≡ true → Contains list q

-- it has them, and hasn't all those that lie in the parent
abbrev pub IsTop : List Prefix → ℕ → Prefix → Type 0
IsTop list l n = Fills list l n × ((p : Prefix) → IsParent n p → ¬ (Fills list l p))

-- a pattern for the row's length, whose prefix is such a one and begins where the row does
pub record IsFront (list : List Prefix) (r : Prefix) (most : ℕ) (t : Pattern) : Type 0 where
  pub family : t.prefix.family ≡ r.family
  pub value : t.prefix.value ≡ r.value
  pub short : t.prefix.len ≤ r.len
  pub low : t.low ≡ r.len
  pub high : t.high ≡ most
  pub top : IsTop list r.len t.prefix
