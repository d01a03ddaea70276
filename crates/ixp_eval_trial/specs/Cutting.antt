-- How a text is cut at a byte.
use Rattle.std.specs.Prelude.{◌≡◌, ◌≢◌, ◌<◌, ◌⊎◌, ℕ, List, [], ◌∷◌, ◌++◌, length, codes}
use Rattle.std.specs.List.{AllByRecursion}
use Rattle.ixp_eval_trial.specs.Lines.{lines}

-- none of the bytes is this one
abbrev pub IsFree : ℕ → List ℕ → Type 0
IsFree mark t = AllByRecursion (λ c. c ≢ mark) t

-- the bytes before the first mark, and those from it on
abbrev pub IsParted : ℕ → List ℕ → List ℕ → List ℕ → Type 0
IsParted mark t front back =
    (t ≡ front ++ back) × IsFree mark front × ((back ≡ []) ⊎ ((rest : List ℕ) × (back ≡ mark ∷ rest)))

-- the bytes before the first mark, and those behind it
abbrev pub IsCut : ℕ → List ℕ → List ℕ → List ℕ → Type 0
IsCut mark t front rest = (t ≡ front ++ mark ∷ rest) × IsFree mark front

-- the first line of a text, and what is behind its end
pub record Leads (t line behind : List ℕ) : Type 0 where
  pub lines : lines t ≡ line ∷ lines behind
  pub less : length behind < length t
  pub ends : (t ≡ line ++ 10 ∷ behind) ⊎ ((t ≡ line) × (behind ≡ []))

-- four fields with single blanks between them
pub record AreFields (t table net max asn : List ℕ) : Type 0 where
  pub whole : t ≡ table ++ 32 ∷ (net ++ 32 ∷ (max ++ 32 ∷ asn))
  pub table_free : IsFree 32 table
  pub net_free : IsFree 32 net
  pub max_free : IsFree 32 max

-- a route's line, cut into its parts
pub record AreParts (line handle number text : List ℕ) : Type 0 where
  pub whole : line ≡ codes "route " ++ (handle ++ 32 ∷ (number ++ 32 ∷ text))
  pub handle_free : IsFree 32 handle
  pub number_free : IsFree 32 number
