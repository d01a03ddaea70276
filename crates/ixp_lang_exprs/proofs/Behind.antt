use Rattle.std.proofs.Common.{ℕ, ◌+◌, ◌≤◌, List, length, Option, None, Some, Bor, IfSome}

-- How many rounds a loop may still make that goes on with what is behind a comma, if one is there.
abbrev pub left_of : {A : Type 0} → Option (Bor (List A)) → ℕ
left_of None = 0
left_of (Some r) = length r.now + 1

-- What is behind is no longer than this.
abbrev pub IsWithin : {A : Type 0} → ℕ → Option (Bor (List A)) → Type 0
IsWithin n behind = IfSome behind (λ r. length r.now ≤ n)
