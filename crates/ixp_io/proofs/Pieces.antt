-- Parts of a list as slices of it.
use Rattle.std.proofs.Common.{◌≡◌, ◌≤◌, ◌+◌, ◌-◌, ℕ, List, ◌++◌, length, take, drop, arith}
use Rattle.std.proofs.lemmas.Grind.{common_steps}
use Rattle.std.proofs.lemmas.List.{take-append-drop}

-- what stands from a place on, as the slice from there to the end
pub from_place : (i : ℕ) (xs : List ℕ) → take (length xs - i) (drop i xs) ≡ drop i xs
from_place i xs = grind (arith, common_steps)

-- after a copy of the next n bytes to the front of a buffer
pub copied_front : (bytes copy rest : List ℕ) (i n : ℕ) → i + n ≤ length bytes → copy ≡ take n (take (length bytes - i) (drop i bytes)) → drop i bytes ≡ take n (copy ++ rest) ++ drop (i + n) bytes
copied_front bytes copy rest i n fits is = grind (arith, common_steps, from_place i bytes, take-append-drop n (drop i bytes))
