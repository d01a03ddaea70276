use Rattle.std.proofs.Common.{length, ◌≡◌, ◌+◌, ℕ, List, Option, None, Some, option_map}
use denote.Bor.{Bor}
use Rattle.std.specs.List.{list_any}
use Rattle.ixp_http.specs.Fields.{alike, trimmed, items, items_of}
use Rattle.ixp_http.proofs.fields.has_item.Given as goal

-- how much is left
abbrev pub left_len : Option (List ℕ) → ℕ
left_len None = 0
left_len (Some bytes) = length bytes + 1

abbrev pub invariant-loop-left : goal.invariant-loop-left
invariant-loop-left l = list_any (λ item. alike (trimmed item) l.word) (items_of (option_map (λ (m : Bor (List ℕ)). m.now) l.left)) ≡ list_any (λ item. alike (trimmed item) l.word) (items l.value)

abbrev pub decreases-loop-left : goal.decreases-loop-left
decreases-loop-left l = left_len (option_map (λ (m : Bor (List ℕ)). m.now) l.left)
