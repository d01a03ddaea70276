-- Bytes that are gathered before they are written.
use Rattle.std.specs.Prelude.{ℕ, Option, option_map, List, ◌++◌}

-- what was written to a link, and behind that what a batch holds for it
unfoldable pub gathered : Option (List ℕ) → List ℕ → Option (List ℕ)
gathered written held = option_map (λ bytes. bytes ++ held) written
