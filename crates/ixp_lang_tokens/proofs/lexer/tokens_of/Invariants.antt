use Rattle.std.proofs.Common.{◌≡◌, List, ◌++◌, length, map}
use Rattle.ixp_lang_tokens.specs.Tokens.{Placed, placed_kinds, Tokens}
use Rattle.ixp_lang_tokens.specs.Reading.{kinds}
use Rattle.ixp_lang_tokens.specs.Cutting.{Plain}
use Rattle.ixp_lang_tokens.proofs.TokenLaws.{From}
use Rattle.ixp_lang_tokens.proofs.lexer.tokens_of.Given as goal

abbrev pub invariant-bytes : goal.invariant-bytes
invariant-bytes l = record { grows : (front : List Placed) × (placed_kinds front ≡ kinds l.tokens.items) × ((more : List Placed) → From l.rest more → Tokens l.bytes (front ++ more)); plain : Plain l.rest l.plain }

abbrev pub decreases-bytes : goal.decreases-bytes
decreases-bytes l = length l.rest
