use Rattle.std.proofs.Common.{List}
use Rattle.ixp_lang_tokens.specs.Tokens.{Placed, Tokens}
use Rattle.ixp_lang_tokens.specs.Cutting.{Plain}
use Rattle.ixp_lang_tokens.proofs.TokenLaws.{GoesOn}
use Rattle.ixp_lang_tokens.proofs.lexer.left_at.Given as goal

abbrev pub invariant-tokens : goal.invariant-tokens
invariant-tokens l = record { on : (tokens : List Placed) × Tokens l.fn.bytes tokens × GoesOn tokens l.fn.others l.rest l.more; plain : Plain l.rest l.plain }

abbrev pub decreases-tokens : goal.decreases-tokens
decreases-tokens l = l.more
