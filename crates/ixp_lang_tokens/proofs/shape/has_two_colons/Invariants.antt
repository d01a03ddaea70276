use Rattle.std.proofs.Common.{◌≡◌, length, if◌then◌else◌}
use Rattle.std.specs.List.{list_any}
use Rattle.ixp_lang_tokens.specs.Cutting.{has_two_colons, is_colon}
use Rattle.ixp_lang_tokens.proofs.shape.has_two_colons.Given as goal

abbrev pub invariant-colons : goal.invariant-colons
invariant-colons l = (if l.has_one then list_any is_colon l.rest else has_two_colons l.rest) ≡ has_two_colons l.bytes

abbrev pub decreases-colons : goal.decreases-colons
decreases-colons l = length l.rest
