use Rattle.ixp_lang_laws.proofs.Laws.{expression_law}
use Rattle.ixp_lang_laws.proofs.canonical.canonical_tokens_spell_their_expression.Goals as goal

pub returns : goal.returns
returns c = expression_law
