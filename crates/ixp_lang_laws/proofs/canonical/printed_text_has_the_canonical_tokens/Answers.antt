use Rattle.ixp_lang_laws.proofs.PrintedItems.{printed_law}
use Rattle.ixp_lang_laws.proofs.canonical.printed_text_has_the_canonical_tokens.Goals as goal

pub returns : goal.returns
returns c = printed_law
