use Rattle.ixp_lang_laws.proofs.WrittenTokens.{written_law}
use Rattle.ixp_lang_laws.proofs.canonical.what_a_text_spells_is_written.Goals as goal

pub returns : goal.returns
returns c = written_law
