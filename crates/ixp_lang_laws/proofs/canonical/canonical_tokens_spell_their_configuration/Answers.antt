use Rattle.ixp_lang_laws.proofs.Items.{configuration_law}
use Rattle.ixp_lang_laws.proofs.canonical.canonical_tokens_spell_their_configuration.Goals as goal

pub returns : goal.returns
returns c = configuration_law
