use Rattle.ixp_lang_laws.proofs.SoundItems.{configuration_spelt}
use Rattle.ixp_lang_laws.proofs.WrittenTokens.{sound_printed}
use Rattle.ixp_lang_laws.proofs.canonical.sound_trees_are_spelt.Goals as goal

pub returns-clause-tokens : goal.returns-clause-tokens
returns-clause-tokens c = configuration_spelt

pub returns-clause-printed : goal.returns-clause-printed
returns-clause-printed c = sound_printed
