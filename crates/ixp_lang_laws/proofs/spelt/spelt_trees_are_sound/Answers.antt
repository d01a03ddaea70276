use Rattle.ixp_lang_laws.proofs.SaidItems.{spelt_sound, text_sound}
use Rattle.ixp_lang_laws.proofs.spelt.spelt_trees_are_sound.Goals as goal

pub returns-clause-tokens : goal.returns-clause-tokens
returns-clause-tokens c = spelt_sound

pub returns-clause-text : goal.returns-clause-text
returns-clause-text c = text_sound
