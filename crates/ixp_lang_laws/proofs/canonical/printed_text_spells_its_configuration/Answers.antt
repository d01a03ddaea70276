use Rattle.ixp_lang_laws.proofs.WrittenTokens.{spells_law, alone_law}
use Rattle.ixp_lang_laws.proofs.canonical.printed_text_spells_its_configuration.Goals as goal

pub returns-clause-spelt : goal.returns-clause-spelt
returns-clause-spelt c = spells_law

pub returns-clause-alone : goal.returns-clause-alone
returns-clause-alone c = alone_law
