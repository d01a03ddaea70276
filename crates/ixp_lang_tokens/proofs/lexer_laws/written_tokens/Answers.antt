use Rattle.ixp_lang_tokens.proofs.AddressTexts.{address_stands, prefix_stands}
use Rattle.ixp_lang_tokens.proofs.Standing.{word_stands, number_stands, text_stands, other_mark_stands, colon_stands}
use Rattle.ixp_lang_tokens.proofs.lexer_laws.written_tokens.Goals as goal

pub returns-clause-word : goal.returns-clause-word
returns-clause-word c = word_stands

pub returns-clause-number : goal.returns-clause-number
returns-clause-number c = number_stands

pub returns-clause-text : goal.returns-clause-text
returns-clause-text c = text_stands

pub returns-clause-mark : goal.returns-clause-mark
returns-clause-mark c = other_mark_stands

pub returns-clause-colon : goal.returns-clause-colon
returns-clause-colon c = colon_stands

pub returns-clause-address : goal.returns-clause-address
returns-clause-address c = address_stands

pub returns-clause-prefix : goal.returns-clause-prefix
returns-clause-prefix c = prefix_stands
