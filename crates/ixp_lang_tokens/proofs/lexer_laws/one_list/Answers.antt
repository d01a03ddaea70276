use Rattle.ixp_lang_tokens.proofs.TokenLaws.{one_tokens}
use Rattle.ixp_lang_tokens.proofs.lexer_laws.one_list.Goals as goal

pub returns : goal.returns
returns c = one_tokens
