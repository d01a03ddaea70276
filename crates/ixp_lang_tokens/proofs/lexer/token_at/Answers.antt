use Rattle.ixp_lang_tokens.proofs.TokenLaws.{stands}
use Rattle.ixp_lang_tokens.proofs.lexer.token_at.Goals as goal

pub returns : goal.returns
returns c =
    stands c.piece_at-piece.result.shape c.args.bytes.now c.piece_at-piece.result.text.now c.piece_at-piece.result.rest.now
    c.in_ok-kind.kind c.requires.some c.piece_at-piece.ensures c.in_ok-kind.ensures
