use Rattle.ixp_read.proofs.AnswerLaws.{spelt_is_answered}
use Rattle.ixp_cli_plain.proofs.fate.config_of.Goals as goal

pub unread-requires : goal.unread-requires
unread-requires c = spelt_is_answered c.args.text.now c.requires.0 c.in-Err.fault c.requires.1 c.in-Err.ensures
