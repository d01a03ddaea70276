use Rattle.std.proofs.Common.{rules}
use Rattle.ixp_cli_plain.proofs.Words.{five_or_six, more_words, none_at_all, three_words}
use Rattle.ixp_cli_plain.proofs.command.command_in.Goals.{in_default-via-then-words-lt1, in_default-via-else-words-lt1+else-words-lt2+else-words-lt3+then-words-lt4, in_default-via-else-words-lt1+else-words-lt2+else-words-lt3+else-words-lt4+else-words-lt5+then-words-lt7, in_default-via-else-words-lt1+else-words-lt2+else-words-lt3+else-words-lt4+else-words-lt5+else-words-lt7+else-words-lt8}
use Rattle.ixp_cli_plain.proofs.command.command_in.Goals as goal

pub returns-in_default-clause-ok : goal.returns-in_default-clause-ok
returns-in_default-clause-ok c =
    elim c.in_default.branch [
      | in_default-via-then-words-lt1 w ↦ none_at_all c.args.words.now (search rules)
      | in_default-via-else-words-lt1+else-words-lt2+else-words-lt3+then-words-lt4 w ↦ three_words c.args.words.now (search rules) (search rules)
      | in_default-via-else-words-lt1+else-words-lt2+else-words-lt3+else-words-lt4+else-words-lt5+then-words-lt7 w ↦ five_or_six c.args.words.now (search rules) (search rules)
      | in_default-via-else-words-lt1+else-words-lt2+else-words-lt3+else-words-lt4+else-words-lt5+else-words-lt7+else-words-lt8 w ↦ more_words c.args.words.now (search rules)
    ]
