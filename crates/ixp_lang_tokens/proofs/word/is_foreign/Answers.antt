use Rattle.std.proofs.Common.{◌∙◌, ap}
use Rattle.std.specs.Option.{is_some}
use Rattle.ixp_lang_tokens.proofs.Keywords.{foreign_there}
use Rattle.ixp_lang_tokens.proofs.word.is_foreign.Goals as goal

pub returns : goal.returns
returns c = c.is_some.ensures ∙ ap is_some c.place_of.ensures ∙ foreign_there c.args.word.now c.foreign_words.result.now c.foreign_words.ensures
