use Rattle.std.proofs.Common.{ℕ, List, ap, ◌∙◌}
use Rattle.ixp_store_words.proofs.WordTexts.{parted_of}
use Rattle.ixp_store_words.proofs.words.first_word.Goals as goal

abbrev Parts : Type 0
Parts = List ℕ × List ℕ

pub returns-clause-word : goal.returns-clause-word
returns-clause-word c = λ word rest all e. ap (λ (x : Parts). x.0) (c.parted.ensures ∙ parted_of c.args.text.now word rest all e)

pub returns-clause-rest : goal.returns-clause-rest
returns-clause-rest c = λ word rest all e. c.behind_one.ensures 32 rest (ap (λ (x : Parts). x.1) (c.parted.ensures ∙ parted_of c.args.text.now word rest all e))
