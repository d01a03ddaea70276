use Rattle.std.proofs.Common.{◌∙◌, []}
use Rattle.ixp_lang_tokens.proofs.Keywords.{profile_text, foreign_text}
use Rattle.ixp_lang_tokens.proofs.word.Keyword.as_bytes.Goals as goal

pub returns-then-self-words : goal.returns-then-self-words
returns-then-self-words c =
    profile_text c.profile_words-words.result.now c.self.inside.number (record { ref_ptr = (0, 0); now = [] }) c.profile_words-words.ensures c.if-self-words.true ∙ c.self.view_is

pub returns-else-self-words : goal.returns-else-self-words
returns-else-self-words c =
    foreign_text c.profile_words-words.result.now c.foreign_words.result.now c.self.inside.number (record { ref_ptr = (0, 0); now = [] }) c.profile_words-words.ensures c.foreign_words.ensures
    c.if-self-words.false c.self.invariant
    ∙ c.self.view_is
