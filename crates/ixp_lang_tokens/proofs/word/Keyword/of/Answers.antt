use Rattle.std.proofs.Common.{sym, ◌∙◌, subst, ◌+◌, Some, slice_index_or, []}
use Rattle.ixp_lang_tokens.specs.Vocabulary.{all_words}
use Rattle.ixp_lang_tokens.specs.Words.{IsKeyword}
use Rattle.ixp_lang_tokens.proofs.Keywords.{profile_length, in_profile, in_foreign, in_neither}
use Rattle.ixp_lang_tokens.proofs.word.Keyword.of.Goals as goal

pub returns-in-Some : goal.returns-in-Some
returns-in-Some c = (in_profile c.args.word.now c.profile_words-words.result.now c.in-Some.number c.profile_words-words.ensures (sym c.place_of.ensures ∙ c.in-Some.is)).1

pub returns-in-Some-place_of : goal.returns-in-Some-place_of
returns-in-Some-place_of c =
    let long = profile_length c.profile_words-words.result.now c.profile_words-words.ensures in
    subst (λ n. IsKeyword c.args.word.now (Some (slice_index_or all_words (n + c.in-Some-place_of.number) []))) (sym long)
    (in_foreign c.args.word.now c.foreign_words.result.now c.in-Some-place_of.number c.foreign_words.ensures (sym c.place_of-in-None.ensures ∙ c.in-Some-place_of.is)).1

pub returns-in-None-place_of : goal.returns-in-None-place_of
returns-in-None-place_of c =
    in_neither c.args.word.now c.profile_words-words.result.now c.foreign_words.result.now c.profile_words-words.ensures c.foreign_words.ensures
    (sym c.place_of.ensures ∙ c.in-None.is) (sym c.place_of-in-None.ensures ∙ c.in-None-place_of.is)
