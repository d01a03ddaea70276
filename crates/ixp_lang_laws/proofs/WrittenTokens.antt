-- What the tokens of a text say is written; so what a text spells is printed as a text that spells it.
use Rattle.std.proofs.Common.{◌≡◌, ℕ, Bool, true, false, List, [], ◌∷◌, refl, sym, subst}
use Rattle.ixp_lang.specs.Trees.{ItemTree}
use Rattle.ixp_lang_tokens.specs.declared.token.Kind.{Kind}
use Rattle.ixp_lang_tokens.specs.declared.token.Kind.TheVariants as kind
use Rattle.ixp_lang_tokens.specs.Tokens.{Stands, Placed, placed_kinds, Tokens, is_last}
use Rattle.ixp_lang_tokens.proofs.TokenFacts.{name_facts, number_facts, text_facts}
use Rattle.ixp_print.specs.Texts.{config_text}
use Rattle.ixp_lang_laws.specs.CanonicalItems.{config_tokens}
use Rattle.ixp_read.specs.Answers.{SpellsText}
use Rattle.ixp_lang_laws.specs.Printed.{IsWritten, AreWritten}
use Rattle.ixp_lang_laws.proofs.Items.{configuration_law}
use Rattle.ixp_read.proofs.AnswerLaws.{one_spelling}
use Rattle.ixp_lang_laws.specs.SoundItems.{is_sound}
use Rattle.ixp_lang_laws.proofs.PrintedItems.{printed_law}
use Rattle.ixp_lang_laws.proofs.SoundItems.{configuration_spelt}
use Rattle.ixp_lang_laws.proofs.WrittenItems.{spelt_written}

stands_written : (k : Kind) (text rest : List ℕ) → Stands k text rest → IsWritten k
stands_written (kind.Name n) text rest stands = name_facts n text rest stands
stands_written (kind.Number n) text rest stands = number_facts n text rest stands
stands_written (kind.Text said) text rest stands = text_facts said text rest stands
stands_written _ text rest stands = tt

pub tokens_written : (text : List ℕ) (placed : List Placed) → Tokens text placed → AreWritten (placed_kinds placed)
tokens_written text [] have = tt
tokens_written text (t ∷ ts) (here, rest, gap, stands, left, last, goes) = (stands_written t.kind here rest stands, by_case (is_last t.kind) refl (tokens_written rest ts))
  where
    by_case : (b : Bool) → is_last t.kind ≡ b → (Tokens rest ts → AreWritten (placed_kinds ts)) → AreWritten (placed_kinds ts)
    by_case true e again = subst (λ x. AreWritten (placed_kinds x)) (sym (last e)) tt
    by_case false e again = again (goes e)

pub written_law : (text : List ℕ) (c : List ItemTree) → SpellsText text c → AreWritten (config_tokens c)
written_law text c (tokens, (placed, have, same), took) = spelt_written c tokens (subst AreWritten same (tokens_written text placed have)) took

pub spells_law : (c : List ItemTree) (text : List ℕ) → SpellsText text c → SpellsText (config_text c) c
spells_law c text spells = (config_tokens c, printed_law c (written_law text c spells), configuration_law c spells.0 spells.2)

pub alone_law : (c other : List ItemTree) (text : List ℕ) → SpellsText text c → SpellsText (config_text c) other → other ≡ c
alone_law c other text spells again = one_spelling (config_text c) other c again (spells_law c text spells)

pub sound_printed : (c : List ItemTree) → is_sound c ≡ true → AreWritten (config_tokens c) → SpellsText (config_text c) c
sound_printed c sound written = (config_tokens c, printed_law c written, configuration_spelt c sound)
