-- What the reader of a text answers.
use Rattle.std.specs.Prelude.{◌≡◌, ℕ, Bool, true, false, ◌-◌, List, [], length, Option, Some, None, option_map, slice_get, Result, Ok, Err, if◌then◌else◌}
use Rattle.ixp_lang.specs.Trees.{ItemTree}
use Rattle.ixp_lang.specs.Views.{config_view}
use Rattle.ixp_lang.specs.declared.item.Config.{Config}
use Rattle.ixp_lang_tokens.specs.declared.fault.Cause.{Cause}
use Rattle.ixp_lang_tokens.specs.declared.fault.Cause.TheVariants as cause
use Rattle.ixp_lang_tokens.specs.declared.token.Kind.{Kind}
use Rattle.ixp_lang_tokens.specs.declared.token.Kind.TheVariants as kind
use Rattle.ixp_lang_tokens.specs.declared.token.Mark.{Mark}
use Rattle.ixp_lang_tokens.specs.declared.token.Mark.TheVariants as mark
use Rattle.ixp_lang_tokens.specs.Words.{is_foreign_word}
use Rattle.ixp_lang_tokens.specs.Tokens.{Placed, placed_kinds, Tokens, HasTokens}
use Rattle.ixp_lang_tokens.specs.Grammars.{Took}
use Rattle.ixp_lang_tokens.specs.Reading.{read}
use Rattle.ixp_read.specs.declared.fault.ReadFault.{ReadFault}
use Rattle.ixp_read.specs.declared.fault.ReadFault.TheVariants.{Byte, Number, Unexpected, UnknownName, NameTwice, MixedLogic, WrongType, TooDeep, OutOfProfile, NoMemory}
use Rattle.ixp_read.specs.Items.{config_form}

-- the text has tokens that spell this configuration, with nothing behind them
abbrev pub SpellsText : List ℕ → List ItemTree → Type 0
SpellsText text configuration =
    (tokens : List Kind) × HasTokens text tokens × Took config_form configuration tokens []

-- marks that BIRD 2 has and the profile leaves out
abbrev pub is_foreign_mark : Mark → Bool
is_foreign_mark mark.Plus = true
is_foreign_mark mark.Star = true
is_foreign_mark mark.Slash = true
is_foreign_mark _ = false

-- what a token is called that no text goes on with, where it begins at this byte
abbrev pub refused : Kind → ℕ → ReadFault
refused kind.BadByte at = Byte at
refused kind.BadNumber at = Number at
refused (kind.Mark m) at = if is_foreign_mark m then OutOfProfile at else Unexpected at
refused (kind.Word word) at = if is_foreign_word word then OutOfProfile at else Unexpected at
refused token at = Unexpected at

-- the fault for a cause, at a token or at the end of the text
abbrev pub named : Cause → Option Kind → ℕ → ReadFault
named cause.Unexpected None at = Unexpected at
named cause.Unexpected (Some token) at = refused token at
named cause.Number token at = Number at
named cause.Unknown token at = UnknownName at
named cause.Twice token at = NameTwice at
named cause.Mixed token at = MixedLogic at
named cause.Misfit token at = WrongType at
named cause.Deep token at = TooDeep at
named cause.Foreign token at = OutOfProfile at

-- the token with which so many are left, itself among them; none at the end of the text
abbrev pub token_with : ℕ → List Placed → Option Placed
token_with left tokens = slice_get tokens (length tokens - left)

-- the byte at which a token of the text begins, or the text's length
abbrev pub byte_of : List ℕ → Option Placed → ℕ
byte_of text None = length text
byte_of text (Some token) = length text - token.left

-- the fault for a cause where so many of the text's tokens are left
abbrev pub fault_at : List ℕ → List Placed → Cause → ℕ → ReadFault
fault_at text tokens cause left =
    named cause (option_map (λ t. t.kind) (token_with left tokens)) (byte_of text (token_with left tokens))

-- The text is no configuration: read by the grammar from left to right, its tokens stop at this fault.
pub record IsStop (text : List ℕ) (fault : ReadFault) : Type 0 where
  pub tokens : List Placed
  pub are : Tokens text tokens
  pub cause : Cause
  pub left : ℕ
  pub stops : read config_form (placed_kinds tokens) ≡ Err (cause, left)
  pub is : fault ≡ fault_at text tokens cause left

-- the configuration that the text spells, or where its reading stops; running out of memory is free
abbrev pub ConfigAnswer : List ℕ → Result Config ReadFault → Type 0
ConfigAnswer text (Ok configuration) = SpellsText text (config_view configuration)
ConfigAnswer text (Err NoMemory) = Unit {0}
ConfigAnswer text (Err fault) = IsStop text fault

-- an answer that isn't running out of memory
abbrev pub IsTold : Result Config ReadFault → Type 0
IsTold (Ok configuration) = Unit {0}
IsTold (Err NoMemory) = ⊥
IsTold (Err fault) = Unit {0}

-- two answers say the same: one configuration, or one fault
abbrev pub SameAnswer : Result Config ReadFault → Result Config ReadFault → Type 0
SameAnswer (Ok c) (Ok d) = config_view c ≡ config_view d
SameAnswer (Ok c) (Err f) = ⊥
SameAnswer (Err f) (Ok d) = ⊥
SameAnswer (Err f) (Err g) = f ≡ g
