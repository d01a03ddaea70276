-- The tokens of a filter text (BIRD 2 User's Guide, "Configuration" and "Filters"), and how many bytes are
-- left where each begins.
use Rattle.std.specs.Prelude.{◌≡◌, ◌≢◌, ◌⊎◌, ◌≤◌, ◌<◌, ◌+◌, ℕ, Bool, true, false, ◌==◌, List, [], ◌∷◌, ◌++◌, length, map, Result, Ok, Err, if◌then◌else◌}
use Rattle.std.specs.List.{list_all}
use Rattle.ixp_num.specs.declared.addr.Addr.{Addr}
use Rattle.ixp_num.specs.declared.asn.Asn.{Asn}
use Rattle.ixp_num.specs.declared.prefix.Prefix.{Prefix}
use Rattle.ixp_num.specs.declared.fault.NumFault.{NumFault}
use Rattle.ixp_num.specs.Names.{is_name}
use Rattle.ixp_num.specs.Answers.{AddrAnswer, PrefixAnswer, AsnAnswer}
use Rattle.ixp_lang_tokens.specs.declared.runs.Class.TheVariants as class
use Rattle.ixp_lang_tokens.specs.declared.shape.Shape.{Shape}
use Rattle.ixp_lang_tokens.specs.declared.shape.Shape.TheVariants as shape
use Rattle.ixp_lang_tokens.specs.declared.token.Kind.{Kind}
use Rattle.ixp_lang_tokens.specs.declared.token.Kind.TheVariants as kind
use Rattle.ixp_lang_tokens.specs.declared.token.Mark.{Mark}
use Rattle.ixp_lang_tokens.specs.declared.token.Mark.TheVariants as mark
use Rattle.ixp_lang_tokens.specs.Bytes.{is_in, is_digit, is_letter, begins_with, Run}
use Rattle.ixp_lang_tokens.specs.Gaps.{Gap}
use Rattle.ixp_lang_tokens.specs.Words.{is_keyword}

-- a mark as it is written
abbrev pub mark_text : Mark → List ℕ
mark_text mark.Semicolon = 59 ∷ []
mark_text mark.Comma = 44 ∷ []
mark_text mark.Dot = 46 ∷ []
mark_text mark.Range = 46 ∷ 46 ∷ []
mark_text mark.Colon = 58 ∷ []
mark_text mark.Open = 40 ∷ []
mark_text mark.Close = 41 ∷ []
mark_text mark.BlockOpen = 123 ∷ []
mark_text mark.BlockClose = 125 ∷ []
mark_text mark.SetOpen = 91 ∷ []
mark_text mark.SetClose = 93 ∷ []
mark_text mark.Equal = 61 ∷ []
mark_text mark.Unequal = 33 ∷ 61 ∷ []
mark_text mark.Less = 60 ∷ []
mark_text mark.LessEqual = 60 ∷ 61 ∷ []
mark_text mark.Greater = 62 ∷ []
mark_text mark.GreaterEqual = 62 ∷ 61 ∷ []
mark_text mark.In = 126 ∷ []
mark_text mark.NotIn = 33 ∷ 126 ∷ []
mark_text mark.Not = 33 ∷ []
mark_text mark.And = 38 ∷ 38 ∷ []
mark_text mark.Or = 124 ∷ 124 ∷ []
mark_text mark.Arrow = 45 ∷ 62 ∷ []
mark_text mark.Plus = 43 ∷ []
mark_text mark.Minus = 45 ∷ []
mark_text mark.Star = 42 ∷ []
mark_text mark.Slash = 47 ∷ []

-- how many colons there are
abbrev pub colons : List ℕ → ℕ
colons [] = 0
colons (b ∷ bs) = if b == 58 then 1 + colons bs else colons bs

-- one digit or more
abbrev pub AreDigits : List ℕ → Type 0
AreDigits digits = (0 < length digits) × (list_all is_digit digits ≡ true)

-- four numbers with dots
abbrev pub AreDotted : List ℕ → Type 0
AreDotted text =
    (a b c d : List ℕ) × (text ≡ a ++ (46 ∷ (b ++ (46 ∷ (c ++ (46 ∷ d))))))
    × AreDigits a × AreDigits b × AreDigits c × AreDigits d

-- An IPv6 address stands at the front, well formed or not: the longest run of hexadecimal digits, `:` and
-- `.`, if it has two colons or more and doesn't begin with a dot.
abbrev pub ColonRun : List ℕ → List ℕ → List ℕ → Type 0
ColonRun text run rest = Run class.Address text run rest × (begins_with (λ b. b == 46) text ≡ false)
    × (2 ≤ colons run)

-- An address stands at the front: that, or else four numbers with dots.
abbrev pub AddressRun : List ℕ → List ℕ → List ℕ → Type 0
AddressRun text run rest =
    ColonRun text run rest
    ⊎ (((other behind : List ℕ) → ¬ (ColonRun text other behind)) × (text ≡ run ++ rest) × AreDotted run
    × (begins_with is_digit rest ≡ false))

abbrev pub NoAddress : List ℕ → Type 0
NoAddress text = (run rest : List ℕ) → ¬ (AddressRun text run rest)

-- a slash and digits, the longest run of them
abbrev pub LengthRun : List ℕ → List ℕ → List ℕ → Type 0
LengthRun text run rest = (behind digits : List ℕ) × (text ≡ 47 ∷ behind) × (run ≡ 47 ∷ digits)
    × (0 < length digits) × Run class.Digit behind digits rest

-- How a text is cut: a piece of this shape stands at its front, and the rest is behind it. A string's piece
-- is what stands between the quotes; of a mark the shape says all, and the piece is empty.
abbrev pub Cut : Shape → List ℕ → List ℕ → List ℕ → Type 0
Cut shape.Address text piece rest =
    AddressRun text piece rest × ((run behind : List ℕ) → ¬ (LengthRun rest run behind))
Cut shape.Prefix text piece rest =
    (addr mid run : List ℕ) × AddressRun text addr mid × LengthRun mid run rest × (piece ≡ addr ++ run)
Cut shape.Number text piece rest = NoAddress text × (0 < length piece) × Run class.Digit text piece rest
Cut shape.Word text piece rest =
    NoAddress text × (begins_with is_letter text ≡ true) × Run class.Word text piece rest
Cut shape.Text text piece rest =
    (text ≡ 34 ∷ (piece ++ (34 ∷ rest))) × (list_all (is_in class.Text) piece ≡ true) × (length piece ≤ 64)
-- the longest mark
Cut (shape.Mark m) text piece rest =
    NoAddress text × (piece ≡ []) × (text ≡ mark_text m ++ rest)
    × ((other : Mark) (behind : List ℕ) → text ≡ mark_text other ++ behind
    → length (mark_text other) ≤ length (mark_text m))
-- this one is cut where no other is
Cut shape.Stray text piece rest = ⊥

abbrev pub addr_kind : Result Addr NumFault → Kind
addr_kind (Ok addr) = kind.Addr addr
addr_kind (Err fault) = kind.BadNumber

abbrev pub prefix_kind : Result Prefix NumFault → Kind
prefix_kind (Ok prefix) = kind.Prefix prefix
prefix_kind (Err fault) = kind.BadNumber

abbrev pub number_kind : Result Asn NumFault → Kind
number_kind (Ok number) = kind.Number number.0
number_kind (Err fault) = kind.BadNumber

-- a word of 1 to 64 bytes is a keyword or a name
abbrev pub word_kind : List ℕ → Kind
word_kind word = if is_name word then (if is_keyword word then kind.Word word else kind.Name word)
    else kind.BadByte

-- What a piece says. A number is at most 4294967295 and has no leading zero, as an AS number has none.
abbrev pub Says : Shape → List ℕ → Kind → Type 0
Says shape.Address piece k =
    (answer : Result Addr NumFault) × AddrAnswer piece answer × (k ≡ addr_kind answer)
Says shape.Prefix piece k = (answer : Result Prefix NumFault) × PrefixAnswer piece answer
    × (k ≡ prefix_kind answer)
Says shape.Number piece k = (answer : Result Asn NumFault) × AsnAnswer piece answer × (k ≡ number_kind answer)
Says shape.Word piece k = k ≡ word_kind piece
Says shape.Text piece k = k ≡ kind.Text piece
Says (shape.Mark m) piece k = k ≡ kind.Mark m
Says shape.Stray piece k = k ≡ kind.BadByte

-- no piece stands at the front of the text, which isn't empty
abbrev pub Stray : List ℕ → Type 0
Stray text = (text ≢ []) × ((s : Shape) (piece rest : List ℕ) → ¬ (Cut s text piece rest))

-- This token stands at the front of the text, and the rest is behind it.
abbrev pub Stands : Kind → List ℕ → List ℕ → Type 0
Stands k text rest = ((s : Shape) × (piece : List ℕ) × Cut s text piece rest × Says s piece k)
    ⊎ (Stray text × (k ≡ kind.BadByte))

-- no token follows one that stands in no text: a byte that begins none, a number without a value, `/`
abbrev pub is_last : Kind → Bool
is_last kind.BadByte = true
is_last kind.BadNumber = true
is_last (kind.Mark mark.Slash) = true
is_last _ = false

-- a token, and how many bytes of the text are left where it begins
pub record Placed : Type 0 where
  pub kind : Kind
  pub left : ℕ

abbrev pub placed_kinds : List Placed → List Kind
placed_kinds tokens = map (λ t. t.kind) tokens

-- The text has these tokens, and each has its place.
abbrev pub Tokens : List ℕ → List Placed → Type 0
Tokens text [] = Gap text []
Tokens text (token ∷ tokens) =
    (here rest : List ℕ) × Gap text here × Stands token.kind here rest × (token.left ≡ length here)
    × (is_last token.kind ≡ true → tokens ≡ []) × (is_last token.kind ≡ false → Tokens rest tokens)

-- the text has these tokens, each at some place
abbrev pub HasTokens : List ℕ → List Kind → Type 0
HasTokens text tokens = (placed : List Placed) × Tokens text placed × (placed_kinds placed ≡ tokens)
