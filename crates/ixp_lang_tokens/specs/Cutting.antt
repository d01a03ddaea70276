-- How the code cuts a text, from left to right.
use Rattle.std.specs.Prelude.{◌≡◌, ◌++◌, ◌<◌, nat_lt, ℕ, ◌-◌, Bool, ◌&&◌, ◌==◌, not, nat_le, false, List, [], ◌∷◌, length, take, Option, Some, None, if◌then◌else◌}
use Rattle.std.specs.List.{list_any}
use Rattle.std.specs.Option.{option_and_then, option_or}
use Rattle.ixp_lang_tokens.specs.declared.runs.Class.{Class}
use Rattle.ixp_lang_tokens.specs.declared.runs.Class.TheVariants as class
use Rattle.ixp_lang_tokens.specs.declared.shape.Shape.{Shape}
use Rattle.ixp_lang_tokens.specs.declared.shape.Shape.TheVariants as shape
use Rattle.ixp_lang_tokens.specs.declared.token.Mark.{Mark}
use Rattle.ixp_lang_tokens.specs.declared.token.Mark.TheVariants as mark
use Rattle.ixp_lang_tokens.specs.Bytes.{is_in, is_digit, is_letter, begins_with}
use Rattle.ixp_lang_tokens.specs.Gaps.{is_blank}

-- the bytes of the class at the front, and what is behind them
abbrev pub run_of : Class → List ℕ → List ℕ
run_of class [] = []
run_of class (b ∷ bs) = if is_in class b then b ∷ run_of class bs else []

abbrev pub behind_run : Class → List ℕ → List ℕ
behind_run class [] = []
behind_run class (b ∷ bs) = if is_in class b then behind_run class bs else b ∷ bs

-- what is before the rest
abbrev pub before : List ℕ → List ℕ → List ℕ
before text rest = take (length text - length rest) text

-- what is behind the first `*/`
abbrev pub slash_or : List ℕ → Option (List ℕ) → Option (List ℕ)
slash_or [] other = other
slash_or (b ∷ bs) other = if b == 47 then Some bs else other

abbrev pub behind_comment : List ℕ → Option (List ℕ)
behind_comment [] = None
behind_comment (b ∷ bs) = if b == 42 then slash_or bs (behind_comment bs) else behind_comment bs

abbrev pub star_comment : List ℕ → Option (List ℕ)
star_comment [] = None
star_comment (b ∷ bs) = if b == 42 then behind_comment bs else None

-- what is behind one blank or comment
abbrev pub behind_blank : List ℕ → Option (List ℕ)
behind_blank [] = None
behind_blank (b ∷ bs) =
    if is_blank b then Some bs
    else (if b == 35 then Some (behind_run class.Line bs)
    else (if b == 47 then star_comment bs else None))

-- what is behind digits
abbrev pub behind_digits : List ℕ → Option (List ℕ)
behind_digits [] = None
behind_digits (b ∷ bs) = if is_digit b then Some (behind_run class.Digit bs) else None

-- what is behind this byte and digits
abbrev pub behind_number : ℕ → List ℕ → Option (List ℕ)
behind_number mark [] = None
behind_number mark (b ∷ bs) = if b == mark then behind_digits bs else None

-- what is behind four numbers with dots
unfoldable pub behind_dotted : List ℕ → Option (List ℕ)
behind_dotted text = option_and_then (behind_number 46)
    (option_and_then (behind_number 46) (option_and_then (behind_number 46) (behind_digits text)))

abbrev pub is_colon : ℕ → Bool
is_colon b = b == 58

abbrev pub has_two_colons : List ℕ → Bool
has_two_colons [] = false
has_two_colons (b ∷ bs) = if is_colon b then list_any is_colon bs else has_two_colons bs

unfoldable pub is_colon_text : List ℕ → Bool
is_colon_text text = not (begins_with (λ b. b == 46) text) && has_two_colons (run_of class.Address text)

-- what is behind an address
unfoldable pub behind_address : List ℕ → Option (List ℕ)
behind_address text = if is_colon_text text then Some (behind_run class.Address text) else behind_dotted text

abbrev pub double_mark : ℕ → ℕ → Option Mark
double_mark b c =
    if b == 46 && c == 46 then Some mark.Range
    else (if b == 33 && c == 61 then Some mark.Unequal
    else (if b == 33 && c == 126 then Some mark.NotIn
    else (if b == 60 && c == 61 then Some mark.LessEqual
    else (if b == 62 && c == 61 then Some mark.GreaterEqual
    else (if b == 38 && c == 38 then Some mark.And
    else (if b == 124 && c == 124 then Some mark.Or
    else (if b == 45 && c == 62 then Some mark.Arrow else None)))))))

abbrev pub bracket : ℕ → Option Mark
bracket b =
    if b == 40 then Some mark.Open
    else (if b == 41 then Some mark.Close
    else (if b == 123 then Some mark.BlockOpen
    else (if b == 125 then Some mark.BlockClose
    else (if b == 91 then Some mark.SetOpen
    else (if b == 93 then Some mark.SetClose else None)))))

abbrev pub point : ℕ → Option Mark
point b =
    if b == 59 then Some mark.Semicolon
    else (if b == 44 then Some mark.Comma
    else (if b == 46 then Some mark.Dot
    else (if b == 58 then Some mark.Colon else None)))

abbrev pub operator : ℕ → Option Mark
operator b =
    if b == 61 then Some mark.Equal
    else (if b == 60 then Some mark.Less
    else (if b == 62 then Some mark.Greater
    else (if b == 126 then Some mark.In
    else (if b == 33 then Some mark.Not
    else (if b == 43 then Some mark.Plus
    else (if b == 45 then Some mark.Minus
    else (if b == 42 then Some mark.Star
    else (if b == 47 then Some mark.Slash else None))))))))

unfoldable pub single_mark : ℕ → Option Mark
single_mark b = option_or (bracket b) (option_or (point b) (operator b))

pub data Piece : Type 0 where
  piece : Shape → List ℕ → List ℕ → Piece

abbrev pub single_piece : List ℕ → Option Mark → Piece
single_piece rest (Some m) = piece (shape.Mark m) [] rest
single_piece rest None = piece shape.Stray [] rest

abbrev pub double_piece : ℕ → ℕ → List ℕ → Option Mark → Piece
double_piece b c rest (Some m) = piece (shape.Mark m) [] rest
double_piece b c rest None = single_piece (c ∷ rest) (single_mark b)

-- the mark that begins with b
unfoldable pub mark_piece : ℕ → List ℕ → Piece
mark_piece b [] = single_piece [] (single_mark b)
mark_piece b (c ∷ rest) = double_piece b c rest (double_mark b c)

abbrev pub text_with : List ℕ → List ℕ → List ℕ → Piece
text_with bs run [] = piece shape.Stray [] bs
text_with bs run (b ∷ behind) =
    if b == 34 && nat_le (length run) 64 then piece shape.Text run behind else piece shape.Stray [] bs

-- what is left of a string behind its opening quote
unfoldable pub text_piece : List ℕ → Piece
text_piece bs = text_with bs (run_of class.Text bs) (behind_run class.Text bs)

unfoldable pub plain_piece : List ℕ → Piece
plain_piece [] = piece shape.Stray [] []
plain_piece (b ∷ bs) =
    if is_digit b then piece shape.Number (run_of class.Digit (b ∷ bs)) (behind_run class.Digit (b ∷ bs))
    else (if is_letter b then piece shape.Word (run_of class.Word (b ∷ bs)) (behind_run class.Word (b ∷ bs))
    else (if b == 34 then text_piece bs else mark_piece b bs))

-- an address, or a prefix where a slash and digits follow
abbrev pub address_piece : List ℕ → List ℕ → Option (List ℕ) → Piece
address_piece text mid None = piece shape.Address (before text mid) mid
address_piece text mid (Some rest) = piece shape.Prefix (before text rest) rest

abbrev pub piece_with : List ℕ → Option (List ℕ) → Piece
piece_with text None = plain_piece text
piece_with text (Some mid) = address_piece text mid (behind_number 47 mid)

unfoldable pub piece_at : List ℕ → Piece
piece_at text = piece_with text (behind_address text)

-- No IPv6 address begins at a rest of the text of which more than `plain` bytes are left.
abbrev pub Plain : List ℕ → ℕ → Type 0
Plain text plain = (front rest : List ℕ) → text ≡ front ++ rest → plain < length rest
    → is_colon_text rest ≡ false

-- the same number behind the first token of the text: where that ends within the run of an address, none
-- begins in the rest of the run
abbrev pub plain_behind : List ℕ → List ℕ → ℕ → ℕ
plain_behind text after plain =
    if nat_le (length text) plain && not (begins_with (λ b. b == 46) text)
    && nat_lt (length (behind_run class.Address text)) (length after)
    then length (behind_run class.Address text) else plain
