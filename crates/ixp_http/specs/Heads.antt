-- Where the head of a request stands among bytes (RFC 9112 sections 2.1 and 2.2).
use Rattle.std.specs.Prelude.{◌≡◌, ℕ, suc, ◌+◌, Bool, true, false, ◌≤◌, ◌&&◌, ◌||◌, ◌==◌, nat_lt, nat_le, if◌then◌else◌, Option, None, Some, option_map, List, [], ◌∷◌, ◌++◌, length, take, drop, ⊤}
use Rattle.ixp_http.specs.declared.head.Start.{Start}
use Rattle.ixp_http.specs.declared.head.Start.TheVariants.{Over, Between, Inside, Headed}

-- the bytes begin with this one
abbrev pub begins_with : ℕ → List ℕ → Bool
begins_with b [] = false
begins_with b (c ∷ bytes) = c == b

-- the length of the line end at the front, CR LF or LF, if there is one
abbrev pub line_end : List ℕ → Option ℕ
line_end [] = None
line_end (b ∷ bytes) =
    if b == 10 then Some 1 else (if b == 13 && begins_with 10 bytes then Some 2 else None)

-- how many bytes the empty lines at the front have: each is an LF, or a CR that an LF follows
abbrev pub blank_len : List ℕ → ℕ
blank_len [] = 0
blank_len (b ∷ bytes) = if b == 10 || (b == 13 && begins_with 10 bytes) then suc (blank_len bytes) else 0

-- where this byte is an LF and an empty line follows: that line's length
abbrev pub end_after : ℕ → List ℕ → Option ℕ
end_after b bytes = if b == 10 then line_end bytes else None

-- a length with one more byte before it: the first of two, if it is there
abbrev pub one_more : Option ℕ → Option ℕ → Option ℕ
one_more (Some n) later = Some (suc n)
one_more None later = option_map suc later

-- the length of the head at the front: it ends with the first LF that an empty line follows, and that line
abbrev pub head_len : List ℕ → Option ℕ
head_len [] = None
head_len (b ∷ bytes) = one_more (end_after b bytes) (head_len bytes)

-- how many lines end in the bytes
abbrev pub line_feeds : List ℕ → ℕ
line_feeds [] = 0
line_feeds (b ∷ bytes) = if b == 10 then line_feeds bytes + 1 else line_feeds bytes

-- a head and the empty lines before it have at most this many bytes
abbrev pub head_limit : ℕ
head_limit = 16384

-- one read of a link gives at most this many bytes
abbrev pub chunk : ℕ
chunk = 4096

-- a request line, 64 fields and the empty line
abbrev pub line_limit : ℕ
line_limit = 66

-- a head of these lines that begins at that place
abbrev pub start_lined : Bool → ℕ → ℕ → Start
start_lined true from n = Over
start_lined false from n = Headed from n

-- no end of a head is there: whether the limit is reached, and whether bytes follow the empty lines
abbrev pub start_open : Bool → List ℕ → Start
start_open true rest = Over
start_open false [] = Between
start_open false (b ∷ rest) = Inside

-- what stands behind the empty lines, `from` bytes from the front
abbrev pub start_after : Bool → ℕ → List ℕ → Option ℕ → Start
start_after full from rest None = start_open full rest
start_after full from rest (Some n) = start_lined (nat_lt line_limit (line_feeds (take n rest))) from n

-- the same of the bytes up to the limit
abbrev pub start_front : Bool → List ℕ → Start
start_front full front =
    start_after full (blank_len front) (drop (blank_len front) front)
    (head_len (drop (blank_len front) front))

-- the same of bytes with such a limit
abbrev pub start_within : ℕ → List ℕ → Start
start_within limit bytes = start_front (nat_le limit (length bytes)) (take limit bytes)

-- What the bytes begin with, after empty lines: a head, which ends within the limit and has no line too many;
-- nothing; a part of a head; or what is over the limits.
abbrev pub start_of : List ℕ → Start
start_of bytes = start_within head_limit bytes

-- more bytes can change what stands at the front
abbrev pub is_open : Start → Bool
is_open Over = false
is_open Between = true
is_open Inside = true
is_open (Headed from n) = false

-- whatever follows them, the bytes are all that stands before the end of a head, and that end
abbrev pub IsCut : List ℕ → Type 0
IsCut bytes = (more : List ℕ) → head_len (bytes ++ more) ≡ Some (length bytes)

-- a head stands at that place of the bytes, within the limits
pub record IsPlaced (bytes : List ℕ) (from n : ℕ) : Type 0 where
  pub fits : from + n ≤ length bytes
  pub limit : from + n ≤ head_limit
  pub cut : IsCut (take n (drop from bytes))
  pub few : line_feeds (take n (drop from bytes)) ≤ line_limit

-- a head lies within so many bytes
abbrev pub EndsWithin : ℕ → Start → Type 0
EndsWithin size Over = ⊤
EndsWithin size Between = ⊤
EndsWithin size Inside = ⊤
EndsWithin size (Headed from n) = from + n ≤ size
