-- The messages that bytes hold (RFC 9112 sections 2, 3, 6 and 9.6).
use Rattle.std.specs.Prelude.{◌≡◌, ℕ, ◌+◌, Bool, ◌||◌, ◌==◌, ◌⊎◌, nat_le, if◌then◌else◌, unwrap_or, List, [], ◌∷◌, length, map, take, drop, codes, ⊤}
use Rattle.ixp_num_tables.specs.Tables.{same}
use Rattle.httparse.specs.Grammar.{RequestHead, ReadsRequest, HasNoRequest}
use Rattle.httparse.specs.Spans.{name_and_value, span_bytes, header_bytes}
use Rattle.httparse.specs.declared.spans.HeaderSpan.{HeaderSpan}
use Rattle.httparse.specs.declared.spans.RequestSpans.{RequestSpans}
use Rattle.ixp_http.specs.declared.head.Start.{Start}
use Rattle.ixp_http.specs.declared.head.Start.TheVariants.{Over, Between, Inside, Headed}
use Rattle.ixp_http.specs.declared.fields.Field.{Field}
use Rattle.ixp_http.specs.declared.fields.Need.{Need}
use Rattle.ixp_http.specs.declared.fields.Need.TheVariants.{Refused, Body}
use Rattle.ixp_http.specs.declared.request.Head.{Head}
use Rattle.ixp_http.specs.declared.request.Request.{Request}
use Rattle.ixp_http.specs.Heads.{start_of}
use Rattle.ixp_http.specs.Fields.{values, any_has_item, before, after, need_of}

-- a name and a value as a field
abbrev pub field_of : List ℕ × List ℕ → Field
field_of part = record { name = part.0; value = part.1 }

-- the parts of a head that count, the values without the blanks around them
abbrev pub parts_of : RequestHead → Head
parts_of h = record {
  method = h.method;
  target = h.target;
  minor = h.minor;
  fields = map field_of (map name_and_value h.fields);
}

-- the parts at these places of the bytes
abbrev pub head_at : List ℕ → List HeaderSpan → RequestSpans → Head
head_at bytes headers places = record {
  method = span_bytes bytes places.method;
  target = span_bytes bytes places.path;
  minor = places.version;
  fields = map field_of (map (header_bytes bytes) (take places.headers headers));
}

-- The bytes are the head of a request, by httparse's default grammar (RFC 9112 sections 2 to 5), with these
-- parts.
abbrev pub IsHead : List ℕ → Head → Type 0
IsHead bytes head = (h : RequestHead) × ReadsRequest bytes h [] × (head ≡ parts_of h)

-- The link is closed after the reply: the version is 1.0, or `close` is an item of a `Connection` field (RFC
-- 9112 section 9.3), or the method is HEAD, after whose reply a client expects no body (RFC 9110 section
-- 9.3.2).
abbrev pub closes_after : Head → Bool
closes_after head =
    head.minor == 0 || (same head.method (codes "HEAD")
    || any_has_item (codes "close") (values (codes "connection") head.fields))

-- the request with these parts of its head and this body; its query is what follows the first `?` of the
-- target
abbrev pub request_of : Head → List ℕ → Request
request_of head body = record {
  method = head.method;
  path = before 63 head.target;
  query = unwrap_or (after 63 head.target) [];
  fields = head.fields;
  body = body;
  closes = closes_after head;
}

-- what stands first in bytes: a request and the bytes behind it, the end between two messages, the end inside
-- of one, or no message, with the status of the reply
pub data Reading : Type 0 where
  message : Request → List ℕ → Reading
  closed cut : Reading
  bad : ℕ → Reading

-- a head, with what its fields say of the body, and then these bytes
abbrev pub with_need : Head → Need → List ℕ → Reading
with_need head (Refused status) rest = bad status
with_need head (Body n) rest =
    if nat_le n (length rest) then message (request_of head (take n rest)) (drop n rest) else cut

-- what stands first, by where a head stands
abbrev pub Begins : List ℕ → Start → Reading → Type 0
Begins bytes Over x = x ≡ bad 431
Begins bytes Between x = x ≡ closed
Begins bytes Inside x = x ≡ cut
Begins bytes (Headed from n) x =
    ((head : Head) × IsHead (take n (drop from bytes)) head
    × (x ≡ with_need head (need_of head.fields) (drop (from + n) bytes)))
    ⊎ (HasNoRequest (take n (drop from bytes)) × (x ≡ bad 400))

-- what stands first in the bytes
abbrev pub First : List ℕ → Reading → Type 0
First bytes x = Begins bytes (start_of bytes) x

-- no message stands there
abbrev pub IsEnd : Reading → Type 0
IsEnd (message r rest) = ⊥
IsEnd closed = ⊤
IsEnd cut = ⊤
IsEnd (bad status) = ⊤

-- the bytes are these requests, one after the other, and then there is no message, for that reason
abbrev pub Messages : List ℕ → List Request → Reading → Type 0
Messages bytes [] end = First bytes end × IsEnd end
Messages bytes (r ∷ rs) end = (rest : List ℕ) × First bytes (message r rest) × Messages rest rs end

-- bytes have one reading
abbrev pub OneReading : Type 0
OneReading =
    (bytes : List ℕ) (rs qs : List Request) (end last : Reading)
    → Messages bytes rs end → Messages bytes qs last → (rs ≡ qs) × (end ≡ last)

-- No bytes are without a reading. (Which one they have is asked of httparse's grammar, which comes without a
-- test.)
abbrev pub HasReading : Type 0
HasReading = (bytes : List ℕ) → ((rs : List Request) (end : Reading) → Messages bytes rs end → ⊥) → ⊥
