-- The bytes of a reply (RFC 9112 sections 4, 6.2 and 9.6, RFC 9110 sections 8.3 and 15).
use Rattle.std.specs.Prelude.{ℕ, Bool, true, false, nat_lt, if◌then◌else◌, unwrap_or, ◌≡◌, ◌≤◌, Option, List, [], ◌∷◌, ◌++◌, length, map, decimal, codes}
use Rattle.ixp_io.specs.Told.{Told}
use Rattle.http.specs.StatusCode.{reason_phrase}
use Rattle.ixp_http.specs.declared.reply.HttpReply.{HttpReply}
use Rattle.ixp_http.specs.declared.reply.Part.{Part}
use Rattle.ixp_http.specs.declared.reply.Part.TheVariants.{Version, Status, Space, Phrase, LineEnd, TypeName, MediaType, LengthName, Length, Closing, Body}

-- the canonical phrase of a status (RFC 9110 section 15), empty where the number has none
unfoldable pub phrase_of : ℕ → List ℕ
phrase_of status =
    if nat_lt status 100 then [] else (
    if nat_lt 999 status then [] else unwrap_or (reason_phrase status) [])

-- the names of the fields, up to their values
unfoldable pub type_name : List ℕ
type_name = codes "Content-Type: "

unfoldable pub length_name : List ℕ
length_name = codes "Content-Length: "

-- the type of the body
unfoldable pub type_of : Bool → List ℕ
type_of true = codes "application/json"
type_of false = codes "text/plain"

-- the field that says that the link ends
unfoldable pub closing : Bool → List ℕ
closing true = codes "Connection: close\r\n"
closing false = []

-- the texts, one after the other
abbrev pub concat : List (List ℕ) → List ℕ
concat [] = []
concat (text ∷ texts) = text ++ concat texts

-- the bytes of a part
abbrev pub text_of : HttpReply → Part → List ℕ
text_of reply Version = codes "HTTP/1.1 "
text_of reply Status = decimal reply.status
text_of reply Space = codes " "
text_of reply Phrase = phrase_of reply.status
text_of reply LineEnd = codes "\r\n"
text_of reply TypeName = type_name
text_of reply MediaType = type_of reply.json
text_of reply LengthName = length_name
text_of reply Length = decimal (length reply.body)
text_of reply Closing = closing reply.closes
text_of reply Body = reply.body

-- the status line, the fields, the empty line and the body
abbrev pub parts : List Part
parts =
    Version ∷ Status ∷ Space ∷ Phrase ∷ LineEnd
    ∷ TypeName ∷ MediaType ∷ LineEnd
    ∷ LengthName ∷ Length ∷ LineEnd
    ∷ Closing
    ∷ LineEnd
    ∷ Body ∷ []

-- the bytes of a reply
abbrev pub reply_bytes : HttpReply → List ℕ
reply_bytes reply = concat (map (text_of reply) parts)

-- what was written and is held is what was written and was held before, and then these bytes
abbrev pub Holds : Option (List ℕ) → Option (List ℕ) → List ℕ → List ℕ → List ℕ → Type 0
Holds before now held holds bytes = Told before now
    (λ written all. (all ++ holds ≡ written ++ (held ++ bytes)) × (length written ≤ length all))
