-- What is written on a link, and how it ends (RFC 9112 section 9.6).
use Rattle.std.specs.Prelude.{◌≡◌, ◌⊎◌, ◌<◌, ◌+◌, ℕ, Bool, true, false, ◌||◌, ◌==◌, if◌then◌else◌, Option, List, [], ◌∷◌, ◌++◌, length, take}
use Rattle.ixp_io.specs.Told.{WhereTold, Takes}
use Rattle.ixp_http.specs.Messages.{Reading, message, closed, cut, bad, First}
use Rattle.ixp_http.specs.Replies.{reply_bytes}
use Rattle.ixp_http.specs.declared.request.Request.{Request}
use Rattle.ixp_http.specs.declared.reply.HttpReply.{HttpReply}
use Rattle.ixp_api_replies.specs.Replies.{reply, closing, no_memory}
use Rattle.ixp_api_replies.specs.declared.outcome.Outcome.{Outcome}
use Rattle.ixp_api_replies.specs.declared.outcome.Outcome.TheVariants.{Head}
use Rattle.ixp_api.specs.declared.call.Call.{Call}
use Rattle.ixp_http_link.specs.declared.ends.LinkEnd.{LinkEnd}
use Rattle.ixp_http_link.specs.declared.ends.LinkEnd.TheVariants.{Closed, BadMessage, Cut, Spent, ReadFault, WriteFault, NoMemory}
use Rattle.ixp_http_link.specs.declared.ends.Served.{Served}
use Rattle.ixp_http_link.specs.Turns.{Exchange, wants_memory, Answers, GoesOn}

-- so many requests of a link are answered
abbrev pub request_limit : ℕ
request_limit = 100000

-- The link ends after a request, before which n were answered: it asks to close, or it is the last one.
abbrev pub ends_at : ℕ → Request → Bool
ends_at n r = r.closes || n + 1 == request_limit

-- a reply, with which the link ends or doesn't
abbrev pub closing_if : Bool → HttpReply → HttpReply
closing_if true reply = closing reply
closing_if false reply = reply

-- the bytes of the replies after which the link goes on
abbrev pub replies : List Exchange → List ℕ
replies [] = []
replies (x ∷ xs) = reply_bytes (reply x.outcome) ++ replies xs

-- the bytes begin with these requests, one after the other, and then there is the rest
abbrev pub Reads : List ℕ → List Exchange → List ℕ → Type 0
Reads bytes [] rest = bytes ≡ rest
Reads bytes (x ∷ xs) rest = (more : List ℕ) × First bytes (message x.request more) × Reads more xs rest

-- the bytes that were left begin with the requests
abbrev pub BeginsWith : Option (List ℕ) → List Exchange → Type 0
BeginsWith left xs = WhereTold left (λ bytes. (rest : List ℕ) × Reads bytes xs rest)

-- this stands first behind the requests
abbrev pub Behind : Option (List ℕ) → List Exchange → Reading → Type 0
Behind left xs last = WhereTold left (λ bytes. (rest : List ℕ) × Reads bytes xs rest × First rest last)

-- what was written are the replies, and then this text
abbrev pub Wrote : Option (List ℕ) → Option (List ℕ) → List Exchange → List ℕ → Type 0
Wrote before now xs text = Takes before now (replies xs ++ text)

-- a text was written, or its first part, where writes failed
abbrev pub Tried : (List ℕ → Type 0) → Type 0 → List ℕ → Type 0
Tried Writes failed text = Writes text ⊎ (failed × ((count : ℕ) × Writes (take count text)))

-- The reply to what was read, and the desk after it; n requests were answered before. Memory suffices for the
-- outcome.
abbrev pub Replied : {D : Type 0} → (D → Call → Outcome → D → Type 0) → ℕ → D → Reading → List ℕ → D → Type 0
Replied turn n d (message r rest) text e =
    (o : Outcome) × Answers turn d r o e × (wants_memory o ≡ false)
    × (text ≡ reply_bytes (closing_if (ends_at n r) (reply o)))
Replied turn n d (bad status) text e = (e ≡ d) × (text ≡ reply_bytes (reply (Head status)))
Replied turn n d closed text e = ⊥
Replied turn n d cut text e = ⊥

-- How the link ends by what was read last, and how many requests were answered then.
abbrev pub EndsBy : {D : Type 0} → (D → Call → Outcome → D → Type 0) → ℕ → D → D → (List ℕ → Type 0) → Reading
    → LinkEnd → ℕ → Type 0
EndsBy turn n d e Writes closed end m = (end ≡ Closed) × (m ≡ n) × (e ≡ d) × Writes []
EndsBy turn n d e Writes cut end m = (end ≡ Cut) × (m ≡ n) × (e ≡ d) × Writes []
EndsBy turn n d e Writes (bad status) end m =
    (end ≡ BadMessage status) × (m ≡ n) × ((text : List ℕ) × Replied turn n d (bad status) text e
    × Writes text)
EndsBy turn n d e Writes (message r rest) end m =
    (ends_at n r ≡ true) × (end ≡ (if r.closes then Closed else Spent)) × (m ≡ n + 1)
    × ((text : List ℕ) × Replied turn n d (message r rest) text e × Writes text)

-- Memory ran out: while a request was read, which the desk didn't see then, or after the desk's turn, which
-- stands.
abbrev pub Stopped : {D : Type 0} → (D → Call → Outcome → D → Type 0) → D → D → (Reading → Type 0) → Type 0
Stopped turn d e Stands =
    (e ≡ d) ⊎ ((r : Request) × (rest : List ℕ) × Stands (message r rest)
    × ((o : Outcome) × Answers turn d r o e))

-- How a link ends after n requests. `Stands` says what stands first on the link then, `Writes` what is
-- written, and the two others that reads failed, and that writes did.
abbrev pub Ends : {D : Type 0} → (D → Call → Outcome → D → Type 0) → ℕ → D → D
    → (Reading → Type 0) → (List ℕ → Type 0) → Type 0 → Type 0 → LinkEnd → ℕ → Type 0
Ends turn n d e Stands Writes unread unwritten ReadFault m = unread × (m ≡ n) × (e ≡ d) × Writes []
Ends turn n d e Stands Writes unread unwritten WriteFault m =
    unwritten × (m ≡ n)
    × ((last : Reading) × (text : List ℕ) × Stands last × Replied turn n d last text e
    × ((count : ℕ) × Writes (take count text)))
Ends turn n d e Stands Writes unread unwritten NoMemory m =
    (m ≡ n) × Stopped turn d e Stands × Tried Writes unwritten (reply_bytes no_memory)
Ends turn n d e Stands Writes unread unwritten Closed m =
    (last : Reading) × Stands last × EndsBy turn n d e Writes last Closed m
Ends turn n d e Stands Writes unread unwritten (BadMessage status) m =
    (last : Reading) × Stands last × EndsBy turn n d e Writes last (BadMessage status) m
Ends turn n d e Stands Writes unread unwritten Cut m =
    (last : Reading) × Stands last × EndsBy turn n d e Writes last Cut m
Ends turn n d e Stands Writes unread unwritten Spent m =
    (last : Reading) × Stands last × EndsBy turn n d e Writes last Spent m

-- What was done on a link: requests were answered after which it went on, and then it ended. Before and after
-- it are the desk, and what was written; `left` is what was left to read at first.
pub record Serves {D : Type 0} (turn : D → Call → Outcome → D
    → Type 0) (d e : D) (left written now : Option (List ℕ))
    (unread unwritten : Type 0) (served : Served) : Type 0 where
  pub xs : List Exchange
  pub mid : D
  pub goes : GoesOn turn d xs mid
  pub few : length xs < request_limit
  pub begins : BeginsWith left xs
  pub ends : Ends turn (length xs) mid e (Behind left xs)
      (Wrote written now xs) unread unwritten served.end served.requests
