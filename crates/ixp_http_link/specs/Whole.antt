-- How a link is served whose bytes are told.
use Rattle.std.specs.Prelude.{◌≡◌, ◌⊎◌, ◌<◌, ◌+◌, ℕ, Bool, true, false, ◌&&◌, not, if◌then◌else◌, Option, List, [], ◌∷◌, ◌++◌, length, map}
use Rattle.ixp_io.specs.Told.{Takes}
use Rattle.ixp_http.specs.Messages.{Reading, message, closed, cut, bad, Messages}
use Rattle.ixp_http.specs.Replies.{reply_bytes}
use Rattle.ixp_http.specs.declared.request.Request.{Request}
use Rattle.ixp_api_replies.specs.Replies.{reply}
use Rattle.ixp_api_replies.specs.declared.outcome.Outcome.{Outcome}
use Rattle.ixp_api_replies.specs.declared.outcome.Outcome.TheVariants.{Head}
use Rattle.ixp_api.specs.declared.call.Call.{Call}
use Rattle.ixp_http_link.specs.declared.ends.LinkEnd.{LinkEnd}
use Rattle.ixp_http_link.specs.declared.ends.LinkEnd.TheVariants.{Closed, BadMessage, Cut, Spent, ReadFault, WriteFault, NoMemory}
use Rattle.ixp_http_link.specs.declared.ends.Served.{Served}
use Rattle.ixp_http_link.specs.Turns.{Exchange, Answers}
use Rattle.ixp_http_link.specs.Links.{request_limit, ends_at, closing_if}

-- how a link ends where no message stands (a message is no end)
abbrev pub end_of : Reading → LinkEnd
end_of closed = Closed
end_of cut = Cut
end_of (bad status) = BadMessage status
end_of (message r rest) = Closed

-- the reply there
abbrev pub end_text : Reading → List ℕ
end_text closed = []
end_text cut = []
end_text (bad status) = reply_bytes (reply (Head status))
end_text (message r rest) = []

-- how a link ends with a request, before which n were answered
abbrev pub ended_with : ℕ → Request → Served
ended_with n r = record { end = if r.closes then Closed else Spent; requests = n + 1 }

-- How a link ends that holds these requests and then no message, for that reason, and how many requests are
-- answered; n were answered before.
abbrev pub served_from : ℕ → List Request → Reading → Served
served_from n [] last = record { end = end_of last; requests = n }
served_from n (r ∷ rs) last = if ends_at n r then ended_with n r else served_from (n + 1) rs last

-- the requests that are answered: up to the first one with which the link ends
abbrev pub heeded : ℕ → List Request → List Request
heeded n [] = []
heeded n (r ∷ rs) = r ∷ (if ends_at n r then [] else heeded (n + 1) rs)

-- the reply to what is no message, where the link comes so far
abbrev pub last_text : ℕ → List Request → Reading → List ℕ
last_text n [] last = end_text last
last_text n (r ∷ rs) last = if ends_at n r then [] else last_text (n + 1) rs last

abbrev pub requests_of : List Exchange → List Request
requests_of xs = map (λ x. x.request) xs

-- the requests are answered one after the other
abbrev pub AnswersAll : {D : Type 0} → (D → Call → Outcome → D → Type 0) → D → List Exchange → D → Type 0
AnswersAll turn d [] e = e ≡ d
AnswersAll {D = D} turn d (x ∷ xs) e =
    (mid : D) × Answers turn d x.request x.outcome mid × AnswersAll turn mid xs e

-- the bytes of the replies; n were written before
abbrev pub reply_texts : ℕ → List Exchange → List ℕ
reply_texts n [] = []
reply_texts n (x ∷ xs) = reply_bytes (closing_if (ends_at n x.request) (reply x.outcome))
    ++ reply_texts (n + 1) xs

-- a read or a write failed, or memory ran out
abbrev pub is_fault : LinkEnd → Bool
is_fault ReadFault = true
is_fault WriteFault = true
is_fault NoMemory = true
is_fault Closed = false
is_fault (BadMessage status) = false
is_fault Cut = false
is_fault Spent = false

-- Where nothing fails, the link's bytes say how it ends, how many requests are answered, and which ones:
-- these are answered one after the other, and what is written is their replies, and that to what is no
-- message.
abbrev pub IsExact : {D : Type 0} → (D → Call → Outcome → D → Type 0) → D → D → List ℕ → Option (List ℕ)
    → Option (List ℕ) → Served → Type 0
IsExact turn d e bytes written now served =
    (rs : List Request) (last : Reading) → Messages bytes rs last → is_fault served.end ≡ false
    → (served ≡ served_from 0 rs last)
    × ((xs : List Exchange) × (requests_of xs ≡ heeded 0 rs) × AnswersAll turn d xs e
    × Takes written now (reply_texts 0 xs ++ last_text 0 rs last))

-- none of the requests asks to close but maybe the last
abbrev pub only_last_closes : List Request → Bool
only_last_closes [] = true
only_last_closes (r ∷ []) = true
only_last_closes (r ∷ s ∷ rs) = not r.closes && only_last_closes (s ∷ rs)

-- The link ends Closed, and each request has its reply.
abbrev pub AllAnswered : {D : Type 0} → (D → Call → Outcome → D → Type 0) → D → D → Option (List ℕ)
    → Option (List ℕ) → List Request → Served → Type 0
AllAnswered turn d e written now rs served =
    (served.end ≡ Closed) × (served.requests ≡ length rs)
    × ((xs : List Exchange) × (requests_of xs ≡ rs) × AnswersAll turn d xs e
    × Takes written now (reply_texts 0 xs))

-- Where the bytes are whole requests, fewer than the limit, of which none but maybe the last asks to close,
-- and neither reads nor writes fail, every request gets its reply and the link ends Closed, or memory ran
-- out.
abbrev pub IsComplete : {D : Type 0} → (D → Call → Outcome → D → Type 0) → D → D → List ℕ → Option (List ℕ)
    → Option (List ℕ)
    → Type 0 → Type 0 → Served → Type 0
IsComplete turn d e bytes written now unread unwritten served =
    (rs : List Request) → Messages bytes rs closed → length rs < request_limit → only_last_closes rs ≡ true
    → (unread → ⊥) → (unwritten → ⊥) → (served.end ≡ NoMemory) ⊎ AllAnswered turn d e written now rs served
