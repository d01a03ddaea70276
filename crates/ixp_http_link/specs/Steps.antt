-- What is done for one request.
use Rattle.std.specs.Prelude.{◌≡◌, ◌⊎◌, ℕ, Bool, true, false, Option, None, Some, Result, Ok, Err, List, ◌++◌, take}
use Rattle.ixp_io.specs.Told.{Told, WhereTold}
use Rattle.ixp_http.specs.Messages.{message, First}
use Rattle.ixp_http.specs.Replies.{reply_bytes}
use Rattle.ixp_http.specs.declared.request.Request.{Request}
use Rattle.ixp_api_replies.specs.Replies.{reply, no_memory}
use Rattle.ixp_api_replies.specs.declared.outcome.Outcome.{Outcome}
use Rattle.ixp_api_replies.specs.declared.outcome.Outcome.TheVariants.{Head}
use Rattle.ixp_api.specs.declared.call.Call.{Call}
use Rattle.ixp_http_link.specs.declared.ends.LinkEnd.{LinkEnd}
use Rattle.ixp_http_link.specs.declared.ends.LinkEnd.TheVariants.{Closed, BadMessage, Cut, Spent, ReadFault, WriteFault, NoMemory}
use Rattle.ixp_http_link.specs.declared.ends.Served.{Served}
use Rattle.ixp_http_link.specs.Turns.{Exchange, wants_memory, Answers, Goes}
use Rattle.ixp_http_link.specs.Links.{ends_at, closing_if, Tried, Ends}

-- the request is answered, or memory was wanting before the desk saw it
abbrev pub Becomes : {D : Type 0} → (D → Call → Outcome → D → Type 0) → D → Request → Outcome → D → Type 0
Becomes turn d r o e = Answers turn d r o e ⊎ ((wants_memory o ≡ true) × (e ≡ d))

-- the reply of an outcome is written, or that of running out of memory, or a part of one
abbrev pub Tells : Outcome → Bool → (List ℕ → Type 0) → Type 0 → Result (Unit {0}) LinkEnd → Type 0
Tells o closes Writes unwritten (Ok done) =
    (wants_memory o ≡ false) × Writes (reply_bytes (closing_if closes (reply o)))
Tells o closes Writes unwritten (Err WriteFault) =
    unwritten × (wants_memory o ≡ false)
    × ((count : ℕ) × Writes (take count (reply_bytes (closing_if closes (reply o)))))
Tells o closes Writes unwritten (Err NoMemory) = Tried Writes unwritten (reply_bytes no_memory)
Tells o closes Writes unwritten (Err Closed) = ⊥
Tells o closes Writes unwritten (Err (BadMessage status)) = ⊥
Tells o closes Writes unwritten (Err Cut) = ⊥
Tells o closes Writes unwritten (Err Spent) = ⊥
Tells o closes Writes unwritten (Err ReadFault) = ⊥

-- this is the next request, before which n were answered: it is answered and the link goes on, or the link
-- ends
abbrev pub Settles : {D : Type 0} → (D → Call → Outcome → D → Type 0) → ℕ → D → D → Request → List ℕ
    → (List ℕ → Type 0) → Type 0
    → Option Served → Type 0
Settles turn n d e r rest Writes unwritten None =
    (o : Outcome) × Goes turn d (record { request = r; outcome = o }) e × (ends_at n r ≡ false)
    × Writes (reply_bytes (reply o))
Settles turn n d e r rest Writes unwritten (Some served) =
    Ends turn n d e (λ last. last ≡ message r rest) Writes ⊥ unwritten served.end served.requests

-- the next request of a link is read and answered, or the link ends
abbrev pub Steps : {D : Type 0} → (D → Call → Outcome → D → Type 0) → ℕ → D → D → Option (List ℕ)
    → Option (List ℕ) → List ℕ → List ℕ
    → (List ℕ → Type 0) → Type 0 → Type 0 → Option Served → Type 0
Steps turn n d e left now held holds Writes unread unwritten None =
    (x : Exchange) × Goes turn d x e × (ends_at n x.request ≡ false)
    × Told left now (λ bytes rest. First (held ++ bytes) (message x.request (holds ++ rest)))
    × Writes (reply_bytes (reply x.outcome))
Steps turn n d e left now held holds Writes unread unwritten (Some served) =
    Ends turn n d e (λ last. WhereTold left
    (λ bytes. First (held ++ bytes) last)) Writes unread unwritten served.end served.requests

-- a message that is no request is answered with its status, or a part of that reply is written, or memory was
-- wanting
abbrev pub Refuses : ℕ → (List ℕ → Type 0) → Type 0 → LinkEnd → Type 0
Refuses status Writes unwritten (BadMessage told) =
    (told ≡ status) × Writes (reply_bytes (reply (Head status)))
Refuses status Writes unwritten WriteFault =
    unwritten × ((count : ℕ) × Writes (take count (reply_bytes (reply (Head status)))))
Refuses status Writes unwritten NoMemory = Tried Writes unwritten (reply_bytes no_memory)
Refuses status Writes unwritten Closed = ⊥
Refuses status Writes unwritten Cut = ⊥
Refuses status Writes unwritten Spent = ⊥
Refuses status Writes unwritten ReadFault = ⊥
