-- What a call that reads a request answers.
use Rattle.std.specs.Prelude.{◌≡◌, ◌≤◌, ℕ, ◌+◌, Option, List, ◌++◌, length, drop, ⊤, Result, Ok, Err}
use Rattle.ixp_io.specs.Told.{Told}
use Rattle.ixp_http.specs.declared.next.Next.{Next}
use Rattle.ixp_http.specs.declared.next.Next.TheVariants.{Request as Found, End}
use Rattle.ixp_http.specs.declared.next.HttpFault.{HttpFault}
use Rattle.ixp_http.specs.declared.next.HttpFault.TheVariants.{Bad, Cut, ReadFault, WriteFault, NoMemory}
use Rattle.ixp_http.specs.declared.head.Start.{Start}
use Rattle.ixp_http.specs.declared.head.Start.TheVariants.{Over, Between, Inside, Headed}
use Rattle.ixp_http.specs.declared.fields.Need.TheVariants.{Body}
use Rattle.ixp_http.specs.declared.request.Head.{Head}
use Rattle.ixp_http.specs.Fields.{body_limit}
use Rattle.ixp_http.specs.Heads.{chunk, head_limit, line_feeds}
use Rattle.ixp_http.specs.Messages.{Reading, First, Begins, with_need, closed, cut, bad, message}

-- the bytes that were held and left are those that are held and left now
abbrev pub Together : Option (List ℕ) → Option (List ℕ) → List ℕ → List ℕ → Type 0
Together before now held holds = Told before now (λ left rest. held ++ left ≡ holds ++ rest)

-- A reading of all the bytes, those that were held and those that were left, is answered, and P holds of the
-- bytes and it. What is held and left after a request is what stands behind it. The other faults say nothing
-- of the bytes.
abbrev pub Tells : (List ℕ → Reading → Type 0) → Option (List ℕ) → Option (List ℕ) → List ℕ → List ℕ
    → Result Next HttpFault → Type 0
Tells P before now held holds (Ok (Found r)) =
    Told before now (λ left rest. P (held ++ left) (message r (holds ++ rest)))
Tells P before now held holds (Ok End) = Told before now (λ left rest. P (held ++ left) closed)
Tells P before now held holds (Err (Bad status)) =
    Told before now (λ left rest. P (held ++ left) (bad status))
Tells P before now held holds (Err Cut) = Told before now (λ left rest. P (held ++ left) cut)
Tells P before now held holds (Err ReadFault) = ⊤
Tells P before now held holds (Err WriteFault) = ⊤
Tells P before now held holds (Err NoMemory) = ⊤

-- what stands first in the bytes is answered
abbrev pub AnswersOf : Option (List ℕ) → Option (List ℕ) → List ℕ → List ℕ → Result Next HttpFault → Type 0
AnswersOf before now held holds result = Tells First before now held holds result

-- what was read and not used yet is at most a message and what one read gives
abbrev pub most_held : ℕ
most_held = head_limit + body_limit + chunk

-- of the bytes that were held and left, at most so many were taken; the others are left
abbrev pub TakesUpTo : ℕ → Option (List ℕ) → Option (List ℕ) → List ℕ → Type 0
TakesUpTo most before now held = (taken : List ℕ) × (length taken ≤ most) × Together before now held taken

-- What was read and not used yet: behind a request no more than one read gives, where no more was held
-- before; else a message and what one read gives at most.
abbrev pub Leaves : Option (List ℕ) → Option (List ℕ) → List ℕ → List ℕ → Result Next HttpFault → Type 0
Leaves before now held holds (Ok (Found r)) = length held ≤ chunk → length holds ≤ chunk
Leaves before now held holds (Ok End) = length held ≤ most_held → TakesUpTo most_held before now held
Leaves before now held holds (Err fault) = length held ≤ most_held → TakesUpTo most_held before now held

-- the same, where what was held has a head that ends at this place
abbrev pub LeavesAt : ℕ → Option (List ℕ) → Option (List ℕ) → List ℕ → List ℕ → Result Next HttpFault → Type 0
LeavesAt at before now held holds (Ok (Found r)) = length held ≤ at + chunk → length holds ≤ chunk
LeavesAt at before now held holds (Ok End) = length held ≤ most_held → TakesUpTo most_held before now held
LeavesAt at before now held holds (Err fault) = length held ≤ most_held → TakesUpTo most_held before now held

-- behind a head no more is held than one read gives
abbrev pub HoldsOneRead : Start → List ℕ → Type 0
HoldsOneRead (Headed from n) held = length held ≤ (from + n) + chunk
HoldsOneRead Over held = ⊤
HoldsOneRead Between held = ⊤
HoldsOneRead Inside held = ⊤

-- what is held has more bytes than before at its end, and nothing of it is gone
abbrev pub Grows : List ℕ → List ℕ → Type 0
Grows held holds = (more : List ℕ) × (holds ≡ held ++ more)

-- what came before the last read has no end of a line
abbrev pub IsQuiet : List ℕ → List ℕ → Type 0
IsQuiet held holds =
    (more : List ℕ) × (last : List ℕ) × (line_feeds more ≡ 0) × (length last ≤ chunk)
    × (holds ≡ (held ++ more) ++ last)

-- a fault that says nothing of the bytes
abbrev pub SaysNothing : HttpFault → Type 0
SaysNothing (Bad status) = ⊥
SaysNothing Cut = ⊥
SaysNothing ReadFault = ⊤
SaysNothing WriteFault = ⊤
SaysNothing NoMemory = ⊤

-- what stands first, where a head has such a place
abbrev pub IsHeaded : ℕ → ℕ → List ℕ → Reading → Type 0
IsHeaded from n bytes x = Begins bytes (Headed from n) x

-- what stands first, where a body of such a size begins at that place
abbrev pub IsBodied : Head → ℕ → ℕ → List ℕ → Reading → Type 0
IsBodied head at size bytes x = x ≡ with_need head (Body size) (drop at bytes)
