-- What is left of a link's input when the link has ended.
use Rattle.std.specs.Prelude.{◌≡◌, ◌⊎◌, ◌≤◌, ◌+◌, ℕ, Option, List, [], ◌∷◌, ◌++◌, length}
use Rattle.ixp_io.specs.Told.{Told}
use Rattle.ixp_http.specs.Answers.{most_held}
use Rattle.ixp_http.specs.Heads.{chunk}
use Rattle.ixp_http.specs.Messages.{message, closed, First}
use Rattle.ixp_http.specs.declared.request.Request.{Request}
use Rattle.ixp_http_link.specs.declared.ends.LinkEnd.{LinkEnd}
use Rattle.ixp_http_link.specs.declared.ends.LinkEnd.TheVariants.{Closed, BadMessage, Cut, Spent, ReadFault, WriteFault, NoMemory}
use Rattle.ixp_http_link.specs.declared.ends.Served.{Served}

-- the bytes begin with these requests, one after the other, and then there is the rest
abbrev pub BeginWith : List ℕ → List Request → List ℕ → Type 0
BeginWith bytes [] rest = bytes ≡ rest
BeginWith bytes (r ∷ rs) rest = (more : List ℕ) × First bytes (message r more) × BeginWith more rs rest

-- What was read behind the last whole request. Where the link ended with a request, it is no more than one
-- read gives; where the input ended, it is empty lines; else it is a message and what one read gives at most.
abbrev pub IsTaken : LinkEnd → List ℕ → List ℕ → Type 0
IsTaken Closed taken rest = (length taken ≤ chunk) ⊎ First (taken ++ rest) closed
IsTaken Spent taken rest = length taken ≤ chunk
IsTaken (BadMessage status) taken rest = length taken ≤ most_held
IsTaken Cut taken rest = length taken ≤ most_held
IsTaken ReadFault taken rest = length taken ≤ most_held
IsTaken WriteFault taken rest = length taken ≤ most_held
IsTaken NoMemory taken rest = length taken ≤ most_held

-- The bytes that were held and left are the requests that were read, then what was taken of what follows
-- them, and then what is left. Those requests were answered, n before, but maybe the last one.
pub record LeavesFrom (n : ℕ) (before after : Option (List ℕ)) (held : List ℕ)
    (served : Served) : Type 0 where
  pub rs : List Request
  pub taken : List ℕ
  pub count : (n + length rs ≡ served.requests) ⊎ (n + length rs ≡ served.requests + 1)
  pub rest : Told before after (λ bytes rest. BeginWith (held ++ bytes) rs (taken ++ rest)
      × IsTaken served.end taken rest)

-- the same of a whole link
abbrev pub Leaves : Option (List ℕ) → Option (List ℕ) → Served → Type 0
Leaves before after served = LeavesFrom 0 before after [] served
