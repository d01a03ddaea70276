-- The replies of outcomes.
use Rattle.std.specs.Prelude.{ℕ, true, false, List, [], ◌++◌, decimal, codes}
use Rattle.ixp_registry.specs.Codes.{refusal_code}
use Rattle.ixp_registry.specs.declared.refusal.Refusal.{Refusal}
use Rattle.ixp_http.specs.declared.reply.HttpReply.{HttpReply}
use Rattle.ixp_api_json.specs.declared.pointer.CallFault.{CallFault}
use Rattle.ixp_api_json.specs.declared.pointer.CallFault.TheVariants.{NoPath, NoMethod, BadBody, NoMemory}
use Rattle.ixp_api_json.specs.Fields.{pointer_text}
use Rattle.ixp_api_json.specs.Members.{number_member, text_member}
use Rattle.ixp_api_json.specs.Rows.{member_json, contact_json, rule_json, list_json}
use Rattle.ixp_machine.specs.declared.question.Answer.{Answer}
use Rattle.ixp_machine.specs.declared.question.Answer.TheVariants as answer
use Rattle.ixp_api_replies.specs.declared.outcome.Outcome.{Outcome}
use Rattle.ixp_api_replies.specs.declared.outcome.Outcome.TheVariants as outcome
use Rattle.ixp_api_replies.specs.Details.{detail_of, pair, status_of}

abbrev pub json : ℕ → List ℕ → HttpReply
json status body = record { status = status; json = true; closes = false; body = body }

abbrev pub plain : List ℕ → HttpReply
plain body = record { status = 200; json = false; closes = false; body = body }

-- `{"detail":<detail>,"rule":<rule>}`
unfoldable pub refusal_json : List ℕ → List ℕ → List ℕ
refusal_json rule detail = text_member (codes "{") (codes "detail") detail
    ++ (text_member (codes ",") (codes "rule") rule ++ codes "}")

abbrev pub refused : ℕ → List ℕ → List ℕ → HttpReply
refused status rule detail = json status (refusal_json rule detail)

-- the link ends with this reply
abbrev pub closing : HttpReply → HttpReply
closing reply = record reply { closes = true }

-- `{"done":<number>}`
unfoldable pub done_json : ℕ → List ℕ
done_json number = number_member (codes "{") (codes "done") number ++ codes "}"

-- `{"held":<number>}`
unfoldable pub held_json : ℕ → List ℕ
held_json number = number_member (codes "{") (codes "held") number ++ codes "}"

-- the rule, the status and the detail of a refusal
abbrev pub refused_edit : Refusal → HttpReply
refused_edit r = refused (status_of r) (refusal_code r) (detail_of r)

abbrev pub answered : Answer → HttpReply
answered (answer.Member m) = json 200 (member_json m)
answered (answer.Contacts cs) = json 200 (list_json contact_json cs)
answered (answer.Rules rs) = json 200 (list_json rule_json rs)
answered (answer.Text t) = plain t
answered (answer.Json t) = json 200 t

-- running out of memory: the rule is `memory` (RFC 4918 section 11.5 has the status)
abbrev pub no_memory : HttpReply
no_memory = closing (refused 507 (codes "memory") [])

abbrev pub called : CallFault → HttpReply
called NoPath = refused 404 (codes "path") []
called NoMethod = refused 405 (codes "method") []
called (BadBody pointer) = refused 400 (codes "body") (pointer_text pointer)
called NoMemory = no_memory

-- The reply of an outcome. The link ends after a message that is no request, and where memory runs out.
abbrev pub reply : Outcome → HttpReply
reply (outcome.Done number) = json 201 (done_json number)
reply (outcome.Answered a) = answered a
reply (outcome.Text t) = plain t
reply (outcome.Called fault) = called fault
reply (outcome.Head status) = closing (refused status (codes "head") [])
reply (outcome.Refused r) = refused_edit r
reply outcome.KeeperFault = refused 503 (codes "Y1") []
reply (outcome.SeenUnknown number) = refused 400 (codes "Y2") (decimal number)
reply outcome.NoRouter = refused 404 (codes "Y3") []
reply outcome.NoSession = refused 404 (codes "path") []
reply (outcome.SeatCount seat kept) = refused 500 (codes "Y4") (pair (decimal seat) (decimal kept))
reply (outcome.Ended count) = refused 500 (codes "Y5") (decimal count)
reply (outcome.Held number) = json 200 (held_json number)
reply (outcome.TooManyHeld have limit) = refused 413 (codes "Z1") (pair (decimal have) (decimal limit))
reply (outcome.HeldFamily place) = refused 422 (codes "Z2") (decimal place)
reply outcome.NotHeld = refused 404 (codes "Z3") []
reply outcome.NoMemory = no_memory
