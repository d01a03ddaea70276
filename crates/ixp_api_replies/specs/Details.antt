-- What is told of refusals.
use Rattle.std.specs.Prelude.{ℕ, List, [], ◌++◌, Option, Some, None, decimal, codes}
use Rattle.ixp_registry.specs.Codes.{edit_word, field_word, limited_word, public_word}
use Rattle.ixp_registry.specs.Kinds.{word_of}
use Rattle.ixp_registry.specs.declared.kind.Kind.{Kind}
use Rattle.ixp_registry.specs.declared.refusal.Refusal.{Refusal}
use Rattle.ixp_registry.specs.declared.refusal.Refusal.TheVariants as refusal
use Rattle.ixp_registry.specs.declared.refusal.Right.{Right}
use Rattle.ixp_registry.specs.declared.refusal.Right.TheVariants as right
use Rattle.ixp_registry.specs.declared.refusal.RowKey.{RowKey}
use Rattle.ixp_registry.specs.declared.refusal.RowKey.TheVariants as key
use Rattle.ixp_api_json.specs.Words.{family_word, status_word}

-- two texts with a blank between them
abbrev pub pair : List ℕ → List ℕ → List ℕ
pair front rest = front ++ (codes " " ++ rest)

abbrev pub right_text : Right → List ℕ
right_text right.Staff = codes "staff"
right_text (right.Member m) = pair (codes "member") (decimal m)

-- the numbers of a key with a blank between them, a handle, or the word of a public list
abbrev pub key_text : RowKey → List ℕ
key_text (key.Number n) = decimal n
key_text (key.Pair a b) = pair (decimal a) (decimal b)
key_text (key.Handle handle) = handle
key_text (key.Public kind) = public_word kind

-- the kind of a row and its key
abbrev pub row_text : Kind → RowKey → List ℕ
row_text kind key = pair (word_of kind) (key_text key)

abbrev pub member_text : Option ℕ → List ℕ
member_text None = codes "none"
member_text (Some m) = decimal m

-- the detail of a refusal: what it carries
abbrev pub detail_of : Refusal → List ℕ
detail_of refusal.NoKey = []
detail_of (refusal.Denied right) = right_text right
detail_of (refusal.KeyReused kind subject) = pair (edit_word kind) (key_text subject)
detail_of (refusal.KeyOld floor) = decimal floor
detail_of (refusal.Unknown table key) = row_text table key
detail_of (refusal.BadText field) = field_word field
detail_of (refusal.AsnReserved asn) = decimal asn.0
detail_of (refusal.Family family) = family_word family
detail_of (refusal.Outside vlan) = decimal vlan
detail_of (refusal.Taken table key) = row_text table key
detail_of (refusal.PortTaken member) = member_text member
detail_of (refusal.Exists key) = key_text key
detail_of (refusal.Overlap vlan) = decimal vlan
detail_of (refusal.StatusMove from to) = pair (status_word from) (status_word to)
detail_of (refusal.InUse table key) = row_text table key
detail_of (refusal.BadRule place) = decimal place
detail_of (refusal.TooMany table have limit) = pair (limited_word table) (pair (decimal have) (decimal limit))

-- the status of a refusal (RFC 9110 section 15.5)
abbrev pub status_of : Refusal → ℕ
status_of refusal.NoKey = 401
status_of (refusal.Denied right) = 403
status_of (refusal.KeyReused kind subject) = 409
status_of (refusal.KeyOld floor) = 409
status_of (refusal.Unknown table key) = 404
status_of (refusal.BadText field) = 422
status_of (refusal.AsnReserved asn) = 422
status_of (refusal.Family family) = 422
status_of (refusal.Outside vlan) = 422
status_of (refusal.Taken table key) = 409
status_of (refusal.PortTaken member) = 409
status_of (refusal.Exists key) = 409
status_of (refusal.Overlap vlan) = 409
status_of (refusal.StatusMove from to) = 409
status_of (refusal.InUse table key) = 409
status_of (refusal.BadRule place) = 422
status_of (refusal.TooMany table have limit) = 413
