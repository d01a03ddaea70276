-- What httparse's answers say of a whole head.
use Rattle.std.proofs.Common.{◌≡◌, ◌≤◌, ◌<◌, ◌+◌, ℕ, Result, Ok, Err, IfOk, List, [], length, drop, map, sym, subst, arith}
use Rattle.std.proofs.lemmas.List.{append-nil}
use Rattle.httparse.specs.declared.spans.HeaderSpan.{HeaderSpan}
use Rattle.httparse.specs.declared.spans.RequestSpans.{RequestSpans}
use Rattle.httparse.specs.Grammar.{ReadsRequest, HasNoRequest}
use Rattle.httparse.specs.Spans.{IsRequestOf, RequestOverflows}
use Rattle.ixp_http.specs.declared.request.Head.{Head}
use Rattle.ixp_http.specs.Heads.{IsCut, line_feeds}
use Rattle.ixp_http.specs.Messages.{IsHead, head_at, field_of}
use Rattle.ixp_http.proofs.Grammar.{whole_head, few_fields}

-- the places of a head have its parts
head_found : (bytes : List ℕ) (headers : List HeaderSpan) (places : RequestSpans) → IsCut bytes → IsRequestOf bytes headers places
    → IsHead bytes (head_at bytes headers places)
head_found bytes headers places cut of =
    let at = of.1 in
    let rest = whole_head bytes of.0 (drop places.len bytes) cut at.reads in (
      of.0,
      subst (ReadsRequest bytes of.0) rest at.reads,
      λ i. record { method = at.method i; target = at.path i; minor = at.version i; fields = map field_of (at.fields i) },
    )

pub found : {E : Type 0} (bytes : List ℕ) (headers : List HeaderSpan) (places : RequestSpans) → IsCut bytes → IsRequestOf bytes headers places
    → (r : Result Head E) → IfOk r (λ head. head ≡ head_at bytes headers places) → IfOk r (IsHead bytes)
found bytes headers places cut of (Ok head) e = subst (IsHead bytes) (sym e) (head_found bytes headers places cut of)
found bytes headers places cut of (Err e) x = tt

-- no head is there where one would have more fields than such lines hold
pub none_found : (bytes : List ℕ) (room : ℕ) → IsCut bytes → line_feeds bytes ≤ room + 2 → RequestOverflows room bytes → HasNoRequest bytes
none_found bytes room cut few over h rest reads =
    let fields = few_fields bytes h rest cut reads in
    let more : room < length h.fields = over [] h rest (subst (λ (t : List ℕ). ReadsRequest t h rest) (sym (append-nil bytes)) reads) in
    absurd (omega arith)
