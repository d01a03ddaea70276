use Rattle.std.proofs.Common.{take, map, ◌≡◌}
use Rattle.httparse.specs.Spans.{header_bytes}
use Rattle.ixp_http.specs.Messages.{field_of}
use Rattle.ixp_http.proofs.request.fields_at.Given as goal

abbrev pub invariant-loop-place : goal.invariant-loop-place
invariant-loop-place l = l.fields ≡ map field_of (map (header_bytes l.bytes) (take l.place-index l.places))
