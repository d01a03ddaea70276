use Rattle.std.proofs.Common.{drop, slice_get, ◌≡◌}
use Rattle.ixp_http.specs.Fields.{values}
use Rattle.ixp_http.proofs.fields.first_value.Given as goal

abbrev pub invariant-loop-field : goal.invariant-loop-field
invariant-loop-field l = slice_get (values l.name (drop l.field-index l.fields)) 0 ≡ slice_get (values l.name l.fields) 0
