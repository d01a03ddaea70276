use Rattle.std.proofs.Common.{drop, ◌≡◌}
use Rattle.ixp_http.specs.Fields.{values, all_are}
use Rattle.ixp_http.proofs.fields.all_are.Given as goal

abbrev pub invariant-loop-field : goal.invariant-loop-field
invariant-loop-field l = all_are l.value (values l.name (drop l.field-index l.fields)) ≡ all_are l.value (values l.name l.fields)
