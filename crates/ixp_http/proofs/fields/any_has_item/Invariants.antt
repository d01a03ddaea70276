use Rattle.std.proofs.Common.{drop, ◌≡◌}
use Rattle.ixp_http.specs.Fields.{values, any_has_item}
use Rattle.ixp_http.proofs.fields.any_has_item.Given as goal

abbrev pub invariant-loop-field : goal.invariant-loop-field
invariant-loop-field l = any_has_item l.word (values l.name (drop l.field-index l.fields)) ≡ any_has_item l.word (values l.name l.fields)
