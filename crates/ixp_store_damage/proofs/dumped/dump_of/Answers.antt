use Rattle.std.proofs.Common.{◌≡◌, ◌++◌, Some, flat_map, ap, ◌∙◌}
use Rattle.ixp_registry.specs.Registries.{rows_of}
use Rattle.ixp_rows_lines.specs.declared.version.Version.TheVariants.{Two}
use Rattle.ixp_rows.specs.Printing.{all_kinds, kind_lines}
use Rattle.ixp_rows.specs.Reading.{head_text}
use Rattle.ixp_store_damage.proofs.KindLines.{dump_made}
use Rattle.ixp_store_damage.proofs.dumped.dump_of.Goals as goal

pub returns : goal.returns
returns c = λ r v are.
    let head : c.put.new.out.items ≡ head_text Two = c.in_ok-put.ensures.ok ∙ ap (λ t. t ++ head_text Two) c.new-text.ensures.items in
    let lines : c.put_kinds.new.out.items ≡ head_text Two ++ flat_map (kind_lines Two (rows_of r)) all_kinds =
    (c.in_ok-put_kinds.ensures r v are).1 ∙ ap (λ t. t ++ flat_map (kind_lines Two (rows_of r)) all_kinds) head in
    ap (λ t. Some t) (c.in_ok-put_end.ensures ∙ dump_made r v c.put_kinds.new.out.items lines)
