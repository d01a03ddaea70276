use Rattle.std.proofs.Common.{◌≡◌, ◌++◌, drop, flat_map}
use Rattle.ixp_rows_lines.specs.declared.version.Version.TheVariants.{Two}
use Rattle.ixp_registry.specs.Registries.{rows_of}
use Rattle.ixp_rows.specs.Printing.{kind_lines}
use Rattle.ixp_rows.proofs.printing.put_kinds.Given as goal

abbrev pub invariant-loop-kind : goal.invariant-loop-kind
invariant-loop-kind l =
    l.out.items ++ flat_map (kind_lines Two (rows_of l.registry)) (drop l.kind-index l.kinds) ≡ l.fn.out.items ++ flat_map (kind_lines Two (rows_of l.registry)) l.kinds
