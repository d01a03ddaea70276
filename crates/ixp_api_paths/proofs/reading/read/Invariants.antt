use Rattle.std.proofs.Common.{◌≡◌, drop, option_map}
use Rattle.ixp_api_paths.specs.Paths as spec
use Rattle.ixp_api_paths.proofs.reading.read.Given as goal

abbrev pub invariant-loop-part : goal.invariant-loop-part
invariant-loop-part l =
    spec.read spec.no_args l.parts (spec.behind_root l.path) ≡ spec.read l.args (drop l.part-index l.parts) (option_map (λ t. t.now) l.left)
