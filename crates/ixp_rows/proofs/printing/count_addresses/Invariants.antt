use Rattle.std.proofs.Common.{◌≡◌, ◌+◌, drop, flat_map, length}
use Rattle.ixp_registry.specs.Registries.{addresses_of}
use Rattle.ixp_rows.proofs.printing.count_addresses.Given as goal

abbrev pub invariant-loop-interface : goal.invariant-loop-interface
invariant-loop-interface l = l.count + length (flat_map addresses_of (drop l.interface-index l.interfaces)) ≡ length (flat_map addresses_of l.interfaces)
