use Rattle.std.proofs.Common.{◌≡◌, map, take}
use Rattle.ixp_compile_text.specs.declared.addresses.Listed.{Listed}
use Rattle.ixp_compile_text.proofs.addresses.plain.Given as goal

abbrev pub invariant-each : goal.invariant-each
invariant-each l = l.addrs ≡ map (λ (a : Listed). a.addr) (take l.one-index l.listed)
