use Rattle.std.proofs.Common.{◌≡◌, ◌++◌, drop, filter}
use Rattle.ixp_num.specs.declared.pattern.Pattern.{Pattern}
use Rattle.ixp_num.specs.Families.{same_family}
use Rattle.ixp_compile.specs.Header.{bogons_of}
use Rattle.ixp_compile_head.proofs.head.bogons_of.Given as goal

abbrev pub invariant-each : goal.invariant-each
invariant-each l =
    l.bogons ++ filter (λ (t : Pattern). same_family t.prefix.family l.h.router.family) (drop l.pattern-index l.h.bogons) ≡ bogons_of l.h
