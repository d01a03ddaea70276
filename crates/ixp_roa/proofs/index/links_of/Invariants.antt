use Rattle.std.proofs.Common.{◌≡◌, length}
use Rattle.ixp_roa.specs.Climbs.{AreLinked}
use Rattle.ixp_roa.proofs.index.links_of.Given as goal

-- the links of the rows so far
abbrev pub invariant-rows : goal.invariant-rows
invariant-rows l = AreLinked l.fn.rows l.links.items × (length l.links.items ≡ l.i)
