use Rattle.std.proofs.Common.{◌-◌, slice_index, sym, ◌∙◌, arith}
use Rattle.ixp_roa.specs.Climbs.{StandsAt}
use Rattle.ixp_roa.proofs.Climbing.{none_after}
use Rattle.ixp_roa.proofs.index.upto_cover.Goals as goal

pub up-preserved : goal.up-preserved
up-preserved c =
    let rows = c.args.rows.now in
    let links = c.args.links.now in
    let i = c.up.at - 1 in
    let some = c.up-test.true in
    let low = c.up.invariant.0 in
    let within = c.requires.within in
    let few = c.requires.linked.0 in
    let here : StandsAt rows i c.at.result = (omega arith, c.at.ensures) in
    let link = c.requires.linked.1 i c.at.result (omega arith) here in
    let back = link.0 in (
      omega arith,
      none_after rows links c.args.net.now c.up.at c.args.from i (slice_index links i) c.at.result (omega arith) c.requires.ascends link.1 here (c.requires.upto i c.at.result here (omega arith))
          (sym c.covers.ensures ∙ c.if-covers.false) c.up.invariant.1,
    )
