use Rattle.ixp_irr.proofs.Parts.{located, nowhere, sliced}
use Rattle.ixp_irr.proofs.lines.parted.Goals as goal

pub returns-in-Some : goal.returns-in-Some
returns-in-Some c = sliced c.args.mark c.args.t.now c.in-Some.at (located c.args.mark c.args.t.now c.in-Some.at c.in-Some.ensures)

pub returns-in-None : goal.returns-in-None
returns-in-None c = nowhere c.args.mark c.args.t.now c.in-None.ensures
