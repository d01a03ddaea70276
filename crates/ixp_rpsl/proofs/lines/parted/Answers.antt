use Rattle.std.proofs.Common.{◌==◌}
use Rattle.ixp_rpsl.proofs.Parts.{split_there, split_nowhere}
use Rattle.ixp_rpsl.proofs.lines.parted.Goals as goal

pub returns-in-Some-clause-parts : goal.returns-in-Some-clause-parts
returns-in-Some-clause-parts c = split_there (λ b. b == c.args.mark) c.args.t.now c.in-Some.at c.in-Some.ensures

pub returns-in-None-clause-parts : goal.returns-in-None-clause-parts
returns-in-None-clause-parts c = split_nowhere (λ b. b == c.args.mark) c.args.t.now c.in-None.ensures
