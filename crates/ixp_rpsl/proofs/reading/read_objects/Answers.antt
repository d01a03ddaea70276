use Rattle.std.proofs.Common.{[], refl, subst}
use Rattle.ixp_rpsl.specs.Lines.{lines_in}
use Rattle.ixp_rpsl.specs.Objects.{TextSays}
use Rattle.ixp_rpsl.specs.Passes.{Passes}
use Rattle.ixp_rpsl.proofs.Passing.{all_passed}
use Rattle.ixp_rpsl.proofs.reading.read_objects.Goals as goal

pub returns-in-Some : goal.returns-in-Some
returns-in-Some c =
    let says : TextSays c.args.t.now c.read_all.new.found = all_passed (lines_in c.args.t.now) c.read_all.new.found (subst (λ f. Passes (lines_in c.args.t.now) [] f c.read_all.new.found) c.new-found.ensures c.in-Ok.ensures) in
    (c.read_all.new.found, says, c.in-Some.is)

pub returns-in-None : goal.returns-in-None
returns-in-None c =
    let says : TextSays c.args.t.now c.read_all.new.found = all_passed (lines_in c.args.t.now) c.read_all.new.found (subst (λ f. Passes (lines_in c.args.t.now) [] f c.read_all.new.found) c.new-found.ensures c.in-Ok.ensures) in
    (c.read_all.new.found, says, c.in-None.is, refl, refl)
