use Rattle.std.proofs.Common.{[], refl, sym, ap, subst}
use Rattle.ixp_rpsl.specs.Lines.{lines_in}
use Rattle.ixp_rpsl_sources.specs.Said.{Said, TextSays, unmarked}
use Rattle.ixp_rpsl_sources.specs.Told.{Passes, said_in}
use Rattle.ixp_rpsl_sources.proofs.Passing.{all_passed}
use Rattle.ixp_rpsl_sources.proofs.counting.read_counted.Goals as goal

pub returns : goal.returns
returns c =
    let said : Said = said_in c.read_all.new.gleaned in
    let says : TextSays c.args.sources.now c.args.t.now said =
    all_passed c.args.sources.now (lines_in (unmarked c.args.t.now)) said (subst (λ f. Passes c.args.sources.now (lines_in (unmarked c.args.t.now)) [] f said) c.new-gleaned.ensures c.in_ok-read_all.ensures) in
    (said, says, ap (λ s. record { routes = said.routes; sets = s }) (c.in_ok-sets.ensures said refl (sym c.as_slice.ensures)), refl)
