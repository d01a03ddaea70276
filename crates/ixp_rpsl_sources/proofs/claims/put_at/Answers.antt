use Rattle.std.proofs.Common.{◌≡◌, ◌++◌, None, sym, ap, ◌∙◌}
use Rattle.std.specs.List.{slice_get}
use Rattle.std.proofs.lemmas.List.{append-nil}
use Rattle.std.proofs.lemmas.Option.{slice_get_past}
use Rattle.ixp_rpsl_sources.specs.Told.{claimed_one}
use Rattle.ixp_rpsl_sources.proofs.claims.put_at.Goals as goal

pub returns-in-None : goal.returns-in-None
returns-in-None c =
    let none : slice_get c.args.claims.now c.args.place ≡ None = slice_get_past c.args.claims.now c.args.place c.in-None.ensures.lookup.3 in
    sym (ap (λ o. c.args.members.now ++ claimed_one c.args.index.now c.args.words.now o) none ∙ append-nil c.args.members.now)
