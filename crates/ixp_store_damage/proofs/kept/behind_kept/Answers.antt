use Rattle.std.proofs.Common.{rules}
use Rattle.ixp_store_damage.proofs.kept.behind_kept.Goals as goal

pub returns-in_err-floors-clause-told : goal.returns-in_err-floors-clause-told
returns-in_err-floors-clause-told c = λ es is counted r.
    let told = c.in_err-floors.ensures.told es is r in
    search rules
