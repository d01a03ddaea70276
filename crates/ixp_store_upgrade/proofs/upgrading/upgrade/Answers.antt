use Rattle.std.proofs.Common.{Err, subst, sym}
use Rattle.ixp_io.specs.Told.{WhereTold}
use Rattle.ixp_store_words.specs.declared.fault.LoadFault.{LoadFault}
use Rattle.ixp_store_upgrade.specs.Upgrades.{TellsDamaged, UpgradesAll}
use Rattle.ixp_store_upgrade.proofs.Outcomes.{NotOld, today_damaged, today_refused, today_whole}
use Rattle.ixp_store_upgrade.proofs.upgrading.upgrade.Goals as goal

pub returns-in-Ok-clause-complete : goal.returns-in-Ok-clause-complete
returns-in-Ok-clause-complete g c = today_whole _ c.in-Ok._state c.in-Ok.ensures.version

pub returns-in-Err-Damaged-clause-damage : goal.returns-in-Err-Damaged-clause-damage
returns-in-Err-Damaged-clause-damage g c =
    subst (λ (f : LoadFault). WhereTold (g.P.Keeper.table c.args.keeper.now) (TellsDamaged (Err f))) c.in-Err-Damaged.field-0-is
    (today_damaged _ c.in-Err-Damaged.field-0 (record { whole = c.in-Err-Damaged.ensures.complete; nothing = c.in-Err-Damaged.ensures.nothing }) c.in-Err-Damaged.ensures.version
    c.in-Err-Damaged.ensures.damage)

pub returns-in-Err-Damaged-clause-complete : goal.returns-in-Err-Damaged-clause-complete
returns-in-Err-Damaged-clause-complete g c =
    subst (λ (f : LoadFault). UpgradesAll (g.P.Keeper.table c.args.keeper.now) (Err f)) c.in-Err-Damaged.field-0-is
    (today_refused _ c.in-Err-Damaged.field-0 (subst NotOld (sym c.in-Err-Damaged.field-0-is) tt) (record { whole = c.in-Err-Damaged.ensures.complete; nothing = c.in-Err-Damaged.ensures.nothing })
    c.in-Err-Damaged.ensures.version)
