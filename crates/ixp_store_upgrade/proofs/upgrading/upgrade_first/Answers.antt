use Rattle.ixp_store_upgrade.proofs.Outcomes.{first_damaged, first_refused, first_upgraded, first_whole}
use Rattle.ixp_store_upgrade.proofs.upgrading.upgrade_first.Goals as goal

pub returns-in-Err-clause-damage : goal.returns-in-Err-clause-damage
returns-in-Err-clause-damage g c = first_damaged _ c.in-Err.fault c.raised_fault.result c.requires.old c.in-Err.ensures.version c.in-Err.ensures.damage c.raised_fault.ensures.other

pub returns-in-Err-clause-complete : goal.returns-in-Err-clause-complete
returns-in-Err-clause-complete g c = first_refused _ c.in-Err.fault c.raised_fault.result c.requires.old c.in-Err.ensures.complete c.raised_fault.ensures.other

pub returns-in-Ok-set_versions-clause-upgraded : goal.returns-in-Ok-set_versions-clause-upgraded
returns-in-Ok-set_versions-clause-upgraded g c =
    first_upgraded _ _ _ c.in-Ok.state c.len.result c.requires.old c.in-Ok.ensures.valid c.in-Ok.ensures.storable c.in-Ok.ensures.state c.load_first.ensures.kept c.in-Ok-set_versions.ensures.made c.len.ensures

pub returns-in-Ok-set_versions-clause-complete : goal.returns-in-Ok-set_versions-clause-complete
returns-in-Ok-set_versions-clause-complete g c = first_whole _ c.in-Ok.state c.len.result c.requires.old c.in-Ok.ensures.complete c.len.ensures
