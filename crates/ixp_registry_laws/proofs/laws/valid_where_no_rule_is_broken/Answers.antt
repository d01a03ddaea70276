use Rattle.ixp_registry.specs.Registries.{rows_of}
use Rattle.ixp_registry_laws.proofs.FromRules.{all_valid}
use Rattle.ixp_registry_laws.proofs.Sentences.{sentences, unbroken}
use Rattle.ixp_registry_laws.proofs.ToRules.{all_kept, well_formed}
use Rattle.ixp_registry_laws.proofs.laws.valid_where_no_rule_is_broken.Goals as goal

pub returns-clause-valid : goal.returns-clause-valid
returns-clause-valid c = λ r f none. all_valid r f (sentences (rows_of r) none)

pub returns-clause-unbroken : goal.returns-clause-unbroken
returns-clause-unbroken c = λ r v. unbroken (rows_of r) (all_kept r v)

pub returns-clause-well_formed : goal.returns-clause-well_formed
returns-clause-well_formed c = well_formed
