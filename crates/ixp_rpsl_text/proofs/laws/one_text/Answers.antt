use Rattle.ixp_rpsl_text.proofs.OneListing as one
use Rattle.ixp_rpsl_text.proofs.laws.one_text.Goals as goal

pub returns-clause-text : goal.returns-clause-text
returns-clause-text c = one.one_text

pub returns-clause-cause : goal.returns-clause-cause
returns-clause-cause c = one.text_or_cause
