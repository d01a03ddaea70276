use Rattle.ixp_compile_laws.proofs.ReadBack.{whole_spelt, own_spelt, alone}
use Rattle.ixp_compile_laws.proofs.laws.generated_text_is_read_back.Goals as goal

pub returns-clause-whole : goal.returns-clause-whole
returns-clause-whole c = λ r handle router valid there. whole_spelt r handle router valid there

pub returns-clause-own : goal.returns-clause-own
returns-clause-own c = λ r handle router n s valid there its. own_spelt r handle router valid there n s its

pub returns-clause-alone : goal.returns-clause-alone
returns-clause-alone c = λ r handle router other valid there spelt. alone r handle router valid there other spelt
