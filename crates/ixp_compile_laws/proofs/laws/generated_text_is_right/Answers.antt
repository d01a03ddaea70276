use Rattle.ixp_compile_laws.proofs.ReadBack.{whole_right, part_right}
use Rattle.ixp_compile_laws.proofs.laws.generated_text_is_right.Goals as goal

pub returns-clause-whole : goal.returns-clause-whole
returns-clause-whole c = λ r handle router valid there. whole_right r handle router valid there

pub returns-clause-own : goal.returns-clause-own
returns-clause-own c = λ r handle router n s valid there its. part_right r handle router valid there n s its
