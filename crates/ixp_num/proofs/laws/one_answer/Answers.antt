use Rattle.ixp_num.proofs.OneAnswer.{one_addr, one_prefix, one_pattern, one_asn}
use Rattle.ixp_num.proofs.laws.one_answer.Goals as goal

pub returns-clause-addr : goal.returns-clause-addr
returns-clause-addr c = one_addr

pub returns-clause-prefix : goal.returns-clause-prefix
returns-clause-prefix c = one_prefix

pub returns-clause-pattern : goal.returns-clause-pattern
returns-clause-pattern c = one_pattern

pub returns-clause-asn : goal.returns-clause-asn
returns-clause-asn c = one_asn
