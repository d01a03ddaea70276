use Rattle.ixp_num.proofs.PrintedAddresses.{addr_printed, prefix_printed, pattern_printed, bounds_printed, asn_printed}
use Rattle.ixp_num.proofs.laws.printed_is_read.Goals as goal

pub returns-clause-addr : goal.returns-clause-addr
returns-clause-addr c = addr_printed

pub returns-clause-prefix : goal.returns-clause-prefix
returns-clause-prefix c = prefix_printed

pub returns-clause-pattern : goal.returns-clause-pattern
returns-clause-pattern c = pattern_printed

pub returns-clause-bounds : goal.returns-clause-bounds
returns-clause-bounds c = bounds_printed

pub returns-clause-asn : goal.returns-clause-asn
returns-clause-asn c = asn_printed
