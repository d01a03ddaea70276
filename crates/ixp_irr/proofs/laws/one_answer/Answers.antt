use Rattle.ixp_num_sorted.specs.Keys.{prefix_key, pattern_key, asn_key, range_key}
use Rattle.ixp_irr.specs.Items.{IsAsnText, IsPatternText, IsRangeText, Says, SaysPrefixOf}
use Rattle.ixp_irr.proofs.OneAnswer.{one_answer}
use Rattle.ixp_irr.proofs.SaysOne.{asn_text_one, pattern_text_one, range_text_one, says_one, says_prefix_one}
use Rattle.ixp_irr.proofs.laws.one_answer.Goals as goal

pub returns-clause-prefixes : goal.returns-clause-prefixes
returns-clause-prefixes c family t = one_answer (SaysPrefixOf family) (says_prefix_one family) prefix_key t

pub returns-clause-asns : goal.returns-clause-asns
returns-clause-asns c t = one_answer (Says IsAsnText) (says_one IsAsnText asn_text_one) asn_key t

pub returns-clause-patterns : goal.returns-clause-patterns
returns-clause-patterns c t = one_answer (Says IsPatternText) (says_one IsPatternText pattern_text_one) pattern_key t

pub returns-clause-ranges : goal.returns-clause-ranges
returns-clause-ranges c t = one_answer (Says IsRangeText) (says_one IsRangeText range_text_one) range_key t
