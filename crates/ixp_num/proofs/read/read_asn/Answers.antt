use Rattle.ixp_num.proofs.AnswerLaws.{asn_answer}
use Rattle.ixp_num.proofs.read.read_asn.Goals as goal

pub returns : goal.returns
returns c = asn_answer c.args.t.now c.asn_text.result c.asn_of.result c.asn_text.ensures c.asn_of.ensures
