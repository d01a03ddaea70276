use Rattle.std.proofs.Common.{length}
use Rattle.ixp_num.specs.declared.reading.Tail.TheVariants.{Bounds}
use Rattle.ixp_num.specs.AddressForms.{address_form}
use Rattle.ixp_num.specs.Reading.{placed}
use Rattle.ixp_num.proofs.AnswerLaws.{placed_says, pattern_answer}
use Rattle.ixp_num.proofs.PartedForms.{address_parted}
use Rattle.ixp_num.proofs.read.read_pattern.Goals as goal

pub returns : goal.returns
returns c =
    pattern_answer c.args.t.now (placed (length c.args.t.now) c.address_text.result) c.pattern_of.result
    (placed_says (address_form Bounds) (address_parted Bounds) c.args.t.now c.address_text.result c.address_text.ensures.says)
    c.pattern_of.ensures
