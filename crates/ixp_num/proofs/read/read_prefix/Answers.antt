use Rattle.std.proofs.Common.{length}
use Rattle.ixp_num.specs.declared.reading.Tail.TheVariants.{Length}
use Rattle.ixp_num.specs.AddressForms.{address_form}
use Rattle.ixp_num.specs.Reading.{placed, IsWhole}
use Rattle.ixp_num.proofs.AnswerLaws.{placed_says, whole_placed, prefix_answer}
use Rattle.ixp_num.proofs.PartedForms.{address_parted}
use Rattle.ixp_num.proofs.read.read_prefix.Goals as goal

pub returns : goal.returns
returns c =
    prefix_answer c.args.t.now (placed (length c.args.t.now) c.address_text.result) c.prefix_of.result
    (placed_says (address_form Length) (address_parted Length) c.args.t.now c.address_text.result c.address_text.ensures.says)
    (whole_placed (IsWhole Length) (length c.args.t.now) c.address_text.result c.address_text.ensures.whole)
    c.prefix_of.ensures
