use Rattle.std.proofs.Common.{length}
use Rattle.ixp_num.specs.declared.reading.Tail.TheVariants.{Nothing}
use Rattle.ixp_num.specs.AddressForms.{address_form}
use Rattle.ixp_num.specs.Reading.{placed, IsWhole}
use Rattle.ixp_num.proofs.AnswerLaws.{placed_says, whole_placed, addr_answer}
use Rattle.ixp_num.proofs.PartedForms.{address_parted}
use Rattle.ixp_num.proofs.read.read_addr.Goals as goal

pub returns : goal.returns
returns c =
    addr_answer c.args.t.now (placed (length c.args.t.now) c.address_text.result) c.addr_of.result
    (placed_says (address_form Nothing) (address_parted Nothing) c.args.t.now c.address_text.result c.address_text.ensures.says)
    (whole_placed (IsWhole Nothing) (length c.args.t.now) c.address_text.result c.address_text.ensures.whole)
    c.addr_of.ensures
