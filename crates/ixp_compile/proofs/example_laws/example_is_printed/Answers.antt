use Rattle.ixp_compile.proofs.Examples.{head_printed, part_printed, foot_printed}
use Rattle.ixp_compile.proofs.example_laws.example_is_printed.Goals as goal

pub returns : goal.returns
returns c = record { head = head_printed; part = part_printed; foot = foot_printed }
