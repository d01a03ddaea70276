use Rattle.ixp_compile.proofs.Examples.{plain_head_printed, plain_part_printed, unlisted_printed}
use Rattle.ixp_compile.proofs.example_laws.plain_example_is_printed.Goals as goal

pub returns : goal.returns
returns c = record { head = plain_head_printed; part = plain_part_printed; unlisted = unlisted_printed }
