use Rattle.std.proofs.Common.{sym}
use Rattle.ixp_cli_plain.proofs.fate.fate_in.Goals as goal

pub returns-in-Some-astray-clause-refusal : goal.returns-in-Some-astray-clause-refusal
returns-in-Some-astray-clause-refusal c = (c.in-Some.router.now, sym c.in-Some.ensures, c.in-Some-astray.ensures)
