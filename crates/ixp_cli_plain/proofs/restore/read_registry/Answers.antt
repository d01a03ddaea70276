use Rattle.std.proofs.Common.{List, ℕ, inr, subst}
use Rattle.ixp_cli_plain.specs.declared.restore.NoDump.{NoDump}
use Rattle.ixp_cli_plain.specs.Checks.{IsNoDump}
use Rattle.ixp_cli_plain.specs.Restores.{IsUndumped}
use Rattle.ixp_cli_plain.proofs.restore.read_registry.Goals as goal

pub returns-in-Err-Bad-clause-unread : goal.returns-in-Err-Bad-clause-unread
returns-in-Err-Bad-clause-unread g c =
    inr (
      c.in-Ok.bytes,
      (c.in-Ok.ensures.bytes, c.in-Ok.ensures.done, c.in-Ok.ensures.limit),
      subst (λ (t : List ℕ). IsNoDump t c.in-Err-Bad.cause) c.as_slice.ensures (subst (λ (d : NoDump). IsUndumped c.as_slice.result.now d) c.in-Err-Bad.field-0-is c.in-Err-Bad.ensures.refusal),
    )
