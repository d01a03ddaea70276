-- A run of a command that waits, and what is known of its status.
use Rattle.std.proofs.Common.{◌≡◌, ◌↔◌, inl, inr, ℕ, Option, Some, None, sym, ap, ◌∙◌, subst}
use Rattle.ixp_cli_plain.specs.declared.command.Command.{Command}
use Rattle.ixp_cli_plain.specs.declared.command.Command.TheVariants.{Wait}
use Rattle.ixp_cli_plain.specs.declared.command.Waiting.{Waiting}
use Rattle.ixp_cli_plain.specs.declared.end.End.{End}
use Rattle.ixp_cli_plain.specs.Runs.{Flow, IsStatus, Outside, Tells, error_text, status_of}
use Rattle.ixp_cli_plain.proofs.Ending.{is_status}
use Rattle.ixp_cli.specs.Waits.{AllRuns, DoorAt, WaitEnds, WaitRuns}

pub waits : (command : Option Command) (waiting : Waiting) (before between after : Outside) (d e : DoorAt) (end : End) (status : ℕ) → command ≡ Some (Wait waiting) → between ≡ before
    → WaitEnds waiting between.input after.input between.output after.output between.store after.store between.second after.second d e end
    → status ≡ status_of end → Tells between.errors after.errors (error_text end) → AllRuns command before after d e status
waits command waiting before between after d e end status is same ends told line =
    subst (λ (o : Outside). AllRuns command o after d e status) same (inr (waiting, is, record { end = end; ends = ends; told = (ap Some told, line) }))
