-- An input that is longer than the limit.
use Rattle.std.proofs.Common.{◌≡◌, ◌<◌, ◌≤◌, ℕ, true, List, [], ◌++◌, length, length-append, Option, Some, None, Err, inl, inr, ap, sym, ◌∙◌, arith}
use Rattle.ixp_cli_plain.specs.declared.command.Command.{Command}
use Rattle.ixp_cli_plain.specs.declared.command.Command.TheVariants.{Ask, Ixf, Restore, Dump, Upgrade, Demo, Wait}
use Rattle.ixp_cli_plain.specs.declared.command.Question.{Question}
use Rattle.ixp_cli_plain.specs.declared.command.Question.TheVariants.{Export}
use Rattle.ixp_cli_plain.specs.declared.end.End.{End}
use Rattle.ixp_cli_plain.specs.declared.end.End.TheVariants.{Done, Usage, BadInput, BadObjects, ReadFault, WriteFault, KeeperFault, NoMemory, UnknownRouter, NotEmpty, Damaged, OldVersion, DoorFault, BadLink}
use Rattle.ixp_cli_plain.specs.Checks.{IsNoDump}
use Rattle.ixp_cli_plain.specs.Restores.{Store}
use Rattle.ixp_cli_plain.specs.Runs.{Flow, Outside, Answers, Ends, QuestionEnds, RestoreEnds, IsLongEnd, IsRefused, IsTold, ReadsAll, ReadsDump, Runs, input_limit, reads_whole, too_long}
use Rattle.ixp_registry.specs.declared.registry.Registry.{Registry}
use Rattle.ixp_io.specs.Told.{Moves, IsDone}

-- such an input isn't read to its end
never_all : (left text : List ℕ) (before after : Option (List ℕ)) → before ≡ Some left → input_limit < length left → Moves before after text → IsDone after → length text ≤ input_limit → ⊥
never_all left text None after e long moves done short = cc
never_all left text (Some l) None e long moves done short = moves
never_all left text (Some l) (Some rest) e long moves done short =
    let same : ◌≡◌ {A = Option (List ℕ)} (Some l) (Some left) = e in
    let whole : left ≡ text ++ [] = let here : l ≡ left = cc in sym here ∙ moves ∙ ap (λ r. text ++ r) done in
    omega (arith, ap length whole, length-append text [])

module _ (question : Question) (left : List ℕ) (input input' output output' : Flow) (is : input.bytes ≡ Some left) (long : input_limit < length left) where
  never : (text : List ℕ) → ReadsAll input input' text → ⊥
  never text (moves, done, short) = never_all left text input.bytes input'.bytes is long moves done short

  pub long_end : (end : End) → QuestionEnds question input input' output output' end → IsLongEnd end
  long_end Done (read, written, all, answer, took) = absurd (never read all)
  long_end Usage e = absurd e
  long_end (BadInput cause) (why, same) = by_case why where
    by_case : IsRefused (λ read why. Answers question read (Err why)) input input' cause → cause ≡ too_long
    by_case (inl (is, more)) = is
    by_case (inr (read, all, answer)) = absurd (never read all)
  long_end (BadObjects cause) (read, all, bad, same) = absurd (never read all)
  long_end ReadFault e = tt
  long_end WriteFault (read, written, all, answer, took, rose) = absurd (never read all)
  long_end KeeperFault e = absurd e
  long_end NoMemory e = tt
  long_end NotEmpty e = absurd e
  long_end (Damaged what) e = absurd e
  long_end (OldVersion found) e = absurd e
  long_end DoorFault e = absurd e
  long_end (BadLink code requests) e = absurd e
  long_end (UnknownRouter router) (read, all, vain, same) = absurd (never read all)

module _ (left : List ℕ) (input input' output output' : Flow) (store store' : Store) (is : input.bytes ≡ Some left) (long : input_limit < length left) where
  never_dump : (r : Registry) → ReadsDump input input' r → ⊥
  never_dump r (read, (moves, done, short), dump) = never_all left read input.bytes input'.bytes is long moves done short

  long_restore : (end : End) → RestoreEnds input input' output output' store store' end → IsLongEnd end
  long_restore Done (r, reads, fills, took) = absurd (never_dump r reads)
  long_restore Usage e = absurd e
  long_restore (BadInput cause) (why, out, kept) = by_case why where
    by_case : IsRefused IsNoDump input input' cause → cause ≡ too_long
    by_case (inl (is_long, more)) = is_long
    by_case (inr (read, (moves, done, short), answer)) = absurd (never_all left read input.bytes input'.bytes is long moves done short)
  long_restore (BadObjects cause) e = absurd e
  long_restore ReadFault e = tt
  long_restore WriteFault (r, reads, fills, took, rose) = absurd (never_dump r reads)
  long_restore KeeperFault (r, reads, rose, out, kept) = absurd (never_dump r reads)
  long_restore NoMemory e = tt
  long_restore (UnknownRouter router) e = absurd e
  long_restore NotEmpty (r, reads, filled, out, kept) = absurd (never_dump r reads)
  long_restore (Damaged what) e = absurd e
  long_restore (OldVersion found) e = absurd e
  long_restore DoorFault e = absurd e
  long_restore (BadLink code requests) e = absurd e

of_command : (command : Command) (before after : Outside) (left : List ℕ) (end : End) → reads_whole command ≡ true → before.input.bytes ≡ Some left → input_limit < length left
    → Ends (Some command) before.input after.input before.output after.output before.store after.store before.second after.second end → IsLongEnd end
of_command (Ask question) before after left end reads is long (ends, kept, clock) = long_end question left before.input after.input before.output after.output is long end ends
of_command Ixf before after left end reads is long ((second, gave, ends), kept) = long_end (Export second) left before.input after.input before.output after.output is long end ends
of_command Restore before after left end reads is long (ends, clock) = long_restore left before.input after.input before.output after.output before.store after.store is long end ends
of_command Dump before after left end reads is long ends = absurd (let bad : ⊥ = cc in bad)
of_command Upgrade before after left end reads is long ends = absurd (let bad : ⊥ = cc in bad)
of_command (Demo members) before after left end reads is long ends = absurd (let bad : ⊥ = cc in bad)
of_command (Wait waiting) before after left end reads is long ends = absurd (let bad : ⊥ = cc in bad)

pub long_run : (command : Command) (before after : Outside) (status : Option ℕ) (left : List ℕ) → reads_whole command ≡ true → before.input.bytes ≡ Some left → input_limit < length left → Runs (Some command) before after status
    → (end : End) × IsLongEnd end × IsTold end before.errors after.errors status
long_run command before after status left reads is long runs = (runs.end, of_command command before after left runs.end reads is long runs.ends, runs.told)
