-- A run on an input that its question answers, and one of `restore` on a dump.
use Rattle.std.proofs.Common.{◌≡◌, ◌≢◌, ◌<◌, ◌≤◌, ℕ, List, ◌++◌, length, append-nil, Option, Some, None, Ok, Err, inl, inr, refl, sym, ap, ◌∙◌, subst, arith}
use Rattle.ixp_io.specs.Told.{Moves, IsDone, Takes, Told, WhereTold}
use Rattle.ixp_ixf.specs.Views.{ixf_text_of}
use Rattle.ixp_cli_plain.specs.declared.command.Command.TheVariants.{Ask, Ixf, Restore}
use Rattle.ixp_cli_plain.specs.declared.command.Question.TheVariants.{Export}
use Rattle.ixp_cli_plain.specs.declared.command.Question.{Question}
use Rattle.ixp_cli_plain.specs.declared.end.End.{End}
use Rattle.ixp_cli_plain.specs.declared.end.End.TheVariants.{Done, Usage, BadInput, BadObjects, ReadFault, WriteFault, KeeperFault, NoMemory, UnknownRouter, NotEmpty, Damaged, OldVersion, DoorFault, BadLink}
use Rattle.ixp_cli_plain.specs.Checks.{IsNoDump}
use Rattle.ixp_cli_plain.specs.Restores.{Fills, IsDumpOf, Restores}
use Rattle.ixp_cli_plain.specs.Runs.{Flow, Outside, Answers, ExportEnds, QuestionEnds, IsAnswered, AsksInVain, HasBadObjects, IsRefused, IsTold, IsRestored, ReadsAll, ReadsDump, RestoreEnds, Runs, input_limit}
use Rattle.ixp_cli_plain.proofs.OneAnswer.{one_written, not_refused, not_in_vain, not_bad, same_registry, is_dump}
use Rattle.ixp_registry.specs.declared.registry.Registry.{Registry}
use Rattle.std.specs.FinMap.{empty}
use Rattle.ixp_io.specs.Tables.{Table}

-- what was read is the whole input
read_whole : (left text : List ℕ) (before after : Option (List ℕ)) → before ≡ Some left → Moves before after text → IsDone after → text ≡ left
read_whole left text None after e moves done = cc
read_whole left text (Some l) None e moves done = absurd moves
read_whole left text (Some l) (Some rest) e moves done =
    let same : ◌≡◌ {A = Option (List ℕ)} (Some l) (Some left) = e in
    let here : l ≡ left = cc in
    sym (append-nil text) ∙ sym (ap (λ r. text ++ r) done) ∙ sym moves ∙ here

-- such an input isn't too long
too_long : (left : List ℕ) (before after : Option (List ℕ)) → before ≡ Some left → Told before after (λ l rest. input_limit < length l) → length left ≤ input_limit → ⊥
too_long left None after e long short = cc
too_long left (Some l) None e long short = long
too_long left (Some l) (Some rest) e long short =
    let same_left : ◌≡◌ {A = Option (List ℕ)} (Some l) (Some left) = e in
    let here : l ≡ left = cc in
    omega (arith, ap length here, short, long)

module _ (question : Question) (left answer : List ℕ) (input input' output output' : Flow) (is : input.bytes ≡ Some left) (short : length left ≤ input_limit)
    (answers : Answers question left (Ok answer)) where
  whole : (text : List ℕ) → ReadsAll input input' text → text ≡ left
  whole text (moves, done, fits) = read_whole left text input.bytes input'.bytes is moves done

  written : (text out : List ℕ) → ReadsAll input input' text → Answers question text (Ok out) → out ≡ answer
  written text out all told = one_written question left out answer (subst (λ t. Answers question t (Ok out)) (whole text all) told) answers

  pub answered : (end : End) → QuestionEnds question input input' output output' end → IsAnswered answer input input' output output' end
  answered Done (text, out, all, told, took) = subst (Takes output.bytes output'.bytes) (written text out all told) took
  answered Usage e = absurd e
  answered (BadInput cause) (why, same) = by_case why where
    by_case : IsRefused (λ read why. Answers question read (Err why)) input input' cause → ⊥
    by_case (inl (e, (long, some))) = too_long left input.bytes input'.bytes is long short
    by_case (inr (text, all, told)) = not_refused question left answer cause answers (subst (λ t. Answers question t (Err cause)) (whole text all) told)
  answered (BadObjects cause) (text, all, bad, same) = not_bad question left answer cause answers (subst (λ t. HasBadObjects question t cause) (whole text all) bad)
  answered ReadFault (rose, some, same) = rose
  answered WriteFault (text, out, all, told, took, rose) = rose
  answered KeeperFault e = absurd e
  answered NoMemory e = tt
  answered NotEmpty e = absurd e
  answered (Damaged what) e = absurd e
  answered (OldVersion found) e = absurd e
  answered DoorFault e = absurd e
  answered (BadLink code requests) e = absurd e
  answered (UnknownRouter router) (text, all, vain, same) = not_in_vain question left answer router answers (subst (λ t. AsksInVain question t router) (whole text all) vain)

pub answered_run :
    (question : Question) (before after : Outside) (status : Option ℕ) (left answer : List ℕ) → before.input.bytes ≡ Some left → length left ≤ input_limit → Answers question left (Ok answer)
    → Runs (Some (Ask question)) before after status → (end : End) × IsAnswered answer before.input after.input before.output after.output end × IsTold end before.errors after.errors status
answered_run question before after status left answer is short answers runs =
    (runs.end, answered question left answer before.input after.input before.output after.output is short answers runs.end runs.ends.0, runs.told)

pub exported_run :
    (r : Registry) (before after : Outside) (status : Option ℕ) (left : List ℕ) → before.input.bytes ≡ Some left → length left ≤ input_limit → IsDumpOf left r
    → Runs (Some Ixf) before after status
    → (end : End) × (second : ℕ) × Told before.second after.second (λ earlier last. last ≡ second) × IsAnswered (ixf_text_of r second) before.input after.input before.output after.output end
    × IsTold end before.errors after.errors status
exported_run r before after status left is short dump runs = by_end runs.ends.0 where
  by_end : ExportEnds before.input after.input before.output after.output before.second after.second runs.end
      → (end : End) × (second : ℕ) × Told before.second after.second (λ earlier last. last ≡ second) × IsAnswered (ixf_text_of r second) before.input after.input before.output after.output end
      × IsTold end before.errors after.errors status
  by_end (second, gave, ends) = (
    runs.end,
    second,
    gave,
    answered (Export second) left (ixf_text_of r second) before.input after.input before.output after.output is short (record { registry = r; is_dump = dump; is_output = refl }) runs.end ends,
    runs.told,
  )

module _ (r : Registry) (left : List ℕ) (before after : Outside) (is : before.input.bytes ≡ Some left) (dump : IsDumpOf left r) (clear : before.store.rows ≡ Some empty) where
  same_dump : (s : Registry) → ReadsDump before.input after.input s → s ≡ r
  same_dump s (read, (moves, done, fits), other) =
      same_registry left s r (subst (λ t. IsDumpOf t s) (read_whole left read before.input.bytes after.input.bytes is moves done) other) dump

  none_filled : (rows : Option Table) → rows ≡ Some empty → WhereTold rows (λ t. t ≢ empty) → ⊥
  none_filled None e some = cc
  none_filled (Some t) e some = some (let same : ◌≡◌ {A = Option Table} (Some t) (Some empty) = e in cc)

  restored : (end : End) → length left ≤ input_limit → RestoreEnds before.input after.input before.output after.output before.store after.store end → IsRestored r before after end
  restored Done short (s, reads, fills, took) =
      (subst (λ x. Fills x before.store after.store) (same_dump s reads) fills, subst (λ x. Takes before.output.bytes after.output.bytes (Restores x)) (same_dump s reads) took)
  restored Usage short e = absurd e
  restored (BadInput cause) short (why, out, kept) = by_case why where
    by_case : IsRefused IsNoDump before.input after.input cause → ⊥
    by_case (inl (e, (long, some))) = too_long left before.input.bytes after.input.bytes is long short
    by_case (inr (text, (moves, done, fits), none)) =
        is_dump left r cause dump (subst (λ t. IsNoDump t cause) (read_whole left text before.input.bytes after.input.bytes is moves done) none)
  restored (BadObjects cause) short e = absurd e
  restored ReadFault short (rose, some, out, kept) = rose
  restored WriteFault short (s, reads, fills, took, rose) = rose
  restored KeeperFault short (s, reads, rose, out, kept) = rose
  restored NoMemory short e = tt
  restored (UnknownRouter router) short e = absurd e
  restored NotEmpty short (s, reads, filled, out, kept) = none_filled before.store.rows clear filled
  restored (Damaged what) short e = absurd e
  restored (OldVersion found) short e = absurd e
  restored DoorFault short e = absurd e
  restored (BadLink code requests) short e = absurd e

pub restored_run :
    (r : Registry) (before after : Outside) (status : Option ℕ) (left : List ℕ) → before.input.bytes ≡ Some left → length left ≤ input_limit → IsDumpOf left r → before.store.rows ≡ Some empty
    → Runs (Some Restore) before after status → (end : End) × IsRestored r before after end × IsTold end before.errors after.errors status
restored_run r before after status left is short dump clear runs =
    (runs.end, restored r left before after is dump clear runs.end short runs.ends.0, runs.told)
