-- What is kept of an owner's requests, while an edit is made. Nobody needs to believe this: it serves proofs.
use Rattle.std.specs.Prelude.{length, nat_le, if◌then◌else◌}
use Rattle.ixp_num_tables.specs.Tables.{put}
use Rattle.ixp_machine_steps.specs.declared.kept.KeptNumber.{KeptNumber}
use Rattle.ixp_machine_steps.specs.declared.kept.KeptOwner.{KeptOwner}
use Rattle.ixp_machine_steps.specs.Kept.{kept_key, without_least}

-- with one number more, which may be one too many
abbrev pub with_number : KeptNumber → KeptOwner → KeptOwner
with_number k o = record o { numbers = put kept_key k o.numbers }

-- without the least number where there are more than 1,024
abbrev pub trimmed : KeptOwner → KeptOwner
trimmed o = if nat_le (length o.numbers) 1024 then o else without_least o o.numbers
