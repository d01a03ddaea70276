use Rattle.std.proofs.Common.{rules, ◌≡◌, List, None, ap, ◌∙◌}
use Rattle.ixp_num_tables.specs.Tables.{put, without}
use Rattle.ixp_num_tables.proofs.TableLaws.{without-put}
use Rattle.ixp_registry.specs.Words.{owner_numbers}
use Rattle.ixp_machine_steps.specs.declared.kept.KeptOwner.{KeptOwner}
use Rattle.ixp_machine_steps.specs.Kept.{kept_owner_key}
use Rattle.ixp_machine.proofs.keeping.carry_new.Goals as goal

pub returns-in-Err-clause-no_row : goal.returns-in-Err-clause-no_row
returns-in-Err-clause-no_row g c =
    let ks = c.args.kept.now in
    let row : KeptOwner = record { owner = c.args.prepared.owner; floor = 0; numbers = c.put.new.self } in
    let now : c.put-2.new.self ≡ put kept_owner_key row ks = search rules in
    c.take_out.ensures ∙ (ap (without kept_owner_key (owner_numbers c.args.prepared.owner)) now ∙ without-put kept_owner_key row ks c.requires)
