use Rattle.std.proofs.Common.{◌≡◌, List, Option, ap, ◌∙◌}
use Rattle.ixp_machine_steps.specs.declared.kept.KeptNumber.{KeptNumber}
use Rattle.ixp_machine_steps.specs.declared.kept.KeptOwner.{KeptOwner}
use Rattle.ixp_machine_steps.specs.Kept.{kept_key}
use Rattle.ixp_machine_steps.proofs.KeptOwners.{owner_kept}
use Rattle.ixp_num_tables.specs.Tables.{put}
use Rattle.ixp_store_words.specs.Gathering.{all_of, with_number, with_row}
use Rattle.ixp_store_words.proofs.Gathered.{put_back}
use Rattle.ixp_store_words.proofs.gathering.put_kept.Goals as goal

pub returns : goal.returns
returns c =
    let old : List KeptOwner = all_of c.args.gathered.now.kept c.take-current.result in
    let own : c.in_ok-row.row.owner ≡ c.args.owner = ap (λ (r : KeptOwner). r.owner) c.in_ok-row.ensures.row ∙ owner_kept old c.args.owner in
    ap (λ (ns : List KeptNumber). with_row c.in_ok-row.row.owner (record c.in_ok-row.row { numbers = ns }) c.set_aside.new.kept) c.in_ok-put.ensures.ok
    ∙ (put_back (record c.in_ok-row.row { numbers = put kept_key c.args.number c.in_ok-row.row.numbers }) c.args.owner c.set_aside.new.kept old own c.in_ok-row.ensures.rest
    ∙ (ap (λ (r : KeptOwner). with_row c.args.owner (record r { numbers = put kept_key c.args.number r.numbers }) old) c.in_ok-row.ensures.row
    ∙ ap (λ (o : Option KeptOwner). with_number c.args.owner c.args.number (all_of c.args.gathered.now.kept o)) c.take-current.ensures.value))
