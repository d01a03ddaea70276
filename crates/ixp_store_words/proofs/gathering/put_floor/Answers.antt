use Rattle.std.proofs.Common.{◌≡◌, List, Option, ap, ◌∙◌}
use Rattle.ixp_machine_steps.specs.declared.kept.KeptOwner.{KeptOwner}
use Rattle.ixp_machine_steps.proofs.KeptOwners.{owner_kept}
use Rattle.ixp_store_words.specs.Gathering.{all_of, with_floor, with_row}
use Rattle.ixp_store_words.proofs.Gathered.{put_back}
use Rattle.ixp_store_words.proofs.gathering.put_floor.Goals as goal

pub returns : goal.returns
returns c =
    let old : List KeptOwner = all_of c.args.gathered.now.kept c.take-current.result in
    let own : c.in_ok-row.row.owner ≡ c.args.owner = ap (λ (r : KeptOwner). r.owner) c.in_ok-row.ensures.row ∙ owner_kept old c.args.owner in
    put_back (record c.in_ok-row.row { floor = c.args.floor }) c.args.owner c.set_aside.new.kept old own c.in_ok-row.ensures.rest
    ∙ (ap (λ (r : KeptOwner). with_row c.args.owner (record r { floor = c.args.floor }) old) c.in_ok-row.ensures.row
    ∙ ap (λ (o : Option KeptOwner). with_floor c.args.owner c.args.floor (all_of c.args.gathered.now.kept o)) c.take-current.ensures.value)
