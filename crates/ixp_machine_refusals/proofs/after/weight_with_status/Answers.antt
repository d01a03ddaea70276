use Rattle.std.proofs.Common.{[], ◌∷◌, ap, arith}
use Rattle.ixp_num_tables.specs.Tables.{find}
use Rattle.ixp_registry.specs.Keys.{member_key}
use Rattle.ixp_machine_edits.proofs.Passing.{found}
use Rattle.ixp_machine_refusals.specs.declared.change.Change.TheVariants.{Status}
use Rattle.ixp_machine_refusals.specs.declared.parts.Part.TheVariants.{OfMember}
use Rattle.ixp_machine_refusals.specs.Parts.{part_weight}
use Rattle.ixp_machine_refusals.proofs.Afters.{status_after}
use Rattle.ixp_machine_refusals.proofs.after.weight_with_status.Goals as goal

pub shifted-requires-clause-enough : goal.shifted-requires-clause-enough
shifted-requires-clause-enough c =
    let r = c.args.registry.now in
    let m = found (find member_key (c.args.member ∷ []) r.members) c.requires.there in
    let e = status_after r c.args.member c.args.to m.0 m.1 in
    let is = ap (λ b. part_weight r (Status (record { member = c.args.member; connected = b })) (OfMember c.args.member) r.interfaces) c.is_connected-connected.ensures in
    let was = c.requires.weight in
    omega (arith, e, is, was)

pub returns : goal.returns
returns c =
    let r = c.args.registry.now in
    let m = found (find member_key (c.args.member ∷ []) r.members) c.requires.there in
    let e = status_after r c.args.member c.args.to m.0 m.1 in
    let is = ap (λ b. part_weight r (Status (record { member = c.args.member; connected = b })) (OfMember c.args.member) r.interfaces) c.is_connected-connected.ensures in
    let was = c.requires.weight in
    let done = c.shifted.ensures in
    omega (arith, e, is, was, done)
