use Rattle.std.proofs.Common.{rules, ◌≡◌, ap, arith, sym, ◌∙◌}
use Rattle.ixp_num_tables.specs.Tables.{put}
use Rattle.ixp_registry.specs.Keys.{member_key}
use Rattle.ixp_registry.specs.Lookups.{is_connected, is_member_connected}
use Rattle.ixp_machine_refusals.specs.declared.change.Change.TheVariants.{Status}
use Rattle.ixp_machine_refusals.specs.declared.parts.Part.TheVariants.{OfMember}
use Rattle.ixp_machine_refusals.specs.Parts.{part_weight}
use Rattle.ixp_machine_refusals.proofs.Afters.{members_after}
use Rattle.ixp_machine_refusals.proofs.Lookings.{connected_put}
use Rattle.ixp_machine_refusals.proofs.Weighing.{member_weighs_same}
use Rattle.ixp_machine_refusals.proofs.by_change.with_member.Goals as goal

pub returns-then-is_member_connected-connected : goal.returns-then-is_member_connected-connected
returns-then-is_member_connected-connected c =
    let same : is_member_connected c.args.registry.now.members c.args.row.now.number ≡ is_connected c.args.row.now.status = search rules in
    c.requires.weight ∙ sym (member_weighs_same c.args.registry.now c.args.row.now same)

pub shifted-requires-clause-enough : goal.shifted-requires-clause-enough
shifted-requires-clause-enough c =
    let r = c.args.registry.now in
    let m = c.args.row.now in
    let e = members_after r (put member_key m r.members) m.number (is_connected m.status) (λ n. connected_put m r.members n) in
    let is = ap (λ b. part_weight r (Status (record { member = m.number; connected = b })) (OfMember m.number) r.interfaces) c.is_connected-connected.ensures in
    let was = c.requires.weight in
    omega (arith, e, is, was)

pub returns : goal.returns
returns c =
    let r = c.args.registry.now in
    let m = c.args.row.now in
    let e = members_after r (put member_key m r.members) m.number (is_connected m.status) (λ n. connected_put m r.members n) in
    let is = ap (λ b. part_weight r (Status (record { member = m.number; connected = b })) (OfMember m.number) r.interfaces) c.is_connected-connected.ensures in
    let was = c.requires.weight in
    let done = c.shifted.ensures in
    omega (arith, e, is, was, done)
