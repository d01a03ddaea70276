use Rattle.std.proofs.Common.{◌+◌, ◌<◌, ◌^◌, arith, refl}
use Rattle.ixp_num.specs.declared.prefix.Prefix.{Prefix}
use Rattle.ixp_pfxset.proofs.Covering.{covers_from}
use Rattle.ixp_pfxset.proofs.Halves.{second_is_prefix, second_bits, fits_128}
use Rattle.ixp_pfxset.proofs.full.second_half.Goals as goal

pub overflow_add-result : goal.overflow_add-result
overflow_add-result c =
    let is = second_is_prefix c.args.n.now c.half_step-step.result c.half_step-step.ensures c.requires in
    let small : c.args.n.now.value + c.half_step-step.result < 2 ^ 128 = fits_128 c.args.n.now.family (c.args.n.now.value + c.half_step-step.result) is.1 in
    omega arith

pub invariant_of-result : goal.invariant_of-result
invariant_of-result c =
    let is = second_is_prefix c.args.n.now c.half_step-step.result c.half_step-step.ensures c.requires in
    record { short = is.0; fits = is.1; no_host_bits = is.2 }

pub returns-clause-parent : goal.returns-clause-parent
returns-clause-parent c =
    let is = second_is_prefix c.args.n.now c.half_step-step.result c.half_step-step.ensures c.requires in
    let half : Prefix = record { family = c.args.n.now.family; value = c.args.n.now.value + c.half_step-step.result; len = c.args.n.now.len + 1; short = is.0; fits = is.1; no_host_bits = is.2 } in
    (refl, covers_from c.args.n.now half (record { family = refl; len = omega arith; bits = second_bits c.args.n.now c.half_step-step.result c.half_step-step.ensures c.requires }))
