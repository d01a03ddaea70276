use Rattle.std.proofs.Common.{◌≡◌, ◌<◌, ◌+◌, ◌^◌, length, option_map}
use Rattle.std.specs.List.{position}
use Rattle.ixp_registry.specs.declared.refusal.Refusal.TheVariants.{BadRule}
use Rattle.ixp_machine_edits.specs.Lists.{is_bad}
use Rattle.ixp_machine_refusals.proofs.lists.bad_rule.Given as goal

abbrev pub invariant-each : goal.invariant-each
invariant-each l = record {
  found : option_map (λ i. BadRule (i + l.place)) (position is_bad l.left) ≡ option_map (λ i. BadRule (i + 1)) (position is_bad l.fn.rules);
  few : l.place + length l.left < 2 ^ 32;
}

abbrev pub decreases-each : goal.decreases-each
decreases-each l = length l.left
