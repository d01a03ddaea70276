use Rattle.std.proofs.Common.{ℕ, ap, ◌∙◌}
use Rattle.ixp_registry.specs.declared.lists.MemberPrefix.{MemberPrefix}
use Rattle.ixp_registry.specs.Lines.{prefixes_at}
use Rattle.ixp_registry.specs.Places.{first_heavy}
use Rattle.ixp_registry.specs.Rules.{list_weight}
use Rattle.ixp_registry_breach.proofs.weights.sessions_are_light.Goals as goal

pub returns : goal.returns
returns c =
    let w = c.args.rows.now in
    let weight : MemberPrefix → ℕ = λ p. list_weight w p.member p.prefix.family in
    c.first_heavy.ensures (list_weight w) c.in_ok-weights.ensures
    ∙ (ap (λ n. first_heavy weight 8000000 n c.as_slice-prefixes.result.now) c.prefixes_at.ensures
    ∙ ap (first_heavy weight 8000000 (prefixes_at w)) c.as_slice-prefixes.ensures.rows)
