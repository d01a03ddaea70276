use Rattle.std.proofs.Common.{◌≡◌, ℕ, List, ◌∷◌, Option, refl, ap, ◌∙◌}
use Rattle.ixp_registry.specs.Registries.{first_rule}
use Rattle.ixp_registry_breach.proofs.first_breach.Goals as goal

both : {a b : Option ℕ} {xs ys : List (Option ℕ)} → a ≡ b → xs ≡ ys → a ∷ xs ≡ b ∷ ys
both {a = a} {ys = ys} e es = ap (λ l. a ∷ l) es ∙ ap (λ x. x ∷ ys) e

pub returns : goal.returns
returns c =
    c.first_rule.ensures
    ∙ ap (first_rule 1)
    (both c.in_ok-numbers.ensures (both c.rule_2.ensures (both c.rule_3.ensures (both c.rule_4.ensures (both c.rule_5.ensures
    (both c.rule_6.ensures (both c.in_ok-sharing.ensures (both c.rule_8.ensures (both c.rule_9.ensures (both c.rule_10.ensures
    (both c.rule_11.ensures (both c.rule_12.ensures (both c.in_ok-limits.ensures (both c.rule_14.ensures
    (both c.rule_15.ensures refl)))))))))))))))
