-- Prefixes of a family.
use Rattle.std.proofs.Common.{◌≡◌, true, List, [], ◌∷◌}
use Rattle.std.specs.List.{AllByRecursion, list_all}
use Rattle.std.proofs.lemmas.Bool.{and_parts}
use Rattle.ixp_num.specs.declared.family.Family.{Family}
use Rattle.ixp_num.specs.declared.prefix.Prefix.{Prefix}
use Rattle.ixp_num.specs.Families.{same_family}
use Rattle.ixp_plan.proofs.Prefixes.{one_family}

pub of_family : (f : Family) (ps : List Prefix) → list_all (λ p. same_family p.family f) ps ≡ true → AllByRecursion (λ p. p.family ≡ f) ps
of_family f [] e = tt
of_family f (p ∷ ps) e =
    let both : (same_family p.family f ≡ true) × (list_all (λ q. same_family q.family f) ps ≡ true) = and_parts (same_family p.family f) (list_all (λ q. same_family q.family f) ps) e in
    (one_family p.family f both.0, of_family f ps both.1)
