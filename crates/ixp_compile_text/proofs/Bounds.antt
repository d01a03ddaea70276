-- The greatest length of a net that a router of a valid registry takes is that of an address at most.
use Rattle.std.proofs.Common.{◌≡◌, ℕ, ◌<◌, ◌≤◌, ◌^◌, List, Some, arith, lit<}
use Rattle.std.specs.List.{AllByRecursion}
use Rattle.std.proofs.lemmas.Bool.{and_parts, leb-true}
use Rattle.ixp_num.specs.declared.family.Family.{Family}
use Rattle.ixp_num.specs.declared.family.Family.TheVariants.{V4, V6}
use Rattle.ixp_num.specs.Families.{bits_of}
use Rattle.ixp_num_tables.proofs.Looking.{all_found}
use Rattle.ixp_num_tables.proofs.Orders.{all_weaker}
use Rattle.ixp_registry.specs.declared.registry.Registry.{Registry}
use Rattle.ixp_registry.specs.declared.router.Router.{Router}
use Rattle.ixp_registry.specs.Keys.{router_key}
use Rattle.ixp_registry.specs.Valid.{Valid, ValidRouter}
use Rattle.ixp_compile_text.specs.Answers.{router_at}

of_bits : (f : Family) (n : ℕ) → n ≤ bits_of f → n < 2 ^ 8
of_bits V4 n le = let few : n < 129 = omega arith in let many : 129 < 2 ^ 8 = lit< tt in omega arith
of_bits V6 n le = let few : n < 129 = omega arith in let many : 129 < 2 ^ 8 = lit< tt in omega arith

router_fits : (q : Router) → ValidRouter q → q.high < 2 ^ 8
router_fits q kept = of_bits q.family q.high (leb-true q.high (bits_of q.family) (and_parts _ _ kept.bounds).1)

pub all_fit : (r : Registry) → Valid r → AllByRecursion (λ q. q.high < 2 ^ 8) r.routers
all_fit r valid = all_weaker ValidRouter (λ q. q.high < 2 ^ 8) router_fits r.routers valid.routers.each

pub high_fits : (r : Registry) (handle : List ℕ) (q : Router) → Valid r → router_at r handle ≡ Some q → q.high < 2 ^ 8
high_fits r handle q valid there = all_found router_key (λ q. q.high < 2 ^ 8) handle q r.routers (all_fit r valid) there
