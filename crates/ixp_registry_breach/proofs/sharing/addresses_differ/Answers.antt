use Rattle.std.proofs.Common.{rules, ◌≡◌, ◌++◌, ℕ, List, map, IfOk, ap, ◌∙◌, subst}
use Rattle.ixp_registry.specs.Lines.{addresses_at}
use Rattle.ixp_registry.specs.Places.{first_beyond}
use Rattle.ixp_registry.specs.Words.{addr_numbers}
use Rattle.ixp_registry_breach.proofs.Lists.{mapped_both}
use Rattle.ixp_registry_breach.proofs.sharing.addresses_differ.Goals as goal

pub returns : goal.returns
returns c =
    let w = c.args.rows.now in
    let all : c.as_slice.result.now ≡ map (λ a. a.address.addr) w.addresses ++ map (λ r. r.addr) w.routers = search rules in
    let e = ap (map addr_numbers) all ∙ mapped_both addr_numbers (λ a. a.address.addr) (λ r. r.addr) w.addresses w.routers in
    let P : ℕ → Type 0 = λ n. IfOk c.first_beyond.result (λ place. place ≡ first_beyond 1 n (map addr_numbers c.as_slice.result.now)) in
    let Q : List (List ℕ) → Type 0 = λ ks. IfOk c.first_beyond.result (λ place. place ≡ first_beyond 1 (addresses_at w) ks) in
    subst Q e (subst P c.addresses_at.ensures c.first_beyond.ensures)
