use Rattle.std.proofs.Common.{rules, ◌≡◌, ℕ, List, None, sym, ap, ◌∙◌}
use Rattle.ixp_num_tables.specs.Tables.{find}
use Rattle.ixp_num_tables.proofs.TableLaws.{without-absent}
use Rattle.ixp_registry.specs.declared.router.Router.{Router}
use Rattle.ixp_registry.specs.Keys.{router_key}
use Rattle.ixp_registry.specs.Weight.{weight}
use Rattle.ixp_registry_change.specs.declared.change.TableChange.{TableChange}
use Rattle.ixp_registry_change.specs.Changes.{changed_rows}
use Rattle.ixp_machine_refusals.proofs.by_change.in_routers.Goals as goal

pub returns-in-None : goal.returns-in-None
returns-in-None c =
    let r = c.args.registry.now in
    let i = c.in-Take in
    let none : find router_key i.handle r.routers ≡ None = search rules in
    c.requires.weight
    ∙ (ap (λ xs. weight r.members r.interfaces xs r.irr) (sym (without-absent router_key i.handle r.routers none))
    ∙ ap (λ (x : TableChange Router (List ℕ)). weight r.members r.interfaces (changed_rows router_key (λ k. k) x r.routers) r.irr) (sym i.is))
