use Rattle.std.proofs.Common.{rules, ◌≡◌, None}
use Rattle.ixp_registry.specs.Registries.{breach}
use Rattle.ixp_rows.proofs.Valid.{accepted}
use Rattle.ixp_rows.proofs.dump.read_valid.Goals as goal

pub returns-in_ok-registry_of-in-None : goal.returns-in_ok-registry_of-in-None
returns-in_ok-registry_of-in-None c =
    let none : breach c.in-Ok.rows ≡ None = search rules in
    accepted c.args.version c.args.text.now c.in-Ok.rows c.in_ok-registry_of-in-None.field-0 c.in_ok-registry_of-in-None.ensures.rows c.in-Ok.ensures.answer c.in-Ok.ensures.spelt
    c.in_ok-registry_of-in-None.ensures.lists c.in_ok-registry_of-in-None.ensures.ordered none
