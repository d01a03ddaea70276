-- The first state of a registry.
use Rattle.std.specs.Prelude.{[]}
use Rattle.ixp_machine_edits.specs.Lists.{prefixes_in}
use Rattle.ixp_registry.specs.declared.registry.Registry.{Registry}
use Rattle.ixp_machine_steps.specs.declared.state.State.{State}
use Rattle.ixp_registry.specs.Weight.{weight_of}

-- nothing is kept of requests, none was accepted, and the counts are those of the rows
abbrev pub first_state : Registry → State
first_state r =
    record { registry = r; kept = []; accepted = 0; weight = weight_of r; prefixes = prefixes_in r.irr }
