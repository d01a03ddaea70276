use Rattle.std.proofs.Common.{arith}
use Rattle.ixp_registry_demo.proofs.Places.{host_value, net_value}
use Rattle.ixp_registry_demo.proofs.laws.no_address_is_cut.Goals as goal

pub returns : goal.returns
returns c = record { hosts = host_value; nets = λ k j few place. let e = net_value k j few place in omega (arith, e) }
