-- A router of the first version is itself without a blackhole address and a bound, so that today's definitions
-- compute at it.
use Rattle.std.proofs.Common.{◌≡◌, List, ℕ, Some, None, sym}
use Rattle.ixp_num_tables.specs.Tables.{find}
use Rattle.ixp_num_tables.proofs.Looking.{all_found}
use Rattle.ixp_registry.specs.declared.registry.Registry.{Registry}
use Rattle.ixp_registry.specs.declared.router.Router.{Router}
use Rattle.ixp_registry.specs.Keys.{router_key}
use Rattle.ixp_rows_lines.specs.declared.version.Version.TheVariants.{One}
use Rattle.ixp_rows_lines.specs.Lines.{IsOfVersion}
use Rattle.ixp_compile_older.specs.Registries.{IsOlder}

abbrev pub bare : Router → Router
bare q = record q { blackhole = None; max_comms = 0 }

pub is_bare : (r : Registry) → IsOlder r → (handle : List ℕ) (q : Router) → find router_key handle r.routers ≡ Some q → bare q ≡ q
is_bare r older handle q there =
    let of : IsOfVersion One q = all_found router_key (IsOfVersion One) handle q r.routers older there in
    λ i. record q { blackhole = sym of.0 i; max_comms = sym of.1 i }
