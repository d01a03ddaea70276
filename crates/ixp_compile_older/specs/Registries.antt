-- Registries that may be of the first version.
use Rattle.std.specs.List.{AllByRecursion}
use Rattle.ixp_registry.specs.declared.registry.Registry.{Registry}
use Rattle.ixp_rows_lines.specs.declared.version.Version.TheVariants.{One}
use Rattle.ixp_rows_lines.specs.Lines.{IsOfVersion}

-- no router has a blackhole address (RFC 7999) or a bound on communities
abbrev pub IsOlder : Registry → Type 0
IsOlder r = AllByRecursion (IsOfVersion One) r.routers
