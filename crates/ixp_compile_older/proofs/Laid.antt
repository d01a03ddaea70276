-- The text of a router without a blackhole address and a bound.
use Rattle.std.proofs.Common.{◌≡◌, ℕ, List, Some, refl, subst}
use Rattle.ixp_num_tables.specs.Tables.{find}
use Rattle.ixp_registry.specs.declared.registry.Registry.{Registry}
use Rattle.ixp_registry.specs.declared.router.Router.{Router}
use Rattle.ixp_registry.specs.Keys.{router_key}
use Rattle.ixp_registry.specs.Sessions.{Session}
use Rattle.ixp_compile.specs.Generated.{generated, header_inputs, inputs, own_part, session_part}
use Rattle.ixp_compile.specs.Header.{header}
use Rattle.ixp_compile_older.specs.Texts.{older_generated, older_header, older_own_part, older_part}
use Rattle.ixp_compile_older.specs.Registries.{IsOlder}
use Rattle.ixp_compile_older.proofs.Bare.{bare, is_bare}

module _ (r : Registry) (q : Router) where
  pub head_alike : header (header_inputs r (bare q)) ≡ older_header (header_inputs r (bare q))
  head_alike = refl

  pub part_alike : (s : Session) → session_part (inputs r (bare q) s) ≡ older_part (inputs r (bare q) s)
  part_alike s = refl

  whole_alike : generated r (bare q) ≡ older_generated r (bare q)
  whole_alike = refl

  own_alike : (s : Session) → own_part r (bare q) s ≡ older_own_part r (bare q) s
  own_alike s = refl

-- the same of a router that is there
module _ (r : Registry) (older : IsOlder r) (handle : List ℕ) (q : Router) (there : find router_key handle r.routers ≡ Some q) where
  pub whole_there : generated r q ≡ older_generated r q
  whole_there = subst (λ p. generated r p ≡ older_generated r p) (is_bare r older handle q there) (whole_alike r q)

  pub own_there : (s : Session) → own_part r q s ≡ older_own_part r q s
  own_there s = subst (λ p. own_part r p s ≡ older_own_part r p s) (is_bare r older handle q there) (own_alike r q s)
