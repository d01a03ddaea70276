-- What ROAs say of a route (RFC 6811 section 2).
use Rattle.std.specs.Prelude.{ℕ, Bool, List, ◌&&◌, ◌==◌, nat_le, not, if◌then◌else◌}
use Rattle.std.specs.List.{list_any}
use Rattle.ixp_num.specs.declared.prefix.Prefix.{Prefix}
use Rattle.ixp_num.specs.declared.roa.Roa.{Roa}
use Rattle.ixp_num.specs.declared.roa.Validity.{Validity}
use Rattle.ixp_num.specs.declared.roa.Validity.TheVariants.{Valid, Invalid, Unknown}
use Rattle.ixp_num.specs.Prefixes.{covers}

-- a ROA covers the route's prefix
abbrev pub is_covered : List Roa → Prefix → Bool
is_covered roas net = list_any (λ r. covers r.prefix net) roas

-- a ROA matches the route: it covers the prefix, is long enough, and has the origin, which isn't AS 0 (RFC
-- 7607)
abbrev pub is_matched : List Roa → Prefix → ℕ → Bool
is_matched roas net origin = list_any (λ r. covers r.prefix net && nat_le net.len r.max && r.asn.0 == origin && not (origin == 0)) roas

-- Valid where a ROA matches, else Invalid where one covers, else Unknown
abbrev pub validity : List Roa → Prefix → ℕ → Validity
validity roas net origin = if is_matched roas net origin then Valid else (if is_covered roas net then Invalid else Unknown)
