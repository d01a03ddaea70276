-- The keys of items that stand in lists, in the order of a dump's lines: IPv4 first, then by value, then by
-- length and bounds.
use Rattle.std.specs.Prelude.{ℕ, List, [], ◌∷◌}
use Rattle.ixp_num.specs.AddressForms.{version_of}
use Rattle.ixp_num.specs.declared.prefix.Prefix.{Prefix}
use Rattle.ixp_num.specs.declared.pattern.Pattern.{Pattern}
use Rattle.ixp_num.specs.declared.roa.Roa.{Roa}
use Rattle.ixp_num.specs.declared.asn.Asn.{Asn}

abbrev pub prefix_key : Prefix → List ℕ
prefix_key p = version_of p.family ∷ p.value ∷ p.len ∷ []

abbrev pub pattern_key : Pattern → List ℕ
pattern_key p = version_of p.prefix.family ∷ p.prefix.value ∷ p.prefix.len ∷ p.low ∷ p.high ∷ []

abbrev pub asn_key : Asn → List ℕ
asn_key a = a.0 ∷ []

abbrev pub range_key : Asn × Asn → List ℕ
range_key r = r.0.0 ∷ r.1.0 ∷ []

abbrev pub roa_key : Roa → List ℕ
roa_key r = version_of r.prefix.family ∷ r.prefix.value ∷ r.prefix.len ∷ r.max ∷ r.asn.0 ∷ []
