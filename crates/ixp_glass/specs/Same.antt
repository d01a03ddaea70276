-- Whether routes and ROAs are the same, part by part.
use Rattle.std.specs.Prelude.{ℕ, Bool, ◌&&◌, ◌==◌}
use Rattle.std.specs.Cmp.Lexicographic.{pointwise}
use Rattle.ixp_num.specs.declared.asn.Asn.{Asn}
use Rattle.ixp_num.specs.declared.roa.Roa.{Roa}
use Rattle.ixp_num.specs.Prefixes.{same_addr, same_prefix}
use Rattle.ixp_lang.specs.declared.route.Route.{Route}

abbrev pub same_asn : Asn → Asn → Bool
same_asn a b = a.0 == b.0

abbrev pub same_pair : ℕ × ℕ → ℕ × ℕ → Bool
same_pair a b = a.0 == b.0 && a.1 == b.1

abbrev pub same_triple : ℕ × ℕ × ℕ → ℕ × ℕ × ℕ → Bool
same_triple a b = a.0 == b.0 && a.1 == b.1 && a.2 == b.2

abbrev pub same_roa : Roa → Roa → Bool
same_roa a b = same_prefix a.prefix b.prefix && a.max == b.max && a.asn.0 == b.asn.0

abbrev pub same_route : Route → Route → Bool
same_route a b =
    same_prefix a.net b.net && same_addr a.next_hop b.next_hop && pointwise same_asn a.path b.path
    && pointwise same_pair a.pairs b.pairs
    && pointwise same_triple a.triples b.triples
