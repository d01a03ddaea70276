-- Prefixes, patterns and ROAs whose parts are the same are the same.
use Rattle.std.proofs.Common.{◌≡◌, ℕ, refl, ap, ◌∙◌}
use Rattle.ixp_num.specs.declared.family.Family.{Family}
use Rattle.ixp_num.specs.declared.family.Family.TheVariants.{V4, V6}
use Rattle.ixp_num.specs.declared.prefix.Prefix.{Prefix}
use Rattle.ixp_num.specs.declared.pattern.Pattern.{Pattern}
use Rattle.ixp_num.specs.declared.asn.Asn.{Asn}
use Rattle.ixp_num.specs.declared.roa.Roa.{Roa}
use Rattle.ixp_num.specs.AddressForms.{version_of}
use Rattle.ixp_num.proofs.OneAnswer.{prefix_same}

pub family_same : (f g : Family) → version_of f ≡ version_of g → f ≡ g
family_same V4 V4 e = refl
family_same V4 V6 e = absurd (let bad : ⊥ = cc in bad)
family_same V6 V4 e = absurd (let bad : ⊥ = cc in bad)
family_same V6 V6 e = refl

pub one_prefix : (p q : Prefix) → p.family ≡ q.family → p.value ≡ q.value → p.len ≡ q.len → p ≡ q
one_prefix p q family value len = prefix_same p q 0 0 0 0 (cc)

abbrev pattern_with : Prefix → ℕ → ℕ → Pattern
pattern_with p low high = record { prefix = p; low = low; high = high }

pub one_pattern : (s t : Pattern) → s.prefix ≡ t.prefix → s.low ≡ t.low → s.high ≡ t.high → s ≡ t
one_pattern s t prefix low high =
    ap (λ p. pattern_with p s.low s.high) prefix ∙ (ap (λ n. pattern_with t.prefix n s.high) low ∙ ap (λ n. pattern_with t.prefix t.low n) high)

abbrev asn_with : ℕ → Asn
asn_with n = record { 0 = n }

pub one_asn : (a b : Asn) → a.0 ≡ b.0 → a ≡ b
one_asn a b n = ap asn_with n

abbrev roa_with : Prefix → ℕ → ℕ → Roa
roa_with p max asn = record { prefix = p; max = max; asn = record { 0 = asn } }

pub one_roa : (r s : Roa) → r.prefix ≡ s.prefix → r.max ≡ s.max → r.asn.0 ≡ s.asn.0 → r ≡ s
one_roa r s prefix max asn =
    ap (λ p. roa_with p r.max r.asn.0) prefix ∙ (ap (λ m. roa_with s.prefix m r.asn.0) max ∙ ap (λ a. roa_with s.prefix s.max a) asn)
