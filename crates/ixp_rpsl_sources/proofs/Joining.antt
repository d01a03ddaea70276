-- What is joined with something.
use Rattle.std.proofs.Common.{◌≡◌, ℕ, ◌++◌, List, [], ◌∷◌, refl, ap, ◌∙◌, append_assoc}
use Rattle.std.proofs.lemmas.List.{append-nil}
use Rattle.ixp_rpsl_sources.specs.Said.{Said, joined, nothing}
use Rattle.ixp_rpsl_sources.specs.declared.objects.Claim.{Claim}
use Rattle.ixp_rpsl_sources.specs.declared.objects.SetObject.{SetObject}

pub parts_same : (a b : Said) → a.routes ≡ b.routes → a.sets ≡ b.sets → a.claims ≡ b.claims → a.passed ≡ b.passed → a ≡ b
parts_same a b r s c p =
    ap (λ x. record { routes = x; sets = a.sets; claims = a.claims; passed = a.passed }) r
    ∙ (ap (λ x. record { routes = b.routes; sets = x; claims = a.claims; passed = a.passed }) s
    ∙ (ap (λ x. record { routes = b.routes; sets = b.sets; claims = x; passed = a.passed }) c
    ∙ ap (λ x. record { routes = b.routes; sets = b.sets; claims = b.claims; passed = x }) p))

pub join_as : (a b c : Said) → joined (joined a b) c ≡ joined a (joined b c)
join_as a b c = parts_same (joined (joined a b) c) (joined a (joined b c))
    (append_assoc a.routes b.routes c.routes) (append_assoc a.sets b.sets c.sets) (append_assoc a.claims b.claims c.claims) (append_assoc a.passed b.passed c.passed)

pub join_nothing : (a : Said) → joined a nothing ≡ a
join_nothing a = parts_same (joined a nothing) a (append-nil a.routes) (append-nil a.sets) (append-nil a.claims) (append-nil a.passed)

pub join_claim : (a : Said) (c : Claim) → joined a (record { routes = []; sets = []; claims = c ∷ []; passed = [] }) ≡ record { routes = a.routes; sets = a.sets; claims = a.claims ++ c ∷ []; passed = a.passed }
join_claim a c = parts_same (joined a (record { routes = []; sets = []; claims = c ∷ []; passed = [] })) (record { routes = a.routes; sets = a.sets; claims = a.claims ++ c ∷ []; passed = a.passed })
    (append-nil a.routes) (append-nil a.sets) refl (append-nil a.passed)

pub join_set : (a : Said) (s : SetObject) (c : Claim) (p : List ℕ)
    → joined a (record { routes = []; sets = s ∷ []; claims = c ∷ []; passed = p }) ≡ record { routes = a.routes; sets = a.sets ++ s ∷ []; claims = a.claims ++ c ∷ []; passed = a.passed ++ p }
join_set a s c p = parts_same (joined a (record { routes = []; sets = s ∷ []; claims = c ∷ []; passed = p })) (record { routes = a.routes; sets = a.sets ++ s ∷ []; claims = a.claims ++ c ∷ []; passed = a.passed ++ p })
    (append-nil a.routes) refl refl refl
