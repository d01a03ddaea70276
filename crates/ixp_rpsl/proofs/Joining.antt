-- What is joined with something.
use Rattle.std.proofs.Common.{◌≡◌, ℕ, ◌++◌, [], ◌∷◌, Option, None, refl, ap, ◌∙◌, append_assoc}
use Rattle.std.proofs.lemmas.List.{append-nil}
use Rattle.ixp_num.specs.declared.asn.Asn.{Asn}
use Rattle.ixp_num.specs.declared.prefix.Prefix.{Prefix}
use Rattle.ixp_rpsl.specs.Attributes.{earlier}
use Rattle.ixp_rpsl.specs.Objects.{at_fault, joined}
use Rattle.ixp_rpsl.specs.declared.found.Found.{Found}
use Rattle.ixp_rpsl.specs.declared.objects.SetRow.{SetRow}
use Rattle.ixp_rpsl.proofs.Gathering.{earlier_as, earlier_none}

parts_same : (a b : Found) → a.routes ≡ b.routes → a.sets ≡ b.sets → a.fault ≡ b.fault → a ≡ b
parts_same a b r s f = ap (λ x. record { routes = x; sets = a.sets; fault = a.fault }) r ∙ (ap (λ x. record { routes = b.routes; sets = x; fault = a.fault }) s ∙ ap (λ x. record { routes = b.routes; sets = b.sets; fault = x }) f)

pub join_as : (a b c : Found) → joined (joined a b) c ≡ joined a (joined b c)
join_as a b c = parts_same (joined (joined a b) c) (joined a (joined b c)) (append_assoc a.routes b.routes c.routes) (append_assoc a.sets b.sets c.sets) (earlier_as a.fault b.fault c.fault)

pub join_nothing : (a : Found) → joined a (at_fault None) ≡ a
join_nothing a = parts_same (joined a (at_fault None)) a (append-nil a.routes) (append-nil a.sets) (earlier_none a.fault)

pub join_fault : (a : Found) (line : Option ℕ) → joined a (at_fault line) ≡ record { routes = a.routes; sets = a.sets; fault = earlier a.fault line }
join_fault a line = parts_same (joined a (at_fault line)) (record { routes = a.routes; sets = a.sets; fault = earlier a.fault line }) (append-nil a.routes) (append-nil a.sets) refl

pub join_route : (a : Found) (r : Prefix × Asn) → joined a (record { routes = r ∷ []; sets = []; fault = None }) ≡ record { routes = a.routes ++ r ∷ []; sets = a.sets; fault = a.fault }
join_route a r = parts_same (joined a (record { routes = r ∷ []; sets = []; fault = None })) (record { routes = a.routes ++ r ∷ []; sets = a.sets; fault = a.fault }) refl (append-nil a.sets) (earlier_none a.fault)

pub join_set : (a : Found) (s : SetRow) → joined a (record { routes = []; sets = s ∷ []; fault = None }) ≡ record { routes = a.routes; sets = a.sets ++ s ∷ []; fault = a.fault }
join_set a s = parts_same (joined a (record { routes = []; sets = s ∷ []; fault = None })) (record { routes = a.routes; sets = a.sets ++ s ∷ []; fault = a.fault }) (append-nil a.routes) refl (earlier_none a.fault)
