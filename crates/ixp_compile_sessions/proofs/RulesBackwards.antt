-- A member's advertise rules are written from the last one on.
use Rattle.std.proofs.Common.{◌≡◌, ℕ, Bool, true, false, List, [], ◌∷◌, ◌++◌, filter, flat_map, reverse, if◌then◌else◌, refl, ap, ◌∙◌}
use Rattle.std.proofs.lemmas.List.{reverse-append}
use Rattle.std.proofs.lemmas.List.Elements.{filter-append}
use Rattle.ixp_num.specs.declared.family.Family.{Family}
use Rattle.ixp_registry.specs.declared.rules.MemberRule.{MemberRule}
use Rattle.ixp_compile.specs.MemberRules.{advertise_rule, advertise_rules, is_printed}

last_of : (rs : ℕ) (rule : MemberRule) (b : Bool) (kept : List MemberRule)
    → flat_map (advertise_rule rs) (reverse (if b then rule ∷ [] else []) ++ kept)
    ≡ (if b then advertise_rule rs rule ++ flat_map (advertise_rule rs) kept else flat_map (advertise_rule rs) kept)
last_of rs rule true kept = refl
last_of rs rule false kept = refl

one_rule : (rs : ℕ) (family : Family) (rule : MemberRule) (b : Bool) → is_printed rs family rule ≡ b
    → filter (is_printed rs family) (rule ∷ []) ≡ (if b then rule ∷ [] else [])
one_rule rs family rule true e = rw e refl
one_rule rs family rule false e = rw e refl

-- the rules with one more behind them
pub backwards : (rs : ℕ) (family : Family) (earlier : List MemberRule) (rule : MemberRule)
    → advertise_rules rs family (earlier ++ rule ∷ [])
    ≡ (if is_printed rs family rule then advertise_rule rs rule ++ advertise_rules rs family earlier else advertise_rules rs family earlier)
backwards rs family earlier rule =
    ap (λ (rules : List MemberRule). flat_map (advertise_rule rs) (reverse rules)) (filter-append (is_printed rs family) earlier (rule ∷ []))
    ∙ ap (flat_map (advertise_rule rs)) (reverse-append (filter (is_printed rs family) earlier) (filter (is_printed rs family) (rule ∷ [])))
    ∙ ap (λ (last : List MemberRule). flat_map (advertise_rule rs) (reverse last ++ reverse (filter (is_printed rs family) earlier)))
    (one_rule rs family rule (is_printed rs family rule) refl)
    ∙ last_of rs rule (is_printed rs family rule) (reverse (filter (is_printed rs family) earlier))
