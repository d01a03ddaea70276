use Rattle.std.proofs.Common.{◌≡◌, ℕ, List, [], ◌∷◌, ◌++◌, length, arith, rules, refl, sym, ap, ◌∙◌, append_assoc, append-nil}
use Rattle.ixp_registry.specs.declared.network.Interface.{Interface}
use Rattle.ixp_compile_text.specs.Sessions.{part_text, sessions_text}
use Rattle.ixp_compile_text.proofs.SessionTexts.{none_more, one_more}
use Rattle.ixp_compile_text.proofs.texts.put_sessions.Goals as goal

pub each-preserved : goal.each-preserved
each-preserved c =
    let r = c.args.registry.now in
    let q = c.args.router.now in
    let left : c.each.left.now ≡ c.in-Some.interface.now ∷ c.in-Some.others.now = search rules in
    ap (λ (t : List ℕ). t ++ sessions_text r q c.in-Some.others.now) c.in_ok-put_session.ensures.part
    ∙ append_assoc c.each.out.items (part_text r q c.in-Some.interface.now) (sessions_text r q c.in-Some.others.now)
    ∙ ap (λ (t : List ℕ). c.each.out.items ++ t) (sym (one_more r q c.in-Some.interface.now c.in-Some.others.now))
    ∙ ap (λ (is : List Interface). c.each.out.items ++ sessions_text r q is) (sym left)
    ∙ c.each.invariant

no_rows : (is : List Interface) → length is ≡ 0 → is ≡ []
no_rows [] e = refl
no_rows (i ∷ is) e = absurd (let bad : ⊥ = omega arith in bad)

pub returns : goal.returns
returns c =
    let r = c.args.registry.now in
    let q = c.args.router.now in
    let done : c.each.left.now ≡ [] = no_rows c.each.left.now c.in_default.ensures.cases in
    sym (append-nil c.each.out.items)
    ∙ ap (λ (t : List ℕ). c.each.out.items ++ t) (sym (none_more r q))
    ∙ ap (λ (is : List Interface). c.each.out.items ++ sessions_text r q is) (sym done)
    ∙ c.each.invariant
