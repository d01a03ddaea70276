-- What is told of a registry, before its texts are asked, and by which texts.
use Rattle.std.proofs.Common.{◌≡◌, ℕ, List, true, false, is_some, if◌then◌else◌, Option, Some, None, Result, Ok, Err, Vec, refl, sym, ap, ◌∙◌, subst}
use Rattle.std.specs.declared.alloc.Global.{Global}
use Rattle.ixp_num.specs.declared.family.Family.{Family}
use Rattle.ixp_num.specs.Families.{same_family}
use Rattle.ixp_num.specs.declared.family.Family.TheVariants.{V4, V6}
use Rattle.ixp_num_tables.specs.Tables.{find, if_there}
use Rattle.ixp_registry.specs.declared.registry.Registry.{Registry}
use Rattle.ixp_registry.specs.declared.router.Router.{Router}
use Rattle.ixp_registry.specs.Keys.{router_key}
use Rattle.ixp_registry.specs.Sessions.{Session, session}
use Rattle.ixp_lang.specs.declared.route.Route.{Route}
use Rattle.ixp_compile.specs.Generated.{own_part}
use Rattle.ixp_compile_text.specs.declared.fault.GenFault.TheVariants.{NoRouter, NoSession}
use Rattle.ixp_compile_text.specs.Answers.{Prints, part_at}
use Rattle.ixp_compile_laws.specs.Right.{Gen, Part}
use Rattle.ixp_compile_laws.specs.Texts.{IsTextOf}
use Rattle.ixp_explain.specs.Answers.{IsFaulty}
use Rattle.ixp_lang.specs.Faults.{CallFault}
use Rattle.ixp_registry.specs.declared.refusal.Refusal.TheVariants as refusal
use Rattle.ixp_explain_member.specs.declared.explanation.Explanation.TheVariants as explanation
use Rattle.ixp_explain_member.specs.Explanations.{told_by}

pub same_families : (f g : Family) → same_family f g ≡ true → g ≡ f
same_families V4 V4 e = refl
same_families V6 V6 e = refl
same_families V4 V6 e = let bad : ⊥ = cc in absurd bad
same_families V6 V4 e = let bad : ⊥ = cc in absurd bad

-- where something is told, nothing is at fault
pub never_faulty : {A : Type 0} (y : A) (o : Option CallFault) → IsFaulty {A = A} o (Ok y) → ⊥
never_faulty y None e = e
never_faulty y (Some f) e = cc

-- the text that is found is that of the router which is there
pub text_is : (r : Registry) (handle text : List ℕ) (router : Router) → find router_key handle r.routers ≡ Some router → IsTextOf r handle (Some text) → text ≡ Gen r router
text_is r handle text router there (q, found, is) =
    let same : ◌≡◌ {A = Option Router} (Some q) (Some router) = sym found ∙ there in
    let one : q ≡ router = cc in
    is ∙ ap (λ p. Gen r p) one

pub text_found : (r : Registry) (handle : List ℕ) (router : Router) → find router_key handle r.routers ≡ Some router → IsTextOf r handle None → ⊥
text_found r handle router there away = let bad : ◌≡◌ {A = Option Router} (Some router) None = sym there ∙ away in cc

-- the own text of a session that is there
pub part_text : (r : Registry) (handle : List ℕ) (router : Router) (n : ℕ) (s : Session) (text : Vec ℕ Global) → find router_key handle r.routers ≡ Some router → session r router n ≡ Some s
    → Prints (part_at r handle n) (Ok text) → text.items ≡ Part r router s
part_text r handle router n s text there its prints =
    subst (λ o. Prints (if_there o (Err NoSession) (λ x. Ok (own_part r router x))) (Ok text)) its
    (subst (λ o. Prints (if_there o (Err NoRouter) (λ q. if_there (session r q n) (Err NoSession) (λ x. Ok (own_part r q x)))) (Ok text)) there prints)

-- a session that is there
pub the_session : (o : Option Session) → is_some o ≡ true → (s : Session) × (o ≡ Some s)
the_session None is = absurd (let bad : ⊥ = cc in bad)
the_session (Some s) is = (s, refl)

-- what is told, where there is no session, and where the route is of the other family
pub told_no_session : (says : Session → List ℕ) (router : Router) (route : Route) (o : Option Session) → is_some o ≡ false → explanation.NoSession ≡ told_by says router route o
told_no_session says router route None is = refl
told_no_session says router route (Some s) is = absurd (let bad : ⊥ = cc in bad)

pub told_family : (says : Session → List ℕ) (router : Router) (route : Route) (o : Option Session) → is_some o ≡ true → same_family router.family route.net.family ≡ false
    → explanation.Refused (refusal.Family router.family) ≡ told_by says router route o
told_family says router route None is other = absurd (let bad : ⊥ = cc in bad)
told_family says router route (Some s) is other =
    sym (ap (λ b. if b then explanation.Text (says s) else explanation.Refused (refusal.Family router.family)) other)
