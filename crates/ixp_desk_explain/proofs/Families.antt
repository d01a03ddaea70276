-- The family of a session's router, by what is told of a route.
use Rattle.std.proofs.Common.{◌≡◌, ℕ, Bool, true, false, List, [], ◌∷◌, if◌then◌else◌, Result, Ok, Err, IfOk, refl, ◌∙◌, subst}
use Rattle.std.specs.declared.alloc.AllocError.{AllocError}
use Rattle.ixp_num.specs.declared.family.Family.{Family}
use Rattle.ixp_num.specs.Families.{same_family}
use Rattle.ixp_lang.specs.declared.route.Route.{Route}
use Rattle.ixp_registry.specs.declared.refusal.Refusal.TheVariants as refusal
use Rattle.ixp_registry.specs.declared.router.Router.{Router}
use Rattle.ixp_explain_member.specs.declared.explanation.Explanation.{Explanation}
use Rattle.ixp_explain_member.specs.declared.explanation.Explanation.TheVariants as explanation
use Rattle.ixp_explain_member.proofs.Explaining.{same_families}
use Rattle.ixp_glass_holds.specs.declared.fault.HoldFault.{HoldFault}
use Rattle.ixp_glass_holds.specs.declared.fault.HoldFault.TheVariants as hold
use Rattle.ixp_glass_holds.specs.Calls.{MakesHold, hold_of, Log as HoldLog}
use Rattle.ixp_desk_explain.specs.Glass.{IsFamilyFor, ToldFamily}

by_test : (b : Bool) (text : List ℕ) (router : Router) (route : Route) (e : Explanation) (f : Family) → same_family router.family route.net.family ≡ b
    → e ≡ (if b then explanation.Text text else explanation.Refused (refusal.Family router.family)) → ToldFamily (Ok e) route (Ok f) → f ≡ router.family
by_test true text router route e f same is told =
    let by_text : f ≡ route.net.family = subst (λ x. ToldFamily (Ok x) route (Ok f)) is told in
    by_text ∙ same_families router.family route.net.family same
by_test false text router route e f same is told = subst (λ x. ToldFamily (Ok x) route (Ok f)) is told

-- what is told of the route, where it is the router's session
family_of : (text : List ℕ) (router : Router) (route : Route) (e : Explanation) (f : Family)
    → e ≡ (if same_family router.family route.net.family then explanation.Text text else explanation.Refused (refusal.Family router.family)) → ToldFamily (Ok e) route (Ok f) → f ≡ router.family
family_of text router route e f is told = by_test (same_family router.family route.net.family) text router route e f refl is told

for_any : (routes : List Route) (router : Router) (f : Family) → f ≡ router.family → IsFamilyFor routes router f
for_any [] router f is = tt
for_any (r ∷ rs) router f is = is

pub family_if : (routes : List Route) (text : List ℕ) (router : Router) (route : Route) (told : Result Explanation AllocError) (result : Result Family AllocError)
    → IfOk told (λ e. e ≡ (if same_family router.family route.net.family then explanation.Text text else explanation.Refused (refusal.Family router.family))) → ToldFamily told route result
    → IfOk result (IsFamilyFor routes router)
family_if routes text router route (Ok e) (Ok f) is told = for_any routes router f (family_of text router route e f is told)
family_if routes text router route (Err x) (Ok f) is told = absurd told
family_if routes text router route told (Err x) is answer = tt

-- Without routes no family refuses anything.
pub makes_for : (routes : List Route) (router : Router) (f : Family) (handle : List ℕ) (n : ℕ) (r : Result (Unit {0}) HoldFault) (g h : HoldLog) → IsFamilyFor routes router f
    → MakesHold f (hold_of handle n routes) r g h → MakesHold router.family (hold_of handle n routes) r g h
makes_for [] router f handle n (Ok done) g h is makes = makes
makes_for [] router f handle n (Err (hold.TooMany have limit)) g h is makes = makes
makes_for [] router f handle n (Err (hold.Family place)) g h is makes = makes
makes_for [] router f handle n (Err hold.NoMemory) g h is makes = makes
makes_for (q ∷ qs) router f handle n r g h is makes = subst (λ x. MakesHold x (hold_of handle n (q ∷ qs)) r g h) is makes
