-- What a glass keeps.
use Rattle.std.proofs.Common.{◌≡◌, ◌≤◌, ◌<◌, ◌+◌, ◌==◌, ◌&&◌, ℕ, Bool, true, false, not, List, [], ◌∷◌, ◌++◌, length, take, get_or, refl, ap, sym, ◌∙◌, subst, arith, ◌⊎◌, inl, inr}
use Rattle.std.specs.List.{AllByRecursion, Contains}
use Rattle.std.proofs.lemmas.Bool.Decides.{Decides-eqb}
use Rattle.std.proofs.lemmas.List.{length-take, take_all, take_more}
use Rattle.std.proofs.lemmas.List.Elements.{All-contains, All-filter, All-from_recursion, All-take, Contains-push_cases, filter-append, recursion_from_All}
use Rattle.ixp_num_tables.specs.Tables.{same}
use Rattle.ixp_num_tables.proofs.Counts.{same_is, same_itself}
use Rattle.ixp_num.specs.declared.roa.Roa.{Roa}
use Rattle.ixp_lang.specs.declared.route.Route.{Route}
use Rattle.ixp_glass.specs.declared.kept.KeptReports.{KeptReports}
use Rattle.ixp_glass.specs.declared.kept.TheConstants.{MOST_KEPT}
use Rattle.ixp_glass.specs.Kept.{AreKept, IsRight, is_of, made_from, others, with_newest}
use Rattle.ixp_glass.specs.Reports.{AreReports}

-- whose reports they are
of_both : (a b : Bool) → (a && b) ≡ true → (a ≡ true) × (b ≡ true)
of_both true true e = (refl, refl)
of_both true false e = absurd (let bad : ⊥ = cc in bad)
of_both false b e = absurd (let bad : ⊥ = cc in bad)

both_of : (a b : Bool) → a ≡ true → b ≡ true → (a && b) ≡ true
both_of a b p q = subst (λ x. (x && b) ≡ true) (sym p) q

pub not_both : (b : Bool) → b ≡ false → b ≡ true → ⊥
not_both b p q = let bad : false ≡ true = sym p ∙ q in cc

module _ (router : List ℕ) (interface : ℕ) (routes : List Route) (text : List ℕ) (roas : List Roa) (k : KeptReports) where
  abbrev Made : Type 0
  Made = k ≡ made_from router interface routes text roas k.reports

  -- reports that aren't the session's were not made for it
  pub of_others : is_of router interface k ≡ false → Made → ⊥
  of_others un made =
      let routers = both_of (same k.router router) (k.interface == interface)
      (subst (λ (h : List ℕ). same h router ≡ true) (sym (ap (λ (x : KeptReports). x.router) made)) (same_itself router))
      ((Decides-eqb k.interface interface).1 (ap (λ (x : KeptReports). x.interface) made)) in
      not_both (is_of router interface k) un routers

  pub other_text : (k.text ≡ text → ⊥) → Made → ⊥
  other_text un made = un (ap (λ (x : KeptReports). x.text) made)

  pub other_routes : (k.routes ≡ routes → ⊥) → Made → ⊥
  other_routes un made = un (ap (λ (x : KeptReports). x.routes) made)

  pub its_roas : Made → k.roas ≡ roas
  its_roas made = ap (λ (x : KeptReports). x.roas) made

  -- all parts are these
  pub is_made : is_of router interface k ≡ true → k.text ≡ text → k.routes ≡ routes → k.roas ≡ roas → Made
  is_made of_it its_text its_routes its_roas =
      let both = of_both (same k.router router) (k.interface == interface) of_it in
      let routers = same_is k.router router both.0 in
      let interfaces = (Decides-eqb k.interface interface).0 both.1 in
      ap (λ x. made_from x k.interface k.routes k.text k.roas k.reports) routers
      ∙ (ap (λ x. made_from router x k.routes k.text k.roas k.reports) interfaces
      ∙ (ap (λ x. made_from router interface x k.text k.roas k.reports) its_routes
      ∙ (ap (λ x. made_from router interface routes x k.roas k.reports) its_text ∙ ap (λ x. made_from router interface routes text x k.reports) its_roas)))

module _ (router : List ℕ) (interface : ℕ) (routes : List Route) (text : List ℕ) (roas : List Roa) where
  pub none_first : (ks : List KeptReports) → AreKept (take 0 ks) router interface routes text roas → ⊥
  none_first ks is = let few = is.1.1 in absurd (omega (arith, few))

  -- one more that wasn't made from these
  pub none_more : (ks : List KeptReports) (i : ℕ) (k : KeptReports) → i < length ks → k ≡ get_or ks i k → (AreKept (take i ks) router interface routes text roas → ⊥)
      → (k ≡ made_from router interface routes text roas k.reports → ⊥) → AreKept (take (i + 1) ks) router interface routes text roas → ⊥
  none_more ks i k within at none other (reports, has) =
      let x = made_from router interface routes text roas reports in
      let more : take (i + 1) ks ≡ take i ks ++ k ∷ [] = take_more ks i k within ∙ ap (λ y. take i ks ++ y ∷ []) (sym at) in
      by_place (Contains-push_cases (take i ks) k x (subst (λ (ys : List KeptReports). Contains ys x) more has)) where
        by_place : Contains (take i ks) (made_from router interface routes text roas reports) ⊎ (k ≡ made_from router interface routes text roas reports) → ⊥
        by_place (inl before) = none (reports, before)
        by_place (inr is) = other (is ∙ ap (made_from router interface routes text roas) (sym (ap (λ (y : KeptReports). y.reports) is)))

  pub none_at_all : (ks : List KeptReports) (i : ℕ) → length ks ≤ i → (AreKept (take i ks) router interface routes text roas → ⊥) → AreKept ks router interface routes text roas → ⊥
  none_at_all ks i all none is = none (subst (λ (ys : List KeptReports). AreKept ys router interface routes text roas) (sym (take_all i ks all)) is)

pub contains_at : (ks : List KeptReports) (i : ℕ) (k : KeptReports) → i < length ks → k ≡ get_or ks i k → Contains ks k
contains_at ks i k within at = (i, within, sym at)

-- the reports of other sessions, one after the other
pub others_more : (router : List ℕ) (interface : ℕ) (ks : List KeptReports) (i : ℕ) (k : KeptReports) → i < length ks → k ≡ get_or ks i k
    → others router interface (take (i + 1) ks) ≡ others router interface (take i ks) ++ others router interface (k ∷ [])
others_more router interface ks i k within at =
    ap (others router interface) (take_more ks i k within ∙ ap (λ y. take i ks ++ y ∷ []) (sym at))
    ∙ filter-append (λ x. not (is_of router interface x)) (take i ks) (k ∷ [])

-- what is kept is right
pub right_with : (k : KeptReports) (ks : List KeptReports) → IsRight k → AllByRecursion IsRight ks → AllByRecursion IsRight (with_newest k ks)
right_with k ks right all =
    let rest = All-filter (λ x. not (is_of k.router k.interface x)) IsRight ks (All-from_recursion IsRight ks all) in
    (right, recursion_from_All IsRight _ (All-take IsRight 15 (others k.router k.interface ks) rest))

pub few_with : (k : KeptReports) (ks : List KeptReports) → length (with_newest k ks) ≤ MOST_KEPT
few_with k ks = let few = length-take 15 (others k.router k.interface ks) in omega (arith, few)

pub right_of : (k : KeptReports) (ks : List KeptReports) → AllByRecursion IsRight ks → Contains ks k → IsRight k
right_of k ks all has = All-contains IsRight ks k (All-from_recursion IsRight ks all) has

-- the reports that are kept of these routes
pub kept_reports : (router : List ℕ) (interface : ℕ) (routes : List Route) (text : List ℕ) (roas : List Roa) (k : KeptReports) (ks : List KeptReports) → AllByRecursion IsRight ks → Contains ks k
    → k ≡ made_from router interface routes text roas k.reports → AreReports text roas interface routes k.reports
kept_reports router interface routes text roas k ks all has made = subst IsRight made (right_of k ks all has)
