-- Reports, route after route.
use Rattle.std.proofs.Common.{◌≡◌, ◌<◌, ◌+◌, ◌==◌, ◌++◌, ◌∷◌, ℕ, true, false, suc, List, [], length, take, drop, get_or, Ok, Err, refl, ap, sym, ◌∙◌, subst}
use Rattle.std.proofs.lemmas.List.{take-append-drop, take_more}
use Rattle.std.proofs.Math.Seq.{drop-cons}
use Rattle.std.specs.List.{AllZip}
use Rattle.ixp_num.specs.declared.roa.Roa.{Roa}
use Rattle.ixp_lang.specs.declared.route.Route.{Route}
use Rattle.ixp_explain.specs.declared.report.ExplainFault.{ExplainFault}
use Rattle.ixp_explain.specs.declared.report.ExplainFault.TheVariants as fault
use Rattle.ixp_explain.specs.declared.report.OwnReport.{OwnReport}
use Rattle.ixp_explain.specs.Answers.{IsUnread}
use Rattle.ixp_glass.specs.Reports.{AreReports, Explains, IsUnexplained, Reports}

-- a list in front of a place, what stands there, and what stands behind it
parted : {A : Type 0} (xs : List A) (i : ℕ) (x : A) → i < length xs → x ≡ get_or xs i x → xs ≡ take i xs ++ x ∷ drop (suc i) xs
parted xs i x within is = sym (take-append-drop i xs) ∙ ap (λ r. take i xs ++ r) (drop-cons xs i x within ∙ ap (λ y. y ∷ drop (suc i) xs) (sym is))

-- one more of each
zip_push : {A B : Type 0} (R : A → B → Type 0) (xs : List A) (ys : List B) (x : A) (y : B) → AllZip R xs ys → R x y → AllZip R (xs ++ x ∷ []) (ys ++ y ∷ [])
zip_push R [] [] x y all here = (here, tt)
zip_push R [] (b ∷ ys) x y all here = absurd all
zip_push R (a ∷ xs) [] x y all here = absurd all
zip_push R (a ∷ xs) (b ∷ ys) x y all here = (all.0, zip_push R xs ys x y all.1 here)

pub some_there : (routes : List Route) → (length routes == 0) ≡ false → routes ≡ [] → ⊥
some_there [] some none = let bad : true ≡ false = some in cc
some_there (route ∷ routes) some none = cc

module _ (text : List ℕ) (roas : List Roa) (n : ℕ) where
  module _ (routes : List Route) (i : ℕ) (route : Route) (reports : List OwnReport) (within : i < length routes) (at : route ≡ get_or routes i route) (are : AreReports text roas n (take i routes) reports) where
    unexplained_at : (e : ExplainFault) → Explains text roas n route (Err e) → IsUnexplained text roas n routes e
    unexplained_at e is = record {
      before = take i routes;
      route = route;
      behind = drop (suc i) routes;
      routes_are = parted routes i route within at;
      reports = reports;
      are_reports = are;
      is_unexplained = is;
    }

    -- the first route that isn't explained
    pub unexplained : (e : ExplainFault) → Explains text roas n route (Err e) → Reports text roas n routes (Err e)
    unexplained fault.NoMemory is = tt
    unexplained (fault.Unread f) is = unexplained_at (fault.Unread f) is
    unexplained (fault.Family family) is = unexplained_at (fault.Family family) is
    unexplained (fault.Fault f) is = unexplained_at (fault.Fault f) is
    unexplained (fault.Shape name) is = unexplained_at (fault.Shape name) is

  -- a report of one route more
  pub one_more : (routes : List Route) (i : ℕ) (route : Route) (reports : List OwnReport) (report : OwnReport) → i < length routes → route ≡ get_or routes i route
      → AreReports text roas n (take i routes) reports → Explains text roas n route (Ok report) → AreReports text roas n (take (i + 1) routes) (reports ++ report ∷ [])
  one_more routes i route reports report within at are told =
      subst (λ (rs : List Route). AreReports text roas n rs (reports ++ report ∷ [])) (sym (take_more routes i route within ∙ ap (λ r. take i routes ++ r ∷ []) (sym at)))
      (zip_push (λ (r : Route) (x : OwnReport). Explains text roas n r (Ok x)) (take i routes) reports route report are told)

  -- a text that isn't read explains no route
  pub unread : (routes : List Route) → (routes ≡ [] → ⊥) → (e : ExplainFault) → IsUnread text e → Reports text roas n routes (Err e)
  unread routes some fault.NoMemory is = tt
  unread [] some (fault.Unread f) is = absurd (some refl)
  unread (route ∷ routes) some (fault.Unread f) is = record { before = []; route = route; behind = routes; routes_are = refl; reports = []; are_reports = tt; is_unexplained = is }
  unread routes some (fault.Family family) is = absurd is
  unread routes some (fault.Fault f) is = absurd is
  unread routes some (fault.Shape name) is = absurd is
