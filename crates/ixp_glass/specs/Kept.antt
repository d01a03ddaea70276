-- What a glass keeps, and what it gives.
use Rattle.std.specs.Prelude.{◌≡◌, ◌⊎◌, ◌==◌, ℕ, ◌-◌, Bool, not, ◌&&◌, List, ◌∷◌, take, filter}
use Rattle.std.specs.List.{Contains}
use Rattle.ixp_num_tables.specs.Tables.{same}
use Rattle.ixp_num.specs.declared.roa.Roa.{Roa}
use Rattle.ixp_lang.specs.declared.route.Route.{Route}
use Rattle.ixp_explain.specs.declared.report.OwnReport.{OwnReport}
use Rattle.ixp_glass.specs.declared.kept.KeptReports.{KeptReports}
use Rattle.ixp_glass.specs.declared.kept.TheConstants.{MOST_KEPT}
use Rattle.ixp_glass.specs.Reports.{AreReports}

-- the reports of the router's session at the interface, with what they were made from
abbrev pub made_from : List ℕ → ℕ → List Route → List ℕ → List Roa → List OwnReport → KeptReports
made_from router interface routes text roas reports =
    record { router = router; interface = interface; routes = routes; text = text; roas = roas; reports = reports }

-- reports of the session are kept that were made from these
abbrev pub AreKept : List KeptReports → List ℕ → ℕ → List Route → List ℕ → List Roa → Type 0
AreKept kept router interface routes text roas =
    (reports : List OwnReport) × Contains kept (made_from router interface routes text roas reports)

-- the reports are those of the routes, by the text and the ROAs
abbrev pub IsRight : KeptReports → Type 0
IsRight k = AreReports k.text k.roas k.interface k.routes k.reports

abbrev pub is_of : List ℕ → ℕ → KeptReports → Bool
is_of router interface k = same k.router router && k.interface == interface

-- those of other sessions
abbrev pub others : List ℕ → ℕ → List KeptReports → List KeptReports
others router interface ks = filter (λ k. not (is_of router interface k)) ks

-- What is kept once these reports were made: the ones that were made last stand first. Of other sessions no
-- more than 15 stay, so that those which were made longest ago go.
abbrev pub with_newest : KeptReports → List KeptReports → List KeptReports
with_newest k ks = k ∷ take (MOST_KEPT - 1) (others k.router k.interface ks)

-- These reports are given: they are kept already, and all stays; or none are kept that were made from these,
-- and they are kept now.
abbrev pub Gives : KeptReports → List KeptReports → List KeptReports → Type 0
Gives k before now =
    (Contains before k × (now ≡ before))
    ⊎ ((AreKept before k.router k.interface k.routes k.text k.roas → ⊥) × (now ≡ with_newest k before))
