-- Reports of the routes that a session announces, by a text and ROAs.
use Rattle.std.specs.Prelude.{◌≡◌, ℕ, List, [], ◌∷◌, ◌++◌, codes, Result, Ok, Err}
use Rattle.std.specs.List.{AllZip}
use Rattle.ixp_num.specs.declared.roa.Roa.{Roa}
use Rattle.ixp_lang.specs.declared.route.Route.{Route}
use Rattle.ixp_explain.specs.declared.report.ExplainFault.{ExplainFault}
use Rattle.ixp_explain.specs.declared.report.ExplainFault.TheVariants as fault
use Rattle.ixp_explain.specs.declared.report.OwnReport.{OwnReport}
use Rattle.ixp_explain.specs.Answers.{Answers}
use Rattle.ixp_explain.specs.Explained.{Tables, own_explained}

-- the tables by which the texts of a route server ask these ROAs
abbrev pub tables_named : List Roa → Tables
tables_named roas = (codes "roas4", roas) ∷ (codes "roas6", roas) ∷ []

module _ (text : List ℕ) (roas : List Roa) (interface : ℕ) where
  -- what `explain_member` answers of a route, where no peer is asked
  abbrev pub Explains : Route → Result OwnReport ExplainFault → Type 0
  Explains route answer =
      Answers text (λ items. own_explained items (tables_named roas) interface route []) answer

  -- a report of each route, in their order
  abbrev pub AreReports : List Route → List OwnReport → Type 0
  AreReports routes reports = AllZip (λ route report. Explains route (Ok report)) routes reports

  -- why one of the routes isn't explained, of those before which there are reports
  pub record IsUnexplained (routes : List Route) (x : ExplainFault) : Type 0 where
    pub before : List Route
    pub route : Route
    pub behind : List Route
    pub routes_are : routes ≡ before ++ route ∷ behind
    pub reports : List OwnReport
    pub are_reports : AreReports before reports
    pub is_unexplained : Explains route (Err x)

  -- The reports of the routes; else the fault of the first one that isn't explained. Running out of memory is
  -- free.
  abbrev pub Reports : List Route → Result (List OwnReport) ExplainFault → Type 0
  Reports routes (Ok reports) = AreReports routes reports
  Reports routes (Err fault.NoMemory) = Unit {0}
  Reports routes (Err (fault.Unread f)) = IsUnexplained routes (fault.Unread f)
  Reports routes (Err (fault.Family family)) = IsUnexplained routes (fault.Family family)
  Reports routes (Err (fault.Fault f)) = IsUnexplained routes (fault.Fault f)
  Reports routes (Err (fault.Shape name)) = IsUnexplained routes (fault.Shape name)
