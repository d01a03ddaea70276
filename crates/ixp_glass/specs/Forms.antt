-- What a text says of a route, but for the forms of its functions, which are the same for all routes. Nobody
-- has to believe this: what is shown is what `explain_member` answers.
use Rattle.std.specs.Prelude.{◌≡◌, ℕ, Bool, true, ◌&&◌, List, [], reverse, Option, Some, is_some, Result, Ok}
use Rattle.ixp_num.specs.declared.roa.Roa.{Roa}
use Rattle.ixp_lang.specs.declared.item.Bgp.{Bgp}
use Rattle.ixp_lang.specs.declared.route.Route.{Route}
use Rattle.ixp_lang.specs.Meaning.{filter_end}
use Rattle.ixp_lang.specs.Trees.{ItemTree}
use Rattle.ixp_explain.specs.declared.report.ExplainFault.{ExplainFault}
use Rattle.ixp_explain.specs.declared.report.OwnReport.{OwnReport}
use Rattle.ixp_explain.specs.Explained.{Tables, Trouble, and_then, env_of, fate_told, own_number, own_report_of, run, session_in, shapes_told, up_name}
use Rattle.ixp_explain.specs.Kinds.{sorts_after}
use Rattle.ixp_glass.specs.Reports.{Explains, tables_named}

-- a route that passed is given to the filter up
abbrev pub filtered : List ItemTree → Tables → ℕ → Option Bgp → Option Route → Bool
    → Result (Unit {0}) Trouble
filtered items roas interface (Some b) (Some route) true =
    and_then (run (filter_end (env_of roas b) (reverse items) (up_name interface) route)) (λ verdict. Ok tt)
filtered items roas interface _ _ _ = Ok tt

abbrev pub told_but_forms : List ItemTree → Tables → ℕ → Route → Result OwnReport Trouble
told_but_forms items roas interface route =
    and_then (fate_told items roas interface route) (λ fate.
    and_then (filtered items roas interface (session_in items interface) fate.table fate.passed) (λ _.
    Ok (own_report_of (own_number items interface) fate [])))

-- the forms count for this report's route
abbrev pub asks_forms : List ItemTree → ℕ → OwnReport → Bool
asks_forms items interface report =
    is_some (session_in items interface) && is_some report.tagged && report.passed

-- the functions of the text are of their forms
abbrev pub HasForms : List ItemTree → Type 0
HasForms items = shapes_told (sorts_after [] items) ≡ Ok tt

-- what `explain_member` answers of a route by these tables, where they are those of some ROAs
abbrev pub Told : List ℕ → Tables → ℕ → Route → Result OwnReport ExplainFault → Type 0
Told text tables interface route answer =
    (roas : List Roa) → tables ≡ tables_named roas → Explains text roas interface route answer
