-- The text of what a member is told of its own route.
use Rattle.std.specs.Prelude.{ℕ, Bool, true, false, List, [], ◌∷◌, ◌++◌, codes, decimal, Option, Some, None}
use Rattle.ixp_num.specs.declared.asn.Asn.{Asn}
use Rattle.ixp_lang.specs.declared.route.Route.{Route}
use Rattle.ixp_lang.specs.Texts.{attributes_text, stopped_text}
use Rattle.ixp_explain.specs.declared.report.OwnReport.{OwnReport}

abbrev pub times_text : Option ℕ → List ℕ
times_text None = codes "no"
times_text (Some times) = decimal times

-- `ask 65002 no`, or how often the member's number is put in front
abbrev pub ask_text : Asn × Option ℕ → List ℕ
ask_text a = codes "ask " ++ (decimal a.0.0 ++ (codes " " ++ (times_text a.1 ++ codes "\n")))

abbrev pub asks_text : List (Asn × Option ℕ) → List ℕ
asks_text [] = []
asks_text (a ∷ more) = ask_text a ++ asks_text more

abbrev pub verdict_text : Bool → Option ℕ → List ℕ
verdict_text true number = codes "passed\n"
verdict_text false number = stopped_text number

abbrev pub told_text : Option Route → Bool → Option ℕ → List (Asn × Option ℕ) → List ℕ
told_text None passed number asks = codes "dropped\n"
told_text (Some route) passed number asks =
    (codes "tagged " ++ (attributes_text route ++ codes "\n"))
    ++ (verdict_text passed number ++ asks_text asks)

-- One line for the route as the server holds it, one for whether it passes, with the number of the reason if
-- it doesn't, and one for each peer that was asked.
abbrev pub own_text : OwnReport → List ℕ
own_text r = told_text r.tagged r.passed r.number r.asks
