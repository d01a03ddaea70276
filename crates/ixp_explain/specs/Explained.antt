-- What a text says of a route that a session brings, and why it may say nothing.
use Rattle.std.specs.Prelude.{ℕ, Bool, true, false, nat_le, List, [], ◌∷◌, ◌++◌, reverse, codes, decimal, Option, Some, None, option_map, Result, Ok, Err, if◌then◌else◌}
use Rattle.ixp_num.specs.declared.family.Family.{Family}
use Rattle.ixp_num.specs.declared.asn.Asn.{Asn}
use Rattle.ixp_num.specs.declared.roa.Roa.{Roa}
use Rattle.ixp_num.specs.Families.{same_family}
use Rattle.ixp_lang.specs.declared.fate.Fate.{Fate}
use Rattle.ixp_lang.specs.declared.item.Bgp.{Bgp}
use Rattle.ixp_lang.specs.declared.route.Route.{Route}
use Rattle.ixp_lang.specs.declared.route.Verdict.{Verdict}
use Rattle.ixp_lang.specs.declared.route.Verdict.TheVariants.{Accept, Reject}
use Rattle.ixp_lang.specs.declared.value.Value.{Value}
use Rattle.ixp_lang.specs.declared.value.Value.TheVariants as value
use Rattle.ixp_lang.specs.Attributes.{truth}
use Rattle.ixp_lang.specs.Faults.{Fault, CallFault, failed}
use Rattle.ixp_lang.specs.Meaning.{Environment, find_named, filter_end, function_end}
use Rattle.ixp_lang.specs.Texts.{fate_text, known_reason}
use Rattle.ixp_lang.specs.Trees.{ItemTree}
use Rattle.ixp_lang.specs.Walks.{bgp_sessions, session_named, walk}
use Rattle.ixp_explain.specs.declared.kinds.Kind.TheVariants.{Number, Truth}
use Rattle.ixp_explain.specs.declared.report.Report.{Report}
use Rattle.ixp_explain.specs.declared.report.OwnReport.{OwnReport}
use Rattle.ixp_explain.specs.Kinds.{Sorts, sorts_after, is_shaped}

-- why nothing is said of a route by a text that is read
pub data Trouble : Type 0 where
  -- the session is of this family, and the route isn't
  other_family : Family → Trouble
  -- a filter or a function has no outcome
  faulty : CallFault → Trouble
  -- the function of this name isn't of its form
  misshapen : List ℕ → Trouble

abbrev pub and_then : {A B : Type 0} → Result A Trouble → (A → Result B Trouble) → Result B Trouble
and_then (Ok x) f = f x
and_then (Err t) f = Err t

-- an outcome of the language, of a filter or a walk, and of a function that is called for its value
abbrev pub run : {A : Type 0} → Result A Fault → Result A Trouble
run (Ok x) = Ok x
run (Err f) = Err (faulty (failed f))

abbrev pub called : {A : Type 0} → Result A CallFault → Result A Trouble
called (Ok x) = Ok x
called (Err f) = Err (faulty f)

-- the names of an interface's session and of its filter up
abbrev pub session_name : ℕ → List ℕ
session_name interface = codes "b_" ++ decimal interface

abbrev pub up_name : ℕ → List ℕ
up_name interface = codes "up_" ++ decimal interface

abbrev pub sends_name : List ℕ
sends_name = codes "ixp_sends"

abbrev pub count_name : List ℕ
count_name = codes "ixp_count"

abbrev pub session_in : List ItemTree → ℕ → Option Bgp
session_in items interface = session_named (bgp_sessions items) (session_name interface)

-- the session's family, where the session is there and the route isn't of its family
abbrev pub family_apart : Option Bgp → Route → Option Family
family_apart None route = None
family_apart (Some b) route = if same_family b.family route.net.family then None else Some b.family

abbrev pub unless_apart : {A : Type 0} → Option Family → Result A Trouble → Result A Trouble
unless_apart None outcome = outcome
unless_apart (Some family) outcome = Err (other_family family)

-- The number that stands behind `stopped` in a fate's text, where the route server's own number is known: why
-- the route was stopped.
abbrev pub number_told : Option Asn → Option Route → Bool → Option ℕ
number_told own None passed = None
number_told own (Some route) true = None
number_told own (Some route) false = known_reason own route

-- the number of this end of an interface's session
abbrev pub own_number : List ItemTree → ℕ → Option Asn
own_number items interface = option_map (λ b. b.own) (session_in items interface)

-- tables of ROAs by their names
abbrev pub Tables : Type 0
Tables = List (List ℕ × List Roa)

-- the fate of a route of the session's family
abbrev pub fate_told : List ItemTree → Tables → ℕ → Route → Result Fate Trouble
fate_told items roas interface route = unless_apart (family_apart (session_in items interface) route)
    (run (walk items roas (session_name interface) route))

abbrev pub report_of : Option Asn → Fate → Report
report_of own fate = record { fate = fate; number = number_told own fate.table fate.passed }

abbrev pub explained : List ItemTree → Tables → ℕ → Route → Result Report Trouble
explained items roas interface route =
    and_then (fate_told items roas interface route) (λ fate. Ok (report_of (own_number items interface) fate))

-- the fate's text, which says by the route server's own number why a route is stopped
abbrev pub fate_text_told : List ItemTree → Tables → ℕ → Route → Result (List ℕ) Trouble
fate_text_told items roas interface route =
    and_then (fate_told items roas interface route) (λ fate. Ok (fate_text fate (own_number items interface)))

-- Members are told to whom their own route is to be sent.

-- what filters and functions see beside a route of a session
abbrev pub env_of : Tables → Bgp → Environment
env_of roas b = record { from = b.neighbor; roas = roas }

-- both functions that are asked are of their forms, where they are there
abbrev pub shapes_told : Sorts → Result (Unit {0}) Trouble
shapes_told sorts =
    if is_shaped Truth (find_named sorts sends_name)
    then (if is_shaped Number (find_named sorts count_name) then Ok tt else Err (misshapen count_name))
    else Err (misshapen sends_name)

-- how often a number is put in front; more than 255 times is no form of the function
abbrev pub times_told : Value → Result (Option ℕ) Trouble
times_told (value.Int n) = if nat_le n 255 then Ok (Some n) else Err (misshapen count_name)
times_told _ = Err (misshapen count_name)

abbrev pub sends_told : List ItemTree → Environment → Route → ℕ → Result Bool Trouble
sends_told items env route peer =
    and_then (called (function_end env (reverse items) sends_name peer route)) (λ v. Ok (truth v))

abbrev pub count_told : List ItemTree → Environment → Route → ℕ → Result (Option ℕ) Trouble
count_told items env route peer =
    and_then (called (function_end env (reverse items) count_name peer route)) times_told

-- the wish for one peer, by the route that the filter up gave
abbrev pub wish_told : List ItemTree → Environment → Route → ℕ → Result (Option ℕ) Trouble
wish_told items env route peer = and_then (sends_told items env route peer) (λ sends. if sends
    then count_told items env route peer else Ok None)

-- peer after peer, up to the first trouble
abbrev pub wishes_told : List ItemTree → Environment → Route → List Asn
    → Result (List (Asn × Option ℕ)) Trouble
wishes_told items env route [] = Ok []
wishes_told items env route (p ∷ ps) =
    and_then (wish_told items env route p.0)
    (λ wish. and_then (wishes_told items env route ps) (λ wishes. Ok ((p, wish) ∷ wishes)))

abbrev pub wishes_by : List ItemTree → Environment → List Asn → Verdict
    → Result (List (Asn × Option ℕ)) Trouble
wishes_by items env peers Reject = Ok []
wishes_by items env peers (Accept route) = wishes_told items env route peers

-- what is asked of a route that passed: the filter up is run on the route that the session's table holds
abbrev pub passed_told : List ItemTree → Environment → ℕ → Route → List Asn
    → Result (List (Asn × Option ℕ)) Trouble
passed_told items env interface route peers =
    and_then (run (filter_end env (reverse items) (up_name interface) route)) (λ verdict.
    and_then (shapes_told (sorts_after [] items)) (λ _. wishes_by items env peers verdict))

-- of a route that doesn't pass nobody is asked
abbrev pub asks_told : List ItemTree → Tables → ℕ → Option Bgp → Option Route → Bool → List Asn
    → Result (List (Asn × Option ℕ)) Trouble
asks_told items roas interface (Some b) (Some route) true peers =
    passed_told items (env_of roas b) interface route peers
asks_told items roas interface _ _ _ peers = Ok []

abbrev pub own_report_of : Option Asn → Fate → List (Asn × Option ℕ) → OwnReport
own_report_of own fate asks =
    record { tagged = fate.table; passed = fate.passed; number = number_told own fate.table fate.passed; asks = asks }

abbrev pub own_explained : List ItemTree → Tables → ℕ → Route → List Asn → Result OwnReport Trouble
own_explained items roas interface route peers =
    and_then (fate_told items roas interface route) (λ fate.
    and_then (asks_told items roas interface (session_in items interface) fate.table fate.passed peers)
    (λ asks.
    Ok (own_report_of (own_number items interface) fate asks)))
