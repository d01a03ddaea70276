-- What `eval` makes of an input: a filter text, the line `%%`, lines of ROAs, and the line of a route.
use Rattle.std.specs.Prelude.{◌≡◌, ◌≢◌, ◌⊎◌, ℕ, List, Some, None, Result, Ok, Err, codes}
use Rattle.ixp_num.specs.declared.cause.Cause.{Cause}
use Rattle.ixp_num.specs.declared.roa.Roa.{Roa}
use Rattle.ixp_lang.specs.declared.fate.Fate.{Fate}
use Rattle.ixp_lang.specs.declared.item.Bgp.{Bgp}
use Rattle.ixp_lang.specs.Faults.{Fault, pair_range, no_return, no_verdict, no_filter}
use Rattle.ixp_lang.specs.Texts.{fate_text}
use Rattle.ixp_lang.specs.Trees.{ItemTree}
use Rattle.ixp_lang.specs.Walks.{bgp_sessions, session_named, walk}
use Rattle.ixp_read.specs.declared.fault.ReadFault.{ReadFault}
use Rattle.ixp_read.specs.Answers.{SpellsText, ConfigAnswer}
use Rattle.ixp_read.specs.Causes as text
use Rattle.ixp_eval_trial.specs.declared.fault.RouteCode.TheVariants as code
use Rattle.ixp_eval_trial.specs.declared.fault.TrialFault.{TrialFault}
use Rattle.ixp_eval_trial.specs.declared.fault.TrialFault.TheVariants as trial_fault
use Rattle.ixp_eval_trial.specs.declared.trial.Trial.{Trial}
use Rattle.ixp_eval_trial.specs.Causes as trial
use Rattle.ixp_eval_trial.specs.Lines.{IsFilterText}
use Rattle.ixp_eval_trial.specs.Tables.{AreTables}
use Rattle.ixp_eval_trial.specs.Trials.{TrialAnswer}

-- the filter text in the input spells this configuration
abbrev pub IsConfiguration : List ℕ → List ItemTree → Type 0
IsConfiguration input configuration =
    (text : List ℕ) × IsFilterText input text × SpellsText text configuration

-- the route's session has a channel of another family; a session that isn't there has none
abbrev pub IsOfOtherFamily : List ItemTree → Trial → Type 0
IsOfOtherFamily configuration t = (b : Bgp) × (session_named (bgp_sessions configuration) t.session ≡ Some b)
    × (b.family ≢ t.route.net.family)

-- the configuration can take the trial's route, and nothing is behind that
abbrev pub IsTaken : List ItemTree → Trial → Type 0
IsTaken configuration t = ¬ (IsOfOtherFamily configuration t) × (t.more ≡ None)

-- what is behind the filter text is this trial, which the configuration can take
abbrev pub IsTrial : List ItemTree → List ℕ → Trial → Type 0
IsTrial configuration input t = TrialAnswer input (Ok t) × IsTaken configuration t

-- what is written of what becomes of a route
abbrev pub outcome_text : Result Fate Fault → List ℕ
outcome_text (Ok fate) = fate_text fate None
outcome_text (Err (pair_range value)) = codes "fault V1\n"
outcome_text (Err (no_return name)) = codes "fault V2\n"
outcome_text (Err (no_verdict name)) = codes "fault V3\n"
outcome_text (Err (no_filter name)) = codes "fault V4\n"

-- what the walk gives by these items, with tables of the trial's ROAs
abbrev pub IsOutcome : List ItemTree → Trial → List ℕ → Type 0
IsOutcome configuration t output =
    (tables : List (List ℕ × List Roa)) × AreTables t.roas tables
    × (output ≡ outcome_text (walk configuration tables t.session t.route))

-- what is written for an input
pub record Evaluates (input output : List ℕ) : Type 0 where
  pub configuration : List ItemTree
  pub trial : Trial
  pub is_configuration : IsConfiguration input configuration
  pub is_trial : IsTrial configuration input trial
  pub is_outcome : IsOutcome configuration trial output

-- why a configuration can't take a trial: the session's family isn't the route's, or else a line stands
-- behind the route's
abbrev pub IsRefused : List ItemTree → Trial → TrialFault → Type 0
IsRefused configuration t fault =
    (IsOfOtherFamily configuration t × (fault ≡ trial_fault.BadRoute t.line code.Family))
    ⊎ (¬ (IsOfOtherFamily configuration t) × (line : ℕ) × (t.more ≡ Some line)
    × (fault ≡ trial_fault.BadLine line))

-- why the filter text in the input spells no configuration
abbrev pub IsNoText : List ℕ → Cause → Type 0
IsNoText input cause = (fault : ReadFault) × (text.cause_of fault ≡ Some cause) × (t : List ℕ)
    × IsFilterText input t × ConfigAnswer t (Err fault)

-- why what is behind the filter text is no trial of the configuration: it is no trial, or one that the
-- configuration can't take
abbrev pub IsNoTrial : List ItemTree → List ℕ → Cause → Type 0
IsNoTrial configuration input cause =
    (fault : TrialFault) × (trial.cause_of fault ≡ Some cause)
    × (TrialAnswer input (Err fault)
    ⊎ ((t : Trial) × TrialAnswer input (Ok t) × IsRefused configuration t fault))

-- why an input is refused: for its filter text, or else for what is behind that
abbrev pub IsNoEval : List ℕ → Cause → Type 0
IsNoEval input cause =
    IsNoText input cause ⊎ ((configuration : List ItemTree) × IsConfiguration input configuration
    × IsNoTrial configuration input cause)
