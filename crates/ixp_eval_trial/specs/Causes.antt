-- How a fault of a trial is told.
use Rattle.std.specs.Prelude.{Option, Some, None}
use Rattle.ixp_num.specs.declared.cause.Cause.{Cause}
use Rattle.ixp_num.specs.declared.cause.Code.{Code}
use Rattle.ixp_num.specs.declared.cause.Code.TheVariants.{U1, E1, E2, E3, E4}
use Rattle.ixp_num.specs.declared.cause.Place.TheVariants.{Line}
use Rattle.ixp_eval_trial.specs.declared.fault.RouteCode.{RouteCode}
use Rattle.ixp_eval_trial.specs.declared.fault.RouteCode.TheVariants.{Text, Family, Set, TooLong}
use Rattle.ixp_eval_trial.specs.declared.fault.TrialFault.{TrialFault}
use Rattle.ixp_eval_trial.specs.declared.fault.TrialFault.TheVariants.{BadLine, BadRoute, NoMemory}

-- the code of a line that is no route's
abbrev pub code_of : RouteCode → Code
code_of Text = E1
code_of Family = E2
code_of Set = E3
code_of TooLong = E4

-- the code of the fault and its line; running out of memory is no fault of the input
abbrev pub cause_of : TrialFault → Option Cause
cause_of (BadLine line) = Some (record { code = U1; place = Line line })
cause_of (BadRoute line code) = Some (record { code = code_of code; place = Line line })
cause_of NoMemory = None
