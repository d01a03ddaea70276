-- How the program names a fault of the language.
use Rattle.ixp_eval.specs.declared.fault.CallFault.{CallFault}
use Rattle.ixp_eval.specs.declared.fault.CallFault.TheVariants as call
use Rattle.ixp_eval.specs.declared.fault.EvalFault.{EvalFault}
use Rattle.ixp_eval.specs.declared.fault.EvalFault.TheVariants as fault
use Rattle.ixp_explain.specs.declared.report.ExplainFault.{ExplainFault}
use Rattle.ixp_explain.specs.declared.report.ExplainFault.TheVariants as told

abbrev pub told_fault : EvalFault → ExplainFault
told_fault fault.NoMemory = told.NoMemory
told_fault (fault.PairRange n) = told.Fault (call.Failed (fault.PairRange n))
told_fault (fault.NoReturn n) = told.Fault (call.Failed (fault.NoReturn n))
told_fault (fault.NoVerdict n) = told.Fault (call.Failed (fault.NoVerdict n))
told_fault (fault.NoFilter n) = told.Fault (call.Failed (fault.NoFilter n))

abbrev pub told_call : CallFault → ExplainFault
told_call (call.Failed f) = told_fault f
told_call call.Ended = told.Fault call.Ended
