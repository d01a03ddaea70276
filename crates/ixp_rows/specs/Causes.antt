-- How a fault of a dump is told.
use Rattle.std.specs.Prelude.{Option, Some, None}
use Rattle.ixp_num.specs.declared.cause.Cause.{Cause}
use Rattle.ixp_num.specs.declared.cause.Code.TheVariants.{U1, U2, U3, U4}
use Rattle.ixp_num.specs.declared.cause.Place.TheVariants.{Line, Rule}
use Rattle.ixp_rows.specs.declared.fault.DumpFault.{DumpFault}
use Rattle.ixp_rows.specs.declared.fault.DumpFault.TheVariants.{BadLine, Order, Twice, Invalid, NoMemory}

-- the code of the fault and its line; running out of memory is no fault of the dump
abbrev pub cause_of : DumpFault → Option Cause
cause_of (BadLine line) = Some (record { code = U1; place = Line line })
cause_of (Order line) = Some (record { code = U2; place = Line line })
cause_of (Twice line) = Some (record { code = U3; place = Line line })
cause_of (Invalid rule line) = Some (record { code = U4; place = Rule rule line })
cause_of NoMemory = None
