-- How a fault of a filter text is told.
use Rattle.std.specs.Prelude.{Option, Some, None}
use Rattle.ixp_num.specs.declared.cause.Cause.{Cause}
use Rattle.ixp_num.specs.declared.cause.Code.TheVariants.{L1, L2, L3, L4, L5, L6, L7, L8, L9}
use Rattle.ixp_num.specs.declared.cause.Place.TheVariants as place
use Rattle.ixp_read.specs.declared.fault.ReadFault.{ReadFault}
use Rattle.ixp_read.specs.declared.fault.ReadFault.TheVariants.{Byte, Number, Unexpected, UnknownName, NameTwice, MixedLogic, WrongType, TooDeep, OutOfProfile, NoMemory}

-- the code of the fault and its byte; running out of memory is no fault of the text
abbrev pub cause_of : ReadFault → Option Cause
cause_of (Byte at) = Some (record { code = L1; place = place.Byte at })
cause_of (Number at) = Some (record { code = L2; place = place.Byte at })
cause_of (Unexpected at) = Some (record { code = L3; place = place.Byte at })
cause_of (UnknownName at) = Some (record { code = L4; place = place.Byte at })
cause_of (NameTwice at) = Some (record { code = L5; place = place.Byte at })
cause_of (MixedLogic at) = Some (record { code = L6; place = place.Byte at })
cause_of (WrongType at) = Some (record { code = L7; place = place.Byte at })
cause_of (TooDeep at) = Some (record { code = L8; place = place.Byte at })
cause_of (OutOfProfile at) = Some (record { code = L9; place = place.Byte at })
cause_of NoMemory = None
