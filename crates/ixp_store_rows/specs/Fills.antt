-- The fault of a filling by that of its keeper.
use Rattle.ixp_io.specs.declared.keeper.KeepFault.{KeepFault}
use Rattle.ixp_io.specs.declared.keeper.KeepFault.TheVariants as keep
use Rattle.ixp_store_rows.specs.declared.filling.FillFault.{FillFault}
use Rattle.ixp_store_rows.specs.declared.filling.FillFault.TheVariants.{Failed, NoMemory}

abbrev pub fault_of : KeepFault → FillFault
fault_of keep.Failed = Failed
fault_of keep.NoMemory = NoMemory
