-- The fault of a load by that of its keeper.
use Rattle.ixp_io.specs.declared.keeper.KeepFault.{KeepFault}
use Rattle.ixp_io.specs.declared.keeper.KeepFault.TheVariants as keep
use Rattle.ixp_store_words.specs.declared.fault.LoadFault.{LoadFault}
use Rattle.ixp_store_words.specs.declared.fault.LoadFault.TheVariants.{KeeperFault, NoMemory}

-- the fault of a keeper's call
abbrev pub fault_of : KeepFault → LoadFault
fault_of keep.Failed = KeeperFault
fault_of keep.NoMemory = NoMemory

-- it is such a fault
abbrev pub IsKeepers : LoadFault → Type 0
IsKeepers KeeperFault = Unit {0}
IsKeepers NoMemory = Unit {0}
IsKeepers fault = ⊥
