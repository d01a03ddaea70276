-- A fault of a keeper's call is the keeper's.
use Rattle.ixp_io.specs.declared.keeper.KeepFault.{KeepFault}
use Rattle.ixp_io.specs.declared.keeper.KeepFault.TheVariants.{Failed, NoMemory}
use Rattle.ixp_store_words.specs.Faults.{fault_of, IsKeepers}

pub keepers : (fault : KeepFault) → IsKeepers (fault_of fault)
keepers Failed = tt
keepers NoMemory = tt
