-- What a refusal of the database is to a keeper: running out of memory is answered as such, and every other
-- refusal is a counted fault.
use Rattle.std.specs.Prelude.{ℕ, Result, Ok, Err}
use Rattle.ixp_io.specs.declared.keeper.KeepFault.{KeepFault}
use Rattle.ixp_io.specs.declared.keeper.KeepFault.TheVariants.{Failed, NoMemory}
use Rattle.sqlite.specs.declared.error.Error.{Error}
use Rattle.sqlite.specs.declared.error.Error.TheVariants.{SqliteFailure}
use Rattle.sqlite.specs.declared.error.ErrorCode.{ErrorCode}
use Rattle.sqlite.specs.declared.error.ErrorCode.TheVariants as code
use Rattle.sqlite_trees.specs.declared.error.StoreError.{StoreError}
use Rattle.sqlite_trees.specs.declared.error.StoreError.TheVariants as store

-- a failure of the store as the connection tells it
abbrev pub code_of : StoreError → ErrorCode
code_of store.OutOfMemory = code.OutOfMemory
code_of store.Io = code.SystemIoFailure
code_of store.Corrupt = code.DatabaseCorrupt
code_of store.Full = code.DiskFull
code_of store.Broken = code.Closed
code_of store.Unstorable = code.TooBig

abbrev pub refusal_of : StoreError → Error
refusal_of e = SqliteFailure (code_of e)

abbrev pub told : {X : Type 0} → Result X StoreError → Result X Error
told (Ok x) = Ok x
told (Err e) = Err (refusal_of e)

-- the fault that a keeper answers
abbrev pub answer_to : Error → KeepFault
answer_to (SqliteFailure code.OutOfMemory) = NoMemory
answer_to other = Failed

-- what that adds to the count of faults
abbrev pub counted_for : KeepFault → ℕ
counted_for NoMemory = 0
counted_for Failed = 1
