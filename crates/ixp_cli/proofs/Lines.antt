-- Lines that are written one after the other.
use Rattle.std.proofs.Common.{◌≤◌, ℕ, Option, List, [], ◌++◌}
use Rattle.ixp_io.specs.Faults.{Rose}
use Rattle.ixp_io.specs.Told.{Takes, TakesPart}
use Rattle.ixp_io.proofs.Streams.{Takes-none}
use Rattle.ixp_cli_plain.proofs.Telling.{rose_since, takes_front, takes_on, takes_then}

pub both : (a b c : Option (List ℕ)) (x y : List ℕ) → Takes a b x → Takes b c y → Takes a c (x ++ y)
both = takes_then

pub since : (a b c : ℕ) → a ≤ b → Rose b c → Rose a c
since = rose_since

pub front : (a b : Option (List ℕ)) (x y : List ℕ) → TakesPart a b x → TakesPart a b (x ++ y)
front = takes_front

pub on : (a b c : Option (List ℕ)) (x y : List ℕ) → Takes a b x → TakesPart b c y → TakesPart a c (x ++ y)
on = takes_on

pub none : (a : Option (List ℕ)) → Takes a a []
none = Takes-none

pub ruleset lines = (both, since, front, on, none)
