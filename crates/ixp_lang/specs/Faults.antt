-- What can go wrong while a filter runs.
use Rattle.std.specs.Prelude.{ℕ, List}

pub data Fault : Type 0 where
  -- a part of a pair is above 65535: that part
  pair_range : ℕ → Fault
  -- a function was called for its value and ended without `return`: its name
  no_return : List ℕ → Fault
  -- a filter ended without a verdict: its name
  no_verdict : List ℕ → Fault
  -- no filter, function or session has the name
  no_filter : List ℕ → Fault

-- why a function that is called from outside gives no value
pub data CallFault : Type 0 where
  -- it fails
  failed : Fault → CallFault
  -- it accepts or rejects the route
  ended : CallFault
