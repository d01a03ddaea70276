-- Which calls of an object in memory fail.
use Rattle.std.specs.Prelude.{Bool, ◌||◌, ◌==◌, if◌then◌else◌}
use Rattle.std.specs.List.{list_any}
use Rattle.ixp_io.specs.declared.plan.Plan.{Plan}
use Rattle.ixp_io.specs.Faults.{last_count, counted}

-- the next call fails: its number is in the list, or the faults can't be counted any more
abbrev pub fails_next : Plan → Bool
fails_next plan = plan.faults == last_count || list_any (λ number. number == counted plan.calls) plan.failing

-- the plan after one more call
abbrev pub after_call : Plan → Plan
after_call plan = record plan {
  calls = counted plan.calls;
  faults = if fails_next plan then counted plan.faults else plan.faults;
}
