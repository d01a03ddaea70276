-- How many parts of the demo exchange's text are regenerated, when the rules of one member after the other
-- are set.
use Rattle.std.specs.Prelude.{ℕ, zero, suc, ◌+◌, ◌%◌, min, Bool, true, false, List, [], ◌∷◌, ◌++◌, None, codes, length}
use Rattle.std.proofs.Common.{lit<, refl}
use Rattle.std.proofs.Math.Nat.{lt_of_le_of_lt, mod-lt, zero-lt-suc}
use Rattle.ixp_registry.specs.declared.rules.Action.TheVariants.{AsIs}
use Rattle.ixp_registry.specs.declared.rules.Way.TheVariants.{Advertise}
use Rattle.ixp_machine_edits.specs.declared.edit.Edit.TheVariants.{SetRules}
use Rattle.ixp_machine_edits.specs.declared.edit.NewRule.{NewRule}
use Rattle.ixp_machine_edits.specs.Edits.{change, next}
use Rattle.ixp_machine_steps.specs.declared.state.Entry.{Entry}
use Rattle.ixp_machine_steps.specs.declared.state.State.{State}
use Rattle.ixp_machine_steps.specs.Steps.{Verdict, Accepted, Repeated, Reused, Refused, step, verdict}
use Rattle.ixp_machine_steps.specs.Openings.{first_state}
use Rattle.ixp_registry_demo.specs.Demo.{demo}
use Rattle.ixp_build_demo.specs.Counts.{line}
use Rattle.ixp_build_pending.specs.declared.touch.Touch.{Touch}
use Rattle.ixp_build_touches.specs.Touched.{reached, with_after}

-- routes are advertised to everybody as they are
abbrev pub demo_rule : NewRule
demo_rule = record { way = Advertise; peer = None; prefix = None; action = AsIs }

-- The staff sets the rules of member k + 1, with that number of a request; k is below 100.
abbrev pub demo_request : ℕ → Entry
demo_request k = record {
  secret = codes "staff00000000001";
  number = suc (k % 100);
  edit = SetRules (suc (k % 100)) (demo_rule ∷ []);
  counted = zero-lt-suc (k % 100);
  small = lt_of_le_of_lt (mod-lt k {m = 100} (lit< tt)) (lit< tt);
  family = refl;
  rules = refl;
}

-- so many requests, from that of member k + 1 on
abbrev pub requests_from : ℕ → ℕ → List Entry
requests_from k zero = []
requests_from k (suc more) = demo_request k ∷ requests_from (suc k) more

-- for each member, and for the first hundred where there are more
abbrev pub demo_requests : ℕ → List Entry
demo_requests n = requests_from 0 (min n 100)

abbrev pub when_accepted : Verdict → ℕ → ℕ
when_accepted Accepted n = n
when_accepted Repeated n = 0
when_accepted (Reused kind subject) n = 0
when_accepted (Refused x) n = 0

-- what a request touches, if it is accepted
abbrev pub touched_by : State → Entry → Touch
touched_by s e = with_after (reached s.registry (change s.registry e.edit)) (next s.registry e.edit)

-- how many parts a request touches
abbrev pub parts_touched : State → Entry → ℕ
parts_touched s e = when_accepted (verdict s e) (length (touched_by s e).sessions)

-- how many are regenerated, if those that it touches are after each request
abbrev pub parts_made : State → List Entry → ℕ
parts_made s [] = 0
parts_made s (e ∷ es) = parts_touched s e + parts_made (step s e) es

-- how many are regenerated of the demo exchange with n members
abbrev pub rebuilt : ℕ → ℕ
rebuilt n = parts_made (first_state (demo n)) (demo_requests n)

abbrev pub equal_text : Bool → List ℕ
equal_text true = codes "equal yes\n"
equal_text false = codes "equal no\n"

-- What is told: how many, and whether the text is that of full generation.
abbrev pub builds_text : ℕ → Bool → List ℕ
builds_text n equal = line (codes "rebuilt ") n ++ equal_text equal
