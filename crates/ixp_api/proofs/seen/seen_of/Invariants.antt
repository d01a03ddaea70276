use Rattle.std.proofs.Common.{◌≡◌}
use Rattle.form_urlencoded.specs.Form.{raw_pairs}
use Rattle.form_urlencoded.specs.Parse.{raw_pairs_left}
use Rattle.ixp_api.specs.Heads.{seen_in}
use Rattle.ixp_api.proofs.seen.seen_of.Given as goal

abbrev pub invariant-loop-name : goal.invariant-loop-name
invariant-loop-name l = seen_in (raw_pairs l.query) ≡ seen_in (raw_pairs_left l.name-iterator)
