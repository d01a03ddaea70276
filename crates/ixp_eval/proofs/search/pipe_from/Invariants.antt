use Rattle.std.proofs.Common.{◌≡◌, drop}
use Rattle.ixp_eval.specs.Indexed.{items_of}
use Rattle.ixp_eval.specs.Places.{is_from}
use Rattle.ixp_eval.proofs.Piping.{first_at}
use Rattle.ixp_eval.proofs.search.pipe_from.Given as goal

abbrev pub invariant-each : goal.invariant-each
invariant-each l = first_at (is_from l.table) (items_of l.index) (drop l.place-index l.places) ≡ first_at (is_from l.table) (items_of l.index) l.places
