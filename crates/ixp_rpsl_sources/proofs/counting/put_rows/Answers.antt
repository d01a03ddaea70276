use Rattle.std.proofs.Common.{◌≡◌, true, subst}
use Rattle.ixp_rpsl_sources.specs.Told.{PutsClaimed, places_at}
use Rattle.ixp_rpsl_sources.proofs.Claiming.{puts_rows}
use Rattle.ixp_rpsl_sources.proofs.counting.put_rows.Goals as goal

pub returns : goal.returns
returns c =
    puts_rows c.args.sources.now c.args.index.now c.args.places.now c.args.claims.now c.args.object c.args.rows.now c.put_named.new.rows c.put_if.new.members c.is_wanted-wanted.result
    c.counting_name-own.result c.in_ok-sourced.sourced c.is_wanted-wanted.ensures c.in_ok-sourced.ensures.counts c.in_ok-sourced.ensures.rows c.counting_name-own.ensures
    (subst (λ refs. c.is_wanted-wanted.result ≡ true → PutsClaimed c.args.index.now refs c.args.claims.now (places_at c.args.places.now c.args.object.name) c.args.object.members c.put_if.new.members)
    c.as_slice.ensures c.in_ok-put_if.ensures) c.in_ok-put_named.ensures
