use Rattle.std.proofs.Common.{arith}
use Rattle.ixp_io.proofs.Streams.{Rose-since}
use Rattle.ixp_desk_rtr.proofs.Links.{going_ends, going_more, going_spent}
use Rattle.ixp_desk_rtr.proofs.link.rtr_link.Goals as goal

pub loop-answered-preserved : goal.loop-answered-preserved
loop-answered-preserved g c =
    let reads = c.loop-answered.invariant.reads in
    let more = c.exchange.ensures.reads in
    let writes = c.loop-answered.invariant.writes in
    let further = c.exchange.ensures.writes in
    record {
      going = going_more _ _ _ _ _ _ _ _ c.loop-answered._answered c.exchange.result c.in_default.is c.loop-answered.invariant.going c.exchange.ensures.steps;
      reads = omega (arith, reads, more);
      writes = omega (arith, writes, further);
    }

pub returns-in-Some-clause-serves : goal.returns-in-Some-clause-serves
returns-in-Some-clause-serves g c =
    going_ends _ _ _ _ _ _ _ _ _ _ c.loop-answered._answered c.exchange.result c.in-Some.end c.in-Some.is (let less = c.loop-answered-test.true in omega (arith, less))
    (Rose-since _ _ _ c.loop-answered.invariant.reads) (Rose-since _ _ _ c.loop-answered.invariant.writes) c.loop-answered.invariant.going c.exchange.ensures.steps
