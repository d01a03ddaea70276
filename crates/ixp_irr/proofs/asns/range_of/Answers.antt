use Rattle.ixp_irr.proofs.Texts.{no_range, parts_of_range}
use Rattle.ixp_irr.proofs.asns.range_of.Goals as goal

pub returns-in_default : goal.returns-in_default
returns-in_default c = no_range c.args.t.now c.in_default.ensures

pub returns-in_default-asn_of : goal.returns-in_default-asn_of
returns-in_default-asn_of c (r, is) =
    c.in_default-asn_of.ensures (r.0, (parts_of_range c.args.t.now c.in-Some.front.now c.in-Some.behind.now c.in-Some.ensures.0 c.in-Some.ensures.1 r is).0)

pub returns-in_default-asn_of-2 : goal.returns-in_default-asn_of-2
returns-in_default-asn_of-2 c (r, is) =
    c.in_default-asn_of-2.ensures (r.1, (parts_of_range c.args.t.now c.in-Some.front.now c.in-Some.behind.now c.in-Some.ensures.0 c.in-Some.ensures.1 r is).1)
