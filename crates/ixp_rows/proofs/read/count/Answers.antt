use Rattle.ixp_rows.proofs.Counts.{counted}
use Rattle.ixp_rows.proofs.read.count.Goals as goal

pub returns : goal.returns
returns c = counted c.args._version c.args.rows.now c.sum.result (rw (c.len.ensures, c.len-2.ensures, c.len-3.ensures, c.len-4.ensures, c.len-5.ensures, c.len-6.ensures, c.len-7.ensures, c.len-8.ensures, c.len-9.ensures, c.len-10.ensures, c.len-11.ensures, c.len-12.ensures, c.len-13.ensures, c.len-14.ensures, c.len-15.ensures, c.len-16.ensures) at c.sum.ensures)
