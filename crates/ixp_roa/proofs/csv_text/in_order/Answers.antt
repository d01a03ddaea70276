use Rattle.std.proofs.Common.{◌≤◌, length, arith}
use Rattle.ixp_roa.proofs.csv_text.in_order.Goals as goal

pub returns-then-most-len : goal.returns-then-most-len
returns-then-most-len c =
    let have = c.len.ensures in
    let again = c.len-then-most-len.ensures in
    (c.from_items-sorted.result, c.from_items-sorted.ensures, omega arith, omega arith)

pub returns : goal.returns
returns c =
    let have = c.len.ensures in
    let few : length c.from_items-sorted.result ≤ c.args.most = omega arith in
    (c.from_items-sorted.ensures, few)
