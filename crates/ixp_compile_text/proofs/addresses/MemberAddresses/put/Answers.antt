use Rattle.std.proofs.Common.{Some}
use Rattle.ixp_compile_text.specs.Addresses.{listed_in, listed_of}
use Rattle.ixp_compile_text.proofs.Ascending.{address_put, listed_after}
use Rattle.ixp_compile_text.proofs.addresses.MemberAddresses.put.Goals as goal

pub returns : goal.returns
returns c =
    address_put (listed_of c.args.self.now) (listed_of c.take-table.new.self) (listed_in c.insert.new.self) c.args.member (record { addr = c.args.addr }) c.take-table.result c.put.new.self
    c.take-table.ensures.addresses c.in_ok-put.ensures.ok c.take-table.ensures.others
    (listed_after c.take-table.new.self.by_member c.insert.new.self c.args.member (Some c.put.new.self) c.in_ok-insert.ensures.updates)
