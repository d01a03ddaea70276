use Rattle.ixp_rows.proofs.Gathered.{addresses_behind}
use Rattle.ixp_rows.proofs.gathering.with_addresses.Goals as goal

pub returns-clause-behind : goal.returns-clause-behind
returns-clause-behind c =
    addresses_behind c.args.row.now.number c.args.addresses.now.items c.next_address-v4.new.addresses.items c.next_address-v6.new.addresses.items c.next_address-v4.result c.next_address-v6.result
    c.next_address-v4.ensures.taken c.next_address-v6.ensures.taken c.next_address-v4.ensures.missed c.next_address-v6.ensures.missed
