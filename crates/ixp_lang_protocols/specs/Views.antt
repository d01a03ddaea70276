-- What the program's own values say, in the words of the grammar.
use Rattle.std.specs.Prelude.{ℕ, List}
use Rattle.ixp_lang_tokens.specs.Grammars.{Grammar, takes}
use Rattle.ixp_lang_exprs.specs.Names.{Names}
use Rattle.ixp_lang_protocols.specs.Protocols as grammar
use Rattle.ixp_lang_protocols.specs.declared.pipe.Ends.{Ends}
use Rattle.ixp_lang_protocols.specs.declared.session.Channel.{Channel}
use Rattle.ixp_lang_protocols.specs.declared.session.Local.{Local}
use Rattle.ixp_lang_protocols.specs.declared.session.Neighbor.{Neighbor}
use Rattle.ixp_lang_protocols.specs.declared.session.Peering.{Peering}
use Rattle.ixp_lang_protocols.specs.declared.tables.Owner.{Owner}
use Rattle.ixp_lang_protocols.specs.declared.tables.Owner.TheVariants as owner
use Rattle.ixp_lang_protocols.specs.declared.ways.Ways.{Ways}

abbrev pub a_string : Grammar (List ℕ)
a_string = takes grammar.string_in

abbrev pub ways_of : Ways → grammar.Ways
ways_of w = record { inward = w.import; outward = w.export }

abbrev pub owner_of : Owner → grammar.Owner
owner_of owner.Pipe = grammar.filler
owner_of owner.Peer = grammar.peer_pipe
owner_of owner.Session = grammar.session

-- a table's name, where names stand for this
abbrev pub owned_of : List ℕ → Names → grammar.Owned
owned_of name names = record { name = name; names = names }

abbrev pub ends_of : Ends → Names → grammar.Ends
ends_of e names = record { table = e.table; peer = e.peer; names = names }

abbrev pub local_of : Local → grammar.Local
local_of l = record { addr = l.addr; asn = l.asn }

abbrev pub neighbor_of : Neighbor → grammar.Neighbor
neighbor_of n = record { addr = n.addr; asn = n.asn }

abbrev pub peering_of : Peering → grammar.Peering
peering_of p =
    record { here_ = local_of p.local; there = neighbor_of p.neighbor; rs_client = p.rs_client; password = p.password }

abbrev pub channel_of : Channel → Names → grammar.Channel
channel_of c names =
    record { family = c.family; table = c.table; ways = ways_of c.ways; limit = c.limit; names = names }
