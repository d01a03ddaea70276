-- The fields of bodies, and pointers to them.
use Rattle.std.specs.Prelude.{ℕ, List, [], ◌++◌, decimal, codes}
use Rattle.ixp_api_json.specs.declared.field.Field.{Field}
use Rattle.ixp_api_json.specs.declared.field.Field.TheVariants as field
use Rattle.ixp_api_json.specs.declared.pointer.Pointer.{Pointer}
use Rattle.ixp_api_json.specs.declared.pointer.Pointer.TheVariants.{Whole, At, In, Item, Line, Lines, RequestNumber, Seen}

-- the field's name in a body
abbrev pub word_of : Field → List ℕ
word_of field.Number = codes "number"
word_of field.Asn = codes "asn"
word_of field.Name = codes "name"
word_of field.To = codes "to"
word_of field.Macro = codes "macro"
word_of field.Mail = codes "mail"
word_of field.Role = codes "role"
word_of field.Secret = codes "secret"
word_of field.Kind = codes "kind"
word_of field.Owner = codes "owner"
word_of field.Switch = codes "switch"
word_of field.Speed = codes "speed"
word_of field.Member = codes "member"
word_of field.Tag = codes "tag"
word_of field.V4 = codes "v4"
word_of field.V6 = codes "v6"
word_of field.Port = codes "port"
word_of field.Vlan = codes "vlan"
word_of field.Address = codes "address"
word_of field.MaxPrefix = codes "max_prefix"
word_of field.Rs = codes "rs"
word_of field.Irr = codes "irr"
word_of field.More = codes "more"
word_of field.Handle = codes "handle"
word_of field.Family = codes "family"
word_of field.Id = codes "id"
word_of field.Low = codes "low"
word_of field.High = codes "high"
word_of field.Rpki = codes "rpki"
word_of field.Blackhole = codes "blackhole"
word_of field.MaxComms = codes "max_comms"
word_of field.Way = codes "way"
word_of field.Peer = codes "peer"
word_of field.Prefix = codes "prefix"
word_of field.Action = codes "action"
word_of field.Net = codes "net"
word_of field.Path = codes "path"
word_of field.NextHop = codes "nexthop"
word_of field.Pairs = codes "pairs"
word_of field.Triples = codes "triples"
word_of field.Peers = codes "peers"
word_of field.Routes = codes "routes"

-- The text of a pointer (RFC 6901): a field, a field of an item or an item of a field, which are counted from
-- 0; a line that is no item of a list, which are counted from 1, or how many items there are; what stands
-- beside the body.
abbrev pub pointer_text : Pointer → List ℕ
pointer_text Whole = []
pointer_text (At f) = codes "/" ++ word_of f
pointer_text (In place f) = codes "/" ++ (decimal place ++ (codes "/" ++ word_of f))
pointer_text (Item f place) = codes "/" ++ (word_of f ++ (codes "/" ++ decimal place))
pointer_text (Line n) = codes "/line/" ++ decimal n
pointer_text (Lines have) = codes "/lines/" ++ decimal have
pointer_text RequestNumber = codes "/number"
pointer_text Seen = codes "/seen"
