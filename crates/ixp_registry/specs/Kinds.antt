-- The kinds of rows.
use Rattle.std.specs.Prelude.{ℕ, List, codes}
use Rattle.ixp_registry.specs.declared.kind.Kind.{Kind}
use Rattle.ixp_registry.specs.declared.kind.Kind.TheVariants.{Sites, Members, Contacts, Keys, Switches, Ports, Vlans, Interfaces, Addresses, Routers, Prefixes, Origins, Rules, Bogons, BogonAs, Transit, Roas}

-- the word with which the lines of a kind begin
abbrev pub word_of : Kind → List ℕ
word_of Sites = codes "site"
word_of Members = codes "member"
word_of Contacts = codes "contact"
word_of Keys = codes "key"
word_of Switches = codes "switch"
word_of Ports = codes "port"
word_of Vlans = codes "vlan"
word_of Interfaces = codes "interface"
word_of Addresses = codes "address"
word_of Routers = codes "router"
word_of Prefixes = codes "prefix"
word_of Origins = codes "origin"
word_of Rules = codes "rule"
word_of Bogons = codes "bogon"
word_of BogonAs = codes "bogon-as"
word_of Transit = codes "transit"
word_of Roas = codes "roa"
