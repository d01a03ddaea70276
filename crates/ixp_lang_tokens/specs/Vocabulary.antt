-- The words of the language: those of this profile, and those of BIRD 2 (User's Guide, "Filters") that it
-- leaves out.
use Rattle.std.specs.Prelude.{ℕ, List, [], ◌∷◌, ◌++◌, codes}

abbrev pub profile_words : List (List ℕ)
profile_words =
    -- items
    codes "router" ∷ codes "id" ∷ codes "table" ∷ codes "ipv4" ∷ codes "ipv6" ∷ codes "roa4" ∷ codes "roa6"
    ∷ codes "define" ∷ codes "function" ∷ codes "filter" ∷ codes "protocol" ∷ codes "device" ∷ codes "pipe"
    ∷ codes "bgp"
    -- what stands in a protocol
    ∷ codes "peer" ∷ codes "import" ∷ codes "export" ∷ codes "all" ∷ codes "none" ∷ codes "local" ∷ codes "as"
    ∷ codes "neighbor" ∷ codes "rs" ∷ codes "client" ∷ codes "password" ∷ codes "limit" ∷ codes "action"
    ∷ codes "block"
    -- types
    ∷ codes "int" ∷ codes "bool" ∷ codes "ip" ∷ codes "prefix" ∷ codes "pair" ∷ codes "lc" ∷ codes "set"
    -- statements
    ∷ codes "if" ∷ codes "then" ∷ codes "else" ∷ codes "case" ∷ codes "return" ∷ codes "accept" ∷ codes "reject"
    ∷ codes "prepend" ∷ codes "add" ∷ codes "delete"
    -- expressions
    ∷ codes "true" ∷ codes "false" ∷ codes "net" ∷ codes "from" ∷ codes "len" ∷ codes "first" ∷ codes "last"
    ∷ codes "bgp_path" ∷ codes "bgp_next_hop" ∷ codes "bgp_community" ∷ codes "bgp_large_community"
    ∷ codes "roa_check" ∷ codes "ROA_VALID" ∷ codes "ROA_INVALID" ∷ codes "ROA_UNKNOWN" ∷ []

abbrev pub foreign_words : List (List ℕ)
foreign_words =
    codes "print" ∷ codes "printn" ∷ codes "for" ∷ codes "attribute" ∷ codes "template" ∷ codes "include"
    ∷ codes "rpki" ∷ codes "static" ∷ codes "kernel" ∷ codes "bfd" ∷ codes "ospf"
    ∷ codes "string" ∷ codes "quad" ∷ codes "ec" ∷ codes "clist" ∷ codes "eclist" ∷ codes "lclist"
    ∷ codes "bgppath" ∷ codes "bgpmask" ∷ codes "bgp_ext_community" ∷ []

-- the words of the profile, then the others
abbrev pub all_words : List (List ℕ)
all_words = profile_words ++ foreign_words
