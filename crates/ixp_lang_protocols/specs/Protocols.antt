-- Pipes and BGP sessions (BIRD 2 User's Guide, chapter "Protocols", BGP and Pipe).
use Rattle.std.specs.Prelude.{ℕ, Bool, true, false, List, [], ◌∷◌, codes, Option, Some, None, if◌then◌else◌}
use Rattle.ixp_num.specs.declared.addr.Addr.{Addr}
use Rattle.ixp_num.specs.declared.asn.Asn.{Asn}
use Rattle.ixp_num.specs.declared.family.Family.{Family}
use Rattle.ixp_num.specs.declared.family.Family.TheVariants.{V4, V6}
use Rattle.ixp_lang.specs.Trees.{device_item, pipe_item, bgp_item}
use Rattle.ixp_lang.specs.declared.item.Use.{Use}
use Rattle.ixp_lang.specs.declared.item.Use.TheVariants.{All, Nothing, Named}
use Rattle.ixp_lang.specs.declared.item.Pipe.{Pipe}
use Rattle.ixp_lang.specs.declared.item.Bgp.{Bgp}
use Rattle.ixp_lang_tokens.specs.declared.fault.Cause.{Cause}
use Rattle.ixp_lang_tokens.specs.declared.fault.Cause.TheVariants.{Unknown, Foreign}
use Rattle.ixp_lang_tokens.specs.declared.token.Kind.{Kind}
use Rattle.ixp_lang_tokens.specs.declared.token.Kind.TheVariants as kind
use Rattle.ixp_lang_tokens.specs.declared.token.Mark.TheVariants.{Semicolon, BlockOpen, BlockClose}
use Rattle.ixp_lang_tokens.specs.Grammars.{Grammar, gives, takes, sequence, choice, checks, here}
use Rattle.ixp_lang_tokens.specs.Pieces.{the_mark, the_word, a_name, a_number, an_addr}
use Rattle.ixp_lang_exprs.specs.declared.env.Declared.{Declared}
use Rattle.ixp_lang_exprs.specs.declared.env.Declared.TheVariants as declared
use Rattle.ixp_lang_exprs.specs.declared.env.Table.{Table}
use Rattle.ixp_lang_exprs.specs.Names.{Names, table_of}
use Rattle.ixp_lang_exprs.specs.Lists.{ended}
use Rattle.ixp_lang_exprs.specs.Sets.{unless_so}
use Rattle.ixp_lang_exprs.specs.Declarations.{Declares, standing, free_name}

-- What is let through.

abbrev pub is_filter : Option Declared → Bool
is_filter (Some declared.Filter) = true
is_filter _ = false

abbrev pub filter_name : Names → Grammar (List ℕ)
filter_name names = here (λ left. sequence a_name
    (λ name. checks (unless_so (is_filter (names name)) (Unknown, left)) (gives name)))

abbrev pub named_use : Names → Grammar Use
named_use names = sequence (the_word (codes "filter"))
    (λ tt. sequence (filter_name names) (λ name. ended Semicolon (Named name)))

-- `all`, `none` or a filter, and the semicolon
abbrev pub use_form : Names → Grammar Use
use_form names =
    choice (sequence (the_word (codes "all")) (λ tt. ended Semicolon All))
    (choice (sequence (the_word (codes "none")) (λ tt. ended Semicolon Nothing)) (named_use names))

pub record Ways : Type 0 where
  pub inward : Use
  pub outward : Use

abbrev pub ways_form : Names → Grammar Ways
ways_form names =
    sequence (the_word (codes "import")) (λ tt.
    sequence (use_form names) (λ inward.
    sequence (the_word (codes "export")) (λ tt.
    sequence (use_form names) (λ outward. gives (record { inward = inward; outward = outward })))))

-- Tables.

-- who wants a table: a pipe that fills it, the one pipe whose peer it is, or the one session that has it
pub data Owner : Type 0 where
  filler : Owner
  peer_pipe : Owner
  session : Owner

abbrev pub was_taken : Owner → Table → Bool
was_taken filler table = false
was_taken peer_pipe table = table.in_pipe
was_taken session table = table.in_session

abbrev pub now_taken : Owner → Table → Table
now_taken filler table = table
now_taken peer_pipe table = record table { in_pipe = true }
now_taken session table = record table { in_session = true }

abbrev pub taken_fault : Owner → Option Table → ℕ → Option (Cause × ℕ)
taken_fault owner None left = Some (Unknown, left)
taken_fault owner (Some table) left = if was_taken owner table then Some (Foreign, left) else None

abbrev pub marked : Owner → Names → List ℕ → Option Table → Names
marked owner names name None = names
marked owner names name (Some table) = standing names name (declared.Table (now_taken owner table))

-- a table's name, and what names stand for behind it
pub record Owned : Type 0 where
  pub name : List ℕ
  pub names : Names

abbrev pub owned_table : Owner → Names → Grammar Owned
owned_table owner names =
    sequence (the_word (codes "table")) (λ tt.
    here (λ left.
    sequence a_name (λ name.
    checks (taken_fault owner (table_of (names name)) left)
    (ended Semicolon (record { name = name; names = marked owner names name (table_of (names name)) })))))

-- Items.

-- what follows `protocol device`
abbrev pub device_end : Names → Grammar Declares
device_end names =
    choice (sequence (the_mark BlockOpen) (λ tt. ended BlockClose (device_item None, names)))
    (sequence (free_name names) (λ name.
    sequence (the_mark BlockOpen) (λ tt. ended BlockClose
    (device_item (Some name), standing names name declared.Protocol))))

abbrev pub pipe_with : List ℕ → List ℕ → List ℕ → Ways → Pipe
pipe_with name table peer ways =
    record { name = name; table = table; peer = peer; «import» = ways.inward; export = ways.outward }

-- the two tables of a pipe, and what names stand for behind them
pub record Ends : Type 0 where
  pub table : List ℕ
  pub peer : List ℕ
  pub names : Names

abbrev pub ends_with : List ℕ → Owned → Ends
ends_with table peer = record { table = table; peer = peer.name; names = peer.names }

abbrev pub ends_form : Names → Grammar Ends
ends_form names =
    sequence (owned_table filler names) (λ table.
    sequence (the_word (codes "peer")) (λ tt. sequence (owned_table peer_pipe table.names)
    (λ peer. gives (ends_with table.name peer))))

abbrev pub piped : List ℕ → Ends → Ways → Declares
piped name ends ways =
    (pipe_item (pipe_with name ends.table ends.peer ways), standing ends.names name declared.Protocol)

-- what follows `protocol pipe`
abbrev pub pipe_end : Names → Grammar Declares
pipe_end names =
    sequence (free_name names) (λ name.
    sequence (the_mark BlockOpen) (λ tt.
    sequence (ends_form names) (λ ends. sequence (ways_form ends.names)
    (λ ways. ended BlockClose (piped name ends ways)))))

-- `as NUM;`
abbrev pub as_number_form : Grammar Asn
as_number_form = sequence (the_word (codes "as"))
    (λ tt. sequence a_number (λ n. ended Semicolon (record { 0 = n })))

-- this end of a session, with or without its address
pub record Local : Type 0 where
  pub addr : Option Addr
  pub asn : Asn

abbrev pub local_with : Option Addr → Asn → Local
local_with addr asn = record { addr = addr; asn = asn }

abbrev pub local_form : Grammar Local
local_form =
    sequence (the_word (codes "local")) (λ tt.
    choice (sequence an_addr (λ addr. sequence as_number_form (λ asn. gives (local_with (Some addr) asn))))
    (sequence as_number_form (λ asn. gives (local_with None asn))))

pub record Neighbor : Type 0 where
  pub addr : Addr
  pub asn : Asn

abbrev pub neighbor_form : Grammar Neighbor
neighbor_form =
    sequence (the_word (codes "neighbor")) (λ tt. sequence an_addr
    (λ addr. sequence as_number_form (λ asn. gives (record { addr = addr; asn = asn }))))

abbrev pub client_form : Grammar Bool
client_form = choice (sequence (the_word (codes "rs"))
    (λ tt. sequence (the_word (codes "client")) (λ tt. ended Semicolon true))) (gives false)

abbrev pub string_in : Kind → Option (List ℕ)
string_in (kind.Text text) = Some text
string_in _ = None

abbrev pub password_form : Grammar (Option (List ℕ))
password_form = choice (sequence (the_word (codes "password"))
    (λ tt. sequence (takes string_in) (λ text. ended Semicolon (Some text)))) (gives None)

abbrev pub limit_form : Grammar (Option ℕ)
limit_form =
    choice
    (sequence (the_word (codes "import")) (λ tt.
    sequence (the_word (codes "limit")) (λ tt.
    sequence a_number (λ n.
    sequence (the_word (codes "action")) (λ tt.
    sequence (the_word (codes "block")) (λ tt. ended Semicolon (Some n)))))))
    (gives None)

abbrev pub family_form : Grammar Family
family_form = choice (sequence (the_word (codes "ipv4")) (λ tt. gives V4))
    (sequence (the_word (codes "ipv6")) (λ tt. gives V6))

-- a session's channel, and what names stand for behind it
pub record Channel : Type 0 where
  pub family : Family
  pub table : List ℕ
  pub ways : Ways
  pub limit : Option ℕ
  pub names : Names

abbrev pub channel_form : Names → Grammar Channel
channel_form names =
    sequence family_form (λ family.
    sequence (the_mark BlockOpen) (λ tt.
    sequence (owned_table session names) (λ table.
    sequence (ways_form table.names) (λ ways.
    sequence limit_form (λ limit.
    sequence (the_mark BlockClose) (λ tt.
    ended Semicolon (record { family = family; table = table.name; ways = ways; limit = limit; names = table.names })))))))

-- what a session says of its two ends
pub record Peering : Type 0 where
  pub here_ : Local
  pub there : Neighbor
  pub rs_client : Bool
  pub password : Option (List ℕ)

abbrev pub peering_form : Grammar Peering
peering_form =
    sequence local_form (λ here_.
    sequence neighbor_form (λ there.
    sequence client_form (λ rs_client.
    sequence password_form (λ password. gives
    (record { here_ = here_; there = there; rs_client = rs_client; password = password })))))

abbrev pub session_with : List ℕ → Peering → Channel → Bgp
session_with name peering channel = record {
  name = name;
  local = peering.here_.addr;
  own = peering.here_.asn;
  neighbor = peering.there.addr;
  asn = peering.there.asn;
  rs_client = peering.rs_client;
  password = peering.password;
  family = channel.family;
  table = channel.table;
  «import» = channel.ways.inward;
  export = channel.ways.outward;
  limit = channel.limit;
}

abbrev pub peered : List ℕ → Peering → Channel → Declares
peered name peering channel =
    (bgp_item (session_with name peering channel), standing channel.names name declared.Protocol)

-- what follows `protocol bgp`
abbrev pub bgp_end : Names → Grammar Declares
bgp_end names =
    sequence (free_name names) (λ name.
    sequence (the_mark BlockOpen) (λ tt.
    sequence peering_form (λ peering. sequence (channel_form names)
    (λ channel. ended BlockClose (peered name peering channel)))))

-- what follows `protocol`
abbrev pub protocol_end : Names → Grammar Declares
protocol_end names =
    choice (sequence (the_word (codes "device")) (λ tt. device_end names))
    (choice (sequence (the_word (codes "pipe")) (λ tt. pipe_end names))
    (sequence (the_word (codes "bgp")) (λ tt. bgp_end names)))
