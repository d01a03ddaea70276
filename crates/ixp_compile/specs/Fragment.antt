-- A session's part of a route server's text: its table, the member's lists, its filters, and its two
-- protocols.
use Rattle.std.specs.Prelude.{ℕ, ◌==◌, true, List, [], ◌∷◌, ◌++◌, Option, Some, None, is_none, codes, if◌then◌else◌}
use Rattle.ixp_num.specs.declared.addr.Addr.{Addr}
use Rattle.ixp_num.specs.declared.asn.Asn.{Asn}
use Rattle.ixp_num.specs.declared.family.Family.{Family}
use Rattle.ixp_num.specs.declared.pattern.Pattern.{Pattern}
use Rattle.ixp_num.specs.declared.roa.Validity.{Validity}
use Rattle.ixp_num.specs.declared.roa.Validity.TheVariants.{Valid, Invalid}
use Rattle.ixp_lang.specs.declared.communities.TheConstants.{FINDING, ORIGIN_STATE, REFUSED}
use Rattle.ixp_lang.specs.declared.expr.Attr.TheVariants as attr
use Rattle.ixp_lang.specs.declared.expr.Op.TheVariants as op
use Rattle.ixp_lang.specs.declared.item.Bgp.{Bgp}
use Rattle.ixp_lang.specs.declared.item.Pipe.{Pipe}
use Rattle.ixp_lang.specs.declared.item.Use.TheVariants.{Named}
use Rattle.ixp_lang.specs.declared.value.SetLit.TheVariants as set
use Rattle.ixp_lang.specs.declared.value.Value.TheVariants as value
use Rattle.ixp_lang.specs.Trees.{ExprTree, literal, named, attribute, call, roa_check, set_literal, negation, comparison, exprs, StmtTree, if_then, accept, reject, call_statement, delete_triples, stmts, ItemTree, table_item, function_item, filter_item, pipe_item, bgp_item}
use Rattle.ixp_compile.specs.declared.inputs.Inputs.{Inputs}
use Rattle.ixp_compile.specs.Pieces.{int, compared, all_large, numbers, when, run, drop_with, tell, in_turn, defined, numbered, master, roas, table_kind}
use Rattle.ixp_compile.specs.MemberRules.{advertise_rules, receive_body}

-- Names.

abbrev pub table_name : ℕ → List ℕ
table_name n = numbered (codes "t_") n

abbrev pub irr_name : ℕ → List ℕ
irr_name n = numbered (codes "irr_") n

abbrev pub origins_name : ℕ → List ℕ
origins_name n = numbered (codes "org_") n

abbrev pub blackhole_name : ℕ → List ℕ
blackhole_name n = numbered (codes "bh_") n

abbrev pub in_name : ℕ → List ℕ
in_name n = numbered (codes "in_") n

abbrev pub up_name : ℕ → List ℕ
up_name n = numbered (codes "up_") n

abbrev pub receive_name : ℕ → List ℕ
receive_name n = numbered (codes "rx_") n

abbrev pub down_name : ℕ → List ℕ
down_name n = numbered (codes "down_") n

abbrev pub pipe_name : ℕ → List ℕ
pipe_name n = numbered (codes "pp_") n

abbrev pub bgp_name : ℕ → List ℕ
bgp_name n = numbered (codes "b_") n

-- The member's lists: `irr` and `blackholes` are the sets of nets that its prefixes allow, and allow for
-- blackhole routes.

abbrev pub if_held : Inputs → List ItemTree → List ItemTree
if_held i items = if i.address.irr then items else []

abbrev pub if_blackholes : Inputs → List ItemTree → List ItemTree
if_blackholes i items = if is_none i.blackhole then [] else items

abbrev pub member_sets : Inputs → List Pattern → List Pattern → List ItemTree
member_sets i irr blackholes =
    if_held i
    (in_turn
    (defined (irr_name i.interface) set.Prefixes irr
    ∷ defined (origins_name i.interface) numbers i.origins
    ∷ if_blackholes i (defined (blackhole_name i.interface) set.Prefixes blackholes)
    ∷ []))

-- The import filter: it takes the route server's own communities off, tells what it finds, and accepts every
-- route; one that is refused stays in the session's table, with its number.

-- the next hop is the session's address, or else another one of the member's
abbrev pub next_hop_test : Inputs → StmtTree
next_hop_test i =
    when (compared op.Ne attr.NextHop (attribute attr.From))
    (if_then (compared op.In attr.NextHop (set_literal (set.Ips i.addresses)))
    (stmts (tell i.rs.0 FINDING 1200 ∷ []))
    (stmts (drop_with 8 ∷ []))
    ∷ [])

-- a member that is one of the networks that buy no transit may have them in its paths
abbrev pub transit_test : Inputs → List StmtTree
transit_test i = if i.transit_free then [] else run (codes "ixp_transit") ∷ []

-- the origin is one that the member has registered
abbrev pub registered_origin : Inputs → List Asn → List StmtTree
registered_origin i [] = tell i.rs.0 FINDING 1002 ∷ drop_with 10 ∷ []
registered_origin i (a ∷ asns) =
    when (compared op.NotIn attr.Last (named (origins_name i.interface))) (drop_with 10 ∷ []) ∷ []

abbrev pub origin_test : Inputs → List StmtTree
origin_test i = if i.address.irr then registered_origin i i.origins else tell i.rs.0 FINDING 2 ∷ []

-- the net is in the defined set; no net is in one that would be empty
abbrev pub net_test : List ℕ → List Pattern → StmtTree
net_test name [] = drop_with 9
net_test name (t ∷ ts) = when (compared op.NotIn attr.Net (named name)) (drop_with 9 ∷ [])

abbrev pub told_registered : Inputs → List StmtTree
told_registered i = if i.address.irr then tell i.rs.0 FINDING 1 ∷ [] else []

-- the blackhole routes of a member that isn't held to its lists are in no set
abbrev pub blackhole_set : Inputs → List Pattern → List Pattern
blackhole_set i blackholes = if i.address.irr then blackholes else []

-- a blackhole route goes by the member's prefixes alone, and may be longer than they are
abbrev pub blackhole_test : Inputs → List Pattern → Option Addr → List StmtTree
blackhole_test i blackholes None = []
blackhole_test i blackholes (Some a) =
    when (call (codes "ixp_bh") (exprs []))
    (tell i.rs.0 ORIGIN_STATE 3
    ∷ net_test (blackhole_name i.interface) (blackhole_set i blackholes)
    ∷ told_registered i
    ++ accept
    ∷ [])
    ∷ []

-- the state of the route's origin (RFC 6811)
abbrev pub state_is : Family → Validity → ExprTree
state_is family state =
    comparison op.Eq (roa_check (roas family) (attribute attr.Net) (attribute attr.Last))
    (literal (value.Roa state))

-- a Valid route needs no registered prefix
abbrev pub state_test : Inputs → List StmtTree
state_test i =
    if i.rpki then
    when (state_is i.family Invalid) (drop_with 13 ∷ [])
    ∷ when (state_is i.family Valid) (tell i.rs.0 ORIGIN_STATE 1 ∷ accept ∷ [])
    ∷ tell i.rs.0 ORIGIN_STATE 2
    ∷ []
    else tell i.rs.0 ORIGIN_STATE 3 ∷ []

abbrev pub prefix_test : Inputs → List Pattern → List StmtTree
prefix_test i irr = if i.address.irr then net_test (irr_name i.interface) irr ∷ [] else []

abbrev pub first_tests : Inputs → List StmtTree
first_tests i =
    delete_triples (all_large i.rs.0 (ORIGIN_STATE ∷ FINDING ∷ REFUSED ∷ []))
    ∷ run (codes "ixp_net")
    ∷ when (compared op.Ne attr.First (int i.asn.0)) (drop_with 7 ∷ [])
    ∷ next_hop_test i
    ∷ run (codes "ixp_as")
    ∷ []

abbrev pub in_body : Inputs → List Pattern → List Pattern → List StmtTree
in_body i irr blackholes =
    in_turn
    (first_tests i
    ∷ transit_test i
    ∷ origin_test i
    ∷ blackhole_test i blackholes i.blackhole
    ∷ state_test i
    ∷ prefix_test i irr
    ∷ told_registered i
    ∷ (accept ∷ [])
    ∷ [])

-- Between the session's table and the one that all share.

-- the way up: what isn't refused passes, with what the member's advertise rules write on it
abbrev pub up_body : Inputs → List StmtTree
up_body i =
    when (compared op.In attr.Triples (all_large i.rs.0 (REFUSED ∷ []))) (reject ∷ [])
    ∷ advertise_rules i.rs.0 i.family i.rules
    ++ accept
    ∷ []

-- the way down: what the receiver's rules let in and the sender's communities send, with the sender's number
-- in front
abbrev pub down_body : Inputs → List StmtTree
down_body i =
    when (negation (call (receive_name i.interface) (exprs []))) (reject ∷ [])
    ∷ when (negation (call (codes "ixp_sends") (exprs (int i.asn.0 ∷ [])))) (reject ∷ [])
    ∷ call_statement (codes "ixp_pad") (exprs (call (codes "ixp_count") (exprs (int i.asn.0 ∷ [])) ∷ []))
    ∷ accept
    ∷ []

-- The protocols.

abbrev pub pipe_of : Inputs → Pipe
pipe_of i = record {
  name = pipe_name i.interface;
  table = master i.family;
  peer = table_name i.interface;
  «import» = Named (up_name i.interface);
  export = Named (down_name i.interface);
}

-- a text that is there
abbrev pub if_not_empty : List ℕ → Option (List ℕ)
if_not_empty [] = None
if_not_empty (b ∷ bytes) = Some (b ∷ bytes)

-- 0 is no bound
abbrev pub if_not_0 : ℕ → Option ℕ
if_not_0 n = if n == 0 then None else Some n

abbrev pub bgp_of : Inputs → Bgp
bgp_of i = record {
  name = bgp_name i.interface;
  local = Some i.local;
  own = i.rs;
  neighbor = i.address.addr;
  asn = i.asn;
  rs_client = true;
  password = if_not_empty i.address.secret;
  family = i.family;
  table = table_name i.interface;
  «import» = Named (in_name i.interface);
  export = Named (codes "ixp_out");
  limit = if_not_0 i.address.max_prefix;
}

abbrev pub session_filters : Inputs → List Pattern → List Pattern → List ItemTree
session_filters i irr blackholes =
    filter_item (in_name i.interface) (stmts (in_body i irr blackholes))
    ∷ filter_item (up_name i.interface) (stmts (up_body i))
    ∷ function_item (receive_name i.interface) [] (stmts (receive_body i.family i.rules))
    ∷ filter_item (down_name i.interface) (stmts (down_body i))
    ∷ []

abbrev pub protocols : Inputs → List ItemTree
protocols i = pipe_item (pipe_of i) ∷ bgp_item (bgp_of i) ∷ []

abbrev pub fragment : Inputs → List Pattern → List Pattern → List ItemTree
fragment i irr blackholes =
    in_turn
    ((table_item (table_kind i.family) (table_name i.interface) ∷ [])
    ∷ member_sets i irr blackholes
    ∷ session_filters i irr blackholes
    ∷ protocols i
    ∷ [])
