-- The head of a route server's text: tables, public lists, and the functions that all sessions share.
use Rattle.std.specs.Prelude.{ℕ, ◌^◌, ◌%◌, ◌==◌, Bool, true, false, nat_le, max, List, [], ◌∷◌, ◌++◌, Option, Some, None, filter, codes, if◌then◌else◌}
use Rattle.std.proofs.Common.{lit<}
use Rattle.std.proofs.Math.Nat.{mod-lt}
use Rattle.ixp_num.specs.declared.addr.Addr.{Addr}
use Rattle.ixp_num.specs.declared.asn.Asn.{Asn}
use Rattle.ixp_num.specs.declared.family.Family.{Family}
use Rattle.ixp_num.specs.declared.family.Family.TheVariants.{V4}
use Rattle.ixp_num.specs.declared.pattern.Pattern.{Pattern}
use Rattle.ixp_num.specs.Families.{bits_of, same_family}
use Rattle.ixp_lang.specs.declared.communities.TheConstants.{BLACKHOLE, FINDING, KEEP_FROM, ORIGIN_STATE, PREPEND_ONCE, PREPEND_THRICE, PREPEND_TWICE, REFUSED, SEND_TO}
use Rattle.ixp_lang.specs.declared.expr.Attr.TheVariants as attr
use Rattle.ixp_lang.specs.declared.expr.Op.TheVariants as op
use Rattle.ixp_lang.specs.declared.item.Ty.TheVariants.{Int}
use Rattle.ixp_lang.specs.declared.value.SetLit.TheVariants as set
use Rattle.ixp_lang.specs.declared.value.Value.TheVariants as value
use Rattle.ixp_lang.specs.Trees.{ExprTree, literal, named, attribute, call, pair, triple, set_literal, negation, conjunction, comparison, exprs, StmtTree, return_value, accept, set_next_hop, prepend, delete_pairs, add_triple, delete_triples, stmts, ItemTree, router_id_item, table_item, function_item, filter_item}
use Rattle.ixp_registry.specs.declared.router.Router.{Router}
use Rattle.ixp_compile.specs.declared.inputs.HeaderInputs.{HeaderInputs}
use Rattle.ixp_compile.specs.Pieces.{int, truth_value, compared, all_large, numbers, when, drop_with, in_turn, defined, where_any, master, roas, table_kind, roa_kind}

-- a BGP identifier, a number of 32 bits, as it is written: an IPv4 address (RFC 6286)
abbrev pub identifier : ℕ → Addr
identifier id = record { family = V4; value = id % 2 ^ 32; fits = mod-lt id {m = 2 ^ 32} (lit< tt) }

-- Public lists.

abbrev pub bogons_of : HeaderInputs → List Pattern
bogons_of h = filter (λ t. same_family t.prefix.family h.router.family) h.bogons

-- the range with those after it, joined with each that overlaps it; ranges that only touch stay apart
abbrev pub joined_to : ℕ → ℕ → List (Asn × Asn) → List (ℕ × ℕ)
joined_to first last [] = (first, last) ∷ []
joined_to first last (r ∷ rs) =
    if nat_le r.0.0 last then joined_to first (max last r.1.0) rs
    else (first, last) ∷ joined_to r.0.0 r.1.0 rs

-- Ranges of AS numbers, which ascend by their first numbers, without overlaps: a set of numbers is held as a
-- tree of ranges, in which one that overlaps another may not be found.
abbrev pub joined_ranges : List (Asn × Asn) → List (ℕ × ℕ)
joined_ranges [] = []
joined_ranges (r ∷ rs) = joined_to r.0.0 r.1.0 rs

-- Functions.

-- tells the number with which the route is refused, and ends the filter
abbrev pub drop_body : ℕ → List StmtTree
drop_body rs = add_triple (triple (int rs) (int REFUSED) (named (codes "n"))) ∷ accept ∷ []

-- whether the route's traffic is to be dropped (RFC 7999)
abbrev pub blackhole_body : Family → List StmtTree
blackhole_body family =
    when
    (conjunction
    (exprs (compared op.Eq attr.NetLen (int (bits_of family))
    ∷ comparison op.In (literal (value.Pair BLACKHOLE.0 BLACKHOLE.1)) (attribute attr.Pairs) ∷ [])))
    (return_value (truth_value true) ∷ [])
    ∷ return_value (truth_value false)
    ∷ []

-- where the router has an address for such routes
abbrev pub blackhole_function : Family → Option Addr → List ItemTree
blackhole_function family None = []
blackhole_function family (Some a) = function_item (codes "ixp_bh") [] (stmts (blackhole_body family)) ∷ []

abbrev pub is_too_long : Option Addr → ℕ → ExprTree
is_too_long None high = compared op.Gt attr.NetLen (int high)
is_too_long (Some a) high =
    conjunction (exprs (compared op.Gt attr.NetLen (int high) ∷ negation (call (codes "ixp_bh") (exprs []))
    ∷ []))

-- the tests of how many communities of each kind there are; 0 is no bound
abbrev pub community_tests : ℕ → List StmtTree
community_tests bound =
    if bound == 0 then [] else (
    when (compared op.Gt attr.PairsLen (int bound)) (drop_with 15 ∷ [])
    ∷ when (compared op.Gt attr.TriplesLen (int bound)) (drop_with 15 ∷ [])
    ∷ [])

-- what is refused of any session: the net, and the lengths of lists
abbrev pub net_body : HeaderInputs → List StmtTree
net_body h =
    when (is_too_long h.router.blackhole h.router.high) (drop_with 1 ∷ [])
    ∷ when (compared op.Lt attr.NetLen (int h.router.low)) (drop_with 2 ∷ [])
    ∷ where_any (bogons_of h) (when (compared op.In attr.Net (named (codes "ixp_bogons"))) (drop_with 3 ∷ [])
    ∷ [])
    ++ when (compared op.Eq attr.Len (int 0)) (drop_with 6 ∷ [])
    ∷ when (compared op.Gt attr.Len (int 64)) (drop_with 5 ∷ [])
    ∷ community_tests h.router.max_comms

-- numbers that may stand in no path
abbrev pub bogon_as_body : HeaderInputs → List StmtTree
bogon_as_body h =
    where_any (joined_ranges h.bogon_as)
    (when (compared op.In attr.Path (named (codes "ixp_bogon_as"))) (drop_with 4 ∷ []) ∷ [])

-- networks that buy no transit
abbrev pub transit_body : HeaderInputs → List StmtTree
transit_body h = where_any h.transit (when (compared op.In attr.Path (named (codes "ixp_transit_as")))
    (drop_with 14 ∷ []) ∷ [])

-- `(rs, action, p) ~ bgp_large_community`, for the function's parameter `p`
abbrev pub asks_peer : ℕ → ℕ → ExprTree
asks_peer rs action = comparison op.In (triple (int rs) (int action) (named (codes "p")))
    (attribute attr.Triples)

-- the same for every peer, whose number is 0
abbrev pub asks_all : ℕ → ℕ → ExprTree
asks_all rs action = comparison op.In (literal (value.Triple rs action 0)) (attribute attr.Triples)

abbrev pub pairs_peer : ℕ → ExprTree
pairs_peer first = comparison op.In (pair (int first) (named (codes "p"))) (attribute attr.Pairs)

abbrev pub pairs_server : ℕ → ℕ → ExprTree
pairs_server first rs = comparison op.In (literal (value.Pair first rs)) (attribute attr.Pairs)

-- `if e then return b;`
abbrev pub answers : ExprTree → Bool → StmtTree
answers e b = when e (return_value (truth_value b) ∷ [])

abbrev pub counts : ExprTree → ℕ → StmtTree
counts e n = when e (return_value (int n) ∷ [])

-- communities of two parts are looked at where the server's and the peer's number fit them
abbrev pub pair_answers : ℕ → List StmtTree
pair_answers rs =
    if nat_le rs 65535 then
    when (comparison op.Le (named (codes "p")) (int 65535))
    (answers (pairs_peer 0) false ∷ answers (pairs_peer rs) true ∷ answers (pairs_server 0 rs) false
    ∷ answers (pairs_server rs rs) true
    ∷ [])
    ∷ []
    else []

-- whether the route's communities send it to the peer
abbrev pub sends_body : ℕ → List StmtTree
sends_body rs =
    answers (asks_peer rs KEEP_FROM) false
    ∷ answers (asks_peer rs SEND_TO) true
    ∷ answers (asks_all rs KEEP_FROM) false
    ∷ answers (asks_all rs SEND_TO) true
    ∷ pair_answers rs
    ++ return_value (truth_value true)
    ∷ []

-- how often they put the sender's number in front
abbrev pub count_body : ℕ → List StmtTree
count_body rs =
    counts (asks_peer rs PREPEND_THRICE) 3
    ∷ counts (asks_peer rs PREPEND_TWICE) 2
    ∷ counts (asks_peer rs PREPEND_ONCE) 1
    ∷ counts (asks_peer rs SEND_TO) 0
    ∷ counts (asks_all rs PREPEND_THRICE) 3
    ∷ counts (asks_all rs PREPEND_TWICE) 2
    ∷ counts (asks_all rs PREPEND_ONCE) 1
    ∷ return_value (int 0)
    ∷ []

-- puts the path's first number in front once more, where `n` is at least so many
abbrev pub pads : ℕ → StmtTree
pads least = when (comparison op.Ge (named (codes "n")) (int least)) (prepend (attribute attr.First) ∷ [])

abbrev pub pad_body : List StmtTree
pad_body = pads 1 ∷ pads 2 ∷ pads 3 ∷ []

-- what no receiver gets: the communities that are for the server, and its own
abbrev pub blackhole_hop : Option Addr → List StmtTree
blackhole_hop None = []
blackhole_hop (Some a) = when (call (codes "ixp_bh") (exprs [])) (set_next_hop (literal (value.Ip a)) ∷ [])
    ∷ []

abbrev pub pairs_taken_away : ℕ → List StmtTree
pairs_taken_away rs = if nat_le rs 65535
    then delete_pairs (set_literal (set.Pairs ((0, None) ∷ (rs, None) ∷ []))) ∷ [] else []

abbrev pub out_body : ℕ → Option Addr → List StmtTree
out_body rs blackhole =
    in_turn
    (blackhole_hop blackhole
    ∷ (delete_triples (all_large rs (KEEP_FROM ∷ SEND_TO ∷ PREPEND_ONCE ∷ PREPEND_TWICE ∷ PREPEND_THRICE
    ∷ ORIGIN_STATE ∷ FINDING ∷ REFUSED ∷ [])) ∷ [])
    ∷ pairs_taken_away rs
    ∷ (accept ∷ [])
    ∷ [])

-- The head.

abbrev pub tables : Router → List ItemTree
tables router =
    router_id_item (identifier router.id)
    ∷ table_item (table_kind router.family) (master router.family)
    ∷ table_item (roa_kind router.family) (roas router.family)
    ∷ []

abbrev pub public_sets : HeaderInputs → List ItemTree
public_sets h =
    in_turn
    (defined (codes "ixp_bogons") set.Prefixes (bogons_of h)
    ∷ defined (codes "ixp_bogon_as") set.Ints (joined_ranges h.bogon_as)
    ∷ defined (codes "ixp_transit_as") numbers h.transit
    ∷ [])

abbrev pub shared_functions : HeaderInputs → List ItemTree
shared_functions h =
    function_item (codes "ixp_drop") ((Int, codes "n") ∷ []) (stmts (drop_body h.router.asn.0))
    ∷ blackhole_function h.router.family h.router.blackhole
    ++ function_item (codes "ixp_net") [] (stmts (net_body h))
    ∷ function_item (codes "ixp_as") [] (stmts (bogon_as_body h))
    ∷ function_item (codes "ixp_transit") [] (stmts (transit_body h))
    ∷ function_item (codes "ixp_sends") ((Int, codes "p") ∷ []) (stmts (sends_body h.router.asn.0))
    ∷ function_item (codes "ixp_count") ((Int, codes "p") ∷ []) (stmts (count_body h.router.asn.0))
    ∷ function_item (codes "ixp_pad") ((Int, codes "n") ∷ []) (stmts pad_body)
    ∷ filter_item (codes "ixp_out") (stmts (out_body h.router.asn.0 h.router.blackhole))
    ∷ []

abbrev pub header : HeaderInputs → List ItemTree
header h = in_turn (tables h.router ∷ public_sets h ∷ shared_functions h ∷ [])
