-- The text of a route server of the first version (BIRD 2 User's Guide, Filters and Protocols). It has no
-- function and no statement on blackhole routes, no set of their nets, and counts no communities; items that
-- were then as they are today are those of ixp_compile.
use Rattle.std.specs.Prelude.{ℕ, List, [], ◌∷◌, ◌++◌, flat_map, codes}
use Rattle.ixp_num.specs.declared.pattern.Pattern.{Pattern}
use Rattle.ixp_lang.specs.declared.expr.Attr.TheVariants as attr
use Rattle.ixp_lang.specs.declared.expr.Op.TheVariants as op
use Rattle.ixp_lang.specs.declared.item.Ty.TheVariants.{Int}
use Rattle.ixp_lang.specs.declared.value.SetLit.TheVariants as set
use Rattle.ixp_lang.specs.Trees.{named, StmtTree, accept, delete_triples, stmts, ItemTree, table_item, function_item, filter_item}
use Rattle.ixp_registry.specs.declared.registry.Registry.{Registry}
use Rattle.ixp_registry.specs.declared.router.Router.{Router}
use Rattle.ixp_registry.specs.Sessions.{Session}
use Rattle.ixp_policy.specs.Export.{server_actions}
use Rattle.ixp_compile.specs.declared.inputs.HeaderInputs.{HeaderInputs}
use Rattle.ixp_compile.specs.declared.inputs.Inputs.{Inputs}
use Rattle.ixp_compile.specs.Fragment.{table_name, irr_name, origins_name, in_name, up_name, receive_name, down_name, if_held, transit_test, origin_test, told_registered, state_test, prefix_test, first_tests, up_body, down_body, protocols}
use Rattle.ixp_compile.specs.Generated.{header_inputs, inputs, router_sessions, footer, allowed_set}
use Rattle.ixp_compile.specs.Header.{bogons_of, drop_body, bogon_as_body, transit_body, sends_body, count_body, pad_body, pairs_taken_away, tables, public_sets}
use Rattle.ixp_compile.specs.MemberRules.{receive_body}
use Rattle.ixp_compile.specs.Pieces.{int, compared, all_large, numbers, when, drop_with, in_turn, defined, where_any, table_kind}

-- The head.

-- what is refused of any session: the net, and the length of the path
abbrev pub older_net_body : HeaderInputs → List StmtTree
older_net_body h =
    when (compared op.Gt attr.NetLen (int h.router.high)) (drop_with 1 ∷ [])
    ∷ when (compared op.Lt attr.NetLen (int h.router.low)) (drop_with 2 ∷ [])
    ∷ where_any (bogons_of h) (when (compared op.In attr.Net (named (codes "ixp_bogons"))) (drop_with 3 ∷ [])
    ∷ [])
    ++ when (compared op.Eq attr.Len (int 0)) (drop_with 6 ∷ [])
    ∷ when (compared op.Gt attr.Len (int 64)) (drop_with 5 ∷ [])
    ∷ []

-- what no receiver gets: the communities that are for the server, and its own
abbrev pub older_out_body : ℕ → List StmtTree
older_out_body rs = delete_triples (all_large rs server_actions) ∷ pairs_taken_away rs ++ accept ∷ []

abbrev pub older_functions : HeaderInputs → List ItemTree
older_functions h =
    function_item (codes "ixp_drop") ((Int, codes "n") ∷ []) (stmts (drop_body h.router.asn.0))
    ∷ function_item (codes "ixp_net") [] (stmts (older_net_body h))
    ∷ function_item (codes "ixp_as") [] (stmts (bogon_as_body h))
    ∷ function_item (codes "ixp_transit") [] (stmts (transit_body h))
    ∷ function_item (codes "ixp_sends") ((Int, codes "p") ∷ []) (stmts (sends_body h.router.asn.0))
    ∷ function_item (codes "ixp_count") ((Int, codes "p") ∷ []) (stmts (count_body h.router.asn.0))
    ∷ function_item (codes "ixp_pad") ((Int, codes "n") ∷ []) (stmts pad_body)
    ∷ filter_item (codes "ixp_out") (stmts (older_out_body h.router.asn.0))
    ∷ []

abbrev pub older_header : HeaderInputs → List ItemTree
older_header h = in_turn (tables h.router ∷ public_sets h ∷ older_functions h ∷ [])

-- A session's part; `irr` is the set of nets that the member's prefixes allow.

abbrev pub older_sets : Inputs → List Pattern → List ItemTree
older_sets i irr =
    if_held i
    (in_turn (defined (irr_name i.interface) set.Prefixes irr
    ∷ defined (origins_name i.interface) numbers i.origins ∷ []))

abbrev pub older_in_body : Inputs → List Pattern → List StmtTree
older_in_body i irr =
    in_turn
    (first_tests i
    ∷ transit_test i
    ∷ origin_test i
    ∷ state_test i
    ∷ prefix_test i irr
    ∷ told_registered i
    ∷ (accept ∷ [])
    ∷ [])

abbrev pub older_filters : Inputs → List Pattern → List ItemTree
older_filters i irr =
    filter_item (in_name i.interface) (stmts (older_in_body i irr))
    ∷ filter_item (up_name i.interface) (stmts (up_body i))
    ∷ function_item (receive_name i.interface) [] (stmts (receive_body i.family i.rules))
    ∷ filter_item (down_name i.interface) (stmts (down_body i))
    ∷ []

abbrev pub older_part : Inputs → List ItemTree
older_part i =
    in_turn
    ((table_item (table_kind i.family) (table_name i.interface) ∷ [])
    ∷ older_sets i (allowed_set i)
    ∷ older_filters i (allowed_set i)
    ∷ protocols i
    ∷ [])

-- The text.

-- the text of a router: the head, its sessions' parts and the foot
abbrev pub older_generated : Registry → Router → List ItemTree
older_generated r router =
    in_turn
    (older_header (header_inputs r router)
    ∷ flat_map (λ s. older_part (inputs r router s)) (router_sessions r router)
    ∷ footer
    ∷ [])

-- a session's own text: the head, its part and the foot
abbrev pub older_own_part : Registry → Router → Session → List ItemTree
older_own_part r router s = in_turn (older_header (header_inputs r router) ∷ older_part (inputs r router s)
    ∷ footer ∷ [])
