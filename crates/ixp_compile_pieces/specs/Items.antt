-- The items of a text that have long bodies, each shut, so that a proof about several of them sees none of
-- their statements.
use Rattle.std.specs.Prelude.{ℕ, List, [], ◌∷◌, ◌++◌, Option, codes}
use Rattle.ixp_num.specs.declared.addr.Addr.{Addr}
use Rattle.ixp_num.specs.declared.pattern.Pattern.{Pattern}
use Rattle.ixp_lang.specs.declared.item.Ty.TheVariants.{Int}
use Rattle.ixp_lang.specs.declared.value.SetLit.TheVariants as set
use Rattle.ixp_lang.specs.Trees.{ItemTree, stmts, function_item, filter_item}
use Rattle.ixp_compile.specs.declared.inputs.HeaderInputs.{HeaderInputs}
use Rattle.ixp_compile.specs.declared.inputs.Inputs.{Inputs}
use Rattle.ixp_compile.specs.Pieces.{defined, numbers}
use Rattle.ixp_compile.specs.Header.{blackhole_function, bogon_as_body, bogons_of, count_body, drop_body, joined_ranges, net_body, out_body, pad_body, sends_body, transit_body}
use Rattle.ixp_compile.specs.MemberRules.{receive_body}
use Rattle.ixp_compile.specs.Fragment.{down_body, down_name, in_body, in_name, receive_name, up_body, up_name}

-- The head.

abbrev pub public_items : HeaderInputs → List ItemTree
public_items h =
    defined (codes "ixp_bogons") set.Prefixes (bogons_of h)
    ++ defined (codes "ixp_bogon_as") set.Ints (joined_ranges h.bogon_as)
    ++ defined (codes "ixp_transit_as") numbers h.transit

unfoldable pub drop_item : ℕ → ItemTree
drop_item rs = function_item (codes "ixp_drop") ((Int, codes "n") ∷ []) (stmts (drop_body rs))

unfoldable pub net_item : HeaderInputs → ItemTree
net_item h = function_item (codes "ixp_net") [] (stmts (net_body h))

unfoldable pub as_item : HeaderInputs → ItemTree
as_item h = function_item (codes "ixp_as") [] (stmts (bogon_as_body h))

unfoldable pub transit_item : HeaderInputs → ItemTree
transit_item h = function_item (codes "ixp_transit") [] (stmts (transit_body h))

unfoldable pub sends_item : ℕ → ItemTree
sends_item rs = function_item (codes "ixp_sends") ((Int, codes "p") ∷ []) (stmts (sends_body rs))

unfoldable pub count_item : ℕ → ItemTree
count_item rs = function_item (codes "ixp_count") ((Int, codes "p") ∷ []) (stmts (count_body rs))

unfoldable pub pad_item : ItemTree
pad_item = function_item (codes "ixp_pad") ((Int, codes "n") ∷ []) (stmts pad_body)

unfoldable pub out_item : ℕ → Option Addr → ItemTree
out_item rs blackhole = filter_item (codes "ixp_out") (stmts (out_body rs blackhole))

abbrev pub shared_items : HeaderInputs → List ItemTree
shared_items h =
    drop_item h.router.asn.0
    ∷ blackhole_function h.router.family h.router.blackhole
    ++ net_item h
    ∷ as_item h
    ∷ transit_item h
    ∷ sends_item h.router.asn.0
    ∷ count_item h.router.asn.0
    ∷ pad_item
    ∷ out_item h.router.asn.0 h.router.blackhole
    ∷ []

-- A session's part.

unfoldable pub in_item : Inputs → List Pattern → List Pattern → ItemTree
in_item i irr blackholes = filter_item (in_name i.interface) (stmts (in_body i irr blackholes))

unfoldable pub up_item : Inputs → ItemTree
up_item i = filter_item (up_name i.interface) (stmts (up_body i))

unfoldable pub receive_item : Inputs → ItemTree
receive_item i = function_item (receive_name i.interface) [] (stmts (receive_body i.family i.rules))

unfoldable pub down_item : Inputs → ItemTree
down_item i = filter_item (down_name i.interface) (stmts (down_body i))
