-- Small trees on which the laws of the meaning are stated.
use Rattle.std.specs.Prelude.{ℕ, refl, List, [], ◌∷◌, codes, Bool, true, false}
use Rattle.std.proofs.Common.{lit<, lit≤}
use Rattle.ixp_num.specs.declared.addr.Addr.{Addr}
use Rattle.ixp_num.specs.declared.prefix.Prefix.{Prefix}
use Rattle.ixp_num.specs.declared.family.Family.TheVariants.{V4}
use Rattle.ixp_lang.specs.declared.route.Route.{Route}
use Rattle.ixp_lang.specs.declared.value.Value.TheVariants as value
use Rattle.ixp_lang.specs.declared.item.Ty.TheVariants as ty
use Rattle.ixp_lang.specs.declared.expr.Op.TheVariants as op
use Rattle.ixp_lang.specs.declared.expr.Attr.TheVariants as attr
use Rattle.ixp_lang.specs.Trees.{ExprTree, StmtTree, ItemTree, literal, named, attribute, pair, comparison, exprs, if_then, return_value, accept, reject, call_statement, call, stmts, function_item, filter_item}
use Rattle.ixp_lang.specs.Meaning.{Environment}

-- an expression that is a number or a truth value
abbrev pub int : ℕ → ExprTree
int n = literal (value.Int n)

abbrev pub truth_value : Bool → ExprTree
truth_value b = literal (value.Bool b)

-- `if e then s;`
abbrev pub without_else : ExprTree → StmtTree → StmtTree
without_else e s = if_then e (stmts (s ∷ [])) (stmts [])

-- 10.0.0.1
abbrev pub neighbour : Addr
neighbour = record { family = V4; value = 167772161; fits = lit< tt }

-- 203.0.113.0/24
abbrev pub network : Prefix
network =
    record { family = V4; value = 3405803776; len = 24; short = lit≤ tt; fits = lit< tt; no_host_bits = refl }

abbrev pub environment : Environment
environment = record { from = neighbour; roas = [] }

-- `function g(int p) { if (0, p) ~ bgp_community then accept; }`
abbrev pub tests_pair : ItemTree
tests_pair =
    function_item (codes "g") ((ty.Int, codes "p") ∷ [])
    (stmts (without_else (comparison op.In (pair (int 0) (named (codes "p"))) (attribute attr.Pairs)) accept
    ∷ []))

-- `function g(bool b) { if b then return true; }`
abbrev pub returns_sometimes : ItemTree
returns_sometimes = function_item (codes "g") ((ty.Bool, codes "b") ∷ [])
    (stmts (without_else (named (codes "b")) (return_value (truth_value true)) ∷ []))

-- `filter f { if g(false) then accept; reject; }`
abbrev pub asks_false : ItemTree
asks_false = filter_item (codes "f") (stmts
    (without_else (call (codes "g") (exprs (truth_value false ∷ []))) accept ∷ reject ∷ []))

-- `function h(int p) { accept; return p; }`
abbrev pub accepts_first : ItemTree
accepts_first = function_item (codes "h") ((ty.Int, codes "p") ∷ [])
    (stmts (accept ∷ return_value (named (codes "p")) ∷ []))

-- `filter f { h(1); reject; }`
abbrev pub calls_h : ItemTree
calls_h = filter_item (codes "f") (stmts (call_statement (codes "h") (exprs (int 1 ∷ [])) ∷ reject ∷ []))

-- `filter f { if false then accept; }`
abbrev pub never_ends : ItemTree
never_ends = filter_item (codes "f") (stmts (without_else (truth_value false) accept ∷ []))

-- a route to the network from that neighbour with these communities
abbrev pub route_with : List (ℕ × ℕ) → List (ℕ × ℕ × ℕ) → Route
route_with pairs triples =
    record { net = network; path = []; next_hop = neighbour; pairs = pairs; triples = triples }
