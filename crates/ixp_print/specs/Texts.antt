-- The canonical text of a configuration: one item or statement a line, two blanks a level, one blank round
-- operators, parentheses only where they are needed.
use Rattle.std.specs.Prelude.{ℕ, Bool, true, false, ◌==◌, List, [], ◌∷◌, ◌++◌, Option, Some, None, codes, decimal, if◌then◌else◌}
use Rattle.ixp_num.specs.declared.addr.Addr.{Addr}
use Rattle.ixp_num.specs.declared.family.Family.{Family}
use Rattle.ixp_num.specs.declared.family.Family.TheVariants.{V4, V6}
use Rattle.ixp_num.specs.declared.roa.Validity.{Validity}
use Rattle.ixp_num.specs.declared.roa.Validity.TheVariants.{Valid, Invalid, Unknown}
use Rattle.ixp_num.specs.Printing.{addr_text, prefix_text, pattern_text}
use Rattle.ixp_num_tables.specs.Joined.{joined}
use Rattle.ixp_lang.specs.declared.value.Value.{Value}
use Rattle.ixp_lang.specs.declared.value.Value.TheVariants as value
use Rattle.ixp_lang.specs.declared.value.SetLit.{SetLit}
use Rattle.ixp_lang.specs.declared.value.SetLit.TheVariants as set
use Rattle.ixp_lang.specs.declared.expr.Attr.{Attr}
use Rattle.ixp_lang.specs.declared.expr.Attr.TheVariants as attr
use Rattle.ixp_lang.specs.declared.expr.Op.{Op}
use Rattle.ixp_lang.specs.declared.expr.Op.TheVariants as op
use Rattle.ixp_lang.specs.declared.stmt.Label.{Label}
use Rattle.ixp_lang.specs.declared.stmt.Label.TheVariants.{Range, State}
use Rattle.ixp_lang.specs.declared.item.Kind.{Kind}
use Rattle.ixp_lang.specs.declared.item.Kind.TheVariants as kind
use Rattle.ixp_lang.specs.declared.item.Ty.{Ty}
use Rattle.ixp_lang.specs.declared.item.Ty.TheVariants as ty
use Rattle.ixp_lang.specs.declared.item.Use.{Use}
use Rattle.ixp_lang.specs.declared.item.Use.TheVariants.{All, Nothing, Named}
use Rattle.ixp_lang.specs.declared.item.Pipe.{Pipe}
use Rattle.ixp_lang.specs.declared.item.Bgp.{Bgp}
use Rattle.ixp_lang.specs.Trees.{ExprTree, literal, named, attribute, call, roa_check, pair, triple, set_literal, negation, conjunction, disjunction, comparison, ExprTrees, exprs_end, exprs_more, StmtTree, block, if_then, case_of, return_value, accept, reject, call_statement, set_next_hop, prepend, add_pair, delete_pairs, add_triple, delete_triples, StmtTrees, stmts_end, stmts_more, ArmTrees, arms_end, arms_more, ItemTree, router_id_item, table_item, define_item, function_item, filter_item, device_item, pipe_item, bgp_item}

-- Words.

abbrev pub bool_text : Bool → List ℕ
bool_text true = codes "true"
bool_text false = codes "false"

abbrev pub state_text : Validity → List ℕ
state_text Valid = codes "ROA_VALID"
state_text Invalid = codes "ROA_INVALID"
state_text Unknown = codes "ROA_UNKNOWN"

abbrev pub attr_text : Attr → List ℕ
attr_text attr.Net = codes "net"
attr_text attr.NetLen = codes "net.len"
attr_text attr.From = codes "from"
attr_text attr.NextHop = codes "bgp_next_hop"
attr_text attr.Path = codes "bgp_path"
attr_text attr.First = codes "bgp_path.first"
attr_text attr.Last = codes "bgp_path.last"
attr_text attr.Len = codes "bgp_path.len"
attr_text attr.Pairs = codes "bgp_community"
attr_text attr.PairsLen = codes "bgp_community.len"
attr_text attr.Triples = codes "bgp_large_community"
attr_text attr.TriplesLen = codes "bgp_large_community.len"

abbrev pub op_text : Op → List ℕ
op_text op.Eq = codes "="
op_text op.Ne = codes "!="
op_text op.Lt = codes "<"
op_text op.Le = codes "<="
op_text op.Gt = codes ">"
op_text op.Ge = codes ">="
op_text op.In = codes "~"
op_text op.NotIn = codes "!~"

abbrev pub kind_text : Kind → List ℕ
kind_text kind.Ipv4 = codes "ipv4"
kind_text kind.Ipv6 = codes "ipv6"
kind_text kind.Roa4 = codes "roa4"
kind_text kind.Roa6 = codes "roa6"

abbrev pub ty_text : Ty → List ℕ
ty_text ty.Int = codes "int"
ty_text ty.Bool = codes "bool"
ty_text ty.Ip = codes "ip"
ty_text ty.Prefix = codes "prefix"
ty_text ty.Pair = codes "pair"
ty_text ty.Lc = codes "lc"
ty_text ty.IntSet = codes "int set"
ty_text ty.IpSet = codes "ip set"
ty_text ty.PrefixSet = codes "prefix set"
ty_text ty.PairSet = codes "pair set"
ty_text ty.LcSet = codes "lc set"

-- Sets.

-- `a..b`, or `a` where it is one number
abbrev pub range_text : ℕ × ℕ → List ℕ
range_text r = if r.0 == r.1 then decimal r.0 else (decimal r.0 ++ codes ".." ++ decimal r.1)

abbrev pub part_text : Option ℕ → List ℕ
part_text None = codes "*"
part_text (Some n) = decimal n

abbrev pub pair_text : ℕ × Option ℕ → List ℕ
pair_text p = codes "(" ++ decimal p.0 ++ codes ", " ++ part_text p.1 ++ codes ")"

abbrev pub triple_text : ℕ × ℕ × Option ℕ → List ℕ
triple_text t = codes "(" ++ decimal t.0 ++ codes ", " ++ decimal t.1 ++ codes ", " ++ part_text t.2
    ++ codes ")"

abbrev pub set_items_text : SetLit → List ℕ
set_items_text (set.Ints rs) = joined (codes ", ") range_text rs
set_items_text (set.Ips addrs) = joined (codes ", ") addr_text addrs
set_items_text (set.Prefixes ts) = joined (codes ", ") pattern_text ts
set_items_text (set.Pairs ps) = joined (codes ", ") pair_text ps
set_items_text (set.Triples ts) = joined (codes ", ") triple_text ts

abbrev pub set_text : SetLit → List ℕ
set_text s = codes "[" ++ set_items_text s ++ codes "]"

abbrev pub value_text : Value → List ℕ
value_text (value.Int n) = decimal n
value_text (value.Bool b) = bool_text b
value_text (value.Ip a) = addr_text a
value_text (value.Net p) = prefix_text p
value_text (value.Pair a b) = pair_text (a, Some b)
value_text (value.Triple a b c) = triple_text (a, b, Some c)
value_text (value.Roa s) = state_text s
value_text (value.Set s) = set_text s

-- Expressions.

abbrev pub is_chain : ExprTree → Bool
is_chain (conjunction es) = true
is_chain (disjunction es) = true
is_chain _ = false

-- what stands in parentheses as an operand of `!` or of a comparison
abbrev pub is_compound : ExprTree → Bool
is_compound (conjunction es) = true
is_compound (disjunction es) = true
is_compound (comparison o e f) = true
is_compound _ = false

abbrev pub wrapped : Bool → List ℕ → List ℕ
wrapped true text = codes "(" ++ text ++ codes ")"
wrapped false text = text

abbrev mutual
  pub expr_text : ExprTree → List ℕ
  expr_text (literal v) = value_text v
  expr_text (named n) = n
  expr_text (attribute a) = attr_text a
  expr_text (call n es) = n ++ codes "(" ++ exprs_text es ++ codes ")"
  expr_text (roa_check t e f) =
      codes "roa_check(" ++ t ++ codes ", " ++ expr_text e ++ codes ", " ++ expr_text f ++ codes ")"
  expr_text (pair e f) = codes "(" ++ expr_text e ++ codes ", " ++ expr_text f ++ codes ")"
  expr_text (triple e f g) =
      codes "(" ++ expr_text e ++ codes ", " ++ expr_text f ++ codes ", " ++ expr_text g ++ codes ")"
  expr_text (set_literal s) = set_text s
  expr_text (negation e) = codes "!" ++ wrapped (is_compound e) (expr_text e)
  expr_text (conjunction es) = chain_text (codes " && ") es
  expr_text (disjunction es) = chain_text (codes " || ") es
  expr_text (comparison o e f) =
      wrapped (is_compound e) (expr_text e) ++ codes " " ++ op_text o ++ codes " "
      ++ wrapped (is_compound f) (expr_text f)

  -- the arguments of a call
  pub exprs_text : ExprTrees → List ℕ
  exprs_text exprs_end = []
  exprs_text (exprs_more e es) = expr_text e ++ more_exprs_text es

  pub more_exprs_text : ExprTrees → List ℕ
  more_exprs_text exprs_end = []
  more_exprs_text (exprs_more e es) = codes ", " ++ expr_text e ++ more_exprs_text es

  -- the parts of a chain: a chain among them stands in parentheses
  pub chain_text : List ℕ → ExprTrees → List ℕ
  chain_text joint exprs_end = []
  chain_text joint (exprs_more e es) = wrapped (is_chain e) (expr_text e) ++ more_chain_text joint es

  pub more_chain_text : List ℕ → ExprTrees → List ℕ
  more_chain_text joint exprs_end = []
  more_chain_text joint (exprs_more e es) =
      joint ++ wrapped (is_chain e) (expr_text e) ++ more_chain_text joint es

-- Statements. `i` is the blanks at the beginning of a line.

unfoldable pub line : List ℕ → List ℕ → List ℕ
line i text = i ++ text ++ 10 ∷ []

abbrev pub deeper : List ℕ → List ℕ
deeper i = i ++ codes "  "

abbrev pub label_text : Label → List ℕ
label_text (Range low high) = range_text (low, high)
label_text (State s) = state_text s

abbrev pub no_stmts : StmtTrees → Bool
no_stmts stmts_end = true
no_stmts (stmts_more s ss) = false

-- the line before what else is done, where something is
abbrev pub else_line : Bool → List ℕ → List ℕ → List ℕ
else_line true i text = []
else_line false i text = line i text

abbrev mutual
  pub stmt_text : List ℕ → StmtTree → List ℕ
  stmt_text i (block ss) = line i (codes "{") ++ stmts_text (deeper i) ss ++ line i (codes "}")
  stmt_text i (if_then e ss ts) =
      line i (codes "if " ++ expr_text e ++ codes " then {") ++ stmts_text (deeper i) ss
      ++ else_line (no_stmts ts) i (codes "} else {") ++ stmts_text (deeper i) ts ++ line i (codes "}")
  stmt_text i (case_of e arms ts) =
      line i (codes "case " ++ expr_text e ++ codes " {")
      ++ (arms_text (deeper i) arms ++ else_line (no_stmts ts) (deeper i) (codes "else:")
      ++ stmts_text (deeper (deeper i)) ts)
      ++ line i (codes "}")
  stmt_text i (return_value e) = line i (codes "return " ++ expr_text e ++ codes ";")
  stmt_text i accept = line i (codes "accept;")
  stmt_text i reject = line i (codes "reject;")
  stmt_text i (call_statement n es) = line i (n ++ codes "(" ++ exprs_text es ++ codes ");")
  stmt_text i (set_next_hop e) = line i (codes "bgp_next_hop = " ++ expr_text e ++ codes ";")
  stmt_text i (prepend e) = line i (codes "bgp_path.prepend(" ++ expr_text e ++ codes ");")
  stmt_text i (add_pair e) = line i (codes "bgp_community.add(" ++ expr_text e ++ codes ");")
  stmt_text i (delete_pairs e) = line i (codes "bgp_community.delete(" ++ expr_text e ++ codes ");")
  stmt_text i (add_triple e) = line i (codes "bgp_large_community.add(" ++ expr_text e ++ codes ");")
  stmt_text i (delete_triples e) = line i (codes "bgp_large_community.delete(" ++ expr_text e ++ codes ");")

  pub stmts_text : List ℕ → StmtTrees → List ℕ
  stmts_text i stmts_end = []
  stmts_text i (stmts_more s ss) = stmt_text i s ++ stmts_text i ss

  pub arms_text : List ℕ → ArmTrees → List ℕ
  arms_text i arms_end = []
  arms_text i (arms_more ls ss arms) =
      line i (joined (codes ", ") label_text ls ++ codes ":") ++ stmts_text (deeper i) ss ++ arms_text i arms

-- the arms of a case, and what is done else
abbrev pub cases_text : List ℕ → ArmTrees → StmtTrees → List ℕ
cases_text i arms ts = arms_text i arms ++ else_line (no_stmts ts) i (codes "else:")
    ++ stmts_text (deeper i) ts

-- Items.

-- a head, and statements in braces
abbrev pub body_text : List ℕ → StmtTrees → List ℕ
body_text head ss = line [] (head ++ codes " {") ++ stmts_text (codes "  ") ss ++ line [] (codes "}")

abbrev pub param_text : Ty × List ℕ → List ℕ
param_text p = ty_text p.0 ++ codes " " ++ p.1

abbrev pub use_text : Use → List ℕ
use_text All = codes "all"
use_text Nothing = codes "none"
use_text (Named n) = codes "filter " ++ n

-- the first line of a protocol of this kind
unfoldable pub head_line : List ℕ → List ℕ → List ℕ
head_line kind name = line [] (codes "protocol " ++ kind ++ codes " " ++ name ++ codes " {")

unfoldable pub nameless_head : List ℕ
nameless_head = line [] (codes "protocol device {")

abbrev pub pipe_text : Pipe → List ℕ
pipe_text p =
    head_line (codes "pipe") p.name
    ++ line (codes "  ") (codes "table " ++ p.table ++ codes ";")
    ++ line (codes "  ") (codes "peer table " ++ p.peer ++ codes ";")
    ++ line (codes "  ") (codes "import " ++ use_text p.import ++ codes ";")
    ++ line (codes "  ") (codes "export " ++ use_text p.export ++ codes ";")
    ++ line [] (codes "}")

abbrev pub channel_text : Family → List ℕ
channel_text V4 = codes "ipv4"
channel_text V6 = codes "ipv6"

-- the address of this end, where it is told
abbrev pub local_text : Option Addr → List ℕ
local_text None = codes "local as "
local_text (Some a) = codes "local " ++ addr_text a ++ codes " as "

abbrev pub client_text : Bool → List ℕ
client_text true = line (codes "  ") (codes "rs client;")
client_text false = []

abbrev pub password_text : Option (List ℕ) → List ℕ
password_text None = []
password_text (Some p) = line (codes "  ") (codes "password \"" ++ p ++ codes "\";")

abbrev pub limit_text : Option ℕ → List ℕ
limit_text None = []
limit_text (Some n) = line (codes "    ") (codes "import limit " ++ decimal n ++ codes " action block;")

-- the channel of a session
abbrev pub bgp_channel_text : Bgp → List ℕ
bgp_channel_text b =
    line (codes "  ") (channel_text b.family ++ codes " {")
    ++ line (codes "    ") (codes "table " ++ b.table ++ codes ";")
    ++ line (codes "    ") (codes "import " ++ use_text b.import ++ codes ";")
    ++ line (codes "    ") (codes "export " ++ use_text b.export ++ codes ";")
    ++ limit_text b.limit
    ++ line (codes "  ") (codes "};")

abbrev pub bgp_text : Bgp → List ℕ
bgp_text b =
    head_line (codes "bgp") b.name
    ++ line (codes "  ") (local_text b.local ++ decimal b.own.0 ++ codes ";")
    ++ line (codes "  ") (codes "neighbor " ++ addr_text b.neighbor ++ codes " as " ++ decimal b.asn.0
    ++ codes ";")
    ++ client_text b.rs_client
    ++ password_text b.password
    ++ bgp_channel_text b
    ++ line [] (codes "}")

abbrev pub device_text : Option (List ℕ) → List ℕ
device_text None = nameless_head ++ line [] (codes "}")
device_text (Some n) = head_line (codes "device") n ++ line [] (codes "}")

abbrev pub item_text : ItemTree → List ℕ
item_text (router_id_item a) = line [] (codes "router id " ++ addr_text a ++ codes ";")
item_text (table_item k n) = line [] (kind_text k ++ codes " table " ++ n ++ codes ";")
item_text (define_item n e) = line [] (codes "define " ++ n ++ codes " = " ++ expr_text e ++ codes ";")
item_text (function_item n ps ss) =
    body_text (codes "function " ++ n ++ codes "(" ++ joined (codes "; ") param_text ps ++ codes ")") ss
item_text (filter_item n ss) = body_text (codes "filter " ++ n) ss
item_text (device_item n) = device_text n
item_text (pipe_item p) = pipe_text p
item_text (bgp_item b) = bgp_text b

-- the text of a configuration
abbrev pub config_text : List ItemTree → List ℕ
config_text [] = []
config_text (i ∷ is) = item_text i ++ config_text is
