-- The tokens of the canonical text of statements, items and configurations (BIRD 2 User's Guide, chapters
-- "Configuration" and "Filters"), with braces round each branch. Each is said with the tokens that follow it.
use Rattle.std.specs.Prelude.{ℕ, Bool, true, false, List, [], ◌∷◌, Option, Some, None, codes}
use Rattle.ixp_num.specs.declared.addr.Addr.{Addr}
use Rattle.ixp_lang.specs.declared.stmt.Label.{Label}
use Rattle.ixp_lang.specs.declared.stmt.Label.TheVariants.{Range as Between, State as IsState}
use Rattle.ixp_lang.specs.declared.item.Ty.{Ty}
use Rattle.ixp_lang.specs.declared.item.Ty.TheVariants as ty
use Rattle.ixp_lang.specs.declared.item.Use.{Use}
use Rattle.ixp_lang.specs.declared.item.Use.TheVariants.{All, Nothing, Named}
use Rattle.ixp_lang.specs.declared.item.Pipe.{Pipe}
use Rattle.ixp_lang.specs.declared.item.Bgp.{Bgp}
use Rattle.ixp_lang.specs.Trees.{ExprTree, StmtTree, block, if_then, case_of, return_value, accept, reject, call_statement, set_next_hop, prepend, add_pair, delete_pairs, add_triple, delete_triples, StmtTrees, stmts_end, stmts_more, ArmTrees, arms_end, arms_more, ItemTree, router_id_item, table_item, define_item, function_item, filter_item, device_item, pipe_item, bgp_item}
use Rattle.ixp_lang_tokens.specs.declared.token.Kind.{Kind as Token}
use Rattle.ixp_lang_tokens.specs.declared.token.Kind.TheVariants.{Text}
use Rattle.ixp_lang_tokens.specs.declared.token.Mark.TheVariants as mark
use Rattle.ixp_print.specs.Texts.{state_text, kind_text, channel_text}
use Rattle.ixp_lang_laws.specs.Canonical.{Before, number, word, name, sign, list_of, range_tokens, addr_tokens, expr_tokens, exprs_tokens}

abbrev pub ty_tokens : Ty → Before
ty_tokens ty.Int rest = word (codes "int") rest
ty_tokens ty.Bool rest = word (codes "bool") rest
ty_tokens ty.Ip rest = word (codes "ip") rest
ty_tokens ty.Prefix rest = word (codes "prefix") rest
ty_tokens ty.Pair rest = word (codes "pair") rest
ty_tokens ty.Lc rest = word (codes "lc") rest
ty_tokens ty.IntSet rest = word (codes "int") (word (codes "set") rest)
ty_tokens ty.IpSet rest = word (codes "ip") (word (codes "set") rest)
ty_tokens ty.PrefixSet rest = word (codes "prefix") (word (codes "set") rest)
ty_tokens ty.PairSet rest = word (codes "pair") (word (codes "set") rest)
ty_tokens ty.LcSet rest = word (codes "lc") (word (codes "set") rest)

-- Statements.

abbrev pub label_tokens : Label → Before
label_tokens (Between low high) rest = range_tokens (low, high) rest
label_tokens (IsState s) rest = word (state_text s) rest

-- an expression and the semicolon
abbrev pub last_tokens : ExprTree → Before
last_tokens e rest = expr_tokens e (sign mark.Semicolon rest)

-- `list.change(e);`
abbrev pub change_tokens : List ℕ → List ℕ → ExprTree → Before
change_tokens list change e rest =
    word list (sign mark.Dot (word change
    (sign mark.Open (expr_tokens e (sign mark.Close (sign mark.Semicolon rest))))))

abbrev mutual
  pub stmt_tokens : StmtTree → Before
  stmt_tokens (block ss) rest = sign mark.BlockOpen (stmts_tokens ss (sign mark.BlockClose rest))
  stmt_tokens (if_then e ss ts) rest =
      word (codes "if") (expr_tokens e (word (codes "then")
      (sign mark.BlockOpen (stmts_tokens ss (sign mark.BlockClose (else_tokens ts rest))))))
  stmt_tokens (case_of e arms ts) rest =
      word (codes "case") (expr_tokens e (sign mark.BlockOpen (arms_tokens arms (other_tokens ts (sign mark.BlockClose rest)))))
  stmt_tokens (return_value e) rest = word (codes "return") (last_tokens e rest)
  stmt_tokens accept rest = word (codes "accept") (sign mark.Semicolon rest)
  stmt_tokens reject rest = word (codes "reject") (sign mark.Semicolon rest)
  stmt_tokens (call_statement n es) rest =
      name n (sign mark.Open (exprs_tokens es (sign mark.Close (sign mark.Semicolon rest))))
  stmt_tokens (set_next_hop e) rest = word (codes "bgp_next_hop") (sign mark.Equal (last_tokens e rest))
  stmt_tokens (prepend e) rest = change_tokens (codes "bgp_path") (codes "prepend") e rest
  stmt_tokens (add_pair e) rest = change_tokens (codes "bgp_community") (codes "add") e rest
  stmt_tokens (delete_pairs e) rest = change_tokens (codes "bgp_community") (codes "delete") e rest
  stmt_tokens (add_triple e) rest = change_tokens (codes "bgp_large_community") (codes "add") e rest
  stmt_tokens (delete_triples e) rest = change_tokens (codes "bgp_large_community") (codes "delete") e rest

  pub stmts_tokens : StmtTrees → Before
  stmts_tokens stmts_end rest = rest
  stmts_tokens (stmts_more s ss) rest = stmt_tokens s (stmts_tokens ss rest)

  -- what an `if` does else, where it does something
  pub else_tokens : StmtTrees → Before
  else_tokens stmts_end rest = rest
  else_tokens (stmts_more s ss) rest =
      word (codes "else") (sign mark.BlockOpen (stmt_tokens s (stmts_tokens ss (sign mark.BlockClose rest))))

  -- what a `case` does where no arm has the value
  pub other_tokens : StmtTrees → Before
  other_tokens stmts_end rest = rest
  other_tokens (stmts_more s ss) rest =
      word (codes "else") (sign mark.Colon (stmt_tokens s (stmts_tokens ss rest)))

  pub arms_tokens : ArmTrees → Before
  arms_tokens arms_end rest = rest
  arms_tokens (arms_more ls ss arms) rest =
      list_of label_tokens ls (sign mark.Colon (stmts_tokens ss (arms_tokens arms rest)))

-- Items.

-- statements in braces
abbrev pub body_tokens : StmtTrees → Before
body_tokens ss rest = sign mark.BlockOpen (stmts_tokens ss (sign mark.BlockClose rest))

abbrev pub param_tokens : Ty × List ℕ → Before
param_tokens p rest = ty_tokens p.0 (name p.1 rest)

abbrev pub more_params_tokens : List (Ty × List ℕ) → Before
more_params_tokens [] rest = rest
more_params_tokens (p ∷ ps) rest = sign mark.Semicolon (param_tokens p (more_params_tokens ps rest))

abbrev pub params_tokens : List (Ty × List ℕ) → Before
params_tokens [] rest = rest
params_tokens (p ∷ ps) rest = param_tokens p (more_params_tokens ps rest)

abbrev pub use_tokens : Use → Before
use_tokens All rest = word (codes "all") (sign mark.Semicolon rest)
use_tokens Nothing rest = word (codes "none") (sign mark.Semicolon rest)
use_tokens (Named n) rest = word (codes "filter") (name n (sign mark.Semicolon rest))

abbrev pub ways_tokens : Use → Use → Before
ways_tokens inward outward rest =
    word (codes "import") (use_tokens inward (word (codes "export") (use_tokens outward rest)))

abbrev pub table_tokens : List ℕ → Before
table_tokens n rest = word (codes "table") (name n (sign mark.Semicolon rest))

-- the head of a protocol
abbrev pub head_tokens : List ℕ → List ℕ → Before
head_tokens kind n rest = word (codes "protocol") (word kind (name n (sign mark.BlockOpen rest)))

abbrev pub pipe_tokens : Pipe → Before
pipe_tokens p rest =
    head_tokens (codes "pipe") p.name
    (table_tokens p.table (word (codes "peer")
    (table_tokens p.peer (ways_tokens p.import p.export (sign mark.BlockClose rest)))))

abbrev pub asn_tokens : ℕ → Before
asn_tokens n rest = word (codes "as") (number n (sign mark.Semicolon rest))

-- the address of this end, where it is told
abbrev pub local_tokens : Option Addr → Before
local_tokens None rest = rest
local_tokens (Some a) rest = addr_tokens a rest

abbrev pub client_tokens : Bool → Before
client_tokens true rest = word (codes "rs") (word (codes "client") (sign mark.Semicolon rest))
client_tokens false rest = rest

abbrev pub password_tokens : Option (List ℕ) → Before
password_tokens None rest = rest
password_tokens (Some p) rest = word (codes "password") (Text p ∷ sign mark.Semicolon rest)

abbrev pub limit_tokens : Option ℕ → Before
limit_tokens None rest = rest
limit_tokens (Some n) rest =
    word (codes "import") (word (codes "limit")
    (number n (word (codes "action") (word (codes "block") (sign mark.Semicolon rest)))))

-- the channel of a session
abbrev pub channel_tokens : Bgp → Before
channel_tokens b rest =
    word (channel_text b.family) (sign mark.BlockOpen (table_tokens b.table (ways_tokens b.import b.export
    (limit_tokens b.limit (sign mark.BlockClose (sign mark.Semicolon rest))))))

abbrev pub bgp_tokens : Bgp → Before
bgp_tokens b rest =
    head_tokens (codes "bgp") b.name
    (word (codes "local") (local_tokens b.local (asn_tokens b.own.0
    (word (codes "neighbor") (addr_tokens b.neighbor (asn_tokens b.asn.0
    (client_tokens b.rs_client (password_tokens b.password
    (channel_tokens b (sign mark.BlockClose rest))))))))))

abbrev pub device_tokens : Option (List ℕ) → Before
device_tokens None rest = word (codes "protocol")
    (word (codes "device") (sign mark.BlockOpen (sign mark.BlockClose rest)))
device_tokens (Some n) rest = head_tokens (codes "device") n (sign mark.BlockClose rest)

abbrev pub item_tokens : ItemTree → Before
item_tokens (router_id_item a) rest =
    word (codes "router") (word (codes "id") (addr_tokens a (sign mark.Semicolon rest)))
item_tokens (table_item k n) rest =
    word (kind_text k) (word (codes "table") (name n (sign mark.Semicolon rest)))
item_tokens (define_item n e) rest = word (codes "define") (name n (sign mark.Equal (last_tokens e rest)))
item_tokens (function_item n ps ss) rest =
    word (codes "function")
    (name n (sign mark.Open (params_tokens ps (sign mark.Close (body_tokens ss rest)))))
item_tokens (filter_item n ss) rest = word (codes "filter") (name n (body_tokens ss rest))
item_tokens (device_item n) rest = device_tokens n rest
item_tokens (pipe_item p) rest = pipe_tokens p rest
item_tokens (bgp_item b) rest = bgp_tokens b rest

abbrev pub items_tokens : List ItemTree → Before
items_tokens [] rest = rest
items_tokens (i ∷ is) rest = item_tokens i (items_tokens is rest)

-- the tokens of a configuration
abbrev pub config_tokens : List ItemTree → List Token
config_tokens c = items_tokens c []
