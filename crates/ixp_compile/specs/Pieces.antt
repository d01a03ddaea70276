-- Small pieces of the text of a route server (BIRD 2 User's Guide, chapter "Filters"), as trees.
use Rattle.std.specs.Prelude.{ℕ, Bool, List, [], ◌∷◌, ◌++◌, None, map, codes, decimal}
use Rattle.ixp_num.specs.declared.asn.Asn.{Asn}
use Rattle.ixp_num.specs.declared.family.Family.{Family}
use Rattle.ixp_num.specs.declared.family.Family.TheVariants.{V4, V6}
use Rattle.ixp_lang.specs.declared.expr.Attr.{Attr}
use Rattle.ixp_lang.specs.declared.expr.Op.{Op}
use Rattle.ixp_lang.specs.declared.item.Kind.{Kind}
use Rattle.ixp_lang.specs.declared.item.Kind.TheVariants.{Ipv4, Ipv6, Roa4, Roa6}
use Rattle.ixp_lang.specs.declared.value.SetLit.{SetLit}
use Rattle.ixp_lang.specs.declared.value.SetLit.TheVariants as set
use Rattle.ixp_lang.specs.declared.value.Value.TheVariants as value
use Rattle.ixp_lang.specs.Trees.{ExprTree, literal, attribute, set_literal, comparison, exprs, StmtTree, if_then, call_statement, add_triple, stmts, ItemTree, define_item}

-- Expressions.

abbrev pub int : ℕ → ExprTree
int n = literal (value.Int n)

abbrev pub truth_value : Bool → ExprTree
truth_value b = literal (value.Bool b)

-- `bgp_path.len > 64` and the like
abbrev pub compared : Op → Attr → ExprTree → ExprTree
compared o a e = comparison o (attribute a) e

-- the set of the large communities of the server `rs` with these second parts, `(rs, 1000, *)` and the like
abbrev pub all_large : ℕ → List ℕ → ExprTree
all_large rs actions = set_literal (set.Triples (map (λ a. (rs, a, None)) actions))

-- a set of numbers, each a range of its own
abbrev pub numbers : List Asn → SetLit
numbers asns = set.Ints (map (λ a. (a.0, a.0)) asns)

-- Statements.

-- `if e then {` these `}`
abbrev pub when : ExprTree → List StmtTree → StmtTree
when e ss = if_then e (stmts ss) (stmts [])

-- `name();`
abbrev pub run : List ℕ → StmtTree
run name = call_statement name (exprs [])

-- the route is refused with a number: the function tells it on the route, and ends the filter
abbrev pub drop_with : ℕ → StmtTree
drop_with n = call_statement (codes "ixp_drop") (exprs (int n ∷ []))

-- `bgp_large_community.add((rs, a, b));`
abbrev pub tell : ℕ → ℕ → ℕ → StmtTree
tell rs a b = add_triple (literal (value.Triple rs a b))

-- Parts.

-- these parts one after the other
abbrev pub in_turn : {A : Type 0} → List (List A) → List A
in_turn [] = []
in_turn (part ∷ parts) = part ++ in_turn parts

-- Lists that may be empty: the text has no empty set.

-- a defined set, left out where the list is empty
abbrev pub defined : {A : Type 0} → List ℕ → (List A → SetLit) → List A → List ItemTree
defined name made [] = []
defined name made (x ∷ xs) = define_item name (set_literal (made (x ∷ xs))) ∷ []

-- what names the set, left out likewise
abbrev pub where_any : {A : Type 0} → List A → List StmtTree → List StmtTree
where_any [] ss = []
where_any (x ∷ xs) ss = ss

-- Names.

-- the name of a session's own item: a word and its interface's number
abbrev pub numbered : List ℕ → ℕ → List ℕ
numbered word n = word ++ decimal n

abbrev pub master : Family → List ℕ
master V4 = codes "master4"
master V6 = codes "master6"

abbrev pub roas : Family → List ℕ
roas V4 = codes "roas4"
roas V6 = codes "roas6"

abbrev pub table_kind : Family → Kind
table_kind V4 = Ipv4
table_kind V6 = Ipv6

abbrev pub roa_kind : Family → Kind
roa_kind V4 = Roa4
roa_kind V6 = Roa6
