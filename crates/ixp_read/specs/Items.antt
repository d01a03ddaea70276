-- Items and configurations (BIRD 2 User's Guide, chapter "Configuration").
use Rattle.std.specs.Prelude.{ℕ, Bool, true, false, ◌||◌, List, [], ◌∷◌, ◌++◌, length, codes, Option, Some, None}
use Rattle.ixp_num.specs.declared.addr.Addr.{Addr}
use Rattle.ixp_num.specs.declared.family.Family.{Family}
use Rattle.ixp_num.specs.declared.family.Family.TheVariants.{V4, V6}
use Rattle.ixp_lang.specs.Trees.{ItemTree, router_id_item, table_item, define_item}
use Rattle.ixp_lang.specs.declared.item.Kind.{Kind}
use Rattle.ixp_lang.specs.declared.item.Kind.TheVariants.{Ipv4, Ipv6, Roa4, Roa6}
use Rattle.ixp_lang_tokens.specs.declared.token.Kind.{Kind as Token}
use Rattle.ixp_lang_tokens.specs.declared.token.Kind.TheVariants as token
use Rattle.ixp_lang_tokens.specs.declared.token.Mark.TheVariants.{Semicolon, Equal}
use Rattle.ixp_lang_tokens.specs.Grammars.{Step, Grammar, gives, takes, sequence, choice, rounds, checks, unless, here, onward, done}
use Rattle.ixp_lang_tokens.specs.Pieces.{the_mark, the_word}
use Rattle.ixp_lang_exprs.specs.declared.env.Declared.TheVariants as declared
use Rattle.ixp_lang_exprs.specs.declared.env.Table.{Table}
use Rattle.ixp_lang_exprs.specs.declared.context.Scope.TheVariants as scope
use Rattle.ixp_lang_exprs.specs.Names.{Names, defined_number}
use Rattle.ixp_lang_exprs.specs.Lists.{ended}
use Rattle.ixp_lang_exprs.specs.Operands.{Operand, anything, settled}
use Rattle.ixp_lang_exprs.specs.Expressions.{Place, expression_form}
use Rattle.ixp_lang_exprs.specs.Declarations.{nothing_declared, Declares, standing, free_name}
use Rattle.ixp_read.specs.Functions.{levels_inside, function_within, filter_within}
use Rattle.ixp_lang_protocols.specs.Protocols.{protocol_end}

abbrev pub if_v4 : Family → Addr → Option Addr
if_v4 V4 addr = Some addr
if_v4 V6 addr = None

abbrev pub v4_addr_in : Token → Option Addr
v4_addr_in (token.Addr addr) = if_v4 addr.family addr
v4_addr_in _ = None

-- what follows `router`
abbrev pub router_id_end : Names → Grammar Declares
router_id_end names = sequence (the_word (codes "id"))
    (λ tt. sequence (takes v4_addr_in) (λ addr. ended Semicolon (router_id_item addr, names)))

abbrev pub is_roa : Kind → Bool
is_roa Ipv4 = false
is_roa Ipv6 = false
is_roa Roa4 = true
is_roa Roa6 = true

abbrev pub unowned : Kind → Table
unowned kind = record { is_roa = is_roa kind; in_session = false; in_pipe = false }

-- what follows the kind of a table
abbrev pub table_end : Kind → Names → Grammar Declares
table_end kind names =
    sequence (the_word (codes "table")) (λ tt.
    sequence (free_name names) (λ name. ended Semicolon
    (table_item kind name, standing names name (declared.Table (unowned kind)))))

-- how many levels a definition may have
abbrev pub define_levels : ℕ
define_levels = 64

-- where the value of a definition stands, which begins at this place
abbrev pub define_place : ℕ → Names → Place
define_place statement names = record { names = names; scope = scope.Define; statement = statement }

-- a definition's value with so many levels at most, built of literals and defined names alone, and the
-- semicolon
abbrev pub value_within : ℕ → ℕ → Names → Grammar Operand
value_within levels statement names =
    sequence (expression_form (define_place statement names) levels anything) (λ value.
    sequence (the_mark Semicolon) (λ tt. checks (settled value) (gives value)))

abbrev pub defined_value : ℕ → Names → Grammar Operand
defined_value statement names = value_within define_levels statement names

abbrev pub defined : Names → List ℕ → Operand → Declares
defined names name value = (
  define_item name value.tree,
  standing names name
      (declared.Define value.ty (defined_number names value.tree)),
)

-- what follows `define`, which stands at this place, with so many levels at most
abbrev pub define_within : ℕ → ℕ → Names → Grammar Declares
define_within levels statement names =
    sequence (free_name names) (λ name.
    sequence (the_mark Equal) (λ tt. sequence (value_within levels statement names)
    (λ value. gives (defined names name value))))

abbrev pub define_end : ℕ → Names → Grammar Declares
define_end statement names = define_within define_levels statement names

-- how many levels a definition may have, and how many there may be in the block of a filter or function
pub record Levels : Type 0 where
  pub of_define : ℕ
  pub inside : ℕ

abbrev pub all_levels : Levels
all_levels = record { of_define = define_levels; inside = levels_inside }

-- a definition, function or filter that has so many levels at most, or a protocol
abbrev pub declaration_within : Levels → ℕ → ℕ → Names → Grammar Declares
declaration_within levels number place names =
    choice (sequence (the_word (codes "define")) (λ tt. define_within levels.of_define place names))
    (choice (sequence (the_word (codes "function")) (λ tt. function_within levels.inside number names))
    (choice (sequence (the_word (codes "filter")) (λ tt. filter_within levels.inside names))
    (sequence (the_word (codes "protocol")) (λ tt. protocol_end names))))

-- a definition, a function, a filter or a protocol, which stands at this place, and before which there are so
-- many items
unfoldable pub declaration_form : ℕ → ℕ → Names → Grammar Declares
declaration_form number place names = declaration_within all_levels number place names

-- a table, or what else may stand there
abbrev pub table_before : Names → Grammar Declares → Grammar Declares
table_before names others =
    choice (sequence (the_word (codes "ipv4")) (λ tt. table_end Ipv4 names))
    (choice (sequence (the_word (codes "ipv6")) (λ tt. table_end Ipv6 names))
    (choice (sequence (the_word (codes "roa4")) (λ tt. table_end Roa4 names))
    (choice (sequence (the_word (codes "roa6")) (λ tt. table_end Roa6 names)) others)))

-- a table, or one of those
unfoldable pub table_or : ℕ → ℕ → Names → Grammar Declares
table_or number place names = table_before names (declaration_form number place names)

-- the router's identifier, or what else may stand there
abbrev pub router_before : Names → Grammar Declares → Grammar Declares
router_before names others = choice (sequence (the_word (codes "router")) (λ tt. router_id_end names)) others

-- an item, before which there are so many
unfoldable pub item_form : ℕ → Names → Grammar Declares
item_form number names = here (λ place. router_before names (table_or number place names))

-- an item that has so many levels at most, whatever the language allows
abbrev pub item_within : Levels → ℕ → Names → Grammar Declares
item_within levels number names =
    here (λ place. router_before names (table_before names (declaration_within levels number place names)))

-- the items so far, and what names stand for behind them
pub record Begun : Type 0 where
  pub items : List ItemTree
  pub names : Names

abbrev pub with_item : Begun → Declares → Begun
with_item before declares = record { items = before.items ++ declares.0 ∷ []; names = declares.1 }

abbrev pub is_more : List Token → Bool
is_more [] = false
is_more (token ∷ tokens) = true

-- Items up to the end of the text, over what an item is.
module _ (item : ℕ → Names → Grammar Declares) where
  abbrev pub item_then : Begun → Grammar (Step Begun (List ItemTree))
  item_then before = sequence (item (length before.items) before.names)
      (λ declares. gives (onward (with_item before declares)))

  -- one more item, or the end of the text
  abbrev pub round_of : Begun → Grammar (Step Begun (List ItemTree))
  round_of before = choice (item_then before) (unless is_more (gives (done before.items)))

  abbrev pub config_of : Grammar (List ItemTree)
  config_of = rounds round_of (record { items = []; names = nothing_declared })

abbrev pub one_item : Begun → Grammar (Step Begun (List ItemTree))
one_item = item_then item_form

abbrev pub config_round : Begun → Grammar (Step Begun (List ItemTree))
config_round = round_of item_form

abbrev pub config_form : Grammar (List ItemTree)
config_form = config_of item_form
