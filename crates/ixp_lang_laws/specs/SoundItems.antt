-- Which configurations a text can spell.
use Rattle.std.specs.Prelude.{ℕ, suc, Bool, true, false, ◌&&◌, not, List, [], ◌∷◌, map, Option, Some, None}
use Rattle.std.specs.Option.{is_none}
use Rattle.ixp_num.specs.declared.family.Family.{Family}
use Rattle.ixp_num.specs.declared.family.Family.TheVariants.{V4, V6}
use Rattle.ixp_lang.specs.declared.item.Ty.{Ty}
use Rattle.ixp_lang.specs.declared.item.Use.{Use}
use Rattle.ixp_lang.specs.declared.item.Use.TheVariants.{All, Nothing, Named}
use Rattle.ixp_lang.specs.Trees.{ItemTree, router_id_item, table_item, define_item, function_item, filter_item, device_item, pipe_item, bgp_item}
use Rattle.ixp_lang_exprs.specs.declared.env.Declared.TheVariants as declared
use Rattle.ixp_lang_exprs.specs.declared.env.Table.{Table}
use Rattle.ixp_lang_exprs.specs.declared.context.Scope.TheVariants as scope
use Rattle.ixp_lang_exprs.specs.Types.{type_of as written_type}
use Rattle.ixp_lang_exprs.specs.Names.{Names, table_of, defined_number}
use Rattle.ixp_lang_exprs.specs.Declarations.{nothing_declared, standing, is_free_in}
use Rattle.ixp_lang_protocols.specs.Protocols.{is_filter, Owner, filler, peer_pipe, session, was_taken, marked}
use Rattle.ixp_read.specs.Functions.{as_written, levels_inside}
use Rattle.ixp_read.specs.Items.{unowned, define_levels}
use Rattle.ixp_lang_laws.specs.Sound.{type_of, fits}
use Rattle.ixp_lang_laws.specs.SoundStatements.{returned_in, stmts_fit}

abbrev pub is_v4 : Family → Bool
is_v4 V4 = true
is_v4 V6 = false

-- the table is there, and nothing else has it
abbrev pub is_free_table : Owner → Option Table → Bool
is_free_table owner None = false
is_free_table owner (Some t) = not (was_taken owner t)

abbrev pub use_fits : Names → Use → Bool
use_fits names All = true
use_fits names Nothing = true
use_fits names (Named n) = is_filter (names n)

-- what names stand for with these parameters
abbrev pub with_params : ℕ → Names → List (Ty × List ℕ) → Names
with_params number names [] = names
with_params number names (p ∷ ps) =
    with_params number (standing names p.1 (declared.Parameter number (written_type p.0))) ps

abbrev pub params_fit : ℕ → Names → List (Ty × List ℕ) → Bool
params_fit number names [] = true
params_fit number names (p ∷ ps) = is_free_in (names p.1) number
    && params_fit number (standing names p.1 (declared.Parameter number (written_type p.0))) ps

-- what a session or pipe leaves of the tables
abbrev pub with_table : Owner → Names → List ℕ → Names
with_table owner names n = marked owner names n (table_of (names n))

-- inside the function of this name and these parameters
abbrev pub inside : ℕ → Names → List ℕ → List (Ty × List ℕ) → Names
inside number names n ps = with_params number (standing names n declared.Begun) ps

-- what names stand for behind an item that fits, before which there are so many
abbrev pub names_behind : ℕ → Names → ItemTree → Names
names_behind number names (router_id_item a) = names
names_behind number names (table_item k n) = standing names n (declared.Table (unowned k))
names_behind number names (define_item n e) =
    standing names n (declared.Define (type_of names scope.Define e) (defined_number names e))
names_behind number names (function_item n ps ss) =
    standing (inside number names n ps) n (declared.Function (record {
      params = map (λ p. written_type p.0) ps;
      returns = (returned_in (inside number names n ps) (scope.Function number) (as_written None) ss).ty;
    }))
names_behind number names (filter_item n ss) = standing names n declared.Filter
names_behind number names (device_item None) = names
names_behind number names (device_item (Some n)) = standing names n declared.Protocol
names_behind number names (pipe_item p) =
    standing (with_table peer_pipe (with_table filler names p.table) p.peer) p.name declared.Protocol
names_behind number names (bgp_item b) = standing (with_table session names b.table) b.name declared.Protocol

abbrev pub item_fits : ℕ → Names → ItemTree → Bool
item_fits number names (router_id_item a) = is_v4 a.family
item_fits number names (table_item k n) = is_none (names n)
item_fits number names (define_item n e) = is_none (names n) && fits names scope.Define define_levels e
item_fits number names (function_item n ps ss) =
    is_none (names n) && params_fit number (standing names n declared.Begun) ps
    && stmts_fit (inside number names n ps) (scope.Function number) levels_inside (as_written None) ss
item_fits number names (filter_item n ss) =
    is_none (names n) && stmts_fit names scope.Filter levels_inside (as_written None) ss
item_fits number names (device_item None) = true
item_fits number names (device_item (Some n)) = is_none (names n)
item_fits number names (pipe_item p) =
    is_none (names p.name) && is_free_table filler (table_of (names p.table))
    && is_free_table peer_pipe (table_of (with_table filler names p.table p.peer))
    && use_fits (with_table peer_pipe (with_table filler names p.table) p.peer) p.import
    && use_fits (with_table peer_pipe (with_table filler names p.table) p.peer) p.export
item_fits number names (bgp_item b) =
    is_none (names b.name) && is_free_table session (table_of (names b.table))
    && use_fits (with_table session names b.table) b.import
    && use_fits (with_table session names b.table) b.export

abbrev pub items_fit : ℕ → Names → List ItemTree → Bool
items_fit number names [] = true
items_fit number names (i ∷ is) =
    item_fits number names i && items_fit (suc number) (names_behind number names i) is

-- a text can spell the configuration
abbrev pub is_sound : List ItemTree → Bool
is_sound c = items_fit 0 nothing_declared c
