-- What written tokens say of items and whole configurations is written again.
use Rattle.std.proofs.Common.{◌≡◌, ℕ, Bool, true, false, List, [], ◌∷◌, codes, Option, Some, None, subst, if◌then◌else◌}
use Rattle.ixp_num.specs.declared.addr.Addr.{Addr}
use Rattle.ixp_lang.specs.Trees.{ItemTree}
use Rattle.ixp_lang.specs.declared.item.Ty.{Ty}
use Rattle.ixp_lang.specs.declared.item.Ty.TheVariants as ty
use Rattle.ixp_lang.specs.declared.item.Kind.{Kind as TableKind}
use Rattle.ixp_lang.specs.declared.item.Use.{Use}
use Rattle.ixp_lang_tokens.specs.declared.token.Kind.{Kind}
use Rattle.ixp_lang_tokens.specs.declared.token.Kind.TheVariants as kind
use Rattle.ixp_lang_tokens.specs.declared.token.Mark.TheVariants as mark
use Rattle.ixp_lang_tokens.specs.Grammars.{Took}
use Rattle.ixp_lang_tokens.specs.Pieces.{same_word}
use Rattle.ixp_lang_exprs.specs.declared.env.Declared.{Declared}
use Rattle.ixp_lang_exprs.specs.declared.env.Declared.TheVariants as declared
use Rattle.ixp_lang_exprs.specs.declared.env.Table.{Table}
use Rattle.ixp_lang_exprs.specs.Names.{Names, number_of, table_of, defined_number}
use Rattle.ixp_lang_exprs.specs.Operands.{anything}
use Rattle.ixp_lang_exprs.specs.Declarations.{nothing_declared, Declares, standing, free_name}
use Rattle.ixp_lang.specs.Trees.{ExprTree, literal, named}
use Rattle.ixp_lang.specs.declared.value.Value.TheVariants as value
use Rattle.ixp_lang_protocols.specs.Protocols.{filter_name, use_form, Ways, ways_form, Owner, filler, peer_pipe, session, marked, now_taken, Owned, owned_table, device_end, Ends, ends_form, pipe_end, as_number_form, local_form, neighbor_form, client_form, string_in, password_form, limit_form, family_form, Channel, channel_form, Peering, peering_form, session_with, bgp_end, protocol_end}
use Rattle.ixp_read.specs.Functions.{type_form, has_sets, Params, param_form, params_form, written_form, levels_inside, as_written, Head, head_form, Body, frame_in, body_end, function_form, filter_form}
use Rattle.ixp_read.specs.Items.{router_id_end, table_end, define_levels, define_place, defined_value, define_end, declaration_form, table_or, item_form, Begun, config_form}
use Rattle.ixp_lang_laws.specs.Canonical.{Before, word, sign, addr_tokens}
use Rattle.ixp_lang_laws.specs.CanonicalItems.{ty_tokens, param_tokens, params_tokens, more_params_tokens, use_tokens, ways_tokens, limit_tokens, client_tokens, password_tokens, local_tokens, asn_tokens, channel_tokens, bgp_tokens, item_tokens, items_tokens, config_tokens}
use Rattle.ixp_lang_laws.specs.Printed.{IsWritten, AreWritten}
use Rattle.ixp_lang_laws.proofs.Keeping.{Keeps, Any, keeps_gives, keeps_takes, keeps_token, keeps_sequence, keeps_then, keeps_choice, keeps_checks, keeps_unless, keeps_here, keeps_rounds, keeps_mark, keeps_word, keeps_only, keeps_ended, IsNumber, IsName, keeps_number, keeps_name, AreAll, all_more, Writes}
use Rattle.ixp_lang_laws.proofs.WrittenSets.{NumberFits, NumbersFit}
use Rattle.ixp_lang_laws.proofs.WrittenExpressions.{IsExpr, IsOperand, keeps_expression}
use Rattle.ixp_lang_laws.proofs.WrittenStatements.{IsStmt, body_writes, keeps_body}

-- Names.

nothing_fits : NumbersFit nothing_declared
nothing_fits n = tt

standing_fits : (names : Names) (n : List ℕ) (what : Declared) → NumbersFit names → NumberFits (number_of (Some what)) → NumbersFit (standing names n what)
standing_fits names n what fit one other = by_case (same_word n other)
  where
    by_case : (b : Bool) → NumberFits (number_of (if b then Some what else names other))
    by_case true = one
    by_case false = fit other

keeps_free : (names : Names) → Keeps (free_name names) IsName
keeps_free names = keeps_here (λ left. keeps_sequence keeps_name (λ n is. keeps_checks (keeps_gives is)))

abbrev IsItem : ItemTree → Type 0
IsItem i = Writes (item_tokens i)

abbrev IsDeclared : Declares → Type 0
IsDeclared d = IsItem d.0 × NumbersFit d.1

-- What is let through.

abbrev IsUse : Use → Type 0
IsUse u = Writes (use_tokens u)

keeps_use : (names : Names) → Keeps (use_form names) IsUse
keeps_use names =
    keeps_choice (keeps_then (keeps_word _) (λ x. keeps_ended mark.Semicolon (λ rest written. (tt, (tt, written)))))
    (keeps_choice (keeps_then (keeps_word _) (λ x. keeps_ended mark.Semicolon (λ rest written. (tt, (tt, written)))))
    (keeps_then (keeps_word _) (λ x. keeps_sequence keeps_filter (λ n is. keeps_ended mark.Semicolon (λ rest written. (tt, (is, (tt, written))))))))
  where
    keeps_filter : Keeps (filter_name names) IsName
    keeps_filter = keeps_here (λ left. keeps_sequence keeps_name (λ n is. keeps_checks (keeps_gives is)))

abbrev AreWays : Ways → Type 0
AreWays w = Writes (ways_tokens w.inward w.outward)

keeps_ways : (names : Names) → Keeps (ways_form names) AreWays
keeps_ways names =
    keeps_then (keeps_word _) (λ x.
    keeps_sequence (keeps_use names) (λ inward one.
    keeps_then (keeps_word _) (λ y. keeps_sequence (keeps_use names) (λ outward two. keeps_gives (λ rest written. (tt, one _ (tt, two rest written)))))))

-- Tables.

marked_fits : (owner : Owner) (names : Names) (n : List ℕ) (t : Option Table) → NumbersFit names → NumbersFit (marked owner names n t)
marked_fits owner names n None fit = fit
marked_fits owner names n (Some table) fit = standing_fits names n (declared.Table (now_taken owner table)) fit tt

abbrev IsOwned : Owned → Type 0
IsOwned o = IsName o.name × NumbersFit o.names

keeps_owned : (owner : Owner) (names : Names) → NumbersFit names → Keeps (owned_table owner names) IsOwned
keeps_owned owner names fit =
    keeps_then (keeps_word _) (λ x.
    keeps_here (λ left. keeps_sequence keeps_name (λ n is. keeps_checks (keeps_ended mark.Semicolon (is, marked_fits owner names n (table_of (names n)) fit)))))

-- Protocols.

keeps_device : (names : Names) → NumbersFit names → Keeps (device_end names) IsDeclared
keeps_device names fit =
    keeps_choice (keeps_then (keeps_mark mark.BlockOpen) (λ x. keeps_ended mark.BlockClose (λ rest written. (tt, (tt, (tt, (tt, written)))), fit)))
    (keeps_sequence (keeps_free names) (λ n is.
    keeps_then (keeps_mark mark.BlockOpen) (λ x.
    keeps_ended mark.BlockClose (λ rest written. (tt, (tt, (is, (tt, (tt, written))))), standing_fits names n declared.Protocol fit tt))))

abbrev AreEnds : Ends → Type 0
AreEnds e = IsName e.table × IsName e.peer × NumbersFit e.names

keeps_ends : (names : Names) → NumbersFit names → Keeps (ends_form names) AreEnds
keeps_ends names fit =
    keeps_sequence (keeps_owned filler names fit) (λ table one.
    keeps_then (keeps_word _) (λ x. keeps_sequence (keeps_owned peer_pipe table.names one.1) (λ peer two. keeps_gives (one.0, two.0, two.1))))

keeps_pipe : (names : Names) → NumbersFit names → Keeps (pipe_end names) IsDeclared
keeps_pipe names fit =
    keeps_sequence (keeps_free names) (λ n is.
    keeps_then (keeps_mark mark.BlockOpen) (λ x.
    keeps_sequence (keeps_ends names fit) (λ ends all.
    keeps_sequence (keeps_ways ends.names) (λ ways let_through.
    keeps_ended mark.BlockClose
    (λ rest written. (tt, (tt, (is, (tt, (tt, (all.0, (tt, (tt, (tt, (all.1, (tt, let_through _ (tt, written)))))))))))), standing_fits ends.names n declared.Protocol all.2 tt)))))

-- Sessions.

keeps_asn : Keeps as_number_form (λ a. IsNumber a.0)
keeps_asn = keeps_then (keeps_word _) (λ x. keeps_sequence keeps_number (λ n fit. keeps_ended mark.Semicolon fit))

keeps_local : Keeps local_form (λ l. IsNumber l.asn.0)
keeps_local =
    keeps_then (keeps_word _) (λ x.
    keeps_choice (keeps_then (keeps_token _) (λ a. keeps_sequence keeps_asn (λ asn fit. keeps_gives fit))) (keeps_sequence keeps_asn (λ asn fit. keeps_gives fit)))

keeps_neighbor : Keeps neighbor_form (λ n. IsNumber n.asn.0)
keeps_neighbor = keeps_then (keeps_word _) (λ x. keeps_then (keeps_token _) (λ a. keeps_sequence keeps_asn (λ asn fit. keeps_gives fit)))

keeps_client : Keeps client_form Any
keeps_client = keeps_choice (keeps_then (keeps_word _) (λ x. keeps_then (keeps_word _) (λ y. keeps_ended mark.Semicolon tt))) (keeps_gives tt)

abbrev IsString : List ℕ → Type 0
IsString s = IsWritten (kind.Text s)

string_keeps : (k : Kind) (s : List ℕ) → IsWritten k → string_in k ≡ Some s → IsString s
string_keeps (kind.Text t) s written e = (let h : t ≡ s = cc in subst IsString h written)
string_keeps _ s written e = absurd cc

abbrev IsPassword : Option (List ℕ) → Type 0
IsPassword None = Unit {0}
IsPassword (Some s) = IsString s

keeps_password : Keeps password_form IsPassword
keeps_password = keeps_choice (keeps_then (keeps_word _) (λ x. keeps_sequence (keeps_takes string_keeps) (λ s is. keeps_ended mark.Semicolon is))) (keeps_gives tt)

keeps_limit : Keeps limit_form NumberFits
keeps_limit =
    keeps_choice
    (keeps_then (keeps_word _) (λ x.
    keeps_then (keeps_word _) (λ y.
    keeps_sequence keeps_number (λ n fit. keeps_then (keeps_word _) (λ z. keeps_then (keeps_word _) (λ u. keeps_ended mark.Semicolon fit))))))
    (keeps_gives tt)

keeps_family : Keeps family_form Any
keeps_family = keeps_choice (keeps_then (keeps_word _) (λ x. keeps_gives tt)) (keeps_then (keeps_word _) (λ x. keeps_gives tt))

abbrev IsChannel : Channel → Type 0
IsChannel c = IsName c.table × AreWays c.ways × NumberFits c.limit × NumbersFit c.names

keeps_channel : (names : Names) → NumbersFit names → Keeps (channel_form names) IsChannel
keeps_channel names fit =
    keeps_then keeps_family (λ family.
    keeps_then (keeps_mark mark.BlockOpen) (λ x.
    keeps_sequence (keeps_owned session names fit) (λ table one.
    keeps_sequence (keeps_ways table.names) (λ ways two.
    keeps_sequence keeps_limit (λ limit three. keeps_then (keeps_mark mark.BlockClose) (λ y. keeps_ended mark.Semicolon (one.0, two, three, one.1)))))))

abbrev IsPeering : Peering → Type 0
IsPeering p = IsNumber p.here_.asn.0 × IsNumber p.there.asn.0 × IsPassword p.password

keeps_peering : Keeps peering_form IsPeering
keeps_peering =
    keeps_sequence keeps_local (λ here_ one.
    keeps_sequence keeps_neighbor (λ there two.
    keeps_then keeps_client (λ rs_client. keeps_sequence keeps_password (λ password three. keeps_gives (one, two, three)))))

local_writes : (l : Option Addr) → Writes (local_tokens l)
local_writes None rest written = written
local_writes (Some a) rest written = (tt, written)

client_writes : (b : Bool) → Writes (client_tokens b)
client_writes true rest written = (tt, (tt, (tt, written)))
client_writes false rest written = written

password_writes : (p : Option (List ℕ)) → IsPassword p → Writes (password_tokens p)
password_writes None is rest written = written
password_writes (Some s) is rest written = (tt, (is, (tt, written)))

limit_writes : (n : Option ℕ) → NumberFits n → Writes (limit_tokens n)
limit_writes None fit rest written = written
limit_writes (Some n) fit rest written = (tt, (tt, (fit, (tt, (tt, (tt, written))))))

asn_writes : (n : ℕ) → IsNumber n → Writes (asn_tokens n)
asn_writes n fit rest written = (tt, (fit, (tt, written)))

channel_writes : (n : List ℕ) (p : Peering) (c : Channel) → IsChannel c → Writes (channel_tokens (session_with n p c))
channel_writes n p c is rest written =
    let end : AreWritten (sign mark.BlockClose (sign mark.Semicolon rest)) = (tt, (tt, written)) in
    (tt, (tt, (tt, (is.0, (tt, is.1 _ (limit_writes c.limit is.2 (sign mark.BlockClose (sign mark.Semicolon rest)) end))))))

-- what follows the two ends of a session
abbrev behind_peering : List ℕ → Peering → Channel → Before
behind_peering n p c rest = client_tokens p.rs_client (password_tokens p.password (channel_tokens (session_with n p c) (sign mark.BlockClose rest)))

behind_writes : (n : List ℕ) (p : Peering) (c : Channel) → IsPassword p.password → IsChannel c → Writes (behind_peering n p c)
behind_writes n p c password channel rest written =
    let end : AreWritten (sign mark.BlockClose rest) = (tt, written) in
    client_writes p.rs_client _ (password_writes p.password password _ (channel_writes n p c channel (sign mark.BlockClose rest) end))

-- the two ends of a session, before others
abbrev neighbor_tokens : Peering → Before
neighbor_tokens p rest = word (codes "neighbor") (addr_tokens p.there.addr (asn_tokens p.there.asn.0 rest))

abbrev own_tokens : Peering → Before
own_tokens p rest = word (codes "local") (local_tokens p.here_.addr (asn_tokens p.here_.asn.0 rest))

neighbor_writes : (p : Peering) → IsPeering p → Writes (neighbor_tokens p)
neighbor_writes p is rest written = (tt, (tt, asn_writes p.there.asn.0 is.1 rest written))

own_writes : (p : Peering) → IsPeering p → Writes (own_tokens p)
own_writes p is rest written = (tt, local_writes p.here_.addr _ (asn_writes p.here_.asn.0 is.0 rest written))

session_writes : (n : List ℕ) (p : Peering) (c : Channel) → IsName n → IsPeering p → IsChannel c → Writes (bgp_tokens (session_with n p c))
session_writes n p c is peering channel rest written =
    (tt, (tt, (is, (tt, own_writes p peering (neighbor_tokens p (behind_peering n p c rest)) (neighbor_writes p peering (behind_peering n p c rest) (behind_writes n p c peering.2 channel rest written))))))

keeps_session : (names : Names) → NumbersFit names → Keeps (bgp_end names) IsDeclared
keeps_session names fit =
    keeps_sequence (keeps_free names) (λ n is.
    keeps_then (keeps_mark mark.BlockOpen) (λ x.
    keeps_sequence keeps_peering (λ peering one.
    keeps_sequence (keeps_channel names fit) (λ channel two.
    keeps_ended mark.BlockClose (session_writes n peering channel is one two, standing_fits channel.names n declared.Protocol two.3 tt)))))

keeps_protocol : (names : Names) → NumbersFit names → Keeps (protocol_end names) IsDeclared
keeps_protocol names fit =
    keeps_choice (keeps_then (keeps_word _) (λ x. keeps_device names fit))
    (keeps_choice (keeps_then (keeps_word _) (λ x. keeps_pipe names fit)) (keeps_then (keeps_word _) (λ x. keeps_session names fit)))

-- Functions and filters.

type_writes : (t : Ty) → Writes (ty_tokens t)
type_writes ty.Int rest written = (tt, written)
type_writes ty.Bool rest written = (tt, written)
type_writes ty.Ip rest written = (tt, written)
type_writes ty.Prefix rest written = (tt, written)
type_writes ty.Pair rest written = (tt, written)
type_writes ty.Lc rest written = (tt, written)
type_writes ty.IntSet rest written = (tt, (tt, written))
type_writes ty.IpSet rest written = (tt, (tt, written))
type_writes ty.PrefixSet rest written = (tt, (tt, written))
type_writes ty.PairSet rest written = (tt, (tt, written))
type_writes ty.LcSet rest written = (tt, (tt, written))

keeps_type : Keeps type_form Any
keeps_type = keeps_then (keeps_token _) (λ t. keeps_choice (keeps_only (has_sets t) (keeps_then (keeps_word _) (λ x. keeps_gives tt))) (keeps_gives tt))

abbrev IsParam : Ty × List ℕ → Type 0
IsParam p = IsName p.1

abbrev AreParams : Params → Type 0
AreParams p = AreAll IsParam p.params × NumbersFit p.names

param_writes : (p : Ty × List ℕ) → IsParam p → Writes (param_tokens p)
param_writes p is rest written = type_writes p.0 _ (is, written)

more_params_write : (ps : List (Ty × List ℕ)) → AreAll IsParam ps → Writes (more_params_tokens ps)
more_params_write [] all rest written = written
more_params_write (p ∷ ps) (one, all) rest written = (tt, param_writes p one _ (more_params_write ps all rest written))

params_write : (ps : List (Ty × List ℕ)) → AreAll IsParam ps → Writes (params_tokens ps)
params_write [] all rest written = written
params_write (p ∷ ps) (one, all) rest written = param_writes p one _ (more_params_write ps all rest written)

keeps_param : (number : ℕ) (before : Params) → AreParams before → Keeps (param_form number before) AreParams
keeps_param number before all =
    keeps_then keeps_type (λ t.
    keeps_here (λ left.
    keeps_sequence keeps_name (λ n is.
    keeps_checks (keeps_gives (all_more IsParam before.params (t, n) all.0 is, standing_fits before.names n _ all.1 tt)))))

keeps_params : (number : ℕ) (names : Names) → NumbersFit names → Keeps (params_form number names) AreParams
keeps_params number names fit =
    keeps_then (keeps_mark mark.Open) (λ x.
    keeps_choice (keeps_ended mark.Close (tt, fit))
    (keeps_sequence
    (keeps_rounds AreParams (tt, fit) (λ before all. keeps_sequence (keeps_param number before all) (λ params more. keeps_choice (keeps_ended mark.Semicolon more) (keeps_gives more))))
    (λ params all. keeps_ended mark.Close all)))

keeps_written : Keeps written_form Any
keeps_written = keeps_choice (keeps_then (keeps_mark mark.Arrow) (λ x. keeps_then keeps_type (λ t. keeps_gives tt))) (keeps_gives tt)

abbrev IsHead : Head → Type 0
IsHead h = IsName h.name × AreParams h.params

keeps_head : (number : ℕ) (names : Names) → NumbersFit names → Keeps (head_form number names) IsHead
keeps_head number names fit =
    keeps_sequence (keeps_free names) (λ n is.
    keeps_sequence (keeps_params number (standing names n declared.Begun) (standing_fits names n declared.Begun fit tt)) (λ params all. keeps_gives (is, all)))

abbrev IsBody : Body → Type 0
IsBody b = AreAll IsStmt b.statements

keeps_body_end : (number : ℕ) (names : Names) → NumbersFit names → Keeps (body_end number names) IsBody
keeps_body_end number names fit =
    keeps_here (λ place.
    keeps_then keeps_written (λ type_.
    keeps_then (keeps_mark mark.BlockOpen) (λ x.
    keeps_sequence (keeps_body (frame_in number names) fit levels_inside (as_written type_)) (λ body all. keeps_checks (keeps_gives all)))))

keeps_function : (number : ℕ) (names : Names) → NumbersFit names → Keeps (function_form number names) IsDeclared
keeps_function number names fit =
    keeps_sequence (keeps_head number names fit) (λ head is.
    keeps_sequence (keeps_body_end number head.params.names is.1.1) (λ body all.
    keeps_gives
    (λ rest written. (tt, (is.0, (tt, params_write head.params.params is.1.0 _ (tt, body_writes body.statements all rest written)))), standing_fits head.params.names head.name _ is.1.1 tt)))

keeps_filter_end : (names : Names) → NumbersFit names → Keeps (filter_form names) IsDeclared
keeps_filter_end names fit =
    keeps_sequence (keeps_free names) (λ n is.
    keeps_then (keeps_mark mark.BlockOpen) (λ x.
    keeps_sequence (keeps_body _ fit levels_inside (as_written None)) (λ body all.
    keeps_gives (λ rest written. (tt, (is, body_writes body.it all rest written)), standing_fits names n declared.Filter fit tt))))

-- Items.

keeps_router_id : (names : Names) → NumbersFit names → Keeps (router_id_end names) IsDeclared
keeps_router_id names fit =
    keeps_then (keeps_word _) (λ x. keeps_then (keeps_token _) (λ a. keeps_ended mark.Semicolon (λ rest written. (tt, (tt, (tt, (tt, written)))), fit)))

keeps_table_item : (k : TableKind) (names : Names) → NumbersFit names → Keeps (table_end k names) IsDeclared
keeps_table_item k names fit =
    keeps_then (keeps_word _) (λ x.
    keeps_sequence (keeps_free names) (λ n is.
    keeps_ended mark.Semicolon (λ rest written. (tt, (tt, (is, (tt, written)))), standing_fits names n _ fit tt)))

-- the number that a written value is
defined_fits : (names : Names) (e : ExprTree) → NumbersFit names → IsExpr e → NumberFits (defined_number names e)
defined_fits names (literal (value.Int n)) fit is = (is [] tt).0
defined_fits names (named n) fit is = fit n
defined_fits names _ fit is = tt

keeps_defined : (statement : ℕ) (names : Names) → NumbersFit names → Keeps (defined_value statement names) IsOperand
keeps_defined statement names fit =
    keeps_sequence (keeps_expression (define_place statement names) fit define_levels anything) (λ o is. keeps_then (keeps_mark mark.Semicolon) (λ x. keeps_checks (keeps_gives is)))

keeps_define : (statement : ℕ) (names : Names) → NumbersFit names → Keeps (define_end statement names) IsDeclared
keeps_define statement names fit =
    keeps_sequence (keeps_free names) (λ n is.
    keeps_then (keeps_mark mark.Equal) (λ x.
    keeps_sequence (keeps_defined statement names fit) (λ o so.
    keeps_gives (λ rest written. (tt, (is, (tt, so _ (tt, written)))), standing_fits names n _ fit (defined_fits names o.tree fit so)))))

keeps_item : (number : ℕ) (names : Names) → NumbersFit names → Keeps (item_form number names) IsDeclared
unfolding item_form table_or declaration_form
keeps_item number names fit =
    keeps_here (λ place.
    keeps_choice (keeps_then (keeps_word _) (λ x. keeps_router_id names fit))
    (keeps_choice (keeps_then (keeps_word _) (λ x. keeps_table_item _ names fit))
    (keeps_choice (keeps_then (keeps_word _) (λ x. keeps_table_item _ names fit))
    (keeps_choice (keeps_then (keeps_word _) (λ x. keeps_table_item _ names fit))
    (keeps_choice (keeps_then (keeps_word _) (λ x. keeps_table_item _ names fit))
    (keeps_choice (keeps_then (keeps_word _) (λ x. keeps_define place names fit))
    (keeps_choice (keeps_then (keeps_word _) (λ x. keeps_function number names fit))
    (keeps_choice (keeps_then (keeps_word _) (λ x. keeps_filter_end names fit))
    (keeps_then (keeps_word _) (λ x. keeps_protocol names fit))))))))))

abbrev IsBegun : Begun → Type 0
IsBegun b = AreAll IsItem b.items × NumbersFit b.names

keeps_config : Keeps config_form (AreAll IsItem)
keeps_config =
    keeps_rounds IsBegun (tt, nothing_fits) (λ before all.
    keeps_choice (keeps_sequence (keeps_item _ before.names all.1) (λ d is. keeps_gives (all_more IsItem before.items d.0 all.0 is.0, is.1))) (keeps_unless (keeps_gives all.0)))

items_write : (items : List ItemTree) → AreAll IsItem items → Writes (items_tokens items)
items_write [] all rest written = written
items_write (i ∷ items) (one, all) rest written = one _ (items_write items all rest written)

-- the configuration that written tokens spell has canonical tokens that are written
pub spelt_written : (c : List ItemTree) (tokens : List Kind) → AreWritten tokens → Took config_form c tokens [] → AreWritten (config_tokens c)
spelt_written c tokens written took = items_write c (keeps_config.keeps c tokens [] written took).0 [] tt
