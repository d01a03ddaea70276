-- A configuration that fits is spelt by its canonical tokens.
use Rattle.std.proofs.Common.{◌≡◌, ℕ, suc, inl, inr, Bool, true, false, ◌&&◌, not, List, [], ◌∷◌, ◌++◌, length, map, Option, Some, None, codes, refl, sym, ap, subst, if◌then◌else◌, append_assoc, append-nil, arith}
use Rattle.std.specs.Option.{is_none}
use Rattle.std.proofs.lemmas.Bool.{and_parts}
use Rattle.std.proofs.lemmas.List.{length_push}
use Rattle.ixp_num.specs.declared.addr.Addr.{Addr}
use Rattle.ixp_num.specs.declared.family.Family.{Family}
use Rattle.ixp_num.specs.declared.family.Family.TheVariants.{V4, V6}
use Rattle.ixp_lang_tokens.specs.declared.fault.Cause.{Cause}
use Rattle.ixp_lang_tokens.specs.declared.token.Kind.{Kind}
use Rattle.ixp_lang_tokens.specs.declared.token.Mark.TheVariants as mark
use Rattle.ixp_lang_tokens.specs.Grammars.{sequence, done, Rounds, Took}
use Rattle.ixp_lang_tokens.specs.Pieces.{the_word}
use Rattle.ixp_lang.specs.declared.item.Ty.{Ty}
use Rattle.ixp_lang.specs.declared.item.Use.{Use}
use Rattle.ixp_lang.specs.declared.item.Use.TheVariants.{All, Nothing, Named}
use Rattle.ixp_lang.specs.declared.item.Pipe.{Pipe}
use Rattle.ixp_lang.specs.declared.item.Bgp.{Bgp}
use Rattle.ixp_lang.specs.declared.item.Kind.{Kind as TableKind}
use Rattle.ixp_lang.specs.declared.item.Kind.TheVariants as table
use Rattle.ixp_lang.specs.Trees.{ExprTree, StmtTrees, ItemTree, router_id_item, table_item, define_item, function_item, filter_item, device_item, pipe_item, bgp_item}
use Rattle.ixp_lang_exprs.specs.declared.types.ValueType.{ValueType}
use Rattle.ixp_lang_exprs.specs.declared.env.Declared.TheVariants as declared
use Rattle.ixp_lang_exprs.specs.declared.env.Table.{Table}
use Rattle.ixp_lang_exprs.specs.declared.context.Scope.TheVariants as scope
use Rattle.ixp_lang_exprs.specs.Types.{type_of as written_type}
use Rattle.ixp_lang_exprs.specs.Operands.{anything}
use Rattle.ixp_lang_exprs.specs.Names.{Names, table_of, defined_number}
use Rattle.ixp_lang_exprs.specs.Declarations.{nothing_declared, standing, free_name, is_free_in}
use Rattle.ixp_lang_protocols.specs.Protocols.{is_filter, use_form, ways_form, Owner, filler, peer_pipe, session, was_taken, taken_fault, owned_table, protocol_end, Local, local_form}
use Rattle.ixp_read.specs.Functions.{Params, param_round, params_form, as_written, levels_inside, function_within, filter_within}
use Rattle.ixp_read.specs.Items.{if_v4, define_levels, define_within, declaration_form, table_or, item_form, Begun, config_form, config_round}
use Rattle.ixp_lang_laws.specs.Canonical.{name, sign, word}
use Rattle.ixp_lang_laws.specs.CanonicalItems.{params_tokens, use_tokens, ways_tokens, table_tokens, local_tokens, asn_tokens, item_tokens, items_tokens, config_tokens}
use Rattle.ixp_lang_laws.proofs.Basics.{within_same, sound, so_again}
use Rattle.ixp_lang_laws.proofs.Bodies.{type_spells}
use Rattle.ixp_lang_laws.proofs.Sessions.{neighbor_spells, client_spells, password_spells, limit_spells, family_spells}
use Rattle.ixp_lang_laws.specs.Sound.{type_of, fits}
use Rattle.ixp_lang_laws.specs.SoundStatements.{returned_in, stmts_fit}
use Rattle.ixp_lang_laws.specs.SoundItems.{is_v4, is_free_table, use_fits, with_params, params_fit, with_table, inside, names_behind, item_fits, items_fit, is_sound}
use Rattle.ixp_lang_laws.proofs.SoundLists.{and3}
use Rattle.ixp_lang_laws.proofs.SoundExpressions.{spelt}
use Rattle.ixp_lang_laws.proofs.SoundStatements.{row_of, row_again, body_spoken}

free_spelt : (names : Names) (n : List ℕ) → is_none (names n) ≡ true → (others : List Kind) → Took (free_name names) n (name n others) others
free_spelt names n free others = (n, others, (refl, refl), (so_again (is_none (names n)) _ free, (refl, refl)))

-- Parameters.

abbrev params_with : List (Ty × List ℕ) → List ValueType → Names → Params
params_with ps types names = record { params = ps; types = types; names = names }

abbrev typed : Ty × List ℕ → ValueType
typed p = written_type p.0

params_rounds : (number : ℕ) (before : List (Ty × List ℕ)) (types : List ValueType) (names : Names) (p : Ty × List ℕ) (ps : List (Ty × List ℕ)) → params_fit number names (p ∷ ps) ≡ true → (others : List Kind)
    → (j : ℕ) × Rounds (λ s. Took (param_round number s)) j (params_with before types names) (params_with (before ++ p ∷ ps) (types ++ map typed (p ∷ ps)) (with_params number names (p ∷ ps))) (params_tokens (p ∷ ps) others) others
params_rounds number before types names p [] fit others =
    (let h = and_parts (is_free_in (names p.1) number) true fit in
    (0, (params_with (before ++ p ∷ []) (types ++ typed p ∷ []) (standing names p.1 (declared.Parameter number (typed p))), others, (p.0, _, type_spells p.0 (name p.1 others), (p.1, others, (refl, refl), (so_again (is_free_in (names p.1) number) _ h.0, (refl, refl)))), inr (refl, refl))))
params_rounds number before types names p (q ∷ ps) fit others =
    (let h = and_parts (is_free_in (names p.1) number) (params_fit number (standing names p.1 (declared.Parameter number (typed p))) (q ∷ ps)) fit in
    let more = params_rounds number (before ++ p ∷ []) (types ++ typed p ∷ []) (standing names p.1 (declared.Parameter number (typed p))) q ps h.1 others in
    subst (λ all. (j : ℕ) × Rounds (λ s. Took (param_round number s)) j (params_with before types names) (params_with all (types ++ map typed (p ∷ q ∷ ps)) (with_params number names (p ∷ q ∷ ps))) (params_tokens (p ∷ q ∷ ps) others) others)
    (append_assoc before (p ∷ []) (q ∷ ps))
    (subst (λ all. (j : ℕ) × Rounds (λ s. Took (param_round number s)) j (params_with before types names) (params_with ((before ++ p ∷ []) ++ q ∷ ps) all (with_params number names (p ∷ q ∷ ps))) (params_tokens (p ∷ q ∷ ps) others) others)
    (append_assoc types (typed p ∷ []) (map typed (q ∷ ps)))
    (suc more.0, (params_with (before ++ p ∷ []) (types ++ typed p ∷ []) (standing names p.1 (declared.Parameter number (typed p))), params_tokens (q ∷ ps) others, (params_with (before ++ p ∷ []) (types ++ typed p ∷ []) (standing names p.1 (declared.Parameter number (typed p))), _, (p.0, _, type_spells p.0 _, (p.1, _, (refl, refl), (so_again (is_free_in (names p.1) number) _ h.0, (refl, refl)))), inl (tt, _, (refl, refl), (refl, refl))), more.1))))

params_spelt : (number : ℕ) (names : Names) (ps : List (Ty × List ℕ)) → params_fit number names ps ≡ true → (others : List Kind)
    → Took (params_form number names) (params_with ps (map typed ps) (with_params number names ps)) (sign mark.Open (params_tokens ps (sign mark.Close others))) others
params_spelt number names [] fit others = (tt, _, (refl, refl), inl (tt, _, (refl, refl), (refl, refl)))
params_spelt number names (p ∷ ps) fit others =
    (tt, _, (refl, refl), inr (params_with (p ∷ ps) (map typed (p ∷ ps)) (with_params number names (p ∷ ps)), _, params_rounds number [] [] names p ps fit (sign mark.Close others), (tt, _, (refl, refl), (refl, refl))))

-- Functions and filters, with any number of levels.

function_spelt : (levels number : ℕ) (names : Names) (n : List ℕ) (ps : List (Ty × List ℕ)) (ss : StmtTrees) → is_none (names n) ≡ true → params_fit number (standing names n declared.Begun) ps ≡ true
    → stmts_fit (inside number names n ps) (scope.Function number) levels (as_written None) ss ≡ true → (others : List Kind)
    → Took (sequence (the_word (codes "function")) (λ tt. function_within levels number names)) (function_item n ps ss, names_behind number names (function_item n ps ss)) (item_tokens (function_item n ps ss) others) others
function_spelt levels number names n ps ss free params fit others =
    subst (λ xs. Took (sequence (the_word (codes "function")) (λ tt. function_within levels number names)) (function_item n ps xs, names_behind number names (function_item n ps ss)) (item_tokens (function_item n ps ss) others) others) (row_again ss) (
      tt,
      _,
      (refl, refl),
      (
        record { name = n; params = params_with ps (map typed ps) (inside number names n ps) },
        _,
        (n, _, free_spelt names n free _, (params_with ps (map typed ps) (inside number names n ps), _, params_spelt number (standing names n declared.Begun) ps params _, (refl, refl))),
        (
          record { statements = row_of ss; returns = (returned_in (inside number names n ps) (scope.Function number) (as_written None) ss).ty },
          others,
          (None, _, inr (refl, refl), (tt, _, (refl, refl), (_, others, body_spoken (inside number names n ps) (scope.Function number) levels (as_written None) ss fit others, (refl, (refl, refl))))),
          (refl, refl),
        ),
      ),
    )

filter_spelt : (levels : ℕ) (names : Names) (n : List ℕ) (ss : StmtTrees) → is_none (names n) ≡ true → stmts_fit names scope.Filter levels (as_written None) ss ≡ true → (others : List Kind)
    → Took (sequence (the_word (codes "filter")) (λ tt. filter_within levels names)) (filter_item n ss, standing names n declared.Filter) (item_tokens (filter_item n ss) others) others
filter_spelt levels names n ss free fit others =
    subst (λ xs. Took (sequence (the_word (codes "filter")) (λ tt. filter_within levels names)) (filter_item n xs, standing names n declared.Filter) (item_tokens (filter_item n ss) others) others) (row_again ss)
    (tt, _, (refl, refl), (n, _, free_spelt names n free _, (tt, _, (refl, refl), (_, others, body_spoken names scope.Filter levels (as_written None) ss fit others, (refl, refl)))))

define_spelt : (levels place : ℕ) (names : Names) (n : List ℕ) (e : ExprTree) → is_none (names n) ≡ true → fits names scope.Define levels e ≡ true → (others : List Kind)
    → Took (sequence (the_word (codes "define")) (λ tt. define_within levels place names)) (define_item n e, standing names n (declared.Define (type_of names scope.Define e) (defined_number names e))) (item_tokens (define_item n e) others) others
define_spelt levels place names n e free fit others =
    (let whole = (spelt names scope.Define levels e fit levels (within_same levels)).whole in
    (tt, _, (refl, refl), (n, _, free_spelt names n free _, (tt, _, (refl, refl), (sound e (type_of names scope.Define e) whole.0, _, (sound e (type_of names scope.Define e) whole.0, _, whole.1 place anything refl (sign mark.Semicolon others) (refl, refl), (tt, _, (refl, refl), (refl, (refl, refl)))), (refl, refl))))))

-- Protocols.

use_spelt : (names : Names) (u : Use) → use_fits names u ≡ true → (others : List Kind) → Took (use_form names) u (use_tokens u others) others
use_spelt names All fit others = inl (tt, _, (refl, refl), (tt, _, (refl, refl), (refl, refl)))
use_spelt names Nothing fit others = inr (inl (tt, _, (refl, refl), (tt, _, (refl, refl), (refl, refl))))
use_spelt names (Named n) fit others = inr (inr (tt, _, (refl, refl), (n, _, (n, _, (refl, refl), (so_again (is_filter (names n)) _ fit, (refl, refl))), (tt, _, (refl, refl), (refl, refl)))))

ways_spelt : (names : Names) (u v : Use) → use_fits names u ≡ true → use_fits names v ≡ true → (others : List Kind) → Took (ways_form names) (record { inward = u; outward = v }) (ways_tokens u v others) others
ways_spelt names u v fit_u fit_v others = (tt, _, (refl, refl), (u, _, use_spelt names u fit_u _, (tt, _, (refl, refl), (v, _, use_spelt names v fit_v others, (refl, refl)))))

not_taken : (b : Bool) (fault : Cause × ℕ) → not b ≡ true → ◌≡◌ {A = Option (Cause × ℕ)} (if b then Some fault else None) None
not_taken true fault e = absurd cc
not_taken false fault e = refl

free_table : (owner : Owner) (t : Option Table) (left : ℕ) → is_free_table owner t ≡ true → taken_fault owner t left ≡ None
free_table owner None left e = absurd cc
free_table owner (Some t) left e = not_taken (was_taken owner t) _ e

table_spelt : (owner : Owner) (names : Names) (n : List ℕ) → is_free_table owner (table_of (names n)) ≡ true → (others : List Kind)
    → Took (owned_table owner names) (record { name = n; names = with_table owner names n }) (table_tokens n others) others
table_spelt owner names n free others = (tt, _, (refl, refl), (n, _, (refl, refl), (free_table owner (table_of (names n)) _ free, (tt, _, (refl, refl), (refl, refl)))))

local_spelt : (a : Option Addr) (l : Local) → l.addr ≡ a → (others : List Kind) → Took local_form (record { addr = a; asn = l.asn }) (word (codes "local") (local_tokens a (asn_tokens l.asn.0 others))) others
local_spelt None l same others = (tt, _, (refl, refl), inr (l.asn, _, (tt, _, (refl, refl), (l.asn.0, _, (refl, refl), (tt, _, (refl, refl), (refl, refl)))), (refl, refl)))
local_spelt (Some a) l same others = (tt, _, (refl, refl), inl (a, _, (refl, refl), (l.asn, _, (tt, _, (refl, refl), (l.asn.0, _, (refl, refl), (tt, _, (refl, refl), (refl, refl)))), (refl, refl))))

abbrev ProtocolSpelt : ℕ → Names → ItemTree → Type 0
ProtocolSpelt number names i = (others : List Kind) → Took (sequence (the_word (codes "protocol")) (λ tt. protocol_end names)) (i, names_behind number names i) (item_tokens i others) others

device_spelt : (number : ℕ) (names : Names) (n : Option (List ℕ)) → item_fits number names (device_item n) ≡ true → ProtocolSpelt number names (device_item n)
device_spelt number names None fit others = (tt, _, (refl, refl), inl (tt, _, (refl, refl), inl (tt, _, (refl, refl), (tt, _, (refl, refl), (refl, refl)))))
device_spelt number names (Some n) fit others = (tt, _, (refl, refl), inl (tt, _, (refl, refl), inr (n, _, free_spelt names n fit _, (tt, _, (refl, refl), (tt, _, (refl, refl), (refl, refl))))))

pipe_spelt : (number : ℕ) (names : Names) (p : Pipe) → item_fits number names (pipe_item p) ≡ true → ProtocolSpelt number names (pipe_item p)
pipe_spelt number names p fit others =
    (let h = and3 (is_none (names p.name) && is_free_table filler (table_of (names p.table)) && is_free_table peer_pipe (table_of (with_table filler names p.table p.peer))) (use_fits (with_table peer_pipe (with_table filler names p.table) p.peer) p.import) (use_fits (with_table peer_pipe (with_table filler names p.table) p.peer) p.export) fit in
    let k = and3 (is_none (names p.name)) (is_free_table filler (table_of (names p.table))) (is_free_table peer_pipe (table_of (with_table filler names p.table p.peer))) h.0 in (
      tt,
      _,
      (refl, refl),
      inr (inl (
        tt,
        _,
        (refl, refl),
        (
          p.name,
          _,
          free_spelt names p.name k.0 _,
          (
            tt,
            _,
            (refl, refl),
            (
              record { table = p.table; peer = p.peer; names = with_table peer_pipe (with_table filler names p.table) p.peer },
              _,
              (record { name = p.table; names = with_table filler names p.table }, _, table_spelt filler names p.table k.1 _, (tt, _, (refl, refl), (record { name = p.peer; names = with_table peer_pipe (with_table filler names p.table) p.peer }, _, table_spelt peer_pipe (with_table filler names p.table) p.peer k.2 _, (refl, refl)))),
              (record { inward = p.import; outward = p.export }, _, ways_spelt (with_table peer_pipe (with_table filler names p.table) p.peer) p.import p.export h.1 h.2 _, (tt, _, (refl, refl), (refl, refl))),
            ),
          ),
        ),
      )),
    ))

bgp_spelt : (number : ℕ) (names : Names) (b : Bgp) → item_fits number names (bgp_item b) ≡ true → ProtocolSpelt number names (bgp_item b)
bgp_spelt number names b fit others =
    (let h = and3 (is_none (names b.name) && is_free_table session (table_of (names b.table))) (use_fits (with_table session names b.table) b.import) (use_fits (with_table session names b.table) b.export) fit in
    let k = and_parts (is_none (names b.name)) (is_free_table session (table_of (names b.table))) h.0 in (
      tt,
      _,
      (refl, refl),
      inr (inr (
        tt,
        _,
        (refl, refl),
        (
          b.name,
          _,
          free_spelt names b.name k.0 _,
          (
            tt,
            _,
            (refl, refl),
            (
              record { here_ = record { addr = b.local; asn = b.own }; there = record { addr = b.neighbor; asn = b.asn }; rs_client = b.rs_client; password = b.password },
              _,
              (record { addr = b.local; asn = b.own }, _, local_spelt b.local (record { addr = b.local; asn = b.own }) refl _, (record { addr = b.neighbor; asn = b.asn }, _, neighbor_spells (record { addr = b.neighbor; asn = b.asn }) _, (b.rs_client, _, client_spells b.rs_client _, (b.password, _, password_spells b.password _, (refl, refl))))),
              (
                record { family = b.family; table = b.table; ways = record { inward = b.import; outward = b.export }; limit = b.limit; names = with_table session names b.table },
                _,
                (b.family, _, family_spells b.family _, (tt, _, (refl, refl), (record { name = b.table; names = with_table session names b.table }, _, table_spelt session names b.table k.1 _, (record { inward = b.import; outward = b.export }, _, ways_spelt (with_table session names b.table) b.import b.export h.1 h.2 _, (b.limit, _, limit_spells b.limit _, (tt, _, (refl, refl), (tt, _, (refl, refl), (refl, refl)))))))),
                (tt, _, (refl, refl), (refl, refl)),
              ),
            ),
          ),
        ),
      )),
    ))

-- Items.

abbrev ItemSpelt : ℕ → Names → ItemTree → Type 0
ItemSpelt number names i = (others : List Kind) → Took (item_form number names) (i, names_behind number names i) (item_tokens i others) others

v4_spelt : (f : Family) (a : Addr) → is_v4 f ≡ true → if_v4 f a ≡ Some a
v4_spelt V4 a e = refl
v4_spelt V6 a e = absurd cc

table_item_spelt : (number : ℕ) (names : Names) (k : TableKind) (n : List ℕ) → is_none (names n) ≡ true → ItemSpelt number names (table_item k n)
unfolding item_form table_or declaration_form
table_item_spelt number names table.Ipv4 n free others = inr (inl (tt, _, (refl, refl), (tt, _, (refl, refl), (n, _, free_spelt names n free _, (tt, _, (refl, refl), (refl, refl))))))
table_item_spelt number names table.Ipv6 n free others = inr (inr (inl (tt, _, (refl, refl), (tt, _, (refl, refl), (n, _, free_spelt names n free _, (tt, _, (refl, refl), (refl, refl)))))))
table_item_spelt number names table.Roa4 n free others = inr (inr (inr (inl (tt, _, (refl, refl), (tt, _, (refl, refl), (n, _, free_spelt names n free _, (tt, _, (refl, refl), (refl, refl))))))))
table_item_spelt number names table.Roa6 n free others = inr (inr (inr (inr (inl (tt, _, (refl, refl), (tt, _, (refl, refl), (n, _, free_spelt names n free _, (tt, _, (refl, refl), (refl, refl)))))))))

item_spelt : (number : ℕ) (names : Names) (i : ItemTree) → item_fits number names i ≡ true → ItemSpelt number names i
unfolding item_form table_or declaration_form
item_spelt number names (router_id_item a) fit others = inl (tt, _, (refl, refl), (tt, _, (refl, refl), (a, _, (v4_spelt a.family a fit, refl), (tt, _, (refl, refl), (refl, refl)))))
item_spelt number names (table_item k n) fit others = table_item_spelt number names k n fit others
item_spelt number names (define_item n e) fit others =
    (let h = and_parts (is_none (names n)) (fits names scope.Define define_levels e) fit in inr (inr (inr (inr (inr (inl (define_spelt define_levels _ names n e h.0 h.1 others)))))))
item_spelt number names (function_item n ps ss) fit others =
    (let h = and3 (is_none (names n)) (params_fit number (standing names n declared.Begun) ps) (stmts_fit (inside number names n ps) (scope.Function number) levels_inside (as_written None) ss) fit in
    inr (inr (inr (inr (inr (inr (inl (function_spelt levels_inside number names n ps ss h.0 h.1 h.2 others))))))))
item_spelt number names (filter_item n ss) fit others =
    (let h = and_parts (is_none (names n)) (stmts_fit names scope.Filter levels_inside (as_written None) ss) fit in inr (inr (inr (inr (inr (inr (inr (inl (filter_spelt levels_inside names n ss h.0 h.1 others)))))))))
item_spelt number names (device_item n) fit others = inr (inr (inr (inr (inr (inr (inr (inr (device_spelt number names n fit others))))))))
item_spelt number names (pipe_item p) fit others = inr (inr (inr (inr (inr (inr (inr (inr (pipe_spelt number names p fit others))))))))
item_spelt number names (bgp_item b) fit others = inr (inr (inr (inr (inr (inr (inr (inr (bgp_spelt number names b fit others))))))))

-- Configurations.

items_spelt : (before : List ItemTree) (number : ℕ) (names : Names) (is : List ItemTree) → length before ≡ number → items_fit number names is ≡ true
    → (j : ℕ) × Rounds (λ s. Took (config_round s)) j (record { items = before; names = names }) (before ++ is) (items_tokens is []) []
items_spelt before number names [] same fit = (0, inr (refl, (ap done (append-nil before), refl)))
items_spelt before number names (i ∷ is) same fit =
    subst (λ all. (j : ℕ) × Rounds (λ s. Took (config_round s)) j (record { items = before; names = names }) all (items_tokens (i ∷ is) []) []) (append_assoc before (i ∷ []) is)
    (let h = and_parts (item_fits number names i) (items_fit (suc number) (names_behind number names i) is) fit in
    let longer : length (before ++ i ∷ []) ≡ suc number = omega (arith, length_push before i, same) in
    let more = items_spelt (before ++ i ∷ []) (suc number) (names_behind number names i) is longer h.1 in
    (suc more.0, (record { items = before ++ i ∷ []; names = names_behind number names i }, items_tokens is [], inl ((i, names_behind number names i), _, subst (λ k. Took (item_form k names) (i, names_behind number names i) (item_tokens i (items_tokens is [])) (items_tokens is [])) (sym same) (item_spelt number names i h.0 (items_tokens is [])), (refl, refl)), more.1)))

pub configuration_spelt : (c : List ItemTree) → is_sound c ≡ true → Took config_form c (config_tokens c) []
configuration_spelt c fit = items_spelt [] 0 nothing_declared c refl fit
