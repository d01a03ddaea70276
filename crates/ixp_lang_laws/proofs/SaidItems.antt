-- The items and configurations that a text spells are sound.
use Rattle.std.proofs.Common.{◌≡◌, ℕ, suc, ◌+◌, Bool, true, false, ◌&&◌, not, List, [], ◌∷◌, ◌++◌, length, map, Option, Some, None, refl, sym, ap, ◌∙◌, subst, if◌then◌else◌, arith}
use Rattle.std.specs.Option.{is_some, is_none}
use Rattle.std.proofs.lemmas.Bool.{and_parts}
use Rattle.ixp_num.specs.declared.addr.Addr.{Addr}
use Rattle.ixp_num.specs.declared.family.Family.{Family}
use Rattle.ixp_num.specs.declared.family.Family.TheVariants.{V4, V6}
use Rattle.ixp_lang.specs.Trees.{ItemTree, function_item, StmtTree, StmtTrees, stmts}
use Rattle.ixp_lang.specs.declared.item.Ty.{Ty}
use Rattle.ixp_lang.specs.declared.item.Kind.{Kind as TableKind}
use Rattle.ixp_lang.specs.declared.item.Use.{Use}
use Rattle.ixp_lang_tokens.specs.declared.fault.Cause.{Cause}
use Rattle.ixp_lang_tokens.specs.declared.fault.Cause.TheVariants.{Foreign}
use Rattle.ixp_lang_tokens.specs.declared.token.Kind.{Kind}
use Rattle.ixp_lang_tokens.specs.declared.token.Kind.TheVariants as kind
use Rattle.ixp_lang_tokens.specs.declared.token.Mark.TheVariants as mark
use Rattle.ixp_lang_tokens.specs.Grammars.{Took}
use Rattle.ixp_lang_exprs.specs.Operands.{anything}
use Rattle.ixp_lang_exprs.specs.declared.types.ValueType.{ValueType}
use Rattle.ixp_lang_exprs.specs.declared.env.Declared.TheVariants as declared
use Rattle.ixp_lang_exprs.specs.declared.env.Table.{Table}
use Rattle.ixp_lang_exprs.specs.declared.context.Scope.TheVariants as scope
use Rattle.ixp_lang_exprs.specs.Types.{type_of as written_type}
use Rattle.ixp_lang_exprs.specs.Names.{Names, table_of, defined_number}
use Rattle.ixp_lang_exprs.specs.Declarations.{nothing_declared, Declares, standing, is_free_in, free_name}
use Rattle.ixp_lang_stmts.specs.Statements.{Returned, Said}
use Rattle.ixp_lang_protocols.specs.Protocols.{is_filter, filter_name, use_form, Ways, ways_form, Owner, filler, peer_pipe, session, was_taken, taken_fault, Owned, owned_table, device_end, Ends, ends_form, pipe_end, as_number_form, local_form, neighbor_form, client_form, password_form, limit_form, family_form, Channel, channel_form, peering_form, bgp_end, protocol_end}
use Rattle.ixp_read.specs.Functions.{type_form, has_sets, Params, param_form, params_form, written_form, levels_inside, as_written, Head, head_form, Body, body_end, function_form, filter_form}
use Rattle.ixp_read.specs.Items.{if_v4, v4_addr_in, router_id_end, table_end, define_levels, define_place, defined_value, define_end, declaration_form, table_or, item_form, Begun, config_form}
use Rattle.ixp_read.specs.Answers.{SpellsText}
use Rattle.ixp_lang_laws.specs.Sound.{type_of}
use Rattle.ixp_lang_laws.specs.SoundStatements.{returned_in, stmts_fit}
use Rattle.ixp_lang_laws.specs.SoundItems.{is_v4, is_free_table, use_fits, with_params, params_fit, with_table, inside, names_behind, item_fits, items_fit, is_sound}
use Rattle.ixp_lang_laws.proofs.SaidBasics.{within_same, both, is_so, none_settled}
use Rattle.ixp_lang_laws.proofs.Saying.{Says, Any, says_gives, says_takes, says_token, says_sequence, says_then, says_choice, says_checks, says_unless, says_here, says_rounds, says_mark, says_word, says_name, says_number, says_only, says_ended}
use Rattle.ixp_lang_laws.proofs.SaidExpressions.{Whole}
use Rattle.ixp_lang_laws.proofs.SaidOperands.{says_expression}
use Rattle.ixp_lang_laws.proofs.SaidStatements.{kept, AreStmts, says_body}

-- an item that fits, and what names stand for behind it
abbrev IsDeclared : ℕ → Names → Declares → Type 0
IsDeclared number names d = (item_fits number names d.0 ≡ true) × (names_behind number names d.0 ≡ d.1)

says_free : (names : Names) → Says (free_name names) (λ n. is_none (names n) ≡ true)
says_free names = says_here (λ left. says_then says_name (λ n. says_checks (λ free. says_gives (is_so (is_none (names n)) _ free))))

-- What is let through.

abbrev IsUse : Names → Use → Type 0
IsUse names u = use_fits names u ≡ true

says_use : (names : Names) → Says (use_form names) (IsUse names)
says_use names =
    says_choice (says_then (says_word _) (λ x. says_ended mark.Semicolon refl))
    (says_choice (says_then (says_word _) (λ x. says_ended mark.Semicolon refl)) (says_then (says_word _) (λ x. says_sequence says_filter (λ n is. says_ended mark.Semicolon is))))
  where
    says_filter : Says (filter_name names) (λ n. is_filter (names n) ≡ true)
    says_filter = says_here (λ left. says_then says_name (λ n. says_checks (λ is. says_gives (is_so (is_filter (names n)) _ is))))

abbrev AreWays : Names → Ways → Type 0
AreWays names w = (use_fits names w.inward ≡ true) × (use_fits names w.outward ≡ true)

says_ways : (names : Names) → Says (ways_form names) (AreWays names)
says_ways names =
    says_then (says_word _) (λ x.
    says_sequence (says_use names) (λ inward one. says_then (says_word _) (λ y. says_sequence (says_use names) (λ outward two. says_gives (one, two)))))

-- Tables.

none_taken : (b : Bool) (fault : Cause × ℕ) → (if b then Some fault else None) ≡ None → b ≡ false
none_taken true fault e = absurd cc
none_taken false fault e = refl

is_free : (owner : Owner) (t : Option Table) (left : ℕ) → taken_fault owner t left ≡ None → is_free_table owner t ≡ true
is_free owner None left e = absurd cc
is_free owner (Some t) left e = ap not (none_taken (was_taken owner t) (Foreign, left) e)

-- a table that is free to this owner, and what names stand for once it is taken
abbrev IsOwned : Owner → Names → Owned → Type 0
IsOwned owner names o = (is_free_table owner (table_of (names o.name)) ≡ true) × (with_table owner names o.name ≡ o.names)

says_owned : (owner : Owner) (names : Names) → Says (owned_table owner names) (IsOwned owner names)
says_owned owner names =
    says_then (says_word _) (λ x.
    says_here (λ left. says_then says_name (λ n. says_checks (λ free. says_ended mark.Semicolon (is_free owner (table_of (names n)) left free, refl)))))

-- Protocols.

says_device : (number : ℕ) (names : Names) → Says (device_end names) (IsDeclared number names)
says_device number names =
    says_choice (says_then (says_mark mark.BlockOpen) (λ x. says_ended mark.BlockClose (refl, refl)))
    (says_sequence (says_free names) (λ n free. says_then (says_mark mark.BlockOpen) (λ x. says_ended mark.BlockClose (free, refl))))

abbrev AreEnds : Names → Ends → Type 0
AreEnds names e =
    (is_free_table filler (table_of (names e.table)) ≡ true) × (is_free_table peer_pipe (table_of (with_table filler names e.table e.peer)) ≡ true)
    × (with_table peer_pipe (with_table filler names e.table) e.peer ≡ e.names)

says_ends : (names : Names) → Says (ends_form names) (AreEnds names)
says_ends names =
    says_sequence (says_owned filler names) (λ table one.
    says_then (says_word _) (λ x.
    says_sequence (says_owned peer_pipe table.names) (λ peer two.
    says_gives (
      one.0,
      subst (λ (ns : Names). is_free_table peer_pipe (table_of (ns peer.name)) ≡ true) (sym one.1) two.0,
      subst (λ (ns : Names). with_table peer_pipe ns peer.name ≡ peer.names) (sym one.1) two.1,
    ))))

says_pipe : (number : ℕ) (names : Names) → Says (pipe_end names) (IsDeclared number names)
says_pipe number names =
    says_sequence (says_free names) (λ n free.
    says_then (says_mark mark.BlockOpen) (λ x.
    says_sequence (says_ends names) (λ ends are.
    says_sequence (says_ways ends.names) (λ ways let_through.
    says_ended mark.BlockClose (
      both (both (both (both free are.0) are.1) (subst (λ (ns : Names). use_fits ns ways.inward ≡ true) (sym are.2) let_through.0)) (subst (λ (ns : Names). use_fits ns ways.outward ≡ true) (sym are.2) let_through.1),
      ap (λ (ns : Names). standing ns n declared.Protocol) are.2,
    )))))

-- Sessions: of the two ends nothing needs to be known.

says_asn : Says as_number_form Any
says_asn = says_then (says_word _) (λ x. says_then says_number (λ n. says_ended mark.Semicolon tt))

says_peering : Says peering_form Any
says_peering =
    says_then says_local (λ here_.
    says_then says_neighbor (λ there. says_then says_client (λ rs_client. says_then says_password (λ password. says_gives tt))))
  where
    says_local : Says local_form Any
    says_local = says_then (says_word _) (λ x. says_choice (says_then (says_token _) (λ a. says_then says_asn (λ asn. says_gives tt))) (says_then says_asn (λ asn. says_gives tt)))

    says_neighbor : Says neighbor_form Any
    says_neighbor = says_then (says_word _) (λ x. says_then (says_token _) (λ a. says_then says_asn (λ asn. says_gives tt)))

    says_client : Says client_form Any
    says_client = says_choice (says_then (says_word _) (λ x. says_then (says_word _) (λ y. says_ended mark.Semicolon tt))) (says_gives tt)

    says_password : Says password_form Any
    says_password = says_choice (says_then (says_word _) (λ x. says_then (says_token _) (λ s. says_ended mark.Semicolon tt))) (says_gives tt)

says_limit : Says limit_form Any
says_limit =
    says_choice
    (says_then (says_word _) (λ x.
    says_then (says_word _) (λ y. says_then says_number (λ n. says_then (says_word _) (λ z. says_then (says_word _) (λ u. says_ended mark.Semicolon tt))))))
    (says_gives tt)

says_family : Says family_form Any
says_family = says_choice (says_then (says_word _) (λ x. says_gives tt)) (says_then (says_word _) (λ x. says_gives tt))

abbrev IsChannel : Names → Channel → Type 0
IsChannel names c = (is_free_table session (table_of (names c.table)) ≡ true) × (with_table session names c.table ≡ c.names) × AreWays c.names c.ways

says_channel : (names : Names) → Says (channel_form names) (IsChannel names)
says_channel names =
    says_then says_family (λ family.
    says_then (says_mark mark.BlockOpen) (λ x.
    says_sequence (says_owned session names) (λ table one.
    says_sequence (says_ways table.names) (λ ways two.
    says_then says_limit (λ limit. says_then (says_mark mark.BlockClose) (λ y. says_ended mark.Semicolon (one.0, one.1, two)))))))

says_session : (number : ℕ) (names : Names) → Says (bgp_end names) (IsDeclared number names)
says_session number names =
    says_sequence (says_free names) (λ n free.
    says_then (says_mark mark.BlockOpen) (λ x.
    says_then says_peering (λ peering.
    says_sequence (says_channel names) (λ channel is.
    says_ended mark.BlockClose (
      both (both (both free is.0) (subst (λ (ns : Names). use_fits ns channel.ways.inward ≡ true) (sym is.1) is.2.0)) (subst (λ (ns : Names). use_fits ns channel.ways.outward ≡ true) (sym is.1) is.2.1),
      ap (λ (ns : Names). standing ns n declared.Protocol) is.1,
    )))))

says_protocol : (number : ℕ) (names : Names) → Says (protocol_end names) (IsDeclared number names)
says_protocol number names =
    says_choice (says_then (says_word _) (λ x. says_device number names))
    (says_choice (says_then (says_word _) (λ x. says_pipe number names)) (says_then (says_word _) (λ x. says_session number names)))

-- Functions.

says_type : Says type_form Any
says_type = says_then (says_token _) (λ t. says_choice (says_only (has_sets t) (says_then (says_word _) (λ x. says_gives tt))) (says_gives tt))

abbrev Param : Type 0
Param = Ty × List ℕ

abbrev types_of : List Param → List ValueType
types_of ps = map (λ p. written_type p.0) ps

params_more : (number : ℕ) (names : Names) (ps : List Param) (p : Param) → params_fit number names ps ≡ true → is_free_in (with_params number names ps p.1) number ≡ true → params_fit number names (ps ++ p ∷ []) ≡ true
params_more number names [] p all free = both free refl
params_more number names (q ∷ ps) p all free =
    let h = and_parts (is_free_in (names q.1) number) (params_fit number (standing names q.1 (declared.Parameter number (written_type q.0))) ps) all in
    both h.0 (params_more number (standing names q.1 (declared.Parameter number (written_type q.0))) ps p h.1 free)

with_more : (number : ℕ) (names : Names) (ps : List Param) (p : Param) → with_params number names (ps ++ p ∷ []) ≡ standing (with_params number names ps) p.1 (declared.Parameter number (written_type p.0))
with_more number names [] p = refl
with_more number names (q ∷ ps) p = with_more number (standing names q.1 (declared.Parameter number (written_type q.0))) ps p

types_more : (ps : List Param) (p : Param) → types_of (ps ++ p ∷ []) ≡ types_of ps ++ written_type p.0 ∷ []
types_more [] p = refl
types_more (q ∷ ps) p = ap (λ ts. written_type q.0 ∷ ts) (types_more ps p)

-- these parameters may stand behind such names, and are known by their types
abbrev AreParams : ℕ → Names → Params → Type 0
AreParams number names p = (params_fit number names p.params ≡ true) × (with_params number names p.params ≡ p.names) × (types_of p.params ≡ p.types)

says_param : (number : ℕ) (names : Names) (before : Params) → AreParams number names before → Says (param_form number before) (AreParams number names)
says_param number names before all =
    says_then says_type (λ t.
    says_here (λ left.
    says_then says_name (λ n.
    says_checks (λ free.
    let is_new : is_free_in (before.names n) number ≡ true = is_so (is_free_in (before.names n) number) _ free in
    says_gives (
      params_more number names before.params (t, n) all.0 (subst (λ (ns : Names). is_free_in (ns n) number ≡ true) (sym all.1) is_new),
      with_more number names before.params (t, n) ∙ ap (λ (ns : Names). standing ns n (declared.Parameter number (written_type t))) all.1,
      types_more before.params (t, n) ∙ ap (λ ts. ts ++ written_type t ∷ []) all.2,
    )))))

says_params : (number : ℕ) (names : Names) → Says (params_form number names) (AreParams number names)
says_params number names =
    says_then (says_mark mark.Open) (λ x.
    says_choice (says_ended mark.Close (refl, refl, refl))
    (says_sequence
    (says_rounds (AreParams number names) (refl, refl, refl) (λ before all.
    says_sequence (says_param number names before all) (λ params more. says_choice (says_ended mark.Semicolon more) (says_gives more))))
    (λ params all. says_ended mark.Close all)))

abbrev IsHead : ℕ → Names → Head → Type 0
IsHead number names h = (is_none (names h.name) ≡ true) × AreParams number (standing names h.name declared.Begun) h.params

says_head : (number : ℕ) (names : Names) → Says (head_form number names) (IsHead number names)
says_head number names = says_sequence (says_free names) (λ n free. says_sequence (says_params number (standing names n declared.Begun)) (λ params all. says_gives (free, all)))

says_written : Says written_form Any
says_written = says_choice (says_then (says_mark mark.Arrow) (λ x. says_then says_type (λ t. says_gives tt))) (says_gives tt)

-- a body fits where no type is written, and returns the same
abbrev IsBody : ℕ → Names → Body → Type 0
IsBody number names b =
    (stmts_fit names (scope.Function number) levels_inside (as_written None) (stmts b.statements) ≡ true)
    × ((returned_in names (scope.Function number) (as_written None) (stmts b.statements)).ty ≡ b.returns)

-- what is kept of the type that was written, once some value of it is returned
kept_written : (written : Option ValueType) → kept (is_some written) (as_written written) ≡ as_written None
kept_written None = refl
kept_written (Some t) = refl

kept_type : (is_written : Bool) (r : Returned) (is_met : Bool) → r.is_met ≡ is_met → not (is_written && not is_met) ≡ true → (kept is_written r).ty ≡ r.ty
kept_type false r is_met same e = refl
kept_type true r true same e = ap (λ b. if b then r.ty else None) same
kept_type true r false same e = absurd cc

body_is : (number : ℕ) (names : Names) (written : Option ValueType) (body : Said (List StmtTree)) → AreStmts names (scope.Function number) (is_some written) levels_inside (as_written written) body
    → not (is_some written && not body.returned.is_met) ≡ true
    → (stmts_fit names (scope.Function number) levels_inside (as_written None) (stmts body.it) ≡ true) × ((returned_in names (scope.Function number) (as_written None) (stmts body.it)).ty ≡ body.returned.ty)
body_is number names written body all met = (
  subst (λ r. stmts_fit names (scope.Function number) levels_inside r (stmts body.it) ≡ true) (kept_written written) (all.0 levels_inside (within_same levels_inside)),
  ap (λ r. (returned_in names (scope.Function number) r (stmts body.it)).ty) (sym (kept_written written)) ∙ (ap (λ r. r.ty) all.1 ∙ kept_type (is_some written) body.returned body.returned.is_met refl met),
)

says_body_end : (number : ℕ) (names : Names) → Says (body_end number names) (IsBody number names)
says_body_end number names =
    says_here (λ place.
    says_then says_written (λ written.
    says_then (says_mark mark.BlockOpen) (λ x.
    says_sequence (says_body names (scope.Function number) (is_some written) levels_inside (as_written written)) (λ body all.
    says_checks (λ met. says_gives (body_is number names written body all (is_so (not (is_some written && not body.returned.is_met)) _ met)))))))

function_behind : (number : ℕ) (names : Names) (n : List ℕ) (ps : List Param) (ss : StmtTrees) (inner : Names) (types : List ValueType) (returns : Option ValueType)
    → inside number names n ps ≡ inner → types_of ps ≡ types → (returned_in inner (scope.Function number) (as_written None) ss).ty ≡ returns
    → names_behind number names (function_item n ps ss) ≡ standing inner n (declared.Function (record { params = types; returns = returns }))
function_behind number names n ps ss inner types returns is_inner are_types is_returned =
    ap (λ (ns : Names). standing ns n (declared.Function (record { params = types_of ps; returns = (returned_in ns (scope.Function number) (as_written None) ss).ty }))) is_inner
    ∙ (ap (λ ts. standing inner n (declared.Function (record { params = ts; returns = (returned_in inner (scope.Function number) (as_written None) ss).ty }))) are_types
    ∙ ap (λ r. standing inner n (declared.Function (record { params = types; returns = r }))) is_returned)

says_function : (number : ℕ) (names : Names) → Says (function_form number names) (IsDeclared number names)
says_function number names =
    says_sequence (says_head number names) (λ head is.
    says_sequence (says_body_end number head.params.names) (λ body all.
    says_gives (
      both (both is.0 is.1.0) (subst (λ (ns : Names). stmts_fit ns (scope.Function number) levels_inside (as_written None) (stmts body.statements) ≡ true) (sym is.1.1) all.0),
      function_behind number names head.name head.params.params (stmts body.statements) head.params.names head.params.types body.returns is.1.1 is.1.2 all.1,
    )))

says_filter_end : (number : ℕ) (names : Names) → Says (filter_form names) (IsDeclared number names)
says_filter_end number names =
    says_sequence (says_free names) (λ n free.
    says_then (says_mark mark.BlockOpen) (λ x.
    says_sequence (says_body names scope.Filter false levels_inside (as_written None)) (λ body all. says_gives (both free (all.0 levels_inside (within_same levels_inside)), refl))))

-- Other items.

four : (a addr : Addr) (f : Family) → a.family ≡ f → if_v4 f a ≡ Some addr → is_v4 addr.family ≡ true
four a addr V4 same e = (let h : a ≡ addr = cc in ap is_v4 (ap (λ x. x.family) (sym h) ∙ same))
four a addr V6 same e = absurd cc

four_says : (k : Kind) (addr : Addr) → v4_addr_in k ≡ Some addr → is_v4 addr.family ≡ true
four_says (kind.Addr a) addr e = four a addr a.family refl e
four_says _ addr e = absurd cc

says_router_id : (number : ℕ) (names : Names) → Says (router_id_end names) (IsDeclared number names)
says_router_id number names = says_then (says_word _) (λ x. says_sequence (says_takes four_says) (λ a is. says_ended mark.Semicolon (is, refl)))

says_table_item : (number : ℕ) (k : TableKind) (names : Names) → Says (table_end k names) (IsDeclared number names)
says_table_item number k names = says_then (says_word _) (λ x. says_sequence (says_free names) (λ n free. says_ended mark.Semicolon (free, refl)))

says_defined : (statement : ℕ) (names : Names) → Says (defined_value statement names) (λ o. (type_of names scope.Define o.tree ≡ o.ty) × Whole names scope.Define define_levels o.tree)
says_defined statement names =
    says_sequence (says_expression (define_place statement names) define_levels anything) (λ o sound.
    says_then (says_mark mark.Semicolon) (λ x. says_checks (λ fit. says_gives (sound.0, sound.1 (none_settled o.misfit fit)))))

says_define : (number statement : ℕ) (names : Names) → Says (define_end statement names) (IsDeclared number names)
says_define number statement names =
    says_sequence (says_free names) (λ n free.
    says_then (says_mark mark.Equal) (λ x.
    says_sequence (says_defined statement names) (λ o is.
    says_gives (both free (is.1 define_levels (within_same define_levels)), ap (λ t. standing names n (declared.Define t (defined_number names o.tree))) is.0))))

says_item : (number : ℕ) (names : Names) → Says (item_form number names) (IsDeclared number names)
unfolding item_form table_or declaration_form
says_item number names =
    says_here (λ place.
    says_choice (says_then (says_word _) (λ x. says_router_id number names))
    (says_choice (says_then (says_word _) (λ x. says_table_item number _ names))
    (says_choice (says_then (says_word _) (λ x. says_table_item number _ names))
    (says_choice (says_then (says_word _) (λ x. says_table_item number _ names))
    (says_choice (says_then (says_word _) (λ x. says_table_item number _ names))
    (says_choice (says_then (says_word _) (λ x. says_define number place names))
    (says_choice (says_then (says_word _) (λ x. says_function number names))
    (says_choice (says_then (says_word _) (λ x. says_filter_end number names))
    (says_then (says_word _) (λ x. says_protocol number names))))))))))

-- Configurations.

-- what names stand for behind these items
abbrev names_after : ℕ → Names → List ItemTree → Names
names_after number names [] = names
names_after number names (i ∷ is) = names_after (suc number) (names_behind number names i) is

after_more : (number : ℕ) (names : Names) (is : List ItemTree) (i : ItemTree) → names_after number names (is ++ i ∷ []) ≡ names_behind (number + length is) (names_after number names is) i
after_more number names [] i = ap (λ k. names_behind k names i) (let e : number ≡ number + 0 = omega arith in e)
after_more number names (j ∷ is) i =
    after_more (suc number) (names_behind number names j) is i
    ∙ ap (λ k. names_behind k (names_after (suc number) (names_behind number names j) is) i) (let e : suc number + length is ≡ number + suc (length is) = omega arith in e)

items_more : (number : ℕ) (names : Names) (is : List ItemTree) (i : ItemTree) → items_fit number names is ≡ true → item_fits (number + length is) (names_after number names is) i ≡ true → items_fit number names (is ++ i ∷ []) ≡ true
items_more number names [] i all one = both (subst (λ k. item_fits k names i ≡ true) (let e : number + 0 ≡ number = omega arith in e) one) refl
items_more number names (j ∷ is) i all one =
    let h = and_parts (item_fits number names j) (items_fit (suc number) (names_behind number names j) is) all in
    both h.0 (items_more (suc number) (names_behind number names j) is i h.1
    (subst (λ k. item_fits k (names_after (suc number) (names_behind number names j) is) i ≡ true) (let e : number + suc (length is) ≡ suc number + length is = omega arith in e) one))

abbrev IsBegun : Begun → Type 0
IsBegun b = (items_fit 0 nothing_declared b.items ≡ true) × (names_after 0 nothing_declared b.items ≡ b.names)

item_more : (before : Begun) (d : Declares) → IsBegun before → IsDeclared (length before.items) before.names d → IsBegun (record { items = before.items ++ d.0 ∷ []; names = d.1 })
item_more before d all is = (
  items_more 0 nothing_declared before.items d.0 all.0
      (subst (λ (ns : Names). item_fits (0 + length before.items) ns d.0 ≡ true) (sym all.1) (subst (λ k. item_fits k before.names d.0 ≡ true) none is.0)),
  after_more 0 nothing_declared before.items d.0
      ∙ (ap (λ (ns : Names). names_behind (0 + length before.items) ns d.0) all.1 ∙ (ap (λ k. names_behind k before.names d.0) (sym none) ∙ is.1)),
)
  where
    none : length before.items ≡ 0 + length before.items
    none = omega arith

says_config : Says config_form (λ c. is_sound c ≡ true)
says_config =
    says_rounds IsBegun (refl, refl) (λ before all.
    says_choice (says_sequence (says_item (length before.items) before.names) (λ d is. says_gives (item_more before d all is))) (says_unless (says_gives all.0)))

pub spelt_sound : (c : List ItemTree) (tokens : List Kind) → Took config_form c tokens [] → is_sound c ≡ true
spelt_sound c tokens took = says_config.says c tokens [] took

pub text_sound : (text : List ℕ) (c : List ItemTree) → SpellsText text c → is_sound c ≡ true
text_sound text c spells = spelt_sound c spells.0 spells.2
