-- Functions, items and configurations, and what they are with more levels.
use Rattle.std.proofs.Common.{ℕ, zero, ◌<◌, inl, inr, false, not, ◌&&◌, List, [], ◌∷◌, ◌++◌, codes, length, Option, None, lit<, refl}
use Rattle.std.specs.Option.{is_some}
use Rattle.ixp_num.specs.declared.addr.Addr.{Addr}
use Rattle.ixp_num.specs.declared.family.Family.TheVariants.{V4}
use Rattle.ixp_lang.specs.Trees.{StmtTree, ItemTree}
use Rattle.ixp_lang.specs.declared.item.Kind.{Kind}
use Rattle.ixp_lang.specs.declared.item.Kind.TheVariants.{Ipv4, Ipv6, Roa4, Roa6}
use Rattle.ixp_lang.specs.declared.item.Ty.TheVariants as ty
use Rattle.ixp_lang_tokens.specs.declared.fault.Cause.{Cause}
use Rattle.ixp_lang_tokens.specs.declared.token.Kind.{Kind as Token}
use Rattle.ixp_lang_tokens.specs.declared.token.Kind.TheVariants as token
use Rattle.ixp_lang_tokens.specs.declared.token.Mark.TheVariants as mark
use Rattle.ixp_lang_tokens.specs.Grammars.{Grammar, gives, sequence, choice, rounds, checks, unless, Step, onward, done}
use Rattle.ixp_lang_tokens.specs.Pieces.{the_mark, the_word}
use Rattle.ixp_lang_tokens.specs.Syntax.{spot, Fine}
use Rattle.ixp_lang_tokens.proofs.Fronts.{marked, keyword, name, addr}
use Rattle.ixp_lang_tokens.proofs.Looks.{Look, full_look, token_look}
use Rattle.ixp_lang_tokens.proofs.ClearLooks.{clear_takes}
use Rattle.ixp_lang_tokens.proofs.Viable.{HasText, CanEnd, Supplied, supplied_gives, supplied_choice, supplied_rounds, supplied_unless, supplied_here}
use Rattle.ixp_lang_tokens.proofs.Whole.{Whole, part_of, text_free, can_end, can_follow, whole_gives, whole_takes, whole_then, whole_sequence, whole_right, whole_choice, whole_checks, whole_here}
use Rattle.ixp_lang_tokens.proofs.Exchanges.{Exchanges, whatever, clearly_exchanges, choice_exchanges, here_exchanges, ends_all, supplied_and_gives, supplied_and_checks, text_then}
use Rattle.ixp_lang_exprs.specs.Names.{Names}
use Rattle.ixp_lang_exprs.specs.Declarations.{Declares, free_name}
use Rattle.ixp_lang_exprs.specs.Sets.{unless_so}
use Rattle.ixp_lang_exprs.specs.Operands.{anything, misfit_at}
use Rattle.ixp_lang_exprs.specs.Expressions.{word_in}
use Rattle.ixp_lang_exprs.specs.declared.types.ValueType.{ValueType}
use Rattle.ixp_lang_exprs.specs.declared.context.Scope.TheVariants as scope
use Rattle.ixp_lang_exprs.proofs.KnownTokens.{word_front}
use Rattle.ixp_lang_exprs.proofs.KnownExpressions.{operand_starts}
use Rattle.ixp_lang_exprs.proofs.WholeLists.{part_only, whole_mark, whole_word, whole_name, whole_ended}
use Rattle.ixp_lang_exprs.proofs.WholeExpressions.{whole_expression_text}
use Rattle.ixp_lang_stmts.specs.Statements.{Frame, Said, body_form}
use Rattle.ixp_lang_stmts.proofs.Several.{clear_joined}
use Rattle.ixp_lang_stmts.proofs.ExchangeStatements.{free_first, before_gives, before_checks}
use Rattle.ixp_lang_stmts.proofs.SuppliedStatements.{supply_first, text_first, body_supplied, body_exchanges, body_has_text}
use Rattle.ixp_lang_protocols.specs.Protocols.{protocol_end}
use Rattle.ixp_lang_protocols.proofs.WholeProtocols.{whole_free_name, whole_protocol_end}
use Rattle.ixp_read.specs.Functions.{type_in, has_sets, type_form, Params, no_params, param_form, param_round, params_form, written_form, as_written, head_form, Body, body_with, frame_in, body_within, Head, function_with, function_within, filter_with, filter_within}
use Rattle.ixp_read.specs.Items.{v4_addr_in, router_id_end, table_end, define_place, value_within, define_within, Levels, declaration_within, table_before, item_within, Begun, with_item, is_more, item_then, round_of, config_of}
use Rattle.ixp_read.proofs.SureFunctions.{types, type_front, type_look, first_param}
use Rattle.ixp_read.proofs.SureItems.{v4_front}

-- Types and parameters.

whole_type : Whole type_form type_form type_look []
whole_type =
    whole_then (whole_takes (token.Word (codes "int")) ty.Int refl (clear_takes (word_in type_in) types (word_front type_in types type_front))) (λ t.
    whole_right (part_only (has_sets t) (part_of (whole_then (whole_word (codes "set")) (λ x. whole_gives _)))) (whole_gives t) refl refl)

whole_param : (number : ℕ) (before : Params) → Whole (param_form number before) (param_form number before) (token_look types) []
whole_param number before = whole_sequence whole_type (λ t. whole_here (λ left. whole_then whole_name (λ found. whole_checks (whole_gives _)))) refl refl

abbrev params_look : Look
params_look = full_look types (marked mark.Semicolon ∷ [])

whole_param_round : (number : ℕ) (before : Params) → Whole (param_round number before) (param_round number before) params_look []
whole_param_round number before =
    whole_sequence (whole_param number before) (λ params. whole_right (part_of (whole_ended mark.Semicolon (onward params))) (whole_gives (done params)) refl refl) refl refl

-- the last parameter
last_param : (number : ℕ) (before : Params) → HasText (rounds (param_round number) before)
last_param number before p = by_text ((whole_param number before).text p)
  where
    by_text : (v : Params) × (ts : List Token) × (q : ℕ) × Fine (param_form number before) v (spot p ts) (spot q []) → (v : Params) × (ts : List Token) × (q : ℕ) × Fine (rounds (param_round number) before) v (spot p ts) (spot q [])
    by_text (v, ts, q, fine) = (v, ts, q, (zero, (v, spot q [], fine, inr (refl, refl))))

whole_param_rounds : (number : ℕ) (before : Params) → Whole (rounds (param_round number) before) (rounds (param_round number) before) params_look []
whole_param_rounds number before = record {
  supplied =
      supplied_rounds (param_round number) (param_round number) before (λ t. Unit {0}) tt (λ t i. (whole_param_round number t).supplied) (λ t u x y i fine. tt)
      (λ t u i j.
      can_end (param_round number t) (rounds (param_round number) u) (whole_param_round number t).clearly.clear (onward u)
      (text_free (param_round number t) (rounds (param_round number) u) params_look (whole_param_round number t).clearly (last_param number u) (onward u)))
      (λ t u i j. can_follow (param_round number t) (rounds (param_round number) u) (whole_param_round number t).clearly.clear (onward u));
  clearly = clear_joined (param_form number) mark.Semicolon (λ before params. params) (λ before params. params) types [] (first_param number) refl before;
  text = last_param number before;
}

whole_params : (number : ℕ) (names : Names) → Whole (params_form number names) (params_form number names) (token_look (marked mark.Open ∷ [])) []
whole_params number names =
    whole_then (whole_mark mark.Open) (λ x.
    whole_choice (whole_ended mark.Close (no_params names)) (whole_sequence (whole_param_rounds number (no_params names)) (λ params. whole_ended mark.Close params) refl refl) refl refl)

-- Functions and filters.

whole_written : Whole written_form written_form (record { leads = false; full = false; starts = marked mark.Arrow ∷ []; ends = keyword (codes "set") ∷ marked mark.Arrow ∷ [] }) []
whole_written = whole_choice (whole_then (whole_mark mark.Arrow) (λ x. whole_sequence whole_type (λ t. whole_gives _) refl refl)) (whole_gives None) refl refl

whole_head : (number : ℕ) (names : Names) → Whole (head_form number names) (head_form number names) (token_look (name ∷ [])) []
whole_head number names = whole_then (whole_free_name names) (λ found. whole_then (whole_params number _) (λ params. whole_gives _))

-- what a type that is written asks of the body
abbrev met_by : Option ValueType → ℕ → Said (List StmtTree) → Option (Cause × ℕ)
met_by written place body = unless_so (not (is_some written && not body.returned.is_met)) (misfit_at place)

abbrev checked : ℕ → ℕ → Names → ℕ → Option ValueType → Unit {0} → Grammar Body
checked levels number names place written x =
    sequence (body_form (frame_in number names) levels (as_written written)) (λ body. checks (met_by written place body) (gives (body_with body)))

abbrev opened : ℕ → ℕ → Names → ℕ → Option ValueType → Grammar Body
opened levels number names place written = sequence (the_mark mark.BlockOpen) (checked levels number names place written)

checked_exchanges : (levels number : ℕ) (names : Names) (place : ℕ) (written : Option ValueType) (x : Unit {0}) → Exchanges whatever (checked levels number names place written x)
checked_exchanges levels number names place written x = before_checks whatever (body_form (frame_in number names) levels (as_written written)) (met_by written place) body_with (body_exchanges (frame_in number names) levels (as_written written))

checked_has_text : (levels number : ℕ) (names : Names) (place : ℕ) (written : Option ValueType) (x : Unit {0}) → HasText (checked levels number names place written x)
checked_has_text levels number names place written x =
    text_then (body_form (frame_in number names) levels (as_written written)) (λ body. checks (unless_so (not (is_some written && not body.returned.is_met)) (misfit_at place)) (gives (body_with body)))
    (body_has_text (frame_in number names) levels (as_written written))
    (λ b.
    ends_all (body_form (frame_in number names) levels (as_written written)) (checks (unless_so (not (is_some written && not b.returned.is_met)) (misfit_at place)) (gives (body_with b)))
    (body_exchanges (frame_in number names) levels (as_written written)) (λ p. (body_with b, [], p, (refl, refl))) b)

opened_has_text : (levels number : ℕ) (names : Names) (place : ℕ) (written : Option ValueType) → HasText (opened levels number names place written)
opened_has_text levels number names place written = text_first (checked levels number names place written) (whole_mark mark.BlockOpen) (checked_has_text levels number names place written)

body_exchanges_within : (levels number : ℕ) (names : Names) → Exchanges whatever (body_within levels number names)
body_exchanges_within levels number names =
    here_exchanges whatever (λ place. sequence written_form (opened levels number names place)) (λ place.
    free_first whatever written_form (opened levels number names place) (clearly_exchanges whole_written.clearly) (λ written.
    free_first whatever (the_mark mark.BlockOpen) (checked levels number names place written) (clearly_exchanges (whole_mark mark.BlockOpen).clearly) (checked_exchanges levels number names place written)))

body_text_within : (levels number : ℕ) (names : Names) → HasText (body_within levels number names)
body_text_within levels number names p = text_first (opened levels number names p) whole_written (opened_has_text levels number names p) p

body_supplied_within : (levels more : ℕ) → levels < more → (number : ℕ) (names : Names) → Supplied Body (body_within levels number names) (body_within more number names)
body_supplied_within levels more less number names =
    supplied_here (λ place. sequence written_form (opened levels number names place)) (λ place. sequence written_form (opened more number names place)) (λ place.
    supply_first (opened levels number names place) (opened more number names place) whole_written (λ written.
    supply_first (checked levels number names place written) (checked more number names place written) (whole_mark mark.BlockOpen) (λ x.
    supplied_and_checks whatever (body_form (frame_in number names) levels (as_written written)) (body_form (frame_in number names) more (as_written written)) (met_by written place) body_with
    (body_supplied (frame_in number names) levels more less (as_written written)) (body_exchanges (frame_in number names) more (as_written written)) (λ rest. tt))
    (checked_has_text more number names place written))
    (opened_has_text more number names place))

abbrev behind_head : ℕ → ℕ → Head → Grammar Declares
behind_head levels number head = sequence (body_within levels number head.params.names) (λ body. gives (function_with head body))

behind_head_text : (levels number : ℕ) (head : Head) → HasText (behind_head levels number head)
behind_head_text levels number head =
    text_then (body_within levels number head.params.names) (λ body. gives (function_with head body)) (body_text_within levels number head.params.names)
    (λ b. ends_all (body_within levels number head.params.names) (gives (function_with head b)) (body_exchanges_within levels number head.params.names) (λ p. (function_with head b, [], p, (refl, refl))) b)

function_supplied : (levels more : ℕ) → levels < more → (number : ℕ) (names : Names) → Supplied Declares (function_within levels number names) (function_within more number names)
function_supplied levels more less number names =
    supply_first (behind_head levels number) (behind_head more number) (whole_head number names) (λ head.
    supplied_and_gives whatever (body_within levels number head.params.names) (body_within more number head.params.names) (function_with head) (body_supplied_within levels more less number head.params.names)
    (body_exchanges_within more number head.params.names) (λ rest. tt))
    (behind_head_text more number)

function_exchanges : (levels number : ℕ) (names : Names) → Exchanges whatever (function_within levels number names)
function_exchanges levels number names =
    free_first whatever (head_form number names) (behind_head levels number) (clearly_exchanges (whole_head number names).clearly) (λ head.
    before_gives whatever (body_within levels number head.params.names) (function_with head) (body_exchanges_within levels number head.params.names))

function_has_text : (levels number : ℕ) (names : Names) → HasText (function_within levels number names)
function_has_text levels number names = text_first (behind_head levels number) (whole_head number names) (behind_head_text levels number)

abbrev filtered : ℕ → Names → List ℕ → Unit {0} → Grammar Declares
filtered levels names found x =
    sequence (body_form (record { names = names; scope = scope.Filter }) levels (as_written None)) (λ body. gives (filter_with names found body))

abbrev filter_opened : ℕ → Names → List ℕ → Grammar Declares
filter_opened levels names found = sequence (the_mark mark.BlockOpen) (filtered levels names found)

filtered_has_text : (levels : ℕ) (names : Names) (found : List ℕ) (x : Unit {0}) → HasText (filtered levels names found x)
filtered_has_text levels names found x =
    let frame : Frame = record { names = names; scope = scope.Filter } in
    text_then (body_form frame levels (as_written None)) (λ body. gives (filter_with names found body)) (body_has_text frame levels (as_written None))
    (λ b. ends_all (body_form frame levels (as_written None)) (gives (filter_with names found b)) (body_exchanges frame levels (as_written None)) (λ p. (filter_with names found b, [], p, (refl, refl))) b)

filter_opened_text : (levels : ℕ) (names : Names) (found : List ℕ) → HasText (filter_opened levels names found)
filter_opened_text levels names found = text_first (filtered levels names found) (whole_mark mark.BlockOpen) (filtered_has_text levels names found)

filter_supplied : (levels more : ℕ) → levels < more → (names : Names) → Supplied Declares (filter_within levels names) (filter_within more names)
filter_supplied levels more less names =
    let frame : Frame = record { names = names; scope = scope.Filter } in
    supply_first (filter_opened levels names) (filter_opened more names) (whole_free_name names) (λ found.
    supply_first (filtered levels names found) (filtered more names found) (whole_mark mark.BlockOpen) (λ x.
    supplied_and_gives whatever (body_form frame levels (as_written None)) (body_form frame more (as_written None)) (filter_with names found) (body_supplied frame levels more less (as_written None))
    (body_exchanges frame more (as_written None)) (λ rest. tt))
    (filtered_has_text more names found))
    (filter_opened_text more names)

filter_exchanges : (levels : ℕ) (names : Names) → Exchanges whatever (filter_within levels names)
filter_exchanges levels names =
    free_first whatever (free_name names) (filter_opened levels names) (clearly_exchanges (whole_free_name names).clearly) (λ found.
    free_first whatever (the_mark mark.BlockOpen) (filtered levels names found) (clearly_exchanges (whole_mark mark.BlockOpen).clearly) (λ x.
    before_gives whatever (body_form (record { names = names; scope = scope.Filter }) levels (as_written None)) (filter_with names found)
    (body_exchanges (record { names = names; scope = scope.Filter }) levels (as_written None))))

filter_has_text : (levels : ℕ) (names : Names) → HasText (filter_within levels names)
filter_has_text levels names = text_first (filter_opened levels names) (whole_free_name names) (filter_opened_text levels names)

-- Other items.

abbrev v4_there : Addr
v4_there = record { family = V4; value = 0; fits = lit< tt }

whole_router_id : (names : Names) → Whole (router_id_end names) (router_id_end names) (token_look (keyword (codes "id") ∷ [])) []
whole_router_id names =
    whole_then (whole_word (codes "id")) (λ x.
    whole_then (whole_takes (token.Addr v4_there) v4_there refl (clear_takes v4_addr_in (addr ∷ []) v4_front)) (λ a. whole_ended mark.Semicolon _))

whole_table : (kind : Kind) (names : Names) → Whole (table_end kind names) (table_end kind names) (token_look (keyword (codes "table") ∷ [])) []
whole_table kind names = whole_then (whole_word (codes "table")) (λ x. whole_then (whole_free_name names) (λ found. whole_ended mark.Semicolon _))

whole_value : (levels more : ℕ) → levels < more → (statement : ℕ) (names : Names) → Whole (value_within levels statement names) (value_within more statement names) (token_look operand_starts) []
whole_value levels more less statement names =
    whole_sequence (whole_expression_text (define_place statement names) levels more less anything) (λ value. whole_then (whole_mark mark.Semicolon) (λ x. whole_checks (whole_gives _))) refl refl

whole_define : (levels more : ℕ) → levels < more → (statement : ℕ) (names : Names) → Whole (define_within levels statement names) (define_within more statement names) (token_look (name ∷ [])) []
whole_define levels more less statement names =
    whole_then (whole_free_name names) (λ found. whole_then (whole_mark mark.Equal) (λ x. whole_then (whole_value levels more less statement names) (λ value. whole_gives _)))

-- a keyword, and what follows it
begun_supplied : (word : List ℕ) (f h : Grammar Declares) → Supplied Declares f h → HasText h → Supplied Declares (sequence (the_word word) (λ x. f)) (sequence (the_word word) (λ x. h))
begun_supplied word f h sf text = supply_first (λ x. f) (λ x. h) (whole_word word) (λ x. sf) (λ x. text)

or_supplied : (word : List ℕ) (f h g i : Grammar Declares) → Supplied Declares f h → HasText h → Supplied Declares g i
    → Supplied Declares (choice (sequence (the_word word) (λ x. f)) g) (choice (sequence (the_word word) (λ x. h)) i)
or_supplied word f h g i sf text sg = supplied_choice (sequence (the_word word) (λ x. f)) g (sequence (the_word word) (λ x. h)) i (begun_supplied word f h sf text) sg

begun_exchanges : (word : List ℕ) (h : Grammar Declares) → Exchanges whatever h → Exchanges whatever (sequence (the_word word) (λ x. h))
begun_exchanges word h e = free_first whatever (the_word word) (λ x. h) (clearly_exchanges (whole_word word).clearly) (λ x. e)

or_exchanges : (word : List ℕ) (h i : Grammar Declares) → Exchanges whatever h → Exchanges whatever i → Exchanges whatever (choice (sequence (the_word word) (λ x. h)) i)
or_exchanges word h i e j = choice_exchanges whatever (sequence (the_word word) (λ x. h)) i (begun_exchanges word h e) j

-- the second has more levels than the first
pub record Fewer (levels more : Levels) : Type 0 where
  pub of_define : levels.of_define < more.of_define
  pub inside : levels.inside < more.inside

-- the alternatives, from each of them on
abbrev filter_or : Levels → Names → Grammar Declares
filter_or levels names = choice (sequence (the_word (codes "filter")) (λ x. filter_within levels.inside names)) (sequence (the_word (codes "protocol")) (λ x. protocol_end names))

abbrev function_or : Levels → ℕ → Names → Grammar Declares
function_or levels number names = choice (sequence (the_word (codes "function")) (λ x. function_within levels.inside number names)) (filter_or levels names)

abbrev roa6_or : Levels → ℕ → ℕ → Names → Grammar Declares
roa6_or levels number place names = choice (sequence (the_word (codes "roa6")) (λ x. table_end Roa6 names)) (declaration_within levels number place names)

abbrev roa4_or : Levels → ℕ → ℕ → Names → Grammar Declares
roa4_or levels number place names = choice (sequence (the_word (codes "roa4")) (λ x. table_end Roa4 names)) (roa6_or levels number place names)

abbrev ipv6_or : Levels → ℕ → ℕ → Names → Grammar Declares
ipv6_or levels number place names = choice (sequence (the_word (codes "ipv6")) (λ x. table_end Ipv6 names)) (roa4_or levels number place names)

module _ (levels more : Levels) (fewer : Fewer levels more) (number : ℕ) (names : Names) where
  declaration_supplied : (place : ℕ) → Supplied Declares (declaration_within levels number place names) (declaration_within more number place names)
  declaration_supplied place =
      let define = whole_define levels.of_define more.of_define fewer.of_define place names in
      or_supplied (codes "define") (define_within levels.of_define place names) (define_within more.of_define place names) (function_or levels number names) (function_or more number names) define.supplied define.text
      (or_supplied (codes "function") (function_within levels.inside number names) (function_within more.inside number names) (filter_or levels names) (filter_or more names) (function_supplied levels.inside more.inside fewer.inside number names)
      (function_has_text more.inside number names)
      (or_supplied (codes "filter") (filter_within levels.inside names) (filter_within more.inside names) (sequence (the_word (codes "protocol")) (λ x. protocol_end names)) (sequence (the_word (codes "protocol")) (λ x. protocol_end names))
      (filter_supplied levels.inside more.inside fewer.inside names) (filter_has_text more.inside names)
      (begun_supplied (codes "protocol") (protocol_end names) (protocol_end names) (whole_protocol_end names).supplied (whole_protocol_end names).text)))

  declaration_exchanges : (place : ℕ) → Exchanges whatever (declaration_within more number place names)
  declaration_exchanges place =
      or_exchanges (codes "define") (define_within more.of_define place names) (function_or more number names) (clearly_exchanges (whole_define levels.of_define more.of_define fewer.of_define place names).clearly)
      (or_exchanges (codes "function") (function_within more.inside number names) (filter_or more names) (function_exchanges more.inside number names)
      (or_exchanges (codes "filter") (filter_within more.inside names) (sequence (the_word (codes "protocol")) (λ x. protocol_end names)) (filter_exchanges more.inside names)
      (begun_exchanges (codes "protocol") (protocol_end names) (clearly_exchanges (whole_protocol_end names).clearly))))

  table_supplied : (place : ℕ) → Supplied Declares (table_before names (declaration_within levels number place names)) (table_before names (declaration_within more number place names))
  table_supplied place =
      or_supplied (codes "ipv4") (table_end Ipv4 names) (table_end Ipv4 names) (ipv6_or levels number place names) (ipv6_or more number place names) (whole_table Ipv4 names).supplied (whole_table Ipv4 names).text
      (or_supplied (codes "ipv6") (table_end Ipv6 names) (table_end Ipv6 names) (roa4_or levels number place names) (roa4_or more number place names) (whole_table Ipv6 names).supplied (whole_table Ipv6 names).text
      (or_supplied (codes "roa4") (table_end Roa4 names) (table_end Roa4 names) (roa6_or levels number place names) (roa6_or more number place names) (whole_table Roa4 names).supplied (whole_table Roa4 names).text
      (or_supplied (codes "roa6") (table_end Roa6 names) (table_end Roa6 names) (declaration_within levels number place names) (declaration_within more number place names) (whole_table Roa6 names).supplied (whole_table Roa6 names).text
      (declaration_supplied place))))

  table_exchanges : (place : ℕ) → Exchanges whatever (table_before names (declaration_within more number place names))
  table_exchanges place =
      or_exchanges (codes "ipv4") (table_end Ipv4 names) (ipv6_or more number place names) (clearly_exchanges (whole_table Ipv4 names).clearly)
      (or_exchanges (codes "ipv6") (table_end Ipv6 names) (roa4_or more number place names) (clearly_exchanges (whole_table Ipv6 names).clearly)
      (or_exchanges (codes "roa4") (table_end Roa4 names) (roa6_or more number place names) (clearly_exchanges (whole_table Roa4 names).clearly)
      (or_exchanges (codes "roa6") (table_end Roa6 names) (declaration_within more number place names) (clearly_exchanges (whole_table Roa6 names).clearly) (declaration_exchanges place))))

  pub item_supplied : Supplied Declares (item_within levels number names) (item_within more number names)
  item_supplied =
      supplied_here (λ place. choice (sequence (the_word (codes "router")) (λ x. router_id_end names)) (table_before names (declaration_within levels number place names)))
      (λ place. choice (sequence (the_word (codes "router")) (λ x. router_id_end names)) (table_before names (declaration_within more number place names))) (λ place.
      or_supplied (codes "router") (router_id_end names) (router_id_end names) (table_before names (declaration_within levels number place names)) (table_before names (declaration_within more number place names)) (whole_router_id names).supplied (whole_router_id names).text (table_supplied place))

  pub item_exchanges : Exchanges whatever (item_within more number names)
  item_exchanges =
      here_exchanges whatever (λ place. choice (sequence (the_word (codes "router")) (λ x. router_id_end names)) (table_before names (declaration_within more number place names))) (λ place.
      or_exchanges (codes "router") (router_id_end names) (table_before names (declaration_within more number place names)) (clearly_exchanges (whole_router_id names).clearly) (table_exchanges place))

-- Configurations, over what an item is.

abbrev at_end : Begun → Grammar (Step Begun (List ItemTree))
at_end before = gives (done before.items)

module _ (item other : ℕ → Names → Grammar Declares) (sf : (number : ℕ) (names : Names) → Supplied Declares (item number names) (other number names)) (e : (number : ℕ) (names : Names) → Exchanges whatever (other number names)) where
  then_exchanges : (before : Begun) → Exchanges whatever (item_then other before)
  then_exchanges before = before_gives whatever (other (length before.items) before.names) (λ declares. onward (with_item before declares)) (e (length before.items) before.names)

  round_supplied : (before : Begun) → Supplied (Step Begun (List ItemTree)) (round_of item before) (round_of other before)
  round_supplied before =
      supplied_choice (item_then item before) (unless is_more (at_end before)) (item_then other before) (unless is_more (at_end before))
      (supplied_and_gives whatever (item (length before.items) before.names) (other (length before.items) before.names) (λ declares. onward (with_item before declares)) (sf (length before.items) before.names) (e (length before.items) before.names)
      (λ rest. tt))
      (supplied_unless is_more (at_end before) (at_end before) (supplied_gives (done before.items)) (λ p taken rest more c v q some free at fine. absurd cc))

  -- one more item, whatever is behind it
  round_again : (t u : Begun) (p : ℕ) (front rest : List Token) (m : ℕ) (next : List Token) → Fine (round_of other t) (onward u) (spot p (front ++ rest)) (spot m rest) → Fine (round_of other t) (onward u) (spot p (front ++ next)) (spot m next)
  round_again t u p front rest m next (inl fine) = inl (then_exchanges t (onward u) p front rest m next fine tt)
  round_again t u p front rest m next (inr (free, (same, there))) = absurd cc

  round_can_end : (t u : Begun) → CanEnd (round_of other t) (onward u) (rounds (round_of other) u)
  round_can_end t u p front rest m fine = (u.items, [], m, (zero, inr (refl, (refl, refl))), round_again t u p front rest m [] fine)

  pub config_supplied : Supplied (List ItemTree) (config_of item) (config_of other)
  config_supplied =
      supplied_rounds (round_of item) (round_of other) _ (λ t. Unit {0}) tt (λ t i. round_supplied t) (λ t u x y i fine. tt) (λ t u i j. round_can_end t u)
      (λ t u i j p front taken rest more m v q some one last. round_again t u p front (taken ++ rest) m (taken ++ more) one)

  pub config_has_text : HasText (config_of other)
  config_has_text p = ([], [], p, (zero, inr (refl, (refl, refl))))
