-- The reading of items and configurations depends on the tokens up to its place and the one that is there alone.
use Rattle.std.proofs.Common.{ℕ, List, codes, length, None, refl}
use Rattle.ixp_lang.specs.Trees.{ItemTree}
use Rattle.ixp_lang.specs.declared.item.Kind.{Kind}
use Rattle.ixp_lang.specs.declared.item.Kind.TheVariants.{Ipv4, Ipv6, Roa4, Roa6}
use Rattle.ixp_lang_tokens.specs.declared.fault.Cause.TheVariants.{Unexpected}
use Rattle.ixp_lang_tokens.specs.declared.token.Mark.TheVariants as mark
use Rattle.ixp_lang_tokens.specs.Grammars.{Grammar, gives, sequence, choice, unless, Step, onward, done}
use Rattle.ixp_lang_tokens.specs.Pieces.{the_mark, the_word}
use Rattle.ixp_lang_tokens.proofs.Clear.{IsSeen, IsOfFirst}
use Rattle.ixp_lang_tokens.proofs.Looks.{token_look}
use Rattle.ixp_lang_tokens.proofs.Seen.{first_alone}
use Rattle.ixp_lang_tokens.proofs.Alike.{BeginsAlike, sequence_alike, choice_alike, test_alike, checks_alike}
use Rattle.ixp_lang_tokens.proofs.Quiet.{Steady, steady, here_steady, rounds_steady}
use Rattle.ixp_lang_exprs.specs.Names.{Names}
use Rattle.ixp_lang_exprs.specs.Declarations.{Declares, free_name}
use Rattle.ixp_lang_exprs.specs.declared.context.Scope.TheVariants as scope
use Rattle.ixp_lang_exprs.proofs.Sure.{Sure, behind_else, clear_free_name}
use Rattle.ixp_lang_stmts.proofs.QuietStatements.{body_steady}
use Rattle.ixp_read.specs.Functions.{written_form, as_written, frame_in, head_form, body_within, function_within, filter_within}
use Rattle.ixp_read.specs.Items.{router_id_end, table_end, define_within, Levels, all_levels, declaration_form, table_or, declaration_within, table_before, item_within, item_form, Begun, with_item, is_more, item_then, round_of, config_of, config_form}
use Rattle.ixp_lang_protocols.specs.Protocols.{protocol_end}
use Rattle.ixp_lang_protocols.proofs.SureProtocols.{first_protocol_end}
use Rattle.ixp_read.proofs.SureFunctions.{first_written, first_head}
use Rattle.ixp_read.proofs.SureItems.{item_starts, first_router_id, first_table, first_define, sure_item, clear_config}

body_steady_within : (levels number : ℕ) (names : Names) → Steady (body_within levels number names)
body_steady_within levels number names =
    here_steady _ (λ place.
    sequence_alike first_alone written_form _ (steady written_form first_written.clear) (λ written.
    sequence_alike first_alone (the_mark mark.BlockOpen) _ (steady (the_mark mark.BlockOpen) tt) (λ x.
    sequence_alike first_alone _ _ (body_steady (frame_in number names) levels (as_written written)) (λ body. checks_alike first_alone (gives _) _ (steady (gives _) tt)))))

function_steady : (levels number : ℕ) (names : Names) → Steady (function_within levels number names)
function_steady levels number names =
    sequence_alike first_alone (head_form number names) _ (steady (head_form number names) (first_head number names).clear) (λ head.
    sequence_alike first_alone (body_within levels number head.params.names) _ (body_steady_within levels number head.params.names) (λ body. steady (gives _) tt))

filter_steady : (levels : ℕ) (names : Names) → Steady (filter_within levels names)
filter_steady levels names =
    sequence_alike first_alone (free_name names) _ (steady (free_name names) (clear_free_name {T = IsOfFirst} names).clear) (λ name.
    sequence_alike first_alone (the_mark mark.BlockOpen) _ (steady (the_mark mark.BlockOpen) tt) (λ x.
    sequence_alike first_alone _ _ (body_steady (record { names = names; scope = scope.Filter }) levels (as_written None)) (λ body. steady (gives _) tt)))

-- what begins with a keyword
begun_steady : (word : List ℕ) (f : Grammar Declares) → Steady f → Steady (sequence (the_word word) (λ x. f))
begun_steady word f h = sequence_alike first_alone (the_word word) (λ x. f) (steady (the_word word) tt) (λ x. h)

or_steady : (word : List ℕ) (f g : Grammar Declares) → Steady f → Steady g → Steady (choice (sequence (the_word word) (λ x. f)) g)
or_steady word f g hf hg = choice_alike first_alone (sequence (the_word word) (λ x. f)) g (λ p k r s h. refl) (begun_steady word f hf) hg

table_steady : (kind : Kind) (names : Names) → Steady (table_end kind names)
table_steady kind names = steady (table_end kind names) (first_table kind names).clear

pub item_steady_within : (levels : Levels) (number : ℕ) (names : Names) → Steady (item_within levels number names)
item_steady_within levels number names =
    here_steady _ (λ place.
    or_steady (codes "router") (router_id_end names) (table_before names (declaration_within levels number place names)) (steady (router_id_end names) (first_router_id names).clear)
    (or_steady (codes "ipv4") (table_end Ipv4 names) _ (table_steady Ipv4 names)
    (or_steady (codes "ipv6") (table_end Ipv6 names) _ (table_steady Ipv6 names)
    (or_steady (codes "roa4") (table_end Roa4 names) _ (table_steady Roa4 names)
    (or_steady (codes "roa6") (table_end Roa6 names) (declaration_within levels number place names) (table_steady Roa6 names)
    (or_steady (codes "define") (define_within levels.of_define place names) _ (steady (define_within levels.of_define place names) (first_define levels.of_define place names).clear)
    (or_steady (codes "function") (function_within levels.inside number names) _ (function_steady levels.inside number names)
    (or_steady (codes "filter") (filter_within levels.inside names) (sequence (the_word (codes "protocol")) (λ x. protocol_end names)) (filter_steady levels.inside names)
    (begun_steady (codes "protocol") (protocol_end names) (steady (protocol_end names) (first_protocol_end names).clear))))))))))

item_steady : (number : ℕ) (names : Names) → Steady (item_form number names)
unfolding item_form table_or declaration_form
item_steady number names = item_steady_within all_levels number names

abbrev at_end : Begun → Grammar (Step Begun (List ItemTree))
at_end before = gives (done before.items)

last_steady : (before : Begun) → Steady (unless is_more (at_end before))
last_steady before = test_alike first_alone (at_end before) (unless is_more (at_end before)) is_more Unexpected (refl, λ k x y h. refl) (steady (at_end before) tt) (λ x. refl)

-- Configurations, over what an item is.
module _ (item : ℕ → Names → Grammar Declares) (known : (number : ℕ) (names : Names) → Sure (item number names) (token_look item_starts)) (begins : (number : ℕ) (names : Names) → BeginsAlike first_alone (item number names))
    (h : (number : ℕ) (names : Names) → Steady (item number names)) where
  one_steady : (before : Begun) → Steady (item_then item before)
  one_steady before =
      sequence_alike first_alone (item (length before.items) before.names) (λ declares. gives (onward (with_item before declares))) (h (length before.items) before.names) (λ declares. steady (gives _) tt)

  pub steady_config : Steady (config_of item)
  steady_config =
      let clear = clear_config item known in
      rounds_steady (IsSeen behind_else) (round_of item) clear.0 clear.1 (λ before.
      choice_alike first_alone (item_then item before) (unless is_more (at_end before)) (begins (length before.items) before.names) (one_steady before) (last_steady before)) _

pub item_begins_within : (levels : Levels) (number : ℕ) (names : Names) → BeginsAlike first_alone (item_within levels number names)
item_begins_within levels number names p k r s h = refl

item_begins : (number : ℕ) (names : Names) → BeginsAlike first_alone (item_form number names)
unfolding item_form table_or declaration_form
item_begins number names p k r s h = refl

pub config_steady : Steady config_form
config_steady = steady_config item_form sure_item item_begins item_steady
