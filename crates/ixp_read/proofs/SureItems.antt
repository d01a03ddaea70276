-- What is known of the grammar of items and of configurations.
use Rattle.std.proofs.Common.{inl, inr, ◌≡◌, ℕ, true, List, [], ◌∷◌, length, codes, refl}
use Rattle.std.specs.Option.{is_some}
use Rattle.ixp_lang.specs.declared.item.Kind.{Kind}
use Rattle.ixp_lang.specs.declared.item.Kind.TheVariants.{Ipv4, Ipv6, Roa4, Roa6}
use Rattle.ixp_lang_tokens.specs.declared.token.Kind.{Kind as Token}
use Rattle.ixp_lang_tokens.specs.declared.token.Kind.TheVariants as token
use Rattle.ixp_lang_tokens.specs.declared.token.Mark.TheVariants as mark
use Rattle.ixp_lang_tokens.specs.Grammars.{Grammar, onward}
use Rattle.ixp_lang_tokens.proofs.Clear.{MayEmpty, GoesOn, IsSeen, ClearBy}
use Rattle.ixp_lang_tokens.proofs.Fronts.{name, Front, keyword, addr, one_of, starts_never}
use Rattle.ixp_lang_tokens.proofs.Looks.{token_look}
use Rattle.ixp_lang_tokens.proofs.ClearLooks.{clear_gives, clear_takes, clear_mark, clear_sequence, clear_then, clear_choice, clear_checks, clear_here, clear_wider}
use Rattle.ixp_lang_exprs.specs.Names.{Names}
use Rattle.ixp_lang_exprs.specs.Operands.{anything}
use Rattle.ixp_lang_exprs.specs.Declarations.{Declares}
use Rattle.ixp_lang_exprs.proofs.ClearLists.{clear_ended}
use Rattle.ixp_lang_exprs.proofs.Sure.{behind_else, Sure, First, sure_of, clear_word, clear_free_name}
use Rattle.ixp_lang_exprs.proofs.KnownExpressions.{operand_starts, clear_expression_text}
use Rattle.ixp_read.specs.Items.{v4_addr_in, router_id_end, table_end, define_place, value_within, define_within, Levels, all_levels, item_within, declaration_form, table_or, item_form, Begun, is_more, item_then, round_of, config_of, config_form}
use Rattle.ixp_read.proofs.SureFunctions.{sure_function, sure_filter}
use Rattle.ixp_lang_protocols.proofs.SureProtocols.{first_protocol_end}

pub v4_front : (k : Token) → is_some (v4_addr_in k) ≡ true → one_of (addr ∷ []) k ≡ true
v4_front (token.Addr a) e = refl
v4_front k e = absurd cc

pub first_router_id : (names : Names) → First (router_id_end names) (token_look (keyword (codes "id") ∷ []))
first_router_id names = clear_then (clear_word (codes "id")) (λ x. clear_then (clear_takes v4_addr_in (addr ∷ []) v4_front) (λ a. clear_ended mark.Semicolon _))

pub first_table : (kind : Kind) (names : Names) → First (table_end kind names) (token_look (keyword (codes "table") ∷ []))
first_table kind names = clear_then (clear_word (codes "table")) (λ x. clear_then (clear_free_name names) (λ found. clear_ended mark.Semicolon _))

first_value : (levels statement : ℕ) (names : Names) → First (value_within levels statement names) (token_look operand_starts)
first_value levels statement names =
    clear_sequence (clear_expression_text (define_place statement names) levels anything) (λ value. clear_then (clear_mark mark.Semicolon) (λ x. clear_checks (clear_gives _))) refl

pub first_define : (levels statement : ℕ) (names : Names) → First (define_within levels statement names) (token_look (name ∷ []))
first_define levels statement names =
    clear_then (clear_free_name names) (λ found. clear_then (clear_mark mark.Equal) (λ x. clear_then (first_value levels statement names) (λ value. clear_gives _)))

abbrev pub item_starts : List Front
item_starts =
    keyword (codes "router") ∷ keyword (codes "ipv4") ∷ keyword (codes "ipv6") ∷ keyword (codes "roa4") ∷ keyword (codes "roa6")
    ∷ keyword (codes "define") ∷ keyword (codes "function") ∷ keyword (codes "filter") ∷ keyword (codes "protocol") ∷ []

pub sure_item_within : (levels : Levels) (number : ℕ) (names : Names) → Sure (item_within levels number names) (token_look item_starts)
sure_item_within levels number names =
    clear_wider
    (clear_here (λ place.
    clear_choice (clear_then (clear_word (codes "router")) (λ x. sure_of (first_router_id names)))
    (clear_choice (clear_then (clear_word (codes "ipv4")) (λ x. sure_of (first_table Ipv4 names)))
    (clear_choice (clear_then (clear_word (codes "ipv6")) (λ x. sure_of (first_table Ipv6 names)))
    (clear_choice (clear_then (clear_word (codes "roa4")) (λ x. sure_of (first_table Roa4 names)))
    (clear_choice (clear_then (clear_word (codes "roa6")) (λ x. sure_of (first_table Roa6 names)))
    (clear_choice (clear_then (clear_word (codes "define")) (λ x. sure_of (first_define levels.of_define place names)))
    (clear_choice (clear_then (clear_word (codes "function")) (λ x. sure_function levels.inside number names))
    (clear_choice (clear_then (clear_word (codes "filter")) (λ x. sure_filter levels.inside names)) (clear_then (clear_word (codes "protocol")) (λ x. sure_of (first_protocol_end names)))
    refl refl) refl refl) refl refl) refl refl) refl refl) refl refl) refl refl) refl refl))
    refl refl

pub sure_item : (number : ℕ) (names : Names) → Sure (item_form number names) (token_look item_starts)
unfolding item_form table_or declaration_form
sure_item number names = sure_item_within all_levels number names

more_seen : IsSeen behind_else is_more
more_seen = (refl, λ k x y h. refl)

-- Configurations, over what an item is.
module _ (item : ℕ → Names → Grammar Declares) (known : (number : ℕ) (names : Names) → Sure (item number names) (token_look item_starts)) where
  pub sure_then : (before : Begun) → Sure (item_then item before) (token_look item_starts)
  sure_then before = clear_then (known (length before.items) before.names) (λ declares. clear_gives _)

  round_clear : (before : Begun) → ClearBy (IsSeen behind_else) (round_of item before)
  round_clear before = ((sure_then before).leads refl, (sure_then before).clear, (more_seen, tt), λ ts p q. q.1)

  round_full : (t u : Begun) (ts : List Token) → ¬ (MayEmpty (round_of item t) (onward u) ts)
  round_full t u ts (inl empty) = (sure_then t).full refl (onward u) ts empty
  round_full t u ts (inr (free, same)) = cc

  round_ends : (t u : Begun) (rest : List Token) → ¬ (GoesOn (round_of item t) (onward u) rest)
  round_ends t u rest (inl p) = starts_never rest ((sure_then t).ends (onward u) rest p)
  round_ends t u rest (inr (inl p)) = p
  round_ends t u rest (inr (inr ((free, same), p))) = cc

  pub clear_config : ClearBy (IsSeen behind_else) (config_of item)
  clear_config = (round_clear, round_full, λ t u rest p q. round_ends t u rest q)

pub config_clear : ClearBy (IsSeen behind_else) config_form
config_clear = clear_config item_form sure_item
