-- The steps of the reader of items: which alternative the first keyword decides for.
use Rattle.std.proofs.Common.{◌≡◌, ◌∙◌, ℕ, List, length, Some, None, codes, sym, ap}
use Rattle.ixp_lang.specs.declared.item.Kind.TheVariants.{Ipv4, Ipv6, Roa4, Roa6}
use Rattle.ixp_lang_tokens.specs.declared.token.Kind.{Kind}
use Rattle.ixp_lang_tokens.specs.Grammars.{Grammar, sequence, choice}
use Rattle.ixp_lang_tokens.specs.Reading.{read, ◌>>=◌}
use Rattle.ixp_lang_tokens.specs.Pieces.{the_word, is_word, behind}
use Rattle.ixp_lang_exprs.specs.Names.{Names}
use Rattle.ixp_lang_exprs.specs.Declarations.{Declares}
use Rattle.ixp_lang_protocols.specs.Protocols.{protocol_end}
use Rattle.ixp_lang_protocols.proofs.Words.{word_next, other_next}
use Rattle.ixp_read.specs.Functions.{function_form, filter_form}
use Rattle.ixp_read.specs.Items.{router_id_end, table_end, define_end, declaration_form, table_or, item_form}

abbrev pub IsNext : List ℕ → List Kind → List Kind → Type 0
IsNext word ts rest = Some rest ≡ behind (is_word word) ts

abbrev pub IsOther : List ℕ → List Kind → Type 0
IsOther word ts = None ≡ behind (is_word word) ts

module _ (number place : ℕ) (names : Names) where
  abbrev pub protocol_part : Grammar Declares
  protocol_part = sequence (the_word (codes "protocol")) (λ tt. protocol_end names)

  abbrev pub filter_part : Grammar Declares
  filter_part = choice (sequence (the_word (codes "filter")) (λ tt. filter_form names)) protocol_part

  abbrev pub function_part : Grammar Declares
  function_part = choice (sequence (the_word (codes "function")) (λ tt. function_form number names)) filter_part

  abbrev pub roa6_part : Grammar Declares
  roa6_part = choice (sequence (the_word (codes "roa6")) (λ tt. table_end Roa6 names)) (declaration_form number place names)

  abbrev pub roa4_part : Grammar Declares
  roa4_part = choice (sequence (the_word (codes "roa4")) (λ tt. table_end Roa4 names)) roa6_part

  abbrev pub ipv6_part : Grammar Declares
  ipv6_part = choice (sequence (the_word (codes "ipv6")) (λ tt. table_end Ipv6 names)) roa4_part

module _ (number place : ℕ) (names : Names) (ts rest : List Kind) where
  pub define_next : IsNext (codes "define") ts rest → read (declaration_form number place names) ts ≡ read (define_end place names) rest
  unfolding declaration_form
  define_next e = word_next (codes "define") (λ tt. define_end place names) (function_part number place names) ts rest e

  pub function_next : IsOther (codes "define") ts → IsNext (codes "function") ts rest → read (declaration_form number place names) ts ≡ read (function_form number names) rest
  unfolding declaration_form
  function_next d e =
      other_next (codes "define") (λ tt. define_end place names) (function_part number place names) ts d
      ∙ word_next (codes "function") (λ tt. function_form number names) (filter_part number place names) ts rest e

  pub filter_next : IsOther (codes "define") ts → IsOther (codes "function") ts → IsNext (codes "filter") ts rest → read (declaration_form number place names) ts ≡ read (filter_form names) rest
  unfolding declaration_form
  filter_next d f e =
      other_next (codes "define") (λ tt. define_end place names) (function_part number place names) ts d
      ∙ other_next (codes "function") (λ tt. function_form number names) (filter_part number place names) ts f
      ∙ word_next (codes "filter") (λ tt. filter_form names) (protocol_part number place names) ts rest e

  pub protocol_left : IsOther (codes "define") ts → IsOther (codes "function") ts → IsOther (codes "filter") ts
      → read (declaration_form number place names) ts ≡ (read (the_word (codes "protocol")) ts >>= λ a. read (protocol_end names) a.1)
  unfolding declaration_form
  protocol_left d f g =
      other_next (codes "define") (λ tt. define_end place names) (function_part number place names) ts d
      ∙ other_next (codes "function") (λ tt. function_form number names) (filter_part number place names) ts f
      ∙ other_next (codes "filter") (λ tt. filter_form names) (protocol_part number place names) ts g

  pub ipv4_next : IsNext (codes "ipv4") ts rest → read (table_or number place names) ts ≡ read (table_end Ipv4 names) rest
  unfolding table_or
  ipv4_next e = word_next (codes "ipv4") (λ tt. table_end Ipv4 names) (ipv6_part number place names) ts rest e

  pub ipv6_next : IsOther (codes "ipv4") ts → IsNext (codes "ipv6") ts rest → read (table_or number place names) ts ≡ read (table_end Ipv6 names) rest
  unfolding table_or
  ipv6_next a e = other_next (codes "ipv4") (λ tt. table_end Ipv4 names) (ipv6_part number place names) ts a ∙ word_next (codes "ipv6") (λ tt. table_end Ipv6 names) (roa4_part number place names) ts rest e

  pub roa4_next : IsOther (codes "ipv4") ts → IsOther (codes "ipv6") ts → IsNext (codes "roa4") ts rest → read (table_or number place names) ts ≡ read (table_end Roa4 names) rest
  unfolding table_or
  roa4_next a b e =
      other_next (codes "ipv4") (λ tt. table_end Ipv4 names) (ipv6_part number place names) ts a
      ∙ other_next (codes "ipv6") (λ tt. table_end Ipv6 names) (roa4_part number place names) ts b
      ∙ word_next (codes "roa4") (λ tt. table_end Roa4 names) (roa6_part number place names) ts rest e

  pub roa6_next : IsOther (codes "ipv4") ts → IsOther (codes "ipv6") ts → IsOther (codes "roa4") ts → IsNext (codes "roa6") ts rest → read (table_or number place names) ts ≡ read (table_end Roa6 names) rest
  unfolding table_or
  roa6_next a b c e =
      other_next (codes "ipv4") (λ tt. table_end Ipv4 names) (ipv6_part number place names) ts a
      ∙ other_next (codes "ipv6") (λ tt. table_end Ipv6 names) (roa4_part number place names) ts b
      ∙ other_next (codes "roa4") (λ tt. table_end Roa4 names) (roa6_part number place names) ts c
      ∙ word_next (codes "roa6") (λ tt. table_end Roa6 names) (declaration_form number place names) ts rest e

  pub declaration_left : IsOther (codes "ipv4") ts → IsOther (codes "ipv6") ts → IsOther (codes "roa4") ts → IsOther (codes "roa6") ts
      → read (table_or number place names) ts ≡ read (declaration_form number place names) ts
  unfolding table_or
  declaration_left a b c d =
      other_next (codes "ipv4") (λ tt. table_end Ipv4 names) (ipv6_part number place names) ts a
      ∙ other_next (codes "ipv6") (λ tt. table_end Ipv6 names) (roa4_part number place names) ts b
      ∙ other_next (codes "roa4") (λ tt. table_end Roa4 names) (roa6_part number place names) ts c
      ∙ other_next (codes "roa6") (λ tt. table_end Roa6 names) (declaration_form number place names) ts d

  pub router_next : IsNext (codes "router") ts rest → read (item_form number names) ts ≡ read (router_id_end names) rest
  unfolding item_form
  router_next e = word_next (codes "router") (λ tt. router_id_end names) (table_or number (length ts) names) ts rest e

  pub table_left : place ≡ length ts → IsOther (codes "router") ts → read (item_form number names) ts ≡ read (table_or number place names) ts
  unfolding item_form
  table_left same e =
      other_next (codes "router") (λ tt. router_id_end names) (table_or number (length ts) names) ts e ∙ ap (λ n. read (table_or number n names) ts) (sym same)
