-- Items and configurations are spelt by their canonical tokens.
use Rattle.std.proofs.Common.{◌≡◌, ℕ, zero, suc, inl, inr, List, [], ◌∷◌, ◌++◌, length, Some, codes, refl, sym, ap, ◌∙◌, subst, append_assoc, append-nil}
use Rattle.ixp_num.specs.declared.addr.Addr.{Addr}
use Rattle.ixp_num.specs.declared.family.Family.{Family}
use Rattle.ixp_num.specs.declared.family.Family.TheVariants.{V4, V6}
use Rattle.ixp_lang.specs.Trees.{ItemTree, table_item, define_item}
use Rattle.ixp_lang.specs.declared.item.Kind.{Kind as TableKind}
use Rattle.ixp_lang.specs.declared.item.Kind.TheVariants as table
use Rattle.ixp_lang_tokens.specs.declared.token.Kind.{Kind}
use Rattle.ixp_lang_tokens.specs.declared.token.Kind.TheVariants as kind
use Rattle.ixp_lang_tokens.specs.declared.token.Mark.TheVariants as mark
use Rattle.ixp_lang_tokens.specs.Grammars.{Grammar, gives, sequence, choice, unless, Step, onward, done, Rounds, Took}
use Rattle.ixp_lang_tokens.specs.Pieces.{the_word}
use Rattle.ixp_lang_exprs.specs.declared.context.Scope.TheVariants as scope
use Rattle.ixp_lang_exprs.specs.declared.env.Declared.TheVariants.{Table}
use Rattle.ixp_lang_exprs.specs.Names.{Names}
use Rattle.ixp_lang_exprs.specs.Operands.{Operand, anything}
use Rattle.ixp_lang_exprs.specs.Declarations.{nothing_declared, Declares, standing}
use Rattle.ixp_read.specs.Items.{if_v4, v4_addr_in, router_id_end, unowned, table_end, define_levels, defined, define_end, declaration_form, table_or, item_form, Begun, with_item, is_more, config_form}
use Rattle.ixp_print.specs.Texts.{kind_text}
use Rattle.ixp_lang_laws.specs.Canonical.{sign}
use Rattle.ixp_lang_laws.specs.CanonicalItems.{item_tokens, items_tokens, config_tokens}
use Rattle.ixp_lang_laws.proofs.Basics.{sound, within_same, took_token, none_settled}
use Rattle.ixp_lang_laws.proofs.Expressions.{expression_again}
use Rattle.ixp_lang_laws.proofs.Bodies.{free_again, function_again, filter_again}
use Rattle.ixp_lang_laws.proofs.Sessions.{protocol_again}

-- The router's id.

v4_of : (f : Family) (found addr : Addr) → found.family ≡ f → if_v4 f found ≡ Some addr → if_v4 addr.family addr ≡ Some addr
v4_of V4 found addr four e =
    let same : found ≡ addr = cc in
    subst (λ a. if_v4 a.family a ≡ Some a) same (ap (λ f. if_v4 f found) four)
v4_of V6 found addr six e = absurd cc

v4_again : (k : Kind) (addr : Addr) → v4_addr_in k ≡ Some addr → if_v4 addr.family addr ≡ Some addr
v4_again (kind.Addr found) addr e = v4_of found.family found addr refl e
v4_again _ addr e = absurd cc

module _ (number : ℕ) (names : Names) where
  -- an item is spelt by its canonical tokens
  abbrev ItemAgain : Declares → Type 0
  ItemAgain d = (others : List Kind) → Took (item_form number names) d (item_tokens d.0 others) others

  router_again : (d : Declares) (ts rest : List Kind) → Took (router_id_end names) d ts rest → ItemAgain d
  unfolding item_form table_or declaration_form
  router_again d ts rest (x, a, id, (addr, b, token, (y, c, semicolon, (is, same)))) =
      subst ItemAgain (sym is)
      (let k : (k : Kind) × (v4_addr_in k ≡ Some addr) = took_token v4_addr_in addr a b token in
      λ others. inl (tt, _, (refl, refl), (tt, _, (refl, refl), (addr, _, (v4_again k.0 addr k.1, refl), (tt, _, (refl, refl), (refl, refl))))))

  TableAgain : TableKind → Declares → Type 0
  TableAgain k d = (others : List Kind) → Took (sequence (the_word (kind_text k)) (λ tt. table_end k names)) d (item_tokens d.0 others) others

  table_again : (k : TableKind) (d : Declares) (ts rest : List Kind) → Took (table_end k names) d ts rest → TableAgain k d
  unfolding TableAgain
  table_again k d ts rest (x, a, table_, (n, b, free, (y, c, semicolon, (is, same)))) =
      subst (λ z. TableAgain k z) (sym is) (by_kind k)
    where
      by_kind : (k : TableKind) → (others : List Kind) → Took (sequence (the_word (kind_text k)) (λ tt. table_end k names)) (table_item k n, standing names n (Table (unowned k))) (item_tokens (table_item k n) others) others
      by_kind table.Ipv4 others = (tt, _, (refl, refl), (tt, _, (refl, refl), (n, _, free_again names n a b free _, (tt, _, (refl, refl), (refl, refl)))))
      by_kind table.Ipv6 others = (tt, _, (refl, refl), (tt, _, (refl, refl), (n, _, free_again names n a b free _, (tt, _, (refl, refl), (refl, refl)))))
      by_kind table.Roa4 others = (tt, _, (refl, refl), (tt, _, (refl, refl), (n, _, free_again names n a b free _, (tt, _, (refl, refl), (refl, refl)))))
      by_kind table.Roa6 others = (tt, _, (refl, refl), (tt, _, (refl, refl), (n, _, free_again names n a b free _, (tt, _, (refl, refl), (refl, refl)))))

  define_again : (place : ℕ) (d : Declares) (ts rest : List Kind) → Took (define_end place names) d ts rest → (elsewhere : ℕ) (others : List Kind)
      → Took (sequence (the_word (codes "define")) (λ tt. define_end elsewhere names)) d (item_tokens d.0 others) others
  define_again place d ts rest (n, a, free, (x, b, equal, (value, c, (found, e, took, (y, f, semicolon, (fit, (is_v, same_v)))), (is, same)))) elsewhere others =
      subst (λ (z : Declares). Took (sequence (the_word (codes "define")) (λ tt. define_end elsewhere names)) z (item_tokens z.0 others) others) (sym is)
      (subst (λ (v : Operand). Took (sequence (the_word (codes "define")) (λ tt. define_end elsewhere names)) (defined names n v) (item_tokens (define_item n v.tree) others) others) (sym is_v)
      (let whole = (expression_again names scope.Define define_levels place anything found b e took (none_settled found.misfit fit) define_levels (within_same define_levels)).whole in (
        tt,
        _,
        (refl, refl),
        (
          n,
          _,
          free_again names n ts a free _,
          (
            tt,
            _,
            (refl, refl),
            (
              sound found.tree found.ty whole.0,
              _,
              (sound found.tree found.ty whole.0, _, whole.1 elsewhere anything refl (sign mark.Semicolon others) (refl, refl), (tt, _, (refl, refl), (refl, (refl, refl)))),
              (refl, refl),
            ),
          ),
        ),
      )))

  item_again : (d : Declares) (ts rest : List Kind) → Took (item_form number names) d ts rest → ItemAgain d
  unfolding item_form table_or declaration_form TableAgain
  item_again d ts rest (inl (x, a, word_, took)) = router_again d a rest took
  item_again d ts rest (inr (inl (x, a, word_, took))) = λ others. inr (inl (table_again table.Ipv4 d a rest took others))
  item_again d ts rest (inr (inr (inl (x, a, word_, took)))) = λ others. inr (inr (inl (table_again table.Ipv6 d a rest took others)))
  item_again d ts rest (inr (inr (inr (inl (x, a, word_, took))))) = λ others. inr (inr (inr (inl (table_again table.Roa4 d a rest took others))))
  item_again d ts rest (inr (inr (inr (inr (inl (x, a, word_, took)))))) = λ others. inr (inr (inr (inr (inl (table_again table.Roa6 d a rest took others)))))
  item_again d ts rest (inr (inr (inr (inr (inr (inl (x, a, word_, took))))))) = λ others. inr (inr (inr (inr (inr (inl (define_again _ d a rest took _ others))))))
  item_again d ts rest (inr (inr (inr (inr (inr (inr (inl (x, a, word_, took)))))))) = λ others. inr (inr (inr (inr (inr (inr (inl (function_again number names d a rest took others)))))))
  item_again d ts rest (inr (inr (inr (inr (inr (inr (inr (inl (x, a, word_, took))))))))) = λ others. inr (inr (inr (inr (inr (inr (inr (inl (filter_again names d a rest took others))))))))
  item_again d ts rest (inr (inr (inr (inr (inr (inr (inr (inr (x, a, word_, took))))))))) = λ others. inr (inr (inr (inr (inr (inr (inr (inr (protocol_again names d a rest took others))))))))

-- Configurations.

abbrev round : Begun → Grammar (Step Begun (List ItemTree))
round before =
    choice (sequence (item_form (length before.items) before.names) (λ declares. gives (onward (with_item before declares)))) (unless is_more (gives (done before.items)))

abbrev ItemRounds : ℕ → Begun → List ItemTree → List Kind → List Kind → Type 0
ItemRounds = Rounds (λ s. Took (round s))

-- the items behind those before, up to the end
ItemsAgain : Begun → List ItemTree → Type 0
ItemsAgain before after = (new : List ItemTree) × (after ≡ before.items ++ new) × (j : ℕ) × ItemRounds j before after (items_tokens new []) []

last_item : (before : Begun) (after : List ItemTree) (ts rest : List Kind) → Took (round before) (done after) ts rest → ItemsAgain before after
unfolding ItemsAgain
last_item before after ts rest (inl (d, a, took, (is, same))) = absurd (let e : ◌≡◌ {A = Step Begun (List ItemTree)} (done after) (onward (with_item before d)) = is in let f : ⊥ = cc in f)
last_item before after ts rest (inr (end, (is, same))) =
    let e : ◌≡◌ {A = Step Begun (List ItemTree)} (done after) (done before.items) = is in
    let h : before.items ≡ after = cc in
    subst (λ z. ItemsAgain before z) h ([], sym (append-nil before.items), 0, inr (refl, (refl, refl)))

next_item : (before next : Begun) (after : List ItemTree) (ts rest : List Kind) → Took (round before) (onward next) ts rest → ItemsAgain next after → ItemsAgain before after
unfolding ItemsAgain
next_item before next after ts rest (inr (end, (is, same))) behind = absurd (let e : ◌≡◌ {A = Step Begun (List ItemTree)} (onward next) (done before.items) = is in let f : ⊥ = cc in f)
next_item before next after ts rest (inl (d, a, took, (is, same))) behind =
    let e : ◌≡◌ {A = Step Begun (List ItemTree)} (onward next) (onward (with_item before d)) = is in
    let h : next ≡ with_item before d = cc in
    go (subst (λ z. ItemsAgain z after) h behind)
  where
    go : ItemsAgain (with_item before d) after → ItemsAgain before after
    go (new, all, j, more) = (
      d.0 ∷ new,
      all ∙ append_assoc before.items (d.0 ∷ []) new,
      suc j,
      (with_item before d, items_tokens new [], inl (d, _, item_again (length before.items) before.names d ts a took (items_tokens new []), (refl, refl)), more),
    )

some_items : (k : ℕ) (before : Begun) (after : List ItemTree) (ts rest : List Kind) → ItemRounds k before after ts rest → ItemsAgain before after
some_items zero before after ts rest took = last_item before after ts rest took
some_items (suc k) before after ts rest (next, mid, took, more) = next_item before next after ts mid took (some_items k next after mid rest more)

-- a configuration is spelt by its canonical tokens
pub configuration_law : (c : List ItemTree) (tokens : List Kind) → Took config_form c tokens [] → Took config_form c (config_tokens c) []
unfolding ItemsAgain
configuration_law c tokens (k, took) = by_items (some_items k (record { items = []; names = nothing_declared }) c tokens [] took)
  where
    by_items : ItemsAgain (record { items = []; names = nothing_declared }) c → Took config_form c (config_tokens c) []
    by_items (new, all, j, more) = subst (λ is. Took config_form c (items_tokens is []) []) (sym all) (j, more)
