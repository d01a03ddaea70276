-- The session of an interface stands in the texts.
use Rattle.std.proofs.Common.{◌≡◌, ℕ, ◌<◌, ◌^◌, List, [], ◌∷◌, ◌++◌, map, filter_map, append-nil, Option, Some, None, codes, refl, sym, ap, ◌∙◌, subst, if◌then◌else◌}
use Rattle.std.specs.List.{AllByRecursion, cons_option}
use Rattle.std.proofs.lemmas.Bool.{ne_eqb}
use Rattle.ixp_num_tables.specs.Tables.{find, if_there}
use Rattle.ixp_num_tables.proofs.Looking.{all_found_there}
use Rattle.ixp_lang.specs.Walks.{bgp_sessions, session_named}
use Rattle.ixp_registry.specs.declared.network.Interface.{Interface}
use Rattle.ixp_registry.specs.declared.registry.Registry.{Registry}
use Rattle.ixp_registry.specs.declared.router.Router.{Router}
use Rattle.ixp_registry.specs.Keys.{interface_key}
use Rattle.ixp_registry.specs.Sessions.{Session, session, session_at}
use Rattle.ixp_registry.specs.Valid.{Valid}
use Rattle.ixp_compile.specs.Fragment.{bgp_name}
use Rattle.ixp_compile.specs.Generated.{header_inputs, inputs, allowed_set, covered_set, session_part, footer, generated, own_part, router_sessions}
use Rattle.ixp_compile.specs.Header.{header}
use Rattle.ixp_compile.proofs.FatesWalked.{Numbered, others_in_front}
use Rattle.ixp_compile.proofs.NamesApart.{same_numbered}
use Rattle.ixp_compile.proofs.SessionsKept.{session_number, standing, sessions_numbered}
use Rattle.ixp_compile.proofs.Walking.{bgp, text_sessions, session_there}
use Rattle.ixp_compile.proofs.WholeText.{text}
use Rattle.ixp_compile_laws.proofs.FromRows.{told}
use Rattle.ixp_explain.specs.Explained.{session_in}

module _ (r : Registry) (router : Router) (n : ℕ) (s : Session) (its : session r router n ≡ Some s) where
  pub sender_in_whole : Valid r → session_in (generated r router) n ≡ Some (bgp r router s)
  sender_in_whole valid =
      ap (λ m. session_named (bgp_sessions (generated r router)) (bgp_name m)) (sym (session_number r router n s its))
      ∙ ap (λ bs. session_named bs (bgp_name s.interface.number)) (text_sessions r router allowed_set covered_set (router_sessions r router))
      ∙ subst (λ (ts : List Session). session_named (map (bgp r router) ts) (bgp_name s.interface.number) ≡ Some (bgp r router s)) at.2
      (session_there r router allowed_set covered_set at.0 s at.1 (others_in_front at.0 s at.1 (subst Numbered (sym at.2) (sessions_numbered r router valid))))
    where
      at : (front : List Session) × (back : List Session) × (front ++ s ∷ back ≡ router_sessions r router)
      at = standing r router n s its

  own_text : own_part r router s ≡ text r router allowed_set covered_set (s ∷ [])
  own_text = ap (λ l. header (header_inputs r router) ++ (l ++ (footer ++ []))) (sym (append-nil (session_part (inputs r router s))))

  pub sender_in_own : session_in (own_part r router s) n ≡ Some (bgp r router s)
  sender_in_own =
      ap (λ is. session_named (bgp_sessions is) (bgp_name n)) own_text
      ∙ ap (λ m. session_named (bgp_sessions (text r router allowed_set covered_set (s ∷ []))) (bgp_name m)) (sym (session_number r router n s its))
      ∙ ap (λ bs. session_named bs (bgp_name s.interface.number)) (text_sessions r router allowed_set covered_set (s ∷ []))
      ∙ session_there r router allowed_set covered_set [] s [] tt

-- Where an interface has no session with the router, none in its text has the name.
module _ (r : Registry) (router : Router) (n : ℕ) (none : session r router n ≡ None) where
  abbrev IsOther : Session → Type 0
  IsOther t = t.interface.number ≡ n → ⊥

  not_there : (i : Interface) (t : Session) → find interface_key (interface_key i) r.interfaces ≡ Some i → session_at r router i ≡ Some t → IsOther t
  not_there i t found is same =
      let number : i.number ≡ n = sym (ap (λ (j : Interface). j.number) (told r router i t is).own) ∙ same in
      let here : session r router i.number ≡ Some t = ap (λ (o : Option Interface). if_there o None (session_at r router)) found ∙ is in
      let there : session r router n ≡ Some t = ap (λ (m : ℕ). session r router m) (sym number) ∙ here in
      let bad : ⊥ = cc in
      bad

  all_other : (is : List Interface) → AllByRecursion (λ i. find interface_key (interface_key i) r.interfaces ≡ Some i) is
      → AllByRecursion IsOther (filter_map (session_at r router) is)
  all_other [] found = tt
  all_other (i ∷ is) found = go (session_at r router i) refl (all_other is found.1) where
    go : (o : Option Session) → session_at r router i ≡ o → AllByRecursion IsOther (filter_map (session_at r router) is)
        → AllByRecursion IsOther (cons_option o (filter_map (session_at r router) is))
    go None is_none rest = rest
    go (Some t) is_some rest = (not_there i t found.0 is_some, rest)

  none_named : n < 2 ^ 64 → (ts : List Session) → Numbered ts → AllByRecursion IsOther ts → session_named (map (bgp r router) ts) (bgp_name n) ≡ None
  none_named small [] numbered others = refl
  none_named small (t ∷ ts) numbered others =
      ap (λ b. if b then Some (bgp r router t) else session_named (map (bgp r router) ts) (bgp_name n))
      (same_numbered (codes "b_") t.interface.number n numbered.0 small ∙ ne_eqb t.interface.number n others.0)
      ∙ none_named small ts numbered.2 others.1

  pub no_sender : Valid r → n < 2 ^ 64 → session_in (generated r router) n ≡ None
  no_sender valid small =
      ap (λ bs. session_named bs (bgp_name n)) (text_sessions r router allowed_set covered_set (router_sessions r router))
      ∙ none_named small (router_sessions r router) (sessions_numbered r router valid)
      (all_other r.interfaces (all_found_there interface_key r.interfaces valid.interfaces.order))
