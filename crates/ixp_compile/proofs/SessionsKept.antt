-- A session of a router, by its interface's number.
use Rattle.std.proofs.Common.{◌≡◌, ℕ, ◌<◌, ◌^◌, Bool, true, false, ◌==◌, List, [], ◌∷◌, ◌++◌, filter_map, Option, Some, None, refl, sym, ap, ◌∙◌, subst, arith, inl, inr, ◌⊎◌, if◌then◌else◌}
use Rattle.std.specs.List.{AllByRecursion, cons_option}
use Rattle.std.specs.declared.cmp.Ordering.{Ordering}
use Rattle.std.specs.declared.cmp.Ordering.TheVariants.{Less, Equal, Greater}
use Rattle.std.specs.Ordering.{match_ordering}
use Rattle.std.proofs.lemmas.Bool.{ne_eqb}
use Rattle.std.proofs.lemmas.List.Elements.{filter_map-append}
use Rattle.ixp_num_tables.specs.Tables.{order, Ascends, find, if_there}
use Rattle.ixp_num_tables.proofs.Orders.{head_same}
use Rattle.ixp_num_tables.proofs.TableLaws.{find-key}
use Rattle.ixp_registry.specs.declared.members.Member.{Member}
use Rattle.ixp_registry.specs.declared.network.IfAddr.{IfAddr}
use Rattle.ixp_registry.specs.declared.network.Interface.{Interface}
use Rattle.ixp_registry.specs.declared.registry.Registry.{Registry}
use Rattle.ixp_registry.specs.declared.router.Router.{Router}
use Rattle.ixp_registry.specs.declared.rules.MemberRule.{MemberRule}
use Rattle.ixp_registry.specs.Keys.{interface_key, member_key, rules_key}
use Rattle.ixp_registry.specs.Sessions.{Session, address_of, is_session, rules_of, session, session_at, session_with}
use Rattle.ixp_registry.specs.declared.rules.RuleList.{RuleList}
use Rattle.ixp_registry.specs.Valid.{Valid, ValidInterface, ValidRuleList}
use Rattle.ixp_num_tables.proofs.Looking.{all_found}
use Rattle.ixp_num_tables.proofs.FirstNumbers.{key_up}
use Rattle.ixp_compile.specs.Generated.{router_sessions}
use Rattle.ixp_compile.specs.Rewriting.{AreLawful}
use Rattle.ixp_compile.proofs.FatesWalked.{Numbered}

widens : (n : ℕ) → n < 2 ^ 32 → n < 2 ^ 64
widens n fits = omega arith

-- What a session's record says.

module _ (r : Registry) (router : Router) where
  told : (i : Interface) (s : Session) → session_at r router i ≡ Some s → (s.interface ≡ i) × (s.rules ≡ rules_of r i.member)
  told i s e = go (is_session r router i) (address_of router.family i) (find member_key (i.member ∷ []) r.members) e where
    go : (b : Bool) (a : Option IfAddr) (m : Option Member) → (if b then session_with r router i a m else None) ≡ Some s → (s.interface ≡ i) × (s.rules ≡ rules_of r i.member)
    go false a m h = absurd (let bad : ⊥ = cc in bad)
    go true None m h = absurd (let bad : ⊥ = cc in bad)
    go true (Some a) None h = absurd (let bad : ⊥ = cc in bad)
    go true (Some a) (Some m) h = (ap if_some_interface (sym h), ap if_some_rules (sym h)) where
      if_some_interface : Option Session → Interface
      if_some_interface None = i
      if_some_interface (Some x) = x.interface

      if_some_rules : Option Session → List MemberRule
      if_some_rules None = rules_of r i.member
      if_some_rules (Some x) = x.rules

  found_at : (n : ℕ) (s : Session) → session r router n ≡ Some s → (i : Interface) × (find interface_key (n ∷ []) r.interfaces ≡ Some i) × (session_at r router i ≡ Some s)
  found_at n s e = go (find interface_key (n ∷ []) r.interfaces) refl e where
    go : (o : Option Interface) → find interface_key (n ∷ []) r.interfaces ≡ o → if_there o None (session_at r router) ≡ Some s
        → (i : Interface) × (find interface_key (n ∷ []) r.interfaces ≡ Some i) × (session_at r router i ≡ Some s)
    go None f h = absurd (let bad : ⊥ = cc in bad)
    go (Some i) f h = (i, f, h)

  rules_lawful : Valid r → (member : ℕ) → AreLawful (rules_of r member)
  rules_lawful valid member = go (find rules_key (member ∷ []) r.rules) refl where
    go : (o : Option RuleList) → find rules_key (member ∷ []) r.rules ≡ o → AreLawful (if_there o [] (λ l. l.rules))
    go None e = tt
    go (Some l) e = let list : ValidRuleList l = all_found rules_key ValidRuleList (member ∷ []) l r.rules valid.rules.each e in list.lawful

  pub session_lawful : Valid r → (n : ℕ) (s : Session) → session r router n ≡ Some s → AreLawful s.rules
  session_lawful valid n s e =
      let at : (i : Interface) × (find interface_key (n ∷ []) r.interfaces ≡ Some i) × (session_at r router i ≡ Some s) = found_at n s e in
      subst AreLawful (sym (told at.0 s at.2).1) (rules_lawful valid at.0.member)

  pub session_number : (n : ℕ) (s : Session) → session r router n ≡ Some s → s.interface.number ≡ n
  session_number n s e =
      let at : (i : Interface) × (find interface_key (n ∷ []) r.interfaces ≡ Some i) × (session_at r router i ≡ Some s) = found_at n s e in
      ap (λ (i : Interface). i.number) (told at.0 s at.2).0
      ∙ head_same at.0.number n [] [] (find-key interface_key (n ∷ []) at.0 r.interfaces at.1)

  pub session_small : Valid r → (n : ℕ) (s : Session) → session r router n ≡ Some s → s.interface.number < 2 ^ 64
  session_small valid n s e =
      let at : (i : Interface) × (find interface_key (n ∷ []) r.interfaces ≡ Some i) × (session_at r router i ≡ Some s) = found_at n s e in
      let kept : ValidInterface at.0 = all_found interface_key ValidInterface (n ∷ []) at.0 r.interfaces valid.interfaces.each at.1 in
      subst (λ (j : Interface). j.number < 2 ^ 64) (sym (told at.0 s at.2).0) (widens at.0.number kept.fits.0)

  -- Where it stands among the router's sessions.

  split_at : (k : List ℕ) (is : List Interface) (i : Interface) → find interface_key k is ≡ Some i
      → (front : List Interface) × (back : List Interface) × (is ≡ front ++ i ∷ back)
  split_at k [] i e = absurd (let bad : ⊥ = cc in bad)
  split_at k (x ∷ is) i e = go (order (interface_key x) k) e (split_at k is i) where
    more : ((front : List Interface) × (back : List Interface) × (is ≡ front ++ i ∷ back)) → (front : List Interface) × (back : List Interface) × (x ∷ is ≡ front ++ i ∷ back)
    more q = (x ∷ q.0, q.1, ap (λ l. x ∷ l) q.2)

    go : (o : Ordering) → match_ordering o (find interface_key k is) (Some x) (find interface_key k is) ≡ Some i
        → (find interface_key k is ≡ Some i → (front : List Interface) × (back : List Interface) × (is ≡ front ++ i ∷ back))
        → (front : List Interface) × (back : List Interface) × (x ∷ is ≡ front ++ i ∷ back)
    go Less h rest = more (rest h)
    go Greater h rest = more (rest h)
    go Equal h rest = ([], is, ap (λ y. y ∷ is) (let same : x ≡ i = cc in same))

  pub standing : (n : ℕ) (s : Session) → session r router n ≡ Some s → (front : List Session) × (back : List Session) × (front ++ s ∷ back ≡ router_sessions r router)
  standing n s e =
      let at : (i : Interface) × (find interface_key (n ∷ []) r.interfaces ≡ Some i) × (session_at r router i ≡ Some s) = found_at n s e in
      let parts : (front : List Interface) × (back : List Interface) × (r.interfaces ≡ front ++ at.0 ∷ back) = split_at (n ∷ []) r.interfaces at.0 at.1 in (
        filter_map (session_at r router) parts.0,
        filter_map (session_at r router) parts.1,
        ap (λ o. filter_map (session_at r router) parts.0 ++ cons_option o (filter_map (session_at r router) parts.1)) (sym at.2)
            ∙ sym (filter_map-append (session_at r router) parts.0 (at.0 ∷ parts.1))
            ∙ ap (filter_map (session_at r router)) (sym parts.2),
      )

  -- Their numbers.

  all_apart : (n : ℕ) (is : List Interface) → AllByRecursion (λ j. order (n ∷ []) (interface_key j) ≡ Less) is
      → AllByRecursion (λ t. (n == t.interface.number) ≡ false) (filter_map (session_at r router) is)
  all_apart n [] all = tt
  all_apart n (j ∷ is) all = go (session_at r router j) refl (all_apart n is all.1) where
    differ : ((n < j.number) ⊎ ((n ≡ j.number) × (order [] [] ≡ Less))) → n ≡ j.number → ⊥
    differ (inl lt) e = omega arith
    differ (inr both) e = let bad : ◌≡◌ {A = Ordering} Equal Less = both.1 in let no_way : ⊥ = cc in no_way

    go : (o : Option Session) → session_at r router j ≡ o → AllByRecursion (λ t. (n == t.interface.number) ≡ false) (filter_map (session_at r router) is)
        → AllByRecursion (λ t. (n == t.interface.number) ≡ false) (cons_option o (filter_map (session_at r router) is))
    go None e rest = rest
    go (Some t) e rest =
        (ap (λ (i : Interface). n == i.number) (told j t e).0 ∙ ne_eqb n j.number (differ (key_up n j.number [] [] all.0)), rest)

  numbered_from : (is : List Interface) → Ascends interface_key is → AllByRecursion ValidInterface is → Numbered (filter_map (session_at r router) is)
  numbered_from [] up small = tt
  numbered_from (i ∷ is) up small = go (session_at r router i) refl (numbered_from is up.1 small.1) where
    go : (o : Option Session) → session_at r router i ≡ o → Numbered (filter_map (session_at r router) is) → Numbered (cons_option o (filter_map (session_at r router) is))
    go None e rest = rest
    go (Some s) e rest =
        let same : s.interface ≡ i = (told i s e).0 in (
          subst (λ (j : Interface). j.number < 2 ^ 64) (sym same) (widens i.number small.0.fits.0),
          subst (λ (j : Interface). AllByRecursion (λ t. (j.number == t.interface.number) ≡ false) (filter_map (session_at r router) is)) (sym same) (all_apart i.number is up.0),
          rest,
        )

  pub sessions_numbered : Valid r → Numbered (router_sessions r router)
  sessions_numbered valid = numbered_from r.interfaces valid.interfaces.order valid.interfaces.each
