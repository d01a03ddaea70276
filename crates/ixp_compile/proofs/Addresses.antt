-- A member's addresses in ascending order are those of its interfaces.
use Rattle.std.proofs.Common.{◌≡◌, Bool, true, false, ◌&&◌, ◌||◌, ◌==◌, List, [], ◌∷◌, filter, flat_map, Option, Some, None, refl, sym, ap, ap₂, ◌∙◌}
use Rattle.std.specs.List.{list_any}
use Rattle.std.specs.declared.cmp.Ordering.{Ordering}
use Rattle.std.specs.declared.cmp.Ordering.TheVariants.{Less, Equal, Greater}
use Rattle.std.specs.Ordering.{match_ordering}
use Rattle.std.proofs.lemmas.List.Folds.{list_any-append}
use Rattle.ixp_num_tables.specs.Tables.{order, put}
use Rattle.ixp_num_tables.proofs.Orders.{head_same, tail_same}
use Rattle.ixp_num.specs.declared.addr.Addr.{Addr}
use Rattle.ixp_num.specs.declared.family.Family.{Family}
use Rattle.ixp_num.specs.declared.family.Family.TheVariants.{V4, V6}
use Rattle.ixp_num.specs.AddressForms.{version_of}
use Rattle.ixp_num.specs.Families.{same_family}
use Rattle.ixp_registry.specs.declared.network.IfAddr.{IfAddr}
use Rattle.ixp_registry.specs.declared.network.Interface.{Interface}
use Rattle.ixp_registry.specs.declared.registry.Registry.{Registry}
use Rattle.ixp_registry.specs.declared.router.Router.{Router}
use Rattle.ixp_num.specs.Prefixes.{same_addr}
use Rattle.ixp_registry.specs.Words.{addr_numbers}
use Rattle.ixp_registry.specs.Sessions.{Session, address_of, ascending, listed_address, is_beside, member_addresses}
use Rattle.ixp_policy.specs.Import.{has_address}
use Rattle.ixp_compile.proofs.Communities.{or_false}

same_version : (f g h : Family) → version_of g ≡ version_of h → same_family f g ≡ same_family f h
same_version f V4 V4 e = refl
same_version f V6 V6 e = refl
same_version f V4 V6 e = absurd (let bad : ⊥ = cc in bad)
same_version f V6 V4 e = absurd (let bad : ⊥ = cc in bad)

alike : (a b c : Addr) → order (addr_numbers b) (addr_numbers c) ≡ Equal → same_addr a b ≡ same_addr a c
alike a b c e =
    ap₂ (λ f v. f && a.value == v)
    (same_version a.family b.family c.family (head_same (version_of b.family) (version_of c.family) (b.value ∷ []) (c.value ∷ []) e))
    (head_same b.value c.value [] [] (tail_same (version_of b.family) (version_of c.family) (b.value ∷ []) (c.value ∷ []) e))

or_swap : (x y z : Bool) → (x || (y || z)) ≡ (y || (x || z))
or_swap true true z = refl
or_swap true false z = refl
or_swap false y z = refl

or_twice : (x y z : Bool) → x ≡ y → (x || z) ≡ (x || (y || z))
or_twice true y z e = refl
or_twice false true z e = absurd (let bad : ⊥ = cc in bad)
or_twice false false z e = refl

module _ (a : Addr) where
  abbrev has : List Addr → Bool
  has bs = list_any (λ b. same_addr a b) bs

  any_put : (x : Addr) (bs : List Addr) → has (put addr_numbers x bs) ≡ (same_addr a x || has bs)
  any_put x [] = refl
  any_put x (b ∷ bs) = go (any_put x bs) (order (addr_numbers b) (addr_numbers x)) refl where
    go : has (put addr_numbers x bs) ≡ (same_addr a x || has bs) → (o : Ordering) → order (addr_numbers b) (addr_numbers x) ≡ o
        → has (match_ordering o (b ∷ put addr_numbers x bs) (x ∷ bs) (x ∷ b ∷ bs)) ≡ (same_addr a x || (same_addr a b || has bs))
    go rest Less e = ap (λ c. same_addr a b || c) rest ∙ or_swap (same_addr a b) (same_addr a x) (has bs)
    go rest Equal e = or_twice (same_addr a x) (same_addr a b) (has bs) (sym (alike a b x e))
    go rest Greater e = refl

  any_ascending : (bs : List Addr) → has (ascending bs) ≡ has bs
  any_ascending [] = refl
  any_ascending (b ∷ bs) = any_put b (ascending bs) ∙ ap (λ c. same_addr a b || c) (any_ascending bs)

  listed_has : (x : Option IfAddr) → has (listed_address x) ≡ has_address a x
  listed_has None = refl
  listed_has (Some y) = or_false (same_addr a y.addr)

  -- the address is one of the member's in the session's VLAN
  pub member_has : (family : Family) (s : Session) (is : List Interface)
      → has (flat_map (λ i. listed_address (address_of family i)) (filter (is_beside s) is))
      ≡ list_any (λ i. i.member == s.interface.member && i.vlan == s.interface.vlan && has_address a (address_of family i)) is
  member_has family s [] = refl
  member_has family s (i ∷ is) = go (member_has family s is) (is_beside s i) refl where
    go : has (flat_map (λ j. listed_address (address_of family j)) (filter (is_beside s) is)) ≡ list_any (λ j. j.member == s.interface.member && j.vlan == s.interface.vlan && has_address a (address_of family j)) is
        → (b : Bool) → is_beside s i ≡ b → has (flat_map (λ j. listed_address (address_of family j)) (filter (is_beside s) (i ∷ is))) ≡ ((is_beside s i && has_address a (address_of family i)) || list_any (λ j. j.member == s.interface.member && j.vlan == s.interface.vlan && has_address a (address_of family j)) is)
    go rest false e = rw e rest
    go rest true e =
        rw e
        (list_any-append (λ b. same_addr a b) (listed_address (address_of family i)) (flat_map (λ j. listed_address (address_of family j)) (filter (is_beside s) is))
        ∙ ap₂ (λ x y. x || y) (listed_has (address_of family i)) rest)

pub addresses_have : (r : Registry) (router : Router) (s : Session) (a : Addr)
    → list_any (λ b. same_addr a b) (member_addresses r router s)
    ≡ list_any (λ i. i.member == s.interface.member && i.vlan == s.interface.vlan && has_address a (address_of router.family i)) r.interfaces
addresses_have r router s a =
    any_ascending a (flat_map (λ i. listed_address (address_of router.family i)) (filter (is_beside s) r.interfaces)) ∙ member_has a router.family s r.interfaces
