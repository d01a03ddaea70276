-- Addresses that are put into members' tables, from the last one on, stand there in order.
use Rattle.std.proofs.Common.{◌≡◌, ◌⊎◌, inl, inr, ℕ, Bool, true, false, ◌&&◌, ◌==◌, if◌then◌else◌, List, [], ◌∷◌, ◌++◌, Option, filter, flat_map, map, is_eq, nat_cmp, refl, sym, ap, ◌∙◌}
use Rattle.std.proofs.lemmas.Bool.{cases_Bool, cond-true, cond-false, eqb-true}
use Rattle.std.proofs.lemmas.Grind.{flat_map-append}
use Rattle.std.proofs.lemmas.List.Elements.{filter-append}
use Rattle.std.specs.BTreeMap.{BTreeMap, UpdatesBy, get_by}
use Rattle.std.specs.Cmp.{unsigned_tied}
use Rattle.std.specs.declared.cmp.Ordering.{Ordering}
use Rattle.std.specs.declared.cmp.Ordering.TheVariants.{Less, Equal, Greater}
use Rattle.std.specs.Ordering.{match_ordering}
use Rattle.ixp_num_tables.specs.Tables.{order, put}
use Rattle.ixp_num.specs.declared.addr.Addr.{Addr}
use Rattle.ixp_num.specs.declared.family.Family.{Family}
use Rattle.ixp_registry.specs.Words.{addr_numbers}
use Rattle.ixp_registry.specs.Sessions.{address_of, ascending, listed_address}
use Rattle.ixp_registry.specs.declared.network.Interface.{Interface}
use Rattle.ixp_compile_text.specs.declared.addresses.Listed.{Listed}
use Rattle.ixp_compile_text.specs.Addresses.{listed_in, listed_or_none, onto, own_addresses}

abbrev pub key : Listed → List ℕ
key a = addr_numbers a.addr

abbrev pub plain : List Listed → List Addr
plain = map (λ (a : Listed). a.addr)

pub onto_nothing : (addrs : List Addr) → onto addrs [] ≡ ascending addrs
onto_nothing [] = refl
onto_nothing (a ∷ addrs) = ap (put addr_numbers a) (onto_nothing addrs)

pub onto_both : (earlier later there : List Addr) → onto (earlier ++ later) there ≡ onto earlier (onto later there)
onto_both [] later there = refl
onto_both (a ∷ earlier) later there = ap (put addr_numbers a) (onto_both earlier later there)

pub plain_put : (x : Listed) (xs : List Listed) → plain (put key x xs) ≡ put addr_numbers x.addr (plain xs)
plain_put x [] = refl
plain_put x (y ∷ ys) = go (plain_put x ys) (order (key y) (key x)) where
  go : plain (put key x ys) ≡ put addr_numbers x.addr (plain ys) → (o : Ordering)
      → plain (match_ordering o (y ∷ put key x ys) (x ∷ ys) (x ∷ y ∷ ys))
      ≡ match_ordering o (y.addr ∷ put addr_numbers x.addr (plain ys)) (x.addr ∷ plain ys) (x.addr ∷ y.addr ∷ plain ys)
  go rest Less = ap (λ t. y.addr ∷ t) rest
  go rest Equal = refl
  go rest Greater = refl

-- A map after one member's addresses were set.

pub listed_after : (m n : BTreeMap ℕ (List Listed)) (member : ℕ) (listed : Option (List Listed)) → UpdatesBy nat_cmp (nat_cmp member) m n listed
    → (q : ℕ) → listed_in n q ≡ (if member == q then listed_or_none listed else listed_in m q)
listed_after m n member listed h q =
    ap listed_or_none (h.0 q) ∙ by_test (is_eq (nat_cmp member q)) ∙ ap (λ b. if b then listed_or_none listed else listed_in m q) (unsigned_tied member q) where
      by_test : (b : Bool) → listed_or_none (if b then listed else get_by (nat_cmp q) m) ≡ (if b then listed_or_none listed else listed_in m q)
      by_test true = refl
      by_test false = refl

-- an address more among those of one member
pub address_put : (old less new : ℕ → List Listed) (member : ℕ) (x : Listed) (had has : List Listed) → had ≡ old member → has ≡ put key x had
    → ((q : ℕ) → less q ≡ (if member == q then [] else old q)) → ((q : ℕ) → new q ≡ (if member == q then has else less q))
    → (q : ℕ) → plain (new q) ≡ (if member == q then put addr_numbers x.addr (plain (old q)) else plain (old q))
address_put old less new member x had has of_old more taken set q = by_case (cases_Bool (member == q)) where
  by_case : ((member == q) ≡ true) ⊎ ((member == q) ≡ false) → plain (new q) ≡ (if member == q then put addr_numbers x.addr (plain (old q)) else plain (old q))
  by_case (inl is) =
      ap plain (set q ∙ cond-true (member == q) _ _ is ∙ more ∙ ap (put key x) (of_old ∙ ap old (eqb-true member q is)))
      ∙ plain_put x (old q)
      ∙ sym (cond-true (member == q) _ _ is)
  by_case (inr other) =
      ap plain (set q ∙ cond-false (member == q) _ _ other ∙ taken q ∙ cond-false (member == q) _ _ other) ∙ sym (cond-false (member == q) _ _ other)

abbrev is_own : ℕ → ℕ → Interface → Bool
is_own vlan member i = i.member == member && i.vlan == vlan

-- those of the last interface are put in first
pub own_last : (family : Family) (vlan member : ℕ) (earlier : List Interface) (i : Interface) (there : List Addr)
    → onto (own_addresses family vlan member (earlier ++ i ∷ [])) there
    ≡ onto (own_addresses family vlan member earlier) (onto (own_addresses family vlan member (i ∷ [])) there)
own_last family vlan member earlier i there =
    ap (λ addrs. onto addrs there) (both earlier) ∙ onto_both (own_addresses family vlan member earlier) (own_addresses family vlan member (i ∷ [])) there where
      both : (is : List Interface) → own_addresses family vlan member (is ++ i ∷ []) ≡ own_addresses family vlan member is ++ own_addresses family vlan member (i ∷ [])
      both is = ap (flat_map (λ j. listed_address (address_of family j))) (filter-append (is_own vlan member) is (i ∷ [])) ∙ flat_map-append (λ j. listed_address (address_of family j)) (filter (is_own vlan member) is) (filter (is_own vlan member) (i ∷ []))
