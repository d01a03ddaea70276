-- What is looked up after an edit: whether a member is connected, how long a list is, and what a VLAN's routers weigh.
use Rattle.std.proofs.Common.{◌≡◌, ℕ, ◌+◌, ◌-◌, Bool, true, false, ◌&&◌, ◌==◌, List, [], ◌∷◌, length, Option, Some, None, refl, sym, ap, ◌∙◌, subst, arith, if◌then◌else◌}
use Rattle.std.specs.declared.cmp.Ordering.TheVariants.{Equal}
use Rattle.std.proofs.lemmas.Bool.{eqb-true, eqb-false}
use Rattle.ixp_num.specs.declared.family.Family.{Family}
use Rattle.ixp_num.specs.declared.family.Family.TheVariants.{V4, V6}
use Rattle.ixp_num.specs.declared.prefix.Prefix.{Prefix}
use Rattle.ixp_num.specs.AddressForms.{version_of}
use Rattle.ixp_num.specs.Families.{same_family}
use Rattle.ixp_num_tables.specs.Tables.{order, Ascends, find, put, without, if_there}
use Rattle.ixp_num_tables.specs.Sums.{total}
use Rattle.ixp_num_tables.proofs.Orders.{order_same, order_equal, head_same, tail_same}
use Rattle.ixp_num_tables.proofs.TableLaws.{find-put-same-key, find-put-other, find-without-same, find-without-other, find-key}
use Rattle.ixp_num_tables.proofs.SumLaws.{total_put, total_without}
use Rattle.ixp_registry.specs.declared.lists.IrrList.{IrrList}
use Rattle.ixp_registry.specs.declared.members.Member.{Member}
use Rattle.ixp_registry.specs.declared.members.Status.{Status}
use Rattle.ixp_registry.specs.declared.router.Router.{Router}
use Rattle.ixp_registry.specs.Keys.{member_key, irr_key, router_key}
use Rattle.ixp_registry.specs.Lookups.{is_connected, is_member_connected}
use Rattle.ixp_registry.specs.Weight.{vlan_weight, list_length}
use Rattle.ixp_registry.specs.Words.{router_weight}
use Rattle.ixp_machine_edits.specs.Lists.{with_prefixes}
use Rattle.ixp_machine_edits.specs.Members.{with_status}
use Rattle.ixp_registry_change.specs.declared.change.TableChange.TheVariants.{Put}
use Rattle.ixp_machine_edits.proofs.Passing.{changed_there}
use Rattle.ixp_machine_refusals.specs.ByTable.{InPlace}

abbrev connected_row : Option Member → Bool
connected_row o = if_there o false (λ m. is_connected m.status)

-- whether a member is connected, by the row that is put in or taken out
pub connected_put : (m : Member) (ms : List Member) (n : ℕ)
    → is_member_connected (put member_key m ms) n ≡ (if m.number == n then is_connected m.status else is_member_connected ms n)
connected_put m ms n = by_test (m.number == n) refl where
  by_test : (b : Bool) → (m.number == n) ≡ b → is_member_connected (put member_key m ms) n ≡ (if b then is_connected m.status else is_member_connected ms n)
  by_test true h =
      let e : order (m.number ∷ []) (n ∷ []) ≡ Equal = subst (λ (k : ℕ). order (m.number ∷ []) (k ∷ []) ≡ Equal) (eqb-true m.number n h) (order_same (m.number ∷ [])) in
      ap connected_row (find-put-same-key member_key (n ∷ []) m ms e)
  by_test false h = ap connected_row (find-put-other member_key (n ∷ []) m ms (λ e. eqb-false m.number n h (head_same m.number n [] [] e)))

pub connected_gone : (member : ℕ) (ms : List Member) (n : ℕ)
    → is_member_connected (without member_key (member ∷ []) ms) n ≡ (if member == n then false else is_member_connected ms n)
connected_gone member ms n = by_test (member == n) refl where
  by_test : (b : Bool) → (member == n) ≡ b → is_member_connected (without member_key (member ∷ []) ms) n ≡ (if b then false else is_member_connected ms n)
  by_test true h =
      let e : order (n ∷ []) (member ∷ []) ≡ Equal = subst (λ (k : ℕ). order (k ∷ []) (member ∷ []) ≡ Equal) (eqb-true member n h) (order_same (member ∷ [])) in
      ap connected_row (find-without-same member_key (n ∷ []) (member ∷ []) ms e)
  by_test false h = ap connected_row (find-without-other member_key (n ∷ []) (member ∷ []) ms (λ e. eqb-false member n h (sym (head_same n member [] [] e))))

-- a member's status
pub connected_then : (member : ℕ) (to : Status) (m : Member) (ms : List Member) (n : ℕ) → find member_key (member ∷ []) ms ≡ Some m → is_member_connected (with_status member to ms) n ≡ (if member == n then is_connected to else is_member_connected ms n)
connected_then member to m ms n found =
    ap (λ ns. is_member_connected ns n) (changed_there member_key (member ∷ []) (λ x. record x { status = to }) ms m found)
    ∙ (connected_put (record m { status = to }) ms n
    ∙ ap (λ k. if k == n then is_connected to else is_member_connected ms n) (head_same m.number member [] [] (find-key member_key (member ∷ []) m ms found)))

-- keys of lists
one_key : (member n : ℕ) (f g : Family) → (member == n && same_family f g) ≡ true → order (member ∷ version_of f ∷ []) (n ∷ version_of g ∷ []) ≡ Equal
one_key member n f g h = by_test (member == n) refl f g h where
  by_test : (b : Bool) → (member == n) ≡ b → (f g : Family) → (b && same_family f g) ≡ true → order (member ∷ version_of f ∷ []) (n ∷ version_of g ∷ []) ≡ Equal
  by_test true e V4 V4 h = subst (λ (k : ℕ). order (member ∷ 4 ∷ []) (k ∷ 4 ∷ []) ≡ Equal) (eqb-true member n e) (order_same (member ∷ 4 ∷ []))
  by_test true e V4 V6 h = absurd (let bad : ⊥ = cc in bad)
  by_test true e V6 V4 h = absurd (let bad : ⊥ = cc in bad)
  by_test true e V6 V6 h = subst (λ (k : ℕ). order (member ∷ 6 ∷ []) (k ∷ 6 ∷ []) ≡ Equal) (eqb-true member n e) (order_same (member ∷ 6 ∷ []))
  by_test false e f g h = absurd (let bad : ⊥ = cc in bad)

other_key : (member n : ℕ) (f g : Family) → (member == n && same_family f g) ≡ false → order (member ∷ version_of f ∷ []) (n ∷ version_of g ∷ []) ≡ Equal → ⊥
other_key member n f g h e = by_test (member == n) refl f g h e where
  by_test : (b : Bool) → (member == n) ≡ b → (f g : Family) → (b && same_family f g) ≡ false → order (member ∷ version_of f ∷ []) (n ∷ version_of g ∷ []) ≡ Equal → ⊥
  by_test false d f g h e = eqb-false member n d (head_same member n (version_of f ∷ []) (version_of g ∷ []) e)
  by_test true d V4 V4 h e = let bad : ⊥ = cc in bad
  by_test true d V4 V6 h e = let four : 4 ≡ 6 = head_same 4 6 [] [] (tail_same member n (4 ∷ []) (6 ∷ []) e) in let bad : ⊥ = omega (arith, four) in bad
  by_test true d V6 V4 h e = let six : 6 ≡ 4 = head_same 6 4 [] [] (tail_same member n (6 ∷ []) (4 ∷ []) e) in let bad : ⊥ = omega (arith, six) in bad
  by_test true d V6 V6 h e = let bad : ⊥ = cc in bad

abbrev length_row : Option IrrList → ℕ
length_row o = if_there o 0 (λ l. length l.prefixes)

-- the length of a list, by the row that is put in or taken out
pub length_put : (l : IrrList) (ls : List IrrList) (n : ℕ) (f : Family)
    → list_length (put irr_key l ls) n f ≡ (if l.member == n && same_family l.family f then length l.prefixes else list_length ls n f)
length_put l ls n f = by_test (l.member == n && same_family l.family f) refl where
  by_test : (b : Bool) → (l.member == n && same_family l.family f) ≡ b → list_length (put irr_key l ls) n f ≡ (if b then length l.prefixes else list_length ls n f)
  by_test true h = ap length_row (find-put-same-key irr_key (n ∷ version_of f ∷ []) l ls (one_key l.member n l.family f h))
  by_test false h = ap length_row (find-put-other irr_key (n ∷ version_of f ∷ []) l ls (λ e. other_key l.member n l.family f h e))

pub length_gone : (member : ℕ) (family : Family) (ls : List IrrList) (n : ℕ) (f : Family)
    → list_length (without irr_key (member ∷ version_of family ∷ []) ls) n f ≡ (if member == n && same_family family f then 0 else list_length ls n f)
length_gone member family ls n f = by_test (member == n && same_family family f) refl where
  by_test : (b : Bool) → (member == n && same_family family f) ≡ b → list_length (without irr_key (member ∷ version_of family ∷ []) ls) n f ≡ (if b then 0 else list_length ls n f)
  by_test true h = ap length_row (find-without-same irr_key (n ∷ version_of f ∷ []) (member ∷ version_of family ∷ []) ls (turned (one_key member n family f h))) where
    turned : order (member ∷ version_of family ∷ []) (n ∷ version_of f ∷ []) ≡ Equal → order (n ∷ version_of f ∷ []) (member ∷ version_of family ∷ []) ≡ Equal
    turned e = subst (λ (k : List ℕ). order k (member ∷ version_of family ∷ []) ≡ Equal) (order_equal (member ∷ version_of family ∷ []) (n ∷ version_of f ∷ []) e) (order_same (member ∷ version_of family ∷ []))
  by_test false h = ap length_row (find-without-other irr_key (n ∷ version_of f ∷ []) (member ∷ version_of family ∷ []) ls (λ e. other_key member n family f h (back e))) where
    back : order (n ∷ version_of f ∷ []) (member ∷ version_of family ∷ []) ≡ Equal → order (member ∷ version_of family ∷ []) (n ∷ version_of f ∷ []) ≡ Equal
    back e = subst (λ (k : List ℕ). order k (n ∷ version_of f ∷ []) ≡ Equal) (order_equal (n ∷ version_of f ∷ []) (member ∷ version_of family ∷ []) e) (order_same (n ∷ version_of f ∷ []))

pub length_then : (member : ℕ) (family : Family) (ps : List Prefix) (ls : List IrrList) (n : ℕ) (f : Family) → list_length (with_prefixes member family ps ls) n f ≡ (if member == n && same_family family f then length ps else list_length ls n f)
length_then member family [] ls n f = length_gone member family ls n f
length_then member family (p ∷ ps) ls n f = length_put (record { member = member; family = family; prefixes = p ∷ ps }) ls n f

-- the routers of a VLAN
abbrev weigh : ℕ → Family → Router → ℕ
weigh vlan f q = if q.vlan == vlan && same_family q.family f then router_weight q else 0

pub routers_more : (q : Router) (qs : List Router) (vlan : ℕ) (f : Family) → Ascends router_key qs → find router_key q.handle qs ≡ None
    → vlan_weight (put router_key q qs) vlan f ≡ (if q.vlan == vlan && same_family q.family f then vlan_weight qs vlan f + router_weight q - 0 else vlan_weight qs vlan f)
routers_more q qs vlan f up new = by_test (q.vlan == vlan && same_family q.family f) refl where
  sum : total (weigh vlan f) (put router_key q qs) + 0 ≡ total (weigh vlan f) qs + weigh vlan f q
  sum = subst (λ (o : Option Router). total (weigh vlan f) (put router_key q qs) + if_there o 0 (weigh vlan f) ≡ total (weigh vlan f) qs + weigh vlan f q) new (total_put router_key (weigh vlan f) q qs up)

  by_test : (b : Bool) → (q.vlan == vlan && same_family q.family f) ≡ b → vlan_weight (put router_key q qs) vlan f ≡ (if b then vlan_weight qs vlan f + router_weight q - 0 else vlan_weight qs vlan f)
  by_test true h = let e : weigh vlan f q ≡ router_weight q = ap (λ b. if b then router_weight q else 0) h in omega (arith, sum, e)
  by_test false h = let e : weigh vlan f q ≡ 0 = ap (λ b. if b then router_weight q else 0) h in omega (arith, sum, e)

pub routers_set : (p q : Router) (qs : List Router) (vlan : ℕ) (f : Family) → Ascends router_key qs → find router_key q.handle qs ≡ Some p → p.vlan ≡ q.vlan → p.family ≡ q.family
    → vlan_weight (put router_key q qs) vlan f ≡ (if q.vlan == vlan && same_family q.family f then vlan_weight qs vlan f + router_weight q - router_weight p else vlan_weight qs vlan f)
routers_set p q qs vlan f up found same_vlan family = by_test (q.vlan == vlan && same_family q.family f) refl where
  sum : total (weigh vlan f) (put router_key q qs) + weigh vlan f p ≡ total (weigh vlan f) qs + weigh vlan f q
  sum = subst (λ (o : Option Router). total (weigh vlan f) (put router_key q qs) + if_there o 0 (weigh vlan f) ≡ total (weigh vlan f) qs + weigh vlan f q) found (total_put router_key (weigh vlan f) q qs up)

  alike : weigh vlan f p ≡ (if q.vlan == vlan && same_family q.family f then router_weight p else 0)
  alike = ap (λ n. if n == vlan && same_family p.family f then router_weight p else 0) same_vlan ∙ ap (λ g. if q.vlan == vlan && same_family g f then router_weight p else 0) family

  by_test : (b : Bool) → (q.vlan == vlan && same_family q.family f) ≡ b → vlan_weight (put router_key q qs) vlan f ≡ (if b then vlan_weight qs vlan f + router_weight q - router_weight p else vlan_weight qs vlan f)
  by_test true h =
      let e : weigh vlan f q ≡ router_weight q = ap (λ b. if b then router_weight q else 0) h in
      let d : weigh vlan f p ≡ router_weight p = alike ∙ ap (λ b. if b then router_weight p else 0) h in
      omega (arith, sum, e, d)
  by_test false h =
      let e : weigh vlan f q ≡ 0 = ap (λ b. if b then router_weight q else 0) h in
      let d : weigh vlan f p ≡ 0 = alike ∙ ap (λ b. if b then router_weight p else 0) h in
      omega (arith, sum, e, d)

pub routers_less : (p : Router) (handle : List ℕ) (qs : List Router) (vlan : ℕ) (f : Family) → Ascends router_key qs → find router_key handle qs ≡ Some p
    → vlan_weight (without router_key handle qs) vlan f ≡ (if p.vlan == vlan && same_family p.family f then vlan_weight qs vlan f + 0 - router_weight p else vlan_weight qs vlan f)
routers_less p handle qs vlan f up found = by_test (p.vlan == vlan && same_family p.family f) refl where
  sum : total (weigh vlan f) (without router_key handle qs) + weigh vlan f p ≡ total (weigh vlan f) qs
  sum = subst (λ (o : Option Router). total (weigh vlan f) (without router_key handle qs) + if_there o 0 (weigh vlan f) ≡ total (weigh vlan f) qs) found (total_without router_key (weigh vlan f) handle qs up)

  by_test : (b : Bool) → (p.vlan == vlan && same_family p.family f) ≡ b → vlan_weight (without router_key handle qs) vlan f ≡ (if b then vlan_weight qs vlan f + 0 - router_weight p else vlan_weight qs vlan f)
  by_test true h = let e : weigh vlan f p ≡ router_weight p = ap (λ b. if b then router_weight p else 0) h in omega (arith, sum, e)
  by_test false h = let e : weigh vlan f p ≡ 0 = ap (λ b. if b then router_weight p else 0) h in omega (arith, sum, e)

-- with a router's row that stays in its place
pub routers_put : (q : Router) (qs : List Router) (vlan : ℕ) (f : Family) → Ascends router_key qs → InPlace qs (Put q)
    → vlan_weight (put router_key q qs) vlan f ≡ (if q.vlan == vlan && same_family q.family f then vlan_weight qs vlan f + router_weight q - if_there (find router_key q.handle qs) 0 router_weight else vlan_weight qs vlan f)
routers_put q qs vlan f up place = by_row (find router_key q.handle qs) refl where
  by_row : (o : Option Router) → find router_key q.handle qs ≡ o
      → vlan_weight (put router_key q qs) vlan f ≡ (if q.vlan == vlan && same_family q.family f then vlan_weight qs vlan f + router_weight q - if_there o 0 router_weight else vlan_weight qs vlan f)
  by_row None e = routers_more q qs vlan f up e
  by_row (Some p) e = routers_set p q qs vlan f up e (place p e).0 (place p e).1
