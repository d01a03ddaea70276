-- Addresses of interfaces, and rows of lists.
use Rattle.std.proofs.Common.{◌≡◌, ◌≢◌, ℕ, ◌+◌, ◌≤◌, ◌<◌, ◌⊎◌, inl, inr, Bool, true, false, ◌==◌, not, List, [], ◌∷◌, ◌++◌, append_assoc, length, take, drop, map, flat_map, Option, Some, None, MatchOption, IsTrue, refl, sym, ap, ◌∙◌, subst, arith, add-one}
use Rattle.std.proofs.lemmas.Grind.{flat_map-append}
use Rattle.std.proofs.lemmas.List.{map-append, append-nil}
use Rattle.std.proofs.lemmas.Bool.{eqb-true, eq-eqb}
use Rattle.std.specs.List.{AllByRecursion}
use Rattle.std.specs.Option.{is_some}
use Rattle.std.specs.Ordering.{match_ordering}
use Rattle.std.specs.declared.cmp.Ordering.{Ordering}
use Rattle.std.specs.declared.cmp.Ordering.TheVariants.{Less, Equal, Greater}
use Rattle.ixp_num.specs.AddressForms.{version_of}
use Rattle.ixp_num.specs.declared.family.Family.{Family}
use Rattle.ixp_num.specs.declared.family.Family.TheVariants.{V4, V6}
use Rattle.ixp_num_tables.specs.Tables.{order, Ascends, find}
use Rattle.ixp_num_tables.proofs.FirstNumbers.{key_up}
use Rattle.ixp_num_tables.proofs.Orders.{order_same, order_equal, all_weaker}
use Rattle.ixp_num_tables.proofs.Places.{Ascends_behind}
use Rattle.ixp_num_tables.proofs.TableLaws.{find_past}
use Rattle.ixp_registry.specs.declared.network.IfAddr.{IfAddr}
use Rattle.ixp_registry.specs.declared.network.Interface.{Interface}
use Rattle.ixp_registry.specs.declared.network.InterfaceRow.{InterfaceRow}
use Rattle.ixp_registry.specs.declared.network.AddressRow.{AddressRow}
use Rattle.ixp_registry.specs.Keys.{address_key, interface_row_key, interface_key}
use Rattle.ixp_registry.specs.Registries.{bare, addresses_of, address_rows}
use Rattle.ixp_registry.specs.declared.rows.Rows.{Rows}
use Rattle.ixp_registry.specs.Places.{first}
use Rattle.ixp_registry.specs.Lines.{addresses_at}
use Rattle.ixp_registry.specs.Lookups.{has_interface}
use Rattle.ixp_registry.specs.Rules.{addresses_have_interfaces}
use Rattle.ixp_registry.proofs.Placing.{first_here, first_on}
use Rattle.ixp_rows_lines.proofs.Spelling.{none_some}
use Rattle.ixp_rows.specs.Gathering.{Misses}
use Rattle.ixp_registry_breach.proofs.Lists.{take_next}

-- Lists
pub all_more : {X : Type 0} (P : X → Type 0) (xs : List X) (x : X) → AllByRecursion P xs → P x → AllByRecursion P (xs ++ x ∷ [])
all_more P [] x all p = (p, tt)
all_more P (y ∷ xs) x all p = (all.0, all_more P xs x all.1 p)

pub all_behind : {X : Type 0} (P : X → Type 0) (xs ys : List X) → AllByRecursion P (xs ++ ys) → AllByRecursion P ys
all_behind P [] ys all = all
all_behind P (x ∷ xs) ys all = all_behind P xs ys all.1

pub all_joined : {X : Type 0} (P : X → Type 0) (xs ys : List X) → AllByRecursion P xs → AllByRecursion P ys → AllByRecursion P (xs ++ ys)
all_joined P [] ys here there = there
all_joined P (x ∷ xs) ys here there = (here.0, all_joined P xs ys here.1 there)

pub no_rows : {X : Type 0} (xs : List X) → length xs ≡ 0 → xs ≡ []
no_rows [] e = refl
no_rows (x ∷ xs) e = absurd (let h : ⊥ = omega arith in h)

pub run_step : {X : Type 0} (P : X → Type 0) (xs : List X) (i : ℕ) (x : X) (rest : List X) → x ∷ rest ≡ drop i xs → AllByRecursion P (take i xs) → P x → AllByRecursion P (take (i + 1) xs)
run_step P xs i x rest h all p = rw add-one (subst (AllByRecursion P) (sym (take_next xs i x rest h)) (all_more P (take i xs) x all p))

-- Keys of two numbers and more
first_up : (m n : ℕ) (a b : List ℕ) → order (m ∷ a) (n ∷ b) ≡ Less → m ≤ n
first_up m n a b e = by_cases (key_up m n a b e)
  where
    by_cases : (m < n) ⊎ ((m ≡ n) × (order a b ≡ Less)) → m ≤ n
    by_cases (inl lt) = omega arith
    by_cases (inr both) = let eq = both.0 in omega arith

-- Addresses
abbrev Above : ℕ → List AddressRow → Type 0
Above n rows = AllByRecursion (λ a. n < a.interface) rows

-- rows behind one above a number are above it
all_above : (n : ℕ) (b : AddressRow) (rest : List AddressRow) → n < b.interface → AllByRecursion (λ s. order (address_key b) (address_key s) ≡ Less) rest → Above n rest
all_above n b [] above up = tt
all_above n b (s ∷ rest) above up =
    let more = first_up b.interface s.interface (version_of b.address.addr.family ∷ []) (version_of s.address.addr.family ∷ []) up.0 in
    (omega arith, all_above n b rest above up.1)

-- rows behind the IPv6 address of an interface are other interfaces'
six_less : (f : Family) → order (6 ∷ []) (version_of f ∷ []) ≡ Less → ⊥
six_less V4 e = absurd (let h : ◌≡◌ {A = Ordering} Greater Less = e in cc)
six_less V6 e = absurd (let h : ◌≡◌ {A = Ordering} Equal Less = e in cc)

above_six : (n : ℕ) (b : AddressRow) (rest : List AddressRow) → b.interface ≡ n → b.address.addr.family ≡ V6 → AllByRecursion (λ s. order (address_key b) (address_key s) ≡ Less) rest → Above n rest
above_six n b [] at six up = tt
above_six n b (s ∷ rest) at six up = (by_cases (key_up b.interface s.interface (version_of b.address.addr.family ∷ []) (version_of s.address.addr.family ∷ []) up.0), above_six n b rest at six up.1)
  where
    by_cases : (b.interface < s.interface) ⊎ ((b.interface ≡ s.interface) × (order (version_of b.address.addr.family ∷ []) (version_of s.address.addr.family ∷ []) ≡ Less)) → n < s.interface
    by_cases (inl lt) = omega arith
    by_cases (inr both) = absurd (six_less s.address.addr.family (subst (λ f. order (version_of f ∷ []) (version_of s.address.addr.family ∷ []) ≡ Less) six both.1))

-- a row at or above a number is above it where it is neither of the interface's two addresses
above_both : (n : ℕ) (b : AddressRow) → n ≤ b.interface → (address_key b ≢ n ∷ 4 ∷ []) → (address_key b ≢ n ∷ 6 ∷ []) → (m : ℕ) → b.interface ≡ m → (f : Family) → b.address.addr.family ≡ f → (c : Bool) → (m == n) ≡ c → n < b.interface
above_both n b at four six m is V4 of true eq = absurd (four (let e = eqb-true m n eq in rw (is, of, e) refl))
above_both n b at four six m is V6 of true eq = absurd (six (let e = eqb-true m n eq in rw (is, of, e) refl))
above_both n b at four six m is f of false eq = by_tell (ne m n eq)
  where
    ne : (m n : ℕ) → (m == n) ≡ false → m ≢ n
    ne m n eq e = absurd (let t = eq-eqb m n e in let h : ◌≡◌ {A = Bool} true false = sym t ∙ eq in cc)

    by_tell : (m ≢ n) → n < b.interface
    by_tell apart = omega arith

above_first : (n : ℕ) (rows : List AddressRow) → Ascends address_key rows → AllByRecursion (λ a. n ≤ a.interface) rows → Misses n V4 rows → Misses n V6 rows → Above n rows
above_first n [] up at four six = tt
above_first n (b ∷ rest) up at four six =
    let above = above_both n b at.0 four six b.interface refl b.address.addr.family refl (b.interface == n) refl in
    (above, all_above n b rest above up.0)

-- behind the IPv4 address no other IPv4 address of the interface stands
four_apart : (n : ℕ) (b : AddressRow) (rest : List AddressRow) → b.interface ≡ n → b.address.addr.family ≡ V4 → AllByRecursion (λ s. order (address_key b) (address_key s) ≡ Less) rest → Misses n V4 rest
four_apart n b [] at four up = tt
four_apart n b (s ∷ rest) at four up = λ e.
    let h : order (address_key b) (n ∷ 4 ∷ []) ≡ Less = subst (λ k. order (address_key b) k ≡ Less) e up.0 in
    let same : address_key b ≡ n ∷ 4 ∷ [] = rw (at, four) refl in
    let i : order (n ∷ 4 ∷ []) (n ∷ 4 ∷ []) ≡ Less = subst (λ k. order k (n ∷ 4 ∷ []) ≡ Less) same h in
    let o = order_same (n ∷ 4 ∷ []) in
    absurd (let h : ◌≡◌ {A = Ordering} Equal Less = sym o ∙ i in cc)

pub addresses_behind : (n : ℕ) (before between after : List AddressRow) (v4 v6 : Option IfAddr) → before ≡ address_rows n v4 ++ between → between ≡ address_rows n v6 ++ after
    → MatchOption v4 (Misses n V4 between) (λ a. a.addr.family ≡ V4) → MatchOption v6 (Misses n V6 after) (λ a. a.addr.family ≡ V6)
    → Ascends address_key before → AllByRecursion (λ a. n ≤ a.interface) before → Above n after
addresses_behind n before between after v4 (Some six) at4 at6 is4 is6 up least =
    let from4 = Ascends_behind address_key (address_rows n v4) between (subst (Ascends address_key) at4 up) in
    let from6 = subst (Ascends address_key) at6 from4 in
    above_six n (record { interface = n; address = six }) after refl is6 from6.0
addresses_behind n before between after None None at4 at6 is4 is6 up least =
    let same : before ≡ after = at4 ∙ at6 in
    above_first n after (subst (Ascends address_key) same up) (subst (AllByRecursion (λ a. n ≤ a.interface)) same least) (subst (Misses n V4) at6 is4) is6
addresses_behind n before between after (Some four) None at4 at6 is4 is6 up least =
    let whole = subst (Ascends address_key) (at4 ∙ ap (λ t. record { interface = n; address = four } ∷ t) at6) up in
    let low = subst (AllByRecursion (λ a. n ≤ a.interface)) (at4 ∙ ap (λ t. record { interface = n; address = four } ∷ t) at6) least in
    above_first n after whole.1 low.1 (four_apart n (record { interface = n; address = four }) after refl is4 whole.0) is6

-- each address has its interface among the rows
abbrev pub AreThere : List InterfaceRow → List AddressRow → Type 0
AreThere rows addresses = AllByRecursion (λ a. IsTrue (is_some (find interface_row_key (a.interface ∷ []) rows))) addresses

pub none_there : (addresses : List AddressRow) → AreThere [] addresses → addresses ≡ []
none_there [] there = refl
none_there (a ∷ addresses) there = absurd (let h : ◌≡◌ {A = Bool} false true = there.0 in cc)

-- what is found isn't below the rows
found_above : (n m : ℕ) (rows : List InterfaceRow) → AllByRecursion (λ r. n ≤ r.number) rows → IsTrue (is_some (find interface_row_key (m ∷ []) rows)) → n ≤ m
found_above n m [] least there = absurd (let h : ◌≡◌ {A = Bool} false true = there in cc)
found_above n m (r ∷ rows) least there = by_order (λ more. found_above n m rows least.1 more) (order (interface_row_key r) (m ∷ [])) refl there
  where
    by_order : (IsTrue (is_some (find interface_row_key (m ∷ []) rows)) → n ≤ m) → (o : Ordering) → order (interface_row_key r) (m ∷ []) ≡ o
        → IsTrue (is_some (match_ordering o (find interface_row_key (m ∷ []) rows) (Some r) (find interface_row_key (m ∷ []) rows))) → n ≤ m
    by_order again Less e there = again there
    by_order again Equal e there = let same = order_equal (interface_row_key r) (m ∷ []) e in let is : r.number ≡ m = cc in let at = least.0 in omega arith
    by_order again Greater e there = again there

least_row : (row : InterfaceRow) (others : List InterfaceRow) → Ascends interface_row_key (row ∷ others) → AllByRecursion (λ r. row.number ≤ r.number) (row ∷ others)
least_row row others up = (omega arith, all_weaker (λ s. order (interface_row_key row) (interface_row_key s) ≡ Less) (λ r. row.number ≤ r.number) (λ r e. first_up row.number r.number [] [] e) others up.0)

pub none_below : (row : InterfaceRow) (others : List InterfaceRow) (addresses : List AddressRow) → Ascends interface_row_key (row ∷ others) → AreThere (row ∷ others) addresses → AllByRecursion (λ a. row.number ≤ a.interface) addresses
none_below row others addresses up there =
    all_weaker (λ a. IsTrue (is_some (find interface_row_key (a.interface ∷ []) (row ∷ others)))) (λ a. row.number ≤ a.interface)
    (λ a e. found_above row.number a.interface (row ∷ others) (least_row row others up) e) addresses there

-- addresses above a row have their interface behind it
pub there_behind : (row : InterfaceRow) (others : List InterfaceRow) (addresses : List AddressRow) → AreThere (row ∷ others) addresses → Above row.number addresses → AreThere others addresses
there_behind row others [] there above = tt
there_behind row others (a ∷ addresses) there above =
    let past = find_past interface_row_key (a.interface ∷ []) row others
    (λ equal. let same = order_equal (interface_row_key row) (a.interface ∷ []) equal in let is : row.number ≡ a.interface = cc in let at = above.0 in omega arith) in
    (subst (λ o. IsTrue (is_some o)) past there.0, there_behind row others addresses there.1 above.1)

pub bare_ascends : (is : List Interface) → Ascends interface_row_key (map bare is) → Ascends interface_key is
bare_ascends [] up = tt
bare_ascends (i ∷ is) up = (each is up.0, bare_ascends is up.1)
  where
    each : (js : List Interface) → AllByRecursion (λ s. order (interface_row_key (bare i)) (interface_row_key s) ≡ Less) (map bare js) → AllByRecursion (λ s. order (interface_key i) (interface_key s) ≡ Less) js
    each [] all = tt
    each (j ∷ js) all = (all.0, each js all.1)

pub interface_more : (is : List Interface) (i : Interface) (row : InterfaceRow) (others rows : List InterfaceRow) → map bare is ++ row ∷ others ≡ rows → bare i ≡ row → map bare (is ++ i ∷ []) ++ others ≡ rows
interface_more is i row others rows e same =
    ap (λ t. t ++ others) (map-append bare is (i ∷ [])) ∙ (append_assoc (map bare is) (bare i ∷ []) others ∙ (ap (λ r. map bare is ++ r ∷ others) same ∙ e))

pub addresses_moved : (is : List Interface) (i : Interface) (before after all : List AddressRow) → flat_map addresses_of is ++ before ≡ all → before ≡ addresses_of i ++ after → flat_map addresses_of (is ++ i ∷ []) ++ after ≡ all
addresses_moved is i before after all e taken =
    ap (λ t. t ++ after) (flat_map-append addresses_of is (i ∷ []) ∙ ap (λ t. flat_map addresses_of is ++ t) (append-nil (addresses_of i)))
    ∙ (append_assoc (flat_map addresses_of is) (addresses_of i) after ∙ (ap (λ t. flat_map addresses_of is ++ t) (sym taken) ∙ e))

-- rows of which none breaks a test
pub all_kept : {R : Type 0} (at : ℕ) (test : R → Bool) (rs : List R) → first at test rs ≡ None → AllByRecursion (λ r. test r ≡ false) rs
all_kept at test [] none = tt
all_kept at test (r ∷ rs) none = by_test (all_kept (at + 1) test rs) (test r) refl
  where
    by_test : (first (at + 1) test rs ≡ None → AllByRecursion (λ r. test r ≡ false) rs) → (b : Bool) → test r ≡ b → AllByRecursion (λ r. test r ≡ false) (r ∷ rs)
    by_test again true is = absurd (none_some at (sym none ∙ first_here at test r rs is))
    by_test again false is = (is, again (sym (first_on at test r rs is) ∙ none))

pub not_false : (b : Bool) → not b ≡ false → b ≡ true
not_false true e = refl
not_false false e = absurd cc

pub all_there : (w : Rows) → addresses_have_interfaces w ≡ None → AreThere w.interfaces w.addresses
all_there w none =
    all_weaker (λ a. not (has_interface w.interfaces a.interface) ≡ false) (λ a. IsTrue (has_interface w.interfaces a.interface)) (λ a e. not_false (has_interface w.interfaces a.interface) e) w.addresses
    (all_kept (addresses_at w) (λ a. not (has_interface w.interfaces a.interface)) w.addresses none)
