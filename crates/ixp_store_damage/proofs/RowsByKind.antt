-- Which rows of a state are of which kind.
use Rattle.std.proofs.Common.{◌≡◌, ◌≢◌, ℕ, ◌<◌, ◌≤◌, ◌==◌, Bool, true, false, cond, if◌then◌else◌, List, [], ◌∷◌, ◌++◌, append-nil, append_assoc, map, flat_map, refl, sym, ap, ◌∙◌, subst, arith}
use Rattle.std.specs.List.{AllByRecursion}
use Rattle.std.proofs.lemmas.Bool.{eqb-true, eq-eqb}
use Rattle.ixp_registry.specs.declared.kind.Kind.{Kind}
use Rattle.ixp_registry.specs.declared.kind.Kind.TheVariants.{Sites, Members, Contacts, Keys, Switches, Ports, Vlans, Interfaces, Addresses, Routers, Prefixes, Origins, Rules, Bogons, BogonAs, Transit, Roas}
use Rattle.ixp_registry.specs.declared.registry.Registry.{Registry}
use Rattle.ixp_registry.specs.Registries.{bare, addresses_of, rules_in}
use Rattle.ixp_registry.specs.Valid.{Valid}
use Rattle.ixp_rows_lines.specs.declared.version.Version.TheVariants.{Two}
use Rattle.ixp_rows_lines.specs.Lines.{place_of, member_line, contact_line, key_line, switch_line, port_line, vlan_line, interface_line, address_line, router_line, rule_line, bogon_line, bogon_as_line, transit_line, roa_line}
use Rattle.ixp_rows.specs.Printing.{all_kinds}
use Rattle.ixp_rows.proofs.LinesAgain.{place_some, place_most}
use Rattle.ixp_num_tables.proofs.AllItems.{all_true, all_joined, flat_all, mapped_all}
use Rattle.ixp_num_tables.proofs.Orders.{all_weaker}
use Rattle.ixp_machine_steps.specs.declared.kept.KeptOwner.{KeptOwner}
use Rattle.ixp_machine_steps.specs.declared.state.State.{State}
use Rattle.ixp_store_rows.specs.Names.{Entry, fields_row, line_row, irr_row, origins_row, floor_row, floor_rows, kept_row, kept_rows, version_row, count_row}
use Rattle.ixp_store_rows.specs.States.{address_rows, rule_rows, port_rows, interface_rows, list_rows, bogon_rows, origin_rows, registry_rows, stored_rows}
use Rattle.ixp_store_rows.proofs.NamesOnce.{flat_mapped, registry_within}
use Rattle.ixp_store_damage.specs.Loading.{kind_rows, kind_entries}

abbrev IsOf : ℕ → Entry → Type 0
IsOf k e = e.0.kind ≡ k

all_pass : (k : ℕ) (es : List Entry) → AllByRecursion (IsOf k) es → kind_rows k es ≡ es
all_pass k [] all = refl
all_pass k (e ∷ es) all = ap (λ b. cond b (e ∷ kind_rows k es) (kind_rows k es)) (eq-eqb e.0.kind k all.0) ∙ ap (λ l. e ∷ l) (all_pass k es all.1)

pub other_kind : (j k : ℕ) → j ≢ k → (j == k) ≡ false
other_kind j k apart = by_test (j == k) refl
  where
    by_test : (b : Bool) → (j == k) ≡ b → (j == k) ≡ false
    by_test false e = e
    by_test true e = absurd (apart (eqb-true j k e))

pub none_pass : (k : ℕ) (es : List Entry) → AllByRecursion (λ e. e.0.kind ≢ k) es → kind_rows k es ≡ []
none_pass k [] all = refl
none_pass k (e ∷ es) all = ap (λ b. cond b (e ∷ kind_rows k es) (kind_rows k es)) (other_kind e.0.kind k all.0) ∙ none_pass k es all.1

rows_joined : (k : ℕ) (xs ys : List Entry) → kind_rows k (xs ++ ys) ≡ kind_rows k xs ++ kind_rows k ys
rows_joined k [] ys = refl
rows_joined k (x ∷ xs) ys = by_test (x.0.kind == k) (rows_joined k xs ys)
  where
    by_test : (b : Bool) → kind_rows k (xs ++ ys) ≡ kind_rows k xs ++ kind_rows k ys → cond b (x ∷ kind_rows k (xs ++ ys)) (kind_rows k (xs ++ ys)) ≡ cond b (x ∷ kind_rows k xs) (kind_rows k xs) ++ kind_rows k ys
    by_test true e = ap (λ l. x ∷ l) e
    by_test false e = e

mapped : {X : Type 0} (k : ℕ) (row : X → Entry) → ((x : X) → (row x).0.kind ≡ k) → (xs : List X) → AllByRecursion (IsOf k) (map row xs)
mapped k row is [] = tt
mapped k row is (x ∷ xs) = (is x, mapped k row is xs)

map_map : {X Y Z : Type 0} (f : Y → Z) (g : X → Y) (xs : List X) → map (λ x. f (g x)) xs ≡ map f (map g xs)
map_map f g [] = refl
map_map f g (x ∷ xs) = ap (λ l. f (g x) ∷ l) (map_map f g xs)

map_joined : {X Y : Type 0} (f : X → Y) (xs ys : List X) → map f (xs ++ ys) ≡ map f xs ++ map f ys
map_joined f [] ys = refl
map_joined f (x ∷ xs) ys = ap (λ l. f x ∷ l) (map_joined f xs ys)

three : (a b c d : List Entry) → (a ++ (b ++ c)) ++ d ≡ a ++ (b ++ (c ++ d))
three a b c d = append_assoc a (b ++ c) d ∙ ap (λ t. a ++ t) (append_assoc b c d)

module _ (r : Registry) where
  kinds_are : (kind : Kind) → AllByRecursion (IsOf (place_of kind)) (kind_entries r kind)
  unfolding fields_row
  kinds_are Sites = (refl, tt)
  kinds_are Members = mapped 2 (λ m. line_row (member_line m)) (λ m. refl) r.members
  kinds_are Contacts = mapped 3 (λ c. line_row (contact_line c)) (λ c. refl) r.contacts
  kinds_are Keys = mapped 4 (λ k. line_row (key_line k)) (λ k. refl) r.keys
  kinds_are Switches = mapped 5 (λ s. line_row (switch_line s)) (λ s. refl) r.switches
  kinds_are Ports = mapped 6 (λ p. line_row (port_line p)) (λ p. refl) r.ports
  kinds_are Vlans = mapped 7 (λ x. line_row (vlan_line x)) (λ x. refl) r.vlans
  kinds_are Interfaces = mapped 8 (λ i. line_row (interface_line i)) (λ i. refl) (map bare r.interfaces)
  kinds_are Addresses = mapped 9 (λ a. line_row (address_line a)) (λ a. refl) (flat_map addresses_of r.interfaces)
  kinds_are Routers = mapped 10 (λ q. line_row (router_line Two q)) (λ q. refl) r.routers
  kinds_are Prefixes = mapped 11 irr_row (λ l. refl) r.irr
  kinds_are Origins = mapped 12 origins_row (λ l. refl) r.origins
  kinds_are Rules = mapped 13 (λ x. line_row (rule_line x)) (λ x. refl) (flat_map rules_in r.rules)
  kinds_are Bogons = mapped 14 (λ b. line_row (bogon_line b)) (λ b. refl) r.public.bogons
  kinds_are BogonAs = mapped 15 (λ b. line_row (bogon_as_line b)) (λ b. refl) r.public.bogon_as
  kinds_are Transit = mapped 16 (λ a. line_row (transit_line a)) (λ a. refl) r.public.transit
  kinds_are Roas = mapped 17 (λ x. line_row (roa_line x)) (λ x. refl) r.public.roas

  abbrev pub of_kind : Kind → Kind → List Entry
  of_kind kind k = if place_of k == place_of kind then kind_entries r k else []

  one_kind : (kind k : Kind) → kind_rows (place_of kind) (kind_entries r k) ≡ of_kind kind k
  one_kind kind k = by_test (place_of k == place_of kind) refl
    where
      by_test : (b : Bool) → (place_of k == place_of kind) ≡ b → kind_rows (place_of kind) (kind_entries r k) ≡ (if b then kind_entries r k else [])
      by_test true e = all_pass (place_of kind) (kind_entries r k) (subst (λ n. AllByRecursion (IsOf n) (kind_entries r k)) (eqb-true (place_of k) (place_of kind) e) (kinds_are k))
      by_test false e =
          none_pass (place_of kind) (kind_entries r k)
          (all_weaker (IsOf (place_of k)) (λ x. x.0.kind ≢ place_of kind) (λ x is other. absurd (let bad : false ≡ true = sym e ∙ eq-eqb (place_of k) (place_of kind) (sym is ∙ other) in cc)) (kind_entries r k) (kinds_are k))

  pub by_kinds : (kind : Kind) (kinds : List Kind) → kind_rows (place_of kind) (flat_map (kind_entries r) kinds) ≡ flat_map (of_kind kind) kinds
  by_kinds kind [] = refl
  by_kinds kind (k ∷ ks) =
      rows_joined (place_of kind) (kind_entries r k) (flat_map (kind_entries r) ks)
      ∙ (ap (λ t. t ++ kind_rows (place_of kind) (flat_map (kind_entries r) ks)) (one_kind kind k) ∙ ap (λ t. of_kind kind k ++ t) (by_kinds kind ks))

  pub picked : (kind : Kind) → flat_map (of_kind kind) all_kinds ≡ kind_entries r kind
  picked Sites = append-nil (kind_entries r Sites)
  picked kind = append-nil (kind_entries r kind)

  abbrev K : Kind → List Entry
  K kind = kind_entries r kind

  -- the rows of a registry are those of its kinds
  pub all_rows : registry_rows r ≡ flat_map (kind_entries r) all_kinds
  all_rows =
      let public : origin_rows r.public ≡ K Transit ++ (K Roas ++ []) = ap (λ t. K Transit ++ t) (sym (append-nil (K Roas))) in
      let bogons : bogon_rows r.public ++ origin_rows r.public ≡ K Bogons ++ (K BogonAs ++ (K Transit ++ (K Roas ++ []))) =
      append_assoc (K Bogons) (K BogonAs) (origin_rows r.public) ∙ ap (λ t. K Bogons ++ (K BogonAs ++ t)) public in
      let rules : flat_map rule_rows r.rules ≡ K Rules = flat_mapped (λ x. line_row (rule_line x)) rules_in r.rules in
      let lists : list_rows r ++ (bogon_rows r.public ++ origin_rows r.public) ≡ K Prefixes ++ (K Origins ++ (K Rules ++ (bogon_rows r.public ++ origin_rows r.public))) =
      three (K Prefixes) (K Origins) (flat_map rule_rows r.rules) (bogon_rows r.public ++ origin_rows r.public)
      ∙ ap (λ t. K Prefixes ++ (K Origins ++ (t ++ (bogon_rows r.public ++ origin_rows r.public)))) rules in
      let bares : map (λ i. line_row (interface_line (bare i))) r.interfaces ≡ K Interfaces = map_map (λ i. line_row (interface_line i)) bare r.interfaces in
      let addresses : flat_map address_rows r.interfaces ≡ K Addresses = flat_mapped (λ a. line_row (address_line a)) addresses_of r.interfaces in
      let behind : List Entry = list_rows r ++ (bogon_rows r.public ++ origin_rows r.public) in
      let interfaces : interface_rows r ++ behind ≡ K Interfaces ++ (K Addresses ++ (K Routers ++ behind)) =
      ap (λ t. (t ++ (flat_map address_rows r.interfaces ++ K Routers)) ++ behind) bares
      ∙ (ap (λ t. (K Interfaces ++ (t ++ K Routers)) ++ behind) addresses ∙ three (K Interfaces) (K Addresses) (K Routers) behind) in
      three (K Sites ++ K Members) (K Contacts) (K Keys) (port_rows r ++ (interface_rows r ++ behind))
      ∙ ap (λ t. (K Sites ++ K Members) ++ (K Contacts ++ (K Keys ++ t)))
      (three (K Switches) (K Ports) (K Vlans) (interface_rows r ++ behind)
      ∙ ap (λ t. K Switches ++ (K Ports ++ (K Vlans ++ t)))
      (interfaces ∙ ap (λ t. K Interfaces ++ (K Addresses ++ (K Routers ++ t))) (lists ∙ ap (λ t. K Prefixes ++ (K Origins ++ (K Rules ++ t))) bogons)))

-- rows that are no registry's
floor_late : (o : KeptOwner) → AllByRecursion (λ e. 18 ≤ e.0.kind) (floor_rows o)
floor_late o = by_floor (o.floor == 0)
  where
    by_floor : (b : Bool) → AllByRecursion (λ e. 18 ≤ e.0.kind) (if b then [] else floor_row o ∷ [])
    by_floor true = tt
    by_floor false = (omega arith, tt)

kept_late : (o : KeptOwner) → AllByRecursion (λ e. 18 ≤ e.0.kind) (kept_rows o)
kept_late o = mapped_all (λ e. 18 ≤ e.0.kind) (kept_row o.owner) o.numbers (all_true (λ k. 18 ≤ (kept_row o.owner k).0.kind) (λ k. omega arith) o.numbers)

abbrev behind_registry : State → List Entry
behind_registry s = flat_map floor_rows s.kept ++ (flat_map kept_rows s.kept ++ count_row s.accepted ∷ [])

behind_late : (s : State) → AllByRecursion (λ e. 18 ≤ e.0.kind) (behind_registry s)
behind_late s =
    all_joined (λ e. 18 ≤ e.0.kind) (flat_map floor_rows s.kept) _ (flat_all (λ e. 18 ≤ e.0.kind) floor_rows s.kept (all_true (λ o. AllByRecursion (λ e. 18 ≤ e.0.kind) (floor_rows o)) floor_late s.kept))
    (all_joined (λ e. 18 ≤ e.0.kind) (flat_map kept_rows s.kept) (count_row s.accepted ∷ []) (flat_all (λ e. 18 ≤ e.0.kind) kept_rows s.kept (all_true (λ o. AllByRecursion (λ e. 18 ≤ e.0.kind) (kept_rows o)) kept_late s.kept)) (omega arith, tt))

-- the rows of a state of a kind of lines are those of its registry
pub rows_of_kind : (s : State) (kind : Kind) → kind_rows (place_of kind) (stored_rows s) ≡ kind_entries s.registry kind
rows_of_kind s kind =
    let some = place_some kind in
    let most = place_most kind in
    let none : kind_rows (place_of kind) (behind_registry s) ≡ [] =
    none_pass (place_of kind) (behind_registry s) (all_weaker (λ e. 18 ≤ e.0.kind) (λ e. e.0.kind ≢ place_of kind) (λ e late is. omega (arith, late, is, most)) (behind_registry s) (behind_late s)) in
    rows_joined (place_of kind) (version_row ∷ []) (registry_rows s.registry ++ behind_registry s)
    ∙ (ap (λ t. t ++ kind_rows (place_of kind) (registry_rows s.registry ++ behind_registry s)) (none_pass (place_of kind) (version_row ∷ []) ((λ is. omega (arith, some, is)), tt))
    ∙ (rows_joined (place_of kind) (registry_rows s.registry) (behind_registry s)
    ∙ (ap (λ t. kind_rows (place_of kind) (registry_rows s.registry) ++ t) none
    ∙ (append-nil (kind_rows (place_of kind) (registry_rows s.registry))
    ∙ (ap (kind_rows (place_of kind)) (all_rows s.registry) ∙ (by_kinds s.registry kind all_kinds ∙ picked s.registry kind))))))

-- there is one row of the last kind
floor_below : (o : KeptOwner) → AllByRecursion (λ e. e.0.kind ≢ 20) (floor_rows o)
floor_below o = by_floor (o.floor == 0)
  where
    by_floor : (b : Bool) → AllByRecursion (λ e. e.0.kind ≢ 20) (if b then [] else floor_row o ∷ [])
    by_floor true = tt
    by_floor false = ((λ is. omega (arith, is)), tt)

kept_below : (o : KeptOwner) → AllByRecursion (λ e. e.0.kind ≢ 20) (kept_rows o)
kept_below o = mapped_all (λ e. e.0.kind ≢ 20) (kept_row o.owner) o.numbers (all_true (λ k. (kept_row o.owner k).0.kind ≢ 20) (λ k is. omega (arith, is)) o.numbers)

pub count_alone : (s : State) → Valid s.registry → kind_rows 20 (stored_rows s) ≡ count_row s.accepted ∷ []
count_alone s v =
    let last : List Entry = count_row s.accepted ∷ [] in
    let registry : AllByRecursion (λ e. e.0.kind ≢ 20) (registry_rows s.registry) =
    all_weaker (λ e. e.0.kind < 18) (λ e. e.0.kind ≢ 20) (λ e less is. omega (arith, less, is)) (registry_rows s.registry) (registry_within s.registry v).below in
    let floors : AllByRecursion (λ e. e.0.kind ≢ 20) (flat_map floor_rows s.kept) = flat_all (λ e. e.0.kind ≢ 20) floor_rows s.kept (all_true (λ o. AllByRecursion (λ e. e.0.kind ≢ 20) (floor_rows o)) floor_below s.kept) in
    let kept : AllByRecursion (λ e. e.0.kind ≢ 20) (flat_map kept_rows s.kept) = flat_all (λ e. e.0.kind ≢ 20) kept_rows s.kept (all_true (λ o. AllByRecursion (λ e. e.0.kind ≢ 20) (kept_rows o)) kept_below s.kept) in
    let front : List Entry = version_row ∷ (registry_rows s.registry ++ (flat_map floor_rows s.kept ++ flat_map kept_rows s.kept)) in
    let none : kind_rows 20 front ≡ [] =
    none_pass 20 front ((λ is. omega (arith, is)), all_joined (λ e. e.0.kind ≢ 20) (registry_rows s.registry) _ registry (all_joined (λ e. e.0.kind ≢ 20) (flat_map floor_rows s.kept) (flat_map kept_rows s.kept) floors kept)) in
    let parts : stored_rows s ≡ front ++ last = ap (λ t. version_row ∷ t) (sym (three (registry_rows s.registry) (flat_map floor_rows s.kept) (flat_map kept_rows s.kept) last)) in
    ap (kind_rows 20) parts ∙ (rows_joined 20 front last ∙ ap (λ t. t ++ last) none)
