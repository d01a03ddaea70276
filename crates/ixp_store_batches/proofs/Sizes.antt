-- How many changes a batch has.
use Rattle.std.proofs.Common.{◌≡◌, ℕ, ◌+◌, ◌≤◌, nat_lt, ◌==◌, Bool, true, false, List, [], ◌∷◌, ◌++◌, length, map, Option, Some, None, refl, sym, ap, subst, ◌∙◌, arith, if◌then◌else◌, length-append}
use Rattle.std.proofs.lemmas.List.{length-map}
use Rattle.ixp_io.specs.declared.keeper.Change.{Change}
use Rattle.ixp_num.specs.AddressForms.{version_of}
use Rattle.ixp_registry.specs.declared.network.IfAddr.{IfAddr}
use Rattle.ixp_registry.specs.declared.network.Interface.{Interface}
use Rattle.ixp_registry.specs.declared.registry.Registry.{Registry}
use Rattle.ixp_registry.specs.declared.rules.RuleList.{RuleList}
use Rattle.ixp_registry.specs.Keys.{member_key, contact_key, api_key_key, switch_key, port_key, vlan_key, interface_key, router_key, irr_key, origins_key, rules_key}
use Rattle.ixp_registry.specs.Registries.{address_rows, addresses_of}
use Rattle.ixp_registry_change.specs.declared.change.RegistryChange.{RegistryChange}
use Rattle.ixp_registry_change.specs.declared.change.RegistryChange.TheVariants as of
use Rattle.ixp_rows_lines.specs.declared.version.Version.TheVariants.{Two}
use Rattle.ixp_rows_lines.specs.Lines.{member_line, contact_line, key_line, switch_line, port_line, vlan_line, router_line, rule_line, address_line}
use Rattle.ixp_machine_steps.specs.declared.kept.KeptNumber.{KeptNumber}
use Rattle.ixp_machine_steps.specs.declared.kept.KeptOwner.{KeptOwner}
use Rattle.ixp_machine_steps.specs.declared.state.State.{State}
use Rattle.ixp_machine_steps.specs.Kept.{kept_of}
use Rattle.ixp_machine.specs.declared.preparing.Prepared.{Prepared}
use Rattle.ixp_store_rows.specs.Names.{Entry, line_row, irr_row, origins_row, floor_row, floor_rows, kept_row, count_row}
use Rattle.ixp_store_rows.specs.States.{rule_rows, drop_row, set_row}
use Rattle.ixp_store_batches.specs.Batches.{old_row, new_row, entries_of, interface_entries, old_public, new_public, old_entries, new_entries, gone_among, added_among, gone_numbers, added_numbers, raised_above, old_floor, new_floor, old_rows, new_rows, batch, rules_in, rows_about, IsShort}

-- a row of most tables is one row of a store
one_row : {R : Type 0} (g : R → Entry) (o : Option R) → length (entries_of (λ x. g x ∷ []) o) ≤ 1
one_row g None = omega arith
one_row g (Some x) = omega arith

two_rows : {R : Type 0} (g : R → Entry) (o n : Option R) → length (entries_of (λ x. g x ∷ []) o) + length (entries_of (λ x. g x ∷ []) n) ≤ 2
two_rows g o n = omega (arith, one_row g o, one_row g n)

-- an interface is three at most
addresses_are_one : (n : ℕ) (a : Option IfAddr) → length (address_rows n a) ≤ 1
addresses_are_one n None = omega arith
addresses_are_one n (Some a) = omega arith

interface_is_three : (i : Interface) → length (interface_entries i) ≤ 3
interface_is_three i =
    omega (
      arith,
      length-map (addresses_of i) (λ a. line_row (address_line a)),
      length-append (address_rows i.number i.v4) (address_rows i.number i.v6),
      addresses_are_one i.number i.v4,
      addresses_are_one i.number i.v6,
    )

three_rows : (o : Option Interface) → length (entries_of interface_entries o) ≤ 3
three_rows None = omega arith
three_rows (Some i) = interface_is_three i

-- rules are as many as there are
rows_of_rules : (o : Option RuleList) → length (entries_of rule_rows o) ≡ rules_in o
rows_of_rules None = refl
rows_of_rules (Some l) = length-map l.rules (λ x. line_row (rule_line x))

-- the rows of a change
rows_of_change : (r : Registry) (c : RegistryChange) → length (old_entries r c) + length (new_entries c) ≤ rows_about r c
rows_of_change r (of.Members c) = two_rows (λ x. line_row (member_line x)) (old_row member_key (λ k. k ∷ []) c r.members) (new_row c)
rows_of_change r (of.Contacts c) = two_rows (λ x. line_row (contact_line x)) (old_row contact_key (λ k. k.0 ∷ k.1 ∷ []) c r.contacts) (new_row c)
rows_of_change r (of.Keys c) = two_rows (λ x. line_row (key_line x)) (old_row api_key_key (λ k. k ∷ []) c r.keys) (new_row c)
rows_of_change r (of.Switches c) = two_rows (λ x. line_row (switch_line x)) (old_row switch_key (λ k. k ∷ []) c r.switches) (new_row c)
rows_of_change r (of.Ports c) = two_rows (λ x. line_row (port_line x)) (old_row port_key (λ k. k ∷ []) c r.ports) (new_row c)
rows_of_change r (of.Vlans c) = two_rows (λ x. line_row (vlan_line x)) (old_row vlan_key (λ k. k ∷ []) c r.vlans) (new_row c)
rows_of_change r (of.Interfaces c) = omega (arith, three_rows (old_row interface_key (λ k. k ∷ []) c r.interfaces), three_rows (new_row c))
rows_of_change r (of.Routers c) = two_rows (λ x. line_row (router_line Two x)) (old_row router_key (λ k. k) c r.routers) (new_row c)
rows_of_change r (of.Irr c) = two_rows irr_row (old_row irr_key (λ k. k.0 ∷ version_of k.1 ∷ []) c r.irr) (new_row c)
rows_of_change r (of.Origins c) = two_rows origins_row (old_row origins_key (λ k. k.0 ∷ version_of k.1 ∷ []) c r.origins) (new_row c)
rows_of_change r (of.Rules c) = omega (arith, rows_of_rules (old_row rules_key (λ k. k ∷ []) c r.rules), rows_of_rules (new_row c))
rows_of_change r (of.Public list) = omega arith

-- what is kept of requests: one number goes at most, one comes, and the floor is one row
floor_is_one : (o : KeptOwner) → length (floor_rows o) ≤ 1
floor_is_one o = by_bool (o.floor == 0)
  where
    by_bool : (b : Bool) → length (if b then [] else floor_row o ∷ []) ≤ 1
    by_bool true = omega arith
    by_bool false = omega arith

at_most : {A : Type 0} (b : Bool) (xs ys : List A) → length xs ≤ 1 → length ys ≤ 1 → length (if b then xs else ys) ≤ 1
at_most true xs ys few few' = few
at_most false xs ys few few' = few'

gone_is_one : (k : KeptNumber) (o : KeptOwner) → length (gone_numbers k o) ≤ 1
gone_is_one k o = at_most (nat_lt (length o.numbers) 1024) [] (gone_among k o.numbers) (omega arith) (among o.numbers)
  where
    among : (xs : List KeptNumber) → length (gone_among k xs) ≤ 1
    among [] = omega arith
    among (x ∷ xs) = at_most (nat_lt x.number k.number) (x ∷ []) [] (omega arith) (omega arith)

added_is_one : (k : KeptNumber) (o : KeptOwner) → length (added_numbers k o) ≤ 1
added_is_one k o = at_most (nat_lt (length o.numbers) 1024) (k ∷ []) (added_among k o.numbers) (omega arith) (among o.numbers)
  where
    among : (xs : List KeptNumber) → length (added_among k xs) ≤ 1
    among [] = omega arith
    among (x ∷ xs) = at_most (nat_lt x.number k.number) (k ∷ []) [] (omega arith) (omega arith)

old_floor_is_one : (k : KeptNumber) (o : KeptOwner) → length (old_floor k o) ≤ 1
old_floor_is_one k o = at_most (nat_lt (length o.numbers) 1024) [] (floor_rows o) (omega arith) (floor_is_one o)

new_floor_is_one : (k : KeptNumber) (o : KeptOwner) → length (new_floor k o) ≤ 1
new_floor_is_one k o = at_most (nat_lt (length o.numbers) 1024) [] (raised_above k o o.numbers) (omega arith) (raised o.numbers)
  where
    raised : (xs : List KeptNumber) → length (raised_above k o xs) ≤ 1
    raised [] = omega arith
    raised (x ∷ xs) = omega arith

-- four lists of rows, one after the other
four : (rs fs : List Entry) (xs : List KeptNumber) (g : KeptNumber → Entry) (e : Entry) → length (rs ++ (fs ++ (map g xs ++ e ∷ []))) ≡ length rs + (length fs + (length xs + 1))
four rs fs xs g e =
    omega (arith, length-append rs (fs ++ (map g xs ++ e ∷ [])), length-append fs (map g xs ++ e ∷ []), length-append (map g xs) (e ∷ []), length-map xs g)

-- a batch has no more changes than the rows that its request is about, and six
pub batch_is_short : (s : State) (p : Prepared) (cs : List Change) → cs ≡ batch s p → IsShort s p cs
batch_is_short s p cs is =
    let o : KeptOwner = kept_of s.kept p.owner in
    let whole : length cs ≡ length (batch s p) = ap length is in
    omega (
      arith,
      whole,
      length-append (map drop_row (old_rows s p)) (map set_row (new_rows s p)),
      length-map (old_rows s p) drop_row,
      length-map (new_rows s p) set_row,
      four (old_entries s.registry p.change) (old_floor p.kept o) (gone_numbers p.kept o) (kept_row p.owner) (count_row s.accepted),
      four (new_entries p.change) (new_floor p.kept o) (added_numbers p.kept o) (kept_row p.owner) (count_row (s.accepted + 1)),
      rows_of_change s.registry p.change,
      old_floor_is_one p.kept o,
      new_floor_is_one p.kept o,
      gone_is_one p.kept o,
      added_is_one p.kept o,
    )
