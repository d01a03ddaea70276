-- Which rows a store has to drop and to set when a request is accepted.
use Rattle.std.specs.Prelude.{◌+◌, ◌≤◌, ℕ, nat_lt, List, [], ◌∷◌, ◌++◌, length, map, decimal, Option, Some, None, if◌then◌else◌}
use Rattle.ixp_io.specs.declared.keeper.Change.{Change}
use Rattle.ixp_num.specs.AddressForms.{version_of}
use Rattle.ixp_num_tables.specs.Tables.{find, if_there}
use Rattle.ixp_registry.specs.declared.lists.PublicLists.{PublicLists}
use Rattle.ixp_registry.specs.declared.network.Interface.{Interface}
use Rattle.ixp_registry.specs.declared.registry.Registry.{Registry}
use Rattle.ixp_registry.specs.declared.rules.RuleList.{RuleList}
use Rattle.ixp_registry.specs.Keys.{member_key, contact_key, api_key_key, switch_key, port_key, vlan_key, interface_key, router_key, irr_key, origins_key, rules_key}
use Rattle.ixp_registry.specs.Registries.{bare}
use Rattle.ixp_registry_change.specs.declared.change.PublicList.{PublicList}
use Rattle.ixp_registry_change.specs.declared.change.PublicList.TheVariants as list
use Rattle.ixp_registry_change.specs.declared.change.TableChange.{TableChange}
use Rattle.ixp_registry_change.specs.declared.change.TableChange.TheVariants.{Keep, Put, Take}
use Rattle.ixp_registry_change.specs.declared.change.RegistryChange.{RegistryChange}
use Rattle.ixp_registry_change.specs.declared.change.RegistryChange.TheVariants as of
use Rattle.ixp_rows_lines.specs.declared.version.Version.TheVariants.{Two}
use Rattle.ixp_rows_lines.specs.Lines.{member_line, contact_line, key_line, switch_line, port_line, vlan_line, interface_line, router_line, bogon_line, bogon_as_line, transit_line, roa_line}
use Rattle.ixp_machine_steps.specs.declared.kept.KeptNumber.{KeptNumber}
use Rattle.ixp_machine_steps.specs.declared.kept.KeptOwner.{KeptOwner}
use Rattle.ixp_machine_steps.specs.declared.state.State.{State}
use Rattle.ixp_machine_steps.specs.Kept.{kept_of}
use Rattle.ixp_machine.specs.declared.preparing.Prepared.{Prepared}
use Rattle.ixp_store_rows.specs.Names.{Entry, line_row, irr_row, origins_row, floor_name, floor_rows, kept_row, count_row}
use Rattle.ixp_store_rows.specs.States.{address_rows, rule_rows, drop_row, set_row}

-- the row that a change of a table replaces or takes out, and the one that it puts in
abbrev pub old_row : {R K : Type 0} → (R → List ℕ) → (K → List ℕ) → TableChange R K → List R → Option R
old_row key named Keep rs = None
old_row key named (Put r) rs = find key (key r) rs
old_row key named (Take k) rs = find key (named k) rs

abbrev pub new_row : {R K : Type 0} → TableChange R K → Option R
new_row Keep = None
new_row (Put r) = Some r
new_row (Take k) = None

abbrev pub entries_of : {R : Type 0} → (R → List Entry) → Option R → List Entry
entries_of entries o = if_there o [] entries

-- what a store has of an interface: its own row, and one for each of its addresses
abbrev pub interface_entries : Interface → List Entry
interface_entries i = line_row (interface_line (bare i)) ∷ address_rows i

-- the rows of the public list that another list of its kind replaces, and those of this one
abbrev pub old_public : PublicLists → PublicList → List Entry
old_public p (list.Bogons xs) = map (λ x. line_row (bogon_line x)) p.bogons
old_public p (list.BogonAs xs) = map (λ x. line_row (bogon_as_line x)) p.bogon_as
old_public p (list.Transit xs) = map (λ x. line_row (transit_line x)) p.transit
old_public p (list.Roas xs) = map (λ x. line_row (roa_line x)) p.roas

abbrev pub new_public : PublicList → List Entry
new_public (list.Bogons xs) = map (λ x. line_row (bogon_line x)) xs
new_public (list.BogonAs xs) = map (λ x. line_row (bogon_as_line x)) xs
new_public (list.Transit xs) = map (λ x. line_row (transit_line x)) xs
new_public (list.Roas xs) = map (λ x. line_row (roa_line x)) xs

-- the rows of what a change of a registry replaces or takes out
abbrev pub old_entries : Registry → RegistryChange → List Entry
old_entries r (of.Members c) =
    entries_of (λ x. line_row (member_line x) ∷ []) (old_row member_key (λ k. k ∷ []) c r.members)
old_entries r (of.Contacts c) =
    entries_of (λ x. line_row (contact_line x) ∷ []) (old_row contact_key (λ k. k.0 ∷ k.1 ∷ []) c r.contacts)
old_entries r (of.Keys c) = entries_of (λ x. line_row (key_line x) ∷ [])
    (old_row api_key_key (λ k. k ∷ []) c r.keys)
old_entries r (of.Switches c) =
    entries_of (λ x. line_row (switch_line x) ∷ []) (old_row switch_key (λ k. k ∷ []) c r.switches)
old_entries r (of.Ports c) =
    entries_of (λ x. line_row (port_line x) ∷ []) (old_row port_key (λ k. k ∷ []) c r.ports)
old_entries r (of.Vlans c) =
    entries_of (λ x. line_row (vlan_line x) ∷ []) (old_row vlan_key (λ k. k ∷ []) c r.vlans)
old_entries r (of.Interfaces c) =
    entries_of interface_entries (old_row interface_key (λ k. k ∷ []) c r.interfaces)
old_entries r (of.Routers c) =
    entries_of (λ x. line_row (router_line Two x) ∷ []) (old_row router_key (λ k. k) c r.routers)
old_entries r (of.Irr c) = entries_of (λ x. irr_row x ∷ [])
    (old_row irr_key (λ k. k.0 ∷ version_of k.1 ∷ []) c r.irr)
old_entries r (of.Origins c) =
    entries_of (λ x. origins_row x ∷ []) (old_row origins_key (λ k. k.0 ∷ version_of k.1 ∷ []) c r.origins)
old_entries r (of.Rules c) = entries_of rule_rows (old_row rules_key (λ k. k ∷ []) c r.rules)
old_entries r (of.Public list) = old_public r.public list

-- the rows of what it puts in
abbrev pub new_entries : RegistryChange → List Entry
new_entries (of.Members c) = entries_of (λ x. line_row (member_line x) ∷ []) (new_row c)
new_entries (of.Contacts c) = entries_of (λ x. line_row (contact_line x) ∷ []) (new_row c)
new_entries (of.Keys c) = entries_of (λ x. line_row (key_line x) ∷ []) (new_row c)
new_entries (of.Switches c) = entries_of (λ x. line_row (switch_line x) ∷ []) (new_row c)
new_entries (of.Ports c) = entries_of (λ x. line_row (port_line x) ∷ []) (new_row c)
new_entries (of.Vlans c) = entries_of (λ x. line_row (vlan_line x) ∷ []) (new_row c)
new_entries (of.Interfaces c) = entries_of interface_entries (new_row c)
new_entries (of.Routers c) = entries_of (λ x. line_row (router_line Two x) ∷ []) (new_row c)
new_entries (of.Irr c) = entries_of (λ x. irr_row x ∷ []) (new_row c)
new_entries (of.Origins c) = entries_of (λ x. origins_row x ∷ []) (new_row c)
new_entries (of.Rules c) = entries_of rule_rows (new_row c)
new_entries (of.Public list) = new_public list

-- of an owner with 1,024 numbers the least goes when one is kept: the first of them, or the new one itself
abbrev pub gone_among : KeptNumber → List KeptNumber → List KeptNumber
gone_among k [] = []
gone_among k (x ∷ xs) = if nat_lt x.number k.number then x ∷ [] else []

abbrev pub added_among : KeptNumber → List KeptNumber → List KeptNumber
added_among k [] = k ∷ []
added_among k (x ∷ xs) = if nat_lt x.number k.number then k ∷ [] else []

abbrev pub gone_numbers : KeptNumber → KeptOwner → List KeptNumber
gone_numbers k o = if nat_lt (length o.numbers) 1024 then [] else gone_among k o.numbers

abbrev pub added_numbers : KeptNumber → KeptOwner → List KeptNumber
added_numbers k o = if nat_lt (length o.numbers) 1024 then k ∷ [] else added_among k o.numbers

-- the floor's row where the floor rises: it is then the number that went, plus one
abbrev pub old_floor : KeptNumber → KeptOwner → List Entry
old_floor k o = if nat_lt (length o.numbers) 1024 then [] else floor_rows o

abbrev pub raised_above : KeptNumber → KeptOwner → List KeptNumber → List Entry
raised_above k o [] = []
raised_above k o (x ∷ xs) =
    (floor_name o.owner, decimal ((if nat_lt x.number k.number then x.number else k.number) + 1)) ∷ []

abbrev pub new_floor : KeptNumber → KeptOwner → List Entry
new_floor k o = if nat_lt (length o.numbers) 1024 then [] else raised_above k o o.numbers

-- all rows that go, and all that are set
abbrev pub old_rows : State → Prepared → List Entry
old_rows s p =
    old_entries s.registry p.change ++ (old_floor p.kept (kept_of s.kept p.owner)
    ++ (map (kept_row p.owner) (gone_numbers p.kept (kept_of s.kept p.owner)) ++ count_row s.accepted ∷ []))

abbrev pub new_rows : State → Prepared → List Entry
new_rows s p =
    new_entries p.change ++ (new_floor p.kept (kept_of s.kept p.owner)
    ++ (map (kept_row p.owner) (added_numbers p.kept (kept_of s.kept p.owner))
    ++ count_row (s.accepted + 1) ∷ []))

-- the batch of a request, to the last change: what goes is dropped, and then what comes is set
abbrev pub batch : State → Prepared → List Change
batch s p = map drop_row (old_rows s p) ++ map set_row (new_rows s p)

-- how many rules are in a member's list, where there is one
abbrev pub rules_in : Option RuleList → ℕ
rules_in o = if_there o 0 (λ l. length l.rules)

-- How many rows of a store a change of a registry is about, at most: those of the row that it replaces or
-- takes out, and of the one that it puts in. An interface has three of them, with its addresses; a member's
-- rules and a public list have one for each item; all else is one.
abbrev pub rows_about : Registry → RegistryChange → ℕ
rows_about r (of.Interfaces c) = 6
rows_about r (of.Rules c) = rules_in (old_row rules_key (λ k. k ∷ []) c r.rules) + rules_in (new_row c)
rows_about r (of.Public list) = length (old_public r.public list) + length (new_public list)
rows_about r c = 2

-- A batch has no more changes than those, whatever else the store holds, and six: the count is dropped and
-- set, the number of the request is set and one that it puts out dropped, and the owner's floor is dropped
-- and set.
abbrev pub IsShort : State → Prepared → List Change → Type 0
IsShort s p cs = length cs ≤ rows_about s.registry p.change + 6
