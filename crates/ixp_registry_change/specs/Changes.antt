-- What becomes of a registry by a change of one of its tables.
use Rattle.std.specs.Prelude.{ℕ, List, [], ◌∷◌, Option, Some, None}
use Rattle.ixp_num.specs.AddressForms.{version_of}
use Rattle.ixp_num_tables.specs.Tables.{put, without}
use Rattle.ixp_registry.specs.declared.lists.PublicLists.{PublicLists}
use Rattle.ixp_registry.specs.declared.registry.Registry.{Registry}
use Rattle.ixp_registry.specs.Keys.{member_key, contact_key, api_key_key, switch_key, port_key, vlan_key, interface_key, router_key, irr_key, origins_key, rules_key}
use Rattle.ixp_registry_change.specs.declared.change.PublicList.{PublicList}
use Rattle.ixp_registry_change.specs.declared.change.PublicList.TheVariants.{Bogons, BogonAs, Transit, Roas}
use Rattle.ixp_registry_change.specs.declared.change.TableChange.{TableChange}
use Rattle.ixp_registry_change.specs.declared.change.TableChange.TheVariants.{Keep, Put, Take}
use Rattle.ixp_registry_change.specs.declared.change.RegistryChange.{RegistryChange}
use Rattle.ixp_registry_change.specs.declared.change.RegistryChange.TheVariants as of

-- the rows of a table after a change, where a row has this key and what names one stands for that
abbrev pub changed_rows : {R K : Type 0} → (R → List ℕ) → (K → List ℕ) → TableChange R K → List R → List R
changed_rows key named Keep rs = rs
changed_rows key named (Put r) rs = put key r rs
changed_rows key named (Take k) rs = without key (named k) rs

-- the row that is there, changed
abbrev pub changed_row : {R K : Type 0} → (R → R) → Option R → TableChange R K
changed_row f None = Keep
changed_row f (Some r) = Put (f r)

-- a row that has a list, or none where the list is empty
abbrev pub row_or_none : {R K X : Type 0} → R → K → List X → TableChange R K
row_or_none r k [] = Take k
row_or_none r k (x ∷ xs) = Put r

-- a public list in the place of the one of its kind
abbrev pub with_public : PublicList → PublicLists → PublicLists
with_public (Bogons xs) p = record p { bogons = xs }
with_public (BogonAs xs) p = record p { bogon_as = xs }
with_public (Transit xs) p = record p { transit = xs }
with_public (Roas xs) p = record p { roas = xs }

-- the registry after a change
abbrev pub with_change : Registry → RegistryChange → Registry
with_change r (of.Members c) = record r { members = changed_rows member_key (λ k. k ∷ []) c r.members }
with_change r (of.Contacts c) =
    record r { contacts = changed_rows contact_key (λ k. k.0 ∷ k.1 ∷ []) c r.contacts }
with_change r (of.Keys c) = record r { keys = changed_rows api_key_key (λ k. k ∷ []) c r.keys }
with_change r (of.Switches c) = record r { switches = changed_rows switch_key (λ k. k ∷ []) c r.switches }
with_change r (of.Ports c) = record r { ports = changed_rows port_key (λ k. k ∷ []) c r.ports }
with_change r (of.Vlans c) = record r { vlans = changed_rows vlan_key (λ k. k ∷ []) c r.vlans }
with_change r (of.Interfaces c) =
    record r { interfaces = changed_rows interface_key (λ k. k ∷ []) c r.interfaces }
with_change r (of.Routers c) = record r { routers = changed_rows router_key (λ k. k) c r.routers }
with_change r (of.Irr c) = record r { irr = changed_rows irr_key (λ k. k.0 ∷ version_of k.1 ∷ []) c r.irr }
with_change r (of.Origins c) =
    record r { origins = changed_rows origins_key (λ k. k.0 ∷ version_of k.1 ∷ []) c r.origins }
with_change r (of.Rules c) = record r { rules = changed_rows rules_key (λ k. k ∷ []) c r.rules }
with_change r (of.Public list) = record r { public = with_public list r.public }
