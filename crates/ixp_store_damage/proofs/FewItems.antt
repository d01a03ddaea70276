-- How many rows the tables of a valid registry have at most.
use Rattle.std.proofs.Common.{◌≡◌, ℕ, ◌+◌, ◌*◌, ◌≤◌, true, List, [], ◌∷◌, map, flat_map, length, length-append, Option, Some, None, subst, arith}
use Rattle.ixp_num_tables.proofs.AllItems.{all_true, all_both}
use Rattle.ixp_num_tables.proofs.Orders.{all_weaker}
use Rattle.ixp_registry.specs.declared.lists.IrrList.{IrrList}
use Rattle.ixp_registry.specs.declared.lists.OriginList.{OriginList}
use Rattle.ixp_registry.specs.declared.members.Contact.{Contact}
use Rattle.ixp_registry.specs.declared.members.ApiKey.{ApiKey}
use Rattle.ixp_registry.specs.declared.members.Member.{Member}
use Rattle.ixp_registry.specs.declared.network.IfAddr.{IfAddr}
use Rattle.ixp_registry.specs.declared.network.Interface.{Interface}
use Rattle.ixp_registry.specs.declared.registry.Registry.{Registry}
use Rattle.ixp_registry.specs.declared.rules.RuleList.{RuleList}
use Rattle.ixp_registry.specs.Keys.{member_key, irr_key, origins_key, rules_key}
use Rattle.ixp_registry.specs.Lookups.{has_member, has_owner}
use Rattle.ixp_registry.specs.Registries.{addresses_of, address_rows, rules_in}
use Rattle.ixp_registry.specs.Valid.{Valid, ValidContacts, ValidKey, ValidKeys, ValidIrr, ValidOrigins, ValidRuleList, ValidRules}
use Rattle.ixp_registry.specs.Words.{is_staff_number, owner_numbers}
use Rattle.ixp_store_words.specs.Sorting.{Has}
use Rattle.ixp_store_damage.proofs.Spread.{spread, once, length_mapped, length_flat, member_there, versions, version_there, versions_long, owner_keys, owner_there, owners_long}

contacts_few : (ms : List Member) (cs : List Contact) → ValidContacts ms cs → length cs ≤ length ms * 16
contacts_few ms cs v =
    let there = all_weaker (λ (c : Contact). has_member ms c.member ≡ true) (λ c. Has (map member_key ms) (c.member ∷ [])) (λ c e. member_there ms c.member e) cs v.members in
    let few = spread 16 (λ (c : Contact). c.member ∷ []) cs (map member_key ms) there v.few in
    subst (λ n. length cs ≤ n * 16) (length_mapped member_key ms) few

keys_few : (ms : List Member) (ks : List ApiKey) → ValidKeys ms ks → length ks ≤ (16 + length ms) * 8
keys_few ms ks v =
    let staff = all_weaker ValidKey (λ k. is_staff_number k.owner ≡ true) (λ k each. each.staff) ks v.each in
    let there = all_weaker (λ (k : ApiKey). (is_staff_number k.owner ≡ true) × (has_owner ms k.owner ≡ true)) (λ k. Has (owner_keys ms) (owner_numbers k.owner)) (λ k both. owner_there ms k.owner both.0 both.1) ks
    (all_both (λ (k : ApiKey). is_staff_number k.owner ≡ true) (λ (k : ApiKey). has_owner ms k.owner ≡ true) ks staff v.owners) in
    subst (λ n. length ks ≤ n * 8) (owners_long ms) (spread 8 (λ (k : ApiKey). owner_numbers k.owner) ks (owner_keys ms) there v.few)

lists_long : (ms : List Member) (n : ℕ) → n ≤ length (flat_map versions (map member_key ms)) * 1 → n ≤ length ms * 2
lists_long ms n few =
    let a = versions_long (map member_key ms) in
    let b = length_mapped member_key ms in
    let c : n ≤ length (flat_map versions (map member_key ms)) = omega (arith, few) in
    let d : n ≤ length (map member_key ms) * 2 = subst (λ m. n ≤ m) a c in
    subst (λ m. n ≤ m * 2) b d

irr_few : (ms : List Member) (ls : List IrrList) → ValidIrr ms ls → length ls ≤ length ms * 2
irr_few ms ls v =
    let there = all_weaker (λ (l : IrrList). has_member ms l.member ≡ true) (λ l. Has (flat_map versions (map member_key ms)) (irr_key l)) (λ l e. version_there (map member_key ms) l.member l.family (member_there ms l.member e)) ls v.members in
    lists_long ms (length ls) (spread 1 irr_key ls (flat_map versions (map member_key ms)) there (once irr_key ls v.order))

origins_few : (ms : List Member) (ls : List OriginList) → ValidOrigins ms ls → length ls ≤ length ms * 2
origins_few ms ls v =
    let there = all_weaker (λ (l : OriginList). has_member ms l.member ≡ true) (λ l. Has (flat_map versions (map member_key ms)) (origins_key l)) (λ l e. version_there (map member_key ms) l.member l.family (member_there ms l.member e)) ls v.members in
    lists_long ms (length ls) (spread 1 origins_key ls (flat_map versions (map member_key ms)) there (once origins_key ls v.order))

rules_few : (ms : List Member) (ls : List RuleList) → ValidRules ms ls → length (flat_map rules_in ls) ≤ length ms * 64
rules_few ms ls v =
    let there = all_weaker (λ (l : RuleList). has_member ms l.member ≡ true) (λ l. Has (map member_key ms) (rules_key l)) (λ l e. member_there ms l.member e) ls v.members in
    let few = spread 1 rules_key ls (map member_key ms) there (once rules_key ls v.order) in
    let long = length_mapped member_key ms in
    let each = length_flat 64 rules_in ls (all_weaker ValidRuleList (λ l. length (rules_in l) ≤ 64) (λ l one. one.few) ls v.each) in
    omega (arith, few, long, each)

address_few : (n : ℕ) (x : Option IfAddr) → length (address_rows n x) ≤ 1
address_few n None = omega arith
address_few n (Some a) = omega arith

addresses_few : (is : List Interface) → length (flat_map addresses_of is) ≤ length is * 2
addresses_few is =
    length_flat 2 addresses_of is
    (all_true (λ i. length (addresses_of i) ≤ 2)
    (λ i. let a = address_few i.number i.v4 in let b = address_few i.number i.v6 in let j = length-append (address_rows i.number i.v4) (address_rows i.number i.v6) in omega (arith, a, b, j)) is)

-- the tables that no limit of their own bounds
pub record AreFew (r : Registry) : Type 0 where
  pub contacts : length r.contacts ≤ 64000
  pub keys : length r.keys ≤ 32128
  pub addresses : length (flat_map addresses_of r.interfaces) ≤ 16000
  pub irr : length r.irr ≤ 8000
  pub origins : length r.origins ≤ 8000
  pub rules : length (flat_map rules_in r.rules) ≤ 256000

pub tables_few : (r : Registry) → Valid r → AreFew r
tables_few r v =
    let members = v.members.few in
    let interfaces = v.interfaces.few in
    let contacts = contacts_few r.members r.contacts v.contacts in
    let keys = keys_few r.members r.keys v.keys in
    let addresses = addresses_few r.interfaces in
    let irr = irr_few r.members r.irr v.irr in
    let origins = origins_few r.members r.origins v.origins in
    let rules = rules_few r.members r.rules v.rules in
    record {
      contacts = omega (arith, contacts, members);
      keys = omega (arith, keys, members);
      addresses = omega (arith, addresses, interfaces);
      irr = omega (arith, irr, members);
      origins = omega (arith, origins, members);
      rules = omega (arith, rules, members);
    }
