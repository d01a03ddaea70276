-- One table is changed: what stands about the others.
use Rattle.std.proofs.Common.{◌≡◌, ℕ, ◌≤◌, ◌+◌, Bool, true, false, ◌||◌, ◌==◌, List, [], ◌∷◌, Option, Some, None, refl}
use Rattle.std.specs.List.{AllByRecursion}
use Rattle.std.specs.Option.{is_some}
use Rattle.ixp_num.specs.declared.addr.Addr.{Addr}
use Rattle.ixp_num.specs.declared.family.Family.{Family}
use Rattle.ixp_num_tables.specs.Tables.{find, if_there}
use Rattle.ixp_num_tables.proofs.Orders.{all_weaker}
use Rattle.ixp_num_tables.proofs.AllItems.{all_both}
use Rattle.ixp_registry.specs.declared.members.ApiKey.{ApiKey}
use Rattle.ixp_registry.specs.declared.members.Contact.{Contact}
use Rattle.ixp_registry.specs.declared.members.Member.{Member}
use Rattle.ixp_registry.specs.declared.members.Owner.{Owner}
use Rattle.ixp_registry.specs.declared.members.Owner.TheVariants.{Staff, Member as Of}
use Rattle.ixp_registry.specs.declared.network.Interface.{Interface}
use Rattle.ixp_registry.specs.declared.network.Port.{Port}
use Rattle.ixp_registry.specs.declared.network.Switch.{Switch}
use Rattle.ixp_registry.specs.declared.network.Vlan.{Vlan}
use Rattle.ixp_registry.specs.declared.router.Router.{Router}
use Rattle.ixp_registry.specs.declared.lists.IrrList.{IrrList}
use Rattle.ixp_registry.specs.declared.lists.OriginList.{OriginList}
use Rattle.ixp_registry.specs.declared.lists.PublicLists.{PublicLists}
use Rattle.ixp_registry.specs.declared.rules.RuleList.{RuleList}
use Rattle.ixp_registry.specs.declared.registry.Registry.{Registry}
use Rattle.ixp_registry.specs.Keys.{vlan_key}
use Rattle.ixp_registry.specs.Lookups.{has_member, has_switch, has_owner, is_port_of, is_host_in, column, is_host}
use Rattle.ixp_registry.specs.Registries.{addresses_of}
use Rattle.ixp_registry.specs.Valid.{Valid, ValidMembers, ValidContacts, ValidKeys, ValidSwitches, ValidPorts, ValidVlans, ValidInterfaces, NamesOfInterface, ValidRouters, NamesOfRouter, ValidIrr, ValidOrigins, ValidRules, ValidPublic, holds, answers}
use Rattle.ixp_registry.specs.Weight.{weight}
use Rattle.ixp_num_tables.specs.Sums.{total}
use Rattle.ixp_machine_edits.specs.Routers.{holds_blackhole}

-- no two interfaces or routers share an address
abbrev pub Shared : List Interface → List Router → Type 0
Shared is qs = (k : List ℕ) → total (holds k) is + total (answers k) qs ≤ 1

-- each member that was there is there
abbrev pub More : List Member → List Member → Type 0
More ms ns = (n : ℕ) → has_member ms n ≡ true → has_member ns n ≡ true

owner_more : (ms ns : List Member) → More ms ns → (o : Owner) → has_owner ms o ≡ true → has_owner ns o ≡ true
owner_more ms ns more (Staff n) e = refl
owner_more ms ns more (Of n) e = more n e

free_or : (a b c : Bool) → (b ≡ true → c ≡ true) → (a || b) ≡ true → (a || c) ≡ true
free_or true b c step e = refl
free_or false b c step e = step e

pub members_on : (r : Registry) (ns : List Member) → More r.members ns → ValidMembers ns → ValidInterfaces ns r.ports r.vlans r.interfaces → ValidRouters ns r.vlans r.interfaces r.routers
    → weight ns r.interfaces r.routers r.irr ≤ 8000000 → Valid r → Valid (record r { members = ns })
members_on r ns more stand interfaces routers light s =
    let ms = r.members in
    record {
      site = s.site;
      members = stand;
      contacts = record {
        order = s.contacts.order;
        each = s.contacts.each;
        members = all_weaker (λ c. has_member ms c.member ≡ true) (λ c. has_member ns c.member ≡ true) (λ c. more c.member) r.contacts s.contacts.members;
        few = s.contacts.few;
      };
      keys = record {
        order = s.keys.order;
        each = s.keys.each;
        owners = all_weaker (λ k. has_owner ms k.owner ≡ true) (λ k. has_owner ns k.owner ≡ true) (λ k. owner_more ms ns more k.owner) r.keys s.keys.owners;
        secrets = s.keys.secrets;
        few = s.keys.few;
      };
      switches = s.switches;
      ports = record {
        order = s.ports.order;
        each = s.ports.each;
        switches = s.ports.switches;
        members = all_weaker (λ p. (p.member == 0 || has_member ms p.member) ≡ true) (λ p. (p.member == 0 || has_member ns p.member) ≡ true) (λ p. free_or (p.member == 0) (has_member ms p.member) (has_member ns p.member) (more p.member)) r.ports s.ports.members;
        few = s.ports.few;
      };
      vlans = s.vlans;
      interfaces = interfaces;
      routers = routers;
      irr = record {
        order = s.irr.order;
        each = s.irr.each;
        members = all_weaker (λ l. has_member ms l.member ≡ true) (λ l. has_member ns l.member ≡ true) (λ l. more l.member) r.irr s.irr.members;
        few = s.irr.few;
      };
      origins = record {
        order = s.origins.order;
        each = s.origins.each;
        members = all_weaker (λ l. has_member ms l.member ≡ true) (λ l. has_member ns l.member ≡ true) (λ l. more l.member) r.origins s.origins.members;
      };
      rules = record {
        order = s.rules.order;
        each = s.rules.each;
        members = all_weaker (λ l. has_member ms l.member ≡ true) (λ l. has_member ns l.member ≡ true) (λ l. more l.member) r.rules s.rules.members;
      };
      public = s.public;
      light = light;
    }

pub contacts_on : (r : Registry) (cs : List Contact) → ValidContacts r.members cs → Valid r → Valid (record r { contacts = cs })
contacts_on r cs stand s = record {
  site = s.site;
  members = s.members;
  contacts = stand;
  keys = s.keys;
  switches = s.switches;
  ports = s.ports;
  vlans = s.vlans;
  interfaces = s.interfaces;
  routers = s.routers;
  irr = s.irr;
  origins = s.origins;
  rules = s.rules;
  public = s.public;
  light = s.light;
}

pub keys_on : (r : Registry) (ks : List ApiKey) → ValidKeys r.members ks → Valid r → Valid (record r { keys = ks })
keys_on r ks stand s = record {
  site = s.site;
  members = s.members;
  contacts = s.contacts;
  keys = stand;
  switches = s.switches;
  ports = s.ports;
  vlans = s.vlans;
  interfaces = s.interfaces;
  routers = s.routers;
  irr = s.irr;
  origins = s.origins;
  rules = s.rules;
  public = s.public;
  light = s.light;
}

pub switches_on : (r : Registry) (ts : List Switch) → ValidSwitches ts → AllByRecursion (λ p. has_switch ts p.switch ≡ true) r.ports → Valid r → Valid (record r { switches = ts })
switches_on r ts stand named s = record {
  site = s.site;
  members = s.members;
  contacts = s.contacts;
  keys = s.keys;
  switches = stand;
  ports = record {
    order = s.ports.order;
    each = s.ports.each;
    switches = named;
    members = s.ports.members;
    few = s.ports.few;
  };
  vlans = s.vlans;
  interfaces = s.interfaces;
  routers = s.routers;
  irr = s.irr;
  origins = s.origins;
  rules = s.rules;
  public = s.public;
  light = s.light;
}

pub ports_on : (r : Registry) (ps : List Port) → ValidPorts r.members r.switches ps → AllByRecursion (λ i. is_port_of ps i.port i.member ≡ true) r.interfaces → Valid r → Valid (record r { ports = ps })
ports_on r ps stand named s = record {
  site = s.site;
  members = s.members;
  contacts = s.contacts;
  keys = s.keys;
  switches = s.switches;
  ports = stand;
  vlans = s.vlans;
  interfaces = record {
    order = s.interfaces.order;
    each = s.interfaces.each;
    named = all_weaker (λ i. NamesOfInterface r.members r.ports r.vlans i × (is_port_of ps i.port i.member ≡ true)) (NamesOfInterface r.members ps r.vlans)
        (λ i x. record { member = x.0.member; stays = x.0.stays; port = x.1; vlan = x.0.vlan; hosts = x.0.hosts }) r.interfaces
        (all_both (NamesOfInterface r.members r.ports r.vlans) (λ i. is_port_of ps i.port i.member ≡ true) r.interfaces s.interfaces.named named);
    few = s.interfaces.few;
    per_member = s.interfaces.per_member;
  };
  routers = s.routers;
  irr = s.irr;
  origins = s.origins;
  rules = s.rules;
  public = s.public;
  light = s.light;
}

-- what is said of a VLAN by its number is still so
abbrev pub Keeps : List Vlan → List Vlan → ℕ → Type 0
Keeps vs us n = (g : Option Vlan → Bool) → g None ≡ false → g (find vlan_key (n ∷ []) vs) ≡ true → g (find vlan_key (n ∷ []) us) ≡ true

host_keeps : (vs us : List Vlan) (n : ℕ) → Keeps vs us n → (f : Family) (a : Addr) → is_host_in vs n f a ≡ true → is_host_in us n f a ≡ true
host_keeps vs us n keeps f a e = keeps (λ o. if_there o false (λ v. if_there (column f v) false (λ p. is_host p a))) refl e

interface_keeps : (r : Registry) (us : List Vlan) (i : Interface) → Keeps r.vlans us i.vlan → NamesOfInterface r.members r.ports r.vlans i → NamesOfInterface r.members r.ports us i
interface_keeps r us i keeps x = record {
  member = x.member;
  stays = x.stays;
  port = x.port;
  vlan = keeps is_some refl x.vlan;
  hosts = all_weaker (λ a. is_host_in r.vlans i.vlan a.address.addr.family a.address.addr ≡ true) (λ a. is_host_in us i.vlan a.address.addr.family a.address.addr ≡ true)
      (λ a. host_keeps r.vlans us i.vlan keeps a.address.addr.family a.address.addr) (addresses_of i) x.hosts;
}

router_keeps : (r : Registry) (us : List Vlan) (q : Router) → Keeps r.vlans us q.vlan → NamesOfRouter r.members r.vlans r.interfaces q → NamesOfRouter r.members us r.interfaces q
router_keeps r us q keeps x = record {
  asn = x.asn;
  vlan = keeps is_some refl x.vlan;
  host = host_keeps r.vlans us q.vlan keeps q.family q.addr x.host;
  blackhole = by_blackhole q.blackhole x.blackhole;
  free = x.free;
} where
  by_blackhole : (o : Option Addr) → if_there o true (λ b. is_host_in r.vlans q.vlan q.family b) ≡ true → if_there o true (λ b. is_host_in us q.vlan q.family b) ≡ true
  by_blackhole None e = refl
  by_blackhole (Some b) e = host_keeps r.vlans us q.vlan keeps q.family b e

pub vlans_on : (r : Registry) (us : List Vlan) → ValidVlans us → AllByRecursion (λ i. Keeps r.vlans us i.vlan) r.interfaces → AllByRecursion (λ q. Keeps r.vlans us q.vlan) r.routers → Valid r → Valid (record r { vlans = us })
vlans_on r us stand interfaces routers s = record {
  site = s.site;
  members = s.members;
  contacts = s.contacts;
  keys = s.keys;
  switches = s.switches;
  ports = s.ports;
  vlans = stand;
  interfaces = record {
    order = s.interfaces.order;
    each = s.interfaces.each;
    named = all_weaker (λ i. Keeps r.vlans us i.vlan × NamesOfInterface r.members r.ports r.vlans i) (NamesOfInterface r.members r.ports us) (λ i x. interface_keeps r us i x.0 x.1) r.interfaces
        (all_both (λ i. Keeps r.vlans us i.vlan) (NamesOfInterface r.members r.ports r.vlans) r.interfaces interfaces s.interfaces.named);
    few = s.interfaces.few;
    per_member = s.interfaces.per_member;
  };
  routers = record {
    order = s.routers.order;
    each = s.routers.each;
    named = all_weaker (λ q. Keeps r.vlans us q.vlan × NamesOfRouter r.members r.vlans r.interfaces q) (NamesOfRouter r.members us r.interfaces) (λ q x. router_keeps r us q x.0 x.1) r.routers
        (all_both (λ q. Keeps r.vlans us q.vlan) (NamesOfRouter r.members r.vlans r.interfaces) r.routers routers s.routers.named);
    apart = s.routers.apart;
    few = s.routers.few;
    addresses = s.routers.addresses;
  };
  irr = s.irr;
  origins = s.origins;
  rules = s.rules;
  public = s.public;
  light = s.light;
}

pub interfaces_on : (r : Registry) (js : List Interface) → ValidInterfaces r.members r.ports r.vlans js → AllByRecursion (λ q. AllByRecursion (λ i. holds_blackhole q i ≡ false) js) r.routers → Shared js r.routers
    → weight r.members js r.routers r.irr ≤ 8000000 → Valid r → Valid (record r { interfaces = js })
interfaces_on r js stand free shared light s = record {
  site = s.site;
  members = s.members;
  contacts = s.contacts;
  keys = s.keys;
  switches = s.switches;
  ports = s.ports;
  vlans = s.vlans;
  interfaces = stand;
  routers = record {
    order = s.routers.order;
    each = s.routers.each;
    named = all_weaker (λ q. NamesOfRouter r.members r.vlans r.interfaces q × AllByRecursion (λ i. holds_blackhole q i ≡ false) js) (NamesOfRouter r.members r.vlans js)
        (λ q x. record { asn = x.0.asn; vlan = x.0.vlan; host = x.0.host; blackhole = x.0.blackhole; free = x.1 }) r.routers
        (all_both (NamesOfRouter r.members r.vlans r.interfaces) (λ q. AllByRecursion (λ i. holds_blackhole q i ≡ false) js) r.routers s.routers.named free);
    apart = s.routers.apart;
    few = s.routers.few;
    addresses = shared;
  };
  irr = s.irr;
  origins = s.origins;
  rules = s.rules;
  public = s.public;
  light = light;
}

pub routers_on : (r : Registry) (qs : List Router) → ValidRouters r.members r.vlans r.interfaces qs → weight r.members r.interfaces qs r.irr ≤ 8000000 → Valid r → Valid (record r { routers = qs })
routers_on r qs stand light s = record {
  site = s.site;
  members = s.members;
  contacts = s.contacts;
  keys = s.keys;
  switches = s.switches;
  ports = s.ports;
  vlans = s.vlans;
  interfaces = s.interfaces;
  routers = stand;
  irr = s.irr;
  origins = s.origins;
  rules = s.rules;
  public = s.public;
  light = light;
}

pub irr_on : (r : Registry) (ls : List IrrList) → ValidIrr r.members ls → weight r.members r.interfaces r.routers ls ≤ 8000000 → Valid r → Valid (record r { irr = ls })
irr_on r ls stand light s = record {
  site = s.site;
  members = s.members;
  contacts = s.contacts;
  keys = s.keys;
  switches = s.switches;
  ports = s.ports;
  vlans = s.vlans;
  interfaces = s.interfaces;
  routers = s.routers;
  irr = stand;
  origins = s.origins;
  rules = s.rules;
  public = s.public;
  light = light;
}

pub origins_on : (r : Registry) (ls : List OriginList) → ValidOrigins r.members ls → Valid r → Valid (record r { origins = ls })
origins_on r ls stand s = record {
  site = s.site;
  members = s.members;
  contacts = s.contacts;
  keys = s.keys;
  switches = s.switches;
  ports = s.ports;
  vlans = s.vlans;
  interfaces = s.interfaces;
  routers = s.routers;
  irr = s.irr;
  origins = stand;
  rules = s.rules;
  public = s.public;
  light = s.light;
}

pub rules_on : (r : Registry) (ls : List RuleList) → ValidRules r.members ls → Valid r → Valid (record r { rules = ls })
rules_on r ls stand s = record {
  site = s.site;
  members = s.members;
  contacts = s.contacts;
  keys = s.keys;
  switches = s.switches;
  ports = s.ports;
  vlans = s.vlans;
  interfaces = s.interfaces;
  routers = s.routers;
  irr = s.irr;
  origins = s.origins;
  rules = stand;
  public = s.public;
  light = s.light;
}

pub public_on : (r : Registry) (p : PublicLists) → ValidPublic p → Valid r → Valid (record r { public = p })
public_on r p stand s = record {
  site = s.site;
  members = s.members;
  contacts = s.contacts;
  keys = s.keys;
  switches = s.switches;
  ports = s.ports;
  vlans = s.vlans;
  interfaces = s.interfaces;
  routers = s.routers;
  irr = s.irr;
  origins = s.origins;
  rules = s.rules;
  public = stand;
  light = s.light;
}
