use Rattle.std.proofs.Common.{map, sym, subst}
use Rattle.ixp_io.specs.Tables.{row_entry}
use Rattle.ixp_registry.specs.declared.kind.Kind.TheVariants.{Sites, Members, Contacts, Keys, Switches, Ports, Vlans, Interfaces, Addresses, Routers, Prefixes, Origins, Rules, Bogons, BogonAs, Transit, Roas}
use Rattle.ixp_store_damage.specs.Loading.{KindAdded}
use Rattle.ixp_store_damage.proofs.KindLines.{kind_added}
use Rattle.ixp_store_damage.proofs.dumped.put_kind.Goals as goal

pub returns-in-Sites : goal.returns-in-Sites
returns-in-Sites c = subst (KindAdded (map row_entry c.args.rows.now) c.put_section.result c.args.out.now.items c.put_section.new.out.items) (sym c.in-Sites.is) (kind_added Sites _ _ _ _ c.put_section.ensures.complete)

pub returns-in-Members : goal.returns-in-Members
returns-in-Members c = subst (KindAdded (map row_entry c.args.rows.now) c.put_section-in-Members.result c.args.out.now.items c.put_section-in-Members.new.out.items) (sym c.in-Members.is) (kind_added Members _ _ _ _ c.put_section-in-Members.ensures.complete)

pub returns-in-Contacts : goal.returns-in-Contacts
returns-in-Contacts c = subst (KindAdded (map row_entry c.args.rows.now) c.put_section-in-Contacts.result c.args.out.now.items c.put_section-in-Contacts.new.out.items) (sym c.in-Contacts.is) (kind_added Contacts _ _ _ _ c.put_section-in-Contacts.ensures.complete)

pub returns-in-Keys : goal.returns-in-Keys
returns-in-Keys c = subst (KindAdded (map row_entry c.args.rows.now) c.put_section-in-Keys.result c.args.out.now.items c.put_section-in-Keys.new.out.items) (sym c.in-Keys.is) (kind_added Keys _ _ _ _ c.put_section-in-Keys.ensures.complete)

pub returns-in-Switches : goal.returns-in-Switches
returns-in-Switches c = subst (KindAdded (map row_entry c.args.rows.now) c.put_section-in-Switches.result c.args.out.now.items c.put_section-in-Switches.new.out.items) (sym c.in-Switches.is) (kind_added Switches _ _ _ _ c.put_section-in-Switches.ensures.complete)

pub returns-in-Ports : goal.returns-in-Ports
returns-in-Ports c = subst (KindAdded (map row_entry c.args.rows.now) c.put_section-in-Ports.result c.args.out.now.items c.put_section-in-Ports.new.out.items) (sym c.in-Ports.is) (kind_added Ports _ _ _ _ c.put_section-in-Ports.ensures.complete)

pub returns-in-Vlans : goal.returns-in-Vlans
returns-in-Vlans c = subst (KindAdded (map row_entry c.args.rows.now) c.put_section-in-Vlans.result c.args.out.now.items c.put_section-in-Vlans.new.out.items) (sym c.in-Vlans.is) (kind_added Vlans _ _ _ _ c.put_section-in-Vlans.ensures.complete)

pub returns-in-Interfaces : goal.returns-in-Interfaces
returns-in-Interfaces c = subst (KindAdded (map row_entry c.args.rows.now) c.put_section-in-Interfaces.result c.args.out.now.items c.put_section-in-Interfaces.new.out.items) (sym c.in-Interfaces.is) (kind_added Interfaces _ _ _ _ c.put_section-in-Interfaces.ensures.complete)

pub returns-in-Addresses : goal.returns-in-Addresses
returns-in-Addresses c = subst (KindAdded (map row_entry c.args.rows.now) c.put_section-in-Addresses.result c.args.out.now.items c.put_section-in-Addresses.new.out.items) (sym c.in-Addresses.is) (kind_added Addresses _ _ _ _ c.put_section-in-Addresses.ensures.complete)

pub returns-in-Routers : goal.returns-in-Routers
returns-in-Routers c = subst (KindAdded (map row_entry c.args.rows.now) c.put_section-in-Routers.result c.args.out.now.items c.put_section-in-Routers.new.out.items) (sym c.in-Routers.is) (kind_added Routers _ _ _ _ c.put_section-in-Routers.ensures.complete)

pub returns-in-Prefixes : goal.returns-in-Prefixes
returns-in-Prefixes c = subst (KindAdded (map row_entry c.args.rows.now) c.put_section-in-Prefixes.result c.args.out.now.items c.put_section-in-Prefixes.new.out.items) (sym c.in-Prefixes.is) (kind_added Prefixes _ _ _ _ c.put_section-in-Prefixes.ensures.complete)

pub returns-in-Origins : goal.returns-in-Origins
returns-in-Origins c = subst (KindAdded (map row_entry c.args.rows.now) c.put_section-in-Origins.result c.args.out.now.items c.put_section-in-Origins.new.out.items) (sym c.in-Origins.is) (kind_added Origins _ _ _ _ c.put_section-in-Origins.ensures.complete)

pub returns-in-Rules : goal.returns-in-Rules
returns-in-Rules c = subst (KindAdded (map row_entry c.args.rows.now) c.put_section-in-Rules.result c.args.out.now.items c.put_section-in-Rules.new.out.items) (sym c.in-Rules.is) (kind_added Rules _ _ _ _ c.put_section-in-Rules.ensures.complete)

pub returns-in-Bogons : goal.returns-in-Bogons
returns-in-Bogons c = subst (KindAdded (map row_entry c.args.rows.now) c.put_section-in-Bogons.result c.args.out.now.items c.put_section-in-Bogons.new.out.items) (sym c.in-Bogons.is) (kind_added Bogons _ _ _ _ c.put_section-in-Bogons.ensures.complete)

pub returns-in-BogonAs : goal.returns-in-BogonAs
returns-in-BogonAs c = subst (KindAdded (map row_entry c.args.rows.now) c.put_section-in-BogonAs.result c.args.out.now.items c.put_section-in-BogonAs.new.out.items) (sym c.in-BogonAs.is) (kind_added BogonAs _ _ _ _ c.put_section-in-BogonAs.ensures.complete)

pub returns-in-Transit : goal.returns-in-Transit
returns-in-Transit c = subst (KindAdded (map row_entry c.args.rows.now) c.put_section-in-Transit.result c.args.out.now.items c.put_section-in-Transit.new.out.items) (sym c.in-Transit.is) (kind_added Transit _ _ _ _ c.put_section-in-Transit.ensures.complete)

pub returns-in-Roas : goal.returns-in-Roas
returns-in-Roas c = subst (KindAdded (map row_entry c.args.rows.now) c.put_section-in-Roas.result c.args.out.now.items c.put_section-in-Roas.new.out.items) (sym c.in-Roas.is) (kind_added Roas _ _ _ _ c.put_section-in-Roas.ensures.complete)
