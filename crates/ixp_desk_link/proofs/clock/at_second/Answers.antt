use Rattle.ixp_desk_link.proofs.Seconds.{export_timed, member_timed, contacts_timed, rules_timed, use_timed, dump_timed}
use Rattle.ixp_desk_link.proofs.clock.at_second.Goals as goal

pub returns-in-Ixf : goal.returns-in-Ixf
returns-in-Ixf g c = export_timed _ _ _ _ _ c.in-Ixf.is c.now.ensures.given

pub returns-in-Member : goal.returns-in-Member
returns-in-Member g c = member_timed _ _ _ c.in-Member.is

pub returns-in-Contacts : goal.returns-in-Contacts
returns-in-Contacts g c = contacts_timed _ _ _ c.in-Contacts.is

pub returns-in-Rules : goal.returns-in-Rules
returns-in-Rules g c = rules_timed _ _ _ c.in-Rules.is

pub returns-in-Use : goal.returns-in-Use
returns-in-Use g c = use_timed _ _ _ _ c.in-Use.is

pub returns-in-Dump : goal.returns-in-Dump
returns-in-Dump g c = dump_timed _ _ c.in-Dump.is
