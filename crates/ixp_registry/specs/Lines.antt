-- On which line of a dump the first row of each kind stands. Line 1 is the dump's head, line 2 the site's.
use Rattle.std.specs.Prelude.{ℕ, length, ◌+◌}
use Rattle.ixp_registry.specs.declared.rows.Rows.{Rows}

abbrev pub site_at : ℕ
site_at = 2

abbrev pub members_at : ℕ
members_at = 3

abbrev pub contacts_at : Rows → ℕ
contacts_at w = members_at + length w.members

abbrev pub keys_at : Rows → ℕ
keys_at w = contacts_at w + length w.contacts

abbrev pub switches_at : Rows → ℕ
switches_at w = keys_at w + length w.keys

abbrev pub ports_at : Rows → ℕ
ports_at w = switches_at w + length w.switches

abbrev pub vlans_at : Rows → ℕ
vlans_at w = ports_at w + length w.ports

abbrev pub interfaces_at : Rows → ℕ
interfaces_at w = vlans_at w + length w.vlans

abbrev pub addresses_at : Rows → ℕ
addresses_at w = interfaces_at w + length w.interfaces

abbrev pub routers_at : Rows → ℕ
routers_at w = addresses_at w + length w.addresses

abbrev pub prefixes_at : Rows → ℕ
prefixes_at w = routers_at w + length w.routers

abbrev pub origins_at : Rows → ℕ
origins_at w = prefixes_at w + length w.prefixes

abbrev pub rules_at : Rows → ℕ
rules_at w = origins_at w + length w.origins

abbrev pub bogons_at : Rows → ℕ
bogons_at w = rules_at w + length w.rules

abbrev pub bogon_as_at : Rows → ℕ
bogon_as_at w = bogons_at w + length w.public.bogons

abbrev pub transit_at : Rows → ℕ
transit_at w = bogon_as_at w + length w.public.bogon_as

abbrev pub roas_at : Rows → ℕ
roas_at w = transit_at w + length w.public.transit
