-- What the rows of a store say as lines. Nobody needs to believe these: they serve proofs.
use Rattle.std.specs.Prelude.{◌≡◌, ◌≢◌, ℕ, ◌==◌, Bool, Result, IfOk, IsTrue, IsSome, List, [], ◌∷◌, ◌++◌, map, flat_map, Option, Some, None, option_map}
use Rattle.std.specs.List.{filter, AllByRecursion}
use Rattle.ixp_registry.specs.declared.kind.Kind.{Kind}
use Rattle.ixp_registry.specs.declared.kind.Kind.TheVariants.{Sites, Members, Contacts, Keys, Switches, Ports, Vlans, Interfaces, Addresses, Routers, Prefixes, Origins, Rules, Bogons, BogonAs, Transit, Roas}
use Rattle.ixp_registry.specs.declared.registry.Registry.{Registry}
use Rattle.ixp_registry.specs.Kinds.{word_of}
use Rattle.ixp_registry.specs.Registries.{rows_of, bare, addresses_of, rules_in}
use Rattle.ixp_registry.specs.Valid.{Valid}
use Rattle.ixp_num_tables.specs.Sums.{Pairs}
use Rattle.ixp_num_tables.specs.Tables.{Ascends}
use Rattle.ixp_rows_lines.specs.declared.version.Version.TheVariants.{Two}
use Rattle.ixp_rows_lines.specs.Fields.{Field}
use Rattle.ixp_rows_lines.specs.Lines.{form_of, place_of, site_line, member_line, contact_line, key_line, switch_line, port_line, vlan_line, interface_line, address_line, router_line, rule_line, bogon_line, bogon_as_line, transit_line, roa_line}
use Rattle.ixp_rows_lines.specs.Reading.{◌>>=◌, fields_at}
use Rattle.ixp_rows.specs.Printing.{kind_lines}
use Rattle.ixp_rows.specs.Reading.{after_text, breaks, key_in}
use Rattle.ixp_store_rows.specs.Names.{Entry, line_row, irr_row, origins_row}
use Rattle.ixp_store_words.specs.Sorting.{Same}

-- the fields of a line of the kind that stands at the front, and what is behind it
abbrev pub front_at : Kind → List ℕ → Option (List Field × List ℕ)
front_at kind t = after_text (word_of kind) t >>= fields_at (form_of Two kind)

-- the rows of a kind
abbrev pub kind_rows : ℕ → List Entry → List Entry
kind_rows kind es = filter (λ e. e.0.kind == kind) es

-- the fields of the line that a row's body begins with
unfoldable pub line_said : Kind → Entry → Option (List Field)
line_said kind e = option_map (λ x. x.0) (front_at kind (e.1 ++ 10 ∷ []))

-- the numbers by which rows of the kind stand in a dump
abbrev pub key_said : Kind → Option (List Field) → List ℕ
key_said kind None = []
key_said kind (Some fields) = key_in kind fields

abbrev pub line_key : Kind → Entry → List ℕ
line_key kind e = key_said kind (line_said kind e)

-- what a row is in a dump: the body of a list has whole lines
abbrev pub line_end : Kind → List ℕ
line_end Prefixes = []
line_end Origins = []
line_end kind = 10 ∷ []

abbrev pub row_text : Kind → Entry → List ℕ
row_text kind e = e.1 ++ line_end kind

-- the rows that a store has of a registry's rows of a kind
abbrev pub kind_entries : Registry → Kind → List Entry
kind_entries r Sites = line_row (site_line r.site) ∷ []
kind_entries r Members = map (λ m. line_row (member_line m)) r.members
kind_entries r Contacts = map (λ c. line_row (contact_line c)) r.contacts
kind_entries r Keys = map (λ k. line_row (key_line k)) r.keys
kind_entries r Switches = map (λ s. line_row (switch_line s)) r.switches
kind_entries r Ports = map (λ p. line_row (port_line p)) r.ports
kind_entries r Vlans = map (λ v. line_row (vlan_line v)) r.vlans
kind_entries r Interfaces = map (λ i. line_row (interface_line i)) (map bare r.interfaces)
kind_entries r Addresses = map (λ a. line_row (address_line a)) (flat_map addresses_of r.interfaces)
kind_entries r Routers = map (λ q. line_row (router_line Two q)) r.routers
kind_entries r Prefixes = map irr_row r.irr
kind_entries r Origins = map origins_row r.origins
kind_entries r Rules = map (λ x. line_row (rule_line x)) (flat_map rules_in r.rules)
kind_entries r Bogons = map (λ b. line_row (bogon_line b)) r.public.bogons
kind_entries r BogonAs = map (λ b. line_row (bogon_as_line b)) r.public.bogon_as
kind_entries r Transit = map (λ a. line_row (transit_line a)) r.public.transit
kind_entries r Roas = map (λ x. line_row (roa_line x)) r.public.roas

-- what they are in the dump
pub record AreLines (kind : Kind) (es : List Entry) (text : List ℕ) (lines : ℕ) : Type 0 where
  pub order : Ascends (line_key kind) es
  pub said : AllByRecursion (λ e. IsSome (line_said kind e)) es
  pub spelt : flat_map (row_text kind) es ≡ text
  pub counted : breaks text ≡ lines

-- no two rows are the same, and of each kind they are those of the registry
pub record AreRowsOf (r : Registry) (es : List Entry) : Type 0 where
  pub apart : Pairs (λ a b. a ≢ b) es
  pub each : (kind : Kind) → Same (kind_rows (place_of kind) es) (kind_entries r kind)

-- this text was added, but that memory may have run out
abbrev pub Added : {E : Type 0} → Result Bool E → List ℕ → List ℕ → List ℕ → Type 0
Added result old new text = IfOk result (λ done. IsTrue done × (new ≡ old ++ text))

-- where the rows are those of a valid registry, the lines of a kind were
abbrev pub KindAdded : {E : Type 0} → List Entry → Result Bool E → List ℕ → List ℕ → Kind → Type 0
KindAdded es result old new kind =
    (r : Registry) → Valid r → AreRowsOf r es → Added result old new (kind_lines Two (rows_of r) kind)
