-- What reading a dump answers, said of its lines. They are counted from 1, and the head is the first.
use Rattle.std.specs.Prelude.{◌≡◌, ◌≢◌, ℕ, ◌+◌, ◌-◌, ◌<◌, ◌⊎◌, List, [], ◌∷◌, ◌++◌, length, map, flat_map, Some, slice_get, Result, Ok, Err}
use Rattle.std.specs.List.{AllByRecursion}
use Rattle.std.specs.declared.cmp.Ordering.{Ordering}
use Rattle.std.specs.declared.cmp.Ordering.TheVariants.{Equal, Greater}
use Rattle.ixp_num_tables.specs.Tables.{order, Ascends}
use Rattle.ixp_registry.specs.Keys.{member_key, contact_key, api_key_key, switch_key, port_key, vlan_key, interface_row_key, address_key, router_key, member_prefix_key, member_origin_key, rule_key}
use Rattle.ixp_num_sorted.specs.Keys.{pattern_key, asn_key, range_key, roa_key}
use Rattle.ixp_registry.specs.declared.rows.Rows.{Rows}
use Rattle.ixp_registry.specs.declared.kind.Kind.TheVariants.{Sites}
use Rattle.ixp_rows_lines.specs.declared.version.Version.{Version}
use Rattle.ixp_rows_lines.specs.Lines.{Line, IsLine, IsOfVersion, line_text, key_of, site_line, member_line, contact_line, key_line, switch_line, port_line, vlan_line, interface_line, address_line, router_line, prefix_line, origin_line, rule_line, bogon_line, bogon_as_line, transit_line, roa_line}
use Rattle.ixp_rows.specs.declared.fault.DumpFault.{DumpFault}
use Rattle.ixp_rows.specs.declared.fault.DumpFault.TheVariants.{BadLine, Order, Twice, Invalid, NoMemory}
use Rattle.ixp_rows.specs.Reading.{head_text, end_text}

-- the lines of rows, kind by kind
unfoldable pub row_lines : Version → Rows → List Line
row_lines version w =
    site_line w.site
    ∷ (map member_line w.members ++ (map contact_line w.contacts
    ++ (map key_line w.keys ++ (map switch_line w.switches
    ++ (map port_line w.ports ++ (map vlan_line w.vlans
    ++ (map interface_line w.interfaces ++ (map address_line w.addresses
    ++ (map (router_line version) w.routers
    ++ (map prefix_line w.prefixes ++ (map origin_line w.origins ++ (map rule_line w.rules
    ++ (map bogon_line w.public.bogons ++
    (map bogon_as_line w.public.bogon_as ++ (map transit_line w.public.transit
    ++ map roa_line w.public.roas)))))))))))))))

-- the rows of each kind ascend, as tables and the readers keep them
pub record AllAscend (w : Rows) : Type 0 where
  pub members : Ascends member_key w.members
  pub contacts : Ascends contact_key w.contacts
  pub keys : Ascends api_key_key w.keys
  pub switches : Ascends switch_key w.switches
  pub ports : Ascends port_key w.ports
  pub vlans : Ascends vlan_key w.vlans
  pub interfaces : Ascends interface_row_key w.interfaces
  pub addresses : Ascends address_key w.addresses
  pub routers : Ascends router_key w.routers
  pub prefixes : Ascends member_prefix_key w.prefixes
  pub origins : Ascends member_origin_key w.origins
  pub rules : Ascends rule_key w.rules
  pub bogons : Ascends pattern_key w.public.bogons
  pub bogon_as : Ascends range_key w.public.bogon_as
  pub transit : Ascends asn_key w.public.transit
  pub roas : Ascends roa_key w.public.roas

-- the first line, if there is one, is the site's
abbrev pub SiteFirst : List Line → Type 0
SiteFirst [] = Unit {0}
SiteFirst (line ∷ lines) = line.kind ≡ Sites

-- The text is a dump's head, then these lines, each of the format and above those before it, the first one
-- the site's, and then the rest.
pub record Stands (version : Version) (t : List ℕ) (lines : List Line) (rest : List ℕ) : Type 0 where
  pub parts : t ≡ head_text version ++ (flat_map line_text lines ++ rest)
  pub each : AllByRecursion (IsLine version) lines
  pub ascends : Ascends key_of lines
  pub site : SiteFirst lines

-- a line of the format begins the text
pub record BeginsLine (version : Version) (line : Line) (t : List ℕ) : Type 0 where
  pub more : List ℕ
  pub is_line : IsLine version line
  pub text : t ≡ line_text line ++ more

-- the text is a dump of these lines: they stand, and behind them the end with their number alone
abbrev pub IsDump : Version → List Line → List ℕ → Type 0
IsDump version lines t = Stands version t lines (end_text (length lines))

-- what stands behind lines is of the format: behind none the site's line, behind some a line or the end with
-- their number
abbrev pub IsLineOrEnd : Version → List Line → List ℕ → Type 0
IsLineOrEnd version [] rest = (line : Line) × (line.kind ≡ Sites) × BeginsLine version line rest
IsLineOrEnd version (l ∷ ls) rest =
    ((line : Line) × BeginsLine version line rest)
    ⊎ ((more : List ℕ) × (rest ≡ end_text (length (l ∷ ls)) ++ more))

-- a line of the format begins the rest, and the last of the lines compares so with it
pub record Clashes (how : Ordering) (version : Version) (lines : List Line) (rest : List ℕ) : Type 0 where
  pub last : Line
  pub line : Line
  pub is_last : slice_get lines (length lines - 1) ≡ Some last
  pub begins : BeginsLine version line rest
  pub compare : order (key_of last) (key_of line) ≡ how

-- the text doesn't begin with the head
abbrev pub HasNoHead : Version → List ℕ → Type 0
HasNoHead version t = (rest : List ℕ) → t ≢ head_text version ++ rest

-- what stands on line n is neither a line nor the end
abbrev pub IsBadLine : Version → List ℕ → ℕ → Type 0
IsBadLine version t n = (lines : List Line) × (rest : List ℕ) × Stands version t lines rest
    × (n ≡ length lines + 2) × ¬ (IsLineOrEnd version lines rest)

-- on line n stands something behind the end
abbrev pub IsBehindEnd : Version → List ℕ → ℕ → Type 0
IsBehindEnd version t n =
    (lines : List Line) × (c : ℕ) × (more : List ℕ)
    × Stands version t lines (end_text (length lines) ++ c ∷ more)
    × (0 < length lines) × (n ≡ length lines + 3)

-- line n clashes so with the line before it
abbrev pub ClashesAt : Ordering → Version → List ℕ → ℕ → Type 0
ClashesAt how version t n = (lines : List Line) × (rest : List ℕ) × Stands version t lines rest
    × (n ≡ length lines + 2) × Clashes how version lines rest

-- The rows of whose lines the text is a dump, with nothing that its version doesn't tell, or its first faulty
-- line. Rules that rows break are no matter of reading.
abbrev pub DumpAnswer : Version → List ℕ → Result Rows DumpFault → Type 0
DumpAnswer version t (Ok rows) =
    IsDump version (row_lines version rows) t × AllByRecursion (IsOfVersion version) rows.routers
DumpAnswer version t (Err (BadLine n)) =
    ((n ≡ 1) × HasNoHead version t) ⊎ IsBadLine version t n ⊎ IsBehindEnd version t n
DumpAnswer version t (Err (Order n)) = ClashesAt Greater version t n
DumpAnswer version t (Err (Twice n)) = ClashesAt Equal version t n
DumpAnswer version t (Err (Invalid rule n)) = ⊥
DumpAnswer version t (Err NoMemory) = Unit {0}
