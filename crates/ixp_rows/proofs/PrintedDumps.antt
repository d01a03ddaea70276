-- The text of rows is a dump of their lines.
use Rattle.std.proofs.Common.{◌≡◌, ℕ, ◌+◌, ◌<◌, List, [], ◌∷◌, ◌++◌, length, length-append, append-nil, take, map, flat_map, Ok, refl, sym, ap, ◌∙◌, subst, arith}
use Rattle.std.specs.List.{AllByRecursion}
use Rattle.std.specs.declared.cmp.Ordering.TheVariants.{Less}
use Rattle.std.proofs.lemmas.Grind.{flat_map-append}
use Rattle.std.proofs.lemmas.List.{length-map}
use Rattle.ixp_num_tables.specs.Tables.{order, Ascends}
use Rattle.ixp_registry.specs.Keys.{member_key, contact_key, api_key_key, switch_key, port_key, vlan_key, interface_row_key, address_key, router_key, member_prefix_key, member_origin_key, rule_key}
use Rattle.ixp_num_sorted.specs.Keys.{pattern_key, asn_key, range_key, roa_key}
use Rattle.ixp_registry.specs.declared.lists.MemberOrigin.{MemberOrigin}
use Rattle.ixp_registry.specs.declared.router.Router.{Router}
use Rattle.ixp_registry.specs.declared.rows.Rows.{Rows}
use Rattle.ixp_registry.specs.declared.kind.Kind.{Kind}
use Rattle.ixp_registry.specs.declared.kind.Kind.TheVariants.{Sites, Members, Contacts, Keys, Switches, Ports, Vlans, Interfaces, Addresses, Routers, Prefixes, Origins, Rules, Bogons, BogonAs, Transit, Roas}
use Rattle.ixp_rows_lines.specs.declared.version.Version.{Version}
use Rattle.ixp_rows_lines.specs.declared.version.Version.TheVariants.{One, Two}
use Rattle.ixp_rows_lines.specs.Lines.{Line, place_of, line_text, IsLine, IsOfVersion, field_key, key_length, key_of, version_again, site_line, member_line, contact_line, key_line, switch_line, port_line, vlan_line, interface_line, address_line, router_line, prefix_line, origin_line, rule_line, bogon_line, bogon_as_line, transit_line, roa_line}
use Rattle.ixp_rows.specs.Reading.{head_text, end_text}
use Rattle.ixp_rows.specs.Texts.{lines_by, lines_text, rows_count, dump_text}
use Rattle.ixp_rows.specs.Answers.{row_lines, AllAscend, SiteFirst, IsDump, DumpAnswer}
use Rattle.ixp_rows.proofs.Standing.{heads_same, heads_less}

-- texts
by_row : {R : Type 0} (line : R → Line) (rows : List R) → flat_map line_text (map line rows) ≡ lines_by line rows
by_row line [] = refl
by_row line (row ∷ rows) = ap (λ x. line_text (line row) ++ x) (by_row line rows)

text_step : {R : Type 0} (line : R → Line) (rows : List R) (ls : List Line) (t : List ℕ) → flat_map line_text ls ≡ t → flat_map line_text (map line rows ++ ls) ≡ lines_by line rows ++ t
text_step line rows ls t e = flat_map-append line_text (map line rows) ls ∙ (ap (λ x. x ++ flat_map line_text ls) (by_row line rows) ∙ ap (λ x. lines_by line rows ++ x) e)

lines_are_text : (version : Version) (w : Rows) → flat_map line_text (row_lines version w) ≡ lines_text version w
unfolding row_lines
lines_are_text version w =
    ap (λ x. line_text (site_line w.site) ++ x)
    (text_step member_line w.members _ _
    (text_step contact_line w.contacts _ _
    (text_step key_line w.keys _ _
    (text_step switch_line w.switches _ _
    (text_step port_line w.ports _ _
    (text_step vlan_line w.vlans _ _
    (text_step interface_line w.interfaces _ _
    (text_step address_line w.addresses _ _
    (text_step (router_line version) w.routers _ _
    (text_step prefix_line w.prefixes _ _
    (text_step origin_line w.origins _ _
    (text_step rule_line w.rules _ _
    (text_step bogon_line w.public.bogons _ _
    (text_step bogon_as_line w.public.bogon_as _ _
    (text_step transit_line w.public.transit _ _
    (by_row roa_line w.public.roas))))))))))))))))

-- their number
count_step : {R : Type 0} (line : R → Line) (rows : List R) (ls : List Line) (n : ℕ) → length ls ≡ n → length (map line rows ++ ls) ≡ length rows + n
count_step line rows ls n e =
    let long = length-append (map line rows) ls in
    let each = length-map rows line in
    omega (arith, long, each, e)

last_count : {R : Type 0} (line : R → Line) (rows : List R) → length (map line rows) ≡ length rows + 0
last_count line rows = let each = length-map rows line in omega (arith, each)

one_more : (ls : List Line) (l : Line) (n : ℕ) → length ls ≡ n → length (l ∷ ls) ≡ 1 + n
one_more ls l n e = omega (arith, e)

lines_count : (version : Version) (w : Rows) → length (row_lines version w) ≡ rows_count w
unfolding row_lines
lines_count version w =
    one_more _ (site_line w.site) _
    (count_step member_line w.members _ _
    (count_step contact_line w.contacts _ _
    (count_step key_line w.keys _ _
    (count_step switch_line w.switches _ _
    (count_step port_line w.ports _ _
    (count_step vlan_line w.vlans _ _
    (count_step interface_line w.interfaces _ _
    (count_step address_line w.addresses _ _
    (count_step (router_line version) w.routers _ _
    (count_step prefix_line w.prefixes _ _
    (count_step origin_line w.origins _ _
    (count_step rule_line w.rules _ _
    (count_step bogon_line w.public.bogons _ _
    (count_step bogon_as_line w.public.bogon_as _ _
    (count_step transit_line w.public.transit _ _
    (last_count roa_line w.public.roas))))))))))))))))

-- the text of a dump by its lines
pub dump_by_lines : (version : Version) (w : Rows) → dump_text version w ≡ head_text version ++ (flat_map line_text (row_lines version w) ++ end_text (length (row_lines version w)))
dump_by_lines version w =
    ap (λ x. head_text version ++ (x ++ end_text (rows_count w))) (sym (lines_are_text version w))
    ∙ ap (λ n. head_text version ++ (flat_map line_text (row_lines version w) ++ end_text n)) (sym (lines_count version w))

-- lines of kinds behind a place, ascending
pub record Above (place : ℕ) (ls : List Line) : Type 0 where
  pub places : AllByRecursion (λ l. place < place_of l.kind) ls
  pub ascends : Ascends key_of ls

none_above : (place : ℕ) → Above place []
none_above place = record { places = tt; ascends = tt }

module _ {R : Type 0} (kind : Kind) (line : R → Line) (key : R → List ℕ) (of : (row : R) → (line row).kind ≡ kind) (keyed : (row : R) → key_of (line row) ≡ place_of kind ∷ key row) where
  below_rows : (row : R) (rows : List R) (ls : List Line) → AllByRecursion (λ s. order (key row) (key s) ≡ Less) rows → AllByRecursion (λ l. place_of kind < place_of l.kind) ls
      → AllByRecursion (λ l. order (key_of (line row)) (key_of l) ≡ Less) (map line rows ++ ls)
  below_rows row [] ls rest places = by_lines ls places
    where
      by_lines : (ls : List Line) → AllByRecursion (λ l. place_of kind < place_of l.kind) ls → AllByRecursion (λ l. order (key_of (line row)) (key_of l) ≡ Less) ls
      by_lines [] places = tt
      by_lines (l ∷ ls) places = (
        ap (λ k. order k (key_of l)) (keyed row) ∙ heads_less (place_of kind) (place_of l.kind) (key row) (flat_map field_key (take (key_length l.kind) l.fields)) places.0,
        by_lines ls places.1,
      )
  below_rows row (s ∷ rows) ls rest places = (
    (ap (λ k. order k (key_of (line s))) (keyed row) ∙ (ap (λ k. order (place_of kind ∷ key row) k) (keyed s) ∙ heads_same (place_of kind) (key row) (key s))) ∙ rest.0,
    below_rows row rows ls rest.1 places,
  )

  rows_ascend : (rows : List R) (ls : List Line) → Ascends key rows → Above (place_of kind) ls → Ascends key_of (map line rows ++ ls)
  rows_ascend [] ls up above = above.ascends
  rows_ascend (row ∷ rows) ls up above = (below_rows row rows ls up.0 above.places, rows_ascend rows ls up.1 above)

  rows_places : (place : ℕ) → place < place_of kind → (rows : List R) (ls : List Line) → AllByRecursion (λ l. place_of kind < place_of l.kind) ls → AllByRecursion (λ l. place < place_of l.kind) (map line rows ++ ls)
  rows_places place low [] ls places = by_lines ls places
    where
      by_lines : (ls : List Line) → AllByRecursion (λ l. place_of kind < place_of l.kind) ls → AllByRecursion (λ l. place < place_of l.kind) ls
      by_lines [] places = tt
      by_lines (l ∷ ls) places = (omega (arith, low, places.0), by_lines ls places.1)
  rows_places place low (row ∷ rows) ls places = (subst (λ k. place < place_of k) (sym (of row)) low, rows_places place low rows ls places)

  step : (place : ℕ) → place < place_of kind → (rows : List R) → Ascends key rows → (ls : List Line) → Above (place_of kind) ls → Above place (map line rows ++ ls)
  step place low rows up ls above = record { places = rows_places place low rows ls above.places; ascends = rows_ascend rows ls up above }

  last_step : (place : ℕ) → place < place_of kind → (rows : List R) → Ascends key rows → Above place (map line rows)
  last_step place low rows up = subst (Above place) (append-nil (map line rows)) (step place low rows up [] (none_above (place_of kind)))

pub router_keyed : (version : Version) (row : Router) → key_of (router_line version row) ≡ place_of Routers ∷ router_key row
router_keyed One row = ap (λ k. place_of Routers ∷ k) (append-nil row.handle)
router_keyed Two row = ap (λ k. place_of Routers ∷ k) (append-nil row.handle)

router_of : (version : Version) (row : Router) → (router_line version row).kind ≡ Routers
router_of One row = refl
router_of Two row = refl

pub origin_keyed : (row : MemberOrigin) → key_of (origin_line row) ≡ place_of Origins ∷ member_origin_key row
origin_keyed row = ap (λ n. place_of Origins ∷ row.member ∷ n ∷ row.asn.0 ∷ []) (version_again row.family)

-- the lines of rows that ascend do so
lines_ascend : (version : Version) (w : Rows) → AllAscend w → Ascends key_of (row_lines version w)
unfolding row_lines
lines_ascend version w up =
    rows_ascend Sites site_line (λ s. []) (λ row. refl) (λ row. refl) (w.site ∷ []) _ (tt, tt)
    (step Members member_line member_key (λ row. refl) (λ row. refl) 1 (omega arith) w.members up.members _
    (step Contacts contact_line contact_key (λ row. refl) (λ row. refl) 2 (omega arith) w.contacts up.contacts _
    (step Keys key_line api_key_key (λ row. refl) (λ row. refl) 3 (omega arith) w.keys up.keys _
    (step Switches switch_line switch_key (λ row. refl) (λ row. refl) 4 (omega arith) w.switches up.switches _
    (step Ports port_line port_key (λ row. refl) (λ row. refl) 5 (omega arith) w.ports up.ports _
    (step Vlans vlan_line vlan_key (λ row. refl) (λ row. refl) 6 (omega arith) w.vlans up.vlans _
    (step Interfaces interface_line interface_row_key (λ row. refl) (λ row. refl) 7 (omega arith) w.interfaces up.interfaces _
    (step Addresses address_line address_key (λ row. refl) (λ row. refl) 8 (omega arith) w.addresses up.addresses _
    (step Routers (router_line version) router_key (router_of version) (router_keyed version) 9 (omega arith) w.routers up.routers _
    (step Prefixes prefix_line member_prefix_key (λ row. refl) (λ row. refl) 10 (omega arith) w.prefixes up.prefixes _
    (step Origins origin_line member_origin_key (λ row. refl) origin_keyed 11 (omega arith) w.origins up.origins _
    (step Rules rule_line rule_key (λ row. refl) (λ row. refl) 12 (omega arith) w.rules up.rules _
    (step Bogons bogon_line pattern_key (λ row. refl) (λ row. refl) 13 (omega arith) w.public.bogons up.bogons _
    (step BogonAs bogon_as_line range_key (λ row. refl) (λ row. refl) 14 (omega arith) w.public.bogon_as up.bogon_as _
    (step Transit transit_line asn_key (λ row. refl) (λ row. refl) 15 (omega arith) w.public.transit up.transit _
    (last_step Roas roa_line roa_key (λ row. refl) (λ row. refl) 16 (omega arith) w.public.roas up.roas))))))))))))))))

site_stands : (version : Version) (w : Rows) → SiteFirst (row_lines version w)
unfolding row_lines
site_stands version w = refl

-- the text of rows that ascend, each with a line of the format, is a dump of their lines
pub printed : (version : Version) (w : Rows) → AllAscend w → AllByRecursion (IsLine version) (row_lines version w) → IsDump version (row_lines version w) (dump_text version w)
printed version w up lawful = record {
  parts = dump_by_lines version w;
  each = lawful;
  ascends = lines_ascend version w up;
  site = site_stands version w;
}

-- and these rows are the answer, where their version tells all of them
pub printed_answer : (version : Version) (w : Rows) → AllAscend w → AllByRecursion (IsLine version) (row_lines version w) → AllByRecursion (IsOfVersion version) w.routers → DumpAnswer version (dump_text version w) (Ok w)
printed_answer version w up lawful of_version = (printed version w up lawful, of_version)
