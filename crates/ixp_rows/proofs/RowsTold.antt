-- The lines of rows tell the rows.
use Rattle.std.proofs.Common.{◌≡◌, ℕ, List, [], ◌∷◌, get_or, refl, sym, ap, ◌∙◌}
use Rattle.std.specs.List.{AllByRecursion}
use Rattle.ixp_registry.specs.declared.rows.Rows.{Rows}
use Rattle.ixp_registry.specs.declared.rules.MemberRule.{MemberRule}
use Rattle.ixp_rows_lines.specs.declared.version.Version.{Version}
use Rattle.ixp_rows_lines.specs.Fields.{Field, Word, Fits}
use Rattle.ixp_rows_lines.specs.Lines.{Line, IsLine, IsOfVersion, action_word, actions, site_line, member_line, contact_line, key_line, switch_line, port_line, vlan_line, interface_line, address_line, router_line, prefix_line, origin_line, rule_line, bogon_line, bogon_as_line, transit_line, roa_line}
use Rattle.ixp_rows_lines.proofs.Telling.{site_told, member_told, contact_told, key_told, switch_told, port_told, vlan_told, interface_told, address_told, router_told, prefix_row_told, origin_told, rule_told, bogon_told, bogon_as_told, transit_told, roa_told}
use Rattle.ixp_rows.specs.Groups.{fields_by, row_fields}
use Rattle.ixp_rows.specs.Answers.{row_lines}
use Rattle.ixp_rows.proofs.DumpsSpelt.{dump_kinds}
use Rattle.ixp_rows.proofs.Standing.{Consecutive}
use Rattle.ixp_rows.proofs.Answering.{row_lines_are}
use Rattle.ixp_rows.proofs.KindsApart.{sections_same}
use Rattle.ixp_rows.proofs.Parts.{of_rows}
use Rattle.ixp_num_tables.proofs.Orders.{all_weaker}

pub all_kinds : (version : Version) (t : List ℕ) → Consecutive version t 0 dump_kinds
all_kinds version t = (refl, (refl, (refl, (refl, (refl, (refl, (refl, (refl, (refl, (refl, (refl, (refl, (refl, (refl, (refl, (refl, (refl, tt)))))))))))))))))

module _ {R : Type 0} (line : R → Line) (P : R → Type 0) (told : (a b : R) → P a → P b → (line a).fields ≡ (line b).fields → a ≡ b) where
  first_of : (x y : List Field) (xs ys : List (List Field)) → x ∷ xs ≡ y ∷ ys → x ≡ y
  first_of x y xs ys e = cc

  others_of : (x y : List Field) (xs ys : List (List Field)) → x ∷ xs ≡ y ∷ ys → xs ≡ ys
  others_of x y xs ys e = cc

  rows_by : (xs ys : List R) → AllByRecursion P xs → AllByRecursion P ys → fields_by line xs ≡ fields_by line ys → xs ≡ ys
  rows_by [] [] here there e = refl
  rows_by [] (y ∷ ys) here there e = absurd cc
  rows_by (x ∷ xs) [] here there e = absurd cc
  rows_by (x ∷ xs) (y ∷ ys) here there e =
      ap (λ r. r ∷ xs) (told x y here.0 there.0 (first_of (line x).fields (line y).fields (fields_by line xs) (fields_by line ys) e))
      ∙ ap (λ rs. y ∷ rs) (rows_by xs ys here.1 there.1 (others_of (line x).fields (line y).fields (fields_by line xs) (fields_by line ys) e))

module _ {R : Type 0} where
  abbrev pub Any_row : R → Type 0
  Any_row row = Unit {0}

  pub all_rows : (rows : List R) → AllByRecursion Any_row rows
  all_rows [] = tt
  all_rows (row ∷ rows) = (tt, all_rows rows)

  plain_rows : (line : R → Line) → ((a b : R) → (line a).fields ≡ (line b).fields → a ≡ b) → (xs ys : List R) → fields_by line xs ≡ fields_by line ys → xs ≡ ys
  plain_rows line told xs ys e = rows_by line Any_row (λ a b here there e. told a b e) xs ys (all_rows xs) (all_rows ys) e

abbrev IsLawfulRule : MemberRule → Type 0
IsLawfulRule r = Fits actions (Word (action_word r.action))

rules_lawful : (version : Version) (w : Rows) → AllByRecursion (IsLine version) (row_lines version w) → AllByRecursion IsLawfulRule w.rules
rules_lawful version w all =
    all_weaker (λ row. IsLine version (rule_line row)) IsLawfulRule (λ row is. is.1.1.1.1.1.0) w.rules (of_rows (IsLine version) version w all).rules

-- rows by their fields
abbrev at : ℕ → List (List (List Field)) → List (List Field)
at n xss = get_or xss n []

by_fields : (version : Version) (a b : Rows) → AllByRecursion IsLawfulRule a.rules → AllByRecursion IsLawfulRule b.rules → AllByRecursion (IsOfVersion version) a.routers → AllByRecursion (IsOfVersion version) b.routers
    → row_fields version a ≡ row_fields version b → a ≡ b
by_fields version a b a_rules b_rules a_routers b_routers e =
    let site = site_told a.site b.site (first_field (site_line a.site).fields (site_line b.site).fields (ap (at 0) e)) in
    let members = plain_rows member_line member_told a.members b.members (ap (at 1) e) in
    let contacts = plain_rows contact_line contact_told a.contacts b.contacts (ap (at 2) e) in
    let keys = plain_rows key_line key_told a.keys b.keys (ap (at 3) e) in
    let switches = plain_rows switch_line switch_told a.switches b.switches (ap (at 4) e) in
    let ports = plain_rows port_line port_told a.ports b.ports (ap (at 5) e) in
    let vlans = plain_rows vlan_line vlan_told a.vlans b.vlans (ap (at 6) e) in
    let interfaces = plain_rows interface_line interface_told a.interfaces b.interfaces (ap (at 7) e) in
    let addresses = plain_rows address_line address_told a.addresses b.addresses (ap (at 8) e) in
    let routers = rows_by (router_line version) (IsOfVersion version) (router_told version) a.routers b.routers a_routers b_routers (ap (at 9) e) in
    let prefixes = plain_rows prefix_line prefix_row_told a.prefixes b.prefixes (ap (at 10) e) in
    let origins = plain_rows origin_line origin_told a.origins b.origins (ap (at 11) e) in
    let rules = rows_by rule_line IsLawfulRule (λ r s here there e. rule_told r s here e) a.rules b.rules a_rules b_rules (ap (at 12) e) in
    let bogons = plain_rows bogon_line bogon_told a.public.bogons b.public.bogons (ap (at 13) e) in
    let bogon_as = plain_rows bogon_as_line bogon_as_told a.public.bogon_as b.public.bogon_as (ap (at 14) e) in
    let transit = plain_rows transit_line transit_told a.public.transit b.public.transit (ap (at 15) e) in
    let roas = plain_rows roa_line roa_told a.public.roas b.public.roas (ap (at 16) e) in
    λ i. record {
      site = site i;
      members = members i;
      contacts = contacts i;
      keys = keys i;
      switches = switches i;
      ports = ports i;
      vlans = vlans i;
      interfaces = interfaces i;
      addresses = addresses i;
      routers = routers i;
      prefixes = prefixes i;
      origins = origins i;
      rules = rules i;
      public = record { bogons = bogons i; bogon_as = bogon_as i; transit = transit i; roas = roas i };
    }
  where
    first_field : (x y : List Field) → ◌≡◌ {A = List (List Field)} (x ∷ []) (y ∷ []) → x ≡ y
    first_field x y e = cc

-- rows with the same lines, each of the format, are the same
pub rows_told : (version : Version) (a b : Rows) → AllByRecursion (IsLine version) (row_lines version a) → AllByRecursion (IsLine version) (row_lines version b) → AllByRecursion (IsOfVersion version) a.routers
    → AllByRecursion (IsOfVersion version) b.routers → row_lines version a ≡ row_lines version b → a ≡ b
rows_told version a b a_lines b_lines a_routers b_routers e =
    by_fields version a b (rules_lawful version a a_lines) (rules_lawful version b b_lines) a_routers b_routers
    (sections_same version [] dump_kinds 0 (all_kinds version []) (row_fields version a) (row_fields version b) refl refl
    (row_lines_are version a ∙ (e ∙ sym (row_lines_are version b))))
