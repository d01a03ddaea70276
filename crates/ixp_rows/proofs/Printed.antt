-- What is printed of a registry.
use Rattle.std.proofs.Common.{◌≡◌, ◌+◌, List, ◌∷◌, ◌++◌, length, map, flat_map, append-nil, append_assoc, length-append, refl, ap, ◌∙◌}
use Rattle.std.proofs.lemmas.List.{length-map}
use Rattle.std.proofs.lemmas.Grind.{flat_map-append}
use Rattle.ixp_registry.specs.declared.network.Interface.{Interface}
use Rattle.ixp_registry.specs.declared.lists.IrrList.{IrrList}
use Rattle.ixp_registry.specs.declared.lists.OriginList.{OriginList}
use Rattle.ixp_registry.specs.declared.rows.Rows.{Rows}
use Rattle.ixp_registry.specs.declared.rules.RuleList.{RuleList}
use Rattle.ixp_registry.specs.Registries.{address_rows, addresses_of, prefixes_of, origins_of, rules_in}
use Rattle.ixp_rows_lines.specs.declared.version.Version.{Version}
use Rattle.ixp_rows_lines.specs.Lines.{Line, line_text, address_line, prefix_line, origin_line, rule_line, roa_line}
use Rattle.ixp_rows.specs.Reading.{sum}
use Rattle.ixp_rows.specs.Texts.{lines_by, lines_text, rows_count}
use Rattle.ixp_rows.specs.Printing.{all_kinds, kind_lines, kind_count}

pub addresses_counted : (i : Interface) (is : List Interface) → length (flat_map addresses_of (i ∷ is)) ≡ length (addresses_of i) + length (flat_map addresses_of is)
addresses_counted i is = length-append (addresses_of i) (flat_map addresses_of is)

pub prefixes_counted : (l : IrrList) (ls : List IrrList) → length (flat_map prefixes_of (l ∷ ls)) ≡ length l.prefixes + length (flat_map prefixes_of ls)
prefixes_counted l ls =
    length-append (prefixes_of l) (flat_map prefixes_of ls)
    ∙ ap (λ n. n + length (flat_map prefixes_of ls)) (length-map l.prefixes (λ p. record { member = l.member; prefix = p }))

pub origins_counted : (l : OriginList) (ls : List OriginList) → length (flat_map origins_of (l ∷ ls)) ≡ length l.asns + length (flat_map origins_of ls)
origins_counted l ls =
    length-append (origins_of l) (flat_map origins_of ls)
    ∙ ap (λ n. n + length (flat_map origins_of ls)) (length-map l.asns (λ a. record { member = l.member; family = l.family; asn = a }))

pub rules_counted : (l : RuleList) (ls : List RuleList) → length (flat_map rules_in (l ∷ ls)) ≡ length l.rules + length (flat_map rules_in ls)
rules_counted l ls = length-append (rules_in l) (flat_map rules_in ls)

pub all_counted : (w : Rows) → sum (map (kind_count w) all_kinds) ≡ rows_count w
all_counted w = refl

pub all_lines : (version : Version) (w : Rows) → flat_map (kind_lines version w) all_kinds ≡ lines_text version w
all_lines version w = rw (append-nil (lines_by roa_line w.public.roas)) refl

-- the lines of rows one behind the other
pub lines_more : {R A : Type 0} (line : R → Line) (rows_in : A → List R) (x : A) (xs : List A)
    → lines_by line (flat_map rows_in (x ∷ xs)) ≡ lines_by line (rows_in x) ++ lines_by line (flat_map rows_in xs)
lines_more line rows_in x xs = flat_map-append (λ row. line_text (line row)) (rows_in x) (flat_map rows_in xs)

pub addresses_more : (i : Interface) (is : List Interface) → lines_by address_line (flat_map addresses_of (i ∷ is)) ≡ lines_by address_line (address_rows i.number i.v4) ++ (lines_by address_line (address_rows i.number i.v6) ++ lines_by address_line (flat_map addresses_of is))
addresses_more i is =
    lines_more address_line addresses_of i is
    ∙ (ap (λ t. t ++ lines_by address_line (flat_map addresses_of is)) (flat_map-append (λ row. line_text (address_line row)) (address_rows i.number i.v4) (address_rows i.number i.v6))
    ∙ append_assoc (lines_by address_line (address_rows i.number i.v4)) (lines_by address_line (address_rows i.number i.v6)) (lines_by address_line (flat_map addresses_of is)))

pub lists_more : (l : IrrList) (ls : List IrrList) → lines_by prefix_line (flat_map prefixes_of (l ∷ ls)) ≡ lines_by prefix_line (prefixes_of l) ++ lines_by prefix_line (flat_map prefixes_of ls)
lists_more l ls = lines_more prefix_line prefixes_of l ls

pub origin_lists_more : (l : OriginList) (ls : List OriginList) → lines_by origin_line (flat_map origins_of (l ∷ ls)) ≡ lines_by origin_line (origins_of l) ++ lines_by origin_line (flat_map origins_of ls)
origin_lists_more l ls = lines_more origin_line origins_of l ls

pub rule_lists_more : (l : RuleList) (ls : List RuleList) → lines_by rule_line (flat_map rules_in (l ∷ ls)) ≡ lines_by rule_line (rules_in l) ++ lines_by rule_line (flat_map rules_in ls)
rule_lists_more l ls = lines_more rule_line rules_in l ls
