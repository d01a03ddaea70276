-- Edits of members' lists and rules, and of public lists: the tests of each, and what it makes of the table.
use Rattle.std.specs.Prelude.{ℕ, suc, ◌+◌, Bool, List, [], ◌∷◌, length, true, not, ◌&&◌, nat_le, nat_lt, option_map}
use Rattle.std.specs.List.{list_all, position}
use Rattle.ixp_num.specs.declared.asn.Asn.{Asn}
use Rattle.ixp_num.specs.declared.family.Family.{Family}
use Rattle.ixp_num.specs.declared.prefix.Prefix.{Prefix}
use Rattle.ixp_num_tables.specs.Tables.{find, put, without, if_there}
use Rattle.ixp_num_tables.specs.Sums.{total}
use Rattle.ixp_registry.specs.declared.kind.Kind.TheVariants.{Members, Prefixes, Origins, Rules, Bogons as BogonRows, BogonAs as BogonAsRows, Transit as TransitRows, Roas as RoaRows}
use Rattle.ixp_registry.specs.declared.lists.IrrList.{IrrList}
use Rattle.ixp_registry.specs.declared.lists.OriginList.{OriginList}
use Rattle.ixp_registry.specs.declared.rules.MemberRule.{MemberRule}
use Rattle.ixp_registry.specs.declared.rules.RuleList.{RuleList}
use Rattle.ixp_registry.specs.declared.refusal.Refusal.TheVariants.{BadRule}
use Rattle.ixp_registry.specs.declared.refusal.RowKey.TheVariants.{Number}
use Rattle.ixp_registry.specs.declared.registry.Registry.{Registry}
use Rattle.ixp_registry.specs.Keys.{member_key, irr_key, origins_key, rules_key}
use Rattle.ixp_registry.specs.Weight.{weight}
use Rattle.ixp_registry.specs.Words.{is_action_of, pattern_has_bounds, range_ascends, roa_has_bounds}
use Rattle.ixp_machine_edits.specs.declared.edit.Edit.{Edit}
use Rattle.ixp_machine_edits.specs.declared.edit.Edit.TheVariants.{SetRules}
use Rattle.ixp_machine_edits.specs.declared.edit.NewRule.{NewRule}
use Rattle.ixp_registry_change.specs.declared.change.PublicList.{PublicList}
use Rattle.ixp_registry_change.specs.declared.change.PublicList.TheVariants.{Bogons, BogonAs, Transit, Roas}
use Rattle.ixp_machine_edits.specs.Tests.{Tests, refused, unless_there, beyond, too_heavy}

-- the row in its place, or no row where it would be a list without an item
abbrev pub put_unless_empty : {R X : Type 0} → (R → List ℕ) → R → List X → List R → List R
put_unless_empty key r [] rs = without key (key r) rs
put_unless_empty key r (x ∷ xs) rs = put key r rs

-- PutIrr
abbrev pub with_prefixes : ℕ → Family → List Prefix → List IrrList → List IrrList
with_prefixes member family ps ls =
    put_unless_empty irr_key (record { member = member; family = family; prefixes = ps }) ps ls

-- how many prefixes all lists have
abbrev pub prefixes_in : List IrrList → ℕ
prefixes_in ls = total (λ l. length l.prefixes) ls

abbrev pub put_irr_tests : Registry → ℕ → Family → List Prefix → Tests
put_irr_tests r member family ps =
    unless_there (find member_key (member ∷ []) r.members) Members (Number member)
    ∷ beyond Prefixes (length ps) 300000
    ∷ beyond Prefixes (prefixes_in (with_prefixes member family ps r.irr)) 4000000
    ∷ too_heavy (weight r.members r.interfaces r.routers (with_prefixes member family ps r.irr)) ∷ []

-- PutOrigins
abbrev pub with_origins : ℕ → Family → List Asn → List OriginList → List OriginList
with_origins member family asns ls =
    put_unless_empty origins_key (record { member = member; family = family; asns = asns }) asns ls

abbrev pub put_origins_tests : Registry → ℕ → Family → List Asn → Tests
put_origins_tests r member family asns =
    unless_there (find member_key (member ∷ []) r.members) Members (Number member)
    ∷ beyond Origins (length asns) 300000 ∷ []

-- SetRules
abbrev pub placed : ℕ → ℕ → List NewRule → List MemberRule
placed member place [] = []
placed member place (x ∷ xs) =
    record { member = member; place = place; way = x.way; peer = x.peer; prefix = x.prefix; action = x.action } ∷ placed member (suc place) xs

abbrev pub with_rules : ℕ → List NewRule → List RuleList → List RuleList
with_rules member xs ls = put_unless_empty rules_key
    (record { member = member; rules = placed member 1 xs }) xs ls

-- the action isn't one of the way, or the peer is AS 0
abbrev pub is_bad : NewRule → Bool
is_bad x = not (is_action_of x.way x.action && if_there x.peer true (λ p. nat_le 1 p.0))

abbrev pub set_rules_tests : Registry → ℕ → List NewRule → Tests
set_rules_tests r member xs =
    unless_there (find member_key (member ∷ []) r.members) Members (Number member)
    ∷ option_map (λ i. BadRule (i + 1)) (position is_bad xs)
    ∷ beyond Rules (length xs) 64 ∷ []

-- PutPublic
abbrev pub put_public_tests : PublicList → Tests
put_public_tests (Bogons xs) =
    refused (not (list_all pattern_has_bounds xs)) (BadRule 0) ∷ beyond BogonRows (length xs) 10000 ∷ []
put_public_tests (BogonAs xs) =
    refused (not (list_all range_ascends xs)) (BadRule 0) ∷ beyond BogonAsRows (length xs) 10000 ∷ []
put_public_tests (Transit xs) = beyond TransitRows (length xs) 10000 ∷ []
put_public_tests (Roas xs) =
    refused (not (list_all roa_has_bounds xs)) (BadRule 0) ∷ beyond RoaRows (length xs) 1000000 ∷ []

-- what the type of a request keeps: the rules of a list can be counted in 32 bits
abbrev pub has_few_rules : Edit → Bool
has_few_rules (SetRules member rules) = nat_lt (length rules) 4294967295
has_few_rules e = true
