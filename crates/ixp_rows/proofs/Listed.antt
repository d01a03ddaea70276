-- Rows that make lists.
use Rattle.std.specs.Prelude.{⊤}
use Rattle.std.proofs.Common.{◌≡◌, ◌≢◌, ℕ, ◌<◌, ◌⊎◌, inl, inr, List, [], ◌∷◌, ◌++◌, append_assoc, append-nil, map, flat_map, refl, sym, ap, ◌∙◌, subst, arith}
use Rattle.std.proofs.lemmas.Grind.{flat_map-append}
use Rattle.std.specs.List.{AllByRecursion}
use Rattle.std.specs.declared.cmp.Ordering.TheVariants.{Less}
use Rattle.ixp_num.specs.AddressForms.{version_of}
use Rattle.ixp_num.specs.declared.family.Family.{Family}
use Rattle.ixp_num.specs.declared.family.Family.TheVariants.{V4, V6}
use Rattle.ixp_num.specs.declared.asn.Asn.{Asn}
use Rattle.ixp_num.specs.declared.prefix.Prefix.{Prefix}
use Rattle.ixp_num_tables.specs.Tables.{order, Ascends}
use Rattle.ixp_num_tables.proofs.Orders.{chained}
use Rattle.ixp_num_tables.proofs.Places.{Ascends_before}
use Rattle.ixp_num_tables.proofs.Views.{ascends_all}
use Rattle.ixp_registry.specs.declared.lists.IrrList.{IrrList}
use Rattle.ixp_registry.specs.declared.lists.OriginList.{OriginList}
use Rattle.ixp_registry.specs.declared.lists.MemberPrefix.{MemberPrefix}
use Rattle.ixp_registry.specs.declared.lists.MemberOrigin.{MemberOrigin}
use Rattle.ixp_registry.specs.Keys.{member_prefix_key, member_origin_key, rule_key, irr_key, origins_key, rules_key}
use Rattle.ixp_num_sorted.specs.Keys.{prefix_key, asn_key}
use Rattle.ixp_registry.specs.declared.rules.MemberRule.{MemberRule}
use Rattle.ixp_registry.specs.declared.rules.RuleList.{RuleList}
use Rattle.ixp_registry.specs.Registries.{prefixes_of, origins_of, rules_in}
use Rattle.ixp_registry_laws.specs.WellFormed.{IsPrefixList, IsOriginList, IsRuleList}
use Rattle.ixp_num_tables.proofs.FirstNumbers.{key_up, same_first, less_first}
use Rattle.ixp_rows.specs.Gathering.{AreListed}
use Rattle.ixp_rows.proofs.Gathered.{all_more, all_behind}

module _ {R I L : Type 0} (key group : R → List ℕ) (item : R → I) (made : R → List I → L) (list_key : L → List ℕ) (rows_in : L → List R) (IsList : L → Type 0) where
  -- the lists are below the group of the first row, if there is one
  abbrev pub GroupsBelow : List L → List R → Type 0
  GroupsBelow lists [] = ⊤
  GroupsBelow lists (r ∷ rs) = AllByRecursion (λ l. order (list_key l) (group r) ≡ Less) lists

  abbrev pub Laws : Type 0
  Laws = AreListed key group item made list_key rows_in IsList

  pub rows_moved : Laws → (lists : List L) (first : R) (with rest rows : List R) → flat_map rows_in lists ++ (first ∷ (with ++ rest)) ≡ rows → AllByRecursion (λ s. group s ≡ group first) with
      → flat_map rows_in (lists ++ made first (map item (first ∷ with)) ∷ []) ++ rest ≡ rows
  rows_moved laws lists first with rest rows e same =
      let list = made first (map item (first ∷ with)) in
      let again = laws.again first with same in
      ap (λ t. t ++ rest) (flat_map-append rows_in lists (list ∷ []) ∙ ap (λ t. flat_map rows_in lists ++ t) (append-nil (rows_in list) ∙ again))
      ∙ (append_assoc (flat_map rows_in lists) (first ∷ with) rest ∙ e)

  pub lists_ascend : Laws → (lists : List L) (first : R) (items : List I) → Ascends list_key lists → AllByRecursion (λ l. order (list_key l) (group first) ≡ Less) lists → Ascends list_key (lists ++ made first items ∷ [])
  lists_ascend laws lists first items up below =
      ascends_all list_key lists (made first items) up (subst (λ k. AllByRecursion (λ l. order (list_key l) k ≡ Less) lists) (sym (laws.keyed first items)) below)

  pub groups_below : Laws → (lists : List L) (first : R) (with rest : List R) (items : List I) → Ascends key (first ∷ (with ++ rest)) → GroupsBelow lists (first ∷ (with ++ rest))
      → ((s : R) (more : List R) → rest ≡ s ∷ more → group s ≢ group first) → GroupsBelow (lists ++ made first items ∷ []) rest
  groups_below laws lists first with [] items up below end = tt
  groups_below laws lists first with (s ∷ more) items up below end =
      let above : order (key first) (key s) ≡ Less = (all_behind (λ x. order (key first) (key x) ≡ Less) with (s ∷ more) up.0).0 in
      let next = laws.apart first s above (λ e. end s more refl (sym e)) in
      all_more (λ l. order (list_key l) (group s) ≡ Less) lists (made first items) (each lists below next) (subst (λ k. order k (group s) ≡ Less) (sym (laws.keyed first items)) next)
    where
      each : (ls : List L) → AllByRecursion (λ l. order (list_key l) (group first) ≡ Less) ls → order (group first) (group s) ≡ Less → AllByRecursion (λ l. order (list_key l) (group s) ≡ Less) ls
      each [] all next = tt
      each (l ∷ ls) all next = (chained (list_key l) (group first) (group s) all.0 next, each ls all.1 next)

  pub list_stands : Laws → (lists : List L) (first : R) (with rest : List R) → AllByRecursion IsList lists → Ascends key (first ∷ (with ++ rest)) → AllByRecursion (λ s. group s ≡ group first) with
      → AllByRecursion IsList (lists ++ made first (map item (first ∷ with)) ∷ [])
  list_stands laws lists first with rest stand up same =
      all_more IsList lists (made first (map item (first ∷ with))) stand (laws.stands first with (Ascends_before key (first ∷ with) rest up) same)

-- groups of two numbers
pub groups_apart : (m v n w : ℕ) (a b : List ℕ) → order (m ∷ v ∷ a) (n ∷ w ∷ b) ≡ Less → (m ∷ v ∷ [] ≢ n ∷ w ∷ []) → order (m ∷ v ∷ []) (n ∷ w ∷ []) ≡ Less
groups_apart m v n w a b e apart = by_first (key_up m n (v ∷ a) (w ∷ b) e)
  where
    by_second : m ≡ n → (v < w) ⊎ ((v ≡ w) × (order a b ≡ Less)) → order (m ∷ v ∷ []) (n ∷ w ∷ []) ≡ Less
    by_second same (inl lt) = subst (λ x. order (m ∷ v ∷ []) (x ∷ w ∷ []) ≡ Less) same (same_first m (v ∷ []) (w ∷ []) ∙ less_first v w [] [] lt)
    by_second same (inr both) = absurd (apart (let eq = both.0 in rw (same, eq) refl))

    by_first : (m < n) ⊎ ((m ≡ n) × (order (v ∷ a) (w ∷ b) ≡ Less)) → order (m ∷ v ∷ []) (n ∷ w ∷ []) ≡ Less
    by_first (inl lt) = less_first m n (v ∷ []) (w ∷ []) lt
    by_first (inr both) = by_second both.0 (key_up v w a b both.1)

version_same : (f g : Family) → version_of f ≡ version_of g → f ≡ g
version_same V4 V4 e = refl
version_same V6 V6 e = refl
version_same V4 V6 e = absurd (let h : ⊥ = omega arith in h)
version_same V6 V4 e = absurd (let h : ⊥ = omega arith in h)

two_same : (m v n w : ℕ) → m ∷ v ∷ [] ≡ n ∷ w ∷ [] → (m ≡ n) × (v ≡ w)
two_same m v n w e = (cc, cc)

-- Prefixes
abbrev prefix_group : MemberPrefix → List ℕ
prefix_group r = r.member ∷ version_of r.prefix.family ∷ []

abbrev list_of : MemberPrefix → List Prefix → IrrList
list_of r items = record { member = r.member; family = r.prefix.family; prefixes = items }

pub prefixes_listed : AreListed member_prefix_key prefix_group (λ r. r.prefix) list_of irr_key prefixes_of IsPrefixList
prefixes_listed = record {
  again = λ r rs same. ap (λ t. r ∷ t) (again r rs same);
  keyed = λ r items. refl;
  apart = λ r s up apart. groups_apart r.member (version_of r.prefix.family) s.member (version_of s.prefix.family) (r.prefix.value ∷ r.prefix.len ∷ []) (s.prefix.value ∷ s.prefix.len ∷ []) up apart;
  stands = λ r rs up same. ((λ e. cc), (first r rs up.0 same, up_list r rs up.1 same), (refl, families r rs same));
}
  where
    again : (r : MemberPrefix) (rs : List MemberPrefix) → AllByRecursion (λ s. prefix_group s ≡ prefix_group r) rs → map (λ p. record { member = r.member; prefix = p }) (map (λ s. s.prefix) rs) ≡ rs
    again r [] same = refl
    again r (s ∷ rs) same = let m = (two_same s.member (version_of s.prefix.family) r.member (version_of r.prefix.family) same.0).0 in
        ap (λ n. record { member = n; prefix = s.prefix } ∷ map (λ p. record { member = r.member; prefix = p }) (map (λ s. s.prefix) rs)) (sym m) ∙ ap (λ t. s ∷ t) (again r rs same.1)

    tail_up : (r s : MemberPrefix) → r.member ≡ s.member → order (member_prefix_key r) (member_prefix_key s) ≡ Less → order (prefix_key r.prefix) (prefix_key s.prefix) ≡ Less
    tail_up r s m e = sym (same_first r.member (prefix_key r.prefix) (prefix_key s.prefix)) ∙ subst (λ n. order (member_prefix_key r) (n ∷ prefix_key s.prefix) ≡ Less) (sym m) e

    first : (r : MemberPrefix) (rs : List MemberPrefix) → AllByRecursion (λ s. order (member_prefix_key r) (member_prefix_key s) ≡ Less) rs → AllByRecursion (λ s. prefix_group s ≡ prefix_group r) rs
        → AllByRecursion (λ p. order (prefix_key r.prefix) (prefix_key p) ≡ Less) (map (λ s. s.prefix) rs)
    first r [] up same = tt
    first r (s ∷ rs) up same =
        (tail_up r s (sym (two_same s.member (version_of s.prefix.family) r.member (version_of r.prefix.family) same.0).0) up.0, first r rs up.1 same.1)

    regroup : (r s : MemberPrefix) (rs : List MemberPrefix) → prefix_group s ≡ prefix_group r → AllByRecursion (λ x. prefix_group x ≡ prefix_group r) rs → AllByRecursion (λ x. prefix_group x ≡ prefix_group s) rs
    regroup r s rs e same = subst (λ g. AllByRecursion (λ x. prefix_group x ≡ g) rs) (sym e) same

    up_list : (r : MemberPrefix) (rs : List MemberPrefix) → Ascends member_prefix_key rs → AllByRecursion (λ s. prefix_group s ≡ prefix_group r) rs → Ascends prefix_key (map (λ s. s.prefix) rs)
    up_list r [] up same = tt
    up_list r (s ∷ rs) up same = (first s rs up.0 (regroup r s rs same.0 same.1), up_list r rs up.1 same.1)

    families : (r : MemberPrefix) (rs : List MemberPrefix) → AllByRecursion (λ s. prefix_group s ≡ prefix_group r) rs → AllByRecursion (λ p. p.family ≡ r.prefix.family) (map (λ s. s.prefix) rs)
    families r [] same = tt
    families r (s ∷ rs) same =
        (version_same s.prefix.family r.prefix.family (two_same s.member (version_of s.prefix.family) r.member (version_of r.prefix.family) same.0).1, families r rs same.1)

-- Origins
abbrev origin_group : MemberOrigin → List ℕ
origin_group r = r.member ∷ version_of r.family ∷ []

abbrev origin_list_of : MemberOrigin → List Asn → OriginList
origin_list_of r items = record { member = r.member; family = r.family; asns = items }

pub origins_listed : AreListed member_origin_key origin_group (λ r. r.asn) origin_list_of origins_key origins_of IsOriginList
origins_listed = record {
  again = λ r rs same. ap (λ t. r ∷ t) (again r rs same);
  keyed = λ r items. refl;
  apart = λ r s up apart. groups_apart r.member (version_of r.family) s.member (version_of s.family) (asn_key r.asn) (asn_key s.asn) up apart;
  stands = λ r rs up same. ((λ e. cc), (first r rs up.0 same, up_list r rs up.1 same));
}
  where
    again : (r : MemberOrigin) (rs : List MemberOrigin) → AllByRecursion (λ s. origin_group s ≡ origin_group r) rs
        → map (λ a. record { member = r.member; family = r.family; asn = a }) (map (λ s. s.asn) rs) ≡ rs
    again r [] same = refl
    again r (s ∷ rs) same =
        let both = two_same s.member (version_of s.family) r.member (version_of r.family) same.0 in
        let f = version_same s.family r.family both.1 in
        ap (λ n. record { member = n; family = r.family; asn = s.asn } ∷ map (λ a. record { member = r.member; family = r.family; asn = a }) (map (λ s. s.asn) rs)) (sym both.0)
        ∙ (ap (λ g. record { member = s.member; family = g; asn = s.asn } ∷ map (λ a. record { member = r.member; family = r.family; asn = a }) (map (λ s. s.asn) rs)) (sym f)
        ∙ ap (λ t. s ∷ t) (again r rs same.1))

    tail_up : (r s : MemberOrigin) → r.member ≡ s.member → version_of r.family ≡ version_of s.family → order (member_origin_key r) (member_origin_key s) ≡ Less → order (asn_key r.asn) (asn_key s.asn) ≡ Less
    tail_up r s m v e =
        sym (same_first r.member (version_of r.family ∷ asn_key r.asn) (version_of r.family ∷ asn_key s.asn) ∙ same_first (version_of r.family) (asn_key r.asn) (asn_key s.asn))
        ∙ subst (λ w. order (member_origin_key r) (r.member ∷ w ∷ asn_key s.asn) ≡ Less) (sym v)
        (subst (λ n. order (member_origin_key r) (n ∷ version_of s.family ∷ asn_key s.asn) ≡ Less) (sym m) e)

    first : (r : MemberOrigin) (rs : List MemberOrigin) → AllByRecursion (λ s. order (member_origin_key r) (member_origin_key s) ≡ Less) rs → AllByRecursion (λ s. origin_group s ≡ origin_group r) rs
        → AllByRecursion (λ a. order (asn_key r.asn) (asn_key a) ≡ Less) (map (λ s. s.asn) rs)
    first r [] up same = tt
    first r (s ∷ rs) up same =
        let both = two_same s.member (version_of s.family) r.member (version_of r.family) same.0 in
        (tail_up r s (sym both.0) (sym both.1) up.0, first r rs up.1 same.1)

    regroup : (r s : MemberOrigin) (rs : List MemberOrigin) → origin_group s ≡ origin_group r → AllByRecursion (λ x. origin_group x ≡ origin_group r) rs → AllByRecursion (λ x. origin_group x ≡ origin_group s) rs
    regroup r s rs e same = subst (λ g. AllByRecursion (λ x. origin_group x ≡ g) rs) (sym e) same

    up_list : (r : MemberOrigin) (rs : List MemberOrigin) → Ascends member_origin_key rs → AllByRecursion (λ s. origin_group s ≡ origin_group r) rs → Ascends asn_key (map (λ s. s.asn) rs)
    up_list r [] up same = tt
    up_list r (s ∷ rs) up same = (first s rs up.0 (regroup r s rs same.0 same.1), up_list r rs up.1 same.1)

-- Rules
abbrev rule_group : MemberRule → List ℕ
rule_group r = r.member ∷ []

abbrev rule_list_of : MemberRule → List MemberRule → RuleList
rule_list_of r items = record { member = r.member; rules = items }

pub rules_listed : AreListed rule_key rule_group (λ r. r) rule_list_of rules_key rules_in IsRuleList
rules_listed = record {
  again = λ r rs same. ap (λ t. r ∷ t) (map_itself rs);
  keyed = λ r items. refl;
  apart = λ r s up apart. by_first r s apart (key_up r.member s.member (r.place ∷ []) (s.place ∷ []) up);
  stands = λ r rs up same. ((λ e. cc), (refl, members r rs same));
}
  where
    map_itself : (rs : List MemberRule) → map (λ r. r) rs ≡ rs
    map_itself [] = refl
    map_itself (r ∷ rs) = ap (λ t. r ∷ t) (map_itself rs)

    by_first : (r s : MemberRule) → (rule_group r ≢ rule_group s) → (r.member < s.member) ⊎ ((r.member ≡ s.member) × (order (r.place ∷ []) (s.place ∷ []) ≡ Less)) → order (rule_group r) (rule_group s) ≡ Less
    by_first r s apart (inl lt) = less_first r.member s.member [] [] lt
    by_first r s apart (inr both) = absurd (apart (ap (λ n. n ∷ []) both.0))

    one_same : (m n : ℕ) → m ∷ [] ≡ n ∷ [] → m ≡ n
    one_same m n e = cc

    members : (r : MemberRule) (rs : List MemberRule) → AllByRecursion (λ s. rule_group s ≡ rule_group r) rs → AllByRecursion (λ x. x.member ≡ r.member) (map (λ s. s) rs)
    members r [] same = tt
    members r (s ∷ rs) same = (one_same s.member r.member same.0, members r rs same.1)
