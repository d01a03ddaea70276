-- The first row that breaks a rule has a line of the dump.
use Rattle.std.proofs.Common.{◌≡◌, ℕ, suc, ◌+◌, ◌<◌, ◌≤◌, Bool, true, false, nat_le, not, List, [], ◌∷◌, ◌++◌, length, length-append, map, Option, Some, None, IfSome, if◌then◌else◌, refl, sym, subst, arith}
use Rattle.std.specs.List.{AllByRecursion}
use Rattle.std.proofs.lemmas.Bool.{leb-false}
use Rattle.std.proofs.lemmas.List.{length-map}
use Rattle.ixp_registry.specs.Alphabets.{is_note}
use Rattle.ixp_registry.specs.declared.breach.Breach.{Breach}
use Rattle.ixp_registry.specs.declared.rows.Rows.{Rows}
use Rattle.ixp_registry.specs.Lines.{site_at, members_at, contacts_at, keys_at, switches_at, ports_at, vlans_at, interfaces_at, addresses_at, routers_at, prefixes_at, origins_at, rules_at, bogons_at, bogon_as_at, transit_at, roas_at}
use Rattle.ixp_registry.specs.Places.{first, first_with_earlier_from, first_beside_from, first_beyond_from, first_over, first_heavy_from, earlier_of, earliest, times}
use Rattle.ixp_registry.specs.Registries.{first_rule, breach}
use Rattle.ixp_registry.specs.Rules.{rules, rule_1_sentences, rule_2_sentences, rule_3_sentences, rule_4_sentences, rule_5_sentences, rule_6_sentences, rule_7_sentences, rule_11_sentences, rule_12_sentences, rule_13_sentences, rule_15_sentences, owner_limits, network_limits, list_limits, public_limits}
use Rattle.ixp_registry.proofs.Placing.{first_here, first_on}
use Rattle.ixp_rows_lines.specs.declared.version.Version.TheVariants.{Two}
use Rattle.ixp_rows_lines.specs.Lines.{Line, site_line, member_line, contact_line, key_line, switch_line, port_line, vlan_line, interface_line, address_line, router_line, prefix_line, origin_line, rule_line, bogon_line, bogon_as_line, transit_line, roa_line}
use Rattle.ixp_rows.specs.Answers.{row_lines}

-- a line, where there is one, is one of these
abbrev Within : ℕ → ℕ → Option ℕ → Type 0
Within low high o = IfSome o (λ n. (low ≤ n) × (n < high))

wider : (low high least most : ℕ) → least ≤ low → high ≤ most → (o : Option ℕ) → Within low high o → Within least most o
wider low high least most a b None w = tt
wider low high least most a b (Some n) w = let one = w.0 in let other = w.1 in (omega (arith, a, one), omega (arith, b, other))

here_within : (at n : ℕ) → Within at (at + suc n) (Some at)
here_within at n = (omega arith, omega arith)

on_within : (at n : ℕ) (o : Option ℕ) → Within (at + 1) (at + 1 + n) o → Within at (at + suc n) o
on_within at n o w = wider (at + 1) (at + 1 + n) at (at + suc n) (omega arith) (omega arith) o w

-- the rows that a sentence looks at
module _ {R : Type 0} where
  first_within : (at : ℕ) (test : R → Bool) (rs : List R) → Within at (at + length rs) (first at test rs)
  first_within at test [] = tt
  first_within at test (r ∷ rs) = by_test (test r) refl (first_within (at + 1) test rs)
    where
      by_test : (b : Bool) → test r ≡ b → Within (at + 1) (at + 1 + length rs) (first (at + 1) test rs) → Within at (at + suc (length rs)) (first at test (r ∷ rs))
      by_test true e more = subst (Within at (at + suc (length rs))) (sym (first_here at test r rs e)) (here_within at (length rs))
      by_test false e more = subst (Within at (at + suc (length rs))) (sym (first_on at test r rs e)) (on_within at (length rs) (first (at + 1) test rs) more)

  earlier_within : (earlier : List R) (at : ℕ) (test : List R → R → Bool) (rs : List R) → Within at (at + length rs) (first_with_earlier_from earlier at test rs)
  earlier_within earlier at test [] = tt
  earlier_within earlier at test (r ∷ rs) = by_test (test earlier r) (earlier_within (earlier ++ r ∷ []) (at + 1) test rs)
    where
      by_test : (b : Bool) → Within (at + 1) (at + 1 + length rs) (first_with_earlier_from (earlier ++ r ∷ []) (at + 1) test rs) → Within at (at + suc (length rs)) (if b then Some at else first_with_earlier_from (earlier ++ r ∷ []) (at + 1) test rs)
      by_test true more = here_within at (length rs)
      by_test false more = on_within at (length rs) _ more

  beside_within : (last : Option R) (at : ℕ) (test : Option R → R → Bool) (rs : List R) → Within at (at + length rs) (first_beside_from last at test rs)
  beside_within last at test [] = tt
  beside_within last at test (r ∷ rs) = by_test (test last r) (beside_within (Some r) (at + 1) test rs)
    where
      by_test : (b : Bool) → Within (at + 1) (at + 1 + length rs) (first_beside_from (Some r) (at + 1) test rs) → Within at (at + suc (length rs)) (if b then Some at else first_beside_from (Some r) (at + 1) test rs)
      by_test true more = here_within at (length rs)
      by_test false more = on_within at (length rs) _ more

  heavy_within : (sum : ℕ) (weight : R → ℕ) (most at : ℕ) (rs : List R) → Within at (at + length rs) (first_heavy_from sum weight most at rs)
  heavy_within sum weight most at [] = tt
  heavy_within sum weight most at (r ∷ rs) = by_test (nat_le (sum + weight r) most) (heavy_within (sum + weight r) weight most (at + 1) rs)
    where
      by_test : (b : Bool) → Within (at + 1) (at + 1 + length rs) (first_heavy_from (sum + weight r) weight most (at + 1) rs) → Within at (at + suc (length rs)) (if b then first_heavy_from (sum + weight r) weight most (at + 1) rs else Some at)
      by_test true more = on_within at (length rs) _ more
      by_test false more = here_within at (length rs)

  over_within : (most at : ℕ) (rs : List R) → Within at (at + length rs) (first_over most at rs)
  over_within most at rs = by_test (nat_le (length rs) most) refl
    where
      by_test : (b : Bool) → nat_le (length rs) most ≡ b → Within at (at + length rs) (if b then None else Some (at + most))
      by_test true e = tt
      by_test false e = let less = leb-false (length rs) most e in (omega arith, omega (arith, less))

beyond_within : (earlier : List (List ℕ)) (most at : ℕ) (ks : List (List ℕ)) → Within at (at + length ks) (first_beyond_from earlier most at ks)
beyond_within earlier most at [] = tt
beyond_within earlier most at (k ∷ ks) = by_test (nat_le most (times k earlier)) (beyond_within (k ∷ earlier) most (at + 1) ks)
  where
    by_test : (b : Bool) → Within (at + 1) (at + 1 + length ks) (first_beyond_from (k ∷ earlier) most (at + 1) ks) → Within at (at + suc (length ks)) (if b then Some at else first_beyond_from (k ∷ earlier) most (at + 1) ks)
    by_test true more = here_within at (length ks)
    by_test false more = on_within at (length ks) _ more

keys_within : {R : Type 0} (most at : ℕ) (key : R → List ℕ) (rs : List R) → Within at (at + length rs) (first_beyond_from [] most at (map key rs))
keys_within most at key rs = subst (λ n. Within at (at + n) (first_beyond_from [] most at (map key rs))) (length-map rs key) (beyond_within [] most at (map key rs))

both_within : {R S : Type 0} (most at : ℕ) (key : R → List ℕ) (other : S → List ℕ) (rs : List R) (ss : List S)
    → Within at (at + length rs + length ss) (first_beyond_from [] most at (map key rs ++ map other ss))
both_within most at key other rs ss =
    let one = length-map rs key in
    let two = length-map ss other in
    let both = length-append (map key rs) (map other ss) in
    let all : at + length (map key rs ++ map other ss) ≡ at + length rs + length ss = omega (arith, one, two, both) in
    subst (λ n. Within at n (first_beyond_from [] most at (map key rs ++ map other ss))) all (beyond_within [] most at (map key rs ++ map other ss))

-- the earliest of lines, and the first rule that is broken
earliest_within : (low high : ℕ) (os : List (Option ℕ)) → AllByRecursion (Within low high) os → Within low high (earliest os)
earliest_within low high [] all = tt
earliest_within low high (o ∷ os) all = by_both o (earliest os) all.0 (earliest_within low high os all.1)
  where
    by_both : (a b : Option ℕ) → Within low high a → Within low high b → Within low high (earlier_of a b)
    by_both None b one other = other
    by_both (Some a) None one other = one
    by_both (Some a) (Some b) one other =
        let a_low = one.0 in
        let a_high = one.1 in
        let b_low = other.0 in
        let b_high = other.1 in
        (omega (arith, a_low, b_low), omega (arith, a_high, b_high))

rule_within : (low high n : ℕ) (os : List (Option ℕ)) → AllByRecursion (Within low high) os → IfSome (first_rule n os) (λ b. (low ≤ b.line) × (b.line < high))
rule_within low high n [] all = tt
rule_within low high n (None ∷ os) all = rule_within low high (suc n) os all.1
rule_within low high n (Some line ∷ os) all = all.0

-- the lines of rows
abbrev pub lines_end : Rows → ℕ
lines_end w = roas_at w + length w.public.roas

module _ (w : Rows) where
  abbrev Stands : Option ℕ → Type 0
  Stands o = Within 2 (lines_end w) o

  abbrev From : (at n : ℕ) → Option ℕ → Type 0
  From at n o = Within at (at + n) o

  on_site : (o : Option ℕ) → From site_at 1 o → Stands o
  on_site o = wider site_at (site_at + 1) 2 (lines_end w) (omega arith) (omega arith) o

  on_members : (o : Option ℕ) → From members_at (length w.members) o → Stands o
  on_members o = wider members_at (members_at + length w.members) 2 (lines_end w) (omega arith) (omega arith) o

  on_contacts : (o : Option ℕ) → From (contacts_at w) (length w.contacts) o → Stands o
  on_contacts o = wider (contacts_at w) (contacts_at w + length w.contacts) 2 (lines_end w) (omega arith) (omega arith) o

  on_keys : (o : Option ℕ) → From (keys_at w) (length w.keys) o → Stands o
  on_keys o = wider (keys_at w) (keys_at w + length w.keys) 2 (lines_end w) (omega arith) (omega arith) o

  on_switches : (o : Option ℕ) → From (switches_at w) (length w.switches) o → Stands o
  on_switches o = wider (switches_at w) (switches_at w + length w.switches) 2 (lines_end w) (omega arith) (omega arith) o

  on_ports : (o : Option ℕ) → From (ports_at w) (length w.ports) o → Stands o
  on_ports o = wider (ports_at w) (ports_at w + length w.ports) 2 (lines_end w) (omega arith) (omega arith) o

  on_vlans : (o : Option ℕ) → From (vlans_at w) (length w.vlans) o → Stands o
  on_vlans o = wider (vlans_at w) (vlans_at w + length w.vlans) 2 (lines_end w) (omega arith) (omega arith) o

  on_interfaces : (o : Option ℕ) → From (interfaces_at w) (length w.interfaces) o → Stands o
  on_interfaces o = wider (interfaces_at w) (interfaces_at w + length w.interfaces) 2 (lines_end w) (omega arith) (omega arith) o

  on_addresses : (o : Option ℕ) → From (addresses_at w) (length w.addresses) o → Stands o
  on_addresses o = wider (addresses_at w) (addresses_at w + length w.addresses) 2 (lines_end w) (omega arith) (omega arith) o

  on_both : (o : Option ℕ) → Within (addresses_at w) (addresses_at w + length w.addresses + length w.routers) o → Stands o
  on_both o = wider (addresses_at w) (addresses_at w + length w.addresses + length w.routers) 2 (lines_end w) (omega arith) (omega arith) o

  on_routers : (o : Option ℕ) → From (routers_at w) (length w.routers) o → Stands o
  on_routers o = wider (routers_at w) (routers_at w + length w.routers) 2 (lines_end w) (omega arith) (omega arith) o

  on_prefixes : (o : Option ℕ) → From (prefixes_at w) (length w.prefixes) o → Stands o
  on_prefixes o = wider (prefixes_at w) (prefixes_at w + length w.prefixes) 2 (lines_end w) (omega arith) (omega arith) o

  on_origins : (o : Option ℕ) → From (origins_at w) (length w.origins) o → Stands o
  on_origins o = wider (origins_at w) (origins_at w + length w.origins) 2 (lines_end w) (omega arith) (omega arith) o

  on_rules : (o : Option ℕ) → From (rules_at w) (length w.rules) o → Stands o
  on_rules o = wider (rules_at w) (rules_at w + length w.rules) 2 (lines_end w) (omega arith) (omega arith) o

  on_bogons : (o : Option ℕ) → From (bogons_at w) (length w.public.bogons) o → Stands o
  on_bogons o = wider (bogons_at w) (bogons_at w + length w.public.bogons) 2 (lines_end w) (omega arith) (omega arith) o

  on_bogon_as : (o : Option ℕ) → From (bogon_as_at w) (length w.public.bogon_as) o → Stands o
  on_bogon_as o = wider (bogon_as_at w) (bogon_as_at w + length w.public.bogon_as) 2 (lines_end w) (omega arith) (omega arith) o

  on_transit : (o : Option ℕ) → From (transit_at w) (length w.public.transit) o → Stands o
  on_transit o = wider (transit_at w) (transit_at w + length w.public.transit) 2 (lines_end w) (omega arith) (omega arith) o

  on_roas : (o : Option ℕ) → From (roas_at w) (length w.public.roas) o → Stands o
  on_roas o = wider (roas_at w) (roas_at w + length w.public.roas) 2 (lines_end w) (omega arith) (omega arith) o

  abbrev AllStand : List (Option ℕ) → Type 0
  AllStand os = AllByRecursion Stands os

  rule_1_stands : AllStand (rule_1_sentences w)
  rule_1_stands = (
    on_members _ (first_within members_at _ w.members),
    (
      on_members _ (keys_within 1 members_at _ w.members),
      (
        on_contacts _ (first_within (contacts_at w) _ w.contacts),
        (
          on_keys _ (first_within (keys_at w) _ w.keys),
          (
            on_switches _ (first_within (switches_at w) _ w.switches),
            (on_ports _ (first_within (ports_at w) _ w.ports), (on_vlans _ (first_within (vlans_at w) _ w.vlans), (on_interfaces _ (first_within (interfaces_at w) _ w.interfaces), tt))),
          ),
        ),
      ),
    ),
  )

  rule_2_stands : AllStand (rule_2_sentences w)
  rule_2_stands = (
    on_contacts _ (first_within (contacts_at w) _ w.contacts),
    (
      on_keys _ (first_within (keys_at w) _ w.keys),
      (
        on_ports _ (first_within (ports_at w) _ w.ports),
        (
          on_interfaces _ (first_within (interfaces_at w) _ w.interfaces),
          (
            on_addresses _ (first_within (addresses_at w) _ w.addresses),
            (
              on_routers _ (first_within (routers_at w) _ w.routers),
              (on_prefixes _ (first_within (prefixes_at w) _ w.prefixes), (on_origins _ (first_within (origins_at w) _ w.origins), (on_rules _ (first_within (rules_at w) _ w.rules), tt))),
            ),
          ),
        ),
      ),
    ),
  )

  rule_3_stands : AllStand (rule_3_sentences w)
  rule_3_stands = (
    on_site _ (first_within site_at (λ s. not (is_note s.shortname)) (w.site ∷ [])),
    (
      on_members _ (first_within members_at _ w.members),
      (
        on_contacts _ (first_within (contacts_at w) _ w.contacts),
        (
          on_keys _ (first_within (keys_at w) _ w.keys),
          (
            on_switches _ (first_within (switches_at w) _ w.switches),
            (
              on_ports _ (first_within (ports_at w) _ w.ports),
              (on_vlans _ (first_within (vlans_at w) _ w.vlans), (on_addresses _ (first_within (addresses_at w) _ w.addresses), (on_routers _ (first_within (routers_at w) _ w.routers), tt))),
            ),
          ),
        ),
      ),
    ),
  )

  rule_4_stands : AllStand (rule_4_sentences w)
  rule_4_stands = (on_members _ (first_within members_at _ w.members), (on_routers _ (first_within (routers_at w) _ w.routers), tt))

  rule_5_stands : AllStand (rule_5_sentences w)
  rule_5_stands = (on_vlans _ (earlier_within [] (vlans_at w) _ w.vlans), (on_vlans _ (first_within (vlans_at w) _ w.vlans), tt))

  rule_6_stands : AllStand (rule_6_sentences w)
  rule_6_stands = (on_addresses _ (first_within (addresses_at w) _ w.addresses), (on_routers _ (first_within (routers_at w) _ w.routers), tt))

  rule_7_stands : AllStand (rule_7_sentences w)
  rule_7_stands = (on_keys _ (keys_within 1 (keys_at w) _ w.keys), (on_both _ (both_within 1 (addresses_at w) _ _ w.addresses w.routers), tt))

  rule_11_stands : AllStand (rule_11_sentences w)
  rule_11_stands = (on_rules _ (beside_within None (rules_at w) _ w.rules), (on_rules _ (first_within (rules_at w) _ w.rules), tt))

  rule_12_stands : AllStand (rule_12_sentences w)
  rule_12_stands = (
    on_bogons _ (first_within (bogons_at w) _ w.public.bogons),
    (on_bogon_as _ (first_within (bogon_as_at w) _ w.public.bogon_as), (on_roas _ (first_within (roas_at w) _ w.public.roas), tt)),
  )

  owners_stand : AllStand (owner_limits w)
  owners_stand = (
    on_members _ (over_within 4000 members_at w.members),
    (on_keys _ (first_within (keys_at w) _ w.keys), (on_keys _ (keys_within 8 (keys_at w) _ w.keys), (on_contacts _ (keys_within 16 (contacts_at w) _ w.contacts), tt))),
  )

  network_stands : AllStand (network_limits w)
  network_stands = (
    on_switches _ (over_within 256 (switches_at w) w.switches),
    (
      on_ports _ (over_within 16384 (ports_at w) w.ports),
      (
        on_vlans _ (over_within 64 (vlans_at w) w.vlans),
        (on_interfaces _ (over_within 8000 (interfaces_at w) w.interfaces), (on_interfaces _ (keys_within 16 (interfaces_at w) _ w.interfaces), (on_routers _ (over_within 16 (routers_at w) w.routers), tt))),
      ),
    ),
  )

  lists_stand : AllStand (list_limits w)
  lists_stand = (
    on_prefixes _ (over_within 4000000 (prefixes_at w) w.prefixes),
    (on_prefixes _ (keys_within 300000 (prefixes_at w) _ w.prefixes), (on_origins _ (keys_within 300000 (origins_at w) _ w.origins), (on_rules _ (keys_within 64 (rules_at w) _ w.rules), tt))),
  )

  public_stands : AllStand (public_limits w)
  public_stands = (
    on_bogons _ (over_within 10000 (bogons_at w) w.public.bogons),
    (on_bogon_as _ (over_within 10000 (bogon_as_at w) w.public.bogon_as), (on_transit _ (over_within 10000 (transit_at w) w.public.transit), (on_roas _ (over_within 1000000 (roas_at w) w.public.roas), tt))),
  )

  abbrev soonest : (os : List (Option ℕ)) → AllStand os → Stands (earliest os)
  soonest os = earliest_within 2 (lines_end w) os

  rule_13_stands : AllStand (rule_13_sentences w)
  rule_13_stands = (
    soonest (owner_limits w) owners_stand,
    (
      soonest (network_limits w) network_stands,
      (soonest (list_limits w) lists_stand, (soonest (public_limits w) public_stands, (on_prefixes _ (heavy_within 0 _ 8000000 (prefixes_at w) w.prefixes), tt))),
    ),
  )

  rule_15_stands : AllStand (rule_15_sentences w)
  rule_15_stands = (on_routers _ (earlier_within [] (routers_at w) _ w.routers), (on_routers _ (first_within (routers_at w) _ w.routers), tt))

  rules_stand : AllStand (rules w)
  rules_stand = (
    soonest (rule_1_sentences w) rule_1_stands,
    (
      soonest (rule_2_sentences w) rule_2_stands,
      (
        soonest (rule_3_sentences w) rule_3_stands,
        (
          soonest (rule_4_sentences w) rule_4_stands,
          (
            soonest (rule_5_sentences w) rule_5_stands,
            (
              soonest (rule_6_sentences w) rule_6_stands,
              (
                soonest (rule_7_sentences w) rule_7_stands,
                (
                  on_interfaces _ (first_within (interfaces_at w) _ w.interfaces),
                  (
                    on_routers _ (first_within (routers_at w) _ w.routers),
                    (
                      on_vlans _ (first_within (vlans_at w) _ w.vlans),
                      (
                        soonest (rule_11_sentences w) rule_11_stands,
                        (
                          soonest (rule_12_sentences w) rule_12_stands,
                          (soonest (rule_13_sentences w) rule_13_stands, (on_interfaces _ (first_within (interfaces_at w) _ w.interfaces), (soonest (rule_15_sentences w) rule_15_stands, tt))),
                        ),
                      ),
                    ),
                  ),
                ),
              ),
            ),
          ),
        ),
      ),
    ),
  )

  -- a rule that is broken is at one of the lines
  pub breach_stands : (b : Breach) → breach w ≡ Some b → (2 ≤ b.line) × (b.line < lines_end w)
  breach_stands b e = subst (λ o. IfSome o (λ x. (2 ≤ x.line) × (x.line < lines_end w))) e (rule_within 2 (lines_end w) 1 (rules w) rules_stand)

-- so many lines there are
count_step : {R : Type 0} (line : R → Line) (rows : List R) (ls : List Line) (n : ℕ) → length ls ≡ n → length (map line rows ++ ls) ≡ length rows + n
count_step line rows ls n e =
    let long = length-append (map line rows) ls in
    let each = length-map rows line in
    omega (arith, long, each, e)

last_count : {R : Type 0} (line : R → Line) (rows : List R) → length (map line rows) ≡ length rows + 0
last_count line rows = let each = length-map rows line in omega (arith, each)

one_line_more : (l : Line) (ls : List Line) (n : ℕ) → length ls ≡ n → length (l ∷ ls) ≡ 1 + n
one_line_more l ls n e = omega (arith, e)

pub lines_counted : (w : Rows) → length (row_lines Two w) + 2 ≡ lines_end w
unfolding row_lines
lines_counted w =
    let all : length (row_lines Two w) ≡ 1 + (length w.members + (length w.contacts + (length w.keys + (length w.switches + (length w.ports + (length w.vlans + (length w.interfaces + (length w.addresses + (length w.routers + (length w.prefixes + (length w.origins + (length w.rules + (length w.public.bogons + (length w.public.bogon_as + (length w.public.transit + (length w.public.roas + 0)))))))))))))))) =
    one_line_more (site_line w.site) _ _
    (count_step member_line w.members _ _
    (count_step contact_line w.contacts _ _
    (count_step key_line w.keys _ _
    (count_step switch_line w.switches _ _
    (count_step port_line w.ports _ _
    (count_step vlan_line w.vlans _ _
    (count_step interface_line w.interfaces _ _
    (count_step address_line w.addresses _ _
    (count_step (router_line Two) w.routers _ _
    (count_step prefix_line w.prefixes _ _
    (count_step origin_line w.origins _ _
    (count_step rule_line w.rules _ _
    (count_step bogon_line w.public.bogons _ _
    (count_step bogon_as_line w.public.bogon_as _ _
    (count_step transit_line w.public.transit _ _
    (last_count roa_line w.public.roas)))))))))))))))) in
    omega (arith, all)
