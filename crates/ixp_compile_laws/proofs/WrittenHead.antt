-- The tokens of a generated head are such as texts have.
use Rattle.std.proofs.Common.{◌≡◌, ℕ, Bool, true, ◌&&◌, ◌==◌, nat_le, List, [], ◌∷◌, ◌++◌, map, codes, Option, Some, None, refl, ◌∙◌}
use Rattle.std.specs.List.{list_all}
use Rattle.ixp_num.specs.declared.addr.Addr.{Addr}
use Rattle.ixp_num.specs.declared.asn.Asn.{Asn}
use Rattle.ixp_num.specs.declared.family.Family.{Family}
use Rattle.ixp_num.specs.declared.family.Family.TheVariants.{V4, V6}
use Rattle.ixp_num.specs.declared.pattern.Pattern.{Pattern}
use Rattle.ixp_lang.specs.Trees.{StmtTree}
use Rattle.ixp_lang.specs.declared.value.SetLit.TheVariants as set
use Rattle.ixp_lang_laws.specs.CanonicalItems.{items_tokens}
use Rattle.ixp_lang_laws.specs.Canonical.{range_tokens, pattern_tokens}
use Rattle.ixp_compile.specs.declared.inputs.HeaderInputs.{HeaderInputs}
use Rattle.ixp_compile.specs.Pieces.{defined, where_any, numbers, when, drop_with}
use Rattle.ixp_compile.specs.Header.{bogons_of, joined_ranges, blackhole_function, net_body, is_too_long, community_tests, sends_body, pair_answers, out_body, blackhole_hop, pairs_taken_away, tables, public_sets, shared_functions, header}
use Rattle.ixp_lang_laws.specs.Sound.{is_lawful}
use Rattle.ixp_compile_laws.proofs.WrittenNames.{HeadNames, master_named, roas_named}
use Rattle.ixp_compile_laws.proofs.WrittenTokens.{written, is_word_name, is_small, is_small_range, PartSame, ItemsSame, both_same, both_items, if_same, list_same, range_same, pattern_same, define_same}

-- numbers of 32 bits, and lawful sets
pub record SmallHead (h : HeaderInputs) : Type 0 where
  pub rs : is_small h.router.asn.0 ≡ true
  pub low : is_small h.router.low ≡ true
  pub high : is_small h.router.high ≡ true
  pub communities : is_small h.router.max_comms ≡ true
  pub bogons : list_all is_lawful (bogons_of h) ≡ true
  pub bogon_as : list_all is_small_range (joined_ranges h.bogon_as) ≡ true
  pub transit : list_all is_small_range (map (λ a. (a.0, a.0)) h.transit) ≡ true

-- Sets that are defined where they have a member.

pub patterns_defined : (name : List ℕ) (ts : List Pattern) → is_word_name name ≡ true → list_all is_lawful ts ≡ true → ItemsSame (defined name set.Prefixes ts)
patterns_defined name [] ok lawful rest = refl
patterns_defined name (t ∷ ts) ok lawful rest = define_same name (set.Prefixes (t ∷ ts)) ok (list_same pattern_tokens is_lawful pattern_same (t ∷ ts) lawful) rest

pub ranges_defined : (name : List ℕ) (rs : List (ℕ × ℕ)) → is_word_name name ≡ true → list_all is_small_range rs ≡ true → ItemsSame (defined name set.Ints rs)
ranges_defined name [] ok small rest = refl
ranges_defined name (r ∷ rs) ok small rest = define_same name (set.Ints (r ∷ rs)) ok (list_same range_tokens is_small_range range_same (r ∷ rs) small) rest

pub numbers_defined : (name : List ℕ) (asns : List Asn) → is_word_name name ≡ true → list_all is_small_range (map (λ a. (a.0, a.0)) asns) ≡ true → ItemsSame (defined name numbers asns)
numbers_defined name [] ok small rest = refl
numbers_defined name (a ∷ asns) ok small rest =
    define_same name (numbers (a ∷ asns)) ok (list_same range_tokens is_small_range range_same (map (λ a. (a.0, a.0)) (a ∷ asns)) small) rest

-- Bodies.

and_true : (b : Bool) {x y : Bool} → b ≡ true → x ≡ y → (b && x) ≡ y
and_true b e same = rw e same

any_same : {A : Type 0} (xs : List A) (ss : List StmtTree) → PartSame ss → PartSame (where_any xs ss)
any_same [] ss same rest = refl
any_same (x ∷ xs) ss same rest = same rest

module _ (h : HeaderInputs) (s : SmallHead h) (w : HeadNames) where
  long_same : (b : Option Addr) → PartSame (when (is_too_long b h.router.high) (drop_with 1 ∷ []) ∷ [])
  long_same None rest = rw (s.high, w.drop) refl
  long_same (Some a) rest = rw (s.high, w.blackhole, w.drop) refl

  tests_same : PartSame (community_tests h.router.max_comms)
  tests_same = if_same (h.router.max_comms == 0) [] _ (λ rest. refl) (λ rest. rw (s.communities, w.drop) refl)

  net_same : PartSame (net_body h)
  net_same rest =
      long_same h.router.blackhole _
      ∙ rw (s.low, w.drop)
      (both_same (where_any (bogons_of h) _) _ (any_same (bogons_of h) _ (λ r. rw (w.bogons, w.drop) refl)) (λ r. rw w.drop (tests_same r)) rest)

  pairs_same : PartSame (pair_answers h.router.asn.0)
  pairs_same = if_same (nat_le h.router.asn.0 65535) _ [] (λ rest. rw (w.p, s.rs) refl) (λ rest. refl)

  sends_same : PartSame (sends_body h.router.asn.0)
  sends_same rest = rw (s.rs, w.p) (both_same (pair_answers h.router.asn.0) _ pairs_same (λ r. refl) rest)

  hop_same : (b : Option Addr) → PartSame (blackhole_hop b)
  hop_same None rest = refl
  hop_same (Some a) rest = rw w.blackhole refl

  taken_same : PartSame (pairs_taken_away h.router.asn.0)
  taken_same = if_same (nat_le h.router.asn.0 65535) _ [] (λ rest. rw s.rs refl) (λ rest. refl)

  out_same : PartSame (out_body h.router.asn.0 h.router.blackhole)
  out_same =
      both_same (blackhole_hop h.router.blackhole) _ (hop_same h.router.blackhole)
      (λ rest. rw s.rs (both_same (pairs_taken_away h.router.asn.0) _ taken_same (λ r. refl) rest))

  -- Items.

  drop_bh : (b : Option Addr) → ItemsSame (blackhole_function h.router.family b)
  drop_bh None rest = refl
  drop_bh (Some a) rest = by_family h.router.family where
    by_family : (f : Family) → list_all written (items_tokens (blackhole_function f (Some a)) rest) ≡ list_all written rest
    by_family V4 = rw w.blackhole refl
    by_family V6 = rw w.blackhole refl

  tables_same : ItemsSame (tables h.router)
  tables_same rest = rw (master_named h.router.family, roas_named h.router.family) refl

  sets_same : ItemsSame (public_sets h)
  sets_same =
      both_items (defined (codes "ixp_bogons") set.Prefixes (bogons_of h)) _ (patterns_defined (codes "ixp_bogons") (bogons_of h) w.bogons s.bogons)
      (both_items (defined (codes "ixp_bogon_as") set.Ints (joined_ranges h.bogon_as)) _ (ranges_defined (codes "ixp_bogon_as") (joined_ranges h.bogon_as) w.bogon_as s.bogon_as)
      (both_items (defined (codes "ixp_transit_as") numbers h.transit) [] (numbers_defined (codes "ixp_transit_as") h.transit w.transit_as s.transit) (λ rest. refl)))

  functions_same : ItemsSame (shared_functions h)
  functions_same =
      λ rest. rw (w.drop, w.n, s.rs)
      (both_items (blackhole_function h.router.family h.router.blackhole) _ (drop_bh h.router.blackhole)
      (λ r. rw w.net (net_same _
      ∙ rw w.as_numbers (any_same (joined_ranges h.bogon_as) _ (λ more. rw (w.bogon_as, w.drop) refl) _
      ∙ rw w.transit (any_same h.transit _ (λ more. rw (w.transit_as, w.drop) refl) _
      ∙ and_true (is_word_name (codes "ixp_sends")) w.sends (and_true (is_word_name (codes "p")) w.p (sends_same _
      ∙ rw (w.count, w.p, s.rs, w.pad, w.n, w.out) (out_same _)))))))
      rest)

  pub header_same : ItemsSame (header h)
  header_same =
      both_items (tables h.router) (public_sets h ++ (shared_functions h ++ [])) tables_same
      (both_items (public_sets h) (shared_functions h ++ []) sets_same
      (both_items (shared_functions h) [] functions_same (λ rest. refl)))
