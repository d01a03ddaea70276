-- The generated texts of a valid registry have tokens that texts have, so their printed texts spell them.
use Rattle.std.proofs.Common.{◌≡◌, ℕ, ◌+◌, ◌<◌, ◌≤◌, ◌^◌, Bool, true, false, ◌||◌, ◌==◌, not, nat_le, max, List, [], ◌∷◌, ◌++◌, map, flat_map, filter_map, length, Option, Some, None, refl, sym, ap, subst, arith, lit<, lit≤, if◌then◌else◌}
use Rattle.std.specs.Prelude.{IfSome}
use Rattle.std.specs.List.{AllByRecursion, cons_option, list_all}
use Rattle.std.proofs.lemmas.Bool.{and_parts, and_from, leb-true, eqb-true, ne_eqb, lt-ltb, le-leb}
use Rattle.ixp_num.specs.declared.asn.Asn.{Asn}
use Rattle.ixp_num.specs.declared.family.Family.{Family}
use Rattle.ixp_num.specs.declared.family.Family.TheVariants.{V4, V6}
use Rattle.ixp_num.specs.AddressForms.{version_of}
use Rattle.ixp_num.specs.Names.{is_within}
use Rattle.ixp_lang.specs.Trees.{ItemTree}
use Rattle.ixp_num_tables.specs.Tables.{find, if_there}
use Rattle.ixp_num_tables.proofs.Looking.{all_found}
use Rattle.ixp_lang_tokens.specs.Bytes.{is_text_byte}
use Rattle.ixp_registry.specs.declared.lists.OriginList.{OriginList}
use Rattle.ixp_registry.specs.declared.network.IfAddr.{IfAddr}
use Rattle.ixp_registry.specs.declared.network.Interface.{Interface}
use Rattle.ixp_registry.specs.declared.registry.Registry.{Registry}
use Rattle.ixp_registry.specs.declared.router.Router.{Router}
use Rattle.ixp_registry.specs.declared.rules.Action.{Action}
use Rattle.ixp_registry.specs.declared.rules.Action.TheVariants.{AsIs, Prepend, Stop}
use Rattle.ixp_registry.specs.declared.rules.MemberRule.{MemberRule}
use Rattle.ixp_registry.specs.declared.rules.RuleList.{RuleList}
use Rattle.ixp_registry.specs.declared.rules.Way.{Way}
use Rattle.ixp_registry.specs.declared.rules.Way.TheVariants.{Advertise, Receive}
use Rattle.ixp_registry.specs.Alphabets.{has_length, is_letter_or_digit, is_secret_byte, is_session_secret}
use Rattle.ixp_registry.specs.Keys.{member_key, origins_key, router_key, rules_key}
use Rattle.ixp_registry.specs.Registries.{address_rows}
use Rattle.ixp_registry.specs.Sessions.{Session, address_of, origins_in, rules_of, session, session_at}
use Rattle.ixp_registry.specs.Valid.{Valid, ValidInterface, ValidMember, ValidOriginList, ValidRouter, ValidRuleList}
use Rattle.ixp_registry.specs.Widths.{AddressFits, AsnFits, RangeFits, RuleFits}
use Rattle.ixp_registry.specs.Words.{is_action_of, is_lawful as is_lawful_rule}
use Rattle.ixp_compile.specs.Generated.{header_inputs, inputs, router_sessions, allowed_set, covered_set, session_part, footer, generated, own_part}
use Rattle.ixp_compile.specs.Pieces.{in_turn}
use Rattle.ixp_compile.specs.Header.{joined_to, joined_ranges, header}
use Rattle.ixp_compile.proofs.SessionsKept.{standing}
use Rattle.ixp_lang_laws.specs.CanonicalItems.{config_tokens}
use Rattle.ixp_lang_laws.specs.Printed.{AreWritten}
use Rattle.ixp_compile_laws.proofs.FromRows.{Told, told, Fits, all_fit, all_at, bogons_lawful}
use Rattle.ixp_compile_laws.proofs.WrittenHead.{SmallHead, header_same}
use Rattle.ixp_compile_laws.proofs.WrittenNames.{head_names, session_names}
use Rattle.ixp_compile_laws.proofs.WrittenSession.{SmallSession, is_small_action, is_small_rule, fragment_same}
use Rattle.ixp_compile_laws.proofs.WrittenTokens.{all_written, is_small, is_small_range, is_said, ItemsSame, both_items}

small : (n : ℕ) → n < 2 ^ 32 → is_small n ≡ true
small n h = lt-ltb n (2 ^ 32) h

-- Numbers in lists.

max_small : (a b : ℕ) → a < 2 ^ 32 → b < 2 ^ 32 → max a b < 2 ^ 32
max_small a b p q = omega (arith, p, q)

joined_small : (first last : ℕ) → first < 2 ^ 32 → last < 2 ^ 32 → (rs : List (Asn × Asn)) → AllByRecursion RangeFits rs → list_all is_small_range (joined_to first last rs) ≡ true
joined_small first last p q [] fits = rw (small first p, small last q) refl
joined_small first last p q (r ∷ rs) fits =
    by_case (nat_le r.0.0 last) (joined_small first (max last r.1.0) p (max_small last r.1.0 q fits.0.1) rs fits.1) (joined_small r.0.0 r.1.0 fits.0.0 fits.0.1 rs fits.1)
  where
    by_case : (b : Bool) → list_all is_small_range (joined_to first (max last r.1.0) rs) ≡ true → list_all is_small_range (joined_to r.0.0 r.1.0 rs) ≡ true
        → list_all is_small_range (if b then joined_to first (max last r.1.0) rs else (first, last) ∷ joined_to r.0.0 r.1.0 rs) ≡ true
    by_case true one two = one
    by_case false one two = rw (small first p, small last q) two

ranges_small : (rs : List (Asn × Asn)) → AllByRecursion RangeFits rs → list_all is_small_range (joined_ranges rs) ≡ true
ranges_small [] fits = refl
ranges_small (r ∷ rs) fits = joined_small r.0.0 r.1.0 fits.0.0 fits.0.1 rs fits.1

numbers_small : (asns : List Asn) → AllByRecursion AsnFits asns → list_all is_small_range (map (λ a. (a.0, a.0)) asns) ≡ true
numbers_small [] fits = refl
numbers_small (a ∷ asns) fits = rw (small a.0 fits.0) (numbers_small asns fits.1)

-- A member's rules.

fits_prepend : (way : Way) (k : ℕ) → is_action_of way (Prepend k) ≡ true → k ≤ 3
fits_prepend Advertise k e = leb-true k 3 (and_parts (nat_le 1 k) (nat_le k 3) e).1
fits_prepend Receive k e = absurd (let bad : ⊥ = cc in bad)

small_action : (way : Way) (a : Action) → is_action_of way a ≡ true → is_small_action a ≡ true
small_action way AsIs e = refl
small_action way Stop e = refl
small_action way (Prepend k) e =
    let few : k ≤ 3 = fits_prepend way k e in let many : 104 < 2 ^ 32 = lit< tt in small (100 + k) (omega arith)

small_peer : (peer : Option Asn) → IfSome peer (λ p. p.0 < 2 ^ 32) → if_there peer true (λ p. is_small p.0) ≡ true
small_peer None fits = refl
small_peer (Some p) fits = small p.0 fits

small_rules : (rules : List MemberRule) → AllByRecursion RuleFits rules → AllByRecursion (λ x. is_lawful_rule x ≡ true) rules → list_all is_small_rule rules ≡ true
small_rules [] fits lawful = refl
small_rules (x ∷ rules) fits lawful =
    and_from (is_small_rule x) (list_all is_small_rule rules)
    (and_from (if_there x.peer true (λ p. is_small p.0)) (is_small_action x.action) (small_peer x.peer fits.0.2)
    (small_action x.way x.action (and_parts (is_action_of x.way x.action) _ lawful.0).0))
    (small_rules rules fits.1 lawful.1)

-- Secrets.

from_35 : (low high c : ℕ) → 35 ≤ low → high ≤ 126 → is_within low high c ≡ true → is_text_byte c ≡ true
from_35 low high c p q e =
    let parts = and_parts (nat_le low c) (nat_le c high) e in
    let least : low ≤ c = leb-true low c parts.0 in
    let most : c ≤ high = leb-true c high parts.1 in
    and_from (is_within 32 126 c) (not (c == 34))
    (and_from (nat_le 32 c) (nat_le c 126) (le-leb 32 c (omega (arith, p, least))) (le-leb c 126 (omega (arith, q, most))))
    (ap not (ne_eqb c 34 (λ same. omega (arith, p, least, same))))

one_byte : (n c : ℕ) → is_text_byte n ≡ true → (c == n) ≡ true → is_text_byte c ≡ true
one_byte n c text e = subst (λ b. is_text_byte b ≡ true) (sym (eqb-true c n e)) text

by_either : (x y : Bool) {P : Type 0} → (x ≡ true → P) → (y ≡ true → P) → (x || y) ≡ true → P
by_either true y f g e = f refl
by_either false y f g e = g e

secret_byte : (c : ℕ) → is_secret_byte c ≡ true → is_text_byte c ≡ true
secret_byte c =
    by_either (is_letter_or_digit c || c == 46 || c == 95 || c == 58) (c == 47)
    (by_either (is_letter_or_digit c || c == 46 || c == 95) (c == 58)
    (by_either (is_letter_or_digit c || c == 46) (c == 95)
    (by_either (is_letter_or_digit c) (c == 46)
    (by_either (is_within 97 122 c || is_within 65 90 c) (is_within 48 57 c)
    (by_either (is_within 97 122 c) (is_within 65 90 c) (from_35 97 122 c (lit≤ tt) (lit≤ tt)) (from_35 65 90 c (lit≤ tt) (lit≤ tt)))
    (from_35 48 57 c (lit≤ tt) (lit≤ tt)))
    (one_byte 46 c refl))
    (one_byte 95 c refl))
    (one_byte 58 c refl))
    (one_byte 47 c refl)

secret_said : (t : List ℕ) → is_session_secret t ≡ true → is_said t ≡ true
secret_said t e =
    let parts = and_parts (has_length 0 64 t) (list_all is_secret_byte t) e in
    let lengths = and_parts (nat_le 0 (length t)) (nat_le (length t) 64) parts.0 in
    and_from (list_all is_text_byte t) (nat_le (length t) 64) (each t parts.1) lengths.1
  where
    each : (t : List ℕ) → list_all is_secret_byte t ≡ true → list_all is_text_byte t ≡ true
    each [] all = refl
    each (c ∷ t) all =
        let parts = and_parts (is_secret_byte c) (list_all is_secret_byte t) all in and_from (is_text_byte c) (list_all is_text_byte t) (secret_byte c parts.0) (each t parts.1)

-- A router.

some_same : (a b : IfAddr) → Some a ≡ Some b → a ≡ b
some_same a b e = ap or_first e where
  or_first : Option IfAddr → IfAddr
  or_first None = a
  or_first (Some x) = x

-- what an interface says of an address in one of its columns
address_kept : (family : Family) (i : Interface) (a : IfAddr) → ValidInterface i → address_of family i ≡ Some a → (a.max_prefix < 2 ^ 32) × (is_session_secret a.secret ≡ true)
address_kept V4 i a kept e = first i.v4 i.v6 e kept.fits.4 kept.secrets where
  first : (o p : Option IfAddr) → o ≡ Some a → IfSome o AddressFits → AllByRecursion (λ x. is_session_secret x.address.secret ≡ true) (address_rows i.number o ++ address_rows i.number p)
      → (a.max_prefix < 2 ^ 32) × (is_session_secret a.secret ≡ true)
  first None p same fits secrets = absurd (let bad : ⊥ = cc in bad)
  first (Some b) p same fits secrets = subst (λ x. (x.max_prefix < 2 ^ 32) × (is_session_secret x.secret ≡ true)) (some_same b a same) (fits, secrets.0)
address_kept V6 i a kept e = second i.v4 i.v6 e kept.fits.5 kept.secrets where
  second : (o p : Option IfAddr) → p ≡ Some a → IfSome p AddressFits → AllByRecursion (λ x. is_session_secret x.address.secret ≡ true) (address_rows i.number o ++ address_rows i.number p)
      → (a.max_prefix < 2 ^ 32) × (is_session_secret a.secret ≡ true)
  second o None same fits secrets = absurd (let bad : ⊥ = cc in bad)
  second None (Some b) same fits secrets = subst (λ x. (x.max_prefix < 2 ^ 32) × (is_session_secret x.secret ≡ true)) (some_same b a same) (fits, secrets.0)
  second (Some c) (Some b) same fits secrets = subst (λ x. (x.max_prefix < 2 ^ 32) × (is_session_secret x.secret ≡ true)) (some_same b a same) (fits, secrets.1.0)

module _ (r : Registry) (valid : Valid r) (handle : List ℕ) (router : Router) (there : find router_key handle r.routers ≡ Some router) where
  router_kept : ValidRouter router
  router_kept = all_found router_key ValidRouter handle router r.routers valid.routers.each there

  head_small : SmallHead (header_inputs r router)
  head_small = record {
    rs = small router.asn.0 router_kept.fits.2;
    low = small router.low router_kept.fits.4;
    high = small router.high router_kept.fits.5;
    communities = small router.max_comms router_kept.fits.6;
    bogons = bogons_lawful r valid handle router there;
    bogon_as = ranges_small r.public.bogon_as valid.public.fits.0;
    transit = numbers_small r.public.transit valid.public.fits.1;
  }

  small_origins : (member : ℕ) → list_all is_small_range (map (λ a. (a.0, a.0)) (origins_in r member router.family)) ≡ true
  small_origins member = go (find origins_key (member ∷ version_of router.family ∷ []) r.origins) refl where
    go : (o : Option OriginList) → find origins_key (member ∷ version_of router.family ∷ []) r.origins ≡ o → list_all is_small_range (map (λ a. (a.0, a.0)) (if_there o [] (λ l. l.asns))) ≡ true
    go None e = refl
    go (Some l) e =
        let kept : ValidOriginList l = all_found origins_key ValidOriginList (member ∷ version_of router.family ∷ []) l r.origins valid.origins.each e in numbers_small l.asns kept.fits.1

  small_rules_of : (member : ℕ) → list_all is_small_rule (rules_of r member) ≡ true
  small_rules_of member = go (find rules_key (member ∷ []) r.rules) refl where
    go : (o : Option RuleList) → find rules_key (member ∷ []) r.rules ≡ o → list_all is_small_rule (if_there o [] (λ l. l.rules)) ≡ true
    go None e = refl
    go (Some l) e =
        let kept : ValidRuleList l = all_found rules_key ValidRuleList (member ∷ []) l r.rules valid.rules.each e in small_rules l.rules kept.fits.1 kept.lawful

  abbrev Small : Session → Type 0
  Small s = SmallSession (inputs r router s)

  session_small : (i : Interface) (s : Session) → ValidInterface i → session_at r router i ≡ Some s → Small s
  session_small i s kept e =
      let says : Told r router i s = told r router i s e in
      let member : ValidMember s.member = all_found member_key ValidMember (i.member ∷ []) s.member r.members valid.members.each says.member in
      let address = address_kept router.family i s.address kept says.address in
      record {
        rs = small router.asn.0 router_kept.fits.2;
        asn = small s.member.asn.0 member.fits.1;
        interface = subst (λ (j : Interface). j.number < 2 ^ 32) (sym says.own) kept.fits.0;
        limit = small s.address.max_prefix address.0;
        secret = secret_said s.address.secret address.1;
        origins = subst (λ asns. list_all is_small_range (map (λ a. (a.0, a.0)) asns) ≡ true) (sym says.origins) (small_origins i.member);
        rules = subst (λ rules. list_all is_small_rule rules ≡ true) (sym says.rules) (small_rules_of i.member);
      }

  each_small : (is : List Interface) → AllByRecursion ValidInterface is → AllByRecursion Small (filter_map (session_at r router) is)
  each_small [] kept = tt
  each_small (i ∷ is) kept = go (session_at r router i) refl (each_small is kept.1) where
    go : (o : Option Session) → session_at r router i ≡ o → AllByRecursion Small (filter_map (session_at r router) is) → AllByRecursion Small (cons_option o (filter_map (session_at r router) is))
    go None e rest = rest
    go (Some s) e rest = (session_small i s kept.0 e, rest)

  all_small : AllByRecursion Small (router_sessions r router)
  all_small = each_small r.interfaces valid.interfaces.each

  -- The texts.

  part_same : (s : Session) → Small s → Fits r valid handle router there s → ItemsSame (session_part (inputs r router s))
  part_same s own fits =
      fragment_same (inputs r router s) (allowed_set (inputs r router s)) (covered_set (inputs r router s)) own (session_names s.interface.number own.interface) head_names fits.2 fits.3

  parts_same : (ss : List Session) → AllByRecursion Small ss → AllByRecursion (Fits r valid handle router there) ss → ItemsSame (flat_map (λ s. session_part (inputs r router s)) ss)
  parts_same [] own fits = λ rest. refl
  parts_same (s ∷ ss) own fits =
      both_items (session_part (inputs r router s)) (flat_map (λ t. session_part (inputs r router t)) ss) (part_same s own.0 fits.0) (parts_same ss own.1 fits.1)

  around : (items : List ItemTree) → ItemsSame items → AreWritten (config_tokens (in_turn (header (header_inputs r router) ∷ items ∷ footer ∷ [])))
  around items same =
      all_written (config_tokens (in_turn (header (header_inputs r router) ∷ items ∷ footer ∷ [])))
      (both_items (header (header_inputs r router)) (items ++ (footer ++ [])) (header_same (header_inputs r router) head_small head_names) (both_items items (footer ++ []) same (λ rest. refl)) [])

  pub whole_written : AreWritten (config_tokens (generated r router))
  whole_written =
      around (flat_map (λ s. session_part (inputs r router s)) (router_sessions r router)) (parts_same (router_sessions r router) all_small (all_fit r valid handle router there))

  pub own_written : (n : ℕ) (s : Session) → session r router n ≡ Some s → AreWritten (config_tokens (own_part r router s))
  own_written n s e =
      let at = standing r router n s e in
      let fits = all_at (Fits r valid handle router there) at.0 s at.1 (subst (AllByRecursion (Fits r valid handle router there)) (sym at.2) (all_fit r valid handle router there)) in
      let own = all_at Small at.0 s at.1 (subst (AllByRecursion Small) (sym at.2) all_small) in
      around (session_part (inputs r router s)) (part_same s own fits)
