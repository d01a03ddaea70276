-- What a valid registry gives the sessions of its routers: lawful sets, an address, numbers of their own.
use Rattle.std.proofs.Common.{◌≡◌, ℕ, ◌<◌, ◌≤◌, ◌^◌, Bool, true, false, ◌&&◌, ◌||◌, ◌==◌, ◌⊎◌, inl, inr, nat_le, List, [], ◌∷◌, ◌++◌, map, filter, filter_map, flat_map, decimal, Option, Some, None, refl, sym, ap, ◌∙◌, subst, arith, append_assoc, if◌then◌else◌}
use Rattle.std.specs.List.{AllByRecursion, Contains, cons_option, list_any, list_all}
use Rattle.std.proofs.lemmas.Bool.{and_parts, and_from, le-leb, leb-true}
use Rattle.ixp_num.specs.declared.addr.Addr.{Addr}
use Rattle.ixp_num.specs.declared.asn.Asn.{Asn}
use Rattle.ixp_num.specs.declared.family.Family.{Family}
use Rattle.ixp_num.specs.declared.pattern.Pattern.{Pattern}
use Rattle.ixp_num.specs.declared.prefix.Prefix.{Prefix}
use Rattle.ixp_num.specs.AddressForms.{version_of}
use Rattle.ixp_num.specs.Families.{bits_of, same_family}
use Rattle.ixp_num.specs.Prefixes.{same_addr}
use Rattle.ixp_num.proofs.SameParts.{family_same}
use Rattle.ixp_lang.specs.Meaning.{same_name}
use Rattle.ixp_num_tables.specs.Tables.{find, if_there}
use Rattle.ixp_num_tables.proofs.Looking.{all_found}
use Rattle.ixp_num_tables.proofs.TableLaws.{find-key}
use Rattle.ixp_num_tables.proofs.Orders.{head_same, tail_same}
use Rattle.ixp_registry.specs.declared.lists.IrrList.{IrrList}
use Rattle.ixp_registry.specs.declared.members.Member.{Member}
use Rattle.ixp_registry.specs.declared.network.IfAddr.{IfAddr}
use Rattle.ixp_registry.specs.declared.network.Interface.{Interface}
use Rattle.ixp_registry.specs.declared.registry.Registry.{Registry}
use Rattle.ixp_registry.specs.declared.router.Router.{Router}
use Rattle.ixp_registry.specs.declared.rules.MemberRule.{MemberRule}
use Rattle.ixp_registry.specs.Keys.{member_key, irr_key, router_key}
use Rattle.ixp_registry.specs.Sessions.{Session, address_of, is_session, origins_in, prefixes_in, rules_of, session_at, session_with, member_addresses}
use Rattle.ixp_registry.specs.Valid.{Valid, ValidIrrList, ValidRouter}
use Rattle.ixp_registry.specs.Words.{pattern_has_bounds}
use Rattle.ixp_pfxset.specs.BlockList.{blocks}
use Rattle.ixp_pfxset.specs.Blocks.{IsBlock}
use Rattle.ixp_pfxset.specs.declared.mode.Mode.{Mode}
use Rattle.ixp_pfxset.specs.declared.mode.Mode.TheVariants.{More}
use Rattle.ixp_pfxset.proofs.Covering.{one_family, family_itself}
use Rattle.ixp_pfxset.proofs.Least.{low_high, row_within}
use Rattle.ixp_pfxset.proofs.Members.{first_in, later_in, in_cases, none_in}
use Rattle.ixp_pfxset.proofs.Merging.{member_is_block}
use Rattle.ixp_policy.specs.Import.{has_address}
use Rattle.ixp_compile.specs.Generated.{header_inputs, inputs, router_sessions, allowed_set, covered_set, mode_of}
use Rattle.ixp_compile.specs.Header.{bogons_of}
use Rattle.ixp_compile.proofs.Addresses.{addresses_have}
use Rattle.ixp_compile.proofs.Communities.{eq_refl}
use Rattle.ixp_compile.proofs.FatesWalked.{Numbered}
use Rattle.ixp_compile.proofs.NamesApart.{same_numbered}
use Rattle.ixp_compile.proofs.SessionsKept.{sessions_numbered}
use Rattle.ixp_lang_tokens.specs.Pieces.{same_word}
use Rattle.ixp_lang_laws.specs.Sound.{some_of, is_lawful}
use Rattle.ixp_compile_laws.specs.Fit.{IsFit, IsOther, AreFit}

-- Lists.

all_lawful : (ts : List Pattern) → ((t : Pattern) → Contains ts t → is_lawful t ≡ true) → list_all is_lawful ts ≡ true
all_lawful [] f = refl
all_lawful (t ∷ ts) f = and_from (is_lawful t) (list_all is_lawful ts) (f t (first_in t ts)) (all_lawful ts (λ x here. f x (later_in t x ts here)))

each_lawful : (test : Pattern → Bool) (ts : List Pattern) → AllByRecursion (λ b. pattern_has_bounds b ≡ true) ts → list_all is_lawful (filter test ts) ≡ true
each_lawful test [] all = refl
each_lawful test (t ∷ ts) all = go (test t) (each_lawful test ts all.1) where
  go : (b : Bool) → list_all is_lawful (filter test ts) ≡ true → list_all is_lawful (if b then t ∷ filter test ts else filter test ts) ≡ true
  go true rest = and_from (is_lawful t) (list_all is_lawful (filter test ts)) all.0 rest
  go false rest = rest

of_all : {X : Type 0} (P : X → Type 0) (xs : List X) (x : X) → AllByRecursion P xs → Contains xs x → P x
of_all P [] x all here = absurd (none_in x here)
of_all P (y ∷ ys) x all here = by (in_cases y x ys here) (of_all P ys x all.1) where
  by : (y ≡ x) ⊎ Contains ys x → (Contains ys x → P x) → P x
  by (inl same) rest = subst P same all.0
  by (inr later) rest = rest later

any_addr : (addrs : List Addr) (a : Addr) → list_any (λ b. same_addr a b) addrs ≡ true → some_of addrs ≡ true
any_addr [] a e = e
any_addr (b ∷ addrs) a e = refl

-- Merged sets.

set_lawful : (rows : List Prefix) (family : Family) (mode : Mode) (high : ℕ) → AllByRecursion (λ p. p.family ≡ family) rows → high ≤ bits_of family
    → list_all is_lawful (blocks rows mode high) ≡ true
set_lawful rows family mode high own small = all_lawful (blocks rows mode high) (λ t here. lawful t (member_is_block rows mode high t here)) where
  lawful : (t : Pattern) → IsBlock rows mode high t → is_lawful t ≡ true
  lawful t is =
      let bounds = low_high rows high mode t is in
      let row = row_within rows high mode t is in
      let covered = and_parts (same_family t.prefix.family row.0.family && nat_le t.prefix.len row.0.len) _ row.2 in
      let families = and_parts (same_family t.prefix.family row.0.family) (nat_le t.prefix.len row.0.len) covered.0 in
      let of_family : t.prefix.family ≡ family = one_family t.prefix.family row.0.family families.0 ∙ of_all (λ p. p.family ≡ family) rows row.0 own row.1 in
      let most : t.high ≤ bits_of t.prefix.family = subst (λ f. t.high ≤ bits_of f) (sym of_family) (let a = bounds.1 in omega arith) in
      and_from (nat_le t.low t.high) (nat_le t.high (bits_of t.prefix.family)) (le-leb t.low t.high bounds.0) (le-leb t.high (bits_of t.prefix.family) most)

-- A session.

-- the values that a session's record has
pub record Told (r : Registry) (router : Router) (i : Interface) (s : Session) : Type 0 where
  pub own : s.interface ≡ i
  pub address : address_of router.family i ≡ Some s.address
  pub member : find member_key (i.member ∷ []) r.members ≡ Some s.member
  pub prefixes : s.prefixes ≡ prefixes_in r i.member router.family
  pub origins : s.origins ≡ origins_in r i.member router.family
  pub rules : s.rules ≡ rules_of r i.member

pub told : (r : Registry) (router : Router) (i : Interface) (s : Session) → session_at r router i ≡ Some s → Told r router i s
told r router i s e = go (is_session r router i) (address_of router.family i) (find member_key (i.member ∷ []) r.members) refl refl e where
  interface_or : Option Session → Interface
  interface_or None = i
  interface_or (Some x) = x.interface

  address_or : IfAddr → Option Session → IfAddr
  address_or a None = a
  address_or a (Some x) = x.address

  member_or : Member → Option Session → Member
  member_or m None = m
  member_or m (Some x) = x.member

  prefixes_or : Option Session → List Prefix
  prefixes_or None = []
  prefixes_or (Some x) = x.prefixes

  origins_or : Option Session → List Asn
  origins_or None = []
  origins_or (Some x) = x.origins

  rules_or : Option Session → List MemberRule
  rules_or None = []
  rules_or (Some x) = x.rules

  go : (b : Bool) (a : Option IfAddr) (m : Option Member) → address_of router.family i ≡ a → find member_key (i.member ∷ []) r.members ≡ m
      → (if b then session_with r router i a m else None) ≡ Some s → Told r router i s
  go false a m f g h = absurd (let bad : ⊥ = cc in bad)
  go true None m f g h = absurd (let bad : ⊥ = cc in bad)
  go true (Some a) None f g h = absurd (let bad : ⊥ = cc in bad)
  go true (Some a) (Some m) f g h = record {
    own = ap interface_or (sym h);
    address = f ∙ ap (λ x. Some x) (ap (address_or a) h);
    member = g ∙ ap (λ x. Some x) (ap (member_or m) h);
    prefixes = ap prefixes_or (sym h);
    origins = ap origins_or (sym h);
    rules = ap rules_or (sym h);
  }

-- the prefixes that a member has registered in a family are of it
prefixes_own : (r : Registry) → Valid r → (member : ℕ) (family : Family) → AllByRecursion (λ p. p.family ≡ family) (prefixes_in r member family)
prefixes_own r valid member family = go (find irr_key (member ∷ version_of family ∷ []) r.irr) refl where
  go : (o : Option IrrList) → find irr_key (member ∷ version_of family ∷ []) r.irr ≡ o → AllByRecursion (λ p. p.family ≡ family) (if_there o [] (λ l. l.prefixes))
  go None e = tt
  go (Some l) e =
      let kept : ValidIrrList l = all_found irr_key ValidIrrList (member ∷ version_of family ∷ []) l r.irr valid.irr.each e in
      let key = find-key irr_key (member ∷ version_of family ∷ []) l r.irr e in
      let version : version_of l.family ≡ version_of family =
      head_same (version_of l.family) (version_of family) [] [] (tail_same l.member member (version_of l.family ∷ []) (version_of family ∷ []) key) in
      subst (λ f. AllByRecursion (λ p. p.family ≡ f) l.prefixes) (family_same l.family family version) kept.family

-- an interface that is there has its own address among the member's
own_there : (family : Family) (s : Session) (i : Interface) → s.interface ≡ i → address_of family i ≡ Some s.address → (front back : List Interface)
    → list_any (λ j. j.member == s.interface.member && j.vlan == s.interface.vlan && has_address s.address.addr (address_of family j)) (front ++ i ∷ back) ≡ true
own_there family s i own at [] back =
    let addr : same_addr s.address.addr s.address.addr ≡ true =
    and_from (same_family s.address.addr.family s.address.addr.family) (s.address.addr.value == s.address.addr.value) (family_itself s.address.addr.family) (eq_refl s.address.addr.value) in
    let here : (i.member == s.interface.member && i.vlan == s.interface.vlan && has_address s.address.addr (address_of family i)) ≡ true =
    and_from (i.member == s.interface.member && i.vlan == s.interface.vlan) (has_address s.address.addr (address_of family i))
    (and_from (i.member == s.interface.member) (i.vlan == s.interface.vlan)
    (subst (λ (j : Interface). (i.member == j.member) ≡ true) (sym own) (eq_refl i.member))
    (subst (λ (j : Interface). (i.vlan == j.vlan) ≡ true) (sym own) (eq_refl i.vlan)))
    (ap (has_address s.address.addr) at ∙ addr) in
    ap (λ b. b || list_any (λ j. j.member == s.interface.member && j.vlan == s.interface.vlan && has_address s.address.addr (address_of family j)) back) here
own_there family s i own at (j ∷ front) back =
    or_later (j.member == s.interface.member && j.vlan == s.interface.vlan && has_address s.address.addr (address_of family j)) _ (own_there family s i own at front back) where
      or_later : (a b : Bool) → b ≡ true → (a || b) ≡ true
      or_later true b e = refl
      or_later false b e = e

module _ (r : Registry) (valid : Valid r) (handle : List ℕ) (router : Router) (there : find router_key handle r.routers ≡ Some router) where
  router_kept : ValidRouter router
  router_kept = all_found router_key ValidRouter handle router r.routers valid.routers.each there

  high_fits : router.high ≤ bits_of router.family
  high_fits = leb-true router.high (bits_of router.family) (and_parts (nat_le router.low router.high) (nat_le router.high (bits_of router.family)) router_kept.bounds).1

  pub bogons_lawful : list_all is_lawful (bogons_of (header_inputs r router)) ≡ true
  bogons_lawful = each_lawful (λ t. same_family t.prefix.family router.family) r.public.bogons valid.public.patterns

  abbrev pub Fits : Session → Type 0
  Fits s = IsFit router.family router.blackhole allowed_set covered_set (inputs r router s)

  session_fits : (front : List Interface) (i : Interface) (back : List Interface) → front ++ i ∷ back ≡ r.interfaces → (s : Session) → session_at r router i ≡ Some s → Fits s
  session_fits front i back parts s e =
      let says : Told r router i s = told r router i s e in
      let own : AllByRecursion (λ p. p.family ≡ router.family) s.prefixes = subst (AllByRecursion (λ p. p.family ≡ router.family)) (sym says.prefixes) (prefixes_own r valid i.member router.family) in
      let any : list_any (λ b. same_addr s.address.addr b) (member_addresses r router s) ≡ true =
      addresses_have r router s s.address.addr
      ∙ ap (list_any (λ j. j.member == s.interface.member && j.vlan == s.interface.vlan && has_address s.address.addr (address_of router.family j))) (sym parts)
      ∙ own_there router.family s i says.own says.address front back in (
        refl,
        refl,
        set_lawful s.prefixes router.family (mode_of s.address.more) router.high own high_fits,
        set_lawful s.prefixes router.family More (bits_of router.family) own (omega arith),
        any_addr (member_addresses r router s) s.address.addr any,
      )

  each_fits : (front is : List Interface) → front ++ is ≡ r.interfaces → AllByRecursion Fits (filter_map (session_at r router) is)
  each_fits front [] parts = tt
  each_fits front (i ∷ is) parts = go (session_at r router i) refl (each_fits (front ++ i ∷ []) is (append_assoc front (i ∷ []) is ∙ parts)) where
    go : (o : Option Session) → session_at r router i ≡ o → AllByRecursion Fits (filter_map (session_at r router) is) → AllByRecursion Fits (cons_option o (filter_map (session_at r router) is))
    go None e rest = rest
    go (Some s) e rest = (session_fits front i is parts s e, rest)

  pub all_fit : AllByRecursion Fits (router_sessions r router)
  all_fit = each_fits [] r.interfaces refl

  words_apart : (m n : ℕ) → m < 2 ^ 64 → n < 2 ^ 64 → (m == n) ≡ false → same_word (decimal m) (decimal n) ≡ false
  words_apart m n p q e = same_words (decimal m) (decimal n) ∙ same_numbered [] m n p q ∙ e where
    same_words : (a b : List ℕ) → same_word a b ≡ same_name a b
    same_words [] [] = refl
    same_words [] (y ∷ ys) = refl
    same_words (x ∷ xs) [] = refl
    same_words (x ∷ xs) (y ∷ ys) = by_first (x == y) (same_words xs ys) where
      by_first : (b : Bool) → same_word xs ys ≡ same_name xs ys → (b && same_word xs ys) ≡ (if b then same_name xs ys else false)
      by_first true rest = rest
      by_first false rest = refl

  others : (s : Session) (ss : List Session) → s.interface.number < 2 ^ 64 → AllByRecursion (λ t. (s.interface.number == t.interface.number) ≡ false) ss → Numbered ss
      → IsOther router.family router.blackhole allowed_set covered_set (inputs r router s) (map (inputs r router) ss)
  others s [] small apart numbered = tt
  others s (t ∷ ss) small apart numbered = (words_apart s.interface.number t.interface.number small numbered.0 apart.0, others s ss small apart.1 numbered.2)

  are_fit : (ss : List Session) → AllByRecursion Fits ss → Numbered ss → AreFit router.family router.blackhole allowed_set covered_set (map (inputs r router) ss)
  are_fit [] all numbered = tt
  are_fit (s ∷ ss) all numbered = (all.0, others s ss numbered.0 numbered.1 numbered.2, are_fit ss all.1 numbered.2)

  pub sessions_fit : AreFit router.family router.blackhole allowed_set covered_set (map (inputs r router) (router_sessions r router))
  sessions_fit = are_fit (router_sessions r router) all_fit (sessions_numbered r router valid)

pub mapped_parts : {A B C : Type 0} (f : B → List C) (g : A → B) (xs : List A) → flat_map f (map g xs) ≡ flat_map (λ x. f (g x)) xs
mapped_parts f g [] = refl
mapped_parts f g (x ∷ xs) = ap (λ ys. f (g x) ++ ys) (mapped_parts f g xs)

pub all_at : (P : Session → Type 0) (front : List Session) (s : Session) (back : List Session) → AllByRecursion P (front ++ s ∷ back) → P s
all_at P [] s back all = all.0
all_at P (t ∷ front) s back all = all_at P front s back all.1
