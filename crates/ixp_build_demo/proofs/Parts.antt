-- The patterns in a session's part are those of its sets, and sums over sessions are sums over interfaces.
use Rattle.std.proofs.Common.{◌≡◌, ℕ, ◌+◌, ◌≤◌, Bool, true, false, List, [], ◌∷◌, ◌++◌, length, Option, Some, None, is_none, refl, sym, ap, ◌∙◌, subst, arith, if◌then◌else◌}
use Rattle.std.specs.List.{cons_option, filter_map}
use Rattle.ixp_lang.specs.declared.value.SetLit.TheVariants as set
use Rattle.ixp_lang.specs.Trees.{ItemTree}
use Rattle.ixp_num.specs.AddressForms.{version_of}
use Rattle.ixp_num.specs.declared.asn.Asn.{Asn}
use Rattle.ixp_num.specs.declared.pattern.Pattern.{Pattern}
use Rattle.ixp_num_tables.specs.Tables.{find, if_there}
use Rattle.ixp_num_tables.specs.Sums.{total}
use Rattle.ixp_num_tables.proofs.Counts.{length_sum}
use Rattle.ixp_num_tables.proofs.Looking.{all_found}
use Rattle.ixp_num_tables.proofs.SumLaws.{total_joined}
use Rattle.ixp_registry.specs.declared.lists.IrrList.{IrrList}
use Rattle.ixp_registry.specs.declared.members.Member.{Member}
use Rattle.ixp_registry.specs.declared.network.IfAddr.{IfAddr}
use Rattle.ixp_registry.specs.declared.network.Interface.{Interface}
use Rattle.ixp_registry.specs.declared.registry.Registry.{Registry}
use Rattle.ixp_registry.specs.declared.router.Router.{Router}
use Rattle.ixp_registry.specs.Keys.{irr_key, member_key}
use Rattle.ixp_registry.specs.Sessions.{Session, address_of, is_session, prefixes_in, session_at, session_with}
use Rattle.ixp_registry.specs.Valid.{Valid, ValidIrrList}
use Rattle.ixp_compile.specs.declared.inputs.Inputs.{Inputs}
use Rattle.ixp_compile.specs.Fragment.{blackhole_name, fragment, if_blackholes, irr_name, member_sets, origins_name, protocols, session_filters}
use Rattle.ixp_compile.specs.Generated.{allowed_set, covered_set, inputs, router_sessions}
use Rattle.ixp_compile.specs.Pieces.{defined, in_turn, numbers}
use Rattle.ixp_build_demo.specs.declared.figures.Counts.{Counts}
use Rattle.ixp_build_demo.specs.Counts.{counts_of, patterns_in, router_patterns, session_patterns}
use Rattle.ixp_build_demo.specs.Sizes.{patterns_at, sessions_at, set_sizes}

-- items

prefixes_defined : (name : List ℕ) (ts : List Pattern) → total patterns_in (defined name set.Prefixes ts) ≡ length ts
prefixes_defined name [] = refl
prefixes_defined name (t ∷ ts) = omega arith

numbers_defined : (name : List ℕ) (asns : List Asn) → total patterns_in (defined name numbers asns) ≡ 0
numbers_defined name [] = refl
numbers_defined name (a ∷ asns) = refl

where_held : (b : Bool) (items : List ItemTree) (n : ℕ) → total patterns_in items ≡ n → total patterns_in (if b then items else []) ≡ (if b then n else 0)
where_held true items n e = e
where_held false items n e = refl

where_not : (b : Bool) (items : List ItemTree) (n : ℕ) → total patterns_in items ≡ n → total patterns_in (if b then [] else items) ≡ (if b then 0 else n)
where_not true items n e = refl
where_not false items n e = e

sets_sum : (i : Inputs) (irr blackholes : List Pattern) → total patterns_in (member_sets i irr blackholes) ≡ (if i.address.irr then length irr + (if is_none i.blackhole then 0 else length blackholes) else 0)
sets_sum i irr blackholes =
    let a = defined (irr_name i.interface) set.Prefixes irr in
    let b = defined (origins_name i.interface) numbers i.origins in
    let c = if_blackholes i (defined (blackhole_name i.interface) set.Prefixes blackholes) in
    let ea : total patterns_in a ≡ length irr = prefixes_defined (irr_name i.interface) irr in
    let eb : total patterns_in b ≡ 0 = numbers_defined (origins_name i.interface) i.origins in
    let ec : total patterns_in c ≡ (if is_none i.blackhole then 0 else length blackholes) =
    where_not (is_none i.blackhole) (defined (blackhole_name i.interface) set.Prefixes blackholes) (length blackholes) (prefixes_defined (blackhole_name i.interface) blackholes) in
    let ja = total_joined patterns_in a (b ++ (c ++ [])) in
    let jb = total_joined patterns_in b (c ++ []) in
    let jc = total_joined patterns_in c [] in
    where_held i.address.irr (in_turn (a ∷ b ∷ c ∷ [])) (length irr + (if is_none i.blackhole then 0 else length blackholes)) (omega (arith, ea, eb, ec, ja, jb, jc))

no_sets : (i : Inputs) (irr blackholes : List Pattern) → total patterns_in (session_filters i irr blackholes ++ (protocols i ++ [])) ≡ 0
no_sets i irr blackholes = refl

part_sum : (i : Inputs) (irr blackholes : List Pattern) → total patterns_in (fragment i irr blackholes) ≡ (if i.address.irr then length irr + (if is_none i.blackhole then 0 else length blackholes) else 0)
part_sum i irr blackholes =
    let j = total_joined patterns_in (member_sets i irr blackholes) (session_filters i irr blackholes ++ (protocols i ++ [])) in
    let s = sets_sum i irr blackholes in
    let n = no_sets i irr blackholes in
    omega (arith, j, s, n)

session_sum : (r : Registry) (router : Router) (s : Session) → session_patterns r router s ≡ set_sizes router s
session_sum r router s = part_sum (inputs r router s) (allowed_set (inputs r router s)) (covered_set (inputs r router s))

-- sums

module _ {X Y : Type 0} where
  total_chosen : (w : Y → ℕ) (h : X → Option Y) (xs : List X) → total w (filter_map h xs) ≡ total (λ x. if_there (h x) 0 w) xs
  total_chosen w h [] = refl
  total_chosen w h (x ∷ xs) = by_answer (h x) (total_chosen w h xs) where
    by_answer : (o : Option Y) → total w (filter_map h xs) ≡ total (λ x. if_there (h x) 0 w) xs → total w (cons_option o (filter_map h xs)) ≡ if_there o 0 w + total (λ x. if_there (h x) 0 w) xs
    by_answer None e = omega (arith, e)
    by_answer (Some y) e = ap (λ n. w y + n) e

module _ {X : Type 0} where
  total_everywhere : (v w : X → ℕ) (xs : List X) → ((x : X) → v x ≡ w x) → total v xs ≡ total w xs
  total_everywhere v w [] same = refl
  total_everywhere v w (x ∷ xs) same = let a = same x in let e = total_everywhere v w xs same in omega (arith, a, e)

pub sessions_sum : (r : Registry) → total (λ q. total (sessions_at r q) r.interfaces) r.routers ≡ (counts_of r).sessions
sessions_sum r = total_everywhere (λ q. total (sessions_at r q) r.interfaces) (λ q. length (router_sessions r q)) r.routers
    (λ q. sym (total_chosen (λ s. 1) (session_at r q) r.interfaces) ∙ sym (length_sum (router_sessions r q)))

pub patterns_sum : (r : Registry) → total (λ q. total (patterns_at r q) r.interfaces) r.routers ≡ (counts_of r).patterns
patterns_sum r = total_everywhere (λ q. total (patterns_at r q) r.interfaces) (router_patterns r) r.routers
    (λ q. sym (total_chosen (set_sizes q) (session_at r q) r.interfaces) ∙ total_everywhere (set_sizes q) (session_patterns r q) (router_sessions r q) (λ s. sym (session_sum r q s)))

-- a session's list is short

found_few : (r : Registry) (k : List ℕ) (o : Option IrrList) → Valid r → find irr_key k r.irr ≡ o → length (if_there o [] (λ l. l.prefixes)) ≤ 300000
found_few r k None valid e = omega arith
found_few r k (Some l) valid e = let v : ValidIrrList l = all_found irr_key ValidIrrList k l r.irr valid.irr.each e in v.few

with_few : (r : Registry) (q : Router) (i : Interface) (a : Option IfAddr) (m : Option Member) (s : Session) → Valid r → session_with r q i a m ≡ Some s → length s.prefixes ≤ 300000
with_few r q i None m s valid e = absurd (let bad : ⊥ = cc in bad)
with_few r q i (Some a) None s valid e = absurd (let bad : ⊥ = cc in bad)
with_few r q i (Some a) (Some m) s valid e =
    let few = found_few r (i.member ∷ version_of q.family ∷ []) (find irr_key (i.member ∷ version_of q.family ∷ []) r.irr) valid refl in
    let is : prefixes_in r i.member q.family ≡ s.prefixes = ap (λ (o : Option Session). if_there o [] (λ t. t.prefixes)) e in
    subst (λ ps. length ps ≤ 300000) is few

pub session_few : (r : Registry) (q : Router) (i : Interface) (s : Session) → Valid r → session_at r q i ≡ Some s → length s.prefixes ≤ 300000
session_few r q i s valid e = by_test (is_session r q i) e where
  by_test : (b : Bool) → (if b then session_with r q i (address_of q.family i) (find member_key (i.member ∷ []) r.members) else None) ≡ Some s → length s.prefixes ≤ 300000
  by_test true e = with_few r q i (address_of q.family i) (find member_key (i.member ∷ []) r.members) s valid e
  by_test false e = absurd (let bad : ⊥ = cc in bad)

-- counts are the same where each number is

abbrev pub counts_with : ℕ → ℕ → ℕ → Counts
counts_with members sessions patterns = record { members = members; sessions = sessions; patterns = patterns }

pub one_counts : (l m s t p q : ℕ) → l ≡ m → s ≡ t → p ≡ q → counts_with l s p ≡ counts_with m t q
one_counts l m s t p q members sessions patterns =
    ap (λ n. counts_with n s p) members ∙ (ap (λ n. counts_with m n p) sessions ∙ ap (counts_with m t) patterns)
