-- A session's part fits.
use Rattle.std.proofs.Common.{◌≡◌, ℕ, Bool, true, false, not, List, [], ◌∷◌, ◌++◌, codes, decimal, Option, Some, None, refl, sym, ap, subst, if◌then◌else◌}
use Rattle.std.specs.List.{list_all}
use Rattle.std.proofs.lemmas.Bool.{and_parts, and_from}
use Rattle.ixp_lang.specs.Trees.{ItemTree, table_item, function_item, filter_item, pipe_item, bgp_item, stmts}
use Rattle.ixp_lang.specs.declared.value.SetLit.{SetLit}
use Rattle.ixp_lang.specs.declared.value.SetLit.TheVariants as set
use Rattle.ixp_num.specs.declared.family.Family.{Family}
use Rattle.ixp_num.specs.declared.family.Family.TheVariants.{V4, V6}
use Rattle.ixp_num.specs.declared.pattern.Pattern.{Pattern}
use Rattle.ixp_lang_tokens.specs.Pieces.{same_word}
use Rattle.ixp_lang_exprs.specs.Names.{Names}
use Rattle.ixp_lang_exprs.specs.Declarations.{standing}
use Rattle.ixp_lang_exprs.specs.declared.types.ValueType.{ValueType}
use Rattle.ixp_lang_exprs.specs.declared.types.ValueType.TheVariants as type
use Rattle.ixp_lang_exprs.specs.declared.env.Declared.{Declared}
use Rattle.ixp_lang_exprs.specs.declared.env.Declared.TheVariants.{Define, Filter, Table, Begun, Function, Protocol}
use Rattle.ixp_compile.specs.declared.inputs.Inputs.{Inputs}
use Rattle.ixp_compile.specs.Pieces.{roas, master, table_kind, defined, numbers}
use Rattle.ixp_compile.specs.MemberRules.{is_receive, receive_body}
use Rattle.ixp_compile.specs.Fragment.{in_name, in_body, up_name, up_body, receive_name, down_name, down_body, table_name, pipe_name, bgp_name, pipe_of, bgp_of, irr_name, origins_name, blackhole_name, member_sets, session_filters, protocols, fragment}
use Rattle.ixp_lang_laws.specs.Sound.{some_of, is_lawful, set_type, set_fits}
use Rattle.ixp_lang_laws.specs.SoundItems.{item_fits}
use Rattle.ixp_num.specs.declared.addr.Addr.{Addr}
use Rattle.ixp_lang_exprs.specs.declared.env.Table.{Table as TableOf}
use Rattle.ixp_lang_exprs.specs.Names.{table_of}
use Rattle.ixp_lang_protocols.specs.Protocols.{Owner, filler, peer_pipe, session, now_taken, marked}
use Rattle.ixp_read.specs.Items.{unowned}
use Rattle.std.specs.Option.{is_none}
use Rattle.std.specs.Prelude.{filter}
use Rattle.ixp_lang_exprs.specs.declared.context.Scope.TheVariants as scope
use Rattle.ixp_lang_stmts.specs.Statements.{Returned, met}
use Rattle.ixp_read.specs.Functions.{as_written}
use Rattle.ixp_lang_laws.specs.SoundStatements.{returned_in}
use Rattle.ixp_lang_laws.specs.SoundItems.{with_table}
use Rattle.ixp_compile_laws.proofs.Import.{procedure, gives, a_set, IfAny, IfSet, Heads, Sets, in_fits}
use Rattle.ixp_compile_laws.proofs.OtherFilters.{same_self, up_fits, received, receive_fits, down_fits, pipe_fits, bgp_fits}
use Rattle.ixp_compile_laws.proofs.Facts.{names_after, known_again, Facts, Known, apart, known_behind, known_front, known_both, Leads, then_leads, nothing_leads, item_leads, if_leads}

-- A set that may be left out.

abbrev pub if_any : {A : Type 0} → List A → List ℕ → ValueType → Facts
if_any [] name t = []
if_any (x ∷ xs) name t = (name, a_set t) ∷ []

set_leads : {A : Type 0} (name : List ℕ) (made : List A → SetLit) (t : ValueType) (xs : List A) (fs : Facts) → ((ys : List A) → set_type (made ys) ≡ t) → ((x : A) (ys : List A) → x ∷ ys ≡ xs → set_fits 64 (made (x ∷ ys)) ≡ true)
    → apart name fs ≡ true → same_word name name ≡ true
    → Leads (λ names. (names name ≡ None) × Known names fs) (defined name made xs) (λ names. Known names (if_any xs name t ++ fs))
set_leads name made t [] fs types fit free same number names (none, known) = (refl, known)
set_leads name made t (x ∷ xs) fs types fit free same number names (none, known) =
    (rw (none, fit x xs refl) refl, (rw (same, types (x ∷ xs)) refl, known_behind names name (Define (set_type (made (x ∷ xs))) None) fs free known))

pub any_apart : {A : Type 0} (xs : List A) (name other : List ℕ) (t : ValueType) → not (same_word name other) ≡ true → apart name (if_any xs other t) ≡ true
any_apart [] name other t e = refl
any_apart (x ∷ xs) name other t e = and_from _ true e refl

-- What the head's names stand for.

abbrev pub bh_fact : Option (Addr) → Facts
bh_fact None = []
bh_fact (Some a) = (codes "ixp_bh", gives [] type.Bool) ∷ []

abbrev pub plain_table : Bool → Option Declared
plain_table roa = Some (Table (record { is_roa = roa; in_session = false; in_pipe = false }))

abbrev pub heads : Family → Option (Addr) → Facts
heads f b =
    (codes "ixp_drop", procedure (type.Int ∷ [])) ∷ (codes "ixp_net", procedure []) ∷ (codes "ixp_as", procedure []) ∷ (codes "ixp_transit", procedure [])
    ∷ (codes "ixp_sends", gives (type.Int ∷ []) type.Bool) ∷ (codes "ixp_count", gives (type.Int ∷ []) type.Int) ∷ (codes "ixp_pad", procedure (type.Int ∷ [])) ∷ (codes "ixp_out", Some Filter)
    ∷ (roas f, plain_table true) ∷ (master f, plain_table false) ∷ bh_fact b

by_family : (name : List ℕ) → ((b : Option (Addr)) → apart name (heads V4 b) ≡ true) → ((b : Option (Addr)) → apart name (heads V6 b) ≡ true)
    → (f : Family) (b : Option (Addr)) → apart name (heads f b) ≡ true
by_family name four six V4 b = four b
by_family name four six V6 b = six b

pub apart_both : (name : List ℕ) (fs gs : Facts) → apart name fs ≡ true → apart name gs ≡ true → apart name (fs ++ gs) ≡ true
apart_both name [] gs e f = f
apart_both name (x ∷ fs) gs e f =
    let h : (not (same_word name x.0) ≡ true) × (apart name fs ≡ true) = and_parts (not (same_word name x.0)) (apart name fs) e in
    and_from (not (same_word name x.0)) _ h.0 (apart_both name fs gs h.1 f)

pub bh_apart : (name : List ℕ) → not (same_word name (codes "ixp_bh")) ≡ true → (b : Option (Addr)) → apart name (bh_fact b) ≡ true
bh_apart name e None = refl
bh_apart name e (Some a) = and_from _ true e refl

-- the session's own names are none of the head's
pub own_apart : (n : ℕ) (f : Family) (b : Option (Addr))
    → (apart (table_name n) (heads f b) ≡ true) × (apart (irr_name n) (heads f b) ≡ true) × (apart (origins_name n) (heads f b) ≡ true) × (apart (blackhole_name n) (heads f b) ≡ true)
    × (apart (in_name n) (heads f b) ≡ true) × (apart (up_name n) (heads f b) ≡ true) × (apart (receive_name n) (heads f b) ≡ true) × (apart (down_name n) (heads f b) ≡ true)
    × (apart (pipe_name n) (heads f b) ≡ true) × (apart (bgp_name n) (heads f b) ≡ true)
own_apart n V4 None = (refl, refl, refl, refl, refl, refl, refl, refl, refl, refl)
own_apart n V6 None = (refl, refl, refl, refl, refl, refl, refl, refl, refl, refl)
own_apart n V4 (Some a) = (refl, refl, refl, refl, refl, refl, refl, refl, refl, refl)
own_apart n V6 (Some a) = (refl, refl, refl, refl, refl, refl, refl, refl, refl, refl)

eased : (P Q R S : Names → Type 0) (items : List ItemTree) → ((names : Names) → P names → Q names) → ((names : Names) → R names → S names) → Leads Q items R → Leads P items S
eased P Q R S items before after leads number names p = (let h = leads number names (before names p) in (h.0, after (names_after number names items) h.1))

roa_of : (f : Family) → Some (Table (unowned (table_kind f))) ≡ plain_table false
roa_of V4 = refl
roa_of V6 = refl

-- a table that a session or pipe takes
taken_known : (owner : Owner) (names : Names) (name : List ℕ) (t : TableOf) (fs : Facts) → names name ≡ Some (Table t) → apart name fs ≡ true → Known names fs → Known (with_table owner names name) ((name, Some (Table (now_taken owner t))) ∷ fs)
taken_known owner names name t fs is free k =
    subst (λ d. Known (marked owner names name (table_of d)) ((name, Some (Table (now_taken owner t))) ∷ fs)) (sym is)
    (rw (same_self name) refl, known_behind names name (Table (now_taken owner t)) fs free k)

filled_known : (names : Names) (name : List ℕ) (t : TableOf) (fs : Facts) → names name ≡ Some (Table t) → Known names fs → Known (with_table filler names name) fs
filled_known names name t fs is k = subst (λ d. Known (marked filler names name (table_of d)) fs) (sym is) (known_again names name (Table t) fs is k)

abbrev pub Apart : Inputs → Facts → Type 0
Apart i fs =
    (apart (table_name i.interface) fs ≡ true) × (apart (irr_name i.interface) fs ≡ true) × (apart (origins_name i.interface) fs ≡ true) × (apart (blackhole_name i.interface) fs ≡ true)
    × (apart (in_name i.interface) fs ≡ true) × (apart (up_name i.interface) fs ≡ true) × (apart (receive_name i.interface) fs ≡ true) × (apart (down_name i.interface) fs ≡ true)
    × (apart (pipe_name i.interface) fs ≡ true) × (apart (bgp_name i.interface) fs ≡ true)

abbrev pub free_names : Inputs → Facts
free_names i =
    (table_name i.interface, None) ∷ (irr_name i.interface, None) ∷ (origins_name i.interface, None) ∷ (blackhole_name i.interface, None)
    ∷ (in_name i.interface, None) ∷ (up_name i.interface, None) ∷ (receive_name i.interface, None) ∷ (down_name i.interface, None) ∷ (pipe_name i.interface, None) ∷ (bgp_name i.interface, None) ∷ []

-- Over what is kept behind the session: what the head's names stand for, and that those of later sessions are free.
module _ (i : Inputs) (irr blackholes : List Pattern) (kept : Facts) (ap_ : Apart i kept) (looks : (names : Names) → Known names kept → Known names (heads i.family i.blackhole))
    (irr_lawful : list_all is_lawful irr ≡ true) (bl_lawful : list_all is_lawful blackholes ≡ true) (some : some_of i.addresses ≡ true) where
  abbrev n : ℕ
  n = i.interface

  abbrev rest : Facts
  rest = (in_name n, None) ∷ (up_name n, None) ∷ (receive_name n, None) ∷ (down_name n, None) ∷ (pipe_name n, None) ∷ (bgp_name n, None) ∷ kept

  abbrev begun : Facts
  begun = (table_name n, plain_table false) ∷ rest

  table_leads : Leads (λ names. Known names ((table_name n, None) ∷ (irr_name n, None) ∷ (origins_name n, None) ∷ (blackhole_name n, None) ∷ rest)) (table_item (table_kind i.family) (table_name n) ∷ [])
      (λ names. (names (irr_name n) ≡ None) × Known names ((origins_name n, None) ∷ (blackhole_name n, None) ∷ begun))
  table_leads = item_leads (λ names. Known names ((table_name n, None) ∷ (irr_name n, None) ∷ (origins_name n, None) ∷ (blackhole_name n, None) ∷ rest)) (λ names. (names (irr_name n) ≡ None) × Known names ((origins_name n, None) ∷ (blackhole_name n, None) ∷ begun)) (table_item (table_kind i.family) (table_name n)) (λ number names (free, known). (
    rw free refl,
    (let k = known_behind names (table_name n) (Table (unowned (table_kind i.family))) ((irr_name n, None) ∷ (origins_name n, None) ∷ (blackhole_name n, None) ∷ rest) (rw ap_.0 refl) known in
        (k.0, (k.1.0, (k.1.1.0, (rw (same_self (decimal n)) (roa_of i.family), k.1.1.1))))),
  ))

  -- The sets.

  abbrev A : Facts
  A = if_any irr (irr_name n) type.PrefixSet

  abbrev B : Facts
  B = if_any i.origins (origins_name n) type.IntSet

  abbrev C : Facts
  C = if_any blackholes (blackhole_name n) type.PrefixSet

  lawful_of : (all : List Pattern) → list_all is_lawful all ≡ true → (x : Pattern) (ys : List Pattern) → x ∷ ys ≡ all → set_fits 64 (set.Prefixes (x ∷ ys)) ≡ true
  lawful_of all ok x ys same = subst (λ zs. list_all is_lawful zs ≡ true) (sym same) ok

  SetsKnown : Option Addr → Names → Type 0
  SetsKnown None names = Known names A × Known names B × Known names begun
  SetsKnown (Some a) names = Known names A × Known names B × Known names C × Known names begun

  irr_leads : Leads (λ names. (names (irr_name n) ≡ None) × Known names ((origins_name n, None) ∷ (blackhole_name n, None) ∷ begun)) (defined (irr_name n) set.Prefixes irr)
      (λ names. (names (origins_name n) ≡ None) × Known names (A ++ ((blackhole_name n, None) ∷ begun)))
  irr_leads =
      eased (λ names. (names (irr_name n) ≡ None) × Known names ((origins_name n, None) ∷ (blackhole_name n, None) ∷ begun)) (λ names. (names (irr_name n) ≡ None) × Known names ((origins_name n, None) ∷ (blackhole_name n, None) ∷ begun))
      (λ names. Known names (A ++ ((origins_name n, None) ∷ (blackhole_name n, None) ∷ begun))) (λ names. (names (origins_name n) ≡ None) × Known names (A ++ ((blackhole_name n, None) ∷ begun))) (defined (irr_name n) set.Prefixes irr) (λ names p. p)
      (λ names k. (let h = known_front names A ((origins_name n, None) ∷ (blackhole_name n, None) ∷ begun) k in (h.1.0, known_both names A ((blackhole_name n, None) ∷ begun) h.0 h.1.1)))
      (set_leads (irr_name n) set.Prefixes type.PrefixSet irr ((origins_name n, None) ∷ (blackhole_name n, None) ∷ begun) (λ ys. refl) (lawful_of irr irr_lawful) (rw ap_.1 refl) (rw (same_self (decimal n)) refl))

  origins_lead : Leads (λ names. (names (origins_name n) ≡ None) × Known names (A ++ ((blackhole_name n, None) ∷ begun))) (defined (origins_name n) numbers i.origins)
      (λ names. (names (blackhole_name n) ≡ None) × Known names (A ++ (B ++ begun)))
  origins_lead =
      eased (λ names. (names (origins_name n) ≡ None) × Known names (A ++ ((blackhole_name n, None) ∷ begun))) (λ names. (names (origins_name n) ≡ None) × Known names (A ++ ((blackhole_name n, None) ∷ begun)))
      (λ names. Known names (B ++ (A ++ ((blackhole_name n, None) ∷ begun)))) (λ names. (names (blackhole_name n) ≡ None) × Known names (A ++ (B ++ begun))) (defined (origins_name n) numbers i.origins) (λ names p. p)
      (λ names k. (let h = known_front names B (A ++ ((blackhole_name n, None) ∷ begun)) k in let g = known_front names A ((blackhole_name n, None) ∷ begun) h.1 in (g.1.0, known_both names A (B ++ begun) g.0 (known_both names B begun h.0 g.1.1))))
      (set_leads (origins_name n) numbers type.IntSet i.origins (A ++ ((blackhole_name n, None) ∷ begun)) (λ ys. refl) (λ x ys same. refl)
      (apart_both (origins_name n) A ((blackhole_name n, None) ∷ begun) (any_apart irr (origins_name n) (irr_name n) type.PrefixSet refl) (rw ap_.2 refl)) (rw (same_self (decimal n)) refl))

  blackholes_lead : (b : Option Addr) → Leads (λ names. (names (blackhole_name n) ≡ None) × Known names (A ++ (B ++ begun))) (if is_none b then [] else defined (blackhole_name n) set.Prefixes blackholes) (SetsKnown b)
  unfolding SetsKnown
  blackholes_lead None = λ number names (free, k). (refl, (let h = known_front names A (B ++ begun) k in let g = known_front names B begun h.1 in (h.0, g.0, g.1)))
  blackholes_lead (Some a) =
      eased (λ names. (names (blackhole_name n) ≡ None) × Known names (A ++ (B ++ begun))) (λ names. (names (blackhole_name n) ≡ None) × Known names (A ++ (B ++ begun))) (λ names. Known names (C ++ (A ++ (B ++ begun)))) (SetsKnown (Some a)) (defined (blackhole_name n) set.Prefixes blackholes) (λ names p. p)
      (λ names k. (let h = known_front names C (A ++ (B ++ begun)) k in let g = known_front names A (B ++ begun) h.1 in let f = known_front names B begun g.1 in (g.0, f.0, h.0, f.1)))
      (set_leads (blackhole_name n) set.Prefixes type.PrefixSet blackholes (A ++ (B ++ begun)) (λ ys. refl) (lawful_of blackholes bl_lawful)
      (apart_both (blackhole_name n) A (B ++ begun) (any_apart irr (blackhole_name n) (irr_name n) type.PrefixSet refl) (apart_both (blackhole_name n) B begun (any_apart i.origins (blackhole_name n) (origins_name n) type.IntSet refl) (rw ap_.3 refl))) (rw (same_self (decimal n)) refl))

  SetsThere : Names → Type 0
  SetsThere names = (i.address.irr ≡ true → Sets names i irr blackholes) × Known names begun

  any_set : {X : Type 0} (xs : List X) (name : List ℕ) (t : ValueType) (names : Names) → Known names (if_any xs name t) → IfAny xs (names name ≡ a_set t)
  any_set [] name t names k = tt
  any_set (x ∷ xs) name t names k = k.0

  there : (b : Option Addr) → i.blackhole ≡ b → (names : Names) → SetsKnown b names → SetsThere names
  unfolding SetsKnown SetsThere
  there None same names (a, b, k) = (
    λ e. record {
      registered = any_set irr (irr_name n) type.PrefixSet names a;
      origins = any_set i.origins (origins_name n) type.IntSet names b;
      blackholed = subst (λ o. IfSet o (IfAny blackholes (names (blackhole_name n) ≡ a_set type.PrefixSet))) (sym same) tt;
    },
    k,
  )
  there (Some x) same names (a, b, c, k) = (
    λ e. record {
      registered = any_set irr (irr_name n) type.PrefixSet names a;
      origins = any_set i.origins (origins_name n) type.IntSet names b;
      blackholed = subst (λ o. IfSet o (IfAny blackholes (names (blackhole_name n) ≡ a_set type.PrefixSet))) (sym same) (any_set blackholes (blackhole_name n) type.PrefixSet names c);
    },
    k,
  )

  held_lead : Leads (λ names. (names (irr_name n) ≡ None) × Known names ((origins_name n, None) ∷ (blackhole_name n, None) ∷ begun))
      (defined (irr_name n) set.Prefixes irr ++ (defined (origins_name n) numbers i.origins ++ ((if is_none i.blackhole then [] else defined (blackhole_name n) set.Prefixes blackholes) ++ []))) SetsThere
  held_lead =
      then_leads _ (λ names. (names (origins_name n) ≡ None) × Known names (A ++ ((blackhole_name n, None) ∷ begun))) SetsThere (defined (irr_name n) set.Prefixes irr) _ irr_leads
      (then_leads _ (λ names. (names (blackhole_name n) ≡ None) × Known names (A ++ (B ++ begun))) SetsThere (defined (origins_name n) numbers i.origins) _ origins_lead
      (then_leads _ SetsThere SetsThere (if is_none i.blackhole then [] else defined (blackhole_name n) set.Prefixes blackholes) []
      (eased (λ names. (names (blackhole_name n) ≡ None) × Known names (A ++ (B ++ begun))) (λ names. (names (blackhole_name n) ≡ None) × Known names (A ++ (B ++ begun))) (SetsKnown i.blackhole) SetsThere
      (if is_none i.blackhole then [] else defined (blackhole_name n) set.Prefixes blackholes) (λ names p. p) (there i.blackhole refl) (blackholes_lead i.blackhole))
      (nothing_leads SetsThere)))

  not_held : (b : Bool) → b ≡ false → b ≡ true → ⊥
  not_held true e f = absurd cc
  not_held false e f = absurd cc

  sets_lead : Leads (λ names. (names (irr_name n) ≡ None) × Known names ((origins_name n, None) ∷ (blackhole_name n, None) ∷ begun)) (member_sets i irr blackholes) SetsThere
  unfolding SetsThere
  sets_lead =
      if_leads (λ names. (names (irr_name n) ≡ None) × Known names ((origins_name n, None) ∷ (blackhole_name n, None) ∷ begun)) SetsThere i.address.irr _ [] (λ e. held_lead)
      (λ e number names (free, k). (refl, (λ f. absurd (not_held i.address.irr e f), k.1.1)))

  -- The filters.

  heads_of : (names : Names) → Known names (heads i.family i.blackhole) → Heads names i
  heads_of names (drop, (net, (path, (transit, (sends, (count, (pad, (out, (roa, (master_, bh)))))))))) = record { drop = drop; net = net; path = path; transit = transit; bh = by_hop i.blackhole bh; roa = roa }
    where
      by_hop : (b : Option Addr) → Known names (bh_fact b) → IfSet b (names (codes "ixp_bh") ≡ gives [] type.Bool)
      by_hop None k = tt
      by_hop (Some a) k = k.0

  in_leads : Leads SetsThere (filter_item (in_name n) (stmts (in_body i irr blackholes)) ∷ [])
      (λ names. Known names ((in_name n, Some Filter) ∷ (table_name n, plain_table false) ∷ (up_name n, None) ∷ (receive_name n, None) ∷ (down_name n, None) ∷ (pipe_name n, None) ∷ (bgp_name n, None) ∷ kept))
  unfolding SetsThere
  in_leads = item_leads SetsThere (λ names. Known names ((in_name n, Some Filter) ∷ (table_name n, plain_table false) ∷ (up_name n, None) ∷ (receive_name n, None) ∷ (down_name n, None) ∷ (pipe_name n, None) ∷ (bgp_name n, None) ∷ kept))
      (filter_item (in_name n) (stmts (in_body i irr blackholes)))
      (λ number names (sets, (t, (free, k))). (
        in_fits names i irr blackholes (heads_of names (looks names k.1.1.1.1.1)) sets some number free,
        (rw (same_self (decimal n)) refl, known_behind names (in_name n) Filter ((table_name n, plain_table false) ∷ (up_name n, None) ∷ (receive_name n, None) ∷ (down_name n, None) ∷ (pipe_name n, None) ∷ (bgp_name n, None) ∷ kept) (rw ap_.4 refl) (t, k)),
      ))

  up_leads : Leads (λ names. Known names ((in_name n, Some Filter) ∷ (table_name n, plain_table false) ∷ (up_name n, None) ∷ (receive_name n, None) ∷ (down_name n, None) ∷ (pipe_name n, None) ∷ (bgp_name n, None) ∷ kept))
      (filter_item (up_name n) (stmts (up_body i)) ∷ [])
      (λ names. Known names ((up_name n, Some Filter) ∷ (in_name n, Some Filter) ∷ (table_name n, plain_table false) ∷ (receive_name n, None) ∷ (down_name n, None) ∷ (pipe_name n, None) ∷ (bgp_name n, None) ∷ kept))
  up_leads = item_leads (λ names. Known names ((in_name n, Some Filter) ∷ (table_name n, plain_table false) ∷ (up_name n, None) ∷ (receive_name n, None) ∷ (down_name n, None) ∷ (pipe_name n, None) ∷ (bgp_name n, None) ∷ kept))
      (λ names. Known names ((up_name n, Some Filter) ∷ (in_name n, Some Filter) ∷ (table_name n, plain_table false) ∷ (receive_name n, None) ∷ (down_name n, None) ∷ (pipe_name n, None) ∷ (bgp_name n, None) ∷ kept))
      (filter_item (up_name n) (stmts (up_body i)))
      (λ number names (in_, (t, (free, k))). (
        up_fits names i number free,
        (rw (same_self (decimal n)) refl, known_behind names (up_name n) Filter ((in_name n, Some Filter) ∷ (table_name n, plain_table false) ∷ (receive_name n, None) ∷ (down_name n, None) ∷ (pipe_name n, None) ∷ (bgp_name n, None) ∷ kept) (rw ap_.5 refl) (in_, (t, k))),
      ))

  abbrev BehindUp : Names → Type 0
  BehindUp names = Known names ((up_name n, Some Filter) ∷ (in_name n, Some Filter) ∷ (table_name n, plain_table false) ∷ (receive_name n, None) ∷ (down_name n, None) ∷ (pipe_name n, None) ∷ (bgp_name n, None) ∷ kept)

  abbrev BehindReceive : Names → Type 0
  BehindReceive names =
      Known names ((receive_name n, gives [] type.Bool) ∷ (up_name n, Some Filter) ∷ (in_name n, Some Filter) ∷ (table_name n, plain_table false) ∷ (down_name n, None) ∷ (pipe_name n, None) ∷ (bgp_name n, None) ∷ kept)

  abbrev BehindDown : Names → Type 0
  BehindDown names =
      Known names ((down_name n, Some Filter) ∷ (up_name n, Some Filter) ∷ (in_name n, Some Filter) ∷ (table_name n, plain_table false) ∷ (pipe_name n, None) ∷ (bgp_name n, None) ∷ kept)

  abbrev others : Facts
  others = (up_name n, Some Filter) ∷ (in_name n, Some Filter) ∷ (table_name n, plain_table false) ∷ (down_name n, None) ∷ (pipe_name n, None) ∷ (bgp_name n, None) ∷ kept

  receive_leads : Leads BehindUp (function_item (receive_name n) [] (stmts (receive_body i.family i.rules)) ∷ []) BehindReceive
  receive_leads = item_leads BehindUp BehindReceive (function_item (receive_name n) [] (stmts (receive_body i.family i.rules))) (λ number names (up, (in_, (t, (free, k)))). (
    receive_fits number names i free,
    (let inner : Names = standing names (receive_name n) Begun in
        let returns : returned_in inner (scope.Function number) (as_written None) (stmts (receive_body i.family i.rules)) ≡ met type.Bool = (received inner number 62 (as_written None) (filter (is_receive i.family) i.rules) refl).1 in (
          rw (same_self (decimal n)) (ap (λ (r : Returned). Some (Function (record { params = []; returns = r.ty }))) returns),
          known_behind inner (receive_name n) _ others (rw ap_.6 refl) (known_behind names (receive_name n) Begun others (rw ap_.6 refl) (up, (in_, (t, k)))),
        )),
  ))

  down_leads : Leads BehindReceive (filter_item (down_name n) (stmts (down_body i)) ∷ []) BehindDown
  down_leads = item_leads BehindReceive BehindDown (filter_item (down_name n) (stmts (down_body i))) (λ number names (rx, (up, (in_, (t, (free, k))))). (
    by_heads number names rx free (looks names k.1.1),
    (rw (same_self (decimal n)) refl, known_behind names (down_name n) Filter ((up_name n, Some Filter) ∷ (in_name n, Some Filter) ∷ (table_name n, plain_table false) ∷ (pipe_name n, None) ∷ (bgp_name n, None) ∷ kept) (rw ap_.7 refl) (up, (in_, (t, k)))),
  ))
    where
      by_heads : (number : ℕ) (names : Names) → names (receive_name n) ≡ gives [] type.Bool → names (down_name n) ≡ None → Known names (heads i.family i.blackhole) → item_fits number names (filter_item (down_name n) (stmts (down_body i))) ≡ true
      by_heads number names rx free (drop, (net, (path, (transit, (sends, (count, (pad, more))))))) = down_fits number names i free rx sends count pad

  -- The protocols.

  abbrev plain : TableOf
  plain = record { is_roa = false; in_session = false; in_pipe = false }

  abbrev piped : TableOf
  piped = record { is_roa = false; in_session = false; in_pipe = true }

  abbrev BehindPipe : Names → Type 0
  BehindPipe names = Known names ((table_name n, Some (Table piped)) ∷ (in_name n, Some Filter) ∷ (bgp_name n, None) ∷ kept)

  master_of : (names : Names) → Known names (heads i.family i.blackhole) → names (master i.family) ≡ plain_table false
  master_of names (drop, (net, (path, (transit, (sends, (count, (pad, (out, (roa, (is, bh)))))))))) = is

  out_of : (names : Names) → Known names (heads i.family i.blackhole) → names (codes "ixp_out") ≡ Some Filter
  out_of names (drop, (net, (path, (transit, (sends, (count, (pad, (is, more)))))))) = is

  pipe_leads : Leads BehindDown (pipe_item (pipe_of i) ∷ []) BehindPipe
  pipe_leads = item_leads BehindDown BehindPipe (pipe_item (pipe_of i)) (λ number names (down, (up, (in_, (t, (free, k))))). (
    (pipe_fits number names i false false false false free (master_of names (looks names k.1)) t up down),
    (let first : Known (with_table filler names (master i.family)) ((table_name n, plain_table false) ∷ (in_name n, Some Filter) ∷ (bgp_name n, None) ∷ kept) = filled_known names (master i.family) plain ((table_name n, plain_table false) ∷ (in_name n, Some Filter) ∷ (bgp_name n, None) ∷ kept) (master_of names (looks names k.1)) (t, (in_, k)) in
        let second : Known (with_table peer_pipe (with_table filler names (master i.family)) (table_name n)) ((table_name n, Some (Table piped)) ∷ (in_name n, Some Filter) ∷ (bgp_name n, None) ∷ kept) = taken_known peer_pipe (with_table filler names (master i.family)) (table_name n) plain ((in_name n, Some Filter) ∷ (bgp_name n, None) ∷ kept) first.0 (rw ap_.0 refl) first.1 in
        known_behind (with_table peer_pipe (with_table filler names (master i.family)) (table_name n)) (pipe_name n) Protocol ((table_name n, Some (Table piped)) ∷ (in_name n, Some Filter) ∷ (bgp_name n, None) ∷ kept) (rw ap_.8 refl) second),
  ))

  bgp_leads : Leads BehindPipe (bgp_item (bgp_of i) ∷ []) (λ names. Known names kept)
  bgp_leads = item_leads BehindPipe (λ names. Known names kept) (bgp_item (bgp_of i)) (λ number names (t, (in_, (free, k))). (
    bgp_fits number names i false true free t in_ (out_of names (looks names k)),
    (let taken : Known (with_table session names (table_name n)) ((table_name n, Some (Table (now_taken session piped))) ∷ kept) = taken_known session names (table_name n) piped kept t ap_.0 k in
        known_behind (with_table session names (table_name n)) (bgp_name n) Protocol kept ap_.9 taken.1),
  ))

  abbrev BehindIn : Names → Type 0
  BehindIn names = Known names ((in_name n, Some Filter) ∷ (table_name n, plain_table false) ∷ (up_name n, None) ∷ (receive_name n, None) ∷ (down_name n, None) ∷ (pipe_name n, None) ∷ (bgp_name n, None) ∷ kept)

  filters_lead : Leads SetsThere (session_filters i irr blackholes) BehindDown
  filters_lead =
      then_leads SetsThere BehindIn BehindDown (filter_item (in_name n) (stmts (in_body i irr blackholes)) ∷ [])
      (filter_item (up_name n) (stmts (up_body i)) ∷ function_item (receive_name n) [] (stmts (receive_body i.family i.rules)) ∷ filter_item (down_name n) (stmts (down_body i)) ∷ []) in_leads
      (then_leads BehindIn BehindUp BehindDown (filter_item (up_name n) (stmts (up_body i)) ∷ []) (function_item (receive_name n) [] (stmts (receive_body i.family i.rules)) ∷ filter_item (down_name n) (stmts (down_body i)) ∷ []) up_leads
      (then_leads BehindUp BehindReceive BehindDown (function_item (receive_name n) [] (stmts (receive_body i.family i.rules)) ∷ []) (filter_item (down_name n) (stmts (down_body i)) ∷ []) receive_leads down_leads))

  abbrev AllFree : Names → Type 0
  AllFree names = Known names (free_names i ++ kept)

  abbrev AllKept : Names → Type 0
  AllKept names = Known names kept

  abbrev TableThere : Names → Type 0
  TableThere names = (names (irr_name n) ≡ None) × Known names ((origins_name n, None) ∷ (blackhole_name n, None) ∷ begun)

  pub session_leads : Leads AllFree (fragment i irr blackholes) AllKept
  session_leads =
      then_leads AllFree TableThere AllKept (table_item (table_kind i.family) (table_name n) ∷ []) (member_sets i irr blackholes ++ (session_filters i irr blackholes ++ (protocols i ++ []))) table_leads
      (then_leads TableThere SetsThere AllKept (member_sets i irr blackholes) (session_filters i irr blackholes ++ (protocols i ++ [])) sets_lead
      (then_leads SetsThere BehindDown AllKept (session_filters i irr blackholes) (protocols i ++ []) filters_lead
      (then_leads BehindDown BehindPipe AllKept (pipe_item (pipe_of i) ∷ []) (bgp_item (bgp_of i) ∷ []) pipe_leads bgp_leads)))
