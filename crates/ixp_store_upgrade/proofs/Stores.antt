-- A store of the first version has the rows of a state exactly where, seen as today's, it is today's store of it.
use Rattle.std.proofs.Common.{◌≡◌, ◌≢◌, ◌==◌, ℕ, Bool, true, false, cond, codes, if◌then◌else◌, List, [], ◌∷◌, ◌++◌, map, length, Option, Some, None, option_map, refl, sym, ap, ◌∙◌, subst, arith, ◌<◌, ◌^◌}
use Rattle.std.specs.Ordering.{eq_by_cmp}
use Rattle.std.specs.FinMap.{empty, get, get-empty, get-insert, insert}
use Rattle.std.specs.List.{AllByRecursion}
use Rattle.std.proofs.lemmas.Bool.{and_parts, eq-eqb, eqb-true}
use Rattle.std.proofs.lemmas.Map.Views.{tells_apart}
use Rattle.ixp_io.specs.declared.keeper.RowName.{RowName}
use Rattle.ixp_io.specs.Tables.{Table, changed, name_cmp}
use Rattle.ixp_io.proofs.Rows.{name_same, name_total, same_rows}
use Rattle.ixp_num_tables.specs.Sums.{Pairs}
use Rattle.ixp_num_tables.proofs.AllItems.{all_mapped, mapped_all}
use Rattle.ixp_registry.specs.declared.kind.Kind.TheVariants.{Routers}
use Rattle.ixp_registry.specs.declared.registry.Registry.{Registry}
use Rattle.ixp_registry.specs.declared.router.Router.{Router}
use Rattle.ixp_registry.specs.Registries.{rows_of}
use Rattle.ixp_registry.specs.Valid.{Valid}
use Rattle.ixp_rows_lines.specs.declared.version.Version.{Version}
use Rattle.ixp_rows_lines.specs.declared.version.Version.TheVariants.{One, Two}
use Rattle.ixp_rows_lines.specs.Lines.{IsLine, IsOfVersion, router_line}
use Rattle.ixp_rows.proofs.Parts.{of_rows}
use Rattle.ixp_rows.proofs.ValidLines.{valid_lines}
use Rattle.ixp_machine_steps.specs.declared.state.State.{State}
use Rattle.ixp_machine_steps.specs.States.{ValidState}
use Rattle.ixp_store_rows.specs.Names.{Entry, version_name, version_row}
use Rattle.ixp_store_rows.specs.States.{set_row, stored_rows, tables}
use Rattle.ixp_store_rows.proofs.Apart.{Differ}
use Rattle.ixp_store_rows.proofs.NamesOnce.{names_once}
use Rattle.ixp_store_rows.proofs.RowsHeld.{each_there, others_empty, rows_held, stays}
use Rattle.ixp_store_words.proofs.Sorting.{pairs_filter}
use Rattle.ixp_store_damage.specs.Loading.{kind_rows}
use Rattle.ixp_store_damage.proofs.RowsByKind.{rows_of_kind}
use Rattle.ixp_store_damage.proofs.SameRows.{ties_itself}
use Rattle.ixp_store_upgrade.specs.Upgrades.{IsOld}
use Rattle.ixp_store_upgrade.specs.Versions.{IsFirst, body_now, is_version, router_row, table_now, tables_1, version_rows, version_text}
use Rattle.ixp_store_upgrade.proofs.Images.{get_now}
use Rattle.ixp_store_upgrade.proofs.RouterTexts.{plain_text, router_name, router_text, row_is, small_bound, told}

abbrev pub Body : Type 0
Body = Option (List ℕ)

-- the table has the row
abbrev pub Holds : Table → Entry → Type 0
Holds t e = get t e.0 ≡ Some e.1

-- no row has the name
abbrev pub Far : RowName → List Entry → Type 0
Far q es = AllByRecursion (λ e. q ≢ e.0) es

-- rows that are set make the table that has them, and every other row that was there
pub made : (m t : Table) (es : List Entry) → AllByRecursion (Holds t) es → ((q : RowName) → Far q es → get m q ≡ get t q) → changed m (map set_row es) ≡ t
made m t [] all same = same_rows m t (λ q. same q tt)
made m t (e ∷ es) all same = made (insert m e.0 e.1) t es all.1 (λ q far. by_name q far (eq_by_cmp name_cmp q e.0) refl)
  where
    by_name : (q : RowName) → Far q es → (b : Bool) → eq_by_cmp name_cmp q e.0 ≡ b → get (insert m e.0 e.1) q ≡ get t q
    by_name q far true tie =
        get-insert name_total m e.0 e.1 q ∙ (ap (λ b. cond b (Some e.1) (get m q)) tie ∙ (sym all.0 ∙ ap (get t) (sym (tells_apart name_same q e.0 tie))))
    by_name q far false apart =
        get-insert name_total m e.0 e.1 q
        ∙ (ap (λ b. cond b (Some e.1) (get m q)) apart
        ∙ same q ((λ is. absurd (let bad : true ≡ false = sym (ties_itself e.0) ∙ (ap (λ n. eq_by_cmp name_cmp n e.0) (sym is) ∙ apart) in cc)), far))

-- The rows of routers
module _ (version : Version) where
  name_is : (q : Router) → (router_row version q).0 ≡ router_name q
  name_is q = ap (λ (e : Entry). e.0) (row_is version q)

  text_is : (q : Router) → (router_row version q).1 ≡ router_text version q
  text_is q = ap (λ (e : Entry). e.1) (row_is version q)

  held_row : (t : Table) (q : Router) → get t (router_name q) ≡ Some (router_text version q) → Holds t (router_row version q)
  held_row t q is = subst (Holds t) (sym (row_is version q)) is

  row_held : (t : Table) (q : Router) → Holds t (router_row version q) → get t (router_name q) ≡ Some (router_text version q)
  row_held t q is = subst (Holds t) (row_is version q) is

far_other : (v w : Version) (n : RowName) (qs : List Router) → Far n (map (router_row v) qs) → Far n (map (router_row w) qs)
far_other v w n [] far = tt
far_other v w n (q ∷ qs) far = ((λ is. far.0 (is ∙ (name_is w q ∙ sym (name_is v q)))), far_other v w n qs far.1)

apart_other : (v w : Version) (qs : List Router) → Pairs Differ (map (router_row v) qs) → Pairs Differ (map (router_row w) qs)
apart_other v w [] apart = tt
apart_other v w (q ∷ qs) apart = (all qs apart.0, apart_other v w qs apart.1)
  where
    all : (rs : List Router) → AllByRecursion (Differ (router_row v q)) (map (router_row v) rs) → AllByRecursion (Differ (router_row w q)) (map (router_row w) rs)
    all [] differ = tt
    all (r ∷ rs) differ = ((λ is. differ.0 (name_is v q ∙ (sym (name_is w q) ∙ (is ∙ (name_is w r ∙ sym (name_is v r)))))), all rs differ.1)

kept_kind : (P : Entry → Type 0) (k : ℕ) (es : List Entry) → AllByRecursion P es → AllByRecursion P (kind_rows k es)
kept_kind P k [] all = tt
kept_kind P k (e ∷ es) all = by_test (e.0.kind == k) (kept_kind P k es all.1)
  where
    by_test : (b : Bool) → AllByRecursion P (kind_rows k es) → AllByRecursion P (cond b (e ∷ kind_rows k es) (kind_rows k es))
    by_test true more = (all.0, more)
    by_test false more = more

ties : (n : ℕ) → (n == n) ≡ true
ties n = eq-eqb n n refl

far_kind : (q : RowName) (es : List Entry) → Far q (kind_rows q.kind es) → Far q es
far_kind q [] far = tt
far_kind q (e ∷ es) far = by_test (e.0.kind == q.kind) refl (far_kind q es) far
  where
    by_test : (b : Bool) → (e.0.kind == q.kind) ≡ b → (Far q (kind_rows q.kind es) → Far q es) → Far q (cond b (e ∷ kind_rows q.kind es) (kind_rows q.kind es)) → (q ≢ e.0) × Far q es
    by_test true is more far = (far.0, more far.1)
    by_test false is more far = (
      (λ same. absurd (let bad : true ≡ false = sym (ties q.kind) ∙ (ap (λ (n : RowName). n.kind == q.kind) same ∙ is) in cc)),
      more far,
    )

-- Of a valid state
module _ (s : State) (v : ValidState s) where
  abbrev routers : List Router
  routers = s.registry.routers

  abbrev rows_of_routers : Version → List Entry
  rows_of_routers version = map (router_row version) routers

  routers_held : AllByRecursion (Holds (tables s)) (rows_of_routers Two)
  routers_held = subst (AllByRecursion (Holds (tables s))) (rows_of_kind s Routers) (kept_kind (Holds (tables s)) 10 (stored_rows s) (rows_held s v))

  routers_apart : Pairs Differ (rows_of_routers Two)
  routers_apart = subst (Pairs Differ) (rows_of_kind s Routers) (pairs_filter Differ (λ e. e.0.kind == 10) (stored_rows s) (names_once s v))

  -- there are no other rows of this kind
  no_other : (q : RowName) → q.kind ≡ 10 → Far q (rows_of_routers Two) → get (tables s) q ≡ None
  no_other q kind far =
      others_empty s q (far_kind q (stored_rows s) (subst (λ n. Far q (kind_rows n (stored_rows s))) (sym kind) (subst (Far q) (sym (rows_of_kind s Routers)) far)))

  two_held : AllByRecursion (Holds (tables s)) (version_rows Two s)
  two_held = ((rows_held s v).0, routers_held)

  one_apart : Pairs Differ (version_rows One s)
  one_apart = (all routers, apart_other Two One routers routers_apart)
    where
      all : (qs : List Router) → AllByRecursion (Differ (version_name, version_text One)) (map (router_row One) qs)
      all [] = tt
      all (q ∷ qs) = ((λ is. absurd (let bad : 0 ≡ 10 = ap (λ (n : RowName). n.kind) (is ∙ name_is One q) in omega (arith, bad))), all qs)

  one_held : AllByRecursion (Holds (tables_1 s)) (version_rows One s)
  one_held = each_there (tables s) (version_rows One s) one_apart

  limits : AllByRecursion (λ q. IsLine Two (router_line Two q)) routers
  limits = (of_rows (IsLine Two) Two (rows_of s.registry) (valid_lines s.registry v.registry)).routers

-- the body of a name that is the version's, a router's, or another
abbrev body_by : Bool → Bool → List ℕ → List ℕ
body_by version router body = if version then codes "2" else if router then body ++ codes " - 0" else body

none_mapped : (f : List ℕ → List ℕ) (o : Body) → option_map f o ≡ None → o ≡ None
none_mapped f None e = refl
none_mapped f (Some b) e = absurd (let bad : ◌≡◌ {A = Body} (Some (f b)) None = e in cc)

same_mapped : (o : Body) → option_map (λ b. b) o ≡ o
same_mapped None = refl
same_mapped (Some b) = refl

no_bytes : (t : List ℕ) → length t ≡ 0 → t ≡ []
no_bytes [] e = refl
no_bytes (c ∷ cs) e = absurd (omega (arith, e))

is_its_name : (q : RowName) → is_version q ≡ true → q ≡ version_name
is_its_name q e =
    let parts = and_parts (q.kind == 0) (length q.key == 0) e in
    let kind : q.kind ≡ 0 = eqb-true q.kind 0 parts.0 in
    let key : q.key ≡ [] = no_bytes q.key (eqb-true (length q.key) 0 parts.1) in
    λ i. record { kind = kind i; key = key i }

-- Rows other than those in which the versions differ are the same in both.
module _ (s : State) (v : ValidState s) (q : RowName) (far : Far q (version_rows Two s)) where
  abbrev here : Body
  here = get (tables s) q

  still_here : (o : Body) → here ≡ option_map (body_now q) o → o ≡ here
  still_here o is = by_tests (is_version q) (q.kind == 10) refl refl is
    where
      by_tests : (a b : Bool) → is_version q ≡ a → (q.kind == 10) ≡ b → here ≡ option_map (body_by a b) o → o ≡ here
      by_tests true b version kind is = absurd (far.0 (is_its_name q version))
      by_tests false true version kind is = let away : here ≡ None = no_other s v q (eqb-true q.kind 10 kind) far.1 in none_mapped (body_by false true) o (sym is ∙ away) ∙ sym away
      by_tests false false version kind is = sym (is ∙ same_mapped o)

  here_now : option_map (body_now q) here ≡ here
  here_now = by_tests (is_version q) (q.kind == 10) refl refl
    where
      by_tests : (a b : Bool) → is_version q ≡ a → (q.kind == 10) ≡ b → option_map (body_by a b) here ≡ here
      by_tests true b version kind = absurd (far.0 (is_its_name q version))
      by_tests false true version kind = let away : here ≡ None = no_other s v q (eqb-true q.kind 10 kind) far.1 in ap (option_map (body_by false true)) away ∙ sym away
      by_tests false false version kind = same_mapped here

-- A store of the first version, seen as today's, is today's store of the state.
module _ (s : State) (first : IsFirst s) where
  abbrev now : Table
  now = table_now (tables_1 s)

  router : (q : Router) → Holds (tables_1 s) (router_row One q) → IsOfVersion One q → Holds now (router_row Two q)
  router q holds plain =
      held_row Two now q (get_now (tables_1 s) (router_name q) ∙ (ap (option_map (body_now (router_name q))) (row_held One (tables_1 s) q holds) ∙ ap Some (plain_text q plain)))

  each : (qs : List Router) → AllByRecursion (Holds (tables_1 s)) (map (router_row One) qs) → AllByRecursion (IsOfVersion One) qs → AllByRecursion (Holds now) (map (router_row Two) qs)
  each [] holds plain = tt
  each (q ∷ qs) holds plain = (router q holds.0 plain.0, each qs holds.1 plain.1)

  held : AllByRecursion (Holds now) (version_rows Two s)
  held =
      let one = one_held s first.valid in
      (get_now (tables_1 s) version_name ∙ ap (option_map (body_now version_name)) one.0, each s.registry.routers one.1 first.routers)

  other : (q : RowName) → Far q (version_rows Two s) → get now q ≡ get (tables s) q
  other q far =
      get_now (tables_1 s) q
      ∙ (ap (option_map (body_now q)) (stays (tables s) q (version_rows One s) (far.0, far_other Two One q s.registry.routers far.1)) ∙ here_now s first.valid q far)

  first_now : now ≡ tables s
  first_now = sym (made now now (version_rows Two s) held (λ q far. refl)) ∙ made now (tables s) (version_rows Two s) (two_held s first.valid) other

pub now_first : (s : State) → IsFirst s → (t : Table) → t ≡ tables_1 s → table_now t ≡ tables s
now_first s first t is = ap table_now is ∙ first_now s first

-- its version's row says 1
pub first_old : (s : State) → IsFirst s → (t : Table) → t ≡ tables_1 s → IsOld t
first_old s first t is = subst IsOld (sym is) (one_held s first.valid).0

-- The other way round: a store that, seen as today's, is today's store of a state.
module _ (s : State) (v : ValidState s) (t : Table) (old : IsOld t) (now : table_now t ≡ tables s) where
  body_here : (q : RowName) → get (tables s) q ≡ option_map (body_now q) (get t q)
  body_here q = sym (ap (λ u. get u q) now) ∙ get_now t q

  same_elsewhere : (q : RowName) → Far q (version_rows Two s) → get t q ≡ get (tables s) q
  same_elsewhere q far = still_here s v q far (get t q) (body_here q)

  some_router : (q : Router) → q.max_comms < 2 ^ 32 → (o : Body) → get t (router_name q) ≡ o → Some (router_text Two q) ≡ option_map (body_now (router_name q)) o → IsOfVersion One q × (get t (router_name q) ≡ Some (router_text One q))
  some_router q small None is e = absurd (let bad : ◌≡◌ {A = Body} (Some (router_text Two q)) None = e in cc)
  some_router q small (Some b) is e =
      let same : ◌≡◌ {A = Body} (Some (router_text Two q)) (Some (b ++ codes " - 0")) = e in
      let text : router_text Two q ≡ b ++ codes " - 0" = cc in
      let told_of = told q b small (sym text) in
      (told_of.0, is ∙ ap Some told_of.1)

  each_router : (qs : List Router) → AllByRecursion (λ q. IsLine Two (router_line Two q)) qs → AllByRecursion (Holds (tables s)) (map (router_row Two) qs)
      → AllByRecursion (IsOfVersion One) qs × AllByRecursion (Holds t) (map (router_row One) qs)
  each_router [] lines holds = (tt, tt)
  each_router (q ∷ qs) lines holds =
      let one = some_router q (small_bound q lines.0) (get t (router_name q)) refl (sym (row_held Two (tables s) q holds.0) ∙ body_here (router_name q)) in
      let more = each_router qs lines.1 holds.1 in
      ((one.0, more.0), (held_row One t q one.1, more.1))

  routers_told : AllByRecursion (IsOfVersion One) s.registry.routers × AllByRecursion (Holds t) (map (router_row One) s.registry.routers)
  routers_told = each_router s.registry.routers (limits s v) (routers_held s v)

  pub plain_routers : AllByRecursion (IsOfVersion One) s.registry.routers
  plain_routers = routers_told.0

  -- it is the store of the first version
  pub is_first : t ≡ tables_1 s
  is_first = sym (made (tables s) t (version_rows One s) (old, routers_told.1) (λ q far. sym (same_elsewhere q (far.0, far_other One Two q s.registry.routers far.1))))

  -- and today's rows of it make it today's store
  pub made_today : changed t (map set_row (version_rows Two s)) ≡ tables s
  made_today = made t (tables s) (version_rows Two s) (two_held s v) same_elsewhere
