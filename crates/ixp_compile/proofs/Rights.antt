-- The texts of a valid registry do what the rules over its rows say.
use Rattle.std.proofs.Common.{◌≡◌, ℕ, ◌≤◌, Bool, true, false, nat_le, not, List, [], ◌∷◌, ◌++◌, map, reverse, append-nil, Option, Some, None, Result, Ok, codes, refl, sym, ap, ◌∙◌, subst, if◌then◌else◌}
use Rattle.std.specs.Option.{is_some}
use Rattle.ixp_num_tables.specs.Tables.{find}
use Rattle.ixp_lang.specs.declared.fate.Fate.{Fate}
use Rattle.ixp_lang.specs.declared.route.Route.{Route}
use Rattle.ixp_lang.specs.declared.route.Verdict.TheVariants.{Accept, Reject}
use Rattle.ixp_lang.specs.declared.value.Value.TheVariants as value
use Rattle.ixp_lang.specs.Steering.{sends, prepends}
use Rattle.ixp_lang.specs.Faults.{Fault}
use Rattle.ixp_lang.specs.Trees.{ItemTree}
use Rattle.ixp_lang.specs.Meaning.{Environment, filter_end, function_end}
use Rattle.ixp_lang.specs.Walks.{walk}
use Rattle.ixp_registry.specs.declared.registry.Registry.{Registry}
use Rattle.ixp_registry.specs.declared.router.Router.{Router}
use Rattle.ixp_registry.specs.Keys.{router_key}
use Rattle.ixp_registry.specs.Sessions.{Session, session}
use Rattle.ixp_pfxset.specs.BlockList.{blocks}
use Rattle.ixp_pfxset.specs.declared.mode.Mode.TheVariants.{Exact, More}
use Rattle.ixp_pfxset.proofs.Least.{any_row_covers, any_row_is}
use Rattle.ixp_pfxset.proofs.Matching.{where_allowed}
use Rattle.ixp_num.specs.declared.prefix.Prefix.{Prefix}
use Rattle.ixp_num.specs.Families.{bits_of}
use Rattle.ixp_num.specs.Prefixes.{is_in_set}
use Rattle.std.proofs.lemmas.Bool.{leb-true}
use Rattle.ixp_policy.specs.Import.{is_covered_by, is_in_list}
use Rattle.ixp_policy.specs.Export.{steered, wish}
use Rattle.ixp_policy.specs.Fates.{passes, fate_of}
use Rattle.ixp_policy.specs.Tags.{tagged}
use Rattle.ixp_registry.specs.Valid.{Valid}
use Rattle.ixp_compile.specs.declared.inputs.Inputs.{Inputs}
use Rattle.ixp_compile.specs.Fragment.{bgp_name, up_name}
use Rattle.ixp_compile.specs.Generated.{header_inputs, inputs, allowed_set, covered_set, mode_of, session_part, footer, generated, own_part, roa_tables, router_sessions}
use Rattle.ixp_compile.specs.Header.{header}
use Rattle.ixp_compile.specs.Imports.{Allows}
use Rattle.ixp_compile.specs.Rewriting.{rewritten}
use Rattle.ixp_compile.proofs.Communities.{eq_refl}
use Rattle.ixp_compile.proofs.FatesWalked.{walked}
use Rattle.ixp_compile.proofs.Rewrites.{rules_decide}
use Rattle.ixp_compile.proofs.RouterSessions.{sent_entry, others_sent}
use Rattle.ixp_compile.proofs.SessionsKept.{session_lawful, session_number, standing, sessions_numbered, session_small}
use Rattle.ixp_compile.proofs.Validity.{head_stands, router_apart}
use Rattle.ixp_compile.proofs.WholeText.{text, up_does, sends_does, count_does}

-- merged sets match what the member's prefixes allow
registered : (i : Inputs) (net : Prefix) → nat_le net.len i.high ≡ true
    → is_in_set (allowed_set i) net ≡ (if i.address.more then is_covered_by net i.prefixes else is_in_list net i.prefixes)
registered i net short = go i.address.more where
  go : (b : Bool) → is_in_set (blocks i.prefixes (mode_of b) i.high) net ≡ (if b then is_covered_by net i.prefixes else is_in_list net i.prefixes)
  go true = where_allowed i.prefixes i.high More net ∙ any_row_covers i.prefixes i.high net (leb-true net.len i.high short)
  go false = where_allowed i.prefixes i.high Exact net ∙ any_row_is i.prefixes i.high net (leb-true net.len i.high short)

covered : (i : Inputs) (net : Prefix) → net.family ≡ i.family → is_in_set (covered_set i) net ≡ is_covered_by net i.prefixes
covered i net same =
    where_allowed i.prefixes (bits_of i.family) More net
    ∙ any_row_covers i.prefixes (bits_of i.family) net (subst (λ f. net.len ≤ bits_of f) same net.short)

allows : (r : Registry) (router : Router) (s : Session) → Allows router s (allowed_set (inputs r router s)) (covered_set (inputs r router s))
allows r router s = record {
  registered = λ route family short. registered (inputs r router s) route.net short;
  covered = λ route family host. covered (inputs r router s) route.net family;
}

module _ (r : Registry) (valid : Valid r)
    (handle : List ℕ) (router : Router) (there : find router_key handle r.routers ≡ Some router)
    (n : ℕ) (s : Session) (its : session r router n ≡ Some s) where
  pub right : (route : Route) → route.net.family ≡ router.family
      → walk (generated r router) (roa_tables r) (bgp_name n) route ≡ Ok (fate_of r router route s)
  right route family =
      ap (λ m. walk (generated r router) (roa_tables r) (bgp_name m) route) (sym (session_number r router n s its))
      ∙ walked r router allowed_set covered_set (head_stands r valid handle router there) (router_apart r valid handle router there) (router_sessions r router)
      (sessions_numbered r router valid) at.0 s at.1 at.2 route family (allows r router s) (session_lawful r router valid n s its)
      ∙ ap (λ xs. Ok (record { table = Some (tagged r router s route); passed = passes r router s route; sent = if passes r router s route then xs else [] }))
      (sym (others_sent r router s (tagged r router s route)))
    where
      at : (front : List Session) × (back : List Session) × (front ++ s ∷ back ≡ router_sessions r router)
      at = standing r router n s its

  -- A session's own text.

  abbrev own : List ItemTree
  own = own_part r router s

  own_text : own ≡ text r router allowed_set covered_set (s ∷ [])
  own_text = ap (λ l. header (header_inputs r router) ++ (l ++ (footer ++ []))) (sym (append-nil (session_part (inputs r router s))))

  pub own_right : (route : Route) → route.net.family ≡ router.family
      → walk own (roa_tables r) (bgp_name n) route ≡ Ok (record { table = Some (tagged r router s route); passed = passes r router s route; sent = [] })
  own_right route family =
      ap (λ is. walk is (roa_tables r) (bgp_name n) route) own_text
      ∙ ap (λ m. walk (text r router allowed_set covered_set (s ∷ [])) (roa_tables r) (bgp_name m) route) (sym (session_number r router n s its))
      ∙ walked r router allowed_set covered_set (head_stands r valid handle router there) (router_apart r valid handle router there) (s ∷ [])
      (session_small r router valid n s its, tt, tt) [] s [] refl route family (allows r router s)
      (session_lawful r router valid n s its)
      ∙ ap (λ b. Ok (record { table = Some (tagged r router s route); passed = passes r router s route; sent = if passes r router s route then map (sent_entry r router s (tagged r router s route)) (if not b then s ∷ [] else []) else [] }))
      (eq_refl s.interface.number)
      ∙ none (passes r router s route)
    where
      with_sent : List (List ℕ × Option Route) → Result Fate Fault
      with_sent xs = Ok (record { table = Some (tagged r router s route); passed = passes r router s route; sent = xs })

      none : (b : Bool) → with_sent (if b then [] else []) ≡ with_sent []
      none true = refl
      none false = refl

  pub own_up : (env : Environment) (route : Route) → route.net.family ≡ router.family → passes r router s route ≡ true
      → filter_end env (reverse own) (up_name n) (tagged r router s route) ≡ Ok (Accept (rewritten router.asn.0 s.rules (tagged r router s route)))
  own_up env route family pass =
      ap (λ is. filter_end env (reverse is) (up_name n) (tagged r router s route)) own_text
      ∙ ap (λ m. filter_end env (reverse (text r router allowed_set covered_set (s ∷ []))) (up_name m) (tagged r router s route)) (sym (session_number r router n s its))
      ∙ up_does r router allowed_set covered_set env (head_stands r valid handle router there) [] s [] tt route family
      ∙ ap (λ b. if b then Ok (Accept (rewritten router.asn.0 s.rules (tagged r router s route))) else Ok Reject) pass

  steered_wish : (t : Route) (to : ℕ) → steered router.asn.0 (rewritten router.asn.0 s.rules t) to ≡ wish router s t to
  steered_wish t to = rules_decide router.asn.0 t to s.rules (session_lawful r router valid n s its)

  pub own_sends : (env : Environment) (t : Route) (to : ℕ)
      → function_end env (reverse own) (codes "ixp_sends") to (rewritten router.asn.0 s.rules t) ≡ Ok (value.Bool (is_some (wish router s t to)))
  own_sends env t to =
      ap (λ is. function_end env (reverse is) (codes "ixp_sends") to (rewritten router.asn.0 s.rules t)) own_text
      ∙ sends_does r router allowed_set covered_set env (head_stands r valid handle router there) (s ∷ []) to (rewritten router.asn.0 s.rules t)
      ∙ ap (λ b. Ok (value.Bool b)) (sym (as_some (sends router.asn.0 (rewritten router.asn.0 s.rules t) to)) ∙ ap is_some (steered_wish t to))
    where
      as_some : (b : Bool) → is_some (if b then Some (prepends router.asn.0 (rewritten router.asn.0 s.rules t) to) else None) ≡ b
      as_some true = refl
      as_some false = refl

  pub own_counts : (env : Environment) (t : Route) (to times : ℕ) → wish router s t to ≡ Some times
      → function_end env (reverse own) (codes "ixp_count") to (rewritten router.asn.0 s.rules t) ≡ Ok (value.Int times)
  own_counts env t to times e =
      ap (λ is. function_end env (reverse is) (codes "ixp_count") to (rewritten router.asn.0 s.rules t)) own_text
      ∙ count_does r router allowed_set covered_set env (head_stands r valid handle router there) (s ∷ []) to (rewritten router.asn.0 s.rules t)
      ∙ ap (λ k. Ok (value.Int k)) (as_times (sends router.asn.0 (rewritten router.asn.0 s.rules t) to) (steered_wish t to ∙ e))
    where
      as_times : (b : Bool) → (if b then Some (prepends router.asn.0 (rewritten router.asn.0 s.rules t) to) else None) ≡ Some times → prepends router.asn.0 (rewritten router.asn.0 s.rules t) to ≡ times
      as_times true h = cc
      as_times false h = absurd (let bad : ⊥ = cc in bad)
