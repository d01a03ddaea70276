-- What goes out to every receiver.
use Rattle.std.proofs.Common.{◌≡◌, ℕ, Bool, true, false, ◌&&◌, ◌||◌, ◌==◌, not, nat_le, List, [], ◌∷◌, ◌++◌, filter, Option, Some, None, codes, refl, sym, ap, ◌∙◌, if◌then◌else◌}
use Rattle.std.specs.Option.{is_some}
use Rattle.ixp_num.specs.declared.addr.Addr.{Addr}
use Rattle.ixp_lang.specs.declared.route.Route.{Route}
use Rattle.ixp_lang.specs.declared.value.Value.TheVariants as value
use Rattle.ixp_lang.specs.Attributes.{in_pairs}
use Rattle.ixp_lang.specs.Steering.{has_pair}
use Rattle.ixp_lang.specs.Trees.{StmtTree, accept, delete_triples, stmts}
use Rattle.ixp_lang.specs.Meaning.{Environment, Known, End, falls, accepts, returns, runs_all}
use Rattle.ixp_registry.specs.declared.router.Router.{Router}
use Rattle.ixp_num_tables.specs.Tables.{if_there}
use Rattle.ixp_policy.specs.Blackholes.{is_blackhole, is_host_net}
use Rattle.ixp_policy.specs.Export.{hop_of, is_of_server, server_actions}
use Rattle.ixp_compile.specs.Header.{blackhole_hop, pairs_taken_away, out_body}
use Rattle.ixp_compile.specs.Pieces.{all_large}
use Rattle.ixp_compile.specs.Shared.{cleaned}
use Rattle.ixp_compile.proofs.Communities.{in_large, without_agree, filter_none, and_true, or_false}
use Rattle.ixp_compile.proofs.Running.{choose}

module _ (env : Environment) (k : Known) where
  -- the next hop of a blackhole route
  hop_runs : (bh : Option Addr) (is_host has_pair : Bool) (rest : List StmtTree) (route : Route) (next : Route → End)
      → (is_some bh ≡ true → k.call (codes "ixp_bh") [] route ≡ returns (value.Bool (is_some bh && is_host && has_pair)) route)
      → runs_all env k [] (stmts (blackhole_hop bh ++ rest)) route next
      ≡ runs_all env k [] (stmts rest) (record route { next_hop = if is_some bh && is_host && has_pair then if_there bh route.next_hop (λ a. a) else route.next_hop }) next
  hop_runs None is_host has_pair rest route next call = refl
  hop_runs (Some a) is_host has_pair rest route next call =
      rw (call refl)
      (choose (λ hop. runs_all env k [] (stmts rest) (record route { next_hop = hop }) next) (is_host && has_pair) {u = a} {v = route.next_hop} refl refl)

  for_server : (rs : ℕ) (p : ℕ × ℕ) → in_pairs p ((0, None) ∷ (rs, None) ∷ []) ≡ (p.0 == 0 || p.0 == rs)
  for_server rs p = ap (λ b. b || (p.0 == rs && true || false)) (and_true (p.0 == 0)) ∙ ap (λ b. p.0 == 0 || b) (or_false (p.0 == rs && true) ∙ and_true (p.0 == rs))

  pairs_run : (rs : ℕ) (route : Route) (b : Bool) → nat_le rs 65535 ≡ b
      → runs_all env k [] (stmts (pairs_taken_away rs ++ accept ∷ [])) route falls
      ≡ accepts (record route { pairs = filter (λ p. not (b && (p.0 == 0 || p.0 == rs))) route.pairs })
  pairs_run rs route false e = rw e (ap (λ ps. accepts (record route { pairs = ps })) (sym (filter_none route.pairs)))
  pairs_run rs route true e = rw e (ap (λ ps. accepts (record route { pairs = ps })) (without_agree _ _ (for_server rs) route.pairs))

  abbrev out_rest : ℕ → List StmtTree
  out_rest rs = delete_triples (all_large rs server_actions) ∷ pairs_taken_away rs ++ accept ∷ []

  pub out_runs : (router : Router) (route : Route)
      → (is_some router.blackhole ≡ true → k.call (codes "ixp_bh") [] route ≡ returns (value.Bool (is_blackhole router route)) route)
      → runs_all env k [] (stmts (out_body router.asn.0 router.blackhole)) route falls ≡ accepts (cleaned router route)
  out_runs router route call =
      hop_runs router.blackhole (is_host_net route.net) (has_pair route 65535 666) (out_rest router.asn.0) route falls call
      ∙ ap (λ ts. runs_all env k [] (stmts (pairs_taken_away router.asn.0 ++ accept ∷ [])) (record route { next_hop = hop_of router route; triples = ts }) falls)
      (without_agree _ _ (λ t. in_large router.asn.0 t server_actions) route.triples)
      ∙ pairs_run router.asn.0
      (record route { next_hop = hop_of router route; triples = filter (λ t. not (is_of_server router.asn.0 t)) route.triples })
      (nat_le router.asn.0 65535) refl
