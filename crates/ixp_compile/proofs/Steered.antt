-- What the functions that ask a route's communities answer.
use Rattle.std.proofs.Common.{◌≡◌, ℕ, zero, suc, ◌≤◌, arith, Bool, true, false, ◌&&◌, nat_le, List, [], ◌∷◌, ◌++◌, map, Some, codes, refl}
use Rattle.std.proofs.lemmas.Bool.{leb-true, le-ltb}
use Rattle.ixp_lang.specs.declared.route.Route.{Route}
use Rattle.ixp_lang.specs.declared.value.Value.TheVariants as value
use Rattle.ixp_lang.specs.Trees.{stmts, return_value}
use Rattle.ixp_lang.specs.Meaning.{Environment, Known, Params, body_of, runs_all, End, falls, returns}
use Rattle.ixp_lang.specs.Steering.{has_pair, has_triple, sends, prepends, first_line, fit_pairs}
use Rattle.ixp_lang.specs.Attributes.{in_pairs, in_triples}
use Rattle.ixp_compile.specs.Pieces.{truth_value}
use Rattle.ixp_compile.specs.Header.{sends_body, count_body, pad_body, pair_answers}
use Rattle.ixp_compile.specs.Shared.{padded}
use Rattle.ixp_compile.proofs.Communities.{in_own_triples, in_own_pairs}
use Rattle.ixp_compile.proofs.Running.{chooses}

module _ (env : Environment) (k : Known) (rs p : ℕ) (route : Route) where
  abbrev ps : Params
  ps = (codes "p", value.Int p) ∷ []

  asked : (action to : ℕ) → in_triples (rs, action, to) (map (λ t. (t.0, t.1, Some t.2)) route.triples) ≡ has_triple route rs action to
  asked action to = in_own_triples rs action to route.triples

  abbrev counted : ℕ → End
  counted n = returns (value.Int n) route

  pub count_runs : body_of env k ps (stmts (count_body rs)) route ≡ counted (prepends rs route p)
  count_runs =
      chooses counted (asked 103 p) refl (chooses counted (asked 102 p) refl (chooses counted (asked 101 p) refl (chooses counted (asked 1 p) refl
      (chooses counted (asked 103 0) refl (chooses counted (asked 102 0) refl (chooses counted (asked 101 0) refl refl))))))

  abbrev told : Bool → End
  told b = returns (value.Bool b) route

  paired : (a b : ℕ) → in_pairs (a, b) (map (λ t. (t.0, Some t.1)) route.pairs) ≡ has_pair route a b
  paired a b = in_own_pairs a b route.pairs

  -- the tests of communities of two parts, where both numbers fit
  abbrev pair_lines : Bool → List (Bool × Bool)
  pair_lines fit =
      (fit && has_pair route 0 p, false)
      ∷ (fit && has_pair route rs p, true)
      ∷ (fit && has_pair route 0 rs, false)
      ∷ (fit && has_pair route rs rs, true)
      ∷ []

  pairs_run : (a b : Bool) → nat_le rs 65535 ≡ a → nat_le p 65535 ≡ b
      → runs_all env k ps (stmts (pair_answers rs ++ return_value (truth_value true) ∷ [])) route falls
      ≡ told (first_line (pair_lines (fit_pairs rs p)) true)
  pairs_run false b ea eb = rw ea refl
  pairs_run true false ea eb = rw (ea, eb) refl
  pairs_run true true ea eb =
      rw (ea, eb, le-ltb 65535 p (leb-true p 65535 eb), le-ltb 65535 rs (leb-true rs 65535 ea))
      (chooses told (paired 0 p) refl (chooses told (paired rs p) refl (chooses told (paired 0 rs) refl (chooses told (paired rs rs) refl refl))))

  pub sends_runs : body_of env k ps (stmts (sends_body rs)) route ≡ told (sends rs route p)
  sends_runs =
      chooses told (asked 0 p) refl (chooses told (asked 1 p) refl (chooses told (asked 0 0) refl (chooses told (asked 1 0) refl
      (pairs_run (nat_le rs 65535) (nat_le p 65535) refl refl))))

pub pad_runs : (env : Environment) (k : Known) (n : ℕ) (route : Route) → n ≤ 3
    → body_of env k ((codes "n", value.Int n) ∷ []) (stmts pad_body) route ≡ falls (padded n route)
pad_runs env k zero route small = refl
pad_runs env k (suc zero) route small = refl
pad_runs env k (suc (suc zero)) route small = refl
pad_runs env k (suc (suc (suc zero))) route small = refl
pad_runs env k (suc (suc (suc (suc n)))) route small = absurd (omega arith)
