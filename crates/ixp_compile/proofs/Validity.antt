-- What of a valid registry the text of a router rests on.
use Rattle.std.proofs.Common.{◌≡◌, ℕ, ◌<◌, ◌≤◌, true, false, ◌&&◌, ◌==◌, not, List, [], ◌∷◌, Option, Some, None, sym, ◌∙◌, arith, inl, inr, ◌⊎◌, true≢false}
use Rattle.std.specs.List.{AllByRecursion}
use Rattle.std.specs.Option.{is_some}
use Rattle.std.specs.declared.cmp.Ordering.TheVariants.{Less}
use Rattle.std.proofs.lemmas.Bool.{and_parts, leb-true, not-true}
use Rattle.ixp_num.specs.declared.addr.Addr.{Addr}
use Rattle.ixp_num.specs.declared.asn.Asn.{Asn}
use Rattle.ixp_num_tables.specs.Tables.{order, Ascends, find, if_there}
use Rattle.ixp_registry.specs.declared.registry.Registry.{Registry}
use Rattle.ixp_registry.specs.declared.router.Router.{Router}
use Rattle.ixp_registry.specs.Keys.{router_key}
use Rattle.ixp_num_sorted.specs.Keys.{range_key}
use Rattle.ixp_num.specs.Families.{same_family}
use Rattle.ixp_registry.specs.Valid.{Valid, ValidRouter}
use Rattle.ixp_num_tables.proofs.Looking.{all_found}
use Rattle.ixp_num_tables.proofs.FirstNumbers.{key_up}
use Rattle.ixp_compile.proofs.Communities.{eq_swap}
use Rattle.ixp_compile.specs.Shared.{FirstsAscend, HeadStands}

-- Ranges of AS numbers.

ranges_above : (r : Asn × Asn) (rs : List (Asn × Asn)) → AllByRecursion (λ s. order (range_key r) (range_key s) ≡ Less) rs → AllByRecursion (λ s. r.0.0 ≤ s.0.0) rs
ranges_above r [] all = tt
ranges_above r (s ∷ rs) all = (by_cases (key_up r.0.0 s.0.0 (r.1.0 ∷ []) (s.1.0 ∷ []) all.0), ranges_above r rs all.1) where
  by_cases : ((r.0.0 < s.0.0) ⊎ ((r.0.0 ≡ s.0.0) × (order (r.1.0 ∷ []) (s.1.0 ∷ []) ≡ Less))) → r.0.0 ≤ s.0.0
  by_cases (inl lt) = omega arith
  by_cases (inr both) = let eq = both.0 in omega arith

firsts_ascend : (rs : List (Asn × Asn)) → Ascends range_key rs → FirstsAscend rs
firsts_ascend [] up = tt
firsts_ascend (r ∷ rs) up = (ranges_above r rs up.0, firsts_ascend rs up.1)

-- The router.

module _ (r : Registry) (valid : Valid r) (handle : List ℕ) (router : Router) (there : find router_key handle r.routers ≡ Some router) where
  kept : ValidRouter router
  kept = all_found router_key ValidRouter handle router r.routers valid.routers.each there

  pub head_stands : HeadStands r router
  head_stands =
      let most : router.max_comms ≤ 1000 = leb-true router.max_comms 1000 kept.communities in
      record { bounded = omega arith; ascend = firsts_ascend r.public.bogon_as valid.public.bogon_as }

  -- its number isn't that of BLACKHOLE
  pub router_apart : is_some router.blackhole ≡ true → (65535 == router.asn.0) ≡ false
  router_apart some = go router.blackhole some kept.blackhole where
    go : (o : Option Addr) → is_some o ≡ true → if_there o true (λ b. same_family b.family router.family && not (router.asn.0 == 65535)) ≡ true → (65535 == router.asn.0) ≡ false
    go None e h = absurd (true≢false (sym e))
    go (Some a) e h = eq_swap 65535 router.asn.0 ∙ not-true (router.asn.0 == 65535) (and_parts (same_family a.family router.family) (not (router.asn.0 == 65535)) h).1
