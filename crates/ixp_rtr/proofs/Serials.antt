-- The sets of serials after an update.
use Rattle.std.proofs.Common.{◌≡◌, ◌≢◌, ◌+◌, ◌-◌, ◌<◌, ◌≤◌, ◌==◌, ◌%◌, ℕ, zero, suc, Bool, true, false, cond, nat_le, List, [], ◌∷◌, None, take, refl, sym, ap, ◌∙◌, arith}
use Rattle.std.specs.List.{slice_get}
use Rattle.std.proofs.lemmas.Bool.{eqb-true}
use Rattle.std.proofs.lemmas.Grind.{common_steps}
use Rattle.ixp_num.specs.declared.roa.Roa.{Roa}
use Rattle.ixp_rtr.specs.declared.cache.RtrCache.{RtrCache}
use Rattle.ixp_rtr.specs.Caches.{moved, set_of}

-- the first rows of a list, by index
within : {A : Type 0} (n k : ℕ) (xs : List A) → k < n → slice_get (take n xs) k ≡ slice_get xs k
within zero k xs less = absurd (let bad : ⊥ = omega (arith, less) in bad)
within (suc n) k [] less = refl
within (suc n) zero (x ∷ xs) less = refl
within (suc n) (suc k) (x ∷ xs) less = within n k xs (omega (arith, less))

below : (m n : ℕ) → m ≤ n → nat_le m n ≡ true
below m n le = grind (arith, common_steps)

pub stays : (cache : RtrCache) (set : List Roa) (serial : ℕ) → cache.serial ≢ 4294967295 → serial ≤ cache.serial → cache.serial < serial + 8
    → set_of (moved cache set) serial ≡ set_of cache serial
stays cache set serial not_last le few = by (cache.serial == 4294967295) refl where
  sets : List (List Roa)
  sets = cache.present ∷ cache.kept

  next : RtrCache
  next = record { session = cache.session; serial = cache.serial + 1; present = set; kept = take 8 sets }

  new_session : RtrCache
  new_session = record { session = (cache.session + 1) % 65536; serial = 0; present = set; kept = [] }

  age : cache.serial + 1 - serial ≡ suc (cache.serial - serial)
  age = omega (arith, le)

  is_later : set_of next serial ≡ slice_get (set ∷ take 8 sets) (cache.serial + 1 - serial)
  is_later = ap (λ b. cond b (slice_get (set ∷ take 8 sets) (cache.serial + 1 - serial)) None) (below serial (cache.serial + 1) (omega (arith, le)))

  is_now : set_of cache serial ≡ slice_get sets (cache.serial - serial)
  is_now = ap (λ b. cond b (slice_get sets (cache.serial - serial)) None) (below serial cache.serial le)

  young : cache.serial - serial < 8
  young = omega (arith, le, few)

  by : (b : Bool) → (cache.serial == 4294967295) ≡ b → set_of (cond b new_session next) serial ≡ set_of cache serial
  by true e = absurd (not_last (eqb-true cache.serial 4294967295 e))
  by false e =
      is_later ∙ (ap (slice_get (set ∷ take 8 sets)) age ∙ (within 8 (cache.serial - serial) sets young ∙ sym is_now))
