-- A cache that is brought up to date.
use Rattle.std.proofs.Common.{◌≡◌, ◌+◌, ◌%◌, ◌==◌, ◌∷◌, [], take, ℕ, Bool, true, false, List, ◌++◌, if◌then◌else◌, refl, ap, sym, ◌∙◌, subst}
use mathlib.Core.List.{IsPrefix}
use Rattle.ixp_num.specs.declared.roa.Roa.{Roa}
use Rattle.ixp_num_sorted.specs.Keys.{roa_key}
use Rattle.ixp_num_sorted.specs.Sorted.{IsInOrder}
use Rattle.ixp_registry.specs.declared.registry.Registry.{Registry}
use Rattle.ixp_board.specs.Histories.{entries, IsLegal}
use Rattle.ixp_board.proofs.Entries.{same_first, same_turns}
use Rattle.ixp_desk_history.specs.declared.turn.First.{First}
use Rattle.ixp_desk_history.specs.declared.turn.Turn.{Turn}
use Rattle.ixp_desk_history.specs.Legal.{Legal}
use Rattle.ixp_desk_history.specs.Turns.{IsVersion}
use Rattle.ixp_desk_history.proofs.Versions.{one_version, version_stays}
use Rattle.ixp_desk_lock.specs.Facts.{Log}
use Rattle.ixp_desk_lock.specs.Sights.{Sight}
use Rattle.ixp_desk_lock.proofs.Installs.{prefix_turns}
use Rattle.ixp_rtr.specs.declared.cache.RtrCache.{RtrCache}
use Rattle.ixp_rtr.specs.Caches.{Updates, moved}
use Rattle.ixp_desk_rtr.specs.Roas.{AreRoasAt, GivesRoas, HoldsRoas, IsFresh, IsUpdated, Kept}

-- a version's ROAs stay those of the version while the history goes on
roas_stay : (log now : Log) (k : ℕ) (roas : List Roa) → IsLegal Legal now → IsPrefix log now → AreRoasAt log k roas → AreRoasAt now k roas
roas_stay log now k roas legal begins at =
    let p : IsPrefix (entries at.first at.turns) (entries legal.first legal.turns)
    = subst (λ (x : Log). IsPrefix x (entries legal.first legal.turns)) at.is (subst (λ (x : Log). IsPrefix log x) legal.entries_are begins) in
    let both = prefix_turns at.first legal.first at.turns legal.turns p in
    record {
      first = at.first;
      turns = legal.turns;
      is = subst (λ (x : First). now ≡ entries x legal.turns) (sym both.0) legal.entries_are;
      legal = subst (λ (x : First). Legal x legal.turns) (sym both.0) legal.legal_turns;
      registry = at.registry;
      version = subst (λ (ts : List Turn). IsVersion at.first ts k at.registry) both.1.1 (version_stays at.first at.turns both.1.0 k at.registry at.version);
      roas_are = at.roas_are;
    }

pub holds_stay : (log now : Log) (k : ℕ) (set : List Roa) → IsLegal Legal now → IsPrefix log now → HoldsRoas log k set → HoldsRoas now k set
holds_stay log now k set legal begins holds = (holds.0, roas_stay log now k holds.0 legal begins holds.1, holds.2)

-- a version has one list of ROAs
same_roas : (log : Log) (k : ℕ) (xs ys : List Roa) → AreRoasAt log k xs → AreRoasAt log k ys → xs ≡ ys
same_roas log k xs ys a b =
    let same : entries b.first b.turns ≡ entries a.first a.turns = sym b.is ∙ a.is in
    let version : IsVersion a.first a.turns k b.registry
    = subst (λ (x : First). IsVersion x a.turns k b.registry) (same_first b.first a.first b.turns a.turns same)
    (subst (λ (ts : List Turn). IsVersion b.first ts k b.registry) (same_turns b.first a.first b.turns a.turns same) b.version) in
    a.roas_are ∙ (ap (λ (r : Registry). r.public.roas) (one_version a.first a.turns k a.registry b.registry a.version version) ∙ sym b.roas_are)

-- the cache as it was
pub stays : (c : RtrCache) → IsUpdated c c
stays c = (c.present, false, (refl, refl))

-- the same of what a cache was seen as
pub stays_seen : (v : Kept) (c : RtrCache) (s : Sight) → ◌≡◌ {A = Kept} (c, s) v → IsUpdated v.0 c
stays_seen v c s is = subst (λ (x : Kept). IsUpdated x.0 c) is (stays c)

present_in : (one other : RtrCache) (set : List Roa) (last : Bool) → one.present ≡ set → other.present ≡ set → (if last then one else other).present ≡ set
present_in one other set true p q = p
present_in one other set false p q = q

-- the set of an update is present after it
pub present_now : (c now : RtrCache) (set : List Roa) (changed : Bool) → Updates c set changed now → now.present ≡ set
present_now c now set false is = ap (λ (x : RtrCache). x.present) is.1 ∙ sym is.0
present_now c now set true is = ap (λ (x : RtrCache). x.present) is.1
    ∙ present_in (record { session = (c.session + 1) % 65536; serial = 0; present = set; kept = [] })
    (record { session = c.session; serial = c.serial + 1; present = set; kept = take 8 (c.present ∷ c.kept) }) set (c.serial == 4294967295) refl refl

-- the version is the one whose ROAs the cache has
pub fresh_already : (k : ℕ) (roas : List Roa) (c : RtrCache) (s t : Sight) → IsLegal Legal t.2 → IsPrefix s.2 t.2 → HoldsRoas s.2 k c.present → GivesRoas k roas s t → IsFresh (c, s) (c, t)
fresh_already k roas c s t legal begins holds gives =
    let now = holds_stay s.2 t.2 k c.present legal begins holds in
    record {
      count = k;
      roas = roas;
      gives = gives;
      present = subst (λ xs. IsInOrder roa_key xs c.present) (same_roas t.2 k now.0 roas now.1 gives.at) now.2;
    }

pub already_seen : (v : Kept) (k n : ℕ) (roas : List Roa) (c : RtrCache) (s t : Sight) → ◌≡◌ {A = Kept} (c, s) v → n ≡ k → IsLegal Legal t.2 → IsPrefix s.2 t.2 → HoldsRoas s.2 k c.present → GivesRoas n roas s t
    → IsFresh v (c, t)
already_seen v k n roas c s t is same legal begins holds gives =
    subst (λ (x : Kept). IsFresh x (c, t)) is (fresh_already k roas c s t legal begins holds (subst (λ (m : ℕ). GivesRoas m roas s t) same gives))

pub fresh_now : (k : ℕ) (roas set : List Roa) (c now : RtrCache) (changed : Bool) (s t : Sight) → GivesRoas k roas s t → IsInOrder roa_key roas set → Updates c set changed now → IsFresh (c, s) (now, t)
fresh_now k roas set c now changed s t gives sorted is = record {
  count = k;
  roas = roas;
  gives = gives;
  present = subst (IsInOrder roa_key roas) (sym (present_now c now set changed is)) sorted;
}

pub holds_now : (k : ℕ) (roas set : List Roa) (c now : RtrCache) (changed : Bool) (s t : Sight) → GivesRoas k roas s t → IsInOrder roa_key roas set → Updates c set changed now → HoldsRoas t.2 k now.present
holds_now k roas set c now changed s t gives sorted is = (roas, gives.at, subst (IsInOrder roa_key roas) (sym (present_now c now set changed is)) sorted)
