-- The sets of a cache and their serial numbers (RFC 8210 section 2).
use Rattle.std.specs.Prelude.{◌≡◌, ◌≢◌, ◌+◌, ◌-◌, ◌%◌, ◌==◌, ℕ, Bool, true, false, nat_le, if◌then◌else◌, Option, None, List, [], ◌∷◌, take, slice_get}
use Rattle.ixp_num.specs.declared.roa.Roa.{Roa}
use Rattle.ixp_rtr.specs.declared.cache.RtrCache.{RtrCache}

-- a new session
abbrev pub opened : ℕ → List Roa → RtrCache
opened session set = record { session = session; serial = 0; present = set; kept = [] }

-- The cache after an update to another set: the serial rises by one, and the last eight sets before it are
-- kept. Past the last serial a new session begins, without earlier sets.
abbrev pub moved : RtrCache → List Roa → RtrCache
moved cache set =
    if cache.serial == 4294967295
    then record { session = (cache.session + 1) % 65536; serial = 0; present = set; kept = [] }
    else record {
      session = cache.session;
      serial = cache.serial + 1;
      present = set;
      kept = take 8 (cache.present ∷ cache.kept);
    }

-- what an update with this set returns, whether the set is another one, and what it makes of the cache
abbrev pub Updates : RtrCache → List Roa → Bool → RtrCache → Type 0
Updates cache set false now = (set ≡ cache.present) × (now ≡ cache)
Updates cache set true now = (set ≢ cache.present) × (now ≡ moved cache set)

-- the set of a serial, if the cache has it: the present one or one that is kept
abbrev pub set_of : RtrCache → ℕ → Option (List Roa)
set_of cache serial = if nat_le serial cache.serial
    then slice_get (cache.present ∷ cache.kept) (cache.serial - serial) else None
