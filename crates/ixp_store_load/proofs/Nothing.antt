-- The registry without rows is valid.
use Rattle.std.proofs.Common.{◌≡◌, ◌≤◌, ℕ, [], true, arith}
use Rattle.std.proofs.lemmas.Str.{is_utf8-from_IsUtf8, IsUtf8-nil}
use Rattle.ixp_registry.specs.Alphabets.{is_note}
use Rattle.ixp_registry.specs.Valid.{Valid}
use Rattle.ixp_store_words.specs.Answers.{empty_registry}

zero_below : (n : ℕ) → 0 ≤ n
zero_below n = omega arith

no_note : is_note [] ≡ true
no_note = is_utf8-from_IsUtf8 [] IsUtf8-nil

pub valid_nothing : Valid empty_registry
valid_nothing = record {
  site = record { fits = (omega arith, omega arith, tt); shortname = no_note };
  members = record { order = tt; each = tt; asns = λ k. zero_below 1; few = zero_below 4000 };
  contacts = record { order = tt; each = tt; members = tt; few = λ k. zero_below 16 };
  keys = record { order = tt; each = tt; owners = tt; secrets = λ k. zero_below 1; few = λ k. zero_below 8 };
  switches = record { order = tt; each = tt; few = zero_below 256 };
  ports = record { order = tt; each = tt; switches = tt; members = tt; few = zero_below 16384 };
  vlans = record { order = tt; each = tt; apart = tt; few = zero_below 64 };
  interfaces = record { order = tt; each = tt; named = tt; few = zero_below 8000; per_member = λ k. zero_below 16 };
  routers = record { order = tt; each = tt; named = tt; apart = tt; few = zero_below 16; addresses = λ k. zero_below 1 };
  irr = record { order = tt; each = tt; members = tt; few = zero_below 4000000 };
  origins = record { order = tt; each = tt; members = tt };
  rules = record { order = tt; each = tt; members = tt };
  public = record {
    bogons = tt;
    bogon_as = tt;
    transit = tt;
    roas = tt;
    fits = (tt, tt, tt);
    patterns = tt;
    ranges = tt;
    lengths = tt;
    few = (zero_below 10000, zero_below 10000, zero_below 10000, zero_below 1000000);
  };
  light = zero_below 8000000;
}
