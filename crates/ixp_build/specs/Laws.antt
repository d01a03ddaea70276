-- What is pending of a bundle after changes, one after the other.
use Rattle.std.specs.Prelude.{◌≡◌, ◌≤◌, ℕ, false, ⊤, ◌||◌, List, [], ◌∷◌, ◌++◌}
use Rattle.ixp_registry.specs.declared.registry.Registry.{Registry}
use Rattle.ixp_registry.specs.Valid.{Valid}
use Rattle.ixp_registry_change.specs.declared.change.RegistryChange.{RegistryChange}
use Rattle.ixp_registry_change.specs.Changes.{with_change}
use Rattle.ixp_build_pending.specs.declared.pending.Pending.{Pending}
use Rattle.ixp_build_pending.specs.declared.touch.Touch.{Touch}
use Rattle.ixp_build_pending.specs.Pendings.{header_count, lists_header, lists_session, session_count}
use Rattle.ixp_build_touches.specs.Touched.{touch}
use Rattle.ixp_build.specs.Bundles.{head_wanted, part_wanted}

-- the registry after changes, one after the other
abbrev pub after_changes : Registry → List RegistryChange → Registry
after_changes r [] = r
after_changes r (c ∷ cs) = after_changes (with_change r c) cs

-- each leaves a valid registry, as the change of an accepted edit does
abbrev pub AllValid : Registry → List RegistryChange → Type 0
AllValid r [] = ⊤
AllValid r (c ∷ cs) = Valid (with_change r c) × AllValid (with_change r c) cs

abbrev pub joined : Touch → Touch → Touch
joined t u = record {
  headers = t.headers ++ u.headers;
  sessions = t.sessions ++ u.sessions;
  roas = t.roas || u.roas;
}

-- what is pending after these changes, where this was pending before
abbrev pub pending : Touch → Registry → List RegistryChange → Touch
pending t r [] = t
pending t r (c ∷ cs) = pending (joined (touch r (with_change r c) c) t) (with_change r c) cs

-- the one lists all that the other lists
pub record Covers (u t : Touch) : Type 0 where
  pub headers : (h : List ℕ) → lists_header u h ≡ false → lists_header t h ≡ false
  pub sessions : (h : List ℕ) (n : ℕ) → lists_session u h n ≡ false → lists_session t h n ≡ false
  pub roas : u.roas ≡ false → t.roas ≡ false

-- What no change after this count touched is wanted of both registries alike: of that of the version with the
-- count, and of the present one.
pub record AlikeUpto (upto : ℕ) (p : Pending) (was now : Registry) : Type 0 where
  pub heads : (h : List ℕ) → header_count p h ≤ upto → head_wanted was h ≡ head_wanted now h
  pub parts : (h : List ℕ) (n : ℕ) → session_count p h n ≤ upto → part_wanted was h n ≡ part_wanted now h n
  pub roas : p.roas ≤ upto → was.public.roas ≡ now.public.roas
