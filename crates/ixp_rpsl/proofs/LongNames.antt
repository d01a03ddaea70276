-- A text that is longer than a name is none.
use Rattle.std.proofs.Common.{◌≡◌, ◌<◌, ◌≤◌, ◌&&◌, ◌==◌, ℕ, Bool, true, false, List, Option, Some, None, map, length, nat_le, refl, arith, if◌then◌else◌}
use Rattle.std.specs.Char.{to_ascii_uppercase}
use Rattle.std.specs.List.{list_all, list_any, slice_split}
use Rattle.std.proofs.lemmas.Bool.{and_parts, leb-true}
use Rattle.std.proofs.lemmas.List.{length-map}
use Rattle.ixp_num.specs.Names.{is_name, is_name_byte}
use Rattle.ixp_rpsl.specs.Values.{is_name_part, is_set_name, is_set_part, set_name}

too_long : (t : List ℕ) → 64 < length t → is_set_name (map to_ascii_uppercase t) ≡ true → ⊥
too_long t long is =
    let u : List ℕ = map to_ascii_uppercase t in
    let whole = and_parts (is_name u && list_all is_name_part (slice_split (λ b. b == 58) u)) (list_any is_set_part (slice_split (λ b. b == 58) u)) is in
    let named = and_parts (is_name u) (list_all is_name_part (slice_split (λ b. b == 58) u)) whole.0 in
    let sized = and_parts (nat_le 1 (length u) && nat_le (length u) 64) (list_all is_name_byte u) named.0 in
    let short = leb-true (length u) 64 (and_parts (nat_le 1 (length u)) (nat_le (length u) 64) sized.0).1 in
    let same = length-map t to_ascii_uppercase in
    omega arith

pub no_long_name : (t : List ℕ) → 64 < length t → set_name t ≡ None
no_long_name t long = by (is_set_name (map to_ascii_uppercase t)) (too_long t long) where
  by : (b : Bool) → (b ≡ true → ⊥) → ◌≡◌ {A = Option (List ℕ)} (if b then Some (map to_ascii_uppercase t) else None) None
  by true never = absurd (never refl)
  by false never = refl
