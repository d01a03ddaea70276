-- A handle is a name.
use Rattle.std.proofs.Common.{◌≡◌, ℕ, ◌≤◌, Bool, true, false, ◌&&◌, ◌||◌, ◌==◌, nat_le, List, [], ◌∷◌, length, refl, arith, le-leb}
use Rattle.std.specs.List.{list_all}
use Rattle.std.proofs.lemmas.Bool.{and_parts, and_from, leb-true}
use Rattle.ixp_num.specs.Names.{is_name, is_name_byte, is_within}
use Rattle.ixp_registry.specs.Alphabets.{has_length, begins_small, is_handle, is_handle_byte}

-- a b c d e f are the six kinds of a name's bytes
name_byte : (a b c d e f : Bool) → (a || c || d || e) ≡ true → (a || b || c || d || e || f) ≡ true
name_byte true b c d e f h = refl
name_byte false true c d e f h = refl
name_byte false false true d e f h = refl
name_byte false false false true e f h = refl
name_byte false false false false true f h = refl
name_byte false false false false false f h = absurd (let bad : ⊥ = cc in bad)

bytes : (t : List ℕ) → list_all is_handle_byte t ≡ true → list_all is_name_byte t ≡ true
bytes [] all = refl
bytes (c ∷ t) all =
    let parts = and_parts (is_handle_byte c) (list_all is_handle_byte t) all in
    and_from (is_name_byte c) (list_all is_name_byte t) (name_byte (is_within 97 122 c) (is_within 65 90 c) (is_within 48 57 c) (c == 95) (c == 45) (c == 58) parts.0) (bytes t parts.1)

pub handle_is_name : (t : List ℕ) → is_handle t ≡ true → is_name t ≡ true
handle_is_name t e =
    let parts = and_parts (has_length 1 32 t && begins_small t) (list_all is_handle_byte t) e in
    let front = and_parts (has_length 1 32 t) (begins_small t) parts.0 in
    let lengths = and_parts (nat_le 1 (length t)) (nat_le (length t) 32) front.0 in
    let few : length t ≤ 32 = leb-true (length t) 32 lengths.1 in
    and_from (nat_le 1 (length t) && nat_le (length t) 64) (list_all is_name_byte t)
    (and_from (nat_le 1 (length t)) (nat_le (length t) 64) lengths.0 (le-leb (length t) 64 (omega (arith, few)))) (bytes t parts.1)
