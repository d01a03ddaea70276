-- Free texts.
use Rattle.std.proofs.Common.{◌≡◌, ℕ, ◌<◌, Bool, true, false, List, [], ◌∷◌, ◌++◌, length, flat_map, codes, refl, arith, if◌then◌else◌}
use Rattle.percent_encoding.specs.AsciiSet.{should_percent_encode}
use Rattle.percent_encoding.specs.Percent.{percent_encode, percent_encode_byte, encode_byte, percent_decode}
use Rattle.ixp_num_tables.specs.Tables.{same}
use Rattle.ixp_rows_lines.specs.declared.free.TheConstants.{ESCAPED}
use Rattle.ixp_rows_lines.specs.Fields.{or_dash, free_text}
use Rattle.ixp_rows_lines.specs.Reading.{without_dash}

some_byte : (c : ℕ) (more : List ℕ) (b : Bool) → or_dash ((if b then percent_encode_byte c else c ∷ []) ++ more) ≡ (if b then percent_encode_byte c else c ∷ []) ++ more
unfolding percent_encode_byte
some_byte c more true = refl
some_byte c more false = refl

-- bytes are written one after the other
pub free_some : (t : List ℕ) → 0 < length t → free_text t ≡ flat_map (encode_byte ESCAPED) t
unfolding percent_encode
free_some [] some = absurd (omega (arith, some))
free_some (c ∷ cs) some = some_byte c (flat_map (encode_byte ESCAPED) cs) (should_percent_encode ESCAPED c)

-- and none as a dash
pub free_none : (t : List ℕ) → length t ≡ 0 → free_text t ≡ codes "-"
unfolding percent_encode
free_none [] none = refl
free_none (c ∷ cs) none = absurd (omega (arith, none))

-- and a dash stands for none
pub dash_decoded : (t : List ℕ) → same t (codes "-") ≡ true → percent_decode (without_dash t) ≡ []
unfolding percent_decode
dash_decoded t e = rw e refl

pub ruleset free_laws = (free_some, free_none)
