-- What names a text, and in which order texts stand: those of one router side by side.
use Rattle.std.specs.Prelude.{ℕ, suc, List, [], ◌∷◌, ◌++◌, length, Option, Some, None}
use Rattle.ixp_build_pending.specs.declared.name.TextName.{TextName}
use Rattle.ixp_build_pending.specs.declared.rows.PendingText.{PendingText}

-- the header comes first, then the sessions by their interfaces' numbers
abbrev pub part_number : Option ℕ → ℕ
part_number None = 0
part_number (Some n) = suc n

abbrev pub text_key : TextName → List ℕ
text_key t = length t.router ∷ (t.router ++ part_number t.session ∷ [])

abbrev pub row_key : PendingText → List ℕ
row_key r = text_key r.text

-- the header of the router with the handle
abbrev pub header_of : List ℕ → TextName
header_of h = record { router = h; session = None }

-- the part of its session at the interface with the number
abbrev pub part_of : List ℕ → ℕ → TextName
part_of h n = record { router = h; session = Some n }
