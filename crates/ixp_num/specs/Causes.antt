-- The text that tells why an input is refused.
use Rattle.std.specs.Prelude.{ℕ, List, ◌∷◌, ◌++◌, codes, decimal}
use Rattle.ixp_num.specs.declared.cause.Cause.{Cause}
use Rattle.ixp_num.specs.declared.cause.Code.{Code}
use Rattle.ixp_num.specs.declared.cause.Code.TheVariants.{U1, U2, U3, U4, U5, L1, L2, L3, L4, L5, L6, L7, L8, L9, E1, E2, E3, E4, E5}
use Rattle.ixp_num.specs.declared.cause.Place.{Place}
use Rattle.ixp_num.specs.declared.cause.Place.TheVariants.{Line, Byte, Rule}

-- a code is written as its name
abbrev pub code_text : Code → List ℕ
code_text U1 = codes "U1"
code_text U2 = codes "U2"
code_text U3 = codes "U3"
code_text U4 = codes "U4"
code_text U5 = codes "U5"
code_text L1 = codes "L1"
code_text L2 = codes "L2"
code_text L3 = codes "L3"
code_text L4 = codes "L4"
code_text L5 = codes "L5"
code_text L6 = codes "L6"
code_text L7 = codes "L7"
code_text L8 = codes "L8"
code_text L9 = codes "L9"
code_text E1 = codes "E1"
code_text E2 = codes "E2"
code_text E3 = codes "E3"
code_text E4 = codes "E4"
code_text E5 = codes "E5"

-- a place is the number of a line or a byte, or `Q` and a rule before the line
abbrev pub place_text : Place → List ℕ
place_text (Line line) = decimal line
place_text (Byte at) = decimal at
place_text (Rule rule line) = (codes "Q" ++ decimal rule) ++ (32 ∷ decimal line)

-- the code, a blank, and the place
abbrev pub cause_text : Cause → List ℕ
cause_text cause = code_text cause.code ++ 32 ∷ place_text cause.place
