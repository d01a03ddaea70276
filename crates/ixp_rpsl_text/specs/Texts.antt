-- The lines of listings.
use Rattle.std.specs.Prelude.{ℕ, List, [], ◌∷◌, ◌++◌, codes, decimal}
use Rattle.ixp_num.specs.declared.asn.Asn.{Asn}
use Rattle.ixp_num.specs.declared.prefix.Prefix.{Prefix}
use Rattle.ixp_num.specs.Printing.{prefix_text}
use Rattle.ixp_rpsl.specs.declared.objects.Reach.{Reach}

-- the items' texts, each with a line feed behind it
abbrev pub lines_text : {A : Type 0} → (A → List ℕ) → List A → List ℕ
lines_text text [] = []
lines_text text (x ∷ xs) = text x ++ 10 ∷ lines_text text xs

-- a set, and the place of a set that names it
abbrev pub reach_line : Reach → List ℕ
reach_line r = r.set ++ 32 ∷ decimal r.by

abbrev pub asn_line : Asn → List ℕ
asn_line a = codes "AS" ++ decimal a.0

abbrev pub sets_text : List Reach → List ℕ
sets_text c = lines_text reach_line c

abbrev pub origins_text : List Asn → List ℕ
origins_text origins = lines_text asn_line origins

abbrev pub prefixes_text : List Prefix → List ℕ
prefixes_text prefixes = lines_text prefix_text prefixes
