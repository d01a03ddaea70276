-- Members of objects (RFC 8259 section 4), without blanks.
use Rattle.std.specs.Prelude.{ℕ, List, ◌++◌, Option, Some, None, decimal, codes}
use Rattle.json.specs.Print.{quoted}
use Rattle.ixp_num.specs.declared.asn.Asn.{Asn}
use Rattle.ixp_num.specs.declared.prefix.Prefix.{Prefix}
use Rattle.ixp_num.specs.Printing.{prefix_text}

-- a name behind a mark: `{` or `,`
abbrev pub name_text : List ℕ → List ℕ → List ℕ
name_text mark name = mark ++ (quoted name ++ codes ":")

unfoldable pub number_member : List ℕ → List ℕ → ℕ → List ℕ
number_member mark name n = name_text mark name ++ decimal n

unfoldable pub text_member : List ℕ → List ℕ → List ℕ → List ℕ
text_member mark name text = name_text mark name ++ quoted text

abbrev pub null_member : List ℕ → List ℕ → List ℕ
null_member mark name = name_text mark name ++ codes "null"

unfoldable pub asn_member : List ℕ → List ℕ → Option Asn → List ℕ
asn_member mark name None = null_member mark name
asn_member mark name (Some asn) = number_member mark name asn.0

unfoldable pub prefix_member : List ℕ → List ℕ → Option Prefix → List ℕ
prefix_member mark name None = null_member mark name
prefix_member mark name (Some prefix) = text_member mark name (prefix_text prefix)
