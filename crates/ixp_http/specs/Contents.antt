-- The bytes of a content.
use Rattle.std.specs.Prelude.{ℕ, List}
use Rattle.ixp_http.specs.declared.content.Bytes.{Bytes}
use Rattle.ixp_http.specs.declared.content.Bytes.TheVariants.{Fixed, Made}

abbrev pub bytes_of : Bytes → List ℕ
bytes_of (Fixed text) = text.now
bytes_of (Made items) = items
