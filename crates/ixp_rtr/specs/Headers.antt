-- The header of a PDU (RFC 8210 section 5.1).
use Rattle.std.specs.Prelude.{ℕ, List, ◌∷◌, ◌++◌, take, drop, slice_index}
use Rattle.std.specs.Int.{w16, w32, to_be_bytes, from_be_bytes}
use Rattle.ixp_rtr.specs.declared.header.Header.{Header}

-- version, type, session ID and length, in network byte order
abbrev pub header_bytes : Header → List ℕ
header_bytes h = h.version ∷ h.kind ∷ (to_be_bytes w16 h.session ++ to_be_bytes w32 h.length)

-- the header in eight bytes
abbrev pub header_of : List ℕ → Header
header_of bytes = record {
  version = slice_index bytes 0;
  kind = slice_index bytes 1;
  session = from_be_bytes w16 (take 2 (drop 2 bytes));
  length = from_be_bytes w32 (take 4 (drop 4 bytes));
}
