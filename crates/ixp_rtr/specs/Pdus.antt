-- The bytes of the PDUs that a cache sends (RFC 8210 section 5). Numbers are in network byte order.
use Rattle.std.specs.Prelude.{ℕ, Bool, true, false, List, [], ◌∷◌}
use Rattle.std.specs.List.{concat, flat_map}
use Rattle.std.specs.Int.{w32, w128, to_be_bytes}
use Rattle.ixp_num.specs.declared.family.Family.{Family}
use Rattle.ixp_num.specs.declared.family.Family.TheVariants.{V4, V6}
use Rattle.ixp_num.specs.declared.roa.Roa.{Roa}
use Rattle.ixp_rtr.specs.declared.header.Header.{Header}
use Rattle.ixp_rtr.specs.declared.pdu.Pdu.{Pdu}
use Rattle.ixp_rtr.specs.declared.pdu.Pdu.TheVariants.{CacheResponse, Prefix, EndOfData, CacheReset, ErrorReport}
use Rattle.ixp_rtr.specs.Headers.{header_bytes}

-- the header of a PDU of version 1
abbrev pub header : ℕ → ℕ → ℕ → Header
header kind session length = record { version = 1; kind = kind; session = session; length = length }

-- the flags of a Prefix PDU: 1 announces, 0 withdraws
abbrev pub flags : Bool → ℕ
flags true = 1
flags false = 0

-- IPv4 Prefix (5.6), IPv6 Prefix (5.7): header; flags, prefix length, max length, zero; prefix; AS number
abbrev pub prefix_bytes : Family → Bool → Roa → List ℕ
prefix_bytes V4 announces roa = concat (
    header_bytes (header 4 0 20) ∷ (flags announces ∷ roa.prefix.len ∷ roa.max ∷ 0 ∷ [])
    ∷ to_be_bytes w32 roa.prefix.value ∷ to_be_bytes w32 roa.asn.0 ∷ [])
prefix_bytes V6 announces roa = concat (
    header_bytes (header 6 0 32) ∷ (flags announces ∷ roa.prefix.len ∷ roa.max ∷ 0 ∷ [])
    ∷ to_be_bytes w128 roa.prefix.value ∷ to_be_bytes w32 roa.asn.0 ∷ [])

-- End of Data (5.8): header; serial number; refresh, retry and expire interval in seconds (section 6)
abbrev pub end_bytes : ℕ → ℕ → List ℕ
end_bytes session serial = concat (
    header_bytes (header 7 session 24) ∷ to_be_bytes w32 serial
    ∷ to_be_bytes w32 3600 ∷ to_be_bytes w32 600 ∷ to_be_bytes w32 7200 ∷ [])

-- Error Report (5.11): header; length of the encapsulated PDU, which is its header, and that; length of the
-- text
abbrev pub report_bytes : ℕ → Header → List ℕ
report_bytes code faulty = concat (
    header_bytes (header 10 code 24) ∷ to_be_bytes w32 8 ∷ header_bytes faulty ∷ to_be_bytes w32 0 ∷ [])

-- each PDU; Cache Response is of section 5.5, Cache Reset of 5.9
abbrev pub pdu_bytes : Pdu → List ℕ
pdu_bytes (CacheResponse session) = header_bytes (header 3 session 8)
pdu_bytes (Prefix announces roa) = prefix_bytes roa.prefix.family announces roa
pdu_bytes (EndOfData session serial) = end_bytes session serial
pdu_bytes CacheReset = header_bytes (header 8 0 8)
pdu_bytes (ErrorReport code faulty) = report_bytes code faulty

-- PDUs, one after the other
abbrev pub pdus_bytes : List Pdu → List ℕ
pdus_bytes pdus = flat_map pdu_bytes pdus
