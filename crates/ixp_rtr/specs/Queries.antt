-- What the bytes of a router ask (RFC 8210 sections 5.3, 5.4 and 12).
use Rattle.std.specs.Prelude.{ℕ, Bool, ◌&&◌, ◌||◌, ◌==◌, not, nat_le, nat_lt, if◌then◌else◌, Option, Some, None, Result, Ok, Err, List, [], length, take, drop}
use Rattle.std.specs.Int.{w32, from_be_bytes}
use Rattle.ixp_rtr.specs.declared.header.Header.{Header}
use Rattle.ixp_rtr.specs.declared.query.Query.{Query}
use Rattle.ixp_rtr.specs.declared.query.Query.TheVariants.{Reset, Serial, End}
use Rattle.ixp_rtr.specs.declared.query.QueryFault.{QueryFault}
use Rattle.ixp_rtr.specs.declared.query.QueryFault.TheVariants.{Version, Peer, «Type» as NoType, Request, Length, Cut}
use Rattle.ixp_rtr.specs.Headers.{header_of}

-- the PDU types of version 1: 0 to 4 and 6 to 10 (RFC 8210 section 14)
abbrev pub is_type : ℕ → Bool
is_type kind = nat_le kind 4 || nat_le 6 kind && nat_le kind 10

-- the types Serial Query and Reset Query
abbrev pub is_query : ℕ → Bool
is_query kind = kind == 1 || kind == 2

-- a Serial Query has 12 bytes, a Reset Query 8
abbrev pub query_length : ℕ → ℕ
query_length kind = if kind == 1 then 12 else 8

-- a fault unless the length is that of a query of this type
abbrev pub length_fault : Header → Option QueryFault
length_fault h = if h.length == query_length h.kind then None else Some (Length h.length h)

-- The first fault of a header, if it has one: another version, an Error Report, a type that doesn't exist, a
-- PDU that is no query, another length.
abbrev pub fault_of : Header → Option QueryFault
fault_of h =
    if not (h.version == 1) then Some (Version h.version h) else (
    if h.kind == 10 then Some Peer else (
    if not (is_type h.kind) then Some (NoType h.kind h) else (
    if not (is_query h.kind) then Some (Request h.kind h) else length_fault h)))

-- a query or a fault, and the bytes after what was read of it
abbrev pub Reading : Type 0
Reading = Result Query QueryFault × List ℕ

-- after the header of a Serial Query: its serial number
abbrev pub with_serial : ℕ → List ℕ → Reading
with_serial session rest =
    if nat_lt (length rest) 4 then (Err Cut, [])
    else (Ok (Serial session (from_be_bytes w32 (take 4 rest))), drop 4 rest)

-- after a header without fault; the session ID of a Reset Query is ignored
abbrev pub with_query : Header → List ℕ → Reading
with_query h rest = if h.kind == 2 then (Ok Reset, rest) else with_serial h.session rest

-- after a header
abbrev pub with_header : Header → Option QueryFault → List ℕ → Reading
with_header h None rest = with_query h rest
with_header h (Some fault) rest = (Err fault, rest)

-- what the bytes of a link begin with
abbrev pub first : List ℕ → Reading
first bytes =
    if length bytes == 0 then (Ok End, []) else (
    if nat_lt (length bytes) 8 then (Err Cut, [])
    else with_header (header_of (take 8 bytes)) (fault_of (header_of (take 8 bytes))) (drop 8 bytes))
