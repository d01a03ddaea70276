-- What a cache answers (RFC 8210 sections 5 and 8.1 to 8.3).
use Rattle.std.specs.Prelude.{ℕ, ◌==◌, if◌then◌else◌, Option, None, Some, List, [], ◌∷◌, ◌++◌, map}
use Rattle.ixp_num.specs.declared.roa.Roa.{Roa}
use Rattle.ixp_rtr.specs.declared.header.Header.{Header}
use Rattle.ixp_rtr.specs.declared.pdu.Pdu.{Pdu}
use Rattle.ixp_rtr.specs.declared.pdu.Pdu.TheVariants.{CacheResponse, EndOfData, CacheReset, ErrorReport}
use Rattle.ixp_rtr.specs.declared.query.Query.{Query}
use Rattle.ixp_rtr.specs.declared.query.Query.TheVariants.{Reset, Serial, End}
use Rattle.ixp_rtr.specs.declared.query.QueryFault.{QueryFault}
use Rattle.ixp_rtr.specs.declared.query.QueryFault.TheVariants.{Version, Peer, «Type» as NoType, Request, Length, Cut, ReadFault}
use Rattle.ixp_rtr.specs.declared.cache.RtrCache.{RtrCache}
use Rattle.ixp_rtr.specs.declared.answer.Answer.{Answer}
use Rattle.ixp_rtr.specs.declared.answer.Answer.TheVariants.{Nothing, All, Changes, TooOld, OtherSession}
use Rattle.ixp_rtr.specs.Pdus.{header}
use Rattle.ixp_rtr.specs.Caches.{set_of}
use Rattle.ixp_rtr.specs.Changes.{announcement, changes}

-- PDUs between Cache Response and End of Data
abbrev pub between : ℕ → ℕ → List Pdu → List Pdu
between session serial pdus = CacheResponse session ∷ (pdus ++ EndOfData session serial ∷ [])

-- the whole set (section 8.1)
abbrev pub all_of : ℕ → ℕ → List Roa → List Pdu
all_of session serial set = between session serial (map announcement set)

-- the cache doesn't have the set of the serial (section 8.3)
abbrev pub too_old : List Pdu
too_old = CacheReset ∷ []

-- what has changed since a set (section 8.2), or that the cache doesn't have it
abbrev pub since : RtrCache → Option (List Roa) → List Pdu
since cache None = too_old
since cache (Some set) = between cache.session cache.serial (changes set cache.present)

-- an Error Report alone
abbrev pub report : ℕ → Header → List Pdu
report code faulty = ErrorReport code faulty ∷ []

-- the session ID of a Serial Query isn't the cache's: Corrupt Data, with the query's header (section 5.1)
abbrev pub other_session : ℕ → List Pdu
other_session session = report 0 (header 1 session 12)

-- the answer to a query
abbrev pub answer : RtrCache → Query → List Pdu
answer cache Reset = all_of cache.session cache.serial cache.present
answer cache (Serial session serial) =
    if session == cache.session then since cache (set_of cache serial) else other_session session
answer cache End = []

-- The Error Report on a fault (section 12): 4 Unsupported Protocol Version, 5 Unsupported PDU Type,
-- 3 Invalid Request, 0 Corrupt Data. None answers an Error Report, an input cut off or a failed read.
abbrev pub reports : QueryFault → List Pdu
reports (Version found faulty) = report 4 faulty
reports (NoType found faulty) = report 5 faulty
reports (Request found faulty) = report 3 faulty
reports (Length have faulty) = report 0 faulty
reports Peer = []
reports Cut = []
reports ReadFault = []

-- the PDUs of an answer
abbrev pub pdus_of : Answer → List Pdu
pdus_of Nothing = []
pdus_of (All session serial set) = all_of session serial set
pdus_of (Changes session serial from to) = between session serial (changes from to)
pdus_of TooOld = too_old
pdus_of (OtherSession session) = other_session session
