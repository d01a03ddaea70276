-- What a router makes of PDUs (RFC 8210 sections 5.6, 5.7 and 12).
use Rattle.std.specs.Prelude.{◌≡◌, true, false, not, if◌then◌else◌, Option, None, Some, List, [], ◌∷◌, filter}
use Rattle.ixp_num.specs.declared.roa.Roa.{Roa}
use Rattle.ixp_rtr.specs.declared.pdu.Pdu.{Pdu}
use Rattle.ixp_rtr.specs.declared.pdu.Pdu.TheVariants.{CacheResponse, Prefix, EndOfData, CacheReset, ErrorReport}
use Rattle.ixp_rtr.specs.declared.query.Query.{Query}
use Rattle.ixp_rtr.specs.declared.query.Query.TheVariants.{Reset, Serial, End}
use Rattle.ixp_rtr.specs.declared.cache.RtrCache.{RtrCache}
use Rattle.ixp_rtr.specs.Caches.{set_of}
use Rattle.ixp_rtr.specs.Changes.{same_roa, is_among}
use Rattle.ixp_rtr.specs.Answers.{answer}

-- the set without a ROA
abbrev pub without : List Roa → Roa → List Roa
without set roa = filter (λ r. not (same_roa r roa)) set

-- The router's set after the PDUs. There is none if one announces a ROA that the router has (Duplicate
-- Announcement Received) or withdraws one that it doesn't have (Withdrawal of Unknown Record).
abbrev pub client : List Roa → List Pdu → Option (List Roa)
client set [] = Some set
client set (Prefix true roa ∷ pdus) = if is_among set roa then None else client (roa ∷ set) pdus
client set (Prefix false roa ∷ pdus) = if is_among set roa then client (without set roa) pdus else None
client set (CacheResponse session ∷ pdus) = client set pdus
client set (EndOfData session serial ∷ pdus) = client set pdus
client set (CacheReset ∷ pdus) = client set pdus
client set (ErrorReport code faulty ∷ pdus) = client set pdus

-- two sets have the same ROAs
abbrev pub SameSet : List Roa → List Roa → Type 0
SameSet one other = (roa : Roa) → is_among one roa ≡ is_among other roa

-- there is a set, with the ROAs of this one
abbrev pub Has : Option (List Roa) → List Roa → Type 0
Has None set = ⊥
Has (Some now) set = SameSet now set

-- there is a set of the serial, with the ROAs of this one
abbrev pub HasOld : Option (List Roa) → List Roa → Type 0
HasOld None set = ⊥
HasOld (Some old) set = SameSet set old

-- the set of a router that asks so: no ROA for Reset, that of the serial in the cache's session for Serial
abbrev pub Names : RtrCache → Query → List Roa → Type 0
Names cache Reset set = set ≡ []
Names cache (Serial session serial) set = (session ≡ cache.session) × HasOld (set_of cache serial) set
Names cache End set = ⊥

-- a router that has the set which its query names has the present set after the answer
abbrev pub BringsPresent : RtrCache → Query → Type 0
BringsPresent cache query = (set : List Roa) → Names cache query set
    → Has (client set (answer cache query)) cache.present
