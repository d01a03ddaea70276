-- What is done for one query of a router's link.
use Rattle.std.specs.Prelude.{◌≡◌, ◌≢◌, ◌⊎◌, ℕ, Option, None, Some, Ok, List, []}
use Rattle.ixp_io.specs.Told.{Told, Takes}
use Rattle.ixp_desk_lock.specs.declared.fault.TurnFault.{TurnFault}
use Rattle.ixp_desk_lock.specs.declared.fault.TurnFault.TheVariants as turn
use Rattle.ixp_desk_lock.specs.Sights.{Sight}
use Rattle.ixp_rtr.specs.declared.pdu.Pdu.{Pdu}
use Rattle.ixp_rtr.specs.declared.query.Query.{Query}
use Rattle.ixp_rtr.specs.declared.query.Query.TheVariants.{End}
use Rattle.ixp_rtr.specs.declared.query.QueryFault.{QueryFault}
use Rattle.ixp_rtr.specs.Pdus.{pdus_bytes}
use Rattle.ixp_rtr.specs.Queries.{first}
use Rattle.ixp_rtr.specs.Answers.{reports}
use Rattle.ixp_desk_rtr.specs.declared.link.RtrEnd.{RtrEnd}
use Rattle.ixp_desk_rtr.specs.declared.link.RtrEnd.TheVariants.{Bad, Peer, Cut, ReadFault, WriteFault, SeatCount, Ended, NoMemory}
use Rattle.ixp_rtr.specs.declared.query.QueryFault.TheVariants as fault
use Rattle.ixp_desk_rtr.specs.Roas.{RoasFault}
use Rattle.ixp_desk_rtr.specs.Routers.{Ends, IsOther, WasAnswered}

-- the desk gave no ROAs
abbrev pub WasRefused : TurnFault → Type 0
WasRefused x = (s : Sight) × (t : Sight) × RoasFault x s t

abbrev pub end_of : TurnFault → RtrEnd
end_of (turn.SeatCount a b) = SeatCount a b
end_of (turn.Ended n) = Ended n
end_of turn.NoMemory = NoMemory

-- an answer was written, and the link goes on or ends
abbrev pub Tells : List Pdu → Option (List ℕ) → Option (List ℕ) → Type 0 → Option RtrEnd → Type 0
Tells pdus written written' unwritten None = Takes written written' (pdus_bytes pdus) × (IsOther pdus → ⊥)
Tells pdus written written' unwritten (Some end) =
    ((end ≡ Bad) × Takes written written' (pdus_bytes pdus) × IsOther pdus) ⊎ ((end ≡ WriteFault) × unwritten)

-- a query was answered, or not: the desk gave no ROAs, and nothing was written
abbrev pub Settles : Query → Option (List ℕ) → Option (List ℕ) → Type 0 → Option RtrEnd → Type 0
Settles query written written' unwritten end =
    ((pdus : List Pdu) × WasAnswered query pdus × Tells pdus written written' unwritten end)
    ⊎ ((x : TurnFault) × WasRefused x × (end ≡ Some (end_of x)) × (written' ≡ written))

-- how the link ends behind what is no query
abbrev pub ends_by : QueryFault → RtrEnd
ends_by (fault.Version found faulty) = Bad
ends_by (fault.«Type» found faulty) = Bad
ends_by (fault.Request found faulty) = Bad
ends_by (fault.Length have faulty) = Bad
ends_by fault.Peer = Peer
ends_by fault.Cut = Cut
ends_by fault.ReadFault = ReadFault

-- what is no query was reported, if it may be, or that write failed
abbrev pub Refuses : QueryFault → Option (List ℕ) → Option (List ℕ) → Type 0 → RtrEnd → Type 0
Refuses x written written' unwritten end =
    ((end ≡ ends_by x) × Takes written written' (pdus_bytes (reports x))) ⊎ ((end ≡ WriteFault) × unwritten)

-- the next query of a link was answered, or the link ended
abbrev pub Steps : Option (List ℕ) → Option (List ℕ) → Option (List ℕ) → Option (List ℕ) → Type 0 → Type 0
    → Option RtrEnd → Type 0
Steps left left' written written' unread unwritten None =
    (query : Query) × (pdus : List Pdu) × WasAnswered query pdus × (query ≢ End) × (IsOther pdus → ⊥)
    × Told left left' (λ bytes rest. first bytes ≡ (Ok query, rest))
    × Takes written written' (pdus_bytes pdus)
Steps left left' written written' unread unwritten (Some end) =
    Ends [] left left' written written' unread unwritten end
