-- A router's link: what is answered on it, and how it ends.
use Rattle.std.specs.Prelude.{◌≡◌, ◌≢◌, ◌≤◌, ℕ, ⊤, Option, Result, Ok, Err, List, [], ◌∷◌, ◌++◌, length}
use Rattle.std.specs.List.{flat_map}
use Rattle.ixp_io.specs.Told.{Told, Takes}
use Rattle.ixp_desk_lock.specs.Calls.{OtherCount, SeatEnded}
use Rattle.ixp_desk_lock.specs.Sights.{Sight}
use Rattle.ixp_rtr.specs.declared.pdu.Pdu.{Pdu}
use Rattle.ixp_rtr.specs.declared.query.Query.{Query}
use Rattle.ixp_rtr.specs.declared.query.Query.TheVariants.{Reset, Serial, End}
use Rattle.ixp_rtr.specs.declared.query.QueryFault.{QueryFault}
use Rattle.ixp_rtr.specs.declared.query.QueryFault.TheVariants.{Version, Peer as PeerError, «Type» as NoType, Request, Length, Cut as CutOff, ReadFault as Unread}
use Rattle.ixp_rtr.specs.Answers.{other_session, reports}
use Rattle.ixp_rtr.specs.Pdus.{pdus_bytes}
use Rattle.ixp_rtr.specs.Queries.{first}
use Rattle.ixp_desk_rtr.specs.declared.link.RtrEnd.{RtrEnd}
use Rattle.ixp_desk_rtr.specs.declared.link.RtrEnd.TheVariants.{Closed, Bad, Peer, Cut, Spent, ReadFault, WriteFault, SeatCount, Ended, NoMemory}
use Rattle.ixp_desk_rtr.specs.Roas.{Answers, Kept}

-- so many queries of a link are answered
abbrev pub query_limit : ℕ
query_limit = 100000

-- a query, and what answered it
pub record Exchange : Type 0 where
  pub query : Query
  pub pdus : List Pdu

-- the query was answered by the desk's cache
abbrev pub WasAnswered : Query → List Pdu → Type 0
WasAnswered query pdus = (before : Kept) × (after : Kept) × Answers query pdus before after

-- the answer is the Error Report on a query of another session
abbrev pub IsOther : List Pdu → Type 0
IsOther pdus = (session : ℕ) × (pdus ≡ other_session session)

-- each query was answered by the desk's cache, and none was of another session
abbrev pub GoOn : List Exchange → Type 0
GoOn [] = ⊤
GoOn (x ∷ xs) = WasAnswered x.query x.pdus × (x.query ≢ End) × (IsOther x.pdus → ⊥) × GoOn xs

-- the bytes of the answers
abbrev pub answers_bytes : List Exchange → List ℕ
answers_bytes xs = flat_map (λ x. pdus_bytes x.pdus) xs

-- the bytes begin with these queries, one after the other, and then there is the rest
abbrev pub Reads : List ℕ → List Exchange → List ℕ → Type 0
Reads bytes [] rest = bytes ≡ rest
Reads bytes (x ∷ xs) rest = (more : List ℕ) × (first bytes ≡ (Ok x.query, more)) × Reads more xs rest

-- behind the queries this stood next, and it was read
abbrev pub Stood : List Exchange → Result Query QueryFault → Option (List ℕ) → Option (List ℕ) → Type 0
Stood xs next before now = Told before now (λ bytes rest. (more : List ℕ) × Reads bytes xs more
    × (first more ≡ (next, rest)))

-- what was written are the answers, and then these PDUs
abbrev pub Wrote : List Exchange → List Pdu → Option (List ℕ) → Option (List ℕ) → Type 0
Wrote xs last before now = Takes before now (answers_bytes xs ++ pdus_bytes last)

-- An Error Report answers this: a PDU that is no query, or a query of another session.
abbrev pub IsBad : Result Query QueryFault → List Pdu → Type 0
IsBad (Ok query) pdus = WasAnswered query pdus × IsOther pdus
IsBad (Err (Version found faulty)) pdus = pdus ≡ reports (Version found faulty)
IsBad (Err (NoType found faulty)) pdus = pdus ≡ reports (NoType found faulty)
IsBad (Err (Request found faulty)) pdus = pdus ≡ reports (Request found faulty)
IsBad (Err (Length have faulty)) pdus = pdus ≡ reports (Length have faulty)
IsBad (Err PeerError) pdus = ⊥
IsBad (Err CutOff) pdus = ⊥
IsBad (Err Unread) pdus = ⊥

-- How a link ends behind these exchanges: what stood next, and what was written. `unread` says that reads
-- failed, `unwritten` that writes did. What was written of an answer whose write failed isn't said.
abbrev pub Ends : List Exchange → Option (List ℕ) → Option (List ℕ) → Option (List ℕ) → Option (List ℕ)
    → Type 0 → Type 0 → RtrEnd → Type 0
Ends xs left left' written written' unread unwritten Closed =
    Stood xs (Ok End) left left' × Wrote xs [] written written'
Ends xs left left' written written' unread unwritten Bad =
    (next : Result Query QueryFault) × (pdus : List Pdu) × Stood xs next left left' × IsBad next pdus
    × Wrote xs pdus written written'
Ends xs left left' written written' unread unwritten Peer =
    Stood xs (Err PeerError) left left' × Wrote xs [] written written'
Ends xs left left' written written' unread unwritten Cut =
    Stood xs (Err CutOff) left left' × Wrote xs [] written written'
Ends xs left left' written written' unread unwritten Spent =
    (length xs ≡ query_limit) × Told left left' (λ bytes rest. Reads bytes xs rest)
    × Wrote xs [] written written'
Ends xs left left' written written' unread unwritten ReadFault = unread × Wrote xs [] written written'
Ends xs left left' written written' unread unwritten WriteFault =
    unwritten × ((next : Result Query QueryFault) × Stood xs next left left')
Ends xs left left' written written' unread unwritten (SeatCount seat kept) =
    ((query : Query) × Stood xs (Ok query) left left') × Wrote xs [] written written'
    × ((s : Sight) × (t : Sight) × OtherCount seat kept s t)
Ends xs left left' written written' unread unwritten (Ended count) =
    ((query : Query) × Stood xs (Ok query) left left') × Wrote xs [] written written'
    × ((s : Sight) × (t : Sight) × SeatEnded count s t)
Ends xs left left' written written' unread unwritten NoMemory =
    ((query : Query) × Stood xs (Ok query) left left') × Wrote xs [] written written'

-- What was done on a link: queries were answered after which it went on, and then it ended.
pub record Serves (left left' written written' : Option (List ℕ)) (unread unwritten : Type 0)
    (end : RtrEnd) : Type 0 where
  pub xs : List Exchange
  pub goes : GoOn xs
  pub few : length xs ≤ query_limit
  pub ends : Ends xs left left' written written' unread unwritten end
