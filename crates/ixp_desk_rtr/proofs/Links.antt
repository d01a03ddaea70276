-- A router's link, query by query.
use Rattle.std.proofs.Common.{◌≡◌, ◌≢◌, ◌<◌, inl, inr, ◌+◌, ℕ, Option, None, Some, Result, Ok, Err, List, [], ◌∷◌, ◌++◌, length, refl, ap, sym, ◌∙◌, subst, arith}
use Rattle.std.proofs.lemmas.List.{append-nil}
use Rattle.std.proofs.lemmas.Grind.{flat_map-append}
use Rattle.ixp_io.specs.Faults.{Rose}
use Rattle.ixp_io.specs.Told.{Told, Takes}
use Rattle.ixp_io.proofs.Streams.{Takes-none, Takes-then}
use Rattle.ixp_rtr.specs.declared.pdu.Pdu.{Pdu}
use Rattle.ixp_rtr.specs.declared.query.Query.{Query}
use Rattle.ixp_rtr.specs.declared.query.Query.TheVariants as query
use Rattle.ixp_rtr.specs.declared.query.QueryFault.{QueryFault}
use Rattle.ixp_rtr.specs.declared.query.QueryFault.TheVariants as fault
use Rattle.ixp_rtr.specs.Answers.{reports}
use Rattle.ixp_rtr.specs.Pdus.{pdus_bytes}
use Rattle.ixp_rtr.specs.Queries.{first}
use Rattle.ixp_desk_lock.specs.declared.fault.TurnFault.{TurnFault}
use Rattle.ixp_desk_lock.specs.declared.fault.TurnFault.TheVariants as turn
use Rattle.ixp_desk_rtr.specs.declared.link.RtrEnd.{RtrEnd}
use Rattle.ixp_desk_rtr.specs.declared.link.RtrEnd.TheVariants.{Closed, Bad, Peer, Cut, Spent, ReadFault, WriteFault, SeatCount, Ended, NoMemory}
use Rattle.ixp_desk_rtr.specs.Routers.{answers_bytes, query_limit, Ends, Exchange, GoOn, IsOther, Reads, Serves, Stood, WasAnswered, Wrote}
use Rattle.ixp_desk_rtr.specs.Steps.{end_of, ends_by, Refuses, Settles, Steps, Tells, WasRefused}

-- One query.

stood_now : (next : Result Query QueryFault) (a b : Option (List ℕ)) → Told a b (λ bytes rest. first bytes ≡ (next, rest)) → Stood [] next a b
stood_now next None None p = tt
stood_now next None (Some y) p = absurd p
stood_now next (Some x) None p = absurd p
stood_now next (Some x) (Some y) p = (x, refl, p)

wrote_none : (a b : Option (List ℕ)) → b ≡ a → Wrote [] [] a b
wrote_none a b same = subst (λ x. Takes a x []) (sym same) (Takes-none a)

module _ (left left' written written' : Option (List ℕ)) (unread unwritten : Type 0) where
  -- a query that was read is answered, or the link ends
  pub steps_so : (q : Query) (end : Option RtrEnd) → q ≢ query.End → Told left left' (λ bytes rest. first bytes ≡ (Ok q, rest)) → Settles q written written' unwritten end
      → Steps left left' written written' unread unwritten end
  steps_so q end some stood (inl done) = by_end end done.2 where
    by_end : (end : Option RtrEnd) → Tells done.0 written written' unwritten end → Steps left left' written written' unread unwritten end
    by_end None tells = (q, done.0, done.1, some, tells.1, stood, tells.0)
    by_end (Some end) (inl bad) =
        subst (Ends [] left left' written written' unread unwritten) (sym bad.0) (Ok q, done.0, stood_now (Ok q) left left' stood, (done.1, bad.2), bad.1)
    by_end (Some end) (inr failed) = subst (Ends [] left left' written written' unread unwritten) (sym failed.0) (failed.1, (Ok q, stood_now (Ok q) left left' stood))
  steps_so q end some stood (inr refused) = subst (Steps left left' written written' unread unwritten) (sym refused.2) (by_fault refused.0 refused.1) where
    none : Wrote [] [] written written'
    none = wrote_none written written' refused.3

    by_fault : (x : TurnFault) → WasRefused x → Ends [] left left' written written' unread unwritten (end_of x)
    by_fault (turn.SeatCount a b) was = ((q, stood_now (Ok q) left left' stood), none, was)
    by_fault (turn.Ended n) was = ((q, stood_now (Ok q) left left' stood), none, was)
    by_fault turn.NoMemory was = ((q, stood_now (Ok q) left left' stood), none)

  -- the input ended
  pub closed_so : Told left left' (λ bytes rest. first bytes ≡ (Ok query.End, rest)) → written' ≡ written → Ends [] left left' written written' unread unwritten Closed
  closed_so stood same = (stood_now (Ok query.End) left left' stood, wrote_none written written' same)

  -- a read failed
  pub unread_so : unread → written' ≡ written → Ends [] left left' written written' unread unwritten ReadFault
  unread_so failed same = (failed, wrote_none written written' same)

  -- what is no query was reported
  pub refused_so : (x : QueryFault) (end : RtrEnd) → x ≢ fault.ReadFault → Told left left' (λ bytes rest. first bytes ≡ (Err x, rest)) → Refuses x written written' unwritten end
      → Ends [] left left' written written' unread unwritten end
  refused_so x end some told (inl done) = subst (Ends [] left left' written written' unread unwritten) (sym done.0) (by_fault x some (stood_now (Err x) left left' told) done.1) where
    by_fault : (x : QueryFault) → x ≢ fault.ReadFault → Stood [] (Err x) left left' → Takes written written' (pdus_bytes (reports x))
        → Ends [] left left' written written' unread unwritten (ends_by x)
    by_fault (fault.Version found faulty) some stood wrote = (Err (fault.Version found faulty), _, stood, refl, wrote)
    by_fault (fault.«Type» found faulty) some stood wrote = (Err (fault.«Type» found faulty), _, stood, refl, wrote)
    by_fault (fault.Request found faulty) some stood wrote = (Err (fault.Request found faulty), _, stood, refl, wrote)
    by_fault (fault.Length have faulty) some stood wrote = (Err (fault.Length have faulty), _, stood, refl, wrote)
    by_fault fault.Peer some stood wrote = (stood, wrote)
    by_fault fault.Cut some stood wrote = (stood, wrote)
    by_fault fault.ReadFault some stood wrote = absurd (some refl)
  refused_so x end some told (inr failed) = subst (Ends [] left left' written written' unread unwritten) (sym failed.0) (failed.1, (Err x, stood_now (Err x) left left' told))

-- the same over the reading before it
pub exchanged : (q : Query) (end : Option RtrEnd) (left mid left' written between written' : Option (List ℕ)) (unread : Type 0) (a b c : ℕ) → q ≢ query.End
    → Told left mid (λ bytes rest. first bytes ≡ (Ok q, rest)) → left' ≡ mid → between ≡ written → b ≡ a → Settles q between written' (Rose b c) end → Steps left left' written written' unread (Rose a c) end
exchanged q end left mid left' written between written' unread a b c some stood same kept still settles =
    steps_so left left' written written' unread (Rose a c) q end some (subst (λ (x : Option (List ℕ)). Told left x (λ bytes rest. first bytes ≡ (Ok q, rest))) (sym same) stood)
    (subst (λ (x : Option (List ℕ)). Settles q x written' (Rose a c) end) kept (subst (λ (n : ℕ). Settles q between written' (Rose n c) end) still settles))

-- a query was read
pub read_ok : (a b : Option (List ℕ)) (r : Result Query QueryFault) (q : Query) → r ≡ Ok q → (r ≢ Err fault.ReadFault → Told a b (λ bytes rest. first bytes ≡ (r, rest))) → Told a b (λ bytes rest. first bytes ≡ (Ok q, rest))
read_ok a b r q is answers =
    subst (λ (x : Result Query QueryFault). Told a b (λ bytes rest. first bytes ≡ (x, rest))) is (answers (λ same. let bad : ⊥ = cc in bad))

pub serial_some : (session serial : ℕ) → query.Serial session serial ≢ query.End
serial_some session serial same = let bad : ⊥ = cc in bad

pub reset_some : query.Reset ≢ query.End
reset_some same = let bad : ⊥ = cc in bad

-- Many queries.

read_more : (xs : List Exchange) (x : Exchange) (bytes more rest : List ℕ) → Reads bytes xs more → first more ≡ (Ok x.query, rest) → Reads bytes (xs ++ x ∷ []) rest
read_more [] x bytes more rest is next = (rest, subst (λ (b : List ℕ). first b ≡ (Ok x.query, rest)) (sym is) next, refl)
read_more (y ∷ ys) x bytes more rest is next = (is.0, is.1, read_more ys x is.0 more rest is.2 next)

pub reads_more : (xs : List Exchange) (x : Exchange) (a b c : Option (List ℕ)) → Told a b (λ bytes rest. Reads bytes xs rest) → Told b c (λ bytes rest. first bytes ≡ (Ok x.query, rest))
    → Told a c (λ bytes rest. Reads bytes (xs ++ x ∷ []) rest)
reads_more xs x None None None p q = tt
reads_more xs x None None (Some w) p q = absurd q
reads_more xs x None (Some v) c p q = absurd p
reads_more xs x (Some u) None c p q = absurd p
reads_more xs x (Some u) (Some v) None p q = absurd q
reads_more xs x (Some u) (Some v) (Some w) p q = read_more xs x u v w p q

-- nothing was read yet
pub reads_none : (a : Option (List ℕ)) → Told a a (λ bytes rest. Reads bytes [] rest)
reads_none None = tt
reads_none (Some x) = refl

stood_then : (xs : List Exchange) (next : Result Query QueryFault) (a b c : Option (List ℕ)) → Told a b (λ bytes rest. Reads bytes xs rest) → Stood [] next b c → Stood xs next a c
stood_then xs next None None None p q = tt
stood_then xs next None None (Some w) p q = absurd q
stood_then xs next None (Some v) c p q = absurd p
stood_then xs next (Some u) None c p q = absurd p
stood_then xs next (Some u) (Some v) None p q = absurd q
stood_then xs next (Some u) (Some v) (Some w) p q = (v, p, subst (λ (b : List ℕ). first b ≡ (next, w)) (sym q.1) q.2)

bare : (xs : List Exchange) (a b : Option (List ℕ)) → Wrote xs [] a b → Takes a b (answers_bytes xs)
bare xs a b p = subst (Takes a b) (append-nil (answers_bytes xs)) p

wrote_then : (xs : List Exchange) (pdus : List Pdu) (a b c : Option (List ℕ)) → Wrote xs [] a b → Wrote [] pdus b c → Wrote xs pdus a c
wrote_then xs pdus a b c p q = Takes-then a b c (answers_bytes xs) (pdus_bytes pdus) (bare xs a b p) q

answers_more : (xs : List Exchange) (x : Exchange) → answers_bytes (xs ++ x ∷ []) ≡ answers_bytes xs ++ pdus_bytes x.pdus
answers_more xs x = flat_map-append (λ (y : Exchange). pdus_bytes y.pdus) xs (x ∷ []) ∙ ap (λ (t : List ℕ). answers_bytes xs ++ t) (append-nil (pdus_bytes x.pdus))

pub wrote_more : (xs : List Exchange) (x : Exchange) (a b c : Option (List ℕ)) → Wrote xs [] a b → Takes b c (pdus_bytes x.pdus) → Wrote (xs ++ x ∷ []) [] a c
wrote_more xs x a b c p q =
    subst (Takes a c) (sym (append-nil (answers_bytes (xs ++ x ∷ [])) ∙ answers_more xs x)) (Takes-then a b c (answers_bytes xs) (pdus_bytes x.pdus) (bare xs a b p) q)

pub go_on : (xs : List Exchange) (x : Exchange) → GoOn xs → WasAnswered x.query x.pdus → x.query ≢ query.End → (IsOther x.pdus → ⊥) → GoOn (xs ++ x ∷ [])
go_on [] x all was some same = (was, some, same, tt)
go_on (y ∷ ys) x all was some same = (all.0, all.1, all.2, go_on ys x all.3 was some same)

pub count_more : (xs : List Exchange) (x : Exchange) → length (xs ++ x ∷ []) ≡ length xs + 1
count_more [] x = refl
count_more (y ∷ ys) x = let more : length (ys ++ x ∷ []) ≡ length ys + 1 = count_more ys x in omega (arith, more)

-- a link ends behind these exchanges
module _ (xs : List Exchange) (a b c u v w : Option (List ℕ)) (unread unwritten unread' unwritten' : Type 0) (reads : Told a b (λ bytes rest. Reads bytes xs rest)) (wrote : Wrote xs [] u v)
    (unread-in : unread' → unread) (unwritten-in : unwritten' → unwritten) where
  pub ends_then : (end : RtrEnd) → Ends [] b c v w unread' unwritten' end → Ends xs a c u w unread unwritten end
  ends_then Closed is = (stood_then xs (Ok query.End) a b c reads is.0, wrote_then xs [] u v w wrote is.1)
  ends_then Bad is = (is.0, is.1, stood_then xs is.0 a b c reads is.2, is.3, wrote_then xs is.1 u v w wrote is.4)
  ends_then Peer is = (stood_then xs (Err fault.Peer) a b c reads is.0, wrote_then xs [] u v w wrote is.1)
  ends_then Cut is = (stood_then xs (Err fault.Cut) a b c reads is.0, wrote_then xs [] u v w wrote is.1)
  ends_then Spent is = absurd (let none = is.0 in let bad : ⊥ = omega (arith, none) in bad)
  ends_then ReadFault is = (unread-in is.0, wrote_then xs [] u v w wrote is.1)
  ends_then WriteFault is = (unwritten-in is.0, (is.1.0, stood_then xs is.1.0 a b c reads is.1.1))
  ends_then (SeatCount m n) is = ((is.0.0, stood_then xs (Ok is.0.0) a b c reads is.0.1), wrote_then xs [] u v w wrote is.1, is.2)
  ends_then (Ended n) is = ((is.0.0, stood_then xs (Ok is.0.0) a b c reads is.0.1), wrote_then xs [] u v w wrote is.1, is.2)
  ends_then NoMemory is = ((is.0.0, stood_then xs (Ok is.0.0) a b c reads is.0.1), wrote_then xs [] u v w wrote is.1)

-- A link on which so many queries were answered, and which goes on.
pub record Going (left left' written written' : Option (List ℕ)) (n : ℕ) : Type 0 where
  pub xs : List Exchange
  pub goes : GoOn xs
  pub count : length xs ≡ n
  pub reads : Told left left' (λ bytes rest. Reads bytes xs rest)
  pub wrote : Wrote xs [] written written'

pub going_none : (left written : Option (List ℕ)) → Going left left written written 0
going_none left written = record { xs = []; goes = tt; count = refl; reads = reads_none left; wrote = Takes-none written }

pub going_more : (left mid left' written between written' : Option (List ℕ)) (unread unwritten : Type 0) (n : ℕ) (r : Option RtrEnd) → r ≡ None → Going left mid written between n
    → Steps mid left' between written' unread unwritten r → Going left left' written written' (n + 1)
going_more left mid left' written between written' unread unwritten n None is on (q, pdus, was, some, same, read, wrote) =
    let x : Exchange = record { query = q; pdus = pdus } in
    let long = count_more on.xs x in
    let count = on.count in
    record {
      xs = on.xs ++ x ∷ [];
      goes = go_on on.xs x on.goes was some same;
      count = omega (arith, long, count);
      reads = reads_more on.xs x left mid left' on.reads read;
      wrote = wrote_more on.xs x written between written' on.wrote wrote;
    }
going_more left mid left' written between written' unread unwritten n (Some end) is on steps = absurd (let bad : ⊥ = cc in bad)

pub going_ends : (left mid left' written between written' : Option (List ℕ)) (unread unwritten unread' unwritten' : Type 0) (n : ℕ) (r : Option RtrEnd) (end : RtrEnd) → r ≡ Some end → n < query_limit
    → (unread' → unread) → (unwritten' → unwritten) → Going left mid written between n → Steps mid left' between written' unread' unwritten' r → Serves left left' written written' unread unwritten end
going_ends left mid left' written between written' unread unwritten unread' unwritten' n r end is less one two on steps =
    let count = on.count in
    record {
      xs = on.xs;
      goes = on.goes;
      few = omega (arith, count, less);
      ends = ends_then on.xs left mid left' written between written' unread unwritten unread' unwritten' on.reads on.wrote one two end
          (subst (Steps mid left' between written' unread' unwritten') is steps);
    }

pub going_spent : (left left' written written' : Option (List ℕ)) (unread unwritten : Type 0) (n : ℕ) → n ≡ query_limit → Going left left' written written' n → Serves left left' written written' unread unwritten Spent
going_spent left left' written written' unread unwritten n all on =
    let count = on.count in
    record { xs = on.xs; goes = on.goes; few = omega (arith, count, all); ends = (omega (arith, count, all), on.reads, on.wrote) }
