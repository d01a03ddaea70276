-- How a link ends after what was done before.
use Rattle.std.proofs.Common.{◌≡◌, ◌<◌, ℕ, Option, None, Some, List, [], ◌++◌, length, take, refl, sym, subst, inl, inr, arith}
use Rattle.ixp_io.specs.Told.{Told, WhereTold, Takes}
use Rattle.ixp_io.proofs.Streams.{Takes-then}
use Rattle.ixp_http.specs.Messages.{Reading, message, closed, cut, bad, First}
use Rattle.ixp_http.specs.Replies.{reply_bytes}
use Rattle.ixp_api_replies.specs.Replies.{no_memory}
use Rattle.ixp_api_replies.specs.declared.outcome.Outcome.{Outcome}
use Rattle.ixp_api.specs.declared.call.Call.{Call}
use Rattle.ixp_http_link.specs.declared.ends.LinkEnd.{LinkEnd}
use Rattle.ixp_http_link.specs.declared.ends.LinkEnd.TheVariants.{Closed, BadMessage, Cut, Spent, ReadFault, WriteFault, NoMemory}
use Rattle.ixp_http_link.specs.declared.ends.Served.{Served}
use Rattle.ixp_http_link.specs.Turns.{Exchange}
use Rattle.ixp_http_link.specs.Links.{Reads, BeginsWith, Behind, Wrote, Tried, Stopped, EndsBy, Ends, Serves, replies, request_limit}
use Rattle.ixp_http_link.specs.Steps.{Steps}
use Rattle.ixp_http_link.proofs.Runs.{Run, run_none}

tried_by : (V W : List ℕ → Type 0) (B C : Type 0) (text : List ℕ) → ((t : List ℕ) → V t → W t) → (B → C) → Tried V B text → Tried W C text
tried_by V W B C text w b (inl p) = inl (w text p)
tried_by V W B C text w b (inr p) = inr (b p.0, (p.1.0, w (take p.1.0 text) p.1.1))

stopped_by : {D : Type 0} (turn : D → Call → Outcome → D → Type 0) (d e : D) (P Q : Reading → Type 0)
    → ((x : Reading) → P x → Q x) → Stopped turn d e P → Stopped turn d e Q
stopped_by turn d e P Q s (inl p) = inl p
stopped_by turn d e P Q s (inr p) = inr (p.0, p.1, s (message p.0 p.1) p.2, p.3)

ends_by_of : {D : Type 0} (turn : D → Call → Outcome → D → Type 0) (n : ℕ) (d e : D) (V W : List ℕ → Type 0) (last : Reading) (end : LinkEnd) (m : ℕ)
    → ((t : List ℕ) → V t → W t) → EndsBy turn n d e V last end m → EndsBy turn n d e W last end m
ends_by_of turn n d e V W closed end m w p = (p.0, p.1, p.2, w [] p.3)
ends_by_of turn n d e V W cut end m w p = (p.0, p.1, p.2, w [] p.3)
ends_by_of turn n d e V W (bad status) end m w p = (p.0, p.1, (p.2.0, p.2.1, w p.2.0 p.2.2))
ends_by_of turn n d e V W (message r rest) end m w p = (p.0, p.1, p.2, (p.3.0, p.3.1, w p.3.0 p.3.2))

-- what stands there, what is written and what failed may be said in other words
pub ends_of : {D : Type 0} (turn : D → Call → Outcome → D → Type 0) (n : ℕ) (d e : D) (P Q : Reading → Type 0) (V W : List ℕ → Type 0) (A B X Y : Type 0)
    (end : LinkEnd) (m : ℕ)
    → ((x : Reading) → P x → Q x) → ((t : List ℕ) → V t → W t) → (A → X) → (B → Y)
    → Ends turn n d e P V A B end m → Ends turn n d e Q W X Y end m
ends_of turn n d e P Q V W A B X Y ReadFault m s w a b p = (a p.0, p.1, p.2, w [] p.3)
ends_of turn n d e P Q V W A B X Y WriteFault m s w a b p =
    (b p.0, p.1, (p.2.0, p.2.1, s p.2.0 p.2.2, p.2.3, (p.2.4.0, w (take p.2.4.0 p.2.1) p.2.4.1)))
ends_of turn n d e P Q V W A B X Y NoMemory m s w a b p =
    (p.0, stopped_by turn d e P Q s p.1, tried_by V W B Y (reply_bytes no_memory) w b p.2)
ends_of turn n d e P Q V W A B X Y Closed m s w a b p = (p.0, s p.0 p.1, ends_by_of turn n d e V W p.0 Closed m w p.2)
ends_of turn n d e P Q V W A B X Y (BadMessage status) m s w a b p =
    (p.0, s p.0 p.1, ends_by_of turn n d e V W p.0 (BadMessage status) m w p.2)
ends_of turn n d e P Q V W A B X Y Cut m s w a b p = (p.0, s p.0 p.1, ends_by_of turn n d e V W p.0 Cut m w p.2)
ends_of turn n d e P Q V W A B X Y Spent m s w a b p = (p.0, s p.0 p.1, ends_by_of turn n d e V W p.0 Spent m w p.2)

begins_with : (left now : Option (List ℕ)) (held : List ℕ) (xs : List Exchange)
    → Told left now (λ bytes rest. Reads bytes xs (held ++ rest)) → BeginsWith left xs
begins_with None now held xs p = tt
begins_with (Some left) None held xs p = absurd p
begins_with (Some left) (Some now) held xs p = (held ++ now, p)

stands_behind : (left now : Option (List ℕ)) (held : List ℕ) (xs : List Exchange)
    → Told left now (λ bytes rest. Reads bytes xs (held ++ rest))
    → (x : Reading) → WhereTold now (λ bytes. First (held ++ bytes) x) → Behind left xs x
stands_behind None now held xs p x q = tt
stands_behind (Some left) None held xs p x q = absurd p
stands_behind (Some left) (Some now) held xs p x q = (held ++ now, p, q)

-- The link ends after what was done.
pub run_ends : {D : Type 0} (turn : D → Call → Outcome → D → Type 0) (d mid e : D) (left before now : Option (List ℕ)) (held holds : List ℕ)
    (written some all : Option (List ℕ)) (n : ℕ) (A B X Y : Type 0) (served : Served)
    → n < request_limit → Run turn d mid left before held written some n → (A → X) → (B → Y)
    → Steps turn n mid e before now held holds (Takes some all) A B (Some served)
    → Serves turn d e left written all X Y served
run_ends turn d mid e left before now held holds written some all n A B X Y served less run a b ends = record {
  xs = run.xs;
  mid = mid;
  goes = run.goes;
  few = subst (λ (k : ℕ). k < request_limit) (sym run.counted) less;
  begins = begins_with left before held run.xs run.read;
  ends =
      subst (λ (k : ℕ). Ends turn k mid e (Behind left run.xs) (Wrote written all run.xs) X Y served.end served.requests) (sym run.counted)
      (ends_of turn n mid e (λ x. WhereTold before (λ bytes. First (held ++ bytes) x)) (Behind left run.xs)
      (Takes some all) (Wrote written all run.xs) A B X Y served.end served.requests
      (stands_behind left before held run.xs run.read)
      (λ t. Takes-then written some all (replies run.xs) t run.wrote) a b ends);
}

-- memory ran out before anything was read
pub nothing_served : {D : Type 0} (turn : D → Call → Outcome → D → Type 0) (d : D) (left written all : Option (List ℕ)) (A B : Type 0)
    → Tried (Takes written all) B (reply_bytes no_memory)
    → Serves turn d d left written all A B (record { end = NoMemory; requests = 0 })
nothing_served turn d left written all A B tried =
    let few : 0 < request_limit = omega arith in
    run_ends turn d d d left left left [] [] written written all 0 A B A B (record { end = NoMemory; requests = 0 }) few
    (run_none turn d left written) (λ x. x) (λ x. x) (refl, inl refl, tried)

rose_read : {D : Type 0} (turn : D → Call → Outcome → D → Type 0) (n : ℕ) (d e : D) (S : Reading → Type 0) (W : List ℕ → Type 0) (A B : Type 0)
    (end : LinkEnd) (m : ℕ)
    → Ends turn n d e S W A B end m → end ≡ ReadFault → A
rose_read turn n d e S W A B ReadFault m p q = p.0
rose_read turn n d e S W A B WriteFault m p q = absurd (cc (q))
rose_read turn n d e S W A B NoMemory m p q = absurd (cc (q))
rose_read turn n d e S W A B Closed m p q = absurd (cc (q))
rose_read turn n d e S W A B (BadMessage status) m p q = absurd (cc (q))
rose_read turn n d e S W A B Cut m p q = absurd (cc (q))
rose_read turn n d e S W A B Spent m p q = absurd (cc (q))

rose_written : {D : Type 0} (turn : D → Call → Outcome → D → Type 0) (n : ℕ) (d e : D) (S : Reading → Type 0) (W : List ℕ → Type 0) (A B : Type 0)
    (end : LinkEnd) (m : ℕ)
    → Ends turn n d e S W A B end m → end ≡ WriteFault → B
rose_written turn n d e S W A B ReadFault m p q = absurd (cc (q))
rose_written turn n d e S W A B WriteFault m p q = p.0
rose_written turn n d e S W A B NoMemory m p q = absurd (cc (q))
rose_written turn n d e S W A B Closed m p q = absurd (cc (q))
rose_written turn n d e S W A B (BadMessage status) m p q = absurd (cc (q))
rose_written turn n d e S W A B Cut m p q = absurd (cc (q))
rose_written turn n d e S W A B Spent m p q = absurd (cc (q))

-- a read failed where a link ended so
pub served_read : {D : Type 0} (turn : D → Call → Outcome → D → Type 0) (d e : D) (left written now : Option (List ℕ)) (A B : Type 0) (served : Served)
    → Serves turn d e left written now A B served → served.end ≡ ReadFault → A
served_read turn d e left written now A B served p =
    rose_read turn (length p.xs) p.mid e (Behind left p.xs) (Wrote written now p.xs) A B served.end served.requests p.ends

-- a write failed where a link ended so
pub served_written : {D : Type 0} (turn : D → Call → Outcome → D → Type 0) (d e : D) (left written now : Option (List ℕ)) (A B : Type 0) (served : Served)
    → Serves turn d e left written now A B served → served.end ≡ WriteFault → B
served_written turn d e left written now A B served p =
    rose_written turn (length p.xs) p.mid e (Behind left p.xs) (Wrote written now p.xs) A B served.end served.requests p.ends
