-- What each turn of a desk keeps, a link keeps.
use Rattle.std.proofs.Common.{ℕ, Option, Result, Ok, Err, List, [], ◌∷◌, length, sym, subst, inl, inr}
use Rattle.ixp_http.specs.Messages.{Reading, message, closed, cut, bad}
use Rattle.ixp_http.specs.declared.request.Request.{Request}
use Rattle.ixp_api_json.specs.declared.pointer.CallFault.{CallFault}
use Rattle.ixp_api_replies.specs.declared.outcome.Outcome.{Outcome}
use Rattle.ixp_api.specs.declared.call.Call.{Call}
use Rattle.ixp_http_link.specs.declared.ends.LinkEnd.{LinkEnd}
use Rattle.ixp_http_link.specs.declared.ends.LinkEnd.TheVariants.{Closed, BadMessage, Cut, Spent, ReadFault, WriteFault, NoMemory}
use Rattle.ixp_http_link.specs.declared.ends.Served.{Served}
use Rattle.ixp_http_link.specs.Turns.{Exchange, Turned, Answers, GoesOn}
use Rattle.ixp_http_link.specs.Links.{Stopped, Replied, EndsBy, Ends, Serves, Behind, Wrote}

-- the relation holds from a desk to itself, and from a desk to another one where it holds to one before a turn to it
pub record TurnsKeep {D : Type 0} (turn : D → Call → Outcome → D → Type 0) (R : D → D → Type 0) : Type 0 where
  pub same : (d : D) → R d d
  pub turned : (d mid e : D) (call : Call) (o : Outcome) → R d mid → turn mid call o e → R d e

turned_keeps : {D : Type 0} (turn : D → Call → Outcome → D → Type 0) (R : D → D → Type 0) (d mid e : D) (said : Result Call CallFault) (o : Outcome)
    → TurnsKeep turn R → R d mid → Turned turn mid said o e → R d e
turned_keeps turn R d mid e (Ok call) o k r t = k.turned d mid e call o r t
turned_keeps turn R d mid e (Err fault) o k r t = subst (λ s. R d s) (sym t.1) r

answers_keep : {D : Type 0} (turn : D → Call → Outcome → D → Type 0) (R : D → D → Type 0) (d mid e : D) (q : Request) (o : Outcome)
    → TurnsKeep turn R → R d mid → Answers turn mid q o e → R d e
answers_keep turn R d mid e q o k r a = turned_keeps turn R d mid e a.0 o k r a.2

goes_keep : {D : Type 0} (turn : D → Call → Outcome → D → Type 0) (R : D → D → Type 0) (d mid e : D) (xs : List Exchange)
    → TurnsKeep turn R → R d mid → GoesOn turn mid xs e → R d e
goes_keep turn R d mid e [] k r g = subst (λ s. R d s) (sym g) r
goes_keep turn R d mid e (x ∷ xs) k r g =
    goes_keep turn R d g.0 e xs k (answers_keep turn R d mid g.0 x.request x.outcome k r g.1.2) g.2

replied_keeps : {D : Type 0} (turn : D → Call → Outcome → D → Type 0) (R : D → D → Type 0) (d mid e : D) (n : ℕ) (last : Reading) (text : List ℕ)
    → TurnsKeep turn R → R d mid → Replied turn n mid last text e → R d e
replied_keeps turn R d mid e n (message q rest) text k r p = answers_keep turn R d mid e q p.0 k r p.1
replied_keeps turn R d mid e n (bad status) text k r p = subst (λ s. R d s) (sym p.0) r
replied_keeps turn R d mid e n closed text k r p = absurd p
replied_keeps turn R d mid e n cut text k r p = absurd p

ends_by_keeps : {D : Type 0} (turn : D → Call → Outcome → D → Type 0) (R : D → D → Type 0) (d mid e : D) (n : ℕ) (W : List ℕ → Type 0)
    (last : Reading) (end : LinkEnd) (m : ℕ)
    → TurnsKeep turn R → R d mid → EndsBy turn n mid e W last end m → R d e
ends_by_keeps turn R d mid e n W closed end m k r p = subst (λ s. R d s) (sym p.2) r
ends_by_keeps turn R d mid e n W cut end m k r p = subst (λ s. R d s) (sym p.2) r
ends_by_keeps turn R d mid e n W (bad status) end m k r p = replied_keeps turn R d mid e n (bad status) p.2.0 k r p.2.1
ends_by_keeps turn R d mid e n W (message q rest) end m k r p = replied_keeps turn R d mid e n (message q rest) p.3.0 k r p.3.1

stopped_keeps : {D : Type 0} (turn : D → Call → Outcome → D → Type 0) (R : D → D → Type 0) (d mid e : D) (S : Reading → Type 0)
    → TurnsKeep turn R → R d mid → Stopped turn mid e S → R d e
stopped_keeps turn R d mid e S k r (inl p) = subst (λ s. R d s) (sym p) r
stopped_keeps turn R d mid e S k r (inr p) = answers_keep turn R d mid e p.0 p.3.0 k r p.3.1

ends_keep : {D : Type 0} (turn : D → Call → Outcome → D → Type 0) (R : D → D → Type 0) (d mid e : D) (n : ℕ) (S : Reading → Type 0)
    (W : List ℕ → Type 0) (A B : Type 0) (end : LinkEnd) (m : ℕ)
    → TurnsKeep turn R → R d mid → Ends turn n mid e S W A B end m → R d e
ends_keep turn R d mid e n S W A B ReadFault m k r p = subst (λ s. R d s) (sym p.2) r
ends_keep turn R d mid e n S W A B WriteFault m k r p = replied_keeps turn R d mid e n p.2.0 p.2.1 k r p.2.3
ends_keep turn R d mid e n S W A B NoMemory m k r p = stopped_keeps turn R d mid e S k r p.1
ends_keep turn R d mid e n S W A B Closed m k r p = ends_by_keeps turn R d mid e n W p.0 Closed m k r p.2
ends_keep turn R d mid e n S W A B (BadMessage status) m k r p = ends_by_keeps turn R d mid e n W p.0 (BadMessage status) m k r p.2
ends_keep turn R d mid e n S W A B Cut m k r p = ends_by_keeps turn R d mid e n W p.0 Cut m k r p.2
ends_keep turn R d mid e n S W A B Spent m k r p = ends_by_keeps turn R d mid e n W p.0 Spent m k r p.2

-- What a turn keeps holds from the desk before a link to the desk after it.
pub served_keeps : {D : Type 0} (turn : D → Call → Outcome → D → Type 0) (R : D → D → Type 0) (d e : D) (left written now : Option (List ℕ))
    (A B : Type 0) (served : Served)
    → TurnsKeep turn R → Serves turn d e left written now A B served → R d e
served_keeps turn R d e left written now A B served k p =
    ends_keep turn R d p.mid e (length p.xs) (Behind left p.xs) (Wrote written now p.xs) A B served.end served.requests k
    (goes_keep turn R d d p.mid p.xs k (k.same d) p.goes) p.ends
