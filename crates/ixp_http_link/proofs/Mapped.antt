-- What is done on a link, by a desk that is seen as something else: each turn of the one is a turn of the other.
use Rattle.std.proofs.Common.{inl, inr, ℕ, Result, Ok, Err, Option, List, [], ◌∷◌, length, ap}
use Rattle.ixp_http.specs.Messages.{Reading, message, closed, cut, bad}
use Rattle.ixp_http.specs.declared.request.Request.{Request}
use Rattle.ixp_api_json.specs.declared.pointer.CallFault.{CallFault}
use Rattle.ixp_api_replies.specs.declared.outcome.Outcome.{Outcome}
use Rattle.ixp_api.specs.declared.call.Call.{Call}
use Rattle.ixp_http_link.specs.declared.ends.LinkEnd.{LinkEnd}
use Rattle.ixp_http_link.specs.declared.ends.LinkEnd.TheVariants.{Closed, BadMessage, Cut, Spent, ReadFault, WriteFault, NoMemory}
use Rattle.ixp_http_link.specs.declared.ends.Served.{Served}
use Rattle.ixp_http_link.specs.Turns.{Exchange, Turned, Answers, Goes, GoesOn}
use Rattle.ixp_http_link.specs.Links.{Replied, EndsBy, Stopped, Ends, Serves}

module _ {D E : Type 0} (f : D → E) (turn : D → Call → Outcome → D → Type 0) (turn' : E → Call → Outcome → E → Type 0) (on : (d : D) (c : Call) (o : Outcome) (e : D) → turn d c o e → turn' (f d) c o (f e)) where
  turned : (d : D) (said : Result Call CallFault) (o : Outcome) (e : D) → Turned turn d said o e → Turned turn' (f d) said o (f e)
  turned d (Ok call) o e t = on d call o e t
  turned d (Err fault) o e (is, same) = (is, ap f same)

  answers : (d : D) (r : Request) (o : Outcome) (e : D) → Answers turn d r o e → Answers turn' (f d) r o (f e)
  answers d r o e (said, says, t) = (said, says, turned d said o e t)

  goes : (d : D) (x : Exchange) (e : D) → Goes turn d x e → Goes turn' (f d) x (f e)
  goes d x e (stays, memory, a) = (stays, memory, answers d x.request x.outcome e a)

  goes_on : (d : D) (xs : List Exchange) (e : D) → GoesOn turn d xs e → GoesOn turn' (f d) xs (f e)
  goes_on d [] e same = ap f same
  goes_on d (x ∷ xs) e (mid, first, rest) = (f mid, goes d x mid first, goes_on mid xs e rest)

  replied : (n : ℕ) (d : D) (last : Reading) (text : List ℕ) (e : D) → Replied turn n d last text e → Replied turn' n (f d) last text (f e)
  replied n d (message r rest) text e (o, a, memory, is) = (o, answers d r o e a, memory, is)
  replied n d (bad status) text e (same, is) = (ap f same, is)
  replied n d closed text e never = absurd never
  replied n d cut text e never = absurd never

  ends_by : (n : ℕ) (d e : D) (Writes : List ℕ → Type 0) (last : Reading) (end : LinkEnd) (m : ℕ) → EndsBy turn n d e Writes last end m → EndsBy turn' n (f d) (f e) Writes last end m
  ends_by n d e Writes closed end m (is, count, same, out) = (is, count, ap f same, out)
  ends_by n d e Writes cut end m (is, count, same, out) = (is, count, ap f same, out)
  ends_by n d e Writes (bad status) end m (is, count, (text, r, out)) = (is, count, (text, replied n d (bad status) text e r, out))
  ends_by n d e Writes (message r rest) end m (ends, is, count, (text, reply, out)) = (ends, is, count, (text, replied n d (message r rest) text e reply, out))

  stopped : (d e : D) (Stands : Reading → Type 0) → Stopped turn d e Stands → Stopped turn' (f d) (f e) Stands
  stopped d e Stands (inl same) = inl (ap f same)
  stopped d e Stands (inr (r, rest, stands, (o, a))) = inr (r, rest, stands, (o, answers d r o e a))

  ends : (n : ℕ) (d e : D) (Stands : Reading → Type 0) (Writes : List ℕ → Type 0) (unread unwritten : Type 0) (end : LinkEnd) (m : ℕ)
      → Ends turn n d e Stands Writes unread unwritten end m → Ends turn' n (f d) (f e) Stands Writes unread unwritten end m
  ends n d e Stands Writes unread unwritten ReadFault m (fault, count, same, out) = (fault, count, ap f same, out)
  ends n d e Stands Writes unread unwritten WriteFault m (fault, count, (last, text, stands, r, out)) = (fault, count, (last, text, stands, replied n d last text e r, out))
  ends n d e Stands Writes unread unwritten NoMemory m (count, stop, out) = (count, stopped d e Stands stop, out)
  ends n d e Stands Writes unread unwritten Closed m (last, stands, by) = (last, stands, ends_by n d e Writes last Closed m by)
  ends n d e Stands Writes unread unwritten (BadMessage status) m (last, stands, by) = (last, stands, ends_by n d e Writes last (BadMessage status) m by)
  ends n d e Stands Writes unread unwritten Cut m (last, stands, by) = (last, stands, ends_by n d e Writes last Cut m by)
  ends n d e Stands Writes unread unwritten Spent m (last, stands, by) = (last, stands, ends_by n d e Writes last Spent m by)

  pub serves : (d e : D) (left written now : Option (List ℕ)) (unread unwritten : Type 0) (served : Served)
      → Serves turn d e left written now unread unwritten served → Serves turn' (f d) (f e) left written now unread unwritten served
  serves d e left written now unread unwritten served s = record {
    xs = s.xs;
    mid = f s.mid;
    goes = goes_on d s.xs s.mid s.goes;
    few = s.few;
    begins = s.begins;
    ends = ends (length s.xs) s.mid e _ _ unread unwritten served.end served.requests s.ends;
  }
