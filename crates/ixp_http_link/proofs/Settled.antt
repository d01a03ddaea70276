-- A request that was answered.
use Rattle.std.proofs.Common.{◌≡◌, ◌+◌, ℕ, Bool, true, false, ◌||◌, if◌then◌else◌, Option, None, Some, Ok, Err, List, [], ◌++◌, take, refl, sym, subst, inl, inr}
use Rattle.ixp_io.specs.Told.{Told, WhereTold}
use Rattle.ixp_http.specs.Messages.{Reading, message, cut, bad, First}
use Rattle.ixp_http.specs.Replies.{reply_bytes}
use Rattle.ixp_http.specs.declared.request.Request.{Request}
use Rattle.ixp_api_replies.specs.Replies.{reply, no_memory}
use Rattle.ixp_api_replies.specs.declared.outcome.Outcome.{Outcome}
use Rattle.ixp_api_replies.specs.declared.outcome.Outcome.TheVariants.{Head}
use Rattle.ixp_api.specs.declared.call.Call.{Call}
use Rattle.ixp_http_link.specs.declared.ends.LinkEnd.{LinkEnd}
use Rattle.ixp_http_link.specs.declared.ends.LinkEnd.TheVariants.{Closed, BadMessage, Cut, Spent, ReadFault, WriteFault, NoMemory}
use Rattle.ixp_http_link.specs.declared.ends.Served.{Served}
use Rattle.ixp_http_link.specs.Turns.{Answers, wants_memory}
use Rattle.ixp_http_link.specs.Links.{ends_at, closing_if, Stopped, EndsBy, Ends}
use Rattle.ixp_http_link.specs.Steps.{Becomes, Tells, Settles, Steps, Refuses}
use Rattle.ixp_http_link.proofs.Endings.{ends_of}

-- where memory sufficed, the request is answered
answered : {D : Type 0} (turn : D → Call → Outcome → D → Type 0) (d e : D) (r : Request) (o : Outcome)
    → Becomes turn d r o e → wants_memory o ≡ false → Answers turn d r o e
answered turn d e r o (inl p) q = p
answered turn d e r o (inr p) q = absurd (cc (p.0, q))

stopped : {D : Type 0} (turn : D → Call → Outcome → D → Type 0) (d e : D) (r : Request) (rest : List ℕ) (o : Outcome)
    → Becomes turn d r o e → Stopped turn d e (λ last. last ≡ message r rest)
stopped turn d e r rest o (inl p) = inr (r, rest, refl, (o, p))
stopped turn d e r rest o (inr p) = inl p.1

-- the reply wasn't written, and the link ends
pub settled_err : {D : Type 0} (turn : D → Call → Outcome → D → Type 0) (n : ℕ) (d e : D) (r : Request) (rest : List ℕ) (o : Outcome) (closes : Bool)
    (W : List ℕ → Type 0) (B : Type 0) (end : LinkEnd)
    → Becomes turn d r o e → closes ≡ ends_at n r → Tells o closes W B (Err end)
    → Ends turn n d e (λ last. last ≡ message r rest) W ⊥ B end n
settled_err turn n d e r rest o closes W B WriteFault p q t = (
  t.0,
  refl,
  (
    message r rest,
    reply_bytes (closing_if closes (reply o)),
    refl,
    (o, answered turn d e r o p t.1, t.1, subst (λ (b : Bool). reply_bytes (closing_if closes (reply o)) ≡ reply_bytes (closing_if b (reply o))) q refl),
    t.2,
  ),
)
settled_err turn n d e r rest o closes W B NoMemory p q t = (refl, stopped turn d e r rest o p, t)
settled_err turn n d e r rest o closes W B Closed p q t = absurd t
settled_err turn n d e r rest o closes W B (BadMessage status) p q t = absurd t
settled_err turn n d e r rest o closes W B Cut p q t = absurd t
settled_err turn n d e r rest o closes W B Spent p q t = absurd t
settled_err turn n d e r rest o closes W B ReadFault p q t = absurd t

ends_as : {D : Type 0} (turn : D → Call → Outcome → D → Type 0) (n : ℕ) (d e : D) (S : Reading → Type 0) (W : List ℕ → Type 0) (A B : Type 0)
    (last : Reading) (b : Bool) (m : ℕ)
    → S last → EndsBy turn n d e W last (if b then Closed else Spent) m → Ends turn n d e S W A B (if b then Closed else Spent) m
ends_as turn n d e S W A B last true m s p = (last, s, p)
ends_as turn n d e S W A B last false m s p = (last, s, p)

-- the reply was written, and the link ends with it
pub settled_last : {D : Type 0} (turn : D → Call → Outcome → D → Type 0) (n : ℕ) (d e : D) (r : Request) (rest : List ℕ) (o : Outcome)
    (W : List ℕ → Type 0) (B : Type 0)
    → Becomes turn d r o e → true ≡ ends_at n r → Tells o true W B (Ok tt)
    → Ends turn n d e (λ last. last ≡ message r rest) W ⊥ B (if r.closes then Closed else Spent) (n + 1)
settled_last turn n d e r rest o W B p q t =
    ends_as turn n d e (λ last. last ≡ message r rest) W ⊥ B (message r rest) r.closes (n + 1) refl (
      sym q,
      refl,
      refl,
      (
        reply_bytes (closing_if true (reply o)),
        (o, answered turn d e r o p t.0, t.0, subst (λ (b : Bool). reply_bytes (closing_if true (reply o)) ≡ reply_bytes (closing_if b (reply o))) q refl),
        t.1,
      ),
    )

stays : (a b : Bool) → false ≡ (a || b) → a ≡ false
stays true b p = sym p
stays false b p = refl

-- the reply was written, and the link goes on
pub settled_on : {D : Type 0} (turn : D → Call → Outcome → D → Type 0) (n : ℕ) (d e : D) (r : Request) (rest : List ℕ) (o : Outcome)
    (W : List ℕ → Type 0) (B : Type 0)
    → Becomes turn d r o e → false ≡ ends_at n r → Tells o false W B (Ok tt)
    → Settles turn n d e r rest W B None
settled_on turn n d e r rest o W B p q t = (o, (stays r.closes _ q, t.0, answered turn d e r o p t.0), sym q, t.1)

-- the request that was answered was read before
pub exchanged : {D : Type 0} (turn : D → Call → Outcome → D → Type 0) (n : ℕ) (d e : D) (left now : Option (List ℕ)) (held holds : List ℕ) (r : Request)
    (V W : List ℕ → Type 0) (A B C : Type 0) (result : Option Served)
    → Told left now (λ bytes rest. First (held ++ bytes) (message r (holds ++ rest)))
    → ((t : List ℕ) → V t → W t) → (B → C)
    → ((rest : List ℕ) → Settles turn n d e r rest V B result)
    → Steps turn n d e left now held holds W A C result
exchanged turn n d e left now held holds r V W A B C None told w b s =
    let p = s [] in (record { request = r; outcome = p.0 }, p.1, p.2, told, w (reply_bytes (reply p.0)) p.3)
exchanged turn n d e None now held holds r V W A B C (Some served) told w b s =
    ends_of turn n d e (λ last. last ≡ message r []) (λ last. WhereTold None (λ bytes. First (held ++ bytes) last)) V W ⊥ B A C served.end served.requests
    (λ x q. tt) w (λ no. absurd no) b (s [])
exchanged turn n d e (Some left) None held holds r V W A B C (Some served) told w b s = absurd told
exchanged turn n d e (Some left) (Some now) held holds r V W A B C (Some served) told w b s =
    ends_of turn n d e (λ last. last ≡ message r (holds ++ now)) (λ last. First (held ++ left) last) V W ⊥ B A C served.end served.requests
    (λ x q. subst (λ (y : Reading). First (held ++ left) y) (sym q) told) w (λ no. absurd no) b (s (holds ++ now))

-- a message that is no request
pub refused : {D : Type 0} (turn : D → Call → Outcome → D → Type 0) (n : ℕ) (d : D) (S : Reading → Type 0) (V W : List ℕ → Type 0) (A B C : Type 0)
    (status : ℕ) (end : LinkEnd)
    → S (bad status) → ((t : List ℕ) → V t → W t) → (B → C)
    → Refuses status V B end → Ends turn n d d S W A C end n
refused turn n d S V W A B C status (BadMessage told) s w b p = (
  bad status,
  s,
  (
    subst (λ (k : ℕ). BadMessage told ≡ BadMessage k) p.0 refl,
    refl,
    (reply_bytes (reply (Head status)), (refl, refl), w (reply_bytes (reply (Head status))) p.1),
  ),
)
refused turn n d S V W A B C status WriteFault s w b p =
    (b p.0, refl, (bad status, reply_bytes (reply (Head status)), s, (refl, refl), (p.1.0, w (take p.1.0 (reply_bytes (reply (Head status)))) p.1.1)))
refused turn n d S V W A B C status NoMemory s w b (inl p) = (refl, inl refl, inl (w (reply_bytes no_memory) p))
refused turn n d S V W A B C status NoMemory s w b (inr p) =
    (refl, inl refl, inr (b p.0, (p.1.0, w (take p.1.0 (reply_bytes no_memory)) p.1.1)))
refused turn n d S V W A B C status Closed s w b p = absurd p
refused turn n d S V W A B C status Cut s w b p = absurd p
refused turn n d S V W A B C status Spent s w b p = absurd p
refused turn n d S V W A B C status ReadFault s w b p = absurd p

told_where : (left now : Option (List ℕ)) (P : List ℕ → Type 0) → Told left now (λ bytes rest. P bytes) → WhereTold left P
told_where None now P p = tt
told_where (Some left) None P p = absurd p
told_where (Some left) (Some now) P p = p

-- the input ends inside a message
pub was_cut : {D : Type 0} (turn : D → Call → Outcome → D → Type 0) (n : ℕ) (d : D) (left now : Option (List ℕ)) (held : List ℕ)
    (W : List ℕ → Type 0) (A B : Type 0)
    → Told left now (λ bytes rest. First (held ++ bytes) cut) → W []
    → Ends turn n d d (λ last. WhereTold left (λ bytes. First (held ++ bytes) last)) W A B Cut n
was_cut turn n d left now held W A B told w = (cut, told_where left now (λ bytes. First (held ++ bytes) cut) told, (refl, refl, refl, w))

-- no message stands there
pub was_bad : {D : Type 0} (turn : D → Call → Outcome → D → Type 0) (n : ℕ) (d : D) (left now : Option (List ℕ)) (held : List ℕ)
    (V W : List ℕ → Type 0) (A B C : Type 0) (status : ℕ) (end : LinkEnd)
    → Told left now (λ bytes rest. First (held ++ bytes) (bad status)) → ((t : List ℕ) → V t → W t) → (B → C)
    → Refuses status V B end
    → Ends turn n d d (λ last. WhereTold left (λ bytes. First (held ++ bytes) last)) W A C end n
was_bad turn n d left now held V W A B C status end told w b p =
    refused turn n d (λ last. WhereTold left (λ bytes. First (held ++ bytes) last)) V W A B C status end
    (told_where left now (λ bytes. First (held ++ bytes) (bad status)) told) w b p
