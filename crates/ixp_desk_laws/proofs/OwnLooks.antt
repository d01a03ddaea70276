-- What a member's request for an explanation is answered once the desk has looked for whose the secret is.
use Rattle.std.proofs.Common.{◌≡◌, ℕ, List, [], ◌∷◌, ◌++◌, map, Option, Some, Result, Ok, Err, refl, sym, ap, ◌∙◌, subst}
use mathlib.Core.List.{IsPrefix}
use Rattle.ixp_registry.specs.declared.members.Owner.{Owner}
use Rattle.ixp_registry.specs.declared.members.Owner.TheVariants.{Member}
use Rattle.ixp_registry.specs.declared.refusal.Refusal.{Refusal}
use Rattle.ixp_registry.specs.declared.refusal.Refusal.TheVariants.{Denied}
use Rattle.ixp_registry.specs.declared.refusal.Right.TheVariants as right
use Rattle.ixp_board.specs.Histories.{IsLegal, entries}
use Rattle.ixp_board.specs.declared.entry.Entry.TheVariants as entry
use Rattle.ixp_board.proofs.Beginnings.{begins_through}
use Rattle.ixp_api_replies.specs.declared.outcome.Outcome.{Outcome}
use Rattle.ixp_api.specs.declared.call.ExplainCall.{ExplainCall}
use Rattle.ixp_desk_history.specs.declared.turn.First.{First}
use Rattle.ixp_desk_history.specs.declared.turn.Text.{Text}
use Rattle.ixp_desk_history.specs.declared.turn.Turn.{Turn}
use Rattle.ixp_desk_history.specs.Legal.{Legal}
use Rattle.ixp_desk_history.specs.Turns.{state_of}
use Rattle.ixp_desk_lock.specs.declared.fault.PubFault.{PubFault}
use Rattle.ixp_desk_lock.specs.declared.fault.PubFault.TheVariants as pub_fault
use Rattle.ixp_desk_lock.specs.Calls.{Grows}
use Rattle.ixp_desk_lock.specs.Facts.{Log}
use Rattle.ixp_desk_lock.specs.Sights.{Sight}
use Rattle.ixp_desk.specs.Publications.{Answers, LookedFor, reader_of}
use Rattle.ixp_desk_explain.specs.Explanations.{ExplainTurn, Explains, ExplainsElse, OwnTurn, is_denied}
use Rattle.ixp_desk_laws.specs.Calls.{SeesAlike}
use Rattle.ixp_desk_laws.specs.Desks.{IsOf, StaysOf}
use Rattle.ixp_desk_laws.specs.Links.{IsReply}
use Rattle.ixp_desk_laws.proofs.OwnReplies.{explanations_told}

front_mapped : (xs more : Log) (ts : List Turn) → xs ++ more ≡ map entry.Turn ts → (us : List Turn) × (xs ≡ map entry.Turn us)
front_mapped [] more ts e = ([], refl)
front_mapped (x ∷ xs) more [] e = absurd (let bad : ⊥ = cc in bad)
front_mapped (x ∷ xs) more (t ∷ ts) e =
    let first : x ≡ entry.Turn t = cc in
    let rest : xs ++ more ≡ map entry.Turn ts = cc in
    let us = front_mapped xs more ts rest in
    (t ∷ us.0, ap (λ y. y ∷ xs) first ∙ ap (λ ys. entry.Turn t ∷ ys) us.1)

-- what a history begins with that begins with one is a history
between : (f : First) (ts : List Turn) (old : First) (os : List Turn) (log : Log) → IsPrefix (entries old os) log → IsPrefix log (entries f ts)
    → (us : List Turn) × (log ≡ entries f us)
between f ts old os [] begins on = absurd (let bad : ⊥ = (let e = begins.1 in cc) in bad)
between f ts old os (x ∷ xs) begins on =
    let is : x ∷ (xs ++ on.0) ≡ entry.First f ∷ map entry.Turn ts = on.1 in
    let first : x ≡ entry.First f = cc in
    let rest : xs ++ on.0 ≡ map entry.Turn ts = cc in
    let us = front_mapped xs on.0 ts rest in
    (us.0, ap (λ y. y ∷ xs) first ∙ ap (λ ys. entry.First f ∷ ys) us.1)

-- a member may not read configurations
no_reader : (m : ℕ) (o : Option Owner) (owner : Owner) → o ≡ Some (Member m) → reader_of o ≡ Ok owner → ⊥
no_reader m o owner is reads =
    let bad : Err (Denied right.Staff) ≡ Ok owner = sym (ap reader_of is) ∙ reads in
    cc

denied : (m : ℕ) (o : Option Owner) (x : Refusal) → o ≡ Some (Member m) → reader_of o ≡ Err x → x ≡ Denied right.Staff
denied m o x is reads =
    let same : ◌≡◌ {A = Result Owner Refusal} (Err (Denied right.Staff)) (Err x) = sym (ap reader_of is) ∙ reads in
    cc

looked : {X : Type 0} (m : ℕ) (secret : List ℕ) (owner : Owner) (s u t : Sight) → IsLegal Legal s.2 → Grows s u → Grows u t → StaysOf m secret s t
    → LookedFor secret owner s u → X
looked m secret owner s u t was grows on stays look =
    let begins = subst (λ (log : Log). IsPrefix log look.looked) was.entries_are look.later in
    let ends = subst (λ (log : Log). IsPrefix look.looked log) grows.legal.entries_are look.begins in
    let us = between grows.legal.first grows.legal.turns was.first was.turns look.looked begins ends in
    let here = look.reader grows.legal.first us.0 us.1 in
    let later = subst (λ (log : Log). IsPrefix s.2 log) us.1 look.later in
    let before = subst (λ (log : Log). IsPrefix log t.2) us.1 (begins_through look.looked u.2 t.2 look.begins on.begins) in
    absurd (no_reader m _ owner (stays grows.legal.first us.0 later before) here)

-- a member is answered by its own text, as the same seat asks for it
pub record AsksOwn (call : ExplainCall) (o : Outcome) (s t : Sight) : Type 0 where
  pub at : Sight
  pub seat : at.0 ≡ s.0
  pub count : at.1 ≡ s.1
  pub grows : Grows at t
  pub turn : OwnTurn call o at t

asks_own : (m : ℕ) (call : ExplainCall) (o : Outcome) (s u t : Sight) (r : Result Text PubFault) → IsLegal Legal s.2 → Grows s u → Grows u t
    → StaysOf m call.secret s t → IsReply o → Answers call.secret call.router call.seen r s u → Explains call r o s u t → AsksOwn call o s t
asks_own m call o s u t (Ok text) was grows on stays reply a e = looked m call.secret a.owner s u t was grows on stays a.looks
asks_own m call o s u t (Err pub_fault.NoRouter) was grows on stays reply a e = looked m call.secret a.owner s u t was grows on stays a.looks
asks_own m call o s u t (Err (pub_fault.SeenUnknown n)) was grows on stays reply a e = looked m call.secret a.0 s u t was grows on stays a.1
asks_own m call o s u t (Err (pub_fault.SeatCount i k)) was grows on stays reply a e = absurd (subst IsReply e.1 reply)
asks_own m call o s u t (Err (pub_fault.Ended n)) was grows on stays reply a e = absurd (subst IsReply e.1 reply)
asks_own m call o s u t (Err pub_fault.NoMemory) was grows on stays reply a e = absurd (subst IsReply e.1 reply)
asks_own m call o s u t (Err (pub_fault.Refused x)) was grows on stays reply a e =
    let here = grows.legal in
    let at = subst (λ (log : Log). IsPrefix s.2 log) here.entries_are grows.begins in
    let to = subst (λ (log : Log). IsPrefix log t.2) here.entries_are on.begins in
    let is : x ≡ Denied right.Staff = denied m _ x (stays here.first here.turns at to) (a.1 here.first here.turns here.entries_are) in
    record {
      at = u;
      seat = grows.number;
      count = a.0;
      grows = on;
      turn = subst (λ (y : Refusal). ExplainsElse (is_denied (pub_fault.Refused y)) call (pub_fault.Refused y) o u t) is e;
    }

moved : (m : ℕ) (secret : List ℕ) (f : First) (before : List Turn) (s u t : Sight) → u.0 ≡ s.0 → u.1 ≡ s.1 → Grows u t → IsOf m secret f before s t
    → IsOf m secret f before u t
moved m secret f before s u t seat count grows here = record {
  place =
      record {
        grows = grows;
        turn = here.place.turn;
        after = here.place.after;
        is = here.place.is;
        seat = here.place.seat ∙ sym seat;
        number = here.place.number ∙ sym count;
      };
  own = here.own;
}

pub explained_own : (m : ℕ) (a b : ExplainCall) (x y : Outcome) (s t u w : Sight) (f g : First) (before others : List Turn) → ExplainTurn a x s t
    → ExplainTurn b y u w → IsReply x → IsReply y → IsLegal Legal s.2 → IsLegal Legal u.2 → StaysOf m a.secret s t → StaysOf m b.secret u w
    → IsOf m a.secret f before s t → IsOf m b.secret g others u w → SeesAlike m (state_of f before) (state_of g others)
    → a.router ≡ b.router → a.interface ≡ b.interface → a.asked ≡ b.asked → x ≡ y
explained_own m a b x y s t u w f g before others (i, grows, on, (r, answers, explains)) (k, grows', on', (q, answers', explains')) reply reply' was was' stays stays' here there alike router interface asked =
    let one = asks_own m a x s i t r was grows on stays reply answers explains in
    let two = asks_own m b y u k w q was' grows' on' stays' reply' answers' explains' in
    explanations_told m a b x y one.at t two.at w f g before others one.turn two.turn reply reply'
    (moved m a.secret f before s one.at t one.seat one.count one.grows here) (moved m b.secret g others u two.at w two.seat two.count two.grows there)
    alike router interface asked
