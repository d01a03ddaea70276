-- Configurations that are handed out.
use Rattle.std.proofs.Common.{◌≡◌, ◌≤◌, ◌<◌, ◌⊎◌, ℕ, nat_lt, Bool, true, false, List, Option, Some, None, is_some, not, Result, Ok, Err, IfOk, IfErr, inl, inr, refl, sym, ◌∙◌, subst, arith, if◌then◌else◌}
use Rattle.std.proofs.lemmas.Bool.{ltb-true}
use mathlib.Core.List.{IsPrefix}
use Rattle.ixp_board.specs.Histories.{IsLegal}
use Rattle.ixp_board.proofs.Beginnings.{begins_self}
use Rattle.ixp_registry.specs.declared.members.Owner.{Owner}
use Rattle.ixp_registry.specs.declared.refusal.Refusal.{Refusal}
use Rattle.ixp_compile_laws.specs.Right.{Right}
use Rattle.ixp_compile_laws.proofs.ReadBack.{whole_right}
use Rattle.ixp_desk_history.specs.declared.turn.Text.{Text}
use Rattle.ixp_desk_history.specs.Legal.{Legal}
use Rattle.ixp_desk_history.proofs.ShownRight.{version_valid}
use Rattle.ixp_desk_lock.specs.declared.fault.PubFault.{PubFault}
use Rattle.ixp_desk_lock.specs.declared.fault.PubFault.TheVariants as pub_fault
use Rattle.ixp_desk_lock.specs.Facts.{HasAccepted, Log}
use Rattle.ixp_desk_lock.specs.Published.{IsTextAt, PubSays, Publishes, ReadsAt, greater}
use Rattle.ixp_desk_lock.specs.Sights.{Looks, Sight}
use Rattle.ixp_desk_lock.proofs.OwnTurns.{own_from}
use Rattle.ixp_desk_lock.proofs.PublishLaws.{one_count}
use Rattle.ixp_desk.specs.Publications.{Answers, Hands, HandsOut, IsPublished, IsReader, LookedFor, ShowsText}

-- who may not read is refused by the look
pub refuses : (secret h : List ℕ) (seen : Option ℕ) (x : Refusal) (s t : Sight) → Looks s t → IsReader t.2 secret (Err x) → Hands secret h seen (Err (pub_fault.Refused x)) s t
refuses secret h seen x s t l is = ((l.1, is), λ same. let bad : ⊥ = cc in bad)

-- memory ran out at the look
pub short : (secret h : List ℕ) (seen : Option ℕ) (s t : Sight) → Looks s t → Hands secret h seen (Err pub_fault.NoMemory) s t
short secret h seen s t l = let same = l.1 in ((omega (arith, same), omega (arith, same)), λ same. let bad : ⊥ = cc in bad)

looked : (secret : List ℕ) (owner : Owner) (s u t : Sight) → Looks s u → IsReader u.2 secret (Ok owner) → IsPrefix u.2 t.2 → LookedFor secret owner s t
looked secret owner s u t l is begins = record { looked = u.2; later = l.2; begins = begins; reader = is }

-- no edit is named
pub none_named : (seen : Option ℕ) → not (is_some seen) ≡ true → seen ≡ None
none_named None is = refl
none_named (Some n) is = absurd (let bad : ⊥ = cc in bad)

-- the look alone answers
pub shows : (secret h : List ℕ) (seen : Option ℕ) (owner : Owner) (must : ℕ) (o : Option Text) (s t : Sight) → seen ≡ None → Looks s t → IsReader t.2 secret (Ok owner) → HasAccepted s.2 must → ReadsAt t.2 must h o
    → Hands secret h seen (Ok o) s t
shows secret h seen owner must o s t none l is has reads = record {
  owner = owner;
  looks = looked secret owner s t t l is (begins_self t.2);
  must = must;
  is_must = has;
  gives = inl (none, l.1, reads);
}

-- what was done under the lock after the look
hands_ok : (secret h : List ℕ) (seen : Option ℕ) (owner : Owner) (must : ℕ) (o : Option Text) (s u t : Sight) → Looks s u → IsReader u.2 secret (Ok owner) → HasAccepted s.2 must → IsPrefix u.2 t.2
    → Publishes owner must seen h o u t → HandsOut secret h seen o s t
hands_ok secret h seen owner must o s u t l is has begins p = record {
  owner = owner;
  looks = looked secret owner s u t l is begins;
  must = must;
  is_must = has;
  gives = inr (record { place = p.place; at = p.at; begins = p.begins; turns = own_from _ s u t l p.turns; read = p.read });
}

hands_err : (secret h : List ℕ) (seen : Option ℕ) (owner : Owner) (x : PubFault) (s u t : Sight) → Looks s u → IsReader u.2 secret (Ok owner) → IsPrefix u.2 t.2 → PubSays owner seen x u t → Hands secret h seen (Err x) s t
hands_err secret h seen owner (pub_fault.Refused x) s u t l is begins says = absurd says
hands_err secret h seen owner (pub_fault.SeenUnknown n) s u t l is begins says =
    ((owner, looked secret owner s u t l is begins, says.0, own_from _ s u t l says.1), λ same. let bad : ⊥ = cc in bad)
hands_err secret h seen owner pub_fault.NoRouter s u t l is begins says = absurd says
hands_err secret h seen owner (pub_fault.SeatCount a b) s u t l is begins says =
    (record { stays = says.stays ∙ l.1; its = says.its ∙ l.1; turns = says.turns; differ = says.differ }, λ same. let bad : ⊥ = cc in bad)
hands_err secret h seen owner (pub_fault.Ended n) s u t l is begins says =
    (record { stays = says.stays ∙ l.1; all = says.all; its = says.its ∙ l.1; last = says.last }, λ same. let bad : ⊥ = cc in bad)
hands_err secret h seen owner pub_fault.NoMemory s u t l is begins says =
    let same = l.1 in
    let few = says.0 in
    let many = says.1 in
    ((omega (arith, same, few), omega (arith, same, many)), λ same. let bad : ⊥ = cc in bad)

pub hands : (secret h : List ℕ) (seen : Option ℕ) (owner : Owner) (must : ℕ) (r : Result (Option Text) PubFault) (s u t : Sight) → Looks s u → IsReader u.2 secret (Ok owner) → HasAccepted s.2 must → IsPrefix u.2 t.2
    → IfOk r (λ o. Publishes owner must seen h o u t) → IfErr r (λ x. PubSays owner seen x u t) → Hands secret h seen r s t
hands secret h seen owner must (Ok o) s u t l is has begins ok err = hands_ok secret h seen owner must o s u t l is has begins ok
hands secret h seen owner must (Err x) s u t l is has begins ok err = hands_err secret h seen owner x s u t l is begins err

-- a missing text is answered by Y3
pub answers_text : (secret h : List ℕ) (seen : Option ℕ) (r : Result (Option Text) PubFault) (text : Text) (s t : Sight) → r ≡ Ok (Some text) → Hands secret h seen r s t → Answers secret h seen (Ok text) s t
answers_text secret h seen r text s t is has = subst (λ x. Hands secret h seen x s t) is has

pub answers_none : (secret h : List ℕ) (seen : Option ℕ) (r : Result (Option Text) PubFault) (s t : Sight) → r ≡ Ok None → Hands secret h seen r s t → Answers secret h seen (Err pub_fault.NoRouter) s t
answers_none secret h seen r s t is has = subst (λ x. Hands secret h seen x s t) is has

pub answers_fault : (secret h : List ℕ) (seen : Option ℕ) (r : Result (Option Text) PubFault) (x : PubFault) (s t : Sight) → r ≡ Err x → Hands secret h seen r s t → Answers secret h seen (Err x) s t
answers_fault secret h seen r x s t is has = (subst (λ x. Hands secret h seen x s t) is has).0

-- The headline.

least : (a b : ℕ) → a ≤ greater a b
least a b = by_less (nat_lt a b) refl where
  by_less : (c : Bool) → nat_lt a b ≡ c → a ≤ (if c then b else a)
  by_less true e = let low : a < b = ltb-true a b e in omega (arith, low)
  by_less false e = omega arith

from_text : (before now : Log) (h : List ℕ) (text : Text) (must need : ℕ) → IsLegal Legal before → HasAccepted before must → must ≤ need → IsTextAt now need h text → IsPublished before now h text
from_text before now h text must need legal has few at = record {
  first = at.first;
  turns = at.turns;
  is = at.is;
  legal = at.legal;
  registry = at.registry;
  version = at.version;
  contains = λ n its. let one = one_count before legal.first legal.turns n must legal.entries_are its has in let least = at.must in omega (arith, one, few, least);
  router = at.router;
  is_there = at.is_there;
  bytes = at.bytes;
  right = subst (λ b. Right b at.registry at.router) (sym at.bytes)
      (whole_right at.registry h at.router (version_valid at.first at.turns text.built at.registry at.legal at.version) at.is_there);
  roas = at.roas;
}

pub headline : (secret h : List ℕ) (seen : Option ℕ) (text : Text) (s t : Sight) → IsLegal Legal s.2 → Answers secret h seen (Ok text) s t → IsPublished s.2 t.2 h text
headline secret h seen text s t legal out = by_way out.gives where
  by_way : ShowsText out.must seen h (Some text) s t ⊎ Publishes out.owner out.must seen h (Some text) s t → IsPublished s.2 t.2 h text
  by_way (inl bare) = from_text s.2 t.2 h text out.must out.must legal out.is_must (omega arith) bare.2
  by_way (inr p) = from_text s.2 t.2 h text out.must (greater out.must p.place) legal out.is_must (least out.must p.place) p.read
