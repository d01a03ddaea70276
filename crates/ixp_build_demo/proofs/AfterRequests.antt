-- What an accepted request leaves to be regenerated, and one that isn't accepted.
use Rattle.std.proofs.Common.{◌≡◌, ◌≤◌, ◌⊎◌, inl, inr, ℕ, ◌+◌, suc, Bool, false, ◌||◌, List, [], ◌++◌, None, length, refl, sym, ap, ◌∙◌, subst, arith}
use Rattle.std.specs.List.{list_any}
use Rattle.ixp_num_tables.specs.Tables.{if_there, same}
use Rattle.ixp_registry.specs.declared.members.Owner.{Owner}
use Rattle.ixp_registry.specs.declared.refusal.Refusal.{Refusal}
use Rattle.ixp_registry.specs.declared.refusal.Refusal.TheVariants.{NoKey}
use Rattle.ixp_registry.specs.declared.registry.Registry.{Registry}
use Rattle.ixp_registry.specs.Valid.{Valid}
use Rattle.ixp_registry_change.specs.declared.change.RegistryChange.{RegistryChange}
use Rattle.ixp_registry_change.specs.Changes.{with_change}
use Rattle.ixp_machine_edits.specs.Edits.{change}
use Rattle.ixp_machine_edits.proofs.EditChanges.{change_is_next}
use Rattle.ixp_machine_steps.specs.declared.state.Entry.{Entry}
use Rattle.ixp_machine_steps.specs.declared.state.State.{State}
use Rattle.ixp_machine_steps.specs.States.{ValidState}
use Rattle.ixp_machine_steps.specs.Steps.{Verdict, Accepted, Repeated, Reused, Refused, step, verdict, verdict_of}
use Rattle.ixp_machine_steps.proofs.Accepting.{Acts, Rests, either}
use Rattle.ixp_machine.specs.declared.decision.Decision.{Decision}
use Rattle.ixp_machine.specs.declared.decision.Decision.TheVariants as decision
use Rattle.ixp_machine.specs.declared.decision.Reply.{Reply}
use Rattle.ixp_machine.specs.Decisions.{Says}
use Rattle.ixp_compile_text.proofs.Bounds.{all_fit}
use Rattle.ixp_build_touches.specs.declared.touch.Reached.{Reached}
use Rattle.ixp_build_pending.specs.declared.touch.Touch.{Touch}
use Rattle.ixp_build_pending.specs.Pendings.{is_key}
use Rattle.ixp_build_touches.specs.Touched.{reached, touch, with_after}
use Rattle.ixp_build_touches.proofs.Equalities.{any_of_both}
use Rattle.ixp_build_touches.proofs.TwoSteps.{headers_alike, roas_alike, sessions_alike}
use Rattle.ixp_build.specs.declared.bundle.Bundle.{Bundle}
use Rattle.ixp_build.specs.Bundles.{AgreesBut, IsOf, untouched}
use Rattle.ixp_build.specs.declared.making.Made.{Made}
use Rattle.ixp_build.specs.declared.orders.Order.{Order}
use Rattle.ixp_build.specs.Laws.{joined}
use Rattle.ixp_build.specs.Orders.{HasBounds, installed, made_from, order_of}
use Rattle.ixp_build.proofs.AfterEdits.{edit_pends, install_settles, orders_bounded, otherwise}
use Rattle.ixp_build_demo.proofs.Steps.{steps}
use Rattle.ixp_build_demo.specs.Builds.{demo_request, parts_made, parts_touched, requests_from, touched_by, when_accepted}

-- what both steps list is all that a change touches, so that with it regenerated nothing is pending
pub agrees_but : (b : Bundle) (r : Registry) (c : RegistryChange) → Valid r → IsOf b r
    → AgreesBut (with_after (reached r c) (with_change r c)) b (with_change r c)
agrees_but b r c valid whole =
    otherwise (joined (touch r (with_change r c) c) untouched) (with_after (reached r c) (with_change r c)) b (with_change r c)
    (record {
      headers = λ h un. none_more (λ k. same k h) (touch r (with_change r c) c).headers (sym (headers_alike r c h) ∙ un);
      sessions = λ h n un. none_more (is_key h n) (touch r (with_change r c) c).sessions (sym (sessions_alike r c h n valid) ∙ un);
      roas = λ un. no_more (touch r (with_change r c) c).roas (sym (roas_alike r c) ∙ un);
    })
    (edit_pends untouched b r c valid whole) where
      none_more : {X : Type 0} (t : X → Bool) (xs : List X) → list_any t xs ≡ false → list_any t (xs ++ []) ≡ false
      none_more t xs e = any_of_both t xs [] ∙ rw e refl

      no_more : (b : Bool) → b ≡ false → (b || false) ≡ false
      no_more b e = rw e refl

-- a request's touch, by the change and the state after it
touch_is : (s s' : State) (e : Entry) (c : RegistryChange) (x : Reached) (t : Touch) → verdict s e ≡ Accepted → s' ≡ step s e
    → c ≡ change s.registry e.edit → x ≡ reached s.registry c → t ≡ with_after x s'.registry → t ≡ touched_by s e
touch_is s s' e c x t said is makes foreseen touched =
    touched
    ∙ (ap (λ (y : Reached). with_after y s'.registry) (foreseen ∙ ap (reached s.registry) makes)
    ∙ ap (with_after (reached s.registry (change s.registry e.edit))) (steps s s' e said is).next)

-- what an accepted request touches is all that isn't whole after it
pub pends :
    (b : Bundle) (s s' : State) (e : Entry) (c : RegistryChange) (x : Reached) (t : Touch) → ValidState s → verdict s e ≡ Accepted
    → s' ≡ step s e → c ≡ change s.registry e.edit → x ≡ reached s.registry c → t ≡ with_after x s'.registry → IsOf b s.registry
    → AgreesBut t b s'.registry
pends b s s' e c x t valid said is makes foreseen touched whole =
    let d = change s.registry e.edit in
    let after : s'.registry ≡ with_change s.registry d = (steps s s' e said is).next ∙ sym (change_is_next s.registry e.edit) in
    let made : t ≡ with_after (reached s.registry d) (with_change s.registry d) =
    touched ∙ (ap (λ (y : Reached). with_after y s'.registry) (foreseen ∙ ap (reached s.registry) makes) ∙ ap (with_after (reached s.registry d)) after) in
    subst (λ (r : Registry). AgreesBut t b r) (sym after)
    (subst (λ (u : Touch). AgreesBut u b (with_change s.registry d)) (sym made) (agrees_but b s.registry d valid.registry whole))

pub counted :
    (s s' : State) (e : Entry) (c : RegistryChange) (x : Reached) (t : Touch) (n : ℕ) → verdict s e ≡ Accepted → s' ≡ step s e
    → c ≡ change s.registry e.edit → x ≡ reached s.registry c → t ≡ with_after x s'.registry → n ≡ length t.sessions
    → n ≡ parts_touched s e
counted s s' e c x t n said is makes foreseen touched count =
    count
    ∙ (ap (λ (u : Touch). length u.sessions) (touch_is s s' e c x t said is makes foreseen touched)
    ∙ sym (ap (λ v. when_accepted v (length (touched_by s e).sessions)) said))

-- Which requests are accepted.

abbrev pub IsAccepted : Decision → Type 0
IsAccepted d = (owner : Owner) × (d ≡ decision.Accepted owner)

said_accepted : (n : ℕ) (owner : Owner) (v : Verdict) → Says n v (decision.Accepted owner) → v ≡ Accepted
said_accepted n owner Accepted says = refl
said_accepted n owner Repeated says = absurd (let bad : ⊥ = cc in bad)
said_accepted n owner (Reused kind subject) (k, is, names) = absurd (let bad : ⊥ = cc in bad)
said_accepted n owner (Refused x) says = absurd (let bad : ⊥ = cc in bad)

pub accepted_is : (s : State) (e : Entry) (n : ℕ) (d : Decision) (owner : Owner) → Says n (verdict s e) d → d ≡ decision.Accepted owner → verdict s e ≡ Accepted
accepted_is s e n d owner says is = said_accepted n owner (verdict s e) (subst (Says n (verdict s e)) is says)

-- Where a request isn't accepted, nothing changes and nothing is touched.
rests_by : (n m : ℕ) (v : Verdict) (d : Decision) → Says n v d → (IsAccepted d → ⊥) → when_accepted v m ≡ 0
rests_by n m Accepted d says not = absurd (not says)
rests_by n m Repeated d says not = refl
rests_by n m (Reused kind subject) d says not = refl
rests_by n m (Refused x) d says not = refl

pub none_touched : (s : State) (e : Entry) (n : ℕ) (d : Decision) → Says n (verdict s e) d → (IsAccepted d → ⊥) → parts_touched s e ≡ 0
none_touched s e n d says not = rests_by n (length (touched_by s e).sessions) (verdict s e) d says not

pub same_state : (s : State) (e : Entry) (n : ℕ) (d : Decision) → Says n (verdict s e) d → (IsAccepted d → ⊥) → step s e ≡ s
same_state s e n d says not = by_either (either s e) where
  by_either : Acts s e ⊎ Rests s e → step s e ≡ s
  by_either (inl (owner, found, said, made, acts, edits)) =
      let accepted : verdict s e ≡ Accepted = ap (λ o. if_there o (Refused NoKey) (λ owner. verdict_of s owner e.number e.edit)) found ∙ said in
      absurd (not (subst (λ v. Says n v d) accepted says))
  by_either (inr rests) = rests.0

pub not_repeated : (d : Decision) (reply : Reply) → d ≡ decision.Repeated reply → IsAccepted d → ⊥
not_repeated d reply is (owner, other) = let bad : ⊥ = cc in bad

pub not_refused : (d : Decision) (x : Refusal) → d ≡ decision.Refused x → IsAccepted d → ⊥
not_refused d x is (owner, other) = let bad : ⊥ = cc in bad

-- a state after a request that isn't accepted
pub stays_whole : (b : Bundle) (s s' : State) (e : Entry) (n : ℕ) (d : Decision) → Says n (verdict s e) d → (IsAccepted d → ⊥) → s' ≡ step s e → IsOf b s.registry → IsOf b s'.registry
stays_whole b s s' e n d says not is whole = subst (λ (z : State). IsOf b z.registry) (sym (is ∙ same_state s e n d says not)) whole

-- a request raises the count of those that were accepted by one at most
pub one_more : (s : State) (e : Entry) → (step s e).accepted ≤ suc s.accepted
one_more s e = by_either (either s e) where
  by_either : Acts s e ⊎ Rests s e → (step s e).accepted ≤ suc s.accepted
  by_either (inl (owner, found, said, is, acts, edits)) = subst (λ (z : State). z.accepted ≤ suc s.accepted) (sym is) (omega arith)
  by_either (inr rests) = subst (λ (z : State). z.accepted ≤ suc s.accepted) (sym rests.0) (omega arith)

-- How far the requests are.

assoc : (a b c : ℕ) → (a + b) + c ≡ a + (b + c)
assoc a b c = omega arith

pub step_on :
    (s s' : State) (e : Entry) (all parts more done left : ℕ) → parts + parts_made s (requests_from done (suc left)) ≡ all → e ≡ demo_request done → more ≡ parts_touched s e
    → s' ≡ step s e → (parts + more) + parts_made s' (requests_from (suc done) left) ≡ all
step_on s s' e all parts more done left before is count steps_to =
    let d = demo_request done in
    let rest = requests_from (suc done) left in
    ap (λ z. (parts + z) + parts_made s' rest) (count ∙ ap (parts_touched s) is)
    ∙ (ap (λ (z : State). (parts + parts_touched s d) + parts_made z rest) (steps_to ∙ ap (step s) is)
    ∙ (assoc parts (parts_touched s d) (parts_made (step s d) rest) ∙ before))

-- after so many of the requests, with so many left
pub record Following (first : State) (count : ℕ) (s : State) (b : Bundle) (parts done left : ℕ) : Type 0 where
  pub counted : parts + parts_made s (requests_from done left) ≡ parts_made first (requests_from 0 count)
  pub valid : ValidState s
  pub whole : IsOf b s.registry
  pub few : s.accepted ≤ done
  pub all : done + left ≡ count

pub follows_on :
    (first s s' : State) (count : ℕ) (b b' : Bundle) (e : Entry) (parts more done left : ℕ) → Following first count s b parts done (suc left) → e ≡ demo_request done → more ≡ parts_touched s e
    → s' ≡ step s e → ValidState s' → IsOf b' s'.registry → Following first count s' b' (parts + more) (suc done) left
follows_on first s s' count b b' e parts more done left f is count_is steps_to valid whole = record {
  counted = step_on s s' e (parts_made first (requests_from 0 count)) parts more done left f.counted is count_is steps_to;
  valid = valid;
  whole = whole;
  few = let one = subst (λ (z : State). z.accepted ≤ suc s.accepted) (sym steps_to) (one_more s e) in let few = f.few in omega (arith, one, few);
  all = let all = f.all in omega (arith, all);
}

-- What is made of an order.

pub rebuilt_whole :
    (b b' : Bundle) (r : Registry) (upto : ℕ) (t : Touch) (o : Order) (m : Made) → AgreesBut t b r → o ≡ order_of b.built upto r t → m ≡ made_from o → b' ≡ installed b m → IsOf b' r
rebuilt_whole b b' r upto t o m agrees taken made put_in =
    subst (λ (z : Bundle). IsOf z r) (sym (put_in ∙ ap (installed b) (made ∙ ap made_from taken))) (install_settles t b r upto agrees)

pub has_bounds : (b : Bundle) (r : Registry) (upto : ℕ) (t : Touch) (o : Order) → Valid r → o ≡ order_of b.built upto r t → HasBounds o
has_bounds b r upto t o valid taken = subst HasBounds (sym taken) (orders_bounded t b.built upto r (all_fit r valid))
