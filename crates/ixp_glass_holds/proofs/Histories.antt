-- What is known of a history of holds by what a seat or the pen sees.
use Rattle.std.proofs.Common.{◌≡◌, ◌+◌, ℕ, nat_lt, Bool, true, false, length, List, [], ◌∷◌, ◌++◌, Option, Some, None, option_map, Result, Ok, Err, IfOk, IfSome, refl, ap, sym, ◌∙◌, subst, if◌then◌else◌}
use Rattle.std.specs.declared.alloc.AllocError.{AllocError}
use Rattle.std.specs.List.{All}
use Rattle.ixp_num_tables.specs.Tables.{find}
use Rattle.ixp_num_tables.proofs.Looking.{all_found}
use Rattle.ixp_num.specs.declared.family.Family.{Family}
use Rattle.ixp_lang.specs.declared.route.Route.{Route}
use Rattle.ixp_board.specs.Histories.{IsLegal, IsViewOf, entries, with_turn}
use Rattle.ixp_board.proofs.Entries.{entries-with_turn, same_turns}
use Rattle.ixp_glass_holds.specs.declared.fault.HoldFault.{HoldFault}
use Rattle.ixp_glass_holds.specs.declared.fault.HoldFault.TheVariants as fault
use Rattle.ixp_glass_holds.specs.declared.hold.Hold.{Hold}
use Rattle.ixp_glass_holds.specs.declared.hold.TheConstants.{MOST_ROUTES, MOST_SESSIONS}
use Rattle.ixp_glass_holds.specs.Keys.{hold_key, session_key, session_of}
use Rattle.ixp_glass_holds.specs.Holds.{AreHoldable, IsWellFormed, Legal, MayAnnounce, held_after}
use Rattle.ixp_glass_holds.specs.Calls.{IsHeld, IsRefused, Log, MakesHold, is_crowded, other_from, refusal, routes_of}
use Rattle.ixp_glass_holds.proofs.Rows.{Announces, few_with, kept_after, unrefused}
use Rattle.ixp_glass_holds.proofs.Turns.{goes_snoc}

pub view_legal : (log : Log) (rows : List Hold) → IsViewOf Legal held_after log rows → IsLegal Legal log
view_legal log rows is = record { first = is.first; turns = is.turns; entries_are = is.entries_are; legal_turns = is.legal_turns }

-- what a view has, whichever first state and turns its history has
pub of_view : (log : Log) (rows : List Hold) → IsViewOf Legal held_after log rows → (P : List Hold → Type 0) → P rows → (first : Unit {0}) (turns : List Hold) → log ≡ entries first turns → P (held_after first turns)
of_view log rows is P has first turns at =
    let same : entries is.first is.turns ≡ entries first turns = sym is.entries_are ∙ at in
    let turns_same = same_turns is.first first is.turns turns same in
    subst P (is.view_is ∙ ap (λ ts. held_after first ts) turns_same) has

pub refuses : (log : Log) (rows : List Hold) (family : Family) (h : Hold) (x : Option HoldFault) → IsViewOf Legal held_after log rows → x ≡ refusal rows family h → IsRefused log family h x
refuses log rows family h x is tells = of_view log rows is (λ rs. refusal rs family h ≡ x) (sym tells)

-- a turn that nothing refuses may be made
pub may_hold : (log : Log) (rows : List Hold) (family : Family) (h : Hold) → IsViewOf Legal held_after log rows → IsRefused log family h None → All IsWellFormed h.routes → IsLegal Legal (with_turn log h)
may_hold log rows family h is free formed =
    let now = held_after is.first is.turns in
    let two = unrefused now family h (free is.first is.turns is.entries_are) in
    let routes : AreHoldable h.routes = record { few = two.0; formed = formed } in record {
      first = is.first;
      turns = is.turns ++ h ∷ [];
      entries_are = ap (λ l. with_turn l h) is.entries_are ∙ entries-with_turn is.first is.turns h;
      legal_turns = goes_snoc [] is.turns h is.legal_turns routes (few_with h now (kept_after is.first is.turns is.legal_turns) two.1);
    }

-- what a look finds
pub finds : (log : Log) (rows : List Hold) (router : List ℕ) (interface : ℕ) (r : Result (Option (List Route)) AllocError) → IsViewOf Legal held_after log rows
    → IfOk r (λ x. x ≡ routes_of rows router interface) → IfOk r (IsHeld log router interface)
finds log rows router interface (Ok x) is found = of_view log rows is (λ rs. routes_of rs router interface ≡ x) (sym found)
finds log rows router interface (Err e) is found = tt

announced_in : (rows : List Hold) (k : List ℕ) (x : Option Hold) → find hold_key k rows ≡ x → ((h : Hold) → find hold_key k rows ≡ Some h → Announces h) → IfSome (option_map (λ (h : Hold). h.routes) x) MayAnnounce
announced_in rows k None found all = tt
announced_in rows k (Some h) found all = all h found

pub announced : (log : Log) (rows : List Hold) (router : List ℕ) (interface : ℕ) (r : Result (Option (List Route)) AllocError) → IsViewOf Legal held_after log rows
    → IfOk r (λ x. x ≡ routes_of rows router interface) → IfOk r (λ x. IfSome x MayAnnounce)
announced log rows router interface (Ok x) is found =
    let k = session_key (session_of router interface) in
    let kept = kept_after is.first is.turns is.legal_turns in
    let all = subst (λ rs. (h : Hold) → find hold_key k rs ≡ Some h → Announces h) (sym is.view_is) (λ h at. all_found hold_key Announces k h (held_after is.first is.turns) kept.announced at) in
    subst (λ (y : Option (List Route)). IfSome y MayAnnounce) (sym found) (announced_in rows k (find hold_key k rows) refl all)
announced log rows router interface (Err e) is found = tt

-- what refuses is no want of memory
never : (a b : Bool) (m n : ℕ) (o : Option ℕ) → (if a then Some (fault.TooMany m MOST_ROUTES) else (if b then Some (fault.TooMany n MOST_SESSIONS) else option_map fault.Family o)) ≡ Some fault.NoMemory → ⊥
never true b m n o e = cc
never false true m n o e = cc
never false false m n None e = cc
never false false m n (Some place) e = cc

pub told : (before now : Log) (family : Family) (h : Hold) (x : HoldFault) → IsLegal Legal now → IsRefused now family h (Some x) → MakesHold family h (Err x) before now
told before now family h fault.NoMemory legal is =
    let rows = held_after legal.first legal.turns in
    absurd (never (nat_lt MOST_ROUTES (length h.routes)) (is_crowded rows h) (length h.routes) (MOST_SESSIONS + 1) (other_from 1 family h.routes) (is legal.first legal.turns legal.entries_are))
told before now family h (fault.TooMany have limit) legal is = is
told before now family h (fault.Family place) legal is = is
