-- What sessions hold after a legal history.
use Rattle.std.proofs.Common.{◌≡◌, ◌≤◌, ◌<◌, ℕ, Bool, true, false, not, ◌&&◌, nat_le, nat_lt, List, [], ◌∷◌, length, Option, Some, None, is_some, refl, ap, subst, arith, if◌then◌else◌}
use Rattle.std.proofs.lemmas.Bool.Decides.{nat_tests}
use Rattle.std.specs.List.{AllByRecursion}
use Rattle.ixp_num_tables.specs.Tables.{Ascends, find}
use Rattle.ixp_num_tables.proofs.Counts.{length_fewer, length_put, length_same}
use Rattle.ixp_num_tables.proofs.TableLaws.{Ascends-put, Ascends-without, all_put, all_without}
use Rattle.ixp_num.specs.declared.family.Family.{Family}
use Rattle.ixp_lang.specs.declared.route.Route.{Route}
use Rattle.ixp_glass_holds.specs.declared.fault.HoldFault.{HoldFault}
use Rattle.ixp_glass_holds.specs.declared.hold.Hold.{Hold}
use Rattle.ixp_glass_holds.specs.declared.hold.TheConstants.{MOST_ROUTES, MOST_SESSIONS}
use Rattle.ixp_glass_holds.specs.Keys.{hold_key}
use Rattle.ixp_glass_holds.specs.Holds.{AreHoldable, GoesOn, Legal, MayAnnounce, held_after, held_from, instead, with_hold}
use Rattle.ixp_glass_holds.specs.Calls.{is_crowded, refusal}

abbrev pub Announces : Hold → Type 0
Announces h = MayAnnounce h.routes

-- the rows of a view
pub record AreKept (rows : List Hold) : Type 0 where
  pub order : Ascends hold_key rows
  pub few : length rows ≤ MOST_SESSIONS
  pub announced : AllByRecursion Announces rows

kept_instead : (rs : List Route) (h : Hold) (rows : List Hold) → rs ≡ h.routes → AreKept rows → AreHoldable h.routes → length (instead rs h rows) ≤ MOST_SESSIONS → AreKept (instead rs h rows)
kept_instead [] h rows is k holds few = record {
  order = Ascends-without hold_key (hold_key h) rows k.order;
  few = few;
  announced = all_without hold_key Announces (hold_key h) rows k.announced;
}
kept_instead (r ∷ rs) h rows is k holds few = record {
  order = Ascends-put hold_key h rows k.order;
  few = few;
  announced = all_put hold_key Announces h rows (omega (arith, ap length is), holds) k.announced;
}

kept_from : (rows turns : List Hold) → AreKept rows → GoesOn rows turns → AreKept (held_from rows turns)
kept_from rows [] k goes = k
kept_from rows (h ∷ turns) k goes = kept_from (with_hold h rows) turns (kept_instead h.routes h rows refl k goes.0 goes.1) goes.2

pub kept_after : (first : Unit {0}) (turns : List Hold) → Legal first turns → AreKept (held_after first turns)
kept_after first turns legal = kept_from [] turns (record { order = tt; few = omega arith; announced = tt }) legal

-- there is room for one session more
room : (n m : ℕ) → 0 < n → (nat_lt 0 n && nat_le MOST_SESSIONS m) ≡ false → m < MOST_SESSIONS
room n m some e = grind (arith, nat_tests)

few_instead : (rs : List Route) (h : Hold) (rows : List Hold) → rs ≡ h.routes → AreKept rows → is_crowded rows h ≡ false → length (instead rs h rows) ≤ MOST_SESSIONS
few_instead [] h rows is k free = let fewer = length_fewer hold_key (hold_key h) rows k.order in let few = k.few in omega (arith, fewer, few)
few_instead (r ∷ rs) h rows is k free = by_found (find hold_key (hold_key h) rows) refl where
  by_found : (x : Option Hold) → find hold_key (hold_key h) rows ≡ x → length (instead (r ∷ rs) h rows) ≤ MOST_SESSIONS
  by_found (Some old) found = let same = length_same hold_key h old rows k.order found in let few = k.few in omega (arith, same, few)
  by_found None found =
      let some : 0 < length h.routes = omega (arith, ap length is) in
      let free : (nat_lt 0 (length h.routes) && nat_le MOST_SESSIONS (length rows)) ≡ false
      = subst (λ x. (nat_lt 0 (length h.routes) && (not (is_some x) && nat_le MOST_SESSIONS (length rows))) ≡ false) found free in
      let one = length_put hold_key h rows k.order in
      let few = room (length h.routes) (length rows) some free in
      omega (arith, one, few)

pub few_with : (h : Hold) (rows : List Hold) → AreKept rows → is_crowded rows h ≡ false → length (with_hold h rows) ≤ MOST_SESSIONS
few_with h rows k free = few_instead h.routes h rows refl k free

parts : (a b : Bool) (x y : HoldFault) (z : Option HoldFault) → (if a then Some x else (if b then Some y else z)) ≡ None → (a ≡ false) × (b ≡ false)
parts true b x y z e = absurd (let bad : ⊥ = cc in bad)
parts false true x y z e = absurd (let bad : ⊥ = cc in bad)
parts false false x y z e = (refl, refl)

bounded : (n : ℕ) → nat_lt MOST_ROUTES n ≡ false → n ≤ MOST_ROUTES
bounded n e = grind (arith, nat_tests)

-- what isn't refused has few routes, and crowds nobody
pub unrefused : (rows : List Hold) (family : Family) (h : Hold) → refusal rows family h ≡ None → (length h.routes ≤ MOST_ROUTES) × (is_crowded rows h ≡ false)
unrefused rows family h e =
    let two = parts (nat_lt MOST_ROUTES (length h.routes)) (is_crowded rows h) _ _ _ e in
    (bounded (length h.routes) two.0, two.1)
