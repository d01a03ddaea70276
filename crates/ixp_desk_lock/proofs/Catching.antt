-- Installations of callers.
use Rattle.std.proofs.Common.{◌≡◌, ◌≢◌, ℕ, Option, Ok, Err, refl, ap, sym, ◌∙◌, subst}
use mathlib.Core.List.{IsPrefix}
use Rattle.ixp_board.specs.Histories.{IsLegal}
use Rattle.ixp_build.specs.declared.making.Made.{Made}
use Rattle.ixp_build.specs.declared.orders.Order.{Order}
use Rattle.ixp_build.specs.Orders.{HasBounds, made_from}
use Rattle.ixp_desk_history.specs.declared.turn.Event.{Event}
use Rattle.ixp_desk_history.specs.declared.turn.Event.TheVariants.{Install}
use Rattle.ixp_desk_history.specs.declared.turn.Turn.{Turn}
use Rattle.ixp_desk_history.specs.Legal.{Legal}
use Rattle.ixp_desk_history.specs.Turns.{built_after, state_of}
use Rattle.ixp_desk_lock.specs.declared.fault.TurnFault.{TurnFault}
use Rattle.ixp_desk_lock.specs.declared.fault.TurnFault.TheVariants as turn
use Rattle.ixp_desk_lock.specs.declared.installing.Put.TheVariants as put
use Rattle.ixp_desk_lock.specs.declared.installing.Taken.TheVariants as taken
use Rattle.ixp_desk_lock.specs.Calls.{Catches, FaultSays, Installs, InstallsOver, One, Own, Takes}
use Rattle.ixp_desk_lock.specs.Facts.{HasAccepted, HasBuilt, IsOrdered, Log, WasOrdered}
use Rattle.ixp_desk_lock.specs.Publishing.{Adds, Level}
use Rattle.ixp_desk_lock.specs.Sights.{Looks, Sight}
use Rattle.ixp_desk_lock.proofs.OwnTurns.{makes_none, own_added, own_at}
use Rattle.ixp_desk_lock.proofs.PublishLaws.{one_count}

-- why nothing was installed
pub catches_fault : (x : TurnFault) (s t : Sight) → FaultSays x s t → Catches (Err x) s t
catches_fault (turn.SeatCount a b) s t is = is
catches_fault (turn.Ended n) s t is = is
catches_fault turn.NoMemory s t is = is

-- the installation is the call's own turn
pub installs_own : (n : ℕ) (s u t : Sight) (w : Log × Option Turn) → Looks s u → Adds (One (λ v. v ≡ Install n)) u t → Level w t → Own (One (λ v. v ≡ Install n)) s t
installs_own n s u t w l a level = own_added (One (λ (v : Event). v ≡ Install n)) s u t w l a level

-- it stands after the history that the seat saw when it was level
pub installs_over : (from n : ℕ) (s u t : Sight) (v w : Log × Option Turn) → Looks s u → Level v u → HasBuilt v.0 from → Adds (One (λ x. x ≡ Install n)) u t → Level w t → InstallsOver from n s t
installs_over from n s u t v w l before built a level =
    let own = own_at (One (λ (x : Event). x ≡ Install n)) s u t w l a level in
    (own.0, subst (λ (x : Log). HasBuilt x from) (sym own.1) (subst (λ (x : Log). HasBuilt x from) (sym before.whole) built))

-- what is said of the history is said of what a level seat has seen
pub seen_too : (P : Log → Type 0) (w : Log × Option Turn) (t : Sight) → Level w t → P w.0 → P t.2
seen_too P w t level is = subst P (sym level.whole) is

pub catches_so : (n : ℕ) (s u t : Sight) (w : Log × Option Turn) → Looks s u → Adds (One (λ v. v ≡ Install n)) u t → Level w t → HasAccepted w.0 n → Catches (Ok n) s t
catches_so n s u t w l a level has = (installs_own n s u t w l a level, seen_too (λ (x : Log). HasAccepted x n) w t level has)

-- what was ordered at what the seat had seen was ordered at a beginning of the history
pub ordered_before : (m : Made) (s u : Sight) (w : Log × Option Turn) → Looks s u → Level w u → IsOrdered s.2 m → WasOrdered w.0 m
ordered_before m s u w l level is = (s.2, subst (λ (x : Log). IsPrefix s.2 x) level.whole l.2, is)

-- the present version is installed once more, where its texts are shown
pub nothing_so : (accepted built n : ℕ) (s u t : Sight) (v w : Log × Option Turn) → Looks s u → Level v u → HasAccepted v.0 accepted → HasBuilt v.0 built → built ≡ accepted → Adds (One (λ x. x ≡ Install n)) u t
    → Level w t → ((k : ℕ) → HasAccepted v.0 k → HasAccepted w.0 k) → HasAccepted w.0 n → IsLegal Legal t.2 → Takes (taken.Nothing n) s t
nothing_so accepted built n s u t v w l before has shown same a level goes its legal =
    let one = one_count w.0 legal.first legal.turns n accepted (sym level.whole ∙ legal.entries_are) its (goes accepted has) in
    (installs_over n n s u t v w l before (subst (HasBuilt v.0) (same ∙ sym one) shown) a level, seen_too (λ (x : Log). HasAccepted x n) w t level its)

-- an order is of another version than the one that is shown, where that isn't the present one
order_later : (log : Log) (o : Order) (built accepted : ℕ) → IsOrdered log (made_from o) → HasBuilt log built → HasAccepted log accepted → built ≢ accepted → o.from ≢ o.upto
order_later log o built accepted is shown has differ same =
    let from : o.from ≡ built_after is.first is.turns = ap (λ (m : Made). m.from) is.made.made in
    let upto : o.upto ≡ (state_of is.first is.turns).accepted = ap (λ (m : Made). m.upto) is.made.made in
    differ (sym (shown is.first is.turns is.is) ∙ (sym from ∙ (same ∙ (upto ∙ has is.first is.turns is.is))))

pub ordered_so : (accepted built : ℕ) (o : Order) (s t : Sight) (v : Log × Option Turn) → Looks s t → Level v t → HasAccepted v.0 accepted → HasBuilt v.0 built → built ≢ accepted → HasBounds o
    → IsOrdered v.0 (made_from o) → Takes (taken.Ordered o) s t
ordered_so accepted built o s t v l level has shown differ bounds is =
    (makes_none s t v l level, bounds, order_later v.0 o built accepted is shown has differ, seen_too (λ (x : Log). IsOrdered x (made_from o)) v t level is)

-- what an installation came to
pub built_so : (m : Made) (n current : ℕ) (s u t : Sight) (v w : Log × Option Turn) → Looks s u → Level v u → HasBuilt v.0 current → current ≡ m.from → n ≡ m.upto → Adds (One (λ x. x ≡ Install n)) u t → Level w t
    → Installs m (put.Built n) s t
built_so m n current s u t v w l before shown same upto a level = (upto, installs_over m.from n s u t v w l before (subst (HasBuilt v.0) same shown) a level)

pub late_so : (m : Made) (current : ℕ) (s t : Sight) (v : Log × Option Turn) → Looks s t → Level v t → HasBuilt v.0 current → current ≢ m.from → Installs m (put.Late current m.from) s t
late_so m current s t v l level shown differ = (makes_none s t v l level, refl, differ, seen_too (λ (x : Log). HasBuilt x current) v t level shown)
