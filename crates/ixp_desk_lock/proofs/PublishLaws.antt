-- Configurations that are handed out.
use Rattle.std.proofs.Common.{◌≡◌, ◌≤◌, ◌<◌, ◌-◌, ◌^◌, ℕ, suc, Bool, true, false, List, [], ◌∷◌, ◌++◌, length, map, option_map, nat_lt, Option, Some, None, Result, Ok, Err, IfOk, OnOk, refl, ap, sym, ◌∙◌, subst, arith, if◌then◌else◌}
use Rattle.std.proofs.lemmas.List.{append-nil}
use Rattle.std.specs.List.{AllByRecursion}
use Rattle.std.specs.declared.alloc.AllocError.{AllocError}
use mathlib.Core.List.{IsPrefix}
use Rattle.ixp_num_tables.specs.Tables.{find, if_there}
use Rattle.ixp_num_tables.proofs.Looking.{all_found}
use Rattle.ixp_print.specs.Texts.{config_text}
use Rattle.ixp_registry.specs.declared.members.Owner.{Owner}
use Rattle.ixp_registry.specs.declared.registry.Registry.{Registry}
use Rattle.ixp_registry.specs.declared.router.Router.{Router}
use Rattle.ixp_registry.specs.Keys.{router_key}
use Rattle.ixp_registry.specs.Words.{owner_numbers}
use Rattle.ixp_machine_steps.specs.declared.kept.KeptNumber.{KeptNumber}
use Rattle.ixp_machine_steps.specs.declared.kept.KeptOwner.{KeptOwner}
use Rattle.ixp_machine_steps.specs.declared.state.State.{State}
use Rattle.ixp_machine_steps.specs.Kept.{kept_key, kept_of, kept_owner_key, ValidKept}
use Rattle.ixp_machine_steps.specs.States.{ValidState}
use Rattle.ixp_machine.specs.Decisions.{place_of}
use Rattle.ixp_compile.specs.Generated.{generated}
use Rattle.ixp_board.specs.Histories.{entries, IsLegal, IsViewOf}
use Rattle.ixp_board.proofs.Beginnings.{begins_through}
use Rattle.ixp_build.specs.declared.making.Made.{Made}
use Rattle.ixp_build.specs.Bundles.{built_of, text_of}
use Rattle.ixp_build.proofs.AfterEdits.{full}
use Rattle.ixp_desk_history.specs.declared.turn.Answered.TheVariants.{Place}
use Rattle.ixp_desk_history.specs.declared.turn.Asked.TheVariants.{Seen}
use Rattle.ixp_desk_history.specs.declared.turn.Event.{Event}
use Rattle.ixp_desk_history.specs.declared.turn.Event.TheVariants.{Install}
use Rattle.ixp_desk_history.specs.declared.turn.First.{First}
use Rattle.ixp_desk_history.specs.declared.turn.Shown.{Shown}
use Rattle.ixp_desk_history.specs.declared.turn.Text.{Text}
use Rattle.ixp_desk_history.specs.declared.turn.Turn.{Turn}
use Rattle.ixp_desk_history.specs.Legal.{Legal}
use Rattle.ixp_desk_history.specs.Turns.{built_after, entries_of, shown_after, state_of, IsVersion}
use Rattle.ixp_desk_history.proofs.ShownRight.{shown_right, version_valid}
use Rattle.ixp_desk_history.proofs.Steady.{counts_rise}
use Rattle.ixp_desk_history.proofs.Versions.{state_both}
use Rattle.ixp_desk_lock.specs.declared.fault.PubFault.{PubFault}
use Rattle.ixp_desk_lock.specs.declared.fault.PubFault.TheVariants as pub_fault
use Rattle.ixp_desk_lock.specs.declared.fault.TurnFault.{TurnFault}
use Rattle.ixp_desk_lock.specs.declared.fault.TurnFault.TheVariants as turn
use Rattle.ixp_desk_lock.specs.Calls.{FaultSays, One, turned}
use Rattle.ixp_desk_lock.specs.Facts.{HasAccepted, HasBuilt, IsOrdered, IsQuestion, IsStateAt, Log}
use Rattle.ixp_desk_lock.specs.Published.{Brings, IsBuilt, IsInstall, IsLow, PlaceSays, Places, PubSays, Publishes, Reads, ReadsAt, SamePub, greater}
use Rattle.ixp_desk_lock.specs.Publishing.{Adds, Both, Level}
use Rattle.ixp_desk_lock.specs.Sights.{Looks, Sight}
use Rattle.ixp_desk_lock.proofs.Installs.{prefix_turns}
use Rattle.ixp_desk_lock.proofs.OwnTurns.{own_added}
use Rattle.ixp_desk_lock.proofs.Owing.{log_is}
use Rattle.ixp_desk_lock.proofs.Pubs.{both_added}

-- What is read of what is shown.

module _ (log : Log) (v : Shown) (h : List ℕ) (view : IsViewOf Legal shown_after log v) (need : ℕ) (late : need ≤ built_after view.first view.turns) where
  built_at : built_of v.bundle ≡ built_after view.first view.turns
  built_at = ap (λ (w : Shown). built_of w.bundle) view.view_is ∙ (shown_right view.first view.turns view.legal_turns).built

  -- the text of one version, or none where that has no such router
  read_of : (r : Registry) → IsVersion view.first view.turns (built_after view.first view.turns) r → v.bundle.roas ≡ r.public.roas → (o : Option Router) → find router_key h r.routers ≡ o
      → (x : Option Text) → text_of v.bundle h ≡ option_map (λ q. config_text (generated r q)) o → Reads v h x → ReadsAt log need h x
  read_of r version roas None there None whole reads = record {
    first = view.first;
    turns = view.turns;
    is = view.entries_are;
    legal = view.legal_turns;
    registry = r;
    count = built_after view.first view.turns;
    version = version;
    must = late;
    none = there;
  }
  read_of r version roas (Some q) there None whole reads = absurd (let bad : ⊥ = cc (whole, reads) in bad)
  read_of r version roas None there (Some t) whole reads = absurd (let told = reads.0 in let bad : ⊥ = cc (whole, told) in bad)
  read_of r version roas (Some q) there (Some t) whole reads =
      let told = reads.0 in
      let same : t.bytes ≡ config_text (generated r q) = cc (whole, told) in
      let built : t.built ≡ built_after view.first view.turns = reads.1 ∙ built_at in
      record {
        first = view.first;
        turns = view.turns;
        is = view.entries_are;
        legal = view.legal_turns;
        registry = r;
        version = subst (λ k. IsVersion view.first view.turns k r) (sym built) version;
        must = subst (λ k. need ≤ k) (sym built) late;
        router = q;
        is_there = there;
        bytes = same;
        roas = reads.2 ∙ roas;
      }

  read_now : (x : Option Text) → Reads v h x → ReadsAt log need h x
  read_now x reads =
      let right = shown_right view.first view.turns view.legal_turns in
      let r = right.texts.0 in
      let whole = subst (λ (w : Shown). text_of w.bundle h ≡ option_map (λ q. config_text (generated r q)) (find router_key h r.routers)) (sym view.view_is)
      (full (shown_after view.first view.turns).bundle r h (version_valid view.first view.turns (built_after view.first view.turns) r view.legal_turns right.texts.1) right.texts.2) in
      read_of r right.texts.1 (ap (λ (w : Shown). w.bundle.roas) view.view_is ∙ right.texts.2.roas refl) (find router_key h r.routers) refl x whole reads

pub shown_if : (v : Log × Option Turn) (log : Log) (owed : Option Turn) (old : Shown) (h : List ℕ) (r : Result (Option Text) AllocError) → ◌≡◌ {A = Log × Option Turn} (log, owed) v
    → IsViewOf Legal shown_after log old → IfOk r (Reads old h) → IfOk r (λ o. (need : ℕ) → IsBuilt need v.0 → ReadsAt v.0 need h o)
shown_if v log owed old h (Ok o) view shown reads = λ need late.
    let here = log_is v log owed view in
    subst (λ (l : Log). ReadsAt l need h o) (sym here) (read_now log old h shown need (late shown.first shown.turns (here ∙ shown.entries_are)) o reads)
shown_if v log owed old h (Err fault) view shown reads = tt

-- a count of accepted edits is one
pub one_count : (log : Log) (f : First) (ts : List Turn) (m n : ℕ) → log ≡ entries f ts → HasAccepted log m → HasAccepted log n → m ≡ n
one_count log f ts m n is one two = sym (one f ts is) ∙ two f ts is

pub one_built : (log : Log) (f : First) (ts : List Turn) (m n : ℕ) → log ≡ entries f ts → HasBuilt log m → HasBuilt log n → m ≡ n
one_built log f ts m n is one two = sym (one f ts is) ∙ two f ts is

-- the text of the present version, once it is installed
pub text_if : (old now : Log) (m : Made) (v : Shown) (h : List ℕ) (r : Result (Option Text) AllocError) → IsOrdered old m → HasAccepted old m.upto → IsViewOf Legal shown_after now v → HasBuilt now m.upto
    → IfOk r (Reads v h) → IfOk r (λ o. (need : ℕ) → IsLow old need → ReadsAt now need h o)
text_if old now m v h (Ok o) ordered upto view built reads = λ need low.
    let same = one_count old ordered.first ordered.turns low.0 m.upto ordered.is low.1 upto in
    let at = built view.first view.turns view.entries_are in
    let few = low.2 in
    read_now now v h view need (omega (arith, same, at, few)) o reads
text_if old now m v h (Err fault) ordered upto view built reads = tt

-- Places.

kept_places : (s : State) (owner : Owner) → ValidState s → AllByRecursion (λ k. k.place ≤ s.accepted) (kept_of s.kept owner).numbers
kept_places s owner valid = by_row (find kept_owner_key (owner_numbers owner) s.kept) refl where
  by_row : (o : Option KeptOwner) → find kept_owner_key (owner_numbers owner) s.kept ≡ o
      → AllByRecursion (λ k. k.place ≤ s.accepted) (if_there o (record { owner = owner; floor = 0; numbers = [] }) (λ (x : KeptOwner). x)).numbers
  by_row None e = tt
  by_row (Some o) e = (all_found kept_owner_key (ValidKept s.accepted) (owner_numbers owner) o s.kept valid.each e).places

-- an edit's place is no greater than the number of accepted edits
pub place_low : (s : State) (owner : Owner) (n place : ℕ) → ValidState s → place_of s owner n ≡ Some place → place ≤ s.accepted
place_low s owner n place valid is = by_kept (find kept_key (n ∷ []) (kept_of s.kept owner).numbers) refl is where
  by_floor : (b : Bool) → (if b then Some s.accepted else None) ≡ Some place → place ≤ s.accepted
  by_floor true e = let same : s.accepted ≡ place = cc in omega (arith, same)
  by_floor false e = absurd (let bad : ⊥ = cc in bad)

  by_kept : (o : Option KeptNumber) → find kept_key (n ∷ []) (kept_of s.kept owner).numbers ≡ o
      → if_there o (if nat_lt n (kept_of s.kept owner).floor then Some s.accepted else None) (λ k. Some k.place) ≡ Some place → place ≤ s.accepted
  by_kept None e same = by_floor (nat_lt n (kept_of s.kept owner).floor) same
  by_kept (Some k) e same =
      let its : k.place ≡ place = cc in
      let low = all_found kept_key (λ k. k.place ≤ s.accepted) (n ∷ []) k (kept_of s.kept owner).numbers (kept_places s owner valid) e in
      omega (arith, its, low)

-- no turn was added
pub adds_none : (Does : List Event → Type 0) (s : Sight) → Does [] → Adds Does s s
adds_none Does s does = record {
  turns = [];
  now = sym (append-nil s.2);
  mine = tt;
  number = refl;
  count = omega arith;
  does = does;
}

pub adds_as : (One Two : List Event → Type 0) (s t : Sight) → ((vs : List Event) → One vs → Two vs) → Adds One s t → Adds Two s t
adds_as One Two s t f a = record { turns = a.turns; now = a.now; mine = a.mine; number = a.number; count = a.count; does = f (map (λ (x : Turn). x.event) a.turns) a.does }

one_as : (P Q : Event → Type 0) (vs : List Event) → ((v : Event) → P v → Q v) → One P vs → One Q vs
one_as P Q [] f is = is
one_as P Q (v ∷ []) f is = f v is
one_as P Q (v ∷ w ∷ vs) f is = is

pub installs_one : (n : ℕ) (vs : List Event) → One (λ v. v ≡ Install n) vs → One IsInstall vs
installs_one n vs is = one_as (λ v. v ≡ Install n) IsInstall vs (λ v e. (n, e)) is

-- Bringing texts up.

brings_none : (log : Log) (need built : ℕ) → IsLegal Legal log → HasBuilt log built → need ≤ built → Brings log need []
brings_none log need built legal has late = record {
  older = λ other its low. absurd (let same = one_built log legal.first legal.turns built other legal.entries_are has its in omega (arith, same, late, low));
  newer = λ other its high. refl;
}

brings_one : (log : Log) (need built : ℕ) → IsLegal Legal log → HasBuilt log built → built < need → (vs : List Event) → One IsInstall vs → Brings log need vs
brings_one log need built legal has early vs is = record {
  older = λ other its low. is;
  newer = λ other its high. absurd (let same = one_built log legal.first legal.turns built other legal.entries_are has its in omega (arith, same, early, high));
}

-- the texts were brought up by an installation
pub brings_if : (r : Result (Option Text) AllocError) (log : Log) (need built : ℕ) (s t : Sight) → IsLegal Legal log → HasBuilt log built → built < need → OnOk r (Adds (One IsInstall) s t)
    → OnOk r (Adds (Brings log need) s t)
brings_if (Ok o) log need built s t legal has early a = adds_as (One IsInstall) (Brings log need) s t (brings_one log need built legal has early) a
brings_if (Err fault) log need built s t legal has early a = tt

pub brings_not : (r : Result (Option Text) AllocError) (log : Log) (need built : ℕ) (s : Sight) → IsLegal Legal log → HasBuilt log built → need ≤ built → OnOk r (Adds (Brings log need) s s)
brings_not (Ok o) log need built s legal has late = adds_none (Brings log need) s (brings_none log need built legal has late)
brings_not (Err fault) log need built s legal has late = tt

-- what is shown has what must be contained
pub reads_if : (r : Result (Option Text) AllocError) (log : Log) (need built : ℕ) (h : List ℕ) → IfOk r (λ o. (n : ℕ) → IsBuilt n log → ReadsAt log n h o) → HasBuilt log built → need ≤ built
    → IfOk r (ReadsAt log need h)
reads_if (Ok o) log need built h reads has late = reads need (λ f ts is. subst (λ k. need ≤ k) (sym (has f ts is)) late)
reads_if (Err fault) log need built h reads has late = tt

-- so has what is installed
pub brought_if : (r : Result (Option Text) AllocError) (old now : Log) (need : ℕ) (h : List ℕ) → IfOk r (λ o. (n : ℕ) → IsLow old n → ReadsAt now n h o) → IsLow old need → IfOk r (ReadsAt now need h)
brought_if (Ok o) old now need h reads low = reads need low
brought_if (Err fault) old now need h reads low = tt

-- a count that is no greater than that of the state
pub low_of : (log : Log) (s : State) (n : ℕ) → IsStateAt log s → n ≤ s.accepted → IsLow log n
low_of log s n at low = (s.accepted, λ f ts is. ap (λ (x : State). x.accepted) (sym (at f ts is)), low)

pub low_later : (old new : Log) (n : ℕ) → IsLow old n → ((k : ℕ) → HasAccepted old k → HasAccepted new k) → IsLow new n
low_later old new n low goes = (low.0, goes low.0 low.1, low.2)

-- What the whole call did.

-- the edits that were seen are among those of the history
pub must_low : (seen log : Log) (must m : ℕ) → IsLegal Legal seen → IsLegal Legal log → IsPrefix seen log → HasAccepted seen must → HasAccepted log m → must ≤ m
must_low seen log must m one two p has its =
    let parts = prefix_turns one.first two.first one.turns two.turns (subst (λ l. IsPrefix l (entries two.first two.turns)) one.entries_are (subst (λ l. IsPrefix seen l) two.entries_are p)) in
    let first = has one.first one.turns one.entries_are in
    let last = its two.first two.turns two.entries_are in
    let whole : state_of two.first two.turns ≡ state_of two.first (one.turns ++ parts.1.0) = ap (state_of two.first) (sym parts.1.1) in
    let rises : (state_of two.first one.turns).accepted ≤ (state_of two.first two.turns).accepted
    = subst (λ (s : State). (state_of two.first one.turns).accepted ≤ s.accepted) (sym (whole ∙ state_both two.first one.turns parts.1.0))
    (counts_rise (state_of two.first one.turns) (entries_of parts.1.0)) in
    let same : (state_of one.first one.turns).accepted ≡ (state_of two.first one.turns).accepted = ap (λ (f : First). (state_of f one.turns).accepted) parts.0 in
    omega (arith, first, last, rises, same)

pub need_low : (seen log : Log) (must place : ℕ) → IsLegal Legal seen → IsLegal Legal log → IsPrefix seen log → IsLow seen must → IsLow log place → IsLow log (greater must place)
need_low seen log must place one two p has low =
    let few = must_low seen log has.0 low.0 one two p has.1 low.1 in
    let least = has.2 in
    let more = low.2 in
    by_less (nat_lt must place) (omega (arith, few, least)) more where
      by_less : (b : Bool) → must ≤ low.0 → place ≤ low.0 → IsLow log (if b then place else must)
      by_less true few more = (low.0, low.1, more)
      by_less false few more = (low.0, low.1, few)

pub published_so : (owner : Owner) (must place : ℕ) (seen : Option ℕ) (h : List ℕ) (o : Option Text) (s u w t : Sight) (at : Log × Option Turn) (last : Log × Option Turn) → Looks s u → Adds (Places owner seen place) u w
    → Level at w → Adds (Brings at.0 (greater must place)) w t → Level last t → ReadsAt last.0 (greater must place) h o → Publishes owner must seen h o s t
published_so owner must place seen h o s u w t at last l one here two level read = record {
  place = place;
  at = at.0;
  begins = subst (λ (x : Log). IsPrefix x t.2) here.whole (_, sym two.now);
  turns = own_added (Both (Places owner seen place) (Brings at.0 (greater must place))) s u t last l
      (both_added (Places owner seen place) (Brings at.0 (greater must place)) u w t one two) level;
  read = subst (λ (x : Log). ReadsAt x (greater must place) h o) (sym level.whole) read;
}

length_map : (ts : List Turn) → length (map (λ (x : Turn). x.event) ts) ≡ length ts
length_map [] = refl
length_map (t ∷ ts) = ap suc (length_map ts)

few_one : (P : Event → Type 0) (vs : List Event) → One P vs → length vs ≤ 1
few_one P [] is = absurd is
few_one P (v ∷ []) is = omega arith
few_one P (v ∷ w ∷ vs) is = absurd is

few_places : (owner : Owner) (seen : Option ℕ) (place : ℕ) (vs : List Event) → Places owner seen place vs → length vs ≤ 1
few_places owner None place vs is = let none = ap length is.0 in omega (arith, none)
few_places owner (Some n) place vs is = few_one (IsQuestion (Seen owner n) (Place (Some place))) vs is

-- there is room for one turn more after the one that asks after the edit
pub room_after : (owner : Owner) (seen : Option ℕ) (place : ℕ) (u w : Sight) → u.1 < 2 ^ 64 - 2 → Adds (Places owner seen place) u w → w.1 < 2 ^ 64 - 1
room_after owner seen place u w room a =
    let count = a.count in
    let few = few_places owner seen place (map (λ (x : Turn). x.event) a.turns) a.does in
    let long = length_map a.turns in
    omega (arith, room, count, few, long)

-- what must be contained is no more than what was accepted
pub need_now : (owner : Owner) (seen : Option ℕ) (must place : ℕ) (s u w : Sight) (at : Log × Option Turn) → IsLegal Legal s.2 → IsLow s.2 must → Looks s u → Adds (Places owner seen place) u w → Level at w
    → IsLegal Legal w.2 → IsLow at.0 place → IsLow at.0 (greater must place)
need_now owner seen must place s u w at legal has l a level now low =
    let begins : IsPrefix s.2 w.2 = begins_through s.2 u.2 w.2 l.2 (turned a.turns, sym a.now) in
    need_low s.2 at.0 must place legal (subst (IsLegal Legal) level.whole now) (subst (λ (x : Log). IsPrefix s.2 x) level.whole begins) has low

-- Faults.

pub turn_fault : (owner : Owner) (seen : Option ℕ) (x : TurnFault) (y : PubFault) (s t : Sight) → SamePub x y → FaultSays x s t → PubSays owner seen y s t
turn_fault owner seen (turn.SeatCount a b) y s t same is = subst (λ z. PubSays owner seen z s t) (sym same) is
turn_fault owner seen (turn.Ended n) y s t same is = subst (λ z. PubSays owner seen z s t) (sym same) is
turn_fault owner seen turn.NoMemory y s t same is = subst (λ z. PubSays owner seen z s t) (sym same) (omega (arith, is), omega (arith, is))

pub place_fault : (owner : Owner) (seen : Option ℕ) (y : PubFault) (s u t : Sight) (w : Log × Option Turn) → Looks s u → PlaceSays owner seen y u t → Level w t → PubSays owner seen y s t
place_fault owner seen (pub_fault.SeenUnknown n) s u t w l is level = (is.0, own_added (One (IsQuestion (Seen owner n) (Place None))) s u t w l is.1 level)
place_fault owner seen pub_fault.NoMemory s u t w l is level =
    let same = ap (λ (z : Sight). z.1) is ∙ l.1 in (omega (arith, same), omega (arith, same))
place_fault owner seen (pub_fault.Refused x) s u t w l is level = absurd is
place_fault owner seen pub_fault.NoRouter s u t w l is level = absurd is
place_fault owner seen (pub_fault.SeatCount a b) s u t w l is level = absurd is
place_fault owner seen (pub_fault.Ended n) s u t w l is level = absurd is

-- a seat has seen no less where the edit isn't found
pub place_seen : (owner : Owner) (seen : Option ℕ) (y : PubFault) (s u w : Sight) → Looks s u → PlaceSays owner seen y u w → IsPrefix s.2 w.2
place_seen owner seen (pub_fault.SeenUnknown n) s u w l is = begins_through s.2 u.2 w.2 l.2 (turned is.1.turns, sym is.1.now)
place_seen owner seen pub_fault.NoMemory s u w l is = subst (λ (x : Sight). IsPrefix s.2 x.2) (sym is) l.2
place_seen owner seen (pub_fault.Refused x) s u w l is = absurd is
place_seen owner seen pub_fault.NoRouter s u w l is = absurd is
place_seen owner seen (pub_fault.SeatCount a b) s u w l is = absurd is
place_seen owner seen (pub_fault.Ended n) s u w l is = absurd is

-- at most the turn that asks after the edit was made
pub at_most_one : (owner : Owner) (seen : Option ℕ) (place : ℕ) (y : PubFault) (s u w t : Sight) → y ≡ pub_fault.NoMemory → Looks s u → Adds (Places owner seen place) u w → t ≡ w → PubSays owner seen y s t
at_most_one owner seen place y s u w t none l a same =
    let one = l.1 in
    let two = a.count in
    let few = few_places owner seen place (map (λ (x : Turn). x.event) a.turns) a.does in
    let long = length_map a.turns in
    let three = ap (λ (z : Sight). z.1) same in
    subst (λ z. PubSays owner seen z s t) (sym none) (omega (arith, one, two, few, long, three), omega (arith, one, two, few, long, three))
