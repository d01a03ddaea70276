-- Where syntax stops a reading, no fine text goes on: what is fine is read or refused, and a reading depends on the tokens up
-- to its place alone.
use Rattle.std.proofs.Common.{◌≡◌, ℕ, zero, suc, pred, ◌<◌, ◌≤◌, ◌⊎◌, inl, inr, Bool, true, false, not, ◌&&◌, ◌||◌, List, [], ◌∷◌, length, Option, Some, None, refl, ap, ◌∙◌, arith, subst, if◌then◌else◌}
use Rattle.std.specs.Option.{is_some}
use Rattle.ixp_lang_tokens.specs.declared.token.Kind.{Kind}
use Rattle.ixp_lang_tokens.specs.declared.fault.Cause.{Cause}
use Rattle.ixp_lang_tokens.specs.declared.fault.Cause.TheVariants.{Unexpected}
use Rattle.ixp_lang_tokens.specs.Grammars.{Step, onward, done, Grammar, gives, takes, sequence, choice, rounds, checks, bars, unless, here}
use Rattle.ixp_lang_tokens.specs.Syntax.{Spot, spot, FineRounds, Fine, Halt, Scan, said, halted, stopped, refused, and_then, begins_at, scanned, stepping, scan_rounds, unless_refused, scan}
use Rattle.ixp_lang_tokens.proofs.Parted.{Leads}
use Rattle.ixp_lang_tokens.proofs.Fronts.{or_left, or_right, or_elim}
use Rattle.ixp_lang_tokens.proofs.Clear.{MayEmpty, MayOpen, GoesOn, ClearBy}
use Rattle.ixp_lang_tokens.proofs.Fines.{Front, front}
use Rattle.ixp_lang_tokens.proofs.Sizes.{fewer}

pub stops_same : (A : Type 0) (c d : Cause) (r s : List Kind) → ◌≡◌ {A = Scan A} (stopped c r) (stopped d s) → (c ≡ d) × (r ≡ s)
stops_same A c d r s e = (cc, cc)

pub halts_same : (A : Type 0) (c d : Halt) (r s : List Kind) → ◌≡◌ {A = Scan A} (halted c r) (halted d s) → (c ≡ d) × (r ≡ s)
halts_same A c d r s e = (cc, cc)

-- What is said is fine.

pub then_said : {A B : Type 0} (s : Scan A) (g : A → Spot → Scan B) (v : B) (y : Spot) → and_then s g ≡ said v y → (a : A) × (z : Spot) × (s ≡ said a z) × (g a z ≡ said v y)
then_said (said a z) g v y e = (a, z, refl, e)
then_said (halted c r) g v y e = absurd cc

stepping_said : {S A : Type 0} (go : S → Spot → Scan A) (a : Step S A) (z : Spot) (v : A) (y : Spot) → stepping go a z ≡ said v y → ((a ≡ done v) × (z ≡ y)) ⊎ ((t : S) × (a ≡ onward t) × (go t z ≡ said v y))
stepping_said go (onward t) z v y e = inr (t, refl, e)
stepping_said go (done w) z v y e = inl (cc, cc)

abbrev pub SaysFine : {A : Type 0} → Grammar A → Type 0
SaysFine {A} f = (x : Spot) (v : A) (y : Spot) → scan f x ≡ said v y → Fine f v x y

moved_fine : {A : Type 0} (f : Grammar A) (a v : A) (x z y : Spot) → Fine f a x z → a ≡ v → z ≡ y → Fine f v x y
moved_fine f a v x z y fine e same = subst (λ w. Fine f w x y) e (subst (λ (w : Spot). Fine f a x w) same fine)

rounds_said : {S A : Type 0} (f : S → Grammar (Step S A)) → ((s : S) → SaysFine (f s)) → (n : ℕ) (s : S) (x : Spot) (v : A) (y : Spot)
    → scan_rounds n (λ t z. scan (f t) z) s x ≡ said v y → (m : ℕ) × FineRounds (λ t. Fine (f t)) m s v x y
rounds_said {S} {A} f h zero s x v y e = by_step (then_said (scan (f s) x) _ v y e)
  where
    by_end : (a : Step S A) (z : Spot) → scan (f s) x ≡ said a z → ((a ≡ done v) × (z ≡ y)) ⊎ ((t : S) × (a ≡ onward t) × (stopped Unexpected z.1 ≡ said v y)) → (m : ℕ) × FineRounds (λ t. Fine (f t)) m s v x y
    by_end a z p (inl (q, r)) = (zero, moved_fine (f s) a (done v) x z y (h s x a z p) q r)
    by_end a z p (inr (t, q, r)) = absurd cc

    by_step : (a : Step S A) × (z : Spot) × (scan (f s) x ≡ said a z) × (stepping (λ t w. stopped Unexpected w.1) a z ≡ said v y) → (m : ℕ) × FineRounds (λ t. Fine (f t)) m s v x y
    by_step (a, z, p, q) = by_end a z p (stepping_said (λ t w. stopped Unexpected w.1) a z v y q)
rounds_said {S} {A} f h (suc n) s x v y e = by_step (then_said (scan (f s) x) _ v y e) (rounds_said f h n)
  where
    by_more : (a : Step S A) (z : Spot) (t : S) → scan (f s) x ≡ said a z → a ≡ onward t → (m : ℕ) × FineRounds (λ t. Fine (f t)) m t v z y → (m : ℕ) × FineRounds (λ t. Fine (f t)) m s v x y
    by_more a z t p q (m, more) = (suc m, (t, z, moved_fine (f s) a (onward t) x z z (h s x a z p) q refl, more))

    by_end : (a : Step S A) (z : Spot) → scan (f s) x ≡ said a z → ((a ≡ done v) × (z ≡ y)) ⊎ ((t : S) × (a ≡ onward t) × (scan_rounds n (λ t z. scan (f t) z) t z ≡ said v y))
        → ((t : S) (z : Spot) (v : A) (y : Spot) → scan_rounds n (λ t z. scan (f t) z) t z ≡ said v y → (m : ℕ) × FineRounds (λ t. Fine (f t)) m t v z y) → (m : ℕ) × FineRounds (λ t. Fine (f t)) m s v x y
    by_end a z p (inl (q, r)) again = (zero, moved_fine (f s) a (done v) x z y (h s x a z p) q r)
    by_end a z p (inr (t, q, r)) again = by_more a z t p q (again t z v y r)

    by_step : (a : Step S A) × (z : Spot) × (scan (f s) x ≡ said a z) × (stepping (scan_rounds n (λ t z. scan (f t) z)) a z ≡ said v y)
        → ((t : S) (z : Spot) (v : A) (y : Spot) → scan_rounds n (λ t z. scan (f t) z) t z ≡ said v y → (m : ℕ) × FineRounds (λ t. Fine (f t)) m t v z y) → (m : ℕ) × FineRounds (λ t. Fine (f t)) m s v x y
    by_step (a, z, p, q) again = by_end a z p (stepping_said (scan_rounds n (λ t z. scan (f t) z)) a z v y q) again

scanned_said : {A : Type 0} (o : Option A) (p : ℕ) (k : Kind) (ts : List Kind) (v : A) (y : Spot) → scanned o p k ts ≡ said v y → (o ≡ Some v) × (spot (pred p) ts ≡ y)
scanned_said (Some w) p k ts v y e = (cc, cc)
scanned_said None p k ts v y e = absurd cc

choice_said : {A : Type 0} (f g : Grammar A) → SaysFine f → SaysFine g → (b : Bool) (x : Spot) (v : A) (y : Spot) → (if b then scan f x else scan g x) ≡ said v y → Fine f v x y ⊎ Fine g v x y
choice_said f g hf hg true x v y e = inl (hf x v y e)
choice_said f g hf hg false x v y e = inr (hg x v y e)

test_said : {A : Type 0} (f : Grammar A) → SaysFine f → (b : Bool) (c : Cause) (ts : List Kind) (x : Spot) (v : A) (y : Spot) → (if b then stopped c ts else scan f x) ≡ said v y → (b ≡ false) × Fine f v x y
test_said f h true c ts x v y e = absurd cc
test_said f h false c ts x v y e = (refl, h x v y e)

pub said_fine : {A : Type 0} (f : Grammar A) → SaysFine f
said_fine (gives w) x v y e = (cc, cc)
said_fine (takes c) (p, []) v y e = absurd cc
said_fine (takes c) (p, k ∷ ts) v y e = scanned_said (c k) p k ts v y e
said_fine (sequence {A = B} f g) x v y e = by_parts (said_fine f) (λ b. said_fine (g b)) (then_said (scan f x) _ v y e)
  where
    by_parts : SaysFine f → ((b : B) → SaysFine (g b)) → (b : B) × (z : Spot) × (scan f x ≡ said b z) × (scan (g b) z ≡ said v y) → Fine (sequence f g) v x y
    by_parts hf hg (b, z, p, q) = (b, z, hf x b z p, hg b z v y q)
said_fine (choice f g) x v y e = choice_said f g (said_fine f) (said_fine g) (begins_at f x) x v y e
said_fine (rounds f s) x v y e = rounds_said f (λ t. said_fine (f t)) (length x.1) s x v y e
said_fine (checks None f) x v y e = said_fine f x v y e
said_fine (checks (Some fault) f) x v y e = absurd cc
said_fine (bars t c f) x v y e = test_said f (said_fine f) (t x.1) c x.1 x v y e
said_fine (unless t f) x v y e = test_said f (said_fine f) (t x.1) Unexpected x.1 x v y e
said_fine (here f) x v y e = said_fine (f x.0) x v y e

-- What is fine is said or refused.

abbrev pub IsRead : {A : Type 0} → Scan A → A → Spot → Type 0
IsRead s v y = (s ≡ said v y) ⊎ ((rest : List Kind) × (s ≡ refused rest))

abbrev pub ReadsFine : {A : Type 0} → Grammar A → Type 0
ReadsFine {A} f = (v : A) (x y : Spot) → Fine f v x y → ¬ (GoesOn f v y.1) → IsRead (scan f x) v y

then_read : {A B : Type 0} (s : Scan A) (g : A → Spot → Scan B) (a : A) (z : Spot) (v : B) (y : Spot) → IsRead s a z → IsRead (g a z) v y → IsRead (and_then s g) v y
then_read s g a z v y (inl e) (inl h) = inl (ap (λ x. and_then x g) e ∙ h)
then_read s g a z v y (inl e) (inr (rest, h)) = inr (rest, ap (λ x. and_then x g) e ∙ h)
then_read s g a z v y (inr (rest, e)) h = inr (rest, ap (λ x. and_then x g) e)

and_both : (a b : Bool) → a ≡ false → b ≡ true → (not a && b) ≡ true
and_both false b e h = h
and_both true b e h = absurd cc

pub fine_begins : {A : Type 0} (f : Grammar A) → Leads f → (v : A) (x y : Spot) → Fine f v x y → begins_at f x ≡ true
fine_begins (gives w) leads v x y fine = absurd leads
fine_begins (takes c) leads v (p, []) y fine = absurd fine
fine_begins (takes c) leads v (p, k ∷ ts) y (is, same) = ap is_some is
fine_begins (sequence f g) leads v x y (b, z, one, two) = fine_begins f leads b x z one
fine_begins (choice f g) (lf, lg) v x y (inl fine) = or_left (begins_at f x) (begins_at g x) (fine_begins f lf v x y fine)
fine_begins (choice f g) (lf, lg) v x y (inr fine) = or_right (begins_at f x) (begins_at g x) (fine_begins g lg v x y fine)
fine_begins (rounds f s) leads v x y (zero, fine) = fine_begins (f s) leads (done v) x y fine
fine_begins (rounds f s) leads v x y (suc n, (t, z, fine, more)) = fine_begins (f s) leads (onward t) x z fine
fine_begins (checks o f) leads v x y fine = fine_begins f leads v x y fine
fine_begins (bars t c f) leads v x y (free, fine) = or_right (t x.1) (begins_at f x) (fine_begins f leads v x y fine)
fine_begins (unless t f) leads v x y (free, fine) = and_both (t x.1) (begins_at f x) free (fine_begins f leads v x y fine)
fine_begins (here f) leads v x y fine = fine_begins (f x.0) (leads x.0) v x y fine

not_and : (a b : Bool) → (not a && b) ≡ true → (a ≡ false) × (b ≡ true)
not_and false b e = (refl, e)
not_and true b e = absurd cc

pub opens : {A : Type 0} (f : Grammar A) (x : Spot) → begins_at f x ≡ true → MayOpen f x.1
opens (gives w) x e = absurd cc
opens (takes c) (p, []) e = absurd cc
opens (takes c) (p, k ∷ ts) e = e
opens (sequence f g) x e = opens f x e
opens (choice f g) x e = or_elim (begins_at f x) (begins_at g x) e (λ h. inl (opens f x h)) (λ h. inr (opens g x h))
opens (rounds f s) x e = opens (f s) x e
opens (checks o f) x e = opens f x e
opens (bars t c f) x e = or_elim (t x.1) (begins_at f x) e (λ h. inl h) (λ h. inr (opens f x h))
opens (unless t f) x e = let both = not_and (t x.1) (begins_at f x) e in (both.0, opens f x both.1)
opens (here f) x e = (x.0, opens (f x.0) x e)

pub if_true : {A : Type 0} (b : Bool) (s t : A) → b ≡ true → (if b then s else t) ≡ s
if_true true s t e = refl
if_true false s t e = absurd cc

pub if_false : {A : Type 0} (b : Bool) (s t : A) → b ≡ false → (if b then s else t) ≡ t
if_false false s t e = refl
if_false true s t e = absurd cc

pub not_true : (b : Bool) → ¬ (b ≡ true) → b ≡ false
not_true true h = absurd (h refl)
not_true false h = refl

is_read : {A : Type 0} (s t : Scan A) (v : A) (y : Spot) → s ≡ t → IsRead t v y → IsRead s v y
is_read s t v y e (inl h) = inl (e ∙ h)
is_read s t v y e (inr (rest, h)) = inr (rest, e ∙ h)

-- what is behind the first part, or behind all, doesn't go on with it
pub first_ends : (T : (List Kind → Bool) → Type 0) {A B : Type 0} (f : Grammar B) (g : B → Grammar A) → ClearBy T (sequence f g) → (b : B) (v : A) (z y : Spot) → Fine (g b) v z y → ¬ (GoesOn (sequence f g) v y.1) → ¬ (GoesOn f b z.1)
first_ends T f g (cf, cg, apart) b v z y two ends = by_front (front T (g b) (cg b) v z y two)
  where
    by_front : Front (g b) v z y → ¬ (GoesOn f b z.1)
    by_front (inl begins) = apart b z.1 begins
    by_front (inr (empty, same)) = λ p. ends (b, inr (subst (λ (w : Spot). MayEmpty (g b) v w.1) same empty, subst (λ (w : Spot). GoesOn f b w.1) same p))

sequence_reads : (T : (List Kind → Bool) → Type 0) {A B : Type 0} (f : Grammar B) (g : B → Grammar A) → ClearBy T (sequence f g) → ReadsFine f → ((b : B) → ReadsFine (g b)) → ReadsFine (sequence f g)
sequence_reads T f g clear hf hg v x y (b, z, one, two) ends = then_read (scan f x) _ b z v y (hf b x z one (first_ends T f g clear b v z y two ends)) (hg b v z y two (λ p. ends (b, inl p)))

-- the first alternative isn't begun where the other stands
pub other_begins : (T : (List Kind → Bool) → Type 0) {A : Type 0} (f g : Grammar A) → ClearBy T (choice f g) → (v : A) (x y : Spot) → Fine g v x y → ¬ (GoesOn (choice f g) v y.1) → begins_at f x ≡ false
other_begins T f g (leads, cf, cg, apart) v x y fine ends = not_true (begins_at f x) (λ e. by_front e (front T g cg v x y fine))
  where
    by_front : begins_at f x ≡ true → Front g v x y → ⊥
    by_front e (inl begins) = apart x.1 (opens f x e) begins
    by_front e (inr (empty, same)) = ends (inr (inr (subst (λ (w : Spot). MayEmpty g v w.1) same empty, subst (λ (w : Spot). MayOpen f w.1) same (opens f x e))))

choice_reads : (T : (List Kind → Bool) → Type 0) {A : Type 0} (f g : Grammar A) → ClearBy T (choice f g) → ReadsFine f → ReadsFine g → ReadsFine (choice f g)
choice_reads T f g clear hf hg v x y (inl fine) ends = is_read _ (scan f x) v y (if_true (begins_at f x) (scan f x) (scan g x) (fine_begins f clear.0 v x y fine)) (hf v x y fine (λ p. ends (inl p)))
choice_reads T f g clear hf hg v x y (inr fine) ends =
    is_read _ (scan g x) v y (if_false (begins_at f x) (scan f x) (scan g x) (other_begins T f g clear v x y fine ends)) (hg v x y fine (λ p. ends (inr (inl p))))

rounds_front : (T : (List Kind → Bool) → Type 0) {S A : Type 0} (f : S → Grammar (Step S A)) (s : S) → ClearBy T (rounds f s) → (n : ℕ) (v : A) (x y : Spot) → FineRounds (λ t. Fine (f t)) n s v x y → Front (rounds f s) v x y
rounds_front T f s clear n v x y fine = front T (rounds f s) clear v x y (n, fine)

-- nor do the rounds behind one
pub round_ends : (T : (List Kind → Bool) → Type 0) {S A : Type 0} (f : S → Grammar (Step S A)) → ((s : S) → ClearBy T (rounds f s)) → (n : ℕ) (s t : S) (v : A) (z y : Spot) → FineRounds (λ t. Fine (f t)) n t v z y
    → ¬ (GoesOn (rounds f s) v y.1) → ¬ (GoesOn (f s) (onward t) z.1)
round_ends T f clear n s t v z y more ends = by_front (rounds_front T f t (clear t) n v z y more)
  where
    by_front : Front (rounds f t) v z y → ¬ (GoesOn (f s) (onward t) z.1)
    by_front (inl begins) = (clear s).2 s t z.1 begins
    by_front (inr (empty, same)) = λ p. ends (s, inr (t, subst (λ (w : Spot). MayEmpty (f t) (done v) w.1) same empty, subst (λ (w : Spot). GoesOn (f s) (onward t) w.1) same p))

rounds_reads : (T : (List Kind → Bool) → Type 0) {S A : Type 0} (f : S → Grammar (Step S A)) → ((s : S) → ClearBy T (rounds f s)) → ((s : S) → ReadsFine (f s)) → (n k : ℕ) (s : S) (v : A) (x y : Spot)
    → FineRounds (λ t. Fine (f t)) n s v x y → length x.1 ≤ k → ¬ (GoesOn (rounds f s) v y.1) → IsRead (scan_rounds k (λ t z. scan (f t) z) s x) v y
rounds_reads T f clear h zero zero s v x y fine fits ends = then_read (scan (f s) x) _ (done v) y v y (h s (done v) x y fine (λ p. ends (s, inl p))) (inl refl)
rounds_reads T f clear h zero (suc k) s v x y fine fits ends = then_read (scan (f s) x) _ (done v) y v y (h s (done v) x y fine (λ p. ends (s, inl p))) (inl refl)
rounds_reads T f clear h (suc n) zero s v x y (t, z, fine, more) fits ends =
    let less : length z.1 < length x.1 = fewer T (f s) ((clear s).0 s) (onward t) x z fine ((clear s).1 s t) in
    absurd (omega arith)
rounds_reads T f clear h (suc n) (suc k) s v x y (t, z, fine, more) fits ends =
    let less : length z.1 < length x.1 = fewer T (f s) ((clear s).0 s) (onward t) x z fine ((clear s).1 s t) in
    let fits_less : length z.1 ≤ k = omega arith in
    then_read (scan (f s) x) _ (onward t) z v y (h s (onward t) x z fine (round_ends T f clear n s t v z y more ends)) (rounds_reads T f clear h n k t v z y more fits_less (λ p. ends p))

checks_reads : {A : Type 0} (f : Grammar A) (o : Option (Cause × ℕ)) (v : A) (x y : Spot) → IsRead (scan f x) v y → IsRead (unless_refused o x.1 (scan f x)) v y
checks_reads f None v x y h = h
checks_reads f (Some fault) v x y h = inr (x.1, refl)

pub takes_reads : {A : Type 0} (o : Option A) (p : ℕ) (k : Kind) (ts : List Kind) (v : A) (y : Spot) → o ≡ Some v → spot (pred p) ts ≡ y → scanned o p k ts ≡ said v y
takes_reads o p k ts v y is same = ap (λ x. scanned x p k ts) is ∙ ap (said v) same

pub gives_reads : {A : Type 0} (w v : A) (x y : Spot) → v ≡ w → x ≡ y → said w x ≡ said v y
gives_reads w v x y is same = cc

-- what is fine is said or refused, where nothing that is behind it goes on with it
pub reads_fine : (T : (List Kind → Bool) → Type 0) {A : Type 0} (f : Grammar A) → ClearBy T f → ReadsFine f
reads_fine T (gives w) clear v x y (is, same) ends = inl (gives_reads w v x y is same)
reads_fine T (takes c) clear v (p, []) y fine ends = absurd fine
reads_fine T (takes c) clear v (p, k ∷ ts) y (is, same) ends = inl (takes_reads (c k) p k ts v y is same)
reads_fine T (sequence f g) clear v x y fine ends = sequence_reads T f g clear (reads_fine T f clear.0) (λ b. reads_fine T (g b) (clear.1 b)) v x y fine ends
reads_fine T (choice f g) clear v x y fine ends = choice_reads T f g clear (reads_fine T f clear.1) (reads_fine T g clear.2) v x y fine ends
reads_fine T (rounds f s) clear v x y (n, fine) ends = rounds_reads T f (λ t. clear) (λ t. reads_fine T (f t) (clear.0 t)) n (length x.1) s v x y fine (omega arith) ends
reads_fine T (checks o f) clear v x y fine ends = checks_reads f o v x y (reads_fine T f clear v x y fine ends)
reads_fine T (bars t c f) (first, cf) v x y (free, fine) ends = is_read _ (scan f x) v y (if_false (t x.1) (stopped c x.1) (scan f x) free) (reads_fine T f cf v x y fine ends)
reads_fine T (unless t f) (first, cf) v x y (free, fine) ends = is_read _ (scan f x) v y (if_false (t x.1) (stopped Unexpected x.1) (scan f x) free) (reads_fine T f cf v x y fine ends)
reads_fine T (here f) clear v x y fine ends = reads_fine T (f x.0) (clear x.0) v x y fine (λ p. ends (x.0, p))

-- Where none of its tokens is next, nothing is taken.

-- nothing is checked before the first token
abbrev pub Leading : {A : Type 0} → Grammar A → Type 0
Leading (gives w) = ⊥
Leading (takes c) = Unit {0}
Leading (sequence f g) = Leading f
Leading (choice f g) = Leading f × Leading g
Leading (rounds f s) = Leading (f s)
Leading (checks o f) = ⊥
Leading (bars t c f) = Leading f
Leading (unless t f) = Leading f
Leading (here f) = (n : ℕ) → Leading (f n)

neither : (a b : Bool) → (a || b) ≡ false → (a ≡ false) × (b ≡ false)
neither false b e = (refl, e)
neither true b e = absurd cc

first_stops : {A B : Type 0} (s : Scan B) (g : B → Spot → Scan A) (rest : List Kind) → s ≡ stopped Unexpected rest → and_then s g ≡ stopped Unexpected rest
first_stops s g rest e = ap (λ x. and_then x g) e

round_stops : {S A : Type 0} (n : ℕ) (round : S → Spot → Scan (Step S A)) (s : S) (x : Spot) → round s x ≡ stopped Unexpected x.1 → scan_rounds n round s x ≡ stopped Unexpected x.1
round_stops zero round s x e = first_stops (round s x) _ x.1 e
round_stops (suc n) round s x e = first_stops (round s x) _ x.1 e

if_out : {A : Type 0} (b : Bool) (s : Scan A) (rest : List Kind) → (b ≡ false → s ≡ stopped Unexpected rest) → (if b then stopped Unexpected rest else s) ≡ stopped Unexpected rest
if_out true s rest h = refl
if_out false s rest h = h refl

only_if : (a b : Bool) → (not a && b) ≡ false → a ≡ false → b ≡ false
only_if false b e h = e
only_if true b e h = absurd cc

pub not_begun : {A : Type 0} (f : Grammar A) → Leading f → (x : Spot) → begins_at f x ≡ false → scan f x ≡ stopped Unexpected x.1
not_begun (gives w) leading x e = absurd leading
not_begun (takes c) leading (p, []) e = refl
not_begun (takes c) leading (p, k ∷ ts) e = by_token c (c k) p k ts e
  where
    by_token : {A : Type 0} (c : Kind → Option A) (o : Option A) (p : ℕ) (k : Kind) (ts : List Kind) → is_some o ≡ false → scanned o p k ts ≡ stopped Unexpected (k ∷ ts)
    by_token c (Some v) p k ts e = absurd cc
    by_token c None p k ts e = refl
not_begun (sequence f g) leading x e = first_stops (scan f x) _ x.1 (not_begun f leading x e)
not_begun (choice f g) (lf, lg) x e = let both = neither (begins_at f x) (begins_at g x) e in if_false (begins_at f x) (scan f x) (scan g x) both.0 ∙ not_begun g lg x both.1
not_begun (rounds f s) leading x e = round_stops (length x.1) _ s x (not_begun (f s) leading x e)
not_begun (checks o f) leading x e = absurd leading
not_begun (bars t c f) leading x e = let both = neither (t x.1) (begins_at f x) e in if_false (t x.1) (stopped c x.1) (scan f x) both.0 ∙ not_begun f leading x both.1
not_begun (unless t f) leading x e = if_out (t x.1) (scan f x) x.1 (λ free. not_begun f leading x (only_if (t x.1) (begins_at f x) e free))
not_begun (here f) leading x e = not_begun (f x.0) (leading x.0) x e
