-- Laws of grammars: what is read is of the grammar, and what is of the grammar is read.
use Rattle.std.proofs.Common.{◌≡◌, ℕ, zero, suc, ◌<◌, ◌≤◌, ◌⊎◌, inl, inr, Bool, true, false, not, ◌&&◌, ◌||◌, List, [], ◌∷◌, length, Option, Some, None, Result, Ok, Err, refl, sym, ap, ◌∙◌, arith, subst, if◌then◌else◌}
use Rattle.std.specs.Option.{is_some}
use Rattle.ixp_lang_tokens.specs.declared.token.Kind.{Kind}
use Rattle.ixp_lang_tokens.specs.declared.fault.Cause.{Cause}
use Rattle.ixp_lang_tokens.specs.declared.fault.Cause.TheVariants.{Unexpected}
use Rattle.ixp_lang_tokens.specs.Grammars.{Step, onward, done, Grammar, gives, takes, sequence, choice, rounds, checks, bars, unless, here, Rounds, Took}
use Rattle.ixp_lang_tokens.specs.Reading.{begins, Read, ◌>>=◌, stop, taken, stepped, read_rounds, checked, read}
use Rattle.ixp_lang_tokens.proofs.Parted.{Empty, Begins, Extends, Leads, Parted}

abbrev pub Is : {A : Type 0} → Read A → A → List Kind → Type 0
Is r v rest = r ≡ Ok (v, rest)

pub ok_is : {A B : Type 0} (x y : A) → ◌≡◌ {A = Result A B} (Ok x) (Ok y) → x ≡ y
ok_is x y e = cc

pub ok_value : {A : Type 0} (a b : A) (s t : List Kind) → Is (Ok (a, s)) b t → a ≡ b
ok_value {A} a b s t e = ap (λ (x : A × List Kind). x.0) (ok_is (a, s) (b, t) e)

pub ok_rest : {A : Type 0} (a b : A) (s t : List Kind) → Is (Ok (a, s)) b t → s ≡ t
ok_rest {A} a b s t e = ap (λ (x : A × List Kind). x.1) (ok_is (a, s) (b, t) e)

-- equal values and equal rests
pub is_same : {A : Type 0} (r : Read A) (a b : A) (s t : List Kind) → Is r a s → a ≡ b → s ≡ t → Is r b t
is_same r a b s t e p q = cc

pub bind_ok : {A B : Type 0} (r : Read A) (f : A × List Kind → Read B) (v : B) (rest : List Kind) → Is (r >>= f) v rest → (a : A) × (mid : List Kind) × Is r a mid × Is (f (a, mid)) v rest
bind_ok (Ok (a, mid)) f v rest e = (a, mid, refl, e)
bind_ok (Err x) f v rest e = absurd cc

step_sound : {S A : Type 0} (go : S → List Kind → Read A) (a : Step S A) (mid : List Kind) (v : A) (rest : List Kind) → Is (stepped go (a, mid)) v rest
    → ((a ≡ done v) × (mid ≡ rest)) ⊎ ((s : S) × (a ≡ onward s) × Is (go s mid) v rest)
step_sound go (onward s) mid v rest e = inr (s, refl, e)
step_sound go (done w) mid v rest e = inl (ap done (ok_value w v mid rest e), ok_rest w v mid rest e)

abbrev Again : {S A : Type 0} → (S → Grammar (Step S A)) → ℕ → Type 0
Again {S} {A} f n =
    (s : S) (ts : List Kind) (v : A) (rest : List Kind) → Is (read_rounds n (λ s ts. read (f s) ts) s ts) v rest → (m : ℕ) × Rounds (λ s. Took (f s)) m s v ts rest

rounds_sound : {S A : Type 0} (f : S → Grammar (Step S A)) → ((s : S) (ts : List Kind) (v : Step S A) (rest : List Kind) → Is (read (f s) ts) v rest → Took (f s) v ts rest)
    → (n : ℕ) (s : S) (ts : List Kind) (v : A) (rest : List Kind) → Is (read_rounds n (λ s ts. read (f s) ts) s ts) v rest → (m : ℕ) × Rounds (λ s. Took (f s)) m s v ts rest
rounds_sound {S} {A} f h zero s ts v rest e = by_step (bind_ok (read (f s) ts) _ v rest e)
  where
    by_end : (a : Step S A) (mid : List Kind) → Is (read (f s) ts) a mid → ((a ≡ done v) × (mid ≡ rest)) ⊎ ((t : S) × (a ≡ onward t) × Is (stop Unexpected mid) v rest) → (m : ℕ) × Rounds (λ s. Took (f s)) m s v ts rest
    by_end a mid p (inl (q, r)) = (zero, h s ts (done v) rest (is_same (read (f s) ts) a (done v) mid rest p q r))
    by_end a mid p (inr (t, q, r)) = absurd cc

    by_step : (a : Step S A) × (mid : List Kind) × Is (read (f s) ts) a mid × Is (stepped (λ s ts. stop Unexpected ts) (a, mid)) v rest → (m : ℕ) × Rounds (λ s. Took (f s)) m s v ts rest
    by_step (a, mid, p, q) = by_end a mid p (step_sound (λ s ts. stop Unexpected ts) a mid v rest q)
rounds_sound {S} {A} f h (suc n) s ts v rest e = by_step (bind_ok (read (f s) ts) _ v rest e) (rounds_sound f h n)
  where
    by_more : (a : Step S A) (mid : List Kind) (t : S) → Is (read (f s) ts) a mid → a ≡ onward t → (m : ℕ) × Rounds (λ s. Took (f s)) m t v mid rest → (m : ℕ) × Rounds (λ s. Took (f s)) m s v ts rest
    by_more a mid t p q (m, more) = (suc m, (t, mid, h s ts (onward t) mid (is_same (read (f s) ts) a (onward t) mid mid p q refl), more))

    by_end : (a : Step S A) (mid : List Kind) → Is (read (f s) ts) a mid → ((a ≡ done v) × (mid ≡ rest)) ⊎ ((t : S) × (a ≡ onward t) × Is (read_rounds n (λ s ts. read (f s) ts) t mid) v rest) → Again f n → (m : ℕ) × Rounds (λ s. Took (f s)) m s v ts rest
    by_end a mid p (inl (q, r)) again = (zero, h s ts (done v) rest (is_same (read (f s) ts) a (done v) mid rest p q r))
    by_end a mid p (inr (t, q, r)) again = by_more a mid t p q (again t mid v rest r)

    by_step : (a : Step S A) × (mid : List Kind) × Is (read (f s) ts) a mid × Is (stepped (read_rounds n (λ s ts. read (f s) ts)) (a, mid)) v rest → Again f n → (m : ℕ) × Rounds (λ s. Took (f s)) m s v ts rest
    by_step (a, mid, p, q) again = by_end a mid p (step_sound (read_rounds n (λ s ts. read (f s) ts)) a mid v rest q) again

abbrev pub Sound : {A : Type 0} → Grammar A → Type 0
Sound {A} f = (ts : List Kind) (v : A) (rest : List Kind) → Is (read f ts) v rest → Took f v ts rest

takes_sound : {A : Type 0} (o : Option A) (ts : List Kind) (v : A) (rest : List Kind) → Is (taken o ts) v rest → (o ≡ Some v) × (ts ≡ rest)
takes_sound (Some a) ts v rest p = (ap Some (ok_value a v ts rest p), ok_rest a v ts rest p)
takes_sound None ts v rest p = absurd cc

sequence_sound : {A B : Type 0} (f : Grammar B) (g : B → Grammar A) → Sound f → ((b : B) → Sound (g b)) → Sound (sequence f g)
sequence_sound {A} {B} f g hf hg ts v rest e = by_parts (bind_ok (read f ts) _ v rest e)
  where
    by_parts : (b : B) × (mid : List Kind) × Is (read f ts) b mid × Is (read (g b) mid) v rest → Took (sequence f g) v ts rest
    by_parts (b, mid, p, q) = (b, mid, hf ts b mid p, hg b mid v rest q)

choice_sound : {A : Type 0} (f g : Grammar A) → Sound f → Sound g → (b : Bool) (ts : List Kind) (v : A) (rest : List Kind) → Is (if b then read f ts else read g ts) v rest → Took f v ts rest ⊎ Took g v ts rest
choice_sound f g hf hg true ts v rest p = inl (hf ts v rest p)
choice_sound f g hf hg false ts v rest p = inr (hg ts v rest p)

bars_sound : {A : Type 0} (f : Grammar A) → Sound f → (b : Bool) (c : Cause) (ts : List Kind) (v : A) (rest : List Kind) → Is (if b then stop c ts else read f ts) v rest → (b ≡ false) × Took f v ts rest
bars_sound f hf true c ts v rest q = absurd cc
bars_sound f hf false c ts v rest q = (refl, hf ts v rest q)

-- what is read is of the grammar
pub sound : {A : Type 0} (f : Grammar A) → Sound f
sound (gives w) ts v rest e = (sym (ok_value w v ts rest e), ok_rest w v ts rest e)
sound (takes c) [] v rest e = absurd cc
sound (takes c) (k ∷ ts) v rest e = takes_sound (c k) ts v rest e
sound (sequence f g) ts v rest e = sequence_sound f g (sound f) (λ b. sound (g b)) ts v rest e
sound (choice f g) ts v rest e = choice_sound f g (sound f) (sound g) (begins f ts) ts v rest e
sound (rounds f s) ts v rest e = rounds_sound f (λ s. sound (f s)) (length ts) s ts v rest e
sound (checks None f) ts v rest e = (refl, sound f ts v rest e)
sound (checks (Some fault) f) ts v rest e = absurd cc
sound (bars p c f) ts v rest e = bars_sound f (sound f) (p ts) c ts v rest e
sound (unless p f) ts v rest e = bars_sound f (sound f) (p ts) Unexpected ts v rest e
sound (here f) ts v rest e = sound (f (length ts)) ts v rest e

-- Completeness.

-- a text begins with a token of the grammar, or is empty
abbrev pub Front : {A : Type 0} → Grammar A → A → List Kind → List Kind → Type 0
Front f v ts rest = Begins f ts ⊎ (Empty f v ts × (ts ≡ rest))

sequence_front : {A B : Type 0} (f : Grammar B) (g : B → Grammar A) (b : B) (v : A) (ts mid rest : List Kind) → Front f b ts mid → Front (g b) v mid rest → Front (sequence f g) v ts rest
sequence_front f g b v ts mid rest (inl begins) back = inl (inl begins)
sequence_front f g b v ts mid rest (inr (empty, same)) (inl begins) = inl (inr (b, empty, subst (λ x. Begins (g b) x) (sym same) begins))
sequence_front f g b v ts mid rest (inr (empty, same)) (inr (last, end)) = inr ((b, empty, subst (λ x. Empty (g b) v x) (sym same) last), same ∙ end)

rounds_front : {S A : Type 0} (f : S → Grammar (Step S A)) (h : (s : S) (v : Step S A) (ts rest : List Kind) → Took (f s) v ts rest → Front (f s) v ts rest)
    → ((t u : S) (ts : List Kind) → ¬ (Empty (f t) (onward u) ts)) → (n : ℕ) (s : S) (v : A) (ts rest : List Kind) → Rounds (λ s. Took (f s)) n s v ts rest → Front (rounds f s) v ts rest
rounds_front {S} {A} f h never zero s v ts rest took = by_front (h s (done v) ts rest took)
  where
    by_front : Front (f s) (done v) ts rest → Front (rounds f s) v ts rest
    by_front (inl begins) = inl begins
    by_front (inr (empty, same)) = inr (empty, same)
rounds_front {S} {A} f h never (suc n) s v ts rest (t, mid, took, more) = by_front (h s (onward t) ts mid took)
  where
    by_front : Front (f s) (onward t) ts mid → Front (rounds f s) v ts rest
    by_front (inl begins) = inl begins
    by_front (inr (empty, same)) = absurd (never s t ts empty)

pub front : {A : Type 0} (f : Grammar A) → Parted f → (v : A) (ts rest : List Kind) → Took f v ts rest → Front f v ts rest
front (gives w) parted v ts rest took = inr took
front (takes c) parted v [] rest took = absurd took
front (takes c) parted v (k ∷ ts) rest (is, same) = inl (ap is_some is)
front (sequence f g) (pf, pg, apart) v ts rest (b, mid, p, q) = sequence_front f g b v ts mid rest (front f pf b ts mid p) (front (g b) (pg b) v mid rest q)
front (choice f g) (leads, pf, pg, apart) v ts rest (inl p) = choice_left (front f pf v ts rest p)
  where
    choice_left : Front f v ts rest → Front (choice f g) v ts rest
    choice_left (inl begins) = inl (inl begins)
    choice_left (inr (empty, same)) = inr (inl empty, same)
front (choice f g) (leads, pf, pg, apart) v ts rest (inr p) = choice_right (front g pg v ts rest p)
  where
    choice_right : Front g v ts rest → Front (choice f g) v ts rest
    choice_right (inl begins) = inl (inr begins)
    choice_right (inr (empty, same)) = inr (inr empty, same)
front (rounds f s) (parted, never, apart) v ts rest (n, took) = rounds_front f (λ s. front (f s) (parted s)) never n s v ts rest took
front (checks o f) parted v ts rest (holds, took) = front f parted v ts rest took
front (bars p c f) parted v ts rest (free, took) = by_front (front f parted v ts rest took)
  where
    by_front : Front f v ts rest → Front (bars p c f) v ts rest
    by_front (inl begins) = inl (free, begins)
    by_front (inr (empty, same)) = inr (empty, same)
front (unless p f) parted v ts rest (free, took) = by_front (front f parted v ts rest took)
  where
    by_front : Front f v ts rest → Front (unless p f) v ts rest
    by_front (inl begins) = inl (free, begins)
    by_front (inr (empty, same)) = inr ((free, empty), same)
front (here f) parted v ts rest took = by_front (front (f (length ts)) (parted (length ts)) v ts rest took)
  where
    by_front : Front (f (length ts)) v ts rest → Front (here f) v ts rest
    by_front (inl begins) = inl begins
    by_front (inr (empty, same)) = inr (empty, same)

-- what leads takes a token
pub leads_full : {A : Type 0} (f : Grammar A) → Leads f → (v : A) (ts : List Kind) → ¬ (Empty f v ts)
leads_full (gives w) leads v ts empty = leads
leads_full (takes c) leads v ts empty = empty
leads_full (sequence f g) leads v ts (b, empty, more) = leads_full f leads b ts empty
leads_full (choice f g) (lf, lg) v ts (inl empty) = leads_full f lf v ts empty
leads_full (choice f g) (lf, lg) v ts (inr empty) = leads_full g lg v ts empty
leads_full (rounds f s) leads v ts empty = leads_full (f s) leads (done v) ts empty
leads_full (checks o f) leads v ts empty = leads_full f leads v ts empty
leads_full (bars p c f) leads v ts empty = leads_full f leads v ts empty
leads_full (unless p f) leads v ts (free, empty) = leads_full f leads v ts empty
leads_full (here f) leads v ts empty = leads_full (f (length ts)) (leads (length ts)) v ts empty

or_left : (a b : Bool) → a ≡ true → (a || b) ≡ true
or_left true b e = refl
or_left false b e = absurd cc

or_right : (a b : Bool) → b ≡ true → (a || b) ≡ true
or_right true b e = refl
or_right false b e = e

and_both : (a b : Bool) → a ≡ false → b ≡ true → (not a && b) ≡ true
and_both false b e h = h
and_both true b e h = absurd cc

pub leads_begins : {A : Type 0} (f : Grammar A) → Leads f → (ts : List Kind) → Begins f ts → begins f ts ≡ true
leads_begins (gives w) leads ts begins = absurd leads
leads_begins (takes c) leads [] begins = absurd begins
leads_begins (takes c) leads (k ∷ ts) begins = begins
leads_begins (sequence f g) leads ts (inl begins) = leads_begins f leads ts begins
leads_begins (sequence f g) leads ts (inr (b, empty, more)) = absurd (leads_full f leads b ts empty)
leads_begins (choice f g) (lf, lg) ts (inl front) = or_left (begins f ts) (begins g ts) (leads_begins f lf ts front)
leads_begins (choice f g) (lf, lg) ts (inr front) = or_right (begins f ts) (begins g ts) (leads_begins g lg ts front)
leads_begins (rounds f s) leads ts begins = leads_begins (f s) leads ts begins
leads_begins (checks o f) leads ts begins = leads_begins f leads ts begins
leads_begins (bars p c f) leads ts (free, front) = or_right (p ts) (begins f ts) (leads_begins f leads ts front)
leads_begins (unless p f) leads ts (free, front) = and_both (p ts) (begins f ts) free (leads_begins f leads ts front)
leads_begins (here f) leads ts begins = leads_begins (f (length ts)) (leads (length ts)) ts begins

-- fewer tokens are left, or none was taken
abbrev pub Shrinks : {A : Type 0} → Grammar A → A → List Kind → List Kind → Type 0
Shrinks f v ts rest = (length rest < length ts) ⊎ (Empty f v ts × (ts ≡ rest))

sequence_shrinks : {A B : Type 0} (f : Grammar B) (g : B → Grammar A) (b : B) (v : A) (ts mid rest : List Kind) → Shrinks f b ts mid → Shrinks (g b) v mid rest → Shrinks (sequence f g) v ts rest
sequence_shrinks f g b v ts mid rest (inl less) (inl more) = inl (omega arith)
sequence_shrinks f g b v ts mid rest (inl less) (inr (empty, same)) = inl (subst (λ x. length x < length ts) same less)
sequence_shrinks f g b v ts mid rest (inr (empty, same)) (inl more) = inl (subst (λ x. length rest < length x) (sym same) more)
sequence_shrinks f g b v ts mid rest (inr (empty, same)) (inr (last, end)) = inr ((b, empty, subst (λ x. Empty (g b) v x) (sym same) last), same ∙ end)

rounds_shrinks : {S A : Type 0} (f : S → Grammar (Step S A)) (h : (s : S) (v : Step S A) (ts rest : List Kind) → Took (f s) v ts rest → Shrinks (f s) v ts rest)
    → ((t u : S) (ts : List Kind) → ¬ (Empty (f t) (onward u) ts)) → (n : ℕ) (s : S) (v : A) (ts rest : List Kind) → Rounds (λ s. Took (f s)) n s v ts rest → Shrinks (rounds f s) v ts rest
rounds_shrinks {S} {A} f h never zero s v ts rest took = by_shrinks (h s (done v) ts rest took)
  where
    by_shrinks : Shrinks (f s) (done v) ts rest → Shrinks (rounds f s) v ts rest
    by_shrinks (inl less) = inl less
    by_shrinks (inr (empty, same)) = inr (empty, same)
rounds_shrinks {S} {A} f h never (suc n) s v ts rest (t, mid, took, more) = by_shrinks (h s (onward t) ts mid took) (rounds_shrinks f h never n t v mid rest more)
  where
    by_shrinks : Shrinks (f s) (onward t) ts mid → Shrinks (rounds f t) v mid rest → Shrinks (rounds f s) v ts rest
    by_shrinks (inr (empty, same)) back = absurd (never s t ts empty)
    by_shrinks (inl less) (inl fewer) = inl (omega arith)
    by_shrinks (inl less) (inr (empty, same)) = inl (subst (λ x. length x < length ts) same less)

pub shrinks : {A : Type 0} (f : Grammar A) → Parted f → (v : A) (ts rest : List Kind) → Took f v ts rest → Shrinks f v ts rest
shrinks (gives w) parted v ts rest (is, same) = inr (is, same)
shrinks (takes c) parted v [] rest took = absurd took
shrinks (takes c) parted v (k ∷ ts) rest (is, same) = inl (subst (λ r. length r < length (k ∷ ts)) same (omega arith))
shrinks (sequence f g) (pf, pg, apart) v ts rest (b, mid, p, q) = sequence_shrinks f g b v ts mid rest (shrinks f pf b ts mid p) (shrinks (g b) (pg b) v mid rest q)
shrinks (choice f g) (leads, pf, pg, apart) v ts rest (inl p) = by_left (shrinks f pf v ts rest p)
  where
    by_left : Shrinks f v ts rest → Shrinks (choice f g) v ts rest
    by_left (inl less) = inl less
    by_left (inr (empty, same)) = inr (inl empty, same)
shrinks (choice f g) (leads, pf, pg, apart) v ts rest (inr p) = by_right (shrinks g pg v ts rest p)
  where
    by_right : Shrinks g v ts rest → Shrinks (choice f g) v ts rest
    by_right (inl less) = inl less
    by_right (inr (empty, same)) = inr (inr empty, same)
shrinks (rounds f s) (parted, never, apart) v ts rest (n, took) = rounds_shrinks f (λ s. shrinks (f s) (parted s)) never n s v ts rest took
shrinks (checks o f) parted v ts rest (holds, took) = shrinks f parted v ts rest took
shrinks (bars p c f) parted v ts rest (free, took) = shrinks f parted v ts rest took
shrinks (unless p f) parted v ts rest (free, took) = by_free (shrinks f parted v ts rest took)
  where
    by_free : Shrinks f v ts rest → Shrinks (unless p f) v ts rest
    by_free (inl less) = inl less
    by_free (inr (empty, same)) = inr ((free, empty), same)
shrinks (here f) parted v ts rest took = by_here (shrinks (f (length ts)) (parted (length ts)) v ts rest took)
  where
    by_here : Shrinks (f (length ts)) v ts rest → Shrinks (here f) v ts rest
    by_here (inl less) = inl less
    by_here (inr (empty, same)) = inr (empty, same)

abbrev pub Complete : {A : Type 0} → Grammar A → Type 0
Complete {A} f = (v : A) (ts rest : List Kind) → Took f v ts rest → ¬ (Extends f v rest) → Is (read f ts) v rest

bind_is : {A B : Type 0} (r : Read A) (f : A × List Kind → Read B) (a : A) (mid : List Kind) (v : B) (rest : List Kind) → Is r a mid → Is (f (a, mid)) v rest → Is (r >>= f) v rest
bind_is r f a mid v rest e h = ap (λ x. x >>= f) e ∙ h

sequence_complete : {A B : Type 0} (f : Grammar B) (g : B → Grammar A) → Parted (sequence f g) → Complete f → ((b : B) → Complete (g b)) → Complete (sequence f g)
sequence_complete {A} {B} f g (pf, pg, apart) hf hg v ts rest (b, mid, p, q) ends = by_front (front (g b) (pg b) v mid rest q)
  where
    last : Is (read (g b) mid) v rest
    last = hg b v mid rest q (λ x. ends (b, inl x))

    by_front : Front (g b) v mid rest → Is (read (sequence f g) ts) v rest
    by_front (inl begins) = bind_is (read f ts) _ b mid v rest (hf b ts mid p (apart b mid begins)) last
    by_front (inr (empty, same)) = bind_is (read f ts) _ b mid v rest (hf b ts mid p (λ x. ends (b, inr (subst (λ r. Empty (g b) v r) same empty, subst (λ r. Extends f b r) same x)))) last

if_true : {A : Type 0} (b : Bool) (x y : A) → b ≡ true → (if b then x else y) ≡ x
if_true true x y e = refl
if_true false x y e = absurd cc

if_false : {A : Type 0} (b : Bool) (x y : A) → b ≡ false → (if b then x else y) ≡ y
if_false false x y e = refl
if_false true x y e = absurd cc

not_true : (b : Bool) → ¬ (b ≡ true) → b ≡ false
not_true true h = absurd (h refl)
not_true false h = refl

choice_complete : {A : Type 0} (f g : Grammar A) → Parted (choice f g) → Complete f → Complete g → Complete (choice f g)
choice_complete {A} f g (leads, pf, pg, apart) hf hg v ts rest (inl p) ends = by_front (front f pf v ts rest p)
  where
    by_front : Front f v ts rest → Is (read (choice f g) ts) v rest
    by_front (inl start) = if_true (begins f ts) (read f ts) (read g ts) (leads_begins f leads ts start) ∙ hf v ts rest p (λ x. ends (inl x))
    by_front (inr (empty, same)) = absurd (leads_full f leads v ts empty)
choice_complete {A} f g (leads, pf, pg, apart) hf hg v ts rest (inr p) ends = by_front (front g pg v ts rest p)
  where
    read_right : ¬ (begins f ts ≡ true) → Is (read (choice f g) ts) v rest
    read_right never = if_false (begins f ts) (read f ts) (read g ts) (not_true (begins f ts) never) ∙ hg v ts rest p (λ x. ends (inr (inl x)))

    by_front : Front g v ts rest → Is (read (choice f g) ts) v rest
    by_front (inl start) = read_right (λ e. apart ts e start)
    by_front (inr (empty, same)) = read_right (λ e. ends (inr (inr (subst (λ r. Empty g v r) same empty, subst (λ r. begins f r ≡ true) same e))))

rounds_complete : {S A : Type 0} (f : S → Grammar (Step S A)) → ((s : S) → Parted (f s)) → ((t u : S) (ts : List Kind) → ¬ (Empty (f t) (onward u) ts))
    → ((t u : S) (rest : List Kind) → Begins (f u) rest → ¬ (Extends (f t) (onward u) rest)) → ((s : S) → Complete (f s))
    → (n k : ℕ) (s : S) (v : A) (ts rest : List Kind) → Rounds (λ s. Took (f s)) n s v ts rest → length ts ≤ k → ¬ (Extends (rounds f s) v rest) → Is (read_rounds k (λ s ts. read (f s) ts) s ts) v rest
rounds_complete {S} {A} f parted never apart h zero k s v ts rest took fits ends = by_fuel k
  where
    by_fuel : (k : ℕ) → Is (read_rounds k (λ s ts. read (f s) ts) s ts) v rest
    by_fuel zero = bind_is (read (f s) ts) _ (done v) rest v rest (h s (done v) ts rest took (λ x. ends (s, inl x))) refl
    by_fuel (suc k) = bind_is (read (f s) ts) _ (done v) rest v rest (h s (done v) ts rest took (λ x. ends (s, inl x))) refl
rounds_complete {S} {A} f parted never apart h (suc n) zero s v ts rest (t, mid, took, more) fits ends = by_shrinks (shrinks (f s) (parted s) (onward t) ts mid took)
  where
    by_shrinks : Shrinks (f s) (onward t) ts mid → Is (read_rounds zero (λ s ts. read (f s) ts) s ts) v rest
    by_shrinks (inl less) = absurd (omega arith)
    by_shrinks (inr (empty, same)) = absurd (never s t ts empty)
rounds_complete {S} {A} f parted never apart h (suc n) (suc k) s v ts rest (t, mid, took, more) fits ends =
    bind_is (read (f s) ts) _ (onward t) mid v rest (h s (onward t) ts mid took (by_front (rounds_front f (λ s. front (f s) (parted s)) never n t v mid rest more)))
    (rounds_complete f parted never apart h n k t v mid rest more (by_shrinks (shrinks (f s) (parted s) (onward t) ts mid took)) (λ x. ends x))
  where
    by_front : Front (rounds f t) v mid rest → ¬ (Extends (f s) (onward t) mid)
    by_front (inl begins) = apart s t mid begins
    by_front (inr (empty, same)) = λ x. ends (s, inr (t, subst (λ r. Empty (f t) (done v) r) same empty, subst (λ r. Extends (f s) (onward t) r) same x))

    by_shrinks : Shrinks (f s) (onward t) ts mid → length mid ≤ k
    by_shrinks (inl less) = omega arith
    by_shrinks (inr (empty, same)) = absurd (never s t ts empty)

takes_complete : {A : Type 0} (o : Option A) (v : A) (ts rest : List Kind) → o ≡ Some v → ts ≡ rest → Is (taken o ts) v rest
takes_complete o v ts rest is same = ap (λ x. taken x ts) is ∙ ap (λ r. Ok (v, r)) same

-- what is of the grammar is read, where the tokens behind it don't go on with it
pub complete : {A : Type 0} (f : Grammar A) → Parted f → Complete f
complete (gives w) parted v ts rest (is, same) ends = is_same (read (gives w) ts) w v ts rest refl (sym is) same
complete (takes c) parted v [] rest took ends = absurd took
complete (takes c) parted v (k ∷ ts) rest (is, same) ends = takes_complete (c k) v ts rest is same
complete (sequence f g) parted v ts rest took ends = sequence_complete f g parted (complete f parted.0) (λ b. complete (g b) (parted.1 b)) v ts rest took ends
complete (choice f g) parted v ts rest took ends = choice_complete f g parted (complete f parted.1) (complete g parted.2) v ts rest took ends
complete (rounds f s) (parted, never, apart) v ts rest (n, took) ends =
    rounds_complete f parted never apart (λ s. complete (f s) (parted s)) n (length ts) s v ts rest took (omega arith) ends
complete (checks o f) parted v ts rest (holds, took) ends = ap (λ fault. checked fault (read f ts)) holds ∙ complete f parted v ts rest took ends
complete (bars p c f) parted v ts rest (free, took) ends = if_false (p ts) (stop c ts) (read f ts) free ∙ complete f parted v ts rest took ends
complete (unless p f) parted v ts rest (free, took) ends = if_false (p ts) (stop Unexpected ts) (read f ts) free ∙ complete f parted v ts rest took ends
complete (here f) parted v ts rest took ends = complete (f (length ts)) (parted (length ts)) v ts rest took (λ x. ends (length ts, x))

-- Tokens are of the grammar in one way, where what is behind goes on with none of the two.
pub one_reading : {A : Type 0} (f : Grammar A) → Parted f → (v w : A) (ts r s : List Kind) → Took f v ts r → Took f w ts s → ¬ (Extends f v r) → ¬ (Extends f w s) → (v ≡ w) × (r ≡ s)
one_reading f parted v w ts r s p q behind after =
    let same = sym (complete f parted v ts r p behind) ∙ complete f parted w ts s q after in
    (ok_value v w r s same, ok_rest v w r s same)
