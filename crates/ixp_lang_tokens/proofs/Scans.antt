-- The reading by what ends it, and the reading, agree; and what is of a grammar is fine.
use Rattle.std.proofs.Common.{◌≡◌, ℕ, zero, suc, ◌⊎◌, inl, inr, Bool, true, false, not, ◌&&◌, ◌||◌, List, [], ◌∷◌, length, Option, Some, None, Ok, Err, refl, sym, ap, ◌∙◌, subst, if◌then◌else◌}
use Rattle.ixp_lang_tokens.specs.declared.token.Kind.{Kind}
use Rattle.ixp_lang_tokens.specs.declared.fault.Cause.{Cause}
use Rattle.ixp_lang_tokens.specs.declared.fault.Cause.TheVariants.{Unexpected}
use Rattle.ixp_lang_tokens.specs.Grammars.{Step, onward, done, Grammar, gives, takes, sequence, choice, rounds, checks, bars, unless, here, Rounds, Took}
use Rattle.ixp_lang_tokens.specs.Reading.{begins, Read, ◌>>=◌, stop, taken, stepped, read_rounds, checked, read}
use Rattle.ixp_lang_tokens.specs.Syntax.{Spot, spot, FineRounds, Fine, Scan, said, stopped, refused, and_then, begins_at, scanned, stepping, scan_rounds, unless_refused, scan}

-- what is said is said, and a fault is a stop at its place or a refusal
abbrev pub Agrees : {A : Type 0} → Read A → Scan A → Type 0
Agrees (Ok a) s = s ≡ said a.0 (spot (length a.1) a.1)
Agrees (Err fault) s = ((rest : List Kind) × (s ≡ stopped fault.0 rest) × (fault.1 ≡ length rest)) ⊎ ((rest : List Kind) × (s ≡ refused rest))

begins_same : {A : Type 0} (f : Grammar A) (ts : List Kind) → begins_at f (spot (length ts) ts) ≡ begins f ts
begins_same (gives v) ts = refl
begins_same (takes c) [] = refl
begins_same (takes c) (k ∷ ts) = refl
begins_same (sequence f g) ts = begins_same f ts
begins_same (choice f g) ts = ap (λ b. b || begins_at g (spot (length ts) ts)) (begins_same f ts) ∙ ap (λ b. begins f ts || b) (begins_same g ts)
begins_same (rounds f s) ts = begins_same (f s) ts
begins_same (checks o f) ts = begins_same f ts
begins_same (bars p c f) ts = ap (λ b. p ts || b) (begins_same f ts)
begins_same (unless p f) ts = ap (λ b. not (p ts) && b) (begins_same f ts)
begins_same (here f) ts = begins_same (f (length ts)) ts

then_agrees : {A B : Type 0} (r : Read A) (s : Scan A) (f : A × List Kind → Read B) (g : A → Spot → Scan B) → Agrees r s
    → ((a : A) (mid : List Kind) → Agrees (f (a, mid)) (g a (spot (length mid) mid))) → Agrees (r >>= f) (and_then s g)
then_agrees (Ok (a, mid)) s f g e h = subst (λ x. Agrees (f (a, mid)) (and_then x g)) (sym e) (h a mid)
then_agrees (Err fault) s f g (inl (rest, e, left)) h = inl (rest, ap (λ x. and_then x g) e, left)
then_agrees (Err fault) s f g (inr (rest, e)) h = inr (rest, ap (λ x. and_then x g) e)

last_agrees : {S A : Type 0} (a : Step S A) (mid : List Kind) → Agrees (stepped (λ (t : S) others. stop {A = A} Unexpected others) (a, mid)) (stepping (λ t y. stopped Unexpected y.1) a (spot (length mid) mid))
last_agrees (onward t) mid = inl (mid, refl, refl)
last_agrees (done v) mid = refl

step_agrees : {S A : Type 0} (go : S → List Kind → Read A) (on : S → Spot → Scan A) → ((t : S) (mid : List Kind) → Agrees (go t mid) (on t (spot (length mid) mid)))
    → (a : Step S A) (mid : List Kind) → Agrees (stepped go (a, mid)) (stepping on a (spot (length mid) mid))
step_agrees go on h (onward t) mid = h t mid
step_agrees go on h (done v) mid = refl

rounds_agree : {S A : Type 0} (f : S → Grammar (Step S A)) → ((s : S) (ts : List Kind) → Agrees (read (f s) ts) (scan (f s) (spot (length ts) ts)))
    → (n : ℕ) (s : S) (ts : List Kind) → Agrees (read_rounds n (λ t others. read (f t) others) s ts) (scan_rounds n (λ t y. scan (f t) y) s (spot (length ts) ts))
rounds_agree f h zero s ts = then_agrees (read (f s) ts) (scan (f s) (spot (length ts) ts)) _ _ (h s ts) last_agrees
rounds_agree f h (suc n) s ts = then_agrees (read (f s) ts) (scan (f s) (spot (length ts) ts)) _ _ (h s ts) (step_agrees _ _ (rounds_agree f h n))

taken_agrees : {A : Type 0} (o : Option A) (k : Kind) (ts : List Kind) → Agrees (taken o ts) (scanned o (length (k ∷ ts)) k ts)
taken_agrees (Some v) k ts = refl
taken_agrees None k ts = inl (k ∷ ts, refl, refl)

checked_agrees : {A : Type 0} (o : Option (Cause × ℕ)) (ts : List Kind) (r : Read A) (s : Scan A) → Agrees r s → Agrees (checked o r) (unless_refused o ts s)
checked_agrees None ts r s h = h
checked_agrees (Some fault) ts r s h = inr (ts, refl)

if_agrees : {A : Type 0} (a b : Bool) (r q : Read A) (s t : Scan A) → a ≡ b → Agrees r s → Agrees q t → Agrees (if b then r else q) (if a then s else t)
if_agrees true true r q s t e h i = h
if_agrees false false r q s t e h i = i
if_agrees true false r q s t e h i = absurd cc
if_agrees false true r q s t e h i = absurd cc

pub agrees : {A : Type 0} (f : Grammar A) (ts : List Kind) → Agrees (read f ts) (scan f (spot (length ts) ts))
agrees (gives v) ts = refl
agrees (takes c) [] = inl ([], refl, refl)
agrees (takes c) (k ∷ ts) = taken_agrees (c k) k ts
agrees (sequence f g) ts = then_agrees (read f ts) (scan f (spot (length ts) ts)) _ _ (agrees f ts) (λ a mid. agrees (g a) mid)
agrees (choice f g) ts = if_agrees (begins_at f (spot (length ts) ts)) (begins f ts) _ _ _ _ (begins_same f ts) (agrees f ts) (agrees g ts)
agrees (rounds f s) ts = rounds_agree f (λ t others. agrees (f t) others) (length ts) s ts
agrees (checks o f) ts = checked_agrees o ts (read f ts) (scan f (spot (length ts) ts)) (agrees f ts)
agrees (bars p c f) ts = if_agrees (p ts) (p ts) _ _ _ _ refl (inl (ts, refl, refl)) (agrees f ts)
agrees (unless p f) ts = if_agrees (p ts) (p ts) _ _ _ _ refl (inl (ts, refl, refl)) (agrees f ts)
agrees (here f) ts = agrees (f (length ts)) ts

-- What is of a grammar is fine.

rounds_fine : {S A : Type 0} (f : S → Grammar (Step S A)) → ((s : S) (v : Step S A) (ts rest : List Kind) → Took (f s) v ts rest → Fine (f s) v (spot (length ts) ts) (spot (length rest) rest))
    → (n : ℕ) (s : S) (v : A) (ts rest : List Kind) → Rounds (λ t. Took (f t)) n s v ts rest → FineRounds (λ t. Fine (f t)) n s v (spot (length ts) ts) (spot (length rest) rest)
rounds_fine f h zero s v ts rest took = h s (done v) ts rest took
rounds_fine f h (suc n) s v ts rest (t, mid, took, more) = (t, spot (length mid) mid, h s (onward t) ts mid took, rounds_fine f h n t v mid rest more)

pub took_fine : {A : Type 0} (f : Grammar A) (v : A) (ts rest : List Kind) → Took f v ts rest → Fine f v (spot (length ts) ts) (spot (length rest) rest)
took_fine (gives w) v ts rest (is, same) = (is, ap (λ r. spot (length r) r) same)
took_fine (takes c) v [] rest took = absurd took
took_fine (takes c) v (k ∷ ts) rest (is, same) = (is, ap (λ r. spot (length r) r) same)
took_fine (sequence f g) v ts rest (b, mid, p, q) = (b, spot (length mid) mid, took_fine f b ts mid p, took_fine (g b) v mid rest q)
took_fine (choice f g) v ts rest (inl p) = inl (took_fine f v ts rest p)
took_fine (choice f g) v ts rest (inr p) = inr (took_fine g v ts rest p)
took_fine (rounds f s) v ts rest (n, p) = (n, rounds_fine f (λ t. took_fine (f t)) n s v ts rest p)
took_fine (checks o f) v ts rest (holds, p) = took_fine f v ts rest p
took_fine (bars t c f) v ts rest (free, p) = (free, took_fine f v ts rest p)
took_fine (unless t f) v ts rest (free, p) = (free, took_fine f v ts rest p)
took_fine (here f) v ts rest p = took_fine (f (length ts)) v ts rest p
