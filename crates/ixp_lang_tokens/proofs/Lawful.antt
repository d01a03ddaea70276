-- What is lawful is what a grammar takes, and it is read. So no lawful text begins as one that a check refuses, up to the token
-- that is next there.
use Rattle.std.proofs.Common.{◌≡◌, ℕ, zero, suc, pred, ◌<◌, ◌≤◌, inl, inr, Bool, false, List, [], ◌∷◌, ◌++◌, length, Option, refl, sym, ap, ◌∙◌, arith, subst}
use Rattle.ixp_lang_tokens.specs.declared.token.Kind.{Kind}
use Rattle.ixp_lang_tokens.specs.declared.fault.Cause.TheVariants.{Unexpected}
use Rattle.ixp_lang_tokens.specs.Grammars.{Step, onward, done, Grammar, gives, takes, sequence, choice, rounds, checks, bars, unless, here, Rounds, Took}
use Rattle.ixp_lang_tokens.specs.Syntax.{Spot, spot, FineRounds, Fine, Lawful, Halt, by_check, Scan, said, halted, stopped, refused, and_then, begins_at, stepping, scan_rounds, unless_refused, scan, IsLawfulText, RefusedAt}
use Rattle.ixp_lang_tokens.proofs.Clear.{GoesOn, ClearBy}
use Rattle.ixp_lang_tokens.proofs.Seen.{first_alone, Like, like_of}
use Rattle.ixp_lang_tokens.proofs.Sizes.{fewer}
use Rattle.ixp_lang_tokens.proofs.Fines.{goes_no_end_by}
use Rattle.ixp_lang_tokens.proofs.Stops.{fine_begins, first_ends, other_begins, round_ends, if_true, if_false, takes_reads, gives_reads}
use Rattle.ixp_lang_tokens.proofs.Alike.{stops, Alike}
use Rattle.ixp_lang_tokens.proofs.Quiet.{Quiet}

-- What is lawful is fine.

rounds_map : {S A : Type 0} (R Q : S → Step S A → Spot → Spot → Type 0) → ((s : S) (v : Step S A) (x y : Spot) → R s v x y → Q s v x y) → (n : ℕ) (s : S) (v : A) (x y : Spot) → FineRounds R n s v x y → FineRounds Q n s v x y
rounds_map R Q h zero s v x y all = h s (done v) x y all
rounds_map R Q h (suc n) s v x y (t, z, one, more) = (t, z, h s (onward t) x z one, rounds_map R Q h n t v z y more)

pub lawful_fine : {A : Type 0} (f : Grammar A) (v : A) (x y : Spot) → Lawful f v x y → Fine f v x y
lawful_fine (gives w) v x y lawful = lawful
lawful_fine (takes c) v (p, []) y lawful = lawful
lawful_fine (takes c) v (p, k ∷ ts) y lawful = lawful
lawful_fine (sequence f g) v x y (b, z, one, two) = (b, z, lawful_fine f b x z one, lawful_fine (g b) v z y two)
lawful_fine (choice f g) v x y (inl lawful) = inl (lawful_fine f v x y lawful)
lawful_fine (choice f g) v x y (inr lawful) = inr (lawful_fine g v x y lawful)
lawful_fine (rounds f s) v x y (n, lawful) = (n, rounds_map (λ t. Lawful (f t)) (λ t. Fine (f t)) (λ t. lawful_fine (f t)) n s v x y lawful)
lawful_fine (checks o f) v x y (holds, lawful) = lawful_fine f v x y lawful
lawful_fine (bars t c f) v x y (free, lawful) = (free, lawful_fine f v x y lawful)
lawful_fine (unless t f) v x y (free, lawful) = (free, lawful_fine f v x y lawful)
lawful_fine (here f) v x y lawful = lawful_fine (f x.0) v x y lawful

-- What a grammar takes is lawful, and what is lawful it takes, where places are numbered by the tokens.

rounds_lawful : {S A : Type 0} (f : S → Grammar (Step S A)) → ((s : S) (v : Step S A) (ts rest : List Kind) → Took (f s) v ts rest → Lawful (f s) v (spot (length ts) ts) (spot (length rest) rest))
    → (n : ℕ) (s : S) (v : A) (ts rest : List Kind) → Rounds (λ t. Took (f t)) n s v ts rest → FineRounds (λ t. Lawful (f t)) n s v (spot (length ts) ts) (spot (length rest) rest)
rounds_lawful f h zero s v ts rest took = h s (done v) ts rest took
rounds_lawful f h (suc n) s v ts rest (t, mid, took, more) = (t, spot (length mid) mid, h s (onward t) ts mid took, rounds_lawful f h n t v mid rest more)

pub took_lawful : {A : Type 0} (f : Grammar A) (v : A) (ts rest : List Kind) → Took f v ts rest → Lawful f v (spot (length ts) ts) (spot (length rest) rest)
took_lawful (gives w) v ts rest (is, same) = (is, ap (λ r. spot (length r) r) same)
took_lawful (takes c) v [] rest took = absurd took
took_lawful (takes c) v (k ∷ ts) rest (is, same) = (is, ap (λ r. spot (length r) r) same)
took_lawful (sequence f g) v ts rest (b, mid, p, q) = (b, spot (length mid) mid, took_lawful f b ts mid p, took_lawful (g b) v mid rest q)
took_lawful (choice f g) v ts rest (inl p) = inl (took_lawful f v ts rest p)
took_lawful (choice f g) v ts rest (inr p) = inr (took_lawful g v ts rest p)
took_lawful (rounds f s) v ts rest (n, p) = (n, rounds_lawful f (λ t. took_lawful (f t)) n s v ts rest p)
took_lawful (checks o f) v ts rest (holds, p) = (holds, took_lawful f v ts rest p)
took_lawful (bars t c f) v ts rest (free, p) = (free, took_lawful f v ts rest p)
took_lawful (unless t f) v ts rest (free, p) = (free, took_lawful f v ts rest p)
took_lawful (here f) v ts rest p = took_lawful (f (length ts)) v ts rest p

-- its number is how many tokens there are
abbrev Counted : Spot → Type 0
Counted x = x ≡ spot (length x.1) x.1

abbrev TakesLawful : {A : Type 0} → Grammar A → Type 0
TakesLawful {A} f = (v : A) (x y : Spot) → Counted x → Lawful f v x y → Counted y × Took f v x.1 y.1

sequence_takes : {A B : Type 0} (f : Grammar B) (g : B → Grammar A) → TakesLawful f → ((b : B) → TakesLawful (g b)) → TakesLawful (sequence f g)
sequence_takes f g hf hg v x y counted (b, z, one, two) =
    let first = hf b x z counted one in
    let last = hg b v z y first.0 two in (last.0, (b, z.1, first.1, last.1))

rounds_take : {S A : Type 0} (f : S → Grammar (Step S A)) → ((s : S) → TakesLawful (f s)) → (n : ℕ) (s : S) (v : A) (x y : Spot) → Counted x → FineRounds (λ t. Lawful (f t)) n s v x y → Counted y × Rounds (λ t. Took (f t)) n s v x.1 y.1
rounds_take f h zero s v x y counted lawful = h s (done v) x y counted lawful
rounds_take f h (suc n) s v x y counted (t, z, one, more) =
    let first = h s (onward t) x z counted one in
    let last = rounds_take f h n t v z y first.0 more in (last.0, (t, z.1, first.1, last.1))

some_rounds : {S A : Type 0} (f : S → Grammar (Step S A)) → ((s : S) → TakesLawful (f s)) → (s : S) → TakesLawful (rounds f s)
some_rounds f h s v x y counted (n, lawful) = let all = rounds_take f h n s v x y counted lawful in (all.0, (n, all.1))

takes_token : {A : Type 0} (c : Kind → Option A) → TakesLawful (takes c)
takes_token c v (p, []) y counted lawful = absurd lawful
takes_token c v (p, k ∷ ts) y counted (is, same) =
    let number : pred p ≡ length ts = ap (λ (x : Spot). pred x.0) counted in (subst (λ (w : Spot). Counted w) same (ap (λ n. spot n ts) number), (is, ap (λ (w : Spot). w.1) same))

choice_takes : {A : Type 0} (f g : Grammar A) → TakesLawful f → TakesLawful g → TakesLawful (choice f g)
choice_takes f g hf hg v x y counted (inl lawful) = let all = hf v x y counted lawful in (all.0, inl all.1)
choice_takes f g hf hg v x y counted (inr lawful) = let all = hg v x y counted lawful in (all.0, inr all.1)

here_takes : {A : Type 0} (f : ℕ → Grammar A) → ((n : ℕ) → TakesLawful (f n)) → TakesLawful (here f)
here_takes f h v x y counted lawful =
    let all = h x.0 v x y counted lawful in (all.0, subst (λ n. Took (f n) v x.1 y.1) (ap (λ (w : Spot). w.0) counted) all.1)

takes_lawful : {A : Type 0} (f : Grammar A) → TakesLawful f
takes_lawful (gives w) v x y counted (is, same) = (subst (λ (w : Spot). Counted w) same counted, (is, ap (λ (w : Spot). w.1) same))
takes_lawful (takes c) v x y counted lawful = takes_token c v x y counted lawful
takes_lawful (sequence f g) v x y counted lawful = sequence_takes f g (takes_lawful f) (λ b. takes_lawful (g b)) v x y counted lawful
takes_lawful (choice f g) v x y counted lawful = choice_takes f g (takes_lawful f) (takes_lawful g) v x y counted lawful
takes_lawful (rounds f s) v x y counted lawful = some_rounds f (λ t. takes_lawful (f t)) s v x y counted lawful
takes_lawful (checks o f) v x y counted (holds, lawful) = let all = takes_lawful f v x y counted lawful in (all.0, (holds, all.1))
takes_lawful (bars t c f) v x y counted (free, lawful) = let all = takes_lawful f v x y counted lawful in (all.0, (free, all.1))
takes_lawful (unless t f) v x y counted (free, lawful) = let all = takes_lawful f v x y counted lawful in (all.0, (free, all.1))
takes_lawful (here f) v x y counted lawful = here_takes f (λ n. takes_lawful (f n)) v x y counted lawful

pub lawful_took : {A : Type 0} (f : Grammar A) (v : A) (ts : List Kind) (y : Spot) → Lawful f v (spot (length ts) ts) y → Took f v ts y.1
lawful_took f v ts y lawful = (takes_lawful f v (spot (length ts) ts) y refl lawful).1

-- What is lawful is said, where nothing that is behind it goes on with it.

abbrev SaysLawful : {A : Type 0} → Grammar A → Type 0
SaysLawful {A} f = (v : A) (x y : Spot) → Lawful f v x y → ¬ (GoesOn f v y.1) → scan f x ≡ said v y

sequence_says : (T : (List Kind → Bool) → Type 0) {A B : Type 0} (f : Grammar B) (g : B → Grammar A) → ClearBy T (sequence f g) → SaysLawful f → ((b : B) → SaysLawful (g b)) → SaysLawful (sequence f g)
sequence_says T f g clear hf hg v x y (b, z, one, two) ends =
    ap (λ s. and_then s (λ a w. scan (g a) w)) (hf b x z one (first_ends T f g clear b v z y (lawful_fine (g b) v z y two) ends)) ∙ hg b v z y two (λ p. ends (b, inl p))

choice_says : (T : (List Kind → Bool) → Type 0) {A : Type 0} (f g : Grammar A) → ClearBy T (choice f g) → SaysLawful f → SaysLawful g → SaysLawful (choice f g)
choice_says T f g clear hf hg v x y (inl lawful) ends =
    if_true (begins_at f x) (scan f x) (scan g x) (fine_begins f clear.0 v x y (lawful_fine f v x y lawful)) ∙ hf v x y lawful (λ p. ends (inl p))
choice_says T f g clear hf hg v x y (inr lawful) ends =
    if_false (begins_at f x) (scan f x) (scan g x) (other_begins T f g clear v x y (lawful_fine g v x y lawful) ends) ∙ hg v x y lawful (λ p. ends (inr (inl p)))

rounds_say : (T : (List Kind → Bool) → Type 0) {S A : Type 0} (f : S → Grammar (Step S A)) → ((s : S) → ClearBy T (rounds f s)) → ((s : S) → SaysLawful (f s)) → (n k : ℕ) (s : S) (v : A) (x y : Spot)
    → FineRounds (λ t. Lawful (f t)) n s v x y → length x.1 ≤ k → ¬ (GoesOn (rounds f s) v y.1) → scan_rounds k (λ t z. scan (f t) z) s x ≡ said v y
rounds_say T f clear h zero zero s v x y lawful fits ends = ap (λ r. and_then r (stepping (λ t z. stopped Unexpected z.1))) (h s (done v) x y lawful (λ p. ends (s, inl p)))
rounds_say T f clear h zero (suc k) s v x y lawful fits ends = ap (λ r. and_then r (stepping (scan_rounds k (λ t z. scan (f t) z)))) (h s (done v) x y lawful (λ p. ends (s, inl p)))
rounds_say T f clear h (suc n) zero s v x y (t, z, one, more) fits ends =
    let less : length z.1 < length x.1 = fewer T (f s) ((clear s).0 s) (onward t) x z (lawful_fine (f s) (onward t) x z one) ((clear s).1 s t) in
    absurd (omega arith)
rounds_say T f clear h (suc n) (suc k) s v x y (t, z, one, more) fits ends =
    let less : length z.1 < length x.1 = fewer T (f s) ((clear s).0 s) (onward t) x z (lawful_fine (f s) (onward t) x z one) ((clear s).1 s t) in
    let fits_less : length z.1 ≤ k = omega arith in
    let fine = rounds_map (λ t. Lawful (f t)) (λ t. Fine (f t)) (λ t. lawful_fine (f t)) n t v z y more in
    ap (λ r. and_then r (stepping (scan_rounds k (λ t z. scan (f t) z)))) (h s (onward t) x z one (round_ends T f clear n s t v z y fine ends))
    ∙ rounds_say T f clear h n k t v z y more fits_less (λ p. ends p)

pub says_lawful : (T : (List Kind → Bool) → Type 0) {A : Type 0} (f : Grammar A) → ClearBy T f → SaysLawful f
says_lawful T (gives w) clear v x y (is, same) ends = gives_reads w v x y is same
says_lawful T (takes c) clear v (p, []) y lawful ends = absurd lawful
says_lawful T (takes c) clear v (p, k ∷ ts) y (is, same) ends = takes_reads (c k) p k ts v y is same
says_lawful T (sequence f g) clear v x y lawful ends = sequence_says T f g clear (says_lawful T f clear.0) (λ b. says_lawful T (g b) (clear.1 b)) v x y lawful ends
says_lawful T (choice f g) clear v x y lawful ends = choice_says T f g clear (says_lawful T f clear.1) (says_lawful T g clear.2) v x y lawful ends
says_lawful T (rounds f s) clear v x y (n, lawful) ends = rounds_say T f (λ t. clear) (λ t. says_lawful T (f t) (clear.0 t)) n (length x.1) s v x y lawful (omega arith) ends
says_lawful T (checks o f) clear v x y (holds, lawful) ends = ap (λ o. unless_refused o x.1 (scan f x)) holds ∙ says_lawful T f clear v x y lawful ends
says_lawful T (bars t c f) (first, cf) v x y (free, lawful) ends = if_false (t x.1) (stopped c x.1) (scan f x) free ∙ says_lawful T f cf v x y lawful ends
says_lawful T (unless t f) (first, cf) v x y (free, lawful) ends = if_false (t x.1) (stopped Unexpected x.1) (scan f x) free ∙ says_lawful T f cf v x y lawful ends
says_lawful T (here f) clear v x y lawful ends = says_lawful T (f x.0) (clear x.0) v x y lawful (λ p. ends (x.0, p))

-- Where the reading of tokens halts they are no lawful text.

not_halted : {A : Type 0} (s : Scan A) (c : Halt) (rest : List Kind) (v : A) (y : Spot) → s ≡ halted c rest → s ≡ said v y → ⊥
not_halted s c rest v y e h = cc

pub not_lawful : {T : (List Kind → Bool) → Type 0} (fails : (t : List Kind → Bool) → T t → t [] ≡ false) {A : Type 0} (f : Grammar A) → ClearBy T f → (p : ℕ) (ts : List Kind) (c : Halt) (rest : List Kind) → scan f (spot p ts) ≡ halted c rest
    → ¬ (IsLawfulText f p ts)
not_lawful {T} fails f clear p ts c rest e (v, q, lawful) =
    not_halted (scan f (spot p ts)) c rest v (spot q []) e (says_lawful T f clear v (spot p ts) (spot q []) lawful (goes_no_end_by fails f clear v))

-- Where a check refuses them, no lawful text begins with the tokens up to the one that is next.
pub refused_at : {T : (List Kind → Bool) → Type 0} (fails : (t : List Kind → Bool) → T t → t [] ≡ false) {A : Type 0} (f : Grammar A) → ClearBy T f → Quiet f → (ts rest : List Kind) → scan f (spot (length ts) ts) ≡ refused rest → RefusedAt f ts
refused_at fails {A} f clear quiet ts rest e = by_alike (quiet (length ts) ts by_check rest e)
  where
    by_alike : Alike first_alone f (length ts) ts (stops by_check) rest → RefusedAt f ts
    by_alike m = record {
      front = m.taken;
      rest = rest;
      parts = m.parts;
      refuses = e;
      no_more = λ token others more there.
          not_lawful fails f clear (length ts) (m.taken ++ token ∷ more) by_check (token ∷ more)
          (m.again (token ∷ more) (subst (λ r. Like first_alone r (token ∷ more)) (sym there) (like_of first_alone token others more (λ fork. absurd cc))));
      not_in = not_lawful fails f clear (length ts) ts by_check rest e;
    }
