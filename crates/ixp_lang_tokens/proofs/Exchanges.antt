-- What stands behind a text may be exchanged for what is said of both, part by part; and what may be completed so.
use Rattle.std.proofs.Common.{◌≡◌, ℕ, zero, suc, ◌+◌, ◌<◌, ◌⊎◌, inl, inr, Bool, true, false, List, [], ◌∷◌, ◌++◌, length, length-append, append_assoc, append-nil, Option, Some, None, arith, refl, sym, ap, ◌∙◌, subst}
use Rattle.ixp_lang_tokens.specs.declared.token.Kind.{Kind}
use Rattle.ixp_lang_tokens.specs.declared.fault.Cause.{Cause}
use Rattle.ixp_lang_tokens.specs.Grammars.{Step, onward, done, Grammar, gives, sequence, choice, rounds, checks, unless, here}
use Rattle.ixp_lang_tokens.specs.Syntax.{Spot, spot, FineRounds, Fine, stopped, scan}
use Rattle.ixp_lang_tokens.proofs.Fronts.{Front, are_apart, Starts, starts_apart, starts_never}
use Rattle.ixp_lang_tokens.proofs.Looks.{Look}
use Rattle.ixp_lang_tokens.proofs.Clear.{Sight}
use Rattle.ixp_lang_tokens.proofs.ClearLooks.{ClearlyBy, Clearly}
use Rattle.ixp_lang_tokens.proofs.Seen.{Like}
use Rattle.ixp_lang_tokens.proofs.Sizes.{fewer}
use Rattle.ixp_lang_tokens.proofs.Fines.{Front as Fronted, front, moves, one_front}
use Rattle.ixp_lang_tokens.proofs.Viable.{HasText, CanEnd, CanFollow, fine_parts, Supplied, supplied_gives, supplied_checks, supplied_sequence}
use Rattle.ixp_lang_tokens.proofs.Whole.{again_before}

-- what is said of what stands there and of what is to
abbrev pub Swap : Type 1
Swap = List Kind → List Kind → Type 0

abbrev pub Exchanges : Swap → {A : Type 0} → Grammar A → Type 0
Exchanges R {A} f = (v : A) (p : ℕ) (front rest : List Kind) (q : ℕ) (other : List Kind) → Fine f v (spot p (front ++ rest)) (spot q rest) → R rest other → Fine f v (spot p (front ++ other)) (spot q other)

-- whatever the two are
abbrev pub whatever : Swap
whatever rest other = Unit {0}

pub exchanges_by : {A : Type 0} (R S : Swap) (f : Grammar A) → ((rest other : List Kind) → S rest other → R rest other) → Exchanges R f → Exchanges S f
exchanges_by R S f h e v p front rest q other fine s = e v p front rest q other fine (h rest other s)

pub exchanges_all : {A : Type 0} (S : Swap) (f : Grammar A) → Exchanges whatever f → Exchanges S f
exchanges_all S f e v p front rest q other fine s = e v p front rest q other fine tt

-- what is known at a glance, with nothing barred behind it
pub clearly_exchanges : {A : Type 0} {f : Grammar A} {l : Look} → Clearly f l [] → Exchanges whatever f
clearly_exchanges {A} {f} k v p front rest q other fine s = again_before f f k.clear v p front rest other q (inr (λ e. starts_never other (k.spoils v other e))) (moves f k.clear v p (front ++ rest) (spot q rest) fine)

-- what is behind the first part is exchanged too
abbrev pub Meets : Swap → Swap → {A : Type 0} → Grammar A → Type 0
Meets R S {A} g = (v : A) (m q : ℕ) (mid rest other : List Kind) → Fine g v (spot m (mid ++ rest)) (spot q rest) → R rest other → S (mid ++ rest) (mid ++ other)

pub meets_all : {A : Type 0} (R : Swap) (g : Grammar A) → Meets R whatever g
meets_all R g v m q mid rest other fine r = tt

parts_once : (front first mid rest : List Kind) (z : List Kind) → front ++ rest ≡ first ++ z → z ≡ mid ++ rest → front ≡ first ++ mid
parts_once front first mid rest z e h = one_front front (first ++ mid) rest (e ∙ ap (λ x. first ++ x) h ∙ sym (append_assoc first mid rest))

module _ {A B : Type 0} (R S : Swap) (f : Grammar B) (g : B → Grammar A) (hf : Exchanges S f) (hg : (b : B) → Exchanges R (g b)) (meets : (b : B) → Meets R S (g b)) where
  two_exchange : (b : B) (v : A) (p : ℕ) (first mid rest : List Kind) (m q : ℕ) (other : List Kind) → Fine f b (spot p (first ++ (mid ++ rest))) (spot m (mid ++ rest)) → Fine (g b) v (spot m (mid ++ rest)) (spot q rest) → R rest other
      → Fine (sequence f g) v (spot p (first ++ (mid ++ other))) (spot q other)
  two_exchange b v p first mid rest m q other one two r =
      (b, spot m (mid ++ other), hf b p first (mid ++ rest) m (mid ++ other) one (meets b v m q mid rest other two r), hg b v m mid rest q other two r)

  pub sequence_exchanges : Exchanges R (sequence f g)
  sequence_exchanges v p front rest q other (b, z, one, two) r = by_parts (fine_parts f b (spot p (front ++ rest)) z one) (fine_parts (g b) v z (spot q rest) two)
    where
      by_parts : (first : List Kind) × (front ++ rest ≡ first ++ z.1) → (mid : List Kind) × (z.1 ≡ mid ++ rest) → Fine (sequence f g) v (spot p (front ++ other)) (spot q other)
      by_parts (first, e) (mid, h) =
          let whole : front ≡ first ++ mid = parts_once front first mid rest z.1 e h in
          let last : Fine (g b) v (spot z.0 (mid ++ rest)) (spot q rest) = subst (λ x. Fine (g b) v (spot z.0 x) (spot q rest)) h two in
          let begun : Fine f b (spot p (first ++ (mid ++ rest))) (spot z.0 (mid ++ rest)) = subst (λ x. Fine f b (spot p (first ++ x)) (spot z.0 x)) h (subst (λ x. Fine f b (spot p x) z) e one) in
          subst (λ x. Fine (sequence f g) v (spot p x) (spot q other)) (sym (ap (λ x. x ++ other) whole ∙ append_assoc first mid other)) (two_exchange b v p first mid rest z.0 q other begun last r)

pub choice_exchanges : {A : Type 0} (R : Swap) (f g : Grammar A) → Exchanges R f → Exchanges R g → Exchanges R (choice f g)
choice_exchanges R f g hf hg v p front rest q other (inl fine) r = inl (hf v p front rest q other fine r)
choice_exchanges R f g hf hg v p front rest q other (inr fine) r = inr (hg v p front rest q other fine r)

-- a test in front
pub unless_exchanges : {A : Type 0} (R : Swap) (t : List Kind → Bool) (f : Grammar A)
    → ((v : A) (p : ℕ) (front rest : List Kind) (q : ℕ) (other : List Kind) → Fine f v (spot p (front ++ rest)) (spot q rest) → R rest other → t (front ++ rest) ≡ false → t (front ++ other) ≡ false) → Exchanges R f → Exchanges R (unless t f)
unless_exchanges R t f passes h v p front rest q other (free, fine) r = (passes v p front rest q other fine r free, h v p front rest q other fine r)

pub here_exchanges : {A : Type 0} (R : Swap) (f : ℕ → Grammar A) → ((n : ℕ) → Exchanges R (f n)) → Exchanges R (here f)
here_exchanges R f h v p front rest q other fine r = h p v p front rest q other fine r

module _ {S A : Type 0} (R : Swap) (f : S → Grammar (Step S A)) (h : (s : S) → Exchanges R (f s)) (meets : (s : S) → Meets R R (rounds f s)) where
  rounds_again : (n : ℕ) (s : S) (v : A) (p : ℕ) (front rest : List Kind) (q : ℕ) (other : List Kind) → FineRounds (λ t. Fine (f t)) n s v (spot p (front ++ rest)) (spot q rest) → R rest other
      → FineRounds (λ t. Fine (f t)) n s v (spot p (front ++ other)) (spot q other)
  rounds_again zero s v p front rest q other fine r = h s (done v) p front rest q other fine r
  rounds_again (suc n) s v p front rest q other (t, z, one, more) r = by_parts (fine_parts (f s) (onward t) (spot p (front ++ rest)) z one) (fine_parts (rounds f t) v z (spot q rest) (n, more)) (rounds_again n t v)
    where
      by_parts : (first : List Kind) × (front ++ rest ≡ first ++ z.1) → (mid : List Kind) × (z.1 ≡ mid ++ rest)
          → ((p : ℕ) (front rest : List Kind) (q : ℕ) (other : List Kind) → FineRounds (λ t. Fine (f t)) n t v (spot p (front ++ rest)) (spot q rest) → R rest other → FineRounds (λ t. Fine (f t)) n t v (spot p (front ++ other)) (spot q other))
          → FineRounds (λ t. Fine (f t)) (suc n) s v (spot p (front ++ other)) (spot q other)
      by_parts (first, e) (mid, i) again =
          let whole : front ≡ first ++ mid = parts_once front first mid rest z.1 e i in
          let last : FineRounds (λ t. Fine (f t)) n t v (spot z.0 (mid ++ rest)) (spot q rest) = subst (λ x. FineRounds (λ t. Fine (f t)) n t v (spot z.0 x) (spot q rest)) i more in
          let begun : Fine (f s) (onward t) (spot p (first ++ (mid ++ rest))) (spot z.0 (mid ++ rest)) = subst (λ x. Fine (f s) (onward t) (spot p (first ++ x)) (spot z.0 x)) i (subst (λ x. Fine (f s) (onward t) (spot p x) z) e one) in
          subst (λ x. FineRounds (λ t. Fine (f t)) (suc n) s v (spot p x) (spot q other)) (sym (ap (λ x. x ++ other) whole ∙ append_assoc first mid other))
          (t, spot z.0 (mid ++ other), h s (onward t) p first (mid ++ rest) z.0 (mid ++ other) begun (meets t v z.0 q mid rest other (n, last) r), again z.0 mid rest q other last r)

  pub rounds_exchanges : (s : S) → Exchanges R (rounds f s)
  rounds_exchanges s v p front rest q other (n, fine) r = (n, rounds_again n s v p front rest q other fine r)

-- What takes no token.

none_taken : (m q : ℕ) (mid rest : List Kind) → spot m (mid ++ rest) ≡ spot q rest → mid ≡ []
none_taken m q [] rest e = refl
none_taken m q (k ∷ ks) rest e =
    let same : length (k ∷ (ks ++ rest)) ≡ length rest = ap (λ (x : Spot). length x.1) e in
    let size : length (ks ++ rest) ≡ length ks + length rest = length-append ks rest in
    absurd (omega arith)

pub gives_meets : {A : Type 0} (R : Swap) (w : A) → Meets R R (gives w)
gives_meets R w v m q mid rest other (is, same) r = let none = none_taken m q mid rest same in subst (λ x. R (x ++ rest) (x ++ other)) (sym none) r

-- Forks.

-- a test fails what is to stand there, or both are alike
abbrev pub Opens : Sight → (List Kind → Bool) → Swap
Opens sight t rest other = (t other ≡ false) ⊎ Like sight rest other

-- what has two tokens is alike before all
pub like_two : (sight : Sight) (k j : Kind) (js rest other : List Kind) → Like sight (k ∷ (j ∷ (js ++ rest))) (k ∷ (j ∷ (js ++ other)))
like_two sight k j js rest other =
    record { token = k; first_rest = j ∷ (js ++ rest); second_rest = j ∷ (js ++ other); first = refl; second = refl; next = λ fork. sight.steady j (js ++ rest) (js ++ other) }

-- and what begins with no fork
pub like_one : (sight : Sight) (k : Kind) (ks rest other : List Kind) → ¬ (sight.fork k ≡ true) → Like sight (k ∷ (ks ++ rest)) (k ∷ (ks ++ other))
like_one sight k ks rest other free = record { token = k; first_rest = ks ++ rest; second_rest = ks ++ other; first = refl; second = refl; next = λ fork. absurd (free fork) }

-- where a text takes a token it begins with one of these
pub begins_with : {T : (List Kind → Bool) → Type 0} {A : Type 0} {g : Grammar A} {l : Look} {ss : List Front} → ClearlyBy T g l ss → (v : A) (x y : Spot) → Fine g v x y → length y.1 < length x.1 → Starts l.starts x.1
begins_with {T} {A} {g} {l} k v x y fine less = by_front (front T g k.clear v x y fine)
  where
    by_front : Fronted g v x y → Starts l.starts x.1
    by_front (inl begins) = k.starts x.1 begins
    by_front (inr (empty, same)) = let e : length x.1 ≡ length y.1 = ap (λ (w : Spot). length w.1) same in absurd (omega arith)

less_behind : (k : Kind) (ks rest : List Kind) → length rest < length (k ∷ (ks ++ rest))
less_behind k ks rest = let size : length (ks ++ rest) ≡ length ks + length rest = length-append ks rest in omega arith

-- what forks are
abbrev pub Forks : Sight → List Front → Type 0
Forks sight fs = (k : Kind) (r : List Kind) → sight.fork k ≡ true → Starts fs (k ∷ r)

no_fork : {T : (List Kind → Bool) → Type 0} (sight : Sight) (fs : List Front) → Forks sight fs → {A : Type 0} {g : Grammar A} {l : Look} {ss : List Front} → ClearlyBy T g l ss → are_apart l.starts fs ≡ true
    → (v : A) (m : ℕ) (k : Kind) (r : List Kind) (y : Spot) → Fine g v (spot m (k ∷ r)) y → length y.1 < length (k ∷ r) → ¬ (sight.fork k ≡ true)
no_fork sight fs forks {A} {g} {l} known apart v m k r y fine less fork = starts_apart l.starts fs (k ∷ r) apart (begins_with known v (spot m (k ∷ r)) y fine less) (forks k r fork)

module _ {T : (List Kind → Bool) → Type 0} (sight : Sight) (t : List Kind → Bool) (fs : List Front) (forks : Forks sight fs) {A : Type 0} {g : Grammar A} {l : Look} {ss : List Front} (known : ClearlyBy T g l ss) (apart : are_apart l.starts fs ≡ true) where
  -- what begins with no fork, or is empty
  pub opens_meets : Meets (Opens sight t) (Opens sight t) g
  opens_meets v m q [] rest other fine r = r
  opens_meets v m q (k ∷ ks) rest other fine r = inr (like_one sight k ks rest other (no_fork sight fs forks known apart v m k (ks ++ rest) (spot q rest) fine (less_behind k ks rest)))

  -- and isn't empty
  pub full_meets : l.full ≡ true → Meets whatever (Opens sight t) g
  full_meets full v m q [] rest other fine r =
      let less : length rest < length rest = fewer T g known.clear v (spot m rest) (spot q rest) fine (known.full full v) in
      absurd (omega arith)
  full_meets full v m q (k ∷ ks) rest other fine r = inr (like_one sight k ks rest other (no_fork sight fs forks known apart v m k (ks ++ rest) (spot q rest) fine (less_behind k ks rest)))

  pub opens_follow : {B : Type 0} (f : Grammar B) (b : B) → Exchanges (Opens sight t) f → CanFollow f b g
  opens_follow f b h p front [] rest more m v q some one fine = absurd (omega arith)
  opens_follow f b h p front (k ∷ ks) rest more m v q some one fine =
      h b p front (k ∷ (ks ++ rest)) m (k ∷ (ks ++ more)) one (inr (like_one sight k ks rest more (no_fork sight fs forks known apart v m k (ks ++ more) (spot q []) fine (omega arith))))

-- Completions by exchange.

pub ends_by : {A B : Type 0} (R : Swap) (f : Grammar B) (g : Grammar A) → Exchanges R f → ((m : ℕ) (rest : List Kind) → (v : A) × (more : List Kind) × (q : ℕ) × Fine g v (spot m more) (spot q []) × R rest more) → (b : B) → CanEnd f b g
ends_by {A} {B} R f g h text b p front rest m fine = by_text (text m rest)
  where
    by_text : (v : A) × (more : List Kind) × (q : ℕ) × Fine g v (spot m more) (spot q []) × R rest more → (v : A) × (more : List Kind) × (q : ℕ) × Fine g v (spot m more) (spot q []) × Fine f b (spot p (front ++ more)) (spot m more)
    by_text (v, more, q, last, r) = (v, more, q, last, h b p front rest m more fine r)

-- behind a text, whatever stands there
pub ends_all : {A B : Type 0} (f : Grammar B) (g : Grammar A) → Exchanges whatever f → HasText g → (b : B) → CanEnd f b g
ends_all {A} {B} f g h text b p front rest m fine = by_text (text m)
  where
    by_text : (v : A) × (ts : List Kind) × (q : ℕ) × Fine g v (spot m ts) (spot q []) → (v : A) × (more : List Kind) × (q : ℕ) × Fine g v (spot m more) (spot q []) × Fine f b (spot p (front ++ more)) (spot m more)
    by_text (v, ts, q, last) = (v, ts, q, last, h b p front rest m ts fine tt)

pub follows_all : {A B : Type 0} (f : Grammar B) (g : Grammar A) → Exchanges whatever f → (b : B) → CanFollow f b g
follows_all f g h b p front taken rest more m v q some one fine = h b p front (taken ++ rest) m (taken ++ more) one tt

-- a first part, and nothing that stops
pub supplied_and_gives : {A B : Type 0} (R : Swap) (f h : Grammar B) (v : B → A) → Supplied B f h → Exchanges R h → ((rest : List Kind) → R rest []) → Supplied A (sequence f (λ b. gives (v b))) (sequence h (λ b. gives (v b)))
supplied_and_gives R f h v sf e ends =
    supplied_sequence f h (λ b. gives (v b)) (λ b. gives (v b)) (λ b. Unit {0}) sf (λ b x y p. tt) (λ b j. supplied_gives (v b)) (λ b j. ends_by R h (gives (v b)) e (λ m rest. (v b, [], m, (refl, refl), ends rest)) b)
    (λ b j p front taken rest more m c w q some one at last. absurd cc)

never_stops : {A : Type 0} (o : Option (Cause × ℕ)) (v : A) (x : Spot) (c : Cause) (rest : List Kind) → ¬ (scan (checks o (gives v)) x ≡ stopped c rest)
never_stops None v x c rest e = cc
never_stops (Some fault) v x c rest e = cc

pub supplied_and_checks : {A B : Type 0} (R : Swap) (f h : Grammar B) (o : B → Option (Cause × ℕ)) (v : B → A) → Supplied B f h → Exchanges R h → ((rest : List Kind) → R rest [])
    → Supplied A (sequence f (λ b. checks (o b) (gives (v b)))) (sequence h (λ b. checks (o b) (gives (v b))))
supplied_and_checks R f h o v sf e ends =
    supplied_sequence f h (λ b. checks (o b) (gives (v b))) (λ b. checks (o b) (gives (v b))) (λ b. Unit {0}) sf (λ b x y p. tt) (λ b j. supplied_checks (o b) (gives (v b)) (gives (v b)) (supplied_gives (v b)))
    (λ b j. ends_by R h (checks (o b) (gives (v b))) e (λ m rest. (v b, [], m, (refl, refl), ends rest)) b)
    (λ b j p front taken rest more m c w q some one at last. absurd (never_stops (o b) (v b) (spot m (taken ++ rest)) c rest at))

-- Texts.

pub text_then : {A B : Type 0} (f : Grammar B) (g : B → Grammar A) → HasText f → ((b : B) → CanEnd f b (g b)) → HasText (sequence f g)
text_then {A} {B} f g text ends p = by_text (text p)
  where
    by_end : (b : B) (ts : List Kind) (m : ℕ) → (v : A) × (more : List Kind) × (q : ℕ) × Fine (g b) v (spot m more) (spot q []) × Fine f b (spot p (ts ++ more)) (spot m more) → (v : A) × (ts : List Kind) × (q : ℕ) × Fine (sequence f g) v (spot p ts) (spot q [])
    by_end b ts m (v, more, q, last, one) = (v, ts ++ more, q, (b, spot m more, one, last))

    by_text : (b : B) × (ts : List Kind) × (m : ℕ) × Fine f b (spot p ts) (spot m []) → (v : A) × (ts : List Kind) × (q : ℕ) × Fine (sequence f g) v (spot p ts) (spot q [])
    by_text (b, ts, m, fine) = by_end b ts m (ends b p ts [] m (subst (λ x. Fine f b (spot p x) (spot m [])) (sym (append-nil ts)) fine))
