-- Where a reading halts whatever is behind the token that is there, also in grammars whose tests look behind a fork.
use Rattle.std.proofs.Common.{◌≡◌, ℕ, zero, suc, pred, ◌+◌, ◌<◌, ◌≤◌, ◌⊎◌, inl, inr, Bool, true, false, List, [], ◌∷◌, ◌++◌, length, length-append, Option, Some, refl, sym, ap, ◌∙◌, arith, if◌then◌else◌}
use Rattle.ixp_lang_tokens.specs.declared.token.Kind.{Kind}
use Rattle.ixp_lang_tokens.specs.declared.fault.Cause.{Cause}
use Rattle.ixp_lang_tokens.specs.declared.fault.Cause.TheVariants.{Unexpected}
use Rattle.ixp_lang_tokens.specs.Grammars.{Step, onward, done, Grammar, gives, takes, sequence, choice, rounds, here}
use Rattle.ixp_lang_tokens.specs.Syntax.{Spot, spot, Halt, by_syntax, Scan, said, halted, stopped, and_then, begins_at, scanned, stepping, scan_rounds, scan}
use Rattle.ixp_lang_tokens.proofs.Clear.{MayEmpty, IsOfFirst, Sight, IsSeen, ClearBy, Clear}
use Rattle.ixp_lang_tokens.proofs.Seen.{first_alone, clear_first, first_seen, Like, like_behind}
use Rattle.ixp_lang_tokens.proofs.Sizes.{fewer}
use Rattle.ixp_lang_tokens.proofs.Stops.{said_fine}
use Rattle.ixp_lang_tokens.proofs.Viable.{then_halted}
use Rattle.ixp_lang_tokens.proofs.Alike.{End, says, stops, ended, Alike, RoundsAlike, IsAlike, BeginsAlike, alike, then_ended, stepping_ended, same_first, in_place, if_is, begins_first, test_first, halted_is, both_alike, stop_first, last_alike, more_alike, onward_shorter, rounds_one, rounds_alike, here_alike}

-- where it halts, it does whatever is behind the token that is there
abbrev pub Quiet : {A : Type 0} → Grammar A → Type 0
Quiet f = (p : ℕ) (ts : List Kind) (c : Halt) (rest : List Kind) → scan f (spot p ts) ≡ halted c rest → Alike first_alone f p ts (stops c) rest

-- and where it says something, it says it so
abbrev pub Steady : {A : Type 0} → Grammar A → Type 0
Steady f = IsAlike first_alone f

-- where each test asks the first token alone
pub steady : {A : Type 0} (f : Grammar A) → Clear f → Steady f
steady f clear = alike first_alone f (clear_first f clear)

pub quiet_of : {A : Type 0} (f : Grammar A) → Steady f → Quiet f
quiet_of f h p ts c rest e = h p ts (stops c) rest e

-- where a fork is next, it doesn't halt there
abbrev pub Passes : Sight → {A : Type 0} → Grammar A → Type 0
Passes sight f = (p : ℕ) (k : Kind) (r : List Kind) (c : Halt) → sight.fork k ≡ true → ¬ (scan f (spot p (k ∷ r)) ≡ halted c (k ∷ r))

pub gives_passes : (sight : Sight) {A : Type 0} (v : A) → Passes sight (gives v)
gives_passes sight v p k r c fork e = cc

pub turn_alike : (sight : Sight) (r s : List Kind) → Like first_alone r s → sight.turn r ≡ sight.turn s
turn_alike sight r s same = ap sight.turn same.first ∙ sight.steady same.token same.first_rest same.second_rest ∙ sym (ap sight.turn same.second)

-- it halts behind a token that is taken
pub token_passes : {A B : Type 0} (class : Kind → Option A) (g : A → Grammar B) → ((a : A) → Quiet (g a)) → (p : ℕ) (k : Kind) (r : List Kind) (c : Halt) (a : A) → class k ≡ Some a
    → ¬ (scan (sequence (takes class) g) (spot p (k ∷ r)) ≡ halted c (k ∷ r))
token_passes class g quiet p k r c a is e =
    let at : scan (g a) (spot (pred p) r) ≡ halted c (k ∷ r) = sym (ap (λ o. and_then (scanned o p k r) (λ a y. scan (g a) y)) is) ∙ e in
    let m = quiet a (pred p) r c (k ∷ r) at in
    let size : length r ≡ length (m.taken ++ (k ∷ r)) = ap length m.parts in
    let both : length (m.taken ++ (k ∷ r)) ≡ length m.taken + length (k ∷ r) = length-append m.taken (k ∷ r) in
    absurd (omega arith)

-- the alternative that begins there doesn't halt there
pub choice_passes : {A : Type 0} (f g : Grammar A) (p : ℕ) (k : Kind) (r : List Kind) (c : Halt) → begins_at f (spot p (k ∷ r)) ≡ true → ¬ (scan f (spot p (k ∷ r)) ≡ halted c (k ∷ r)) → ¬ (scan (choice f g) (spot p (k ∷ r)) ≡ halted c (k ∷ r))
choice_passes f g p k r c begins never e = never (sym (ap (λ b. if b then scan f (spot p (k ∷ r)) else scan g (spot p (k ∷ r))) begins) ∙ e)

pub gives_behind : (sight : Sight) {A B : Type 0} (f : Grammar B) (v : B → A) → Passes sight f → Passes sight (sequence f (λ b. gives (v b)))
gives_behind sight {A} {B} f v passes p k r c fork e = by_parts (then_halted (scan f (spot p (k ∷ r))) _ c (k ∷ r) e)
  where
    by_parts : ((b : B) × (z : Spot) × (scan f (spot p (k ∷ r)) ≡ said b z) × (◌≡◌ {A = Scan A} (said (v b) z) (halted c (k ∷ r)))) ⊎ (scan f (spot p (k ∷ r)) ≡ halted c (k ∷ r)) → ⊥
    by_parts (inl (b, z, one, two)) = cc
    by_parts (inr one) = passes p k r c fork one

-- the same first token, behind some or where it is no fork
pub like_taken : (sight : Sight) (taken rest other : List Kind) → Like first_alone rest other → (taken ≡ [] → (k : Kind) (r : List Kind) → rest ≡ k ∷ r → ¬ (sight.fork k ≡ true)) → Like sight (taken ++ rest) (taken ++ other)
like_taken sight [] rest other same free =
    record { token = same.token; first_rest = same.first_rest; second_rest = same.second_rest; first = same.first; second = same.second; next = λ e. absurd (free refl same.token same.first_rest same.first e) }
like_taken sight (k ∷ ks) rest other same free =
    record { token = k; first_rest = ks ++ rest; second_rest = ks ++ other; first = refl; second = refl; next = λ e. turn_alike sight (ks ++ rest) (ks ++ other) (like_behind first_alone ks rest other same) }

-- the same, where these tokens are what is taken and the rest
like_parts : (sight : Sight) (mid taken rest other : List Kind) → mid ≡ taken ++ rest → Like first_alone rest other → (taken ≡ [] → (k : Kind) (r : List Kind) → rest ≡ k ∷ r → ¬ (sight.fork k ≡ true)) → Like sight mid (taken ++ other)
like_parts sight mid taken rest other parts same free =
    let like = like_taken sight taken rest other same free in
    record { token = like.token; first_rest = like.first_rest; second_rest = like.second_rest; first = parts ∙ like.first; second = like.second; next = like.next }

-- it halts at no fork that is next
no_fork : (sight : Sight) {A : Type 0} (f : Grammar A) → Passes sight f → (q : ℕ) (mid : List Kind) (c : Halt) (taken rest : List Kind) → scan f (spot q mid) ≡ halted c rest → mid ≡ taken ++ rest
    → taken ≡ [] → (k : Kind) (r : List Kind) → rest ≡ k ∷ r → ¬ (sight.fork k ≡ true)
no_fork sight f passes q mid c taken rest at parts none k r is fork =
    let there : mid ≡ k ∷ r = parts ∙ ap (λ x. x ++ rest) none ∙ is in
    passes q k r c fork (sym (ap (λ x. scan f (spot q x)) there) ∙ at ∙ ap (halted c) is)

abbrev SameStop : (A : Type 0) → Halt → Halt → Type 0
SameStop A c d = ◌≡◌ {A = End A} (stops c) (stops d)

-- what is behind the first part doesn't halt at a fork
pub sequence_quiet : (sight : Sight) {A B : Type 0} (f : Grammar B) (g : B → Grammar A) → IsAlike sight f → Quiet f → ((b : B) → Quiet (g b)) → ((b : B) → Passes sight (g b)) → Quiet (sequence f g)
sequence_quiet sight {A} {B} f g again hf hg passes p ts c rest h = by_parts (then_ended first_alone (scan f (spot p ts)) _ (stops c) rest h)
  where
    by_both : (b : B) (q : ℕ) (mid : List Kind) → Alike sight f p ts (says b q) mid → Alike first_alone (g b) q mid (stops c) rest → scan (g b) (spot q mid) ≡ halted c rest → Alike first_alone (sequence f g) p ts (stops c) rest
    by_both b q mid one two at =
        both_alike first_alone f g b p ts q mid (stops c) rest one.taken one.parts two
        (λ other same. one.again (two.taken ++ other) (like_parts sight mid two.taken rest other two.parts same (no_fork sight (g b) (passes b) q mid c two.taken rest at two.parts)))

    by_parts : ((b : B) × (z : Spot) × (scan f (spot p ts) ≡ said b z) × (scan (g b) z ≡ halted c rest)) ⊎ ((d : Halt) × (scan f (spot p ts) ≡ halted d rest) × SameStop A c d) → Alike first_alone (sequence f g) p ts (stops c) rest
    by_parts (inl (b, z, one, two)) = by_both b z.0 z.1 (again p ts (says b z.0) z.1 one) (hg b z.0 z.1 c rest two) two
    by_parts (inr (d, one, is)) = stop_first first_alone f g p ts (stops c) rest d (hf p ts d rest one) is

-- the first part says the same whatever is behind it
pub sequence_steady : {A B : Type 0} (f : Grammar B) (g : B → Grammar A) → Steady f → ((b : B) → Quiet (g b)) → Quiet (sequence f g)
sequence_steady {A} {B} f g hf hg p ts c rest h = by_parts (then_ended first_alone (scan f (spot p ts)) _ (stops c) rest h)
  where
    by_both : (b : B) (q : ℕ) (mid : List Kind) → Alike first_alone f p ts (says b q) mid → Alike first_alone (g b) q mid (stops c) rest → Alike first_alone (sequence f g) p ts (stops c) rest
    by_both b q mid one two =
        both_alike first_alone f g b p ts q mid (stops c) rest one.taken one.parts two (λ other same. one.again (two.taken ++ other) (same_first first_alone two.taken rest other mid two.parts same))

    by_parts : ((b : B) × (z : Spot) × (scan f (spot p ts) ≡ said b z) × (scan (g b) z ≡ halted c rest)) ⊎ ((d : Halt) × (scan f (spot p ts) ≡ halted d rest) × SameStop A c d) → Alike first_alone (sequence f g) p ts (stops c) rest
    by_parts (inl (b, z, one, two)) = by_both b z.0 z.1 (hf p ts (says b z.0) z.1 one) (hg b z.0 z.1 c rest two)
    by_parts (inr (d, one, is)) = stop_first first_alone f g p ts (stops c) rest d (hf p ts (stops d) rest one) is

-- what is behind the first part takes a token and says the same whatever is behind it
pub sequence_full : (sight : Sight) {A B : Type 0} (f : Grammar B) (g : B → Grammar A) → IsAlike sight f → Quiet f → ((b : B) → Steady (g b)) → ((b : B) → Passes sight (g b))
    → ((b : B) → ClearBy (IsSeen sight) (g b)) → ((b : B) (v : A) (ts : List Kind) → ¬ (MayEmpty (g b) v ts)) → Steady (sequence f g)
sequence_full sight {A} {B} f g again hf hg passes clear full p ts (stops c) rest h = sequence_quiet sight f g again hf (λ b. quiet_of (g b) (hg b)) passes p ts c rest h
sequence_full sight {A} {B} f g again hf hg passes clear full p ts (says v n) rest h = by_parts (then_ended first_alone (scan f (spot p ts)) _ (says v n) rest h)
  where
    never_same : (b : B) (q : ℕ) (mid taken : List Kind) → scan (g b) (spot q mid) ≡ said v (spot n rest) → mid ≡ taken ++ rest → taken ≡ [] → (k : Kind) (r : List Kind) → rest ≡ k ∷ r → ¬ (sight.fork k ≡ true)
    never_same b q mid taken at parts none k r is fork =
        let there : mid ≡ rest = parts ∙ ap (λ x. x ++ rest) none in
        let same : length mid ≡ length rest = ap length there in
        let less : length rest < length mid = fewer (IsSeen sight) (g b) (clear b) v (spot q mid) (spot n rest) (said_fine (g b) (spot q mid) v (spot n rest) at) (full b v) in
        absurd (omega arith)

    by_both : (b : B) (q : ℕ) (mid : List Kind) → Alike sight f p ts (says b q) mid → Alike first_alone (g b) q mid (says v n) rest → scan (g b) (spot q mid) ≡ said v (spot n rest) → Alike first_alone (sequence f g) p ts (says v n) rest
    by_both b q mid one two at =
        both_alike first_alone f g b p ts q mid (says v n) rest one.taken one.parts two
        (λ other same. one.again (two.taken ++ other) (like_parts sight mid two.taken rest other two.parts same (never_same b q mid two.taken at two.parts)))

    by_parts : ((b : B) × (z : Spot) × (scan f (spot p ts) ≡ said b z) × (scan (g b) z ≡ said v (spot n rest))) ⊎ ((d : Halt) × (scan f (spot p ts) ≡ halted d rest) × (says v n ≡ stops d)) → Alike first_alone (sequence f g) p ts (says v n) rest
    by_parts (inl (b, z, one, two)) = by_both b z.0 z.1 (again p ts (says b z.0) z.1 one) (hg b z.0 z.1 (says v n) rest two) two
    by_parts (inr (d, one, is)) = absurd cc

-- by its first token
pub choice_quiet : {A : Type 0} (f g : Grammar A) → BeginsAlike first_alone f → Quiet f → Quiet g → Quiet (choice f g)
choice_quiet {A} f g begins hf hg p ts c rest h = by_first (begins_at f (spot p ts)) refl h
  where
    by_one : (b : Bool) → begins_at f (spot p ts) ≡ b → (d : Grammar A) → ((x : Spot) → (if b then scan f x else scan g x) ≡ scan d x) → Alike first_alone d p ts (stops c) rest → Alike first_alone (choice f g) p ts (stops c) rest
    by_one b is d chosen one = record {
      taken = one.taken;
      parts = one.parts;
      again = λ other same.
          if_is first_alone _ b _ _ (begins_first first_alone f begins p ts (one.taken ++ other) (same_first first_alone one.taken rest other ts one.parts same) ∙ is)
          ∙ chosen (spot p (one.taken ++ other)) ∙ one.again other same;
    }

    by_first : (b : Bool) → begins_at f (spot p ts) ≡ b → (if b then scan f (spot p ts) else scan g (spot p ts)) ≡ halted c rest → Alike first_alone (choice f g) p ts (stops c) rest
    by_first true is one = by_one true is f (λ x. refl) (hf p ts c rest one)
    by_first false is one = by_one false is g (λ x. refl) (hg p ts c rest one)

pub here_quiet : {A : Type 0} (f : ℕ → Grammar A) → ((n : ℕ) → Quiet (f n)) → Quiet (here f)
here_quiet f h p ts c rest e = by_same (h p p ts c rest e)
  where
    by_same : Alike first_alone (f p) p ts (stops c) rest → Alike first_alone (here f) p ts (stops c) rest
    by_same m = record { taken = m.taken; parts = m.parts; again = m.again }

pub here_steady : {A : Type 0} (f : ℕ → Grammar A) → ((n : ℕ) → Steady (f n)) → Steady (here f)
here_steady f h p ts e rest at = here_alike first_alone f p ts e rest (h p p ts e rest at)

-- a test of the first token in front
pub test_quiet : {A : Type 0} (f h : Grammar A) (t : List Kind → Bool) (d : Cause) → IsOfFirst t → Quiet f → ((x : Spot) → scan h x ≡ (if t x.1 then stopped d x.1 else scan f x)) → Quiet h
test_quiet {A} f h t d first hf is p ts c rest at = by_test (t ts) refl (sym (is (spot p ts)) ∙ at)
  where
    seen : IsSeen first_alone t
    seen = first_seen first_alone t first

    by_free : t ts ≡ false → Alike first_alone f p ts (stops c) rest → Alike first_alone h p ts (stops c) rest
    by_free free one = record {
      taken = one.taken;
      parts = one.parts;
      again = λ other same.
          is (spot p (one.taken ++ other))
          ∙ if_is first_alone _ false _ _ (test_first first_alone t seen ts (one.taken ++ other) (same_first first_alone one.taken rest other ts one.parts same) ∙ free) ∙ one.again other same;
    }

    by_stop : t ts ≡ true → SameStop A c (by_syntax d) × (ts ≡ rest) → Alike first_alone h p ts (stops c) rest
    by_stop barred (stop, same) =
        in_place first_alone h p ts (stops c) rest same (λ other like.
        is (spot p other) ∙ if_is first_alone _ true _ _ (test_first first_alone t seen rest other like ∙ sym (ap t same) ∙ barred) ∙ ap (λ x. ended x other) (sym stop))

    by_test : (b : Bool) → t ts ≡ b → (if b then stopped d ts else scan f (spot p ts)) ≡ halted c rest → Alike first_alone h p ts (stops c) rest
    by_test true barred one = by_stop barred (halted_is first_alone (by_syntax d) ts (stops c) rest one)
    by_test false free one = by_free free (hf p ts c rest one)

-- Rounds that end where a fork is next.

abbrev pub EndsAtFork : Sight → {S A : Type 0} → (S → Grammar (Step S A)) → Type 0
EndsAtFork sight {S} {A} f = (s : S) (p : ℕ) (k : Kind) (r : List Kind) → sight.fork k ≡ true → (v : A) × (scan (f s) (spot p (k ∷ r)) ≡ said (done v) (spot p (k ∷ r)))

round_passes : {S A : Type 0} (round : Scan (Step S A)) (go : S → Spot → Scan A) (x : Spot) (c : Halt) (rest : List Kind) → (v : A) × (round ≡ said (done v) x) → ¬ (and_then round (stepping go) ≡ halted c rest)
round_passes round go x c rest (v, is) e = let there = sym (ap (λ y. and_then y (stepping go)) is) ∙ e in cc

rounds_pass : (sight : Sight) {S A : Type 0} (f : S → Grammar (Step S A)) → EndsAtFork sight f → (n : ℕ) (s : S) (p : ℕ) (k : Kind) (r : List Kind) (c : Halt) (rest : List Kind) → sight.fork k ≡ true
    → ¬ (scan_rounds n (λ t z. scan (f t) z) s (spot p (k ∷ r)) ≡ halted c rest)
rounds_pass sight f ends zero s p k r c rest fork e = round_passes (scan (f s) (spot p (k ∷ r))) _ (spot p (k ∷ r)) c rest (ends s p k r fork) e
rounds_pass sight f ends (suc n) s p k r c rest fork e = round_passes (scan (f s) (spot p (k ∷ r))) _ (spot p (k ∷ r)) c rest (ends s p k r fork) e

pub ending_passes : (sight : Sight) {S A : Type 0} (f : S → Grammar (Step S A)) → EndsAtFork sight f → (s : S) → Passes sight (rounds f s)
ending_passes sight f ends s p k r c fork e = rounds_pass sight f ends (length (k ∷ r)) s p k r c (k ∷ r) fork e

module _ (sight : Sight) {S A : Type 0} (f : S → Grammar (Step S A)) (clear : (s : S) → ClearBy (IsSeen sight) (f s)) (never : (t u : S) (ts : List Kind) → ¬ (MayEmpty (f t) (onward u) ts))
    (h : (s : S) → Quiet (f s)) (ends : EndsAtFork sight f) where
  stopped_round : (s : S) (p : ℕ) (ts : List Kind) (c d : Halt) (rest : List Kind) → scan (f s) (spot p ts) ≡ halted d rest → SameStop A c d → RoundsAlike first_alone f s p ts (stops c) rest
  stopped_round s p ts c d rest one is = last_alike first_alone f s p ts (stops d) (stops c) rest (h s p ts d rest one) (λ go other. ap (λ x. ended x other) (sym is))

  shorter : (s t : S) (p : ℕ) (ts : List Kind) (a : Step S A) (z : Spot) → scan (f s) (spot p ts) ≡ said a z → a ≡ onward t → length z.1 < length ts
  shorter s t p ts a z one is = onward_shorter first_alone (IsSeen sight) f clear never s t p ts a z one is

  rounds_stop : (n : ℕ) (s : S) (p : ℕ) (ts : List Kind) (c : Halt) (rest : List Kind) → length ts ≤ n → scan_rounds n (λ t z. scan (f t) z) s (spot p ts) ≡ halted c rest → RoundsAlike first_alone f s p ts (stops c) rest
  rounds_stop zero s p ts c rest fits at = by_step (then_ended first_alone (scan (f s) (spot p ts)) _ (stops c) rest at)
    where
      by_end : (a : Step S A) (z : Spot) → scan (f s) (spot p ts) ≡ said a z → ((v : A) × (a ≡ done v) × (◌≡◌ {A = Scan A} (said v z) (halted c rest))) ⊎ ((t : S) × (a ≡ onward t) × (◌≡◌ {A = Scan A} (stopped Unexpected z.1) (halted c rest))) → RoundsAlike first_alone f s p ts (stops c) rest
      by_end a z one (inl (v, is, same)) = absurd cc
      by_end a z one (inr (t, is, same)) =
          let less : length z.1 < length ts = shorter s t p ts a z one is in
          absurd (omega arith)

      by_step : ((a : Step S A) × (z : Spot) × (scan (f s) (spot p ts) ≡ said a z) × (stepping (λ t y. stopped Unexpected y.1) a z ≡ halted c rest)) ⊎ ((d : Halt) × (scan (f s) (spot p ts) ≡ halted d rest) × SameStop A c d) → RoundsAlike first_alone f s p ts (stops c) rest
      by_step (inl (a, z, one, two)) = by_end a z one (stepping_ended first_alone _ a z (stops c) rest two)
      by_step (inr (d, one, is)) = stopped_round s p ts c d rest one is
  rounds_stop (suc n) s p ts c rest fits at = by_step (then_ended first_alone (scan (f s) (spot p ts)) _ (stops c) rest at) (rounds_stop n)
    where
      free : (t : S) (q : ℕ) (mid taken : List Kind) → scan_rounds n (λ t z. scan (f t) z) t (spot q mid) ≡ halted c rest → mid ≡ taken ++ rest → taken ≡ [] → (k : Kind) (r : List Kind) → rest ≡ k ∷ r → ¬ (sight.fork k ≡ true)
      free t q mid taken two parts none k r is fork =
          let there : mid ≡ k ∷ r = parts ∙ ap (λ x. x ++ rest) none ∙ is in
          rounds_pass sight f ends n t q k r c rest fork (sym (ap (λ x. scan_rounds n (λ t z. scan (f t) z) t (spot q x)) there) ∙ two)

      by_more : (t : S) (q : ℕ) (mid : List Kind) → Alike sight (f s) p ts (says (onward t) q) mid → length mid < length ts → scan_rounds n (λ t z. scan (f t) z) t (spot q mid) ≡ halted c rest → RoundsAlike first_alone f t q mid (stops c) rest
          → RoundsAlike first_alone f s p ts (stops c) rest
      by_more t q mid one less at two =
          more_alike first_alone f s t p ts q mid (stops c) rest one.taken one.parts less two
          (λ other same. one.again (two.taken ++ other) (like_parts sight mid two.taken rest other two.parts same (free t q mid two.taken at two.parts)))

      by_end : (a : Step S A) (z : Spot) → scan (f s) (spot p ts) ≡ said a z → ((v : A) × (a ≡ done v) × (◌≡◌ {A = Scan A} (said v z) (halted c rest))) ⊎ ((t : S) × (a ≡ onward t) × (scan_rounds n (λ t z. scan (f t) z) t z ≡ halted c rest))
          → ((s : S) (p : ℕ) (ts : List Kind) (c : Halt) (rest : List Kind) → length ts ≤ n → scan_rounds n (λ t z. scan (f t) z) s (spot p ts) ≡ halted c rest → RoundsAlike first_alone f s p ts (stops c) rest) → RoundsAlike first_alone f s p ts (stops c) rest
      by_end a z one (inl (v, is, same)) later = absurd cc
      by_end a z one (inr (t, is, same)) later =
          let less : length z.1 < length ts = shorter s t p ts a z one is in
          let fits_less : length z.1 ≤ n = omega arith in
          by_more t z.0 z.1 (alike sight (f s) (clear s) p ts (says (onward t) z.0) z.1 (one ∙ ap (λ x. said x z) is)) less same (later t z.0 z.1 c rest fits_less same)

      by_step : ((a : Step S A) × (z : Spot) × (scan (f s) (spot p ts) ≡ said a z) × (stepping (scan_rounds n (λ t z. scan (f t) z)) a z ≡ halted c rest)) ⊎ ((d : Halt) × (scan (f s) (spot p ts) ≡ halted d rest) × SameStop A c d)
          → ((s : S) (p : ℕ) (ts : List Kind) (c : Halt) (rest : List Kind) → length ts ≤ n → scan_rounds n (λ t z. scan (f t) z) s (spot p ts) ≡ halted c rest → RoundsAlike first_alone f s p ts (stops c) rest) → RoundsAlike first_alone f s p ts (stops c) rest
      by_step (inl (a, z, one, two)) later = by_end a z one (stepping_ended first_alone _ a z (stops c) rest two) later
      by_step (inr (d, one, is)) later = stopped_round s p ts c d rest one is

  pub rounds_quiet : (s : S) → Quiet (rounds f s)
  rounds_quiet s p ts c rest e = rounds_one first_alone f s p ts (stops c) rest (rounds_stop (length ts) s p ts c rest (omega arith) e)

pub rounds_steady : (T : (List Kind → Bool) → Type 0) {S A : Type 0} (f : S → Grammar (Step S A)) → ((s : S) → ClearBy T (f s)) → ((t u : S) (ts : List Kind) → ¬ (MayEmpty (f t) (onward u) ts)) → ((s : S) → Steady (f s)) → (s : S) → Steady (rounds f s)
rounds_steady T f clear never h s p ts e rest at = rounds_one first_alone f s p ts e rest (rounds_alike first_alone T f clear never h (length ts) s p ts e rest (omega arith) at)
