-- A reading depends on the tokens up to its place, and the first one behind, alone. So no fine text begins with the tokens up
-- to the place where syntax stops a reading, and the one that is there.
use Rattle.std.proofs.Common.{◌≡◌, ℕ, zero, suc, pred, ◌+◌, ◌<◌, ◌≤◌, ◌⊎◌, inl, inr, Bool, true, false, not, ◌&&◌, ◌||◌, List, [], ◌∷◌, ◌++◌, length, Option, Some, None, refl, sym, ap, ◌∙◌, arith, subst, append_assoc, length-append, if◌then◌else◌}
use Rattle.ixp_lang_tokens.specs.declared.token.Kind.{Kind}
use Rattle.ixp_lang_tokens.specs.declared.fault.Cause.{Cause}
use Rattle.ixp_lang_tokens.specs.declared.fault.Cause.TheVariants.{Unexpected}
use Rattle.ixp_lang_tokens.specs.Grammars.{Step, onward, done, Grammar, gives, takes, sequence, choice, rounds, checks, bars, unless, here}
use Rattle.ixp_lang_tokens.specs.Syntax.{Spot, spot, Fine, Halt, by_syntax, by_check, Scan, said, halted, stopped, and_then, begins_at, scanned, stepping, scan_rounds, scan}
use Rattle.ixp_lang_tokens.proofs.Clear.{MayEmpty, Sight, IsSeen, ClearBy}
use Rattle.ixp_lang_tokens.proofs.Seen.{Like, like_behind, like_of}
use Rattle.ixp_lang_tokens.proofs.Sizes.{fewer}
use Rattle.ixp_lang_tokens.proofs.Fines.{goes_no_end_by}
use Rattle.ixp_lang_tokens.proofs.Stops.{halts_same, said_fine, IsRead, reads_fine}

-- an end: the value and the number of the place behind it, or why it halts
pub data End (A : Type 0) : Type 0 where
  says : A → ℕ → End A
  stops : Halt → End A

abbrev pub ended : {A : Type 0} → End A → List Kind → Scan A
ended (says v q) rest = said v (spot q rest)
ended (stops c) rest = halted c rest

pub record Alike (sight : Sight) {A : Type 0} (f : Grammar A) (p : ℕ) (ts : List Kind) (e : End A) (rest : List Kind) : Type 0 where
  pub taken : List Kind
  pub parts : ts ≡ taken ++ rest
  pub again : (other : List Kind) → Like sight rest other → scan f (spot p (taken ++ other)) ≡ ended e other

pub record RoundsAlike (sight : Sight) {S A : Type 0} (f : S → Grammar (Step S A)) (s : S) (p : ℕ) (ts : List Kind) (e : End A) (rest : List Kind) : Type 0 where
  pub taken : List Kind
  pub parts : ts ≡ taken ++ rest
  pub again : (m : ℕ) (other : List Kind) → Like sight rest other → length (taken ++ other) ≤ m → scan_rounds m (λ t z. scan (f t) z) s (spot p (taken ++ other)) ≡ ended e other

module _ (sight : Sight) where
  abbrev pub IsAlike : {A : Type 0} → Grammar A → Type 0
  IsAlike {A} f = (p : ℕ) (ts : List Kind) (e : End A) (rest : List Kind) → scan f (spot p ts) ≡ ended e rest → Alike sight f p ts e rest

  pub then_ended : {A B : Type 0} (s : Scan A) (g : A → Spot → Scan B) (e : End B) (rest : List Kind) → and_then s g ≡ ended e rest
      → ((a : A) × (z : Spot) × (s ≡ said a z) × (g a z ≡ ended e rest)) ⊎ ((c : Halt) × (s ≡ halted c rest) × (e ≡ stops c))
  then_ended (said a z) g e rest h = inl (a, z, refl, h)
  then_ended {A} {B} (halted c r) g (stops d) rest h = inr (d, let both = halts_same B c d r rest h in ap (λ x. halted x r) both.0 ∙ ap (halted d) both.1, refl)
  then_ended (halted c r) g (says v q) rest h = absurd cc

  -- the same first token, behind the same tokens
  pub same_first : (taken rest other ts : List Kind) → ts ≡ taken ++ rest → Like sight rest other → Like sight ts (taken ++ other)
  same_first taken rest other ts parts same = subst (λ x. Like sight x (taken ++ other)) (sym parts) (like_behind sight taken rest other same)

  pub cons_head : (k : Kind) (ts : List Kind) (j : Kind) (us : List Kind) → (k ∷ ts) ≡ j ∷ us → k ≡ j
  cons_head k ts j us e = cc

  pub none_first : (rest other : List Kind) → [] ≡ rest → ¬ (Like sight rest other)
  none_first rest other none same = let e : [] ≡ same.token ∷ same.first_rest = none ∙ same.first in cc

  pub in_place : {A : Type 0} (f : Grammar A) (p : ℕ) (ts : List Kind) (e : End A) (rest : List Kind) → ts ≡ rest → ((other : List Kind) → Like sight rest other → scan f (spot p other) ≡ ended e other) → Alike sight f p ts e rest
  in_place f p ts e rest same h = record { taken = []; parts = same; again = h }

  -- a part that says b again before what is alike, and then another
  pub both_alike : {A B : Type 0} (f : Grammar B) (g : B → Grammar A) (b : B) (p : ℕ) (ts : List Kind) (q : ℕ) (mid : List Kind) (e : End A) (rest front : List Kind) → ts ≡ front ++ mid → (two : Alike sight (g b) q mid e rest)
      → ((other : List Kind) → Like sight rest other → scan f (spot p (front ++ (two.taken ++ other))) ≡ said b (spot q (two.taken ++ other))) → Alike sight (sequence f g) p ts e rest
  both_alike f g b p ts q mid e rest front parts two again = record {
    taken = front ++ two.taken;
    parts = parts ∙ ap (λ x. front ++ x) two.parts ∙ sym (append_assoc front two.taken rest);
    again = λ other same.
        ap (λ x. and_then (scan f (spot p x)) (λ a y. scan (g a) y)) (append_assoc front two.taken other)
        ∙ ap (λ x. and_then x (λ a y. scan (g a) y)) (again other same)
        ∙ two.again other same;
  }

  -- the first part stops
  pub stop_first : {A B : Type 0} (f : Grammar B) (g : B → Grammar A) (p : ℕ) (ts : List Kind) (e : End A) (rest : List Kind) (c : Halt) → Alike sight f p ts (stops c) rest → e ≡ stops c → Alike sight (sequence f g) p ts e rest
  stop_first f g p ts e rest c one is = record {
    taken = one.taken;
    parts = one.parts;
    again = λ other same. ap (λ x. and_then x (λ a y. scan (g a) y)) (one.again other same) ∙ ap (λ x. ended x other) (sym is);
  }

  pub sequence_alike : {A B : Type 0} (f : Grammar B) (g : B → Grammar A) → IsAlike f → ((b : B) → IsAlike (g b)) → IsAlike (sequence f g)
  sequence_alike {A} {B} f g hf hg p ts e rest h = by_parts (then_ended (scan f (spot p ts)) _ e rest h)
    where
      by_both : (b : B) (q : ℕ) (mid : List Kind) → Alike sight f p ts (says b q) mid → Alike sight (g b) q mid e rest → Alike sight (sequence f g) p ts e rest
      by_both b q mid one two = both_alike f g b p ts q mid e rest one.taken one.parts two (λ other same. one.again (two.taken ++ other) (same_first two.taken rest other mid two.parts same))

      by_parts : ((b : B) × (z : Spot) × (scan f (spot p ts) ≡ said b z) × (scan (g b) z ≡ ended e rest)) ⊎ ((c : Halt) × (scan f (spot p ts) ≡ halted c rest) × (e ≡ stops c)) → Alike sight (sequence f g) p ts e rest
      by_parts (inl (b, z, one, two)) = by_both b z.0 z.1 (hf p ts (says b z.0) z.1 one) (hg b z.0 z.1 e rest two)
      by_parts (inr (c, one, is)) = stop_first f g p ts e rest c (hf p ts (stops c) rest one) is

  pub begins_alike : {A : Type 0} (f : Grammar A) → ClearBy (IsSeen sight) f → (p : ℕ) (k : Kind) (r s : List Kind) → (sight.fork k ≡ true → sight.turn r ≡ sight.turn s) → begins_at f (spot p (k ∷ r)) ≡ begins_at f (spot p (k ∷ s))
  begins_alike (gives w) clear p k r s h = refl
  begins_alike (takes c) clear p k r s h = refl
  begins_alike (sequence f g) clear p k r s h = begins_alike f clear.0 p k r s h
  begins_alike (choice f g) clear p k r s h = ap (λ b. b || begins_at g (spot p (k ∷ r))) (begins_alike f clear.1 p k r s h) ∙ ap (λ b. begins_at f (spot p (k ∷ s)) || b) (begins_alike g clear.2 p k r s h)
  begins_alike (rounds f t) clear p k r s h = begins_alike (f t) (clear.0 t) p k r s h
  begins_alike (checks o f) clear p k r s h = begins_alike f clear p k r s h
  begins_alike (bars t c f) clear p k r s h = ap (λ b. b || begins_at f (spot p (k ∷ r))) (clear.0.1 k r s h) ∙ ap (λ b. t (k ∷ s) || b) (begins_alike f clear.1 p k r s h)
  begins_alike (unless t f) clear p k r s h = ap (λ b. not b && begins_at f (spot p (k ∷ r))) (clear.0.1 k r s h) ∙ ap (λ b. not (t (k ∷ s)) && b) (begins_alike f clear.1 p k r s h)
  begins_alike (here f) clear p k r s h = begins_alike (f p) (clear p) p k r s h

  -- it begins with the one where it begins with the other
  abbrev pub BeginsAlike : {A : Type 0} → Grammar A → Type 0
  BeginsAlike f = (p : ℕ) (k : Kind) (r s : List Kind) → (sight.fork k ≡ true → sight.turn r ≡ sight.turn s) → begins_at f (spot p (k ∷ r)) ≡ begins_at f (spot p (k ∷ s))

  pub begins_first : {A : Type 0} (f : Grammar A) → BeginsAlike f → (p : ℕ) (r s : List Kind) → Like sight r s → begins_at f (spot p s) ≡ begins_at f (spot p r)
  begins_first f begins p r s same =
      ap (λ x. begins_at f (spot p x)) same.second ∙ begins p same.token same.second_rest same.first_rest (λ e. sym (same.next e)) ∙ sym (ap (λ x. begins_at f (spot p x)) same.first)

  pub test_first : (t : List Kind → Bool) → IsSeen sight t → (r s : List Kind) → Like sight r s → t s ≡ t r
  test_first t first r s same = ap t same.second ∙ first.1 same.token same.second_rest same.first_rest (λ e. sym (same.next e)) ∙ sym (ap t same.first)

  pub if_is : {A : Type 0} (b c : Bool) (s t : A) → b ≡ c → (if b then s else t) ≡ (if c then s else t)
  if_is b c s t e = ap (λ x. if x then s else t) e

  pub choice_alike : {A : Type 0} (f g : Grammar A) → BeginsAlike f → IsAlike f → IsAlike g → IsAlike (choice f g)
  choice_alike {A} f g clear hf hg p ts e rest h = by_first (begins_at f (spot p ts)) refl h
    where
      by_one : (b : Bool) → begins_at f (spot p ts) ≡ b → (c : Grammar A) → ((x : Spot) → (if b then scan f x else scan g x) ≡ scan c x) → Alike sight c p ts e rest → Alike sight (choice f g) p ts e rest
      by_one b is c chosen one = record {
        taken = one.taken;
        parts = one.parts;
        again = λ other same.
            if_is _ b _ _ (begins_first f clear p ts (one.taken ++ other) (same_first one.taken rest other ts one.parts same) ∙ is)
            ∙ chosen (spot p (one.taken ++ other)) ∙ one.again other same;
      }

      by_first : (b : Bool) → begins_at f (spot p ts) ≡ b → (if b then scan f (spot p ts) else scan g (spot p ts)) ≡ ended e rest → Alike sight (choice f g) p ts e rest
      by_first true is one = by_one true is f (λ x. refl) (hf p ts e rest one)
      by_first false is one = by_one false is g (λ x. refl) (hg p ts e rest one)

  pub halted_is : {A : Type 0} (c : Halt) (r : List Kind) (e : End A) (rest : List Kind) → halted c r ≡ ended e rest → (e ≡ stops c) × (r ≡ rest)
  halted_is {A} c r (stops d) rest h = let both = halts_same A c d r rest h in (sym (ap stops both.0), both.1)
  halted_is c r (says v q) rest h = absurd cc

  -- a test, and what stands where it fails
  pub test_alike : {A : Type 0} (f h : Grammar A) (t : List Kind → Bool) (c : Cause) → IsSeen sight t → IsAlike f → ((x : Spot) → scan h x ≡ (if t x.1 then stopped c x.1 else scan f x)) → IsAlike h
  test_alike {A} f h t c first hf is p ts e rest at = by_test (t ts) refl (sym (is (spot p ts)) ∙ at)
    where
      by_free : t ts ≡ false → Alike sight f p ts e rest → Alike sight h p ts e rest
      by_free free one = record {
        taken = one.taken;
        parts = one.parts;
        again = λ other same.
            is (spot p (one.taken ++ other)) ∙ if_is _ false _ _ (test_first t first ts (one.taken ++ other) (same_first one.taken rest other ts one.parts same) ∙ free) ∙ one.again other same;
      }

      by_stop : t ts ≡ true → (e ≡ stops (by_syntax c)) × (ts ≡ rest) → Alike sight h p ts e rest
      by_stop barred (stop, same) =
          in_place h p ts e rest same (λ other alike.
          is (spot p other) ∙ if_is _ true _ _ (test_first t first rest other alike ∙ sym (ap t same) ∙ barred) ∙ ap (λ x. ended x other) (sym stop))

      by_test : (b : Bool) → t ts ≡ b → (if b then stopped c ts else scan f (spot p ts)) ≡ ended e rest → Alike sight h p ts e rest
      by_test true barred one = by_stop barred (halted_is (by_syntax c) ts e rest one)
      by_test false free one = by_free free (hf p ts e rest one)

  -- Rounds, whatever number of them is enough.

  pub stepping_ended : {S A : Type 0} (go : S → Spot → Scan A) (a : Step S A) (z : Spot) (e : End A) (rest : List Kind) → stepping go a z ≡ ended e rest
      → ((v : A) × (a ≡ done v) × (said v z ≡ ended e rest)) ⊎ ((t : S) × (a ≡ onward t) × (go t z ≡ ended e rest))
  stepping_ended go (onward t) z e rest h = inr (t, refl, h)
  stepping_ended go (done v) z e rest h = inl (v, refl, h)

  said_place : {A : Type 0} (v w : A) (z : Spot) (q : ℕ) (rest : List Kind) → said v z ≡ said w (spot q rest) → z ≡ spot q rest
  said_place v w z q rest h = cc

  said_value : {A : Type 0} (v w : A) (z y : Spot) → said v z ≡ said w y → v ≡ w
  said_value v w z y h = cc

  said_end : {A : Type 0} (v w : A) (z : Spot) (q : ℕ) (rest : List Kind) → v ≡ w → z ≡ spot q rest → says w q ≡ says v z.0
  said_end v w z q rest is same = sym (ap (λ x. says x z.0) is ∙ ap (λ (x : Spot). says w x.0) same)

  pub said_is : {A : Type 0} (v : A) (z : Spot) (e : End A) (rest : List Kind) → said v z ≡ ended e rest → (e ≡ says v z.0) × (z.1 ≡ rest)
  said_is v z (says w q) rest h = (said_end v w z q rest (said_value v w z (spot q rest) h) (said_place v w z q rest h), ap (λ (x : Spot). x.1) (said_place v w z q rest h))
  said_is v z (stops c) rest h = absurd cc

  some_rounds : {S A : Type 0} (m : ℕ) (round : S → Spot → Scan (Step S A)) (s : S) (x : Spot) (e : End A) (rest : List Kind) → ((go : S → Spot → Scan A) → and_then (round s x) (stepping go) ≡ ended e rest) → scan_rounds m round s x ≡ ended e rest
  some_rounds zero round s x e rest h = h _
  some_rounds (suc m) round s x e rest h = h _

  -- the last round, or one that stops
  pub last_alike : {S A : Type 0} (f : S → Grammar (Step S A)) (s : S) (p : ℕ) (ts : List Kind) (a : End (Step S A)) (e : End A) (rest : List Kind) → Alike sight (f s) p ts a rest
      → ((go : S → Spot → Scan A) (other : List Kind) → and_then (ended a other) (stepping go) ≡ ended e other) → RoundsAlike sight f s p ts e rest
  last_alike f s p ts a e rest one h = record {
    taken = one.taken;
    parts = one.parts;
    again = λ m other same fits. some_rounds m _ s (spot p (one.taken ++ other)) e other (λ go. ap (λ x. and_then x (stepping go)) (one.again other same) ∙ h go other);
  }

  first_size : (r s : List Kind) → Like sight r s → 0 < length s
  first_size r s same = subst (λ x. 0 < length x) (sym same.second) (omega arith)

  more_size : (xs : List Kind) (a b : List Kind) → length (xs ++ (a ++ b)) ≡ length xs + length (a ++ b)
  more_size xs a b = length-append xs (a ++ b)

  -- a round that says again that it goes on before what is alike, and then others
  pub more_alike : {S A : Type 0} (f : S → Grammar (Step S A)) (s t : S) (p : ℕ) (ts : List Kind) (q : ℕ) (mid : List Kind) (e : End A) (rest front : List Kind) → ts ≡ front ++ mid
      → length mid < length ts → (two : RoundsAlike sight f t q mid e rest)
      → ((other : List Kind) → Like sight rest other → scan (f s) (spot p (front ++ (two.taken ++ other))) ≡ said (onward t) (spot q (two.taken ++ other))) → RoundsAlike sight f s p ts e rest
  more_alike {S} {A} f s t p ts q mid e rest front parts less two again = record {
    taken = front ++ two.taken;
    parts = parts ∙ ap (λ x. front ++ x) two.parts ∙ sym (append_assoc front two.taken rest);
    again = λ m other same fits. ap (λ x. scan_rounds m (λ t z. scan (f t) z) s (spot p x)) (append_assoc front two.taken other) ∙ by_fuel m other same (subst (λ x. length x ≤ m) (append_assoc front two.taken other) fits);
  }
    where
      by_fuel : (m : ℕ) (other : List Kind) → Like sight rest other → length (front ++ (two.taken ++ other)) ≤ m → scan_rounds m (λ t z. scan (f t) z) s (spot p (front ++ (two.taken ++ other))) ≡ ended e other
      by_fuel zero other same fits =
          let size : length (front ++ (two.taken ++ other)) ≡ length front + length (two.taken ++ other) = length-append front (two.taken ++ other) in
          let inner : length (two.taken ++ other) ≡ length two.taken + length other = length-append two.taken other in
          let some : 0 < length other = first_size rest other same in
          absurd (omega arith)
      by_fuel (suc m) other same fits =
          let size : length (front ++ (two.taken ++ other)) ≡ length front + length (two.taken ++ other) = length-append front (two.taken ++ other) in
          let before : length ts ≡ length front + length mid = ap length parts ∙ length-append front mid in
          let fits_less : length (two.taken ++ other) ≤ m = omega arith in
          ap (λ x. and_then x (stepping (scan_rounds m (λ t z. scan (f t) z)))) (again other same)
          ∙ two.again m other same fits_less

  one_more : {S A : Type 0} (f : S → Grammar (Step S A)) (s t : S) (p : ℕ) (ts : List Kind) (q : ℕ) (mid : List Kind) (e : End A) (rest : List Kind) → Alike sight (f s) p ts (says (onward t) q) mid
      → length mid < length ts → RoundsAlike sight f t q mid e rest → RoundsAlike sight f s p ts e rest
  one_more f s t p ts q mid e rest one less two =
      more_alike f s t p ts q mid e rest one.taken one.parts less two (λ other same. one.again (two.taken ++ other) (same_first two.taken rest other mid two.parts same))

  pub done_alike : {S A : Type 0} (f : S → Grammar (Step S A)) → ((s : S) → IsAlike (f s)) → (s : S) (p : ℕ) (ts : List Kind) (a : Step S A) (z : Spot) (v : A) (e : End A) (rest : List Kind)
      → scan (f s) (spot p ts) ≡ said a z → a ≡ done v → (e ≡ says v z.0) × (z.1 ≡ rest) → RoundsAlike sight f s p ts e rest
  done_alike f h s p ts a z v e rest one is (end, there) =
      last_alike f s p ts (says (done v) z.0) e rest (h s p ts (says (done v) z.0) rest (one ∙ ap (λ x. said x z) is ∙ ap (λ x. said (done v) (spot z.0 x)) there)) (λ go other. ap (λ x. ended x other) (sym end))

  pub onward_shorter : (T : (List Kind → Bool) → Type 0) {S A : Type 0} (f : S → Grammar (Step S A)) → ((s : S) → ClearBy T (f s)) → ((t u : S) → (ts : List Kind) → ¬ (MayEmpty (f t) (onward u) ts)) → (s t : S) (p : ℕ) (ts : List Kind) (a : Step S A) (z : Spot)
      → scan (f s) (spot p ts) ≡ said a z → a ≡ onward t → length z.1 < length ts
  onward_shorter T f clear never s t p ts a z one is =
      fewer T (f s) (clear s) (onward t) (spot p ts) z (said_fine (f s) (spot p ts) (onward t) z (one ∙ ap (λ x. said x z) is)) (never s t)

  pub rounds_alike : (T : (List Kind → Bool) → Type 0) {S A : Type 0} (f : S → Grammar (Step S A)) → ((s : S) → ClearBy T (f s)) → ((t u : S) → (ts : List Kind) → ¬ (MayEmpty (f t) (onward u) ts)) → ((s : S) → IsAlike (f s))
      → (n : ℕ) (s : S) (p : ℕ) (ts : List Kind) (e : End A) (rest : List Kind) → length ts ≤ n → scan_rounds n (λ t z. scan (f t) z) s (spot p ts) ≡ ended e rest → RoundsAlike sight f s p ts e rest
  rounds_alike T {S} {A} f clear never h zero s p ts e rest fits at = by_step (then_ended (scan (f s) (spot p ts)) _ e rest at)
    where
      by_end : (a : Step S A) (z : Spot) → scan (f s) (spot p ts) ≡ said a z → ((v : A) × (a ≡ done v) × (said v z ≡ ended e rest)) ⊎ ((t : S) × (a ≡ onward t) × (stopped Unexpected z.1 ≡ ended e rest)) → RoundsAlike sight f s p ts e rest
      by_end a z one (inl (v, is, same)) = done_alike f h s p ts a z v e rest one is (said_is v z e rest same)
      by_end a z one (inr (t, is, same)) =
          let less : length z.1 < length ts = onward_shorter T f clear never s t p ts a z one is in
          absurd (omega arith)

      by_step : ((a : Step S A) × (z : Spot) × (scan (f s) (spot p ts) ≡ said a z) × (stepping (λ t y. stopped Unexpected y.1) a z ≡ ended e rest)) ⊎ ((c : Halt) × (scan (f s) (spot p ts) ≡ halted c rest) × (e ≡ stops c)) → RoundsAlike sight f s p ts e rest
      by_step (inl (a, z, one, two)) = by_end a z one (stepping_ended _ a z e rest two)
      by_step (inr (c, one, is)) = last_alike f s p ts (stops c) e rest (h s p ts (stops c) rest one) (λ go other. ap (λ x. ended x other) (sym is))
  rounds_alike T {S} {A} f clear never h (suc n) s p ts e rest fits at = by_step (then_ended (scan (f s) (spot p ts)) _ e rest at) (rounds_alike T f clear never h n)
    where
      by_end : (a : Step S A) (z : Spot) → scan (f s) (spot p ts) ≡ said a z → ((v : A) × (a ≡ done v) × (said v z ≡ ended e rest)) ⊎ ((t : S) × (a ≡ onward t) × (scan_rounds n (λ t z. scan (f t) z) t z ≡ ended e rest))
          → ((s : S) (p : ℕ) (ts : List Kind) (e : End A) (rest : List Kind) → length ts ≤ n → scan_rounds n (λ t z. scan (f t) z) s (spot p ts) ≡ ended e rest → RoundsAlike sight f s p ts e rest) → RoundsAlike sight f s p ts e rest
      by_end a z one (inl (v, is, same)) later = done_alike f h s p ts a z v e rest one is (said_is v z e rest same)
      by_end a z one (inr (t, is, same)) later =
          let less : length z.1 < length ts = onward_shorter T f clear never s t p ts a z one is in
          let fits_less : length z.1 ≤ n = omega arith in
          one_more f s t p ts z.0 z.1 e rest (h s p ts (says (onward t) z.0) z.1 (one ∙ ap (λ x. said x z) is)) less (later t z.0 z.1 e rest fits_less same)

      by_step : ((a : Step S A) × (z : Spot) × (scan (f s) (spot p ts) ≡ said a z) × (stepping (scan_rounds n (λ t z. scan (f t) z)) a z ≡ ended e rest)) ⊎ ((c : Halt) × (scan (f s) (spot p ts) ≡ halted c rest) × (e ≡ stops c))
          → ((s : S) (p : ℕ) (ts : List Kind) (e : End A) (rest : List Kind) → length ts ≤ n → scan_rounds n (λ t z. scan (f t) z) s (spot p ts) ≡ ended e rest → RoundsAlike sight f s p ts e rest) → RoundsAlike sight f s p ts e rest
      by_step (inl (a, z, one, two)) later = by_end a z one (stepping_ended _ a z e rest two) later
      by_step (inr (c, one, is)) later = last_alike f s p ts (stops c) e rest (h s p ts (stops c) rest one) (λ go other. ap (λ x. ended x other) (sym is))

  pub rounds_one : {S A : Type 0} (f : S → Grammar (Step S A)) (s : S) (p : ℕ) (ts : List Kind) (e : End A) (rest : List Kind) → RoundsAlike sight f s p ts e rest → Alike sight (rounds f s) p ts e rest
  rounds_one f s p ts e rest m = record { taken = m.taken; parts = m.parts; again = λ other same. m.again (length (m.taken ++ other)) other same (omega arith) }

  stop_again : {A : Type 0} (c : Kind → Option A) (p : ℕ) (k : Kind) (ts : List Kind) (e : End A) → c k ≡ None → e ≡ stops (by_syntax Unexpected) → (other : List Kind) → Like sight (k ∷ ts) other → scan (takes c) (spot p other) ≡ ended e other
  stop_again c p k ts e is end other same =
      let first : k ≡ same.token = cons_head k ts same.token same.first_rest same.first in
      subst (λ x. scan (takes c) (spot p x) ≡ ended e x) (sym same.second)
      (ap (λ x. scanned x p same.token same.second_rest) (sym (ap c first) ∙ is) ∙ ap (λ x. ended x (same.token ∷ same.second_rest)) (sym end))

  stop_alike : {A : Type 0} (c : Kind → Option A) (p : ℕ) (k : Kind) (ts : List Kind) (e : End A) (rest : List Kind) → c k ≡ None → (e ≡ stops (by_syntax Unexpected)) × ((k ∷ ts) ≡ rest) → Alike sight (takes c) p (k ∷ ts) e rest
  stop_alike c p k ts e rest is (end, same) = in_place (takes c) p (k ∷ ts) e rest same (λ other first. stop_again c p k ts e is end other (subst (λ x. Like sight x other) (sym same) first))

  takes_ended : {A : Type 0} (c : Kind → Option A) (o : Option A) (p : ℕ) (k : Kind) (ts : List Kind) (e : End A) (rest : List Kind) → c k ≡ o → scanned o p k ts ≡ ended e rest → Alike sight (takes c) p (k ∷ ts) e rest
  takes_ended {A} c (Some v) p k ts e rest is h = by_end (said_is v (spot (pred p) ts) e rest h)
    where
      by_end : (e ≡ says v (pred p)) × (ts ≡ rest) → Alike sight (takes c) p (k ∷ ts) e rest
      by_end (end, same) = record {
        taken = k ∷ [];
        parts = ap (λ x. k ∷ x) same;
        again = λ other alike. ap (λ x. scanned x p k other) is ∙ ap (λ x. ended x other) (sym end);
      }
  takes_ended {A} c None p k ts e rest is h = stop_alike c p k ts e rest is (halted_is (by_syntax Unexpected) (k ∷ ts) e rest h)

  no_tokens : {A : Type 0} (f : Grammar A) (p : ℕ) (e : End A) (rest : List Kind) → stopped Unexpected [] ≡ ended e rest → Alike sight f p [] e rest
  no_tokens f p e rest h = in_place f p [] e rest ((halted_is (by_syntax Unexpected) [] e rest h).1) (λ other alike. absurd (none_first rest other ((halted_is (by_syntax Unexpected) [] e rest h).1) alike))

  gives_alike : {A : Type 0} (w : A) (p : ℕ) (ts : List Kind) (e : End A) (rest : List Kind) → (e ≡ says w p) × (ts ≡ rest) → Alike sight (gives w) p ts e rest
  gives_alike w p ts e rest (end, same) = in_place (gives w) p ts e rest same (λ other alike. ap (λ x. ended x other) (sym end))

  refused_alike : {A : Type 0} (f : Grammar A) (fault : Cause × ℕ) (p : ℕ) (ts : List Kind) (e : End A) (rest : List Kind) → (e ≡ stops by_check) × (ts ≡ rest) → Alike sight (checks (Some fault) f) p ts e rest
  refused_alike f fault p ts e rest (end, same) = in_place (checks (Some fault) f) p ts e rest same (λ other alike. ap (λ x. ended x other) (sym end))

  pub checks_alike : {A : Type 0} (f : Grammar A) (o : Option (Cause × ℕ)) → IsAlike f → IsAlike (checks o f)
  checks_alike f None h p ts e rest at = by_same (h p ts e rest at)
    where
      by_same : Alike sight f p ts e rest → Alike sight (checks None f) p ts e rest
      by_same m = record { taken = m.taken; parts = m.parts; again = m.again }
  checks_alike f (Some fault) h p ts e rest at = refused_alike f fault p ts e rest (halted_is by_check ts e rest at)

  pub here_alike : {A : Type 0} (f : ℕ → Grammar A) (p : ℕ) (ts : List Kind) (e : End A) (rest : List Kind) → Alike sight (f p) p ts e rest → Alike sight (here f) p ts e rest
  here_alike f p ts e rest m = record { taken = m.taken; parts = m.parts; again = m.again }

  pub alike : {A : Type 0} (f : Grammar A) → ClearBy (IsSeen sight) f → IsAlike f
  alike (gives w) clear p ts e rest at = gives_alike w p ts e rest (said_is w (spot p ts) e rest at)
  alike (takes c) clear p [] e rest at = no_tokens (takes c) p e rest at
  alike (takes c) clear p (k ∷ ts) e rest at = takes_ended c (c k) p k ts e rest refl at
  alike (sequence f g) clear p ts e rest at = sequence_alike f g (alike f clear.0) (λ b. alike (g b) (clear.1 b)) p ts e rest at
  alike (choice f g) clear p ts e rest at = choice_alike f g (begins_alike f clear.1) (alike f clear.1) (alike g clear.2) p ts e rest at
  alike (rounds f s) clear p ts e rest at = rounds_one f s p ts e rest (rounds_alike (IsSeen sight) f clear.0 clear.1 (λ t. alike (f t) (clear.0 t)) (length ts) s p ts e rest (omega arith) at)
  alike (checks o f) clear p ts e rest at = checks_alike f o (alike f clear) p ts e rest at
  alike (bars t c f) clear p ts e rest at = test_alike f (bars t c f) t c clear.0 (alike f clear.1) (λ x. refl) p ts e rest at
  alike (unless t f) clear p ts e rest at = test_alike f (unless t f) t Unexpected clear.0 (alike f clear.1) (λ x. refl) p ts e rest at
  alike (here f) clear p ts e rest at = here_alike f p ts e rest (alike (f p) (clear p) p ts e rest at)

-- where syntax stops a reading at a token, no fine text begins with what is before it and that token; behind a fork, with the turn that is there
pub record NoMore (sight : Sight) {A : Type 0} (f : Grammar A) (p : ℕ) (ts : List Kind) (token : Kind) (rest : List Kind) : Type 0 where
  pub taken : List Kind
  pub parts : ts ≡ taken ++ token ∷ rest
  pub no_more : (more : List Kind) → (sight.fork token ≡ true → sight.turn rest ≡ sight.turn more) → (v : A) (q : ℕ) → ¬ (Fine f v (spot p (taken ++ token ∷ more)) (spot q []))

pub not_both : {A : Type 0} (s : Scan A) (c : Cause) (r : List Kind) (v : A) (y : Spot) → s ≡ stopped c r → IsRead s v y → ⊥
not_both s c r v y e (inl h) = cc
not_both s c r v y e (inr (rest, h)) = cc

-- where a reading depends on what is alike, whatever tests are asked
pub no_more_by : {T : (List Kind → Bool) → Type 0} (fails : (t : List Kind → Bool) → T t → t [] ≡ false) (sight : Sight) {A : Type 0} (f : Grammar A) → ClearBy T f → IsAlike sight f
    → (p : ℕ) (ts : List Kind) (c : Cause) (token : Kind) (rest : List Kind) → scan f (spot p ts) ≡ stopped c (token ∷ rest) → NoMore sight f p ts token rest
no_more_by {T} fails sight {A} f clear again p ts c token rest at = by_alike (again p ts (stops (by_syntax c)) (token ∷ rest) at)
  where
    by_alike : Alike sight f p ts (stops (by_syntax c)) (token ∷ rest) → NoMore sight f p ts token rest
    by_alike m = record {
      taken = m.taken;
      parts = m.parts;
      no_more = λ more next v q fine.
          not_both (scan f (spot p (m.taken ++ token ∷ more))) c (token ∷ more) v (spot q []) (m.again (token ∷ more) (like_of sight token rest more next))
          (reads_fine T f clear v (spot p (m.taken ++ token ∷ more)) (spot q []) fine (goes_no_end_by fails f clear v));
    }

pub no_more_text : (sight : Sight) {A : Type 0} (f : Grammar A) → ClearBy (IsSeen sight) f → (p : ℕ) (ts : List Kind) (c : Cause) (token : Kind) (rest : List Kind) → scan f (spot p ts) ≡ stopped c (token ∷ rest)
    → NoMore sight f p ts token rest
no_more_text sight f clear p ts c token rest at = no_more_by (λ t seen. seen.0) sight f clear (alike sight f clear) p ts c token rest at
