-- What stands before the place where syntax stops a reading is the front of a fine text, where what is still to come has texts.
use Rattle.std.proofs.Common.{◌≡◌, ℕ, zero, suc, ◌+◌, ◌<◌, ◌⊎◌, inl, inr, Bool, true, false, not, ◌&&◌, ◌||◌, List, [], ◌∷◌, ◌++◌, length, Option, Some, None, refl, sym, ap, ◌∙◌, arith, subst, append_assoc, append-nil, length-append, if◌then◌else◌}
use Rattle.ixp_lang_tokens.specs.declared.token.Kind.{Kind}
use Rattle.ixp_lang_tokens.specs.declared.fault.Cause.{Cause}
use Rattle.ixp_lang_tokens.specs.declared.fault.Cause.TheVariants.{Unexpected, Deep}
use Rattle.ixp_lang_tokens.specs.Grammars.{Step, onward, done, Grammar, gives, takes, sequence, choice, rounds, checks, bars, unless, here}
use Rattle.ixp_lang_tokens.specs.Syntax.{Spot, spot, FineRounds, Fine, by_syntax, Halt, Scan, said, halted, stopped, refused, and_then, begins_at, scanned, stepping, scan_rounds, unless_refused, scan}
use Rattle.ixp_lang_tokens.proofs.Fines.{more_rounds}
use Rattle.ixp_lang_tokens.proofs.Stops.{stops_same, halts_same, said_fine}

-- a fine text of it, from any place on
abbrev pub HasText : {A : Type 0} → Grammar A → Type 0
HasText {A} g = (p : ℕ) → (v : A) × (ts : List Kind) × (q : ℕ) × Fine g v (spot p ts) (spot q [])

-- behind each text of f that says b, whatever stood there, may stand one of g
abbrev pub CanEnd : {A B : Type 0} → Grammar B → B → Grammar A → Type 0
CanEnd {A} f b g = (p : ℕ) (front rest : List Kind) (m : ℕ) → Fine f b (spot p (front ++ rest)) (spot m rest)
    → (v : A) × (more : List Kind) × (q : ℕ) × Fine g v (spot m more) (spot q []) × Fine f b (spot p (front ++ more)) (spot m more)

-- and each one of g that begins with the tokens that stood there
abbrev pub CanFollow : {A B : Type 0} → Grammar B → B → Grammar A → Type 0
CanFollow {A} f b g = (p : ℕ) (front taken rest more : List Kind) (m : ℕ) (v : A) (q : ℕ) → 0 < length taken → Fine f b (spot p (front ++ (taken ++ rest))) (spot m (taken ++ rest))
    → Fine g v (spot m (taken ++ more)) (spot q []) → Fine f b (spot p (front ++ (taken ++ more))) (spot m (taken ++ more))

-- or each one of i that begins with those that g took before it stopped
abbrev pub CanGoOn : {A B : Type 0} → Grammar B → B → Grammar A → Grammar A → Type 0
CanGoOn {A} f b g i = (p : ℕ) (front taken rest more : List Kind) (m : ℕ) (c : Cause) (v : A) (q : ℕ) → 0 < length taken → Fine f b (spot p (front ++ (taken ++ rest))) (spot m (taken ++ rest))
    → scan g (spot m (taken ++ rest)) ≡ stopped c rest → Fine i v (spot m (taken ++ more)) (spot q []) → Fine f b (spot p (front ++ (taken ++ more))) (spot m (taken ++ more))

pub goes_where_follows : {A B : Type 0} (f : Grammar B) (b : B) (g i : Grammar A) → CanFollow f b i → CanGoOn f b g i
goes_where_follows f b g i follows p front taken rest more m c v q some one at two = follows p front taken rest more m v q some one two

-- a test that is passed where f takes some tokens before it stops, is passed by each text of h that begins with these
abbrev pub PassesOn : {A : Type 0} → (List Kind → Bool) → Grammar A → Grammar A → Type 0
PassesOn {A} t f h = (p : ℕ) (taken rest more : List Kind) (c : Cause) (v : A) (q : ℕ) → 0 < length taken → t (taken ++ rest) ≡ false → scan f (spot p (taken ++ rest)) ≡ stopped c rest → Fine h v (spot p (taken ++ more)) (spot q [])
    → t (taken ++ more) ≡ false

-- at the place the first is at its end: it takes no token, and stops as the second does, or as too deep
abbrev pub IsEnd : {A : Type 0} → Grammar A → Grammar A → Spot → Type 0
IsEnd f h x = (scan f x ≡ stopped Deep x.1) ⊎ ((rest : List Kind) × (scan f x ≡ refused rest)) ⊎ ((c : Cause) × (scan f x ≡ stopped c x.1) × (scan h x ≡ stopped c x.1))

-- The second is the first, but that it may go on where that one is at its end; and whatever may be left to come in it has a text.
-- `I` is what is known of what was said before.
pub data Supplied : (A : Type 0) → Grammar A → Grammar A → Type 1 where
  supplied_gives : {A : Type 0} (v : A) → Supplied A (gives v) (gives v)
  supplied_takes : {A : Type 0} (c : Kind → Option A) → Supplied A (takes c) (takes c)
  supplied_sequence : {A B : Type 0} (f h : Grammar B) (g i : B → Grammar A) (I : B → Type 0) → Supplied B f h → ((b : B) (x y : Spot) → Fine h b x y → I b) → ((b : B) → I b → Supplied A (g b) (i b)) → ((b : B) → I b → CanEnd h b (i b)) → ((b : B) → I b → CanGoOn h b (g b) (i b)) → Supplied A (sequence f g) (sequence h i)
  supplied_choice : {A : Type 0} (f g h i : Grammar A) → Supplied A f h → Supplied A g i → Supplied A (choice f g) (choice h i)
  supplied_rounds : {S A : Type 0} (f h : S → Grammar (Step S A)) (s : S) (I : S → Type 0) → I s → ((t : S) → I t → Supplied (Step S A) (f t) (h t)) → ((t u : S) (x y : Spot) → I t → Fine (h t) (onward u) x y → I u)
      → ((t u : S) → I t → I u → CanEnd (h t) (onward u) (rounds h u)) → ((t u : S) → I t → I u → CanFollow (h t) (onward u) (rounds h u)) → Supplied A (rounds f s) (rounds h s)
  supplied_checks : {A : Type 0} (o : Option (Cause × ℕ)) (f h : Grammar A) → Supplied A f h → Supplied A (checks o f) (checks o h)
  supplied_bars : {A : Type 0} (t : List Kind → Bool) (c : Cause) (f h : Grammar A) → Supplied A f h → PassesOn t f h → Supplied A (bars t c f) (bars t c h)
  supplied_unless : {A : Type 0} (t : List Kind → Bool) (f h : Grammar A) → Supplied A f h → PassesOn t f h → Supplied A (unless t f) (unless t h)
  supplied_here : {A : Type 0} (f h : ℕ → Grammar A) → ((n : ℕ) → Supplied A (f n) (h n)) → Supplied A (here f) (here h)
  supplied_end : {A : Type 0} (f h : Grammar A) → ((x : Spot) → begins_at f x ≡ begins_at h x) → ((x : Spot) → IsEnd f h x) → Supplied A f h

-- Both readings end alike, unless a check refuses the first, or it stops as too deep.

abbrev pub Goes : {A : Type 0} → Scan A → Scan A → Type 0
Goes s t = (s ≡ t) ⊎ ((rest : List Kind) × (s ≡ refused rest)) ⊎ ((rest : List Kind) × (s ≡ stopped Deep rest))

begins_both : {A : Type 0} {f h : Grammar A} → Supplied A f h → (x : Spot) → begins_at f x ≡ begins_at h x
begins_both (supplied_gives v) x = refl
begins_both (supplied_takes c) x = refl
begins_both (supplied_sequence f h g i I sf holds sg texts follows) x = begins_both sf x
begins_both (supplied_choice f g h i sf sg) x = ap (λ b. b || begins_at g x) (begins_both sf x) ∙ ap (λ b. begins_at h x || b) (begins_both sg x)
begins_both (supplied_rounds f h s I i sf keeps texts follows) x = begins_both (sf s i) x
begins_both (supplied_checks o f h sf) x = begins_both sf x
begins_both (supplied_bars t c f h sf passes) x = ap (λ b. t x.1 || b) (begins_both sf x)
begins_both (supplied_unless t f h sf passes) x = ap (λ b. not (t x.1) && b) (begins_both sf x)
begins_both (supplied_here f h sf) x = begins_both (sf x.0) x
begins_both (supplied_end f h begins ends) x = begins x

same_then : {A B : Type 0} (t : Scan B) (g i : B → Spot → Scan A) → ((b : B) (z : Spot) → t ≡ said b z → Goes (g b z) (i b z)) → Goes (and_then t g) (and_then t i)
same_then (said b z) g i h = h b z refl
same_then (halted c r) g i h = inl refl

then_goes : {A B : Type 0} (s t : Scan B) (g i : B → Spot → Scan A) → Goes s t → ((b : B) (z : Spot) → t ≡ said b z → Goes (g b z) (i b z)) → Goes (and_then s g) (and_then t i)
then_goes s t g i (inl same) h = subst (λ x. Goes (and_then x g) (and_then t i)) (sym same) (same_then t g i h)
then_goes s t g i (inr (inl (rest, e))) h = inr (inl (rest, ap (λ x. and_then x g) e))
then_goes s t g i (inr (inr (rest, e))) h = inr (inr (rest, ap (λ x. and_then x g) e))

step_goes : {S A : Type 0} (go on : S → Spot → Scan A) (a : Step S A) (z : Spot) → ((t : S) → a ≡ onward t → Goes (go t z) (on t z)) → Goes (stepping go a z) (stepping on a z)
step_goes go on (onward t) z h = h t refl
step_goes go on (done v) z h = inl refl

rounds_go : {S A : Type 0} (f h : S → Grammar (Step S A)) (I : S → Type 0) → ((t : S) → I t → (x : Spot) → Goes (scan (f t) x) (scan (h t) x)) → ((t u : S) (x y : Spot) → I t → Fine (h t) (onward u) x y → I u)
    → (n : ℕ) (s : S) → I s → (x : Spot) → Goes (scan_rounds n (λ t z. scan (f t) z) s x) (scan_rounds n (λ t z. scan (h t) z) s x)
rounds_go f h I go keeps zero s i x = then_goes (scan (f s) x) (scan (h s) x) _ _ (go s i x) (λ a z e. inl refl)
rounds_go f h I go keeps (suc n) s i x =
    then_goes (scan (f s) x) (scan (h s) x) _ _ (go s i x) (λ a z e.
    step_goes _ _ a z (λ t is. rounds_go f h I go keeps n t (keeps s t x z i (said_fine (h s) x (onward t) z (e ∙ ap (λ b. said b z) is))) z))

if_goes : {A : Type 0} (b c : Bool) (r s t u : Scan A) → b ≡ c → Goes r t → Goes s u → Goes (if b then r else s) (if c then t else u)
if_goes true true r s t u e h i = h
if_goes false false r s t u e h i = i
if_goes true false r s t u e h i = absurd cc
if_goes false true r s t u e h i = absurd cc

checks_go : {A : Type 0} (o : Option (Cause × ℕ)) (ts : List Kind) (s t : Scan A) → Goes s t → Goes (unless_refused o ts s) (unless_refused o ts t)
checks_go None ts s t h = h
checks_go (Some fault) ts s t h = inl refl

ends_go : {A : Type 0} (f h : Grammar A) (x : Spot) → IsEnd f h x → Goes (scan f x) (scan h x)
ends_go f h x (inl e) = inr (inr (x.1, e))
ends_go f h x (inr (inl (rest, e))) = inr (inl (rest, e))
ends_go f h x (inr (inr (c, e, k))) = inl (e ∙ sym k)

pub goes : {A : Type 0} {f h : Grammar A} → Supplied A f h → (x : Spot) → Goes (scan f x) (scan h x)
goes (supplied_gives v) x = inl refl
goes (supplied_takes c) x = inl refl
goes (supplied_sequence f h g i I sf holds sg texts follows) x = then_goes (scan f x) (scan h x) _ _ (goes sf x) (λ b z e. goes (sg b (holds b x z (said_fine h x b z e))) z)
goes (supplied_choice f g h i sf sg) x = if_goes (begins_at f x) (begins_at h x) _ _ _ _ (begins_both sf x) (goes sf x) (goes sg x)
goes (supplied_rounds f h s I i sf keeps texts follows) x = rounds_go f h I (λ t j. goes (sf t j)) keeps (length x.1) s i x
goes (supplied_checks o f h sf) x = checks_go o x.1 (scan f x) (scan h x) (goes sf x)
goes (supplied_bars t c f h sf passes) x = if_goes (t x.1) (t x.1) _ _ _ _ refl (inl refl) (goes sf x)
goes (supplied_unless t f h sf passes) x = if_goes (t x.1) (t x.1) _ _ _ _ refl (inl refl) (goes sf x)
goes (supplied_here f h sf) x = goes (sf x.0) x
goes (supplied_end f h begins ends) x = ends_go f h x (ends x)

abbrev SaysFine : {A : Type 0} → Grammar A → Grammar A → Type 0
SaysFine {A} f h = (x : Spot) (v : A) (y : Spot) → scan f x ≡ said v y → Fine h v x y

said_both : {A : Type 0} (s t : Scan A) (v : A) (y : Spot) → Goes s t → s ≡ said v y → t ≡ said v y
said_both s t v y (inl same) e = sym same ∙ e
said_both s t v y (inr (inl (rest, e))) h = absurd cc
said_both s t v y (inr (inr (rest, e))) h = absurd cc

-- what the first says is fine in the second
says_fine : {A : Type 0} {f h : Grammar A} → Supplied A f h → SaysFine f h
says_fine {A} {f} {h} supplied x v y e = said_fine h x v y (said_both (scan f x) (scan h x) v y (goes supplied x) e)

-- Completions.

-- what is taken, of which there is some, is the front of a fine text
pub record Completed {A : Type 0} (f : Grammar A) (p : ℕ) (ts rest : List Kind) : Type 0 where
  pub taken : List Kind
  pub parts : ts ≡ taken ++ rest
  pub some : 0 < length taken
  pub more : List Kind
  pub value : A
  pub last : ℕ
  pub fine : Fine f value (spot p (taken ++ more)) (spot last [])

abbrev pub IsDone : {A : Type 0} → Grammar A → ℕ → List Kind → List Kind → Type 0
IsDone f p ts rest = (ts ≡ rest) ⊎ Completed f p ts rest

-- What is of a grammar stands at the front of the tokens.

parts_then : (x z y : Spot) → (front : List Kind) × (x.1 ≡ front ++ z.1) → (front : List Kind) × (z.1 ≡ front ++ y.1) → (front : List Kind) × (x.1 ≡ front ++ y.1)
parts_then x z y (one, e) (two, h) = (one ++ two, e ∙ ap (λ w. one ++ w) h ∙ sym (append_assoc one two y.1))

rounds_parts : {S A : Type 0} (f : S → Grammar (Step S A)) → ((s : S) (v : Step S A) (x y : Spot) → Fine (f s) v x y → (front : List Kind) × (x.1 ≡ front ++ y.1)) → (n : ℕ) (s : S) (v : A) (x y : Spot) → FineRounds (λ t. Fine (f t)) n s v x y
    → (front : List Kind) × (x.1 ≡ front ++ y.1)
rounds_parts f h zero s v x y fine = h s (done v) x y fine
rounds_parts f h (suc n) s v x y (t, z, fine, more) = parts_then x z y (h s (onward t) x z fine) (rounds_parts f h n t v z y more)

pub fine_parts : {A : Type 0} (f : Grammar A) (v : A) (x y : Spot) → Fine f v x y → (front : List Kind) × (x.1 ≡ front ++ y.1)
fine_parts (gives w) v x y (is, same) = ([], ap (λ (w : Spot). w.1) same)
fine_parts (takes c) v (p, []) y fine = absurd fine
fine_parts (takes c) v (p, k ∷ ts) y (is, same) = (k ∷ [], ap (λ (w : Spot). k ∷ w.1) same)
fine_parts (sequence f g) v x y (b, z, one, two) = parts_then x z y (fine_parts f b x z one) (fine_parts (g b) v z y two)
fine_parts (choice f g) v x y (inl fine) = fine_parts f v x y fine
fine_parts (choice f g) v x y (inr fine) = fine_parts g v x y fine
fine_parts (rounds f s) v x y (n, fine) = rounds_parts f (λ t. fine_parts (f t)) n s v x y fine
fine_parts (checks o f) v x y fine = fine_parts f v x y fine
fine_parts (bars t c f) v x y (free, fine) = fine_parts f v x y fine
fine_parts (unless t f) v x y (free, fine) = fine_parts f v x y fine
fine_parts (here f) v x y fine = fine_parts (f x.0) v x y fine

-- A part f that says b, and h behind it, are of G.
module _ {A B : Type 0} (f : Grammar B) (h G : Grammar A) (b : B) (join : (v : A) (x z y : Spot) → Fine f b x z → Fine h v z y → Fine G v x y)
    (text : CanEnd f b h) where
  -- f was read, and what is behind it stops
  after_said : (p : ℕ) (ts front : List Kind) (z : Spot) (rest : List Kind) → ts ≡ front ++ z.1 → Fine f b (spot p (front ++ z.1)) z
      → ((taken more : List Kind) (v : A) (q : ℕ) → 0 < length taken → z.1 ≡ taken ++ rest → Fine h v (spot z.0 (taken ++ more)) (spot q []) → Fine f b (spot p (front ++ (taken ++ more))) (spot z.0 (taken ++ more)))
      → IsDone h z.0 z.1 rest → IsDone G p ts rest
  after_said p ts [] z rest parts one follow (inl same) = inl (parts ∙ same)
  after_said p ts (k ∷ ks) z rest parts one follow (inl same) = by_text (text p (k ∷ ks) z.1 z.0 one)
    where
      by_text : (v : A) × (more : List Kind) × (q : ℕ) × Fine h v (spot z.0 more) (spot q []) × Fine f b (spot p ((k ∷ ks) ++ more)) (spot z.0 more) → IsDone G p ts rest
      by_text (v, more, q, fine, again) =
          inr (record {
            taken = k ∷ ks;
            parts = parts ∙ ap (λ x. (k ∷ ks) ++ x) same;
            some = omega arith;
            more = more;
            value = v;
            last = q;
            fine = join v (spot p ((k ∷ ks) ++ more)) (spot z.0 more) (spot q []) again fine;
          })
  after_said p ts front z rest parts one follow (inr c) =
      inr (record {
        taken = front ++ c.taken;
        parts = parts ∙ ap (λ x. front ++ x) c.parts ∙ sym (append_assoc front c.taken rest);
        some = let size : length (front ++ c.taken) ≡ length front + length c.taken = length-append front c.taken in let there = c.some in omega arith;
        more = c.more;
        value = c.value;
        last = c.last;
        fine =
            subst (λ x. Fine G c.value (spot p x) (spot c.last [])) (sym (append_assoc front c.taken c.more))
            (join c.value (spot p (front ++ (c.taken ++ c.more))) (spot z.0 (c.taken ++ c.more)) (spot c.last [])
            (follow c.taken c.more c.value c.last c.some c.parts c.fine) c.fine);
      })

  -- f was completed to say b
  after_stop : (p : ℕ) (ts rest : List Kind) (c : Completed f p ts rest) → c.value ≡ b → Completed G p ts rest
  after_stop p ts rest c is =
      by_text (text p (c.taken ++ c.more) [] c.last (subst (λ x. Fine f b (spot p x) (spot c.last [])) (sym (append-nil (c.taken ++ c.more))) (subst (λ w. Fine f w (spot p (c.taken ++ c.more)) (spot c.last [])) is c.fine)))
    where
      by_text : (v : A) × (more : List Kind) × (q : ℕ) × Fine h v (spot c.last more) (spot q []) × Fine f b (spot p ((c.taken ++ c.more) ++ more)) (spot c.last more) → Completed G p ts rest
      by_text (v, more, q, fine, again) =
          record {
            taken = c.taken;
            parts = c.parts;
            some = c.some;
            more = c.more ++ more;
            value = v;
            last = q;
            fine =
                subst (λ x. Fine G v (spot p x) (spot q [])) (append_assoc c.taken c.more more)
                (join v (spot p ((c.taken ++ c.more) ++ more)) (spot c.last more) (spot q []) again fine);
          }

pub then_halted : {A B : Type 0} (s : Scan A) (g : A → Spot → Scan B) (c : Halt) (rest : List Kind) → and_then s g ≡ halted c rest → ((a : A) × (z : Spot) × (s ≡ said a z) × (g a z ≡ halted c rest)) ⊎ (s ≡ halted c rest)
then_halted (said a z) g c rest e = inl (a, z, refl, e)
then_halted {A} {B} (halted d r) g c rest e = inr (let both = halts_same B d c r rest e in ap (λ x. halted x r) both.0 ∙ ap (halted c) both.1)

abbrev Completes : {A : Type 0} → Grammar A → Grammar A → Type 0
Completes f h = (p : ℕ) (ts : List Kind) (c : Cause) (rest : List Kind) → scan f (spot p ts) ≡ stopped c rest → IsDone h p ts rest

sequence_completes : {A B : Type 0} (f h : Grammar B) (g i : B → Grammar A) (I : B → Type 0) → SaysFine f h → Completes f h → ((b : B) (x y : Spot) → Fine h b x y → I b) → ((b : B) → I b → Completes (g b) (i b))
    → ((b : B) → I b → CanEnd h b (i b)) → ((b : B) → I b → CanGoOn h b (g b) (i b)) → Completes (sequence f g) (sequence h i)
sequence_completes {A} {B} f h g i I says hf holds hg texts follows p ts cause rest e = by_parts (then_halted (scan f (spot p ts)) _ (by_syntax cause) rest e)
  where
    join : (b : B) (v : A) (x z y : Spot) → Fine h b x z → Fine (i b) v z y → Fine (sequence h i) v x y
    join b v x z y one two = (b, z, one, two)

    by_done : IsDone h p ts rest → IsDone (sequence h i) p ts rest
    by_done (inl same) = inl same
    by_done (inr c) =
        inr (after_stop h (i c.value) (sequence h i) c.value (join c.value) (texts c.value (holds c.value (spot p (c.taken ++ c.more)) (spot c.last []) c.fine)) p ts rest c refl)

    by_front : (b : B) (z : Spot) → I b → Fine h b (spot p ts) z → scan (g b) z ≡ stopped cause rest → (front : List Kind) × (ts ≡ front ++ z.1) → IsDone (sequence h i) p ts rest
    by_front b z there fine two (front, parts) =
        let one : Fine h b (spot p (front ++ z.1)) z = subst (λ x. Fine h b (spot p x) z) parts fine in
        after_said h (i b) (sequence h i) b (join b) (texts b there) p ts front z rest parts one
        (λ taken more v q some is last.
        follows b there p front taken rest more z.0 cause v q some (subst (λ x. Fine h b (spot p (front ++ x)) (spot z.0 x)) is one) (subst (λ x. scan (g b) (spot z.0 x) ≡ stopped cause rest) is two) last)
        (hg b there z.0 z.1 cause rest two)

    by_parts : ((b : B) × (z : Spot) × (scan f (spot p ts) ≡ said b z) × (scan (g b) z ≡ stopped cause rest)) ⊎ (scan f (spot p ts) ≡ stopped cause rest) → IsDone (sequence h i) p ts rest
    by_parts (inl (b, z, one, two)) =
        let fine = says (spot p ts) b z one in
        by_front b z (holds b (spot p ts) z fine) fine two (fine_parts h b (spot p ts) z fine)
    by_parts (inr one) = by_done (hf p ts cause rest one)

stepping_stopped : {S A : Type 0} (go : S → Spot → Scan A) (a : Step S A) (z : Spot) (c : Cause) (rest : List Kind) → stepping go a z ≡ stopped c rest → (t : S) × (a ≡ onward t) × (go t z ≡ stopped c rest)
stepping_stopped go (onward t) z c rest e = (t, refl, e)
stepping_stopped go (done v) z c rest e = absurd cc

module _ {S A : Type 0} (f h : S → Grammar (Step S A)) (I : S → Type 0) (says : (s : S) → I s → SaysFine (f s) (h s)) (completes : (s : S) → I s → Completes (f s) (h s))
    (keeps : (t u : S) (x y : Spot) → I t → Fine (h t) (onward u) x y → I u) (texts : (t u : S) → I t → I u → CanEnd (h t) (onward u) (rounds h u)) (follows : (t u : S) → I t → I u → CanFollow (h t) (onward u) (rounds h u)) where
  -- the last round was completed, or one that goes on
  round_completed : (s : S) → I s → (p : ℕ) (ts rest : List Kind) (c : Completed (h s) p ts rest) → (a : Step S A) → c.value ≡ a → Completed (rounds h s) p ts rest
  round_completed s i p ts rest c (done v) is = record {
    taken = c.taken;
    parts = c.parts;
    some = c.some;
    more = c.more;
    value = v;
    last = c.last;
    fine = (zero, subst (λ w. Fine (h s) w (spot p (c.taken ++ c.more)) (spot c.last [])) is c.fine);
  }
  round_completed s i p ts rest c (onward t) is =
      let fine : Fine (h s) (onward t) (spot p (c.taken ++ c.more)) (spot c.last []) = subst (λ w. Fine (h s) w (spot p (c.taken ++ c.more)) (spot c.last [])) is c.fine in
      after_stop (h s) (rounds h t) (rounds h s) (onward t) (λ v x z y. more_rounds h s t v x z y) (texts s t i (keeps s t (spot p (c.taken ++ c.more)) (spot c.last []) i fine)) p ts rest c is

  round_done : (s : S) → I s → (p : ℕ) (ts rest : List Kind) → IsDone (h s) p ts rest → IsDone (rounds h s) p ts rest
  round_done s i p ts rest (inl same) = inl same
  round_done s i p ts rest (inr c) = inr (round_completed s i p ts rest c c.value refl)

  round_completes : (s : S) → I s → (go : S → Spot → Scan A) → ((t : S) → I t → (z : Spot) (c : Cause) (rest : List Kind) → go t z ≡ stopped c rest → IsDone (rounds h t) z.0 z.1 rest)
      → (p : ℕ) (ts : List Kind) (c : Cause) (rest : List Kind) → and_then (scan (f s) (spot p ts)) (stepping go) ≡ stopped c rest → IsDone (rounds h s) p ts rest
  round_completes s i go later p ts cause rest e = by_parts (then_halted (scan (f s) (spot p ts)) (stepping go) (by_syntax cause) rest e)
    where
      by_front : (t : S) (z : Spot) → I t → Fine (h s) (onward t) (spot p ts) z → go t z ≡ stopped cause rest → (front : List Kind) × (ts ≡ front ++ z.1) → IsDone (rounds h s) p ts rest
      by_front t z there fine two (front, parts) =
          let one : Fine (h s) (onward t) (spot p (front ++ z.1)) z = subst (λ x. Fine (h s) (onward t) (spot p x) z) parts fine in
          after_said (h s) (rounds h t) (rounds h s) (onward t) (λ v x w y. more_rounds h s t v x w y) (texts s t i there) p ts front z rest parts one
          (λ taken more v q some is last. follows s t i there p front taken rest more z.0 v q some (subst (λ x. Fine (h s) (onward t) (spot p (front ++ x)) (spot z.0 x)) is one) last)
          (later t there z cause rest two)

      by_more : (a : Step S A) (z : Spot) → scan (f s) (spot p ts) ≡ said a z → (t : S) × (a ≡ onward t) × (go t z ≡ stopped cause rest) → IsDone (rounds h s) p ts rest
      by_more a z one (t, is, two) =
          let fine : Fine (h s) (onward t) (spot p ts) z = says s i (spot p ts) (onward t) z (one ∙ ap (λ x. said x z) is) in
          by_front t z (keeps s t (spot p ts) z i fine) fine two (fine_parts (h s) (onward t) (spot p ts) z fine)

      by_parts : ((a : Step S A) × (z : Spot) × (scan (f s) (spot p ts) ≡ said a z) × (stepping go a z ≡ stopped cause rest)) ⊎ (scan (f s) (spot p ts) ≡ stopped cause rest) → IsDone (rounds h s) p ts rest
      by_parts (inl (a, z, one, two)) = by_more a z one (stepping_stopped go a z cause rest two)
      by_parts (inr one) = round_done s i p ts rest (completes s i p ts cause rest one)

  rounds_complete : (n : ℕ) (s : S) → I s → (p : ℕ) (ts : List Kind) (c : Cause) (rest : List Kind) → scan_rounds n (λ t z. scan (f t) z) s (spot p ts) ≡ stopped c rest → IsDone (rounds h s) p ts rest
  rounds_complete zero s i p ts c rest e = round_completes s i (λ t w. stopped Unexpected w.1) (λ t j z d r at. inl ((stops_same A Unexpected d z.1 r at).1)) p ts c rest e
  rounds_complete (suc n) s i p ts c rest e = round_completes s i (scan_rounds n (λ t z. scan (f t) z)) (λ t j z d r at. rounds_complete n t j z.0 z.1 d r at) p ts c rest e

done_map : {A : Type 0} (f g : Grammar A) (p : ℕ) (ts rest : List Kind) → ((v : A) (taken more : List Kind) (y : Spot) → ts ≡ taken ++ rest → 0 < length taken → Fine f v (spot p (taken ++ more)) y → Fine g v (spot p (taken ++ more)) y)
    → IsDone f p ts rest → IsDone g p ts rest
done_map f g p ts rest h (inl same) = inl same
done_map f g p ts rest h (inr c) =
    inr (record { taken = c.taken; parts = c.parts; some = c.some; more = c.more; value = c.value; last = c.last; fine = h c.value c.taken c.more (spot c.last []) c.parts c.some c.fine })

choice_completes : {A : Type 0} (f g h i : Grammar A) → Completes f h → Completes g i → (b : Bool) (p : ℕ) (ts : List Kind) (c : Cause) (rest : List Kind) → (if b then scan f (spot p ts) else scan g (spot p ts)) ≡ stopped c rest → IsDone (choice h i) p ts rest
choice_completes f g h i hf hg true p ts c rest e = done_map h (choice h i) p ts rest (λ v taken more y parts some x. inl x) (hf p ts c rest e)
choice_completes f g h i hf hg false p ts c rest e = done_map i (choice h i) p ts rest (λ v taken more y parts some x. inr x) (hg p ts c rest e)

test_completes : {A : Type 0} (f h g : Grammar A) (t : List Kind → Bool) → PassesOn t f h → Completes f h → ((v : A) (x y : Spot) → t x.1 ≡ false → Fine h v x y → Fine g v x y)
    → (b : Bool) (d : Cause) (p : ℕ) (ts : List Kind) (c : Cause) (rest : List Kind) → t ts ≡ b → (if b then stopped d ts else scan f (spot p ts)) ≡ stopped c rest → IsDone g p ts rest
test_completes {A} f h g t passes hf free true d p ts c rest is e = inl ((stops_same A d c ts rest e).1)
test_completes {A} f h g t passes hf free false d p ts c rest is e = by_done (hf p ts c rest e)
  where
    by_done : IsDone h p ts rest → IsDone g p ts rest
    by_done (inl same) = inl same
    by_done (inr m) =
        inr (record {
          taken = m.taken;
          parts = m.parts;
          some = m.some;
          more = m.more;
          value = m.value;
          last = m.last;
          fine =
              free m.value (spot p (m.taken ++ m.more)) (spot m.last [])
              (passes p m.taken rest m.more c m.value m.last m.some (sym (ap t m.parts) ∙ is) (subst (λ x. scan f (spot p x) ≡ stopped c rest) m.parts e) m.fine) m.fine;
        })

takes_completes : {A : Type 0} (c : Kind → Option A) (o : Option A) (p : ℕ) (k : Kind) (ts : List Kind) (d : Cause) (rest : List Kind) → scanned o p k ts ≡ stopped d rest → IsDone (takes c) p (k ∷ ts) rest
takes_completes c (Some v) p k ts d rest e = absurd cc
takes_completes {A} c None p k ts d rest e = inl ((stops_same A Unexpected d (k ∷ ts) rest e).1)

checks_completes : {A : Type 0} (f h : Grammar A) (o : Option (Cause × ℕ)) → Completes f h → (p : ℕ) (ts : List Kind) (c : Cause) (rest : List Kind) → unless_refused o ts (scan f (spot p ts)) ≡ stopped c rest → IsDone (checks o h) p ts rest
checks_completes f h None hf p ts c rest e = done_map h (checks None h) p ts rest (λ v taken more y parts some x. x) (hf p ts c rest e)
checks_completes f h (Some fault) hf p ts c rest e = absurd cc

end_completes : {A : Type 0} (f h : Grammar A) (p : ℕ) (ts : List Kind) (c : Cause) (rest : List Kind) → IsEnd f h (spot p ts) → scan f (spot p ts) ≡ stopped c rest → IsDone h p ts rest
end_completes {A} f h p ts c rest (inl is) e = inl ((stops_same A Deep c ts rest (sym is ∙ e)).1)
end_completes {A} f h p ts c rest (inr (inl (r, is))) e = absurd cc
end_completes {A} f h p ts c rest (inr (inr (d, is, other))) e = inl ((stops_same A d c ts rest (sym is ∙ e)).1)

no_tokens_left : {A : Type 0} (c : Kind → Option A) (p : ℕ) (d : Cause) (rest : List Kind) → ◌≡◌ {A = Scan A} (stopped Unexpected []) (stopped d rest) → IsDone (takes c) p [] rest
no_tokens_left {A} c p d rest e = inl ((stops_same A Unexpected d [] rest e).1)

pub completes : {A : Type 0} {f h : Grammar A} → Supplied A f h → Completes f h
completes (supplied_gives w) p ts c rest e = absurd cc
completes (supplied_takes class) p [] c rest e = no_tokens_left class p c rest e
completes (supplied_takes class) p (k ∷ ts) c rest e = takes_completes class (class k) p k ts c rest e
completes (supplied_sequence f h g i I sf holds sg texts follows) p ts c rest e =
    sequence_completes f h g i I (says_fine sf) (completes sf) holds (λ b j. completes (sg b j)) texts follows p ts c rest e
completes (supplied_choice f g h i sf sg) p ts c rest e = choice_completes f g h i (completes sf) (completes sg) (begins_at f (spot p ts)) p ts c rest e
completes (supplied_rounds f h s I i sf keeps texts follows) p ts c rest e =
    rounds_complete f h I (λ t j. says_fine (sf t j)) (λ t j. completes (sf t j)) keeps texts follows (length ts) s i p ts c rest e
completes (supplied_checks o f h sf) p ts c rest e = checks_completes f h o (completes sf) p ts c rest e
completes (supplied_bars t d f h sf passes) p ts c rest e = test_completes f h (bars t d h) t passes (completes sf) (λ v x y free fine. (free, fine)) (t ts) d p ts c rest refl e
completes (supplied_unless t f h sf passes) p ts c rest e = test_completes f h (unless t h) t passes (completes sf) (λ v x y free fine. (free, fine)) (t ts) Unexpected p ts c rest refl e
completes (supplied_here f h sf) p ts c rest e = done_map (h p) (here h) p ts rest (λ v taken more y parts some x. x) (completes (sf p) p ts c rest e)
completes (supplied_end f h begins ends) p ts c rest e = end_completes f h p ts c rest (ends (spot p ts)) e

-- what is before the place is the front of a fine text
pub record Viable {A : Type 0} (f : Grammar A) (p : ℕ) (ts rest : List Kind) : Type 0 where
  pub taken : List Kind
  pub parts : ts ≡ taken ++ rest
  pub more : List Kind
  pub value : A
  pub last : ℕ
  pub fine : Fine f value (spot p (taken ++ more)) (spot last [])

pub viable : {A : Type 0} {f h : Grammar A} → Supplied A f h → HasText h → (p : ℕ) (ts : List Kind) (c : Cause) (rest : List Kind) → scan f (spot p ts) ≡ stopped c rest → Viable h p ts rest
viable {A} {f} {h} supplied text p ts c rest e = by_done (completes supplied p ts c rest e) (text p)
  where
    by_done : IsDone h p ts rest → (v : A) × (more : List Kind) × (q : ℕ) × Fine h v (spot p more) (spot q []) → Viable h p ts rest
    by_done (inl same) (v, more, q, fine) = record { taken = []; parts = same; more = more; value = v; last = q; fine = fine }
    by_done (inr c) unused = record { taken = c.taken; parts = c.parts; more = c.more; value = c.value; last = c.last; fine = c.fine }
