-- What is known of a grammar at a glance: a few lists of tokens, from which follows that the next token decides.
-- Each way to make a grammar of others has its look, which follows from theirs; and two lists are compared by computing.
use Rattle.std.proofs.Common.{◌≡◌, ℕ, inl, inr, Bool, true, false, not, ◌&&◌, ◌||◌, List, [], ◌∷◌, ◌++◌, length, Option, refl}
use Rattle.std.specs.Option.{is_some}
use Rattle.std.proofs.lemmas.Bool.{and_parts}
use Rattle.ixp_lang_tokens.specs.declared.fault.Cause.{Cause}
use Rattle.ixp_lang_tokens.specs.declared.token.Kind.{Kind}
use Rattle.ixp_lang_tokens.specs.Grammars.{Step, onward, done, Grammar, gives, takes, sequence, choice, rounds, checks, bars, unless, here}
use Rattle.ixp_lang_tokens.specs.Reading.{begins}
use Rattle.ixp_lang_tokens.proofs.Parted.{Empty, Begins, Extends, Leads, Parted}
use Rattle.ixp_lang_tokens.proofs.Fronts.{Front, one_of, Starts, are_apart, are_among, or_elim, starts_apart, starts_among, starts_left, starts_right, starts_never}

pub record Look : Type 0 where
  -- each text has a first token, by which `begins` knows it
  pub leads : Bool
  -- no text is empty
  pub full : Bool
  -- what a text may begin with
  pub starts : List Front
  -- what may go on with a text, where it might have ended
  pub ends : List Front

pub record Known {A : Type 0} (g : Grammar A) (look : Look) : Type 0 where
  pub parted : Parted g
  pub leads : look.leads ≡ true → Leads g
  pub full : look.full ≡ true → (v : A) (ts : List Kind) → ¬ (Empty g v ts)
  pub starts : (ts : List Kind) → Begins g ts → Starts look.starts ts
  pub opens : (ts : List Kind) → begins g ts ≡ true → Starts look.starts ts
  pub ends : (v : A) (rest : List Kind) → Extends g v rest → Starts look.ends rest

-- what is first, with what is behind it where a text may be empty
abbrev pub or_behind : Bool → List Front → List Front → List Front
or_behind true fs gs = fs
or_behind false fs gs = fs ++ gs

abbrev pub nothing_look : Look
nothing_look = record { leads = false; full = false; starts = []; ends = [] }

-- it begins with a token by which it is known, and these may go on with it
abbrev pub full_look : List Front → List Front → Look
full_look fs gs = record { leads = true; full = true; starts = fs; ends = gs }

abbrev pub token_look : List Front → Look
token_look fs = full_look fs []

abbrev pub sequence_look : Look → Look → Look
sequence_look l m = record { leads = l.leads; full = l.full || m.full; starts = or_behind l.full l.starts m.starts; ends = or_behind m.full m.ends l.ends }

abbrev pub choice_look : Look → Look → Look
choice_look l m = record { leads = l.leads && m.leads; full = l.full && m.full; starts = l.starts ++ m.starts; ends = l.ends ++ or_behind m.full m.ends l.starts }

abbrev pub bars_look : List Front → Look → Look
bars_look fs l = record { leads = l.leads; full = l.full; starts = fs ++ l.starts; ends = l.ends }

-- rounds that look so, of which the last one goes on so
abbrev pub rounds_look : Look → List Front → List Front → Look
rounds_look l onwards lasts = record { leads = l.leads; full = l.full; starts = l.starts; ends = onwards ++ lasts }

-- the second says no more than the first
abbrev pub is_wider : Look → Look → Bool
is_wider l m = (not m.leads || l.leads) && ((not m.full || l.full) && (are_among l.starts m.starts && are_among l.ends m.ends))

pub behind_first : (full : Bool) (fs gs : List Front) (ts : List Kind) → Starts fs ts → Starts (or_behind full fs gs) ts
behind_first true fs gs ts p = p
behind_first false fs gs ts p = starts_left fs gs ts p

pub behind_second : (full : Bool) (fs gs : List Front) (ts : List Kind) → ¬ (full ≡ true) → Starts gs ts → Starts (or_behind full fs gs) ts
behind_second true fs gs ts not p = absurd (not refl)
behind_second false fs gs ts not p = starts_right fs gs ts p

-- what may be empty isn't full
not_full : {A : Type 0} {g : Grammar A} {l : Look} → Known g l → (v : A) (ts : List Kind) → Empty g v ts → ¬ (l.full ≡ true)
not_full known v ts empty full = known.full full v ts empty

pub known_gives : {A : Type 0} (v : A) → Known (gives v) nothing_look
known_gives v = record {
  parted = tt;
  leads = λ e. absurd cc;
  full = λ e. absurd cc;
  starts = λ ts p. absurd p;
  opens = λ ts p. absurd cc;
  ends = λ v rest p. absurd p;
}

takes_starts : {A : Type 0} (c : Kind → Option A) (fs : List Front) → ((k : Kind) → is_some (c k) ≡ true → one_of fs k ≡ true) → (ts : List Kind) → Begins (takes c) ts → Starts fs ts
takes_starts c fs h [] p = absurd p
takes_starts c fs h (k ∷ ts) p = h k p

takes_opens : {A : Type 0} (c : Kind → Option A) (fs : List Front) → ((k : Kind) → is_some (c k) ≡ true → one_of fs k ≡ true) → (ts : List Kind) → begins (takes c) ts ≡ true → Starts fs ts
takes_opens c fs h [] p = absurd cc
takes_opens c fs h (k ∷ ts) p = h k p

pub known_takes : {A : Type 0} (c : Kind → Option A) (fs : List Front) → ((k : Kind) → is_some (c k) ≡ true → one_of fs k ≡ true) → Known (takes c) (token_look fs)
known_takes c fs h = record {
  parted = tt;
  leads = λ e. tt;
  full = λ e v ts p. p;
  starts = takes_starts c fs h;
  opens = takes_opens c fs h;
  ends = λ v rest p. absurd p;
}

module _ {A B : Type 0} {f : Grammar B} {g : B → Grammar A} {l m : Look} (kf : Known f l) (kg : (b : B) → Known (g b) m) where
  sequence_parted : are_apart m.starts l.ends ≡ true → Parted (sequence f g)
  sequence_parted apart = (kf.parted, λ b. (kg b).parted, λ b rest p q. starts_apart m.starts l.ends rest apart ((kg b).starts rest p) (kf.ends b rest q))

  sequence_full : (l.full || m.full) ≡ true → (v : A) (ts : List Kind) → ¬ (Empty (sequence f g) v ts)
  sequence_full e v ts (b, first, last) = or_elim l.full m.full e (λ full. kf.full full b ts first) (λ full. (kg b).full full v ts last)

  sequence_starts : (ts : List Kind) → Begins (sequence f g) ts → Starts (sequence_look l m).starts ts
  sequence_starts ts (inl p) = behind_first l.full l.starts m.starts ts (kf.starts ts p)
  sequence_starts ts (inr (b, empty, p)) = behind_second l.full l.starts m.starts ts (not_full kf b ts empty) ((kg b).starts ts p)

  sequence_ends : (v : A) (rest : List Kind) → Extends (sequence f g) v rest → Starts (sequence_look l m).ends rest
  sequence_ends v rest (b, inl p) = behind_first m.full m.ends l.ends rest ((kg b).ends v rest p)
  sequence_ends v rest (b, inr (empty, p)) = behind_second m.full m.ends l.ends rest (not_full (kg b) v rest empty) (kf.ends b rest p)

  pub known_sequence : are_apart m.starts l.ends ≡ true → Known (sequence f g) (sequence_look l m)
  known_sequence apart = record {
    parted = sequence_parted apart;
    leads = kf.leads;
    full = sequence_full;
    starts = sequence_starts;
    opens = λ ts p. behind_first l.full l.starts m.starts ts (kf.opens ts p);
    ends = sequence_ends;
  }

-- a token first: what is behind it is never taken for more of it
then_ends : {A B : Type 0} (f : Grammar B) (g : B → Grammar A) (fs : List Front) (m : Look) → Known f (token_look fs) → ((b : B) → Known (g b) m)
    → (v : A) (rest : List Kind) → Extends (sequence f g) v rest → Starts m.ends rest
then_ends f g fs m kf kg v rest (b, inl p) = (kg b).ends v rest p
then_ends f g fs m kf kg v rest (b, inr (empty, p)) = absurd (starts_never rest (kf.ends b rest p))

then_full : {A B : Type 0} (f : Grammar B) (g : B → Grammar A) (fs : List Front) → Known f (token_look fs) → (v : A) (ts : List Kind) → ¬ (Empty (sequence f g) v ts)
then_full f g fs kf v ts (b, empty, p) = kf.full refl b ts empty

then_starts : {A B : Type 0} (f : Grammar B) (g : B → Grammar A) (fs : List Front) → Known f (token_look fs) → (ts : List Kind) → Begins (sequence f g) ts → Starts fs ts
then_starts f g fs kf ts (inl p) = kf.starts ts p
then_starts f g fs kf ts (inr (b, empty, p)) = absurd (kf.full refl b ts empty)

pub known_then : {A B : Type 0} {f : Grammar B} {g : B → Grammar A} {fs : List Front} {m : Look} → Known f (token_look fs) → ((b : B) → Known (g b) m) → Known (sequence f g) (full_look fs m.ends)
known_then {A} {B} {f} {g} {fs} {m} kf kg = record {
  parted = (kf.parted, λ b. (kg b).parted, λ b rest p q. starts_never rest (kf.ends b rest q));
  leads = λ e. kf.leads refl;
  full = λ e. then_full f g fs kf;
  starts = then_starts f g fs kf;
  opens = kf.opens;
  ends = then_ends f g fs m kf kg;
}

module _ {A : Type 0} {f g : Grammar A} {l m : Look} (kf : Known f l) (kg : Known g m) where
  choice_parted : l.leads ≡ true → are_apart l.starts m.starts ≡ true → Parted (choice f g)
  choice_parted leads apart = (kf.leads leads, kf.parted, kg.parted, λ ts p q. starts_apart l.starts m.starts ts apart (kf.opens ts p) (kg.starts ts q))

  choice_leads : (l.leads && m.leads) ≡ true → Leads (choice f g)
  choice_leads e = let both = and_parts l.leads m.leads e in (kf.leads both.0, kg.leads both.1)

  choice_full : (l.full && m.full) ≡ true → (v : A) (ts : List Kind) → ¬ (Empty (choice f g) v ts)
  choice_full e v ts (inl empty) = kf.full ((and_parts l.full m.full e).0) v ts empty
  choice_full e v ts (inr empty) = kg.full ((and_parts l.full m.full e).1) v ts empty

  choice_starts : (ts : List Kind) → Begins (choice f g) ts → Starts (l.starts ++ m.starts) ts
  choice_starts ts (inl p) = starts_left l.starts m.starts ts (kf.starts ts p)
  choice_starts ts (inr p) = starts_right l.starts m.starts ts (kg.starts ts p)

  choice_ends : (v : A) (rest : List Kind) → Extends (choice f g) v rest → Starts (choice_look l m).ends rest
  choice_ends v rest (inl p) = starts_left l.ends _ rest (kf.ends v rest p)
  choice_ends v rest (inr (inl p)) = starts_right l.ends _ rest (behind_first m.full m.ends l.starts rest (kg.ends v rest p))
  choice_ends v rest (inr (inr (empty, p))) = starts_right l.ends _ rest (behind_second m.full m.ends l.starts rest (not_full kg v rest empty) (kf.opens rest p))

  pub known_choice : l.leads ≡ true → are_apart l.starts m.starts ≡ true → Known (choice f g) (choice_look l m)
  known_choice leads apart = record {
    parted = choice_parted leads apart;
    leads = choice_leads;
    full = choice_full;
    starts = choice_starts;
    opens = λ ts p. or_elim (begins f ts) (begins g ts) p (λ q. starts_left l.starts m.starts ts (kf.opens ts q)) (λ q. starts_right l.starts m.starts ts (kg.opens ts q));
    ends = choice_ends;
  }

pub known_checks : {A : Type 0} {f : Grammar A} {l : Look} {fault : Option (Cause × ℕ)} → Known f l → Known (checks fault f) l
known_checks k = record { parted = k.parted; leads = k.leads; full = k.full; starts = k.starts; opens = k.opens; ends = k.ends }

pub known_bars : {A : Type 0} {f : Grammar A} {l : Look} {next : List Kind → Bool} {cause : Cause} (fs : List Front) → ((ts : List Kind) → next ts ≡ true → Starts fs ts) → Known f l → Known (bars next cause f) (bars_look fs l)
known_bars {A} {f} {l} {next} fs barred k = record {
  parted = k.parted;
  leads = k.leads;
  full = k.full;
  starts = λ ts p. starts_right fs l.starts ts (k.starts ts p.1);
  opens = λ ts p. or_elim (next ts) (begins f ts) p (λ q. starts_left fs l.starts ts (barred ts q)) (λ q. starts_right fs l.starts ts (k.opens ts q));
  ends = k.ends;
}

pub known_unless : {A : Type 0} {f : Grammar A} {l : Look} {next : List Kind → Bool} → Known f l → Known (unless next f) l
known_unless {A} {f} {l} {next} k = record {
  parted = k.parted;
  leads = k.leads;
  full = λ e v ts p. k.full e v ts p.1;
  starts = λ ts p. k.starts ts p.1;
  opens = λ ts p. k.opens ts ((and_parts (not (next ts)) (begins f ts) p).1);
  ends = k.ends;
}

here_ends : {A : Type 0} (f : ℕ → Grammar A) (l : Look) → ((n : ℕ) → Known (f n) l) → (v : A) (rest : List Kind) → Extends (here f) v rest → Starts l.ends rest
here_ends f l k v rest (n, p) = (k n).ends v rest p

pub known_here : {A : Type 0} {f : ℕ → Grammar A} {l : Look} → ((n : ℕ) → Known (f n) l) → Known (here f) l
known_here {A} {f} {l} k = record {
  parted = λ n. (k n).parted;
  leads = λ e n. (k n).leads e;
  full = λ e v ts p. (k (length ts)).full e v ts p;
  starts = λ ts p. (k (length ts)).starts ts p;
  opens = λ ts p. (k (length ts)).opens ts p;
  ends = here_ends f l k;
}

-- rounds, by what may go on with one that isn't the last, and with one that is
module _ {S A : Type 0} (f : S → Grammar (Step S A)) (l : Look) (onwards lasts : List Front) (k : (s : S) → Known (f s) l) where
  rounds_ends : ((t u : S) (rest : List Kind) → Extends (f t) (onward u) rest → Starts onwards rest) → ((t : S) (v : A) (rest : List Kind) → Extends (f t) (done v) rest → Starts lasts rest)
      → (s : S) (v : A) (rest : List Kind) → Extends (rounds f s) v rest → Starts (onwards ++ lasts) rest
  rounds_ends on last s v rest (t, inl p) = starts_right onwards lasts rest (last t v rest p)
  rounds_ends on last s v rest (t, inr (u, empty, p)) = starts_left onwards lasts rest (on t u rest p)

  pub known_rounds : (s : S) → ((t u : S) (ts : List Kind) → ¬ (Empty (f t) (onward u) ts)) → ((t u : S) (rest : List Kind) → Extends (f t) (onward u) rest → Starts onwards rest)
      → ((t : S) (v : A) (rest : List Kind) → Extends (f t) (done v) rest → Starts lasts rest) → are_apart l.starts onwards ≡ true → Known (rounds f s) (rounds_look l onwards lasts)
  known_rounds s never on last apart = record {
    parted = (λ t. (k t).parted, never, λ t u rest p q. starts_apart l.starts onwards rest apart ((k u).starts rest p) (on t u rest q));
    leads = (k s).leads;
    full = λ e v ts p. (k s).full e (done v) ts p;
    starts = (k s).starts;
    opens = (k s).opens;
    ends = rounds_ends on last s;
  }

pub implied : (a b : Bool) → (not a || b) ≡ true → a ≡ true → b ≡ true
implied true b h e = h
implied false b h e = absurd cc

pub wider : {A : Type 0} {g : Grammar A} {l m : Look} → Known g l → is_wider l m ≡ true → Known g m
wider {A} {g} {l} {m} k e =
    let one = and_parts (not m.leads || l.leads) _ e in
    let two = and_parts (not m.full || l.full) _ one.1 in
    let three = and_parts (are_among l.starts m.starts) (are_among l.ends m.ends) two.1 in
    record {
      parted = k.parted;
      leads = λ x. k.leads (implied m.leads l.leads one.0 x);
      full = λ x. k.full (implied m.full l.full two.0 x);
      starts = λ ts p. starts_among l.starts m.starts ts three.0 (k.starts ts p);
      opens = λ ts p. starts_among l.starts m.starts ts three.0 (k.opens ts p);
      ends = λ v rest p. starts_among l.ends m.ends rest three.1 (k.ends v rest p);
    }
