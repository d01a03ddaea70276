-- What is known at a glance of grammars whose tests ask the first token alone.
use Rattle.std.proofs.Common.{◌≡◌, ℕ, ◌⊎◌, inl, inr, Bool, true, false, not, ◌&&◌, ◌||◌, List, [], ◌∷◌, ◌++◌, length, Option, refl}
use Rattle.std.specs.Option.{is_some}
use Rattle.std.proofs.lemmas.Bool.{and_parts}
use Rattle.ixp_lang_tokens.specs.declared.fault.Cause.{Cause}
use Rattle.ixp_lang_tokens.specs.declared.token.Kind.{Kind}
use Rattle.ixp_lang_tokens.specs.declared.token.Mark.{Mark}
use Rattle.ixp_lang_tokens.specs.Grammars.{Step, onward, done, Grammar, gives, takes, sequence, choice, rounds, checks, bars, unless, here}
use Rattle.ixp_lang_tokens.specs.Reading.{begins}
use Rattle.ixp_lang_tokens.specs.Pieces.{the_mark, a_name, a_number, an_addr, is_next}
use Rattle.ixp_lang_tokens.proofs.Parted.{Empty, Begins, Extends, Leads, Parted}
use Rattle.ixp_lang_tokens.proofs.Fronts.{Front, marked, name, number, addr, one_of, Starts, are_apart, are_among, or_elim, starts_apart, starts_among, starts_left, starts_right, starts_never}
use Rattle.ixp_lang_tokens.proofs.Clear.{MayEmpty, MayBegin, MayOpen, GoesOn, Spoils, IsOfFirst, ClearBy}
use Rattle.ixp_lang_tokens.proofs.Looks.{Look, or_behind, nothing_look, full_look, token_look, sequence_look, choice_look, bars_look, rounds_look, is_wider, Known, behind_first, behind_second, implied}
use Rattle.ixp_lang_tokens.proofs.Known.{known_mark, known_name, known_number, known_addr}

-- and which tokens may not stand behind its texts
pub record ClearlyBy (T : (List Kind → Bool) → Type 0) {A : Type 0} (g : Grammar A) (look : Look) (barred : List Front) : Type 0 where
  pub clear : ClearBy T g
  pub leads : look.leads ≡ true → Leads g
  pub full : look.full ≡ true → (v : A) (ts : List Kind) → ¬ (MayEmpty g v ts)
  pub starts : (ts : List Kind) → MayBegin g ts → Starts look.starts ts
  pub opens : (ts : List Kind) → MayOpen g ts → Starts look.starts ts
  pub ends : (v : A) (rest : List Kind) → GoesOn g v rest → Starts look.ends rest
  pub spoils : (v : A) (rest : List Kind) → Spoils g v rest → Starts barred rest

-- where each test asks the first token alone
abbrev pub Clearly : {A : Type 0} → Grammar A → Look → List Front → Type 0
Clearly g look barred = ClearlyBy IsOfFirst g look barred

not_full : {T : (List Kind → Bool) → Type 0} {A : Type 0} {g : Grammar A} {l : Look} {ss : List Front} → ClearlyBy T g l ss → (v : A) (ts : List Kind) → MayEmpty g v ts → ¬ (l.full ≡ true)
not_full known v ts empty full = known.full full v ts empty

pub clear_gives : {T : (List Kind → Bool) → Type 0} {A : Type 0} (v : A) → ClearlyBy T (gives v) nothing_look []
clear_gives v = record {
  clear = tt;
  leads = λ e. absurd cc;
  full = λ e. absurd cc;
  starts = λ ts p. absurd p;
  opens = λ ts p. absurd p;
  ends = λ v rest p. absurd p;
  spoils = λ v rest p. absurd p;
}

takes_starts : {A : Type 0} (c : Kind → Option A) (fs : List Front) → ((k : Kind) → is_some (c k) ≡ true → one_of fs k ≡ true) → (ts : List Kind) → MayBegin (takes c) ts → Starts fs ts
takes_starts c fs h [] p = absurd p
takes_starts c fs h (k ∷ ts) p = h k p

takes_opens : {A : Type 0} (c : Kind → Option A) (fs : List Front) → ((k : Kind) → is_some (c k) ≡ true → one_of fs k ≡ true) → (ts : List Kind) → MayOpen (takes c) ts → Starts fs ts
takes_opens c fs h [] p = absurd p
takes_opens c fs h (k ∷ ts) p = h k p

pub clear_takes : {T : (List Kind → Bool) → Type 0} {A : Type 0} (c : Kind → Option A) (fs : List Front) → ((k : Kind) → is_some (c k) ≡ true → one_of fs k ≡ true) → ClearlyBy T (takes c) (token_look fs) []
clear_takes c fs h = record {
  clear = tt;
  leads = λ e. tt;
  full = λ e v ts p. p;
  starts = takes_starts c fs h;
  opens = takes_opens c fs h;
  ends = λ v rest p. absurd p;
  spoils = λ v rest p. absurd p;
}

known_starts : {A : Type 0} (c : Kind → Option A) (fs : List Front) → Known (takes c) (token_look fs) → (ts : List Kind) → MayBegin (takes c) ts → Starts fs ts
known_starts c fs k [] p = absurd p
known_starts c fs k (t ∷ ts) p = k.starts (t ∷ ts) p

known_opens : {A : Type 0} (c : Kind → Option A) (fs : List Front) → Known (takes c) (token_look fs) → (ts : List Kind) → MayOpen (takes c) ts → Starts fs ts
known_opens c fs k [] p = absurd p
known_opens c fs k (t ∷ ts) p = k.starts (t ∷ ts) p

-- a token of which the same is known
pub clear_token : {T : (List Kind → Bool) → Type 0} {A : Type 0} (c : Kind → Option A) (fs : List Front) → Known (takes c) (token_look fs) → ClearlyBy T (takes c) (token_look fs) []
clear_token c fs k = record {
  clear = tt;
  leads = λ e. tt;
  full = λ e v ts p. p;
  starts = known_starts c fs k;
  opens = known_opens c fs k;
  ends = λ v rest p. absurd p;
  spoils = λ v rest p. absurd p;
}

pub clear_mark : {T : (List Kind → Bool) → Type 0} (m : Mark) → ClearlyBy T (the_mark m) (token_look (marked m ∷ [])) []
clear_mark m = clear_token _ (marked m ∷ []) (known_mark m)

pub clear_name : {T : (List Kind → Bool) → Type 0} → ClearlyBy T a_name (token_look (name ∷ [])) []
clear_name = clear_token _ (name ∷ []) known_name

pub clear_number : {T : (List Kind → Bool) → Type 0} → ClearlyBy T a_number (token_look (number ∷ [])) []
clear_number = clear_token _ (number ∷ []) known_number

pub clear_addr : {T : (List Kind → Bool) → Type 0} → ClearlyBy T an_addr (token_look (addr ∷ [])) []
clear_addr = clear_token _ (addr ∷ []) known_addr

module _ {T : (List Kind → Bool) → Type 0} {A B : Type 0} {f : Grammar B} {g : B → Grammar A} {l m : Look} {ss us : List Front} (kf : ClearlyBy T f l ss) (kg : (b : B) → ClearlyBy T (g b) m us) where
  sequence_clear : are_apart m.starts l.ends ≡ true → ClearBy T (sequence f g)
  sequence_clear apart = (kf.clear, λ b. (kg b).clear, λ b rest p q. starts_apart m.starts l.ends rest apart ((kg b).starts rest p) (kf.ends b rest q))

  sequence_full : (l.full || m.full) ≡ true → (v : A) (ts : List Kind) → ¬ (MayEmpty (sequence f g) v ts)
  sequence_full e v ts (b, first, last) = or_elim l.full m.full e (λ full. kf.full full b ts first) (λ full. (kg b).full full v ts last)

  sequence_starts : (ts : List Kind) → MayBegin (sequence f g) ts → Starts (sequence_look l m).starts ts
  sequence_starts ts (inl p) = behind_first l.full l.starts m.starts ts (kf.starts ts p)
  sequence_starts ts (inr (b, empty, p)) = behind_second l.full l.starts m.starts ts (not_full kf b ts empty) ((kg b).starts ts p)

  sequence_ends : (v : A) (rest : List Kind) → GoesOn (sequence f g) v rest → Starts (sequence_look l m).ends rest
  sequence_ends v rest (b, inl p) = behind_first m.full m.ends l.ends rest ((kg b).ends v rest p)
  sequence_ends v rest (b, inr (empty, p)) = behind_second m.full m.ends l.ends rest (not_full (kg b) v rest empty) (kf.ends b rest p)

  sequence_spoils : (v : A) (rest : List Kind) → Spoils (sequence f g) v rest → Starts (or_behind m.full us ss) rest
  sequence_spoils v rest (b, inl p) = behind_first m.full us ss rest ((kg b).spoils v rest p)
  sequence_spoils v rest (b, inr (empty, p)) = behind_second m.full us ss rest (not_full (kg b) v rest empty) (kf.spoils b rest p)

  pub clear_sequence : are_apart m.starts l.ends ≡ true → ClearlyBy T (sequence f g) (sequence_look l m) (or_behind m.full us ss)
  clear_sequence apart = record {
    clear = sequence_clear apart;
    leads = kf.leads;
    full = sequence_full;
    starts = sequence_starts;
    opens = λ ts p. behind_first l.full l.starts m.starts ts (kf.opens ts p);
    ends = sequence_ends;
    spoils = sequence_spoils;
  }

then_ends : {T : (List Kind → Bool) → Type 0} {A B : Type 0} (f : Grammar B) (g : B → Grammar A) (fs us : List Front) (m : Look) → ClearlyBy T f (token_look fs) [] → ((b : B) → ClearlyBy T (g b) m us)
    → (v : A) (rest : List Kind) → GoesOn (sequence f g) v rest → Starts m.ends rest
then_ends f g fs us m kf kg v rest (b, inl p) = (kg b).ends v rest p
then_ends f g fs us m kf kg v rest (b, inr (empty, p)) = absurd (starts_never rest (kf.ends b rest p))

then_spoils : {T : (List Kind → Bool) → Type 0} {A B : Type 0} (f : Grammar B) (g : B → Grammar A) (fs us : List Front) (m : Look) → ClearlyBy T f (token_look fs) [] → ((b : B) → ClearlyBy T (g b) m us)
    → (v : A) (rest : List Kind) → Spoils (sequence f g) v rest → Starts us rest
then_spoils f g fs us m kf kg v rest (b, inl p) = (kg b).spoils v rest p
then_spoils f g fs us m kf kg v rest (b, inr (empty, p)) = absurd (starts_never rest (kf.spoils b rest p))

then_full : {T : (List Kind → Bool) → Type 0} {A B : Type 0} (f : Grammar B) (g : B → Grammar A) (fs : List Front) → ClearlyBy T f (token_look fs) [] → (v : A) (ts : List Kind) → ¬ (MayEmpty (sequence f g) v ts)
then_full f g fs kf v ts (b, empty, p) = kf.full refl b ts empty

then_starts : {T : (List Kind → Bool) → Type 0} {A B : Type 0} (f : Grammar B) (g : B → Grammar A) (fs : List Front) → ClearlyBy T f (token_look fs) [] → (ts : List Kind) → MayBegin (sequence f g) ts → Starts fs ts
then_starts f g fs kf ts (inl p) = kf.starts ts p
then_starts f g fs kf ts (inr (b, empty, p)) = absurd (kf.full refl b ts empty)

pub clear_then : {T : (List Kind → Bool) → Type 0} {A B : Type 0} {f : Grammar B} {g : B → Grammar A} {fs us : List Front} {m : Look} → ClearlyBy T f (token_look fs) [] → ((b : B) → ClearlyBy T (g b) m us) → ClearlyBy T (sequence f g) (full_look fs m.ends) us
clear_then {T} {A} {B} {f} {g} {fs} {us} {m} kf kg = record {
  clear = (kf.clear, λ b. (kg b).clear, λ b rest p q. starts_never rest (kf.ends b rest q));
  leads = λ e. kf.leads refl;
  full = λ e. then_full f g fs kf;
  starts = then_starts f g fs kf;
  opens = kf.opens;
  ends = then_ends f g fs us m kf kg;
  spoils = then_spoils f g fs us m kf kg;
}

module _ {T : (List Kind → Bool) → Type 0} {A : Type 0} {f g : Grammar A} {l m : Look} {ss us : List Front} (kf : ClearlyBy T f l ss) (kg : ClearlyBy T g m us) where
  choice_clear : l.leads ≡ true → are_apart l.starts m.starts ≡ true → ClearBy T (choice f g)
  choice_clear leads apart = (kf.leads leads, kf.clear, kg.clear, λ ts p q. starts_apart l.starts m.starts ts apart (kf.opens ts p) (kg.starts ts q))

  choice_leads : (l.leads && m.leads) ≡ true → Leads (choice f g)
  choice_leads e = let both = and_parts l.leads m.leads e in (kf.leads both.0, kg.leads both.1)

  choice_full : (l.full && m.full) ≡ true → (v : A) (ts : List Kind) → ¬ (MayEmpty (choice f g) v ts)
  choice_full e v ts (inl empty) = kf.full ((and_parts l.full m.full e).0) v ts empty
  choice_full e v ts (inr empty) = kg.full ((and_parts l.full m.full e).1) v ts empty

  choice_starts : (ts : List Kind) → MayBegin (choice f g) ts → Starts (l.starts ++ m.starts) ts
  choice_starts ts (inl p) = starts_left l.starts m.starts ts (kf.starts ts p)
  choice_starts ts (inr p) = starts_right l.starts m.starts ts (kg.starts ts p)

  choice_opens : (ts : List Kind) → MayOpen (choice f g) ts → Starts (l.starts ++ m.starts) ts
  choice_opens ts (inl p) = starts_left l.starts m.starts ts (kf.opens ts p)
  choice_opens ts (inr p) = starts_right l.starts m.starts ts (kg.opens ts p)

  choice_ends : (v : A) (rest : List Kind) → GoesOn (choice f g) v rest → Starts (choice_look l m).ends rest
  choice_ends v rest (inl p) = starts_left l.ends _ rest (kf.ends v rest p)
  choice_ends v rest (inr (inl p)) = starts_right l.ends _ rest (behind_first m.full m.ends l.starts rest (kg.ends v rest p))
  choice_ends v rest (inr (inr (empty, p))) = starts_right l.ends _ rest (behind_second m.full m.ends l.starts rest (not_full kg v rest empty) (kf.opens rest p))

  choice_spoils : (v : A) (rest : List Kind) → Spoils (choice f g) v rest → Starts (ss ++ us) rest
  choice_spoils v rest (inl p) = starts_left ss us rest (kf.spoils v rest p)
  choice_spoils v rest (inr p) = starts_right ss us rest (kg.spoils v rest p)

  pub clear_choice : l.leads ≡ true → are_apart l.starts m.starts ≡ true → ClearlyBy T (choice f g) (choice_look l m) (ss ++ us)
  clear_choice leads apart = record {
    clear = choice_clear leads apart;
    leads = choice_leads;
    full = choice_full;
    starts = choice_starts;
    opens = choice_opens;
    ends = choice_ends;
    spoils = choice_spoils;
  }

pub clear_checks : {T : (List Kind → Bool) → Type 0} {A : Type 0} {f : Grammar A} {l : Look} {ss : List Front} {fault : Option (Cause × ℕ)} → ClearlyBy T f l ss → ClearlyBy T (checks fault f) l ss
clear_checks k = record { clear = k.clear; leads = k.leads; full = k.full; starts = k.starts; opens = k.opens; ends = k.ends; spoils = k.spoils }

pub first_test : (test : Kind → Bool) → IsOfFirst (is_next test)
first_test test = (refl, λ k x y. refl)

module _ {T : (List Kind → Bool) → Type 0} {A : Type 0} {f : Grammar A} {l : Look} {ss : List Front} (next : List Kind → Bool) (cause : Cause) (fs : List Front) (barred : (ts : List Kind) → next ts ≡ true → Starts fs ts) (k : ClearlyBy T f l ss) where
  bars_opens : (ts : List Kind) → MayOpen (bars next cause f) ts → Starts (fs ++ l.starts) ts
  bars_opens ts (inl p) = starts_left fs l.starts ts (barred ts p)
  bars_opens ts (inr p) = starts_right fs l.starts ts (k.opens ts p)

  test_spoils : (v : A) (rest : List Kind) → Spoils f v rest ⊎ (MayEmpty f v rest × (next rest ≡ true)) → Starts (or_behind l.full ss fs) rest
  test_spoils v rest (inl p) = behind_first l.full ss fs rest (k.spoils v rest p)
  test_spoils v rest (inr (empty, p)) = behind_second l.full ss fs rest (not_full k v rest empty) (barred rest p)

  pub clear_bars : T next → ClearlyBy T (bars next cause f) (bars_look fs l) (or_behind l.full ss fs)
  clear_bars first = record {
    clear = (first, k.clear);
    leads = k.leads;
    full = k.full;
    starts = λ ts p. starts_right fs l.starts ts (k.starts ts p.1);
    opens = bars_opens;
    ends = k.ends;
    spoils = test_spoils;
  }

  pub clear_unless : T next → ClearlyBy T (unless next f) l (or_behind l.full ss fs)
  clear_unless first = record {
    clear = (first, k.clear);
    leads = k.leads;
    full = λ e v ts p. k.full e v ts p.1;
    starts = λ ts p. k.starts ts p.1;
    opens = λ ts p. k.opens ts p.1;
    ends = k.ends;
    spoils = test_spoils;
  }

module _ {T : (List Kind → Bool) → Type 0} {A : Type 0} {f : ℕ → Grammar A} {l : Look} {ss : List Front} (k : (n : ℕ) → ClearlyBy T (f n) l ss) where
  here_full : l.full ≡ true → (v : A) (ts : List Kind) → ¬ (MayEmpty (here f) v ts)
  here_full e v ts (n, p) = (k n).full e v ts p

  here_starts : (ts : List Kind) → MayBegin (here f) ts → Starts l.starts ts
  here_starts ts (n, p) = (k n).starts ts p

  here_opens : (ts : List Kind) → MayOpen (here f) ts → Starts l.starts ts
  here_opens ts (n, p) = (k n).opens ts p

  here_ends : (v : A) (rest : List Kind) → GoesOn (here f) v rest → Starts l.ends rest
  here_ends v rest (n, p) = (k n).ends v rest p

  here_spoils : (v : A) (rest : List Kind) → Spoils (here f) v rest → Starts ss rest
  here_spoils v rest (n, p) = (k n).spoils v rest p

  pub clear_here : ClearlyBy T (here f) l ss
  clear_here = record {
    clear = λ n. (k n).clear;
    leads = λ e n. (k n).leads e;
    full = here_full;
    starts = here_starts;
    opens = here_opens;
    ends = here_ends;
    spoils = here_spoils;
  }

-- rounds, by what may go on with one that isn't the last, and with one that is
module _ {T : (List Kind → Bool) → Type 0} {S A : Type 0} (f : S → Grammar (Step S A)) (l : Look) (onwards lasts ss : List Front) (k : (s : S) → ClearlyBy T (f s) l ss) where
  rounds_ends : ((t u : S) (rest : List Kind) → GoesOn (f t) (onward u) rest → Starts onwards rest) → ((t : S) (v : A) (rest : List Kind) → GoesOn (f t) (done v) rest → Starts lasts rest)
      → (s : S) (v : A) (rest : List Kind) → GoesOn (rounds f s) v rest → Starts (onwards ++ lasts) rest
  rounds_ends on last s v rest (t, inl p) = starts_right onwards lasts rest (last t v rest p)
  rounds_ends on last s v rest (t, inr (u, empty, p)) = starts_left onwards lasts rest (on t u rest p)

  rounds_spoils : (s : S) (v : A) (rest : List Kind) → Spoils (rounds f s) v rest → Starts ss rest
  rounds_spoils s v rest (t, inl p) = (k t).spoils (done v) rest p
  rounds_spoils s v rest (t, inr (u, empty, p)) = (k t).spoils (onward u) rest p

  pub clear_rounds : (s : S) → ((t u : S) (ts : List Kind) → ¬ (MayEmpty (f t) (onward u) ts)) → ((t u : S) (rest : List Kind) → GoesOn (f t) (onward u) rest → Starts onwards rest)
      → ((t : S) (v : A) (rest : List Kind) → GoesOn (f t) (done v) rest → Starts lasts rest) → are_apart l.starts onwards ≡ true → ClearlyBy T (rounds f s) (rounds_look l onwards lasts) ss
  clear_rounds s never on last apart = record {
    clear = (λ t. (k t).clear, never, λ t u rest p q. starts_apart l.starts onwards rest apart ((k u).starts rest p) (on t u rest q));
    leads = (k s).leads;
    full = λ e v ts p. (k s).full e (done v) ts p;
    starts = (k s).starts;
    opens = (k s).opens;
    ends = rounds_ends on last s;
    spoils = rounds_spoils s;
  }

pub clear_wider : {T : (List Kind → Bool) → Type 0} {A : Type 0} {g : Grammar A} {l m : Look} {ss us : List Front} → ClearlyBy T g l ss → is_wider l m ≡ true → are_among ss us ≡ true → ClearlyBy T g m us
clear_wider {T} {A} {g} {l} {m} {ss} {us} k e among =
    let one = and_parts (not m.leads || l.leads) _ e in
    let two = and_parts (not m.full || l.full) _ one.1 in
    let three = and_parts (are_among l.starts m.starts) (are_among l.ends m.ends) two.1 in
    record {
      clear = k.clear;
      leads = λ x. k.leads (implied m.leads l.leads one.0 x);
      full = λ x. k.full (implied m.full l.full two.0 x);
      starts = λ ts p. starts_among l.starts m.starts ts three.0 (k.starts ts p);
      opens = λ ts p. starts_among l.starts m.starts ts three.0 (k.opens ts p);
      ends = λ v rest p. starts_among l.ends m.ends rest three.1 (k.ends v rest p);
      spoils = λ v rest p. starts_among ss us rest among (k.spoils v rest p);
    }

-- What is clear is parted, too.

is_empty : {A : Type 0} (f : Grammar A) (v : A) (ts : List Kind) → Empty f v ts → MayEmpty f v ts
is_empty (gives w) v ts p = p
is_empty (takes c) v ts p = p
is_empty (sequence f g) v ts (b, p, q) = (b, is_empty f b ts p, is_empty (g b) v ts q)
is_empty (choice f g) v ts (inl p) = inl (is_empty f v ts p)
is_empty (choice f g) v ts (inr p) = inr (is_empty g v ts p)
is_empty (rounds f s) v ts p = is_empty (f s) (done v) ts p
is_empty (checks o f) v ts p = is_empty f v ts p
is_empty (bars t c f) v ts p = is_empty f v ts p
is_empty (unless t f) v ts (free, p) = (free, is_empty f v ts p)
is_empty (here f) v ts p = (length ts, is_empty (f (length ts)) v ts p)

it_begins : {A : Type 0} (f : Grammar A) (ts : List Kind) → Begins f ts → MayBegin f ts
it_begins (gives w) ts p = p
it_begins (takes c) [] p = p
it_begins (takes c) (k ∷ ts) p = p
it_begins (sequence f g) ts (inl p) = inl (it_begins f ts p)
it_begins (sequence f g) ts (inr (b, empty, p)) = inr (b, is_empty f b ts empty, it_begins (g b) ts p)
it_begins (choice f g) ts (inl p) = inl (it_begins f ts p)
it_begins (choice f g) ts (inr p) = inr (it_begins g ts p)
it_begins (rounds f s) ts p = it_begins (f s) ts p
it_begins (checks o f) ts p = it_begins f ts p
it_begins (bars t c f) ts (free, p) = (free, it_begins f ts p)
it_begins (unless t f) ts (free, p) = (free, it_begins f ts p)
it_begins (here f) ts p = (length ts, it_begins (f (length ts)) ts p)

not_and : (a b : Bool) → (not a && b) ≡ true → (a ≡ false) × (b ≡ true)
not_and false b e = (refl, e)
not_and true b e = absurd cc

it_opens : {A : Type 0} (f : Grammar A) (ts : List Kind) → begins f ts ≡ true → MayOpen f ts
it_opens (gives w) ts e = absurd cc
it_opens (takes c) [] e = absurd cc
it_opens (takes c) (k ∷ ts) e = e
it_opens (sequence f g) ts e = it_opens f ts e
it_opens (choice f g) ts e = or_elim (begins f ts) (begins g ts) e (λ h. inl (it_opens f ts h)) (λ h. inr (it_opens g ts h))
it_opens (rounds f s) ts e = it_opens (f s) ts e
it_opens (checks o f) ts e = it_opens f ts e
it_opens (bars t c f) ts e = or_elim (t ts) (begins f ts) e (λ h. inl h) (λ h. inr (it_opens f ts h))
it_opens (unless t f) ts e = let both = not_and (t ts) (begins f ts) e in (both.0, it_opens f ts both.1)
it_opens (here f) ts e = (length ts, it_opens (f (length ts)) ts e)

pub it_goes : {A : Type 0} (f : Grammar A) (v : A) (rest : List Kind) → Extends f v rest → GoesOn f v rest
it_goes (gives w) v rest p = p
it_goes (takes c) v rest p = p
it_goes (sequence f g) v rest (b, inl p) = (b, inl (it_goes (g b) v rest p))
it_goes (sequence f g) v rest (b, inr (empty, p)) = (b, inr (is_empty (g b) v rest empty, it_goes f b rest p))
it_goes (choice f g) v rest (inl p) = inl (it_goes f v rest p)
it_goes (choice f g) v rest (inr (inl p)) = inr (inl (it_goes g v rest p))
it_goes (choice f g) v rest (inr (inr (empty, p))) = inr (inr (is_empty g v rest empty, it_opens f rest p))
it_goes (rounds f s) v rest (t, inl p) = (t, inl (it_goes (f t) (done v) rest p))
it_goes (rounds f s) v rest (t, inr (u, empty, p)) = (t, inr (u, is_empty (f u) (done v) rest empty, it_goes (f t) (onward u) rest p))
it_goes (checks o f) v rest p = it_goes f v rest p
it_goes (bars t c f) v rest p = it_goes f v rest p
it_goes (unless t f) v rest p = it_goes f v rest p
it_goes (here f) v rest (n, p) = (n, it_goes (f n) v rest p)

pub clear_parted : (T : (List Kind → Bool) → Type 0) {A : Type 0} (f : Grammar A) → ClearBy T f → Parted f
clear_parted T (gives w) clear = tt
clear_parted T (takes c) clear = tt
clear_parted T (sequence f g) (cf, cg, apart) = (clear_parted T f cf, λ b. clear_parted T (g b) (cg b), λ b rest p q. apart b rest (it_begins (g b) rest p) (it_goes f b rest q))
clear_parted T (choice f g) (leads, cf, cg, apart) = (leads, clear_parted T f cf, clear_parted T g cg, λ ts p q. apart ts (it_opens f ts p) (it_begins g ts q))
clear_parted T (rounds f s) (cf, never, apart) =
    (λ t. clear_parted T (f t) (cf t), λ t u ts p. never t u ts (is_empty (f t) (onward u) ts p), λ t u rest p q. apart t u rest (it_begins (f u) rest p) (it_goes (f t) (onward u) rest q))
clear_parted T (checks o f) clear = clear_parted T f clear
clear_parted T (bars t c f) (first, clear) = clear_parted T f clear
clear_parted T (unless t f) (first, clear) = clear_parted T f clear
clear_parted T (here f) clear = λ n. clear_parted T (f n) (clear n)

pub known_of : {T : (List Kind → Bool) → Type 0} {A : Type 0} {g : Grammar A} {l : Look} {ss : List Front} → ClearlyBy T g l ss → Known g l
known_of {T} {A} {g} {l} {ss} k = record {
  parted = clear_parted T g k.clear;
  leads = k.leads;
  full = λ e v ts p. k.full e v ts (is_empty g v ts p);
  starts = λ ts p. k.starts ts (it_begins g ts p);
  opens = λ ts p. k.opens ts (it_opens g ts p);
  ends = λ v rest p. k.ends v rest (it_goes g v rest p);
}
