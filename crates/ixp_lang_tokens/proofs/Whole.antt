-- Grammars and what they are with more levels, part by part: each is supplied by the other, of which enough is known, and which has
-- a text.
use Rattle.std.proofs.Common.{◌≡◌, ℕ, pred, inl, inr, Bool, true, List, [], ◌∷◌, ◌++◌, Option, Some, arith, refl, sym, ◌∙◌, subst}
use Rattle.ixp_lang_tokens.specs.declared.fault.Cause.{Cause}
use Rattle.ixp_lang_tokens.specs.declared.token.Kind.{Kind}
use Rattle.ixp_lang_tokens.specs.Grammars.{Grammar, gives, takes, sequence, choice, checks, here}
use Rattle.ixp_lang_tokens.specs.Syntax.{Spot, spot, Fine}
use Rattle.ixp_lang_tokens.proofs.Fronts.{Front, are_apart, are_among, starts_apart, starts_never}
use Rattle.ixp_lang_tokens.proofs.Clear.{Spoils, Clear, IsOfFirst}
use Rattle.ixp_lang_tokens.proofs.Fines.{Front as Fronted, front, first_of, MayFollow, Moves, moves, one_front, spoils_no_end}
use Rattle.ixp_lang_tokens.proofs.Looks.{Look, or_behind, nothing_look, full_look, token_look, sequence_look, choice_look, is_wider}
use Rattle.ixp_lang_tokens.proofs.ClearLooks.{Clearly, clear_gives, clear_sequence, clear_then, clear_choice, clear_checks, clear_here, clear_wider}
use Rattle.ixp_lang_tokens.proofs.Viable.{HasText, CanEnd, CanFollow, PassesOn, goes_where_follows, Supplied, supplied_gives, supplied_takes, supplied_sequence, supplied_choice, supplied_checks, supplied_here}

-- a text of g may stand behind a text of f that says b
abbrev pub TextBehind : {A B : Type 0} → Grammar B → B → Grammar A → Type 0
TextBehind {A} f b g = (p : ℕ) → (v : A) × (ts : List Kind) × (q : ℕ) × Fine g v (spot p ts) (spot q []) × (¬ (Spoils f b ts))

-- Where tests ask the first token alone, what is behind a text may be exchanged for what begins with the same token.
module _ {A B : Type 0} (f : Grammar B) (g : Grammar A) (clear : Clear f) (b : B) where
  pub again_before : (p : ℕ) (front rest other : List Kind) (m : ℕ) → MayFollow f b rest other → (moved : Moves f b p (front ++ rest) m rest) → Fine f b (spot p (front ++ other)) (spot m other)
  again_before p front rest other m may moved = subst (λ x. Fine f b (spot p (x ++ other)) (spot m other)) (one_front moved.taken front rest (sym moved.parts)) (moved.again other may)

  pub can_end : TextBehind f b g → CanEnd f b g
  can_end text p front rest m fine = by_text (text m)
    where
      by_text : (v : A) × (ts : List Kind) × (q : ℕ) × Fine g v (spot m ts) (spot q []) × (¬ (Spoils f b ts)) → (v : A) × (more : List Kind) × (q : ℕ) × Fine g v (spot m more) (spot q []) × Fine f b (spot p (front ++ more)) (spot m more)
      by_text (v, ts, q, last, free) = (v, ts, q, last, again_before p front rest ts m (inr free) (moves f clear b p (front ++ rest) (spot m rest) fine))

  pub can_follow : CanFollow f b g
  can_follow p front [] rest more m v q some fine last = absurd (omega arith)
  can_follow p front (k ∷ ks) rest more m v q some fine last =
      again_before p front (k ∷ (ks ++ rest)) (k ∷ (ks ++ more)) m (inl (inr (first_of k (ks ++ rest) (ks ++ more)))) (moves f clear b p (front ++ (k ∷ (ks ++ rest))) (spot m (k ∷ (ks ++ rest))) fine)

-- a test of the first token is passed again
pub passes_on : {A : Type 0} (t : List Kind → Bool) (f h : Grammar A) → IsOfFirst t → PassesOn t f h
passes_on t f h first p [] rest more c v q some free at fine = absurd (omega arith)
passes_on t f h first p (k ∷ ks) rest more c v q some free at fine = first.1 k (ks ++ more) (ks ++ rest) ∙ free

pub record Part {A : Type 0} (f h : Grammar A) (look : Look) (barred : List Front) : Type 1 where
  pub supplied : Supplied A f h
  pub clearly : Clearly h look barred

pub record Whole {A : Type 0} (f h : Grammar A) (look : Look) (barred : List Front) : Type 1 where
  pub supplied : Supplied A f h
  pub clearly : Clearly h look barred
  pub text : HasText h

pub part_of : {A : Type 0} {f h : Grammar A} {l : Look} {ss : List Front} → Whole f h l ss → Part f h l ss
part_of w = record { supplied = w.supplied; clearly = w.clearly }

pub whole_of : {A : Type 0} {f h : Grammar A} {l : Look} {ss : List Front} → Part f h l ss → HasText h → Whole f h l ss
whole_of w text = record { supplied = w.supplied; clearly = w.clearly; text = text }

pub whole_gives : {A : Type 0} (v : A) → Whole (gives v) (gives v) nothing_look []
whole_gives v = record { supplied = supplied_gives v; clearly = clear_gives v; text = λ p. (v, [], p, (refl, refl)) }

-- a token, and one of its class
pub whole_takes : {A : Type 0} {c : Kind → Option A} {fs : List Front} (k : Kind) (v : A) → c k ≡ Some v → Clearly (takes c) (token_look fs) [] → Whole (takes c) (takes c) (token_look fs) []
whole_takes {A} {c} {fs} k v is known = record { supplied = supplied_takes c; clearly = known; text = λ p. (v, k ∷ [], pred p, (is, refl)) }

-- a text of the one behind a text of the other
pub text_behind : {A B : Type 0} (f : Grammar B) (g : Grammar A) (l m : Look) (ss us : List Front) → Clearly f l ss → Clearly g m us → are_apart m.starts ss ≡ true → HasText g → (b : B) → TextBehind f b g
text_behind {A} {B} f g l m ss us kf kg apart text b p = by_text (text p)
  where
    free : (v : A) (ts : List Kind) (q : ℕ) → Fronted g v (spot p ts) (spot q []) → ¬ (Spoils f b ts)
    free v ts q (inl begins) = λ s. starts_apart m.starts ss ts apart (kg.starts ts begins) (kf.spoils b ts s)
    free v ts q (inr (empty, same)) = λ s. spoils_no_end f kf.clear b (subst (λ (x : Spot). Spoils f b x.1) same s)

    by_text : (v : A) × (ts : List Kind) × (q : ℕ) × Fine g v (spot p ts) (spot q []) → (v : A) × (ts : List Kind) × (q : ℕ) × Fine g v (spot p ts) (spot q []) × (¬ (Spoils f b ts))
    by_text (v, ts, q, fine) = (v, ts, q, fine, free v ts q (front IsOfFirst g kg.clear v (spot p ts) (spot q []) fine))

-- where nothing is barred behind the first
pub text_free : {A B : Type 0} (f : Grammar B) (g : Grammar A) (l : Look) → Clearly f l [] → HasText g → (b : B) → TextBehind f b g
text_free {A} f g l kf text b p = by_text (text p)
  where
    by_text : (v : A) × (ts : List Kind) × (q : ℕ) × Fine g v (spot p ts) (spot q []) → (v : A) × (ts : List Kind) × (q : ℕ) × Fine g v (spot p ts) (spot q []) × (¬ (Spoils f b ts))
    by_text (v, ts, q, fine) = (v, ts, q, fine, λ s. starts_never ts (kf.spoils b ts s))

pub text_sequence : {A B : Type 0} (f : Grammar B) (g : B → Grammar A) → Clear f → HasText f → ((b : B) → TextBehind f b (g b)) → HasText (sequence f g)
text_sequence {A} {B} f g clear text behind p = by_text (text p)
  where
    by_behind : (b : B) (ts : List Kind) (m : ℕ) → Moves f b p ts m [] → (v : A) × (more : List Kind) × (q : ℕ) × Fine (g b) v (spot m more) (spot q []) × (¬ (Spoils f b more))
        → (v : A) × (ts : List Kind) × (q : ℕ) × Fine (sequence f g) v (spot p ts) (spot q [])
    by_behind b ts m moved (v, more, q, fine, free) = (v, moved.taken ++ more, q, (b, spot m more, moved.again more (inr free), fine))

    by_text : (b : B) × (ts : List Kind) × (m : ℕ) × Fine f b (spot p ts) (spot m []) → (v : A) × (ts : List Kind) × (q : ℕ) × Fine (sequence f g) v (spot p ts) (spot q [])
    by_text (b, ts, m, fine) = by_behind b ts m (moves f clear b p ts (spot m []) fine) (behind b m)

pub supply_sequence : {A B : Type 0} (f h : Grammar B) (g i : B → Grammar A) → Clear h → Supplied B f h → ((b : B) → Supplied A (g b) (i b)) → ((b : B) → TextBehind h b (i b)) → Supplied A (sequence f g) (sequence h i)
supply_sequence f h g i clear sf sg texts =
    supplied_sequence f h g i (λ b. Unit {0}) sf (λ b x y p. tt) (λ b j. sg b) (λ b j. can_end h (i b) clear b (texts b)) (λ b j. goes_where_follows h b (g b) (i b) (can_follow h (i b) clear b))

module _ {A B : Type 0} {f h : Grammar B} {g i : B → Grammar A} {fs us : List Front} {m : Look} where
  pub part_then : Part f h (token_look fs) [] → ((b : B) → Whole (g b) (i b) m us) → Part (sequence f g) (sequence h i) (full_look fs m.ends) us
  part_then wf wg = record {
    supplied = supply_sequence f h g i wf.clearly.clear wf.supplied (λ b. (wg b).supplied) (λ b. text_free h (i b) (token_look fs) wf.clearly (wg b).text b);
    clearly = clear_then wf.clearly (λ b. (wg b).clearly);
  }

  pub whole_then : Whole f h (token_look fs) [] → ((b : B) → Whole (g b) (i b) m us) → Whole (sequence f g) (sequence h i) (full_look fs m.ends) us
  whole_then wf wg = whole_of (part_then (part_of wf) wg) (text_sequence h i wf.clearly.clear wf.text (λ b. text_free h (i b) (token_look fs) wf.clearly (wg b).text b))

module _ {A B : Type 0} {f h : Grammar B} {g i : B → Grammar A} {l m : Look} {ss us : List Front} where
  pub whole_sequence : Whole f h l ss → ((b : B) → Whole (g b) (i b) m us) → are_apart m.starts l.ends ≡ true → are_apart m.starts ss ≡ true → Whole (sequence f g) (sequence h i) (sequence_look l m) (or_behind m.full us ss)
  whole_sequence wf wg apart free = record {
    supplied = supply_sequence f h g i wf.clearly.clear wf.supplied (λ b. (wg b).supplied) (λ b. text_behind h (i b) l m ss us wf.clearly (wg b).clearly free (wg b).text b);
    clearly = clear_sequence wf.clearly (λ b. (wg b).clearly) apart;
    text = text_sequence h i wf.clearly.clear wf.text (λ b. text_behind h (i b) l m ss us wf.clearly (wg b).clearly free (wg b).text b);
  }

pub left_text : {A : Type 0} (h i : Grammar A) → HasText h → HasText (choice h i)
left_text {A} h i text p = by_text (text p)
  where
    by_text : (v : A) × (ts : List Kind) × (q : ℕ) × Fine h v (spot p ts) (spot q []) → (v : A) × (ts : List Kind) × (q : ℕ) × Fine (choice h i) v (spot p ts) (spot q [])
    by_text (v, ts, q, fine) = (v, ts, q, inl fine)

right_text : {A : Type 0} (h i : Grammar A) → HasText i → HasText (choice h i)
right_text {A} h i text p = by_text (text p)
  where
    by_text : (v : A) × (ts : List Kind) × (q : ℕ) × Fine i v (spot p ts) (spot q []) → (v : A) × (ts : List Kind) × (q : ℕ) × Fine (choice h i) v (spot p ts) (spot q [])
    by_text (v, ts, q, fine) = (v, ts, q, inr fine)

module _ {A : Type 0} {f h g i : Grammar A} {l m : Look} {ss us : List Front} where
  pub part_choice : Part f h l ss → Part g i m us → l.leads ≡ true → are_apart l.starts m.starts ≡ true → Part (choice f g) (choice h i) (choice_look l m) (ss ++ us)
  part_choice wf wg leads apart = record { supplied = supplied_choice f g h i wf.supplied wg.supplied; clearly = clear_choice wf.clearly wg.clearly leads apart }

  -- the text is the first one's, or the second one's
  pub whole_left : Whole f h l ss → Part g i m us → l.leads ≡ true → are_apart l.starts m.starts ≡ true → Whole (choice f g) (choice h i) (choice_look l m) (ss ++ us)
  whole_left wf wg leads apart = whole_of (part_choice (part_of wf) wg leads apart) (left_text h i wf.text)

  pub whole_right : Part f h l ss → Whole g i m us → l.leads ≡ true → are_apart l.starts m.starts ≡ true → Whole (choice f g) (choice h i) (choice_look l m) (ss ++ us)
  whole_right wf wg leads apart = whole_of (part_choice wf (part_of wg) leads apart) (right_text h i wg.text)

-- of two of which both have texts
pub whole_choice : {A : Type 0} {f h g i : Grammar A} {l m : Look} {ss us : List Front} → Whole f h l ss → Whole g i m us → l.leads ≡ true → are_apart l.starts m.starts ≡ true → Whole (choice f g) (choice h i) (choice_look l m) (ss ++ us)
whole_choice wf wg leads apart = whole_left wf (part_of wg) leads apart

pub part_checks : {A : Type 0} {f h : Grammar A} {l : Look} {ss : List Front} {o : Option (Cause × ℕ)} → Part f h l ss → Part (checks o f) (checks o h) l ss
part_checks {A} {f} {h} {l} {ss} {o} w = record { supplied = supplied_checks o f h w.supplied; clearly = clear_checks w.clearly }

pub whole_checks : {A : Type 0} {f h : Grammar A} {l : Look} {ss : List Front} {o : Option (Cause × ℕ)} → Whole f h l ss → Whole (checks o f) (checks o h) l ss
whole_checks {A} {f} {h} {l} {ss} {o} w = record { supplied = supplied_checks o f h w.supplied; clearly = clear_checks w.clearly; text = w.text }

here_text : {A : Type 0} (h : ℕ → Grammar A) → ((n : ℕ) → HasText (h n)) → HasText (here h)
here_text h text p = text p p

pub part_here : {A : Type 0} {f h : ℕ → Grammar A} {l : Look} {ss : List Front} → ((n : ℕ) → Part (f n) (h n) l ss) → Part (here f) (here h) l ss
part_here {A} {f} {h} w = record { supplied = supplied_here f h (λ n. (w n).supplied); clearly = clear_here (λ n. (w n).clearly) }

pub whole_here : {A : Type 0} {f h : ℕ → Grammar A} {l : Look} {ss : List Front} → ((n : ℕ) → Whole (f n) (h n) l ss) → Whole (here f) (here h) l ss
whole_here {A} {f} {h} w = whole_of (part_here (λ n. part_of (w n))) (here_text h (λ n. (w n).text))

pub whole_wider : {A : Type 0} {f h : Grammar A} {l m : Look} {ss us : List Front} → Whole f h l ss → is_wider l m ≡ true → are_among ss us ≡ true → Whole f h m us
whole_wider w e among = record { supplied = w.supplied; clearly = clear_wider w.clearly e among; text = w.text }

pub part_wider : {A : Type 0} {f h : Grammar A} {l m : Look} {ss us : List Front} → Part f h l ss → is_wider l m ≡ true → are_among ss us ≡ true → Part f h m us
part_wider w e among = record { supplied = w.supplied; clearly = clear_wider w.clearly e among }
