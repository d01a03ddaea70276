-- Grammars that others are made of, and what they are with more levels.
use Rattle.std.proofs.Common.{◌≡◌, ℕ, zero, ◌⊎◌, inl, inr, Bool, true, false, ◌||◌, List, [], ◌∷◌, ◌++◌, Some, None, refl, ap, if◌then◌else◌}
use Rattle.std.specs.Option.{is_some}
use Rattle.std.proofs.lemmas.Bool.{eq-eqb}
use Rattle.ixp_num.specs.declared.family.Family.TheVariants.{V4}
use Rattle.ixp_num.specs.declared.addr.Addr.{Addr}
use Rattle.ixp_num.specs.declared.prefix.Prefix.{Prefix}
use Rattle.std.proofs.Common.{lit<, lit≤}
use Rattle.ixp_lang_tokens.specs.declared.fault.Cause.{Cause}
use Rattle.ixp_lang_tokens.specs.declared.fault.Cause.TheVariants.{Unexpected, Deep}
use Rattle.ixp_lang_tokens.specs.declared.token.Kind.{Kind}
use Rattle.ixp_lang_tokens.specs.declared.token.Kind.TheVariants as kind
use Rattle.ixp_lang_tokens.specs.declared.token.Mark.{Mark}
use Rattle.ixp_lang_tokens.specs.declared.token.Mark.TheVariants.{Comma}
use Rattle.ixp_lang_tokens.specs.Grammars.{Grammar, gives, takes, sequence, choice, rounds, bars, here, Step, onward, done}
use Rattle.ixp_lang_tokens.specs.Pieces.{rank, the_mark, is_mark, the_word, is_next, if_so, a_name, a_number, an_addr}
use Rattle.ixp_lang_tokens.specs.Syntax.{Spot, spot, Fine, Scan, stopped, and_then, begins_at, scanned, scan}
use Rattle.ixp_lang_tokens.proofs.Fronts.{Front, marked, keyword, is_same, name, number, addr, are_apart}
use Rattle.ixp_lang_tokens.proofs.Looks.{Look, full_look, token_look}
use Rattle.ixp_lang_tokens.proofs.Known.{known_word}
use Rattle.ixp_lang_tokens.proofs.ClearLooks.{clear_token, clear_mark, clear_name, clear_number, clear_addr}
use Rattle.ixp_lang_tokens.proofs.Viable.{HasText, Supplied, supplied_takes, supplied_rounds, supplied_end, IsEnd}
use Rattle.ixp_lang_tokens.proofs.Whole.{Part, Whole, part_of, whole_gives, whole_takes, whole_then, whole_sequence, whole_right, text_free, can_end, can_follow}
use Rattle.ixp_lang_exprs.specs.Lists.{never, only, ended, listed, deepened}
use Rattle.ixp_lang_exprs.proofs.ClearLists.{clear_never, clear_listed}

-- Single tokens.

mark_itself : (m : Mark) → if_so (is_mark m (kind.Mark m)) ≡ Some tt
mark_itself m = ap if_so (eq-eqb (rank m) (rank m) refl)

pub whole_mark : (m : Mark) → Whole (the_mark m) (the_mark m) (token_look (marked m ∷ [])) []
whole_mark m = whole_takes (kind.Mark m) tt (mark_itself m) (clear_mark m)

pub whole_name : Whole a_name a_name (token_look (name ∷ [])) []
whole_name = whole_takes (kind.Name []) [] refl clear_name

pub whole_number : Whole a_number a_number (token_look (number ∷ [])) []
whole_number = whole_takes (kind.Number 0) 0 refl clear_number

pub whole_word : (w : List ℕ) → Whole (the_word w) (the_word w) (token_look (keyword w ∷ [])) []
whole_word w = whole_takes (kind.Word w) tt (ap if_so (is_same w w refl)) (clear_token _ (keyword w ∷ []) (known_word w))

pub an_addr_there : Addr
an_addr_there = record { family = V4; value = 0; fits = lit< tt }

pub a_prefix_there : Prefix
a_prefix_there = record { family = V4; value = 0; len = 0; short = lit≤ tt; fits = lit< tt; no_host_bits = refl }

pub whole_addr : Whole an_addr an_addr (token_look (addr ∷ [])) []
whole_addr = whole_takes (kind.Addr an_addr_there) an_addr_there refl clear_addr

pub part_never : {A : Type 0} (l : Look) (ss : List Front) → Part (never {A = A}) never l ss
part_never l ss = record { supplied = supplied_takes (λ token. None); clearly = clear_never l ss }

pub part_only : {A : Type 0} {f h : Grammar A} {l : Look} {ss : List Front} (b : Bool) → Part f h l ss → Part (only b f) (only b h) l ss
part_only true w = w
part_only {A} {f} {h} {l} {ss} false w = part_never l ss

pub whole_ended : {A : Type 0} (m : Mark) (v : A) → Whole (ended m v) (ended m v) (token_look (marked m ∷ [])) []
whole_ended m v = whole_then (whole_mark m) (λ x. whole_gives v)

-- A mark that opens a level: where none is left, and where one is.

or_false : (b : Bool) → (b || false) ≡ is_some (if_so b)
or_false true = refl
or_false false = refl

module _ {A : Type 0} (test : Kind → Bool) (g : Unit {0} → Grammar A) where
  abbrev tested : Grammar A
  tested = sequence (takes (λ token. if_so (test token))) g

  abbrev too_deep : Grammar A
  too_deep = bars (is_next test) Deep never

  opens_both : (x : Spot) → begins_at too_deep x ≡ begins_at tested x
  opens_both (p, []) = refl
  opens_both (p, k ∷ ts) = or_false (test k)

  abbrev barred_scan : Bool → List Kind → Scan A
  barred_scan b ts = if b then stopped Deep ts else stopped Unexpected ts

  end_by : (b : Bool) (p : ℕ) (k : Kind) (ts : List Kind) (go : Unit {0} → Spot → Scan A)
      → (barred_scan b (k ∷ ts) ≡ stopped Deep (k ∷ ts)) ⊎ ((c : Cause) × (barred_scan b (k ∷ ts) ≡ stopped c (k ∷ ts)) × (and_then (scanned (if_so b) p k ts) go ≡ stopped c (k ∷ ts)))
  end_by true p k ts go = inl refl
  end_by false p k ts go = inr (Unexpected, refl, refl)

  ends_both : (x : Spot) → IsEnd too_deep tested x
  ends_both (p, []) = inr (inr (Unexpected, refl, refl))
  ends_both (p, k ∷ ts) = by_mark (end_by (test k) p k ts (λ x y. scan (g x) y))
    where
      by_mark : (barred_scan (test k) (k ∷ ts) ≡ stopped Deep (k ∷ ts)) ⊎ ((c : Cause) × (barred_scan (test k) (k ∷ ts) ≡ stopped c (k ∷ ts)) × (and_then (scanned (if_so (test k)) p k ts) (λ x y. scan (g x) y) ≡ stopped c (k ∷ ts)))
          → IsEnd too_deep tested (spot p (k ∷ ts))
      by_mark (inl deep) = inl deep
      by_mark (inr same) = inr (inr same)

ends_here : {A : Type 0} (test : Kind → Bool) (g : ℕ → Unit {0} → Grammar A) (x : Spot) → IsEnd (bars (is_next test) Deep never) (here (λ n. sequence (takes (λ token. if_so (test token))) (g n))) x
ends_here {A} test g x = by_end (ends_both test (g x.0) x)
  where
    by_end : IsEnd (bars (is_next test) Deep never) (sequence (takes (λ token. if_so (test token))) (g x.0)) x → IsEnd (bars (is_next test) Deep never) (here (λ n. sequence (takes (λ token. if_so (test token))) (g n))) x
    by_end e = e

-- no level is left in the first
pub supplied_deep : {A : Type 0} (test : Kind → Bool) (g : ℕ → Unit {0} → Grammar A) → Supplied A (bars (is_next test) Deep never) (here (λ n. sequence (takes (λ token. if_so (test token))) (g n)))
supplied_deep test g =
    supplied_end (bars (is_next test) Deep never) (here (λ n. sequence (takes (λ token. if_so (test token))) (g n))) (λ x. opens_both test (g x.0) x) (λ x. ends_here test g x)

pub supplied_level : {A : Type 0} (m : Mark) (g : Unit {0} → Grammar A) → Supplied A (bars (is_next (is_mark m)) Deep never) (sequence (the_mark m) g)
supplied_level m g = supplied_end (bars (is_next (is_mark m)) Deep never) (sequence (the_mark m) g) (opens_both (is_mark m) g) (ends_both (is_mark m) g)

pub whole_level : {A : Type 0} {f h : Unit {0} → Grammar A} {l : Look} (m : Mark) → ((x : Unit {0}) → Whole (f x) (h x) l []) → Whole (bars (is_next (is_mark m)) Deep never) (sequence (the_mark m) h) (full_look (marked m ∷ []) l.ends) []
whole_level {A} {f} {h} {l} m w =
    let more = whole_then (whole_mark m) w in
    record { supplied = supplied_level m h; clearly = more.clearly; text = more.text }

pub whole_deepened : {A : Type 0} {f h : Grammar A} {l : Look} (b : Bool) (m : Mark) → Whole f h l [] → Whole (deepened b m f) (deepened true m h) (full_look (marked m ∷ []) l.ends) []
whole_deepened true m w = whole_then (whole_mark m) (λ x. w)
whole_deepened false m w = whole_level m (λ x. w)

-- Lists.

abbrev comma_or_end : {A : Type 0} → List A → Grammar (Step (List A) (List A))
comma_or_end items = choice (ended Comma (onward items)) (gives (done items))

abbrev round : {A : Type 0} → (List A → Grammar A) → List A → Grammar (Step (List A) (List A))
round item items = sequence (item items) (λ x. comma_or_end (items ++ x ∷ []))

module _ {A : Type 0} (item other : List A → Grammar A) (fs es : List Front) (w : (items : List A) → Whole (item items) (other items) (full_look fs es) []) where
  whole_round : are_apart (marked Comma ∷ []) es ≡ true → (t : List A) → Whole (round item t) (round other t) (full_look fs (marked Comma ∷ es)) []
  whole_round apart t =
      whole_sequence (w t) (λ x. whole_right (part_of (whole_ended Comma (onward (t ++ x ∷ [])))) (whole_gives (done (t ++ x ∷ []))) refl refl) apart refl

  -- the last item
  last_text : (t : List A) → HasText (rounds (round other) t)
  last_text t p = by_text ((w t).text p)
    where
      by_text : (v : A) × (ts : List Kind) × (q : ℕ) × Fine (other t) v (spot p ts) (spot q []) → (v : List A) × (ts : List Kind) × (q : ℕ) × Fine (rounds (round other) t) v (spot p ts) (spot q [])
      by_text (v, ts, q, fine) = (t ++ v ∷ [], ts, q, (zero, (v, spot q [], fine, inr (refl, refl))))

  pub whole_listed : are_apart (marked Comma ∷ []) es ≡ true → Whole (listed item) (listed other) (full_look fs (marked Comma ∷ es)) []
  whole_listed apart = record {
    supplied =
        supplied_rounds (round item) (round other) [] (λ t. Unit {0}) tt (λ t i. (whole_round apart t).supplied) (λ t u x y i fine. tt)
        (λ t u i j.
        can_end (round other t) (rounds (round other) u) (whole_round apart t).clearly.clear (onward u)
        (text_free (round other t) (rounds (round other) u) (full_look fs (marked Comma ∷ es)) (whole_round apart t).clearly (last_text u) (onward u)))
        (λ t u i j. can_follow (round other t) (rounds (round other) u) (whole_round apart t).clearly.clear (onward u));
    clearly = clear_listed other fs es [] (λ items. (w items).clearly) apart;
    text = last_text [];
  }
