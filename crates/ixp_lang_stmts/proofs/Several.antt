-- What is known of texts that stand one behind the other, and of what may be left out.
use Rattle.std.proofs.Common.{◌≡◌, inl, inr, Bool, true, false, List, [], ◌∷◌, ◌++◌, refl}
use Rattle.ixp_lang_tokens.specs.declared.fault.Cause.TheVariants.{Unexpected}
use Rattle.ixp_lang_tokens.specs.declared.token.Kind.{Kind}
use Rattle.ixp_lang_tokens.specs.declared.token.Mark.{Mark}
use Rattle.ixp_lang_tokens.specs.Grammars.{Grammar, gives, sequence, choice, rounds, unless, Step, onward, done}
use Rattle.ixp_lang_tokens.proofs.Clear.{MayEmpty, MayBegin, MayOpen, GoesOn, Spoils}
use Rattle.ixp_lang_tokens.proofs.Fronts.{Front, marked, Starts, are_apart, starts_left, starts_right}
use Rattle.ixp_lang_tokens.proofs.Looks.{Look, full_look, or_behind}
use Rattle.ixp_lang_tokens.proofs.ClearLooks.{ClearlyBy, clear_gives, clear_sequence, clear_choice, clear_unless, clear_rounds}
use Rattle.ixp_lang_exprs.specs.Lists.{ended}
use Rattle.ixp_lang_exprs.proofs.ClearLists.{clear_ended}
use Rattle.ixp_lang_exprs.proofs.Known.{none_apart}

module _ {T : (List Kind → Bool) → Type 0} {A : Type 0} {f : Grammar A} {l : Look} {ss : List Front} (next : List Kind → Bool) (fs bs : List Front) (k : ClearlyBy T f l ss)
    (others : (ts : List Kind) → next ts ≡ false → Starts l.starts ts → Starts fs ts) (barred : (ts : List Kind) → next ts ≡ true → Starts bs ts) where
  -- less begins than without the test
  pub clear_without : T next → ClearlyBy T (unless next f) (record { leads = l.leads; full = l.full; starts = fs; ends = l.ends }) (or_behind l.full ss bs)
  clear_without test =
      let base = clear_unless next Unexpected bs barred k test in
      record {
        clear = base.clear;
        leads = base.leads;
        full = base.full;
        starts = λ ts p. others ts p.0 (k.starts ts p.1);
        opens = λ ts p. others ts p.0 (k.opens ts p.1);
        ends = base.ends;
        spoils = base.spoils;
      }

-- What may be left out where it doesn't begin.

not_both : (b : Bool) → b ≡ false → ¬ (b ≡ true)
not_both b e h = cc

module _ {T : (List Kind → Bool) → Type 0} {A : Type 0} {f : Grammar A} {l : Look} {ss : List Front} (next : List Kind → Bool) (v : A) (bs : List Front) (k : ClearlyBy T f l ss)
    (stands : (ts : List Kind) → MayOpen f ts → next ts ≡ true) (barred : (ts : List Kind) → next ts ≡ true → Starts bs ts) where
  abbrev or_nothing : Grammar A
  or_nothing = choice f (unless next (gives v))

  nothing_starts : (ts : List Kind) → MayBegin or_nothing ts → Starts l.starts ts
  nothing_starts ts (inl p) = k.starts ts p
  nothing_starts ts (inr (free, p)) = absurd p

  nothing_opens : (ts : List Kind) → MayOpen or_nothing ts → Starts l.starts ts
  nothing_opens ts (inl p) = k.opens ts p
  nothing_opens ts (inr (free, p)) = absurd p

  nothing_ends : (w : A) (rest : List Kind) → GoesOn or_nothing w rest → Starts l.ends rest
  nothing_ends w rest (inl p) = k.ends w rest p
  nothing_ends w rest (inr (inl p)) = absurd p
  nothing_ends w rest (inr (inr ((free, same), p))) = absurd (not_both (next rest) free (stands rest p))

  nothing_spoils : (w : A) (rest : List Kind) → Spoils or_nothing w rest → Starts (ss ++ bs) rest
  nothing_spoils w rest (inl p) = starts_left ss bs rest (k.spoils w rest p)
  nothing_spoils w rest (inr (inl p)) = absurd p
  nothing_spoils w rest (inr (inr (empty, e))) = starts_right ss bs rest (barred rest e)

  pub clear_or_nothing : l.leads ≡ true → T next → ClearlyBy T or_nothing (record { leads = false; full = false; starts = l.starts; ends = l.ends }) (ss ++ bs)
  clear_or_nothing leads test = record {
    clear = (k.leads leads, k.clear, (test, tt), λ ts e p. p.1);
    leads = λ e. absurd cc;
    full = λ e. absurd cc;
    starts = nothing_starts;
    opens = nothing_opens;
    ends = nothing_ends;
    spoils = nothing_spoils;
  }

-- As many as there are.
module _ {T : (List Kind → Bool) → Type 0} {S A : Type 0} (item : S → Grammar (Step S A)) (final : S → A) (fs es ss : List Front) (k : (s : S) → ClearlyBy T (item s) (full_look fs es) ss) where
  abbrev one_more : S → Grammar (Step S A)
  one_more s = choice (item s) (gives (done (final s)))

  abbrev more_look : Look
  more_look = record { leads = false; full = false; starts = fs ++ []; ends = es ++ fs }

  clear_one_more : (s : S) → ClearlyBy T (one_more s) more_look (ss ++ [])
  clear_one_more s = clear_choice (k s) (clear_gives (done (final s))) refl (none_apart fs)

  more_full : (t u : S) (ts : List Kind) → ¬ (MayEmpty (one_more t) (onward u) ts)
  more_full t u ts (inl empty) = (k t).full refl (onward u) ts empty
  more_full t u ts (inr same) = cc

  more_onward : (t u : S) (rest : List Kind) → GoesOn (one_more t) (onward u) rest → Starts es rest
  more_onward t u rest (inl p) = (k t).ends (onward u) rest p
  more_onward t u rest (inr (inl p)) = absurd p
  more_onward t u rest (inr (inr (same, e))) = absurd cc

  pub clear_several : are_apart (fs ++ []) es ≡ true → (s : S) → ClearlyBy T (rounds one_more s) (record { leads = false; full = false; starts = fs ++ []; ends = es ++ (es ++ fs) }) (ss ++ [])
  clear_several apart s =
      clear_rounds one_more more_look es (es ++ fs) (ss ++ []) clear_one_more s more_full more_onward (λ t v rest p. (clear_one_more t).ends (done v) rest p) apart

-- One or more with a mark between.

pub end_goes : {A : Type 0} (m : Mark) (v w : A) (rest : List Kind) → ¬ (GoesOn (ended m v) w rest)
end_goes m v w rest (x, inl p) = p
end_goes m v w rest (x, inr (empty, p)) = p

module _ {T : (List Kind → Bool) → Type 0} {S A B : Type 0} (item : S → Grammar B) (joint : Mark) (next : S → B → S) (last : S → B → A) (fs es : List Front) (k : (s : S) → ClearlyBy T (item s) (full_look fs es) []) where
  abbrev joint_or_end : S → B → Grammar (Step S A)
  joint_or_end s x = choice (ended joint (onward (next s x))) (gives (done (last s x)))

  abbrev joined_part : S → Grammar (Step S A)
  joined_part s = sequence (item s) (λ x. joint_or_end s x)

  joined_full : (t u : S) (ts : List Kind) → ¬ (MayEmpty (joined_part t) (onward u) ts)
  joined_full t u ts (x, empty, more) = (k t).full refl x ts empty

  joined_onward : (t u : S) (rest : List Kind) → GoesOn (joined_part t) (onward u) rest → Starts [] rest
  joined_onward t u rest (x, inl (inl p)) = absurd (end_goes joint (onward (next t x)) (onward u) rest p)
  joined_onward t u rest (x, inl (inr (inl p))) = absurd p
  joined_onward t u rest (x, inl (inr (inr (same, e)))) = absurd cc
  joined_onward t u rest (x, inr (inl (y, empty, same), p)) = absurd empty
  joined_onward t u rest (x, inr (inr same, p)) = absurd cc

  clear_joined_part : are_apart (marked joint ∷ []) es ≡ true → (s : S) → ClearlyBy T (joined_part s) (full_look fs (marked joint ∷ es)) []
  clear_joined_part apart s = clear_sequence (k s) (λ x. clear_choice (clear_ended joint (onward (next s x))) (clear_gives (done (last s x))) refl refl) apart

  pub clear_joined : are_apart (marked joint ∷ []) es ≡ true → (s : S) → ClearlyBy T (rounds joined_part s) (full_look fs (marked joint ∷ es)) []
  clear_joined apart s =
      clear_rounds joined_part (full_look fs (marked joint ∷ es)) [] (marked joint ∷ es) [] (clear_joined_part apart) s joined_full joined_onward
      (λ t v rest p. (clear_joined_part apart t).ends (done v) rest p) (none_apart fs)
