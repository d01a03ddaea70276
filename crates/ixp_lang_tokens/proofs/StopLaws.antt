-- Where syntax stops a reading, no fine text goes on; and up to there one does.
use Rattle.std.proofs.Common.{◌≡◌, ℕ, true, ◌⊎◌, inl, inr, Bool, false, List, [], ◌∷◌, ◌++◌, length, Err, refl, sym, ap, ◌∙◌, subst}
use Rattle.ixp_lang_tokens.specs.declared.token.Kind.{Kind}
use Rattle.ixp_lang_tokens.specs.declared.fault.Cause.{Cause}
use Rattle.ixp_lang_tokens.specs.declared.fault.Cause.TheVariants.{Deep}
use Rattle.ixp_lang_tokens.specs.Grammars.{Grammar}
use Rattle.ixp_lang_tokens.specs.Reading.{read}
use Rattle.ixp_lang_tokens.specs.Syntax.{spot, Fine, Scan, stopped, refused, scan, IsFineText, StopsAt, RefusedAt}
use Rattle.ixp_lang_tokens.proofs.Clear.{Sight, ClearBy, Clear}
use Rattle.ixp_lang_tokens.proofs.Seen.{first_alone, clear_first}
use Rattle.ixp_lang_tokens.proofs.Fines.{one_front, goes_no_end_by}
use Rattle.ixp_lang_tokens.proofs.Stops.{reads_fine}
use Rattle.ixp_lang_tokens.proofs.Alike.{IsAlike, alike, NoMore, no_more_by, not_both}
use Rattle.ixp_lang_tokens.proofs.Quiet.{quiet_of, steady}
use Rattle.ixp_lang_tokens.proofs.Lawful.{refused_at}
use Rattle.ixp_lang_tokens.proofs.Scans.{Agrees, agrees}
use Rattle.ixp_lang_tokens.proofs.Viable.{HasText, Supplied, Goes, goes, Viable, viable}

-- a text that is stopped is no fine text
pub not_text : {T : (List Kind → Bool) → Type 0} (fails : (t : List Kind → Bool) → T t → t [] ≡ false) {A : Type 0} (f : Grammar A) → ClearBy T f → (p : ℕ) (ts : List Kind) (c : Cause) (rest : List Kind) → scan f (spot p ts) ≡ stopped c rest → ¬ (IsFineText f p ts)
not_text {T} fails f clear p ts c rest e (v, q, fine) = not_both (scan f (spot p ts)) c rest v (spot q []) e (reads_fine T f clear v (spot p ts) (spot q []) fine (goes_no_end_by fails f clear v))

pub no_more_behind : {T : (List Kind → Bool) → Type 0} (fails : (t : List Kind → Bool) → T t → t [] ≡ false) (sight : Sight) {A : Type 0} (f : Grammar A) → ClearBy T f → IsAlike sight f → (p : ℕ) (ts : List Kind) (c : Cause) (rest front : List Kind) → scan f (spot p ts) ≡ stopped c rest → ts ≡ front ++ rest
    → (token : Kind) (others more : List Kind) → rest ≡ token ∷ others → (sight.fork token ≡ true → sight.turn others ≡ sight.turn more) → ¬ (IsFineText f p (front ++ token ∷ more))
no_more_behind fails sight {A} f clear again p ts c rest front e parts token others more there next = by_more (no_more_by fails sight f clear again p ts c token others (e ∙ ap (stopped c) there))
  where
    by_more : NoMore sight f p ts token others → ¬ (IsFineText f p (front ++ token ∷ more))
    by_more m (v, q, fine) =
        let same : front ≡ m.taken = one_front front m.taken (token ∷ others) (ap (λ r. front ++ r) (sym there) ∙ sym parts ∙ m.parts) in
        m.no_more more next v q (subst (λ x. Fine f v (spot p (x ++ token ∷ more)) (spot q [])) same fine)

stop_of : {A : Type 0} (f h : Grammar A) → Clear f → (p : ℕ) (ts : List Kind) (c : Cause) (rest : List Kind) → scan f (spot p ts) ≡ stopped c rest → Viable h p ts rest → StopsAt (IsFineText h p) (IsFineText f p) ts (length rest)
stop_of f h clear p ts c rest e m = record {
  front = m.taken;
  rest = rest;
  parts = m.parts;
  left_is = refl;
  begins = (m.more, (m.value, m.last, m.fine));
  no_more = λ token others more there. no_more_behind (λ t first. first.0) first_alone f clear (alike first_alone f (clear_first f clear)) p ts c rest m.taken e m.parts token others more there (λ e. absurd cc);
  not_in = not_text (λ t first. first.0) f clear p ts c rest e;
}

-- Syntax stops a reading at the first place with which no fine text goes on; up to there one does, with more levels perhaps.
pub stops : {A : Type 0} {f h : Grammar A} → Supplied A f h → Clear f → Clear h → HasText h → (p : ℕ) (ts : List Kind) (c : Cause) (rest : List Kind) → scan f (spot p ts) ≡ stopped c rest
    → StopsAt (IsFineText h p) (IsFineText f p) ts (length rest)
stops {A} {f} {h} supplied cf ch text p ts c rest e = stop_of f h cf p ts c rest e (viable supplied text p ts c rest e)

other_stop : {A : Type 0} (s t : Scan A) (c : Cause) (rest : List Kind) → Goes s t → s ≡ stopped c rest → (c ≡ Deep) ⊎ (t ≡ stopped c rest)
other_stop s t c rest (inl same) e = inr (sym same ∙ e)
other_stop s t c rest (inr (inl (r, h))) e = absurd cc
other_stop s t c rest (inr (inr (r, h))) e = inl cc

-- Where it isn't for want of levels, no text goes on with more levels either.
pub stops_for_all : {A : Type 0} {f h : Grammar A} → Supplied A f h → Clear h → HasText h → (p : ℕ) (ts : List Kind) (c : Cause) (rest : List Kind) → scan f (spot p ts) ≡ stopped c rest → ¬ (c ≡ Deep)
    → StopsAt (IsFineText h p) (IsFineText h p) ts (length rest)
stops_for_all {A} {f} {h} supplied ch text p ts c rest e levels = by_other (other_stop (scan f (spot p ts)) (scan h (spot p ts)) c rest (goes supplied (spot p ts)) e)
  where
    by_other : (c ≡ Deep) ⊎ (scan h (spot p ts) ≡ stopped c rest) → StopsAt (IsFineText h p) (IsFineText h p) ts (length rest)
    by_other (inl deep) = absurd (levels deep)
    by_other (inr other) = stop_of h h ch p ts c rest other (viable supplied text p ts c rest e)

-- Of a reading: a check refused it, or it stops so.
pub read_stops : {A : Type 0} {f h : Grammar A} → Supplied A f h → Clear f → Clear h → HasText h → (ts : List Kind) (c : Cause) (left : ℕ) → read f ts ≡ Err (c, left)
    → RefusedAt f ts ⊎ (StopsAt (IsFineText h (length ts)) (IsFineText f (length ts)) ts left × (¬ (c ≡ Deep) → StopsAt (IsFineText h (length ts)) (IsFineText h (length ts)) ts left))
read_stops {A} {f} {h} supplied cf ch text ts c left e = by_end (subst (λ r. Agrees r (scan f (spot (length ts) ts))) e (agrees f ts))
  where
    by_end : ((rest : List Kind) × (scan f (spot (length ts) ts) ≡ stopped c rest) × (left ≡ length rest)) ⊎ ((rest : List Kind) × (scan f (spot (length ts) ts) ≡ refused rest))
        → RefusedAt f ts ⊎ (StopsAt (IsFineText h (length ts)) (IsFineText f (length ts)) ts left × (¬ (c ≡ Deep) → StopsAt (IsFineText h (length ts)) (IsFineText h (length ts)) ts left))
    by_end (inr (rest, refuses)) = inl (refused_at (λ t first. first.0) f cf (quiet_of f (steady f cf)) ts rest refuses)
    by_end (inl (rest, at, is)) =
        inr (
          subst (λ n. StopsAt (IsFineText h (length ts)) (IsFineText f (length ts)) ts n) (sym is) (stops supplied cf ch text (length ts) ts c rest at),
          λ levels. subst (λ n. StopsAt (IsFineText h (length ts)) (IsFineText h (length ts)) ts n) (sym is) (stops_for_all supplied ch text (length ts) ts c rest at levels),
        )
