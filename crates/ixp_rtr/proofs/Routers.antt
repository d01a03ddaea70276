-- What a router has after an answer.
use Rattle.std.proofs.Common.{◌≡◌, Bool, true, false, cond, not, ◌&&◌, ◌||◌, List, [], ◌∷◌, ◌++◌, None, map, refl, sym, ap, ◌∙◌}
use Rattle.std.specs.declared.cmp.Ordering.TheVariants.{Equal}
use Rattle.std.specs.List.{AllByRecursion}
use Rattle.ixp_num.specs.declared.roa.Roa.{Roa}
use Rattle.ixp_num_tables.specs.Tables.{order, Ascends}
use Rattle.ixp_num_tables.proofs.Orders.{order_same}
use Rattle.ixp_num_sorted.specs.Keys.{roa_key}
use Rattle.ixp_num_sorted.specs.Told.{roa_one}
use Rattle.ixp_rtr.specs.declared.pdu.Pdu.{Pdu}
use Rattle.ixp_rtr.specs.Changes.{same_roa, is_among, others, withdrawal, announcement}
use Rattle.ixp_rtr.specs.Clients.{without, client}
use Rattle.ixp_rtr.proofs.Keys.{tied}
use Rattle.ixp_rtr.proofs.Merging.{IsBelow, same_is, none}

-- the same ROA is one
pub one : (r s : Roa) → same_roa r s ≡ true → r ≡ s
one r s e = roa_one r s (tied (order (roa_key r) (roa_key s)) (sym (same_is r s (order (roa_key r) (roa_key s)) refl) ∙ e))

pub itself : (r : Roa) → same_roa r r ≡ true
itself r = same_is r r Equal (order_same (roa_key r))

different : (b : Bool) → b ≡ true → b ≡ false → ⊥
different b p q = let bad : true ≡ false = sym p ∙ q in let nothing : ⊥ = cc in nothing

to_false : (b : Bool) → (b ≡ true → ⊥) → b ≡ false
to_false true never = absurd (never refl)
to_false false never = refl

-- what stands behind a ROA isn't it
pub behind : (f r : Roa) (fs : List Roa) → AllByRecursion (IsBelow f) fs → is_among fs r ≡ true → same_roa f r ≡ false
behind f r fs up there =
    to_false (same_roa f r) (λ e. different (is_among fs r) there (ap (is_among fs) (sym (one f r e)) ∙ none fs f up))

-- ---- a set without a ROA

kept : (x f r : Roa) → same_roa x f ≡ false → (same_roa x r || not (same_roa f r)) ≡ not (same_roa f r)
kept x f r other = by (same_roa x r) (same_roa f r) refl refl where
  by : (a b : Bool) → same_roa x r ≡ a → same_roa f r ≡ b → (a || not b) ≡ not b
  by false b p q = refl
  by true false p q = refl
  by true true p q = absurd (different (same_roa x f) (ap (same_roa x) (one f r q) ∙ p) other)

spread : (a b c : Bool) → (a || not c) ≡ not c → (a || (b && not c)) ≡ ((a || b) && not c)
spread true b true e = e
spread true b false e = refl
spread false b c e = refl

dropped : (a b : Bool) → (b && not a) ≡ ((a || b) && not a)
dropped true true = refl
dropped true false = refl
dropped false b = refl

pub without_is : (set : List Roa) (f r : Roa) → is_among (without set f) r ≡ (is_among set r && not (same_roa f r))
without_is [] f r = refl
without_is (x ∷ set) f r = by (without_is set f r) (same_roa x f) refl where
  by : is_among (without set f) r ≡ (is_among set r && not (same_roa f r)) → (b : Bool) → same_roa x f ≡ b → is_among (cond (not b) (x ∷ without set f) (without set f)) r ≡ ((same_roa x r || is_among set r) && not (same_roa f r))
  by rest true e =
      rest ∙ (dropped (same_roa f r) (is_among set r) ∙ ap (λ y. (same_roa y r || is_among set r) && not (same_roa f r)) (sym (one x f e)))
  by rest false e = ap (λ b. same_roa x r || b) rest ∙ spread (same_roa x r) (is_among set r) (same_roa f r) (kept x f r e)

-- ---- PDUs after which a router has a set of exactly the ROAs that pass a test

pub record Leads (set : List Roa) (pdus : List Pdu) (test : Roa → Bool) : Type 0 where
  pub now : List Roa
  pub is : (more : List Pdu) → client set (pdus ++ more) ≡ client now more
  pub has : (r : Roa) → is_among now r ≡ test r

-- ---- withdrawals

-- what is there after the withdrawals
abbrev pub left_of : List Roa → List Roa → List Roa → Roa → Bool
left_of set from to r = is_among set r && not (is_among from r && not (is_among to r))

stays : (s a b t : Bool) → (a ≡ true → t ≡ true) → (s && not (b && not t)) ≡ (s && not ((a || b) && not t))
stays s true b true e = ap (λ x. s && not x) (by b) where
  by : (b : Bool) → (b && false) ≡ false
  by true = refl
  by false = refl
stays s true b false e = absurd (different false (e refl) refl)
stays s false b t e = refl

goes : (s a b t : Bool) → (a ≡ true → t ≡ false) → ((s && not a) && not (b && not t)) ≡ (s && not ((a || b) && not t))
goes true true b true e = absurd (different true refl (e refl))
goes true true b false e = refl
goes true false b t e = refl
goes false a b t e = refl

subset_step : (s a : Bool) → s ≡ true → a ≡ false → (s && not a) ≡ true
subset_step s a p q = ap (λ x. x && not a) p ∙ ap not q

or_right : (a b : Bool) → b ≡ true → (a || b) ≡ true
or_right true b e = refl
or_right false b e = e

pub withdrawn : (from to set : List Roa) → Ascends roa_key from → ((r : Roa) → is_among from r ≡ true → is_among set r ≡ true)
    → Leads set (map withdrawal (others from to)) (left_of set from to)
withdrawn [] to set up there = record { now = set; is = λ more. refl; has = λ r. all (is_among set r) } where
  all : (s : Bool) → s ≡ (s && true)
  all true = refl
  all false = refl
withdrawn (f ∷ fs) to set up there = by (λ s h. withdrawn fs to s up.1 h) (is_among to f) refl where
  by : ((s : List Roa) → ((r : Roa) → is_among fs r ≡ true → is_among s r ≡ true) → Leads s (map withdrawal (others fs to)) (left_of s fs to)) → (b : Bool) → is_among to f ≡ b → Leads set (map withdrawal (cond (not b) (f ∷ others fs to) (others fs to))) (left_of set (f ∷ fs) to)
  by later true e =
      let rest = later set (λ r h. there r (or_right (same_roa f r) (is_among fs r) h)) in
      record {
        now = rest.now;
        is = rest.is;
        has = λ r. rest.has r ∙ stays (is_among set r) (same_roa f r) (is_among fs r) (is_among to r) (λ h. ap (is_among to) (sym (one f r h)) ∙ e);
      }
  by later false e =
      let rest = later (without set f)
      (λ r h. without_is set f r ∙ subset_step (is_among set r) (same_roa f r) (there r (or_right (same_roa f r) (is_among fs r) h)) (behind f r fs up.0 h)) in
      let first : is_among set f ≡ true = there f (ap (λ b. b || is_among fs f) (itself f)) in
      record {
        now = rest.now;
        is = λ more. ap (λ b. cond b (client (without set f) (map withdrawal (others fs to) ++ more)) None) first ∙ rest.is more;
        has = λ r. rest.has r
            ∙ (ap (λ b. b && not (is_among fs r && not (is_among to r))) (without_is set f r)
            ∙ goes (is_among set r) (same_roa f r) (is_among fs r) (is_among to r) (λ h. ap (is_among to) (sym (one f r h)) ∙ e));
      }

-- ---- announcements

-- what is there after the announcements
abbrev pub joined_of : List Roa → List Roa → List Roa → Roa → Bool
joined_of set to from r = is_among set r || (is_among to r && not (is_among from r))

nothing_new : (s a b t : Bool) → (a ≡ true → t ≡ true) → (s || (b && not t)) ≡ (s || ((a || b) && not t))
nothing_new true a b t e = refl
nothing_new false true true true e = refl
nothing_new false true false true e = refl
nothing_new false true b false e = absurd (different false (e refl) refl)
nothing_new false false b t e = refl

comes : (s a b t : Bool) → (a ≡ true → t ≡ false) → ((a || s) || (b && not t)) ≡ (s || ((a || b) && not t))
comes true true b t e = refl
comes true false b t e = refl
comes false true b true e = absurd (different true refl (e refl))
comes false true b false e = refl
comes false false b t e = refl

neither : (a s : Bool) → a ≡ false → s ≡ false → (a || s) ≡ false
neither a s p q = ap (λ x. x || s) p ∙ q

pub announced : (to from set : List Roa) → Ascends roa_key to → ((r : Roa) → is_among to r ≡ true → is_among from r ≡ false → is_among set r ≡ false)
    → Leads set (map announcement (others to from)) (joined_of set to from)
announced [] from set up fresh = record { now = set; is = λ more. refl; has = λ r. all (is_among set r) } where
  all : (s : Bool) → s ≡ (s || false)
  all true = refl
  all false = refl
announced (t ∷ ts) from set up fresh = by (λ s h. announced ts from s up.1 h) (is_among from t) refl where
  by : ((s : List Roa) → ((r : Roa) → is_among ts r ≡ true → is_among from r ≡ false → is_among s r ≡ false) → Leads s (map announcement (others ts from)) (joined_of s ts from)) → (b : Bool) → is_among from t ≡ b → Leads set (map announcement (cond (not b) (t ∷ others ts from) (others ts from))) (joined_of set (t ∷ ts) from)
  by later true e =
      let rest = later set (λ r h n. fresh r (or_right (same_roa t r) (is_among ts r) h) n) in
      record {
        now = rest.now;
        is = rest.is;
        has = λ r. rest.has r ∙ nothing_new (is_among set r) (same_roa t r) (is_among ts r) (is_among from r) (λ h. ap (is_among from) (sym (one t r h)) ∙ e);
      }
  by later false e =
      let rest = later (t ∷ set)
      (λ r h n. neither (same_roa t r) (is_among set r) (behind t r ts up.0 h) (fresh r (or_right (same_roa t r) (is_among ts r) h) n)) in
      let first : is_among set t ≡ false = fresh t (ap (λ b. b || is_among ts t) (itself t)) e in
      record {
        now = rest.now;
        is = λ more. ap (λ b. cond b None (client (t ∷ set) (map announcement (others ts from) ++ more))) first ∙ rest.is more;
        has = λ r. rest.has r ∙ comes (is_among set r) (same_roa t r) (is_among ts r) (is_among from r) (λ h. ap (is_among from) (sym (one t r h)) ∙ e);
      }
