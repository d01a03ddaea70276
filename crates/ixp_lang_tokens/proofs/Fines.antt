-- Fine texts: with what they begin, and that they are so whatever is behind them, if a test at their end doesn't refuse it.
use Rattle.std.proofs.Common.{◌≡◌, ℕ, zero, suc, pred, ◌+◌, ◌⊎◌, inl, inr, Bool, true, false, List, [], ◌∷◌, ◌++◌, length, take, length-append, arith, Option, Some, refl, sym, ap, ◌∙◌, subst, append_assoc}
use Rattle.std.specs.Option.{is_some}
use Rattle.ixp_lang_tokens.specs.declared.token.Kind.{Kind}
use Rattle.ixp_lang_tokens.specs.Grammars.{Step, onward, done, Grammar, gives, takes, sequence, choice, rounds, checks, bars, unless, here}
use Rattle.ixp_lang_tokens.specs.Syntax.{Spot, spot, FineRounds, Fine}
use Rattle.ixp_lang_tokens.proofs.Clear.{MayEmpty, MayBegin, MayOpen, GoesOn, Spoils, IsOfFirst, ClearBy, Clear}

-- one token is first in both
pub record SameFirst (r s : List Kind) : Type 0 where
  pub token : Kind
  pub first_rest : List Kind
  pub second_rest : List Kind
  pub first : r ≡ token ∷ first_rest
  pub second : s ≡ token ∷ second_rest

abbrev pub SameNext : List Kind → List Kind → Type 0
SameNext r s = (r ≡ s) ⊎ SameFirst r s

-- s may stand in the place of r behind a text that says v
abbrev pub MayFollow : {A : Type 0} → Grammar A → A → List Kind → List Kind → Type 0
MayFollow f v r s = SameNext r s ⊎ (¬ (Spoils f v s))

abbrev pub Front : {A : Type 0} → Grammar A → A → Spot → Spot → Type 0
Front f v x y = MayBegin f x.1 ⊎ (MayEmpty f v x.1 × (x ≡ y))

-- Never at the end.

module _ {T : (List Kind → Bool) → Type 0} (fails : (t : List Kind → Bool) → T t → t [] ≡ false) where
  opens_no_end : {A : Type 0} (f : Grammar A) → ClearBy T f → ¬ (MayOpen f [])
  opens_no_end (gives w) clear p = p
  opens_no_end (takes c) clear p = p
  opens_no_end (sequence f g) (cf, cg, apart) p = opens_no_end f cf p
  opens_no_end (choice f g) (leads, cf, cg, apart) (inl p) = opens_no_end f cf p
  opens_no_end (choice f g) (leads, cf, cg, apart) (inr p) = opens_no_end g cg p
  opens_no_end (rounds f s) (cf, never, apart) p = opens_no_end (f s) (cf s) p
  opens_no_end (checks o f) clear p = opens_no_end f clear p
  opens_no_end (bars t c f) (first, cf) (inl p) = let e = fails t first in cc
  opens_no_end (bars t c f) (first, cf) (inr p) = opens_no_end f cf p
  opens_no_end (unless t f) (first, cf) (free, p) = opens_no_end f cf p
  opens_no_end (here f) clear (n, p) = opens_no_end (f n) (clear n) p

  -- nothing goes on at the end of a text
  pub goes_no_end_by : {A : Type 0} (f : Grammar A) → ClearBy T f → (v : A) → ¬ (GoesOn f v [])
  goes_no_end_by (gives w) clear v p = p
  goes_no_end_by (takes c) clear v p = p
  goes_no_end_by (sequence f g) (cf, cg, apart) v (b, inl p) = goes_no_end_by (g b) (cg b) v p
  goes_no_end_by (sequence f g) (cf, cg, apart) v (b, inr (empty, p)) = goes_no_end_by f cf b p
  goes_no_end_by (choice f g) (leads, cf, cg, apart) v (inl p) = goes_no_end_by f cf v p
  goes_no_end_by (choice f g) (leads, cf, cg, apart) v (inr (inl p)) = goes_no_end_by g cg v p
  goes_no_end_by (choice f g) (leads, cf, cg, apart) v (inr (inr (empty, p))) = opens_no_end f cf p
  goes_no_end_by (rounds f s) (cf, never, apart) v (t, inl p) = goes_no_end_by (f t) (cf t) (done v) p
  goes_no_end_by (rounds f s) (cf, never, apart) v (t, inr (u, empty, p)) = goes_no_end_by (f t) (cf t) (onward u) p
  goes_no_end_by (checks o f) clear v p = goes_no_end_by f clear v p
  goes_no_end_by (bars t c f) (first, cf) v p = goes_no_end_by f cf v p
  goes_no_end_by (unless t f) (first, cf) v p = goes_no_end_by f cf v p
  goes_no_end_by (here f) clear v (n, p) = goes_no_end_by (f n) (clear n) v p

pub goes_no_end : {A : Type 0} (f : Grammar A) → Clear f → (v : A) → ¬ (GoesOn f v [])
goes_no_end f clear v p = goes_no_end_by (λ t first. first.0) f clear v p

-- the end spoils nothing
pub spoils_no_end : {A : Type 0} (f : Grammar A) → Clear f → (v : A) → ¬ (Spoils f v [])
spoils_no_end (gives w) clear v p = p
spoils_no_end (takes c) clear v p = p
spoils_no_end (sequence f g) (cf, cg, apart) v (b, inl p) = spoils_no_end (g b) (cg b) v p
spoils_no_end (sequence f g) (cf, cg, apart) v (b, inr (empty, p)) = spoils_no_end f cf b p
spoils_no_end (choice f g) (leads, cf, cg, apart) v (inl p) = spoils_no_end f cf v p
spoils_no_end (choice f g) (leads, cf, cg, apart) v (inr p) = spoils_no_end g cg v p
spoils_no_end (rounds f s) (cf, never, apart) v (t, inl p) = spoils_no_end (f t) (cf t) (done v) p
spoils_no_end (rounds f s) (cf, never, apart) v (t, inr (u, empty, p)) = spoils_no_end (f t) (cf t) (onward u) p
spoils_no_end (checks o f) clear v p = spoils_no_end f clear v p
spoils_no_end (bars t c f) (first, cf) v (inl p) = spoils_no_end f cf v p
spoils_no_end (bars t c f) (first, cf) v (inr (empty, p)) = let e = first.0 in cc
spoils_no_end (unless t f) (first, cf) v (inl p) = spoils_no_end f cf v p
spoils_no_end (unless t f) (first, cf) v (inr (empty, p)) = let e = first.0 in cc
spoils_no_end (here f) clear v (n, p) = spoils_no_end (f n) (clear n) v p

-- A fine text begins with a token of the grammar, or is empty.

sequence_front : {A B : Type 0} (f : Grammar B) (g : B → Grammar A) (b : B) (v : A) (x z y : Spot) → Front f b x z → Front (g b) v z y → Front (sequence f g) v x y
sequence_front f g b v x z y (inl begins) back = inl (inl begins)
sequence_front f g b v x z y (inr (empty, same)) (inl begins) = inl (inr (b, empty, subst (λ (w : Spot). MayBegin (g b) w.1) (sym same) begins))
sequence_front f g b v x z y (inr (empty, same)) (inr (last, end)) = inr ((b, empty, subst (λ (w : Spot). MayEmpty (g b) v w.1) (sym same) last), same ∙ end)

front_map : {A B : Type 0} (f : Grammar A) (g : Grammar B) (v : A) (w : B) (x y : Spot) → (MayBegin f x.1 → MayBegin g x.1) → (MayEmpty f v x.1 → MayEmpty g w x.1) → Front f v x y → Front g w x y
front_map f g v w x y h i (inl begins) = inl (h begins)
front_map f g v w x y h i (inr (empty, same)) = inr (i empty, same)

rounds_front : {S A : Type 0} (f : S → Grammar (Step S A)) → ((s : S) (v : Step S A) (x y : Spot) → Fine (f s) v x y → Front (f s) v x y)
    → ((t u : S) (ts : List Kind) → ¬ (MayEmpty (f t) (onward u) ts)) → (n : ℕ) (s : S) (v : A) (x y : Spot) → FineRounds (λ t. Fine (f t)) n s v x y → Front (rounds f s) v x y
rounds_front f h never zero s v x y fine = front_map (f s) (rounds f s) (done v) v x y (λ p. p) (λ p. p) (h s (done v) x y fine)
rounds_front {S} {A} f h never (suc n) s v x y (t, z, fine, more) = by_front (h s (onward t) x z fine)
  where
    by_front : Front (f s) (onward t) x z → Front (rounds f s) v x y
    by_front (inl begins) = inl begins
    by_front (inr (empty, same)) = absurd (never s t x.1 empty)

pub front : (T : (List Kind → Bool) → Type 0) {A : Type 0} (f : Grammar A) → ClearBy T f → (v : A) (x y : Spot) → Fine f v x y → Front f v x y
front T (gives w) clear v x y fine = inr fine
front T (takes c) clear v (p, []) y fine = absurd fine
front T (takes c) clear v (p, k ∷ ts) y (is, same) = inl (ap is_some is)
front T (sequence f g) (cf, cg, apart) v x y (b, z, p, q) = sequence_front f g b v x z y (front T f cf b x z p) (front T (g b) (cg b) v z y q)
front T (choice f g) (leads, cf, cg, apart) v x y (inl p) = front_map f (choice f g) v v x y (λ q. inl q) (λ q. inl q) (front T f cf v x y p)
front T (choice f g) (leads, cf, cg, apart) v x y (inr p) = front_map g (choice f g) v v x y (λ q. inr q) (λ q. inr q) (front T g cg v x y p)
front T (rounds f s) (cf, never, apart) v x y (n, p) = rounds_front f (λ t. front T (f t) (cf t)) never n s v x y p
front T (checks o f) clear v x y p = front T f clear v x y p
front T (bars t c f) (first, cf) v x y (free, p) = front_map f (bars t c f) v v x y (λ q. (free, q)) (λ q. q) (front T f cf v x y p)
front T (unless t f) (first, cf) v x y (free, p) = front_map f (unless t f) v v x y (λ q. (free, q)) (λ q. (free, q)) (front T f cf v x y p)
front T (here f) clear v x y p = front_map (f x.0) (here f) v v x y (λ q. (x.0, q)) (λ q. (x.0, q)) (front T (f x.0) (clear x.0) v x y p)

-- What is behind a fine text may be exchanged.

pub record Moves {A : Type 0} (f : Grammar A) (v : A) (p : ℕ) (ts : List Kind) (q : ℕ) (rest : List Kind) : Type 0 where
  pub taken : List Kind
  pub parts : ts ≡ taken ++ rest
  pub empty : (other : List Kind) → MayFollow f v rest other → taken ≡ [] → MayEmpty f v other
  pub again : (other : List Kind) → MayFollow f v rest other → Fine f v (spot p (taken ++ other)) (spot q other)

-- behind the same tokens the same token is first
pub first_behind : (front : List Kind) (r s : List Kind) → SameFirst r s → SameFirst (front ++ r) (front ++ s)
first_behind [] r s same = same
first_behind (k ∷ ks) r s same = record { token = k; first_rest = ks ++ r; second_rest = ks ++ s; first = refl; second = refl }

pub first_of : (k : Kind) (r s : List Kind) → SameFirst (k ∷ r) (k ∷ s)
first_of k r s = record { token = k; first_rest = r; second_rest = s; first = refl; second = refl }

pub same_test : (p : List Kind → Bool) → IsOfFirst p → (r s : List Kind) → SameNext r s → p r ≡ false → p s ≡ false
same_test p first r s (inl same) e = sym (ap p same) ∙ e
same_test p first r s (inr same) e = ap p same.second ∙ first.1 same.token same.second_rest same.first_rest ∙ sym (ap p same.first) ∙ e

not_true : (b : Bool) → ¬ (b ≡ true) → b ≡ false
not_true true h = absurd (h refl)
not_true false h = refl

-- a part and what is behind it, where what is behind it may be empty
between : {B : Type 0} (f : Grammar B) (b : B) (taken mid rest other : List Kind) → mid ≡ taken ++ rest → (taken ≡ [] → MayFollow f b rest other) → MayFollow f b mid (taken ++ other)
between f b [] mid rest other same may = subst (λ m. MayFollow f b m other) (sym same) (may refl)
between f b (k ∷ ks) mid rest other same may = inl (inr (subst (λ m. SameFirst m (k ∷ (ks ++ other))) (sym same) (first_of k (ks ++ rest) (ks ++ other))))

append_empty : (xs ys : List Kind) → xs ++ ys ≡ [] → (xs ≡ []) × (ys ≡ [])
append_empty [] ys e = (refl, e)
append_empty (x ∷ xs) ys e = absurd cc

follow_map : {A B : Type 0} (f : Grammar A) (g : Grammar B) (v : A) (w : B) (rest other : List Kind) → (Spoils g w other → Spoils f v other) → MayFollow f v rest other → MayFollow g w rest other
follow_map f g v w rest other h (inl same) = inl same
follow_map f g v w rest other h (inr ends) = inr (λ p. ends (h p))

sequence_moves : {A B : Type 0} (f : Grammar B) (g : B → Grammar A) (b : B) (v : A) (p : ℕ) (ts : List Kind) (m : ℕ) (mid : List Kind) (q : ℕ) (rest : List Kind)
    → Moves f b p ts m mid → Moves (g b) v m mid q rest → Moves (sequence f g) v p ts q rest
sequence_moves {A} {B} f g b v p ts m mid q rest one two = record {
  taken = one.taken ++ two.taken;
  parts = one.parts ∙ ap (λ x. one.taken ++ x) two.parts ∙ sym (append_assoc one.taken two.taken rest);
  empty = λ other may e. by_empty other may (append_empty one.taken two.taken e);
  again = λ other may. (
    b,
    spot m (two.taken ++ other),
    subst (λ x. Fine f b (spot p x) (spot m (two.taken ++ other))) (sym (append_assoc one.taken two.taken other)) (one.again (two.taken ++ other) (first_follows other may)),
    two.again other (last_follows other may),
  );
}
  where
    last_follows : (other : List Kind) → MayFollow (sequence f g) v rest other → MayFollow (g b) v rest other
    last_follows other may = follow_map (sequence f g) (g b) v v rest other (λ x. (b, inl x)) may

    first_follows : (other : List Kind) → MayFollow (sequence f g) v rest other → MayFollow f b mid (two.taken ++ other)
    first_follows other may = between f b two.taken mid rest other two.parts (λ none. follow_map (sequence f g) f v b rest other (λ x. (b, inr (two.empty other (last_follows other may) none, x))) may)

    by_empty : (other : List Kind) → MayFollow (sequence f g) v rest other → (one.taken ≡ []) × (two.taken ≡ []) → MayEmpty (sequence f g) v other
    by_empty other may (first, last) =
        (b, one.empty other (subst (λ x. MayFollow f b mid (x ++ other)) last (first_follows other may)) first, two.empty other (last_follows other may) last)

moves_map : {A B : Type 0} (f : Grammar A) (g : Grammar B) (v : A) (w : B) (p : ℕ) (ts : List Kind) (q : ℕ) (rest : List Kind) → ((other : List Kind) → MayEmpty f v other → MayEmpty g w other)
    → ((other : List Kind) → Spoils f v other → Spoils g w other) → ((xs : List Kind) (y : Spot) → Fine f v (spot p xs) y → Fine g w (spot p xs) y) → Moves f v p ts q rest → Moves g w p ts q rest
moves_map f g v w p ts q rest i j h m = record {
  taken = m.taken;
  parts = m.parts;
  empty = λ other may e. i other (m.empty other (follow_map g f w v rest other (j other) may) e);
  again = λ other may. h (m.taken ++ other) (spot q other) (m.again other (follow_map g f w v rest other (j other) may));
}

-- a test in front
test_moves : {A : Type 0} (f g : Grammar A) (t : List Kind → Bool) (v : A) (p : ℕ) (ts : List Kind) (q : ℕ) (rest : List Kind) → IsOfFirst t → ((other : List Kind) → t other ≡ false → MayEmpty f v other → MayEmpty g v other)
    → ((other : List Kind) → Spoils f v other → Spoils g v other) → ((other : List Kind) → MayEmpty f v other × (t other ≡ true) → Spoils g v other)
    → ((xs : List Kind) (y : Spot) → t xs ≡ false → Fine f v (spot p xs) y → Fine g v (spot p xs) y) → t ts ≡ false → Moves f v p ts q rest → Moves g v p ts q rest
test_moves {A} f g t v p ts q rest first i j k h free m = record {
  taken = m.taken;
  parts = m.parts;
  empty = λ other may e. i other (ap (λ x. t (x ++ other)) (sym e) ∙ test_again other may m.taken refl) (m.empty other (inner other may) e);
  again = λ other may. h (m.taken ++ other) (spot q other) (test_again other may m.taken refl) (m.again other (inner other may));
}
  where
    inner : (other : List Kind) → MayFollow g v rest other → MayFollow f v rest other
    inner other may = follow_map g f v v rest other (j other) may

    by_end : (other : List Kind) → m.taken ≡ [] → MayFollow g v rest other → t other ≡ false
    by_end other none (inl same) = same_test t first rest other same (sym (ap t (m.parts ∙ ap (λ x. x ++ rest) none)) ∙ free)
    by_end other none (inr ends) = not_true (t other) (λ e. ends (k other (m.empty other (inner other (inr ends)) none, e)))

    test_again : (other : List Kind) → MayFollow g v rest other → (taken : List Kind) → m.taken ≡ taken → t (m.taken ++ other) ≡ false
    test_again other may [] none = ap (λ x. t (x ++ other)) none ∙ by_end other none may
    test_again other may (l ∷ ls) some =
        let whole : t (l ∷ (ls ++ rest)) ≡ false = sym (ap t (m.parts ∙ ap (λ x. x ++ rest) some)) ∙ free in
        ap (λ x. t (x ++ other)) some ∙ first.1 l (ls ++ other) (ls ++ rest) ∙ whole

pub more_rounds : {S A : Type 0} (f : S → Grammar (Step S A)) (s t : S) (v : A) (x z y : Spot) → Fine (f s) (onward t) x z → Fine (rounds f t) v z y → Fine (rounds f s) v x y
more_rounds f s t v x z y one (n, more) = (suc n, (t, z, one, more))

rounds_move : {S A : Type 0} (f : S → Grammar (Step S A)) → ((t u : S) (ts : List Kind) → ¬ (MayEmpty (f t) (onward u) ts)) → (s t : S) (v : A) (p : ℕ) (ts : List Kind) (m : ℕ) (mid : List Kind) (q : ℕ) (rest : List Kind)
    → Moves (f s) (onward t) p ts m mid → Moves (rounds f t) v m mid q rest → Moves (rounds f s) v p ts q rest
rounds_move {S} {A} f never s t v p ts m mid q rest one two = record {
  taken = one.taken ++ two.taken;
  parts = one.parts ∙ ap (λ x. one.taken ++ x) two.parts ∙ sym (append_assoc one.taken two.taken rest);
  empty = λ other may e. absurd (never s t mid (one.empty mid (inl (inl refl)) ((append_empty one.taken two.taken e).0)));
  again = λ other may.
      more_rounds f s t v (spot p ((one.taken ++ two.taken) ++ other)) (spot m (two.taken ++ other)) (spot q other)
      (subst (λ x. Fine (f s) (onward t) (spot p x) (spot m (two.taken ++ other))) (sym (append_assoc one.taken two.taken other)) (one.again (two.taken ++ other) (first_follows other may)))
      (two.again other (last_follows other may));
}
  where
    last_follows : (other : List Kind) → MayFollow (rounds f s) v rest other → MayFollow (rounds f t) v rest other
    last_follows other may = follow_map (rounds f s) (rounds f t) v v rest other (λ x. x) may

    first_follows : (other : List Kind) → MayFollow (rounds f s) v rest other → MayFollow (f s) (onward t) mid (two.taken ++ other)
    first_follows other may =
        between (f s) (onward t) two.taken mid rest other two.parts (λ none. follow_map (rounds f s) (f s) v (onward t) rest other (λ x. (s, inr (t, two.empty other (last_follows other may) none, x))) may)

rounds_moves : {S A : Type 0} (f : S → Grammar (Step S A)) → ((s : S) (v : Step S A) (p : ℕ) (ts : List Kind) (y : Spot) → Fine (f s) v (spot p ts) y → Moves (f s) v p ts y.0 y.1)
    → ((t u : S) (ts : List Kind) → ¬ (MayEmpty (f t) (onward u) ts)) → (n : ℕ) (s : S) (v : A) (p : ℕ) (ts : List Kind) (y : Spot) → FineRounds (λ t. Fine (f t)) n s v (spot p ts) y → Moves (rounds f s) v p ts y.0 y.1
rounds_moves f h never zero s v p ts y fine =
    moves_map (f s) (rounds f s) (done v) v p ts y.0 y.1 (λ other e. e) (λ other x. (s, inl x)) (λ xs z x. (zero, x)) (h s (done v) p ts y fine)
rounds_moves f h never (suc n) s v p ts y (t, z, fine, more) =
    rounds_move f never s t v p ts z.0 z.1 y.0 y.1 (h s (onward t) p ts z fine) (rounds_moves f h never n t v z.0 z.1 y more)

gives_moves : {A : Type 0} (w v : A) (p : ℕ) (ts : List Kind) (y : Spot) → v ≡ w → spot p ts ≡ y → Moves (gives w) v p ts y.0 y.1
gives_moves w v p ts y is same = record {
  taken = [];
  parts = ap (λ (x : Spot). x.1) same;
  empty = λ other may e. is;
  again = λ other may. (is, ap (λ (x : Spot). spot x.0 other) same);
}

takes_moves : {A : Type 0} (c : Kind → Option A) (v : A) (p : ℕ) (k : Kind) (ts : List Kind) (y : Spot) → c k ≡ Some v → spot (pred p) ts ≡ y → Moves (takes c) v p (k ∷ ts) y.0 y.1
takes_moves c v p k ts y is same = record {
  taken = k ∷ [];
  parts = ap (λ (x : Spot). k ∷ x.1) same;
  empty = λ other may e. absurd cc;
  again = λ other may. (is, ap (λ (x : Spot). spot x.0 other) same);
}

pub moves : {A : Type 0} (f : Grammar A) → Clear f → (v : A) (p : ℕ) (ts : List Kind) (y : Spot) → Fine f v (spot p ts) y → Moves f v p ts y.0 y.1
moves (gives w) clear v p ts y (is, same) = gives_moves w v p ts y is same
moves (takes c) clear v p [] y fine = absurd fine
moves (takes c) clear v p (k ∷ ts) y (is, same) = takes_moves c v p k ts y is same
moves (sequence f g) (cf, cg, apart) v p ts y (b, z, one, two) =
    sequence_moves f g b v p ts z.0 z.1 y.0 y.1 (moves f cf b p ts z one) (moves (g b) (cg b) v z.0 z.1 y two)
moves (choice f g) (leads, cf, cg, apart) v p ts y (inl fine) = moves_map f (choice f g) v v p ts y.0 y.1 (λ other e. inl e) (λ other x. inl x) (λ xs z x. inl x) (moves f cf v p ts y fine)
moves (choice f g) (leads, cf, cg, apart) v p ts y (inr fine) = moves_map g (choice f g) v v p ts y.0 y.1 (λ other e. inr e) (λ other x. inr x) (λ xs z x. inr x) (moves g cg v p ts y fine)
moves (rounds f s) (cf, never, apart) v p ts y (n, fine) = rounds_moves f (λ t. moves (f t) (cf t)) never n s v p ts y fine
moves (checks o f) clear v p ts y fine = moves_map f (checks o f) v v p ts y.0 y.1 (λ other e. e) (λ other x. x) (λ xs z x. x) (moves f clear v p ts y fine)
moves (bars t c f) (first, cf) v p ts y (free, fine) =
    test_moves f (bars t c f) t v p ts y.0 y.1 first (λ other x e. e) (λ other x. inl x) (λ other x. inr x) (λ xs z e x. (e, x)) free (moves f cf v p ts y fine)
moves (unless t f) (first, cf) v p ts y (free, fine) =
    test_moves f (unless t f) t v p ts y.0 y.1 first (λ other x e. (x, e)) (λ other x. inl x) (λ other x. inr x) (λ xs z e x. (e, x)) free (moves f cf v p ts y fine)
moves (here f) clear v p ts y fine = moves_map (f p) (here f) v v p ts y.0 y.1 (λ other e. (p, e)) (λ other x. (p, x)) (λ xs z x. x) (moves (f p) (clear p) v p ts y fine)

take_front : (xs ys : List Kind) → take (length xs) (xs ++ ys) ≡ xs
take_front [] ys = refl
take_front (x ∷ xs) ys = ap (λ r. x ∷ r) (take_front xs ys)

-- what is before the same tokens is the same
pub one_front : (xs ys rest : List Kind) → xs ++ rest ≡ ys ++ rest → xs ≡ ys
one_front xs ys rest e =
    let one : length (xs ++ rest) ≡ length xs + length rest = length-append xs rest in
    let two : length (ys ++ rest) ≡ length ys + length rest = length-append ys rest in
    let both : length (xs ++ rest) ≡ length (ys ++ rest) = ap length e in
    let same : length xs ≡ length ys = omega arith in
    sym (take_front xs rest) ∙ ap (λ n. take n (xs ++ rest)) same ∙ ap (take (length ys)) e ∙ take_front ys rest
