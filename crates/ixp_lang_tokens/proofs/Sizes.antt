-- What is fine leaves fewer tokens, or takes none.
use Rattle.std.proofs.Common.{◌≡◌, ℕ, zero, suc, ◌<◌, ◌⊎◌, inl, inr, Bool, List, [], ◌∷◌, length, sym, ◌∙◌, arith, subst}
use Rattle.ixp_lang_tokens.specs.declared.token.Kind.{Kind}
use Rattle.ixp_lang_tokens.specs.Grammars.{Step, onward, done, Grammar, gives, takes, sequence, choice, rounds, checks, bars, unless, here}
use Rattle.ixp_lang_tokens.specs.Syntax.{Spot, FineRounds, Fine}
use Rattle.ixp_lang_tokens.proofs.Clear.{MayEmpty, ClearBy}

abbrev Shrinks : {A : Type 0} → Grammar A → A → Spot → Spot → Type 0
Shrinks f v x y = (length y.1 < length x.1) ⊎ (MayEmpty f v x.1 × (x ≡ y))

sequence_shrinks : {A B : Type 0} (f : Grammar B) (g : B → Grammar A) (b : B) (v : A) (x z y : Spot) → Shrinks f b x z → Shrinks (g b) v z y → Shrinks (sequence f g) v x y
sequence_shrinks f g b v x z y (inl less) (inl more) = inl (omega arith)
sequence_shrinks f g b v x z y (inl less) (inr (empty, same)) = inl (subst (λ (w : Spot). length w.1 < length x.1) same less)
sequence_shrinks f g b v x z y (inr (empty, same)) (inl more) = inl (subst (λ (w : Spot). length y.1 < length w.1) (sym same) more)
sequence_shrinks f g b v x z y (inr (empty, same)) (inr (last, end)) = inr ((b, empty, subst (λ (w : Spot). MayEmpty (g b) v w.1) (sym same) last), same ∙ end)

shrinks_map : {A B : Type 0} (f : Grammar A) (g : Grammar B) (v : A) (w : B) (x y : Spot) → (MayEmpty f v x.1 → MayEmpty g w x.1) → Shrinks f v x y → Shrinks g w x y
shrinks_map f g v w x y h (inl less) = inl less
shrinks_map f g v w x y h (inr (empty, same)) = inr (h empty, same)

rounds_shrinks : {S A : Type 0} (f : S → Grammar (Step S A)) → ((s : S) (v : Step S A) (x y : Spot) → Fine (f s) v x y → Shrinks (f s) v x y)
    → ((t u : S) (ts : List Kind) → ¬ (MayEmpty (f t) (onward u) ts)) → (n : ℕ) (s : S) (v : A) (x y : Spot) → FineRounds (λ t. Fine (f t)) n s v x y → Shrinks (rounds f s) v x y
rounds_shrinks f h never zero s v x y fine = shrinks_map (f s) (rounds f s) (done v) v x y (λ e. e) (h s (done v) x y fine)
rounds_shrinks {S} {A} f h never (suc n) s v x y (t, z, fine, more) = by_shrinks (h s (onward t) x z fine) (rounds_shrinks f h never n t v z y more)
  where
    by_shrinks : Shrinks (f s) (onward t) x z → Shrinks (rounds f t) v z y → Shrinks (rounds f s) v x y
    by_shrinks (inr (empty, same)) back = absurd (never s t x.1 empty)
    by_shrinks (inl less) (inl fewer) = inl (omega arith)
    by_shrinks (inl less) (inr (empty, same)) = inl (subst (λ (w : Spot). length w.1 < length x.1) same less)

shrinks : (T : (List Kind → Bool) → Type 0) {A : Type 0} (f : Grammar A) → ClearBy T f → (v : A) (x y : Spot) → Fine f v x y → Shrinks f v x y
shrinks T (gives w) clear v x y (is, same) = inr (is, same)
shrinks T (takes c) clear v (p, []) y fine = absurd fine
shrinks T (takes c) clear v (p, k ∷ ts) y (is, same) = inl (subst (λ (w : Spot). length w.1 < length (k ∷ ts)) same (omega arith))
shrinks T (sequence f g) (cf, cg, apart) v x y (b, z, one, two) = sequence_shrinks f g b v x z y (shrinks T f cf b x z one) (shrinks T (g b) (cg b) v z y two)
shrinks T (choice f g) (leads, cf, cg, apart) v x y (inl fine) = shrinks_map f (choice f g) v v x y (λ e. inl e) (shrinks T f cf v x y fine)
shrinks T (choice f g) (leads, cf, cg, apart) v x y (inr fine) = shrinks_map g (choice f g) v v x y (λ e. inr e) (shrinks T g cg v x y fine)
shrinks T (rounds f s) (cf, never, apart) v x y (n, fine) = rounds_shrinks f (λ t. shrinks T (f t) (cf t)) never n s v x y fine
shrinks T (checks o f) clear v x y fine = shrinks_map f (checks o f) v v x y (λ e. e) (shrinks T f clear v x y fine)
shrinks T (bars t c f) (seen, clear) v x y (free, fine) = shrinks_map f (bars t c f) v v x y (λ e. e) (shrinks T f clear v x y fine)
shrinks T (unless t f) (seen, clear) v x y (free, fine) = shrinks_map f (unless t f) v v x y (λ e. (free, e)) (shrinks T f clear v x y fine)
shrinks T (here f) clear v x y fine = shrinks_map (f x.0) (here f) v v x y (λ e. (x.0, e)) (shrinks T (f x.0) (clear x.0) v x y fine)

-- a round that goes on takes a token
pub fewer : (T : (List Kind → Bool) → Type 0) {A : Type 0} (f : Grammar A) → ClearBy T f → (v : A) (x y : Spot) → Fine f v x y → ((ts : List Kind) → ¬ (MayEmpty f v ts)) → length y.1 < length x.1
fewer T f clear v x y fine full = by_shrinks (shrinks T f clear v x y fine)
  where
    by_shrinks : Shrinks f v x y → length y.1 < length x.1
    by_shrinks (inl less) = less
    by_shrinks (inr (empty, same)) = absurd (full x.1 empty)
