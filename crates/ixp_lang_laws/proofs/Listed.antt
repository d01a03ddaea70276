-- Lists with commas between, whose elements are spelt by their canonical tokens.
use Rattle.std.proofs.Common.{◌≡◌, ℕ, zero, suc, inl, inr, List, [], ◌∷◌, ◌++◌, refl, ◌∙◌, subst, append_assoc}
use Rattle.ixp_lang_tokens.specs.declared.token.Kind.{Kind}
use Rattle.ixp_lang_tokens.specs.declared.token.Mark.TheVariants.{Comma}
use Rattle.ixp_lang_tokens.specs.Grammars.{Grammar, gives, sequence, choice, Step, onward, done, Rounds, Took}
use Rattle.ixp_lang_exprs.specs.Lists.{ended}
use Rattle.ixp_lang_laws.specs.Canonical.{Before, list_of}

abbrev pub round : {A : Type 0} → (List A → Grammar A) → List A → Grammar (Step (List A) (List A))
round item items = sequence (item items) (λ x. choice (ended Comma (onward (items ++ x ∷ []))) (gives (done (items ++ x ∷ []))))

abbrev ItemRounds : {A : Type 0} → (List A → Grammar A) → ℕ → List A → List A → List Kind → List Kind → Type 0
ItemRounds item = Rounds (λ s. Took (round item s))

-- each element is so behind those before it
abbrev pub Each : {A : Type 0} → (List A → A → Type 0) → List A → List A → Type 0
Each Q before [] = Unit {0}
Each Q before (x ∷ xs) = Q before x × Each Q (before ++ x ∷ []) xs

module _ {A : Type 0} (item canonical : List A → Grammar A) (text : A → Before) (Q : List A → A → Type 0) where
  abbrev pub Spells : List A → A → Type 0
  Spells before x = Q before x × ((rest : List Kind) → Took (canonical before) x (text x rest) rest)

  -- the list goes on by these, which are spelt by their tokens
  abbrev pub Longer : List A → List A → Type 0
  Longer before after = (x : A) × (xs : List A) × (after ≡ before ++ x ∷ xs) × Each Q before (x ∷ xs) × ((rest : List Kind) → (j : ℕ) × ItemRounds canonical j before after (list_of text (x ∷ xs) rest) rest)

  last_item : (before after : List A) (x : A) → Spells before x → ◌≡◌ {A = Step (List A) (List A)} (done after) (done (before ++ x ∷ [])) → Longer before after
  last_item before after x (so, spells) e =
      let same : before ++ x ∷ [] ≡ after = cc in
      subst (λ a. Longer before a) same (x, [], refl, (so, tt), λ rest. (0, (x, rest, spells rest, inr (refl, refl))))

  more_item : (before next after : List A) (x : A) → Spells before x → ◌≡◌ {A = Step (List A) (List A)} (onward next) (onward (before ++ x ∷ [])) → Longer next after → Longer before after
  more_item before next after x (so, spells) e longer =
      let same : next ≡ before ++ x ∷ [] = cc in
      go (subst (λ a. Longer a after) same longer)
    where
      go : Longer (before ++ x ∷ []) after → Longer before after
      go (y, ys, all, each, more) = (
        x,
        y ∷ ys,
        all ∙ append_assoc before (x ∷ []) (y ∷ ys),
        (so, each),
        λ rest.
            (let m = more rest in (suc m.0, (before ++ x ∷ [], list_of text (y ∷ ys) rest, (x, _, spells _, inl (tt, _, (refl, refl), (refl, refl))), m.1))),
      )

  -- one element, and what goes on
  one_item : (h : (before : List A) (x : A) (ts rest : List Kind) → Took (item before) x ts rest → Spells before x) (before after : List A) (ts rest : List Kind) → Took (round item before) (done after) ts rest → Longer before after
  one_item h before after ts rest (x, mid, took, inl (y, others, comma, (e, same))) = absurd (let f : ◌≡◌ {A = Step (List A) (List A)} (done after) (onward (before ++ x ∷ [])) = e in let g : ⊥ = cc in g)
  one_item h before after ts rest (x, mid, took, inr (e, same)) = last_item before after x (h before x ts mid took) e

  next_item : (h : (before : List A) (x : A) (ts rest : List Kind) → Took (item before) x ts rest → Spells before x) (before next after : List A) (ts rest : List Kind) → Took (round item before) (onward next) ts rest → Longer next after → Longer before after
  next_item h before next after ts rest (x, mid, took, inl (y, others, comma, (e, same))) longer = more_item before next after x (h before x ts mid took) e longer
  next_item h before next after ts rest (x, mid, took, inr (e, same)) longer = absurd (let f : ◌≡◌ {A = Step (List A) (List A)} (onward next) (done (before ++ x ∷ [])) = e in let g : ⊥ = cc in g)

  pub listed_again : (h : (before : List A) (x : A) (ts rest : List Kind) → Took (item before) x ts rest → Spells before x) (k : ℕ) (before after : List A) (ts rest : List Kind) → ItemRounds item k before after ts rest → Longer before after
  listed_again h zero before after ts rest took = one_item h before after ts rest took
  listed_again h (suc k) before after ts rest (next, mid, took, more) = next_item h before next after ts mid took (listed_again h k next after mid rest more)
