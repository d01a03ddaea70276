-- Blanks and comments: what is read is what parts tokens, and there is one gap.
use Rattle.std.proofs.Common.{◌≡◌, ◌⊎◌, inl, inr, ℕ, zero, suc, Bool, true, false, ◌==◌, List, [], ◌∷◌, ◌++◌, length, Option, Some, None, refl, sym, ap, ◌∙◌, arith, subst, if◌then◌else◌}
use Rattle.std.proofs.lemmas.Bool.{eqb-true, eq-eqb}
use Rattle.std.proofs.lemmas.List.{length-append}
use Rattle.ixp_lang_tokens.specs.declared.runs.Class.TheVariants.{Line}
use Rattle.ixp_lang_tokens.specs.Bytes.{begins_with}
use Rattle.ixp_lang_tokens.specs.Gaps.{is_blank, HasEnd, Blank, Blanks, Gap}
use Rattle.ixp_lang_tokens.specs.Cutting.{behind_run, slash_or, behind_comment, star_comment, behind_blank}
use Rattle.ixp_lang_tokens.proofs.RunLaws.{run_sound, run_complete}

some_is : {A : Type 0} (a b : A) → Some a ≡ Some b → a ≡ b
some_is a b e = cc

-- Comments.

abbrev is_slash : ℕ → Bool
is_slash b = b == 47

abbrev Comment : List ℕ → List ℕ → Type 0
Comment text rest = (comment : List ℕ) × (text ≡ comment ++ (42 ∷ 47 ∷ rest)) × ¬ (HasEnd (comment ++ (42 ∷ [])))

-- the first `*/` is here, or behind the first byte
end_here : (b : ℕ) (text before behind : List ℕ) → b ∷ text ≡ before ++ (42 ∷ 47 ∷ behind) → ((b ≡ 42) × ((rest : List ℕ) × (text ≡ 47 ∷ rest))) ⊎ HasEnd text
end_here b text [] behind e = inl (cc, (behind, cc))
end_here b text (x ∷ before) behind e = inr (before, behind, cc)

head_same : (comment rest behind : List ℕ) → comment ++ (42 ∷ []) ≡ 47 ∷ behind → begins_with is_slash (comment ++ (42 ∷ 47 ∷ rest)) ≡ true
head_same [] rest behind e =
    let p : ◌≡◌ {A = ℕ} 42 47 = cc in absurd (omega arith)
head_same (x ∷ comment) rest behind e =
    let p : x ≡ 47 = cc in eq-eqb x 47 p

more_end : (b : ℕ) (comment rest : List ℕ) → (b ≡ 42 → begins_with is_slash (comment ++ (42 ∷ 47 ∷ rest)) ≡ false) → ¬ (HasEnd (comment ++ (42 ∷ [])))
    → ((b ≡ 42) × ((behind : List ℕ) × (comment ++ (42 ∷ []) ≡ 47 ∷ behind))) ⊎ HasEnd (comment ++ (42 ∷ [])) → ⊥
more_end b comment rest apart none (inl (is, (behind, e))) =
    let p : begins_with is_slash (comment ++ (42 ∷ 47 ∷ rest)) ≡ true = head_same comment rest behind e in
    let q : begins_with is_slash (comment ++ (42 ∷ 47 ∷ rest)) ≡ false = apart is in absurd cc
more_end b comment rest apart none (inr h) = none h

comment_more : (b : ℕ) (bs rest : List ℕ) → (b ≡ 42 → begins_with is_slash bs ≡ false) → Comment bs rest → Comment (b ∷ bs) rest
comment_more b bs rest apart (comment, is, none) = (
  b ∷ comment,
  ap (λ x. b ∷ x) is,
  λ (before, behind, e).
      more_end b comment rest (λ h. let P : List ℕ → Type 0 = λ t. begins_with is_slash t ≡ false in subst P is (apart h)) none
      (end_here b (comment ++ (42 ∷ [])) before behind e),
)

none_in_star : (before behind : List ℕ) → 42 ∷ [] ≡ before ++ (42 ∷ 47 ∷ behind) → ⊥
none_in_star before behind e =
    let n : length {A = ℕ} (42 ∷ []) ≡ length (before ++ (42 ∷ 47 ∷ behind)) = ap length e in
    omega (arith, n, length-append before (42 ∷ 47 ∷ behind))

comment_here : (b x : ℕ) (xs rest : List ℕ) → b ≡ 42 → x ≡ 47 → xs ≡ rest → Comment (b ∷ x ∷ xs) rest
comment_here b x xs rest p q r = ([], cc, λ (before, behind, e). none_in_star before behind e)

slash_step : (b x : ℕ) (xs rest : List ℕ) (s : Bool) → (x == 47) ≡ s → b ≡ 42 → (behind_comment (x ∷ xs) ≡ Some rest → Comment (x ∷ xs) rest)
    → (if s then Some xs else behind_comment (x ∷ xs)) ≡ Some rest → Comment (b ∷ x ∷ xs) rest
slash_step b x xs rest true p is again e = comment_here b x xs rest is (eqb-true x 47 p) (some_is xs rest e)
slash_step b x xs rest false p is again e = comment_more b (x ∷ xs) rest (λ h. p) (again e)

star_step : (b : ℕ) (bs rest : List ℕ) (t : Bool) → (b == 42) ≡ t → (behind_comment bs ≡ Some rest → Comment bs rest)
    → (if t then slash_or bs (behind_comment bs) else behind_comment bs) ≡ Some rest → Comment (b ∷ bs) rest
star_step b [] rest true p again e = absurd cc
star_step b (x ∷ xs) rest true p again e = slash_step b x xs rest (x == 47) refl (eqb-true b 42 p) again e
star_step b bs rest false p again e =
    comment_more b bs rest (λ h. let q : (b == 42) ≡ true = eq-eqb b 42 h in absurd cc) (again e)

comment_sound : (text rest : List ℕ) → behind_comment text ≡ Some rest → Comment text rest
comment_sound [] rest e = absurd cc
comment_sound (b ∷ bs) rest e = star_step b bs rest (b == 42) refl (comment_sound bs rest) e

none_behind : (b : ℕ) (comment : List ℕ) → ¬ (HasEnd (b ∷ comment)) → ¬ (HasEnd comment)
none_behind b comment none (before, behind, e) = none (b ∷ before, behind, ap (λ x. b ∷ x) e)

slash_again : (x : ℕ) (comment rest : List ℕ) (s : Bool) → (x == 47) ≡ s → ¬ (HasEnd (42 ∷ x ∷ comment)) → (other : Option (List ℕ)) → other ≡ Some rest
    → (behind : List ℕ) → (if s then Some behind else other) ≡ Some rest
slash_again x comment rest true p none other e behind =
    let q : x ≡ 47 = eqb-true x 47 p in
    absurd (none ([], comment, ap (λ y. 42 ∷ y ∷ comment) q))
slash_again x comment rest false p none other e behind = e

star_again : (b : ℕ) (comment rest : List ℕ) (t : Bool) → (b == 42) ≡ t → ¬ (HasEnd (b ∷ (comment ++ (42 ∷ []))))
    → behind_comment (comment ++ (42 ∷ 47 ∷ rest)) ≡ Some rest
    → (if t then slash_or (comment ++ (42 ∷ 47 ∷ rest)) (behind_comment (comment ++ (42 ∷ 47 ∷ rest))) else behind_comment (comment ++ (42 ∷ 47 ∷ rest))) ≡ Some rest
star_again b [] rest true p none e = refl
star_again b (x ∷ comment) rest true p none e =
    let q : b ≡ 42 = eqb-true b 42 p in
    let P : ℕ → Type 0 = λ y. ¬ (HasEnd (y ∷ x ∷ (comment ++ (42 ∷ [])))) in
    slash_again x (comment ++ (42 ∷ [])) rest (x == 47) refl (subst P q none) (behind_comment (x ∷ (comment ++ (42 ∷ 47 ∷ rest)))) e (comment ++ (42 ∷ 47 ∷ rest))
star_again b comment rest false p none e = e

comment_complete : (comment rest : List ℕ) → ¬ (HasEnd (comment ++ (42 ∷ []))) → behind_comment (comment ++ (42 ∷ 47 ∷ rest)) ≡ Some rest
comment_complete [] rest none = refl
comment_complete (b ∷ comment) rest none = star_again b comment rest (b == 42) refl none (comment_complete comment rest (none_behind b (comment ++ (42 ∷ [])) none))

-- One blank or comment.

star_sound : (bs rest : List ℕ) → star_comment bs ≡ Some rest → (behind : List ℕ) × (bs ≡ 42 ∷ behind) × Comment behind rest
star_sound [] rest e = absurd cc
star_sound (b ∷ bs) rest e = by_star (b == 42) refl e
  where
    by_star : (t : Bool) → (b == 42) ≡ t → (if t then behind_comment bs else None) ≡ Some rest → (behind : List ℕ) × (b ∷ bs ≡ 42 ∷ behind) × Comment behind rest
    by_star true p q = (bs, ap (λ x. x ∷ bs) (eqb-true b 42 p), comment_sound bs rest q)
    by_star false p q = absurd cc

slash_blank : (b : ℕ) (bs rest : List ℕ) → b ≡ 47 → (behind : List ℕ) × (bs ≡ 42 ∷ behind) × Comment behind rest → Blank (b ∷ bs) rest
slash_blank b bs rest p (behind, q, (comment, r, none)) = inr (inr (comment, cc, none))

blank_steps : (b : ℕ) (bs rest : List ℕ) (t u v : Bool) → is_blank b ≡ t → (b == 35) ≡ u → (b == 47) ≡ v
    → (if t then Some bs else (if u then Some (behind_run Line bs) else (if v then star_comment bs else None))) ≡ Some rest → Blank (b ∷ bs) rest
blank_steps b bs rest true u v p q r e = inl (b, p, ap (λ x. b ∷ x) (some_is bs rest e))
blank_steps b bs rest false true v p q r e =
    let same : behind_run Line bs ≡ rest = some_is (behind_run Line bs) rest e in
    let P : List ℕ → Type 0 = λ x. Blank (b ∷ bs) x in
    subst P same (inr (inl (bs, _, ap (λ x. x ∷ bs) (eqb-true b 35 q), run_sound Line bs)))
blank_steps b bs rest false false true p q r e = slash_blank b bs rest (eqb-true b 47 r) (star_sound bs rest e)
blank_steps b bs rest false false false p q r e = absurd cc

pub blank_sound : (text rest : List ℕ) → behind_blank text ≡ Some rest → Blank text rest
blank_sound [] rest e = absurd cc
blank_sound (b ∷ bs) rest e = blank_steps b bs rest (is_blank b) (b == 35) (b == 47) refl refl refl e

pub blank_complete : (text rest : List ℕ) → Blank text rest → behind_blank text ≡ Some rest
blank_complete text rest (inl (b, is, e)) =
    let P : List ℕ → Type 0 = λ t. behind_blank t ≡ Some rest in
    subst P (sym e) (rw is refl)
blank_complete text rest (inr (inl (behind, line, e, run))) =
    let P : List ℕ → Type 0 = λ t. behind_blank t ≡ Some rest in
    subst P (sym e) (ap Some (run_complete Line behind line rest run).1)
blank_complete text rest (inr (inr (comment, e, none))) =
    let P : List ℕ → Type 0 = λ t. behind_blank t ≡ Some rest in
    subst P (sym e) (comment_complete comment rest none)

pub no_blank : (text : List ℕ) → behind_blank text ≡ None → (rest : List ℕ) → ¬ (Blank text rest)
no_blank text e rest h =
    let p : behind_blank text ≡ Some rest = blank_complete text rest h in absurd cc

-- Gaps.

pub gap_here : (text : List ℕ) → behind_blank text ≡ None → Gap text text
gap_here text e = (zero, refl, no_blank text e)

pub gap_more : (text mid here : List ℕ) → behind_blank text ≡ Some mid → Gap mid here → Gap text here
gap_more text mid here e (n, blanks, none) = (suc n, (mid, blank_sound text mid e, blanks), none)

one_blank : (text a b : List ℕ) → Blank text a → Blank text b → a ≡ b
one_blank text a b p q =
    let e : behind_blank text ≡ Some a = blank_complete text a p in
    let f : behind_blank text ≡ Some b = blank_complete text b q in cc

one_blanks : (n m : ℕ) (text a b : List ℕ) → Blanks n text a → Blanks m text b → ((more : List ℕ) → ¬ (Blank a more)) → ((more : List ℕ) → ¬ (Blank b more)) → a ≡ b
one_blanks zero zero text a b p q ends stops = sym p ∙ q
one_blanks zero (suc m) text a b p (mid, blank, q) ends stops =
    let P : List ℕ → Type 0 = λ t. Blank t mid in absurd (ends mid (subst P p blank))
one_blanks (suc n) zero text a b (mid, blank, p) q ends stops =
    let P : List ℕ → Type 0 = λ t. Blank t mid in absurd (stops mid (subst P q blank))
one_blanks (suc n) (suc m) text a b (mid, blank, p) (other, space, q) ends stops =
    let P : List ℕ → Type 0 = λ t. Blanks m t b in
    one_blanks n m mid a b p (subst P (one_blank text other mid space blank) q) ends stops

-- a text has one gap at its front
pub one_gap : (text a b : List ℕ) → Gap text a → Gap text b → a ≡ b
one_gap text a b (n, p, ends) (m, q, stops) = one_blanks n m text a b p q ends stops
