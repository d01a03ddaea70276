-- A keyword by its place among the words.
use Rattle.std.proofs.Common.{◌≡◌, ℕ, suc, ◌+◌, ◌-◌, ◌<◌, ◌≤◌, Bool, true, false, ◌||◌, List, [], ◌∷◌, length, map, Option, Some, None, Bor, refl, sym, ap, ◌∙◌, subst, arith, slice_index_or, position, if◌then◌else◌}
use Rattle.std.specs.List.{list_any, position_from}
use Rattle.std.specs.Option.{is_some}
use Rattle.std.specs.Cmp.Lexicographic.{same_text}
use Rattle.std.proofs.lemmas.Iterator.Adapters.{position_from-zero}
use Rattle.std.proofs.lemmas.List.{get_or_append_left, get_or-append-add, get_or-map}
use Rattle.ixp_lang_tokens.specs.Pieces.{same_word}
use Rattle.ixp_lang_tokens.specs.Vocabulary.{profile_words, foreign_words, all_words}
use Rattle.ixp_lang_tokens.specs.Words.{is_profile_word, is_foreign_word, is_keyword, IsKeyword}

abbrev is_it : List ℕ → Bor (List ℕ) → Bool
is_it word known = same_word word known.now

abbrev texts : List (Bor (List ℕ)) → List (List ℕ)
texts words = map (λ w. w.now) words

-- the word stands at this place of the list, and so is one of its words
record Found (word : List ℕ) (words : List (Bor (List ℕ))) (place : ℕ) : Type 0 where
  pub within : place < length words
  pub here : slice_index_or (texts words) place [] ≡ word
  pub is : list_any (is_it word) words ≡ true

later : (word : List ℕ) (x : Bor (List ℕ)) (xs : List (Bor (List ℕ))) (place : ℕ) → is_it word x ≡ false → Found word xs place → Found word (x ∷ xs) (suc place)
later word x xs place e f = record { within = omega (arith, f.within); here = f.here; is = ap (λ b. b || list_any (is_it word) xs) e ∙ f.is }

found_later : (word : List ℕ) (x : Bor (List ℕ)) (xs : List (Bor (List ℕ))) (i k : ℕ) → is_it word x ≡ false → (j : ℕ) × (k ≡ (i + 1) + j) × Found word xs j → (j : ℕ) × (k ≡ i + j) × Found word (x ∷ xs) j
found_later word x xs i k h (j, is, f) = (suc j, omega (arith, is), later word x xs j h f)

found_by : (word : List ℕ) (x : Bor (List ℕ)) (xs : List (Bor (List ℕ))) (i k : ℕ) (b : Bool) → is_it word x ≡ b → (if b then Some i else position_from (is_it word) (i + 1) xs) ≡ Some k
    → (position_from (is_it word) (i + 1) xs ≡ Some k → (j : ℕ) × (k ≡ (i + 1) + j) × Found word xs j) → (j : ℕ) × (k ≡ i + j) × Found word (x ∷ xs) j
found_by word x xs i k true h at more =
    let is : i ≡ k = cc in (0, omega (arith, is), record { within = omega arith; here = sym (same_text word x.now (sym h)); is = ap (λ b. b || list_any (is_it word) xs) h })
found_by word x xs i k false h at more = found_later word x xs i k h (more at)

found_from : (word : List ℕ) (xs : List (Bor (List ℕ))) (i k : ℕ) → position_from (is_it word) i xs ≡ Some k → (j : ℕ) × (k ≡ i + j) × Found word xs j
found_from word [] i k e = absurd cc
found_from word (x ∷ xs) i k e = found_by word x xs i k (is_it word x) refl e (found_from word xs (i + 1) k)

none_by : (word : List ℕ) (x : Bor (List ℕ)) (xs : List (Bor (List ℕ))) (i : ℕ) (b : Bool) → is_it word x ≡ b → (if b then Some i else position_from (is_it word) (i + 1) xs) ≡ None
    → (position_from (is_it word) (i + 1) xs ≡ None → list_any (is_it word) xs ≡ false) → list_any (is_it word) (x ∷ xs) ≡ false
none_by word x xs i true h at more = absurd cc
none_by word x xs i false h at more = ap (λ b. b || list_any (is_it word) xs) h ∙ more at

none_from : (word : List ℕ) (xs : List (Bor (List ℕ))) (i : ℕ) → position_from (is_it word) i xs ≡ None → list_any (is_it word) xs ≡ false
none_from word [] i e = refl
none_from word (x ∷ xs) i e = none_by word x xs i (is_it word x) refl e (none_from word xs (i + 1))

at_start : (word : List ℕ) (xs : List (Bor (List ℕ))) (k : ℕ) → (j : ℕ) × (k ≡ 0 + j) × Found word xs j → Found word xs k
at_start word xs k (j, is, f) = let same : j ≡ k = omega (arith, is) in subst (Found word xs) same f

found : (word : List ℕ) (xs : List (Bor (List ℕ))) (k : ℕ) → position (is_it word) xs ≡ Some k → Found word xs k
found word xs k e = at_start word xs k (found_from word xs 0 k (sym (position_from-zero (is_it word) xs) ∙ e))

none : (word : List ℕ) (xs : List (Bor (List ℕ))) → position (is_it word) xs ≡ None → list_any (is_it word) xs ≡ false
none word xs e = none_from word xs 0 (sym (position_from-zero (is_it word) xs) ∙ e)

any_text : (word : List ℕ) (xs : List (Bor (List ℕ))) → list_any (is_it word) xs ≡ list_any (same_word word) (texts xs)
any_text word [] = refl
any_text word (x ∷ xs) = ap (λ b. is_it word x || b) (any_text word xs)

texts_length : (xs : List (Bor (List ℕ))) → length (texts xs) ≡ length xs
texts_length [] = refl
texts_length (x ∷ xs) = ap suc (texts_length xs)

pub profile_length : (xs : List (Bor (List ℕ))) → texts xs ≡ profile_words → length xs ≡ 60
profile_length xs e = sym (texts_length xs) ∙ ap length e

pub foreign_length : (xs : List (Bor (List ℕ))) → texts xs ≡ foreign_words → length xs ≡ 20
foreign_length xs e = sym (texts_length xs) ∙ ap length e

any_profile : (word : List ℕ) (xs : List (Bor (List ℕ))) → texts xs ≡ profile_words → list_any (is_it word) xs ≡ is_profile_word word
unfolding is_profile_word
any_profile word xs e = any_text word xs ∙ ap (list_any (same_word word)) e

any_foreign : (word : List ℕ) (xs : List (Bor (List ℕ))) → texts xs ≡ foreign_words → list_any (is_it word) xs ≡ is_foreign_word word
unfolding is_foreign_word
any_foreign word xs e = any_text word xs ∙ ap (list_any (same_word word)) e

pub in_profile : (word : List ℕ) (xs : List (Bor (List ℕ))) (k : ℕ) → texts xs ≡ profile_words → position (is_it word) xs ≡ Some k → (k < 60) × IsKeyword word (Some (slice_index_or all_words k []))
in_profile word xs k e at =
    let f = found word xs k at in
    let less : k < 60 = subst (λ n. k < n) (profile_length xs e) f.within in (
      less,
      (
        ap (λ b. b || is_foreign_word word) (sym (any_profile word xs e) ∙ f.is),
        get_or_append_left profile_words foreign_words [] k less ∙ ap (λ ws. slice_index_or ws k []) (sym e) ∙ f.here,
      ),
    )

or_true : (b : Bool) → (b || true) ≡ true
or_true true = refl
or_true false = refl

pub in_foreign : (word : List ℕ) (xs : List (Bor (List ℕ))) (k : ℕ) → texts xs ≡ foreign_words → position (is_it word) xs ≡ Some k → (k < 20) × IsKeyword word (Some (slice_index_or all_words (60 + k) []))
in_foreign word xs k e at =
    let f = found word xs k at in (
      subst (λ n. k < n) (foreign_length xs e) f.within,
      (
        ap (λ b. is_profile_word word || b) (sym (any_foreign word xs e) ∙ f.is) ∙ or_true (is_profile_word word),
        get_or-append-add profile_words foreign_words k [] ∙ ap (λ ws. slice_index_or ws k []) (sym e) ∙ f.here,
      ),
    )

pub in_neither : (word : List ℕ) (xs ys : List (Bor (List ℕ))) → texts xs ≡ profile_words → texts ys ≡ foreign_words → position (is_it word) xs ≡ None → position (is_it word) ys ≡ None → is_keyword word ≡ false
in_neither word xs ys e g at also =
    ap (λ b. b || is_foreign_word word) (sym (any_profile word xs e) ∙ none word xs at) ∙ sym (any_foreign word ys g) ∙ none word ys also

is_there : (word : List ℕ) (xs : List (Bor (List ℕ))) (o : Option ℕ) → position (is_it word) xs ≡ o → is_some o ≡ list_any (is_it word) xs
is_there word xs None at = sym (none word xs at)
is_there word xs (Some k) at = let f = found word xs k at in sym f.is

pub foreign_there : (word : List ℕ) (xs : List (Bor (List ℕ))) → texts xs ≡ foreign_words → is_some (position (is_it word) xs) ≡ is_foreign_word word
foreign_there word xs e = is_there word xs (position (is_it word) xs) refl ∙ any_foreign word xs e

-- what stands at a place of the list
pub profile_text : (xs : List (Bor (List ℕ))) (k : ℕ) (d : Bor (List ℕ)) → texts xs ≡ profile_words → k < length xs → (slice_index_or xs k d).now ≡ slice_index_or all_words k []
profile_text xs k d e less =
    sym (get_or-map (λ (w : Bor (List ℕ)). w.now) xs k d [] less) ∙ ap (λ ws. slice_index_or ws k []) e
    ∙ sym (get_or_append_left profile_words foreign_words [] k (subst (λ n. k < n) (profile_length xs e) less))

pub foreign_text : (ws xs : List (Bor (List ℕ))) (k : ℕ) (d : Bor (List ℕ)) → texts ws ≡ profile_words → texts xs ≡ foreign_words → length ws ≤ k → k < 80
    → (slice_index_or xs (k - length ws) d).now ≡ slice_index_or all_words k []
foreign_text ws xs k d p e more small =
    let sixty : length ws ≡ 60 = profile_length ws p in
    let twenty : length xs ≡ 20 = foreign_length xs e in
    let less : k - length ws < length xs = omega (arith, sixty, twenty, more, small) in
    let there : 60 + (k - length ws) ≡ k = omega (arith, sixty, more) in
    sym (get_or-map (λ (w : Bor (List ℕ)). w.now) xs (k - length ws) d [] less) ∙ ap (λ ts. slice_index_or ts (k - length ws) []) e
    ∙ sym (get_or-append-add profile_words foreign_words (k - length ws) []) ∙ ap (λ n. slice_index_or all_words n []) there
