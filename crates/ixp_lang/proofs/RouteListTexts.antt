-- Lists are read as they are spelt.
use Rattle.std.proofs.Common.{◌≡◌, ℕ, zero, suc, ◌≤◌, ◌⊎◌, inl, inr, ◌==◌, List, [], ◌∷◌, ◌++◌, length, Option, Some, None, Result, Ok, Err, refl, sym, ap, ◌∙◌, subst, arith, append_assoc, append-nil, ne_eqb, eq-eqb}
use Rattle.std.specs.List.{AllByRecursion}
use Rattle.std.proofs.lemmas.Bool.{cond-true, cond-false, cases_eq}
use Rattle.ixp_num.specs.Forms.{IsDigit}
use Rattle.ixp_num.proofs.Digits.{Ends}
use Rattle.ixp_lang.specs.declared.reading.fault.Stop.{Stop}
use Rattle.ixp_lang.specs.RouteReading.{◌then◌, texted, items, list_at, after_comma, after_item}
use Rattle.ixp_lang.specs.RouteTexts.{IsMoreText, IsListText}
use Rattle.ixp_lang.proofs.RouteItems.{Spells}

pub then_ok : {A B : Type 0} (r : Result A Stop) (f : A → Result B Stop) (y : B) → (r then f) ≡ Ok y → (a : A) × (r ≡ Ok a) × (f a ≡ Ok y)
then_ok (Ok a) f y e = (a, refl, e)
then_ok (Err stop) f y e = absurd (let h : ⊥ = cc in h)

pub texted_ok : {A : Type 0} (r : Result A ℕ) (y : A) → texted r ≡ Ok y → r ≡ Ok y
texted_ok (Ok a) y e = let same : a ≡ y = cc in ap Ok same
texted_ok (Err left) y e = absurd (let h : ⊥ = cc in h)

comma_step : (c : ℕ) (cs next : List ℕ) → (c ≡ 44) ⊎ (c ≡ 44 → ⊥) → after_comma (c ∷ cs) ≡ Some next → c ∷ cs ≡ 44 ∷ next
comma_step c cs next (inl is) e =
    let there : ◌≡◌ {A = Option (List ℕ)} (Some cs) (Some next) = sym (cond-true (c == 44) (Some cs) None (eq-eqb c 44 is)) ∙ e in
    let same : cs ≡ next = cc in
    ap (λ x. x ∷ cs) is ∙ ap (λ r. 44 ∷ r) same
comma_step c cs next (inr other) e = absurd (let there : ◌≡◌ {A = Option (List ℕ)} None (Some next) = sym (cond-false (c == 44) (Some cs) None (ne_eqb c 44 other)) ∙ e in let h : ⊥ = cc in h)

pub comma_sound : (t next : List ℕ) → after_comma t ≡ Some next → t ≡ 44 ∷ next
comma_sound [] next e = absurd (let h : ⊥ = cc in h)
comma_sound (c ∷ cs) next e = comma_step c cs next (cases_eq c 44) e

comma_again : (next : List ℕ) → after_comma (44 ∷ next) ≡ Some next
comma_again next = refl

pub comma_missing : (t : List ℕ) → Ends (λ c. c ≡ 44) t → after_comma t ≡ None
comma_missing [] ends = refl
comma_missing (c ∷ cs) ends = cond-false (c == 44) (Some cs) None (ne_eqb c 44 ends)

module _ {A : Type 0} (item : List ℕ → Result (A × List ℕ) ℕ) (Is : A → List ℕ → Type 0) (Fits : A → Type 0) (spells : Spells item Is Fits) where
  -- a list with at least one item
  abbrev pub IsItemsText : List A → List ℕ → Type 0
  IsItemsText [] s = ⊥
  IsItemsText (x ∷ xs) s = (front rest : List ℕ) × (s ≡ front ++ rest) × Is x front × IsMoreText Is xs rest

  abbrev pub Listed : ℕ → List ℕ → List A × List ℕ → Type 0
  Listed room t q = (s : List ℕ) × (t ≡ s ++ q.1) × IsItemsText q.0 s × AllByRecursion Fits q.0 × (length q.0 ≤ room)

  pub more_from : (xs : List A) (s : List ℕ) → IsItemsText xs s → IsMoreText Is xs (44 ∷ s)
  more_from [] s is = absurd is
  more_from (x ∷ xs) s (front, rest, e, is, more) = (front, rest, ap (λ r. 44 ∷ r) e, is, more)

  listed_step : (room : ℕ) (t : List ℕ) (x : A) (s rest : List ℕ) (o : Option (List ℕ)) (q : List A × List ℕ) → after_comma rest ≡ o → t ≡ s ++ rest → Is x s → Fits x
      → ((next : List ℕ) (q : List A × List ℕ) → items item room next ≡ Ok q → Listed room next q) → after_item (items item room) x rest o ≡ Ok q → Listed (suc room) t q
  listed_step room t x s rest None q comma parts is fits below e =
      let same : q ≡ (x ∷ [], rest) = cc in
      let few : length (x ∷ []) ≤ suc room = omega arith in
      subst (Listed (suc room) t) (sym same) (s, parts, (s, [], sym (append-nil s), is, refl), (fits, tt), few)
  listed_step room t x s rest (Some next) q comma parts is fits below e =
      let more = then_ok (items item room next) (λ q. Ok (x ∷ q.0, q.1)) q e in
      let tail = below next more.0 more.1 in
      let same : q ≡ (x ∷ more.0.0, more.0.1) = (let there = more.2 in cc) in
      let here : rest ≡ (44 ∷ tail.0) ++ more.0.1 = comma_sound rest next comma ∙ ap (λ r. 44 ∷ r) tail.1 in
      let whole : t ≡ (s ++ 44 ∷ tail.0) ++ more.0.1 = parts ∙ (ap (λ r. s ++ r) here ∙ sym (append_assoc s (44 ∷ tail.0) more.0.1)) in
      let short = tail.4 in
      let few : length (x ∷ more.0.0) ≤ suc room = omega arith in
      subst (Listed (suc room) t) (sym same) (s ++ 44 ∷ tail.0, whole, (s, 44 ∷ tail.0, refl, is, more_from more.0.0 tail.0 tail.2), (fits, tail.3), few)

  pub items_sound : (room : ℕ) (t : List ℕ) (q : List A × List ℕ) → items item room t ≡ Ok q → Listed room t q
  unfolding items
  items_sound zero t q e = absurd (let h : ⊥ = cc in h)
  items_sound (suc room) t q e =
      let read = then_ok (texted (item t)) (λ p. after_item (items item room) p.0 p.1 (after_comma p.1)) q e in
      let first = spells.sound t read.0 (texted_ok (item t) read.0 read.1) in
      listed_step room t read.0.0 first.0 read.0.1 (after_comma read.0.1) q refl first.1 first.2 first.3 (items_sound room) read.2

  pub list_from : (xs : List A) (s : List ℕ) → IsItemsText xs s → IsListText Is xs s
  list_from [] s is = absurd is
  list_from (x ∷ xs) s is = is

  abbrev pub Listing : List ℕ → List A × List ℕ → Type 0
  Listing t q = (s : List ℕ) × (t ≡ s ++ q.1) × IsListText Is q.0 s × AllByRecursion Fits q.0 × (length q.0 ≤ 1000)

  listing_from : (t : List ℕ) (q : List A × List ℕ) → Listed 1000 t q → Listing t q
  listing_from t q (s, parts, is, fits, few) = (s, parts, list_from q.0 s is, fits, few)

  dash_step : (c : ℕ) (cs : List ℕ) (q : List A × List ℕ) → (c ≡ 45) ⊎ (c ≡ 45 → ⊥) → list_at item (c ∷ cs) ≡ Ok q → Listing (c ∷ cs) q
  dash_step c cs q (inl is) e =
      let there : ◌≡◌ {A = Result (List A × List ℕ) Stop} (Ok ([], cs)) (Ok q) = sym (cond-true (c == 45) (Ok ([], cs)) (items item 1000 (c ∷ cs)) (eq-eqb c 45 is)) ∙ e in
      let same : q ≡ ([], cs) = cc in
      subst (Listing (c ∷ cs)) (sym same) (45 ∷ [], ap (λ x. x ∷ cs) is, refl, tt, omega arith)
  dash_step c cs q (inr other) e =
      listing_from (c ∷ cs) q (items_sound 1000 (c ∷ cs) q (sym (cond-false (c == 45) (Ok ([], cs)) (items item 1000 (c ∷ cs)) (ne_eqb c 45 other)) ∙ e))

  pub list_sound : (t : List ℕ) (q : List A × List ℕ) → list_at item t ≡ Ok q → Listing t q
  list_sound [] q e = listing_from [] q (items_sound 1000 [] q e)
  list_sound (c ∷ cs) q e = dash_step c cs q (cases_eq c 45) e

  -- what may follow a list
  abbrev pub Follows : List ℕ → Type 0
  Follows rest = Ends IsDigit rest × Ends (λ c. c ≡ 44) rest

  more_ends : (xs : List A) (more rest : List ℕ) → IsMoreText Is xs more → Follows rest → Ends IsDigit (more ++ rest)
  more_ends [] more rest is follows = subst (λ m. Ends IsDigit (m ++ rest)) (sym is) follows.0
  more_ends (x ∷ xs) more rest (front, back, e, is, after) follows = subst (λ m. Ends IsDigit (m ++ rest)) (sym e) (λ d. omega arith)

  pub items_again : (room : ℕ) (x : A) (xs : List A) (front more rest : List ℕ) → Is x front → IsMoreText Is xs more → AllByRecursion Fits (x ∷ xs) → length (x ∷ xs) ≤ room → Follows rest → items item room (front ++ (more ++ rest)) ≡ Ok (x ∷ xs, rest)
  unfolding items
  items_again zero x xs front more rest is after fits few follows = absurd (omega arith)
  items_again (suc room) x [] front more rest is after fits few follows =
      ap (λ r. texted r then λ p. after_item (items item room) p.0 p.1 (after_comma p.1)) (spells.again x front (more ++ rest) is fits.0 (more_ends [] more rest after follows))
      ∙ (ap (λ m. after_item (items item room) x (m ++ rest) (after_comma (m ++ rest))) after
      ∙ ap (after_item (items item room) x rest) (comma_missing rest follows.1))
  items_again (suc room) x (y ∷ ys) front more rest is (item2, more2, e, is2, after2) fits few follows =
      ap (λ r. texted r then λ p. after_item (items item room) p.0 p.1 (after_comma p.1)) (spells.again x front (more ++ rest) is fits.0 (more_ends (y ∷ ys) more rest (item2, more2, e, is2, after2) follows))
      ∙ (ap (λ m. after_item (items item room) x (m ++ rest) (after_comma (m ++ rest))) e
      ∙ (ap (λ t. items item room t then λ q. Ok (x ∷ q.0, q.1)) (append_assoc item2 more2 rest)
      ∙ ap (λ r. r then λ q. Ok (x ∷ q.0, q.1)) (items_again room y ys item2 more2 rest is2 after2 fits.1 (omega arith) follows)))

  no_dash_list : (t : List ℕ) → Ends (λ c. c ≡ 45) t → list_at item t ≡ items item 1000 t
  no_dash_list [] ends = refl
  no_dash_list (c ∷ cs) ends = cond-false (c == 45) (Ok ([], cs)) (items item 1000 (c ∷ cs)) (ne_eqb c 45 ends)

  pub list_again : ((x : A) (s rest : List ℕ) → Is x s → Ends (λ c. c ≡ 45) (s ++ rest)) → (xs : List A) (s rest : List ℕ) → IsListText Is xs s → AllByRecursion Fits xs → length xs ≤ 1000 → Follows rest → list_at item (s ++ rest) ≡ Ok (xs, rest)
  list_again no_dash [] s rest is fits few follows = ap (λ s. list_at item (s ++ rest)) is
  list_again no_dash (x ∷ xs) s rest (front, more, e, is, after) fits few follows =
      ap (list_at item) (ap (λ s. s ++ rest) e ∙ append_assoc front more rest)
      ∙ (no_dash_list (front ++ (more ++ rest)) (no_dash x front (more ++ rest) is)
      ∙ items_again 1000 x xs front more rest is after fits few follows)
