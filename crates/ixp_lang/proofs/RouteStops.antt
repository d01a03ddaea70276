-- What stands before the fault of a list goes on as a list.
use Rattle.std.proofs.Common.{◌≡◌, ℕ, zero, suc, ◌≤◌, ◌⊎◌, inl, inr, Bool, true, false, cond, ◌==◌, min, nat_le, List, [], ◌∷◌, ◌++◌, length, Option, Some, None, Result, Ok, Err, refl, sym, ap, ◌∙◌, arith, lit<, append_assoc, append-nil, ne_eqb, eq-eqb}
use Rattle.std.specs.List.{AllByRecursion}
use Rattle.std.proofs.lemmas.Bool.{cond-true, cond-false, cases_Bool, cases_eq}
use Rattle.ixp_num.specs.declared.asn.Asn.{Asn}
use Rattle.ixp_num.specs.Forms.{IsDigit, IsDecimal}
use Rattle.ixp_num.specs.Reading.{◌>>=◌, cap, number_at, mark_at}
use Rattle.ixp_num.proofs.Digits.{Ends, Numbered, number_again, number_split, number_missing, mark_again, mark_split, mark_missing}
use Rattle.ixp_lang.specs.declared.reading.fault.Stop.{Stop}
use Rattle.ixp_lang.specs.declared.reading.fault.Stop.TheVariants.{Text}
use Rattle.ixp_lang.specs.RouteReading.{◌then◌, texted, number, asn_item, pair_item, triple_item, items, list_at, begins, one_too_many, after_comma, after_item}
use Rattle.ixp_lang.specs.RouteTexts.{IsAsnText, IsPairText, IsTripleText, AsnFits, PairFits, TripleFits, BeginsList}
use Rattle.ixp_lang.proofs.RouteItems.{Spells, number_sound, mark_sound, asn_spells, pair_spells, triple_spells}
use Rattle.ixp_lang.proofs.RouteListTexts.{texted_ok, comma_sound, IsItemsText, more_from, list_from}

pub bind_cases : {A B : Type 0} (r : Result A ℕ) (f : A → Result B ℕ) (left : ℕ) → (r >>= f) ≡ Err left → (r ≡ Err left) ⊎ ((a : A) × (r ≡ Ok a) × (f a ≡ Err left))
bind_cases (Ok a) f left e = inr (a, refl, e)
bind_cases (Err l) f left e = inl (let same : l ≡ left = cc in ap Err same)

err_same : {A : Type 0} (l m : ℕ) → ◌≡◌ {A = Result A ℕ} (Err l) (Err m) → l ≡ m
err_same l m e = cc

-- a number's fault is at its first byte
abbrev pub bounded_number : ℕ → ℕ → ℕ × List ℕ → Result (ℕ × List ℕ) ℕ
bounded_number bound left p = cond (nat_le p.0 bound) (Ok p) (Err left)

over : (bound left l : ℕ) (p : ℕ × List ℕ) → nat_le p.0 bound ≡ true ⊎ nat_le p.0 bound ≡ false → bounded_number bound left p ≡ Err l → l ≡ left
over bound left l p (inl low) e = absurd (let there : ◌≡◌ {A = Result (ℕ × List ℕ) ℕ} (Ok p) (Err l) = ap (λ b. cond b (Ok p) (Err left)) (sym low) ∙ e in let h : ⊥ = cc in h)
over bound left l p (inr high) e = let there : ◌≡◌ {A = Result (ℕ × List ℕ) ℕ} (Err left) (Err l) = ap (λ b. cond b (Ok p) (Err left)) (sym high) ∙ e in sym (err_same left l there)

missing : (t : List ℕ) (l : ℕ) → Numbered t ⊎ Ends IsDigit t → number_at t ≡ Err l → l ≡ length t
missing t l (inl x) e = absurd (let there : ◌≡◌ {A = Result (ℕ × List ℕ) ℕ} (Ok (min cap x.n, x.rest)) (Err l) = sym (ap number_at x.parts ∙ number_again x.front x.rest x.n x.spelt x.closed) ∙ e in let h : ⊥ = cc in h)
missing t l (inr ends) e = let there : ◌≡◌ {A = Result (ℕ × List ℕ) ℕ} (Err (length t)) (Err l) = sym (number_missing t ends) ∙ e in sym (err_same (length t) l there)

number_cases : (bound : ℕ) (t : List ℕ) (l : ℕ) → (number_at t ≡ Err l) ⊎ ((p : ℕ × List ℕ) × (number_at t ≡ Ok p) × (bounded_number bound (length t) p ≡ Err l)) → l ≡ length t
number_cases bound t l (inl e) = missing t l (number_split t) e
number_cases bound t l (inr (p, there, e)) = over bound (length t) l p (cases_Bool (nat_le p.0 bound)) e

pub number_stops : (bound : ℕ) (t : List ℕ) (l : ℕ) → number bound t ≡ Err l → l ≡ length t
number_stops bound t l e = number_cases bound t l (bind_cases (number_at t) (bounded_number bound (length t)) l e)

mark_found : (b : ℕ) (t : List ℕ) (l : ℕ) → ((rest : List ℕ) × (t ≡ b ∷ rest)) ⊎ Ends (λ c. c ≡ b) t → mark_at b t ≡ Err l → l ≡ length t
mark_found b t l (inl (rest, is)) e = absurd (let there : ◌≡◌ {A = Result (List ℕ) ℕ} (Ok rest) (Err l) = sym (mark_again b rest) ∙ (ap (mark_at b) (sym is) ∙ e) in let h : ⊥ = cc in h)
mark_found b t l (inr ends) e = let there : ◌≡◌ {A = Result (List ℕ) ℕ} (Err (length t)) (Err l) = sym (mark_missing b t ends) ∙ e in sym (err_same (length t) l there)

pub mark_stops : (b : ℕ) (t : List ℕ) (l : ℕ) → mark_at b t ≡ Err l → l ≡ length t
mark_stops b t l e = mark_found b t l (mark_split b t) e

zero_text : IsDecimal (48 ∷ []) 0
zero_text = ((omega arith, omega arith), (λ e. refl), tt, refl)

-- the text but for its last `left` bytes is the beginning of an item
abbrev pub BeginsItem : {A : Type 0} → (A → List ℕ → Type 0) → (A → Type 0) → List ℕ → ℕ → Type 0
BeginsItem {A} Is Fits t left = (front rest more : List ℕ) × (x : A) × (t ≡ front ++ rest) × (length rest ≡ left) × Is x (front ++ more) × Fits x

abbrev asn_with : ℕ → Asn
asn_with n = record { 0 = n }

asn_cases : (t : List ℕ) (l : ℕ) → (number 4294967295 t ≡ Err l) ⊎ ((a : ℕ × List ℕ) × (number 4294967295 t ≡ Ok a) × (◌≡◌ {A = Result (Asn × List ℕ) ℕ} (Ok (asn_with a.0, a.1)) (Err l))) → BeginsItem IsAsnText AsnFits t l
asn_cases t l (inl e) = ([], t, 48 ∷ [], asn_with 0, refl, sym (number_stops 4294967295 t l e), zero_text, omega arith)
asn_cases t l (inr (a, e, there)) = absurd (let h : ⊥ = cc in h)

pub asn_stops : (t : List ℕ) (l : ℕ) → asn_item t ≡ Err l → BeginsItem IsAsnText AsnFits t l
asn_stops t l e = asn_cases t l (bind_cases (number 4294967295 t) (λ a. Ok (asn_with a.0, a.1)) l e)

-- communities

abbrev second_of : ℕ → List ℕ → Result ((ℕ × ℕ) × List ℕ) ℕ
second_of a s = number 65535 s >>= λ b. Ok ((a, b.0), b.1)

abbrev after_first : ℕ × List ℕ → Result ((ℕ × ℕ) × List ℕ) ℕ
after_first a = mark_at 58 a.1 >>= second_of a.0

pair_second : (t f s : List ℕ) (a : ℕ) (l : ℕ) → t ≡ f ++ 58 ∷ s → IsDecimal f a → a ≤ 65535 → (number 65535 s ≡ Err l) ⊎ ((b : ℕ × List ℕ) × (number 65535 s ≡ Ok b) × (◌≡◌ {A = Result ((ℕ × ℕ) × List ℕ) ℕ} (Ok ((a, b.0), b.1)) (Err l))) → BeginsItem IsPairText PairFits t l
pair_second t f s a l parts spelt fits (inl e) =
    (f ++ 58 ∷ [], s, 48 ∷ [], (a, 0), parts ∙ sym (append_assoc f (58 ∷ []) s), sym (number_stops 65535 s l e), (f, 48 ∷ [], append_assoc f (58 ∷ []) (48 ∷ []), spelt, zero_text), (fits, omega arith))
pair_second t f s a l parts spelt fits (inr (b, e, there)) = absurd (let h : ⊥ = cc in h)

pair_mark : (t f r : List ℕ) (a : ℕ) (l : ℕ) → t ≡ f ++ r → IsDecimal f a → a ≤ 65535 → (mark_at 58 r ≡ Err l) ⊎ ((s : List ℕ) × (mark_at 58 r ≡ Ok s) × (second_of a s ≡ Err l)) → BeginsItem IsPairText PairFits t l
pair_mark t f r a l parts spelt fits (inl e) = (f, r, 58 ∷ 48 ∷ [], (a, 0), parts, sym (mark_stops 58 r l e), (f, 48 ∷ [], refl, spelt, zero_text), (fits, omega arith))
pair_mark t f r a l parts spelt fits (inr (s, e, there)) =
    pair_second t f s a l (parts ∙ ap (λ r. f ++ r) (mark_sound 58 r s e)) spelt fits (bind_cases (number 65535 s) (λ b. Ok ((a, b.0), b.1)) l there)

pair_cases : (t : List ℕ) (l : ℕ) → (number 65535 t ≡ Err l) ⊎ ((a : ℕ × List ℕ) × (number 65535 t ≡ Ok a) × (after_first a ≡ Err l)) → BeginsItem IsPairText PairFits t l
pair_cases t l (inl e) = ([], t, 48 ∷ 58 ∷ 48 ∷ [], (0, 0), refl, sym (number_stops 65535 t l e), (48 ∷ [], 48 ∷ [], refl, zero_text, zero_text), (omega arith, omega arith))
pair_cases t l (inr (a, e, there)) =
    let first = number_sound 65535 t a (lit< tt) e in
    pair_mark t first.0 a.1 a.0 l first.1 first.2 first.3 (bind_cases (mark_at 58 a.1) (second_of a.0) l there)

pub pair_stops : (t : List ℕ) (l : ℕ) → pair_item t ≡ Err l → BeginsItem IsPairText PairFits t l
pair_stops t l e = pair_cases t l (bind_cases (number 65535 t) after_first l e)

-- large communities

abbrev last_of : ℕ → ℕ → List ℕ → Result ((ℕ × ℕ × ℕ) × List ℕ) ℕ
last_of a b u = number 4294967295 u >>= λ c. Ok ((a, b, c.0), c.1)

abbrev after_two : ℕ → ℕ × List ℕ → Result ((ℕ × ℕ × ℕ) × List ℕ) ℕ
after_two a b = mark_at 58 b.1 >>= last_of a b.0

abbrev two_of : ℕ → List ℕ → Result ((ℕ × ℕ × ℕ) × List ℕ) ℕ
two_of a s = number 4294967295 s >>= after_two a

abbrev after_one : ℕ × List ℕ → Result ((ℕ × ℕ × ℕ) × List ℕ) ℕ
after_one a = mark_at 58 a.1 >>= two_of a.0

triple_third : (t f g u : List ℕ) (a b : ℕ) (l : ℕ) → t ≡ f ++ 58 ∷ (g ++ 58 ∷ u) → IsDecimal f a → a ≤ 4294967295 → IsDecimal g b → b ≤ 4294967295 → (number 4294967295 u ≡ Err l) ⊎ ((c : ℕ × List ℕ) × (number 4294967295 u ≡ Ok c) × (◌≡◌ {A = Result ((ℕ × ℕ × ℕ) × List ℕ) ℕ} (Ok ((a, b, c.0), c.1)) (Err l))) → BeginsItem IsTripleText TripleFits t l
triple_third t f g u a b l parts sa fa sb fb (inl e) =
    (f ++ 58 ∷ (g ++ 58 ∷ []), u, 48 ∷ [], (a, b, 0), parts ∙ three f g [] u, sym (number_stops 4294967295 u l e), (f, g, 48 ∷ [], sym (three f g [] (48 ∷ [])), sa, sb, zero_text), (fa, fb, omega arith)) where
      three : (f g h u : List ℕ) → f ++ 58 ∷ (g ++ 58 ∷ (h ++ u)) ≡ (f ++ 58 ∷ (g ++ 58 ∷ h)) ++ u
      three f g h u = sym (append_assoc f (58 ∷ (g ++ 58 ∷ h)) u ∙ ap (λ x. f ++ 58 ∷ x) (append_assoc g (58 ∷ h) u))
triple_third t f g u a b l parts sa fa sb fb (inr (c, e, there)) = absurd (let h : ⊥ = cc in h)

triple_colon : (t f g r : List ℕ) (a b : ℕ) (l : ℕ) → t ≡ f ++ 58 ∷ (g ++ r) → IsDecimal f a → a ≤ 4294967295 → IsDecimal g b → b ≤ 4294967295 → (mark_at 58 r ≡ Err l) ⊎ ((u : List ℕ) × (mark_at 58 r ≡ Ok u) × (last_of a b u ≡ Err l)) → BeginsItem IsTripleText TripleFits t l
triple_colon t f g r a b l parts sa fa sb fb (inl e) =
    (f ++ 58 ∷ g, r, 58 ∷ 48 ∷ [], (a, b, 0), parts ∙ sym (append_assoc f (58 ∷ g) r), sym (mark_stops 58 r l e), (f, g, 48 ∷ [], append_assoc f (58 ∷ g) (58 ∷ 48 ∷ []), sa, sb, zero_text), (fa, fb, omega arith))
triple_colon t f g r a b l parts sa fa sb fb (inr (u, e, there)) =
    triple_third t f g u a b l (parts ∙ ap (λ r. f ++ 58 ∷ (g ++ r)) (mark_sound 58 r u e)) sa fa sb fb (bind_cases (number 4294967295 u) (λ c. Ok ((a, b, c.0), c.1)) l there)

triple_second : (t f s : List ℕ) (a : ℕ) (l : ℕ) → t ≡ f ++ 58 ∷ s → IsDecimal f a → a ≤ 4294967295 → (number 4294967295 s ≡ Err l) ⊎ ((b : ℕ × List ℕ) × (number 4294967295 s ≡ Ok b) × (after_two a b ≡ Err l)) → BeginsItem IsTripleText TripleFits t l
triple_second t f s a l parts sa fa (inl e) =
    (f ++ 58 ∷ [], s, 48 ∷ 58 ∷ 48 ∷ [], (a, 0, 0), parts ∙ sym (append_assoc f (58 ∷ []) s), sym (number_stops 4294967295 s l e), (f, 48 ∷ [], 48 ∷ [], append_assoc f (58 ∷ []) (48 ∷ 58 ∷ 48 ∷ []), sa, zero_text, zero_text), (fa, omega arith, omega arith))
triple_second t f s a l parts sa fa (inr (b, e, there)) =
    let second = number_sound 4294967295 s b (lit< tt) e in
    triple_colon t f second.0 b.1 a b.0 l (parts ∙ ap (λ s. f ++ 58 ∷ s) second.1) sa fa second.2 second.3 (bind_cases (mark_at 58 b.1) (last_of a b.0) l there)

triple_mark : (t f r : List ℕ) (a : ℕ) (l : ℕ) → t ≡ f ++ r → IsDecimal f a → a ≤ 4294967295 → (mark_at 58 r ≡ Err l) ⊎ ((s : List ℕ) × (mark_at 58 r ≡ Ok s) × (two_of a s ≡ Err l)) → BeginsItem IsTripleText TripleFits t l
triple_mark t f r a l parts sa fa (inl e) = (f, r, 58 ∷ 48 ∷ 58 ∷ 48 ∷ [], (a, 0, 0), parts, sym (mark_stops 58 r l e), (f, 48 ∷ [], 48 ∷ [], refl, sa, zero_text, zero_text), (fa, omega arith, omega arith))
triple_mark t f r a l parts sa fa (inr (s, e, there)) =
    triple_second t f s a l (parts ∙ ap (λ r. f ++ r) (mark_sound 58 r s e)) sa fa (bind_cases (number 4294967295 s) (after_two a) l there)

triple_cases : (t : List ℕ) (l : ℕ) → (number 4294967295 t ≡ Err l) ⊎ ((a : ℕ × List ℕ) × (number 4294967295 t ≡ Ok a) × (after_one a ≡ Err l)) → BeginsItem IsTripleText TripleFits t l
triple_cases t l (inl e) = ([], t, 48 ∷ 58 ∷ 48 ∷ 58 ∷ 48 ∷ [], (0, 0, 0), refl, sym (number_stops 4294967295 t l e), (48 ∷ [], 48 ∷ [], 48 ∷ [], refl, zero_text, zero_text, zero_text), (omega arith, omega arith, omega arith))
triple_cases t l (inr (a, e, there)) =
    let first = number_sound 4294967295 t a (lit< tt) e in
    triple_mark t first.0 a.1 a.0 l first.1 first.2 first.3 (bind_cases (mark_at 58 a.1) (two_of a.0) l there)

pub triple_stops : (t : List ℕ) (l : ℕ) → triple_item t ≡ Err l → BeginsItem IsTripleText TripleFits t l
triple_stops t l e = triple_cases t l (bind_cases (number 4294967295 t) after_one l e)

-- lists

pub then_cases : {A B : Type 0} (r : Result A Stop) (f : A → Result B Stop) (s : Stop) → (r then f) ≡ Err s → (r ≡ Err s) ⊎ ((a : A) × (r ≡ Ok a) × (f a ≡ Err s))
then_cases (Ok a) f s e = inr (a, refl, e)
then_cases (Err x) f s e = inl (let same : x ≡ s = cc in ap Err same)

pub passed_on : {B C : Type 0} (r : Result B Stop) (f : B → C) (s : Stop) → (r then λ q. Ok (f q)) ≡ Err s → r ≡ Err s
passed_on (Ok q) f s e = absurd (let h : ⊥ = cc in h)
passed_on (Err x) f s e = let same : x ≡ s = cc in ap Err same

pub texted_err : {A : Type 0} (r : Result A ℕ) (l : ℕ) → texted r ≡ Err (Text l) → r ≡ Err l
texted_err (Ok a) l e = absurd (let h : ⊥ = cc in h)
texted_err (Err m) l e = let same : m ≡ l = cc in ap Err same

pub too_many_text : (b : Bool) (t : List ℕ) (l : ℕ) → one_too_many b t ≡ Text l → length t ≡ l
too_many_text true t l e = absurd (let h : ⊥ = cc in h)
too_many_text false t l e = cc

module _ {A : Type 0} (item : List ℕ → Result (A × List ℕ) ℕ) (Is : A → List ℕ → Type 0) (Fits : A → Type 0) (spells : Spells item Is Fits)
    (stops : (t : List ℕ) (l : ℕ) → item t ≡ Err l → BeginsItem Is Fits t l) (sample : A) (sample_text : List ℕ) (is_sample : Is sample sample_text) (fits_sample : Fits sample) where
  abbrev Halting : List ℕ → ℕ → Type 0
  Halting t l = (front rest more : List ℕ) × (xs : List A) × (t ≡ front ++ rest) × (length rest ≡ l) × IsItemsText item Is Fits spells xs (front ++ more) × AllByRecursion Fits xs

  only : (t : List ℕ) (l : ℕ) → BeginsItem Is Fits t l → Halting t l
  only t l (front, rest, more, x, parts, size, is, fits) = (front, rest, more, x ∷ [], parts, size, (front ++ more, [], sym (append-nil (front ++ more)), is, refl), (fits, tt))

  comma_cases : (room : ℕ) (t : List ℕ) (l : ℕ) (x : A) (s rest : List ℕ) (o : Option (List ℕ)) → after_comma rest ≡ o → t ≡ s ++ rest → Is x s → Fits x
      → ((next : List ℕ) → items item room next ≡ Err (Text l) → Halting next l) → after_item (items item room) x rest o ≡ Err (Text l) → Halting t l
  comma_cases room t l x s rest None comma parts is fits below e = absurd (let h : ⊥ = cc in h)
  comma_cases room t l x s rest (Some next) comma parts is fits below e = more_halts (then_cases (items item room next) (λ q. Ok (x ∷ q.0, q.1)) (Text l) e) where
    with_item : Halting next l → Halting t l
    with_item (front, back, more, xs, whole, size, are, all) = (
      s ++ 44 ∷ front,
      back,
      more,
      x ∷ xs,
      parts ∙ (ap (λ r. s ++ r) (comma_sound rest next comma ∙ ap (λ r. 44 ∷ r) whole) ∙ sym (append_assoc s (44 ∷ front) back)),
      size,
      (s, 44 ∷ (front ++ more), append_assoc s (44 ∷ front) more, is, more_from item Is Fits spells xs (front ++ more) are),
      (fits, all),
    )

    more_halts : (items item room next ≡ Err (Text l)) ⊎ ((q : List A × List ℕ) × (items item room next ≡ Ok q) × (◌≡◌ {A = Result (List A × List ℕ) Stop} (Ok (x ∷ q.0, q.1)) (Err (Text l)))) → Halting t l
    more_halts (inl halts) = with_item (below next halts)
    more_halts (inr (q, read, there)) = absurd (let h : ⊥ = cc in h)

  items_halt : (room : ℕ) (t : List ℕ) (l : ℕ) → items item room t ≡ Err (Text l) → Halting t l
  unfolding items
  items_halt zero t l e =
      let there : one_too_many (begins t (item t)) t ≡ Text l = cc in
      ([], t, sample_text, sample ∷ [], refl, too_many_text (begins t (item t)) t l there, (sample_text, [], sym (append-nil sample_text), is_sample, refl), (fits_sample, tt))
  items_halt (suc room) t l e = item_cases (items_halt room) (then_cases (texted (item t)) (λ p. after_item (items item room) p.0 p.1 (after_comma p.1)) (Text l) e) where
    item_cases : ((next : List ℕ) (m : ℕ) → items item room next ≡ Err (Text m) → Halting next m)
        → (texted (item t) ≡ Err (Text l)) ⊎ ((p : A × List ℕ) × (texted (item t) ≡ Ok p) × (after_item (items item room) p.0 p.1 (after_comma p.1) ≡ Err (Text l))) → Halting t l
    item_cases below (inl halts) = only t l (stops t l (texted_err (item t) l halts))
    item_cases below (inr (p, read, there)) =
        let first = spells.sound t p (texted_ok (item t) p read) in
        comma_cases room t l p.0 first.0 p.1 (after_comma p.1) refl first.1 first.2 first.3 (λ next. below next l) there

  halting_list : (t : List ℕ) (l : ℕ) → Halting t l → BeginsList Is Fits t l
  halting_list t l (front, rest, more, xs, parts, size, are, all) = (front, rest, more, xs, parts, size, list_from item Is Fits spells xs (front ++ more) are, all)

  dash_cases : (c : ℕ) (cs : List ℕ) (l : ℕ) → (c ≡ 45) ⊎ (c ≡ 45 → ⊥) → list_at item (c ∷ cs) ≡ Err (Text l) → BeginsList Is Fits (c ∷ cs) l
  dash_cases c cs l (inl is) e = absurd (let there : ◌≡◌ {A = Result (List A × List ℕ) Stop} (Ok ([], cs)) (Err (Text l)) = sym (cond-true (c == 45) (Ok ([], cs)) (items item 1000 (c ∷ cs)) (eq-eqb c 45 is)) ∙ e in let h : ⊥ = cc in h)
  dash_cases c cs l (inr other) e = halting_list (c ∷ cs) l (items_halt 1000 (c ∷ cs) l (sym (cond-false (c == 45) (Ok ([], cs)) (items item 1000 (c ∷ cs)) (ne_eqb c 45 other)) ∙ e))

  list_halts : (t : List ℕ) (l : ℕ) → list_at item t ≡ Err (Text l) → BeginsList Is Fits t l
  list_halts [] l e = halting_list [] l (items_halt 1000 [] l e)
  list_halts (c ∷ cs) l e = dash_cases c cs l (cases_eq c 45) e

pub path_halts : (t : List ℕ) (l : ℕ) → list_at asn_item t ≡ Err (Text l) → BeginsList IsAsnText AsnFits t l
path_halts = list_halts asn_item IsAsnText AsnFits asn_spells asn_stops (asn_with 0) (48 ∷ []) zero_text (omega arith)

pub pairs_halt : (t : List ℕ) (l : ℕ) → list_at pair_item t ≡ Err (Text l) → BeginsList IsPairText PairFits t l
pairs_halt = list_halts pair_item IsPairText PairFits pair_spells pair_stops (0, 0) (48 ∷ 58 ∷ 48 ∷ []) (48 ∷ [], 48 ∷ [], refl, zero_text, zero_text) (omega arith, omega arith)

pub triples_halt : (t : List ℕ) (l : ℕ) → list_at triple_item t ≡ Err (Text l) → BeginsList IsTripleText TripleFits t l
triples_halt = list_halts triple_item IsTripleText TripleFits triple_spells triple_stops (0, 0, 0) (48 ∷ 58 ∷ 48 ∷ 58 ∷ 48 ∷ []) (48 ∷ [], 48 ∷ [], 48 ∷ [], refl, zero_text, zero_text, zero_text) (omega arith, omega arith, omega arith)
