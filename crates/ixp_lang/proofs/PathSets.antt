-- A path that halts at `{` has a set there.
use Rattle.std.proofs.Common.{◌≡◌, ◌≢◌, ℕ, zero, suc, ◌-◌, ◌⊎◌, inl, inr, Bool, true, false, cond, ◌==◌, List, [], ◌∷◌, ◌++◌, length, Option, Some, None, Result, Ok, Err, refl, sym, ap, ◌∙◌, subst, arith, ne_eqb, eq-eqb}
use Rattle.std.specs.List.{slice_get}
use Rattle.std.proofs.lemmas.Bool.{cond-true, cond-false, cases_eq, cases_Bool}
use Rattle.ixp_num.specs.declared.asn.Asn.{Asn}
use Rattle.ixp_num.specs.Forms.{IsDecimal, StopsAt}
use Rattle.ixp_num.specs.Reading.{mark_at}
use Rattle.ixp_lang.specs.declared.reading.fault.Stop.{Stop}
use Rattle.ixp_lang.specs.declared.reading.fault.Stop.TheVariants.{Text, Set, TooLong, NoMemory}
use Rattle.ixp_lang.specs.RouteReading.{◌then◌, texted, after_blank, asn_item, items, list_at, begins, one_too_many, after_comma, after_item, is_brace, path_field, path_at}
use Rattle.ixp_lang.specs.RouteTexts.{IsAsnText, AsnFits, IsBoundedList, IsFieldText, HaltsAt}
use Rattle.ixp_lang.proofs.RouteStops.{then_cases, passed_on}
use Rattle.ixp_lang.proofs.ListDeadEnds.{path_field_halts_at}

abbrev IsPathField : List ℕ → Type 0
IsPathField = IsFieldText (IsBoundedList IsAsnText AsnFits)

-- no list of items is a set

texted_set : {A : Type 0} (r : Result A ℕ) (left : ℕ) → texted r ≡ Err (Set left) → ⊥
texted_set (Ok a) left e = let h : ⊥ = cc in h
texted_set (Err m) left e = let h : ⊥ = cc in h

many_set : (b : Bool) (t : List ℕ) (left : ℕ) → one_too_many b t ≡ Set left → ⊥
many_set true t left e = let h : ⊥ = cc in h
many_set false t left e = let h : ⊥ = cc in h

module _ {A : Type 0} (item : List ℕ → Result (A × List ℕ) ℕ) where
  comma_set : (room : ℕ) (x : A) (rest : List ℕ) (left : ℕ) (o : Option (List ℕ)) → ((next : List ℕ) → items item room next ≡ Err (Set left) → ⊥) → after_item (items item room) x rest o ≡ Err (Set left) → ⊥
  comma_set room x rest left None below e = let h : ⊥ = cc in h
  comma_set room x rest left (Some next) below e = below next (passed_on (items item room next) (λ q. (x ∷ q.0, q.1)) (Set left) e)

  item_set : (room : ℕ) (t : List ℕ) (left : ℕ) → ((next : List ℕ) → items item room next ≡ Err (Set left) → ⊥)
      → (texted (item t) ≡ Err (Set left)) ⊎ ((p : A × List ℕ) × (texted (item t) ≡ Ok p) × (after_item (items item room) p.0 p.1 (after_comma p.1) ≡ Err (Set left))) → ⊥
  item_set room t left below (inl e) = texted_set (item t) left e
  item_set room t left below (inr (p, read, e)) = comma_set room p.0 p.1 left (after_comma p.1) below e

  items_set : (room : ℕ) (t : List ℕ) (left : ℕ) → items item room t ≡ Err (Set left) → ⊥
  unfolding items
  items_set zero t left e = let there : one_too_many (begins t (item t)) t ≡ Set left = cc in many_set (begins t (item t)) t left there
  items_set (suc room) t left e = item_set room t left (λ next. items_set room next left) (then_cases (texted (item t)) (λ p. after_item (items item room) p.0 p.1 (after_comma p.1)) (Set left) e)

  dash_set : (c : ℕ) (cs : List ℕ) (left : ℕ) → (c ≡ 45) ⊎ (c ≡ 45 → ⊥) → list_at item (c ∷ cs) ≡ Err (Set left) → ⊥
  dash_set c cs left (inl is) e = let there : ◌≡◌ {A = Result (List A × List ℕ) Stop} (Ok ([], cs)) (Err (Set left)) = sym (cond-true (c == 45) (Ok ([], cs)) (items item 1000 (c ∷ cs)) (eq-eqb c 45 is)) ∙ e in let h : ⊥ = cc in h
  dash_set c cs left (inr other) e = items_set 1000 (c ∷ cs) left (sym (cond-false (c == 45) (Ok ([], cs)) (items item 1000 (c ∷ cs)) (ne_eqb c 45 other)) ∙ e)

  list_set : (t : List ℕ) (left : ℕ) → list_at item t ≡ Err (Set left) → ⊥
  list_set [] left e = items_set 1000 [] left e
  list_set (c ∷ cs) left e = dash_set c cs left (cases_eq c 45) e

-- a path and a blank

abbrev path_next : List Asn × List ℕ → Result (List Asn × List ℕ) Stop
path_next p = after_blank p.1 then λ rest. Ok (p.0, rest)

abbrev path_read : List ℕ → Result (List Asn × List ℕ) Stop
path_read t = list_at asn_item t then path_next

read_cases : (t : List ℕ) (s : Stop) → path_read t ≡ Err s → (list_at asn_item t ≡ Err s) ⊎ ((q : List Asn × List ℕ) × (list_at asn_item t ≡ Ok q) × (after_blank q.1 ≡ Err s))
read_cases t s e = split (then_cases (list_at asn_item t) path_next s e) where
  split : (list_at asn_item t ≡ Err s) ⊎ ((q : List Asn × List ℕ) × (list_at asn_item t ≡ Ok q) × (path_next q ≡ Err s))
      → (list_at asn_item t ≡ Err s) ⊎ ((q : List Asn × List ℕ) × (list_at asn_item t ≡ Ok q) × (after_blank q.1 ≡ Err s))
  split (inl h) = inl h
  split (inr (q, read, h)) = inr (q, read, passed_on (after_blank q.1) (λ rest. (q.0, rest)) s h)

joined : (t : List ℕ) (s : Stop) → (list_at asn_item t ≡ Err s) ⊎ ((q : List Asn × List ℕ) × (list_at asn_item t ≡ Ok q) × (after_blank q.1 ≡ Err s)) → (list_at asn_item t then λ p. after_blank p.1) ≡ Err s
joined t s (inl h) = ap (λ r. r then λ p. after_blank p.1) h
joined t s (inr (q, read, h)) = ap (λ r. r then λ p. after_blank p.1) read ∙ h

no_set : (t : List ℕ) (left : ℕ) → (list_at asn_item t ≡ Err (Set left)) ⊎ ((q : List Asn × List ℕ) × (list_at asn_item t ≡ Ok q) × (after_blank q.1 ≡ Err (Set left))) → ⊥
no_set t left (inl h) = list_set asn_item t left h
no_set t left (inr (q, read, h)) = texted_set (mark_at 32 q.1) left h

halts : (t : List ℕ) (left : ℕ) → path_read t ≡ Err (Text left) → HaltsAt IsPathField 4294967295 t (length t - left)
halts t left e = path_field_halts_at t left (joined t (Text left) (read_cases t (Text left) e))

-- whether the byte is a brace

brace_true : (o : Option ℕ) → is_brace o ≡ true → o ≡ Some 123
brace_true None e = absurd (let h : ⊥ = cc in h)
brace_true (Some c) e = same (cases_eq c 123) where
  same : (c ≡ 123) ⊎ (c ≡ 123 → ⊥) → Some c ≡ Some 123
  same (inl is) = ap Some is
  same (inr other) = absurd (let there : ◌≡◌ {A = Bool} false true = sym (ne_eqb c 123 other) ∙ e in let h : ⊥ = cc in h)

brace_false : (o : Option ℕ) → is_brace o ≡ false → o ≢ Some 123
brace_false o e is = let there : ◌≡◌ {A = Bool} true false = sym (ap is_brace is) ∙ e in let h : ⊥ = cc in h

byte_at : (front rest : List ℕ) (c : ℕ) → slice_get (front ++ c ∷ rest) (length front) ≡ Some c
byte_at [] rest c = refl
byte_at (d ∷ ds) rest c = byte_at ds rest c

digit_no_brace : (number rest front t : List ℕ) (n place : ℕ) → IsDecimal number n → t ≡ front ++ (number ++ rest) → length front ≡ place → slice_get t place ≡ Some 123 → ⊥
digit_no_brace [] rest front t n place is parts here e = is
digit_no_brace (c ∷ cs) rest front t n place is parts here e =
    let there : slice_get t place ≡ Some c = ap (slice_get t) (sym here) ∙ (ap (λ t. slice_get t (length front)) parts ∙ byte_at front (cs ++ rest) c) in
    let same : ◌≡◌ {A = Option ℕ} (Some c) (Some 123) = sym there ∙ e in
    let byte : c ≡ 123 = cc in
    let digit = is.0 in
    omega arith

stops_there : (t : List ℕ) (place : ℕ) → slice_get t place ≡ Some 123 → HaltsAt IsPathField 4294967295 t place → StopsAt IsPathField t place
stops_there t place brace (inl stops) = stops
stops_there t place brace (inr x) = absurd (digit_no_brace x.number x.rest x.front t x.value place x.is_number x.whole x.here brace)

-- a stop, told as one of a path

abbrev braced : List ℕ → ℕ → Bool
braced t left = is_brace (slice_get t (length t - left))

set_from : (t : List ℕ) (m left : ℕ) → (braced t m ≡ true) ⊎ (braced t m ≡ false) → cond (braced t m) (Set m) (Text m) ≡ Set left → (m ≡ left) × (braced t m ≡ true)
set_from t m left (inl yes') e = (let there : Set m ≡ Set left = ap (λ b. cond b (Set m) (Text m)) (sym yes') ∙ e in cc, yes')
set_from t m left (inr no') e = absurd (let there : Text m ≡ Set left = ap (λ b. cond b (Set m) (Text m)) (sym no') ∙ e in let h : ⊥ = cc in h)

text_from : (t : List ℕ) (m left : ℕ) → (braced t m ≡ true) ⊎ (braced t m ≡ false) → cond (braced t m) (Set m) (Text m) ≡ Text left → (m ≡ left) × (braced t m ≡ false)
text_from t m left (inl yes') e = absurd (let there : Set m ≡ Text left = ap (λ b. cond b (Set m) (Text m)) (sym yes') ∙ e in let h : ⊥ = cc in h)
text_from t m left (inr no') e = (let there : Text m ≡ Text left = ap (λ b. cond b (Set m) (Text m)) (sym no') ∙ e in cc, no')

abbrev SetAt : List ℕ → ℕ → Type 0
SetAt t left = StopsAt IsPathField t (length t - left) × (slice_get t (length t - left) ≡ Some 123)

set_cases : (t : List ℕ) (left : ℕ) (r : Result (List Asn × List ℕ) Stop) → path_read t ≡ r → path_field t r ≡ Err (Set left) → SetAt t left
set_cases t left (Ok p) read e = absurd (let h : ⊥ = cc in h)
set_cases t left (Err (Text m)) read e =
    let there : cond (braced t m) (Set m) (Text m) ≡ Set left = cc in
    let brace = set_from t m left (cases_Bool (braced t m)) there in
    let here = brace_true (slice_get t (length t - m)) brace.1 in
    subst (SetAt t) brace.0 (stops_there t (length t - m) here (halts t m read), here)
set_cases t left (Err (Set m)) read e = absurd (no_set t m (read_cases t (Set m) read))
set_cases t left (Err (TooLong m)) read e = absurd (let h : ⊥ = cc in h)
set_cases t left (Err NoMemory) read e = absurd (let h : ⊥ = cc in h)

pub set_stops : (t : List ℕ) (left : ℕ) → path_at t ≡ Err (Set left) → SetAt t left
set_stops t left e = set_cases t left (path_read t) refl e

abbrev TextAt : List ℕ → ℕ → Type 0
TextAt t left = HaltsAt IsPathField 4294967295 t (length t - left) × (slice_get t (length t - left) ≢ Some 123)

text_cases : (t : List ℕ) (left : ℕ) (r : Result (List Asn × List ℕ) Stop) → path_read t ≡ r → path_field t r ≡ Err (Text left) → TextAt t left
text_cases t left (Ok p) read e = absurd (let h : ⊥ = cc in h)
text_cases t left (Err (Text m)) read e =
    let there : cond (braced t m) (Set m) (Text m) ≡ Text left = cc in
    let other = text_from t m left (cases_Bool (braced t m)) there in
    subst (TextAt t) other.0 (halts t m read, brace_false (slice_get t (length t - m)) other.1)
text_cases t left (Err (Set m)) read e = absurd (let h : ⊥ = cc in h)
text_cases t left (Err (TooLong m)) read e = absurd (let h : ⊥ = cc in h)
text_cases t left (Err NoMemory) read e = absurd (let h : ⊥ = cc in h)

pub text_halts : (t : List ℕ) (left : ℕ) → path_at t ≡ Err (Text left) → TextAt t left
text_halts t left e = text_cases t left (path_read t) refl e
