-- A list is too long where one more item begins behind 1,000 items.
use Rattle.std.proofs.Common.{◌≡◌, ℕ, zero, suc, ◌⊎◌, inl, inr, Bool, true, false, not, ◌==◌, List, [], ◌∷◌, ◌++◌, length, Option, Some, None, Result, Ok, Err, refl, sym, ap, ◌∙◌, arith, append_assoc, ne_eqb, eq-eqb}
use Rattle.std.specs.List.{AllByRecursion}
use Rattle.std.proofs.lemmas.Bool.{cond-true, cond-false, cases_eq}
use Rattle.ixp_num.specs.Forms.{IsDecimal}
use Rattle.ixp_num.specs.declared.asn.Asn.{Asn}
use Rattle.ixp_lang.specs.declared.reading.fault.Stop.{Stop}
use Rattle.ixp_lang.specs.declared.reading.fault.Stop.TheVariants.{TooLong}
use Rattle.ixp_lang.specs.RouteReading.{texted, asn_item, pair_item, triple_item, items, list_at, begins, one_too_many, after_comma, after_item}
use Rattle.ixp_lang.specs.RouteTexts.{IsMoreText, IsAsnText, IsPairText, IsTripleText, AsnFits, PairFits, TripleFits, IsLongList}
use Rattle.ixp_lang.proofs.RouteItems.{Spells, asn_spells, pair_spells, triple_spells}
use Rattle.ixp_lang.proofs.RouteListTexts.{texted_ok, comma_sound}
use Rattle.ixp_lang.proofs.RouteStops.{BeginsItem, then_cases, passed_on, asn_stops, pair_stops, triple_stops}

texted_long : {A : Type 0} (r : Result A ℕ) (left : ℕ) → texted r ≡ Err (TooLong left) → ⊥
texted_long (Ok a) left e = let h : ⊥ = cc in h
texted_long (Err m) left e = let h : ⊥ = cc in h

too_many : (b : Bool) (t : List ℕ) (left : ℕ) → one_too_many b t ≡ TooLong left → (b ≡ true) × (length t ≡ left)
too_many true t left e = (refl, cc)
too_many false t left e = absurd (let h : ⊥ = cc in h)

module _ {A : Type 0} (item : List ℕ → Result (A × List ℕ) ℕ) (Is : A → List ℕ → Type 0) (Fits : A → Type 0) (spells : Spells item Is Fits)
    (stops : (t : List ℕ) (l : ℕ) → item t ≡ Err l → BeginsItem Is Fits t l) (some : (x : A) → Is x [] → ⊥) where
  -- the first byte is that of an item
  abbrev FirstByte : List ℕ → Type 0
  FirstByte t = (c : ℕ) × (cs more : List ℕ) × (x : A) × (t ≡ c ∷ cs) × Is x (c ∷ more) × Fits x

  first_of : (front more rest t : List ℕ) (x : A) → t ≡ front ++ rest → Is x (front ++ more) → Fits x → (front ≡ [] → ⊥) → FirstByte t
  first_of [] more rest t x parts is fits full = absurd (full refl)
  first_of (c ∷ cs) more rest t x parts is fits full = (c, cs ++ rest, cs ++ more, x, parts, is, fits)

  first_text : (s rest t : List ℕ) (x : A) → t ≡ s ++ rest → Is x s → Fits x → FirstByte t
  first_text [] rest t x parts is fits = absurd (some x is)
  first_text (c ∷ cs) rest t x parts is fits = (c, cs ++ rest, cs, x, parts, is, fits)

  other_place : (m : ℕ) (t : List ℕ) → (m ≡ length t) ⊎ (m ≡ length t → ⊥) → not (m == length t) ≡ true → m ≡ length t → ⊥
  other_place m t (inl same) e is = let there : ◌≡◌ {A = Bool} false true = ap not (sym (eq-eqb m (length t) same)) ∙ e in let h : ⊥ = cc in h
  other_place m t (inr other) e is = other is

  first_byte : (r : Result (A × List ℕ) ℕ) (t : List ℕ) → item t ≡ r → begins t r ≡ true → FirstByte t
  first_byte (Ok p) t read e = let here = spells.sound t p read in first_text here.0 p.1 t p.0 here.1 here.2 here.3
  first_byte (Err m) t read e = begun (stops t m read) where
    begun : BeginsItem Is Fits t m → FirstByte t
    begun (front, rest, more, x, parts, size, is, fits) = first_of front more rest t x parts is fits full where
      full : front ≡ [] → ⊥
      full none =
          let all : t ≡ rest = parts ∙ ap (λ f. f ++ rest) none in
          other_place m t (cases_eq m (length t)) e (sym size ∙ sym (ap length all))

  -- items, each with a comma behind it
  abbrev IsBefore : List A → List ℕ → Type 0
  IsBefore [] t = t ≡ []
  IsBefore (x ∷ xs) t = (front rest : List ℕ) × (t ≡ front ++ 44 ∷ rest) × Is x front × IsBefore xs rest

  abbrev LongAt : ℕ → List ℕ → ℕ → Type 0
  LongAt room t left = (front rest : List ℕ) × (xs : List A) × (t ≡ front ++ rest) × (length rest ≡ left) × IsBefore xs front × AllByRecursion Fits xs × (length xs ≡ room) × FirstByte rest

  comma_long : (room : ℕ) (t : List ℕ) (left : ℕ) (x : A) (s rest : List ℕ) (o : Option (List ℕ)) → after_comma rest ≡ o → t ≡ s ++ rest → Is x s → Fits x
      → ((next : List ℕ) → items item room next ≡ Err (TooLong left) → LongAt room next left) → after_item (items item room) x rest o ≡ Err (TooLong left) → LongAt (suc room) t left
  comma_long room t left x s rest None comma parts is fits below e = absurd (let h : ⊥ = cc in h)
  comma_long room t left x s rest (Some next) comma parts is fits below e = with_item (below next (passed_on (items item room next) (λ q. (x ∷ q.0, q.1)) (TooLong left) e)) where
    with_item : LongAt room next left → LongAt (suc room) t left
    with_item (front, back, xs, whole, size, are, all, many, first) = (
      s ++ 44 ∷ front,
      back,
      x ∷ xs,
      parts ∙ (ap (λ r. s ++ r) (comma_sound rest next comma ∙ ap (λ r. 44 ∷ r) whole) ∙ sym (append_assoc s (44 ∷ front) back)),
      size,
      (s, front, refl, is, are),
      (fits, all),
      ap suc many,
      first,
    )

  item_long : (room : ℕ) (t : List ℕ) (left : ℕ) → ((next : List ℕ) → items item room next ≡ Err (TooLong left) → LongAt room next left)
      → (texted (item t) ≡ Err (TooLong left)) ⊎ ((p : A × List ℕ) × (texted (item t) ≡ Ok p) × (after_item (items item room) p.0 p.1 (after_comma p.1) ≡ Err (TooLong left))) → LongAt (suc room) t left
  item_long room t left below (inl e) = absurd (texted_long (item t) left e)
  item_long room t left below (inr (p, read, e)) =
      let first = spells.sound t p (texted_ok (item t) p read) in
      comma_long room t left p.0 first.0 p.1 (after_comma p.1) refl first.1 first.2 first.3 below e

  items_long : (room : ℕ) (t : List ℕ) (left : ℕ) → items item room t ≡ Err (TooLong left) → LongAt room t left
  unfolding items
  items_long zero t left e =
      let there : one_too_many (begins t (item t)) t ≡ TooLong left = cc in
      let one = too_many (begins t (item t)) t left there in
      ([], t, [], refl, one.1, refl, tt, refl, first_byte (item t) t refl one.0)
  items_long (suc room) t left e =
      item_long room t left (λ next. items_long room next left) (then_cases (texted (item t)) (λ p. after_item (items item room) p.0 p.1 (after_comma p.1)) (TooLong left) e)

  -- the last comma is behind a list

  before_more : (xs : List A) (f : List ℕ) → IsBefore xs f → (m : List ℕ) × (44 ∷ f ≡ m ++ 44 ∷ []) × IsMoreText Is xs m
  before_more [] f is = ([], ap (λ f. 44 ∷ f) is, refl)
  before_more (x ∷ xs) f (front, rest, parts, is, before) =
      let more = before_more xs rest before in
      (44 ∷ (front ++ more.0), ap (λ f. 44 ∷ f) (parts ∙ (ap (λ r. front ++ r) more.1 ∙ sym (append_assoc front more.0 (44 ∷ [])))), (front, more.0, refl, is, more.2))

  long_list : (t : List ℕ) (left : ℕ) → LongAt 1000 t left → IsLongList Is Fits t left
  long_list t left (front, rest, [], parts, size, before, all, many, first) = absurd (omega (arith, many))
  long_list t left (front, rest, x ∷ xs, parts, size, (i, r, here, is, before), all, many, first) =
      let more = before_more xs r before in
      let whole : t ≡ (i ++ more.0) ++ 44 ∷ rest =
      parts ∙ (ap (λ f. f ++ rest) (here ∙ (ap (λ r. i ++ r) more.1 ∙ sym (append_assoc i more.0 (44 ∷ [])))) ∙ append_assoc (i ++ more.0) (44 ∷ []) rest) in
      (i ++ more.0, rest, x ∷ xs, whole, size, (i, more.0, refl, is, more.2), all, many, first.0, first.1, first.2, first.3, first.4, first.5, first.6)

  dash_long : (c : ℕ) (cs : List ℕ) (left : ℕ) → (c ≡ 45) ⊎ (c ≡ 45 → ⊥) → list_at item (c ∷ cs) ≡ Err (TooLong left) → IsLongList Is Fits (c ∷ cs) left
  dash_long c cs left (inl is) e = absurd (let there : ◌≡◌ {A = Result (List A × List ℕ) Stop} (Ok ([], cs)) (Err (TooLong left)) = sym (cond-true (c == 45) (Ok ([], cs)) (items item 1000 (c ∷ cs)) (eq-eqb c 45 is)) ∙ e in let h : ⊥ = cc in h)
  dash_long c cs left (inr other) e = long_list (c ∷ cs) left (items_long 1000 (c ∷ cs) left (sym (cond-false (c == 45) (Ok ([], cs)) (items item 1000 (c ∷ cs)) (ne_eqb c 45 other)) ∙ e))

  list_long : (t : List ℕ) (left : ℕ) → list_at item t ≡ Err (TooLong left) → IsLongList Is Fits t left
  list_long [] left e = long_list [] left (items_long 1000 [] left e)
  list_long (c ∷ cs) left e = dash_long c cs left (cases_eq c 45) e

asn_some : (x : Asn) → IsAsnText x [] → ⊥
asn_some x is = is

no_colon : (a b : List ℕ) (n : ℕ) → IsDecimal a n → [] ≡ a ++ 58 ∷ b → ⊥
no_colon [] b n is e = is
no_colon (c ∷ cs) b n is e = let h : ⊥ = cc in h

pair_some : (x : ℕ × ℕ) → IsPairText x [] → ⊥
pair_some x (a, b, e, da, db) = no_colon a b x.0 da e

triple_some : (x : ℕ × ℕ × ℕ) → IsTripleText x [] → ⊥
triple_some x (a, b, c, e, da, db, dc) = no_colon a (b ++ 58 ∷ c) x.0 da e

pub long_path : (t : List ℕ) (left : ℕ) → list_at asn_item t ≡ Err (TooLong left) → IsLongList IsAsnText AsnFits t left
long_path = list_long asn_item IsAsnText AsnFits asn_spells asn_stops asn_some

pub long_pairs : (t : List ℕ) (left : ℕ) → list_at pair_item t ≡ Err (TooLong left) → IsLongList IsPairText PairFits t left
long_pairs = list_long pair_item IsPairText PairFits pair_spells pair_stops pair_some

pub long_triples : (t : List ℕ) (left : ℕ) → list_at triple_item t ≡ Err (TooLong left) → IsLongList IsTripleText TripleFits t left
long_triples = list_long triple_item IsTripleText TripleFits triple_spells triple_stops triple_some
