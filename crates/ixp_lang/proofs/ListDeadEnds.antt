-- No list goes on where the reading of one halts.
use Rattle.std.proofs.Common.{◌≡◌, ℕ, zero, suc, ◌+◌, ◌-◌, ◌⊎◌, inl, inr, not, ◌==◌, List, [], ◌∷◌, ◌++◌, length, Option, Some, None, Result, Ok, Err, refl, sym, ap, ◌∙◌, subst, arith, append_assoc, append-nil, length-append, ne_eqb, eq-eqb}
use Rattle.std.specs.List.{AllByRecursion}
use Rattle.std.proofs.lemmas.Bool.{cond-true, cond-false, cases_eq}
use Rattle.ixp_num.specs.Forms.{IsDigit, Begins}
use Rattle.ixp_num.proofs.Digits.{Ends, mark_split, mark_again}
use Rattle.ixp_num.proofs.Stops.{Stuck, stops_at}
use Rattle.ixp_lang.specs.declared.reading.fault.Stop.{Stop}
use Rattle.ixp_lang.specs.declared.reading.fault.Stop.TheVariants.{Text, Set, TooLong, NoMemory}
use Rattle.ixp_num.specs.Reading.{mark_at}
use Rattle.ixp_lang.specs.RouteReading.{◌then◌, texted, after_blank, at_end, asn_item, pair_item, triple_item, items, list_at, begins, one_too_many, after_comma, after_item}
use Rattle.ixp_lang.specs.RouteTexts.{IsMoreText, IsListText, IsAsnText, IsPairText, IsTripleText, AsnFits, PairFits, TripleFits, BeginsList, IsBoundedList, IsFieldText, HaltsAt}
use Rattle.ixp_lang.proofs.RouteItems.{Spells, asn_spells, pair_spells, triple_spells, asn_no_dash, pair_no_dash, triple_no_dash}
use Rattle.ixp_lang.proofs.RouteStops.{then_cases, passed_on, texted_err, too_many_text, mark_stops, path_halts, pairs_halt, triples_halt}
use Rattle.ixp_lang.proofs.RouteListTexts.{then_ok, texted_ok, comma_sound, comma_missing, list_sound}
use Rattle.ixp_lang.proofs.DeadEnds.{Blocked, SameHead, heads, heads_behind, carry, weaken, GoesOn, asn_blocked, pair_blocked, triple_blocked, asn_goes, pair_goes, triple_goes}

-- where no more items may come, and none begins
none_begins : {A : Type 0} (r : Result (A × List ℕ) ℕ) (t : List ℕ) → r ≡ Err (length t) → ◌≡◌ {A = Result (List A × List ℕ) Stop} (Err (one_too_many (begins t r) t)) (Err (Text (length t)))
none_begins r t e = ap (λ r. Err (one_too_many (begins t r) t)) e ∙ ap (λ b. Err (one_too_many (not b) t)) (eq-eqb (length t) (length t) refl)

begins_none : (t : List ℕ) (m left : ℕ) → (m ≡ length t) ⊎ (m ≡ length t → ⊥) → one_too_many (not (m == length t)) t ≡ Text left → m ≡ length t
begins_none t m left (inl same) e = same
begins_none t m left (inr other) e = absurd (let there : TooLong (length t) ≡ Text left = ap (λ b. one_too_many (not b) t) (sym (ne_eqb m (length t) other)) ∙ e in let h : ⊥ = cc in h)

none_begun : {A : Type 0} (r : Result (A × List ℕ) ℕ) (t : List ℕ) (left : ℕ) → one_too_many (begins t r) t ≡ Text left → r ≡ Err (length t)
none_begun (Ok p) t left e = absurd (let h : ⊥ = cc in h)
none_begun (Err m) t left e = ap Err (begins_none t m left (cases_eq m (length t)) e)

comma_ends : (rest : List ℕ) → Ends IsDigit (44 ∷ rest)
comma_ends rest d = omega arith

no_front : (front rest t : List ℕ) → t ≡ front ++ rest → length rest ≡ length t → front ≡ []
no_front [] rest t e size = refl
no_front (c ∷ cs) rest t e size = absurd (let all : length t ≡ suc (length cs + length rest) = ap length e ∙ ap suc (length-append cs rest) in omega arith)

same_front : (a b r s : List ℕ) → a ++ r ≡ b ++ s → length r ≡ length s → a ≡ b
same_front [] b r s e size = sym (no_front b s r e (sym size))
same_front (c ∷ cs) [] r s e size = no_front (c ∷ cs) r s (sym e) size
same_front (c ∷ cs) (d ∷ ds) r s e size =
    let heads : c ≡ d = cc in
    let tails : cs ++ r ≡ ds ++ s = cc in
    ap (λ x. x ∷ cs) heads ∙ ap (λ x. d ∷ x) (same_front cs ds r s tails size)

same_ends : (t s : List ℕ) → SameHead t s → Ends (λ c. c ≡ 45) t → Ends (λ c. c ≡ 45) s
same_ends t s (c, cs, ds, one, two) ends =
    let here : Ends (λ c. c ≡ 45) (c ∷ cs) = subst (Ends (λ c. c ≡ 45)) one ends in
    let there : Ends (λ c. c ≡ 45) (c ∷ ds) = here in
    subst (Ends (λ c. c ≡ 45)) (sym two) there

comma_step : (c : ℕ) (cs ds : List ℕ) → (c ≡ 44) ⊎ (c ≡ 44 → ⊥) → after_comma (c ∷ cs) ≡ None → after_comma (c ∷ ds) ≡ None
comma_step c cs ds (inl is) e = absurd (let there : ◌≡◌ {A = Option (List ℕ)} (Some cs) None = sym (cond-true (c == 44) (Some cs) None (eq-eqb c 44 is)) ∙ e in let h : ⊥ = cc in h)
comma_step c cs ds (inr other) e = cond-false (c == 44) (Some ds) None (ne_eqb c 44 other)

same_comma : (r s : List ℕ) → SameHead r s → after_comma r ≡ None → after_comma s ≡ None
same_comma r s (c, cs, ds, one, two) e = ap after_comma two ∙ comma_step c cs ds (cases_eq c 44) (ap after_comma (sym one) ∙ e)

-- what reading a list and a tail may give
abbrev pub Lawful : {A : Type 0} → List ℕ → Result (List A × List ℕ) Stop → Type 0
Lawful tail (Ok q) = q.1 ≡ tail
Lawful tail (Err (Text left)) = ⊥
Lawful tail (Err (Set left)) = Unit {0}
Lawful tail (Err (TooLong left)) = Unit {0}
Lawful tail (Err NoMemory) = Unit {0}

lawful_more : {A : Type 0} (x : A) (tail : List ℕ) (r : Result (List A × List ℕ) Stop) → Lawful tail r → Lawful tail (r then λ q. Ok (x ∷ q.0, q.1))
lawful_more x tail (Ok q) h = h
lawful_more x tail (Err (Text left)) h = h
lawful_more x tail (Err (Set left)) h = h
lawful_more x tail (Err (TooLong left)) h = h
lawful_more x tail (Err NoMemory) h = h

-- what may stand behind a list
abbrev pub Follows : List ℕ → Type 0
Follows rest = Ends IsDigit rest × Ends (λ c. c ≡ 44) rest

module _ {A : Type 0} (item : List ℕ → Result (A × List ℕ) ℕ) (Is : A → List ℕ → Type 0) (Fits : A → Type 0) (spells : Spells item Is Fits) (bound : ℕ)
    (blocked : (t : List ℕ) (left : ℕ) → item t ≡ Err left → Blocked (λ t l. item t ≡ Err l) bound t left)
    (goes : (t : List ℕ) (y : A × List ℕ) → item t ≡ Ok y → GoesOn item t y)
    (no_dash : (x : A) (s rest : List ℕ) → Is x s → Ends (λ c. c ≡ 45) (s ++ rest))
    (halting : (t : List ℕ) (left : ℕ) → list_at item t ≡ Err (Text left) → BeginsList Is Fits t left) where
  abbrev ItemHalts : List ℕ → ℕ → Type 0
  ItemHalts t left = item t ≡ Err left

  abbrev Halts : ℕ → List ℕ → ℕ → Type 0
  Halts room t left = items item room t ≡ Err (Text left)

  -- how items are read

  items_zero : (t : List ℕ) → item t ≡ Err (length t) → Halts 0 t (length t)
  unfolding items
  items_zero t e = none_begins (item t) t e

  zero_items : (t : List ℕ) (left : ℕ) → Halts 0 t left → (item t ≡ Err (length t)) × (length t ≡ left)
  unfolding items
  zero_items t left e =
      let there : one_too_many (begins t (item t)) t ≡ Text left = cc in
      (none_begun (item t) t left there, too_many_text (begins t (item t)) t left there)

  no_item : (room : ℕ) (t : List ℕ) (left : ℕ) → item t ≡ Err left → Halts (suc room) t left
  unfolding items
  no_item room t left e = ap (λ r. texted r then λ p. after_item (items item room) p.0 p.1 (after_comma p.1)) e

  next_item : (room : ℕ) (x : A) (s next : List ℕ) (left : ℕ) → Is x s → Fits x → Halts room next left → Halts (suc room) (s ++ 44 ∷ next) left
  unfolding items
  next_item room x s next left is fits e =
      ap (λ r. texted r then λ p. after_item (items item room) p.0 p.1 (after_comma p.1)) (spells.again x s (44 ∷ next) is fits (comma_ends next))
      ∙ ap (λ r. r then λ q. Ok (x ∷ q.0, q.1)) e

  -- no item, or one that was read with more behind a comma
  abbrev ItemCases : ℕ → List ℕ → ℕ → Type 0
  ItemCases room t left = (item t ≡ Err left) ⊎ ((x : A) × (rest : List ℕ) × (item t ≡ Ok (x, rest)) × (after_item (items item room) x rest (after_comma rest) ≡ Err (Text left)))

  split_item : (room : ℕ) (t : List ℕ) (left : ℕ)
      → (texted (item t) ≡ Err (Text left)) ⊎ ((p : A × List ℕ) × (texted (item t) ≡ Ok p) × (after_item (items item room) p.0 p.1 (after_comma p.1) ≡ Err (Text left))) → ItemCases room t left
  split_item room t left (inl e) = inl (texted_err (item t) left e)
  split_item room t left (inr (p, read, e)) = inr (p.0, p.1, texted_ok (item t) p read, e)

  item_cases : (room : ℕ) (t : List ℕ) (left : ℕ) → Halts (suc room) t left → ItemCases room t left
  unfolding items
  item_cases room t left e = split_item room t left (then_cases (texted (item t)) (λ p. after_item (items item room) p.0 p.1 (after_comma p.1)) (Text left) e)

  comma_cases : (room : ℕ) (x : A) (rest : List ℕ) (left : ℕ) (o : Option (List ℕ)) → after_comma rest ≡ o → after_item (items item room) x rest o ≡ Err (Text left) → (next : List ℕ) × (rest ≡ 44 ∷ next) × Halts room next left
  comma_cases room x rest left None comma e = absurd (let h : ⊥ = cc in h)
  comma_cases room x rest left (Some next) comma e = (next, comma_sound rest next comma, passed_on (items item room next) (λ q. (x ∷ q.0, q.1)) (Text left) e)

  -- what halts a list halts each list that begins so

  zero_blocked : (t : List ℕ) → Blocked ItemHalts bound t (length t) → Blocked (Halts 0) bound t (length t)
  zero_blocked t (front, rest, parts, size, inl none) = (front, rest, parts, size, inl none)
  zero_blocked t (front, rest, parts, size, inr (piece, behind, whole, is, fails)) = (front, rest, parts, size, inr (piece, behind, whole, is, barred)) where
    barred : (more : List ℕ) → Halts 0 (front ++ (piece ++ more)) (length (piece ++ more))
    barred more =
        let none = no_front front rest t parts size in
        let here : item (piece ++ more) ≡ Err (length (piece ++ more)) = ap (λ f. item (f ++ (piece ++ more))) (sym none) ∙ fails more in
        subst (λ f. Halts 0 (f ++ (piece ++ more)) (length (piece ++ more))) (sym none) (items_zero (piece ++ more) here)

  suc_blocked : (room : ℕ) (t : List ℕ) (left : ℕ) → ((next : List ℕ) → Halts room next left → Blocked (Halts room) bound next left) → ItemCases room t left → Blocked (Halts (suc room)) bound t left
  suc_blocked room t left below (inl e) = weaken (Halts (suc room)) ItemHalts bound t left (no_item room) (blocked t left e)
  suc_blocked room t left below (inr (x, rest, read, e)) = carry (Halts (suc room)) (Halts room) bound t (first.0 ++ 44 ∷ []) more.0 left parts on (below more.0 more.2) where
    first : (s : List ℕ) × (t ≡ s ++ rest) × Is x s × Fits x
    first = spells.sound t (x, rest) read

    more : (next : List ℕ) × (rest ≡ 44 ∷ next) × Halts room next left
    more = comma_cases room x rest left (after_comma rest) refl e

    parts : t ≡ (first.0 ++ 44 ∷ []) ++ more.0
    parts = first.1 ∙ (ap (λ r. first.0 ++ r) more.1 ∙ sym (append_assoc first.0 (44 ∷ []) more.0))

    on : (s : List ℕ) (m : ℕ) → SameHead more.0 s → Halts room s m → Halts (suc room) ((first.0 ++ 44 ∷ []) ++ s) m
    on s m same h = subst (λ t. Halts (suc room) t m) (sym (append_assoc first.0 (44 ∷ []) s)) (next_item room x first.0 s m first.2 first.3 h)

  items_blocked : (room : ℕ) (t : List ℕ) (left : ℕ) → Halts room t left → Blocked (Halts room) bound t left
  items_blocked zero t left e =
      let none = zero_items t left e in
      subst (Blocked (Halts 0) bound t) none.1 (zero_blocked t (blocked t (length t) none.0))
  items_blocked (suc room) t left e = suc_blocked room t left (λ next. items_blocked room next left) (item_cases room t left e)

  dash_cases : (c : ℕ) (cs : List ℕ) (r : Result (List A × List ℕ) Stop) → (c ≡ 45) ⊎ (c ≡ 45 → ⊥) → list_at item (c ∷ cs) ≡ r → (r ≡ Ok ([], cs) × (c ≡ 45)) ⊎ (Ends (λ c. c ≡ 45) (c ∷ cs) × (items item 1000 (c ∷ cs) ≡ r))
  dash_cases c cs r (inl is) e = inl (sym e ∙ cond-true (c == 45) (Ok ([], cs)) (items item 1000 (c ∷ cs)) (eq-eqb c 45 is), is)
  dash_cases c cs r (inr other) e = inr (other, sym (cond-false (c == 45) (Ok ([], cs)) (items item 1000 (c ∷ cs)) (ne_eqb c 45 other)) ∙ e)

  dashless : (t : List ℕ) → Ends (λ c. c ≡ 45) t → list_at item t ≡ items item 1000 t
  dashless [] ends = refl
  dashless (c ∷ cs) ends = cond-false (c == 45) (Ok ([], cs)) (items item 1000 (c ∷ cs)) (ne_eqb c 45 ends)

  abbrev ListHalts : List ℕ → ℕ → Type 0
  ListHalts t left = list_at item t ≡ Err (Text left)

  halts_begun : (c : ℕ) (cs : List ℕ) (left : ℕ)
      → (◌≡◌ {A = Result (List A × List ℕ) Stop} (Err (Text left)) (Ok ([], cs)) × (c ≡ 45)) ⊎ (Ends (λ c. c ≡ 45) (c ∷ cs) × (items item 1000 (c ∷ cs) ≡ Err (Text left)))
      → Ends (λ c. c ≡ 45) (c ∷ cs) × Halts 1000 (c ∷ cs) left
  halts_begun c cs left (inl (e, is)) = absurd (let h : ⊥ = cc in h)
  halts_begun c cs left (inr there) = there

  begun_halts : (t : List ℕ) (left : ℕ) → ListHalts t left → Ends (λ c. c ≡ 45) t × Halts 1000 t left
  begun_halts [] left e = (tt, e)
  begun_halts (c ∷ cs) left e = halts_begun c cs left (dash_cases c cs (Err (Text left)) (cases_eq c 45) e)

  dash_blocked : (t : List ℕ) (left : ℕ) → Ends (λ c. c ≡ 45) t → Blocked (Halts 1000) bound t left → Blocked ListHalts bound t left
  dash_blocked t left ends (front, rest, parts, size, inl none) = (front, rest, parts, size, inl none)
  dash_blocked t left ends (front, rest, parts, size, inr (piece, behind, whole, is, fails)) = (front, rest, parts, size, inr (piece, behind, whole, is, barred)) where
    same : (more : List ℕ) → SameHead t (front ++ (piece ++ more))
    same more = subst (λ x. SameHead x (front ++ (piece ++ more))) (sym (parts ∙ ap (λ x. front ++ x) whole)) (heads bound front piece behind more is)

    barred : (more : List ℕ) → ListHalts (front ++ (piece ++ more)) (length (piece ++ more))
    barred more = dashless (front ++ (piece ++ more)) (same_ends t (front ++ (piece ++ more)) (same more) ends) ∙ fails more

  list_blocked : (t : List ℕ) (left : ℕ) → ListHalts t left → Blocked ListHalts bound t left
  list_blocked t left e = let read = begun_halts t left e in dash_blocked t left read.0 (items_blocked 1000 t left read.1)

  -- a list that was read is read before each text that begins with the same byte

  abbrev ItemsGo : ℕ → List ℕ → List A × List ℕ → Type 0
  ItemsGo room t q = (f : List ℕ) × (t ≡ f ++ q.1) × ((s : List ℕ) → SameHead q.1 s → items item room (f ++ s) ≡ Ok (q.0, s))

  item_then : (room : ℕ) (x : A) (t rest : List ℕ) → item t ≡ Ok (x, rest) → items item (suc room) t ≡ after_item (items item room) x rest (after_comma rest)
  unfolding items
  item_then room x t rest e = ap (λ r. texted r then λ p. after_item (items item room) p.0 p.1 (after_comma p.1)) e

  none_go : (t : List ℕ) (q : List A × List ℕ) → items item 0 t ≡ Ok q → ⊥
  unfolding items
  none_go t q e = let h : ⊥ = cc in h

  some_go : (room : ℕ) (t : List ℕ) (q : List A × List ℕ) → items item (suc room) t ≡ Ok q → (p : A × List ℕ) × (item t ≡ Ok p) × (after_item (items item room) p.0 p.1 (after_comma p.1) ≡ Ok q)
  unfolding items
  some_go room t q e =
      let read = then_ok (texted (item t)) (λ p. after_item (items item room) p.0 p.1 (after_comma p.1)) q e in
      (read.0, texted_ok (item t) read.0 read.1, read.2)

  comma_go : (room : ℕ) (t : List ℕ) (x : A) (rest : List ℕ) (q : List A × List ℕ) (o : Option (List ℕ)) → after_comma rest ≡ o → GoesOn item t (x, rest)
      → ((next : List ℕ) (q : List A × List ℕ) → items item room next ≡ Ok q → ItemsGo room next q) → after_item (items item room) x rest o ≡ Ok q → ItemsGo (suc room) t q
  comma_go room t x rest q None comma (f, parts, again) below e =
      let same : q ≡ (x ∷ [], rest) = cc in
      subst (ItemsGo (suc room) t) (sym same) (f, parts, whole) where
        whole : (s : List ℕ) → SameHead rest s → items item (suc room) (f ++ s) ≡ Ok (x ∷ [], s)
        whole s head = item_then room x (f ++ s) s (again s head) ∙ ap (after_item (items item room) x s) (same_comma rest s head comma)
  comma_go room t x rest q (Some next) comma (f, parts, again) below e = subst (ItemsGo (suc room) t) (sym is) (f ++ 44 ∷ tail.0, there, whole) where
    more : (q' : List A × List ℕ) × (items item room next ≡ Ok q') × (◌≡◌ {A = Result (List A × List ℕ) Stop} (Ok (x ∷ q'.0, q'.1)) (Ok q))
    more = then_ok (items item room next) (λ q. Ok (x ∷ q.0, q.1)) q e

    tail : ItemsGo room next more.0
    tail = below next more.0 more.1

    is : q ≡ (x ∷ more.0.0, more.0.1)
    is = let there = more.2 in cc

    here : rest ≡ 44 ∷ next
    here = comma_sound rest next comma

    there : t ≡ (f ++ 44 ∷ tail.0) ++ more.0.1
    there = parts ∙ (ap (λ r. f ++ r) (here ∙ ap (λ r. 44 ∷ r) tail.1) ∙ sym (append_assoc f (44 ∷ tail.0) more.0.1))

    whole : (s : List ℕ) → SameHead more.0.1 s → items item (suc room) ((f ++ 44 ∷ tail.0) ++ s) ≡ Ok (x ∷ more.0.0, s)
    whole s head =
        ap (items item (suc room)) (append_assoc f (44 ∷ tail.0) s)
        ∙ (item_then room x (f ++ 44 ∷ (tail.0 ++ s)) (44 ∷ (tail.0 ++ s)) (again (44 ∷ (tail.0 ++ s)) (44, next, tail.0 ++ s, here, refl))
        ∙ ap (λ r. r then λ q. Ok (x ∷ q.0, q.1)) (tail.2 s head))

  items_go : (room : ℕ) (t : List ℕ) (q : List A × List ℕ) → items item room t ≡ Ok q → ItemsGo room t q
  items_go zero t q e = absurd (none_go t q e)
  items_go (suc room) t q e =
      let read = some_go room t q e in
      comma_go room t read.0.0 read.0.1 q (after_comma read.0.1) refl (goes t read.0 read.1) (items_go room) read.2

  abbrev ListGoes : List ℕ → List A × List ℕ → Type 0
  ListGoes t q = (f : List ℕ) × (t ≡ f ++ q.1) × ((s : List ℕ) → SameHead q.1 s → list_at item (f ++ s) ≡ Ok (q.0, s))

  dashless_goes : (t : List ℕ) (q : List A × List ℕ) → Ends (λ c. c ≡ 45) t → ItemsGo 1000 t q → ListGoes t q
  dashless_goes t q ends (f, parts, again) = (f, parts, whole) where
    whole : (s : List ℕ) → SameHead q.1 s → list_at item (f ++ s) ≡ Ok (q.0, s)
    whole s head =
        let same : SameHead t (f ++ s) = subst (λ x. SameHead x (f ++ s)) (sym parts) (heads_behind f q.1 s head) in
        dashless (f ++ s) (same_ends t (f ++ s) same ends) ∙ again s head

  begun_goes : (c : ℕ) (cs : List ℕ) (q : List A × List ℕ)
      → (◌≡◌ {A = Result (List A × List ℕ) Stop} (Ok q) (Ok ([], cs)) × (c ≡ 45)) ⊎ (Ends (λ c. c ≡ 45) (c ∷ cs) × (items item 1000 (c ∷ cs) ≡ Ok q)) → ListGoes (c ∷ cs) q
  begun_goes c cs q (inl (e, is)) =
      let same : q ≡ ([], cs) = cc in
      subst (ListGoes (c ∷ cs)) (sym same) (45 ∷ [], ap (λ x. x ∷ cs) is, λ s head. refl)
  begun_goes c cs q (inr (ends, e)) = dashless_goes (c ∷ cs) q ends (items_go 1000 (c ∷ cs) q e)

  list_goes : (t : List ℕ) (q : List A × List ℕ) → list_at item t ≡ Ok q → ListGoes t q
  list_goes [] q e = dashless_goes [] q tt (items_go 1000 [] q e)
  list_goes (c ∷ cs) q e = begun_goes c cs q (dash_cases c cs (Ok q) (cases_eq c 45) e)

  -- the text of a list is read as far as its tail

  more_ends : (xs : List A) (more tail : List ℕ) → IsMoreText Is xs more → Ends IsDigit tail → Ends IsDigit (more ++ tail)
  more_ends [] more tail is ends = subst (λ m. Ends IsDigit (m ++ tail)) (sym is) ends
  more_ends (x ∷ xs) more tail (front, back, e, is, after) ends = subst (λ m. Ends IsDigit (m ++ tail)) (sym e) (comma_ends ((front ++ back) ++ tail))

  zero_lawful : (t rest tail : List ℕ) (x : A) → item t ≡ Ok (x, rest) → Lawful tail (items item 0 t)
  unfolding items
  zero_lawful t rest tail x read = subst (λ r. Lawful {A = A} tail (Err (one_too_many (begins t r) t))) (sym read) tt

  goes_on : (room : ℕ) (x : A) (xs : List A) (front more tail : List ℕ) → Is x front → IsMoreText Is xs more → AllByRecursion Fits (x ∷ xs) → Follows tail → Lawful tail (items item room (front ++ (more ++ tail)))
  goes_on zero x xs front more tail is after fits follows =
      zero_lawful (front ++ (more ++ tail)) (more ++ tail) tail x (spells.again x front (more ++ tail) is fits.0 (more_ends xs more tail after follows.0))
  goes_on (suc room) x [] front more tail is after fits follows =
      let read : items item (suc room) (front ++ (more ++ tail)) ≡ Ok (x ∷ [], tail) =
      item_then room x (front ++ (more ++ tail)) (more ++ tail) (spells.again x front (more ++ tail) is fits.0 (more_ends [] more tail after follows.0))
      ∙ (ap (λ m. after_item (items item room) x (m ++ tail) (after_comma (m ++ tail))) after
      ∙ ap (after_item (items item room) x tail) (comma_missing tail follows.1)) in
      subst (Lawful {A = A} tail) (sym read) refl
  goes_on (suc room) x (y ∷ ys) front more tail is (item2, more2, e2, is2, after2) fits follows =
      let read : items item (suc room) (front ++ (more ++ tail)) ≡ (items item room (item2 ++ (more2 ++ tail)) then λ q. Ok (x ∷ q.0, q.1)) =
      item_then room x (front ++ (more ++ tail)) (more ++ tail) (spells.again x front (more ++ tail) is fits.0 (more_ends (y ∷ ys) more tail (item2, more2, e2, is2, after2) follows.0))
      ∙ (ap (λ m. after_item (items item room) x (m ++ tail) (after_comma (m ++ tail))) e2
      ∙ ap (λ t. items item room t then λ q. Ok (x ∷ q.0, q.1)) (append_assoc item2 more2 tail)) in
      subst (Lawful {A = A} tail) (sym read) (lawful_more x tail (items item room (item2 ++ (more2 ++ tail))) (goes_on room y ys item2 more2 tail is2 after2 fits.1 follows))

  abbrev IsList : List ℕ → Type 0
  IsList = IsBoundedList Is Fits

  list_lawful : (s tail : List ℕ) → IsList s → Follows tail → Lawful tail (list_at item (s ++ tail))
  list_lawful s tail ([], is, fits) follows = subst (λ s. Lawful tail (list_at item (s ++ tail))) (sym is) refl
  list_lawful s tail (x ∷ xs, (front, more, parts, is, after), fits) follows =
      let whole : s ++ tail ≡ front ++ (more ++ tail) = ap (λ s. s ++ tail) parts ∙ append_assoc front more tail in
      subst (λ t. Lawful tail (list_at item t)) (sym whole)
      (subst (Lawful {A = A} tail) (sym (dashless (front ++ (more ++ tail)) (no_dash x front (more ++ tail) is))) (goes_on 1000 x xs front more tail is after fits follows))

  -- a language of lists before tails
  module _ (W T : List ℕ → Type 0) (opened : (w : List ℕ) → W w → (s tail : List ℕ) × (w ≡ s ++ tail) × IsList s × T tail)
      (begun : (s : List ℕ) → IsList s → Begins W s) (follows : (tail : List ℕ) → T tail → Follows tail) where
    text_lawful : (w : List ℕ) → W w → (tail : List ℕ) × T tail × Lawful tail (list_at item w)
    text_lawful w is =
        let parts = opened w is in
        (parts.1, parts.4, subst (λ w. Lawful parts.1 (list_at item w)) (sym parts.2) (list_lawful parts.0 parts.1 parts.3 (follows parts.1 parts.4)))

    no_text : (w : List ℕ) (left : ℕ) → ListHalts w left → W w → ⊥
    no_text w left e is = let read = text_lawful w is in let h : Lawful {A = A} read.0 (Err (Text left)) = subst (Lawful {A = A} read.0) e read.2 in h

    tail_read : (w rest : List ℕ) (xs : List A) → list_at item w ≡ Ok (xs, rest) → W w → T rest
    tail_read w rest xs e is = let read = text_lawful w is in let same : rest ≡ read.0 = subst (Lawful {A = A} read.0) e read.2 in subst T (sym same) read.1

    text_begun : (front rest t : List ℕ) (left : ℕ) → t ≡ front ++ rest → length rest ≡ left → BeginsList Is Fits t left → Begins W front
    text_begun front rest t left parts size (front', rest', more, xs, parts', size', is, fits) =
        let same = same_front front' front rest' rest (sym parts' ∙ parts) (size' ∙ sym size) in
        let list : IsList (front ++ more) = (xs, subst (λ f. IsListText Is xs (f ++ more)) same is, fits) in
        let whole = begun (front ++ more) list in
        (more ++ whole.0, subst W (append_assoc front more whole.0) whole.1)

    -- where the list halts
    halts_at : (t : List ℕ) (left : ℕ) → ListHalts t left → Blocked ListHalts bound t left → HaltsAt W bound t (length t - left)
    halts_at t left e (front, rest, parts, size, inl none) = inl (stops_at W t left stuck (no_text t left e)) where
      stuck : Stuck W t left
      stuck = record {
        front = front;
        rest = rest;
        parts = parts;
        left_is = sym size;
        begins = text_begun front rest t left parts size (halting t left e);
        no_more = λ c y more there. absurd (let h : ⊥ = cc in h);
      }
    halts_at t left e (front, rest, parts, size, inr (piece, behind, whole, inl (c, is), fails)) = inl (stops_at W t left stuck (no_text t left e)) where
      no_more : (d : ℕ) (y more : List ℕ) → rest ≡ d ∷ y → ¬ (W (front ++ d ∷ more))
      no_more d y more there text =
          let first : d ∷ y ≡ c ∷ behind = sym there ∙ (whole ∙ ap (λ p. p ++ behind) is) in
          let same : d ≡ c = cc in
          let here : front ++ d ∷ more ≡ front ++ (piece ++ more) = ap (λ d. front ++ d ∷ more) same ∙ ap (λ p. front ++ (p ++ more)) (sym is) in
          no_text (front ++ (piece ++ more)) (length (piece ++ more)) (fails more) (subst W here text)

      stuck : Stuck W t left
      stuck = record {
        front = front;
        rest = rest;
        parts = parts;
        left_is = sym size;
        begins = text_begun front rest t left parts size (halting t left e);
        no_more = no_more;
      }
    halts_at t left e (front, rest, parts, size, inr (piece, behind, whole, inr (n, spelt, above), fails)) = inr (record {
      front = front;
      number = piece;
      rest = behind;
      value = n;
      whole = parts ∙ ap (λ x. front ++ x) whole;
      here = (let all : length t ≡ length front + length rest = ap length parts ∙ length-append front rest in omega arith);
      is_number = spelt;
      above = above;
      begins = text_begun front rest t left parts size (halting t left e);
      no_more = λ text. no_text (front ++ (piece ++ text.0)) (length (piece ++ text.0)) (fails text.0) (subst W (append_assoc front piece text.0) text.1);
    })

    list_halts_at : (t : List ℕ) (left : ℕ) → ListHalts t left → HaltsAt W bound t (length t - left)
    list_halts_at t left e = halts_at t left e (list_blocked t left e)

    -- where the tail behind a list can't stand
    tail_halts_at : (t : List ℕ) (left : ℕ) (q : List A × List ℕ) → list_at item t ≡ Ok q → left ≡ length q.1 → ¬ (T q.1) → ((c : ℕ) (y more : List ℕ) → q.1 ≡ c ∷ y → ¬ (T (c ∷ more))) → HaltsAt W bound t (length t - left)
    tail_halts_at t left q e size not_tail no_tail = inl (stops_at W t left stuck (λ text. not_tail (tail_read t q.1 q.0 e text))) where
      read : ListGoes t q
      read = list_goes t q e

      starts : Begins W read.0
      starts =
          let list = list_sound item Is Fits spells t q e in
          let same = same_front list.0 read.0 q.1 q.1 (sym list.1 ∙ read.1) refl in
          begun read.0 (subst IsList same (q.0, list.2, list.3))

      no_more : (c : ℕ) (y more : List ℕ) → q.1 ≡ c ∷ y → ¬ (W (read.0 ++ c ∷ more))
      no_more c y more there text = no_tail c y more there (tail_read (read.0 ++ c ∷ more) (c ∷ more) q.0 (read.2 (c ∷ more) (c, y, more, there, refl)) text)

      stuck : Stuck W t left
      stuck = record { front = read.0; rest = q.1; parts = read.1; left_is = size; begins = starts; no_more = no_more }

  -- lists up to the end
  abbrev IsNothing : List ℕ → Type 0
  IsNothing tail = tail ≡ []

  list_opened : (w : List ℕ) → IsList w → (s tail : List ℕ) × (w ≡ s ++ tail) × IsList s × IsNothing tail
  list_opened w is = (w, [], sym (append-nil w), is, refl)

  list_begun : (s : List ℕ) → IsList s → Begins IsList s
  list_begun s is = ([], subst IsList (sym (append-nil s)) is)

  nothing_follows : (tail : List ℕ) → IsNothing tail → Follows tail
  nothing_follows tail e = subst Follows (sym e) (tt, tt)

  pub list_halting : (t : List ℕ) (left : ℕ) → list_at item t ≡ Err (Text left) → HaltsAt (IsBoundedList Is Fits) bound t (length t - left)
  list_halting = list_halts_at IsList IsNothing list_opened list_begun nothing_follows

  end_cases : (t : List ℕ) (left : ℕ) (xs : List A) (rest : List ℕ) → list_at item t ≡ Ok (xs, rest) → at_end rest ≡ Err (Text left) → HaltsAt (IsBoundedList Is Fits) bound t (length t - left)
  end_cases t left xs [] read e = absurd (let h : ⊥ = cc in h)
  end_cases t left xs (c ∷ cs) read e =
      let size : left ≡ length (c ∷ cs) = cc in
      tail_halts_at IsList IsNothing list_opened list_begun nothing_follows t left (xs, c ∷ cs) read size (λ none. let h : ⊥ = cc in h) (λ d y more there none. let h : ⊥ = cc in h)

  last_cases : (t : List ℕ) (left : ℕ) → (list_at item t ≡ Err (Text left)) ⊎ ((q : List A × List ℕ) × (list_at item t ≡ Ok q) × (at_end q.1 ≡ Err (Text left))) → HaltsAt (IsBoundedList Is Fits) bound t (length t - left)
  last_cases t left (inl e) = list_halting t left e
  last_cases t left (inr (q, read, e)) = end_cases t left q.0 q.1 read e

  pub last_halting : (t : List ℕ) (left : ℕ) → (list_at item t then λ p. at_end p.1) ≡ Err (Text left) → HaltsAt (IsBoundedList Is Fits) bound t (length t - left)
  last_halting t left e = last_cases t left (then_cases (list_at item t) (λ p. at_end p.1) (Text left) e)

  -- lists up to a blank
  abbrev IsBlank : List ℕ → Type 0
  IsBlank tail = (rest : List ℕ) × (tail ≡ 32 ∷ rest)

  abbrev IsField : List ℕ → Type 0
  IsField = IsFieldText IsList

  field_opened : (w : List ℕ) → IsField w → (s tail : List ℕ) × (w ≡ s ++ tail) × IsList s × IsBlank tail
  field_opened w (s, rest, parts, is) = (s, 32 ∷ rest, parts, is, (rest, refl))

  field_begun : (s : List ℕ) → IsList s → Begins IsField s
  field_begun s is = (32 ∷ [], (s, [], refl, is))

  blank_follows : (tail : List ℕ) → IsBlank tail → Follows tail
  blank_follows tail (rest, e) = subst Follows (sym e) ((λ d. omega arith), (λ d. omega arith))

  blank_cases : (t : List ℕ) (left : ℕ) (q : List A × List ℕ) → list_at item t ≡ Ok q → ((rest : List ℕ) × (q.1 ≡ 32 ∷ rest)) ⊎ Ends (λ c. c ≡ 32) q.1 → mark_at 32 q.1 ≡ Err left → HaltsAt IsField bound t (length t - left)
  blank_cases t left q read (inl (rest, is)) e = absurd (let there : ◌≡◌ {A = Result (List ℕ) ℕ} (Ok rest) (Err left) = sym (mark_again 32 rest) ∙ (ap (mark_at 32) (sym is) ∙ e) in let h : ⊥ = cc in h)
  blank_cases t left q read (inr ends) e = tail_halts_at IsField IsBlank field_opened field_begun blank_follows t left q read (mark_stops 32 q.1 left e) not_blank no_blank where
    not_blank : ¬ (IsBlank q.1)
    not_blank (rest, is) = let here : Ends (λ c. c ≡ 32) (32 ∷ rest) = subst (Ends (λ c. c ≡ 32)) is ends in here refl

    no_blank : (c : ℕ) (y more : List ℕ) → q.1 ≡ c ∷ y → ¬ (IsBlank (c ∷ more))
    no_blank c y more there (rest, is) =
        let here : Ends (λ c. c ≡ 32) (c ∷ y) = subst (Ends (λ c. c ≡ 32)) there ends in
        let blank : c ≡ 32 = cc in
        here blank

  field_cases : (t : List ℕ) (left : ℕ) → (list_at item t ≡ Err (Text left)) ⊎ ((q : List A × List ℕ) × (list_at item t ≡ Ok q) × (after_blank q.1 ≡ Err (Text left))) → HaltsAt IsField bound t (length t - left)
  field_cases t left (inl e) = list_halts_at IsField IsBlank field_opened field_begun blank_follows t left e
  field_cases t left (inr (q, read, e)) = blank_cases t left q read (mark_split 32 q.1) (texted_err (mark_at 32 q.1) left e)

  pub field_halting : (t : List ℕ) (left : ℕ) → (list_at item t then λ p. after_blank p.1) ≡ Err (Text left) → HaltsAt (IsFieldText (IsBoundedList Is Fits)) bound t (length t - left)
  field_halting t left e = field_cases t left (then_cases (list_at item t) (λ p. after_blank p.1) (Text left) e)

pub path_halts_at : (t : List ℕ) (left : ℕ) → list_at asn_item t ≡ Err (Text left) → HaltsAt (IsBoundedList IsAsnText AsnFits) 4294967295 t (length t - left)
path_halts_at = list_halting asn_item IsAsnText AsnFits asn_spells 4294967295 asn_blocked asn_goes asn_no_dash path_halts

pub pairs_halt_at : (t : List ℕ) (left : ℕ) → list_at pair_item t ≡ Err (Text left) → HaltsAt (IsBoundedList IsPairText PairFits) 65535 t (length t - left)
pairs_halt_at = list_halting pair_item IsPairText PairFits pair_spells 65535 pair_blocked pair_goes pair_no_dash pairs_halt

pub triples_halt_at : (t : List ℕ) (left : ℕ) → list_at triple_item t ≡ Err (Text left) → HaltsAt (IsBoundedList IsTripleText TripleFits) 4294967295 t (length t - left)
triples_halt_at = list_halting triple_item IsTripleText TripleFits triple_spells 4294967295 triple_blocked triple_goes triple_no_dash triples_halt

pub path_field_halts_at : (t : List ℕ) (left : ℕ) → (list_at asn_item t then λ p. after_blank p.1) ≡ Err (Text left) → HaltsAt (IsFieldText (IsBoundedList IsAsnText AsnFits)) 4294967295 t (length t - left)
path_field_halts_at = field_halting asn_item IsAsnText AsnFits asn_spells 4294967295 asn_blocked asn_goes asn_no_dash path_halts

pub pairs_field_halts_at : (t : List ℕ) (left : ℕ) → (list_at pair_item t then λ p. after_blank p.1) ≡ Err (Text left) → HaltsAt (IsFieldText (IsBoundedList IsPairText PairFits)) 65535 t (length t - left)
pairs_field_halts_at = field_halting pair_item IsPairText PairFits pair_spells 65535 pair_blocked pair_goes pair_no_dash pairs_halt

pub triples_field_halts_at : (t : List ℕ) (left : ℕ) → (list_at triple_item t then λ p. at_end p.1) ≡ Err (Text left) → HaltsAt (IsBoundedList IsTripleText TripleFits) 4294967295 t (length t - left)
triples_field_halts_at = last_halting triple_item IsTripleText TripleFits triple_spells 4294967295 triple_blocked triple_goes triple_no_dash triples_halt
