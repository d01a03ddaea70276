-- An item isn't read of any text that begins as one whose reading stopped: with the byte, or the number above its bound, where it stopped.
use Rattle.std.proofs.Common.{◌≡◌, ℕ, ◌+◌, ◌-◌, ◌*◌, ◌<◌, ◌≤◌, ◌⊎◌, inl, inr, true, false, cond, min, nat_le, List, [], ◌∷◌, ◌++◌, length, Result, Ok, Err, refl, sym, ap, ◌∙◌, subst, arith, lit<, append_assoc, le-leb}
use Rattle.std.specs.List.{AllByRecursion}
use Rattle.std.proofs.lemmas.Bool.{cond-true, cond-false, cases_Bool, leb-false, lt-leb}
use Rattle.ixp_num.specs.declared.asn.Asn.{Asn}
use Rattle.ixp_num.specs.Forms.{IsDigit, IsDecimal, value_after}
use Rattle.ixp_num.specs.Reading.{◌>>=◌, cap, number_at, mark_at}
use Rattle.ixp_num.proofs.Digits.{Ends, Closed, Numbered, number_again, number_split, number_missing, decimal_begins, mark_again, mark_split, mark_missing}
use Rattle.ixp_lang.specs.RouteReading.{number, asn_item, pair_item, triple_item}
use Rattle.ixp_lang.proofs.RouteItems.{bind_ok, chosen, mark_sound}
use Rattle.ixp_lang.proofs.RouteStops.{bind_cases, bounded_number, number_stops, mark_stops}

-- one byte, or a number above the bound
abbrev pub Piece : ℕ → List ℕ → Type 0
Piece bound p = ((c : ℕ) × (p ≡ c ∷ [])) ⊎ ((n : ℕ) × IsDecimal p n × (bound < n))

-- Where a reading halts: at the text's end, or on each text that begins with what stands before and the piece there.
-- `H t left` says that it halts with so many bytes left.
abbrev pub Barred : (List ℕ → ℕ → Type 0) → ℕ → List ℕ → List ℕ → Type 0
Barred H bound front rest =
    (rest ≡ []) ⊎ ((piece behind : List ℕ) × (rest ≡ piece ++ behind) × Piece bound piece × ((more : List ℕ) → H (front ++ (piece ++ more)) (length (piece ++ more))))

abbrev pub Blocked : (List ℕ → ℕ → Type 0) → ℕ → List ℕ → ℕ → Type 0
Blocked H bound t left = (front rest : List ℕ) × (t ≡ front ++ rest) × (length rest ≡ left) × Barred H bound front rest

-- both begin with the same byte
abbrev pub SameHead : List ℕ → List ℕ → Type 0
SameHead r s = (c : ℕ) × (cs ds : List ℕ) × (r ≡ c ∷ cs) × (s ≡ c ∷ ds)

pub heads : (bound : ℕ) (front piece behind more : List ℕ) → Piece bound piece → SameHead (front ++ (piece ++ behind)) (front ++ (piece ++ more))
heads bound (c ∷ cs) piece behind more is = (c, cs ++ (piece ++ behind), cs ++ (piece ++ more), refl, refl)
heads bound [] (c ∷ cs) behind more is = (c, cs ++ behind, cs ++ more, refl, refl)
heads bound [] [] behind more (inl (c, e)) = absurd (let h : ⊥ = cc in h)
heads bound [] [] behind more (inr (n, spelt, above)) = absurd spelt

pub heads_behind : (f r s : List ℕ) → SameHead r s → SameHead (f ++ r) (f ++ s)
heads_behind [] r s same = same
heads_behind (c ∷ cs) r s same = (c, cs ++ r, cs ++ s, refl, refl)

-- what is behind a text that was read
pub carry : (H Below : List ℕ → ℕ → Type 0) (bound : ℕ) (t f r : List ℕ) (left : ℕ) → t ≡ f ++ r
    → ((s : List ℕ) (m : ℕ) → SameHead r s → Below s m → H (f ++ s) m) → Blocked Below bound r left → Blocked H bound t left
carry H Below bound t f r left parts on (front, rest, e, size, inl none) =
    (f ++ front, rest, parts ∙ (ap (λ r. f ++ r) e ∙ sym (append_assoc f front rest)), size, inl none)
carry H Below bound t f r left parts on (front, rest, e, size, inr (piece, behind, whole, is, fails)) =
    (f ++ front, rest, parts ∙ (ap (λ r. f ++ r) e ∙ sym (append_assoc f front rest)), size, inr (piece, behind, whole, is, barred)) where
      same : (more : List ℕ) → SameHead r (front ++ (piece ++ more))
      same more = subst (λ x. SameHead x (front ++ (piece ++ more))) (sym (e ∙ ap (λ x. front ++ x) whole)) (heads bound front piece behind more is)

      barred : (more : List ℕ) → H ((f ++ front) ++ (piece ++ more)) (length (piece ++ more))
      barred more =
          subst (λ x. H x (length (piece ++ more))) (sym (append_assoc f front (piece ++ more)))
          (on (front ++ (piece ++ more)) (length (piece ++ more)) (same more) (fails more))

pub weaken : (H Below : List ℕ → ℕ → Type 0) (bound : ℕ) (t : List ℕ) (left : ℕ) → ((s : List ℕ) (m : ℕ) → Below s m → H s m) → Blocked Below bound t left → Blocked H bound t left
weaken H Below bound t left on below = carry H Below bound t [] t left refl (λ s m same. on s m) below

-- numbers

value_more : (n : ℕ) (ds : List ℕ) → n ≤ value_after n ds
value_more n [] = omega arith
value_more n (d ∷ ds) = let more = value_more (n * 10 + (d - 48)) ds in omega arith

value_longer : (n : ℕ) (ds es : List ℕ) → value_after n ds ≤ value_after n (ds ++ es)
value_longer n [] es = value_more n es
value_longer n (d ∷ ds) es = value_longer (n * 10 + (d - 48)) ds es

-- digits are part of the number that stands there
within : (front more number rest : List ℕ) → AllByRecursion IsDigit front → Ends IsDigit rest → front ++ more ≡ number ++ rest → (es : List ℕ) × (number ≡ front ++ es)
within [] more number rest digits ends e = (number, refl)
within (c ∷ cs) more [] [] digits ends e = absurd (let h : ⊥ = cc in h)
within (c ∷ cs) more [] (d ∷ ds) digits ends e = absurd (let same : c ≡ d = cc in ends (subst IsDigit same digits.0))
within (c ∷ cs) more (d ∷ ds) rest digits ends e =
    let same : c ≡ d = cc in
    let tails : cs ++ more ≡ ds ++ rest = cc in
    let part = within cs more ds rest digits.1 ends tails in
    (part.0, ap (λ x. x ∷ ds) (sym same) ∙ ap (λ x. c ∷ x) part.1)

decimal_digits : (front : List ℕ) (n : ℕ) → IsDecimal front n → AllByRecursion IsDigit front × (n ≡ value_after 0 front)
decimal_digits [] n spelt = absurd spelt
decimal_digits (c ∷ cs) n spelt = ((spelt.0, spelt.2), spelt.3)

decimal_zero : (front more rest : List ℕ) (n : ℕ) → IsDecimal front n → front ++ more ≡ (48 ∷ []) ++ rest → n ≡ 0
decimal_zero [] more rest n spelt e = absurd spelt
decimal_zero (c ∷ cs) more rest n spelt e =
    let zero : c ≡ 48 = cc in
    let none = spelt.1 zero in
    spelt.3 ∙ (ap (λ x. value_after 0 (x ∷ cs)) zero ∙ ap (λ x. value_after 0 (48 ∷ x)) none)

longer : (front more number rest : List ℕ) (n m : ℕ) → IsDecimal front n → IsDecimal number m → Closed number rest → front ++ more ≡ number ++ rest → n ≤ m
longer front more number rest n m spelt there (inl zero) e =
    let none = decimal_zero front more rest n spelt (e ∙ ap (λ x. x ++ rest) zero) in
    omega arith
longer front more number rest n m spelt there (inr ends) e =
    let first = decimal_digits front n spelt in
    let all = decimal_digits number m there in
    let part = within front more number rest first.0 ends e in
    let less = value_longer 0 front part.0 in
    let one = first.1 in
    let two : m ≡ value_after 0 (front ++ part.0) = all.1 ∙ ap (value_after 0) part.1 in
    omega arith

-- a number above the bound isn't read, whatever stands behind it
above_at : (bound : ℕ) (t : List ℕ) (front more : List ℕ) (n : ℕ) → bound < cap → IsDecimal front n → bound < n → t ≡ front ++ more → Numbered t ⊎ Ends IsDigit t → number bound t ≡ Err (length t)
above_at bound t front more n low spelt above parts (inr ends) = absurd (decimal_begins front more n spelt (subst (Ends IsDigit) parts ends))
above_at bound t front more n low spelt above parts (inl x) =
    let grown = longer front more x.front x.rest n x.n spelt x.spelt x.closed (sym parts ∙ x.parts) in
    let high : bound < min cap x.n = omega arith in
    ap (λ r. r >>= bounded_number bound (length t)) (ap number_at x.parts ∙ number_again x.front x.rest x.n x.spelt x.closed)
    ∙ cond-false (nat_le (min cap x.n) bound) (Ok (min cap x.n, x.rest)) (Err (length t)) (lt-leb (min cap x.n) bound high)

pub number_above : (bound : ℕ) (front more : List ℕ) (n : ℕ) → bound < cap → IsDecimal front n → bound < n → number bound (front ++ more) ≡ Err (length (front ++ more))
number_above bound front more n low spelt above = above_at bound (front ++ more) front more n low spelt above refl (number_split (front ++ more))

abbrev NumberHalts : ℕ → List ℕ → ℕ → Type 0
NumberHalts bound t left = number bound t ≡ Err left

number_none : (bound : ℕ) (t : List ℕ) → Ends IsDigit t → number bound t ≡ Err (length t)
number_none bound t ends = ap (λ r. r >>= bounded_number bound (length t)) (number_missing t ends)

exceeds : (bound left m n : ℕ) (rest : List ℕ) → m ≡ min cap n → bound < cap → (nat_le m bound ≡ true) ⊎ (nat_le m bound ≡ false) → bounded_number bound left (m, rest) ≡ Err left → bound < n
exceeds bound left m n rest is low (inl fits) e = absurd (let there : ◌≡◌ {A = Result (ℕ × List ℕ) ℕ} (Ok (m, rest)) (Err left) = ap (λ b. cond b (Ok (m, rest)) (Err left)) (sym fits) ∙ e in let h : ⊥ = cc in h)
exceeds bound left m n rest is low (inr high) e = let above = leb-false m bound high in omega arith

number_barred : (bound : ℕ) (t : List ℕ) → bound < cap → Numbered t ⊎ Ends IsDigit t → number bound t ≡ Err (length t) → Barred (NumberHalts bound) bound [] t
number_barred bound [] low split e = inl refl
number_barred bound (c ∷ cs) low (inr ends) e = inr (c ∷ [], cs, refl, inl (c, refl), λ more. number_none bound (c ∷ more) ends)
number_barred bound (c ∷ cs) low (inl x) e =
    let there : number_at (c ∷ cs) ≡ Ok (min cap x.n, x.rest) = ap number_at x.parts ∙ number_again x.front x.rest x.n x.spelt x.closed in
    let halts : bounded_number bound (length (c ∷ cs)) (min cap x.n, x.rest) ≡ Err (length (c ∷ cs)) = ap (λ r. r >>= bounded_number bound (length (c ∷ cs))) (sym there) ∙ e in
    let above = exceeds bound (length (c ∷ cs)) (min cap x.n) x.n x.rest refl low (cases_Bool (nat_le (min cap x.n) bound)) halts in
    inr (x.front, x.rest, x.parts, inr (x.n, x.spelt, above), λ more. number_above bound x.front more x.n low x.spelt above)

number_blocked : (bound : ℕ) (t : List ℕ) (left : ℕ) → bound < cap → number bound t ≡ Err left → Blocked (NumberHalts bound) bound t left
number_blocked bound t left low e =
    let whole = number_stops bound t left e in
    ([], t, refl, sym whole, number_barred bound t low (number_split t) (e ∙ ap Err whole))

-- what was read is read before each text that begins with the same byte
abbrev pub GoesOn : {A : Type 0} → (List ℕ → Result (A × List ℕ) ℕ) → List ℕ → A × List ℕ → Type 0
GoesOn read t p = (f : List ℕ) × (t ≡ f ++ p.1) × ((s : List ℕ) → SameHead p.1 s → read (f ++ s) ≡ Ok (p.0, s))

closed_again : (f r s : List ℕ) → SameHead r s → Closed f r → Closed f s
closed_again f r s same (inl zero) = inl zero
closed_again f r s (c, cs, ds, one, two) (inr ends) =
    let here : Ends IsDigit (c ∷ cs) = subst (Ends IsDigit) one ends in
    let there : Ends IsDigit (c ∷ ds) = here in
    inr (subst (Ends IsDigit) (sym two) there)

number_goes : (bound : ℕ) (t : List ℕ) (p : ℕ × List ℕ) → Numbered t ⊎ Ends IsDigit t → number bound t ≡ Ok p → GoesOn (number bound) t p
number_goes bound t p (inr ends) e = absurd (let there : ◌≡◌ {A = Result (ℕ × List ℕ) ℕ} (Err (length t)) (Ok p) = sym (number_none bound t ends) ∙ e in let h : ⊥ = cc in h)
number_goes bound t p (inl x) e = subst (GoesOn (number bound) t) (sym kept.1) (x.front, x.parts, again) where
  there : number_at t ≡ Ok (min cap x.n, x.rest)
  there = ap number_at x.parts ∙ number_again x.front x.rest x.n x.spelt x.closed

  kept : (min cap x.n ≤ bound) × (p ≡ (min cap x.n, x.rest))
  kept = chosen bound (min cap x.n) (length t) x.rest p (cases_Bool (nat_le (min cap x.n) bound)) (ap (λ r. r >>= bounded_number bound (length t)) (sym there) ∙ e)

  again : (s : List ℕ) → SameHead x.rest s → number bound (x.front ++ s) ≡ Ok (min cap x.n, s)
  again s same =
      ap (λ r. r >>= bounded_number bound (length (x.front ++ s))) (number_again x.front s x.n x.spelt (closed_again x.front x.rest s same x.closed))
      ∙ cond-true (nat_le (min cap x.n) bound) (Ok (min cap x.n, s)) (Err (length (x.front ++ s))) (le-leb (min cap x.n) bound kept.0)

-- a number, and what is read behind it
module _ {B : Type 0} (bound : ℕ) (low : bound < cap) (next : ℕ × List ℕ → Result B ℕ) where
  abbrev pub NumberedHalts : List ℕ → ℕ → Type 0
  NumberedHalts t left = (number bound t >>= next) ≡ Err left

  abbrev pub NextHalts : ℕ → List ℕ → ℕ → Type 0
  NextHalts n s left = next (n, s) ≡ Err left

  behind_number : (t : List ℕ) (left : ℕ) → ((n : ℕ) (s : List ℕ) → next (n, s) ≡ Err left → Blocked (NextHalts n) bound s left)
      → (number bound t ≡ Err left) ⊎ ((p : ℕ × List ℕ) × (number bound t ≡ Ok p) × (next p ≡ Err left)) → Blocked NumberedHalts bound t left
  behind_number t left below (inl e) = weaken NumberedHalts (NumberHalts bound) bound t left (λ s m h. ap (λ r. r >>= next) h) (number_blocked bound t left low e)
  behind_number t left below (inr (p, read, e)) =
      let goes = number_goes bound t p (number_split t) read in
      carry NumberedHalts (NextHalts p.0) bound t goes.0 p.1 left goes.1 (λ s m same h. ap (λ r. r >>= next) (goes.2 s same) ∙ h) (below p.0 p.1 e)

  pub after_number : (t : List ℕ) (left : ℕ) → ((n : ℕ) (s : List ℕ) → next (n, s) ≡ Err left → Blocked (NextHalts n) bound s left) → (number bound t >>= next) ≡ Err left → Blocked NumberedHalts bound t left
  after_number t left below e = behind_number t left below (bind_cases (number bound t) next left e)

-- a byte, and what is read behind it
module _ {B : Type 0} (b bound : ℕ) (next : List ℕ → Result B ℕ) where
  abbrev pub MarkedHalts : List ℕ → ℕ → Type 0
  MarkedHalts t left = (mark_at b t >>= next) ≡ Err left

  mark_barred : (t : List ℕ) (left : ℕ) → ((rest : List ℕ) × (t ≡ b ∷ rest)) ⊎ Ends (λ c. c ≡ b) t → mark_at b t ≡ Err left → Barred MarkedHalts bound [] t
  mark_barred t left (inl (rest, is)) e = absurd (let there : ◌≡◌ {A = Result (List ℕ) ℕ} (Ok rest) (Err left) = sym (mark_again b rest) ∙ (ap (mark_at b) (sym is) ∙ e) in let h : ⊥ = cc in h)
  mark_barred [] left (inr ends) e = inl refl
  mark_barred (c ∷ cs) left (inr ends) e = inr (c ∷ [], cs, refl, inl (c, refl), λ more. ap (λ r. r >>= next) (mark_missing b (c ∷ more) ends))

  behind_mark : (t : List ℕ) (left : ℕ) → ((s : List ℕ) → next s ≡ Err left → Blocked (λ s m. next s ≡ Err m) bound s left)
      → (mark_at b t ≡ Err left) ⊎ ((s : List ℕ) × (mark_at b t ≡ Ok s) × (next s ≡ Err left)) → Blocked MarkedHalts bound t left
  behind_mark t left below (inl e) = ([], t, refl, sym (mark_stops b t left e), mark_barred t left (mark_split b t) e)
  behind_mark t left below (inr (s, read, e)) =
      carry MarkedHalts (λ s m. next s ≡ Err m) bound t (b ∷ []) s left (mark_sound b t s read) (λ s m same h. ap (λ r. r >>= next) (mark_again b s) ∙ h) (below s e)

  pub after_mark : (t : List ℕ) (left : ℕ) → ((s : List ℕ) → next s ≡ Err left → Blocked (λ s m. next s ≡ Err m) bound s left) → (mark_at b t >>= next) ≡ Err left → Blocked MarkedHalts bound t left
  after_mark t left below e = behind_mark t left below (bind_cases (mark_at b t) next left e)

-- items

abbrev asn_with : ℕ → Asn
asn_with n = record { 0 = n }

pub asn_blocked : (t : List ℕ) (left : ℕ) → asn_item t ≡ Err left → Blocked (λ t l. asn_item t ≡ Err l) 4294967295 t left
asn_blocked t left e = after_number 4294967295 (lit< tt) (λ a. Ok (asn_with a.0, a.1)) t left (λ n s e. absurd (let h : ⊥ = cc in h)) e

abbrev second_of : ℕ → List ℕ → Result ((ℕ × ℕ) × List ℕ) ℕ
second_of a s = number 65535 s >>= λ b. Ok ((a, b.0), b.1)

abbrev after_first : ℕ × List ℕ → Result ((ℕ × ℕ) × List ℕ) ℕ
after_first a = mark_at 58 a.1 >>= second_of a.0

second_blocked : (a : ℕ) (s : List ℕ) (left : ℕ) → second_of a s ≡ Err left → Blocked (λ s l. second_of a s ≡ Err l) 65535 s left
second_blocked a s left e = after_number 65535 (lit< tt) (λ b. Ok ((a, b.0), b.1)) s left (λ n s e. absurd (let h : ⊥ = cc in h)) e

pub pair_blocked : (t : List ℕ) (left : ℕ) → pair_item t ≡ Err left → Blocked (λ t l. pair_item t ≡ Err l) 65535 t left
pair_blocked t left e = after_number 65535 (lit< tt) after_first t left (λ a s e. after_mark 58 65535 (second_of a) s left (λ s. second_blocked a s left) e) e

abbrev last_of : ℕ → ℕ → List ℕ → Result ((ℕ × ℕ × ℕ) × List ℕ) ℕ
last_of a b u = number 4294967295 u >>= λ c. Ok ((a, b, c.0), c.1)

abbrev after_two : ℕ → ℕ × List ℕ → Result ((ℕ × ℕ × ℕ) × List ℕ) ℕ
after_two a b = mark_at 58 b.1 >>= last_of a b.0

abbrev two_of : ℕ → List ℕ → Result ((ℕ × ℕ × ℕ) × List ℕ) ℕ
two_of a s = number 4294967295 s >>= after_two a

abbrev after_one : ℕ × List ℕ → Result ((ℕ × ℕ × ℕ) × List ℕ) ℕ
after_one a = mark_at 58 a.1 >>= two_of a.0

last_blocked : (a b : ℕ) (s : List ℕ) (left : ℕ) → last_of a b s ≡ Err left → Blocked (λ s l. last_of a b s ≡ Err l) 4294967295 s left
last_blocked a b s left e = after_number 4294967295 (lit< tt) (λ c. Ok ((a, b, c.0), c.1)) s left (λ n s e. absurd (let h : ⊥ = cc in h)) e

two_blocked : (a : ℕ) (s : List ℕ) (left : ℕ) → two_of a s ≡ Err left → Blocked (λ s l. two_of a s ≡ Err l) 4294967295 s left
two_blocked a s left e = after_number 4294967295 (lit< tt) (after_two a) s left (λ b s e. after_mark 58 4294967295 (last_of a b) s left (λ s. last_blocked a b s left) e) e

pub triple_blocked : (t : List ℕ) (left : ℕ) → triple_item t ≡ Err left → Blocked (λ t l. triple_item t ≡ Err l) 4294967295 t left
triple_blocked t left e = after_number 4294967295 (lit< tt) after_one t left (λ a s e. after_mark 58 4294967295 (two_of a) s left (λ s. two_blocked a s left) e) e

-- items that were read

goes_behind : {A : Type 0} (H Below : List ℕ → Result (A × List ℕ) ℕ) (t f r : List ℕ) (y : A × List ℕ) → t ≡ f ++ r
    → ((s : List ℕ) → SameHead r s → H (f ++ s) ≡ Below s) → GoesOn Below r y → GoesOn H t y
goes_behind H Below t f r y parts on (g, rest, again) = (f ++ g, parts ∙ (ap (λ r. f ++ r) rest ∙ sym (append_assoc f g y.1)), whole) where
  whole : (s : List ℕ) → SameHead y.1 s → H ((f ++ g) ++ s) ≡ Ok (y.0, s)
  whole s same =
      let head : SameHead r (g ++ s) = subst (λ x. SameHead x (g ++ s)) (sym rest) (heads_behind g y.1 s same) in
      ap H (append_assoc f g s) ∙ (on (g ++ s) head ∙ again s same)

numbered_goes : {A : Type 0} (bound : ℕ) (next : ℕ × List ℕ → Result (A × List ℕ) ℕ) (t : List ℕ) (y : A × List ℕ)
    → ((n : ℕ) (s : List ℕ) → next (n, s) ≡ Ok y → GoesOn (λ s. next (n, s)) s y) → (number bound t >>= next) ≡ Ok y → GoesOn (λ t. number bound t >>= next) t y
numbered_goes bound next t y below e =
    let read = bind_ok (number bound t) next y e in
    let goes = number_goes bound t read.0 (number_split t) read.1 in
    goes_behind (λ t. number bound t >>= next) (λ s. next (read.0.0, s)) t goes.0 read.0.1 y goes.1 (λ s same. ap (λ r. r >>= next) (goes.2 s same)) (below read.0.0 read.0.1 read.2)

marked_goes : {A : Type 0} (b : ℕ) (next : List ℕ → Result (A × List ℕ) ℕ) (t : List ℕ) (y : A × List ℕ)
    → ((s : List ℕ) → next s ≡ Ok y → GoesOn next s y) → (mark_at b t >>= next) ≡ Ok y → GoesOn (λ t. mark_at b t >>= next) t y
marked_goes b next t y below e =
    let read = bind_ok (mark_at b t) next y e in
    goes_behind (λ t. mark_at b t >>= next) next t (b ∷ []) read.0 y (mark_sound b t read.0 read.1) (λ s same. ap (λ r. r >>= next) (mark_again b s)) (below read.0 read.2)

ended_goes : {A : Type 0} (x : A) (s : List ℕ) (y : A × List ℕ) → ◌≡◌ {A = Result (A × List ℕ) ℕ} (Ok (x, s)) (Ok y) → GoesOn (λ s. Ok (x, s)) s y
ended_goes x s y e =
    let same : y ≡ (x, s) = cc in
    subst (GoesOn (λ s. Ok (x, s)) s) (sym same) ([], refl, λ s same. refl)

pub asn_goes : (t : List ℕ) (y : Asn × List ℕ) → asn_item t ≡ Ok y → GoesOn asn_item t y
asn_goes t y e = numbered_goes 4294967295 (λ a. Ok (asn_with a.0, a.1)) t y (λ n s e. ended_goes (asn_with n) s y e) e

pub pair_goes : (t : List ℕ) (y : (ℕ × ℕ) × List ℕ) → pair_item t ≡ Ok y → GoesOn pair_item t y
pair_goes t y e = numbered_goes 65535 after_first t y (λ a s e. marked_goes 58 (second_of a) s y (λ s e. numbered_goes 65535 (λ b. Ok ((a, b.0), b.1)) s y (λ b s e. ended_goes (a, b) s y e) e) e) e

last_goes : (a b : ℕ) (s : List ℕ) (y : (ℕ × ℕ × ℕ) × List ℕ) → last_of a b s ≡ Ok y → GoesOn (last_of a b) s y
last_goes a b s y e = numbered_goes 4294967295 (λ c. Ok ((a, b, c.0), c.1)) s y (λ c s e. ended_goes (a, b, c) s y e) e

two_goes : (a : ℕ) (s : List ℕ) (y : (ℕ × ℕ × ℕ) × List ℕ) → two_of a s ≡ Ok y → GoesOn (two_of a) s y
two_goes a s y e = numbered_goes 4294967295 (after_two a) s y (λ b s e. marked_goes 58 (last_of a b) s y (λ s e. last_goes a b s y e) e) e

pub triple_goes : (t : List ℕ) (y : (ℕ × ℕ × ℕ) × List ℕ) → triple_item t ≡ Ok y → GoesOn triple_item t y
triple_goes t y e = numbered_goes 4294967295 after_one t y (λ a s e. marked_goes 58 (two_of a) s y (λ s e. two_goes a s y e) e) e
