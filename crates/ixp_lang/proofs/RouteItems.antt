-- Items are read as they are spelt.
use Rattle.std.proofs.Common.{◌≡◌, ℕ, ◌<◌, ◌≤◌, ◌⊎◌, inl, inr, true, false, cond, min, nat_le, List, [], ◌∷◌, ◌++◌, length, Result, Ok, Err, refl, sym, ap, ◌∙◌, subst, arith, le-leb, leb-true, append_assoc, lit<}
use Rattle.std.proofs.lemmas.Bool.{cond-true, cases_Bool}
use Rattle.ixp_num.specs.declared.asn.Asn.{Asn}
use Rattle.ixp_num.specs.Forms.{IsDigit, IsDecimal}
use Rattle.ixp_num.specs.Reading.{◌>>=◌, cap, number_at, mark_at}
use Rattle.ixp_num.proofs.Digits.{Ends, Numbered, number_again, number_split, number_missing, mark_again, mark_split, mark_missing}
use Rattle.ixp_lang.specs.RouteReading.{number, asn_item, pair_item, triple_item}
use Rattle.ixp_lang.specs.RouteTexts.{IsAsnText, IsPairText, IsTripleText, AsnFits, PairFits, TripleFits}

-- what was done with what was read
pub bind_ok : {A B : Type 0} (r : Result A ℕ) (f : A → Result B ℕ) (y : B) → (r >>= f) ≡ Ok y → (a : A) × (r ≡ Ok a) × (f a ≡ Ok y)
bind_ok (Ok a) f y e = (a, refl, e)
bind_ok (Err left) f y e = absurd (let h : ⊥ = cc in h)

-- a number that was read stands there
abbrev pub IsNumberAt : ℕ → List ℕ → ℕ × List ℕ → Type 0
IsNumberAt bound t p = (front : List ℕ) × (t ≡ front ++ p.1) × IsDecimal front p.0 × (p.0 ≤ bound)

pub chosen : (bound n left : ℕ) (rest : List ℕ) (p : ℕ × List ℕ) → nat_le n bound ≡ true ⊎ nat_le n bound ≡ false → ◌≡◌ {A = Result (ℕ × List ℕ) ℕ} (cond (nat_le n bound) (Ok (n, rest)) (Err left)) (Ok p) → (n ≤ bound) × (p ≡ (n, rest))
chosen bound n left rest p (inl low) e = (leb-true n bound low, (let there : ◌≡◌ {A = Result (ℕ × List ℕ) ℕ} (Ok (n, rest)) (Ok p) = ap (λ b. cond b (Ok (n, rest)) (Err left)) (sym low) ∙ e in cc))
chosen bound n left rest p (inr high) e = absurd (let there : ◌≡◌ {A = Result (ℕ × List ℕ) ℕ} (Err left) (Ok p) = ap (λ b. cond b (Ok (n, rest)) (Err left)) (sym high) ∙ e in let h : ⊥ = cc in h)

number_found : (bound : ℕ) (t : List ℕ) (p : ℕ × List ℕ) → bound < cap → Numbered t ⊎ Ends IsDigit t → number bound t ≡ Ok p → IsNumberAt bound t p
number_found bound t p low (inl x) e =
    let there : number_at t ≡ Ok (min cap x.n, x.rest) = ap number_at x.parts ∙ number_again x.front x.rest x.n x.spelt x.closed in
    let kept = chosen bound (min cap x.n) (length t) x.rest p (cases_Bool (nat_le (min cap x.n) bound)) (ap (λ r. r >>= λ p. cond (nat_le p.0 bound) (Ok p) (Err (length t))) (sym there) ∙ e) in
    let fits = kept.0 in
    let same : min cap x.n ≡ x.n = omega arith in
    let is : p ≡ (x.n, x.rest) = kept.1 ∙ ap (λ n. (n, x.rest)) same in
    let below : x.n ≤ bound = omega arith in
    subst (IsNumberAt bound t) (sym is) (x.front, x.parts, x.spelt, below)
number_found bound t p low (inr ends) e =
    absurd (let there = ap (λ r. r >>= λ p. cond (nat_le p.0 bound) (Ok p) (Err (length t))) (sym (number_missing t ends)) ∙ e in let h : ⊥ = cc in h)

pub number_sound : (bound : ℕ) (t : List ℕ) (p : ℕ × List ℕ) → bound < cap → number bound t ≡ Ok p → IsNumberAt bound t p
number_sound bound t p low e = number_found bound t p low (number_split t) e

-- a number that stands there is read
pub number_read : (bound : ℕ) (front rest : List ℕ) (n : ℕ) → bound < cap → IsDecimal front n → n ≤ bound → Ends IsDigit rest → number bound (front ++ rest) ≡ Ok (n, rest)
number_read bound front rest n low spelt fits ends =
    let same : min cap n ≡ n = omega arith in
    ap (λ r. r >>= λ p. cond (nat_le p.0 bound) (Ok p) (Err (length (front ++ rest)))) (number_again front rest n spelt (inr ends) ∙ ap (λ m. Ok (m, rest)) same)
    ∙ cond-true (nat_le n bound) _ _ (le-leb n bound fits)

mark_found : (b : ℕ) (t rest : List ℕ) → ((rest : List ℕ) × (t ≡ b ∷ rest)) ⊎ Ends (λ c. c ≡ b) t → mark_at b t ≡ Ok rest → t ≡ b ∷ rest
mark_found b t rest (inl (more, is)) e =
    let there : ◌≡◌ {A = Result (List ℕ) ℕ} (Ok more) (Ok rest) = sym (mark_again b more) ∙ (ap (mark_at b) (sym is) ∙ e) in
    let same : more ≡ rest = cc in
    is ∙ ap (λ x. b ∷ x) same
mark_found b t rest (inr ends) e = absurd (let there : ◌≡◌ {A = Result (List ℕ) ℕ} (Err (length t)) (Ok rest) = sym (mark_missing b t ends) ∙ e in let h : ⊥ = cc in h)

pub mark_sound : (b : ℕ) (t rest : List ℕ) → mark_at b t ≡ Ok rest → t ≡ b ∷ rest
mark_sound b t rest e = mark_found b t rest (mark_split b t) e

-- what an item reader is to do
pub record Spells {A : Type 0} (item : List ℕ → Result (A × List ℕ) ℕ) (Is : A → List ℕ → Type 0) (Fits : A → Type 0) : Type 0 where
  pub sound : (t : List ℕ) (p : A × List ℕ) → item t ≡ Ok p → (s : List ℕ) × (t ≡ s ++ p.1) × Is p.0 s × Fits p.0
  pub again : (x : A) (s rest : List ℕ) → Is x s → Fits x → Ends IsDigit rest → item (s ++ rest) ≡ Ok (x, rest)

colon_ends : (rest : List ℕ) → Ends IsDigit (58 ∷ rest)
colon_ends rest d = omega arith

abbrev asn_with : ℕ → Asn
asn_with n = record { 0 = n }

asn_sound : (t : List ℕ) (p : Asn × List ℕ) → asn_item t ≡ Ok p → (s : List ℕ) × (t ≡ s ++ p.1) × IsAsnText p.0 s × AsnFits p.0
asn_sound t p e =
    let read = bind_ok (number 4294967295 t) (λ a. Ok (asn_with a.0, a.1)) p e in
    let stands = number_sound 4294967295 t read.0 (lit< tt) read.1 in
    let is : p ≡ (asn_with read.0.0, read.0.1) = (let there = read.2 in cc) in
    subst (λ (p : Asn × List ℕ). (s : List ℕ) × (t ≡ s ++ p.1) × IsAsnText p.0 s × AsnFits p.0) (sym is) stands

pub asn_spells : Spells asn_item IsAsnText AsnFits
asn_spells = record {
  sound = asn_sound;
  again = λ x s rest is fits ends. ap (λ r. r >>= λ a. Ok (asn_with a.0, a.1)) (number_read 4294967295 s rest x.0 (lit< tt) is fits ends);
}

-- the parts of a community
abbrev second_of : ℕ → List ℕ → Result ((ℕ × ℕ) × List ℕ) ℕ
second_of a s = number 65535 s >>= λ b. Ok ((a, b.0), b.1)

abbrev after_first : ℕ × List ℕ → Result ((ℕ × ℕ) × List ℕ) ℕ
after_first a = mark_at 58 a.1 >>= second_of a.0

pair_sound : (t : List ℕ) (p : (ℕ × ℕ) × List ℕ) → pair_item t ≡ Ok p → (s : List ℕ) × (t ≡ s ++ p.1) × IsPairText p.0 s × PairFits p.0
pair_sound t p e =
    let one = bind_ok (number 65535 t) after_first p e in
    let first = number_sound 65535 t one.0 (lit< tt) one.1 in
    let mark = bind_ok (mark_at 58 one.0.1) (second_of one.0.0) p one.2 in
    let colon = mark_sound 58 one.0.1 mark.0 mark.1 in
    let two = bind_ok (number 65535 mark.0) (λ b. Ok ((one.0.0, b.0), b.1)) p mark.2 in
    let second = number_sound 65535 mark.0 two.0 (lit< tt) two.1 in
    let is : p ≡ ((one.0.0, two.0.0), two.0.1) = (let there = two.2 in cc) in
    let whole : t ≡ (first.0 ++ 58 ∷ second.0) ++ two.0.1 =
    first.1 ∙ (ap (λ r. first.0 ++ r) (colon ∙ ap (λ r. 58 ∷ r) second.1) ∙ sym (append_assoc first.0 (58 ∷ second.0) two.0.1)) in
    subst (λ (p : (ℕ × ℕ) × List ℕ). (s : List ℕ) × (t ≡ s ++ p.1) × IsPairText p.0 s × PairFits p.0) (sym is)
    (first.0 ++ 58 ∷ second.0, whole, (first.0, second.0, refl, first.2, second.2), (first.3, second.3))

pair_again : (x : ℕ × ℕ) (s rest : List ℕ) → IsPairText x s → PairFits x → Ends IsDigit rest → pair_item (s ++ rest) ≡ Ok (x, rest)
pair_again x s rest (a, b, e, da, db) fits ends =
    ap (λ s. pair_item (s ++ rest)) e
    ∙ (ap pair_item (append_assoc a (58 ∷ b) rest)
    ∙ (ap (λ r. r >>= after_first) (number_read 65535 a (58 ∷ (b ++ rest)) x.0 (lit< tt) da fits.0 (colon_ends (b ++ rest)))
    ∙ (ap (λ r. r >>= second_of x.0) (mark_again 58 (b ++ rest))
    ∙ ap (λ r. r >>= λ b. Ok ((x.0, b.0), b.1)) (number_read 65535 b rest x.1 (lit< tt) db fits.1 ends))))

pub pair_spells : Spells pair_item IsPairText PairFits
pair_spells = record { sound = pair_sound; again = pair_again }

-- and of a large one
abbrev last_of : ℕ → ℕ → List ℕ → Result ((ℕ × ℕ × ℕ) × List ℕ) ℕ
last_of a b u = number 4294967295 u >>= λ c. Ok ((a, b, c.0), c.1)

abbrev after_two : ℕ → ℕ × List ℕ → Result ((ℕ × ℕ × ℕ) × List ℕ) ℕ
after_two a b = mark_at 58 b.1 >>= last_of a b.0

abbrev two_of : ℕ → List ℕ → Result ((ℕ × ℕ × ℕ) × List ℕ) ℕ
two_of a s = number 4294967295 s >>= after_two a

abbrev after_one : ℕ × List ℕ → Result ((ℕ × ℕ × ℕ) × List ℕ) ℕ
after_one a = mark_at 58 a.1 >>= two_of a.0

triple_sound : (t : List ℕ) (p : (ℕ × ℕ × ℕ) × List ℕ) → triple_item t ≡ Ok p → (s : List ℕ) × (t ≡ s ++ p.1) × IsTripleText p.0 s × TripleFits p.0
triple_sound t p e =
    let one = bind_ok (number 4294967295 t) after_one p e in
    let first = number_sound 4294967295 t one.0 (lit< tt) one.1 in
    let mark = bind_ok (mark_at 58 one.0.1) (two_of one.0.0) p one.2 in
    let colon = mark_sound 58 one.0.1 mark.0 mark.1 in
    let two = bind_ok (number 4294967295 mark.0) (after_two one.0.0) p mark.2 in
    let second = number_sound 4294967295 mark.0 two.0 (lit< tt) two.1 in
    let mark' = bind_ok (mark_at 58 two.0.1) (last_of one.0.0 two.0.0) p two.2 in
    let colon' = mark_sound 58 two.0.1 mark'.0 mark'.1 in
    let three = bind_ok (number 4294967295 mark'.0) (λ c. Ok ((one.0.0, two.0.0, c.0), c.1)) p mark'.2 in
    let third = number_sound 4294967295 mark'.0 three.0 (lit< tt) three.1 in
    let is : p ≡ ((one.0.0, two.0.0, three.0.0), three.0.1) = (let there = three.2 in cc) in
    let tail : two.0.1 ≡ (58 ∷ third.0) ++ three.0.1 = colon' ∙ ap (λ r. 58 ∷ r) third.1 in
    let rest : mark.0 ≡ (second.0 ++ 58 ∷ third.0) ++ three.0.1 = second.1 ∙ (ap (λ r. second.0 ++ r) tail ∙ sym (append_assoc second.0 (58 ∷ third.0) three.0.1)) in
    let whole : t ≡ (first.0 ++ 58 ∷ (second.0 ++ 58 ∷ third.0)) ++ three.0.1 =
    first.1 ∙ (ap (λ r. first.0 ++ r) (colon ∙ ap (λ r. 58 ∷ r) rest) ∙ sym (append_assoc first.0 (58 ∷ (second.0 ++ 58 ∷ third.0)) three.0.1)) in
    subst (λ (p : (ℕ × ℕ × ℕ) × List ℕ). (s : List ℕ) × (t ≡ s ++ p.1) × IsTripleText p.0 s × TripleFits p.0) (sym is)
    (first.0 ++ 58 ∷ (second.0 ++ 58 ∷ third.0), whole, (first.0, second.0, third.0, refl, first.2, second.2, third.2), (first.3, second.3, third.3))

triple_again : (x : ℕ × ℕ × ℕ) (s rest : List ℕ) → IsTripleText x s → TripleFits x → Ends IsDigit rest → triple_item (s ++ rest) ≡ Ok (x, rest)
triple_again x s rest (a, b, c, e, da, db, dc) fits ends =
    ap (λ s. triple_item (s ++ rest)) e
    ∙ (ap triple_item (append_assoc a (58 ∷ (b ++ 58 ∷ c)) rest)
    ∙ (ap (λ r. r >>= after_one) (number_read 4294967295 a (58 ∷ ((b ++ 58 ∷ c) ++ rest)) x.0 (lit< tt) da fits.0 (colon_ends ((b ++ 58 ∷ c) ++ rest)))
    ∙ (ap (λ r. r >>= two_of x.0) (mark_again 58 ((b ++ 58 ∷ c) ++ rest))
    ∙ (ap (two_of x.0) (append_assoc b (58 ∷ c) rest)
    ∙ (ap (λ r. r >>= after_two x.0) (number_read 4294967295 b (58 ∷ (c ++ rest)) x.1 (lit< tt) db fits.1 (colon_ends (c ++ rest)))
    ∙ (ap (λ r. r >>= last_of x.0 x.1) (mark_again 58 (c ++ rest))
    ∙ ap (λ r. r >>= λ c. Ok ((x.0, x.1, c.0), c.1)) (number_read 4294967295 c rest x.2 (lit< tt) dc fits.2 ends)))))))

pub triple_spells : Spells triple_item IsTripleText TripleFits
triple_spells = record { sound = triple_sound; again = triple_again }

-- no item begins with a dash
decimal_no_dash : (front rest : List ℕ) (n : ℕ) → IsDecimal front n → Ends (λ c. c ≡ 45) (front ++ rest)
decimal_no_dash [] rest n spelt = absurd spelt
decimal_no_dash (c ∷ cs) rest n spelt = λ e. let digit = spelt.0 in omega arith

pub asn_no_dash : (x : Asn) (s rest : List ℕ) → IsAsnText x s → Ends (λ c. c ≡ 45) (s ++ rest)
asn_no_dash x s rest is = decimal_no_dash s rest x.0 is

pub pair_no_dash : (x : ℕ × ℕ) (s rest : List ℕ) → IsPairText x s → Ends (λ c. c ≡ 45) (s ++ rest)
pair_no_dash x s rest (a, b, e, da, db) = subst (Ends (λ c. c ≡ 45)) (sym (ap (λ s. s ++ rest) e ∙ append_assoc a (58 ∷ b) rest)) (decimal_no_dash a (58 ∷ (b ++ rest)) x.0 da)

pub triple_no_dash : (x : ℕ × ℕ × ℕ) (s rest : List ℕ) → IsTripleText x s → Ends (λ c. c ≡ 45) (s ++ rest)
triple_no_dash x s rest (a, b, c, e, da, db, dc) =
    subst (Ends (λ c. c ≡ 45)) (sym (ap (λ s. s ++ rest) e ∙ append_assoc a (58 ∷ (b ++ 58 ∷ c)) rest)) (decimal_no_dash a (58 ∷ ((b ++ 58 ∷ c) ++ rest)) x.0 da)
