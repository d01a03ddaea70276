-- Texts, cut at a byte.
use Rattle.std.proofs.Common.{◌≡◌, ◌≢◌, ◌≤◌, ◌+◌, ◌⊎◌, inl, inr, ℕ, suc, true, false, not, ◌==◌, List, [], ◌∷◌, ◌++◌, length, take, drop, Some, None, unwrap_or, refl, sym, ap, ◌∙◌, subst, arith, nat_lt, ne_eqb, eq-eqb}
use Rattle.std.specs.List.{AllByRecursion, position, position_or_len}
use Rattle.std.proofs.lemmas.Bool.{cases_Bool, cond-true, cond-false, cases_eq, ltb-false}
use Rattle.std.proofs.lemmas.List.{length-append}
use Rattle.std.proofs.lemmas.List.Sums.{prefix_len-le-length}
use Rattle.ixp_eval_trial.specs.Lines.{lines, onto}
use Rattle.ixp_eval_trial.specs.Cutting.{IsFree, IsParted, IsCut, Leads}

-- lines

pub lines_cut : (xs ys : List ℕ) → IsFree 10 xs → lines (xs ++ 10 ∷ ys) ≡ xs ∷ lines ys
lines_cut [] ys free = refl
lines_cut (c ∷ cs) ys free = cond-false (c == 10) _ _ (ne_eqb c 10 free.0) ∙ ap (onto c) (lines_cut cs ys free.1)

pub lines_last : (c : ℕ) (cs : List ℕ) → IsFree 10 (c ∷ cs) → lines (c ∷ cs) ≡ (c ∷ cs) ∷ []
lines_last c [] free = cond-false (c == 10) _ _ (ne_eqb c 10 free.0)
lines_last c (d ∷ ds) free = cond-false (c == 10) _ _ (ne_eqb c 10 free.0) ∙ ap (onto c) (lines_last d ds free.1)

-- the first mark

abbrev pub at_mark : ℕ → List ℕ → ℕ
at_mark mark t = position_or_len (λ b. b == mark) t

abbrev PartedAt : ℕ → List ℕ → ℕ → Type 0
PartedAt mark t n = IsParted mark t (take n t) (drop n t)

one_more : (n : ℕ) → 1 + n ≡ suc n
one_more n = omega arith

parted_step : (mark c : ℕ) (cs : List ℕ) → (c ≡ mark) ⊎ (c ≢ mark) → PartedAt mark cs (at_mark mark cs) → PartedAt mark (c ∷ cs) (at_mark mark (c ∷ cs))
parted_step mark c cs (inl e) rest =
    subst (PartedAt mark (c ∷ cs)) (sym (cond-false (not (c == mark)) _ _ (ap not (eq-eqb c mark e)))) (refl, tt, inr (cs, ap (λ x. x ∷ cs) e))
parted_step mark c cs (inr ne) rest =
    subst (PartedAt mark (c ∷ cs)) (sym (cond-true (not (c == mark)) _ _ (ap not (ne_eqb c mark ne)) ∙ one_more (at_mark mark cs))) (ap (λ x. c ∷ x) rest.0, (ne, rest.1), rest.2)

pub parted_first : (mark : ℕ) (t : List ℕ) → PartedAt mark t (at_mark mark t)
parted_first mark [] = (refl, tt, inl refl)
parted_first mark (c ∷ cs) = parted_step mark c cs (cases_eq c mark) (parted_first mark cs)

whole : (m n : ℕ) → m ≤ n → n ≤ m → n ≡ m
whole m n one other = omega arith

end_step : (mark : ℕ) (t : List ℕ) → (nat_lt (at_mark mark t) (length t) ≡ true) ⊎ (nat_lt (at_mark mark t) (length t) ≡ false) → unwrap_or (position (λ b. b == mark) t) (length t) ≡ at_mark mark t
end_step mark t (inl e) = ap (λ o. unwrap_or o (length t)) (cond-true (nat_lt (at_mark mark t) (length t)) (Some (at_mark mark t)) None e)
end_step mark t (inr e) =
    let within = prefix_len-le-length (λ b. not (b == mark)) t in
    ap (λ o. unwrap_or o (length t)) (cond-false (nat_lt (at_mark mark t) (length t)) (Some (at_mark mark t)) None e) ∙ whole (at_mark mark t) (length t) within (ltb-false (at_mark mark t) (length t) e)

pub parted : (mark : ℕ) (t : List ℕ) → PartedAt mark t (unwrap_or (position (λ b. b == mark) t) (length t))
parted mark t = subst (PartedAt mark t) (sym (end_step mark t (cases_Bool (nat_lt (at_mark mark t) (length t))))) (parted_first mark t)

-- a cut is the only one

pub not_marked : {A : Type 0} (mark : A) (xs ys : List A) → ¬ (AllByRecursion (λ c. c ≢ mark) (xs ++ mark ∷ ys))
not_marked mark [] ys free = free.0 refl
not_marked mark (c ∷ cs) ys free = not_marked mark cs ys free.1

pub one_cut : {A : Type 0} (mark : A) (xs xs' ys ys' : List A) → AllByRecursion (λ c. c ≢ mark) xs → AllByRecursion (λ c. c ≢ mark) xs' → xs ++ mark ∷ ys ≡ xs' ++ mark ∷ ys' → (xs ≡ xs') × (ys ≡ ys')
one_cut mark [] [] ys ys' free free' e = (refl, let same : ys ≡ ys' = cc in same)
one_cut mark [] (c ∷ cs) ys ys' free free' e = absurd (let same : c ≡ mark = cc in free'.0 same)
one_cut mark (c ∷ cs) [] ys ys' free free' e = absurd (let same : c ≡ mark = cc in free.0 same)
one_cut mark (c ∷ cs) (d ∷ ds) ys ys' free free' e =
    let head : c ≡ d = cc in
    let tail : cs ++ mark ∷ ys ≡ ds ++ mark ∷ ys' = cc in
    let rest = one_cut mark cs ds ys ys' free.1 free'.1 tail in
    (ap (λ x. x ∷ cs) head ∙ ap (λ x. d ∷ x) rest.0, rest.1)

-- the first line

pub leads_cut : (t line behind : List ℕ) → IsCut 10 t line behind → Leads t line behind
leads_cut t line behind (whole, free) = record {
  lines = ap lines whole ∙ lines_cut line behind free;
  less = let size = ap length whole ∙ length-append line (10 ∷ behind) in omega arith;
  ends = inl whole;
}

pub leads_last : (t : List ℕ) → ¬ (t ≡ []) → IsFree 10 t → Leads t t []
leads_last [] some free = absurd (some refl)
leads_last (c ∷ cs) some free = record { lines = lines_last c cs free; less = omega arith; ends = inr (refl, refl) }
