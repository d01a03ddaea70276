-- What a line adds to what is gathered.
use Rattle.std.proofs.Common.{◌≡◌, ◌==◌, ◌⊎◌, inl, inr, ℕ, ◌++◌, ◌||◌, Bool, true, false, List, [], ◌∷◌, Option, Some, None, nat_le, nat_lt, cond, length, if◌then◌else◌, refl, sym, ap, ◌∙◌, subst, append_assoc, arith}
use Rattle.std.proofs.lemmas.Bool.{leb-true, leb-false, le-leb, lt-leb, eqb-true, or_cases}
use Rattle.ixp_rpsl.specs.Lines.{Line}
use Rattle.ixp_rpsl.specs.Attributes.{attributes, bad_line, earlier, goes_on, is_blank, is_empty, is_word, is_pair, named, named_at, with_named, past_object, past_value, whole_value}
use Rattle.ixp_rpsl.specs.Gathers.{Gathers}
use Rattle.ixp_rpsl.specs.declared.attributes.Attribute.{Attribute}
use Rattle.ixp_rpsl.specs.declared.gathered.Gathered.{Gathered}

abbrev least : ℕ → ℕ → Option ℕ
least m n = if nat_le m n then Some m else Some n

pub earlier_none : (a : Option ℕ) → earlier a None ≡ a
earlier_none None = refl
earlier_none (Some m) = refl

least_as : (k m n : ℕ) → earlier (least k m) (Some n) ≡ earlier (Some k) (least m n)
least_as k m n = by (nat_le k m) (nat_le m n) refl refl where
  by : (a b : Bool) → nat_le k m ≡ a → nat_le m n ≡ b → earlier (if a then Some k else Some m) (Some n) ≡ earlier (Some k) (if b then Some m else Some n)
  by true true p q = ap (λ x. if x then Some k else Some n) (le-leb k n (let u = leb-true k m p in let v = leb-true m n q in omega arith)) ∙ ap (λ x. if x then Some k else Some m) (sym p)
  by true false p q = refl
  by false true p q = ap (λ x. if x then Some m else Some n) q ∙ ap (λ x. if x then Some k else Some m) (sym p)
  by false false p q = ap (λ x. if x then Some m else Some n) q ∙ ap (λ x. if x then Some k else Some n) (sym (lt-leb k n (let u = leb-false k m p in let v = leb-false m n q in omega arith)))

pub earlier_as : (a b c : Option ℕ) → earlier (earlier a b) c ≡ earlier a (earlier b c)
earlier_as None b c = refl
earlier_as (Some k) None c = refl
earlier_as (Some k) (Some m) None = earlier_none (least k m)
earlier_as (Some k) (Some m) (Some n) = least_as k m n

-- a line that goes on has no name and isn't empty
at_start : (t : List ℕ) (b : Bool) → named_at t (cond b (Some 0) None) ≡ None
at_start t true = refl
at_start t false = refl

begins : (c : ℕ) (cs : List ℕ) → (is_blank c || c == 43) ≡ true → named (c ∷ cs) ≡ None
begins c cs e = by (or_cases (c == 32 || c == 9) (c == 43) e) where
  blank : (c == 32) ≡ true ⊎ (c == 9) ≡ true → named (c ∷ cs) ≡ None
  blank (inl is) = subst (λ b. named (b ∷ cs) ≡ None) (sym (eqb-true c 32 is)) (at_start (32 ∷ cs) (nat_lt 0 (length (32 ∷ cs))))
  blank (inr is) = subst (λ b. named (b ∷ cs) ≡ None) (sym (eqb-true c 9 is)) (at_start (9 ∷ cs) (nat_lt 0 (length (9 ∷ cs))))

  by : (c == 32 || c == 9) ≡ true ⊎ (c == 43) ≡ true → named (c ∷ cs) ≡ None
  by (inl is) = blank (or_cases (c == 32) (c == 9) is)
  by (inr is) = subst (λ b. named (b ∷ cs) ≡ None) (sym (eqb-true c 43 is)) (at_start (43 ∷ cs) (nat_lt 0 (length (43 ∷ cs))))

nameless : (t : List ℕ) → goes_on t ≡ true → (named t ≡ None) × (is_empty t ≡ false)
nameless [] e = absurd (let h : ⊥ = cc in h)
nameless (c ∷ cs) e = (begins c cs e, refl)

-- what stands behind a value is as what stands behind its first line
module _ (word : List ℕ) where
  skips : (l : Line) (ls : List Line) → goes_on l.bytes ≡ true → (attributes word (l ∷ ls) ≡ attributes word ls) × (bad_line (l ∷ ls) ≡ bad_line ls) × (past_object (l ∷ ls) ≡ past_object ls)
  skips l ls e =
      let is = nameless l.bytes e in (
        ap (λ b. if b then [] else with_named word l ls (named l.bytes) (attributes word ls)) is.1 ∙ ap (λ n. with_named word l ls n (attributes word ls)) is.0,
        ap (λ b. if b then None else if is_pair (named l.bytes) || goes_on l.bytes then bad_line ls else earlier (Some l.number) (bad_line ls)) is.1
            ∙ (ap (λ n. if is_pair n || goes_on l.bytes then bad_line ls else earlier (Some l.number) (bad_line ls)) is.0 ∙ ap (λ b. if b then bad_line ls else earlier (Some l.number) (bad_line ls)) e),
        ap (λ b. if b then l ∷ ls else past_object ls) is.1,
      )

  pub behind_value : (ls : List Line) → (attributes word (past_value ls) ≡ attributes word ls) × (bad_line (past_value ls) ≡ bad_line ls) × (past_object (past_value ls) ≡ past_object ls)
  behind_value [] = (refl, refl, refl)
  behind_value (l ∷ ls) = by (goes_on l.bytes) refl (behind_value ls) where
    by : (b : Bool) → goes_on l.bytes ≡ b → (attributes word (past_value ls) ≡ attributes word ls) × (bad_line (past_value ls) ≡ bad_line ls) × (past_object (past_value ls) ≡ past_object ls)
        → (attributes word (if b then past_value ls else l ∷ ls) ≡ attributes word (l ∷ ls)) × (bad_line (if b then past_value ls else l ∷ ls) ≡ bad_line (l ∷ ls)) × (past_object (if b then past_value ls else l ∷ ls) ≡ past_object (l ∷ ls))
    by false e later = (refl, refl, refl)
    by true e later = let one = skips l ls e in (later.0 ∙ sym one.0, later.1 ∙ sym one.1, later.2 ∙ sym one.2)

  module _ (l : Line) (ls : List Line) (some : is_empty l.bytes ≡ false) where
    attributes_at : (n : Option (List ℕ × List ℕ)) → named l.bytes ≡ n → attributes word (l ∷ ls) ≡ with_named word l ls n (attributes word ls)
    attributes_at n e = ap (λ b. if b then [] else with_named word l ls (named l.bytes) (attributes word ls)) some ∙ ap (λ m. with_named word l ls m (attributes word ls)) e

    bad_at : (n : Option (List ℕ × List ℕ)) → named l.bytes ≡ n → bad_line (l ∷ ls) ≡ (if is_pair n || goes_on l.bytes then bad_line ls else earlier (Some l.number) (bad_line ls))
    bad_at n e =
        ap (λ b. if b then None else if is_pair (named l.bytes) || goes_on l.bytes then bad_line ls else earlier (Some l.number) (bad_line ls)) some
        ∙ ap (λ m. if is_pair m || goes_on l.bytes then bad_line ls else earlier (Some l.number) (bad_line ls)) e

    past_at : past_object (l ∷ ls) ≡ past_object ls
    past_at = ap (λ b. if b then l ∷ ls else past_object ls) some

    pub takes_named : (old new : Gathered) (rest : List Line) (name first : List ℕ) → named l.bytes ≡ Some (name, first) → is_word word name ≡ true → rest ≡ past_value ls
        → new.found ≡ old.found ++ record { line = l.number; value = whole_value first ls } ∷ [] → new.fault ≡ old.fault → Gathers word l ls rest old new
    takes_named old new rest name first e sought behind found fault =
        let x : Attribute = record { line = l.number; value = whole_value first ls } in
        let three = behind_value ls in
        record {
          found = ap (λ r. new.found ++ attributes word r) behind ∙ (ap (λ o. new.found ++ o) three.0 ∙ (ap (λ f. f ++ attributes word ls) found
              ∙ (append_assoc old.found (x ∷ []) (attributes word ls) ∙ ap (λ o. old.found ++ o) (sym (attributes_at (Some (name, first)) e ∙ ap (λ b. if b then x ∷ attributes word ls else attributes word ls) sought)))));
          fault = ap (λ r. earlier new.fault (bad_line r)) behind ∙ (ap (earlier new.fault) three.1 ∙ (ap (λ f. earlier f (bad_line ls)) fault ∙ ap (earlier old.fault) (sym (bad_at (Some (name, first)) e))));
          past = ap past_object behind ∙ (three.2 ∙ sym past_at);
        }
