-- Where an address ends: what is read is the definition's, and what is the definition's is read.
use Rattle.std.proofs.Common.{◌≡◌, inl, inr, ℕ, ◌+◌, ◌<◌, ◌≤◌, Bool, true, false, not, ◌||◌, ◌==◌, List, [], ◌∷◌, ◌++◌, length, Option, Some, None, refl, sym, ap, ◌∙◌, arith, subst, if◌then◌else◌}
use Rattle.std.specs.List.{list_all, list_any}
use Rattle.std.proofs.lemmas.Bool.{and_parts, and_from, eqb-true, eq-eqb}
use Rattle.std.proofs.lemmas.List.{length-append, append_assoc}
use Rattle.std.specs.Option.{option_and_then}
use Rattle.ixp_lang_tokens.specs.declared.runs.Class.TheVariants.{Digit, Address}
use Rattle.ixp_lang_tokens.specs.Bytes.{is_digit, begins_with}
use Rattle.ixp_lang_tokens.specs.Tokens.{colons, AreDigits, AreDotted, ColonRun, AddressRun, NoAddress, LengthRun}
use Rattle.ixp_lang_tokens.specs.Cutting.{run_of, behind_run, before, behind_digits, behind_number, behind_dotted, is_colon, has_two_colons, is_colon_text, behind_address}
use Rattle.ixp_lang_tokens.proofs.RunLaws.{before_append, run_is_before, run_parts, run_all, run_ends, run_sound, run_complete, behind_again}

pub some_is : {A : Type 0} (a b : A) → Some a ≡ Some b → a ≡ b
some_is a b e = cc

bind_some : {A B : Type 0} (o : Option A) (f : A → Option B) (b : B) → option_and_then f o ≡ Some b → (a : A) × (o ≡ Some a) × (f a ≡ Some b)
bind_some (Some a) f b e = (a, refl, e)
bind_some None f b e = absurd cc

-- Digits.

-- digits at the front, the longest run
abbrev pub Digits : List ℕ → List ℕ → Type 0
Digits text rest = (digits : List ℕ) × (text ≡ digits ++ rest) × AreDigits digits × (begins_with is_digit rest ≡ false)

digits_step : (b : ℕ) (bs rest : List ℕ) (t : Bool) → is_digit b ≡ t → (if t then Some (behind_run Digit bs) else None) ≡ Some rest → Digits (b ∷ bs) rest
digits_step b bs rest true p e =
    let same : behind_run Digit bs ≡ rest = some_is (behind_run Digit bs) rest e in
    let P : List ℕ → Type 0 = λ r. Digits (b ∷ bs) r in
    let some : 0 < length (b ∷ run_of Digit bs) = omega arith in
    subst P same (b ∷ run_of Digit bs, ap (λ x. b ∷ x) (run_parts Digit bs), (some, and_from (is_digit b) _ p (run_all Digit bs)), run_ends Digit bs)
digits_step b bs rest false p e = absurd cc

pub digits_sound : (text rest : List ℕ) → behind_digits text ≡ Some rest → Digits text rest
digits_sound [] rest e = absurd cc
digits_sound (b ∷ bs) rest e = digits_step b bs rest (is_digit b) refl e

pub digits_again : (digits rest : List ℕ) → AreDigits digits → (begins_with is_digit rest ≡ false) → behind_digits (digits ++ rest) ≡ Some rest
digits_again [] rest (some, all) ends = absurd (omega arith)
digits_again (b ∷ bs) rest (some, all) ends =
    let p : (is_digit b ≡ true) × (list_all is_digit bs ≡ true) = and_parts _ _ all in
    rw p.0 (ap Some (behind_again Digit bs rest p.1 ends))

-- this byte and digits at the front
abbrev pub Numbered : ℕ → List ℕ → List ℕ → Type 0
Numbered mark text rest = (digits : List ℕ) × (text ≡ mark ∷ (digits ++ rest)) × AreDigits digits × (begins_with is_digit rest ≡ false)

number_step : (mark b : ℕ) (bs rest : List ℕ) (t : Bool) → (b == mark) ≡ t → (if t then behind_digits bs else None) ≡ Some rest → Numbered mark (b ∷ bs) rest
number_step mark b bs rest true p e =
    let (digits, is, are, ends) = digits_sound bs rest e in
    let q : b ≡ mark = eqb-true b mark p in
    (digits, cc, are, ends)
number_step mark b bs rest false p e = absurd cc

pub number_sound : (mark : ℕ) (text rest : List ℕ) → behind_number mark text ≡ Some rest → Numbered mark text rest
number_sound mark [] rest e = absurd cc
number_sound mark (b ∷ bs) rest e = number_step mark b bs rest (b == mark) refl e

pub number_again : (mark : ℕ) (digits rest : List ℕ) → AreDigits digits → (begins_with is_digit rest ≡ false) → behind_number mark (mark ∷ (digits ++ rest)) ≡ Some rest
number_again mark digits rest are ends =
    let same : (mark == mark) ≡ true = eq-eqb mark mark refl in
    rw same (digits_again digits rest are ends)

-- Four numbers with dots.

abbrev pub Dotted : List ℕ → List ℕ → Type 0
Dotted text rest = (run : List ℕ) × (text ≡ run ++ rest) × AreDotted run × (begins_with is_digit rest ≡ false)

pub regroup : (a b c d rest : List ℕ) → a ++ (46 ∷ (b ++ (46 ∷ (c ++ (46 ∷ (d ++ rest)))))) ≡ a ++ (46 ∷ (b ++ (46 ∷ (c ++ (46 ∷ d))))) ++ rest
regroup a b c d rest = simp append_assoc

dotted_parts : (text one two three rest : List ℕ) → Digits text one → Numbered 46 one two → Numbered 46 two three → Numbered 46 three rest → Dotted text rest
dotted_parts text one two three rest (a, p, are_a, end_a) (b, q, are_b, end_b) (c, r, are_c, end_c) (d, s, are_d, end_d) =
    let whole : text ≡ a ++ (46 ∷ (b ++ (46 ∷ (c ++ (46 ∷ (d ++ rest)))))) = cc in
    (a ++ (46 ∷ (b ++ (46 ∷ (c ++ (46 ∷ d))))), whole ∙ regroup a b c d rest, (a, b, c, d, refl, are_a, are_b, are_c, are_d), end_d)

dotted_sound : (text rest : List ℕ) → behind_dotted text ≡ Some rest → Dotted text rest
unfolding behind_dotted
dotted_sound text rest e =
    let (three, e, last) = bind_some (option_and_then (behind_number 46) (option_and_then (behind_number 46) (behind_digits text))) (behind_number 46) rest e in
    let (two, e, third) = bind_some (option_and_then (behind_number 46) (behind_digits text)) (behind_number 46) three e in
    let (one, first, second) = bind_some (behind_digits text) (behind_number 46) two e in
    dotted_parts text one two three rest (digits_sound text one first) (number_sound 46 one two second) (number_sound 46 two three third) (number_sound 46 three rest last)

pub dotted_again : (run rest : List ℕ) → AreDotted run → (begins_with is_digit rest ≡ false) → behind_dotted (run ++ rest) ≡ Some rest
unfolding behind_dotted
dotted_again run rest (a, b, c, d, is, are_a, are_b, are_c, are_d) ends =
    let last : behind_number 46 (46 ∷ (d ++ rest)) ≡ Some rest = number_again 46 d rest are_d ends in
    let third : behind_number 46 (46 ∷ (c ++ (46 ∷ (d ++ rest)))) ≡ Some (46 ∷ (d ++ rest)) = number_again 46 c (46 ∷ (d ++ rest)) are_c refl in
    let second : behind_number 46 (46 ∷ (b ++ (46 ∷ (c ++ (46 ∷ (d ++ rest)))))) ≡ Some (46 ∷ (c ++ (46 ∷ (d ++ rest)))) = number_again 46 b (46 ∷ (c ++ (46 ∷ (d ++ rest)))) are_b refl in
    let first : behind_digits (a ++ (46 ∷ (b ++ (46 ∷ (c ++ (46 ∷ (d ++ rest))))))) ≡ Some (46 ∷ (b ++ (46 ∷ (c ++ (46 ∷ (d ++ rest)))))) = digits_again a (46 ∷ (b ++ (46 ∷ (c ++ (46 ∷ (d ++ rest)))))) are_a refl in
    let P : List ℕ → Type 0 = λ t. option_and_then (behind_number 46) (option_and_then (behind_number 46) (option_and_then (behind_number 46) (behind_digits t))) ≡ Some rest in
    subst P (regroup a b c d rest ∙ ap (λ x. x ++ rest) (sym is)) (rw (first, second, third) last)

-- Colons.

one_colon : (text : List ℕ) → (list_any is_colon text ≡ true → 1 ≤ colons text) × (1 ≤ colons text → list_any is_colon text ≡ true)
one_colon [] = ((λ e. absurd cc), (λ h. absurd (omega arith)))
one_colon (b ∷ bs) = colon_step b bs (b == 58) (one_colon bs)
  where
    colon_step : (b : ℕ) (bs : List ℕ) (t : Bool) → (list_any is_colon bs ≡ true → 1 ≤ colons bs) × (1 ≤ colons bs → list_any is_colon bs ≡ true)
        → ((t || list_any is_colon bs) ≡ true → 1 ≤ (if t then 1 + colons bs else colons bs)) × (1 ≤ (if t then 1 + colons bs else colons bs) → (t || list_any is_colon bs) ≡ true)
    colon_step b bs true again = ((λ e. omega arith), (λ h. refl))
    colon_step b bs false again = again

two_step : (bs : List ℕ) (t : Bool) → (has_two_colons bs ≡ true → 2 ≤ colons bs) × (2 ≤ colons bs → has_two_colons bs ≡ true)
    → ((if t then list_any is_colon bs else has_two_colons bs) ≡ true → 2 ≤ (if t then 1 + colons bs else colons bs))
    × (2 ≤ (if t then 1 + colons bs else colons bs) → (if t then list_any is_colon bs else has_two_colons bs) ≡ true)
two_step bs true again = ((λ e. let h : 1 ≤ colons bs = (one_colon bs).0 e in omega arith), (λ h. (one_colon bs).1 (omega arith)))
two_step bs false again = again

two_colons : (text : List ℕ) → (has_two_colons text ≡ true → 2 ≤ colons text) × (2 ≤ colons text → has_two_colons text ≡ true)
two_colons [] = ((λ e. absurd cc), (λ h. absurd (omega arith)))
two_colons (b ∷ bs) = two_step bs (b == 58) (two_colons bs)

pub colons_within : (text : List ℕ) → colons text ≤ length text
colons_within [] = omega arith
colons_within (b ∷ bs) = within_step (b == 58) (colons_within bs)
  where
    within_step : (t : Bool) → colons bs ≤ length bs → (if t then 1 + colons bs else colons bs) ≤ length (b ∷ bs)
    within_step true h = omega arith
    within_step false h = omega arith

is_dot : ℕ → Bool
is_dot b = b == 46

not_true : (b : Bool) → not b ≡ true → b ≡ false
not_true true e = absurd cc
not_true false e = refl

colon_sound : (text : List ℕ) → is_colon_text text ≡ true → ColonRun text (run_of Address text) (behind_run Address text)
unfolding is_colon_text
colon_sound text e =
    let p : (not (begins_with (λ b. b == 46) text) ≡ true) × (has_two_colons (run_of Address text) ≡ true) = and_parts _ _ e in
    (run_sound Address text, not_true _ p.0, (two_colons (run_of Address text)).0 p.1)

pub colon_complete : (text run rest : List ℕ) → ColonRun text run rest → is_colon_text text ≡ true
unfolding is_colon_text
colon_complete text run rest (is_run, no_dot, two) =
    let same : run_of Address text ≡ run = (run_complete Address text run rest is_run).0 in
    let P : List ℕ → Type 0 = λ t. has_two_colons t ≡ true in
    and_from _ _ (ap not no_dot) (subst P (sym same) ((two_colons run).1 two))

-- Addresses.

address_step : (text rest : List ℕ) (t : Bool) → is_colon_text text ≡ t → (if t then Some (behind_run Address text) else behind_dotted text) ≡ Some rest → AddressRun text (before text rest) rest
address_step text rest true p e =
    let same : behind_run Address text ≡ rest = some_is (behind_run Address text) rest e in
    let P : List ℕ → Type 0 = λ x. ColonRun text x (behind_run Address text) in
    let Q : List ℕ → Type 0 = λ r. AddressRun text (before text r) r in
    subst Q same (inl (subst P (sym (run_is_before Address text)) (colon_sound text p)))
address_step text rest false p e =
    let (run, is, dotted, ends) = dotted_sound text rest e in
    let same : before text rest ≡ run = (let B : List ℕ → Type 0 = λ t. before t rest ≡ run in subst B (sym is) (before_append run rest)) in
    let P : List ℕ → Type 0 = λ x. AddressRun text x rest in
    subst P (sym same) (inr ((λ other behind h. let q : is_colon_text text ≡ true = colon_complete text other behind h in absurd cc), is, dotted, ends))

pub address_sound : (text rest : List ℕ) → behind_address text ≡ Some rest → AddressRun text (before text rest) rest
unfolding behind_address
address_sound text rest e = address_step text rest (is_colon_text text) refl e

no_colons : (text : List ℕ) (t : Bool) → is_colon_text text ≡ t → ((run rest : List ℕ) → ¬ (ColonRun text run rest)) → is_colon_text text ≡ false
no_colons text true p none = absurd (none (run_of Address text) (behind_run Address text) (colon_sound text p))
no_colons text false p none = p

pub address_parts : (text run rest : List ℕ) → AddressRun text run rest → text ≡ run ++ rest
address_parts text run rest (inl ((is, all, ends), no_dot, two)) = is
address_parts text run rest (inr (none, is, dotted, ends)) = is

pub address_complete : (text run rest : List ℕ) → AddressRun text run rest → behind_address text ≡ Some rest
unfolding behind_address
address_complete text run rest (inl (is_run, no_dot, two)) =
    let p : is_colon_text text ≡ true = colon_complete text run rest (is_run, no_dot, two) in
    rw p (ap Some (run_complete Address text run rest is_run).1)
address_complete text run rest (inr (none, is, dotted, ends)) =
    let p : is_colon_text text ≡ false = no_colons text (is_colon_text text) refl none in
    let P : List ℕ → Type 0 = λ t. behind_dotted t ≡ Some rest in
    rw p (subst P (sym is) (dotted_again run rest dotted ends))

pub no_address : (text : List ℕ) → behind_address text ≡ None → NoAddress text
no_address text e run rest h =
    let p : behind_address text ≡ Some rest = address_complete text run rest h in absurd cc

none_step : (text : List ℕ) (o : Option (List ℕ)) → behind_address text ≡ o → NoAddress text → o ≡ None
none_step text (Some rest) e none = absurd (none (before text rest) rest (address_sound text rest e))
none_step text None e none = refl

pub none_address : (text : List ℕ) → NoAddress text → behind_address text ≡ None
none_address text none = none_step text (behind_address text) refl none

-- an address takes a byte or more
pub address_shorter : (text run rest : List ℕ) → AddressRun text run rest → length rest < length text
address_shorter text run rest (inl ((is, all, ends), no_dot, two)) =
    omega (arith, ap length is, length-append run rest, colons_within run)
address_shorter text run rest (inr (none, is, (a, b, c, d, same, (some, all), are_b, are_c, are_d), ends)) =
    omega (arith, ap length is, length-append run rest, ap length same, length-append a (46 ∷ (b ++ (46 ∷ (c ++ (46 ∷ d))))))

-- A slash and digits.

pub length_sound : (text rest : List ℕ) → behind_number 47 text ≡ Some rest → (run : List ℕ) × LengthRun text run rest × (text ≡ run ++ rest)
length_sound text rest e =
    let (digits, is, (some, all), ends) = number_sound 47 text rest e in
    (47 ∷ digits, (digits ++ rest, digits, is, refl, some, (refl, all, ends)), is)

pub length_parts : (text run rest : List ℕ) → LengthRun text run rest → text ≡ run ++ rest
length_parts text run rest (behind, digits, is, same, some, (parts, all, ends)) = cc

pub length_complete : (text run rest : List ℕ) → LengthRun text run rest → behind_number 47 text ≡ Some rest
length_complete text run rest (behind, digits, is, same, some, (parts, all, ends)) =
    let whole : text ≡ 47 ∷ (digits ++ rest) = cc in
    let P : List ℕ → Type 0 = λ t. behind_number 47 t ≡ Some rest in
    subst P (sym whole) (number_again 47 digits rest (some, all) ends)

pub no_length : (text : List ℕ) → behind_number 47 text ≡ None → (run rest : List ℕ) → ¬ (LengthRun text run rest)
no_length text e run rest h =
    let p : behind_number 47 text ≡ Some rest = length_complete text run rest h in absurd cc

length_step : (text : List ℕ) (o : Option (List ℕ)) → behind_number 47 text ≡ o → ((run rest : List ℕ) → ¬ (LengthRun text run rest)) → o ≡ None
length_step text (Some rest) e none = let (run, h, is) = length_sound text rest e in absurd (none run rest h)
length_step text None e none = refl

pub none_length : (text : List ℕ) → ((run rest : List ℕ) → ¬ (LengthRun text run rest)) → behind_number 47 text ≡ None
none_length text none = length_step text (behind_number 47 text) refl none
