-- Tokens that are written are read again, where what is behind them doesn't go on with them.
use Rattle.std.proofs.Common.{◌≡◌, inl, inr, ℕ, ◌≤◌, Bool, true, false, not, ◌||◌, ◌==◌, List, [], ◌∷◌, ◌++◌, length, Option, Some, None, Ok, refl, sym, arith, subst, if◌then◌else◌}
use Rattle.std.specs.Option.{is_some}
use Rattle.std.specs.List.{list_all}
use Rattle.std.proofs.lemmas.Bool.{and_parts, and_from, eqb-true}
use Rattle.std.proofs.lemmas.Bool.Decides.{nat_tests}
use Rattle.ixp_lang_tokens.specs.Pieces.{same_mark}
use Rattle.ixp_num.specs.declared.asn.Asn.{Asn}
use Rattle.ixp_num.specs.Answers.{AsnAnswer}
use Rattle.ixp_lang_tokens.specs.declared.runs.Class.TheVariants as class
use Rattle.ixp_lang_tokens.specs.declared.shape.Shape.TheVariants as shape
use Rattle.ixp_lang_tokens.specs.declared.token.Kind.TheVariants as kind
use Rattle.ixp_lang_tokens.specs.declared.token.Mark.{Mark}
use Rattle.ixp_lang_tokens.specs.declared.token.Mark.TheVariants as mark
use Rattle.ixp_lang_tokens.specs.Bytes.{is_digit, is_letter, is_word_byte, is_address_byte, is_text_byte, begins_with}
use Rattle.ixp_lang_tokens.specs.Tokens.{mark_text, AreDigits, NoAddress, Stands, word_kind}
use Rattle.ixp_lang_tokens.specs.Cutting.{run_of, behind_digits, behind_dotted, is_colon, has_two_colons, is_colon_text, behind_address, double_mark}
use Rattle.ixp_lang_tokens.specs.Written.{FewColons, NoOctet, joins_with, joins}
use Rattle.ixp_lang_tokens.proofs.AddressLaws.{digits_again, no_address}
use Rattle.ixp_lang_tokens.proofs.MarkLaws.{HasMark, has_mark, Longest, longest_two, longest_one, longest_last}
use Rattle.ixp_lang_tokens.proofs.PlainLaws.{few_is_none}

-- Colons.

no_colon : ℕ → Bool
no_colon b = not (b == 58)

word_colon : (b : ℕ) (t : Bool) → (b == 58) ≡ t → is_word_byte b ≡ true → t ≡ false
word_colon b true e word =
    let P : ℕ → Type 0 = λ x. is_word_byte x ≡ true in
    let h : false ≡ true = subst P (eqb-true b 58 e) word in absurd cc
word_colon b false e word = refl

few_step : (b : ℕ) (t : List ℕ) (s : Bool) → is_colon b ≡ false → has_two_colons t ≡ false → has_two_colons (if s then b ∷ t else []) ≡ false
few_step b t true none few = rw none few
few_step b t false none few = refl

-- letters, digits and `_` before a text bring no colons
pub few_colons : (word rest : List ℕ) → list_all is_word_byte word ≡ true → FewColons rest → FewColons (word ++ rest)
few_colons [] rest all few = few
few_colons (b ∷ bs) rest all few =
    let p : (is_word_byte b ≡ true) × (list_all is_word_byte bs ≡ true) = and_parts _ _ all in
    few_step b (run_of class.Address (bs ++ rest)) (is_address_byte b) (word_colon b (b == 58) refl p.0) (few_colons bs rest p.1 few)

or_right : (x y : Bool) → y ≡ true → (x || y) ≡ true
or_right true y e = refl
or_right false y e = e

pub digits_are_words : (digits : List ℕ) → list_all is_digit digits ≡ true → list_all is_word_byte digits ≡ true
digits_are_words [] all = refl
digits_are_words (b ∷ bs) all =
    let p : (is_digit b ≡ true) × (list_all is_digit bs ≡ true) = and_parts _ _ all in
    and_from _ _ (or_right (is_letter b) (is_digit b) p.0) (digits_are_words bs p.1)

plain_none : (text : List ℕ) → is_colon_text text ≡ false → behind_dotted text ≡ None → NoAddress text
unfolding behind_address
plain_none text colon dotted =
    let e : behind_address text ≡ None = rw colon dotted in no_address text e

-- Words.

letter_digit : (b : ℕ) (t : Bool) → is_digit b ≡ t → is_letter b ≡ true → t ≡ false
letter_digit b true p q = absurd (grind (arith, nat_tests))
letter_digit b false p q = refl

word_dotted : (b : ℕ) (bs : List ℕ) → is_letter b ≡ true → behind_dotted (b ∷ bs) ≡ None
unfolding behind_dotted
word_dotted b bs letter = rw (letter_digit b (is_digit b) refl letter) refl

pub word_stands : (word rest : List ℕ) → begins_with is_letter word ≡ true → list_all is_word_byte word ≡ true → begins_with is_word_byte rest ≡ false → FewColons rest
    → Stands (word_kind word) (word ++ rest) rest
word_stands [] rest letter all ends few = absurd cc
word_stands (b ∷ bs) rest letter all ends few =
    let none : NoAddress (b ∷ (bs ++ rest)) = plain_none (b ∷ (bs ++ rest)) (few_is_none (b ∷ (bs ++ rest)) (few_colons (b ∷ bs) rest all few)) (word_dotted b (bs ++ rest) letter) in
    inl (shape.Word, b ∷ bs, (none, letter, (refl, all, ends)), refl)

-- Numbers.

digits_dotted : (digits rest : List ℕ) → AreDigits digits → begins_with is_digit rest ≡ false → NoOctet rest → behind_dotted (digits ++ rest) ≡ None
unfolding behind_dotted
digits_dotted digits rest are ends none =
    let first : behind_digits (digits ++ rest) ≡ Some rest = digits_again digits rest are ends in
    rw (first, none) refl

pub number_stands : (digits rest : List ℕ) (n : Asn) → AreDigits digits → AsnAnswer digits (Ok n) → begins_with is_digit rest ≡ false → NoOctet rest → FewColons rest
    → Stands (kind.Number n.0) (digits ++ rest) rest
number_stands digits rest n (some, all) says ends none few =
    let plain : NoAddress (digits ++ rest) = plain_none (digits ++ rest) (few_is_none (digits ++ rest) (few_colons digits rest (digits_are_words digits all) few)) (digits_dotted digits rest (some, all) ends none) in
    inl (shape.Number, digits, (plain, some, (refl, all, ends)), (Ok n, says, refl))

-- Strings.

pub text_stands : (said rest : List ℕ) → list_all is_text_byte said ≡ true → length said ≤ 64 → Stands (kind.Text said) (34 ∷ (said ++ (34 ∷ rest))) rest
text_stands said rest all short = inl (shape.Text, said, (refl, all, short), refl)

-- Marks.

not_some : {A : Type 0} (o : Option A) → is_some o ≡ false → o ≡ None
not_some (Some a) e = absurd cc
not_some None e = refl

longest_mark : (m : Mark) (rest : List ℕ) → joins m rest ≡ false → HasMark m → Longest (length (mark_text m)) (mark_text m ++ rest)
longest_mark m rest apart (inr (x, y, is, read)) =
    let P : List ℕ → Type 0 = λ t. Longest (length t) (t ++ rest) in subst P (sym is) (longest_two (x ∷ y ∷ rest))
longest_mark m [] apart (inl (x, is, read)) =
    let P : List ℕ → Type 0 = λ t. Longest (length t) (t ++ []) in subst P (sym is) (longest_last x)
longest_mark m (c ∷ cs) apart (inl (x, is, read)) =
    let P : List ℕ → Type 0 = λ t. Longest (length t) (t ++ (c ∷ cs)) in
    let Q : List ℕ → Type 0 = λ t. joins_with t (c ∷ cs) ≡ false in
    subst P (sym is) (longest_one x c cs (not_some (double_mark x c) (subst Q is apart)))

mark_dotted : (m : Mark) (rest : List ℕ) → behind_dotted (mark_text m ++ rest) ≡ None
unfolding behind_dotted
mark_dotted mark.Semicolon rest = refl
mark_dotted _ rest = refl

pub mark_stands : (m : Mark) (rest : List ℕ) → joins m rest ≡ false → is_colon_text (mark_text m ++ rest) ≡ false → Stands (kind.Mark m) (mark_text m ++ rest) rest
mark_stands m rest apart colon =
    inl (shape.Mark m, [], (plain_none (mark_text m ++ rest) colon (mark_dotted m rest), refl, refl, longest_mark m rest apart (has_mark m)), refl)

-- marks that no address begins with
other_colon : (m : Mark) (rest : List ℕ) → same_mark m mark.Colon ≡ false → is_colon_text (mark_text m ++ rest) ≡ false
unfolding is_colon_text
other_colon mark.Colon rest e = absurd cc
other_colon _ rest e = refl

pub other_mark_stands : (m : Mark) (rest : List ℕ) → same_mark m mark.Colon ≡ false → joins m rest ≡ false → Stands (kind.Mark m) (mark_text m ++ rest) rest
other_mark_stands m rest other apart = mark_stands m rest apart (other_colon m rest other)

pub colon_stands : (rest : List ℕ) → FewColons (58 ∷ rest) → Stands (kind.Mark mark.Colon) (58 ∷ rest) rest
colon_stands rest few = mark_stands mark.Colon rest (colon_alone rest) (few_is_none (58 ∷ rest) few)
  where
    colon_alone : (rest : List ℕ) → joins mark.Colon rest ≡ false
    colon_alone [] = refl
    colon_alone (c ∷ cs) = refl
