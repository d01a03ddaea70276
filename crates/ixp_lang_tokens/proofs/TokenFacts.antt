-- What is known of names, numbers and strings that stand in a text.
use Rattle.std.proofs.Common.{◌≡◌, inl, inr, ℕ, ◌≤◌, Bool, true, false, List, [], ◌∷◌, ◌++◌, length, min, nat_le, ◌<◌, ◌^◌, arith, Result, Ok, Err, sym, ap, ◌∙◌, subst, if◌then◌else◌}
use Rattle.std.specs.List.{list_all}
use Rattle.std.proofs.Math.Nat.{min-le_right}
use Rattle.ixp_num.specs.declared.asn.Asn.{Asn}
use Rattle.ixp_num.specs.Answers.{AsnAnswer}
use Rattle.ixp_num.specs.Names.{is_name}
use Rattle.ixp_lang_tokens.specs.declared.shape.Shape.{Shape}
use Rattle.ixp_lang_tokens.specs.declared.shape.Shape.TheVariants as shape
use Rattle.ixp_lang_tokens.specs.declared.token.Kind.TheVariants as kind
use Rattle.ixp_lang_tokens.specs.Bytes.{begins_with, is_letter, is_word_byte, is_text_byte}
use Rattle.ixp_lang_tokens.specs.Words.{is_keyword}
use Rattle.ixp_lang_tokens.specs.Tokens.{Cut, Says, Stands, word_kind}

abbrev NameFacts : List ℕ → Type 0
NameFacts n = (begins_with is_letter n ≡ true) × (list_all is_word_byte n ≡ true) × (word_kind n ≡ kind.Name n)

same_name : (n w : List ℕ) (short keyword : Bool) → kind.Name n ≡ (if short then (if keyword then kind.Word w else kind.Name w) else kind.BadByte) → n ≡ w
same_name n w true true e = absurd cc
same_name n w true false e = cc
same_name n w false keyword e = absurd cc

word_facts : (n w text rest : List ℕ) → begins_with is_letter text ≡ true → text ≡ w ++ rest → list_all is_word_byte w ≡ true → kind.Name n ≡ word_kind w → NameFacts w
word_facts n [] text rest letter is all says = absurd cc
word_facts n (b ∷ bs) text rest letter is all says =
    let e : n ≡ b ∷ bs = same_name n (b ∷ bs) (is_name (b ∷ bs)) (is_keyword (b ∷ bs)) says in
    (sym (ap (begins_with is_letter) is) ∙ letter, all, sym says ∙ ap (λ x. kind.Name x) e)

cut_name : (s : Shape) (n text piece rest : List ℕ) → Cut s text piece rest → Says s piece (kind.Name n) → NameFacts n
cut_name shape.Address n text piece rest cut (Ok a, is, e) = absurd cc
cut_name shape.Address n text piece rest cut (Err f, is, e) = absurd cc
cut_name shape.Prefix n text piece rest cut (Ok a, is, e) = absurd cc
cut_name shape.Prefix n text piece rest cut (Err f, is, e) = absurd cc
cut_name shape.Number n text piece rest cut (Ok a, is, e) = absurd cc
cut_name shape.Number n text piece rest cut (Err f, is, e) = absurd cc
cut_name shape.Word n text piece rest (none, letter, (is, all, ends)) e =
    subst NameFacts (sym (same_name n piece (is_name piece) (is_keyword piece) e)) (word_facts n piece text rest letter is all e)
cut_name shape.Text n text piece rest cut e = absurd cc
cut_name (shape.Mark m) n text piece rest cut e = absurd cc
cut_name shape.Stray n text piece rest cut e = absurd cut

-- a name is a word, and no keyword
pub name_facts : (n text rest : List ℕ) → Stands (kind.Name n) text rest → NameFacts n
name_facts n text rest (inl (s, piece, cut, says)) = cut_name s n text piece rest cut says
name_facts n text rest (inr (stray, e)) = absurd cc

abbrev TextFacts : List ℕ → Type 0
TextFacts said = (list_all is_text_byte said ≡ true) × (length said ≤ 64)

cut_text : (s : Shape) (said text piece rest : List ℕ) → Cut s text piece rest → Says s piece (kind.Text said) → TextFacts said
cut_text shape.Address said text piece rest cut (Ok a, is, e) = absurd cc
cut_text shape.Address said text piece rest cut (Err f, is, e) = absurd cc
cut_text shape.Prefix said text piece rest cut (Ok a, is, e) = absurd cc
cut_text shape.Prefix said text piece rest cut (Err f, is, e) = absurd cc
cut_text shape.Number said text piece rest cut (Ok a, is, e) = absurd cc
cut_text shape.Number said text piece rest cut (Err f, is, e) = absurd cc
cut_text shape.Word said text piece rest cut e = absurd (no_text (is_name piece) (is_keyword piece) e)
  where
    no_text : (short keyword : Bool) → kind.Text said ≡ (if short then (if keyword then kind.Word piece else kind.Name piece) else kind.BadByte) → ⊥
    no_text true true e = cc
    no_text true false e = cc
    no_text false keyword e = cc
cut_text shape.Text said text piece rest (is, all, short) e = (let same : piece ≡ said = cc in subst TextFacts same (all, short))
cut_text (shape.Mark m) said text piece rest cut e = absurd cc
cut_text shape.Stray said text piece rest cut e = absurd cut

-- a string is printable, and short
pub text_facts : (said text rest : List ℕ) → Stands (kind.Text said) text rest → TextFacts said
text_facts said text rest (inl (s, piece, cut, says)) = cut_text s said text piece rest cut says
text_facts said text rest (inr (stray, e)) = absurd cc

asn_small : (a m bound : ℕ) (within : Bool) (after : Result (List ℕ) ℕ) (left : ℕ) → after ≡ Ok (min m bound ∷ []) → Ok (a ∷ []) ≡ (if within then after else Err left) → a ≡ min m bound
asn_small a m bound true after left says e = (let f : ◌≡◌ {A = Result (List ℕ) ℕ} (Ok (a ∷ [])) (Ok (min m bound ∷ [])) = e ∙ says in cc)
asn_small a m bound false after left says e = absurd cc

asn_bound : (piece : List ℕ) (a : Asn) → AsnAnswer piece (Ok a) → a.0 < 2 ^ 32
asn_bound piece a (front, rest, m, after, is, number, (none, says), e) =
    let same : a.0 ≡ min m 4294967295 = asn_small a.0 m 4294967295 (nat_le m 4294967295) after (length piece) says e in
    omega (arith, same, min-le_right m 4294967295)

cut_number : (s : Shape) (n : ℕ) (text piece rest : List ℕ) → Cut s text piece rest → Says s piece (kind.Number n) → n < 2 ^ 32
cut_number shape.Address n text piece rest cut (Ok a, is, e) = absurd cc
cut_number shape.Address n text piece rest cut (Err f, is, e) = absurd cc
cut_number shape.Prefix n text piece rest cut (Ok a, is, e) = absurd cc
cut_number shape.Prefix n text piece rest cut (Err f, is, e) = absurd cc
cut_number shape.Number n text piece rest cut (Ok a, is, e) = (let same : a.0 ≡ n = cc in subst (λ x. x < 2 ^ 32) same (asn_bound piece a is))
cut_number shape.Number n text piece rest cut (Err f, is, e) = absurd cc
cut_number shape.Word n text piece rest cut e = absurd (no_number (is_name piece) (is_keyword piece) e)
  where
    no_number : (short keyword : Bool) → kind.Number n ≡ (if short then (if keyword then kind.Word piece else kind.Name piece) else kind.BadByte) → ⊥
    no_number true true e = cc
    no_number true false e = cc
    no_number false keyword e = cc
cut_number shape.Text n text piece rest cut e = absurd cc
cut_number (shape.Mark m) n text piece rest cut e = absurd cc
cut_number shape.Stray n text piece rest cut e = absurd cut

-- a number has 32 bits
pub number_facts : (n : ℕ) (text rest : List ℕ) → Stands (kind.Number n) text rest → n < 2 ^ 32
number_facts n text rest (inl (s, piece, cut, says)) = cut_number s n text piece rest cut says
number_facts n text rest (inr (stray, e)) = absurd cc
