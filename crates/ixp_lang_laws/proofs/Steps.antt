-- A text with one token or one blank more at its front.
use Rattle.std.proofs.Common.{◌≡◌, inl, inr, ℕ, ◌≤◌, ◌<◌, ◌^◌, Bool, true, false, not, ◌&&◌, ◌||◌, ◌==◌, List, [], ◌∷◌, ◌++◌, length, decimal, Some, None, Ok, refl, sym, ap, ◌∙◌, arith, subst, append_assoc}
use Rattle.std.specs.List.{list_all}
use Rattle.std.proofs.lemmas.Bool.{and_parts, or_parts, eqb-true}
use Rattle.std.proofs.lemmas.Bool.Decides.{nat_tests}
use Rattle.ixp_num.specs.declared.addr.Addr.{Addr}
use Rattle.ixp_num.specs.declared.prefix.Prefix.{Prefix}
use Rattle.ixp_num.specs.Printing.{addr_text, prefix_text}
use Rattle.ixp_num.specs.Answers.{AddrAnswer, PrefixAnswer}
use Rattle.std.specs.Char.{digit_value}
use Rattle.ixp_num.proofs.PrintedTexts.{decimal_spelt}
use Rattle.ixp_num.proofs.PrintedAddresses.{addr_printed, prefix_printed, asn_printed}
use Rattle.ixp_lang_tokens.specs.declared.token.Kind.{Kind}
use Rattle.ixp_lang_tokens.specs.declared.token.Kind.TheVariants as kind
use Rattle.ixp_lang_tokens.specs.declared.token.Mark.{Mark}
use Rattle.ixp_lang_tokens.specs.declared.token.Mark.TheVariants as mark
use Rattle.ixp_lang_tokens.specs.Bytes.{begins_with, is_digit, is_hexadecimal, is_letter, is_word_byte, is_address_byte}
use Rattle.ixp_lang_tokens.specs.Gaps.{Gap}
use Rattle.ixp_lang_tokens.specs.Pieces.{same_mark}
use Rattle.ixp_lang_tokens.specs.Tokens.{Stands, Placed, placed_kinds, Tokens, HasTokens, is_last, word_kind, mark_text, AreDigits}
use Rattle.ixp_lang_tokens.specs.Cutting.{behind_blank}
use Rattle.ixp_lang_tokens.specs.Written.{FewColons, NoOctet, NoLength, joins}
use Rattle.ixp_lang_tokens.proofs.GapLaws.{gap_here, gap_more, one_gap}
use Rattle.ixp_lang_tokens.proofs.TokenLaws.{one_stands}
use Rattle.ixp_lang_tokens.proofs.Standing.{few_colons, digits_are_words, word_stands, number_stands, text_stands, other_mark_stands, colon_stands}
use Rattle.ixp_lang_tokens.proofs.AddressTexts.{decimal_digits, address_stands, prefix_stands}
use Rattle.ixp_lang_laws.specs.Printed.{IsWritten, AreWritten}

-- the text has these tokens, if they are such as texts have
pub Reads : List ℕ → List Kind → Type 0
Reads text tokens = AreWritten tokens → HasTokens text tokens

pub reads_all : (text : List ℕ) (tokens : List Kind) → Reads text tokens → AreWritten tokens → HasTokens text tokens
unfolding Reads
reads_all text tokens reads = reads

pub nothing_reads : Reads [] []
unfolding Reads
nothing_reads written = ([], gap_here [] refl, refl)

-- Texts in parts.
pub parted : (a b c : List ℕ) (tokens : List Kind) → Reads (a ++ (b ++ c)) tokens → Reads ((a ++ b) ++ c) tokens
parted a b c tokens reads = subst (λ t. Reads t tokens) (sym (append_assoc a b c)) reads

-- Blanks.

blank_tokens : (text more : List ℕ) (placed : List Placed) → behind_blank more ≡ Some text → Tokens text placed → Tokens more placed
blank_tokens text more [] is gap = gap_more more text [] is gap
blank_tokens text more (t ∷ ts) is (here, rest, gap, stands, left, last, goes) = (here, rest, gap_more more text here is gap, stands, left, last, goes)

pub blank_reads : (text more : List ℕ) (tokens : List Kind) → behind_blank more ≡ Some text → Reads text tokens → Reads more tokens
unfolding Reads
blank_reads text more tokens is reads written =
    let h : HasTokens text tokens = reads written in
    (h.0, blank_tokens text more h.0 is h.1, h.2)

-- No blank is where a token stands.

differs : (test : ℕ → Bool) (b c : ℕ) (t : Bool) → (b == c) ≡ t → test c ≡ false → test b ≡ true → t ≡ false
differs test b c true e bad good = absurd (let same : b ≡ c = eqb-true b c e in let h : true ≡ false = sym good ∙ ap test same ∙ bad in let g : ⊥ = cc in g)
differs test b c false e bad good = refl

-- no byte of the class begins a blank or a comment
abbrev Clear : (ℕ → Bool) → Type 0
Clear test = (test 32 ≡ false) × (test 9 ≡ false) × (test 13 ≡ false) × (test 10 ≡ false) × (test 35 ≡ false) × (test 47 ≡ false)

clear_front : (test : ℕ → Bool) (text : List ℕ) → Clear test → begins_with test text ≡ true → behind_blank text ≡ None
clear_front test [] clear good = refl
clear_front test (b ∷ bs) (c1, c2, c3, c4, c5, c6) good =
    rw (
      differs test b 32 (b == 32) refl c1 good,
      differs test b 9 (b == 9) refl c2 good,
      differs test b 13 (b == 13) refl c3 good,
      differs test b 10 (b == 10) refl c4 good,
      differs test b 35 (b == 35) refl c5 good,
      differs test b 47 (b == 47) refl c6 good,
    ) refl

run_begins : (test : ℕ → Bool) (text run rest : List ℕ) → text ≡ run ++ rest → list_all test run ≡ true → 0 < length run → begins_with test text ≡ true
run_begins test text [] rest is all some = absurd (omega arith)
run_begins test text (b ∷ bs) rest is all some = ap (begins_with test) is ∙ (and_parts (test b) (list_all test bs) all).0

hex_byte : (d : ℕ) → digit_value d < 16 → is_address_byte d ≡ true
hex_byte d low = grind (arith, nat_tests)

digit_byte : (d : ℕ) → 48 ≤ d → d ≤ 57 → is_address_byte d ≡ true
digit_byte d low high = grind (arith, nat_tests)

addr_begins : (t : List ℕ) (a : Addr) → AddrAnswer t (Ok a) → begins_with is_address_byte t ≡ true
addr_begins t a (inl ([], behind, n, after, is, number, spelt, says)) = absurd number
addr_begins t a (inl (d ∷ ds, behind, n, after, is, number, spelt, says)) = ap (begins_with is_address_byte) is ∙ digit_byte d number.0.0 number.0.1
addr_begins t a (inr (inl (behind, is, others))) = ap (begins_with is_address_byte) is
addr_begins t a (inr (inr ([], behind, n, is, group, others))) = absurd (omega (arith, group.0.0.0))
addr_begins t a (inr (inr (d ∷ ds, behind, n, is, group, others))) = ap (begins_with is_address_byte) is ∙ hex_byte d group.0.0.1.0

prefix_begins : (t : List ℕ) (p : Prefix) → PrefixAnswer t (Ok p) → begins_with is_address_byte t ≡ true
prefix_begins t p (inl ([], behind, n, after, is, number, spelt, says)) = absurd number
prefix_begins t p (inl (d ∷ ds, behind, n, after, is, number, spelt, says)) = ap (begins_with is_address_byte) is ∙ digit_byte d number.0.0 number.0.1
prefix_begins t p (inr (inl (behind, is, others))) = ap (begins_with is_address_byte) is
prefix_begins t p (inr (inr ([], behind, n, is, group, others))) = absurd (omega (arith, group.0.0.0))
prefix_begins t p (inr (inr (d ∷ ds, behind, n, is, group, others))) = ap (begins_with is_address_byte) is ∙ hex_byte d group.0.0.1.0

begins_more : (test : ℕ → Bool) (text rest : List ℕ) → begins_with test text ≡ true → begins_with test (text ++ rest) ≡ true
begins_more test [] rest e = absurd cc
begins_more test (b ∷ bs) rest e = e

address_front : (text rest : List ℕ) → begins_with is_address_byte text ≡ true → behind_blank (text ++ rest) ≡ None
address_front text rest good = clear_front is_address_byte (text ++ rest) (refl, refl, refl, refl, refl, refl) (begins_more is_address_byte text rest good)

word_front : (text rest : List ℕ) → begins_with is_letter text ≡ true → behind_blank (text ++ rest) ≡ None
word_front text rest good = clear_front is_letter (text ++ rest) (refl, refl, refl, refl, refl, refl) (begins_more is_letter text rest good)

number_front : (text rest : List ℕ) → AreDigits text → behind_blank (text ++ rest) ≡ None
number_front text rest are = clear_front is_digit (text ++ rest) (refl, refl, refl, refl, refl, refl) (run_begins is_digit (text ++ rest) text rest refl are.1 are.0)

mark_front : (m : Mark) (rest : List ℕ) → is_last (kind.Mark m) ≡ false → behind_blank (mark_text m ++ rest) ≡ None
mark_front mark.Slash rest more = absurd cc
mark_front _ rest more = refl

-- Tokens.

pub token_reads : (k : Kind) (text rest : List ℕ) (tokens : List Kind) → (IsWritten k → Stands k text rest × (behind_blank text ≡ None)) → is_last k ≡ false → Reads rest tokens → Reads text (k ∷ tokens)
unfolding Reads
token_reads k text rest tokens stands more reads (fine, others) =
    let h : Stands k text rest × (behind_blank text ≡ None) = stands fine in
    let behind : HasTokens rest tokens = reads others in (
      record { kind = k; left = length text } ∷ behind.0,
      (text, rest, gap_here text h.1, h.0, refl, (λ e. absurd cc), (λ e. behind.1)),
      ap (λ x. k ∷ x) behind.2,
    )

-- Behind a word, a number or an address: a byte that goes on with none of them.

abbrev pub ends : List ℕ → Bool
ends [] = false
ends (b ∷ bs) = not (is_word_byte b) && (not (is_address_byte b) && not (b == 47))

abbrev pub Ended : List ℕ → Type 0
Ended rest = (begins_with is_word_byte rest ≡ false) × (begins_with is_address_byte rest ≡ false) × (begins_with is_digit rest ≡ false) × NoLength rest × FewColons rest × NoOctet rest

not_so : (x : Bool) → not x ≡ true → x ≡ false
not_so true e = absurd cc
not_so false e = refl

pub ended : (rest : List ℕ) → ends rest ≡ true → Ended rest
ended [] e = absurd cc
ended (b ∷ bs) e =
    let p = and_parts (not (is_word_byte b)) (not (is_address_byte b) && not (b == 47)) e in
    let q = and_parts (not (is_address_byte b)) (not (b == 47)) p.1 in
    let word : is_word_byte b ≡ false = not_so (is_word_byte b) p.0 in
    let address : is_address_byte b ≡ false = not_so (is_address_byte b) q.0 in
    let slash : (b == 47) ≡ false = not_so (b == 47) q.1 in
    let digit : is_digit b ≡ false = (or_parts (is_letter b) (is_digit b) word).1 in
    let dot : (b == 46) ≡ false = (or_parts (is_hexadecimal b || b == 58) (b == 46) address).1 in
    (word, address, digit, rw slash refl, rw address refl, rw dot refl)

pub word_reads : (w rest : List ℕ) (tokens : List Kind) → begins_with is_letter w ≡ true → list_all is_word_byte w ≡ true → word_kind w ≡ kind.Word w
    → begins_with is_word_byte rest ≡ false → FewColons rest → Reads rest tokens → Reads (w ++ rest) (kind.Word w ∷ tokens)
word_reads w rest tokens letter all is stops few reads =
    token_reads (kind.Word w) (w ++ rest) rest tokens (λ fine. (subst (λ k. Stands k (w ++ rest) rest) is (word_stands w rest letter all stops few), word_front w rest letter)) refl reads

pub name_reads : (n rest : List ℕ) (tokens : List Kind) → ends rest ≡ true → Reads rest tokens → Reads (n ++ rest) (kind.Name n ∷ tokens)
name_reads n rest tokens stops reads =
    let e : Ended rest = ended rest stops in
    token_reads (kind.Name n) (n ++ rest) rest tokens (λ (letter, all, is). (subst (λ k. Stands k (n ++ rest) rest) is (word_stands n rest letter all e.0 e.4), word_front n rest letter)) refl reads

pub decimal_reads : (n : ℕ) (rest : List ℕ) (tokens : List Kind) → begins_with is_digit rest ≡ false → NoOctet rest → FewColons rest → Reads rest tokens → Reads (decimal n ++ rest) (kind.Number n ∷ tokens)
decimal_reads n rest tokens digit octet few reads =
    token_reads (kind.Number n) (decimal n ++ rest) rest tokens
    (λ fine. let are : AreDigits (decimal n) = decimal_digits (decimal n) n (decimal_spelt n (omega arith)) in
    (number_stands (decimal n) rest (record { 0 = n }) are (asn_printed n fine) digit octet few, number_front (decimal n) rest are)) refl reads

pub number_reads : (n : ℕ) (rest : List ℕ) (tokens : List Kind) → ends rest ≡ true → Reads rest tokens → Reads (decimal n ++ rest) (kind.Number n ∷ tokens)
number_reads n rest tokens stops reads = (let e : Ended rest = ended rest stops in decimal_reads n rest tokens e.2 e.5 e.4 reads)

pub addr_reads : (a : Addr) (rest : List ℕ) (tokens : List Kind) → ends rest ≡ true → Reads rest tokens → Reads (addr_text a ++ rest) (kind.Addr a ∷ tokens)
addr_reads a rest tokens stops reads =
    let e : Ended rest = ended rest stops in
    token_reads (kind.Addr a) (addr_text a ++ rest) rest tokens (λ fine. (address_stands (addr_text a) rest a (addr_printed a) e.1 e.3, address_front (addr_text a) rest (addr_begins (addr_text a) a (addr_printed a)))) refl reads

pub prefix_reads : (p : Prefix) (rest : List ℕ) (tokens : List Kind) → ends rest ≡ true → Reads rest tokens → Reads (prefix_text p ++ rest) (kind.Prefix p ∷ tokens)
prefix_reads p rest tokens stops reads =
    let e : Ended rest = ended rest stops in
    token_reads (kind.Prefix p) (prefix_text p ++ rest) rest tokens (λ fine. (prefix_stands (prefix_text p) rest p (prefix_printed p) e.2, address_front (prefix_text p) rest (prefix_begins (prefix_text p) p (prefix_printed p)))) refl reads

pub text_reads : (said rest : List ℕ) (tokens : List Kind) → Reads rest tokens → Reads (34 ∷ (said ++ (34 ∷ rest))) (kind.Text said ∷ tokens)
text_reads said rest tokens reads =
    token_reads (kind.Text said) (34 ∷ (said ++ (34 ∷ rest))) rest tokens (λ (all, short). (text_stands said rest all short, refl)) refl reads

-- Marks.

-- no mark is made of it and the next byte
abbrev pub is_plain : Mark → Bool
is_plain mark.Dot = false
is_plain mark.Colon = false
is_plain mark.Less = false
is_plain mark.Greater = false
is_plain mark.Not = false
is_plain mark.Minus = false
is_plain mark.Slash = false
is_plain _ = true

apart : (m : Mark) (rest : List ℕ) → is_plain m ≡ true → joins m rest ≡ false
apart mark.Dot rest e = absurd cc
apart mark.Colon rest e = absurd cc
apart mark.Less rest e = absurd cc
apart mark.Greater rest e = absurd cc
apart mark.Not rest e = absurd cc
apart mark.Minus rest e = absurd cc
apart mark.Slash rest e = absurd cc
apart m [] e = alone m e
  where
    alone : (m : Mark) → is_plain m ≡ true → joins m [] ≡ false
    alone mark.Semicolon e = refl
    alone _ e = refl
apart m (c ∷ cs) e = before m c cs e
  where
    before : (m : Mark) (c : ℕ) (cs : List ℕ) → is_plain m ≡ true → joins m (c ∷ cs) ≡ false
    before mark.Dot c cs e = absurd cc
    before mark.Colon c cs e = absurd cc
    before mark.Less c cs e = absurd cc
    before mark.Greater c cs e = absurd cc
    before mark.Not c cs e = absurd cc
    before mark.Minus c cs e = absurd cc
    before mark.Slash c cs e = absurd cc
    before _ c cs e = refl

pub mark_reads : (m : Mark) (rest : List ℕ) (tokens : List Kind) → same_mark m mark.Colon ≡ false → joins m rest ≡ false → is_last (kind.Mark m) ≡ false → Reads rest tokens
    → Reads (mark_text m ++ rest) (kind.Mark m ∷ tokens)
mark_reads m rest tokens other apart more reads = token_reads (kind.Mark m) (mark_text m ++ rest) rest tokens (λ fine. (other_mark_stands m rest other apart, mark_front m rest more)) more reads

is_other : (m : Mark) → is_plain m ≡ true → (same_mark m mark.Colon ≡ false) × (is_last (kind.Mark m) ≡ false)
is_other mark.Colon e = absurd cc
is_other mark.Slash e = absurd cc
is_other _ e = (refl, refl)

pub sign_reads : (m : Mark) (rest : List ℕ) (tokens : List Kind) → is_plain m ≡ true → Reads rest tokens → Reads (mark_text m ++ rest) (kind.Mark m ∷ tokens)
sign_reads m rest tokens plain reads = (let o = is_other m plain in mark_reads m rest tokens o.0 (apart m rest plain) o.1 reads)

pub colon_reads : (rest : List ℕ) (tokens : List Kind) → FewColons (58 ∷ rest) → Reads rest tokens → Reads (58 ∷ rest) (kind.Mark mark.Colon ∷ tokens)
colon_reads rest tokens few reads = token_reads (kind.Mark mark.Colon) (58 ∷ rest) rest tokens (λ fine. (colon_stands rest few, refl)) refl reads

-- a number and two dots, and another number
pub between_reads : (low high : ℕ) (rest : List ℕ) (tokens : List Kind) → begins_with is_digit rest ≡ false → NoOctet rest → FewColons rest → Reads rest tokens
    → Reads (decimal low ++ (46 ∷ 46 ∷ (decimal high ++ rest))) (kind.Number low ∷ kind.Mark mark.Range ∷ kind.Number high ∷ tokens)
unfolding Reads
between_reads low high rest tokens digit octet few reads written =
    let are : AreDigits (decimal high) = decimal_digits (decimal high) high (decimal_spelt high (let fine : high < 2 ^ 32 = written.1.1.0 in omega arith)) in
    let more : FewColons (46 ∷ 46 ∷ (decimal high ++ rest)) = few_colons (decimal high) rest (digits_are_words (decimal high) are.1) few in
    decimal_reads low (46 ∷ 46 ∷ (decimal high ++ rest)) (kind.Mark mark.Range ∷ kind.Number high ∷ tokens) refl refl more
    (sign_reads mark.Range (decimal high ++ rest) (kind.Number high ∷ tokens) refl (decimal_reads high rest tokens digit octet few reads)) written

-- What `!` stands before.

-- neither `=` nor `~`
abbrev pub is_start : List Kind → Bool
is_start [] = false
is_start (kind.Mark m ∷ tokens) = not (same_mark m mark.Equal) && not (same_mark m mark.In)
is_start (k ∷ tokens) = true

same_front : (m : Mark) (text cs here rest : List ℕ) (k : Kind) → text ≡ mark_text m ++ cs → same_mark m mark.Colon ≡ false → joins m cs ≡ false → behind_blank (mark_text m ++ cs) ≡ None
    → Gap text here → Stands k here rest → k ≡ kind.Mark m
same_front m text cs here rest k is other apart front gap stands =
    let at : mark_text m ++ cs ≡ here = one_gap (mark_text m ++ cs) (mark_text m ++ cs) here (gap_here (mark_text m ++ cs) front) (subst (λ t. Gap t here) is gap) in
    (one_stands (mark_text m ++ cs) k (kind.Mark m) rest cs (subst (λ t. Stands k t rest) (sym at) stands) (other_mark_stands m cs other apart)).0

start_apart : (text : List ℕ) (placed : List Placed) → Tokens text placed → is_start (placed_kinds placed) ≡ true → joins mark.Not text ≡ false
start_apart [] placed have start = refl
start_apart (c ∷ cs) [] have start = absurd cc
start_apart (c ∷ cs) (t ∷ ts) (here, rest, gap, stands, left, last, goes) start =
    let p : (c == 61) ≡ false = no_equal (c == 61) refl in
    let q : (c == 126) ≡ false = no_in (c == 126) refl in
    rw (p, q) refl
  where
    no_equal : (same : Bool) → (c == 61) ≡ same → same ≡ false
    no_equal false e = refl
    no_equal true e =
        let is : c ∷ cs ≡ 61 ∷ cs = ap (λ x. x ∷ cs) (eqb-true c 61 e) in
        let k : t.kind ≡ kind.Mark mark.Equal = same_front mark.Equal (c ∷ cs) cs here rest t.kind is refl (apart mark.Equal cs refl) refl gap stands in
        let h : false ≡ true = subst (λ x. is_start (x ∷ placed_kinds ts) ≡ true) k start in absurd cc

    no_in : (same : Bool) → (c == 126) ≡ same → same ≡ false
    no_in false e = refl
    no_in true e =
        let is : c ∷ cs ≡ 126 ∷ cs = ap (λ x. x ∷ cs) (eqb-true c 126 e) in
        let k : t.kind ≡ kind.Mark mark.In = same_front mark.In (c ∷ cs) cs here rest t.kind is refl (apart mark.In cs refl) refl gap stands in
        let h : false ≡ true = subst (λ x. is_start (x ∷ placed_kinds ts) ≡ true) k start in absurd cc

pub not_reads : (rest : List ℕ) (tokens : List Kind) → is_start tokens ≡ true → Reads rest tokens → Reads (33 ∷ rest) (kind.Mark mark.Not ∷ tokens)
unfolding Reads
not_reads rest tokens start reads written =
    let h : HasTokens rest tokens = reads written.1 in
    let e : joins mark.Not rest ≡ false = start_apart rest h.0 h.1 (subst (λ x. is_start x ≡ true) (sym h.2) start) in
    mark_reads mark.Not rest tokens refl e refl reads written
