-- The piece that is read is cut, and the piece that is cut is read.
use Rattle.std.proofs.Common.{◌≡◌, inl, inr, ℕ, ◌<◌, ◌≤◌, nat_le, Bool, true, false, ◌&&◌, ◌||◌, ◌==◌, List, [], ◌∷◌, ◌++◌, length, Option, Some, None, refl, sym, ap, ◌∙◌, arith, subst, if◌then◌else◌}
use Rattle.std.specs.List.{list_all}
use Rattle.std.proofs.lemmas.Bool.Decides.{nat_tests}
use Rattle.std.proofs.lemmas.Bool.{and_parts, eqb-true, leb-true, le-leb}
use Rattle.std.proofs.lemmas.List.{length-append, append_assoc}
use Rattle.ixp_lang_tokens.specs.declared.runs.Class.TheVariants as class
use Rattle.ixp_lang_tokens.specs.declared.shape.Shape.{Shape}
use Rattle.ixp_lang_tokens.specs.declared.shape.Shape.TheVariants as shape
use Rattle.ixp_lang_tokens.specs.declared.token.Mark.{Mark}
use Rattle.ixp_lang_tokens.specs.Bytes.{is_in, is_digit, is_letter, begins_with, Run}
use Rattle.ixp_lang_tokens.specs.Tokens.{mark_text, AddressRun, NoAddress, LengthRun, Cut}
use Rattle.ixp_lang_tokens.specs.Cutting.{run_of, behind_run, before, behind_number, behind_dotted, is_colon_text, behind_address, Piece, piece, mark_piece, text_with, text_piece, plain_piece, address_piece, piece_with, piece_at}
use Rattle.ixp_lang_tokens.proofs.RunLaws.{before_append, run_sound, run_complete, run_again, behind_again, run_parts, run_all}
use Rattle.ixp_lang_tokens.proofs.AddressLaws.{address_sound, address_parts, address_complete, address_shorter, no_address, none_address, length_sound, length_parts, length_complete, no_length, none_length}
use Rattle.ixp_lang_tokens.proofs.MarkLaws.{IsMarkPiece, HasMark, has_mark, mark_sound, mark_complete}

-- the piece is cut, if it isn't the one of a text in which none is
abbrev pub IsCut : List ℕ → Piece → Type 0
IsCut text (piece shape.Stray said rest) = Unit {0}
IsCut text (piece s said rest) = Cut s text said rest

-- strings

text_step : (b c : ℕ) (bs run behind : List ℕ) (t : Bool) → (c == 34 && nat_le (length run) 64) ≡ t → b ≡ 34 → bs ≡ run ++ (c ∷ behind) → list_all (is_in class.Text) run ≡ true
    → IsCut (b ∷ bs) (if t then piece shape.Text run behind else piece shape.Stray [] bs)
text_step b c bs run behind true p is e all =
    let q : ((c == 34) ≡ true) × (nat_le (length run) 64 ≡ true) = and_parts _ _ p in
    let r : c ≡ 34 = eqb-true c 34 q.0 in
    (cc, all, leb-true _ _ q.1)
text_step b c bs run behind false p is e all = tt

text_cases : (b : ℕ) (bs run rest : List ℕ) → b ≡ 34 → bs ≡ run ++ rest → list_all (is_in class.Text) run ≡ true → IsCut (b ∷ bs) (text_with bs run rest)
text_cases b bs run [] is e all = tt
text_cases b bs run (c ∷ behind) is e all = text_step b c bs run behind (c == 34 && nat_le (length run) 64) refl is e all

text_sound : (b : ℕ) (bs : List ℕ) → b ≡ 34 → IsCut (b ∷ bs) (text_piece bs)
unfolding text_piece
text_sound b bs is = text_cases b bs (run_of class.Text bs) (behind_run class.Text bs) is (run_parts class.Text bs) (run_all class.Text bs)

-- marks

marked : (b : ℕ) (bs : List ℕ) → NoAddress (b ∷ bs) → (p : Piece) → IsMarkPiece (b ∷ bs) p → IsCut (b ∷ bs) p
marked b bs none (piece (shape.Mark m) said rest) (empty, is, longest) = (none, empty, is, longest)
marked b bs none (piece shape.Stray said rest) h = tt
marked b bs none (piece _ said rest) h = absurd h

-- where no address stands

plain_steps : (b : ℕ) (bs : List ℕ) → NoAddress (b ∷ bs) → (t u v : Bool) → is_digit b ≡ t → is_letter b ≡ u → (b == 34) ≡ v
    → IsCut (b ∷ bs)
    (if t then piece shape.Number (run_of class.Digit (b ∷ bs)) (behind_run class.Digit (b ∷ bs))
    else (if u then piece shape.Word (run_of class.Word (b ∷ bs)) (behind_run class.Word (b ∷ bs))
    else (if v then text_piece bs else mark_piece b bs)))
plain_steps b bs none true u v p q r =
    let P : Bool → Type 0 = λ x. 0 < length (if x then b ∷ run_of class.Digit bs else []) in
    let some : 0 < length (b ∷ run_of class.Digit bs) = omega arith in
    (none, subst P (sym p) some, run_sound class.Digit (b ∷ bs))
plain_steps b bs none false true v p q r = (none, q, run_sound class.Word (b ∷ bs))
plain_steps b bs none false false true p q r = text_sound b bs (eqb-true b 34 r)
plain_steps b bs none false false false p q r = marked b bs none (mark_piece b bs) (mark_sound b bs)

plain_sound : (text : List ℕ) → NoAddress text → IsCut text (plain_piece text)
unfolding plain_piece
plain_sound [] none = tt
plain_sound (b ∷ bs) none = plain_steps b bs none (is_digit b) (is_letter b) (b == 34) refl refl refl

-- addresses and prefixes

before_parts : (text front rest : List ℕ) → text ≡ front ++ rest → before text rest ≡ front
before_parts text front rest e =
    let P : List ℕ → Type 0 = λ t. before t rest ≡ front in subst P (sym e) (before_append front rest)

prefix_parts : (text addr mid run rest : List ℕ) → text ≡ addr ++ mid → mid ≡ run ++ rest → text ≡ (addr ++ run) ++ rest
prefix_parts text addr mid run rest p q =
    let e : text ≡ addr ++ (run ++ rest) = cc in e ∙ sym (append_assoc addr run rest)

address_cut : (text mid : List ℕ) → AddressRun text (before text mid) mid → (o : Option (List ℕ)) → behind_number 47 mid ≡ o → IsCut text (address_piece text mid o)
address_cut text mid h None e = (h, no_length mid e)
address_cut text mid h (Some rest) e =
    let (run, is, parts) = length_sound mid rest e in
    let same : before text rest ≡ before text mid ++ run = before_parts text (before text mid ++ run) rest (prefix_parts text (before text mid) mid run rest (address_parts text (before text mid) mid h) parts) in
    (before text mid, mid, run, h, is, same)

piece_step : (text : List ℕ) (o : Option (List ℕ)) → behind_address text ≡ o → IsCut text (piece_with text o)
piece_step text None e = plain_sound text (no_address text e)
piece_step text (Some mid) e = address_cut text mid (address_sound text mid e) (behind_number 47 mid) refl

pub piece_sound : (text : List ℕ) → IsCut text (piece_at text)
unfolding piece_at
piece_sound text = piece_step text (behind_address text) refl

-- What is cut is read.

address_again : (text run rest : List ℕ) → AddressRun text run rest → ((other behind : List ℕ) → ¬ (LengthRun rest other behind)) → piece_at text ≡ piece shape.Address run rest
unfolding piece_at
address_again text run rest h none =
    let p : behind_address text ≡ Some rest = address_complete text run rest h in
    let q : behind_number 47 rest ≡ None = none_length rest none in
    let r : before text rest ≡ run = before_parts text run rest (address_parts text run rest h) in
    rw (p, q, r) refl

prefix_again : (text addr mid run rest said : List ℕ) → AddressRun text addr mid → LengthRun mid run rest → said ≡ addr ++ run → piece_at text ≡ piece shape.Prefix said rest
unfolding piece_at
prefix_again text addr mid run rest said h long is =
    let p : behind_address text ≡ Some mid = address_complete text addr mid h in
    let q : behind_number 47 mid ≡ Some rest = length_complete mid run rest long in
    let r : before text rest ≡ addr ++ run = before_parts text (addr ++ run) rest (prefix_parts text addr mid run rest (address_parts text addr mid h) (length_parts mid run rest long)) in
    rw (p, q, r) (ap (λ x. piece shape.Prefix x rest) (sym is))

plain_again : (text : List ℕ) (p : Piece) → behind_address text ≡ None → plain_piece text ≡ p → piece_at text ≡ p
unfolding piece_at
plain_again text p e is = rw e is

number_front : (b : ℕ) (bs said rest : List ℕ) → is_digit b ≡ true → run_of class.Digit (b ∷ bs) ≡ said → behind_run class.Digit (b ∷ bs) ≡ rest → plain_piece (b ∷ bs) ≡ piece shape.Number said rest
unfolding plain_piece
number_front b bs said rest p q r =
    let s : plain_piece (b ∷ bs) ≡ piece shape.Number (run_of class.Digit (b ∷ bs)) (behind_run class.Digit (b ∷ bs)) = rw p refl in cc

number_again : (text said rest : List ℕ) → 0 < length said → Run class.Digit text said rest → plain_piece text ≡ piece shape.Number said rest
number_again text [] rest some run = absurd (omega arith)
number_again text (b ∷ bs) rest some (is, all, ends) =
    let p : (is_digit b ≡ true) × (list_all is_digit bs ≡ true) = and_parts _ _ all in
    let P : List ℕ → Type 0 = λ t. plain_piece t ≡ piece shape.Number (b ∷ bs) rest in
    subst P (sym is) (number_front b (bs ++ rest) (b ∷ bs) rest p.0 (run_again class.Digit (b ∷ bs) rest all ends) (behind_again class.Digit (b ∷ bs) rest all ends))

-- no letter is a digit
letter_apart : (b : ℕ) (t : Bool) → is_digit b ≡ t → is_letter b ≡ true → is_digit b ≡ false
letter_apart b true p q = absurd (grind (arith, nat_tests))
letter_apart b false p q = p

word_front : (b : ℕ) (bs : List ℕ) → is_digit b ≡ false → is_letter b ≡ true → plain_piece (b ∷ bs) ≡ piece shape.Word (run_of class.Word (b ∷ bs)) (behind_run class.Word (b ∷ bs))
unfolding plain_piece
word_front b bs p q = rw (p, q) refl

word_again : (text said rest : List ℕ) → begins_with is_letter text ≡ true → Run class.Word text said rest → plain_piece text ≡ piece shape.Word said rest
word_again [] said rest letter run = absurd cc
word_again (b ∷ bs) said rest letter run =
    let p : plain_piece (b ∷ bs) ≡ piece shape.Word (run_of class.Word (b ∷ bs)) (behind_run class.Word (b ∷ bs)) = word_front b bs (letter_apart b (is_digit b) refl letter) letter in
    let q : (run_of class.Word (b ∷ bs) ≡ said) × (behind_run class.Word (b ∷ bs) ≡ rest) = run_complete class.Word (b ∷ bs) said rest run in cc

quote_no_address : (bs : List ℕ) → behind_address (34 ∷ bs) ≡ None
unfolding behind_address is_colon_text behind_dotted
quote_no_address bs = refl

text_front : (said rest : List ℕ) → list_all (is_in class.Text) said ≡ true → length said ≤ 64 → text_piece (said ++ (34 ∷ rest)) ≡ piece shape.Text said rest
unfolding text_piece
text_front said rest all short =
    let p : run_of class.Text (said ++ (34 ∷ rest)) ≡ said = run_again class.Text said (34 ∷ rest) all refl in
    let q : behind_run class.Text (said ++ (34 ∷ rest)) ≡ 34 ∷ rest = behind_again class.Text said (34 ∷ rest) all refl in
    let r : nat_le (length said) 64 ≡ true = le-leb _ _ short in
    rw (p, q, r) refl

text_plain : (bs : List ℕ) → plain_piece (34 ∷ bs) ≡ text_piece bs
unfolding plain_piece
text_plain bs = refl

text_again : (text said rest : List ℕ) → text ≡ 34 ∷ (said ++ (34 ∷ rest)) → list_all (is_in class.Text) said ≡ true → length said ≤ 64 → piece_at text ≡ piece shape.Text said rest
text_again text said rest is all short =
    let P : List ℕ → Type 0 = λ t. piece_at t ≡ piece shape.Text said rest in
    subst P (sym is) (plain_again (34 ∷ (said ++ (34 ∷ rest))) (piece shape.Text said rest) (quote_no_address (said ++ (34 ∷ rest))) (text_plain (said ++ (34 ∷ rest)) ∙ text_front said rest all short))

-- the piece that is cut is read
pub piece_complete : (s : Shape) (text said rest : List ℕ) → Cut s text said rest → piece_at text ≡ piece s said rest
piece_complete shape.Address text said rest (h, none) = address_again text said rest h none
piece_complete shape.Prefix text said rest (addr, mid, run, h, long, is) = prefix_again text addr mid run rest said h long is
piece_complete shape.Number text said rest (none, some, run) = plain_again text _ (none_address text none) (number_again text said rest some run)
piece_complete shape.Word text said rest (none, letter, run) = plain_again text _ (none_address text none) (word_again text said rest letter run)
piece_complete shape.Text text said rest (is, all, short) = text_again text said rest is all short
piece_complete (shape.Mark m) text said rest (none, empty, is, longest) =
    plain_again text _ (none_address text none) (mark_complete m text rest is longest ∙ ap (λ x. piece (shape.Mark m) x rest) (sym empty))
piece_complete shape.Stray text said rest h = absurd h

-- A piece takes a byte or more.

mark_some : (m : Mark) → 0 < length (mark_text m)
mark_some m = by_shape (has_mark m)
  where
    by_shape : HasMark m → 0 < length (mark_text m)
    by_shape (inl (x, is, read)) = omega (arith, ap length is)
    by_shape (inr (x, y, is, read)) = omega (arith, ap length is)

word_shorter : (text said rest : List ℕ) → begins_with is_letter text ≡ true → Run class.Word text said rest → length rest < length text
word_shorter text [] [] letter (is, all, ends) = let P : List ℕ → Type 0 = λ t. begins_with is_letter t ≡ true in let q : false ≡ true = subst P is letter in absurd cc
word_shorter text [] (b ∷ bs) letter (is, all, ends) =
    let P : List ℕ → Type 0 = λ t. begins_with is_letter t ≡ true in
    let q : is_letter b ≡ true = subst P is letter in
    let r : (is_letter b || is_digit b) ≡ false = ends in
    let s : (is_letter b || is_digit b) ≡ true = rw q refl in absurd cc
word_shorter text (b ∷ bs) rest letter (is, all, ends) = omega (arith, ap length is, length-append (b ∷ bs) rest)

pub cut_shorter : (s : Shape) (text said rest : List ℕ) → Cut s text said rest → length rest < length text
cut_shorter shape.Address text said rest (h, none) = address_shorter text said rest h
cut_shorter shape.Prefix text said rest (addr, mid, run, h, long, is) =
    omega (arith, address_shorter text addr mid h, ap length (length_parts mid run rest long), length-append run rest)
cut_shorter shape.Number text said rest (none, some, (is, all, ends)) = omega (arith, ap length is, length-append said rest)
cut_shorter shape.Word text said rest (none, letter, run) = word_shorter text said rest letter run
cut_shorter shape.Text text said rest (is, all, short) = omega (arith, ap length is, length-append said (34 ∷ rest))
cut_shorter (shape.Mark m) text said rest (none, empty, is, longest) = omega (arith, mark_some m, ap length is, length-append (mark_text m) rest)
cut_shorter shape.Stray text said rest h = absurd h
