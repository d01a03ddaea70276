-- Marks: the one that is read is the longest, and the longest is read.
use Rattle.std.proofs.Common.{◌≡◌, ◌⊎◌, inl, inr, ℕ, ◌≤◌, Bool, true, false, ◌&&◌, ◌==◌, List, [], ◌∷◌, ◌++◌, length, Option, Some, None, refl, sym, ap, ◌∙◌, arith, subst, if◌then◌else◌}
use Rattle.std.proofs.lemmas.Bool.{and_parts, eqb-true}
use Rattle.std.proofs.lemmas.List.{length-append}
use Rattle.std.specs.Option.{option_or}
use Rattle.ixp_lang_tokens.specs.declared.shape.Shape.TheVariants as shape
use Rattle.ixp_lang_tokens.specs.declared.token.Mark.{Mark}
use Rattle.ixp_lang_tokens.specs.declared.token.Mark.TheVariants as mark
use Rattle.ixp_lang_tokens.specs.Tokens.{mark_text}
use Rattle.ixp_lang_tokens.specs.Cutting.{double_mark, bracket, point, operator, single_mark, Piece, piece, single_piece, double_piece, mark_piece, plain_piece}

-- two bytes

abbrev IsTwo : ℕ → ℕ → Mark → Type 0
IsTwo b c m = mark_text m ≡ b ∷ c ∷ []

two_step : (b c x y : ℕ) (m n : Mark) (t : Bool) (other : Option Mark) → mark_text m ≡ x ∷ y ∷ [] → (t ≡ true → (b == x && c == y) ≡ true)
    → (other ≡ Some n → IsTwo b c n) → (if t then Some m else other) ≡ Some n → IsTwo b c n
two_step b c x y m n true other is test again e =
    let p : ((b == x) ≡ true) × ((c == y) ≡ true) = and_parts _ _ (test refl) in
    let q : b ≡ x = eqb-true b x p.0 in
    let r : c ≡ y = eqb-true c y p.1 in
    let s : m ≡ n = cc in cc
two_step b c x y m n false other is test again e = again e

none_two : (b c : ℕ) (n : Mark) → None ≡ Some n → IsTwo b c n
none_two b c n e = absurd cc

pub double_sound : (b c : ℕ) (n : Mark) → double_mark b c ≡ Some n → IsTwo b c n
double_sound b c n e =
    two_step b c 46 46 mark.Range n (b == 46 && c == 46) _ refl (λ h. h)
    (two_step b c 33 61 mark.Unequal n (b == 33 && c == 61) _ refl (λ h. h)
    (two_step b c 33 126 mark.NotIn n (b == 33 && c == 126) _ refl (λ h. h)
    (two_step b c 60 61 mark.LessEqual n (b == 60 && c == 61) _ refl (λ h. h)
    (two_step b c 62 61 mark.GreaterEqual n (b == 62 && c == 61) _ refl (λ h. h)
    (two_step b c 38 38 mark.And n (b == 38 && c == 38) _ refl (λ h. h)
    (two_step b c 124 124 mark.Or n (b == 124 && c == 124) _ refl (λ h. h)
    (two_step b c 45 62 mark.Arrow n (b == 45 && c == 62) _ refl (λ h. h)
    (none_two b c n)))))))) e

-- one byte

abbrev IsOne : ℕ → Mark → Type 0
IsOne b m = mark_text m ≡ b ∷ []

one_step : (b x : ℕ) (m n : Mark) (t : Bool) (other : Option Mark) → mark_text m ≡ x ∷ [] → (t ≡ true → (b == x) ≡ true)
    → (other ≡ Some n → IsOne b n) → (if t then Some m else other) ≡ Some n → IsOne b n
one_step b x m n true other is test again e =
    let q : b ≡ x = eqb-true b x (test refl) in
    let s : m ≡ n = cc in cc
one_step b x m n false other is test again e = again e

none_one : (b : ℕ) (n : Mark) → None ≡ Some n → IsOne b n
none_one b n e = absurd cc

bracket_sound : (b : ℕ) (n : Mark) → bracket b ≡ Some n → IsOne b n
bracket_sound b n e =
    one_step b 40 mark.Open n (b == 40) _ refl (λ h. h)
    (one_step b 41 mark.Close n (b == 41) _ refl (λ h. h)
    (one_step b 123 mark.BlockOpen n (b == 123) _ refl (λ h. h)
    (one_step b 125 mark.BlockClose n (b == 125) _ refl (λ h. h)
    (one_step b 91 mark.SetOpen n (b == 91) _ refl (λ h. h)
    (one_step b 93 mark.SetClose n (b == 93) _ refl (λ h. h)
    (none_one b n)))))) e

point_sound : (b : ℕ) (n : Mark) → point b ≡ Some n → IsOne b n
point_sound b n e =
    one_step b 59 mark.Semicolon n (b == 59) _ refl (λ h. h)
    (one_step b 44 mark.Comma n (b == 44) _ refl (λ h. h)
    (one_step b 46 mark.Dot n (b == 46) _ refl (λ h. h)
    (one_step b 58 mark.Colon n (b == 58) _ refl (λ h. h)
    (none_one b n)))) e

operator_sound : (b : ℕ) (n : Mark) → operator b ≡ Some n → IsOne b n
operator_sound b n e =
    one_step b 61 mark.Equal n (b == 61) _ refl (λ h. h)
    (one_step b 60 mark.Less n (b == 60) _ refl (λ h. h)
    (one_step b 62 mark.Greater n (b == 62) _ refl (λ h. h)
    (one_step b 126 mark.In n (b == 126) _ refl (λ h. h)
    (one_step b 33 mark.Not n (b == 33) _ refl (λ h. h)
    (one_step b 43 mark.Plus n (b == 43) _ refl (λ h. h)
    (one_step b 45 mark.Minus n (b == 45) _ refl (λ h. h)
    (one_step b 42 mark.Star n (b == 42) _ refl (λ h. h)
    (one_step b 47 mark.Slash n (b == 47) _ refl (λ h. h)
    (none_one b n))))))))) e

either_one : (b : ℕ) (n : Mark) (o other : Option Mark) → (o ≡ Some n → IsOne b n) → (other ≡ Some n → IsOne b n) → option_or o other ≡ Some n → IsOne b n
either_one b n (Some m) other here again e = here e
either_one b n None other here again e = again e

pub single_sound : (b : ℕ) (n : Mark) → single_mark b ≡ Some n → IsOne b n
unfolding single_mark
single_sound b n e =
    either_one b n (bracket b) (option_or (point b) (operator b)) (bracket_sound b n)
    (either_one b n (point b) (operator b) (point_sound b n) (operator_sound b n)) e

-- how a mark is read

at_one : (b x : ℕ) (m : Mark) → x ∷ [] ≡ b ∷ [] → single_mark x ≡ Some m → single_mark b ≡ Some m
at_one b x m e p =
    let q : x ≡ b = cc in
    let P : ℕ → Type 0 = λ y. single_mark y ≡ Some m in subst P q p

at_two : (b c x y : ℕ) (m : Mark) → x ∷ y ∷ [] ≡ b ∷ c ∷ [] → double_mark x y ≡ Some m → double_mark b c ≡ Some m
at_two b c x y m e p =
    let q : x ≡ b = cc in
    let r : y ≡ c = cc in
    let P : ℕ → Type 0 = λ z. double_mark z y ≡ Some m in
    let Q : ℕ → Type 0 = λ z. double_mark b z ≡ Some m in subst Q r (subst P q p)

-- a mark is one byte or two
abbrev pub HasMark : Mark → Type 0
HasMark m = ((x : ℕ) × (mark_text m ≡ x ∷ []) × (single_mark x ≡ Some m)) ⊎ ((x y : ℕ) × (mark_text m ≡ x ∷ y ∷ []) × (double_mark x y ≡ Some m))

pub has_mark : (m : Mark) → HasMark m
unfolding single_mark
has_mark mark.Range = inr (46, 46, refl, refl)
has_mark mark.Unequal = inr (33, 61, refl, refl)
has_mark mark.NotIn = inr (33, 126, refl, refl)
has_mark mark.LessEqual = inr (60, 61, refl, refl)
has_mark mark.GreaterEqual = inr (62, 61, refl, refl)
has_mark mark.And = inr (38, 38, refl, refl)
has_mark mark.Or = inr (124, 124, refl, refl)
has_mark mark.Arrow = inr (45, 62, refl, refl)
has_mark mark.Semicolon = inl (59, refl, refl)
has_mark mark.Comma = inl (44, refl, refl)
has_mark mark.Dot = inl (46, refl, refl)
has_mark mark.Colon = inl (58, refl, refl)
has_mark mark.Open = inl (40, refl, refl)
has_mark mark.Close = inl (41, refl, refl)
has_mark mark.BlockOpen = inl (123, refl, refl)
has_mark mark.BlockClose = inl (125, refl, refl)
has_mark mark.SetOpen = inl (91, refl, refl)
has_mark mark.SetClose = inl (93, refl, refl)
has_mark mark.Equal = inl (61, refl, refl)
has_mark mark.Less = inl (60, refl, refl)
has_mark mark.Greater = inl (62, refl, refl)
has_mark mark.In = inl (126, refl, refl)
has_mark mark.Not = inl (33, refl, refl)
has_mark mark.Plus = inl (43, refl, refl)
has_mark mark.Minus = inl (45, refl, refl)
has_mark mark.Star = inl (42, refl, refl)
has_mark mark.Slash = inl (47, refl, refl)

-- no mark at the front of the text is longer than n
abbrev pub Longest : ℕ → List ℕ → Type 0
Longest n text = (other : Mark) (behind : List ℕ) → text ≡ mark_text other ++ behind → length (mark_text other) ≤ n

pub longest_two : (text : List ℕ) → Longest 2 text
longest_two text other behind e = by_shape (has_mark other)
  where
    by_shape : HasMark other → length (mark_text other) ≤ 2
    by_shape (inl (x, is, read)) = omega (arith, ap length is)
    by_shape (inr (x, y, is, read)) = omega (arith, ap length is)

pub longest_one : (b c : ℕ) (cs : List ℕ) → double_mark b c ≡ None → Longest 1 (b ∷ c ∷ cs)
longest_one b c cs none other behind e = by_shape (has_mark other)
  where
    by_shape : HasMark other → length (mark_text other) ≤ 1
    by_shape (inl (x, is, read)) = omega (arith, ap length is)
    by_shape (inr (x, y, is, read)) =
        let p : x ≡ b = cc in
        let q : y ≡ c = cc in
        let r : double_mark b c ≡ Some other = at_two b c x y other (cc) read in absurd cc

pub longest_last : (b : ℕ) → Longest 1 (b ∷ [])
longest_last b other behind e = omega (arith, ap length e, length-append (mark_text other) behind)

-- the mark at the front, and what is behind it
abbrev pub MarkAt : Mark → List ℕ → List ℕ → List ℕ → Type 0
MarkAt m text said rest = (said ≡ []) × (text ≡ mark_text m ++ rest) × Longest (length (mark_text m)) text

-- the piece is the mark at the front, or none
abbrev pub IsMarkPiece : List ℕ → Piece → Type 0
IsMarkPiece text (piece (shape.Mark m) p rest) = MarkAt m text p rest
IsMarkPiece text (piece shape.Stray p rest) = Unit {0}
IsMarkPiece text (piece s p rest) = ⊥

one_mark : (b : ℕ) (rest : List ℕ) → Longest 1 (b ∷ rest) → (o : Option Mark) → single_mark b ≡ o → IsMarkPiece (b ∷ rest) (single_piece rest o)
one_mark b rest longest (Some m) e =
    let is : mark_text m ≡ b ∷ [] = single_sound b m e in
    let P : List ℕ → Type 0 = λ t. (b ∷ rest ≡ t ++ rest) × Longest (length t) (b ∷ rest) in
    let p : (b ∷ rest ≡ mark_text m ++ rest) × Longest (length (mark_text m)) (b ∷ rest) = subst P (sym is) (refl, longest) in
    (refl, p.0, p.1)
one_mark b rest longest None e = tt

two_marks : (b c : ℕ) (rest : List ℕ) (o : Option Mark) → double_mark b c ≡ o → IsMarkPiece (b ∷ c ∷ rest) (double_piece b c rest o)
two_marks b c rest (Some m) e =
    let is : mark_text m ≡ b ∷ c ∷ [] = double_sound b c m e in
    let P : List ℕ → Type 0 = λ t. (b ∷ c ∷ rest ≡ t ++ rest) × Longest (length t) (b ∷ c ∷ rest) in
    let p : (b ∷ c ∷ rest ≡ mark_text m ++ rest) × Longest (length (mark_text m)) (b ∷ c ∷ rest) = subst P (sym is) (refl, longest_two (b ∷ c ∷ rest)) in
    (refl, p.0, p.1)
two_marks b c rest None e = one_mark b (c ∷ rest) (longest_one b c rest e) (single_mark b) refl

pub mark_sound : (b : ℕ) (bs : List ℕ) → IsMarkPiece (b ∷ bs) (mark_piece b bs)
unfolding mark_piece
mark_sound b [] = one_mark b [] (longest_last b) (single_mark b) refl
mark_sound b (c ∷ rest) = two_marks b c rest (double_mark b c) refl

-- the longest mark is read

double_again : (b c : ℕ) (rest : List ℕ) (m : Mark) → single_mark b ≡ Some m → Longest 1 (b ∷ c ∷ rest) → (o : Option Mark) → double_mark b c ≡ o
    → double_piece b c rest o ≡ piece (shape.Mark m) [] (c ∷ rest)
double_again b c rest m read longest (Some n) e =
    let is : mark_text n ≡ b ∷ c ∷ [] = double_sound b c n e in
    let P : List ℕ → Type 0 = λ t. b ∷ c ∷ rest ≡ t ++ rest in
    absurd (omega (arith, longest n rest (subst P (sym is) refl), ap length is))
double_again b c rest m read longest None e = rw read refl

single_again : (b : ℕ) (bs : List ℕ) (m : Mark) → single_mark b ≡ Some m → Longest 1 (b ∷ bs) → mark_piece b bs ≡ piece (shape.Mark m) [] bs
unfolding mark_piece
single_again b [] m read longest = rw read refl
single_again b (c ∷ rest) m read longest = double_again b c rest m read longest (double_mark b c) refl

-- the mark at the front of a text that isn't empty
abbrev front_mark : List ℕ → Piece
front_mark [] = piece shape.Stray [] []
front_mark (b ∷ bs) = mark_piece b bs

by_shape : (m : Mark) (text rest : List ℕ) → text ≡ mark_text m ++ rest → Longest (length (mark_text m)) text → HasMark m → front_mark text ≡ piece (shape.Mark m) [] rest
unfolding mark_piece
by_shape m text rest e longest (inl (x, is, read)) =
    let whole : text ≡ x ∷ rest = (let P : List ℕ → Type 0 = λ t. text ≡ t ++ rest in subst P is e) in
    let P : List ℕ → Type 0 = λ t. front_mark t ≡ piece (shape.Mark m) [] rest in
    let Q : List ℕ → Type 0 = λ t. Longest (length t) (x ∷ rest) in
    let R : List ℕ → Type 0 = λ t. Longest (length (mark_text m)) t in
    subst P (sym whole) (single_again x rest m read (subst Q is (subst R whole longest)))
by_shape m text rest e longest (inr (x, y, is, read)) =
    let whole : text ≡ x ∷ y ∷ rest = (let P : List ℕ → Type 0 = λ t. text ≡ t ++ rest in subst P is e) in
    let P : List ℕ → Type 0 = λ t. front_mark t ≡ piece (shape.Mark m) [] rest in
    let again : mark_piece x (y ∷ rest) ≡ piece (shape.Mark m) [] rest = rw read refl in
    subst P (sym whole) again

-- no mark begins as something else does
plain_mark : (m : Mark) (rest : List ℕ) → plain_piece (mark_text m ++ rest) ≡ front_mark (mark_text m ++ rest)
unfolding plain_piece
plain_mark mark.Semicolon rest = refl
plain_mark _ rest = refl

pub mark_complete : (m : Mark) (text rest : List ℕ) → text ≡ mark_text m ++ rest → Longest (length (mark_text m)) text → plain_piece text ≡ piece (shape.Mark m) [] rest
mark_complete m text rest e longest =
    let P : List ℕ → Type 0 = λ t. plain_piece t ≡ front_mark t in
    subst P (sym e) (plain_mark m rest) ∙ by_shape m text rest e longest (has_mark m)
