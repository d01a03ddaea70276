-- Where heads begin and end, and that more bytes don't change it.
use Rattle.std.proofs.Common.{◌≡◌, ◌≤◌, ◌+◌, ◌-◌, ℕ, suc, Bool, true, false, nat_lt, nat_le, if◌then◌else◌, ◌==◌, ◌&&◌, ◌||◌, Option, None, Some, option_map, List, [], ◌∷◌, ◌++◌, length, take, drop, refl, sym, ap, ◌∙◌, subst, arith, append_assoc}
use Rattle.std.specs.Prelude.{zero}
use Rattle.std.proofs.lemmas.List.{append-nil, take-append-drop, take-append-le, drop-append-le}
use Rattle.std.proofs.lemmas.Grind.{common_steps}
use Rattle.std.proofs.lemmas.Bool.Decides.{nat_tests}
use Rattle.ixp_io.specs.Told.{WhereTold, IsDone}
use Rattle.ixp_http.specs.declared.head.Start.{Start}
use Rattle.ixp_http.specs.declared.head.Start.TheVariants.{Headed}
use Rattle.ixp_http.specs.Heads.{begins_with, line_end, blank_len, end_after, one_more, head_len, line_feeds, line_limit, head_limit, start_lined, start_open, start_after, start_front, start_within, start_of, is_open, IsCut, IsPlaced}

-- a length, from so many bytes before
abbrev pub onward : ℕ → Option ℕ → Option ℕ
onward n o = option_map (λ k. n + k) o

-- ---- the end of a head

abbrev ends : Bool → Bool → Option ℕ
ends feed return = if feed then Some 1 else (if return then Some 2 else None)

line_end_some : (bytes : List ℕ) → line_end bytes ≡ Some 0 → ⊥
line_end_some [] e = cc
line_end_some (b ∷ bytes) e = by (b == 10) (b == 13 && begins_with 10 bytes) e
  where
    by : (feed return : Bool) → ends feed return ≡ Some 0 → ⊥
    by true return e = cc
    by false true e = cc
    by false false e = cc

head_len_some : (bytes : List ℕ) → head_len bytes ≡ Some 0 → ⊥
head_len_some [] e = cc
head_len_some (b ∷ bytes) e = by (end_after b bytes) (head_len bytes) e
  where
    by : (o l : Option ℕ) → one_more o l ≡ Some 0 → ⊥
    by (Some m) l e = cc
    by None (Some k) e = cc
    by None None e = cc

end_after_some : (b : ℕ) (bytes : List ℕ) → end_after b bytes ≡ Some 0 → ⊥
end_after_some b bytes e = by (b == 10) e
  where
    by : (feed : Bool) → (if feed then line_end bytes else None) ≡ Some 0 → ⊥
    by true e = line_end_some bytes e
    by false e = cc

head_len_two : (b : ℕ) (bytes : List ℕ) → head_len (b ∷ bytes) ≡ Some 1 → ⊥
head_len_two b bytes e = by (end_after b bytes) refl (head_len bytes) refl e
  where
    by : (o : Option ℕ) → end_after b bytes ≡ o → (l : Option ℕ) → head_len bytes ≡ l → one_more o l ≡ Some 1 → ⊥
    by (Some zero) is l il e = end_after_some b bytes is
    by (Some (suc m)) is l il e = cc
    by None is (Some zero) il e = head_len_some bytes il
    by None is (Some (suc k)) il e = cc
    by None is None il e = cc

pub head_some : (bytes : List ℕ) (n : ℕ) → head_len bytes ≡ Some n → n ≡ 0 → ⊥
head_some bytes n e is = head_len_some bytes (e ∙ ap Some is)

-- a line end that is all of the bytes stays it, whatever follows
line_end_same : (xs ys more : List ℕ) → line_end (xs ++ ys) ≡ Some (length xs) → line_end (xs ++ more) ≡ Some (length xs)
line_end_same [] ys more e = absurd (line_end_some ys e)
line_end_same (b ∷ []) ys more e = by (b == 10) (b == 13 && begins_with 10 ys) (b == 13 && begins_with 10 more) e
  where
    by : (feed return other : Bool) → ends feed return ≡ Some 1
        → ends feed other ≡ Some 1
    by true return other e = refl
    by false true other e = absurd (cc)
    by false false other e = absurd (cc)
line_end_same (b ∷ c ∷ xs) ys more e = e

-- no line end stands there whatever follows, if the head goes on
line_end_on : (xs ys more : List ℕ) → head_len (xs ++ ys) ≡ Some (length xs) → line_end (xs ++ more) ≡ line_end (xs ++ ys)
line_end_on [] ys more e = absurd (head_len_some ys e)
line_end_on (b ∷ []) ys more e = absurd (head_len_two b ys e)
line_end_on (b ∷ c ∷ xs) ys more e = refl

-- a head that is all of the bytes stays it, whatever follows
pub head_same : (xs ys more : List ℕ) → head_len (xs ++ ys) ≡ Some (length xs) → head_len (xs ++ more) ≡ Some (length xs)
head_same [] ys more e = absurd (head_len_some ys e)
head_same (b ∷ xs) ys more e = by (end_after b (xs ++ ys)) refl (head_len (xs ++ ys)) refl e (head_same xs ys more)
  where
    after_same : (m : ℕ) → m ≡ length xs → end_after b (xs ++ ys) ≡ Some m → end_after b (xs ++ more) ≡ Some m
    after_same m is e = feed (b == 10) e
      where
        feed : (t : Bool) → (if t then line_end (xs ++ ys) else None) ≡ Some m → (if t then line_end (xs ++ more) else None) ≡ Some m
        feed true e = line_end_same xs ys more (e ∙ ap Some is) ∙ ap Some (sym is)
        feed false e = absurd (cc)

    by : (o : Option ℕ) → end_after b (xs ++ ys) ≡ o → (l : Option ℕ) → head_len (xs ++ ys) ≡ l → one_more o l ≡ Some (suc (length xs))
        → (head_len (xs ++ ys) ≡ Some (length xs) → head_len (xs ++ more) ≡ Some (length xs))
        → one_more (end_after b (xs ++ more)) (head_len (xs ++ more)) ≡ Some (suc (length xs))
    by (Some m) io l il e ih =
        let same : m ≡ length xs = cc in
        ap (λ (o : Option ℕ). one_more o (head_len (xs ++ more))) (after_same m same io) ∙ e
    by None io (Some k) il e ih =
        let same : k ≡ length xs = cc in
        let here : head_len (xs ++ ys) ≡ Some (length xs) = il ∙ ap Some same in
        ap (λ (o : Option ℕ). one_more o (head_len (xs ++ more)))
        (ap (λ (o : Option ℕ). if b == 10 then o else None) (line_end_on xs ys more here) ∙ io)
        ∙ ap (one_more None) (ih here)
    by None io None il e ih = absurd (cc)

-- the head lies in the bytes
pub head_fits : (xs : List ℕ) (n : ℕ) → head_len xs ≡ Some n → n ≤ length xs
head_fits [] n e = absurd (cc)
head_fits (b ∷ xs) n e = by (end_after b xs) refl (head_len xs) refl e (head_fits xs)
  where
    line_fits : (ys : List ℕ) (m : ℕ) → line_end ys ≡ Some m → m ≤ length ys
    line_fits [] m e = absurd (cc)
    line_fits (c ∷ []) m e = one (c == 10) (c == 13) e
      where
        one : (feed return : Bool) → (if feed then Some 1 else (if return && false then Some 2 else None)) ≡ Some m → m ≤ 1
        one true return e = let is : 1 ≡ m = cc in omega arith
        one false true e = absurd (cc)
        one false false e = absurd (cc)
    line_fits (c ∷ d ∷ ys) m e = two (c == 10) (c == 13 && d == 10) e
      where
        two : (feed return : Bool) → ends feed return ≡ Some m → m ≤ suc (suc (length ys))
        two true return e = let is : 1 ≡ m = cc in omega arith
        two false true e = let is : 2 ≡ m = cc in omega arith
        two false false e = absurd (cc)

    after_fits : (m : ℕ) → end_after b xs ≡ Some m → m ≤ length xs
    after_fits m e = feed (b == 10) e
      where
        feed : (t : Bool) → (if t then line_end xs else None) ≡ Some m → m ≤ length xs
        feed true e = line_fits xs m e
        feed false e = absurd (cc)

    by : (o : Option ℕ) → end_after b xs ≡ o → (l : Option ℕ) → head_len xs ≡ l → one_more o l ≡ Some n
        → ((k : ℕ) → head_len xs ≡ Some k → k ≤ length xs) → n ≤ suc (length xs)
    by (Some m) io l il e ih = let is : suc m ≡ n = cc in let fits = after_fits m io in omega arith
    by None io (Some k) il e ih = let is : suc k ≡ n = cc in let fits = ih k il in omega arith
    by None io None il e ih = absurd (cc)

-- the bytes up to the end of a head end there, whatever follows
pub head_cut : (xs : List ℕ) (n : ℕ) → head_len xs ≡ Some n → IsCut (take n xs)
head_cut xs n e more =
    let fits = head_fits xs n e in
    let size : length (take n xs) ≡ n = grind (arith, common_steps) in
    head_same (take n xs) (drop n xs) more (ap head_len (take-append-drop n xs) ∙ e ∙ ap Some (sym size))

-- more bytes don't change where a head ends
pub head_more : (xs more : List ℕ) (n : ℕ) → head_len xs ≡ Some n → head_len (xs ++ more) ≡ Some n
head_more xs more n e =
    let fits = head_fits xs n e in
    let size : length (take n xs) ≡ n = grind (arith, common_steps) in
    let parts : take n xs ++ (drop n xs ++ more) ≡ xs ++ more =
    sym (append_assoc (take n xs) (drop n xs) more) ∙ ap (λ (t : List ℕ). t ++ more) (take-append-drop n xs) in
    sym (ap head_len parts) ∙ head_cut xs n e (drop n xs ++ more) ∙ ap Some size

-- ---- empty lines

-- more bytes don't change how many empty lines there are, where a head follows
pub blank_more : (xs more : List ℕ) (n : ℕ) → head_len (drop (blank_len xs) xs) ≡ Some n → blank_len (xs ++ more) ≡ blank_len xs
blank_more [] more n e = absurd (cc)
blank_more (b ∷ []) more n e = absurd (by (b == 10) (b == 13) e)
  where
    last : (c : ℕ) → one_more (if c == 10 then None else None) None ≡ Some n → ⊥
    last c e = feed (c == 10) e
      where
        feed : (t : Bool) → one_more (if t then None else None) None ≡ Some n → ⊥
        feed true e = cc
        feed false e = cc

    by : (feed return : Bool) → head_len (drop (if feed || (return && false) then 1 else 0) (b ∷ [])) ≡ Some n → ⊥
    by true return e = cc
    by false true e = last b e
    by false false e = last b e
blank_more (b ∷ c ∷ xs) more n e = by (b == 10 || (b == 13 && (c == 10))) e (blank_more (c ∷ xs) more n)
  where
    by : (t : Bool) → head_len (drop (if t then suc (blank_len (c ∷ xs)) else 0) (b ∷ c ∷ xs)) ≡ Some n
        → (head_len (drop (blank_len (c ∷ xs)) (c ∷ xs)) ≡ Some n → blank_len (c ∷ (xs ++ more)) ≡ blank_len (c ∷ xs))
        → (if t then suc (blank_len (c ∷ (xs ++ more))) else 0) ≡ (if t then suc (blank_len (c ∷ xs)) else 0)
    by true e ih = ap suc (ih e)
    by false e ih = refl

pub blank_fits : (xs : List ℕ) → blank_len xs ≤ length xs
blank_fits [] = omega arith
blank_fits (b ∷ xs) = by (b == 10 || (b == 13 && begins_with 10 xs)) (blank_fits xs)
  where
    by : (t : Bool) → blank_len xs ≤ length xs → (if t then suc (blank_len xs) else 0) ≤ suc (length xs)
    by true fits = omega arith
    by false fits = omega arith

-- ---- what stands at the front

-- a head stands there, and whether it has too many lines
pub record IsLined (front : List ℕ) (from n : ℕ) (long : Bool) : Type 0 where
  pub blank : blank_len front ≡ from
  pub head : head_len (drop from front) ≡ Some n
  pub lines : nat_lt line_limit (line_feeds (take n (drop from front))) ≡ long

-- where no more bytes are needed below the limit, a head stands there
lined : (front : List ℕ) → is_open (start_front false front) ≡ false
    → (from : ℕ) × (n : ℕ) × (long : Bool) × IsLined front from n long
lined front e = by (head_len (drop (blank_len front) front)) refl e
  where
    open_ends : (rest : List ℕ) → is_open (start_open false rest) ≡ false → ⊥
    open_ends [] e = cc
    open_ends (b ∷ rest) e = cc

    by : (o : Option ℕ) → head_len (drop (blank_len front) front) ≡ o
        → is_open (start_after false (blank_len front) (drop (blank_len front) front) o) ≡ false
        → (from : ℕ) × (n : ℕ) × (long : Bool) × IsLined front from n long
    by None io e = absurd (open_ends (drop (blank_len front) front) e)
    by (Some n) io e = (blank_len front, n, _, record { blank = refl; head = io; lines = refl })

-- what that says of the start
start_by : (full : Bool) (front : List ℕ) (from n : ℕ) (long : Bool) → IsLined front from n long → start_front full front ≡ start_lined long from n
start_by full front from n long is =
    ap (λ (k : ℕ). start_after full k (drop k front) (head_len (drop k front))) is.blank
    ∙ ap (start_after full from (drop from front)) is.head
    ∙ ap (λ (t : Bool). start_lined t from n) is.lines

lined_more : (front more : List ℕ) (from n : ℕ) (long : Bool) → IsLined front from n long → IsLined (front ++ more) from n long
lined_more front more from n long is =
    let there : head_len (drop (blank_len front) front) ≡ Some n = ap (λ (k : ℕ). head_len (drop k front)) is.blank ∙ is.head in
    let within : from ≤ length front = omega (arith, blank_fits front, is.blank) in
    let fits = head_fits (drop from front) n is.head in
    let rest : drop from (front ++ more) ≡ drop from front ++ more = grind (arith, common_steps) in
    record {
      blank = blank_more front more n there ∙ is.blank;
      head = ap head_len rest ∙ head_more (drop from front) more n is.head;
      lines = ap (λ (t : List ℕ). nat_lt line_limit (line_feeds (take n t))) rest
          ∙ ap (λ (t : List ℕ). nat_lt line_limit (line_feeds t)) (take-append-le n (drop from front) more fits) ∙ is.lines;
    }

-- what isn't open below the limit stays, whatever follows
front_stays : (full : Bool) (front more : List ℕ) → is_open (start_front false front) ≡ false → start_front full (front ++ more) ≡ start_front false front
front_stays full front more e =
    let found = lined front e in
    start_by full (front ++ more) found.0 found.1 found.2 (lined_more front more found.0 found.1 found.2 found.3)
    ∙ sym (start_by false front found.0 found.1 found.2 found.3)

pub take_over : (xs ys : List ℕ) (n : ℕ) → take (length xs + n) (xs ++ ys) ≡ xs ++ take n ys
take_over [] ys n = let same : 0 + n ≡ n = omega arith in ap (λ (k : ℕ). take k ys) same
take_over (x ∷ xs) ys n =
    let same : suc (length xs) + n ≡ suc (length xs + n) = omega arith in
    ap (λ (k : ℕ). take k (x ∷ (xs ++ ys))) same ∙ ap (λ (t : List ℕ). x ∷ t) (take_over xs ys n)

-- what isn't open stays, whatever follows
pub stays : (limit : ℕ) (held more : List ℕ) → is_open (start_within limit held) ≡ false → start_within limit (held ++ more) ≡ start_within limit held
stays limit held more e = by (nat_le limit (length held)) refl
  where
    by : (full : Bool) → nat_le limit (length held) ≡ full → start_within limit (held ++ more) ≡ start_within limit held
    by true is =
        let reached : limit ≤ length held = grind (arith, nat_tests) in
        let still : nat_le limit (length (held ++ more)) ≡ true = grind (arith, nat_tests, common_steps) in
        ap (λ (t : Bool). start_front t (take limit (held ++ more))) (still ∙ sym is)
        ∙ ap (start_front (nat_le limit (length held))) (take-append-le limit held more reached)
    by false is =
        let below : length held ≤ limit = grind (arith, nat_tests) in
        let whole : take limit held ≡ held = grind (arith, common_steps) in
        let size : limit ≡ length held + (limit - length held) = omega arith in
        let front : take limit (held ++ more) ≡ held ++ take (limit - length held) more =
        ap (λ (k : ℕ). take k (held ++ more)) size ∙ take_over held more (limit - length held) in
        let here : start_within limit held ≡ start_front false held =
        ap (λ (t : Bool). start_front t (take limit held)) is ∙ ap (start_front false) whole in
        ap (start_front (nat_le limit (length (held ++ more)))) front
        ∙ front_stays (nat_le limit (length (held ++ more))) held (take (limit - length held) more) (ap is_open (sym here) ∙ e)
        ∙ sym here

-- ---- heads that stand there

-- a head that stands there is lined, and hasn't too many lines
pub headed : (full : Bool) (front : List ℕ) (from n : ℕ) → start_front full front ≡ Headed from n → IsLined front from n false
headed full front from n e = by full (head_len (drop (blank_len front) front)) refl e
  where
    open_ends : (full : Bool) (rest : List ℕ) → start_open full rest ≡ Headed from n → ⊥
    open_ends true rest e = cc
    open_ends false [] e = cc
    open_ends false (b ∷ rest) e = cc

    few : (m : ℕ) → head_len (drop (blank_len front) front) ≡ Some m → (long : Bool) → nat_lt line_limit (line_feeds (take m (drop (blank_len front) front))) ≡ long
        → start_lined long (blank_len front) m ≡ Headed from n → IsLined front from n false
    few m io true is e = absurd (cc)
    few m io false is e =
        let at : blank_len front ≡ from = cc in
        let size : m ≡ n = cc in
        record {
          blank = at;
          head = sym (ap (λ (k : ℕ). head_len (drop k front)) at) ∙ io ∙ ap Some size;
          lines = sym (ap (λ (t : List ℕ). nat_lt line_limit (line_feeds t)) (ap (λ (k : ℕ). take k (drop (blank_len front) front)) size
              ∙ ap (λ (k : ℕ). take n (drop k front)) at)) ∙ is;
        }

    by : (full : Bool) (o : Option ℕ) → head_len (drop (blank_len front) front) ≡ o
        → start_after full (blank_len front) (drop (blank_len front) front) o ≡ Headed from n → IsLined front from n false
    by full None io e = absurd (open_ends full (drop (blank_len front) front) e)
    by full (Some m) io e = few m io (nat_lt line_limit (line_feeds (take m (drop (blank_len front) front)))) refl e

placed_front : (limit : ℕ) (bytes : List ℕ) (from n : ℕ) → IsLined (take limit bytes) from n false
    → (from + n ≤ length bytes) × (from + n ≤ limit) × IsCut (take n (drop from bytes)) × (line_feeds (take n (drop from bytes)) ≤ line_limit)
placed_front limit bytes from n is =
    let fits : n ≤ length (drop from (take limit bytes)) = head_fits (drop from (take limit bytes)) n is.head in
    let before : from ≤ length (take limit bytes) = omega (arith, blank_fits (take limit bytes), is.blank) in
    let size : from + n ≤ length (take limit bytes) = grind (arith, common_steps) in
    let all : from + n ≤ length bytes = grind (arith, common_steps) in
    let top : from + n ≤ limit = grind (arith, common_steps) in
    let rest : drop from bytes ≡ drop from (take limit bytes) ++ drop limit bytes =
    ap (drop from) (sym (take-append-drop limit bytes)) ∙ drop-append-le from (take limit bytes) (drop limit bytes) before in
    let same : take n (drop from (take limit bytes)) ≡ take n (drop from bytes) =
    sym (ap (take n) rest ∙ take-append-le n (drop from (take limit bytes)) (drop limit bytes) fits) in (
      all,
      top,
      subst IsCut same (head_cut (drop from (take limit bytes)) n is.head),
      few (line_feeds (take n (drop from bytes))) (sym (ap (λ (t : List ℕ). nat_lt line_limit (line_feeds t)) same) ∙ is.lines),
    )
  where
    few : (k : ℕ) → nat_lt line_limit k ≡ false → k ≤ line_limit
    few k e = grind (arith, nat_tests)

pub placed : (bytes : List ℕ) (from n : ℕ) → start_of bytes ≡ Headed from n → IsPlaced bytes from n
placed bytes from n e =
    let found = placed_front head_limit bytes from n (headed (nat_le head_limit (length bytes)) (take head_limit bytes) from n e) in
    record { fits = found.0; limit = found.1; cut = found.2; few = found.3 }

-- what is known not to be open stays, whatever is left
pub settled : (b : Option (List ℕ)) (held : List ℕ) (s : Start) → s ≡ start_of held → is_open s ≡ false
    → WhereTold b (λ rest. start_of (held ++ rest) ≡ s)
settled None held s is closed = tt
settled (Some rest) held s is closed = stays head_limit held rest (ap is_open (sym is) ∙ closed) ∙ sym is

-- at the end of the input what is held is all
pub settled_done : (b : Option (List ℕ)) (held : List ℕ) (s : Start) → s ≡ start_of held → IsDone b → WhereTold b (λ rest. start_of (held ++ rest) ≡ s)
settled_done None held s is done = tt
settled_done (Some rest) held s is done =
    ap (λ (t : List ℕ). start_of (held ++ t)) done ∙ ap start_of (append-nil held) ∙ sym is
