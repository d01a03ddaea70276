-- Lines of a head, by httparse's grammar.
use Rattle.std.proofs.Common.{◌≡◌, ◌≤◌, ◌+◌, ℕ, suc, Bool, true, false, ◌==◌, ◌&&◌, if◌then◌else◌, Option, None, Some, IfSome, List, [], ◌∷◌, ◌++◌, length, refl, sym, ap, ◌∙◌, subst, arith, append_assoc, length-append}
use Rattle.std.proofs.lemmas.List.{append-nil}
use Rattle.httparse.specs.Grammar.{LineEnd, crlf, lf, print_end, print_blank, print_version, Field, print_section, RequestHead, print_request, ReadsRequest}
use Rattle.httparse.proofs.GrammarLemmas.{cons-append}
use Rattle.ixp_http.specs.Heads.{begins_with, line_end, one_more, head_len, line_feeds, IsCut}

-- ---- how many lines there are

pub line_feeds-append : (xs ys : List ℕ) → line_feeds (xs ++ ys) ≡ line_feeds xs + line_feeds ys
line_feeds-append [] ys = omega arith
line_feeds-append (b ∷ xs) ys = by (b == 10) (line_feeds-append xs ys)
  where
    by : (t : Bool) → line_feeds (xs ++ ys) ≡ line_feeds xs + line_feeds ys
        → (if t then line_feeds (xs ++ ys) + 1 else line_feeds (xs ++ ys)) ≡ (if t then line_feeds xs + 1 else line_feeds xs) + line_feeds ys
    by true ih = omega arith
    by false ih = ih

end_feeds : (e : LineEnd) → 1 ≤ line_feeds (print_end e)
end_feeds crlf = omega arith
end_feeds lf = omega arith

-- each field line ends in an LF, and so does the empty line after the last
section_feeds : (fields : List Field) (last : LineEnd) → length fields + 1 ≤ line_feeds (print_section fields last)
section_feeds [] last = omega (arith, end_feeds last)
section_feeds (f ∷ fields) last =
    let more = section_feeds fields last in
    let feed = end_feeds f.end in
    let parts : print_section (f ∷ fields) last ≡ (f.name ++ 58 ∷ f.raw) ++ (print_end f.end ++ print_section fields last)
    = simp (append_assoc, cons-append) in
    let count : line_feeds (print_section (f ∷ fields) last)
    ≡ line_feeds (f.name ++ 58 ∷ f.raw) + (line_feeds (print_end f.end) + line_feeds (print_section fields last))
    = ap line_feeds parts ∙ line_feeds-append (f.name ++ 58 ∷ f.raw) (print_end f.end ++ print_section fields last)
    ∙ ap (λ (k : ℕ). line_feeds (f.name ++ 58 ∷ f.raw) + k) (line_feeds-append (print_end f.end) (print_section fields last)) in
    omega arith

-- a head is what stands before the end of its request line, that end, and the fields
split_request : (h : RequestHead) → (front : List ℕ) × (print_request h ≡ front ++ (print_end h.line_end ++ print_section h.fields h.last))
unfolding print_request
split_request h = (
  print_blank h.blank ++ h.method ++ 32 ∷ h.target ++ 32 ∷ print_version h.minor,
  regroup (print_blank h.blank) h.method h.target (print_version h.minor) (print_end h.line_end) (print_section h.fields h.last),
)
  where
    regroup : (a b c d e f : List ℕ) → a ++ b ++ 32 ∷ c ++ 32 ∷ d ++ e ++ f ≡ (a ++ b ++ 32 ∷ c ++ 32 ∷ d) ++ (e ++ f)
    regroup a b c d e f = simp (append_assoc, cons-append)

-- a head has a line for each field, the request line and the empty line
pub request_feeds : (h : RequestHead) → length h.fields + 2 ≤ line_feeds (print_request h)
request_feeds h =
    let split = split_request h in
    let count : line_feeds (print_request h)
    ≡ line_feeds split.0 + (line_feeds (print_end h.line_end) + line_feeds (print_section h.fields h.last))
    = ap line_feeds split.1 ∙ line_feeds-append split.0 (print_end h.line_end ++ print_section h.fields h.last)
    ∙ ap (λ (k : ℕ). line_feeds split.0 + k) (line_feeds-append (print_end h.line_end) (print_section h.fields h.last)) in
    let feed = end_feeds h.line_end in
    let more = section_feeds h.fields h.last in
    omega arith

-- ---- where a head ends

-- there is a length, of so many at most
abbrev pub IsUpTo : Option ℕ → ℕ → Type 0
IsUpTo None most = ⊥
IsUpTo (Some n) most = n ≤ most

line_end_two : (bytes : List ℕ) → IfSome (line_end bytes) (λ m. m ≤ 2)
line_end_two [] = tt
line_end_two (b ∷ bytes) = by (b == 10) (b == 13 && begins_with 10 bytes)
  where
    by : (feed return : Bool) → IfSome (if feed then Some 1 else (if return then Some 2 else None)) (λ m. m ≤ 2)
    by true return = omega arith
    by false true = omega arith
    by false false = tt

-- bytes before the end of a head
head_later : (xs t : List ℕ) (most : ℕ) → 2 ≤ most → IsUpTo (head_len t) most → IsUpTo (head_len (xs ++ t)) (length xs + most)
head_later [] t most two up = up_same (head_len t) up
  where
    up_same : (o : Option ℕ) → IsUpTo o most → IsUpTo o (0 + most)
    up_same None up = up
    up_same (Some n) up = omega arith
head_later (b ∷ xs) t most two up = by (b == 10) (line_end (xs ++ t)) (line_end_two (xs ++ t)) (head_len (xs ++ t)) (head_later xs t most two up)
  where
    by : (feed : Bool) (o : Option ℕ) → IfSome o (λ m. m ≤ 2) → (l : Option ℕ) → IsUpTo l (length xs + most)
        → IsUpTo (one_more (if feed then o else None) l) (suc (length xs) + most)
    by true (Some m) small l up = omega arith
    by true None small (Some k) up = omega arith
    by true None small None up = absurd up
    by false o small (Some k) up = omega arith
    by false o small None up = absurd up

end_size : (e : LineEnd) → 1 ≤ length (print_end e)
end_size crlf = omega arith
end_size lf = omega arith

-- an LF and then an empty line
closing_up : (e last : LineEnd) (rest : List ℕ) → IsUpTo (head_len (print_end e ++ (print_end last ++ rest))) (length (print_end e) + length (print_end last))
closing_up crlf crlf rest = omega arith
closing_up crlf lf rest = omega arith
closing_up lf crlf rest = omega arith
closing_up lf lf rest = omega arith

section_size : (fields : List Field) (last : LineEnd) → 1 ≤ length (print_section fields last)
section_size [] last = end_size last
section_size (f ∷ fields) last =
    let one = end_size f.end in
    simp (length-append) (omega arith)

-- the head ends where its fields do, or before
section_up : (e : LineEnd) (fields : List Field) (last : LineEnd) (rest : List ℕ)
    → IsUpTo (head_len (print_end e ++ (print_section fields last ++ rest))) (length (print_end e) + length (print_section fields last))
section_up e [] last rest = closing_up e last rest
section_up e (f ∷ fields) last rest =
    let here = section_up f.end fields last rest in
    let one = end_size f.end in
    let front = print_end e ++ (f.name ++ 58 ∷ f.raw) in
    let section = print_section fields last in
    let two : 2 ≤ length (print_end f.end) + length section = omega (arith, section_size fields last) in
    let later = head_later front (print_end f.end ++ (section ++ rest)) (length (print_end f.end) + length section) two here in
    let parts : front ++ (print_end f.end ++ (section ++ rest)) ≡ print_end e ++ (print_section (f ∷ fields) last ++ rest)
    = simp (append_assoc, cons-append) in
    let size : length front + (length (print_end f.end) + length section) ≡ length (print_end e) + length (print_section (f ∷ fields) last)
    = simp (length-append) (omega arith) in
    subst (λ (n : ℕ). IsUpTo (head_len (print_end e ++ (print_section (f ∷ fields) last ++ rest))) n) size
    (subst (λ (bytes : List ℕ). IsUpTo (head_len bytes) (length front + (length (print_end f.end) + length section))) parts later)

request_up : (h : RequestHead) (rest : List ℕ) → IsUpTo (head_len (print_request h ++ rest)) (length (print_request h))
request_up h rest =
    let split = split_request h in
    let section = print_section h.fields h.last in
    let one = end_size h.line_end in
    let two : 2 ≤ length (print_end h.line_end) + length section = omega (arith, section_size h.fields h.last) in
    let later = head_later split.0 (print_end h.line_end ++ (section ++ rest)) (length (print_end h.line_end) + length section) two
    (section_up h.line_end h.fields h.last rest) in
    let parts : split.0 ++ (print_end h.line_end ++ (section ++ rest)) ≡ print_request h ++ rest
    = sym (ap (λ (t : List ℕ). t ++ rest) split.1 ∙ append_assoc split.0 (print_end h.line_end ++ section) rest
    ∙ ap (λ (t : List ℕ). split.0 ++ t) (append_assoc (print_end h.line_end) section rest)) in
    let size : length split.0 + (length (print_end h.line_end) + length section) ≡ length (print_request h)
    = sym (ap length split.1 ∙ length-append split.0 (print_end h.line_end ++ section)
    ∙ ap (λ (k : ℕ). length split.0 + k) (length-append (print_end h.line_end) section)) in
    subst (λ (n : ℕ). IsUpTo (head_len (print_request h ++ rest)) n) size
    (subst (λ (bytes : List ℕ). IsUpTo (head_len bytes) (length split.0 + (length (print_end h.line_end) + length section))) parts later)

-- bytes that end where a head does, and begin with a head, are that head
pub whole_head : (bytes : List ℕ) (h : RequestHead) (rest : List ℕ) → IsCut bytes → ReadsRequest bytes h rest → rest ≡ []
whole_head bytes h rest is reads =
    let all : head_len bytes ≡ Some (length bytes) = ap head_len (sym (append-nil bytes)) ∙ is [] in
    let up : IsUpTo (head_len bytes) (length (print_request h))
    = subst (λ (t : List ℕ). IsUpTo (head_len t) (length (print_request h))) (sym reads.1) (request_up h rest) in
    let most : length bytes ≤ length (print_request h) = subst (λ (o : Option ℕ). IsUpTo o (length (print_request h))) all up in
    let size : length bytes ≡ length (print_request h) + length rest = ap length reads.1 ∙ length-append (print_request h) rest in
    nothing rest (omega arith)
  where
    nothing : (t : List ℕ) → length t ≤ 0 → t ≡ []
    nothing [] e = refl
    nothing (b ∷ t) e = absurd (omega arith)

-- a head that begins such bytes has no more fields than they have lines
pub few_fields : (bytes : List ℕ) (h : RequestHead) (rest : List ℕ) → IsCut bytes → ReadsRequest bytes h rest → length h.fields + 2 ≤ line_feeds bytes
few_fields bytes h rest is reads =
    let whole : bytes ≡ print_request h = reads.1 ∙ ap (λ (t : List ℕ). print_request h ++ t) (whole_head bytes h rest is reads) ∙ append-nil (print_request h) in
    subst (λ (t : List ℕ). length h.fields + 2 ≤ line_feeds t) (sym whole) (request_feeds h)
