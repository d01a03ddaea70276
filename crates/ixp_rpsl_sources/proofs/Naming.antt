-- Names of sources.
use Rattle.std.proofs.Common.{◌≡◌, ℕ, ◌++◌, ◌≤◌, ◌<◌, ◌==◌, ◌&&◌, ◌||◌, Bool, true, false, List, [], ◌∷◌, Option, Some, None, if◌then◌else◌, map, length, nat_le, refl, sym, ap, ◌∙◌, subst, arith}
use Rattle.std.specs.List.{list_all}
use Rattle.std.specs.Char.{to_ascii_uppercase}
use Rattle.std.proofs.lemmas.Bool.{and_parts, and_from, leb-true, le-leb}
use Rattle.std.proofs.lemmas.List.{length-map}
use Rattle.ixp_num.specs.Names.{is_name, is_name_byte, is_within}
use Rattle.ixp_rpsl.specs.Attributes.{is_letter_or_digit}
use Rattle.ixp_rpsl_sources.specs.Sources.{if_names, is_source_name, source_of}

abbrev source_byte : ℕ → Bool
source_byte b = is_letter_or_digit b || b == 95 || b == 45

byte_of : (a b c d e f : Bool) → ((a || b || c) || d || e) ≡ true → (a || b || c || d || e || f) ≡ true
byte_of true b c d e f h = refl
byte_of false true c d e f h = refl
byte_of false false true d e f h = refl
byte_of false false false true e f h = refl
byte_of false false false false true f h = refl
byte_of false false false false false f h = absurd (let x : ⊥ = cc in x)

bytes_of : (t : List ℕ) → list_all source_byte t ≡ true → list_all is_name_byte t ≡ true
bytes_of [] h = refl
bytes_of (b ∷ t) h =
    let both = and_parts (source_byte b) (list_all source_byte t) h in
    and_from (is_name_byte b) (list_all is_name_byte t) (byte_of (is_within 97 122 b) (is_within 65 90 b) (is_within 48 57 b) (b == 95) (b == 45) (b == 58) both.0) (bytes_of t both.1)

-- a source's name is a name
pub source_is_name : (t : List ℕ) → is_source_name t ≡ true → is_name t ≡ true
source_is_name t h =
    let one = and_parts (nat_le 1 (length t) && nat_le (length t) 32) (list_all source_byte t) h in
    let two = and_parts (nat_le 1 (length t)) (nat_le (length t) 32) one.0 in
    let short : length t ≤ 32 = leb-true (length t) 32 two.1 in
    and_from (nat_le 1 (length t) && nat_le (length t) 64) (list_all is_name_byte t)
    (and_from (nat_le 1 (length t)) (nat_le (length t) 64) two.0 (le-leb (length t) 64 (omega arith))) (bytes_of t one.1)

-- a longer text is none
pub long_is_none : (t : List ℕ) → 64 < length t → is_source_name (map to_ascii_uppercase t) ≡ false
long_is_none t long = by (is_source_name (map to_ascii_uppercase t)) refl where
  by : (b : Bool) → is_source_name (map to_ascii_uppercase t) ≡ b → b ≡ false
  by false e = refl
  by true e =
      let u : List ℕ = map to_ascii_uppercase t in
      let one = and_parts (nat_le 1 (length u) && nat_le (length u) 32) (list_all source_byte u) e in
      let short : length u ≤ 32 = leb-true (length u) 32 (and_parts (nat_le 1 (length u)) (nat_le (length u) 32) one.0).1 in
      let size : length u ≡ length t = length-map t to_ascii_uppercase in
      absurd (let h : ⊥ = omega arith in h)

-- where one isn't a source's
pub not_all : (xs : List (List ℕ)) (p : List ℕ) (ps all : List (List ℕ)) → xs ++ map to_ascii_uppercase p ∷ ps ≡ all → source_of p ≡ None → if_names all ≡ None
not_all xs p ps all e none = subst (λ l. if_names l ≡ None) e (ap (λ b. if b then Some (xs ++ map to_ascii_uppercase p ∷ ps) else None) (among xs)) where
  bad : (b : Bool) → ◌≡◌ {A = Option (List ℕ)} (if b then Some (map to_ascii_uppercase p) else None) None → b ≡ false
  bad true h = absurd (let x : ⊥ = cc in x)
  bad false h = refl

  among : (ys : List (List ℕ)) → list_all is_source_name (ys ++ map to_ascii_uppercase p ∷ ps) ≡ false
  among [] = ap (λ b. b && list_all is_source_name ps) (bad (is_source_name (map to_ascii_uppercase p)) none)
  among (y ∷ ys) = ap (λ b. is_source_name y && b) (among ys) ∙ by (is_source_name y) where
    by : (b : Bool) → (b && false) ≡ false
    by true = refl
    by false = refl

-- one more that is
pub all_more : (xs : List (List ℕ)) (p n : List ℕ) → list_all is_source_name xs ≡ true → source_of p ≡ Some n → (list_all is_source_name (xs ++ n ∷ []) ≡ true) × (n ≡ map to_ascii_uppercase p)
all_more xs p n fine some = by (is_source_name (map to_ascii_uppercase p)) refl some where
  more : (ys : List (List ℕ)) → list_all is_source_name ys ≡ true → is_source_name n ≡ true → list_all is_source_name (ys ++ n ∷ []) ≡ true
  more [] h here = and_from (is_source_name n) true here refl
  more (y ∷ ys) h here = let both = and_parts (is_source_name y) (list_all is_source_name ys) h in and_from (is_source_name y) (list_all is_source_name (ys ++ n ∷ [])) both.0 (more ys both.1 here)

  by : (b : Bool) → is_source_name (map to_ascii_uppercase p) ≡ b → (if b then Some (map to_ascii_uppercase p) else None) ≡ Some n → (list_all is_source_name (xs ++ n ∷ []) ≡ true) × (n ≡ map to_ascii_uppercase p)
  by true e h = let same : map to_ascii_uppercase p ≡ n = cc in (more xs fine (subst (λ t. is_source_name t ≡ true) same e), sym same)
  by false e h = absurd (let x : ⊥ = cc in x)
