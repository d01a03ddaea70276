-- The group of hexadecimal digits at the front of a text.
use Rattle.std.proofs.Common.{◌≡◌, ℕ, zero, suc, ◌+◌, ◌*◌, ◌<◌, ◌≤◌, ◌⊎◌, inl, inr, List, [], ◌∷◌, ◌++◌, length, nat_lt, Some, None, Ok, Err, refl, ap, ◌∙◌, arith, lt-ltb, le-ltb}
use Rattle.std.proofs.lemmas.Bool.{cases_lt, cond-true, cond-false}
use Rattle.std.specs.Char.{digit_value}
use Rattle.std.specs.Str.Parse.{AllDigits, digits_value_after}
use Rattle.std.specs.Net.Grammar.{IsGroup}
use Rattle.ixp_num.specs.Reading.{hex_at, hex_on, hex_after, group_with, group_at}
use Rattle.ixp_num.proofs.Digits.{pair, Ends}

abbrev pub IsHexByte : ℕ → Type 0
IsHexByte c = digit_value c < 16

hex_there : (c : ℕ) (cs : List ℕ) → IsHexByte c → hex_at (c ∷ cs) ≡ Some (pair (digit_value c) cs)
unfolding hex_at
hex_there c cs low = cond-true (nat_lt (digit_value c) 16) _ _ (lt-ltb (digit_value c) 16 low)

hex_missing : (t : List ℕ) → Ends IsHexByte t → hex_at t ≡ None
unfolding hex_at
hex_missing [] ends = refl
hex_missing (c ∷ cs) ends =
    let high : 16 ≤ digit_value c = omega arith in
    cond-false (nat_lt (digit_value c) 16) _ _ (le-ltb (digit_value c) 16 high)

hex_again : (room n : ℕ) (front rest : List ℕ) → AllDigits 16 front → length front ≤ room → (length front ≡ room) ⊎ Ends IsHexByte rest → hex_after room n (front ++ rest) ≡ pair (digits_value_after 16 n front) rest
hex_again zero n [] rest digits size closed = refl
hex_again zero n (c ∷ cs) rest digits size closed = absurd (omega arith)
hex_again (suc room) n [] rest digits size (inl full) = absurd (omega arith)
hex_again (suc room) n [] rest digits size (inr ends) = ap (hex_on (hex_after room) n rest) (hex_missing rest ends)
hex_again (suc room) n (c ∷ cs) rest digits size closed =
    let less : length cs ≤ room = omega arith in
    let same : (length cs ≡ room) ⊎ Ends IsHexByte rest = elim closed [ inl full ↦ inl (omega arith) | inr ends ↦ inr ends ] in
    ap (hex_on (hex_after room) n (c ∷ (cs ++ rest))) (hex_there c (cs ++ rest) digits.0)
    ∙ hex_again room (n * 16 + digit_value c) cs rest digits.1 less same

-- nothing in `rest` can belong to the group
abbrev pub ClosedHex : List ℕ → List ℕ → Type 0
ClosedHex front rest = (length front ≡ 4) ⊎ Ends IsHexByte rest

pub group_again : (front rest : List ℕ) (n : ℕ) → IsGroup front n → ClosedHex front rest → group_at (front ++ rest) ≡ Ok (pair n rest)
unfolding group_at
group_again [] rest n group closed = absurd (let empty = group.0.0.0 in omega arith)
group_again (c ∷ cs) rest n group closed =
    let size : length cs ≤ 3 = (let four = group.1 in omega arith) in
    let same : (length cs ≡ 3) ⊎ Ends IsHexByte rest = elim closed [ inl full ↦ inl (omega arith) | inr ends ↦ inr ends ] in
    let first : digit_value c ≡ 0 * 16 + digit_value c = omega arith in
    ap (group_with (c ∷ (cs ++ rest))) (hex_there c (cs ++ rest) group.0.0.1.0)
    ∙ ap Ok (hex_again 3 (digit_value c) cs rest group.0.0.1.1 size same)
    ∙ ap (λ m. Ok (pair (digits_value_after 16 m cs) rest)) first
    ∙ ap (λ m. Ok (pair m rest)) group.0.1

pub group_missing : (t : List ℕ) → Ends IsHexByte t → group_at t ≡ Err (length t)
unfolding group_at
group_missing t ends = ap (group_with t) (hex_missing t ends)

record HexDigits (room : ℕ) (t : List ℕ) : Type 0 where
  front : List ℕ
  rest : List ℕ
  parts : t ≡ front ++ rest
  digits : AllDigits 16 front
  size : length front ≤ room
  closed : (length front ≡ room) ⊎ Ends IsHexByte rest

no_hex : (c : ℕ) → 16 ≤ digit_value c → ¬ (IsHexByte c)
no_hex c high low = omega arith

hex_step : (room c : ℕ) (cs : List ℕ) → (IsHexByte c) ⊎ (16 ≤ digit_value c) → HexDigits room cs → HexDigits (suc room) (c ∷ cs)
hex_step room c cs (inl low) d = record {
  front = c ∷ d.front;
  rest = d.rest;
  parts = ap (λ x. c ∷ x) d.parts;
  digits = (low, d.digits);
  size = (let size = d.size in omega arith);
  closed = elim (d.closed) [ inl full ↦ inl (omega arith) | inr ends ↦ inr ends ];
}
hex_step room c cs (inr high) d = record {
  front = [];
  rest = c ∷ cs;
  parts = refl;
  digits = tt;
  size = omega arith;
  closed = inr (no_hex c high);
}

hex_split : (room : ℕ) (t : List ℕ) → HexDigits room t
hex_split zero t = record { front = []; rest = t; parts = refl; digits = tt; size = omega arith; closed = inl refl }
hex_split (suc room) [] = record { front = []; rest = []; parts = refl; digits = tt; size = omega arith; closed = inr tt }
hex_split (suc room) (c ∷ cs) = hex_step room c cs (cases_lt (digit_value c) 16) (hex_split room cs)

-- the group at the front
pub record Grouped (t : List ℕ) : Type 0 where
  pub front : List ℕ
  pub rest : List ℕ
  pub n : ℕ
  pub parts : t ≡ front ++ rest
  pub spelt : IsGroup front n
  pub closed : ClosedHex front rest

group_step : (c : ℕ) (cs : List ℕ) → (IsHexByte c) ⊎ (16 ≤ digit_value c) → Grouped (c ∷ cs) ⊎ Ends IsHexByte (c ∷ cs)
group_step c cs (inl low) =
    let d = hex_split 3 cs in
    inl (record {
      front = c ∷ d.front;
      rest = d.rest;
      n = digits_value_after 16 0 (c ∷ d.front);
      parts = ap (λ x. c ∷ x) d.parts;
      spelt = (((omega arith, (low, d.digits)), refl), (let size = d.size in omega arith));
      closed = elim (d.closed) [ inl full ↦ inl (omega arith) | inr ends ↦ inr ends ];
    })
group_step c cs (inr high) = inr (no_hex c high)

pub group_split : (t : List ℕ) → Grouped t ⊎ Ends IsHexByte t
group_split [] = inr tt
group_split (c ∷ cs) = group_step c cs (cases_lt (digit_value c) 16)

pub group_begins : (front rest : List ℕ) (n : ℕ) → IsGroup front n → ¬ (Ends IsHexByte (front ++ rest))
group_begins [] rest n group ends = let empty = group.0.0.0 in omega arith
group_begins (c ∷ cs) rest n group ends = ends group.0.0.1.0
