-- In the forms of addresses numbers end where their digits do.
use Rattle.std.proofs.Common.{◌≡◌, ℕ, ◌+◌, ◌-◌, ◌*◌, ◌^◌, ◌<◌, ◌⊎◌, inl, inr, List, [], ◌∷◌, ◌++◌, refl, sym, ap, ◌∙◌, subst, arith, zero, suc, lit<}
use Rattle.ixp_num.specs.declared.family.Family.{Family}
use Rattle.ixp_num.specs.declared.family.Family.TheVariants.{V4, V6}
use Rattle.ixp_num.specs.declared.reading.Tail.{Tail}
use Rattle.ixp_num.specs.declared.reading.Tail.TheVariants.{Nothing, Length, Bounds}
use Rattle.ixp_num.specs.Families.{bits_of}
use Rattle.std.specs.List.{AllByRecursion}
use Rattle.std.proofs.lemmas.Bool.Decides.{nat_tests}
use Rattle.ixp_num.specs.Forms.{Form, IsDecimal, End, Mark, Decimal, Hex, Either, IsDigit, Spelt, IsOf}
use Rattle.ixp_num.specs.AddressForms.{numbers, bounds_form, tail_form, dotted_form, more_form, behind_form, gap_form, colon_form, groups_form, form4, form6, address_form, asn_form}
use Rattle.ixp_num.specs.Reading.{cap}
use Rattle.std.specs.Str.Parse.{AllDigits}
use Rattle.ixp_num.proofs.Groups.{IsHexByte, group_begins}
use Rattle.ixp_num.proofs.Digits.{Ends, decimal_begins}
use Rattle.ixp_num.proofs.FormLaws.{Parted, Apart, NeverBegins, ends_from}

pub end_never : (P : ℕ → Type 0) (ns : List ℕ) → NeverBegins P (End ns)
end_never P ns c rest p (said, (none, says)) = absurd cc

pub mark_never : (P : ℕ → Type 0) (b : ℕ) (form : Form) → ¬ (P b) → NeverBegins P (Mark b form)
mark_never P b form isnt c rest p (said, (after, e, spelt)) = let same : c ≡ b = cc in isnt (subst P same p)

pub either_never : (P : ℕ → Type 0) (one other : Form) → NeverBegins P one → NeverBegins P other → NeverBegins P (Either one other)
either_never P one other here there c rest p (said, inl spelt) = here c rest p (said, spelt)
either_never P one other here there c rest p (said, inr spelt) = there c rest p (said, spelt)

-- a text that ends isn't one that begins with a byte
pub end_apart : (ns : List ℕ) (b : ℕ) (form : Form) → Apart (End ns) (Mark b form)
end_apart ns b form t (said, (none, says)) (said', (rest, e, spelt)) = absurd cc

no_digit : (b : ℕ) → (b < 48) ⊎ (57 < b) → ¬ (IsDigit b)
no_digit b (inl low) d = omega arith
no_digit b (inr high) d = omega arith

pub mark_no_digit : (b : ℕ) (form : Form) → (b < 48) ⊎ (57 < b) → NeverBegins IsDigit (Mark b form)
mark_no_digit b form out = mark_never IsDigit b form (no_digit b out)

bounds_parted : (form : ℕ → ℕ → Form) → ((low high : ℕ) → Parted (form low high)) → Parted (bounds_form form)
bounds_parted form parted = (
  lit< tt,
  λ low. (
    mark_no_digit 44 (Decimal 255 (λ high. Mark 125 (form low high))) (inl (lit< tt)),
    (lit< tt, λ high. (mark_no_digit 125 (form low high) (inr (lit< tt)), parted low high)),
  ),
)

bits_below : (family : Family) → bits_of family < cap
bits_below V4 = lit< tt
bits_below V6 = lit< tt

pub tail_parted : (tail : Tail) (family : Family) (value : ℕ) → Parted (tail_form tail family value)
tail_parted Nothing family value = tt
tail_parted Length family value = (bits_below family, λ len. (end_never IsDigit (numbers family value len len len), tt))
tail_parted Bounds family value = (
  bits_below family,
  λ len. (
    either_never IsDigit (End (numbers family value len len len)) (bounds_form (λ low high. End (numbers family value len low high)))
        (end_never IsDigit (numbers family value len len len))
        (mark_no_digit 123 (Decimal 255 (λ low. Mark 44 (Decimal 255 (λ high. Mark 125 (End (numbers family value len low high)))))) (inr (lit< tt))),
    (end_apart (numbers family value len len len) 123 (Decimal 255 (λ low. Mark 44 (Decimal 255 (λ high. Mark 125 (End (numbers family value len low high)))))), tt, bounds_parted (λ low high. End (numbers family value len low high)) (λ low high. tt)),
  ),
)

pub tail_no_digit : (tail : Tail) (family : Family) (value : ℕ) → NeverBegins IsDigit (tail_form tail family value)
tail_no_digit Nothing family value = end_never IsDigit (numbers family value (bits_of family) (bits_of family) (bits_of family))
tail_no_digit Length family value = mark_no_digit 47 (Decimal (bits_of family) (λ len. End (numbers family value len len len))) (inl (lit< tt))
tail_no_digit Bounds family value = mark_no_digit 47 (Decimal (bits_of family) (λ len. Either (End (numbers family value len len len)) (bounds_form (λ low high. End (numbers family value len low high))))) (inl (lit< tt))

next_parted : (bound : ℕ) (below : ℕ → Form) → bound < cap → ((v : ℕ) → Parted (below v)) → Parted (Decimal bound (λ n. Mark 46 (below n)))
next_parted bound below low parted = (low, λ n. (mark_no_digit 46 (below n) (inl (lit< tt)), parted n))

pub dotted_parted : (base : ℕ) (form : ℕ → Form) → ((v : ℕ) → NeverBegins IsDigit (form v)) → ((v : ℕ) → Parted (form v)) → Parted (dotted_form base form)
dotted_parted base form never parted =
    next_parted 255 (λ a. Decimal 255 (λ b. Mark 46 (Decimal 255 (λ c. Mark 46 (Decimal 255 (λ d. form (base + (((a * 256 + b) * 256 + c) * 256 + d)))))))) (lit< tt)
    (λ a. next_parted 255 (λ b. Decimal 255 (λ c. Mark 46 (Decimal 255 (λ d. form (base + (((a * 256 + b) * 256 + c) * 256 + d)))))) (lit< tt)
    (λ b. next_parted 255 (λ c. Decimal 255 (λ d. form (base + (((a * 256 + b) * 256 + c) * 256 + d)))) (lit< tt)
    (λ c. (lit< tt, λ d. (never (base + (((a * 256 + b) * 256 + c) * 256 + d)), parted (base + (((a * 256 + b) * 256 + c) * 256 + d)))))))

pub form4_parted : (tail : Tail) → Parted (form4 tail)
form4_parted tail = dotted_parted 0 (tail_form tail V4) (tail_no_digit tail V4) (tail_parted tail V4)

pub asn_parted : Parted asn_form
asn_parted = (lit< tt, λ n. (end_never IsDigit (n ∷ []), tt))

-- bytes that no end of an address begins with

abbrev pub IsInAddress : ℕ → Type 0
IsInAddress c = IsHexByte c ⊎ (c ≡ 46) ⊎ (c ≡ 58)

digit_hex : (c : ℕ) → IsDigit c → IsHexByte c
digit_hex c d = grind (arith, nat_tests)

slash_outside : ¬ (IsInAddress 47)
slash_outside (inl hex) = omega arith
slash_outside (inr (inl dot)) = omega arith
slash_outside (inr (inr colon)) = omega arith

pub tail_ends : (tail : Tail) (family : Family) (value : ℕ) → NeverBegins IsInAddress (tail_form tail family value)
tail_ends Nothing family value = end_never IsInAddress (numbers family value (bits_of family) (bits_of family) (bits_of family))
tail_ends Length family value = mark_never IsInAddress 47 (Decimal (bits_of family) (λ len. End (numbers family value len len len))) slash_outside
tail_ends Bounds family value = mark_never IsInAddress 47 (Decimal (bits_of family) (λ len. Either (End (numbers family value len len len)) (bounds_form (λ low high. End (numbers family value len low high))))) slash_outside

colon_no_hex : ¬ (IsHexByte 58)
colon_no_hex hex = omega arith

-- no text of the form begins otherwise than with a hexadecimal digit
abbrev pub BeginsHex : Form → Type 0
BeginsHex form = (t : List ℕ) → IsOf form t → ¬ (Ends IsHexByte t)

ends_digit : (t : List ℕ) → Ends IsHexByte t → Ends IsDigit t
ends_digit [] ends = tt
ends_digit (c ∷ cs) ends = λ d. ends (digit_hex c d)

ends_hex : (t : List ℕ) → Ends IsInAddress t → Ends IsHexByte t
ends_hex [] ends = tt
ends_hex (c ∷ cs) ends = λ p. ends (inl p)

hex_begins : (form : ℕ → Form) → BeginsHex (Hex form)
hex_begins form t (said, (front, rest, n, e, group, spelt)) ends = group_begins front rest n group (subst (Ends IsHexByte) e ends)

dotted_begins : (base : ℕ) (form : ℕ → Form) → BeginsHex (dotted_form base form)
dotted_begins base form t (said, (front, rest, n, after, e, number, spelt, says)) ends =
    decimal_begins front rest n number (subst (Ends IsDigit) e (ends_digit t ends))

either_begins : (one other : Form) → BeginsHex one → BeginsHex other → BeginsHex (Either one other)
either_begins one other here there t (said, inl spelt) ends = here t (said, spelt) ends
either_begins one other here there t (said, inr spelt) ends = there t (said, spelt) ends

abbrev IsHexOrDot : ℕ → Type 0
IsHexOrDot c = IsHexByte c ⊎ (c ≡ 46)

colon_outside : ¬ (IsHexOrDot 58)
colon_outside (inl hex) = omega arith
colon_outside (inr dot) = omega arith

-- digits and a dot are no hexadecimal digits with anything but a dot behind them
dot_apart : (x y x' y' : List ℕ) → AllByRecursion IsDigit x → AllDigits 16 x' → x ++ 46 ∷ y ≡ x' ++ y' → ¬ (Ends IsHexOrDot y')
dot_apart [] y [] y' digits hexes e ends = subst (Ends IsHexOrDot) (sym e) ends (inr refl)
dot_apart [] y (c ∷ cs) y' digits hexes e ends =
    let same : 46 ≡ c = cc in
    let hex : IsHexByte 46 = subst IsHexByte (sym same) hexes.0 in
    omega arith
dot_apart (d ∷ ds) y [] y' digits hexes e ends = subst (Ends IsHexOrDot) (sym e) ends (inl (digit_hex d digits.0))
dot_apart (d ∷ ds) y (c ∷ cs) y' digits hexes e ends =
    let below : ds ++ 46 ∷ y ≡ cs ++ y' = cc in
    dot_apart ds y cs y' digits.1 hexes.1 below ends

decimal_digits : (front : List ℕ) (n : ℕ) → IsDecimal front n → AllByRecursion IsDigit front
decimal_digits [] n number = tt
decimal_digits (d ∷ ds) n number = (number.0, number.2)

dotted_apart : (base : ℕ) (form below : ℕ → Form) → ((n : ℕ) → NeverBegins IsHexOrDot (below n)) → Apart (dotted_form base form) (Hex below)
dotted_apart base form below never t (said, (front, rest, n, after, e, number, (more, dot, spelt), says)) (said', (front', rest', m, e', group, spelt')) =
    let same : front ++ 46 ∷ more ≡ front' ++ rest' = ap (λ r. front ++ r) (sym dot) ∙ (sym e ∙ e') in
    dot_apart front more front' rest' (decimal_digits front n number) group.0.0.1 same (ends_from IsHexOrDot (below m) rest' (never m) (said', spelt'))

colon_apart : (form other : Form) → BeginsHex other → Apart (Mark 58 form) other
colon_apart form other begins t (said, (rest, e, spelt)) is_of = begins t is_of (subst (Ends IsHexByte) (sym e) colon_no_hex)

-- what follows a group and a colon
abbrev colon_rest : ℕ → (ℕ → Form) → (ℕ → Form) → ℕ → ℕ → Form
colon_rest room form next value group =
    Either (Mark 58 (gap_form (room - 1) form (value + group * 2 ^ (16 * room)))) (next (value + group * 2 ^ (16 * room)))

module _ (form : ℕ → Form) (ends : (v : ℕ) → NeverBegins IsInAddress (form v)) (parted : (v : ℕ) → Parted (form v)) where
  no_hex : (v : ℕ) → NeverBegins IsHexByte (form v)
  no_hex v c rest p = ends v c rest (inl p)

  no_digit_there : (v : ℕ) → NeverBegins IsDigit (form v)
  no_digit_there v c rest d = ends v c rest (inl (digit_hex c d))

  no_hex_or_dot : (v : ℕ) → NeverBegins IsHexOrDot (form v)
  no_hex_or_dot v c rest (inl p) = ends v c rest (inl p)
  no_hex_or_dot v c rest (inr p) = ends v c rest (inr (inl p))

  dotted_here : (base : ℕ) → Parted (dotted_form base form)
  dotted_here base = dotted_parted base form no_digit_there parted

  -- an end, or a colon
  colon_later : (v : ℕ) (next : Form) → NeverBegins IsHexOrDot (Either (form v) (Mark 58 next))
  colon_later v next = either_never IsHexOrDot (form v) (Mark 58 next) (no_hex_or_dot v) (mark_never IsHexOrDot 58 next colon_outside)

  end_or_colon : (v : ℕ) (next : Form) → Apart (form v) (Mark 58 next)
  end_or_colon v next t (said, spelt) (said', (rest, e, spelt')) = ends v 58 rest (inr (inr refl)) (said, subst (Spelt (form v) said) e spelt)

  more_parted : (next : ℕ → Form) (base value : ℕ) → ((v : ℕ) → Parted (next v)) → Parted (more_form form next base value)
  more_parted next base value below group = (
    either_never IsHexByte (form (base + (value * 65536 + group))) (Mark 58 (next (value * 65536 + group))) (no_hex (base + (value * 65536 + group))) (mark_never IsHexByte 58 (next (value * 65536 + group)) colon_no_hex),
    (end_or_colon (base + (value * 65536 + group)) (next (value * 65536 + group)), parted (base + (value * 65536 + group)), below (value * 65536 + group)),
  )

  behind_begins : (room base value : ℕ) → BeginsHex (behind_form room form base value)
  behind_begins zero base value = hex_begins (λ group. form (base + (value * 65536 + group)))
  behind_begins (suc room) base value =
      either_begins (dotted_form (base + value * 2 ^ 32) form) (more_form form (behind_form room form base) base value)
      (dotted_begins (base + value * 2 ^ 32) form)
      (hex_begins (λ group. Either (form (base + (value * 65536 + group))) (Mark 58 (behind_form room form base (value * 65536 + group)))))

  behind_parted : (room base value : ℕ) → Parted (behind_form room form base value)
  behind_parted zero base value = λ group. (no_hex (base + (value * 65536 + group)), parted (base + (value * 65536 + group)))
  behind_parted (suc room) base value = (
    dotted_apart (base + value * 2 ^ 32) form (λ group. Either (form (base + (value * 65536 + group))) (Mark 58 (behind_form room form base (value * 65536 + group))))
        (λ group. colon_later (base + (value * 65536 + group)) (behind_form room form base (value * 65536 + group))),
    dotted_here (base + value * 2 ^ 32),
    more_parted (behind_form room form base) base value (behind_parted room base),
  )

  gap_parted : (room base : ℕ) → Parted (gap_form room form base)
  gap_parted zero base = parted base
  gap_parted (suc room) base = (
    (λ t here there. behind_begins room base 0 t there (ends_hex t (ends_from IsInAddress (form base) t (ends base) here))),
    parted base,
    behind_parted room base 0,
  )

  colon_parted : (room : ℕ) (next : ℕ → Form) (value : ℕ) → ((v : ℕ) → BeginsHex (next v)) → ((v : ℕ) → Parted (next v)) → Parted (colon_form room form next value)
  colon_parted room next value begins below group = (
    mark_never IsHexByte 58 (Either (Mark 58 (gap_form (room - 1) form (value + group * 2 ^ (16 * room)))) (next (value + group * 2 ^ (16 * room)))) colon_no_hex,
    (
      colon_apart (gap_form (room - 1) form (value + group * 2 ^ (16 * room))) (next (value + group * 2 ^ (16 * room))) (begins (value + group * 2 ^ (16 * room))),
      gap_parted (room - 1) (value + group * 2 ^ (16 * room)),
      below (value + group * 2 ^ (16 * room)),
    ),
  )

  groups_begin : (room value : ℕ) → BeginsHex (groups_form room form value)
  groups_begin zero value = hex_begins (λ group. form (value + group))
  groups_begin (suc zero) value =
      either_begins (dotted_form value form) (colon_form 1 form (groups_form zero form) value) (dotted_begins value form) (hex_begins (λ group. Mark 58 (colon_rest 1 form (groups_form zero form) value group)))
  groups_begin (suc (suc room)) value = hex_begins (λ group. Mark 58 (colon_rest (suc (suc room)) form (groups_form (suc room) form) value group))

  groups_parted : (room value : ℕ) → Parted (groups_form room form value)
  groups_parted zero value = λ group. (no_hex (value + group), parted (value + group))
  groups_parted (suc zero) value = (
    dotted_apart value form (λ group. Mark 58 (colon_rest 1 form (groups_form zero form) value group)) (λ group. mark_never IsHexOrDot 58 (colon_rest 1 form (groups_form zero form) value group) colon_outside),
    dotted_here value,
    colon_parted 1 (groups_form zero form) value (groups_begin zero) (groups_parted zero),
  )
  groups_parted (suc (suc room)) value = colon_parted (suc (suc room)) (groups_form (suc room) form) value (groups_begin (suc room)) (groups_parted (suc room))

  six_parted : Parted (Either (Mark 58 (Mark 58 (gap_form 7 form 0))) (groups_form 7 form 0))
  six_parted = (
    colon_apart (Mark 58 (gap_form 7 form 0)) (groups_form 7 form 0) (groups_begin 7 0),
    gap_parted 7 0,
    groups_parted 7 0,
  )

pub form6_parted : (tail : Tail) → Parted (form6 tail)
form6_parted tail = six_parted (tail_form tail V6) (tail_ends tail V6) (tail_parted tail V6)

-- no text is an address of both families
families_apart : (tail : Tail) → Apart (form4 tail) (form6 tail)
families_apart tail t four (said, inl spelt) = colon_apart (Mark 58 (gap_form 7 (tail_form tail V6) 0)) (form4 tail) (dotted_begins 0 (tail_form tail V4)) t (said, spelt) four
families_apart tail t four (said, inr spelt) =
    dotted_apart 0 (tail_form tail V4) (λ group. Mark 58 (colon_rest 7 (tail_form tail V6) (groups_form 6 (tail_form tail V6)) 0 group))
    (λ group. mark_never IsHexOrDot 58 (colon_rest 7 (tail_form tail V6) (groups_form 6 (tail_form tail V6)) 0 group) colon_outside) t four (said, spelt)

pub address_parted : (tail : Tail) → Parted (address_form tail)
address_parted tail = (families_apart tail, form4_parted tail, form6_parted tail)
