-- Addresses and prefixes that are written are read again.
use Rattle.std.proofs.Common.{◌≡◌, inl, inr, ℕ, zero, suc, ◌+◌, ◌-◌, ◌*◌, ◌^◌, ◌<◌, ◌≤◌, Bool, true, false, ◌||◌, ◌==◌, List, [], ◌∷◌, ◌++◌, min, Ok, refl, sym, ap, ◌∙◌, arith, subst, if◌then◌else◌}
use Rattle.std.specs.Char.{digit_value}
use Rattle.std.specs.Str.Parse.{AllDigits}
use Rattle.std.specs.List.{AllByRecursion, list_all}
use Rattle.std.proofs.lemmas.Bool.Decides.{nat_tests}
use Rattle.std.proofs.lemmas.Bool.{and_parts, and_from, le-leb, eqb-true}
use Rattle.std.proofs.lemmas.List.{append-nil, append_assoc}
use Rattle.std.proofs.lemmas.List.Folds.{list_all-append}
use Rattle.ixp_num.specs.declared.addr.Addr.{Addr}
use Rattle.ixp_num.specs.declared.prefix.Prefix.{Prefix}
use Rattle.ixp_num.specs.declared.family.Family.{Family}
use Rattle.ixp_num.specs.declared.family.Family.TheVariants.{V4, V6}
use Rattle.ixp_num.specs.Forms.{Form, End, Mark, Decimal, Hex, Either, IsDigit, IsDecimal, Said, Spelt}
use Rattle.ixp_num.specs.AddressForms.{numbers, dotted_form, more_form, behind_form, gap_form, colon_form, groups_form}
use Rattle.ixp_num.specs.Answers.{AddrAnswer, PrefixAnswer}
use Rattle.ixp_lang_tokens.specs.declared.shape.Shape.TheVariants as shape
use Rattle.ixp_lang_tokens.specs.declared.token.Kind.TheVariants as kind
use Rattle.ixp_lang_tokens.specs.Bytes.{is_digit, is_word_byte, is_address_byte, begins_with}
use Rattle.ixp_lang_tokens.specs.Tokens.{colons, AreDigits, AreDotted, AddressRun, LengthRun, Stands}
use Rattle.ixp_lang_tokens.specs.Cutting.{is_colon_text}
use Rattle.ixp_lang_tokens.specs.Written.{FewColons, NoLength}
use Rattle.ixp_lang_tokens.proofs.AddressLaws.{regroup, colon_complete, no_length}
use Rattle.ixp_lang_tokens.proofs.PlainLaws.{few_is_none}
use Rattle.ixp_lang_tokens.proofs.Standing.{few_colons, digits_are_words}

-- Digits.

hex_byte : (c : ℕ) → digit_value c < 16 → is_address_byte c ≡ true
hex_byte c low = grind (arith, nat_tests)

hex_bytes : (ds : List ℕ) → AllDigits 16 ds → list_all is_address_byte ds ≡ true
hex_bytes [] all = refl
hex_bytes (d ∷ ds) all = and_from _ _ (hex_byte d all.0) (hex_bytes ds all.1)

digit_byte : (c : ℕ) → IsDigit c → is_digit c ≡ true
digit_byte c is = and_from _ _ (le-leb _ _ is.0) (le-leb _ _ is.1)

digits_all : (ds : List ℕ) → AllByRecursion IsDigit ds → list_all is_digit ds ≡ true
digits_all [] all = refl
digits_all (d ∷ ds) all = and_from _ _ (digit_byte d all.0) (digits_all ds all.1)

pub decimal_digits : (ds : List ℕ) (n : ℕ) → IsDecimal ds n → AreDigits ds
decimal_digits [] n is = absurd is
decimal_digits (d ∷ ds) n (digit, lead, all, value) = (omega arith, and_from _ _ (digit_byte d digit) (digits_all ds all))

or_left : (a b c d e : Bool) → a ≡ true → ((a || b || c) || d || e) ≡ true
or_left true b c d e p = refl
or_left false b c d e p = absurd cc

digits_address : (ds : List ℕ) → list_all is_digit ds ≡ true → list_all is_address_byte ds ≡ true
digits_address [] all = refl
digits_address (d ∷ ds) all =
    let p : (is_digit d ≡ true) × (list_all is_digit ds ≡ true) = and_parts _ _ all in
    and_from _ _ (or_left (is_digit d) _ _ _ _ p.0) (digits_address ds p.1)

all_join : (xs ys : List ℕ) → list_all is_address_byte xs ≡ true → list_all is_address_byte ys ≡ true → list_all is_address_byte (xs ++ ys) ≡ true
all_join xs ys here there = list_all-append is_address_byte xs ys ∙ and_from _ _ here there

colons_step : (b : ℕ) (t : Bool) (n : ℕ) → n ≤ (if t then 1 + n else n)
colons_step b true n = omega arith
colons_step b false n = omega arith

colons_more : (xs ys : List ℕ) → colons ys ≤ colons (xs ++ ys)
colons_more [] ys = omega arith
colons_more (x ∷ xs) ys = omega (arith, colons_more xs ys, colons_step x (x == 58) (colons (xs ++ ys)))

-- Each text of the form goes over bytes of addresses, k colons or more among them, to what follows the address.
abbrev Reaches : ℕ → (ℕ → Form) → Form → Type 0
Reaches k leaf form =
    (said : Said) (t : List ℕ) → Spelt form said t
    → (front rest : List ℕ) × (v : ℕ) × (after : Said) × (t ≡ front ++ rest) × (list_all is_address_byte front ≡ true) × (k ≤ colons front) × Spelt (leaf v) after rest

reach_leaf : (leaf : ℕ → Form) (v : ℕ) → Reaches 0 leaf (leaf v)
reach_leaf leaf v said t spelt = ([], t, v, said, refl, refl, omega arith, spelt)

reach_less : (k n : ℕ) (leaf : ℕ → Form) (form : Form) → k ≤ n → Reaches n leaf form → Reaches k leaf form
reach_less k n leaf form less reach said t spelt =
    let (front, rest, v, after, e, all, many, h) = reach said t spelt in
    (front, rest, v, after, e, all, omega arith, h)

reach_colon : (k : ℕ) (leaf : ℕ → Form) (form : Form) → Reaches k leaf form → Reaches (1 + k) leaf (Mark 58 form)
reach_colon k leaf form reach said t (behind, is, spelt) =
    let (front, rest, v, after, e, all, many, h) = reach said behind spelt in
    (58 ∷ front, rest, v, after, is ∙ ap (λ x. 58 ∷ x) e, all, omega arith, h)

reach_dot : (k : ℕ) (leaf : ℕ → Form) (form : Form) → Reaches k leaf form → Reaches k leaf (Mark 46 form)
reach_dot k leaf form reach said t (behind, is, spelt) =
    let (front, rest, v, after, e, all, many, h) = reach said behind spelt in
    (46 ∷ front, rest, v, after, is ∙ ap (λ x. 46 ∷ x) e, all, many, h)

joined : (t a b front rest : List ℕ) → t ≡ a ++ b → b ≡ front ++ rest → t ≡ (a ++ front) ++ rest
joined t a b front rest p q =
    let e : t ≡ a ++ (front ++ rest) = cc in e ∙ sym (append_assoc a front rest)

reach_decimal : (k bound : ℕ) (leaf : ℕ → Form) (form : ℕ → Form) → ((n : ℕ) → Reaches k leaf (form n)) → Reaches k leaf (Decimal bound form)
reach_decimal k bound leaf form reach said t (digits, behind, n, further, is, decimal, spelt, says) =
    let (front, rest, v, after, e, all, many, h) = reach (min n bound) further behind spelt in
    let are : AreDigits digits = decimal_digits digits n decimal in (
      digits ++ front,
      rest,
      v,
      after,
      joined t digits behind front rest is e,
      all_join digits front (digits_address digits are.1) all,
      omega (arith, colons_more digits front),
      h,
    )

reach_hex : (k : ℕ) (leaf : ℕ → Form) (form : ℕ → Form) → ((n : ℕ) → Reaches k leaf (form n)) → Reaches k leaf (Hex form)
reach_hex k leaf form reach said t (digits, behind, n, is, group, spelt) =
    let (front, rest, v, after, e, all, many, h) = reach n said behind spelt in (
      digits ++ front,
      rest,
      v,
      after,
      joined t digits behind front rest is e,
      all_join digits front (hex_bytes digits group.0.0.1) all,
      omega (arith, colons_more digits front),
      h,
    )

reach_either : (k : ℕ) (leaf : ℕ → Form) (one other : Form) → Reaches k leaf one → Reaches k leaf other → Reaches k leaf (Either one other)
reach_either k leaf one other here there said t (inl spelt) = here said t spelt
reach_either k leaf one other here there said t (inr spelt) = there said t spelt

-- IPv6 addresses.

abbrev last_octet : (ℕ → Form) → ℕ → ℕ → ℕ → ℕ → ℕ → Form
last_octet leaf base a b c d = leaf (base + (((a * 256 + b) * 256 + c) * 256 + d))

abbrev third_octet : (ℕ → Form) → ℕ → ℕ → ℕ → ℕ → Form
third_octet leaf base a b c = Mark 46 (Decimal 255 (last_octet leaf base a b c))

abbrev second_octet : (ℕ → Form) → ℕ → ℕ → ℕ → Form
second_octet leaf base a b = Mark 46 (Decimal 255 (third_octet leaf base a b))

abbrev first_octet : (ℕ → Form) → ℕ → ℕ → Form
first_octet leaf base a = Mark 46 (Decimal 255 (second_octet leaf base a))

reach_octet : (leaf : ℕ → Form) (form : ℕ → Form) → ((n : ℕ) → Reaches 0 leaf (form n)) → Reaches 0 leaf (Mark 46 (Decimal 255 form))
reach_octet leaf form reach = reach_dot 0 leaf (Decimal 255 form) (reach_decimal 0 255 leaf form reach)

reach_dotted : (leaf : ℕ → Form) (base : ℕ) → Reaches 0 leaf (dotted_form base leaf)
reach_dotted leaf base =
    reach_decimal 0 255 leaf (first_octet leaf base) (λ a. reach_octet leaf (second_octet leaf base a) (λ b. reach_octet leaf (third_octet leaf base a b)
    (λ c. reach_octet leaf (last_octet leaf base a b c) (λ d. reach_leaf leaf (base + (((a * 256 + b) * 256 + c) * 256 + d))))))

reach_behind : (leaf : ℕ → Form) (room base value : ℕ) → Reaches 0 leaf (behind_form room leaf base value)
reach_behind leaf zero base value = reach_hex 0 leaf (λ group. leaf (base + (value * 65536 + group))) (λ group. reach_leaf leaf (base + (value * 65536 + group)))
reach_behind leaf (suc room) base value =
    reach_either 0 leaf (dotted_form (base + value * 2 ^ 32) leaf) (more_form leaf (behind_form room leaf base) base value) (reach_dotted leaf (base + value * 2 ^ 32))
    (reach_hex 0 leaf (λ group. Either (leaf (base + (value * 65536 + group))) (Mark 58 (behind_form room leaf base (value * 65536 + group))))
    (λ group. reach_either 0 leaf (leaf (base + (value * 65536 + group))) (Mark 58 (behind_form room leaf base (value * 65536 + group))) (reach_leaf leaf (base + (value * 65536 + group)))
    (reach_less 0 1 leaf (Mark 58 (behind_form room leaf base (value * 65536 + group))) (omega arith) (reach_colon 0 leaf (behind_form room leaf base (value * 65536 + group)) (reach_behind leaf room base (value * 65536 + group))))))

reach_gap : (leaf : ℕ → Form) (room base : ℕ) → Reaches 0 leaf (gap_form room leaf base)
reach_gap leaf zero base = reach_leaf leaf base
reach_gap leaf (suc room) base = reach_either 0 leaf (leaf base) (behind_form room leaf base 0) (reach_leaf leaf base) (reach_behind leaf room base 0)

-- a group, a colon, and a second colon or what has k colons
reach_groups : (k : ℕ) (leaf : ℕ → Form) (room : ℕ) (next : ℕ → Form) (value : ℕ) → k ≤ 1 → ((v : ℕ) → Reaches k leaf (next v)) → Reaches (1 + k) leaf (colon_form room leaf next value)
reach_groups k leaf room next value few reach =
    reach_hex (1 + k) leaf (λ group. Mark 58 (Either (Mark 58 (gap_form (room - 1) leaf (value + group * 2 ^ (16 * room)))) (next (value + group * 2 ^ (16 * room)))))
    (λ group. reach_colon k leaf (Either (Mark 58 (gap_form (room - 1) leaf (value + group * 2 ^ (16 * room)))) (next (value + group * 2 ^ (16 * room))))
    (reach_either k leaf (Mark 58 (gap_form (room - 1) leaf (value + group * 2 ^ (16 * room)))) (next (value + group * 2 ^ (16 * room)))
    (reach_less k 1 leaf (Mark 58 (gap_form (room - 1) leaf (value + group * 2 ^ (16 * room)))) few (reach_colon 0 leaf (gap_form (room - 1) leaf (value + group * 2 ^ (16 * room))) (reach_gap leaf (room - 1) (value + group * 2 ^ (16 * room)))))
    (reach (value + group * 2 ^ (16 * room)))))

groups_any : (leaf : ℕ → Form) (room value : ℕ) → Reaches 0 leaf (groups_form room leaf value)
groups_any leaf zero value = reach_hex 0 leaf (λ group. leaf (value + group)) (λ group. reach_leaf leaf (value + group))
groups_any leaf (suc zero) value =
    reach_either 0 leaf (dotted_form value leaf) (colon_form 1 leaf (groups_form zero leaf) value) (reach_dotted leaf value)
    (reach_less 0 1 leaf (colon_form 1 leaf (groups_form zero leaf) value) (omega arith) (reach_groups 0 leaf 1 (groups_form zero leaf) value (omega arith) (groups_any leaf zero)))
groups_any leaf (suc (suc room)) value =
    reach_less 0 1 leaf (colon_form (suc (suc room)) leaf (groups_form (suc room) leaf) value) (omega arith) (reach_groups 0 leaf (suc (suc room)) (groups_form (suc room) leaf) value (omega arith) (groups_any leaf (suc room)))

groups_one : (leaf : ℕ → Form) (value : ℕ) → Reaches 1 leaf (groups_form 6 leaf value)
groups_one leaf value = reach_groups 0 leaf 6 (groups_form 5 leaf) value (omega arith) (groups_any leaf 5)

groups_two : (leaf : ℕ → Form) (value : ℕ) → Reaches 2 leaf (groups_form 7 leaf value)
groups_two leaf value = reach_groups 1 leaf 7 (groups_form 6 leaf) value (omega arith) (groups_one leaf)

colon_two : (leaf : ℕ → Form) → Reaches 2 leaf (Mark 58 (Mark 58 (gap_form 7 leaf 0)))
colon_two leaf = reach_colon 1 leaf (Mark 58 (gap_form 7 leaf 0)) (reach_colon 0 leaf (gap_form 7 leaf 0) (reach_gap leaf 7 0))

-- What follows an address.

abbrev address_end : ℕ → Family → ℕ → Form
address_end bits family v = End (numbers family v bits bits bits)

abbrev prefix_end : ℕ → Family → ℕ → Form
prefix_end bits family v = Mark 47 (Decimal bits (λ len. End (numbers family v len len len)))

-- An IPv4 address in a text of a form.

abbrev Dotted4 : (ℕ → Form) → List ℕ → Type 0
Dotted4 leaf t = (front rest : List ℕ) × (v : ℕ) × (after : Said) × (t ≡ front ++ rest) × AreDotted front × Spelt (leaf v) after rest

dotted_text : (leaf : ℕ → Form) (base : ℕ) (said : Said) (t : List ℕ) → Spelt (dotted_form base leaf) said t → Dotted4 leaf t
dotted_text leaf base said t (a, r1, n1, s1, e1, da, (q1, m1, (b, r2, n2, s2, e2, db, (q2, m2, (c, r3, n3, s3, e3, dc, (q3, m3, (d, r4, n4, s4, e4, dd, spelt, y4)), y3)), y2)), y1) =
    let whole : t ≡ a ++ (46 ∷ (b ++ (46 ∷ (c ++ (46 ∷ (d ++ r4)))))) = cc in (
      a ++ (46 ∷ (b ++ (46 ∷ (c ++ (46 ∷ d))))),
      r4,
      _,
      s4,
      whole ∙ regroup a b c d r4,
      (a, b, c, d, refl, decimal_digits a n1 da, decimal_digits b n2 db, decimal_digits c n3 dc, decimal_digits d n4 dd),
      spelt,
    )

-- An IPv6 address in a text of a form.

is_dot : ℕ → Bool
is_dot b = b == 46

abbrev Colon6 : (ℕ → Form) → List ℕ → Type 0
Colon6 leaf t =
    (front rest : List ℕ) × (v : ℕ) × (after : Said) × (t ≡ front ++ rest) × (list_all is_address_byte front ≡ true) × (2 ≤ colons front) × Spelt (leaf v) after rest

hex_no_dot : (d : ℕ) (t : Bool) → (d == 46) ≡ t → digit_value d < 16 → t ≡ false
hex_no_dot d true e low =
    let P : ℕ → Type 0 = λ x. digit_value x < 16 in
    let h : digit_value 46 < 16 = subst P (eqb-true d 46 e) low in absurd (omega arith)
hex_no_dot d false e low = refl

hex_front : (form : ℕ → Form) (said : Said) (t : List ℕ) → Spelt (Hex form) said t → begins_with (λ b. b == 46) t ≡ false
hex_front form said t ([], behind, n, is, group, spelt) = absurd (omega (arith, group.0.0.0))
hex_front form said t (d ∷ ds, behind, n, is, group, spelt) =
    let P : List ℕ → Type 0 = λ x. begins_with (λ b. b == 46) x ≡ false in
    subst P (sym is) (hex_no_dot d (d == 46) refl group.0.0.1.0)

-- Runs of addresses.

run4 : (front rest : List ℕ) → AreDotted front → begins_with is_digit rest ≡ false → FewColons rest → AddressRun (front ++ rest) front rest
run4 front rest (a, b, c, d, is, are_a, are_b, are_c, are_d) ends few =
    let w_a : list_all is_word_byte a ≡ true = digits_are_words a are_a.1 in
    let w_b : list_all is_word_byte b ≡ true = digits_are_words b are_b.1 in
    let w_c : list_all is_word_byte c ≡ true = digits_are_words c are_c.1 in
    let w_d : list_all is_word_byte d ≡ true = digits_are_words d are_d.1 in
    let f_d : FewColons (d ++ rest) = few_colons d rest w_d few in
    let f_c : FewColons (c ++ (46 ∷ (d ++ rest))) = few_colons c (46 ∷ (d ++ rest)) w_c f_d in
    let f_b : FewColons (b ++ (46 ∷ (c ++ (46 ∷ (d ++ rest))))) = few_colons b (46 ∷ (c ++ (46 ∷ (d ++ rest)))) w_b f_c in
    let f_a : FewColons (a ++ (46 ∷ (b ++ (46 ∷ (c ++ (46 ∷ (d ++ rest))))))) = few_colons a (46 ∷ (b ++ (46 ∷ (c ++ (46 ∷ (d ++ rest)))))) w_a f_b in
    let P : List ℕ → Type 0 = λ t. FewColons t in
    let whole : FewColons (front ++ rest) = subst P (regroup a b c d rest ∙ ap (λ x. x ++ rest) (sym is)) f_a in
    let none : is_colon_text (front ++ rest) ≡ false = few_is_none (front ++ rest) whole in
    inr (
      (λ other behind h. let p : is_colon_text (front ++ rest) ≡ true = colon_complete (front ++ rest) other behind h in absurd cc),
      refl,
      (a, b, c, d, is, are_a, are_b, are_c, are_d),
      ends,
    )

run6 : (front rest : List ℕ) → list_all is_address_byte front ≡ true → 2 ≤ colons front → begins_with (λ b. b == 46) front ≡ false → begins_with is_address_byte rest ≡ false
    → AddressRun (front ++ rest) front rest
run6 [] rest all two no_dot ends = absurd (omega arith)
run6 (b ∷ bs) rest all two no_dot ends = inl ((refl, all, ends), no_dot, two)

no_digit : (rest : List ℕ) → begins_with is_address_byte rest ≡ false → begins_with is_digit rest ≡ false
no_digit [] ends = refl
no_digit (b ∷ bs) ends = by_byte (is_digit b) refl
  where
    by_byte : (t : Bool) → is_digit b ≡ t → t ≡ false
    by_byte true e = let h : is_address_byte b ≡ true = or_left (is_digit b) _ _ _ _ e in absurd cc
    by_byte false e = refl

no_run : (rest : List ℕ) → begins_with is_address_byte rest ≡ false → FewColons rest
no_run [] ends = refl
no_run (b ∷ bs) ends = rw ends refl

-- an address is whole where its form ends
whole4 : (text rest : List ℕ) → Dotted4 (address_end 32 V4) text → begins_with is_address_byte rest ≡ false → AddressRun (text ++ rest) text rest
whole4 text rest (front, end, v, after, e, dotted, (none, says)) ends =
    let same : front ≡ text = (let p : text ≡ front ++ [] = cc in sym (p ∙ append-nil front)) in
    let P : List ℕ → Type 0 = λ t. AddressRun (t ++ rest) t rest in
    subst P same (run4 front rest dotted (no_digit rest ends) (no_run rest ends))

whole6 : (text rest : List ℕ) → begins_with (λ b. b == 46) text ≡ false → Colon6 (address_end 128 V6) text → begins_with is_address_byte rest ≡ false → AddressRun (text ++ rest) text rest
whole6 text rest no_dot (front, end, v, after, e, all, two, (none, says)) ends =
    let same : front ≡ text = (let p : text ≡ front ++ [] = cc in sym (p ∙ append-nil front)) in
    let P : List ℕ → Type 0 = λ t. AddressRun (t ++ rest) t rest in
    let Q : List ℕ → Type 0 = λ t. begins_with (λ b. b == 46) t ≡ false in
    subst P same (run6 front rest all two (subst Q (sym same) no_dot) ends)

colon_start : (form : Form) (said : Said) (t : List ℕ) → Spelt (Mark 58 form) said t → begins_with (λ b. b == 46) t ≡ false
colon_start form said t (behind, is, spelt) =
    let P : List ℕ → Type 0 = λ x. begins_with (λ b. b == 46) x ≡ false in subst P (sym is) refl

colon_front : (leaf : ℕ → Form) (said : Said) (t : List ℕ) → Spelt (Mark 58 (Mark 58 (gap_form 7 leaf 0))) said t → begins_with (λ b. b == 46) t ≡ false
colon_front leaf said t spelt = colon_start (Mark 58 (gap_form 7 leaf 0)) said t spelt

groups_front : (leaf : ℕ → Form) (said : Said) (t : List ℕ) → Spelt (groups_form 7 leaf 0) said t → begins_with (λ b. b == 46) t ≡ false
groups_front leaf said t spelt =
    hex_front (λ group. Mark 58 (Either (Mark 58 (gap_form 6 leaf (0 + group * 2 ^ (16 * 7)))) (groups_form 6 leaf (0 + group * 2 ^ (16 * 7))))) said t spelt

addr_run : (text rest : List ℕ) (a : Addr) → AddrAnswer text (Ok a) → begins_with is_address_byte rest ≡ false → AddressRun (text ++ rest) text rest
addr_run text rest a (inl spelt) ends = whole4 text rest (dotted_text (address_end 32 V4) 0 _ text spelt) ends
addr_run text rest a (inr (inl spelt)) ends = whole6 text rest (colon_front (address_end 128 V6) _ text spelt) (colon_two (address_end 128 V6) _ text spelt) ends
addr_run text rest a (inr (inr spelt)) ends = whole6 text rest (groups_front (address_end 128 V6) _ text spelt) (groups_two (address_end 128 V6) 0 _ text spelt) ends

pub address_stands : (text rest : List ℕ) (a : Addr) → AddrAnswer text (Ok a) → begins_with is_address_byte rest ≡ false → NoLength rest → Stands (kind.Addr a) (text ++ rest) rest
address_stands text rest a says ends none =
    inl (shape.Address, text, (addr_run text rest a says ends, no_length rest none), (Ok a, says, refl))

-- Prefixes.

abbrev PrefixRun : List ℕ → List ℕ → Type 0
PrefixRun text rest = (addr mid run : List ℕ) × AddressRun (text ++ rest) addr mid × LengthRun mid run rest × (text ≡ addr ++ run)

-- an address, and the slash and the length behind it
prefix_parts : (text rest front behind digits end : List ℕ) → text ≡ front ++ (47 ∷ behind) → behind ≡ digits ++ end → end ≡ [] → AreDigits digits → begins_with is_digit rest ≡ false
    → ((mid : List ℕ) → begins_with is_address_byte mid ≡ false → AddressRun (front ++ mid) front mid) → PrefixRun text rest
prefix_parts text rest front behind digits end p q r are ends run =
    let s : behind ≡ digits = (let e : behind ≡ digits ++ [] = cc in e ∙ append-nil digits) in
    let whole : text ≡ front ++ (47 ∷ digits) = cc in
    let all : text ++ rest ≡ front ++ (47 ∷ (digits ++ rest)) = ap (λ x. x ++ rest) whole ∙ append_assoc front (47 ∷ digits) rest in
    let P : List ℕ → Type 0 = λ t. AddressRun t front (47 ∷ (digits ++ rest)) in
    (front, 47 ∷ (digits ++ rest), 47 ∷ digits, subst P (sym all) (run (47 ∷ (digits ++ rest)) refl), (digits ++ rest, digits, refl, refl, are.0, (refl, are.1, ends)), whole)

prefix4 : (text rest : List ℕ) → Dotted4 (prefix_end 32 V4) text → begins_with is_digit rest ≡ false → PrefixRun text rest
prefix4 text rest (front, tail, v, after, e, dotted, (behind, slash, (digits, end, n, last, is, decimal, (none, says), bounded))) ends =
    let p : text ≡ front ++ (47 ∷ behind) = cc in
    prefix_parts text rest front behind digits end p is none (decimal_digits digits n decimal) ends (λ mid stop. run4 front mid dotted (no_digit mid stop) (no_run mid stop))

front_dot : (front tail : List ℕ) → 2 ≤ colons front → begins_with (λ b. b == 46) (front ++ tail) ≡ false → begins_with (λ b. b == 46) front ≡ false
front_dot [] tail two h = absurd (omega arith)
front_dot (b ∷ bs) tail two h = h

prefix6 : (text rest : List ℕ) → begins_with (λ b. b == 46) text ≡ false → Colon6 (prefix_end 128 V6) text → begins_with is_digit rest ≡ false → PrefixRun text rest
prefix6 text rest no_dot (front, tail, v, after, e, all, two, (behind, slash, (digits, end, n, last, is, decimal, (none, says), bounded))) ends =
    let p : text ≡ front ++ (47 ∷ behind) = cc in
    let P : List ℕ → Type 0 = λ t. begins_with (λ b. b == 46) t ≡ false in
    let d : begins_with (λ b. b == 46) front ≡ false = front_dot front tail two (subst P e no_dot) in
    prefix_parts text rest front behind digits end p is none (decimal_digits digits n decimal) ends (λ mid stop. run6 front mid all two d stop)

prefix_run : (text rest : List ℕ) (p : Prefix) → PrefixAnswer text (Ok p) → begins_with is_digit rest ≡ false → PrefixRun text rest
prefix_run text rest p (inl spelt) ends = prefix4 text rest (dotted_text (prefix_end 32 V4) 0 _ text spelt) ends
prefix_run text rest p (inr (inl spelt)) ends = prefix6 text rest (colon_front (prefix_end 128 V6) _ text spelt) (colon_two (prefix_end 128 V6) _ text spelt) ends
prefix_run text rest p (inr (inr spelt)) ends = prefix6 text rest (groups_front (prefix_end 128 V6) _ text spelt) (groups_two (prefix_end 128 V6) 0 _ text spelt) ends

pub prefix_stands : (text rest : List ℕ) (p : Prefix) → PrefixAnswer text (Ok p) → begins_with is_digit rest ≡ false → Stands (kind.Prefix p) (text ++ rest) rest
prefix_stands text rest p says ends = inl (shape.Prefix, text, prefix_run text rest p says ends, (Ok p, says, refl))
