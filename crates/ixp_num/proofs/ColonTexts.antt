-- Each text of RFC 4291 section 2.2, as std's grammar has it, is of the form of IPv6 addresses, and says its groups.
use Rattle.std.proofs.Common.{◌≡◌, ℕ, zero, suc, ◌+◌, ◌-◌, ◌*◌, ◌<◌, ◌≤◌, ◌^◌, inl, inr, Bool, true, false, List, [], ◌∷◌, ◌++◌, length, replicate, decimal, refl, sym, ap, ◌∙◌, subst, arith, append_assoc, mul_assoc, add-mul}
use Rattle.std.proofs.lemmas.Nat.{pow-add}
use Rattle.std.specs.Net.Addr.{segments_of}
use Rattle.std.specs.Net.Text.{dotted_text}
use Rattle.std.specs.Net.Grammar.{IsDotted, IsGroup, IsGroupsAfter, IsGroups, IsColonHex}
use Rattle.ixp_num.specs.declared.family.Family.TheVariants.{V6}
use Rattle.ixp_num.specs.declared.reading.Tail.{Tail}
use Rattle.ixp_num.specs.Forms.{Form, Mark, Hex, Either, Said, Spelt}
use Rattle.ixp_num.specs.AddressForms.{tail_form, dotted_form, behind_form, gap_form, colon_form, groups_form, form6}
use Rattle.ixp_num.specs.Printing.{groups_value}
use Rattle.ixp_num.proofs.Places.{next_power}
use Rattle.ixp_num.proofs.PrintedTexts.{dotted_spelt}

-- the values of groups

power_step : (n : ℕ) → 2 ^ (16 * suc n) ≡ 65536 * 2 ^ (16 * n)
power_step n = let e : suc n ≡ n + 1 = omega arith in ap (λ k. 2 ^ (16 * k)) e ∙ next_power n

pub groups_horner : (n : ℕ) (gs : List ℕ) → groups_value n gs ≡ n * 2 ^ (16 * length gs) + groups_value 0 gs
groups_horner n [] = omega arith
groups_horner n (g ∷ gs) =
    let here = groups_horner (n * 65536 + g) gs in
    let there = groups_horner (0 * 65536 + g) gs in
    let power = power_step (length gs) in
    let whole : n * 2 ^ (16 * suc (length gs)) ≡ n * 65536 * 2 ^ (16 * length gs) = ap (λ p. n * p) power ∙ omega arith in
    here ∙ omega arith

groups_append : (n : ℕ) (xs ys : List ℕ) → groups_value n (xs ++ ys) ≡ groups_value (groups_value n xs) ys
groups_append n [] ys = refl
groups_append n (x ∷ xs) ys = groups_append (n * 65536 + x) xs ys

groups_zeros : (n k : ℕ) → groups_value n (replicate k 0) ≡ n * 2 ^ (16 * k)
groups_zeros n zero = omega arith
groups_zeros n (suc k) =
    let power = power_step k in
    let whole : n * 2 ^ (16 * suc k) ≡ n * 65536 * 2 ^ (16 * k) = ap (λ p. n * p) power ∙ omega arith in
    groups_zeros (n * 65536 + 0) k ∙ omega arith

-- an IPv4 address in the place of two groups

dotted_right : (a b c d : ℕ) (rest : List ℕ) → dotted_text a b c d ++ rest ≡ decimal a ++ 46 ∷ (decimal b ++ 46 ∷ (decimal c ++ 46 ∷ (decimal d ++ rest)))
dotted_right a b c d rest = simp append_assoc

two_segments : (octets segments : List ℕ) (a b c d : ℕ) → octets ≡ a ∷ b ∷ c ∷ d ∷ [] → segments ≡ segments_of octets → segments ≡ (a * 256 + b) ∷ (c * 256 + d) ∷ []
two_segments octets segments a b c d e f = f ∙ ap segments_of e

one_segment : (g : ℕ) (last octets : List ℕ) → IsDotted last octets → g ∷ [] ≡ segments_of octets → ⊥
one_segment g last octets dotted e =
    let two : g ∷ [] ≡ (dotted.a * 256 + dotted.b) ∷ (dotted.c * 256 + dotted.d) ∷ [] = two_segments octets (g ∷ []) dotted.a dotted.b dotted.c dotted.d dotted.value e in
    absurd cc

-- no more groups follow
last_segments : (g h : ℕ) (hs last octets : List ℕ) → IsDotted last octets → g ∷ h ∷ hs ≡ segments_of octets → hs ≡ []
last_segments g h hs last octets dotted e =
    let two : g ∷ h ∷ hs ≡ (dotted.a * 256 + dotted.b) ∷ (dotted.c * 256 + dotted.d) ∷ [] = two_segments octets (g ∷ h ∷ hs) dotted.a dotted.b dotted.c dotted.d dotted.value e in
    cc

dotted_last : (base value g h : ℕ) (hs last octets : List ℕ) (form : ℕ → Form) (said : Said) (rest : List ℕ) → IsDotted last octets → g ∷ h ∷ hs ≡ segments_of octets → Spelt (form (base + groups_value value (g ∷ h ∷ hs))) said rest → Spelt (dotted_form (base + value * 2 ^ 32) form) said (last ++ rest)
dotted_last base value g h hs last octets form said rest dotted e spelt =
    let two : g ∷ h ∷ hs ≡ (dotted.a * 256 + dotted.b) ∷ (dotted.c * 256 + dotted.d) ∷ [] = two_segments octets (g ∷ h ∷ hs) dotted.a dotted.b dotted.c dotted.d dotted.value e in
    let none : hs ≡ [] = cc in
    let first : g ≡ dotted.a * 256 + dotted.b = cc in
    let second : h ≡ dotted.c * 256 + dotted.d = cc in
    let same : groups_value value (g ∷ h ∷ hs) ≡ (value * 65536 + g) * 65536 + h = ap (λ x. groups_value value (g ∷ h ∷ x)) none in
    let whole : base + groups_value value (g ∷ h ∷ hs) ≡ base + value * 2 ^ 32 + (((dotted.a * 256 + dotted.b) * 256 + dotted.c) * 256 + dotted.d) = omega arith in
    let text : decimal dotted.a ++ 46 ∷ (decimal dotted.b ++ 46 ∷ (decimal dotted.c ++ 46 ∷ (decimal dotted.d ++ rest))) ≡ last ++ rest = sym (dotted_right dotted.a dotted.b dotted.c dotted.d rest) ∙ ap (λ x. x ++ rest) (sym dotted.spelled) in
    subst (Spelt (dotted_form (base + value * 2 ^ 32) form) said) text
    (dotted_spelt (base + value * 2 ^ 32) dotted.a dotted.b dotted.c dotted.d form said rest dotted.fit.0 dotted.fit.1 dotted.fit.2 dotted.fit.3
    (subst (λ v. Spelt (form v) said rest) whole spelt))

-- the text behind a colon
after_colon : (ipv4 : Bool) (text : List ℕ) (g : ℕ) (gs : List ℕ) → IsGroupsAfter ipv4 (58 ∷ []) text (g ∷ gs) → (rest : List ℕ) × (text ≡ 58 ∷ rest) × IsGroupsAfter ipv4 [] rest (g ∷ gs)
after_colon ipv4 text g gs (inl (group, rest, e, digits, after)) = (group ++ rest, e, inl (group, rest, refl, digits, after))
after_colon ipv4 text g gs (inr (last, octets, on, e, dotted, two)) = (last, e, inr (last, octets, on, refl, dotted, two))

-- a group, and the text behind it
hex_spelt : (form : ℕ → Form) (said : Said) (text group after rest : List ℕ) (g : ℕ) → text ≡ group ++ after → IsGroup group g → Spelt (form g) said (after ++ rest) → Spelt (Hex form) said (text ++ rest)
hex_spelt form said text group after rest g e digits spelt = (group, after ++ rest, g, ap (λ x. x ++ rest) e ∙ append_assoc group after rest, digits, spelt)

no_rest : (P : List ℕ → Type 0) (after rest : List ℕ) → after ≡ [] → P rest → P (after ++ rest)
no_rest P after rest e p = subst (λ x. P (x ++ rest)) (sym e) p

-- the value of a group in its place, and of those behind it
placed_value : (room value g : ℕ) (gs : List ℕ) → length gs ≡ room → value + groups_value 0 (g ∷ gs) ≡ (value + g * 2 ^ (16 * room)) + groups_value 0 gs
placed_value room value g gs size =
    let whole = groups_horner (0 * 65536 + g) gs in
    let power : 2 ^ (16 * length gs) ≡ 2 ^ (16 * room) = ap (λ n. 2 ^ (16 * n)) size in
    let first : (0 * 65536 + g) * 2 ^ (16 * length gs) ≡ g * 2 ^ (16 * room) = ap (λ p. (0 * 65536 + g) * p) power ∙ omega arith in
    omega arith

module _ (form : ℕ → Form) (said : Said) (rest : List ℕ) where
  placed_next : (room value g h : ℕ) (hs : List ℕ) → length (h ∷ hs) ≡ room → Spelt (form (value + groups_value 0 (g ∷ h ∷ hs))) said rest → Spelt (form ((value + g * 2 ^ (16 * room)) + groups_value 0 (h ∷ hs))) said rest
  placed_next room value g h hs size spelt = subst (λ v. Spelt (form v) said rest) (placed_value room value g (h ∷ hs) size) spelt

  behind_spelt : (room base value g : ℕ) (gs text : List ℕ) → length gs ≤ room → IsGroupsAfter true [] text (g ∷ gs) → Spelt (form (base + groups_value value (g ∷ gs))) said rest → Spelt (behind_form room form base value) said (text ++ rest)
  behind_spelt zero base value g [] text low (inl (group, after, e, digits, none)) spelt =
      hex_spelt (λ group. form (base + (value * 65536 + group))) said text group after rest g e digits
      (no_rest (Spelt (form (base + (value * 65536 + g))) said) after rest none spelt)
  behind_spelt zero base value g (h ∷ hs) text low groups spelt = absurd (omega arith)
  behind_spelt (suc room) base value g [] text low (inl (group, after, e, digits, none)) spelt =
      inr (hex_spelt (λ group. Either (form (base + (value * 65536 + group))) (Mark 58 (behind_form room form base (value * 65536 + group)))) said text group after rest g e digits
      (inl (no_rest (Spelt (form (base + (value * 65536 + g))) said) after rest none spelt)))
  behind_spelt room base value g [] text low (inr (last, octets, on, e, dotted, two)) spelt = absurd (one_segment g last octets dotted two)
  behind_spelt (suc room) base value g (h ∷ hs) text low (inl (group, after, e, digits, groups)) spelt =
      let x = after_colon true after h hs groups in
      let below = behind_spelt room base (value * 65536 + g) h hs x.0 (omega arith) x.2 spelt in
      inr (hex_spelt (λ group. Either (form (base + (value * 65536 + group))) (Mark 58 (behind_form room form base (value * 65536 + group)))) said text group after rest g e digits
      (inr (x.0 ++ rest, ap (λ y. y ++ rest) x.1, below)))
  behind_spelt (suc room) base value g (h ∷ hs) text low (inr (last, octets, on, e, dotted, two)) spelt =
      inl (subst (λ y. Spelt (dotted_form (base + value * 2 ^ 32) form) said (y ++ rest)) (sym e) (dotted_last base value g h hs last octets form said rest dotted two spelt))

  gap_spelt : (room base : ℕ) (gs text : List ℕ) → length gs ≤ room → IsGroups true text gs → Spelt (form (base + groups_value 0 gs)) said rest → Spelt (gap_form room form base) said (text ++ rest)
  gap_spelt zero base [] text low none spelt =
      let same : base + 0 ≡ base = omega arith in
      no_rest (Spelt (form base) said) text rest none (subst (λ v. Spelt (form v) said rest) same spelt)
  gap_spelt (suc room) base [] text low none spelt =
      let same : base + 0 ≡ base = omega arith in
      inl (no_rest (Spelt (form base) said) text rest none (subst (λ v. Spelt (form v) said rest) same spelt))
  gap_spelt zero base (g ∷ gs) text low groups spelt = absurd (omega arith)
  gap_spelt (suc room) base (g ∷ gs) text low groups spelt = inr (behind_spelt room base 0 g gs text (omega arith) groups spelt)

  -- a group and a colon, and then the next group or a second colon
  colon_next : (room : ℕ) (next : ℕ → Form) (value g : ℕ) (text group after behind : List ℕ) → text ≡ group ++ after → after ≡ 58 ∷ behind → IsGroup group g → Spelt (next (value + g * 2 ^ (16 * room))) said (behind ++ rest) → Spelt (colon_form room form next value) said (text ++ rest)
  colon_next room next value g text group after behind e colon digits spelt =
      hex_spelt (λ group. Mark 58 (Either (Mark 58 (gap_form (room - 1) form (value + group * 2 ^ (16 * room)))) (next (value + group * 2 ^ (16 * room))))) said text group after rest g e digits
      (behind ++ rest, ap (λ y. y ++ rest) colon, inr spelt)

  groups_spelt : (room value g : ℕ) (gs text : List ℕ) → length gs ≡ room → IsGroupsAfter true [] text (g ∷ gs) → Spelt (form (value + groups_value 0 (g ∷ gs))) said rest → Spelt (groups_form room form value) said (text ++ rest)
  groups_spelt zero value g [] text size (inl (group, after, e, digits, none)) spelt =
      let same : value + (0 * 65536 + g) ≡ value + g = omega arith in
      hex_spelt (λ group. form (value + group)) said text group after rest g e digits
      (no_rest (Spelt (form (value + g)) said) after rest none (subst (λ v. Spelt (form v) said rest) same spelt))
  groups_spelt room value g [] text size (inr (last, octets, on, e, dotted, two)) spelt = absurd (one_segment g last octets dotted two)
  groups_spelt zero value g (h ∷ hs) text size groups spelt = absurd (omega arith)
  groups_spelt (suc room) value g [] text size groups spelt = absurd (omega arith)
  groups_spelt (suc zero) value g (h ∷ hs) text size (inl (group, after, e, digits, groups)) spelt =
      let x = after_colon true after h hs groups in
      let below : length hs ≡ 0 = omega arith in
      inr (colon_next 1 (groups_form zero form) value g text group after x.0 e x.1 digits
      (groups_spelt zero (value + g * 2 ^ (16 * 1)) h hs x.0 below x.2 (placed_next 1 value g h hs size spelt)))
  groups_spelt (suc zero) value g (h ∷ hs) text size (inr (last, octets, on, e, dotted, two)) spelt =
      let same : value + 0 * 2 ^ 32 ≡ value = omega arith in
      inl (subst (λ v. Spelt (dotted_form v form) said (text ++ rest)) same
      (subst (λ y. Spelt (dotted_form (value + 0 * 2 ^ 32) form) said (y ++ rest)) (sym e) (dotted_last value 0 g h hs last octets form said rest dotted two spelt)))
  groups_spelt (suc (suc room)) value g (h ∷ hs) text size (inl (group, after, e, digits, groups)) spelt =
      let x = after_colon true after h hs groups in
      let below : length hs ≡ suc room = omega arith in
      colon_next (suc (suc room)) (groups_form (suc room) form) value g text group after x.0 e x.1 digits
      (groups_spelt (suc room) (value + g * 2 ^ (16 * suc (suc room))) h hs x.0 below x.2 (placed_next (suc (suc room)) value g h hs size spelt))
  groups_spelt (suc (suc room)) value g (h ∷ hs) text size (inr (last, octets, on, e, dotted, two)) spelt =
      let none = last_segments g h hs last octets dotted two in
      let empty : length hs ≡ 0 = ap length none in
      absurd (omega arith)

-- the value of groups with `room` more places behind the first of them
abbrev front_value : ℕ → ℕ → List ℕ → ℕ
front_value room h hs = groups_value 0 (h ∷ hs) * 2 ^ (16 * (room - length hs))

front_step : (room value h i : ℕ) (is : List ℕ) → suc (length is) ≤ room → (value + h * 2 ^ (16 * suc room)) + front_value room i is ≡ value + front_value (suc room) h (i ∷ is)
front_step room value h i is low =
    let places : suc room - length (i ∷ is) ≡ room - length is = omega arith in
    let split : 16 * length (i ∷ is) + 16 * (room - length is) ≡ 16 * suc room = omega arith in
    let whole = groups_horner (0 * 65536 + h) (i ∷ is) in
    let power : 2 ^ (16 * length (i ∷ is)) * 2 ^ (16 * (room - length is)) ≡ 2 ^ (16 * suc room) = sym (pow-add 2 (16 * length (i ∷ is)) (16 * (room - length is))) ∙ ap (λ n. 2 ^ n) split in
    let first : h * 2 ^ (16 * length (i ∷ is)) * 2 ^ (16 * (room - length is)) ≡ h * 2 ^ (16 * suc room) = mul_assoc h (2 ^ (16 * length (i ∷ is))) (2 ^ (16 * (room - length is))) ∙ ap (λ p. h * p) power in
    let both : groups_value 0 (h ∷ i ∷ is) * 2 ^ (16 * (room - length is)) ≡ (h * 2 ^ (16 * length (i ∷ is)) + groups_value 0 (i ∷ is)) * 2 ^ (16 * (room - length is)) = ap (λ n. n * 2 ^ (16 * (room - length is))) (whole ∙ omega arith) in
    let spread = add-mul (h * 2 ^ (16 * length (i ∷ is))) (groups_value 0 (i ∷ is)) (2 ^ (16 * (room - length is))) in
    let there : front_value (suc room) h (i ∷ is) ≡ groups_value 0 (h ∷ i ∷ is) * 2 ^ (16 * (room - length is)) = ap (λ n. groups_value 0 (h ∷ i ∷ is) * 2 ^ (16 * n)) places in
    let sum : front_value (suc room) h (i ∷ is) ≡ h * 2 ^ (16 * suc room) + front_value room i is = there ∙ (both ∙ (spread ∙ ap (λ n. n + front_value room i is) first)) in
    omega arith

colon_any : (form : ℕ → Form) (said : Said) (room value : ℕ) (t : List ℕ) → Spelt (colon_form (suc room) form (groups_form room form) value) said t → Spelt (groups_form (suc room) form value) said t
colon_any form said zero value t spelt = inr spelt
colon_any form said (suc room) value t spelt = spelt

module _ (form : ℕ → Form) (said : Said) (rest : List ℕ) where
  -- groups, and then `::` and what is behind it
  heads_spelt : (room value h : ℕ) (hs text : List ℕ) → length hs < room → IsGroupsAfter false [] text (h ∷ hs) → Spelt (gap_form (room - suc (length hs)) form (value + front_value room h hs)) said rest → Spelt (groups_form room form value) said (text ++ 58 ∷ 58 ∷ rest)
  heads_spelt zero value h hs text low groups spelt = absurd (omega arith)
  heads_spelt room value h hs text low (inr (last, octets, on, e, dotted, two)) spelt = let never : false ≡ true = on in absurd cc
  heads_spelt (suc room) value h [] text low (inl (group, after, e, digits, none)) spelt =
      let whole : suc room - 0 ≡ suc room = omega arith in
      let first : 0 * 65536 + h ≡ h = omega arith in
      let base : value + (0 * 65536 + h) * 2 ^ (16 * (suc room - 0)) ≡ value + h * 2 ^ (16 * suc room) = ap (λ n. value + (0 * 65536 + h) * 2 ^ (16 * n)) whole ∙ ap (λ n. value + n * 2 ^ (16 * suc room)) first in
      let gap = subst (λ v. Spelt (gap_form (suc room - 1) form v) said rest) base spelt in
      colon_any form said room value (text ++ 58 ∷ 58 ∷ rest)
      (hex_spelt (λ group. Mark 58 (Either (Mark 58 (gap_form (suc room - 1) form (value + group * 2 ^ (16 * suc room)))) (groups_form room form (value + group * 2 ^ (16 * suc room))))) said text group after (58 ∷ 58 ∷ rest) h e digits
      (no_rest (Spelt (Mark 58 (Either (Mark 58 (gap_form (suc room - 1) form (value + h * 2 ^ (16 * suc room)))) (groups_form room form (value + h * 2 ^ (16 * suc room))))) said) after (58 ∷ 58 ∷ rest) none
      (58 ∷ rest, refl, inl (rest, refl, gap))))
  heads_spelt (suc room) value h (i ∷ is) text low (inl (group, after, e, digits, groups)) spelt =
      let x = after_colon false after i is groups in
      let less : length is < room = omega arith in
      let room_left : suc room - suc (length (i ∷ is)) ≡ room - suc (length is) = omega arith in
      let base = sym (front_step room value h i is less) in
      let gap = subst (λ n. Spelt (gap_form n form ((value + h * 2 ^ (16 * suc room)) + front_value room i is)) said rest) room_left
      (subst (λ v. Spelt (gap_form (suc room - suc (length (i ∷ is))) form v) said rest) base spelt) in
      colon_any form said room value (text ++ 58 ∷ 58 ∷ rest)
      (colon_next form said (58 ∷ 58 ∷ rest) (suc room) (groups_form room form) value h text group after x.0 e x.1 digits
      (heads_spelt room (value + h * 2 ^ (16 * suc room)) i is x.0 less x.2 gap))

elided_value : (head tail : List ℕ) → length head + length tail < 8 → groups_value 0 (head ++ replicate (8 - length head - length tail) 0 ++ tail) ≡ groups_value 0 head * 2 ^ (16 * (8 - length head)) + groups_value 0 tail
elided_value head tail room =
    let zeros : List ℕ = replicate (8 - length head - length tail) 0 in
    let front : groups_value 0 (head ++ zeros) ≡ groups_value 0 head * 2 ^ (16 * (8 - length head - length tail)) = groups_append 0 head zeros ∙ groups_zeros (groups_value 0 head) (8 - length head - length tail) in
    let split : 16 * (8 - length head - length tail) + 16 * length tail ≡ 16 * (8 - length head) = omega arith in
    let power : 2 ^ (16 * (8 - length head - length tail)) * 2 ^ (16 * length tail) ≡ 2 ^ (16 * (8 - length head)) = sym (pow-add 2 (16 * (8 - length head - length tail)) (16 * length tail)) ∙ ap (λ n. 2 ^ n) split in
    groups_append 0 (head ++ zeros) tail
    ∙ (ap (λ n. groups_value n tail) front
    ∙ (groups_horner (groups_value 0 head * 2 ^ (16 * (8 - length head - length tail))) tail
    ∙ ap (λ n. n + groups_value 0 tail) (mul_assoc (groups_value 0 head) (2 ^ (16 * (8 - length head - length tail))) (2 ^ (16 * length tail)) ∙ ap (λ p. groups_value 0 head * p) power)))

module _ (tail : Tail) (said : Said) (rest : List ℕ) where
  abbrev form : ℕ → Form
  form = tail_form tail V6

  eight_spelt : (text segments : List ℕ) → IsGroups true text segments → length segments ≡ 8 → Spelt (form (groups_value 0 segments)) said rest → Spelt (form6 tail) said (text ++ rest)
  eight_spelt text [] groups eight spelt = absurd (omega arith)
  eight_spelt text (g ∷ gs) groups eight spelt =
      let seven : length gs ≡ 7 = omega arith in
      let same : groups_value 0 (g ∷ gs) ≡ 0 + groups_value 0 (g ∷ gs) = omega arith in
      inr (groups_spelt form said rest 7 0 g gs text seven groups (subst (λ v. Spelt (form v) said rest) same spelt))

  elided_spelt : (head_text head tail_text tail_groups text : List ℕ) → text ≡ head_text ++ (58 ∷ 58 ∷ []) ++ tail_text → IsGroups false head_text head → IsGroups true tail_text tail_groups → length head + length tail_groups < 8 → Spelt (form (groups_value 0 head * 2 ^ (16 * (8 - length head)) + groups_value 0 tail_groups)) said rest → Spelt (form6 tail) said (text ++ rest)
  elided_spelt head_text [] tail_text gs text e none groups room spelt =
      let begun : text ≡ 58 ∷ 58 ∷ tail_text = e ∙ ap (λ x. x ++ (58 ∷ 58 ∷ []) ++ tail_text) none in
      let zero : 0 * 2 ^ (16 * 8) + groups_value 0 gs ≡ 0 + groups_value 0 gs = omega arith in
      inl (58 ∷ (tail_text ++ rest), ap (λ x. x ++ rest) begun, (tail_text ++ rest, refl, gap_spelt form said rest 7 0 gs tail_text (omega arith) groups (subst (λ v. Spelt (form v) said rest) zero spelt)))
  elided_spelt head_text (h ∷ hs) tail_text gs text e heads groups room spelt =
      let joined : head_text ++ 58 ∷ 58 ∷ (tail_text ++ rest) ≡ ((head_text ++ 58 ∷ 58 ∷ []) ++ tail_text) ++ rest = simp append_assoc in
      let begun : head_text ++ 58 ∷ 58 ∷ (tail_text ++ rest) ≡ text ++ rest = joined ∙ ap (λ x. x ++ rest) (sym e) in
      let places : 8 - length (h ∷ hs) ≡ 7 - length hs = omega arith in
      let base : groups_value 0 (h ∷ hs) * 2 ^ (16 * (8 - length (h ∷ hs))) + groups_value 0 gs ≡ (0 + front_value 7 h hs) + groups_value 0 gs = ap (λ n. groups_value 0 (h ∷ hs) * 2 ^ (16 * n) + groups_value 0 gs) places ∙ omega arith in
      let size : length gs ≤ 7 - suc (length hs) = omega arith in
      inr (subst (Spelt (groups_form 7 form 0) said) begun
      (heads_spelt form said (tail_text ++ rest) 7 0 h hs head_text (omega arith) heads
      (gap_spelt form said rest (7 - suc (length hs)) (0 + front_value 7 h hs) gs tail_text size groups (subst (λ v. Spelt (form v) said rest) base spelt))))

  pub colon_hex_spelt : (text segments : List ℕ) → IsColonHex text segments → Spelt (form (groups_value 0 segments)) said rest → Spelt (form6 tail) said (text ++ rest)
  colon_hex_spelt text segments (inl (groups, eight)) spelt = eight_spelt text segments groups eight spelt
  colon_hex_spelt text segments (inr x) spelt =
      elided_spelt x.head_text x.head x.tail_text x.tail text x.spelled x.head_groups x.tail_groups x.room
      (subst (λ v. Spelt (form v) said rest) (ap (groups_value 0) x.value ∙ elided_value x.head x.tail x.room) spelt)
