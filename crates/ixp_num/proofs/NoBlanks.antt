-- No text of an address or a prefix has a blank.
use Rattle.std.proofs.Common.{◌≢◌, ℕ, zero, suc, ◌+◌, ◌-◌, ◌*◌, ◌^◌, ◌<◌, inl, inr, List, [], ◌∷◌, ◌++◌, min, Ok, sym, subst, arith}
use Rattle.std.specs.Char.{digit_value}
use Rattle.std.specs.Str.Parse.{AllDigits}
use Rattle.std.specs.List.{AllByRecursion}
use Rattle.ixp_num.specs.declared.family.Family.{Family}
use Rattle.ixp_num.specs.declared.family.Family.TheVariants.{V4, V6}
use Rattle.ixp_num.specs.declared.reading.Tail.{Tail}
use Rattle.ixp_num.specs.declared.reading.Tail.TheVariants.{Nothing, Length, Bounds}
use Rattle.ixp_num.specs.Forms.{Form, End, Mark, Decimal, Hex, Either, IsDigit, IsDecimal, Said, Spelt}
use Rattle.ixp_num.specs.declared.addr.Addr.{Addr}
use Rattle.ixp_num.specs.declared.prefix.Prefix.{Prefix}
use Rattle.ixp_num.specs.Families.{bits_of}
use Rattle.ixp_num.specs.Answers.{AddrAnswer, PrefixAnswer}
use Rattle.ixp_num.specs.AddressForms.{numbers, tail_form, dotted_form, behind_form, gap_form, colon_form, groups_form, address_form}

abbrev pub NotBlank : ℕ → Type 0
NotBlank c = c ≢ 32

-- no mark of the form is a blank
abbrev pub BlankFree : Form → Type 0
BlankFree (End ns) = Unit {0}
BlankFree (Mark b form) = (b ≢ 32) × BlankFree form
BlankFree (Decimal bound form) = (n : ℕ) → BlankFree (form n)
BlankFree (Hex form) = (n : ℕ) → BlankFree (form n)
BlankFree (Either one other) = BlankFree one × BlankFree other

pub all_join : (P : ℕ → Type 0) (xs ys : List ℕ) → AllByRecursion P xs → AllByRecursion P ys → AllByRecursion P (xs ++ ys)
all_join P [] ys here there = there
all_join P (x ∷ xs) ys here there = (here.0, all_join P xs ys here.1 there)

digits_free : (ds : List ℕ) → AllByRecursion IsDigit ds → AllByRecursion NotBlank ds
digits_free [] all = tt
digits_free (d ∷ ds) all = ((λ e. let digit = all.0 in omega arith), digits_free ds all.1)

decimal_free : (ds : List ℕ) (n : ℕ) → IsDecimal ds n → AllByRecursion NotBlank ds
decimal_free [] n spelt = absurd spelt
decimal_free (d ∷ ds) n spelt = ((λ e. let digit = spelt.0 in omega arith), digits_free ds spelt.2)

hex_free : (c : ℕ) → digit_value c < 16 → c ≢ 32
hex_free c low e = absurd (let blank : digit_value 32 < 16 = subst (λ c. digit_value c < 16) e low in omega arith)

group_free : (ds : List ℕ) → AllDigits 16 ds → AllByRecursion NotBlank ds
group_free [] all = tt
group_free (d ∷ ds) all = (hex_free d all.0, group_free ds all.1)

pub no_blank : (form : Form) → BlankFree form → (said : Said) (t : List ℕ) → Spelt form said t → AllByRecursion NotBlank t
no_blank (End ns) free said t (e, says) = subst (AllByRecursion NotBlank) (sym e) tt
no_blank (Mark b form) free said t (rest, e, spelt) = subst (AllByRecursion NotBlank) (sym e) (free.0, no_blank form free.1 said rest spelt)
no_blank (Decimal bound form) free said t (front, rest, n, after, e, number, spelt, says) =
    subst (AllByRecursion NotBlank) (sym e) (all_join NotBlank front rest (decimal_free front n number) (no_blank (form (min n bound)) (free (min n bound)) after rest spelt))
no_blank (Hex form) free said t (front, rest, n, e, group, spelt) =
    subst (AllByRecursion NotBlank) (sym e) (all_join NotBlank front rest (group_free front group.0.0.1) (no_blank (form n) (free n) said rest spelt))
no_blank (Either one other) free said t (inl spelt) = no_blank one free.0 said t spelt
no_blank (Either one other) free said t (inr spelt) = no_blank other free.1 said t spelt

colon : NotBlank 58
colon e = omega arith

tail_free : (tail : Tail) (family : Family) (value : ℕ) → BlankFree (tail_form tail family value)
tail_free Nothing family value = tt
tail_free Length family value = ((λ e. omega arith), (λ len. tt))
tail_free Bounds family value = ((λ e. omega arith), (λ len. (tt, ((λ e. omega arith), (λ low. ((λ e. omega arith), (λ high. ((λ e. omega arith), tt))))))))

module _ (form : ℕ → Form) (free : (n : ℕ) → BlankFree (form n)) where
  dotted_free : (base : ℕ) → BlankFree (dotted_form base form)
  dotted_free base = λ a. ((λ e. omega arith), (λ b. ((λ e. omega arith), (λ c. ((λ e. omega arith), (λ d. free (base + (((a * 256 + b) * 256 + c) * 256 + d))))))))

  behind_free : (room base value : ℕ) → BlankFree (behind_form room form base value)
  behind_free zero base value = λ group. free (base + (value * 65536 + group))
  behind_free (suc room) base value = (dotted_free (base + value * 2 ^ 32), (λ group. (free (base + (value * 65536 + group)), (colon, behind_free room base (value * 65536 + group)))))

  gap_free : (room base : ℕ) → BlankFree (gap_form room form base)
  gap_free zero base = free base
  gap_free (suc room) base = (free base, behind_free room base 0)

  colon_free : (room : ℕ) (next : ℕ → Form) (value : ℕ) → ((v : ℕ) → BlankFree (next v)) → BlankFree (colon_form room form next value)
  colon_free room next value below = λ group. (colon, ((colon, gap_free (room - 1) (value + group * 2 ^ (16 * room))), below (value + group * 2 ^ (16 * room))))

  groups_free : (room value : ℕ) → BlankFree (groups_form room form value)
  groups_free zero value = λ group. free (value + group)
  groups_free (suc zero) value = (dotted_free value, colon_free 1 (groups_form zero form) value (groups_free zero))
  groups_free (suc (suc room)) value = colon_free (suc (suc room)) (groups_form (suc room) form) value (groups_free (suc room))

pub address_free : (tail : Tail) → BlankFree (address_form tail)
address_free tail = (
  dotted_free (tail_form tail V4) (tail_free tail V4) 0,
  ((colon, (colon, gap_free (tail_form tail V6) (tail_free tail V6) 7 0)), groups_free (tail_form tail V6) (tail_free tail V6) 7 0),
)

pub addr_no_blank : (t : List ℕ) (a : Addr) → AddrAnswer t (Ok a) → AllByRecursion NotBlank t
addr_no_blank t a spelt = no_blank (address_form Nothing) (address_free Nothing) (Ok (numbers a.family a.value (bits_of a.family) (bits_of a.family) (bits_of a.family))) t spelt

pub prefix_no_blank : (t : List ℕ) (p : Prefix) → PrefixAnswer t (Ok p) → AllByRecursion NotBlank t
prefix_no_blank t p spelt = no_blank (address_form Length) (address_free Length) (Ok (numbers p.family p.value p.len p.len p.len)) t spelt
