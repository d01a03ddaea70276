-- Secrets and actions that a valid registry has can be written.
use Rattle.std.proofs.Common.{◌≡◌, ℕ, zero, suc, ◌≤◌, inl, inr, Bool, true, false, ◌&&◌, ◌==◌, nat_le, List, [], ◌∷◌, refl, sym, ap, ◌∙◌, subst, arith}
use Rattle.std.specs.List.{list_any, list_all}
use Rattle.std.proofs.lemmas.Bool.{and_parts, eqb-true, leb-true}
use Rattle.ixp_registry.specs.declared.rules.Way.{Way}
use Rattle.ixp_registry.specs.declared.rules.Way.TheVariants.{Advertise, Receive}
use Rattle.ixp_registry.specs.declared.rules.Action.{Action}
use Rattle.ixp_registry.specs.declared.rules.Action.TheVariants.{AsIs, Prepend, Stop}
use Rattle.ixp_registry.specs.Alphabets.{has_length, is_letter_or_digit, is_secret_byte, is_session_secret, is_key_secret}
use Rattle.ixp_registry.specs.Words.{is_action_of}
use Rattle.ixp_rows_lines.specs.Fields.{is_break}
use Rattle.ixp_rows_lines.specs.Lines.{IsSecret, IsAction}

-- Secrets: bytes of an alphabet without a blank, a line's end and `-`
module _ (test : ℕ → Bool) (blank : test 32 ≡ false) (end : test 10 ≡ false) (dash : test 45 ≡ false) where
  not_in : (n c : ℕ) → test n ≡ false → test c ≡ true → (c == n) ≡ false
  not_in n c out is = by_test (c == n) refl
    where
      by_test : (b : Bool) → (c == n) ≡ b → b ≡ false
      by_test true e = absurd (let h : true ≡ false = sym is ∙ (ap test (eqb-true c n e) ∙ out) in cc)
      by_test false e = refl

  no_break : (t : List ℕ) → list_all test t ≡ true → list_any is_break t ≡ false
  no_break [] all = refl
  no_break (c ∷ cs) all =
      let parts = and_parts (test c) (list_all test cs) all in
      let no_blank = not_in 32 c blank parts.0 in
      let no_end = not_in 10 c end parts.0 in
      let behind = no_break cs parts.1 in
      rw (no_blank, no_end, behind) refl

  secret : (t : List ℕ) → list_all test t ≡ true → IsSecret t
  secret t all = (
    λ broken. absurd (let h : true ≡ false = sym broken ∙ no_break t all in cc),
    λ same. absurd (let h : true ≡ false = sym (subst (λ x. list_all test x ≡ true) same all) ∙ ap (λ b. b && true) dash in cc),
  )

pub key_secret : (t : List ℕ) → is_key_secret t ≡ true → IsSecret t
key_secret t e = secret is_letter_or_digit refl refl refl t (and_parts (has_length 16 64 t) (list_all is_letter_or_digit t) e).1

pub session_secret : (t : List ℕ) → is_session_secret t ≡ true → IsSecret t
session_secret t e = secret is_secret_byte refl refl refl t (and_parts (has_length 0 64 t) (list_all is_secret_byte t) e).1

-- Actions
one_to_three : (n : ℕ) → 1 ≤ n → n ≤ 3 → IsAction (Prepend n)
one_to_three zero least most = absurd (omega (arith, least))
one_to_three (suc zero) least most = inl refl
one_to_three (suc (suc zero)) least most = inr (inl refl)
one_to_three (suc (suc (suc zero))) least most = inr (inr refl)
one_to_three (suc (suc (suc (suc n)))) least most = absurd (omega (arith, most))

pub action_is : (way : Way) (a : Action) → is_action_of way a ≡ true → IsAction a
action_is way AsIs e = tt
action_is way Stop e = tt
action_is Advertise (Prepend n) e =
    let parts = and_parts (nat_le 1 n) (nat_le n 3) e in
    one_to_three n (leb-true 1 n parts.0) (leb-true n 3 parts.1)
action_is Receive (Prepend n) e = absurd (let h : false ≡ true = e in cc)
