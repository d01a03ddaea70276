-- The parts of the line of a route that a session brings.
use Rattle.std.proofs.Common.{◌≡◌, ◌<◌, ◌≤◌, ◌^◌, ℕ, true, false, List, ◌∷◌, ◌++◌, codes, drop, sym, ap, ◌∙◌, subst, arith}
use Rattle.ixp_registry.specs.Alphabets.{is_handle}
use Rattle.ixp_eval_trial.specs.Cutting.{IsFree, IsCut, AreParts}
use Rattle.ixp_eval_trial.specs.Readings.{IsUpTo}
use Rattle.ixp_eval_trial.specs.SessionRoutes.{IsSessionLine}
use Rattle.ixp_eval_trial.proofs.Cuts.{one_cut, not_marked}
use Rattle.ixp_eval_trial.proofs.Fields.{name_free, decimal_free}
use Rattle.ixp_registry.proofs.HandleNames.{handle_is_name}

pub no_handle_cut : (line rest : List ℕ) → line ≡ codes "route " ++ rest → IsFree 32 rest → (a b c : List ℕ) → ¬ (AreParts line a b c)
no_handle_cut line rest e free a b c are = not_marked 32 a (b ++ 32 ∷ c) (subst (IsFree 32) (ap (λ t. drop 6 t) (sym e ∙ are.whole)) free)

pub no_number_cut : (line rest handle more : List ℕ) → line ≡ codes "route " ++ rest → IsCut 32 rest handle more → IsFree 32 more → (a b c : List ℕ) → ¬ (AreParts line a b c)
no_number_cut line rest handle more e cut free a b c are =
    let same = one_cut 32 handle a more (b ++ 32 ∷ c) cut.1 are.handle_free (sym cut.0 ∙ ap (λ t. drop 6 t) (sym e ∙ are.whole)) in
    not_marked 32 b c (subst (IsFree 32) same.1 free)

pub parts_are : (line rest handle more number text : List ℕ) → line ≡ codes "route " ++ rest → IsCut 32 rest handle more → IsCut 32 more number text → AreParts line handle number text
parts_are line rest handle more number text e cut next = record {
  whole = e ∙ ap (λ t. codes "route " ++ t) (cut.0 ∙ ap (λ r. handle ++ 32 ∷ r) next.0);
  handle_free = cut.1;
  number_free = next.1;
}

-- a line has its parts in one way
pub one_parts : (line a b c a' b' c' : List ℕ) → AreParts line a b c → AreParts line a' b' c' → (a ≡ a') × (b ≡ b') × (c ≡ c')
one_parts line a b c a' b' c' are are' =
    let one = one_cut 32 a a' (b ++ 32 ∷ c) (b' ++ 32 ∷ c') are.handle_free are'.handle_free (ap (λ t. drop 6 t) (sym are.whole ∙ are'.whole)) in
    let two = one_cut 32 b b' c c' are.number_free are'.number_free one.1 in
    (one.0, two.0, two.1)

-- those of a line that is of the form
pub parts_of_line : (line handle text : List ℕ) (n : ℕ) → (is : IsSessionLine line handle n text) → AreParts line handle is.number text
parts_of_line line handle text n is = record {
  whole = is.whole;
  handle_free = name_free handle (handle_is_name handle is.is_router);
  number_free = decimal_free is.number n is.is_number;
}

pub no_parts : (line : List ℕ) → ((a b c : List ℕ) → ¬ (AreParts line a b c)) → (handle : List ℕ) (n : ℕ) (text : List ℕ) → ¬ (IsSessionLine line handle n text)
no_parts line none handle n text is = none handle is.number text (parts_of_line line handle text n is)

pub no_router : (line a b c : List ℕ) → AreParts line a b c → is_handle a ≡ false → (handle : List ℕ) (n : ℕ) (text : List ℕ) → ¬ (IsSessionLine line handle n text)
no_router line a b c are other handle n text is =
    let same = one_parts line a b c handle is.number text are (parts_of_line line handle text n is) in
    let both : false ≡ true = sym other ∙ ap is_handle same.0 ∙ is.is_router in
    absurd cc

few : (n : ℕ) → n < 2 ^ 32 → n ≤ 4294967295
few n low = omega (arith, low)

pub no_interface : (line a b c : List ℕ) → AreParts line a b c → ((n : ℕ) → ¬ (IsUpTo 4294967295 b n)) → (handle : List ℕ) (n : ℕ) (text : List ℕ) → ¬ (IsSessionLine line handle n text)
no_interface line a b c are none handle n text is =
    let same = one_parts line a b c handle is.number text are (parts_of_line line handle text n is) in
    none n (subst (λ t. IsUpTo 4294967295 t n) (sym same.1) (is.is_number, few n is.is_low))

low : (n : ℕ) → n ≤ 4294967295 → n < 2 ^ 32
low n le = omega (arith, le)

pub is_line : (line a b c : List ℕ) (n : ℕ) → AreParts line a b c → is_handle a ≡ true → IsUpTo 4294967295 b n → IsSessionLine line a n c
is_line line a b c n are router up = record {
  number = b;
  whole = are.whole;
  is_router = router;
  is_number = up.0;
  is_low = low n up.1;
}
