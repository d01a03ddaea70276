-- Labels of a `case` are spelt by their canonical tokens.
use Rattle.std.proofs.Common.{◌≡◌, ℕ, inl, inr, Bool, true, false, not, ◌==◌, List, [], Some, refl, sym, ap, subst, if◌then◌else◌, eqb-true}
use Rattle.ixp_num.specs.declared.roa.Validity.{Validity}
use Rattle.ixp_num.specs.declared.roa.Validity.TheVariants.{Valid, Invalid, Unknown}
use Rattle.ixp_lang_tokens.specs.declared.token.Kind.{Kind}
use Rattle.ixp_lang_tokens.specs.declared.token.Kind.TheVariants as kind
use Rattle.ixp_lang_tokens.specs.declared.token.Mark.TheVariants as mark
use Rattle.ixp_lang_tokens.specs.Grammars.{Took}
use Rattle.ixp_lang.specs.declared.stmt.Label.{Label}
use Rattle.ixp_lang.specs.declared.stmt.Label.TheVariants.{Range as Between}
use Rattle.ixp_lang_exprs.specs.Expressions.{state_in, word_in}
use Rattle.ixp_lang_exprs.specs.Lists.{listed}
use Rattle.ixp_lang_stmts.specs.Statements.{label_form, labels_form}
use Rattle.ixp_print.specs.Texts.{state_text}
use Rattle.ixp_lang_laws.specs.Canonical.{number, sign, list_of}
use Rattle.ixp_lang_laws.specs.CanonicalItems.{label_tokens}
use Rattle.ixp_lang_laws.proofs.Basics.{is_so, so_again}
use Rattle.ixp_lang_laws.proofs.Listed.{listed_again}

pub state_again : (s : Validity) → word_in state_in (kind.Word (state_text s)) ≡ Some s
state_again Valid = refl
state_again Invalid = refl
state_again Unknown = refl

pub range_label : (states : Bool) (place low high : ℕ) → not states ≡ true → (b : Bool) → (low == high) ≡ b → (rest : List Kind)
    → Took (label_form states place) (Between low high) (if b then number low rest else number low (sign mark.Range (number high rest))) rest
range_label states place low high numbers true same rest = inl (low, rest, (refl, refl), (so_again (not states) _ numbers, inr (ap (λ n. Between low n) (sym (eqb-true low high same)), refl)))
range_label states place low high numbers false same rest = inl (low, _, (refl, refl), (so_again (not states) _ numbers, inl (tt, _, (refl, refl), (high, rest, (refl, refl), (refl, refl)))))

abbrev LabelAgain : Bool → Label → Type 0
LabelAgain states l = (place : ℕ) (rest : List Kind) → Took (label_form states place) l (label_tokens l rest) rest

label_again : (states : Bool) (place : ℕ) (l : Label) (ts rest : List Kind) → Took (label_form states place) l ts rest → LabelAgain states l
label_again states place l ts rest (inl (low, a, token, (numbers, inl (x, b, range, (high, c, token_b, (is, same)))))) =
    subst (LabelAgain states) (sym is) (λ elsewhere others. range_label states elsewhere low high (is_so (not states) _ numbers) (low == high) refl others)
label_again states place l ts rest (inl (low, a, token, (numbers, inr (is, same)))) =
    subst (LabelAgain states) (sym is) (λ elsewhere others. range_label states elsewhere low low (is_so (not states) _ numbers) (low == low) refl others)
label_again states place l ts rest (inr (state, a, token, (fit, (is, same)))) =
    subst (LabelAgain states) (sym is) (λ elsewhere others. inr (state, others, (state_again state, refl), (so_again states _ (is_so states _ fit), (refl, refl))))

Always : List Label → Label → Type 0
Always items l = Unit {0}

-- the labels of an arm, and the colon
pub labels_again : (states : Bool) (place : ℕ) (ls : List Label) (ts rest : List Kind) → Took (labels_form states place) ls ts rest
    → (elsewhere : ℕ) (others : List Kind) → Took (labels_form states elsewhere) ls (list_of label_tokens ls (sign mark.Colon others)) others
unfolding Always
labels_again states place ls ts rest (ms, a, (k, took), (x, b, colon, (is, same))) elsewhere others =
    subst (λ ys. Took (labels_form states elsewhere) ys (list_of label_tokens ys (sign mark.Colon others)) others) (sym is)
    (let h = listed_again (λ before. label_form states place) (λ before. label_form states elsewhere) label_tokens Always (λ before l ts rest took. (tt, λ others. label_again states place l ts rest took elsewhere others)) k [] ms ts a took in
    (ms, sign mark.Colon others, subst (λ ys. Took (listed (λ before. label_form states elsewhere)) ms (list_of label_tokens ys (sign mark.Colon others)) (sign mark.Colon others)) (sym h.2) (h.4 (sign mark.Colon others)), (tt, _, (refl, refl), (refl, refl))))
