-- Whether a star is the second part of a pair.
use Rattle.std.proofs.Common.{◌≡◌, ℕ, Bool, true, false, List, [], ◌∷◌, length, Option, Some, None, refl, sym, ap, ◌∙◌, if◌then◌else◌, is_some}
use Rattle.ixp_lang_tokens.specs.declared.token.Kind.{Kind}
use Rattle.ixp_lang_tokens.specs.declared.token.Mark.TheVariants.{Star}
use Rattle.ixp_lang_tokens.specs.Grammars.{Grammar, sequence, choice}
use Rattle.ixp_lang_tokens.specs.Reading.{Read, read, taken, ◌>>=◌}
use Rattle.ixp_lang_tokens.specs.Pieces.{the_mark, is_mark, behind, if_so}
use Rattle.ixp_lang_exprs.specs.declared.elements.Arity.{Arity}
use Rattle.ixp_lang_exprs.specs.declared.elements.Tuple.{Tuple}
use Rattle.ixp_lang_exprs.specs.Lists.{only}
use Rattle.ixp_lang_exprs.specs.Names.{Names}
use Rattle.ixp_lang_exprs.specs.Sets.{may_be_pair, pair_end, numeral, second_end, tuple_end, star_in}

some_is : {A : Type 0} (x y : A) → ◌≡◌ {A = Option A} (Some x) (Some y) → x ≡ y
some_is x y e = cc

star_by : (b : Bool) (ts rest : List Kind) (f : List Kind → Read Tuple) (r : Read Tuple) → (if b then Some ts else None) ≡ Some rest
    → (if is_some (if_so b) then (taken (if_so b) ts >>= λ a. f a.1) else r) ≡ f rest
star_by true ts rest f r e = ap f (some_is ts rest e)
star_by false ts rest f r e = absurd cc

none_by : (b : Bool) (ts : List Kind) (q r : Read Tuple) → (if b then Some ts else None) ≡ None → (if is_some (if_so b) then q else r) ≡ r
none_by true ts q r e = absurd cc
none_by false ts q r e = refl

only_star : (b : Bool) (f : Grammar Tuple) (g : Grammar Tuple) (ts rest : List Kind) → (if b then behind (is_mark Star) ts else None) ≡ Some rest
    → read (choice (only b (sequence (the_mark Star) (λ tt. f))) g) ts ≡ read f rest
only_star false f g ts rest e = absurd cc
only_star true f g [] rest e = absurd cc
only_star true f g (k ∷ ts) rest e = star_by (is_mark Star k) ts rest (λ r. read f r) (read g (k ∷ ts)) e

only_none : (b : Bool) (f : Grammar Tuple) (g : Grammar Tuple) (ts : List Kind) → (if b then behind (is_mark Star) ts else None) ≡ None
    → read (choice (only b (sequence (the_mark Star) (λ tt. f))) g) ts ≡ read g ts
only_none false f g [] e = refl
only_none false f g (k ∷ ts) e = refl
only_none true f g [] e = refl
only_none true f g (k ∷ ts) e = none_by (is_mark Star k) ts _ (read g (k ∷ ts)) e

pub with_star : (names : Names) (wanted : Option Arity) (first at place : ℕ) (ts rest : List Kind) → place ≡ length ts → star_in wanted ts ≡ Some rest
    → read (tuple_end names wanted first at) ts ≡ read (pair_end first at None place) rest
with_star names wanted first at place ts rest same e =
    only_star (may_be_pair wanted) (pair_end first at None (length ts)) (sequence (numeral names) (λ second. second_end names wanted first at second (length ts))) ts rest e
    ∙ ap (λ n. read (pair_end first at None n) rest) (sym same)

pub without_star : (names : Names) (wanted : Option Arity) (first at place : ℕ) (ts : List Kind) → place ≡ length ts → star_in wanted ts ≡ None
    → read (tuple_end names wanted first at) ts ≡ read (sequence (numeral names) (λ second. second_end names wanted first at second place)) ts
without_star names wanted first at place ts same e =
    only_none (may_be_pair wanted) (pair_end first at None (length ts)) (sequence (numeral names) (λ second. second_end names wanted first at second (length ts))) ts e
    ∙ ap (λ n. read (sequence (numeral names) (λ second. second_end names wanted first at second n)) ts) (sym same)
