-- What is an expression is read, and in one way.
use Rattle.std.proofs.Common.{◌≡◌, ℕ, true, List, [], ◌∷◌, Ok, refl}
use Rattle.ixp_lang_tokens.specs.declared.token.Kind.{Kind}
use Rattle.ixp_lang_tokens.specs.declared.token.Kind.TheVariants as kind
use Rattle.ixp_lang_tokens.specs.declared.token.Mark.{Mark}
use Rattle.ixp_lang_tokens.specs.declared.token.Mark.TheVariants as mark
use Rattle.ixp_lang_tokens.specs.Grammars.{Took}
use Rattle.ixp_lang_tokens.specs.Reading.{read}
use Rattle.ixp_lang_tokens.specs.Pieces.{is_next}
use Rattle.ixp_lang_tokens.proofs.Parted.{Extends, Parted}
use Rattle.ixp_lang_tokens.proofs.Fronts.{one_of, Starts}
use Rattle.ixp_lang_tokens.proofs.Laws.{complete, one_reading}
use Rattle.ixp_lang_exprs.specs.declared.wanted.Wanted.{Wanted}
use Rattle.ixp_lang_exprs.specs.Operands.{Operand}
use Rattle.ixp_lang_exprs.specs.Expressions.{Place, expression_form}
use Rattle.ixp_lang_exprs.specs.Following.{goes_on, IsBehind}
use Rattle.ixp_lang_exprs.proofs.KnownExpressions.{expression_ends}
pub use Rattle.ixp_lang_exprs.proofs.KnownExpressions.{known_expression_text}

pub expression_parted : (at : Place) (levels : ℕ) (wanted : Wanted) → Parted (expression_form at levels wanted)
expression_parted at levels wanted = (known_expression_text at levels wanted).parted

ends_mark : (m : Mark) → one_of expression_ends (kind.Mark m) ≡ true → goes_on (kind.Mark m) ≡ true
ends_mark mark.Dot e = refl
ends_mark mark.And e = refl
ends_mark mark.Or e = refl
ends_mark mark.Equal e = refl
ends_mark mark.Unequal e = refl
ends_mark mark.Less e = refl
ends_mark mark.LessEqual e = refl
ends_mark mark.Greater e = refl
ends_mark mark.GreaterEqual e = refl
ends_mark mark.In e = refl
ends_mark mark.NotIn e = refl
ends_mark m e = absurd cc

ends_go_on : (tokens : List Kind) → Starts expression_ends tokens → is_next goes_on tokens ≡ true
ends_go_on [] e = absurd cc
ends_go_on (kind.Mark m ∷ tokens) e = ends_mark m e
ends_go_on (k ∷ tokens) e = absurd cc

-- nothing else goes on with an expression
pub expression_extends : (at : Place) (levels : ℕ) (wanted : Wanted) (v : Operand) (rest : List Kind) → Extends (expression_form at levels wanted) v rest → is_next goes_on rest ≡ true
expression_extends at levels wanted v rest p = ends_go_on rest ((known_expression_text at levels wanted).ends v rest p)

expression_ends_here : (at : Place) (levels : ℕ) (wanted : Wanted) (v : Operand) (rest : List Kind) → IsBehind rest → ¬ (Extends (expression_form at levels wanted) v rest)
expression_ends_here at levels wanted v rest behind p =
    let next = expression_extends at levels wanted v rest p in
    cc

pub expression_read : (at : Place) (levels : ℕ) (wanted : Wanted) (v : Operand) (tokens rest : List Kind) → Took (expression_form at levels wanted) v tokens rest → IsBehind rest → read (expression_form at levels wanted) tokens ≡ Ok (v, rest)
expression_read at levels wanted v tokens rest took behind = complete (expression_form at levels wanted) (expression_parted at levels wanted) v tokens rest took (expression_ends_here at levels wanted v rest behind)

pub one_expression : (at : Place) (levels : ℕ) (wanted : Wanted) (v w : Operand) (tokens r s : List Kind) → Took (expression_form at levels wanted) v tokens r → Took (expression_form at levels wanted) w tokens s → IsBehind r → IsBehind s → (v ≡ w) × (r ≡ s)
one_expression at levels wanted v w tokens r s p q behind after =
    one_reading (expression_form at levels wanted) (expression_parted at levels wanted) v w tokens r s p q (expression_ends_here at levels wanted v r behind) (expression_ends_here at levels wanted w s after)
