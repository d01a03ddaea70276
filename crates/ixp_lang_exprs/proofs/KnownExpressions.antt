-- What is known of the grammar of expressions.
use Rattle.std.proofs.Common.{ℕ, ◌∷◌}
use Rattle.ixp_lang_tokens.specs.declared.token.Mark.TheVariants as mark
use Rattle.ixp_lang_tokens.proofs.Fronts.{marked}
use Rattle.ixp_lang_tokens.proofs.Looks.{token_look, Known}
use Rattle.ixp_lang_tokens.proofs.ClearLooks.{Clearly, known_of}
use Rattle.ixp_lang_exprs.specs.declared.wanted.Wanted.{Wanted}
use Rattle.ixp_lang_exprs.specs.Expressions.{Place, Shape, enclosed, unary_form, expression_form}
use Rattle.ixp_lang_exprs.proofs.ClearExpressions.{clear_expression, clear_enclosed, clear_unary}
pub use Rattle.ixp_lang_exprs.proofs.ClearExpressions.{operand_starts, unary_look, comparison_look, expression_ends, expression_bars, expression_look}

pub clear_expression_text : (at : Place) (levels : ℕ) (wanted : Wanted) → Clearly (expression_form at levels wanted) expression_look expression_bars
clear_expression_text at levels wanted = clear_expression (unary_form at levels) (clear_unary at levels) wanted

pub known_unary : (at : Place) (levels : ℕ) (wanted : Wanted) → Known (unary_form at levels wanted) unary_look
known_unary at levels wanted = known_of (clear_unary at levels wanted)

pub known_expression_text : (at : Place) (levels : ℕ) (wanted : Wanted) → Known (expression_form at levels wanted) expression_look
known_expression_text at levels wanted = known_of (clear_expression_text at levels wanted)

-- what is enclosed ends with a mark of its own
pub known_enclosed : (at : Place) (levels : ℕ) (to : Place) (shape : Shape) (place : ℕ) → Known (enclosed to (expression_form at levels) shape place) (token_look (marked mark.Close ∷ operand_starts))
known_enclosed at levels to shape place = known_of (clear_enclosed (expression_form at levels) (clear_expression_text at levels) to shape place)
