-- What is known of grammars whose tests ask the first token, and behind an `else` whether a colon is next.
use Rattle.std.proofs.Common.{◌≡◌, ℕ, Bool, true, false, List, [], ◌∷◌, ◌++◌, codes, refl}
use Rattle.ixp_lang_tokens.specs.declared.token.Kind.{Kind}
use Rattle.ixp_lang_tokens.specs.declared.token.Mark.TheVariants as mark
use Rattle.ixp_lang_tokens.specs.Grammars.{Grammar, bars}
use Rattle.ixp_lang_tokens.specs.Pieces.{is_mark, is_word, the_word, is_next}
use Rattle.ixp_lang_tokens.specs.declared.fault.Cause.TheVariants.{Deep}
use Rattle.ixp_lang_tokens.proofs.Clear.{Sight, IsSeen}
use Rattle.ixp_lang_tokens.proofs.Fronts.{Front, marked, keyword, name, Starts, or_left}
use Rattle.ixp_lang_tokens.proofs.Looks.{Look, token_look}
use Rattle.ixp_lang_tokens.proofs.Known.{known_word}
use Rattle.ixp_lang_tokens.proofs.ClearLooks.{ClearlyBy, Clearly, clear_token, clear_gives, clear_name, clear_then, clear_checks, clear_here, clear_bars, first_test}
use Rattle.ixp_lang_tokens.proofs.Seen.{first_seen, clearly_seen}
use Rattle.ixp_lang_exprs.specs.Names.{Names}
use Rattle.ixp_lang_exprs.specs.Declarations.{free_name}
use Rattle.ixp_lang_exprs.specs.Lists.{never}
use Rattle.ixp_lang_exprs.specs.Expressions.{Place, Shape, enclosed, expression_form}
use Rattle.ixp_lang_exprs.proofs.ClearLists.{clear_never}
use Rattle.ixp_lang_exprs.proofs.ClearExpressions.{clear_enclosed}
use Rattle.ixp_lang_exprs.proofs.KnownExpressions.{operand_starts, clear_expression_text}

abbrev pub behind_else : Sight
behind_else = record { fork = is_word (codes "else"); turn = is_next (is_mark mark.Colon); steady = λ k x y. refl }

-- and these tokens may not stand behind
abbrev pub Barred : {A : Type 0} → Grammar A → Look → List Front → Type 0
Barred g look ss = ClearlyBy (IsSeen behind_else) g look ss

abbrev pub Sure : {A : Type 0} → Grammar A → Look → Type 0
Sure g look = Barred g look []

-- each test asks the first token alone
abbrev pub First : {A : Type 0} → Grammar A → Look → Type 0
First g look = Clearly g look []

pub sure_of : {A : Type 0} {g : Grammar A} {l : Look} {ss : List Front} → Clearly g l ss → Barred g l ss
sure_of k = clearly_seen behind_else k

pub clear_word : {T : (List Kind → Bool) → Type 0} (w : List ℕ) → ClearlyBy T (the_word w) (token_look (keyword w ∷ [])) []
clear_word w = clear_token _ (keyword w ∷ []) (known_word w)

pub next_word : (w : List ℕ) (ts : List Kind) → is_next (is_word w) ts ≡ true → Starts (keyword w ∷ []) ts
next_word w [] e = absurd cc
next_word w (k ∷ ts) e = or_left (is_word w k) false e

pub next_seen : (test : Kind → Bool) → IsSeen behind_else (is_next test)
next_seen test = first_seen behind_else (is_next test) (first_test test)

-- what is one level too deep
pub sure_deep : {A : Type 0} (test : Kind → Bool) (fs : List Front) → ((ts : List Kind) → is_next test ts ≡ true → Starts fs ts) → Sure (bars (is_next test) Deep (never {A = A})) (token_look (fs ++ []))
sure_deep test fs barred = clear_bars (is_next test) Deep fs barred (clear_never (token_look []) []) (next_seen test)

pub first_enclosed : (at : Place) (levels : ℕ) (to : Place) (shape : Shape) (place : ℕ) → First (enclosed to (expression_form at levels) shape place) (token_look (marked mark.Close ∷ operand_starts))
first_enclosed at levels to shape place = clear_enclosed (expression_form at levels) (clear_expression_text at levels) to shape place

pub clear_free_name : {T : (List Kind → Bool) → Type 0} (names : Names) → ClearlyBy T (free_name names) (token_look (name ∷ [])) []
clear_free_name names = clear_here (λ left. clear_then clear_name (λ found. clear_checks (clear_gives _)))
