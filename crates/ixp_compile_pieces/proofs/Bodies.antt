-- An item, or a test, of which the parts are known.
use Rattle.std.proofs.Common.{◌≡◌, ℕ, List, [], ◌∷◌, ◌++◌, ap, ◌∙◌, append_assoc}
use Rattle.ixp_lang.specs.declared.item.Ty.{Ty}
use Rattle.ixp_lang.specs.Trees.{ExprTree, StmtTree, ItemTree, stmts, reject, function_item, filter_item}
use Rattle.ixp_lang.specs.declared.value.SetLit.{SetLit}
use Rattle.ixp_compile.specs.Pieces.{defined, when}

pub function_made :
    (before after : List ItemTree) (called name : List ℕ) (params : List (Ty × List ℕ)) (made body : List StmtTree)
    → called ≡ name → made ≡ body → after ≡ before ++ function_item called params (stmts made) ∷ []
    → after ≡ before ++ function_item name params (stmts body) ∷ []
function_made before after called name params made body named same added =
    added
    ∙ ap (λ n. before ++ function_item n params (stmts made) ∷ []) named
    ∙ ap (λ ss. before ++ function_item name params (stmts ss) ∷ []) same

pub filter_made :
    (before after : List ItemTree) (called name : List ℕ) (made body : List StmtTree)
    → called ≡ name → made ≡ body → after ≡ before ++ filter_item called (stmts made) ∷ []
    → after ≡ before ++ filter_item name (stmts body) ∷ []
filter_made before after called name made body named same added =
    added
    ∙ ap (λ n. before ++ filter_item n (stmts made) ∷ []) named
    ∙ ap (λ ss. before ++ filter_item name (stmts ss) ∷ []) same

pub rejected :
    (before after : List StmtTree) (made test : ExprTree)
    → made ≡ test → after ≡ before ++ when made (reject ∷ []) ∷ [] → after ≡ before ++ when test (reject ∷ []) ∷ []
rejected before after made test same added = added ∙ ap (λ e. before ++ when e (reject ∷ []) ∷ []) same

pub set_made :
    {A : Type 0} (before after : List ItemTree) (called name : List ℕ) (made : List A → SetLit) (xs ys : List A)
    → called ≡ name → xs ≡ ys → after ≡ before ++ defined called made xs → after ≡ before ++ defined name made ys
set_made before after called name made xs ys named same added =
    added ∙ ap (λ n. before ++ defined n made xs) named ∙ ap (λ zs. before ++ defined name made zs) same

-- what is added in three steps
pub three_added :
    {A : Type 0} (start one two three a b c : List A)
    → one ≡ start ++ a → two ≡ one ++ b → three ≡ two ++ c → three ≡ start ++ ((a ++ b) ++ c)
three_added start one two three a b c e f g =
    g ∙ ap (λ t. t ++ c) (f ∙ ap (λ t. t ++ b) e ∙ append_assoc start a b) ∙ append_assoc start (a ++ b) c
