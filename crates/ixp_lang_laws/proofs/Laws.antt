-- The law of expressions.
use Rattle.std.proofs.Common.{ℕ, zero, suc, ◌≤◌, List, refl, sym, subst, arith}
use Rattle.ixp_lang.specs.Trees.{ExprTree}
use Rattle.ixp_lang_tokens.specs.declared.token.Kind.{Kind}
use Rattle.ixp_lang_exprs.specs.declared.types.ValueType.{ValueType}
use Rattle.ixp_lang_exprs.specs.declared.context.Scope.{Scope}
use Rattle.ixp_lang_exprs.specs.declared.wanted.Wanted.{Wanted}
use Rattle.ixp_lang_exprs.specs.Names.{Names}
use Rattle.ixp_lang_laws.specs.Canonical.{expr_tokens}
use Rattle.ixp_lang_laws.specs.Spelling.{Spells, EndsChains}
use Rattle.ixp_lang_laws.proofs.Basics.{Within, sound, Wants}
use Rattle.ixp_lang_laws.proofs.Parentheses.{Expressed}
use Rattle.ixp_lang_laws.proofs.Expressions.{expression_again}

within_of : (n m : ℕ) → n ≤ m → Within n m
within_of zero m h = tt
within_of (suc n) zero h = absurd (omega arith)
within_of (suc n) (suc m) h = within_of n m (omega arith)

canonical : (names : Names) (scope : Scope) (e : ExprTree) (t : ValueType) (n m s : ℕ) (needed : Wanted) (behind : List Kind) → Within n m → Wants needed t → Expressed names scope n e t → EndsChains behind
    → Spells names scope m s needed e t (expr_tokens e behind) behind
canonical names scope e t n m s needed behind w wants expressed ends = (let whole = (expressed m w).whole in (sound e t whole.0, refl, refl, refl, whole.1 s needed wants behind ends))

pub expression_law : (names : Names) (scope : Scope) (e : ExprTree) (t : ValueType) (levels more statement other : ℕ) (wanted needed : Wanted) (tokens rest behind : List Kind) → levels ≤ more → Wants needed t
    → Spells names scope levels statement wanted e t tokens rest → EndsChains behind → Spells names scope more other needed e t (expr_tokens e behind) behind
expression_law names scope e t levels more statement other wanted needed tokens rest behind le wants (o, tree, ty, fine, took) ends =
    subst (λ x. Spells names scope more other needed x t (expr_tokens x behind) behind) tree
    (subst (λ y. Spells names scope more other needed o.tree y (expr_tokens o.tree behind) behind) ty
    (canonical names scope o.tree o.ty levels more other needed behind (within_of levels more le) (subst (Wants needed) (sym ty) wants) (expression_again names scope levels statement wanted o tokens rest took fine) ends))
