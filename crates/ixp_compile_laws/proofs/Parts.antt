-- Parts of a filter that fit, one after the other.
use Rattle.std.proofs.Common.{◌≡◌, ℕ, suc, if◌then◌else◌, Bool, true, false, ◌&&◌, List, [], ◌∷◌, ◌++◌, refl, sym, ap, ◌∙◌, subst}
use Rattle.std.proofs.lemmas.Bool.{and_from}
use Rattle.ixp_lang_exprs.specs.declared.types.ValueType.TheVariants.{Bool as Truth}
use Rattle.ixp_lang.specs.Trees.{ExprTree, StmtTree, stmts}
use Rattle.ixp_lang_exprs.specs.declared.context.Scope.{Scope}
use Rattle.ixp_lang_exprs.specs.Names.{Names}
use Rattle.ixp_lang_stmts.specs.Statements.{Returned}
use Rattle.ixp_compile.specs.Pieces.{when}
use Rattle.ixp_lang_laws.specs.SoundStatements.{is_of, returned_in, stmts_fit, stmt_fits, returned_by}

module _ (names : Names) (scope : Scope) (n : ℕ) where
  -- statements that fit whatever was returned before, and return nothing
  pub PartFits : List StmtTree → Type 0
  PartFits ss = (r : Returned) → (stmts_fit names scope n r (stmts ss) ≡ true) × (returned_in names scope r (stmts ss) ≡ r)

  pub part_of : (ss : List StmtTree) → ((r : Returned) → (stmts_fit names scope n r (stmts ss) ≡ true) × (returned_in names scope r (stmts ss) ≡ r)) → PartFits ss
  unfolding PartFits
  part_of ss h = h

  pub no_part : PartFits []
  unfolding PartFits
  no_part r = (refl, refl)

  and_assoc : (a b c : Bool) → (a && (b && c)) ≡ ((a && b) && c)
  and_assoc true b c = refl
  and_assoc false b c = refl

  append_fits : (ss ts : List StmtTree) (r : Returned) → stmts_fit names scope n r (stmts (ss ++ ts)) ≡ (stmts_fit names scope n r (stmts ss) && stmts_fit names scope n (returned_in names scope r (stmts ss)) (stmts ts))
  append_fits [] ts r = refl
  append_fits (s ∷ ss) ts r = ap (λ b. stmt_fits names scope n r s && b) (append_fits ss ts (returned_by names scope r s)) ∙ and_assoc (stmt_fits names scope n r s) _ _

  append_returned : (ss ts : List StmtTree) (r : Returned) → returned_in names scope r (stmts (ss ++ ts)) ≡ returned_in names scope (returned_in names scope r (stmts ss)) (stmts ts)
  append_returned [] ts r = refl
  append_returned (s ∷ ss) ts r = append_returned ss ts (returned_by names scope r s)

  pub both_parts : (ss ts : List StmtTree) → PartFits ss → PartFits ts → PartFits (ss ++ ts)
  unfolding PartFits
  both_parts ss ts fit_s fit_t r = (
    append_fits ss ts r ∙ and_from (stmts_fit names scope n r (stmts ss)) _ (fit_s r).0 (subst (λ z. stmts_fit names scope n z (stmts ts) ≡ true) (sym (fit_s r).1) (fit_t r).0),
    append_returned ss ts r ∙ (subst (λ z. returned_in names scope z (stmts ts) ≡ r) (sym (fit_s r).1) (fit_t r).1),
  )

  pub if_fits : (b : Bool) (ss ts : List StmtTree) → (b ≡ true → PartFits ss) → (b ≡ false → PartFits ts) → PartFits (if b then ss else ts)
  if_fits true ss ts fs ft = fs refl
  if_fits false ss ts fs ft = ft refl

  AllFit : List (List StmtTree) → Type 0
  AllFit [] = Unit {0}
  AllFit (part ∷ parts) = PartFits part × AllFit parts

  pub fits_alone : (ss : List StmtTree) (r : Returned) → PartFits ss → stmts_fit names scope n r (stmts ss) ≡ true
  unfolding PartFits
  fits_alone ss r h = (h r).0

pub returned_alone : (names : Names) (scope : Scope) (n : ℕ) (ss : List StmtTree) (r : Returned) → PartFits names scope n ss → returned_in names scope r (stmts ss) ≡ r
unfolding PartFits
returned_alone names scope n ss r h = (h r).1

pub when_fits : (names : Names) (scope : Scope) (n : ℕ) (e : ExprTree) (ss : List StmtTree) → is_of names scope Truth (suc n) e ≡ true → PartFits names scope n ss → PartFits names scope (suc n) (when e ss ∷ [])
unfolding PartFits
when_fits names scope n e ss test h r =
    (and_from _ true (and_from (is_of names scope Truth (suc n) e) _ test (and_from (stmts_fit names scope n r (stmts ss)) true (h r).0 refl)) refl, (h r).1)
