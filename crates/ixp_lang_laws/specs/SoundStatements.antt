-- Which trees of statements a text can spell.
use Rattle.std.specs.Prelude.{ℕ, Bool, true, ◌&&◌, ◌||◌, not}
use Rattle.std.specs.Option.{is_some}
use Rattle.std.specs.List.{list_all}
use Rattle.ixp_lang.specs.declared.stmt.Label.{Label}
use Rattle.ixp_lang.specs.declared.stmt.Label.TheVariants.{Range as Between, State as IsState}
use Rattle.ixp_lang.specs.Trees.{ExprTree, StmtTree, block, if_then, case_of, return_value, accept, reject, call_statement, set_next_hop, prepend, add_pair, delete_pairs, add_triple, delete_triples, StmtTrees, stmts_end, stmts_more, ArmTrees, arms_end, arms_more}
use Rattle.ixp_lang_exprs.specs.declared.types.ValueType.{ValueType}
use Rattle.ixp_lang_exprs.specs.declared.types.ValueType.TheVariants.{Int, Bool as Truth, Ip, Pair, Triple, State, PairSet, TripleSet}
use Rattle.ixp_lang_exprs.specs.declared.context.Scope.{Scope}
use Rattle.ixp_lang_exprs.specs.Types.{same_type}
use Rattle.ixp_lang_exprs.specs.Names.{Names, function_of}
use Rattle.ixp_lang_stmts.specs.Statements.{Returned, may_return, may_meet, met, is_state}
use Rattle.ixp_lang_laws.specs.Sound.{deeper, some_of, params_of, type_of, fits, arguments_fit}

-- a label of a `case` about a state or about a number
abbrev pub label_fits : Bool → Label → Bool
label_fits states (Between low high) = not states
label_fits states (IsState s) = states

module _ (names : Names) (scope : Scope) where
  -- What is returned behind statements that fit.
  abbrev mutual
    pub returned_by : Returned → StmtTree → Returned
    returned_by r (block ss) = returned_in r ss
    returned_by r (if_then e ss ts) = returned_in (returned_in r ss) ts
    returned_by r (case_of e arms ts) = returned_in (returned_arms r arms) ts
    returned_by r (return_value e) = met (type_of names scope e)
    returned_by r _ = r

    pub returned_in : Returned → StmtTrees → Returned
    returned_in r stmts_end = r
    returned_in r (stmts_more s ss) = returned_in (returned_by r s) ss

    pub returned_arms : Returned → ArmTrees → Returned
    returned_arms r arms_end = r
    returned_arms r (arms_more ls ss arms) = returned_arms (returned_in r ss) arms

  -- an expression of the type
  abbrev pub is_of : ValueType → ℕ → ExprTree → Bool
  is_of t n e = fits names scope n e && same_type (type_of names scope e) t

  -- A statement with so many levels at most, where this was returned before.
  abbrev mutual
    pub stmt_fits : ℕ → Returned → StmtTree → Bool
    stmt_fits n r (block ss) = deeper n (λ m. stmts_fit m r ss)
    stmt_fits n r (if_then e ss ts) =
        is_of Truth n e && deeper n (λ m. stmts_fit m r ss && stmts_fit m (returned_in r ss) ts)
    stmt_fits n r (case_of e arms ts) =
        (same_type (type_of names scope e) Int || same_type (type_of names scope e) State)
        && deeper n (λ m. fits names scope m e && arms_fit m (is_state (type_of names scope e)) r arms
        && stmts_fit m (returned_arms r arms) ts)
    stmt_fits n r (return_value e) =
        may_return scope && fits names scope n e && may_meet r (type_of names scope e)
    stmt_fits n r accept = true
    stmt_fits n r reject = true
    stmt_fits n r (call_statement x es) =
        is_some (function_of (names x)) && arguments_fit names scope n (params_of (function_of (names x))) es
    stmt_fits n r (set_next_hop e) = is_of Ip n e
    stmt_fits n r (prepend e) = is_of Int n e
    stmt_fits n r (add_pair e) = is_of Pair n e
    stmt_fits n r (delete_pairs e) = is_of PairSet n e
    stmt_fits n r (add_triple e) = is_of Triple n e
    stmt_fits n r (delete_triples e) = is_of TripleSet n e

    pub stmts_fit : ℕ → Returned → StmtTrees → Bool
    stmts_fit n r stmts_end = true
    stmts_fit n r (stmts_more s ss) = stmt_fits n r s && stmts_fit n (returned_by r s) ss

    pub arms_fit : ℕ → Bool → Returned → ArmTrees → Bool
    arms_fit n states r arms_end = true
    arms_fit n states r (arms_more ls ss arms) =
        some_of ls && list_all (label_fits states) ls && stmts_fit n r ss
        && arms_fit n states (returned_in r ss) arms
