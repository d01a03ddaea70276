-- Functions and filters are spelt by their canonical tokens, which leave a written type out.
use Rattle.std.proofs.Common.{◌≡◌, ℕ, zero, suc, inl, inr, Bool, true, false, not, ◌&&◌, List, [], ◌∷◌, ◌++◌, Option, Some, None, codes, refl, sym, ap, ◌∙◌, subst, if◌then◌else◌, append_assoc}
use Rattle.std.specs.Option.{is_some, is_none}
use Rattle.ixp_lang_tokens.specs.declared.token.Kind.{Kind}
use Rattle.ixp_lang_tokens.specs.declared.token.Mark.TheVariants as mark
use Rattle.ixp_lang_tokens.specs.Grammars.{Grammar, gives, sequence, choice, Step, onward, done, Rounds, Took}
use Rattle.ixp_lang.specs.Trees.{StmtTree, stmts}
use Rattle.ixp_lang.specs.declared.item.Ty.{Ty}
use Rattle.ixp_lang.specs.declared.item.Ty.TheVariants as ty
use Rattle.ixp_lang_exprs.specs.declared.types.ValueType.{ValueType}
use Rattle.ixp_lang_exprs.specs.declared.context.Scope.TheVariants as scope
use Rattle.ixp_lang_exprs.specs.Names.{Names}
use Rattle.ixp_lang_exprs.specs.Sets.{unless_so}
use Rattle.ixp_lang_exprs.specs.Operands.{misfit_at}
use Rattle.ixp_lang_tokens.specs.Pieces.{the_word}
use Rattle.ixp_lang_exprs.specs.Lists.{ended}
use Rattle.ixp_lang_exprs.specs.declared.env.Declared.TheVariants.{Begun}
use Rattle.ixp_lang_stmts.specs.Statements.{Said, said, body_form}
use Rattle.ixp_lang_exprs.specs.Declarations.{Declares, standing, free_name, is_free_in}
use Rattle.ixp_read.specs.Functions.{type_form, Params, param_form, no_params, params_form, as_written, levels_inside, Head, head_form, Body, body_with, frame_in, body_end, function_form, filter_form}
use Rattle.ixp_lang_laws.specs.Canonical.{name, sign}
use Rattle.ixp_lang_laws.specs.CanonicalItems.{ty_tokens, stmts_tokens, body_tokens, param_tokens, more_params_tokens, params_tokens, item_tokens}
use Rattle.ixp_lang_laws.proofs.Basics.{is_so, so_again}
use Rattle.ixp_lang_laws.proofs.Statements.{kept}
use Rattle.ixp_lang_laws.proofs.Levels.{body_again}

-- The name of an item.
pub free_again : (names : Names) (n : List ℕ) (ts rest : List Kind) → Took (free_name names) n ts rest → (others : List Kind) → Took (free_name names) n (name n others) others
free_again names n ts rest (found, a, token, (fit, (is, same))) others =
    subst (λ z. Took (free_name names) z (name z others) others) (sym is) (found, others, (refl, refl), (so_again _ _ (is_so (is_none (names found)) _ fit), (refl, refl)))

-- Parameters.

pub type_spells : (t : Ty) (rest : List Kind) → Took type_form t (ty_tokens t rest) rest
type_spells ty.Int rest = (ty.Int, _, (refl, refl), inr (refl, refl))
type_spells ty.Bool rest = (ty.Bool, _, (refl, refl), inr (refl, refl))
type_spells ty.Ip rest = (ty.Ip, _, (refl, refl), inr (refl, refl))
type_spells ty.Prefix rest = (ty.Prefix, _, (refl, refl), inr (refl, refl))
type_spells ty.Pair rest = (ty.Pair, _, (refl, refl), inr (refl, refl))
type_spells ty.Lc rest = (ty.Lc, _, (refl, refl), inr (refl, refl))
type_spells ty.IntSet rest = (ty.Int, _, (refl, refl), inl (tt, _, (refl, refl), (refl, refl)))
type_spells ty.IpSet rest = (ty.Ip, _, (refl, refl), inl (tt, _, (refl, refl), (refl, refl)))
type_spells ty.PrefixSet rest = (ty.Prefix, _, (refl, refl), inl (tt, _, (refl, refl), (refl, refl)))
type_spells ty.PairSet rest = (ty.Pair, _, (refl, refl), inl (tt, _, (refl, refl), (refl, refl)))
type_spells ty.LcSet rest = (ty.Lc, _, (refl, refl), inl (tt, _, (refl, refl), (refl, refl)))

module _ (number : ℕ) where
  -- a parameter is told by its type and name
  ParamAgain : Params → Params → Type 0
  ParamAgain before after =
      (p : Ty × List ℕ) × (after.params ≡ before.params ++ p ∷ []) × ((others : List Kind) → Took (param_form number before) after (param_tokens p others) others)

  param_again : (before after : Params) (ts rest : List Kind) → Took (param_form number before) after ts rest → ParamAgain before after
  unfolding ParamAgain
  param_again before after ts rest (t, a, type_, (n, b, token, (fit, (is, same)))) =
      subst (λ z. ParamAgain before z) (sym is)
      ((t, n), refl, λ others. (t, _, type_spells t (name n others), (n, others, (refl, refl), (so_again _ _ (is_so (is_free_in (before.names n) number) _ fit), (refl, refl)))))

  abbrev param_round : Params → Grammar (Step Params Params)
  param_round before = sequence (param_form number before) (λ params. choice (ended mark.Semicolon (onward params)) (gives (done params)))

  abbrev ParamRounds : ℕ → Params → Params → List Kind → List Kind → Type 0
  ParamRounds = Rounds (λ s. Took (param_round s))

  ParamsAgain : Params → Params → Type 0
  ParamsAgain before after =
      (p : Ty × List ℕ) × (new : List (Ty × List ℕ)) × (after.params ≡ before.params ++ p ∷ new)
      × ((others : List Kind) → (j : ℕ) × ParamRounds j before after (params_tokens (p ∷ new) others) others)

  last_param : (before after : Params) (ts rest : List Kind) → Took (param_round before) (done after) ts rest → ParamsAgain before after
  unfolding ParamAgain ParamsAgain
  last_param before after ts rest (one, mid, took, inl (x, a, semicolon, (is, same))) = absurd (let e : ◌≡◌ {A = Step Params Params} (done after) (onward one) = is in let f : ⊥ = cc in f)
  last_param before after ts rest (one, mid, took, inr (is, same)) =
      let e : ◌≡◌ {A = Step Params Params} (done after) (done one) = is in
      let h : one ≡ after = cc in
      subst (λ z. ParamsAgain before z) h
      (let p = param_again before one ts mid took in (p.0, [], p.1, λ others. (0, (one, others, p.2 others, inr (refl, refl)))))

  next_param : (before next after : Params) (ts rest : List Kind) → Took (param_round before) (onward next) ts rest → ParamsAgain next after → ParamsAgain before after
  unfolding ParamAgain ParamsAgain
  next_param before next after ts rest (one, mid, took, inr (is, same)) behind = absurd (let e : ◌≡◌ {A = Step Params Params} (onward next) (done one) = is in let f : ⊥ = cc in f)
  next_param before next after ts rest (one, mid, took, inl (x, a, semicolon, (is, same))) behind =
      let e : ◌≡◌ {A = Step Params Params} (onward next) (onward one) = is in
      let h : next ≡ one = cc in
      go (subst (λ z. ParamsAgain z after) h behind) (param_again before one ts mid took)
    where
      go : ParamsAgain one after → ParamAgain before one → ParamsAgain before after
      go (q, new, all, spells) (p, is_p, spells_p) = (
        p,
        q ∷ new,
        all ∙ (ap (λ xs. xs ++ q ∷ new) is_p ∙ append_assoc before.params (p ∷ []) (q ∷ new)),
        λ others.
            (let more = spells others in
            (suc more.0, (one, params_tokens (q ∷ new) others, (one, _, spells_p (more_params_tokens (q ∷ new) others), inl (tt, _, (refl, refl), (refl, refl))), more.1))),
      )

  some_params : (k : ℕ) (before after : Params) (ts rest : List Kind) → ParamRounds k before after ts rest → ParamsAgain before after
  some_params zero before after ts rest took = last_param before after ts rest took
  some_params (suc k) before after ts rest (next, mid, took, more) = next_param before next after ts mid took (some_params k next after mid rest more)

  AllAgain : Names → Params → Type 0
  AllAgain names params = (others : List Kind) → Took (params_form number names) params (sign mark.Open (params_tokens params.params (sign mark.Close others))) others

  all_again : (names : Names) (params : Params) → ParamsAgain (no_params names) params → AllAgain names params
  unfolding ParamsAgain AllAgain
  all_again names params (p, new, all, spells) others =
      subst (λ ps. Took (params_form number names) params (sign mark.Open (params_tokens ps (sign mark.Close others))) others) (sym all)
      (tt, _, (refl, refl), inr (params, _, spells (sign mark.Close others), (tt, _, (refl, refl), (refl, refl))))

  params_again : (names : Names) (params : Params) (ts rest : List Kind) → Took (params_form number names) params ts rest → AllAgain names params
  unfolding AllAgain
  params_again names params ts rest (x, a, open_, inl (y, b, close, (is, same))) =
      subst (AllAgain names) (sym is) (λ others. (tt, _, (refl, refl), inl (tt, _, (refl, refl), (refl, refl))))
  params_again names params ts rest (x, a, open_, inr (found, b, (k, took), (y, c, close, (is, same)))) =
      subst (AllAgain names) (sym is) (all_again names found (some_params k (no_params names) found a b took))

  -- a function's head
  HeadAgain : Names → Head → Type 0
  HeadAgain names head = (others : List Kind) → Took (head_form number names) head (name head.name (sign mark.Open (params_tokens head.params.params (sign mark.Close others)))) others

  head_again : (names : Names) (head : Head) (ts rest : List Kind) → Took (head_form number names) head ts rest → HeadAgain names head
  unfolding AllAgain HeadAgain
  head_again names head ts rest (n, a, free, (params, b, took, (is, same))) =
      subst (HeadAgain names) (sym is)
      (λ others. (n, _, free_again names n ts a free _, (params, others, params_again (standing names n Begun) params a b took others, (refl, refl))))

  -- Bodies.

  BodyAgain : Names → Body → Type 0
  BodyAgain names body = (others : List Kind) → Took (body_end number names) body (body_tokens (stmts body.statements) others) others

  body_spells : (names : Names) (body : Said (List StmtTree)) → ((others : List Kind) → Took (body_form (frame_in number names) levels_inside (as_written None)) body (stmts_tokens (stmts body.it) (sign mark.BlockClose others)) others)
      → BodyAgain names (body_with body)
  unfolding BodyAgain
  body_spells names body spells others = (None, _, inr (refl, refl), (tt, _, (refl, refl), (body, others, spells others, (refl, (refl, refl)))))

  met_type : (is_met : Bool) (t : Option ValueType) → not (not is_met) ≡ true → (if is_met then t else None) ≡ t
  met_type true t e = refl
  met_type false t e = absurd cc

  by_written : (names : Names) (place : ℕ) (written : Option ValueType) (body : Said (List StmtTree)) (ts rest : List Kind) → Took (body_form (frame_in number names) levels_inside (as_written written)) body ts rest
      → unless_so (not (is_some written && not body.returned.is_met)) (misfit_at place) ≡ None → BodyAgain names (body_with body)
  by_written names place None body ts rest took fit =
      body_spells names body (body_again names (scope.Function number) false levels_inside (as_written None) body ts rest took)
  by_written names place (Some t) body ts rest took fit =
      subst (BodyAgain names) (ap (λ u. record { statements = body.it; returns = u }) (met_type body.returned.is_met body.returned.ty (is_so _ _ fit)))
      (body_spells names (said (kept true body.returned) body.it) (body_again names (scope.Function number) true levels_inside (as_written (Some t)) body ts rest took))

  end_again : (names : Names) (body : Body) (ts rest : List Kind) → Took (body_end number names) body ts rest → BodyAgain names body
  end_again names body ts rest (written, a, type_, (x, b, open_, (found, c, took, (fit, (is, same))))) =
      subst (BodyAgain names) (sym is) (by_written names _ written found b c took fit)

  -- what follows `function`
  pub function_again : (names : Names) (d : Declares) (ts rest : List Kind) → Took (function_form number names) d ts rest → (others : List Kind)
      → Took (sequence (the_word (codes "function")) (λ tt. function_form number names)) d (item_tokens d.0 others) others
  unfolding HeadAgain BodyAgain
  function_again names d ts rest (head, a, heads, (body, b, took, (is, same))) others =
      subst (λ z. Took (sequence (the_word (codes "function")) (λ tt. function_form number names)) z (item_tokens z.0 others) others) (sym is)
      (tt, _, (refl, refl), (head, _, head_again names head ts a heads _, (body, others, end_again head.params.names body a b took others, (refl, refl))))

-- what follows `filter`
pub filter_again : (names : Names) (d : Declares) (ts rest : List Kind) → Took (filter_form names) d ts rest → (others : List Kind)
    → Took (sequence (the_word (codes "filter")) (λ tt. filter_form names)) d (item_tokens d.0 others) others
filter_again names d ts rest (n, a, free, (x, b, open_, (body, c, took, (is, same)))) others =
    subst (λ z. Took (sequence (the_word (codes "filter")) (λ tt. filter_form names)) z (item_tokens z.0 others) others) (sym is) (
      tt,
      _,
      (refl, refl),
      (
        n,
        _,
        free_again names n ts a free _,
        (tt, _, (refl, refl), (body, others, body_again names scope.Filter false levels_inside (as_written None) body b c took others, (refl, refl))),
      ),
    )
