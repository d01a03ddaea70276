-- Operands, comparisons and chains, from what stands alone.
use Rattle.std.proofs.Common.{◌≡◌, ℕ, zero, suc, inl, inr, Bool, true, false, List, [], ◌∷◌, ◌++◌, Some, None, length, option_map, refl, sym, ap, ◌∙◌, subst, if◌then◌else◌, append_assoc}
use Rattle.ixp_lang_tokens.specs.declared.token.Kind.{Kind}
use Rattle.ixp_lang_tokens.specs.declared.token.Kind.TheVariants as kind
use Rattle.ixp_lang_tokens.specs.declared.token.Mark.{Mark}
use Rattle.ixp_lang_tokens.specs.declared.token.Mark.TheVariants as mark
use Rattle.ixp_lang_tokens.specs.Grammars.{Grammar, Step, onward, done, Rounds, Took}
use Rattle.ixp_lang_tokens.specs.Pieces.{is_mark, is_next, if_so}
use Rattle.ixp_lang.specs.Trees.{ExprTree, conjunction, disjunction, comparison, ExprTrees, exprs}
use Rattle.ixp_lang.specs.declared.expr.Op.{Op}
use Rattle.ixp_lang.specs.declared.expr.Op.TheVariants as op
use Rattle.ixp_lang_exprs.specs.declared.types.ValueType.{ValueType}
use Rattle.ixp_lang_exprs.specs.declared.types.ValueType.TheVariants.{Bool as Truth}
use Rattle.ixp_lang_exprs.specs.declared.context.Scope.{Scope}
use Rattle.ixp_lang_exprs.specs.declared.wanted.Wanted.{Wanted}
use Rattle.ixp_lang_exprs.specs.Types.{same_type, takes_left, takes_right}
use Rattle.ixp_lang_exprs.specs.Names.{Names}
use Rattle.ixp_lang_exprs.specs.Operands.{Operand, misfit_at, fits_left, anything, one_type, no_truth}
use Rattle.ixp_lang_exprs.specs.Expressions.{operator_in, Chain, begun_with, longer, part_misfit, chained, comparison_of, chain_part, chain_of, expression_of, unary_form, expression_form, operand_form}
use Rattle.ixp_print.specs.Texts.{is_chain, is_compound}
use Rattle.ixp_lang_laws.specs.Canonical.{Before, operator, wrapped, expr_tokens, chain_tokens}
use Rattle.ixp_lang_laws.proofs.Basics.{Within, within_less, sound, so_again, none_settled, none_unfit, none_part, if_none, is_so, none_refused, compared_again, both_none, Wants, truth_wanted, begins_alone, begins_compared, hope_again, compared_hope, left_again}
use Rattle.ixp_lang_laws.proofs.Parentheses.{Unjoined, at, Reads, Meets, Fitting, Expressed, Again}

pub operator_again : (o : Op) → operator_in (kind.Mark (operator o)) ≡ Some o
operator_again op.Eq = refl
operator_again op.Ne = refl
operator_again op.Lt = refl
operator_again op.Le = refl
operator_again op.Gt = refl
operator_again op.Ge = refl
operator_again op.In = refl
operator_again op.NotIn = refl

chain_is_compound : (e : ExprTree) → is_chain e ≡ true → is_compound e ≡ true
chain_is_compound (conjunction es) h = refl
chain_is_compound (disjunction es) h = refl
chain_is_compound _ h = absurd cc

chain_not_compound : (e : ExprTree) → is_compound e ≡ false → is_chain e ≡ false
chain_not_compound (conjunction es) h = absurd cc
chain_not_compound (disjunction es) h = absurd cc
chain_not_compound _ h = refl

-- a joint of a chain, the other one, and the tree that it makes
pub data Joint : Mark → Mark → (ExprTrees → ExprTree) → Type 0 where
  of_and : Joint mark.And mark.Or conjunction
  of_or : Joint mark.Or mark.And disjunction

module _ (names : Names) (scope : Scope) where
  abbrev pub Compared : ℕ → ExprTree → ValueType → Before → Type 0
  Compared m = Meets names scope (λ s. comparison_of (unary_form (at names scope s) m))

  abbrev pub Alone : ℕ → ExprTree → ValueType → Before → Type 0
  Alone m = Reads names scope (λ s. unary_form (at names scope s) m)

  -- what stands alone with so many levels or more, as it is or in parentheses
  abbrev pub Single : ℕ → ExprTree → ValueType → Type 0
  Single n e t = Expressed names scope n e t × ((m : ℕ) → Within n m → Alone m e t (wrapped (is_compound e) (expr_tokens e)))

  -- the same of an operand of a chain
  abbrev pub Joined : ℕ → ExprTree → ValueType → Type 0
  Joined n e t = Expressed names scope n e t × ((m : ℕ) → Within n m → Compared m e t (wrapped (is_chain e) (expr_tokens e)))

  compared_alone : (m : ℕ) (e : ExprTree) (t : ValueType) (text : Before) → Alone m e t text → Compared m e t text
  compared_alone m e t text (b, reads) = (b, λ s wanted wants rest. (sound e t b, rest, reads s wanted (begins_alone wanted t wants) rest, (hope_again wanted e t b wants, inr (refl, refl))))

  whole_compared : (m : ℕ) (e : ExprTree) (t : ValueType) → Compared m e t (expr_tokens e)
      → (b : Bool) × ((s : ℕ) (wanted : Wanted) → Wants wanted t → (rest : List Kind) → Unjoined rest → Took (expression_form (at names scope s) m wanted) (sound e t b) (expr_tokens e rest) rest)
  whole_compared m e t (b, reads) = (b, λ s wanted wants rest free. (sound e t b, rest, reads s wanted wants rest, inr (inr (refl, refl))))

  pub fitting_alone : (m : ℕ) (e : ExprTree) (t : ValueType) → Alone m e t (expr_tokens e) → Fitting names scope m e t
  fitting_alone m e t reads = record {
    whole = whole_compared m e t (compared_alone m e t (expr_tokens e) reads);
    part = λ h. compared_alone m e t (expr_tokens e) reads;
    alone = λ h. reads;
  }

  fitting_compared : (m : ℕ) (e : ExprTree) (t : ValueType) → is_compound e ≡ true → Compared m e t (expr_tokens e) → Fitting names scope m e t
  fitting_compared m e t h reads = record {
    whole = whole_compared m e t reads;
    part = λ g. reads;
    alone = λ g. absurd (let f : true ≡ false = sym h ∙ g in let x : ⊥ = cc in x);
  }

  pub single_plain : (n : ℕ) (e : ExprTree) (t : ValueType) → is_compound e ≡ false → ((m : ℕ) → Within n m → Alone m e t (expr_tokens e)) → Single n e t
  single_plain n e t h reads = (λ m w. fitting_alone m e t (reads m w), λ m w. subst (λ c. Alone m e t (wrapped c (expr_tokens e))) (sym h) (reads m w))

  pub joined_single : (n : ℕ) (e : ExprTree) (t : ValueType) → Single n e t → Joined n e t
  joined_single n e t (expressed, alone) = (expressed, λ m w. by_case m w (is_chain e) refl)
    where
      by_case : (m : ℕ) → Within n m → (c : Bool) → is_chain e ≡ c → Compared m e t (wrapped c (expr_tokens e))
      by_case m w true h =
          compared_alone m e t (wrapped true (expr_tokens e)) (subst (λ c. Alone m e t (wrapped c (expr_tokens e))) (chain_is_compound e h) (alone m w))
      by_case m w false h = (expressed m w).part h

  -- an expression in parentheses
  pub single_enclosed : (n : ℕ) (e : ExprTree) (t : ValueType) → Expressed names scope n e t → Single (suc n) e t
  unfolding operand_form
  single_enclosed n e t expressed = (λ m w. expressed m (within_less n m w), λ m w. by_level m w)
    where
      by_case : (m : ℕ) → Within n m → (c : Bool) → is_compound e ≡ c → Alone (suc m) e t (wrapped c (expr_tokens e))
      by_case m w false h = (expressed (suc m) (within_less n (suc m) w)).alone h
      by_case m w true h = (
        false,
        λ s wanted begins rest. (let whole = (expressed m w).whole in
            inr (inl (
              tt,
              _,
              (refl, refl),
              (
                record { trees = e ∷ []; first = _; ty = t },
                rest,
                (0, (sound e t whole.0, kind.Mark mark.Close ∷ rest, whole.1 s anything refl (kind.Mark mark.Close ∷ rest) (refl, refl), (true, rest, (refl, refl), (refl, (refl, refl))))),
                (refl, refl),
              ),
            ))),
      )

      by_level : (m : ℕ) → Within (suc n) m → Alone m e t (wrapped (is_compound e) (expr_tokens e))
      by_level zero w = absurd w
      by_level (suc m) w = by_case m w (is_compound e) refl

  -- A comparison.
  pub comparing : (n : ℕ) (op : Op) (e f : ExprTree) (t u : ValueType) → takes_left op t ≡ true → takes_right op t u ≡ true → Single n e t → Single n f u → Joined n (comparison op e f) Truth
  comparing n op e f t u left right (expressed_e, alone_e) (expressed_f, alone_f) = (λ m w. fitting_compared m (comparison op e f) Truth refl (reads m w), reads)
    where
      reads : (m : ℕ) → Within n m → Compared m (comparison op e f) Truth (expr_tokens (comparison op e f))
      reads m w = (
        false,
        λ s wanted wants rest. (let one = alone_e m w in let other = alone_f m w in (
          sound e t one.0,
          _,
          one.1 s wanted (begins_compared wanted op t left wants) _,
          (
            compared_hope wanted op e t one.0 left wants,
            inl (
              op,
              _,
              (operator_again op, refl),
              (
                left_again wanted op e t one.0 _ left wants,
                (sound f u other.0, rest, other.1 s anything refl rest, (none_refused op e f t u one.0 other.0 _ right, (compared_again op e f t u one.0 other.0 _ right, refl))),
              ),
            ),
          ),
        )),
      )

  abbrev AloneAgain : ℕ → Type 0
  AloneAgain n = (s : ℕ) (wanted : Wanted) (o : Operand) (ts rest : List Kind) → Took (unary_form (at names scope s) n wanted) o ts rest → Single n o.tree o.ty

  abbrev ComparedAgain : ℕ → Type 0
  ComparedAgain n = (s : ℕ) (wanted : Wanted) (o : Operand) (ts rest : List Kind) → Took (comparison_of (unary_form (at names scope s) n) wanted) o ts rest → o.misfit ≡ None → Joined n o.tree o.ty

  comparison_again : (n : ℕ) → AloneAgain n → ComparedAgain n
  comparison_again n again s wanted o ts rest (left, mid, took, (hope, inr (is, same))) fine =
      joined_single n o.tree o.ty (subst (λ x. Single n x.tree x.ty) (sym is) (again s wanted left ts mid took))
  comparison_again n again s wanted o ts rest (left, mid, took, (hope, inl (op, others, operator_, (fit, (right, more, took_right, (fit_right, (is, same))))))) fine =
      let place : ℕ = length mid in
      let h : takes_left op left.ty ≡ true = is_so (takes_left op left.ty) _ (both_none (fits_left op left place) (no_truth wanted) fit).0 in
      let k : takes_right op left.ty right.ty ≡ true = if_none (takes_right op left.ty right.ty) place (ap (λ x. x.misfit) (sym is) ∙ fine) in
      subst (λ x. Joined n x.tree x.ty) (sym is)
      (comparing n op left.tree right.tree left.ty right.ty h k (again s wanted left ts mid took) (again s anything right others more took_right))

  -- Chains.

  abbrev pub ChainRounds : Mark → Mark → (ExprTrees → ExprTree) → ℕ → ℕ → ℕ → Chain → Operand → List Kind → List Kind → Type 0
  ChainRounds joint other joined n s = Rounds (λ c. Took (chain_part (unary_form (at names scope s) n) joint other joined c))

  -- the chain goes on by these parts, which are spelt by their tokens
  abbrev pub Chained : Mark → Mark → (ExprTrees → ExprTree) → ℕ → List ExprTree → Operand → Type 0
  Chained joint other joined n before o =
      (e : ExprTree) × (es : List ExprTree) × (o.tree ≡ joined (exprs (before ++ e ∷ es))) × (o.ty ≡ Truth)
      × ((m : ℕ) → Within n m → (s place : ℕ) (rest : List Kind) → Unjoined rest →
      (j : ℕ) × ChainRounds joint other joined m s j (record { parts = before; place = place }) (sound (joined (exprs (before ++ e ∷ es))) Truth false) (chain_tokens joint (exprs (e ∷ es)) rest) rest)

  pub unjoined : (joint other : Mark) (joined : ExprTrees → ExprTree) → Joint joint other joined → (rest : List Kind) → Unjoined rest → is_next (is_mark other) rest ≡ false
  unjoined joint other joined of_and rest (no_and, no_or) = no_or
  unjoined joint other joined of_or rest (no_and, no_or) = no_and

  pub joint_apart : (joint other : Mark) (joined : ExprTrees → ExprTree) → Joint joint other joined → (rest : List Kind) → is_next (is_mark other) (kind.Mark joint ∷ rest) ≡ false
  joint_apart joint other joined of_and rest = refl
  joint_apart joint other joined of_or rest = refl

  pub joint_again : (joint other : Mark) (joined : ExprTrees → ExprTree) → Joint joint other joined → if_so (is_mark joint (kind.Mark joint)) ≡ Some tt
  joint_again joint other joined of_and = refl
  joint_again joint other joined of_or = refl

  pub misfit_again : (joined : ExprTrees → ExprTree) (before : List ExprTree) (e : ExprTree) (t : ValueType) (b : Bool) (place : ℕ) → same_type t Truth ≡ true
      → sound (joined (exprs (before ++ e ∷ []))) Truth false ≡ chained joined (record { parts = before; place = place }) (sound e t b)
  misfit_again joined before e t b place same =
      sym (ap (λ c. record { tree = joined (exprs (before ++ e ∷ [])); ty = Truth; is_open = false; misfit = if c then None else Some place }) same)

  pub no_misfit : (e : ExprTree) (t : ValueType) (b : Bool) (place : ℕ) → same_type t Truth ≡ true → option_map misfit_at (part_misfit (sound e t b) place) ≡ None
  no_misfit e t b place same = ap (λ c. option_map misfit_at (if c then None else Some place)) same

  last_part : (joint other : Mark) (joined : ExprTrees → ExprTree) → Joint joint other joined → (n : ℕ) → ComparedAgain n → (s : ℕ) (chain : Chain) (o : Operand) (ts rest : List Kind)
      → Took (chain_part (unary_form (at names scope s) n) joint other joined chain) (done o) ts rest → o.misfit ≡ None → Chained joint other joined n chain.parts o
  last_part joint other joined j n again s chain o ts rest (part, mid, took, (free, inl (x, more, mark_, (fit, (is, same))))) fine = absurd (let e : ◌≡◌ {A = Step Chain Operand} (done o) (onward (longer chain part (length mid))) = is in let f : ⊥ = cc in f)
  last_part joint other joined j n again s chain o ts rest (part, mid, took, (free, inr (is, same))) fine =
      let e : ◌≡◌ {A = Step Chain Operand} (done o) (done (chained joined chain part)) = is in
      let is_chained : o ≡ chained joined chain part = cc in
      let h : (part.misfit ≡ None) × (same_type part.ty Truth ≡ true) = none_part part chain.place (ap (λ x. x.misfit) (sym is_chained) ∙ fine) in
      let joins : Joined n part.tree part.ty = again s (one_type Truth chain.place) part ts mid took h.0 in (
        part.tree,
        [],
        ap (λ x. x.tree) is_chained,
        ap (λ x. x.ty) is_chained,
        λ m w s place others free_others.
            (let reads = joins.1 m w in (
              0,
              (
                sound part.tree part.ty reads.0,
                others,
                reads.1 s (one_type Truth place) h.1 others,
                (
                  unjoined joint other joined j others free_others,
                  inr (ap done (misfit_again joined chain.parts part.tree part.ty reads.0 place h.1), refl),
                ),
              ),
            )),
      )

  next_part : (joint other : Mark) (joined : ExprTrees → ExprTree) → Joint joint other joined → (n : ℕ) → ComparedAgain n → (s : ℕ) (chain next : Chain) (o : Operand) (ts rest : List Kind)
      → Took (chain_part (unary_form (at names scope s) n) joint other joined chain) (onward next) ts rest → Chained joint other joined n next.parts o → Chained joint other joined n chain.parts o
  next_part joint other joined j n again s chain next o ts rest (part, mid, took, (free, inr (is, same))) behind = absurd (let e : ◌≡◌ {A = Step Chain Operand} (onward next) (done (chained joined chain part)) = is in let f : ⊥ = cc in f)
  next_part joint other joined j n again s chain next o ts rest (part, mid, took, (free, inl (x, more, mark_, (fit, (is, same))))) behind =
      let e : ◌≡◌ {A = Step Chain Operand} (onward next) (onward (longer chain part (length mid))) = is in
      let is_longer : next ≡ longer chain part (length mid) = cc in
      let h : (part.misfit ≡ None) × (same_type part.ty Truth ≡ true) = none_part part chain.place (none_settled (part_misfit part chain.place) fit) in
      by_parts h (again s (one_type Truth chain.place) part ts mid took h.0) (subst (λ c. Chained joint other joined n c.parts o) is_longer behind)
    where
      by_parts : (part.misfit ≡ None) × (same_type part.ty Truth ≡ true) → Joined n part.tree part.ty → Chained joint other joined n (chain.parts ++ part.tree ∷ []) o → Chained joint other joined n chain.parts o
      by_parts h joins (f, fs, tree, ty, spells) =
          let all : (chain.parts ++ part.tree ∷ []) ++ f ∷ fs ≡ chain.parts ++ part.tree ∷ f ∷ fs = append_assoc chain.parts (part.tree ∷ []) (f ∷ fs) in (
            part.tree,
            f ∷ fs,
            tree ∙ ap (λ es. joined (exprs es)) all,
            ty,
            λ m w s place others free_others.
                subst (λ es. (i : ℕ) × ChainRounds joint other joined m s i (record { parts = chain.parts; place = place }) (sound (joined (exprs es)) Truth false) (chain_tokens joint (exprs (part.tree ∷ f ∷ fs)) others) others) all
                (let reads = joins.1 m w in
                let rest_tokens : List Kind = chain_tokens joint (exprs (f ∷ fs)) others in
                let go = spells m w s (length (kind.Mark joint ∷ rest_tokens)) others free_others in (
                  suc go.0,
                  (
                    record { parts = chain.parts ++ part.tree ∷ []; place = length (kind.Mark joint ∷ rest_tokens) },
                    rest_tokens,
                    (
                      sound part.tree part.ty reads.0,
                      kind.Mark joint ∷ rest_tokens,
                      reads.1 s (one_type Truth place) h.1 (kind.Mark joint ∷ rest_tokens),
                      (
                        joint_apart joint other joined j rest_tokens,
                        inl (tt, rest_tokens, (joint_again joint other joined j, refl), (no_misfit part.tree part.ty reads.0 place h.1, (refl, refl))),
                      ),
                    ),
                    go.1,
                  ),
                )),
          )

  parts_of_chain : (joint other : Mark) (joined : ExprTrees → ExprTree) → Joint joint other joined → (n : ℕ) → ComparedAgain n → (s k : ℕ) (chain : Chain) (o : Operand) (ts rest : List Kind)
      → ChainRounds joint other joined n s k chain o ts rest → o.misfit ≡ None → Chained joint other joined n chain.parts o
  parts_of_chain joint other joined j n again s zero chain o ts rest took fine = last_part joint other joined j n again s chain o ts rest took fine
  parts_of_chain joint other joined j n again s (suc k) chain o ts rest (next, mid, took, more) fine =
      next_part joint other joined j n again s chain next o ts mid took (parts_of_chain joint other joined j n again s k next o mid rest more fine)

  row_head : (joint other : Mark) (joined : ExprTrees → ExprTree) → Joint joint other joined → (es : ExprTrees) → (is_compound (joined es) ≡ true) × (is_chain (joined es) ≡ true)
  row_head joint other joined of_and es = (refl, refl)
  row_head joint other joined of_or es = (refl, refl)

  row_tokens : (joint other : Mark) (joined : ExprTrees → ExprTree) → Joint joint other joined → (es : ExprTrees) (rest : List Kind) → expr_tokens (joined es) rest ≡ chain_tokens joint es rest
  row_tokens joint other joined of_and es rest = refl
  row_tokens joint other joined of_or es rest = refl

  in_expression : (joint other : Mark) (joined : ExprTrees → ExprTree) → Joint joint other joined → (g : Wanted → Grammar Operand) (wanted : Wanted) (first o : Operand) (ts mid rest : List Kind) → Took (comparison_of g wanted) first ts mid
      → Took (chain_of g joint other joined first (length mid)) o mid rest → Took (expression_of g wanted) o ts rest
  in_expression joint other joined of_and g wanted first o ts mid rest took chain = (first, mid, took, inl chain)
  in_expression joint other joined of_or g wanted first o ts mid rest took chain = (first, mid, took, inr (inl chain))

  no_chain : (e : ExprTree) → is_chain e ≡ true → is_chain e ≡ false → ⊥
  no_chain e h k = (let f : true ≡ false = sym h ∙ k in let x : ⊥ = cc in x)

  no_compound : (e : ExprTree) → is_compound e ≡ true → is_compound e ≡ false → ⊥
  no_compound e h k = (let f : true ≡ false = sym h ∙ k in let x : ⊥ = cc in x)

  pub row_again : (joint other : Mark) (joined : ExprTrees → ExprTree) → Joint joint other joined → (n : ℕ) (first : Operand) (o : Operand) → same_type first.ty Truth ≡ true → Joined n first.tree first.ty
      → Chained joint other joined n (first.tree ∷ []) o → Expressed names scope n o.tree o.ty
  row_again joint other joined j n first o truth joins (e, es, tree, ty, spells) =
      subst (λ t. Expressed names scope n t o.ty) (sym tree) (subst (λ t. Expressed names scope n all t) (sym ty) spelt)
    where
      all : ExprTree
      all = joined (exprs (first.tree ∷ e ∷ es))

      reads_all : (m : ℕ) → Within n m → (s : ℕ) (wanted : Wanted) → Wants wanted Truth → (rest : List Kind) → Unjoined rest → Took (expression_form (at names scope s) m wanted) (sound all Truth false) (chain_tokens joint (exprs (first.tree ∷ e ∷ es)) rest) rest
      reads_all m w s wanted wants rest free =
          (let one = joins.1 m w in
          let rest_tokens : List Kind = chain_tokens joint (exprs (e ∷ es)) rest in
          in_expression joint other joined j (unary_form (at names scope s) m) wanted (sound first.tree first.ty one.0) (sound all Truth false) _ (kind.Mark joint ∷ rest_tokens) rest
          (one.1 s wanted (truth_wanted wanted first.ty truth wants) (kind.Mark joint ∷ rest_tokens))
          (tt, rest_tokens, (joint_again joint other joined j, refl), (so_again (same_type first.ty Truth) _ truth, spells m w s (length (kind.Mark joint ∷ rest_tokens)) rest free)))

      spelt : Expressed names scope n all Truth
      spelt m w = record {
        whole = (false, λ s wanted wants rest free. subst (λ ts. Took (expression_form (at names scope s) m wanted) (sound all Truth false) ts rest) (sym (row_tokens joint other joined j (exprs (first.tree ∷ e ∷ es)) rest)) (reads_all m w s wanted wants rest free));
        part = λ h. absurd (no_chain all (row_head joint other joined j (exprs (first.tree ∷ e ∷ es))).1 h);
        alone = λ h. absurd (no_compound all (row_head joint other joined j (exprs (first.tree ∷ e ∷ es))).0 h);
      }

  chain_again : (joint other : Mark) (joined : ExprTrees → ExprTree) → Joint joint other joined → (n : ℕ) → ComparedAgain n → (s : ℕ) (wanted : Wanted) (first o : Operand) (place : ℕ) (ts mid rest : List Kind)
      → Took (comparison_of (unary_form (at names scope s) n) wanted) first ts mid → Took (chain_of (unary_form (at names scope s) n) joint other joined first place) o mid rest → o.misfit ≡ None → Expressed names scope n o.tree o.ty
  chain_again joint other joined j n again s wanted first o place ts mid rest took (x, more, mark_, (fit, (k, parts))) fine =
      let h : (first.misfit ≡ None) × (same_type first.ty Truth ≡ true) = none_unfit first Truth place fit in
      row_again joint other joined j n first o h.1 (again s wanted first ts mid took h.0) (parts_of_chain joint other joined j n again s k (begun_with first place) o more rest parts fine)

  -- what is said as an expression, where all that stands alone is known
  pub expressed_again : (n : ℕ) → ((s : ℕ) (wanted : Wanted) (o : Operand) (ts rest : List Kind) → Took (unary_form (at names scope s) n wanted) o ts rest → Single n o.tree o.ty) → Again names scope n
  expressed_again n again s wanted o ts rest (first, mid, took, inl chain) fine = chain_again mark.And mark.Or conjunction of_and n (comparison_again n again) s wanted first o (length mid) ts mid rest took chain fine
  expressed_again n again s wanted o ts rest (first, mid, took, inr (inl chain)) fine = chain_again mark.Or mark.And disjunction of_or n (comparison_again n again) s wanted first o (length mid) ts mid rest took chain fine
  expressed_again n again s wanted o ts rest (first, mid, took, inr (inr (is, same))) fine =
      subst (λ x. Expressed names scope n x.tree x.ty) (sym is) (comparison_again n again s wanted first ts mid took (ap (λ x. x.misfit) (sym is) ∙ fine)).0
