-- A step of all bodies keeps how all ends.
use Rattle.std.specs.Prelude.{◌≡◌, ℕ, Bool, true, false, ◌==◌, List, [], ◌∷◌, Option, Some, None, if◌then◌else◌, refl}
use Rattle.std.proofs.Common.{sym, ◌∙◌, ap}
use Rattle.std.specs.Bool.{one_answer}
use Rattle.std.proofs.lemmas.Bool.Decides.{Decides-eqb}
use Rattle.ixp_lang.specs.declared.route.Route.{Route}
use Rattle.ixp_lang.specs.declared.value.Value.{Value}
use Rattle.ixp_lang.specs.declared.item.Ty.{Ty}
use Rattle.ixp_lang.specs.Faults.{Fault, no_filter}
use Rattle.ixp_lang.specs.Trees.{ExprTree, StmtTrees, ItemTree, router_id_item, table_item, define_item, function_item, filter_item, device_item, pipe_item, bgp_item}
use Rattle.ixp_lang.specs.Meaning.{Environment, End, falls, returns, accepts, rejects, fails, same_name, find_named, bind, function_of, known, means, body_of, for_value, given_or}
use Rattle.ixp_eval.specs.Machine.{Act, on, wants, calls, done, faulty, act}
use Rattle.ixp_eval.specs.Frames.{Body, Wait, define_of, with_value, looks_given, looks_defined, enters, next_of, fallen, returned, resumes, moves, at, step}
use Rattle.ixp_eval.specs.Outcomes.{act_out, body_out, wait_out, next_out, called_out}
use Rattle.ixp_eval.proofs.BodySteps.{if_by, act_law}

eq_swaps : (a b : ℕ) → (a == b) ≡ (b == a)
eq_swaps a b = one_answer (a == b) (b == a) (Decides-eqb a b) ((λ e. sym ((Decides-eqb b a).0 e)), (λ e. (Decides-eqb b a).1 (sym e)))

-- equality of names goes both ways
pub same_swaps : (m n : List ℕ) → same_name m n ≡ same_name n m
same_swaps [] [] = refl
same_swaps (a ∷ m) (b ∷ n) =
    ap (λ x. if x then same_name m n else false) (eq_swaps a b) ∙ ap (λ x. if b == a then x else false) (same_swaps m n)
same_swaps [] (b ∷ n) = refl
same_swaps (a ∷ m) [] = refl

module _ (env : Environment) where
  -- what the define of the name gives
  abbrev defined_out : Option (List ItemTree × ExprTree) → List ℕ → Route → End
  defined_out None n r = fails (no_filter n)
  defined_out (Some d) n r = means env (known env d.0) [] d.1 r returns

  abbrev function_out : Option (List ItemTree × List (Ty × List ℕ) × StmtTrees) → List ℕ → List Value → Route → End
  function_out None n vs r = fails (no_filter n)
  function_out (Some f) n vs r = body_of env (known env f.0) (bind f.1 vs) f.2 r

  defined_law : (is : List ItemTree) (n : List ℕ) (r : Route) → defined_out (define_of is n) n r ≡ (known env is).value n r
  defined_law [] n r = refl
  defined_law (define_item m e ∷ is) n r =
      if_by (λ d. defined_out d n r) (same_name m n) (Some (is, e)) (define_of is n) _ (defined_law is n r)
      ∙ ap (λ b. if b then means env (known env is) [] e r returns else (known env is).value n r) (same_swaps m n)
  defined_law (router_id_item a ∷ is) n r = defined_law is n r
  defined_law (table_item t m ∷ is) n r = defined_law is n r
  defined_law (function_item m qs ss ∷ is) n r = defined_law is n r
  defined_law (filter_item m ss ∷ is) n r = defined_law is n r
  defined_law (device_item m ∷ is) n r = defined_law is n r
  defined_law (pipe_item p ∷ is) n r = defined_law is n r
  defined_law (bgp_item b ∷ is) n r = defined_law is n r

  function_law : (is : List ItemTree) (n : List ℕ) (vs : List Value) (r : Route) → function_out (function_of is n) n vs r ≡ (known env is).call n vs r
  function_law [] n vs r = refl
  function_law (function_item m qs ss ∷ is) n vs r =
      if_by (λ f. function_out f n vs r) (same_name m n) (Some (is, qs, ss)) (function_of is n) _ (function_law is n vs r)
      ∙ ap (λ b. if b then body_of env (known env is) (bind qs vs) ss r else (known env is).call n vs r) (same_swaps m n)
  function_law (router_id_item a ∷ is) n vs r = function_law is n vs r
  function_law (table_item t m ∷ is) n vs r = function_law is n vs r
  function_law (define_item m e ∷ is) n vs r = function_law is n vs r
  function_law (filter_item m ss ∷ is) n vs r = function_law is n vs r
  function_law (device_item m ∷ is) n vs r = function_law is n vs r
  function_law (pipe_item p ∷ is) n vs r = function_law is n vs r
  function_law (bgp_item b ∷ is) n vs r = function_law is n vs r

  called_fails : (b : Bool) (n : List ℕ) (f : Fault) (with_v : Value → Route → End) (without : Route → End) → called_out b n (fails f) with_v without ≡ fails f
  called_fails true n f with_v without = refl
  called_fails false n f with_v without = refl

  called_accepts : (b : Bool) (n : List ℕ) (r : Route) (with_v : Value → Route → End) (without : Route → End) → called_out b n (accepts r) with_v without ≡ accepts r
  called_accepts true n r with_v without = refl
  called_accepts false n r with_v without = refl

  called_rejects : (b : Bool) (n : List ℕ) (with_v : Value → Route → End) (without : Route → End) → called_out b n rejects with_v without ≡ rejects
  called_rejects true n with_v without = refl
  called_rejects false n with_v without = refl

  -- a fault and a verdict end all
  pub fails_through : (ws : List Wait) (f : Fault) → wait_out env ws (fails f) ≡ fails f
  fails_through [] f = refl
  fails_through (w ∷ ws) f = ap (wait_out env ws) (called_fails w.wanted w.name f _ _) ∙ fails_through ws f

  accepts_through : (ws : List Wait) (r : Route) → wait_out env ws (accepts r) ≡ accepts r
  accepts_through [] r = refl
  accepts_through (w ∷ ws) r = ap (wait_out env ws) (called_accepts w.wanted w.name r _ _) ∙ accepts_through ws r

  rejects_through : (ws : List Wait) → wait_out env ws rejects ≡ rejects
  rejects_through [] = refl
  rejects_through (w ∷ ws) = ap (wait_out env ws) (called_rejects w.wanted w.name _ _) ∙ rejects_through ws

  fallen_law : (b : Bool) (n : List ℕ) (body : Body) (ws : List Wait) (r : Route) → next_out env (fallen b n body ws r)
      ≡ wait_out env ws (called_out b n (falls r) (λ v r. body_out env (with_value v body) r) (λ r. body_out env body r))
  fallen_law true n body ws r = sym (fails_through ws _)
  fallen_law false n body ws r = refl

  returned_law : (b : Bool) (n : List ℕ) (v : Value) (body : Body) (ws : List Wait) (r : Route) → next_out env (returned b v body ws r)
      ≡ wait_out env ws (called_out b n (returns v r) (λ v r. body_out env (with_value v body) r) (λ r. body_out env body r))
  returned_law true n v body ws r = refl
  returned_law false n v body ws r = refl

  resumes_law : (e : End) (ws : List Wait) → next_out env (resumes e ws) ≡ wait_out env ws e
  resumes_law (falls r) [] = refl
  resumes_law (falls r) (w ∷ ws) = fallen_law w.wanted w.name w.body ws r
  resumes_law (returns v r) [] = refl
  resumes_law (returns v r) (w ∷ ws) = returned_law w.wanted w.name v w.body ws r
  resumes_law (accepts r) ws = sym (accepts_through ws r)
  resumes_law rejects ws = sym (rejects_through ws)
  resumes_law (fails f) ws = sym (fails_through ws f)

  enters_law : (f : Option (List ItemTree × List (Ty × List ℕ) × StmtTrees)) (n : List ℕ) (w : Bool) (xs : List Value) (b : Body) (ws : List Wait) (r : Route) →
      next_out env (next_of (enters f n w xs b ws) r)
      ≡ wait_out env ws (called_out w n (function_out f n xs r) (λ v r. body_out env (with_value v b) r) (λ r. body_out env b r))
  enters_law None n w xs b ws r = sym (ap (wait_out env ws) (called_fails w n (no_filter n) _ _) ∙ fails_through ws (no_filter n))
  enters_law (Some f) n w xs b ws r = refl

  looks_defined_law : (d : Option (List ItemTree × ExprTree)) (n : List ℕ) (b : Body) (ws : List Wait) (r : Route) →
      next_out env (next_of (looks_defined d n b ws) r) ≡ wait_out env ws (for_value n (defined_out d n r) (λ v r. body_out env (with_value v b) r))
  looks_defined_law None n b ws r = sym (fails_through ws (no_filter n))
  looks_defined_law (Some d) n b ws r = refl

  looks_given_law : (g : Option Value) (n : List ℕ) (b : Body) (ws : List Wait) (r : Route) → next_out env (next_of (looks_given g n b ws) r)
      ≡ wait_out env ws (given_or g (λ v. body_out env (with_value v b) r) (for_value n ((known env b.before).value n r) (λ v r. body_out env (with_value v b) r)))
  looks_given_law (Some v) n b ws r = refl
  looks_given_law None n b ws r =
      looks_defined_law (define_of b.before n) n b ws r
      ∙ ap (λ e. wait_out env ws (for_value n e (λ v r. body_out env (with_value v b) r))) (defined_law b.before n r)

  moves_law : (a : Act) (b : Body) (ws : List Wait) → next_out env (moves a b ws) ≡ wait_out env ws (act_out env (known env b.before) b.params a)
  moves_law (on ts vs r) b ws = refl
  moves_law (wants n ts vs r) b ws = looks_given_law (find_named b.params n) n (at b ts vs) ws r
  moves_law (calls n w xs ts vs r) b ws =
      enters_law (function_of b.before n) n w xs (at b ts vs) ws r
      ∙ ap (λ e. wait_out env ws (called_out w n e (λ v r. body_out env (with_value v (at b ts vs)) r) (λ r. body_out env (at b ts vs) r))) (function_law b.before n xs r)
  moves_law (done e) b ws = resumes_law e ws
  moves_law (faulty f) b ws = sym (fails_through ws f)

  -- a step keeps how all ends
  pub step_law : (b : Body) (ws : List Wait) (r : Route) → next_out env (step env b ws r) ≡ wait_out env ws (body_out env b r)
  step_law b ws r = moves_law (act env b.tasks b.values r) b ws ∙ ap (wait_out env ws) (act_law env (known env b.before) b.params b.tasks b.values r)
