-- A walk asks ROA tables by name alone.
--
-- Each function of the meaning is the same path as its definition, with the parts that differ replaced by their own paths.
use Rattle.std.proofs.Common.{◌≡◌, ℕ, Bool, true, false, not, List, [], ◌∷◌, ◌++◌, reverse, Option, Some, None, Result, Ok, Err, if◌then◌else◌, refl}
use Rattle.ixp_num.specs.declared.addr.Addr.{Addr}
use Rattle.ixp_num.specs.declared.roa.Roa.{Roa}
use Rattle.ixp_lang.specs.declared.route.Route.{Route}
use Rattle.ixp_lang.specs.declared.route.Verdict.{Verdict}
use Rattle.ixp_lang.specs.declared.route.Verdict.TheVariants.{Accept, Reject}
use Rattle.ixp_lang.specs.declared.value.Value.{Value}
use Rattle.ixp_lang.specs.declared.value.Value.TheVariants as value
use Rattle.ixp_lang.specs.declared.item.Use.{Use}
use Rattle.ixp_lang.specs.declared.item.Use.TheVariants.{All, Nothing, Named}
use Rattle.ixp_lang.specs.declared.item.Pipe.{Pipe}
use Rattle.ixp_lang.specs.declared.item.Bgp.{Bgp}
use Rattle.ixp_lang.specs.Attributes.{compares, truth, number, has_label, checked, with_next_hop, prepended, with_pair, with_triple, without_pairs, without_triples}
use Rattle.ixp_lang.specs.Trees.{ExprTree, literal, named, attribute, call, roa_check, pair, triple, set_literal, negation, conjunction, disjunction, comparison, ExprTrees, exprs_end, exprs_more, StmtTree, block, if_then, case_of, return_value, accept, reject, call_statement, set_next_hop, prepend, add_pair, delete_pairs, add_triple, delete_triples, StmtTrees, stmts_end, stmts_more, ArmTrees, arms_end, arms_more, ItemTree, router_id_item, table_item, define_item, function_item, filter_item, device_item, pipe_item, bgp_item}
use Rattle.ixp_lang.specs.Meaning.{Environment, End, falls, returns, Known, Params, same_name, roas_named, bind, for_value, for_effect, value_named, pair_of, means, means_all, means_each, means_some, runs, runs_all, runs_arms, after, known, filter_of, filter_found, filter_end, must_end}
use Rattle.ixp_lang.specs.Walks.{◌>>=◌, bgp_sessions, pipes_of, session_named, pipe_from, pipe_between, kept, through, sent_out, from_pipe, into_pipe, sent_through, sent_to, in_primary, to_primary, in_table, brought, walk_from, walk}

module _ (from : Addr) (a b : List (List ℕ × List Roa)) (same : (n : List ℕ) → roas_named a n ≡ roas_named b n) where
  abbrev one : Environment
  one = record { from = from; roas = a }

  abbrev other : Environment
  other = record { from = from; roas = b }

  module _ (k l : Known) (p : k ≡ l) (ps : Params) where
    mutual
      means_same : (e : ExprTree) → means one k ps e ≡ means other l ps e
      means_same (literal v) = refl
      means_same (named n) = λ i r next. value_named (p i) ps n r next
      means_same (attribute x) = refl
      means_same (call n es) = λ i r next. all_same es i [] r (λ vs r. for_value n ((p i).call n vs r) next)
      means_same (roa_check t e f) = λ i r next. means_same e i r (λ v r. means_same f i r (λ w r. next (checked (same t i) v w) r))
      means_same (pair e f) = λ i r next. means_same e i r (λ v r. means_same f i r (λ w r. pair_of (number v) (number w) (λ x. next x r)))
      means_same (triple e f g) =
          λ i r next. means_same e i r (λ u r. means_same f i r (λ v r. means_same g i r (λ w r. next (value.Triple (number u) (number v) (number w)) r)))
      means_same (set_literal s) = refl
      means_same (negation e) = λ i r next. means_same e i r (λ v r. next (value.Bool (not (truth v))) r)
      means_same (conjunction es) = each_same es
      means_same (disjunction es) = some_same es
      means_same (comparison o e f) = λ i r next. means_same e i r (λ v r. means_same f i r (λ w r. next (value.Bool (compares o v w)) r))

      all_same : (es : ExprTrees) → means_all one k ps es ≡ means_all other l ps es
      all_same exprs_end = refl
      all_same (exprs_more e es) = λ i vs r next. means_same e i r (λ v r. all_same es i (vs ++ v ∷ []) r next)

      each_same : (es : ExprTrees) → means_each one k ps es ≡ means_each other l ps es
      each_same exprs_end = refl
      each_same (exprs_more e es) = λ i r next. means_same e i r (λ v r. if truth v then each_same es i r next else next (value.Bool false) r)

      some_same : (es : ExprTrees) → means_some one k ps es ≡ means_some other l ps es
      some_same exprs_end = refl
      some_same (exprs_more e es) = λ i r next. means_same e i r (λ v r. if truth v then next (value.Bool true) r else some_same es i r next)

    mutual
      run_same : (s : StmtTree) → runs one k ps s ≡ runs other l ps s
      run_same (block ss) = runs_same ss
      run_same (if_then e ss ts) = λ i r next. means_same e i r (λ v r. if truth v then runs_same ss i r next else runs_same ts i r next)
      run_same (case_of e arms ss) = λ i r next. means_same e i r (λ v r. arms_same arms i v r next (λ r. runs_same ss i r next))
      run_same (return_value e) = λ i r next. means_same e i r (λ v r. returns v r)
      run_same accept = refl
      run_same reject = refl
      run_same (call_statement n es) = λ i r next. all_same es i [] r (λ vs r. for_effect ((p i).call n vs r) next)
      run_same (set_next_hop e) = λ i r next. means_same e i r (λ v r. next (with_next_hop v r))
      run_same (prepend e) = λ i r next. means_same e i r (λ v r. next (prepended v r))
      run_same (add_pair e) = λ i r next. means_same e i r (λ v r. next (with_pair v r))
      run_same (delete_pairs e) = λ i r next. means_same e i r (λ v r. next (without_pairs v r))
      run_same (add_triple e) = λ i r next. means_same e i r (λ v r. next (with_triple v r))
      run_same (delete_triples e) = λ i r next. means_same e i r (λ v r. next (without_triples v r))

      runs_same : (ss : StmtTrees) → runs_all one k ps ss ≡ runs_all other l ps ss
      runs_same stmts_end = refl
      runs_same (stmts_more s ss) = λ i r next. run_same s i r (λ r. runs_same ss i r next)

      arms_same : (arms : ArmTrees) → runs_arms one k ps arms ≡ runs_arms other l ps arms
      arms_same arms_end = refl
      arms_same (arms_more ls ss arms) =
          λ i v r next more. if has_label ls v then runs_same ss i r next else arms_same arms i v r next more

  after_same : (k l : Known) → k ≡ l → (x : ItemTree) → after one x k ≡ after other x l
  after_same k l p (define_item n e) =
      λ i. record { value = λ m r. if same_name m n then means_same k l p [] e i r returns else (p i).value m r; call = (p i).call }
  after_same k l p (function_item n qs ss) =
      λ i. record { value = (p i).value; call = λ m vs r. if same_name m n then runs_same k l p (bind qs vs) ss i r falls else (p i).call m vs r }
  after_same k l p (router_id_item x) = p
  after_same k l p (table_item t n) = p
  after_same k l p (filter_item n ss) = p
  after_same k l p (device_item n) = p
  after_same k l p (pipe_item q) = p
  after_same k l p (bgp_item q) = p

  known_same : (is : List ItemTree) → known one is ≡ known other is
  known_same [] = refl
  known_same (x ∷ is) = after_same (known one is) (known other is) (known_same is) x

  found_same : (n : List ℕ) (o : Option (List ItemTree × StmtTrees)) → filter_found one n o ≡ filter_found other n o
  found_same n None = refl
  found_same n (Some f) = λ i r. must_end n (runs_same (known one f.0) (known other f.0) (known_same f.0) [] f.1 i r falls)

  filter_same : (is : List ItemTree) (n : List ℕ) → filter_end one is n ≡ filter_end other is n
  filter_same is n = found_same n (filter_of is n)

  module _ (items : List ItemTree) where
    through_same : (u : Use) → through one items u ≡ through other items u
    through_same All = refl
    through_same Nothing = refl
    through_same (Named n) = filter_same (reverse items) n

    from_pipe_same : (receiver : Bgp) (v : Verdict) → from_pipe one items receiver v ≡ from_pipe other items receiver v
    from_pipe_same receiver Reject = refl
    from_pipe_same receiver (Accept r) = λ i. through_same receiver.export i r >>= sent_out one items

    into_pipe_same : (receiver : Bgp) (o : Option Pipe) → into_pipe one items receiver o ≡ into_pipe other items receiver o
    into_pipe_same receiver None = refl
    into_pipe_same receiver (Some q) = λ i r. through_same q.export i r >>= (λ v. from_pipe_same receiver v i)

    received_same : (primary : List ℕ) (receiver : Bgp) → sent_through one items primary receiver ≡ sent_through other items primary receiver
    received_same primary receiver = into_pipe_same receiver (pipe_between (pipes_of items) primary receiver.table)

    sent_same : (sender primary : List ℕ) (bs : List Bgp) (r : Route) → sent_to one items sender primary bs r ≡ sent_to other items sender primary bs r
    sent_same sender primary [] r = refl
    sent_same sender primary (x ∷ bs) r =
        λ i. if same_name x.name sender then sent_same sender primary bs r i
        else (received_same primary x i r >>= λ y. sent_same sender primary bs r i >>= λ ys. Ok ((x.name, y) ∷ ys))

    in_primary_same : (sender : Bgp) (q : Pipe) (r : Route) (v : Verdict) → in_primary one items sender q r v ≡ in_primary other items sender q r v
    in_primary_same sender q r Reject = refl
    in_primary_same sender q r (Accept t) =
        λ i. sent_same sender.name q.table (bgp_sessions items) t i >>= λ xs. Ok (record { table = Some r; passed = true; sent = xs })

    to_primary_same : (sender : Bgp) (o : Option Pipe) (r : Route) → to_primary one items sender o r ≡ to_primary other items sender o r
    to_primary_same sender None r = refl
    to_primary_same sender (Some q) r = λ i. through_same q.import i r >>= (λ v. in_primary_same sender q r v i)

    in_table_same : (sender : Bgp) (v : Verdict) → in_table one items sender v ≡ in_table other items sender v
    in_table_same sender Reject = refl
    in_table_same sender (Accept r) = to_primary_same sender (pipe_from (pipes_of items) sender.table) r

    brought_same : (sender : Bgp) (r : Route) → brought one items sender r ≡ brought other items sender r
    brought_same sender r = λ i. through_same sender.import i r >>= (λ v. in_table_same sender v i)

walk_from_same :
    (items : List ItemTree) (a b : List (List ℕ × List Roa)) → ((n : List ℕ) → roas_named a n ≡ roas_named b n)
    → (session : List ℕ) (o : Option Bgp) (r : Route) → walk_from items a session o r ≡ walk_from items b session o r
walk_from_same items a b same session None r = refl
walk_from_same items a b same session (Some x) r = brought_same x.neighbor a b same items x r

pub walk_same :
    (items : List ItemTree) (a b : List (List ℕ × List Roa)) (session : List ℕ) (r : Route)
    → ((n : List ℕ) → roas_named a n ≡ roas_named b n) → walk items a session r ≡ walk items b session r
walk_same items a b session r same = walk_from_same items a b same session (session_named (bgp_sessions items) session) r
