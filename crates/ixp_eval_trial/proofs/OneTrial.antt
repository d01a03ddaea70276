-- No input has two answers.
use Rattle.std.proofs.Common.{◌≡◌, ◌≢◌, ◌+◌, inl, inr, ℕ, List, [], ◌∷◌, ◌++◌, codes, length, drop, get_or, Option, Some, None, Result, Ok, Err, refl, sym, ap, ◌∙◌, subst, arith}
use Rattle.ixp_num.specs.declared.prefix.Prefix.{Prefix}
use Rattle.ixp_num.specs.declared.asn.Asn.{Asn}
use Rattle.ixp_num.specs.declared.roa.Roa.{Roa}
use Rattle.ixp_num.specs.declared.fault.NumFault.{NumFault}
use Rattle.ixp_num.specs.Forms.{IsDecimal}
use Rattle.ixp_num.specs.Answers.{AsnAnswer, PrefixAnswer}
use Rattle.ixp_num.proofs.OneAnswer.{one_asn, one_prefix}
use Rattle.ixp_lang.specs.declared.route.Route.{Route}
use Rattle.ixp_lang.specs.declared.reading.fault.RouteFault.{RouteFault}
use Rattle.ixp_lang.specs.declared.reading.fault.RouteFault.TheVariants as why
use Rattle.ixp_lang.specs.RouteAnswers.{RouteAnswer}
use Rattle.ixp_lang.proofs.RouteAnswerLaws.{one_route}
use Rattle.ixp_eval_trial.specs.declared.fault.RouteCode.{RouteCode}
use Rattle.ixp_eval_trial.specs.declared.fault.RouteCode.TheVariants as code
use Rattle.ixp_eval_trial.specs.declared.fault.TrialFault.{TrialFault}
use Rattle.ixp_eval_trial.specs.declared.fault.TrialFault.TheVariants as fault
use Rattle.ixp_eval_trial.specs.declared.trial.Trial.{Trial}
use Rattle.ixp_eval_trial.specs.Lines.{lines, ended, divider, HasNoDivider, Divided, IsFilterText}
use Rattle.ixp_eval_trial.specs.Trials.{BeginsRoa, IsRoaLine, AreRoaLines, IsRouteLine, IsNoRouteText, IsNoRoute, Behind, following, LinesAnswer, TrialAnswer}
use Rattle.ixp_eval_trial.proofs.Cuts.{one_cut, not_marked}
use Rattle.ixp_eval_trial.proofs.Fields.{same_fields, whole_fields, name_free}

-- the parts of an input

pub one_parting : (t : List ℕ) (a a' b b' : List (List ℕ)) → Divided t a b → Divided t a' b' → (a ≡ a') × (b ≡ b')
one_parting t a a' b b' d d' = one_cut divider a a' b b' d.first d'.first (sym d.whole ∙ d'.whole)

pub never_both : (t : List ℕ) (a b : List (List ℕ)) → Divided t a b → ¬ (HasNoDivider (lines t))
never_both t a b d none = not_marked divider a b (subst HasNoDivider d.whole none)

pub one_text : (t x y : List ℕ) → IsFilterText t x → IsFilterText t y → x ≡ y
one_text t x y (inl (a, b, d, e)) (inl (a', b', d', e')) = e ∙ ap ended (one_parting t a a' b b' d d').0 ∙ sym e'
one_text t x y (inl (a, b, d, e)) (inr (none, e')) = absurd (never_both t a b d none)
one_text t x y (inr (none, e)) (inl (a, b, d, e')) = absurd (never_both t a b d none)
one_text t x y (inr (none, e)) (inr (none', e')) = e ∙ sym e'

-- a ROA's line says one ROA

pub decimal_one : (t : List ℕ) (m n : ℕ) → IsDecimal t m → IsDecimal t n → m ≡ n
decimal_one [] m n is is' = absurd is
decimal_one (c ∷ cs) m n is is' = is.3 ∙ sym is'.3

roa_same : (p q : Roa) → p.prefix ≡ q.prefix → p.max ≡ q.max → p.asn ≡ q.asn → p ≡ q
roa_same p q net max asn = λ i. record { prefix = net i; max = max i; asn = asn i }

one_roa : (l table table' : List ℕ) (roa roa' : Roa) → IsRoaLine l table roa → IsRoaLine l table' roa' → (table ≡ table') × (roa ≡ roa')
one_roa l table table' roa roa' x y =
    let same = same_fields (table ++ 32 ∷ (x.net ++ 32 ∷ (x.max ++ 32 ∷ x.asn))) table x.net x.max x.asn table' y.net y.max y.asn (whole_fields l _ table roa x refl) (whole_fields l _ table' roa' y (ap (drop 4) (sym x.whole ∙ y.whole))) in
    let nets : ◌≡◌ {A = Result Prefix NumFault} (Ok roa.prefix) (Ok roa'.prefix) = one_prefix x.net (Ok roa.prefix) (Ok roa'.prefix) x.is_net (subst (λ t. PrefixAnswer t (Ok roa'.prefix)) (sym same.1) y.is_net) in
    let asns : ◌≡◌ {A = Result Asn NumFault} (Ok roa.asn) (Ok roa'.asn) = one_asn x.asn (Ok roa.asn) (Ok roa'.asn) x.is_asn (subst (λ t. AsnAnswer t (Ok roa'.asn)) (sym same.3) y.is_asn) in
    let max = decimal_one x.max roa.max roa'.max x.is_max (subst (λ t. IsDecimal t roa'.max) (sym same.2) y.is_max) in
    (same.0, roa_same roa roa' (cc) max (cc))

-- where the lines of ROAs end

abbrev Stops : List (List ℕ) → Type 0
Stops [] = Unit {0}
Stops (l ∷ ls) = (table : List ℕ) (roa : Roa) → ¬ (IsRoaLine l table roa)

record SameFront (roas roas' : List (List ℕ × Roa)) (before before' rest rest' : List (List ℕ)) : Type 0 where
  pub fronts : before ≡ before'
  pub rows : roas ≡ roas'
  pub behind : rest ≡ rest'

same_front : (before before' rest rest' : List (List ℕ)) (roas roas' : List (List ℕ × Roa)) → AreRoaLines before roas → AreRoaLines before' roas' → Stops rest → Stops rest' → before ++ rest ≡ before' ++ rest' → SameFront roas roas' before before' rest rest'
same_front [] [] rest rest' [] [] are are' stops stops' e = record { fronts = refl; rows = refl; behind = e }
same_front [] [] rest rest' (r ∷ rs) roas' are are' stops stops' e = absurd are
same_front [] [] rest rest' [] (r ∷ rs) are are' stops stops' e = absurd are'
same_front [] (m ∷ ms) rest rest' roas [] are are' stops stops' e = absurd are'
same_front [] (m ∷ ms) rest rest' roas (r ∷ rs) are are' stops stops' e = absurd (subst Stops e stops r.0 r.1 are'.0)
same_front (l ∷ ls) [] rest rest' [] roas' are are' stops stops' e = absurd are
same_front (l ∷ ls) [] rest rest' (r ∷ rs) roas' are are' stops stops' e = absurd (subst Stops (sym e) stops' r.0 r.1 are.0)
same_front (l ∷ ls) (m ∷ ms) rest rest' [] roas' are are' stops stops' e = absurd are
same_front (l ∷ ls) (m ∷ ms) rest rest' (r ∷ rs) [] are are' stops stops' e = absurd are'
same_front (l ∷ ls) (m ∷ ms) rest rest' (r ∷ rs) (q ∷ qs) are are' stops stops' e =
    let head : l ≡ m = cc in
    let tail : ls ++ rest ≡ ms ++ rest' = cc in
    let same = same_front ls ms rest rest' rs qs are.1 are'.1 stops stops' tail in
    let one = one_roa l r.0 q.0 r.1 q.1 are.0 (subst (λ t. IsRoaLine t q.0 q.1) (sym head) are'.0) in
    record {
      fronts = ap (λ x. x ∷ ls) head ∙ ap (λ x. m ∷ x) same.fronts;
      rows = ap (λ x. (x, r.1) ∷ rs) one.0 ∙ ap (λ x. (q.0, x) ∷ rs) one.1 ∙ ap (λ x. q ∷ x) same.rows;
      behind = same.behind;
    }

record SamePlace (roas roas' : List (List ℕ × Roa)) (n n' : ℕ) (rest rest' : List (List ℕ)) : Type 0 where
  pub rows : roas ≡ roas'
  pub number : n ≡ n'
  pub behind : rest ≡ rest'

one_place : (ls rest rest' : List (List ℕ)) (first n n' : ℕ) (roas roas' : List (List ℕ × Roa)) → Behind ls first roas n rest → Behind ls first roas' n' rest' → Stops rest → Stops rest' → SamePlace roas roas' n n' rest rest'
one_place ls rest rest' first n n' roas roas' b b' stops stops' =
    let same = same_front b.before b'.before rest rest' roas roas' b.are_roas b'.are_roas stops stops' (sym b.whole ∙ b'.whole) in
    record { rows = same.rows; number = b.is_number ∙ ap (λ x. first + length x) same.fronts ∙ sym b'.is_number; behind = same.behind }

-- lines of the two kinds

apart : (line rest more : List ℕ) → line ≡ codes "roa " ++ rest → ¬ (line ≡ codes "route " ++ more)
apart line rest more e e' = let same : 97 ≡ 117 = ap (λ t. get_or t 2 0) (sym e ∙ e') in omega (arith, same)

route_begins : (line session text : List ℕ) → IsRouteLine line session text → ¬ (BeginsRoa line)
route_begins line session text is (rest, e) = apart line rest (session ++ 32 ∷ text) e is.0

route_stops : (line session text : List ℕ) (after : List (List ℕ)) → IsRouteLine line session text → Stops (line ∷ after)
route_stops line session text after is table roa roa_line = route_begins line session text is (table ++ 32 ∷ (roa_line.net ++ 32 ∷ (roa_line.max ++ 32 ∷ roa_line.asn)), roa_line.whole)

other_stops : (line : List ℕ) (after : List (List ℕ)) → ¬ (BeginsRoa line) → Stops (line ∷ after)
other_stops line after none table roa roa_line = none (table ++ 32 ∷ (roa_line.net ++ 32 ∷ (roa_line.max ++ 32 ∷ roa_line.asn)), roa_line.whole)

one_session : (line a b a' b' : List ℕ) → IsRouteLine line a b → IsRouteLine line a' b' → (a ≡ a') × (b ≡ b')
one_session line a b a' b' is is' = one_cut 32 a a' b b' (name_free a is.1) (name_free a' is'.1) (ap (drop 6) (sym is.0 ∙ is'.0))

-- why a line is no route's

abbrev code_of : RouteFault → Option RouteCode
code_of (why.Text at) = Some code.Text
code_of why.Family = Some code.Family
code_of (why.Set at) = Some code.Set
code_of (why.TooLong at) = Some code.TooLong
code_of why.NoMemory = None

-- the fault of a text, and its code
record Faulty (text : List ℕ) (c : RouteCode) : Type 0 where
  pub fault : RouteFault
  pub answers : RouteAnswer text (Err fault)
  pub code : code_of fault ≡ Some c

faulty : (text : List ℕ) (c : RouteCode) → IsNoRouteText text c → Faulty text c
faulty text code.Text (at, has) = record { fault = why.Text at; answers = has; code = refl }
faulty text code.Family has = record { fault = why.Family; answers = has; code = refl }
faulty text code.Set (at, has) = record { fault = why.Set at; answers = has; code = refl }
faulty text code.TooLong (at, has) = record { fault = why.TooLong at; answers = has; code = refl }

told : (f : RouteFault) (c : RouteCode) → code_of f ≡ Some c → ◌≢◌ {A = Result Route RouteFault} (Err f) (Err why.NoMemory)
told f c e same = let gone : f ≡ why.NoMemory = cc in let none : ◌≡◌ {A = Option RouteCode} (Some c) None = sym e ∙ ap code_of gone in cc

-- a text is refused for one reason
pub one_code : (text : List ℕ) (c c' : RouteCode) → IsNoRouteText text c → IsNoRouteText text c' → c ≡ c'
one_code text c c' is is' =
    let x = faulty text c is in
    let y = faulty text c' is' in
    let one : ◌≡◌ {A = Result Route RouteFault} (Err x.fault) (Err y.fault) = one_route text (Err x.fault) (Err y.fault) (told x.fault c x.code) (told y.fault c' y.code) x.answers y.answers in
    let faults : x.fault ≡ y.fault = cc in
    let codes_same : ◌≡◌ {A = Option RouteCode} (Some c) (Some c') = sym x.code ∙ ap code_of faults ∙ y.code in
    cc

-- and not read
pub no_code : (text : List ℕ) (r : Route) (c : RouteCode) → RouteAnswer text (Ok r) → ¬ (IsNoRouteText text c)
no_code text r c ok is =
    let x = faulty text c is in
    let one : ◌≡◌ {A = Result Route RouteFault} (Ok r) (Err x.fault) = one_route text (Ok r) (Err x.fault) (λ e. cc) (told x.fault c x.code) ok x.answers in
    cc

one_cause : (line : List ℕ) (c c' : RouteCode) → IsNoRoute line c → IsNoRoute line c' → c ≡ c'
one_cause line c c' (inl (none, e)) (inl (none', e')) = e ∙ sym e'
one_cause line c c' (inl (none, e)) (inr (session, text, is, has)) = absurd (none session text is)
one_cause line c c' (inr (session, text, is, has)) (inl (none, e)) = absurd (none session text is)
one_cause line c c' (inr (a, b, is, has)) (inr (a', b', is', has')) =
    one_code b c c' has (subst (λ t. IsNoRouteText t c') (sym (one_session line a b a' b' is is').1) has')

no_cause : (line session text : List ℕ) (r : Route) (c : RouteCode) → IsRouteLine line session text → RouteAnswer text (Ok r) → ¬ (IsNoRoute line c)
no_cause line session text r c is ok (inl (none, e)) = none session text is
no_cause line session text r c is ok (inr (a, b, is', has)) =
    no_code text r c ok (subst (λ t. IsNoRouteText t c) (sym (one_session line session text a b is is').1) has)

-- lines have one answer

trial_same : (t t' : Trial) → t.roas ≡ t'.roas → t.session ≡ t'.session → t.route ≡ t'.route → t.line ≡ t'.line → t.more ≡ t'.more → t ≡ t'
trial_same t t' roas session route line more = λ i. record { roas = roas i; session = session i; route = route i; line = line i; more = more i }

ok_same : (ls : List (List ℕ)) (first : ℕ) (t t' : Trial) → LinesAnswer ls first (Ok t) → LinesAnswer ls first (Ok t') → t ≡ t'
ok_same ls first t t' (line, text, after, b, is, ok, more) (line', text', after', b', is', ok', more') =
    let place = one_place ls (line ∷ after) (line' ∷ after') first t.line t'.line t.roas t'.roas b b' (route_stops line t.session text after is) (route_stops line' t'.session text' after' is') in
    let whole = place.behind in
    let head : line ≡ line' = cc in
    let tail : after ≡ after' = cc in
    let same = one_session line t.session text t'.session text' is (subst (λ l. IsRouteLine l t'.session text') (sym head) is') in
    let one : ◌≡◌ {A = Result Route RouteFault} (Ok t.route) (Ok t'.route) = one_route text (Ok t.route) (Ok t'.route) (λ e. cc) (λ e. cc) ok (subst (λ x. RouteAnswer x (Ok t'.route)) (sym same.1) ok') in
    let route : t.route ≡ t'.route = cc in
    trial_same t t' place.rows same.0 route place.number (more ∙ ap (λ n. following n after) place.number ∙ ap (following t'.line) tail ∙ sym more')

ok_no_line : (ls : List (List ℕ)) (first n : ℕ) (t : Trial) → LinesAnswer ls first (Ok t) → ¬ (LinesAnswer ls first (Err (fault.BadLine n)))
ok_no_line ls first n t (line, text, after, b, is, ok, more) (roas, line', after', b', begins, none) =
    let place = one_place ls (line ∷ after) (line' ∷ after') first t.line n t.roas roas b b' (route_stops line t.session text after is) none in
    let whole = place.behind in
    let head : line ≡ line' = cc in
    route_begins line t.session text is (subst BeginsRoa (sym head) begins)

ok_no_route : (ls : List (List ℕ)) (first n : ℕ) (c : RouteCode) (t : Trial) → LinesAnswer ls first (Ok t) → ¬ (LinesAnswer ls first (Err (fault.BadRoute n c)))
ok_no_route ls first n c t (line, text, after, b, is, ok, more) (inl (roas, line', after', b', none, why_not)) =
    let place = one_place ls (line ∷ after) (line' ∷ after') first t.line n t.roas roas b b' (route_stops line t.session text after is) (other_stops line' after' none) in
    let whole = place.behind in
    let head : line ≡ line' = cc in
    no_cause line t.session text t.route c is ok (subst (λ l. IsNoRoute l c) (sym head) why_not)
ok_no_route ls first n c t (line, text, after, b, is, ok, more) (inr (roas, b', e)) =
    let place = one_place ls (line ∷ after) [] first t.line n t.roas roas b b' (route_stops line t.session text after is) tt in
    let whole = place.behind in
    cc

line_same : (ls : List (List ℕ)) (first n n' : ℕ) → LinesAnswer ls first (Err (fault.BadLine n)) → LinesAnswer ls first (Err (fault.BadLine n')) → n ≡ n'
line_same ls first n n' (roas, line, after, b, begins, none) (roas', line', after', b', begins', none') =
    (one_place ls (line ∷ after) (line' ∷ after') first n n' roas roas' b b' none none').number

line_no_route : (ls : List (List ℕ)) (first n n' : ℕ) (c : RouteCode) → LinesAnswer ls first (Err (fault.BadLine n)) → ¬ (LinesAnswer ls first (Err (fault.BadRoute n' c)))
line_no_route ls first n n' c (roas, line, after, b, begins, none) (inl (roas', line', after', b', other, why_not)) =
    let place = one_place ls (line ∷ after) (line' ∷ after') first n n' roas roas' b b' none (other_stops line' after' other) in
    let whole = place.behind in
    let head : line ≡ line' = cc in
    other (subst BeginsRoa head begins)
line_no_route ls first n n' c (roas, line, after, b, begins, none) (inr (roas', b', e)) =
    let whole = (one_place ls (line ∷ after) [] first n n' roas roas' b b' none tt).behind in
    cc

route_same : (ls : List (List ℕ)) (first n n' : ℕ) (c c' : RouteCode) → LinesAnswer ls first (Err (fault.BadRoute n c)) → LinesAnswer ls first (Err (fault.BadRoute n' c')) → (n ≡ n') × (c ≡ c')
route_same ls first n n' c c' (inl (roas, line, after, b, other, why_not)) (inl (roas', line', after', b', other', why_not')) =
    let place = one_place ls (line ∷ after) (line' ∷ after') first n n' roas roas' b b' (other_stops line after other) (other_stops line' after' other') in
    let whole = place.behind in
    let head : line ≡ line' = cc in
    (place.number, one_cause line c c' why_not (subst (λ l. IsNoRoute l c') (sym head) why_not'))
route_same ls first n n' c c' (inl (roas, line, after, b, other, why_not)) (inr (roas', b', e)) =
    let whole = (one_place ls (line ∷ after) [] first n n' roas roas' b b' (other_stops line after other) tt).behind in
    absurd cc
route_same ls first n n' c c' (inr (roas, b, e)) (inl (roas', line', after', b', other', why_not')) =
    let whole = (one_place ls [] (line' ∷ after') first n n' roas roas' b b' tt (other_stops line' after' other')).behind in
    absurd cc
route_same ls first n n' c c' (inr (roas, b, e)) (inr (roas', b', e')) =
    ((one_place ls [] [] first n n' roas roas' b b' tt tt).number, e ∙ sym e')

one_of_lines : (ls : List (List ℕ)) (first : ℕ) (x y : Result Trial TrialFault) → x ≢ Err fault.NoMemory → y ≢ Err fault.NoMemory → LinesAnswer ls first x → LinesAnswer ls first y → x ≡ y
one_of_lines ls first (Ok t) (Ok t') some some' x y = ap Ok (ok_same ls first t t' x y)
one_of_lines ls first (Ok t) (Err (fault.BadLine n)) some some' x y = absurd (ok_no_line ls first n t x y)
one_of_lines ls first (Ok t) (Err (fault.BadRoute n c)) some some' x y = absurd (ok_no_route ls first n c t x y)
one_of_lines ls first (Ok t) (Err fault.NoMemory) some some' x y = absurd (some' refl)
one_of_lines ls first (Err (fault.BadLine n)) (Ok t) some some' x y = absurd (ok_no_line ls first n t y x)
one_of_lines ls first (Err (fault.BadLine n)) (Err (fault.BadLine n')) some some' x y = ap (λ m. Err (fault.BadLine m)) (line_same ls first n n' x y)
one_of_lines ls first (Err (fault.BadLine n)) (Err (fault.BadRoute n' c)) some some' x y = absurd (line_no_route ls first n n' c x y)
one_of_lines ls first (Err (fault.BadLine n)) (Err fault.NoMemory) some some' x y = absurd (some' refl)
one_of_lines ls first (Err (fault.BadRoute n c)) (Ok t) some some' x y = absurd (ok_no_route ls first n c t y x)
one_of_lines ls first (Err (fault.BadRoute n c)) (Err (fault.BadLine n')) some some' x y = absurd (line_no_route ls first n' n c y x)
one_of_lines ls first (Err (fault.BadRoute n c)) (Err (fault.BadRoute n' c')) some some' x y =
    let same = route_same ls first n n' c c' x y in
    ap (λ m. Err (fault.BadRoute m c)) same.0 ∙ ap (λ d. Err (fault.BadRoute n' d)) same.1
one_of_lines ls first (Err (fault.BadRoute n c)) (Err fault.NoMemory) some some' x y = absurd (some' refl)
one_of_lines ls first (Err fault.NoMemory) y some some' is is' = absurd (some refl)

pub one_trial : (t : List ℕ) (x y : Result Trial TrialFault) → x ≢ Err fault.NoMemory → y ≢ Err fault.NoMemory → TrialAnswer t x → TrialAnswer t y → x ≡ y
one_trial t x y some some' (inl (a, b, d, is)) (inl (a', b', d', is')) =
    let parts = one_parting t a a' b b' d d' in
    one_of_lines b (length a + 2) x y some some' is (subst (λ ls. LinesAnswer ls (length a + 2) y) (sym parts.1) (subst (λ ls. LinesAnswer b' (length ls + 2) y) (sym parts.0) is'))
one_trial t x y some some' (inl (a, b, d, is)) (inr (none, e)) = absurd (never_both t a b d none)
one_trial t x y some some' (inr (none, e)) (inl (a, b, d, is)) = absurd (never_both t a b d none)
one_trial t x y some some' (inr (none, e)) (inr (none', e')) = e ∙ sym e'
