-- Where a reader stops no text of the form goes on.
use Rattle.std.proofs.Common.{◌≡◌, ℕ, suc, ◌+◌, ◌-◌, ◌<◌, ◌≤◌, ◌⊎◌, inl, inr, List, [], ◌∷◌, ◌++◌, length, take, drop, min, Result, Ok, Err, refl, sym, ap, ◌∙◌, subst, arith, append_assoc, append-nil, length-append, take-append-drop, lit≤, lit<}
use Rattle.std.specs.Net.Grammar.{IsGroup}
use Rattle.std.proofs.lemmas.Bool.{cases_lt}
use Rattle.std.proofs.lemmas.List.{take-take}
use Rattle.ixp_num.specs.Forms.{Form, End, Mark, Decimal, Hex, Either, IsDigit, IsDecimal, Said, bounded, Spelt, IsOf, Begins, StopsAt}
use Rattle.ixp_num.specs.Reading.{◌>>=◌, cap, group_at, number_at, mark_at, farther, read}
use Rattle.ixp_num.proofs.Groups.{IsHexByte, ClosedHex, Grouped, group_again, group_split, group_missing, group_begins}
use Rattle.ixp_num.proofs.Digits.{pair, Ends, same_head, Closed, number_again, Numbered, number_split, number_missing, decimal_begins, mark_again, mark_split, mark_missing}
use Rattle.ixp_num.proofs.FormLaws.{Parted, NeverBegins, ends_from, result_cases, decimal_read, hex_read, grouping, read_again, going}

-- `left` bytes are left behind the longest front with which a text of L begins
pub record Stuck (L : List ℕ → Type 0) (t : List ℕ) (left : ℕ) : Type 0 where
  pub front : List ℕ
  pub rest : List ℕ
  pub parts : t ≡ front ++ rest
  pub left_is : left ≡ length rest
  pub begins : Begins L front
  pub no_more : (c : ℕ) (y more : List ℕ) → rest ≡ c ∷ y → ¬ (L (front ++ c ∷ more))

take_front : (front rest : List ℕ) → take (length front) (front ++ rest) ≡ front
take_front [] rest = refl
take_front (c ∷ cs) rest = ap (λ x. c ∷ x) (take_front cs rest)

take_one_more : (front rest : List ℕ) (c : ℕ) → take (suc (length front)) (front ++ c ∷ rest) ≡ front ++ c ∷ []
take_one_more [] rest c = refl
take_one_more (d ∷ ds) rest c = ap (λ x. d ∷ x) (take_one_more ds rest c)

stops_step : (L : List ℕ → Type 0) (t : List ℕ) (left : ℕ) (s : Stuck L t left) (rest : List ℕ) → s.rest ≡ rest → length t - left < length t → ¬ (Begins L (take (length t - left + 1) t))
stops_step L t left s [] none below begun =
    let size : length t ≡ length s.front + length s.rest = ap length s.parts ∙ length-append s.front s.rest in
    let empty : length s.rest ≡ 0 = ap length none in
    let same = s.left_is in
    omega arith
stops_step L t left s (c ∷ y) there below begun =
    let size : length t ≡ length s.front + length s.rest = ap length s.parts ∙ length-append s.front s.rest in
    let same = s.left_is in
    let place : length t - left + 1 ≡ suc (length s.front) = omega arith in
    let whole : t ≡ s.front ++ c ∷ y = s.parts ∙ ap (λ r. s.front ++ r) there in
    let front : take (length t - left + 1) t ≡ s.front ++ c ∷ [] = ap (λ n. take n t) place ∙ ap (take (suc (length s.front))) whole ∙ take_one_more s.front y c in
    let again : L ((s.front ++ c ∷ []) ++ begun.0) = subst (λ x. L (x ++ begun.0)) front begun.1 in
    s.no_more c y begun.0 there (subst L (append_assoc s.front (c ∷ []) begun.0) again)

pub stops_at : (L : List ℕ → Type 0) (t : List ℕ) (left : ℕ) → Stuck L t left → ¬ (L t) → StopsAt L t (length t - left)
stops_at L t left s not =
    let size : length t ≡ length s.front + length s.rest = ap length s.parts ∙ length-append s.front s.rest in
    let same = s.left_is in
    let place : length t - left ≡ length s.front = omega arith in
    let front : take (length t - left) t ≡ s.front = ap (λ n. take n t) place ∙ ap (take (length s.front)) s.parts ∙ take_front s.front s.rest in
    record {
      within = omega arith;
      begins = subst (Begins L) (sym front) s.begins;
      no_more = stops_step L t left s s.rest refl;
      not_in = not;
    }

-- a text that begins so begins with less of it
begins_less : (L : List ℕ → Type 0) (t : List ℕ) (k n : ℕ) → k ≤ n → Begins L (take n t) → Begins L (take k t)
begins_less L t k n le begun =
    let front : take k (take n t) ≡ take k t = take-take k n t le in
    let whole : take k t ++ drop k (take n t) ≡ take n t = ap (λ x. x ++ drop k (take n t)) (sym front) ∙ take-append-drop k (take n t) in
    let joined : take n t ++ begun.0 ≡ take k t ++ (drop k (take n t) ++ begun.0) = ap (λ x. x ++ begun.0) (sym whole) ∙ append_assoc (take k t) (drop k (take n t)) begun.0 in
    (drop k (take n t) ++ begun.0, subst L joined begun.1)

not_below : (L : List ℕ → Type 0) (t : List ℕ) (p q : ℕ) → StopsAt L t p → StopsAt L t q → ¬ (p < q)
not_below L t p q x y less =
    let more : p + 1 ≤ q = omega arith in
    let inside : p < length t = let bound = y.within in omega arith in
    x.no_more inside (begins_less L t (p + 1) q more y.begins)

-- at most one place fits
pub one_place : (L : List ℕ → Type 0) (t : List ℕ) (p q : ℕ) → StopsAt L t p → StopsAt L t q → p ≡ q
one_place L t p q x y =
    let below = not_below L t p q x y in
    let above = not_below L t q p y x in
    omega arith

-- each form has a text
pub some_text : (form : Form) → (t : List ℕ) × IsOf form t
some_text (End ns) = ([], (Ok ns, (refl, refl)))
some_text (Mark b form) = let x = some_text form in (b ∷ x.0, (x.1.0, (x.0, refl, x.1.1)))
some_text (Decimal bound form) =
    let x = some_text (form (min 0 bound)) in
    (48 ∷ x.0, (bounded bound 0 (length (48 ∷ x.0)) x.1.0, (48 ∷ [], x.0, 0, x.1.0, refl, ((lit≤ tt, lit≤ tt), (λ e. refl), tt, refl), x.1.1, refl)))
some_text (Hex form) =
    let x = some_text (form 0) in
    (48 ∷ x.0, (x.1.0, (48 ∷ [], x.0, 0, refl, (((lit< tt, (lit< tt, tt)), refl), lit≤ tt), x.1.1)))
some_text (Either one other) = let x = some_text one in (x.0, (x.1.0, inl x.1.1))

-- of two ways to part a text, the one with the longer front
prefix_of : (front rest short long : List ℕ) → front ++ rest ≡ short ++ long → length rest ≤ length long → (z : List ℕ) × (front ≡ short ++ z) × (long ≡ z ++ rest)
prefix_of front rest [] long e le = (front, refl, sym e)
prefix_of [] rest (d ∷ ds) long e le =
    let size : length rest ≡ suc (length ds + length long) = ap length e ∙ ap suc (length-append ds long) in
    absurd (omega arith)
prefix_of (c ∷ cs) rest (d ∷ ds) long e le =
    let below : cs ++ rest ≡ ds ++ long = cc in
    let head : c ≡ d = cc in
    let (z, fronts, rests) = prefix_of cs rest ds long below le in
    (z, ap (λ x. c ∷ x) fronts ∙ ap (λ x. x ∷ (ds ++ z)) head, rests)

-- where two languages stop, the farther place is that of both together
union_farther : (L M K : List ℕ → Type 0) (t : List ℕ) (l m : ℕ) → ((x : List ℕ) → L x → K x) → ((x : List ℕ) → K x → L x ⊎ M x) → l ≤ m → Stuck L t l → Stuck M t m → Stuck K t l
union_farther L M K t l m into out le x y =
    let same = x.left_is in
    let other = y.left_is in
    let sizes : length x.rest ≤ length y.rest = omega arith in
    let between = prefix_of x.front x.rest y.front y.rest (sym x.parts ∙ y.parts) sizes in
    record {
      front = x.front;
      rest = x.rest;
      parts = x.parts;
      left_is = x.left_is;
      begins = (x.begins.0, into (x.front ++ x.begins.0) x.begins.1);
      no_more = λ c z more there k.
          elim (out (x.front ++ c ∷ more) k) [
            | inl in_one ↦ x.no_more c z more there in_one
            | inr in_other ↦ other_ends M t m y c z more x.rest x.front between.0 there between.1 between.2 in_other
          ];
    }
  where
    other_ends : (M : List ℕ → Type 0) (t : List ℕ) (m : ℕ) (y : Stuck M t m) (c : ℕ) (z more rest front gap : List ℕ) → rest ≡ c ∷ z → front ≡ y.front ++ gap → y.rest ≡ gap ++ rest → ¬ (M (front ++ c ∷ more))
    other_ends M t m y c z more rest front [] there fronts rests in_other =
        y.no_more c z more (rests ∙ there) (subst (λ f. M (f ++ c ∷ more)) (fronts ∙ append-nil y.front) in_other)
    other_ends M t m y c z more rest front (d ∷ ds) there fronts rests in_other =
        y.no_more d (ds ++ rest) (ds ++ c ∷ more) rests (subst M (ap (λ f. f ++ c ∷ more) fronts ∙ append_assoc y.front (d ∷ ds) (c ∷ more)) in_other)

pub union_stuck : (L M K : List ℕ → Type 0) (t : List ℕ) (l m : ℕ) → ((x : List ℕ) → L x → K x) → ((x : List ℕ) → M x → K x) → ((x : List ℕ) → K x → L x ⊎ M x) → Stuck L t l → Stuck M t m → Stuck K t (min l m)
union_stuck L M K t l m one other out x y =
    elim (cases_lt l m) [
      | inl less ↦ (let e : l ≡ min l m = omega arith in subst (Stuck K t) e (union_farther L M K t l m one out (omega arith) x y))
      | inr le ↦ (let e : m ≡ min l m = omega arith in subst (Stuck K t) e (union_farther M L K t m l other (λ v k. elim (out v k) [ inl a ↦ inr a | inr a ↦ inl a ]) le y x))
    ]

-- no text of the form begins with the byte at hand
stuck_here : (form : Form) (t : List ℕ) → ((c : ℕ) (y more : List ℕ) → t ≡ c ∷ y → ¬ (IsOf form (c ∷ more))) → Stuck (IsOf form) t (length t)
stuck_here form t no_more = record {
  front = [];
  rest = t;
  parts = refl;
  left_is = refl;
  begins = some_text form;
  no_more = no_more;
}

ends_here : (P : ℕ → Type 0) (t : List ℕ) (c : ℕ) (y : List ℕ) → Ends P t → t ≡ c ∷ y → ¬ (P c)
ends_here P [] c y ends e p = absurd cc
ends_here P (d ∷ ds) c y ends e p = let same : c ≡ d = cc in ends (subst P same p)

mark_stuck : (b : ℕ) (form : Form) (t : List ℕ) (left : ℕ) → ((rest : List ℕ) → read form rest ≡ Err left → Stuck (IsOf form) rest left) → ((rest : List ℕ) × (t ≡ b ∷ rest)) ⊎ Ends (λ c. c ≡ b) t → read (Mark b form) t ≡ Err left → Stuck (IsOf (Mark b form)) t left
mark_stuck b form t left below (inl (rest, e)) reads =
    let there : mark_at b t ≡ Ok rest = ap (mark_at b) e ∙ mark_again b rest in
    let s = below rest (ap (λ x. x >>= read form) (sym there) ∙ reads) in
    record {
      front = b ∷ s.front;
      rest = s.rest;
      parts = e ∙ ap (λ x. b ∷ x) s.parts;
      left_is = s.left_is;
      begins = (s.begins.0, (s.begins.1.0, (s.front ++ s.begins.0, refl, s.begins.1.1)));
      no_more = λ c y more there is_of.
          let same : is_of.1.0 ≡ s.front ++ c ∷ more = cc (is_of.1.1) in
          s.no_more c y more there (is_of.0, subst (Spelt form is_of.0) same is_of.1.2);
    }
mark_stuck b form t left below (inr ends) reads =
    let stops : Err (length t) ≡ Err left = ap (λ x. x >>= read form) (sym (mark_missing b t ends)) ∙ reads in
    let same : length t ≡ left = cc in
    subst (Stuck (IsOf (Mark b form)) t) same (stuck_here (Mark b form) t (λ c y more e is_of. ends_here (λ x. x ≡ b) t c y ends e (cc (is_of.1.1))))

bound_stuck : (bound n left l : ℕ) (r : Result Said ℕ) → ((after : Said) × (r ≡ Ok after)) ⊎ ((m : ℕ) × (r ≡ Err m)) → (r >>= λ after. Ok (bounded bound n left after)) ≡ Err l → r ≡ Err l
bound_stuck bound n left l r (inl (after, e)) h =
    let wrong : Ok (bounded bound n left after) ≡ Err l = ap (λ x. x >>= λ a. Ok (bounded bound n left a)) (sym e) ∙ h in
    absurd cc
bound_stuck bound n left l r (inr (m, e)) h = e ∙ (ap (λ x. x >>= λ a. Ok (bounded bound n left a)) (sym e) ∙ h)

closed_on : (front rest more_front : List ℕ) (c : ℕ) (y more : List ℕ) → rest ≡ more_front ++ c ∷ y → Closed front rest → Closed front (more_front ++ c ∷ more)
closed_on front rest more_front c y more e (inl zero) = inl zero
closed_on front rest more_front c y more e (inr ends) = inr (same_head IsDigit more_front c y more (subst (Ends IsDigit) e ends))

-- behind the same number stands the same
number_same : (front rest other rest' : List ℕ) (n m bound : ℕ) → bound < cap → front ++ rest ≡ other ++ rest' → IsDecimal front n → Closed front rest → IsDecimal other m → Ends IsDigit rest' → (rest' ≡ rest) × (min m bound ≡ min n bound)
number_same front rest other rest' n m bound low e spelt closed spelt' ends =
    let same : ◌≡◌ {A = Result (ℕ × List ℕ) ℕ} (Ok (pair (min cap m) rest')) (Ok (pair (min cap n) rest)) = sym (number_again other rest' m spelt' (inr ends)) ∙ (ap number_at (sym e) ∙ number_again front rest n spelt closed) in
    let parts : pair (min cap m) rest' ≡ pair (min cap n) rest = cc in
    let number : min cap m ≡ min cap n = ap (λ p. p.0) parts in
    (ap (λ p. p.1) parts, omega arith)

decimal_stuck : (bound : ℕ) (form : ℕ → Form) (t : List ℕ) (left : ℕ) → bound < cap → ((n : ℕ) → NeverBegins IsDigit (form n)) → ((n : ℕ) (rest : List ℕ) → read (form n) rest ≡ Err left → Stuck (IsOf (form n)) rest left) → Numbered t ⊎ Ends IsDigit t → read (Decimal bound form) t ≡ Err left → Stuck (IsOf (Decimal bound form)) t left
decimal_stuck bound form t left low never below (inl x) reads =
    let after = read (form (min x.n bound)) x.rest in
    let stops : after ≡ Err left = bound_stuck bound x.n (length t) left after (result_cases after) (sym (decimal_read bound form t low x) ∙ reads) in
    let s = below (min x.n bound) x.rest stops in
    record {
      front = x.front ++ s.front;
      rest = s.rest;
      parts = x.parts ∙ (ap (λ r. x.front ++ r) s.parts ∙ sym (append_assoc x.front s.front s.rest));
      left_is = s.left_is;
      begins = (s.begins.0, (bounded bound x.n (length ((x.front ++ s.front) ++ s.begins.0)) s.begins.1.0, (x.front, s.front ++ s.begins.0, x.n, s.begins.1.0, append_assoc x.front s.front s.begins.0, x.spelt, s.begins.1.1, refl)));
      no_more = λ c y more there is_of. number_ends x s c y more there is_of.0 is_of.1;
    }
  where
    number_ends : (x : Numbered t) (s : Stuck (IsOf (form (min x.n bound))) x.rest left) (c : ℕ) (y more : List ℕ) → s.rest ≡ c ∷ y → (said : Said) → Spelt (Decimal bound form) said ((x.front ++ s.front) ++ c ∷ more) → ⊥
    number_ends x s c y more there said (front, rest, n, after, e, number, spelt, says) =
        let joined : x.front ++ (s.front ++ c ∷ more) ≡ front ++ rest = sym (append_assoc x.front s.front (c ∷ more)) ∙ e in
        let closed = closed_on x.front x.rest s.front c y more (s.parts ∙ ap (λ r. s.front ++ r) there) x.closed in
        let ends = ends_from IsDigit (form (min n bound)) rest (never (min n bound)) (after, spelt) in
        let same = number_same x.front (s.front ++ c ∷ more) front rest x.n n bound low joined x.spelt closed number ends in
        s.no_more c y more there (after, subst (Spelt (form (min x.n bound)) after) same.0 (subst (λ m. Spelt (form m) after rest) same.1 spelt))
decimal_stuck bound form t left low never below (inr ends) reads =
    let stops : Err (length t) ≡ Err left = ap (λ r. r >>= going bound form t) (sym (number_missing t ends)) ∙ reads in
    let same : length t ≡ left = cc in
    subst (Stuck (IsOf (Decimal bound form)) t) same (stuck_here (Decimal bound form) t (λ c y more e is_of. decimal_begins is_of.1.0 is_of.1.1 is_of.1.2 is_of.1.5 (subst (Ends IsDigit) is_of.1.4 (ends_here IsDigit t c y ends e))))

hex_closed_on : (front rest more_front : List ℕ) (c : ℕ) (y more : List ℕ) → rest ≡ more_front ++ c ∷ y → ClosedHex front rest → ClosedHex front (more_front ++ c ∷ more)
hex_closed_on front rest more_front c y more e (inl full) = inl full
hex_closed_on front rest more_front c y more e (inr ends) = inr (same_head IsHexByte more_front c y more (subst (Ends IsHexByte) e ends))

-- behind the same group stands the same
group_same : (front rest other rest' : List ℕ) (n m : ℕ) → front ++ rest ≡ other ++ rest' → IsGroup front n → ClosedHex front rest → IsGroup other m → Ends IsHexByte rest' → (rest' ≡ rest) × (m ≡ n)
group_same front rest other rest' n m e spelt closed spelt' ends =
    let same : ◌≡◌ {A = Result (ℕ × List ℕ) ℕ} (Ok (pair m rest')) (Ok (pair n rest)) = sym (group_again other rest' m spelt' (inr ends)) ∙ (ap group_at (sym e) ∙ group_again front rest n spelt closed) in
    let parts : pair m rest' ≡ pair n rest = cc in
    (ap (λ p. p.1) parts, ap (λ p. p.0) parts)

hex_stuck : (form : ℕ → Form) (t : List ℕ) (left : ℕ) → ((n : ℕ) → NeverBegins IsHexByte (form n)) → ((n : ℕ) (rest : List ℕ) → read (form n) rest ≡ Err left → Stuck (IsOf (form n)) rest left) → Grouped t ⊎ Ends IsHexByte t → read (Hex form) t ≡ Err left → Stuck (IsOf (Hex form)) t left
hex_stuck form t left never below (inl x) reads =
    let s = below x.n x.rest (sym (hex_read form t x) ∙ reads) in
    record {
      front = x.front ++ s.front;
      rest = s.rest;
      parts = x.parts ∙ (ap (λ r. x.front ++ r) s.parts ∙ sym (append_assoc x.front s.front s.rest));
      left_is = s.left_is;
      begins = (s.begins.0, (s.begins.1.0, (x.front, s.front ++ s.begins.0, x.n, append_assoc x.front s.front s.begins.0, x.spelt, s.begins.1.1)));
      no_more = λ c y more there is_of. group_ends x s c y more there is_of.0 is_of.1;
    }
  where
    group_ends : (x : Grouped t) (s : Stuck (IsOf (form x.n)) x.rest left) (c : ℕ) (y more : List ℕ) → s.rest ≡ c ∷ y → (said : Said) → Spelt (Hex form) said ((x.front ++ s.front) ++ c ∷ more) → ⊥
    group_ends x s c y more there said (front, rest, n, e, group, spelt) =
        let joined : x.front ++ (s.front ++ c ∷ more) ≡ front ++ rest = sym (append_assoc x.front s.front (c ∷ more)) ∙ e in
        let closed = hex_closed_on x.front x.rest s.front c y more (s.parts ∙ ap (λ r. s.front ++ r) there) x.closed in
        let ends = ends_from IsHexByte (form n) rest (never n) (said, spelt) in
        let same = group_same x.front (s.front ++ c ∷ more) front rest x.n n joined x.spelt closed group ends in
        s.no_more c y more there (said, subst (Spelt (form x.n) said) same.0 (subst (λ m. Spelt (form m) said rest) same.1 spelt))
hex_stuck form t left never below (inr ends) reads =
    let stops : Err (length t) ≡ Err left = ap (λ r. r >>= grouping form) (sym (group_missing t ends)) ∙ reads in
    let same : length t ≡ left = cc in
    subst (Stuck (IsOf (Hex form)) t) same (stuck_here (Hex form) t (λ c y more e is_of. group_begins is_of.1.0 is_of.1.1 is_of.1.2 is_of.1.4 (subst (Ends IsHexByte) is_of.1.3 (ends_here IsHexByte t c y ends e))))

either_stuck : (one other : Form) (t : List ℕ) (left : ℕ) → ((l : ℕ) → read one t ≡ Err l → Stuck (IsOf one) t l) → ((l : ℕ) → read other t ≡ Err l → Stuck (IsOf other) t l) → ((a : Said) × (read one t ≡ Ok a)) ⊎ ((l : ℕ) × (read one t ≡ Err l)) → ((a : Said) × (read other t ≡ Ok a)) ⊎ ((l : ℕ) × (read other t ≡ Err l)) → read (Either one other) t ≡ Err left → Stuck (IsOf (Either one other)) t left
either_stuck one other t left here there (inl (a, e)) y reads =
    let wrong : Ok a ≡ Err left = ap (λ r. farther r (read other t)) (sym e) ∙ reads in
    absurd cc
either_stuck one other t left here there (inr (l, e)) (inl (a, f)) reads =
    let wrong : Ok a ≡ Err left = ap (λ r. farther (Err l) r) (sym f) ∙ ap (λ r. farther r (read other t)) (sym e) ∙ reads in
    absurd cc
either_stuck one other t left here there (inr (l, e)) (inr (m, f)) reads =
    let stops : ◌≡◌ {A = Result Said ℕ} (Err (min l m)) (Err left) = ap (λ r. farther (Err l) r) (sym f) ∙ ap (λ r. farther r (read other t)) (sym e) ∙ reads in
    let same : min l m ≡ left = cc in
    subst (Stuck (IsOf (Either one other)) t) same
    (union_stuck (IsOf one) (IsOf other) (IsOf (Either one other)) t l m
    (λ x is_of. (is_of.0, inl is_of.1))
    (λ x is_of. (is_of.0, inr is_of.1))
    (λ x is_of. elim (is_of.1) [ inl spelt ↦ inl (is_of.0, spelt) | inr spelt ↦ inr (is_of.0, spelt) ])
    (here l e) (there m f))

end_stuck : (ns t : List ℕ) (left : ℕ) → read (End ns) t ≡ Err left → Stuck (IsOf (End ns)) t left
end_stuck ns [] left reads = let wrong : Ok (Ok ns) ≡ Err left = reads in absurd cc
end_stuck ns (d ∷ ds) left reads =
    let stops : ◌≡◌ {A = Result Said ℕ} (Err (suc (length ds))) (Err left) = reads in
    let same : suc (length ds) ≡ left = cc in
    subst (Stuck (IsOf (End ns)) (d ∷ ds)) same (stuck_here (End ns) (d ∷ ds) (λ c y more e is_of. absurd (cc (is_of.1.0))))

pub read_stuck : (form : Form) → Parted form → (left : ℕ) (t : List ℕ) → read form t ≡ Err left → Stuck (IsOf form) t left
read_stuck (End ns) parted left t reads = end_stuck ns t left reads
read_stuck (Mark b form) parted left t reads = mark_stuck b form t left (read_stuck form parted left) (mark_split b t) reads
read_stuck (Decimal bound form) parted left t reads =
    decimal_stuck bound form t left parted.0 (λ n. (parted.1 n).0) (λ n. read_stuck (form n) (parted.1 n).1 left) (number_split t) reads
read_stuck (Hex form) parted left t reads = hex_stuck form t left (λ n. (parted n).0) (λ n. read_stuck (form n) (parted n).1 left) (group_split t) reads
read_stuck (Either one other) parted left t reads =
    either_stuck one other t left (λ l. read_stuck one parted.1 l t) (λ l. read_stuck other parted.2 l t) (result_cases (read one t)) (result_cases (read other t)) reads

-- the place where the reader stops is that of the form
pub read_stops : (form : Form) → Parted form → (left : ℕ) (t : List ℕ) → read form t ≡ Err left → StopsAt (IsOf form) t (length t - left)
read_stops form parted left t reads =
    stops_at (IsOf form) t left (read_stuck form parted left t reads)
    (λ is_of. let wrong : Ok is_of.0 ≡ Err left = sym (read_again form parted is_of.0 t is_of.1) ∙ reads in absurd cc)
