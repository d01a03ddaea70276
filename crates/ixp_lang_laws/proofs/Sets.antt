-- Sets are spelt by their canonical tokens.
use Rattle.std.proofs.Common.{◌≡◌, ◌<◌, ◌⊎◌, ℕ, zero, suc, inl, inr, ◌≤◌, Bool, true, false, ◌&&◌, ◌||◌, ◌==◌, nat_le, nat_lt, List, [], ◌∷◌, ◌++◌, length, Option, Some, None, refl, sym, ap, ◌∙◌, subst, if◌then◌else◌, eqb-true, le-leb, arith}
use Rattle.std.proofs.lemmas.Bool.{and_parts, and_from, or_cases, leb-true, ltb-true}
use Rattle.ixp_num.specs.declared.addr.Addr.{Addr}
use Rattle.ixp_num.specs.declared.prefix.Prefix.{Prefix}
use Rattle.ixp_num.specs.declared.pattern.Pattern.{Pattern}
use Rattle.ixp_num.specs.Families.{bits_of}
use Rattle.ixp_lang_tokens.specs.declared.token.Kind.{Kind}
use Rattle.ixp_lang_tokens.specs.declared.token.Kind.TheVariants as kind
use Rattle.ixp_lang_tokens.specs.declared.token.Mark.TheVariants as mark
use Rattle.ixp_lang_tokens.specs.Grammars.{Grammar, sequence, Step, onward, done, Rounds, Took}
use Rattle.ixp_lang_tokens.specs.Pieces.{the_mark, an_addr}
use Rattle.ixp_lang_exprs.proofs.SetTuples.{SetTuple, of_two, of_three}
use Rattle.ixp_lang_exprs.specs.Lists.{only, listed}
use Rattle.ixp_lang_exprs.specs.declared.types.ValueType.{ValueType}
use Rattle.ixp_lang_exprs.specs.declared.types.ValueType.TheVariants.{IntSet, IpSet, PrefixSet}
use Rattle.ixp_lang.specs.declared.value.SetLit.{SetLit}
use Rattle.ixp_lang.specs.declared.value.SetLit.TheVariants as set
use Rattle.ixp_lang_exprs.specs.Names.{Names}
use Rattle.ixp_lang_exprs.specs.Sets.{range, set_pattern_form, pattern_end, made_pattern, bounds, bounded_length, too_great, part_too_great, tuple_form, arity_of, has_great_part, may_be_pair, may_be_triple, pairs_in, triples_in, pair_end, triple_end, tuples_set, elements}
use Rattle.ixp_lang_laws.specs.Canonical.{Before, number, sign, more_of, list_of, range_tokens, addr_tokens, pattern_tokens, part_tokens, pair_tokens, triple_tokens, elements_tokens}
use Rattle.ixp_lang_laws.proofs.Basics.{never_took, is_so, so_again}
use Rattle.ixp_lang_laws.proofs.Listed.{round, Each, Spells, listed_again}

-- Numbers and addresses.

range_as : (names : Names) (low high : ℕ) (b : Bool) → (low == high) ≡ b → (rest : List Kind)
    → Took (range names) (low, high) (if b then number low rest else number low (sign mark.Range (number high rest))) rest
range_as names low high true same rest = (low, rest, inl (refl, refl), inr (ap (λ n. (low, n)) (sym (eqb-true low high same)), refl))
range_as names low high false same rest = (low, _, inl (refl, refl), inl (tt, _, (refl, refl), (high, rest, inl (refl, refl), (refl, refl))))

pub range_again : (names : Names) (r : ℕ × ℕ) (rest : List Kind) → Took (range names) r (range_tokens r rest) rest
range_again names (low, high) rest = range_as names low high (low == high) refl rest

pub addr_again : (a : Addr) (rest : List Kind) → Took an_addr a (addr_tokens a rest) rest
addr_again a rest = (refl, refl)

-- Patterns.

abbrev Lawful : Pattern → Type 0
Lawful p = ((nat_le 0 p.low && nat_le p.low (bits_of p.prefix.family)) ≡ true) × ((nat_le p.low p.high && nat_le p.high (bits_of p.prefix.family)) ≡ true)

pub both_le : (a b c : ℕ) → a ≤ b → b ≤ c → (nat_le a b && nat_le b c) ≡ true
both_le a b c p q = and_from (nat_le a b) (nat_le b c) (le-leb a b p) (le-leb b c q)

bounded_is : (low high n : ℕ) (ts rest : List Kind) → Took (bounded_length low high) n ts rest → (nat_le low n && nat_le n high) ≡ true
bounded_is low high n ts rest (m, mid, took, (fit, (is, same))) = subst (λ x. (nat_le low x && nat_le x high) ≡ true) (sym is) (is_so (nat_le low m && nat_le m high) _ fit)

lawful_bounds : (prefix : Prefix) (p : Pattern) (ts rest : List Kind) → Took (bounds prefix) p ts rest → Lawful p
lawful_bounds prefix p ts rest (low, a, lows, (x, b, comma, (high, c, highs, (y, d, close, (is, same))))) =
    subst Lawful (sym is) (bounded_is 0 (bits_of prefix.family) low ts a lows, bounded_is low (bits_of prefix.family) high b c highs)

lawful : (prefix : Prefix) (p : Pattern) (ts rest : List Kind) → Took (pattern_end prefix) p ts rest → Lawful p
lawful prefix p ts rest (inl (x, mid, open_, took)) = lawful_bounds prefix p mid rest took
lawful prefix p ts rest (inr (inl (x, mid, plus, (is, same)))) =
    subst Lawful (sym is) (both_le 0 prefix.len (bits_of prefix.family) (let z : 0 ≤ prefix.len = omega arith in z) prefix.short, both_le prefix.len (bits_of prefix.family) (bits_of prefix.family) prefix.short (let z : bits_of prefix.family ≤ bits_of prefix.family = omega arith in z))
lawful prefix p ts rest (inr (inr (inl (x, mid, minus, (is, same))))) =
    subst Lawful (sym is) (both_le 0 0 (bits_of prefix.family) (let z : 0 ≤ 0 = omega arith in z) (let z : 0 ≤ bits_of prefix.family = omega arith in z), both_le 0 prefix.len (bits_of prefix.family) (let z : 0 ≤ prefix.len = omega arith in z) prefix.short)
lawful prefix p ts rest (inr (inr (inr (is, same)))) =
    subst Lawful (sym is) (both_le 0 prefix.len (bits_of prefix.family) (let z : 0 ≤ prefix.len = omega arith in z) prefix.short, both_le prefix.len prefix.len (bits_of prefix.family) (let z : prefix.len ≤ prefix.len = omega arith in z) prefix.short)

pub pattern_as : (p : Pattern) → Lawful p → (b : Bool) → (p.low == p.prefix.len && p.high == p.prefix.len) ≡ b → (rest : List Kind)
    → Took set_pattern_form p (kind.Prefix p.prefix ∷ (if b then rest else sign mark.BlockOpen (number p.low (sign mark.Comma (number p.high (sign mark.BlockClose rest)))))) rest
pattern_as p (lows, highs) true same rest =
    let h : ((p.low == p.prefix.len) ≡ true) × ((p.high == p.prefix.len) ≡ true) = and_parts (p.low == p.prefix.len) (p.high == p.prefix.len) same in
    let low : p.low ≡ p.prefix.len = eqb-true p.low p.prefix.len h.0 in
    let high : p.high ≡ p.prefix.len = eqb-true p.high p.prefix.len h.1 in
    (p.prefix, rest, (refl, refl), inr (inr (inr (ap (λ n. made_pattern p.prefix n p.high) low ∙ ap (λ n. made_pattern p.prefix p.prefix.len n) high, refl))))
pattern_as p (lows, highs) false same rest = (
  p.prefix,
  _,
  (refl, refl),
  inl (
    tt,
    _,
    (refl, refl),
    (
      p.low,
      _,
      (p.low, _, (refl, refl), (so_again _ _ lows, (refl, refl))),
      (
        tt,
        _,
        (refl, refl),
        (p.high, _, (p.high, _, (refl, refl), (so_again _ _ highs, (refl, refl))), (tt, _, (refl, refl), (refl, refl))),
      ),
    ),
  ),
)

pub pattern_again : (p : Pattern) (ts rest : List Kind) → Took set_pattern_form p ts rest → (others : List Kind) → Took set_pattern_form p (pattern_tokens p others) others
pattern_again p ts rest (prefix, mid, token, end) others = pattern_as p (lawful prefix p mid rest end) (p.low == p.prefix.len && p.high == p.prefix.len) refl others

-- Pairs and triples.

abbrev pub tuple_tokens : SetTuple → Before
tuple_tokens (of_two a b) rest = pair_tokens (a, b) rest
tuple_tokens (of_three a b c) rest = triple_tokens (a, b, c) rest

-- those before let it be of its kind
abbrev pub Alike : List SetTuple → SetTuple → Type 0
Alike before (of_two a b) = may_be_pair (arity_of before) ≡ true
Alike before (of_three a b c) = may_be_triple (arity_of before) ≡ true

small_part : (b : Option ℕ) (left other : ℕ) → part_too_great b left ≡ None → part_too_great b other ≡ None
small_part None left other e = refl
small_part (Some n) left other e = so_again _ _ (is_so _ _ e)

abbrev pub tuple_item : Names → Bool → List SetTuple → Grammar SetTuple
tuple_item names level items = tuple_form names level (arity_of items)

-- a tuple that is spelt by its tokens
abbrev TupleAgain : Names → List SetTuple → SetTuple → Type 0
TupleAgain names = Spells (tuple_item names true) (tuple_item names true) tuple_tokens Alike

star_end : (b : Bool) → b ≡ true → (a at at_b left : ℕ) → too_great a left ≡ None → (rest : List Kind)
    → Took (only b (sequence (the_mark mark.Star) (λ tt. pair_end a at None at_b))) (of_two a None) (sign mark.Star (sign mark.Close rest)) rest
star_end true h a at at_b left small rest = (tt, _, (refl, refl), (tt, _, (refl, refl), (so_again _ _ (is_so _ _ small), (refl, (refl, refl)))))
star_end false h a at at_b left small rest = absurd (let f : ⊥ = cc in f)

number_end : (b : Bool) → b ≡ true → (a n at at_b left left_b : ℕ) → too_great a left ≡ None → too_great n left_b ≡ None → (rest : List Kind)
    → Took (only b (pair_end a at (Some n) at_b)) (of_two a (Some n)) (sign mark.Close rest) rest
number_end true h a n at at_b left left_b small small_n rest = (tt, _, (refl, refl), (so_again _ _ (is_so _ _ small), (so_again _ _ (is_so _ _ small_n), (refl, refl))))
number_end false h a n at at_b left left_b small small_n rest = absurd (let f : ⊥ = cc in f)

third_end : (names : Names) (b : Bool) → b ≡ true → (a n : ℕ) (c : Option ℕ) (rest : List Kind)
    → Took (only b (sequence (the_mark mark.Comma) (λ tt. triple_end names a n))) (of_three a n c) (sign mark.Comma (part_tokens c (sign mark.Close rest))) rest
third_end names true h a n None rest = (tt, _, (refl, refl), inl (tt, _, (refl, refl), (tt, _, (refl, refl), (refl, refl))))
third_end names true h a n (Some c) rest = (tt, _, (refl, refl), inr (c, _, inl (refl, refl), (tt, _, (refl, refl), (refl, refl))))
third_end names false h a n c rest = absurd (let f : ⊥ = cc in f)

pub pair_spells : (names : Names) (before : List SetTuple) (a : ℕ) (b : Option ℕ) (left left_b : ℕ) → may_be_pair (arity_of before) ≡ true → too_great a left ≡ None → part_too_great b left_b ≡ None
    → TupleAgain names before (of_two a b)
pair_spells names before a None left left_b may small small_b =
    (may, λ rest. (tt, _, (refl, refl), (a, _, inl (refl, refl), (tt, _, (refl, refl), inl (star_end (may_be_pair (arity_of before)) may a _ 0 left small rest)))))
pair_spells names before a (Some n) left left_b may small small_b =
    (may, λ rest. (tt, _, (refl, refl), (a, _, inl (refl, refl), (tt, _, (refl, refl), inr (n, _, inl (refl, refl), inr (number_end (may_be_pair (arity_of before) || has_great_part a n) (ap (λ b. b || has_great_part a n) may) a n _ _ left left_b small small_b rest))))))

pub triple_spells : (names : Names) (before : List SetTuple) (a b : ℕ) (c : Option ℕ) → may_be_triple (arity_of before) ≡ true → TupleAgain names before (of_three a b c)
triple_spells names before a b c may =
    (may, λ rest. (tt, _, (refl, refl), (a, _, inl (refl, refl), (tt, _, (refl, refl), inr (b, _, inl (refl, refl), inl (third_end names (may_be_triple (arity_of before)) may a b c rest))))))

pair_again : (names : Names) (before : List SetTuple) (a : ℕ) (b : Option ℕ) (at at_b : ℕ) (x : SetTuple) (ts rest : List Kind) → may_be_pair (arity_of before) ≡ true → Took (pair_end a at b at_b) x ts rest
    → TupleAgain names before x
pair_again names before a b at at_b x ts rest may (y, mid, close, (small, (small_b, (is, same)))) =
    subst (λ t. TupleAgain names before t) (sym is) (pair_spells names before a b at at_b may small small_b)

starred_again : (names : Names) (before : List SetTuple) (b : Bool) → may_be_pair (arity_of before) ≡ b → (a at at_b : ℕ) (x : SetTuple) (ts rest : List Kind)
    → Took (only b (sequence (the_mark mark.Star) (λ tt. pair_end a at None at_b))) x ts rest → TupleAgain names before x
starred_again names before true h a at at_b x ts rest (y, mid, star, took) = pair_again names before a None at at_b x mid rest h took
starred_again names before false h a at at_b x ts rest never = absurd (never_took x ts rest never)

-- a part that fits a pair isn't too great for one
not_great : (a n : ℕ) (at at_b : ℕ) → too_great a at ≡ None → too_great n at_b ≡ None → has_great_part a n ≡ true → ⊥
not_great a n at at_b small small_n great = by (or_cases (nat_lt 65535 a) (nat_lt 65535 n) great) where
  fits : (m : ℕ) → nat_le m 65535 ≡ true → nat_lt 65535 m ≡ true → ⊥
  fits m small great = let low = leb-true m 65535 small in let high = ltb-true 65535 m great in omega arith

  by : (nat_lt 65535 a ≡ true) ⊎ (nat_lt 65535 n ≡ true) → ⊥
  by (inl great) = fits a (is_so _ _ small) great
  by (inr great) = fits n (is_so _ _ small_n) great

numbered_again : (names : Names) (before : List SetTuple) (b : Bool) → may_be_pair (arity_of before) ≡ b → (a n at at_b : ℕ) (g : Bool) → has_great_part a n ≡ g → (x : SetTuple) (ts rest : List Kind)
    → Took (only (b || g) (pair_end a at (Some n) at_b)) x ts rest → TupleAgain names before x
numbered_again names before true h a n at at_b g e x ts rest took = pair_again names before a (Some n) at at_b x ts rest h took
numbered_again names before false h a n at at_b true e x ts rest (y, mid, close, (small, (small_n, more))) = absurd (not_great a n at at_b small small_n e)
numbered_again names before false h a n at at_b false e x ts rest never = absurd (never_took x ts rest never)

triple_again : (names : Names) (before : List SetTuple) (b : Bool) → may_be_triple (arity_of before) ≡ b → (a n : ℕ) (x : SetTuple) (ts rest : List Kind)
    → Took (only b (sequence (the_mark mark.Comma) (λ tt. triple_end names a n))) x ts rest → TupleAgain names before x
triple_again names before true h a n x ts rest (y, mid, comma, inl (z, more, star, (u, last, close, (is, same)))) = subst (λ t. TupleAgain names before t) (sym is) (triple_spells names before a n None h)
triple_again names before true h a n x ts rest (y, mid, comma, inr (c, more, number_, (u, last, close, (is, same)))) = subst (λ t. TupleAgain names before t) (sym is) (triple_spells names before a n (Some c) h)
triple_again names before false h a n x ts rest never = absurd (never_took x ts rest never)

tuple_again : (names : Names) (level : Bool) (before : List SetTuple) (x : SetTuple) (ts rest : List Kind) → Took (tuple_item names level before) x ts rest → (level ≡ true) × TupleAgain names before x
tuple_again names false before x ts rest (barred, never) = absurd (never_took x ts rest never)
tuple_again names true before x ts rest (y, a, open_, (first, b, number_, (z, c, comma, inl starred))) =
    (refl, starred_again names before (may_be_pair (arity_of before)) refl first (length a) 0 x c rest starred)
tuple_again names true before x ts rest (y, a, open_, (first, b, number_, (z, c, comma, inr (second, d, number_b, inl tripled)))) =
    (refl, triple_again names before (may_be_triple (arity_of before)) refl first second x d rest tripled)
tuple_again names true before x ts rest (y, a, open_, (first, b, number_, (z, c, comma, inr (second, d, number_b, inr paired)))) =
    (refl, numbered_again names before (may_be_pair (arity_of before)) refl first second (length a) (length c) (has_great_part first second) refl x d rest paired)

-- all tuples are of the first one's kind

more_pairs : (a : ℕ) (b : Option ℕ) (before xs : List SetTuple) → Each Alike (of_two a b ∷ before) xs → (rest : List Kind) → more_of tuple_tokens xs rest ≡ more_of pair_tokens (pairs_in xs) rest
more_pairs a b before [] each rest = refl
more_pairs a b before (of_two c d ∷ xs) (alike, each) rest = ap (λ r. sign mark.Comma (pair_tokens (c, d) r)) (more_pairs a b (before ++ of_two c d ∷ []) xs each rest)
more_pairs a b before (of_three c d e ∷ xs) (alike, each) rest = absurd (let f : false ≡ true = alike in let g : ⊥ = cc in g)

more_triples : (a b : ℕ) (c : Option ℕ) (before xs : List SetTuple) → Each Alike (of_three a b c ∷ before) xs → (rest : List Kind) → more_of tuple_tokens xs rest ≡ more_of triple_tokens (triples_in xs) rest
more_triples a b c before [] each rest = refl
more_triples a b c before (of_two d e ∷ xs) (alike, each) rest = absurd (let f : false ≡ true = alike in let g : ⊥ = cc in g)
more_triples a b c before (of_three d e f ∷ xs) (alike, each) rest = ap (λ r. sign mark.Comma (triple_tokens (d, e, f) r)) (more_triples a b c (before ++ of_three d e f ∷ []) xs each rest)

tuples_tokens : (x : SetTuple) (xs : List SetTuple) → Each Alike (x ∷ []) xs → (rest : List Kind) → list_of tuple_tokens (x ∷ xs) rest ≡ elements_tokens (tuples_set (arity_of (x ∷ xs)) (x ∷ xs)).0 rest
tuples_tokens (of_two a b) xs each rest = ap (λ r. pair_tokens (a, b) r) (more_pairs a b [] xs each rest)
tuples_tokens (of_three a b c) xs each rest = ap (λ r. triple_tokens (a, b, c) r) (more_triples a b c [] xs each rest)

-- Sets.

abbrev pub SetAgain : Names → Bool → SetLit × ValueType → Type 0
SetAgain names level s = (l : Bool) → (level ≡ true → l ≡ true) → (rest : List Kind) → Took (elements names l) s (elements_tokens s.0 (sign mark.SetClose rest)) rest

Always : {A : Type 0} → List A → A → Type 0
Always items x = Unit {0}

pub ints_again : (names : Names) (level : Bool) (x : ℕ × ℕ) (xs rs : List (ℕ × ℕ)) → rs ≡ x ∷ xs
    → ((rest : List Kind) → (j : ℕ) × Rounds (λ s. Took (round (λ before. range names) s)) j [] rs (list_of range_tokens (x ∷ xs) rest) rest) → SetAgain names level (set.Ints rs, IntSet)
ints_again names level x xs rs all spells l le rest =
    inl (rs, sign mark.SetClose rest, subst (λ ys. Took (listed (λ before. range names)) rs (list_of range_tokens ys (sign mark.SetClose rest)) (sign mark.SetClose rest)) (sym all) (spells (sign mark.SetClose rest)), (tt, _, (refl, refl), (refl, refl)))

pub ips_again : (names : Names) (level : Bool) (x : Addr) (xs rs : List Addr) → rs ≡ x ∷ xs
    → ((rest : List Kind) → (j : ℕ) × Rounds (λ s. Took (round (λ before. an_addr) s)) j [] rs (list_of addr_tokens (x ∷ xs) rest) rest) → SetAgain names level (set.Ips rs, IpSet)
ips_again names level x xs rs all spells l le rest =
    inr (inl (rs, sign mark.SetClose rest, subst (λ ys. Took (listed (λ before. an_addr)) rs (list_of addr_tokens ys (sign mark.SetClose rest)) (sign mark.SetClose rest)) (sym all) (spells (sign mark.SetClose rest)), (tt, _, (refl, refl), (refl, refl))))

pub prefixes_again : (names : Names) (level : Bool) (x : Pattern) (xs rs : List Pattern) → rs ≡ x ∷ xs
    → ((rest : List Kind) → (j : ℕ) × Rounds (λ s. Took (round (λ before. set_pattern_form) s)) j [] rs (list_of pattern_tokens (x ∷ xs) rest) rest) → SetAgain names level (set.Prefixes rs, PrefixSet)
prefixes_again names level x xs rs all spells l le rest =
    inr (inr (inl (rs, sign mark.SetClose rest, subst (λ ys. Took (listed (λ before. set_pattern_form)) rs (list_of pattern_tokens ys (sign mark.SetClose rest)) (sign mark.SetClose rest)) (sym all) (spells (sign mark.SetClose rest)), (tt, _, (refl, refl), (refl, refl)))))

pub tuples_again : (names : Names) (x : SetTuple) (xs rs : List SetTuple) → rs ≡ x ∷ xs → Each Alike [] (x ∷ xs)
    → ((rest : List Kind) → (j : ℕ) × Rounds (λ s. Took (round (tuple_item names true) s)) j [] rs (list_of tuple_tokens (x ∷ xs) rest) rest) → SetAgain names true (tuples_set (arity_of rs) rs)
tuples_again names x xs rs all (alike, each) spells l le rest =
    subst (λ b. Took (elements names b) (tuples_set (arity_of rs) rs) (elements_tokens (tuples_set (arity_of rs) rs).0 (sign mark.SetClose rest)) rest) (sym (le refl))
    (inr (inr (inr (
      rs,
      sign mark.SetClose rest,
      subst (λ ts. Took (listed (tuple_item names true)) rs ts (sign mark.SetClose rest))
          (tuples_tokens x xs each (sign mark.SetClose rest) ∙ ap (λ ys. elements_tokens (tuples_set (arity_of ys) ys).0 (sign mark.SetClose rest)) (sym all))
          (spells (sign mark.SetClose rest)),
      (tt, _, (refl, refl), (refl, refl)),
    ))))

by_ints : (names : Names) (level : Bool) (rs : List (ℕ × ℕ)) (ts rest : List Kind) → Took (listed (λ before. range names)) rs ts rest → SetAgain names level (set.Ints rs, IntSet)
unfolding Always
by_ints names level rs ts rest (k, took) =
    (let h = listed_again (λ before. range names) (λ before. range names) range_tokens Always (λ before x ts rest took. (tt, range_again names x)) k [] rs ts rest took in ints_again names level h.0 h.1 rs h.2 h.4)

by_ips : (names : Names) (level : Bool) (rs : List Addr) (ts rest : List Kind) → Took (listed (λ before. an_addr)) rs ts rest → SetAgain names level (set.Ips rs, IpSet)
unfolding Always
by_ips names level rs ts rest (k, took) =
    (let h = listed_again (λ before. an_addr) (λ before. an_addr) addr_tokens Always (λ before x ts rest took. (tt, addr_again x)) k [] rs ts rest took in ips_again names level h.0 h.1 rs h.2 h.4)

by_prefixes : (names : Names) (level : Bool) (rs : List Pattern) (ts rest : List Kind) → Took (listed (λ before. set_pattern_form)) rs ts rest → SetAgain names level (set.Prefixes rs, PrefixSet)
unfolding Always
by_prefixes names level rs ts rest (k, took) =
    (let h = listed_again (λ before. set_pattern_form) (λ before. set_pattern_form) pattern_tokens Always (λ before x ts rest took. (tt, pattern_again x ts rest took)) k [] rs ts rest took in prefixes_again names level h.0 h.1 rs h.2 h.4)

by_tuples : (names : Names) (level : Bool) (rs : List SetTuple) (ts rest : List Kind) → Took (listed (tuple_item names level)) rs ts rest → SetAgain names level (tuples_set (arity_of rs) rs)
by_tuples names true rs ts rest (k, took) =
    (let h = listed_again (tuple_item names true) (tuple_item names true) tuple_tokens Alike (λ before x ts rest took. (tuple_again names true before x ts rest took).1) k [] rs ts rest took in tuples_again names h.0 h.1 rs h.2 h.3 h.4)
by_tuples names false rs ts rest took = absurd (no_tuple rs ts rest took)
  where
    no_round : (next : Step (List SetTuple) (List SetTuple)) (items : List SetTuple) (ts rest : List Kind) → Took (round (tuple_item names false) items) next ts rest → ⊥
    no_round next items ts rest (x, mid, took, more) = (let e : false ≡ true = (tuple_again names false items x ts mid took).0 in let f : ⊥ = cc in f)

    no_tuple : (rs : List SetTuple) (ts rest : List Kind) → Took (listed (tuple_item names false)) rs ts rest → ⊥
    no_tuple rs ts rest (zero, took) = no_round (done rs) [] ts rest took
    no_tuple rs ts rest (suc k, (next, mid, took, more)) = no_round (onward next) [] ts mid took

pub set_again : (names : Names) (level : Bool) (s : SetLit × ValueType) (ts rest : List Kind) → Took (elements names level) s ts rest → SetAgain names level s
set_again names level s ts rest (inl (rs, mid, took, (x, more, close, (is, same)))) = subst (SetAgain names level) (sym is) (by_ints names level rs ts mid took)
set_again names level s ts rest (inr (inl (rs, mid, took, (x, more, close, (is, same))))) = subst (SetAgain names level) (sym is) (by_ips names level rs ts mid took)
set_again names level s ts rest (inr (inr (inl (rs, mid, took, (x, more, close, (is, same)))))) = subst (SetAgain names level) (sym is) (by_prefixes names level rs ts mid took)
set_again names level s ts rest (inr (inr (inr (rs, mid, took, (x, more, close, (is, same)))))) = subst (SetAgain names level) (sym is) (by_tuples names level rs ts mid took)
