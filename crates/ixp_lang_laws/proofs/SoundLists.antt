-- Tests taken apart, and lists whose elements are spelt.
use Rattle.std.proofs.Common.{◌≡◌, ℕ, zero, suc, inl, inr, Bool, true, false, ◌&&◌, not, nat_le, List, [], ◌∷◌, ◌++◌, Option, Some, None, refl, sym, ap, subst, append_assoc, ◌≤◌, ◌==◌, leb-true, le-leb, arith}
use Rattle.std.specs.List.{list_all}
use Rattle.std.proofs.lemmas.Bool.{and_parts, and_from}
use Rattle.ixp_num.specs.declared.pattern.Pattern.{Pattern}
use Rattle.ixp_num.specs.Families.{bits_of}
use Rattle.ixp_lang_tokens.specs.declared.token.Kind.{Kind}
use Rattle.ixp_lang_tokens.specs.Grammars.{Grammar, Rounds, Took}
use Rattle.ixp_lang_tokens.specs.Pieces.{an_addr}
use Rattle.ixp_lang.specs.declared.value.SetLit.{SetLit}
use Rattle.ixp_lang.specs.declared.value.SetLit.TheVariants as set
use Rattle.ixp_lang_exprs.specs.Names.{Names}
use Rattle.ixp_lang_exprs.specs.Sets.{range, set_pattern_form, arity_of, may_be_pair, may_be_triple, pairs_in, triples_in}
use Rattle.ixp_lang_exprs.proofs.SetTuples.{SetTuple, of_two, of_three}
use Rattle.ixp_lang_laws.specs.Canonical.{Before, list_of, range_tokens, addr_tokens, pattern_tokens}
use Rattle.ixp_lang_laws.proofs.Basics.{so_again}
use Rattle.ixp_lang_laws.proofs.Listed.{round, Each}
use Rattle.ixp_lang_laws.proofs.Sets.{SetAgain, Alike, tuple_tokens, tuple_item, range_again, addr_again, pattern_as, ints_again, ips_again, prefixes_again, tuples_again, pair_spells, triple_spells}
use Rattle.ixp_lang_laws.specs.Sound.{deeper, is_left, is_lawful, is_small, is_small_pair, set_fits, set_type}

pub and3 : (a b c : Bool) → (a && b && c) ≡ true → (a ≡ true) × (b ≡ true) × (c ≡ true)
and3 a b c e = (let h : ((a && b) ≡ true) × (c ≡ true) = and_parts (a && b) c e in let k : (a ≡ true) × (b ≡ true) = and_parts a b h.0 in (k.0, k.1, h.1))

pub off : (b : Bool) → not b ≡ true → b ≡ false
off true e = absurd cc
off false e = refl

pub one_less : (n : ℕ) (f : ℕ → Bool) → deeper n f ≡ true → (m : ℕ) × (n ≡ suc m) × (f m ≡ true)
one_less zero f e = absurd cc
one_less (suc n) f e = (n, refl, e)

module _ {A : Type 0} (item : List A → Grammar A) (text : A → Before) where
  abbrev pub AllSpell : List A → List A → Type 0
  AllSpell before [] = Unit {0}
  AllSpell before (x ∷ xs) = ((rest : List Kind) → Took (item before) x (text x rest) rest) × AllSpell (before ++ x ∷ []) xs

  pub list_spelt : (before : List A) (x : A) (xs : List A) → AllSpell before (x ∷ xs) → (rest : List Kind)
      → (j : ℕ) × Rounds (λ s. Took (round item s)) j before (before ++ x ∷ xs) (list_of text (x ∷ xs) rest) rest
  list_spelt before x [] (spells, more) rest = (0, (x, rest, spells rest, inr (refl, refl)))
  list_spelt before x (y ∷ ys) (spells, more) rest =
      subst (λ after. (j : ℕ) × Rounds (λ s. Took (round item s)) j before after (list_of text (x ∷ y ∷ ys) rest) rest) (append_assoc before (x ∷ []) (y ∷ ys))
      (let m = list_spelt (before ++ x ∷ []) y ys more rest in
      (suc m.0, (before ++ x ∷ [], list_of text (y ∷ ys) rest, (x, _, spells _, inl (tt, _, (refl, refl), (refl, refl))), m.1)))

-- elements that are spelt wherever they stand
pub all_spell : {A : Type 0} (item : Grammar A) (text : A → Before) (P : A → Bool) → ((x : A) → P x ≡ true → (rest : List Kind) → Took item x (text x rest) rest)
    → (before xs : List A) → list_all P xs ≡ true → AllSpell (λ b. item) text before xs
all_spell item text P spells before [] e = tt
all_spell item text P spells before (x ∷ xs) e =
    let h : (P x ≡ true) × (list_all P xs ≡ true) = and_parts (P x) (list_all P xs) e in
    (spells x h.0, all_spell item text P spells (before ++ x ∷ []) xs h.1)

pub all_true : {A : Type 0} (xs : List A) → list_all (λ x. true) xs ≡ true
all_true [] = refl
all_true (x ∷ xs) = all_true xs

-- Tuples of a set.

twos : List (ℕ × Option ℕ) → List SetTuple
twos [] = []
twos (p ∷ ps) = of_two p.0 p.1 ∷ twos ps

threes : List (ℕ × ℕ × Option ℕ) → List SetTuple
threes [] = []
threes (t ∷ ts) = of_three t.0 t.1 t.2 ∷ threes ts

twos_in : (ps : List (ℕ × Option ℕ)) → pairs_in (twos ps) ≡ ps
unfolding twos
twos_in [] = refl
twos_in (p ∷ ps) = ap (λ xs. p ∷ xs) (twos_in ps)

threes_in : (ts : List (ℕ × ℕ × Option ℕ)) → triples_in (threes ts) ≡ ts
unfolding threes
threes_in [] = refl
threes_in (t ∷ ts) = ap (λ xs. t ∷ xs) (threes_in ts)

still_pairs : (before : List SetTuple) (a : ℕ) (b : Option ℕ) → may_be_pair (arity_of before) ≡ true → may_be_pair (arity_of (before ++ of_two a b ∷ [])) ≡ true
still_pairs [] a b e = refl
still_pairs (of_two c d ∷ xs) a b e = refl
still_pairs (of_three c d f ∷ xs) a b e = absurd (let g : ⊥ = cc in g)

still_triples : (before : List SetTuple) (a b : ℕ) (c : Option ℕ) → may_be_triple (arity_of before) ≡ true → may_be_triple (arity_of (before ++ of_three a b c ∷ [])) ≡ true
still_triples [] a b c e = refl
still_triples (of_two d f ∷ xs) a b c e = absurd (let g : ⊥ = cc in g)
still_triples (of_three d f h ∷ xs) a b c e = refl

pub small_again : (n : Option ℕ) → is_small n ≡ true → (left : ℕ) → Rattle.ixp_lang_exprs.specs.Sets.part_too_great n left ≡ None
small_again None e left = refl
small_again (Some n) e left = so_again (nat_le n 65535) _ e

pairs_spell : (names : Names) (before : List SetTuple) (ps : List (ℕ × Option ℕ)) → may_be_pair (arity_of before) ≡ true → list_all is_small_pair ps ≡ true
    → AllSpell (tuple_item names true) tuple_tokens before (twos ps) × Each Alike before (twos ps)
unfolding twos
pairs_spell names before [] may small = (tt, tt)
pairs_spell names before (p ∷ ps) may small =
    let h : (is_small_pair p ≡ true) × (list_all is_small_pair ps ≡ true) = and_parts (is_small_pair p) (list_all is_small_pair ps) small in
    let k : (nat_le p.0 65535 ≡ true) × (is_small p.1 ≡ true) = and_parts (nat_le p.0 65535) (is_small p.1) h.0 in
    (let one = pair_spells names before p.0 p.1 0 0 may (so_again (nat_le p.0 65535) _ k.0) (small_again p.1 k.1 0) in
    let more = pairs_spell names (before ++ of_two p.0 p.1 ∷ []) ps (still_pairs before p.0 p.1 may) h.1 in
    ((one.1, more.0), (one.0, more.1)))

triples_spell : (names : Names) (before : List SetTuple) (ts : List (ℕ × ℕ × Option ℕ)) → may_be_triple (arity_of before) ≡ true
    → AllSpell (tuple_item names true) tuple_tokens before (threes ts) × Each Alike before (threes ts)
unfolding threes
triples_spell names before [] may = (tt, tt)
triples_spell names before (t ∷ ts) may =
    (let one = triple_spells names before t.0 t.1 t.2 may in
    let more = triples_spell names (before ++ of_three t.0 t.1 t.2 ∷ []) ts (still_triples before t.0 t.1 t.2 may) in
    ((one.1, more.0), (one.0, more.1)))

-- Sets.

pub set_spelt : (names : Names) (n : ℕ) (s : SetLit) → set_fits n s ≡ true → SetAgain names (is_left n) (s, set_type s)
unfolding twos threes
set_spelt names n (set.Ints []) fit = absurd (let f : ⊥ = cc in f)
set_spelt names n (set.Ints (r ∷ rs)) fit =
    ints_again names (is_left n) r rs (r ∷ rs) refl (λ rest. list_spelt (λ b. range names) range_tokens [] r rs (all_spell (range names) range_tokens (λ x. true) (λ x e. range_again names x) [] (r ∷ rs) (all_true (r ∷ rs))) rest)
set_spelt names n (set.Ips []) fit = absurd (let f : ⊥ = cc in f)
set_spelt names n (set.Ips (a ∷ addrs)) fit =
    ips_again names (is_left n) a addrs (a ∷ addrs) refl (λ rest. list_spelt (λ b. an_addr) addr_tokens [] a addrs (all_spell an_addr addr_tokens (λ x. true) (λ x e. addr_again x) [] (a ∷ addrs) (all_true (a ∷ addrs))) rest)
set_spelt names n (set.Prefixes []) fit = absurd (let f : ⊥ = cc in f)
set_spelt names n (set.Prefixes (t ∷ ts)) fit =
    prefixes_again names (is_left n) t ts (t ∷ ts) refl (λ rest. list_spelt (λ b. set_pattern_form) pattern_tokens [] t ts (all_spell set_pattern_form pattern_tokens is_lawful lawful_spelt [] (t ∷ ts) fit) rest)
  where
    lawful_spelt : (p : Pattern) → is_lawful p ≡ true → (rest : List Kind) → Took set_pattern_form p (pattern_tokens p rest) rest
    lawful_spelt p e rest =
        let h : (nat_le p.low p.high ≡ true) × (nat_le p.high (bits_of p.prefix.family) ≡ true) = and_parts (nat_le p.low p.high) _ e in
        let a : p.low ≤ p.high = leb-true p.low p.high h.0 in
        let b : p.high ≤ bits_of p.prefix.family = leb-true p.high (bits_of p.prefix.family) h.1 in
        let c : p.low ≤ bits_of p.prefix.family = omega (arith, a, b) in
        let z : 0 ≤ p.low = omega arith in
        pattern_as p (and_from (nat_le 0 p.low) _ (le-leb 0 p.low z) (le-leb p.low (bits_of p.prefix.family) c), e) (p.low == p.prefix.len && p.high == p.prefix.len) refl rest
set_spelt names n (set.Pairs []) fit = absurd (let f : ⊥ = cc in f)
set_spelt names n (set.Pairs (p ∷ ps)) fit = by_level (and_parts (is_left n) _ fit)
  where
    by_level : (is_left n ≡ true) × (list_all is_small_pair (p ∷ ps) ≡ true) → SetAgain names (is_left n) (set.Pairs (p ∷ ps), set_type (set.Pairs (p ∷ ps)))
    by_level (left, small) =
        (let all = pairs_spell names [] (p ∷ ps) refl small in
        subst (λ l. SetAgain names l (set.Pairs (p ∷ ps), set_type (set.Pairs (p ∷ ps)))) (sym left)
        (subst (λ xs. SetAgain names true (set.Pairs (p ∷ xs), set_type (set.Pairs (p ∷ ps)))) (twos_in ps)
        (tuples_again names (of_two p.0 p.1) (twos ps) (twos (p ∷ ps)) refl all.1 (λ rest. list_spelt (tuple_item names true) tuple_tokens [] (of_two p.0 p.1) (twos ps) all.0 rest))))
set_spelt names n (set.Triples []) fit = absurd (let f : ⊥ = cc in f)
set_spelt names n (set.Triples (t ∷ ts)) left =
    (let all = triples_spell names [] (t ∷ ts) refl in
    subst (λ l. SetAgain names l (set.Triples (t ∷ ts), set_type (set.Triples (t ∷ ts)))) (sym left)
    (subst (λ xs. SetAgain names true (set.Triples (t ∷ xs), set_type (set.Triples (t ∷ ts)))) (threes_in ts)
    (tuples_again names (of_three t.0 t.1 t.2) (threes ts) (threes (t ∷ ts)) refl all.1 (λ rest. list_spelt (tuple_item names true) tuple_tokens [] (of_three t.0 t.1 t.2) (threes ts) all.0 rest))))
