-- Which tokens texts have, as a test, and that it says so.
use Rattle.std.proofs.Common.{◌≡◌, ℕ, ◌<◌, ◌≤◌, ◌^◌, Bool, true, false, ◌&&◌, ◌==◌, not, nat_lt, nat_le, List, [], ◌∷◌, ◌++◌, length, refl, ap, ◌∙◌, arith, lit<, if◌then◌else◌}
use Rattle.std.specs.List.{list_all}
use Rattle.std.proofs.lemmas.Bool.{and_parts, ltb-true, leb-true, lt-ltb}
use Rattle.ixp_num.specs.declared.addr.Addr.{Addr}
use Rattle.ixp_num.specs.declared.pattern.Pattern.{Pattern}
use Rattle.ixp_num.specs.declared.prefix.Prefix.{Prefix}
use Rattle.ixp_num.specs.declared.family.Family.{Family}
use Rattle.ixp_num.specs.declared.family.Family.TheVariants.{V4, V6}
use Rattle.ixp_num.specs.Families.{bits_of}
use Rattle.ixp_num.specs.Names.{is_name}
use Rattle.ixp_lang.specs.Trees.{ItemTree, StmtTree, stmts, define_item, set_literal}
use Rattle.ixp_lang.specs.declared.value.SetLit.{SetLit}
use Rattle.ixp_lang_tokens.specs.declared.token.Kind.{Kind}
use Rattle.ixp_lang_tokens.specs.declared.token.Kind.TheVariants as kind
use Rattle.ixp_lang_tokens.specs.declared.token.Mark.TheVariants as mark
use Rattle.ixp_lang_tokens.specs.Bytes.{begins_with, is_letter, is_word_byte, is_text_byte}
use Rattle.ixp_lang_tokens.specs.Words.{is_keyword}
use Rattle.ixp_lang_laws.specs.Sound.{is_lawful}
use Rattle.ixp_lang_laws.specs.Printed.{IsWritten, AreWritten}
use Rattle.ixp_lang_laws.specs.Canonical.{Before, number, sign, list_of, more_of, addr_tokens, range_tokens, pattern_tokens, elements_tokens}
use Rattle.ixp_lang_laws.specs.CanonicalItems.{stmts_tokens, stmt_tokens, item_tokens, items_tokens}

-- a name that is no keyword
unfoldable pub is_word_name : List ℕ → Bool
is_word_name n = begins_with is_letter n && list_all is_word_byte n && is_name n && not (is_keyword n)

abbrev pub is_small : ℕ → Bool
is_small n = nat_lt n (2 ^ 32)

abbrev pub is_said : List ℕ → Bool
is_said t = list_all is_text_byte t && nat_le (length t) 64

abbrev pub written : Kind → Bool
written (kind.Name n) = is_word_name n
written (kind.Number n) = is_small n
written (kind.Text said) = is_said said
written _ = true

is_name_of : (w : List ℕ) → is_word_name w ≡ true → IsWritten (kind.Name w)
unfolding is_word_name
is_name_of w e =
    let h : ((begins_with is_letter w && list_all is_word_byte w && is_name w) ≡ true) × (not (is_keyword w) ≡ true) = and_parts _ _ e in
    let g : ((begins_with is_letter w && list_all is_word_byte w) ≡ true) × (is_name w ≡ true) = and_parts _ _ h.0 in
    let f : (begins_with is_letter w ≡ true) × (list_all is_word_byte w ≡ true) = and_parts (begins_with is_letter w) (list_all is_word_byte w) g.0 in
    (f.0, f.1, ap (λ b. if b then (if is_keyword w then kind.Word w else kind.Name w) else kind.BadByte) g.1 ∙ no_keyword (is_keyword w) h.1)
  where
    no_keyword : (b : Bool) → not b ≡ true → (if b then kind.Word w else kind.Name w) ≡ kind.Name w
    no_keyword true e = absurd cc
    no_keyword false e = refl

one_written : (k : Kind) → written k ≡ true → IsWritten k
one_written (kind.Name n) e = is_name_of n e
one_written (kind.Number n) e = ltb-true n (2 ^ 32) e
one_written (kind.Text said) e =
    let parts = and_parts (list_all is_text_byte said) (nat_le (length said) 64) e in (parts.0, leb-true (length said) 64 parts.1)
one_written (kind.Word w) e = tt
one_written (kind.Addr a) e = tt
one_written (kind.Prefix p) e = tt
one_written (kind.Mark m) e = tt
one_written kind.BadByte e = tt
one_written kind.BadNumber e = tt

pub all_written : (ks : List Kind) → list_all written ks ≡ true → AreWritten ks
all_written [] e = tt
all_written (k ∷ ks) e = let parts = and_parts (written k) (list_all written ks) e in (one_written k parts.0, all_written ks parts.1)

-- Tokens that stand before any others and are written.

abbrev pub Same : Before → Type 0
Same text = (rest : List Kind) → list_all written (text rest) ≡ list_all written rest

abbrev pub PartSame : List StmtTree → Type 0
PartSame ss = (rest : List Kind) → list_all written (stmts_tokens (stmts ss) rest) ≡ list_all written rest

abbrev pub ItemsSame : List ItemTree → Type 0
ItemsSame items = (rest : List Kind) → list_all written (items_tokens items rest) ≡ list_all written rest

pub both_same : (ss ts : List StmtTree) → PartSame ss → PartSame ts → PartSame (ss ++ ts)
both_same ss ts one two rest = ap (λ k. list_all written k) (appended ss ts rest) ∙ (one (stmts_tokens (stmts ts) rest) ∙ two rest)
  where
    appended : (ss ts : List StmtTree) (rest : List Kind) → stmts_tokens (stmts (ss ++ ts)) rest ≡ stmts_tokens (stmts ss) (stmts_tokens (stmts ts) rest)
    appended [] ts rest = refl
    appended (s ∷ ss) ts rest = ap (λ k. stmt_tokens s k) (appended ss ts rest)

pub both_items : (is js : List ItemTree) → ItemsSame is → ItemsSame js → ItemsSame (is ++ js)
both_items is js one two rest = ap (λ k. list_all written k) (appended is js rest) ∙ (one (items_tokens js rest) ∙ two rest)
  where
    appended : (is js : List ItemTree) (rest : List Kind) → items_tokens (is ++ js) rest ≡ items_tokens is (items_tokens js rest)
    appended [] js rest = refl
    appended (i ∷ is) js rest = ap (λ k. item_tokens i k) (appended is js rest)

pub if_same : (b : Bool) (ss ts : List StmtTree) → PartSame ss → PartSame ts → PartSame (if b then ss else ts)
if_same true ss ts one two = one
if_same false ss ts one two = two

pub if_items : (b : Bool) (is js : List ItemTree) → ItemsSame is → ItemsSame js → ItemsSame (if b then is else js)
if_items true is js one two = one
if_items false is js one two = two

-- Lists.

more_same : {A : Type 0} (f : A → Before) (test : A → Bool) → ((a : A) → test a ≡ true → Same (f a)) → (xs : List A) → list_all test xs ≡ true → Same (more_of f xs)
more_same f test each [] all rest = refl
more_same f test each (x ∷ xs) all rest =
    let parts = and_parts (test x) (list_all test xs) all in each x parts.0 (more_of f xs rest) ∙ more_same f test each xs parts.1 rest

pub list_same : {A : Type 0} (f : A → Before) (test : A → Bool) → ((a : A) → test a ≡ true → Same (f a)) → (xs : List A) → list_all test xs ≡ true → Same (list_of f xs)
list_same f test each [] all rest = refl
list_same f test each (x ∷ xs) all rest =
    let parts = and_parts (test x) (list_all test xs) all in each x parts.0 (more_of f xs rest) ∙ more_same f test each xs parts.1 rest

abbrev pub is_small_range : ℕ × ℕ → Bool
is_small_range r = is_small r.0 && is_small r.1

pub range_same : (r : ℕ × ℕ) → is_small_range r ≡ true → Same (range_tokens r)
range_same r small rest = by_case (r.0 == r.1) where
  parts : (is_small r.0 ≡ true) × (is_small r.1 ≡ true)
  parts = and_parts (is_small r.0) (is_small r.1) small

  by_case : (b : Bool) → list_all written (if b then number r.0 rest else number r.0 (sign mark.Range (number r.1 rest))) ≡ list_all written rest
  by_case true = rw parts.0 refl
  by_case false = rw (parts.0, parts.1) refl

few_bits : (f : Family) (n : ℕ) → n ≤ bits_of f → n < 2 ^ 32
few_bits V4 n le = let few : n < 129 = omega arith in let many : 129 < 2 ^ 32 = lit< tt in omega arith
few_bits V6 n le = let few : n < 129 = omega arith in let many : 129 < 2 ^ 32 = lit< tt in omega arith

pub pattern_same : (p : Pattern) → is_lawful p ≡ true → Same (pattern_tokens p)
pattern_same p lawful rest = by_case (p.low == p.prefix.len && p.high == p.prefix.len) where
  parts : (nat_le p.low p.high ≡ true) × (nat_le p.high (bits_of p.prefix.family) ≡ true)
  parts = and_parts (nat_le p.low p.high) (nat_le p.high (bits_of p.prefix.family)) lawful

  most : p.high ≤ bits_of p.prefix.family
  most = leb-true p.high (bits_of p.prefix.family) parts.1

  below : p.low ≤ p.high
  below = leb-true p.low p.high parts.0

  low : is_small p.low ≡ true
  low = lt-ltb p.low (2 ^ 32) (few_bits p.prefix.family p.low (let a = most in let b = below in omega arith))

  high : is_small p.high ≡ true
  high = lt-ltb p.high (2 ^ 32) (few_bits p.prefix.family p.high most)

  by_case : (b : Bool) → list_all written (if b then rest else sign mark.BlockOpen (number p.low (sign mark.Comma (number p.high (sign mark.BlockClose rest))))) ≡ list_all written rest
  by_case true = refl
  by_case false = rw (low, high) refl

more_addrs : (addrs : List Addr) → Same (more_of addr_tokens addrs)
more_addrs [] rest = refl
more_addrs (a ∷ addrs) rest = more_addrs addrs rest

pub addrs_written : (addrs : List Addr) (rest : List Kind) → list_all written (list_of addr_tokens addrs rest) ≡ list_all written rest
addrs_written [] rest = refl
addrs_written (a ∷ addrs) rest = more_addrs addrs rest

-- a defined set
pub define_same : (name : List ℕ) (s : SetLit) → is_word_name name ≡ true → Same (elements_tokens s) → Same (item_tokens (define_item name (set_literal s)))
define_same name s ok same rest = rw ok (same (sign mark.SetClose (sign mark.Semicolon rest)))
