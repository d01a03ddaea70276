-- The tokens of the canonical text of an expression (BIRD 2 User's Guide, chapter "Filters", expressions):
-- parentheses only where they are needed, and in a set a number in place of its name. Each is said with the
-- tokens that follow it.
use Rattle.std.specs.Prelude.{ℕ, Bool, true, false, ◌&&◌, ◌==◌, List, [], ◌∷◌, Option, Some, None, codes, if◌then◌else◌}
use Rattle.ixp_num.specs.declared.addr.Addr.{Addr}
use Rattle.ixp_num.specs.declared.pattern.Pattern.{Pattern}
use Rattle.ixp_lang.specs.declared.value.Value.{Value}
use Rattle.ixp_lang.specs.declared.value.Value.TheVariants as value
use Rattle.ixp_lang.specs.declared.value.SetLit.{SetLit}
use Rattle.ixp_lang.specs.declared.value.SetLit.TheVariants as set
use Rattle.ixp_lang.specs.declared.expr.Attr.{Attr}
use Rattle.ixp_lang.specs.declared.expr.Attr.TheVariants as attr
use Rattle.ixp_lang.specs.declared.expr.Op.{Op}
use Rattle.ixp_lang.specs.declared.expr.Op.TheVariants as op
use Rattle.ixp_lang.specs.Trees.{ExprTree, literal, named, attribute, call, roa_check, pair, triple, set_literal, negation, conjunction, disjunction, comparison, ExprTrees, exprs_end, exprs_more}
use Rattle.ixp_lang_tokens.specs.declared.token.Kind.{Kind as Token}
use Rattle.ixp_lang_tokens.specs.declared.token.Kind.TheVariants.{Name, Word, Number, Addr as Address, Prefix, Mark as Marked}
use Rattle.ixp_lang_tokens.specs.declared.token.Mark.{Mark}
use Rattle.ixp_lang_tokens.specs.declared.token.Mark.TheVariants as mark
use Rattle.ixp_print.specs.Texts.{bool_text, state_text, is_chain, is_compound}

-- Tokens, and what stands behind them.
abbrev pub Before : Type 0
Before = List Token → List Token

abbrev pub number : ℕ → Before
number n rest = Number n ∷ rest

abbrev pub word : List ℕ → Before
word w rest = Word w ∷ rest

abbrev pub name : List ℕ → Before
name n rest = Name n ∷ rest

abbrev pub sign : Mark → Before
sign m rest = Marked m ∷ rest

-- one or more with commas between
abbrev pub more_of : {A : Type 0} → (A → Before) → List A → Before
more_of f [] rest = rest
more_of f (x ∷ xs) rest = Marked mark.Comma ∷ f x (more_of f xs rest)

abbrev pub list_of : {A : Type 0} → (A → Before) → List A → Before
list_of f [] rest = rest
list_of f (x ∷ xs) rest = f x (more_of f xs rest)

-- Words.

-- the word of an attribute, and that of its part
abbrev pub attr_tokens : Attr → Before
attr_tokens attr.Net rest = word (codes "net") rest
attr_tokens attr.NetLen rest = word (codes "net") (sign mark.Dot (word (codes "len") rest))
attr_tokens attr.From rest = word (codes "from") rest
attr_tokens attr.NextHop rest = word (codes "bgp_next_hop") rest
attr_tokens attr.Path rest = word (codes "bgp_path") rest
attr_tokens attr.First rest = word (codes "bgp_path") (sign mark.Dot (word (codes "first") rest))
attr_tokens attr.Last rest = word (codes "bgp_path") (sign mark.Dot (word (codes "last") rest))
attr_tokens attr.Len rest = word (codes "bgp_path") (sign mark.Dot (word (codes "len") rest))
attr_tokens attr.Pairs rest = word (codes "bgp_community") rest
attr_tokens attr.PairsLen rest = word (codes "bgp_community") (sign mark.Dot (word (codes "len") rest))
attr_tokens attr.Triples rest = word (codes "bgp_large_community") rest
attr_tokens attr.TriplesLen rest =
    word (codes "bgp_large_community") (sign mark.Dot (word (codes "len") rest))

abbrev pub operator : Op → Mark
operator op.Eq = mark.Equal
operator op.Ne = mark.Unequal
operator op.Lt = mark.Less
operator op.Le = mark.LessEqual
operator op.Gt = mark.Greater
operator op.Ge = mark.GreaterEqual
operator op.In = mark.In
operator op.NotIn = mark.NotIn

-- Sets.

-- `a..b`, or `a` where it is one number
abbrev pub range_tokens : ℕ × ℕ → Before
range_tokens r rest = if r.0 == r.1 then number r.0 rest else number r.0 (sign mark.Range (number r.1 rest))

abbrev pub addr_tokens : Addr → Before
addr_tokens a rest = Address a ∷ rest

-- the bounds in braces, unless they are the prefix's length
abbrev pub pattern_tokens : Pattern → Before
pattern_tokens p rest =
    Prefix p.prefix ∷ (if p.low == p.prefix.len && p.high == p.prefix.len then rest
    else sign mark.BlockOpen (number p.low (sign mark.Comma (number p.high (sign mark.BlockClose rest)))))

abbrev pub part_tokens : Option ℕ → Before
part_tokens None rest = sign mark.Star rest
part_tokens (Some n) rest = number n rest

abbrev pub pair_tokens : ℕ × Option ℕ → Before
pair_tokens p rest = sign mark.Open (number p.0 (sign mark.Comma (part_tokens p.1 (sign mark.Close rest))))

abbrev pub triple_tokens : ℕ × ℕ × Option ℕ → Before
triple_tokens t rest = sign mark.Open (number t.0
    (sign mark.Comma (number t.1 (sign mark.Comma (part_tokens t.2 (sign mark.Close rest))))))

abbrev pub elements_tokens : SetLit → Before
elements_tokens (set.Ints rs) rest = list_of range_tokens rs rest
elements_tokens (set.Ips addrs) rest = list_of addr_tokens addrs rest
elements_tokens (set.Prefixes ts) rest = list_of pattern_tokens ts rest
elements_tokens (set.Pairs ps) rest = list_of pair_tokens ps rest
elements_tokens (set.Triples ts) rest = list_of triple_tokens ts rest

abbrev pub set_tokens : SetLit → Before
set_tokens s rest = sign mark.SetOpen (elements_tokens s (sign mark.SetClose rest))

abbrev pub value_tokens : Value → Before
value_tokens (value.Int n) rest = number n rest
value_tokens (value.Bool b) rest = word (bool_text b) rest
value_tokens (value.Ip a) rest = addr_tokens a rest
value_tokens (value.Net p) rest = Prefix p ∷ rest
value_tokens (value.Pair a b) rest = pair_tokens (a, Some b) rest
value_tokens (value.Triple a b c) rest = triple_tokens (a, b, Some c) rest
value_tokens (value.Roa s) rest = word (state_text s) rest
value_tokens (value.Set s) rest = set_tokens s rest

-- Expressions.

-- in parentheses, where that is needed
abbrev pub wrapped : Bool → Before → Before
wrapped true text rest = sign mark.Open (text (sign mark.Close rest))
wrapped false text rest = text rest

abbrev mutual
  pub expr_tokens : ExprTree → Before
  expr_tokens (literal v) rest = value_tokens v rest
  expr_tokens (named n) rest = name n rest
  expr_tokens (attribute a) rest = attr_tokens a rest
  expr_tokens (call n es) rest = name n (sign mark.Open (exprs_tokens es (sign mark.Close rest)))
  expr_tokens (roa_check t e f) rest =
      word (codes "roa_check") (sign mark.Open (name t
      (sign mark.Comma (expr_tokens e (sign mark.Comma (expr_tokens f (sign mark.Close rest)))))))
  expr_tokens (pair e f) rest =
      sign mark.Open (expr_tokens e (sign mark.Comma (expr_tokens f (sign mark.Close rest))))
  expr_tokens (triple e f g) rest =
      sign mark.Open (expr_tokens e (sign mark.Comma
      (expr_tokens f (sign mark.Comma (expr_tokens g (sign mark.Close rest))))))
  expr_tokens (set_literal s) rest = set_tokens s rest
  expr_tokens (negation e) rest = sign mark.Not (wrapped (is_compound e) (expr_tokens e) rest)
  expr_tokens (conjunction es) rest = chain_tokens mark.And es rest
  expr_tokens (disjunction es) rest = chain_tokens mark.Or es rest
  expr_tokens (comparison o e f) rest =
      wrapped (is_compound e) (expr_tokens e)
      (sign (operator o) (wrapped (is_compound f) (expr_tokens f) rest))

  -- the arguments of a call
  pub exprs_tokens : ExprTrees → Before
  exprs_tokens exprs_end rest = rest
  exprs_tokens (exprs_more e es) rest = expr_tokens e (more_exprs_tokens es rest)

  pub more_exprs_tokens : ExprTrees → Before
  more_exprs_tokens exprs_end rest = rest
  more_exprs_tokens (exprs_more e es) rest = sign mark.Comma (expr_tokens e (more_exprs_tokens es rest))

  -- the parts of a chain: a chain among them stands in parentheses
  pub chain_tokens : Mark → ExprTrees → Before
  chain_tokens joint exprs_end rest = rest
  chain_tokens joint (exprs_more e es) rest =
      wrapped (is_chain e) (expr_tokens e) (more_chain_tokens joint es rest)

  pub more_chain_tokens : Mark → ExprTrees → Before
  more_chain_tokens joint exprs_end rest = rest
  more_chain_tokens joint (exprs_more e es) rest =
      sign joint (wrapped (is_chain e) (expr_tokens e) (more_chain_tokens joint es rest))
