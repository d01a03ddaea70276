-- Which trees of expressions a text can spell: names are declared, types fit, numbers are within bounds, and
-- there are levels enough.
use Rattle.std.specs.Prelude.{ℕ, zero, suc, Bool, true, false, ◌&&◌, not, nat_le, List, [], ◌∷◌, Option, Some, None, if◌then◌else◌}
use Rattle.std.specs.Option.{is_some, is_none}
use Rattle.std.specs.List.{list_all}
use Rattle.ixp_num.specs.declared.pattern.Pattern.{Pattern}
use Rattle.ixp_num.specs.Families.{bits_of}
use Rattle.ixp_lang.specs.Trees.{ExprTree, literal, named, attribute, call, roa_check, pair, triple, set_literal, negation, conjunction, disjunction, comparison, ExprTrees, exprs_end, exprs_more}
use Rattle.ixp_lang.specs.declared.value.Value.{Value}
use Rattle.ixp_lang.specs.declared.value.Value.TheVariants as value
use Rattle.ixp_lang.specs.declared.value.SetLit.{SetLit}
use Rattle.ixp_lang.specs.declared.value.SetLit.TheVariants as set
use Rattle.ixp_lang_exprs.specs.declared.types.ValueType.{ValueType}
use Rattle.ixp_lang_exprs.specs.declared.types.ValueType.TheVariants.{Int, Bool as Truth, Ip, Prefix, Pair, Triple, State, IntSet, IpSet, PrefixSet, PairSet, TripleSet}
use Rattle.ixp_lang_exprs.specs.declared.env.Signature.{Signature}
use Rattle.ixp_lang_exprs.specs.declared.env.Declared.{Declared}
use Rattle.ixp_lang_exprs.specs.declared.env.Declared.TheVariants.{Table}
use Rattle.ixp_lang_exprs.specs.declared.context.Scope.{Scope}
use Rattle.ixp_lang_exprs.specs.Types.{same_type, attribute_type, takes_left, takes_right}
use Rattle.ixp_lang_exprs.specs.Names.{Names, value_of, function_of, is_define}
use Rattle.ixp_lang_exprs.specs.Operands.{literal_number}
use Rattle.ixp_lang_exprs.specs.Expressions.{type_or}
use Rattle.ixp_print.specs.Texts.{is_chain, is_compound}

-- Levels.

-- so with one level less, if a level is left
abbrev pub deeper : ℕ → (ℕ → Bool) → Bool
deeper zero f = false
deeper (suc n) f = f n

-- in parentheses or not
abbrev pub wrapped : Bool → ℕ → (ℕ → Bool) → Bool
wrapped true n f = deeper n f
wrapped false n f = f n

abbrev pub is_left : ℕ → Bool
is_left zero = false
is_left (suc n) = true

-- Sets and values.

abbrev pub set_type : SetLit → ValueType
set_type (set.Ints rs) = IntSet
set_type (set.Ips addrs) = IpSet
set_type (set.Prefixes ts) = PrefixSet
set_type (set.Pairs ps) = PairSet
set_type (set.Triples ts) = TripleSet

abbrev pub value_type : Value → ValueType
value_type (value.Int n) = Int
value_type (value.Bool b) = Truth
value_type (value.Ip a) = Ip
value_type (value.Net p) = Prefix
value_type (value.Pair a b) = Pair
value_type (value.Triple a b c) = Triple
value_type (value.Roa s) = State
value_type (value.Set s) = set_type s

abbrev pub some_of : {A : Type 0} → List A → Bool
some_of [] = false
some_of (x ∷ xs) = true

abbrev pub is_lawful : Pattern → Bool
is_lawful p = nat_le p.low p.high && nat_le p.high (bits_of p.prefix.family)

-- a part of a pair, where it is a number
abbrev pub is_small : Option ℕ → Bool
is_small None = true
is_small (Some n) = nat_le n 65535

abbrev pub is_small_pair : ℕ × Option ℕ → Bool
is_small_pair p = nat_le p.0 65535 && is_small p.1

abbrev pub set_fits : ℕ → SetLit → Bool
set_fits n (set.Ints rs) = some_of rs
set_fits n (set.Ips addrs) = some_of addrs
set_fits n (set.Prefixes ts) = some_of ts && list_all is_lawful ts
set_fits n (set.Pairs ps) = some_of ps && is_left n && list_all is_small_pair ps
set_fits n (set.Triples ts) = some_of ts && is_left n

abbrev pub value_fits : ℕ → Value → Bool
value_fits n (value.Pair a b) = is_left n && is_small_pair (a, Some b)
value_fits n (value.Triple a b c) = is_left n
value_fits n (value.Set s) = false
value_fits n _ = true

-- Names.

abbrev pub returned : Option Signature → Option ValueType
returned None = None
returned (Some s) = s.returns

abbrev pub params_of : Option Signature → List ValueType
params_of None = []
params_of (Some s) = s.params

abbrev pub is_roa_table : Option Declared → Bool
is_roa_table (Some (Table t)) = t.is_roa
is_roa_table _ = false

abbrev pub two_or_more : ExprTrees → Bool
two_or_more (exprs_more a (exprs_more b es)) = true
two_or_more _ = false

-- Where names stand for these, in a definition, a filter or a function.
module _ (names : Names) (scope : Scope) where
  -- the type of an expression that fits
  abbrev pub type_of : ExprTree → ValueType
  type_of (literal v) = value_type v
  type_of (named x) = type_or (value_of scope (names x))
  type_of (attribute a) = attribute_type a
  type_of (call x es) = type_or (returned (function_of (names x)))
  type_of (roa_check t e f) = State
  type_of (pair e f) = Pair
  type_of (triple e f g) = Triple
  type_of (set_literal s) = set_type s
  type_of _ = Truth

  abbrev mutual
    -- with so many levels at most
    pub fits : ℕ → ExprTree → Bool
    fits n (literal v) = value_fits n v
    fits n (named x) = is_none (function_of (names x)) && is_some (value_of scope (names x))
    fits n (attribute a) = not (is_define scope)
    fits n (call x es) = not (is_define scope) && is_some (returned (function_of (names x)))
        && deeper n (λ m. arguments_fit m (params_of (function_of (names x))) es)
    fits n (roa_check t e f) =
        not (is_define scope) && is_roa_table (names t) && same_type (type_of e) Prefix
        && same_type (type_of f) Int && deeper n (λ m. fits m e && fits m f)
    fits n (pair e f) =
        not (is_some (literal_number e) && is_some (literal_number f)) && is_small (literal_number e)
        && is_small (literal_number f)
        && same_type (type_of e) Int && same_type (type_of f) Int && deeper n (λ m. fits m e && fits m f)
    fits n (triple e f g) =
        not (is_some (literal_number e) && is_some (literal_number f) && is_some (literal_number g))
        && same_type (type_of e) Int && same_type (type_of f) Int && same_type (type_of g) Int
        && deeper n (λ m. fits m e && fits m f && fits m g)
    fits n (set_literal s) = set_fits n s
    fits n (negation e) = same_type (type_of e) Truth
        && deeper n (λ m. wrapped (is_compound e) m (λ k. fits k e))
    fits n (conjunction es) = two_or_more es && parts_fit n es
    fits n (disjunction es) = two_or_more es && parts_fit n es
    fits n (comparison o e f) =
        takes_left o (type_of e) && takes_right o (type_of e) (type_of f)
        && wrapped (is_compound e) n (λ k. fits k e) && wrapped (is_compound f) n (λ k. fits k f)

    -- arguments of these types
    pub arguments_fit : ℕ → List ValueType → ExprTrees → Bool
    arguments_fit n [] exprs_end = true
    arguments_fit n (t ∷ ts) (exprs_more e es) = same_type (type_of e) t && fits n e && arguments_fit n ts es
    arguments_fit n _ _ = false

    -- parts of a chain
    pub parts_fit : ℕ → ExprTrees → Bool
    parts_fit n exprs_end = true
    parts_fit n (exprs_more e es) =
        same_type (type_of e) Truth && wrapped (is_chain e) n (λ k. fits k e) && parts_fit n es
